-- How the fields of a line are read: a word is what stands up to the next space, and each field is read from its word.
use Rattle.std.specs.Prelude.{◌≡◌, ℕ, ◌+◌, ℤ, pos, negsuc, zero, suc, Bool, false, not, ◌&&◌}
use Rattle.std.specs.Prelude.{◌||◌, ◌==◌, if◌then◌else◌, nat_le, List, [], ◌∷◌, Option, Some}
use Rattle.std.specs.Prelude.{None, length, take, drop, slice_index, codes, option_and_then}
use Rattle.std.specs.Option.{option_or}
use Rattle.std.specs.List.{list_all}
use Rattle.std.specs.Char.{is_ascii_digit}
use Rattle.std.specs.Str.{bytes_eq}
use Rattle.std.specs.Str.Parse.{digits_value}
use Rattle.ann_base.specs.declared.identities.TaskNo.{TaskNo}
use Rattle.ann_base.specs.declared.identities.ObjectNo.{ObjectNo}
use Rattle.ann_base.specs.declared.names.TheConstants.{NAME_BYTES}
use Rattle.trace_text.specs.declared.events.EntryName.{EntryName}
use Rattle.trace_text.specs.declared.events.EntryName.TheVariants.{OfTask, OfObject}
use Rattle.trace_text.specs.declared.events.Finished.{Finished}
use Rattle.trace_text.specs.declared.events.Finished.TheVariants as finished
use Rattle.trace_text.specs.Text.{is_name_from, is_text_byte}

-- the library's word, which takes the function first
infixl 10 ◌>>=◌
abbrev pub ◌>>=◌ : {A B : Type 0} → Option A → (A → Option B) → Option B
o >>= f = option_and_then f o

-- what a function returned, seen by `view`, is what was read
abbrev pub ReadsAs : {X R : Type 0} → (X → R) → Option X → Option R → Type 0
ReadsAs view None read = read ≡ None
ReadsAs view (Some x) read = read ≡ Some (view x)

-- the first place of a byte, or the length where there is none
abbrev pub place_of : ℕ → List ℕ → ℕ
place_of mark [] = 0
place_of mark (byte ∷ bytes) = if byte == mark then 0 else suc (place_of mark bytes)

-- the bytes before the first such byte, and those from it on
abbrev pub front_of : ℕ → List ℕ → List ℕ
front_of mark bytes = take (place_of mark bytes) bytes

abbrev pub rest_of : ℕ → List ℕ → List ℕ
rest_of mark bytes = drop (place_of mark bytes) bytes

-- the bytes behind such a byte
abbrev pub behind : ℕ → List ℕ → Option (List ℕ)
behind mark [] = None
behind mark (byte ∷ bytes) = if byte == mark then Some bytes else None

-- a word behind a space, and what follows it
abbrev pub word_at : List ℕ → Option (List ℕ × List ℕ)
word_at bytes = behind 32 bytes >>= λ words. Some (front_of 32 words, rest_of 32 words)

-- a field that is read from such a word
abbrev pub field : {X : Type 0} → (List ℕ → Option X) → List ℕ → Option (X × List ℕ)
field read bytes = word_at bytes >>= λ word. read word.0 >>= λ value. Some (value, word.1)

-- the last field, read from all that stands behind a space
abbrev pub last_field : {X : Type 0} → (List ℕ → Option X) → List ℕ → Option X
last_field read bytes = behind 32 bytes >>= read

-- nothing follows
abbrev pub ended : List ℕ → Option (Unit {0})
ended [] = Some tt
ended (byte ∷ bytes) = None

-- digits without a leading zero
abbrev pub is_number : List ℕ → Bool
is_number bytes = list_all is_ascii_digit bytes && not (length bytes == 0)
    && (not (slice_index bytes 0 == 48) || length bytes == 1)

-- a number of at most `most`
abbrev pub number_in : ℕ → List ℕ → Option ℕ
number_in most bytes = if is_number bytes && nat_le (digits_value 10 bytes) most then Some (digits_value 10 bytes)
    else None

abbrev pub negative_of : ℕ → Option ℤ
negative_of zero = None
negative_of (suc n) = Some (negsuc n)

-- a number of at most `most`, or of at least its negative less one
abbrev pub signed_in : ℕ → List ℕ → Option ℤ
signed_in most [] = None
signed_in most (byte ∷ bytes) = if byte == 45 then (number_in (most + 1) bytes >>= negative_of)
    else (number_in most (byte ∷ bytes) >>= λ n. Some (pos n))

abbrev pub short_in : List ℕ → Option ℕ
short_in = number_in 255

abbrev pub long_in : List ℕ → Option ℕ
long_in = number_in 4294967295

abbrev pub moment_in : List ℕ → Option ℤ
moment_in = signed_in 9223372036854775807

abbrev pub value_in : List ℕ → Option ℤ
value_in = signed_in 2147483647

abbrev pub task_in : List ℕ → Option TaskNo
task_in bytes = behind 116 bytes >>= λ digits. long_in digits >>= λ n. Some (record { 0 = n })

abbrev pub object_in : List ℕ → Option ObjectNo
object_in bytes = behind 112 bytes >>= λ digits. long_in digits >>= λ n. Some (record { 0 = n })

abbrev pub name_in : List ℕ → Option (List ℕ)
name_in bytes = if is_name_from false bytes && nat_le (length bytes) NAME_BYTES then Some bytes else None

abbrev pub text_in : List ℕ → Option (List ℕ)
text_in bytes = if list_all is_text_byte bytes && nat_le (length bytes) NAME_BYTES then Some bytes else None

-- neither of the two other ends of a call
abbrev pub exception_in : List ℕ → Option (List ℕ)
exception_in bytes = if bytes_eq bytes (codes "ok") || bytes_eq bytes (codes "requeue") then None else name_in bytes

abbrev pub finished_in : List ℕ → Option Finished
finished_in bytes =
    if bytes_eq bytes (codes "ok") then Some finished.Ok
    else (if bytes_eq bytes (codes "requeue") then Some finished.Requeue
    else (name_in bytes >>= λ name. Some (finished.Raised name)))

-- the name behind a point
abbrev pub part_in : List ℕ → Option (List ℕ)
part_in bytes = behind 46 bytes >>= name_in

abbrev pub entry_in : List ℕ → Option EntryName
entry_in bytes = part_in (rest_of 46 bytes) >>= λ name.
    option_or (task_in (front_of 46 bytes) >>= λ task. Some (OfTask task name)) (object_in (front_of 46 bytes)
    >>= λ object. Some (OfObject object name))

-- pN.NAME
abbrev pub handler_in : List ℕ → Option (ObjectNo × List ℕ)
handler_in bytes = part_in (rest_of 46 bytes) >>= λ name. object_in (front_of 46 bytes)
    >>= λ object. Some (object, name)

abbrev pub deadline_in : List ℕ → Option (Option ℤ)
deadline_in [] = Some None
deadline_in (byte ∷ bytes) = last_field moment_in (byte ∷ bytes) >>= λ deadline. Some (Some deadline)
