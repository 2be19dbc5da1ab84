-- What is read as a field is short.
use Rattle.std.proofs.Common.{◌≡◌, ℕ, zero, suc, pos, ◌||◌, ◌+◌, ◌<◌, ◌≤◌, ◌^◌, Bool, true, false, ◌&&◌, if◌then◌else◌, ◌==◌, leb}
use Rattle.std.proofs.Common.{List, [], ◌∷◌, length, Option, Some, None, IfSome, codes, refl, ap, sym, ◌∙◌, arith, length-append}
use Rattle.std.specs.List.{list_all}
use Rattle.std.specs.Str.{bytes_eq}
use Rattle.std.specs.Str.Parse.{digits_value}
use Rattle.std.proofs.lemmas.Bool.{and_parts, leb-true}
use Rattle.std.proofs.lemmas.Fmt.{length-decimal-le}
use Rattle.std.proofs.lemmas.List.{take-append-drop}
use Rattle.std.proofs.lemmas.Slice.Eq.{bytes_eq-Decides}
use Rattle.trace_text.specs.declared.events.EntryName.TheVariants.{OfTask, OfObject}
use Rattle.trace_text.specs.declared.events.Finished.TheVariants as finished
use Rattle.trace_text.specs.Text.{is_name_from, is_text_byte}
use Rattle.trace_fields.specs.Spelt.{spelt_in}
use Rattle.trace_fields.specs.Reading.{◌>>=◌, place_of, front_of, rest_of, behind, word_at, field, last_field, ended, is_number}
use Rattle.trace_fields.specs.Reading.{number_in, negative_of, signed_in, short_in, long_in, moment_in, value_in, task_in, object_in}
use Rattle.trace_fields.specs.Reading.{name_in, text_in, exception_in, finished_in, part_in, entry_in, handler_in, deadline_in}
use Rattle.std.specs.Option.{option_or}
use Rattle.trace_fields.proofs.Numbers.{decimal-digits}

-- what is read has at most so many bytes
abbrev pub IsShort : {X : Type 0} → ℕ → (List ℕ → Option X) → Type 0
IsShort n read = (bytes : List ℕ) → IfSome (read bytes) (λ _. length bytes ≤ n)

-- a fact of what two steps read
pub then_some : {X Y : Type 0} (first : Option X) (next : X → Option Y) (P : X → Type 0) (Q : Y → Type 0) → IfSome first P → ((x : X) → P x → IfSome (next x) Q)
    → IfSome (first >>= next) Q
then_some None next P Q h k = tt
then_some (Some x) next P Q h k = k x h

pub if_some : {X : Type 0} (test : Bool) (one other : Option X) (P : X → Type 0) → (test ≡ true → IfSome one P) → IfSome other P
    → IfSome (if test then one else other) P
if_some true one other P h k = h refl
if_some false one other P h k = k

pub or_some : {X : Type 0} (one other : Option X) (P : X → Type 0) → IfSome one P → IfSome other P → IfSome (option_or one other) P
or_some None other P h k = k
or_some (Some x) other P h k = h

pub weaker : {X : Type 0} (read : Option X) (P Q : Type 0) → IfSome read (λ _. P) → (P → Q) → IfSome read (λ _. Q)
weaker None P Q h k = tt
weaker (Some x) P Q h k = k h

-- ---- words

pub behind_some : (mark : ℕ) (bytes : List ℕ) → IfSome (behind mark bytes) (λ rest. length bytes ≡ length rest + 1)
behind_some mark [] = tt
behind_some mark (byte ∷ bytes) = if_some (byte == mark) (Some bytes) None (λ rest. length (byte ∷ bytes) ≡ length rest + 1) (λ e. omega arith) tt

pub split_length : (mark : ℕ) (bytes : List ℕ) → length bytes ≡ length (front_of mark bytes) + length (rest_of mark bytes)
split_length mark bytes = ap length (sym (take-append-drop (place_of mark bytes) bytes)) ∙ length-append (front_of mark bytes) (rest_of mark bytes)

pub word_some : (bytes : List ℕ) → IfSome (word_at bytes) (λ word. length bytes ≡ 1 + length word.0 + length word.1)
word_some bytes =
    then_some (behind 32 bytes) (λ words. Some (front_of 32 words, rest_of 32 words)) (λ words. length bytes ≡ length words + 1)
    (λ word. length bytes ≡ 1 + length word.0 + length word.1)
    (behind_some 32 bytes) (λ words more. omega (arith, more, split_length 32 words))

pub field_some : {X : Type 0} (n : ℕ) (read : List ℕ → Option X) (bytes : List ℕ) → IsShort n read
    → IfSome (field read bytes) (λ f. length bytes ≤ n + 1 + length f.1)
field_some {X} n read bytes short =
    then_some (word_at bytes) (λ word. read word.0 >>= λ value. Some (value, word.1)) (λ word. length bytes ≡ 1 + length word.0 + length word.1)
    (λ f. length bytes ≤ n + 1 + length f.1)
    (word_some bytes) (λ word whole. then_some (read word.0) (λ value. Some (value, word.1)) (λ _. length word.0 ≤ n) (λ f. length bytes ≤ n + 1 + length f.1)
    (short word.0) (λ value some. omega (arith, whole, some)))

pub last_short : {X : Type 0} (n : ℕ) (read : List ℕ → Option X) → IsShort n read → IsShort (n + 1) (last_field read)
last_short n read short bytes =
    then_some (behind 32 bytes) read (λ rest. length bytes ≡ length rest + 1) (λ _. length bytes ≤ n + 1)
    (behind_some 32 bytes) (λ rest more. weaker (read rest) (length rest ≤ n) (length bytes ≤ n + 1) (short rest) (λ some. omega (arith, more, some)))

pub ended_short : IsShort 0 ended
ended_short [] = omega arith
ended_short (byte ∷ bytes) = tt

pub spelt_short : {X : Type 0} (n : ℕ) (text : X → List ℕ) (all : List X) → list_all (λ x. leb (length (text x)) n) all ≡ true → IsShort n (spelt_in text all)
spelt_short n text [] e bytes = tt
spelt_short n text (x ∷ all) e bytes =
    let parts = and_parts (leb (length (text x)) n) (list_all (λ y. leb (length (text y)) n) all) e in
    if_some (bytes_eq (text x) bytes) (Some x) (spelt_in text all bytes) (λ _. length bytes ≤ n)
    (λ same. omega (arith, ap length ((bytes_eq-Decides (text x) bytes).0 same), leb-true (length (text x)) n parts.0)) (spelt_short n text all parts.1 bytes)

-- ---- numbers

pub number_short : (most k : ℕ) → 0 < k → most < 10 ^ k → most < 2 ^ 64 → IsShort k (number_in most)
number_short most k some fits small bytes =
    if_some (is_number bytes && leb (digits_value 10 bytes) most) (Some (digits_value 10 bytes)) None (λ _. length bytes ≤ k)
    (λ e.
    let parts = and_parts (is_number bytes) (leb (digits_value 10 bytes) most) e in
    let value : digits_value 10 bytes ≤ most = leb-true (digits_value 10 bytes) most parts.1 in
    let few = length-decimal-le k (digits_value 10 bytes) some (omega (arith, value, fits)) (omega (arith, value, small)) in
    omega (arith, few, ap length (decimal-digits bytes parts.0 (omega (arith, value, small))))) tt

negative_some : (n byte : ℕ) (bytes : List ℕ) (k : ℕ) → length bytes ≤ k → IfSome (negative_of n) (λ _. length (byte ∷ bytes) ≤ k + 1)
negative_some zero byte bytes k few = tt
negative_some (suc n) byte bytes k few = omega (arith, few)

pub signed_short : (most k : ℕ) → 0 < k → most + 1 < 10 ^ k → most + 1 < 2 ^ 64 → IsShort (k + 1) (signed_in most)
signed_short most k some fits small [] = tt
signed_short most k some fits small (byte ∷ bytes) =
    if_some (byte == 45) (number_in (most + 1) bytes >>= negative_of) (number_in most (byte ∷ bytes) >>= λ n. Some (pos n)) (λ _. length (byte ∷ bytes) ≤ k + 1)
    (λ e. then_some (number_in (most + 1) bytes) negative_of (λ _. length bytes ≤ k) (λ _. length (byte ∷ bytes) ≤ k + 1)
    (number_short (most + 1) k some fits small bytes)
    (λ n few. negative_some n byte bytes k few))
    (then_some (number_in most (byte ∷ bytes)) (λ n. Some (pos n)) (λ _. length (byte ∷ bytes) ≤ k) (λ _. length (byte ∷ bytes) ≤ k + 1)
    (number_short most k some (omega (arith, fits)) (omega (arith, small)) (byte ∷ bytes))
    (λ n few. omega (arith, few)))

pub short_short : IsShort 3 short_in
short_short = number_short 255 3 (omega arith) (omega arith) (omega arith)

pub long_short : IsShort 10 long_in
long_short = number_short 4294967295 10 (omega arith) (omega arith) (omega arith)

pub tick_short : IsShort 20 (number_in 18446744073709551615)
tick_short = number_short 18446744073709551615 20 (omega arith) (omega arith) (omega arith)

pub moment_short : IsShort 20 moment_in
moment_short = signed_short 9223372036854775807 19 (omega arith) (omega arith) (omega arith)

pub value_short : IsShort 11 value_in
value_short = signed_short 2147483647 10 (omega arith) (omega arith) (omega arith)

marked_short : {X : Type 0} (mark : ℕ) (make : ℕ → X) → IsShort 11 (λ bytes. behind mark bytes >>= λ digits. long_in digits >>= λ n. Some (make n))
marked_short mark make bytes =
    then_some (behind mark bytes) (λ digits. long_in digits >>= λ n. Some (make n)) (λ rest. length bytes ≡ length rest + 1) (λ _. length bytes ≤ 11)
    (behind_some mark bytes)
    (λ digits more. then_some (long_in digits) (λ n. Some (make n)) (λ _. length digits ≤ 10) (λ _. length bytes ≤ 11) (long_short digits)
    (λ n few. omega (arith, more, few)))

pub task_short : IsShort 11 task_in
task_short = marked_short 116 (λ n. record { 0 = n })

pub object_short : IsShort 11 object_in
object_short = marked_short 112 (λ n. record { 0 = n })

-- ---- names

pub name_short : IsShort 1000 name_in
name_short bytes =
    if_some (is_name_from false bytes && leb (length bytes) 1000) (Some bytes) None (λ _. length bytes ≤ 1000)
    (λ e. leb-true (length bytes) 1000 (and_parts (is_name_from false bytes) (leb (length bytes) 1000) e).1) tt

pub text_short : IsShort 1000 text_in
text_short bytes =
    if_some (list_all is_text_byte bytes && leb (length bytes) 1000) (Some bytes) None (λ _. length bytes ≤ 1000)
    (λ e. leb-true (length bytes) 1000 (and_parts (list_all is_text_byte bytes) (leb (length bytes) 1000) e).1) tt

pub exception_short : IsShort 1000 exception_in
exception_short bytes =
    if_some (bytes_eq bytes (codes "ok") || bytes_eq bytes (codes "requeue")) None (name_in bytes) (λ _. length bytes ≤ 1000) (λ e. tt) (name_short bytes)

-- a word that is spelt so
pub equal_short : {n : ℕ} (bytes text : List ℕ) → length text ≤ n → bytes_eq bytes text ≡ true → length bytes ≤ n
equal_short bytes text few e = omega (arith, few, ap length ((bytes_eq-Decides bytes text).0 e))

pub finished_short : IsShort 1000 finished_in
finished_short bytes =
    if_some (bytes_eq bytes (codes "ok")) (Some finished.Ok)
    (if bytes_eq bytes (codes "requeue") then Some finished.Requeue else (name_in bytes >>= λ name. Some (finished.Raised name))) (λ _. length bytes ≤ 1000)
    (λ e. equal_short bytes (codes "ok") (omega arith) e)
    (if_some (bytes_eq bytes (codes "requeue")) (Some finished.Requeue) (name_in bytes >>= λ name. Some (finished.Raised name)) (λ _. length bytes ≤ 1000)
    (λ e. equal_short bytes (codes "requeue") (omega arith) e)
    (then_some (name_in bytes) (λ name. Some (finished.Raised name)) (λ _. length bytes ≤ 1000) (λ _. length bytes ≤ 1000) (name_short bytes)
    (λ name few. few)))

part_short : IsShort 1001 part_in
part_short bytes =
    then_some (behind 46 bytes) name_in (λ rest. length bytes ≡ length rest + 1) (λ _. length bytes ≤ 1001) (behind_some 46 bytes)
    (λ rest more. weaker (name_in rest) (length rest ≤ 1000) (length bytes ≤ 1001) (name_short rest) (λ few. omega (arith, more, few)))

pub entry_short : IsShort 1012 entry_in
entry_short bytes =
    then_some (part_in (rest_of 46 bytes))
    (λ name.
    option_or (task_in (front_of 46 bytes) >>= λ task. Some (OfTask task name)) (object_in (front_of 46 bytes) >>= λ object. Some (OfObject object name)))
    (λ _. length (rest_of 46 bytes) ≤ 1001) (λ _. length bytes ≤ 1012) (part_short (rest_of 46 bytes))
    (λ name few. or_some (task_in (front_of 46 bytes) >>= λ task. Some (OfTask task name))
    (object_in (front_of 46 bytes) >>= λ object. Some (OfObject object name)) (λ _. length bytes ≤ 1012)
    (then_some (task_in (front_of 46 bytes)) (λ task. Some (OfTask task name)) (λ _. length (front_of 46 bytes) ≤ 11) (λ _. length bytes ≤ 1012)
    (task_short (front_of 46 bytes)) (λ task front. omega (arith, few, front, split_length 46 bytes)))
    (then_some (object_in (front_of 46 bytes)) (λ object. Some (OfObject object name)) (λ _. length (front_of 46 bytes) ≤ 11) (λ _. length bytes ≤ 1012)
    (object_short (front_of 46 bytes)) (λ object front. omega (arith, few, front, split_length 46 bytes))))

pub handler_short : IsShort 1012 handler_in
handler_short bytes =
    then_some (part_in (rest_of 46 bytes)) (λ name. object_in (front_of 46 bytes) >>= λ object. Some (object, name)) (λ _. length (rest_of 46 bytes) ≤ 1001)
    (λ _. length bytes ≤ 1012) (part_short (rest_of 46 bytes))
    (λ name few. then_some (object_in (front_of 46 bytes)) (λ object. Some (object, name)) (λ _. length (front_of 46 bytes) ≤ 11) (λ _. length bytes ≤ 1012)
    (object_short (front_of 46 bytes)) (λ object front. omega (arith, few, front, split_length 46 bytes)))

pub deadline_short : IsShort 21 deadline_in
deadline_short [] = omega arith
deadline_short (byte ∷ bytes) =
    then_some (last_field moment_in (byte ∷ bytes)) (λ deadline. Some (Some deadline)) (λ _. length (byte ∷ bytes) ≤ 21) (λ _. length (byte ∷ bytes) ≤ 21)
    (last_short 20 moment_in moment_short (byte ∷ bytes)) (λ deadline few. few)
