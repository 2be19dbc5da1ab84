-- What is written of a field is read as this field.
use Rattle.std.proofs.Common.{◌≡◌, ℕ, ◌+◌, ◌<◌, ◌≤◌, ◌^◌, Bool, true, false, cond, not, ◌||◌, eqb, leb, List, [], ◌∷◌, ◌++◌, length, get_or}
use Rattle.std.proofs.Common.{Option, Some, None, decimal, codes, refl, ap, sym, subst, arith, FitsSigned, w32, w64, pos, negsuc, suc, zero, ℤ}
use Rattle.std.specs.List.{list_all}
use Rattle.std.specs.Fmt.{signed_decimal}
use Rattle.std.proofs.lemmas.List.{append-nil}
use Rattle.std.proofs.Math.Seq.{take-append_seam, drop-append_seam}
use Rattle.std.proofs.lemmas.Fmt.{digits_decimal, digits_value-decimal, decimal_nonempty, first_decimal, decimal_digit}
use Rattle.std.specs.Str.{bytes_eq}
use Rattle.std.proofs.lemmas.Slice.Eq.{bytes_eq-Decides}
use Rattle.std.proofs.lemmas.Bool.{ne_eqb, le-leb, false_from_ne_true}
use Rattle.std.proofs.lemmas.Bool.Decides.{nat_tests}
use Rattle.std.specs.Int.Signed.{mag}
use Rattle.ann_base.specs.declared.identities.TaskNo.{TaskNo}
use Rattle.ann_base.specs.declared.identities.ObjectNo.{ObjectNo}
use Rattle.trace_text.specs.declared.events.EntryName.{EntryName}
use Rattle.trace_text.specs.declared.events.EntryName.TheVariants.{OfTask, OfObject}
use Rattle.trace_text.specs.declared.events.Finished.{Finished}
use Rattle.trace_text.specs.declared.events.Finished.TheVariants as finished
use Rattle.trace_text.specs.Text.{IsName, IsExceptionName, IsPutText, IsEntryPrintable, IsEntryWithin, IsFinishedPrintable, IsFinishedWithin}
use Rattle.trace_text.specs.Text.{IsDeadlineWithin, is_name_from, task_text, object_text, entry_text, finished_text, deadline_words, spaced}
use Rattle.trace_fields.specs.Reading.{◌>>=◌, place_of, front_of, rest_of, field, last_field, is_number, number_in, signed_in, short_in, long_in, moment_in}
use Rattle.trace_fields.specs.Reading.{value_in, task_in, object_in, name_in, text_in, exception_in, finished_in, entry_in, handler_in, deadline_in}
use Rattle.std.specs.Option.{option_or}
use Rattle.std.specs.Char.{is_ascii_digit}
use Rattle.trace_fields.proofs.Numbers.{numerals}

-- no such byte
abbrev pub has_no : ℕ → List ℕ → Bool
has_no mark [] = true
has_no mark (byte ∷ bytes) = cond (eqb byte mark) false (has_no mark bytes)

-- nothing, or such a byte first
abbrev pub begins : ℕ → List ℕ → Bool
begins mark [] = true
begins mark (byte ∷ bytes) = eqb byte mark

pub place_of-append : (mark : ℕ) (word rest : List ℕ) → has_no mark word ≡ true → begins mark rest ≡ true → place_of mark (word ++ rest) ≡ length word
place_of-append mark [] [] h b = refl
place_of-append mark [] (byte ∷ rest) h b = rw b refl
place_of-append mark (byte ∷ word) rest h b =
    elim (eqb byte mark) as (λ t. cond t false (has_no mark word) ≡ true → cond t 0 (suc (place_of mark (word ++ rest))) ≡ suc (length word))
    [ true ↦ λ e. cc | false ↦ λ e. ap (λ n. suc n) (place_of-append mark word rest e b) ] h

pub has_no-append : (mark : ℕ) (a b : List ℕ) → has_no mark a ≡ true → has_no mark b ≡ true → has_no mark (a ++ b) ≡ true
has_no-append mark [] b h k = k
has_no-append mark (byte ∷ a) b h k =
    elim (eqb byte mark) as (λ t. cond t false (has_no mark a) ≡ true → cond t false (has_no mark (a ++ b)) ≡ true)
    [ true ↦ λ e. e | false ↦ λ e. has_no-append mark a b e k ] h

pub front_again : (mark : ℕ) (word rest : List ℕ) → has_no mark word ≡ true → begins mark rest ≡ true → front_of mark (word ++ rest) ≡ word
front_again mark word rest h b = rw (place_of-append mark word rest h b) (take-append_seam word rest)

pub rest_again : (mark : ℕ) (word rest : List ℕ) → has_no mark word ≡ true → begins mark rest ≡ true → rest_of mark (word ++ rest) ≡ rest
rest_again mark word rest h b = rw (place_of-append mark word rest h b) (drop-append_seam word rest)

pub field_again : {X : Type 0} (read : List ℕ → Option X) (word rest : List ℕ) (x : X) → has_no 32 word ≡ true → begins 32 rest ≡ true → read word ≡ Some x
    → field read (32 ∷ (word ++ rest)) ≡ Some (x, rest)
field_again read word rest x h b e = rw (front_again 32 word rest h b, rest_again 32 word rest h b, e) refl

pub last_again : {X : Type 0} (read : List ℕ → Option X) (word : List ℕ) (x : X) → read word ≡ Some x → last_field read (32 ∷ (word ++ [])) ≡ Some x
last_again read word x e = rw (append-nil word) e

-- numbers
pub digits_none : (mark : ℕ) (ds : List ℕ) → mark < 48 → list_all is_ascii_digit ds ≡ true → has_no mark ds ≡ true
digits_none mark [] small e = refl
digits_none mark (d ∷ ds) small e = grind (arith, nat_tests, digits_none mark ds small)

pub decimal_none : (mark n : ℕ) → mark < 48 → n < 2 ^ 64 → has_no mark (decimal n) ≡ true
decimal_none mark n small fits = digits_none mark (decimal n) small (digits_decimal numerals n fits)

decimal_plain : (n : ℕ) → n < 2 ^ 64 → (not (eqb (get_or (decimal n) 0 0) 48) || eqb (length (decimal n)) 1) ≡ true
decimal_plain zero fits = rw (decimal_digit 0 (omega arith)) refl
decimal_plain (suc n) fits = let first : 48 < get_or (decimal (suc n)) 0 0 = first_decimal (suc n) (omega arith) fits in grind (arith, nat_tests)

pub is_number-decimal : (n : ℕ) → n < 2 ^ 64 → is_number (decimal n) ≡ true
is_number-decimal n fits =
    let some : eqb (length (decimal n)) 0 ≡ false = ne_eqb (length (decimal n)) 0 (omega (arith, decimal_nonempty n fits)) in
    rw (digits_decimal numerals n fits, some, decimal_plain n fits) refl

pub number_again : (most n : ℕ) → n ≤ most → n < 2 ^ 64 → number_in most (decimal n) ≡ Some n
number_again most n small fits =
    let below : leb n most ≡ true = le-leb n most small in
    rw (is_number-decimal n fits, digits_value-decimal numerals n fits, below) refl

pub short_again : (n : ℕ) → n < 2 ^ 8 → short_in (decimal n) ≡ Some n
short_again n h = number_again 255 n (omega arith) (omega arith)

pub long_again : (n : ℕ) → n < 2 ^ 32 → long_in (decimal n) ≡ Some n
long_again n h = number_again 4294967295 n (omega arith) (omega arith)

-- a positive number has no sign in front
plain_again : (most n : ℕ) (bytes : List ℕ) → bytes ≡ decimal n → n ≤ most → n < 2 ^ 64 → signed_in most bytes ≡ Some (pos n)
plain_again most n [] e small fits = absurd (omega (arith, ap length e, decimal_nonempty n fits))
plain_again most n (byte ∷ bytes) e small fits =
    let none : has_no 45 (byte ∷ bytes) ≡ true = subst (λ text. has_no 45 text ≡ true) (sym e) (decimal_none 45 n (omega arith) fits) in
    let first : eqb byte 45 ≡ false =
    elim (eqb byte 45) as (λ t. cond t false (has_no 45 bytes) ≡ true → t ≡ false) [ true ↦ λ h. cc | false ↦ λ h. refl ] none in
    let number : number_in most (byte ∷ bytes) ≡ Some n = subst (λ text. number_in most text ≡ Some n) (sym e) (number_again most n small fits) in
    rw (first, number) refl

pub signed_again : (most : ℕ) (z : ℤ) → mag z ≤ most → most < 2 ^ 63 → signed_in most (signed_decimal z) ≡ Some z
signed_again most (pos n) small fits = plain_again most n (decimal n) refl small (omega arith)
signed_again most (negsuc n) small fits = rw (number_again (most + 1) (suc n) (omega arith) (omega arith)) refl

pub moment_again : (z : ℤ) → FitsSigned w64 z → moment_in (signed_decimal z) ≡ Some z
moment_again z h = signed_again 9223372036854775807 z (omega (arith, h.sfits)) (omega arith)

pub value_again : (z : ℤ) → FitsSigned w32 z → value_in (signed_decimal z) ≡ Some z
value_again z h = signed_again 2147483647 z (omega (arith, h.sfits)) (omega arith)

-- tasks and objects
pub task_again : (task : TaskNo) → task.0 < 2 ^ 32 → task_in (task_text task) ≡ Some task
task_again task h = rw (long_again task.0 h) refl

pub object_again : (object : ObjectNo) → object.0 < 2 ^ 32 → object_in (object_text object) ≡ Some object
object_again object h = rw (long_again object.0 h) refl

pub task_none : (mark : ℕ) (task : TaskNo) → mark < 48 → task.0 < 2 ^ 32 → has_no mark (task_text task) ≡ true
task_none mark task small h =
    let other : eqb 116 mark ≡ false = ne_eqb 116 mark (omega arith) in
    rw (other, decimal_none mark task.0 small (omega arith)) refl

pub object_none : (mark : ℕ) (object : ObjectNo) → mark < 48 → object.0 < 2 ^ 32 → has_no mark (object_text object) ≡ true
object_none mark object small h =
    let other : eqb 112 mark ≡ false = ne_eqb 112 mark (omega arith) in
    rw (other, decimal_none mark object.0 small (omega arith)) refl

-- names
pub name_again : (name : List ℕ) → IsName name → length name ≤ 1000 → name_in name ≡ Some name
name_again name h small = let short : leb (length name) 1000 ≡ true = le-leb (length name) 1000 small in rw (h, short) refl

pub text_again : (text : List ℕ) → IsPutText text → text_in text ≡ Some text
text_again text h = let short : leb (length text) 1000 ≡ true = le-leb (length text) 1000 h.short in rw (h.bytes, short) refl

pub exception_again : (name : List ℕ) → IsExceptionName name → length name ≤ 1000 → exception_in name ≡ Some name
exception_again name h small =
    let ok : bytes_eq name (codes "ok") ≡ false = false_from_ne_true _ (λ e. h.not_ok ((bytes_eq-Decides name (codes "ok")).0 e)) in
    let requeue : bytes_eq name (codes "requeue") ≡ false = false_from_ne_true _ (λ e. h.not_requeue ((bytes_eq-Decides name (codes "requeue")).0 e)) in
    rw (ok, requeue) (name_again name h.name_is small)

pub finished_again : (how : Finished) → IsFinishedWithin how → IsFinishedPrintable how → finished_in (finished_text how) ≡ Some how
finished_again finished.Ok w p = refl
finished_again finished.Requeue w p = refl
finished_again (finished.Raised name) w p =
    let ok : bytes_eq name (codes "ok") ≡ false = false_from_ne_true _ (λ e. p.not_ok ((bytes_eq-Decides name (codes "ok")).0 e)) in
    let requeue : bytes_eq name (codes "requeue") ≡ false = false_from_ne_true _ (λ e. p.not_requeue ((bytes_eq-Decides name (codes "requeue")).0 e)) in
    rw (ok, requeue, name_again name p.name_is w) refl

pub name_none : (begun : Bool) (name : List ℕ) → is_name_from begun name ≡ true → has_no 32 name ≡ true
name_none begun [] h = refl
name_none begun (byte ∷ name) h = grind (arith, nat_tests, name_none true name, name_none false name)

entry_owned : (owner name : List ℕ) (entry : EntryName) → has_no 46 owner ≡ true → name_in name ≡ Some name
    → option_or (task_in owner >>= λ task. Some (OfTask task name)) (object_in owner >>= λ object. Some (OfObject object name)) ≡ Some entry
    → entry_in (owner ++ 46 ∷ name) ≡ Some entry
entry_owned owner name entry none h e = rw (rest_again 46 owner (46 ∷ name) none refl, front_again 46 owner (46 ∷ name) none refl, h) e

pub entry_again : (entry : EntryName) → IsEntryWithin entry → IsEntryPrintable entry → entry_in (entry_text entry) ≡ Some entry
entry_again (OfTask task name) w p =
    entry_owned (task_text task) name (OfTask task name) (task_none 46 task (omega arith) w.0) (name_again name p w.1) (rw (long_again task.0 w.0) refl)
entry_again (OfObject object name) w p =
    entry_owned (object_text object) name (OfObject object name) (object_none 46 object (omega arith) w.0) (name_again name p w.1)
    (rw (long_again object.0 w.0) refl)

handler_owned : (owner name : List ℕ) (object : ObjectNo) → has_no 46 owner ≡ true → name_in name ≡ Some name → object_in owner ≡ Some object
    → handler_in (owner ++ 46 ∷ name) ≡ Some (object, name)
handler_owned owner name object none h e = rw (rest_again 46 owner (46 ∷ name) none refl, front_again 46 owner (46 ∷ name) none refl, h, e) refl

pub handler_again : (object : ObjectNo) (name : List ℕ) → object.0 < 2 ^ 32 → length name ≤ 1000 → IsName name
    → handler_in (object_text object ++ 46 ∷ name) ≡ Some (object, name)
handler_again object name fits small h =
    handler_owned (object_text object) name object (object_none 46 object (omega arith) fits) (name_again name h small) (object_again object fits)

pub entry_none : (entry : EntryName) → IsEntryWithin entry → IsEntryPrintable entry → has_no 32 (entry_text entry) ≡ true
entry_none (OfTask task name) w p = has_no-append 32 (task_text task) (46 ∷ name) (task_none 32 task (omega arith) w.0) (name_none false name p)
entry_none (OfObject object name) w p = has_no-append 32 (object_text object) (46 ∷ name) (object_none 32 object (omega arith) w.0) (name_none false name p)

pub deadline_again : (deadline : Option ℤ) → IsDeadlineWithin deadline → deadline_in (spaced (deadline_words deadline)) ≡ Some deadline
deadline_again None w = refl
deadline_again (Some z) w = rw (last_again moment_in (signed_decimal z) z (moment_again z w)) refl

pub deadline_begins : (deadline : Option ℤ) → begins 32 (spaced (deadline_words deadline)) ≡ true
deadline_begins None = refl
deadline_begins (Some z) = refl
