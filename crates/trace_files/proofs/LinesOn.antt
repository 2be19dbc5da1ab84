-- The lines of a formed trace, from its texts.
use Rattle.std.proofs.Common.{◌≡◌, ◌≤◌, ℕ, ◌+◌, Bool, true, false, cond, ltb, List, [], ◌∷◌, ◌++◌, length, Option}
use Rattle.std.proofs.Common.{Some, None, Result, Ok, Err, refl, ap, sym, subst, ◌∙◌, append_assoc, append-nil, arith}
use Rattle.std.proofs.lemmas.Bool.{le-ltb, ltb-false}
use Rattle.trace_text.specs.Queue.{TraceLine}
use Rattle.trace_text.specs.Laws.{Formed, follows_form}
use Rattle.trace_reading.specs.Lines.{line_in}
use Rattle.trace_laws.specs.declared.verdicts.TheConstants.{TRACE_BYTES}
use Rattle.trace_laws.specs.Verdicts.{Reads, bytes_in}
use Rattle.trace_laws.proofs.VerdictsOnly.{front_formed}
use Rattle.trace_files.specs.Reported.{lines_with, lines_from, IsFormedTrace}

-- ---- what is answered is formed

cond_ok : (b : Bool) (number : ℕ) (rest : Result (List TraceLine) ℕ) (lines : List TraceLine) → cond b (Err number) rest ≡ Ok lines
    → (b ≡ false) × (rest ≡ Ok lines)
cond_ok true number rest lines e = cc
cond_ok false number rest lines e = (refl, e)

form_ok : (b : Bool) (number : ℕ) (rest : Result (List TraceLine) ℕ) (lines : List TraceLine) → cond b rest (Err number) ≡ Ok lines
    → (b ≡ true) × (rest ≡ Ok lines)
form_ok true number rest lines e = (refl, e)
form_ok false number rest lines e = cc

with_ok : (sofar : List TraceLine) (read : Option TraceLine) (later : List TraceLine → Result (List TraceLine) ℕ) (lines : List TraceLine)
    → lines_with sofar read later ≡ Ok lines →
    (line : TraceLine) × (read ≡ Some line) × (follows_form (sofar ++ line ∷ []) ≡ true) × (later (sofar ++ line ∷ []) ≡ Ok lines)
with_ok sofar None later lines e = cc
with_ok sofar (Some line) later lines e =
    let h = form_ok (follows_form (sofar ++ line ∷ [])) (length sofar + 1) (later (sofar ++ line ∷ [])) lines e in (line, refl, h.0, h.1)

abbrev lines_in : List TraceLine → Result (List TraceLine) ℕ → List TraceLine
lines_in other (Ok lines) = lines
lines_in other (Err number) = other

abbrev lines_answer : List TraceLine → Result (List TraceLine) ℕ
lines_answer lines = Ok lines

same_lines : (a b : List TraceLine) → lines_answer a ≡ Ok b → a ≡ b
same_lines a b e = ap (lines_in a) e

-- behind so many bytes, which were these lines
record IsOn (n : ℕ) (sofar : List TraceLine) (texts : List (List ℕ)) (lines : List TraceLine) : Type 0 where
  more : List TraceLine
  lines_is : sofar ++ more ≡ lines
  read : Reads texts more
  form : follows_form lines ≡ true
  within : n + bytes_in texts ≤ TRACE_BYTES

on_texts : (n : ℕ) (sofar : List TraceLine) (texts : List (List ℕ)) (lines : List TraceLine) → follows_form sofar ≡ true → n ≤ TRACE_BYTES
    → lines_from n sofar texts ≡ Ok lines → IsOn n sofar texts lines
on_texts n sofar [] lines form fits e =
    let same = same_lines sofar lines e in
    record { more = []; lines_is = append-nil sofar ∙ same; read = tt; form = subst (λ ls. follows_form ls ≡ true) same form; within = omega (arith, fits) }
on_texts n sofar (text ∷ texts) lines form fits e =
    let inside =
    cond_ok (ltb TRACE_BYTES (n + length text)) (length sofar + 1)
    (lines_with sofar (line_in text) (λ more. lines_from (n + length text) more texts)) lines e in
    let taken = with_ok sofar (line_in text) (λ more. lines_from (n + length text) more texts) lines inside.1 in
    let rest = on_texts (n + length text) (sofar ++ taken.0 ∷ []) texts lines taken.2 (ltb-false TRACE_BYTES (n + length text) inside.0) taken.3 in
    record {
      more = taken.0 ∷ rest.more;
      lines_is = sym (append_assoc sofar (taken.0 ∷ []) rest.more) ∙ rest.lines_is;
      read = (taken.1, rest.read);
      form = rest.form;
      within = omega (arith, rest.within);
    }

pub formed_told : ((lines : List TraceLine) → (follows_form lines ≡ true → Formed lines) × (Formed lines → follows_form lines ≡ true))
    → (texts : List (List ℕ)) (lines : List TraceLine) → lines_from 0 [] texts ≡ Ok lines → IsFormedTrace texts lines
formed_told tests texts lines e =
    let h = on_texts 0 [] texts lines refl (omega arith) e in
    record { read = subst (Reads texts) h.lines_is h.read; formed = (tests lines).0 h.form; within = omega (arith, h.within) }

-- ---- and what is formed is answered

from_reads : (n : ℕ) (sofar : List TraceLine) (texts : List (List ℕ)) (lines : List TraceLine) → Reads texts lines → n + bytes_in texts ≤ TRACE_BYTES
    → ((front back : List TraceLine) → lines ≡ front ++ back → follows_form (sofar ++ front) ≡ true) →
    lines_from n sofar texts ≡ Ok (sofar ++ lines)
from_reads n sofar [] [] reads within good = ap Ok (sym (append-nil sofar))
from_reads n sofar [] (line ∷ lines) reads within good = absurd reads
from_reads n sofar (text ∷ texts) [] reads within good = absurd reads
from_reads n sofar (text ∷ texts) (line ∷ lines) reads within good =
    let later = λ (more : List TraceLine). lines_from (n + length text) more texts in
    ap (λ b. cond b (Err (length sofar + 1)) (lines_with sofar (line_in text) later)) (le-ltb TRACE_BYTES (n + length text) (omega (arith, within)))
    ∙ ap (λ read. lines_with sofar read later) reads.0
    ∙ ap (λ b. cond b (later (sofar ++ line ∷ [])) (Err (length sofar + 1))) (good (line ∷ []) lines refl)
    ∙ from_reads (n + length text) (sofar ++ line ∷ []) texts lines reads.1 (omega (arith, within))
    (λ front back is. ap follows_form (append_assoc sofar (line ∷ []) front) ∙ good (line ∷ front) back (ap (λ xs. line ∷ xs) is))
    ∙ ap Ok (append_assoc sofar (line ∷ []) lines)

pub only_told : ((lines : List TraceLine) → (follows_form lines ≡ true → Formed lines) × (Formed lines → follows_form lines ≡ true))
    → (texts : List (List ℕ)) (lines : List TraceLine) → IsFormedTrace texts lines → lines_from 0 [] texts ≡ Ok lines
only_told tests texts lines h =
    from_reads 0 [] texts lines h.read (omega (arith, h.within))
    (λ front back is. front_formed front back (ap follows_form (sym is) ∙ (tests lines).1 h.formed))
