-- What a verdict says of the texts of a trace.
use Rattle.std.proofs.Common.{◌≡◌, ◌<◌, ◌≤◌, ℕ, ◌+◌, Bool, true, false, cond, ltb, List, [], ◌∷◌, ◌++◌, length, Option}
use Rattle.std.proofs.Common.{Some, None, Result, Ok, Err, refl, ap, sym, subst, ◌∙◌, append_assoc, arith, inl, inr}
use Rattle.std.proofs.lemmas.List.{append-nil}
use Rattle.std.proofs.lemmas.Bool.{ltb-true, ltb-false}
use Rattle.trace_text.specs.Queue.{TraceLine}
use Rattle.trace_text.specs.Laws.{Formed, KeepsLaws}
use Rattle.trace_reading.specs.Lines.{line_in}
use Rattle.trace_laws.specs.declared.laws.LawFault.{LawFault}
use Rattle.trace_laws.specs.declared.laws.LawFault.TheVariants.{Malformed, Broken}
use Rattle.trace_laws.specs.declared.verdicts.Verdict.{Verdict}
use Rattle.trace_laws.specs.declared.verdicts.Verdict.TheVariants as verdict
use Rattle.trace_laws.specs.declared.verdicts.TheConstants.{TRACE_BYTES}
use Rattle.trace_laws.specs.Watched.{answer_of}
use Rattle.trace_laws.specs.Verdicts.{verdict_at, verdict_with, verdict_from, Reads, bytes_in, Offends, Says}

-- the lines so far, and their texts
pub record Sofar (before : List (List ℕ)) (lines : List TraceLine) : Type 0 where
  pub read : Reads before lines
  pub formed : Formed lines
  pub lawful : KeepsLaws lines
  pub within : bytes_in before ≤ TRACE_BYTES

reads-append : (before : List (List ℕ)) (lines : List TraceLine) (text : List ℕ) (line : TraceLine) → Reads before lines → line_in text ≡ Some line
    → Reads (before ++ text ∷ []) (lines ++ line ∷ [])
reads-append [] [] text line h e = (e, tt)
reads-append [] (first ∷ lines) text line h e = absurd h
reads-append (one ∷ before) [] text line h e = absurd h
reads-append (one ∷ before) (first ∷ lines) text line h e = (h.0, reads-append before lines text line h.1 e)

bytes_in-append : (before : List (List ℕ)) (text : List ℕ) → bytes_in (before ++ text ∷ []) ≡ bytes_in before + length text
bytes_in-append [] text = omega arith
bytes_in-append (one ∷ before) text = omega (arith, bytes_in-append before text)

abbrev offends_here : (before : List (List ℕ)) (text : List ℕ) (behind : List (List ℕ)) (lines : List TraceLine) → Sofar before lines
    → Offends (before ++ text ∷ behind) (length lines + 1)
offends_here before text behind lines sofar = record {
  before = before;
  text = text;
  behind = behind;
  whole = refl;
  lines = lines;
  read = sofar.read;
  formed = sofar.formed;
  lawful = sofar.lawful;
  number_is = refl;
  within = sofar.within;
}

answer_says : (before : List (List ℕ)) (text : List ℕ) (behind : List (List ℕ)) (lines : List TraceLine) (line : TraceLine) (later : List TraceLine → Verdict)
    → Sofar before lines → bytes_in before + length text ≤ TRACE_BYTES → line_in text ≡ Some line
    → (answer : Result (Unit {0}) LawFault) → answer_of (lines ++ line ∷ []) ≡ answer
    → (answer ≡ Ok tt → Says (before ++ text ∷ behind) (later (lines ++ line ∷ [])))
    → Says (before ++ text ∷ behind) (verdict_at (length lines + 1) answer (lines ++ line ∷ []) later)
answer_says before text behind lines line later sofar inside e (Ok u) is on = on refl
answer_says before text behind lines line later sofar inside e (Err Malformed) is on = record {
  offends = offends_here before text behind lines sofar;
  refusable = inr (inr (line, e, is));
}
answer_says before text behind lines line later sofar inside e (Err (Broken law)) is on = record {
  offends = offends_here before text behind lines sofar;
  line = line;
  line_is = e;
  breaks = is;
  inside = inside;
}

line_says : (before : List (List ℕ)) (text : List ℕ) (behind : List (List ℕ)) (lines : List TraceLine) (later : List TraceLine → Verdict) → Sofar before lines
    → bytes_in before + length text ≤ TRACE_BYTES
    → (read : Option TraceLine) → line_in text ≡ read
    → ((line : TraceLine) → line_in text ≡ Some line → answer_of (lines ++ line ∷ []) ≡ Ok tt → Says (before ++ text ∷ behind) (later (lines ++ line ∷ [])))
    → Says (before ++ text ∷ behind) (verdict_with lines read later)
line_says before text behind lines later sofar inside None e on = record { offends = offends_here before text behind lines sofar; refusable = inr (inl e) }
line_says before text behind lines later sofar inside (Some line) e on =
    answer_says before text behind lines line later sofar inside e (answer_of (lines ++ line ∷ [])) refl (λ is. on line e is)

bytes_say : (before : List (List ℕ)) (text : List ℕ) (behind : List (List ℕ)) (lines : List TraceLine) (on : Verdict) → Sofar before lines
    → (beyond : Bool) → (beyond ≡ true → TRACE_BYTES < bytes_in before + length text) → (beyond ≡ false → Says (before ++ text ∷ behind) on)
    → Says (before ++ text ∷ behind) (cond beyond (verdict.Refused (length lines + 1)) on)
bytes_say before text behind lines on sofar true is h = record { offends = offends_here before text behind lines sofar; refusable = inl (is refl) }
bytes_say before text behind lines on sofar false is h = h refl

pub verdict_says : ((lines : List TraceLine) → answer_of lines ≡ Ok tt → Formed lines × KeepsLaws lines)
    → (bytes : ℕ) (before : List (List ℕ)) (lines : List TraceLine) (texts : List (List ℕ)) → bytes ≡ bytes_in before → Sofar before lines
    → Says (before ++ texts) (verdict_from bytes lines texts)
verdict_says tells bytes before lines [] same sofar =
    record {
      lines = lines;
      read = subst (λ texts. Reads texts lines) (sym (append-nil before)) sofar.read;
      counted = refl;
      formed = sofar.formed;
      lawful = sofar.lawful;
      within = subst (λ texts. bytes_in texts ≤ TRACE_BYTES) (sym (append-nil before)) sofar.within;
    }
verdict_says tells bytes before lines (text ∷ texts) same sofar =
    bytes_say before text texts lines (verdict_with lines (line_in text) (λ more. verdict_from (bytes + length text) more texts)) sofar
    (ltb TRACE_BYTES (bytes + length text)) (λ e. subst (λ n. TRACE_BYTES < n + length text) same (ltb-true TRACE_BYTES (bytes + length text) e))
    (λ fits.
    let inside : bytes_in before + length text ≤ TRACE_BYTES = omega (arith, ltb-false TRACE_BYTES (bytes + length text) fits, same) in
    line_says before text texts lines (λ more. verdict_from (bytes + length text) more texts) sofar inside (line_in text) refl
    (λ line e is.
    let longer = tells (lines ++ line ∷ []) is in
    subst (λ all. Says all (verdict_from (bytes + length text) (lines ++ line ∷ []) texts)) (append_assoc before (text ∷ []) texts)
    (verdict_says tells (bytes + length text) (before ++ text ∷ []) (lines ++ line ∷ []) texts
    (ap (λ n. n + length text) same ∙ sym (bytes_in-append before text))
    (record {
      read = reads-append before lines text line sofar.read e;
      formed = longer.0;
      lawful = longer.1;
      within = omega (arith, inside, bytes_in-append before text);
    }))))
