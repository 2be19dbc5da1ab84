-- How a trace is judged with one text more.
use Rattle.std.proofs.Common.{◌≡◌, ◌<◌, ◌⊎◌, inl, inr, ◌+◌, ℕ, Bool, true, false, cond, ltb, List, [], ◌∷◌, ◌++◌}
use Rattle.std.proofs.Common.{Option, Some, None, Result, Ok, Err, length, refl, ap, sym, ◌∙◌, length-append}
use Rattle.std.proofs.lemmas.Bool.{lt-ltb, le-ltb}
use Rattle.outside_bytes.specs.Files.{ToldFile, Untold, Missing, Holds, WhereTold}
use Rattle.trace_text.specs.declared.events.Event.{Event}
use Rattle.trace_text.specs.Queue.{TraceLine}
use Rattle.trace_text.specs.Laws.{Formed, KeepsLaws}
use Rattle.trace_lines.specs.Seen.{with_line}
use Rattle.trace_reading.specs.Lines.{line_in}
use Rattle.trace_laws.specs.declared.laws.LawFault.{LawFault}
use Rattle.trace_laws.specs.declared.laws.LawFault.TheVariants.{Malformed, Broken}
use Rattle.trace_laws.specs.declared.verdicts.TheConstants.{TRACE_BYTES}
use Rattle.trace_laws.specs.declared.verdicts.Verdict.{Verdict}
use Rattle.trace_laws.specs.declared.verdicts.Verdict.TheVariants as verdict
use Rattle.trace_laws.specs.Watched.{Watched, StandsFor, nothing_watched, answer_of}
use Rattle.trace_laws.specs.Verdicts.{texts_in, verdict_at, verdict_with, verdict_from, laws_answer}
use Rattle.trace_files.specs.declared.texts.TraceFile.{TraceFile}
use Rattle.trace_files.specs.Texts.{IsLeft, nothing_read, HasLine, HasNone}
use Rattle.trace_files.specs.Judged.{Judged, verdict_on}

-- a fact of the file that is told
pub told_map : (file : ToldFile) (F G : List ℕ → Type 0) → ((bytes : List ℕ) → F bytes → G bytes) → WhereTold file F → WhereTold file G
told_map Untold F G f h = tt
told_map Missing F G f h = h
told_map (Holds bytes) F G f h = f bytes h

-- nothing is read
pub judged_first : ((lines : List TraceLine) → answer_of lines ≡ Ok tt → Formed lines × KeepsLaws lines)
    → (file : List ℕ) (laws : Watched) (trace : TraceFile) (left : Option (List ℕ)) → laws ≡ nothing_watched → nothing_read trace → IsLeft trace left file
    → Judged file laws trace left
judged_first tells file laws trace left none first left_is =
    let empty = tells [] refl in
    record {
      rest = file;
      lines = [];
      left_is = left_is;
      answer = ap (λ n. verdict_from n [] (texts_in file)) (sym first.0);
      counted = sym first.1;
      stands = none;
      formed = empty.0;
      lawful = empty.1;
    }

beyond_or_none : (lines : List TraceLine) (read : Option TraceLine) (later : List TraceLine → Verdict) (b : Bool) → (b ≡ true) ⊎ (read ≡ None)
    → cond b (verdict.Refused (length lines + 1)) (verdict_with lines read later) ≡ verdict.Refused (length lines + 1)
beyond_or_none lines read later true why = refl
beyond_or_none lines read later false (inl beyond) = cc
beyond_or_none lines read later false (inr none) = ap (λ r. verdict_with lines r later) none

why_bad : (before : ℕ) (text : List ℕ) → (TRACE_BYTES < before + length text) ⊎ (line_in text ≡ None)
    → (ltb TRACE_BYTES (before + length text) ≡ true) ⊎ (line_in text ≡ None)
why_bad before text (inl more) = inl (lt-ltb TRACE_BYTES (before + length text) more)
why_bad before text (inr none) = inr none

-- the next text is refused
pub judged_refused : (file : List ℕ) (laws : Watched) (trace : TraceFile) (left : Option (List ℕ)) (count : ℕ) → Judged file laws trace left
    → ((rest : List ℕ) → IsLeft trace left rest → HasNone trace.before rest) → count ≡ trace.count → laws_answer file ≡ verdict.Refused (count + 1)
judged_refused file laws trace left count j none same =
    let h = none j.rest j.left_is in
    j.answer ∙ ap (verdict_from trace.before j.lines) h.texts
    ∙ beyond_or_none j.lines (line_in h.text) (λ more. verdict_from (trace.before + length h.text) more h.behind)
    (ltb TRACE_BYTES (trace.before + length h.text)) (why_bad trace.before h.text h.bad)
    ∙ ap (λ n. verdict.Refused (n + 1)) (j.counted ∙ sym same)

-- the next text is a line
at_line : (before : ℕ) (lines : List TraceLine) (text : List ℕ) (texts : List (List ℕ)) (line : TraceLine) (b : Bool) → b ≡ false → line_in text ≡ Some line →
    cond b (verdict.Refused (length lines + 1)) (verdict_with lines (line_in text) (λ more. verdict_from (before + length text) more texts))
    ≡ verdict_at (length lines + 1) (answer_of (lines ++ line ∷ [])) (lines ++ line ∷ []) (λ more. verdict_from (before + length text) more texts)
at_line before lines text texts line true within is = cc
at_line before lines text texts line false within is = ap (λ read. verdict_with lines read (λ more. verdict_from (before + length text) more texts)) is

next_line : (file : List ℕ) (laws : Watched) (trace : TraceFile) (left : Option (List ℕ)) (tick : ℕ) (event : Event) (new : TraceFile) (after : Option (List ℕ))
    (j : Judged file laws trace left) (h : HasLine trace.before j.rest tick event new after)
    →
    laws_answer file
    ≡ verdict_at (length j.lines + 1) (answer_of (with_line j.lines tick event)) (with_line j.lines tick event)
    (λ more. verdict_from new.before more (texts_in h.behind))
next_line file laws trace left tick event new after j h =
    j.answer ∙ ap (verdict_from trace.before j.lines) h.texts
    ∙ at_line trace.before j.lines h.text (texts_in h.behind) (tick, event) (ltb TRACE_BYTES (trace.before + length h.text))
    (le-ltb TRACE_BYTES (trace.before + length h.text) h.within) h.line
    ∙ ap (λ n. verdict_at (length j.lines + 1) (answer_of (with_line j.lines tick event)) (with_line j.lines tick event)
    (λ more. verdict_from n more (texts_in h.behind)))
    (sym h.before_is)

-- the line is at fault
fault_at : (lines : List TraceLine) (later : List TraceLine → Verdict) (number : ℕ) (fault : LawFault) (answer : Result (Unit {0}) LawFault)
    → answer ≡ Err fault → verdict_at number answer lines later ≡ verdict_on fault number
fault_at lines later number Malformed answer is = ap (λ a. verdict_at number a lines later) is
fault_at lines later number (Broken law) answer is = ap (λ a. verdict_at number a lines later) is

pub judged_fault : (file : List ℕ) (laws : Watched) (trace : TraceFile) (left : Option (List ℕ)) (tick : ℕ) (event : Event) (new : TraceFile)
    (after : Option (List ℕ)) (fault : LawFault)
    → Judged file laws trace left
    →
    ((rest : List ℕ) → IsLeft trace left rest → HasLine trace.before rest tick event new after) → new.count ≡ trace.count + 1 →
    ((lines : List TraceLine) → Formed lines → KeepsLaws lines → StandsFor laws lines → answer_of (with_line lines tick event) ≡ Err fault)
    → laws_answer file ≡ verdict_on fault new.count
judged_fault file laws trace left tick event new after fault j goes counted answers =
    let h = goes j.rest j.left_is in
    next_line file laws trace left tick event new after j h
    ∙ fault_at (with_line j.lines tick event) (λ more. verdict_from new.before more (texts_in h.behind)) (length j.lines + 1) fault
    (answer_of (with_line j.lines tick event)) (answers j.lines j.formed j.lawful j.stands)
    ∙ ap (verdict_on fault) (ap (λ n. n + 1) j.counted ∙ sym counted)

-- the line is lawful
pub judged_on : (file : List ℕ) (laws : Watched) (trace : TraceFile) (left : Option (List ℕ)) (tick : ℕ) (event : Event) (new : TraceFile)
    (after : Option (List ℕ)) (more : Watched)
    → Judged file laws trace left
    →
    ((rest : List ℕ) → IsLeft trace left rest → HasLine trace.before rest tick event new after) → new.count ≡ trace.count + 1 →
    ((lines : List TraceLine) → Formed lines → KeepsLaws lines → StandsFor laws lines → answer_of (with_line lines tick event) ≡ Ok tt) →
    ((lines : List TraceLine) → StandsFor laws lines → StandsFor more (with_line lines tick event)) →
    ((lines : List TraceLine) → Formed lines → KeepsLaws lines → StandsFor laws lines
    → Formed (with_line lines tick event) × KeepsLaws (with_line lines tick event))
    → Judged file more new after
judged_on file laws trace left tick event new after more j goes counted answers stands lawful =
    let h = goes j.rest j.left_is in
    let longer = lawful j.lines j.formed j.lawful j.stands in
    record {
      rest = h.behind;
      lines = with_line j.lines tick event;
      left_is = h.left_is;
      answer = next_line file laws trace left tick event new after j h
          ∙ ap (λ a. verdict_at (length j.lines + 1) a (with_line j.lines tick event) (λ more. verdict_from new.before more (texts_in h.behind)))
          (answers j.lines j.formed j.lawful j.stands);
      counted = length-append j.lines ((tick, event) ∷ []) ∙ ap (λ n. n + 1) j.counted ∙ sym counted;
      stands = stands j.lines j.stands;
      formed = longer.0;
      lawful = longer.1;
    }
