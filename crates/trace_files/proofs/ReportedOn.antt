-- How a trace is reported with one text more.
use Rattle.std.proofs.Common.{◌≡◌, ◌<◌, ◌⊎◌, inl, inr, ◌+◌, ℕ, Bool, true, false, cond, ltb, List, [], ◌∷◌, ◌++◌}
use Rattle.std.proofs.Common.{Option, Some, None, Result, Ok, Err, length, refl, ap, sym, ◌∙◌, length-append}
use Rattle.std.proofs.lemmas.Bool.{lt-ltb, le-ltb, false_from_ne_true}
use Rattle.trace_text.specs.declared.events.Event.{Event}
use Rattle.trace_text.specs.Queue.{TraceLine}
use Rattle.trace_text.specs.Laws.{Formed, follows_form}
use Rattle.trace_lines.specs.Seen.{with_line}
use Rattle.trace_reading.specs.Lines.{line_in}
use Rattle.trace_laws.specs.declared.verdicts.TheConstants.{TRACE_BYTES}
use Rattle.trace_laws.specs.Verdicts.{texts_in}
use Rattle.run_report.specs.Kept.{Reported, StandsFor, nothing_reported}
use Rattle.trace_files.specs.declared.texts.TraceFile.{TraceFile}
use Rattle.trace_files.specs.Texts.{IsLeft, nothing_read, HasLine, HasNone}
use Rattle.trace_files.specs.Reported.{lines_with, lines_from, formed_lines, Reporting}

-- nothing is read
pub reporting_first : Formed [] → (file : List ℕ) (report : Reported) (trace : TraceFile) (left : Option (List ℕ)) → report ≡ nothing_reported
    → nothing_read trace → IsLeft trace left file → Reporting file report trace left
reporting_first empty file report trace left none first left_is =
    record {
      rest = file;
      lines = [];
      left_is = left_is;
      answer = ap (λ n. lines_from n [] (texts_in file)) (sym first.0);
      counted = sym first.1;
      stands = none;
      formed = empty;
    }

-- nothing is left
pub reported_whole : (file : List ℕ) (report : Reported) (trace : TraceFile) (left : Option (List ℕ)) → Reporting file report trace left
    → ((rest : List ℕ) → IsLeft trace left rest → texts_in rest ≡ [])
    → (lines : List TraceLine) × (formed_lines file ≡ Ok lines) × Formed lines × StandsFor report lines
reported_whole file report trace left j none = (j.lines, j.answer ∙ ap (lines_from trace.before j.lines) (none j.rest j.left_is), j.formed, j.stands)

beyond_or_none : (lines : List TraceLine) (read : Option TraceLine) (later : List TraceLine → Result (List TraceLine) ℕ) (b : Bool) → (b ≡ true) ⊎ (read ≡ None)
    → cond b (Err (length lines + 1)) (lines_with lines read later) ≡ Err (length lines + 1)
beyond_or_none lines read later true why = refl
beyond_or_none lines read later false (inl beyond) = cc
beyond_or_none lines read later false (inr none) = ap (λ r. lines_with lines r later) none

why_bad : (before : ℕ) (text : List ℕ) → (TRACE_BYTES < before + length text) ⊎ (line_in text ≡ None)
    → (ltb TRACE_BYTES (before + length text) ≡ true) ⊎ (line_in text ≡ None)
why_bad before text (inl more) = inl (lt-ltb TRACE_BYTES (before + length text) more)
why_bad before text (inr none) = inr none

-- the next text is refused
pub reported_refused : (file : List ℕ) (report : Reported) (trace : TraceFile) (left : Option (List ℕ)) (count : ℕ) → Reporting file report trace left
    → ((rest : List ℕ) → IsLeft trace left rest → HasNone trace.before rest) → count ≡ trace.count → formed_lines file ≡ Err (count + 1)
reported_refused file report trace left count j none same =
    let h = none j.rest j.left_is in
    j.answer ∙ ap (lines_from trace.before j.lines) h.texts
    ∙ beyond_or_none j.lines (line_in h.text) (λ more. lines_from (trace.before + length h.text) more h.behind) (ltb TRACE_BYTES (trace.before + length h.text))
    (why_bad trace.before h.text h.bad)
    ∙ ap (λ n. Err (n + 1)) (j.counted ∙ sym same)

-- the next text is a line
at_line : (before : ℕ) (lines : List TraceLine) (text : List ℕ) (texts : List (List ℕ)) (line : TraceLine) (b : Bool) → b ≡ false → line_in text ≡ Some line →
    cond b (Err (length lines + 1)) (lines_with lines (line_in text) (λ more. lines_from (before + length text) more texts))
    ≡ cond (follows_form (lines ++ line ∷ [])) (lines_from (before + length text) (lines ++ line ∷ []) texts) (Err (length lines + 1))
at_line before lines text texts line true within is = cc
at_line before lines text texts line false within is = ap (λ read. lines_with lines read (λ more. lines_from (before + length text) more texts)) is

next_line : (file : List ℕ) (report : Reported) (trace : TraceFile) (left : Option (List ℕ)) (tick : ℕ) (event : Event) (new : TraceFile)
    (after : Option (List ℕ)) (j : Reporting file report trace left) (h : HasLine trace.before j.rest tick event new after)
    →
    formed_lines file
    ≡ cond (follows_form (with_line j.lines tick event)) (lines_from new.before (with_line j.lines tick event) (texts_in h.behind))
    (Err (length j.lines + 1))
next_line file report trace left tick event new after j h =
    j.answer ∙ ap (lines_from trace.before j.lines) h.texts
    ∙ at_line trace.before j.lines h.text (texts_in h.behind) (tick, event) (ltb TRACE_BYTES (trace.before + length h.text))
    (le-ltb TRACE_BYTES (trace.before + length h.text) h.within) h.line
    ∙ ap (λ n. cond (follows_form (with_line j.lines tick event)) (lines_from n (with_line j.lines tick event) (texts_in h.behind)) (Err (length j.lines + 1)))
    (sym h.before_is)

-- the lines do not stay formed
pub reported_fault : (tests : (lines : List TraceLine) → (follows_form lines ≡ true → Formed lines) × (Formed lines → follows_form lines ≡ true))
    (file : List ℕ) (report : Reported) (trace : TraceFile) (left : Option (List ℕ)) (tick : ℕ) (event : Event) (new : TraceFile) (after : Option (List ℕ))
    → Reporting file report trace left
    →
    ((rest : List ℕ) → IsLeft trace left rest → HasLine trace.before rest tick event new after) → new.count ≡ trace.count + 1 →
    ((lines : List TraceLine) → Formed lines → StandsFor report lines → Formed (with_line lines tick event) → ⊥) → formed_lines file ≡ Err new.count
reported_fault tests file report trace left tick event new after j goes counted malformed =
    let h = goes j.rest j.left_is in
    let longer = with_line j.lines tick event in
    let not_formed : follows_form longer ≡ false = false_from_ne_true (follows_form longer) (λ e. malformed j.lines j.formed j.stands ((tests longer).0 e)) in
    next_line file report trace left tick event new after j h
    ∙ ap (λ b. cond b (lines_from new.before longer (texts_in h.behind)) (Err (length j.lines + 1))) not_formed
    ∙ ap (λ n. Err n) (ap (λ n. n + 1) j.counted ∙ sym counted)

never : (b : Bool) → b ≡ true → b ≡ false → ⊥
never b t f = cc

formed_by : (lines : List TraceLine) (b : Bool) → follows_form lines ≡ b
    → (follows_form lines ≡ true → Formed lines) × (Formed lines → follows_form lines ≡ true) → ((Formed lines → ⊥) → ⊥) → follows_form lines ≡ true
formed_by lines true e tests h = e
formed_by lines false e tests h = absurd (h (λ formed. never (follows_form lines) (tests.1 formed) e))

-- they stay formed
pub reporting_on : (tests : (lines : List TraceLine) → (follows_form lines ≡ true → Formed lines) × (Formed lines → follows_form lines ≡ true)) (file : List ℕ)
    (report : Reported) (trace : TraceFile) (left : Option (List ℕ)) (tick : ℕ) (event : Event) (new : TraceFile) (after : Option (List ℕ)) (more : Reported)
    → Reporting file report trace left
    →
    ((rest : List ℕ) → IsLeft trace left rest → HasLine trace.before rest tick event new after) → new.count ≡ trace.count + 1 →
    ((lines : List TraceLine) → Formed lines → StandsFor report lines → (Formed (with_line lines tick event) → ⊥) → ⊥) →
    ((lines : List TraceLine) → StandsFor report lines → StandsFor more (with_line lines tick event)) → Reporting file more new after
reporting_on tests file report trace left tick event new after more j goes counted formed stands =
    let h = goes j.rest j.left_is in
    let longer = with_line j.lines tick event in
    let follows : follows_form longer ≡ true = formed_by longer (follows_form longer) refl (tests longer) (formed j.lines j.formed j.stands) in
    record {
      rest = h.behind;
      lines = longer;
      left_is = h.left_is;
      answer =
          next_line file report trace left tick event new after j h
          ∙ ap (λ b. cond b (lines_from new.before longer (texts_in h.behind)) (Err (length j.lines + 1))) follows;
      counted = length-append j.lines ((tick, event) ∷ []) ∙ ap (λ n. n + 1) j.counted ∙ sym counted;
      stands = stands j.lines j.stands;
      formed = (tests longer).0 follows;
    }
