-- What is answered of a trace.
use Rattle.std.specs.Prelude.{ℕ, Bool, true, false, if◌then◌else◌, List, [], ◌∷◌, ◌++◌, Result, Ok, Err, codes, decimal}
use Rattle.trace_text.specs.Queue.{TraceLine}
use Rattle.run_report.specs.Texts.{report_text, text_in}
use Rattle.trace_files.specs.declared.reporting.FileReport.{FileReport}
use Rattle.trace_files.specs.declared.reporting.FileReport.TheVariants as reported
use Rattle.trace_files.specs.Reported.{formed_lines}
use Rattle.trace_laws.specs.declared.laws.Law.{Law}
use Rattle.trace_laws.specs.declared.laws.Law.TheVariants as law
use Rattle.trace_laws.specs.declared.verdicts.Verdict.{Verdict}
use Rattle.trace_laws.specs.declared.verdicts.Verdict.TheVariants as verdict
use Rattle.trace_laws.specs.Verdicts.{laws_answer}
use Rattle.commands.specs.declared.requests.TraceWork.{TraceWork}
use Rattle.commands.specs.declared.requests.TraceWork.TheVariants as work

abbrev pub law_word : Law → List ℕ
law_word law.Dispatch = codes "dispatch"
law_word law.Ceiling = codes "ceiling"
law_word law.Exclusive = codes "exclusive"
law_word law.Handlers = codes "handlers"
law_word law.Left = codes "left"

-- The text that is written, and whether a law is broken; or the line that is refused: `lawful LINES`, `broken LINE
-- LAW`.
abbrev pub verdict_answer : Verdict → Result (List ℕ × Bool) ℕ
verdict_answer (verdict.Lawful count) = Ok (codes "lawful " ++ (decimal count ++ 10 ∷ []), false)
verdict_answer (verdict.Broken line law) =
    Ok (codes "broken " ++ (decimal line ++ 32 ∷ (law_word law ++ 10 ∷ [])), true)
verdict_answer (verdict.Refused line) = Err line

-- the same of the lines of a trace, or of its first line that is refused
abbrev pub report_answer : Result (List TraceLine) ℕ → Result (List ℕ × Bool) ℕ
report_answer (Ok lines) = Ok (report_text lines, false)
report_answer (Err line) = Err line

-- the same of what is kept of a trace in a file
abbrev pub file_answer : FileReport → Result (List ℕ × Bool) ℕ
file_answer (reported.Formed report) = Ok (text_in report, false)
file_answer (reported.Refused line) = Err line

-- the same of the bytes of a trace
abbrev pub trace_answer : TraceWork → List ℕ → Result (List ℕ × Bool) ℕ
trace_answer work.Laws bytes = verdict_answer (laws_answer bytes)
trace_answer work.Report bytes = report_answer (formed_lines bytes)

abbrev pub traced_status : Bool → ℕ
traced_status broken = if broken then 10 else 0

-- `trace refused LINE` and a line feed
abbrev pub trace_note : ℕ → List ℕ
trace_note line = codes "trace refused " ++ (decimal line ++ 10 ∷ [])
