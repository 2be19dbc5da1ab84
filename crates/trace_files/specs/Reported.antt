-- The lines of a formed trace, and how far a trace is reported.
use Rattle.std.specs.Prelude.{◌≡◌, ◌≤◌, ℕ, ◌+◌, nat_lt, if◌then◌else◌, List, [], ◌∷◌}
use Rattle.std.specs.Prelude.{◌++◌, Option, Some, None, Result, Ok, Err, length}
use Rattle.trace_text.specs.Queue.{TraceLine}
use Rattle.trace_text.specs.Laws.{Formed, follows_form}
use Rattle.trace_reading.specs.Lines.{line_in}
use Rattle.trace_laws.specs.declared.verdicts.TheConstants.{TRACE_BYTES}
use Rattle.trace_laws.specs.Verdicts.{texts_in, Reads, bytes_in}
use Rattle.run_report.specs.Kept.{Reported, StandsFor}
use Rattle.trace_files.specs.declared.texts.TraceFile.{TraceFile}
use Rattle.trace_files.specs.declared.reporting.FileReport.{FileReport}
use Rattle.trace_files.specs.declared.reporting.FileReport.TheVariants as told
use Rattle.trace_files.specs.Texts.{IsLeft}

-- with one text more
abbrev pub lines_with : List TraceLine → Option TraceLine → (List TraceLine → Result (List TraceLine) ℕ)
    → Result (List TraceLine) ℕ
lines_with lines None later = Err (length lines + 1)
lines_with lines (Some line) later = if follows_form (lines ++ line ∷ []) then later (lines ++ line ∷ [])
    else Err (length lines + 1)

-- behind so many bytes, which were these lines
abbrev pub lines_from : ℕ → List TraceLine → List (List ℕ) → Result (List TraceLine) ℕ
lines_from before lines [] = Ok lines
lines_from before lines (text ∷ texts) =
    if nat_lt TRACE_BYTES (before + length text) then Err (length lines + 1)
    else lines_with lines (line_in text) (λ more. lines_from (before + length text) more texts)

-- The lines of a trace, where they are formed; or the first line that is refused: it ends beyond the most bytes, is
-- none, or is one with which the list is not formed.
abbrev pub formed_lines : List ℕ → Result (List TraceLine) ℕ
formed_lines bytes = lines_from 0 [] (texts_in bytes)

-- the lines that were read are formed, the report stands for them, and what is left decides
pub record Reporting (file : List ℕ) (report : Reported) (trace : TraceFile) (left : Option (List ℕ)) : Type 0 where
  pub rest : List ℕ
  pub lines : List TraceLine
  pub left_is : IsLeft trace left rest
  pub answer : formed_lines file ≡ lines_from trace.before lines (texts_in rest)
  pub counted : length lines ≡ trace.count
  pub stands : StandsFor report lines
  pub formed : Formed lines

-- what is answered of a file
abbrev pub IsReported : List ℕ → FileReport → Type 0
IsReported file (told.Formed report) = (lines : List TraceLine) × (formed_lines file ≡ Ok lines) × Formed lines
    × StandsFor report lines
IsReported file (told.Refused number) = formed_lines file ≡ Err number

-- the texts are those of these lines, which are formed, and are within the most bytes
pub record IsFormedTrace (texts : List (List ℕ)) (lines : List TraceLine) : Type 0 where
  pub read : Reads texts lines
  pub formed : Formed lines
  pub within : bytes_in texts ≤ TRACE_BYTES
