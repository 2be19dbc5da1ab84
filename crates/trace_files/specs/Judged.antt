-- How far a trace is judged.
use Rattle.std.specs.Prelude.{◌≡◌, ℕ, List, Option, length}
use Rattle.trace_text.specs.Queue.{TraceLine}
use Rattle.trace_text.specs.Laws.{Formed, KeepsLaws}
use Rattle.trace_laws.specs.declared.laws.LawFault.{LawFault}
use Rattle.trace_laws.specs.declared.laws.LawFault.TheVariants.{Malformed, Broken}
use Rattle.trace_laws.specs.declared.verdicts.Verdict.{Verdict}
use Rattle.trace_laws.specs.declared.verdicts.Verdict.TheVariants as verdict
use Rattle.trace_laws.specs.Watched.{Watched, StandsFor}
use Rattle.trace_laws.specs.Verdicts.{texts_in, verdict_from, laws_answer}
use Rattle.trace_files.specs.declared.texts.TraceFile.{TraceFile}
use Rattle.trace_files.specs.Texts.{IsLeft}

-- The lines that were read are formed and keep the laws, the laws stand for them, and what is left decides.
pub record Judged (file : List ℕ) (laws : Watched) (trace : TraceFile) (left : Option (List ℕ)) : Type 0 where
  pub rest : List ℕ
  pub lines : List TraceLine
  pub left_is : IsLeft trace left rest
  pub answer : laws_answer file ≡ verdict_from trace.before lines (texts_in rest)
  pub counted : length lines ≡ trace.count
  pub stands : StandsFor laws lines
  pub formed : Formed lines
  pub lawful : KeepsLaws lines

-- what a fault of the line with this number means
abbrev pub verdict_on : LawFault → ℕ → Verdict
verdict_on Malformed number = verdict.Refused number
verdict_on (Broken law) number = verdict.Broken number law
