-- A trace that is one, and keeps the five laws.
use Rattle.std.specs.Prelude.{List}
use Rattle.trace_text.specs.Queue.{TraceLine}
use Rattle.trace_text.specs.Laws.{Formed, KeepsLaws}

pub record IsLawful (lines : List TraceLine) : Type 0 where
  pub formed : Formed lines
  pub laws : KeepsLaws lines
