use Rattle.std.proofs.Common.{◌≡◌, ◌≤◌, ◌-◌, true}
use Rattle.outside_bytes.specs.Files.{told, WhereTold, left_of}
use Rattle.trace_laws.specs.declared.verdicts.TheConstants.{TRACE_BYTES}
use Rattle.trace_files.specs.Texts.{IsSound}
use Rattle.trace_files.specs.Judged.{Judged}
use Rattle.trace_files.proofs.judging.judge_file.Given as goal

-- the lines that were read are lawful, and what is left decides
abbrev pub invariant-loop-laws : goal.invariant-loop-laws
invariant-loop-laws g l = record {
  judged : WhereTold (told (g.S.Shelf.files l.fn.shelf) l.fn.name)
      (λ file. Judged file l.laws l.trace (left_of (g.S.Shelf.files l.shelf) (g.S.Shelf.at l.shelf)));
  sound : IsSound l.trace;
  files : g.S.Shelf.files l.shelf ≡ g.S.Shelf.files l.fn.shelf;
  picked : g.S.Shelf.picked l.shelf ≡ true;
  monotone : g.S.Shelf.faults l.fn.shelf ≤ g.S.Shelf.faults l.shelf;
}

-- each line has a byte
abbrev pub decreases-loop-laws : goal.decreases-loop-laws
decreases-loop-laws g l = TRACE_BYTES - l.trace.before
