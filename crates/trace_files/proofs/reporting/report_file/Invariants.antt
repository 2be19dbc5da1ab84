use Rattle.std.proofs.Common.{◌≡◌, ◌≤◌, ◌-◌, true}
use Rattle.outside_bytes.specs.Files.{told, WhereTold, left_of}
use Rattle.trace_laws.specs.declared.verdicts.TheConstants.{TRACE_BYTES}
use Rattle.trace_files.specs.Texts.{IsSound}
use Rattle.trace_files.specs.Reported.{Reporting}
use Rattle.trace_files.proofs.reporting.report_file.Given as goal

-- the lines that were read are formed, and what is left decides
abbrev pub invariant-loop-report : goal.invariant-loop-report
invariant-loop-report g l = record {
  reporting : WhereTold (told (g.S.Shelf.files l.fn.shelf) l.fn.name)
      (λ file. Reporting file l.report l.trace (left_of (g.S.Shelf.files l.shelf) (g.S.Shelf.at l.shelf)));
  sound : IsSound l.trace;
  files : g.S.Shelf.files l.shelf ≡ g.S.Shelf.files l.fn.shelf;
  picked : g.S.Shelf.picked l.shelf ≡ true;
  monotone : g.S.Shelf.faults l.fn.shelf ≤ g.S.Shelf.faults l.shelf;
}

-- each line has a byte
abbrev pub decreases-loop-report : goal.decreases-loop-report
decreases-loop-report g l = TRACE_BYTES - l.trace.before
