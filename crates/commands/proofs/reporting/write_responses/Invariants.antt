use Rattle.std.proofs.Common.{◌≡◌, ◌≤◌, ◌++◌, ◌||◌, List, ℕ, drop}
use Rattle.ann_base.specs.Outside.{extended}
use Rattle.sched_tests.specs.Reports.{response_lines, rta_text, is_missed}
use Rattle.commands.proofs.reporting.write_responses.Given as goal

-- a prefix of the lines is written, and those of the duties from this place on are the rest
abbrev pub invariant-loop-place : goal.invariant-loop-place
invariant-loop-place g l = record {
  text : (prefix : List ℕ) × (rta_text l.table ≡ prefix ++ response_lines l.table l.place (drop l.place l.table))
      × (g.K.Sink.held l.out ≡ extended (g.K.Sink.held l.fn.out) prefix);
  missed : is_missed l.table 0 l.table ≡ l.missed || is_missed l.table l.place (drop l.place l.table);
  monotone : g.K.Sink.faults l.fn.out ≤ g.K.Sink.faults l.out;
}
