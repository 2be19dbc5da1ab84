use Rattle.std.proofs.Common.{◌≡◌, drop}
use Rattle.profile_machine.specs.EntryCalls.{entry_parameters}
use Rattle.machine_accepts.specs.Parts.{with_before}
use Rattle.machine_meetings.proofs.parameters.entry_parameters.Given as goal

-- those so far before those that are left
abbrev pub invariant-loop-i : goal.invariant-loop-i
invariant-loop-i l = with_before l.parameters (entry_parameters l.q (drop l.i l.formals) (drop l.i l.actuals)) ≡ entry_parameters l.q l.formals l.actuals
