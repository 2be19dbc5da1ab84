-- what is left has its first such action where the whole has it
use Rattle.std.proofs.Common.{◌≡◌, ◌+◌, drop}
use Rattle.trace_laws.specs.Actions.{place_of}
use Rattle.trace_laws.proofs.actions.place_of.Given as goal

abbrev pub invariant-loop-place : goal.invariant-loop-place
invariant-loop-place l = l.place + place_of l.object.0 l.who (drop l.place l.actions) ≡ place_of l.object.0 l.who l.actions
