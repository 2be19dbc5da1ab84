-- those of what was looked at, from the back
use Rattle.std.proofs.Common.{◌≡◌, ◌≤◌, drop, length}
use Rattle.trace_laws.specs.Regions.{finals_in}
use Rattle.trace_laws.proofs.regions.finals_in.Given as goal

abbrev pub decreases-loop-place : goal.decreases-loop-place
decreases-loop-place l = l.place

abbrev pub invariant-loop-place : goal.invariant-loop-place
invariant-loop-place l = record { within : l.place ≤ length l.finals; kept : l.kept.items ≡ finals_in l.objects (drop l.place l.finals) }
