-- what is left has its first such byte where the whole has it
use Rattle.std.proofs.Common.{◌≡◌, ◌+◌, drop}
use Rattle.trace_fields.specs.Reading.{place_of}
use Rattle.trace_fields.proofs.fields.place_of.Given as goal

abbrev pub invariant-loop-place : goal.invariant-loop-place
invariant-loop-place l = l.place + place_of l.mark (drop l.place l.bytes) ≡ place_of l.mark l.bytes
