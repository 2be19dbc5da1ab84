-- those so far and those of what is left are those of all
use Rattle.std.proofs.Common.{◌≡◌, ◌++◌, drop}
use Rattle.trace_laws.specs.Regions.{objects_in}
use Rattle.trace_laws.proofs.regions.objects_in.Given as goal

abbrev pub invariant-loop-init : goal.invariant-loop-init
invariant-loop-init l = l.objects.items ++ objects_in l.region (drop l.init-index l.inits) ≡ objects_in l.region l.inits
