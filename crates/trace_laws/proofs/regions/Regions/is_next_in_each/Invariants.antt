-- what is left is asked as the whole is
use Rattle.std.proofs.Common.{◌≡◌, drop}
use Rattle.std.specs.List.{list_all}
use Rattle.trace_laws.specs.Regions.{leavings_in, is_next_final_of}
use Rattle.trace_laws.proofs.regions.Regions.is_next_in_each.Given as goal

abbrev pub invariant-loop-init : goal.invariant-loop-init
invariant-loop-init l =
    list_all (is_next_final_of (leavings_in l.self) l.object) (drop l.init-index l.self.inits.items)
    ≡ list_all (is_next_final_of (leavings_in l.self) l.object) l.self.inits.items
