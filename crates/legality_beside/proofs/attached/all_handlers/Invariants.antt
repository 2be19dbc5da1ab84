use Rattle.std.proofs.Common.{◌≡◌, ◌++◌, drop}
use Rattle.std.specs.List.{flat_map}
use Rattle.ada_legality.specs.WholeSource.{handler_of_object}
use Rattle.legality_beside.proofs.attached.all_handlers.Given as goal

-- what was judged and what is to come are all of it
abbrev pub invariant-loop-finding : goal.invariant-loop-finding
invariant-loop-finding l =
    l.judged ++ flat_map (handler_of_object l.object) (drop l.finding-index l.found) ≡ l.initial.judged ++ flat_map (handler_of_object l.object) l.found
