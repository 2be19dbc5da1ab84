use Rattle.std.proofs.Common.{◌≡◌, ◌++◌, drop}
use Rattle.std.specs.List.{flat_map}
use Rattle.ada_legality.specs.WholeSource.{taken_number}
use Rattle.legality_beside.proofs.attached.numbers_of_object.Given as goal

-- what was judged and what is to come are all of it
abbrev pub invariant-loop-finding : goal.invariant-loop-finding
invariant-loop-finding l =
    l.judged ++ flat_map (taken_number l.found l.before l.object) (drop l.finding-index l.found)
    ≡ l.initial.judged ++ flat_map (taken_number l.found l.before l.object) l.found
