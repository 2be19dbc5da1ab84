use Rattle.std.proofs.Common.{◌≡◌, ◌++◌, drop}
use Rattle.std.specs.List.{flat_map}
use Rattle.ada_regions.specs.Occurrences.{in_all, one}
use Rattle.ada_simple_occurrences.specs.Namings.{said_of}
use Rattle.ada_simple_occurrences.proofs.telling.tell_names.Given as goal

abbrev pub invariant-loop-name : goal.invariant-loop-name
invariant-loop-name l =
    l.occurrences ++ flat_map (λ name. one (said_of l.fn.naming name)) (drop l.name-index l.fn.names.others)
    ≡ l.fn.occurrences ++ in_all (λ name. one (said_of l.fn.naming name)) l.fn.names
