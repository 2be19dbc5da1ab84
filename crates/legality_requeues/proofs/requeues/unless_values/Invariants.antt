use Rattle.std.proofs.Common.{◌≡◌, ◌++◌, drop}
use Rattle.std.specs.List.{flat_map}
use Rattle.ada_legality.specs.Values.{denotes_value}
use Rattle.ada_legality.specs.ReadExpressions.{unless_denoted}
use Rattle.legality_requeues.proofs.requeues.unless_values.Given as goal

-- what is found by now, and what the names to come give, is all
abbrev pub invariant-loop-name : goal.invariant-loop-name
invariant-loop-name l =
    l.found ++ flat_map (unless_denoted (denotes_value l.known) l.known) (drop l.name-index l.names.others)
    ≡ l.initial.found ++ flat_map (unless_denoted (denotes_value l.known) l.known) l.names.others
