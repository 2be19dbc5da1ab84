use Rattle.std.proofs.Common.{◌≡◌, ◌++◌, drop}
use Rattle.std.specs.List.{flat_map}
use Rattle.ada_legality.specs.Declarations.{object_judged}
use Rattle.legality_declarations.proofs.objects.objects_judged.Given as goal

-- what is found by now, and what the names to come give, is all
abbrev pub invariant-loop-name : goal.invariant-loop-name
invariant-loop-name l =
    l.found ++ flat_map (object_judged l.known l.object l.t) (drop l.name-index l.names.others)
    ≡ l.initial.found ++ flat_map (object_judged l.known l.object l.t) l.names.others
