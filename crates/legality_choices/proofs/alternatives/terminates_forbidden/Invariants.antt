use Rattle.std.proofs.Common.{◌≡◌, ◌&&◌, ◌++◌, drop}
use Rattle.std.specs.List.{flat_map}
use Rattle.ada_legality.specs.Findings.{broken_if}
use Rattle.ada_legality.specs.SimpleStatements.{is_terminate_alternative}
use Rattle.ada_legality.specs.declared.rules.Rule.TheVariants as rule
use Rattle.legality_choices.proofs.alternatives.terminates_forbidden.Given as goal

-- what is found by now, and what the alternatives to come give, is all
abbrev pub invariant-loop-part : goal.invariant-loop-part
invariant-loop-part l =
    l.found ++ flat_map (λ p. broken_if rule.Restriction (l.forbidden && is_terminate_alternative p.kind) p.own_place) (drop l.part-index l.parts)
    ≡ l.initial.found ++ flat_map (λ p. broken_if rule.Restriction (l.forbidden && is_terminate_alternative p.kind) p.own_place) l.parts
