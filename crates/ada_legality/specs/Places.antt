-- Where constructs begin: a refusal stands at the first token of what breaks a rule.
use Rattle.ada_tree.specs.declared.declarations.SubprogramSpecification.{SubprogramSpecification}
use Rattle.ada_tree.specs.declared.names.Name.{Name}
use Rattle.ada_tree.specs.declared.selects.Alternative.{Alternative}
use Rattle.ada_tree.specs.declared.selects.SelectAlternative.{SelectAlternative}
use Rattle.ada_tree.specs.declared.statements.Iteration.{Iteration}
use Rattle.ada_tree.specs.declared.statements.Loop.{Loop}
use Rattle.ann_base.specs.declared.places.Place.{Place}
use Rattle.std.specs.Prelude.{option_map, unwrap_or}
use Rattle.ada_tree.specs.declared.selects.Alternative.TheVariants as alternative
use Rattle.ada_tree.specs.declared.statements.Iteration.TheVariants as iteration

-- a subprogram begins with `overriding`, where it has the word
abbrev pub place_of_specification : SubprogramSpecification → Place
place_of_specification s = unwrap_or s.overriding s.place

-- where a name begins
abbrev pub place_of : Name → Place
place_of name = name.parts.first.place

-- where an alternative begins behind its guard
abbrev pub place_of_alternative_in : {Q : Type 0} → Alternative Q → Place
place_of_alternative_in (alternative.Accept accept statements) = accept.place
place_of_alternative_in (alternative.Delay delay statements) = delay.place
place_of_alternative_in (alternative.Terminate place) = place

-- where an alternative begins
abbrev pub place_of_alternative : {Q : Type 0} → SelectAlternative Q → Place
place_of_alternative a =
    unwrap_or (option_map (λ g. g.place) a.guard) (place_of_alternative_in a.alternative)

-- where a loop without a name begins
abbrev pub place_of_iteration : Place → Iteration → Place
place_of_iteration at iteration.Forever = at
place_of_iteration at (iteration.While place condition) = place
place_of_iteration at (iteration.For place parameter reverse low high) = place

-- a loop or a block begins with its name, where it has one
abbrev pub place_of_loop : {Q : Type 0} → Loop Q → Place
place_of_loop l =
    unwrap_or (option_map (λ x. x.name.place) l.label) (place_of_iteration l.place l.iteration)
