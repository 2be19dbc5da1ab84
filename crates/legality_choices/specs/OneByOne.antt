-- Choices and aspects, one at a time.
use Rattle.std.specs.Prelude.{List, None, Option, Some, [], cond, take, ℕ, ◌+◌, ◌++◌, ◌∷◌}
use Rattle.ada_legality.specs.Aspects.{aspect_judged}
use Rattle.ada_legality.specs.Choices.{kept_range, meets_before}
use Rattle.ada_legality.specs.Findings.{Found, broken, broken_if}
use Rattle.ada_legality.specs.declared.parts.AspectOwner.{AspectOwner}
use Rattle.ada_legality.specs.declared.parts.AspectPart.{AspectPart}
use Rattle.ada_legality.specs.declared.parts.ChoicePart.{ChoicePart}
use Rattle.ada_legality.specs.declared.parts.Span.{Span}
use Rattle.ann_base.specs.declared.places.Place.{Place}
use Rattle.ada_legality.specs.declared.rules.Rule.TheVariants as rule

-- the choices that meet one of these ranges or an earlier one
abbrev pub repeated_along : List (Option Span) → List ChoicePart → Found
repeated_along before [] = []
repeated_along before (c ∷ cs) =
    broken_if rule.ConditionsAndChoices (meets_before c.values before) c.place
    ++ repeated_along (kept_range (meets_before c.values before) c.values before) cs

-- where a choice for all others stands
abbrev pub others_place : ChoicePart → Option Place
others_place c = cond c.is_others (Some c.place) None

-- a choice for all others, behind which another one stands
abbrev pub others_here : Option Place → Found
others_here None = []
others_here (Some place) = broken rule.ConditionsAndChoices place ∷ []

-- the choices behind one
abbrev pub others_behind : Option Place → List ChoicePart → Found
others_behind before [] = []
others_behind before (c ∷ cs) = others_here before ++ others_behind (others_place c) cs

-- the aspects from a place on
abbrev pub aspects_along : ℕ → AspectOwner → Place → List AspectPart → ℕ → List AspectPart → Found
aspects_along last on place aspects at [] = []
aspects_along last on place aspects at (a ∷ rest) =
    aspect_judged last on place (take at aspects) a
    ++ aspects_along last on place aspects (at + 1) rest
