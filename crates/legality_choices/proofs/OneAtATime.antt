-- Choices and aspects, one at a time.
use Rattle.std.proofs.Common.{◌≡◌, ◌++◌, ◌+◌, ◌∷◌, ◌∙◌, [], Bool, List, None, Option, Some, ℕ, ap, arith, cond, false, refl, suc, sym, take, true}
use Rattle.ada_legality.specs.Aspects.{aspect_judged, aspects_from}
use Rattle.ada_legality.specs.Choices.{kept_range, meets_before, others_not_last, repeated_choices}
use Rattle.ada_legality.specs.Findings.{broken_if}
use Rattle.ada_legality.specs.declared.parts.AspectOwner.{AspectOwner}
use Rattle.ada_legality.specs.declared.parts.AspectPart.{AspectPart}
use Rattle.ada_legality.specs.declared.parts.ChoicePart.{ChoicePart}
use Rattle.ada_legality.specs.declared.parts.Span.{Span}
use Rattle.ada_legality.specs.declared.rules.Rule.TheVariants as rule
use Rattle.ann_base.specs.declared.places.Place.{Place}
use Rattle.legality_choices.specs.OneByOne.{aspects_along, others_behind, others_here, others_place, repeated_along}

-- ---- choices that meet an earlier one

none_repeated : (before : List (Option Span)) → repeated_choices before [] ≡ []
unfolding repeated_choices
none_repeated before = refl

one_repeated : (before : List (Option Span)) (c : ChoicePart) (cs : List ChoicePart)
    → repeated_choices before (c ∷ cs)
    ≡ broken_if rule.ConditionsAndChoices (meets_before c.values before) c.place
    ++ repeated_choices (kept_range (meets_before c.values before) c.values before) cs
unfolding repeated_choices
one_repeated before c cs = refl

pub repeated_is : (before : List (Option Span)) (cs : List ChoicePart) → repeated_choices before cs ≡ repeated_along before cs
repeated_is before [] = none_repeated before
repeated_is before (c ∷ cs) =
    one_repeated before c cs
    ∙ ap (λ more. broken_if rule.ConditionsAndChoices (meets_before c.values before) c.place ++ more)
    (repeated_is (kept_range (meets_before c.values before) c.values before) cs)

-- ---- choices for all others

here_if : (b : Bool) (p : Place) → others_here (cond b (Some p) None) ≡ broken_if rule.ConditionsAndChoices b p
here_if true p = refl
here_if false p = refl

last_one : (c : ChoicePart) → [] ≡ others_not_last (c ∷ [])
unfolding others_not_last
last_one c = refl

one_before : (c : ChoicePart) (d : ChoicePart) (rest : List ChoicePart)
    → broken_if rule.ConditionsAndChoices c.is_others c.place ++ others_not_last (d ∷ rest) ≡ others_not_last (c ∷ d ∷ rest)
unfolding others_not_last
one_before c d rest = refl

behind : (c : ChoicePart) (rest : List ChoicePart) → others_behind (others_place c) rest ≡ others_not_last (c ∷ rest)
behind c [] = last_one c
behind c (d ∷ rest) =
    ap (λ ws. ws ++ others_behind (others_place d) rest) (here_if c.is_others c.place)
    ∙ (ap (λ ws. broken_if rule.ConditionsAndChoices c.is_others c.place ++ ws) (behind d rest) ∙ one_before c d rest)

no_choice : [] ≡ others_not_last []
unfolding others_not_last
no_choice = refl

pub others_are : (cs : List ChoicePart) → others_not_last cs ≡ others_behind None cs
others_are [] = sym no_choice
others_are (c ∷ rest) = sym (behind c rest)

-- ---- aspects

module _ (last : ℕ) (on : AspectOwner) (place : Place) (aspects : List AspectPart) where
  no_aspect : (at : ℕ) → aspects_from last on place aspects at [] ≡ []
  unfolding aspects_from
  no_aspect at = refl

  one_aspect : (at : ℕ) (a : AspectPart) (rest : List AspectPart)
      → aspects_from last on place aspects at (a ∷ rest) ≡ aspect_judged last on place (take at aspects) a ++ aspects_from last on place aspects (at + 1) rest
  unfolding aspects_from
  one_aspect at a rest =
      let one : suc at ≡ at + 1 = omega arith in
      ap (λ n. aspect_judged last on place (take at aspects) a ++ aspects_from last on place aspects n rest) one

  pub aspects_are : (at : ℕ) (rest : List AspectPart) → aspects_from last on place aspects at rest ≡ aspects_along last on place aspects at rest
  aspects_are at [] = no_aspect at
  aspects_are at (a ∷ rest) =
      one_aspect at a rest
      ∙ ap (λ more. aspect_judged last on place (take at aspects) a ++ more) (aspects_are (at + 1) rest)
