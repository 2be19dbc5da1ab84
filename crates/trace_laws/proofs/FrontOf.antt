-- A list begins with a front of it.
use Rattle.std.proofs.Common.{◌≡◌, ℕ, ◌&&◌, eqb, List, [], ◌∷◌, refl, ap}
use Rattle.std.specs.List.{starts_with}
use Rattle.trace_text.specs.Laws.{is_front_of}

pub starts_front : (front numbers : List ℕ) → starts_with eqb numbers front ≡ is_front_of front numbers
starts_front [] numbers = refl
starts_front (a ∷ front) [] = refl
starts_front (a ∷ front) (b ∷ numbers) = ap (λ t. eqb a b && t) (starts_front front numbers)
