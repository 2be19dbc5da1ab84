-- Lists of what is found, and lists that were mapped.
use Rattle.std.proofs.Common.{◌≡◌, List, [], ◌∷◌, ◌++◌, map, refl}
use Rattle.std.specs.List.{flat_map}

pub both : {Z : Type 0} {a b c d : List Z} → a ≡ c → b ≡ d → a ++ b ≡ c ++ d
both p q = rw (p, q) refl

-- each item of a list that was mapped
pub flat_of_map : {X Y Z : Type 0} (w : Y → List Z) (g : X → Y) (v : X → List Z) (same : (x : X) → w (g x) ≡ v x) (xs : List X)
    → flat_map w (map g xs) ≡ flat_map v xs
flat_of_map w g v same [] = refl
flat_of_map w g v same (x ∷ xs) = rw (same x, flat_of_map w g v same xs) refl

-- what is made of each item of a list that was mapped
pub map_of_map : {X Y Z : Type 0} (w : Y → Z) (g : X → Y) (v : X → Z) (same : (x : X) → w (g x) ≡ v x) (xs : List X) → map w (map g xs) ≡ map v xs
map_of_map w g v same [] = refl
map_of_map w g v same (x ∷ xs) = rw (same x, map_of_map w g v same xs) refl
