-- A word in lower case stays as it is.
use Rattle.std.proofs.Common.{◌≡◌, ℕ, List, [], ◌∷◌, map, refl, arith}
use Rattle.std.proofs.lemmas.Bool.Decides.{nat_tests}
use Rattle.std.specs.Char.{to_ascii_lowercase}

lower_twice : (b : ℕ) → to_ascii_lowercase (to_ascii_lowercase b) ≡ to_ascii_lowercase b
lower_twice b = grind (arith, nat_tests)

pub map-lower_twice : (word : List ℕ) → map to_ascii_lowercase (map to_ascii_lowercase word) ≡ map to_ascii_lowercase word
map-lower_twice [] = refl
map-lower_twice (b ∷ word) = rw (lower_twice b, map-lower_twice word) refl
