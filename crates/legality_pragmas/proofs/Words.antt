-- The word that stands alone among the words of a pragma.
use Rattle.std.proofs.Common.{◌≡◌, ℕ, List, [], ◌∷◌, Option, Some, None, refl}
use Rattle.ada_legality.specs.Pragmas.{is_one_word}
use Rattle.legality_pragmas.specs.Arguments.{is_among, only_word}

pub one_word : (allowed : List (List ℕ)) (words : List (Option (List ℕ))) → is_one_word allowed words ≡ is_among allowed (only_word words)
unfolding is_one_word
one_word allowed [] = refl
one_word allowed (None ∷ rest) = refl
one_word allowed (Some w ∷ []) = refl
one_word allowed (Some w ∷ x ∷ rest) = refl
