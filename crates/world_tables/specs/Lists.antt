-- The head of a list, and all behind it.
use Rattle.std.specs.Prelude.{List, [], ◌∷◌, Option, Some, None}

-- the head
abbrev pub first_of : {X : Type 0} → List X → Option X
first_of [] = None
first_of (x ∷ xs) = Some x

-- all but the head
abbrev pub rest_of : {X : Type 0} → List X → List X
rest_of [] = []
rest_of (x ∷ xs) = xs
