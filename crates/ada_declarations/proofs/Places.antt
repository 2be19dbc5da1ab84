-- The first item of a list for which a test holds, by its place.
use Rattle.std.proofs.Common.{◌≡◌, Bool, List, sym}
use Rattle.std.specs.List.{position, position_from}
use Rattle.std.proofs.lemmas.Iterator.Adapters.{position_from-zero}

pub found_place : {X : Type 0} (test : X → Bool) (xs : List X) → position_from test 0 xs ≡ position test xs
found_place test xs = sym (position_from-zero test xs)
