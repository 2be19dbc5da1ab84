-- Items that are found by a number of their own.
use Rattle.std.specs.Prelude.{ℕ, eqb, Bool, false, Option, Some, None}

-- whether this is the number of an item
abbrev pub has_number : ℕ → Option ℕ → Bool
has_number n None = false
has_number n (Some m) = eqb n m
