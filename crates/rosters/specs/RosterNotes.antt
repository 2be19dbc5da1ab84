-- What a roster remembers of its items: sums over all of them but the one that it lent last, and their order.
use Rattle.std.specs.Prelude.{ℕ, ◌+◌, ◌-◌, ◌<◌, ltb, Bool, true, false, cond, List, Option, Some}
use Rattle.std.specs.Prelude.{None, ◌≡◌, length, map, get_or, remove, sum_by, slice_get}
use Rattle.rosters.specs.declared.roster.Numbered.{Ghosts}
use Rattle.rosters.specs.declared.roster_notes.Notes.{Notes}
use Rattle.rosters.specs.declared.roster_notes.Order.{Order}
use Rattle.rosters.specs.declared.roster_notes.Order.TheVariants.{Rising, Falling}

-- the items but the one at the lent place
abbrev pub others : {X : Type 0} → List X → Option ℕ → List X
others xs None = xs
others xs (Some place) = remove xs place

-- the item at the lent place
abbrev pub at_place : {X : Type 0} → List X → Option ℕ → Option X
at_place xs None = None
at_place xs (Some place) = slice_get xs place

-- what an item gives, and 0 where there is none
abbrev pub part_of : {X : Type 0} → (X → ℕ) → Option X → ℕ
part_of f None = 0
part_of f (Some x) = f x

-- what the item at the lent place gives
abbrev pub part_at : {X : Type 0} → (X → ℕ) → List X → Option ℕ → ℕ
part_at f xs lent = part_of f (at_place xs lent)

-- one for an item that stirs
abbrev pub one_if : {X : Type 0} → (X → Bool) → X → ℕ
one_if stirs x = cond (stirs x) 1 0

-- a sum that is known is this one
abbrev pub IsSum : Option ℕ → ℕ → Type 0
IsSum None n = Unit {0}
IsSum (Some m) n = m ≡ n

-- ---- the order of the numbers

-- whether a number comes before another
abbrev pub is_number_before : Order → ℕ → ℕ → Bool
is_number_before Rising a b = ltb a b
is_number_before Falling a b = ltb b a

-- whether both numbers are there, and the first comes before the second
abbrev pub comes_before : Order → Option ℕ → Option ℕ → Bool
comes_before order None b = false
comes_before order (Some a) None = false
comes_before order (Some a) (Some b) = is_number_before order a b

-- the number at a place
abbrev pub number_at : List (Option ℕ) → ℕ → Option ℕ
number_at ns place = get_or ns place None

-- each number comes before all that stand behind it
pub record InOrder (order : Order) (ns : List (Option ℕ)) : Type 0 where
  pub at : (i j : ℕ) → i < j → j < length ns → comes_before order (number_at ns i) (number_at ns j) ≡ true

-- an order that is known is that of the numbers
abbrev pub IsOrdered : Option Order → List (Option ℕ) → Type 0
IsOrdered None ns = Unit {0}
IsOrdered (Some order) ns = InOrder order ns

-- an order that is known has the first number before the second
abbrev pub IsOrderOf : Option Order → Option ℕ → Option ℕ → Type 0
IsOrderOf None a b = Unit {0}
IsOrderOf (Some order) a b = comes_before order a b ≡ true

-- how far a number is from the first one, where the numbers between are all there
abbrev pub distance : Order → Option ℕ → ℕ → ℕ
distance order None n = 0
distance Rising (Some first) n = n - first
distance Falling (Some first) n = first - n

-- ---- the notes

-- where the item behind a place is lent, this is the number at that place
abbrev pub IsInFront : Option ℕ → Option ℕ → List (Option ℕ) → Type 0
IsInFront front lent ns = (p : ℕ) → lent ≡ Some (p + 1) → front ≡ number_at ns p

-- the notes are right about these items
pub record AreRight {X : Type 0} (numbered : Ghosts X) (xs : List X) (notes : Notes) : Type 0 where
  pub order : IsOrdered notes.order (map numbered.number (others xs notes.lent))
  pub sizes : IsSum notes.size (sum_by numbered.size (others xs notes.lent))
  pub stirring : IsSum notes.stirring (sum_by (one_if numbered.stirs) (others xs notes.lent))
  pub front : IsInFront notes.front notes.lent (map numbered.number (others xs notes.lent))
