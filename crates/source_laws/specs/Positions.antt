-- Positions in a text. A position is what stands before it, the nearest first; the regions around it are found by going
-- back from it (8.1).
use Rattle.std.specs.Prelude.{◌≡◌, ◌⊎◌, ℕ, zero, suc, Bool, cond, List, [], ◌∷◌, Option, Some, None}
use Rattle.ada_tree.specs.declared.units.Unit.{Unit as Tree}
use Rattle.ada_regions.specs.Occurrences.{Occurrence, Occurrences, begins, ends}
use Rattle.ada_regions.specs.NamesInUnits.{names_in_unit}

-- what stands before a position, the nearest first
abbrev pub Before : Type 0
Before = Occurrences

-- a position is this one, or one before it
abbrev pub Stands : Before → Before → Type 0
Stands b [] = b ≡ []
Stands b (o ∷ before) = (b ≡ o ∷ before) ⊎ Stands b before

-- what is read further on stands nearer
abbrev pub read_on : Occurrences → Before → Before
read_on [] before = before
read_on (o ∷ os) before = read_on os (o ∷ before)

-- the end of a source
abbrev pub end_of : Tree → Before
end_of unit = read_on (names_in_unit unit) []

-- ---- the regions around a position

-- the beginnings of the regions around a position, the innermost first, but for as many as these; a region that has
-- ended is passed over with those in it
abbrev pub around_behind : ℕ → Before → List Before
around_behind passed [] = []
around_behind zero (begins r ∷ before) = (begins r ∷ before) ∷ around_behind zero before
around_behind (suc passed) (begins r ∷ before) = around_behind passed before
around_behind passed (ends ∷ before) = around_behind (suc passed) before
around_behind passed (_ ∷ before) = around_behind passed before

abbrev pub around : Before → List Before
around before = around_behind zero before

abbrev pub all_but_innermost : List Before → List Before
all_but_innermost [] = []
all_but_innermost (b ∷ bs) = bs

-- the regions around that in which a position stands
abbrev pub around_outside : Before → List Before
around_outside before = all_but_innermost (around before)

-- ---- going back from a position

-- the nearest occurrence before a position for which a test holds, with what stands before it
abbrev pub nearest : (Occurrence → Before → Bool) → Before → Option Before
nearest test [] = None
nearest test (o ∷ before) = cond (test o before) (Some (o ∷ before)) (nearest test before)
