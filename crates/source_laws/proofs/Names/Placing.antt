-- Where contexts stand in a text, and what stands in them: a context begins outside all regions, and everything else stands in
-- one; with clauses stand in a context before all but clauses (10.1.2).
use Rattle.std.proofs.Common.{◌≡◌, Bool, true, false, not, List, [], ◌∷◌, refl}
use Rattle.ada_regions.specs.Occurrences.{Occurrence, the_package, the_context, the_context_of}
use Rattle.ada_regions.specs.Occurrences.{further_context, begins, ends, declares_unit, with_unit, use_package}
use Rattle.source_laws.specs.Positions.{Before, around}

-- the context of a package's declaration begins again
abbrev pub begins_again : Before → Bool
begins_again (begins (the_context_of i) ∷ before) = true
begins_again _ = false

-- of regions around: names may stand there
abbrev pub looks : List Before → Bool
looks [] = false
looks (b ∷ bs) = not (begins_again b)

-- nothing but clauses stands behind the beginning of the context here
abbrev pub clauses_here : Before → Bool
clauses_here (begins the_context ∷ before) = true
clauses_here (begins further_context ∷ before) = true
clauses_here (with_unit name ∷ before) = clauses_here before
clauses_here (use_package name ∷ before) = clauses_here before
clauses_here _ = false

-- a context is all that stands around
abbrev pub InContext : List Before → Type 0
InContext bs = (b : Before) × (bs ≡ (begins the_context ∷ b) ∷ [])

abbrev pub Placed : Occurrence → Before → Type 0
Placed (begins the_context) before = around before ≡ []
Placed (begins (the_context_of i)) before = around before ≡ []
Placed (begins further_context) before = begins_again before ≡ true
Placed ends before = Unit {0}
Placed (declares_unit i the_package) before = InContext (around before)
Placed (with_unit name) before = clauses_here before ≡ true
Placed _ before = looks (around before) ≡ true

abbrev pub IsPlaced : Before → Type 0
IsPlaced [] = Unit {0}
IsPlaced (o ∷ before) = Placed o before × IsPlaced before

pub clauses-look : (before : Before) → clauses_here before ≡ true → looks (around before) ≡ true
clauses-look (begins the_context ∷ before) e = refl
clauses-look (begins further_context ∷ before) e = refl
clauses-look (with_unit name ∷ before) e = clauses-look before e
clauses-look (use_package name ∷ before) e = clauses-look before e
clauses-look _ e = cc
