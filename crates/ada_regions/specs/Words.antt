-- Small words on places, texts, options and lists.
use Rattle.std.specs.Prelude.{ℕ, Bool, cond, ◌&&◌, ◌||◌, List, [], ◌∷◌, Option, Some, None, eqb, ltb, option_and_then}
use Rattle.std.specs.Str.{bytes_eq}
use Rattle.ann_base.specs.declared.places.Place.{Place}
use Rattle.ada_tree.specs.declared.names.OneOrMore.{OneOrMore}

-- ---- places

abbrev pub same_place : Place → Place → Bool
same_place a b = eqb a.line b.line && eqb a.column b.column

abbrev pub stands_before : Place → Place → Bool
stands_before a b = ltb a.line b.line || (eqb a.line b.line && ltb a.column b.column)

-- ---- options and lists

-- the library's word, which takes the function first
abbrev pub and_then : {X Y : Type 0} → Option X → (X → Option Y) → Option Y
and_then o f = option_and_then f o

abbrev pub all_of : {X : Type 0} → OneOrMore X → List X
all_of xs = xs.first ∷ xs.others

-- the last item, where the first is x
abbrev pub last_from : {X : Type 0} → X → List X → X
last_from x [] = x
last_from x (y ∷ ys) = last_from y ys

-- what the first entry of this name has
abbrev pub entry_named : {X : Type 0} → List ℕ → List (List ℕ × X) → Option X
entry_named name [] = None
entry_named name (entry ∷ entries) = cond (bytes_eq name entry.0) (Some entry.1) (entry_named name entries)
