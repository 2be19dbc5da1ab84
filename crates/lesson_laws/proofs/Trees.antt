-- Short words for the names of a tree.
use Rattle.std.specs.Prelude.{ℕ, List, [], ◌∷◌}
use Rattle.ada_tree.specs.declared.names.Identifier.{Identifier}
use Rattle.ada_tree.specs.declared.names.Name.{Name}
use Rattle.lesson_laws.specs.RefusedSources.{at}

abbrev pub identifier : ℕ → ℕ → List ℕ → Identifier
identifier line column text = record { place = at line column; text = text }

abbrev pub simple : Identifier → Name
simple name = record { parts = record { first = name; others = [] } }

abbrev pub selected : Identifier → Identifier → Name
selected prefix name = record { parts = record { first = prefix; others = name ∷ [] } }
