-- The table at a position: what is known behind all that stands before it.
use Rattle.std.specs.Prelude.{ℕ, [], ◌∷◌}
use Rattle.ada_regions.specs.declared.table.Names.{Names}
use Rattle.ada_regions.specs.Numbered.{behind, nothing_known}
use Rattle.source_laws.specs.Positions.{Before}

-- where this is the last value of System.Priority
abbrev pub table_at : ℕ → Before → Names
table_at last [] = nothing_known last
table_at last (o ∷ before) = behind o (table_at last before)
