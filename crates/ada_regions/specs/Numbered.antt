-- The table of a source: its occurrences, read from the first to the last.
use Rattle.std.specs.Prelude.{ℕ, Bool, false, cond, List, [], ◌∷◌, Option, None, codes}
use Rattle.std.specs.List.{list_any}
use Rattle.std.specs.Str.{bytes_eq}
use Rattle.ann_base.specs.declared.places.Place.{Place}
use Rattle.ada_tree.specs.declared.units.Unit.{Unit as Tree}
use Rattle.ada_tree.specs.declared.units.Pragma.{Pragma}
use Rattle.ada_regions.specs.declared.faults.NameFault.{NameFault}
use Rattle.ada_regions.specs.declared.predefined.TheConstants.{LAST_PRIORITY, LAST_WIDE_PRIORITY}
use Rattle.ada_regions.specs.Occurrences.{Occurrence, Occurrences, begins, ends, private_from_here, hides}
use Rattle.ada_regions.specs.Occurrences.{heads, declares, declares_unit, completes, is_called, mentions}
use Rattle.ada_regions.specs.Occurrences.{mentions_simply, mentions_entry, with_unit, use_package}
use Rattle.ada_regions.specs.NamesInUnits.{names_in_unit}
use Rattle.ada_regions.specs.declared.table.Names.{Names}
use Rattle.ada_regions.specs.Visibility.{resolved}
use Rattle.ada_regions.specs.SelectedNames.{name_resolved}
use Rattle.ada_regions.specs.Declaring.{hidden, declared, library_frame}
use Rattle.ada_regions.specs.Completions.{headed, completed, entry_mentioned}
use Rattle.ada_regions.specs.Regions.{begun, ended, made_private, named_as, withed, library_unit, used}

-- what is known behind an occurrence
unfoldable pub behind : Occurrence → Names → Names
behind (begins region) n = begun region n
behind ends n = ended n
behind private_from_here n = made_private n
behind (hides i) n = hidden i n
behind (heads i) n = headed i n
behind (declares i what) n = declared i what n
behind (declares_unit i what) n = declared i what n
behind (completes i s) n = completed i s n
behind (is_called i) n = named_as i n
behind (mentions name) n = name_resolved name n
behind (mentions_simply i) n = resolved i n
behind (mentions_entry i) n = entry_mentioned i n
behind (with_unit name) n = withed name (library_unit n name) n
behind (use_package name) n = used name n

abbrev pub behind_all : Occurrences → Names → Names
behind_all [] n = n
behind_all (o ∷ os) n = behind_all os (behind o n)

-- ---- at the beginning: the region of Standard is open, and the environment has a scope

abbrev pub is_wide : Pragma → Bool
is_wide p = bytes_eq p.name.text (codes "priority_range")

abbrev pub last_priority_of : List Pragma → ℕ
last_priority_of pragmas = cond (list_any is_wide pragmas) LAST_WIDE_PRIORITY LAST_PRIORITY

abbrev pub no_place : Place
no_place = record { line = 0; column = 0 }

abbrev pub nothing_known : ℕ → Names
nothing_known last = record {
  last_priority = last;
  regions = 1;
  frames = library_frame ∷ [];
  parts = 1;
  bindings = [];
  uses = [];
  withs = [];
  contexts = [];
  entities = [];
  bodies = [];
  denotations = [];
  declarations = [];
  scopes = record { place = no_place; outer = None; is_function = false; is_accept = false } ∷ [];
  subprograms = [];
  arrays = [];
  enumerations = [];
  task_units = [];
  protected_units = [];
  controlled_types = [];
  entries = [];
  fault = None;
}

-- ---- the table of a source, and the first of its names that has no declaration, two, or an unclear one

abbrev pub names_of : Tree → Names
names_of unit = behind_all (names_in_unit unit) (nothing_known (last_priority_of unit.pragmas))

abbrev pub name_fault_of : Tree → Option NameFault
name_fault_of unit = (names_of unit).fault
