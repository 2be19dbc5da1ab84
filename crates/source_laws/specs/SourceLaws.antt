-- What every source keeps whose tree is read: the premises of the laws of names.
use Rattle.std.specs.Prelude.{◌≡◌, ℕ, List, None, IsTrue, Ok}
use Rattle.ada_lex.specs.declared.tokens.Token.{Token}
use Rattle.ada_lex.specs.Reading.{tokens_of}
use Rattle.ada_tree.specs.declared.units.Unit.{Unit as Tree}
use Rattle.ada_tree.specs.Written.{lexemes_of}
use Rattle.ada_grammar.specs.ReadingUnits.{unit_of}
use Rattle.ada_legality.specs.Faults.{first_fault_of}
use Rattle.source_laws.specs.Denoted.{denotes_by_position}
use Rattle.source_laws.specs.Places.{names_stand_apart}
use Rattle.source_laws.specs.Regions.{bodies_complete}
use Rattle.source_laws.specs.Bodies.{bodies_known}

-- the tree that is read from the bytes of a source
pub record IsReadFrom (source : List ℕ) (unit : Tree) : Type 0 where
  pub tokens : List Token
  pub lexed : tokens_of source ≡ Ok tokens
  pub parsed : unit_of (lexemes_of source tokens) ≡ Ok unit

-- no two names of it stand at one place
abbrev pub NamesStandApart : Type 0
NamesStandApart = (source : List ℕ) (unit : Tree) → IsReadFrom source unit → IsTrue (names_stand_apart unit)

-- each direct name of it denotes by its table what it means by its position, where its bodies complete units
abbrev pub ReadNamesByPosition : Type 0
ReadNamesByPosition = (source : List ℕ) (unit : Tree) → IsReadFrom source unit → IsTrue (bodies_complete unit)
    → IsTrue (denotes_by_position unit)

-- ---- bodies of task and protected units

-- a source whose table knows the unit of each body has bodies that complete units
abbrev pub BodiesCompleteWhereKnown : Type 0
BodiesCompleteWhereKnown = (unit : Tree) → IsTrue (names_stand_apart unit) → IsTrue (bodies_known unit)
    → IsTrue (bodies_complete unit)

-- ---- sources that break no rule of legality

-- the bodies of task and protected units of such a source complete units, and each is the only body of its unit
abbrev pub UnbrokenBodiesComplete : Type 0
UnbrokenBodiesComplete = (source : List ℕ) (unit : Tree) → IsReadFrom source unit → first_fault_of unit ≡ None
    → IsTrue (bodies_complete unit)

-- each direct name of it denotes by its table what it means by its position
abbrev pub UnbrokenNamesByPosition : Type 0
UnbrokenNamesByPosition = (source : List ℕ) (unit : Tree) → IsReadFrom source unit → first_fault_of unit ≡ None
    → IsTrue (denotes_by_position unit)
