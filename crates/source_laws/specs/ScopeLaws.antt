-- The scopes of every source whose tree is read.
use Rattle.std.specs.Prelude.{ℕ, List, IsTrue}
use Rattle.ada_tree.specs.declared.units.Unit.{Unit as Tree}
use Rattle.ada_regions.specs.Numbered.{names_of}
use Rattle.ada_image.specs.NothingLost.{nothing_is_lost}
use Rattle.image_laws.specs.ScopesOfText.{scopes_begun}
use Rattle.ada_image.specs.BuiltUnits.{unit_built}
use Rattle.image_laws.specs.OwnScopes.{are_own}
use Rattle.source_laws.specs.SourceLaws.{IsReadFrom}

-- each body, block and accept of it has a scope of its own in the table of its names, and none has that of the
-- environment
abbrev pub ScopesAreOwn : Type 0
ScopesAreOwn = (source : List ℕ) (unit : Tree) → IsReadFrom source unit
    → IsTrue (are_own (names_of unit) (scopes_begun unit (names_of unit)))

-- so nothing of it is lost in its image where its forms are those that an image has
abbrev pub NothingReadIsLost : Type 0
NothingReadIsLost = (source : List ℕ) (unit : Tree) → IsReadFrom source unit
    → IsTrue (unit_built unit (names_of unit)) → IsTrue (nothing_is_lost unit)
