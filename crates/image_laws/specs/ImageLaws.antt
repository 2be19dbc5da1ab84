-- The laws of images.
use Rattle.std.specs.Prelude.{◌≡◌, IsTrue, length}
use Rattle.ada_tree.specs.declared.units.Unit.{Unit as Tree}
use Rattle.ada_regions.specs.Numbered.{names_of}
use Rattle.ada_image.specs.ImageOfUnits.{program_of}
use Rattle.ada_image.specs.NothingLost.{nothing_is_lost}
use Rattle.image_laws.specs.ActionsOfText.{actions_of}
use Rattle.image_laws.specs.OwnScopes.{is_built}

-- The image of each source that is built has the declarations and statements of its text, read from its scopes, in
-- order and each with its parts.
abbrev pub NothingIsLost : Type 0
NothingIsLost = (unit : Tree) → IsTrue (is_built unit) → IsTrue (nothing_is_lost unit)

-- The image of each source, built or not, has as many actions as its text asks for.
abbrev pub NothingIsAdded : Type 0
NothingIsAdded = (unit : Tree) → length (program_of unit).statements ≡ actions_of unit (names_of unit)
