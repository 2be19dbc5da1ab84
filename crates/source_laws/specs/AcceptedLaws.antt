-- What every accepted source keeps.
use Rattle.std.specs.Prelude.{ℕ, List, IsTrue}
use Rattle.profile_image.specs.declared.image.Image.{Image}
use Rattle.source_laws.specs.Denoted.{denotes_by_position}
use Rattle.ada_image.specs.NothingLost.{image_reads}
use Rattle.ada_verdicts.specs.Accepted.{Accepted}

-- its image has the text of the tree that it spells, read from the scopes: nothing of it is lost
abbrev pub NothingAcceptedIsLost : Type 0
NothingAcceptedIsLost = (source : List ℕ) (image : Image) (accepted : Accepted source image)
    → IsTrue (image_reads image accepted.tree)

-- each direct name of that tree denotes by its table what it means by its position
abbrev pub AcceptedNamesByPosition : Type 0
AcceptedNamesByPosition = (source : List ℕ) (image : Image) (accepted : Accepted source image)
    → IsTrue (denotes_by_position accepted.tree)
