-- The laws of what is read hold of what is accepted.
use Rattle.std.proofs.Common.{ap, ◌∙◌}
use Rattle.ada_image.specs.NothingLost.{image_reads}
use Rattle.source_laws.proofs.Accepted.Own.{nothing_read_is_lost}
use Rattle.source_laws.proofs.Sources.Unbroken.{unbroken_names_by_position}
use Rattle.source_laws.specs.AcceptedLaws.{NothingAcceptedIsLost, AcceptedNamesByPosition}
use Rattle.source_laws.proofs.Accepted.Read.{tree_read}

pub nothing_accepted_is_lost : NothingAcceptedIsLost
nothing_accepted_is_lost source image accepted =
    ap (λ program. image_reads program accepted.tree) accepted.numbered
    ∙ nothing_read_is_lost source accepted.tree (tree_read source image accepted) accepted.built

pub accepted_names_by_position : AcceptedNamesByPosition
accepted_names_by_position source image accepted = unbroken_names_by_position source accepted.tree (tree_read source image accepted) accepted.unbroken
