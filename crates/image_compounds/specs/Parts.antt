-- Parts of what is made of compound statements.
use Rattle.std.specs.Prelude.{Option}
use Rattle.ada_tree.specs.declared.statements.CaseAlternative.{CaseAlternative}
use Rattle.profile_image.specs.declared.numbers.StatementNo.{StatementNo}
use Rattle.profile_image.specs.declared.statements.CaseAlternative.{CaseAlternative as CaseActions}
use Rattle.ada_image.specs.declared.making.Within.{Within}
use Rattle.ada_image.specs.Making.{Making, ◌>>=◌, pure, the_action}
use Rattle.ada_image.specs.ImageOfStatements.{SequenceMaking, inside, choices_made}

module _ {Q : Type 0} (sequence : Q → SequenceMaking) where
  unfoldable pub alternative_made : Within → CaseAlternative Q → Option StatementNo → Making CaseActions
  alternative_made within a next = do
    first ← inside sequence a.statements within next
    pure (record { choices = choices_made within a.choices; first = the_action first })
