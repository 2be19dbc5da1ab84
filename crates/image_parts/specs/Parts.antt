-- Parts of what is made of compound statements, where the statements in them are made.
use Rattle.std.specs.Prelude.{ℕ, ◌+◌, Bool, List, Option}
use Rattle.ada_tree.specs.declared.expressions.Expression.{Expression}
use Rattle.profile_image.specs.declared.numbers.DeclNo.{DeclNo}
use Rattle.profile_image.specs.declared.numbers.StatementNo.{StatementNo}
use Rattle.profile_image.specs.declared.statements.CaseAlternative.{CaseAlternative as CaseActions}
use Rattle.profile_image.specs.declared.statements.StatementForm.{StatementForm}
use Rattle.profile_image.specs.declared.statements.StatementForm.TheVariants as action
use Rattle.ada_image.specs.declared.making.Within.{Within}
use Rattle.ada_image.specs.Making.{Making, ◌>>=◌, ◌>>◌, action_put, first_put, put_at, the_action}
use Rattle.ada_image.specs.ImageOfExpressions.{expression_made, signs_in}

-- a condition, and the actions behind it
abbrev pub if_action : Within → Expression → Option StatementNo → Option StatementNo → Option StatementNo
    → Making (Option StatementNo)
if_action within c first otherwise next = do
  e ← expression_made c within
  action_put (action.If e (the_action first) otherwise) (signs_in within c) next

-- a choice between alternatives
abbrev pub case_action : Within → Expression → List CaseActions → Option StatementNo → Making (Option StatementNo)
case_action within c alternatives next = do
  selector ← expression_made c within
  action_put (action.Case selector alternatives) (signs_in within c) next

-- a while loop
abbrev pub while_action : Within → StatementNo → Expression → StatementNo → Option StatementNo
    → Making (Option StatementNo)
while_action within s c body next = do
  e ← expression_made c within
  put_at s (action.While e body within.construct) (signs_in within c) next

-- a for loop, and its turns, which its statement and its body lead to
abbrev pub for_action : Within → StatementNo → StatementNo → StatementNo → DeclNo → Bool → Expression → Expression
    → StatementNo → Option StatementNo → Making (Option StatementNo)
for_action within s first later d reverse low high body next = do
  put_at first (action.FirstTurn d reverse body) 0 next
  put_at later (action.LaterTurn d reverse body) 0 next
  a ← expression_made low within
  b ← expression_made high within
  put_at s (action.For d reverse a b first within.construct) (signs_in within low + signs_in within high) next

-- a statement with a scope, which has its first action
abbrev pub scope_action : ℕ → Option StatementNo → StatementNo → StatementForm → Option StatementNo
    → Making (Option StatementNo)
scope_action scope first s form next = do
  first_put scope first
  put_at s form 0 next

-- the turns of a for loop
abbrev pub turns_put : StatementNo → StatementNo → DeclNo → Bool → StatementNo → Option StatementNo
    → Making (Option StatementNo)
turns_put first later d reverse body next = do
  put_at first (action.FirstTurn d reverse body) 0 next
  put_at later (action.LaterTurn d reverse body) 0 next
