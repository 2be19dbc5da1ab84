-- Call statements (6.4, 9.5.3): of a subprogram, an entry or a predefined procedure.
use Rattle.std.specs.Prelude.{ℕ, ◌+◌, List, [], ◌∷◌, Option, Some, None, option_map, unwrap_or}
use Rattle.ada_tree.specs.declared.names.Name.{Name}
use Rattle.ada_tree.specs.declared.expressions.Expression.{Expression}
use Rattle.ada_tree.specs.declared.expressions.Argument.{Argument}
use Rattle.profile_image.specs.declared.numbers.StatementNo.{StatementNo}
use Rattle.profile_image.specs.declared.statements.Destination.TheVariants as destination
use Rattle.profile_image.specs.declared.statements.StatementForm.TheVariants as action
use Rattle.ada_regions.specs.declared.predefined.Predefined.{Predefined}
use Rattle.ada_regions.specs.declared.predefined.Predefined.TheVariants as items
use Rattle.ada_regions.specs.declared.entities.Denoted.{Denoted}
use Rattle.ada_regions.specs.declared.entities.Denoted.TheVariants as denotes
use Rattle.ada_regions.specs.declared.entities.EntityKind.{EntityKind}
use Rattle.ada_regions.specs.declared.entities.EntityKind.TheVariants as entity
use Rattle.ada_regions.specs.Names.{denoted_by, kind_at}
use Rattle.ada_image.specs.declared.making.Within.{Within}
use Rattle.ada_image.specs.Making.{Making, action_put}
use Rattle.ada_image.specs.ImageOfExpressions.{signs_in}
use Rattle.ada_image.specs.ImageOfCalls.{call_put, entry_call_put, not_built}
use Rattle.ada_image.specs.ImageOfProcedures.{procedure_put}

unfoldable pub entity_call_put : Within → Name → List (Argument Expression) → EntityKind → ℕ → Option StatementNo
    → Making (Option StatementNo)
entity_call_put within name arguments entity.Package signs next = not_built next
entity_call_put within name arguments entity.Main signs next = action_put action.CallMain signs next
entity_call_put within name arguments (entity.Mark s) signs next = not_built next
entity_call_put within name arguments (entity.Literal enumeration position) signs next = not_built next
entity_call_put within name arguments (entity.Object s constant value declaration) signs next = not_built next
entity_call_put within name arguments (entity.Parameter s m declaration) signs next = not_built next
entity_call_put within name arguments (entity.LoopParameter declaration) signs next = not_built next
entity_call_put within name arguments (entity.Component s owner declaration) signs next = not_built next
entity_call_put within name arguments (entity.Exception declaration) signs next = not_built next
entity_call_put within name arguments (entity.Subprogram number is_function specified formals unit) signs next =
    call_put within name arguments number unit formals destination.Nowhere signs next
entity_call_put within name arguments (entity.Entry number unit formals) signs next =
    entry_call_put within name arguments number unit formals signs next
entity_call_put within name arguments entity.Label signs next = not_built next

unfoldable pub item_call_put : Within → Predefined → List (Argument Expression) → ℕ → Option StatementNo
    → Making (Option StatementNo)
item_call_put within (items.Mark s) arguments signs next = not_built next
item_call_put within (items.Constant of_type value) arguments signs next = not_built next
item_call_put within (items.Truth b) arguments signs next = not_built next
item_call_put within (items.Exception e) arguments signs next = not_built next
item_call_put within (items.Operation operation) arguments signs next =
    procedure_put within operation arguments signs next

unfoldable pub denoted_call_put : Within → Name → List (Argument Expression) → Option Denoted → ℕ
    → Option StatementNo → Making (Option StatementNo)
denoted_call_put within name arguments None signs next = not_built next
denoted_call_put within name arguments (Some (denotes.Entity e)) signs next =
    unwrap_or (option_map (λ kind. entity_call_put within name arguments kind signs next) (kind_at within.names e))
    (not_built next)
denoted_call_put within name arguments (Some (denotes.Unit u)) signs next = not_built next
denoted_call_put within name arguments (Some (denotes.Item u item)) signs next =
    item_call_put within item arguments signs next

unfoldable pub signs_in_actuals : Within → List (Argument Expression) → ℕ
signs_in_actuals within [] = 0
signs_in_actuals within (a ∷ rest) = signs_in within a.value + signs_in_actuals within rest

unfoldable pub call_statement_put : Within → Name → List (Argument Expression) → Option StatementNo
    → Making (Option StatementNo)
call_statement_put within name arguments next =
    denoted_call_put within name arguments (denoted_by within.names name) (signs_in_actuals within arguments) next
