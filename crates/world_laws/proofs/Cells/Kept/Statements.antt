-- Simple and compound statements: each step keeps the cells right.
use Rattle.std.specs.Prelude.{ℤ, Bool, true, false, List, Option, Some, None, Ok}
use Rattle.ann_base.specs.Results.{◌>>=◌}
use Rattle.trace_text.specs.declared.events.Who.{Who}
use Rattle.trace_text.specs.declared.events.Who.TheVariants as who
use Rattle.profile_image.specs.declared.image.Image.{Image}
use Rattle.profile_image.specs.declared.numbers.DeclNo.{DeclNo}
use Rattle.profile_image.specs.declared.numbers.ExprNo.{ExprNo}
use Rattle.profile_image.specs.declared.numbers.ScopeNo.{ScopeNo}
use Rattle.profile_image.specs.declared.numbers.StatementNo.{StatementNo}
use Rattle.profile_image.specs.declared.expressions.ObjectName.{ObjectName}
use Rattle.profile_image.specs.declared.expressions.VariableName.{VariableName}
use Rattle.profile_image.specs.declared.statements.CaseAlternative.{CaseAlternative}
use Rattle.profile_image.specs.declared.statements.Piece.{Piece}
use Rattle.profile_image.specs.declared.values.Value.{Value}
use Rattle.profile_machine.specs.declared.world.World.{World}
use Rattle.profile_machine.specs.declared.world.scopes.Variable.{Variable}
use Rattle.profile_image.specs.Program.{declaration_of}
use Rattle.profile_machine.specs.declared.world.lines.Part.{Part}
use Rattle.profile_machine.specs.Steps.{changes}
use Rattle.profile_machine.specs.Frames.{given}
use Rattle.profile_machine.specs.Operators.{Valued}
use Rattle.profile_machine.specs.Values.{Seen, value, variable, object_cell}
use Rattle.profile_machine.specs.CallEnds.{store}
use Rattle.profile_machine.specs.Statements.{becomes, null, assign, cells_from, copy_cells, array_copied, assign_array, if_statement, go_to_alternative}
use Rattle.profile_machine.specs.Statements.{case_statement, while_turn, loop_cell, put, first_bound, last_bound, bounds_set, for_bounds, first_turn, advance}
use Rattle.profile_machine.specs.Statements.{later_turn, exit_where, exit_statement, block_statement, raise_again, wait_until, delay_to, delay_until, put_line}
use Rattle.world_laws.proofs.Cells.RightCells.{Right, Keeps, Alters, Gives, then-keeps, nothing-keeps, changes-keeps}
use Rattle.world_laws.proofs.Cells.RightCells.{says-keeps, looks-keeps, sees-keeps, next-alters, ok-gives, bind-gives}
use Rattle.world_laws.proofs.Cells.Kept.Dispatching.{to_tail-keeps, block-keeps}
use Rattle.world_laws.proofs.Cells.Kept.Frames.{goes-keeps, raises-keeps, exit_loop-keeps, given-keeps, given_right-keeps, raise_if-keeps, with_room-keeps}
use Rattle.world_laws.proofs.Cells.Kept.Scopes.{put_cells-alters, write_cell-alters, open_scope-alters}
use Rattle.world_laws.proofs.Cells.Kept.Appointments.{appoint-alters}
use Rattle.world_laws.proofs.Cells.Kept.CallEnds.{store-gives}
use Rattle.ceiling_laws.proofs.Fine.Kept.Statements.{bounds_put}

pub becomes-keeps : {p : Image} (part : Part) (name : Who) (result : Valued World) → Gives p result → Keeps p (becomes part name result)
unfolding becomes
becomes-keeps part name result given =
    given_right-keeps part name result (λ next. changes (λ _. next)) given (λ next right. changes-keeps _ (next-alters next right))

-- ---- null (5.1), assignment (5.2)

pub null-keeps : (p : Image) (name : Who) (s : StatementNo) → Keeps p (null p name s)
unfolding null
null-keeps p name s = search (goes-keeps)

assigned-gives : {p : Image} (text : Image) (q : Seen) (target : VariableName) (e : ExprNo) → Right p q.world
    → Gives p (variable q target >>= λ v. value q e >>= λ x. store text v x q.world)
assigned-gives text q target e right =
    bind-gives (variable q target) (λ v. value q e >>= λ x. store text v x q.world) (λ v.
    bind-gives (value q e) (λ x. store text v x q.world) (λ x. store-gives text v x q.world right))

pub assign-keeps : (p : Image) (name : Who) (s : StatementNo) (target : VariableName) (e : ExprNo) → Keeps p (assign p name s target e)
unfolding assign
assign-keeps p name s target e = search (given_right-keeps, sees-keeps, given-keeps, changes-keeps, then-keeps, goes-keeps, next-alters, assigned-gives) depth 8

pub copy_cells-alters : {p : Image} (text : Image) (target source : Variable) → Alters p (copy_cells text target source)
copy_cells-alters text target source = record {
  at = λ w right. (put_cells-alters target.within target.place (cells_from w source (declaration_of text source.declared).cells)).at w right;
}

array_copied-gives : {p : Image} (text : Image) (q : Seen) (target source : ObjectName) → Right p q.world → Gives p (array_copied text q target source)
array_copied-gives text q target source right =
    bind-gives (object_cell q target) (λ t. object_cell q source >>= λ f. Ok (copy_cells text t f q.world)) (λ t.
    bind-gives (object_cell q source) (λ f. Ok (copy_cells text t f q.world)) (λ f.
    ok-gives (copy_cells text t f q.world) ((copy_cells-alters text t f).at q.world right)))

pub assign_array-keeps : (p : Image) (name : Who) (s : StatementNo) (target source : ObjectName) → Keeps p (assign_array p name s target source)
unfolding assign_array
assign_array-keeps p name s target source =
    search (given_right-keeps, sees-keeps, given-keeps, changes-keeps, then-keeps, goes-keeps, next-alters, array_copied-gives) depth 8

-- ---- if and case (5.3, 5.4)

pub if_statement-keeps : (p : Image) (name : Who) (e : ExprNo) (first : StatementNo) (otherwise : Option StatementNo)
    → Keeps p (if_statement p name e first otherwise)
unfolding if_statement
if_statement-keeps p name e first otherwise = search (sees-keeps, given-keeps, goes-keeps) depth 6

pub go_to_alternative-keeps : {p : Image} (name : Who) (found : Option StatementNo) → Keeps p (go_to_alternative name found)
unfolding go_to_alternative
go_to_alternative-keeps name None = search (raises-keeps)
go_to_alternative-keeps name (Some first) = search (goes-keeps)

pub case_statement-keeps : (p : Image) (name : Who) (e : ExprNo) (alternatives : List CaseAlternative) → Keeps p (case_statement p name e alternatives)
unfolding case_statement
case_statement-keeps p name e alternatives = search (sees-keeps, given-keeps, go_to_alternative-keeps) depth 6

-- ---- loops (5.5)

pub while_turn-keeps : (p : Image) (name : Who) (s : StatementNo) (e : ExprNo) (body : StatementNo) → Keeps p (while_turn p name s e body)
unfolding while_turn
while_turn-keeps p name s e body = search (sees-keeps, given-keeps, goes-keeps) depth 6

pub put-alters : {p : Image} (v : Variable) (x : Value) → Alters p (put v x)
put-alters v x = search (write_cell-alters)

bounds_put-gives : {p : Image} (q : Seen) (reverse : Bool) (l h : Value) (x y : Variable) → Right p q.world → Gives p (bounds_put q reverse l h x y)
unfolding bounds_put
bounds_put-gives q reverse l h x y right =
    let first = put x (first_bound reverse l h) q.world in
    ok-gives (put y (last_bound reverse l h) first)
    ((put-alters y (last_bound reverse l h)).at first ((put-alters x (first_bound reverse l h)).at q.world right))

bounds_set-gives : {p : Image} (q : Seen) (d : DeclNo) (reverse : Bool) (low high : ExprNo) → Right p q.world → Gives p (bounds_set q d reverse low high)
unfolding bounds_put
bounds_set-gives q d reverse low high right =
    bind-gives (value q low) (λ l. value q high >>= λ h. loop_cell q d 0 >>= λ x. loop_cell q d 1 >>= bounds_put q reverse l h x) (λ l.
    bind-gives (value q high) (λ h. loop_cell q d 0 >>= λ x. loop_cell q d 1 >>= bounds_put q reverse l h x) (λ h.
    bind-gives (loop_cell q d 0) (λ x. loop_cell q d 1 >>= bounds_put q reverse l h x) (λ x.
    bind-gives (loop_cell q d 1) (bounds_put q reverse l h x) (λ y. bounds_put-gives q reverse l h x y right))))

pub for_bounds-keeps : (p : Image) (name : Who) (d : DeclNo) (reverse : Bool) (low high : ExprNo) (turn : StatementNo)
    → Keeps p (for_bounds p name d reverse low high turn)
unfolding for_bounds
for_bounds-keeps p name d reverse low high turn =
    search (given_right-keeps, sees-keeps, given-keeps, changes-keeps, then-keeps, goes-keeps, next-alters, bounds_set-gives) depth 8

pub first_turn-keeps : (p : Image) (name : Who) (s : StatementNo) (d : DeclNo) (reverse : Bool) (body : StatementNo)
    → Keeps p (first_turn p name s d reverse body)
unfolding first_turn
first_turn-keeps p name s d reverse body = search (sees-keeps, given-keeps, goes-keeps) depth 6

pub advance-keeps : {p : Image} (name : Who) (x : Variable) (reverse : Bool) (v : Value) (body : StatementNo) (past : Option StatementNo) (test : Bool)
    → Keeps p (advance name x reverse v body past test)
unfolding advance
advance-keeps name x reverse v body past true = search (goes-keeps)
advance-keeps name x reverse v body past false = search (changes-keeps, put-alters, then-keeps, goes-keeps) depth 7

pub later_turn-keeps : (p : Image) (name : Who) (s : StatementNo) (d : DeclNo) (reverse : Bool) (body : StatementNo)
    → Keeps p (later_turn p name s d reverse body)
unfolding later_turn
later_turn-keeps p name s d reverse body = search (sees-keeps, given-keeps, advance-keeps) depth 7

-- ---- exit (5.7)

pub exit_where-keeps : (p : Image) (name : Who) (s loop : StatementNo) (test : Bool) → Keeps p (exit_where p name s loop test)
unfolding exit_where
exit_where-keeps p name s loop true = search (exit_loop-keeps)
exit_where-keeps p name s loop false = search (goes-keeps)

pub exit_statement-keeps : (p : Image) (name : Who) (s loop : StatementNo) (found : Option ExprNo) → Keeps p (exit_statement p name s loop found)
unfolding exit_statement
exit_statement-keeps p name s loop None = search (exit_loop-keeps)
exit_statement-keeps p name s loop (Some e) = search (sees-keeps, given-keeps, exit_where-keeps) depth 6

-- ---- block (5.6)

pub block_statement-keeps : (p : Image) (name : Who) (s : StatementNo) (scope : ScopeNo) → Keeps p (block_statement p name s scope)
unfolding block_statement
block_statement-keeps p name s scope = search (with_room-keeps, goes-keeps, then-keeps, looks-keeps, changes-keeps, open_scope-alters) depth 9

-- ---- raise (11.3)

pub raise_again-keeps : (p : Image) (name : Who) (scope : ScopeNo) → Keeps p (raise_again p name scope)
unfolding raise_again
raise_again-keeps p name scope = search (sees-keeps, given-keeps, raises-keeps) depth 6

-- ---- delays (9.6)

pub wait_until-keeps : (p : Image) (name : Who) (until : ℤ) (future : Bool) → Keeps p (wait_until p name until future)
unfolding wait_until
wait_until-keeps p (who.Task t) until true = search (changes-keeps, appoint-alters, then-keeps, block-keeps) depth 7
wait_until-keeps p (who.Task t) until false = search (to_tail-keeps)
wait_until-keeps p who.Agent until future = search (nothing-keeps)

pub delay_to-keeps : (p : Image) (name : Who) (until : ℤ) → Keeps p (delay_to p name until)
unfolding delay_to
delay_to-keeps p name until = search (looks-keeps, wait_until-keeps)

pub delay_until-keeps : (p : Image) (name : Who) (s : StatementNo) (until : Valued ℤ) → Keeps p (delay_until p name s until)
unfolding delay_until
delay_until-keeps p name s until = search (looks-keeps, raise_if-keeps, given-keeps, goes-keeps, then-keeps, delay_to-keeps) depth 9

-- ---- Put_Line (A.10.7)

pub put_line-keeps : (p : Image) (name : Who) (s : StatementNo) (pieces : List Piece) → Keeps p (put_line p name s pieces)
unfolding put_line
put_line-keeps p name s pieces = search (sees-keeps, given-keeps, goes-keeps, then-keeps, says-keeps) depth 8
