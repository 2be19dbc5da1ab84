-- Simple and compound statements: each step keeps a relation that its parts keep.
use Rattle.std.proofs.Common.{refl}
use Rattle.std.specs.Prelude.{ℤ, pos, int_lt, Bool, true, false, List, Option, Some, None, Ok}
use Rattle.ann_base.specs.Results.{◌>>=◌}
use Rattle.trace_text.specs.declared.events.Who.{Who}
use Rattle.trace_text.specs.declared.events.Who.TheVariants as who
use Rattle.profile_image.specs.declared.image.Image.{Image}
use Rattle.profile_image.specs.declared.numbers.DeclNo.{DeclNo}
use Rattle.profile_image.specs.declared.numbers.ExprNo.{ExprNo}
use Rattle.profile_image.specs.declared.numbers.ScopeNo.{ScopeNo}
use Rattle.profile_image.specs.declared.numbers.StatementNo.{StatementNo}
use Rattle.profile_image.specs.declared.expressions.ObjectName.{ObjectName}
use Rattle.profile_image.specs.declared.expressions.VariableName.{VariableName}
use Rattle.profile_image.specs.declared.statements.CaseAlternative.{CaseAlternative}
use Rattle.profile_image.specs.declared.statements.Piece.{Piece}
use Rattle.profile_image.specs.declared.values.Value.{Value}
use Rattle.profile_machine.specs.declared.world.scopes.Variable.{Variable}
use Rattle.profile_machine.specs.declared.world.appointments.Due.TheVariants as due_for
use Rattle.profile_machine.specs.declared.world.tasks.Waiting.TheVariants as waits_for
use Rattle.profile_image.specs.Program.{declaration_of, next_of}
use Rattle.profile_machine.specs.declared.world.lines.Part.TheVariants.{Own, TheBlock}
use Rattle.profile_machine.specs.Frames.{goes}
use Rattle.profile_machine.specs.Operators.{Valued}
use Rattle.profile_machine.specs.Values.{Seen, seen_by, value, variable, object_cell}
use Rattle.profile_machine.specs.CallEnds.{store}
use Rattle.profile_machine.specs.Statements.{null, assign, cells_from, copy_cells, array_copied, assign_array, if_statement, go_to_alternative, case_statement}
use Rattle.profile_machine.specs.Statements.{while_turn, loop_cell, put, first_bound, last_bound, bounds_set, for_bounds, first_turn, advance, later_turn}
use Rattle.profile_machine.specs.Statements.{exit_where, exit_statement, block_statement, raise_again, wait_until, delay_to, delay_until, put_line}
use Rattle.profile_machine.specs.Scopes.{put_cells}
use Rattle.world_laws.proofs.Queues.Kept.Combinators.{Alters, Gives, Keeps, Quiets, bind-gives, changes-keeps, looks-from}
use Rattle.world_laws.proofs.Queues.Kept.Combinators.{looks-keeps, nothing-keeps, ok-gives, says-keeps, sees-keeps, then-keeps}
use Rattle.world_laws.proofs.Queues.Kept.Frames.{appoint-keeps, block-keeps, edit_cells-quiets, exit_loop-keeps, given-keeps}
use Rattle.world_laws.proofs.Queues.Kept.Frames.{given_world-from, goes-keeps, open_scope-alters, raise_if-keeps, raises-keeps}
use Rattle.world_laws.proofs.Queues.Kept.Frames.{store-gives, to_tail-keeps, with_room-keeps, write_cell-alters, write_cell-quiets}
use Rattle.world_laws.proofs.Queues.Standing.{Kind, calm-then}
use Rattle.ceiling_laws.proofs.Fine.Kept.Statements.{bounds_put}

pub null-keeps : {E : Kind} (p : Image) (name : Who) (s : StatementNo) → Keeps E name (null p name s)
unfolding null
null-keeps p name s = search (goes-keeps)

pub assign-keeps : {E : Kind} (p : Image) (name : Who) (s : StatementNo) (target : VariableName) (e : ExprNo) → Keeps E name (assign p name s target e)
unfolding assign
assign-keeps p name s target e =
    looks-from _ (λ w good. let q = seen_by p w name in
    given_world-from Own name (variable q target >>= λ v. value q e >>= λ x. store p v x w) (λ _. goes name (next_of p s)) w good
    (bind-gives (variable q target) (λ v. value q e >>= λ x. store p v x w) w (λ v. bind-gives (value q e) (λ x. store p v x w) w (λ x. store-gives p v x w)))
    (λ _. goes-keeps name (next_of p s)))

pub copy_cells-quiets : {E : Kind} (p : Image) (target source : Variable) → Quiets E (copy_cells p target source)
copy_cells-quiets p target source = record {
  at = λ w. (edit_cells-quiets target.within (put_cells target.place (cells_from w source (declaration_of p source.declared).cells))).at w;
}

array_copied-gives : {E : Kind} (p : Image) (q : Seen) (target source : ObjectName) → Gives E q.world (array_copied p q target source)
array_copied-gives p q target source =
    bind-gives (object_cell q target) (λ t. object_cell q source >>= λ f. Ok (copy_cells p t f q.world)) q.world (λ t.
    bind-gives (object_cell q source) (λ f. Ok (copy_cells p t f q.world)) q.world (λ f.
    ok-gives q.world (copy_cells p t f q.world) ((copy_cells-quiets p t f).at q.world)))

pub assign_array-keeps : {E : Kind} (p : Image) (name : Who) (s : StatementNo) (target source : ObjectName) → Keeps E name (assign_array p name s target source)
unfolding assign_array
assign_array-keeps p name s target source =
    looks-from _ (λ w good.
    given_world-from Own name (array_copied p (seen_by p w name) target source) (λ _. goes name (next_of p s)) w good
    (array_copied-gives p (seen_by p w name) target source) (λ _. goes-keeps name (next_of p s)))

pub if_statement-keeps : {E : Kind} (p : Image) (name : Who) (e : ExprNo) (first : StatementNo) (otherwise : Option StatementNo)
    → Keeps E name (if_statement p name e first otherwise)
unfolding if_statement
if_statement-keeps p name e first otherwise = search (sees-keeps, given-keeps, goes-keeps) depth 6

go_to_alternative-keeps : {E : Kind} (name : Who) (first : Option StatementNo) → Keeps E name (go_to_alternative name first)
unfolding go_to_alternative
go_to_alternative-keeps name None = search (raises-keeps)
go_to_alternative-keeps name (Some s) = search (goes-keeps)

pub case_statement-keeps : {E : Kind} (p : Image) (name : Who) (e : ExprNo) (alternatives : List CaseAlternative)
    → Keeps E name (case_statement p name e alternatives)
unfolding case_statement
case_statement-keeps p name e alternatives = search (sees-keeps, given-keeps, go_to_alternative-keeps) depth 6

pub while_turn-keeps : {E : Kind} (p : Image) (name : Who) (s : StatementNo) (e : ExprNo) (body : StatementNo) → Keeps E name (while_turn p name s e body)
unfolding while_turn
while_turn-keeps p name s e body = search (sees-keeps, given-keeps, goes-keeps) depth 6

pub put-alters : {E : Kind} {name : Who} (v : Variable) (x : Value) → Alters E name (put v x)
put-alters v x = search (write_cell-alters)

bounds_put-gives : {E : Kind} (q : Seen) (reverse : Bool) (l h : Value) (x y : Variable) → Gives E q.world (bounds_put q reverse l h x y)
unfolding bounds_put
bounds_put-gives q reverse l h x y =
    let first = put x (first_bound reverse l h) q.world in
    ok-gives q.world (put y (last_bound reverse l h) first)
    (calm-then q.world first (put y (last_bound reverse l h) first) ((write_cell-quiets x.within x.place (first_bound reverse l h)).at q.world)
    ((write_cell-quiets y.within y.place (last_bound reverse l h)).at first))

bounds_set-gives : {E : Kind} (q : Seen) (d : DeclNo) (reverse : Bool) (low high : ExprNo) → Gives E q.world (bounds_set q d reverse low high)
unfolding bounds_put
bounds_set-gives q d reverse low high =
    bind-gives (value q low) (λ l. value q high >>= λ h. loop_cell q d 0 >>= λ x. loop_cell q d 1 >>= bounds_put q reverse l h x) q.world (λ l.
    bind-gives (value q high) (λ h. loop_cell q d 0 >>= λ x. loop_cell q d 1 >>= bounds_put q reverse l h x) q.world (λ h.
    bind-gives (loop_cell q d 0) (λ x. loop_cell q d 1 >>= bounds_put q reverse l h x) q.world (λ x.
    bind-gives (loop_cell q d 1) (bounds_put q reverse l h x) q.world (λ y. bounds_put-gives q reverse l h x y))))

pub for_bounds-keeps : {E : Kind} (p : Image) (name : Who) (d : DeclNo) (reverse : Bool) (low high : ExprNo) (turn : StatementNo)
    → Keeps E name (for_bounds p name d reverse low high turn)
unfolding for_bounds
for_bounds-keeps p name d reverse low high turn =
    looks-from _ (λ w good.
    given_world-from Own name (bounds_set (seen_by p w name) d reverse low high) (λ _. goes name (Some turn)) w good
    (bounds_set-gives (seen_by p w name) d reverse low high) (λ _. goes-keeps name (Some turn)))

pub first_turn-keeps : {E : Kind} (p : Image) (name : Who) (s : StatementNo) (d : DeclNo) (reverse : Bool) (body : StatementNo)
    → Keeps E name (first_turn p name s d reverse body)
unfolding first_turn
first_turn-keeps p name s d reverse body = search (sees-keeps, given-keeps, goes-keeps) depth 6

pub advance-keeps : {E : Kind} (name : Who) (x : Variable) (reverse : Bool) (v : Value) (body : StatementNo) (past : Option StatementNo) (test : Bool)
    → Keeps E name (advance name x reverse v body past test)
unfolding advance
advance-keeps name x reverse v body past true = search (goes-keeps)
advance-keeps name x reverse v body past false = search (changes-keeps, put-alters, then-keeps, goes-keeps)

pub later_turn-keeps : {E : Kind} (p : Image) (name : Who) (s : StatementNo) (d : DeclNo) (reverse : Bool) (body : StatementNo)
    → Keeps E name (later_turn p name s d reverse body)
unfolding later_turn
later_turn-keeps p name s d reverse body = search (sees-keeps, given-keeps, advance-keeps) depth 6

pub exit_where-keeps : {E : Kind} (p : Image) (name : Who) (s loop : StatementNo) (test : Bool) → Keeps E name (exit_where p name s loop test)
unfolding exit_where
exit_where-keeps p name s loop true = search (exit_loop-keeps)
exit_where-keeps p name s loop false = search (goes-keeps)

pub exit_statement-keeps : {E : Kind} (p : Image) (name : Who) (s loop : StatementNo) (e : Option ExprNo) → Keeps E name (exit_statement p name s loop e)
unfolding exit_statement
exit_statement-keeps p name s loop None = search (exit_loop-keeps)
exit_statement-keeps p name s loop (Some e) = search (sees-keeps, given-keeps, exit_where-keeps) depth 6

pub raise_again-keeps : {E : Kind} (p : Image) (name : Who) (scope : ScopeNo) → Keeps E name (raise_again p name scope)
unfolding raise_again
raise_again-keeps p name scope = search (sees-keeps, given-keeps, raises-keeps) depth 6

wait_until-keeps : {E : Kind} {name : Who} (p : Image) (someone : Who) (until : ℤ) (test : Bool) → Keeps E name (wait_until p someone until test)
unfolding wait_until
wait_until-keeps p (who.Task t) until true =
    then-keeps _ _ (appoint-keeps (due_for.Delay t) until refl) (block-keeps TheBlock (who.Task t) waits_for.Moment refl)
wait_until-keeps p (who.Task t) until false = search (to_tail-keeps)
wait_until-keeps p who.Agent until future = nothing-keeps

pub delay_to-keeps : {E : Kind} {name : Who} (p : Image) (someone : Who) (until : ℤ) → Keeps E name (delay_to p someone until)
unfolding delay_to
delay_to-keeps p someone until = looks-keeps _ (λ w. wait_until-keeps p someone until (int_lt (pos w.time) until))

pub delay_until-keeps : {E : Kind} (p : Image) (name : Who) (s : StatementNo) (until : Valued ℤ) → Keeps E name (delay_until p name s until)
unfolding delay_until
delay_until-keeps p name s until = search (looks-keeps, raise_if-keeps, given-keeps, goes-keeps, then-keeps, delay_to-keeps) depth 7

pub put_line-keeps : {E : Kind} (p : Image) (name : Who) (s : StatementNo) (pieces : List Piece) → Keeps E name (put_line p name s pieces)
unfolding put_line
put_line-keeps p name s pieces = search (sees-keeps, given-keeps, goes-keeps, then-keeps, says-keeps) depth 7

pub block_statement-keeps : {E : Kind} (p : Image) (name : Who) (s : StatementNo) (scope : ScopeNo) → Keeps E name (block_statement p name s scope)
unfolding block_statement
block_statement-keeps p name s scope = search (with_room-keeps, goes-keeps, then-keeps, looks-keeps, changes-keeps, open_scope-alters)
