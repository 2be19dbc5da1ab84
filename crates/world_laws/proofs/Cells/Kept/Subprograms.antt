-- Subprograms: each step keeps the cells right.
use Rattle.std.specs.Prelude.{List, [], ◌∷◌, Option, Some, None, Ok}
use Rattle.ann_base.specs.Results.{◌>>=◌}
use Rattle.ann_base.specs.declared.identities.CallNo.{CallNo}
use Rattle.trace_text.specs.declared.events.Who.{Who}
use Rattle.profile_image.specs.declared.image.Image.{Image}
use Rattle.profile_image.specs.declared.numbers.ExprNo.{ExprNo}
use Rattle.profile_image.specs.declared.numbers.StatementNo.{StatementNo}
use Rattle.profile_image.specs.declared.numbers.SubprogramNo.{SubprogramNo}
use Rattle.profile_machine.specs.declared.run_data.Leaving.{Leaving}
use Rattle.profile_image.specs.declared.statements.Actual.{Actual}
use Rattle.profile_image.specs.declared.statements.Destination.{Destination}
use Rattle.profile_image.specs.declared.values.Value.{Value}
use Rattle.profile_machine.specs.declared.world.World.{World}
use Rattle.profile_machine.specs.declared.world.marks.ResultTo.{ResultTo}
use Rattle.profile_machine.specs.declared.world.marks.CopyBack.{CopyBack}
use Rattle.profile_machine.specs.declared.world.marks.ResultTo.TheVariants as bound_for
use Rattle.profile_image.specs.Program.{subprogram_of}
use Rattle.profile_machine.specs.declared.world.lines.Part.TheVariants.{Own}
use Rattle.profile_machine.specs.Steps.{Step, changes}
use Rattle.profile_machine.specs.declared.world.scopes.Beginning.{Beginning}
use Rattle.profile_machine.specs.declared.world.scopes.Handed.{Handed}
use Rattle.profile_machine.specs.Scopes.{home, write_cell}
use Rattle.profile_machine.specs.Operators.{Valued, checked}
use Rattle.profile_machine.specs.Values.{Seen, or_misfit}
use Rattle.profile_machine.specs.CallEnds.{store}
use Rattle.profile_machine.specs.declared.world.scopes.ScopeId.{ScopeId}
use Rattle.profile_machine.specs.Subprograms.{begin_body, handing, call_subprogram, result_place, result_kept, return_result}
use Rattle.profile_machine.specs.Subprograms.{return_value, drop_sending, return, cell_in, copy_parameters, store_result, end_subprogram}
use Rattle.world_laws.proofs.Cells.RightCells.{Right, Keeps, Alters, Gives, then-keeps, nothing-keeps, changes-keeps}
use Rattle.world_laws.proofs.Cells.RightCells.{looks-keeps, sees-keeps, unchanged-alters, next-alters, ok-gives, bind-gives}
use Rattle.world_laws.proofs.Cells.Kept.Frames.{goes-keeps, leaves-keeps, given-keeps, given_right-keeps, raise_if-keeps, with_room-keeps}
use Rattle.world_laws.proofs.Cells.Kept.Scopes.{write_cell-alters, open_scope-alters}
use Rattle.world_laws.proofs.Cells.Kept.Calls.{edit_call-alters}
use Rattle.world_laws.proofs.Cells.Kept.CallEnds.{store-gives}
use Rattle.world_laws.proofs.Cells.Kept.Statements.{becomes-keeps}

-- ---- the call of a subprogram that is no protected operation

pub begin_body-keeps : (p : Image) (name : Who) (s : StatementNo) (f : SubprogramNo) (b : Beginning) (h : Handed) (to : ResultTo)
    → Keeps p (begin_body p name s f b h to)
unfolding begin_body
begin_body-keeps p name s f b h to = search (goes-keeps, then-keeps, changes-keeps, open_scope-alters) depth 7

pub handing-keeps : (p : Image) (name : Who) (f : SubprogramNo) (actuals : List Actual) (to : Destination) (step : Handed → ResultTo → Step)
    → ((x : Handed) (y : ResultTo) → Keeps p (step x y)) → Keeps p (handing p name f actuals to step)
handing-keeps p name f actuals to step kept = search (sees-keeps, given-keeps) depth 6

pub call_subprogram-keeps : (p : Image) (name : Who) (s : StatementNo) (f : SubprogramNo) (actuals : List Actual) (to : Destination)
    → Keeps p (call_subprogram p name s f actuals to)
unfolding call_subprogram
call_subprogram-keeps p name s f actuals to = search (with_room-keeps, handing-keeps, sees-keeps, begin_body-keeps) depth 7

-- ---- return (6.5)

result_put : Seen → SubprogramNo → Value → ScopeId → Valued World
result_put q f x id = Ok (write_cell id (result_place q.program f) x q.world)

result_put-gives : {p : Image} (q : Seen) (f : SubprogramNo) (x : Value) (id : ScopeId) → Right p q.world → Gives p (result_put q f x id)
unfolding result_put
result_put-gives q f x id right =
    ok-gives (write_cell id (result_place q.program f) x q.world) ((write_cell-alters id (result_place q.program f) x).at q.world right)

result_kept-gives : {p : Image} (q : Seen) (f : SubprogramNo) (v : Value) → Right p q.world → Gives p (result_kept q f v)
unfolding result_put
result_kept-gives q f v right =
    bind-gives (or_misfit (subprogram_of q.program f).result)
    (λ range. checked range v >>= λ x. or_misfit (home q.world (subprogram_of q.program f).scope q.within) >>= result_put q f x) (λ range.
    bind-gives (checked range v) (λ x. or_misfit (home q.world (subprogram_of q.program f).scope q.within) >>= result_put q f x) (λ x.
    bind-gives (or_misfit (home q.world (subprogram_of q.program f).scope q.within)) (result_put q f x) (λ id. result_put-gives q f x id right)))

pub return_result-keeps : (p : Image) (name : Who) (f : SubprogramNo) (v : Value) → Keeps p (return_result p name f v)
unfolding return_result
return_result-keeps p name f v =
    search (given_right-keeps, sees-keeps, given-keeps, changes-keeps, then-keeps, leaves-keeps, next-alters, result_kept-gives) depth 8

pub return_value-keeps : (p : Image) (name : Who) (f : SubprogramNo) (e : ExprNo) → Keeps p (return_value p name f e)
unfolding return_value
return_value-keeps p name f e = search (sees-keeps, given-keeps, return_result-keeps) depth 6

pub drop_sending-alters : {p : Image} (found : Option CallNo) → Alters p (drop_sending found)
drop_sending-alters None = search (unchanged-alters)
drop_sending-alters (Some c) = search (edit_call-alters)

pub return-keeps : {p : Image} (name : Who) → Keeps p (return name)
unfolding return
return-keeps name = search (looks-keeps, changes-keeps, drop_sending-alters, then-keeps, leaves-keeps) depth 8

-- ---- the end of a subprogram's scope

pub copy_parameters-keeps : (p : Image) (name : Who) (cells : List Value) (back : List CopyBack) (step : Step) → Keeps p step
    → Keeps p (copy_parameters p name cells back step)
copy_parameters-keeps p name cells [] step kept = kept
copy_parameters-keeps p name cells (b ∷ bs) step kept =
    looks-keeps _
    (λ w right.
    given_right-keeps Own name (store p b.target (cell_in cells b.place) w) _ (store-gives p b.target (cell_in cells b.place) w right) (λ next right_next.
    then-keeps (changes (λ _. next)) (copy_parameters p name cells bs step) (changes-keeps _ (next-alters next right_next))
    (copy_parameters-keeps p name cells bs step kept)))

pub store_result-keeps : (p : Image) (name : Who) (cells : List Value) (to : ResultTo) → Keeps p (store_result p name cells to)
unfolding store_result
store_result-keeps p name cells bound_for.Nowhere = search (nothing-keeps)
store_result-keeps p name cells (bound_for.Variable v) = search (looks-keeps, becomes-keeps, store-gives)
store_result-keeps p name cells (bound_for.Return f) = search (return_result-keeps)

pub end_subprogram-keeps : (p : Image) (name : Who) (cells : List Value) (back : List CopyBack) (to : ResultTo) (leaving : Leaving)
    → Keeps p (end_subprogram p name cells back to leaving)
unfolding end_subprogram
end_subprogram-keeps p name cells back to leaving = search (raise_if-keeps, copy_parameters-keeps, store_result-keeps) depth 6
