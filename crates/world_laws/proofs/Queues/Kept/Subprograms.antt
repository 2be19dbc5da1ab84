-- Calls of subprograms: each step keeps a relation that its parts keep.
use Rattle.std.proofs.Common.{refl}
use Rattle.std.specs.Prelude.{List, [], ◌∷◌, Option, Some, None, Ok}
use Rattle.ann_base.specs.Results.{◌>>=◌}
use Rattle.ann_base.specs.declared.identities.CallNo.{CallNo}
use Rattle.trace_text.specs.declared.events.Who.{Who}
use Rattle.profile_machine.specs.declared.world.scopes.Handed.{Handed}
use Rattle.profile_image.specs.declared.image.Image.{Image}
use Rattle.profile_image.specs.declared.numbers.ExprNo.{ExprNo}
use Rattle.profile_image.specs.declared.numbers.StatementNo.{StatementNo}
use Rattle.profile_image.specs.declared.numbers.SubprogramNo.{SubprogramNo}
use Rattle.profile_machine.specs.declared.run_data.Leaving.{Leaving}
use Rattle.profile_machine.specs.declared.run_data.Leaving.TheVariants as how
use Rattle.profile_image.specs.declared.statements.Actual.{Actual}
use Rattle.profile_image.specs.declared.statements.Destination.{Destination}
use Rattle.profile_image.specs.declared.values.Value.{Value}
use Rattle.profile_machine.specs.declared.world.marks.ResultTo.{ResultTo}
use Rattle.profile_machine.specs.declared.world.marks.CopyBack.{CopyBack}
use Rattle.profile_machine.specs.declared.world.marks.ResultTo.TheVariants as bound_for
use Rattle.profile_image.specs.Program.{subprogram_of}
use Rattle.profile_machine.specs.Statements.{becomes}
use Rattle.profile_machine.specs.declared.world.lines.Part.TheVariants.{Own}
use Rattle.profile_machine.specs.Steps.{Step}
use Rattle.profile_machine.specs.Frames.{leaves}
use Rattle.profile_machine.specs.declared.world.scopes.Beginning.{Beginning}
use Rattle.profile_machine.specs.Scopes.{home, write_cell}
use Rattle.profile_machine.specs.Operators.{checked}
use Rattle.profile_machine.specs.Values.{Seen, or_misfit}
use Rattle.profile_machine.specs.CallEnds.{store}
use Rattle.profile_machine.specs.Subprograms.{without_sending, begin_body, handing, call_subprogram, result_place, result_kept, return_result}
use Rattle.profile_machine.specs.Subprograms.{return_value, drop_sending, return, cell_in, copy_parameters, last_cell, store_result, end_subprogram}
use Rattle.profile_machine.specs.Values.{seen_by}
use Rattle.world_laws.proofs.Queues.Kept.Combinators.{Alters, Gives, Keeps, bind-gives, changes-keeps, looks-from, looks-keeps}
use Rattle.world_laws.proofs.Queues.Kept.Combinators.{nothing-keeps, ok-gives, quiets-alters, sees-keeps, then-keeps, unchanged-alters}
use Rattle.world_laws.proofs.Queues.Kept.Frames.{becomes-from, edit_call-quiets, given-keeps, given_world-from, goes-keeps, leaves-keeps}
use Rattle.world_laws.proofs.Queues.Kept.Frames.{open_scope-alters, raise_if-keeps, store-gives, with_room-keeps, write_cell-quiets}
use Rattle.world_laws.proofs.Queues.Standing.{Kind}

pub handing-keeps : {E : Kind} (p : Image) (name : Who) (f : SubprogramNo) (actuals : List Actual) (to : Destination) (step : Handed → ResultTo → Step)
    → ((x : Handed) (y : ResultTo) → Keeps E name (step x y)) → Keeps E name (handing p name f actuals to step)
handing-keeps p name f actuals to step kept = search (sees-keeps, given-keeps) depth 6

result_kept-gives : {E : Kind} (q : Seen) (f : SubprogramNo) (v : Value) → Gives E q.world (result_kept q f v)
result_kept-gives q f v =
    let place = result_place q.program f in
    let scope = or_misfit (home q.world (subprogram_of q.program f).scope q.within) in
    bind-gives (or_misfit (subprogram_of q.program f).result) (λ range. checked range v >>= λ x. scope >>= λ id. Ok (write_cell id place x q.world)) q.world
    (λ range.
    bind-gives (checked range v) (λ x. scope >>= λ id. Ok (write_cell id place x q.world)) q.world (λ x.
    bind-gives scope (λ id. Ok (write_cell id place x q.world)) q.world (λ id.
    ok-gives q.world (write_cell id place x q.world) ((write_cell-quiets id place x).at q.world))))

pub return_result-keeps : {E : Kind} (p : Image) (name : Who) (f : SubprogramNo) (v : Value) → Keeps E name (return_result p name f v)
unfolding return_result
return_result-keeps p name f v =
    looks-from _ (λ w good.
    given_world-from Own name (result_kept (seen_by p w name) f v) (λ _. leaves name how.Return) w good
    (result_kept-gives (seen_by p w name) f v) (λ _. leaves-keeps name how.Return))

pub return_value-keeps : {E : Kind} (p : Image) (name : Who) (f : SubprogramNo) (e : ExprNo) → Keeps E name (return_value p name f e)
unfolding return_value
return_value-keeps p name f e = search (sees-keeps, given-keeps, return_result-keeps) depth 6

pub drop_sending-alters : {E : Kind} {name : Who} (c : Option CallNo) → Alters E name (drop_sending c)
drop_sending-alters None = search (unchanged-alters)
drop_sending-alters (Some c) =
    quiets-alters _
    (edit_call-quiets c without_sending record {
      number = λ d. refl;
      owner = λ d. refl;
      entry = λ d. refl;
      caller = λ d. refl;
      begun = λ d. refl;
      outcome = λ d. refl;
      firm = λ d. refl;
    })

pub return-keeps : {E : Kind} (name : Who) → Keeps E name (return name)
unfolding return
return-keeps name = search (looks-keeps, changes-keeps, drop_sending-alters, then-keeps, leaves-keeps)

pub copy_parameters-keeps : {E : Kind} (p : Image) (name : Who) (cells : List Value) (back : List CopyBack) (step : Step) → Keeps E name step
    → Keeps E name (copy_parameters p name cells back step)
copy_parameters-keeps p name cells [] step k = k
copy_parameters-keeps p name cells (b ∷ bs) step k =
    looks-from _ (λ w good.
    given_world-from Own name (store p b.target (cell_in cells b.place) w) (λ _. copy_parameters p name cells bs step) w good
    (store-gives p b.target (cell_in cells b.place) w) (λ _. copy_parameters-keeps p name cells bs step k))

pub store_result-keeps : {E : Kind} (p : Image) (name : Who) (cells : List Value) (to : ResultTo) → Keeps E name (store_result p name cells to)
unfolding store_result becomes
store_result-keeps p name cells bound_for.Nowhere = search (nothing-keeps)
store_result-keeps p name cells (bound_for.Variable v) =
    looks-from _ (λ w good. becomes-from Own name (store p v (last_cell cells) w) w (store-gives p v (last_cell cells) w))
store_result-keeps p name cells (bound_for.Return f) = search (return_result-keeps)

pub end_subprogram-keeps : {E : Kind} (p : Image) (name : Who) (cells : List Value) (back : List CopyBack) (to : ResultTo) (leaving : Leaving)
    → Keeps E name (end_subprogram p name cells back to leaving)
unfolding end_subprogram
end_subprogram-keeps p name cells back to leaving = search (raise_if-keeps, copy_parameters-keeps, store_result-keeps)

pub begin_body-keeps : {E : Kind} (p : Image) (name : Who) (s : StatementNo) (f : SubprogramNo) (b : Beginning) (h : Handed) (to : ResultTo)
    → Keeps E name (begin_body p name s f b h to)
unfolding begin_body
begin_body-keeps p name s f b h to = search (goes-keeps, then-keeps, changes-keeps, open_scope-alters)

pub call_subprogram-keeps : {E : Kind} (p : Image) (name : Who) (s : StatementNo) (f : SubprogramNo) (actuals : List Actual) (to : Destination)
    → Keeps E name (call_subprogram p name s f actuals to)
unfolding call_subprogram
call_subprogram-keeps p name s f actuals to = search (with_room-keeps, handing-keeps, sees-keeps, begin_body-keeps)
