-- Results and parameters of subprograms: each step keeps a relation that its parts keep.
use Rattle.std.specs.Prelude.{List, [], ◌∷◌, Option, Some, None, Ok, slice_set}
use Rattle.ann_base.specs.Results.{◌>>=◌}
use Rattle.ann_base.specs.declared.identities.CallNo.{CallNo}
use Rattle.trace_text.specs.declared.events.Who.{Who}
use Rattle.profile_machine.specs.declared.world.scopes.Handed.{Handed}
use Rattle.profile_image.specs.declared.image.Image.{Image}
use Rattle.profile_image.specs.declared.numbers.ExprNo.{ExprNo}
use Rattle.profile_image.specs.declared.numbers.SubprogramNo.{SubprogramNo}
use Rattle.profile_machine.specs.declared.run_data.Leaving.{Leaving}
use Rattle.profile_machine.specs.declared.run_data.Leaving.TheVariants as how
use Rattle.profile_image.specs.declared.statements.Actual.{Actual}
use Rattle.profile_image.specs.declared.statements.Destination.{Destination}
use Rattle.profile_image.specs.declared.values.Value.{Value}
use Rattle.profile_machine.specs.declared.world.marks.ResultTo.{ResultTo}
use Rattle.profile_machine.specs.declared.world.marks.CopyBack.{CopyBack}
use Rattle.profile_machine.specs.declared.world.marks.ResultTo.TheVariants as bound_for
use Rattle.profile_image.specs.Program.{subprogram_of}
use Rattle.profile_machine.specs.Statements.{becomes}
use Rattle.profile_machine.specs.declared.world.lines.Part.TheVariants.{Own}
use Rattle.profile_machine.specs.Steps.{Step}
use Rattle.profile_machine.specs.Frames.{leaves}
use Rattle.profile_machine.specs.Scopes.{home, write_cell}
use Rattle.profile_machine.specs.Operators.{checked}
use Rattle.profile_machine.specs.Values.{Seen, or_misfit, seen_by}
use Rattle.profile_machine.specs.CallEnds.{store}
use Rattle.profile_machine.specs.Subprograms.{handing, result_place, result_kept, return_result, return_value, drop_sending}
use Rattle.profile_machine.specs.Subprograms.{return, cell_in, copy_parameters, last_cell, store_result, end_subprogram}
use Rattle.machine_laws.proofs.Moves.{StepRelation}
use Rattle.machine_laws.proofs.FineMoves.{GoodWorld, Naming}
use Rattle.machine_laws.proofs.Kept.Combinators.{Alters, Gives, Keeps, bind-gives, changes-keeps, looks-from, looks-keeps}
use Rattle.machine_laws.proofs.Kept.Combinators.{nothing-keeps, ok-gives, sees-keeps, then-keeps, unchanged-alters}
use Rattle.machine_laws.proofs.Plain.Calls.{edit_call-alters}
use Rattle.machine_laws.proofs.Plain.Cells.{store-gives}
use Rattle.machine_laws.proofs.Plain.Frames.{becomes-from, given-keeps, given_world-from, raise_if-keeps}
use Rattle.machine_laws.proofs.Plain.PlainSteps.{PlainSteps}

module _ {G : GoodWorld} {Goes : Naming} {R : StepRelation} (plain : PlainSteps G Goes R) where
  pub handing-keeps : (p : Image) (name : Who) (f : SubprogramNo) (actuals : List Actual) (to : Destination) (step : Handed → ResultTo → Step)
      → ((x : Handed) (y : ResultTo) → Keeps G R (step x y)) → Keeps G R (handing p name f actuals to step)
  handing-keeps p name f actuals to step kept = search (sees-keeps, given-keeps, plain.chains) depth 7

  result_kept-gives : (q : Seen) (f : SubprogramNo) (v : Value) → G q.world → Gives R q.world (result_kept q f v)
  result_kept-gives q f v good =
      let place = result_place q.program f in
      let scope = or_misfit (home q.world (subprogram_of q.program f).scope q.within) in
      bind-gives plain.chains (or_misfit (subprogram_of q.program f).result)
      (λ range. checked range v >>= λ x. scope >>= λ id. Ok (write_cell id place x q.world)) q.world (λ range.
      bind-gives plain.chains (checked range v) (λ x. scope >>= λ id. Ok (write_cell id place x q.world)) q.world (λ x.
      bind-gives plain.chains scope (λ id. Ok (write_cell id place x q.world)) q.world (λ id.
      ok-gives plain.chains q.world (write_cell id place x q.world) (plain.edits_cells id (λ cells. slice_set cells place x) q.world good))))

  pub return_result-keeps : (p : Image) (name : Who) (f : SubprogramNo) (v : Value) → Keeps G R (return_result p name f v)
  unfolding return_result
  return_result-keeps p name f v =
      looks-from plain.chains _ (λ w good.
      given_world-from plain Own name (result_kept (seen_by p w name) f v) (λ _. leaves name how.Return) w good
      (result_kept-gives (seen_by p w name) f v good) (λ _. plain.leaves name how.Return))

  pub return_value-keeps : (p : Image) (name : Who) (f : SubprogramNo) (e : ExprNo) → Keeps G R (return_value p name f e)
  unfolding return_value
  return_value-keeps p name f e = search (sees-keeps, given-keeps, return_result-keeps, plain.chains) depth 7

  pub drop_sending-alters : (c : Option CallNo) → Alters G R (drop_sending c)
  drop_sending-alters None = search (unchanged-alters, plain.chains)
  drop_sending-alters (Some c) = search (edit_call-alters)

  pub return-keeps : (name : Who) → Keeps G R (return name)
  unfolding return
  return-keeps name = search (looks-keeps, changes-keeps, drop_sending-alters, then-keeps, plain.leaves, plain.chains)

  pub copy_parameters-keeps : (p : Image) (name : Who) (cells : List Value) (back : List CopyBack) (step : Step) → Keeps G R step
      → Keeps G R (copy_parameters p name cells back step)
  copy_parameters-keeps p name cells [] step k = k
  copy_parameters-keeps p name cells (b ∷ bs) step k =
      looks-from plain.chains _ (λ w good.
      given_world-from plain Own name (store p b.target (cell_in cells b.place) w) (λ _. copy_parameters p name cells bs step) w good
      (store-gives plain p b.target (cell_in cells b.place) w good) (λ _. copy_parameters-keeps p name cells bs step k))

  pub store_result-keeps : (p : Image) (name : Who) (cells : List Value) (to : ResultTo) → Keeps G R (store_result p name cells to)
  unfolding store_result becomes
  store_result-keeps p name cells bound_for.Nowhere = search (nothing-keeps, plain.chains)
  store_result-keeps p name cells (bound_for.Variable v) =
      looks-from plain.chains _ (λ w good. becomes-from plain Own name (store p v (last_cell cells) w) w good (store-gives plain p v (last_cell cells) w good))
  store_result-keeps p name cells (bound_for.Return f) = search (return_result-keeps)

  pub end_subprogram-keeps : (p : Image) (name : Who) (cells : List Value) (back : List CopyBack) (to : ResultTo) (leaving : Leaving)
      → Keeps G R (end_subprogram p name cells back to leaving)
  unfolding end_subprogram
  end_subprogram-keeps p name cells back to leaving = search (raise_if-keeps, copy_parameters-keeps, store_result-keeps)
