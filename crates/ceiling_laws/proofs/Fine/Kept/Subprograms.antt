-- Calls of subprograms: each step keeps what its parts keep.
use Rattle.ann_base.specs.Results.{◌>>=◌}
use Rattle.ann_base.specs.declared.identities.CallNo.{CallNo}
use Rattle.ceiling_laws.proofs.Fine.Kept.Calls.{edit_call-alters}
use Rattle.ceiling_laws.proofs.Fine.Kept.Frames.{Gives, becomes-keeps, bind-gives, given-keeps, given-through, given_world-keeps}
use Rattle.ceiling_laws.proofs.Fine.Kept.Frames.{goes-keeps, leaves-keeps, ok-gives, raise_if-keeps, with_room-keeps}
use Rattle.ceiling_laws.proofs.Fine.Kept.Scopes.{cells-same, open_scope-alters}
use Rattle.ceiling_laws.proofs.Fine.Kept.Statements.{store-gives}
use Rattle.ceiling_laws.proofs.Fine.LevelMoves.{Silences}
use Rattle.ceiling_laws.proofs.Runs.Triples.{Alters, Keeps, Leads, State, changes-keeps, looks-keeps, looks-with}
use Rattle.ceiling_laws.proofs.Runs.Triples.{nothing-keeps, sees-keeps, sees-leads, then-keeps, unchanged-alters}
use Rattle.profile_machine.specs.CallEnds.{store}
use Rattle.profile_machine.specs.Frames.{leaves}
use Rattle.profile_machine.specs.Operators.{checked}
use Rattle.profile_image.specs.Program.{subprogram_of}
use Rattle.profile_machine.specs.Scopes.{home, write_cell}
use Rattle.profile_machine.specs.Statements.{becomes}
use Rattle.profile_machine.specs.Steps.{Step}
use Rattle.profile_machine.specs.Subprograms.{begin_body, call_subprogram, cell_in, copy_parameters, drop_sending, end_subprogram, handed, handing, last_cell}
use Rattle.profile_machine.specs.Subprograms.{result_kept, result_place, result_to, return, return_result, return_value, store_result, without_sending}
use Rattle.profile_machine.specs.Values.{Seen, or_misfit, seen_by}
use Rattle.profile_image.specs.declared.image.Image.{Image}
use Rattle.profile_image.specs.declared.numbers.ExprNo.{ExprNo}
use Rattle.profile_image.specs.declared.numbers.StatementNo.{StatementNo}
use Rattle.profile_image.specs.declared.numbers.SubprogramNo.{SubprogramNo}
use Rattle.profile_machine.specs.declared.run_data.Leaving.{Leaving}
use Rattle.profile_machine.specs.declared.run_data.Leaving.TheVariants as how
use Rattle.profile_image.specs.declared.statements.Actual.{Actual}
use Rattle.profile_image.specs.declared.statements.Destination.{Destination}
use Rattle.profile_image.specs.declared.values.Value.{Value}
use Rattle.profile_machine.specs.declared.world.World.{World}
use Rattle.profile_machine.specs.declared.world.lines.Part.TheVariants.{Own}
use Rattle.profile_machine.specs.declared.world.lines.Said.{Said}
use Rattle.profile_machine.specs.declared.world.marks.CopyBack.{CopyBack}
use Rattle.profile_machine.specs.declared.world.marks.ResultTo.{ResultTo}
use Rattle.profile_machine.specs.declared.world.marks.ResultTo.TheVariants as bound_for
use Rattle.profile_machine.specs.declared.world.scopes.Beginning.{Beginning}
use Rattle.profile_machine.specs.declared.world.scopes.Handed.{Handed}
use Rattle.std.proofs.Common.{refl}
use Rattle.std.specs.Prelude.{List, None, Ok, Option, Some, [], slice_set, ◌∷◌}
use Rattle.trace_text.specs.declared.events.Who.{Who}

result_kept-gives : (q : Seen) (f : SubprogramNo) (v : Value) → Gives q.world (result_kept q f v)
result_kept-gives q f v =
    let place = result_place q.program f in
    let scope = or_misfit (home q.world (subprogram_of q.program f).scope q.within) in
    bind-gives (or_misfit (subprogram_of q.program f).result) (λ range. checked range v >>= λ x. scope >>= λ id. Ok (write_cell id place x q.world)) q.world
    (λ range.
    bind-gives (checked range v) (λ x. scope >>= λ id. Ok (write_cell id place x q.world)) q.world (λ x.
    bind-gives scope (λ id. Ok (write_cell id place x q.world)) q.world (λ id.
    ok-gives q.world (write_cell id place x q.world) (cells-same id (λ cells. slice_set cells place x) q.world))))

module _ {X : State} (quiet : Silences X) where
  pub handing-keeps : (p : Image) (name : Who) (f : SubprogramNo) (actuals : List Actual) (to : Destination) (step : Handed → ResultTo → Step)
      → ((x : Handed) (y : ResultTo) → Keeps X (step x y)) → Keeps X (handing p name f actuals to step)
  handing-keeps p name f actuals to step kept = search (sees-keeps, given-keeps) depth 6

  pub handing-through : {Y : State} (weak : (w : World) (said : List Said) → X w said → Y w said) (p : Image) (name : Who) (f : SubprogramNo)
      (actuals : List Actual) (to : Destination) (step : Handed → ResultTo → Step)
      → ((x : Handed) (y : ResultTo) → Leads X Y (step x y))
      → Leads X Y (handing p name f actuals to step)
  handing-through weak p name f actuals to step kept =
      sees-leads p name _
      (λ q. given-through quiet (λ w s h. h) weak Own name (result_to q to) _
      (λ r. given-through quiet (λ w s h. h) weak Own name (handed q 0 (subprogram_of p f).formals actuals) _ (λ h. kept h r)))

  pub return_result-keeps : (p : Image) (name : Who) (f : SubprogramNo) (v : Value) → Keeps X (return_result p name f v)
  unfolding return_result
  return_result-keeps p name f v =
      looks-with _ (λ w said h.
      given_world-keeps quiet Own name w (result_kept (seen_by p w name) f v) (λ _. leaves name how.Return)
      (result_kept-gives (seen_by p w name) f v) (λ _. leaves-keeps quiet name how.Return))

  pub return_value-keeps : (p : Image) (name : Who) (f : SubprogramNo) (e : ExprNo) → Keeps X (return_value p name f e)
  unfolding return_value
  return_value-keeps p name f e = search (sees-keeps, given-keeps, return_result-keeps) depth 6

  pub drop_sending-alters : (c : Option CallNo) → Alters X (drop_sending c)
  drop_sending-alters None = unchanged-alters
  drop_sending-alters (Some c) = edit_call-alters quiet c without_sending (λ d. refl) (λ d. refl)

  pub return-keeps : (name : Who) → Keeps X (return name)
  unfolding return
  return-keeps name = search (looks-keeps, changes-keeps, drop_sending-alters, then-keeps, leaves-keeps)

  pub copy_parameters-keeps : (p : Image) (name : Who) (cells : List Value) (back : List CopyBack) (step : Step) → Keeps X step
      → Keeps X (copy_parameters p name cells back step)
  copy_parameters-keeps p name cells [] step k = k
  copy_parameters-keeps p name cells (b ∷ bs) step k =
      looks-with _ (λ w said h.
      given_world-keeps quiet Own name w (store p b.target (cell_in cells b.place) w) (λ _. copy_parameters p name cells bs step)
      (store-gives p b.target (cell_in cells b.place) w) (λ _. copy_parameters-keeps p name cells bs step k))

  pub store_result-keeps : (p : Image) (name : Who) (cells : List Value) (to : ResultTo) → Keeps X (store_result p name cells to)
  unfolding store_result becomes
  store_result-keeps p name cells bound_for.Nowhere = nothing-keeps
  store_result-keeps p name cells (bound_for.Variable v) =
      looks-with _ (λ w said h. becomes-keeps quiet Own name w (store p v (last_cell cells) w) (store-gives p v (last_cell cells) w))
  store_result-keeps p name cells (bound_for.Return f) = search (return_result-keeps)

  pub end_subprogram-keeps : (p : Image) (name : Who) (cells : List Value) (back : List CopyBack) (to : ResultTo) (leaving : Leaving)
      → Keeps X (end_subprogram p name cells back to leaving)
  unfolding end_subprogram
  end_subprogram-keeps p name cells back to leaving = search (raise_if-keeps, copy_parameters-keeps, store_result-keeps)

  pub begin_body-keeps : (p : Image) (name : Who) (s : StatementNo) (f : SubprogramNo) (b : Beginning) (h : Handed) (to : ResultTo)
      → Keeps X (begin_body p name s f b h to)
  unfolding begin_body
  begin_body-keeps p name s f b h to = search (goes-keeps, then-keeps, changes-keeps, open_scope-alters)

  pub call_subprogram-keeps : (p : Image) (name : Who) (s : StatementNo) (f : SubprogramNo) (actuals : List Actual) (to : Destination)
      → Keeps X (call_subprogram p name s f actuals to)
  unfolding call_subprogram
  call_subprogram-keeps p name s f actuals to = search (with_room-keeps, handing-keeps, sees-keeps, begin_body-keeps)
