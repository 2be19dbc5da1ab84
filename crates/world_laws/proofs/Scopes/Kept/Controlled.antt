-- Initialize, Finalize and assignment: each step keeps a relation that its parts keep.
use Rattle.std.specs.Prelude.{ℕ, suc, Bool, true, false, Option, Some, None, cond}
use Rattle.profile_machine.specs.declared.world.lines.Line.TheVariants as line
use Rattle.ann_base.specs.declared.exceptions.Raised.TheVariants as exception
use Rattle.trace_text.specs.declared.events.Who.{Who}
use Rattle.profile_image.specs.declared.image.Image.{Image}
use Rattle.profile_image.specs.declared.numbers.DeclNo.{DeclNo}
use Rattle.profile_image.specs.declared.numbers.StatementNo.{StatementNo}
use Rattle.profile_image.specs.declared.numbers.SubprogramNo.{SubprogramNo}
use Rattle.profile_machine.specs.declared.run_data.Leaving.{Leaving}
use Rattle.profile_machine.specs.declared.run_data.Leaving.TheVariants as how
use Rattle.profile_image.specs.declared.values.Value.TheVariants.{Thing}
use Rattle.profile_machine.specs.declared.world.scopes.Located.{Located}
use Rattle.profile_machine.specs.declared.world.scopes.Variable.{Variable}
use Rattle.profile_machine.specs.declared.world.appointments.Registered.{Registered}
use Rattle.profile_machine.specs.declared.world.marks.ScopeMark.{ScopeMark}
use Rattle.profile_machine.specs.declared.world.marks.AssignMark.{AssignMark}
use Rattle.profile_machine.specs.declared.world.marks.AssignStep.{AssignStep}
use Rattle.profile_machine.specs.declared.world.marks.AssignStep.TheVariants as assigning
use Rattle.profile_machine.specs.declared.world.lines.Part.TheVariants.{Own}
use Rattle.profile_machine.specs.Steps.{says, changes, ◌▷◌, looks}
use Rattle.profile_machine.specs.Scopes.{write_cell, id_in, put_cells}
use Rattle.profile_machine.specs.Statements.{cells_from}
use Rattle.profile_machine.specs.Controlled.{first_place, open_operation, top_region, registered_as, register, initialize_by, initialize}
use Rattle.profile_machine.specs.Controlled.{end_in_initialize, edit_top_scope, finalize_has_raised, open_finalize, has_room_to_finalize, finalize_by}
use Rattle.profile_machine.specs.Controlled.{no_longer_registered, finalize_now, finalize, behind_finalize, end_in_finalize, begin_assignment}
use Rattle.profile_machine.specs.Controlled.{assign_registered, assign_located, assign_controlled, edit_top_assign, leave_without_room}
use Rattle.profile_machine.specs.Controlled.{finalize_target_by, has_room_to_adjust, adjust_by, copy_components_of, copy_object, do_step, step_with}
use Rattle.profile_machine.specs.Controlled.{end_in_assign, edit_scope_mark, edit_assign, registered_object, registers, is_assignment}
use Rattle.machine_laws.proofs.Moves.{StepRelation, MoveRelation}
use Rattle.world_laws.proofs.Scopes.FineMoves.{FineMoves, Openings, nature, chains, says-keeps}
use Rattle.world_laws.proofs.Scopes.Kept.Frames.{edit_top-alters, goes-keeps, push-alters, leaves-keeps, popped, plain_steps}
use Rattle.world_laws.proofs.Scopes.Kept.Scopes.{open_scope-alters}
use Rattle.std.proofs.Common.{◌≡◌, refl, []}
use Rattle.profile_machine.specs.declared.world.World.{World}
use Rattle.profile_machine.specs.declared.world.marks.Frame.{Frame}
use Rattle.profile_machine.specs.declared.world.marks.Mark.{Mark}
use Rattle.profile_machine.specs.declared.world.marks.Mark.TheVariants.{Scope, Handled, InProtected, InAccept, Abortable, InInitialize, InFinalize, InAssign}
use Rattle.profile_machine.specs.Frames.{top_of, pop, with_mark, is_protected, pass_on}
use Rattle.machine_laws.proofs.FineMoves.{Anybody, GoodWorld, Naming}
use Rattle.machine_laws.proofs.Kept.Combinators.{Alters, From, Keeps, branch-keeps, changes-from, changes-keeps, changes_then-from, cond-keeps, keeps-from}
use Rattle.machine_laws.proofs.Kept.Combinators.{looks-from, looks-keeps, looks_at-from, nothing-keeps, sees-keeps, then-from, then-keeps, when-keeps}
use Rattle.machine_laws.proofs.Plain.Frames.{raises-keeps, pass_on-keeps, given-keeps, with_room-keeps}
use Rattle.machine_laws.proofs.Plain.Cells.{write_cell-alters}
use Rattle.machine_laws.proofs.Plain.PlainSteps.{anybody}

-- the scope of a mark and its purpose are not edited, nor what another mark is
scope-nature : (f : ScopeMark → ScopeMark) → ((m : ScopeMark) → nature (Scope (f m)) ≡ nature (Scope m)) → (mark : Mark)
    → nature (edit_scope_mark f mark) ≡ nature mark
scope-nature f same (Scope m) = same m
scope-nature f same (Handled s) = refl
scope-nature f same (InProtected m) = refl
scope-nature f same (InAccept m) = refl
scope-nature f same (Abortable m) = refl
scope-nature f same (InInitialize l) = refl
scope-nature f same (InFinalize o) = refl
scope-nature f same (InAssign m) = refl

assign-nature : (f : AssignMark → AssignMark) (mark : Mark) → nature (edit_assign f mark) ≡ nature mark
assign-nature f (Scope m) = refl
assign-nature f (Handled s) = refl
assign-nature f (InProtected m) = refl
assign-nature f (InAccept m) = refl
assign-nature f (Abortable m) = refl
assign-nature f (InInitialize l) = refl
assign-nature f (InFinalize o) = refl
assign-nature f (InAssign m) = refl

module _ {G : GoodWorld} {May Other : Naming} {R : StepRelation} {Q : MoveRelation} (moves : FineMoves G May Other R Q) where
  pub register-keeps : (p : Image) (name : Who) (l : Located) → Keeps G R (register p name l)
  unfolding register
  register-keeps p name l =
      looks-from (chains moves) _ (λ w good. let n = suc w.drawn.controlled in
      then-from (chains moves) (changes (registered_as n (top_region w name) l))
      (changes (write_cell l.within (first_place p l) (Thing n)) ▷ says Own (line.Init name n (top_region w name) l.declared)) w
      (changes-from (chains moves) (registered_as n (top_region w name) l) w (moves.registers (top_region w name) l w good))
      (search (then-keeps, changes-keeps, write_cell-alters, says-keeps, chains, plain_steps)))

  pub edit_top_scope-alters : (name : Who) (f : ScopeMark → ScopeMark) → ((m : ScopeMark) → nature (Scope (f m)) ≡ nature (Scope m))
      → Alters G R (edit_top_scope name f)
  edit_top_scope-alters name f same = edit_top-alters moves name (λ x. with_mark (edit_scope_mark f x.mark) x) (λ x. scope-nature f same x.mark)

  no_longer_registered-alters : (n : ℕ) → Alters G R (no_longer_registered n)
  unfolding Alters
  no_longer_registered-alters n w good = moves.unregisters n w good

  pub behind_finalize-keeps : (p : Image) (name : Who) (leaving : Leaving) (test : Bool) → Keeps G R (behind_finalize p name leaving test)
  unfolding behind_finalize
  behind_finalize-keeps p name (how.Exception e) true = search (pass_on-keeps, plain_steps, anybody)
  behind_finalize-keeps p name (how.Exception e) false = search (changes-keeps, edit_top_scope-alters, chains)
  behind_finalize-keeps p name how.End of_assignment = search (nothing-keeps, chains)
  behind_finalize-keeps p name how.Return of_assignment = search (nothing-keeps, chains)
  behind_finalize-keeps p name (how.Exit loop) of_assignment = search (nothing-keeps, chains)
  behind_finalize-keeps p name how.Abort of_assignment = search (nothing-keeps, chains)
  behind_finalize-keeps p name how.Terminate of_assignment = search (nothing-keeps, chains)

  pub end_in_initialize-from : (p : Image) (name : Who) (l : Located) (leaving : Leaving) (f : Frame) (w : World) → G w → May name → top_of w name ≡ Some f
      → is_protected f.mark ≡ false → id_in f.mark ≡ None → From R w (end_in_initialize p name l leaving)
  unfolding end_in_initialize
  end_in_initialize-from p name l leaving f w good may top free none =
      let out = popped moves name f w good may top free none in
      changes_then-from (chains moves) (pop name) _ w out
      (keeps-from (chains moves) (cond (registers leaving) (register p name l) (pass_on p name leaving)) (pop name w) (moves.behind w (pop name w) out)
      (search (cond-keeps, register-keeps, pass_on-keeps, chains, plain_steps, anybody)))

  pub end_in_finalize-from : (p : Image) (name : Who) (leaving : Leaving) (f : Frame) (w : World) → G w → May name → top_of w name ≡ Some f
      → is_protected f.mark ≡ false → id_in f.mark ≡ None → From R w (end_in_finalize p name leaving)
  unfolding end_in_finalize
  end_in_finalize-from p name leaving f w good may top free none =
      let out = popped moves name f w good may top free none in
      changes_then-from (chains moves) (pop name) _ w out
      (keeps-from (chains moves) (looks (λ v. behind_finalize p name leaving (is_assignment (top_of v name)))) (pop name w)
      (moves.behind w (pop name w) out) (search (looks-keeps, behind_finalize-keeps, chains)))

  pub edit_top_assign-alters : (name : Who) (f : AssignMark → AssignMark) → Alters G R (edit_top_assign name f)
  edit_top_assign-alters name f = edit_top-alters moves name (λ x. with_mark (edit_assign f x.mark) x) (λ x. assign-nature f x.mark)

  pub leave_without_room-keeps : (name : Who) → Keeps G R (leave_without_room name)
  unfolding leave_without_room
  leave_without_room-keeps name = search (leaves-keeps)

  pub copy_components_of-alters : (target source : Variable) (count : ℕ) → Alters G R (copy_components_of target source count)
  unfolding Alters
  copy_components_of-alters target source count w good = moves.edits_cells target.within (put_cells target.place (cells_from w source count)) w good

  pub copy_object-alters : (p : Image) (target source : Located) → Alters G R (copy_object p target source)
  copy_object-alters p target source = search (copy_components_of-alters)

module _ {G : GoodWorld} {Acts : Naming} {R : StepRelation} {Q : MoveRelation} (moves : FineMoves G Anybody Anybody R Q) (openings : Openings G Acts R) where
  pub open_operation-keeps : (p : Image) (name : Who) (f : SubprogramNo) (l : Located) → Acts name → Keeps G R (open_operation p name f l)
  unfolding open_operation
  open_operation-keeps p name f l acts = search (looks-keeps, changes-keeps, open_scope-alters, chains)

  pub initialize_by-keeps : (p : Image) (name : Who) (s : StatementNo) (l : Located) (f : Option SubprogramNo) → Acts name
      → Keeps G R (initialize_by p name s l f)
  unfolding initialize_by
  initialize_by-keeps p name s l None acts = search (goes-keeps, then-keeps, register-keeps, chains)
  initialize_by-keeps p name s l (Some f) acts =
      search (with_room-keeps, goes-keeps, then-keeps, changes-keeps, push-alters, open_operation-keeps, chains, plain_steps)

  pub initialize-keeps : (p : Image) (name : Who) (s : StatementNo) (d : DeclNo) → Acts name → Keeps G R (initialize p name s d)
  unfolding initialize
  initialize-keeps p name s d acts = search (sees-keeps, given-keeps, initialize_by-keeps, chains, plain_steps) depth 8

  pub open_finalize-keeps : (p : Image) (name : Who) (n : ℕ) (l : Located) (f : SubprogramNo) → Acts name → Keeps G R (open_finalize p name n l f)
  unfolding open_finalize
  open_finalize-keeps p name n l f acts = search (changes-keeps, push-alters, then-keeps, open_operation-keeps, chains)

  pub finalize_by-keeps : (p : Image) (name : Who) (r : Registered) (f : Option SubprogramNo) → Acts name → Keeps G R (finalize_by p name r f)
  unfolding finalize_by
  finalize_by-keeps p name r None acts = search (nothing-keeps, chains)
  finalize_by-keeps p name r (Some f) acts =
      looks-keeps (chains moves) _
      (λ w. branch-keeps (chains moves) (has_room_to_finalize p w name f) (open_finalize p name r.object r.located f)
      (changes (edit_top_scope name finalize_has_raised)) (search (open_finalize-keeps)) (search (changes-keeps, edit_top_scope-alters, chains)))

  finalize_now-keeps : (p : Image) (name : Who) (r : Registered) → Acts name → Keeps G R (finalize_now p name r)
  unfolding finalize_now
  finalize_now-keeps p name r acts = search (says-keeps, then-keeps, changes-keeps, no_longer_registered-alters, finalize_by-keeps, chains) depth 7

  pub finalize-keeps : (p : Image) (name : Who) (r : Registered) → Acts name → Keeps G R (finalize p name r)
  unfolding finalize
  finalize-keeps p name r acts = search (looks-keeps, when-keeps, finalize_now-keeps, chains)

  pub begin_assignment-keeps : (p : Image) (name : Who) (s : StatementNo) (target source : ℕ) → Acts name → Keeps G R (begin_assignment p name s target source)
  unfolding begin_assignment
  begin_assignment-keeps p name s target source acts =
      search (with_room-keeps, goes-keeps, then-keeps, says-keeps, changes-keeps, push-alters, chains, plain_steps) depth 8

  pub assign_registered-keeps : (p : Image) (name : Who) (s : StatementNo) (target source : Option Registered) → Acts name
      → Keeps G R (assign_registered p name s target source)
  unfolding assign_registered
  assign_registered-keeps p name s (Some target) (Some source) acts = search (begin_assignment-keeps)
  assign_registered-keeps p name s (Some target) None acts = search (raises-keeps, plain_steps)
  assign_registered-keeps p name s None source acts = search (raises-keeps, plain_steps)

  pub assign_located-keeps : (p : Image) (name : Who) (s : StatementNo) (target source : Located) → Acts name
      → Keeps G R (assign_located p name s target source)
  unfolding assign_located
  assign_located-keeps p name s target source acts = search (cond-keeps, goes-keeps, looks-keeps, assign_registered-keeps, chains)

  pub assign_controlled-keeps : (p : Image) (name : Who) (s : StatementNo) (target source : DeclNo) → Acts name
      → Keeps G R (assign_controlled p name s target source)
  unfolding assign_controlled
  assign_controlled-keeps p name s target source acts = search (sees-keeps, given-keeps, assign_located-keeps, chains, plain_steps) depth 8

  pub finalize_target_by-keeps : (p : Image) (name : Who) (r : Registered) (f : Option SubprogramNo) → Acts name → Keeps G R (finalize_target_by p name r f)
  unfolding finalize_target_by
  finalize_target_by-keeps p name r None acts = search (nothing-keeps, chains)
  finalize_target_by-keeps p name r (Some f) acts =
      looks-keeps (chains moves) _
      (λ w. branch-keeps (chains moves) (has_room_to_finalize p w name f) (open_finalize p name r.object r.located f) (leave_without_room name)
      (search (open_finalize-keeps)) (search (leave_without_room-keeps)))

  pub adjust_by-keeps : (p : Image) (name : Who) (r : Registered) (f : Option SubprogramNo) → Acts name → Keeps G R (adjust_by p name r f)
  unfolding adjust_by
  adjust_by-keeps p name r None acts = search (nothing-keeps, chains)
  adjust_by-keeps p name r (Some f) acts =
      looks-keeps (chains moves) _
      (λ w. branch-keeps (chains moves) (has_room_to_adjust p w name f) (open_operation p name f r.located) (leave_without_room name)
      (search (open_operation-keeps)) (search (leave_without_room-keeps)))

  do_step-from : (p : Image) (name : Who) (step : AssignStep) (target source : Registered) (w : World) → G w → Acts name → R w [] (pop name w)
      → From R w (do_step p name step target source)
  do_step-from p name assigning.FinalizeTarget target source w good acts out =
      keeps-from (chains moves) _ w good (search (changes-keeps, edit_top_assign-alters, then-keeps, finalize_target_by-keeps, chains))
  do_step-from p name assigning.CopyComponents target source w good acts out =
      keeps-from (chains moves) _ w good (search (changes-keeps, edit_top_assign-alters, then-keeps, copy_object-alters, chains))
  do_step-from p name assigning.AdjustTarget target source w good acts out =
      keeps-from (chains moves) _ w good (search (changes-keeps, edit_top_assign-alters, then-keeps, adjust_by-keeps, chains))
  do_step-from p name assigning.Assigned target source w good acts out = changes-from (chains moves) (pop name) w out

  step_with-from : (p : Image) (name : Who) (step : AssignStep) (target source : Option Registered) (w : World) → G w → Acts name → R w [] (pop name w)
      → From R w (step_with p name step target source)
  step_with-from p name step (Some target) (Some source) w good acts out = do_step-from p name step target source w good acts out
  step_with-from p name step (Some target) None w good acts out = changes-from (chains moves) (pop name) w out
  step_with-from p name step None source w good acts out = changes-from (chains moves) (pop name) w out

  pub end_in_assign-from : (p : Image) (name : Who) (m : AssignMark) (leaving : Option Leaving) (f : Frame) (w : World) → G w → Acts name
      → top_of w name ≡ Some f → is_protected f.mark ≡ false → id_in f.mark ≡ None → From R w (end_in_assign p name m leaving)
  unfolding end_in_assign
  end_in_assign-from p name m (Some (how.Exception e)) f w good acts top free none =
      let out = popped moves name f w good tt top free none in
      changes_then-from (chains moves) (pop name) _ w out
      (keeps-from (chains moves) _ (pop name w) (moves.behind w (pop name w) out) (raises-keeps (plain_steps moves) Own name exception.Program))
  end_in_assign-from p name m _ f w good acts top free none =
      looks_at-from (chains moves) (λ v. step_with p name m.step (registered_object v m.target) (registered_object v m.source)) w
      (step_with-from p name m.step (registered_object w m.target) (registered_object w m.source) w good acts (popped moves name f w good tt top free none))
