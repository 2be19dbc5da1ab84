-- Initialize, Finalize and assignment: each step leaves worlds good where its parts do.
use Rattle.std.specs.Prelude.{ℕ, Bool, true, false, Option, Some, None, cond}
use Rattle.ann_base.specs.declared.exceptions.Raised.TheVariants as exception
use Rattle.trace_text.specs.declared.events.Who.{Who}
use Rattle.profile_image.specs.declared.image.Image.{Image}
use Rattle.profile_image.specs.declared.numbers.DeclNo.{DeclNo}
use Rattle.profile_image.specs.declared.numbers.StatementNo.{StatementNo}
use Rattle.profile_image.specs.declared.numbers.SubprogramNo.{SubprogramNo}
use Rattle.profile_machine.specs.declared.run_data.Leaving.{Leaving}
use Rattle.profile_machine.specs.declared.run_data.Leaving.TheVariants as how
use Rattle.profile_machine.specs.declared.world.scopes.Located.{Located}
use Rattle.profile_machine.specs.declared.world.scopes.Variable.{Variable}
use Rattle.profile_machine.specs.declared.world.appointments.Registered.{Registered}
use Rattle.profile_machine.specs.declared.world.marks.ScopeMark.{ScopeMark}
use Rattle.profile_machine.specs.declared.world.marks.AssignMark.{AssignMark}
use Rattle.profile_machine.specs.declared.world.marks.AssignStep.{AssignStep}
use Rattle.profile_machine.specs.declared.world.marks.AssignStep.TheVariants as assigning
use Rattle.profile_machine.specs.declared.world.lines.Part.TheVariants.{Own}
use Rattle.profile_machine.specs.Steps.{changes, looks}
use Rattle.profile_machine.specs.Statements.{cells_from}
use Rattle.profile_machine.specs.Scopes.{put_cells}
use Rattle.profile_machine.specs.Controlled.{open_operation, registered_as, register, initialize_by, initialize, end_in_initialize, edit_top_scope}
use Rattle.profile_machine.specs.Controlled.{finalize_has_raised, open_finalize, has_room_to_finalize, finalize_by, no_longer_registered}
use Rattle.profile_machine.specs.Controlled.{finalize_now, finalize, behind_finalize, end_in_finalize, begin_assignment, assign_registered}
use Rattle.profile_machine.specs.Controlled.{assign_located, assign_controlled, edit_top_assign, leave_without_room, finalize_target_by}
use Rattle.profile_machine.specs.Controlled.{has_room_to_adjust, adjust_by, copy_components_of, copy_object, do_step, step_with, end_in_assign}
use Rattle.profile_machine.specs.Controlled.{edit_scope_mark, edit_assign, registered_object, registers, is_assignment, registered_at, same_located}
use Rattle.world_laws.proofs.Actions.FineMoves.{FineMoves, chains, says-keeps}
use Rattle.world_laws.proofs.Actions.Natures.{nature}
use Rattle.world_laws.proofs.Actions.Kept.Combinators.{changes_then-from}
use Rattle.world_laws.proofs.Actions.Kept.Frames.{edit_top-alters, goes-keeps, push-alters, leaves-keeps, popped, plain_steps}
use Rattle.world_laws.proofs.Actions.Kept.Scopes.{opens-alters}
use Rattle.std.proofs.Common.{◌≡◌, refl}
use Rattle.profile_image.specs.Program.{next_of}
use Rattle.ann_base.specs.declared.identities.RegionNo.{RegionNo}
use Rattle.profile_machine.specs.declared.world.World.{World}
use Rattle.profile_machine.specs.declared.world.marks.Frame.{Frame}
use Rattle.profile_machine.specs.declared.world.marks.Mark.{Mark}
use Rattle.profile_machine.specs.declared.world.marks.Mark.TheVariants.{Scope, Handled, InProtected, InAccept, Abortable, InInitialize, InFinalize, InAssign}
use Rattle.profile_machine.specs.Frames.{top_of, pop, with_mark, is_protected, pass_on, goes}
use Rattle.machine_laws.proofs.FineMoves.{GoodWorld, Naming}
use Rattle.machine_laws.proofs.Kept.Combinators.{Alters, From, Keeps, branch-keeps, changes-from, changes-keeps, cond-keeps, keeps-from}
use Rattle.machine_laws.proofs.Kept.Combinators.{looks-keeps, looks_at-from, nothing-keeps, sees-keeps, then-keeps, when-keeps}
use Rattle.world_laws.proofs.Behind.{Behind}
use Rattle.machine_laws.proofs.Plain.Frames.{raises-keeps, pass_on-keeps, given-keeps, with_room-keeps}
use Rattle.machine_laws.proofs.Plain.Cells.{write_cell-alters}
use Rattle.machine_laws.proofs.Plain.PlainSteps.{anybody}

-- the region of a scope's mark is not edited, nor what another mark is
scope-nature : (f : ScopeMark → ScopeMark) → ((m : ScopeMark) → nature (Scope (f m)) ≡ nature (Scope m)) → (mark : Mark)
    → nature (edit_scope_mark f mark) ≡ nature mark
scope-nature f same (Scope m) = same m
scope-nature f same (Handled s) = refl
scope-nature f same (InProtected m) = refl
scope-nature f same (InAccept m) = refl
scope-nature f same (Abortable m) = refl
scope-nature f same (InInitialize l) = refl
scope-nature f same (InFinalize o) = refl
scope-nature f same (InAssign m) = refl

assign-nature : (f : AssignMark → AssignMark) (mark : Mark) → nature (edit_assign f mark) ≡ nature mark
assign-nature f (Scope m) = refl
assign-nature f (Handled s) = refl
assign-nature f (InProtected m) = refl
assign-nature f (InAccept m) = refl
assign-nature f (Abortable m) = refl
assign-nature f (InInitialize l) = refl
assign-nature f (InFinalize o) = refl
assign-nature f (InAssign m) = refl

module _ {G : GoodWorld} {F : Naming} (moves : FineMoves G F) where
  registered_as-alters : (n : ℕ) (r : RegionNo) (l : Located) → Alters G (Behind G) (registered_as n r l)
  unfolding Alters
  registered_as-alters n r l w good = moves.registers n r l w good

  pub register-keeps : (p : Image) (name : Who) (l : Located) → Keeps G (Behind G) (register p name l)
  unfolding register
  register-keeps p name l = search (looks-keeps, changes-keeps, registered_as-alters, write_cell-alters, then-keeps, says-keeps, chains, plain_steps) depth 10

  pub edit_top_scope-alters : (name : Who) (f : ScopeMark → ScopeMark) → ((m : ScopeMark) → nature (Scope (f m)) ≡ nature (Scope m))
      → Alters G (Behind G) (edit_top_scope name f)
  edit_top_scope-alters name f same = edit_top-alters moves name (λ x. with_mark (edit_scope_mark f x.mark) x) (λ x. scope-nature f same x.mark)

  pub behind_finalize-keeps : (p : Image) (name : Who) (leaving : Leaving) (test : Bool) → Keeps G (Behind G) (behind_finalize p name leaving test)
  unfolding behind_finalize
  behind_finalize-keeps p name (how.Exception e) true = search (pass_on-keeps, plain_steps, anybody)
  behind_finalize-keeps p name (how.Exception e) false = search (changes-keeps, edit_top_scope-alters, chains)
  behind_finalize-keeps p name how.End of_assignment = search (nothing-keeps, chains)
  behind_finalize-keeps p name how.Return of_assignment = search (nothing-keeps, chains)
  behind_finalize-keeps p name (how.Exit loop) of_assignment = search (nothing-keeps, chains)
  behind_finalize-keeps p name how.Abort of_assignment = search (nothing-keeps, chains)
  behind_finalize-keeps p name how.Terminate of_assignment = search (nothing-keeps, chains)

  pub end_in_initialize-from : (p : Image) (name : Who) (l : Located) (leaving : Leaving) (f : Frame) (w : World) → G w → top_of w name ≡ Some f
      → is_protected f.mark ≡ false → From (Behind G) w (end_in_initialize p name l leaving)
  unfolding end_in_initialize
  end_in_initialize-from p name l leaving f w good top free =
      let out = popped moves name f w good top free in
      changes_then-from moves (pop name) _ w
      (keeps-from (chains moves) (cond (registers leaving) (register p name l) (pass_on p name leaving)) (pop name w) out
      (search (cond-keeps, register-keeps, pass_on-keeps, chains, plain_steps, anybody)))

  pub end_in_finalize-from : (p : Image) (name : Who) (leaving : Leaving) (f : Frame) (w : World) → G w → top_of w name ≡ Some f → is_protected f.mark ≡ false
      → From (Behind G) w (end_in_finalize p name leaving)
  unfolding end_in_finalize
  end_in_finalize-from p name leaving f w good top free =
      let out = popped moves name f w good top free in
      changes_then-from moves (pop name) _ w
      (keeps-from (chains moves) (looks (λ v. behind_finalize p name leaving (is_assignment (top_of v name)))) (pop name w) out
      (search (looks-keeps, behind_finalize-keeps, chains)))

  pub edit_top_assign-alters : (name : Who) (f : AssignMark → AssignMark) → Alters G (Behind G) (edit_top_assign name f)
  edit_top_assign-alters name f = edit_top-alters moves name (λ x. with_mark (edit_assign f x.mark) x) (λ x. assign-nature f x.mark)

  pub leave_without_room-keeps : (name : Who) → Keeps G (Behind G) (leave_without_room name)
  unfolding leave_without_room
  leave_without_room-keeps name = search (leaves-keeps)

  pub copy_components_of-alters : (target source : Variable) (count : ℕ) → Alters G (Behind G) (copy_components_of target source count)
  unfolding Alters
  copy_components_of-alters target source count w good = moves.edits_cells target.within (put_cells target.place (cells_from w source count)) w good

  pub copy_object-alters : (p : Image) (target source : Located) → Alters G (Behind G) (copy_object p target source)
  copy_object-alters p target source = search (copy_components_of-alters)

module _ {G : GoodWorld} {F : Naming} (moves : FineMoves G F) where
  pub open_operation-keeps : (p : Image) (name : Who) (f : SubprogramNo) (l : Located) → Keeps G (Behind G) (open_operation p name f l)
  unfolding open_operation
  open_operation-keeps p name f l = search (looks-keeps, changes-keeps, opens-alters, chains)

  pub initialize_by-keeps : (p : Image) (name : Who) (s : StatementNo) (l : Located) (f : Option SubprogramNo) → Keeps G (Behind G) (initialize_by p name s l f)
  unfolding initialize_by
  initialize_by-keeps p name s l None = search (goes-keeps, then-keeps, register-keeps, chains)
  initialize_by-keeps p name s l (Some f) =
      search (with_room-keeps, goes-keeps, then-keeps, changes-keeps, push-alters, open_operation-keeps, chains, plain_steps)

  pub initialize-keeps : (p : Image) (name : Who) (s : StatementNo) (d : DeclNo) → Keeps G (Behind G) (initialize p name s d)
  unfolding initialize
  initialize-keeps p name s d = search (sees-keeps, given-keeps, initialize_by-keeps, chains, plain_steps) depth 8

  pub open_finalize-keeps : (p : Image) (name : Who) (n : ℕ) (l : Located) (f : SubprogramNo) → Keeps G (Behind G) (open_finalize p name n l f)
  unfolding open_finalize
  open_finalize-keeps p name n l f = search (changes-keeps, push-alters, then-keeps, open_operation-keeps, chains)

  pub finalize_by-keeps : (p : Image) (name : Who) (r : Registered) (f : Option SubprogramNo) → Keeps G (Behind G) (finalize_by p name r f)
  unfolding finalize_by
  finalize_by-keeps p name r None = search (nothing-keeps, chains)
  finalize_by-keeps p name r (Some f) =
      looks-keeps (chains moves) _
      (λ w. branch-keeps (chains moves) (has_room_to_finalize p w name f) (open_finalize p name r.object r.located f)
      (changes (edit_top_scope name finalize_has_raised)) (search (open_finalize-keeps)) (search (changes-keeps, edit_top_scope-alters, chains)))

  no_longer_registered-alters : (n : ℕ) → Alters G (Behind G) (no_longer_registered n)
  unfolding Alters
  no_longer_registered-alters n w good = moves.unregisters n w good

  finalize_now-keeps : (p : Image) (name : Who) (x : Registered) → Keeps G (Behind G) (finalize_now p name x)
  unfolding finalize_now
  finalize_now-keeps p name x = search (says-keeps, then-keeps, changes-keeps, no_longer_registered-alters, finalize_by-keeps, chains)

  pub finalize-keeps : (p : Image) (name : Who) (x : Registered) → Keeps G (Behind G) (finalize p name x)
  unfolding finalize
  finalize-keeps p name x = search (looks-keeps, when-keeps, finalize_now-keeps, chains)

  begin_assignment-keeps : (p : Image) (name : Who) (s : StatementNo) (target source : ℕ) → Keeps G (Behind G) (begin_assignment p name s target source)
  unfolding begin_assignment
  begin_assignment-keeps p name s target source =
      search (with_room-keeps, goes-keeps, then-keeps, says-keeps, changes-keeps, push-alters, chains, plain_steps) depth 9

  assign_registered-keeps : (p : Image) (name : Who) (s : StatementNo) (target source : Option Registered)
      → Keeps G (Behind G) (assign_registered p name s target source)
  unfolding assign_registered
  assign_registered-keeps p name s (Some target) (Some source) = begin_assignment-keeps p name s target.object source.object
  assign_registered-keeps p name s (Some target) None = raises-keeps (plain_steps moves) Own name exception.Program
  assign_registered-keeps p name s None source = raises-keeps (plain_steps moves) Own name exception.Program

  pub assign_located-keeps : (p : Image) (name : Who) (s : StatementNo) (target source : Located) → Keeps G (Behind G) (assign_located p name s target source)
  unfolding assign_located
  assign_located-keeps p name s target source =
      cond-keeps (chains moves) (same_located target source) (goes name (next_of p s)) _ (goes-keeps moves name (next_of p s))
      (looks-keeps (chains moves) _ (λ w. assign_registered-keeps p name s (registered_at w target) (registered_at w source)))

  pub assign_controlled-keeps : (p : Image) (name : Who) (s : StatementNo) (target source : DeclNo)
      → Keeps G (Behind G) (assign_controlled p name s target source)
  unfolding assign_controlled
  assign_controlled-keeps p name s target source = search (sees-keeps, given-keeps, assign_located-keeps, chains, plain_steps) depth 8

  pub finalize_target_by-keeps : (p : Image) (name : Who) (r : Registered) (f : Option SubprogramNo) → Keeps G (Behind G) (finalize_target_by p name r f)
  unfolding finalize_target_by
  finalize_target_by-keeps p name r None = search (nothing-keeps, chains)
  finalize_target_by-keeps p name r (Some f) =
      looks-keeps (chains moves) _
      (λ w. branch-keeps (chains moves) (has_room_to_finalize p w name f) (open_finalize p name r.object r.located f) (leave_without_room name)
      (search (open_finalize-keeps)) (search (leave_without_room-keeps)))

  pub adjust_by-keeps : (p : Image) (name : Who) (r : Registered) (f : Option SubprogramNo) → Keeps G (Behind G) (adjust_by p name r f)
  unfolding adjust_by
  adjust_by-keeps p name r None = search (nothing-keeps, chains)
  adjust_by-keeps p name r (Some f) =
      looks-keeps (chains moves) _
      (λ w. branch-keeps (chains moves) (has_room_to_adjust p w name f) (open_operation p name f r.located) (leave_without_room name)
      (search (open_operation-keeps)) (search (leave_without_room-keeps)))

  do_step-from : (p : Image) (name : Who) (step : AssignStep) (target source : Registered) (w : World) → G w → G (pop name w)
      → From (Behind G) w (do_step p name step target source)
  do_step-from p name assigning.FinalizeTarget target source w good out =
      keeps-from (chains moves) _ w good (search (changes-keeps, edit_top_assign-alters, then-keeps, finalize_target_by-keeps, chains))
  do_step-from p name assigning.CopyComponents target source w good out =
      keeps-from (chains moves) _ w good (search (changes-keeps, edit_top_assign-alters, then-keeps, copy_object-alters, chains))
  do_step-from p name assigning.AdjustTarget target source w good out =
      keeps-from (chains moves) _ w good (search (changes-keeps, edit_top_assign-alters, then-keeps, adjust_by-keeps, chains))
  do_step-from p name assigning.Assigned target source w good out = changes-from (chains moves) (pop name) w out

  step_with-from : (p : Image) (name : Who) (step : AssignStep) (target source : Option Registered) (w : World) → G w → G (pop name w)
      → From (Behind G) w (step_with p name step target source)
  step_with-from p name step (Some target) (Some source) w good out = do_step-from p name step target source w good out
  step_with-from p name step (Some target) None w good out = changes-from (chains moves) (pop name) w out
  step_with-from p name step None source w good out = changes-from (chains moves) (pop name) w out

  pub end_in_assign-from : (p : Image) (name : Who) (m : AssignMark) (leaving : Option Leaving) (f : Frame) (w : World) → G w → top_of w name ≡ Some f
      → is_protected f.mark ≡ false → From (Behind G) w (end_in_assign p name m leaving)
  unfolding end_in_assign
  end_in_assign-from p name m (Some (how.Exception e)) f w good top free =
      let out = popped moves name f w good top free in
      changes_then-from moves (pop name) _ w (keeps-from (chains moves) _ (pop name w) out (raises-keeps (plain_steps moves) Own name exception.Program))
  end_in_assign-from p name m _ f w good top free =
      looks_at-from (chains moves) (λ v. step_with p name m.step (registered_object v m.target) (registered_object v m.source)) w
      (step_with-from p name m.step (registered_object w m.target) (registered_object w m.source) w good (popped moves name f w good top free))
