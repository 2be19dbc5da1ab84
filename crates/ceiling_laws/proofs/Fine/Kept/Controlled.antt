-- Initialize, Finalize and assignment: each step keeps what its parts keep.
use Rattle.ann_base.specs.declared.exceptions.Raised.TheVariants as exception
use Rattle.ann_base.specs.declared.identities.RegionNo.{RegionNo}
use Rattle.ceiling_laws.proofs.Fine.Kept.Frames.{edit_top-alters, given-keeps, goes-keeps, leaves-keeps, pass_on-keeps}
use Rattle.ceiling_laws.proofs.Fine.Kept.Frames.{pop-alters, push-alters, raises-keeps, with_room-keeps}
use Rattle.ceiling_laws.proofs.Fine.Kept.Scopes.{open_scope-alters, write_cell-alters}
use Rattle.ceiling_laws.proofs.Fine.Kept.Tasks.{plain-alters, says-keeps}
use Rattle.ceiling_laws.proofs.Fine.LevelMoves.{Silences}
use Rattle.ceiling_laws.proofs.Runs.Triples.{Alters, Keeps, State, branch-keeps, changes-keeps, cond-keeps}
use Rattle.ceiling_laws.proofs.Runs.Triples.{looks-keeps, nothing-keeps, sees-keeps, then-keeps, when-keeps}
use Rattle.profile_machine.specs.Controlled.{adjust_by, assign_controlled, assign_located, assign_registered, begin_assignment, behind_finalize}
use Rattle.profile_machine.specs.Controlled.{copy_object, do_step, edit_assign, edit_scope_mark, edit_top_assign, edit_top_scope, end_in_assign}
use Rattle.profile_machine.specs.Controlled.{end_in_finalize, end_in_initialize, finalize_now, finalize, finalize_by, finalize_has_raised}
use Rattle.profile_machine.specs.Controlled.{finalize_target_by, first_place, has_room_to_adjust, has_room_to_finalize, initialize}
use Rattle.profile_machine.specs.Controlled.{initialize_by, is_assignment, leave_without_room, no_longer_registered, open_finalize}
use Rattle.profile_machine.specs.Controlled.{open_operation, register, registered_as, registered_object, registers, step_with, top_region}
use Rattle.profile_machine.specs.Frames.{pass_on, top_of, with_mark}
use Rattle.profile_machine.specs.Steps.{changes}
use Rattle.profile_image.specs.declared.image.Image.{Image}
use Rattle.profile_image.specs.declared.numbers.DeclNo.{DeclNo}
use Rattle.profile_image.specs.declared.numbers.StatementNo.{StatementNo}
use Rattle.profile_image.specs.declared.numbers.SubprogramNo.{SubprogramNo}
use Rattle.profile_machine.specs.declared.run_data.Leaving.{Leaving}
use Rattle.profile_machine.specs.declared.run_data.Leaving.TheVariants as how
use Rattle.profile_image.specs.declared.values.Value.TheVariants.{Thing}
use Rattle.profile_machine.specs.declared.world.appointments.Registered.{Registered}
use Rattle.profile_machine.specs.declared.world.lines.Line.TheVariants as line
use Rattle.profile_machine.specs.declared.world.lines.Part.TheVariants.{Own}
use Rattle.profile_machine.specs.declared.world.marks.AssignMark.{AssignMark}
use Rattle.profile_machine.specs.declared.world.marks.AssignStep.{AssignStep}
use Rattle.profile_machine.specs.declared.world.marks.AssignStep.TheVariants as assigning
use Rattle.profile_machine.specs.declared.world.marks.ScopeMark.{ScopeMark}
use Rattle.profile_machine.specs.declared.world.scopes.Located.{Located}
use Rattle.std.proofs.Common.{refl}
use Rattle.std.specs.Prelude.{Bool, None, Option, Some, false, suc, true, ℕ}
use Rattle.trace_text.specs.declared.events.Who.{Who}

module _ {X : State} (quiet : Silences X) where
  pub registered_as-alters : (n : ℕ) (r : RegionNo) (l : Located) → Alters X (registered_as n r l)
  registered_as-alters n r l = plain-alters quiet (registered_as n r l) (λ w. refl) (λ w. refl) (λ w. refl) (λ w. refl) (λ w. refl) (λ w t e. e)

  pub register-keeps : (p : Image) (name : Who) (l : Located) → Keeps X (register p name l)
  unfolding register
  register-keeps p name l =
      looks-keeps _ (λ w. let n = suc w.drawn.controlled in
      then-keeps _ _ (changes-keeps _ (registered_as-alters n (top_region w name) l))
      (then-keeps _ _ (changes-keeps _ (write_cell-alters quiet l.within (first_place p l) (Thing n)))
      (says-keeps quiet Own (line.Init name n (top_region w name) l.declared) refl)))

  pub edit_top_scope-alters : (name : Who) (f : ScopeMark → ScopeMark) → Alters X (edit_top_scope name f)
  edit_top_scope-alters name f = edit_top-alters quiet name (λ x. with_mark (edit_scope_mark f x.mark) x)

  no_longer_registered-alters : (n : ℕ) → Alters X (no_longer_registered n)
  no_longer_registered-alters n = plain-alters quiet (no_longer_registered n) (λ w. refl) (λ w. refl) (λ w. refl) (λ w. refl) (λ w. refl) (λ w t e. e)

  pub behind_finalize-keeps : (p : Image) (name : Who) (leaving : Leaving) (test : Bool) → Keeps X (behind_finalize p name leaving test)
  unfolding behind_finalize
  behind_finalize-keeps p name (how.Exception e) true = pass_on-keeps quiet p name (how.Exception e)
  behind_finalize-keeps p name (how.Exception e) false = changes-keeps _ (edit_top_scope-alters name finalize_has_raised)
  behind_finalize-keeps p name how.End of_assignment = nothing-keeps
  behind_finalize-keeps p name how.Return of_assignment = nothing-keeps
  behind_finalize-keeps p name (how.Exit loop) of_assignment = nothing-keeps
  behind_finalize-keeps p name how.Abort of_assignment = nothing-keeps
  behind_finalize-keeps p name how.Terminate of_assignment = nothing-keeps

  pub end_in_initialize-keeps : (p : Image) (name : Who) (l : Located) (leaving : Leaving) → Keeps X (end_in_initialize p name l leaving)
  unfolding end_in_initialize
  end_in_initialize-keeps p name l leaving =
      then-keeps _ _ (changes-keeps _ (pop-alters quiet name))
      (cond-keeps (registers leaving) (register p name l) (pass_on p name leaving) (register-keeps p name l) (pass_on-keeps quiet p name leaving))

  pub end_in_finalize-keeps : (p : Image) (name : Who) (leaving : Leaving) → Keeps X (end_in_finalize p name leaving)
  unfolding end_in_finalize
  end_in_finalize-keeps p name leaving =
      then-keeps _ _ (changes-keeps _ (pop-alters quiet name)) (looks-keeps _ (λ w. behind_finalize-keeps p name leaving (is_assignment (top_of w name))))

  pub edit_top_assign-alters : (name : Who) (f : AssignMark → AssignMark) → Alters X (edit_top_assign name f)
  edit_top_assign-alters name f = edit_top-alters quiet name (λ x. with_mark (edit_assign f x.mark) x)

  pub leave_without_room-keeps : (name : Who) → Keeps X (leave_without_room name)
  unfolding leave_without_room
  leave_without_room-keeps name = leaves-keeps quiet name (how.Exception exception.Storage)

  pub copy_object-alters : (p : Image) (target source : Located) → Alters X (copy_object p target source)
  copy_object-alters p target source = plain-alters quiet (copy_object p target source) (λ w. refl) (λ w. refl) (λ w. refl) (λ w. refl) (λ w. refl) (λ w t e. e)

  pub open_operation-keeps : (p : Image) (name : Who) (f : SubprogramNo) (l : Located) → Keeps X (open_operation p name f l)
  unfolding open_operation
  open_operation-keeps p name f l = search (looks-keeps, changes-keeps, open_scope-alters)

  pub initialize_by-keeps : (p : Image) (name : Who) (s : StatementNo) (l : Located) (f : Option SubprogramNo) → Keeps X (initialize_by p name s l f)
  unfolding initialize_by
  initialize_by-keeps p name s l None = search (goes-keeps, then-keeps, register-keeps)
  initialize_by-keeps p name s l (Some f) = search (with_room-keeps, goes-keeps, then-keeps, changes-keeps, push-alters, open_operation-keeps)

  pub initialize-keeps : (p : Image) (name : Who) (s : StatementNo) (d : DeclNo) → Keeps X (initialize p name s d)
  unfolding initialize
  initialize-keeps p name s d = search (sees-keeps, given-keeps, initialize_by-keeps) depth 6

  pub open_finalize-keeps : (p : Image) (name : Who) (n : ℕ) (l : Located) (f : SubprogramNo) → Keeps X (open_finalize p name n l f)
  unfolding open_finalize
  open_finalize-keeps p name n l f = search (changes-keeps, push-alters, then-keeps, open_operation-keeps)

  pub finalize_by-keeps : (p : Image) (name : Who) (r : Registered) (f : Option SubprogramNo) → Keeps X (finalize_by p name r f)
  unfolding finalize_by
  finalize_by-keeps p name r None = nothing-keeps
  finalize_by-keeps p name r (Some f) =
      looks-keeps _
      (λ w. branch-keeps (has_room_to_finalize p w name f) (open_finalize p name r.object r.located f) (changes (edit_top_scope name finalize_has_raised))
      (open_finalize-keeps p name r.object r.located f) (changes-keeps _ (edit_top_scope-alters name finalize_has_raised)))

  finalize_now-keeps : (p : Image) (name : Who) (r : Registered) → Keeps X (finalize_now p name r)
  unfolding finalize_now
  finalize_now-keeps p name r = search (says-keeps, then-keeps, changes-keeps, no_longer_registered-alters, finalize_by-keeps) depth 6

  pub finalize-keeps : (p : Image) (name : Who) (r : Registered) → Keeps X (finalize p name r)
  unfolding finalize
  finalize-keeps p name r = search (looks-keeps, when-keeps, finalize_now-keeps)

  pub begin_assignment-keeps : (p : Image) (name : Who) (s : StatementNo) (target source : ℕ) → Keeps X (begin_assignment p name s target source)
  unfolding begin_assignment
  begin_assignment-keeps p name s target source = search (with_room-keeps, goes-keeps, then-keeps, says-keeps, changes-keeps, push-alters) depth 6

  pub assign_registered-keeps : (p : Image) (name : Who) (s : StatementNo) (target source : Option Registered)
      → Keeps X (assign_registered p name s target source)
  unfolding assign_registered
  assign_registered-keeps p name s (Some target) (Some source) = begin_assignment-keeps p name s target.object source.object
  assign_registered-keeps p name s (Some target) None = raises-keeps quiet Own name exception.Program
  assign_registered-keeps p name s None source = raises-keeps quiet Own name exception.Program

  pub assign_located-keeps : (p : Image) (name : Who) (s : StatementNo) (target source : Located) → Keeps X (assign_located p name s target source)
  unfolding assign_located
  assign_located-keeps p name s target source = search (cond-keeps, goes-keeps, looks-keeps, assign_registered-keeps)

  pub assign_controlled-keeps : (p : Image) (name : Who) (s : StatementNo) (target source : DeclNo) → Keeps X (assign_controlled p name s target source)
  unfolding assign_controlled
  assign_controlled-keeps p name s target source = search (sees-keeps, given-keeps, assign_located-keeps) depth 6

  pub finalize_target_by-keeps : (p : Image) (name : Who) (r : Registered) (f : Option SubprogramNo) → Keeps X (finalize_target_by p name r f)
  unfolding finalize_target_by
  finalize_target_by-keeps p name r None = nothing-keeps
  finalize_target_by-keeps p name r (Some f) =
      looks-keeps _
      (λ w. branch-keeps (has_room_to_finalize p w name f) (open_finalize p name r.object r.located f) (leave_without_room name)
      (open_finalize-keeps p name r.object r.located f) (leave_without_room-keeps name))

  pub adjust_by-keeps : (p : Image) (name : Who) (r : Registered) (f : Option SubprogramNo) → Keeps X (adjust_by p name r f)
  unfolding adjust_by
  adjust_by-keeps p name r None = nothing-keeps
  adjust_by-keeps p name r (Some f) =
      looks-keeps _
      (λ w. branch-keeps (has_room_to_adjust p w name f) (open_operation p name f r.located) (leave_without_room name) (open_operation-keeps p name f r.located)
      (leave_without_room-keeps name))

  do_step-keeps : (p : Image) (name : Who) (step : AssignStep) (target source : Registered) → Keeps X (do_step p name step target source)
  do_step-keeps p name assigning.FinalizeTarget target source = search (changes-keeps, edit_top_assign-alters, then-keeps, finalize_target_by-keeps)
  do_step-keeps p name assigning.CopyComponents target source = search (changes-keeps, edit_top_assign-alters, then-keeps, copy_object-alters)
  do_step-keeps p name assigning.AdjustTarget target source = search (changes-keeps, edit_top_assign-alters, then-keeps, adjust_by-keeps)
  do_step-keeps p name assigning.Assigned target source = changes-keeps _ (pop-alters quiet name)

  step_with-keeps : (p : Image) (name : Who) (step : AssignStep) (target source : Option Registered) → Keeps X (step_with p name step target source)
  step_with-keeps p name step (Some target) (Some source) = do_step-keeps p name step target source
  step_with-keeps p name step (Some target) None = changes-keeps _ (pop-alters quiet name)
  step_with-keeps p name step None source = changes-keeps _ (pop-alters quiet name)

  pub end_in_assign-keeps : (p : Image) (name : Who) (m : AssignMark) (leaving : Option Leaving) → Keeps X (end_in_assign p name m leaving)
  unfolding end_in_assign
  end_in_assign-keeps p name m (Some (how.Exception e)) =
      then-keeps _ _ (changes-keeps _ (pop-alters quiet name)) (raises-keeps quiet Own name exception.Program)
  end_in_assign-keeps p name m _ = looks-keeps _ (λ w. step_with-keeps p name m.step (registered_object w m.target) (registered_object w m.source))
