-- Initialize, Finalize and assignment: each step keeps a relation that its parts keep.
use Rattle.std.specs.Prelude.{ℕ, suc, Bool, true, false, Option, Some, None, cond, find}
use Rattle.profile_machine.specs.declared.world.lines.Line.TheVariants as line
use Rattle.ann_base.specs.declared.exceptions.Raised.TheVariants as exception
use Rattle.trace_text.specs.declared.events.Who.{Who}
use Rattle.profile_image.specs.declared.image.Image.{Image}
use Rattle.profile_image.specs.declared.numbers.DeclNo.{DeclNo}
use Rattle.profile_image.specs.declared.numbers.StatementNo.{StatementNo}
use Rattle.profile_image.specs.declared.numbers.SubprogramNo.{SubprogramNo}
use Rattle.profile_machine.specs.declared.run_data.Leaving.{Leaving}
use Rattle.profile_machine.specs.declared.run_data.Leaving.TheVariants as how
use Rattle.profile_image.specs.declared.values.Value.TheVariants.{Thing}
use Rattle.profile_machine.specs.declared.world.scopes.Located.{Located}
use Rattle.profile_machine.specs.declared.world.scopes.Variable.{Variable}
use Rattle.profile_machine.specs.declared.world.appointments.Registered.{Registered}
use Rattle.profile_machine.specs.declared.world.marks.ScopeMark.{ScopeMark}
use Rattle.profile_machine.specs.declared.world.marks.AssignMark.{AssignMark}
use Rattle.profile_machine.specs.declared.world.marks.AssignStep.{AssignStep}
use Rattle.profile_machine.specs.declared.world.marks.AssignStep.TheVariants as assigning
use Rattle.profile_machine.specs.declared.world.lines.Part.TheVariants.{Own}
use Rattle.profile_machine.specs.Steps.{says, changes, ◌▷◌, looks, when, nothing}
use Rattle.profile_machine.specs.Scopes.{write_cell, put_cells}
use Rattle.profile_machine.specs.Statements.{cells_from}
use Rattle.profile_machine.specs.Controlled.{first_place, open_operation, top_region, registered_as, register, initialize_by, initialize}
use Rattle.profile_machine.specs.Controlled.{end_in_initialize, edit_top_scope, finalize_has_raised, open_finalize, has_room_to_finalize, finalize_by}
use Rattle.profile_machine.specs.Controlled.{no_longer_registered, is_being_assigned, finalize_now, finalize, behind_finalize, end_in_finalize}
use Rattle.profile_machine.specs.Controlled.{begin_assignment, assign_registered, assign_located, assign_controlled, edit_top_assign}
use Rattle.profile_machine.specs.Controlled.{leave_without_room, finalize_target_by, has_room_to_adjust, adjust_by, copy_components_of, copy_object}
use Rattle.profile_machine.specs.Controlled.{do_step, step_with, end_in_assign, edit_scope_mark, edit_assign, registered_object, registers}
use Rattle.profile_machine.specs.Controlled.{is_assignment, registered_at, is_located, same_located, new_assign_mark, next_to_finalize, type_of}
use Rattle.machine_laws.proofs.Moves.{StepRelation, MoveRelation, own}
use Rattle.machine_laws.proofs.FineMoves.{GoodWorld, Naming}
use Rattle.machine_laws.proofs.FinestMoves.{FinestMoves, MarkOpenings, nature, chains}
use Rattle.machine_laws.proofs.Kept.Frames.{edit_top-alters, goes-keeps, push-alters, leaves-keeps, goes_then-from, popped, plain_steps}
use Rattle.machine_laws.proofs.Kept.Scopes.{open_scope-alters}
use Rattle.std.proofs.Common.{◌≡◌, refl, ap, ◌∙◌, [], ◌∷◌, not}
use Rattle.profile_machine.specs.declared.world.tasks.Task.{Task}
use Rattle.trace_text.specs.declared.events.Who.TheVariants as who
use Rattle.profile_image.specs.Program.{next_of}
use Rattle.profile_machine.specs.Tasks.{task_at, edit_task_found, edit_task, with_frames}
use Rattle.ann_base.specs.declared.identities.RegionNo.{RegionNo}
use Rattle.profile_machine.specs.declared.world.World.{World}
use Rattle.profile_machine.specs.declared.world.marks.Frame.{Frame}
use Rattle.profile_machine.specs.declared.world.marks.Mark.{Mark}
use Rattle.profile_machine.specs.declared.world.marks.Mark.TheVariants.{Scope, Handled, InProtected, InAccept, Abortable, InInitialize, InFinalize, InAssign}
use Rattle.profile_machine.specs.Frames.{top_of, pop, with_mark, is_protected, pass_on, goes, goes_on, edit_first, edit_top, push, new_frame}
use Rattle.machine_laws.proofs.Kept.Combinators.{Alters, From, Keeps, Kept, branch-keeps, changes-from, changes-keeps}
use Rattle.machine_laws.proofs.Kept.Combinators.{changes_then-from, cond-keeps, keeps-from, looks-from, looks-keeps, looks_at-from}
use Rattle.machine_laws.proofs.Kept.Combinators.{nothing-keeps, said_then-from, sees-keeps, then-keeps, told_change-from}
use Rattle.machine_laws.proofs.Plain.Frames.{raises-keeps, pass_on-keeps, given-keeps, with_room-keeps, with_room-from}
use Rattle.machine_laws.proofs.Plain.Cells.{write_cell-alters}
use Rattle.machine_laws.proofs.Plain.PlainSteps.{anybody}

-- the region of a scope's mark is not edited, nor what another mark is
scope-nature : (f : ScopeMark → ScopeMark) → ((m : ScopeMark) → nature (Scope (f m)) ≡ nature (Scope m)) → (mark : Mark)
    → nature (edit_scope_mark f mark) ≡ nature mark
scope-nature f same (Scope m) = same m
scope-nature f same (Handled s) = refl
scope-nature f same (InProtected m) = refl
scope-nature f same (InAccept m) = refl
scope-nature f same (Abortable m) = refl
scope-nature f same (InInitialize l) = refl
scope-nature f same (InFinalize o) = refl
scope-nature f same (InAssign m) = refl

pub edit_found-registered : (name : Who) (f : Task → Task) (w : World) (found : Option Task) → (edit_task_found name f w found).registered ≡ w.registered
edit_found-registered name f w None = refl
edit_found-registered (who.Task n) f w (Some t) = refl
edit_found-registered who.Agent f w (Some t) = refl

pub edit_task-registered : (name : Who) (f : Task → Task) (w : World) → (edit_task name f w).registered ≡ w.registered
edit_task-registered name f w = edit_found-registered name f w (task_at w name)

assign-nature : (f : AssignMark → AssignMark) (mark : Mark) → nature (edit_assign f mark) ≡ nature mark
assign-nature f (Scope m) = refl
assign-nature f (Handled s) = refl
assign-nature f (InProtected m) = refl
assign-nature f (InAccept m) = refl
assign-nature f (Abortable m) = refl
assign-nature f (InInitialize l) = refl
assign-nature f (InFinalize o) = refl
assign-nature f (InAssign m) = refl

module _ {G : GoodWorld} {May Other : Naming} {R : StepRelation} {Q : MoveRelation} (moves : FinestMoves G May Other R Q) where
  -- the object is registered, and told, whose cell then has its number
  told_register-from : (p : Image) (name : Who) (l : Located) (w : World) → G w
      → From R w (changes (registered_as (suc w.drawn.controlled) (top_region w name) l)
      ▷ changes (write_cell l.within (first_place p l) (Thing (suc w.drawn.controlled)))
      ▷ says Own (line.Init name (suc w.drawn.controlled) (top_region w name) l.declared))
  unfolding From Kept Alters
  told_register-from p name l w good said =
      let n = suc w.drawn.controlled in
      let v = registered_as n (top_region w name) l w in
      let told = own (line.Init name n (top_region w name) l.declared) ∷ [] in
      let first = moves.registers name l w good in (
        told,
        refl,
        moves.goes_on w v (write_cell l.within (first_place p l) (Thing n) v) {xs = told} {ys = []} first
            (write_cell-alters (plain_steps moves) l.within (first_place p l) (Thing n) v (moves.behind w v first)),
      )

  pub register-keeps : (p : Image) (name : Who) (l : Located) → Keeps G R (register p name l)
  unfolding register
  register-keeps p name l = looks-from (chains moves) _ (λ w good. told_register-from p name l w good)

  pub edit_top_scope-alters : (name : Who) (f : ScopeMark → ScopeMark) → ((m : ScopeMark) → nature (Scope (f m)) ≡ nature (Scope m))
      → Alters G R (edit_top_scope name f)
  edit_top_scope-alters name f same = edit_top-alters moves name (λ x. with_mark (edit_scope_mark f x.mark) x) (λ x. scope-nature f same x.mark)

  pub behind_finalize-keeps : (p : Image) (name : Who) (leaving : Leaving) (test : Bool) → Keeps G R (behind_finalize p name leaving test)
  unfolding behind_finalize
  behind_finalize-keeps p name (how.Exception e) true = search (pass_on-keeps, plain_steps, anybody)
  behind_finalize-keeps p name (how.Exception e) false = search (changes-keeps, edit_top_scope-alters, chains)
  behind_finalize-keeps p name how.End of_assignment = search (nothing-keeps, chains)
  behind_finalize-keeps p name how.Return of_assignment = search (nothing-keeps, chains)
  behind_finalize-keeps p name (how.Exit loop) of_assignment = search (nothing-keeps, chains)
  behind_finalize-keeps p name how.Abort of_assignment = search (nothing-keeps, chains)
  behind_finalize-keeps p name how.Terminate of_assignment = search (nothing-keeps, chains)

  pub end_in_initialize-from : (p : Image) (name : Who) (l : Located) (leaving : Leaving) (f : Frame) (w : World) → G w → May name → top_of w name ≡ Some f
      → is_protected f.mark ≡ false → From R w (end_in_initialize p name l leaving)
  unfolding end_in_initialize
  end_in_initialize-from p name l leaving f w good may top free =
      let out = popped moves name f w good may top free in
      changes_then-from (chains moves) (pop name) _ w out
      (keeps-from (chains moves) (cond (registers leaving) (register p name l) (pass_on p name leaving)) (pop name w) (moves.behind w (pop name w) out)
      (search (cond-keeps, register-keeps, pass_on-keeps, chains, plain_steps, anybody)))

  pub end_in_finalize-from : (p : Image) (name : Who) (leaving : Leaving) (f : Frame) (w : World) → G w → May name → top_of w name ≡ Some f
      → is_protected f.mark ≡ false → From R w (end_in_finalize p name leaving)
  unfolding end_in_finalize
  end_in_finalize-from p name leaving f w good may top free =
      let out = popped moves name f w good may top free in
      changes_then-from (chains moves) (pop name) _ w out
      (keeps-from (chains moves) (looks (λ v. behind_finalize p name leaving (is_assignment (top_of v name)))) (pop name w)
      (moves.behind w (pop name w) out) (search (looks-keeps, behind_finalize-keeps, chains)))

  pub edit_top_assign-alters : (name : Who) (f : AssignMark → AssignMark) → Alters G R (edit_top_assign name f)
  edit_top_assign-alters name f = edit_top-alters moves name (λ x. with_mark (edit_assign f x.mark) x) (λ x. assign-nature f x.mark)

  pub leave_without_room-keeps : (name : Who) → Keeps G R (leave_without_room name)
  unfolding leave_without_room
  leave_without_room-keeps name = search (leaves-keeps)

  pub copy_components_of-alters : (target source : Variable) (count : ℕ) → Alters G R (copy_components_of target source count)
  unfolding Alters
  copy_components_of-alters target source count w good = moves.edits_cells target.within (put_cells target.place (cells_from w source count)) w good

  pub copy_object-alters : (p : Image) (target source : Located) → Alters G R (copy_object p target source)
  copy_object-alters p target source = search (copy_components_of-alters)

module _ {G : GoodWorld} {May Other : Naming} {R : StepRelation} {Q : MoveRelation} (moves : FinestMoves G May Other R Q)
    (openings : MarkOpenings G May Other R) where
  pub open_operation-keeps : (p : Image) (name : Who) (f : SubprogramNo) (l : Located) → May name → Keeps G R (open_operation p name f l)
  unfolding open_operation
  open_operation-keeps p name f l may = search (looks-keeps, changes-keeps, open_scope-alters, chains)

  pub initialize_by-keeps : (p : Image) (name : Who) (s : StatementNo) (l : Located) (f : Option SubprogramNo) → May name
      → Keeps G R (initialize_by p name s l f)
  unfolding initialize_by
  initialize_by-keeps p name s l None may = search (goes-keeps, then-keeps, register-keeps, chains)
  initialize_by-keeps p name s l (Some f) may =
      search (with_room-keeps, goes-keeps, then-keeps, changes-keeps, push-alters, open_operation-keeps, chains, plain_steps)

  pub initialize-keeps : (p : Image) (name : Who) (s : StatementNo) (d : DeclNo) → May name → Keeps G R (initialize p name s d)
  unfolding initialize
  initialize-keeps p name s d may = search (sees-keeps, given-keeps, initialize_by-keeps, chains, plain_steps) depth 8

  pub open_finalize-keeps : (p : Image) (name : Who) (n : ℕ) (l : Located) (f : SubprogramNo) → May name → Keeps G R (open_finalize p name n l f)
  unfolding open_finalize
  open_finalize-keeps p name n l f may = search (changes-keeps, push-alters, then-keeps, open_operation-keeps, chains)

  pub finalize_by-keeps : (p : Image) (name : Who) (r : Registered) (f : Option SubprogramNo) → May name → Keeps G R (finalize_by p name r f)
  unfolding finalize_by
  finalize_by-keeps p name r None may = search (nothing-keeps, chains)
  finalize_by-keeps p name r (Some f) may =
      looks-keeps (chains moves) _
      (λ w. branch-keeps (chains moves) (has_room_to_finalize p w name f) (open_finalize p name r.object r.located f)
      (changes (edit_top_scope name finalize_has_raised)) (search (open_finalize-keeps)) (search (changes-keeps, edit_top_scope-alters, chains)))

  -- the newest object of a region that is being left
  finalize_now-from : (p : Image) (name : Who) (f : Frame) (m : ScopeMark) (r : RegionNo) (x : Registered) (w : World) → G w → May name → top_of w name ≡ Some f
      → f.mark ≡ Scope m → m.region ≡ Some r → m.being_left ≡ true → next_to_finalize w r ≡ Some x
      → From R w (finalize_now p name x)
  unfolding finalize_now
  finalize_now-from p name f m r x w good may top is region left next =
      told_change-from (chains moves) Own (line.Final name x.object) (no_longer_registered x.object) (finalize_by p name x (type_of p x.located).finalize) w
      (moves.finalizes name f m r x w good may top is region left next) (finalize_by-keeps p name x (type_of p x.located).finalize may)

  pub finalize-from : (p : Image) (name : Who) (f : Frame) (m : ScopeMark) (r : RegionNo) (x : Registered) (w : World) → G w → May name → top_of w name ≡ Some f
      → f.mark ≡ Scope m → m.region ≡ Some r → m.being_left ≡ true → next_to_finalize w r ≡ Some x
      → From R w (finalize p name x)
  unfolding finalize
  finalize-from p name f m r x w good may top is region left next =
      looks_at-from (chains moves) (λ v. when (not (is_being_assigned v x.object)) (finalize_now p name x)) w
      (free-from (not (is_being_assigned w x.object))) where
        free-from : (free : Bool) → From R w (when free (finalize_now p name x))
        free-from true = finalize_now-from p name f m r x w good may top is region left next
        free-from false = keeps-from (chains moves) nothing w good (nothing-keeps (chains moves))

  -- an object that is registered is assigned to
  begin_assignment-from : (p : Image) (name : Who) (s : StatementNo) (l : Located) (x : Registered) (source : ℕ) (w : World) → G w → May name
      → registered_at w l ≡ Some x → From R w (begin_assignment p name s x.object source)
  unfolding begin_assignment
  begin_assignment-from p name s l x source w good may found =
      with_room-from (plain_steps moves) name 1 0 _ w good
      (goes_then-from moves name (next_of p s) _ w good (λ good_onward.
      let gone = edit_top name (goes_on (next_of p s)) w in
      let still : registered_at gone l ≡ Some x =
      ap (find (is_located l)) (edit_task-registered name (λ t. with_frames (edit_first (goes_on (next_of p s)) t.frames) t) w) ∙ found in
      said_then-from (chains moves) Own (line.Replace name x.object) (changes (push name (new_frame (new_assign_mark x.object source) None))) gone
      (moves.replaces name l x gone good_onward still)
      (keeps-from (chains moves) (changes (push name (new_frame (new_assign_mark x.object source) None))) gone good_onward
      (search (changes-keeps, push-alters, chains)))))

  assign_registered-from : (p : Image) (name : Who) (s : StatementNo) (l : Located) (target source : Option Registered) (w : World) → G w → May name
      → registered_at w l ≡ target → From R w (assign_registered p name s target source)
  unfolding assign_registered
  assign_registered-from p name s l (Some target) (Some source) w good may found = begin_assignment-from p name s l target source.object w good may found
  assign_registered-from p name s l (Some target) None w good may found =
      keeps-from (chains moves) _ w good (raises-keeps (plain_steps moves) Own name exception.Program)
  assign_registered-from p name s l None source w good may found =
      keeps-from (chains moves) _ w good (raises-keeps (plain_steps moves) Own name exception.Program)

  pub assign_located-keeps : (p : Image) (name : Who) (s : StatementNo) (target source : Located) → May name → Keeps G R (assign_located p name s target source)
  unfolding assign_located
  assign_located-keeps p name s target source may =
      cond-keeps (chains moves) (same_located target source) (goes name (next_of p s)) _ (goes-keeps moves name (next_of p s))
      (looks-from (chains moves) _ (λ w good. assign_registered-from p name s target (registered_at w target) (registered_at w source) w good may refl))

  pub assign_controlled-keeps : (p : Image) (name : Who) (s : StatementNo) (target source : DeclNo) → May name
      → Keeps G R (assign_controlled p name s target source)
  unfolding assign_controlled
  assign_controlled-keeps p name s target source may = search (sees-keeps, given-keeps, assign_located-keeps, chains, plain_steps) depth 8

  pub finalize_target_by-keeps : (p : Image) (name : Who) (r : Registered) (f : Option SubprogramNo) → May name → Keeps G R (finalize_target_by p name r f)
  unfolding finalize_target_by
  finalize_target_by-keeps p name r None may = search (nothing-keeps, chains)
  finalize_target_by-keeps p name r (Some f) may =
      looks-keeps (chains moves) _
      (λ w. branch-keeps (chains moves) (has_room_to_finalize p w name f) (open_finalize p name r.object r.located f) (leave_without_room name)
      (search (open_finalize-keeps)) (search (leave_without_room-keeps)))

  pub adjust_by-keeps : (p : Image) (name : Who) (r : Registered) (f : Option SubprogramNo) → May name → Keeps G R (adjust_by p name r f)
  unfolding adjust_by
  adjust_by-keeps p name r None may = search (nothing-keeps, chains)
  adjust_by-keeps p name r (Some f) may =
      looks-keeps (chains moves) _
      (λ w. branch-keeps (chains moves) (has_room_to_adjust p w name f) (open_operation p name f r.located) (leave_without_room name)
      (search (open_operation-keeps)) (search (leave_without_room-keeps)))

  do_step-from : (p : Image) (name : Who) (step : AssignStep) (target source : Registered) (w : World) → G w → May name → R w [] (pop name w)
      → From R w (do_step p name step target source)
  do_step-from p name assigning.FinalizeTarget target source w good may out =
      keeps-from (chains moves) _ w good (search (changes-keeps, edit_top_assign-alters, then-keeps, finalize_target_by-keeps, chains))
  do_step-from p name assigning.CopyComponents target source w good may out =
      keeps-from (chains moves) _ w good (search (changes-keeps, edit_top_assign-alters, then-keeps, copy_object-alters, chains))
  do_step-from p name assigning.AdjustTarget target source w good may out =
      keeps-from (chains moves) _ w good (search (changes-keeps, edit_top_assign-alters, then-keeps, adjust_by-keeps, chains))
  do_step-from p name assigning.Assigned target source w good may out = changes-from (chains moves) (pop name) w out

  step_with-from : (p : Image) (name : Who) (step : AssignStep) (target source : Option Registered) (w : World) → G w → May name → R w [] (pop name w)
      → From R w (step_with p name step target source)
  step_with-from p name step (Some target) (Some source) w good may out = do_step-from p name step target source w good may out
  step_with-from p name step (Some target) None w good may out = changes-from (chains moves) (pop name) w out
  step_with-from p name step None source w good may out = changes-from (chains moves) (pop name) w out

  pub end_in_assign-from : (p : Image) (name : Who) (m : AssignMark) (leaving : Option Leaving) (f : Frame) (w : World) → G w → May name
      → top_of w name ≡ Some f → is_protected f.mark ≡ false → From R w (end_in_assign p name m leaving)
  unfolding end_in_assign
  end_in_assign-from p name m (Some (how.Exception e)) f w good may top free =
      let out = popped moves name f w good may top free in
      changes_then-from (chains moves) (pop name) _ w out
      (keeps-from (chains moves) _ (pop name w) (moves.behind w (pop name w) out) (raises-keeps (plain_steps moves) Own name exception.Program))
  end_in_assign-from p name m _ f w good may top free =
      looks_at-from (chains moves) (λ v. step_with p name m.step (registered_object v m.target) (registered_object v m.source)) w
      (step_with-from p name m.step (registered_object w m.target) (registered_object w m.source) w good may (popped moves name f w good may top free))
