-- Initialize, Finalize and assignment: each step keeps a relation that its parts keep.
use Rattle.std.specs.Prelude.{ℕ, suc, Bool, true, false, Option, Some, None, cond}
use Rattle.profile_machine.specs.declared.world.lines.Line.TheVariants as line
use Rattle.ann_base.specs.declared.exceptions.Raised.TheVariants as exception
use Rattle.trace_text.specs.declared.events.Who.{Who}
use Rattle.profile_image.specs.declared.image.Image.{Image}
use Rattle.profile_image.specs.declared.numbers.DeclNo.{DeclNo}
use Rattle.profile_image.specs.declared.numbers.StatementNo.{StatementNo}
use Rattle.profile_image.specs.declared.numbers.SubprogramNo.{SubprogramNo}
use Rattle.profile_machine.specs.declared.run_data.Leaving.{Leaving}
use Rattle.profile_machine.specs.declared.run_data.Leaving.TheVariants as how
use Rattle.profile_image.specs.declared.values.Value.TheVariants.{Thing}
use Rattle.profile_machine.specs.declared.world.scopes.Located.{Located}
use Rattle.profile_machine.specs.declared.world.scopes.Variable.{Variable}
use Rattle.profile_machine.specs.declared.world.appointments.Registered.{Registered}
use Rattle.profile_machine.specs.declared.world.marks.ScopeMark.{ScopeMark}
use Rattle.profile_machine.specs.declared.world.marks.AssignMark.{AssignMark}
use Rattle.profile_machine.specs.declared.world.marks.AssignStep.{AssignStep}
use Rattle.profile_machine.specs.declared.world.marks.AssignStep.TheVariants as assigning
use Rattle.profile_machine.specs.declared.world.lines.Part.TheVariants.{Own}
use Rattle.profile_machine.specs.Steps.{says, changes, ◌▷◌, looks}
use Rattle.profile_machine.specs.Scopes.{write_cell, put_cells}
use Rattle.profile_machine.specs.Statements.{cells_from}
use Rattle.profile_machine.specs.Controlled.{first_place, open_operation, top_region, registered_as, register, initialize_by, initialize}
use Rattle.profile_machine.specs.Controlled.{end_in_initialize, edit_top_scope, finalize_has_raised, open_finalize, has_room_to_finalize, finalize_by}
use Rattle.profile_machine.specs.Controlled.{no_longer_registered, finalize_now, finalize, behind_finalize, end_in_finalize, begin_assignment}
use Rattle.profile_machine.specs.Controlled.{assign_registered, assign_located, assign_controlled, edit_top_assign, leave_without_room}
use Rattle.profile_machine.specs.Controlled.{finalize_target_by, has_room_to_adjust, adjust_by, copy_components_of, copy_object, do_step, step_with}
use Rattle.profile_machine.specs.Controlled.{end_in_assign, edit_scope_mark, edit_assign, registered_object, registers, is_assignment}
use Rattle.std.proofs.Common.{◌≡◌, refl}
use Rattle.profile_machine.specs.declared.world.World.{World}
use Rattle.profile_machine.specs.declared.world.marks.Frame.{Frame}
use Rattle.profile_machine.specs.declared.world.marks.Mark.{Mark}
use Rattle.profile_machine.specs.declared.world.marks.Mark.TheVariants.{Scope, Handled, InProtected, InAccept, Abortable, InInitialize, InFinalize, InAssign}
use Rattle.profile_machine.specs.Frames.{top_of, pop, with_mark, pass_on}
use Rattle.world_laws.proofs.Queues.Calming.{same-calm}
use Rattle.world_laws.proofs.Queues.Kept.Combinators.{Alters, From, Keeps, branch-keeps, changes-from, changes-keeps, changes_then-from, cond-keeps}
use Rattle.world_laws.proofs.Queues.Kept.Combinators.{keeps-from, looks-keeps, looks_at-from, nothing-keeps, says-keeps, sees-keeps, then-keeps, when-keeps}
use Rattle.world_laws.proofs.Queues.Kept.Frames.{edit_cells-quiets, edit_top-alters, given-keeps, goes-keeps, leaves-keeps, open_scope-alters}
use Rattle.world_laws.proofs.Queues.Kept.Frames.{pass_on-keeps, popped, push-alters, raises-keeps, with_room-keeps, write_cell-alters}
use Rattle.world_laws.proofs.Queues.Standing.{Awake, Calm, Kind, calm-awake, nature, part_of, quiet_kind}

-- the region of a scope's mark is not edited, nor what another mark is
scope-nature : (f : ScopeMark → ScopeMark) → ((m : ScopeMark) → (f m).region ≡ m.region) → (mark : Mark) → nature (edit_scope_mark f mark) ≡ nature mark
scope-nature f same (Scope m) = refl
scope-nature f same (Handled s) = refl
scope-nature f same (InProtected m) = refl
scope-nature f same (InAccept m) = refl
scope-nature f same (Abortable m) = refl
scope-nature f same (InInitialize l) = refl
scope-nature f same (InFinalize o) = refl
scope-nature f same (InAssign m) = refl

assign-nature : (f : AssignMark → AssignMark) (mark : Mark) → nature (edit_assign f mark) ≡ nature mark
assign-nature f (Scope m) = refl
assign-nature f (Handled s) = refl
assign-nature f (InProtected m) = refl
assign-nature f (InAccept m) = refl
assign-nature f (Abortable m) = refl
assign-nature f (InInitialize l) = refl
assign-nature f (InFinalize o) = refl
assign-nature f (InAssign m) = refl

pub register-keeps : {E : Kind} (p : Image) (name : Who) (l : Located) → Keeps E name (register p name l)
unfolding register
register-keeps p name l =
    looks-keeps _ (λ w. let n = suc w.drawn.controlled in
    then-keeps (changes (registered_as n (top_region w name) l))
    (changes (write_cell l.within (first_place p l) (Thing n)) ▷ says Own (line.Init name n (top_region w name) l.declared))
    (changes-keeps _ record { at = λ v good. same-calm v (registered_as n (top_region w name) l v) refl refl refl refl refl refl refl refl })
    (search (then-keeps, changes-keeps, write_cell-alters, says-keeps)))

pub edit_top_scope-alters : {E : Kind} (name : Who) (f : ScopeMark → ScopeMark) → ((m : ScopeMark) → (f m).region ≡ m.region)
    → Alters E name (edit_top_scope name f)
edit_top_scope-alters name f same = edit_top-alters name (λ x. with_mark (edit_scope_mark f x.mark) x) (λ x. scope-nature f same x.mark)

no_longer_registered-alters : {E : Kind} {name : Who} (n : ℕ) → Alters E name (no_longer_registered n)
no_longer_registered-alters n = record { at = λ w good. same-calm w (no_longer_registered n w) refl refl refl refl refl refl refl refl }

pub behind_finalize-keeps : {E : Kind} (p : Image) (name : Who) (leaving : Leaving) (test : Bool) → Keeps E name (behind_finalize p name leaving test)
unfolding behind_finalize
behind_finalize-keeps p name (how.Exception e) true = search (pass_on-keeps)
behind_finalize-keeps p name (how.Exception e) false = search (changes-keeps, edit_top_scope-alters)
behind_finalize-keeps p name how.End of_assignment = search (nothing-keeps)
behind_finalize-keeps p name how.Return of_assignment = search (nothing-keeps)
behind_finalize-keeps p name (how.Exit loop) of_assignment = search (nothing-keeps)
behind_finalize-keeps p name how.Abort of_assignment = search (nothing-keeps)
behind_finalize-keeps p name how.Terminate of_assignment = search (nothing-keeps)

pub end_in_initialize-from : (p : Image) (name : Who) (l : Located) (leaving : Leaving) (f : Frame) (w : World) → Awake name w → top_of w name ≡ Some f
    → part_of f.mark ≡ None → From quiet_kind w (end_in_initialize p name l leaving)
unfolding end_in_initialize
end_in_initialize-from p name l leaving f w good top free =
    let out : Calm quiet_kind w (pop name w) = popped name f w refl good top free in
    changes_then-from (pop name) _ w out
    (keeps-from (cond (registers leaving) (register p name l) (pass_on p name leaving)) (pop name w) (calm-awake w (pop name w) out name good)
    (search (cond-keeps, register-keeps, pass_on-keeps)))

pub end_in_finalize-from : (p : Image) (name : Who) (leaving : Leaving) (f : Frame) (w : World) → Awake name w → top_of w name ≡ Some f → part_of f.mark ≡ None
    → From quiet_kind w (end_in_finalize p name leaving)
unfolding end_in_finalize
end_in_finalize-from p name leaving f w good top free =
    let out : Calm quiet_kind w (pop name w) = popped name f w refl good top free in
    changes_then-from (pop name) _ w out
    (keeps-from (looks (λ v. behind_finalize p name leaving (is_assignment (top_of v name)))) (pop name w) (calm-awake w (pop name w) out name good)
    (search (looks-keeps, behind_finalize-keeps)))

pub edit_top_assign-alters : {E : Kind} (name : Who) (f : AssignMark → AssignMark) → Alters E name (edit_top_assign name f)
edit_top_assign-alters name f = edit_top-alters name (λ x. with_mark (edit_assign f x.mark) x) (λ x. assign-nature f x.mark)

pub leave_without_room-keeps : {E : Kind} (name : Who) → Keeps E name (leave_without_room name)
unfolding leave_without_room
leave_without_room-keeps name = search (leaves-keeps)

pub copy_components_of-alters : {E : Kind} {name : Who} (target source : Variable) (count : ℕ) → Alters E name (copy_components_of target source count)
copy_components_of-alters target source count = record {
  at = λ w good. (edit_cells-quiets target.within (put_cells target.place (cells_from w source count))).at w;
}

pub copy_object-alters : {E : Kind} {name : Who} (p : Image) (target source : Located) → Alters E name (copy_object p target source)
copy_object-alters p target source = search (copy_components_of-alters)

pub open_operation-keeps : {E : Kind} (p : Image) (name : Who) (f : SubprogramNo) (l : Located) → Keeps E name (open_operation p name f l)
unfolding open_operation
open_operation-keeps p name f l = search (looks-keeps, changes-keeps, open_scope-alters)

pub initialize_by-keeps : {E : Kind} (p : Image) (name : Who) (s : StatementNo) (l : Located) (f : Option SubprogramNo)
    → Keeps E name (initialize_by p name s l f)
unfolding initialize_by
initialize_by-keeps p name s l None = search (goes-keeps, then-keeps, register-keeps)
initialize_by-keeps p name s l (Some f) = search (with_room-keeps, goes-keeps, then-keeps, changes-keeps, push-alters, open_operation-keeps)

pub initialize-keeps : {E : Kind} (p : Image) (name : Who) (s : StatementNo) (d : DeclNo) → Keeps E name (initialize p name s d)
unfolding initialize
initialize-keeps p name s d = search (sees-keeps, given-keeps, initialize_by-keeps) depth 6

pub open_finalize-keeps : {E : Kind} (p : Image) (name : Who) (n : ℕ) (l : Located) (f : SubprogramNo) → Keeps E name (open_finalize p name n l f)
unfolding open_finalize
open_finalize-keeps p name n l f = search (changes-keeps, push-alters, then-keeps, open_operation-keeps)

pub finalize_by-keeps : {E : Kind} (p : Image) (name : Who) (r : Registered) (f : Option SubprogramNo) → Keeps E name (finalize_by p name r f)
unfolding finalize_by
finalize_by-keeps p name r None = search (nothing-keeps)
finalize_by-keeps p name r (Some f) =
    looks-keeps _
    (λ w. branch-keeps (has_room_to_finalize p w name f) (open_finalize p name r.object r.located f) (changes (edit_top_scope name finalize_has_raised))
    (search (open_finalize-keeps)) (search (changes-keeps, edit_top_scope-alters)))

finalize_now-keeps : {E : Kind} (p : Image) (name : Who) (r : Registered) → Keeps E name (finalize_now p name r)
unfolding finalize_now
finalize_now-keeps p name r = search (says-keeps, then-keeps, changes-keeps, no_longer_registered-alters, finalize_by-keeps) depth 6

pub finalize-keeps : {E : Kind} (p : Image) (name : Who) (r : Registered) → Keeps E name (finalize p name r)
unfolding finalize
finalize-keeps p name r = search (looks-keeps, when-keeps, finalize_now-keeps)

pub begin_assignment-keeps : {E : Kind} (p : Image) (name : Who) (s : StatementNo) (target source : ℕ) → Keeps E name (begin_assignment p name s target source)
unfolding begin_assignment
begin_assignment-keeps p name s target source = search (with_room-keeps, goes-keeps, then-keeps, says-keeps, changes-keeps, push-alters) depth 6

pub assign_registered-keeps : {E : Kind} (p : Image) (name : Who) (s : StatementNo) (target source : Option Registered)
    → Keeps E name (assign_registered p name s target source)
unfolding assign_registered
assign_registered-keeps p name s (Some target) (Some source) = search (begin_assignment-keeps)
assign_registered-keeps p name s (Some target) None = search (raises-keeps)
assign_registered-keeps p name s None source = search (raises-keeps)

pub assign_located-keeps : {E : Kind} (p : Image) (name : Who) (s : StatementNo) (target source : Located)
    → Keeps E name (assign_located p name s target source)
unfolding assign_located
assign_located-keeps p name s target source = search (cond-keeps, goes-keeps, looks-keeps, assign_registered-keeps)

pub assign_controlled-keeps : {E : Kind} (p : Image) (name : Who) (s : StatementNo) (target source : DeclNo)
    → Keeps E name (assign_controlled p name s target source)
unfolding assign_controlled
assign_controlled-keeps p name s target source = search (sees-keeps, given-keeps, assign_located-keeps) depth 6

pub finalize_target_by-keeps : {E : Kind} (p : Image) (name : Who) (r : Registered) (f : Option SubprogramNo) → Keeps E name (finalize_target_by p name r f)
unfolding finalize_target_by
finalize_target_by-keeps p name r None = search (nothing-keeps)
finalize_target_by-keeps p name r (Some f) =
    looks-keeps _
    (λ w. branch-keeps (has_room_to_finalize p w name f) (open_finalize p name r.object r.located f) (leave_without_room name) (search (open_finalize-keeps))
    (search (leave_without_room-keeps)))

pub adjust_by-keeps : {E : Kind} (p : Image) (name : Who) (r : Registered) (f : Option SubprogramNo) → Keeps E name (adjust_by p name r f)
unfolding adjust_by
adjust_by-keeps p name r None = search (nothing-keeps)
adjust_by-keeps p name r (Some f) =
    looks-keeps _
    (λ w. branch-keeps (has_room_to_adjust p w name f) (open_operation p name f r.located) (leave_without_room name) (search (open_operation-keeps))
    (search (leave_without_room-keeps)))

do_step-from : {E : Kind} (p : Image) (name : Who) (step : AssignStep) (target source : Registered) (w : World) → Awake name w → Calm E w (pop name w)
    → From E w (do_step p name step target source)
do_step-from p name assigning.FinalizeTarget target source w good out =
    keeps-from _ w good (search (changes-keeps, edit_top_assign-alters, then-keeps, finalize_target_by-keeps))
do_step-from p name assigning.CopyComponents target source w good out =
    keeps-from _ w good (search (changes-keeps, edit_top_assign-alters, then-keeps, copy_object-alters))
do_step-from p name assigning.AdjustTarget target source w good out =
    keeps-from _ w good (search (changes-keeps, edit_top_assign-alters, then-keeps, adjust_by-keeps))
do_step-from p name assigning.Assigned target source w good out = changes-from (pop name) w out

step_with-from : {E : Kind} (p : Image) (name : Who) (step : AssignStep) (target source : Option Registered) (w : World) → Awake name w → Calm E w (pop name w)
    → From E w (step_with p name step target source)
step_with-from p name step (Some target) (Some source) w good out = do_step-from p name step target source w good out
step_with-from p name step (Some target) None w good out = changes-from (pop name) w out
step_with-from p name step None source w good out = changes-from (pop name) w out

pub end_in_assign-from : (p : Image) (name : Who) (m : AssignMark) (leaving : Option Leaving) (f : Frame) (w : World) → Awake name w → top_of w name ≡ Some f
    → part_of f.mark ≡ None → From quiet_kind w (end_in_assign p name m leaving)
unfolding end_in_assign
end_in_assign-from p name m (Some (how.Exception e)) f w good top free =
    let out : Calm quiet_kind w (pop name w) = popped name f w refl good top free in
    changes_then-from (pop name) _ w out (keeps-from _ (pop name w) (calm-awake w (pop name w) out name good) (raises-keeps Own name exception.Program))
end_in_assign-from p name m _ f w good top free =
    looks_at-from (λ v. step_with p name m.step (registered_object v m.target) (registered_object v m.source)) w
    (step_with-from p name m.step (registered_object w m.target) (registered_object w m.source) w good (popped name f w refl good top free))
