-- Controlled objects: each step keeps the cells right.
use Rattle.std.specs.Prelude.{ℕ, Bool, true, false, Option, Some, None}
use Rattle.ann_base.specs.declared.identities.RegionNo.{RegionNo}
use Rattle.trace_text.specs.declared.events.Who.{Who}
use Rattle.profile_image.specs.declared.image.Image.{Image}
use Rattle.profile_image.specs.declared.numbers.DeclNo.{DeclNo}
use Rattle.profile_image.specs.declared.numbers.StatementNo.{StatementNo}
use Rattle.profile_image.specs.declared.numbers.SubprogramNo.{SubprogramNo}
use Rattle.profile_machine.specs.declared.run_data.Leaving.{Leaving}
use Rattle.profile_machine.specs.declared.run_data.Leaving.TheVariants as how
use Rattle.profile_machine.specs.declared.world.scopes.Located.{Located}
use Rattle.profile_machine.specs.declared.world.scopes.Variable.{Variable}
use Rattle.profile_machine.specs.declared.world.appointments.Registered.{Registered}
use Rattle.profile_machine.specs.declared.world.marks.ScopeMark.{ScopeMark}
use Rattle.profile_machine.specs.declared.world.marks.AssignMark.{AssignMark}
use Rattle.profile_machine.specs.declared.world.marks.AssignStep.{AssignStep}
use Rattle.profile_machine.specs.declared.world.marks.AssignStep.TheVariants as assigning
use Rattle.profile_machine.specs.Steps.{changes}
use Rattle.profile_machine.specs.Statements.{cells_from}
use Rattle.profile_machine.specs.Controlled.{open_operation, registered_as, register, initialize_by, initialize, end_in_initialize, edit_top_scope}
use Rattle.profile_machine.specs.Controlled.{finalize_has_raised, open_finalize, has_room_to_finalize, finalize_by, no_longer_registered, finalize_now}
use Rattle.profile_machine.specs.Controlled.{finalize, behind_finalize, end_in_finalize, begin_assignment, assign_registered, assign_located}
use Rattle.profile_machine.specs.Controlled.{assign_controlled, edit_top_assign, leave_without_room, finalize_target_by, has_room_to_adjust, adjust_by}
use Rattle.profile_machine.specs.Controlled.{components_at, cells_of_components, copy_components_of, copy_object, do_step, step_with, end_in_assign}
use Rattle.world_laws.proofs.Cells.RightCells.{Right, Keeps, Alters, then-keeps, nothing-keeps, changes-keeps}
use Rattle.world_laws.proofs.Cells.RightCells.{says-keeps, looks-keeps, sees-keeps, branch-keeps, cond-keeps, when-keeps}
use Rattle.world_laws.proofs.Cells.Kept.Frames.{edit_top-alters, goes-keeps, push-alters, pop-alters, leaves-keeps}
use Rattle.world_laws.proofs.Cells.Kept.Frames.{raises-keeps, pass_on-keeps, given-keeps, with_room-keeps}
use Rattle.world_laws.proofs.Cells.Kept.Scopes.{put_cells-alters, write_cell-alters, open_scope-alters}

-- ---- the operations of an object's type

pub open_operation-keeps : (p : Image) (name : Who) (f : SubprogramNo) (l : Located) → Keeps p (open_operation p name f l)
unfolding open_operation
open_operation-keeps p name f l = search (looks-keeps, changes-keeps, open_scope-alters) depth 6

-- ---- registration

pub registered_as-alters : {p : Image} (n : ℕ) (r : RegionNo) (l : Located) → Alters p (registered_as n r l)
unfolding Right
registered_as-alters n r l = record { at = λ w right. right }

pub register-keeps : (p : Image) (name : Who) (l : Located) → Keeps p (register p name l)
unfolding register
register-keeps p name l = search (looks-keeps, changes-keeps, registered_as-alters, then-keeps, write_cell-alters, says-keeps) depth 11

-- ---- Initialize (7.6)

pub initialize_by-keeps : (p : Image) (name : Who) (s : StatementNo) (l : Located) (found : Option SubprogramNo) → Keeps p (initialize_by p name s l found)
unfolding initialize_by
initialize_by-keeps p name s l None = search (goes-keeps, then-keeps, register-keeps) depth 6
initialize_by-keeps p name s l (Some f) = search (with_room-keeps, goes-keeps, then-keeps, changes-keeps, push-alters, open_operation-keeps) depth 10

pub initialize-keeps : (p : Image) (name : Who) (s : StatementNo) (d : DeclNo) → Keeps p (initialize p name s d)
unfolding initialize
initialize-keeps p name s d = search (sees-keeps, given-keeps, initialize_by-keeps) depth 6

pub end_in_initialize-keeps : (p : Image) (name : Who) (l : Located) (leaving : Leaving) → Keeps p (end_in_initialize p name l leaving)
unfolding end_in_initialize
end_in_initialize-keeps p name l leaving = search (changes-keeps, pop-alters, then-keeps, cond-keeps, register-keeps, pass_on-keeps) depth 9

-- ---- Finalize of one object of a region that is being left (7.6.1)

pub edit_top_scope-alters : {p : Image} (name : Who) (f : ScopeMark → ScopeMark) → Alters p (edit_top_scope name f)
edit_top_scope-alters name f = search (edit_top-alters)

pub open_finalize-keeps : (p : Image) (name : Who) (n : ℕ) (l : Located) (f : SubprogramNo) → Keeps p (open_finalize p name n l f)
unfolding open_finalize
open_finalize-keeps p name n l f = search (changes-keeps, push-alters, then-keeps, open_operation-keeps) depth 7

pub finalize_by-keeps : (p : Image) (name : Who) (r : Registered) (found : Option SubprogramNo) → Keeps p (finalize_by p name r found)
unfolding finalize_by
finalize_by-keeps p name r None = nothing-keeps
finalize_by-keeps p name r (Some f) =
    looks-keeps _
    (λ w right. branch-keeps (has_room_to_finalize p w name f) (open_finalize p name r.object r.located f) (changes (edit_top_scope name finalize_has_raised))
    (search (open_finalize-keeps)) (search (changes-keeps, edit_top_scope-alters)))

pub no_longer_registered-alters : {p : Image} (n : ℕ) → Alters p (no_longer_registered n)
unfolding Right
no_longer_registered-alters n = record { at = λ w right. right }

pub finalize_now-keeps : (p : Image) (name : Who) (r : Registered) → Keeps p (finalize_now p name r)
unfolding finalize_now
finalize_now-keeps p name r = search (says-keeps, then-keeps, changes-keeps, no_longer_registered-alters, finalize_by-keeps) depth 9

pub finalize-keeps : (p : Image) (name : Who) (r : Registered) → Keeps p (finalize p name r)
unfolding finalize
finalize-keeps p name r = search (looks-keeps, when-keeps, finalize_now-keeps) depth 6

pub behind_finalize-keeps : (p : Image) (name : Who) (leaving : Leaving) (of_assignment : Bool) → Keeps p (behind_finalize p name leaving of_assignment)
unfolding behind_finalize
behind_finalize-keeps p name (how.Exception e) true = search (pass_on-keeps)
behind_finalize-keeps p name (how.Exception e) false = search (changes-keeps, edit_top_scope-alters)
behind_finalize-keeps p name how.End of_assignment = search (nothing-keeps)
behind_finalize-keeps p name how.Return of_assignment = search (nothing-keeps)
behind_finalize-keeps p name (how.Exit loop) of_assignment = search (nothing-keeps)
behind_finalize-keeps p name how.Abort of_assignment = search (nothing-keeps)
behind_finalize-keeps p name how.Terminate of_assignment = search (nothing-keeps)

pub end_in_finalize-keeps : (p : Image) (name : Who) (leaving : Leaving) → Keeps p (end_in_finalize p name leaving)
unfolding end_in_finalize
end_in_finalize-keeps p name leaving = search (changes-keeps, pop-alters, then-keeps, looks-keeps, behind_finalize-keeps) depth 8

-- ---- assignment (7.6)

pub begin_assignment-keeps : (p : Image) (name : Who) (s : StatementNo) (target source : ℕ) → Keeps p (begin_assignment p name s target source)
unfolding begin_assignment
begin_assignment-keeps p name s target source = search (with_room-keeps, goes-keeps, then-keeps, says-keeps, changes-keeps, push-alters) depth 10

pub assign_registered-keeps : (p : Image) (name : Who) (s : StatementNo) (found source : Option Registered) → Keeps p (assign_registered p name s found source)
unfolding assign_registered
assign_registered-keeps p name s (Some target) (Some source) = search (begin_assignment-keeps)
assign_registered-keeps p name s (Some target) None = search (raises-keeps)
assign_registered-keeps p name s None source = search (raises-keeps)

pub assign_located-keeps : (p : Image) (name : Who) (s : StatementNo) (target source : Located) → Keeps p (assign_located p name s target source)
unfolding assign_located
assign_located-keeps p name s target source = search (cond-keeps, goes-keeps, looks-keeps, assign_registered-keeps) depth 7

pub assign_controlled-keeps : (p : Image) (name : Who) (s : StatementNo) (target source : DeclNo) → Keeps p (assign_controlled p name s target source)
unfolding assign_controlled
assign_controlled-keeps p name s target source = search (sees-keeps, given-keeps, assign_located-keeps) depth 7

-- ---- the steps of an assignment

pub edit_top_assign-alters : {p : Image} (name : Who) (f : AssignMark → AssignMark) → Alters p (edit_top_assign name f)
edit_top_assign-alters name f = search (edit_top-alters)

pub leave_without_room-keeps : {p : Image} (name : Who) → Keeps p (leave_without_room name)
unfolding leave_without_room
leave_without_room-keeps name = search (leaves-keeps)

pub finalize_target_by-keeps : (p : Image) (name : Who) (r : Registered) (found : Option SubprogramNo) → Keeps p (finalize_target_by p name r found)
unfolding finalize_target_by
finalize_target_by-keeps p name r None = nothing-keeps
finalize_target_by-keeps p name r (Some f) =
    looks-keeps _
    (λ w right. branch-keeps (has_room_to_finalize p w name f) (open_finalize p name r.object r.located f) (leave_without_room name)
    (search (open_finalize-keeps)) (search (leave_without_room-keeps)))

pub adjust_by-keeps : (p : Image) (name : Who) (r : Registered) (found : Option SubprogramNo) → Keeps p (adjust_by p name r found)
unfolding adjust_by
adjust_by-keeps p name r None = nothing-keeps
adjust_by-keeps p name r (Some f) =
    looks-keeps _
    (λ w right. branch-keeps (has_room_to_adjust p w name f) (open_operation p name f r.located) (leave_without_room name) (search (open_operation-keeps))
    (search (leave_without_room-keeps)))

pub copy_components_of-alters : {p : Image} (target source : Variable) (count : ℕ) → Alters p (copy_components_of target source count)
copy_components_of-alters target source count = record { at = λ w right. (put_cells-alters target.within target.place (cells_from w source count)).at w right }

pub copy_object-alters : (p : Image) (target source : Located) → Alters p (copy_object p target source)
copy_object-alters p target source = copy_components_of-alters (components_at p target) (components_at p source) (cells_of_components p target)

pub do_step-keeps : (p : Image) (name : Who) (step : AssignStep) (target source : Registered) → Keeps p (do_step p name step target source)
do_step-keeps p name assigning.FinalizeTarget target source = search (changes-keeps, edit_top_assign-alters, then-keeps, finalize_target_by-keeps) depth 7
do_step-keeps p name assigning.CopyComponents target source = search (changes-keeps, edit_top_assign-alters, then-keeps, copy_object-alters) depth 8
do_step-keeps p name assigning.AdjustTarget target source = search (changes-keeps, edit_top_assign-alters, then-keeps, adjust_by-keeps) depth 7
do_step-keeps p name assigning.Assigned target source = search (changes-keeps, pop-alters)

pub step_with-keeps : (p : Image) (name : Who) (step : AssignStep) (found source : Option Registered) → Keeps p (step_with p name step found source)
step_with-keeps p name step (Some target) (Some source) = search (do_step-keeps)
step_with-keeps p name step (Some target) None = search (changes-keeps, pop-alters)
step_with-keeps p name step None source = search (changes-keeps, pop-alters)

pub end_in_assign-keeps : (p : Image) (name : Who) (m : AssignMark) (found : Option Leaving) → Keeps p (end_in_assign p name m found)
unfolding end_in_assign
end_in_assign-keeps p name m (Some (how.Exception e)) = search (changes-keeps, pop-alters, then-keeps, raises-keeps) depth 7
end_in_assign-keeps p name m _ = search (looks-keeps, step_with-keeps)
