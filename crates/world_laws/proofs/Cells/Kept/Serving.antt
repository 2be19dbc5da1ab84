-- The end of a protected action: each step keeps the cells right.
use Rattle.std.specs.Prelude.{ℕ, zero, suc, Bool, true, false, List, Option, Some, None}
use Rattle.ann_base.specs.declared.identities.CallNo.{CallNo}
use Rattle.ann_base.specs.declared.identities.ObjectNo.{ObjectNo}
use Rattle.ann_base.specs.declared.exceptions.Raised.{Raised}
use Rattle.trace_text.specs.declared.events.Mode.{Mode}
use Rattle.trace_text.specs.declared.events.Mode.TheVariants.{Read, Write}
use Rattle.trace_text.specs.declared.events.Who.{Who}
use Rattle.profile_image.specs.declared.image.Image.{Image}
use Rattle.profile_machine.specs.declared.run_data.Leaving.{Leaving}
use Rattle.profile_machine.specs.declared.run_data.Leaving.TheVariants as how
use Rattle.profile_image.specs.declared.values.Value.{Value}
use Rattle.profile_machine.specs.declared.world.marks.ProtectedMark.{ProtectedMark}
use Rattle.profile_machine.specs.declared.world.calls.Call.{Call}
use Rattle.profile_machine.specs.declared.world.calls.Outcome.{Outcome}
use Rattle.profile_machine.specs.declared.world.calls.Sending.{Sending}
use Rattle.profile_machine.specs.Steps.{Step}
use Rattle.profile_machine.specs.Protected.{served_next}
use Rattle.profile_machine.specs.Values.{object_of}
use Rattle.profile_machine.specs.Serving.{serves_nothing, serve_ends, end_release, close_action, wait_or_unwind, wait_for_own, resume_own}
use Rattle.profile_machine.specs.Serving.{behind_action, release_object, settle_sent, begins_part, chosen_is_sent, serve_chosen}
use Rattle.profile_machine.specs.Serving.{serve_next, serve_calls, go_on_by_mode, end_operation, finish_raised, finish_well, finish_call}
use Rattle.profile_machine.specs.Serving.{end_entry_body, end_in_protected_by, end_in_protected, keep_values, end_body_of_entry}
use Rattle.profile_machine.specs.Handlers.{release}
use Rattle.profile_machine.specs.Act.{call}
use Rattle.world_laws.proofs.Cells.RightCells.{Right, Keeps, Alters, then-keeps, nothing-keeps, changes-keeps, says-keeps, looks-keeps, when-keeps}
use Rattle.world_laws.proofs.Cells.Kept.Dispatching.{block-keeps}
use Rattle.world_laws.proofs.Cells.Kept.Frames.{edit_top-alters, pop-alters, leaves-keeps, pass_on-keeps}
use Rattle.world_laws.proofs.Cells.Kept.Inheritance.{lose_running-keeps}
use Rattle.world_laws.proofs.Cells.Kept.Calls.{edit_call-alters, forget_call-alters, with_call-keeps, edit_object-alters, enqueue-keeps, attempt_with-keeps}
use Rattle.world_laws.proofs.Cells.Kept.CallEnds.{resume-keeps, deliver-keeps}
use Rattle.world_laws.proofs.Cells.Kept.Protected.{edit_top_protected-alters, serve_call-keeps}
use Rattle.world_laws.proofs.Cells.Kept.Priorities.{set_deferred-keeps}
use Rattle.world_laws.proofs.Cells.Kept.Sending.{open_abortable-alters, wait_for_call-keeps, send_on-keeps, begin_abortable-keeps, sent_not_begun-keeps}

-- ---- the agent has served a release (C.3, D.15)

pub serves_nothing-alters : {p : Image} → Alters p serves_nothing
unfolding Right
serves_nothing-alters = record { at = λ w right. right }

pub serve_ends-keeps : {p : Image} (n : ℕ) → Keeps p (serve_ends n)
unfolding serve_ends
serve_ends-keeps n = search (says-keeps, then-keeps, changes-keeps, serves_nothing-alters, looks-keeps, when-keeps, block-keeps) depth 11

pub end_release-keeps : {p : Image} (n : ℕ) → Keeps p (end_release n)
unfolding end_release
end_release-keeps n = search (looks-keeps, when-keeps, serve_ends-keeps) depth 6

-- ---- the release of an object

pub close_action-alters : {p : Image} (name : Who) (o : ObjectNo) → Alters p (close_action name o)
close_action-alters name o = search (edit_object-alters)

pub wait_or_unwind-keeps : (p : Image) (name : Who) (c : Call) (test : Bool) → Keeps p (wait_or_unwind p name c test)
unfolding wait_or_unwind
wait_or_unwind-keeps p name c true = search (attempt_with-keeps, changes-keeps, forget_call-alters, then-keeps, leaves-keeps, wait_for_call-keeps) depth 9
wait_or_unwind-keeps p name c false = search (wait_for_call-keeps)

pub wait_for_own-keeps : (p : Image) (name : Who) (c : Call) (test : Bool) → Keeps p (wait_for_own p name c test)
unfolding wait_for_own
wait_for_own-keeps p name c true = search (changes-keeps, open_abortable-alters)
wait_for_own-keeps p name c false = search (looks-keeps, wait_or_unwind-keeps)

pub resume_own-keeps : (p : Image) (name : Who) (c : Call) (found : Option Outcome) → Keeps p (resume_own p name c found)
unfolding resume_own
resume_own-keeps p name c (Some outcome) = search (resume-keeps)
resume_own-keeps p name c None = search (looks-keeps, wait_for_own-keeps)

pub behind_action-keeps : (p : Image) (name : Who) (m : ProtectedMark) (found : Option ℕ) (call : Option CallNo) → Keeps p (behind_action p name m found call)
unfolding behind_action
behind_action-keeps p name m (Some release) call = search (end_release-keeps)
behind_action-keeps p name m None None = search (pass_on-keeps)
behind_action-keeps p name m None (Some c) = search (with_call-keeps, resume_own-keeps)

pub release_object-keeps : (p : Image) (name : Who) (m : ProtectedMark) → Keeps p (release_object p name m)
unfolding release_object
release_object-keeps p name m =
    search (says-keeps, then-keeps, changes-keeps, pop-alters, close_action-alters, lose_running-keeps, set_deferred-keeps, behind_action-keeps) depth 14

-- ---- the next call is served, or the object is released (9.5.3)

pub settle_sent-keeps : (p : Image) (found : Option CallNo) (is_served : Bool) → Keeps p (settle_sent p found is_served)
unfolding settle_sent
settle_sent-keeps p None is_served = search (nothing-keeps)
settle_sent-keeps p (Some c) true = search (nothing-keeps)
settle_sent-keeps p (Some c) false = search (sent_not_begun-keeps)

pub begins_part-keeps : (p : Image) (test : Bool) (c : CallNo) → Keeps p (begins_part p test c)
unfolding begins_part
begins_part-keeps p true c = search (begin_abortable-keeps)
begins_part-keeps p false c = search (nothing-keeps)

pub serve_chosen-keeps : (p : Image) (name : Who) (m : ProtectedMark) (is_sent : Bool) (again : Step) (found : Option CallNo) → Keeps p again
    → Keeps p (serve_chosen p name m is_sent again found)
serve_chosen-keeps p name m is_sent again None kept = search (release_object-keeps)
serve_chosen-keeps p name m is_sent again (Some c) kept = search (with_call-keeps, serve_call-keeps, begins_part-keeps, deliver-keeps, then-keeps) depth 8

pub serve_next-keeps : (fuel : ℕ) (p : Image) (name : Who) (m : ProtectedMark) (sent : Option CallNo) → Keeps p (serve_next fuel p name m sent)
unfolding serve_next
serve_next-keeps zero p name m sent = release_object-keeps p name m
serve_next-keeps (suc fuel) p name m sent =
    looks-keeps _ (λ w right. let chosen = served_next p w name (object_of w m.object) in
    then-keeps (settle_sent p sent (chosen_is_sent sent chosen)) _ (settle_sent-keeps p sent (chosen_is_sent sent chosen))
    (serve_chosen-keeps p name m (chosen_is_sent sent chosen) (serve_next fuel p name m None) chosen (serve_next-keeps fuel p name m None)))

pub serve_calls-keeps : (p : Image) (name : Who) (m : ProtectedMark) (sent : Option CallNo) → Keeps p (serve_calls p name m sent)
unfolding serve_calls
serve_calls-keeps p name m sent = search (looks-keeps, serve_next-keeps)

-- ---- a body in the action has ended

pub go_on_by_mode-keeps : (p : Image) (name : Who) (m : ProtectedMark) (mode : Mode) → Keeps p (go_on_by_mode p name m mode)
unfolding go_on_by_mode
go_on_by_mode-keeps p name m Read = search (release_object-keeps)
go_on_by_mode-keeps p name m Write = search (serve_calls-keeps)

pub end_operation-keeps : (p : Image) (name : Who) (m : ProtectedMark) (leaving : Leaving) → Keeps p (end_operation p name m leaving)
unfolding end_operation
end_operation-keeps p name m leaving = search (changes-keeps, edit_top_protected-alters, then-keeps, edit_top-alters, go_on_by_mode-keeps) depth 10

pub finish_raised-keeps : (p : Image) (name : Who) (m : ProtectedMark) (c : Call) (e : Raised) → Keeps p (finish_raised p name m c e)
unfolding finish_raised
finish_raised-keeps p name m c e = search (says-keeps, then-keeps, deliver-keeps, serve_calls-keeps) depth 8

pub finish_well-keeps : (p : Image) (name : Who) (m : ProtectedMark) (c : Call) (found : Option Sending) → Keeps p (finish_well p name m c found)
unfolding finish_well
finish_well-keeps p name m c None = search (says-keeps, then-keeps, deliver-keeps, serve_calls-keeps) depth 8
finish_well-keeps p name m c (Some s) = search (says-keeps, then-keeps, send_on-keeps, enqueue-keeps, serve_calls-keeps) depth 10

pub finish_call-keeps : (p : Image) (name : Who) (m : ProtectedMark) (leaving : Leaving) (c : Call) → Keeps p (finish_call p name m leaving c)
unfolding finish_call
finish_call-keeps p name m (how.Exception e) c = search (finish_raised-keeps)
finish_call-keeps p name m how.End c = search (finish_well-keeps)
finish_call-keeps p name m how.Return c = search (finish_well-keeps)
finish_call-keeps p name m (how.Exit loop) c = search (finish_well-keeps)
finish_call-keeps p name m how.Abort c = search (finish_well-keeps)
finish_call-keeps p name m how.Terminate c = search (finish_well-keeps)

pub end_entry_body-keeps : (p : Image) (name : Who) (m : ProtectedMark) (leaving : Leaving) (c : CallNo) → Keeps p (end_entry_body p name m leaving c)
unfolding end_entry_body
end_entry_body-keeps p name m leaving c =
    search (changes-keeps, edit_top_protected-alters, then-keeps, edit_top-alters, with_call-keeps, finish_call-keeps) depth 11

pub end_in_protected_by-keeps : (p : Image) (name : Who) (m : ProtectedMark) (leaving : Leaving) (found : Option CallNo)
    → Keeps p (end_in_protected_by p name m leaving found)
unfolding end_in_protected_by
end_in_protected_by-keeps p name m leaving None = search (end_operation-keeps)
end_in_protected_by-keeps p name m leaving (Some c) = search (end_entry_body-keeps)

pub end_in_protected-keeps : (p : Image) (name : Who) (m : ProtectedMark) (leaving : Leaving) → Keeps p (end_in_protected p name m leaving)
unfolding end_in_protected
end_in_protected-keeps p name m leaving = search (end_in_protected_by-keeps)

-- ---- the scope of an entry body has ended

pub keep_values-keeps : (p : Image) (c : CallNo) (cells : List Value) → Keeps p (keep_values p c cells)
unfolding keep_values
keep_values-keeps p c cells = search (with_call-keeps, changes-keeps, edit_call-alters) depth 6

pub end_body_of_entry-keeps : (p : Image) (c : CallNo) (cells : List Value) (leaving : Leaving) → Keeps p (end_body_of_entry p c cells leaving)
unfolding end_body_of_entry
end_body_of_entry-keeps p c cells leaving = search (changes-keeps, edit_call-alters, then-keeps, keep_values-keeps) depth 7
