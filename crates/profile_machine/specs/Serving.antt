-- A protected action goes on: calls that are queued are served, and then the object is released (9.5.1, 9.5.3, 9.5.4).
use Rattle.std.specs.Prelude.{ℕ, zero, suc, Bool, true, false, eqb, not, ◌&&◌}
use Rattle.std.specs.Prelude.{List, ◌++◌, Option, Some, None, length, take, drop}
use Rattle.ann_base.specs.declared.identities.CallNo.{CallNo}
use Rattle.ann_base.specs.declared.identities.ObjectNo.{ObjectNo}
use Rattle.ann_base.specs.declared.exceptions.Raised.{Raised}
use Rattle.ann_base.specs.declared.exceptions.Raised.TheVariants as exception
use Rattle.profile_machine.specs.declared.world.lines.Line.TheVariants as line
use Rattle.profile_machine.specs.declared.world.lines.MeetingEnd.TheVariants as meeting
use Rattle.trace_text.specs.declared.events.Mode.{Mode}
use Rattle.trace_text.specs.declared.events.Mode.TheVariants.{Read, Write}
use Rattle.trace_text.specs.declared.events.Who.{Who}
use Rattle.trace_text.specs.declared.events.Who.TheVariants as who
use Rattle.profile_image.specs.declared.image.Image.{Image}
use Rattle.profile_machine.specs.declared.run_data.Leaving.{Leaving}
use Rattle.profile_machine.specs.declared.run_data.Leaving.TheVariants as how
use Rattle.profile_image.specs.declared.values.Value.{Value}
use Rattle.profile_machine.specs.declared.world.World.{World}
use Rattle.profile_machine.specs.declared.world.appointments.Release.{Release}
use Rattle.profile_machine.specs.declared.world.marks.Frame.{Frame}
use Rattle.profile_machine.specs.declared.world.marks.ProtectedMark.{ProtectedMark}
use Rattle.profile_machine.specs.declared.world.calls.Call.{Call}
use Rattle.profile_machine.specs.declared.world.calls.Outcome.{Outcome}
use Rattle.profile_machine.specs.declared.world.calls.Sending.{Sending}
use Rattle.profile_machine.specs.declared.world.tasks.Cause.TheVariants as inherited_by
use Rattle.profile_machine.specs.declared.world.calls.Outcome.TheVariants as call_ended
use Rattle.profile_machine.specs.declared.world.tasks.Waiting.TheVariants as waits_for
use Rattle.profile_image.specs.Words.{same_call, same_who, is_the, without}
use Rattle.ann_base.specs.Lists.{is_empty}
use Rattle.profile_machine.specs.declared.world.lines.Part.{Part}
use Rattle.profile_machine.specs.declared.world.lines.Part.TheVariants.{Own, TheFinish, TheBlock}
use Rattle.profile_machine.specs.Steps.{Step, says, changes, looks, when, nothing, ◌▷◌}
use Rattle.profile_machine.specs.Dispatching.{block}
use Rattle.profile_machine.specs.Frames.{frames_of, edit_top, pop, leaves, pass_on, has_room}
use Rattle.profile_machine.specs.Inheritance.{lose_running}
use Rattle.profile_machine.specs.Calls.{edit_call, with_call, edit_object, enqueue}
use Rattle.profile_machine.specs.Calls.{attempt_with, forget_call, formals_count}
use Rattle.profile_machine.specs.Unwinding.{may_unwind}
use Rattle.profile_machine.specs.CallEnds.{deliver, resume}
use Rattle.profile_machine.specs.Protected.{edit_top_protected, serve_call, served_next, is_action_of}
use Rattle.profile_machine.specs.Values.{object_of}
use Rattle.profile_machine.specs.Priorities.{set_deferred}
use Rattle.profile_machine.specs.Sending.{open_abortable, is_triggering, send_on}
use Rattle.profile_machine.specs.Sending.{sent_not_begun, begin_abortable, wait_for_call}
use Rattle.profile_machine.specs.Subprograms.{without_sending}

-- ---- the agent has served a release (C.3, D.15)

abbrev pub serves_nothing : World → World
serves_nothing w = record w { serving = None }

abbrev pub is_served_now : ℕ → Option Release → Bool
is_served_now n None = false
is_served_now n (Some r) = eqb n r.number

-- `served`; where nothing is pending the agent blocks
unfoldable pub serve_ends : ℕ → Step
serve_ends n =
    says Own (line.Served n) ▷ changes serves_nothing
    ▷ looks (λ w. when (is_empty w.releases) (block TheBlock who.Agent waits_for.Release))

-- of a release that the agent does not serve nothing ends
unfoldable pub end_release : ℕ → Step
end_release n = looks (λ w. when (is_served_now n w.serving) (serve_ends n))

-- ---- the release of an object

abbrev pub close_action : Who → ObjectNo → World → World
close_action name o = edit_object o (λ x. record x { actions = without (is_action_of name) x.actions })

-- the holder's own call is still queued: it begins its abortable part, is unwound, or blocks
abbrev pub may_open_abortable : World → Who → Call → Bool
may_open_abortable w name c = is_triggering c.kind && c.sent_with_abort && not c.attempted && has_room w name 1 0

unfoldable pub wait_or_unwind : Image → Who → Call → Bool → Step
wait_or_unwind p name c true =
    attempt_with p Own c (changes (forget_call c.number) ▷ leaves name how.Abort) (wait_for_call c)
wait_or_unwind p name c false = wait_for_call c

unfoldable pub wait_for_own : Image → Who → Call → Bool → Step
wait_for_own p name c true = changes (open_abortable p (who.Task c.caller) c.statement (Some c.number))
wait_for_own p name c false = looks (λ w. wait_or_unwind p name c (may_unwind (frames_of w name)))

unfoldable pub resume_own : Image → Who → Call → Option Outcome → Step
resume_own p name c (Some outcome) = resume p TheBlock c outcome
resume_own p name c None = looks (λ w. wait_for_own p name c (may_open_abortable w name c))

-- the task goes on as the body was left, or behind its own entry call; the agent has served its release
unfoldable pub behind_action : Image → Who → ProtectedMark → Option ℕ → Option CallNo → Step
behind_action p name m (Some release) call = end_release release
behind_action p name m None None = pass_on p name m.body_left
behind_action p name m None (Some c) = with_call c (λ d. resume_own p name d d.outcome)

-- the ceiling is lost first, then what was deferred is set
unfoldable pub release_object : Image → Who → ProtectedMark → Step
release_object p name m =
    says Own (line.Exit name m.object) ▷ changes (pop name) ▷ changes (close_action name m.object)
    ▷ lose_running p name (inherited_by.Ceiling m.object) ▷ set_deferred p name
    ▷ behind_action p name m m.release m.own_call

-- ---- the next call is served, or the object is released (9.5.3)

abbrev pub is_the_call : Option CallNo → CallNo → Bool
is_the_call sent c = is_the same_call sent c

-- the `start` of a call that was sent on stands directly behind its `call`
abbrev pub part_of_start : Bool → Part
part_of_start true = TheFinish
part_of_start false = Own

-- a call that was sent on and is not the one that is served
unfoldable pub settle_sent : Image → Option CallNo → Bool → Step
settle_sent p None is_served = nothing
settle_sent p (Some c) true = nothing
settle_sent p (Some c) false = sent_not_begun p c

unfoldable pub begins_part : Image → Bool → CallNo → Step
begins_part p true c = begin_abortable p c
begins_part p false c = nothing

abbrev pub chosen_is_sent : Option CallNo → Option CallNo → Bool
chosen_is_sent sent None = false
chosen_is_sent sent (Some c) = is_the_call sent c

abbrev pub serve_chosen : Image → Who → ProtectedMark → Bool → Step → Option CallNo → Step
serve_chosen p name m is_sent again None = release_object p name m
serve_chosen p name m is_sent again (Some c) =
    with_call c (λ d. serve_call p (part_of_start is_sent) name m.object d (begins_part p is_sent c)
    (deliver p (part_of_start is_sent) c (call_ended.ToRaise exception.Storage) ▷ again))

-- the choice is made with the call that was sent on in its queue; each turn without room ends a call
unfoldable pub serve_next : ℕ → Image → Who → ProtectedMark → Option CallNo → Step
serve_next zero p name m sent = release_object p name m
serve_next (suc fuel) p name m sent =
    looks (λ w.
    let chosen = served_next p w name (object_of w m.object) in
    settle_sent p sent (chosen_is_sent sent chosen)
    ▷ serve_chosen p name m (chosen_is_sent sent chosen) (serve_next fuel p name m None) chosen)

unfoldable pub serve_calls : Image → Who → ProtectedMark → Option CallNo → Step
serve_calls p name m sent = looks (λ w. serve_next (suc (length w.calls)) p name m sent)

-- ---- a body in the action has ended

-- the body of the called operation: a function's action ends, behind a procedure queued calls are served
unfoldable pub go_on_by_mode : Image → Who → ProtectedMark → Mode → Step
go_on_by_mode p name m Read = release_object p name m
go_on_by_mode p name m Write = serve_calls p name m None

abbrev pub with_body_left : Leaving → ProtectedMark → ProtectedMark
with_body_left leaving m = record m { body_left = leaving; serves = None }

abbrev pub not_left : Frame → Frame
not_left f = record f { left_as = None }

unfoldable pub end_operation : Image → Who → ProtectedMark → Leaving → Step
end_operation p name m leaving =
    changes (edit_top_protected name (with_body_left leaving)) ▷ changes (edit_top name not_left)
    ▷ go_on_by_mode p name (with_body_left leaving m) m.mode

-- an exception of an entry body is raised in the caller; in the holder's own call it has been raised already
abbrev pub is_own_call : Who → Option CallNo → Call → Bool
is_own_call name own_call c = is_the same_call own_call c.number && same_who name (who.Task c.caller)

abbrev pub outcome_by : Bool → Raised → Outcome
outcome_by true e = call_ended.WasRaised e
outcome_by false e = call_ended.ToRaise e

unfoldable pub finish_raised : Image → Who → ProtectedMark → Call → Raised → Step
finish_raised p name m c e =
    says TheFinish (line.Finish name c.number (meeting.Raised e))
    ▷ deliver p TheFinish c.number (outcome_by (is_own_call name m.own_call c) e) ▷ serve_calls p name m None

unfoldable pub finish_well : Image → Who → ProtectedMark → Call → Option Sending → Step
finish_well p name m c None =
    says TheFinish (line.Finish name c.number meeting.Ok) ▷ deliver p TheFinish c.number call_ended.Finished
    ▷ serve_calls p name m None
finish_well p name m c (Some s) =
    says TheFinish (line.Finish name c.number meeting.Requeue) ▷ send_on c.number s ▷ enqueue p c.number
    ▷ serve_calls p name m (Some c.number)

unfoldable pub finish_call : Image → Who → ProtectedMark → Leaving → Call → Step
finish_call p name m (how.Exception e) c = finish_raised p name m c e
finish_call p name m how.End c = finish_well p name m c c.sending
finish_call p name m how.Return c = finish_well p name m c c.sending
finish_call p name m (how.Exit loop) c = finish_well p name m c c.sending
finish_call p name m how.Abort c = finish_well p name m c c.sending
finish_call p name m how.Terminate c = finish_well p name m c c.sending

abbrev pub no_longer_serves : ProtectedMark → ProtectedMark
no_longer_serves m = record m { serves = None }

unfoldable pub end_entry_body : Image → Who → ProtectedMark → Leaving → CallNo → Step
end_entry_body p name m leaving c =
    changes (edit_top_protected name no_longer_serves) ▷ changes (edit_top name not_left)
    ▷ with_call c (finish_call p name (no_longer_serves m) leaving)

unfoldable pub end_in_protected_by : Image → Who → ProtectedMark → Leaving → Option CallNo → Step
end_in_protected_by p name m leaving None = end_operation p name m leaving
end_in_protected_by p name m leaving (Some c) = end_entry_body p name m leaving c

-- InProtected first finishes the call that was served; it then starts the next or releases the object
unfoldable pub end_in_protected : Image → Who → ProtectedMark → Leaving → Step
end_in_protected p name m leaving = end_in_protected_by p name m leaving m.serves

-- ---- the scope of an entry body has ended: the parameters' present values are the call's

abbrev pub with_values : List Value → ℕ → Call → Call
with_values cells count c = record c { values = take count cells ++ drop count c.values }

unfoldable pub keep_values : Image → CallNo → List Value → Step
keep_values p c cells = with_call c (λ d. changes (edit_call c (with_values cells (formals_count p d))))

-- a requeue is under way only where the body was left by it
abbrev pub keeps_sending : Leaving → Call → Call
keeps_sending how.Return c = c
keeps_sending how.End c = without_sending c
keeps_sending (how.Exit loop) c = without_sending c
keeps_sending (how.Exception e) c = without_sending c
keeps_sending how.Abort c = without_sending c
keeps_sending how.Terminate c = without_sending c

unfoldable pub end_body_of_entry : Image → CallNo → List Value → Leaving → Step
end_body_of_entry p c cells leaving = changes (edit_call c (keeps_sending leaving)) ▷ keep_values p c cells
