-- How calls end: finished, cancelled, or gone (9.5.2 to 9.7, 9.8).
use Rattle.std.specs.Prelude.{ℕ, Bool, true, false, cond, not, ◌&&◌, ◌||◌, List, [], ◌∷◌, Option}
use Rattle.std.specs.Prelude.{Some, None, Ok, Err, eqb, length, option_and_then, unwrap_or}
use Rattle.ann_base.specs.Results.{◌>>=◌}
use Rattle.ann_base.specs.declared.identities.TaskNo.{TaskNo}
use Rattle.ann_base.specs.declared.identities.CallNo.{CallNo}
use Rattle.ann_base.specs.declared.exceptions.Raised.TheVariants as exception
use Rattle.profile_machine.specs.declared.world.lines.Line.TheVariants as line
use Rattle.trace_text.specs.declared.events.Who.{Who}
use Rattle.trace_text.specs.declared.events.Who.TheVariants as who
use Rattle.profile_image.specs.declared.image.Image.{Image}
use Rattle.profile_image.specs.declared.numbers.StatementNo.{StatementNo}
use Rattle.profile_machine.specs.declared.run_data.Leaving.{Leaving}
use Rattle.profile_machine.specs.declared.run_data.Leaving.TheVariants as how
use Rattle.profile_image.specs.declared.statements.StatementForm.{StatementForm}
use Rattle.profile_image.specs.declared.statements.StatementForm.TheVariants as form
use Rattle.profile_image.specs.declared.values.Value.{Value}
use Rattle.profile_machine.specs.declared.world.World.{World}
use Rattle.profile_machine.specs.declared.world.marks.Frame.{Frame}
use Rattle.profile_machine.specs.declared.world.marks.Mark.{Mark}
use Rattle.profile_machine.specs.declared.world.marks.AbortableMark.{AbortableMark}
use Rattle.profile_machine.specs.declared.world.calls.Call.{Call}
use Rattle.profile_machine.specs.declared.world.calls.Outcome.{Outcome}
use Rattle.profile_machine.specs.declared.world.scopes.Variable.{Variable}
use Rattle.profile_machine.specs.declared.world.tasks.Waiting.{Waiting}
use Rattle.profile_machine.specs.declared.world.calls.Outcome.TheVariants as call_ended
use Rattle.profile_machine.specs.declared.world.tasks.Waiting.TheVariants as waits_for
use Rattle.profile_machine.specs.declared.world.marks.Mark.TheVariants.{Scope, Handled, InProtected, InAccept}
use Rattle.profile_machine.specs.declared.world.marks.Mark.TheVariants.{Abortable, InInitialize, InFinalize, InAssign}
use Rattle.profile_image.specs.Words.{same_call, is_the}
use Rattle.profile_image.specs.Program.{declaration_of, form_of, next_of}
use Rattle.profile_machine.specs.declared.world.lines.Part.{Part}
use Rattle.profile_machine.specs.Steps.{Step, says, changes, looks, when, nothing, ◌▷◌}
use Rattle.profile_machine.specs.Tasks.{edit_task, waiting_of, with_frames}
use Rattle.profile_machine.specs.Dispatching.{ready}
use Rattle.profile_machine.specs.Frames.{frames_of, goes, leaves, raises, pop, pass_on}
use Rattle.profile_machine.specs.Frames.{leaving_of, with_mark, open_sequence}
use Rattle.profile_machine.specs.Scopes.{write_cell}
use Rattle.profile_machine.specs.Operators.{Valued, checked}
use Rattle.profile_machine.specs.Calls.{call_of, edit_call, forget_call, with_call, unqueued}
use Rattle.profile_machine.specs.Unwinding.{unwind, struck_frame, any_struck}

-- ---- where a caller goes on

-- the entry call that a statement makes: itself, or the one in it
abbrev pub call_in : StatementForm → StatementNo → StatementNo
call_in (form.ConditionalCall call otherwise) s = call
call_in (form.TimedCall call delay) s = call
call_in (form.AsynchronousSelect trigger abortable) s = trigger
call_in _ s = s

-- behind the call, or the trigger
abbrev pub onward_when_done : Image → StatementNo → Option StatementNo
onward_when_done p s = next_of p (call_in (form_of p s) s)

-- the else part, or what stands behind the delay
abbrev pub otherwise_in : Image → StatementForm → Option StatementNo → Option StatementNo
otherwise_in p (form.ConditionalCall call otherwise) next = Some otherwise
otherwise_in p (form.TimedCall call delay) next = next_of p delay
otherwise_in p _ next = next

abbrev pub onward_when_cancelled : Image → StatementNo → Option StatementNo
onward_when_cancelled p s = otherwise_in p (form_of p s) (next_of p s)

unfoldable pub go_by_outcome : Image → Part → Who → StatementNo → Outcome → Step
go_by_outcome p part name s call_ended.Finished = goes name (onward_when_done p s)
go_by_outcome p part name s call_ended.Cancelled = goes name (onward_when_cancelled p s)
go_by_outcome p part name s (call_ended.ToRaise e) = raises part name e
go_by_outcome p part name s (call_ended.WasRaised e) = leaves name (how.Exception e)

-- the caller goes on behind its call, which is no longer among the calls
unfoldable pub resume : Image → Part → Call → Outcome → Step
resume p part c outcome =
    changes (forget_call c.number) ▷ go_by_outcome p part (who.Task c.caller) c.statement outcome

-- ---- results are copied back (6.4.1), in the order of the parameters up to the first that fails its range check

abbrev pub store : Image → Variable → Value → World → Valued World
store p v value w = checked (declaration_of p v.declared).constraint value >>= λ x. Ok (write_cell v.within v.place x w)

abbrev pub or_stored : World → Valued World → (World → World × Bool) → World × Bool
or_stored w (Ok next) again = again next
or_stored w (Err e) again = (w, false)

-- the world behind, and whether all were copied
abbrev pub copy_back : Image → List (Option Variable) → List Value → World → World × Bool
copy_back p [] values w = (w, true)
copy_back p (None ∷ results) [] w = (w, true)
copy_back p (None ∷ results) (v ∷ values) w = copy_back p results values w
copy_back p (Some target ∷ results) [] w = (w, true)
copy_back p (Some target ∷ results) (v ∷ values) w = or_stored w (store p target v w) (copy_back p results values)

abbrev pub outcome_of : Bool → Outcome
outcome_of true = call_ended.Finished
outcome_of false = call_ended.ToRaise exception.Constraint

-- a call that ended well gives its results; where one fails, Constraint_Error is to be raised
abbrev pub with_results : Image → Call → Outcome → World → World × Outcome
with_results p c call_ended.Finished w =
    let r = copy_back p c.results c.values w in
    (r.0, outcome_of r.1)
with_results p c call_ended.Cancelled w = (w, call_ended.Cancelled)
with_results p c (call_ended.ToRaise e) w = (w, call_ended.ToRaise e)
with_results p c (call_ended.WasRaised e) w = (w, call_ended.WasRaised e)

-- ---- abortable parts (9.7.4)

abbrev pub is_abortable_of : CallNo → Mark → Bool
is_abortable_of c (Scope m) = false
is_abortable_of c (Handled s) = false
is_abortable_of c (InProtected m) = false
is_abortable_of c (InAccept m) = false
is_abortable_of c (Abortable m) = is_the same_call m.call c
is_abortable_of c (InInitialize l) = false
is_abortable_of c (InFinalize o) = false
is_abortable_of c (InAssign m) = false

-- the number of frames below the abortable part of a call, where it is open
abbrev pub depth_of_abortable : CallNo → List Frame → Option ℕ
depth_of_abortable c [] = None
depth_of_abortable c (f ∷ fs) = cond (is_abortable_of c f.mark) (Some (length fs)) (depth_of_abortable c fs)

abbrev pub abortable_depth : World → Call → Option ℕ
abortable_depth w c = depth_of_abortable c.number (frames_of w (who.Task c.caller))

-- f at the frame with so many frames below it
abbrev pub edit_depth : ℕ → (Frame → Frame) → List Frame → List Frame
edit_depth depth f [] = []
edit_depth depth f (x ∷ xs) = cond (eqb (length xs) depth) (f x ∷ xs) (x ∷ edit_depth depth f xs)

abbrev pub edit_frame : Who → ℕ → (Frame → Frame) → World → World
edit_frame name depth f = edit_task name (λ t. with_frames (edit_depth depth f t.frames) t)

abbrev pub edit_abortable : (AbortableMark → AbortableMark) → Mark → Mark
edit_abortable f (Scope m) = Scope m
edit_abortable f (Handled s) = Handled s
edit_abortable f (InProtected m) = InProtected m
edit_abortable f (InAccept m) = InAccept m
edit_abortable f (Abortable m) = Abortable (f m)
edit_abortable f (InInitialize l) = InInitialize l
edit_abortable f (InFinalize o) = InFinalize o
edit_abortable f (InAssign m) = InAssign m

abbrev pub edit_abortable_at : Who → ℕ → (AbortableMark → AbortableMark) → World → World
edit_abortable_at name depth f = edit_frame name depth (λ x. with_mark (edit_abortable f x.mark) x)

-- the trigger has completed
abbrev pub triggered_mark : AbortableMark → AbortableMark
triggered_mark m = record m { triggered = true }

-- a trigger completes while its abortable part is open: `trigger`, and the part is struck
unfoldable pub trigger_at : Part → TaskNo → ℕ → Step
trigger_at part t depth =
    changes (edit_abortable_at (who.Task t) depth triggered_mark) ▷ says part (line.Trigger t)
    ▷ changes (edit_frame (who.Task t) depth struck_frame)

-- the outcome of an abortable part's trigger; a delay ends well
abbrev pub outcome_in : Option Call → Outcome
outcome_in None = call_ended.Finished
outcome_in (Some c) = unwrap_or c.outcome call_ended.Finished

abbrev pub trigger_outcome : World → Option CallNo → Outcome
trigger_outcome w c = outcome_in (option_and_then (call_of w) c)

abbrev pub forget_trigger : Option CallNo → World → World
forget_trigger None = λ w. w
forget_trigger (Some c) = forget_call c

-- the triggering statements, or the trigger's exception in their place
unfoldable pub run_triggered : Image → Part → Who → StatementNo → Outcome → Step
run_triggered p part name select call_ended.Finished = goes name (onward_when_done p select)
run_triggered p part name select call_ended.Cancelled = nothing
run_triggered p part name select (call_ended.ToRaise e) = raises part name e
run_triggered p part name select (call_ended.WasRaised e) = leaves name (how.Exception e)

-- left by its end, or by the abort that its own trigger brought about, and none that struck an outer mark
abbrev pub is_end : Leaving → Bool
is_end how.End = true
is_end how.Return = false
is_end (how.Exit loop) = false
is_end (how.Exception e) = false
is_end how.Abort = false
is_end how.Terminate = false

abbrev pub is_own_abort : Leaving → Bool → Bool → Bool
is_own_abort how.Abort struck outer = struck && not outer
is_own_abort how.End struck outer = false
is_own_abort how.Return struck outer = false
is_own_abort (how.Exit loop) struck outer = false
is_own_abort (how.Exception e) struck outer = false
is_own_abort how.Terminate struck outer = false

abbrev pub ended_by_itself : Frame → List Frame → Bool
ended_by_itself f below = is_end (leaving_of f) || is_own_abort (leaving_of f) f.struck (any_struck below)

unfoldable pub behind_abortable : Image → Part → Who → AbortableMark → Outcome → Step
behind_abortable p part name m outcome = when m.triggered (run_triggered p part name m.select outcome)

-- an abortable part on top has ended, and its trigger no longer runs
unfoldable pub end_abortable : Image → Part → Who → AbortableMark → Frame → List Frame → Step
end_abortable p part name m f below =
    looks (λ w. changes (pop name) ▷ changes (forget_trigger m.call)
    ▷ elim (ended_by_itself f below) [
      | true ↦ behind_abortable p part name m (trigger_outcome w m.call)
      | false ↦ pass_on p name (leaving_of f)
    ])

unfoldable pub end_abortable_in : Image → Part → Who → Frame → List Frame → Mark → Step
end_abortable_in p part name f below (Abortable m) = end_abortable p part name m f below
end_abortable_in p part name f below _ = nothing

unfoldable pub end_top_abortable : Image → Part → Who → List Frame → Step
end_top_abortable p part name [] = nothing
end_top_abortable p part name (f ∷ below) = end_abortable_in p part name f below f.mark

-- it waited for its call: the task goes on as it was left
abbrev pub waited_mark : Bool → AbortableMark → AbortableMark
waited_mark triggered m = record m { waits = false; triggered = triggered }

abbrev pub is_cancelled : Outcome → Bool
is_cancelled call_ended.Finished = false
is_cancelled call_ended.Cancelled = true
is_cancelled (call_ended.ToRaise e) = false
is_cancelled (call_ended.WasRaised e) = false

unfoldable pub end_wait : Image → Part → Call → ℕ → Outcome → Step
end_wait p part c depth outcome =
    ready p part (who.Task c.caller)
    ▷ changes (edit_abortable_at (who.Task c.caller) depth (waited_mark (not (is_cancelled outcome))))
    ▷ looks (λ w. end_top_abortable p part (who.Task c.caller) (frames_of w (who.Task c.caller)))
    ▷ open_sequence p part (who.Task c.caller)

-- ---- a call ends

-- whether a caller waits for this call, and whether for the end after an attempt to cancel it
abbrev pub waits_for_call : CallNo → Option Waiting → Bool
waits_for_call c (Some (waits_for.Call d)) = same_call c d
waits_for_call c _ = false

abbrev pub waits_for_end : CallNo → Option Waiting → Bool
waits_for_end c (Some (waits_for.EndOfCall d)) = same_call c d
waits_for_end c _ = false

-- its abortable part is open: it is triggered, or its wait ends
unfoldable pub end_for_abortable : Image → Part → Call → ℕ → Outcome → Step
end_for_abortable p part c depth outcome =
    looks (λ w. elim (waits_for_end c.number (waiting_of w (who.Task c.caller))) [
      | true ↦ end_wait p part c depth outcome
      | false ↦ trigger_at part c.caller depth
    ])

-- the caller is blocked for it and becomes ready; one that holds the object goes on at the release
unfoldable pub end_for_caller : Image → Part → Call → Outcome → Step
end_for_caller p part c outcome =
    looks (λ w. when (waits_for_call c.number (waiting_of w (who.Task c.caller)))
    (ready p part (who.Task c.caller) ▷ resume p part c outcome ▷ open_sequence p part (who.Task c.caller)))

unfoldable pub end_for : Image → Part → Call → Outcome → Option ℕ → Step
end_for p part c outcome (Some depth) = end_for_abortable p part c depth outcome
end_for p part c outcome None = end_for_caller p part c outcome

abbrev pub with_outcome : Outcome → Call → Call
with_outcome outcome c = record c { outcome = Some outcome; sending = None }

unfoldable pub end_with : Image → Part → Call → Outcome → Step
end_with p part c outcome =
    changes (edit_call c.number (with_outcome outcome)) ▷ looks (λ w. end_for p part c outcome (abortable_depth w c))

-- the call has ended; its caller is not unwound yet
unfoldable pub end_call : Image → Part → Call → Outcome → Step
end_call p part c outcome =
    looks (λ w.
    let r = with_results p c outcome w in
    changes (λ _. r.0) ▷ end_with p part c r.1)

-- the call has ended, and its caller is unwound where it is struck
unfoldable pub deliver : Image → Part → CallNo → Outcome → Step
deliver p part c outcome =
    with_call c (λ d. end_call p part d outcome ▷ unwind p part (who.Task d.caller))

-- Tasking_Error, for the callee is not callable or was aborted in the rendezvous: `gone`
unfoldable pub gone : Image → Part → Call → Step
gone p part c = changes (unqueued p c) ▷ says part (line.Gone c.caller c.number)
