-- Serving the calls that are queued at a protected object with more turns to count down (9.5.3): by whom it comes
-- about, and that it makes no difference in any run. `serve_calls_more` begins its count higher; the others are the
-- machine's definitions of the same names, from `serve_calls` up to the run, with it in the place of `serve_calls`.
use Rattle.std.specs.Prelude.{◌≡◌, ℕ, zero, suc, ◌+◌, ℤ, true, false, List, [], Option, Some, None, ◌++◌, length}
use Rattle.ann_base.specs.declared.identities.CallNo.{CallNo}
use Rattle.ann_base.specs.declared.exceptions.Raised.{Raised}
use Rattle.trace_text.specs.declared.events.Ended.TheVariants as why
use Rattle.trace_text.specs.declared.events.Mode.{Mode}
use Rattle.trace_text.specs.declared.events.Mode.TheVariants.{Read, Write}
use Rattle.trace_text.specs.declared.events.Who.{Who}
use Rattle.profile_image.specs.declared.image.Image.{Image}
use Rattle.profile_image.specs.declared.numbers.StatementNo.{StatementNo}
use Rattle.profile_image.specs.declared.script_items.Item.{Item}
use Rattle.profile_machine.specs.declared.run_data.Leaving.{Leaving}
use Rattle.profile_machine.specs.declared.run_data.Leaving.TheVariants as how
use Rattle.profile_machine.specs.declared.world.World.{World}
use Rattle.profile_machine.specs.declared.world.calls.Call.{Call}
use Rattle.profile_machine.specs.declared.world.calls.Outcome.TheVariants as call_ended
use Rattle.profile_machine.specs.declared.world.calls.Sending.{Sending}
use Rattle.profile_machine.specs.declared.world.lines.Line.TheVariants as line
use Rattle.profile_machine.specs.declared.world.lines.MeetingEnd.TheVariants as meeting
use Rattle.profile_machine.specs.declared.world.lines.Part.TheVariants.{TheFinish}
use Rattle.profile_machine.specs.declared.world.lines.Said.{Said}
use Rattle.profile_machine.specs.declared.world.marks.Frame.{Frame}
use Rattle.profile_machine.specs.declared.world.marks.Mark.{Mark}
use Rattle.profile_machine.specs.declared.world.marks.Mark.TheVariants.{Scope, Handled, InProtected, InAccept}
use Rattle.profile_machine.specs.declared.world.marks.Mark.TheVariants.{Abortable, InInitialize, InFinalize, InAssign}
use Rattle.profile_machine.specs.declared.world.marks.ProtectedMark.{ProtectedMark}
use Rattle.profile_image.specs.Program.{form_of}
use Rattle.profile_machine.specs.Steps.{Step, Move, says, changes, looks, settles, rests, watches, ◌▷◌, ◌▶◌}
use Rattle.profile_machine.specs.Tasks.{task_of, edit_task, with_ticks}
use Rattle.profile_machine.specs.Frames.{top_of, edit_top, leaving_of, open_if_ready}
use Rattle.profile_machine.specs.Calls.{with_call, enqueue}
use Rattle.profile_machine.specs.CallEnds.{deliver}
use Rattle.profile_machine.specs.Protected.{edit_top_protected}
use Rattle.profile_machine.specs.Sending.{send_on}
use Rattle.profile_machine.specs.Serving.{release_object, serve_next, with_body_left}
use Rattle.profile_machine.specs.Serving.{not_left, is_own_call, outcome_by, no_longer_serves}
use Rattle.profile_machine.specs.Rendezvous.{end_in_accept}
use Rattle.profile_machine.specs.Controlled.{end_in_initialize, end_in_finalize, end_in_assign}
use Rattle.profile_machine.specs.Tasking.{end_scope_mark, take_terminates, unwind_all}
use Rattle.profile_machine.specs.Act.{end_handled, end_in_abortable, act_statement, act_without, act}
use Rattle.profile_machine.specs.Instant.{is_over, script_items, events_due, moments_due}
use Rattle.profile_machine.specs.Instant.{timers_due, budgets_due, quantum_spent}
use Rattle.profile_machine.specs.Run.{Ran, opening, stop, tock, stopped, then_runs, run}
use Rattle.machine_laws.specs.Reached.{Reached}

-- ---- in a protected action

unfoldable pub serve_calls_more : ℕ → Image → Who → ProtectedMark → Option CallNo → Step
serve_calls_more more p name m sent = looks (λ w. serve_next (suc (length w.calls) + more) p name m sent)

unfoldable pub go_on_by_mode_more : ℕ → Image → Who → ProtectedMark → Mode → Step
go_on_by_mode_more more p name m Read = release_object p name m
go_on_by_mode_more more p name m Write = serve_calls_more more p name m None

unfoldable pub end_operation_more : ℕ → Image → Who → ProtectedMark → Leaving → Step
end_operation_more more p name m leaving =
    changes (edit_top_protected name (with_body_left leaving)) ▷ changes (edit_top name not_left)
    ▷ go_on_by_mode_more more p name (with_body_left leaving m) m.mode

unfoldable pub finish_raised_more : ℕ → Image → Who → ProtectedMark → Call → Raised → Step
finish_raised_more more p name m c e =
    says TheFinish (line.Finish name c.number (meeting.Raised e))
    ▷ deliver p TheFinish c.number (outcome_by (is_own_call name m.own_call c) e) ▷ serve_calls_more more p name m None

unfoldable pub finish_well_more : ℕ → Image → Who → ProtectedMark → Call → Option Sending → Step
finish_well_more more p name m c None =
    says TheFinish (line.Finish name c.number meeting.Ok) ▷ deliver p TheFinish c.number call_ended.Finished
    ▷ serve_calls_more more p name m None
finish_well_more more p name m c (Some s) =
    says TheFinish (line.Finish name c.number meeting.Requeue) ▷ send_on c.number s ▷ enqueue p c.number
    ▷ serve_calls_more more p name m (Some c.number)

unfoldable pub finish_call_more : ℕ → Image → Who → ProtectedMark → Leaving → Call → Step
finish_call_more more p name m (how.Exception e) c = finish_raised_more more p name m c e
finish_call_more more p name m how.End c = finish_well_more more p name m c c.sending
finish_call_more more p name m how.Return c = finish_well_more more p name m c c.sending
finish_call_more more p name m (how.Exit loop) c = finish_well_more more p name m c c.sending
finish_call_more more p name m how.Abort c = finish_well_more more p name m c c.sending
finish_call_more more p name m how.Terminate c = finish_well_more more p name m c c.sending

unfoldable pub end_entry_body_more : ℕ → Image → Who → ProtectedMark → Leaving → CallNo → Step
end_entry_body_more more p name m leaving c =
    changes (edit_top_protected name no_longer_serves) ▷ changes (edit_top name not_left)
    ▷ with_call c (finish_call_more more p name (no_longer_serves m) leaving)

unfoldable pub end_in_protected_by_more : ℕ → Image → Who → ProtectedMark → Leaving → Option CallNo → Step
end_in_protected_by_more more p name m leaving None = end_operation_more more p name m leaving
end_in_protected_by_more more p name m leaving (Some c) = end_entry_body_more more p name m leaving c

unfoldable pub end_in_protected_more : ℕ → Image → Who → ProtectedMark → Leaving → Step
end_in_protected_more more p name m leaving = end_in_protected_by_more more p name m leaving m.serves

-- ---- the action of somebody, and its effect

unfoldable pub end_mark_more : ℕ → Image → Who → Frame → Mark → Step
end_mark_more more p name f (Scope m) = end_scope_mark p name m (leaving_of f)
end_mark_more more p name f (Handled s) = end_handled p name s (leaving_of f)
end_mark_more more p name f (InProtected m) = end_in_protected_more more p name m (leaving_of f)
end_mark_more more p name f (InAccept m) = end_in_accept p name m (leaving_of f)
end_mark_more more p name f (Abortable m) = end_in_abortable p name m (leaving_of f)
end_mark_more more p name f (InInitialize l) = end_in_initialize p name l (leaving_of f)
end_mark_more more p name f (InFinalize o) = end_in_finalize p name (leaving_of f)
end_mark_more more p name f (InAssign m) = end_in_assign p name m f.left_as

unfoldable pub act_frame_more : ℕ → Image → Who → Frame → Option StatementNo → Step
act_frame_more more p name f (Some s) = act_statement p name s (form_of p s)
act_frame_more more p name f None = end_mark_more more p name f f.mark

unfoldable pub act_top_more : ℕ → Image → Who → Option Frame → Step
act_top_more more p name None = looks (λ w. act_without p name w.serving)
act_top_more more p name (Some f) = act_frame_more more p name f f.onward

unfoldable pub act_more : ℕ → Image → Who → Step
act_more more p name = looks (λ w. act_top_more more p name (top_of w name))

-- the world in which `effect` does the action
abbrev pub acting : Who → World → World
acting name = edit_task name (with_ticks None)

unfoldable pub effect_more : ℕ → Image → Who → Step
effect_more more p name =
    changes (acting name) ▷ act_more more p name ▷ open_if_ready p name ▷ take_terminates p name ▷ unwind_all p name

-- ---- the run

abbrev pub effect_of_runner_more : ℕ → Image → Option Who → Move
effect_of_runner_more more p None = rests
effect_of_runner_more more p (Some name) =
    watches (λ w. elim (is_over (task_of w name).ticks_left) [
      | true ↦ settles p (effect_more more p name)
      | false ↦
          rests
    ])

abbrev pub finish_action_more : ℕ → Image → Move
finish_action_more more p = watches (λ w. effect_of_runner_more more p w.ran)

abbrev pub instant_more : ℕ → Image → Move
instant_more more p =
    finish_action_more more p ▶ script_items p ▶ events_due p ▶ moments_due p ▶ timers_due p ▶ budgets_due p ▶
    quantum_spent p

abbrev pub run_from_more : ℕ → ℕ → Image → ℕ → World → Ran
run_from_more more zero p bound w = stopped w.time [] why.Bound
run_from_more more (suc fuel) p bound w =
    let i = instant_more more p w in
    let t = tock p i.0 in
    elim (stop p bound i.0) [
      | Some reason ↦ stopped w.time i.1 reason
      | None ↦ then_runs w.time (i.1 ++ t.1) (run_from_more more fuel p bound t.0)
    ]

abbrev pub run_more : ℕ → Image → List (ℤ × Item) → ℕ → Ran
run_more more p script bound =
    let o = opening p script in
    then_runs 0 o.1 (run_from_more more (suc bound) p bound o.0)

-- ---- the laws

-- whoever acts in a world that a run reaches: with more to count down, its action leads to the same world and says the
-- same
abbrev pub ReachedServingEnds : Type 0
ReachedServingEnds = (p : Image) (script : List (ℤ × Item)) (bound : ℕ) (w : World) → Reached p script bound w
    → (name : Who) (more : ℕ) (said : List Said)
    → act_more more p name (acting name w) said ≡ act p name (acting name w) said

-- so a run with more to count down is the same run: it has the same lines, and stops for the same reason
abbrev pub RunsServeToTheEnd : Type 0
RunsServeToTheEnd = (p : Image) (script : List (ℤ × Item)) (bound more : ℕ)
    → run_more more p script bound ≡ run p script bound
