-- Constructs that are struck and left: each step keeps what its parts keep.
use Rattle.ceiling_laws.proofs.Fine.Kept.Calls.{attempt_with-leads, forget_call-alters}
use Rattle.ceiling_laws.proofs.Fine.Kept.Frames.{edit_frames-alters, leaves-keeps}
use Rattle.ceiling_laws.proofs.Fine.Kept.Scopes.{drop_delay-alters}
use Rattle.ceiling_laws.proofs.Fine.Kept.Tasks.{edit_task-alters}
use Rattle.ceiling_laws.proofs.Fine.Kept.Waking.{asleep_at, asleep_quiet, wide}
use Rattle.ceiling_laws.proofs.Fine.LevelMoves.{BaseMoves, Silences}
use Rattle.ceiling_laws.proofs.Runs.Triples.{Alters, At, Keeps, Leads, State, With, changes-keeps, for_some-leads, from_at}
use Rattle.ceiling_laws.proofs.Runs.Triples.{looks-leads, looks-with, nothing-keeps, nothing-leads, then-keeps, then-leads, when-leads}
use Rattle.profile_machine.specs.Appointments.{drop_delay}
use Rattle.profile_machine.specs.Calls.{call_of, forget_call}
use Rattle.profile_machine.specs.Dispatching.{ready}
use Rattle.profile_machine.specs.Frames.{frames_of}
use Rattle.profile_machine.specs.Masters.{terminate}
use Rattle.profile_machine.specs.Steps.{changes, nothing, ◌▷◌}
use Rattle.profile_machine.specs.Tasks.{task_of, with_ticks}
use Rattle.profile_machine.specs.Unwinding.{edit_last, leave_by_abort, may_unwind, stop_waiting, strike_outermost}
use Rattle.profile_machine.specs.Unwinding.{struck_frame, unwind, unwind_blocked, unwind_in, wake_and_leave}
use Rattle.profile_image.specs.declared.image.Image.{Image}
use Rattle.profile_machine.specs.declared.run_data.Leaving.TheVariants as how
use Rattle.profile_machine.specs.declared.world.World.{World}
use Rattle.profile_machine.specs.declared.world.lines.Part.{Part}
use Rattle.profile_machine.specs.declared.world.tasks.State as tasks
use Rattle.profile_machine.specs.declared.world.tasks.State.TheVariants.{Blocked, Made, Runnable}
use Rattle.profile_machine.specs.declared.world.tasks.Waiting.{Waiting}
use Rattle.profile_machine.specs.declared.world.tasks.Waiting.TheVariants as waits_for
use Rattle.std.proofs.Common.{ap, refl, ◌≡◌}
use Rattle.std.specs.Prelude.{None}
use Rattle.trace_text.specs.declared.events.Who.{Who}
use Rattle.ceiling_laws.proofs.Runs.LevelMoves.{Fitting, Sleeping, is_blocked}

module _ {X : State} (quiet : Silences X) where
  pub strike_outermost-alters : (name : Who) → Alters X (strike_outermost name)
  strike_outermost-alters name = edit_frames-alters quiet name (edit_last struck_frame)

  pub leave_by_abort-keeps : (name : Who) → Keeps X (leave_by_abort name)
  unfolding leave_by_abort
  leave_by_abort-keeps name = then-keeps _ _ (changes-keeps _ (edit_task-alters quiet name (with_ticks None) (λ t. refl))) (leaves-keeps quiet name how.Abort)

module _ {p : Image} {Fits : Fitting} {Sleeps : Sleeping} {X : State} (moves : BaseMoves p Fits Sleeps X) where
  pub stop_waiting-leads : (part : Part) (name : Who) → Fits part name → Leads (With X (λ w. Sleeps w name)) X (stop_waiting p part name)
  unfolding stop_waiting
  stop_waiting-leads part name fits =
      then-leads (changes (drop_delay name)) (ready p part name) (changes-keeps _ (drop_delay-alters (asleep_quiet moves name) name))
      (moves.wakes part name fits)

  pub wake_and_leave-leads : (part : Part) (name : Who) → Fits part name → Leads (With X (λ w. Sleeps w name)) X (wake_and_leave p part name)
  unfolding wake_and_leave
  wake_and_leave-leads part name fits =
      then-leads (stop_waiting p part name) (leave_by_abort name) (stop_waiting-leads part name fits) (leave_by_abort-keeps moves.quiet name)

  pub unwind_blocked-leads : (part : Part) (name : Who) (waiting : Waiting) → Fits part name
      → Leads (With X (λ w. Sleeps w name)) X (unwind_blocked p part name waiting)
  unfolding unwind_blocked
  unwind_blocked-leads part name (waits_for.Call c) fits =
      looks-leads _
      (λ v. for_some-leads (call_of v c) _ (wide moves)
      (λ d. attempt_with-leads (asleep_quiet moves name) p part d (changes (forget_call c) ▷ wake_and_leave p part name) nothing
      (then-leads (changes (forget_call c)) (wake_and_leave p part name) (changes-keeps _ (forget_call-alters (asleep_quiet moves name) c))
      (wake_and_leave-leads part name fits))
      (nothing-leads (wide moves))))
  unwind_blocked-leads part name (waits_for.EndOfCall c) fits = nothing-leads (wide moves)
  unwind_blocked-leads part name waits_for.Activation fits = wake_and_leave-leads part name fits
  unwind_blocked-leads part name waits_for.Moment fits = wake_and_leave-leads part name fits
  unwind_blocked-leads part name (waits_for.Accept s) fits = wake_and_leave-leads part name fits
  unwind_blocked-leads part name (waits_for.Select accepts delay terminate) fits = wake_and_leave-leads part name fits
  unwind_blocked-leads part name (waits_for.Dependents r) fits = wake_and_leave-leads part name fits
  unwind_blocked-leads part name waits_for.Release fits = nothing-leads (wide moves)

  unwind_in-leads : (part : Part) (name : Who) (v : World) (state : tasks.State) → Fits part name → (task_of v name).state ≡ state
      → Leads (At X v) X (unwind_in p part name state)
  unfolding unwind_in
  unwind_in-leads part name v Made fits is = from_at nothing nothing-keeps
  unwind_in-leads part name v Runnable fits is = from_at (leave_by_abort name) (leave_by_abort-keeps moves.quiet name)
  unwind_in-leads part name v (Blocked waiting) fits is =
      asleep_at moves name v (unwind_blocked p part name waiting) (moves.sleeps v name (ap is_blocked is)) (unwind_blocked-leads part name waiting fits)

  pub unwind-keeps : (part : Part) (name : Who) → Fits part name → Keeps X (unwind p part name)
  unfolding unwind
  unwind-keeps part name fits =
      looks-with _ (λ v said h. when-leads (may_unwind (frames_of v name)) _ (λ _. unwind_in-leads part name v (task_of v name).state fits refl) (λ w s k. k.0))
