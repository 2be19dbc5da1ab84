-- Constructs that are struck and left: each step keeps a relation that its parts keep.
use Rattle.profile_machine.specs.declared.run_data.Leaving.TheVariants as how
use Rattle.profile_machine.specs.Tasks.{edit_task, with_ticks}
use Rattle.profile_machine.specs.Frames.{leaves}
use Rattle.profile_machine.specs.Steps.{changes}
use Rattle.world_laws.proofs.Sequences.Kept.Woken.{left-turns, woken}
use Rattle.trace_text.specs.declared.events.Who.{Who}
use Rattle.profile_image.specs.declared.image.Image.{Image}
use Rattle.profile_machine.specs.declared.world.marks.Frame.{Frame}
use Rattle.profile_machine.specs.declared.world.tasks.State.{State}
use Rattle.profile_machine.specs.declared.world.tasks.Waiting.{Waiting}
use Rattle.profile_machine.specs.declared.world.tasks.Waiting.TheVariants as waits_for
use Rattle.profile_machine.specs.declared.world.tasks.State.TheVariants.{Made, Runnable, Blocked}
use Rattle.profile_machine.specs.declared.world.lines.Part.{Part}
use Rattle.profile_machine.specs.Unwinding.{struck_frame, edit_last, strike_outermost, leave_by_abort}
use Rattle.profile_machine.specs.Unwinding.{stop_waiting, wake_and_leave, unwind_blocked, unwind_in, unwind}
use Rattle.machine_laws.proofs.FineMoves.{GoodWorld, Naming, nature, natures}
use Rattle.world_laws.proofs.Sequences.FineMoves.{FineMoves, Loosens, StaysOn, onward_in, chains}
use Rattle.world_laws.proofs.Behind.{Behind, Turns, then-turns}
use Rattle.std.proofs.Common.{◌≡◌, List, [], ◌∷◌, refl, ap, inl, inr, None}
use Rattle.world_laws.proofs.Sequences.Kept.Tasks.{edit_task-alters, edit_frames-alters}
use Rattle.world_laws.proofs.Sequences.Kept.Dispatching.{ready-keeps}
use Rattle.world_laws.proofs.Sequences.Kept.Frames.{leaves-keeps, plain_steps}
use Rattle.world_laws.proofs.Sequences.Kept.Appointments.{drop_delay-alters}
use Rattle.machine_laws.proofs.Kept.Combinators.{Alters, Keeps, changes-keeps, looks-keeps, nothing-keeps, then-keeps, when-keeps}
use Rattle.machine_laws.proofs.Plain.Calls.{forget_call-alters, attempt-keeps}

-- who is struck has the marks that it had
last-natures : (fs : List Frame) → natures (edit_last struck_frame fs) ≡ natures fs
last-natures [] = refl
last-natures (x ∷ []) = refl
last-natures (x ∷ y ∷ rest) = ap (λ ns. nature x.mark ∷ ns) (last-natures (y ∷ rest))

last-stays : (fs : List Frame) → StaysOn (onward_in (edit_last struck_frame fs)) (onward_in fs)
last-stays [] = inl refl
last-stays (x ∷ []) = inl refl
last-stays (x ∷ y ∷ rest) = inl refl

module _ {p : Image} {G : GoodWorld} {May Other : Naming} (moves : FineMoves p G May Other) where
  pub strike_outermost-alters : (name : Who) → Alters G (Behind G) (strike_outermost name)
  strike_outermost-alters name = edit_frames-alters moves name (edit_last struck_frame) last-natures last-stays

  pub leave_by_abort-keeps : (name : Who) → Keeps G (Behind G) (leave_by_abort name)
  unfolding leave_by_abort
  leave_by_abort-keeps name = search (changes-keeps, edit_task-alters, then-keeps, leaves-keeps, chains)

  pub stop_waiting-keeps : (part : Part) (name : Who) → May name → Keeps G (Behind G) (stop_waiting p part name)
  unfolding stop_waiting
  stop_waiting-keeps part name may = search (changes-keeps, drop_delay-alters, then-keeps, ready-keeps, chains)

module _ {p : Image} {G : GoodWorld} {May Other : Naming} (moves : FineMoves p G May Other) (loose : Loosens p G May Other) where
  left_by_abort-turns : (name : Who) (other : Other name) → Turns (loose name other).Loose G (leave_by_abort name)
  unfolding leave_by_abort
  left_by_abort-turns name other =
      let l = loose name other in
      then-turns l.Loose l.Loose G (changes (edit_task name (with_ticks None))) (leaves name how.Abort)
      (changes-keeps (chains l.moves) _ (edit_task-alters l.moves name (with_ticks None) (λ t. refl) (λ t. refl) (λ t. refl) (λ t. refl)))
      (left-turns moves loose name other how.Abort)

  pub wake_and_leave-keeps : (part : Part) (name : Who) → Other name → Keeps G (Behind G) (wake_and_leave p part name)
  unfolding wake_and_leave
  wake_and_leave-keeps part name other =
      woken moves loose name other (stop_waiting p part name) (leave_by_abort name) (stop_waiting-keeps (loose name other).moves part name (inr refl))
      (left_by_abort-turns name other)

  pub unwind_blocked-keeps : (part : Part) (name : Who) (waiting : Waiting) → Other name → Keeps G (Behind G) (unwind_blocked p part name waiting)
  unfolding unwind_blocked
  unwind_blocked-keeps part name (waits_for.Call c) other =
      search (attempt-keeps, changes-keeps, forget_call-alters, then-keeps, wake_and_leave-keeps, nothing-keeps, chains, plain_steps)
  unwind_blocked-keeps part name (waits_for.EndOfCall c) other = search (nothing-keeps, chains)
  unwind_blocked-keeps part name waits_for.Activation other = search (wake_and_leave-keeps)
  unwind_blocked-keeps part name waits_for.Moment other = search (wake_and_leave-keeps)
  unwind_blocked-keeps part name (waits_for.Accept s) other = search (wake_and_leave-keeps)
  unwind_blocked-keeps part name (waits_for.Select accepts delay terminate) other = search (wake_and_leave-keeps)
  unwind_blocked-keeps part name (waits_for.Dependents r) other = search (wake_and_leave-keeps)
  unwind_blocked-keeps part name waits_for.Release other = search (nothing-keeps, chains)

  pub unwind_in-keeps : (part : Part) (name : Who) (state : State) → Other name → Keeps G (Behind G) (unwind_in p part name state)
  unfolding unwind_in
  unwind_in-keeps part name Made other = search (nothing-keeps, chains)
  unwind_in-keeps part name Runnable other = search (leave_by_abort-keeps)
  unwind_in-keeps part name (Blocked waiting) other = search (unwind_blocked-keeps)

  pub unwind-keeps : (part : Part) (name : Who) → Other name → Keeps G (Behind G) (unwind p part name)
  unfolding unwind
  unwind-keeps part name other = search (looks-keeps, when-keeps, unwind_in-keeps, chains)
