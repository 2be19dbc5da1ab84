-- The step by which a task is unwound is told by how it is.
use Rattle.std.proofs.Common.{◌≡◌, true, List, refl, sym, ap, ◌∙◌}
use Rattle.trace_text.specs.declared.events.Who.{Who}
use Rattle.profile_image.specs.declared.image.Image.{Image}
use Rattle.profile_machine.specs.declared.world.World.{World}
use Rattle.profile_machine.specs.declared.world.lines.Part.{Part}
use Rattle.profile_machine.specs.declared.world.lines.Said.{Said}
use Rattle.profile_machine.specs.declared.world.tasks.State.{State}
use Rattle.profile_machine.specs.declared.world.tasks.State.TheVariants.{Made, Runnable, Blocked}
use Rattle.profile_machine.specs.declared.world.tasks.Waiting.{Waiting}
use Rattle.profile_machine.specs.declared.world.tasks.Waiting.TheVariants as waits_for
use Rattle.profile_machine.specs.Frames.{frames_of}
use Rattle.profile_machine.specs.Steps.{when}
use Rattle.profile_machine.specs.Tasks.{task_of}
use Rattle.profile_machine.specs.Unwinding.{may_unwind, unwind_blocked, unwind_in, unwind}
use Rattle.machine_calls.specs.declared.unwinding.Unwinding.{Unwinding}
use Rattle.machine_calls.specs.UnwindingSteps.{unwind_so}
use Rattle.machine_calls.specs.Unwindings.{unwinding_of, unwinding_of_waiting}

blocked_is : (p : Image) (part : Part) (name : Who) (waiting : Waiting)
    → unwind_blocked p part name waiting ≡ unwind_so p part name (unwinding_of_waiting waiting)
unfolding unwind_blocked
blocked_is p part name (waits_for.Call c) = refl
blocked_is p part name (waits_for.EndOfCall c) = refl
blocked_is p part name waits_for.Activation = refl
blocked_is p part name waits_for.Moment = refl
blocked_is p part name (waits_for.Accept s) = refl
blocked_is p part name (waits_for.Select accepts delay terminate) = refl
blocked_is p part name (waits_for.Dependents r) = refl
blocked_is p part name waits_for.Release = refl

pub unwind_in-is : (p : Image) (part : Part) (name : Who) (state : State) (w : World) (said : List Said)
    → unwind_in p part name state w said ≡ unwind_so p part name (unwinding_of state) w said
unfolding unwind_in
unwind_in-is p part name Made w said = refl
unwind_in-is p part name Runnable w said = refl
unwind_in-is p part name (Blocked waiting) w said = ap (λ step. step w said) (blocked_is p part name waiting)

pub unwind-is : (p : Image) (part : Part) (name : Who) (how : Unwinding) (w : World) (said : List Said) → may_unwind (frames_of w name) ≡ true
    → how ≡ unwinding_of (task_of w name).state → unwind p part name w said ≡ unwind_so p part name how w said
unfolding unwind
unwind-is p part name how w said may is =
    let state = (task_of w name).state in
    ap (λ b. when b (unwind_in p part name state) w said) may
    ∙ (unwind_in-is p part name state w said ∙ ap (λ u. unwind_so p part name u w said) (sym is))
