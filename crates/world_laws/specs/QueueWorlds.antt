-- The entry queues of every world that a run reaches (9.5.3, D.4), and the time-outs of calls that stand in them
-- (9.7.2).
use Rattle.std.specs.Prelude.{IsTrue, ℕ, ℤ, Bool, true, List}
use Rattle.std.specs.List.{list_all}
use Rattle.profile_image.specs.declared.image.Image.{Image}
use Rattle.profile_image.specs.declared.script_items.Item.{Item}
use Rattle.profile_machine.specs.declared.world.World.{World}
use Rattle.profile_machine.specs.declared.world.appointments.Due.{Due}
use Rattle.profile_machine.specs.declared.world.appointments.Due.TheVariants as due_for
use Rattle.profile_machine.specs.Calls.{call_of}
use Rattle.profile_machine.specs.Sending.{may_time_out}
use Rattle.machine_laws.specs.Reached.{Reached}
use Rattle.profile_machine.specs.WellFormed.{queues_are_right}

-- each call that stands in a queue is there, has not begun, and is directed to that entry
abbrev pub ReachedQueuesAreRight : Type 0
ReachedQueuesAreRight = (p : Image) (script : List (ℤ × Item)) (bound : ℕ) (w : World) → Reached p script bound w
    → IsTrue (queues_are_right p w)

-- the call of an appointed time-out may time out
abbrev pub is_timeout_awaited : Image → World → Due → Bool
is_timeout_awaited p w (due_for.Event n handler) = true
is_timeout_awaited p w (due_for.Delay t) = true
is_timeout_awaited p w (due_for.Timeout c) = may_time_out p w (call_of w c)
is_timeout_awaited p w (due_for.Trigger t depth) = true

abbrev pub timeouts_are_awaited : Image → World → Bool
timeouts_are_awaited p w = list_all (λ a. is_timeout_awaited p w a.due) w.appointments

abbrev pub ReachedTimeoutsAreAwaited : Type 0
ReachedTimeoutsAreAwaited = (p : Image) (script : List (ℤ × Item)) (bound : ℕ) (w : World)
    → Reached p script bound w → IsTrue (timeouts_are_awaited p w)
