-- A run moves everybody rightly if it keeps what is not yet proved of every run: the law without what is.
use Rattle.std.specs.Prelude.{ℕ, ℤ, Bool, true, not, ◌&&◌, IsTrue, List}
use Rattle.trace_text.specs.declared.events.Event.{Event}
use Rattle.trace_text.specs.declared.events.Event.TheVariants.{Ready, Done, Enter, Held}
use Rattle.trace_text.specs.declared.events.QueueEnd.TheVariants.{Tail}
use Rattle.trace_text.specs.declared.events.Who.TheVariants as subject
use Rattle.trace_text.specs.Laws.{level_of}
use Rattle.trace_text.specs.Queue.{TraceLine, AtEachLine}
use Rattle.profile_image.specs.declared.image.Image.{Image}
use Rattle.profile_image.specs.declared.script_items.Item.{Item}
use Rattle.profile_machine.specs.Run.{run_of}
use Rattle.ceiling_laws.specs.CeilingLaws.{edf_is_below_interrupts}
use Rattle.blocking_laws.specs.MovingLaws.{HoldersStandLowOk, HoldersStandOk, Moving}
use Rattle.blocking_laws.specs.MovingLaws.{MovesRightly, is_agent_level}
use Rattle.blocking_laws.specs.MovingLaws.{is_within, may_be_behind, moving_after, nothing_moving, own_level}
use Rattle.blocking_laws.specs.Stretches.{has_open}

abbrev pub is_rest_right : Moving → Event → Bool
is_rest_right moving (Ready who level Tail deadline) = is_agent_level who level moving && may_be_behind who moving
is_rest_right moving (Done task) = not (has_open (subject.Task task) moving.past.actions)
is_rest_right moving (Enter subject.Agent object mode) =
    is_within (own_level subject.Agent moving.past.bases moving.agent) (level_of object.0 moving.ceilings)
is_rest_right moving (Held subject.Agent object mode) =
    is_within (own_level subject.Agent moving.past.bases moving.agent) (level_of object.0 moving.ceilings)
is_rest_right moving _ = true

pub record KeepsRest (lines : List TraceLine) : Type 0 where
  pub moved : AtEachLine moving_after nothing_moving (λ moving event. IsTrue (is_rest_right moving event)) lines
  pub holders : HoldersStandOk lines
  pub low : HoldersStandLowOk lines

abbrev pub RestMovesRightly : Type 0
RestMovesRightly = (p : Image) → IsTrue (edf_is_below_interrupts p) → (script : List (ℤ × Item)) (bound : ℕ)
    → KeepsRest (run_of p script bound) → MovesRightly (run_of p script bound)
