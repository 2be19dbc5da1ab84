-- The protected actions that lines show as open, and those of the marks: a law of every run (9.5.1).
use Rattle.std.specs.Prelude.{◌≡◌, ℕ, ℤ, if◌then◌else◌, List, [], ◌∷◌, ◌++◌, Some}
use Rattle.trace_text.specs.declared.events.Action.{Action}
use Rattle.trace_text.specs.declared.events.Event.{Event}
use Rattle.trace_text.specs.declared.events.Who.{Who}
use Rattle.trace_text.specs.Laws.{actions_after}
use Rattle.trace_text.specs.Queue.{who_eq}
use Rattle.profile_image.specs.declared.image.Image.{Image}
use Rattle.profile_image.specs.declared.script_items.Item.{Item}
use Rattle.profile_machine.specs.declared.world.World.{World}
use Rattle.profile_machine.specs.declared.world.tasks.Task.{Task}
use Rattle.profile_machine.specs.declared.world.marks.Frame.{Frame}
use Rattle.profile_machine.specs.declared.world.marks.Mark.{Mark}
use Rattle.profile_machine.specs.declared.world.marks.Mark.TheVariants.{Scope, Handled, InProtected, InAccept}
use Rattle.profile_machine.specs.declared.world.marks.Mark.TheVariants.{Abortable, InInitialize, InFinalize, InAssign}
use Rattle.profile_machine.specs.Instant.{instant}
use Rattle.profile_machine.specs.Tasks.{task_at}
use Rattle.ceiling_laws.specs.RunLaws.{Tells}

-- the objects on which somebody has actions open, the last that began first: by the lines
abbrev pub open_by_lines : Who → List Action → List ℕ
open_by_lines who [] = []
open_by_lines who (action ∷ actions) = if who_eq who action.who then action.object ∷ open_by_lines who actions
    else open_by_lines who actions

-- and by the marks
abbrev pub with_mark_of : Mark → List ℕ → List ℕ
with_mark_of (Scope m) objects = objects
with_mark_of (Handled s) objects = objects
with_mark_of (InProtected m) objects = m.object.0 ∷ objects
with_mark_of (InAccept m) objects = objects
with_mark_of (Abortable m) objects = objects
with_mark_of (InInitialize l) objects = objects
with_mark_of (InFinalize o) objects = objects
with_mark_of (InAssign m) objects = objects

abbrev pub open_by_marks : List Frame → List ℕ
open_by_marks [] = []
open_by_marks (f ∷ fs) = with_mark_of f.mark (open_by_marks fs)

-- the actions that all these lines show as open
abbrev pub actions_told : List Action → List Event → List Action
actions_told actions [] = actions
actions_told actions (event ∷ events) = actions_told (actions_after actions event) events

-- of each task that is there, and of the agent
abbrev pub AreOpenByMarks : List Action → World → Type 0
AreOpenByMarks actions w = (name : Who) (t : Task) → task_at w name ≡ Some t
    → open_by_lines name actions ≡ open_by_marks t.frames

-- The lines of a run show as open the actions of the marks, before each instant and behind it.
abbrev pub OpenActionsAreTold : Type 0
OpenActionsAreTold = (p : Image) (script : List (ℤ × Item)) (bound : ℕ) (lines : List Event) (w : World)
    → Tells p script bound lines w
    → AreOpenByMarks (actions_told [] lines) w
    × AreOpenByMarks (actions_told [] (lines ++ (instant p w).1)) (instant p w).0
