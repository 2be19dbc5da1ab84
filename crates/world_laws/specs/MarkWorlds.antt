-- The marks of every world that a run reaches, and the triggers that are set for them (7.6.1, 9.7.4, 9.8).
use Rattle.std.specs.Prelude.{IsTrue, ℕ, ℤ, Bool, true, false, ◌&&◌, List, [], ◌∷◌, eqb}
use Rattle.std.specs.List.{list_all}
use Rattle.profile_image.specs.declared.image.Image.{Image}
use Rattle.profile_image.specs.declared.script_items.Item.{Item}
use Rattle.profile_machine.specs.declared.world.World.{World}
use Rattle.profile_machine.specs.declared.world.marks.Frame.{Frame}
use Rattle.profile_machine.specs.declared.world.marks.Mark.{Mark}
use Rattle.profile_machine.specs.declared.world.marks.Mark.TheVariants.{Scope, Handled, InProtected, InAccept}
use Rattle.profile_machine.specs.declared.world.marks.Mark.TheVariants.{Abortable, InInitialize, InFinalize, InAssign}
use Rattle.profile_machine.specs.declared.world.tasks.Task.{Task}
use Rattle.profile_machine.specs.declared.world.appointments.Due.{Due}
use Rattle.profile_machine.specs.declared.world.appointments.Due.TheVariants as due_for
use Rattle.profile_machine.specs.WellFormed.{everybody, is_awaited, is_struck_rightly, finalizes_on, marks_are_right}
use Rattle.machine_laws.specs.Reached.{Reached}

-- ---- what is struck

abbrev pub frames_are_struck_rightly : Task → List Frame → Bool
frames_are_struck_rightly t [] = true
frames_are_struck_rightly t (f ∷ fs) = is_struck_rightly t f fs && frames_are_struck_rightly t fs

abbrev pub marks_are_struck_rightly : World → Bool
marks_are_struck_rightly w = list_all (λ t. frames_are_struck_rightly t t.frames) (everybody w)

-- a struck mark is the outermost one of an abnormal task, or an abortable part whose trigger has completed
abbrev pub ReachedMarksAreStruckRightly : Type 0
ReachedMarksAreStruckRightly = (p : Image) (script : List (ℤ × Item)) (bound : ℕ) (w : World)
    → Reached p script bound w → IsTrue (marks_are_struck_rightly w)

-- ---- where a Finalize stands

-- on the scope that is being left, whose object has been taken out of the register, or on the assignment to its object
abbrev pub stands_on : World → ℕ → Mark → Bool
stands_on w n (Scope m) = finalizes_on w n (Scope m)
stands_on w n (Handled s) = false
stands_on w n (InProtected m) = false
stands_on w n (InAccept m) = false
stands_on w n (Abortable m) = false
stands_on w n (InInitialize l) = false
stands_on w n (InFinalize o) = false
stands_on w n (InAssign m) = eqb n m.target

abbrev pub stands_above : World → ℕ → List Frame → Bool
stands_above w n [] = false
stands_above w n (f ∷ fs) = stands_on w n f.mark

abbrev pub stands_rightly : World → Mark → List Frame → Bool
stands_rightly w (Scope m) below = true
stands_rightly w (Handled s) below = true
stands_rightly w (InProtected m) below = true
stands_rightly w (InAccept m) below = true
stands_rightly w (Abortable m) below = true
stands_rightly w (InInitialize l) below = true
stands_rightly w (InFinalize n) below = stands_above w n below
stands_rightly w (InAssign m) below = true

abbrev pub frames_stand_rightly : World → List Frame → Bool
frames_stand_rightly w [] = true
frames_stand_rightly w (f ∷ fs) = stands_rightly w f.mark fs && frames_stand_rightly w fs

abbrev pub finalizes_stand_rightly : World → Bool
finalizes_stand_rightly w = list_all (λ t. frames_stand_rightly w t.frames) (everybody w)

-- each Finalize stands where its end leads on
abbrev pub ReachedFinalizesStandRightly : Type 0
ReachedFinalizesStandRightly = (p : Image) (script : List (ℤ × Item)) (bound : ℕ) (w : World)
    → Reached p script bound w → IsTrue (finalizes_stand_rightly w)

-- ---- the whole

-- each mark is struck for a cause, and each Finalize stands where its end leads on: on the scope that is being left, or
-- on the assignment to its object, which is registered
abbrev pub ReachedMarksAreRight : Type 0
ReachedMarksAreRight = (p : Image) (script : List (ℤ × Item)) (bound : ℕ) (w : World) → Reached p script bound w
    → IsTrue (marks_are_right w)

-- ---- what triggers are set for

-- a trigger that is appointed is awaited; of other appointments nothing is asked
abbrev pub trigger_is_awaited : Image → World → Due → Bool
trigger_is_awaited p w (due_for.Event n h) = true
trigger_is_awaited p w (due_for.Delay t) = true
trigger_is_awaited p w (due_for.Timeout c) = true
trigger_is_awaited p w (due_for.Trigger t depth) = is_awaited p w (due_for.Trigger t depth)

-- the task for which a trigger is appointed is there, and at its depth stands a part that awaits it
abbrev pub ReachedTriggersAreAwaited : Type 0
ReachedTriggersAreAwaited = (p : Image) (script : List (ℤ × Item)) (bound : ℕ) (w : World)
    → Reached p script bound w → IsTrue (list_all (λ a. trigger_is_awaited p w a.due) w.appointments)
