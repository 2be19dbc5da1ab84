-- The triggers that are appointed in every world that a run reaches, as a test.
use Rattle.std.proofs.Common.{◌≡◌, ℕ, Bool, true, List, [], ◌∷◌, refl, eq-eqb}
use Rattle.std.specs.List.{list_any, list_all}
use Rattle.std.proofs.lemmas.Bool.{and_from, or_left, or_right}
use Rattle.ann_base.specs.declared.identities.TaskNo.{TaskNo}
use Rattle.trace_text.specs.declared.events.Who.TheVariants as who
use Rattle.profile_image.specs.declared.image.Image.{Image}
use Rattle.profile_machine.specs.declared.world.World.{World}
use Rattle.profile_machine.specs.declared.world.appointments.Appointment.{Appointment}
use Rattle.profile_machine.specs.declared.world.appointments.Due.{Due}
use Rattle.profile_machine.specs.declared.world.appointments.Due.TheVariants as due_for
use Rattle.profile_machine.specs.Frames.{frames_of}
use Rattle.profile_machine.specs.Appointments.{is_trigger_of}
use Rattle.profile_machine.specs.WellFormed.{awaits_trigger_at}
use Rattle.world_laws.specs.MarkWorlds.{trigger_is_awaited, ReachedTriggersAreAwaited}
use Rattle.world_laws.proofs.Marks.MarkFacts.{GoodMarks}
use Rattle.world_laws.proofs.Marks.MarkRuns.{reached-good}

-- a trigger is awaited where its part awaits it
abbrev Awaited : World → (TaskNo → ℕ → Bool) → Type 0
Awaited w test = (t : TaskNo) (depth : ℕ) → test t depth ≡ true → awaits_trigger_at depth (frames_of w (who.Task t)) ≡ true

due-awaited : (p : Image) (w : World) (due : Due) → Awaited w (λ t depth. is_trigger_of t depth due) → trigger_is_awaited p w due ≡ true
due-awaited p w (due_for.Event n h) k = refl
due-awaited p w (due_for.Delay t) k = refl
due-awaited p w (due_for.Timeout c) k = refl
due-awaited p w (due_for.Trigger t depth) k = k t depth (and_from _ _ (eq-eqb t.0 t.0 refl) (eq-eqb depth depth refl))

all-awaited : (p : Image) (w : World) (xs : List Appointment) → Awaited w (λ t depth. list_any (λ a. is_trigger_of t depth a.due) xs)
    → list_all (λ a. trigger_is_awaited p w a.due) xs ≡ true
all-awaited p w [] k = refl
all-awaited p w (a ∷ rest) k =
    and_from (trigger_is_awaited p w a.due) (list_all (λ (x : Appointment). trigger_is_awaited p w x.due) rest)
    (due-awaited p w a.due
    (λ t depth is. k t depth (or_left (is_trigger_of t depth a.due) (list_any (λ (x : Appointment). is_trigger_of t depth x.due) rest) is)))
    (all-awaited p w rest
    (λ t depth is. k t depth (or_right (is_trigger_of t depth a.due) (list_any (λ (x : Appointment). is_trigger_of t depth x.due) rest) is)))

triggers-awaited : (p : Image) (w : World) → GoodMarks w → list_all (λ a. trigger_is_awaited p w a.due) w.appointments ≡ true
triggers-awaited p w good = all-awaited p w w.appointments (λ t depth is. (good.triggers t depth is).1.0.0)

pub reached_triggers_are_awaited : ReachedTriggersAreAwaited
reached_triggers_are_awaited p script bound w r = triggers-awaited p w (reached-good p script bound w r)
