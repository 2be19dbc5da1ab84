-- The opening has right cells, and instants and tocks keep them: so each world that a run reaches has them.
use Rattle.std.proofs.Common.{ℕ, ℤ, List, [], ◌∷◌, Option, Some, None, refl}
use Rattle.std.specs.Prelude.{unwrap_or}
use Rattle.trace_text.specs.declared.events.Event.{Event}
use Rattle.trace_text.specs.declared.events.Event.TheVariants as written
use Rattle.trace_text.specs.declared.events.Who.{Who}
use Rattle.trace_text.specs.declared.events.Who.TheVariants as who
use Rattle.profile_image.specs.declared.image.Image.{Image}
use Rattle.profile_image.specs.declared.script_items.Item.{Item}
use Rattle.profile_machine.specs.declared.world.World.{World}
use Rattle.profile_machine.specs.declared.world.appointments.Release.{Release}
use Rattle.profile_machine.specs.declared.world.marks.Frame.{Frame}
use Rattle.profile_image.specs.Words.{same_option, same_who}
use Rattle.profile_machine.specs.Steps.{rests, watches}
use Rattle.profile_machine.specs.Tasks.{task_of, with_ticks}
use Rattle.profile_machine.specs.Dispatching.{choose}
use Rattle.profile_machine.specs.Handlers.{charge}
use Rattle.profile_machine.specs.Cost.{cost}
use Rattle.profile_machine.specs.Instant.{instant}
use Rattle.profile_machine.specs.Run.{begin_action, blank_world, idle_tick, next_tick, one_tick_less, opening, opens, say, says_idle}
use Rattle.profile_machine.specs.Run.{says_run, serve, serve_first, serve_if_free, silently, spend_tick, tick_of, tock, tock_of, with_serving}
use Rattle.machine_laws.specs.Reached.{Comes, opened, ticked, Reached, before, behind}
use Rattle.world_laws.specs.CellWorlds.{ReachedCellsAreRight}
use Rattle.world_laws.proofs.Cells.RightCells.{Alters, Keeps, Leads, Right, changes-keeps, cond-leads, rests-leads}
use Rattle.world_laws.proofs.Cells.RightCells.{says-keeps, settles-leads, then-keeps, then-leads, watches-leads}
use Rattle.world_laws.proofs.Cells.Kept.Tasks.{edit_task-alters}
use Rattle.world_laws.proofs.Cells.Kept.Dispatching.{to_tail-keeps}
use Rattle.world_laws.proofs.Cells.Kept.Frames.{open_sequence-keeps}
use Rattle.world_laws.proofs.Cells.Kept.Scopes.{open_scope-alters}
use Rattle.world_laws.proofs.Cells.Kept.Handlers.{charge-alters}
use Rattle.world_laws.proofs.Cells.Kept.Instant.{instant-leads}

-- ---- the opening

opens-keeps : (p : Image) → Keeps p (opens p)
unfolding opens
opens-keeps p = search (then-keeps, changes-keeps, open_scope-alters, says-keeps, to_tail-keeps, open_sequence-keeps) depth 8

blank-right : (p : Image) (script : List (ℤ × Item)) → Right p (blank_world p script)
unfolding Right
blank-right p script = refl

opening-right : (p : Image) (script : List (ℤ × Item)) → Right p (opening p script).0
opening-right p script = (settles-leads p (opens p) (opens-keeps p)).on (blank_world p script) (blank-right p script)

-- ---- a tock

say-leads : {p : Image} (event : Event) → Leads p (say event)
say-leads event = record { on = λ w right. right }

silently-leads : {p : Image} (f : World → World) → Alters p f → Leads p (silently f)
silently-leads f kept = record { on = λ w right. kept.at w right }

with_serving-alters : {p : Image} (r : Release) (rest : List Release) → Alters p (with_serving r rest)
unfolding Right
with_serving-alters r rest = record { at = λ w right. right }

next_tick-alters : {p : Image} (ran : Option Who) → Alters p (next_tick ran)
unfolding Right
next_tick-alters ran = record { at = λ w right. right }

begin_action-alters : (p : Image) (name : Who) → Alters p (begin_action p name)
begin_action-alters p name = record {
  at = λ w right. (edit_task-alters name (with_ticks (Some (unwrap_or (task_of w name).ticks_left (cost p w name))))).at w right;
}

spend_tick-alters : {p : Image} (name : Who) → Alters p (spend_tick name)
spend_tick-alters name = edit_task-alters name (λ t. with_ticks (one_tick_less t.ticks_left) t)

says_run-leads : {p : Image} (name : Who) (ran : Option Who) → Leads p (says_run name ran)
says_run-leads name ran = cond-leads (same_option same_who ran (Some name)) rests (say (written.Run name)) rests-leads (say-leads (written.Run name))

serve_first-leads : {p : Image} (releases : List Release) → Leads p (serve_first releases)
serve_first-leads [] = rests-leads
serve_first-leads (r ∷ rest) =
    then-leads (silently (with_serving r rest)) (say (written.Serve r.number)) (silently-leads (with_serving r rest) (with_serving-alters r rest))
    (say-leads (written.Serve r.number))

serve_if_free-leads : {p : Image} (serving : Option Release) (frames : List Frame) (releases : List Release) → Leads p (serve_if_free serving frames releases)
serve_if_free-leads None [] releases = serve_first-leads releases
serve_if_free-leads None (f ∷ fs) releases = rests-leads
serve_if_free-leads (Some r) frames releases = rests-leads

serve-leads : {p : Image} (name : Who) → Leads p (serve name)
serve-leads (who.Task t) = rests-leads
serve-leads who.Agent = watches-leads _ (λ w. serve_if_free-leads w.serving w.agent.frames w.releases)

tick_of-leads : (p : Image) (name : Who) → Leads p (tick_of p name)
tick_of-leads p name =
    then-leads (watches (λ w. says_run name w.ran)) _ (watches-leads _ (λ w. says_run-leads name w.ran))
    (then-leads (serve name) _ (serve-leads name)
    (then-leads (silently (begin_action p name)) _ (silently-leads (begin_action p name) (begin_action-alters p name))
    (then-leads (silently (charge p name)) _ (silently-leads (charge p name) (charge-alters p name))
    (then-leads (silently (spend_tick name)) _ (silently-leads (spend_tick name) (spend_tick-alters name))
    (silently-leads (next_tick (Some name)) (next_tick-alters (Some name)))))))

says_idle-leads : {p : Image} (ran : Option Who) → Leads p (says_idle ran)
says_idle-leads None = rests-leads
says_idle-leads (Some name) = say-leads written.Idle

idle_tick-leads : {p : Image} → Leads p idle_tick
idle_tick-leads =
    then-leads (watches (λ w. says_idle w.ran)) _ (watches-leads _ (λ w. says_idle-leads w.ran)) (silently-leads (next_tick None) (next_tick-alters None))

tock_of-leads : (p : Image) (chosen : Option Who) → Leads p (tock_of p chosen)
tock_of-leads p None = idle_tick-leads
tock_of-leads p (Some name) = tick_of-leads p name

tock-leads : (p : Image) → Leads p (tock p)
tock-leads p = watches-leads _ (λ w. tock_of-leads p (choose w))

-- ---- a run

comes-right : (p : Image) (script : List (ℤ × Item)) (bound : ℕ) (w : World) → Comes p script bound w → Right p w
comes-right p script bound _ opened = opening-right p script
comes-right p script bound _ (ticked w c e) = (tock-leads p).on (instant p w).0 ((instant-leads p).on w (comes-right p script bound w c))

reached-right : (p : Image) (script : List (ℤ × Item)) (bound : ℕ) (w : World) → Reached p script bound w → Right p w
reached-right p script bound _ (before w c) = comes-right p script bound w c
reached-right p script bound _ (behind w c) = (instant-leads p).on w (comes-right p script bound w c)

pub reached_cells_are_right : ReachedCellsAreRight
unfolding Right
reached_cells_are_right p script bound w r = reached-right p script bound w r
