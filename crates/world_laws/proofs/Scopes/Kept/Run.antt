-- The opening of a run, and tocks: all of a tock but the tick itself is made of the same changes, of the lines of a
-- tock, and of the release that the agent takes up.
use Rattle.std.proofs.Common.{Bool, true, false, cond, List, [], ◌∷◌, Option, Some, None, refl}
use Rattle.std.specs.Prelude.{unwrap_or}
use Rattle.trace_text.specs.declared.events.Event.{Event}
use Rattle.trace_text.specs.declared.events.Event.TheVariants as line
use Rattle.trace_text.specs.declared.events.Who.{Who}
use Rattle.trace_text.specs.declared.events.Who.TheVariants as who
use Rattle.profile_image.specs.declared.image.Image.{Image}
use Rattle.profile_machine.specs.declared.world.World.{World}
use Rattle.profile_machine.specs.declared.world.marks.Frame.{Frame}
use Rattle.profile_machine.specs.declared.world.appointments.Release.{Release}
use Rattle.profile_image.specs.Words.{same_who, same_option}
use Rattle.profile_machine.specs.Steps.{rests}
use Rattle.profile_machine.specs.Tasks.{task_of, with_ticks}
use Rattle.profile_machine.specs.Cost.{cost}
use Rattle.profile_machine.specs.Handlers.{charge}
use Rattle.profile_machine.specs.Run.{say, silently, says_run, with_serving, serve_if_free, serve, begin_action, one_tick_less, spend_tick, says_idle}
use Rattle.machine_laws.proofs.Moves.{StepRelation, MoveRelation}
use Rattle.world_laws.proofs.Scopes.Kept.Handlers.{charge-alters}
use Rattle.world_laws.proofs.Scopes.FineMoves.{FineMoves, move_chains}
use Rattle.machine_laws.proofs.FineMoves.{Anybody, GoodWorld}
use Rattle.machine_laws.proofs.Kept.Run.{before_tick}
use Rattle.machine_laws.proofs.Kept.Combinators.{Alters, Leads, then-leads, watches-leads}

-- ---- a tock up to its tick

module _ {G : GoodWorld} {R : StepRelation} {Q : MoveRelation} (moves : FineMoves G Anybody Anybody R Q) where
  begin_action-alters : (p : Image) (name : Who) → Alters G R (begin_action p name)
  unfolding Alters
  begin_action-alters p name w good =
      moves.edits_task name (with_ticks (Some (unwrap_or (task_of w name).ticks_left (cost p w name)))) w good (λ t. refl) (λ t. refl) (λ t. refl) (λ t. refl)

  spend_tick-alters : (name : Who) → Alters G R (spend_tick name)
  unfolding Alters
  spend_tick-alters name w good = moves.edits_task name (λ t. with_ticks (one_tick_less t.ticks_left) t) w good (λ t. refl) (λ t. refl) (λ t. refl) (λ t. refl)

  silently-leads : (f : World → World) → Alters G R f → Leads G Q (silently f)
  unfolding Leads Alters
  silently-leads f a w good = moves.silently w (f w) (a w good)

  module _ (tells : (event : Event) (w : World) → G w → Q w (event ∷ []) w)
      (serves : (r : Release) (rest : List Release) (w : World) → G w → Q w [] (with_serving r rest w)) where
    say-leads : (event : Event) → Leads G Q (say event)
    unfolding Leads
    say-leads event w good = tells event w good

    says_run-test : (same : Bool) (name : Who) → Leads G Q (cond same rests (say (line.Run name)))
    unfolding Leads
    says_run-test true name w good = moves.rests w good
    says_run-test false name w good = say-leads (line.Run name) w good

    says_run-leads : (name : Who) (ran : Option Who) → Leads G Q (says_run name ran)
    says_run-leads name ran = says_run-test (same_option same_who ran (Some name)) name

    says_idle-leads : (ran : Option Who) → Leads G Q (says_idle ran)
    unfolding Leads
    says_idle-leads None w good = moves.rests w good
    says_idle-leads (Some name) w good = say-leads line.Idle w good

    serve_if_free-leads : (serving : Option Release) (frames : List Frame) (releases : List Release) (w : World) → G w →
        let done = serve_if_free serving frames releases w in
        Q w done.1 done.0
    serve_if_free-leads None [] [] w good = moves.rests w good
    serve_if_free-leads None [] (r ∷ rest) w good =
        let first = serves r rest w good in
        moves.leads_on w (with_serving r rest w) (with_serving r rest w) first
        (tells (line.Serve r.number) (with_serving r rest w) (moves.moved w (with_serving r rest w) first))
    serve_if_free-leads None (f ∷ fs) releases w good = moves.rests w good
    serve_if_free-leads (Some r) frames releases w good = moves.rests w good

    serve-leads : (name : Who) → Leads G Q (serve name)
    unfolding Leads
    serve-leads (who.Task t) w good = moves.rests w good
    serve-leads who.Agent w good = serve_if_free-leads w.serving w.agent.frames w.releases w good

    pub before_tick-leads : (p : Image) (chosen : Option Who) → Leads G Q (before_tick p chosen)
    before_tick-leads p None = watches-leads (move_chains moves) _ (λ w. says_idle-leads w.ran)
    before_tick-leads p (Some name) =
        then-leads (move_chains moves) _ _ (watches-leads (move_chains moves) _ (λ w. says_run-leads name w.ran))
        (then-leads (move_chains moves) _ _ (serve-leads name)
        (then-leads (move_chains moves) _ _ (silently-leads (begin_action p name) (begin_action-alters p name))
        (then-leads (move_chains moves) _ _ (silently-leads (charge p name) (charge-alters moves p name))
        (silently-leads (spend_tick name) (spend_tick-alters name)))))
