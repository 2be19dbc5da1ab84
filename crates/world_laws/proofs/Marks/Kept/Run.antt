-- The opening of a run, and tocks: all of a tock but the tick itself is made of the same changes, of the lines of a
-- tock, and of the release that the agent takes up.
use Rattle.std.proofs.Common.{◌≡◌, Bool, true, false, cond, List, [], ◌∷◌, Option, Some, None, refl}
use Rattle.std.specs.Prelude.{unwrap_or}
use Rattle.trace_text.specs.declared.events.Event.{Event}
use Rattle.trace_text.specs.declared.events.Event.TheVariants as line
use Rattle.trace_text.specs.declared.events.Created.TheVariants as created
use Rattle.profile_machine.specs.declared.world.lines.Line.TheVariants as line_said
use Rattle.profile_machine.specs.declared.world.lines.Part.TheVariants.{Own}
use Rattle.profile_machine.specs.declared.world.marks.Purpose.TheVariants as opened_for
use Rattle.trace_text.specs.declared.events.Who.{Who}
use Rattle.trace_text.specs.declared.events.Who.TheVariants as who
use Rattle.profile_image.specs.declared.image.Image.{Image}
use Rattle.profile_machine.specs.declared.world.World.{World}
use Rattle.profile_machine.specs.declared.world.marks.Frame.{Frame}
use Rattle.profile_machine.specs.declared.world.appointments.Release.{Release}
use Rattle.profile_image.specs.Words.{same_who, same_option}
use Rattle.profile_machine.specs.Steps.{rests}
use Rattle.profile_machine.specs.Tasks.{task_of, with_ticks}
use Rattle.profile_machine.specs.Cost.{cost}
use Rattle.profile_machine.specs.Handlers.{charge}
use Rattle.profile_machine.specs.Run.{opens, say, silently, says_run, with_serving, serve_if_free, serve}
use Rattle.profile_machine.specs.Run.{begin_action, one_tick_less, spend_tick, says_idle, environment}
use Rattle.machine_laws.proofs.Moves.{StepRelation, MoveRelation}
use Rattle.machine_laws.specs.LineKinds.{is_of_tock}
use Rattle.world_laws.proofs.Marks.Kept.Dispatching.{to_tail-keeps}
use Rattle.world_laws.proofs.Marks.Kept.Frames.{open_sequence-keeps}
use Rattle.world_laws.proofs.Marks.MarkFacts.{Unarmed}
use Rattle.world_laws.proofs.Marks.Kept.Handlers.{charge-alters}
use Rattle.world_laws.proofs.Marks.FineMoves.{RegionMoves, TockMoves, chains, move_chains, says-keeps}
use Rattle.profile_machine.specs.Scopes.{open_scope, plainly}
use Rattle.machine_laws.proofs.FineMoves.{GoodWorld}
use Rattle.machine_laws.proofs.Kept.Run.{before_tick}
use Rattle.machine_laws.proofs.Kept.Combinators.{Alters, From, Leads, changes_then-from, keeps-from, then-keeps, then-leads, watches-leads}

-- ---- a tock up to its tick

module _ {G : GoodWorld} {R : StepRelation} {Q : MoveRelation} (moves : RegionMoves G R Q) where
  pub opens-from : (p : Image) (w : World) → G w → Unarmed environment w → From R w (opens p)
  unfolding opens
  opens-from p w good none =
      let v = open_scope p environment p.environment (plainly None) opened_for.Task w in
      let first = moves.openings.opens_own_scope p environment p.environment (plainly None) w good none in
      changes_then-from (chains moves.fine) (open_scope p environment p.environment (plainly None) opened_for.Task) _ w first
      (keeps-from (chains moves.fine) _ v (moves.fine.behind w v first)
      (then-keeps (chains moves.fine) _ _ (says-keeps moves.fine Own (line_said.New (created.Task (record { 0 = 0 })) None p.main.priority) refl)
      (then-keeps (chains moves.fine) _ _ (to_tail-keeps moves.fine p Own environment tt) (open_sequence-keeps moves.fine p Own environment tt))))

  begin_action-alters : (p : Image) (name : Who) → Alters G R (begin_action p name)
  unfolding Alters
  begin_action-alters p name w good =
      moves.fine.edits_task name (with_ticks (Some (unwrap_or (task_of w name).ticks_left (cost p w name)))) w good (λ t. refl) (λ t. refl) (λ t. refl)
      (λ t. refl)

  spend_tick-alters : (name : Who) → Alters G R (spend_tick name)
  unfolding Alters
  spend_tick-alters name w good =
      moves.fine.edits_task name (λ t. with_ticks (one_tick_less t.ticks_left) t) w good (λ t. refl) (λ t. refl) (λ t. refl) (λ t. refl)

  silently-leads : (f : World → World) → Alters G R f → Leads G Q (silently f)
  unfolding Leads Alters
  silently-leads f a w good = moves.fine.silently w (f w) (a w good)

  module _ (tocks : TockMoves G Q) where
    say-leads : (event : Event) → is_of_tock event ≡ true → Leads G Q (say event)
    unfolding Leads
    say-leads event a w good = tocks.tells event w good a

    says_run-test : (same : Bool) (name : Who) → Leads G Q (cond same rests (say (line.Run name)))
    unfolding Leads
    says_run-test true name w good = moves.fine.rests w good
    says_run-test false name w good = say-leads (line.Run name) refl w good

    says_run-leads : (name : Who) (ran : Option Who) → Leads G Q (says_run name ran)
    says_run-leads name ran = says_run-test (same_option same_who ran (Some name)) name

    says_idle-leads : (ran : Option Who) → Leads G Q (says_idle ran)
    unfolding Leads
    says_idle-leads None w good = moves.fine.rests w good
    says_idle-leads (Some name) w good = say-leads line.Idle refl w good

    serve_if_free-leads : (serving : Option Release) (frames : List Frame) (releases : List Release) (w : World) → G w → w.releases ≡ releases →
        let done = serve_if_free serving frames releases w in
        Q w done.1 done.0
    serve_if_free-leads None [] [] w good a = moves.fine.rests w good
    serve_if_free-leads None [] (r ∷ rest) w good a =
        let v = with_serving r rest w in
        let taken = tocks.serves r rest w good a in
        moves.fine.leads_on w v v taken (tocks.tells (line.Serve r.number) v (moves.fine.moved w v taken) refl)
    serve_if_free-leads None (f ∷ fs) releases w good a = moves.fine.rests w good
    serve_if_free-leads (Some r) frames releases w good a = moves.fine.rests w good

    serve-leads : (name : Who) → Leads G Q (serve name)
    unfolding Leads
    serve-leads (who.Task t) w good = moves.fine.rests w good
    serve-leads who.Agent w good = serve_if_free-leads w.serving w.agent.frames w.releases w good refl

    pub before_tick-leads : (p : Image) (chosen : Option Who) → Leads G Q (before_tick p chosen)
    before_tick-leads p None = watches-leads (move_chains moves.fine) _ (λ w. says_idle-leads w.ran)
    before_tick-leads p (Some name) =
        then-leads (move_chains moves.fine) _ _ (watches-leads (move_chains moves.fine) _ (λ w. says_run-leads name w.ran))
        (then-leads (move_chains moves.fine) _ _ (serve-leads name)
        (then-leads (move_chains moves.fine) _ _ (silently-leads (begin_action p name) (begin_action-alters p name))
        (then-leads (move_chains moves.fine) _ _ (silently-leads (charge p name) (charge-alters moves.fine p name))
        (silently-leads (spend_tick name) (spend_tick-alters name)))))
