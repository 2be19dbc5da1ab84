-- A law of the lines by which somebody stops, which ask that it has no action open: where it holds in the effects of those who act it
-- holds in every run, since no other line tells it.
use Rattle.std.proofs.Common.{◌≡◌, ℕ, ℤ, Bool, true, false, List, [], ◌∷◌, Option, Some, None, refl}
use Rattle.ann_base.specs.declared.identities.TaskNo.{TaskNo}
use Rattle.trace_text.specs.declared.events.Action as shown
use Rattle.trace_text.specs.declared.events.Created.TheVariants as created
use Rattle.trace_text.specs.declared.events.Ended.{Ended}
use Rattle.trace_text.specs.declared.events.Event.{Event}
use Rattle.trace_text.specs.declared.events.Event.TheVariants as written
use Rattle.trace_text.specs.declared.events.QueueEnd.{QueueEnd}
use Rattle.trace_text.specs.declared.events.Who.{Who}
use Rattle.trace_text.specs.Laws.{actions_after}
use Rattle.trace_text.specs.Queue.{follows_lines}
use Rattle.profile_image.specs.declared.image.Image.{Image}
use Rattle.profile_image.specs.declared.numbers.DeclNo.{DeclNo}
use Rattle.profile_image.specs.declared.script_items.Item.{Item}
use Rattle.profile_machine.specs.declared.world.World.{World}
use Rattle.profile_machine.specs.declared.world.lines.Line.{Line}
use Rattle.profile_machine.specs.declared.world.lines.Line.TheVariants as line
use Rattle.profile_machine.specs.declared.world.lines.Said.{Said}
use Rattle.profile_machine.specs.Instant.{budgets_due, effect, effect_of_runner, events_due, finish_action}
use Rattle.profile_machine.specs.Instant.{instant, is_over, moments_due, quantum_spent, script_items, timers_due}
use Rattle.profile_machine.specs.Lines.{event_of}
use Rattle.profile_machine.specs.Run.{blank_world, opening, opens, run_of, tock}
use Rattle.profile_machine.specs.Steps.{Move, in_order, rests, settles, ◌▶◌}
use Rattle.profile_machine.specs.Tasks.{task_of}
use Rattle.machine_laws.specs.LineKinds.{is_of_tock}
use Rattle.machine_laws.proofs.LineLemmas.{tocks_say_ticks}
use Rattle.line_laws.proofs.Ticks.LineByLine.{Follow, Follow-all, Follow-append, seen_behind}
use Rattle.line_laws.proofs.Ticks.ReleaseLemmas.{events_of}
use Rattle.ceiling_laws.specs.RunLaws.{Tells}
use Rattle.ceiling_laws.proofs.Runs.BegunLines.{Each, each-in_order}
use Rattle.ceiling_laws.proofs.Runs.FreeMoves.{any_task, any_world}
use Rattle.ceiling_laws.proofs.Runs.LevelMoves.{is_apart}
use Rattle.ceiling_laws.proofs.Runs.RunLemmas.{Others, Settles, behind_onward, settles_onward}
use Rattle.blocking_laws.proofs.EachLine.{EachSaid, OfOthers, each_opens, each_others}
use Rattle.blocking_laws.proofs.ToldLines.{ToldRuns, run-follows}

module _ (lawful : List shown.Action → Event → Bool) where
  -- of which lines it asks something
  pub record OfStops : Type 0 where
    pub tells : Line → Bool
    pub quiet : (x : Line) → is_apart x ≡ false → tells x ≡ false
    pub readies : (name : Who) (level : ℕ) (end : QueueEnd) (deadline : Option ℤ) → tells (line.Ready name level end deadline) ≡ false
    pub creates : (t : TaskNo) (declared : Option DeclNo) (level : ℕ) → tells (line.New (created.Task t) declared level) ≡ false
    pub others : (p : Image) (s : List shown.Action) (x : Line) → tells x ≡ false → lawful s (event_of p x) ≡ true
    pub tocks : (s : List shown.Action) (x : Event) → is_of_tock x ≡ true → lawful s x ≡ true
    pub ends : (s : List shown.Action) (reason : Ended) → lawful s (written.End reason) ≡ true

  abbrev pub behind_lawful : List shown.Action → List Event → List shown.Action
  behind_lawful = seen_behind actions_after lawful

  -- it holds in the effects of who acts
  abbrev pub HoldsInEffects : Image → List (ℤ × Item) → ℕ → Type 0
  HoldsInEffects p script bound = (lines : List Event) (w : World) → Tells p script bound lines w → (name : Who) → w.ran ≡ Some name
      → is_over (task_of w name).ticks_left ≡ true → Follow actions_after lawful (behind_lawful [] lines) (settles p (effect p name) w).1

  module _ (law : OfStops) (p : Image) where
    Silent : Said → Type 0
    Silent x = law.tells x.line ≡ false

    silent_others : OfOthers Silent
    unfolding Silent
    silent_others = record {
      quiet = λ part x e. law.quiet x e;
      readies = λ part name level end deadline. law.readies name level end deadline;
      creates = λ t declared level. law.creates t declared level;
    }

    silent-follow : (s : List shown.Action) (xs : List Said) → Each Silent xs → Follow actions_after lawful s (events_of p xs)
    unfolding Silent
    silent-follow s [] h = tt
    silent-follow s (x ∷ xs) h = (law.others p s x.line h.0, silent-follow (actions_after s (event_of p x.line)) xs h.1)

    Any_shown : List shown.Action → World → Type 0
    Any_shown s w = Unit {0}

    silent-settles : (s : List shown.Action) → Settles actions_after lawful Any_shown p s (EachSaid Silent)
    unfolding EachSaid Any_shown
    silent-settles s v xs h = record { follow = silent-follow s (in_order xs) (each-in_order Silent xs h); shows = tt }

    -- beside an effect, and when a run is opened
    silent_beside : Others actions_after lawful Any_shown p
    unfolding EachSaid Any_shown
    silent_beside = λ s. (EachSaid Silent, any_world, any_task, each_others Silent silent_others p, (λ w h. tt), silent-settles s)

    opening-stops : (script : List (ℤ × Item)) → Follow actions_after lawful [] (opening p script).1
    unfolding EachSaid
    opening-stops script =
        (settles_onward actions_after lawful Any_shown p [] (EachSaid Silent) (EachSaid Silent) (opens p) (blank_world p script) (silent-settles [])
        (each_opens Silent silent_others p) tt).follow

    effect_if-stops : (s : List shown.Action) (w : World) (name : Who) (over : Bool)
        → (over ≡ true → Follow actions_after lawful s (settles p (effect p name) w).1)
        → Follow actions_after lawful s ((elim over as (λ _. Move) [ true ↦ settles p (effect p name) | false ↦ rests ]) w).1
    effect_if-stops s w name true acts = acts refl
    effect_if-stops s w name false acts = tt

    module _ (script : List (ℤ × Item)) (bound : ℕ) (effects : HoldsInEffects p script bound) where
      runner-stops : (lines : List Event) (w : World) → Tells p script bound lines w → (ran : Option Who) → w.ran ≡ ran
          → Follow actions_after lawful (behind_lawful [] lines) (effect_of_runner p ran w).1
      runner-stops lines w told None ran = tt
      runner-stops lines w told (Some name) ran =
          effect_if-stops (behind_lawful [] lines) w name (is_over (task_of w name).ticks_left) (λ over. effects lines w told name ran over)

      instant-stops : (lines : List Event) (w : World) → Tells p script bound lines w
          → Follow actions_after lawful (behind_lawful [] lines) (instant p w).1
      unfolding Any_shown
      instant-stops lines w told =
          let first = finish_action p w in
          let beside = (script_items p ▶ events_due p ▶ moments_due p ▶ timers_due p ▶ budgets_due p ▶ quantum_spent p) first.0 in
          let s = behind_lawful [] lines in
          Follow-append actions_after lawful s first.1 beside.1 (runner-stops lines w told w.ran refl)
          (behind_onward actions_after lawful Any_shown silent_beside (behind_lawful s first.1) first.0 tt).follow

      told_stops : ToldRuns actions_after lawful p script bound []
      told_stops = record {
        opens = opening-stops script;
        instants = instant-stops;
        tocks = λ seen w. Follow-all actions_after lawful is_of_tock law.tocks seen (tock p w).1 (tocks_say_ticks p w);
        ends = law.ends;
      }

      pub run-stops : follows_lines actions_after lawful [] (run_of p script bound) ≡ true
      run-stops = run-follows actions_after lawful told_stops
