-- Actions, their effects, instants and runs are the same with more turns to count down.
use Rattle.std.proofs.Common.{◌≡◌, ℕ, ℤ, zero, suc, ◌++◌, Bool, true, false, List, [], Option, Some, None, refl, ap, ◌∙◌}
use Rattle.trace_text.specs.declared.events.Ended.{Ended}
use Rattle.trace_text.specs.declared.events.Event.{Event}
use Rattle.trace_text.specs.declared.events.Who.{Who}
use Rattle.profile_image.specs.declared.image.Image.{Image}
use Rattle.profile_image.specs.declared.numbers.StatementNo.{StatementNo}
use Rattle.profile_image.specs.declared.script_items.Item.{Item}
use Rattle.profile_machine.specs.declared.world.World.{World}
use Rattle.profile_machine.specs.declared.world.marks.Frame.{Frame}
use Rattle.profile_machine.specs.declared.world.marks.Mark.{Mark}
use Rattle.profile_machine.specs.declared.world.marks.Mark.TheVariants.{Scope, Handled, InProtected, InAccept, Abortable, InInitialize, InFinalize, InAssign}
use Rattle.profile_machine.specs.Steps.{Move, goes_on_with, rests, settled, settles, ◌▷◌, ◌▶◌}
use Rattle.profile_machine.specs.Tasks.{task_of, with_ticks}
use Rattle.profile_machine.specs.Frames.{leaving_of, open_if_ready, top_of}
use Rattle.profile_machine.specs.Tasking.{take_terminates, unwind_all}
use Rattle.profile_machine.specs.Act.{end_mark, act_frame, act_top, act}
use Rattle.profile_machine.specs.Instant.{effect, is_over, effect_of_runner, script_items, events_due}
use Rattle.profile_machine.specs.Instant.{moments_due, timers_due, budgets_due, quantum_spent, instant}
use Rattle.profile_machine.specs.Run.{Ran, opening, stop, tock, stopped, then_runs, run_from}
use Rattle.machine_laws.specs.Reached.{Comes, opened, ticked, before}
use Rattle.world_laws.proofs.Queues.Kept.Act.{awake-plain, found-frames}
use Rattle.world_laws.proofs.Queues.Kept.Frames.{edit_task-quiets}
use Rattle.world_laws.proofs.Queues.Kept.Run.{reached-good}
use Rattle.world_laws.proofs.Queues.Standing.{Calm, Good, calm-good, part_of, quiet_kind}
use Rattle.world_laws.specs.ServingWorlds.{end_mark_more, act_frame_more, act_top_more, act_more, acting, effect_more}
use Rattle.world_laws.specs.ServingWorlds.{effect_of_runner_more, instant_more, run_from_more, ReachedServingEnds, RunsServeToTheEnd}
use Rattle.world_laws.proofs.Serving.ServingEnds.{Same, end_in_protected-same, looks_at-same, same-step}

module _ (more : ℕ) (p : Image) where
  -- ---- an action

  module _ (name : Who) (w : World) (good : Good p w) where
    end_mark-same : (f : Frame) (mark : Mark) → top_of w name ≡ Some f → f.mark ≡ mark → Same w (end_mark_more more p name f mark) (end_mark p name f mark)
    unfolding end_mark_more end_mark
    end_mark-same f (Scope m) top is = same-step _ w
    end_mark-same f (Handled s) top is = same-step _ w
    end_mark-same f (InProtected m) top is =
        let fs = found-frames w name f top in
        end_in_protected-same more p name m (leaving_of f) w f fs.0 good (awake-plain p name f w good top (ap part_of is)) fs.1 is
    end_mark-same f (InAccept m) top is = same-step _ w
    end_mark-same f (Abortable m) top is = same-step _ w
    end_mark-same f (InInitialize l) top is = same-step _ w
    end_mark-same f (InFinalize o) top is = same-step _ w
    end_mark-same f (InAssign m) top is = same-step _ w

    act_frame-same : (f : Frame) (onward : Option StatementNo) → top_of w name ≡ Some f
        → Same w (act_frame_more more p name f onward) (act_frame p name f onward)
    unfolding act_frame_more act_frame
    act_frame-same f (Some s) top = same-step _ w
    act_frame-same f None top = end_mark-same f f.mark top refl

    act_top-same : (found : Option Frame) → top_of w name ≡ found → Same w (act_top_more more p name found) (act_top p name found)
    unfolding act_top_more act_top
    act_top-same None is = same-step _ w
    act_top-same (Some f) is = act_frame-same f f.onward is

    act-same : Same w (act_more more p name) (act p name)
    unfolding act_more act
    act-same = looks_at-same (λ v. act_top_more more p name (top_of v name)) (λ v. act_top p name (top_of v name)) w (act_top-same (top_of w name) refl)

  -- ---- its effect

  acting-good : (name : Who) (w : World) → Good p w → Good p (acting name w)
  acting-good name w good =
      let calm : Calm quiet_kind w (acting name w) =
      (edit_task-quiets name (with_ticks None) (λ t. refl) (λ t. refl) (λ t. refl) (λ t. refl) (λ t. refl)).at w in
      calm-good p w (acting name w) good calm

  acting-same : (name : Who) (w : World) → Good p w → Same (acting name w) (act_more more p name) (act p name)
  acting-same name w good = act-same name (acting name w) (acting-good name w good)

  effect-same : (name : Who) (w : World) → Good p w → Same w (effect_more more p name) (effect p name)
  unfolding effect_more effect
  effect-same name w good = record {
    leads = λ said. ap (goes_on_with (open_if_ready p name ▷ take_terminates p name ▷ unwind_all p name)) ((acting-same name w good).leads said);
  }

  -- ---- an instant

  effect_of_runner-same : (ran : Option Who) (w : World) → Good p w → effect_of_runner_more more p ran w ≡ effect_of_runner p ran w
  effect_of_runner-same None w good = refl
  effect_of_runner-same (Some name) w good = by_test (is_over (task_of w name).ticks_left) where
    by_test : (b : Bool)
        → (elim b as (λ _. Move) [ true ↦ settles p (effect_more more p name) | false ↦ rests ]) w
        ≡ (elim b as (λ _. Move) [ true ↦ settles p (effect p name) | false ↦ rests ]) w
    by_test true = ap (settled p) ((effect-same name w good).leads [])
    by_test false = refl

  instant-same : (w : World) → Good p w → instant_more more p w ≡ instant p w
  instant-same w good =
      let later = script_items p ▶ events_due p ▶ moments_due p ▶ timers_due p ▶ budgets_due p ▶ quantum_spent p in
      ap (λ (a : World × List Event). let b = later a.0 in (b.0, a.1 ++ b.1)) (effect_of_runner-same w.ran w good)

  -- ---- a run

  turn : ℕ → World × List Event → World × List Event → Ran → Option Ended → Ran
  turn now i t rest (Some reason) = stopped now i.1 reason
  turn now i t rest None = then_runs now (i.1 ++ t.1) rest

  turn-same : (now : ℕ) (i t : World × List Event) (first second : Ran) (reason : Option Ended) → (reason ≡ None → first ≡ second)
      → turn now i t first reason ≡ turn now i t second reason
  unfolding turn
  turn-same now i t first second (Some reason) h = refl
  turn-same now i t first second None h = ap (then_runs now (i.1 ++ t.1)) (h refl)

  module _ (script : List (ℤ × Item)) (bound : ℕ) where
    run_from-same : (fuel : ℕ) (w : World) → Comes p script bound w → run_from_more more fuel p bound w ≡ run_from fuel p bound w
    unfolding turn
    run_from-same zero w comes = refl
    run_from-same (suc fuel) w comes =
        let i = instant p w in
        let t = tock p i.0 in
        ap (λ (j : World × List Event). turn w.time j (tock p j.0) (run_from_more more fuel p bound (tock p j.0).0) (stop p bound j.0))
        (instant-same w (reached-good p script bound w (before w comes)))
        ∙ turn-same w.time i t (run_from_more more fuel p bound t.0) (run_from fuel p bound t.0) (stop p bound i.0)
        (λ going. run_from-same fuel t.0 (ticked w comes going))

pub reached_serving_ends : ReachedServingEnds
reached_serving_ends p script bound w reached name more said = (acting-same more p name w (reached-good p script bound w reached)).leads said

pub runs_serve_to_the_end : RunsServeToTheEnd
runs_serve_to_the_end p script bound more =
    let o = opening p script in
    ap (then_runs 0 o.1) (run_from-same more p script bound (suc bound) o.0 opened)
