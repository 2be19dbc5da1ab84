-- In every run actions end in the reverse order of their beginning.
use Rattle.std.proofs.Common.{◌≡◌, ◌≤◌, arith, ℕ, ℤ, zero, suc, Bool, true, false, cond, List, [], ◌∷◌, Some, None, refl, sym, ap, subst}
use Rattle.std.specs.Prelude.{unwrap_or}
use Rattle.trace_text.specs.declared.events.Action as shown
use Rattle.trace_text.specs.declared.events.Event.{Event}
use Rattle.trace_text.specs.declared.events.Event.TheVariants as written
use Rattle.trace_text.specs.declared.events.Ended.TheVariants as why
use Rattle.trace_text.specs.declared.events.Who.{Who}
use Rattle.trace_text.specs.declared.events.Who.TheVariants as who
use Rattle.trace_text.specs.Queue.{follows_lines}
use Rattle.trace_text.specs.Laws.{actions_after}
use Rattle.trace_text.proofs.LawsFollowed.{lines_hold}
use Rattle.profile_image.specs.declared.image.Image.{Image}
use Rattle.profile_image.specs.declared.script_items.Item.{Item}
use Rattle.profile_machine.specs.declared.world.World.{World}
use Rattle.profile_machine.specs.declared.world.tasks.Task.{Task}
use Rattle.profile_machine.specs.Dispatching.{choose}
use Rattle.profile_machine.specs.Instant.{instant}
use Rattle.profile_machine.specs.Run.{environment_task, opens, opening, blank_world, tock, stop, run_from, run_of}
use Rattle.profile_machine.specs.Tasks.{nobody, is_who}
use Rattle.machine_laws.specs.Reached.{Comes, opened, ticked}
use Rattle.machine_laws.proofs.FinestMoves.{natures, effect-leads}
use Rattle.machine_laws.proofs.Kept.Combinators.{Leads}
use Rattle.machine_laws.proofs.Kept.Instant.{instant-from}
use Rattle.machine_laws.proofs.Kept.Run.{tock-parts, before_tick-leads, opens-keeps}
use Rattle.machine_laws.proofs.RunLemmas.{turn}
use Rattle.line_laws.specs.ExitLaws.{IsRunnerFree}
use Rattle.line_laws.proofs.Exits.AwakeRuns.{runners-free}
use Rattle.line_laws.proofs.Exits.TaskEdits.{one_of}
use Rattle.line_laws.proofs.Exits.FreeActs.{stays_held, acts_free, runner-free}
use Rattle.blocking_laws.specs.LastExits.{RunsExitLast, is_last_exit}
use Rattle.blocking_laws.proofs.LastActions.{Starts, marked}
use Rattle.blocking_laws.proofs.LastTies.{InLines, RightOf, Tied, actions_behind}
use Rattle.blocking_laws.proofs.LastMoves.{last_moves, last_tocks}
use Rattle.blocking_laws.proofs.ToldLines.{follows-alone, follows-then, turn-follows}

-- what lines lead to: each is right, and they are tied to the world behind
abbrev pub LedOn : ℕ → List shown.Action → List Event → World → Type 0
LedOn d s lines w = RightOf s lines × Tied d (actions_behind s lines) w

none-marked : (b : Bool) (t : Task) → t.frames ≡ [] → marked (natures (unwrap_or (cond b (Some t) None) nobody).frames) ≡ []
none-marked true t e = ap (λ fs. marked (natures fs)) e
none-marked false t e = refl

pub no-less : (n : ℕ) → n ≤ n
no-less n = omega arith

-- at first nobody has a mark
blank-tied : (p : Image) (script : List (ℤ × Item)) → (let w = blank_world p script in Tied w.drawn.tasks [] w)
blank-tied p script = let w = blank_world p script in (no-less w.drawn.tasks, by_name)
  where
    by_name : (n : Who) → (let w = blank_world p script in InLines w.drawn.tasks [] n (one_of w.tasks w.agent n))
    by_name (who.Task n) =
        let none = none-marked (is_who (who.Task n) (environment_task p)) (environment_task p) refl in
        (subst (λ os. Starts os []) (sym none) tt, λ below there. sym none)
    by_name who.Agent = (tt, λ below there. refl)

pub opening-led : (p : Image) (script : List (ℤ × Item)) → let o = opening p script in LedOn (blank_world p script).drawn.tasks [] o.1 o.0
unfolding Leads
opening-led p script =
    effect-leads last_moves.fine p (opens p) (opens-keeps last_moves p) (blank_world p script) tt (blank_world p script).drawn.tasks [] (blank-tied p script)

pub instant-led : (p : Image) (d : ℕ) (s : List shown.Action) (w : World) → IsRunnerFree w → Tied d s w → let i = instant p w in LedOn d s i.1 i.0
instant-led p d s w free h =
    instant-from last_moves stays_held acts_free p (record { puts = λ name number pieces text v x good is e c q g. (q, refl, g) }) w tt
    (λ name ran over. runner-free w free name ran over) d s h

pub tock-led : (p : Image) (d : ℕ) (s : List shown.Action) (w : World) → Tied d s w → let t = tock p w in LedOn d s t.1 t.0
unfolding Leads
tock-led p d s w h =
    let k = before_tick-leads last_moves last_tocks p (choose w) w tt d s h in
    subst (λ (t : World × List Event). LedOn d s t.1 t.0) (sym (tock-parts p w)) k

-- ---- line by line

module _ (p : Image) (script : List (ℤ × Item)) (bound : ℕ) where
  run_from-last : (fuel : ℕ) (d : ℕ) (w : World) (s : List shown.Action) → Comes p script bound w → Tied d s w
      → follows_lines actions_after is_last_exit s (run_from fuel p bound w).lines ≡ true
  unfolding turn
  run_from-last zero d w s comes h = follows-alone actions_after is_last_exit w.time s (written.End why.Bound ∷ []) (refl, tt)
  run_from-last (suc fuel) d w s comes h =
      let i = instant p w in
      let t = tock p i.0 in
      let behind = instant-led p d s w (runners-free p script bound w comes) h in
      let later = tock-led p d (actions_behind s i.1) i.0 behind.1 in
      turn-follows actions_after is_last_exit w.time s i t (run_from fuel p bound t.0) (stop p bound i.0) (λ seen other. refl) behind.0 later.0
      (λ e. run_from-last fuel d t.0 (actions_behind (actions_behind s i.1) t.1) (ticked w comes e) later.1)

  run-last : follows_lines actions_after is_last_exit [] (run_of p script bound) ≡ true
  run-last =
      let o = opening p script in
      let first = opening-led p script in
      follows-then actions_after is_last_exit 0 [] o.1 (run_from (suc bound) p bound o.0).lines first.0
      (run_from-last (suc bound) (blank_world p script).drawn.tasks o.0 (actions_behind [] o.1) opened first.1)

pub runs_exit_last : RunsExitLast
runs_exit_last p script bound = lines_hold actions_after is_last_exit [] (run_of p script bound) (run-last p script bound)
