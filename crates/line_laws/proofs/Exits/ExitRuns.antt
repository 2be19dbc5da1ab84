-- Runs in which nobody acts that waits for an entry call: each `exit` line closes an action that is open.
use Rattle.std.proofs.Common.{◌≡◌, ℕ, ℤ, zero, suc, Bool, true, false, ◌+◌, ◌≤◌, cond, List, [], ◌∷◌, ◌++◌, Option, Some, None, refl, sym, ap, subst, arith}
use Rattle.std.specs.Prelude.{IsTrue, unwrap_or}
use Rattle.std.proofs.lemmas.Bool.{and_from}
use Rattle.trace_text.specs.declared.events.Action as shown
use Rattle.trace_text.specs.declared.events.Event.{Event}
use Rattle.trace_text.specs.declared.events.Event.TheVariants as written
use Rattle.trace_text.specs.declared.events.Ended.{Ended}
use Rattle.trace_text.specs.declared.events.Ended.TheVariants as why
use Rattle.trace_text.specs.declared.events.Who.TheVariants as who
use Rattle.profile_machine.specs.declared.world.tasks.Task.{Task}
use Rattle.profile_machine.specs.Tasks.{nobody, is_who}
use Rattle.machine_laws.proofs.FinestMoves.{natures, effect-leads}
use Rattle.line_laws.proofs.Exits.OpenCounts.{count}
use Rattle.trace_text.specs.Queue.{TraceLine, follows_lines}
use Rattle.trace_text.specs.Laws.{actions_after, is_exclusive, ExclusiveOk}
use Rattle.trace_text.proofs.LawsFollowed.{lines_hold}
use Rattle.profile_image.specs.declared.image.Image.{Image}
use Rattle.profile_image.specs.declared.script_items.Item.{Item}
use Rattle.profile_machine.specs.declared.world.World.{World}
use Rattle.profile_machine.specs.Dispatching.{choose}
use Rattle.profile_machine.specs.Instant.{instant}
use Rattle.profile_machine.specs.Run.{Ran, environment_task, opens, opening, blank_world, tock, stop, at_tick, stopped, then_runs, run_from, run_of}
use Rattle.machine_laws.specs.Reached.{Comes, opened, ticked}
use Rattle.line_laws.proofs.Ticks.LineByLine.{Follow-append, seen_behind-append}
use Rattle.line_laws.specs.ExclusionLaws.{enters_rightly}
use Rattle.line_laws.proofs.Exclusion.ExclusionLemmas.{runs_exclude}
use Rattle.line_laws.specs.ExitLaws.{IsRunnerFree, RunnersAreFree, exits_rightly}
use Rattle.machine_laws.proofs.Kept.Instant.{instant-from}
use Rattle.machine_laws.proofs.Kept.Run.{tock-parts, before_tick-leads, opens-keeps}
use Rattle.line_laws.proofs.Exits.FreeActs.{stays_held, acts_free, runner-free}
use Rattle.line_laws.proofs.Exits.ExitTies.{Tied, RightOf, actions_behind, no_credit}
use Rattle.line_laws.proofs.Exits.ExitMoves.{telling, tock_moves}
use Rattle.machine_laws.proofs.Kept.Combinators.{Leads}

-- what lines lead to: each is right, and they are tied to the world behind
abbrev LedOn : List shown.Action → List Event → World → Type 0
LedOn s lines w = RightOf s lines × Tied (actions_behind s lines) no_credit w

none-open : (o : ℕ) (b : Bool) (t : Task) → t.frames ≡ [] → count o (natures (unwrap_or (cond b (Some t) None) nobody).frames) + 0 ≤ 0
none-open o true t e = let none = ap (λ fs. count o (natures fs)) e in let zero_open : count o (natures t.frames) ≡ 0 = none in omega (arith, zero_open)
none-open o false t e = omega arith

-- at first nobody has a mark
blank-tied : (p : Image) (script : List (ℤ × Item)) → Tied [] no_credit (blank_world p script)
blank-tied p script (who.Task n) o = none-open o (is_who (who.Task n) (environment_task p)) (environment_task p) refl
blank-tied p script who.Agent o = omega arith

opening-led : (p : Image) (script : List (ℤ × Item)) → let o = opening p script in LedOn [] o.1 o.0
unfolding Leads
opening-led p script = effect-leads telling.fine p (opens p) (opens-keeps telling p) (blank_world p script) tt no_credit [] (blank-tied p script)

instant-led : (p : Image) (s : List shown.Action) (w : World) → IsRunnerFree w → Tied s no_credit w → let i = instant p w in LedOn s i.1 i.0
instant-led p s w free h =
    instant-from telling stays_held acts_free p (record { puts = λ name number pieces text v x good is e c q g. (q, refl, g) }) w tt
    (λ name ran over. runner-free w free name ran over) no_credit s h

tock-led : (p : Image) (s : List shown.Action) (w : World) → Tied s no_credit w → let t = tock p w in LedOn s t.1 t.0
unfolding Leads
tock-led p s w h =
    let k = before_tick-leads telling tock_moves p (choose w) w tt no_credit s h in
    subst (λ (t : World × List Event). LedOn s t.1 t.0) (sym (tock-parts p w)) k

-- ---- line by line

follows-then : (n : ℕ) (s : List shown.Action) (events : List Event) (rest : List TraceLine) → RightOf s events
    → follows_lines actions_after exits_rightly (actions_behind s events) rest ≡ true
    → follows_lines actions_after exits_rightly s (at_tick n events ++ rest) ≡ true
follows-then n s [] rest a b = b
follows-then n s (x ∷ xs) rest a b =
    and_from (exits_rightly s x) (follows_lines actions_after exits_rightly (actions_after s x) (at_tick n xs ++ rest)) a.0
    (follows-then n (actions_after s x) xs rest a.1 b)

follows-alone : (n : ℕ) (s : List shown.Action) (events : List Event) → RightOf s events → follows_lines actions_after exits_rightly s (at_tick n events) ≡ true
follows-alone n s [] a = refl
follows-alone n s (x ∷ xs) a =
    and_from (exits_rightly s x) (follows_lines actions_after exits_rightly (actions_after s x) (at_tick n xs)) a.0 (follows-alone n (actions_after s x) xs a.1)

-- one instant, what follows it, and what is left of the run
abbrev turn : ℕ → World × List Event → World × List Event → Ran → Option Ended → Ran
turn now i t rest (Some reason) = stopped now i.1 reason
turn now i t rest None = then_runs now (i.1 ++ t.1) rest

turn-follows : (now : ℕ) (s : List shown.Action) (i t : World × List Event) (rest : Ran) (reason : Option Ended) → RightOf s i.1
    → RightOf (actions_behind s i.1) t.1
    → (reason ≡ None → follows_lines actions_after exits_rightly (actions_behind (actions_behind s i.1) t.1) rest.lines ≡ true)
    → follows_lines actions_after exits_rightly s (turn now i t rest reason).lines ≡ true
turn-follows now s i t rest (Some reason) a b k =
    follows-alone now s (i.1 ++ written.End reason ∷ []) (Follow-append actions_after exits_rightly s i.1 (written.End reason ∷ []) a (refl, tt))
turn-follows now s i t rest None a b k =
    follows-then now s (i.1 ++ t.1) rest.lines (Follow-append actions_after exits_rightly s i.1 t.1 a b)
    (subst (λ q. follows_lines actions_after exits_rightly q rest.lines ≡ true) (sym (seen_behind-append actions_after exits_rightly s i.1 t.1)) (k refl))

module _ (p : Image) (script : List (ℤ × Item)) (bound : ℕ) (free : RunnersAreFree p script bound) where
  run_from-follows : (fuel : ℕ) (w : World) (s : List shown.Action) → Comes p script bound w → Tied s no_credit w
      → follows_lines actions_after exits_rightly s (run_from fuel p bound w).lines ≡ true
  run_from-follows zero w s comes h = follows-alone w.time s (written.End why.Bound ∷ []) (refl, tt)
  run_from-follows (suc fuel) w s comes h =
      let i = instant p w in
      let t = tock p i.0 in
      let behind = instant-led p s w (free w comes) h in
      let later = tock-led p (actions_behind s i.1) i.0 behind.1 in
      turn-follows w.time s i t (run_from fuel p bound t.0) (stop p bound i.0) behind.0 later.0
      (λ e. run_from-follows fuel t.0 (actions_behind (actions_behind s i.1) t.1) (ticked w comes e) later.1)

  run-follows : follows_lines actions_after exits_rightly [] (run_of p script bound) ≡ true
  run-follows =
      let o = opening p script in
      let first = opening-led p script in
      follows-then 0 [] o.1 (run_from (suc bound) p bound o.0).lines first.0 (run_from-follows (suc bound) o.0 (actions_behind [] o.1) opened first.1)

-- ---- with what is known of `enter` and `held` lines

whole-right : (actions : List shown.Action) (event : Event) → IsTrue (enters_rightly actions event) → IsTrue (exits_rightly actions event)
    → IsTrue (is_exclusive actions event)
whole-right actions (written.Exit who object) enters exits = exits
whole-right actions _ enters exits = enters

pub free_runs_keep_exclusion : (p : Image) (script : List (ℤ × Item)) (bound : ℕ) → RunnersAreFree p script bound → ExclusiveOk (run_of p script bound)
free_runs_keep_exclusion p script bound free front x back e =
    whole-right _ x.1 (runs_exclude p script bound front x back e)
    (lines_hold actions_after exits_rightly [] (run_of p script bound) (run-follows p script bound free) front x back e)
