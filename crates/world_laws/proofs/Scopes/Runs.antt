-- Every world that a run reaches is good: the opening is, an instant leads from good to good, as whose action has ended is ready, and
-- a tock does.
use Rattle.std.proofs.Common.{◌≡◌, ℕ, ℤ, ◌+◌, ◌≤◌, Bool, true, false, cond, eqb, List, [], ◌∷◌, ◌++◌, Option, Some, None, refl, sym, subst, arith, unwrap_or}
use Rattle.std.proofs.lemmas.Bool.{false≢true}
use Rattle.trace_text.specs.declared.events.Created.TheVariants as created
use Rattle.trace_text.specs.declared.events.Event.{Event}
use Rattle.trace_text.specs.declared.events.Who.{Who}
use Rattle.trace_text.specs.declared.events.Who.TheVariants as who
use Rattle.profile_image.specs.declared.image.Image.{Image}
use Rattle.profile_image.specs.declared.script_items.Item.{Item}
use Rattle.profile_machine.specs.declared.world.World.{World}
use Rattle.profile_machine.specs.declared.world.lines.Line.TheVariants as said_line
use Rattle.profile_machine.specs.declared.world.lines.Part.TheVariants.{Own}
use Rattle.profile_machine.specs.declared.world.marks.Purpose.TheVariants as opened_for
use Rattle.profile_machine.specs.declared.world.tasks.State.{State}
use Rattle.profile_machine.specs.declared.world.tasks.State.TheVariants.{Made, Runnable, Blocked}
use Rattle.profile_machine.specs.declared.world.tasks.Task.{Task}
use Rattle.profile_machine.specs.Steps.{Move, rests, settles}
use Rattle.profile_machine.specs.Tasks.{is_made, is_made_state, is_runnable, is_runnable_state, is_who, nobody, task_of}
use Rattle.profile_machine.specs.Dispatching.{choose}
use Rattle.profile_machine.specs.Scopes.{open_scope, plainly}
use Rattle.profile_machine.specs.Instant.{effect, effect_of_runner, finish_action, instant, is_over}
use Rattle.profile_machine.specs.Run.{agent_at_first, blank_world, environment, environment_task, next_tick, opening, opens, tock, with_serving}
use Rattle.machine_laws.specs.Reached.{Comes, opened, ticked, Reached, before, behind}
use Rattle.ceiling_laws.specs.RunLaws.{Tells, told_first, told_on}
use Rattle.ceiling_laws.proofs.Places.StandingRuns.{runs_show_who_is_ready}
use Rattle.world_laws.proofs.Scopes.TaskMarks.{bottomed, marks_of}
use Rattle.world_laws.proofs.Scopes.Likeness.{named}
use Rattle.world_laws.proofs.Scopes.QuietMoves.{same-lists}
use Rattle.world_laws.proofs.Scopes.GoodWorlds.{GoodWorld, IsNew, fresh-number, nobody_free, same-good}
use Rattle.world_laws.proofs.Scopes.ScopeSteps.{There, opens-good}
use Rattle.world_laws.proofs.Scopes.Lifting.{StepOf, MoveOf}
use Rattle.machine_laws.proofs.Moves.{lines_of}
use Rattle.world_laws.proofs.Scopes.Effects.{ToGood, effect-from, goodly}
use Rattle.world_laws.proofs.Scopes.Kept.Dispatching.{to_tail-keeps}
use Rattle.world_laws.proofs.Scopes.Kept.Frames.{open_sequence-keeps}
use Rattle.world_laws.proofs.Scopes.Kept.Instant.{behind_action-leads}
use Rattle.world_laws.proofs.Scopes.Kept.Run.{before_tick-leads}
use Rattle.line_laws.proofs.Exits.TaskEdits.{one_of}
use Rattle.line_laws.proofs.Exits.OpenCounts.{bit}
use Rattle.machine_laws.proofs.Kept.Run.{before_tick, tock-parts}
use Rattle.world_laws.proofs.Scopes.FineMoves.{chains, says-keeps}
use Rattle.machine_laws.proofs.Kept.Combinators.{From, Leads, changes_then-from, keeps-from, settles-from, then-keeps}

-- ---- the opening

environment-found : (P : Task → Type 0) (b : Bool) (t : Task) → P t → P nobody → P (unwrap_or (cond b (Some t) None) nobody)
environment-found P true t own blank = own
environment-found P false t own blank = blank

blank-one : (P : Task → Type 0) (p : Image) (n : Who) → P (environment_task p) → P (agent_at_first p) → P nobody
    → P (one_of (environment_task p ∷ []) (agent_at_first p) n)
blank-one P p (who.Task k) own agent blank = environment-found P (is_who (who.Task k) (environment_task p)) (environment_task p) own blank
blank-one P p who.Agent own agent blank = agent

one-bit : (b : Bool) → bit b + 0 ≤ 1
one-bit true = omega arith
one-bit false = omega arith

no-bit : (b : Bool) → b ≡ false → bit b + 0 ≡ 0
no-bit true e = absurd (false≢true (sym e))
no-bit false e = omega arith

new-unnamed : (p : Image) (n : Who) → IsNew 1 n → named n (environment_task p ∷ []) ≡ 0
new-unnamed p (who.Task k) new = no-bit (eqb k.0 0) (fresh-number k.0 0 new)
new-unnamed p who.Agent new = omega arith

blank-good : (p : Image) (script : List (ℤ × Item)) → GoodWorld (blank_world p script)
blank-good p script = record {
  once = λ k. omega arith;
  fresh = λ k high. refl;
  falls = tt;
  single = λ n. one-bit (is_who n (environment_task p));
  unnamed = new-unnamed p;
  balance = λ by. refl;
  made = λ n known. blank-one (λ t. is_made t ≡ true → marks_of t ≡ []) p n (λ made. refl) (λ made. refl) (λ made. refl);
  bottom = λ n. blank-one (λ t. bottomed (marks_of t) ≡ true) p n refl refl refl;
  agent_named = refl;
  agent_live = refl;
}

environment-there : (p : Image) (script : List (ℤ × Item)) → There environment (blank_world p script)
environment-there p script = record { task = environment_task p; found = refl }

opens-from : (p : Image) (script : List (ℤ × Item)) → From (StepOf ToGood) (blank_world p script) (opens p)
unfolding opens environment-there
opens-from p script =
    let w = blank_world p script in
    let z = open_scope p environment p.environment (plainly None) opened_for.Task w in
    let out =
    opens-good nobody_free p environment p.environment (plainly None) opened_for.Task w (environment-there p script) (blank-good p script) (λ own. refl)
    (λ known. refl) in
    changes_then-from (chains goodly) (open_scope p environment p.environment (plainly None) opened_for.Task) _ w out
    (keeps-from (chains goodly) _ z out
    (then-keeps (chains goodly) _ _ (says-keeps goodly Own (said_line.New (created.Task (record { 0 = 0 })) None p.main.priority))
    (then-keeps (chains goodly) _ _ (to_tail-keeps goodly p Own environment tt) (open_sequence-keeps goodly p Own environment tt))))

opening-good : (p : Image) (script : List (ℤ × Item)) → GoodWorld (opening p script).0
opening-good p script =
    settles-from (MoveOf ToGood) p (λ a b xs k. goodly.settles a b xs (lines_of p xs) k) (opens p) (blank_world p script) (opens-from p script)

-- ---- an instant

runnable-live : (state : State) → is_runnable_state state ≡ true → is_made_state state ≡ false
runnable-live Made e = absurd (false≢true e)
runnable-live Runnable e = refl
runnable-live (Blocked waiting) e = absurd (false≢true e)

-- whose action has ended is ready
abbrev RunnerIsReady : World → Type 0
RunnerIsReady w = (name : Who) → w.ran ≡ Some name → is_over (task_of w name).ticks_left ≡ true → is_runnable (task_of w name) ≡ true

over-good : (p : Image) (name : Who) (w : World) (over : Bool) → (over ≡ true → is_runnable (task_of w name) ≡ true) → GoodWorld w
    → GoodWorld ((elim over as (λ _. Move) [ true ↦ settles p (effect p name) | false ↦ rests ]) w).0
over-good p name w true ready g =
    settles-from (MoveOf ToGood) p (λ a b xs k. goodly.settles a b xs (lines_of p xs) k) (effect p name) w
    (effect-from p name w (g, runnable-live (task_of w name).state (ready refl)))
over-good p name w false ready g = g

runner-good : (p : Image) (by : Option Who) (w : World)
    → ((name : Who) → by ≡ Some name → is_over (task_of w name).ticks_left ≡ true → is_runnable (task_of w name) ≡ true) → GoodWorld w
    → GoodWorld (effect_of_runner p by w).0
runner-good p None w ready g = g
runner-good p (Some name) w ready g = over-good p name w (is_over (task_of w name).ticks_left) (ready name refl) g

instant-good : (p : Image) (w : World) → RunnerIsReady w → GoodWorld w → GoodWorld (instant p w).0
unfolding Leads
instant-good p w ready g = behind_action-leads goodly p (finish_action p w).0 (runner-good p w.ran w ready g)

-- ---- a tock

tock-good : (p : Image) (w : World) → GoodWorld w → GoodWorld (tock p w).0
unfolding Leads
tock-good p w g =
    let b : GoodWorld (before_tick p (choose w) w).0 =
    before_tick-leads goodly (λ event v h. h)
    (λ r rest v h. same-good nobody_free v (with_serving r rest v) (same-lists v (with_serving r rest v) refl refl refl refl refl) h) p (choose w) w g in
    let x = (before_tick p (choose w) w).0 in
    subst (λ (a : World × List Event). GoodWorld a.0) (sym (tock-parts p w))
    (same-good nobody_free x (next_tick (choose w) x) (same-lists x (next_tick (choose w) x) refl refl refl refl refl) b)

-- ---- a run

-- the lines up to a world before an instant
pub told-lines : (p : Image) (script : List (ℤ × Item)) (bound : ℕ) (w : World) → Comes p script bound w → (lines : List Event) × Tells p script bound lines w
told-lines p script bound _ opened = ((opening p script).1, told_first)
told-lines p script bound _ (ticked w c e) =
    let t = told-lines p script bound w c in ((t.0 ++ (instant p w).1) ++ (tock p (instant p w).0).1, told_on t.0 w t.1 e)

runner-ready : (p : Image) (script : List (ℤ × Item)) (bound : ℕ) (w : World) → Comes p script bound w → RunnerIsReady w
runner-ready p script bound w c = let t = told-lines p script bound w c in let r = runs_show_who_is_ready p script bound t.0 w t.1 in r.1

comes-good : (p : Image) (script : List (ℤ × Item)) (bound : ℕ) (w : World) → Comes p script bound w → GoodWorld w
comes-good p script bound _ opened = opening-good p script
comes-good p script bound _ (ticked w c e) = tock-good p (instant p w).0 (instant-good p w (runner-ready p script bound w c) (comes-good p script bound w c))

pub reached-good : (p : Image) (script : List (ℤ × Item)) (bound : ℕ) (w : World) → Reached p script bound w → GoodWorld w
reached-good p script bound _ (before w c) = comes-good p script bound w c
reached-good p script bound _ (behind w c) = instant-good p w (runner-ready p script bound w c) (comes-good p script bound w c)
