-- A release that comes spares the agent: where it was blocked it becomes ready, and its marks and what it serves stay.
use Rattle.std.proofs.Common.{◌≡◌, ℕ, suc, Bool, true, false, not, ◌||◌, List, [], ◌∷◌, ◌++◌, Option, is_some, refl, sym, ap, subst, ◌∙◌}
use Rattle.trace_text.specs.declared.events.QueueEnd.TheVariants.{Tail}
use Rattle.trace_text.specs.declared.events.Who.TheVariants as who
use Rattle.profile_image.specs.declared.image.Image.{Image}
use Rattle.profile_machine.specs.declared.world.World.{World}
use Rattle.profile_machine.specs.declared.world.appointments.HandlerOf.{HandlerOf}
use Rattle.profile_machine.specs.declared.world.appointments.Release.{Release}
use Rattle.profile_machine.specs.declared.world.tasks.State.{State}
use Rattle.profile_machine.specs.declared.world.tasks.State.TheVariants.{Made, Runnable, Blocked}
use Rattle.profile_machine.specs.declared.world.lines.Line.TheVariants as said
use Rattle.profile_machine.specs.declared.world.lines.Part.TheVariants.{Own}
use Rattle.profile_machine.specs.declared.world.lines.Said.{Said}
use Rattle.ann_base.specs.Lists.{is_empty}
use Rattle.profile_image.specs.Program.{edf_low}
use Rattle.profile_machine.specs.Steps.{changes, looks, ◌▷◌}
use Rattle.profile_machine.specs.Tasks.{edit_task, with_state, is_runnable_state}
use Rattle.profile_machine.specs.Dispatching.{level_kept_by, keep_level, grant_quantum, says_ready, to_tail, ready}
use Rattle.profile_machine.specs.Handlers.{add_release, says_release, wake_agent, release}
use Rattle.machine_laws.proofs.FineMoves.{natures, ready_line}
use Rattle.machine_laws.proofs.Kept.Combinators.{Keeps, Kept, From, Alters}
use Rattle.machine_laws.proofs.Kept.Dispatching.{grant_quantum-alters}
use Rattle.machine_laws.proofs.Kept.Handlers.{Releasing}
use Rattle.line_laws.proofs.Handlers.AgentLines.{are_calls, NoneBlocks}
use Rattle.line_laws.proofs.Handlers.AgentWorlds.{Colour, Attends, Apart}
use Rattle.line_laws.proofs.Handlers.SparedMoves.{agent_runs, Attends_all, Spared, spares}
use Rattle.line_laws.proofs.Handlers.Mixed.{then_by, looks_by, nothing_by}

release_line : World → HandlerOf → Said
release_line w h = record { part = Own; line = said.Release (suc w.drawn.releases) h }

-- the release is drawn, and told
Came : HandlerOf → Option ℕ → World → List Said → World → Type 0
Came h argument before lines after = (lines ≡ release_line before h ∷ []) × (after ≡ add_release h argument before)

came-from : (h : HandlerOf) (argument : Option ℕ) (w : World) → From (Came h argument) w (changes (add_release h argument) ▷ says_release Own h)
unfolding From Kept says_release Came release_line
came-from h argument w before = (release_line w h ∷ [], refl, (refl, refl))

-- the agent is ready behind it
record Wakes (colour : Colour) (before : World) (lines : List Said) (after : World) : Type 0 where
  pub apart : Apart colour after
  pub marks_same : natures after.agent.frames ≡ natures before.agent.frames
  pub serving_same : after.serving ≡ before.serving
  pub calm : NoneBlocks lines
  pub runs : agent_runs after ≡ true
  pub called : (agent_runs before || are_calls lines) ≡ true
  pub attends : Attends_all after

-- there is something for it
abbrev IsAwaited : World → Type 0
IsAwaited w = (is_some w.serving || not (is_empty w.releases)) ≡ true

or_true : (b : Bool) → (b || true) ≡ true
or_true true = refl
or_true false = refl

not_empty : (rs : List Release) (r : Release) → is_empty (rs ++ r ∷ []) ≡ false
not_empty [] r = refl
not_empty (x ∷ xs) r = refl

woken : (colour : Colour) (p : Image) (w : World) → Apart colour w → IsAwaited w →
    let made = edit_task who.Agent (with_state Runnable) w in
    let after = grant_quantum p who.Agent (keep_level p who.Agent made) in Wakes colour w (ready_line p Own who.Agent Tail after ∷ []) after
unfolding Alters
woken colour p w good awaited =
    let made = edit_task who.Agent (with_state Runnable) w in
    let level = keep_level p who.Agent made in
    let after = grant_quantum p who.Agent level in
    let fresh : Apart colour made = record { tasks = good.tasks; marks = good.marks; attends = tt; drawn = good.drawn; none = good.none } in
    let first : Spared colour true made [] level =
    (spares colour true).edits_task who.Agent (λ t. record t { kept_level = level_kept_by p made t (edf_low p t.base) }) made fresh (λ t. refl) (λ t. refl)
    (λ t. refl) (λ t. refl) (λ t. refl) in
    let second : Spared colour true level [] after = grant_quantum-alters (spares colour true) p who.Agent level first.apart in
    record {
      apart = second.apart;
      marks_same = second.marks_same ∙ first.marks_same;
      serving_same = second.serving_same ∙ first.serving_same;
      calm = (refl, tt);
      runs = second.called ∙ ap (λ q. q || false) first.called;
      called = or_true (agent_runs w);
      attends = second.attends (first.attends (sym awaited));
    }

wakes-from : (colour : Colour) (p : Image) (w : World) → Apart colour w → IsAwaited w → From (Wakes colour) w (ready p Own who.Agent)
unfolding From Kept ready to_tail says_ready
wakes-from colour p w good awaited before =
    let after = grant_quantum p who.Agent (keep_level p who.Agent (edit_task who.Agent (with_state Runnable) w)) in
    (ready_line p Own who.Agent Tail after ∷ [], refl, woken colour p w good awaited)

by_state-from : (colour : Colour) (p : Image) (w : World) (state : State) → w.agent.state ≡ state → Apart colour w → IsAwaited w
    → From (Wakes colour) w (wake_agent p Own state)
unfolding wake_agent
by_state-from colour p w (Blocked waiting) e good awaited = wakes-from colour p w good awaited
by_state-from colour p w Runnable e good awaited =
    let runs : agent_runs w ≡ true = ap is_runnable_state e in
    nothing_by (Wakes colour) w
    (record {
      apart = good;
      marks_same = refl;
      serving_same = refl;
      calm = tt;
      runs = runs;
      called = ap (λ q. q || false) runs;
      attends = runs ∙ sym awaited;
    })
by_state-from colour p w Made e good awaited = elim (subst Attends e good.attends) [ ]

awaited_behind : (h : HandlerOf) (argument : Option ℕ) (w : World) → IsAwaited (add_release h argument w)
awaited_behind h argument w =
    ap (λ q. is_some w.serving || not q) (not_empty w.releases (record { number = suc w.drawn.releases; handler = h; argument = argument }))
    ∙ or_true (is_some w.serving)

apart_behind : (colour : Colour) (h : HandlerOf) (argument : Option ℕ) (w : World) → Apart colour w → Apart colour (add_release h argument w)
apart_behind colour h argument w a = record { tasks = a.tasks; marks = a.marks; attends = a.attends; drawn = a.drawn; none = a.none }

joined : (colour : Colour) (h : HandlerOf) (argument : Option ℕ) (w v u : World) (xs zs : List Said) → Came h argument w xs v → Wakes colour v zs u
    → Spared colour true w (xs ++ zs) u
unfolding Came release_line
joined colour h argument w v u xs zs came k =
    let wakes : Wakes colour (add_release h argument w) zs u = subst (λ q. Wakes colour q zs u) came.1 k in
    let line : Said = record { part = Own; line = said.Release (suc w.drawn.releases) h } in
    let whole : Spared colour true w (line ∷ zs) u = record {
      apart = wakes.apart;
      marks_same = wakes.marks_same;
      serving_same = wakes.serving_same;
      calm = (refl, wakes.calm);
      called = wakes.runs ∙ sym wakes.called;
      attends = λ h. wakes.attends;
      quiet = λ e. cc;
    } in
    subst (λ q. Spared colour true w (q ++ zs) u) (sym came.0) whole

pub release-from : (colour : Colour) (p : Image) (h : HandlerOf) (argument : Option ℕ) (w : World) → Apart colour w
    → From (Spared colour true) w (release p Own h argument)
unfolding release Came
release-from colour p h argument w good =
    then_by (Came h argument) (Wakes colour) (Spared colour true) (changes (add_release h argument) ▷ says_release Own h)
    (looks (λ v. wake_agent p Own v.agent.state)) w
    (λ v u xs zs came k. joined colour h argument w v u xs zs came k)
    (came-from h argument w)
    (λ v xs came. looks_by (Wakes colour) (λ u. wake_agent p Own u.agent.state) v (by_state-from colour p v v.agent.state refl
    (subst (Apart colour) (sym came.1) (apart_behind colour h argument w good)) (subst IsAwaited (sym came.1) (awaited_behind h argument w))))

pub spared_releasing : (colour : Colour) → Releasing (Apart colour) (Spared colour true)
unfolding Keeps From
spared_releasing colour = record { releases = λ p h argument w good. release-from colour p h argument w good }
