-- The opening world is good, and a tock leads from good worlds to good ones: so each world that a run reaches is good.
use Rattle.std.proofs.Common.{◌≡◌, ℕ, ℤ, ◌<◌, Bool, true, false, cond, eqb, List, [], ◌∷◌, Option, Some, None, refl, sym, subst, ap, ◌∙◌, arith, unwrap_or}
use Rattle.std.proofs.lemmas.Bool.{eqb-true, true≢false}
use Rattle.ann_base.specs.declared.identities.CallNo.{CallNo}
use Rattle.ann_base.specs.declared.identities.TaskNo.{TaskNo}
use Rattle.trace_text.specs.declared.events.Created.TheVariants as created
use Rattle.trace_text.specs.declared.events.Event.TheVariants as line
use Rattle.trace_text.specs.declared.events.Who.{Who}
use Rattle.trace_text.specs.declared.events.Who.TheVariants as who
use Rattle.profile_image.specs.declared.image.Image.{Image}
use Rattle.profile_image.specs.declared.script_items.Item.{Item}
use Rattle.profile_machine.specs.declared.world.World.{World}
use Rattle.profile_machine.specs.declared.world.appointments.Release.{Release}
use Rattle.profile_machine.specs.declared.world.calls.Call.{Call}
use Rattle.profile_machine.specs.declared.world.calls.Owner.{Owner}
use Rattle.profile_machine.specs.declared.world.calls.Owner.TheVariants as owned_by
use Rattle.profile_machine.specs.declared.world.lines.Line.TheVariants.{New}
use Rattle.profile_machine.specs.declared.world.lines.Part.TheVariants.{Own}
use Rattle.profile_machine.specs.declared.world.marks.Frame.{Frame}
use Rattle.profile_machine.specs.declared.world.marks.Purpose.TheVariants as opened_for
use Rattle.profile_machine.specs.declared.world.tasks.Task.{Task}
use Rattle.profile_image.specs.Words.{has, same_call, same_who, same_option}
use Rattle.profile_machine.specs.Steps.{rests, watches, ◌▶◌}
use Rattle.profile_machine.specs.Tasks.{nobody, task_of, edit_task, waiting_in, waiting_of, with_ticks}
use Rattle.profile_machine.specs.Dispatching.{choose}
use Rattle.profile_machine.specs.Scopes.{plainly}
use Rattle.profile_machine.specs.Values.{queue_at}
use Rattle.profile_machine.specs.Cost.{cost}
use Rattle.profile_machine.specs.Handlers.{charge}
use Rattle.profile_machine.specs.Instant.{instant}
use Rattle.profile_machine.specs.Run.{environment_task, agent_at_first, blank_world, environment, opens, opening, say, silently, says_run, with_serving}
use Rattle.profile_machine.specs.Run.{serve_if_free, serve, begin_action, one_tick_less, spend_tick, next_tick, says_idle, idle_tick, tock_of, tock}
use Rattle.machine_laws.specs.Reached.{Comes, opened, ticked, Reached, before, behind}
use Rattle.world_laws.proofs.Queues.Calming.{same-calm}
use Rattle.world_laws.proofs.Queues.Kept.Combinators.{Keeps, any-keeps, changes-keeps, says-calms, then-keeps}
use Rattle.world_laws.proofs.Queues.Kept.Frames.{edit_task-quiets, open_scope-alters, open_sequence-keeps, to_tail-calms}
use Rattle.world_laws.proofs.Queues.Kept.Handlers.{charge-calm}
use Rattle.world_laws.proofs.Queues.Kept.Instant.{Lasting, instant-lasting, settled-good, then-lasting}
use Rattle.world_laws.proofs.Queues.Standing.{Awake, Calm, Good, Nature, Stands, calm-good, ends_by, has_own, is_named}
use Rattle.world_laws.proofs.Queues.Standing.{natures, natures_of, quiet_kind, served, served_in, some_nature, waits_end}
use Rattle.machine_laws.proofs.Kept.Combinators.{world_behind}

-- ---- the blank world

blank-one : (P : Task → Type 0) (p : Image) (script : List (ℤ × Item)) (name : Who) → P (environment_task p) → P (agent_at_first p) → P nobody
    → P (task_of (blank_world p script) name)
blank-one P p script (who.Task n) a b c = step (eqb n.0 0) where
  step : (b : Bool) → P (unwrap_or (cond b (Some (environment_task p)) None) nobody)
  step true = a
  step false = c
blank-one P p script who.Agent a b c = b

no-natures : (p : Image) (script : List (ℤ × Item)) (name : Who) → natures_of (blank_world p script) name ≡ []
no-natures p script name = blank-one (λ t. natures t.frames ≡ []) p script name refl refl refl

none-stands : (p : Image) (script : List (ℤ × Item)) (o : Owner) (k : ℕ) (c : CallNo) → Stands (blank_world p script) o k c → ⊥
none-stands p script (owned_by.Task t) k c h =
    true≢false (sym h ∙ blank-one (λ u. has same_call (queue_at u.queues k) c ≡ false) p script (who.Task t) refl refl refl)
none-stands p script (owned_by.Object o) k c h = true≢false (sym h)

none-call : (d : Call) → None ≡ Some d → ⊥
none-call d e = cc

none-served : (p : Image) (script : List (ℤ × Item)) (c : CallNo) (a : Who) → served c (blank_world p script) a ≡ 0
none-served p script c a = ap (λ ns. served_in c ns) (no-natures p script a)

none-serves : (p : Image) (script : List (ℤ × Item)) (c : CallNo) (a : Who) → 0 < served c (blank_world p script) a → ⊥
none-serves p script c a h = let none : served c (blank_world p script) a ≡ 0 = none-served p script c a in omega (arith, h, none)

none-some : (p : Image) (script : List (ℤ × Item)) (test : Nature → Bool) (a : Who) → some_nature test (natures_of (blank_world p script) a) ≡ true → ⊥
none-some p script test a h = true≢false (sym (subst (λ ns. some_nature test ns ≡ true) (no-natures p script a) h))

none-waits : (p : Image) (script : List (ℤ × Item)) (a : Who) (c : CallNo) → waiting_of (blank_world p script) a ≡ waits_end c → ⊥
none-waits p script a c = blank-one (λ t. waiting_in t.state ≡ waits_end c → ⊥) p script a (not-none c) (not-release c) (not-none c) where
  not-none : (c : CallNo) → None ≡ waits_end c → ⊥
  not-none c e = cc

  not-release : (c : CallNo) → waiting_in (agent_at_first p).state ≡ waits_end c → ⊥
  not-release c e = cc

blank-good : (p : Image) (script : List (ℤ × Item)) → Good p (blank_world p script)
blank-good p script = record {
  known = λ c d e. absurd (none-call d e);
  within = λ o k c h. absurd (none-stands p script o k c h);
  there = λ o k c h. absurd (none-stands p script o k c h);
  right = λ o k c d h e. absurd (none-stands p script o k c h);
  agent = λ k c h. true≢false (sym h);
  serving = λ a c h. absurd (none-serves p script c a h);
  begun = λ a c d h e. absurd (none-serves p script c a h);
  once = λ a c. let none : served c (blank_world p script) a ≡ 0 = none-served p script c a in omega (arith, none);
  alone = λ a b c h i. absurd (none-serves p script c a h);
  timed = λ c h. absurd (true≢false (sym h));
  awaited = λ c h. absurd (true≢false (sym h));
  objects = (tt, (omega arith, omega arith));
  named = refl;
  present = λ t h. drawn t h (eqb t.0 0) refl;
  owns = λ a c h. absurd (none-some p script (has_own c) a h);
  ended = λ a c h. absurd (none-some p script (ends_by c) a h);
  triggers = λ t depth h. absurd (true≢false (sym h));
  waits = λ a c h. absurd (none-waits p script a c h);
  ends = λ a c d h e. absurd (none-waits p script a c h);
} where
  drawn : (t : TaskNo) → is_named (task_of (blank_world p script) (who.Task t)) ≡ true → (b : Bool) → eqb t.0 0 ≡ b → t.0 < 1
  drawn t h true e = let same : t.0 ≡ 0 = eqb-true t.0 0 e in omega (arith, same)
  drawn t h false e = absurd (true≢false (sym h ∙ ap (λ b. is_named (unwrap_or (cond b (Some (environment_task p)) None) nobody)) e))

awake-blank : (p : Image) (script : List (ℤ × Item)) (a : Who) → Awake a (blank_world p script)
unfolding Awake
awake-blank p script a c d waits e = none-waits p script a c waits

opens-keeps : (p : Image) → Keeps quiet_kind environment (opens p)
unfolding opens
opens-keeps p =
    then-keeps _ _ (changes-keeps _ (open_scope-alters p environment p.environment (plainly None) opened_for.Task))
    (then-keeps _ _ (any-keeps _ (says-calms Own (New (created.Task (record { 0 = 0 })) None p.main.priority)))
    (then-keeps _ _ (any-keeps _ (to_tail-calms p Own environment)) (open_sequence-keeps p Own environment)))

opening-good : (p : Image) (script : List (ℤ × Item)) → Good p (opening p script).0
opening-good p script = settled-good p (opens p (blank_world p script) [])
    (calm-good p (blank_world p script) (world_behind (opens p (blank_world p script) [])) (blank-good p script)
    (((opens-keeps p).from (blank_world p script) (awake-blank p script environment)).leads []))

-- ---- a tock

same-good : (p : Image) (w v : World) → Calm quiet_kind w v → Good p w → Good p v
same-good p w v calm good = calm-good p w v good calm

says_run-lasting : (p : Image) (name : Who) (ran : Option Who) → Lasting p (says_run name ran)
says_run-lasting p name ran w good = step (same_option same_who ran (Some name)) where
  step : (b : Bool) → Good p (cond b rests (say (line.Run name)) w).0
  step true = good
  step false = good

serving-good : (p : Image) (r : Release) (rest : List Release) (w : World) → Good p w → Good p (with_serving r rest w)
serving-good p r rest w good = same-good p w (with_serving r rest w) (same-calm w (with_serving r rest w) refl refl refl refl refl refl refl refl) good

serve_if_free-lasting : (p : Image) (serving : Option Release) (frames : List Frame) (releases : List Release)
    → Lasting p (serve_if_free serving frames releases)
serve_if_free-lasting p None [] [] w good = good
serve_if_free-lasting p None [] (r ∷ rest) w good = serving-good p r rest w good
serve_if_free-lasting p None (f ∷ fs) releases w good = good
serve_if_free-lasting p (Some r) frames releases w good = good

serve-lasting : (p : Image) (name : Who) → Lasting p (serve name)
serve-lasting p (who.Task t) w good = good
serve-lasting p who.Agent w good = serve_if_free-lasting p w.serving w.agent.frames w.releases w good

ticks-good : (p : Image) (name : Who) (f : Task → Option ℕ) (w : World) → Good p w → Good p (edit_task name (λ t. with_ticks (f t) t) w)
ticks-good p name f w good =
    same-good p w (edit_task name (λ t. with_ticks (f t) t) w)
    ((edit_task-quiets name (λ t. with_ticks (f t) t) (λ t. refl) (λ t. refl) (λ t. refl) (λ t. refl) (λ t. refl)).at w) good

next_tick-good : (p : Image) (ran : Option Who) (w : World) → Good p w → Good p (next_tick ran w)
next_tick-good p ran w good = same-good p w (next_tick ran w) (same-calm w (next_tick ran w) refl refl refl refl refl refl refl refl) good

idle_tick-lasting : (p : Image) → Lasting p idle_tick
idle_tick-lasting p w good = next_tick-good p None _ (by_ran w.ran) where
  by_ran : (ran : Option Who) → Good p (says_idle ran w).0
  by_ran None = good
  by_ran (Some name) = good

tock_of-lasting : (p : Image) (chosen : Option Who) → Lasting p (tock_of p chosen)
tock_of-lasting p None = idle_tick-lasting p
tock_of-lasting p (Some name) =
    then-lasting p (watches (λ w. says_run name w.ran))
    (serve name ▶ silently (begin_action p name) ▶ silently (charge p name) ▶ silently (spend_tick name) ▶ silently (next_tick (Some name)))
    (λ w good. says_run-lasting p name w.ran w good)
    (then-lasting p (serve name) (silently (begin_action p name) ▶ silently (charge p name) ▶ silently (spend_tick name) ▶ silently (next_tick (Some name)))
    (serve-lasting p name)
    (then-lasting p (silently (begin_action p name)) (silently (charge p name) ▶ silently (spend_tick name) ▶ silently (next_tick (Some name)))
    (λ w good. ticks-good p name (λ t. Some (unwrap_or (task_of w name).ticks_left (cost p w name))) w good)
    (then-lasting p (silently (charge p name)) (silently (spend_tick name) ▶ silently (next_tick (Some name)))
    (λ w good. same-good p w (charge p name w) (charge-calm p name w) good)
    (then-lasting p (silently (spend_tick name)) (silently (next_tick (Some name))) (λ w good. ticks-good p name (λ t. one_tick_less t.ticks_left) w good)
    (λ w good. next_tick-good p (Some name) w good)))))

tock-lasting : (p : Image) → Lasting p (tock p)
tock-lasting p w good = tock_of-lasting p (choose w) w good

-- ---- a run

comes-good : (p : Image) (script : List (ℤ × Item)) (bound : ℕ) (w : World) → Comes p script bound w → Good p w
comes-good p script bound _ opened = opening-good p script
comes-good p script bound _ (ticked w c e) = tock-lasting p (instant p w).0 (instant-lasting p w (comes-good p script bound w c))

pub reached-good : (p : Image) (script : List (ℤ × Item)) (bound : ℕ) (w : World) → Reached p script bound w → Good p w
reached-good p script bound _ (before w c) = comes-good p script bound w c
reached-good p script bound _ (behind w c) = instant-lasting p w (comes-good p script bound w c)
