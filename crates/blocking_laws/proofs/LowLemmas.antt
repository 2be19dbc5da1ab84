-- In every run a task enters objects, and finds them held, whose ceilings are not below its base priority.
use Rattle.ann_base.specs.declared.identities.ObjectNo.{ObjectNo}
use Rattle.ann_base.specs.declared.identities.TaskNo.{TaskNo}
use Rattle.ceiling_laws.proofs.Ceilings.CeilingLemmas.{is_not_above, not_above, not_less, second_false}
use Rattle.ceiling_laws.proofs.Places.PartOrder.{by_test}
use Rattle.ceiling_laws.proofs.Runs.ActingMoves.{Admitting}
use Rattle.ceiling_laws.proofs.Runs.BaseLemmas.{bases_are_told}
use Rattle.ceiling_laws.proofs.Runs.CeilingLemmas.{ceilings_are_told}
use Rattle.ceiling_laws.proofs.Runs.CoreLemmas.{ceiling-found, ceiling_at, core-same, shown-at, shown-fewer, shown-same}
use Rattle.ceiling_laws.proofs.Runs.LevelMoves.{is_apart}
use Rattle.ceiling_laws.specs.Cores.{Core, Same, ceiling_in, core}
use Rattle.ceiling_laws.specs.RunLaws.{AreBasesShown, AreCeilingsShown, Tells, bases_told, ceilings_told}
use Rattle.line_laws.proofs.Ticks.LineByLine.{Follow, seen_behind}
use Rattle.machine_laws.specs.LineKinds.{is_of_tock}
use Rattle.profile_machine.specs.Appointments.{appoint}
use Rattle.profile_machine.specs.Dispatching.{active, active_of, kept_level_or_base, levels_inherited, own_level}
use Rattle.profile_machine.specs.Instant.{effect, is_over}
use Rattle.profile_machine.specs.Lines.{event_of}
use Rattle.profile_machine.specs.Protected.{entering_option, excludes, has_open, is_above_ceiling, is_action_of}
use Rattle.profile_machine.specs.Scopes.{goes_with}
use Rattle.profile_machine.specs.Steps.{settles}
use Rattle.profile_machine.specs.Tasks.{found_task, nobody, task_at, task_of}
use Rattle.profile_machine.specs.Values.{object_of}
use Rattle.profile_image.specs.Program.{edf_low_of, has_edf, has_edf_range, is_edf_policy, is_in_range, range_of}
use Rattle.profile_image.specs.Words.{greatest_of, without}
use Rattle.profile_image.specs.declared.image.DispatchingRange.{DispatchingRange}
use Rattle.profile_image.specs.declared.image.Image.{Image}
use Rattle.profile_image.specs.declared.script_items.Item.{Item}
use Rattle.profile_machine.specs.declared.world.World.{World}
use Rattle.profile_machine.specs.declared.world.appointments.Due.TheVariants as due_for
use Rattle.profile_machine.specs.declared.world.lines.Line.{Line}
use Rattle.profile_machine.specs.declared.world.lines.Line.TheVariants as line
use Rattle.profile_machine.specs.declared.world.objects.Object.{Object}
use Rattle.profile_machine.specs.declared.world.tasks.Task.{Task}
use Rattle.std.proofs.Common.{Bool, List, None, Option, Some, [], ap, arith, cond, false, le_trans}
use Rattle.std.proofs.Common.{ltb, map, max, refl, subst, sym, true, ◌&&◌, ◌||◌, ◌∙◌, ◌∷◌, ◌≡◌, ◌≤◌}
use Rattle.std.proofs.lemmas.Bool.{le-leb, or_parts}
use Rattle.std.proofs.Math.Nat.{le-max_right}
use Rattle.std.specs.Prelude.{not, ℕ, ℤ, unwrap_or}
use Rattle.trace_text.proofs.LawsFollowed.{lines_hold}
use Rattle.trace_text.specs.Laws.{Levels, level_of, no_levels, see_levels}
use Rattle.trace_text.specs.declared.events.Event.{Event}
use Rattle.trace_text.specs.declared.events.Event.TheVariants as written
use Rattle.trace_text.specs.declared.events.Mode.{Mode}
use Rattle.trace_text.specs.declared.events.Who.{Who}
use Rattle.trace_text.specs.declared.events.Who.TheVariants as who
use Rattle.profile_machine.specs.Run.{run_of}
use Rattle.blocking_laws.specs.LowLines.{RunsEnterLow, comes_low, enters_low}
use Rattle.blocking_laws.specs.MovingLaws.{is_within}
use Rattle.blocking_laws.proofs.EnterLaws.{OfEnters}
use Rattle.blocking_laws.proofs.EnterRuns.{OfActor, OfRun, effect-lawful, run_enters}
use Rattle.blocking_laws.proofs.EnterLemmas.{is_coming}

-- ---- without a range that is dispatched by deadlines the base priority is not above the active one

no_edf-step : (b edf others : Bool) (range : DispatchingRange) (rest : Option DispatchingRange) → is_edf_policy range.policy ≡ edf → (edf || others) ≡ false
    → (others ≡ false → edf_low_of rest ≡ None) → edf_low_of (cond b (Some range) rest) ≡ None
no_edf-step true true others range rest is e onward = absurd cc
no_edf-step true false others range rest is e onward = ap (λ t. cond t (Some range.first) None) is
no_edf-step false true others range rest is e onward = absurd cc
no_edf-step false false others range rest is e onward = onward e

no_edf : (level : ℕ) (ranges : List DispatchingRange) → has_edf_range ranges ≡ false → edf_low_of (range_of ranges level) ≡ None
no_edf level [] e = refl
no_edf level (range ∷ ranges) e =
    no_edf-step (is_in_range level range) (is_edf_policy range.policy) (has_edf_range ranges) range (range_of ranges level) refl e (λ k. no_edf level ranges k)

at_least : (xs : List ℕ) (n : ℕ) → n ≤ greatest_of xs n
at_least [] n = omega arith
at_least (x ∷ xs) n =
    let below : n ≤ greatest_of xs n = at_least xs n in
    let above : greatest_of xs n ≤ max x (greatest_of xs n) = le-max_right x (greatest_of xs n) in
    omega arith

base-active : (p : Image) (t : Task) → has_edf p ≡ false → t.base ≤ active p t
base-active p t none =
    let own : own_level p t ≡ t.base = ap (λ low. kept_level_or_base low t.kept_level t.base) (no_edf t.base p.policies.dispatching none) in
    let above : own_level p t ≤ active p t = at_least (levels_inherited t) (own_level p t) in
    omega (arith, own, above)

-- ---- who is let in

MayEnter : Image → Who → Admitting
MayEnter p name w o = (c : ℕ) × (ceiling_at o (map ceiling_in w.objects) ≡ Some c) × ((task_of w name).base ≤ c)

base-low : (p : Image) (w : World) (name : Who) (c : ℕ) → is_above_ceiling p w name c ≡ false → (task_of w name).base ≤ c
base-low p w name c e =
    let parts = or_parts (ltb c (active_of p w name)) (has_edf p && ltb c (task_of w name).base) e in
    by_test (has_edf p)
    (λ edf. not_less (task_of w name).base c (second_false (has_edf p) (ltb c (task_of w name).base) parts.1 edf))
    (λ none. le_trans (base-active p (task_of w name) none) (not_less (active_of p w name) c parts.0))

comes-may : (p : Image) (name : Who) (w : World) (o : ObjectNo) (mode : Mode) (found : Option Object) → object_of w o ≡ found
    → is_not_above (entering_option p w name found mode) ≡ true → MayEnter p name w o
unfolding MayEnter
comes-may p name w o mode None is e = absurd cc
comes-may p name w o mode (Some x) is e = (
  x.ceiling,
  ceiling-found o w.objects x is,
  base-low p w name x.ceiling
      (not_above (has_open name x.actions) (is_above_ceiling p w name x.ceiling) (excludes mode (without (is_action_of name) x.actions)) e),
)

may-on : (p : Image) (name : Who) (a b : World) (o : ObjectNo) → Same a b → MayEnter p name a o → MayEnter p name b o
unfolding MayEnter
may-on p name a b o same h = (
  h.0,
  ap (ceiling_at o) same.objects ∙ h.1,
  subst (λ n. n ≤ h.0) (sym (ap (λ (c : Core). c.base) (core-same a b name same))) h.2,
)

-- ---- what lines show of who acts and of the objects

Knows : World → Who → Levels → World → Type 0
Knows v name sight w = (core (task_of w name) ≡ core (task_of v name)) × AreCeilingsShown sight.ceilings w.objects

seen_plainly : (name : Who) (a b : World) → b.tasks ≡ a.tasks → b.agent ≡ a.agent → core (task_of b name) ≡ core (task_of a name)
seen_plainly (who.Task t) a b tasks agent = ap (λ ts. core (unwrap_or (found_task (who.Task t) ts) nobody)) tasks
seen_plainly who.Agent a b tasks agent = ap core agent

ShowsBase : Levels → World → Who → Type 0
ShowsBase sight v name = (t : TaskNo) → name ≡ who.Task t → level_of t.0 sight.bases ≡ Some (task_of v name).base

within : (base ceiling : ℕ) (shown other : Option ℕ) → shown ≡ Some base → other ≡ Some ceiling → base ≤ ceiling → is_within shown other ≡ true
within base ceiling shown other e f h = ap (λ s. is_within s other) e ∙ ap (is_within (Some base)) f ∙ le-leb base ceiling h

comes-right : (p : Image) (v w : World) (name : Who) (sight : Levels) (o : ObjectNo) → ShowsBase sight v name → Knows v name sight w
    → MayEnter p name w o → comes_low sight name o ≡ true
unfolding MayEnter Knows ShowsBase
comes-right p v w (who.Task t) sight o shown known may =
    within (task_of w (who.Task t)).base may.0 (level_of t.0 sight.bases) (level_of o.0 sight.ceilings)
    (shown t refl ∙ ap (λ (c : Core). Some c.base) (sym known.0)) (shown-at sight.ceilings o w.objects may.0 known.1 may.1) may.2
comes-right p v w who.Agent sight o shown known may = refl

low_actor : (p : Image) (v : World) (name : Who) (sight : Levels) → ShowsBase sight v name
    → OfActor see_levels enters_low p name sight (MayEnter p name) (Knows v name sight)
unfolding Knows
low_actor p v name sight shown = record {
  silently = λ a b same h. (core-same a b name same ∙ h.0, shown-same sight.ceilings a.objects b.objects same.objects h.1);
  ends_scope = λ id w h. (h.0, shown-fewer sight.ceilings (λ x. not (goes_with id x)) w.objects h.1);
  appoints = λ t moment w h. (seen_plainly name w (appoint (due_for.Delay t) moment w) refl refl ∙ h.0, h.1);
  may = λ w o mode e. comes-may p name w o mode (object_of w o) refl (ap is_not_above e);
  may_held = λ w o mode e. comes-may p name w o mode (object_of w o) refl (ap is_not_above e);
  may_on = may-on p name;
  right = λ w o mode known may. comes-right p v w name sight o shown known may;
  right_held = λ w o mode known may. comes-right p v w name sight o shown known may;
}

-- ---- lines

not_coming-right : (p : Image) (sight : Levels) (x : Line) → is_coming x ≡ false → enters_low sight (event_of p x) ≡ true
not_coming-right p sight (line.Enter name object mode) e = cc
not_coming-right p sight (line.Held name object mode) e = cc
not_coming-right p sight _ e = refl

quiet-sight : (p : Image) (sight : Levels) (x : Line) → is_apart x ≡ false → see_levels sight (event_of p x) ≡ sight
quiet-sight p sight (line.New what declared level) e = cc
quiet-sight p sight (line.Ready who level end deadline) e = cc
quiet-sight p sight (line.Block who waits) e = cc
quiet-sight p sight (line.Base task level) e = cc
quiet-sight p sight (line.Done task) e = cc
quiet-sight p sight (line.Enter who object mode) e = cc
quiet-sight p sight (line.Held who object mode) e = cc
quiet-sight p sight _ e = refl

low_enters : (p : Image) → OfEnters see_levels enters_low p
low_enters p = record { others = not_coming-right p; still = quiet-sight p }

tock-right : (sight : Levels) (event : Event) → is_of_tock event ≡ true → enters_low sight event ≡ true
tock-right sight (written.Enter name object mode) e = cc
tock-right sight (written.Held name object mode) e = cc
tock-right sight _ e = refl

-- ---- runs

seen-bases : (sight : Levels) (lines : List Event) → (seen_behind see_levels enters_low sight lines).bases ≡ bases_told sight.bases lines
seen-bases sight [] = refl
seen-bases sight (x ∷ xs) = seen-bases (see_levels sight x) xs

seen-ceilings : (sight : Levels) (lines : List Event) → (seen_behind see_levels enters_low sight lines).ceilings ≡ ceilings_told sight.ceilings lines
seen-ceilings sight [] = refl
seen-ceilings sight (x ∷ xs) = seen-ceilings (see_levels sight x) xs

task-there : (found : Option Task) → is_over (unwrap_or found nobody).ticks_left ≡ true → found ≡ Some (unwrap_or found nobody)
task-there None e = absurd cc
task-there (Some x) e = refl

base-shown : (sight : Levels) (w : World) (name : Who) → AreBasesShown sight.bases w → is_over (task_of w name).ticks_left ≡ true → ShowsBase sight w name
unfolding ShowsBase
base-shown sight w (who.Task n) shown over t is =
    subst (λ m. level_of t.0 sight.bases ≡ Some (task_of w m).base) (sym is)
    (shown t (task_of w (who.Task t)) (task-there (task_at w (who.Task t)) (subst (λ m. is_over (task_of w m).ticks_left ≡ true) is over)))
base-shown sight w who.Agent shown over t is = absurd cc

acts-low : (p : Image) (script : List (ℤ × Item)) (bound : ℕ) (lines : List Event) (w : World) → Tells p script bound lines w → (name : Who)
    → is_over (task_of w name).ticks_left ≡ true
    → Follow see_levels enters_low (seen_behind see_levels enters_low no_levels lines) (settles p (effect p name) w).1
unfolding Knows
acts-low p script bound lines w told name over =
    let sight = seen_behind see_levels enters_low no_levels lines in
    let bases = subst (λ b. AreBasesShown b w) (sym (seen-bases no_levels lines)) (bases_are_told p script bound lines w told).0 in
    let ceilings = subst (λ c. AreCeilingsShown c w.objects) (sym (seen-ceilings no_levels lines)) (ceilings_are_told p script bound lines w told).0 in
    effect-lawful see_levels enters_low (low_enters p) w name sight (MayEnter p name) (Knows w name sight)
    (low_actor p w name sight (base-shown sight w name bases over)) (refl, ceilings)

low_run : (p : Image) (script : List (ℤ × Item)) (bound : ℕ) → OfRun see_levels enters_low p script bound no_levels
low_run p script bound = record {
  law = low_enters p;
  acts = λ lines w told name ran over. acts-low p script bound lines w told name over;
  tocks = tock-right;
  ends = λ seen reason. refl;
}

pub runs_enter_low : RunsEnterLow
runs_enter_low p script bound = lines_hold see_levels enters_low no_levels (run_of p script bound) (run_enters see_levels enters_low (low_run p script bound))
