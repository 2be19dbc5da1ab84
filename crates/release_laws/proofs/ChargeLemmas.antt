-- A tock charges the task that runs, and nobody else.
use Rattle.std.proofs.Common.{◌≡◌, ℕ, suc, Bool, true, false, cond, ◌&&◌, eqb, List, [], ◌∷◌, Option, Some}
use Rattle.std.proofs.Common.{None, is_some, option_map, refl, sym, ap, subst, ◌∙◌, arith, unwrap_or}
use Rattle.std.proofs.lemmas.Bool.{eqb-true}
use Rattle.ann_base.specs.declared.identities.TaskNo.{TaskNo}
use Rattle.trace_text.specs.declared.events.Event.{Event}
use Rattle.trace_text.specs.declared.events.Who.{Who}
use Rattle.trace_text.specs.declared.events.Who.TheVariants as who
use Rattle.profile_image.specs.declared.image.Image.{Image}
use Rattle.profile_machine.specs.declared.world.World.{World}
use Rattle.profile_machine.specs.declared.world.tasks.Task.{Task}
use Rattle.profile_image.specs.Words.{same_who, same_task, same_option, is_the, set_where}
use Rattle.profile_machine.specs.Tasks.{nobody, is_who, found_task, task_at, task_of, edit_task_found, with_ticks}
use Rattle.profile_image.specs.Program.{is_robin_level}
use Rattle.profile_machine.specs.Dispatching.{choose}
use Rattle.profile_machine.specs.Cost.{cost}
use Rattle.profile_machine.specs.Handlers.{clock_risen, quantum_spent_by, charge_budget, charge_task, charge}
use Rattle.profile_machine.specs.Run.{says_run, serve, begin_action, one_tick_less, spend_tick}
use Rattle.machine_laws.proofs.Kept.Run.{before_tick, tock-parts}
use Rattle.release_laws.specs.ChargeLaws.{is_there, runs, group_of, charged_of, Charges, TocksCharge}
use Rattle.release_laws.proofs.ClockLemmas.{shown, clock_in}
use Rattle.release_laws.proofs.Untouched.{Sight, sight_of}
use Rattle.release_laws.proofs.Effects.{edited-alike}
use Rattle.release_laws.proofs.TickSteps.{other-clock}
use Rattle.release_laws.proofs.Tocks.{risen, clocked, paid, paid-sight, same_budgets, run-alike, serve-alike, idle-same, spent-who, spent-clock}
use Rattle.release_laws.proofs.TimerSteps.{or_that}

-- ---- what is seen of each task, where one is edited and this is not

seen-alike : {Y : Type 0} (see : Task → Y) (b : Bool) (x z : Task) (rest : Option Task) → see x ≡ see z
    → option_map see (cond b (Some x) rest) ≡ option_map see (cond b (Some z) rest)
seen-alike see true x z rest e = ap Some e
seen-alike see false x z rest e = refl

seen-rest : {Y : Type 0} (see : Task → Y) (b : Bool) (z : Task) (r s : Option Task) → option_map see r ≡ option_map see s
    → option_map see (cond b (Some z) r) ≡ option_map see (cond b (Some z) s)
seen-rest see true z r s e = refl
seen-rest see false z r s e = e

module _ {Y : Type 0} (see : Task → Y) (name : Who) (x y : Task) (same_name : x.who ≡ y.who) (same : see x ≡ see y) where
  seen-where : (z : Task) (zs : List Task) (u : TaskNo) (b : Bool) → cond b (Some z) (found_task name zs) ≡ Some y
      → (found_task name zs ≡ Some y → option_map see (found_task (who.Task u) (set_where (is_who name) x zs)) ≡ option_map see (found_task (who.Task u) zs))
      → option_map see (found_task (who.Task u) (cond b (x ∷ zs) (z ∷ set_where (is_who name) x zs))) ≡ option_map see (found_task (who.Task u) (z ∷ zs))
  unfolding or_that
  seen-where z zs u true e onward =
      let is : z ≡ y = ap (or_that z) e in
      ap (λ n. option_map see (cond (same_who (who.Task u) n) (Some x) (found_task (who.Task u) zs))) (same_name ∙ ap (λ (q : Task). q.who) (sym is))
      ∙ seen-alike see (is_who (who.Task u) z) x z (found_task (who.Task u) zs) (same ∙ ap see (sym is))
  seen-where z zs u false e onward =
      seen-rest see (is_who (who.Task u) z) z (found_task (who.Task u) (set_where (is_who name) x zs)) (found_task (who.Task u) zs) (onward e)

  set-seen : (tasks : List Task) (u : TaskNo) → found_task name tasks ≡ Some y
      → option_map see (found_task (who.Task u) (set_where (is_who name) x tasks)) ≡ option_map see (found_task (who.Task u) tasks)
  set-seen [] u e = refl
  set-seen (z ∷ zs) u e = seen-where z zs u (is_who name z) e (set-seen zs u)

edited-seen : {Y : Type 0} (see : Task → Y) (name : Who) (f : Task → Task) (w : World) (found : Option Task) → task_at w name ≡ found
    → ((t : Task) → (f t).who ≡ t.who) → ((t : Task) → see (f t) ≡ see t) → (u : TaskNo)
    → option_map see (found_task (who.Task u) (edit_task_found name f w found).tasks) ≡ option_map see (found_task (who.Task u) w.tasks)
edited-seen see name f w None e same_name same u = refl
edited-seen see (who.Task n) f w (Some y) e same_name same u = set-seen see (who.Task n) (f y) y (same_name y) (same y) w.tasks u e
edited-seen see who.Agent f w (Some y) e same_name same u = refl

abbrev group_seen : World → TaskNo → Option (Option ℕ)
group_seen w u = option_map (λ (t : Task). t.budget) (found_task (who.Task u) w.tasks)

some-seen : {X Y : Type 0} (see : X → Y) (found : Option X) → is_some (option_map see found) ≡ is_some found
some-seen see None = refl
some-seen see (Some x) = refl

group-of-seen : (found : Option Task) → unwrap_or (option_map (λ (t : Task). t.budget) found) nobody.budget ≡ (unwrap_or found nobody).budget
group-of-seen None = refl
group-of-seen (Some t) = refl

same-there : (a b : World) (u : TaskNo) → group_seen b u ≡ group_seen a u → is_there b u ≡ is_there a u
same-there a b u e =
    sym (some-seen (λ (t : Task). t.budget) (found_task (who.Task u) b.tasks)) ∙ ap is_some e
    ∙ some-seen (λ (t : Task). t.budget) (found_task (who.Task u) a.tasks)

same-group : (a b : World) (u : TaskNo) → group_seen b u ≡ group_seen a u → (task_of b (who.Task u)).budget ≡ (task_of a (who.Task u)).budget
same-group a b u e =
    sym (group-of-seen (found_task (who.Task u) b.tasks)) ∙ ap (λ seen. unwrap_or seen nobody.budget) e ∙ group-of-seen (found_task (who.Task u) a.tasks)

-- ---- the clock that rises

module _ (t : TaskNo) (x y : Task) (same_name : x.who ≡ y.who) where
  itself-where : (z : Task) (zs : List Task) (b : Bool) → is_who (who.Task t) z ≡ b → cond b (Some z) (found_task (who.Task t) zs) ≡ Some y
      → (found_task (who.Task t) zs ≡ Some y → found_task (who.Task t) (set_where (is_who (who.Task t)) x zs) ≡ Some x)
      → found_task (who.Task t) (cond b (x ∷ zs) (z ∷ set_where (is_who (who.Task t)) x zs)) ≡ Some x
  unfolding or_that
  itself-where z zs true is e onward =
      ap (λ c. cond c (Some x) (found_task (who.Task t) zs)) (ap (same_who (who.Task t)) (same_name ∙ ap (λ (q : Task). q.who) (sym (ap (or_that z) e))) ∙ is)
  itself-where z zs false is e onward = ap (λ c. cond c (Some z) (found_task (who.Task t) (set_where (is_who (who.Task t)) x zs))) is ∙ onward e

  set-itself : (tasks : List Task) → found_task (who.Task t) tasks ≡ Some y → found_task (who.Task t) (set_where (is_who (who.Task t)) x tasks) ≡ Some x
  set-itself [] e = absurd (none-there e)
    where
      none-there : {X : Type 0} {q : X} → None ≡ Some q → ⊥
      none-there e = cc
  set-itself (z ∷ zs) e = itself-where z zs (is_who (who.Task t) z) refl e (set-itself zs)

risen-own : (t : TaskNo) (w : World) (found : Option Task) → found_task (who.Task t) w.tasks ≡ found
    → clock_in (edit_task_found (who.Task t) clock_risen w found).tasks t ≡ cond (is_some found) (suc (shown found)) (shown found)
risen-own t w None e = ap shown e
risen-own t w (Some y) e = ap shown (set-itself t (clock_risen y) y refl w.tasks e)

risen-where : (t u : TaskNo) (w : World) (same : Bool) → same_task t u ≡ same
    → clock_in (risen t w).tasks u ≡ cond (same && is_there w u) (suc (clock_in w.tasks u)) (clock_in w.tasks u)
risen-where t u w true e =
    subst (λ (v : TaskNo). clock_in (risen t w).tasks v ≡ cond (is_there w v) (suc (clock_in w.tasks v)) (clock_in w.tasks v))
    (ap (λ n. record { 0 = n }) (eqb-true t.0 u.0 e)) (risen-own t w (found_task (who.Task t) w.tasks) refl)
risen-where t u w false e = other-clock u t clock_risen w (found_task (who.Task t) w.tasks) (flipped t.0 u.0 e) refl (λ y. refl)
  where
    flipped : (a b : ℕ) → eqb a b ≡ false → eqb b a ≡ false
    flipped a b h = grind arith

-- ---- a charge

record ChargedBy (ran : Option Who) (a b : World) : Type 0 where
  pub clocks : (u : TaskNo) → clock_in b.tasks u ≡ cond (runs a ran u) (suc (clock_in a.tasks u)) (clock_in a.tasks u)
  pub budgets : b.budgets ≡ charged_of (group_of a ran) a.budgets

charged-budgets : (group : Option ℕ) (w : World) → (charge_budget group w).budgets ≡ charged_of group w.budgets
charged-budgets None w = refl
charged-budgets (Some b) w = refl

task-charges : (p : Image) (t : TaskNo) (a : World) → ChargedBy (Some (who.Task t)) a (charge_task p t a)
task-charges p t a =
    let group = (task_of (clocked t a) (who.Task t)).budget in
    let before = paid t a group in
    let behind =
    edited-alike (who.Task t) (quantum_spent_by p) before (λ x. spent-who p (is_robin_level p x.base) x) (λ x. spent-clock p (is_robin_level p x.base) x) in
    let same : group ≡ (task_of a (who.Task t)).budget =
    same-group a (risen t a) t
    (edited-seen (λ (q : Task). q.budget) (who.Task t) clock_risen a (found_task (who.Task t) a.tasks) refl (λ y. refl) (λ y. refl) t) in
    record {
      clocks = λ u. behind.clocks u ∙ ap (λ (s : Sight). clock_in s.tasks u) (paid-sight t a group) ∙ risen-where t u a (same_task t u) refl;
      budgets =
          ap (λ (s : Sight). s.budgets) behind.sights ∙ charged-budgets group (clocked t a) ∙ ap (charged_of group) (same_budgets t a group)
          ∙ ap (λ g. charged_of g a.budgets) same;
    }

who-charges : (p : Image) (name : Who) (a : World) → ChargedBy (Some name) a (charge p name a)
who-charges p (who.Task t) a = task-charges p t a
who-charges p who.Agent a = record { clocks = λ u. refl; budgets = refl }

-- ---- a tock

same-runs : (a b : World) (ran : Option Who) (u : TaskNo) → group_seen b u ≡ group_seen a u → runs b ran u ≡ runs a ran u
same-runs a b ran u e = ap (λ c. is_the same_who ran (who.Task u) && c) (same-there a b u e)

same-groups : (a b : World) (ran : Option Who) → ((u : TaskNo) → group_seen b u ≡ group_seen a u) → group_of b ran ≡ group_of a ran
same-groups a b None e = refl
same-groups a b (Some (who.Task t)) e = same-group a b t (e t)
same-groups a b (Some who.Agent) e = refl

begun-charges : (p : Image) (name : Who) (w served : World) → sight_of served ≡ sight_of w
    → ChargedBy (Some name) w (spend_tick name (charge p name (begin_action p name served)))
begun-charges p name w served e =
    let begun = begin_action p name served in
    let charged = charge p name begun in
    let f : Task → Task = with_ticks (Some (unwrap_or (task_of served name).ticks_left (cost p served name))) in
    let before = edited-alike name f served (λ t. refl) (λ t. refl) in
    let behind = edited-alike name (λ t. with_ticks (one_tick_less t.ticks_left) t) charged (λ t. refl) (λ t. refl) in
    let k = who-charges p name begun in
    let seen : (u : TaskNo) → group_seen begun u ≡ group_seen w u =
    λ u. edited-seen (λ (q : Task). q.budget) name f served (task_at served name) refl (λ t. refl) (λ t. refl) u
    ∙ ap (λ (s : Sight). option_map (λ (q : Task). q.budget) (found_task (who.Task u) s.tasks)) e in
    record {
      clocks = λ u.
          behind.clocks u ∙ k.clocks u
          ∙ ap (λ c. cond c (suc (clock_in begun.tasks u)) (clock_in begun.tasks u)) (same-runs w begun (Some name) u (seen u))
          ∙ ap (λ n. cond (runs w (Some name) u) (suc n) n) (before.clocks u ∙ ap (λ (s : Sight). clock_in s.tasks u) e);
      budgets =
          ap (λ (s : Sight). s.budgets) behind.sights ∙ k.budgets
          ∙ ap (λ g. charged_of g begun.budgets) (same-groups w begun (Some name) seen)
          ∙ ap (charged_of (group_of w (Some name))) (ap (λ (s : Sight). s.budgets) before.sights ∙ ap (λ (s : Sight). s.budgets) e);
    }

before-charges : (p : Image) (chosen : Option Who) (w : World) → ChargedBy chosen w (before_tick p chosen w).0
before-charges p None w = subst (ChargedBy None w) (sym (idle-same w.ran w)) (record { clocks = λ u. refl; budgets = refl })
before-charges p (Some name) w =
    let told = (says_run name w.ran w).0 in
    begun-charges p name w (serve name told).0 (serve-alike name told ∙ ap sight_of (run-alike (same_option same_who w.ran (Some name)) name w))

pub tocks_charge : TocksCharge
tocks_charge p w =
    let k = before-charges p (choose w) w in
    subst (λ (x : World × List Event). Charges w x.0) (sym (tock-parts p w)) (record { clocks = k.clocks; budgets = k.budgets })
