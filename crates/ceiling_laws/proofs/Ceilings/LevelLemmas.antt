-- From the choice of somebody to the effect of its action nobody's priorities and deadline change, no object and no place.
use Rattle.std.proofs.Common.{◌≡◌, ℕ, ◌-◌, ℤ, Bool, true, false, cond, List, [], ◌∷◌, Option, Some, None, refl, sym, ap, subst, ◌∙◌}
use Rattle.std.specs.Prelude.{find, unwrap_or}
use Rattle.std.proofs.lemmas.Bool.{eqb-true}
use Rattle.ann_base.specs.declared.identities.TaskNo.{TaskNo}
use Rattle.trace_text.specs.declared.events.Event.{Event}
use Rattle.trace_text.specs.declared.events.Event.TheVariants as line
use Rattle.trace_text.specs.declared.events.Who.{Who}
use Rattle.trace_text.specs.declared.events.Who.TheVariants as who
use Rattle.profile_image.specs.declared.image.Image.{Image}
use Rattle.profile_machine.specs.declared.world.World.{World}
use Rattle.profile_machine.specs.declared.world.tasks.Task.{Task}
use Rattle.profile_machine.specs.declared.world.marks.Frame.{Frame}
use Rattle.profile_machine.specs.declared.world.appointments.Release.{Release}
use Rattle.profile_image.specs.Words.{same_who, same_option, set_where}
use Rattle.profile_image.specs.Program.{is_robin_level}
use Rattle.profile_machine.specs.Steps.{rests}
use Rattle.profile_machine.specs.Tasks.{is_who, nobody, task_at, task_of, edit_task_found, edit_task, with_ticks}
use Rattle.profile_machine.specs.Cost.{cost}
use Rattle.profile_machine.specs.Dispatching as dispatching
use Rattle.profile_machine.specs.Dispatching.{active, deadline_shown, choose}
use Rattle.profile_machine.specs.Handlers.{clock_risen, quantum_spent_by, charge_budget, charge_clock, charge_group, charge_task, charge}
use Rattle.profile_machine.specs.Instant.{instant}
use Rattle.profile_machine.specs.Run.{tock, say, says_run, serve_if_free, serve, begin_action, one_tick_less, spend_tick, says_idle}
use Rattle.machine_laws.specs.Reached.{opened, ticked}
use Rattle.machine_laws.proofs.TimeLemmas.{opening-runner}
use Rattle.machine_laws.proofs.PlaceLemmas.{tocks_place_nobody}
use Rattle.machine_laws.proofs.Kept.Entering.{edit_task-objects}
use Rattle.machine_laws.proofs.Kept.Run.{before_tick, tock-parts}
use Rattle.ceiling_laws.specs.CeilingLaws.{TocksKeepLevels, WhoActsIsFirst}

-- ---- what is seen of a task that was edited stands to what was seen before as the edit makes it stand

abbrev seen : {X : Type 0} → (Task → X) → Option Task → X
seen g found = g (unwrap_or found nobody)

module _ {X : Type 0} (R : X → X → Type 0) (self : (x : X) → R x x) (g : Task → X) where
  head-seen : (c d : Bool) (y z : Task) (rest : Option Task) → d ≡ c → R (g y) (g z) → R (seen g (cond d (Some y) rest)) (seen g (cond c (Some z) rest))
  head-seen true d y z rest e same = subst (λ t. R (seen g (cond t (Some y) rest)) (g z)) (sym e) same
  head-seen false d y z rest e same = subst (λ t. R (seen g (cond t (Some y) rest)) (seen g rest)) (sym e) (self (seen g rest))

  tail-seen : (c : Bool) (z : Task) (rest other : Option Task) → R (seen g rest) (seen g other)
      → R (seen g (cond c (Some z) rest)) (seen g (cond c (Some z) other))
  tail-seen true z rest other e = self (g z)
  tail-seen false z rest other e = e

  set-step : (name n : Who) (x y z : Task) (zs : List Task) (b : Bool) → cond b (Some z) (find (is_who n) zs) ≡ Some x → R (g y) (g x) → y.who ≡ x.who
      → (find (is_who n) zs ≡ Some x → R (seen g (find (is_who name) (set_where (is_who n) y zs))) (seen g (find (is_who name) zs)))
      → R (seen g (find (is_who name) (cond b (y ∷ zs) (z ∷ set_where (is_who n) y zs)))) (seen g (cond (is_who name z) (Some z) (find (is_who name) zs)))
  set-step name n x y z zs true e same named onward =
      let is : x ≡ z = cc in
      head-seen (is_who name z) (is_who name y) y z (find (is_who name) zs) (ap (same_who name) (named ∙ ap (λ t. t.who) is))
      (subst (λ t. R (g y) (g t)) is same)
  set-step name n x y z zs false e same named onward =
      tail-seen (is_who name z) z (find (is_who name) (set_where (is_who n) y zs)) (find (is_who name) zs) (onward e)

  set-seen : (name n : Who) (x y : Task) (xs : List Task) → find (is_who n) xs ≡ Some x → R (g y) (g x) → y.who ≡ x.who
      → R (seen g (find (is_who name) (set_where (is_who n) y xs))) (seen g (find (is_who name) xs))
  set-seen name n x y [] e same named = self (seen g None)
  set-seen name n x y (z ∷ zs) e same named = set-step name n x y z zs (is_who n z) e same named (λ k. set-seen name n x y zs k same named)

  agent-seen : (before x agent : Task) → Some agent ≡ Some x → R (g before) (g x) → R (g before) (g agent)
  agent-seen before x agent e h = let is : x ≡ agent = cc in subst (λ t. R (g before) (g t)) is h

  edit_found-seen : (n : Who) (f : Task → Task) (w : World) (name : Who) → ((t : Task) → R (g (f t)) (g t)) → ((t : Task) → (f t).who ≡ t.who)
      → (found : Option Task) → task_at w n ≡ found
      → R (g (task_of (edit_task_found n f w found) name)) (g (task_of w name))
  edit_found-seen n f w name same named None is = self (g (task_of w name))
  edit_found-seen (who.Task k) f w (who.Task m) same named (Some x) is = set-seen (who.Task m) (who.Task k) x (f x) w.tasks is (same x) (named x)
  edit_found-seen (who.Task k) f w who.Agent same named (Some x) is = self (g w.agent)
  edit_found-seen who.Agent f w (who.Task m) same named (Some x) is = self (g (task_of w (who.Task m)))
  edit_found-seen who.Agent f w who.Agent same named (Some x) is = agent-seen (f x) x w.agent is (same x)

  pub edit_task-related : (n : Who) (f : Task → Task) (w : World) (name : Who) → ((t : Task) → R (g (f t)) (g t)) → ((t : Task) → (f t).who ≡ t.who)
      → R (g (task_of (edit_task n f w) name)) (g (task_of w name))
  edit_task-related n f w name same named = edit_found-seen n f w name same named (task_at w n) refl

pub edit_task-seen : {X : Type 0} (g : Task → X) (n : Who) (f : Task → Task) (w : World) (name : Who) → ((t : Task) → g (f t) ≡ g t)
    → ((t : Task) → (f t).who ≡ t.who) → g (task_of (edit_task n f w) name) ≡ g (task_of w name)
edit_task-seen g n f w name same named = edit_task-related (λ a b. a ≡ b) (λ x. refl) g n f w name same named

-- ---- and of all others nothing changes

same-as : (n a other : Who) → same_who n a ≡ true → same_who other a ≡ same_who other n
same-as (who.Task x) (who.Task y) other e = ap (λ (k : ℕ). same_who other (who.Task (record { 0 = k }))) (sym (eqb-true x.0 y.0 e))
same-as (who.Task x) who.Agent other e = absurd cc
same-as who.Agent (who.Task y) other e = absurd cc
same-as who.Agent who.Agent other e = refl

found-step : (n : Who) (z x : Task) (rest : Option Task) (b : Bool) → is_who n z ≡ b → cond b (Some z) rest ≡ Some x → (rest ≡ Some x → is_who n x ≡ true)
    → is_who n x ≡ true
found-step n z x rest true is e onward = let same : z ≡ x = cc in subst (λ t. is_who n t ≡ true) same is
found-step n z x rest false is e onward = onward e

found-is : (n : Who) (xs : List Task) (x : Task) → find (is_who n) xs ≡ Some x → is_who n x ≡ true
found-is n [] x e = absurd cc
found-is n (z ∷ zs) x e = found-step n z x (find (is_who n) zs) (is_who n z) refl e (λ k. found-is n zs x k)

other-step : (other : Who) (y z : Task) (zs others : List Task) (b : Bool) → is_who other y ≡ false → (b ≡ true → is_who other z ≡ false)
    → find (is_who other) others ≡ find (is_who other) zs
    → find (is_who other) (cond b (y ∷ zs) (z ∷ others)) ≡ cond (is_who other z) (Some z) (find (is_who other) zs)
other-step other y z zs others true p q e =
    ap (λ t. cond t (Some y) (find (is_who other) zs)) p ∙ sym (ap (λ t. cond t (Some z) (find (is_who other) zs)) (q refl))
other-step other y z zs others false p q e = ap (λ r. cond (is_who other z) (Some z) r) e

set-other : (n other : Who) (y : Task) (xs : List Task) → same_who other n ≡ false → is_who other y ≡ false
    → find (is_who other) (set_where (is_who n) y xs) ≡ find (is_who other) xs
set-other n other y [] apart p = refl
set-other n other y (z ∷ zs) apart p =
    other-step other y z zs (set_where (is_who n) y zs) (is_who n z) p (λ e. same-as n z.who other e ∙ apart) (set-other n other y zs apart p)

never : {P : Type 0} → true ≡ false → P
never e = absurd cc

edit_found-other : (n : Who) (f : Task → Task) (w : World) (other : Who) → same_who other n ≡ false → ((t : Task) → (f t).who ≡ t.who) → (found : Option Task)
    → task_at w n ≡ found → task_of (edit_task_found n f w found) other ≡ task_of w other
edit_found-other n f w other apart named None is = refl
edit_found-other (who.Task k) f w (who.Task m) apart named (Some x) is =
    let out : is_who (who.Task m) (f x) ≡ false =
    ap (same_who (who.Task m)) (named x) ∙ same-as (who.Task k) x.who (who.Task m) (found-is (who.Task k) w.tasks x is) ∙ apart in
    ap (λ found. unwrap_or found nobody) (set-other (who.Task k) (who.Task m) (f x) w.tasks apart out)
edit_found-other (who.Task k) f w who.Agent apart named (Some x) is = refl
edit_found-other who.Agent f w (who.Task m) apart named (Some x) is = refl
edit_found-other who.Agent f w who.Agent apart named (Some x) is = never apart

pub edit_task-other : (n : Who) (f : Task → Task) (w : World) (other : Who) → same_who other n ≡ false → ((t : Task) → (f t).who ≡ t.who)
    → task_of (edit_task n f w) other ≡ task_of w other
edit_task-other n f w other apart named = edit_found-other n f w other apart named (task_at w n) refl

-- ---- levels

abbrev levels_in : Image → Task → ℕ × Option ℤ × ℕ
levels_in p t = (active p t, deadline_shown p t, t.base)

record Same (p : Image) (a b : World) : Type 0 where
  pub levels : (name : Who) → levels_in p (task_of b name) ≡ levels_in p (task_of a name)
  pub objects : b.objects ≡ a.objects

same-self : (p : Image) (w : World) → Same p w w
same-self p w = record { levels = λ name. refl; objects = refl }

same-then : (p : Image) (a b c : World) → Same p a b → Same p b c → Same p a c
same-then p a b c h k = record { levels = λ name. k.levels name ∙ h.levels name; objects = k.objects ∙ h.objects }

same-edit : (p : Image) (n : Who) (f : Task → Task) (w : World) → ((t : Task) → levels_in p (f t) ≡ levels_in p t) → ((t : Task) → (f t).who ≡ t.who)
    → Same p w (edit_task n f w)
same-edit p n f w same named = record { levels = λ name. edit_task-seen (levels_in p) n f w name same named; objects = edit_task-objects n f w }

-- ---- one tick is charged

spent-levels : (p : Image) (b : Bool) (n : ℕ) (t : Task) → levels_in p (cond b (record t { quantum = n }) t) ≡ levels_in p t
spent-levels p true n t = refl
spent-levels p false n t = refl

pub spent-who : (b : Bool) (n : ℕ) (t : Task) → (cond b (record t { quantum = n }) t).who ≡ t.who
spent-who true n t = refl
spent-who false n t = refl

same-clock : (p : Image) (t : TaskNo) (w : World) → Same p w (charge_clock t w)
same-clock p t w =
    let h = same-edit p (who.Task t) clock_risen w (λ x. refl) (λ x. refl) in
    record { levels = h.levels; objects = h.objects }

same-budget : (p : Image) (b : Option ℕ) (w : World) → Same p w (charge_budget b w)
same-budget p None w = same-self p w
same-budget p (Some b) w = record { levels = λ name. refl; objects = refl }

same-group : (p : Image) (t : TaskNo) (w : World) → Same p w (charge_group t w)
same-group p t w =
    let h = same-budget p (task_of w (who.Task t)).budget w in
    record { levels = h.levels; objects = h.objects }

same-charge : (p : Image) (name : Who) (w : World) → Same p w (charge p name w)
same-charge p who.Agent w = same-self p w
same-charge p (who.Task t) w =
    let clock = charge_clock t w in
    let group = charge_group t clock in
    same-then p w group (charge_task p t w) (same-then p w clock group (same-clock p t w) (same-group p t clock))
    (same-edit p (who.Task t) (quantum_spent_by p) group (λ x. spent-levels p (is_robin_level p x.base) (x.quantum - 1) x)
    (λ x. spent-who (is_robin_level p x.base) (x.quantum - 1) x))

-- ---- the lines of a tock, and the release that the agent takes up

said-run : (p : Image) (b : Bool) (name : Who) (w : World) → Same p w (cond b rests (say (line.Run name)) w).0
said-run p true name w = same-self p w
said-run p false name w = same-self p w

served : (p : Image) (serving : Option Release) (frames : List Frame) (releases : List Release) (w : World)
    → Same p w (serve_if_free serving frames releases w).0
served p None [] [] w = same-self p w
served p None [] (r ∷ rest) w = record { levels = λ name. refl; objects = refl }
served p None (f ∷ fs) releases w = same-self p w
served p (Some r) frames releases w = same-self p w

same-serve : (p : Image) (name : Who) (w : World) → Same p w (serve name w).0
same-serve p (who.Task t) w = same-self p w
same-serve p who.Agent w = served p w.serving w.agent.frames w.releases w

same-idle : (p : Image) (ran : Option Who) (w : World) → Same p w (says_idle ran w).0
same-idle p None w = same-self p w
same-idle p (Some name) w = same-self p w

-- ---- a tock

before_tick-same : (p : Image) (chosen : Option Who) (w : World) → Same p w (before_tick p chosen w).0
before_tick-same p None w = same-idle p w.ran w
before_tick-same p (Some name) w =
    let told = (says_run name w.ran w).0 in
    let taken = (serve name told).0 in
    let begun = begin_action p name taken in
    let charged = charge p name begun in
    same-then p w charged (spend_tick name charged)
    (same-then p w begun charged
    (same-then p w taken begun
    (same-then p w told taken (said-run p (same_option same_who w.ran (Some name)) name w) (same-serve p name told))
    (same-edit p name (with_ticks (Some (unwrap_or (task_of taken name).ticks_left (cost p taken name)))) taken (λ x. refl) (λ x. refl)))
    (same-charge p name begun))
    (same-edit p name (λ t. with_ticks (one_tick_less t.ticks_left) t) charged (λ x. refl) (λ x. refl))

tock-same : (p : Image) (w : World) → Same p w (tock p w).0
tock-same p w =
    let h = before_tick-same p (choose w) w in
    subst (λ (t : World × List Event). Same p w t.0) (sym (tock-parts p w)) (record { levels = h.levels; objects = h.objects })

pub tocks_keep_levels : TocksKeepLevels
tocks_keep_levels p w =
    let h = tock-same p w in
    record {
      entries = λ name. ap (λ (q : ℕ × Option ℤ × ℕ). record { who = name; level = q.0; deadline = q.1 }) (h.levels name);
      bases = λ name. ap (λ (q : ℕ × Option ℤ × ℕ). q.2) (h.levels name);
      objects = h.objects;
      places = tocks_place_nobody p w;
    }

-- ---- who acts stands first

tock-ran : (p : Image) (w : World) → (tock p w).0.ran ≡ choose w
tock-ran p w = ap (λ t. t.0.ran) (tock-parts p w)

pub who_acts_is_first : WhoActsIsFirst
who_acts_is_first p script bound _ name opened e = let none : None ≡ Some name = sym (opening-runner p script) ∙ e in cc
who_acts_is_first p script bound _ name (ticked w c going) e =
    let behind = (instant p w).0 in
    ap dispatching.head_of (tocks_place_nobody p behind) ∙ sym (tock-ran p behind) ∙ e
