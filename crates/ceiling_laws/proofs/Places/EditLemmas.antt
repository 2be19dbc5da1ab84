-- What changes of a task make of active priorities.
use Rattle.ceiling_laws.proofs.Runs.CoreLemmas.{core-same}
use Rattle.ceiling_laws.proofs.Runs.FoundLemmas.{set-other}
use Rattle.ceiling_laws.proofs.Runs.Kept.Waking.{who-is}
use Rattle.ceiling_laws.proofs.Runs.SameLemmas.{found_is_who, set_where-found}
use Rattle.ceiling_laws.proofs.Places.PartOrder.{by_test}
use Rattle.ceiling_laws.specs.Cores.{Core, Same}
use Rattle.profile_machine.specs.Dispatching.{active, active_of, kept_level_or_base}
use Rattle.profile_machine.specs.Inheritance.{inherit}
use Rattle.profile_image.specs.Program.{edf_low}
use Rattle.profile_machine.specs.Tasks.{edit_task, edit_task_found, is_who, nobody, task_at, task_of}
use Rattle.profile_image.specs.Words.{greatest_of, same_who}
use Rattle.profile_image.specs.declared.image.Image.{Image}
use Rattle.profile_machine.specs.declared.world.World.{World}
use Rattle.profile_machine.specs.declared.world.tasks.Cause.{Cause}
use Rattle.profile_machine.specs.declared.world.tasks.Task.{Task}
use Rattle.std.proofs.Common.{◌∷◌, None, Option, Some, ap, false, le_refl, map, refl, subst, sym, true, ℕ, ◌∙◌, ◌≡◌, ◌≤◌}
use Rattle.std.proofs.Math.Nat.{le-max_right}
use Rattle.std.specs.Prelude.{find, unwrap_or}
use Rattle.trace_text.specs.declared.events.Who.{Who}
use Rattle.trace_text.specs.declared.events.Who.TheVariants as who

abbrev pub active_core : Image → Core → ℕ
active_core p c = greatest_of (map (λ i. i.level) c.inherited) (kept_level_or_base (edf_low p c.base) c.kept_level c.base)

-- a change that touches no level leaves each active priority
pub active-same : (p : Image) (a b : World) (n : Who) → Same a b → active_of p b n ≡ active_of p a n
active-same p a b n same = ap (active_core p) (core-same a b n same)

pub active-plain : (p : Image) (a b : World) (n : Who) → b.tasks ≡ a.tasks → b.agent ≡ a.agent → active_of p b n ≡ active_of p a n
active-plain p a b (who.Task t) tasks agent = ap (λ ts. active p (unwrap_or (find (is_who (who.Task t)) ts) nobody)) tasks
active-plain p a b who.Agent tasks agent = ap (active p) agent

pub named-apart : (m k : Who) (x y : Task) → is_who m x ≡ true → y.who ≡ x.who → same_who k m ≡ false → is_who k y ≡ false
named-apart m k x y is same apart = ap (same_who k) (same ∙ sym (who-is m x.who is)) ∙ apart

-- ---- a task that is edited

others-found : (p : Image) (name : Who) (f : Task → Task) (w : World) (n : Who) (found : Option Task) → task_at w name ≡ found
    → ((t : Task) → (f t).who ≡ t.who) → same_who n name ≡ false → active_of p (edit_task_found name f w found) n ≡ active_of p w n
others-found p name f w n None is named apart = refl
others-found p (who.Task m) f w (who.Task k) (Some x) is named apart =
    ap (λ found. active p (unwrap_or found nobody))
    (set-other (who.Task m) (who.Task k) (f x) w.tasks apart
    (named-apart (who.Task m) (who.Task k) x (f x) (found_is_who (who.Task m) x w.tasks is) (named x) apart))
others-found p (who.Task m) f w who.Agent (Some x) is named apart = refl
others-found p who.Agent f w (who.Task k) (Some x) is named apart = refl
others-found p who.Agent f w who.Agent (Some x) is named apart = absurd cc

-- those of others are as they were
pub edit-others : (p : Image) (name : Who) (f : Task → Task) (w : World) (n : Who) → ((t : Task) → (f t).who ≡ t.who) → same_who n name ≡ false
    → active_of p (edit_task name f w) n ≡ active_of p w n
edit-others p name f w n named apart = others-found p name f w n (task_at w name) refl named apart

same-level : (a b : ℕ) → b ≡ a → a ≤ b
same-level a b e = subst (λ n. a ≤ n) (sym e) (le_refl a)

risen : (p : Image) (f : Task → Task) (before behind : Option Task) (x : Task) → before ≡ Some x → behind ≡ Some (f x) → active p x ≤ active p (f x)
    → active p (unwrap_or before nobody) ≤ active p (unwrap_or behind nobody)
risen p f before behind x e k up =
    subst (λ (r : Option Task). active p (unwrap_or r nobody) ≤ active p (unwrap_or behind nobody)) (sym e)
    (subst (λ (r : Option Task). active p x ≤ active p (unwrap_or r nobody)) (sym k) up)

rises-found : (p : Image) (m : Who) (f : Task → Task) (w : World) (x : Task) → task_at w m ≡ Some x → ((t : Task) → (f t).who ≡ t.who)
    → ((t : Task) → active p t ≤ active p (f t)) → active_of p w m ≤ active_of p (edit_task_found m f w (Some x)) m
rises-found p (who.Task t) f w x is named up =
    risen p f (find (is_who (who.Task t)) w.tasks) (find (is_who (who.Task t)) (edit_task_found (who.Task t) f w (Some x)).tasks) x is
    (set_where-found (who.Task t) x (f x) w.tasks is (named x)) (up x)
rises-found p who.Agent f w x is named up = risen p f (Some w.agent) (Some (f x)) x is refl (up x)

own-found : (p : Image) (m : Who) (f : Task → Task) (w : World) (found : Option Task) → task_at w m ≡ found → ((t : Task) → (f t).who ≡ t.who)
    → ((t : Task) → active p t ≤ active p (f t)) → active_of p w m ≤ active_of p (edit_task_found m f w found) m
own-found p m f w None is named up = le_refl (active_of p w m)
own-found p m f w (Some x) is named up = rises-found p m f w x is named up

-- by a change that lets no active priority fall, nobody's falls
pub edit-rises : (p : Image) (name : Who) (f : Task → Task) (w : World) (n : Who) → ((t : Task) → (f t).who ≡ t.who)
    → ((t : Task) → active p t ≤ active p (f t)) → active_of p w n ≤ active_of p (edit_task name f w) n
edit-rises p name f w n named up =
    by_test (same_who n name)
    (λ t. subst (λ k. active_of p w k ≤ active_of p (edit_task name f w) k) (sym (who-is n name t)) (own-found p name f w (task_at w name) refl named up))
    (λ apart. same-level (active_of p w n) (active_of p (edit_task name f w) n) (edit-others p name f w n named apart))

pub inherit-rises : (p : Image) (name : Who) (cause : Cause) (level : ℕ) (w : World) (n : Who) → active_of p w n ≤ active_of p (inherit name cause level w) n
inherit-rises p name cause level w n =
    edit-rises p name (λ t. record t { inherited = record { cause = cause; level = level } ∷ t.inherited }) w n (λ t. refl)
    (λ t. le-max_right level (active p t))

state-found : (m : Who) (f : Task → Task) (w : World) (found : Option Task) → task_at w m ≡ found → ((t : Task) → (f t).who ≡ t.who)
    → ((t : Task) → (f t).state ≡ t.state) → (task_of (edit_task_found m f w found) m).state ≡ (task_of w m).state
state-found m f w None is named same = refl
state-found (who.Task t) f w (Some x) is named same =
    ap (λ (r : Option Task). (unwrap_or r nobody).state) (set_where-found (who.Task t) x (f x) w.tasks is (named x)) ∙ same x
    ∙ sym (ap (λ (r : Option Task). (unwrap_or r nobody).state) is)
state-found who.Agent f w (Some x) is named same = same x ∙ sym (ap (λ (r : Option Task). (unwrap_or r nobody).state) is)

-- a change that leaves states leaves that of whom it changes
pub edit-state : (name : Who) (f : Task → Task) (w : World) → ((t : Task) → (f t).who ≡ t.who) → ((t : Task) → (f t).state ≡ t.state)
    → (task_of (edit_task name f w) name).state ≡ (task_of w name).state
edit-state name f w named same = state-found name f w (task_at w name) refl named same
