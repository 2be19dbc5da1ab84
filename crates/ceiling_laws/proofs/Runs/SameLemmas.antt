-- Changes that touch no task's level or state and no object's ceiling.
use Rattle.ann_base.specs.declared.identities.ObjectNo.{ObjectNo}
use Rattle.ceiling_laws.specs.Cores.{Same, ceiling_in, core}
use Rattle.profile_machine.specs.Calls.{edit_object}
use Rattle.profile_machine.specs.Tasks.{edit_task, edit_task_found, is_who, task_at}
use Rattle.profile_machine.specs.Values.{is_object}
use Rattle.profile_image.specs.Words.{edit_found, same_who, set_where}
use Rattle.profile_machine.specs.declared.world.World.{World}
use Rattle.profile_machine.specs.declared.world.objects.Object.{Object}
use Rattle.profile_machine.specs.declared.world.tasks.Task.{Task}
use Rattle.std.proofs.Common.{Bool, List, None, Option, Some, [], ap, cond, false, inl, inr, map, refl, subst, sym, true, ◌∙◌, ◌∷◌, ◌≡◌, ◌⊎◌}
use Rattle.std.specs.Prelude.{find}
use Rattle.trace_text.specs.declared.events.Who.{Who}
use Rattle.trace_text.specs.declared.events.Who.TheVariants as who

pub same_self : (w : World) → Same w w
same_self w = record { tasks = refl; agent = refl; objects = refl; drawn_tasks = refl; drawn_objects = refl; delays = λ t e. e }

pub same_then : (a b c : World) → Same a b → Same b c → Same a c
same_then a b c h k = record {
  tasks = k.tasks ∙ h.tasks;
  agent = k.agent ∙ h.agent;
  objects = k.objects ∙ h.objects;
  drawn_tasks = k.drawn_tasks ∙ h.drawn_tasks;
  drawn_objects = k.drawn_objects ∙ h.drawn_objects;
  delays = λ t e. h.delays t (k.delays t e);
}

-- ---- an item of a list is set to one that is seen as it was

set-step : {A B : Type 0} (g : A → B) (test : A → Bool) (x y z : A) (zs : List A) (b : Bool) → cond b (Some z) (find test zs) ≡ Some x → g y ≡ g x
    → (find test zs ≡ Some x → map g (set_where test y zs) ≡ map g zs) → map g (cond b (y ∷ zs) (z ∷ set_where test y zs)) ≡ map g (z ∷ zs)
set-step g test x y z zs true found same onward = let is : z ≡ x = cc in ap (λ v. v ∷ map g zs) (same ∙ ap g (sym is))
set-step g test x y z zs false found same onward = ap (λ vs. g z ∷ vs) (onward found)

pub set_where-seen : {A B : Type 0} (g : A → B) (test : A → Bool) (x y : A) (xs : List A) → find test xs ≡ Some x → g y ≡ g x
    → map g (set_where test y xs) ≡ map g xs
set_where-seen g test x y [] found same = refl
set_where-seen g test x y (z ∷ zs) found same = set-step g test x y z zs (test z) found same (λ k. set_where-seen g test x y zs k same)

pub edit_found-seen : {A B : Type 0} (g : A → B) (test : A → Bool) (f : A → A) (xs : List A) (found : Option A) → find test xs ≡ found
    → ((x : A) → g (f x) ≡ g x) → map g (edit_found test f xs found) ≡ map g xs
edit_found-seen g test f xs None is same = refl
edit_found-seen g test f xs (Some x) is same = set_where-seen g test x (f x) xs is (same x)

-- who was set is found
set_found-step : (n : Who) (y z : Task) (zs : List Task) (b : Bool) → is_who n z ≡ b → is_who n y ≡ true
    → find (is_who n) (set_where (is_who n) y zs) ≡ Some y ⊎ (b ≡ true)
    → find (is_who n) (cond b (y ∷ zs) (z ∷ set_where (is_who n) y zs)) ≡ Some y
set_found-step n y z zs true is named onward = ap (λ t. cond t (Some y) (find (is_who n) zs)) named
set_found-step n y z zs false is named (inl onward) = ap (λ t. cond t (Some z) (find (is_who n) (set_where (is_who n) y zs))) is ∙ onward
set_found-step n y z zs false is named (inr never) = absurd cc

found-named : (n : Who) (x z : Task) (rest : Option Task) (b : Bool) → is_who n z ≡ b → cond b (Some z) rest ≡ Some x → (rest ≡ Some x → is_who n x ≡ true)
    → is_who n x ≡ true
found-named n x z rest true is e onward = let one : z ≡ x = cc in subst (λ v. is_who n v ≡ true) one is
found-named n x z rest false is e onward = onward e

pub found_is_who : (n : Who) (x : Task) (xs : List Task) → find (is_who n) xs ≡ Some x → is_who n x ≡ true
found_is_who n x [] e = absurd cc
found_is_who n x (z ∷ zs) e = found-named n x z (find (is_who n) zs) (is_who n z) refl e (λ k. found_is_who n x zs k)

set_finds : (n : Who) (x y z : Task) (zs : List Task) (b : Bool) → cond b (Some z) (find (is_who n) zs) ≡ Some x
    → (find (is_who n) zs ≡ Some x → find (is_who n) (set_where (is_who n) y zs) ≡ Some y) → (find (is_who n) (set_where (is_who n) y zs) ≡ Some y) ⊎ (b ≡ true)
set_finds n x y z zs true e onward = inr refl
set_finds n x y z zs false e onward = inl (onward e)

named-so : (n : Who) (x y : Task) → is_who n x ≡ true → y.who ≡ x.who → is_who n y ≡ true
named-so n x y is same = ap (same_who n) same ∙ is

pub set_where-found : (n : Who) (x y : Task) (xs : List Task) → find (is_who n) xs ≡ Some x → y.who ≡ x.who
    → find (is_who n) (set_where (is_who n) y xs) ≡ Some y
set_where-found n x y [] e same = absurd cc
set_where-found n x y (z ∷ zs) e same =
    set_found-step n y z zs (is_who n z) refl (named-so n x y (found_is_who n x (z ∷ zs) e) same)
    (set_finds n x y z zs (is_who n z) e (λ k. set_where-found n x y zs k same))

-- ---- a task that is edited, and an object

edit_found-same : (name : Who) (f : Task → Task) (w : World) (found : Option Task) → task_at w name ≡ found → ((t : Task) → core (f t) ≡ core t)
    → Same w (edit_task_found name f w found)
edit_found-same name f w None is same = same_self w
edit_found-same (who.Task n) f w (Some t) is same = record {
  tasks = set_where-seen core (is_who (who.Task n)) t (f t) w.tasks is (same t);
  agent = refl;
  objects = refl;
  drawn_tasks = refl;
  drawn_objects = refl;
  delays = λ u e. e;
}
edit_found-same who.Agent f w (Some t) is same =
    let one : w.agent ≡ t = cc in
    record { tasks = refl; agent = same t ∙ ap core (sym one); objects = refl; drawn_tasks = refl; drawn_objects = refl; delays = λ u e. e }

pub edit_task-same : (name : Who) (f : Task → Task) (w : World) → ((t : Task) → core (f t) ≡ core t) → Same w (edit_task name f w)
edit_task-same name f w same = edit_found-same name f w (task_at w name) refl same

pub edit_object-same : (o : ObjectNo) (f : Object → Object) (w : World) → ((x : Object) → ceiling_in (f x) ≡ ceiling_in x) → Same w (edit_object o f w)
edit_object-same o f w same = record {
  tasks = refl;
  agent = refl;
  objects = edit_found-seen ceiling_in (is_object o) f w.objects (find (is_object o) w.objects) refl same;
  drawn_tasks = refl;
  drawn_objects = refl;
  delays = λ t e. e;
}
