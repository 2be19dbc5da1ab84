-- What priorities that are inherited and lost make of active ones, and what an edit of somebody leaves of it.
use Rattle.world_laws.proofs.Places.CorePoints.{Edited, Missed, active_in, edit-own}
use Rattle.ceiling_laws.proofs.Fine.Cores.{Core, core}
use Rattle.profile_machine.specs.Dispatching.{active_of, kept_level_or_base}
use Rattle.profile_machine.specs.Inheritance.{inherit, lose, same_cause}
use Rattle.profile_image.specs.Program.{edf_low}
use Rattle.profile_machine.specs.Tasks.{edit_task, nobody, task_of}
use Rattle.profile_image.specs.Words.{greatest_of, without}
use Rattle.profile_image.specs.declared.image.Image.{Image}
use Rattle.profile_machine.specs.declared.world.World.{World}
use Rattle.profile_machine.specs.declared.world.tasks.Cause.{Cause}
use Rattle.profile_machine.specs.declared.world.tasks.Inherited.{Inherited}
use Rattle.profile_machine.specs.declared.world.tasks.Task.{Task}
use Rattle.std.proofs.Common.{[], ap, cond, inl, inr, le_refl, le_trans, map, refl, subst, sym, ◌∙◌, ◌∷◌, ◌≡◌, ◌≤◌, ◌⊎◌}
use Rattle.std.proofs.Math.Nat.{le-max_left, le-max_right, max-le}
use Rattle.std.specs.Prelude.{Bool, List, false, max, not, true, ℕ}
use Rattle.trace_text.specs.declared.events.Who.{Who}

pub active-rises : (p : Image) (c : Core) (i : Inherited) → active_in p c ≤ active_in p (record c { inherited = i ∷ c.inherited })
active-rises p c i = le-max_right i.level (active_in p c)

fewer_if : (b : Bool) (x kept all : ℕ) → kept ≤ all → (cond b (max x kept) kept) ≤ max x all
fewer_if true x kept all h = max-le (le-max_left x all) (le_trans h (le-max_right x all))
fewer_if false x kept all h = le_trans h (le-max_right x all)

greatest_if : (b : Bool) (i : Inherited) (kept : List Inherited) (least : ℕ)
    → greatest_of (map (λ j. j.level) (cond b (i ∷ kept) kept)) least
    ≡ cond b (max i.level (greatest_of (map (λ j. j.level) kept) least)) (greatest_of (map (λ j. j.level) kept) least)
greatest_if true i kept least = refl
greatest_if false i kept least = refl

greatest-fewer : (test : Inherited → Bool) (is : List Inherited) (least : ℕ)
    → greatest_of (map (λ j. j.level) (without test is)) least ≤ greatest_of (map (λ j. j.level) is) least
greatest-fewer test [] least = le_refl least
greatest-fewer test (i ∷ is) least =
    subst (λ m. m ≤ max i.level (greatest_of (map (λ j. j.level) is) least)) (sym (greatest_if (not (test i)) i (without test is) least))
    (fewer_if (not (test i)) i.level (greatest_of (map (λ j. j.level) (without test is)) least) (greatest_of (map (λ j. j.level) is) least)
    (greatest-fewer test is least))

-- by priorities that are lost an active priority falls, if it changes
pub active-falls : (p : Image) (c : Core) (test : Inherited → Bool) → active_in p (record c { inherited = without test c.inherited }) ≤ active_in p c
active-falls p c test = greatest-fewer test c.inherited (kept_level_or_base (edf_low p c.base) c.kept_level c.base)

-- what an edit leaves of each task it leaves of whom it edits
part_by : {X : Type 0} (g : Core → X) (name : Who) (f : Task → Task) (before behind : Core) → ((t : Task) → g (core (f t)) ≡ g (core t))
    → Edited name f before behind ⊎ Missed name before behind → g behind ≡ g before
part_by g name f before behind same (inl e) = ap g e.is ∙ same e.task ∙ sym (ap g e.was)
part_by g name f before behind same (inr e) = ap g e.1 ∙ sym (ap g e.0.1)

pub edit-part : {X : Type 0} (g : Core → X) (name : Who) (f : Task → Task) (w : World) → ((t : Task) → (f t).who ≡ t.who)
    → ((t : Task) → g (core (f t)) ≡ g (core t)) → g (core (task_of (edit_task name f w) name)) ≡ g (core (task_of w name))
edit-part g name f w named same = part_by g name f (core (task_of w name)) (core (task_of (edit_task name f w) name)) same (edit-own name f w named)

compared_by : (p : Image) (R : ℕ → ℕ → Type 0) (name : Who) (f : Task → Task) (before behind : Core) → ((n : ℕ) → R n n)
    → ((t : Task) → R (active_in p (core (f t))) (active_in p (core t))) → Edited name f before behind ⊎ Missed name before behind
    → R (active_in p behind) (active_in p before)
compared_by p R name f before behind self step (inl e) =
    subst (λ c. R (active_in p c) (active_in p before)) (sym e.is) (subst (λ c. R (active_in p (core (f e.task))) (active_in p c)) (sym e.was) (step e.task))
compared_by p R name f before behind self step (inr e) =
    subst (λ c. R (active_in p c) (active_in p before)) (sym e.1)
    (subst (λ c. R (active_in p (core nobody)) (active_in p c)) (sym e.0.1) (self (active_in p (core nobody))))

pub lose-falls : (p : Image) (name : Who) (cause : Cause) (w : World) → active_of p (lose name cause w) name ≤ active_of p w name
lose-falls p name cause w =
    let f : Task → Task = λ t. record t { inherited = without (λ i. same_cause cause i.cause) t.inherited } in
    compared_by p (λ a b. a ≤ b) name f (core (task_of w name)) (core (task_of (edit_task name f w) name)) le_refl
    (λ t. active-falls p (core t) (λ i. same_cause cause i.cause)) (edit-own name f w (λ t. refl))

pub inherit-rises : (p : Image) (name : Who) (cause : Cause) (level : ℕ) (w : World) → active_of p w name ≤ active_of p (inherit name cause level w) name
inherit-rises p name cause level w =
    let i : Inherited = record { cause = cause; level = level } in
    let f : Task → Task = λ t. record t { inherited = i ∷ t.inherited } in
    compared_by p (λ a b. b ≤ a) name f (core (task_of w name)) (core (task_of (edit_task name f w) name)) le_refl (λ t. active-rises p (core t) i)
    (edit-own name f w (λ t. refl))
