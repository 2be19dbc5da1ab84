-- Who is found among tasks of which one was set, taken out or added.
use Rattle.ann_base.specs.declared.identities.TaskNo.{TaskNo}
use Rattle.ceiling_laws.proofs.Runs.Kept.Waking.{who-is}
use Rattle.ceiling_laws.proofs.Runs.SameLemmas.{found_is_who, set_where-found}
use Rattle.ceiling_laws.proofs.Places.PartOrder.{by_test}
use Rattle.profile_machine.specs.Tasks.{edit_task_found, is_who}
use Rattle.profile_image.specs.Words.{same_who, set_where, without}
use Rattle.profile_machine.specs.declared.world.World.{World}
use Rattle.profile_machine.specs.declared.world.tasks.Task.{Task}
use Rattle.std.proofs.Common.{Bool, List, None, Option, Some, [], ap, cond, false, inl, inr, not, refl, sym, true, ◌++◌, ◌∙◌, ◌∷◌, ◌≡◌, ◌⊎◌}
use Rattle.std.specs.Prelude.{find}
use Rattle.trace_text.specs.declared.events.Who.{Who}
use Rattle.trace_text.specs.declared.events.Who.TheVariants as who

-- ---- another is found as before

other-step : (k : Who) (y z : Task) (zs others : List Task) (b : Bool) → is_who k y ≡ false → (b ≡ true → is_who k z ≡ false)
    → find (is_who k) others ≡ find (is_who k) zs
    → find (is_who k) (cond b (y ∷ zs) (z ∷ others)) ≡ cond (is_who k z) (Some z) (find (is_who k) zs)
other-step k y z zs others true p q e = ap (λ t. cond t (Some y) (find (is_who k) zs)) p ∙ sym (ap (λ t. cond t (Some z) (find (is_who k) zs)) (q refl))
other-step k y z zs others false p q e = ap (λ r. cond (is_who k z) (Some z) r) e

apart-named : (n k : Who) (z : Task) → same_who k n ≡ false → is_who n z ≡ true → is_who k z ≡ false
apart-named n k z apart is = ap (same_who k) (sym (who-is n z.who is)) ∙ apart

pub set-other : (n k : Who) (y : Task) (xs : List Task) → same_who k n ≡ false → is_who k y ≡ false
    → find (is_who k) (set_where (is_who n) y xs) ≡ find (is_who k) xs
set-other n k y [] apart p = refl
set-other n k y (z ∷ zs) apart p = other-step k y z zs (set_where (is_who n) y zs) (is_who n z) p (apart-named n k z apart) (set-other n k y zs apart p)

-- ---- a task that is edited

-- it is the one that was found, as it was edited, or another as it was
unfoldable pub EditedFound : Who → (Task → Task) → List Task → Who → Task → Type 0
EditedFound n f before k z =
    ((x : Task) × (k ≡ n) × (find (is_who k) before ≡ Some x) × (z ≡ f x)) ⊎ ((same_who k n ≡ false) × (find (is_who k) before ≡ Some z))

some-task : (y z : Task) → Some y ≡ Some z → y ≡ z
some-task y z e = cc

edited-none : {P : Type 0} (k n : Who) (xs : List Task) (z : Task) → find (is_who n) xs ≡ None → find (is_who k) xs ≡ Some z → same_who k n ≡ true → P
edited-none k n xs z none found is = absurd (let never_both : None ≡ Some z = sym none ∙ ap (λ m. find (is_who m) xs) (sym (who-is k n is)) ∙ found in cc)

pub edit-found : (n : TaskNo) (f : Task → Task) (w : World) (k : Who) (z : Task) (found : Option Task) → find (is_who (who.Task n)) w.tasks ≡ found
    → ((t : Task) → (f t).who ≡ t.who) → find (is_who k) (edit_task_found (who.Task n) f w found).tasks ≡ Some z
    → EditedFound (who.Task n) f w.tasks k z
unfolding EditedFound
edit-found n f w k z None is named e = by_test (same_who k (who.Task n)) (λ t. edited-none k (who.Task n) w.tasks z is e t) (λ t. inr (t, e))
edit-found n f w k z (Some x) is named e =
    by_test (same_who k (who.Task n))
    (λ t. let same : k ≡ who.Task n = who-is k (who.Task n) t in
    inl (
      x,
      same,
      ap (λ m. find (is_who m) w.tasks) same ∙ is,
      some-task z (f x)
          (sym e ∙ ap (λ m. find (is_who m) (set_where (is_who (who.Task n)) (f x) w.tasks)) same ∙ set_where-found (who.Task n) x (f x) w.tasks is (named x)),
    ))
    (λ t.
    let out : is_who k (f x) ≡ false = apart-named (who.Task n) k (f x) t (ap (same_who (who.Task n)) (named x) ∙ found_is_who (who.Task n) x w.tasks is) in
    inr (t, sym (set-other (who.Task n) k (f x) w.tasks t out) ∙ e))

-- ---- tasks that are taken out and added

others-step : (name k : Who) (z : Task) (zs rest : List Task) (b : Bool) → same_who k name ≡ false → is_who name z ≡ b
    → find (is_who k) rest ≡ find (is_who k) zs → find (is_who k) (cond (not b) (z ∷ rest) rest) ≡ find (is_who k) (z ∷ zs)
others-step name k z zs rest true apart is e = e ∙ sym (ap (λ t. cond t (Some z) (find (is_who k) zs)) (apart-named name k z apart is))
others-step name k z zs rest false apart is e = ap (λ r. cond (is_who k z) (Some z) r) e

pub kept-others : (name k : Who) (xs : List Task) → same_who k name ≡ false → find (is_who k) (without (is_who name) xs) ≡ find (is_who k) xs
kept-others name k [] apart = refl
kept-others name k (z ∷ zs) apart = others-step name k z zs (without (is_who name) zs) (is_who name z) apart refl (kept-others name k zs apart)

none-step : (name : Who) (z : Task) (rest : List Task) (b : Bool) → is_who name z ≡ b → find (is_who name) rest ≡ None
    → find (is_who name) (cond (not b) (z ∷ rest) rest) ≡ None
none-step name z rest true is e = e
none-step name z rest false is e = ap (λ t. cond t (Some z) (find (is_who name) rest)) is ∙ e

pub none-left : (name : Who) (xs : List Task) → find (is_who name) (without (is_who name) xs) ≡ None
none-left name [] = refl
none-left name (z ∷ zs) = none-step name z (without (is_who name) zs) (is_who name z) refl (none-left name zs)

nobody-found : {P : Type 0} (found : Option Task) (x : Task) → found ≡ None → found ≡ Some x → P
nobody-found found x none some = absurd (let never_both : None ≡ Some x = sym none ∙ some in cc)

-- who is found when somebody is forgotten was found before
pub forgotten-found : (name k : Who) (xs : List Task) (x : Task) → find (is_who k) (without (is_who name) xs) ≡ Some x → find (is_who k) xs ≡ Some x
forgotten-found name k xs x e =
    by_test (same_who k name)
    (λ t. nobody-found (find (is_who k) (without (is_who name) xs)) x
    (ap (λ m. find (is_who m) (without (is_who name) xs)) (who-is k name t) ∙ none-left name xs) e)
    (λ t. sym (kept-others name k xs t) ∙ e)

added-one : (k : Who) (t x : Task) (b : Bool) → is_who k t ≡ b → cond b (Some t) None ≡ Some x → (None ≡ Some x) ⊎ ((x ≡ t) × (is_who k t ≡ true))
added-one k t x true is e = inr (let one : t ≡ x = cc in sym one, is)
added-one k t x false is e = inl e

added-step : (k : Who) (t x z : Task) (before rest : Option Task) (b : Bool) → cond b (Some z) rest ≡ Some x
    → (rest ≡ Some x → (before ≡ Some x) ⊎ ((x ≡ t) × (is_who k t ≡ true))) → (cond b (Some z) before ≡ Some x) ⊎ ((x ≡ t) × (is_who k t ≡ true))
added-step k t x z before rest true e onward = inl e
added-step k t x z before rest false e onward = onward e

-- who is found when a task is added was found before, or is that task
pub added-found : (k : Who) (t x : Task) (xs : List Task) → find (is_who k) (xs ++ t ∷ []) ≡ Some x
    → (find (is_who k) xs ≡ Some x) ⊎ ((x ≡ t) × (is_who k t ≡ true))
added-found k t x [] e = added-one k t x (is_who k t) refl e
added-found k t x (z ∷ zs) e = added-step k t x z (find (is_who k) zs) (find (is_who k) (zs ++ t ∷ [])) (is_who k z) e (added-found k t x zs)
