-- The names of a world's tasks: each stands there once, and below the number that is drawn next.
use Rattle.std.proofs.Common.{◌≡◌, ℕ, suc, Bool, true, false, cond, not, List, [], ◌∷◌, ◌++◌, Option, Some}
use Rattle.std.proofs.Common.{None, find, filter, ltb, eqb, refl, sym, ap, subst, ◌∙◌, ◌⊎◌, inl, inr, arith}
use Rattle.std.proofs.lemmas.Bool.{false≢true}
use Rattle.trace_text.specs.declared.events.Who.{Who}
use Rattle.trace_text.specs.declared.events.Who.TheVariants as who
use Rattle.profile_machine.specs.declared.world.World.{World}
use Rattle.profile_machine.specs.declared.world.tasks.Task.{Task}
use Rattle.profile_image.specs.Words.{same_who, set_where, without}
use Rattle.profile_machine.specs.Tasks.{is_who, task_at, edit_task_found, edit_task}
use Rattle.world_laws.proofs.Sequences.TaskEdits.{by_bool, who-self, who-same}

abbrev pub names : List Task → List Who
names [] = []
names (t ∷ ts) = t.who ∷ names ts

abbrev pub ApartFrom : Who → List Who → Type 0
ApartFrom n [] = Unit {0}
ApartFrom n (m ∷ ms) = (same_who n m ≡ false) × ApartFrom n ms

abbrev pub AllApart : List Who → Type 0
AllApart [] = Unit {0}
AllApart (n ∷ ns) = ApartFrom n ns × AllApart ns

abbrev pub is_below : ℕ → Who → Bool
is_below d (who.Task n) = ltb n.0 d
is_below d who.Agent = false

abbrev pub AllBelow : ℕ → List Who → Type 0
AllBelow d [] = Unit {0}
AllBelow d (n ∷ ns) = (is_below d n ≡ true) × AllBelow d ns

-- ---- a task that is edited keeps its name

pub found-first : (x z : Task) (rest : Option Task) (b : Bool) → cond b (Some z) rest ≡ Some x → b ≡ true → z ≡ x
found-first x z rest true e is = cc
found-first x z rest false e is = absurd (false≢true is)

pub found-later : (x z : Task) (rest : Option Task) (b : Bool) → cond b (Some z) rest ≡ Some x → b ≡ false → rest ≡ Some x
found-later x z rest true e is = absurd (false≢true (sym is))
found-later x z rest false e is = e

set-names : (n : Who) (x y : Task) (xs : List Task) → find (is_who n) xs ≡ Some x → y.who ≡ x.who → names (set_where (is_who n) y xs) ≡ names xs
set-names n x y [] e same = refl
set-names n x y (z ∷ zs) e same =
    by_bool (is_who n z)
    (λ is. subst (λ b. names (cond b (y ∷ zs) (z ∷ set_where (is_who n) y zs)) ≡ names (z ∷ zs)) (sym is)
    (ap (λ m. m ∷ names zs) (same ∙ sym (ap (λ t. t.who) (found-first x z (find (is_who n) zs) (is_who n z) e is)))))
    (λ none. subst (λ b. names (cond b (y ∷ zs) (z ∷ set_where (is_who n) y zs)) ≡ names (z ∷ zs)) (sym none)
    (ap (λ ns. z.who ∷ ns) (set-names n x y zs (found-later x z (find (is_who n) zs) (is_who n z) e none) same)))

edited_found-names : (name : Who) (f : Task → Task) (w : World) (found : Option Task) → task_at w name ≡ found → ((t : Task) → (f t).who ≡ t.who)
    → names (edit_task_found name f w found).tasks ≡ names w.tasks
edited_found-names name f w None is same = refl
edited_found-names (who.Task n) f w (Some t) is same = set-names (who.Task n) t (f t) w.tasks is (same t)
edited_found-names who.Agent f w (Some t) is same = refl

pub edited-names : (name : Who) (f : Task → Task) (w : World) → ((t : Task) → (f t).who ≡ t.who) → names (edit_task name f w).tasks ≡ names w.tasks
edited-names name f w same = edited_found-names name f w (task_at w name) refl same

-- ---- tasks that are no longer there

rest-apart : (b : Bool) (n : Who) (t : Task) (ts : List Task) → same_who n t.who ≡ false → ApartFrom n (names ts) → ApartFrom n (names (cond b (t ∷ ts) ts))
rest-apart true n t ts a rest = (a, rest)
rest-apart false n t ts a rest = rest

pub filter-apart : (test : Task → Bool) (n : Who) (ts : List Task) → ApartFrom n (names ts) → ApartFrom n (names (filter test ts))
filter-apart test n [] h = tt
filter-apart test n (t ∷ ts) h = rest-apart (test t) n t (filter test ts) h.0 (filter-apart test n ts h.1)

rest-all : (b : Bool) (t : Task) (ts : List Task) → ApartFrom t.who (names ts) → AllApart (names ts) → AllApart (names (cond b (t ∷ ts) ts))
rest-all true t ts a rest = (a, rest)
rest-all false t ts a rest = rest

pub filter-all : (test : Task → Bool) (ts : List Task) → AllApart (names ts) → AllApart (names (filter test ts))
filter-all test [] h = tt
filter-all test (t ∷ ts) h = rest-all (test t) t (filter test ts) (filter-apart test t.who ts h.0) (filter-all test ts h.1)

rest-below : (b : Bool) (d : ℕ) (t : Task) (ts : List Task) → is_below d t.who ≡ true → AllBelow d (names ts) → AllBelow d (names (cond b (t ∷ ts) ts))
rest-below true d t ts a rest = (a, rest)
rest-below false d t ts a rest = rest

pub filter-below : (test : Task → Bool) (d : ℕ) (ts : List Task) → AllBelow d (names ts) → AllBelow d (names (filter test ts))
filter-below test d [] h = tt
filter-below test d (t ∷ ts) h = rest-below (test t) d t (filter test ts) h.0 (filter-below test d ts h.1)

-- who is forgotten is found no more, and others are found as before
kept-find : (b : Bool) (n m : Who) (t : Task) (ts rest : List Task) → is_who n t ≡ b → (b ≡ true → is_who m t ≡ false)
    → find (is_who m) rest ≡ find (is_who m) ts → find (is_who m) (cond (not b) (t ∷ rest) rest) ≡ find (is_who m) (t ∷ ts)
kept-find true n m t ts rest is apart onward = onward ∙ sym (ap (λ c. cond c (Some t) (find (is_who m) ts)) (apart refl))
kept-find false n m t ts rest is apart onward = ap (λ f. cond (is_who m t) (Some t) f) onward

apart-named : (n m : Who) (t : Task) → same_who n m ≡ false → is_who n t ≡ true → is_who m t ≡ false
apart-named n m t apart is =
    by_bool (is_who m t)
    (λ k. absurd (false≢true (sym apart ∙ subst (λ a. same_who n a ≡ true) (sym (who-same m t.who k)) is)))
    (λ k. k)

pub forgotten-other : (n m : Who) (ts : List Task) → same_who n m ≡ false → find (is_who m) (without (is_who n) ts) ≡ find (is_who m) ts
forgotten-other n m [] apart = refl
forgotten-other n m (t ∷ ts) apart =
    kept-find (is_who n t) n m t ts (without (is_who n) ts) refl (λ is. apart-named n m t apart is) (forgotten-other n m ts apart)

gone-find : (b : Bool) (n : Who) (t : Task) (rest : List Task) → is_who n t ≡ b → find (is_who n) rest ≡ None
    → find (is_who n) (cond (not b) (t ∷ rest) rest) ≡ None
gone-find true n t rest is onward = onward
gone-find false n t rest is onward = ap (λ c. cond c (Some t) (find (is_who n) rest)) is ∙ onward

pub forgotten-own : (n : Who) (ts : List Task) → find (is_who n) (without (is_who n) ts) ≡ None
forgotten-own n [] = refl
forgotten-own n (t ∷ ts) = gone-find (is_who n t) n t (without (is_who n) ts) refl (forgotten-own n ts)

-- ---- a new task

less-suc : (a b : ℕ) → ltb a b ≡ true → ltb a (suc b) ≡ true
less-suc a b h = grind arith

less-differ : (a b : ℕ) → ltb a b ≡ true → eqb a b ≡ false
less-differ a b h = grind arith

less-next : (a : ℕ) → ltb a (suc a) ≡ true
less-next a = grind arith

below-later : (d : ℕ) (n : Who) → is_below d n ≡ true → is_below (suc d) n ≡ true
below-later d (who.Task n) h = less-suc n.0 d h
below-later d who.Agent h = h

apart-next : (d : ℕ) (n m : Who) → m ≡ who.Task (record { 0 = d }) → is_below d n ≡ true → same_who n m ≡ false
apart-next d (who.Task n) m is h = subst (λ k. same_who (who.Task n) k ≡ false) (sym is) (less-differ n.0 d h)
apart-next d who.Agent m is h = absurd (false≢true h)

added-apart : (d : ℕ) (n : Who) (t : Task) (ts : List Task) → t.who ≡ who.Task (record { 0 = d }) → is_below d n ≡ true → ApartFrom n (names ts)
    → ApartFrom n (names (ts ++ t ∷ []))
added-apart d n t [] is h rest = (apart-next d n t.who is h, tt)
added-apart d n t (u ∷ us) is h rest = (rest.0, added-apart d n t us is h rest.1)

pub added-all : (d : ℕ) (t : Task) (ts : List Task) → t.who ≡ who.Task (record { 0 = d }) → AllBelow d (names ts) → AllApart (names ts)
    → AllApart (names (ts ++ t ∷ []))
added-all d t [] is below h = (tt, tt)
added-all d t (u ∷ us) is below h = (added-apart d u.who t us is below.0 h.0, added-all d t us is below.1 h.1)

new-below : (d : ℕ) (m : Who) → m ≡ who.Task (record { 0 = d }) → is_below (suc d) m ≡ true
new-below d m is = subst (λ k. is_below (suc d) k ≡ true) (sym is) (less-next d)

pub added-below : (d : ℕ) (t : Task) (ts : List Task) → t.who ≡ who.Task (record { 0 = d }) → AllBelow d (names ts) → AllBelow (suc d) (names (ts ++ t ∷ []))
added-below d t [] is h = (new-below d t.who is, tt)
added-below d t (u ∷ us) is h = (below-later d u.who h.0, added-below d t us is h.1)

-- who is found then was there, or is the new task
added-step : (b : Bool) (u : Task) (a c : Option Task) (t : Task) → (a ≡ c) ⊎ ((c ≡ None) × (a ≡ Some t))
    → (cond b (Some u) a ≡ cond b (Some u) c) ⊎ ((cond b (Some u) c ≡ None) × (cond b (Some u) a ≡ Some t))
added-step true u a c t h = inl refl
added-step false u a c t h = h

new-found : (b : Bool) (t : Task) (absent : Option Task) → absent ≡ None
    → (cond b (Some t) absent ≡ absent) ⊎ ((absent ≡ None) × (cond b (Some t) absent ≡ Some t))
new-found true t absent is = inr (is, refl)
new-found false t absent is = inl refl

pub added-find : (m : Who) (t : Task) (ts : List Task)
    → (find (is_who m) (ts ++ t ∷ []) ≡ find (is_who m) ts) ⊎ ((find (is_who m) ts ≡ None) × (find (is_who m) (ts ++ t ∷ []) ≡ Some t))
added-find m t [] = new-found (is_who m t) t (find (is_who m) []) refl
added-find m t (u ∷ us) = added-step (is_who m u) u (find (is_who m) (us ++ t ∷ [])) (find (is_who m) us) t (added-find m t us)

-- ---- a task that is listed is the one that is found by its name

first-named : (t u : Task) (ts : List Task) → is_who u.who t ≡ false → find (is_who u.who) ts ≡ Some u → find (is_who u.who) (t ∷ ts) ≡ Some u
first-named t u ts apart is = ap (λ b. cond b (Some t) (find (is_who u.who) ts)) apart ∙ is

-- in a list of tasks
abbrev pub Listed : Task → List Task → Type 0
Listed u [] = ⊥
Listed u (t ∷ ts) = (u ≡ t) ⊎ Listed u ts

apart-listed : (n : Who) (u : Task) (ts : List Task) → Listed u ts → ApartFrom n (names ts) → same_who n u.who ≡ false
apart-listed n u [] l h = absurd l
apart-listed n u (t ∷ ts) (inl is) h = subst (λ k. same_who n k.who ≡ false) (sym is) h.0
apart-listed n u (t ∷ ts) (inr l) h = apart-listed n u ts l h.1

flip-apart : (n m : Who) → same_who n m ≡ false → same_who m n ≡ false
flip-apart n m e = by_bool (same_who m n) (λ t. absurd (false≢true (sym e ∙ subst (λ k. same_who n k ≡ true) (sym (who-same m n t)) (who-self n)))) (λ t. t)

pub listed-found : (u : Task) (ts : List Task) → Listed u ts → AllApart (names ts) → find (is_who u.who) ts ≡ Some u
listed-found u [] l h = absurd l
listed-found u (t ∷ ts) (inl is) h = subst (λ k. find (is_who u.who) (k ∷ ts) ≡ Some u) is (ap (λ b. cond b (Some u) (find (is_who u.who) ts)) (who-self u.who))
listed-found u (t ∷ ts) (inr l) h = first-named t u ts (flip-apart t.who u.who (apart-listed t.who u ts l h.0)) (listed-found u ts l h.1)

find-step : (test : Task → Bool) (b : Bool) (t u : Task) (ts : List Task) → test t ≡ b → cond b (Some t) (find test ts) ≡ Some u
    → (find test ts ≡ Some u → Listed u ts × (test u ≡ true)) → Listed u (t ∷ ts) × (test u ≡ true)
find-step test true t u ts is e onward = let one : t ≡ u = cc in (inl (sym one), subst (λ k. test k ≡ true) one is)
find-step test false t u ts is e onward = let h = onward e in (inr h.0, h.1)

pub find-listed : (test : Task → Bool) (ts : List Task) (u : Task) → find test ts ≡ Some u → Listed u ts × (test u ≡ true)
find-listed test [] u e = absurd (let never : None ≡ Some u = e in cc)
find-listed test (t ∷ ts) u e = find-step test (test t) t u ts refl e (λ k. find-listed test ts u k)
