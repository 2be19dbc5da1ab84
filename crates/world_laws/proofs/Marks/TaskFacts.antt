-- Facts of all tasks of a list, where one is edited, comes or goes; and of what is found in a list.
use Rattle.std.proofs.Common.{◌≡◌, ◌<◌, Bool, true, false, cond, not, ◌||◌, List, [], ◌∷◌, ◌++◌, Option, Some, None, refl, sym, ap, subst, ◌∙◌}
use Rattle.std.proofs.lemmas.Bool.{false≢true, or_left, or_right}
use Rattle.std.specs.Prelude.{find, filter}
use Rattle.std.specs.List.{list_any}
use Rattle.ann_base.specs.declared.identities.TaskNo.{TaskNo}
use Rattle.trace_text.specs.declared.events.Who.{Who}
use Rattle.trace_text.specs.declared.events.Who.TheVariants as who
use Rattle.profile_machine.specs.declared.world.World.{World}
use Rattle.profile_machine.specs.declared.world.tasks.Task.{Task}
use Rattle.profile_image.specs.Words.{same_who, without, set_where}
use Rattle.profile_machine.specs.Tasks.{nobody, is_who, edit_task}
use Rattle.profile_machine.specs.Tasking.{abnormal_task}
use Rattle.machine_laws.proofs.FineMoves.{edit_task-drawn}
use Rattle.line_laws.proofs.Exits.TaskEdits.{edited_to, same_who-path}
use Rattle.line_laws.proofs.Leaving.WakingRuns.{same_self}
use Rattle.world_laws.proofs.Marks.MarkFacts.{Distinct, Drawn, DrawnTo, Marked, AbnormalAs}
use Rattle.world_laws.proofs.Queues.Listed.{AllTasks}

-- ---- what is found

found-step : {X : Type 0} (b : Bool) (test : X → Bool) (y x : X) (rest : Option X) → test y ≡ b → (rest ≡ Some x → test x ≡ true)
    → cond b (Some y) rest ≡ Some x → test x ≡ true
found-step true test y x rest e onward h = let same : y ≡ x = cc in ap test (sym same) ∙ e
found-step false test y x rest e onward h = onward h

pub found-test : {X : Type 0} (test : X → Bool) (x : X) (xs : List X) → find test xs ≡ Some x → test x ≡ true
found-test test x [] h = cc
found-test test x (y ∷ ys) h = found-step (test y) test y x (find test ys) refl (λ k. found-test test x ys k) h

any-step : {X : Type 0} (b : Bool) (y x : X) (q : X → Bool) (xs : List X) (rest : Option X) → q x ≡ true → (rest ≡ Some x → list_any q xs ≡ true)
    → cond b (Some y) rest ≡ Some x → list_any q (y ∷ xs) ≡ true
any-step true y x q xs rest is onward h = let same : y ≡ x = cc in or_left (q y) (list_any q xs) (ap q same ∙ is)
any-step false y x q xs rest is onward h = or_right (q y) (list_any q xs) (onward h)

pub found-any : {X : Type 0} (q test : X → Bool) (x : X) (xs : List X) → find test xs ≡ Some x → q x ≡ true → list_any q xs ≡ true
found-any q test x [] h is = cc
found-any q test x (y ∷ ys) h is = any-step (test y) y x q ys (find test ys) is (λ k. found-any q test x ys k is) h

-- what is left out is not there, and what is there was there
none-step : {X : Type 0} (b : Bool) (q : X → Bool) (y : X) (left : List X) → q y ≡ b → list_any q left ≡ false
    → list_any q (cond (not b) (y ∷ left) left) ≡ false
none-step true q y left e h = h
none-step false q y left e h = ap (λ b. b || list_any q left) e ∙ h

pub none-without : {X : Type 0} (q : X → Bool) (xs : List X) → list_any q (without q xs) ≡ false
none-without q [] = refl
none-without q (y ∷ ys) = none-step (q y) q y (without q ys) refl (none-without q ys)

either : (a b c : Bool) → (b ≡ true → c ≡ true) → (a || b) ≡ true → (a || c) ≡ true
either true b c k h = refl
either false b c k h = k h

fewer-step : {X : Type 0} (b : Bool) (q : X → Bool) (y : X) (ys left : List X) → (list_any q left ≡ true → list_any q ys ≡ true)
    → list_any q (cond b (y ∷ left) left) ≡ true → (q y || list_any q ys) ≡ true
fewer-step true q y ys left onward h = either (q y) (list_any q left) (list_any q ys) onward h
fewer-step false q y ys left onward h = or_right (q y) (list_any q ys) (onward h)

pub fewer-any : {X : Type 0} (q test : X → Bool) (xs : List X) → list_any q (without test xs) ≡ true → list_any q xs ≡ true
fewer-any q test [] h = h
fewer-any q test (y ∷ ys) h = fewer-step (not (test y)) q y ys (without test ys) (λ k. fewer-any q test ys k) h

not_found-step : {X : Type 0} (b : Bool) (q : X → Bool) (y : X) (left : List X) → q y ≡ b → find q left ≡ None → find q (cond (not b) (y ∷ left) left) ≡ None
not_found-step true q y left e h = h
not_found-step false q y left e h = ap (λ b. cond b (Some y) (find q left)) e ∙ h

pub not_found-without : {X : Type 0} (q : X → Bool) (xs : List X) → find q (without q xs) ≡ None
not_found-without q [] = refl
not_found-without q (y ∷ ys) = not_found-step (q y) q y (without q ys) refl (not_found-without q ys)

-- ---- all tasks

filter-step : (P : Task → Type 0) (b : Bool) (t : Task) (left : List Task) → P t → AllTasks P left → AllTasks P (cond b (t ∷ left) left)
filter-step P true t left h k = (h, k)
filter-step P false t left h k = k

pub all-filter : (P : Task → Type 0) (test : Task → Bool) (ts : List Task) → AllTasks P ts → AllTasks P (filter test ts)
all-filter P test [] h = tt
all-filter P test (t ∷ ts) h = filter-step P (test t) t (filter test ts) h.0 (all-filter P test ts h.1)

all_found-step : (P : Task → Type 0) (b : Bool) (t x : Task) (rest : Option Task) → P t → (rest ≡ Some x → P x) → cond b (Some t) rest ≡ Some x → P x
all_found-step P true t x rest h onward e = let same : t ≡ x = cc in subst P same h
all_found-step P false t x rest h onward e = onward e

pub all-found : (P : Task → Type 0) (test : Task → Bool) (x : Task) (ts : List Task) → AllTasks P ts → find test ts ≡ Some x → P x
all-found P test x [] h e = cc
all-found P test x (t ∷ ts) h e = all_found-step P (test t) t x (find test ts) h.0 (λ k. all-found P test x ts h.1 k) e

set-step : (P : Task → Type 0) (b : Bool) (t x : Task) (ts set : List Task) → P t → P x → AllTasks P ts → AllTasks P set
    → AllTasks P (cond b (x ∷ ts) (t ∷ set))
set-step P true t x ts set h k rest onward = (k, rest)
set-step P false t x ts set h k rest onward = (h, onward)

pub all-set : (P : Task → Type 0) (test : Task → Bool) (x : Task) (ts : List Task) → P x → AllTasks P ts → AllTasks P (set_where test x ts)
all-set P test x [] k h = tt
all-set P test x (t ∷ ts) k h = set-step P (test t) t x ts (set_where test x ts) h.0 k h.1 (all-set P test x ts k h.1)

pub all-added : (P : Task → Type 0) (x : Task) (ts : List Task) → P x → AllTasks P ts → AllTasks P (ts ++ x ∷ [])
all-added P x [] k h = (k, tt)
all-added P x (t ∷ ts) k h = (h.0, all-added P x ts k h.1)

pub all-map : (P R : Task → Type 0) (ts : List Task) → ((t : Task) → P t → R t) → AllTasks P ts → AllTasks R ts
all-map P R [] k h = tt
all-map P R (t ∷ ts) k h = (k t h.0, all-map P R ts k h.1)

pub all-both : (P R S : Task → Type 0) (ts : List Task) → ((t : Task) → P t → R t → S t) → AllTasks P ts → AllTasks R ts → AllTasks S ts
all-both P R S [] k g h = tt
all-both P R S (t ∷ ts) k g h = (k t g.0 h.0, all-both P R S ts k g.1 h.1)

kept-step : (P : Task → Type 0) (test : Task → Bool) (t : Task) (left : List Task) (b : Bool) → test t ≡ b → P t → AllTasks (λ u. (test u ≡ true) × P u) left
    → AllTasks (λ u. (test u ≡ true) × P u) (cond b (t ∷ left) left)
kept-step P test t left true e h k = ((e, h), k)
kept-step P test t left false e h k = k

-- of those for which a test holds
pub all-kept : (P : Task → Type 0) (test : Task → Bool) (ts : List Task) → AllTasks P ts → AllTasks (λ t. (test t ≡ true) × P t) (filter test ts)
all-kept P test [] h = tt
all-kept P test (t ∷ ts) h = kept-step P test t (filter test ts) (test t) refl h.0 (all-kept P test ts h.1)

-- ---- names

distinct_set-step : (b : Bool) (test : Task → Bool) (x y t : Task) (ts : List Task) → x.who ≡ y.who → (find test ts ≡ Some y → Distinct (set_where test x ts))
    → Distinct (t ∷ ts) → cond b (Some t) (find test ts) ≡ Some y → Distinct (cond b (x ∷ ts) (t ∷ set_where test x ts))
distinct_set-step true test x y t ts same onward h found =
    let one : t ≡ y = cc in
    let named : x.who ≡ t.who = same ∙ sym (ap (λ (u : Task). u.who) one) in
    (subst (λ name. AllTasks (λ u. same_who u.who name ≡ false) ts) (sym named) h.0, h.1)
distinct_set-step false test x y t ts same onward h found = (
  all-set (λ u. same_who u.who t.who ≡ false) test x ts
      (ap (λ name. same_who name t.who) same ∙ all-found (λ u. same_who u.who t.who ≡ false) test y ts h.0 found) h.0,
  onward found,
)

pub distinct-set : (test : Task → Bool) (x y : Task) (ts : List Task) → x.who ≡ y.who → Distinct ts → find test ts ≡ Some y → Distinct (set_where test x ts)
distinct-set test x y [] same h found = tt
distinct-set test x y (t ∷ ts) same h found = distinct_set-step (test t) test x y t ts same (λ k. distinct-set test x y ts same h.1 k) h found

distinct_filter-step : (b : Bool) (t : Task) (left : List Task) → AllTasks (λ u. same_who u.who t.who ≡ false) left → Distinct left
    → Distinct (cond b (t ∷ left) left)
distinct_filter-step true t left apart h = (apart, h)
distinct_filter-step false t left apart h = h

pub distinct-filter : (test : Task → Bool) (ts : List Task) → Distinct ts → Distinct (filter test ts)
distinct-filter test [] h = tt
distinct-filter test (t ∷ ts) h =
    distinct_filter-step (test t) t (filter test ts) (all-filter (λ u. same_who u.who t.who ≡ false) test ts h.0) (distinct-filter test ts h.1)

pub distinct-added : (x : Task) (ts : List Task) → AllTasks (λ u. same_who x.who u.who ≡ false) ts → Distinct ts → Distinct (ts ++ x ∷ [])
distinct-added x [] apart h = (tt, tt)
distinct-added x (t ∷ ts) apart h = (all-added (λ u. same_who u.who t.who ≡ false) x ts apart.0 h.0, distinct-added x ts apart.1 h.1)

-- each is the one that is found by its name
pub distinct-found : (ts : List Task) → Distinct ts → AllTasks (λ t. find (is_who t.who) ts ≡ Some t) ts
distinct-found [] h = tt
distinct-found (t ∷ ts) h = (
  ap (λ b. cond b (Some t) (find (is_who t.who) ts)) (same_self t.who),
  all-both (λ u. same_who u.who t.who ≡ false) (λ u. find (is_who u.who) ts ≡ Some u) (λ u. find (is_who u.who) (t ∷ ts) ≡ Some u) ts
      (λ u apart found. ap (λ b. cond b (Some t) (find (is_who u.who) ts)) apart ∙ found) h.0 (distinct-found ts h.1),
)

-- another is found where one is left out
left_other-step : (a b : Who) (z : Task) (zs : List Task) (c : Bool) → same_who a b ≡ false → is_who b z ≡ c
    → find (is_who a) (without (is_who b) zs) ≡ find (is_who a) zs
    → find (is_who a) (cond (not c) (z ∷ without (is_who b) zs) (without (is_who b) zs)) ≡ find (is_who a) (z ∷ zs)
left_other-step a b z zs true apart is onward =
    let named : b ≡ z.who = same_who-path b z.who is in
    onward ∙ sym (ap (λ k. cond k (Some z) (find (is_who a) zs)) (ap (same_who a) (sym named) ∙ apart))
left_other-step a b z zs false apart is onward = ap (λ o. cond (is_who a z) (Some z) o) onward

pub left-other : (a b : Who) (ts : List Task) → same_who a b ≡ false → find (is_who a) (without (is_who b) ts) ≡ find (is_who a) ts
left-other a b [] apart = refl
left-other a b (z ∷ zs) apart = left_other-step a b z zs (is_who b z) apart refl (left-other a b zs apart)

-- ---- a task that has become abnormal

pub record KnownAbnormal (w : World) (t : Task) : Type 0 where
  pub number : TaskNo
  pub named : t.who ≡ who.Task number
  pub marked : Marked w number

pub no_name : {P : Type 0} (n : TaskNo) → is_who (who.Task n) nobody ≡ true → P
no_name n e = absurd (false≢true e)

abnormal-marked : (n : TaskNo) (w : World) → n.0 < w.drawn.tasks → Marked (edit_task (who.Task n) abnormal_task w) n
abnormal-marked n w low = (
  subst (λ d. n.0 < d.tasks) (sym (edit_task-drawn (who.Task n) abnormal_task w)) low,
  edited_to (λ t. Unit {0}) (AbnormalAs n) (who.Task n) (who.Task n) abnormal_task w (λ t. refl) (λ same t u e. refl)
      (λ apart. absurd (false≢true (sym apart ∙ same_self (who.Task n)))) (λ u e. no_name n e) tt,
)

named-known : (t : Task) (w : World) (name : Who) → t.who ≡ name → DrawnTo w.drawn.tasks name → KnownAbnormal (edit_task name abnormal_task w) t
named-known t w (who.Task n) is low = record { number = n; named = is; marked = abnormal-marked n w low }
named-known t w who.Agent is low = absurd low

pub becomes-known : (t : Task) (w : World) → Drawn w t.who → KnownAbnormal (edit_task t.who abnormal_task w) t
becomes-known t w drawn = named-known t w t.who refl drawn
