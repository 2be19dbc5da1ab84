-- A task, or the agent, as it stands in a world: what holds of it where somebody is edited.
use Rattle.std.proofs.Common.{◌≡◌, ℕ, Bool, true, false, cond, List, [], ◌∷◌, ◌++◌, Option, Some, None, refl, sym, ap, subst, ◌∙◌, eq-eqb}
use Rattle.std.proofs.lemmas.Bool.{eqb-true, false≢true}
use Rattle.std.specs.Prelude.{find, not, unwrap_or}
use Rattle.ann_base.specs.declared.identities.TaskNo.{TaskNo}
use Rattle.trace_text.specs.declared.events.Who.{Who}
use Rattle.trace_text.specs.declared.events.Who.TheVariants as who
use Rattle.profile_machine.specs.declared.world.World.{World}
use Rattle.profile_machine.specs.declared.world.tasks.Task.{Task}
use Rattle.profile_image.specs.Words.{same_who, set_where, without}
use Rattle.profile_machine.specs.Tasks.{is_who, nobody, task_at, task_of, edit_task_found, edit_task}
use Rattle.machine_laws.proofs.QueueLemmas.{by_test}

-- who has this name among these tasks, or the agent
abbrev pub one_of : List Task → Task → Who → Task
one_of tasks agent (who.Task n) = unwrap_or (find (is_who (who.Task n)) tasks) nobody
one_of tasks agent who.Agent = agent

pub one_of-is : (w : World) (name : Who) → one_of w.tasks w.agent name ≡ task_of w name
one_of-is w (who.Task n) = refl
one_of-is w who.Agent = refl

pub same_who-path : (a b : Who) → same_who a b ≡ true → a ≡ b
same_who-path (who.Task a) (who.Task b) e = ap (λ (n : ℕ). who.Task (record { 0 = n })) (eqb-true a.0 b.0 e)
same_who-path (who.Task a) who.Agent e = absurd (false≢true e)
same_who-path who.Agent (who.Task b) e = absurd (false≢true e)
same_who-path who.Agent who.Agent e = refl

pub both-same : (m k : TaskNo) (name : Who) → same_who (who.Task m) name ≡ true → same_who (who.Task k) name ≡ true → same_who (who.Task m) (who.Task k) ≡ true
both-same m k (who.Task n) e f = eq-eqb m.0 k.0 (eqb-true m.0 n.0 e ∙ sym (eqb-true k.0 n.0 f))
both-same m k who.Agent e f = absurd (false≢true e)

pub other-name : (m k : TaskNo) (name : Who) → same_who (who.Task m) name ≡ false → same_who (who.Task k) name ≡ true
    → same_who (who.Task m) (who.Task k) ≡ false
other-name m k name e f = subst (λ n. same_who (who.Task m) n ≡ false) (sym (same_who-path (who.Task k) name f)) e

other-one : (m k : TaskNo) (name : Who) → same_who (who.Task m) name ≡ true → same_who (who.Task k) name ≡ false → same_who (who.Task m) (who.Task k) ≡ false
other-one m k name e f =
    by_test (same_who (who.Task m) (who.Task k))
    (λ same. absurd (false≢true (sym f ∙ subst (λ n. same_who n name ≡ true) (same_who-path (who.Task m) (who.Task k) same) e)))
    (λ apart. apart)

pub some-none : (x : Task) → None ≡ Some x → ⊥
some-none x e = cc

pub some-same : (x y : Task) → Some x ≡ Some y → x ≡ y
some-same x y e = cc

-- ---- what holds of the one that is found, or of nobody

abbrev pub seen : (Task → Type 0) → Option Task → Type 0
seen P found = P (unwrap_or found nobody)

pub tail-step : (P : Task → Type 0) (c : Bool) (z : Task) (rest other : Option Task) → (seen P rest → seen P other) → seen P (cond c (Some z) rest)
    → seen P (cond c (Some z) other)
tail-step P true z rest other k h = h
tail-step P false z rest other k h = k h

-- from P before to R behind: of the one that is edited by the edit, and of another as it is
module _ (P R : Task → Type 0) (m k : TaskNo) (x y : Task) (named : y.who ≡ x.who) (same : same_who (who.Task m) (who.Task k) ≡ true → P x → R y)
    (apart : same_who (who.Task m) (who.Task k) ≡ false → (t : Task) → P t → R t) where
  head-step : (c : Bool) (rest : Option Task) → is_who (who.Task m) x ≡ c → is_who (who.Task k) x ≡ true → seen P (cond c (Some x) rest)
      → seen R (cond (is_who (who.Task m) y) (Some y) rest)
  head-step true rest e f h = subst (λ b. seen R (cond b (Some y) rest)) (sym (ap (same_who (who.Task m)) named ∙ e)) (same (both-same m k x.who e f) h)
  head-step false rest e f h =
      subst (λ b. seen R (cond b (Some y) rest)) (sym (ap (same_who (who.Task m)) named ∙ e)) (apart (other-name m k x.who e f) (unwrap_or rest nobody) h)

  rest-step : (c : Bool) (z : Task) (rest other : Option Task) → is_who (who.Task m) z ≡ c → is_who (who.Task k) z ≡ false → (seen P rest → seen R other)
      → seen P (cond c (Some z) rest) → seen R (cond c (Some z) other)
  rest-step true z rest other e f onward h = apart (other-one m k z.who e f) z h
  rest-step false z rest other e f onward h = onward h

  set-step : (b : Bool) (z : Task) (zs : List Task) → is_who (who.Task k) z ≡ b → cond b (Some z) (find (is_who (who.Task k)) zs) ≡ Some x
      → (find (is_who (who.Task k)) zs ≡ Some x → seen P (find (is_who (who.Task m)) zs)
      → seen R (find (is_who (who.Task m)) (set_where (is_who (who.Task k)) y zs)))
      → seen P (cond (is_who (who.Task m) z) (Some z) (find (is_who (who.Task m)) zs))
      → seen R (find (is_who (who.Task m)) (cond b (y ∷ zs) (z ∷ set_where (is_who (who.Task k)) y zs)))
  set-step true z zs is e onward h =
      let one : z ≡ x = some-same z x e in
      head-step (is_who (who.Task m) x) (find (is_who (who.Task m)) zs) refl (subst (λ t. is_who (who.Task k) t ≡ true) one is)
      (subst (λ t. seen P (cond (is_who (who.Task m) t) (Some t) (find (is_who (who.Task m)) zs))) one h)
  set-step false z zs is e onward h =
      rest-step (is_who (who.Task m) z) z (find (is_who (who.Task m)) zs) (find (is_who (who.Task m)) (set_where (is_who (who.Task k)) y zs)) refl is
      (onward e) h

  set-all : (zs : List Task) → find (is_who (who.Task k)) zs ≡ Some x → seen P (find (is_who (who.Task m)) zs)
      → seen R (find (is_who (who.Task m)) (set_where (is_who (who.Task k)) y zs))
  set-all [] e h = absurd (some-none x e)
  set-all (z ∷ zs) e h = set-step (is_who (who.Task k) z) z zs refl e (λ g i. set-all zs g i) h

-- where the one that is to be edited is not there
none-found : (P R : Task → Type 0) (me n : Who) (w : World) (b : Bool) → same_who me n ≡ b → (b ≡ false → (t : Task) → P t → R t) → (P nobody → R nobody)
    → task_at w n ≡ None → P (one_of w.tasks w.agent me) → R (one_of w.tasks w.agent me)
none-found P R me n w false is apart blank e h = apart refl (one_of w.tasks w.agent me) h
none-found P R me n w true is apart blank e h =
    let same : me ≡ n = same_who-path me n is in
    let absent : one_of w.tasks w.agent me ≡ nobody = one_of-is w me ∙ ap (task_of w) same ∙ ap (λ found. unwrap_or found nobody) e in
    subst R (sym absent) (blank (subst P absent h))

edited-found : (P R : Task → Type 0) (me n : Who) (f : Task → Task) (w : World) → ((t : Task) → (f t).who ≡ t.who)
    → (same_who me n ≡ true → (t : Task) → P t → R (f t)) → (same_who me n ≡ false → (t : Task) → P t → R t) → (P nobody → R nobody)
    → (found : Option Task) → task_at w n ≡ found → P (one_of w.tasks w.agent me) → let v = edit_task_found n f w found in R (one_of v.tasks v.agent me)
edited-found P R me n f w named same apart blank None e h = none-found P R me n w (same_who me n) refl apart blank e h
edited-found P R (who.Task m) (who.Task k) f w named same apart blank (Some x) e h = set-all P R m k x (f x) (named x) (λ i g. same i x g) apart w.tasks e h
edited-found P R who.Agent (who.Task k) f w named same apart blank (Some x) e h = apart refl w.agent h
edited-found P R (who.Task m) who.Agent f w named same apart blank (Some x) e h = apart refl (one_of w.tasks w.agent (who.Task m)) h
edited-found P R who.Agent who.Agent f w named same apart blank (Some x) e h = same refl x (subst P (some-same w.agent x e) h)

pub edited_to : (P R : Task → Type 0) (me n : Who) (f : Task → Task) (w : World) → ((t : Task) → (f t).who ≡ t.who)
    → (same_who me n ≡ true → (t : Task) → P t → R (f t)) → (same_who me n ≡ false → (t : Task) → P t → R t) → (P nobody → R nobody)
    → P (one_of w.tasks w.agent me) → let v = edit_task n f w in R (one_of v.tasks v.agent me)
edited_to P R me n f w named same apart blank h = edited-found P R me n f w named same apart blank (task_at w n) refl h

-- of somebody when somebody is edited: where it is the same one, what the edit keeps
pub edited : (P : Task → Type 0) (me n : Who) (f : Task → Task) (w : World) → ((t : Task) → (f t).who ≡ t.who)
    → (same_who me n ≡ true → (t : Task) → P t → P (f t)) → P (one_of w.tasks w.agent me)
    → let v = edit_task n f w in P (one_of v.tasks v.agent me)
edited P me n f w named same h = edited_to P P me n f w named same (λ e t g. g) (λ g. g) h

-- ---- tasks that come and go

added-last : (P : Task → Type 0) (c : Bool) (x : Task) → P x → P nobody → seen P (cond c (Some x) None)
added-last P true x new blank = new
added-last P false x new blank = blank

pub added-among : (P : Task → Type 0) (n : TaskNo) (x : Task) (ts : List Task) → P x → P nobody → seen P (find (is_who (who.Task n)) ts)
    → seen P (find (is_who (who.Task n)) (ts ++ x ∷ []))
added-among P n x [] new blank h = added-last P (is_who (who.Task n) x) x new blank
added-among P n x (t ∷ ts) new blank h =
    tail-step P (is_who (who.Task n) t) t (find (is_who (who.Task n)) ts) (find (is_who (who.Task n)) (ts ++ x ∷ [])) (λ g. added-among P n x ts new blank g) h

pub added : (P : Task → Type 0) (me : Who) (x : Task) (ts : List Task) (agent : Task) → P x → P nobody → P (one_of ts agent me)
    → P (one_of (ts ++ x ∷ []) agent me)
added P (who.Task n) x ts agent new blank h = added-among P n x ts new blank h
added P who.Agent x ts agent new blank h = h

none-step : (n : Who) (z : Task) (rest : List Task) (b : Bool) → is_who n z ≡ b → find (is_who n) rest ≡ None
    → find (is_who n) (cond (not b) (z ∷ rest) rest) ≡ None
none-step n z rest true is e = e
none-step n z rest false is e = ap (λ c. cond c (Some z) (find (is_who n) rest)) is ∙ e

pub none-left : (n : Who) (ts : List Task) → find (is_who n) (without (is_who n) ts) ≡ None
none-left n [] = refl
none-left n (z ∷ zs) = none-step n z (without (is_who n) zs) (is_who n z) refl (none-left n zs)

pub apart-names : (m n a : Who) → same_who m n ≡ false → same_who n a ≡ true → same_who m a ≡ false
apart-names m n a e f = let is : n ≡ a = same_who-path n a f in subst (λ x. same_who m x ≡ false) is e

others-step : (P : Task → Type 0) (m n : Who) (z : Task) (zs left : List Task) (b : Bool) → is_who n z ≡ b → same_who m n ≡ false
    → (seen P (find (is_who m) zs) → seen P (find (is_who m) left))
    → seen P (cond (is_who m z) (Some z) (find (is_who m) zs)) → seen P (find (is_who m) (cond (not b) (z ∷ left) left))
others-step P m n z zs left true is e onward h =
    onward (subst (λ c. seen P (cond c (Some z) (find (is_who m) zs))) (apart-names m n z.who e is) h)
others-step P m n z zs left false is e onward h = tail-step P (is_who m z) z (find (is_who m) zs) (find (is_who m) left) onward h

pub others-left : (P : Task → Type 0) (m n : Who) (ts : List Task) → same_who m n ≡ false → seen P (find (is_who m) ts)
    → seen P (find (is_who m) (without (is_who n) ts))
others-left P m n [] e h = h
others-left P m n (z ∷ zs) e h = others-step P m n z zs (without (is_who n) zs) (is_who n z) refl e (λ g. others-left P m n zs e g) h

pub left-where : (P : Task → Type 0) (m n : Who) (ts : List Task) (b : Bool) → same_who m n ≡ b → P nobody → seen P (find (is_who m) ts)
    → seen P (find (is_who m) (without (is_who n) ts))
left-where P m n ts true e blank h =
    let is : m ≡ n = same_who-path m n e in
    subst (λ x. seen P (find (is_who x) (without (is_who n) ts))) (sym is) (subst (seen P) (sym (none-left n ts)) blank)
left-where P m n ts false e blank h = others-left P m n ts e h

pub gone : (P : Task → Type 0) (me n : Who) (ts : List Task) (agent : Task) → P nobody → P (one_of ts agent me) → P (one_of (without (is_who n) ts) agent me)
gone P (who.Task k) n ts agent blank h = left-where P (who.Task k) n ts (same_who (who.Task k) n) refl blank h
gone P who.Agent n ts agent blank h = h
