-- A task, or the agent, as it stands in a world: what holds of it where somebody is edited.
use Rattle.std.proofs.Common.{◌≡◌, Bool, true, false, cond, List, [], ◌∷◌, ◌++◌, Some, None, refl, sym, subst}
use Rattle.std.specs.Prelude.{find, not}
use Rattle.ann_base.specs.declared.identities.TaskNo.{TaskNo}
use Rattle.trace_text.specs.declared.events.Who.{Who}
use Rattle.trace_text.specs.declared.events.Who.TheVariants as who
use Rattle.profile_machine.specs.declared.world.tasks.Task.{Task}
use Rattle.profile_image.specs.Words.{same_who, without}
use Rattle.profile_machine.specs.Tasks.{is_who, nobody}
use Rattle.line_laws.proofs.Exits.TaskEdits.{apart-names, none-left, one_of, same_who-path, seen, tail-step}

-- ---- tasks that come and go

added-last : (P : Task → Type 0) (c : Bool) (x : Task) → (c ≡ true → P x) → P nobody → seen P (cond c (Some x) None)
added-last P true x new blank = new refl
added-last P false x new blank = blank

added-among : (P : Task → Type 0) (n : TaskNo) (x : Task) (ts : List Task) → (is_who (who.Task n) x ≡ true → P x) → P nobody
    → seen P (find (is_who (who.Task n)) ts) → seen P (find (is_who (who.Task n)) (ts ++ x ∷ []))
added-among P n x [] new blank h = added-last P (is_who (who.Task n) x) x new blank
added-among P n x (t ∷ ts) new blank h =
    tail-step P (is_who (who.Task n) t) t (find (is_who (who.Task n)) ts) (find (is_who (who.Task n)) (ts ++ x ∷ [])) (λ g. added-among P n x ts new blank g) h

pub added : (P : Task → Type 0) (me : Who) (x : Task) (ts : List Task) (agent : Task) → (is_who me x ≡ true → P x) → P nobody → P (one_of ts agent me)
    → P (one_of (ts ++ x ∷ []) agent me)
added P (who.Task n) x ts agent new blank h = added-among P n x ts new blank h
added P who.Agent x ts agent new blank h = h

-- who was there is as before
kept-among : (P : Task → Type 0) (n : TaskNo) (x : Task) (ts : List Task) → (P nobody → ⊥) → seen P (find (is_who (who.Task n)) ts)
    → seen P (find (is_who (who.Task n)) (ts ++ x ∷ []))
kept-among P n x [] blank h = absurd (blank h)
kept-among P n x (t ∷ ts) blank h =
    tail-step P (is_who (who.Task n) t) t (find (is_who (who.Task n)) ts) (find (is_who (who.Task n)) (ts ++ x ∷ [])) (λ g. kept-among P n x ts blank g) h

pub still : (P : Task → Type 0) (me : Who) (x : Task) (ts : List Task) (agent : Task) → (P nobody → ⊥) → P (one_of ts agent me)
    → P (one_of (ts ++ x ∷ []) agent me)
still P (who.Task n) x ts agent blank h = kept-among P n x ts blank h
still P who.Agent x ts agent blank h = h

others-step : (P : Task → Type 0) (m n : Who) (z : Task) (zs left : List Task) (b : Bool) → is_who n z ≡ b → same_who m n ≡ false
    → (seen P (find (is_who m) zs) → seen P (find (is_who m) left))
    → seen P (cond (is_who m z) (Some z) (find (is_who m) zs)) → seen P (find (is_who m) (cond (not b) (z ∷ left) left))
others-step P m n z zs left true is e onward h =
    onward (subst (λ c. seen P (cond c (Some z) (find (is_who m) zs))) (apart-names m n z.who e is) h)
others-step P m n z zs left false is e onward h = tail-step P (is_who m z) z (find (is_who m) zs) (find (is_who m) left) onward h

others-left : (P : Task → Type 0) (m n : Who) (ts : List Task) → same_who m n ≡ false → seen P (find (is_who m) ts)
    → seen P (find (is_who m) (without (is_who n) ts))
others-left P m n [] e h = h
others-left P m n (z ∷ zs) e h = others-step P m n z zs (without (is_who n) zs) (is_who n z) refl e (λ g. others-left P m n zs e g) h

left-where : (P : Task → Type 0) (m n : Who) (ts : List Task) (b : Bool) → same_who m n ≡ b → (same_who m n ≡ true → P nobody) → seen P (find (is_who m) ts)
    → seen P (find (is_who m) (without (is_who n) ts))
left-where P m n ts true e blank h =
    let is : m ≡ n = same_who-path m n e in
    subst (λ x. seen P (find (is_who x) (without (is_who n) ts))) (sym is) (subst (seen P) (sym (none-left n ts)) (blank e))
left-where P m n ts false e blank h = others-left P m n ts e h

pub gone : (P : Task → Type 0) (me n : Who) (ts : List Task) (agent : Task) → P nobody → P (one_of ts agent me) → P (one_of (without (is_who n) ts) agent me)
gone P (who.Task k) n ts agent blank h = left-where P (who.Task k) n ts (same_who (who.Task k) n) refl (λ same. blank) h
gone P who.Agent n ts agent blank h = h

-- another is as before
pub left : (P : Task → Type 0) (me n : Who) (ts : List Task) (agent : Task) → (same_who me n ≡ true → P nobody) → P (one_of ts agent me)
    → P (one_of (without (is_who n) ts) agent me)
left P (who.Task k) n ts agent blank h = left-where P (who.Task k) n ts (same_who (who.Task k) n) refl blank h
left P who.Agent n ts agent blank h = h
