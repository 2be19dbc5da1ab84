-- The marks of a world that have a region: each region has one at most, and of that mark it is known whether its region is being
-- left.
use Rattle.std.proofs.Common.{◌≡◌, ℕ, Bool, true, false, cond, eqb, List, [], ◌∷◌, ◌++◌, Option}
use Rattle.std.proofs.Common.{Some, None, refl, sym, ap, subst, ◌∙◌, append_assoc, append-nil}
use Rattle.std.specs.Prelude.{find, filter}
use Rattle.ann_base.specs.declared.identities.RegionNo.{RegionNo}
use Rattle.trace_text.specs.declared.events.Who.{Who}
use Rattle.trace_text.specs.declared.events.Who.TheVariants as who
use Rattle.profile_machine.specs.declared.world.World.{World}
use Rattle.profile_machine.specs.declared.world.tasks.Task.{Task}
use Rattle.profile_image.specs.Words.{set_where}
use Rattle.profile_machine.specs.Tasks.{task_at, edit_task_found, edit_task, is_who}
use Rattle.line_laws.proofs.Leaving.FineMoves.{Nature, natures}

-- ---- of a region, whether each mark that has it is being left

abbrev pub with_flag : ℕ → Option RegionNo → Bool → List Bool → List Bool
with_flag r None b flags = flags
with_flag r (Some q) b flags = cond (eqb r q.0) (b ∷ flags) flags

abbrev pub flags_in : ℕ → List Nature → List Bool
flags_in r [] = []
flags_in r (n ∷ ns) = with_flag r n.region n.leaving (flags_in r ns)

abbrev pub flags_of : ℕ → List Task → List Bool
flags_of r [] = []
flags_of r (t ∷ ts) = flags_in r (natures t.frames) ++ flags_of r ts

abbrev pub flags : ℕ → List Task → Task → List Bool
flags r tasks agent = flags_of r tasks ++ flags_in r (natures agent.frames)

-- ---- at most one, of which something holds

abbrev pub Single : (Bool → Type 0) → List Bool → Type 0
Single P [] = Unit {0}
Single P (b ∷ []) = P b
Single P (b ∷ c ∷ rest) = ⊥

pub single-on : (P Q : Bool → Type 0) (bs : List Bool) → ((b : Bool) → P b → Q b) → Single P bs → Single Q bs
single-on P Q [] k h = tt
single-on P Q (b ∷ []) k h = k b h
single-on P Q (b ∷ c ∷ rest) k h = h

pub single-none : (P : Bool → Type 0) (bs : List Bool) → ((b : Bool) → P b → ⊥) → Single P bs → bs ≡ []
single-none P [] k h = refl
single-none P (b ∷ []) k h = absurd (k b h)
single-none P (b ∷ c ∷ rest) k h = absurd h

pub record Alone (P : Bool → Type 0) (b : Bool) (before behind : List Bool) : Type 0 where
  pub holds : P b
  pub none_before : before ≡ []
  pub none_behind : behind ≡ []

pub single-alone : (P : Bool → Type 0) (before : List Bool) (b : Bool) (behind : List Bool) → Single P (before ++ b ∷ behind) → Alone P b before behind
single-alone P [] b [] h = record { holds = h; none_before = refl; none_behind = refl }
single-alone P [] b (c ∷ rest) h = absurd h
single-alone P (a ∷ []) b behind h = absurd h
single-alone P (a ∷ c ∷ before) b behind h = absurd h

-- some fewer
pub Fewer : List Bool → List Bool → Type 1
Fewer less more = (P : Bool → Type 0) (before behind : List Bool) → Single P (before ++ (more ++ behind)) → Single P (before ++ (less ++ behind))

pub fewer-same : (less more : List Bool) → less ≡ more → Fewer less more
unfolding Fewer
fewer-same less more e P before behind h = subst (λ bs. Single P (before ++ (bs ++ behind))) (sym e) h

pub fewer-by : (less more : List Bool) → Fewer less more → (P : Bool → Type 0) → Single P more → Single P less
unfolding Fewer
fewer-by less more k P h = subst (Single P) (append-nil less) (k P [] [] (subst (Single P) (sym (append-nil more)) h))

pub fewer-drop : (b : Bool) (bs : List Bool) → Fewer bs (b ∷ bs)
unfolding Fewer
fewer-drop b bs P before behind h =
    let alone = single-alone P before b (bs ++ behind) h in
    subst (λ xs. Single P (xs ++ (bs ++ behind))) (sym alone.none_before) (subst (Single P) (sym alone.none_behind) tt)

pub fewer-behind : (first less more : List Bool) → Fewer less more → Fewer (first ++ less) (first ++ more)
unfolding Fewer
fewer-behind first less more k P before behind h =
    let apart = subst (Single P) (ap (λ xs. before ++ xs) (append_assoc first more behind) ∙ sym (append_assoc before first (more ++ behind))) h in
    subst (Single P) (append_assoc before first (less ++ behind) ∙ sym (ap (λ xs. before ++ xs) (append_assoc first less behind)))
    (k P (before ++ first) behind apart)

pub fewer-before : (less more last : List Bool) → Fewer less more → Fewer (less ++ last) (more ++ last)
unfolding Fewer
fewer-before less more last k P before behind h =
    subst (λ xs. Single P (before ++ xs)) (sym (append_assoc less last behind))
    (k P before (last ++ behind) (subst (λ xs. Single P (before ++ xs)) (append_assoc more last behind) h))

pub fewer-all : (first rest : List Bool) → Fewer rest (first ++ rest)
unfolding Fewer
fewer-all [] rest P before behind h = h
fewer-all (b ∷ first) rest P before behind h = fewer-all first rest P before behind (fewer-drop b (first ++ rest) P before behind h)

pub fewer-then : (a b c : List Bool) → Fewer a b → Fewer b c → Fewer a c
unfolding Fewer
fewer-then a b c k m P before behind h = k P before behind (m P before behind h)

-- a mark that ends, and tasks that are gone
without_flag : (r : ℕ) (region : Option RegionNo) (b : Bool) (bs : List Bool) → Fewer bs (with_flag r region b bs)
without_flag r None b bs = fewer-same bs bs refl
without_flag r (Some q) b bs = dropped (eqb r q.0) b bs where
  dropped : (test : Bool) (b : Bool) (bs : List Bool) → Fewer bs (cond test (b ∷ bs) bs)
  dropped true b bs = fewer-drop b bs
  dropped false b bs = fewer-same bs bs refl

pub fewer-natures : (r : ℕ) (n : Nature) (ns : List Nature) → Fewer (flags_in r ns) (flags_in r (n ∷ ns))
fewer-natures r n ns = without_flag r n.region n.leaving (flags_in r ns)

fewer-task : (r : ℕ) (keep : Bool) (t : Task) (left_over ts : List Task) → Fewer (flags_of r left_over) (flags_of r ts)
    → Fewer (flags_of r (cond keep (t ∷ left_over) left_over)) (flags_of r (t ∷ ts))
fewer-task r true t left_over ts k = fewer-behind (flags_in r (natures t.frames)) (flags_of r left_over) (flags_of r ts) k
fewer-task r false t left_over ts k =
    fewer-then (flags_of r left_over) (flags_of r ts) (flags_of r (t ∷ ts)) k (fewer-all (flags_in r (natures t.frames)) (flags_of r ts))

pub fewer-filter : (r : ℕ) (test : Task → Bool) (ts : List Task) → Fewer (flags_of r (filter test ts)) (flags_of r ts)
fewer-filter r test [] = fewer-same [] [] refl
fewer-filter r test (t ∷ ts) = fewer-task r (test t) t (filter test ts) ts (fewer-filter r test ts)

-- ---- the marks of one task among all

-- what stands round the marks of a task, whatever is edited in it
pub record Round (r : ℕ) (tasks : List Task) (test : Task → Bool) (t : Task) : Type 0 where
  pub before : List Bool
  pub behind : List Bool
  pub whole : flags_of r tasks ≡ before ++ (flags_in r (natures t.frames) ++ behind)
  pub edited : (u : Task) → flags_of r (set_where test u tasks) ≡ before ++ (flags_in r (natures u.frames) ++ behind)

round-step : (r : ℕ) (test : Task → Bool) (b : Bool) (z t : Task) (zs : List Task) → test z ≡ b → cond b (Some z) (find test zs) ≡ Some t
    → (find test zs ≡ Some t → Round r zs test t) → Round r (z ∷ zs) test t
round-step r test true z t zs is found onward =
    let same : z ≡ t = cc in
    record {
      before = [];
      behind = flags_of r zs;
      whole = ap (λ (x : Task). flags_in r (natures x.frames) ++ flags_of r zs) same;
      edited = λ u. ap (λ c. flags_of r (cond c (u ∷ zs) (z ∷ set_where test u zs))) is;
    }
round-step r test false z t zs is found onward =
    let rest = onward found in
    record {
      before = flags_in r (natures z.frames) ++ rest.before;
      behind = rest.behind;
      whole =
          ap (λ xs. flags_in r (natures z.frames) ++ xs) rest.whole
          ∙ sym (append_assoc (flags_in r (natures z.frames)) rest.before (flags_in r (natures t.frames) ++ rest.behind));
      edited = λ u.
          ap (λ c. flags_of r (cond c (u ∷ zs) (z ∷ set_where test u zs))) is
          ∙ ap (λ xs. flags_in r (natures z.frames) ++ xs) (rest.edited u)
          ∙ sym (append_assoc (flags_in r (natures z.frames)) rest.before (flags_in r (natures u.frames) ++ rest.behind));
    }

round : (r : ℕ) (tasks : List Task) (test : Task → Bool) (t : Task) → find test tasks ≡ Some t → Round r tasks test t
round r [] test t e = absurd cc
round r (z ∷ zs) test t e = round-step r test (test z) z t zs refl e (λ k. round r zs test t k)

pub record Around (r : ℕ) (name : Who) (w : World) (t : Task) : Type 0 where
  pub before : List Bool
  pub behind : List Bool
  pub whole : flags r w.tasks w.agent ≡ before ++ (flags_in r (natures t.frames) ++ behind)
  pub edited : (f : Task → Task) → let v = edit_task name f w in flags r v.tasks v.agent ≡ before ++ (flags_in r (natures (f t).frames) ++ behind)

pub around : (r : ℕ) (name : Who) (w : World) (t : Task) → task_at w name ≡ Some t → Around r name w t
around r who.Agent w t e =
    let same : w.agent ≡ t = cc in
    record {
      before = flags_of r w.tasks;
      behind = [];
      whole = ap (λ xs. flags_of r w.tasks ++ xs) (ap (λ (x : Task). flags_in r (natures x.frames)) same ∙ sym (append-nil (flags_in r (natures t.frames))));
      edited =
          λ f. ap (λ xs. flags_of r w.tasks ++ xs)
          (ap (λ (x : Task). flags_in r (natures (f x).frames)) same ∙ sym (append-nil (flags_in r (natures (f t).frames))));
    }
around r (who.Task n) w t e =
    let q = round r w.tasks (is_who (who.Task n)) t e in
    let last = flags_in r (natures w.agent.frames) in
    record {
      before = q.before;
      behind = q.behind ++ last;
      whole =
          ap (λ xs. xs ++ last) q.whole ∙ append_assoc q.before (flags_in r (natures t.frames) ++ q.behind) last
          ∙ ap (λ xs. q.before ++ xs) (append_assoc (flags_in r (natures t.frames)) q.behind last);
      edited = λ f.
          ap (λ found. let v = edit_task_found (who.Task n) f w found in flags r v.tasks v.agent) e
          ∙ ap (λ xs. xs ++ last) (q.edited (f t)) ∙ append_assoc q.before (flags_in r (natures (f t).frames) ++ q.behind) last
          ∙ ap (λ xs. q.before ++ xs) (append_assoc (flags_in r (natures (f t).frames)) q.behind last);
    }

-- an edit that leaves no more marks of a region leaves no more in all
pub edited-fewer : (r : ℕ) (name : Who) (f : Task → Task) (w : World) (t : Task) → task_at w name ≡ Some t
    → Fewer (flags_in r (natures (f t).frames)) (flags_in r (natures t.frames))
    → let v = edit_task name f w in (P : Bool → Type 0) → Single P (flags r w.tasks w.agent) → Single P (flags r v.tasks v.agent)
unfolding Fewer
edited-fewer r name f w t e k P h =
    let q = around r name w t e in
    subst (Single P) (sym (q.edited f)) (k P q.before q.behind (subst (Single P) q.whole h))
