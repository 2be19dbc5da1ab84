-- What else changes in a world: tasks that come and go, objects, and calls.
use Rattle.std.proofs.Common.{◌≡◌, ℕ, suc, ◌≤◌, ◌<◌, Bool, true, false, cond, not, ◌||◌, ◌⊎◌, inl, inr, List}
use Rattle.std.proofs.Common.{[], ◌∷◌, ◌++◌, Option, Some, None, refl, sym, ap, subst, ◌∙◌, eq-eqb, arith}
use Rattle.std.specs.Prelude.{find, option_and_then, is_some}
use Rattle.std.proofs.lemmas.Bool.{eqb-true, false≢true}
use Rattle.ann_base.specs.declared.identities.CallNo.{CallNo}
use Rattle.ann_base.specs.declared.identities.ObjectNo.{ObjectNo}
use Rattle.ann_base.specs.declared.identities.RegionNo.{RegionNo}
use Rattle.ann_base.specs.declared.identities.TaskNo.{TaskNo}
use Rattle.trace_text.specs.declared.events.Who.{Who}
use Rattle.trace_text.specs.declared.events.Who.TheVariants as who
use Rattle.profile_machine.specs.declared.world.marks.Mark.{Mark}
use Rattle.profile_machine.specs.declared.world.marks.Mark.TheVariants.{Scope, Handled, InProtected, InAccept, Abortable, InInitialize, InFinalize, InAssign}
use Rattle.profile_image.specs.declared.image.Image.{Image}
use Rattle.profile_image.specs.declared.numbers.ProtectedUnitNo.{ProtectedUnitNo}
use Rattle.profile_machine.specs.declared.world.World.{World}
use Rattle.profile_machine.specs.declared.world.Drawn.{Drawn}
use Rattle.profile_machine.specs.declared.world.tasks.Task.{Task}
use Rattle.profile_machine.specs.declared.world.tasks.Inherited.{Inherited}
use Rattle.profile_machine.specs.declared.world.calls.Call.{Call}
use Rattle.profile_machine.specs.declared.world.objects.Object.{Object}
use Rattle.profile_machine.specs.declared.world.marks.Frame.{Frame}
use Rattle.profile_machine.specs.declared.world.scopes.Located.{Located}
use Rattle.profile_machine.specs.declared.world.scopes.ScopeId.{ScopeId}
use Rattle.profile_image.specs.Words.{same_who, same_region, is_the, without, edit_where}
use Rattle.world_tables.specs.Lists.{first_of}
use Rattle.profile_machine.specs.Values.{is_object}
use Rattle.profile_machine.specs.Tasks.{is_who, nobody, task_of}
use Rattle.profile_machine.specs.Scopes.{end_scope, goes_with}
use Rattle.profile_machine.specs.Calls.{is_call, call_drawn, edit_call, forget_call, edit_object}
use Rattle.profile_machine.specs.EntryCalls.{add_call, numbered}
use Rattle.profile_machine.specs.Masters.{region_of_mark, forget_task}
use Rattle.profile_machine.specs.Controlled.{region_or_none, top_region}
use Rattle.profile_machine.specs.Declarations.{new_object, object_drawn}
use Rattle.profile_machine.specs.Tasking.{add_task}
use Rattle.profile_machine.specs.Protected.{has_open}
use Rattle.profile_machine.specs.WellFormed.{number_in}
use Rattle.machine_laws.proofs.ListLemmas.{Falls, Falls-without, Falls-edit_where, Rises, Rises-behind, Rises-without}
use Rattle.machine_laws.proofs.QueueLemmas.{by_test}
use Rattle.machine_laws.proofs.FineMoves.{Naming}
use Rattle.line_laws.proofs.Exits.TaskEdits.{one_of, one_of-is, same_who-path, seen}
use Rattle.world_laws.proofs.Actions.Natures.{Nature, nature, natures, guards, marks, in_region, marks-none}
use Rattle.world_laws.proofs.Actions.Sound.{Hold, EachObject, has_ceiling, dependents, Clean, SureOn, SureOf, marks_of, task_key, EachListed, Sound, Free, Good}
use Rattle.world_laws.proofs.Actions.SoundMarks.{in-drawn}
use Rattle.world_laws.proofs.Actions.SoundEdits.{fewer-sure}
use Rattle.world_laws.proofs.Actions.SoundLists.{each-on, each-filter, each-edited, marks-new, marks-on}
use Rattle.world_laws.proofs.Queues.Standing.{object_key}
use Rattle.line_laws.proofs.Leaving.FreeWorlds.{CallerIn}
use Rattle.line_laws.proofs.Leaving.CallLemmas.{edited-caller, added-caller, gone-caller}

-- ---- tasks that come and go, of one that is found or of nobody

tail-step : (P Q : Task → Type 0) (c : Bool) (z : Task) (rest other : Option Task) → ((t : Task) → P t → Q t) → (seen P rest → seen Q other)
    → seen P (cond c (Some z) rest) → seen Q (cond c (Some z) other)
tail-step P Q true z rest other on k h = on z h
tail-step P Q false z rest other on k h = k h

module _ (P Q : Task → Type 0) (on : (t : Task) → P t → Q t) where
  added-last : (c : Bool) (x : Task) → (P nobody → Q x) → P nobody → seen Q (cond c (Some x) None)
  added-last true x new blank = new blank
  added-last false x new blank = on nobody blank

  added-among : (n : TaskNo) (x : Task) (ts : List Task) → (P nobody → Q x) → seen P (find (is_who (who.Task n)) ts)
      → seen Q (find (is_who (who.Task n)) (ts ++ x ∷ []))
  added-among n x [] new h = added-last (is_who (who.Task n) x) x new h
  added-among n x (t ∷ ts) new h =
      tail-step P Q (is_who (who.Task n) t) t (find (is_who (who.Task n)) ts) (find (is_who (who.Task n)) (ts ++ x ∷ [])) on (λ g. added-among n x ts new g) h

  pub added : (me : Who) (x : Task) (ts : List Task) (agent : Task) → (P nobody → Q x) → P (one_of ts agent me) → Q (one_of (ts ++ x ∷ []) agent me)
  added (who.Task n) x ts agent new h = added-among n x ts new h
  added who.Agent x ts agent new h = on agent h

  none-step : (n : Who) (z : Task) (rest : List Task) (b : Bool) → is_who n z ≡ b → find (is_who n) rest ≡ None
      → find (is_who n) (cond (not b) (z ∷ rest) rest) ≡ None
  none-step n z rest true is e = e
  none-step n z rest false is e = ap (λ c. cond c (Some z) (find (is_who n) rest)) is ∙ e

  none-left : (n : Who) (ts : List Task) → find (is_who n) (without (is_who n) ts) ≡ None
  none-left n [] = refl
  none-left n (z ∷ zs) = none-step n z (without (is_who n) zs) (is_who n z) refl (none-left n zs)

  apart-names : (m n a : Who) → same_who m n ≡ false → same_who n a ≡ true → same_who m a ≡ false
  apart-names m n a e f = let is : n ≡ a = same_who-path n a f in subst (λ x. same_who m x ≡ false) is e

  others-step : (m n : Who) (z : Task) (zs left : List Task) (b : Bool) → is_who n z ≡ b → same_who m n ≡ false
      → (seen P (find (is_who m) zs) → seen Q (find (is_who m) left))
      → seen P (cond (is_who m z) (Some z) (find (is_who m) zs)) → seen Q (find (is_who m) (cond (not b) (z ∷ left) left))
  others-step m n z zs left true is e onward h = onward (subst (λ c. seen P (cond c (Some z) (find (is_who m) zs))) (apart-names m n z.who e is) h)
  others-step m n z zs left false is e onward h = tail-step P Q (is_who m z) z (find (is_who m) zs) (find (is_who m) left) on onward h

  others-left : (m n : Who) (ts : List Task) → same_who m n ≡ false → seen P (find (is_who m) ts) → seen Q (find (is_who m) (without (is_who n) ts))
  others-left m n [] e h = on nobody h
  others-left m n (z ∷ zs) e h = others-step m n z zs (without (is_who n) zs) (is_who n z) refl e (λ g. others-left m n zs e g) h

  left-where : (m n : Who) (ts : List Task) (b : Bool) → same_who m n ≡ b → (same_who m n ≡ true → seen P (find (is_who m) ts) → Q nobody)
      → seen P (find (is_who m) ts) → seen Q (find (is_who m) (without (is_who n) ts))
  left-where m n ts true e blank h =
      let is : m ≡ n = same_who-path m n e in
      subst (λ x. seen Q (find (is_who x) (without (is_who n) ts))) (sym is) (subst (seen Q) (sym (none-left n ts)) (blank e h))
  left-where m n ts false e blank h = others-left m n ts e h

  pub gone : (me n : Who) (ts : List Task) (agent : Task) → (same_who me n ≡ true → P (one_of ts agent me) → Q nobody) → P (one_of ts agent me)
      → Q (one_of (without (is_who n) ts) agent me)
  gone (who.Task k) n ts agent blank h = left-where (who.Task k) n ts (same_who (who.Task k) n) refl blank h
  gone who.Agent n ts agent blank h = on agent h

-- ---- a new task, whose creator has no action open

clean-out : (r : RegionNo) (ns : List Nature) → in_region r ns ≡ false → Clean r ns
clean-out r [] e = tt
clean-out r (n ∷ ns) e = step (is_the same_region n.region r) refl e (λ k. clean-out r ns k)
  where
    step : (b : Bool) → is_the same_region n.region r ≡ b → (b || in_region r ns) ≡ false → (in_region r ns ≡ false → Clean r ns) → Clean r (n ∷ ns)
    step true is k onward = absurd (false≢true (sym k))
    step false is k onward = (λ x. absurd (false≢true (sym is ∙ x)), onward k)

clean-free : (r : RegionNo) (ns : List Nature) → guards ns ≡ false → Clean r ns
clean-free r [] e = tt
clean-free r (n ∷ ns) e = step n.action e (λ k. clean-free r ns k)
  where
    step : (a : Option ObjectNo) → (is_some a || guards ns) ≡ false → (guards ns ≡ false → Clean r ns) → Clean r (n ∷ ns)
    step None k onward = ((λ x. k), onward k)
    step (Some o) k onward = absurd (false≢true (sym k))

abbrev first_region : List Nature → Option RegionNo
first_region [] = None
first_region (n ∷ ns) = n.region

region_of_mark-is : (m : Mark) → region_of_mark m ≡ (nature m).region
region_of_mark-is (Scope m) = refl
region_of_mark-is (Handled s) = refl
region_of_mark-is (InProtected m) = refl
region_of_mark-is (InAccept m) = refl
region_of_mark-is (Abortable m) = refl
region_of_mark-is (InInitialize l) = refl
region_of_mark-is (InFinalize o) = refl
region_of_mark-is (InAssign m) = refl

first_region-is : (fs : List Frame) → option_and_then (λ f. region_of_mark f.mark) (first_of fs) ≡ first_region (natures fs)
first_region-is [] = refl
first_region-is (f ∷ fs) = region_of_mark-is f.mark

top_region-is : (w : World) (name : Who) → top_region w name ≡ region_or_none (first_region (marks_of w.tasks w.agent name))
top_region-is w name = ap region_or_none (first_region-is (task_of w name).frames ∙ ap (λ (t : Task). first_region (natures t.frames)) (sym (one_of-is w name)))

first-in : (r : RegionNo) (ns : List Nature) → first_region ns ≡ Some r → in_region r ns ≡ true
first-in r [] e = absurd cc
first-in r (n ∷ ns) e = ap (λ q. is_the same_region q r || in_region r ns) e ∙ ap (λ b. b || in_region r ns) (eq-eqb r.0 r.0 refl)

module _ (w : World) (name : Who) (h : Sound w) (free : Free name w) where
  clean-first : (q : Option RegionNo) → first_region (marks_of w.tasks w.agent name) ≡ q → (n : Who) → Clean (region_or_none q) (marks_of w.tasks w.agent n)
  clean-first q is n =
      by_test (in_region (region_or_none q) (marks_of w.tasks w.agent n)) (λ e. inside q is e)
      (λ e. clean-out (region_or_none q) (marks_of w.tasks w.agent n) e)
    where
      inside : (q : Option RegionNo) → first_region (marks_of w.tasks w.agent name) ≡ q → in_region (region_or_none q) (marks_of w.tasks w.agent n) ≡ true
          → Clean (region_or_none q) (marks_of w.tasks w.agent n)
      inside None is e =
          let low : 0 < 0 = (in-drawn w.drawn w.calls n (record { 0 = 0 }) (marks_of w.tasks w.agent n) (h.5 n).0 e).0 in absurd (omega (arith, low))
      inside (Some r) is e =
          let same : n ≡ name = h.4 n name r e (first-in r (marks_of w.tasks w.agent name) is) in
          clean-free r (marks_of w.tasks w.agent n) (ap (λ m. guards (marks_of w.tasks w.agent m)) same ∙ free)

  first-within : (q : Option RegionNo) → first_region (marks_of w.tasks w.agent name) ≡ q → (region_or_none q).0 ≤ w.drawn.regions
  first-within None is = omega arith
  first-within (Some r) is = (in-drawn w.drawn w.calls name r (marks_of w.tasks w.agent name) (h.5 name).0 (first-in r (marks_of w.tasks w.agent name) is)).1

  pub top-clean : ((top_region w name).0 ≤ w.drawn.regions) × ((n : Who) → Clean (top_region w name) (marks_of w.tasks w.agent n))
  top-clean =
      let q = first_region (marks_of w.tasks w.agent name) in
      subst (λ r. (r.0 ≤ w.drawn.regions) × ((n : Who) → Clean r (marks_of w.tasks w.agent n))) (sym (top_region-is w name)) (
        first-within q refl,
        clean-first q refl,
      )

-- ---- the lists of tasks

listed-added : (x : Task) (n : TaskNo) (ts : List Task) → x.who ≡ who.Task n → EachListed ts → EachListed (ts ++ x ∷ [])
listed-added x n [] e h = ((n, e), tt)
listed-added x n (t ∷ ts) e h = (h.0, listed-added x n ts e h.1)

listed-kept : (keep : Bool) (t : Task) (left : List Task) → ((n : TaskNo) × (t.who ≡ who.Task n)) → EachListed left → EachListed (cond keep (t ∷ left) left)
listed-kept true t left a h = (a, h)
listed-kept false t left a h = h

listed-without : (name : Who) (ts : List Task) → EachListed ts → EachListed (without (is_who name) ts)
listed-without name [] h = tt
listed-without name (t ∷ ts) h = listed-kept (not (is_who name t)) t (without (is_who name) ts) h.0 (listed-without name ts h.1)

dependents-added : (x : Task) (r : RegionNo) (ts : List Task) → dependents (ts ++ x ∷ []) r ≡ true
    → (dependents ts r ≡ true) ⊎ (is_the same_region x.master r ≡ true)
dependents-added x r [] e = inr (last (is_the same_region x.master r) e)
  where
    last : (b : Bool) → (b || false) ≡ true → b ≡ true
    last true e = refl
    last false e = e
dependents-added x r (t ∷ ts) e = step (is_the same_region t.master r) e (λ k. dependents-added x r ts k)
  where
    step : (b : Bool) → (b || dependents (ts ++ x ∷ []) r) ≡ true
        → (dependents (ts ++ x ∷ []) r ≡ true → (dependents ts r ≡ true) ⊎ (is_the same_region x.master r ≡ true))
        → ((b || dependents ts r) ≡ true) ⊎ (is_the same_region x.master r ≡ true)
    step true e k = inl refl
    step false e k = k e

dependents-kept : (keep b : Bool) (left : List Task) (t : Task) (r : RegionNo) (rest : Bool) → is_the same_region t.master r ≡ b
    → dependents (cond keep (t ∷ left) left) r ≡ true → (dependents left r ≡ true → rest ≡ true) → (b || rest) ≡ true
dependents-kept true true left t r rest is e k = refl
dependents-kept true false left t r rest is e k = k (sym (ap (λ b. b || dependents left r) is) ∙ e)
dependents-kept false true left t r rest is e k = refl
dependents-kept false false left t r rest is e k = k e

pub dependents-without : (name : Who) (r : RegionNo) (ts : List Task) → dependents (without (is_who name) ts) r ≡ true → dependents ts r ≡ true
dependents-without name r [] e = e
dependents-without name r (t ∷ ts) e =
    ap (λ b. b || dependents ts r) refl
    ∙ dependents-kept (not (is_who name t)) (is_the same_region t.master r) (without (is_who name) ts) t r (dependents ts r) refl e
    (λ k. dependents-without name r ts k)

-- ---- a task is added

-- of who has no mark: as of nobody
unmarked-holds : (n : Who) (is js : List Inherited) (xs : List Object) → EachObject (Hold n [] is) xs → EachObject (Hold n [] js) xs
unmarked-holds n is js xs h = each-on (Hold n [] is) (Hold n [] js) xs (λ x g. (g.0, λ e. absurd (false≢true (sym g.0 ∙ e)))) h

pub unmarked-sure : (drawn : Drawn) (calls : List Call) (objects : List Object) (tasks : List Task) (n : Who) (t u : Task) → natures t.frames ≡ []
    → natures u.frames ≡ [] → SureOf drawn calls objects tasks n t → SureOf drawn calls objects tasks n u
unmarked-sure drawn calls objects tasks n t u a b h =
    let bare_t = subst (λ ns. SureOn drawn calls objects tasks n ns t.state t.inherited) a h in
    subst (λ ns. SureOn drawn calls objects tasks n ns u.state u.inherited) (sym b) (
      tt,
      (λ e. absurd (false≢true e)),
      unmarked-holds n t.inherited u.inherited objects bare_t.2,
      λ r e. tt,
    )

module _ (t : Task) (w : World) (r : RegionNo) (named : t.who ≡ who.Task (record { 0 = w.drawn.tasks })) (none : t.frames ≡ [])
    (master : t.master ≡ Some r) where
  now-dependents : (q : RegionNo) → dependents (w.tasks ++ t ∷ []) q ≡ true → (dependents w.tasks q ≡ true) ⊎ (r ≡ q)
  now-dependents q e = step (dependents-added t q w.tasks e)
    where
      step : (dependents w.tasks q ≡ true) ⊎ (is_the same_region t.master q ≡ true) → (dependents w.tasks q ≡ true) ⊎ (r ≡ q)
      step (inl x) = inl x
      step (inr x) = inr (ap (λ (k : ℕ). record { 0 = k }) (eqb-true r.0 q.0 (sym (ap (λ m. is_the same_region m q) master) ∙ x)))

  more-sure : (n : Who) (u : Task) → SureOf w.drawn w.calls w.objects w.tasks n u × Clean r (natures u.frames)
      → SureOf w.drawn w.calls w.objects (w.tasks ++ t ∷ []) n u
  more-sure n u h = (h.0.0, h.0.1, h.0.2, λ q e. step q (now-dependents q e))
    where
      step : (q : RegionNo) → (dependents w.tasks q ≡ true) ⊎ (r ≡ q) → Clean q (natures u.frames)
      step q (inl x) = h.0.3 q x
      step q (inr x) = subst (λ k. Clean k (natures u.frames)) x h.1

  new-marks : (n : Who) (q : RegionNo) → in_region q (marks_of (w.tasks ++ t ∷ []) w.agent n) ≡ true → in_region q (marks_of w.tasks w.agent n) ≡ true
  new-marks n q =
      added (λ u. u ≡ one_of w.tasks w.agent n) (λ u. in_region q (natures u.frames) ≡ true → in_region q (marks_of w.tasks w.agent n) ≡ true)
      (λ u g e. ap (λ (x : Task). in_region q (natures x.frames)) (sym g) ∙ e) n t w.tasks w.agent
      (λ g e. absurd (false≢true (sym (ap (λ fs. in_region q (natures fs)) none) ∙ e))) refl

  pub add_task-good : (F : Naming) → (r.0 ≤ w.drawn.regions) → ((n : Who) → Clean r (marks_of w.tasks w.agent n)) → Good F w → Good F (add_task t w)
  add_task-good F within clean h = (
    (
      h.0.0,
      Rises-behind task_key 0 w.drawn.tasks w.tasks t (ap number_in named) h.0.1,
      (listed-added t (record { 0 = w.drawn.tasks }) w.tasks named h.0.2.0, h.0.2.1),
      λ q e. by_case q (now-dependents q e),
      λ a b q x y. h.0.4 a b q (new-marks a q x) (new-marks b q y),
      λ n. added (λ u. SureOf w.drawn w.calls w.objects w.tasks n u × Clean r (natures u.frames))
          (λ u. SureOf w.drawn w.calls w.objects (w.tasks ++ t ∷ []) n u) (λ u g. more-sure n u g) n t w.tasks w.agent
          (λ g. unmarked-sure w.drawn w.calls w.objects (w.tasks ++ t ∷ []) n nobody t refl (ap natures none) (more-sure n nobody g)) (h.0.5 n, clean n),
    ),
    λ n is. added (λ u. guards (natures u.frames) ≡ false) (λ u. guards (natures u.frames) ≡ false) (λ u g. g) n t w.tasks w.agent
        (λ g. ap (λ fs. guards (natures fs)) none) (h.1 n is),
  )
    where
      by_case : (q : RegionNo) → (dependents w.tasks q ≡ true) ⊎ (r ≡ q) → q.0 ≤ w.drawn.regions
      by_case q (inl x) = h.0.3 q x
      by_case q (inr x) = subst (λ k. k.0 ≤ w.drawn.regions) x within

-- ---- a task is gone, which has no action open

nothing-open : (n : Who) (ns : List Nature) (is js : List Inherited) (xs : List Object) → guards ns ≡ false → EachObject (Hold n ns is) xs
    → EachObject (Hold n [] js) xs
nothing-open n ns is js xs free h =
    each-on (Hold n ns is) (Hold n [] js) xs
    (λ x g. let none : has_open n x.actions ≡ false = g.0 ∙ marks-none x.number ns free in (none, λ e. absurd (false≢true (sym none ∙ e)))) h

pub forget_task-good : (F : Naming) (name : Who) (w : World) → F name → Good F w → Good F (forget_task name w)
forget_task-good F name w is h =
    let left = without (is_who name) w.tasks in
    let fewer : (n : Who) (u : Task) → SureOf w.drawn w.calls w.objects w.tasks n u → SureOf w.drawn w.calls w.objects left n u =
    λ n u g. fewer-sure w.drawn w.calls w.objects w.tasks left n u (λ r e. dependents-without name r w.tasks e) g in
    let less : (n : Who) (r : RegionNo) → in_region r (marks_of left w.agent n) ≡ true → in_region r (marks_of w.tasks w.agent n) ≡ true = λ n r.
    gone (λ u. u ≡ one_of w.tasks w.agent n) (λ u. in_region r (natures u.frames) ≡ true → in_region r (marks_of w.tasks w.agent n) ≡ true)
    (λ u g e. ap (λ (x : Task). in_region r (natures x.frames)) (sym g) ∙ e) n name w.tasks w.agent (λ same g e. absurd (false≢true e)) refl in (
      (
        h.0.0,
        Rises-without task_key (is_who name) 0 w.drawn.tasks w.tasks h.0.1,
        (listed-without name w.tasks h.0.2.0, h.0.2.1),
        λ r e. h.0.3 r (dependents-without name r w.tasks e),
        λ a b r x y. h.0.4 a b r (less a r x) (less b r y),
        λ n. gone (λ u. SureOf w.drawn w.calls w.objects w.tasks n u × (same_who n name ≡ true → guards (natures u.frames) ≡ false))
            (λ u. SureOf w.drawn w.calls w.objects left n u) (λ u g. fewer n u g.0) n name w.tasks w.agent
            (λ same g. let u = one_of w.tasks w.agent n in
            (tt, (λ e. absurd (false≢true e)), nothing-open n (natures u.frames) u.inherited [] w.objects (g.1 same) g.0.2, λ r e. tt))
            (h.0.5 n, λ same. ap (λ m. guards (marks_of w.tasks w.agent m)) (same_who-path n name same) ∙ h.1 name is),
      ),
      λ n k.
          gone (λ u. guards (natures u.frames) ≡ false) (λ u. guards (natures u.frames) ≡ false) (λ u g. g) n name w.tasks w.agent (λ same g. refl) (h.1 n k),
    )

-- ---- objects

pub end_scope-good : (F : Naming) (id : ScopeId) (w : World) → Good F w → Good F (end_scope id w)
end_scope-good F id w h = (
  (
    Falls-without object_key (goes_with id) (suc w.drawn.objects) w.objects h.0.0,
    h.0.1,
    h.0.2,
    h.0.3,
    h.0.4,
    λ n. (let k = h.0.5 n in
        (k.0, k.1, each-filter (Hold n (marks_of w.tasks w.agent n) (one_of w.tasks w.agent n).inherited) (λ x. not (goes_with id x)) w.objects k.2, k.3)),
  ),
  h.1,
)

pub edit_object-good : (F : Naming) (o : ObjectNo) (f : Object → Object) (w : World) → ((x : Object) → (f x).number ≡ x.number)
    → ((x : Object) → (f x).actions ≡ x.actions) → ((x : Object) → (f x).ceiling ≡ x.ceiling) → Good F w → Good F (edit_object o f w)
edit_object-good F o f w number actions ceiling h = (
  (
    Falls-edit_where object_key (is_object o) f (λ x. ap (λ (n : ObjectNo). n.0) (number x)) (suc w.drawn.objects) w.objects h.0.0,
    h.0.1,
    h.0.2,
    h.0.3,
    h.0.4,
    λ n. (let k = h.0.5 n in
        let t = one_of w.tasks w.agent n in
        (k.0, k.1, each-edited (Hold n (natures t.frames) t.inherited) (is_object o) f w.objects (λ x g. same n t x g) k.2, k.3)),
  ),
  h.1,
)
  where
    same : (n : Who) (t : Task) (x : Object) → Hold n (natures t.frames) t.inherited x → Hold n (natures t.frames) t.inherited (f x)
    same n t x g = (
      ap (has_open n) (actions x) ∙ g.0 ∙ ap (λ m. marks m (natures t.frames)) (sym (number x)),
      λ e. ap (λ m. has_ceiling m (f x).ceiling t.inherited) (number x) ∙ ap (λ c. has_ceiling x.number c t.inherited) (ceiling x)
          ∙ g.1 (sym (ap (has_open n) (actions x)) ∙ e),
    )

pub add_object-good : (F : Naming) (p : Image) (l : Located) (u : ProtectedUnitNo) (w : World) → Good F w
    → Good F (record w { objects = new_object p l u (suc w.drawn.objects) ∷ w.objects; drawn = object_drawn w.drawn })
add_object-good F p l u w h = (
  (
    (omega arith, h.0.0),
    h.0.1,
    h.0.2,
    h.0.3,
    h.0.4,
    λ n. (let k = h.0.5 n in let t = one_of w.tasks w.agent n in (
      marks-on w.drawn (object_drawn w.drawn) w.calls w.calls n (natures t.frames) (omega arith) refl (λ c own. own) k.0,
      k.1,
      ((sym (marks-new w.drawn w.calls n (record { 0 = suc w.drawn.objects }) (natures t.frames) (omega arith) k.0), λ e. absurd (false≢true e)), k.2),
      k.3,
    )),
  ),
  h.1,
)

-- ---- calls

calls-good : (F : Naming) (w : World) (drawn : Drawn) (more : List Call) → drawn.objects ≡ w.drawn.objects → drawn.regions ≡ w.drawn.regions
    → drawn.tasks ≡ w.drawn.tasks
    → ((n : Who) (c : CallNo) → CallerIn w.calls w.drawn.calls c n → CallerIn more drawn.calls c n) → Good F w
    → Good F (record w { calls = more; drawn = drawn })
calls-good F w drawn more objects regions tasks k h = (
  (
    subst (λ d. Falls object_key (suc d) w.objects) (sym objects) h.0.0,
    subst (λ d. Rises task_key 0 d w.tasks) (sym tasks) h.0.1,
    h.0.2,
    subst (λ d. (r : RegionNo) → dependents w.tasks r ≡ true → r.0 ≤ d) (sym regions) h.0.3,
    h.0.4,
    λ n. (let g = h.0.5 n in (marks-on w.drawn drawn w.calls more n (marks_of w.tasks w.agent n) (omega (arith, objects)) regions (k n) g.0, g.1, g.2, g.3)),
  ),
  h.1,
)

pub edit_call-good : (F : Naming) (c : CallNo) (f : Call → Call) (w : World) → ((d : Call) → (f d).number ≡ d.number) → ((d : Call) → (f d).caller ≡ d.caller)
    → Good F w → Good F (edit_call c f w)
edit_call-good F c f w number caller h =
    calls-good F w w.drawn (edit_where (is_call c) f w.calls) refl refl refl (λ n x own. edited-caller c f w.calls w.drawn.calls number caller n x own) h

pub forget_call-good : (F : Naming) (c : CallNo) (w : World) → Good F w → Good F (forget_call c w)
forget_call-good F c w h = calls-good F w w.drawn (without (is_call c) w.calls) refl refl refl (λ n x own. gone-caller c w.calls w.drawn.calls n x own) h

pub add_call-good : (F : Naming) (c : Call) (w : World) → Good F w → Good F (add_call c w)
add_call-good F c w h =
    calls-good F w (call_drawn w.drawn) (numbered (suc w.drawn.calls) c ∷ w.calls) refl refl refl (λ n x own. added-caller c w.calls w.drawn.calls n x own) h
