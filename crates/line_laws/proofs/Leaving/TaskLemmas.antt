-- Looking at a task of a world in which one was edited.
use Rattle.std.proofs.Common.{◌≡◌, ℕ, Bool, true, false, cond, not, eqb, List, [], ◌∷◌, ◌++◌, Option, Some, None, refl, sym, ap, subst, ◌∙◌, eq-eqb}
use Rattle.std.specs.Prelude.{find, unwrap_or}
use Rattle.std.proofs.lemmas.Bool.{eqb-true}
use Rattle.ann_base.specs.declared.identities.TaskNo.{TaskNo}
use Rattle.trace_text.specs.declared.events.Who.{Who}
use Rattle.trace_text.specs.declared.events.Who.TheVariants as who
use Rattle.profile_machine.specs.declared.world.World.{World}
use Rattle.profile_machine.specs.declared.world.tasks.Task.{Task}
use Rattle.profile_machine.specs.declared.world.marks.Frame.{Frame}
use Rattle.profile_image.specs.Words.{set_where, same_who, without}
use Rattle.world_tables.specs.Lists.{first_of}
use Rattle.profile_machine.specs.Tasks.{nobody, is_who, found_task, task_at, task_of, edit_task_found, edit_task, waiting_in, with_frames}
use Rattle.profile_machine.specs.Frames.{push}
use Rattle.profile_machine.specs.Masters.{forget_task}
use Rattle.profile_machine.specs.Tasking.{add_task}
use Rattle.line_laws.proofs.Leaving.FineMoves.{Awake, waits, Free, top_leaving}
use Rattle.machine_laws.proofs.FinestMoves.{being_left_in}

abbrev pub Of : (Task → Type 0) → Option Task → Type 0
Of Pr found = Pr (unwrap_or found nobody)

-- ---- in a list

edited-step : (Pr : Task → Type 0) (test other : Task → Bool) (z t u : Task) (zs : List Task) (b c : Bool) → test z ≡ b → other z ≡ c
    → cond b (Some z) (find test zs) ≡ Some t → other u ≡ other t → (Pr t → Pr u)
    → (find test zs ≡ Some t → Of Pr (find other zs) → Of Pr (find other (set_where test u zs))) → Of Pr (cond c (Some z) (find other zs))
    → Of Pr (find other (cond b (u ∷ zs) (z ∷ set_where test u zs)))
edited-step Pr test other z t u zs true true is also found like k onward h =
    let same : z ≡ t = cc in
    subst (λ d. Of Pr (cond d (Some u) (find other zs))) (sym (like ∙ ap other (sym same) ∙ also)) (k (subst Pr same h))
edited-step Pr test other z t u zs true false is also found like k onward h =
    let same : z ≡ t = cc in
    subst (λ d. Of Pr (cond d (Some u) (find other zs))) (sym (like ∙ ap other (sym same) ∙ also)) h
edited-step Pr test other z t u zs false true is also found like k onward h =
    subst (λ d. Of Pr (cond d (Some z) (find other (set_where test u zs)))) (sym also) h
edited-step Pr test other z t u zs false false is also found like k onward h =
    subst (λ d. Of Pr (cond d (Some z) (find other (set_where test u zs)))) (sym also) (onward found h)

edited-list : (Pr : Task → Type 0) (test other : Task → Bool) (xs : List Task) (t u : Task) → find test xs ≡ Some t → other u ≡ other t → (Pr t → Pr u)
    → Of Pr (find other xs) → Of Pr (find other (set_where test u xs))
edited-list Pr test other [] t u found like k h = absurd cc
edited-list Pr test other (z ∷ zs) t u found like k h =
    edited-step Pr test other z t u zs (test z) (other z) refl refl found like k (λ e g. edited-list Pr test other zs t u e like k g) h

own-step : (test : Task → Bool) (z t u : Task) (zs : List Task) (b : Bool) → test z ≡ b → cond b (Some z) (find test zs) ≡ Some t → test u ≡ true
    → (find test zs ≡ Some t → find test (set_where test u zs) ≡ Some u) → find test (cond b (u ∷ zs) (z ∷ set_where test u zs)) ≡ Some u
own-step test z t u zs true is found fits onward = ap (λ d. cond d (Some u) (find test zs)) fits
own-step test z t u zs false is found fits onward = ap (λ d. cond d (Some z) (find test (set_where test u zs))) is ∙ onward found

pub own-list : (test : Task → Bool) (xs : List Task) (t u : Task) → find test xs ≡ Some t → test u ≡ true → find test (set_where test u xs) ≡ Some u
own-list test [] t u found fits = absurd cc
own-list test (z ∷ zs) t u found fits = own-step test z t u zs (test z) refl found fits (λ e. own-list test zs t u e fits)

pub found-step : (test : Task → Bool) (z t : Task) (zs : List Task) (b : Bool) → test z ≡ b → cond b (Some z) (find test zs) ≡ Some t
    → (find test zs ≡ Some t → test t ≡ true) → test t ≡ true
found-step test z t zs true is found onward = let same : z ≡ t = cc in subst (λ (x : Task). test x ≡ true) same is
found-step test z t zs false is found onward = onward found

pub found-holds : (test : Task → Bool) (xs : List Task) (t : Task) → find test xs ≡ Some t → test t ≡ true
found-holds test [] t e = absurd cc
found-holds test (z ∷ zs) t e = found-step test z t zs (test z) refl e (λ k. found-holds test zs t k)

-- ---- in a world

-- what an edit leaves of a task, or brings about, it leaves of each
edited-found : (Pr : Task → Type 0) (n name : Who) (f : Task → Task) (w : World) (found : Option Task) → task_at w name ≡ found
    → ((t : Task) → (f t).who ≡ t.who) → ((t : Task) → Pr t → Pr (f t))
    → Pr (task_of w n) → Pr (task_of (edit_task_found name f w found) n)
edited-found Pr n name f w None e same k h = h
edited-found Pr who.Agent (who.Task m) f w (Some t) e same k h = h
edited-found Pr (who.Task n) who.Agent f w (Some t) e same k h = h
edited-found Pr who.Agent who.Agent f w (Some t) e same k h = let is : w.agent ≡ t = cc in subst (λ (x : Task). Pr (f x)) is (k w.agent h)
edited-found Pr (who.Task n) (who.Task m) f w (Some t) e same k h =
    edited-list Pr (is_who (who.Task m)) (is_who (who.Task n)) w.tasks t (f t) e (ap (same_who (who.Task n)) (same t)) (k t) h

pub of_edited : (Pr : Task → Type 0) (n name : Who) (f : Task → Task) (w : World) → ((t : Task) → (f t).who ≡ t.who) → ((t : Task) → Pr t → Pr (f t))
    → Pr (task_of w n) → Pr (task_of (edit_task name f w) n)
of_edited Pr n name f w same k h = edited-found Pr n name f w (task_at w name) refl same k h

-- what it brings about of its own
own-found : (Pr : Task → Type 0) (name : Who) (f : Task → Task) (w : World) (found : Option Task) → task_at w name ≡ found → ((t : Task) → (f t).who ≡ t.who)
    → ((t : Task) → Pr (f t)) → Pr nobody → Pr (task_of (edit_task_found name f w found) name)
own-found Pr name f w None e same k none = subst (Of Pr) (sym e) none
own-found Pr who.Agent f w (Some t) e same k none = k t
own-found Pr (who.Task m) f w (Some t) e same k none =
    let is : is_who (who.Task m) t ≡ true = found-holds (is_who (who.Task m)) w.tasks t e in
    let found = own-list (is_who (who.Task m)) w.tasks t (f t) e (ap (same_who (who.Task m)) (same t) ∙ is) in
    subst (Of Pr) (sym found) (k t)

pub of_own : (Pr : Task → Type 0) (name : Who) (f : Task → Task) (w : World) → ((t : Task) → (f t).who ≡ t.who) → ((t : Task) → Pr (f t)) → Pr nobody
    → Pr (task_of (edit_task name f w) name)
of_own Pr name f w same k none = own-found Pr name f w (task_at w name) refl same k none

-- of another it changes nothing
other-step : (test other : Task → Bool) (z t u : Task) (zs : List Task) (b : Bool) → test z ≡ b → cond b (Some z) (find test zs) ≡ Some t → other u ≡ false
    → other t ≡ false → (find test zs ≡ Some t → find other (set_where test u zs) ≡ find other zs)
    → find other (cond b (u ∷ zs) (z ∷ set_where test u zs)) ≡ cond (other z) (Some z) (find other zs)
other-step test other z t u zs true is found apart nor onward =
    let same : z ≡ t = cc in
    ap (λ d. cond d (Some u) (find other zs)) apart ∙ sym (ap (λ d. cond d (Some z) (find other zs)) (ap other same ∙ nor))
other-step test other z t u zs false is found apart nor onward = ap (λ r. cond (other z) (Some z) r) (onward found)

other-list : (test other : Task → Bool) (xs : List Task) (t u : Task) → find test xs ≡ Some t → other u ≡ false → other t ≡ false
    → find other (set_where test u xs) ≡ find other xs
other-list test other [] t u found apart nor = refl
other-list test other (z ∷ zs) t u found apart nor =
    other-step test other z t u zs (test z) refl found apart nor (λ e. other-list test other zs t u e apart nor)

differs : (n m : TaskNo) (t : Task) → same_who (who.Task n) (who.Task m) ≡ false → is_who (who.Task m) t ≡ true → is_who (who.Task n) t ≡ false
differs n m t apart is = named t.who apart is where
  named : (name : Who) → eqb n.0 m.0 ≡ false → same_who (who.Task m) name ≡ true → same_who (who.Task n) name ≡ false
  named (who.Task k) apart is = subst (λ x. eqb n.0 x ≡ false) (eqb-true m.0 k.0 is) apart
  named who.Agent apart is = refl

other-found : (n name : Who) (f : Task → Task) (w : World) (found : Option Task) → task_at w name ≡ found → ((t : Task) → (f t).who ≡ t.who)
    → same_who n name ≡ false → task_of (edit_task_found name f w found) n ≡ task_of w n
other-found n name f w None e same apart = refl
other-found who.Agent (who.Task m) f w (Some t) e same apart = refl
other-found (who.Task n) who.Agent f w (Some t) e same apart = refl
other-found who.Agent who.Agent f w (Some t) e same apart = absurd cc
other-found (who.Task n) (who.Task m) f w (Some t) e same apart =
    let is : is_who (who.Task m) t ≡ true = found-holds (is_who (who.Task m)) w.tasks t e in
    let nor = differs n m t apart is in
    ap (λ (o : Option Task). unwrap_or o nobody)
    (other-list (is_who (who.Task m)) (is_who (who.Task n)) w.tasks t (f t) e (ap (same_who (who.Task n)) (same t) ∙ nor) nor)

pub of_other : (n name : Who) (f : Task → Task) (w : World) → ((t : Task) → (f t).who ≡ t.who) → same_who n name ≡ false
    → task_of (edit_task name f w) n ≡ task_of w n
of_other n name f w same apart = other-found n name f w (task_at w name) refl same apart

-- ---- who waits, and who is free

pub awake-edited : (n name : Who) (f : Task → Task) (w : World) → ((t : Task) → (f t).who ≡ t.who) → ((t : Task) → (f t).state ≡ t.state) → Awake n w
    → Awake n (edit_task name f w)
awake-edited (who.Task n) name f w same state h =
    of_edited (λ t. waits (waiting_in t.state) ≡ false) (who.Task n) name f w same (λ t k. ap (λ s. waits (waiting_in s)) (state t) ∙ k) h
awake-edited who.Agent name f w same state h = refl

pub awake-own : (name : Who) (f : Task → Task) (w : World) → ((t : Task) → (f t).who ≡ t.who) → ((t : Task) → waits (waiting_in (f t).state) ≡ false)
    → Awake name (edit_task name f w)
awake-own (who.Task n) f w same k = of_own (λ t. waits (waiting_in t.state) ≡ false) (who.Task n) f w same k refl
awake-own who.Agent f w same k = refl

pub awake-state : (name : Who) (w : World) → waits (waiting_in (task_of w name).state) ≡ false → Awake name w
awake-state (who.Task n) w e = e
awake-state who.Agent w e = refl

abbrev pub FreeTask : Task → Type 0
FreeTask t = top_leaving (first_of t.frames) ≡ false

pub free-edited : (n name : Who) (f : Task → Task) (w : World) → ((t : Task) → (f t).who ≡ t.who) → ((t : Task) → FreeTask t → FreeTask (f t)) → Free n w
    → Free n (edit_task name f w)
free-edited n name f w same k h = of_edited FreeTask n name f w same k h

pub pushed-free : (name : Who) (f : Frame) (w : World) → being_left_in f.mark ≡ false → Free name (push name f w)
pushed-free name f w e = of_own FreeTask name (λ t. with_frames (f ∷ t.frames) t) w (λ t. refl) (λ t. e) refl

-- ---- tasks that are gone or new

pub same_who-path : (a b : Who) → same_who a b ≡ true → a ≡ b
same_who-path (who.Task a) (who.Task b) e = ap (λ (n : ℕ). who.Task (record { 0 = n })) (eqb-true a.0 b.0 e)
same_who-path (who.Task a) who.Agent e = absurd cc
same_who-path who.Agent (who.Task b) e = absurd cc
same_who-path who.Agent who.Agent e = refl

pub same_self : (a : Who) → same_who a a ≡ true
same_self (who.Task a) = eq-eqb a.0 a.0 refl
same_self who.Agent = refl

pub who_path : (a b : Who) → same_who a b ≡ true → a ≡ b
who_path a b e = same_who-path a b e

pub gone-all : (Pr : Task → Type 0) (n m : Who) (xs : List Task) → same_who n m ≡ true → Pr nobody → Of Pr (find (is_who n) (without (is_who m) xs))
gone-all Pr n m [] same none = none
gone-all Pr n m (z ∷ zs) same none =
    let is : n ≡ m = same_who-path n m same in
    all-step Pr n m z (without (is_who m) zs) (same_who m z.who) (ap (λ k. same_who k z.who) is) (gone-all Pr n m zs same none) where
      all-step : (Pr : Task → Type 0) (n m : Who) (z : Task) (left_over : List Task) (b : Bool) → same_who n z.who ≡ b → Of Pr (find (is_who n) left_over)
          → Of Pr (find (is_who n) (cond (not b) (z ∷ left_over) left_over))
      all-step Pr n m z left_over true e h = h
      all-step Pr n m z left_over false e h = subst (λ d. Of Pr (cond d (Some z) (find (is_who n) left_over))) (sym e) h

pub other-gone : (Pr : Task → Type 0) (n m : Who) (xs : List Task) → same_who n m ≡ false → Of Pr (find (is_who n) xs)
    → Of Pr (find (is_who n) (without (is_who m) xs))
other-gone Pr n m [] apart h = h
other-gone Pr n m (z ∷ zs) apart h =
    step Pr n m z zs (without (is_who m) zs) (same_who m z.who) (same_who n z.who) refl refl apart (λ g. other-gone Pr n m zs apart g) h where
      step : (Pr : Task → Type 0) (n m : Who) (z : Task) (zs left_over : List Task) (b c : Bool) → same_who m z.who ≡ b → same_who n z.who ≡ c
          → same_who n m ≡ false → (Of Pr (find (is_who n) zs) → Of Pr (find (is_who n) left_over)) → Of Pr (cond c (Some z) (find (is_who n) zs))
          → Of Pr (find (is_who n) (cond (not b) (z ∷ left_over) left_over))
      step Pr n m z zs left_over true true eb ec apart onward h =
          absurd (let one : n ≡ z.who = same_who-path n z.who ec in let two : m ≡ z.who = same_who-path m z.who eb in
          let alike : same_who n m ≡ true = ap (λ k. same_who k m) one ∙ sym (ap (λ k. same_who k m) two) ∙ same_self m in
          let never : true ≡ false = sym alike ∙ apart in cc)
      step Pr n m z zs left_over true false eb ec apart onward h = onward h
      step Pr n m z zs left_over false true eb ec apart onward h = subst (λ d. Of Pr (cond d (Some z) (find (is_who n) left_over))) (sym ec) h
      step Pr n m z zs left_over false false eb ec apart onward h = subst (λ d. Of Pr (cond d (Some z) (find (is_who n) left_over))) (sym ec) (onward h)

pub of_forgotten : (Pr : Task → Type 0) (n name : Who) (w : World) → Pr nobody → Pr (task_of w n) → Pr (task_of (forget_task name w) n)
of_forgotten Pr who.Agent name w none h = h
of_forgotten Pr (who.Task n) name w none h = forgotten-list Pr (who.Task n) name w.tasks none h (same_who (who.Task n) name) refl where
  forgotten-list : (Pr : Task → Type 0) (n m : Who) (xs : List Task) → Pr nobody → Of Pr (find (is_who n) xs) → (b : Bool) → same_who n m ≡ b
      → Of Pr (find (is_who n) (without (is_who m) xs))
  forgotten-list Pr n m xs none h true e = gone-all Pr n m xs e none
  forgotten-list Pr n m xs none h false e = other-gone Pr n m xs e h

added-list : (Pr : Task → Type 0) (test : Task → Bool) (t : Task) (xs : List Task) → Pr t → Of Pr (find test xs) → Of Pr (find test (xs ++ t ∷ []))
added-list Pr test t [] new h = last (test t) new h where
  last : (b : Bool) → Pr t → Pr nobody → Of Pr (cond b (Some t) None)
  last true new h = new
  last false new h = h
added-list Pr test t (z ∷ zs) new h = step (test z) h (added-list Pr test t zs new) where
  step : (b : Bool) → Of Pr (cond b (Some z) (find test zs)) → (Of Pr (find test zs) → Of Pr (find test (zs ++ t ∷ [])))
      → Of Pr (cond b (Some z) (find test (zs ++ t ∷ [])))
  step true h k = h
  step false h k = k h

pub of_added : (Pr : Task → Type 0) (n : Who) (t : Task) (w : World) → Pr t → Pr (task_of w n) → Pr (task_of (add_task t w) n)
of_added Pr who.Agent t w new h = h
of_added Pr (who.Task n) t w new h = added-list Pr (is_who (who.Task n)) t w.tasks new h

-- ---- of who is edited itself, and of worlds with the same tasks

self-found : (name : Who) (f : Task → Task) (w : World) (t : Task) → task_at w name ≡ Some t → ((u : Task) → (f u).who ≡ u.who)
    → task_of (edit_task_found name f w (Some t)) name ≡ f t
self-found who.Agent f w t e same = refl
self-found (who.Task m) f w t e same =
    let is : is_who (who.Task m) t ≡ true = found-holds (is_who (who.Task m)) w.tasks t e in
    ap (λ (o : Option Task). unwrap_or o nobody) (own-list (is_who (who.Task m)) w.tasks t (f t) e (ap (same_who (who.Task m)) (same t) ∙ is))

pub of_self : (name : Who) (f : Task → Task) (w : World) (t : Task) → task_at w name ≡ Some t → ((u : Task) → (f u).who ≡ u.who)
    → task_of (edit_task name f w) name ≡ f t
of_self name f w t e same = ap (λ (found : Option Task). task_of (edit_task_found name f w found) name) e ∙ self-found name f w t e same

pub of_same : (n : Who) (w v : World) → v.tasks ≡ w.tasks → v.agent ≡ w.agent → task_of v n ≡ task_of w n
of_same (who.Task n) w v a b = ap (λ ts. unwrap_or (found_task (who.Task n) ts) nobody) a
of_same who.Agent w v a b = b

pub awake-same : (n : Who) (w v : World) → v.tasks ≡ w.tasks → v.agent ≡ w.agent → Awake n w → Awake n v
awake-same (who.Task n) w v a b h = ap (λ (t : Task). waits (waiting_in t.state)) (of_same (who.Task n) w v a b) ∙ h
awake-same who.Agent w v a b h = refl
