-- Tasks and objects that come and go: none of it is a call in a queue.
use Rattle.std.proofs.Common.{◌≡◌, ℕ, zero, suc, ◌≤◌, ◌<◌, Bool, true, false, cond, not, ◌&&◌, ◌⊎◌, inl, inr}
use Rattle.std.proofs.Common.{◌++◌, eqb, List, [], ◌∷◌, Option, Some, None, refl, sym, ap, subst, ◌∙◌, arith}
use Rattle.std.specs.Prelude.{find}
use Rattle.std.specs.List.{list_all}
use Rattle.std.proofs.lemmas.Bool.{and_parts, eqb-true, true≢false}
use Rattle.ann_base.specs.declared.identities.CallNo.{CallNo}
use Rattle.ann_base.specs.declared.identities.TaskNo.{TaskNo}
use Rattle.trace_text.specs.declared.events.Who.{Who}
use Rattle.trace_text.specs.declared.events.Who.TheVariants as who
use Rattle.profile_image.specs.declared.image.Image.{Image}
use Rattle.profile_image.specs.declared.numbers.ProtectedUnitNo.{ProtectedUnitNo}
use Rattle.profile_machine.specs.declared.world.World.{World}
use Rattle.profile_machine.specs.declared.world.calls.Call.{Call}
use Rattle.profile_machine.specs.declared.world.calls.Owner.{Owner}
use Rattle.profile_machine.specs.declared.world.calls.Owner.TheVariants as owned_by
use Rattle.profile_machine.specs.declared.world.objects.Object.{Object}
use Rattle.profile_machine.specs.declared.world.scopes.Located.{Located}
use Rattle.profile_machine.specs.declared.world.tasks.State.TheVariants.{Made}
use Rattle.profile_machine.specs.declared.world.tasks.Task.{Task}
use Rattle.profile_image.specs.Words.{same_call, same_who, has, without}
use Rattle.profile_machine.specs.ScopeNumbers.{same_id}
use Rattle.ann_base.specs.Lists.{is_empty}
use Rattle.profile_machine.specs.Tasks.{is_who, nobody, task_of, waiting_in, waiting_of}
use Rattle.profile_machine.specs.Frames.{frames_of}
use Rattle.profile_machine.specs.Values.{is_object, queue_at, queues_of}
use Rattle.profile_machine.specs.Calls.{call_of}
use Rattle.profile_image.specs.Program.{protected_unit_of}
use Rattle.profile_machine.specs.Masters.{forget_task}
use Rattle.profile_machine.specs.Declarations.{no_calls, new_object, object_drawn}
use Rattle.profile_machine.specs.Tasking.{add_task}
use Rattle.profile_machine.specs.declared.world.scopes.ScopeId.{ScopeId}
use Rattle.profile_machine.specs.Scopes.{end_scope, goes_with, is_library}
use Rattle.world_laws.proofs.Queues.TaskEdits as tasks
use Rattle.profile_machine.specs.Notation.{p, t}
use Rattle.profile_machine.specs.WellFormed.{number_in}
use Rattle.world_laws.proofs.Queues.Calming.{Softens, calm-from, came-same, softens-same, task_of-same, unfirm-same}
use Rattle.machine_laws.proofs.ListLemmas.{Falls, Falls-without, Rises-behind, Rises-without}
use Rattle.world_laws.proofs.Queues.Standing.{Awaited, Calm, Fall, Kind, Nature, Open, Stands, Unfirm, Waited_in, ends_by}
use Rattle.world_laws.proofs.Queues.Standing.{has_own, is_ending, is_named, is_task, natures, natures_of, none_late}
use Rattle.world_laws.proofs.Queues.Standing.{object_key, served, served_in, some_nature, task_number, top_waits, waits_end}
use Rattle.world_laws.proofs.Queues.TaskEdits.{gone, left}
use Rattle.line_laws.proofs.Exits.TaskEdits.{same_who-path}

wrong : {A : Type 0} → false ≡ true → A
wrong e = absurd (true≢false (sym e))

waits_for_none : {A : Type 0} (c : CallNo) → None ≡ waits_end c → A
waits_for_none c e = cc

-- ---- entries begin without calls

pub no_calls-none : {X : Type 0} (xs : List X) (k : ℕ) (c : CallNo) → has same_call (queue_at (no_calls xs) k) c ≡ true → ⊥
no_calls-none [] k c h = wrong h
no_calls-none (x ∷ xs) zero c h = wrong h
no_calls-none (x ∷ xs) (suc k) c h = no_calls-none xs k c h

object-first : (b : Bool) (x : Object) (rest : Option Object) (k : ℕ) (c : CallNo) → (has same_call (queue_at x.queues k) c ≡ true → ⊥)
    → has same_call (queue_at (queues_of (cond b (Some x) rest)) k) c ≡ true → has same_call (queue_at (queues_of rest) k) c ≡ true
object-first true x rest k c none h = absurd (none h)
object-first false x rest k c none h = h

-- with numbers that fall, none is hidden behind the new one
none-below : (n top : ℕ) (xs : List Object) → top ≤ n → Falls object_key top xs → find (λ x. eqb n (object_key x)) xs ≡ None
none-below n top [] low h = refl
none-below n top (x ∷ xs) low h =
    ap (λ b. cond b (Some x) (find (λ y. eqb n (object_key y)) xs)) (apart (eqb n (object_key x)) refl)
    ∙ none-below n (object_key x) xs (let less : object_key x < top = h.0 in omega (arith, low, less)) h.1 where
      apart : (b : Bool) → eqb n (object_key x) ≡ b → b ≡ false
      apart true e = let same : n ≡ object_key x = eqb-true n (object_key x) e in let less : object_key x < top = h.0 in absurd (omega (arith, same, less, low))
      apart false e = refl

object-behind : (b : Bool) (x : Object) (rest : Option Object) (k : ℕ) (c : CallNo) → (b ≡ true → rest ≡ None)
    → has same_call (queue_at (queues_of rest) k) c ≡ true → has same_call (queue_at (queues_of (cond b (Some x) rest)) k) c ≡ true
object-behind true x rest k c none h = wrong (subst (λ found. has same_call (queue_at (queues_of found) k) c ≡ true) (none refl) h)
object-behind false x rest k c none h = h

pub adds_object-calm : {E : Kind} (p : Image) (l : Located) (u : ProtectedUnitNo) (w : World)
    → Calm E w (record w { objects = new_object p l u (suc w.drawn.objects) ∷ w.objects; drawn = object_drawn w.drawn })
adds_object-calm p l u w =
    let x = new_object p l u (suc w.drawn.objects) in
    let v = record w { objects = x ∷ w.objects; drawn = object_drawn w.drawn } in
    calm-from w v (λ me. subst (Softens _ none_late me w (task_of w me)) (sym (task_of-same w v refl refl me)) (softens-same me w (task_of w me)))
    (λ o k c h. object-first (is_object o x) x (find (is_object o) w.objects) k c (no_calls-none (protected_unit_of p u).entries k c) h) refl refl
    (λ h. ((omega arith, h.0), h.1)) (λ h. h)
    (λ c y e. came-same w v c y refl e) (λ c h e. e) (λ c h. inl h) (λ t depth h. inl h)
    record {
      gone = λ c is h. wrong is;
      objects = λ fall o k c h. inl (object-behind (is_object o x) x (find (is_object o) w.objects) k c
          (λ is. none-below o.0 (suc w.drawn.objects) w.objects
          (let same : o.0 ≡ suc w.drawn.objects = eqb-true o.0 (suc w.drawn.objects) is in omega (arith, same)) fall.0) h);
      unfirm = λ o k c h. unfirm-same w v c refl;
      set = λ c h. inl h;
    }

-- ---- a task is made

added-of : (P : Task → Type 0) (me : Who) (t : Task) (w : World) → (is_who me t ≡ true → P t) → P nobody → P (task_of w me) → P (task_of (add_task t w) me)
added-of P (who.Task n) t w new blank h = tasks.added P (who.Task n) t w.tasks w.agent new blank h
added-of P who.Agent t w new blank h = tasks.added P who.Agent t w.tasks w.agent new blank h

still-of : (P : Task → Type 0) (me : Who) (t : Task) (w : World) → (P nobody → ⊥) → P (task_of w me) → P (task_of (add_task t w) me)
still-of P (who.Task n) t w blank h = tasks.still P (who.Task n) t w.tasks w.agent blank h
still-of P who.Agent t w blank h = tasks.still P who.Agent t w.tasks w.agent blank h

named-added : (ts : List Task) (t : Task) → is_named t ≡ true → list_all is_named ts ≡ true → list_all is_named (ts ++ t ∷ []) ≡ true
named-added [] t new all = ap (λ b. b && true) new
named-added (x ∷ xs) t new all =
    let parts = and_parts (is_named x) (list_all is_named xs) all in
    ap (λ b. b && list_all is_named (xs ++ t ∷ [])) parts.0 ∙ named-added xs t new parts.1

pub record NewTask (t : Task) (w : World) : Type 0 where
  pub named : t.who ≡ who.Task (record { 0 = w.drawn.tasks })
  pub frames : t.frames ≡ []
  pub state : t.state ≡ Made
  pub queues : (k : ℕ) (c : CallNo) → has same_call (queue_at t.queues k) c ≡ true → ⊥

same-number : (n : TaskNo) (t : Task) (m : ℕ) → t.who ≡ who.Task (record { 0 = m }) → is_who (who.Task n) t ≡ true → n.0 ≡ m
same-number n t m named is = eqb-true n.0 m (subst (λ x. same_who (who.Task n) x ≡ true) named is)

pub add_task-calm : {E : Kind} (t : Task) (w : World) → NewTask t w → Calm E w (add_task t w)
add_task-calm t w new = record {
  drawn = refl;
  tasks = omega arith;
  queues = stood;
  there = λ o k c h e. e;
  kept = λ c is h. h;
  agent = λ k c h. h;
  calls = λ c y e. came-same w (add_task t w) c y refl e;
  fewer =
      λ a c. added-of (λ u. served_in c (natures u.frames) ≤ served c w a) a t w
      (λ is. subst (λ fs. served_in c (natures fs) ≤ served c w a) (sym new.frames) (omega arith)) (omega arith) (omega arith);
  timed = λ c h. inl h;
  timeouts = λ fall c h. inl (h, λ a. still-awaited c a.owner a.place a.stands a.opens a.unfirm);
  opened = λ o k c h open_. was-open o k c h open_;
  objects = λ h. (h.0, Rises-behind task_number 0 w.drawn.tasks w.tasks t (ap number_in new.named) h.1);
  named = λ h. named-added w.tasks t (ap is_task new.named) h;
  present = λ n h. added-of (λ u. is_named u ≡ true → (is_named (task_of w (who.Task n)) ≡ true) ⊎ (n.0 < suc w.drawn.tasks)) (who.Task n) t w
      (λ is e. inr (let same : n.0 ≡ w.drawn.tasks = same-number n t w.drawn.tasks new.named is in omega (arith, same))) (λ e. wrong e) (λ e. inl e) h;
  owns = λ a c h. inl (some-of (has_own c) a h);
  ended = λ a c h. inl (some-of (ends_by c) a h);
  triggers = λ n depth h. inl (
    h,
    λ low waited. added-of (Waited_in depth) (who.Task n) t w
        (λ is. let same : n.0 ≡ w.drawn.tasks = same-number n t w.drawn.tasks new.named is in absurd (omega (arith, same, low))) (inr refl) waited,
  );
  ends =
      λ a c h. added-of
      (λ u. waiting_in u.state ≡ waits_end c
      → (waiting_of w a ≡ waits_end c) × ((d : Call) → call_of w c ≡ Some d → is_ending c (frames_of w a) ≡ true → is_ending c u.frames ≡ true)) a t w
      (λ is e. waits_for_none c (sym (ap waiting_in new.state) ∙ e)) (λ e. waits_for_none c e) (λ e. (e, λ d f i. i)) h;
  tops = λ a steady h. added-of (λ u. top_waits (natures u.frames) ≡ false) a t w (λ is. ap (λ fs. top_waits (natures fs)) new.frames) refl h;
} where
  still-awaited : (c : CallNo) (o : Owner) (k : ℕ) → Stands w o k c → Open w o → Unfirm c w → Awaited c (add_task t w)
  still-awaited c (owned_by.Task n) k h open_ unfirm =
      let both : (has same_call (queue_at (task_of (add_task t w) (who.Task n)).queues k) c ≡ true)
      × ((task_of (add_task t w) (who.Task n)).completed ≡ false) =
      still-of (λ u. (has same_call (queue_at u.queues k) c ≡ true) × (u.completed ≡ false)) (who.Task n) t w (λ e. wrong e.0) (h, open_) in
      record { owner = owned_by.Task n; place = k; stands = both.0; opens = both.1; unfirm = unfirm }
  still-awaited c (owned_by.Object o) k h open_ unfirm = record { owner = owned_by.Object o; place = k; stands = h; opens = tt; unfirm = unfirm }

  was-open : (o : Owner) (k : ℕ) (c : CallNo) → Stands (add_task t w) o k c → Open (add_task t w) o → Open w o
  was-open (owned_by.Task n) k c h open_ =
      added-of (λ u. has same_call (queue_at u.queues k) c ≡ true → u.completed ≡ false → (task_of w (who.Task n)).completed ≡ false) (who.Task n) t w
      (λ is e f. absurd (new.queues k c e)) (λ e f. wrong e) (λ e f. f) h open_
  was-open (owned_by.Object o) k c h open_ = tt

  stood : (o : Owner) (k : ℕ) (c : CallNo) → Stands (add_task t w) o k c → Stands w o k c
  stood (owned_by.Task n) k c h =
      added-of (λ u. has same_call (queue_at u.queues k) c ≡ true → Stands w (owned_by.Task n) k c) (who.Task n) t w (λ is e. absurd (new.queues k c e))
      (λ e. wrong e) (λ e. e) h
  stood (owned_by.Object o) k c h = h

  some-of : (test : Nature → Bool) (a : Who) → some_nature test (natures_of (add_task t w) a) ≡ true → some_nature test (natures_of w a) ≡ true
  some-of test a h =
      added-of (λ u. some_nature test (natures u.frames) ≡ true → some_nature test (natures_of w a) ≡ true) a t w
      (λ is e. wrong (subst (λ fs. some_nature test (natures fs) ≡ true) new.frames e)) (λ e. wrong e) (λ e. e) h

-- ---- a task is there no more

gone-of : (P : Task → Type 0) (me name : Who) (w : World) → P nobody → P (task_of w me) → P (task_of (forget_task name w) me)
gone-of P (who.Task n) name w blank h = tasks.gone P (who.Task n) name w.tasks w.agent blank h
gone-of P who.Agent name w blank h = tasks.gone P who.Agent name w.tasks w.agent blank h

left-of : (P : Task → Type 0) (me name : Who) (w : World) → (same_who me name ≡ true → P nobody) → P (task_of w me) → P (task_of (forget_task name w) me)
left-of P (who.Task n) name w blank h = tasks.left P (who.Task n) name w.tasks w.agent blank h
left-of P who.Agent name w blank h = tasks.left P who.Agent name w.tasks w.agent blank h

kept-named : (b : Bool) (x : Task) (left : List Task) → is_named x ≡ true → list_all is_named left ≡ true → list_all is_named (cond b (x ∷ left) left) ≡ true
kept-named true x left first rest = ap (λ b. b && list_all is_named left) first ∙ rest
kept-named false x left first rest = rest

named-without : (test : Task → Bool) (ts : List Task) → list_all is_named ts ≡ true → list_all is_named (without test ts) ≡ true
named-without test [] all = refl
named-without test (x ∷ xs) all =
    let parts = and_parts (is_named x) (list_all is_named xs) all in
    kept-named (not (test x)) x (without test xs) parts.0 (named-without test xs parts.1)

-- no call stands in the queues of the task that is served
abbrev pub Closed : Who → World → Type 0
Closed name w = (n : TaskNo) → who.Task n ≡ name → (k : ℕ) (c : CallNo) → Stands w (owned_by.Task n) k c → Open w (owned_by.Task n) → ⊥

pub calm-closed : {E : Kind} (name : Who) (w v : World) → Calm E w v → Closed name w → Closed name v
calm-closed name w v calm closed n is k c h open_ = closed n is k c (calm.queues (owned_by.Task n) k c h) (calm.opened (owned_by.Task n) k c h open_)

pub forget_task-calm : {E : Kind} (name : Who) (w : World) → Closed name w → Calm E w (forget_task name w)
forget_task-calm name w closed = record {
  drawn = refl;
  tasks = omega arith;
  queues = stood;
  there = λ o k c h e. e;
  kept = λ c is h. h;
  agent = λ k c h. h;
  calls = λ c y e. came-same w (forget_task name w) c y refl e;
  fewer = λ a c. gone-of (λ u. served_in c (natures u.frames) ≤ served c w a) a name w (omega arith) (omega arith);
  timed = λ c h. inl h;
  timeouts = λ fall c h. inl (h, λ a. still-awaited c a.owner a.place a.stands a.opens a.unfirm);
  opened = λ o k c h open_. was-open o k c h open_;
  objects = λ h. (h.0, Rises-without task_number (is_who name) 0 w.drawn.tasks w.tasks h.1);
  named = λ h. named-without (is_who name) w.tasks h;
  present =
      λ n h.
      gone-of (λ u. is_named u ≡ true → (is_named (task_of w (who.Task n)) ≡ true) ⊎ (n.0 < w.drawn.tasks)) (who.Task n) name w (λ e. wrong e) (λ e. inl e) h;
  owns = λ a c h. inl (some-of (has_own c) a h);
  ended = λ a c h. inl (some-of (ends_by c) a h);
  triggers = λ n depth h. inl (h, λ low waited. gone-of (Waited_in depth) (who.Task n) name w (inr refl) waited);
  ends =
      λ a c h. gone-of
      (λ u. waiting_in u.state ≡ waits_end c
      → (waiting_of w a ≡ waits_end c) × ((d : Call) → call_of w c ≡ Some d → is_ending c (frames_of w a) ≡ true → is_ending c u.frames ≡ true)) a name w
      (λ e. waits_for_none c e)
      (λ e. (e, λ d f i. i)) h;
  tops = λ a steady h. gone-of (λ u. top_waits (natures u.frames) ≡ false) a name w refl h;
} where
  still-awaited : (c : CallNo) (o : Owner) (k : ℕ) → Stands w o k c → Open w o → Unfirm c w → Awaited c (forget_task name w)
  still-awaited c (owned_by.Task n) k h open_ unfirm =
      let both : (has same_call (queue_at (task_of (forget_task name w) (who.Task n)).queues k) c ≡ true)
      × ((task_of (forget_task name w) (who.Task n)).completed ≡ false) =
      left-of (λ u. (has same_call (queue_at u.queues k) c ≡ true) × (u.completed ≡ false)) (who.Task n) name w
      (λ same. absurd (closed n (same_who-path (who.Task n) name same) k c h open_)) (h, open_) in
      record { owner = owned_by.Task n; place = k; stands = both.0; opens = both.1; unfirm = unfirm }
  still-awaited c (owned_by.Object o) k h open_ unfirm = record { owner = owned_by.Object o; place = k; stands = h; opens = tt; unfirm = unfirm }

  was-open : (o : Owner) (k : ℕ) (c : CallNo) → Stands (forget_task name w) o k c → Open (forget_task name w) o → Open w o
  was-open (owned_by.Task n) k c h open_ =
      gone-of (λ u. has same_call (queue_at u.queues k) c ≡ true → u.completed ≡ false → (task_of w (who.Task n)).completed ≡ false) (who.Task n) name w
      (λ e f. wrong e) (λ e f. f) h open_
  was-open (owned_by.Object o) k c h open_ = tt

  stood : (o : Owner) (k : ℕ) (c : CallNo) → Stands (forget_task name w) o k c → Stands w o k c
  stood (owned_by.Task n) k c h =
      gone-of (λ u. has same_call (queue_at u.queues k) c ≡ true → Stands w (owned_by.Task n) k c) (who.Task n) name w (λ e. wrong e) (λ e. e) h
  stood (owned_by.Object o) k c h = h

  some-of : (test : Nature → Bool) (a : Who) → some_nature test (natures_of (forget_task name w) a) ≡ true → some_nature test (natures_of w a) ≡ true
  some-of test a h = gone-of (λ u. some_nature test (natures u.frames) ≡ true → some_nature test (natures_of w a) ≡ true) a name w (λ e. wrong e) (λ e. e) h

-- ---- objects go with their scope: with numbers that fall, none was hidden behind another

left-step : (n : ℕ) (k : ℕ) (c : CallNo) (x : Object) (xs left : List Object) (out is : Bool) → eqb n (object_key x) ≡ is
    → (is ≡ true → find (λ y. eqb n (object_key y)) left ≡ None)
    → (has same_call (queue_at (queues_of (find (λ y. eqb n (object_key y)) left)) k) c ≡ true
    → has same_call (queue_at (queues_of (find (λ y. eqb n (object_key y)) xs)) k) c ≡ true)
    → has same_call (queue_at (queues_of (find (λ y. eqb n (object_key y)) (cond (not out) (x ∷ left) left))) k) c ≡ true
    → has same_call (queue_at (queues_of (cond is (Some x) (find (λ y. eqb n (object_key y)) xs))) k) c ≡ true
left-step n k c x xs left true true e none onward h = wrong (subst (λ found. has same_call (queue_at (queues_of found) k) c ≡ true) (none refl) h)
left-step n k c x xs left true false e none onward h = onward h
left-step n k c x xs left false true e none onward h =
    subst (λ b. has same_call (queue_at (queues_of (cond b (Some x) (find (λ y. eqb n (object_key y)) left))) k) c ≡ true) e h
left-step n k c x xs left false false e none onward h =
    onward (subst (λ b. has same_call (queue_at (queues_of (cond b (Some x) (find (λ y. eqb n (object_key y)) left))) k) c ≡ true) e h)

left-stands : (n : ℕ) (test : Object → Bool) (k : ℕ) (c : CallNo) (top : ℕ) (xs : List Object) → Falls object_key top xs
    → has same_call (queue_at (queues_of (find (λ y. eqb n (object_key y)) (without test xs))) k) c ≡ true
    → has same_call (queue_at (queues_of (find (λ y. eqb n (object_key y)) xs)) k) c ≡ true
left-stands n test k c top [] fall h = h
left-stands n test k c top (x ∷ xs) fall h =
    left-step n k c x xs (without test xs) (test x) (eqb n (object_key x)) refl
    (λ is. let same : n ≡ object_key x = eqb-true n (object_key x) is in
    none-below n (object_key x) (without test xs) (omega (arith, same)) (Falls-without object_key test (object_key x) xs fall.1))
    (left-stands n test k c (object_key x) xs fall.1) h

-- an object in whose queues a call stands stays
not-empty : (queues : List (List CallNo)) (k : ℕ) (c : CallNo) → has same_call (queue_at queues k) c ≡ true → list_all is_empty queues ≡ false
not-empty [] k c h = wrong h
not-empty ([] ∷ queues) zero c h = wrong h
not-empty ((x ∷ xs) ∷ queues) zero c h = refl
not-empty ([] ∷ queues) (suc k) c h = not-empty queues k c h
not-empty ((x ∷ xs) ∷ queues) (suc k) c h = refl

last-false : (a b c : Bool) → c ≡ false → (a && b && c) ≡ false
last-false true true c e = e
last-false true false c e = refl
last-false false b c e = refl

stays-here : (id : ScopeId) (k : ℕ) (c : CallNo) (x : Object) → has same_call (queue_at x.queues k) c ≡ true → goes_with id x ≡ false
stays-here id k c x h = last-false (same_id id x.located.within) (not (is_library id)) (list_all is_empty x.queues) (not-empty x.queues k c h)

stays-step : (n : ℕ) (k : ℕ) (c : CallNo) (x : Object) (xs left : List Object) (out is : Bool) → eqb n (object_key x) ≡ is
    → (has same_call (queue_at x.queues k) c ≡ true → out ≡ false)
    → (has same_call (queue_at (queues_of (find (λ y. eqb n (object_key y)) xs)) k) c ≡ true
    → has same_call (queue_at (queues_of (find (λ y. eqb n (object_key y)) left)) k) c ≡ true)
    → has same_call (queue_at (queues_of (cond is (Some x) (find (λ y. eqb n (object_key y)) xs))) k) c ≡ true
    → has same_call (queue_at (queues_of (find (λ y. eqb n (object_key y)) (cond (not out) (x ∷ left) left))) k) c ≡ true
stays-step n k c x xs left true true e stays onward h = wrong (sym (stays h))
stays-step n k c x xs left true false e stays onward h = onward h
stays-step n k c x xs left false true e stays onward h =
    subst (λ b. has same_call (queue_at (queues_of (cond b (Some x) (find (λ y. eqb n (object_key y)) left))) k) c ≡ true) (sym e) h
stays-step n k c x xs left false false e stays onward h =
    subst (λ b. has same_call (queue_at (queues_of (cond b (Some x) (find (λ y. eqb n (object_key y)) left))) k) c ≡ true) (sym e) (onward h)

stays-stands : (n : ℕ) (id : ScopeId) (k : ℕ) (c : CallNo) (xs : List Object)
    → has same_call (queue_at (queues_of (find (λ y. eqb n (object_key y)) xs)) k) c ≡ true
    → has same_call (queue_at (queues_of (find (λ y. eqb n (object_key y)) (without (goes_with id) xs))) k) c ≡ true
stays-stands n id k c [] h = h
stays-stands n id k c (x ∷ xs) h =
    stays-step n k c x xs (without (goes_with id) xs) (goes_with id x) (eqb n (object_key x)) refl (λ here. stays-here id k c x here)
    (λ rest. stays-stands n id k c xs rest) h

pub end_scope-calm : {E : Kind} (id : ScopeId) (w : World) → Fall w → Calm E w (end_scope id w)
end_scope-calm id w fall =
    let v = end_scope id w in
    calm-from w v (λ me. subst (Softens _ none_late me w (task_of w me)) (sym (task_of-same w v refl refl me)) (softens-same me w (task_of w me)))
    (λ o k c h. left-stands o.0 (goes_with id) k c (suc w.drawn.objects) w.objects fall.0 h) refl refl
    (λ h. (Falls-without object_key (goes_with id) (suc w.drawn.objects) w.objects h.0, h.1)) (λ h. h)
    (λ c y e. came-same w v c y refl e) (λ c h e. e) (λ c h. inl h) (λ t depth h. inl h)
    record {
      gone = λ c is h. wrong is;
      objects = λ fall_then o k c h. inl (stays-stands o.0 id k c w.objects h);
      unfirm = λ o k c h. unfirm-same w v c refl;
      set = λ c h. inl h;
    }
