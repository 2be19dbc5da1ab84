-- Changes that are not calm, from good worlds to good ones: a call is queued, one begins, and a mark serves one that has begun.
use Rattle.std.proofs.Common.{◌≡◌, ◌+◌, ℕ, suc, Bool, true, false, ◌⊎◌, inl, inr, ◌<◌, ◌≤◌, List, Some, refl, sym, subst, ap, ◌∙◌, arith}
use Rattle.std.specs.Prelude.{is_none, is_some, find}
use Rattle.std.proofs.lemmas.Bool.{true≢false}
use Rattle.ann_base.specs.declared.identities.CallNo.{CallNo}
use Rattle.trace_text.specs.declared.events.Who.{Who}
use Rattle.trace_text.specs.declared.events.Who.TheVariants as who
use Rattle.profile_image.specs.declared.image.Image.{Image}
use Rattle.profile_machine.specs.declared.world.World.{World}
use Rattle.profile_machine.specs.declared.world.calls.Call.{Call}
use Rattle.profile_machine.specs.declared.world.calls.Owner.{Owner}
use Rattle.profile_machine.specs.declared.world.calls.Owner.TheVariants as owned_by
use Rattle.profile_machine.specs.declared.world.marks.Frame.{Frame}
use Rattle.profile_machine.specs.declared.world.tasks.Task.{Task}
use Rattle.profile_image.specs.Words.{same_call, has, edit_at}
use Rattle.profile_machine.specs.Tasks.{task_at, task_of, edit_task, with_frames}
use Rattle.profile_machine.specs.Frames.{frames_of}
use Rattle.profile_machine.specs.Appointments.{is_appointed, is_timeout_of}
use Rattle.profile_machine.specs.Values.{is_object, queue_at}
use Rattle.profile_machine.specs.Calls.{is_call, call_of, edit_queue}
use Rattle.profile_machine.specs.Notation.{p, t}
use Rattle.world_laws.proofs.Queues.CallLists.{same-call}
use Rattle.world_laws.proofs.Queues.Calming.{StandsAt, edit_task-calls, edit_task-drawn, edit_task-fall, edit_task-objects}
use Rattle.world_laws.proofs.Queues.Calming.{found-appointments, named-edited, task-edited, task_of-same}
use Rattle.machine_laws.proofs.ListLemmas.{Falls-edit_where}
use Rattle.world_laws.proofs.Queues.Serving.{Beside, Marks, Services, call-was, good-by, low-is, marks-same}
use Rattle.world_laws.proofs.Queues.Serving.{queue-comes, set-was, awaited-on, queue-open, queue-stays}
use Rattle.world_laws.proofs.Queues.Standing.{Awake, Calm, Good, Idle, Kind, Own, Stands, awaits_at, calm-awake, calm-good, calm-owns}
use Rattle.world_laws.proofs.Queues.Standing.{ends_by, has_own, natures, object_key, one_if, rightly, served, served_in, some_nature, Open}

-- ---- what leads on: the world behind is good, who was awake is awake, and calls are those of their callers

pub record Next (p : Image) (w v : World) : Type 0 where
  pub good : Good p v
  pub awake : (a : Who) → Awake a w → Awake a v
  pub tasks : w.drawn.tasks ≤ v.drawn.tasks
  pub owns : (a : Who) (c : CallNo) → Own a c w → Own a c v

pub next-then : (p : Image) (a b c : World) → Next p a b → Next p b c → Next p a c
next-then p a b c f g = record {
  good = g.good;
  awake = λ n h. g.awake n (f.awake n h);
  tasks = let one : a.drawn.tasks ≤ b.drawn.tasks = f.tasks in let two : b.drawn.tasks ≤ c.drawn.tasks = g.tasks in omega (arith, one, two);
  owns = λ n x h. g.owns n x (f.owns n x h);
}

pub calm-next : {E : Kind} (p : Image) (w v : World) → Good p w → Calm E w v → Next p w v
calm-next p w v good calm = record { good = calm-good p w v good calm; awake = calm-awake w v calm; tasks = calm.tasks; owns = calm-owns w v calm }

beside-next : (p : Image) (w v : World) → Beside w v → Good p v → Next p w v
unfolding Awake
beside-next p w v beside good = record {
  good = good;
  awake = λ a awake c d is e. awake c d ((beside.marks a).ends c is).0 (call-was w v beside c d e);
  tasks = subst (λ d. w.drawn.tasks ≤ d.tasks) (sym beside.drawn) (omega arith);
  owns = λ a c own. (low-is w v beside c.0 own.0, λ d e. own.1 d (call-was w v beside c d e));
}

-- ---- a call is queued

pub queue-beside : (owner : Owner) (place : ℕ) (f : List CallNo → List CallNo) (w : World) → Beside w (edit_queue owner place f w)
queue-beside (owned_by.Task t) place f w =
    let name = who.Task t in
    let g : Task → Task = λ u. record u { queues = edit_at place f u.queues } in
    record {
      calls = edit_task-calls name g w;
      drawn = edit_task-drawn name g w;
      appointments = found-appointments name g w (task_at w name);
      objects = λ h. edit_task-fall name g w (λ u. refl) h;
      named = λ h. named-edited name g w (task_at w name) refl (λ u. refl) h;
      marks =
          task-edited name g w (λ u. refl) (λ me t u. Marks me w t u) (λ me. marks-same me w (task_of w me) (task_of w me) refl refl refl)
          (marks-same name w (task_of w name) (g (task_of w name)) refl refl refl);
    }
queue-beside (owned_by.Object o) place f w =
    let v = edit_queue (owned_by.Object o) place f w in
    record {
      calls = refl;
      drawn = refl;
      appointments = refl;
      objects = λ h. (
        Falls-edit_where object_key (is_object o) (λ u. record u { queues = edit_at place f u.queues }) (λ x. refl) (suc w.drawn.objects) w.objects h.0,
        h.1,
      );
      named = λ h. h;
      marks = λ me. subst (Marks me w (task_of w me)) (sym (task_of-same w v refl refl me)) (marks-same me w (task_of w me) (task_of w me) refl refl refl);
    }

pub queue-frames : (owner : Owner) (place : ℕ) (f : List CallNo → List CallNo) (w : World) (me : Who)
    → frames_of (edit_queue owner place f w) me ≡ frames_of w me
queue-frames (owned_by.Task t) place f w me =
    task-edited (who.Task t) (λ u. record u { queues = edit_at place f u.queues }) w (λ u. refl) (λ m a b. b.frames ≡ a.frames) (λ m. refl) refl me
queue-frames (owned_by.Object o) place f w me = ap (λ (t : Task). t.frames) (task_of-same w (edit_queue (owned_by.Object o) place f w) refl refl me)

queue-agent : (owner : Owner) (place : ℕ) (f : List CallNo → List CallNo) (w : World) (k : ℕ) (c : CallNo)
    → has same_call (queue_at (task_of (edit_queue owner place f w) who.Agent).queues k) c ≡ true
    → has same_call (queue_at (task_of w who.Agent).queues k) c ≡ true
queue-agent (owned_by.Task t) place f w k c h =
    task-edited (who.Task t) (λ u. record u { queues = edit_at place f u.queues }) w (λ u. refl)
    (λ m a b. m ≡ who.Agent → has same_call (queue_at b.queues k) c ≡ true → has same_call (queue_at a.queues k) c ≡ true) (λ m is e. e)
    (λ is e. absurd (apart is)) who.Agent refl h where
      apart : who.Task t ≡ who.Agent → ⊥
      apart e = cc
queue-agent (owned_by.Object o) place f w k c h = h

-- who serves in the same way keeps services
pub services-same : (p : Image) (w v : World) → Good p w → Beside w v → ((me : Who) → frames_of v me ≡ frames_of w me) → Services v
services-same p w v good beside frames = record {
  serving = λ a c h. low-is w v beside c.0 (good.serving a c (was a c h));
  begun = λ a c d h e. good.begun a c d (was a c h) (call-was w v beside c d e);
  once = λ a c. subst (λ n. n ≤ 1) (sym (same a c)) (good.once a c);
  alone = λ a b c h i. good.alone a b c (was a c h) (was b c i);
  timed = λ c h a. same a c ∙ good.timed c (set-was w v beside (is_timeout_of c) h) a;
} where
  same : (a : Who) (c : CallNo) → served c v a ≡ served c w a
  same a c = ap (λ fs. served_in c (natures fs)) (frames a)

  was : (a : Who) (c : CallNo) → 0 < served c v a → 0 < served c w a
  was a c h = subst (λ n. 0 < n) (same a c) h

pub queued-next : (p : Image) (owner : Owner) (place : ℕ) (f : List CallNo → List CallNo) (c : CallNo) (d : Call) (w : World)
    → ((q : List CallNo) (x : CallNo) → has same_call (f q) x ≡ true → (same_call c x ≡ true) ⊎ (has same_call q x ≡ true))
    → ((q : List CallNo) (x : CallNo) → has same_call q x ≡ true → has same_call (f q) x ≡ true) → Good p w → call_of w c ≡ Some d
    → rightly p owner place d ≡ true → Next p w (edit_queue owner place f w)
queued-next p owner place f c d w comes stays good is right =
    let v = edit_queue owner place f w in
    let beside = queue-beside owner place f w in
    beside-next p w v beside (good-by w v beside p good
    record {
      within = λ o k x h. by_way_low x (queue-comes owner place f c comes w o k x h);
      there = λ o k x h. by_way_there x (queue-comes owner place f c comes w o k x h);
      right = λ o k x y h e. by_way_right o k x y (queue-comes owner place f c comes w o k x h) (call-was w v beside x y e);
      agent = λ k x h. good.agent k x (queue-agent owner place f w k x h);
    }
    (services-same p w v good beside (queue-frames owner place f w))
    (awaited-on w v beside p good (queue-stays owner place f stays w) (queue-open owner place f w))) where
      by_way_low : {o : Owner} {k : ℕ} (x : CallNo) → ((same_call c x ≡ true) × (o ≡ owner) × (k ≡ place)) ⊎ Stands w o k x
          → x.0 ≤ (edit_queue owner place f w).drawn.calls
      by_way_low x (inl e) =
          low-is w (edit_queue owner place f w) (queue-beside owner place f w) x.0 (subst (λ n. n.0 ≤ w.drawn.calls) (same-call c x e.0) (good.known c d is))
      by_way_low {o = o} {k = k} x (inr h) = low-is w (edit_queue owner place f w) (queue-beside owner place f w) x.0 (good.within o k x h)

      here : (x : CallNo) → is_some (call_of w x) ≡ true → is_some (call_of (edit_queue owner place f w) x) ≡ true
      here x e = ap (λ ds. is_some (find (is_call x) ds)) (queue-beside owner place f w).calls ∙ e

      by_way_there : {o : Owner} {k : ℕ} (x : CallNo) → ((same_call c x ≡ true) × (o ≡ owner) × (k ≡ place)) ⊎ Stands w o k x
          → is_some (call_of (edit_queue owner place f w) x) ≡ true
      by_way_there x (inl e) = here x (subst (λ n. is_some (call_of w n) ≡ true) (same-call c x e.0) (ap is_some is))
      by_way_there {o = o} {k = k} x (inr h) = here x (good.there o k x h)

      one-call : (a b : Call) → Some a ≡ Some b → a ≡ b
      one-call a b e = cc

      by_way_right : (o : Owner) (k : ℕ) (x : CallNo) (y : Call) → ((same_call c x ≡ true) × (o ≡ owner) × (k ≡ place)) ⊎ Stands w o k x → call_of w x ≡ Some y
          → rightly p o k y ≡ true
      by_way_right o k x y (inl e) found =
          let same : d ≡ y = one-call d y (sym is ∙ subst (λ n. call_of w n ≡ Some y) (sym (same-call c x e.0)) found) in
          subst (λ z. rightly p o k z ≡ true) same (subst (λ q. rightly p q k d ≡ true) (sym e.1) (subst (λ n. rightly p owner n d ≡ true) (sym e.2) right))
      by_way_right o k x y (inr h) found = good.right o k x y h found

-- ---- a call that has begun is served

pub record Begun (c : CallNo) (w : World) : Type 0 where
  pub idle : Idle c w
  pub low : c.0 ≤ w.drawn.calls
  pub begun : (d : Call) → call_of w c ≡ Some d → (d.begun ≡ true) × (is_none d.outcome ≡ true)
  pub untimed : is_appointed (is_timeout_of c) w ≡ false

pub record Serves (c : CallNo) (fs gs : List Frame) : Type 0 where
  pub owns : (x : CallNo) → some_nature (has_own x) (natures gs) ≡ true → some_nature (has_own x) (natures fs) ≡ true
  pub ended : (x : CallNo) → some_nature (ends_by x) (natures gs) ≡ true → some_nature (ends_by x) (natures fs) ≡ true
  pub awaits : (depth : ℕ) → awaits_at depth (natures fs) ≡ true → awaits_at depth (natures gs) ≡ true
  pub few : (x : CallNo) → served_in x (natures gs) ≤ one_if (same_call c x) + served_in x (natures fs)

module _ (p : Image) (name : Who) (f : List Frame → List Frame) (c : CallNo) (w : World) (good : Good p w) (begun : Begun c w) (awake : Awake name w)
    (serves : Serves c (frames_of w name) (f (frames_of w name))) where
  abbrev servant : World
  servant = edit_task name (λ t. with_frames (f t.frames) t) w

  serves-queues : (me : Who) → (task_of servant me).queues ≡ (task_of w me).queues
  serves-queues = task-edited name (λ t. with_frames (f t.frames) t) w (λ t. refl) (λ m a b. b.queues ≡ a.queues) (λ m. refl) refl

  serves-beside : Beside w servant
  unfolding Awake
  serves-beside =
      let g : Task → Task = λ t. with_frames (f t.frames) t in
      record {
        calls = edit_task-calls name g w;
        drawn = edit_task-drawn name g w;
        appointments = found-appointments name g w (task_at w name);
        objects = λ h. edit_task-fall name g w (λ u. refl) h;
        named = λ h. named-edited name g w (task_at w name) refl (λ u. refl) h;
        marks = task-edited name g w (λ u. refl) (λ me t u. Marks me w t u) (λ me. marks-same me w (task_of w me) (task_of w me) refl refl refl)
            record { named = refl; owns = serves.owns; ended = serves.ended; awaits = serves.awaits; ends = λ x h. (h, λ d e i. absurd (awake x d h e)) };
      }

  serves-stands : (o : Owner) (k : ℕ) (x : CallNo) → Stands servant o k x → Stands w o k x
  serves-stands (owned_by.Task t) k x h = subst (λ qs. has same_call (queue_at qs k) x ≡ true) (serves-queues (who.Task t)) h
  serves-stands (owned_by.Object o) k x h = subst (λ xs. StandsAt xs o k x) (edit_task-objects name (λ t. with_frames (f t.frames) t) w) h

  stood-serves : (o : Owner) (k : ℕ) (x : CallNo) → Stands w o k x → Stands servant o k x
  stood-serves (owned_by.Task t) k x h = subst (λ qs. has same_call (queue_at qs k) x ≡ true) (sym (serves-queues (who.Task t))) h
  stood-serves (owned_by.Object o) k x h = subst (λ xs. StandsAt xs o k x) (sym (edit_task-objects name (λ t. with_frames (f t.frames) t) w)) h

  open-serves : (o : Owner) → Open w o → Open servant o
  open-serves (owned_by.Task t) is =
      task-edited name (λ t. with_frames (f t.frames) t) w (λ t. refl) (λ m a b. b.completed ≡ a.completed) (λ m. refl) refl (who.Task t) ∙ is
  open-serves (owned_by.Object o) is = tt

  -- served as before, or by this one alone
  serves-few : (x : CallNo) (a : Who) → (served x servant a ≤ served x w a) ⊎ ((a ≡ name) × (served x servant a ≤ one_if (same_call c x) + served x w a))
  serves-few x =
      task-edited name (λ t. with_frames (f t.frames) t) w (λ t. refl)
      (λ m a b. (served_in x (natures b.frames) ≤ served_in x (natures a.frames))
      ⊎ ((m ≡ name) × (served_in x (natures b.frames) ≤ one_if (same_call c x) + served_in x (natures a.frames))))
      (λ m. inl (omega arith)) (inr (refl, serves.few x))

  serves-was : (x : CallNo) → same_call c x ≡ false → (a : Who) → served x servant a ≤ served x w a
  serves-was x apart a = of-way (serves-few x a) where
    of-way : (served x servant a ≤ served x w a) ⊎ ((a ≡ name) × (served x servant a ≤ one_if (same_call c x) + served x w a))
        → served x servant a ≤ served x w a
    of-way (inl h) = h
    of-way (inr h) =
        let most : served x servant a ≤ 0 + served x w a = subst (λ b. served x servant a ≤ one_if b + served x w a) apart h.1 in omega (arith, most)

  serves-new : (x : CallNo) → same_call c x ≡ true → (a : Who) → served x servant a ≤ 1
  serves-new x is a = of-way (serves-few x a) where
    none : served x w a ≡ 0
    none = subst (λ n. served n w a ≡ 0) (same-call c x is) (begun.idle a)

    of-way : (served x servant a ≤ served x w a) ⊎ ((a ≡ name) × (served x servant a ≤ one_if (same_call c x) + served x w a)) → served x servant a ≤ 1
    of-way (inl h) = let zero_of : served x w a ≡ 0 = none in omega (arith, h, zero_of)
    of-way (inr h) =
        let most : served x servant a ≤ 1 + served x w a = subst (λ b. served x servant a ≤ one_if b + served x w a) is h.1 in
        let zero_of : served x w a ≡ 0 = none in omega (arith, most, zero_of)

  serves-name : (x : CallNo) → same_call c x ≡ true → (a : Who) → 0 < served x servant a → a ≡ name
  serves-name x is a h = of-way (serves-few x a) where
    none : served x w a ≡ 0
    none = subst (λ n. served n w a ≡ 0) (same-call c x is) (begun.idle a)

    of-way : (served x servant a ≤ served x w a) ⊎ ((a ≡ name) × (served x servant a ≤ one_if (same_call c x) + served x w a)) → a ≡ name
    of-way (inl k) = let zero_of : served x w a ≡ 0 = none in absurd (omega (arith, h, k, zero_of))
    of-way (inr k) = k.0

  by_call : {P : Type 0} (x : CallNo) → (same_call c x ≡ true → P) → (same_call c x ≡ false → P) → P
  by_call x k l = of_test (same_call c x) k l where
    of_test : {P : Type 0} (b : Bool) → (b ≡ true → P) → (b ≡ false → P) → P
    of_test true k l = k refl
    of_test false k l = l refl

  still : (x : CallNo) (a : Who) → same_call c x ≡ false → 0 < served x servant a → 0 < served x w a
  still x a apart h = let few : served x servant a ≤ served x w a = serves-was x apart a in omega (arith, h, few)

  serves-services : Services servant
  serves-services = record {
    serving =
        λ a x h. by_call x (λ is. low-is w servant serves-beside x.0 (subst (λ n. n.0 ≤ w.drawn.calls) (same-call c x is) begun.low))
        (λ apart. low-is w servant serves-beside x.0 (good.serving a x (still x a apart h)));
    begun =
        λ a x d h e. by_call x (λ is. begun.begun d (subst (λ n. call_of w n ≡ Some d) (sym (same-call c x is)) (call-was w servant serves-beside x d e)))
        (λ apart. good.begun a x d (still x a apart h) (call-was w servant serves-beside x d e));
    once =
        λ a x. by_call x (λ is. serves-new x is a)
        (λ apart. let few : served x servant a ≤ served x w a = serves-was x apart a in let one : served x w a ≤ 1 = good.once a x in omega (arith, few, one));
    alone =
        λ a b x h i. by_call x (λ is. serves-name x is a h ∙ sym (serves-name x is b i)) (λ apart. good.alone a b x (still x a apart h) (still x b apart i));
    timed =
        λ x h. by_call x
        (λ is. absurd
        (true≢false
        (sym (set-was w servant serves-beside (is_timeout_of x) h) ∙ subst (λ n. is_appointed (is_timeout_of n) w ≡ false) (same-call c x is) begun.untimed)))
        (λ apart a. let none : served x w a ≡ 0 = good.timed x (set-was w servant serves-beside (is_timeout_of x) h) a in
        let few : served x servant a ≤ served x w a = serves-was x apart a in omega (arith, few, none));
  }

  pub served-next : Next p w servant
  served-next =
      beside-next p w servant serves-beside (good-by w servant serves-beside p good
      record {
        within = λ o k x h. low-is w servant serves-beside x.0 (good.within o k x (serves-stands o k x h));
        there = λ o k x h. ap (λ ds. is_some (find (is_call x) ds)) serves-beside.calls ∙ good.there o k x (serves-stands o k x h);
        right = λ o k x d h e. good.right o k x d (serves-stands o k x h) (call-was w servant serves-beside x d e);
        agent = λ k x h. good.agent k x (subst (λ qs. has same_call (queue_at qs k) x ≡ true) (serves-queues who.Agent) h);
      } serves-services (awaited-on w servant serves-beside p good stood-serves open-serves))
