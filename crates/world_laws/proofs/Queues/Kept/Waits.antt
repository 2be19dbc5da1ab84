-- Somebody begins to wait for the end of the call of the abortable part on top, which has come to its end (9.7.4).
use Rattle.std.proofs.Common.{Bool, true, inl, inr, Some, ℕ, is_some, find, ◌⊎◌, ◌≤◌, ◌<◌}
use Rattle.std.proofs.Common.{◌≡◌, refl, sym, subst, ap, ◌∙◌}
use Rattle.std.specs.List.{list_any}
use Rattle.trace_text.specs.declared.events.Who.TheVariants as who
use Rattle.profile_machine.specs.declared.world.calls.Owner.TheVariants as owned_by
use Rattle.profile_machine.specs.declared.world.tasks.State.TheVariants.{Blocked}
use Rattle.profile_machine.specs.declared.world.tasks.Waiting.TheVariants as waits_for
use Rattle.ann_base.specs.declared.identities.CallNo.{CallNo}
use Rattle.ann_base.specs.declared.identities.TaskNo.{TaskNo}
use Rattle.profile_machine.specs.Appointments.{is_appointed, is_timeout_of, is_trigger_of}
use Rattle.profile_machine.specs.Calls.{call_of, is_call}
use Rattle.profile_machine.specs.Frames.{frames_of}
use Rattle.profile_machine.specs.Notation.{t}
use Rattle.profile_machine.specs.Tasks.{edit_task, task_at, task_of, waiting_in, waiting_of, with_state}
use Rattle.profile_machine.specs.Values.{queue_at}
use Rattle.profile_image.specs.Words.{has, same_call}
use Rattle.profile_image.specs.declared.image.Image.{Image}
use Rattle.profile_machine.specs.declared.world.World.{World}
use Rattle.profile_machine.specs.declared.world.appointments.Due.{Due}
use Rattle.profile_machine.specs.declared.world.calls.Call.{Call}
use Rattle.profile_machine.specs.declared.world.calls.Owner.{Owner}
use Rattle.profile_machine.specs.declared.world.tasks.Task.{Task}
use Rattle.trace_text.specs.declared.events.Who.{Who}
use Rattle.world_laws.proofs.Queues.Calming.{StandsAt, edit_task-calls, edit_task-drawn, edit_task-fall}
use Rattle.world_laws.proofs.Queues.Calming.{edit_task-objects, found-appointments, named-edited, task-edited}
use Rattle.world_laws.proofs.Queues.Standing.{Awaited, Good, Open, Stands, Unfirm, Waited, awaits_at, ends_by, has_own}
use Rattle.world_laws.proofs.Queues.Standing.{is_ending, is_task, natures, none_late, served, served_in, some_nature, waits_end}

module _ (p : Image) (name : Who) (c : CallNo) (w : World) (good : Good p w) (low : c.0 ≤ w.drawn.calls) (ending : is_ending c (frames_of w name) ≡ true) where
  abbrev pub waiting_world : World
  waiting_world = edit_task name (with_state (Blocked (waits_for.EndOfCall c))) w

  abbrev waits : Task → Task
  waits = with_state (Blocked (waits_for.EndOfCall c))

  waits-who : (me : Who) → (task_of waiting_world me).who ≡ (task_of w me).who
  waits-who = task-edited name waits w (λ t. refl) (λ m a b. b.who ≡ a.who) (λ m. refl) refl

  waits-frames : (me : Who) → frames_of waiting_world me ≡ frames_of w me
  waits-frames = task-edited name waits w (λ t. refl) (λ m a b. b.frames ≡ a.frames) (λ m. refl) refl

  waits-queues : (me : Who) → (task_of waiting_world me).queues ≡ (task_of w me).queues
  waits-queues = task-edited name waits w (λ t. refl) (λ m a b. b.queues ≡ a.queues) (λ m. refl) refl

  same-waiting : (x : CallNo) → waits_end c ≡ waits_end x → x ≡ c
  same-waiting x e = cc

  waits-since : (x : CallNo) (me : Who) → waiting_of waiting_world me ≡ waits_end x → (waiting_of w me ≡ waits_end x) ⊎ ((me ≡ name) × (x ≡ c))
  waits-since x me =
      task-edited name waits w (λ t. refl) (λ m a b. waiting_in b.state ≡ waits_end x → (waiting_in a.state ≡ waits_end x) ⊎ ((m ≡ name) × (x ≡ c)))
      (λ m e. inl e) (λ e. inr (refl, same-waiting x e)) me

  was-call : (x : CallNo) (d : Call) → call_of waiting_world x ≡ Some d → call_of w x ≡ Some d
  was-call x d e = ap (λ ds. find (is_call x) ds) (sym (edit_task-calls name waits w)) ∙ e

  is-low : (n : ℕ) → n ≤ w.drawn.calls → n ≤ waiting_world.drawn.calls
  is-low n h = subst (λ d. n ≤ d.calls) (sym (edit_task-drawn name waits w)) h

  was-set : (test : Due → Bool) → is_appointed test waiting_world ≡ true → is_appointed test w ≡ true
  was-set test h = ap (λ xs. list_any (λ a. test a.due) xs) (sym (found-appointments name waits w (task_at w name))) ∙ h

  stood : (o : Owner) (k : ℕ) (x : CallNo) → Stands waiting_world o k x → Stands w o k x
  stood (owned_by.Task t) k x h = subst (λ qs. has same_call (queue_at qs k) x ≡ true) (waits-queues (who.Task t)) h
  stood (owned_by.Object o) k x h = subst (λ xs. StandsAt xs o k x) (edit_task-objects name waits w) h

  waits-awaited : (x : CallNo) → Awaited x w ⊎ (none_late x ≡ true) → Awaited x waiting_world ⊎ (none_late x ≡ true)
  waits-awaited x (inl a) = inl (by_owner a.owner a.place a.stands a.opens (λ d e. a.unfirm d (was-call x d e))) where
    by_owner : (o : Owner) (k : ℕ) → Stands w o k x → Open w o → Unfirm x waiting_world → Awaited x waiting_world
    by_owner (owned_by.Task t) k h open_ unfirm = record {
      owner = owned_by.Task t;
      place = k;
      stands = subst (λ qs. has same_call (queue_at qs k) x ≡ true) (sym (waits-queues (who.Task t))) h;
      opens = task-edited name waits w (λ t. refl) (λ m a b. b.completed ≡ a.completed) (λ m. refl) refl (who.Task t) ∙ open_;
      unfirm = unfirm;
    }
    by_owner (owned_by.Object o) k h open_ unfirm = record {
      owner = owned_by.Object o;
      place = k;
      stands = subst (λ xs. StandsAt xs o k x) (sym (edit_task-objects name waits w)) h;
      opens = tt;
      unfirm = unfirm;
    }
  waits-awaited x (inr e) = inr e

  same-served : (a : Who) (x : CallNo) → served x waiting_world a ≡ served x w a
  same-served a x = ap (λ fs. served_in x (natures fs)) (waits-frames a)

  was-served : (a : Who) (x : CallNo) → 0 < served x waiting_world a → 0 < served x w a
  was-served a x h = subst (λ n. 0 < n) (same-served a x) h

  still-waited : (t : TaskNo) (depth : ℕ) → Waited t depth w → Waited t depth waiting_world
  still-waited t depth (inl h) = inl (subst (λ fs. awaits_at depth (natures fs) ≡ true) (sym (waits-frames (who.Task t))) h)
  still-waited t depth (inr h) = inr (ap is_task (waits-who (who.Task t)) ∙ h)

  waits-low : (x : CallNo) (a : Who) → (waiting_of w a ≡ waits_end x) ⊎ ((a ≡ name) × (x ≡ c)) → x.0 ≤ w.drawn.calls
  waits-low x a (inl h) = good.waits a x h
  waits-low x a (inr h) = subst (λ n. n.0 ≤ w.drawn.calls) (sym h.1) low

  waits-ends : (x : CallNo) (d : Call) (a : Who) → call_of w x ≡ Some d → (waiting_of w a ≡ waits_end x) ⊎ ((a ≡ name) × (x ≡ c))
      → is_ending x (frames_of w a) ≡ true
  waits-ends x d a e (inl h) = good.ends a x d h e
  waits-ends x d a e (inr h) = subst (λ n. is_ending n (frames_of w a) ≡ true) (sym h.1) (subst (λ b. is_ending c (frames_of w b) ≡ true) (sym h.0) ending)

  pub waiting-good : Good p waiting_world
  waiting-good = record {
    known = λ x d e. is-low x.0 (good.known x d (was-call x d e));
    within = λ o k x h. is-low x.0 (good.within o k x (stood o k x h));
    there = λ o k x h. ap (λ ds. is_some (find (is_call x) ds)) (edit_task-calls name waits w) ∙ good.there o k x (stood o k x h);
    right = λ o k x d h e. good.right o k x d (stood o k x h) (was-call x d e);
    agent = λ k x h. good.agent k x (subst (λ qs. has same_call (queue_at qs k) x ≡ true) (waits-queues who.Agent) h);
    serving = λ a x h. is-low x.0 (good.serving a x (was-served a x h));
    begun = λ a x d h e. good.begun a x d (was-served a x h) (was-call x d e);
    once = λ a x. subst (λ n. n ≤ 1) (sym (same-served a x)) (good.once a x);
    alone = λ a b x h i. good.alone a b x (was-served a x h) (was-served b x i);
    timed = λ x h a. same-served a x ∙ good.timed x (was-set (is_timeout_of x) h) a;
    awaited = λ x h. waits-awaited x (good.awaited x (was-set (is_timeout_of x) h));
    objects = edit_task-fall name waits w (λ t. refl) good.objects;
    named = named-edited name waits w (task_at w name) refl (λ t. refl) good.named;
    present = λ t h. subst (λ d. t.0 < d.tasks) (sym (edit_task-drawn name waits w)) (good.present t (ap is_task (sym (waits-who (who.Task t))) ∙ h));
    owns =
        λ a x h. let own = good.owns a x (subst (λ fs. some_nature (has_own x) (natures fs) ≡ true) (waits-frames a) h) in
        (is-low x.0 own.0, λ d e. own.1 d (was-call x d e));
    ended =
        λ a x h. let end = good.ended a x (subst (λ fs. some_nature (ends_by x) (natures fs) ≡ true) (waits-frames a) h) in
        (is-low x.0 end.0, λ d e. end.1 d (was-call x d e));
    triggers =
        λ t depth h. let set = good.triggers t depth (was-set (is_trigger_of t depth) h) in
        (subst (λ d. t.0 < d.tasks) (sym (edit_task-drawn name waits w)) set.0, still-waited t depth set.1);
    waits = λ a x h. is-low x.0 (waits-low x a (waits-since x a h));
    ends = λ a x d h e. subst (λ fs. is_ending x fs ≡ true) (sym (waits-frames a)) (waits-ends x d a (was-call x d e) (waits-since x a h));
  }
