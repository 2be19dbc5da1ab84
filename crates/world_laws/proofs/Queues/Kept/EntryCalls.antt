-- Entry calls are made (9.5.3, 9.7.2 to 9.7.4).
use Rattle.std.proofs.Common.{sym, subst, inl, inr, cond, arith, is_none, is_some, eqb, ◌≤◌, ◌<◌, ◌⊎◌}
use Rattle.std.proofs.lemmas.Bool.{eq-eqb, eqb-true, true≢false, and_parts}
use Rattle.line_laws.proofs.Exits.TaskEdits as edits_of
use Rattle.profile_machine.specs.declared.run_data.Leaving.TheVariants as how
use Rattle.profile_image.specs.declared.statements.StatementForm.TheVariants as form
use Rattle.profile_machine.specs.declared.world.appointments.Due.TheVariants as due_for
use Rattle.profile_machine.specs.declared.world.calls.CallKind.TheVariants as call_kind
use Rattle.std.proofs.Common.{◌≡◌, refl, ap, ◌∙◌}
use Rattle.std.specs.Prelude.{ℕ, suc, ℤ, pos, int_lt, Bool, true, false, ◌∷◌, Option, Some, None, length}
use Rattle.ann_base.specs.declared.identities.CallNo.{CallNo}
use Rattle.ann_base.specs.declared.identities.ObjectNo.{ObjectNo}
use Rattle.ann_base.specs.declared.identities.TaskNo.{TaskNo}
use Rattle.ann_base.specs.declared.exceptions.Raised.{Raised}
use Rattle.trace_text.specs.declared.events.Mode.TheVariants.{Write}
use Rattle.trace_text.specs.declared.events.Who.{Who}
use Rattle.profile_machine.specs.declared.world.calls.EntryCallNamed.{EntryCallNamed}
use Rattle.profile_image.specs.declared.image.Image.{Image}
use Rattle.profile_image.specs.declared.numbers.EntryNo.{EntryNo}
use Rattle.profile_image.specs.declared.numbers.StatementNo.{StatementNo}
use Rattle.profile_image.specs.declared.statements.EntryOwner.{EntryOwner}
use Rattle.profile_image.specs.declared.statements.StatementForm.{StatementForm}
use Rattle.profile_machine.specs.declared.world.World.{World}
use Rattle.profile_machine.specs.declared.world.calls.Call.{Call}
use Rattle.profile_machine.specs.declared.world.calls.CallKind.{CallKind}
use Rattle.profile_machine.specs.declared.world.calls.Owner.{Owner}
use Rattle.profile_machine.specs.declared.world.lines.Part.{Part}
use Rattle.profile_machine.specs.declared.world.lines.Part.TheVariants.{TheCall}
use Rattle.profile_machine.specs.Steps.{Step, changes, looks, ◌▷◌, nothing}
use Rattle.profile_image.specs.Program.{next_of}
use Rattle.profile_machine.specs.Frames.{frames_of, new_frame, raise_if}
use Rattle.profile_machine.specs.Tasks.{with_frames}
use Rattle.profile_machine.specs.Calls.{call_of, says_call, enqueue, is_full}
use Rattle.profile_machine.specs.Protected.{begin_action_on, is_barrier_open}
use Rattle.profile_machine.specs.Sending.{open_abortable}
use Rattle.profile_machine.specs.EntryCalls.{numbered, marks_if_queued, add_call, make_call, end_at_once, call_gone, call_meets, call_queues}
use Rattle.profile_machine.specs.EntryCalls.{call_not_met, call_accepted_by, call_callable, call_task, call_runs, call_without_room}
use Rattle.profile_machine.specs.EntryCalls.{has_room_for_action, call_runs_if_room, call_passes, call_refused, call_closed, call_by_barrier}
use Rattle.profile_machine.specs.EntryCalls.{call_object, call_owner, call_named, entry_call, appoint_trigger, trigger_delay, async_delay}
use Rattle.profile_machine.specs.EntryCalls.{async_by_trigger, asynchronous_select, mark_sending, requeue, is_forbidden}
use Rattle.profile_machine.specs.Rendezvous.{delay_moment}
use Rattle.ann_base.specs.declared.exceptions.Raised.TheVariants as exception
use Rattle.profile_machine.specs.declared.world.lines.Line.TheVariants as line
use Rattle.trace_text.specs.declared.events.Who.TheVariants as who
use Rattle.profile_image.specs.declared.statements.StatementForm.TheVariants as form
use Rattle.profile_machine.specs.declared.world.calls.CallKind.TheVariants as call_kind
use Rattle.profile_machine.specs.declared.world.appointments.Due.TheVariants as due_for
use Rattle.profile_machine.specs.declared.world.calls.Owner.TheVariants as owned_by
use Rattle.profile_machine.specs.declared.world.lines.Part.TheVariants as of_part
use Rattle.profile_machine.specs.declared.world.lines.Part.TheVariants.{TheFinish, TheBlock, TheCall}
use Rattle.profile_machine.specs.declared.world.tasks.Waiting.TheVariants as waits_for
use Rattle.profile_machine.specs.declared.world.calls.Owner.TheVariants as owned_by
use Rattle.profile_machine.specs.Appointments.{is_trigger_of}
use Rattle.profile_machine.specs.Calls.{forget_call, unqueued}
use Rattle.profile_machine.specs.Dispatching.{active_of}
use Rattle.profile_machine.specs.EntryCalls.{entry_parameters, named_call, new_call, owner_of_entry, timed_moment, with_sending}
use Rattle.profile_machine.specs.Frames.{goes, push}
use Rattle.profile_machine.specs.Notation.{entry, p, t}
use Rattle.profile_image.specs.Program.{entry_of, form_of}
use Rattle.profile_machine.specs.Rendezvous.{accept_for, is_callable}
use Rattle.profile_machine.specs.Sending.{abortable_in, new_abortable_mark}
use Rattle.profile_machine.specs.Subprograms.{call_that_returns}
use Rattle.profile_machine.specs.Tasks.{task_of, waiting_of}
use Rattle.profile_image.specs.Words.{same_task}
use Rattle.profile_machine.specs.declared.world.tasks.Task.{Task}
use Rattle.world_laws.proofs.Queues.CallChanges.{Directed, appoint-calm, calm-directed, forget_call-calm, out-directed, unqueued-out}
use Rattle.world_laws.proofs.Queues.CallLists.{same-call}
use Rattle.world_laws.proofs.Queues.Kept.Actions.{begin_action_on-from, serve_call-onward, where_let_inside-acts}
use Rattle.world_laws.proofs.Queues.Kept.Combinators.{From, Keeps, Quiets, any-keeps, calms-from, changes-calms, changes-from}
use Rattle.world_laws.proofs.Queues.Kept.Combinators.{keeps-from, sees-keeps, stays-calm, then-after, then-calms, unchanged-quiets}
use Rattle.world_laws.proofs.Queues.Kept.Ends.{gone_then-from}
use Rattle.world_laws.proofs.Queues.Kept.Frames.{block-calms, edit_call-quiets, given-keeps, goes-keeps, leaves-calms, raises-calms, raises-keeps}
use Rattle.world_laws.proofs.Queues.Kept.Onward.{Acts, Drawn, Onward, calm-onward, calm_then-onward, changes-onward, changes_then-onward}
use Rattle.world_laws.proofs.Queues.Kept.Onward.{either-onward, given-acts, keeps-acts, looks-acts, looks_at-onward, nothing-onward}
use Rattle.world_laws.proofs.Queues.Kept.Onward.{raise_if-acts, said_then-onward, sees-acts, then-acts, with_room-acts}
use Rattle.world_laws.proofs.Queues.Kept.Queued.{enqueue_then-onward}
use Rattle.world_laws.proofs.Queues.Kept.Rendezvous.{accepting-awake, meet-onward}
use Rattle.world_laws.proofs.Queues.Kept.Sending.{not_accepted-from}
use Rattle.world_laws.proofs.Queues.Moving.{Next, calm-next, next-then}
use Rattle.world_laws.proofs.Queues.Softening.{natures-length, push-calm}
use Rattle.world_laws.proofs.Queues.Standing.{Awake, Calm, Good, Idle, Kind, Out, Own, Stands, Waited, Waited_in, any_kind, awaits_at}
use Rattle.world_laws.proofs.Queues.Standing.{calm-awake, calm-good, calm-idle, ends_by, fresh-idle, fresh-out, has_own, is_ending}
use Rattle.world_laws.proofs.Queues.Standing.{natures, natures_of, quiet_kind, served, some_nature, Awaited, Open, Unfirm, none_late}

-- ---- a call is made: nothing knows its number yet

module _ (p : Image) (c : Call) (w : World) (good : Good p w) where
  abbrev made : World
  made = add_call c w

  abbrev new_number : CallNo
  new_number = record { 0 = suc w.drawn.calls }

  pub made-there : call_of made new_number ≡ Some (numbered (suc w.drawn.calls) c)
  made-there = ap (λ b. cond b (Some (numbered (suc w.drawn.calls) c)) (call_of w new_number)) (eq-eqb (suc w.drawn.calls) (suc w.drawn.calls) refl)

  made-old : (x : CallNo) → x.0 ≤ w.drawn.calls → call_of made x ≡ call_of w x
  made-old x low = ap (λ b. cond b (Some (numbered (suc w.drawn.calls) c)) (call_of w x)) (apart (eqb x.0 (suc w.drawn.calls)) refl) where
    apart : (b : Bool) → eqb x.0 (suc w.drawn.calls) ≡ b → b ≡ false
    apart true e = let same : x.0 ≡ suc w.drawn.calls = eqb-true x.0 (suc w.drawn.calls) e in absurd (omega (arith, same, low))
    apart false e = refl

  made-served : (a : Who) (x : CallNo) → served x made a ≡ served x w a
  made-served (who.Task t) x = refl
  made-served who.Agent x = refl

  made-stands : (o : Owner) (k : ℕ) (x : CallNo) → Stands made o k x → Stands w o k x
  made-stands (owned_by.Task t) k x h = h
  made-stands (owned_by.Object o) k x h = h

  made-natures : (a : Who) → natures_of made a ≡ natures_of w a
  made-natures (who.Task t) = refl
  made-natures who.Agent = refl

  made-frames : (a : Who) → frames_of made a ≡ frames_of w a
  made-frames (who.Task t) = refl
  made-frames who.Agent = refl

  made-waiting : (a : Who) → waiting_of made a ≡ waiting_of w a
  made-waiting (who.Task t) = refl
  made-waiting who.Agent = refl

  made-known : (x : CallNo) (d : Call) → call_of made x ≡ Some d → x.0 ≤ suc w.drawn.calls
  made-known x d e = by_number (eqb x.0 (suc w.drawn.calls)) refl where
    by_number : (b : Bool) → eqb x.0 (suc w.drawn.calls) ≡ b → x.0 ≤ suc w.drawn.calls
    by_number true is = let same : x.0 ≡ suc w.drawn.calls = eqb-true x.0 (suc w.drawn.calls) is in omega (arith, same)
    by_number false is =
        let low : x.0 ≤ w.drawn.calls = good.known x d (sym (ap (λ b. cond b (Some (numbered (suc w.drawn.calls) c)) (call_of w x)) is) ∙ e) in
        omega (arith, low)

  made-positive : (a : Who) (x : CallNo) → 0 < served x made a → 0 < served x w a
  made-positive a x h = subst (λ n. 0 < n) (made-served a x) h

  made-own : (a : Who) (x : CallNo) → Own a x w → Own a x made
  made-own a x own = (let low : x.0 ≤ w.drawn.calls = own.0 in omega (arith, low), λ d e. own.1 d (sym (made-old x own.0) ∙ e))

  made-awaited : (x : CallNo) → Awaited x w ⊎ (none_late x ≡ true) → Awaited x made ⊎ (none_late x ≡ true)
  made-awaited x (inl a) =
      inl (by_owner a.owner a.place a.stands a.opens (λ d e. a.unfirm d (sym (made-old x (good.within a.owner a.place x a.stands)) ∙ e))) where
        by_owner : (o : Owner) (k : ℕ) → Stands w o k x → Open w o → Unfirm x made → Awaited x made
        by_owner (owned_by.Task t) k h open_ unfirm = record { owner = owned_by.Task t; place = k; stands = h; opens = open_; unfirm = unfirm }
        by_owner (owned_by.Object o) k h open_ unfirm = record { owner = owned_by.Object o; place = k; stands = h; opens = tt; unfirm = unfirm }
  made-awaited x (inr e) = inr e

  pub made-good : Good p made
  made-good = record {
    known = made-known;
    within = λ o k x h. let low : x.0 ≤ w.drawn.calls = good.within o k x (made-stands o k x h) in omega (arith, low);
    there = λ o k x h. ap is_some (made-old x (good.within o k x (made-stands o k x h))) ∙ good.there o k x (made-stands o k x h);
    right = λ o k x d h e. good.right o k x d (made-stands o k x h) (sym (made-old x (good.within o k x (made-stands o k x h))) ∙ e);
    agent = good.agent;
    serving = λ a x h. let low : x.0 ≤ w.drawn.calls = good.serving a x (made-positive a x h) in omega (arith, low);
    begun = λ a x d h e. good.begun a x d (made-positive a x h) (sym (made-old x (good.serving a x (made-positive a x h))) ∙ e);
    once = λ a x. subst (λ n. n ≤ 1) (sym (made-served a x)) (good.once a x);
    alone = λ a b x h i. good.alone a b x (made-positive a x h) (made-positive b x i);
    timed = λ x h a. made-served a x ∙ good.timed x h a;
    awaited = λ x h. made-awaited x (good.awaited x h);
    objects = good.objects;
    named = good.named;
    present = good.present;
    owns = λ a x h. made-own a x (good.owns a x (subst (λ ns. some_nature (has_own x) ns ≡ true) (made-natures a) h));
    ended =
        λ a x h. let end = good.ended a x (subst (λ ns. some_nature (ends_by x) ns ≡ true) (made-natures a) h) in
        (let low : x.0 ≤ w.drawn.calls = end.0 in omega (arith, low), λ d e. end.1 d (sym (made-old x end.0) ∙ e));
    triggers = good.triggers;
    waits = λ a x h. let low : x.0 ≤ w.drawn.calls = good.waits a x (sym (made-waiting a) ∙ h) in omega (arith, low);
    ends =
        λ a x d h e. let is = sym (made-waiting a) ∙ h in
        subst (λ fs. is_ending x fs ≡ true) (sym (made-frames a)) (good.ends a x d is (sym (made-old x (good.waits a x is)) ∙ e));
  }

  pub made-next : Next p w made
  unfolding Awake
  made-next = record {
    good = made-good;
    awake = λ a awake x d is e. let was = sym (made-waiting a) ∙ is in awake x d was (sym (made-old x (good.waits a x was)) ∙ e);
    tasks = omega arith;
    owns = made-own;
  }

  pub made-out : Out new_number made
  made-out o k h = fresh-out p w new_number good (omega arith) o k (made-stands o k new_number h)

  pub made-idle : Idle new_number made
  made-idle a = made-served a new_number ∙ fresh-idle p w new_number good (omega arith) a

-- what is known of a call that was made
pub record Made (p : Image) (d : Call) (w : World) : Type 0 where
  pub good : Good p w
  pub there : call_of w d.number ≡ Some d
  pub out : Out d.number w
  pub idle : Idle d.number w
  pub awake : Awake (who.Task d.caller) w

one-call : (a b : Call) → Some a ≡ Some b → a ≡ b
one-call a b e = cc

made-directed : (p : Image) (d : Call) (w : World) → Made p d w → Directed d w
made-directed p d w m = out-directed d w m.out

made-none : (p : Image) (d : Call) (w : World) → Made p d w → is_none d.outcome ≡ true → (x : Call) → call_of w d.number ≡ Some x → is_none x.outcome ≡ true
made-none p d w m none x e = ap (λ (y : Call). is_none y.outcome) (sym (one-call d x (sym m.there ∙ e))) ∙ none

pub make_call-onward : (p : Image) (c : Call) (step : Call → Step) (w : World) → Good p w → Awake (who.Task c.caller) w
    → ((n : ℕ) (v : World) → Next p w v → Made p (numbered n c) v → Onward p v (step (numbered n c))) → Onward p w (make_call p c step)
unfolding says_call
make_call-onward p c step w good awake k =
    calm_then-onward {E = quiet_kind} (goes (who.Task c.caller) (next_of p c.statement)) _ w good
    (keeps-from _ w awake (goes-keeps (who.Task c.caller) (next_of p c.statement))) (λ u calm good_u.
    let n = suc u.drawn.calls in
    let v = add_call c u in
    let next = made-next p c u good_u in
    let awake_u = calm-awake w u calm (who.Task c.caller) awake in
    looks_at-onward (λ x. changes (add_call c) ▷ says_call TheCall (numbered (suc x.drawn.calls) c) ▷ step (numbered (suc x.drawn.calls) c)) u
    (changes_then-onward (add_call c) _ u next
    (said_then-onward TheCall _ (step (numbered n c)) v
    (k n v (next-then p w u v (calm-next p w u good calm) next) record {
      good = next.good;
      there = made-there p c u good_u;
      out = made-out p c u good_u;
      idle = made-idle p c u good_u;
      awake = next.awake (who.Task c.caller) awake_u;
    }))))

pub make_call-acts : (p : Image) (c : Call) (step : Call → Step) → ((n : ℕ) (w : World) → Made p (numbered n c) w → Onward p w (step (numbered n c)))
    → Acts p (who.Task c.caller) (make_call p c step)
make_call-acts p c step k = record { from = λ w good awake drawn. make_call-onward p c step w good awake (λ n v next made. k n v made) }

-- ---- how a call goes on that was made

end_at_once-from : (part : Part) (c : Call) (e : Raised) (w : World) → Out c.number w → From quiet_kind w (end_at_once part c e)
unfolding end_at_once
end_at_once-from part c e w out =
    then-after (changes (forget_call c.number)) _ w (changes-from (forget_call c.number) w (forget_call-calm c.number w refl out))
    (λ v calm. calms-from _ v (raises-calms part (who.Task c.caller) e))

end_at_once-onward : (p : Image) (part : Part) (c : Call) (e : Raised) (w : World) → Good p w → Out c.number w → Onward p w (end_at_once part c e)
end_at_once-onward p part c e w good out = calm-onward {E = quiet_kind} _ w good (end_at_once-from part c e w out)

call_gone-onward : (p : Image) (c : Call) (w : World) → Made p c w → Onward p w (call_gone p c)
unfolding call_gone
call_gone-onward p c w m =
    calm-onward {E = quiet_kind} _ w m.good
    (gone_then-from p of_part.Own c _ w (end_at_once-from of_part.Own c exception.Tasking (unqueued p c w) (unqueued-out p c w m.good (made-directed p c w m))))

call_meets-onward : (p : Image) (t : TaskNo) (s : StatementNo) (c : Call) (w : World) → Made p c w → is_none c.outcome ≡ true → Awake (who.Task t) w
    → Onward p w (call_meets p t s c)
unfolding call_meets
call_meets-onward p t s c w m none awake =
    meet-onward p (of_part.OfOther (who.Task t)) (who.Task t) s c _ _ w m.good (made-directed p c w m) m.idle (m.good.known c.number c m.there)
    (made-none p c w m none) awake
    (λ v next. calm-onward {E = quiet_kind} _ v next.good (calms-from _ v (block-calms TheBlock (who.Task c.caller) (waits_for.Call c.number) refl)))
    (λ v next out idle. end_at_once-onward p TheFinish c exception.Storage v next.good out)

queued_then-onward : (p : Image) (c : Call) (g : Step) (w : World) → Made p c w → is_none c.outcome ≡ true
    → ((v : World) → Next p w v → Directed c v → Idle c.number v → Awake (who.Task c.caller) v → Onward p v g) → Onward p w (enqueue p c.number ▷ g)
queued_then-onward p c g w m none k =
    enqueue_then-onward p c.number g w m.good m.out m.idle (made-none p c w m none)
    (λ v next queued idle directed frames. k v next (directed c m.there) idle (next.awake (who.Task c.caller) m.awake))

call_queues-onward : (p : Image) (c : Call) (w : World) → Made p c w → is_none c.outcome ≡ true → Onward p w (call_queues p c)
unfolding call_queues
call_queues-onward p c w m none =
    queued_then-onward p c _ w m none
    (λ v next directed idle awake. calm-onward {E = quiet_kind} _ v next.good (not_accepted-from p of_part.Own c c.kind v next.good directed idle awake))

call_not_met-acts : (p : Image) (c : Call) (test : Bool) → is_none c.outcome ≡ true → Acts p (who.Task c.caller) (call_not_met p c test)
unfolding call_not_met
call_not_met-acts p c true none =
    make_call-acts p c (λ d. end_at_once of_part.Own d exception.Program)
    (λ n w m. end_at_once-onward p of_part.Own (numbered n c) exception.Program w m.good m.out)
call_not_met-acts p c false none =
    with_room-acts (who.Task c.caller) (marks_if_queued c.kind) 0 _ (make_call-acts p c (call_queues p) (λ n w m. call_queues-onward p (numbered n c) w m none))

-- the acceptor is awake still when the call has been made
call_accepted_by-onward : (p : Image) (t : TaskNo) (c : Call) (next : Option StatementNo) (w : World) → is_none c.outcome ≡ true
    → accept_for p c.entry (waiting_of w (who.Task t)) ≡ next → Good p w → Awake (who.Task c.caller) w → Drawn (who.Task c.caller) w
    → Onward p w (call_accepted_by p t c next)
unfolding call_accepted_by
call_accepted_by-onward p t c (Some s) w none is good awake drawn =
    make_call-onward p c (call_meets p t s) w good awake
    (λ n v next m. call_meets-onward p t s (numbered n c) v m none (next.awake (who.Task t) (accepting-awake p c.entry (who.Task t) w s is)))
call_accepted_by-onward p t c None w none is good awake drawn =
    looks_at-onward (λ u. call_not_met p c (is_full p u c.owner c.entry)) w ((call_not_met-acts p c (is_full p w c.owner c.entry) none).from w good awake drawn)

call_callable-acts : (p : Image) (t : TaskNo) (c : Call) (test : Bool) → is_none c.outcome ≡ true → Acts p (who.Task c.caller) (call_callable p t c test)
unfolding call_callable
call_callable-acts p t c false none = make_call-acts p c (call_gone p) (λ n w m. call_gone-onward p (numbered n c) w m)
call_callable-acts p t c true none = record {
  from =
      λ w good awake drawn. looks_at-onward (λ v. call_accepted_by p t c (accept_for p c.entry (waiting_of v (who.Task t)))) w
      (call_accepted_by-onward p t c (accept_for p c.entry (waiting_of w (who.Task t))) w none refl good awake drawn);
}

call_task-acts : (p : Image) (t : TaskNo) (c : Call) → is_none c.outcome ≡ true → Acts p (who.Task c.caller) (call_task p t c)
unfolding call_task
call_task-acts p t c none = looks-acts (λ w. call_callable p t c (is_callable w t)) (λ w. call_callable-acts p t c (is_callable w t) none)

-- ---- a call of a protected entry

call_runs-onward : (p : Image) (o : ObjectNo) (c : Call) (w : World) → Made p c w → is_none c.outcome ≡ true → Onward p w (call_runs p o c)
unfolding call_runs
call_runs-onward p o c w m none =
    let name = who.Task c.caller in
    let own : Own name c.number w = (m.good.known c.number c m.there, λ d e. ap (λ (x : Call). who.Task x.caller) (sym (one-call c d (sym m.there ∙ e)))) in
    calm_then-onward {E = quiet_kind} (begin_action_on p name o Write (Some c.number) None) _ w m.good
    (begin_action_on-from p name o Write (Some c.number) None w m.awake (λ x h. subst (λ n. Own name n w) (same-call c.number x h) own))
    (λ v calm good. serve_call-onward p of_part.Own name o c nothing nothing v good (calm-awake w v calm name m.awake)
    (calm-directed c w v calm (made-directed p c w m)) (calm-idle w v calm c.number m.idle)
    (subst (λ n. c.number.0 ≤ n) (sym calm.drawn) (m.good.known c.number c m.there)) (none-calm v calm)
    (λ u next. nothing-onward u next.good) (λ good_u. nothing-onward _ good_u)) where
      none-calm : (v : World) → Calm quiet_kind w v → (d : Call) → call_of v c.number ≡ Some d → is_none d.outcome ≡ true
      none-calm v calm d e = let x = calm.calls c.number d e in ap is_none (x.steady refl).1 ∙ made-none p c w m none x.before x.found

call_without_room-onward : (p : Image) (o : ObjectNo) (c : Call) (w : World) → Made p c w → Onward p w (call_without_room o c)
unfolding call_without_room
call_without_room-onward p o c w m =
    said_then-onward of_part.Own _ _ w
    (said_then-onward of_part.Own _ _ w
    (said_then-onward of_part.Own _ _ w (said_then-onward of_part.Own _ _ w (end_at_once-onward p of_part.Own c exception.Storage w m.good m.out))))

call_runs_if_room-onward : (p : Image) (o : ObjectNo) (c : Call) (w : World) → Made p c w → is_none c.outcome ≡ true → Onward p w (call_runs_if_room p o c)
unfolding call_runs_if_room
call_runs_if_room-onward p o c w m none =
    looks_at-onward (λ v. elim (has_room_for_action p v c) as (λ _. Step) [ true ↦ call_runs p o c | false ↦ call_without_room o c ]) w
    (either-onward (has_room_for_action p w c) _ _ w (call_runs-onward p o c w m none) (call_without_room-onward p o c w m))

call_passes-onward : (p : Image) (o : ObjectNo) (c : Call) (w : World) → Made p c w → is_none c.outcome ≡ true → Onward p w (call_passes p o c)
unfolding call_passes
call_passes-onward p o c w m none =
    said_then-onward of_part.Own (line.Enter (who.Task c.caller) o Write) _ w
    (queued_then-onward p c _ w m none
    (λ v next directed idle awake. said_then-onward of_part.Own (line.Exit (who.Task c.caller) o) _ v
    (calm-onward {E = quiet_kind} _ v next.good (not_accepted-from p of_part.Own c c.kind v next.good directed idle awake))))

call_refused-onward : (p : Image) (o : ObjectNo) (c : Call) (w : World) → Made p c w → Onward p w (call_refused o c)
unfolding call_refused
call_refused-onward p o c w m =
    said_then-onward of_part.Own _ _ w (said_then-onward of_part.Own _ _ w (end_at_once-onward p of_part.Own c exception.Program w m.good m.out))

call_closed-acts : (p : Image) (o : ObjectNo) (c : Call) (test : Bool) → is_none c.outcome ≡ true → Acts p (who.Task c.caller) (call_closed p o c test)
unfolding call_closed
call_closed-acts p o c true none = make_call-acts p c (call_refused o) (λ n w m. call_refused-onward p o (numbered n c) w m)
call_closed-acts p o c false none =
    with_room-acts (who.Task c.caller) (marks_if_queued c.kind) 0 _
    (make_call-acts p c (call_passes p o) (λ n w m. call_passes-onward p o (numbered n c) w m none))

call_by_barrier-acts : (p : Image) (o : ObjectNo) (c : Call) (test : Bool) → is_none c.outcome ≡ true → Acts p (who.Task c.caller) (call_by_barrier p o c test)
unfolding call_by_barrier
call_by_barrier-acts p o c true none =
    with_room-acts (who.Task c.caller) 1 0 _ (make_call-acts p c (call_runs_if_room p o) (λ n w m. call_runs_if_room-onward p o (numbered n c) w m none))
call_by_barrier-acts p o c false none =
    looks-acts (λ w. call_closed p o c (is_full p w c.owner c.entry)) (λ w. call_closed-acts p o c (is_full p w c.owner c.entry) none)

call_object-acts : (p : Image) (o : ObjectNo) (c : Call) → is_none c.outcome ≡ true → Acts p (who.Task c.caller) (call_object p o c)
unfolding call_object
call_object-acts p o c none =
    where_let_inside-acts p (who.Task c.caller) o Write _
    (looks-acts (λ w. call_by_barrier p o c (is_barrier_open p w (who.Task c.caller) o c.entry))
    (λ w. call_by_barrier-acts p o c (is_barrier_open p w (who.Task c.caller) o c.entry) none))

call_owner-acts : (p : Image) (c : Call) (o : Owner) → is_none c.outcome ≡ true → Acts p (who.Task c.caller) (call_owner p c o)
unfolding call_owner
call_owner-acts p c (owned_by.Task t) none = call_task-acts p t c none
call_owner-acts p c (owned_by.Object o) none = call_object-acts p o c none

call_named-acts : (p : Image) (t : TaskNo) (kind : CallKind) (s : StatementNo) (n : EntryCallNamed) → Acts p (who.Task t) (call_named p t kind s n)
unfolding call_named
call_named-acts p t kind s n =
    sees-acts p (who.Task t) _
    (λ q. given-acts of_part.Own (who.Task t) (owner_of_entry q n.entry n.owner) _
    (λ o. given-acts of_part.Own (who.Task t) (entry_parameters q (entry_of p n.entry).formals n.actuals) _ (λ parameters.
    given-acts of_part.Own (who.Task t) (timed_moment q (form_of p s)) _
    (λ m. call_owner-acts p (new_call t kind s n o (active_of p q.world (who.Task t)) parameters m) o refl))))

pub entry_call-acts : (p : Image) (name : Who) (kind : CallKind) (s : StatementNo) → Acts p name (entry_call p name kind s)
unfolding entry_call
entry_call-acts p (who.Task t) kind s =
    looks-acts (λ w. raise_if (who.Task t) (is_forbidden w (who.Task t) kind) exception.Program (call_named p t kind s (named_call p s)))
    (λ w. raise_if-acts (who.Task t) (is_forbidden w (who.Task t) kind) exception.Program _ (call_named-acts p t kind s (named_call p s)))
entry_call-acts p who.Agent kind s = keeps-acts _ (raises-keeps of_part.Own who.Agent exception.Program)

-- ---- the asynchronous select

abbrev opened : Image → Who → StatementNo → World → World
opened p name s w = push name (new_frame (new_abortable_mark s None) (abortable_in (form_of p s))) w

opened-calm : (p : Image) (name : Who) (s : StatementNo) (w : World) → Awake name w → Calm any_kind w (opened p name s w)
opened-calm p name s w awake =
    push-calm name (new_frame (new_abortable_mark s None) (abortable_in (form_of p s))) w
    record { serves = λ c. refl; own = λ c h. cc; begun = λ c. refl; tops = λ is. cc } awake

opened-waited : (p : Image) (t : TaskNo) (s : StatementNo) (w : World) → Waited t (length (frames_of w (who.Task t))) (opened p (who.Task t) s w)
opened-waited p t s w =
    edits_of.edited_to (λ u. u ≡ task_of w (who.Task t)) (Waited_in (length (frames_of w (who.Task t)))) (who.Task t) (who.Task t)
    (λ u. with_frames (new_frame (new_abortable_mark s None) (abortable_in (form_of p s)) ∷ u.frames) u) w (λ u. refl)
    (λ same u e. inl
    (ap (λ b. cond b true (awaits_at (length (frames_of w (who.Task t))) (natures u.frames)))
    (eq-eqb (length (natures u.frames)) (length (frames_of w (who.Task t))) (natures-length u.frames ∙ ap (λ (x : Task). length x.frames) e))))
    (λ apart u e. absurd (true≢false (sym (eq-eqb t.0 t.0 refl) ∙ apart))) (λ e. inr refl) refl

-- the moment is set for it
set-calm : (p : Image) (name : Who) (s : StatementNo) (m : ℤ) (w : World) → Awake name w → Drawn name w
    → Calm any_kind (opened p name s w) (appoint_trigger name (length (frames_of w name)) m (opened p name s w))
set-calm p (who.Task t) s m w awake drawn =
    let v = opened p (who.Task t) s w in
    appoint-calm (due_for.Trigger t (length (frames_of w (who.Task t)))) m v (λ c e. cc) (λ n depth e. at n depth e) where
      at : (n : TaskNo) (depth : ℕ) → is_trigger_of n depth (due_for.Trigger t (length (frames_of w (who.Task t)))) ≡ true
          → (n.0 < (opened p (who.Task t) s w).drawn.tasks) × Waited n depth (opened p (who.Task t) s w)
      at n depth e =
          let parts = and_parts (same_task n t) (eqb depth (length (frames_of w (who.Task t)))) e in
          let one : t ≡ n = ap (λ (k : ℕ). record { 0 = k }) (sym (eqb-true n.0 t.0 parts.0)) in
          let deep : length (frames_of w (who.Task t)) ≡ depth = sym (eqb-true depth (length (frames_of w (who.Task t))) parts.1) in
          let grown = (opened-calm p (who.Task t) s w awake).tasks in
          let low : t.0 < w.drawn.tasks = drawn t refl in
          let low_then : t.0 < (opened p (who.Task t) s w).drawn.tasks = omega (arith, low, grown) in (
            subst (λ k. k.0 < (opened p (who.Task t) s w).drawn.tasks) one low_then,
            subst (λ k. Waited k depth (opened p (who.Task t) s w)) one (subst (λ d. Waited t d (opened p (who.Task t) s w)) deep (opened-waited p t s w)),
          )
set-calm p who.Agent s m w awake drawn = stays-calm _

opens_until-acts : (p : Image) (name : Who) (s : StatementNo) (m : ℤ)
    → Acts p name (looks (λ v. changes (open_abortable p name s None) ▷ changes (appoint_trigger name (length (frames_of v name)) m)))
opens_until-acts p name s m =
    record {
      from = λ w good awake drawn.
          let v = opened p name s w in
          let first = opened-calm p name s w awake in
          looks_at-onward (λ u. changes (open_abortable p name s None) ▷ changes (appoint_trigger name (length (frames_of u name)) m)) w
          (changes_then-onward (open_abortable p name s None) _ w (calm-next p w v good first)
          (changes-onward (appoint_trigger name (length (frames_of w name)) m) v
          (calm-next p v _ (calm-good p w v good first) (set-calm p name s m w awake drawn))));
    }

trigger_delay-acts : (p : Image) (name : Who) (s trigger : StatementNo) (m : ℤ) (test : Bool) → Acts p name (trigger_delay p name s trigger m test)
unfolding trigger_delay
trigger_delay-acts p name s trigger m false = keeps-acts _ (goes-keeps name (next_of p trigger))
trigger_delay-acts p name s trigger m true =
    with_room-acts name 1 0 _ (then-acts _ _ (keeps-acts _ (goes-keeps name (next_of p s))) (opens_until-acts p name s m))

async_delay-acts : (p : Image) (name : Who) (s trigger : StatementNo) → Acts p name (async_delay p name s trigger)
unfolding async_delay
async_delay-acts p name s trigger =
    sees-acts p name _
    (λ q. raise_if-acts name (is_forbidden q.world name call_kind.Triggering) exception.Program _
    (given-acts of_part.Own name (delay_moment q trigger) _ (λ m. trigger_delay-acts p name s trigger m (int_lt (pos q.world.time) m))))

async_by_trigger-acts : (p : Image) (name : Who) (s trigger : StatementNo) (form : StatementForm) → Acts p name (async_by_trigger p name s trigger form)
unfolding async_by_trigger
async_by_trigger-acts p name s trigger (form.EntryCall entry owner actuals) = entry_call-acts p name call_kind.Triggering s
async_by_trigger-acts p name s trigger _ = async_delay-acts p name s trigger

pub asynchronous_select-acts : (p : Image) (name : Who) (s trigger : StatementNo) → Acts p name (asynchronous_select p name s trigger)
unfolding asynchronous_select
asynchronous_select-acts p name s trigger = async_by_trigger-acts p name s trigger (form_of p trigger)

-- ---- a requeue is to be done

mark_sending-quiets : {E : Kind} (c : Option CallNo) (o : Owner) (e : EntryNo) (with_abort : Bool) → Quiets E (mark_sending c o e with_abort)
mark_sending-quiets None o e with_abort = unchanged-quiets
mark_sending-quiets (Some c) o e with_abort =
    edit_call-quiets c (with_sending o e with_abort) record {
      number = λ d. refl;
      owner = λ d. refl;
      entry = λ d. refl;
      caller = λ d. refl;
      begun = λ d. refl;
      outcome = λ d. refl;
      firm = λ d. refl;
    }

pub requeue-keeps : {E : Kind} (p : Image) (name : Who) (e : EntryNo) (o : EntryOwner) (with_abort : Bool) → Keeps E name (requeue p name e o with_abort)
unfolding requeue
requeue-keeps p name e o with_abort =
    sees-keeps p name _
    (λ q. given-keeps of_part.Own name (owner_of_entry q e o) _
    (λ target. any-keeps _
    (then-calms _ _ (changes-calms _ (mark_sending-quiets (call_that_returns (frames_of q.world name)) target e with_abort))
    (leaves-calms name how.Return))))
