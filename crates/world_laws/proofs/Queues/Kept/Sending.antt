-- Calls that are queued and not accepted, and calls that are sent on (9.5.4, 9.7).
use Rattle.std.proofs.Common.{◌≡◌, ℤ, Bool, true, false, cond, not, ◌&&◌, inl, inr, List, Option, Some, None, refl, sym, subst, ◌||◌, [], ◌∷◌, ◌∙◌}
use Rattle.std.specs.Prelude.{is_none}
use Rattle.std.specs.List.{list_any}
use Rattle.std.proofs.lemmas.Bool.{and_parts, eq-eqb, or_left, or_right, true≢false}
use Rattle.ann_base.specs.declared.identities.CallNo.{CallNo}
use Rattle.trace_text.specs.declared.events.Who.{Who}
use Rattle.trace_text.specs.declared.events.Who.TheVariants as who
use Rattle.profile_image.specs.declared.image.Image.{Image}
use Rattle.profile_image.specs.declared.numbers.StatementNo.{StatementNo}
use Rattle.profile_machine.specs.declared.world.World.{World}
use Rattle.profile_machine.specs.declared.world.appointments.Due.TheVariants as due_for
use Rattle.profile_machine.specs.declared.world.calls.Call.{Call}
use Rattle.profile_machine.specs.declared.world.calls.CallKind.{CallKind}
use Rattle.profile_machine.specs.declared.world.calls.CallKind.TheVariants as call_kind
use Rattle.profile_machine.specs.declared.world.calls.Owner.{Owner}
use Rattle.profile_machine.specs.declared.world.calls.Owner.TheVariants as owned_by
use Rattle.profile_machine.specs.declared.world.calls.Sending.{Sending}
use Rattle.profile_machine.specs.declared.world.calls.Outcome.TheVariants as call_ended
use Rattle.profile_machine.specs.declared.world.lines.Line.TheVariants as line
use Rattle.profile_machine.specs.declared.world.lines.Part.{Part}
use Rattle.profile_machine.specs.declared.world.lines.Part.TheVariants.{TheFinish, TheBlock}
use Rattle.profile_machine.specs.declared.world.tasks.Waiting.{Waiting}
use Rattle.profile_machine.specs.declared.world.tasks.Waiting.TheVariants as waits_for
use Rattle.profile_image.specs.Words.{same_call, same_who, has}
use Rattle.profile_machine.specs.declared.world.lines.Said.{Said}
use Rattle.profile_machine.specs.Steps.{for_some, goes_on_with}
use Rattle.profile_image.specs.Program.{form_of}
use Rattle.profile_machine.specs.Steps.{Step, changes, when, nothing, ◌▷◌}
use Rattle.profile_machine.specs.Tasks.{waiting_of, task_of}
use Rattle.profile_machine.specs.Dispatching.{ready}
use Rattle.profile_machine.specs.Frames.{new_frame, has_room}
use Rattle.profile_machine.specs.Calls.{call_of, edit_call, unqueued, says_call, place_of_entry, queue_of}
use Rattle.profile_machine.specs.CallEnds.{resume, waits_for_call, abortable_depth}
use Rattle.profile_machine.specs.Appointments.{appoint}
use Rattle.profile_machine.specs.Sending.{open_abortable, new_abortable_mark, abortable_in, is_not_future, cancel_at_once, appoint_timeout, wait_for_call}
use Rattle.profile_machine.specs.Sending.{wait_or_cancel, not_accepted, sent_call, send_on, is_to_be_cancelled, cancel_sent, is_triggering, may_begin_abortable}
use Rattle.profile_machine.specs.Sending.{begin_abortable, timeout_again, sent_not_begun_by, sent_not_begun, may_time_out, stands_in_queue, still_serves}
use Rattle.world_laws.proofs.Queues.CallChanges.{Directed, Edits, appoint-calm, edit_call-calm, unqueued-calm, unqueued-out}
use Rattle.world_laws.proofs.Queues.CallLists.{same-call}
use Rattle.world_laws.proofs.Queues.Kept.CallEnds.{attempt_with-from, found-directed, found-number, resume-from}
use Rattle.world_laws.proofs.Queues.Kept.Combinators.{Alters, Calms, From, calms-from, changes-from, changes_then-from, from-calms, looks_at-from}
use Rattle.world_laws.proofs.Queues.Kept.Combinators.{nothing-from, said_then-from, stays-calm, then-after, when-from, with_call-from}
use Rattle.world_laws.proofs.Queues.Kept.Ends.{AllAwake, MayEnd, all_awake-on, deliver-from}
use Rattle.world_laws.proofs.Queues.Kept.Frames.{block-calms, push-alters, ready-calms}
use Rattle.world_laws.proofs.Queues.Kept.Onward.{Onward}
use Rattle.world_laws.proofs.Queues.Moving.{Next, calm-next, next-then}
use Rattle.world_laws.proofs.Queues.Standing.{Awake, Calm, Good, Idle, Kind, Out, any_kind, calm-awake}
use Rattle.world_laws.proofs.Queues.Standing.{calm-good, calm-idle, quiet_kind, waits_end, Awaited, Open}
use Rattle.machine_laws.proofs.Kept.Combinators.{world_behind}

pub open_abortable-alters : {E : Kind} (p : Image) (name : Who) (select : StatementNo) (c : CallNo) → Alters E name (open_abortable p name select (Some c))
open_abortable-alters p name select c =
    push-alters name (new_frame (new_abortable_mark select (Some c)) (abortable_in (form_of p select))) (λ x. refl) (λ x. refl) (λ x. refl) refl

pub cancel_at_once-from : (p : Image) (part : Part) (c : Call) (w : World) → Good p w → Directed c w → Awake (who.Task c.caller) w
    → From quiet_kind w (cancel_at_once p part c)
unfolding cancel_at_once
cancel_at_once-from p part c w good directed awake =
    attempt_with-from p part c (resume p part c call_ended.Cancelled) nothing w good directed
    (λ good_out out. let calm : Calm any_kind w (unqueued p c w) = unqueued-calm p c w in
    resume-from p part c call_ended.Cancelled (unqueued p c w) refl out (calm-awake w (unqueued p c w) calm (who.Task c.caller) awake))
    (λ v calm. nothing-from v)

pub wait_for_call-calms : {E : Kind} (c : Call) → Calms E (wait_for_call c)
unfolding wait_for_call
wait_for_call-calms c = block-calms TheBlock (who.Task c.caller) (waits_for.Call c.number) refl

-- a call that may time out is awaited
any-has : (c : CallNo) (queue : List CallNo) → list_any (same_call c) queue ≡ true → has same_call queue c ≡ true
any-has c [] h = h
any-has c (x ∷ xs) h = step (same_call c x) refl h (any-has c xs) where
  step : (b : Bool) → same_call c x ≡ b → (b || list_any (same_call c) xs) ≡ true → (list_any (same_call c) xs ≡ true → has same_call xs c ≡ true)
      → (same_call x c || has same_call xs c) ≡ true
  step true is k onward = or_left (same_call x c) (has same_call xs c) (subst (λ n. same_call n c ≡ true) (same-call c x is) (eq-eqb c.0 c.0 refl))
  step false is k onward = or_right (same_call x c) (has same_call xs c) (onward k)

open-of : (w : World) (o : Owner) → still_serves w o ≡ true → Open w o
open-of w (owned_by.Task t) h = not-true (task_of w (who.Task t)).completed h where
  not-true : (b : Bool) → not b ≡ true → b ≡ false
  not-true true e = sym e
  not-true false e = refl
open-of w (owned_by.Object o) h = tt

may-awaited : (p : Image) (w : World) (c : CallNo) (found : Option Call) → call_of w c ≡ found → may_time_out p w found ≡ true → Awaited c w
may-awaited p w c None e h = absurd (true≢false (sym h))
may-awaited p w c (Some d) e h =
    let queue = queue_of w d.owner (place_of_entry p d.entry) in
    let parts = and_parts (stands_in_queue p w d && not d.firm) (still_serves w d.owner) h in
    let more = and_parts (stands_in_queue p w d) (not d.firm) parts.0 in
    record {
      owner = d.owner;
      place = place_of_entry p d.entry;
      stands = any-has c queue (subst (λ n. list_any (same_call n) queue ≡ true) (found-number c w d e) more.0);
      opens = open-of w d.owner parts.1;
      unfirm = λ x f. let one : d ≡ x = some-one d x (sym e ∙ f) in subst (λ (y : Call). y.firm ≡ false) one (not-true d.firm more.1);
    } where
      some-one : (a b : Call) → Some a ≡ Some b → a ≡ b
      some-one a b e = cc

      not-true : (b : Bool) → not b ≡ true → b ≡ false
      not-true true e = sym e
      not-true false e = refl

-- a time-out is set of a call that nobody serves, and that may time out
timeout-calm : {E : Kind} (p : Image) (c : CallNo) (moment : Option ℤ) (w : World) → Idle c w → Calm E w (appoint_timeout p c moment w)
timeout-calm p c None w idle = stays-calm w
timeout-calm {E = E} p c (Some moment) w idle = timed (may_time_out p w (call_of w c)) refl where
  timed : (may : Bool) → may_time_out p w (call_of w c) ≡ may → Calm E w (cond may (appoint (due_for.Timeout c) moment w) w)
  timed true is =
      appoint-calm (due_for.Timeout c) moment w
      (λ x e. subst (λ n. Idle n w × Awaited n w) (sym (same-call x c e)) (idle, may-awaited p w c (call_of w c) refl is)) (λ t depth e. cc)
  timed false is = stays-calm w

wait_or_cancel-from : (p : Image) (part : Part) (c : Call) (test : Bool) (w : World) → Good p w → Directed c w → Idle c.number w → Awake (who.Task c.caller) w
    → From quiet_kind w (wait_or_cancel p part c test)
unfolding wait_or_cancel
wait_or_cancel-from p part c true w good directed idle awake = cancel_at_once-from p part c w good directed awake
wait_or_cancel-from p part c false w good directed idle awake =
    then-after (changes (appoint_timeout p c.number c.moment)) _ w
    (changes-from (appoint_timeout p c.number c.moment) w (timeout-calm p c.number c.moment w idle)) (λ v calm. calms-from _ v (wait_for_call-calms c))

pub not_accepted-from : (p : Image) (part : Part) (c : Call) (kind : CallKind) (w : World) → Good p w → Directed c w → Idle c.number w
    → Awake (who.Task c.caller) w → From quiet_kind w (not_accepted p part c kind)
unfolding not_accepted
not_accepted-from p part c call_kind.Plain w good directed idle awake = calms-from _ w (wait_for_call-calms c)
not_accepted-from p part c call_kind.Conditional w good directed idle awake = cancel_at_once-from p part c w good directed awake
not_accepted-from p part c call_kind.Timed w good directed idle awake =
    looks_at-from (λ v. wait_or_cancel p part c (is_not_future v.time c.moment)) w
    (wait_or_cancel-from p part c (is_not_future w.time c.moment) w good directed idle awake)
not_accepted-from p part c call_kind.Triggering w good directed idle awake =
    changes-from (open_abortable p (who.Task c.caller) c.statement (Some c.number)) w
    ((open_abortable-alters p (who.Task c.caller) c.statement c.number).at w awake)

-- ---- a call is sent on

sent-edits : (E : Kind) (w : World) (c : CallNo) (s : Sending) (x : Call) → Out c w → Edits E w c x (sent_call s x)
sent-edits E w c s x out = record { directed = inr out; firm = inr out; caller = refl; outcome = λ h. h; steady = inl (refl, refl) }

pub sent-calm : {E : Kind} (c : CallNo) (s : Sending) (w : World) → Out c w → Calm E w (edit_call c (sent_call s) w)
sent-calm {E = E} c s w out = edit_call-calm c (sent_call s) w (λ d. refl) (λ x. sent-edits E w c s x out)

-- it says its line
pub send_on_then-onward : {p : Image} (c : CallNo) (s : Sending) (g : Step) (w : World) → Good p w → Out c w → Onward p (edit_call c (sent_call s) w) g
    → Onward p w (send_on c s ▷ g)
unfolding send_on says_call
send_on_then-onward {p = p} c s g w good out k = record { leads = λ said. by_found (call_of (edit_call c (sent_call s) w) c) said } where
  first : Next p w (edit_call c (sent_call s) w)
  first = let calm : Calm any_kind w (edit_call c (sent_call s) w) = sent-calm c s w out in calm-next p w (edit_call c (sent_call s) w) good calm

  by_found : (found : Option Call) (said : List Said)
      → Next p w (world_behind (goes_on_with g (for_some found (says_call TheFinish) (edit_call c (sent_call s) w) said)))
  by_found None said = next-then p w (edit_call c (sent_call s) w) _ first (k.leads said)
  by_found (Some d) said = next-then p w (edit_call c (sent_call s) w) _ first (k.leads _)

pub no-steady : (w : World) → AllAwake any_kind w
no-steady w a is = cc

-- the one call that may end, while this one acts
abbrev pub beside_kind : Who → CallNo → Kind
beside_kind name c = record { may = same_call c; steady = same_who name; stay = λ x. false }

-- it is cancelled where it is to be
cancel_sent-from : {E : Kind} (p : Image) (c : Call) (w : World) → Good p w → Directed c w → Idle c.number w → MayEnd E c.number → AllAwake E w
    → ((x : CallNo) → E.stay x ≡ false) → From E w (cancel_sent p c)
unfolding cancel_sent
cancel_sent-from {E = E} p c w good directed idle may awake loose =
    let u = unqueued p c w in
    let calm : Calm E w u = unqueued-calm p c w in
    changes_then-from (unqueued p c) _ w calm
    (said_then-from TheFinish (line.Cancel c.caller c.number) _ u
    (deliver-from p TheFinish c.number call_ended.Cancelled u (calm-good p w u good calm) may (unqueued-out p c w good directed)
    (calm-idle w u calm c.number idle) (all_awake-on E w u calm awake) loose))

waits-call : (c : CallNo) (waiting : Option Waiting) (x : CallNo) → waits_for_call c waiting ≡ true → waiting ≡ waits_end x → ⊥
waits-call c (Some (waits_for.EndOfCall d)) x e f = cc
waits-call c None x e f = cc
waits-call c (Some waits_for.Activation) x e f = cc
waits-call c (Some waits_for.Moment) x e f = cc
waits-call c (Some (waits_for.Call d)) x e f = cc
waits-call c (Some (waits_for.Accept s)) x e f = cc
waits-call c (Some (waits_for.Select accepts delay terminate)) x e f = cc
waits-call c (Some (waits_for.Dependents r)) x e f = cc
waits-call c (Some waits_for.Release) x e f = cc

waits-awake : (c : CallNo) (a : Who) (w : World) → waits_for_call c (waiting_of w a) ≡ true → Awake a w
unfolding Awake
waits-awake c a w e x d is f = waits-call c (waiting_of w a) x e is

pub begin_abortable-calms : {E : Kind} (p : Image) (c : CallNo) → Calms E (begin_abortable p c)
unfolding begin_abortable
begin_abortable-calms p c =
    from-calms _ (λ w. with_call-from c _ w (λ d is.
    looks_at-from
    (λ v.
    when (may_begin_abortable v d) (changes (open_abortable p (who.Task d.caller) d.statement (Some d.number)) ▷ ready p TheFinish (who.Task d.caller))) w
    (when-from (may_begin_abortable w d) _ w (λ may.
    let test = is_triggering d.kind && is_none (abortable_depth w d) && not d.firm && not d.attempted && is_none d.outcome in
    let waits =
    (and_parts test (waits_for_call d.number (waiting_of w (who.Task d.caller)))
    (and_parts (test && waits_for_call d.number (waiting_of w (who.Task d.caller))) (has_room w (who.Task d.caller) 1 0) may).0).1 in
    let awake = waits-awake d.number (who.Task d.caller) w waits in
    then-after (changes (open_abortable p (who.Task d.caller) d.statement (Some d.number))) _ w
    (changes-from (open_abortable p (who.Task d.caller) d.statement (Some d.number)) w
    ((open_abortable-alters p (who.Task d.caller) d.statement d.number).at w awake))
    (λ v calm. calms-from _ v (ready-calms p TheFinish (who.Task d.caller)))))))

again-calm : {E : Kind} (p : Image) (firm : Bool) (c : Call) (w : World) → Idle c.number w
    → Calm E w ((cond firm (λ v. v) (appoint_timeout p c.number c.moment)) w)
again-calm p true c w idle = stays-calm w
again-calm p false c w idle = timeout-calm p c.number c.moment w idle

sent_not_begun_by-from : {E : Kind} (p : Image) (c : Call) (test : Bool) (w : World) → Good p w → Directed c w → Idle c.number w → MayEnd E c.number
    → AllAwake E w → ((x : CallNo) → E.stay x ≡ false) → From E w (sent_not_begun_by p c test)
unfolding sent_not_begun_by
sent_not_begun_by-from p c true w good directed idle may awake loose = cancel_sent-from p c w good directed idle may awake loose
sent_not_begun_by-from p c false w good directed idle may awake loose =
    then-after (changes (timeout_again p c)) _ w (changes-from (timeout_again p c) w (again-calm p c.firm c w idle))
    (λ v calm. calms-from _ v (begin_abortable-calms p c.number))

pub sent_not_begun-from : {E : Kind} (p : Image) (c : CallNo) (w : World) → Good p w → Idle c w → MayEnd E c → AllAwake E w → ((x : CallNo) → E.stay x ≡ false)
    → From E w (sent_not_begun p c)
unfolding sent_not_begun
sent_not_begun-from {E = E} p c w good idle may awake loose =
    with_call-from c _ w (λ d is. let same = found-number c w d is in
    looks_at-from (λ v. sent_not_begun_by p d (is_to_be_cancelled v.time d)) w
    (sent_not_begun_by-from p d (is_to_be_cancelled w.time d) w good (found-directed c w d is) (subst (λ n. Idle n w) (sym same) idle)
    (subst (λ n. E.may n ≡ true) (sym same) may) awake loose))
