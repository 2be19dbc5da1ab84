-- Calls are accepted, and accepts end (9.5.2, 9.5.4, 9.7.1).
use Rattle.profile_machine.specs.Steps.{Done, done, goes_on_with}
use Rattle.profile_machine.specs.declared.world.calls.Outcome.TheVariants as call_ended
use Rattle.profile_machine.specs.declared.world.lines.Line.TheVariants as line
use Rattle.profile_machine.specs.declared.world.lines.MeetingEnd.TheVariants as meeting
use Rattle.std.proofs.Common.{Result, Ok, Err}
use Rattle.profile_machine.specs.declared.world.lines.Part.TheVariants.{TheFinish, TheBlock}
use Rattle.profile_image.specs.declared.statements.StatementForm.TheVariants as form
use Rattle.std.proofs.Common.{ap, sym, subst, ℕ, suc, zero, arith, is_none, find, option_map, ◌∙◌, ◌≤◌, ◌<◌, ◌||◌, ◌+◌}
use Rattle.std.proofs.lemmas.Bool.{eq-eqb, true≢false}
use Rattle.std.specs.Prelude.{ℤ, pos, int_le, Bool, true, false, List, Option, Some, None, [], ◌∷◌}
use Rattle.ann_base.specs.declared.identities.CallNo.{CallNo}
use Rattle.ann_base.specs.declared.identities.TaskNo.{TaskNo}
use Rattle.trace_text.specs.declared.events.Who.{Who}
use Rattle.profile_machine.specs.declared.world.calls.DelayMoment.{DelayMoment}
use Rattle.profile_image.specs.declared.image.Image.{Image}
use Rattle.profile_image.specs.declared.numbers.EntryNo.{EntryNo}
use Rattle.profile_image.specs.declared.numbers.StatementNo.{StatementNo}
use Rattle.profile_machine.specs.declared.run_data.Leaving.{Leaving}
use Rattle.profile_image.specs.declared.statements.SelectAlternative.{SelectAlternative}
use Rattle.profile_image.specs.declared.statements.SelectKind.{SelectKind}
use Rattle.profile_image.specs.declared.values.Value.{Value}
use Rattle.profile_machine.specs.declared.world.World.{World}
use Rattle.profile_machine.specs.declared.world.marks.Mark.{Mark}
use Rattle.profile_machine.specs.declared.world.marks.AcceptMark.{AcceptMark}
use Rattle.profile_machine.specs.declared.world.calls.Call.{Call}
use Rattle.profile_machine.specs.declared.world.calls.Owner.{Owner}
use Rattle.profile_machine.specs.declared.world.calls.Sending.{Sending}
use Rattle.profile_machine.specs.declared.world.marks.Mark.TheVariants.{InAccept}
use Rattle.profile_image.specs.Program.{form_of, next_of, scope_of}
use Rattle.profile_machine.specs.declared.world.lines.Part.{Part}
use Rattle.profile_machine.specs.Steps.{Step, changes, ◌▷◌, looks}
use Rattle.profile_machine.specs.Frames.{new_frame, edit_top, goes_on, pop, top_of, in_protected}
use Rattle.profile_machine.specs.Scopes.{begin_scope, next_id, plainly, innermost, end_scope, cells_of, scope_in_use}
use Rattle.profile_machine.specs.Appointments.{drop_delay}
use Rattle.profile_machine.specs.Calls.{parameters_of, edit_call, with_call, next_call, place_of_entry}
use Rattle.profile_machine.specs.Rendezvous.{accept_scope, open_accept, has_room_for_accept, begin_accept, finish_without_room, accept_with_room}
use Rattle.profile_machine.specs.Rendezvous.{accept_call, meet_with_room, meet_without_room, meet, accept_or_wait, accept, accept_chosen}
use Rattle.profile_machine.specs.Rendezvous.{wait_at_select, appoint_delay, select_delay, select_wait, select_otherwise, select_by_call, select_open}
use Rattle.profile_machine.specs.Rendezvous.{selective_accept, gone_sent, meet_sent, arrive_at, arrive, finish_accept, finish_rendezvous}
use Rattle.profile_machine.specs.Rendezvous.{behind_accept, finished_call, end_in_accept, own_queue, open_alternatives, open_delays}
use Rattle.std.proofs.Common.{◌≡◌, refl}
use Rattle.profile_machine.specs.Values.{seen_by}
use Rattle.profile_machine.specs.declared.world.marks.Frame.{Frame}
use Rattle.trace_text.specs.declared.events.Who.TheVariants as who
use Rattle.profile_machine.specs.declared.run_data.Leaving.TheVariants as how
use Rattle.profile_machine.specs.declared.world.tasks.Waiting.TheVariants as waits_for
use Rattle.profile_machine.specs.declared.world.tasks.Cause.TheVariants as inherited_by
use Rattle.ann_base.specs.declared.exceptions.Raised.TheVariants as exception
use Rattle.profile_machine.specs.declared.world.appointments.Due.TheVariants as due_for
use Rattle.profile_machine.specs.declared.world.calls.Owner.TheVariants as owned_by
use Rattle.profile_machine.specs.declared.world.lines.Part.TheVariants as of_part
use Rattle.line_laws.proofs.Exits.TaskEdits as edits_of
use Rattle.ann_base.specs.declared.exceptions.Raised.{Raised}
use Rattle.profile_machine.specs.CallEnds.{deliver}
use Rattle.profile_machine.specs.Calls.{call_of, is_call, unqueued}
use Rattle.profile_machine.specs.Dispatching.{ready}
use Rattle.profile_machine.specs.Frames.{edit_first, frames_of, given, goes, open_sequence, raise_if}
use Rattle.profile_machine.specs.Inheritance.{inherit}
use Rattle.profile_machine.specs.Masters.{terminate}
use Rattle.profile_machine.specs.Notation.{entry, p, scope, t}
use Rattle.profile_machine.specs.Priorities.{is_queued}
use Rattle.profile_machine.specs.Protected.{begin_call, begun_call}
use Rattle.profile_machine.specs.Rendezvous.{accept_for, first_accept, has_terminate, is_callable, is_closed}
use Rattle.profile_machine.specs.Rendezvous.{least_delay, open_accepts, queue_of_accept, queues_of_accepts}
use Rattle.profile_machine.specs.Sending.{begin_abortable, sent_call}
use Rattle.profile_machine.specs.Steps.{Done, for_some, goes_on_with}
use Rattle.profile_machine.specs.Tasks.{task_at, task_of, waiting_of, with_frames}
use Rattle.profile_image.specs.Words.{edit_where, has, is_the, same_call, same_who}
use Rattle.world_tables.specs.Lists.{first_of, rest_of}
use Rattle.profile_image.specs.declared.statements.StatementForm.{StatementForm}
use Rattle.profile_machine.specs.declared.world.calls.Outcome.{Outcome}
use Rattle.profile_machine.specs.declared.world.tasks.Task.{Task}
use Rattle.world_laws.proofs.Queues.Arrivals.{end_scope-calm}
use Rattle.world_laws.proofs.Queues.CallChanges.{Directed, calm-directed, edited_call-same, stands-calls, unqueued-calm, unqueued-out}
use Rattle.world_laws.proofs.Queues.Calming.{edit_task-calls, found-appointments}
use Rattle.world_laws.proofs.Queues.Chosen.{in-mapped, in-one, next-in}
use Rattle.world_laws.proofs.Queues.Kept.Actions.{begun-out, chosen-queued, outcome-none, sent-none}
use Rattle.world_laws.proofs.Queues.Kept.CallEnds.{found-directed, found-number}
use Rattle.world_laws.proofs.Queues.Kept.Combinators.{Calms, From, Keeps, Quiets, any-keeps, calms-from, changes-calms, keeps-from}
use Rattle.world_laws.proofs.Queues.Kept.Combinators.{looks-keeps, nothing-keeps, says-calms, then-after, then-keeps, unchanged-quiets}
use Rattle.world_laws.proofs.Queues.Kept.Ends.{AllAwake, MayEnd, all_awake-on, deliver-from, gone_then-from}
use Rattle.world_laws.proofs.Queues.Kept.Frames.{Same, appoint-quiets, begin_scope-quiets, block-keeps, blocked-quiets, drop_delay-quiets}
use Rattle.world_laws.proofs.Queues.Kept.Frames.{edit_call-quiets, edit_top-alters, goes-keeps, inherit-quiets, inherit_running-calms}
use Rattle.world_laws.proofs.Queues.Kept.Frames.{lose_running-calms, open_sequence-keeps, pass_on-keeps, popped, raises-calms, ready-calms}
use Rattle.world_laws.proofs.Queues.Kept.Onward.{Acts, Onward, calm-onward, calm_then-onward, changes_then-onward, either-onward}
use Rattle.world_laws.proofs.Queues.Kept.Onward.{for_some-onward, looks_at-onward, said_then-onward, then-onward, with_call-onward}
use Rattle.world_laws.proofs.Queues.Kept.Queued.{begin_then-onward, begun-calm, begun-of, begun-on, begun_of, enqueue_then-onward}
use Rattle.world_laws.proofs.Queues.Kept.Sending.{begin_abortable-calms, no-steady, send_on_then-onward, sent-calm, sent_not_begun-from}
use Rattle.world_laws.proofs.Queues.Moving.{Begun, Next, Serves, calm-next, next-then, served-next}
use Rattle.world_laws.proofs.Queues.Softening.{awaits-more}
use Rattle.world_laws.proofs.Queues.Standing.{Awake, Calm, Good, Idle, Kind, Out, Stands, any_kind, calm-awake, calm-good}
use Rattle.world_laws.proofs.Queues.Standing.{calm-idle, calm-out, calm-then, ends_by, ends_part, has_own, nature, natures, one_if}
use Rattle.world_laws.proofs.Queues.Standing.{own_in, part_of, queued-idle, quiet_kind, served, served_in, service, some_nature}
use Rattle.machine_laws.proofs.Kept.Combinators.{world_behind}

finish_without_room-calms : {E : Kind} (part : Part) (name : Who) (c : Call) → Calms E (finish_without_room part name c)
unfolding finish_without_room
finish_without_room-calms part name c = says-calms part _

assoc-onward : {p : Image} (a b c : Step) (w : World) → Onward p w (a ▷ (b ▷ c)) → Onward p w ((a ▷ b) ▷ c)
assoc-onward {p = p} a b c w k = record { leads = λ said. of_done (a w said) (k.leads said) } where
  of_done : (d : Done) → Next p w (world_behind (goes_on_with (b ▷ c) d)) → Next p w (world_behind (goes_on_with c (goes_on_with b d)))
  of_done (done v said) h = h

-- ---- the mark of an accept is opened for a call that has begun

serves-accept : (c : CallNo) (f : Frame) (fs : List Frame) → service f.mark ≡ Some c → own_in f.mark ≡ None → part_of f.mark ≡ None → Serves c fs (f ∷ fs)
serves-accept c f fs serves own part = record {
  owns = λ x h. rest-true (has_own x (nature f.mark)) (some_nature (has_own x) (natures fs)) (ap (λ o. is_the same_call o x) own) h;
  ended = λ x h. rest-true (ends_by x (nature f.mark)) (some_nature (ends_by x) (natures fs)) (ap (ends_part x) part) h;
  awaits = λ d h. awaits-more d (nature f.mark) (natures fs) h;
  few =
      λ x. subst (λ o. one_if (is_the same_call o x) + served_in x (natures fs) ≤ one_if (same_call c x) + served_in x (natures fs)) (sym serves) (omega arith);
} where
  rest-true : (a b : Bool) → a ≡ false → (a || b) ≡ true → b ≡ true
  rest-true true b e h = cc
  rest-true false b e h = h

open_accept-next : (p : Image) (name : Who) (s : StatementNo) (c : Call) (w : World) → Good p w → Awake name w → Begun c.number w
    → Next p w (open_accept p name s c w)
open_accept-next p name s c w good awake begun =
    let scope = accept_scope (form_of p s) in
    let b = record (plainly (innermost w name)) { values = parameters_of p c } in
    let u = begin_scope p name scope b w in
    let mark : Mark = InAccept (record { call = c.number; accept = s; within = next_id w; handles = None }) in
    let calm : Calm quiet_kind w u = (begin_scope-quiets p name scope b).at w in
    let f = new_frame mark (scope_of p scope).first in
    next-then p w u (open_accept p name s c w) (calm-next p w u good calm)
    (served-next p name (λ fs. f ∷ fs) c.number u (calm-good p w u good calm) (begun-on c.number w u calm refl refl begun) (calm-awake w u calm name awake)
    (serves-accept c.number f (frames_of u name) refl refl refl))

-- ---- a call begins, and its acceptor goes on behind its accept

abbrev accepted_of : Image → Who → StatementNo → Call → World → World
accepted_of p name s c w = edit_top name (goes_on (next_of p s)) (begun_of p c w)

top-appointments : (name : Who) (f : Frame → Frame) (w : World) → (edit_top name f w).appointments ≡ w.appointments
top-appointments name f w = found-appointments name (λ t. with_frames (edit_first f t.frames) t) w (task_at w name)

begun_of-out : (p : Image) (d : Call) (w : World) → Good p w → Directed d w → Out d.number (begun_of p d w)
begun_of-out p d w good directed o k h =
    unqueued-out p d w good directed o k (stands-calls (unqueued p d w) (edit_where (is_call d.number) begun_call (unqueued p d w).calls) o k d.number h)

begin_accept_then-onward : (p : Image) (part : Part) (name : Who) (s : StatementNo) (c : Call) (g : Step) (w : World) → Good p w → Directed c w
    → Idle c.number w → c.number.0 ≤ w.drawn.calls → ((d : Call) → call_of w c.number ≡ Some d → is_none d.outcome ≡ true) → Awake name w
    → ((v : World) → Next p w v → Awake name v → Begun c.number v → Out c.number v → Onward p v g) → Onward p w (begin_accept p part name s c ▷ g)
unfolding begin_accept goes
begin_accept_then-onward p part name s c g w good directed idle low none awake k =
    let b = begun_of p c w in
    let v = accepted_of p name s c w in
    let first : Calm any_kind w b = begun-calm p c w refl good directed idle in
    let awake_b = calm-awake w b first name awake in
    let second : Calm any_kind b v = (edit_top-alters name (goes_on (next_of p s)) (λ x. refl)).at b awake_b in
    assoc-onward (begin_call p part name c) (changes (edit_top name (goes_on (next_of p s)))) g w
    (begin_then-onward p part name c _ w good directed idle (λ good_b.
    changes_then-onward (edit_top name (goes_on (next_of p s))) g b (calm-next p b v good_b second)
    (k v (next-then p w b v (calm-next p w b good first) (calm-next p b v good_b second)) (calm-awake b v second name awake_b)
    (begun-on c.number b v second (edit_task-calls name _ b) (top-appointments name (goes_on (next_of p s)) b) (begun-of p c w good directed idle low none))
    (calm-out b v second c.number (begun_of-out p c w good directed)))))

accept_with_room-onward : (p : Image) (name : Who) (s : StatementNo) (c : Call) (has : Bool) (w : World) → Good p w → Awake name w → Begun c.number w
    → Out c.number w → Onward p w (accept_with_room p name s c has)
unfolding accept_with_room
accept_with_room-onward p name s c true w good awake begun out =
    let next = open_accept-next p name s c w good awake begun in
    changes_then-onward (open_accept p name s c) _ w next
    (calm-onward {E = quiet_kind} _ _ next.good (calms-from _ _ (inherit_running-calms p name (inherited_by.Rendezvous c.number) c.priority)))
accept_with_room-onward p name s c false w good awake begun out =
    calm_then-onward {E = quiet_kind} (finish_without_room of_part.Own name c) _ w good (calms-from _ w (finish_without_room-calms of_part.Own name c))
    (λ v calm good_v.
    calm-onward {E = any_kind} _ v good_v (then-after (deliver p of_part.Own c.number (call_ended.ToRaise exception.Storage)) _ v
    (deliver-from p of_part.Own c.number (call_ended.ToRaise exception.Storage) v good_v refl (calm-out w v calm c.number out)
    (calm-idle w v calm c.number begun.idle) (no-steady v) (λ x. refl))
    (λ u later. calms-from _ u (raises-calms of_part.Own name exception.Storage))))

accept_call-onward : (p : Image) (name : Who) (s : StatementNo) (c : CallNo) (w : World) → Good p w → Awake name w
    → ((d : Call) → call_of w c ≡ Some d → is_queued d ≡ true) → Onward p w (accept_call p name s c)
unfolding accept_call
accept_call-onward p name s c w good awake queued =
    with_call-onward c _ w good (λ d is.
    let number = found-number c w d is in
    let there = subst (λ n. call_of w n ≡ Some d) (sym number) is in
    begin_accept_then-onward p of_part.Own name s d _ w good (found-directed c w d is) (queued-idle p w d.number d good there (queued d is))
    (good.known d.number d there) (λ x e. outcome-none x (queued x (subst (λ n. call_of w n ≡ Some x) number e))) awake
    (λ v next awake_v begun out. looks_at-onward (λ u. accept_with_room p name s d (has_room_for_accept p u name s)) v
    (accept_with_room-onward p name s d (has_room_for_accept p v name s) v next.good awake_v begun out)))

-- ---- an acceptor that waits meets a call

drop_delay-calls : (name : Who) (w : World) → (drop_delay name w).calls ≡ w.calls
drop_delay-calls (who.Task t) w = refl
drop_delay-calls who.Agent w = refl

pub meet-onward : (p : Image) (part : Part) (name : Who) (s : StatementNo) (c : Call) (then_ otherwise : Step) (w : World) → Good p w → Directed c w
    → Idle c.number w → c.number.0 ≤ w.drawn.calls → ((d : Call) → call_of w c.number ≡ Some d → is_none d.outcome ≡ true) → Awake name w
    → ((v : World) → Next p w v → Onward p v then_) → ((v : World) → Next p w v → Out c.number v → Idle c.number v → Onward p v otherwise)
    → Onward p w (meet p part name s c then_ otherwise)
meet-onward p part name s c then_ otherwise w good directed idle low none awake k l =
    let u = drop_delay name w in
    let calm : Calm any_kind w u = (drop_delay-quiets name).at w in
    let good_u = calm-good p w u good calm in
    let first = calm-next p w u good calm in
    let directed_u = calm-directed c w u calm directed in
    let idle_u = calm-idle w u calm c.number idle in
    let low_u : c.number.0 ≤ u.drawn.calls = subst (λ n. c.number.0 ≤ n) (sym calm.drawn) low in
    let none_u : (d : Call) → call_of u c.number ≡ Some d → is_none d.outcome ≡ true =
    λ d e. none d (ap (λ ds. find (is_call c.number) ds) (sym (drop_delay-calls name w)) ∙ e) in
    let awake_u = calm-awake w u calm name awake in
    changes_then-onward (drop_delay name) _ w first
    (looks_at-onward
    (λ v. elim (has_room_for_accept p v name s) as (λ _. Step) [
      | true ↦ meet_with_room p part name s c then_
      | false ↦ meet_without_room p part name s c otherwise
    ]) u
    (either-onward (has_room_for_accept p u name s) _ _ u
    (begin_accept_then-onward p part name s c _ u good_u directed_u idle_u low_u none_u awake_u (λ v next awake_v begun out.
    let opened = open_accept-next p name s c v next.good awake_v begun in
    changes_then-onward (open_accept p name s c) _ v opened
    (then-onward (changes (inherit name (inherited_by.Rendezvous c.number) c.priority)) _ _
    (calm-onward {E = quiet_kind} _ _ opened.good (calms-from _ _ (changes-calms _ (inherit-quiets name (inherited_by.Rendezvous c.number) c.priority))))
    (λ a next_a.
    then-onward (ready p part name) _ a (calm-onward {E = quiet_kind} _ a next_a.good (calms-from _ a (ready-calms p part name))) (λ b next_b.
    let awake_b = next_b.awake name (next_a.awake name (opened.awake name awake_v)) in
    then-onward (open_sequence p part name) then_ b (calm-onward {E = quiet_kind} _ b next_b.good (keeps-from _ b awake_b (open_sequence-keeps p part name)))
    (λ z next_z.
    k z (next-then p w u z first (next-then p u v z next (next-then p v _ z opened (next-then p _ a z next_a (next-then p a b z next_b next_z)))))))))))
    (begin_accept_then-onward p TheFinish name s c _ u good_u directed_u idle_u low_u none_u awake_u (λ v next awake_v begun out.
    calm_then-onward {E = quiet_kind} (finish_without_room TheFinish name c) _ v next.good (calms-from _ v (finish_without_room-calms TheFinish name c))
    (λ a calm_a good_a.
    then-onward otherwise _ a
    (l a (next-then p w u a first (next-then p u v a next (calm-next p v a next.good calm_a))) (calm-out v a calm_a c.number out)
    (calm-idle v a calm_a c.number begun.idle))
    (λ b next_b.
    calm-onward {E = quiet_kind} _ b next_b.good
    (then-after (ready p part name) _ b (calms-from _ b (ready-calms p part name))
    (λ z later. calms-from _ z (raises-calms part name exception.Storage)))))))))

-- ---- accepts

own_queue-stands : (w : World) (name : Who) (k : ℕ) (c : CallNo) → has same_call (own_queue w name k) c ≡ true → (o : Owner) × Stands w o k c
own_queue-stands w (who.Task t) k c h = (owned_by.Task t, h)
own_queue-stands w who.Agent k c h = cc

accept_or_wait-onward : (p : Image) (name : Who) (s : StatementNo) (c : Option CallNo) (w : World) → Good p w → Awake name w
    → ((x : CallNo) → c ≡ Some x → (d : Call) → call_of w x ≡ Some d → is_queued d ≡ true) → Onward p w (accept_or_wait p name s c)
unfolding accept_or_wait
accept_or_wait-onward p name s (Some c) w good awake queued = accept_call-onward p name s c w good awake (queued c refl)
accept_or_wait-onward p name s None w good awake queued =
    calm-onward {E = quiet_kind} _ w good
    (keeps-from _ w awake (then-keeps _ _ (goes-keeps name (next_of p s)) (block-keeps TheBlock name (waits_for.Accept s) refl)))

raise_if-onward : {p : Image} (name : Who) (test : Bool) (e : Raised) (step : Step) (w : World) → Good p w → Onward p w step
    → Onward p w (raise_if name test e step)
raise_if-onward name true e step w good k = calm-onward {E = quiet_kind} _ w good (calms-from _ w (raises-calms of_part.Own name e))
raise_if-onward name false e step w good k = k

given-onward : {p : Image} {X : Type 0} (name : Who) (result : Result X Raised) (f : X → Step) (w : World) → Good p w → ((x : X) → Onward p w (f x))
    → Onward p w (given of_part.Own name result f)
given-onward name (Ok x) f w good k = k x
given-onward name (Err e) f w good k = calm-onward {E = quiet_kind} _ w good (calms-from _ w (raises-calms of_part.Own name e))

pub accept-acts : (p : Image) (name : Who) (s : StatementNo) (e : EntryNo) → Acts p name (accept p name s e)
unfolding accept
accept-acts p name s e =
    record {
      from = λ w good awake drawn.
          looks_at-onward
          (λ v.
          raise_if name (in_protected v name) exception.Program (accept_or_wait p name s (next_call p v (own_queue v name (place_of_entry p e) ∷ [])))) w
          (raise_if-onward name (in_protected w name) exception.Program _ w good
          (accept_or_wait-onward p name s (next_call p w (own_queue w name (place_of_entry p e) ∷ [])) w good awake (λ c is d there.
          let at =
          own_queue-stands w name (place_of_entry p e) c
          (in-one (own_queue w name (place_of_entry p e)) c (next-in p w (own_queue w name (place_of_entry p e) ∷ []) c is)) in
          chosen-queued p w c at.0 (place_of_entry p e) good at.1 d there)));
    }

-- ---- the selective accept

wait_at_select-keeps : {E : Kind} (name : Who) (accepts : List StatementNo) (delay : Option StatementNo) (test : Bool)
    → Keeps E name (wait_at_select name accepts delay test)
unfolding wait_at_select
wait_at_select-keeps name accepts delay true = any-keeps _ (changes-calms _ (blocked-quiets name (waits_for.Select accepts delay true) refl))
wait_at_select-keeps name accepts delay false = block-keeps TheBlock name (waits_for.Select accepts delay false) refl

appoint_delay-quiets : {E : Kind} (name : Who) (m : ℤ) → Quiets E (appoint_delay name m)
appoint_delay-quiets (who.Task t) m = appoint-quiets (due_for.Delay t) m refl
appoint_delay-quiets who.Agent m = unchanged-quiets

select_delay-keeps : {E : Kind} (p : Image) (name : Who) (s : StatementNo) (accepts : List StatementNo) (m : DelayMoment) (terminate test : Bool)
    → Keeps E name (select_delay p name s accepts m terminate test)
unfolding select_delay
select_delay-keeps p name s accepts m terminate true = goes-keeps name (next_of p m.delay)
select_delay-keeps p name s accepts m terminate false =
    then-keeps _ _ (goes-keeps name (next_of p s))
    (then-keeps _ _ (any-keeps _ (changes-calms _ (appoint_delay-quiets name m.at))) (wait_at_select-keeps name accepts (Some m.delay) terminate))

select_wait-keeps : {E : Kind} (p : Image) (name : Who) (s : StatementNo) (accepts : List StatementNo) (terminate : Bool) (moment : Option DelayMoment)
    → Keeps E name (select_wait p name s accepts terminate moment)
unfolding select_wait
select_wait-keeps p name s accepts terminate None = then-keeps _ _ (goes-keeps name (next_of p s)) (wait_at_select-keeps name accepts None terminate)
select_wait-keeps p name s accepts terminate (Some m) =
    looks-keeps (λ w. select_delay p name s accepts m terminate (int_le m.at (pos w.time)))
    (λ w. select_delay-keeps p name s accepts m terminate (int_le m.at (pos w.time)))

select_otherwise-keeps : {E : Kind} (p : Image) (name : Who) (s : StatementNo) (kinds : List SelectKind) (m : Option DelayMoment) (next : Option StatementNo)
    → Keeps E name (select_otherwise p name s kinds m next)
unfolding select_otherwise
select_otherwise-keeps p name s kinds m (Some otherwise) = goes-keeps name (Some otherwise)
select_otherwise-keeps p name s kinds m None = select_wait-keeps p name s (open_accepts kinds) (has_terminate kinds) m

queue_of_accept-stands : (p : Image) (w : World) (name : Who) (form : StatementForm) (c : CallNo) → has same_call (queue_of_accept p w name form) c ≡ true
    → (o : Owner) × (k : ℕ) × Stands w o k c
queue_of_accept-stands p w name (form.Accept entry scope) c h =
    let at = own_queue-stands w name (place_of_entry p entry) c h in (at.0, place_of_entry p entry, at.1)
queue_of_accept-stands p w name _ c h = cc

select_by_call-onward : (p : Image) (name : Who) (s : StatementNo) (kinds : List SelectKind) (m : Option DelayMoment) (otherwise : Option StatementNo)
    (c : Option CallNo) (w : World)
    → Good p w
    → Awake name w
    → ((x : CallNo) → c ≡ Some x → (d : Call) → call_of w x ≡ Some d → is_queued d ≡ true)
    → Onward p w (select_by_call p name s kinds m otherwise c)
unfolding select_by_call accept_chosen
select_by_call-onward p name s kinds m otherwise (Some c) w good awake queued =
    with_call-onward c (λ d. for_some (first_accept p d.entry (open_accepts kinds)) (λ s. accept_call p name s c)) w good
    (λ d is. for_some-onward (first_accept p d.entry (open_accepts kinds)) (λ s. accept_call p name s c) w good
    (λ s e. accept_call-onward p name s c w good awake (queued c refl)))
select_by_call-onward p name s kinds m otherwise None w good awake queued =
    calm-onward {E = quiet_kind} _ w good (keeps-from _ w awake (select_otherwise-keeps p name s kinds m otherwise))

select_open-onward : (p : Image) (name : Who) (s : StatementNo) (otherwise : Option StatementNo) (kinds : List SelectKind) (moments : List DelayMoment)
    (w : World)
    → Good p w
    → Awake name w
    → Onward p w (select_open p name s otherwise kinds moments)
unfolding select_open
select_open-onward p name s otherwise kinds moments w good awake =
    raise_if-onward name (is_closed kinds otherwise) exception.Program _ w good
    (looks_at-onward (λ v. select_by_call p name s kinds (least_delay moments) otherwise (next_call p v (queues_of_accepts p v name (open_accepts kinds)))) w
    (select_by_call-onward p name s kinds (least_delay moments) otherwise (next_call p w (queues_of_accepts p w name (open_accepts kinds))) w good awake
    (λ c is d there.
    let one =
    in-mapped (λ x. queue_of_accept p w name (form_of p x)) (open_accepts kinds) c (next-in p w (queues_of_accepts p w name (open_accepts kinds)) c is) in
    let at = queue_of_accept-stands p w name (form_of p one.0) c one.1 in
    chosen-queued p w c at.0 at.1 good at.2 d there)))

pub selective_accept-acts : (p : Image) (name : Who) (s : StatementNo) (alternatives : List SelectAlternative) (otherwise : Option StatementNo)
    → Acts p name (selective_accept p name s alternatives otherwise)
unfolding selective_accept
selective_accept-acts p name s alternatives otherwise =
    record {
      from = λ w good awake drawn.
          let q = seen_by p w name in
          looks_at-onward
          (λ v. raise_if name (in_protected v name) exception.Program
          (given of_part.Own name (open_alternatives (seen_by p v name) alternatives)
          (λ kinds. given of_part.Own name (open_delays (seen_by p v name) kinds) (select_open p name s otherwise kinds)))) w
          (raise_if-onward name (in_protected w name) exception.Program _ w good
          (given-onward name (open_alternatives q alternatives) _ w good
          (λ kinds. given-onward name (open_delays q kinds) _ w good (λ moments. select_open-onward p name s otherwise kinds moments w good awake))));
    }

-- ---- a call that was sent on arrives

gone_sent-from : {E : Kind} (p : Image) (c : Call) (w : World) → Good p w → Directed c w → Idle c.number w → MayEnd E c.number → AllAwake E w
    → ((x : CallNo) → E.stay x ≡ false) → From E w (gone_sent p c)
unfolding gone_sent
gone_sent-from {E = E} p c w good directed idle may awake loose =
    let u = unqueued p c w in
    let calm : Calm E w u = unqueued-calm p c w in
    gone_then-from p TheFinish c _ w
    (deliver-from p TheFinish c.number (call_ended.ToRaise exception.Tasking) u (calm-good p w u good calm) may (unqueued-out p c w good directed)
    (calm-idle w u calm c.number idle) (all_awake-on E w u calm awake) loose)

pub accepting-awake : (p : Image) (e : EntryNo) (a : Who) (w : World) (s : StatementNo) → accept_for p e (waiting_of w a) ≡ Some s → Awake a w
unfolding Awake
accepting-awake p e a w s is c d waits there = clash (sym is ∙ ap (accept_for p e) waits) where
  clash : Some s ≡ None → ⊥
  clash k = cc

meet_sent-onward : (p : Image) (t : TaskNo) (c : Call) (s : Option StatementNo) (w : World) → Good p w → Directed c w → Idle c.number w → Out c.number w
    → c.number.0 ≤ w.drawn.calls → ((d : Call) → call_of w c.number ≡ Some d → is_none d.outcome ≡ true)
    → ((x : StatementNo) → s ≡ Some x → Awake (who.Task t) w) → Onward p w (meet_sent p t c s)
unfolding meet_sent
meet_sent-onward p t c (Some s) w good directed idle out low none awake =
    meet-onward p TheFinish (who.Task t) s c (begin_abortable p c.number) _ w good directed idle low none (awake s refl)
    (λ v next. calm-onward {E = quiet_kind} _ v next.good (calms-from _ v (begin_abortable-calms p c.number)))
    (λ v next out_v idle_v. calm-onward {E = any_kind} _ v next.good
    (deliver-from p TheFinish c.number (call_ended.ToRaise exception.Storage) v next.good refl out_v idle_v (no-steady v) (λ x. refl)))
meet_sent-onward p t c None w good directed idle out low none awake =
    enqueue_then-onward p c.number _ w good out idle none
    (λ v next queued idle_v directed_v frames.
    calm-onward {E = any_kind} _ v next.good (sent_not_begun-from p c.number v next.good idle_v refl (no-steady v) (λ x. refl)))

arrive_at-onward : (p : Image) (t : TaskNo) (c : Call) (test : Bool) (w : World) → Good p w → Directed c w → Idle c.number w → Out c.number w
    → c.number.0 ≤ w.drawn.calls → ((d : Call) → call_of w c.number ≡ Some d → is_none d.outcome ≡ true) → Onward p w (arrive_at p t c test)
unfolding arrive_at
arrive_at-onward p t c false w good directed idle out low none =
    calm-onward {E = any_kind} _ w good (gone_sent-from p c w good directed idle refl (no-steady w) (λ x. refl))
arrive_at-onward p t c true w good directed idle out low none =
    looks_at-onward (λ v. meet_sent p t c (accept_for p c.entry (waiting_of v (who.Task t)))) w
    (meet_sent-onward p t c (accept_for p c.entry (waiting_of w (who.Task t))) w good directed idle out low none
    (λ x e. accepting-awake p c.entry (who.Task t) w x e))

arrive-onward : (p : Image) (c : Call) (o : Owner) (w : World) → Good p w → Directed c w → Idle c.number w → Out c.number w → c.number.0 ≤ w.drawn.calls
    → ((d : Call) → call_of w c.number ≡ Some d → is_none d.outcome ≡ true) → Onward p w (arrive p c o)
unfolding arrive
arrive-onward p c (owned_by.Task t) w good directed idle out low none =
    looks_at-onward (λ v. arrive_at p t c (is_callable v t)) w (arrive_at-onward p t c (is_callable w t) w good directed idle out low none)
arrive-onward p c (owned_by.Object o) w good directed idle out low none =
    calm-onward {E = any_kind} _ w good (gone_sent-from p c w good directed idle refl (no-steady w) (λ x. refl))

-- ---- the end of an accept

deliver_any-onward : (p : Image) (part : Part) (c : CallNo) (outcome : Outcome) (w : World) → Good p w → Out c w → Idle c w
    → Onward p w (deliver p part c outcome)
deliver_any-onward p part c outcome w good out idle =
    calm-onward {E = any_kind} _ w good (deliver-from p part c outcome w good refl out idle (no-steady w) (λ x. refl))

finish_accept-onward : (p : Image) (name : Who) (c : Call) (sending : Option Sending) (w : World) → Good p w → Out c.number w → Idle c.number w
    → ((d : Call) → call_of w c.number ≡ Some d → is_none d.outcome ≡ true) → Onward p w (finish_accept p name c sending)
unfolding finish_accept
finish_accept-onward p name c None w good out idle none =
    said_then-onward TheFinish (line.Finish name c.number meeting.Ok) _ w (deliver_any-onward p TheFinish c.number call_ended.Finished w good out idle)
finish_accept-onward p name c (Some s) w good out idle none =
    let u = edit_call c.number (sent_call s) w in
    let calm : Calm any_kind w u = sent-calm c.number s w out in
    let good_u = calm-good p w u good calm in
    said_then-onward TheFinish (line.Finish name c.number meeting.Requeue) _ w
    (send_on_then-onward c.number s _ w good out
    (with_call-onward c.number (λ d. arrive p d d.owner) u good_u (λ d is.
    let number = found-number c.number u d is in
    arrive-onward p d d.owner u good_u (found-directed c.number u d is) (subst (λ n. Idle n u) (sym number) (calm-idle w u calm c.number idle))
    (subst (λ n. Out n u) (sym number) (calm-out w u calm c.number out)) (good_u.known d.number d (subst (λ n. call_of u n ≡ Some d) (sym number) is))
    (λ x e. sent-none c.number s w none x (subst (λ n. call_of u n ≡ Some x) number e)))))

finish_rendezvous-onward : (p : Image) (name : Who) (c : Call) (leaving : Leaving) (w : World) → Good p w → Out c.number w → Idle c.number w
    → ((d : Call) → call_of w c.number ≡ Some d → is_none d.outcome ≡ true) → Onward p w (finish_rendezvous p name c leaving)
unfolding finish_rendezvous
finish_rendezvous-onward p name c (how.Exception e) w good out idle none =
    said_then-onward TheFinish (line.Finish name c.number (meeting.Raised e)) _ w
    (deliver_any-onward p TheFinish c.number (call_ended.ToRaise e) w good out idle)
finish_rendezvous-onward p name c how.Abort w good out idle none =
    said_then-onward TheFinish (line.Gone c.caller c.number) _ w
    (deliver_any-onward p TheFinish c.number (call_ended.ToRaise exception.Tasking) w good out idle)
finish_rendezvous-onward p name c how.End w good out idle none = finish_accept-onward p name c c.sending w good out idle none
finish_rendezvous-onward p name c how.Return w good out idle none = finish_accept-onward p name c c.sending w good out idle none
finish_rendezvous-onward p name c (how.Exit loop) w good out idle none = finish_accept-onward p name c c.sending w good out idle none
finish_rendezvous-onward p name c how.Terminate w good out idle none = finish_accept-onward p name c c.sending w good out idle none

behind_accept-keeps : {E : Kind} (p : Image) (name : Who) (leaving : Leaving) → Keeps E name (behind_accept p name leaving)
unfolding behind_accept
behind_accept-keeps p name how.End = nothing-keeps
behind_accept-keeps p name how.Return = nothing-keeps
behind_accept-keeps p name (how.Exit loop) = pass_on-keeps p name (how.Exit loop)
behind_accept-keeps p name (how.Exception e) = pass_on-keeps p name (how.Exception e)
behind_accept-keeps p name how.Abort = pass_on-keeps p name how.Abort
behind_accept-keeps p name how.Terminate = pass_on-keeps p name how.Terminate

pub finished-same : (p : Image) (cells : List Value) (leaving : Leaving) → Same (finished_call p cells leaving)
finished-same p cells how.Return = record {
  number = λ d. refl;
  owner = λ d. refl;
  entry = λ d. refl;
  caller = λ d. refl;
  begun = λ d. refl;
  outcome = λ d. refl;
  firm = λ d. refl;
}
finished-same p cells how.End = record {
  number = λ d. refl;
  owner = λ d. refl;
  entry = λ d. refl;
  caller = λ d. refl;
  begun = λ d. refl;
  outcome = λ d. refl;
  firm = λ d. refl;
}
finished-same p cells (how.Exit loop) = record {
  number = λ d. refl;
  owner = λ d. refl;
  entry = λ d. refl;
  caller = λ d. refl;
  begun = λ d. refl;
  outcome = λ d. refl;
  firm = λ d. refl;
}
finished-same p cells (how.Exception e) = record {
  number = λ d. refl;
  owner = λ d. refl;
  entry = λ d. refl;
  caller = λ d. refl;
  begun = λ d. refl;
  outcome = λ d. refl;
  firm = λ d. refl;
}
finished-same p cells how.Abort = record {
  number = λ d. refl;
  owner = λ d. refl;
  entry = λ d. refl;
  caller = λ d. refl;
  begun = λ d. refl;
  outcome = λ d. refl;
  firm = λ d. refl;
}
finished-same p cells how.Terminate = record {
  number = λ d. refl;
  owner = λ d. refl;
  entry = λ d. refl;
  caller = λ d. refl;
  begun = λ d. refl;
  outcome = λ d. refl;
  firm = λ d. refl;
}

module _ (p : Image) (name : Who) (m : AcceptMark) (leaving : Leaving) (w : World) (f : Frame) (below : List Frame) (good : Good p w) (awake : Awake name w)
    (top : frames_of w name ≡ f ∷ below) (mark : f.mark ≡ InAccept m) where
  below-none : served_in m.call (natures below) ≡ 0
  below-none =
      let here : service f.mark ≡ Some m.call = ap service mark in
      let one : one_if (is_the same_call (service f.mark) m.call) ≡ 1 =
      ap (λ x. one_if (is_the same_call x m.call)) here ∙ ap one_if (eq-eqb m.call.0 m.call.0 refl) in
      let once : served_in m.call (natures (f ∷ below)) ≤ 1 = subst (λ fs. served_in m.call (natures fs) ≤ 1) top (good.once name m.call) in
      omega (arith, one, once)

  served-now : 0 < served m.call w name
  served-now =
      let here : service f.mark ≡ Some m.call = ap service mark in
      let one : one_if (is_the same_call (service f.mark) m.call) ≡ 1 =
      ap (λ x. one_if (is_the same_call x m.call)) here ∙ ap one_if (eq-eqb m.call.0 m.call.0 refl) in
      subst (λ fs. 0 < served_in m.call (natures fs)) (sym top) (omega (arith, one))

  popped-named : (n : Who) → n ≡ name → served m.call (pop name w) n ≡ 0
  popped-named (who.Task t) is =
      edits_of.edited_to (λ u. u ≡ task_of w (who.Task t)) (λ u. served_in m.call (natures u.frames) ≡ 0) (who.Task t) name
      (λ u. with_frames (rest_of u.frames) u) w (λ u. refl)
      (λ same u e. subst (λ fs. served_in m.call (natures (rest_of fs)) ≡ 0) (sym (ap (λ (x : Task). x.frames) e ∙ (ap (frames_of w) is ∙ top))) below-none)
      (λ apart u e. absurd (true≢false (sym (subst (λ x. same_who (who.Task t) x ≡ true) is (eq-eqb t.0 t.0 refl)) ∙ apart))) (λ e. refl) refl
  popped-named who.Agent is =
      subst (λ x. served m.call (pop x w) who.Agent ≡ 0) is
      (subst (λ fs. served_in m.call (natures (rest_of fs)) ≡ 0) (sym (ap (frames_of w) is ∙ top)) below-none)

  popped-idle : (calm : Calm any_kind w (pop name w)) → Idle m.call (pop name w)
  popped-idle calm a = none-of (served m.call (pop name w) a) refl where
    none-of : (n : ℕ) → served m.call (pop name w) a ≡ n → n ≡ 0
    none-of zero e = refl
    none-of (suc n) e =
        let few : served m.call (pop name w) a ≤ served m.call w a = calm.fewer a m.call in
        let same : a ≡ name = good.alone a name m.call (omega (arith, e, few)) served-now in
        let zero_there : served m.call (pop name w) a ≡ 0 = popped-named a same in
        absurd (omega (arith, e, zero_there))

  top-first : top_of w name ≡ Some f
  top-first = ap first_of top

  pub end_in_accept-onward : Onward p w (end_in_accept p name m leaving)
  unfolding end_in_accept
  end_in_accept-onward =
      let out : Calm any_kind w (pop name w) = popped name f w refl awake top-first (ap part_of mark) in
      let u = pop name w in
      let good_u = calm-good p w u good out in
      let v = end_scope m.within u in
      let second : Calm any_kind u v = end_scope-calm m.within u good_u.objects in
      let good_v = calm-good p u v good_u second in
      let edit = finished_call p (cells_of (scope_in_use w m.within)) leaving in
      let z = edit_call m.call edit v in
      let third : Calm any_kind v z = (edit_call-quiets m.call edit (finished-same p (cells_of (scope_in_use w m.within)) leaving)).at v in
      let good_z = calm-good p v z good_v third in
      let idle = calm-idle v z third m.call (calm-idle u v second m.call (popped-idle out)) in
      let whole : Calm any_kind w z = calm-then w u z out (calm-then u v z second third) in
      then-onward (looks
      (λ x. changes (pop name) ▷ changes (end_scope m.within) ▷ changes (edit_call m.call (finished_call p (cells_of (scope_in_use x m.within)) leaving))
      ▷ with_call m.call (λ c. finish_rendezvous p name c leaving))) _ w
      (looks_at-onward
      (λ x. changes (pop name) ▷ changes (end_scope m.within) ▷ changes (edit_call m.call (finished_call p (cells_of (scope_in_use x m.within)) leaving))
      ▷ with_call m.call (λ c. finish_rendezvous p name c leaving)) w
      (changes_then-onward (pop name) _ w (calm-next p w u good out)
      (changes_then-onward (end_scope m.within) _ u (calm-next p u v good_u second)
      (changes_then-onward (edit_call m.call edit) _ v (calm-next p v z good_v third)
      (with_call-onward m.call _ z good_z (λ d is.
      let number = found-number m.call z d is in
      let steady = known-of (call_of v m.call) refl d is in
      let out_z = calm-out w z whole m.call (begun-out p w m.call steady.0 good steady.1 (good.begun name m.call steady.0 served-now steady.1).0) in
      finish_rendezvous-onward p name d leaving z good_z (subst (λ n. Out n z) (sym number) out_z) (subst (λ n. Idle n z) (sym number) idle)
      (λ y e. let y_is : d ≡ y = one-call d y (sym is ∙ subst (λ n. call_of z n ≡ Some y) number e) in
      ap (λ (k : Call). is_none k.outcome) (sym y_is) ∙ (ap is_none steady.2 ∙ (good.begun name m.call steady.0 served-now steady.1).1))))))))
      (λ a next. calm-onward {E = quiet_kind} _ a next.good
      (keeps-from _ a (next.awake name awake)
      (then-keeps _ _ (any-keeps _ (lose_running-calms p name (inherited_by.Rendezvous m.call))) (behind_accept-keeps p name leaving)))) where
        one-call : (a b : Call) → Some a ≡ Some b → a ≡ b
        one-call a b e = cc

        known-of : (found : Option Call) → call_of (end_scope m.within (pop name w)) m.call ≡ found → (d : Call)
            → call_of (edit_call m.call (finished_call p (cells_of (scope_in_use w m.within)) leaving) (end_scope m.within (pop name w))) m.call ≡ Some d
            → (x : Call) × (call_of w m.call ≡ Some x) × (d.outcome ≡ x.outcome)
        known-of None is d e =
            absurd (none-call d
            (sym (edited_call-same m.call _ (end_scope m.within (pop name w)) (finished-same p (cells_of (scope_in_use w m.within)) leaving).number
            ∙ ap (option_map (finished_call p (cells_of (scope_in_use w m.within)) leaving)) is)
            ∙ e)) where
              none-call : (x : Call) → None ≡ Some x → ⊥
              none-call x e = cc
        known-of (Some x) is d e =
            let one =
            one-call (finished_call p (cells_of (scope_in_use w m.within)) leaving x) d
            (sym (edited_call-same m.call _ (end_scope m.within (pop name w)) (finished-same p (cells_of (scope_in_use w m.within)) leaving).number
            ∙ ap (option_map (finished_call p (cells_of (scope_in_use w m.within)) leaving)) is)
            ∙ e) in (
              x,
              ap (λ ds. find (is_call m.call) ds) (sym (edit_task-calls name _ w)) ∙ is,
              ap (λ (k : Call). k.outcome) (sym one) ∙ (finished-same p (cells_of (scope_in_use w m.within)) leaving).outcome x,
            )
