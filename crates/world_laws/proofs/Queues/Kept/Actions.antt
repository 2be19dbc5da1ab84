-- Protected actions: they begin, serve calls and end (9.5.1, 9.5.3).
use Rattle.std.proofs.Common.{filter}
use Rattle.profile_machine.specs.declared.world.calls.Owner.TheVariants as owned_by
use Rattle.profile_machine.specs.declared.world.lines.Part.TheVariants.{TheFinish}
use Rattle.std.proofs.Common.{inl, option_map, ◌<◌}
use Rattle.line_laws.proofs.Exits.TaskEdits as edits_of
use Rattle.std.proofs.Common.{not, ◌&&◌}
use Rattle.profile_machine.specs.declared.world.marks.Purpose.TheVariants as opened_for
use Rattle.std.proofs.Common.{is_none, eqb, ◌||◌, ◌+◌}
use Rattle.std.proofs.lemmas.Bool.{eq-eqb, true≢false}
use Rattle.profile_machine.specs.declared.world.lines.Part.TheVariants as of_part
use Rattle.std.proofs.Common.{cond, arith, ◌∙◌, ◌≤◌}
use Rattle.std.specs.Prelude.{ℕ, List, [], ◌∷◌, Option, Some, None, true, false, zero, suc, Bool, length}
use Rattle.ann_base.specs.declared.identities.ObjectNo.{ObjectNo}
use Rattle.ann_base.specs.declared.identities.CallNo.{CallNo}
use Rattle.profile_machine.specs.declared.world.objects.Entering.{Entering}
use Rattle.profile_machine.specs.declared.world.scopes.Handed.{Handed}
use Rattle.trace_text.specs.declared.events.Mode.{Mode}
use Rattle.trace_text.specs.declared.events.Who.{Who}
use Rattle.profile_image.specs.declared.image.Image.{Image}
use Rattle.profile_image.specs.declared.numbers.DeclNo.{DeclNo}
use Rattle.profile_image.specs.declared.numbers.StatementNo.{StatementNo}
use Rattle.profile_image.specs.declared.numbers.SubprogramNo.{SubprogramNo}
use Rattle.profile_image.specs.declared.statements.Actual.{Actual}
use Rattle.profile_image.specs.declared.statements.Destination.{Destination}
use Rattle.profile_machine.specs.declared.world.marks.ResultTo.{ResultTo}
use Rattle.profile_machine.specs.declared.world.marks.ProtectedMark.{ProtectedMark}
use Rattle.profile_machine.specs.declared.world.calls.Call.{Call}
use Rattle.profile_machine.specs.declared.world.lines.Part.{Part}
use Rattle.profile_machine.specs.declared.world.World.{World}
use Rattle.profile_machine.specs.declared.world.lines.Part.TheVariants.{ThePlacing, TheBlock}
use Rattle.profile_image.specs.Program.{next_of, subprogram_of}
use Rattle.profile_machine.specs.Tasks.{with_frames}
use Rattle.profile_machine.specs.Dispatching.{block}
use Rattle.profile_machine.specs.Frames.{new_frame, edit_first, edit_top, push, with_mark, pop}
use Rattle.profile_machine.specs.Values.{object_of}
use Rattle.profile_machine.specs.Inheritance.{inherit_running, lose_running}
use Rattle.profile_machine.specs.Steps.{Step, says, changes, looks, ◌▷◌, when, nothing}
use Rattle.std.proofs.Common.{◌≡◌, refl, ap, sym, subst}
use Rattle.profile_machine.specs.Protected.{entering, ceiling_of, new_protected_mark, mode_of, find_held, enter_or, where_let_inside, open_action}
use Rattle.profile_machine.specs.Protected.{begin_action_on, begin_operation, call_operation_of, call_operation, begin_own_operation, call_own_operation}
use Rattle.profile_machine.specs.Protected.{edit_top_protected, begin_call, body_opens, has_room_for_body, serve_call, edit_protected, served_next}
use Rattle.profile_machine.specs.declared.world.marks.Mark.{Mark}
use Rattle.profile_machine.specs.declared.world.marks.Mark.TheVariants.{Scope, Handled, InProtected, InAccept, Abortable, InInitialize, InFinalize, InAssign}
use Rattle.ann_base.specs.declared.exceptions.Raised.{Raised}
use Rattle.trace_text.specs.declared.events.Mode.TheVariants.{Read, Write}
use Rattle.profile_machine.specs.declared.run_data.Leaving.{Leaving}
use Rattle.profile_machine.specs.declared.world.calls.Outcome.{Outcome}
use Rattle.profile_machine.specs.declared.world.calls.Sending.{Sending}
use Rattle.profile_machine.specs.Priorities.{set_deferred}
use Rattle.ann_base.specs.Lists.{is_empty}
use Rattle.profile_machine.specs.Serving.{serves_nothing, is_served_now, serve_ends, end_release, close_action, wait_or_unwind}
use Rattle.profile_machine.specs.Serving.{wait_for_own, resume_own, behind_action, release_object, settle_sent, begins_part, chosen_is_sent}
use Rattle.profile_machine.specs.Serving.{serve_chosen, serve_next, serve_calls, go_on_by_mode, end_operation, finish_raised, finish_well}
use Rattle.profile_machine.specs.Serving.{finish_call, end_entry_body, end_in_protected_by, end_in_protected, part_of_start}
use Rattle.ann_base.specs.declared.exceptions.Raised.TheVariants as exception
use Rattle.profile_machine.specs.declared.world.objects.Entering.TheVariants as entering_is
use Rattle.profile_machine.specs.declared.world.lines.Line.TheVariants as line
use Rattle.profile_machine.specs.declared.world.lines.MeetingEnd.TheVariants as meeting
use Rattle.profile_machine.specs.declared.world.tasks.Cause.TheVariants as inherited_by
use Rattle.profile_machine.specs.declared.run_data.Leaving.TheVariants as how
use Rattle.profile_machine.specs.declared.world.calls.Outcome.TheVariants as call_ended
use Rattle.profile_machine.specs.declared.world.tasks.Waiting.TheVariants as waits_for
use Rattle.trace_text.specs.declared.events.Who.TheVariants as who
use Rattle.profile_machine.specs.Act.{call}
use Rattle.profile_machine.specs.Calls.{call_of, forget_call, unqueued}
use Rattle.profile_machine.specs.Frames.{frames_of, leaves}
use Rattle.profile_machine.specs.Handlers.{release}
use Rattle.profile_machine.specs.Notation.{p, t}
use Rattle.profile_machine.specs.Protected.{body_scope_of, is_action_of, unit_of_operation}
use Rattle.profile_machine.specs.Sending.{open_abortable, wait_for_call}
use Rattle.profile_machine.specs.Serving.{may_open_abortable}
use Rattle.profile_machine.specs.Unwinding.{may_unwind}
use Rattle.profile_machine.specs.Values.{own_object}
use Rattle.profile_image.specs.Words.{is_the, same_call, same_who, without}
use Rattle.profile_machine.specs.declared.world.marks.Frame.{Frame}
use Rattle.profile_machine.specs.CallEnds.{deliver}
use Rattle.profile_machine.specs.Calls.{is_call, parameters_of, place_of_entry}
use Rattle.profile_machine.specs.Priorities.{is_queued}
use Rattle.profile_image.specs.Program.{protected_unit_of}
use Rattle.profile_machine.specs.Protected.{begun_call, body_of_object, is_open_entry, open_queues}
use Rattle.profile_machine.specs.Steps.{settled}
use Rattle.profile_machine.specs.Subprograms.{handed, result_to}
use Rattle.profile_machine.specs.Values.{queue_at, queues_of}
use Rattle.profile_machine.specs.WellFormed.{same_owner}
use Rattle.profile_image.specs.Words.{edit_where, has}
use Rattle.profile_machine.specs.declared.world.calls.Owner.{Owner}
use Rattle.profile_machine.specs.declared.world.objects.Object.{Object}
use Rattle.profile_machine.specs.Act.{below}
use Rattle.profile_machine.specs.Calls.{edit_call}
use Rattle.profile_machine.specs.Sending.{sent_call, sent_not_begun}
use Rattle.profile_machine.specs.Serving.{is_own_call, no_longer_serves, not_left, outcome_by, with_body_left}
use Rattle.profile_machine.specs.Tasks.{task_of}
use Rattle.profile_machine.specs.declared.world.tasks.Task.{Task}
use Rattle.profile_machine.specs.Values.{object_number}
use Rattle.world_laws.proofs.Queues.CallChanges.{Directed, edited_call-same, forget_call-calm, stands-calls, unqueued-out}
use Rattle.world_laws.proofs.Queues.Calming.{edit_object-calm, edit_task-calm, same-calm}
use Rattle.world_laws.proofs.Queues.Chosen.{in-mapped, next-in}
use Rattle.world_laws.proofs.Queues.Kept.CallEnds.{attempt_with-from, found-directed, found-number, resume-from}
use Rattle.world_laws.proofs.Queues.Kept.Combinators.{Calms, From, Keeps, Quiets, calms-from, changes-calms, changes-from, changes-keeps}
use Rattle.world_laws.proofs.Queues.Kept.Combinators.{from-keeps, keeps-from, looks-calms, looks-keeps, looks_at-from, nothing-calms, nothing-from}
use Rattle.world_laws.proofs.Queues.Kept.Combinators.{said_then-from, says-calms, sees-keeps, then-after, then-calms, then-keeps, when-calms}
use Rattle.world_laws.proofs.Queues.Kept.Ends.{AllAwake, deliver-from}
use Rattle.world_laws.proofs.Queues.Kept.Frames.{block-calms, edit_top-alters, goes-keeps, inherit_running-calms, leaves-calms, lose_running-calms}
use Rattle.world_laws.proofs.Queues.Kept.Frames.{open_scope-alters, pass_on-keeps, raises-keeps, to_tail-calms, with_room-keeps}
use Rattle.world_laws.proofs.Queues.Kept.Onward.{Acts, Drawn, Onward, any-acts, calm-onward, calm_then-onward, calms-any, changes_then-onward}
use Rattle.world_laws.proofs.Queues.Kept.Onward.{drawn-on, either-onward, given-acts, keeps-acts, looks-acts, looks_at-onward, raise_if-acts}
use Rattle.world_laws.proofs.Queues.Kept.Onward.{said_then-onward, sees-acts, then-onward, with_call-onward, with_room-acts}
use Rattle.world_laws.proofs.Queues.Kept.Queued.{begin_then-onward, begun-calm, begun-of, begun_of, enqueue_then-onward, set_deferred-any}
use Rattle.world_laws.proofs.Queues.Kept.Sending.{begin_abortable-calms, beside_kind, open_abortable-alters}
use Rattle.world_laws.proofs.Queues.Kept.Sending.{send_on_then-onward, sent-calm, sent_not_begun-from, wait_for_call-calms}
use Rattle.world_laws.proofs.Queues.Kept.Subprograms.{begin_body-keeps, handing-keeps}
use Rattle.world_laws.proofs.Queues.Moving.{Begun, Next, Serves, calm-next, next-then, served-next}
use Rattle.world_laws.proofs.Queues.Softening.{Unset, pop-calm, push-calm}
use Rattle.world_laws.proofs.Queues.Standing.{Awake, Calm, Ended, Good, Idle, Kind, Out, Own, Stands, any_kind, awaits_at, awaits_part, calm-awake, calm-good}
use Rattle.world_laws.proofs.Queues.Standing.{calm-idle, calm-out, calm-owns, calm-then, ended-out, ends_by, ends_part, has_own, natures, natures_of, one_if}
use Rattle.world_laws.proofs.Queues.Standing.{own_in, part_of, queued-idle, quiet_kind, served, served_in, service, some_nature, top_waits}
use Rattle.line_laws.proofs.Exits.TaskEdits.{same_who-path}

-- ---- an object is entered

open_action-quiets : {E : Kind} (name : Who) (o : ObjectNo) (mode : Mode) → Quiets E (open_action name o mode)
open_action-quiets name o mode = record {
  at = λ w. edit_object-calm o (λ x. record x { actions = record { who = name; mode = mode } ∷ x.actions }) w (λ x. refl) (λ x k c h. h) (λ x k c h. h);
}

close_action-quiets : {E : Kind} (name : Who) (o : ObjectNo) → Quiets E (close_action name o)
close_action-quiets name o = record {
  at = λ w. edit_object-calm o (λ x. record x { actions = without (is_action_of name) x.actions }) w (λ x. refl) (λ x k c h. h) (λ x k c h. h);
}

pub find_held-calms : {E : Kind} (p : Image) (name : Who) (o : ObjectNo) (mode : Mode) → Calms E (find_held p name o mode)
unfolding find_held
find_held-calms p name o mode = then-calms _ _ (says-calms of_part.Own (line.Held name o mode)) (to_tail-calms p ThePlacing name)

pub enter_or-acts : {q : Image} (p : Image) (name : Who) (o : ObjectNo) (mode : Mode) (step : Step) (is : Entering) → Acts q name step
    → Acts q name (enter_or p name o mode step is)
enter_or-acts p name o mode step entering_is.SameObject kept = keeps-acts _ (raises-keeps of_part.Own name exception.Program)
enter_or-acts p name o mode step entering_is.AboveCeiling kept = keeps-acts _ (raises-keeps of_part.Own name exception.Program)
enter_or-acts p name o mode step entering_is.Held kept = any-acts _ (calms-any _ (find_held-calms p name o mode))
enter_or-acts p name o mode step entering_is.Inside kept = kept

pub where_let_inside-acts : {q : Image} (p : Image) (name : Who) (o : ObjectNo) (mode : Mode) (step : Step) → Acts q name step
    → Acts q name (where_let_inside p name o mode step)
where_let_inside-acts p name o mode step kept = looks-acts _ (λ w. enter_or-acts p name o mode step (entering p w name o mode) kept)

-- an action begins, of a call of one's own if of one
pub begin_action_on-from : {E : Kind} (p : Image) (name : Who) (o : ObjectNo) (mode : Mode) (call : Option CallNo) (release : Option ℕ) (w : World)
    → Awake name w → ((c : CallNo) → is_the same_call call c ≡ true → Own name c w) → From E w (begin_action_on p name o mode call release)
unfolding begin_action_on
begin_action_on-from p name o mode call release w awake own =
    said_then-from of_part.Own (line.Enter name o mode) _ w
    (then-after (changes (open_action name o mode)) _ w (changes-from (open_action name o mode) w ((open_action-quiets name o mode).at w)) (λ v calm.
    then-after (looks (λ u. inherit_running p name (inherited_by.Ceiling o) (ceiling_of (object_of u o)))) _ v
    (calms-from _ v
    (looks-calms (λ u. inherit_running p name (inherited_by.Ceiling o) (ceiling_of (object_of u o)))
    (λ u. inherit_running-calms p name (inherited_by.Ceiling o) (ceiling_of (object_of u o)))))
    (λ u later.
    changes-from (push name (new_frame (new_protected_mark o mode call release) None)) u
    (push-calm name (new_frame (new_protected_mark o mode call release) None) u
    record { serves = λ c. refl; own = λ c h. calm-owns v u later name c (calm-owns w v calm name c (own c h)); begun = λ c. refl; tops = λ is. refl }
    (calm-awake v u later name (calm-awake w v calm name awake))))))

pub begin_action_on-keeps : {E : Kind} (p : Image) (name : Who) (o : ObjectNo) (mode : Mode) (release : Option ℕ)
    → Keeps E name (begin_action_on p name o mode None release)
begin_action_on-keeps p name o mode release = from-keeps _ (λ w good. begin_action_on-from p name o mode None release w good (λ c h. cc))

begin_operation-keeps : {E : Kind} (p : Image) (name : Who) (s : StatementNo) (f : SubprogramNo) (o : ObjectNo) (h : Handed) (to : ResultTo)
    → Keeps E name (begin_operation p name s f o h to)
unfolding begin_operation
begin_operation-keeps p name s f o h to =
    then-keeps _ _ (goes-keeps name (next_of p s)) (then-keeps _ _ (begin_action_on-keeps p name o (mode_of (subprogram_of p f)) None)
    (looks-keeps _
    (λ w. changes-keeps _
    (open_scope-alters p name (subprogram_of p f).scope (body_of_object p w (subprogram_of p f).scope o h.subject h.values)
    (opened_for.Subprogram h.back to)))))

pub call_operation_of-acts : {q : Image} (p : Image) (name : Who) (s : StatementNo) (f : SubprogramNo) (actuals : List Actual) (to : Destination) (o : ObjectNo)
    → Acts q name (call_operation_of p name s f actuals to o)
unfolding call_operation_of
call_operation_of-acts p name s f actuals to o =
    looks-acts _ (λ w. raise_if-acts name _ exception.Program _ (with_room-acts name _ _ _
    (sees-acts p name _
    (λ q. given-acts of_part.Own name (result_to q to) _
    (λ r. given-acts of_part.Own name (handed q 0 (subprogram_of p f).formals actuals) _
    (λ h. where_let_inside-acts p name o (mode_of (subprogram_of p f)) (begin_operation p name s f o h r)
    (keeps-acts (begin_operation p name s f o h r) (begin_operation-keeps p name s f o h r))))))))

pub call_operation-acts : {q : Image} (p : Image) (name : Who) (s : StatementNo) (d : DeclNo) (f : SubprogramNo) (actuals : List Actual) (to : Destination)
    → Acts q name (call_operation p name s d f actuals to)
unfolding call_operation
call_operation-acts p name s d f actuals to =
    sees-acts p name _ (λ q. given-acts of_part.Own name (object_number q d) _ (λ o. call_operation_of-acts p name s f actuals to o))

begin_own_operation-keeps : {E : Kind} (p : Image) (name : Who) (s : StatementNo) (f : SubprogramNo) (o : Option ObjectNo) (h : Handed) (to : ResultTo)
    → Keeps E name (begin_own_operation p name s f o h to)
unfolding begin_own_operation
begin_own_operation-keeps p name s f None h to = raises-keeps of_part.Own name exception.Program
begin_own_operation-keeps p name s f (Some o) h to = looks-keeps _ (λ w. begin_body-keeps p name s f _ h to)

pub call_own_operation-keeps : {E : Kind} (p : Image) (name : Who) (s : StatementNo) (f : SubprogramNo) (actuals : List Actual) (to : Destination)
    → Keeps E name (call_own_operation p name s f actuals to)
unfolding call_own_operation
call_own_operation-keeps p name s f actuals to =
    with_room-keeps name _ _ _
    (handing-keeps p name f actuals to _
    (λ h r. sees-keeps p name _ (λ q. begin_own_operation-keeps p name s f (own_object q (unit_of_operation (subprogram_of p f))) h r)))

-- ---- the body of an entry opens for a call that has begun

served-first : (c : CallNo) (fs : List Frame) → Serves c fs (edit_first (λ x. with_mark (edit_protected (λ m. record m { serves = Some c }) x.mark) x) fs)
served-first c [] = record { owns = λ x h. h; ended = λ x h. h; awaits = λ d h. h; few = λ x. omega arith }
served-first c (x ∷ xs) = record {
  owns = λ y h. ap (λ o. is_the same_call o y || some_nature (has_own y) (natures xs)) (sym (own-same x.mark)) ∙ h;
  ended = λ y h. ap (λ o. ends_part y o || some_nature (ends_by y) (natures xs)) (sym (part-same x.mark)) ∙ h;
  awaits = λ d h. ap (λ o. cond (eqb (length (natures xs)) d) (awaits_part o) (awaits_at d (natures xs))) (part-same x.mark) ∙ h;
  few = λ y. few-of y x.mark;
} where
  own-same : (mark : Mark) → own_in (edit_protected (λ m. record m { serves = Some c }) mark) ≡ own_in mark
  own-same (Scope m) = refl
  own-same (Handled s) = refl
  own-same (InProtected m) = refl
  own-same (InAccept m) = refl
  own-same (Abortable m) = refl
  own-same (InInitialize l) = refl
  own-same (InFinalize o) = refl
  own-same (InAssign m) = refl

  part-same : (mark : Mark) → part_of (edit_protected (λ m. record m { serves = Some c }) mark) ≡ part_of mark
  part-same (Scope m) = refl
  part-same (Handled s) = refl
  part-same (InProtected m) = refl
  part-same (InAccept m) = refl
  part-same (Abortable m) = refl
  part-same (InInitialize l) = refl
  part-same (InFinalize o) = refl
  part-same (InAssign m) = refl

  few-of : (y : CallNo) (mark : Mark)
      → one_if (is_the same_call (service (edit_protected (λ m. record m { serves = Some c }) mark)) y) + served_in y (natures xs)
      ≤ one_if (same_call c y) + (one_if (is_the same_call (service mark) y) + served_in y (natures xs))
  few-of y (Scope m) = omega arith
  few-of y (Handled s) = omega arith
  few-of y (InProtected m) = omega arith
  few-of y (InAccept m) = omega arith
  few-of y (Abortable m) = omega arith
  few-of y (InInitialize l) = omega arith
  few-of y (InFinalize o) = omega arith
  few-of y (InAssign m) = omega arith

body_opens-onward : (p : Image) (name : Who) (o : ObjectNo) (c : Call) (w : World) → Good p w → Awake name w → Begun c.number w
    → Onward p w (body_opens p name o c)
unfolding body_opens
body_opens-onward p name o c w good awake begun =
    let next =
    served-next p name (edit_first (λ x. with_mark (edit_protected (λ m. record m { serves = Some c.number }) x.mark) x)) c.number w good begun awake
    (served-first c.number (frames_of w name)) in
    changes_then-onward (edit_top_protected name (λ m. record m { serves = Some c.number })) _ w next
    (calm-onward {E = quiet_kind} _ _ next.good
    (keeps-from _ _ (next.awake name awake)
    (looks-keeps _
    (λ v. changes-keeps _
    (open_scope-alters p name (body_scope_of p c.entry) (body_of_object p v (body_scope_of p c.entry) o None (parameters_of p c))
    (opened_for.EntryBody c.number))))))

-- a call that is there and not served, nor has ended, is served, or ends without room
pub serve_call-onward : (p : Image) (part : Part) (name : Who) (o : ObjectNo) (c : Call) (then_ otherwise : Step) (w : World) → Good p w → Awake name w
    → Directed c w → Idle c.number w → c.number.0 ≤ w.drawn.calls → ((d : Call) → call_of w c.number ≡ Some d → is_none d.outcome ≡ true)
    → ((v : World) → Next p w v → Onward p v then_) → (Good p (begun_of p c w) → Onward p (begun_of p c w) otherwise)
    → Onward p w (serve_call p part name o c then_ otherwise)
serve_call-onward p part name o c then_ otherwise w good awake directed idle low none k l =
    looks_at-onward
    (λ v. begin_call p part name c
    ▷ elim (has_room_for_body p v name c.entry) as (λ _. Step) [
      | true ↦ body_opens p name o c ▷ then_
      | false ↦ says part (line.Finish name c.number (meeting.Raised exception.Storage)) ▷ otherwise
    ]) w
    (begin_then-onward p part name c _ w good directed idle (λ good_then.
    let calm : Calm any_kind w (begun_of p c w) = begun-calm p c w refl good directed idle in
    let first = calm-next p w (begun_of p c w) good calm in
    either-onward (has_room_for_body p w name c.entry) _ _ (begun_of p c w)
    (then-onward (body_opens p name o c) then_ (begun_of p c w)
    (body_opens-onward p name o c (begun_of p c w) good_then (calm-awake w (begun_of p c w) calm name awake) (begun-of p c w good directed idle low none))
    (λ v next. k v (next-then p w (begun_of p c w) v first next)))
    (said_then-onward part (line.Finish name c.number (meeting.Raised exception.Storage)) otherwise (begun_of p c w) (l good_then))))

-- ---- who acts in a protected action: no abortable part that waits for a moment is on top, and its own call is its own

pub record Inside (p : Image) (name : Who) (m : ProtectedMark) (w : World) : Type 0 where
  pub good : Good p w
  pub awake : Awake name w
  pub drawn : Drawn name w
  pub top : top_waits (natures_of w name) ≡ false
  pub own : (c : CallNo) → m.own_call ≡ Some c → Own name c w

pub inside-calm : {E : Kind} (p : Image) (name : Who) (m : ProtectedMark) (w v : World) → E.steady name ≡ true → Inside p name m w → Calm E w v
    → Inside p name m v
inside-calm p name m w v steady inside calm =
    let good = calm-good p w v inside.good calm in
    record {
      good = good;
      awake = calm-awake w v calm name inside.awake;
      drawn = drawn-on p w v name (calm-next p w v inside.good calm) inside.drawn;
      top = calm.tops name steady inside.top;
      own = λ c h. calm-owns w v calm name c (inside.own c h);
    }

inside-next : (p : Image) (name : Who) (m : ProtectedMark) (w v : World) → Inside p name m w → Next p w v → frames_of v name ≡ frames_of w name
    → Inside p name m v
inside-next p name m w v inside next frames = record {
  good = next.good;
  awake = next.awake name inside.awake;
  drawn = drawn-on p w v name next inside.drawn;
  top = ap (λ fs. top_waits (natures fs)) frames ∙ inside.top;
  own = λ c h. next.owns name c (inside.own c h);
}

pub same-self : (a : Who) → same_who a a ≡ true
same-self (who.Task t) = eq-eqb t.0 t.0 refl
same-self who.Agent = refl

-- while this one acts, nothing ends
abbrev pub steady_kind : Who → Kind
steady_kind name = record { may = λ c. false; steady = same_who name; stay = λ x. false }

steady-awake : (name : Who) (c : CallNo) (w : World) → Awake name w → AllAwake (beside_kind name c) w
steady-awake name c w awake a is = subst (λ n. Awake n w) (same_who-path name a is) awake

unset-top : (name : Who) (w : World) (fs : List Frame) → top_waits (natures fs) ≡ false → Unset name w fs
unset-top name w [] h = tt
unset-top name w (f ∷ fs) h = λ n is set awaits. true≢false (sym awaits ∙ h)

top-popped : {E : Kind} (name : Who) (w : World) → E.steady name ≡ false → Awake name w → top_waits (natures_of w name) ≡ false → Calm E w (pop name w)
unfolding Awake
top-popped name w free awake top = pop-calm name w free (unset-top name w (frames_of w name) top) (λ c d is e i. awake c d is e)

-- ---- the release of an object

serve_ends-calms : {E : Kind} (n : ℕ) → Calms E (serve_ends n)
unfolding serve_ends
serve_ends-calms n =
    then-calms _ _ (says-calms of_part.Own (line.Served n))
    (then-calms _ _ (changes-calms serves_nothing record { at = λ w. same-calm w (serves_nothing w) refl refl refl refl refl refl refl refl })
    (looks-calms (λ w. when (is_empty w.releases) (block TheBlock who.Agent waits_for.Release))
    (λ w. when-calms (is_empty w.releases) _ (block-calms TheBlock who.Agent waits_for.Release refl))))

pub end_release-calms : {E : Kind} (n : ℕ) → Calms E (end_release n)
unfolding end_release
end_release-calms n = looks-calms (λ w. when (is_served_now n w.serving) (serve_ends n)) (λ w. when-calms (is_served_now n w.serving) _ (serve_ends-calms n))

-- of a call that was found
module _ (p : Image) (name : Who) (c : Call) (w : World) (good : Good p w) (awake : Awake name w) (is : call_of w c.number ≡ Some c)
    (caller : who.Task c.caller ≡ name) where
  caller-awake : Awake (who.Task c.caller) w
  caller-awake = subst (λ n. Awake n w) (sym caller) awake

  wait_or_unwind-from : (test : Bool) → From quiet_kind w (wait_or_unwind p name c test)
  unfolding wait_or_unwind
  wait_or_unwind-from true =
      attempt_with-from p of_part.Own c (changes (forget_call c.number) ▷ leaves name how.Abort) (wait_for_call c) w good (found-directed c.number w c is)
      (λ good_out out. then-after (changes (forget_call c.number)) _ (unqueued p c w)
      (changes-from (forget_call c.number) (unqueued p c w) (forget_call-calm c.number (unqueued p c w) refl out))
      (λ v calm. calms-from _ v (leaves-calms name how.Abort)))
      (λ v calm. calms-from _ v (wait_for_call-calms c))
  wait_or_unwind-from false = calms-from _ w (wait_for_call-calms c)

  wait_for_own-from : (test : Bool) → From quiet_kind w (wait_for_own p name c test)
  unfolding wait_for_own
  wait_for_own-from true =
      changes-from (open_abortable p (who.Task c.caller) c.statement (Some c.number)) w
      ((open_abortable-alters p (who.Task c.caller) c.statement c.number).at w caller-awake)
  wait_for_own-from false = looks_at-from (λ v. wait_or_unwind p name c (may_unwind (frames_of v name))) w (wait_or_unwind-from (may_unwind (frames_of w name)))

  ended-record : (outcome : Outcome) → c.outcome ≡ Some outcome → Ended c.number w
  ended-record outcome ended =
      (good.known c.number c is, λ d e. let one : c ≡ d = one-call c d (sym is ∙ e) in ap (λ (x : Call). is_none x.outcome) (sym one) ∙ ap is_none ended) where
        one-call : (a b : Call) → Some a ≡ Some b → a ≡ b
        one-call a b e = cc

  resume_own-from : (outcome : Option Outcome) → c.outcome ≡ outcome → From quiet_kind w (resume_own p name c outcome)
  unfolding resume_own
  resume_own-from (Some outcome) ended = resume-from p TheBlock c outcome w refl (ended-out p w c.number good (ended-record outcome ended)) caller-awake
  resume_own-from None ended = looks_at-from (λ v. wait_for_own p name c (may_open_abortable v name c)) w (wait_for_own-from (may_open_abortable w name c))

behind_action-onward : (p : Image) (name : Who) (m : ProtectedMark) (n : Option ℕ) (call : Option CallNo) (w : World) → Good p w → Awake name w
    → ((c : CallNo) → call ≡ Some c → Own name c w) → Onward p w (behind_action p name m n call)
unfolding behind_action
behind_action-onward p name m (Some release) call w good awake own = calm-onward {E = quiet_kind} _ w good (calms-from _ w (end_release-calms release))
behind_action-onward p name m None None w good awake own = calm-onward {E = quiet_kind} _ w good (keeps-from _ w awake (pass_on-keeps p name m.body_left))
behind_action-onward p name m None (Some c) w good awake own =
    with_call-onward c (λ d. resume_own p name d d.outcome) w good (λ d is.
    calm-onward {E = quiet_kind} _ w good
    (resume_own-from p name d w good awake (subst (λ n. call_of w n ≡ Some d) (sym (found-number c w d is)) is) ((own c refl).1 d is) d.outcome refl))

pub release_object-onward : (p : Image) (name : Who) (m : ProtectedMark) (w : World) → Inside p name m w → Onward p w (release_object p name m)
unfolding release_object
release_object-onward p name m w inside =
    let out : Calm any_kind w (pop name w) = top-popped name w refl inside.awake inside.top in
    said_then-onward of_part.Own (line.Exit name m.object) _ w
    (changes_then-onward (pop name) _ w (calm-next p w (pop name w) inside.good out)
    (calm_then-onward {E = any_kind} (changes (close_action name m.object)) _ (pop name w) (calm-good p w (pop name w) inside.good out)
    (changes-from (close_action name m.object) (pop name w) ((close_action-quiets name m.object).at (pop name w))) (λ u calm good.
    let first =
    next-then p w (pop name w) u (calm-next p w (pop name w) inside.good out)
    (calm-next p (pop name w) u (calm-good p w (pop name w) inside.good out) calm) in
    calm_then-onward {E = any_kind} (lose_running p name (inherited_by.Ceiling m.object)) _ u good
    (calms-from _ u (lose_running-calms p name (inherited_by.Ceiling m.object))) (λ v later good_v.
    then-onward (set_deferred p name) _ v ((set_deferred-any p name).from v good_v) (λ z next.
    let whole = next-then p w u z first (next-then p u v z (calm-next p u v good later) next) in
    behind_action-onward p name m m.release m.own_call z next.good (whole.awake name inside.awake) (λ c h. whole.owns name c (inside.own c h)))))))

-- ---- the next call is served, or the object is released

-- the call that is chosen is queued and is served by nobody
pub chosen-queued : (p : Image) (w : World) (c : CallNo) (o : Owner) (k : ℕ) → Good p w → Stands w o k c → (d : Call) → call_of w c ≡ Some d
    → is_queued d ≡ true
chosen-queued p w c o k good h d is = first-of (is_queued d) (same_owner o d.owner) (eqb (place_of_entry p d.entry) k) (good.right o k c d h is) where
  first-of : (a b e : Bool) → (a && b && e) ≡ true → a ≡ true
  first-of true b e x = refl
  first-of false b e x = cc

pub served_next-stands : (p : Image) (w : World) (name : Who) (o : ObjectNo) (c : CallNo) → served_next p w name (object_of w o) ≡ Some c
    → (k : ℕ) × Stands w (owned_by.Object o) k c
served_next-stands p w name o c e = of_found (object_of w o) e where
  of_found : (found : Option Object) → served_next p w name found ≡ Some c → (k : ℕ) × (has same_call (queue_at (queues_of found) k) c ≡ true)
  of_found None e = cc
  of_found (Some x) e =
      let at =
      in-mapped (λ n. queue_at x.queues (place_of_entry p n)) (filter (is_open_entry p w name x) (protected_unit_of p x.unit).entries) c
      (next-in p w (open_queues p w name x (protected_unit_of p x.unit).entries) c e) in
      (place_of_entry p at.0, at.1)

pub outcome-none : (d : Call) → is_queued d ≡ true → is_none d.outcome ≡ true
outcome-none d h = second d.begun (is_none d.outcome) h where
  second : (a b : Bool) → (not a && b) ≡ true → b ≡ true
  second true b e = cc
  second false b e = e

-- what is settled before a turn leaves the chosen call as it was
abbrev pub Settled : Who → CallNo → World → World → Type 0
Settled name c w v = (E : Kind) × (E.may c ≡ false) × (E.steady name ≡ true) × Calm E w v

still-queued : (p : Image) (name : Who) (c : CallNo) (w v : World) → Good p w → Settled name c w v → ((d : Call) → call_of w c ≡ Some d → is_queued d ≡ true)
    → (d : Call) → call_of v c ≡ Some d → is_queued d ≡ true
still-queued p name c w v good settled queued d is =
    let x = settled.3.calls c d is in
    let same = x.steady settled.1 in
    ap (λ b. not b && is_none d.outcome) same.0 ∙ ap (λ o. not x.before.begun && is_none o) same.1 ∙ queued x.before x.found

begins_part-calms : {E : Kind} (p : Image) (test : Bool) (c : CallNo) → Calms E (begins_part p test c)
unfolding begins_part
begins_part-calms p true c = begin_abortable-calms p c
begins_part-calms p false c = nothing-calms

serve_chosen-onward : (p : Image) (name : Who) (m : ProtectedMark) (is_sent : Bool) (again : Step) (w : World) (chosen : Option CallNo) → Inside p name m w
    → ((c : CallNo) → chosen ≡ Some c → (d : Call) → call_of w c ≡ Some d → is_queued d ≡ true)
    → ((v : World) → Inside p name m v → Onward p v again) → Onward p w (serve_chosen p name m is_sent again chosen)
serve_chosen-onward p name m is_sent again w None inside queued k = release_object-onward p name m w inside
serve_chosen-onward p name m is_sent again w (Some c) inside queued k =
    with_call-onward c
    (λ d. serve_call p (part_of_start is_sent) name m.object d (begins_part p is_sent c)
    (deliver p (part_of_start is_sent) c (call_ended.ToRaise exception.Storage) ▷ again)) w inside.good
    (λ d is.
    let number = found-number c w d is in
    let there = subst (λ n. call_of w n ≡ Some d) (sym number) is in
    let directed = found-directed c w d is in
    let idle = queued-idle p w d.number d inside.good there (queued c refl d is) in
    let K = beside_kind name c in
    let calm : Calm K w (begun_of p d w) = begun-calm p d w (subst (λ n. same_call c n ≡ true) (sym number) (eq-eqb c.0 c.0 refl)) inside.good directed idle in
    let inside_then = inside-calm p name m w (begun_of p d w) (same-self name) inside calm in
    let out_then = begun_of-out p d w inside.good directed in
    serve_call-onward p (part_of_start is_sent) name m.object d (begins_part p is_sent c) _ w inside.good inside.awake directed idle
    (inside.good.known d.number d there) (λ x e. outcome-none x (queued c refl x (subst (λ n. call_of w n ≡ Some x) number e)))
    (λ v next. calm-onward {E = quiet_kind} _ v next.good (calms-from _ v (begins_part-calms p is_sent c)))
    (λ good_then. calm_then-onward {E = K} (deliver p (part_of_start is_sent) c (call_ended.ToRaise exception.Storage)) again (begun_of p d w) good_then
    (deliver-from p (part_of_start is_sent) c (call_ended.ToRaise exception.Storage) (begun_of p d w) good_then (eq-eqb c.0 c.0 refl)
    (subst (λ n. Out n (begun_of p d w)) number out_then) (subst (λ n. Idle n (begun_of p d w)) number (calm-idle w (begun_of p d w) calm d.number idle))
    (steady-awake name c (begun_of p d w) inside_then.awake) (λ x. refl))
    (λ v later good_v. k v (inside-calm p name m (begun_of p d w) v (same-self name) inside_then later)))) where
      begun_of-out : (p : Image) (d : Call) (w : World) → Good p w → Directed d w → Out d.number (begun_of p d w)
      begun_of-out p d w good directed o k h =
          unqueued-out p d w good directed o k (stands-calls (unqueued p d w) (edit_where (is_call d.number) begun_call (unqueued p d w).calls) o k d.number h)

settles-nothing : (p : Image) (name : Who) (m : ProtectedMark) (chosen : Option CallNo) (w : World) → Inside p name m w → (g : Step)
    → ((v : World) → Inside p name m v → ((c : CallNo) → chosen ≡ Some c → Settled name c w v) → Onward p v g) → Onward p w (nothing ▷ g)
settles-nothing p name m chosen w inside g k =
    calm_then-onward {E = steady_kind name} nothing g w inside.good (nothing-from w)
    (λ v calm good. k v (inside-calm p name m w v (same-self name) inside calm) (λ c e. (steady_kind name, refl, same-self name, calm)))

settle_sent-by : (p : Image) (name : Who) (m : ProtectedMark) (sent : Option CallNo) (chosen : Option CallNo) (b : Bool) (w : World)
    → chosen_is_sent sent chosen ≡ b → Inside p name m w → ((c : CallNo) → sent ≡ Some c → Idle c w) → (g : Step)
    → ((v : World) → Inside p name m v → ((c : CallNo) → chosen ≡ Some c → Settled name c w v) → Onward p v g) → Onward p w (settle_sent p sent b ▷ g)
unfolding settle_sent
settle_sent-by p name m None chosen b w is inside idle g k = settles-nothing p name m chosen w inside g k
settle_sent-by p name m (Some c) chosen true w is inside idle g k = settles-nothing p name m chosen w inside g k
settle_sent-by p name m (Some c) chosen false w is inside idle g k =
    calm_then-onward {E = beside_kind name c} (sent_not_begun p c) g w inside.good
    (sent_not_begun-from p c w inside.good (idle c refl) (eq-eqb c.0 c.0 refl) (steady-awake name c w inside.awake) (λ x. refl))
    (λ v calm good. k v (inside-calm p name m w v (same-self name) inside calm)
    (λ x e. (beside_kind name c, subst (λ y. chosen_is_sent (Some c) y ≡ false) e is, same-self name, calm)))

serve_next-onward : (fuel : ℕ) (p : Image) (name : Who) (m : ProtectedMark) (sent : Option CallNo) (w : World) → Inside p name m w
    → ((c : CallNo) → sent ≡ Some c → Idle c w) → Onward p w (serve_next fuel p name m sent)
unfolding serve_next
serve_next-onward zero p name m sent w inside idle = release_object-onward p name m w inside
serve_next-onward (suc fuel) p name m sent w inside idle =
    looks_at-onward
    (λ v. let chosen = served_next p v name (object_of v m.object) in
    settle_sent p sent (chosen_is_sent sent chosen) ▷ serve_chosen p name m (chosen_is_sent sent chosen) (serve_next fuel p name m None) chosen) w
    (let chosen = served_next p w name (object_of w m.object) in
    settle_sent-by p name m sent chosen (chosen_is_sent sent chosen) w refl inside idle
    (serve_chosen p name m (chosen_is_sent sent chosen) (serve_next fuel p name m None) chosen) (λ v inside_v settled.
    serve_chosen-onward p name m (chosen_is_sent sent chosen) (serve_next fuel p name m None) v chosen inside_v
    (λ c e. still-queued p name c w v inside.good (settled c e)
    (λ d is. let at = served_next-stands p w name m.object c e in chosen-queued p w c (owned_by.Object m.object) at.0 inside.good at.1 d is))
    (λ u inside_u. serve_next-onward fuel p name m None u inside_u (λ c e. cc))))

serve_calls-onward : (p : Image) (name : Who) (m : ProtectedMark) (sent : Option CallNo) (w : World) → Inside p name m w
    → ((c : CallNo) → sent ≡ Some c → Idle c w) → Onward p w (serve_calls p name m sent)
unfolding serve_calls
serve_calls-onward p name m sent w inside idle =
    looks_at-onward (λ v. serve_next (suc (length v.calls)) p name m sent) w (serve_next-onward (suc (length w.calls)) p name m sent w inside idle)

go_on_by_mode-onward : (p : Image) (name : Who) (m : ProtectedMark) (mode : Mode) (w : World) → Inside p name m w → Onward p w (go_on_by_mode p name m mode)
unfolding go_on_by_mode
go_on_by_mode-onward p name m Read w inside = release_object-onward p name m w inside
go_on_by_mode-onward p name m Write w inside = serve_calls-onward p name m None w inside (λ c e. cc)

-- ---- the mark on top serves its call no longer

module _ (g : ProtectedMark → ProtectedMark) (none : (m : ProtectedMark) → (g m).serves ≡ None) (own : (m : ProtectedMark) → (g m).own_call ≡ m.own_call) where
  abbrev unserving : Frame → Frame
  unserving x = with_mark (edit_protected g x.mark) x

  unserving-own : (mark : Mark) → own_in (edit_protected g mark) ≡ own_in mark
  unserving-own (Scope m) = refl
  unserving-own (Handled s) = refl
  unserving-own (InProtected m) = own m
  unserving-own (InAccept m) = refl
  unserving-own (Abortable m) = refl
  unserving-own (InInitialize l) = refl
  unserving-own (InFinalize o) = refl
  unserving-own (InAssign m) = refl

  unserving-part : (mark : Mark) → part_of (edit_protected g mark) ≡ part_of mark
  unserving-part (Scope m) = refl
  unserving-part (Handled s) = refl
  unserving-part (InProtected m) = refl
  unserving-part (InAccept m) = refl
  unserving-part (Abortable m) = refl
  unserving-part (InInitialize l) = refl
  unserving-part (InFinalize o) = refl
  unserving-part (InAssign m) = refl

  unserving-few : (c : CallNo) (mark : Mark) (n : ℕ)
      → one_if (is_the same_call (service (edit_protected g mark)) c) + n ≤ one_if (is_the same_call (service mark) c) + n
  unserving-few c (Scope m) n = omega arith
  unserving-few c (Handled s) n = omega arith
  unserving-few c (InProtected m) n = subst (λ x. one_if (is_the same_call x c) + n ≤ one_if (is_the same_call m.serves c) + n) (sym (none m)) (omega arith)
  unserving-few c (InAccept m) n = omega arith
  unserving-few c (Abortable m) n = omega arith
  unserving-few c (InInitialize l) n = omega arith
  unserving-few c (InFinalize o) n = omega arith
  unserving-few c (InAssign m) n = omega arith

  first-few : (c : CallNo) (fs : List Frame) → served_in c (natures (edit_first unserving fs)) ≤ served_in c (natures fs)
  first-few c [] = omega arith
  first-few c (x ∷ xs) = unserving-few c x.mark (served_in c (natures xs))

  first-owns : (c : CallNo) (fs : List Frame) → some_nature (has_own c) (natures (edit_first unserving fs)) ≡ some_nature (has_own c) (natures fs)
  first-owns c [] = refl
  first-owns c (x ∷ xs) = ap (λ o. is_the same_call o c || some_nature (has_own c) (natures xs)) (unserving-own x.mark)

  first-ends : (c : CallNo) (fs : List Frame) → some_nature (ends_by c) (natures (edit_first unserving fs)) ≡ some_nature (ends_by c) (natures fs)
  first-ends c [] = refl
  first-ends c (x ∷ xs) = ap (λ o. ends_part c o || some_nature (ends_by c) (natures xs)) (unserving-part x.mark)

  first-awaits : (d : ℕ) (fs : List Frame) → awaits_at d (natures (edit_first unserving fs)) ≡ awaits_at d (natures fs)
  first-awaits d [] = refl
  first-awaits d (x ∷ xs) = ap (λ o. cond (eqb (length (natures xs)) d) (awaits_part o) (awaits_at d (natures xs))) (unserving-part x.mark)

  first-top : (fs : List Frame) → top_waits (natures (edit_first unserving fs)) ≡ top_waits (natures fs)
  first-top [] = refl
  first-top (x ∷ xs) = ap awaits_part (unserving-part x.mark)

  pub unserving-calm : {E : Kind} (name : Who) (w : World) → Awake name w → Calm E w (edit_top_protected name g w)
  unfolding Awake
  unserving-calm name w awake =
      let fs = frames_of w name in
      edit_task-calm name (λ t. with_frames (edit_first unserving t.frames) t) w (λ t. refl)
      record {
        named = refl;
        queues = λ k c h. h;
        stays = λ k c h. inl h;
        completed = refl;
        fewer = λ c. first-few c fs;
        owns = λ c h. inl (sym (first-owns c fs) ∙ h);
        ended = λ c h. inl (sym (first-ends c fs) ∙ h);
        awaits = λ n d is set h. first-awaits d fs ∙ h;
        ends = λ c h. (h, λ d e i. absurd (awake c d h e));
        tops = λ is h. first-top fs ∙ h;
      }

  -- where the mark on top served it, it does no longer
  first-none : (c : CallNo) (f : Frame) (below : List Frame) (m : ProtectedMark) → f.mark ≡ InProtected m → m.serves ≡ Some c
      → served_in c (natures (f ∷ below)) ≤ 1 → served_in c (natures (edit_first unserving (f ∷ below))) ≡ 0
  first-none c f below m mark serves once =
      let here : service f.mark ≡ Some c = ap service mark ∙ serves in
      let one : one_if (is_the same_call (service f.mark) c) ≡ 1 = ap (λ x. one_if (is_the same_call x c)) here ∙ ap one_if (eq-eqb c.0 c.0 refl) in
      let gone : one_if (is_the same_call (service (edit_protected g f.mark)) c) ≡ 0 =
      ap (λ x. one_if (is_the same_call (service (edit_protected g x)) c)) mark ∙ ap (λ x. one_if (is_the same_call x c)) (none m) in
      omega (arith, once, one, gone)

  unserved-named : (name : Who) (w : World) (c : CallNo) (f : Frame) (below : List Frame) (m : ProtectedMark) → frames_of w name ≡ f ∷ below
      → f.mark ≡ InProtected m → m.serves ≡ Some c → served c w name ≤ 1 → served c (edit_top_protected name g w) name ≡ 0
  unserved-named (who.Task n) w c f below m top mark serves once =
      edits_of.edited_to (λ t. t ≡ task_of w (who.Task n)) (λ u. served_in c (natures u.frames) ≡ 0) (who.Task n) (who.Task n)
      (λ t. with_frames (edit_first unserving t.frames) t) w (λ t. refl)
      (λ same t e. of-frames t.frames (ap (λ (x : Task). x.frames) e)) (λ apart t e. absurd (true≢false (sym (eq-eqb n.0 n.0 refl) ∙ apart)))
      (λ e. refl) refl where
        of-frames : (fs : List Frame) → fs ≡ frames_of w (who.Task n) → served_in c (natures (edit_first unserving fs)) ≡ 0
        of-frames fs e =
            subst (λ gs. served_in c (natures (edit_first unserving gs)) ≡ 0) (sym (e ∙ top))
            (first-none c f below m mark serves (subst (λ gs. served_in c (natures gs) ≤ 1) top once))
  unserved-named who.Agent w c f below m top mark serves once =
      subst (λ gs. served_in c (natures (edit_first unserving gs)) ≡ 0) (sym top)
      (first-none c f below m mark serves (subst (λ gs. served_in c (natures gs) ≤ 1) top once))

  pub unserved-idle : (p : Image) (name : Who) (w : World) (c : CallNo) (f : Frame) (below : List Frame) (m : ProtectedMark) → Good p w → Awake name w
      → frames_of w name ≡ f ∷ below → f.mark ≡ InProtected m → m.serves ≡ Some c → 0 < served c w name → Idle c (edit_top_protected name g w)
  unserved-idle p name w c f below m good awake top mark serves serving a = none-of (served c (edit_top_protected name g w) a) refl where
    calm : Calm any_kind w (edit_top_protected name g w)
    calm = unserving-calm name w awake

    none-of : (n : ℕ) → served c (edit_top_protected name g w) a ≡ n → n ≡ 0
    none-of zero e = refl
    none-of (suc n) e =
        let few : served c (edit_top_protected name g w) a ≤ served c w a = calm.fewer a c in
        let same : a ≡ name = good.alone a name c (omega (arith, e, few)) serving in
        let zero_there : served c (edit_top_protected name g w) a ≡ 0 =
        subst (λ b. served c (edit_top_protected name g w) b ≡ 0) (sym same) (unserved-named name w c f below m top mark serves (good.once name c)) in
        absurd (omega (arith, e, zero_there))

-- ---- what is known of a call that was sent on, and of one that has begun

pub sent-none : (c : CallNo) (s : Sending) (w : World) → ((d : Call) → call_of w c ≡ Some d → is_none d.outcome ≡ true) → (d : Call)
    → call_of (edit_call c (sent_call s) w) c ≡ Some d → is_none d.outcome ≡ true
sent-none c s w none d e = by_found (call_of w c) refl (sym (edited_call-same c (sent_call s) w (λ x. refl)) ∙ e) where
  by_found : (found : Option Call) → call_of w c ≡ found → option_map (sent_call s) found ≡ Some d → is_none d.outcome ≡ true
  by_found None is k = cc
  by_found (Some x) is k = let one : sent_call s x ≡ d = cc in ap (λ (y : Call). is_none y.outcome) (sym one) ∙ none x is

pub begun-out : (p : Image) (w : World) (c : CallNo) (d : Call) → Good p w → call_of w c ≡ Some d → d.begun ≡ true → Out c w
begun-out p w c d good is begun o k h = begun-queued d.begun (is_none d.outcome) begun (chosen-queued p w c o k good h d is) where
  begun-queued : (a b : Bool) → a ≡ true → (not a && b) ≡ true → ⊥
  begun-queued true b e f = cc
  begun-queued false b e f = cc

-- ---- a body in the action has ended

not_left-calm : {E : Kind} (name : Who) (w : World) → Awake name w → Calm E w (edit_top name not_left w)
not_left-calm name w awake = (edit_top-alters name not_left (λ x. refl)).at w awake

-- the call has ended, or is sent on
finish_raised-onward : (p : Image) (name : Who) (m : ProtectedMark) (c : Call) (e : Raised) (w : World) → Inside p name m w → Out c.number w → Idle c.number w
    → Onward p w (finish_raised p name m c e)
unfolding finish_raised
finish_raised-onward p name m c e w inside out idle =
    said_then-onward TheFinish (line.Finish name c.number (meeting.Raised e)) _ w
    (calm_then-onward {E = beside_kind name c.number} (deliver p TheFinish c.number (outcome_by (is_own_call name m.own_call c) e)) _ w inside.good
    (deliver-from p TheFinish c.number (outcome_by (is_own_call name m.own_call c) e) w inside.good (eq-eqb c.number.0 c.number.0 refl) out idle
    (steady-awake name c.number w inside.awake) (λ x. refl))
    (λ v calm good. serve_calls-onward p name m None v (inside-calm p name m w v (same-self name) inside calm) (λ x h. cc)))

finish_well-onward : (p : Image) (name : Who) (m : ProtectedMark) (c : Call) (sending : Option Sending) (w : World) → Inside p name m w → Out c.number w
    → Idle c.number w → ((d : Call) → call_of w c.number ≡ Some d → is_none d.outcome ≡ true) → Onward p w (finish_well p name m c sending)
unfolding finish_well
finish_well-onward p name m c None w inside out idle none =
    said_then-onward TheFinish (line.Finish name c.number meeting.Ok) _ w
    (calm_then-onward {E = beside_kind name c.number} (deliver p TheFinish c.number call_ended.Finished) _ w inside.good
    (deliver-from p TheFinish c.number call_ended.Finished w inside.good (eq-eqb c.number.0 c.number.0 refl) out idle
    (steady-awake name c.number w inside.awake) (λ x. refl))
    (λ v calm good. serve_calls-onward p name m None v (inside-calm p name m w v (same-self name) inside calm) (λ x h. cc)))
finish_well-onward p name m c (Some s) w inside out idle none =
    let u = edit_call c.number (sent_call s) w in
    let calm : Calm (steady_kind name) w u = sent-calm c.number s w out in
    let inside_u = inside-calm p name m w u (same-self name) inside calm in
    said_then-onward TheFinish (line.Finish name c.number meeting.Requeue) _ w
    (send_on_then-onward c.number s _ w inside.good out
    (enqueue_then-onward p c.number _ u inside_u.good (calm-out w u calm c.number out) (calm-idle w u calm c.number idle) (sent-none c.number s w none)
    (λ v next queued idle_v directed frames. serve_calls-onward p name m (Some c.number) v (inside-next p name m u v inside_u next (frames name))
    (λ x h. subst (λ n. Idle n v) (same-some c.number x h) idle_v)))) where
      same-some : (a b : CallNo) → Some a ≡ Some b → a ≡ b
      same-some a b e = cc

pub finish_call-onward : (p : Image) (name : Who) (m : ProtectedMark) (leaving : Leaving) (c : Call) (w : World) → Inside p name m w → Out c.number w
    → Idle c.number w → ((d : Call) → call_of w c.number ≡ Some d → is_none d.outcome ≡ true) → Onward p w (finish_call p name m leaving c)
unfolding finish_call
finish_call-onward p name m (how.Exception e) c w inside out idle none = finish_raised-onward p name m c e w inside out idle
finish_call-onward p name m how.End c w inside out idle none = finish_well-onward p name m c c.sending w inside out idle none
finish_call-onward p name m how.Return c w inside out idle none = finish_well-onward p name m c c.sending w inside out idle none
finish_call-onward p name m (how.Exit loop) c w inside out idle none = finish_well-onward p name m c c.sending w inside out idle none
finish_call-onward p name m how.Abort c w inside out idle none = finish_well-onward p name m c c.sending w inside out idle none
finish_call-onward p name m how.Terminate c w inside out idle none = finish_well-onward p name m c c.sending w inside out idle none

module _ (p : Image) (name : Who) (m : ProtectedMark) (leaving : Leaving) (w : World) (f : Frame) (below : List Frame) (inside : Inside p name m w)
    (top : frames_of w name ≡ f ∷ below) (mark : f.mark ≡ InProtected m) where
  end_operation-onward : Onward p w (end_operation p name m leaving)
  unfolding end_operation
  end_operation-onward =
      calm_then-onward {E = steady_kind name} (changes (edit_top_protected name (with_body_left leaving))) _ w inside.good
      (changes-from (edit_top_protected name (with_body_left leaving)) w
      (unserving-calm (with_body_left leaving) (λ x. refl) (λ x. refl) name w inside.awake))
      (λ u calm good.
      let inside_u = inside-calm p name m w u (same-self name) inside calm in
      calm_then-onward {E = steady_kind name} (changes (edit_top name not_left)) _ u good
      (changes-from (edit_top name not_left) u (not_left-calm name u inside_u.awake)) (λ v later good_v.
      go_on_by_mode-onward p name (with_body_left leaving m) m.mode v (body-left (inside-calm p name m u v (same-self name) inside_u later)))) where
        body-left : {v : World} → Inside p name m v → Inside p name (with_body_left leaving m) v
        body-left i = record { good = i.good; awake = i.awake; drawn = i.drawn; top = i.top; own = i.own }

  served-here : (c : CallNo) → m.serves ≡ Some c → 0 < served c w name
  served-here c serves =
      let here : service f.mark ≡ Some c = ap service mark ∙ serves in
      let one : one_if (is_the same_call (service f.mark) c) ≡ 1 = ap (λ x. one_if (is_the same_call x c)) here ∙ ap one_if (eq-eqb c.0 c.0 refl) in
      subst (λ fs. 0 < served_in c (natures fs)) (sym top) (omega (arith, one))

  end_entry_body-onward : (c : CallNo) → m.serves ≡ Some c → Onward p w (end_entry_body p name m leaving c)
  unfolding end_entry_body
  end_entry_body-onward c serves =
      let u = edit_top_protected name no_longer_serves w in
      let v = edit_top name not_left u in
      let first : Calm (steady_kind name) w u = unserving-calm no_longer_serves (λ x. refl) (λ x. refl) name w inside.awake in
      let inside_u = inside-calm p name m w u (same-self name) inside first in
      let second : Calm (steady_kind name) u v = not_left-calm name u inside_u.awake in
      let inside_v = inside-calm p name m u v (same-self name) inside_u second in
      let whole : Calm (steady_kind name) w v = calm-then w u v first second in
      let idle =
      calm-idle u v second c
      (unserved-idle no_longer_serves (λ x. refl) (λ x. refl) p name w c f below m inside.good inside.awake top mark serves (served-here c serves)) in
      changes_then-onward (edit_top_protected name no_longer_serves) _ w (calm-next p w u inside.good first)
      (changes_then-onward (edit_top name not_left) _ u (calm-next p u v inside_u.good second)
      (with_call-onward c _ v inside_v.good (λ d is.
      let number = found-number c v d is in
      let x = whole.calls c d is in
      let was = inside.good.begun name c x.before (served-here c serves) x.found in
      let same = x.steady refl in
      let out = calm-out w v whole c (begun-out p w c x.before inside.good x.found was.0) in
      finish_call-onward p name (no_longer_serves m) leaving d v (unserved inside_v) (subst (λ n. Out n v) (sym number) out)
      (subst (λ n. Idle n v) (sym number) idle)
      (λ y e. let y_is : d ≡ y = one-call d y (sym is ∙ subst (λ n. call_of v n ≡ Some y) number e) in
      ap (λ (z : Call). is_none z.outcome) (sym y_is) ∙ ap is_none same.1 ∙ was.1)))) where
        one-call : (a b : Call) → Some a ≡ Some b → a ≡ b
        one-call a b e = cc

        unserved : {v : World} → Inside p name m v → Inside p name (no_longer_serves m) v
        unserved i = record { good = i.good; awake = i.awake; drawn = i.drawn; top = i.top; own = i.own }

  end_in_protected-by : (serves : Option CallNo) → m.serves ≡ serves → Onward p w (end_in_protected_by p name m leaving serves)
  unfolding end_in_protected_by
  end_in_protected-by None is = end_operation-onward
  end_in_protected-by (Some c) is = end_entry_body-onward c is

  pub end_in_protected-onward : Onward p w (end_in_protected p name m leaving)
  unfolding end_in_protected
  end_in_protected-onward = end_in_protected-by m.serves refl
