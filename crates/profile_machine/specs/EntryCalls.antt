-- Entry calls, plain, conditional, timed and triggering (9.5.3, 9.7.2 to 9.7.4).
use Rattle.std.specs.Prelude.{ℕ, suc, ◌+◌, ℤ, pos, int_lt, Bool, true, false, ◌&&◌, ◌||◌, List}
use Rattle.std.specs.Prelude.{[], ◌∷◌, Option, Some, None, Ok, Err, length, option_and_then, map}
use Rattle.ann_base.specs.Results.{◌>>=◌}
use Rattle.ann_base.specs.declared.identities.CallNo.{CallNo}
use Rattle.ann_base.specs.declared.identities.ObjectNo.{ObjectNo}
use Rattle.ann_base.specs.declared.identities.TaskNo.{TaskNo}
use Rattle.ann_base.specs.declared.exceptions.Raised.{Raised}
use Rattle.ann_base.specs.declared.exceptions.Raised.TheVariants as exception
use Rattle.profile_machine.specs.declared.world.calls.EntryCallNamed.{EntryCallNamed}
use Rattle.profile_machine.specs.declared.world.lines.Line.TheVariants as line
use Rattle.profile_machine.specs.declared.world.lines.MeetingEnd.TheVariants as meeting
use Rattle.trace_text.specs.declared.events.Mode.TheVariants.{Write}
use Rattle.trace_text.specs.declared.events.Who.{Who}
use Rattle.trace_text.specs.declared.events.Who.TheVariants as who
use Rattle.profile_image.specs.declared.image.Image.{Image}
use Rattle.profile_image.specs.declared.numbers.EntryNo.{EntryNo}
use Rattle.profile_image.specs.declared.numbers.StatementNo.{StatementNo}
use Rattle.profile_image.specs.declared.declarations.Formal.{Formal}
use Rattle.profile_image.specs.declared.declarations.EntryUnit.{EntryUnit}
use Rattle.profile_image.specs.declared.declarations.EntryUnit.TheVariants as unit
use Rattle.profile_image.specs.declared.statements.Actual.{Actual}
use Rattle.profile_image.specs.declared.statements.Actual.TheVariants as actual
use Rattle.profile_image.specs.declared.statements.EntryOwner.{EntryOwner}
use Rattle.profile_image.specs.declared.statements.EntryOwner.TheVariants as owner
use Rattle.profile_image.specs.declared.statements.StatementForm.{StatementForm}
use Rattle.profile_image.specs.declared.statements.StatementForm.TheVariants as form
use Rattle.profile_image.specs.declared.values.Value.{Value}
use Rattle.profile_machine.specs.declared.world.World.{World}
use Rattle.profile_machine.specs.declared.world.scopes.ScopeInUse.{ScopeInUse}
use Rattle.profile_machine.specs.declared.world.scopes.Variable.{Variable}
use Rattle.profile_machine.specs.declared.world.calls.Call.{Call}
use Rattle.profile_machine.specs.declared.world.calls.CallKind.{CallKind}
use Rattle.profile_machine.specs.declared.world.calls.Owner.{Owner}
use Rattle.profile_machine.specs.declared.world.calls.CallKind.TheVariants as call_kind
use Rattle.profile_machine.specs.declared.world.appointments.Due.TheVariants as due_for
use Rattle.profile_machine.specs.declared.world.calls.Owner.TheVariants as owned_by
use Rattle.profile_machine.specs.declared.world.tasks.Waiting.TheVariants as waits_for
use Rattle.profile_image.specs.Program.{form_of, next_of, scope_of, marks_of, entry_of, task_unit_of}
use Rattle.profile_machine.specs.declared.world.lines.Part.{Part}
use Rattle.profile_machine.specs.declared.world.lines.Part.TheVariants.{TheCall, TheFinish, Own, OfOther, TheBlock}
use Rattle.profile_machine.specs.Steps.{Step, says, changes, looks, nothing, ◌▷◌}
use Rattle.profile_machine.specs.Tasks.{waiting_of, number_of}
use Rattle.profile_machine.specs.Dispatching.{active_of, block}
use Rattle.profile_machine.specs.Frames.{frames_of, goes, leaves, raises, given, raise_if}
use Rattle.profile_machine.specs.Frames.{with_room, has_room, in_protected, is_deferred}
use Rattle.profile_machine.specs.Scopes.{home, scope_in_use}
use Rattle.profile_machine.specs.Operators.{Valued, checked}
use Rattle.profile_machine.specs.Values.{Seen, value, variable, read, thing, thing_number}
use Rattle.profile_machine.specs.Values.{task_in, or_misfit, moment, own_object}
use Rattle.profile_machine.specs.Appointments.{appoint}
use Rattle.profile_machine.specs.Calls.{call_drawn, forget_call, says_call, enqueue, is_full, edit_call}
use Rattle.profile_machine.specs.CallEnds.{call_in, gone}
use Rattle.profile_machine.specs.Protected.{where_let_inside, begin_action_on}
use Rattle.profile_machine.specs.Protected.{is_barrier_open, serve_call, body_scope_of}
use Rattle.profile_machine.specs.Sending.{not_accepted, open_abortable, is_triggering}
use Rattle.profile_machine.specs.Statements.{sees}
use Rattle.profile_machine.specs.Rendezvous.{accept_for, is_callable, meet, delay_moment}
use Rattle.profile_machine.specs.Subprograms.{call_that_returns}
use Rattle.profile_machine.specs.declared.run_data.Leaving.TheVariants as how

-- ---- whose entry it is

abbrev pub owner_task : Option TaskNo → Valued Owner
owner_task None = Err exception.Program
owner_task (Some t) = Ok (owned_by.Task t)

abbrev pub owner_by_unit : EntryUnit → Value → Valued Owner
owner_by_unit (unit.Task u) v = owner_task (task_in v)
owner_by_unit (unit.Protected u) v = Ok (owned_by.Object (record { 0 = thing_number v }))

-- an entry by its own name is that of the task, or the object, in whose body the name stands
abbrev pub owner_in_scope : Option ScopeInUse → Option TaskNo
owner_in_scope None = None
owner_in_scope (Some s) = number_of s.owner

abbrev pub own_unit : Seen → EntryUnit → Valued Owner
own_unit q (unit.Task u) =
    owner_task (owner_in_scope (option_and_then (scope_in_use q.world)
    (home q.world (task_unit_of q.program u).scope q.within)))
own_unit q (unit.Protected u) = or_misfit (own_object q u) >>= λ o. Ok (owned_by.Object o)

abbrev pub owner_of_entry : Seen → EntryNo → EntryOwner → Valued Owner
owner_of_entry q e (owner.Object d) = thing q d >>= owner_by_unit (entry_of q.program e).unit
owner_of_entry q e owner.Own = own_unit q (entry_of q.program e).unit

-- ---- parameters (6.4.1)

-- the value that a parameter has at first, and the variable that gets its result
abbrev pub entry_parameter : Seen → Formal → Actual → Valued (Value × Option Variable)
entry_parameter q f (actual.In e) = value q e >>= checked f.constraint >>= λ v. Ok (v, None)
entry_parameter q f (actual.InOut name) = variable q name >>= λ x. checked f.constraint (read q.world x)
    >>= λ v. Ok (v, Some x)
entry_parameter q f (actual.Out name) = variable q name >>= λ x. Ok (f.initial, Some x)
entry_parameter q f (actual.Thing d) = thing q d >>= λ v. Ok (v, None)

abbrev pub entry_parameters : Seen → List Formal → List Actual → Valued (List (Value × Option Variable))
entry_parameters q [] actuals = Ok []
entry_parameters q (f ∷ fs) [] = Ok []
entry_parameters q (f ∷ fs) (a ∷ as') = entry_parameter q f a >>= λ v. entry_parameters q fs as'
    >>= λ rest. Ok (v ∷ rest)

abbrev pub values_in : List (Value × Option Variable) → List Value
values_in parameters = map (λ x. x.0) parameters

abbrev pub results_in : List (Value × Option Variable) → List (Option Variable)
results_in parameters = map (λ x. x.1) parameters

-- ---- what a call names, and its moment

abbrev pub no_entry_no : EntryNo
no_entry_no = record { 0 = 0 }

abbrev pub named_call_in : StatementForm → EntryCallNamed
named_call_in (form.EntryCall entry owner actuals) = record { entry = entry; owner = owner; actuals = actuals }
named_call_in _ = record { entry = no_entry_no; owner = owner.Own; actuals = [] }

abbrev pub named_call : Image → StatementNo → EntryCallNamed
named_call p s = named_call_in (form_of p (call_in (form_of p s) s))

abbrev pub timed_moment : Seen → StatementForm → Valued (Option ℤ)
timed_moment q (form.TimedCall call delay) = delay_moment q delay >>= λ m. Ok (Some m)
timed_moment q _ = Ok None

-- ---- a call is made: it draws its number, and `call` comes first of all

abbrev pub new_call : TaskNo → CallKind → StatementNo → EntryCallNamed → Owner → ℕ → List (Value × Option Variable)
    → Option ℤ → Call
new_call t kind s n o priority parameters moment = record {
  number = record { 0 = 0 };
  caller = t;
  kind = kind;
  statement = s;
  owner = o;
  entry = n.entry;
  priority = priority;
  begun = false;
  firm = false;
  sent_with_abort = false;
  attempted = false;
  moment = moment;
  values = values_in parameters;
  results = results_in parameters;
  sending = None;
  outcome = None;
}

abbrev pub numbered : ℕ → Call → Call
numbered n c = record c { number = record { 0 = n } }

abbrev pub add_call : Call → World → World
add_call c w = record w { calls = numbered (suc w.drawn.calls) c ∷ w.calls; drawn = call_drawn w.drawn }

-- A step with the call that was made. The caller goes on behind its statement first, so that where it blocks or has the
-- object open its frame names what it does once the call has ended; the end of the call may say otherwise (`resume`).
abbrev pub make_call : Image → Call → (Call → Step) → Step
make_call p c step =
    goes (who.Task c.caller) (next_of p c.statement)
    ▷ looks (λ w. changes (add_call c) ▷ says_call TheCall (numbered (suc w.drawn.calls) c)
    ▷ step (numbered (suc w.drawn.calls) c))

-- it ends at once with an exception
unfoldable pub end_at_once : Part → Call → Raised → Step
end_at_once part c e = changes (forget_call c.number) ▷ raises part (who.Task c.caller) e

-- ---- a call of a task's entry (9.5.3)

unfoldable pub call_gone : Image → Call → Step
call_gone p c = gone p Own c ▷ end_at_once Own c exception.Tasking

-- the callee waits for it: the rendezvous begins, and the caller blocks
unfoldable pub call_meets : Image → TaskNo → StatementNo → Call → Step
call_meets p t s c =
    meet p (OfOther (who.Task t)) (who.Task t) s c
    (block TheBlock (who.Task c.caller) (waits_for.Call c.number))
    (end_at_once TheFinish c exception.Storage)

unfoldable pub call_queues : Image → Call → Step
call_queues p c = enqueue p c.number ▷ not_accepted p Own c c.kind

-- a triggering call needs a mark where it is queued
abbrev pub marks_if_queued : CallKind → ℕ
marks_if_queued call_kind.Plain = 0
marks_if_queued call_kind.Conditional = 0
marks_if_queued call_kind.Timed = 0
marks_if_queued call_kind.Triggering = 1

unfoldable pub call_not_met : Image → Call → Bool → Step
call_not_met p c true = make_call p c (λ d. end_at_once Own d exception.Program)
call_not_met p c false = with_room (who.Task c.caller) (marks_if_queued c.kind) 0 (make_call p c (call_queues p))

unfoldable pub call_accepted_by : Image → TaskNo → Call → Option StatementNo → Step
call_accepted_by p t c (Some s) = make_call p c (call_meets p t s)
call_accepted_by p t c None = looks (λ w. call_not_met p c (is_full p w c.owner c.entry))

unfoldable pub call_callable : Image → TaskNo → Call → Bool → Step
call_callable p t c false = make_call p c (call_gone p)
call_callable p t c true = looks (λ w. call_accepted_by p t c (accept_for p c.entry (waiting_of w (who.Task t))))

unfoldable pub call_task : Image → TaskNo → Call → Step
call_task p t c = looks (λ w. call_callable p t c (is_callable w t))

-- ---- a call of a protected entry (9.5.3): tested first, then made; it runs at once where the barrier is open

unfoldable pub call_runs : Image → ObjectNo → Call → Step
call_runs p o c =
    begin_action_on p (who.Task c.caller) o Write (Some c.number) None
    ▷ serve_call p Own (who.Task c.caller) o c nothing nothing

-- without room the body starts and finishes at once, and nothing is placed
unfoldable pub call_without_room : ObjectNo → Call → Step
call_without_room o c =
    says Own (line.Enter (who.Task c.caller) o Write) ▷ says Own (line.Start (who.Task c.caller) c.number)
    ▷ says Own (line.Finish (who.Task c.caller) c.number (meeting.Raised exception.Storage))
    ▷ says Own (line.Exit (who.Task c.caller) o) ▷ end_at_once Own c exception.Storage

abbrev pub has_room_for_action : Image → World → Call → Bool
has_room_for_action p w c =
    has_room w (who.Task c.caller) (1
    + marks_of p (body_scope_of p c.entry)) (scope_of p (body_scope_of p c.entry)).size

unfoldable pub call_runs_if_room : Image → ObjectNo → Call → Step
call_runs_if_room p o c =
    looks (λ w. elim (has_room_for_action p w c) [ true ↦ call_runs p o c | false ↦ call_without_room o c ])

-- it is queued: the action ends at once, and nothing is placed
unfoldable pub call_passes : Image → ObjectNo → Call → Step
call_passes p o c =
    says Own (line.Enter (who.Task c.caller) o Write) ▷ enqueue p c.number ▷ says Own (line.Exit (who.Task c.caller) o)
    ▷ not_accepted p Own c c.kind

unfoldable pub call_refused : ObjectNo → Call → Step
call_refused o c =
    says Own (line.Enter (who.Task c.caller) o Write) ▷ says Own (line.Exit (who.Task c.caller) o)
    ▷ end_at_once Own c exception.Program

unfoldable pub call_closed : Image → ObjectNo → Call → Bool → Step
call_closed p o c true = make_call p c (call_refused o)
call_closed p o c false = with_room (who.Task c.caller) (marks_if_queued c.kind) 0 (make_call p c (call_passes p o))

unfoldable pub call_by_barrier : Image → ObjectNo → Call → Bool → Step
call_by_barrier p o c true = with_room (who.Task c.caller) 1 0 (make_call p c (call_runs_if_room p o))
call_by_barrier p o c false = looks (λ w. call_closed p o c (is_full p w c.owner c.entry))

unfoldable pub call_object : Image → ObjectNo → Call → Step
call_object p o c =
    where_let_inside p (who.Task c.caller) o Write
    (looks (λ w. call_by_barrier p o c (is_barrier_open p w (who.Task c.caller) o c.entry)))

unfoldable pub call_owner : Image → Call → Owner → Step
call_owner p c (owned_by.Task t) = call_task p t c
call_owner p c (owned_by.Object o) = call_object p o c

-- ---- the entry call of a statement

unfoldable pub call_named : Image → TaskNo → CallKind → StatementNo → EntryCallNamed → Step
call_named p t kind s n =
    sees p (who.Task t) (λ q. given Own (who.Task t) (owner_of_entry q n.entry n.owner) (λ o.
    given Own (who.Task t) (entry_parameters q (entry_of p n.entry).formals n.actuals) (λ parameters.
    given Own (who.Task t) (timed_moment q (form_of p s)) (λ m.
    call_owner p (new_call t kind s n o (active_of p q.world (who.Task t)) parameters m) o))))

-- inside a protected action Program_Error is raised, and for a trigger wherever abort is deferred (own)
abbrev pub is_forbidden : World → Who → CallKind → Bool
is_forbidden w name kind = in_protected w name || (is_triggering kind && is_deferred w name)

unfoldable pub entry_call : Image → Who → CallKind → StatementNo → Step
entry_call p (who.Task t) kind s =
    looks (λ w. raise_if (who.Task t) (is_forbidden w (who.Task t) kind) exception.Program
    (call_named p t kind s (named_call p s)))
entry_call p who.Agent kind s = raises Own who.Agent exception.Program

-- ---- the asynchronous select (9.7.4): the trigger is issued first

abbrev pub appoint_trigger : Who → ℕ → ℤ → World → World
appoint_trigger (who.Task t) depth m = appoint (due_for.Trigger t depth) m
appoint_trigger who.Agent depth m = λ w. w

-- a delay that is not in the future completes at once
unfoldable pub trigger_delay : Image → Who → StatementNo → StatementNo → ℤ → Bool → Step
trigger_delay p name s trigger m false = goes name (next_of p trigger)
trigger_delay p name s trigger m true =
    with_room name 1 0
    (goes name (next_of p s) ▷ looks (λ w. changes (open_abortable p name s None)
    ▷ changes (appoint_trigger name (length (frames_of w name)) m)))

unfoldable pub async_delay : Image → Who → StatementNo → StatementNo → Step
async_delay p name s trigger =
    sees p name (λ q. raise_if name (is_forbidden q.world name call_kind.Triggering) exception.Program
    (given Own name (delay_moment q trigger) (λ m. trigger_delay p name s trigger m (int_lt (pos q.world.time) m))))

unfoldable pub async_by_trigger : Image → Who → StatementNo → StatementNo → StatementForm → Step
async_by_trigger p name s trigger (form.EntryCall entry owner actuals) = entry_call p name call_kind.Triggering s
async_by_trigger p name s trigger _ = async_delay p name s trigger

unfoldable pub asynchronous_select : Image → Who → StatementNo → StatementNo → Step
asynchronous_select p name s trigger = async_by_trigger p name s trigger (form_of p trigger)

-- ---- requeue (9.5.4): the call of the accept or entry body in which it stands is to be sent on

abbrev pub with_sending : Owner → EntryNo → Bool → Call → Call
with_sending o e with_abort c = record c { sending = Some (record { owner = o; entry = e; with_abort = with_abort }) }

abbrev pub mark_sending : Option CallNo → Owner → EntryNo → Bool → World → World
mark_sending None o e with_abort = λ w. w
mark_sending (Some c) o e with_abort = edit_call c (with_sending o e with_abort)

unfoldable pub requeue : Image → Who → EntryNo → EntryOwner → Bool → Step
requeue p name e o with_abort =
    sees p name (λ q. given Own name (owner_of_entry q e o) (λ target.
    changes (mark_sending (call_that_returns (frames_of q.world name)) target e with_abort) ▷ leaves name how.Return))
