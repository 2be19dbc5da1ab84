-- Entry calls and the queues in which they stand (9.5.3, D.4).
use Rattle.std.specs.Prelude.{ℕ, suc, Bool, true, false, cond, not, ◌&&◌, List, [], ◌∷◌, ◌++◌}
use Rattle.std.specs.Prelude.{Option, Some, None, ltb, leb, find, length, take, is_none}
use Rattle.ann_base.specs.declared.identities.CallNo.{CallNo}
use Rattle.ann_base.specs.declared.identities.ObjectNo.{ObjectNo}
use Rattle.profile_machine.specs.declared.world.lines.Line.TheVariants as line
use Rattle.trace_text.specs.declared.events.Who.TheVariants as who
use Rattle.profile_image.specs.declared.image.Image.{Image}
use Rattle.profile_image.specs.declared.image.Queuing.{Queuing}
use Rattle.profile_image.specs.declared.image.Queuing.TheVariants as queuing
use Rattle.profile_image.specs.declared.numbers.EntryNo.{EntryNo}
use Rattle.profile_image.specs.declared.values.Value.{Value}
use Rattle.profile_machine.specs.declared.world.World.{World}
use Rattle.profile_machine.specs.declared.world.objects.Object.{Object}
use Rattle.profile_machine.specs.declared.world.calls.Call.{Call}
use Rattle.profile_machine.specs.declared.world.calls.Owner.{Owner}
use Rattle.profile_machine.specs.declared.world.Drawn.{Drawn}
use Rattle.profile_machine.specs.declared.world.calls.Owner.TheVariants as owned_by
use Rattle.profile_image.specs.Words.{same_call, without, edit_where, edit_at}
use Rattle.profile_image.specs.Program.{entry_of}
use Rattle.profile_machine.specs.declared.world.lines.Part.{Part}
use Rattle.profile_machine.specs.Steps.{Step, says, changes, looks, for_some, ◌▷◌}
use Rattle.profile_machine.specs.Tasks.{task_of, edit_task}
use Rattle.profile_machine.specs.Values.{object_of, is_object, queue_at, queues_of}
use Rattle.profile_machine.specs.Appointments.{drop_appointment, is_timeout_of}

-- ---- looking at a call and changing it

abbrev pub is_call : CallNo → Call → Bool
is_call c d = same_call c d.number

abbrev pub call_of : World → CallNo → Option Call
call_of w c = find (is_call c) w.calls

abbrev pub edit_call : CallNo → (Call → Call) → World → World
edit_call c f w = record w { calls = edit_where (is_call c) f w.calls }

-- the call is no longer among the calls
abbrev pub forget_call : CallNo → World → World
forget_call c w = record w { calls = without (is_call c) w.calls }

-- a step with a call that is there
abbrev pub with_call : CallNo → (Call → Step) → Step
with_call c f = looks (λ w. for_some (call_of w c) f)

abbrev pub call_drawn : Drawn → Drawn
call_drawn d = record d { calls = suc d.calls }

-- ---- names in lines

unfoldable pub says_call : Part → Call → Step
says_call part c = says part (line.Call c.caller c.number c.owner c.entry c.priority)

-- ---- parameters: a body that takes a call has those of its own entry alone, also where the call was sent on to an
-- entry without any; the call keeps its values (9.5.4)

abbrev pub formals_count : Image → Call → ℕ
formals_count p c = length (entry_of p c.entry).formals

abbrev pub parameters_of : Image → Call → List Value
parameters_of p c = take (formals_count p c) c.values

-- ---- queues

abbrev pub edit_object : ObjectNo → (Object → Object) → World → World
edit_object number f w = record w { objects = edit_where (is_object number) f w.objects }

abbrev pub queue_of : World → Owner → ℕ → List CallNo
queue_of w (owned_by.Task t) place = queue_at (task_of w (who.Task t)).queues place
queue_of w (owned_by.Object o) place = queue_at (queues_of (object_of w o)) place

abbrev pub edit_queue : Owner → ℕ → (List CallNo → List CallNo) → World → World
edit_queue (owned_by.Task t) place f = edit_task (who.Task t) (λ u. record u { queues = edit_at place f u.queues })
edit_queue (owned_by.Object o) place f = edit_object o (λ u. record u { queues = edit_at place f u.queues })

abbrev pub place_of_entry : Image → EntryNo → ℕ
place_of_entry p e = (entry_of p e).place

abbrev pub priority_of_call : Option Call → ℕ
priority_of_call None = 0
priority_of_call (Some c) = c.priority

abbrev pub priority_of : World → CallNo → ℕ
priority_of w c = priority_of_call (call_of w c)

-- before the first call of a lower priority
abbrev pub put_by_priority : World → CallNo → ℕ → List CallNo → List CallNo
put_by_priority w c priority [] = c ∷ []
put_by_priority w c priority (d ∷ ds) =
    cond (ltb (priority_of w d) priority) (c ∷ d ∷ ds) (d ∷ put_by_priority w c priority ds)

-- by Priority_Queuing calls stand by priority and then arrival, by FIFO_Queuing by arrival (D.4)
abbrev pub put_call : Queuing → World → CallNo → ℕ → List CallNo → List CallNo
put_call queuing.Fifo w c priority queue = queue ++ c ∷ []
put_call queuing.Priority w c priority queue = put_by_priority w c priority queue

abbrev pub take_call : CallNo → List CallNo → List CallNo
take_call c = without (same_call c)

-- a call is queued, at a new place among the calls
abbrev pub enqueued : Image → Call → World → World
enqueued p c w =
    edit_queue c.owner (place_of_entry p c.entry) (put_call p.policies.queuing w c.number c.priority)
    (edit_call c.number (λ d. record d { begun = false }) w)

unfoldable pub enqueue : Image → CallNo → Step
enqueue p c = with_call c (λ d. changes (enqueued p d))

-- a call is in no queue and has no time-out any more
abbrev pub unqueued : Image → Call → World → World
unqueued p c w =
    drop_appointment (is_timeout_of c.number) (edit_queue c.owner (place_of_entry p c.entry) (take_call c.number) w)

-- ---- the call that is served next (9.5.3, D.4)

-- of the heads of the queues, in the order of the text, the first; by Priority_Queuing the first of highest priority
abbrev pub first_head : List (List CallNo) → Option CallNo
first_head [] = None
first_head ([] ∷ queues) = first_head queues
first_head ((c ∷ cs) ∷ queues) = Some c

abbrev pub better_of : World → CallNo → Option CallNo → CallNo
better_of w c None = c
better_of w c (Some d) = cond (ltb (priority_of w c) (priority_of w d)) d c

abbrev pub best_head : World → List (List CallNo) → Option CallNo
best_head w [] = None
best_head w ([] ∷ queues) = best_head w queues
best_head w ((c ∷ cs) ∷ queues) = Some (better_of w c (best_head w queues))

abbrev pub next_by : Queuing → World → List (List CallNo) → Option CallNo
next_by queuing.Fifo w = first_head
next_by queuing.Priority w = best_head w

abbrev pub next_call : Image → World → List (List CallNo) → Option CallNo
next_call p w queues = next_by p.policies.queuing w queues

-- Max_Entry_Queue_Length is reached (D.7)
abbrev pub is_reached : Option ℕ → ℕ → Bool
is_reached None n = false
is_reached (Some most) n = leb most n

abbrev pub is_full : Image → World → Owner → EntryNo → Bool
is_full p w owner e = is_reached p.policies.longest_queue (length (queue_of w owner (place_of_entry p e)))

-- ---- cancellation (9.5.3, 9.8)

-- queued, and not last sent on by a requeue without abort
abbrev pub is_cancellable : Call → Bool
is_cancellable c = not c.begun && not c.firm && is_none c.outcome

-- cancellation is attempted: `cancel` where the call is cancellable, which is then out of its queue
unfoldable pub attempt_on : Image → Part → Call → Step
attempt_on p part c =
    elim (is_cancellable c) [
      | true ↦ changes (unqueued p c) ▷ says part (line.Cancel c.caller c.number)
      | false ↦ changes (edit_call c.number (λ d. record d { attempted = true }))
    ]

-- an attempt, and what is done where it cancels the call and where it does not
abbrev pub attempt_with : Image → Part → Call → Step → Step → Step
attempt_with p part c cancels stays = attempt_on p part c ▷ elim (is_cancellable c) [ true ↦ cancels | false ↦ stays ]

abbrev pub attempt : Image → Part → CallNo → Step → Step → Step
attempt p part c cancels stays = with_call c (λ d. attempt_with p part d cancels stays)
