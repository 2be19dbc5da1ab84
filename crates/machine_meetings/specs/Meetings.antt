-- Parts of the machine's steps for a rendezvous.
use Rattle.ann_base.specs.declared.exceptions.Raised.TheVariants as exception
use Rattle.trace_text.specs.declared.events.Who.{Who}
use Rattle.trace_text.specs.declared.events.Who.TheVariants as who
use Rattle.profile_image.specs.declared.image.Image.{Image}
use Rattle.profile_machine.specs.declared.run_data.Leaving.{Leaving}
use Rattle.profile_machine.specs.declared.world.calls.Call.{Call}
use Rattle.profile_machine.specs.declared.world.calls.Outcome.TheVariants as call_ended
use Rattle.profile_machine.specs.declared.world.lines.Line.TheVariants as line
use Rattle.profile_machine.specs.declared.world.lines.Part.TheVariants.{TheFinish, TheBlock}
use Rattle.profile_machine.specs.declared.world.marks.AcceptMark.{AcceptMark}
use Rattle.profile_machine.specs.declared.world.tasks.Waiting.TheVariants as waits_for
use Rattle.profile_machine.specs.Steps.{Step, says, changes, looks, ◌▷◌}
use Rattle.profile_machine.specs.CallEnds.{deliver}
use Rattle.profile_machine.specs.Calls.{edit_call, with_call}
use Rattle.profile_machine.specs.Dispatching.{block}
use Rattle.profile_machine.specs.EntryCalls.{end_at_once}
use Rattle.profile_machine.specs.Frames.{pop}
use Rattle.profile_machine.specs.Rendezvous.{finished_call, finish_rendezvous}
use Rattle.profile_machine.specs.Scopes.{cells_of, end_scope, scope_in_use}
use Rattle.profile_machine.specs.Sending.{begin_abortable}
use Rattle.machine_meetings.specs.declared.meetings.Arrival.{Arrival}
use Rattle.machine_meetings.specs.declared.meetings.Arrival.TheVariants.{Made, SentOn}

-- behind a rendezvous that begins: the caller blocks, or the abortable part of a call that was sent on begins
unfoldable pub behind_met : Image → Arrival → Call → Step
behind_met p Made c = block TheBlock (who.Task c.caller) (waits_for.Call c.number)
behind_met p SentOn c = begin_abortable p c.number

-- behind one without room: the call ends with Storage_Error
unfoldable pub behind_failed : Image → Arrival → Call → Step
behind_failed p Made c = end_at_once TheFinish c exception.Storage
behind_failed p SentOn c = deliver p TheFinish c.number (call_ended.ToRaise exception.Storage)

-- the `gone` line of a call whose acceptor is aborted
abbrev pub says_gone : Call → Step
says_gone c = says TheFinish (line.Gone c.caller c.number)

-- an accept has ended, and its call is finished or sent on
abbrev pub rendezvous_ends : Image → Who → AcceptMark → Leaving → Step
rendezvous_ends p name m leaving =
    looks (λ w. changes (pop name) ▷ changes (end_scope m.within)
    ▷ changes (edit_call m.call (finished_call p (cells_of (scope_in_use w m.within)) leaving))
    ▷ with_call m.call (λ c. finish_rendezvous p name c leaving))
