-- The lines of an effect as the lines of a trace: numbers become names.
use Rattle.std.specs.Prelude.{ℕ, List, Option, Some, None, codes}
use Rattle.ann_base.specs.declared.exceptions.Raised.{Raised}
use Rattle.ann_base.specs.declared.exceptions.Raised.TheVariants as exception
use Rattle.trace_text.specs.declared.events.Event.{Event}
use Rattle.trace_text.specs.declared.events.Event.TheVariants as written
use Rattle.trace_text.specs.declared.events.EntryName.{EntryName}
use Rattle.trace_text.specs.declared.events.EntryName.TheVariants as called
use Rattle.trace_text.specs.declared.events.Finished.{Finished}
use Rattle.trace_text.specs.declared.events.Finished.TheVariants as finished
use Rattle.profile_image.specs.declared.image.Image.{Image}
use Rattle.profile_image.specs.declared.numbers.DeclNo.{DeclNo}
use Rattle.profile_image.specs.declared.numbers.EntryNo.{EntryNo}
use Rattle.profile_machine.specs.declared.world.calls.Owner.{Owner}
use Rattle.profile_machine.specs.declared.world.calls.Owner.TheVariants as owned_by
use Rattle.profile_machine.specs.declared.world.lines.Line.{Line}
use Rattle.profile_machine.specs.declared.world.lines.Line.TheVariants as line
use Rattle.profile_machine.specs.declared.world.lines.MeetingEnd.{MeetingEnd}
use Rattle.profile_machine.specs.declared.world.lines.MeetingEnd.TheVariants as meeting
use Rattle.profile_image.specs.Program.{declaration_of, entry_of, subprogram_of}

-- ---- names

abbrev pub exception_name : Image → Raised → List ℕ
exception_name p exception.Constraint = codes "constraint_error"
exception_name p exception.Program = codes "program_error"
exception_name p exception.Storage = codes "storage_error"
exception_name p exception.Tasking = codes "tasking_error"
exception_name p exception.TimerResource = codes "timer_resource_error"
exception_name p exception.GroupBudget = codes "group_budget_error"
exception_name p exception.DispatchingPolicy = codes "dispatching_policy_error"
exception_name p (exception.User d) = (declaration_of p (record { 0 = d })).expanded

-- the environment task has the main procedure's name
abbrev pub created_name : Image → Option DeclNo → List ℕ
created_name p None = p.main.name
created_name p (Some d) = (declaration_of p d).expanded

abbrev pub name_of_entry : Image → Owner → EntryNo → EntryName
name_of_entry p (owned_by.Task t) e = called.OfTask t (entry_of p e).name
name_of_entry p (owned_by.Object o) e = called.OfObject o (entry_of p e).name

abbrev pub finished_how : Image → MeetingEnd → Finished
finished_how p meeting.Ok = finished.Ok
finished_how p (meeting.Raised e) = finished.Raised (exception_name p e)
finished_how p meeting.Requeue = finished.Requeue

-- ---- lines

abbrev pub event_of : Image → Line → Event
event_of p (line.New what declared level) = written.New what (created_name p declared) level
event_of p (line.Ready who level end deadline) = written.Ready who level end deadline
event_of p (line.Block who waits) = written.Block who waits
event_of p (line.Base task level) = written.Base task level
event_of p (line.Deadline task deadline) = written.Deadline task deadline
event_of p (line.Quantum task) = written.Quantum task
event_of p (line.Done task) = written.Done task
event_of p (line.Raise who e) = written.Raise who (exception_name p e)
event_of p (line.Put who text) = written.Put who text
event_of p (line.Call task call owner entry priority) = written.Call task call (name_of_entry p owner entry) priority
event_of p (line.Start who call) = written.Start who call
event_of p (line.Finish who call how) = written.Finish who call (finished_how p how)
event_of p (line.Cancel task call) = written.Cancel task call
event_of p (line.Gone task call) = written.Gone task call
event_of p (line.Enter who object mode) = written.Enter who object mode
event_of p (line.Exit who object) = written.Exit who object
event_of p (line.Held who object mode) = written.Held who object mode
event_of p (line.Abort task victim) = written.Abort task victim
event_of p (line.Trigger task) = written.Trigger task
event_of p (line.Leave who region how) = written.Leave who region how
event_of p (line.Init who object region declared) = written.Init who object region (declaration_of p declared).name
event_of p (line.Final who object) = written.Final who object
event_of p (line.Left who region) = written.Left who region
event_of p (line.Replace who object) = written.Replace who object
event_of p (line.Release release handler) =
    written.Release release handler.object (subprogram_of p handler.procedure).name
event_of p (line.Served release) = written.Served release
event_of p (line.Interrupt number) = written.Interrupt number
event_of p (line.Port number value) = written.Port number value
event_of p (line.Mask number) = written.Mask number
event_of p (line.Unmask number) = written.Unmask number
event_of p (line.Masked number) = written.Masked number
