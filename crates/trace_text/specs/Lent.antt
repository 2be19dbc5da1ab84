-- The event that is lent: what a line with lent names and texts says.
use Rattle.trace_text.specs.declared.events.EntryName.{EntryName}
use Rattle.trace_text.specs.declared.events.EntryName.TheVariants.{OfTask, OfObject}
use Rattle.trace_text.specs.declared.events.Finished.{Finished}
use Rattle.trace_text.specs.declared.events.Finished.TheVariants as finished
use Rattle.trace_text.specs.declared.events.Ended.{Ended}
use Rattle.trace_text.specs.declared.events.Ended.TheVariants as ended
use Rattle.trace_text.specs.declared.events.Event.{Event}
use Rattle.trace_text.specs.declared.events.Event.TheVariants as event
use Rattle.trace_text.specs.declared.lent.EntryNameRef.{EntryNameRef}
use Rattle.trace_text.specs.declared.lent.EntryNameRef.TheVariants as called
use Rattle.trace_text.specs.declared.lent.FinishedRef.{FinishedRef}
use Rattle.trace_text.specs.declared.lent.FinishedRef.TheVariants as how_lent
use Rattle.trace_text.specs.declared.lent.EndedRef.{EndedRef}
use Rattle.trace_text.specs.declared.lent.EndedRef.TheVariants as why_lent
use Rattle.trace_text.specs.declared.lent.EventRef.{EventRef}
use Rattle.trace_text.specs.declared.lent.EventRef.TheVariants as lent

abbrev pub entry_lent : EntryNameRef → EntryName
entry_lent (called.OfTask task name) = OfTask task name
entry_lent (called.OfObject object name) = OfObject object name

abbrev pub finished_lent : FinishedRef → Finished
finished_lent how_lent.Ok = finished.Ok
finished_lent (how_lent.Raised name) = finished.Raised name
finished_lent how_lent.Requeue = finished.Requeue

abbrev pub ended_lent : EndedRef → Ended
ended_lent why_lent.Completed = ended.Completed
ended_lent (why_lent.Exception name) = ended.Exception name
ended_lent why_lent.Stuck = ended.Stuck
ended_lent why_lent.Bound = ended.Bound

abbrev pub event_lent : EventRef → Event
event_lent (lent.New what name level) = event.New what name level
event_lent (lent.Ready who level end deadline) = event.Ready who level end deadline
event_lent (lent.Block who waits) = event.Block who waits
event_lent (lent.Run who) = event.Run who
event_lent lent.Idle = event.Idle
event_lent (lent.Base task level) = event.Base task level
event_lent (lent.Deadline task deadline) = event.Deadline task deadline
event_lent (lent.Quantum task) = event.Quantum task
event_lent (lent.Done task) = event.Done task
event_lent (lent.Raise who exception) = event.Raise who exception
event_lent (lent.Put who text) = event.Put who text
event_lent (lent.Call task call entry priority) = event.Call task call (entry_lent entry) priority
event_lent (lent.Start who call) = event.Start who call
event_lent (lent.Finish who call how) = event.Finish who call (finished_lent how)
event_lent (lent.Cancel task call) = event.Cancel task call
event_lent (lent.Gone task call) = event.Gone task call
event_lent (lent.Enter who object mode) = event.Enter who object mode
event_lent (lent.Exit who object) = event.Exit who object
event_lent (lent.Held who object mode) = event.Held who object mode
event_lent (lent.Abort task victim) = event.Abort task victim
event_lent (lent.Trigger task) = event.Trigger task
event_lent (lent.Leave who region how) = event.Leave who region how
event_lent (lent.Init who object region name) = event.Init who object region name
event_lent (lent.Final who object) = event.Final who object
event_lent (lent.Left who region) = event.Left who region
event_lent (lent.Replace who object) = event.Replace who object
event_lent (lent.Release release object handler) = event.Release release object handler
event_lent (lent.Serve release) = event.Serve release
event_lent (lent.Served release) = event.Served release
event_lent (lent.Interrupt number) = event.Interrupt number
event_lent (lent.Port number value) = event.Port number value
event_lent (lent.Mask number) = event.Mask number
event_lent (lent.Unmask number) = event.Unmask number
event_lent (lent.Masked number) = event.Masked number
event_lent (lent.End why) = event.End (ended_lent why)
