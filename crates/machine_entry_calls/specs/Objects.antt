-- Parts of the machine's steps for calls of protected entries.
use Rattle.ann_base.specs.declared.exceptions.Raised.TheVariants as exception
use Rattle.ann_base.specs.declared.identities.ObjectNo.{ObjectNo}
use Rattle.trace_text.specs.declared.events.Mode.TheVariants.{Write}
use Rattle.trace_text.specs.declared.events.Who.TheVariants as who
use Rattle.profile_image.specs.declared.image.Image.{Image}
use Rattle.profile_machine.specs.declared.world.calls.Call.{Call}
use Rattle.profile_machine.specs.declared.world.lines.Line.TheVariants as line
use Rattle.profile_machine.specs.declared.world.lines.MeetingEnd.TheVariants as meeting
use Rattle.profile_machine.specs.declared.world.lines.Part.TheVariants.{Own}
use Rattle.profile_machine.specs.Steps.{Step, says, looks}
use Rattle.profile_machine.specs.EntryCalls.{call_by_barrier}
use Rattle.profile_machine.specs.Protected.{is_barrier_open}

abbrev pub enters : ObjectNo → Call → Step
enters o c = says Own (line.Enter (who.Task c.caller) o Write)

abbrev pub starts : Call → Step
starts c = says Own (line.Start (who.Task c.caller) c.number)

-- the body finishes with Storage_Error
abbrev pub fails : Call → Step
fails c = says Own (line.Finish (who.Task c.caller) c.number (meeting.Raised exception.Storage))

abbrev pub exits : ObjectNo → Call → Step
exits o c = says Own (line.Exit (who.Task c.caller) o)

-- the object lets the caller in
abbrev pub called_by_barrier : Image → ObjectNo → Call → Step
called_by_barrier p o c = looks (λ w. call_by_barrier p o c (is_barrier_open p w (who.Task c.caller) o c.entry))
