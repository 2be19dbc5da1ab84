-- Parts of the machine's steps for calls that are sent on.
use Rattle.std.specs.Prelude.{Some}
use Rattle.ann_base.specs.declared.identities.CallNo.{CallNo}
use Rattle.ann_base.specs.declared.identities.TaskNo.{TaskNo}
use Rattle.trace_text.specs.declared.events.Who.TheVariants as who
use Rattle.profile_image.specs.declared.image.Image.{Image}
use Rattle.profile_image.specs.declared.numbers.StatementNo.{StatementNo}
use Rattle.profile_machine.specs.declared.world.calls.Call.{Call}
use Rattle.profile_machine.specs.declared.world.lines.Line.{Line}
use Rattle.profile_machine.specs.declared.world.lines.Line.TheVariants as line
use Rattle.profile_machine.specs.declared.world.lines.Part.TheVariants.{TheFinish}
use Rattle.profile_machine.specs.Steps.{Step, changes, ◌▷◌}
use Rattle.profile_machine.specs.Dispatching.{ready}
use Rattle.profile_machine.specs.Sending.{open_abortable}

abbrev pub line_of_call : Call → Line
line_of_call c = line.Call c.caller c.number c.owner c.entry c.priority

-- the abortable part of a call that was sent on begins, and the caller becomes ready
abbrev pub abortable_begins : Image → TaskNo → StatementNo → CallNo → Step
abortable_begins p caller select c = changes (open_abortable p (who.Task caller) select (Some c))
    ▷ ready p TheFinish (who.Task caller)
