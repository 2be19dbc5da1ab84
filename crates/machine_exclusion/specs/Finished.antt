-- The `finish` line of a call that ended.
use Rattle.ann_base.specs.declared.identities.CallNo.{CallNo}
use Rattle.trace_text.specs.declared.events.Who.{Who}
use Rattle.profile_machine.specs.declared.world.lines.Line.TheVariants as line
use Rattle.profile_machine.specs.declared.world.lines.MeetingEnd.{MeetingEnd}
use Rattle.profile_machine.specs.declared.world.lines.Part.TheVariants.{TheFinish}
use Rattle.profile_machine.specs.Steps.{Step, says}

abbrev pub says_finish : Who → CallNo → MeetingEnd → Step
says_finish name c how = says TheFinish (line.Finish name c how)
