-- Blocking, by the word of what is waited for.
use Rattle.trace_text.specs.declared.events.Who.{Who}
use Rattle.trace_text.specs.declared.events.Waits.{Waits}
use Rattle.profile_machine.specs.declared.world.lines.Line.TheVariants as line
use Rattle.profile_machine.specs.declared.world.lines.Part.{Part}
use Rattle.profile_machine.specs.Steps.{Step, says, changes, ◌▷◌}
use Rattle.profile_machine.specs.Tasks.{edit_task}
use Rattle.profile_machine.specs.Dispatching.{without_kept_level}

-- the `block` line with this word: what `says_block` does of anything that has it
abbrev pub says_waits : Part → Who → Waits → Step
says_waits part name waits = changes (edit_task name without_kept_level) ▷ says part (line.Block name waits)
