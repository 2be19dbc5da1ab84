-- A protected operation that is called from inside its unit.
use Rattle.trace_text.specs.declared.events.Who.{Who}
use Rattle.profile_image.specs.declared.image.Image.{Image}
use Rattle.profile_image.specs.declared.numbers.StatementNo.{StatementNo}
use Rattle.profile_image.specs.declared.numbers.SubprogramNo.{SubprogramNo}
use Rattle.profile_machine.specs.declared.world.marks.ResultTo.{ResultTo}
use Rattle.profile_machine.specs.declared.world.scopes.Handed.{Handed}
use Rattle.profile_image.specs.Program.{subprogram_of}
use Rattle.profile_machine.specs.Protected.{begin_own_operation, unit_of_operation}
use Rattle.profile_machine.specs.Statements.{sees}
use Rattle.profile_machine.specs.Steps.{Step}
use Rattle.profile_machine.specs.Values.{own_object}

-- it works on the object of its unit in whose body the caller stands
unfoldable pub own_operation : Image → Who → StatementNo → SubprogramNo → Handed → ResultTo → Step
own_operation p name s f h to =
    sees p name (λ q. begin_own_operation p name s f (own_object q (unit_of_operation (subprogram_of p f))) h to)
