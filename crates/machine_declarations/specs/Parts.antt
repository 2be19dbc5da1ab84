-- The steps of the declaration of a protected object, in the machine's own words.
use Rattle.trace_text.specs.declared.events.Who.{Who}
use Rattle.profile_image.specs.declared.limits.TheConstants.{PROTECTED_CELLS}
use Rattle.profile_image.specs.declared.image.Image.{Image}
use Rattle.profile_image.specs.declared.numbers.ProtectedUnitNo.{ProtectedUnitNo}
use Rattle.profile_image.specs.declared.numbers.StatementNo.{StatementNo}
use Rattle.profile_machine.specs.declared.world.lines.Part.TheVariants.{Own}
use Rattle.profile_machine.specs.declared.world.scopes.Located.{Located}
use Rattle.profile_image.specs.Program.{next_of, protected_unit_of}
use Rattle.profile_machine.specs.Steps.{Step, changes, ◌▷◌}
use Rattle.profile_machine.specs.Frames.{goes, given}
use Rattle.profile_machine.specs.Statements.{sees}
use Rattle.profile_machine.specs.Declarations.{components_initialized, with_object, says_object}

-- a protected object whose components have their values
abbrev pub made_here : Image → Who → StatementNo → Located → ProtectedUnitNo → Step
made_here p name s l u = goes name (next_of p s) ▷ changes (with_object p l u) ▷ says_object p l u

-- the declaration of a protected object that stands here
abbrev pub declare_protected_at : Image → Who → StatementNo → Located → ProtectedUnitNo → Step
declare_protected_at p name s l u =
    sees p name (λ q. given Own name (components_initialized q PROTECTED_CELLS l (protected_unit_of p u).components
    q.world) (λ next.
    changes (λ _. next) ▷ made_here p name s l u))
