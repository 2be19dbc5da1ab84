-- The steps of assignments, loops, delays and bodies, in the machine's own words.
use Rattle.std.specs.Prelude.{ℤ, Bool, Option, option_and_then}
use Rattle.ann_base.specs.Results.{◌>>=◌}
use Rattle.trace_text.specs.declared.events.Who.{Who}
use Rattle.profile_image.specs.declared.image.Image.{Image}
use Rattle.profile_image.specs.declared.numbers.DeclNo.{DeclNo}
use Rattle.profile_image.specs.declared.numbers.ExprNo.{ExprNo}
use Rattle.profile_image.specs.declared.numbers.StatementNo.{StatementNo}
use Rattle.profile_image.specs.declared.expressions.VariableName.{VariableName}
use Rattle.profile_machine.specs.declared.world.World.{World}
use Rattle.profile_machine.specs.declared.world.scopes.ScopeId.{ScopeId}
use Rattle.profile_machine.specs.declared.world.scopes.Variable.{Variable}
use Rattle.profile_image.specs.declared.numbers.SubprogramNo.{SubprogramNo}
use Rattle.profile_image.specs.Program.{next_of, scope_of, subprogram_of}
use Rattle.profile_machine.specs.Scopes.{home}
use Rattle.profile_machine.specs.Steps.{Step, ◌▷◌}
use Rattle.profile_machine.specs.Frames.{goes}
use Rattle.profile_machine.specs.Operators.{Valued, same_value}
use Rattle.profile_machine.specs.Values.{Seen, value, variable, read}
use Rattle.profile_machine.specs.CallEnds.{store}
use Rattle.profile_machine.specs.Statements.{loop_cell, is_past, delay_to}

-- the world with the value of an expression in a variable, whose place is found first
abbrev pub assigned : Image → Seen → VariableName → ExprNo → Valued World
assigned p q target e = variable q target >>= λ v. value q e >>= λ x. store p v x q.world

-- whether the first turn of a loop finds an empty range
abbrev pub finds_empty : Seen → DeclNo → Bool → Valued Bool
finds_empty q d reverse = loop_cell q d 0 >>= λ x. loop_cell q d 1
    >>= λ y. is_past reverse (read q.world x) (read q.world y)

-- whether a loop's parameter has its last value
abbrev pub is_at_last : Seen → DeclNo → Variable → Valued Bool
is_at_last q d x = loop_cell q d 1 >>= λ y. same_value (read q.world x) (read q.world y)

-- what stands behind a delay's evaluation
abbrev pub delayed : Image → Who → StatementNo → ℤ → Step
delayed p name s m = goes name (next_of p s) ▷ delay_to p name m

-- the scope in use round a body of the unit, by what the caller sees
abbrev pub outer_of_body : Seen → SubprogramNo → Option ScopeId
outer_of_body q f =
    option_and_then (λ outer. home q.world outer q.within) (scope_of q.program (subprogram_of q.program f).scope).outer
