-- What is still to be done of a creation.
use Rattle.std.specs.Prelude.{ℕ, ℤ, ◌-◌, Option, Some}
use Rattle.ann_base.specs.declared.identities.TaskNo.{TaskNo}
use Rattle.trace_text.specs.declared.events.Who.{Who}
use Rattle.profile_image.specs.declared.image.Image.{Image}
use Rattle.profile_image.specs.declared.numbers.DeclNo.{DeclNo}
use Rattle.profile_image.specs.declared.numbers.StatementNo.{StatementNo}
use Rattle.profile_image.specs.declared.values.Value.TheVariants as value_of
use Rattle.profile_machine.specs.declared.world.World.{World}
use Rattle.profile_machine.specs.declared.world.scopes.ScopeId.{ScopeId}
use Rattle.profile_machine.specs.declared.world.lines.Part.TheVariants.{Own}
use Rattle.profile_machine.specs.Frames.{given}
use Rattle.profile_image.specs.Program.{declaration_of, task_unit_of}
use Rattle.profile_machine.specs.Scopes.{home}
use Rattle.profile_machine.specs.Steps.{Step, changes, looks, for_some}
use Rattle.profile_machine.specs.Declarations.{set_thing}
use Rattle.profile_machine.specs.Statements.{sees}
use Rattle.profile_machine.specs.Tasking.{unit_of_declaration, optional_span, created_task, create_task}

-- the number of the task that was drawn last
abbrev pub last_drawn : World → TaskNo
last_drawn w = record { 0 = w.drawn.tasks - 1 }

-- the object, where its scope is in use, holds the number of the task that was drawn last
abbrev pub names_object : Image → DeclNo → Option ScopeId → Step
names_object p d id =
    for_some id (λ within. looks (λ w. changes (set_thing p (record {
      within = within;
      declared = d;
    }) (value_of.Task (Some (last_drawn w))))))

-- the creation of a task, once Relative_Deadline is evaluated
unfoldable pub span_given : Image → Who → StatementNo → DeclNo → ℕ → Option ℤ → Step
span_given p name s d declarative_part span =
    sees p name (λ q. create_task p name s d (home q.world (declaration_of p d).scope q.within)
    (created_task q d (unit_of_declaration p d) declarative_part span q.world.drawn.tasks))

-- the same, where it is still to be evaluated
abbrev pub asks_span : Image → Who → StatementNo → DeclNo → ℕ → Step
asks_span p name s d declarative_part =
    sees p name (λ q. given Own name (optional_span q (task_unit_of p (unit_of_declaration p d)).relative_deadline)
    (span_given p name s d declarative_part))
