-- Sequences with handlers in every world that a run reaches (11.2).
use Rattle.std.specs.Prelude.{IsTrue, ℕ, ℤ, Bool, true, not, List, Option, Some}
use Rattle.std.specs.List.{list_all}
use Rattle.profile_image.specs.declared.image.Image.{Image}
use Rattle.profile_image.specs.declared.numbers.StatementNo.{StatementNo}
use Rattle.profile_image.specs.declared.script_items.Item.{Item}
use Rattle.profile_image.specs.declared.statements.Statement.{Statement}
use Rattle.profile_image.specs.declared.statements.StatementForm.{StatementForm}
use Rattle.profile_image.specs.declared.statements.StatementForm.TheVariants as form
use Rattle.profile_machine.specs.declared.world.World.{World}
use Rattle.profile_image.specs.Program.{scope_of, task_unit_of}
use Rattle.profile_machine.specs.Tasking.{unit_of_declaration}
use Rattle.profile_machine.specs.WellFormed.{begins_sequence, sequences_are_open}
use Rattle.machine_laws.specs.Reached.{Reached}

-- ---- where sequences with handlers begin in an image

abbrev pub begins_plainly : Image → Option StatementNo → Bool
begins_plainly p next = not (begins_sequence p next)

-- No sequence with handlers is the first statement of another, of an abortable part, or of a task that is created: the
-- end of the task's activation stands before it.
abbrev pub form_fits : Image → StatementForm → Bool
form_fits p (form.Handled handlers first) = begins_plainly p (Some first)
form_fits p (form.AsynchronousSelect trigger abortable) = begins_plainly p (Some abortable)
form_fits p (form.CreateTask object part) =
    begins_plainly p (scope_of p (task_unit_of p (unit_of_declaration p object)).scope).first
form_fits p _ = true

abbrev pub statement_fits : Image → Statement → Bool
statement_fits p s = form_fits p s.form

-- so it is for each statement of the image
abbrev pub sequences_fit : Image → Bool
sequences_fit p = list_all (statement_fits p) p.statements

-- ---- worlds

-- who is ready has opened the sequence with handlers to which it has come
abbrev pub ReachedSequencesAreOpen : Type 0
ReachedSequencesAreOpen = (p : Image) → IsTrue (sequences_fit p)
    → (script : List (ℤ × Item)) (bound : ℕ) (w : World) → Reached p script bound w → IsTrue (sequences_are_open p w)
