-- One task unit and one entry, of all that are made one after another.
use Rattle.std.specs.Prelude.{ℕ, List, codes}
use Rattle.profile_image.specs.declared.declarations.TaskUnit.{TaskUnit}
use Rattle.profile_image.specs.declared.declarations.Entry.{Entry}
use Rattle.ada_regions.specs.declared.table.NumberedTask.{NumberedTask}
use Rattle.ada_regions.specs.declared.table.NumberedEntry.{NumberedEntry}
use Rattle.ada_image.specs.declared.making.Within.{Within}
use Rattle.ada_image.specs.Making.{Making, ◌>>=◌, pure}
use Rattle.ada_image.specs.UnitsOfImage.{aspect_value, task_unit_with, entry_body_made, entry_with}
use Rattle.ada_image.specs.ImageOfExpressions.{optional_value}

unfoldable pub task_unit_made : Within → ℕ → NumberedTask → Making TaskUnit
task_unit_made within number t = do
  deadline ← optional_value within (aspect_value (codes "relative_deadline") t.aspects)
  pure (task_unit_with within.names number t deadline)

unfoldable pub entry_made : Within → List NumberedEntry → NumberedEntry → Making Entry
entry_made within before e = do
  body ← entry_body_made within e.body
  pure (entry_with within.names before e body)
