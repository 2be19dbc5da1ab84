-- What a tick charges of the task itself.
use Rattle.profile_image.specs.declared.image.Image.{Image}
use Rattle.profile_machine.specs.declared.world.tasks.Task.{Task}
use Rattle.profile_machine.specs.Handlers.{clock_risen, quantum_spent_by}

-- its clock rises, and its quantum falls
abbrev pub charged_itself : Image → Task → Task
charged_itself p t = quantum_spent_by p (clock_risen t)
