-- The numbers that lines show were drawn.
use Rattle.blocking_laws.proofs.ObjectNumbers.{runs_number_objects}
use Rattle.blocking_laws.proofs.runs.numbers_of_objects_are_new.Goals as goal

pub returns : goal.returns
returns c = runs_number_objects
