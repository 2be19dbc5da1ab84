-- By the marks, as actions begin and end.
use Rattle.blocking_laws.proofs.OpenTold.{open_actions_are_told}
use Rattle.blocking_laws.proofs.runs.open_actions_are_those_of_marks.Goals as goal

pub returns : goal.returns
returns c = open_actions_are_told
