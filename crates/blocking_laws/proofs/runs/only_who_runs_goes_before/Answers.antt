-- By what each line of an effect is.
use Rattle.blocking_laws.proofs.HeadLemmas.{runs_tell_own_lines}
use Rattle.blocking_laws.proofs.runs.only_who_runs_goes_before.Goals as goal

pub returns : goal.returns
returns c = runs_tell_own_lines
