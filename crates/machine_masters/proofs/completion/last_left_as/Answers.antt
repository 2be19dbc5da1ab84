use Rattle.std.proofs.Common.{sym, ◌∙◌, arith}
use Rattle.machine_masters.proofs.LastLemmas.{last_there, last_absent, no_last}
use Rattle.machine_masters.proofs.completion.last_left_as.Goals as goal

pub returns-in-None : goal.returns-in-None
returns-in-None c = no_last c.args.frames.now (omega (arith, c.in-None.ensures))

pub returns-in_ok-get-in-Some : goal.returns-in_ok-get-in-Some
returns-in_ok-get-in-Some c =
    last_there c.args.frames.now c.in-Some.last c.in_ok-get-in-Some.field-0.now (omega (arith, c.in-Some.ensures)) (sym c.in_ok-get-in-Some.ensures)

pub returns-in_err-get-in-Some : goal.returns-in_err-get-in-Some
returns-in_err-get-in-Some c =
    c.from_residual.ensures ∙ last_absent c.args.frames.now c.in-Some.last (omega (arith, c.in-Some.ensures)) (sym c.in_err-get-in-Some.ensures)
