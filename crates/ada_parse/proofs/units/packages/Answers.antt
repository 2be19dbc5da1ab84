use Rattle.std.proofs.lemmas.Result.{err_from_is_err_and}
use Rattle.ada_parse.proofs.Packages.{context_stops, last_context, no_package, one_package, package_stops}
use Rattle.ada_parse.proofs.units.packages.Goals as goal

pub returns-in_err-context : goal.returns-in_err-context
returns-in_err-context c =
    let p = err_from_is_err_and c.from_residual.result c.from_residual.ensures.1 in
    rw (p.1, p.2) (context_stops _ _ _ _ _ _ c.in_err-context.ensures c.loop-turn.invariant)

pub returns-then-not-is_word : goal.returns-then-not-is_word
returns-then-not-is_word c = no_package _ _ _ _ _ _ _ c.in_ok-context.ensures (cc) c.loop-turn.invariant

pub returns-in_err-package : goal.returns-in_err-package
returns-in_err-package c =
    let p = err_from_is_err_and c.from_residual-in_err-package.result c.from_residual-in_err-package.ensures.1 in
    rw (p.1, p.2) (package_stops _ _ _ _ _ _ _ _ _ c.loop-turn-test.true c.in_ok-context.ensures (cc) c.in_err-package.ensures c.loop-turn.invariant)

pub loop-turn-preserved : goal.loop-turn-preserved
loop-turn-preserved c =
    rw c.in_ok-push.ensures.ok
    (one_package _ _ _ _ _ _ _ _ _ _ c.loop-turn-test.true c.in_ok-context.ensures (cc) c.in_ok-package.ensures c.loop-turn.invariant)

pub returns-in_err-last : goal.returns-in_err-last
returns-in_err-last c =
    let p = err_from_is_err_and c.from_residual-in_err-last.result c.from_residual-in_err-last.ensures.1 in
    rw (p.1, p.2) (context_stops _ _ _ _ _ _ c.in_err-last.ensures c.loop-turn.invariant)

pub returns : goal.returns
returns c = last_context _ _ _ _ _ _ _ _ c.loop-turn-test.false c.in_ok-last.ensures c.loop-turn.invariant
