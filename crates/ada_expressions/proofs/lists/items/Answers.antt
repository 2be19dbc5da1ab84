use Rattle.std.proofs.Common.{sym, ◌∙◌}
use Rattle.std.proofs.lemmas.Result.{err_from_is_err_and}
use Rattle.ada_expressions.proofs.ItemLoop.{none_begins, no_turn, one_read, one_stops}
use Rattle.ada_expressions.proofs.lists.items.Goals as goal

pub returns-then-not-begins : goal.returns-then-not-begins
returns-then-not-begins g c = λ test part tests reads.
    none_begins _ _ _ _ _ _ _ (sym (tests _ _ c.begins.ensures) ∙ c.if-not-begins.true) (c.loop-turn.invariant test part tests reads)

pub returns-in_err-item : goal.returns-in_err-item
returns-in_err-item g c = λ test part tests reads.
    let p = err_from_is_err_and c.from_residual.result c.from_residual.ensures.1 in
    rw (p.1, p.2)
    (one_stops _ _ _ _ _ _ _ _ c.loop-turn-test.true (sym (tests _ _ c.begins.ensures) ∙ c.if-not-begins.false) (reads _ _ _ c.in_err-item.ensures)
    (c.loop-turn.invariant test part tests reads))

pub loop-turn-preserved : goal.loop-turn-preserved
loop-turn-preserved g c = λ test part tests reads.
    rw c.in_ok-push.ensures.ok
    (one_read _ _ _ _ _ _ _ _ _ c.loop-turn-test.true (sym (tests _ _ c.begins.ensures) ∙ c.if-not-begins.false) (reads _ _ _ c.in_ok-item.ensures)
    (c.loop-turn.invariant test part tests reads))

pub returns : goal.returns
returns g c = λ test part tests reads. no_turn _ _ _ _ _ _ _ c.loop-turn-test.false (c.loop-turn.invariant test part tests reads)
