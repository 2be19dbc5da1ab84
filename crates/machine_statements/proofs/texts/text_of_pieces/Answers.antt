use Rattle.std.proofs.Common.{◌≡◌, Err, rules, ◌∙◌}
use Rattle.machine_statements.proofs.TextLemmas.{pieces_more, pieces_refused}
use Rattle.machine_statements.proofs.texts.text_of_pieces.Goals as goal

pub returns-in_err-push_piece : goal.returns-in_err-push_piece
returns-in_err-push_piece c =
    let e : c.from_residual.result ≡ Err c.in_err-push_piece.field-0.0 = search rules in
    rw e (pieces_refused c.push_piece.new.text c.in_err-push_piece.field-0.0 c.args.q.now c.args.pieces.now c.loop-piece.piece-index c.piece-item.result
    c.loop-piece.text _ c.loop-piece-test.true c.piece-item.is c.in_err-push_piece.ensures c.loop-piece.invariant)

pub loop-piece-preserved : goal.loop-piece-preserved
loop-piece-preserved c =
    pieces_more c.args.q.now c.args.pieces.now c.loop-piece.piece-index c.piece-item.result c.loop-piece.text c.push_piece.new.text c.loop-piece-test.true
    c.piece-item.is c.in_ok-push_piece.ensures
    ∙ c.loop-piece.invariant
