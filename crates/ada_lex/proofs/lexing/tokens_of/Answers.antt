use Rattle.std.proofs.Common.{◌<◌, arith, length, false-eqb, true-eqb, length-drop, option_to_list, sym}
use Rattle.ada_lex.specs.Reading.{tokens_from, start}
use Rattle.ada_lex.proofs.Loops.{piece_more, piece_fails, all_pieces}
use Rattle.ada_lex.proofs.lexing.tokens_of.Goals as goal

pub returns-in-Err : goal.returns-in-Err
returns-in-Err c =
    let some : 0 < length c.loop-rest.rest.now = omega (arith, false-eqb _ 0 c.loop-rest-test.ensures) in
    piece_fails c.loop-rest.rest.now c.loop-rest.spot c.loop-rest.tokens.items c.in-Err.fault (tokens_from c.args.source.now 0 start) some
    (sym c.in-Err.ensures.exact) c.loop-rest.invariant.rest

pub loop-rest-preserved : goal.loop-rest-preserved
loop-rest-preserved c =
    let some : 0 < length c.loop-rest.rest.now = omega (arith, false-eqb _ 0 c.loop-rest-test.ensures) in
    record {
      offset =
          rw c.split_at.ensures.back
          (omega (arith, c.behind-spot.ensures.offset, c.split_at.ensures.front_len, length-drop c.in-Ok.piece.1 c.loop-rest.rest.now, c.in-Ok.ensures.within));
      line = c.behind-spot.ensures.line;
      column = c.behind-spot.ensures.column;
      rest =
          rw (c.split_at.ensures.back, c.behind-spot.ensures.spot, c.split_at.ensures.front, c.in_ok-push_found.ensures)
          (piece_more c.loop-rest.rest.now c.loop-rest.spot c.loop-rest.tokens.items (option_to_list c.in-Ok.piece.0) c.in-Ok.piece.1
          (tokens_from c.args.source.now 0 start) some c.in-Ok.ensures.nonempty (sym c.in-Ok.ensures.exact) c.loop-rest.invariant.rest);
    }

pub returns : goal.returns
returns c =
    all_pieces c.loop-rest.rest.now c.loop-rest.spot c.loop-rest.tokens.items (tokens_from c.args.source.now 0 start)
    (true-eqb _ 0 c.loop-rest-test.ensures) c.loop-rest.invariant.rest
