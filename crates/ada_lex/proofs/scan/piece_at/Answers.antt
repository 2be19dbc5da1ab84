use Rattle.std.proofs.Common.{sym}
use Rattle.ada_lex.proofs.Pieces.{token_some}
use Rattle.ada_lex.proofs.scan.piece_at.Goals as goal

pub returns-clause-nonempty : goal.returns-clause-nonempty
returns-clause-nonempty c =
    token_some c.args.spot.place c.kind_of-kind.result c.args.bytes.now c.in_ok-n.n c.requires.some c.kind_of-kind.ensures (sym c.in_ok-n.ensures.exact)
