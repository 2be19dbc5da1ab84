use Rattle.std.proofs.Common.{refl, arith}
use Rattle.ada_expressions.proofs.Levels.{none_inside, one_inside}
use Rattle.ada_expressions.proofs.expressions.ExpressionReader.inner.Goals as goal

pub returns-in-0 : goal.returns-in-0
returns-in-0 g c = rw (c.stuck.ensures, none_inside c.args.self.now.left c.args.cursor.now c.in-0.is) refl

pub returns-in_default : goal.returns-in_default
returns-in_default g c =
    rw (one_inside c.args.self.now.left c.args.cursor.now (omega arith))
    (c.requires.reads.reads _ _ _ _ _ (omega arith) c.read.ensures)
