use Rattle.ada_sequences.proofs.Levels.{sequence_is_parts}
use Rattle.ada_sequences.proofs.whole.+sequence.Goals as goal

pub returns : goal.returns
returns t c = rw (sequence_is_parts c.args.left c.args.role c.args.cursor.now) c.parts.ensures
