use Rattle.std.proofs.Common.{suc, ◌-◌, arith}
use Rattle.ada_selects.proofs.Levels.{reads_further_in}
use Rattle.ada_sequences.proofs.Levels.{statement_inside}
use Rattle.ada_sequences.proofs.sequences.SequenceReader.statement.Goals as goal

pub statement-requires : goal.statement-requires
statement-requires g c = record { reads = reads_further_in c.args.self.now.left (suc (c.args.self.now.left - 1)) (λ m p. omega arith) c.requires.reads }

pub returns-in_default : goal.returns-in_default
returns-in_default g c = rw (statement_inside c.args.self.now.left c.args.cursor.now (omega arith)) c.statement.ensures
