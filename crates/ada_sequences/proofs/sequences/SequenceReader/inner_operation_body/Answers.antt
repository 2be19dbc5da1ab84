use Rattle.ada_selects.proofs.Levels.{reads_further_in}
use Rattle.ada_sequences.proofs.Levels.{less_below}
use Rattle.ada_grammar.specs.Reading.{below}
use Rattle.ada_sequences.proofs.sequences.SequenceReader.inner_operation_body.Goals as goal

pub operation_body-requires : goal.operation_body-requires
operation_body-requires g c = record {
  reads = rw c.below.ensures (reads_further_in c.args.self.now.left (below c.args.self.now.left) (less_below c.args.self.now.left) c.requires.reads);
}
