use Rattle.ada_tree.specs.Written.{lexemes_of}
use Rattle.ada_parse.proofs.Sources.{unit_read, unit_stops}
use Rattle.ada_parse.proofs.units.read.Goals as goal

pub returns-in-Ok : goal.returns-in-Ok
returns-in-Ok c = record {
  exact = unit_read (lexemes_of c.args.source.now c.args.tokens.now) c.in-Ok.unit c.source_unit.new.cursor (rw c.new-cursor.ensures at c.in-Ok.ensures);
}

pub returns-in-Err-Fault : goal.returns-in-Err-Fault
returns-in-Err-Fault c =
    let stopped = rw c.in-Err-Fault.field-0-is at c.in-Err-Fault.ensures in
    record { exact = rw c.fault.ensures (unit_stops c.args.source.now c.args.tokens.now c.in-Err-Fault.stuck (rw c.new-cursor.ensures at stopped)) }
