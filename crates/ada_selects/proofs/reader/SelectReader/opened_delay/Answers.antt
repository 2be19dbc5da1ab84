use Rattle.std.proofs.Common.{arith}
use Rattle.ada_selects.proofs.Levels.{delay_inside}
use Rattle.ada_selects.proofs.reader.SelectReader.opened_delay.Goals as goal

pub returns-in_default : goal.returns-in_default
returns-in_default g c = rw (delay_inside c.args.self.now.left c.args.cursor.now (omega arith)) c.delay.ensures
