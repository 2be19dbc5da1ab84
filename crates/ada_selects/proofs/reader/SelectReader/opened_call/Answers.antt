use Rattle.std.proofs.Common.{arith}
use Rattle.ada_selects.proofs.Levels.{call_inside}
use Rattle.ada_selects.proofs.reader.SelectReader.opened_call.Goals as goal

pub returns-in_default : goal.returns-in_default
returns-in_default g c = rw (call_inside c.args.self.now.left c.args.cursor.now (omega arith)) c.call.ensures
