use Rattle.std.proofs.Common.{suc, ◌-◌, arith}
use Rattle.ada_selects.proofs.Levels.{accept_inside, reads_further_in}
use Rattle.ada_selects.proofs.reader.SelectReader.opened_accept.Goals as goal

pub accept-requires : goal.accept-requires
accept-requires g c = record { reads = reads_further_in (suc c.args.self.now.left) (suc (c.args.self.now.left - 1)) (λ m p. omega arith) c.requires.reads }

pub returns-in_default : goal.returns-in_default
returns-in_default g c = rw (accept_inside g.Q.Nested.reading c.args.self.now.left c.args.cursor.now (omega arith)) c.accept.ensures
