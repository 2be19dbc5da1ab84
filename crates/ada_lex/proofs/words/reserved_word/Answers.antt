use Rattle.std.proofs.Common.{map}
use Rattle.std.specs.Char.{to_ascii_lowercase}
use Rattle.ada_lex.proofs.ReservedTable.{none_of}
use Rattle.ada_lex.proofs.words.reserved_word.Goals as goal

pub returns-clause-none : goal.returns-clause-none
returns-clause-none c = none_of c.first_of.result (map to_ascii_lowercase c.args.spelling.now) c.first_of.ensures.none
