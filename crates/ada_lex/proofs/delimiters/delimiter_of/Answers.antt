use Rattle.ada_lex.proofs.DelimiterTable.{none_of}
use Rattle.ada_lex.proofs.delimiters.delimiter_of.Goals as goal

pub returns-clause-none : goal.returns-clause-none
returns-clause-none c = none_of c.first_of.result c.args.spelling.now c.first_of.ensures.none
