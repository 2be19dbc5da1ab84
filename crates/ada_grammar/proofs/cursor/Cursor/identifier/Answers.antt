use Rattle.ada_grammar.proofs.Lower.{map-lower_twice}
use Rattle.ada_grammar.proofs.cursor.Cursor.identifier.Goals as goal

pub returns-in_ok-text-in-len1-up-clause-lower : goal.returns-in_ok-text-in-len1-up-clause-lower
returns-in_ok-text-in-len1-up-clause-lower c = rw (c.from_vec.ensures, c.in_ok-text-in-len1-up.ensures) (map-lower_twice _)
