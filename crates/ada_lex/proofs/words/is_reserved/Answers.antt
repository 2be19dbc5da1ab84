use Rattle.std.proofs.Common.{◌∙◌, sym}
use Rattle.ada_lex.proofs.ReservedWords.{is_reserved-word, is_reserved-lower}
use Rattle.ada_lex.proofs.words.is_reserved.Goals as goal

pub returns-clause-test : goal.returns-clause-test
returns-clause-test c = c.is_some.ensures ∙ is_reserved-word c.reserved_word.result c.args.word.now c.reserved_word.ensures.found c.reserved_word.ensures.none

pub returns-clause-any_case : goal.returns-clause-any_case
returns-clause-any_case c =
    c.is_some.ensures ∙ is_reserved-word c.reserved_word.result c.args.word.now c.reserved_word.ensures.found c.reserved_word.ensures.none
    ∙ sym (is_reserved-lower c.args.word.now)
