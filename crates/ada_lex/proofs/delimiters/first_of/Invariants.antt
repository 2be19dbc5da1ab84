use Rattle.std.proofs.Common.{◌≡◌, ◌<◌, ℕ, get_or}
use Rattle.ada_lex.specs.declared.delimiters.Delimiter.TheVariants.{Arrow}
use Rattle.ada_lex.specs.DelimiterLetters.{delimiter_letters}
use Rattle.ada_lex.proofs.delimiters.first_of.Given as goal

abbrev pub invariant-loop-entry : goal.invariant-loop-entry
invariant-loop-entry l = (k : ℕ) → k < l.entry-index → delimiter_letters (get_or l.entries k Arrow) ≡ l.spelling → ⊥
