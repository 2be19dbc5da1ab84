use Rattle.std.proofs.Common.{◌≡◌, ◌<◌, ℕ, get_or, map}
use Rattle.std.specs.Char.{to_ascii_lowercase}
use Rattle.ada_lex.specs.declared.words.Reserved.TheVariants.{Abort}
use Rattle.ada_lex.specs.ReservedLetters.{word_letters}
use Rattle.ada_lex.proofs.words.first_of.Given as goal

abbrev pub invariant-loop-entry : goal.invariant-loop-entry
invariant-loop-entry l = (k : ℕ) → k < l.entry-index → word_letters (get_or l.entries k Abort) ≡ map to_ascii_lowercase l.spelling → ⊥
