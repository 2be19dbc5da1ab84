use Rattle.std.proofs.Common.{◌≡◌, ◌-◌, ◌+◌, ◌++◌, ◌≤◌, length, drop}
use Rattle.ada_lex.specs.Meaning.{undoubled}
use Rattle.ada_lex.proofs.meaning.text_value.Given as goal

abbrev pub invariant-loop-n : goal.invariant-loop-n
invariant-loop-n l = record { some : 1 ≤ l.n; small : l.n ≤ length l.text + 1; rest : l.value.items ++ undoubled (drop l.n l.text) ≡ undoubled (drop 1 l.text) }

abbrev pub decreases-loop-n : goal.decreases-loop-n
decreases-loop-n l = length l.text - l.n
