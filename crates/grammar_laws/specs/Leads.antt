-- Tokens of a tree that lead from the tokens of a source to those behind them.
use Rattle.std.specs.Prelude.{◌≡◌, List, [], ◌∷◌}
use Rattle.ada_tree.specs.Written.{Written, Lexeme, Spells}

abbrev pub Leads : List Written → List Lexeme → List Lexeme → Type 0
Leads [] ls r = ls ≡ r
Leads (w ∷ ws) [] r = ⊥
Leads (w ∷ ws) (l ∷ ls) r = Spells w l × Leads ws ls r
