-- Arguments of pragmas, a part at a time.
use Rattle.ada_legality.specs.Pragmas.{whole_literal}
use Rattle.ada_tree.specs.declared.expressions.Expression.{Expression}
use Rattle.ada_tree.specs.declared.expressions.Expression.TheViews.{out-Expression}
use Rattle.ada_tree.specs.declared.operators.Sign.{Sign}
use Rattle.std.specs.List.{list_any}
use Rattle.std.specs.Prelude.{Bool, List, None, Option, Some, [], false, neg_ℤ, option_map, unwrap_or, ℕ, ℤ, ◌∷◌}
use Rattle.std.specs.Str.{bytes_eq}
use Rattle.ada_tree.specs.declared.operators.Sign.TheVariants as sign

-- the number of a literal behind a sign
abbrev pub signed_number : Sign → Expression → Option ℤ
signed_number sign.Plus operand = None
signed_number sign.Minus operand = option_map neg_ℤ (whole_literal (out-Expression operand).form)

-- a word that is known is one of these
abbrev pub is_among : List (List ℕ) → Option (List ℕ) → Bool
is_among allowed word = unwrap_or (option_map (λ w. list_any (bytes_eq w) allowed) word) false

-- the word that stands alone
abbrev pub only_word : List (Option (List ℕ)) → Option (List ℕ)
only_word (Some w ∷ []) = Some w
only_word words = None
