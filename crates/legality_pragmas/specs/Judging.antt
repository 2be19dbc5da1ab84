-- What pragmas break, one pragma at a time.
use Rattle.ada_legality.specs.Findings.{Found, broken_if}
use Rattle.ada_legality.specs.Pragmas.{is_wrong_pragma}
use Rattle.ada_tree.specs.declared.units.Pragma.{Pragma}
use Rattle.std.specs.Prelude.{List, [], take, ℕ, ◌++◌, ◌+◌, ◌∷◌}
use Rattle.ada_legality.specs.declared.rules.Rule.TheVariants as rule

-- what the pragma at a place breaks
abbrev pub pragma_judged : ℕ → List Pragma → ℕ → Pragma → Found
pragma_judged last pragmas at p =
    broken_if rule.ConfigurationPragma (is_wrong_pragma last pragmas (take at pragmas) p) p.place

-- what those from a place on break
abbrev pub judged_along : ℕ → List Pragma → ℕ → List Pragma → Found
judged_along last pragmas at [] = []
judged_along last pragmas at (p ∷ rest) =
    pragma_judged last pragmas at p ++ judged_along last pragmas (at + 1) rest
