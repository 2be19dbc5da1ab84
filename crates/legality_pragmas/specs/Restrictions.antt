-- Restrictions, a pragma at a time.
use Rattle.ada_image.specs.PoliciesOfImage.{is_longest}
use Rattle.ada_legality.specs.InForce.{gives_restriction, least_limit, limit_in}
use Rattle.ada_legality.specs.Pragmas.{is_pragma_named}
use Rattle.ada_regions.specs.Words.{all_of}
use Rattle.ada_tree.specs.declared.expressions.Argument.{Argument}
use Rattle.ada_tree.specs.declared.expressions.Expression.{Expression}
use Rattle.ada_tree.specs.declared.units.Pragma.{Pragma}
use Rattle.std.specs.List.{list_any}
use Rattle.std.specs.Prelude.{Bool, List, Option, [], codes, cond, ℕ, ℤ, ◌&&◌, ◌∷◌}

-- a pragma gives this restriction
abbrev pub gives : List ℕ → Pragma → Bool
gives name p =
    is_pragma_named (codes "restrictions") p && list_any (gives_restriction name) (all_of p.arguments)

-- a pragma limits the length of entry queues
abbrev pub gives_longest : Pragma → Bool
gives_longest p =
    is_pragma_named (codes "restrictions") p
    && list_any (λ a. is_longest a.formal) (all_of p.arguments)

-- the least of the limits that arguments give, and a later one
abbrev pub least_with : List ℕ → List (Argument Expression) → Option ℤ → Option ℤ
least_with name [] later = later
least_with name (a ∷ rest) later = least_limit (limit_in name a) (least_with name rest later)

-- the least of those that a pragma gives, and a later one
abbrev pub least_before : List ℕ → Pragma → Option ℤ → Option ℤ
least_before name p later =
    cond (is_pragma_named (codes "restrictions") p) (least_with name (all_of p.arguments) later)
    later
