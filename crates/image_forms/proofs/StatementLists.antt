-- The statements of a sequence, one after another.
use Rattle.std.proofs.Common.{◌≡◌, ℕ, ◌+◌, ◌<◌, ◌&&◌, List, ◌∷◌, drop, length, get_or, ap, sym, ◌∙◌}
use Rattle.std.proofs.lemmas.List.{drop_more}
use Rattle.ada_tree.specs.declared.statements.Statement.{Statement}
use Rattle.ada_regions.specs.declared.table.Names.{Names}
use Rattle.ada_image.specs.BuiltExpressions.{Built}
use Rattle.ada_image.specs.BuiltSequences.{statement_built, statements_built}

-- the next statement, and then the others
pub statements_more : {Q : Type 0} (built : Q → Built) (number : ℕ) (statements : List (Statement Q)) (s : Statement Q) (n : Names)
    → number < length statements → s ≡ get_or statements number s
    → statements_built built (drop number statements) n ≡ (statement_built built s n && statements_built built (drop (number + 1) statements) n)
statements_more built number statements s n l is =
    ap (λ xs. statements_built built xs n) (drop_more statements number s l ∙ ap (λ x. x ∷ drop (number + 1) statements) (sym is))
