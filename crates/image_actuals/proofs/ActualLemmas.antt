-- The actuals of a call, one after another.
use Rattle.std.proofs.Common.{◌≡◌, ℕ, ◌+◌, ◌<◌, suc, List, ◌∷◌, ◌++◌, Option, Some, None, drop, length, get_or, ap, sym, ◌∙◌, append_assoc, arith}
use Rattle.std.proofs.lemmas.List.{drop_more, append-nil}
use Rattle.ada_tree.specs.declared.expressions.Expression.{Expression}
use Rattle.ada_tree.specs.declared.expressions.Argument.{Argument}
use Rattle.profile_image.specs.declared.statements.Actual.{Actual}
use Rattle.ada_regions.specs.declared.types.Formal.{Formal}
use Rattle.ada_image.specs.declared.making.Lists.{Lists}
use Rattle.ada_image.specs.declared.making.Within.{Within}
use Rattle.ada_image.specs.ImageOfExpressions.{argument_from, arguments_from}
use Rattle.ada_image.specs.ImageOfCalls.{names_of, actuals_made}
use Rattle.image_actuals.specs.Added.{Added, behind, actual_if, actuals_from}

abbrev with_items : Lists → List Actual → Lists × List Actual
with_items lists items = (lists, items)

-- the actual for the first formal, where there is one, and then those for the others
one_more : (within : Within) (f : Formal) (fs : List Formal) (e : Option Expression) (es : List (Option Expression)) (lists : Lists) (actuals : List Actual)
    → behind (actuals ++ (actual_if within f e lists).1) (actuals_made within fs es (actual_if within f e lists).0)
    ≡ behind actuals (actuals_made within (f ∷ fs) (e ∷ es) lists)
unfolding actuals_made
one_more within f fs None es lists actuals = ap (λ xs. behind xs (actuals_made within fs es lists)) (append-nil actuals)
one_more within f fs (Some e) es lists actuals =
    ap (with_items (actuals_made within fs es (actual_if within f (Some e) lists).0).0)
    (append_assoc actuals (actual_if within f (Some e) lists).1 (actuals_made within fs es (actual_if within f (Some e) lists).0).1)

pub actuals_more : (within : Within) (i : ℕ) (formals : List Formal) (f : Formal) (arguments : List (Argument Expression)) (before after : Lists)
    (actuals more : List Actual)
    → i < length formals → f ≡ get_or formals i f → Added (actual_if within f (argument_from i f.name 0 arguments)) before after actuals more
    → behind more (actuals_from within (i + 1) (drop (i + 1) formals) arguments after)
    ≡ behind actuals (actuals_from within i (drop i formals) arguments before)
unfolding arguments_from
actuals_more within i formals f arguments before after actuals more l is added =
    let cut : drop i formals ≡ f ∷ drop (i + 1) formals = drop_more formals i f l ∙ ap (λ x. x ∷ drop (i + 1) formals) (sym is) in
    let next : i + 1 ≡ suc i = omega arith in
    let rest : List Formal = drop (i + 1) formals in
    let es : List (Option Expression) = arguments_from (suc i) (names_of rest) arguments in
    let e : Option Expression = argument_from i f.name 0 arguments in
    ap (λ n. behind more (actuals_from within n rest arguments after)) next
    ∙ ap (λ lists. behind more (actuals_made within rest es lists)) added.0
    ∙ ap (λ xs. behind xs (actuals_made within rest es (actual_if within f e before).0)) added.1
    ∙ one_more within f rest e es before actuals
    ∙ ap (λ fs. behind actuals (actuals_from within i fs arguments before)) (sym cut)
