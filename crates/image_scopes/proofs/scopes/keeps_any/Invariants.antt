use Rattle.std.proofs.Common.{◌≡◌}
use Rattle.std.specs.List.{filter, list_any}
use Rattle.std.specs.VecDeque.Iter.{deque_iter_rest}
use Rattle.ada_image.specs.Layout.{is_in_scope, keeps}
use Rattle.image_scopes.proofs.scopes.keeps_any.Given as goal

-- the declarations that are to come tell what all of them tell
abbrev pub invariant-loop-declaration : goal.invariant-loop-declaration
invariant-loop-declaration l =
    list_any (λ d. keeps d.sort d.subtype) (filter (is_in_scope l.scope) (deque_iter_rest l.declaration-iterator))
    ≡ list_any (λ d. keeps d.sort d.subtype) (filter (is_in_scope l.scope) l.names.declarations)
