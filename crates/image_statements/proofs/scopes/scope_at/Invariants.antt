use Rattle.std.proofs.Common.{◌≡◌}
use Rattle.std.specs.VecDeque.Iter.{deque_iter_rest}
use Rattle.ada_image.specs.ImageOfStatements.{position_of_scope}
use Rattle.image_statements.proofs.scopes.scope_at.Given as goal

-- the scopes that are to come give what all of them give
abbrev pub invariant-loop-scope : goal.invariant-loop-scope
invariant-loop-scope l = position_of_scope l.number l.place (deque_iter_rest l.scope-iterator) ≡ position_of_scope 0 l.place l.names.scopes
