use Rattle.std.proofs.Common.{◌≡◌, ◌++◌}
use Rattle.std.specs.VecDeque.Iter.{deque_iter_rest}
use Rattle.ada_image.specs.Layout.{scopes_made}
use Rattle.image_scopes.proofs.scopes.scopes_made.Given as goal

-- the scopes so far and those that are to come are all of them
abbrev pub invariant-loop-scope : goal.invariant-loop-scope
invariant-loop-scope l = l.made ++ scopes_made l.names l.firsts l.number (deque_iter_rest l.scope-iterator) ≡ scopes_made l.names l.firsts 0 l.names.scopes
