use Rattle.std.proofs.Common.{◌≡◌, ◌++◌, [], drop, take}
use Rattle.std.specs.VecDeque.Iter.{deque_iter_rest}
use Rattle.ada_image.specs.ImageOfUnits.{declarations_made}
use Rattle.image_initials.proofs.declarations.declarations_made.Given as goal

-- those that are made, and those that are still made from here on, are all that are made from the start on
abbrev pub invariant-loop-declaration : goal.invariant-loop-declaration
invariant-loop-declaration l = record {
  rest : deque_iter_rest l.declaration-iterator ≡ drop l.before l.within.names.declarations;
  lists : (declarations_made l.within (take l.before l.within.names.declarations) (deque_iter_rest l.declaration-iterator) l.lists).0
      ≡ (declarations_made l.within [] l.within.names.declarations l.fn.lists).0;
  made : l.made ++ (declarations_made l.within (take l.before l.within.names.declarations) (deque_iter_rest l.declaration-iterator) l.lists).1
      ≡ (declarations_made l.within [] l.within.names.declarations l.fn.lists).1;
}
