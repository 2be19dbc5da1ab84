use Rattle.std.proofs.Common.{◌≡◌, ◌≤◌, drop, length}
use Rattle.ada_image.specs.ImageOfDeclarations.{declarations_put}
use Rattle.image_objects.proofs.declarations.declarations_put.Given as goal

-- the declarations from the place on are made
abbrev pub invariant-loop-place : goal.invariant-loop-place
invariant-loop-place g l = record {
  in_range : l.place ≤ length l.declarations;
  made : declarations_put l.within l.part (drop l.place l.declarations) l.fn.next l.fn.lists ≡ (l.lists, l.later);
}

abbrev pub decreases-loop-place : goal.decreases-loop-place
decreases-loop-place g l = l.place
