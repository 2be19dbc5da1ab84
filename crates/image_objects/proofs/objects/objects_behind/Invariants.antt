use Rattle.std.proofs.Common.{◌≡◌, ◌≤◌, drop, length}
use Rattle.ada_image.specs.ImageOfDeclarations.{objects_put}
use Rattle.image_objects.proofs.objects.objects_behind.Given as goal

-- the objects from the place on are made
abbrev pub invariant-loop-place : goal.invariant-loop-place
invariant-loop-place l = record {
  in_range : l.place ≤ length l.identifiers;
  made : objects_put l.within l.part l.value (drop l.place l.identifiers) l.fn.next l.fn.lists ≡ (l.lists, l.later);
}

abbrev pub decreases-loop-place : goal.decreases-loop-place
decreases-loop-place l = l.place
