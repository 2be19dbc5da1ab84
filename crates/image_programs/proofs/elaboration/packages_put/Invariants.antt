use Rattle.std.proofs.Common.{◌≡◌, ◌≤◌, drop, length}
use Rattle.ada_image.specs.ImageOfUnits.{packages_put}
use Rattle.image_programs.proofs.elaboration.packages_put.Given as goal

-- the packages from the place on are made
abbrev pub invariant-loop-place : goal.invariant-loop-place
invariant-loop-place l = record {
  in_range : l.place ≤ length l.packages;
  made : packages_put l.packages l.within (drop l.place l.packages) l.fn.next l.fn.lists ≡ (l.lists, l.later);
}

abbrev pub decreases-loop-place : goal.decreases-loop-place
decreases-loop-place l = l.place
