use Rattle.std.proofs.Common.{◌≡◌, ◌≤◌, drop, length}
use Rattle.ada_image.specs.ImageOfStatements.{elsifs_put}
use Rattle.image_compounds.proofs.branches.if_put.Given as goal

-- the branches from the place on are made
abbrev pub invariant-loop-place : goal.invariant-loop-place
invariant-loop-place g l = record {
  in_range : l.place ≤ length l.elsifs;
  made : elsifs_put g.Q.MakeSequence.making l.within (drop l.place l.elsifs) l.initial.later l.next l.initial.lists ≡ (l.lists, l.later);
}

abbrev pub decreases-loop-place : goal.decreases-loop-place
decreases-loop-place g l = l.place
