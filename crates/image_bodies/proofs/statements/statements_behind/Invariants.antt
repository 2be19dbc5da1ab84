use Rattle.std.proofs.Common.{◌≡◌, ◌≤◌, drop, length}
use Rattle.ada_image.specs.ImageOfStatements.{statements_put}
use Rattle.image_bodies.proofs.statements.statements_behind.Given as goal

-- the statements from the place on are made
abbrev pub invariant-loop-place : goal.invariant-loop-place
invariant-loop-place g l = record {
  in_range : l.place ≤ length l.statements;
  made : statements_put g.Q.MakeSequence.making l.within (drop l.place l.statements) l.fn.next l.fn.lists ≡ (l.lists, l.later);
}

abbrev pub decreases-loop-place : goal.decreases-loop-place
decreases-loop-place g l = l.place
