use Rattle.std.proofs.Common.{◌≡◌, ◌∷◌, ◌++◌, drop}
use Rattle.ada_image.specs.ImageOfStatements.{alternatives_put}
use Rattle.image_compounds.proofs.branches.alternatives_put.Given as goal

-- the alternatives so far, and those to come, are what all give
abbrev pub invariant-loop-alternative : goal.invariant-loop-alternative
invariant-loop-alternative g l = record {
  lists : (alternatives_put g.Q.MakeSequence.making l.within (drop l.alternative-index l.fn.alternatives.others) l.next l.lists).0
      ≡ (alternatives_put g.Q.MakeSequence.making l.within (l.fn.alternatives.first ∷ l.fn.alternatives.others) l.next l.fn.lists).0;
  made : l.made ++ (alternatives_put g.Q.MakeSequence.making l.within (drop l.alternative-index l.fn.alternatives.others) l.next l.lists).1
      ≡ (alternatives_put g.Q.MakeSequence.making l.within (l.fn.alternatives.first ∷ l.fn.alternatives.others) l.next l.fn.lists).1;
}
