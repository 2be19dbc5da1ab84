use Rattle.std.proofs.Common.{◌≡◌, ◌++◌, drop}
use Rattle.ada_image.specs.ImageOfStatements.{handlers_put}
use Rattle.image_compounds.proofs.blocks.handlers_put.Given as goal

-- the handlers so far, and those to come, are what all give
abbrev pub invariant-loop-handler : goal.invariant-loop-handler
invariant-loop-handler g l = record {
  lists : (handlers_put g.Q.MakeSequence.making l.within (drop l.handler-index l.handlers) l.next l.lists).0
      ≡ (handlers_put g.Q.MakeSequence.making l.within l.handlers l.next l.fn.lists).0;
  made : l.made ++ (handlers_put g.Q.MakeSequence.making l.within (drop l.handler-index l.handlers) l.next l.lists).1
      ≡ (handlers_put g.Q.MakeSequence.making l.within l.handlers l.next l.fn.lists).1;
}
