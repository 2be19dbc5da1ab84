use Rattle.std.proofs.Common.{◌≡◌, ◌++◌, drop}
use Rattle.ada_legality.specs.Aspects.{aspects_read}
use Rattle.legality_parts.proofs.aspects.aspects_in_order.Given as goal

-- the parts so far and those to come are all, and what was found by now and what is to be found is all
abbrev pub invariant-loop-aspect : goal.invariant-loop-aspect
invariant-loop-aspect l = record {
  read : l.parts ++ (aspects_read (drop l.aspect-index l.aspects) l.known).0 ≡ (aspects_read l.aspects l.known).0;
  told : l.found ++ (aspects_read (drop l.aspect-index l.aspects) l.known).1 ≡ l.initial.found ++ (aspects_read l.aspects l.known).1;
}
