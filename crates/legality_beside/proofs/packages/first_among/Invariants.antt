use Rattle.std.proofs.Common.{◌≡◌, drop}
use Rattle.legality_beside.specs.Bodies.{first_among}
use Rattle.legality_beside.proofs.packages.first_among.Given as goal

-- what those that are to come give is what all give
abbrev pub invariant-loop-library : goal.invariant-loop-library
invariant-loop-library l = first_among l.names l.entity l.place (drop l.library-index l.packages) ≡ first_among l.names l.entity l.place l.packages
