use Rattle.std.proofs.Common.{◌≡◌, drop}
use Rattle.std.specs.List.{list_any}
use Rattle.ada_legality.specs.Choices.{meet}
use Rattle.ada_legality.specs.Pragmas.{range_of_pragma}
use Rattle.legality_pragmas.proofs.clashes.meets_any.Given as goal

-- the ranges that are to come meet it where some of all do
abbrev pub invariant-loop-earlier : goal.invariant-loop-earlier
invariant-loop-earlier l =
    list_any (λ q. meet l.range (range_of_pragma l.last q)) (drop l.earlier-index l.before) ≡ list_any (λ q. meet l.range (range_of_pragma l.last q)) l.before
