use Rattle.std.proofs.Common.{◌≡◌, ◌++◌, drop}
use Rattle.ada_legality.specs.Choices.{choices_read}
use Rattle.legality_cases.proofs.choices.choices_in_order.Given as goal

-- the parts so far and those to come are all, and what was found by now and what is to be found is all
abbrev pub invariant-loop-choice : goal.invariant-loop-choice
invariant-loop-choice l = record {
  read : l.parts ++ (choices_read l.t (drop l.choice-index l.choices) l.known).0 ≡ (choices_read l.t l.choices l.known).0;
  told : l.found ++ (choices_read l.t (drop l.choice-index l.choices) l.known).1 ≡ l.initial.found ++ (choices_read l.t l.choices l.known).1;
}
