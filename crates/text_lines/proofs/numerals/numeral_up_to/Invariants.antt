use Rattle.std.proofs.Common.{◌≡◌, ◌≤◌, take}
use Rattle.text_lines.specs.Numerals.{numeral_value}
use Rattle.text_lines.proofs.numerals.numeral_up_to.Given as goal

abbrev pub invariant-loop-digit : goal.invariant-loop-digit
invariant-loop-digit l = record {
  value : l.value ≡ numeral_value (take l.digit-index l.word);
  small : l.value ≤ l.most;
}
