use Rattle.text_lines.proofs.Digits.{over_stays}
use Rattle.text_lines.proofs.numerals.numeral_up_to.Goals as goal

pub returns-then-value-most : goal.returns-then-value-most
returns-then-value-most c =
    over_stays c.args.word.now c.loop-digit.digit-index c.args.most c.loop-digit.value c.loop-digit-test.true c.loop-digit.invariant.value c.if-value-most.true
