use Rattle.load_runs.proofs.MoreLines.{summary-told}
use Rattle.load_runs.proofs.tally.Tally.text.Goals as goal

pub returns : goal.returns
returns c =
    summary-told c.args.self.now c.deref-count-items.result.now c.loop-count.count-index c.loop-count.text.items c.deref.result.now
    c.extend_from_slice.new.self.items
    c.deref-count-items.ensures.value c.loop-count-test.false c.loop-count.invariant c.deref.ensures.value c.in_ok-extend_from_slice.ensures.items
