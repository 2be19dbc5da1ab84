use Rattle.std.proofs.Common.{◌≡◌, ◌+◌, ◌-◌, ◌/◌, true, false, map, Some, arith}
use Rattle.rosters.specs.RosterNotes.{comes_before, number_at}
use Rattle.rosters.proofs.RosterOrderLemmas.{all-before, none-before-from}
use Rattle.rosters.proofs.roster_notes.place_behind.Goals as goal

pub loop-low-preserved-then-comes_before : goal.loop-low-preserved-then-comes_before
loop-low-preserved-then-comes_before g c =
    let ns = map g.T.Numbered.number c.args.items.now.items in
    let middle = c.loop-low.low + (c.loop-low.high - c.loop-low.low) / 2 in
    let is : comes_before c.args.order (number_at ns middle) (Some c.args.number) ≡ true = cc in
    record {
      ends = omega arith;
      inside = c.loop-low.invariant.inside;
      front = all-before c.args.order c.args.number ns c.requires middle is;
      back = c.loop-low.invariant.back;
    }

pub loop-low-preserved : goal.loop-low-preserved
loop-low-preserved g c =
    let ns = map g.T.Numbered.number c.args.items.now.items in
    let middle = c.loop-low.low + (c.loop-low.high - c.loop-low.low) / 2 in
    let is : comes_before c.args.order (number_at ns middle) (Some c.args.number) ≡ false = cc in
    record {
      ends = omega arith;
      inside = omega arith;
      front = c.loop-low.invariant.front;
      back = none-before-from c.args.order c.args.number ns c.requires middle is;
    }
