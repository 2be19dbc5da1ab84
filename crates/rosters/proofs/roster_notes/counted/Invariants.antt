use Rattle.std.proofs.Common.{◌≡◌, ◌<◌, None, Some, map, take}
use Rattle.std.specs.Option.{IsSome}
use Rattle.rosters.specs.RosterNotes.{AreRight, InOrder}
use Rattle.rosters.specs.declared.roster_notes.Order.{Order}
use Rattle.rosters.proofs.roster_notes.counted.Given as goal

-- the notes are right about the items so far, and know their order if all are in one
abbrev pub invariant-loop-place : goal.invariant-loop-place
invariant-loop-place g l = record {
  none_lent : l.notes.lent ≡ None;
  right : AreRight g.T.Numbered (take l.place l.items.items) l.notes;
  begun : (o : Order) → InOrder o (map g.T.Numbered.number l.items.items) → 0 < l.place → IsSome l.notes.order;
  kept : (o : Order) → InOrder o (map g.T.Numbered.number l.items.items) → 1 < l.place → l.notes.order ≡ Some o;
}
