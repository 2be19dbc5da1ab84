use Rattle.std.proofs.Common.{rules}
use Rattle.world_tables.specs.Rising.{Misses}
use Rattle.world_tables.proofs.PlaceLemmas.{item_at-misses}
use Rattle.world_tables.proofs.tables.Table.find.Goals as goal

pub returns-in_default-clause-absent : goal.returns-in_default-clause-absent
returns-in_default-clause-absent g c =
    let misses : Misses c.args.number c.args.self.now c.place-place.result = search rules in
    rw (← c.self.view_is) (item_at-misses c.args.number _ _ c.self.invariant (rw (← c.self.view_is) at misses))

pub returns-in_default-2-clause-absent : goal.returns-in_default-2-clause-absent
returns-in_default-2-clause-absent g c =
    let misses : Misses c.args.number c.args.self.now c.place-place.result = search rules in
    rw (← c.self.view_is) (item_at-misses c.args.number _ _ c.self.invariant (rw (← c.self.view_is) at misses))
