use Rattle.world_tables.proofs.PlaceLemmas.{item_at-stands}
use Rattle.world_tables.proofs.tables.Table.get.Goals as goal

pub returns-in-Ok : goal.returns-in-Ok
returns-in-Ok g c =
    let stands = rw (← c.self.view_is) at c.in-Ok.ensures.place in
    let found = item_at-stands c.args.number c.self.inside.entries.items c.in-Ok.place c.index.result.now c.self.invariant stands in
    rw (← c.self.view_is) (cc)
