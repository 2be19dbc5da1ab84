use Rattle.world_tables.proofs.PlaceLemmas.{put-misses, IsRising-put}
use Rattle.world_tables.proofs.tables.Table.insert.Goals as goal
use Rattle.world_tables.proofs.tables.Table.insert.Goals.{in-Ok, in-Err}

pub invariant_of-self : goal.invariant_of-self
invariant_of-self g c =
    let n = c.args.number in
    let x = c.args.item in
    let es = c.self.inside.entries.items in
    let misses = rw (← c.self.view_is) at c.requires in
    elim c.match-insert.branch [
      | in-Ok w ↦ rw (w.in-Ok.ensures.items, ← put-misses n x es c.args.place c.self.invariant misses) (IsRising-put n x es c.self.invariant)
      | in-Err w ↦ rw w.in-Err.ensures.unchanged.0 c.self.invariant
    ]

pub returns-clause-ok : goal.returns-clause-ok
returns-clause-ok g c =
    let misses = rw (← c.self.view_is) at c.requires in
    elim c.match-insert.branch [
      | in-Ok w ↦ rw (w.result-is, w.in-Ok.ensures.items, ← c.self.view_is, put-misses c.args.number c.args.item c.self.inside.entries.items c.args.place c.self.invariant misses)
      | in-Err w ↦ rw w.result-is tt
    ]
