use Rattle.std.proofs.Common.{◌≡◌, ap, ◌∙◌}
use Rattle.world_tables.proofs.PlaceLemmas.{put-stands, IsRising-put}
use Rattle.world_tables.proofs.tables.Table.put.Goals as goal

pub invariant_of-self : goal.invariant_of-self
invariant_of-self g c =
    let n = c.args.number in
    let x = c.args.item in
    let es = c.self.inside.entries.items in
    let stands = rw (← c.self.view_is) at c.in-Ok.ensures.place in
    let number : c.index_mut.result.now.0 ≡ n = ap (λ e. e.0) c.index_mut.ensures.value ∙ stands.number c.index_mut.result.now in
    rw (number, ← put-stands n x es c.in-Ok.place c.self.invariant stands) (IsRising-put n x es c.self.invariant)

pub returns-in-Ok-clause-ok : goal.returns-in-Ok-clause-ok
returns-in-Ok-clause-ok g c =
    let n = c.args.number in
    let es = c.self.inside.entries.items in
    let stands = rw (← c.self.view_is) at c.in-Ok.ensures.place in
    let number : c.index_mut.result.now.0 ≡ n = ap (λ e. e.0) c.index_mut.ensures.value ∙ stands.number c.index_mut.result.now in
    rw (number, ← c.self.view_is, put-stands n c.args.item es c.in-Ok.place c.self.invariant stands)
