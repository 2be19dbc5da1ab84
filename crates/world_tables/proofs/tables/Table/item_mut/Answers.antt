use Rattle.std.proofs.Common.{◌≡◌, refl, ap, ◌∙◌}
use Rattle.world_tables.proofs.PlaceLemmas.{item_at-stands, with_item-stands, IsRising-with_item}
use Rattle.world_tables.proofs.tables.Table.item_mut.Goals as goal

pub invariant_of-self-lent : goal.invariant_of-self-lent
invariant_of-self-lent g c w =
    let es = c.self.inside.entries.items in
    let stands = rw (← c.self.view_is) at c.requires in
    let number : c.index_mut.result.now.0 ≡ c.args.number = ap (λ e. e.0) c.index_mut.ensures.value ∙ stands.number c.index_mut.result.now in
    rw (number, ← with_item-stands c.args.number w es c.args.place c.self.invariant stands) (IsRising-with_item c.args.number w es c.self.invariant)

pub returns : goal.returns
returns g c =
    let es = c.self.inside.entries.items in
    let stands = rw (← c.self.view_is) at c.requires in
    let number : c.index_mut.result.now.0 ≡ c.args.number = ap (λ e. e.0) c.index_mut.ensures.value ∙ stands.number c.index_mut.result.now in
    let found = item_at-stands c.args.number es c.args.place c.index_mut.result.now c.self.invariant stands in (
      (refl, λ w. rw (← c.self.view_is, number, with_item-stands c.args.number w es c.args.place c.self.invariant stands)),
      record { writes_back = tt; value = rw (← c.self.view_is) (cc) },
    )
