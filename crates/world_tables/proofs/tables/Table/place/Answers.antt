use Rattle.std.proofs.Common.{rules, arith, ◌≤◌, length, nat_lt}
use Rattle.std.proofs.lemmas.List.Sorted.{IsPartitionPoint-from_clause, IsPartitionedBy-ltb}
use Rattle.world_tables.proofs.PlaceLemmas.{rises-between, divides-from_point}
use Rattle.world_tables.proofs.tables.Table.place.Goals as goal

pub returns : goal.returns
returns g c =
    let es = c.self.inside.entries.items in
    let parted = IsPartitionedBy-ltb (λ e. e.0) es c.args.number (λ i j d le lt. rises-between es i j d c.self.invariant le lt) in
    let point = IsPartitionPoint-from_clause (λ e. nat_lt e.0 c.args.number) _ _ c.partition_point.ensures.partitioned parted (λ a r q k. search rules) in
    let within : c.partition_point.result ≤ length es = let long = c.self.inside.entries.ok.0 in omega (arith, c.partition_point.ensures.bound) in
    rw (← c.self.view_is) (divides-from_point c.args.number es _ within point)
