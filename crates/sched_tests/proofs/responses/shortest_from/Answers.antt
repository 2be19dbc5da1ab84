use Rattle.std.proofs.Common.{◌+◌, arith, sym, subst}
use Rattle.sched_tests.specs.declared.responses.TheConstants.{SCALE}
use Rattle.sched_tests.specs.declared.duties.Duty.{Duty}
use Rattle.sched_tests.specs.Response.{need}
use Rattle.sched_tests.specs.Tables.{IsDuty}
use Rattle.sched_tests.proofs.Floors.{need_floor, long_enough, never_enough}
use Rattle.sched_tests.proofs.responses.shortest_from.Goals as goal

pub returns-then-share-lt-SCALE : goal.returns-then-share-lt-SCALE
returns-then-share-lt-SCALE c = λ k long short enough.
    let reached =
    long_enough (c.index-duties-place.result.cost + c.index-duties-place.result.blocking + c.floor_of-above.result.once + c.floor_of-below.result.once)
    (c.floor_of-above.result.share + c.floor_of-below.result.share) k (need c.args.duties.now c.args.place k) SCALE
    (rw (c.floor_of-above.ensures.once, c.floor_of-below.ensures.once, c.floor_of-above.ensures.share, c.floor_of-below.ensures.share, c.behind.ensures)
    (need_floor c.args.duties.now c.args.place c.args.window k c.index-duties-place.result c.requires.place c.index-duties-place.is c.requires.window long))
    enough c.if-share-lt-SCALE.true in
    omega (arith, c.div_ceil.ensures)

pub returns-else-share-lt-SCALE : goal.returns-else-share-lt-SCALE
returns-else-share-lt-SCALE c = λ k long short enough.
    let P : Duty → Type 0 = λ duty. IsDuty duty in
    let own : IsDuty c.index-duties-place.result =
    subst P (sym c.index-duties-place.is) (c.requires.table.each c.args.place c.index-duties-place.result c.requires.place) in
    never_enough (c.index-duties-place.result.cost + c.index-duties-place.result.blocking + c.floor_of-above.result.once + c.floor_of-below.result.once)
    (c.floor_of-above.result.share + c.floor_of-below.result.share) k (need c.args.duties.now c.args.place k) SCALE
    (rw (c.floor_of-above.ensures.once, c.floor_of-below.ensures.once, c.floor_of-above.ensures.share, c.floor_of-below.ensures.share, c.behind.ensures)
    (need_floor c.args.duties.now c.args.place c.args.window k c.index-duties-place.result c.requires.place c.index-duties-place.is c.requires.window long))
    enough c.if-share-lt-SCALE.false (omega (arith, own.costs)) (omega arith)
