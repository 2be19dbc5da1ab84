use Rattle.std.proofs.Common.{rules}
use Rattle.outside_memory.proofs.FilesLemmas.{stands, passes}
use Rattle.outside_memory.proofs.memory.position_of.Goals as goal

pub returns-then-eq : goal.returns-then-eq
returns-then-eq c =
    stands c.args.files.now c.args.name.now c.as_slice.result.now c.loop-place.place c.index-files-place.result c.loop-place-test.true c.index-files-place.is
    c.as_slice.ensures.value
    (search rules) c.loop-place.invariant

pub loop-place-preserved : goal.loop-place-preserved
loop-place-preserved c =
    passes c.args.files.now c.args.name.now c.as_slice.result.now c.loop-place.place c.index-files-place.result c.loop-place-test.true c.index-files-place.is
    c.as_slice.ensures.value
    (search rules) c.loop-place.invariant
