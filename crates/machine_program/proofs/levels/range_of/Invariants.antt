use Rattle.std.proofs.Common.{◌≡◌, drop}
use Rattle.profile_image.specs.Program.{range_of}
use Rattle.machine_program.proofs.levels.range_of.Given as goal

-- the ranges that are left give what all of them give
abbrev pub invariant-loop-range : goal.invariant-loop-range
invariant-loop-range l = range_of (drop l.range-index l.ranges) l.level ≡ range_of l.initial.ranges l.level
