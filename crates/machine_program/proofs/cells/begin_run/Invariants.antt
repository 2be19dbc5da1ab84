use Rattle.std.proofs.Common.{◌≡◌, ◌-◌, ◌++◌, take, drop, replicate}
use Rattle.machine_program.proofs.cells.begin_run.Given as goal

-- the cells so far: those before the run and the run up to this place; the others are as they were
abbrev pub invariant-loop-place : goal.invariant-loop-place
invariant-loop-place l = record {
  before : take l.place l.cells ≡ take l.first l.initial.cells ++ replicate (l.place - l.first) l.run.value;
  behind : drop l.place l.cells ≡ drop l.place l.initial.cells;
}
