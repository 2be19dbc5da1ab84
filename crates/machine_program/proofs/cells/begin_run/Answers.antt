use Rattle.std.proofs.Common.{arith, refl, subst, ℕ, ◌≡◌, ◌-◌, ◌++◌, take, drop, replicate}
use Rattle.std.proofs.lemmas.Grind.{common_steps}
use Rattle.machine_program.proofs.CellRuns.{run_more, begun}
use Rattle.machine_program.proofs.cells.begin_run.Goals as goal

pub loop-place-preserved : goal.loop-place-preserved
loop-place-preserved c = record {
  before =
      run_more c.args.cells.now c.loop-place.cells c.min-first.result c.loop-place.place c.args.run.value (omega arith)
      (omega arith) c.loop-place.invariant.before;
  behind = grind (arith, common_steps);
}

pub returns : goal.returns
returns c =
    let place : c.loop-place.place ≡ c.min-end.result = omega arith in
    begun c.args.run c.args.cells.now c.loop-place.cells _ c.min-first.result c.min-end.result refl c.min-first.ensures c.min-end.ensures
    (subst (λ (e : ℕ). take e c.loop-place.cells
    ≡ take c.min-first.result c.args.cells.now ++ replicate (e - c.min-first.result) c.args.run.value) place c.loop-place.invariant.before)
    (subst (λ (e : ℕ). drop e c.loop-place.cells ≡ drop e c.args.cells.now) place c.loop-place.invariant.behind)
