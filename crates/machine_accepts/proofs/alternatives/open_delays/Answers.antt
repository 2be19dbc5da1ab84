use Rattle.std.proofs.Common.{◌≡◌, Err, sym, ◌∙◌, arith}
use Rattle.std.proofs.lemmas.Grind.{common_steps}
use Rattle.std.specs.VecDeque.Iter.{deque_iter_rest}
use Rattle.machine_accepts.specs.Parts.{delay_in}
use Rattle.machine_accepts.proofs.AlternativeLemmas.{delays-fail}
use Rattle.machine_accepts.proofs.alternatives.open_delays.Goals as goal

pub returns-in-Err : goal.returns-in-Err
returns-in-Err c =
    let e : delay_in c.args.q.now c.in-Some.kind.now ≡ Err c.in-Err.exception = sym c.in_ok-delay.ensures ∙ c.in-Err.is in
    let f = delays-fail c.args.q.now c.in-Some.kind.now (deque_iter_rest c.next.new.self) c.in-Err.exception c.loop-kind.delays e in
    grind (arith, common_steps, f)
