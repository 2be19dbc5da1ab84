use Rattle.std.proofs.Common.{rules}
use Rattle.trace_text.specs.Text.{IsPrintableLine}
use Rattle.trace_text.specs.Lent.{event_lent}
use Rattle.machine_kernel.proofs.KernelLemmas.{printable-tick}
use Rattle.machine_kernel.proofs.kernel.Kernel.tell_of_tick.Goals as goal

pub returns-in-Some-clause-printable : goal.returns-in-Some-clause-printable
returns-in-Some-clause-printable c =
    let p : IsPrintableLine c.args.self.now.told_at (event_lent c.tick_event.result) = record { tick_fits = search rules; within = c.write_line.ensures.within; printable = c.tick_event.ensures.printable } in
    printable-tick c.args.self.now c.in-Some.line.now (event_lent c.tick_event.result) c.requires.said c.in-Some.ensures c.tick_event.ensures.event p
