use Rattle.std.proofs.Common.{inl, inr, IsTrue, sym, subst, arith}
use Rattle.trace_text.specs.Laws.{DispatchOk, CeilingOk, ExclusiveOk, HandlersOk, LeftOk}
use Rattle.ceiling_laws.specs.CeilingLaws.{edf_is_below_interrupts}
use Rattle.release_laws.specs.ReleaseLaws.{ReleasesOk}
use Rattle.line_laws.specs.TickLaws.{SwitchesOk, ReleasesInOrder, StuckOk, follows_tick_order}
use Rattle.commands.specs.Asked.{asked_of}
use Rattle.commands.specs.Outside.{shelf_of, sink_of}
use Rattle.commands.proofs.RunsTold.{headline, headline_under, load_told, acceptance}
use Rattle.commands.proofs.TablesTold.{table_told, beyond}
use Rattle.commands.proofs.TracesTold.{trace_told, laws_told, report_told}
use Rattle.commands.proofs.DoneTold.{known_status, done_told, law_told, run_told, law_told_where, printable_told, quiet}
use Rattle.commands.proofs.FaultsTold.{refused_source, not_accepted, not_accepted_under, load_not_accepted, refused_script, no_script, kept, words}
use Rattle.commands.proofs.FaultsTold.{refused_words, note_words, read_fault, note_read, write_fault, prefix_told, note_tried, note_memory, breach}
use Rattle.commands.proofs.FaultsTold.{quiet_breach, refused_trace, kept_refused_trace, failure, quiet_failure, refused_table, kept_refused_table}
use Rattle.annexd.proofs.whole.top.Goals as goal

pub returns : goal.returns
returns g c =
    let asked = asked_of c.args.words.now in
    let shelf = shelf_of g.S.Shelf.files g.S.Shelf.faults c.args.shelf.now c.perform-outcome.new.shelf in
    let out = sink_of g.K.Sink.held g.K.Sink.faults c.args.out.now c.perform-outcome.new.out in
    let notes = sink_of g.K.Sink.held g.K.Sink.faults c.args.notes.now c.conclude.new.notes in
    let o = c.perform-outcome.result in
    let status = c.conclude.result in
    let p = c.perform-outcome.ensures.performed in
    let n = c.conclude.ensures.concluded in
    record {
      headline = headline asked shelf out notes o status p n;
      headline_under = headline_under asked shelf out notes o status p n;
      loaded = load_told asked shelf out notes o status p n;
      accepted = acceptance asked shelf out notes o status p n;
      tested = table_told asked shelf out notes o status p n;
      beyond = beyond asked shelf out notes o status p n;
      traced = trace_told asked shelf out notes o status p n;
      laws = laws_told c.verdicts_tell.ensures.says c.verdicts_tell.ensures.only asked shelf out notes o status p n;
      reported = report_told c.lines_tell.ensures.formed c.lines_tell.ensures.only asked shelf out notes o status p n;
      statuses = known_status asked shelf out notes o status p n;
      run = done_told asked shelf out notes o status p n;
      printable = printable_told asked shelf out notes o status p n;
      dispatch = law_told DispatchOk c.runs_dispatch.ensures asked shelf out notes o status p n;
      ceilings =
          law_told_where (λ p. IsTrue (edf_is_below_interrupts p))
          (λ bytes image fits.
          subst (λ p. IsTrue (edf_is_below_interrupts p)) (sym fits.numbered) (c.deadlines_are_below_interrupts.ensures fits.tree fits.unbroken))
          CeilingOk c.runs_keep_the_law_of_ceilings.ensures asked shelf out notes o status p n;
      exclusion = law_told ExclusiveOk c.runs_keep_exclusion.ensures asked shelf out notes o status p n;
      in_tick_order = law_told (λ lines. IsTrue (follows_tick_order lines)) c.runs_are_in_tick_order.ensures asked shelf out notes o status p n;
      switches = law_told SwitchesOk c.runs_switch.ensures asked shelf out notes o status p n;
      releases_in_order = law_told ReleasesInOrder c.runs_release_in_order.ensures asked shelf out notes o status p n;
      release_causes = run_told ReleasesOk c.lines_tell_releases.ensures asked shelf out notes o status p n;
      handlers = law_told HandlersOk c.runs_keep_handlers.ensures asked shelf out notes o status p n;
      leaving = law_told LeftOk c.runs_leave_rightly.ensures asked shelf out notes o status p n;
      stuck = law_told StuckOk c.runs_are_rightly_stuck.ensures asked shelf out notes o status p n;
      quiet = quiet o notes status n;
      refused_source = refused_source asked shelf out notes o status p n;
      not_accepted = not_accepted asked shelf out notes o status p n;
      not_accepted_under = not_accepted_under asked shelf out notes o status p n;
      load_not_accepted = load_not_accepted asked shelf out notes o status p n;
      kept_4 = λ e. kept asked shelf out notes o status p n (omega (arith, e)) (omega (arith, e));
      refused_script = refused_script asked shelf out notes o status p n;
      no_script = no_script asked shelf out notes o status p n;
      kept_5 = λ e. kept asked shelf out notes o status p n (omega (arith, e)) (omega (arith, e));
      words = words asked shelf out notes o status p n;
      refused_words = refused_words asked shelf out notes o status p n;
      kept_6 = λ e. kept asked shelf out notes o status p n (omega (arith, e)) (omega (arith, e));
      note_6 = note_words o notes status n;
      read_fault = read_fault asked shelf out notes o status p n;
      kept_7 = λ e. kept asked shelf out notes o status p n (omega (arith, e)) (omega (arith, e));
      note_7 = note_read o notes status n;
      write_fault = write_fault asked shelf out notes o status p n;
      prefix_8 = λ e. prefix_told asked shelf out notes o status p n (inl e);
      note_8 = note_tried asked shelf out notes o status p n;
      prefix_9 = λ e. prefix_told asked shelf out notes o status p n (inr e);
      note_9 = note_memory o notes status n;
      broken = breach asked shelf out notes o status p n;
      quiet_10 = quiet_breach o notes status n;
      refused_trace = refused_trace asked shelf out notes o status p n;
      kept_11 = kept_refused_trace asked shelf out notes o status p n;
      failed_test = failure asked shelf out notes o status p n;
      quiet_12 = quiet_failure o notes status n;
      refused_table = refused_table asked shelf out notes o status p n;
      kept_13 = kept_refused_table asked shelf out notes o status p n;
      monotone_shelf = c.perform-outcome.ensures.monotone_shelf;
      monotone_out = c.perform-outcome.ensures.monotone_out;
      monotone_notes = c.conclude.ensures.monotone;
    }
