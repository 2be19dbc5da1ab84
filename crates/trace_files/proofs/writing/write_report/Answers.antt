use Rattle.std.proofs.Common.{◌≡◌, ◌∙◌, ◌+◌, ◌<◌, ap, length, [], ◌++◌, arith}
use Rattle.std.specs.List.{slice_get}
use Rattle.run_report.specs.Kept.{accounts_in}
use Rattle.run_report.specs.Texts.{totals_text, text_in}
use Rattle.trace_files.proofs.AccountLines.{one_more_account, cut_account, totals_cut, totals_written, pushed_line, as_many}
use Rattle.trace_files.proofs.writing.write_report.Goals as goal

pub returns-in_err-write_line-clause-prefix : goal.returns-in_err-write_line-clause-prefix
returns-in_err-write_line-clause-prefix g c =
    let report = c.args.report.now in
    let accounts = accounts_in report in
    let place = c.loop-place.place in
    let here : place < length accounts = omega (arith, as_many report.kept, c.len-place-end.ensures, c.loop-place-test.true) in
    cut_account c.from_residual-in_err-write_line.result (g.K.Sink.held c.args.out.now) (g.K.Sink.held c.loop-place.out)
    (g.K.Sink.held c.write_line.new.out) accounts place (totals_text report.agent_run report.idle report.seen.tick) (text_in report) c.bytes.result.now
    here c.loop-place.invariant.text
    (pushed_line (slice_get accounts place) c.bytes.result.now c.clear.new.self c.push_account.new.buffer c.clear.ensures c.bytes.ensures.bytes
    c.push_account.ensures) c.in_err-write_line.ensures.prefix

pub loop-place-preserved : goal.loop-place-preserved
loop-place-preserved g c =
    let report = c.args.report.now in
    let accounts = accounts_in report in
    let place = c.loop-place.place in
    let here : place < length accounts = omega (arith, as_many report.kept, c.len-place-end.ensures, c.loop-place-test.true) in
    record {
      text =
          one_more_account (g.K.Sink.held c.args.out.now) (g.K.Sink.held c.loop-place.out) (g.K.Sink.held c.write_line.new.out) accounts place
          (totals_text report.agent_run report.idle report.seen.tick) (text_in report) c.bytes.result.now
          here c.loop-place.invariant.text
          (pushed_line (slice_get accounts place) c.bytes.result.now c.clear.new.self c.push_account.new.buffer c.clear.ensures c.bytes.ensures.bytes
          c.push_account.ensures) c.in_ok-write_line.ensures.written;
      monotone = omega (arith, c.in_ok-write_line.ensures.monotone, c.loop-place.invariant.monotone);
    }

pub returns-clause-written : goal.returns-clause-written
returns-clause-written g c =
    let report = c.args.report.now in
    let end : c.loop-place.place ≡ length (accounts_in report) =
    omega (arith, as_many report.kept, c.len-place-end.ensures, c.loop-place-test.false, c.loop-place.auto.place-end) in
    totals_written c.write_line-2.result (g.K.Sink.held c.args.out.now) (g.K.Sink.held c.loop-place.out) (g.K.Sink.held c.write_line-2.new.out)
    (accounts_in report) c.loop-place.place (totals_text report.agent_run report.idle report.seen.tick) (text_in report) c.bytes-2.result.now
    end c.loop-place.invariant.text
    (c.bytes-2.ensures.bytes ∙ c.write_totals.ensures ∙ ap (λ xs. xs ++ totals_text c.agent_run.result c.idle.result c.ticks.result) c.clear-2.ensures
    ∙ ap (λ n. totals_text n c.idle.result c.ticks.result) c.agent_run.ensures.kept
    ∙ ap (λ n. totals_text report.agent_run n c.ticks.result) c.idle.ensures.kept
    ∙ ap (λ n. totals_text report.agent_run report.idle n) c.ticks.ensures.kept)
    c.write_line-2.ensures.written

pub returns-clause-prefix : goal.returns-clause-prefix
returns-clause-prefix g c =
    let report = c.args.report.now in
    let end : c.loop-place.place ≡ length (accounts_in report) =
    omega (arith, as_many report.kept, c.len-place-end.ensures, c.loop-place-test.false, c.loop-place.auto.place-end) in
    totals_cut c.write_line-2.result (g.K.Sink.held c.args.out.now) (g.K.Sink.held c.loop-place.out) (g.K.Sink.held c.write_line-2.new.out)
    (accounts_in report) c.loop-place.place (totals_text report.agent_run report.idle report.seen.tick) (text_in report) c.bytes-2.result.now
    end c.loop-place.invariant.text
    (c.bytes-2.ensures.bytes ∙ c.write_totals.ensures ∙ ap (λ xs. xs ++ totals_text c.agent_run.result c.idle.result c.ticks.result) c.clear-2.ensures
    ∙ ap (λ n. totals_text n c.idle.result c.ticks.result) c.agent_run.ensures.kept
    ∙ ap (λ n. totals_text report.agent_run n c.ticks.result) c.idle.ensures.kept
    ∙ ap (λ n. totals_text report.agent_run report.idle n) c.ticks.ensures.kept)
    c.write_line-2.ensures.prefix
