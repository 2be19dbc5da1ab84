use Rattle.std.proofs.Common.{◌∙◌, ◌+◌, [], refl, arith}
use Rattle.outside_bytes.specs.Files.{told, left_of}
use Rattle.trace_files.specs.declared.reporting.FileReport.TheVariants as answer
use Rattle.trace_files.specs.Texts.{IsLeft}
use Rattle.trace_files.specs.Reported.{Reporting, IsReported}
use Rattle.trace_files.proofs.JudgedOn.{told_map}
use Rattle.trace_files.proofs.ReportedOn.{reporting_first, reported_whole, reported_refused, reported_fault, reporting_on}
use Rattle.trace_files.proofs.reporting.report_file.Goals as goal

pub loop-report-init : goal.loop-report-init
loop-report-init g c = record {
  reporting =
      told_map (told (g.S.Shelf.files c.args.shelf.now) c.args.name.now)
      (IsLeft c.in_ok-trace.trace (left_of (g.S.Shelf.files c.open.new.shelf) (g.S.Shelf.at c.open.new.shelf)))
      (λ file. Reporting file c.new-report.result c.in_ok-trace.trace (left_of (g.S.Shelf.files c.open.new.shelf) (g.S.Shelf.at c.open.new.shelf)))
      (λ file left. reporting_first ((c.tests_tell.ensures.formed []).0 refl) file c.new-report.result c.in_ok-trace.trace
      (left_of (g.S.Shelf.files c.open.new.shelf)
      (g.S.Shelf.at c.open.new.shelf)) c.new-report.ensures c.in_ok-trace.ensures.first left) c.in_ok-trace.ensures.left;
  sound = (omega (arith, c.in_ok-trace.ensures.first), omega (arith, c.in_ok-trace.ensures.first));
  files = c.in_ok-trace.ensures.files;
  picked = c.in_ok-trace.ensures.picked;
  monotone = c.in_ok-trace.ensures.monotone;
}

pub returns-in-End-clause-reported : goal.returns-in-End-clause-reported
returns-in-End-clause-reported g c =
    let trace = c.loop-report.trace in
    let left = left_of (g.S.Shelf.files c.loop-report.shelf) (g.S.Shelf.at c.loop-report.shelf) in
    told_map (told (g.S.Shelf.files c.args.shelf.now) c.args.name.now) (λ file. Reporting file c.loop-report.report trace left)
    (λ file. IsReported file (answer.Formed c.loop-report.report))
    (λ file j. reported_whole file c.loop-report.report trace left j (rw c.in-End.is at c.in_ok-next.ensures.next)) c.loop-report.invariant.reporting

pub returns-in-Refused-clause-reported : goal.returns-in-Refused-clause-reported
returns-in-Refused-clause-reported g c =
    let trace = c.loop-report.trace in
    let left = left_of (g.S.Shelf.files c.loop-report.shelf) (g.S.Shelf.at c.loop-report.shelf) in
    told_map (told (g.S.Shelf.files c.args.shelf.now) c.args.name.now) (λ file. Reporting file c.loop-report.report trace left)
    (λ file. IsReported file (answer.Refused (c.next.new.self.count + 1)))
    (λ file j. reported_refused file c.loop-report.report trace left c.next.new.self.count j (rw c.in-Refused.is at c.in_ok-next.ensures.next)
    (rw c.in-Refused.is at c.in_ok-next.ensures.counted)) c.loop-report.invariant.reporting

pub returns-in-Err-Fault-clause-reported : goal.returns-in-Err-Fault-clause-reported
returns-in-Err-Fault-clause-reported g c =
    let trace = c.loop-report.trace in
    let left = left_of (g.S.Shelf.files c.loop-report.shelf) (g.S.Shelf.at c.loop-report.shelf) in
    let after = left_of (g.S.Shelf.files c.next.new.shelf) (g.S.Shelf.at c.next.new.shelf) in
    let goes = rw c.in-Line.is at c.in_ok-next.ensures.next in
    let counted = rw c.in-Line.is at c.in_ok-next.ensures.counted in
    let malformed = rw c.in-Err-Fault.field-0-is at c.in-Err-Fault.ensures.malformed in
    told_map (told (g.S.Shelf.files c.args.shelf.now) c.args.name.now) (λ file. Reporting file c.loop-report.report trace left)
    (λ file. IsReported file (answer.Refused c.next.new.self.count))
    (λ file j.
    reported_fault c.tests_tell.ensures.formed file c.loop-report.report trace left c.in-Line.tick c.in-Line.event c.next.new.self after j goes counted.1
    (λ lines formed stands. (malformed lines formed stands).0 tt)) c.loop-report.invariant.reporting

pub loop-report-preserved : goal.loop-report-preserved
loop-report-preserved g c =
    let trace = c.loop-report.trace in
    let left = left_of (g.S.Shelf.files c.loop-report.shelf) (g.S.Shelf.at c.loop-report.shelf) in
    let after = left_of (g.S.Shelf.files c.next.new.shelf) (g.S.Shelf.at c.next.new.shelf) in
    let goes = rw c.in-Line.is at c.in_ok-next.ensures.next in
    let counted = rw c.in-Line.is at c.in_ok-next.ensures.counted in
    record {
      reporting =
          told_map (told (g.S.Shelf.files c.args.shelf.now) c.args.name.now) (λ file. Reporting file c.loop-report.report trace left)
          (λ file. Reporting file c.line.new.self c.next.new.self after)
          (λ file j. reporting_on c.tests_tell.ensures.formed file c.loop-report.report trace left c.in-Line.tick c.in-Line.event c.next.new.self after
          c.line.new.self j goes counted.1
          (λ lines formed stands. (c.in-Ok.ensures.malformed lines formed stands).1) c.in-Ok.ensures.stands) c.loop-report.invariant.reporting;
      sound = c.in_ok-next.ensures.sound;
      files = c.in_ok-next.ensures.files ∙ c.loop-report.invariant.files;
      picked = c.in_ok-next.ensures.picked;
      monotone = omega (arith, c.in_ok-next.ensures.monotone, c.loop-report.invariant.monotone);
    }
