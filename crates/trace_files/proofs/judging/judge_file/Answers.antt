use Rattle.std.proofs.Common.{◌≡◌, ◌∙◌, ◌+◌, arith}
use Rattle.outside_bytes.specs.Files.{told, left_of}
use Rattle.trace_laws.specs.declared.verdicts.Verdict.TheVariants as verdict
use Rattle.trace_laws.specs.Verdicts.{laws_answer}
use Rattle.trace_files.specs.Texts.{IsLeft}
use Rattle.trace_files.specs.Judged.{Judged, verdict_on}
use Rattle.trace_files.proofs.JudgedOn.{told_map, judged_first, judged_refused, judged_fault, judged_on}
use Rattle.trace_files.proofs.judging.judge_file.Goals as goal

pub loop-laws-init : goal.loop-laws-init
loop-laws-init g c = record {
  judged =
      told_map (told (g.S.Shelf.files c.args.shelf.now) c.args.name.now)
      (IsLeft c.in_ok-trace.trace (left_of (g.S.Shelf.files c.open.new.shelf) (g.S.Shelf.at c.open.new.shelf)))
      (λ file. Judged file c.new-laws.result c.in_ok-trace.trace (left_of (g.S.Shelf.files c.open.new.shelf) (g.S.Shelf.at c.open.new.shelf)))
      (λ file left. judged_first c.answers_tell.ensures.lawful file c.new-laws.result c.in_ok-trace.trace
      (left_of (g.S.Shelf.files c.open.new.shelf)
      (g.S.Shelf.at c.open.new.shelf)) c.new-laws.ensures c.in_ok-trace.ensures.first left) c.in_ok-trace.ensures.left;
  sound = (omega (arith, c.in_ok-trace.ensures.first), omega (arith, c.in_ok-trace.ensures.first));
  files = c.in_ok-trace.ensures.files;
  picked = c.in_ok-trace.ensures.picked;
  monotone = c.in_ok-trace.ensures.monotone;
}

pub returns-in-Refused-clause-verdict : goal.returns-in-Refused-clause-verdict
returns-in-Refused-clause-verdict g c =
    let trace = c.loop-laws.trace in
    let left = left_of (g.S.Shelf.files c.loop-laws.shelf) (g.S.Shelf.at c.loop-laws.shelf) in
    told_map (told (g.S.Shelf.files c.args.shelf.now) c.args.name.now) (λ file. Judged file c.loop-laws.laws trace left)
    (λ file. laws_answer file ≡ verdict.Refused (c.next.new.self.count + 1))
    (λ file j. judged_refused file c.loop-laws.laws trace left c.next.new.self.count j (rw c.in-Refused.is at c.in_ok-next.ensures.next)
    (rw c.in-Refused.is at c.in_ok-next.ensures.counted)) c.loop-laws.invariant.judged

pub returns-in-Err-Fault-clause-verdict : goal.returns-in-Err-Fault-clause-verdict
returns-in-Err-Fault-clause-verdict g c =
    let trace = c.loop-laws.trace in
    let left = left_of (g.S.Shelf.files c.loop-laws.shelf) (g.S.Shelf.at c.loop-laws.shelf) in
    let after = left_of (g.S.Shelf.files c.next.new.shelf) (g.S.Shelf.at c.next.new.shelf) in
    let goes = rw c.in-Line.is at c.in_ok-next.ensures.next in
    let counted = rw c.in-Line.is at c.in_ok-next.ensures.counted in
    let answers = rw c.in-Err-Fault.field-0-is at c.in-Err-Fault.ensures.answer in
    rw c.verdict_on.ensures
    (told_map (told (g.S.Shelf.files c.args.shelf.now) c.args.name.now) (λ file. Judged file c.loop-laws.laws trace left)
    (λ file. laws_answer file ≡ verdict_on c.in-Err-Fault.fault c.next.new.self.count)
    (λ file j. judged_fault file c.loop-laws.laws trace left c.in-Line.tick c.in-Line.event c.next.new.self after c.in-Err-Fault.fault j goes counted.1
    answers) c.loop-laws.invariant.judged)

pub loop-laws-preserved : goal.loop-laws-preserved
loop-laws-preserved g c =
    let trace = c.loop-laws.trace in
    let left = left_of (g.S.Shelf.files c.loop-laws.shelf) (g.S.Shelf.at c.loop-laws.shelf) in
    let after = left_of (g.S.Shelf.files c.next.new.shelf) (g.S.Shelf.at c.next.new.shelf) in
    let goes = rw c.in-Line.is at c.in_ok-next.ensures.next in
    let counted = rw c.in-Line.is at c.in_ok-next.ensures.counted in
    record {
      judged =
          told_map (told (g.S.Shelf.files c.args.shelf.now) c.args.name.now) (λ file. Judged file c.loop-laws.laws trace left)
          (λ file. Judged file c.line.new.self c.next.new.self after)
          (λ file j. judged_on file c.loop-laws.laws trace left c.in-Line.tick c.in-Line.event c.next.new.self after c.line.new.self j goes counted.1
          c.in-Ok.ensures.answer c.in-Ok.ensures.stands c.in-Ok.ensures.lawful) c.loop-laws.invariant.judged;
      sound = c.in_ok-next.ensures.sound;
      files = c.in_ok-next.ensures.files ∙ c.loop-laws.invariant.files;
      picked = c.in_ok-next.ensures.picked;
      monotone = omega (arith, c.in_ok-next.ensures.monotone, c.loop-laws.invariant.monotone);
    }
