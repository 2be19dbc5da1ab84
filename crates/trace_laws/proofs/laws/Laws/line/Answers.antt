-- What the facts answer is what is to be answered of the list.
use Rattle.std.proofs.Common.{◌≡◌, ap, subst, sym, ◌∙◌}
use Rattle.ann_base.specs.Answers.{Answers}
use Rattle.trace_text.specs.Laws.{Formed, KeepsLaws}
use Rattle.trace_lines.specs.Seen.{with_line}
use Rattle.trace_laws.specs.Watched.{watch_line, answer_after, answer_of, StandsFor}
use Rattle.trace_laws.proofs.GoingOn.{on_ok, on_answer}
use Rattle.trace_laws.proofs.laws.Laws.line.Goals as goal

pub returns-clause-answer : goal.returns-clause-answer
returns-clause-answer c = λ lines formed keeps stands.
    subst (λ wanted. Answers c.take.result wanted)
    (ap (λ watched. answer_after watched c.args.now c.args.event.now) stands
    ∙ c.answers_tell.ensures.answer lines c.args.now c.args.event.now formed keeps) c.take.ensures.answer

pub returns-clause-stands : goal.returns-clause-stands
returns-clause-stands c = λ lines stands.
    on_ok (c.take.new.self ≡ watch_line c.args.self.now (c.args.now, c.args.event.now))
    (StandsFor c.take.new.self (with_line lines c.args.now c.args.event.now)) c.take.result
    (λ added. added ∙ ap (λ watched. watch_line watched (c.args.now, c.args.event.now)) stands
    ∙ sym (c.answers_tell.ensures.more lines c.args.now c.args.event.now)) c.take.ensures.added

pub returns-clause-lawful : goal.returns-clause-lawful
returns-clause-lawful c = λ lines formed keeps stands.
    let longer = with_line lines c.args.now c.args.event.now in
    on_answer (Formed longer × KeepsLaws longer) c.take.result (answer_of longer) (c.answers_tell.ensures.lawful longer)
    (returns-clause-answer c lines formed keeps stands)
