use Rattle.std.proofs.Common.{◌≡◌, ◌<◌, ◌+◌, ◌∷◌, [], length, take, drop, None, Some, sym, ◌∙◌}
use Rattle.text_lines.specs.Lines.{parts_at}
use Rattle.text_lines.proofs.Cuts.{cut_at, last_line, ended_line}
use Rattle.text_lines.proofs.lines.line_at.Goals as goal

pub returns-in-None-clause-line : goal.returns-in-None-clause-line
returns-in-None-clause-line c =
    let whole : parts_at 10 c.rest_from-rest.result.now ≡ c.rest_from-rest.result.now ∷ [] =
    cut_at 10 c.rest_from-rest.result.now None (sym c.in-None.is ∙ c.place_of.ensures) in
    rw c.rest_from-rest.ensures (last_line c.args.number c.args.start c.args.bytes.now c.requires (rw c.rest_from-rest.ensures at whole))

pub returns-in-Some-clause-line : goal.returns-in-Some-clause-line
returns-in-Some-clause-line c =
    let cut : (c.in-Some.place < length c.rest_from-rest.result.now)
    × (parts_at 10 c.rest_from-rest.result.now
    ≡ take c.in-Some.place c.rest_from-rest.result.now ∷ parts_at 10 (drop (c.in-Some.place + 1) c.rest_from-rest.result.now)) =
    cut_at 10 c.rest_from-rest.result.now (Some c.in-Some.place) (sym c.in-Some.is ∙ c.place_of.ensures) in
    let there = rw c.rest_from-rest.ensures at cut in
    rw (c.without_carriage_return.ensures, c.rest_from-rest.ensures) (ended_line c.args.number c.args.start c.in-Some.place c.args.bytes.now there.0 there.1)
