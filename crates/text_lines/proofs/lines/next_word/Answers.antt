use Rattle.std.proofs.Common.{◌≡◌, ◌<◌, ◌+◌, ◌∷◌, length, take, drop, None, Some, sym, ◌∙◌}
use Rattle.text_lines.specs.Lines.{parts_at}
use Rattle.text_lines.proofs.Cuts.{cut_at}
use Rattle.text_lines.proofs.lines.next_word.Goals as goal

pub returns-in_err-place : goal.returns-in_err-place
returns-in_err-place c = rw c.from_residual.ensures (cut_at 32 c.args.text.now None (sym c.in_err-place.was ∙ c.place_of.ensures))

pub returns : goal.returns
returns c =
    let cut : (c.in_ok-place.place < length c.args.text.now)
    × (parts_at 32 c.args.text.now ≡ take c.in_ok-place.place c.args.text.now ∷ parts_at 32 (drop (c.in_ok-place.place + 1) c.args.text.now)) =
    cut_at 32 c.args.text.now (Some c.in_ok-place.place) (sym c.in_ok-place.was ∙ c.place_of.ensures) in
    rw c.rest_from.ensures cut.1
