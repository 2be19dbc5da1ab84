-- The place that is noted is looked at.
use Rattle.std.proofs.Common.{ap, ◌∙◌}
use Rattle.std.specs.Ordering.{nat_cmp}
use Rattle.std.specs.BTreeMap.{get}
use Rattle.run_report.specs.Clocks.{checked_place}
use Rattle.run_report.proofs.Places.{place_found}
use Rattle.run_report.proofs.dated.place_in.Goals as goal

pub returns : goal.returns
returns c =
    c.checked_place.ensures ∙ ap (λ o. checked_place c.args.items.now o c.args.number) (c.copied.ensures ∙ c.get.ensures.value)
    ∙ place_found c.args.number c.args.items.now (get nat_cmp c.args.places.now) c.requires
