use Rattle.std.proofs.Common.{◌++◌}
use Rattle.ada_regions.specs.Occurrences.{the_context_of, further_context, package_body, within_region, if_there}
use Rattle.ada_regions.specs.NamesInUnits.{names_in_context, names_in_part, names_in_package_statements}
use Rattle.ada_simple_occurrences.proofs.Told.{both_told, region_told, last_region}
use Rattle.ada_occurrences.proofs.units.tell_package_body.Goals as goal

pub returns : goal.returns
returns c =
    let body = c.args.body.now in
    let inside = names_in_part body.declarations ++ if_there names_in_package_statements body.sequence in
    let region = within_region (package_body body.name) inside in
    let context = names_in_context c.args.context.now in
    let in_region =
    both_told _ _ _ (names_in_part body.declarations)
    (if_there names_in_package_statements body.sequence) c.in_ok-tell_nested.ensures c.in_ok-tell_optional_body.ensures in
    let in_context =
    both_told _ _ _ context region c.in_ok-tell_each.ensures
    (region_told _ _ _ _ (package_body body.name) inside c.in_ok-push-3.ensures in_region c.in_ok-push-4.ensures) in
    last_region _ _ _ _ _ (the_context_of body.name) (within_region further_context (context ++ region)) c.in_ok-push.ensures
    (region_told _ _ _ _ further_context (context ++ region) c.in_ok-push-2.ensures in_context c.in_ok-push-5.ensures) c.push-6.ensures
