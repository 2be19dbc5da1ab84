use Rattle.std.proofs.Common.{◌∷◌, ◌++◌}
use Rattle.std.specs.List.{flat_map}
use Rattle.ada_regions.specs.Occurrences.{hides, declares, a_protected, a_unit, one, within_region, if_there}
use Rattle.ada_regions.specs.NamesInDeclarations.{names_in_aspects, names_in_operation, names_in_private}
use Rattle.ada_simple_occurrences.proofs.Told.{both_told, then_told, last_region}
use Rattle.ada_simple_occurrences.proofs.declarations.ProtectedDeclarationTell.tell.Goals as goal

pub returns : goal.returns
returns c =
    let p = c.args.self.now in
    let inside = flat_map names_in_operation p.operations ++ if_there names_in_private p.components in
    let region = within_region (a_unit p.name) inside in
    let declared = declares p.name (a_protected p.is_type p.aspects) in
    let in_region =
    both_told _ _ _ (flat_map names_in_operation p.operations)
    (if_there names_in_private p.components) c.in_ok-tell-2.ensures c.in_ok-tell_private.ensures in
    then_told _ _ _ _ (one (hides p.name)) (names_in_aspects p.aspects ++ (declared ∷ region)) c.in_ok-push.ensures
    (then_told _ _ _ _ (names_in_aspects p.aspects) (declared ∷ region) c.in_ok-tell.ensures
    (then_told _ _ _ _ (one declared) region (rw (← c.as_slice.ensures) c.in_ok-push-2.ensures)
    (last_region _ _ _ _ _ (a_unit p.name) inside c.in_ok-push-3.ensures in_region c.push-4.ensures)))
