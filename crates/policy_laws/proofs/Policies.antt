-- The policies of the image of a source without faults: no range that is dispatched by deadlines reaches the priority of interrupts.
use Rattle.std.proofs.Common.{◌≡◌, true, refl, sym, subst}
use Rattle.std.specs.List.{flat_map, list_all}
use Rattle.ada_tree.specs.declared.units.Unit.{Unit as Tree}
use Rattle.ada_regions.specs.Numbered.{last_priority_of, names_of}
use Rattle.ada_image.specs.ImageOfUnits.{program_of, program_from, program_with}
use Rattle.ada_image.specs.PoliciesOfImage.{policies_of, ranges_of_pragma}
use Rattle.ada_legality.specs.InForce.{deadline_ranges_of}
use Rattle.ceiling_laws.specs.CeilingLaws.{is_below_interrupts}
use Rattle.policy_laws.specs.PolicyLaws.{DeadlinesAreBelowInterrupts}
use Rattle.policy_laws.proofs.Faultless.{Faultless, faultless}
use Rattle.policy_laws.proofs.Ranges.{sorted, of-pragmas}

policies-of : (unit : Tree) → (program_of unit).policies ≡ policies_of (names_of unit).last_priority unit.pragmas
unfolding program_of program_from program_with
policies-of unit = refl

are-below : (unit : Tree) → Faultless unit →
    let policies = policies_of (names_of unit).last_priority unit.pragmas in
    list_all (is_below_interrupts policies.last_priority) policies.dispatching ≡ true
unfolding policies_of deadline_ranges_of
are-below unit f =
    let last = (names_of unit).last_priority in
    sorted (is_below_interrupts last) (flat_map (ranges_of_pragma last) unit.pragmas)
    (of-pragmas last (last_priority_of unit.pragmas) unit.pragmas f.profile f.ranges)

pub deadlines_are_below_interrupts : DeadlinesAreBelowInterrupts
deadlines_are_below_interrupts unit none =
    subst (λ policies. list_all (is_below_interrupts policies.last_priority) policies.dispatching ≡ true) (sym (policies-of unit))
    (are-below unit (faultless unit none))
