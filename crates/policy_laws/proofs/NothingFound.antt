-- Where no fault is told, none is found, and so none in a part of what is found.
use Rattle.std.proofs.Common.{◌≡◌, Bool, true, false, cond, List, [], ◌∷◌, ◌++◌, None, refl, sym, ◌∙◌}
use Rattle.std.proofs.lemmas.Grind.{flat_map-append}
use Rattle.ada_tree.specs.declared.units.Unit.{Unit as Tree}
use Rattle.world_tables.specs.Lists.{first_of}
use Rattle.ada_regions.specs.NamesInUnits.{names_in_unit}
use Rattle.ada_regions.specs.Numbered.{names_of}
use Rattle.ada_legality.specs.declared.faults.Fault.{Fault}
use Rattle.ada_legality.specs.Faults.{comes_before, same_fault, fault_put, in_order_of_text, fault_in}
use Rattle.ada_legality.specs.Faults.{faults_in, found_of, faults_where, faults_of, first_fault_of}
use Rattle.ada_legality.specs.Findings.{Found}

-- where a fault is put, there is one
some-put : (f : Fault) (gs : List Fault) → fault_put f gs ≡ [] → ⊥
some-put f [] e = cc
some-put f (g ∷ gs) e = go (same_fault f g) (comes_before f g) e
  where
    go : (same before : Bool) → cond same (g ∷ gs) (cond before (f ∷ g ∷ gs) (g ∷ fault_put f gs)) ≡ [] → ⊥
    go true before h = cc
    go false true h = cc
    go false false h = cc

none-first : (fs : List Fault) → first_of fs ≡ None → fs ≡ []
none-first [] e = refl
none-first (f ∷ fs) e = cc

none-ordered : (fs : List Fault) → in_order_of_text fs ≡ [] → fs ≡ []
none-ordered [] e = refl
none-ordered (f ∷ fs) e = absurd (some-put f (in_order_of_text fs) e)

pub none-found : (unit : Tree) → first_fault_of unit ≡ None → faults_in (found_of unit (names_of unit) (names_in_unit unit)) ≡ []
unfolding faults_of faults_where
none-found unit e =
    let faults = faults_in (found_of unit (names_of unit) (names_in_unit unit)) in
    none-ordered faults (none-first (in_order_of_text faults) e)

none-in-either : (fs gs : List Fault) → (fs ++ gs) ≡ [] → (fs ≡ []) × (gs ≡ [])
none-in-either [] gs e = (refl, e)
none-in-either (f ∷ fs) gs e = cc

pub none-of : (a b : Found) → faults_in (a ++ b) ≡ [] → (faults_in a ≡ []) × (faults_in b ≡ [])
unfolding faults_in
none-of a b e = none-in-either (faults_in a) (faults_in b) (sym (flat_map-append fault_in a b) ∙ e)
