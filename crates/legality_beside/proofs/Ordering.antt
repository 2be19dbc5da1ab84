-- The first of the faults among what is found, one finding before.
use Rattle.std.proofs.Common.{◌≡◌, ◌<◌, ◌≤◌, ◌-◌, ◌∷◌, ◌∙◌, [], ℕ, suc, Bool, true, false, List}
use Rattle.std.proofs.Common.{Option, Some, None, ap, arith, cond, drop, get_or, length, refl, sym}
use Rattle.std.specs.List.{flat_map}
use Rattle.std.proofs.Math.Seq.{drop-cons}
use Rattle.world_tables.specs.Lists.{first_of}
use Rattle.ada_legality.specs.Faults.{comes_before, fault_in, fault_put, faults_in, in_order_of_text, same_fault}
use Rattle.ada_legality.specs.Findings.{Found}
use Rattle.ada_legality.specs.declared.faults.Fault.{Fault}
use Rattle.ada_legality.specs.declared.findings.Finding.{Finding}
use Rattle.ada_legality.specs.declared.findings.Finding.TheVariants as finding
use Rattle.legality_beside.specs.Ordered.{earlier, first_with}

first_put : (f : Fault) (fs : List Fault) → first_of (fault_put f fs) ≡ Some (earlier f (first_of fs))
first_put f [] = refl
first_put f (g ∷ gs) = by (same_fault f g) (comes_before f g)
  where
    by : (same before : Bool) → first_of (cond same (g ∷ gs) (cond before (f ∷ g ∷ gs) (g ∷ fault_put f gs))) ≡ Some (cond same g (cond before f g))
    by true before = refl
    by false true = refl
    by false false = refl

first_further : (x : Finding) (rest : Found) → first_of (in_order_of_text (faults_in (x ∷ rest))) ≡ first_with x (first_of (in_order_of_text (faults_in rest)))
unfolding faults_in
first_further (finding.Broken f) rest = first_put f (in_order_of_text (flat_map fault_in rest))
first_further (finding.Declared kind e place) rest = refl
first_further (finding.Completed kind e) rest = refl
first_further (finding.OtherProfile kind e) rest = refl
first_further (finding.Function function place) rest = refl
first_further (finding.Returned function) rest = refl
first_further (finding.Attached a) rest = refl
first_further (finding.ProtectedObject o) rest = refl
first_further (finding.OtherCeiling unit place) rest = refl
first_further (finding.MainPriority number place) rest = refl
first_further (finding.TaskPriority number place) rest = refl
first_further (finding.Ceiling c) rest = refl
first_further (finding.TaskConstant e) rest = refl
first_further (finding.Timer task place) rest = refl
first_further (finding.Cells number place) rest = refl

-- from the place before: the finding there, and what comes behind it
pub first_before : (found : Found) (at : ℕ) (d : Finding) (first : Option Fault) → 0 < at → at ≤ length found
    → first ≡ first_of (in_order_of_text (faults_in (drop at found)))
    → first_with (get_or found (at - 1) d) first ≡ first_of (in_order_of_text (faults_in (drop (at - 1) found)))
first_before found at d first low high is =
    let x : Finding = get_or found (at - 1) d in
    let inside : at - 1 < length found = omega arith in
    let one : suc (at - 1) ≡ at = omega arith in
    let front : drop (at - 1) found ≡ x ∷ drop at found = drop-cons found (at - 1) d inside ∙ ap (λ k. x ∷ drop k found) one in
    ap (first_with x) is ∙ (sym (first_further x (drop at found)) ∙ sym (ap (λ xs. first_of (in_order_of_text (faults_in xs))) front))

pub none_left : (found : Found) → first_of (in_order_of_text (faults_in (drop (length found) found))) ≡ None
unfolding faults_in
none_left [] = refl
none_left (f ∷ rest) = none_left rest
