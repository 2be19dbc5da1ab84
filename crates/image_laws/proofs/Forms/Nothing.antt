-- What is found where no rule is broken.
use Rattle.std.proofs.Common.{◌≡◌, Bool, true, false, List, [], ◌∷◌, ◌++◌, refl, ap, ◌∙◌}
use Rattle.std.specs.List.{flat_map}
use Rattle.ann_base.specs.declared.places.Place.{Place}
use Rattle.ada_legality.specs.declared.faults.Fault.{Fault}
use Rattle.ada_legality.specs.declared.rules.Rule.{Rule}
use Rattle.ada_legality.specs.Findings.{Found, broken_if, broken_unless}
use Rattle.ada_legality.specs.Faults.{fault_in, faults_in}

pub none-of : (a b : Found) → faults_in (a ++ b) ≡ [] → (faults_in a ≡ []) × (faults_in b ≡ [])
unfolding faults_in
none-of [] b e = (refl, e)
none-of (f ∷ a) b e = go (fault_in f) refl e (none-of a b)
  where
    go : (xs : List Fault) → fault_in f ≡ xs → (xs ++ flat_map fault_in (a ++ b)) ≡ []
        → (flat_map fault_in (a ++ b) ≡ [] → (flat_map fault_in a ≡ []) × (flat_map fault_in b ≡ []))
        → ((fault_in f ++ flat_map fault_in a) ≡ []) × (flat_map fault_in b ≡ [])
    go [] q r rest = let h = rest r in (ap (λ ys. ys ++ flat_map fault_in a) q ∙ h.0, h.1)
    go (x ∷ xs) q r rest = absurd cc

pub if-none : (r : Rule) (b : Bool) (place : Place) → faults_in (broken_if r b place) ≡ [] → b ≡ false
unfolding faults_in
if-none r true place e = absurd cc
if-none r false place e = refl

pub unless-none : (r : Rule) (b : Bool) (place : Place) → faults_in (broken_unless r b place) ≡ [] → b ≡ true
unfolding faults_in
unless-none r true place e = refl
unless-none r false place e = absurd cc
