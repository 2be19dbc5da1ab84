-- What was told one behind another, and in regions.
use Rattle.std.proofs.Common.{◌≡◌, ◌++◌, Result, Ok, Err, append_assoc}
use Rattle.std.specs.Prelude.{OnOk}
use Rattle.ada_regions.specs.Occurrences.{Occurrences, Region, one, begins, ends, within_region}

pub both_told : (t0 t1 t2 a b : Occurrences) → t1 ≡ t0 ++ a → t2 ≡ t1 ++ b → t2 ≡ t0 ++ (a ++ b)
both_told t0 t1 t2 a b p q = rw (q, p) (append_assoc t0 a b)

pub region_told : (t0 t1 t2 t3 : Occurrences) (r : Region) (inside : Occurrences)
    → t1 ≡ t0 ++ one (begins r) → t2 ≡ t1 ++ inside → t3 ≡ t2 ++ one ends → t3 ≡ t0 ++ within_region r inside
region_told t0 t1 t2 t3 r inside p q e = both_told t0 t1 t3 (one (begins r)) (inside ++ one ends) p (both_told t1 t2 t3 inside (one ends) q e)

-- first these, and then the rest
pub then_told : {V E : Type 0} (answer : Result V E) (t0 t1 t2 a b : Occurrences) → t1 ≡ t0 ++ a → OnOk answer (t2 ≡ t1 ++ b)
    → OnOk answer (t2 ≡ t0 ++ (a ++ b))
then_told (Ok v) t0 t1 t2 a b p q = both_told t0 t1 t2 a b p q
then_told (Err e) t0 t1 t2 a b p q = tt

-- a region at the end
pub last_region : {V E : Type 0} (answer : Result V E) (t0 t1 t2 t3 : Occurrences) (r : Region) (inside : Occurrences)
    → t1 ≡ t0 ++ one (begins r) → t2 ≡ t1 ++ inside → OnOk answer (t3 ≡ t2 ++ one ends) → OnOk answer (t3 ≡ t0 ++ within_region r inside)
last_region (Ok v) t0 t1 t2 t3 r inside p q e = region_told t0 t1 t2 t3 r inside p q e
last_region (Err v) t0 t1 t2 t3 r inside p q e = tt
