-- Lists of a layer, each of whose items was mapped.
use Rattle.std.proofs.Common.{◌≡◌, ℕ, zero, suc, Bool, ◌&&◌, List, [], ◌∷◌, ◌++◌, map, refl}
use Rattle.std.specs.Prelude.{flat_map}
use Rattle.std.specs.List.{list_all}
use Rattle.ada_tree.specs.Written.{Written, all_written, enclosed, behind}
use Rattle.ada_tree.specs.ShapeExpressions.{all_fit, enclosed_fit}
use Rattle.ann_base.specs.Lists.{is_empty}

pub both : {a b c d : List Written} → a ≡ c → b ≡ d → a ++ b ≡ c ++ d
both p q = rw (p, q) refl

pub each_of_map : {X Y : Type 0} (w : Y → List Written) (g : X → Y) (v : X → List Written) (same : (x : X) → w (g x) ≡ v x) (xs : List X)
    → flat_map w (map g xs) ≡ flat_map v xs
each_of_map w g v same [] = refl
each_of_map w g v same (x ∷ xs) = rw (same x, each_of_map w g v same xs) refl

pub behind_of_map : {X Y : Type 0} (separator : Written) (w : Y → List Written) (g : X → Y) (v : X → List Written) (same : (x : X) → w (g x) ≡ v x)
    (xs : List X)
    → flat_map (behind separator w) (map g xs) ≡ flat_map (behind separator v) xs
behind_of_map separator w g v same [] = refl
behind_of_map separator w g v same (x ∷ xs) = rw (same x, behind_of_map separator w g v same xs) refl

pub enclosed_of_map : {X Y : Type 0} (opening separator : Written) (closing : List Written) (w : Y → List Written) (g : X → Y) (v : X → List Written)
    (same : (x : X) → w (g x) ≡ v x) (xs : List X)
    → enclosed opening separator closing w (map g xs) ≡ enclosed opening separator closing v xs
enclosed_of_map opening separator closing w g v same [] = refl
enclosed_of_map opening separator closing w g v same (x ∷ xs) = rw (same x, behind_of_map separator w g v same xs) refl

pub all_written_of_map : {X Y : Type 0} (w : Y → List Written) (g : X → Y) (v : X → List Written) (same : (x : X) → w (g x) ≡ v x) (y : Y) (x : X) → w y ≡ v x
    → (xs : List X)
    → all_written w (record { first = y; others = map g xs }) ≡ all_written v (record { first = x; others = xs })
all_written_of_map w g v same y x e xs = both e (each_of_map w g v same xs)

pub all_of_map : {X Y : Type 0} (w : Y → Bool) (g : X → Y) (v : X → Bool) (same : (x : X) → w (g x) ≡ v x) (xs : List X) → list_all w (map g xs) ≡ list_all v xs
all_of_map w g v same [] = refl
all_of_map w g v same (x ∷ xs) = rw (same x, all_of_map w g v same xs) refl

pub both_hold : {a b c d : Bool} → a ≡ c → b ≡ d → (a && b) ≡ (c && d)
both_hold p q = rw (p, q) refl

pub all_fit_of_map : {X Y : Type 0} (w : Y → Bool) (g : X → Y) (v : X → Bool) (same : (x : X) → w (g x) ≡ v x) (y : Y) (x : X) → w y ≡ v x → (xs : List X)
    → all_fit w (record { first = y; others = map g xs }) ≡ all_fit v (record { first = x; others = xs })
all_fit_of_map w g v same y x e xs = both_hold e (all_of_map w g v same xs)

pub none_of_map : {X Y : Type 0} (g : X → Y) (xs : List X) → is_empty (map g xs) ≡ is_empty xs
none_of_map g [] = refl
none_of_map g (x ∷ xs) = refl

pub enclosed_fit_of_map : {X Y : Type 0} (left : ℕ) (w : ℕ → Y → Bool) (g : X → Y) (v : ℕ → X → Bool) (same : (n : ℕ) (x : X) → w n (g x) ≡ v n x) (xs : List X)
    → enclosed_fit left w (map g xs) ≡ enclosed_fit left v xs
enclosed_fit_of_map left w g v same [] = refl
enclosed_fit_of_map zero w g v same (x ∷ xs) = refl
enclosed_fit_of_map (suc left) w g v same (x ∷ xs) = rw (same left x, all_of_map (w left) g (v left) (same left) xs) refl
