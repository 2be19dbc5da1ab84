-- A construct that is edited, by how many stand below it.
use Rattle.std.proofs.Common.{◌≡◌, ◌≢◌, ℕ, ◌+◌, ◌-◌, ◌≤◌, zero, suc, true, false, cond, List, [], ◌∷◌}
use Rattle.std.proofs.Common.{Some, None, length, eqb, ltb, slice_set, refl, sym, ap, ◌∙◌, arith}
use Rattle.std.specs.List.{slice_get}
use Rattle.std.proofs.lemmas.Bool.{eq-eqb}
use Rattle.profile_machine.specs.declared.world.marks.Frame.{Frame}
use Rattle.profile_machine.specs.CallEnds.{edit_depth}
use Rattle.machine_calls.specs.Depths.{place_at}

place_within : (n depth i : ℕ) → cond (ltb depth n) (Some (n - depth - 1)) None ≡ Some i → i + depth + 1 ≡ n
place_within n depth i e = grind arith

place_beyond : (n depth : ℕ) → cond (ltb depth n) (Some (n - depth - 1)) None ≡ None → n ≤ depth
place_beyond n depth e = grind arith

differs : (n depth : ℕ) → n ≢ depth → eqb n depth ≡ false
differs n depth e = grind arith

some_is : (x y : Frame) → Some x ≡ Some y → x ≡ y
some_is x y e = cc

module _ (depth : ℕ) (f : Frame → Frame) where
  set_within : (xs : List Frame) (i : ℕ) (x : Frame) → i + depth + 1 ≡ length xs → slice_get xs i ≡ Some x → slice_set xs i (f x) ≡ edit_depth depth f xs
  set_within [] i x n e = cc
  set_within (y ∷ ys) zero x n e =
      let k : f x ≡ f y = ap f (some_is x y (sym e)) in
      ap (λ z. z ∷ ys) k ∙ sym (ap (λ b. cond b (f y ∷ ys) (y ∷ edit_depth depth f ys)) (eq-eqb (length ys) depth (omega arith)))
  set_within (y ∷ ys) (suc i) x n e =
      ap (λ zs. y ∷ zs) (set_within ys i x (omega arith) e)
      ∙ sym (ap (λ b. cond b (f y ∷ ys) (y ∷ edit_depth depth f ys)) (differs (length ys) depth (omega arith)))

  beyond : (xs : List Frame) → length xs ≤ depth → edit_depth depth f xs ≡ xs
  beyond [] n = refl
  beyond (y ∷ ys) n =
      ap (λ b. cond b (f y ∷ ys) (y ∷ edit_depth depth f ys)) (differs (length ys) depth (omega arith)) ∙ ap (λ zs. y ∷ zs) (beyond ys (omega arith))

  there : (xs : List Frame) (i : ℕ) → i + depth + 1 ≡ length xs → slice_get xs i ≡ None → edit_depth depth f xs ≡ xs
  there [] i n e = refl
  there (y ∷ ys) zero n e = cc
  there (y ∷ ys) (suc i) n e =
      ap (λ b. cond b (f y ∷ ys) (y ∷ edit_depth depth f ys)) (differs (length ys) depth (omega arith)) ∙ ap (λ zs. y ∷ zs) (there ys i (omega arith) e)

  pub set_deep : (xs : List Frame) (i : ℕ) (x : Frame) → place_at depth xs ≡ Some i → slice_get xs i ≡ Some x → slice_set xs i (f x) ≡ edit_depth depth f xs
  set_deep xs i x p e = set_within xs i x (place_within (length xs) depth i p) e

  pub none_deep : (xs : List Frame) → place_at depth xs ≡ None → edit_depth depth f xs ≡ xs
  none_deep xs p = beyond xs (place_beyond (length xs) depth p)

  pub lost_deep : (xs : List Frame) (i : ℕ) → place_at depth xs ≡ Some i → slice_get xs i ≡ None → edit_depth depth f xs ≡ xs
  lost_deep xs i p e = there xs i (place_within (length xs) depth i p) e

pub ruleset depth_laws = (set_deep, none_deep, lost_deep)
