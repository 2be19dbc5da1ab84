-- How many cells a list of them has: a scope begins with as many as its text says, and none of the edits of cells changes how many
-- there are. And what all items of a list have, they have behind an edit of one that keeps it, and without some.
use Rattle.std.proofs.Common.{◌≡◌, ℕ, zero, suc, ◌+◌, ◌≤◌, Bool, true, false, cond, not, List, [], ◌∷◌}
use Rattle.std.proofs.Common.{◌++◌, Option, Some, None, length, slice_set, refl, ap, subst, ◌∙◌, arith}
use Rattle.std.specs.Prelude.{filter, find, take, drop, replicate, pos}
use Rattle.std.specs.List.{list_all}
use Rattle.std.proofs.lemmas.Bool.{and_from, and_parts}
use Rattle.std.proofs.lemmas.List.{length-append, length-drop, length-replicate, length-take-le}
use Rattle.profile_image.specs.declared.values.CellRun.{CellRun}
use Rattle.profile_image.specs.declared.declarations.Scope.{Scope}
use Rattle.profile_image.specs.declared.values.Value.{Value}
use Rattle.profile_image.specs.declared.values.Value.TheVariants.{Whole}
use Rattle.profile_image.specs.Words.{without, set_where, edit_found, edit_where}
use Rattle.profile_image.specs.Program.{with_run, with_runs, initial_cells}
use Rattle.profile_machine.specs.Scopes.{put_cells}

-- ---- how many

pub length-slice_set : {X : Type 0} (xs : List X) (i : ℕ) (x : X) → length (slice_set xs i x) ≡ length xs
length-slice_set [] i x = refl
length-slice_set (y ∷ ys) zero x = refl
length-slice_set (y ∷ ys) (suc i) x = ap suc (length-slice_set ys i x)

pub length-put_cells : (place : ℕ) (vs cells : List Value) → length (put_cells place vs cells) ≡ length cells
length-put_cells place [] cells = refl
length-put_cells place (v ∷ vs) cells = length-put_cells (suc place) vs (slice_set cells place v) ∙ length-slice_set cells place v

-- a run puts as many cells in as it leaves out, or more
left-out : (n k : ℕ) (cells : List Value) → length cells ≤ length (take n cells) + (k + length (drop (n + k) cells))
left-out zero k cells = let a = length-drop (0 + k) cells in omega (arith, a)
left-out (suc n) k [] = omega arith
left-out (suc n) k (x ∷ xs) =
    let a = left-out n k xs in
    let b = length-drop (n + k) xs in
    let c = length-drop (suc n + k) (x ∷ xs) in
    omega (arith, a, b, c)

length-with_run : (run : CellRun) (cells : List Value) → length cells ≤ length (with_run run cells)
length-with_run run cells =
    let begun = take run.place cells ++ replicate run.count run.value in
    let whole : length (with_run run cells) ≡ length (begun ++ drop (run.place + run.count) cells) = refl in
    let first = length-append begun (drop (run.place + run.count) cells) in
    let next = length-append (take run.place cells) (replicate run.count run.value) in
    let a = left-out run.place run.count cells in
    let b = length-replicate run.count run.value in
    omega (arith, whole, first, next, a, b)

length-with_runs : (runs : List CellRun) (cells : List Value) → length cells ≤ length (with_runs runs cells)
length-with_runs [] cells = omega arith
length-with_runs (run ∷ runs) cells =
    let whole : length (with_runs (run ∷ runs) cells) ≡ length (with_runs runs (with_run run cells)) = refl in
    let a = length-with_run run cells in
    let b = length-with_runs runs (with_run run cells) in
    omega (arith, whole, a, b)

pub length-initial_cells : (scope : Scope) → length (initial_cells scope) ≡ scope.size
length-initial_cells scope =
    let a = length-replicate scope.size (Whole (pos 0)) in
    let b = length-with_runs scope.cells (replicate scope.size (Whole (pos 0))) in
    length-take-le scope.size (with_runs scope.cells (replicate scope.size (Whole (pos 0)))) (omega (arith, a, b))

-- ---- what all have

module _ {X : Type 0} (holds : X → Bool) where
  kept_or_not-all : (x : X) (xs : List X) (left : Bool) → holds x ≡ true → list_all holds xs ≡ true → list_all holds (cond left (x ∷ xs) xs) ≡ true
  kept_or_not-all x xs true a b = and_from (holds x) (list_all holds xs) a b
  kept_or_not-all x xs false a b = b

  filter-all : (test : X → Bool) (xs : List X) → list_all holds xs ≡ true → list_all holds (filter test xs) ≡ true
  filter-all test [] h = refl
  filter-all test (x ∷ xs) h =
      let parts = and_parts (holds x) (list_all holds xs) h in
      kept_or_not-all x (filter test xs) (test x) parts.0 (filter-all test xs parts.1)

  pub without-all : (test : X → Bool) (xs : List X) → list_all holds xs ≡ true → list_all holds (without test xs) ≡ true
  without-all test xs h = filter-all (λ x. not (test x)) xs h

  set_here-all : (x y : X) (xs ys : List X) (here : Bool) → holds x ≡ true → holds y ≡ true → list_all holds xs ≡ true → list_all holds ys ≡ true
      → list_all holds (cond here (x ∷ xs) (y ∷ ys)) ≡ true
  set_here-all x y xs ys true a b c d = and_from (holds x) (list_all holds xs) a c
  set_here-all x y xs ys false a b c d = and_from (holds y) (list_all holds ys) b d

  set_where-all : (test : X → Bool) (x : X) (xs : List X) → holds x ≡ true → list_all holds xs ≡ true → list_all holds (set_where test x xs) ≡ true
  set_where-all test x [] a h = refl
  set_where-all test x (y ∷ ys) a h =
      let parts = and_parts (holds y) (list_all holds ys) h in
      set_here-all x y ys (set_where test x ys) (test y) a parts.0 parts.1 (set_where-all test x ys a parts.1)

  -- what is found has it too
  found_here-all : (x : X) (later : Option X) (here : Bool) (y : X) → holds x ≡ true → ((z : X) → later ≡ Some z → holds z ≡ true)
      → cond here (Some x) later ≡ Some y → holds y ≡ true
  found_here-all x later true y a b e = subst (λ (z : Option X). elim z as (λ _. Bool) [ None ↦ true | Some u ↦ holds u ] ≡ true) e a
  found_here-all x later false y a b e = b y e

  found-all : (test : X → Bool) (xs : List X) (y : X) → list_all holds xs ≡ true → find test xs ≡ Some y → holds y ≡ true
  found-all test [] y h e = absurd cc
  found-all test (x ∷ xs) y h e =
      let parts = and_parts (holds x) (list_all holds xs) h in
      found_here-all x (find test xs) (test x) y parts.0 (λ z. found-all test xs z parts.1) e

  edit_found-all : (test : X → Bool) (f : X → X) (xs : List X) (found : Option X) → find test xs ≡ found → ((x : X) → holds x ≡ true → holds (f x) ≡ true)
      → list_all holds xs ≡ true → list_all holds (edit_found test f xs found) ≡ true
  edit_found-all test f xs None is kept h = h
  edit_found-all test f xs (Some x) is kept h = set_where-all test (f x) xs (kept x (found-all test xs x h is)) h

  pub edit_where-all : (test : X → Bool) (f : X → X) (xs : List X) → ((x : X) → holds x ≡ true → holds (f x) ≡ true) → list_all holds xs ≡ true
      → list_all holds (edit_where test f xs) ≡ true
  edit_where-all test f xs kept h = edit_found-all test f xs (find test xs) refl kept h
