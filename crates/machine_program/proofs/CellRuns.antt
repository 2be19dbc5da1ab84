-- How runs of cells begin, seen at the cells that are there.
use Rattle.std.proofs.Common.{◌≡◌, ℕ, ◌+◌, ◌-◌, ◌≤◌, ◌<◌, ◌⊎◌, inl, inr, min, refl, sym, ◌∙◌, ap}
use Rattle.std.proofs.Common.{arith, List, [], ◌∷◌, ◌++◌, length, take, drop, set, get_or, replicate}
use Rattle.std.proofs.lemmas.List.{take-replicate, length-append, length-take-le, length-replicate, append_assoc, take-append-le, take_more}
use Rattle.std.proofs.lemmas.List.{take_more_set, replicate-append-replicate, take-append-drop, append-nil, drop_all, take_all, drop-take}
use Rattle.std.proofs.lemmas.Bool.{cases_lt}
use Rattle.std.proofs.Math.Seq.{take-append-add}
use Rattle.std.proofs.lemmas.Grind.{common_steps}
use Rattle.profile_image.specs.declared.values.Value.{Value}
use Rattle.profile_image.specs.declared.values.CellRun.{CellRun}
use Rattle.profile_image.specs.Program.{with_run, with_runs}

-- a run: what stands before it, its values, what stands behind it
pub with_run-parts : (r : CellRun) (cells : List Value) → with_run r cells ≡ (take r.place cells ++ replicate r.count r.value) ++ drop (r.place + r.count) cells
with_run-parts r cells = grind (arith, common_steps)

pub with_runs-append : (runs others : List CellRun) (cells : List Value) → with_runs (runs ++ others) cells ≡ with_runs others (with_runs runs cells)
with_runs-append [] others cells = refl
with_runs-append (r ∷ runs) others cells = with_runs-append runs others (with_run r cells)

-- one cell more of a run
pub run_more : (xs cells : List Value) (f i : ℕ) (v : Value) → f ≤ i → i < length cells → take i cells ≡ take f xs ++ replicate (i - f) v
    → take (i + 1) (set cells i v) ≡ take f xs ++ replicate ((i + 1) - f) v
run_more xs cells f i v h l e =
    let one : (i - f) + 1 ≡ (i + 1) - f = omega arith in
    take_more_set cells i v l ∙ ap (λ (z : List Value). z ++ v ∷ []) e ∙ append_assoc (take f xs) (replicate (i - f) v) (v ∷ [])
    ∙ ap (λ (z : List Value). take f xs ++ z) (replicate-append-replicate (i - f) 1 v ∙ ap (λ (n : ℕ). replicate n v) one)

-- inside the cells
pub take-parts_within : (n p k : ℕ) (v : Value) (xs : List Value) → length xs ≡ n → p + k ≤ n
    → take n ((take p xs ++ replicate k v) ++ drop (p + k) xs) ≡ (take p xs ++ replicate k v) ++ drop (p + k) xs
take-parts_within n p k v xs h l = grind (arith, common_steps)

-- beyond their end
pub take-parts_beyond : (n p k : ℕ) (v : Value) (xs : List Value) → length xs ≡ n → p ≤ n → n ≤ p + k
    → take n ((take p xs ++ replicate k v) ++ drop (p + k) xs) ≡ take p xs ++ replicate (n - p) v
take-parts_beyond n p k v xs h l m =
    let front : length (take p xs) ≡ p = length-take-le p xs (omega arith) in
    let part : length (take p xs ++ replicate k v) ≡ p + k =
    length-append (take p xs) (replicate k v) ∙ ap (λ (z : ℕ). z + length (replicate k v)) front ∙ ap (λ (z : ℕ). p + z) (length-replicate k v) in
    let fits : n ≤ length (take p xs ++ replicate k v) = omega arith in
    let sum : n ≡ length (take p xs) + (n - p) = omega arith in
    take-append-le n (take p xs ++ replicate k v) (drop (p + k) xs) fits
    ∙ ap (λ (z : ℕ). take z (take p xs ++ replicate k v)) sum
    ∙ take-append-add (take p xs) (replicate k v) (n - p)
    ∙ ap (λ (z : List Value). take p xs ++ z) (take-replicate (n - p) k v (omega arith))

-- behind their end
pub take-parts_behind : (n p k : ℕ) (v : Value) (xs : List Value) → length xs ≡ n → n ≤ p → take n ((take p xs ++ replicate k v) ++ drop (p + k) xs) ≡ xs
take-parts_behind n p k v xs h l = grind (arith, common_steps)

pub begun_parts : (n p k f e : ℕ) (v : Value) (xs : List Value) → length xs ≡ n → f ≡ min n p → e ≡ min n (p + k)
    → (take f xs ++ replicate (e - f) v) ++ drop e xs ≡ take n ((take p xs ++ replicate k v) ++ drop (p + k) xs)
begun_parts n p k f e v xs h a b =
    let where_it_ends : (n < p + k) ⊎ (p + k ≤ n) = cases_lt n (p + k) in
    let where_it_begins : (n < p) ⊎ (p ≤ n) = cases_lt n p in
    elim where_it_ends [
      | inr within ↦
          let at : f ≡ p = omega arith in
          let to : e ≡ p + k = omega arith in
          let count : e - f ≡ k = omega arith in
          let same : (take f xs ++ replicate (e - f) v) ++ drop e xs ≡ (take p xs ++ replicate k v) ++ drop (p + k) xs = cc in
          same ∙ sym (take-parts_within n p k v xs h within)
      | inl beyond ↦ elim where_it_begins [
        | inr begins ↦
            let at : f ≡ p = omega arith in
            let to : e ≡ n = omega arith in
            let none : drop e xs ≡ [] = drop_all e xs (omega arith) in
            let same : (take f xs ++ replicate (e - f) v) ++ drop e xs ≡ (take p xs ++ replicate (n - p) v) ++ [] = cc in
            same ∙ append-nil (take p xs ++ replicate (n - p) v) ∙ sym (take-parts_beyond n p k v xs h begins (omega arith))
        | inl behind ↦
            let at : f ≡ n = omega arith in
            let to : e ≡ n = omega arith in
            let nothing : e - f ≡ 0 = omega arith in
            let all : (take f xs ++ replicate (e - f) v) ++ drop e xs ≡ xs = grind (arith, common_steps) in
            all ∙ sym (take-parts_behind n p k v xs h (omega arith))
      ]
    ]

-- where a loop over the places of a run has come to its end
pub begun : (r : CellRun) (xs done : List Value) (n f e : ℕ) → length xs ≡ n → f ≡ min n r.place → e ≡ min n (r.place + r.count)
    → take e done ≡ take f xs ++ replicate (e - f) r.value → drop e done ≡ drop e xs → done ≡ take n (with_run r xs)
begun r xs done n f e h p q before behind =
    let whole : done ≡ (take f xs ++ replicate (e - f) r.value) ++ drop e xs =
    sym (take-append-drop e done) ∙ ap (λ (z : List Value). z ++ drop e done) before
    ∙ ap (λ (z : List Value). (take f xs ++ replicate (e - f) r.value) ++ z) behind in
    let parts : take n (with_run r xs) ≡ take n ((take r.place xs ++ replicate r.count r.value) ++ drop (r.place + r.count) xs) =
    ap (λ (z : List Value). take n z) (with_run-parts r xs) in
    whole ∙ begun_parts n r.place r.count f e r.value xs h p q ∙ sym parts

pub cut_rest : (m n : ℕ) (xs : List Value) → m ≤ n → drop m (take n xs) ≡ take (n - m) (drop m xs)
cut_rest m n xs l =
    let sum : n ≡ m + (n - m) = omega arith in
    ap (λ (z : ℕ). drop m (take z xs)) sum ∙ drop-take m (n - m) xs

pub same_take : (n m : ℕ) (front rest : List Value) → n ≡ length front + m → take n (front ++ take m rest) ≡ take n (front ++ rest)
same_take n m front rest e =
    ap (λ (z : ℕ). take z (front ++ take m rest)) e ∙ take-append-add front (take m rest) m
    ∙ ap (λ (z : List Value). front ++ z) (grind (arith, common_steps))
    ∙ sym (ap (λ (z : ℕ). take z (front ++ rest)) e ∙ take-append-add front rest m)

-- ---- cells that are not there change nothing of those that are

pub cut_within : (n p k : ℕ) (v : Value) (xs : List Value) → n ≤ length xs → p + k ≤ n
    → take n ((take p (take n xs) ++ replicate k v) ++ drop (p + k) (take n xs)) ≡ take n ((take p xs ++ replicate k v) ++ drop (p + k) xs)
cut_within n p k v xs h l =
    let front : take p (take n xs) ≡ take p xs = grind (arith, common_steps) in
    let rest : drop (p + k) (take n xs) ≡ take (n - (p + k)) (drop (p + k) xs) = cut_rest (p + k) n xs l in
    let part : length (take p xs ++ replicate k v) ≡ p + k = length-append (take p xs) (replicate k v) ∙ grind (arith, common_steps) in
    let sum : n ≡ length (take p xs ++ replicate k v) + (n - (p + k)) = omega arith in
    ap (λ (z : List Value). take n ((z ++ replicate k v) ++ drop (p + k) (take n xs))) front
    ∙ ap (λ (z : List Value). take n ((take p xs ++ replicate k v) ++ z)) rest
    ∙ same_take n (n - (p + k)) (take p xs ++ replicate k v) (drop (p + k) xs) sum

pub cut_beyond : (n p k : ℕ) (v : Value) (xs : List Value) → n ≤ length xs → p ≤ n → n ≤ p + k
    → take n ((take p (take n xs) ++ replicate k v) ++ drop (p + k) (take n xs)) ≡ take n ((take p xs ++ replicate k v) ++ drop (p + k) xs)
cut_beyond n p k v xs h l m =
    let front : take p (take n xs) ≡ take p xs = grind (arith, common_steps) in
    let part : length (take p xs ++ replicate k v) ≡ p + k = length-append (take p xs) (replicate k v) ∙ grind (arith, common_steps) in
    let fits : n ≤ length (take p xs ++ replicate k v) = omega arith in
    ap (λ (z : List Value). take n ((z ++ replicate k v) ++ drop (p + k) (take n xs))) front
    ∙ take-append-le n (take p xs ++ replicate k v) (drop (p + k) (take n xs)) fits
    ∙ sym (take-append-le n (take p xs ++ replicate k v) (drop (p + k) xs) fits)

pub cut_behind : (n p k : ℕ) (v : Value) (xs : List Value) → n ≤ length xs → n ≤ p
    → take n ((take p (take n xs) ++ replicate k v) ++ drop (p + k) (take n xs)) ≡ take n ((take p xs ++ replicate k v) ++ drop (p + k) xs)
cut_behind n p k v xs h l =
    let front : take p (take n xs) ≡ take n xs = take_all p (take n xs) (omega (arith, length-take-le n xs h)) in
    let here : length (take n xs) ≡ n = length-take-le n xs h in
    let left : take n ((take p (take n xs) ++ replicate k v) ++ drop (p + k) (take n xs)) ≡ take n xs = grind (arith, common_steps) in
    let fits : n ≤ length (take p xs) = grind (arith, common_steps) in
    let right : take n ((take p xs ++ replicate k v) ++ drop (p + k) xs) ≡ take n xs = grind (arith, common_steps) in
    left ∙ sym right

pub cut_parts : (n p k : ℕ) (v : Value) (xs : List Value) → n ≤ length xs
    → take n ((take p (take n xs) ++ replicate k v) ++ drop (p + k) (take n xs)) ≡ take n ((take p xs ++ replicate k v) ++ drop (p + k) xs)
cut_parts n p k v xs h = elim (cases_lt n (p + k)) [
  | inr within ↦ cut_within n p k v xs h within
  | inl beyond ↦ elim (cases_lt n p) [
    | inr begins ↦ cut_beyond n p k v xs h begins (omega arith)
    | inl behind ↦ cut_behind n p k v xs h (omega arith)
  ]
]

pub take-with_run : (n : ℕ) (r : CellRun) (cells : List Value) → take n (with_run r (take n cells)) ≡ take n (with_run r cells)
take-with_run n r cells =
    let cut : (n < length cells) ⊎ (length cells ≤ n) = cases_lt n (length cells) in
    elim cut [
      | inr short ↦ ap (λ (z : List Value). take n (with_run r z)) (take_all n cells short)
      | inl long ↦
          let here : length (take n cells) ≡ n = length-take-le n cells (omega arith) in
          ap (λ (z : List Value). take n z) (with_run-parts r (take n cells)) ∙ cut_parts n r.place r.count r.value cells (omega arith)
          ∙ sym (ap (λ (z : List Value). take n z) (with_run-parts r cells))
    ]

-- one run more
pub begun_more : (n m i : ℕ) (runs : List CellRun) (d : CellRun) (xs cells next : List Value) → i < length runs → m ≡ n
    → next ≡ take m (with_run (get_or runs i d) cells) → cells ≡ take n (with_runs (take i runs) xs) → next ≡ take n (with_runs (take (i + 1) runs) xs)
begun_more n m i runs d xs cells next l same is h =
    is ∙ ap (λ (k : ℕ). take k (with_run (get_or runs i d) cells)) same
    ∙ ap (λ (z : List Value). take n (with_run (get_or runs i d) z)) h ∙ take-with_run n (get_or runs i d) (with_runs (take i runs) xs)
    ∙ sym (ap (λ (z : List CellRun). take n (with_runs z xs)) (take_more runs i d l)
    ∙ ap (λ (z : List Value). take n z) (with_runs-append (take i runs) (get_or runs i d ∷ []) xs))
