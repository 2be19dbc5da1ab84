-- What is left of a list from the element before a place on.
use Rattle.std.proofs.Common.{◌≡◌, ℕ, ◌+◌, ◌-◌, ◌<◌, ◌≤◌, List, ◌∷◌, drop, length, get_or, ap, sym, ◌∙◌, arith}
use Rattle.std.proofs.lemmas.List.{drop_more}

pub one_before : {X : Type 0} (xs : List X) (j : ℕ) (x : X) → 0 < j → j ≤ length xs → get_or xs (j - 1) x ∷ drop j xs ≡ drop (j - 1) xs
one_before xs j x positive inside =
    let back : (j - 1) + 1 ≡ j = omega arith in
    let place : j - 1 < length xs = omega arith in
    sym (drop_more xs (j - 1) x place ∙ ap (λ k. get_or xs (j - 1) x ∷ drop k xs) back)
