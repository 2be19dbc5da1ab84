-- The first so many of a list that is joined.
use Rattle.std.proofs.Common.{◌≡◌, ℕ, ◌≤◌, List, [], ◌++◌, length, take, append-nil, sym, ap, ◌∙◌}
use Rattle.std.proofs.Math.Seq.{take-append_seam}
use Rattle.std.proofs.lemmas.List.{take_all}

pub take_joined : {X : Type 0} (xs ys zs : List X) (n : ℕ) → xs ++ ys ≡ zs → length xs ≡ n → take n zs ≡ xs
take_joined xs ys zs n j e = ap (λ m. take m zs) (sym e) ∙ (ap (take (length xs)) (sym j) ∙ take-append_seam xs ys)

pub take_whole : {X : Type 0} (xs zs : List X) (n : ℕ) → xs ++ [] ≡ zs → length xs ≤ n → take n zs ≡ xs
take_whole xs zs n j h = ap (take n) (sym j ∙ append-nil xs) ∙ take_all n xs h

pub ruleset take_laws = (take_joined, take_whole)
