-- A piece that is read in place of one that is used up.
use Rattle.std.proofs.Common.{◌≡◌, ◌<◌, ◌≤◌, ◌-◌, ◌⊎◌, inl, inr, ℕ, zero, suc, min, List, [], ◌++◌, Option, Some, None}
use Rattle.std.proofs.Common.{IfSome, length, take, drop, refl, sym, ap, ◌∙◌, append-nil, arith, drop_of_length-le}
use Rattle.std.proofs.lemmas.Bool.{cases_lt}
use Rattle.std.proofs.lemmas.List.{take-take}
use Rattle.std.proofs.Math.Seq.{take-add}
use Rattle.outside_bytes.proofs.FilesRead.{HasMoved}
use Rattle.outside_bytes.specs.Lines.{come}

-- so many of the bytes that were read are kept: as many as there is room for
abbrev pub IsKept : ℕ → ℕ → ℕ → Type 0
IsKept room read count = ((room < read) × (count ≡ room)) ⊎ ((read ≤ room) × (count ≡ read))

pub is_kept : (room read count : ℕ) → count ≡ min read room → IsKept room read count
is_kept room read count is = elim (cases_lt room read) [
  | inl less ↦ inl (less, omega (arith, less, is))
  | inr all ↦ inr (all, omega (arith, all, is))
]

front : (got left : List ℕ) (read count : ℕ) → take read got ≡ take read left → count ≤ read → take count got ≡ take count left
front got left read count same few = sym (take-take count read got few) ∙ ap (take count) same ∙ take-take count read left few

-- what is kept and what may still be read is what might be read before
kept : (got left : List ℕ) (room read count : ℕ) → take read got ≡ take read left → IsKept room read count
    → take count got ++ take (room - count) (drop read left) ≡ take room left
kept got left room read count same (inl full) =
    let none : room - room ≡ 0 = omega arith in
    ap (λ xs. xs ++ take (room - count) (drop read left)) (front got left read count same (omega (arith, full.0, full.1)))
    ∙ ap (λ n. take n left ++ take (room - n) (drop read left)) full.1
    ∙ ap (λ n. take room left ++ take n (drop read left)) none
    ∙ append-nil (take room left)
kept got left room read count same (inr all) =
    ap (λ xs. xs ++ take (room - count) (drop read left)) (front got left read count same (omega (arith, all.1)))
    ∙ ap (λ n. take count left ++ take (room - count) (drop n left)) (sym all.1)
    ∙ sym (take-add count (room - count) left)
    ∙ ap (λ n. take n left) (omega (arith, all.0, all.1))

-- what is to come is the same
pub same_to_come : (left behind : Option (List ℕ)) (got piece : List ℕ) (asked next room read count : ℕ) → HasMoved left behind asked (take read got) read
    → length piece ≤ next → IsKept room read count →
    IfSome (come next piece room left) (λ bytes. come 0 (take count got) (room - count) behind ≡ Some bytes)
same_to_come None behind got piece asked next room read count moved used is = tt
same_to_come (Some l) behind got piece asked next room read count moved used is =
    ap (come 0 (take count got) (room - count)) moved.1
    ∙ ap (λ xs. Some (take count got ++ take (room - count) xs)) moved.2.behind_is
    ∙ ap Some (kept got l room read count moved.2.got_is is)
    ∙ ap (λ xs. Some (xs ++ take room l)) (sym (drop_of_length-le piece used))

take_nil : (n : ℕ) → take {A = ℕ} n [] ≡ []
take_nil zero = refl
take_nil (suc n) = refl

nothing_by : (l : List ℕ) (asked room read count : ℕ) → (0 < asked → read ≡ 0 → l ≡ []) → 0 < asked → IsKept room read count → count ≡ 0 → take room l ≡ []
nothing_by l asked room read count end some (inl full) none = let no_room : room ≡ 0 = sym full.1 ∙ none in ap (λ n. take n l) no_room
nothing_by l asked room read count end some (inr all) none = ap (take room) (end some (sym all.1 ∙ none)) ∙ take_nil room

-- where nothing is kept nothing is to come
pub nothing_to_come : (left behind : Option (List ℕ)) (got piece : List ℕ) (asked next room read count : ℕ) → HasMoved left behind asked (take read got) read
    → 0 < asked → length piece ≤ next → IsKept room read count → count ≡ 0 →
    IfSome (come next piece room left) (λ bytes. bytes ≡ [])
nothing_to_come None behind got piece asked next room read count moved some used is none = tt
nothing_to_come (Some l) behind got piece asked next room read count moved some used is none =
    ap (λ xs. xs ++ take room l) (drop_of_length-le piece used) ∙ nothing_by l asked room read count moved.2.at_end some is none
