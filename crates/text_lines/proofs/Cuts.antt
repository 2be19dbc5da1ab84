-- Bytes are cut at the first that is a mark.
use Rattle.std.proofs.Common.{◌≡◌, ◌≤◌, ◌<◌, ℕ, ◌+◌, Bool, true, false, not, cond, Option, List, [], ◌∷◌}
use Rattle.std.proofs.Common.{length, take, drop, MatchOption, position, ◌==◌, arith, refl, ap, ◌∙◌, inl, inr}
use Rattle.std.specs.List.{slice_split, onto_first, position_or_len}
use Rattle.std.proofs.lemmas.Bool.{cases_lt, lt-ltb, le-ltb}
use Rattle.std.proofs.lemmas.List.Splits.{slice_split_first}
use Rattle.std.proofs.lemmas.Bool.Decides.{nat_tests}
use Rattle.std.proofs.lemmas.List.{length-drop, length-take-le, drop-drop}
use Rattle.std.proofs.Math.Seq.{drop-length}
use Rattle.std.specs.Str.Lines.{strip_carriage_return}
use Rattle.text_lines.specs.Lines.{parts_at, lines_from}

split_step : {X : Type 0} (p : X → Bool) (x : X) (xs : List X) (n : ℕ) (here : Bool) → (length xs ≤ n → slice_split p xs ≡ xs ∷ [])
    → 1 + length xs ≤ cond (not here) (1 + n) 0 → cond here ([] ∷ slice_split p xs) (onto_first x (slice_split p xs)) ≡ (x ∷ xs) ∷ []
split_step p x xs n true rest h = absurd (omega arith)
split_step p x xs n false rest h = rw (rest (omega arith)) refl

-- where there is no mark, all is one part
pub split_whole : {X : Type 0} (p : X → Bool) (xs : List X) → length xs ≤ position_or_len p xs → slice_split p xs ≡ xs ∷ []
split_whole p [] h = refl
split_whole p (x ∷ xs) h = split_step p x xs (position_or_len p xs) (p x) (split_whole p xs) (omega arith)

pub cut : {X : Type 0} (d : X) (p : X → Bool) (xs : List X)
    → MatchOption (position p xs) (slice_split p xs ≡ xs ∷ [])
    (λ place. (place < length xs) × (slice_split p xs ≡ take place xs ∷ slice_split p (drop (place + 1) xs)))
cut d p xs = elim (cases_lt (position_or_len p xs) (length xs)) [
  | inl within ↦ rw (lt-ltb (position_or_len p xs) (length xs) within) (within, slice_split_first p xs d within)
  | inr past ↦ rw (le-ltb (position_or_len p xs) (length xs) past) (split_whole p xs past)
]

-- there is always a part
pub split_some : {X : Type 0} (p : X → Bool) (xs : List X) → (part : List X) × (parts : List (List X)) × (slice_split p xs ≡ part ∷ parts)
split_some p [] = ([], [], refl)
split_some p (x ∷ xs) =
    elim (p x) as (λ here. (part : _) × (parts : _) × (cond here ([] ∷ slice_split p xs) (onto_first x (slice_split p xs)) ≡ part ∷ parts)) [
      | true ↦ ([], slice_split p xs, refl)
      | false ↦ let (part, parts, e) = split_some p xs in (x ∷ part, parts, rw e refl)
    ]

-- where the first mark stands, the bytes before it are the first part
pub cut_at : (mark : ℕ) (bytes : List ℕ) (found : Option ℕ) → found ≡ position (λ byte. byte == mark) bytes
    → MatchOption found (parts_at mark bytes ≡ bytes ∷ [])
    (λ place. (place < length bytes) × (parts_at mark bytes ≡ take place bytes ∷ parts_at mark (drop (place + 1) bytes)))
cut_at mark bytes found e = rw e (cut 0 (λ byte. byte == mark) bytes)

-- the line that lacks its end
pub last_line : (number start : ℕ) (bytes : List ℕ) → start < length bytes → parts_at 10 (drop start bytes) ≡ drop start bytes ∷ []
    → lines_from number start (parts_at 10 (drop start bytes))
    ≡ record { number = number; stop = length bytes; text = drop start bytes }
    ∷ lines_from (number + 1) (length bytes) (parts_at 10 (drop (length bytes) bytes))
last_line number start bytes low whole =
    let some : 0 < length (drop start bytes) = omega (arith, length-drop start bytes) in
    let stop : start + length (drop start bytes) ≡ length bytes = omega (arith, length-drop start bytes) in
    let none : drop (length bytes) bytes ≡ [] = drop-length bytes in
    rw (whole, none) (grind (arith, nat_tests))

-- a line that ends with a line feed
pub ended_line : (number start place : ℕ) (bytes : List ℕ) → place < length (drop start bytes)
    → parts_at 10 (drop start bytes) ≡ take place (drop start bytes) ∷ parts_at 10 (drop (place + 1) (drop start bytes))
    → lines_from number start (parts_at 10 (drop start bytes))
    ≡ record { number = number; stop = start + place + 1; text = strip_carriage_return (take place (drop start bytes)) }
    ∷ lines_from (number + 1) (start + place + 1) (parts_at 10 (drop (start + place + 1) bytes))
ended_line number start place bytes low cut =
    let joined : drop (place + 1) (drop start bytes) ≡ drop (start + place + 1) bytes =
    drop-drop (place + 1) start bytes ∙ ap (λ n. drop n bytes) (omega arith) in
    let long : length (take place (drop start bytes)) ≡ place = length-take-le place (drop start bytes) (omega arith) in
    let (next, more, e) = split_some (λ byte. byte == 10) (drop (start + place + 1) bytes) in
    rw (cut, joined, e) (rw long refl)
