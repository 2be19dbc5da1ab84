-- What the pieces of a Put_Line give, and how long it is.
use Rattle.std.proofs.Common.{◌≡◌, ℕ, ℤ, zero, suc, pos, negsuc, ◌+◌, ◌%◌, ◌≤◌, ◌<◌, ◌^◌, true}
use Rattle.std.proofs.Common.{false, cond, leb, List, [], ◌∷◌, ◌++◌, refl, sym, ap, ◌∙◌, arith}
use Rattle.std.proofs.lemmas.Bool.{and_parts, cond_both, leb-false, leb-true}
use Rattle.std.proofs.lemmas.Bool.Decides.{nat_tests}
use Rattle.std.specs.Prelude.{Ok, Err, length, slice_index_or, decimal}
use Rattle.std.specs.List.{list_all, AllByRecursion}
use Rattle.std.proofs.lemmas.Fmt.{decimal_by_steps, length-decimal-le}
use Rattle.std.proofs.lemmas.List.{length-append}
use Rattle.std.proofs.lemmas.List.Folds.{list_all-append}
use Rattle.std.proofs.lemmas.Nat.{mod_below}
use Rattle.ann_base.specs.Results.{◌>>=◌}
use Rattle.trace_text.specs.Text.{is_text_byte, IsPutText}
use Rattle.profile_image.specs.declared.image.Image.{Image}
use Rattle.profile_image.specs.declared.statements.Piece.{Piece}
use Rattle.profile_image.specs.declared.statements.Piece.TheVariants as piece
use Rattle.profile_image.specs.declared.values.Value.{Value}
use Rattle.profile_image.specs.declared.values.Value.TheVariants.{Whole, Truth, Literal, Ticks, Task, Thing}
use Rattle.profile_image.specs.Program.{literals_of}
use Rattle.profile_machine.specs.Operators.{Valued, image_of_whole, text_of_whole, text_of_truth, text_of_literal}
use Rattle.profile_machine.specs.Values.{Seen, value}
use Rattle.profile_machine.specs.Statements.{piece_text, text_of_pieces}
use Rattle.line_laws.specs.Texts.{piece_with, text_with, IsWholeWithin, IsValueWithin, longest, most_bytes}
use Rattle.line_laws.specs.Texts.{most_bytes_of_all, are_text_bytes, has_text_bytes, IsShortPut}

-- ---- the values of pieces

abbrev text_or_none : Valued (List ℕ) → List ℕ
text_or_none (Ok text) = text
text_or_none (Err e) = []

value_found : (x : Valued Value) (text_of : Value → List ℕ) (text : List ℕ) → (x >>= λ v. Ok (text_of v)) ≡ Ok text → (v : Value) × (text ≡ text_of v)
value_found (Ok v) text_of text e = (v, sym (ap text_or_none e))
value_found (Err raised) text_of text e = absurd cc

piece_value : (q : Seen) (x : Piece) (text : List ℕ) → piece_text q x ≡ Ok text → (v : Value) × (text ≡ piece_with q.program x v)
piece_value q (piece.Text t) text e = (Whole (pos 0), sym (ap text_or_none e))
piece_value q (piece.Whole e) text k = value_found (value q e) text_of_whole text k
piece_value q (piece.Truth e) text k = value_found (value q e) text_of_truth text k
piece_value q (piece.Literal e n) text k = value_found (value q e) (text_of_literal (literals_of q.program n)) text k

record Joined (first others : Valued (List ℕ)) (text : List ℕ) : Type 0 where
  pub front : List ℕ
  pub rest : List ℕ
  pub first_is : first ≡ Ok front
  pub others_are : others ≡ Ok rest
  pub text_is : text ≡ front ++ rest

joined : (first others : Valued (List ℕ)) (text : List ℕ) → (first >>= λ t. others >>= λ rest. Ok (t ++ rest)) ≡ Ok text → Joined first others text
joined (Ok front) (Ok rest) text e = record { front = front; rest = rest; first_is = refl; others_are = refl; text_is = sym (ap text_or_none e) }
joined (Ok front) (Err raised) text e = absurd cc
joined (Err raised) others text e = absurd cc

pub put_values : (q : Seen) (pieces : List Piece) (text : List ℕ) → text_of_pieces q pieces ≡ Ok text
    → (vs : List Value) × (text ≡ text_with q.program pieces vs)
put_values q [] text e = ([], sym (ap text_or_none e))
put_values q (x ∷ xs) text e =
    let j = joined (piece_text q x) (text_of_pieces q xs) text e in
    let first = piece_value q x j.front j.first_is in
    let others = put_values q xs j.rest j.others_are in
    (first.0 ∷ others.0, j.text_is ∙ ap (λ t. t ++ j.rest) first.1 ∙ ap (λ t. piece_with q.program x first.0 ++ t) others.1)

-- ---- bytes

is_text-between : (byte : ℕ) → 32 ≤ byte → byte ≤ 126 → are_text_bytes (byte ∷ []) ≡ true
is_text-between byte low high = grind (arith, nat_tests)

decimal-bytes : (n : ℕ) → n < 2 ^ 64 → are_text_bytes (decimal n) ≡ true
decimal-bytes n fits =
    decimal_by_steps (λ k ds. are_text_bytes ds ≡ true)
    (λ k small. is_text-between (48 + k) (omega arith) (omega arith))
    (λ k ds more h.
    let last : are_text_bytes ((48 + k % 10) ∷ []) ≡ true = is_text-between (48 + k % 10) (omega arith) (omega (arith, mod_below k 10 (omega arith))) in
    rw (list_all-append is_text_byte ds ((48 + k % 10) ∷ []), h, last) refl)
    n fits

-- a text that a line can have, of at most so many bytes
record IsTextUpTo (most : ℕ) (text : List ℕ) : Type 0 where
  pub bytes : are_text_bytes text ≡ true
  pub short : length text ≤ most

image-short : (n : ℤ) → IsWholeWithin n → IsTextUpTo 11 (image_of_whole n)
image-short (pos n) within =
    let small : n < 2 ^ 31 = within in
    let digits : length (decimal n) ≤ 10 = length-decimal-le 10 n (omega arith) (omega arith) (omega arith) in
    record { bytes = decimal-bytes n (omega arith); short = omega arith }
image-short (negsuc n) within =
    let small : n < 2 ^ 31 = within in
    let digits : length (decimal (suc n)) ≤ 10 = length-decimal-le 10 (suc n) (omega arith) (omega arith) (omega arith) in
    record { bytes = decimal-bytes (suc n) (omega arith); short = omega arith }

whole-short : (v : Value) → IsValueWithin v → IsTextUpTo 11 (text_of_whole v)
whole-short (Whole n) within = image-short n within
whole-short (Truth b) within = record { bytes = refl; short = omega arith }
whole-short (Literal n) within = record { bytes = refl; short = omega arith }
whole-short (Ticks n) within = record { bytes = refl; short = omega arith }
whole-short (Task t) within = record { bytes = refl; short = omega arith }
whole-short (Thing n) within = record { bytes = refl; short = omega arith }

truth-short : (v : Value) → IsTextUpTo 5 (text_of_truth v)
truth-short (Truth true) = record { bytes = refl; short = omega arith }
truth-short (Truth false) = record { bytes = refl; short = omega arith }
truth-short (Whole n) = record { bytes = refl; short = omega arith }
truth-short (Literal n) = record { bytes = refl; short = omega arith }
truth-short (Ticks n) = record { bytes = refl; short = omega arith }
truth-short (Task t) = record { bytes = refl; short = omega arith }
truth-short (Thing n) = record { bytes = refl; short = omega arith }

-- both tests hold where the first holds and the second

longer-first : (a b : ℕ) → a ≤ cond (leb a b) b a
longer-first a b = cond_both (leb a b) b a (λ x. a ≤ x) (λ e. leb-true a b e) (λ e. omega arith)

longer-second : (a b : ℕ) → b ≤ cond (leb a b) b a
longer-second a b = cond_both (leb a b) b a (λ x. b ≤ x) (λ e. omega arith) (λ e. omega (arith, leb-false a b e))

at-short : (most n : ℕ) (literals : List (List ℕ)) → list_all are_text_bytes literals ≡ true → longest literals ≤ most
    → IsTextUpTo most (slice_index_or literals n [])
at-short most n [] a short = record { bytes = refl; short = omega arith }
at-short most zero (x ∷ xs) a short =
    let within : length x ≤ longest (x ∷ xs) = longer-first (length x) (longest xs) in
    record { bytes = (and_parts (are_text_bytes x) (list_all are_text_bytes xs) a).0; short = omega arith }
at-short most (suc n) (x ∷ xs) a short =
    let within : longest xs ≤ longest (x ∷ xs) = longer-second (length x) (longest xs) in
    at-short most n xs ((and_parts (are_text_bytes x) (list_all are_text_bytes xs) a).1) (omega arith)

literal-short : (literals : List (List ℕ)) (v : Value) → list_all are_text_bytes literals ≡ true → IsTextUpTo (longest literals) (text_of_literal literals v)
literal-short literals (Literal n) a = at-short (longest literals) n literals a (omega arith)
literal-short literals (Whole n) a = record { bytes = refl; short = omega arith }
literal-short literals (Truth b) a = record { bytes = refl; short = omega arith }
literal-short literals (Ticks n) a = record { bytes = refl; short = omega arith }
literal-short literals (Task t) a = record { bytes = refl; short = omega arith }
literal-short literals (Thing n) a = record { bytes = refl; short = omega arith }

piece-short : (p : Image) (x : Piece) (v : Value) → has_text_bytes p x ≡ true → IsValueWithin v → IsTextUpTo (most_bytes p x) (piece_with p x v)
piece-short p (piece.Text text) v a within = record { bytes = a; short = omega arith }
piece-short p (piece.Whole e) v a within = whole-short v within
piece-short p (piece.Truth e) v a within = truth-short v
piece-short p (piece.Literal e n) v a within = literal-short (literals_of p n) v a

append-short : (most others : ℕ) (xs ys : List ℕ) → IsTextUpTo most xs → IsTextUpTo others ys → IsTextUpTo (most + others) (xs ++ ys)
append-short most others xs ys a b =
    let long : length (xs ++ ys) ≡ length xs + length ys = length-append xs ys in
    record { bytes = rw (list_all-append is_text_byte xs ys, a.bytes, b.bytes) refl; short = omega (arith, a.short, b.short) }

text-short : (p : Image) (pieces : List Piece) (vs : List Value) → list_all (has_text_bytes p) pieces ≡ true → AllByRecursion IsValueWithin vs
    → IsTextUpTo (most_bytes_of_all p pieces) (text_with p pieces vs)
text-short p [] vs a within = record { bytes = refl; short = omega arith }
text-short p (x ∷ xs) [] a within = record { bytes = refl; short = omega arith }
text-short p (x ∷ xs) (v ∷ vs) a within =
    append-short (most_bytes p x) (most_bytes_of_all p xs) (piece_with p x v) (text_with p xs vs)
    (piece-short p x v ((and_parts (has_text_bytes p x) (list_all (has_text_bytes p) xs) a).0) within.0)
    (text-short p xs vs ((and_parts (has_text_bytes p x) (list_all (has_text_bytes p) xs) a).1) within.1)

pub put-short : (p : Image) (pieces : List Piece) (vs : List Value) → IsShortPut p pieces → AllByRecursion IsValueWithin vs → IsPutText (text_with p pieces vs)
put-short p pieces vs s within =
    let t = text-short p pieces vs s.bytes within in
    record { short = omega (arith, t.short, s.short); bytes = t.bytes }
