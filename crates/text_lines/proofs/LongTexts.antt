-- Texts of more bytes than are allowed: a reader that stops at the first line that ends too late does not see
-- what stands behind the first byte too many.
use Rattle.std.proofs.Common.{◌≡◌, ◌≤◌, ◌<◌, ◌+◌, ℕ, zero, suc, Bool, true, false, cond, List, [], ◌∷◌, ◌++◌}
use Rattle.std.proofs.Common.{length, take, refl, sym, ap, ◌∙◌, append_assoc, length-append, ◌==◌, arith}
use Rattle.std.specs.List.{fold, onto_first}
use Rattle.std.specs.Str.Lines.{strip_carriage_return}
use Rattle.std.proofs.lemmas.Bool.Decides.{nat_tests}
use Rattle.text_lines.specs.Lines.{NumberedLine, parts_at, lines_from, lines_of}
use Rattle.text_lines.proofs.Cuts.{split_some}

-- a text in front of the first part
abbrev front : List ℕ → List (List ℕ) → List (List ℕ)
front text [] = text ∷ []
front text (part ∷ parts) = (text ++ part) ∷ parts

front_none : (xs : List ℕ) → front [] (parts_at 10 xs) ≡ parts_at 10 xs
front_none xs = let (part, parts, e) = split_some (λ byte. byte == 10) xs in rw e refl

front_one : (text : List ℕ) (x : ℕ) (parts : List (List ℕ)) → front text (onto_first x parts) ≡ front (text ++ x ∷ []) parts
front_one text x [] = refl
front_one text x (part ∷ parts) = ap (λ first. first ∷ parts) (sym (append_assoc text (x ∷ []) part))

nonzero : (n : ℕ) → 0 < n → (n == 0) ≡ false
nonzero n some = grind (arith, nat_tests)

abbrev line_of : ℕ → ℕ → List ℕ → NumberedLine
line_of number start text = record { number = number; stop = start + length (text ++ []) + 1; text = strip_carriage_return (text ++ []) }

-- What is read of a line, and what was read of all lines once one ended too late. Behind such a line nothing is read.
module _ {S : Type 0} (limit : ℕ) (read : S → NumberedLine → S) (stopped : S → ℕ → S)
    (late : (s : S) (line : NumberedLine) → limit < line.stop → read s line ≡ stopped s line.number)
    (stays : (s : S) (number : ℕ) (lines : List NumberedLine) → fold read (stopped s number) lines ≡ stopped s number) where
  late_first : (s : S) (line : NumberedLine) (lines : List NumberedLine) → limit < line.stop → fold read (read s line) lines ≡ stopped s line.number
  late_first s line lines long = ap (λ t. fold read t lines) (late s line long) ∙ stays s line.number lines

  -- a first line that ends too late decides
  late_last : (s : S) (number start : ℕ) (text : List ℕ) → 0 < length text → limit < start + length text
      → fold read s (lines_from number start (text ∷ [])) ≡ stopped s number
  late_last s number start text some long =
      rw (nonzero (length text) some) (late_first s (record { number = number; stop = start + length text; text = text }) [] long)

  late_parts : (s : S) (number start : ℕ) (text part : List ℕ) (parts : List (List ℕ)) → 0 < length text → limit < start + length text
      → fold read s (lines_from number start (front text (part ∷ parts))) ≡ stopped s number
  late_parts s number start text part [] some long =
      late_last s number start (text ++ part) (omega (arith, length-append text part)) (omega (arith, length-append text part))
  late_parts s number start text part (next ∷ parts) some long =
      late_first s (record { number = number; stop = start + length (text ++ part) + 1; text = strip_carriage_return (text ++ part) })
      (lines_from (number + 1) (start + length (text ++ part) + 1) (next ∷ parts)) (omega (arith, length-append text part))

  late_text : (s : S) (number start : ℕ) (text xs : List ℕ) → 0 < length text → limit < start + length text
      → fold read s (lines_from number start (front text (parts_at 10 xs))) ≡ stopped s number
  late_text s number start text xs some long =
      let (part, parts, e) = split_some (λ byte. byte == 10) xs in
      rw e (late_parts s number start text part parts some long)

  -- a line that ends
  ended : (s : S) (number start : ℕ) (text xs : List ℕ) →
      fold read s (lines_from number start (front text ([] ∷ parts_at 10 xs)))
      ≡ fold read (read s (line_of number start text)) (lines_from (number + 1) (start + length (text ++ []) + 1) (front [] (parts_at 10 xs)))
  ended s number start text xs =
      let (part, parts, e) = split_some (λ byte. byte == 10) xs in
      rw e refl

  -- what is read of two texts is the same, in front of which anything may stand
  abbrev AreReadAlike : List ℕ → List ℕ → ℕ → Type 0
  AreReadAlike cut whole left =
      (s : S) (number start : ℕ) (text : List ℕ) → start + length text + left ≡ limit + 1 → start ≤ limit →
      fold read s (lines_from number start (front text (parts_at 10 cut))) ≡ fold read s (lines_from number start (front text (parts_at 10 whole)))

  after_end : (k : ℕ) (cut whole : List ℕ) → AreReadAlike cut whole k → (s : S) (number start : ℕ) (text : List ℕ) → start + length text + suc k ≡ limit + 1 →
      fold read s (lines_from number start (front text ([] ∷ parts_at 10 cut))) ≡ fold read s (lines_from number start (front text ([] ∷ parts_at 10 whole)))
  after_end zero cut whole again s number start text sum =
      let long : limit < start + length (text ++ []) + 1 = omega (arith, length-append text [], sum) in
      ended s number start text cut
      ∙ late_first s (line_of number start text) (lines_from (number + 1) (start + length (text ++ []) + 1) (front [] (parts_at 10 cut))) long
      ∙ sym (late_first s (line_of number start text) (lines_from (number + 1) (start + length (text ++ []) + 1) (front [] (parts_at 10 whole))) long)
      ∙ sym (ended s number start text whole)
  after_end (suc k) cut whole again s number start text sum =
      ended s number start text cut
      ∙ again (read s (line_of number start text)) (number + 1) (start + length (text ++ []) + 1) [] (omega (arith, length-append text [], sum))
      (omega (arith, length-append text [], sum))
      ∙ sym (ended s number start text whole)

  one_byte : (here : Bool) (k x : ℕ) (cut whole : List ℕ) → AreReadAlike cut whole k → (s : S) (number start : ℕ) (text : List ℕ)
      → start + length text + suc k ≡ limit + 1 → start ≤ limit →
      fold read s (lines_from number start (front text (cond here ([] ∷ parts_at 10 cut) (onto_first x (parts_at 10 cut)))))
      ≡ fold read s (lines_from number start (front text (cond here ([] ∷ parts_at 10 whole) (onto_first x (parts_at 10 whole)))))
  one_byte true k x cut whole again s number start text sum low = after_end k cut whole again s number start text sum
  one_byte false k x cut whole again s number start text sum low =
      ap (λ parts. fold read s (lines_from number start parts)) (front_one text x (parts_at 10 cut))
      ∙ again s number start (text ++ x ∷ []) (omega (arith, length-append text (x ∷ []), sum)) low
      ∙ sym (ap (λ parts. fold read s (lines_from number start parts)) (front_one text x (parts_at 10 whole)))

  alike : (k : ℕ) (xs : List ℕ) → AreReadAlike (take k xs) xs k
  alike zero xs s number start text sum low =
      late_text s number start text (take 0 xs) (omega (arith, sum, low)) (omega (arith, sum))
      ∙ sym (late_text s number start text xs (omega (arith, sum, low)) (omega (arith, sum)))
  alike (suc k) [] s number start text sum low = refl
  alike (suc k) (x ∷ xs) s number start text sum low = one_byte (x == 10) k x (take k xs) xs (alike k xs) s number start text sum low

  pub cut_texts_are_read_alike : (s : S) (bytes : List ℕ) → fold read s (lines_of (take (limit + 1) bytes)) ≡ fold read s (lines_of bytes)
  cut_texts_are_read_alike s bytes =
      ap (λ parts. fold read s (lines_from 1 0 parts)) (sym (front_none (take (limit + 1) bytes)))
      ∙ alike (limit + 1) bytes s 1 0 [] (omega arith) (omega arith)
      ∙ ap (λ parts. fold read s (lines_from 1 0 parts)) (front_none bytes)
