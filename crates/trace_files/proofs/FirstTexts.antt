-- The first text of bytes, and of the first of them.
use Rattle.std.proofs.Common.{◌≡◌, ℕ, zero, suc, Bool, true, false, ◌==◌, if◌then◌else◌, List, [], ◌∷◌, length, take, drop, refl, ap, sym, ◌∙◌}
use Rattle.outside_bytes.specs.Bytes.{first_line, is_some_byte}
use Rattle.trace_laws.specs.Verdicts.{with_byte, texts_in}

one_text : (byte : ℕ) (b : Bool)
    → (byte ∷ []) ∷ [] ≡ (if b then byte ∷ [] else byte ∷ []) ∷ texts_in (drop (length (if b then byte ∷ [] else byte ∷ [])) (byte ∷ []))
one_text byte true = refl
one_text byte false = refl

texts_by : (byte : ℕ) (bytes text : List ℕ) (texts : List (List ℕ)) (b : Bool) → texts_in bytes ≡ text ∷ texts → texts ≡ texts_in (drop (length text) bytes) →
    (if b then (byte ∷ []) ∷ text ∷ texts else (byte ∷ text) ∷ texts)
    ≡ (if b then byte ∷ [] else byte ∷ text) ∷ texts_in (drop (length (if b then byte ∷ [] else byte ∷ text)) (byte ∷ bytes))
texts_by byte bytes text texts true whole behind = ap (λ xs. (byte ∷ []) ∷ xs) (sym whole)
texts_by byte bytes text texts false whole behind = ap (λ xs. (byte ∷ text) ∷ xs) behind

-- bytes are their first line and the texts behind it
pub first_text : (bytes : List ℕ) → is_some_byte bytes ≡ true → texts_in bytes ≡ first_line bytes ∷ texts_in (drop (length (first_line bytes)) bytes)
first_text [] some = cc
first_text (byte ∷ []) some = one_text byte (byte == 10)
first_text (byte ∷ next ∷ bytes) some =
    let behind = first_text (next ∷ bytes) refl in
    ap (with_byte byte) behind
    ∙ texts_by byte (next ∷ bytes) (first_line (next ∷ bytes)) (texts_in (drop (length (first_line (next ∷ bytes))) (next ∷ bytes)))
    (byte == 10) behind refl

cut_by : (byte n : ℕ) (cut whole : List ℕ) (b : Bool) → cut ≡ take n whole
    → (if b then byte ∷ [] else byte ∷ cut) ≡ take (suc n) (if b then byte ∷ [] else byte ∷ whole)
cut_by byte zero cut whole true is = refl
cut_by byte (suc n) cut whole true is = refl
cut_by byte n cut whole false is = ap (λ xs. byte ∷ xs) is

-- the first line of the first bytes is cut where they end
pub first_line-take : (n : ℕ) (bytes : List ℕ) → first_line (take n bytes) ≡ take n (first_line bytes)
first_line-take zero bytes = refl
first_line-take (suc n) [] = refl
first_line-take (suc n) (byte ∷ bytes) = cut_by byte n (first_line (take n bytes)) (first_line bytes) (byte == 10) (first_line-take n bytes)

pub some_of_cut : (n : ℕ) (bytes : List ℕ) → is_some_byte (take n bytes) ≡ true → is_some_byte bytes ≡ true
some_of_cut zero bytes some = cc
some_of_cut (suc n) [] some = some
some_of_cut (suc n) (byte ∷ bytes) some = refl
