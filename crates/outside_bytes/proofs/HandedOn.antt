-- What is handed on byte by byte, and when a line is whole.
use Rattle.std.proofs.Common.{◌≡◌, ◌<◌, ◌≤◌, ◌+◌, ℕ, suc, Bool, true, false, not, ◌==◌, if◌then◌else◌, List, [], ◌∷◌, ◌++◌, Option, Some, None, IfSome}
use Rattle.std.proofs.Common.{length, take, drop, get_or, refl, sym, ap, subst, ◌∙◌, append_assoc, length-append, append-nil, add-one, drop-cons, arith}
use Rattle.std.proofs.lemmas.Bool.{ne_eqb}
use Rattle.std.proofs.lemmas.List.{take_all}
use Rattle.std.proofs.Math.Seq.{take-append_seam, drop-append_seam}
use Rattle.outside_bytes.specs.Bytes.{first_line, has_feed, is_some_byte}
use Rattle.outside_bytes.specs.Lines.{come, HandsOn, HasHandedOn, IsStillToCome}
use Rattle.outside_bytes.proofs.BytesByLines.{first_line-append, has_feed-push, is_some_byte-append}

abbrev or_none : Option (List ℕ) → List ℕ
or_none None = []
or_none (Some bytes) = bytes

same_bytes : (a b : List ℕ) → Some a ≡ Some b → a ≡ b
same_bytes a b h = ap or_none h

-- the next byte of the piece
popped : (piece : List ℕ) (next byte : ℕ) → next < length piece → byte ≡ get_or piece next byte → drop next piece ≡ byte ∷ drop (next + 1) piece
popped piece next byte inside is =
    drop-cons piece next byte inside ∙ ap (λ b. b ∷ drop (suc next) piece) (sym is) ∙ ap (λ n. byte ∷ drop n piece) (sym (add-one next))

-- one more byte is handed on
pub handed_one : (before left : Option (List ℕ)) (line piece : List ℕ) (next room byte : ℕ) → next < length piece → byte ≡ get_or piece next byte
    → HasHandedOn before (come next piece room left) line → HasHandedOn before (come (next + 1) piece room left) (line ++ byte ∷ [])
handed_one None left line piece next room byte inside is h = tt
handed_one (Some bytes) None line piece next room byte inside is h = let no : None ≡ Some h.0 = h.2 in cc
handed_one (Some bytes) (Some l) line piece next room byte inside is h = (
  drop (next + 1) piece ++ take room l,
  h.1 ∙ ap (λ xs. line ++ xs) (sym (same_bytes (drop next piece ++ take room l) h.0 h.2) ∙ ap (λ xs. xs ++ take room l) (popped piece next byte inside is))
      ∙ sym (append_assoc line (byte ∷ []) (drop (next + 1) piece ++ take room l)),
  refl,
)

short_line : (line whole : List ℕ) (most : ℕ) → whole ≡ line → length line ≤ most → line ≡ take most whole
short_line line whole most is short = sym (ap (take most) is ∙ take_all most line short)

-- a line feed ends the line
pub ended_line : (before after : Option (List ℕ)) (line : List ℕ) (byte most : ℕ) → has_feed line ≡ false → length line < most → (byte == 10) ≡ true
    → HasHandedOn before after (line ++ byte ∷ []) → HandsOn most before after (line ++ byte ∷ []) true
ended_line None after line byte most none short feed h = tt
ended_line (Some bytes) after line byte most none short feed h =
    let whole : bytes ≡ line ++ (byte ∷ h.0) = h.1 ∙ append_assoc line (byte ∷ []) h.0 in (
      short_line (line ++ byte ∷ []) (first_line bytes) most
          (ap first_line whole ∙ first_line-append line (byte ∷ h.0) none ∙ ap (λ b. line ++ (if b then byte ∷ [] else byte ∷ first_line h.0)) feed)
          (omega (arith, length-append line (byte ∷ []), short)),
      h.2 ∙ sym (ap (λ xs. Some (drop (length (line ++ byte ∷ [])) xs)) h.1 ∙ ap Some (drop-append_seam (line ++ byte ∷ []) h.0)),
      sym (ap is_some_byte whole ∙ is_some_byte-append line byte h.0),
    )

-- as many bytes as are wanted, with no line feed among them
pub cut_line : (before after : Option (List ℕ)) (line : List ℕ) (byte most : ℕ) → has_feed line ≡ false → (byte == 10) ≡ false
    → length (line ++ byte ∷ []) ≡ most → HasHandedOn before after (line ++ byte ∷ []) → HandsOn most before after (line ++ byte ∷ []) true
cut_line None after line byte most none other full h = tt
cut_line (Some bytes) after line byte most none other full h =
    let whole : bytes ≡ line ++ (byte ∷ h.0) = h.1 ∙ append_assoc line (byte ∷ []) h.0 in
    let first : first_line bytes ≡ (line ++ byte ∷ []) ++ first_line h.0 =
    ap first_line h.1 ∙ first_line-append (line ++ byte ∷ []) h.0 (has_feed-push line byte none other) in (
      sym (ap (take most) first ∙ ap (λ n. take n ((line ++ byte ∷ []) ++ first_line h.0)) (sym full) ∙ take-append_seam (line ++ byte ∷ []) (first_line h.0)),
      h.2 ∙ sym (ap (λ xs. Some (drop (length (line ++ byte ∷ [])) xs)) h.1 ∙ ap Some (drop-append_seam (line ++ byte ∷ []) h.0)),
      sym (ap is_some_byte whole ∙ is_some_byte-append line byte h.0),
    )

-- nothing is left behind the last line
pub last_line : (before between after : Option (List ℕ)) (line : List ℕ) (some : Bool) (most : ℕ) → has_feed line ≡ false → length line < most
    → HasHandedOn before between line → IfSome between (λ bytes. bytes ≡ []) → IsStillToCome between after → some ≡ is_some_byte line
    → HandsOn most before after line some
last_line None between after line some most none short h end same is = tt
last_line (Some bytes) between after line some most none short h end same is =
    let nothing : h.0 ≡ [] = subst (λ o. IfSome o (λ xs. xs ≡ [])) h.2 end in
    let whole : bytes ≡ line ++ [] = h.1 ∙ ap (λ xs. line ++ xs) nothing in (
      short_line line (first_line bytes) most (ap first_line whole ∙ first_line-append line [] none ∙ append-nil line) (omega (arith, short)),
      subst (λ o. IsStillToCome o after) h.2 same ∙ ap Some nothing ∙ sym (ap (λ xs. Some (drop (length line) xs)) whole ∙ ap Some (drop-append_seam line [])),
      is ∙ sym (ap is_some_byte (whole ∙ append-nil line)),
    )

-- a line was handed on where it has a byte
pub some_by : (line : List ℕ) (size : ℕ) → size ≡ length line → not (size == 0) ≡ is_some_byte line
some_by [] size is = ap (λ n. not (n == 0)) is
some_by (byte ∷ line) size is = let more : size ≡ suc (length line) = is in ap not (ne_eqb size 0 (λ e. omega (arith, more, e)))
