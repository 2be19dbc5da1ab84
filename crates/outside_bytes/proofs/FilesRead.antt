-- Reading a file piece by piece.
use Rattle.std.proofs.Common.{◌≡◌, ◌<◌, ◌+◌, ℕ, List, [], ◌++◌, Option, Some, None, IfSome, take, drop, refl, sym, ap, subst, ◌∙◌, append_assoc, arith}
use Rattle.std.proofs.lemmas.List.{take-append-drop, drop-drop, length-drop, nil_from_length}
use Rattle.ann_base.specs.Outside.{HasRead, HasReadFile}
use Rattle.outside_bytes.specs.Files.{left_in, left_of}

-- ---- one read

-- What a read moves of what is left: as many bytes from its front, none exactly at the end.
pub record Moves (left behind : List ℕ) (asked : ℕ) (got : List ℕ) (count : ℕ) : Type 0 where
  pub got_is : got ≡ take count left
  pub behind_is : behind ≡ drop count left
  pub at_end : 0 < asked → count ≡ 0 → left ≡ []

abbrev pub HasMoved : Option (List ℕ) → Option (List ℕ) → ℕ → List ℕ → ℕ → Type 0
HasMoved left behind asked got count = IfSome left (λ before. (later : List ℕ) × (behind ≡ Some later) × Moves before later asked got count)

moved_in : (file : Option (List ℕ)) (offset asked : ℕ) (got : List ℕ) (count : ℕ) → HasReadFile file offset asked got count
    → HasMoved (left_in file offset) (left_in file (offset + count)) asked got count
moved_in None offset asked got count read = tt
moved_in (Some file) offset asked got count read = (
  drop (offset + count) file,
  refl,
  record {
    got_is = read.bytes_read;
    behind_is = sym (drop-drop count offset file);
    at_end = λ some none. nil_from_length (drop offset file) (omega (arith, read.at_end some none, length-drop offset file));
  },
)

pub moved : (files : Option (List ℕ → Option (List ℕ))) (at behind : Option (List ℕ × ℕ)) (asked : ℕ) (got : List ℕ) (count : ℕ)
    → HasRead files at behind asked got count → HasMoved (left_of files at) (left_of files behind) asked got count
moved None at behind asked got count read = tt
moved (Some files) None behind asked got count read = tt
moved (Some files) (Some at) behind asked got count read =
    subst (λ b. HasMoved (left_in (files at.0) at.1) (left_of (Some files) b) asked got count) (sym read.1) (moved_in (files at.0) at.1 asked got count read.0)

-- ---- what was read so far

-- these bytes were read of what was left, and the rest is left now
abbrev pub HasReadSoFar : Option (List ℕ) → Option (List ℕ) → List ℕ → Type 0
HasReadSoFar first at bytes = IfSome first (λ left. (rest : List ℕ) × (left ≡ bytes ++ rest) × (at ≡ Some rest))

pub read_more : (first at behind : Option (List ℕ)) (bytes got : List ℕ) (asked count : ℕ) → HasReadSoFar first at bytes → HasMoved at behind asked got count
    → HasReadSoFar first behind (bytes ++ got)
read_more None at behind bytes got asked count so_far piece = tt
read_more (Some left) at behind bytes got asked count so_far piece =
    let known = subst (λ a. HasMoved a behind asked got count) so_far.2 piece in
    let moves = known.2 in (
      known.0,
      so_far.1 ∙ ap (λ xs. bytes ++ xs) (sym (take-append-drop count so_far.0)) ∙ sym (append_assoc bytes (take count so_far.0) (drop count so_far.0))
          ∙ ap (λ xs. (bytes ++ xs) ++ drop count so_far.0) (sym moves.got_is) ∙ ap (λ xs. (bytes ++ got) ++ xs) (sym moves.behind_is),
      known.1,
    )

-- ---- the named file

-- ---- why a file is not read
