-- What a Put_Line of a program can put (A.10.7), and what every text then is that a run puts.
use Rattle.std.specs.Prelude.{◌≡◌, ◌≤◌, ◌<◌, ◌+◌, ◌^◌, ℕ, ℤ, pos, negsuc, Bool}
use Rattle.std.specs.Prelude.{true, cond, leb, IsTrue, List, [], ◌∷◌, ◌++◌, length}
use Rattle.std.specs.List.{list_all, AllByRecursion}
use Rattle.ann_base.specs.declared.names.TheConstants.{NAME_BYTES}
use Rattle.trace_text.specs.declared.events.Event.{Event}
use Rattle.trace_text.specs.declared.events.Event.TheVariants as line
use Rattle.trace_text.specs.Text.{is_text_byte, IsPutText}
use Rattle.profile_image.specs.declared.image.Image.{Image}
use Rattle.profile_image.specs.declared.numbers.StatementNo.{StatementNo}
use Rattle.profile_image.specs.declared.script_items.Item.{Item}
use Rattle.profile_image.specs.declared.statements.Piece.{Piece}
use Rattle.profile_image.specs.declared.statements.Piece.TheVariants as piece
use Rattle.profile_image.specs.declared.statements.StatementForm.TheVariants as form
use Rattle.profile_image.specs.declared.values.Value.{Value}
use Rattle.profile_image.specs.declared.values.Value.TheVariants.{Whole}
use Rattle.profile_image.specs.Program.{form_of, literals_of}
use Rattle.profile_machine.specs.Operators.{text_of_whole, text_of_truth, text_of_literal}
use Rattle.profile_machine.specs.Run.{run_of}
use Rattle.line_laws.specs.Names.{EachEvent}

-- ---- what a Put_Line puts

-- the text of a piece whose expression has this value
abbrev pub piece_with : Image → Piece → Value → List ℕ
piece_with p (piece.Text text) v = text
piece_with p (piece.Whole e) v = text_of_whole v
piece_with p (piece.Truth e) v = text_of_truth v
piece_with p (piece.Literal e n) v = text_of_literal (literals_of p n) v

-- the text of pieces whose expressions have these values, a value for each piece
abbrev pub text_with : Image → List Piece → List Value → List ℕ
text_with p [] vs = []
text_with p (x ∷ xs) [] = []
text_with p (x ∷ xs) (v ∷ vs) = piece_with p x v ++ text_with p xs vs

-- a whole number of 32 bits (3.5.4)
abbrev pub IsWholeWithin : ℤ → Type 0
IsWholeWithin (pos n) = n < 2 ^ 31
IsWholeWithin (negsuc n) = n < 2 ^ 31

abbrev pub IsValueWithin : Value → Type 0
IsValueWithin (Whole n) = IsWholeWithin n
IsValueWithin _ = Unit {0}

-- ---- what is asked of a program

abbrev pub longest : List (List ℕ) → ℕ
longest [] = 0
longest (x ∷ xs) = cond (leb (length x) (longest xs)) (longest xs) (length x)

-- the most bytes of a piece: the image of a whole number of 32 bits has at most 11, that of a truth value 5 (3.5)
abbrev pub most_bytes : Image → Piece → ℕ
most_bytes p (piece.Text text) = length text
most_bytes p (piece.Whole e) = 11
most_bytes p (piece.Truth e) = 5
most_bytes p (piece.Literal e n) = longest (literals_of p n)

abbrev pub most_bytes_of_all : Image → List Piece → ℕ
most_bytes_of_all p [] = 0
most_bytes_of_all p (x ∷ xs) = most_bytes p x + most_bytes_of_all p xs

abbrev pub are_text_bytes : List ℕ → Bool
are_text_bytes text = list_all is_text_byte text

abbrev pub has_text_bytes : Image → Piece → Bool
has_text_bytes p (piece.Text text) = are_text_bytes text
has_text_bytes p (piece.Whole e) = true
has_text_bytes p (piece.Truth e) = true
has_text_bytes p (piece.Literal e n) = list_all are_text_bytes (literals_of p n)

-- a line has room for the text of these pieces, and each byte of it may stand there
pub record IsShortPut (p : Image) (pieces : List Piece) : Type 0 where
  pub bytes : IsTrue (list_all (has_text_bytes p) pieces)
  pub short : most_bytes_of_all p pieces ≤ NAME_BYTES

-- so it is of each Put_Line of the program
abbrev pub PutsAreShort : Image → Type 0
PutsAreShort p = (s : StatementNo) (pieces : List Piece) → form_of p s ≡ form.PutLine pieces → IsShortPut p pieces

-- ---- the laws

-- it is the text of the pieces of a Put_Line of the program, whose expressions had some values
pub record IsPutOf (p : Image) (text : List ℕ) : Type 0 where
  pub statement : StatementNo
  pub pieces : List Piece
  pub values : List Value
  pub is_of : form_of p statement ≡ form.PutLine pieces
  pub text_is : text ≡ text_with p pieces values

-- the same, and if these values were within 32 bits a line can have the text
pub record IsShortPutOf (p : Image) (text : List ℕ) : Type 0 where
  pub put : IsPutOf p text
  pub short : AllByRecursion IsValueWithin put.values → IsPutText text

abbrev pub OfPut : (List ℕ → Type 0) → Event → Type 0
OfPut P (line.Put who text) = P text
OfPut P _ = Unit {0}

-- of every program
abbrev pub TextsAreOfPuts : Type 0
TextsAreOfPuts = (p : Image) (script : List (ℤ × Item)) (bound : ℕ)
    → EachEvent (OfPut (IsPutOf p)) (run_of p script bound)

abbrev pub TextsAreShort : Type 0
TextsAreShort = (p : Image) (script : List (ℤ × Item)) (bound : ℕ) → PutsAreShort p
    → EachEvent (OfPut (IsShortPutOf p)) (run_of p script bound)
