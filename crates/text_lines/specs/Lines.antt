-- How the bytes of a text are cut into lines, and a line into words.
use Rattle.std.specs.Prelude.{◌≡◌, ℕ, ◌+◌, ◌==◌, if◌then◌else◌, List, [], ◌∷◌, length, drop}
use Rattle.std.specs.List.{slice_split}
use Rattle.std.specs.Str.Lines.{strip_carriage_return}
use Rattle.text_lines.specs.declared.lines.TextLine.{TextLine}

-- A line: its number from 1, how many bytes of the text end with it, and its text without its end.
pub record NumberedLine : Type 0 where
  pub number : ℕ
  pub stop : ℕ
  pub text : List ℕ

-- a line as the program has it
abbrev pub line_in : TextLine → NumberedLine
line_in line = record { number = line.number; stop = line.stop; text = line.text.now }

-- what stands between bytes that are this one
abbrev pub parts_at : ℕ → List ℕ → List (List ℕ)
parts_at mark bytes = slice_split (λ byte. byte == mark) bytes

-- The lines of what stands between line feeds: each but the last ends with a line feed, or with a
-- carriage return and a line feed. The last lacks it, and is no line where it has no byte.
abbrev pub lines_from : ℕ → ℕ → List (List ℕ) → List NumberedLine
lines_from number start [] = []
lines_from number start (last ∷ []) =
    if length last == 0 then []
    else (record { number = number; stop = start + length last; text = last } ∷ [])
lines_from number start (part ∷ next ∷ parts) =
    record { number = number; stop = start + length part + 1; text = strip_carriage_return part }
    ∷ lines_from (number + 1) (start + length part + 1) (next ∷ parts)

-- the lines of a text
abbrev pub lines_of : List ℕ → List NumberedLine
lines_of bytes = lines_from 1 0 (parts_at 10 bytes)

-- the line of a number that begins at an offset, and that what is left has the lines behind it
abbrev pub IsLineAt : List ℕ → ℕ → ℕ → ℕ → List ℕ → Type 0
IsLineAt bytes number start stop text =
    lines_from number start (parts_at 10 (drop start bytes))
    ≡ record { number = number; stop = stop; text = text }
    ∷ lines_from (number + 1) stop (parts_at 10 (drop stop bytes))

-- the words of a line, with one space between two of them
abbrev pub words_of : List ℕ → List (List ℕ)
words_of text = parts_at 32 text
