-- What is answered of the bytes of a whole trace: the first line that is no line, does not keep the list formed or
-- breaks a law.
use Rattle.std.specs.Prelude.{◌≡◌, ◌<◌, ◌≤◌, ◌⊎◌, ℕ, ◌+◌, ◌==◌, if◌then◌else◌, nat_lt, List}
use Rattle.std.specs.Prelude.{[], ◌∷◌, ◌++◌, Option, Some, None, Result, Ok, Err, length}
use Rattle.trace_text.specs.Queue.{TraceLine}
use Rattle.trace_text.specs.Laws.{Formed, KeepsLaws}
use Rattle.trace_reading.specs.Lines.{line_in}
use Rattle.trace_laws.specs.declared.laws.Law.{Law}
use Rattle.trace_laws.specs.declared.laws.LawFault.{LawFault}
use Rattle.trace_laws.specs.declared.laws.LawFault.TheVariants.{Malformed, Broken}
use Rattle.trace_laws.specs.declared.verdicts.Verdict.{Verdict}
use Rattle.trace_laws.specs.declared.verdicts.Verdict.TheVariants as verdict
use Rattle.trace_laws.specs.declared.verdicts.TheConstants.{TRACE_BYTES}
use Rattle.trace_laws.specs.Watched.{answer_of}

-- the first line, and the texts of those behind it: each line feed ends a line
abbrev pub with_byte : ℕ → List (List ℕ) → List (List ℕ)
with_byte byte [] = (byte ∷ []) ∷ []
with_byte byte (text ∷ texts) = if byte == 10 then (byte ∷ []) ∷ text ∷ texts else (byte ∷ text) ∷ texts

abbrev pub texts_in : List ℕ → List (List ℕ)
texts_in [] = []
texts_in (byte ∷ bytes) = with_byte byte (texts_in bytes)

-- the verdict once the answer of the list with a further line is known
abbrev pub verdict_at : ℕ → Result (Unit {0}) LawFault → List TraceLine → (List TraceLine → Verdict) → Verdict
verdict_at number (Ok u) lines later = later lines
verdict_at number (Err Malformed) lines later = verdict.Refused number
verdict_at number (Err (Broken law)) lines later = verdict.Broken number law

abbrev pub verdict_with : List TraceLine → Option TraceLine → (List TraceLine → Verdict) → Verdict
verdict_with lines None later = verdict.Refused (length lines + 1)
verdict_with lines (Some line) later =
    verdict_at (length lines + 1) (answer_of (lines ++ line ∷ [])) (lines ++ line ∷ []) later

-- behind so many bytes, which were these lines
abbrev pub verdict_from : ℕ → List TraceLine → List (List ℕ) → Verdict
verdict_from before lines [] = verdict.Lawful (length lines)
verdict_from before lines (text ∷ texts) =
    if nat_lt TRACE_BYTES (before + length text) then verdict.Refused (length lines + 1)
    else verdict_with lines (line_in text) (λ more. verdict_from (before + length text) more texts)

abbrev pub laws_answer : List ℕ → Verdict
laws_answer bytes = verdict_from 0 [] (texts_in bytes)

-- each text is the line
abbrev pub Reads : List (List ℕ) → List TraceLine → Type 0
Reads [] [] = Unit {0}
Reads [] (line ∷ lines) = ⊥
Reads (text ∷ texts) [] = ⊥
Reads (text ∷ texts) (line ∷ lines) = (line_in text ≡ Some line) × Reads texts lines

abbrev pub bytes_in : List (List ℕ) → ℕ
bytes_in [] = 0
bytes_in (text ∷ texts) = length text + bytes_in texts

-- the texts are those of a formed list of so many lines that keeps the laws, and are within the most bytes
pub record IsLawful (texts : List (List ℕ)) (count : ℕ) : Type 0 where
  pub lines : List TraceLine
  pub read : Reads texts lines
  pub counted : length lines ≡ count
  pub formed : Formed lines
  pub lawful : KeepsLaws lines
  pub within : bytes_in texts ≤ TRACE_BYTES

-- The texts before this one are those of a formed list that keeps the laws, within the most bytes, and it is the text
-- of this number.
pub record Offends (texts : List (List ℕ)) (number : ℕ) : Type 0 where
  pub before : List (List ℕ)
  pub text : List ℕ
  pub behind : List (List ℕ)
  pub whole : texts ≡ before ++ text ∷ behind
  pub lines : List TraceLine
  pub read : Reads before lines
  pub formed : Formed lines
  pub lawful : KeepsLaws lines
  pub number_is : number ≡ length lines + 1
  pub within : bytes_in before ≤ TRACE_BYTES

-- it breaks this law, and ends within the most bytes
pub record IsBroken (texts : List (List ℕ)) (number : ℕ) (law : Law) : Type 0 where
  pub offends : Offends texts number
  pub line : TraceLine
  pub line_is : line_in offends.text ≡ Some line
  pub breaks : answer_of (offends.lines ++ line ∷ []) ≡ Err (Broken law)
  pub inside : bytes_in offends.before + length offends.text ≤ TRACE_BYTES

-- It goes on beyond the most bytes, is no line, or is one with which the list does not stay formed.
abbrev pub IsRefusable : List (List ℕ) → List ℕ → List TraceLine → Type 0
IsRefusable before text lines =
    (TRACE_BYTES < bytes_in before + length text)
    ⊎ ((line_in text ≡ None) ⊎ ((line : TraceLine) × (line_in text ≡ Some line)
    × (answer_of (lines ++ line ∷ []) ≡ Err Malformed)))

pub record IsRefused (texts : List (List ℕ)) (number : ℕ) : Type 0 where
  pub offends : Offends texts number
  pub refusable : IsRefusable offends.before offends.text offends.lines

-- what a verdict on such texts says
abbrev pub Says : List (List ℕ) → Verdict → Type 0
Says texts (verdict.Lawful count) = IsLawful texts count
Says texts (verdict.Broken number law) = IsBroken texts number law
Says texts (verdict.Refused number) = IsRefused texts number
