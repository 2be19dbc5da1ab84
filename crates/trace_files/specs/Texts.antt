-- What is still to be read of a trace in a file, and how it goes on.
use Rattle.std.specs.Prelude.{◌≡◌, ◌≤◌, ◌<◌, ◌⊎◌, ◌+◌, ◌-◌, ℕ, List, [], ◌∷◌, Option, Some, None, length, take}
use Rattle.trace_text.specs.declared.events.Event.{Event}
use Rattle.trace_text.specs.declared.lines.TheConstants.{LINE_BYTES}
use Rattle.trace_reading.specs.Lines.{line_in}
use Rattle.trace_laws.specs.declared.verdicts.TheConstants.{TRACE_BYTES}
use Rattle.trace_laws.specs.Verdicts.{texts_in}
use Rattle.outside_bytes.specs.Lines.{to_come}
use Rattle.trace_files.specs.declared.texts.TraceFile.{TraceFile}
use Rattle.trace_files.specs.declared.texts.Next.{Next}
use Rattle.trace_files.specs.declared.texts.Next.TheVariants as next

-- the file has these bytes behind the lines that were read, and they are to come, up to one more than a trace may have
abbrev pub IsLeft : TraceFile → Option (List ℕ) → List ℕ → Type 0
IsLeft trace left rest = to_come trace.lines left ≡ Some (take (TRACE_BYTES + 1 - trace.before) rest)

-- each line has a byte, and all are within the bytes of a trace
abbrev pub IsSound : TraceFile → Type 0
IsSound trace = (trace.count ≤ trace.before) × (trace.before ≤ TRACE_BYTES)

abbrev pub nothing_read : TraceFile → Type 0
nothing_read trace = (trace.before ≡ 0) × (trace.count ≡ 0)

-- a line was read behind so many bytes, and these bytes are left
pub record HasLine (before : ℕ) (rest : List ℕ) (tick : ℕ) (event : Event) (trace : TraceFile)
    (left : Option (List ℕ)) : Type 0 where
  pub text : List ℕ
  pub behind : List ℕ
  pub texts : texts_in rest ≡ text ∷ texts_in behind
  pub line : line_in text ≡ Some (tick, event)
  pub within : before + length text ≤ TRACE_BYTES
  pub before_is : trace.before ≡ before + length text
  pub left_is : IsLeft trace left behind

-- the next text is no line, or goes on beyond the most bytes
pub record HasNone (before : ℕ) (rest : List ℕ) : Type 0 where
  pub text : List ℕ
  pub behind : List (List ℕ)
  pub texts : texts_in rest ≡ text ∷ behind
  pub bad : (TRACE_BYTES < before + length text) ⊎ (line_in text ≡ None)

-- how a trace goes on with the bytes that are left behind so many
abbrev pub GoesOn : ℕ → List ℕ → Next → TraceFile → Option (List ℕ) → Type 0
GoesOn before rest (next.Line tick event) trace left = HasLine before rest tick event trace left
GoesOn before rest next.Refused trace left = HasNone before rest
GoesOn before rest next.End trace left = texts_in rest ≡ []

-- the bytes and the lines that were read are counted
abbrev pub Counted : TraceFile → TraceFile → Next → Type 0
Counted old new (next.Line tick event) = (old.before < new.before) × (new.count ≡ old.count + 1)
Counted old new next.Refused = new.count ≡ old.count
Counted old new next.End = new.count ≡ old.count

-- why the bytes that were read of a text are refused
abbrev pub IsBad : ℕ → List ℕ → Type 0
IsBad before text = (LINE_BYTES < length text)
    ⊎ ((TRACE_BYTES < before + length text)
    ⊎ ((length text ≤ LINE_BYTES) × (before + length text ≤ TRACE_BYTES) × (line_in text ≡ None)))

pub record IsTaken (old new : TraceFile) (tick : ℕ) (event : Event) : Type 0 where
  pub line : line_in old.text.items ≡ Some (tick, event)
  pub short : length old.text.items ≤ LINE_BYTES
  pub within : old.before + length old.text.items ≤ TRACE_BYTES
  pub before_is : new.before ≡ old.before + length old.text.items
  pub lines : new.lines ≡ old.lines

-- how the text that was read is taken
abbrev pub Takes : TraceFile → TraceFile → Next → Type 0
Takes old new (next.Line tick event) = IsTaken old new tick event
Takes old new next.Refused = IsBad old.before old.text.items
Takes old new next.End = ⊥
