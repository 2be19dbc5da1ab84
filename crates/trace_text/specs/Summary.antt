-- The summary of a list of lines: how often each event word occurred, in the order of the words, then the last line.
use Rattle.std.specs.Prelude.{ℕ, ◌==◌, if◌then◌else◌, List, [], ◌∷◌, ◌++◌, decimal, count_by, flat_map}
use Rattle.std.specs.Str.{bytes_eq}
use Rattle.trace_text.specs.declared.events.Event.{Event}
use Rattle.trace_text.specs.declared.events.Event.TheVariants as event
use Rattle.trace_text.specs.declared.words.Word.{Word}
use Rattle.trace_text.specs.declared.words.Word.TheVariants as word
use Rattle.trace_text.specs.Text.{line_text}
use Rattle.trace_text.specs.Words.{word_text, all_words}

-- the word of an event's line
abbrev pub word_of : Event → Word
word_of (event.New what name level) = word.New
word_of (event.Ready who level end deadline) = word.Ready
word_of (event.Block who why) = word.Block
word_of (event.Run who) = word.Run
word_of event.Idle = word.Idle
word_of (event.Base task level) = word.Base
word_of (event.Deadline task deadline) = word.Deadline
word_of (event.Quantum task) = word.Quantum
word_of (event.Done task) = word.Done
word_of (event.Raise who name) = word.Raise
word_of (event.Put who text) = word.Put
word_of (event.Call task call entry priority) = word.Call
word_of (event.Start who call) = word.Start
word_of (event.Finish who call how) = word.Finish
word_of (event.Cancel task call) = word.Cancel
word_of (event.Gone task call) = word.Gone
word_of (event.Enter who object mode) = word.Enter
word_of (event.Exit who object) = word.Exit
word_of (event.Held who object mode) = word.Held
word_of (event.Abort task victim) = word.Abort
word_of (event.Trigger task) = word.Trigger
word_of (event.Leave who region how) = word.Leave
word_of (event.Init who object region name) = word.Init
word_of (event.Final who object) = word.Final
word_of (event.Left who region) = word.Left
word_of (event.Replace who object) = word.Replace
word_of (event.Release release object handler) = word.Release
word_of (event.Serve release) = word.Serve
word_of (event.Served release) = word.Served
word_of (event.Interrupt number) = word.Interrupt
word_of (event.Port number value) = word.Port
word_of (event.Mask number) = word.Mask
word_of (event.Unmask number) = word.Unmask
word_of (event.Masked number) = word.Masked
word_of (event.End why) = word.End

abbrev pub count_of : Word → List (ℕ × Event) → ℕ
count_of w lines = count_by (λ line. bytes_eq (word_text (word_of line.1)) (word_text w)) lines

-- `WORD COUNT` for a word that occurred, and nothing for another
abbrev pub count_line : Word → ℕ → List ℕ
count_line w count = if count == 0 then [] else word_text w ++ 32 ∷ (decimal count ++ 10 ∷ [])

abbrev pub count_lines : List Word → List (ℕ × Event) → List ℕ
count_lines words lines = flat_map (λ w. count_line w (count_of w lines)) words

abbrev pub last_line : List (ℕ × Event) → List ℕ
last_line [] = []
last_line (line ∷ []) = line_text line.0 line.1
last_line (line ∷ next ∷ lines) = last_line (next ∷ lines)

abbrev pub summary_of : List (ℕ × Event) → List ℕ
summary_of lines = count_lines all_words lines ++ last_line lines
