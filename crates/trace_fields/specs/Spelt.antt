-- How words are recognized: as the one of a list that is spelt so.
use Rattle.std.specs.Prelude.{ℕ, List, [], ◌∷◌, Option, find}
use Rattle.std.specs.Str.{bytes_eq}
use Rattle.trace_text.specs.declared.events.QueueEnd.{QueueEnd}
use Rattle.trace_text.specs.declared.events.QueueEnd.TheVariants.{Head, Tail}
use Rattle.trace_text.specs.declared.events.Waits.{Waits}
use Rattle.trace_text.specs.declared.events.Waits.TheVariants as waits
use Rattle.trace_text.specs.declared.events.Mode.{Mode}
use Rattle.trace_text.specs.declared.events.Mode.TheVariants as mode
use Rattle.trace_text.specs.declared.events.Leaves.{Leaves}
use Rattle.trace_text.specs.declared.events.Leaves.TheVariants as leaves
use Rattle.trace_text.specs.declared.words.Word.{Word}
use Rattle.trace_text.specs.Text.{queue_end_text, waits_text, mode_text, leaves_text}
use Rattle.trace_text.specs.Words.{word_text, all_words}

-- the first of these that is spelt so
abbrev pub spelt_in : {X : Type 0} → (X → List ℕ) → List X → List ℕ → Option X
spelt_in text all bytes = find (λ x. bytes_eq (text x) bytes) all

abbrev pub word_in : List ℕ → Option Word
word_in = spelt_in word_text all_words

abbrev pub queue_end_in : List ℕ → Option QueueEnd
queue_end_in = spelt_in queue_end_text (Head ∷ Tail ∷ [])

abbrev pub waits_in : List ℕ → Option Waits
waits_in =
    spelt_in waits_text (waits.Activation ∷ waits.Delay ∷ waits.Entry ∷ waits.Accept ∷ waits.Select
    ∷ waits.Dependents ∷ waits.Call ∷ waits.Release ∷ [])

abbrev pub mode_in : List ℕ → Option Mode
mode_in = spelt_in mode_text (mode.Read ∷ mode.Write ∷ [])

abbrev pub leaves_in : List ℕ → Option Leaves
leaves_in =
    spelt_in leaves_text (leaves.End ∷ leaves.Return ∷ leaves.Exit ∷ leaves.Exception ∷ leaves.Abort
    ∷ leaves.Terminate ∷ [])
