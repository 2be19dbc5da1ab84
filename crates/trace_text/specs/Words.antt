-- The event words in the order of a summary.
use Rattle.std.specs.Prelude.{ℕ, List, [], ◌∷◌, codes}
use Rattle.trace_text.specs.declared.words.Word.{Word}
use Rattle.trace_text.specs.declared.words.Word.TheVariants as word

abbrev pub word_text : Word → List ℕ
word_text word.New = codes "new"
word_text word.Ready = codes "ready"
word_text word.Block = codes "block"
word_text word.Run = codes "run"
word_text word.Idle = codes "idle"
word_text word.Base = codes "base"
word_text word.Deadline = codes "deadline"
word_text word.Quantum = codes "quantum"
word_text word.Done = codes "done"
word_text word.Raise = codes "raise"
word_text word.Put = codes "put"
word_text word.Call = codes "call"
word_text word.Start = codes "start"
word_text word.Finish = codes "finish"
word_text word.Cancel = codes "cancel"
word_text word.Gone = codes "gone"
word_text word.Enter = codes "enter"
word_text word.Exit = codes "exit"
word_text word.Held = codes "held"
word_text word.Abort = codes "abort"
word_text word.Trigger = codes "trigger"
word_text word.Leave = codes "leave"
word_text word.Init = codes "init"
word_text word.Final = codes "final"
word_text word.Left = codes "left"
word_text word.Replace = codes "replace"
word_text word.Release = codes "release"
word_text word.Serve = codes "serve"
word_text word.Served = codes "served"
word_text word.Interrupt = codes "interrupt"
word_text word.Port = codes "port"
word_text word.Mask = codes "mask"
word_text word.Unmask = codes "unmask"
word_text word.Masked = codes "masked"
word_text word.End = codes "end"

abbrev pub all_words : List Word
all_words = word.New ∷ word.Ready ∷ word.Block ∷ word.Run ∷ word.Idle ∷ word.Base ∷ word.Deadline ∷ word.Quantum
    ∷ word.Done ∷ word.Raise ∷ word.Put ∷ word.Call ∷ word.Start ∷ word.Finish ∷ word.Cancel ∷ word.Gone
    ∷ word.Enter ∷ word.Exit ∷ word.Held ∷ word.Abort ∷ word.Trigger ∷ word.Leave ∷ word.Init ∷ word.Final
    ∷ word.Left ∷ word.Replace ∷ word.Release ∷ word.Serve ∷ word.Served ∷ word.Interrupt ∷ word.Port ∷ word.Mask
    ∷ word.Unmask ∷ word.Masked ∷ word.End ∷ []
