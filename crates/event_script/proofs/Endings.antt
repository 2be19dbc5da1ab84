-- Lines with too few words, or too many.
use Rattle.std.proofs.Common.{◌≡◌, ℕ, Bool, true, false, cond, Option, Some, None, List, [], ◌∷◌, length, Result, Err, ◌==◌, refl}
use Rattle.text_lines.specs.Lines.{words_of}
use Rattle.text_lines.proofs.Cuts.{split_some}
use Rattle.event_script.specs.declared.faults.ScriptFaultKind.{ScriptFaultKind}
use Rattle.event_script.specs.declared.faults.ScriptFaultKind.TheVariants.{BadLine}
use Rattle.event_script.specs.declared.words.Keyword.{Keyword}
use Rattle.event_script.specs.declared.words.Keyword.TheVariants as keyword
use Rattle.event_script.specs.declared.entries.Entry.{Entry}
use Rattle.event_script.specs.Words.{keyword_of, one_word}
use Rattle.event_script.specs.Entries.{entry_by, entry_in}

-- two words are not one
pub not_one : (text first rest : List ℕ) → words_of text ≡ first ∷ words_of rest → one_word (words_of text) ≡ None
not_one text first rest e =
    let (next, words, more) = split_some (λ byte. byte == 32) rest in
    rw (e, more) refl

-- a keyword wants words behind it
nothing_behind : (k : Option Keyword) (tick : List ℕ) → entry_by k tick [] ≡ Err BadLine
nothing_behind None tick = refl
nothing_behind (Some keyword.Interrupt) tick = refl
nothing_behind (Some keyword.Port) tick = refl
nothing_behind (Some keyword.Every) tick = refl
nothing_behind (Some keyword.Mask) tick = refl
nothing_behind (Some keyword.Unmask) tick = refl

either_way : (empty : Bool) (r : Result Entry ScriptFaultKind) → r ≡ Err BadLine → cond empty (Err BadLine) r ≡ Err BadLine
either_way true r e = refl
either_way false r e = e

pub no_more_words : (is_second : Bool) (tick word : List ℕ) → entry_in is_second (tick ∷ word ∷ []) ≡ Err BadLine
no_more_words is_second tick word =
    either_way (length tick == 0) (entry_by (keyword_of is_second word) tick []) (nothing_behind (keyword_of is_second word) tick)
