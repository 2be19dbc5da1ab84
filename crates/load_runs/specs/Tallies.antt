-- A tally of lines.
use Rattle.std.specs.Prelude.{◌≡◌, ℕ, ◌+◌, if◌then◌else◌, List, map}
use Rattle.std.specs.Str.{bytes_eq}
use Rattle.trace_text.specs.Queue.{TraceLine}
use Rattle.trace_text.specs.declared.words.Word.{Word}
use Rattle.trace_text.specs.Words.{word_text, all_words}
use Rattle.trace_text.specs.Summary.{count_of, count_line, last_line}
use Rattle.load_runs.specs.declared.tally.Count.{Count}
use Rattle.load_runs.specs.declared.tally.Tally.{Tally}

abbrev pub none_of : Word → Count
none_of w = record { word = w; count = 0 }

-- how often a word occurs in lines
abbrev pub count_in : List TraceLine → Word → Count
count_in lines w = record { word = w; count = count_of w lines }

-- with a line of a word more
abbrev pub counted : Word → Count → Count
counted w count = if bytes_eq (word_text w) (word_text count.word) then record count { count = count.count + 1 }
    else count

-- the line of a word and its count, where it occurred
abbrev pub count_text : Count → List ℕ
count_text count = count_line count.word count.count

-- a tally is that of these lines
pub record Tallies (tally : Tally) (lines : List TraceLine) : Type 0 where
  pub counts : tally.counts.items ≡ map (count_in lines) all_words
  pub last : tally.last.items ≡ last_line lines
