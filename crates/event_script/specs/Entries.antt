-- What a line of a script says: `TICK interrupt N`, `TICK port N VALUE`, and in a script of the second version also
-- `TICK every PERIOD COUNT interrupt N`, `TICK mask N` and `TICK unmask N`.
use Rattle.std.specs.Prelude.{◌≤◌, ℕ, ℤ, ◌*◌, ◌+◌, ◌-◌, ◌==◌, ◌&&◌, not, Bool, nat_le, if◌then◌else◌}
use Rattle.std.specs.Prelude.{List, [], ◌∷◌, length, Option, Some, None, Result, Ok, Err, codes}
use Rattle.std.specs.Str.{bytes_eq}
use Rattle.text_lines.specs.Lines.{words_of}
use Rattle.text_lines.specs.Numerals.{number_in}
use Rattle.profile_image.specs.declared.script_items.Item.{Item}
use Rattle.profile_image.specs.declared.script_items.Item.TheVariants as item
use Rattle.event_script.specs.declared.faults.TheConstants.{LAST_TICK, MOST_ITEMS}
use Rattle.profile_image.specs.declared.limits.TheConstants.{LAST_OUTSIDE_LINE}
use Rattle.event_script.specs.declared.faults.ScriptFaultKind.{ScriptFaultKind}
use Rattle.event_script.specs.declared.faults.ScriptFaultKind.TheVariants.{BadLine, BadNumber}
use Rattle.event_script.specs.declared.words.Keyword.{Keyword}
use Rattle.event_script.specs.declared.words.Keyword.TheVariants as keyword
use Rattle.event_script.specs.declared.entries.Entry.{Entry}
use Rattle.event_script.specs.declared.entries.TickAndNumber.{TickAndNumber}
use Rattle.event_script.specs.Words.{keyword_of, one_word, two_words}
use Rattle.event_script.specs.Numbers.{tick_in, number_of, value_in}

-- the number of the interrupt or port of an item
abbrev pub number_in_item : Item → ℕ
number_in_item (item.Interrupt number) = number
number_in_item (item.Port number value) = number
number_in_item (item.Mask number) = number
number_in_item (item.Unmask number) = number

-- the last of so many items comes at 1,000,000,000 or before
abbrev pub ends_in_time : ℕ → ℕ → ℕ → Bool
ends_in_time tick period count = nat_le (tick + (count - 1) * period) LAST_TICK

-- what a line says is within the limits
pub record IsTickAndNumber (once : TickAndNumber) : Type 0 where
  pub first : once.tick ≤ LAST_TICK
  pub known : once.number ≤ LAST_OUTSIDE_LINE

pub record IsEntry (entry : Entry) : Type 0 where
  pub some : 1 ≤ entry.count
  pub few : entry.count ≤ MOST_ITEMS
  pub first : entry.tick ≤ LAST_TICK
  pub apart : entry.period ≤ LAST_TICK
  pub last : entry.tick + (entry.count - 1) * entry.period ≤ LAST_TICK
  pub known : number_in_item entry.item ≤ LAST_OUTSIDE_LINE

-- an item that comes once
abbrev pub at_tick : ℕ → Item → Entry
at_tick tick item = record { tick = tick; period = 0; count = 1; item = item }

-- a line of three words: a tick, a keyword and a number
abbrev pub once_at : Option ℕ → Result ℕ ScriptFaultKind → Result TickAndNumber ScriptFaultKind
once_at None number = Err BadNumber
once_at (Some tick) (Err kind) = Err kind
once_at (Some tick) (Ok number) = Ok (record { tick = tick; number = number })

abbrev pub once : List ℕ → Option (List ℕ) → Result TickAndNumber ScriptFaultKind
once tick None = Err BadLine
once tick (Some number) = once_at (tick_in tick) (number_of number)

abbrev pub with_item : (ℕ → Item) → Result TickAndNumber ScriptFaultKind → Result Entry ScriptFaultKind
with_item item (Err kind) = Err kind
with_item item (Ok once) = Ok (at_tick once.tick (item once.number))

-- a port is set: behind its number stands its value
abbrev pub port_at : Option ℤ → Result TickAndNumber ScriptFaultKind → Result Entry ScriptFaultKind
port_at None once = Err BadNumber
port_at (Some value) once = with_item (λ number. item.Port number value) once

abbrev pub port_line : List ℕ → Option (List ℕ × List ℕ) → Result Entry ScriptFaultKind
port_line tick None = Err BadLine
port_line tick (Some words) = port_at (value_in words.1) (once_at (tick_in tick) (number_of words.0))

-- an interrupt that comes again and again: PERIOD and COUNT, the word `interrupt` and its number
abbrev pub every_item : ℕ → ℕ → ℕ → Result ℕ ScriptFaultKind → Result Entry ScriptFaultKind
every_item tick period count (Err kind) = Err kind
every_item tick period count (Ok number) =
    Ok (record { tick = tick; period = period; count = count; item = item.Interrupt number })

abbrev pub every_number : ℕ → ℕ → ℕ → Result ℕ ScriptFaultKind → Result Entry ScriptFaultKind
every_number tick period count number = if ends_in_time tick period count then every_item tick period count number
    else Err BadNumber

abbrev pub every_at : Option ℕ → Option ℕ → Option ℕ → Result ℕ ScriptFaultKind → Result Entry ScriptFaultKind
every_at None period count number = Err BadNumber
every_at (Some tick) None count number = Err BadNumber
every_at (Some tick) (Some period) None number = Err BadNumber
every_at (Some tick) (Some period) (Some count) number = every_number tick period count number

abbrev pub is_every : List ℕ → List ℕ → List ℕ → Bool
is_every period count keyword = not (length period == 0) && not (length count == 0)
    && bytes_eq keyword (codes "interrupt")

abbrev pub every_with : List ℕ → List ℕ → List ℕ → Option (List ℕ × List ℕ) → Result Entry ScriptFaultKind
every_with tick period count None = Err BadLine
every_with tick period count (Some words) =
    if is_every period count words.0
    then every_at (tick_in tick) (number_in 1 LAST_TICK period) (number_in 1 MOST_ITEMS count) (number_of words.1)
    else Err BadLine

abbrev pub every_line : List ℕ → List (List ℕ) → Result Entry ScriptFaultKind
every_line tick [] = Err BadLine
every_line tick (period ∷ []) = Err BadLine
every_line tick (period ∷ count ∷ words) = every_with tick period count (two_words words)

-- a line by its keyword, of which the words behind it are left
abbrev pub entry_by : Option Keyword → List ℕ → List (List ℕ) → Result Entry ScriptFaultKind
entry_by None tick words = Err BadLine
entry_by (Some keyword.Interrupt) tick words = with_item item.Interrupt (once tick (one_word words))
entry_by (Some keyword.Port) tick words = port_line tick (two_words words)
entry_by (Some keyword.Every) tick words = every_line tick words
entry_by (Some keyword.Mask) tick words = with_item item.Mask (once tick (one_word words))
entry_by (Some keyword.Unmask) tick words = with_item item.Unmask (once tick (one_word words))

-- a line begins with its tick and its keyword
abbrev pub entry_in : Bool → List (List ℕ) → Result Entry ScriptFaultKind
entry_in is_second [] = Err BadLine
entry_in is_second (tick ∷ []) = Err BadLine
entry_in is_second (tick ∷ keyword ∷ words) = if length tick == 0 then Err BadLine
    else entry_by (keyword_of is_second keyword) tick words

-- what a line says in a script of the second version or of the first, or why it is refused
abbrev pub entry_of : Bool → List ℕ → Result Entry ScriptFaultKind
entry_of is_second text = entry_in is_second (words_of text)
