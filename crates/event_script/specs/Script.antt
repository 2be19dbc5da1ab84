-- What a script says: its items, or its first line that is refused.
use Rattle.std.specs.Prelude.{◌≡◌, ℕ, ℤ, ◌+◌, ◌==◌, ◌&&◌, Bool, true, false, nat_lt}
use Rattle.std.specs.Prelude.{if◌then◌else◌, List, [], ◌∷◌, length, take, Result, Ok, Err, codes}
use Rattle.std.specs.List.{fold}
use Rattle.std.specs.Str.{bytes_eq}
use Rattle.text_lines.specs.Lines.{NumberedLine, lines_of}
use Rattle.profile_image.specs.declared.script_items.Item.{Item}
use Rattle.event_script.specs.declared.faults.TheConstants.{SCRIPT_BYTES, MOST_ITEMS}
use Rattle.event_script.specs.declared.faults.ScriptFault.{ScriptFault}
use Rattle.event_script.specs.declared.faults.ScriptFaultKind.{ScriptFaultKind}
use Rattle.event_script.specs.declared.faults.ScriptFaultKind.TheVariants.{BadLine, BadNumber, BackInTime}
use Rattle.event_script.specs.declared.faults.ScriptFaultKind.TheVariants.{NoSuchLine, TooMany}
use Rattle.event_script.specs.declared.entries.Entry.{Entry}
use Rattle.event_script.specs.declared.reading.Reading.{Reading}
use Rattle.event_script.specs.Entries.{entry_of}
use Rattle.event_script.specs.Items.{put_entry}

-- the number by which a note tells a kind of fault
abbrev pub kind_number : ScriptFaultKind → ℕ
kind_number BadLine = 1
kind_number BadNumber = 2
kind_number BackInTime = 3
kind_number NoSuchLine = 4
kind_number TooMany = 5

-- a line says nothing: it is empty, or a comment that begins with two hyphens
abbrev pub is_silent : List ℕ → Bool
is_silent [] = true
is_silent (first ∷ []) = false
is_silent (first ∷ second ∷ rest) = (first == 45) && (second == 45)

-- the first line of all says that the script is of the second version
abbrev pub is_version : NumberedLine → Bool
is_version line = (line.number == 1) && bytes_eq line.text (codes "version 2")

-- What was read with what one more line says. Its tick is not below that of a line above, and there are 100,000
-- items at most.
abbrev pub with_entry : Reading → Result Entry ScriptFaultKind → Result Reading ScriptFaultKind
with_entry reading (Err kind) = Err kind
with_entry reading (Ok entry) =
    if nat_lt entry.tick reading.last then Err BackInTime
    else (if nat_lt MOST_ITEMS (length reading.items + entry.count) then Err TooMany
    else Ok (record { is_second = reading.is_second; last = entry.tick; items = put_entry entry reading.items }))

-- what was read with a line, or why it is refused; first of all it ends within 8,388,608 bytes
abbrev pub after_line : Reading → NumberedLine → Result Reading ScriptFaultKind
after_line reading line =
    if nat_lt SCRIPT_BYTES line.stop then Err TooMany
    else (if is_silent line.text then Ok reading
    else (if is_version line then Ok (record { is_second = true; last = reading.last; items = reading.items })
    else with_entry reading (entry_of reading.is_second line.text)))

-- the line is named where it is refused
abbrev pub at_line : ℕ → Result Reading ScriptFaultKind → Result Reading ScriptFault
at_line number (Ok reading) = Ok reading
at_line number (Err kind) = Err (record { line = number; kind = kind })

-- nothing is read past a line that is refused
abbrev pub read_line : Result Reading ScriptFault → NumberedLine → Result Reading ScriptFault
read_line (Err fault) line = Err fault
read_line (Ok reading) line = at_line line.number (after_line reading line)

-- at first a script is of the first version, and has no item
abbrev pub nothing_read : Reading
nothing_read = record { is_second = false; last = 0; items = [] }

abbrev pub items_of : Result Reading ScriptFault → Result (List (ℤ × Item)) ScriptFault
items_of (Err fault) = Err fault
items_of (Ok reading) = Ok reading.items

-- the items of a script, each with its moment, or its first line that is refused
abbrev pub script_of : List ℕ → Result (List (ℤ × Item)) ScriptFault
script_of bytes = items_of (fold read_line (Ok nothing_read) (lines_of bytes))

-- A script that is too long is refused by its first 8,388,609 bytes, as by all of them.
abbrev pub CutScriptsAreReadAlike : Type 0
CutScriptsAreReadAlike = (bytes : List ℕ) → script_of (take (SCRIPT_BYTES + 1) bytes) ≡ script_of bytes
