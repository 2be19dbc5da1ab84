-- What a table says: its duties, or its first line that is refused.
use Rattle.std.specs.Prelude.{◌≡◌, ℕ, ◌+◌, ◌==◌, ◌&&◌, ◌||◌, not, Bool, true, false, nat_le, nat_lt, if◌then◌else◌}
use Rattle.std.specs.Prelude.{List, [], ◌∷◌, ◌++◌, length, take, Option, Some, None, Result, Ok, Err}
use Rattle.std.specs.List.{list_all, list_any, fold}
use Rattle.std.specs.Char.{is_ascii_digit, is_ascii_lowercase, is_ascii_uppercase}
use Rattle.std.specs.Str.{bytes_eq}
use Rattle.sched_tests.specs.declared.duties.TheConstants.{TABLE_BYTES, MOST_DUTIES}
use Rattle.sched_tests.specs.declared.duties.TheConstants.{NAME_LENGTH, LONGEST, MOST_PRIORITY}
use Rattle.sched_tests.specs.declared.duties.Duty.{Duty}
use Rattle.sched_tests.specs.declared.duties.TableFault.{TableFault}
use Rattle.sched_tests.specs.declared.duties.TableFaultKind.{TableFaultKind}
use Rattle.sched_tests.specs.declared.duties.TableFaultKind.TheVariants.{BadLine, BadNumber, Twice, TooMany, Empty}
use Rattle.sched_tests.specs.declared.reading.Words.{Words}
use Rattle.text_lines.specs.Lines.{NumberedLine, lines_of, words_of}
use Rattle.text_lines.specs.Numerals.{number_in}

-- a letter, a digit or an underscore
abbrev pub is_name_byte : ℕ → Bool
is_name_byte byte = is_ascii_digit byte || is_ascii_uppercase byte || is_ascii_lowercase byte || (byte == 95)

-- a name has 1 to 80 of them
abbrev pub is_name : List ℕ → Bool
is_name word = nat_lt 0 (length word) && nat_le (length word) NAME_LENGTH && list_all is_name_byte word

-- The six words of a duty: name, cost, period, deadline, blocking, priority.
pub record Fields : Type 0 where
  pub name : List ℕ
  pub cost : List ℕ
  pub period : List ℕ
  pub deadline : List ℕ
  pub blocking : List ℕ
  pub priority : List ℕ

-- the words as the program has them
abbrev pub words_in : Words → Fields
words_in words = record {
  name = words.name.now;
  cost = words.cost.now;
  period = words.period.now;
  deadline = words.deadline.now;
  blocking = words.blocking.now;
  priority = words.priority.now;
}

-- no word is empty, and the first is a name
abbrev pub are_fields : Fields → Bool
are_fields words =
    is_name words.name
    && not (length words.cost == 0)
    && not (length words.period == 0)
    && not (length words.deadline == 0)
    && not (length words.blocking == 0)
    && not (length words.priority == 0)

-- six words and no others
abbrev pub six_words : List (List ℕ) → Option Fields
six_words (name ∷ cost ∷ period ∷ deadline ∷ blocking ∷ priority ∷ []) =
    Some (record {
      name = name;
      cost = cost;
      period = period;
      deadline = deadline;
      blocking = blocking;
      priority = priority;
    })
six_words _ = None

-- the duty with these numbers, where each is one; the deadline is at most the period
abbrev pub duty_with : List ℕ → Option ℕ → Option ℕ → Option ℕ → Option ℕ → Option ℕ → Option Duty
duty_with name (Some cost) (Some period) (Some deadline) (Some blocking) (Some priority) =
    if nat_le deadline period
    then Some (record {
      name = name;
      cost = cost;
      period = period;
      deadline = deadline;
      blocking = blocking;
      priority = priority;
    }) else None
duty_with _ _ _ _ _ _ = None

abbrev pub duty_in : Fields → Option Duty
duty_in words =
    duty_with words.name
    (number_in 1 LONGEST words.cost)
    (number_in 1 LONGEST words.period)
    (number_in 1 LONGEST words.deadline)
    (number_in 0 LONGEST words.blocking)
    (number_in 0 MOST_PRIORITY words.priority)

-- what the words of a line say, or why they are refused
abbrev pub duty_if_numbers : Option Duty → Result Duty TableFaultKind
duty_if_numbers None = Err BadNumber
duty_if_numbers (Some duty) = Ok duty

abbrev pub duty_if_fields : Option Fields → Result Duty TableFaultKind
duty_if_fields None = Err BadLine
duty_if_fields (Some words) = if are_fields words then duty_if_numbers (duty_in words) else Err BadLine

abbrev pub duty_of : List ℕ → Result Duty TableFaultKind
duty_of text = duty_if_fields (six_words (words_of text))

-- a duty has this name
abbrev pub is_taken : List Duty → List ℕ → Bool
is_taken duties name = list_any (λ duty. bytes_eq duty.name name) duties

-- the duties with one more, or why it is refused: its name is taken, or there are 200 already
abbrev pub with_duty : List Duty → Result Duty TableFaultKind → Result (List Duty) TableFaultKind
with_duty duties (Err kind) = Err kind
with_duty duties (Ok duty) =
    if is_taken duties duty.name then Err Twice
    else (if nat_lt (length duties) MOST_DUTIES then Ok (duties ++ duty ∷ []) else Err TooMany)

-- a line says nothing: it is empty, or a comment that begins with two hyphens
abbrev pub is_silent : List ℕ → Bool
is_silent [] = true
is_silent (first ∷ []) = false
is_silent (first ∷ second ∷ rest) = (first == 45) && (second == 45)

-- the duties after a line, or why it is refused; first of all it ends within 65,536 bytes
abbrev pub after_line : List Duty → NumberedLine → Result (List Duty) TableFaultKind
after_line duties line =
    if nat_lt TABLE_BYTES line.stop then Err TooMany
    else (if is_silent line.text then Ok duties else with_duty duties (duty_of line.text))

-- the line is named where it is refused
abbrev pub at_line : ℕ → Result (List Duty) TableFaultKind → Result (List Duty) TableFault
at_line number (Ok duties) = Ok duties
at_line number (Err kind) = Err (record { line = number; kind = kind })

-- nothing is read past a line that is refused
abbrev pub read_line : Result (List Duty) TableFault → NumberedLine → Result (List Duty) TableFault
read_line (Err fault) line = Err fault
read_line (Ok duties) line = at_line line.number (after_line duties line)

-- a table has a duty
abbrev pub not_empty : Result (List Duty) TableFault → Result (List Duty) TableFault
not_empty (Err fault) = Err fault
not_empty (Ok []) = Err (record { line = 0; kind = Empty })
not_empty (Ok (duty ∷ duties)) = Ok (duty ∷ duties)

-- the duties of a table, or its first line that is refused
abbrev pub table_of : List ℕ → Result (List Duty) TableFault
table_of bytes = not_empty (fold read_line (Ok []) (lines_of bytes))

-- A table that is too long is refused by its first 65,537 bytes, as by all of them.
abbrev pub CutTablesAreReadAlike : Type 0
CutTablesAreReadAlike = (bytes : List ℕ) → table_of (take (TABLE_BYTES + 1) bytes) ≡ table_of bytes
