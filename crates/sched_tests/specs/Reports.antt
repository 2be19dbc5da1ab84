-- What the two tests print of a table, and the statuses with which they end.
use Rattle.std.specs.Prelude.{ℕ, ◌+◌, Bool, false, ◌||◌, if◌then◌else◌, is_some, not}
use Rattle.std.specs.Prelude.{List, [], ◌∷◌, ◌++◌, codes, decimal, Option, Some, None}
use Rattle.sched_tests.specs.declared.duties.TheConstants.{LONGEST}
use Rattle.sched_tests.specs.declared.duties.Duty.{Duty}
use Rattle.sched_tests.specs.declared.duties.TableFault.{TableFault}
use Rattle.sched_tests.specs.Tables.{kind_number}
use Rattle.sched_tests.specs.Response.{response_of}
use Rattle.sched_tests.specs.Demand.{demand, first_over_of, busy_of}

-- a duty's line: its name, and its response or that it misses
abbrev pub response_text : Option ℕ → List ℕ
response_text None = codes "miss"
response_text (Some response) = decimal response

abbrev pub response_line : List ℕ → Option ℕ → List ℕ
response_line name answer = name ++ 32 ∷ (response_text answer ++ 10 ∷ [])

-- the lines of these duties, of which the first stands at a place of the table
abbrev pub response_lines : List Duty → ℕ → List Duty → List ℕ
response_lines duties place [] = []
response_lines duties place (duty ∷ rest) =
    response_line duty.name (response_of duties place) ++ response_lines duties (place + 1) rest

-- one of them has no response
abbrev pub is_missed : List Duty → ℕ → List Duty → Bool
is_missed duties place [] = false
is_missed duties place (duty ∷ rest) =
    not (is_some (response_of duties place)) || is_missed duties (place + 1) rest

-- what the test of response times prints of a table, and its status
abbrev pub rta_text : List Duty → List ℕ
rta_text duties = response_lines duties 0 duties

abbrev pub rta_status : List Duty → ℕ
rta_status duties = if is_missed duties 0 duties then 12 else 0

-- the busy period, or that there is none
abbrev pub busy_text : Option ℕ → List ℕ
busy_text None = codes "none"
busy_text (Some window) = decimal window

-- what the demand test prints of a table, and its status, by the first window that is overrun
abbrev pub demand_text_at : List Duty → Option ℕ → List ℕ
demand_text_at duties None =
    codes "within " ++ decimal LONGEST ++ 10 ∷ (codes "busy " ++ busy_text (busy_of duties) ++ 10 ∷ [])
demand_text_at duties (Some window) =
    codes "over " ++ decimal window ++ 32 ∷ (decimal (demand duties window) ++ 10 ∷ [])

abbrev pub demand_text : List Duty → List ℕ
demand_text duties = demand_text_at duties (first_over_of duties)

abbrev pub demand_status : List Duty → ℕ
demand_status duties = if is_some (first_over_of duties) then 12 else 0

-- the note on a table that is refused: `table refused LINE KIND` and a line feed
abbrev pub table_note : TableFault → List ℕ
table_note fault =
    codes "table refused " ++ decimal fault.line ++ 32 ∷ (decimal (kind_number fault.kind) ++ 10 ∷ [])
