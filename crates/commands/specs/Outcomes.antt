-- The status and the note of each outcome.
use Rattle.std.specs.Prelude.{◌≡◌, ◌⊎◌, ℕ, List, ◌++◌, ◌∷◌, [], if◌then◌else◌, Option, Some, None, codes, decimal}
use Rattle.trace_text.specs.declared.events.Ended.{Ended as Stop}
use Rattle.trace_text.specs.declared.events.Ended.TheVariants as why
use Rattle.ada_verdicts.specs.declared.refusals.Refusal.{Refusal}
use Rattle.ada_verdicts.specs.Refusals.{letter_of, number_of}
use Rattle.event_script.specs.declared.faults.ScriptFault.{ScriptFault}
use Rattle.event_script.specs.Script.{kind_number}
use Rattle.sched_tests.specs.Reports.{table_note}
use Rattle.commands.specs.declared.outcomes.Outcome.{Outcome}
use Rattle.commands.specs.declared.outcomes.NoItems.{NoItems}
use Rattle.commands.specs.declared.outcomes.NoItems.TheVariants as missing
use Rattle.commands.specs.declared.outcomes.Outcome.TheVariants.{Ended, Accepted, Tested, Traced, WordsRefused}
use Rattle.commands.specs.declared.outcomes.Outcome.TheVariants.{SourceRefused, ScriptRefused, TableRefused}
use Rattle.commands.specs.declared.outcomes.Outcome.TheVariants.{TraceRefused, ReadFault, WriteFault, NoMemory}
use Rattle.commands.specs.Traces.{traced_status, trace_note}
use Rattle.commands.specs.Outside.{SinkChange, SinkFailed, IsKept, Gained, GainedPrefix}

abbrev pub stop_status : Stop → ℕ
stop_status why.Completed = 0
stop_status (why.Exception name) = 1
stop_status why.Stuck = 2
stop_status why.Bound = 3

abbrev pub status_of : Outcome → ℕ
status_of (Ended stop) = stop_status stop
status_of Accepted = 0
status_of (Tested failed) = if failed then 12 else 0
status_of (Traced broken) = traced_status broken
status_of WordsRefused = 6
status_of (SourceRefused refusal) = 4
status_of (ScriptRefused fault) = 5
status_of (TableRefused fault) = 13
status_of (TraceRefused line) = 11
status_of ReadFault = 7
status_of WriteFault = 8
status_of NoMemory = 9

-- `source refused LINE:COLUMN CODE` and a line feed
abbrev pub refusal_text : Refusal → List ℕ
refusal_text refusal =
    ((codes "source refused " ++ decimal refusal.place.line) ++ (codes ":" ++ decimal refusal.place.column))
    ++ ((codes " " ++ letter_of refusal.code ∷ []) ++ (decimal (number_of refusal.code) ++ codes "\n"))

-- `script refused LINE KIND` and a line feed
abbrev pub script_note : ScriptFault → List ℕ
script_note fault =
    codes "script refused " ++ decimal fault.line ++ 32 ∷ (decimal (kind_number fault.kind) ++ 10 ∷ [])

-- what is noted, where the command was not done
abbrev pub note_of : Outcome → Option (List ℕ)
note_of (Ended stop) = None
note_of Accepted = None
note_of (Tested failed) = None
note_of (Traced broken) = None
note_of WordsRefused = Some (codes "words refused\n")
note_of (SourceRefused refusal) = Some (refusal_text refusal)
note_of (ScriptRefused fault) = Some (script_note fault)
note_of (TableRefused fault) = Some (table_note fault)
note_of (TraceRefused line) = Some (trace_note line)
note_of ReadFault = Some (codes "read fault\n")
note_of WriteFault = Some (codes "write fault\n")
note_of NoMemory = Some (codes "no memory\n")

-- the note is written whole, or in part; where there is none, notes stays as it was
abbrev pub IsNoted : Option (List ℕ) → SinkChange → Type 0
IsNoted None notes = IsKept notes
IsNoted (Some note) notes = Gained notes note

abbrev pub IsNotedInPart : Option (List ℕ) → SinkChange → Type 0
IsNotedInPart None notes = ⊥
IsNotedInPart (Some note) notes = GainedPrefix notes note

-- The status is that of the outcome and its note is written whole; or writing the note failed, and the status is 8.
abbrev pub Concludes : Outcome → SinkChange → ℕ → Type 0
Concludes outcome notes status =
    ((status ≡ status_of outcome) × IsNoted (note_of outcome) notes)
    ⊎ ((status ≡ 8) × SinkFailed notes × IsNotedInPart (note_of outcome) notes)

-- the outcome of a run that has no items of its script
abbrev pub without_items : NoItems → Outcome
without_items (missing.Refused fault) = ScriptRefused fault
without_items missing.Unread = ReadFault
without_items missing.NoMemory = NoMemory
