-- Which outcome has a status, and what was noted on it.
use Rattle.std.proofs.Common.{◌≡◌, ◌≢◌, ◌≤◌, ◌⊎◌, inl, inr, ℕ, true, false, List, Option, Some, None, refl, sym, ◌∙◌, arith}
use Rattle.trace_text.specs.declared.events.Ended.{Ended as Stop}
use Rattle.trace_text.specs.declared.events.Ended.TheVariants as why
use Rattle.ada_verdicts.specs.declared.refusals.Refusal.{Refusal}
use Rattle.event_script.specs.declared.faults.ScriptFault.{ScriptFault}
use Rattle.sched_tests.specs.declared.duties.TableFault.{TableFault}
use Rattle.commands.specs.declared.outcomes.Outcome.{Outcome}
use Rattle.commands.specs.declared.outcomes.Outcome.TheVariants.{Ended, Accepted, Tested, Traced, WordsRefused, SourceRefused}
use Rattle.commands.specs.declared.outcomes.Outcome.TheVariants.{ScriptRefused, TableRefused, TraceRefused, ReadFault, WriteFault, NoMemory}
use Rattle.commands.specs.Outside.{SinkChange, SinkFailed, GainedPrefix}
use Rattle.commands.specs.Outcomes.{stop_status, status_of, note_of, IsNoted, IsNotedInPart, Concludes}

pub stop_status-small : (stop : Stop) → stop_status stop ≤ 3
stop_status-small why.Completed = omega arith
stop_status-small (why.Exception name) = omega arith
stop_status-small why.Stuck = omega arith
stop_status-small why.Bound = omega arith

-- ---- the outcome of a status

pub is_refused : (o : Outcome) → status_of o ≡ 4 → (refusal : Refusal) × (o ≡ SourceRefused refusal)
is_refused (Ended stop) e = absurd (omega (arith, stop_status-small stop, e))
is_refused Accepted e = absurd (omega (arith, e))
is_refused (Tested true) e = absurd (omega (arith, e))
is_refused (Tested false) e = absurd (omega (arith, e))
is_refused (Traced true) e = absurd (omega (arith, e))
is_refused (Traced false) e = absurd (omega (arith, e))
is_refused WordsRefused e = absurd (omega (arith, e))
is_refused (SourceRefused refusal) e = (refusal, refl)
is_refused (ScriptRefused fault) e = absurd (omega (arith, e))
is_refused (TableRefused fault) e = absurd (omega (arith, e))
is_refused (TraceRefused line) e = absurd (omega (arith, e))
is_refused ReadFault e = absurd (omega (arith, e))
is_refused WriteFault e = absurd (omega (arith, e))
is_refused NoMemory e = absurd (omega (arith, e))

pub is_refused_script : (o : Outcome) → status_of o ≡ 5 → (fault : ScriptFault) × (o ≡ ScriptRefused fault)
is_refused_script (Ended stop) e = absurd (omega (arith, stop_status-small stop, e))
is_refused_script Accepted e = absurd (omega (arith, e))
is_refused_script (Tested true) e = absurd (omega (arith, e))
is_refused_script (Tested false) e = absurd (omega (arith, e))
is_refused_script (Traced true) e = absurd (omega (arith, e))
is_refused_script (Traced false) e = absurd (omega (arith, e))
is_refused_script WordsRefused e = absurd (omega (arith, e))
is_refused_script (SourceRefused refusal) e = absurd (omega (arith, e))
is_refused_script (ScriptRefused fault) e = (fault, refl)
is_refused_script (TableRefused fault) e = absurd (omega (arith, e))
is_refused_script (TraceRefused line) e = absurd (omega (arith, e))
is_refused_script ReadFault e = absurd (omega (arith, e))
is_refused_script WriteFault e = absurd (omega (arith, e))
is_refused_script NoMemory e = absurd (omega (arith, e))

pub is_failed_test : (o : Outcome) → status_of o ≡ 12 → o ≡ Tested true
is_failed_test (Ended stop) e = absurd (omega (arith, stop_status-small stop, e))
is_failed_test Accepted e = absurd (omega (arith, e))
is_failed_test (Tested true) e = refl
is_failed_test (Tested false) e = absurd (omega (arith, e))
is_failed_test (Traced true) e = absurd (omega (arith, e))
is_failed_test (Traced false) e = absurd (omega (arith, e))
is_failed_test WordsRefused e = absurd (omega (arith, e))
is_failed_test (SourceRefused refusal) e = absurd (omega (arith, e))
is_failed_test (ScriptRefused fault) e = absurd (omega (arith, e))
is_failed_test (TableRefused fault) e = absurd (omega (arith, e))
is_failed_test (TraceRefused line) e = absurd (omega (arith, e))
is_failed_test ReadFault e = absurd (omega (arith, e))
is_failed_test WriteFault e = absurd (omega (arith, e))
is_failed_test NoMemory e = absurd (omega (arith, e))

pub is_refused_table : (o : Outcome) → status_of o ≡ 13 → (fault : TableFault) × (o ≡ TableRefused fault)
is_refused_table (Ended stop) e = absurd (omega (arith, stop_status-small stop, e))
is_refused_table Accepted e = absurd (omega (arith, e))
is_refused_table (Tested true) e = absurd (omega (arith, e))
is_refused_table (Tested false) e = absurd (omega (arith, e))
is_refused_table (Traced true) e = absurd (omega (arith, e))
is_refused_table (Traced false) e = absurd (omega (arith, e))
is_refused_table WordsRefused e = absurd (omega (arith, e))
is_refused_table (SourceRefused refusal) e = absurd (omega (arith, e))
is_refused_table (ScriptRefused fault) e = absurd (omega (arith, e))
is_refused_table (TableRefused fault) e = (fault, refl)
is_refused_table (TraceRefused line) e = absurd (omega (arith, e))
is_refused_table ReadFault e = absurd (omega (arith, e))
is_refused_table WriteFault e = absurd (omega (arith, e))
is_refused_table NoMemory e = absurd (omega (arith, e))

pub is_breach : (o : Outcome) → status_of o ≡ 10 → o ≡ Traced true
is_breach (Ended stop) e = absurd (omega (arith, stop_status-small stop, e))
is_breach Accepted e = absurd (omega (arith, e))
is_breach (Tested true) e = absurd (omega (arith, e))
is_breach (Tested false) e = absurd (omega (arith, e))
is_breach (Traced true) e = refl
is_breach (Traced false) e = absurd (omega (arith, e))
is_breach WordsRefused e = absurd (omega (arith, e))
is_breach (SourceRefused refusal) e = absurd (omega (arith, e))
is_breach (ScriptRefused fault) e = absurd (omega (arith, e))
is_breach (TableRefused fault) e = absurd (omega (arith, e))
is_breach (TraceRefused line) e = absurd (omega (arith, e))
is_breach ReadFault e = absurd (omega (arith, e))
is_breach WriteFault e = absurd (omega (arith, e))
is_breach NoMemory e = absurd (omega (arith, e))

pub is_refused_trace : (o : Outcome) → status_of o ≡ 11 → (line : ℕ) × (o ≡ TraceRefused line)
is_refused_trace (Ended stop) e = absurd (omega (arith, stop_status-small stop, e))
is_refused_trace Accepted e = absurd (omega (arith, e))
is_refused_trace (Tested true) e = absurd (omega (arith, e))
is_refused_trace (Tested false) e = absurd (omega (arith, e))
is_refused_trace (Traced true) e = absurd (omega (arith, e))
is_refused_trace (Traced false) e = absurd (omega (arith, e))
is_refused_trace WordsRefused e = absurd (omega (arith, e))
is_refused_trace (SourceRefused refusal) e = absurd (omega (arith, e))
is_refused_trace (ScriptRefused fault) e = absurd (omega (arith, e))
is_refused_trace (TableRefused fault) e = absurd (omega (arith, e))
is_refused_trace (TraceRefused line) e = (line, refl)
is_refused_trace ReadFault e = absurd (omega (arith, e))
is_refused_trace WriteFault e = absurd (omega (arith, e))
is_refused_trace NoMemory e = absurd (omega (arith, e))

pub is_words : (o : Outcome) → status_of o ≡ 6 → o ≡ WordsRefused
is_words (Ended stop) e = absurd (omega (arith, stop_status-small stop, e))
is_words Accepted e = absurd (omega (arith, e))
is_words (Tested true) e = absurd (omega (arith, e))
is_words (Tested false) e = absurd (omega (arith, e))
is_words (Traced true) e = absurd (omega (arith, e))
is_words (Traced false) e = absurd (omega (arith, e))
is_words WordsRefused e = refl
is_words (SourceRefused refusal) e = absurd (omega (arith, e))
is_words (ScriptRefused fault) e = absurd (omega (arith, e))
is_words (TableRefused fault) e = absurd (omega (arith, e))
is_words (TraceRefused line) e = absurd (omega (arith, e))
is_words ReadFault e = absurd (omega (arith, e))
is_words WriteFault e = absurd (omega (arith, e))
is_words NoMemory e = absurd (omega (arith, e))

pub is_read_fault : (o : Outcome) → status_of o ≡ 7 → o ≡ ReadFault
is_read_fault (Ended stop) e = absurd (omega (arith, stop_status-small stop, e))
is_read_fault Accepted e = absurd (omega (arith, e))
is_read_fault (Tested true) e = absurd (omega (arith, e))
is_read_fault (Tested false) e = absurd (omega (arith, e))
is_read_fault (Traced true) e = absurd (omega (arith, e))
is_read_fault (Traced false) e = absurd (omega (arith, e))
is_read_fault WordsRefused e = absurd (omega (arith, e))
is_read_fault (SourceRefused refusal) e = absurd (omega (arith, e))
is_read_fault (ScriptRefused fault) e = absurd (omega (arith, e))
is_read_fault (TableRefused fault) e = absurd (omega (arith, e))
is_read_fault (TraceRefused line) e = absurd (omega (arith, e))
is_read_fault ReadFault e = refl
is_read_fault WriteFault e = absurd (omega (arith, e))
is_read_fault NoMemory e = absurd (omega (arith, e))

pub is_write_fault : (o : Outcome) → status_of o ≡ 8 → o ≡ WriteFault
is_write_fault (Ended stop) e = absurd (omega (arith, stop_status-small stop, e))
is_write_fault Accepted e = absurd (omega (arith, e))
is_write_fault (Tested true) e = absurd (omega (arith, e))
is_write_fault (Tested false) e = absurd (omega (arith, e))
is_write_fault (Traced true) e = absurd (omega (arith, e))
is_write_fault (Traced false) e = absurd (omega (arith, e))
is_write_fault WordsRefused e = absurd (omega (arith, e))
is_write_fault (SourceRefused refusal) e = absurd (omega (arith, e))
is_write_fault (ScriptRefused fault) e = absurd (omega (arith, e))
is_write_fault (TableRefused fault) e = absurd (omega (arith, e))
is_write_fault (TraceRefused line) e = absurd (omega (arith, e))
is_write_fault ReadFault e = absurd (omega (arith, e))
is_write_fault WriteFault e = refl
is_write_fault NoMemory e = absurd (omega (arith, e))

pub is_memory : (o : Outcome) → status_of o ≡ 9 → o ≡ NoMemory
is_memory (Ended stop) e = absurd (omega (arith, stop_status-small stop, e))
is_memory Accepted e = absurd (omega (arith, e))
is_memory (Tested true) e = absurd (omega (arith, e))
is_memory (Tested false) e = absurd (omega (arith, e))
is_memory (Traced true) e = absurd (omega (arith, e))
is_memory (Traced false) e = absurd (omega (arith, e))
is_memory WordsRefused e = absurd (omega (arith, e))
is_memory (SourceRefused refusal) e = absurd (omega (arith, e))
is_memory (ScriptRefused fault) e = absurd (omega (arith, e))
is_memory (TableRefused fault) e = absurd (omega (arith, e))
is_memory (TraceRefused line) e = absurd (omega (arith, e))
is_memory ReadFault e = absurd (omega (arith, e))
is_memory WriteFault e = absurd (omega (arith, e))
is_memory NoMemory e = refl

-- ---- what was noted

-- a status other than 8 is that of the outcome, and the note is written whole
pub concluded : (o : Outcome) (notes : SinkChange) (status : ℕ) → Concludes o notes status → status ≢ 8 → (status ≡ status_of o) × IsNoted (note_of o) notes
concluded o notes status (inl c) other = c
concluded o notes status (inr c) other = absurd (other c.0)

-- each status is that of the outcome, or 8
pub known : (o : Outcome) (notes : SinkChange) (status : ℕ) → Concludes o notes status → (status ≡ status_of o) ⊎ (status ≡ 8)
known o notes status (inl c) = inl c.0
known o notes status (inr c) = inr c.0

abbrev pub FailedNote : Option (List ℕ) → SinkChange → Type 0
FailedNote written notes = (note : List ℕ) × (written ≡ Some note) × SinkFailed notes × GainedPrefix notes note

failed_note : (note : Option (List ℕ)) (notes : SinkChange) → SinkFailed notes → IsNotedInPart note notes → FailedNote note notes
failed_note None notes fault cut = absurd cut
failed_note (Some note) notes fault cut = (note, refl, fault, cut)

-- status 8 is that of the outcome, or the note was not written
pub failed : (o : Outcome) (notes : SinkChange) (status : ℕ) → Concludes o notes status → status ≡ 8 → (status_of o ≡ 8) ⊎ FailedNote (note_of o) notes
failed o notes status (inl c) e = inl (sym c.0 ∙ e)
failed o notes status (inr c) e = inr (failed_note (note_of o) notes c.1 c.2)

-- a low status is no fault of a stream
pub low : (status : ℕ) → status ≤ 7 → status ≢ 8
low status small e = omega (arith, small, e)
