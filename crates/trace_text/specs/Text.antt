-- The text of a line of a trace: its tick, its words with single spaces between, a line feed.
use Rattle.std.specs.Prelude.{◌≢◌, ◌≤◌, ◌<◌, ◌^◌, ℕ, ℤ, FitsSigned, Bool, true, false, ◌&&◌, ◌||◌, ◌==◌, if◌then◌else◌}
use Rattle.std.specs.Prelude.{nat_le, IsTrue, List, [], ◌∷◌, ◌++◌, Option, Some, None, length, codes, decimal, flat_map}
use Rattle.std.specs.List.{list_all}
use Rattle.std.specs.Fmt.{signed_decimal}
use Rattle.std.specs.Int.{w32, w64}
use Rattle.ann_base.specs.declared.identities.TaskNo.{TaskNo}
use Rattle.ann_base.specs.declared.identities.ObjectNo.{ObjectNo}
use Rattle.ann_base.specs.declared.names.TheConstants.{NAME_BYTES}
use Rattle.trace_text.specs.declared.events.Who.{Who}
use Rattle.trace_text.specs.declared.events.Who.TheVariants as subject
use Rattle.trace_text.specs.declared.events.Created.{Created}
use Rattle.trace_text.specs.declared.events.Created.TheVariants as created
use Rattle.trace_text.specs.declared.events.QueueEnd.{QueueEnd}
use Rattle.trace_text.specs.declared.events.QueueEnd.TheVariants.{Head, Tail}
use Rattle.trace_text.specs.declared.events.Waits.{Waits}
use Rattle.trace_text.specs.declared.events.Waits.TheVariants as waits
use Rattle.trace_text.specs.declared.events.Mode.{Mode}
use Rattle.trace_text.specs.declared.events.Mode.TheVariants as mode
use Rattle.trace_text.specs.declared.events.Leaves.{Leaves}
use Rattle.trace_text.specs.declared.events.Leaves.TheVariants as leaves
use Rattle.trace_text.specs.declared.events.EntryName.{EntryName}
use Rattle.trace_text.specs.declared.events.EntryName.TheVariants.{OfTask, OfObject}
use Rattle.trace_text.specs.declared.events.Finished.{Finished}
use Rattle.trace_text.specs.declared.events.Finished.TheVariants as finished
use Rattle.trace_text.specs.declared.events.Ended.{Ended}
use Rattle.trace_text.specs.declared.events.Ended.TheVariants as ended
use Rattle.trace_text.specs.declared.events.Event.{Event}
use Rattle.trace_text.specs.declared.events.Event.TheVariants.{New, Ready, Block, Run, Idle, Base, Deadline}
use Rattle.trace_text.specs.declared.events.Event.TheVariants.{Quantum, Done, Raise, Put, Call, Start, Finish}
use Rattle.trace_text.specs.declared.events.Event.TheVariants.{Cancel, Gone, Enter, Exit, Held, Abort, Trigger}
use Rattle.trace_text.specs.declared.events.Event.TheVariants.{Leave, Init, Final, Left, Replace, Release, Serve}
use Rattle.trace_text.specs.declared.events.Event.TheVariants.{Served, Interrupt, Port, Mask, Unmask, Masked, End}

-- tN
abbrev pub task_text : TaskNo → List ℕ
task_text task = 116 ∷ decimal task.0

-- pN
abbrev pub object_text : ObjectNo → List ℕ
object_text object = 112 ∷ decimal object.0

abbrev pub who_text : Who → List ℕ
who_text (subject.Task task) = task_text task
who_text subject.Agent = codes "agent"

abbrev pub created_text : Created → List ℕ
created_text (created.Task task) = task_text task
created_text (created.Object object) = object_text object

abbrev pub queue_end_text : QueueEnd → List ℕ
queue_end_text Head = codes "head"
queue_end_text Tail = codes "tail"

abbrev pub waits_text : Waits → List ℕ
waits_text waits.Activation = codes "activation"
waits_text waits.Delay = codes "delay"
waits_text waits.Entry = codes "entry"
waits_text waits.Accept = codes "accept"
waits_text waits.Select = codes "select"
waits_text waits.Dependents = codes "dependents"
waits_text waits.Call = codes "call"
waits_text waits.Release = codes "release"

abbrev pub mode_text : Mode → List ℕ
mode_text mode.Read = codes "read"
mode_text mode.Write = codes "write"

abbrev pub leaves_text : Leaves → List ℕ
leaves_text leaves.End = codes "end"
leaves_text leaves.Return = codes "return"
leaves_text leaves.Exit = codes "exit"
leaves_text leaves.Exception = codes "exception"
leaves_text leaves.Abort = codes "abort"
leaves_text leaves.Terminate = codes "terminate"

-- tN.NAME or pN.NAME
abbrev pub entry_text : EntryName → List ℕ
entry_text (OfTask task name) = task_text task ++ 46 ∷ name
entry_text (OfObject object name) = object_text object ++ 46 ∷ name

abbrev pub finished_text : Finished → List ℕ
finished_text finished.Ok = codes "ok"
finished_text (finished.Raised name) = name
finished_text finished.Requeue = codes "requeue"

abbrev pub ended_words : Ended → List (List ℕ)
ended_words ended.Completed = codes "completed" ∷ []
ended_words (ended.Exception name) = codes "exception" ∷ name ∷ []
ended_words ended.Stuck = codes "stuck" ∷ []
ended_words ended.Bound = codes "bound" ∷ []

-- a deadline stands behind the end of the queue on EDF levels alone
abbrev pub deadline_words : Option ℤ → List (List ℕ)
deadline_words None = []
deadline_words (Some deadline) = signed_decimal deadline ∷ []

-- the words of a line behind its tick: the subject where there is one, the word, its arguments
abbrev pub words_of : Event → List (List ℕ)
words_of (New what name level) = created_text what ∷ codes "new" ∷ name ∷ decimal level ∷ []
words_of (Ready who level end deadline) = who_text who ∷ codes "ready" ∷ decimal level ∷ queue_end_text end
    ∷ deadline_words deadline
words_of (Block who why) = who_text who ∷ codes "block" ∷ waits_text why ∷ []
words_of (Run who) = who_text who ∷ codes "run" ∷ []
words_of Idle = codes "idle" ∷ []
words_of (Base task level) = task_text task ∷ codes "base" ∷ decimal level ∷ []
words_of (Deadline task deadline) = task_text task ∷ codes "deadline" ∷ signed_decimal deadline ∷ []
words_of (Quantum task) = task_text task ∷ codes "quantum" ∷ []
words_of (Done task) = task_text task ∷ codes "done" ∷ []
words_of (Raise who name) = who_text who ∷ codes "raise" ∷ name ∷ []
words_of (Put who text) = who_text who ∷ codes "put" ∷ text ∷ []
words_of (Call task call entry priority) = task_text task ∷ codes "call" ∷ decimal call.0 ∷ entry_text entry
    ∷ decimal priority ∷ []
words_of (Start who call) = who_text who ∷ codes "start" ∷ decimal call.0 ∷ []
words_of (Finish who call how) = who_text who ∷ codes "finish" ∷ decimal call.0 ∷ finished_text how ∷ []
words_of (Cancel task call) = task_text task ∷ codes "cancel" ∷ decimal call.0 ∷ []
words_of (Gone task call) = task_text task ∷ codes "gone" ∷ decimal call.0 ∷ []
words_of (Enter who object mode) = who_text who ∷ codes "enter" ∷ object_text object ∷ mode_text mode ∷ []
words_of (Exit who object) = who_text who ∷ codes "exit" ∷ object_text object ∷ []
words_of (Held who object mode) = who_text who ∷ codes "held" ∷ object_text object ∷ mode_text mode ∷ []
words_of (Abort task victim) = task_text task ∷ codes "abort" ∷ task_text victim ∷ []
words_of (Trigger task) = task_text task ∷ codes "trigger" ∷ []
words_of (Leave who region how) = who_text who ∷ codes "leave" ∷ decimal region.0 ∷ leaves_text how ∷ []
words_of (Init who object region name) = who_text who ∷ codes "init" ∷ decimal object ∷ decimal region.0 ∷ name ∷ []
words_of (Final who object) = who_text who ∷ codes "final" ∷ decimal object ∷ []
words_of (Left who region) = who_text who ∷ codes "left" ∷ decimal region.0 ∷ []
words_of (Replace who object) = who_text who ∷ codes "replace" ∷ decimal object ∷ []
words_of (Release release object handler) = codes "release" ∷ decimal release
    ∷ (object_text object ++ 46 ∷ handler) ∷ []
words_of (Serve release) = codes "agent" ∷ codes "serve" ∷ decimal release ∷ []
words_of (Served release) = codes "agent" ∷ codes "served" ∷ decimal release ∷ []
words_of (Interrupt number) = codes "interrupt" ∷ decimal number ∷ []
words_of (Port number value) = codes "port" ∷ decimal number ∷ signed_decimal value ∷ []
words_of (Mask number) = codes "mask" ∷ decimal number ∷ []
words_of (Unmask number) = codes "unmask" ∷ decimal number ∷ []
words_of (Masked number) = codes "masked" ∷ decimal number ∷ []
words_of (End why) = codes "end" ∷ ended_words why

-- each word behind a space
abbrev pub spaced : List (List ℕ) → List ℕ
spaced words = flat_map (λ word. 32 ∷ word) words

-- the line of an event at a tick, with its line feed
abbrev pub line_text : ℕ → Event → List ℕ
line_text tick event = decimal tick ++ (spaced (words_of event) ++ 10 ∷ [])

-- the text of a list of lines
abbrev pub text_of : List (ℕ × Event) → List ℕ
text_of lines = flat_map (λ line. line_text line.0 line.1) lines

-- a lower-case letter, a digit or an underscore
abbrev pub is_name_byte : ℕ → Bool
is_name_byte byte = (nat_le 97 byte && nat_le byte 122) || (nat_le 48 byte && nat_le byte 57) || byte == 95

-- The rest of a name: words of such bytes, none of them empty, with single points between. `begun` says whether
-- the word that it goes on with has a byte already.
abbrev pub is_name_from : Bool → List ℕ → Bool
is_name_from begun [] = begun
is_name_from begun (byte ∷ bytes) = if is_name_byte byte then is_name_from true bytes
    else (byte == 46 && begun && is_name_from false bytes)

abbrev pub IsName : List ℕ → Type 0
IsName name = IsTrue (is_name_from false name)

-- no exception is named as one of the other ends of a call
pub record IsExceptionName (name : List ℕ) : Type 0 where
  pub name_is : IsName name
  pub not_ok : name ≢ codes "ok"
  pub not_requeue : name ≢ codes "requeue"

-- a space or another character of ASCII that is seen
abbrev pub is_text_byte : ℕ → Bool
is_text_byte byte = nat_le 32 byte && nat_le byte 126

pub record IsPutText (text : List ℕ) : Type 0 where
  pub short : length text ≤ NAME_BYTES
  pub bytes : IsTrue (list_all is_text_byte text)

abbrev pub IsEntryPrintable : EntryName → Type 0
IsEntryPrintable (OfTask task name) = IsName name
IsEntryPrintable (OfObject object name) = IsName name

abbrev pub IsFinishedPrintable : Finished → Type 0
IsFinishedPrintable finished.Ok = Unit {0}
IsFinishedPrintable (finished.Raised name) = IsExceptionName name
IsFinishedPrintable finished.Requeue = Unit {0}

abbrev pub IsEndedPrintable : Ended → Type 0
IsEndedPrintable ended.Completed = Unit {0}
IsEndedPrintable (ended.Exception name) = IsExceptionName name
IsEndedPrintable ended.Stuck = Unit {0}
IsEndedPrintable ended.Bound = Unit {0}

-- each name is a name, each exception's name the name of an exception, the text of a `put` a text
abbrev pub IsPrintable : Event → Type 0
IsPrintable (New what name level) = IsName name
IsPrintable (Ready who level end deadline) = Unit {0}
IsPrintable (Block who why) = Unit {0}
IsPrintable (Run who) = Unit {0}
IsPrintable Idle = Unit {0}
IsPrintable (Base task level) = Unit {0}
IsPrintable (Deadline task deadline) = Unit {0}
IsPrintable (Quantum task) = Unit {0}
IsPrintable (Done task) = Unit {0}
IsPrintable (Raise who name) = IsExceptionName name
IsPrintable (Put who text) = IsPutText text
IsPrintable (Call task call entry priority) = IsEntryPrintable entry
IsPrintable (Start who call) = Unit {0}
IsPrintable (Finish who call how) = IsFinishedPrintable how
IsPrintable (Cancel task call) = Unit {0}
IsPrintable (Gone task call) = Unit {0}
IsPrintable (Enter who object mode) = Unit {0}
IsPrintable (Exit who object) = Unit {0}
IsPrintable (Held who object mode) = Unit {0}
IsPrintable (Abort task victim) = Unit {0}
IsPrintable (Trigger task) = Unit {0}
IsPrintable (Leave who region how) = Unit {0}
IsPrintable (Init who object region name) = IsName name
IsPrintable (Final who object) = Unit {0}
IsPrintable (Left who region) = Unit {0}
IsPrintable (Replace who object) = Unit {0}
IsPrintable (Release release object handler) = IsName handler
IsPrintable (Serve release) = Unit {0}
IsPrintable (Served release) = Unit {0}
IsPrintable (Interrupt number) = Unit {0}
IsPrintable (Port number value) = Unit {0}
IsPrintable (Mask number) = Unit {0}
IsPrintable (Unmask number) = Unit {0}
IsPrintable (Masked number) = Unit {0}
IsPrintable (End why) = IsEndedPrintable why

-- The values of the types: numbers in their ranges, names of at most 1,000 bytes.
abbrev pub IsWhoWithin : Who → Type 0
IsWhoWithin (subject.Task task) = task.0 < 2 ^ 32
IsWhoWithin subject.Agent = Unit {0}

abbrev pub IsCreatedWithin : Created → Type 0
IsCreatedWithin (created.Task task) = task.0 < 2 ^ 32
IsCreatedWithin (created.Object object) = object.0 < 2 ^ 32

abbrev pub IsEntryWithin : EntryName → Type 0
IsEntryWithin (OfTask task name) = (task.0 < 2 ^ 32) × (length name ≤ NAME_BYTES)
IsEntryWithin (OfObject object name) = (object.0 < 2 ^ 32) × (length name ≤ NAME_BYTES)

abbrev pub IsFinishedWithin : Finished → Type 0
IsFinishedWithin finished.Ok = Unit {0}
IsFinishedWithin (finished.Raised name) = length name ≤ NAME_BYTES
IsFinishedWithin finished.Requeue = Unit {0}

abbrev pub IsEndedWithin : Ended → Type 0
IsEndedWithin ended.Completed = Unit {0}
IsEndedWithin (ended.Exception name) = length name ≤ NAME_BYTES
IsEndedWithin ended.Stuck = Unit {0}
IsEndedWithin ended.Bound = Unit {0}

abbrev pub IsDeadlineWithin : Option ℤ → Type 0
IsDeadlineWithin None = Unit {0}
IsDeadlineWithin (Some deadline) = FitsSigned w64 deadline

abbrev pub IsWithin : Event → Type 0
IsWithin (New what name level) = IsCreatedWithin what × (length name ≤ NAME_BYTES) × (level < 2 ^ 8)
IsWithin (Ready who level end deadline) = IsWhoWithin who × (level < 2 ^ 8) × IsDeadlineWithin deadline
IsWithin (Block who why) = IsWhoWithin who
IsWithin (Run who) = IsWhoWithin who
IsWithin Idle = Unit {0}
IsWithin (Base task level) = (task.0 < 2 ^ 32) × (level < 2 ^ 8)
IsWithin (Deadline task deadline) = (task.0 < 2 ^ 32) × FitsSigned w64 deadline
IsWithin (Quantum task) = task.0 < 2 ^ 32
IsWithin (Done task) = task.0 < 2 ^ 32
IsWithin (Raise who name) = IsWhoWithin who × (length name ≤ NAME_BYTES)
IsWithin (Put who text) = IsWhoWithin who × (length text ≤ NAME_BYTES)
IsWithin (Call task call entry priority) = (task.0 < 2 ^ 32) × (call.0 < 2 ^ 32) × IsEntryWithin entry
    × (priority < 2 ^ 8)
IsWithin (Start who call) = IsWhoWithin who × (call.0 < 2 ^ 32)
IsWithin (Finish who call how) = IsWhoWithin who × (call.0 < 2 ^ 32) × IsFinishedWithin how
IsWithin (Cancel task call) = (task.0 < 2 ^ 32) × (call.0 < 2 ^ 32)
IsWithin (Gone task call) = (task.0 < 2 ^ 32) × (call.0 < 2 ^ 32)
IsWithin (Enter who object mode) = IsWhoWithin who × (object.0 < 2 ^ 32)
IsWithin (Exit who object) = IsWhoWithin who × (object.0 < 2 ^ 32)
IsWithin (Held who object mode) = IsWhoWithin who × (object.0 < 2 ^ 32)
IsWithin (Abort task victim) = (task.0 < 2 ^ 32) × (victim.0 < 2 ^ 32)
IsWithin (Trigger task) = task.0 < 2 ^ 32
IsWithin (Leave who region how) = IsWhoWithin who × (region.0 < 2 ^ 32)
IsWithin (Init who object region name) = IsWhoWithin who × (object < 2 ^ 32) × (region.0 < 2 ^ 32)
    × (length name ≤ NAME_BYTES)
IsWithin (Final who object) = IsWhoWithin who × (object < 2 ^ 32)
IsWithin (Left who region) = IsWhoWithin who × (region.0 < 2 ^ 32)
IsWithin (Replace who object) = IsWhoWithin who × (object < 2 ^ 32)
IsWithin (Release release object handler) = (release < 2 ^ 32) × (object.0 < 2 ^ 32) × (length handler ≤ NAME_BYTES)
IsWithin (Serve release) = release < 2 ^ 32
IsWithin (Served release) = release < 2 ^ 32
IsWithin (Interrupt number) = number < 2 ^ 8
IsWithin (Port number value) = (number < 2 ^ 8) × FitsSigned w32 value
IsWithin (Mask number) = number < 2 ^ 8
IsWithin (Unmask number) = number < 2 ^ 8
IsWithin (Masked number) = number < 2 ^ 8
IsWithin (End why) = IsEndedWithin why

-- a printable event at a tick, as values of their types
pub record IsPrintableLine (tick : ℕ) (event : Event) : Type 0 where
  pub tick_fits : tick < 2 ^ 64
  pub within : IsWithin event
  pub printable : IsPrintable event

abbrev pub ArePrintable : List (ℕ × Event) → Type 0
ArePrintable [] = Unit {0}
ArePrintable (line ∷ lines) = IsPrintableLine line.0 line.1 × ArePrintable lines
