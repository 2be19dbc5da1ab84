-- How the words of a line behind its tick are read as an event, and a line as a tick and an event.
use Rattle.std.specs.Prelude.{ℕ, ◌-◌, not, ◌&&◌, ◌==◌, if◌then◌else◌, List, Option}
use Rattle.std.specs.Prelude.{Some, None, length, take, slice_index, codes}
use Rattle.std.specs.Str.{bytes_eq}
use Rattle.ann_base.specs.declared.identities.TaskNo.{TaskNo}
use Rattle.ann_base.specs.declared.identities.ObjectNo.{ObjectNo}
use Rattle.trace_text.specs.declared.events.Who.{Who}
use Rattle.trace_text.specs.declared.events.Who.TheVariants as subject
use Rattle.trace_text.specs.declared.events.Created.{Created}
use Rattle.trace_text.specs.declared.events.Created.TheVariants as created
use Rattle.trace_text.specs.declared.events.Ended.TheVariants as ended_variants
use Rattle.trace_text.specs.declared.events.Event.{Event}
use Rattle.trace_text.specs.declared.events.Event.TheVariants.{New, Ready, Block, Run, Idle, Base, Deadline}
use Rattle.trace_text.specs.declared.events.Event.TheVariants.{Quantum, Done, Raise, Put, Call, Start, Finish}
use Rattle.trace_text.specs.declared.events.Event.TheVariants.{Cancel, Gone, Enter, Exit, Held, Abort, Trigger}
use Rattle.trace_text.specs.declared.events.Event.TheVariants.{Leave, Init, Final, Left, Replace, Release, Serve}
use Rattle.trace_text.specs.declared.events.Event.TheVariants.{Served, Interrupt, Port, Mask, Unmask, Masked, End}
use Rattle.trace_text.specs.declared.words.Word.{Word}
use Rattle.trace_text.specs.declared.words.Word.TheVariants as word
use Rattle.trace_reading.specs.declared.read.Lead.{Lead}
use Rattle.trace_reading.specs.declared.read.Lead.TheVariants as lead
use Rattle.trace_text.specs.Text.{task_text, object_text}
use Rattle.trace_text.specs.Words.{word_text}
use Rattle.trace_fields.specs.Spelt.{word_in, waits_in, mode_in, leaves_in, queue_end_in}
use Rattle.trace_fields.specs.Reading.{◌>>=◌, front_of, rest_of, field, last_field, ended, number_in}
use Rattle.trace_fields.specs.Reading.{short_in, long_in, moment_in, value_in, task_in, object_in, name_in}
use Rattle.trace_fields.specs.Reading.{text_in, exception_in, finished_in, entry_in, handler_in, deadline_in}
use Rattle.std.specs.Option.{option_or}

abbrev pub lead_text : Lead → List ℕ
lead_text (lead.Task task) = task_text task
lead_text (lead.Object object) = object_text object
lead_text lead.Agent = codes "agent"
lead_text (lead.Bare word) = word_text word

abbrev pub agent_in : List ℕ → Option Lead
agent_in bytes = if bytes_eq bytes (codes "agent") then Some lead.Agent else None

-- the subject, or the word of a line that has none
abbrev pub lead_in : List ℕ → Option Lead
lead_in bytes =
    option_or (agent_in bytes) (option_or (task_in bytes
    >>= λ task. Some (lead.Task task)) (option_or (object_in bytes
    >>= λ object. Some (lead.Object object)) (word_in bytes >>= λ word. Some (lead.Bare word))))

abbrev pub created_in : Created → List ℕ → Option Event
created_in what bytes = field name_in bytes >>= λ name. last_field short_in name.1
    >>= λ level. Some (New what name.0 level)

abbrev pub ready_in : Who → List ℕ → Option Event
ready_in who bytes = field short_in bytes >>= λ level. field queue_end_in level.1 >>= λ end. deadline_in end.1
    >>= λ deadline. Some (Ready who level.0 end.0 deadline)

abbrev pub call_in : TaskNo → List ℕ → Option Event
call_in task bytes = field long_in bytes >>= λ call. field entry_in call.1 >>= λ entry. last_field short_in entry.1
    >>= λ priority. Some (Call task (record { 0 = call.0 }) entry.0 priority)

abbrev pub finish_in : Who → List ℕ → Option Event
finish_in who bytes = field long_in bytes >>= λ call. last_field finished_in call.1
    >>= λ how. Some (Finish who (record { 0 = call.0 }) how)

abbrev pub enter_in : Who → List ℕ → Option Event
enter_in who bytes = field object_in bytes >>= λ object. last_field mode_in object.1
    >>= λ mode. Some (Enter who object.0 mode)

abbrev pub held_in : Who → List ℕ → Option Event
held_in who bytes = field object_in bytes >>= λ object. last_field mode_in object.1
    >>= λ mode. Some (Held who object.0 mode)

abbrev pub leave_in : Who → List ℕ → Option Event
leave_in who bytes = field long_in bytes >>= λ region. last_field leaves_in region.1
    >>= λ how. Some (Leave who (record { 0 = region.0 }) how)

abbrev pub init_in : Who → List ℕ → Option Event
init_in who bytes = field long_in bytes >>= λ object. field long_in object.1
    >>= λ region. last_field name_in region.1 >>= λ name. Some (Init who object.0 (record { 0 = region.0 }) name)

abbrev pub release_in : List ℕ → Option Event
release_in bytes = field long_in bytes >>= λ release. last_field handler_in release.1
    >>= λ handler. Some (Release release.0 handler.0 handler.1)

abbrev pub port_in : List ℕ → Option Event
port_in bytes = field short_in bytes >>= λ number. last_field value_in number.1 >>= λ value. Some (Port number.0 value)

abbrev pub end_in : List ℕ → Option Event
end_in bytes = field Some bytes >>= λ why.
    if bytes_eq why.0 (codes "exception") then (last_field exception_in why.1
    >>= λ name. Some (End (ended_variants.Exception name)))
    else (ended why.1 >>= λ _.
    if bytes_eq why.0 (codes "completed") then Some (End ended_variants.Completed)
    else (if bytes_eq why.0 (codes "stuck") then Some (End ended_variants.Stuck)
    else (if bytes_eq why.0 (codes "bound") then Some (End ended_variants.Bound) else None)))

-- what a task or the agent does
abbrev pub who_in : Who → Word → List ℕ → Option Event
who_in who word.Ready bytes = ready_in who bytes
who_in who word.Block bytes = last_field waits_in bytes >>= λ waits. Some (Block who waits)
who_in who word.Run bytes = ended bytes >>= λ _. Some (Run who)
who_in who word.Raise bytes = last_field exception_in bytes >>= λ name. Some (Raise who name)
who_in who word.Put bytes = last_field text_in bytes >>= λ text. Some (Put who text)
who_in who word.Start bytes = last_field long_in bytes >>= λ call. Some (Start who (record { 0 = call }))
who_in who word.Finish bytes = finish_in who bytes
who_in who word.Enter bytes = enter_in who bytes
who_in who word.Exit bytes = last_field object_in bytes >>= λ object. Some (Exit who object)
who_in who word.Held bytes = held_in who bytes
who_in who word.Leave bytes = leave_in who bytes
who_in who word.Init bytes = init_in who bytes
who_in who word.Final bytes = last_field long_in bytes >>= λ object. Some (Final who object)
who_in who word.Left bytes = last_field long_in bytes >>= λ region. Some (Left who (record { 0 = region }))
who_in who word.Replace bytes = last_field long_in bytes >>= λ object. Some (Replace who object)
who_in who _ bytes = None

-- what a task does
abbrev pub task_line_in : TaskNo → Word → List ℕ → Option Event
task_line_in task word.New bytes = created_in (created.Task task) bytes
task_line_in task word.Base bytes = last_field short_in bytes >>= λ level. Some (Base task level)
task_line_in task word.Deadline bytes = last_field moment_in bytes >>= λ deadline. Some (Deadline task deadline)
task_line_in task word.Quantum bytes = ended bytes >>= λ _. Some (Quantum task)
task_line_in task word.Done bytes = ended bytes >>= λ _. Some (Done task)
task_line_in task word.Call bytes = call_in task bytes
task_line_in task word.Cancel bytes = last_field long_in bytes >>= λ call. Some (Cancel task (record { 0 = call }))
task_line_in task word.Gone bytes = last_field long_in bytes >>= λ call. Some (Gone task (record { 0 = call }))
task_line_in task word.Abort bytes = last_field task_in bytes >>= λ victim. Some (Abort task victim)
task_line_in task word.Trigger bytes = ended bytes >>= λ _. Some (Trigger task)
task_line_in task word bytes = who_in (subject.Task task) word bytes

-- what the agent does
abbrev pub agent_line_in : Word → List ℕ → Option Event
agent_line_in word.Serve bytes = last_field long_in bytes >>= λ release. Some (Serve release)
agent_line_in word.Served bytes = last_field long_in bytes >>= λ release. Some (Served release)
agent_line_in word bytes = who_in subject.Agent word bytes

-- a protected object is created
abbrev pub object_line_in : ObjectNo → Word → List ℕ → Option Event
object_line_in object word.New bytes = created_in (created.Object object) bytes
object_line_in object _ bytes = None

-- lines without a subject
abbrev pub bare_in : Word → List ℕ → Option Event
bare_in word.Idle bytes = ended bytes >>= λ _. Some Idle
bare_in word.Release bytes = release_in bytes
bare_in word.Interrupt bytes = last_field short_in bytes >>= λ number. Some (Interrupt number)
bare_in word.Port bytes = port_in bytes
bare_in word.Mask bytes = last_field short_in bytes >>= λ number. Some (Mask number)
bare_in word.Unmask bytes = last_field short_in bytes >>= λ number. Some (Unmask number)
bare_in word.Masked bytes = last_field short_in bytes >>= λ number. Some (Masked number)
bare_in word.End bytes = end_in bytes
bare_in _ bytes = None

abbrev pub led_in : Lead → List ℕ → Option Event
led_in (lead.Task task) bytes = field word_in bytes >>= λ word. task_line_in task word.0 word.1
led_in (lead.Object object) bytes = field word_in bytes >>= λ word. object_line_in object word.0 word.1
led_in lead.Agent bytes = field word_in bytes >>= λ word. agent_line_in word.0 word.1
led_in (lead.Bare word) bytes = bare_in word bytes

abbrev pub event_in : List ℕ → Option Event
event_in bytes = field lead_in bytes >>= λ first. led_in first.0 first.1

-- a line without its line feed
abbrev pub moment_and_event_in : List ℕ → Option (ℕ × Event)
moment_and_event_in bytes = number_in 18446744073709551615 (front_of 32 bytes)
    >>= λ tick. event_in (rest_of 32 bytes) >>= λ event. Some (tick, event)

-- a line ends with a line feed
abbrev pub line_in : List ℕ → Option (ℕ × Event)
line_in line = if not (length line == 0) && slice_index line (length line - 1) == 10
    then moment_and_event_in (take (length line - 1) line) else None
