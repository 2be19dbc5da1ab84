-- A text that is read as a line is short.
use Rattle.std.proofs.Common.{◌≡◌, ℕ, ◌+◌, ◌-◌, ◌<◌, ◌≤◌, not, ◌&&◌, ◌==◌, if◌then◌else◌, List, [], ◌∷◌}
use Rattle.std.proofs.Common.{length, take, slice_index, Option, Some, None, IfSome, codes, refl, arith}
use Rattle.std.specs.Str.{bytes_eq}
use Rattle.std.proofs.lemmas.List.{length-take-le}
use Rattle.ann_base.specs.declared.identities.TaskNo.{TaskNo}
use Rattle.ann_base.specs.declared.identities.ObjectNo.{ObjectNo}
use Rattle.trace_text.specs.declared.events.Who.{Who}
use Rattle.trace_text.specs.declared.events.Who.TheVariants as subject
use Rattle.trace_text.specs.declared.events.Created.{Created}
use Rattle.trace_text.specs.declared.events.Created.TheVariants as created
use Rattle.trace_text.specs.declared.events.QueueEnd.TheVariants.{Head, Tail}
use Rattle.trace_text.specs.declared.events.Waits.TheVariants as waits
use Rattle.trace_text.specs.declared.events.Mode.TheVariants as mode
use Rattle.trace_text.specs.declared.events.Leaves.TheVariants as leaves
use Rattle.trace_text.specs.declared.events.Ended.TheVariants as ended_variants
use Rattle.trace_text.specs.declared.events.Event.{Event}
use Rattle.trace_text.specs.declared.events.Event.TheVariants.{New, Ready, Block, Run, Idle, Base, Deadline, Quantum, Done, Raise, Put, Call}
use Rattle.trace_text.specs.declared.events.Event.TheVariants.{Start, Finish, Cancel, Gone, Enter, Exit, Held, Abort, Trigger, Leave, Init, Final}
use Rattle.trace_text.specs.declared.events.Event.TheVariants.{Left, Replace, Release, Serve, Served, Interrupt, Port, Mask, Unmask, Masked, End}
use Rattle.trace_text.specs.declared.words.Word.{Word}
use Rattle.trace_text.specs.declared.words.Word.TheVariants as word
use Rattle.trace_text.specs.declared.lines.TheConstants.{LINE_BYTES}
use Rattle.trace_text.specs.Text.{queue_end_text, waits_text, mode_text, leaves_text}
use Rattle.trace_text.specs.Words.{word_text, all_words}
use Rattle.trace_reading.specs.declared.read.Lead.TheVariants as lead
use Rattle.trace_reading.specs.declared.read.Lead.{Lead}
use Rattle.trace_fields.specs.Spelt.{word_in, waits_in, mode_in, leaves_in, queue_end_in}
use Rattle.trace_fields.specs.Reading.{◌>>=◌, front_of, rest_of, word_at, field, last_field, ended, number_in, short_in, long_in, moment_in}
use Rattle.trace_fields.specs.Reading.{value_in, task_in, object_in, name_in, text_in, exception_in, finished_in, entry_in, handler_in, deadline_in}
use Rattle.std.specs.Option.{option_or}
use Rattle.trace_reading.specs.Lines.{agent_in, lead_in, created_in, ready_in, release_in, end_in, who_in, task_line_in}
use Rattle.trace_reading.specs.Lines.{agent_line_in, object_line_in, bare_in, led_in, event_in, moment_and_event_in, line_in}
use Rattle.trace_fields.proofs.FieldsShort.{IsShort, weaker, then_some, if_some, or_some, split_length, word_some, field_some, last_short, ended_short}
use Rattle.trace_fields.proofs.FieldsShort.{spelt_short, short_short, long_short, tick_short, moment_short, value_short, task_short, object_short}
use Rattle.trace_fields.proofs.FieldsShort.{name_short, text_short, exception_short, equal_short, finished_short, entry_short, handler_short, deadline_short}

word_short : IsShort 10 word_in
word_short = spelt_short 10 word_text all_words refl

queue_end_short : IsShort 10 queue_end_in
queue_end_short = spelt_short 10 queue_end_text (Head ∷ Tail ∷ []) refl

waits_short : IsShort 10 waits_in
waits_short =
    spelt_short 10 waits_text
    (waits.Activation ∷ waits.Delay ∷ waits.Entry ∷ waits.Accept ∷ waits.Select ∷ waits.Dependents ∷ waits.Call ∷ waits.Release ∷ []) refl

mode_short : IsShort 10 mode_in
mode_short = spelt_short 10 mode_text (mode.Read ∷ mode.Write ∷ []) refl

leaves_short : IsShort 10 leaves_in
leaves_short = spelt_short 10 leaves_text (leaves.End ∷ leaves.Return ∷ leaves.Exit ∷ leaves.Exception ∷ leaves.Abort ∷ leaves.Terminate ∷ []) refl

nothing : {X : Type 0} (read : Option X) (P : Type 0) → IfSome read (λ _. P) → (P → ⊥) → read ≡ None
nothing None P h never = refl
nothing (Some x) P h never = absurd (never h)

-- ---- one, two and three fields

one_short : {X : Type 0} (n : ℕ) (read : List ℕ → Option X) (make : X → Event) → n ≤ 1000 → IsShort n read
    → IsShort 1028 (λ bytes. last_field read bytes >>= λ x. Some (make x))
one_short n read make small short bytes =
    then_some (last_field read bytes) (λ x. Some (make x)) (λ _. length bytes ≤ n + 1) (λ _. length bytes ≤ 1028) (last_short n read short bytes)
    (λ x few. omega (arith, few, small))

none_short : (event : Event) → IsShort 1028 (λ bytes. ended bytes >>= λ _. Some event)
none_short event bytes =
    then_some (ended bytes) (λ _. Some event) (λ _. length bytes ≤ 0) (λ _. length bytes ≤ 1028) (ended_short bytes) (λ x few. omega (arith, few))

two_short : {X Y : Type 0} (m n : ℕ) (one : List ℕ → Option X) (two : List ℕ → Option Y) (make : X → Y → Event) → m + n ≤ 1022 → IsShort m one → IsShort n two
    → IsShort 1028 (λ bytes. field one bytes >>= λ x. last_field two x.1 >>= λ y. Some (make x.0 y))
two_short m n one two make small first second bytes =
    then_some (field one bytes) (λ x. last_field two x.1 >>= λ y. Some (make x.0 y)) (λ x. length bytes ≤ m + 1 + length x.1) (λ _. length bytes ≤ 1028)
    (field_some m one bytes first)
    (λ x few. then_some (last_field two x.1) (λ y. Some (make x.0 y)) (λ _. length x.1 ≤ n + 1) (λ _. length bytes ≤ 1028) (last_short n two second x.1)
    (λ y more. omega (arith, few, more, small)))

three_short : {X Y Z : Type 0} (m n k : ℕ) (one : List ℕ → Option X) (two : List ℕ → Option Y) (three : List ℕ → Option Z) (make : X → Y → Z → Event)
    → m + n + k ≤ 1025 → IsShort m one → IsShort n two → IsShort k three
    → IsShort 1028 (λ bytes. field one bytes >>= λ x. field two x.1 >>= λ y. last_field three y.1 >>= λ z. Some (make x.0 y.0 z))
three_short m n k one two three make small first second third bytes =
    then_some (field one bytes) (λ x. field two x.1 >>= λ y. last_field three y.1 >>= λ z. Some (make x.0 y.0 z)) (λ x. length bytes ≤ m + 1 + length x.1)
    (λ _. length bytes ≤ 1028) (field_some m one bytes first)
    (λ x few. then_some (field two x.1) (λ y. last_field three y.1 >>= λ z. Some (make x.0 y.0 z)) (λ y. length x.1 ≤ n + 1 + length y.1)
    (λ _. length bytes ≤ 1028) (field_some n two x.1 second)
    (λ y more. then_some (last_field three y.1) (λ z. Some (make x.0 y.0 z)) (λ _. length y.1 ≤ k + 1) (λ _. length bytes ≤ 1028) (last_short k three third y.1)
    (λ z most. omega (arith, few, more, most, small))))

-- ---- what stands behind the word

created_short : (what : Created) → IsShort 1028 (created_in what)
created_short what = two_short 1000 3 name_in short_in (New what) (omega arith) name_short short_short

ready_short : (who : Who) → IsShort 1028 (ready_in who)
ready_short who bytes =
    then_some (field short_in bytes) (λ level. field queue_end_in level.1 >>= λ end. deadline_in end.1 >>= λ deadline. Some (Ready who level.0 end.0 deadline))
    (λ x. length bytes ≤ 4 + length x.1) (λ _. length bytes ≤ 1028) (field_some 3 short_in bytes short_short)
    (λ level few. then_some (field queue_end_in level.1) (λ end. deadline_in end.1 >>= λ deadline. Some (Ready who level.0 end.0 deadline))
    (λ y. length level.1 ≤ 11 + length y.1) (λ _. length bytes ≤ 1028) (field_some 10 queue_end_in level.1 queue_end_short)
    (λ end more. then_some (deadline_in end.1) (λ deadline. Some (Ready who level.0 end.0 deadline)) (λ _. length end.1 ≤ 21) (λ _. length bytes ≤ 1028)
    (deadline_short end.1) (λ deadline most. omega (arith, few, more, most))))

release_short : IsShort 1028 release_in
release_short = two_short 10 1012 long_in handler_in (λ release handler. Release release handler.0 handler.1) (omega arith) long_short handler_short

abbrev plain_end : List ℕ → Option Event
plain_end why =
    if bytes_eq why (codes "completed") then Some (End ended_variants.Completed)
    else (if bytes_eq why (codes "stuck") then Some (End ended_variants.Stuck)
    else (if bytes_eq why (codes "bound") then Some (End ended_variants.Bound) else None))

plain_short : IsShort 9 plain_end
plain_short why =
    if_some (bytes_eq why (codes "completed")) (Some (End ended_variants.Completed))
    (if bytes_eq why (codes "stuck") then Some (End ended_variants.Stuck)
    else (if bytes_eq why (codes "bound") then Some (End ended_variants.Bound) else None))
    (λ _. length why ≤ 9)
    (λ e. equal_short why (codes "completed") (omega arith) e)
    (if_some (bytes_eq why (codes "stuck")) (Some (End ended_variants.Stuck)) (if bytes_eq why (codes "bound") then Some (End ended_variants.Bound) else None)
    (λ _. length why ≤ 9)
    (λ e. equal_short why (codes "stuck") (omega arith) e)
    (if_some (bytes_eq why (codes "bound")) (Some (End ended_variants.Bound)) None (λ _. length why ≤ 9)
    (λ e. equal_short why (codes "bound") (omega arith) e) tt))

-- the two words of an end
whole_word : (bytes : List ℕ) → IfSome (field Some bytes) (λ f. length bytes ≡ 1 + length f.0 + length f.1)
whole_word bytes =
    then_some (word_at bytes) (λ word. Some (word.0, word.1)) (λ word. length bytes ≡ 1 + length word.0 + length word.1)
    (λ f. length bytes ≡ 1 + length f.0 + length f.1) (word_some bytes) (λ word whole. whole)

end_short : IsShort 1028 end_in
end_short bytes =
    then_some (field Some bytes)
    (λ word. if bytes_eq word.0 (codes "exception") then (last_field exception_in word.1 >>= λ name. Some (End (ended_variants.Exception name)))
    else (ended word.1 >>= λ _. plain_end word.0))
    (λ word. length bytes ≡ 1 + length word.0 + length word.1) (λ _. length bytes ≤ 1028) (whole_word bytes)
    (λ word whole. if_some (bytes_eq word.0 (codes "exception")) (last_field exception_in word.1 >>= λ name. Some (End (ended_variants.Exception name)))
    (ended word.1 >>= λ _. plain_end word.0) (λ _. length bytes ≤ 1028)
    (λ e. then_some (last_field exception_in word.1) (λ name. Some (End (ended_variants.Exception name))) (λ _. length word.1 ≤ 1001) (λ _. length bytes ≤ 1028)
    (last_short 1000 exception_in exception_short word.1)
    (λ name few. omega (arith, whole, few, equal_short {n = 9} word.0 (codes "exception") (omega arith) e)))
    (then_some (ended word.1) (λ _. plain_end word.0) (λ _. length word.1 ≤ 0) (λ _. length bytes ≤ 1028) (ended_short word.1)
    (λ nothing few. weaker (plain_end word.0) (length word.0 ≤ 9) (length bytes ≤ 1028) (plain_short word.0) (λ some. omega (arith, whole, few, some)))))

-- ---- who does it

who_short : (who : Who) (w : Word) → IsShort 1028 (who_in who w)
who_short who word.Ready = ready_short who
who_short who word.Block = one_short 10 waits_in (Block who) (omega arith) waits_short
who_short who word.Run = none_short (Run who)
who_short who word.Raise = one_short 1000 exception_in (Raise who) (omega arith) exception_short
who_short who word.Put = one_short 1000 text_in (Put who) (omega arith) text_short
who_short who word.Start = one_short 10 long_in (λ call. Start who (record { 0 = call })) (omega arith) long_short
who_short who word.Finish = two_short 10 1000 long_in finished_in (λ call how. Finish who (record { 0 = call }) how) (omega arith) long_short finished_short
who_short who word.Enter = two_short 11 10 object_in mode_in (Enter who) (omega arith) object_short mode_short
who_short who word.Exit = one_short 11 object_in (Exit who) (omega arith) object_short
who_short who word.Held = two_short 11 10 object_in mode_in (Held who) (omega arith) object_short mode_short
who_short who word.Leave = two_short 10 10 long_in leaves_in (λ region how. Leave who (record { 0 = region }) how) (omega arith) long_short leaves_short
who_short who word.Init =
    three_short 10 10 1000 long_in long_in name_in (λ object region name. Init who object (record { 0 = region }) name)
    (omega arith) long_short long_short name_short
who_short who word.Final = one_short 10 long_in (Final who) (omega arith) long_short
who_short who word.Left = one_short 10 long_in (λ region. Left who (record { 0 = region })) (omega arith) long_short
who_short who word.Replace = one_short 10 long_in (Replace who) (omega arith) long_short
who_short who w = λ bytes. tt

task_line_short : (task : TaskNo) (w : Word) → IsShort 1028 (task_line_in task w)
task_line_short task word.New = created_short (created.Task task)
task_line_short task word.Base = one_short 3 short_in (Base task) (omega arith) short_short
task_line_short task word.Deadline = one_short 20 moment_in (Deadline task) (omega arith) moment_short
task_line_short task word.Quantum = none_short (Quantum task)
task_line_short task word.Done = none_short (Done task)
task_line_short task word.Call =
    three_short 10 1012 3 long_in entry_in short_in (λ call entry priority. Call task (record { 0 = call }) entry priority)
    (omega arith) long_short entry_short short_short
task_line_short task word.Cancel = one_short 10 long_in (λ call. Cancel task (record { 0 = call })) (omega arith) long_short
task_line_short task word.Gone = one_short 10 long_in (λ call. Gone task (record { 0 = call })) (omega arith) long_short
task_line_short task word.Abort = one_short 11 task_in (Abort task) (omega arith) task_short
task_line_short task word.Trigger = none_short (Trigger task)
task_line_short task w = who_short (subject.Task task) w

agent_line_short : (w : Word) → IsShort 1028 (agent_line_in w)
agent_line_short word.Serve = one_short 10 long_in Serve (omega arith) long_short
agent_line_short word.Served = one_short 10 long_in Served (omega arith) long_short
agent_line_short w = who_short subject.Agent w

object_line_short : (object : ObjectNo) (w : Word) → IsShort 1028 (object_line_in object w)
object_line_short object word.New = created_short (created.Object object)
object_line_short object w = λ bytes. tt

bare_short : (w : Word) → IsShort 1028 (bare_in w)
bare_short word.Idle = none_short Idle
bare_short word.Release = release_short
bare_short word.Interrupt = one_short 3 short_in Interrupt (omega arith) short_short
bare_short word.Port = two_short 3 11 short_in value_in Port (omega arith) short_short value_short
bare_short word.Mask = one_short 3 short_in Mask (omega arith) short_short
bare_short word.Unmask = one_short 3 short_in Unmask (omega arith) short_short
bare_short word.Masked = one_short 3 short_in Masked (omega arith) short_short
bare_short word.End = end_short
bare_short w = λ bytes. tt

worded_short : (line_in_word : Word → List ℕ → Option Event) → ((w : Word) → IsShort 1028 (line_in_word w))
    → IsShort 1039 (λ bytes. field word_in bytes >>= λ w. line_in_word w.0 w.1)
worded_short line_in_word short bytes =
    then_some (field word_in bytes) (λ w. line_in_word w.0 w.1) (λ w. length bytes ≤ 11 + length w.1) (λ _. length bytes ≤ 1039)
    (field_some 10 word_in bytes word_short)
    (λ w few. weaker (line_in_word w.0 w.1) (length w.1 ≤ 1028) (length bytes ≤ 1039) (short w.0 w.1) (λ some. omega (arith, few, some)))

led_short : (first : Lead) → IsShort 1039 (led_in first)
led_short (lead.Task task) = worded_short (task_line_in task) (task_line_short task)
led_short (lead.Object object) = worded_short (object_line_in object) (object_line_short object)
led_short lead.Agent = worded_short agent_line_in agent_line_short
led_short (lead.Bare w) = λ bytes. weaker (bare_in w bytes) (length bytes ≤ 1028) (length bytes ≤ 1039) (bare_short w bytes) (λ some. omega (arith, some))

lead_short : IsShort 11 lead_in
lead_short bytes =
    or_some (agent_in bytes)
    (option_or (task_in bytes >>= λ task. Some (lead.Task task))
    (option_or (object_in bytes >>= λ object. Some (lead.Object object)) (word_in bytes >>= λ w. Some (lead.Bare w))))
    (λ _. length bytes ≤ 11)
    (if_some (bytes_eq bytes (codes "agent")) (Some lead.Agent) None (λ _. length bytes ≤ 11) (λ e. equal_short bytes (codes "agent") (omega arith) e) tt)
    (or_some (task_in bytes >>= λ task. Some (lead.Task task))
    (option_or (object_in bytes >>= λ object. Some (lead.Object object)) (word_in bytes >>= λ w. Some (lead.Bare w))) (λ _. length bytes ≤ 11)
    (then_some (task_in bytes) (λ task. Some (lead.Task task)) (λ _. length bytes ≤ 11) (λ _. length bytes ≤ 11) (task_short bytes) (λ task few. few))
    (or_some (object_in bytes >>= λ object. Some (lead.Object object)) (word_in bytes >>= λ w. Some (lead.Bare w)) (λ _. length bytes ≤ 11)
    (then_some (object_in bytes) (λ object. Some (lead.Object object)) (λ _. length bytes ≤ 11) (λ _. length bytes ≤ 11) (object_short bytes)
    (λ object few. few))
    (then_some (word_in bytes) (λ w. Some (lead.Bare w)) (λ _. length bytes ≤ 10) (λ _. length bytes ≤ 11) (word_short bytes) (λ w few. omega (arith, few)))))

event_short : IsShort 1051 event_in
event_short bytes =
    then_some (field lead_in bytes) (λ first. led_in first.0 first.1) (λ first. length bytes ≤ 12 + length first.1) (λ _. length bytes ≤ 1051)
    (field_some 11 lead_in bytes lead_short)
    (λ first few. weaker (led_in first.0 first.1) (length first.1 ≤ 1039) (length bytes ≤ 1051) (led_short first.0 first.1) (λ some. omega (arith, few, some)))

moment_and_event_short : IsShort 1071 moment_and_event_in
moment_and_event_short bytes =
    then_some (number_in 18446744073709551615 (front_of 32 bytes)) (λ tick. event_in (rest_of 32 bytes) >>= λ event. Some (tick, event))
    (λ _. length (front_of 32 bytes) ≤ 20) (λ _. length bytes ≤ 1071) (tick_short (front_of 32 bytes))
    (λ tick few. then_some (event_in (rest_of 32 bytes)) (λ event. Some (tick, event)) (λ _. length (rest_of 32 bytes) ≤ 1051) (λ _. length bytes ≤ 1071)
    (event_short (rest_of 32 bytes)) (λ event some. omega (arith, few, some, split_length 32 bytes)))

line_short : IsShort 1072 line_in
line_short line =
    if_some (not (length line == 0) && slice_index line (length line - 1) == 10) (moment_and_event_in (take (length line - 1) line)) None
    (λ _. length line ≤ 1072)
    (λ e. weaker (moment_and_event_in (take (length line - 1) line)) (length (take (length line - 1) line) ≤ 1071) (length line ≤ 1072)
    (moment_and_event_short (take (length line - 1) line))
    (λ few. omega (arith, few, length-take-le (length line - 1) line (omega arith)))) tt

pub long_none : (text : List ℕ) → LINE_BYTES < length text → line_in text ≡ None
long_none text long = nothing (line_in text) (length text ≤ 1072) (line_short text) (λ few. omega (arith, long, few))
