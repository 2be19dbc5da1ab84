-- The text of a printable line is read as this line.
use Rattle.std.proofs.Common.{◌≡◌, ℕ, ◌+◌, ◌-◌, ◌<◌, ◌^◌, true, false, eqb, List, [], ◌∷◌, ◌++◌}
use Rattle.std.proofs.Common.{length, get_or, Some, decimal, codes, refl, ap, sym, ◌∙◌, arith}
use Rattle.std.specs.Fmt.{signed_decimal}
use Rattle.std.proofs.lemmas.List.{get_or_at}
use Rattle.std.proofs.Math.Seq.{take-append_seam}
use Rattle.std.proofs.lemmas.Bool.{ne_eqb}
use Rattle.std.proofs.Common.{append_assoc, length-append}
use Rattle.ann_base.specs.declared.identities.TaskNo.{TaskNo}
use Rattle.ann_base.specs.declared.identities.ObjectNo.{ObjectNo}
use Rattle.trace_text.specs.declared.events.Who.{Who}
use Rattle.trace_text.specs.declared.events.Who.TheVariants as subject
use Rattle.trace_text.specs.declared.events.Created.{Created}
use Rattle.trace_text.specs.declared.events.Created.TheVariants as created
use Rattle.trace_text.specs.declared.events.QueueEnd.{QueueEnd}
use Rattle.trace_text.specs.declared.events.QueueEnd.TheVariants.{Head, Tail}
use Rattle.trace_text.specs.declared.events.Waits.{Waits}
use Rattle.trace_text.specs.declared.events.Waits.TheVariants as waits
use Rattle.trace_text.specs.declared.events.Mode.{Mode}
use Rattle.trace_text.specs.declared.events.Mode.TheVariants as mode
use Rattle.trace_text.specs.declared.events.Leaves.{Leaves}
use Rattle.trace_text.specs.declared.events.Leaves.TheVariants as leaves
use Rattle.trace_text.specs.declared.events.Ended.TheVariants as ended_variants
use Rattle.trace_text.specs.declared.events.Event.{Event}
use Rattle.trace_text.specs.declared.events.Event.TheVariants.{New, Ready, Block, Run, Idle, Base, Deadline, Quantum, Done, Raise, Put, Call}
use Rattle.trace_text.specs.declared.events.Event.TheVariants.{Start, Finish, Cancel, Gone, Enter, Exit, Held, Abort, Trigger, Leave, Init, Final}
use Rattle.trace_text.specs.declared.events.Event.TheVariants.{Left, Replace, Release, Serve, Served, Interrupt, Port, Mask, Unmask, Masked, End}
use Rattle.trace_text.specs.declared.words.Word.{Word}
use Rattle.trace_text.specs.declared.words.Word.TheVariants as word
use Rattle.trace_reading.specs.declared.read.Lead.TheVariants as lead
use Rattle.trace_text.specs.Text.{IsPrintable, IsWithin, IsWhoWithin, IsPrintableLine, words_of, spaced, line_text, task_text, object_text}
use Rattle.trace_text.specs.Text.{who_text, queue_end_text, waits_text, mode_text, leaves_text, entry_text, finished_text, deadline_words}
use Rattle.trace_text.specs.Words.{word_text}
use Rattle.trace_fields.specs.Spelt.{word_in, waits_in, mode_in, leaves_in, queue_end_in}
use Rattle.trace_fields.specs.Reading.{field, short_in, long_in, moment_in, value_in, task_in, object_in}
use Rattle.trace_fields.specs.Reading.{name_in, text_in, exception_in, finished_in, entry_in, handler_in}
use Rattle.trace_reading.specs.Lines.{lead_in, created_in, who_in, task_line_in, agent_line_in, object_line_in, event_in, moment_and_event_in, line_in}
use Rattle.trace_fields.proofs.FieldsAgain.{has_no, begins, front_again, rest_again, field_again, last_again, decimal_none, number_again, short_again}
use Rattle.trace_fields.proofs.FieldsAgain.{long_again, moment_again, value_again, task_again, object_again, task_none, object_none, name_again, text_again}
use Rattle.trace_fields.proofs.FieldsAgain.{exception_again, finished_again, name_none, entry_again, handler_again, entry_none, deadline_again, deadline_begins}

pub queue_end_again : (end : QueueEnd) → queue_end_in (queue_end_text end) ≡ Some end
queue_end_again Head = refl
queue_end_again Tail = refl

queue_end_none : (end : QueueEnd) → has_no 32 (queue_end_text end) ≡ true
queue_end_none Head = refl
queue_end_none Tail = refl

mode_again : (m : Mode) → mode_in (mode_text m) ≡ Some m
mode_again mode.Read = refl
mode_again mode.Write = refl

waits_again : (w : Waits) → waits_in (waits_text w) ≡ Some w
waits_again waits.Activation = refl
waits_again waits.Delay = refl
waits_again waits.Entry = refl
waits_again waits.Accept = refl
waits_again waits.Select = refl
waits_again waits.Dependents = refl
waits_again waits.Call = refl
waits_again waits.Release = refl

leaves_again : (how : Leaves) → leaves_in (leaves_text how) ≡ Some how
leaves_again leaves.End = refl
leaves_again leaves.Return = refl
leaves_again leaves.Exit = refl
leaves_again leaves.Exception = refl
leaves_again leaves.Abort = refl
leaves_again leaves.Terminate = refl

word_again : (w : Word) → word_in (word_text w) ≡ Some w
word_again word.New = refl
word_again word.Ready = refl
word_again word.Block = refl
word_again word.Run = refl
word_again word.Idle = refl
word_again word.Base = refl
word_again word.Deadline = refl
word_again word.Quantum = refl
word_again word.Done = refl
word_again word.Raise = refl
word_again word.Put = refl
word_again word.Call = refl
word_again word.Start = refl
word_again word.Finish = refl
word_again word.Cancel = refl
word_again word.Gone = refl
word_again word.Enter = refl
word_again word.Exit = refl
word_again word.Held = refl
word_again word.Abort = refl
word_again word.Trigger = refl
word_again word.Leave = refl
word_again word.Init = refl
word_again word.Final = refl
word_again word.Left = refl
word_again word.Replace = refl
word_again word.Release = refl
word_again word.Serve = refl
word_again word.Served = refl
word_again word.Interrupt = refl
word_again word.Port = refl
word_again word.Mask = refl
word_again word.Unmask = refl
word_again word.Masked = refl
word_again word.End = refl

word_none : (w : Word) → has_no 32 (word_text w) ≡ true
word_none word.New = refl
word_none word.Ready = refl
word_none word.Block = refl
word_none word.Run = refl
word_none word.Idle = refl
word_none word.Base = refl
word_none word.Deadline = refl
word_none word.Quantum = refl
word_none word.Done = refl
word_none word.Raise = refl
word_none word.Put = refl
word_none word.Call = refl
word_none word.Start = refl
word_none word.Finish = refl
word_none word.Cancel = refl
word_none word.Gone = refl
word_none word.Enter = refl
word_none word.Exit = refl
word_none word.Held = refl
word_none word.Abort = refl
word_none word.Trigger = refl
word_none word.Leave = refl
word_none word.Init = refl
word_none word.Final = refl
word_none word.Left = refl
word_none word.Replace = refl
word_none word.Release = refl
word_none word.Serve = refl
word_none word.Served = refl
word_none word.Interrupt = refl
word_none word.Port = refl
word_none word.Mask = refl
word_none word.Unmask = refl
word_none word.Masked = refl
word_none word.End = refl

event_word_again : (w : Word) (rest : List ℕ) → begins 32 rest ≡ true → field word_in (32 ∷ (word_text w ++ rest)) ≡ Some (w, rest)
event_word_again w rest b = field_again word_in (word_text w) rest w (word_none w) b (word_again w)

lead_task_again : (task : TaskNo) → task.0 < 2 ^ 32 → lead_in (task_text task) ≡ Some (lead.Task task)
lead_task_again task h = rw (task_again task h) refl

lead_object_again : (object : ObjectNo) → object.0 < 2 ^ 32 → lead_in (object_text object) ≡ Some (lead.Object object)
lead_object_again object h = rw (object_again object h) refl

-- what a task does is read as this
task_line_again : (task : TaskNo) (w : Word) (rest : List ℕ) → task.0 < 2 ^ 32 → begins 32 rest ≡ true
    → event_in (32 ∷ (task_text task ++ (32 ∷ (word_text w ++ rest)))) ≡ task_line_in task w rest
task_line_again task w rest h b =
    rw (field_again lead_in (task_text task) (32 ∷ (word_text w ++ rest)) (lead.Task task) (task_none 32 task (omega arith) h) refl (lead_task_again task h))
    (rw (event_word_again w rest b) refl)

object_line_again : (object : ObjectNo) (w : Word) (rest : List ℕ) → object.0 < 2 ^ 32 → begins 32 rest ≡ true
    → event_in (32 ∷ (object_text object ++ (32 ∷ (word_text w ++ rest)))) ≡ object_line_in object w rest
object_line_again object w rest h b =
    rw (field_again lead_in (object_text object) (32 ∷ (word_text w ++ rest)) (lead.Object object) (object_none 32 object (omega arith) h) refl
    (lead_object_again object h))
    (rw (event_word_again w rest b) refl)

agent_line_again : (w : Word) (rest : List ℕ) → begins 32 rest ≡ true → event_in (32 ∷ (codes "agent" ++ (32 ∷ (word_text w ++ rest)))) ≡ agent_line_in w rest
agent_line_again w rest b = rw (event_word_again w rest b) refl

-- and so is what a task or the agent does
who_line_again : (who : Who) (w : Word) (rest : List ℕ) → IsWhoWithin who → begins 32 rest ≡ true
    → ((task : TaskNo) → task_line_in task w rest ≡ who_in (subject.Task task) w rest) → agent_line_in w rest ≡ who_in subject.Agent w rest
    → event_in (32 ∷ (who_text who ++ (32 ∷ (word_text w ++ rest)))) ≡ who_in who w rest
who_line_again (subject.Task task) w rest h b t a = task_line_again task w rest h b ∙ t task
who_line_again subject.Agent w rest h b t a = agent_line_again w rest b ∙ a

created_again : (what : Created) (name : List ℕ) (level : ℕ) → IsWithin (New what name level) → IsPrintable (New what name level)
    → created_in what (spaced (name ∷ decimal level ∷ [])) ≡ Some (New what name level)
created_again what name level w p =
    rw (field_again name_in name (spaced (decimal level ∷ [])) name (name_none false name p) refl (name_again name p w.1))
    (rw (last_again short_in (decimal level) level (short_again level w.2)) refl)

pub event_again : (event : Event) → IsWithin event → IsPrintable event → event_in (spaced (words_of event)) ≡ Some event
event_again (New (created.Task task) name level) w p =
    task_line_again task word.New (spaced (name ∷ decimal level ∷ [])) w.0 refl ∙ created_again (created.Task task) name level w p
event_again (New (created.Object object) name level) w p =
    object_line_again object word.New (spaced (name ∷ decimal level ∷ [])) w.0 refl ∙ created_again (created.Object object) name level w p
event_again (Ready who level end deadline) w p =
    who_line_again who word.Ready (32 ∷ (decimal level ++ (32 ∷ (queue_end_text end ++ spaced (deadline_words deadline))))) w.0 refl (λ _. refl) refl
    ∙ rw (field_again short_in (decimal level) (32 ∷ (queue_end_text end ++ spaced (deadline_words deadline))) level
    (decimal_none 32 level (omega arith) (omega (arith, w.1))) refl (short_again level w.1))
    (rw (field_again queue_end_in (queue_end_text end) (spaced (deadline_words deadline)) end (queue_end_none end) (deadline_begins deadline)
    (queue_end_again end))
    (rw (deadline_again deadline w.2) refl))
event_again (Block who why) w p =
    who_line_again who word.Block (spaced (waits_text why ∷ [])) w refl (λ _. refl) refl
    ∙ rw (last_again waits_in (waits_text why) why (waits_again why)) refl
event_again (Run who) w p = who_line_again who word.Run ([]) w refl (λ _. refl) refl
event_again Idle w p = refl
event_again (Base task level) w p =
    task_line_again task word.Base (spaced (decimal level ∷ [])) w.0 refl
    ∙ rw (last_again short_in (decimal level) level (short_again level w.1)) refl
event_again (Deadline task deadline) w p =
    task_line_again task word.Deadline (spaced (signed_decimal deadline ∷ [])) w.0 refl
    ∙ rw (last_again moment_in (signed_decimal deadline) deadline (moment_again deadline w.1)) refl
event_again (Quantum task) w p = task_line_again task word.Quantum ([]) w refl
event_again (Done task) w p = task_line_again task word.Done ([]) w refl
event_again (Raise who name) w p =
    who_line_again who word.Raise (spaced (name ∷ [])) w.0 refl (λ _. refl) refl
    ∙ rw (last_again exception_in (name) name (exception_again name p w.1)) refl
event_again (Put who text) w p =
    who_line_again who word.Put (spaced (text ∷ [])) w.0 refl (λ _. refl) refl
    ∙ rw (last_again text_in (text) text (text_again text p)) refl
event_again (Call task call entry priority) w p =
    task_line_again task word.Call (spaced (decimal call.0 ∷ entry_text entry ∷ decimal priority ∷ [])) w.0 refl
    ∙ rw (field_again long_in (decimal call.0) (spaced (entry_text entry ∷ decimal priority ∷ [])) call.0
    (decimal_none 32 call.0 (omega arith) (omega (arith, w.1))) refl (long_again call.0 w.1))
    (rw (field_again entry_in (entry_text entry) (spaced (decimal priority ∷ [])) entry (entry_none entry w.2 p) refl (entry_again entry w.2 p))
    (rw (last_again short_in (decimal priority) priority (short_again priority w.3)) refl))
event_again (Start who call) w p =
    who_line_again who word.Start (spaced (decimal call.0 ∷ [])) w.0 refl (λ _. refl) refl
    ∙ rw (last_again long_in (decimal call.0) call.0 (long_again call.0 w.1)) refl
event_again (Finish who call how) w p =
    who_line_again who word.Finish (spaced (decimal call.0 ∷ finished_text how ∷ [])) w.0 refl (λ _. refl) refl
    ∙ rw (field_again long_in (decimal call.0) (spaced (finished_text how ∷ [])) call.0 (decimal_none 32 call.0 (omega arith) (omega (arith, w.1))) refl
    (long_again call.0 w.1))
    (rw (last_again finished_in (finished_text how) how (finished_again how w.2 p)) refl)
event_again (Cancel task call) w p =
    task_line_again task word.Cancel (spaced (decimal call.0 ∷ [])) w.0 refl
    ∙ rw (last_again long_in (decimal call.0) call.0 (long_again call.0 w.1)) refl
event_again (Gone task call) w p =
    task_line_again task word.Gone (spaced (decimal call.0 ∷ [])) w.0 refl
    ∙ rw (last_again long_in (decimal call.0) call.0 (long_again call.0 w.1)) refl
event_again (Enter who object m) w p =
    who_line_again who word.Enter (spaced (object_text object ∷ mode_text m ∷ [])) w.0 refl (λ _. refl) refl
    ∙ rw
    (field_again object_in (object_text object) (spaced (mode_text m ∷ [])) object (object_none 32 object (omega arith) w.1) refl (object_again object w.1))
    (rw (last_again mode_in (mode_text m) m (mode_again m)) refl)
event_again (Exit who object) w p =
    who_line_again who word.Exit (spaced (object_text object ∷ [])) w.0 refl (λ _. refl) refl
    ∙ rw (last_again object_in (object_text object) object (object_again object w.1)) refl
event_again (Held who object m) w p =
    who_line_again who word.Held (spaced (object_text object ∷ mode_text m ∷ [])) w.0 refl (λ _. refl) refl
    ∙ rw
    (field_again object_in (object_text object) (spaced (mode_text m ∷ [])) object (object_none 32 object (omega arith) w.1) refl (object_again object w.1))
    (rw (last_again mode_in (mode_text m) m (mode_again m)) refl)
event_again (Abort task victim) w p =
    task_line_again task word.Abort (spaced (task_text victim ∷ [])) w.0 refl
    ∙ rw (last_again task_in (task_text victim) victim (task_again victim w.1)) refl
event_again (Trigger task) w p = task_line_again task word.Trigger ([]) w refl
event_again (Leave who region how) w p =
    who_line_again who word.Leave (spaced (decimal region.0 ∷ leaves_text how ∷ [])) w.0 refl (λ _. refl) refl
    ∙ rw (field_again long_in (decimal region.0) (spaced (leaves_text how ∷ [])) region.0 (decimal_none 32 region.0 (omega arith) (omega (arith, w.1))) refl
    (long_again region.0 w.1))
    (rw (last_again leaves_in (leaves_text how) how (leaves_again how)) refl)
event_again (Init who object region name) w p =
    who_line_again who word.Init (spaced (decimal object ∷ decimal region.0 ∷ name ∷ [])) w.0 refl (λ _. refl) refl
    ∙ rw (field_again long_in (decimal object) (spaced (decimal region.0 ∷ name ∷ [])) object (decimal_none 32 object (omega arith) (omega (arith, w.1))) refl
    (long_again object w.1))
    (rw (field_again long_in (decimal region.0) (spaced (name ∷ [])) region.0 (decimal_none 32 region.0 (omega arith) (omega (arith, w.2))) refl
    (long_again region.0 w.2))
    (rw (last_again name_in (name) name (name_again name p w.3)) refl))
event_again (Final who object) w p =
    who_line_again who word.Final (spaced (decimal object ∷ [])) w.0 refl (λ _. refl) refl
    ∙ rw (last_again long_in (decimal object) object (long_again object w.1)) refl
event_again (Left who region) w p =
    who_line_again who word.Left (spaced (decimal region.0 ∷ [])) w.0 refl (λ _. refl) refl
    ∙ rw (last_again long_in (decimal region.0) region.0 (long_again region.0 w.1)) refl
event_again (Replace who object) w p =
    who_line_again who word.Replace (spaced (decimal object ∷ [])) w.0 refl (λ _. refl) refl
    ∙ rw (last_again long_in (decimal object) object (long_again object w.1)) refl
event_again (Release release object handler) w p =
    rw (field_again long_in (decimal release) (spaced ((object_text object ++ 46 ∷ handler) ∷ [])) release
    (decimal_none 32 release (omega arith) (omega (arith, w.0))) refl (long_again release w.0))
    (rw (last_again handler_in (object_text object ++ 46 ∷ handler) (object, handler) (handler_again object handler w.1 w.2 p)) refl)
event_again (Serve release) w p = rw (last_again long_in (decimal release) release (long_again release w)) refl
event_again (Served release) w p = rw (last_again long_in (decimal release) release (long_again release w)) refl
event_again (Interrupt number) w p = rw (last_again short_in (decimal number) number (short_again number w)) refl
event_again (Port number value) w p =
    rw (field_again short_in (decimal number) (spaced (signed_decimal value ∷ [])) number (decimal_none 32 number (omega arith) (omega (arith, w.0))) refl
    (short_again number w.0))
    (rw (last_again value_in (signed_decimal value) value (value_again value w.1)) refl)
event_again (Mask number) w p = rw (last_again short_in (decimal number) number (short_again number w)) refl
event_again (Unmask number) w p = rw (last_again short_in (decimal number) number (short_again number w)) refl
event_again (Masked number) w p = rw (last_again short_in (decimal number) number (short_again number w)) refl
event_again (End ended_variants.Completed) w p = refl
event_again (End (ended_variants.Exception name)) w p = rw (last_again exception_in name name (exception_again name p w)) refl
event_again (End ended_variants.Stuck) w p = refl
event_again (End ended_variants.Bound) w p = refl

spaced_begins : (words : List (List ℕ)) → begins 32 (spaced words) ≡ true
spaced_begins [] = refl
spaced_begins (word ∷ words) = refl

-- the line feed at the end is taken off
feed_again : (front : List ℕ) → line_in (front ++ 10 ∷ []) ≡ moment_and_event_in front
feed_again front =
    let len : length (front ++ 10 ∷ []) ≡ length front + 1 = length-append front (10 ∷ []) in
    let some : eqb (length (front ++ 10 ∷ [])) 0 ≡ false = ne_eqb (length (front ++ 10 ∷ [])) 0 (omega (arith, len)) in
    let at : length (front ++ 10 ∷ []) - 1 ≡ length front = omega (arith, len) in
    let feed : get_or (front ++ 10 ∷ []) (length front) 0 ≡ 10 = get_or_at front 10 [] 0 (length front) refl in
    rw (some, at, feed, take-append_seam front (10 ∷ [])) refl

-- a line is read as its tick and its event
pub line_again : (tick : ℕ) (event : Event) → IsPrintableLine tick event → line_in (line_text tick event) ≡ Some (tick, event)
line_again tick event h =
    let words = spaced (words_of event) in
    let none : has_no 32 (decimal tick) ≡ true = decimal_none 32 tick (omega arith) h.tick_fits in
    let starts : begins 32 words ≡ true = spaced_begins (words_of event) in
    ap line_in (sym (append_assoc (decimal tick) words (10 ∷ []))) ∙ feed_again (decimal tick ++ words)
    ∙ rw (
      front_again 32 (decimal tick) words none starts,
      rest_again 32 (decimal tick) words none starts,
      number_again 18446744073709551615 tick (omega (arith, h.tick_fits)) h.tick_fits,
      event_again event h.within h.printable,
    ) refl
