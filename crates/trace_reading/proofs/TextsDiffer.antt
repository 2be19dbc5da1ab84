-- Different printable lines have different texts, and so have different lists of them.
use Rattle.std.proofs.Common.{◌≡◌, ℕ, ◌<◌, ◌^◌, Bool, true, false, List, [], ◌∷◌, ◌++◌, length, Option, Some, None, decimal, codes, refl, ap, sym, ◌∙◌, arith}
use Rattle.std.specs.Fmt.{signed_decimal}
use Rattle.std.proofs.Common.{append_assoc, length-append}
use Rattle.ann_base.specs.declared.identities.TaskNo.{TaskNo}
use Rattle.ann_base.specs.declared.identities.ObjectNo.{ObjectNo}
use Rattle.trace_text.specs.declared.events.Who.{Who}
use Rattle.trace_text.specs.declared.events.Who.TheVariants as subject
use Rattle.trace_text.specs.declared.events.Created.{Created}
use Rattle.trace_text.specs.declared.events.Created.TheVariants as created
use Rattle.trace_text.specs.declared.events.QueueEnd.{QueueEnd}
use Rattle.trace_text.specs.declared.events.QueueEnd.TheVariants.{Head, Tail}
use Rattle.trace_text.specs.declared.events.Waits.{Waits}
use Rattle.trace_text.specs.declared.events.Waits.TheVariants as waits
use Rattle.trace_text.specs.declared.events.Mode.{Mode}
use Rattle.trace_text.specs.declared.events.Mode.TheVariants as mode
use Rattle.trace_text.specs.declared.events.Leaves.{Leaves}
use Rattle.trace_text.specs.declared.events.Leaves.TheVariants as leaves
use Rattle.trace_text.specs.declared.events.Ended.{Ended}
use Rattle.trace_text.specs.declared.events.Ended.TheVariants as ended_variants
use Rattle.trace_text.specs.declared.events.Event.{Event}
use Rattle.trace_text.specs.declared.events.Event.TheVariants.{New, Ready, Block, Run, Idle, Base, Deadline, Quantum, Done, Raise, Put, Call}
use Rattle.trace_text.specs.declared.events.Event.TheVariants.{Start, Finish, Cancel, Gone, Enter, Exit, Held, Abort, Trigger, Leave, Init, Final}
use Rattle.trace_text.specs.declared.events.Event.TheVariants.{Left, Replace, Release, Serve, Served, Interrupt, Port, Mask, Unmask, Masked, End}
use Rattle.trace_text.specs.Text.{IsPrintable, IsWithin, IsWhoWithin, IsCreatedWithin, IsEndedPrintable, IsPrintableLine}
use Rattle.trace_text.specs.Text.{words_of, spaced, line_text, task_text, object_text, who_text, created_text, queue_end_text}
use Rattle.trace_text.specs.Text.{waits_text, mode_text, leaves_text, entry_text, finished_text, deadline_words, ended_words}
use Rattle.std.proofs.Common.{unwrap_or, pos, negsuc, suc, ℤ, FitsSigned, w32, w64}
use Rattle.std.specs.Int.Signed.{mag}
use Rattle.std.specs.List.{list_all}
use Rattle.std.proofs.lemmas.Bool.Decides.{nat_tests}
use Rattle.std.proofs.lemmas.Fmt.{decimal_nonempty}
use Rattle.trace_text.specs.declared.events.EntryName.{EntryName}
use Rattle.trace_text.specs.declared.events.EntryName.TheVariants.{OfTask, OfObject}
use Rattle.trace_text.specs.declared.events.Finished.{Finished}
use Rattle.trace_text.specs.declared.events.Finished.TheVariants as finished
use Rattle.trace_text.specs.Text.{IsEntryWithin, IsEntryPrintable, IsFinishedPrintable, IsDeadlineWithin, ArePrintable, text_of, is_name_from, is_text_byte}
use Rattle.trace_reading.specs.Lines.{line_in}
use Rattle.trace_fields.specs.Reading.{front_of, rest_of}
use Rattle.trace_fields.proofs.FieldsAgain.{has_no, has_no-append, front_again, rest_again, decimal_none, task_none, object_none}
use Rattle.trace_reading.proofs.LinesAgain.{line_again}

-- a line that is read is read as one tick and one event
line_pair : (l m : ℕ × Event) → IsPrintableLine l.0 l.1 → IsPrintableLine m.0 m.1 → line_text l.0 l.1 ≡ line_text m.0 m.1 → l ≡ m
line_pair l m h k same =
    let both : Some l ≡ Some m = sym (line_again l.0 l.1 h) ∙ ap line_in same ∙ line_again m.0 m.1 k in
    ap (λ (o : Option (ℕ × Event)). unwrap_or o l) both

pub line-same : (t u : ℕ) (e f : Event) → IsPrintableLine t e → IsPrintableLine u f → line_text t e ≡ line_text u f → (t ≡ u) × (e ≡ f)
line-same t u e f h k same =
    let pairs = line_pair (t, e) (u, f) h k same in
    (ap (λ (l : ℕ × Event). l.0) pairs, ap (λ (l : ℕ × Event). l.1) pairs)

-- no word has a line feed
name_free : (begun : Bool) (name : List ℕ) → is_name_from begun name ≡ true → has_no 10 name ≡ true
name_free begun [] h = refl
name_free begun (byte ∷ name) h = grind (arith, nat_tests, name_free true name, name_free false name)

text_free : (text : List ℕ) → list_all is_text_byte text ≡ true → has_no 10 text ≡ true
text_free [] h = refl
text_free (byte ∷ text) h = grind (arith, nat_tests, text_free text)

number_free : (n : ℕ) → n < 2 ^ 64 → has_no 10 (decimal n) ≡ true
number_free n h = decimal_none 10 n (omega arith) h

short_free : (n : ℕ) → n < 2 ^ 8 → has_no 10 (decimal n) ≡ true
short_free n h = number_free n (omega arith)

long_free : (n : ℕ) → n < 2 ^ 32 → has_no 10 (decimal n) ≡ true
long_free n h = number_free n (omega arith)

signed_free : (z : ℤ) → mag z < 2 ^ 63 → has_no 10 (signed_decimal z) ≡ true
signed_free (pos n) h = number_free n (omega arith)
signed_free (negsuc n) h = number_free (suc n) (omega arith)

moment_free : (z : ℤ) → FitsSigned w64 z → has_no 10 (signed_decimal z) ≡ true
moment_free z h = signed_free z h.sfits

value_free : (z : ℤ) → FitsSigned w32 z → has_no 10 (signed_decimal z) ≡ true
value_free z h = signed_free z (omega (arith, h.sfits))

task_free : (task : TaskNo) → task.0 < 2 ^ 32 → has_no 10 (task_text task) ≡ true
task_free task h = task_none 10 task (omega arith) h

object_free : (object : ObjectNo) → object.0 < 2 ^ 32 → has_no 10 (object_text object) ≡ true
object_free object h = object_none 10 object (omega arith) h

who_free : (who : Who) → IsWhoWithin who → has_no 10 (who_text who) ≡ true
who_free (subject.Task task) h = task_free task h
who_free subject.Agent h = refl

created_free : (what : Created) → IsCreatedWithin what → has_no 10 (created_text what) ≡ true
created_free (created.Task task) h = task_free task h
created_free (created.Object object) h = object_free object h

entry_free : (entry : EntryName) → IsEntryWithin entry → IsEntryPrintable entry → has_no 10 (entry_text entry) ≡ true
entry_free (OfTask task name) w p = has_no-append 10 (task_text task) (46 ∷ name) (task_free task w.0) (name_free false name p)
entry_free (OfObject object name) w p = has_no-append 10 (object_text object) (46 ∷ name) (object_free object w.0) (name_free false name p)

finished_free : (how : Finished) → IsFinishedPrintable how → has_no 10 (finished_text how) ≡ true
finished_free finished.Ok p = refl
finished_free (finished.Raised name) p = name_free false name p.name_is
finished_free finished.Requeue p = refl

queue_end_free : (end : QueueEnd) → has_no 10 (queue_end_text end) ≡ true
queue_end_free Head = refl
queue_end_free Tail = refl

mode_free : (m : Mode) → has_no 10 (mode_text m) ≡ true
mode_free mode.Read = refl
mode_free mode.Write = refl

waits_free : (w : Waits) → has_no 10 (waits_text w) ≡ true
waits_free waits.Activation = refl
waits_free waits.Delay = refl
waits_free waits.Entry = refl
waits_free waits.Accept = refl
waits_free waits.Select = refl
waits_free waits.Dependents = refl
waits_free waits.Call = refl
waits_free waits.Release = refl

leaves_free : (how : Leaves) → has_no 10 (leaves_text how) ≡ true
leaves_free leaves.End = refl
leaves_free leaves.Return = refl
leaves_free leaves.Exit = refl
leaves_free leaves.Exception = refl
leaves_free leaves.Abort = refl
leaves_free leaves.Terminate = refl

with : (word : List ℕ) (words : List (List ℕ)) → has_no 10 word ≡ true → has_no 10 (spaced words) ≡ true → has_no 10 (spaced (word ∷ words)) ≡ true
with word words h k = has_no-append 10 word (spaced words) h k

deadline_free : (deadline : Option ℤ) → IsDeadlineWithin deadline → has_no 10 (spaced (deadline_words deadline)) ≡ true
deadline_free None w = refl
deadline_free (Some z) w = with (signed_decimal z) [] (moment_free z w) refl

ended_free : (why : Ended) → IsEndedPrintable why → has_no 10 (spaced (ended_words why)) ≡ true
ended_free ended_variants.Completed p = refl
ended_free (ended_variants.Exception name) p = with (codes "exception") (name ∷ []) refl (with name [] (name_free false name p.name_is) refl)
ended_free ended_variants.Stuck p = refl
ended_free ended_variants.Bound p = refl

words_free : (event : Event) → IsWithin event → IsPrintable event → has_no 10 (spaced (words_of event)) ≡ true
words_free (New what name level) w p =
    with (created_text what) (codes "new" ∷ name ∷ decimal level ∷ []) (created_free what w.0)
    (with (codes "new") (name ∷ decimal level ∷ []) (refl)
    (with (name) (decimal level ∷ []) (name_free false name p) (with (decimal level) [] (short_free level w.2) refl)))
words_free (Ready who level end deadline) w p =
    with (who_text who) (codes "ready" ∷ decimal level ∷ queue_end_text end ∷ deadline_words deadline) (who_free who w.0)
    (with (codes "ready") (decimal level ∷ queue_end_text end ∷ deadline_words deadline) (refl)
    (with (decimal level) (queue_end_text end ∷ deadline_words deadline) (short_free level w.1)
    (with (queue_end_text end) (deadline_words deadline) (queue_end_free end) (deadline_free deadline w.2))))
words_free (Block who why) w p =
    with (who_text who) (codes "block" ∷ waits_text why ∷ []) (who_free who w)
    (with (codes "block") (waits_text why ∷ []) (refl) (with (waits_text why) [] (waits_free why) refl))
words_free (Run who) w p = with (who_text who) (codes "run" ∷ []) (who_free who w) (with (codes "run") [] (refl) refl)
words_free Idle w p = refl
words_free (Base task level) w p =
    with (task_text task) (codes "base" ∷ decimal level ∷ []) (task_free task w.0)
    (with (codes "base") (decimal level ∷ []) (refl) (with (decimal level) [] (short_free level w.1) refl))
words_free (Deadline task deadline) w p =
    with (task_text task) (codes "deadline" ∷ signed_decimal deadline ∷ []) (task_free task w.0)
    (with (codes "deadline") (signed_decimal deadline ∷ []) (refl) (with (signed_decimal deadline) [] (moment_free deadline w.1) refl))
words_free (Quantum task) w p = with (task_text task) (codes "quantum" ∷ []) (task_free task w) (with (codes "quantum") [] (refl) refl)
words_free (Done task) w p = with (task_text task) (codes "done" ∷ []) (task_free task w) (with (codes "done") [] (refl) refl)
words_free (Raise who name) w p =
    with (who_text who) (codes "raise" ∷ name ∷ []) (who_free who w.0)
    (with (codes "raise") (name ∷ []) (refl) (with (name) [] (name_free false name p.name_is) refl))
words_free (Put who text) w p =
    with (who_text who) (codes "put" ∷ text ∷ []) (who_free who w.0) (with (codes "put") (text ∷ []) (refl) (with (text) [] (text_free text p.bytes) refl))
words_free (Call task call entry priority) w p =
    with (task_text task) (codes "call" ∷ decimal call.0 ∷ entry_text entry ∷ decimal priority ∷ []) (task_free task w.0)
    (with (codes "call") (decimal call.0 ∷ entry_text entry ∷ decimal priority ∷ []) (refl)
    (with (decimal call.0) (entry_text entry ∷ decimal priority ∷ []) (long_free call.0 w.1)
    (with (entry_text entry) (decimal priority ∷ []) (entry_free entry w.2 p) (with (decimal priority) [] (short_free priority w.3) refl))))
words_free (Start who call) w p =
    with (who_text who) (codes "start" ∷ decimal call.0 ∷ []) (who_free who w.0)
    (with (codes "start") (decimal call.0 ∷ []) (refl) (with (decimal call.0) [] (long_free call.0 w.1) refl))
words_free (Finish who call how) w p =
    with (who_text who) (codes "finish" ∷ decimal call.0 ∷ finished_text how ∷ []) (who_free who w.0)
    (with (codes "finish") (decimal call.0 ∷ finished_text how ∷ []) (refl)
    (with (decimal call.0) (finished_text how ∷ []) (long_free call.0 w.1) (with (finished_text how) [] (finished_free how p) refl)))
words_free (Cancel task call) w p =
    with (task_text task) (codes "cancel" ∷ decimal call.0 ∷ []) (task_free task w.0)
    (with (codes "cancel") (decimal call.0 ∷ []) (refl) (with (decimal call.0) [] (long_free call.0 w.1) refl))
words_free (Gone task call) w p =
    with (task_text task) (codes "gone" ∷ decimal call.0 ∷ []) (task_free task w.0)
    (with (codes "gone") (decimal call.0 ∷ []) (refl) (with (decimal call.0) [] (long_free call.0 w.1) refl))
words_free (Enter who object m) w p =
    with (who_text who) (codes "enter" ∷ object_text object ∷ mode_text m ∷ []) (who_free who w.0)
    (with (codes "enter") (object_text object ∷ mode_text m ∷ []) (refl)
    (with (object_text object) (mode_text m ∷ []) (object_free object w.1) (with (mode_text m) [] (mode_free m) refl)))
words_free (Exit who object) w p =
    with (who_text who) (codes "exit" ∷ object_text object ∷ []) (who_free who w.0)
    (with (codes "exit") (object_text object ∷ []) (refl) (with (object_text object) [] (object_free object w.1) refl))
words_free (Held who object m) w p =
    with (who_text who) (codes "held" ∷ object_text object ∷ mode_text m ∷ []) (who_free who w.0)
    (with (codes "held") (object_text object ∷ mode_text m ∷ []) (refl)
    (with (object_text object) (mode_text m ∷ []) (object_free object w.1) (with (mode_text m) [] (mode_free m) refl)))
words_free (Abort task victim) w p =
    with (task_text task) (codes "abort" ∷ task_text victim ∷ []) (task_free task w.0)
    (with (codes "abort") (task_text victim ∷ []) (refl) (with (task_text victim) [] (task_free victim w.1) refl))
words_free (Trigger task) w p = with (task_text task) (codes "trigger" ∷ []) (task_free task w) (with (codes "trigger") [] (refl) refl)
words_free (Leave who region how) w p =
    with (who_text who) (codes "leave" ∷ decimal region.0 ∷ leaves_text how ∷ []) (who_free who w.0)
    (with (codes "leave") (decimal region.0 ∷ leaves_text how ∷ []) (refl)
    (with (decimal region.0) (leaves_text how ∷ []) (long_free region.0 w.1) (with (leaves_text how) [] (leaves_free how) refl)))
words_free (Init who object region name) w p =
    with (who_text who) (codes "init" ∷ decimal object ∷ decimal region.0 ∷ name ∷ []) (who_free who w.0)
    (with (codes "init") (decimal object ∷ decimal region.0 ∷ name ∷ []) (refl)
    (with (decimal object) (decimal region.0 ∷ name ∷ []) (long_free object w.1)
    (with (decimal region.0) (name ∷ []) (long_free region.0 w.2) (with (name) [] (name_free false name p) refl))))
words_free (Final who object) w p =
    with (who_text who) (codes "final" ∷ decimal object ∷ []) (who_free who w.0)
    (with (codes "final") (decimal object ∷ []) (refl) (with (decimal object) [] (long_free object w.1) refl))
words_free (Left who region) w p =
    with (who_text who) (codes "left" ∷ decimal region.0 ∷ []) (who_free who w.0)
    (with (codes "left") (decimal region.0 ∷ []) (refl) (with (decimal region.0) [] (long_free region.0 w.1) refl))
words_free (Replace who object) w p =
    with (who_text who) (codes "replace" ∷ decimal object ∷ []) (who_free who w.0)
    (with (codes "replace") (decimal object ∷ []) (refl) (with (decimal object) [] (long_free object w.1) refl))
words_free (Release release object handler) w p =
    with (codes "release") (decimal release ∷ (object_text object ++ 46 ∷ handler) ∷ []) (refl)
    (with (decimal release) ((object_text object ++ 46 ∷ handler) ∷ []) (long_free release w.0)
    (with ((object_text object ++ 46 ∷ handler)) []
    (has_no-append 10 (object_text object) (46 ∷ handler) (object_free object w.1) (name_free false handler p)) refl))
words_free (Serve release) w p =
    with (codes "agent") (codes "serve" ∷ decimal release ∷ []) (refl)
    (with (codes "serve") (decimal release ∷ []) (refl) (with (decimal release) [] (long_free release w) refl))
words_free (Served release) w p =
    with (codes "agent") (codes "served" ∷ decimal release ∷ []) (refl)
    (with (codes "served") (decimal release ∷ []) (refl) (with (decimal release) [] (long_free release w) refl))
words_free (Interrupt number) w p = with (codes "interrupt") (decimal number ∷ []) (refl) (with (decimal number) [] (short_free number w) refl)
words_free (Port number value) w p =
    with (codes "port") (decimal number ∷ signed_decimal value ∷ []) (refl)
    (with (decimal number) (signed_decimal value ∷ []) (short_free number w.0) (with (signed_decimal value) [] (value_free value w.1) refl))
words_free (Mask number) w p = with (codes "mask") (decimal number ∷ []) (refl) (with (decimal number) [] (short_free number w) refl)
words_free (Unmask number) w p = with (codes "unmask") (decimal number ∷ []) (refl) (with (decimal number) [] (short_free number w) refl)
words_free (Masked number) w p = with (codes "masked") (decimal number ∷ []) (refl) (with (decimal number) [] (short_free number w) refl)
words_free (End why) w p = with (codes "end") (ended_words why) (refl) (ended_free why p)

-- a line up to its line feed
front_text : ℕ → Event → List ℕ
front_text tick event = decimal tick ++ spaced (words_of event)

front_free : (tick : ℕ) (event : Event) → IsPrintableLine tick event → has_no 10 (front_text tick event) ≡ true
unfolding front_text
front_free tick event h = has_no-append 10 (decimal tick) (spaced (words_of event)) (number_free tick h.tick_fits) (words_free event h.within h.printable)

line-parts : (tick : ℕ) (event : Event) (rest : List ℕ) → line_text tick event ++ rest ≡ front_text tick event ++ 10 ∷ rest
unfolding front_text
line-parts tick event rest = simp append_assoc

line_from_front : (tick : ℕ) (event : Event) → line_text tick event ≡ front_text tick event ++ 10 ∷ []
unfolding front_text
line_from_front tick event = simp append_assoc

-- Two texts with a line in front begin with the same line and go on alike.
same_front : (t u : ℕ) (e f : Event) (x y : List ℕ) → IsPrintableLine t e → IsPrintableLine u f → line_text t e ++ x ≡ line_text u f ++ y
    → (line_text t e ≡ line_text u f) × (x ≡ y)
same_front t u e f x y h k same =
    let parts : front_text t e ++ 10 ∷ x ≡ front_text u f ++ 10 ∷ y = sym (line-parts t e x) ∙ same ∙ line-parts u f y in
    let fronts : front_text t e ≡ front_text u f =
    sym (front_again 10 (front_text t e) (10 ∷ x) (front_free t e h) refl) ∙ ap (front_of 10) parts
    ∙ front_again 10 (front_text u f) (10 ∷ y) (front_free u f k) refl in
    let rests : 10 ∷ x ≡ 10 ∷ y =
    sym (rest_again 10 (front_text t e) (10 ∷ x) (front_free t e h) refl) ∙ ap (rest_of 10) parts
    ∙ rest_again 10 (front_text u f) (10 ∷ y) (front_free u f k) refl in
    (line_from_front t e ∙ ap (λ front. front ++ 10 ∷ []) fronts ∙ sym (line_from_front u f), cc)

line-some : (tick : ℕ) (event : Event) (rest : List ℕ) → IsPrintableLine tick event → line_text tick event ++ rest ≡ [] → ⊥
line-some tick event rest h e =
    omega (
      arith,
      ap length e,
      length-append (line_text tick event) rest,
      length-append (decimal tick) (spaced (words_of event) ++ 10 ∷ []),
      decimal_nonempty tick h.tick_fits,
    )

pub text-same : (a b : List (ℕ × Event)) → ArePrintable a → ArePrintable b → text_of a ≡ text_of b → a ≡ b
text-same [] [] h k e = refl
text-same [] (m ∷ ms) h k e = absurd (line-some m.0 m.1 (text_of ms) k.0 (sym e))
text-same (l ∷ ls) [] h k e = absurd (line-some l.0 l.1 (text_of ls) h.0 e)
text-same (l ∷ ls) (m ∷ ms) h k e =
    let split : (line_text l.0 l.1 ≡ line_text m.0 m.1) × (text_of ls ≡ text_of ms) = same_front l.0 m.0 l.1 m.1 (text_of ls) (text_of ms) h.0 k.0 e in
    let first : l ≡ m = line_pair l m h.0 k.0 split.0 in
    let rest : ls ≡ ms = text-same ls ms h.1 k.1 split.1 in
    cc
