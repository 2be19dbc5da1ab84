-- The jobs, the preemptions and the last placing of a task with one line more.
use Rattle.std.proofs.Common.{◌≡◌, ℕ, ◌+◌, max, Bool, true, false, if◌then◌else◌, ◌==◌, List, [], ◌∷◌, ◌++◌, Option}
use Rattle.std.proofs.Common.{Some, None, is_some, length, refl, ap, sym, ◌∙◌, append_assoc, append-nil, arith}
use Rattle.std.specs.Prelude.{unwrap_or}
use Rattle.std.specs.Option.{option_to_list}
use Rattle.ann_base.specs.declared.identities.TaskNo.{TaskNo}
use Rattle.trace_text.specs.declared.events.Who.TheVariants as subject
use Rattle.trace_text.specs.declared.events.Entry.{Entry}
use Rattle.trace_text.specs.declared.events.QueueEnd.{QueueEnd}
use Rattle.trace_text.specs.declared.events.QueueEnd.TheVariants.{Head, Tail}
use Rattle.trace_text.specs.declared.events.Event.{Event}
use Rattle.trace_text.specs.declared.events.Event.TheVariants.{Ready, Block, Done}
use Rattle.trace_text.specs.Queue.{TraceLine, who_eq, queue_after}
use Rattle.trace_lines.specs.Seen.{Seen, see_line, seen_after}
use Rattle.run_report.specs.declared.tallies.Move.{Move}
use Rattle.run_report.specs.declared.tallies.Move.TheVariants.{Enters, Leaves, Stays}
use Rattle.run_report.specs.Accounts.{is_in, since_by, response_by, responses_from, greatest, total, tail_after, tail_from, is_preempted, preemptions_from}
use Rattle.run_report.specs.Kept.{ticks_if, move_of, leaves_if, since_after, tail_at, response_at}
use Rattle.run_report.proofs.Moves.{after_move}

-- ---- jobs

abbrev pub since_from : TaskNo → List Entry → Option ℕ → List TraceLine → Option ℕ
since_from task queue since [] = since
since_from task queue since (line ∷ lines) =
    since_from task (queue_after queue line.1) (since_by (is_in task queue) (is_in task (queue_after queue line.1)) line.0 since) lines

pub since_from-append : (task : TaskNo) (seen : Seen) (since : Option ℕ) (lines : List TraceLine) (line : TraceLine)
    → since_from task seen.queue since (lines ++ line ∷ []) ≡
    since_by (is_in task (seen_after seen lines).queue) (is_in task (queue_after (seen_after seen lines).queue line.1)) line.0
    (since_from task seen.queue since lines)
since_from-append task seen since [] line = refl
since_from-append task seen since (first ∷ lines) line =
    since_from-append task (see_line seen first) (since_by (is_in task seen.queue) (is_in task (queue_after seen.queue first.1)) first.0 since) lines line

pub responses-append : (task : TaskNo) (seen : Seen) (since : Option ℕ) (lines : List TraceLine) (line : TraceLine)
    → responses_from task seen.queue since (lines ++ line ∷ []) ≡
    responses_from task seen.queue since lines
    ++ response_by (is_in task (seen_after seen lines).queue) (is_in task (queue_after (seen_after seen lines).queue line.1)) line.0
    (since_from task seen.queue since lines)
responses-append task seen since [] line = append-nil (response_by (is_in task seen.queue) (is_in task (queue_after seen.queue line.1)) line.0 since)
responses-append task seen since (first ∷ lines) line =
    let ended = response_by (is_in task seen.queue) (is_in task (queue_after seen.queue first.1)) first.0 since in
    let begun = since_by (is_in task seen.queue) (is_in task (queue_after seen.queue first.1)) first.0 since in
    ap (λ xs. ended ++ xs) (responses-append task (see_line seen first) begun lines line)
    ∙ sym (append_assoc ended (responses_from task (see_line seen first).queue begun lines)
    (response_by (is_in task (seen_after (see_line seen first) lines).queue)
    (is_in task (queue_after (seen_after (see_line seen first) lines).queue line.1)) line.0 (since_from task (see_line seen first).queue begun lines)))

-- by the move of the line
pub response_moved : (move : Move) (before : Bool) (tick : ℕ) (since : Option ℕ) → is_some since ≡ before
    → response_by before (after_move move before) tick since ≡ option_to_list (response_at move tick since)
response_moved (Enters end) true tick since e = refl
response_moved (Enters end) false tick since e = refl
response_moved Leaves true tick None e = refl
response_moved Leaves true tick (Some begun) e = refl
response_moved Leaves false tick None e = refl
response_moved Leaves false tick (Some begun) e = cc
response_moved Stays true tick since e = refl
response_moved Stays false tick since e = refl

pub since_moved : (move : Move) (before : Bool) (tick : ℕ) (since : Option ℕ) → is_some since ≡ before
    → since_by before (after_move move before) tick since ≡ since_after move tick since
since_moved (Enters end) true tick None e = cc
since_moved (Enters end) true tick (Some begun) e = refl
since_moved (Enters end) false tick None e = refl
since_moved (Enters end) false tick (Some begun) e = cc
since_moved Leaves true tick since e = refl
since_moved Leaves false tick None e = refl
since_moved Leaves false tick (Some begun) e = cc
since_moved Stays true tick since e = refl
since_moved Stays false tick since e = refl

pub ready_moved : (move : Move) (before : Bool) (tick : ℕ) (since : Option ℕ) → is_some since ≡ before
    → is_some (since_after move tick since) ≡ after_move move before
ready_moved (Enters end) before tick since e = refl
ready_moved Leaves before tick since e = refl
ready_moved Stays before tick since e = e

pub length_more : (ns : List ℕ) (more : Option ℕ) → length (ns ++ option_to_list more) ≡ length ns + ticks_if (is_some more) 1
length_more [] None = refl
length_more [] (Some n) = refl
length_more (first ∷ ns) more = omega (arith, length_more ns more)

pub greatest_more : (ns : List ℕ) (more : Option ℕ) → greatest (ns ++ option_to_list more) ≡ max (greatest ns) (unwrap_or more 0)
greatest_more [] None = refl
greatest_more [] (Some n) = omega arith
greatest_more (first ∷ ns) more = omega (arith, greatest_more ns more)

pub total_more : (ns : List ℕ) (more : Option ℕ) → total (ns ++ option_to_list more) ≡ total ns + unwrap_or more 0
total_more [] None = refl
total_more [] (Some n) = omega arith
total_more (first ∷ ns) more = omega (arith, total_more ns more)

-- ---- the last placing behind all

abbrev tail_for : Bool → QueueEnd → ℕ → Option ℕ → Option ℕ
tail_for b Head tick tail = tail
tail_for b Tail tick tail = if b then Some tick else tail

tail_by : (b : Bool) (end : QueueEnd) (tick : ℕ) (tail : Option ℕ) → tail_at (if b then Enters end else Stays) tick tail ≡ tail_for b end tick tail
tail_by true Head tick tail = refl
tail_by true Tail tick tail = refl
tail_by false Head tick tail = refl
tail_by false Tail tick tail = refl

tail_left : (b : Bool) (tick : ℕ) (tail : Option ℕ) → tail_at (leaves_if b) tick tail ≡ tail
tail_left true tick tail = refl
tail_left false tick tail = refl

pub tail_moved : (task : TaskNo) (tail : Option ℕ) (tick : ℕ) (event : Event) → tail_at (move_of task event) tick tail ≡ tail_after task tail (tick, event)
tail_moved task tail tick (Ready who level Head deadline) = tail_by (who_eq who (subject.Task task)) Head tick tail
tail_moved task tail tick (Ready who level Tail deadline) = tail_by (who_eq who (subject.Task task)) Tail tick tail
tail_moved task tail tick (Block who why) = tail_left (who_eq who (subject.Task task)) tick tail
tail_moved task tail tick (Done other) = tail_left (other.0 == task.0) tick tail
tail_moved task tail tick event = refl

pub tail_from-append : (task : TaskNo) (tail : Option ℕ) (lines : List TraceLine) (line : TraceLine)
    → tail_from task tail (lines ++ line ∷ []) ≡ tail_after task (tail_from task tail lines) line
tail_from-append task tail [] line = refl
tail_from-append task tail (first ∷ lines) line = tail_from-append task (tail_after task tail first) lines line

-- ---- preemptions

one_if : (b : Bool) (x : ℕ) → (if b then 1 else 0) + 0 ≡ 0 + ticks_if b 1
one_if true x = refl
one_if false x = refl

sum_assoc : (a b c : ℕ) → a + (b + c) ≡ (a + b) + c
sum_assoc a b c = omega arith

pub preemptions-append : (task : TaskNo) (before lines : List TraceLine) (line : TraceLine)
    → preemptions_from task before (lines ++ line ∷ []) ≡ preemptions_from task before lines + ticks_if (is_preempted task (before ++ lines) line) 1
preemptions-append task before [] line =
    one_if (is_preempted task before line) 0 ∙ ap (λ ls. 0 + ticks_if (is_preempted task ls line) 1) (sym (append-nil before))
preemptions-append task before (first ∷ lines) line =
    let here : ℕ = if is_preempted task before first then 1 else 0 in
    let rest =
    preemptions-append task (before ++ first ∷ []) lines line
    ∙ ap (λ ls. preemptions_from task (before ++ first ∷ []) lines + ticks_if (is_preempted task ls line) 1) (append_assoc before (first ∷ []) lines) in
    ap (λ n. here + n) rest
    ∙ sum_assoc here (preemptions_from task (before ++ first ∷ []) lines) (ticks_if (is_preempted task (before ++ first ∷ lines) line) 1)
