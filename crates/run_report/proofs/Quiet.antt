-- A task that is not created yet has a fresh tally.
use Rattle.std.proofs.Common.{◌≡◌, ℕ, ◌+◌, ◌&&◌, Bool, true, false, not, if◌then◌else◌, ◌==◌, List, [], ◌∷◌, Option, Some, None, refl, ap, sym, subst, ◌∙◌}
use Rattle.std.specs.List.{list_all}
use Rattle.std.proofs.lemmas.Bool.{and_parts, eqb-true, false_from_ne_true, not-true, not_from_false, or_parts}
use Rattle.ann_base.specs.declared.identities.TaskNo.{TaskNo}
use Rattle.trace_text.specs.declared.events.Who.{Who}
use Rattle.trace_text.specs.declared.events.Who.TheVariants as subject
use Rattle.trace_text.specs.declared.events.Created.TheVariants as created
use Rattle.trace_text.specs.declared.events.Event.{Event}
use Rattle.trace_text.specs.declared.events.Event.TheVariants.{New, Ready, Block, Run, Idle, Base, Done}
use Rattle.trace_text.specs.Queue.{TraceLine, who_eq, somebody_eq, runner_after, seen_from, follows_lines}
use Rattle.trace_text.specs.Laws.{Shape, see_shape, has, is_known, is_ready_formed, is_subject_formed, is_formed_next}
use Rattle.trace_lines.specs.Seen.{Seen, see_line, seen_after}
use Rattle.run_report.specs.declared.tallies.Tally.{Tally}
use Rattle.run_report.specs.declared.tallies.Passing.{Passing}
use Rattle.run_report.specs.declared.tallies.Move.TheVariants.{Enters, Stays}
use Rattle.run_report.specs.Accounts.{chooses_another}
use Rattle.run_report.specs.Kept.{is_put_off, fresh, ticks_if, streak_after, move_of, leaves_if, level_if}
use Rattle.run_report.specs.Kept.{since_after, tail_at, response_at, base_after, passing_in, tally_by, tally_after}
use Rattle.run_report.proofs.TallyOn.{tally_from}

-- the line says nothing of the task
abbrev pub is_quiet : TaskNo → Event → Bool
is_quiet task (New (created.Task other) name level) = not (task.0 == other.0)
is_quiet task (Ready who level end deadline) = not (who_eq who (subject.Task task))
is_quiet task (Run who) = not (who_eq who (subject.Task task))
is_quiet task (Base other level) = not (task.0 == other.0)
is_quiet task _ = true

-- ---- a fresh tally stays so

still_by : (b : Bool) (elapsed : ℕ) → (if b then 0 else (if false then 0 + elapsed else 0)) ≡ 0
still_by true elapsed = refl
still_by false elapsed = refl

still : (elapsed : ℕ) → streak_after elapsed false 0 ≡ 0
still elapsed = still_by (elapsed == 0) elapsed

no_ticks : (b : Bool) (ticks : ℕ) → b ≡ false → ticks_if b ticks ≡ 0
no_ticks b ticks e = ap (λ x. ticks_if x ticks) e

abbrev with_run : TaskNo → ℕ → Event → ℕ → ℕ → Tally
with_run task tick event run preempted = record fresh {
  run = 0 + run;
  preempted = 0 + preempted;
  base = base_after task None event;
  since = since_after (move_of task event) tick None;
  tail = tail_at (move_of task event) tick None;
}

-- what a line leaves of a fresh tally
pub fresh_after : (task : TaskNo) (passing : Passing) (tick : ℕ) (event : Event) → somebody_eq passing.runner (Some (subject.Task task)) ≡ false
    → response_at (move_of task event) tick None ≡ None → since_after (move_of task event) tick None ≡ None →
    tail_at (move_of task event) tick None ≡ None → is_put_off task passing.runner tick event fresh ≡ false
    → tally_after task passing tick event fresh ≡ record fresh { base = base_after task None event }
fresh_after task passing tick event idle response since tail put_off =
    ap (λ r. tally_by task passing tick event fresh r (streak_after passing.elapsed false 0)) response
    ∙ ap (λ s. tally_by task passing tick event fresh None s) (still passing.elapsed)
    ∙ ap (λ n. with_run task tick event n (ticks_if (is_put_off task passing.runner tick event fresh) 1))
    (no_ticks (somebody_eq passing.runner (Some (subject.Task task))) passing.elapsed idle)
    ∙ ap (λ n. with_run task tick event 0 n) (no_ticks (is_put_off task passing.runner tick event fresh) 1 put_off)
    ∙ ap (λ s. record fresh { base = base_after task None event; since = s; tail = tail_at (move_of task event) tick None }) since
    ∙ ap (λ t. record fresh { base = base_after task None event; tail = t }) tail

not_put_off : (a b d : Bool) → (a && b && false && d) ≡ false
not_put_off true true d = refl
not_put_off true false d = refl
not_put_off false b d = refl

fresh_put_off : (task : TaskNo) (runner : Option Who) (tick : ℕ) (event : Event) → is_put_off task runner tick event fresh ≡ false
fresh_put_off task runner tick event = not_put_off (chooses_another task event) (somebody_eq runner (Some (subject.Task task))) true

left_response : (b : Bool) (tick : ℕ) → response_at (leaves_if b) tick None ≡ None
left_response true tick = refl
left_response false tick = refl

left_since : (b : Bool) (tick : ℕ) → since_after (leaves_if b) tick None ≡ None
left_since true tick = refl
left_since false tick = refl

left_tail : (b : Bool) (tick : ℕ) → tail_at (leaves_if b) tick None ≡ None
left_tail true tick = refl
left_tail false tick = refl

stays : (task : TaskNo) (passing : Passing) (tick : ℕ) (event : Event) → somebody_eq passing.runner (Some (subject.Task task)) ≡ false
    → move_of task event ≡ Stays → base_after task None event ≡ None → tally_after task passing tick event fresh ≡ fresh
stays task passing tick event idle move base =
    fresh_after task passing tick event idle (ap (λ m. response_at m tick None) move) (ap (λ m. since_after m tick None) move)
    (ap (λ m. tail_at m tick None) move) (fresh_put_off task passing.runner tick event)
    ∙ ap (λ b. record fresh { base = b }) base

leaves : (task : TaskNo) (passing : Passing) (tick : ℕ) (event : Event) (b : Bool) → somebody_eq passing.runner (Some (subject.Task task)) ≡ false
    → move_of task event ≡ leaves_if b → base_after task None event ≡ None → tally_after task passing tick event fresh ≡ fresh
leaves task passing tick event b idle move base =
    fresh_after task passing tick event idle (ap (λ m. response_at m tick None) move ∙ left_response b tick)
    (ap (λ m. since_after m tick None) move ∙ left_since b tick) (ap (λ m. tail_at m tick None) move ∙ left_tail b tick)
    (fresh_put_off task passing.runner tick event)
    ∙ ap (λ b. record fresh { base = b }) base

pub fresh_quiet : (task : TaskNo) (passing : Passing) (tick : ℕ) (event : Event) → somebody_eq passing.runner (Some (subject.Task task)) ≡ false
    → is_quiet task event ≡ true → tally_after task passing tick event fresh ≡ fresh
fresh_quiet task passing tick (New (created.Task other) name level) idle quiet =
    stays task passing tick (New (created.Task other) name level) idle refl (ap (λ b. level_if b level None) (not-true (task.0 == other.0) quiet))
fresh_quiet task passing tick (Ready who level end deadline) idle quiet =
    stays task passing tick (Ready who level end deadline) idle
    (ap (λ b. if b then Enters end else Stays) (not-true (who_eq who (subject.Task task)) quiet)) refl
fresh_quiet task passing tick (Base other level) idle quiet =
    stays task passing tick (Base other level) idle refl (ap (λ b. level_if b level None) (not-true (task.0 == other.0) quiet))
fresh_quiet task passing tick (Block who why) idle quiet = leaves task passing tick (Block who why) (who_eq who (subject.Task task)) idle refl refl
fresh_quiet task passing tick (Done other) idle quiet = leaves task passing tick (Done other) (other.0 == task.0) idle refl refl
fresh_quiet task passing tick event idle quiet = stays task passing tick event idle refl refl

-- and it does not run
idle_quiet : (task : TaskNo) (runner : Option Who) (event : Event) → somebody_eq runner (Some (subject.Task task)) ≡ false → is_quiet task event ≡ true
    → somebody_eq (runner_after runner event) (Some (subject.Task task)) ≡ false
idle_quiet task runner (Run who) idle quiet = not-true (who_eq who (subject.Task task)) quiet
idle_quiet task runner Idle idle quiet = refl
idle_quiet task runner event idle quiet = idle

pub record IsFresh (task : TaskNo) (seen : Seen) (tally : Tally) : Type 0 where
  pub tally_is : tally ≡ fresh
  pub idle : somebody_eq seen.runner (Some (subject.Task task)) ≡ false

pub quiet_along : (task : TaskNo) (seen : Seen) (lines : List TraceLine) → list_all (λ line. is_quiet task line.1) lines ≡ true
    → somebody_eq seen.runner (Some (subject.Task task)) ≡ false → IsFresh task (seen_after seen lines) (tally_from task seen fresh lines)
quiet_along task seen [] quiet idle = record { tally_is = refl; idle = idle }
quiet_along task seen (line ∷ lines) quiet idle =
    let parts = and_parts (is_quiet task line.1) (list_all (λ line. is_quiet task line.1) lines) quiet in
    let rest = quiet_along task (see_line seen line) lines parts.1 (idle_quiet task seen.runner line.1 idle parts.0) in
    subst (λ tally. IsFresh task (seen_after (see_line seen line) lines) (tally_from task (see_line seen line) tally lines))
    (sym (fresh_quiet task (passing_in seen line.0) line.0 line.1 idle parts.0)) rest

-- ---- in a formed list nothing is said of a task before it is created

named_less : (number : ℕ) (shape : Shape) (event : Event) → has number (see_shape shape event).tasks ≡ false → has number shape.tasks ≡ false
named_less number shape (New (created.Task task) name level) none = (or_parts (number == task.0) (has number shape.tasks) none).1
named_less number shape event none = none

pub named_before : (number : ℕ) (shape : Shape) (lines : List TraceLine) → has number (seen_from see_shape shape lines).tasks ≡ false
    → has number shape.tasks ≡ false
named_before number shape [] none = none
named_before number shape (line ∷ lines) none = named_less number shape line.1 (named_before number (see_shape shape line.1) lines none)

never : (b : Bool) → b ≡ true → b ≡ false → ⊥
never b t f = cc

other_who : (task : TaskNo) (shape : Shape) (who : Who) → is_known shape who ≡ true → has task.0 shape.tasks ≡ false → who_eq who (subject.Task task) ≡ false
other_who task shape (subject.Task other) known none =
    false_from_ne_true (other.0 == task.0) (λ same. never (has other.0 shape.tasks) known (ap (λ n. has n shape.tasks) (eqb-true other.0 task.0 same) ∙ none))
other_who task shape subject.Agent known none = refl

quiet_here : (task : TaskNo) (shape : Shape) (event : Event) → is_subject_formed shape event ≡ true → has task.0 (see_shape shape event).tasks ≡ false
    → is_quiet task event ≡ true
quiet_here task shape (New (created.Task other) name level) formed none =
    not_from_false (task.0 == other.0) (or_parts (task.0 == other.0) (has task.0 shape.tasks) none).0
quiet_here task shape (Ready who level end deadline) formed none =
    not_from_false (who_eq who (subject.Task task)) (other_who task shape who (and_parts (is_known shape who) (is_ready_formed who deadline) formed).0 none)
quiet_here task shape (Run who) formed none = not_from_false (who_eq who (subject.Task task)) (other_who task shape who formed none)
quiet_here task shape (Base other level) formed none =
    not_from_false (task.0 == other.0)
    (false_from_ne_true (task.0 == other.0)
    (λ same. never (has other.0 shape.tasks) formed (ap (λ n. has n shape.tasks) (sym (eqb-true task.0 other.0 same)) ∙ none)))
quiet_here task shape event formed none = refl

pub quiet_before : (task : TaskNo) (shape : Shape) (lines : List TraceLine) → follows_lines see_shape is_formed_next shape lines ≡ true
    → has task.0 (seen_from see_shape shape lines).tasks ≡ false → list_all (λ line. is_quiet task line.1) lines ≡ true
quiet_before task shape [] formed none = refl
quiet_before task shape (line ∷ lines) formed none =
    let parts = and_parts (is_formed_next shape line.1) (follows_lines see_shape is_formed_next (see_shape shape line.1) lines) formed in
    let subject_formed = (and_parts (not shape.is_ended) (is_subject_formed shape line.1) parts.0).1 in
    let here = quiet_here task shape line.1 subject_formed (named_before task.0 (see_shape shape line.1) lines none) in
    ap (λ b. b && list_all (λ line. is_quiet task line.1) lines) here ∙ quiet_before task (see_shape shape line.1) lines parts.1 none
