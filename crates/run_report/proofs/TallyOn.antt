-- The tally of a task is what the list shows of it.
use Rattle.std.proofs.Common.{unwrap_or, ◌≡◌, ◌≤◌, ℕ, ◌+◌, ◌-◌, ◌&&◌, max, not, List, [], ◌∷◌, ◌++◌, Option}
use Rattle.std.proofs.Common.{Some, None, is_some, length, refl, ap, sym, subst, ◌∙◌, append_assoc, append-nil}
use Rattle.std.specs.Option.{option_to_list}
use Rattle.ann_base.specs.declared.identities.TaskNo.{TaskNo}
use Rattle.trace_text.specs.declared.events.Who.TheVariants as subject
use Rattle.trace_text.specs.declared.events.Created.TheVariants as created
use Rattle.trace_text.specs.declared.events.Event.{Event}
use Rattle.trace_text.specs.declared.events.Event.TheVariants.{New, Base}
use Rattle.trace_text.specs.Queue.{TraceLine, RisesFrom, somebody_eq, last_from}
use Rattle.trace_text.specs.Laws.{level_of}
use Rattle.trace_lines.specs.Seen.{Seen, nothing_kept, see_line, seen_after, seen_of, kept_bases}
use Rattle.trace_lines.proofs.Facts.{seen_after-append, tick_kept}
use Rattle.trace_lines.proofs.LevelLookups.{level_of-insert_entry}
use Rattle.run_report.specs.declared.tallies.Tally.{Tally}
use Rattle.run_report.specs.Accounts.{since_by, response_by, tail_after, is_in, is_runner, is_lower, is_lowered, is_tick, runner_base, chooses_another, run_of}
use Rattle.run_report.specs.Accounts.{lower_of, longest_of, streak_below, at_tick, responses_of, greatest, total, tail_from, is_preempted, preemptions_from}
use Rattle.run_report.specs.Kept.{fresh, ticks_if, streak_after, move_of, since_after, response_at, is_waiting, is_put_off, base_after, passing_in, tally_after}
use Rattle.run_report.proofs.Moves.{in_after}
use Rattle.run_report.proofs.JobsOn.{since_from, since_from-append, responses-append, response_moved, since_moved, ready_moved}
use Rattle.run_report.proofs.JobsOn.{length_more, greatest_more, total_more, tail_moved, tail_from-append, preemptions-append}
use Rattle.run_report.proofs.TicksOn.{count_more, streak_more, longest_more}

pub record Tallied (task : TaskNo) (lines : List TraceLine) (tally : Tally) : Type 0 where
  pub jobs : tally.jobs ≡ length (responses_of task lines)
  pub worst : tally.worst ≡ greatest (responses_of task lines)
  pub sum : tally.sum ≡ total (responses_of task lines)
  pub run : tally.run ≡ run_of (subject.Task task) lines
  pub preempted : tally.preempted ≡ preemptions_from task [] lines
  pub lower : tally.lower ≡ lower_of task lines
  pub longest : tally.longest ≡ longest_of task lines
  pub base : tally.base ≡ level_of task.0 (seen_of lines).bases
  pub since : tally.since ≡ since_from task [] None lines
  pub ready : is_some tally.since ≡ is_in task (seen_of lines).queue
  pub tail : tally.tail ≡ tail_from task None lines
  pub streak : tally.streak ≡ streak_below (last_from 0 lines) (λ tick. is_lowered task (at_tick lines tick))

pub tallied_first : (task : TaskNo) → Tallied task [] fresh
tallied_first task = record {
  jobs = refl;
  worst = refl;
  sum = refl;
  run = refl;
  preempted = refl;
  lower = refl;
  longest = refl;
  base = refl;
  since = refl;
  ready = refl;
  tail = refl;
  streak = refl;
}

base_moved : (task : TaskNo) (bases : List (ℕ × ℕ)) (event : Event) → base_after task (level_of task.0 bases) event ≡ level_of task.0 (kept_bases bases event)
base_moved task bases (New (created.Task other) name level) = sym (level_of-insert_entry task.0 bases other.0 level)
base_moved task bases (Base other level) = sym (level_of-insert_entry task.0 bases other.0 level)
base_moved task bases event = refl

-- the responses with one line more
responses_on : (task : TaskNo) (lines : List TraceLine) (line : TraceLine) (tally : Tally) → Tallied task lines tally
    → responses_of task (lines ++ line ∷ []) ≡ responses_of task lines ++ option_to_list (response_at (move_of task line.1) line.0 tally.since)
responses_on task lines line tally h =
    let before = is_in task (seen_of lines).queue in
    let since : Option ℕ = since_from task [] None lines in
    let known : is_some since ≡ before = sym (ap (λ s. is_some s) h.since) ∙ h.ready in
    responses-append task nothing_kept None lines line
    ∙ ap (λ xs. responses_of task lines ++ xs)
    (ap (λ b. response_by before b line.0 since) (in_after task (seen_of lines).queue line.1)
    ∙ response_moved (move_of task line.1) before line.0 since known
    ∙ sym (ap (λ s. option_to_list (response_at (move_of task line.1) line.0 s)) h.since))

since_on : (task : TaskNo) (lines : List TraceLine) (line : TraceLine) (tally : Tally) → Tallied task lines tally
    → since_after (move_of task line.1) line.0 tally.since ≡ since_from task [] None (lines ++ line ∷ [])
since_on task lines line tally h =
    let before = is_in task (seen_of lines).queue in
    let since : Option ℕ = since_from task [] None lines in
    let known : is_some since ≡ before = sym (ap (λ s. is_some s) h.since) ∙ h.ready in
    ap (since_after (move_of task line.1) line.0) h.since
    ∙ sym (since_moved (move_of task line.1) before line.0 since known)
    ∙ sym (ap (λ b. since_by before b line.0 since) (in_after task (seen_of lines).queue line.1))
    ∙ sym (since_from-append task nothing_kept None lines line)

put_off_on : (task : TaskNo) (lines : List TraceLine) (line : TraceLine) (tally : Tally) → Tallied task lines tally
    → is_put_off task (seen_of lines).runner line.0 line.1 tally ≡ is_preempted task lines line
put_off_on task lines line tally h =
    ap (λ b. chooses_another task line.1 && somebody_eq (seen_of lines).runner (Some (subject.Task task)) && b && not (is_tick line.0 tally.tail)) h.ready
    ∙ ap (λ t. chooses_another task line.1 && somebody_eq (seen_of lines).runner (Some (subject.Task task)) && is_in task (seen_of lines).queue
    && not (is_tick line.0 t)) h.tail

waiting_on : (task : TaskNo) (lines : List TraceLine) (tick : ℕ) (tally : Tally) → Tallied task lines tally
    → is_waiting (passing_in (seen_of lines) tick) tally ≡ is_lowered task (seen_of lines)
waiting_on task lines tick tally h =
    ap (λ b. b && is_lower (runner_base (seen_of lines).runner (seen_of lines).bases) tally.base) h.ready
    ∙ ap (λ b. is_in task (seen_of lines).queue && is_lower (runner_base (seen_of lines).runner (seen_of lines).bases) b) h.base

pub tallied_on : (task : TaskNo) (lines : List TraceLine) (line : TraceLine) (tally : Tally) → RisesFrom 0 lines → last_from 0 lines ≤ line.0
    → Tallied task lines tally →
    Tallied task (lines ++ line ∷ []) (tally_after task (passing_in (seen_of lines) line.0) line.0 line.1 tally)
tallied_on task lines line tally rises from h =
    let seen = seen_of lines in
    let move = move_of task line.1 in
    let response = response_at move line.0 tally.since in
    let more = responses_on task lines line tally h in
    let elapsed : line.0 - seen.tick ≡ line.0 - last_from 0 lines = ap (λ n. line.0 - n) (tick_kept nothing_kept lines) in
    let waits = waiting_on task lines line.0 tally h in
    let streak : streak_after (line.0 - seen.tick) (is_waiting (passing_in seen line.0) tally) tally.streak
    ≡ streak_after (line.0 - last_from 0 lines) (is_lowered task seen) (streak_below (last_from 0 lines) (λ tick. is_lowered task (at_tick lines tick))) =
    ap (λ n. streak_after n (is_waiting (passing_in seen line.0) tally) tally.streak) elapsed
    ∙ ap (λ b. streak_after (line.0 - last_from 0 lines) b tally.streak) waits
    ∙ ap (streak_after (line.0 - last_from 0 lines) (is_lowered task seen)) h.streak in
    let behind : seen_of (lines ++ line ∷ []) ≡ see_line seen line = seen_after-append nothing_kept lines line in
    record {
      jobs = ap (λ n. n + ticks_if (is_some response) 1) h.jobs ∙ sym (length_more (responses_of task lines) response) ∙ sym (ap (λ xs. length xs) more);
      worst = ap (λ n. max n (unwrap_or response 0)) h.worst ∙ sym (greatest_more (responses_of task lines) response) ∙ sym (ap greatest more);
      sum = ap (λ n. n + unwrap_or response 0) h.sum ∙ sym (total_more (responses_of task lines) response) ∙ sym (ap total more);
      run = ap (λ n. n + ticks_if (is_runner (subject.Task task) seen) (line.0 - seen.tick)) h.run
          ∙ ap (λ n. run_of (subject.Task task) lines + ticks_if (is_runner (subject.Task task) seen) n) elapsed
          ∙ sym (count_more (is_runner (subject.Task task)) lines line rises from);
      preempted = ap (λ n. n + ticks_if (is_put_off task seen.runner line.0 line.1 tally) 1) h.preempted
          ∙ ap (λ b. preemptions_from task [] lines + ticks_if b 1) (put_off_on task lines line tally h) ∙ sym (preemptions-append task [] lines line);
      lower = ap (λ n. n + ticks_if (is_waiting (passing_in seen line.0) tally) (line.0 - seen.tick)) h.lower
          ∙ ap (λ b. lower_of task lines + ticks_if b (line.0 - seen.tick)) waits
          ∙ ap (λ n. lower_of task lines + ticks_if (is_lowered task seen) n) elapsed ∙ sym (count_more (is_lowered task) lines line rises from);
      longest = ap (λ n. max n (streak_after (line.0 - seen.tick) (is_waiting (passing_in seen line.0) tally) tally.streak)) h.longest
          ∙ ap (λ n. max (longest_of task lines) n) streak ∙ sym (longest_more (is_lowered task) lines line rises from);
      base = ap (λ b. base_after task b line.1) h.base ∙ base_moved task seen.bases line.1 ∙ sym (ap (λ (s : Seen). level_of task.0 s.bases) behind);
      since = since_on task lines line tally h;
      ready =
          ready_moved move (is_in task seen.queue) line.0 tally.since h.ready ∙ sym (in_after task seen.queue line.1)
          ∙ sym (ap (λ (s : Seen). is_in task s.queue) behind);
      tail = tail_moved task tally.tail line.0 line.1 ∙ ap (λ t. tail_after task t line) h.tail ∙ sym (tail_from-append task None lines line);
      streak = streak ∙ sym (streak_more (is_lowered task) lines line rises from);
    }

-- ---- the tally along the lines

abbrev pub tally_from : TaskNo → Seen → Tally → List TraceLine → Tally
tally_from task seen tally [] = tally
tally_from task seen tally (line ∷ lines) = tally_from task (see_line seen line) (tally_after task (passing_in seen line.0) line.0 line.1 tally) lines

abbrev pub tally_of : TaskNo → List TraceLine → Tally
tally_of task lines = tally_from task nothing_kept fresh lines

pub rises_parts : (tick : ℕ) (front : List TraceLine) (line : TraceLine) (lines : List TraceLine) → RisesFrom tick (front ++ line ∷ lines)
    → RisesFrom tick front × (last_from tick front ≤ line.0)
rises_parts tick [] line lines rises = (tt, rises.0)
rises_parts tick (first ∷ front) line lines rises = let rest = rises_parts first.0 front line lines rises.1 in ((rises.0, rest.0), rest.1)

tallied_along : (task : TaskNo) (front lines : List TraceLine) (tally : Tally) → RisesFrom 0 (front ++ lines) → Tallied task front tally
    → Tallied task (front ++ lines) (tally_from task (seen_of front) tally lines)
tallied_along task front [] tally rises h = subst (λ ls. Tallied task ls tally) (sym (append-nil front)) h
tallied_along task front (line ∷ lines) tally rises h =
    let parts = rises_parts 0 front line lines rises in
    let next = tallied_on task front line tally parts.0 parts.1 h in
    let whole =
    tallied_along task (front ++ line ∷ []) lines (tally_after task (passing_in (seen_of front) line.0) line.0 line.1 tally)
    (subst (RisesFrom 0) (sym (append_assoc front (line ∷ []) lines)) rises) next in
    subst (λ ls.
    Tallied task ls (tally_from task (see_line (seen_of front) line) (tally_after task (passing_in (seen_of front) line.0) line.0 line.1 tally) lines))
    (append_assoc front (line ∷ []) lines)
    (subst (λ seen.
    Tallied task ((front ++ line ∷ []) ++ lines) (tally_from task seen (tally_after task (passing_in (seen_of front) line.0) line.0 line.1 tally) lines))
    (seen_after-append nothing_kept front line) whole)

pub tally_told : (task : TaskNo) (lines : List TraceLine) → RisesFrom 0 lines → Tallied task lines (tally_of task lines)
tally_told task lines rises = tallied_along task [] lines fresh rises (tallied_first task)

pub tally_from-append : (task : TaskNo) (seen : Seen) (tally : Tally) (lines : List TraceLine) (line : TraceLine) →
    tally_from task seen tally (lines ++ line ∷ [])
    ≡ tally_after task (passing_in (seen_after seen lines) line.0) line.0 line.1 (tally_from task seen tally lines)
tally_from-append task seen tally [] line = refl
tally_from-append task seen tally (first ∷ lines) line =
    tally_from-append task (see_line seen first) (tally_after task (passing_in seen first.0) first.0 first.1 tally) lines line
