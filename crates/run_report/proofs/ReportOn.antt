-- What is kept of a formed list are the accounts of its tasks.
use Rattle.std.proofs.Common.{◌≡◌, ◌≤◌, ℕ, ◌+◌, ◌-◌, ◌&&◌, Bool, true, false, not, eqb, List, [], ◌∷◌}
use Rattle.std.proofs.Common.{◌++◌, Some, None, map, refl, ap, sym, subst, ◌∙◌, append_assoc, append-nil}
use Rattle.std.proofs.lemmas.Bool.{and_parts, eq-eqb, not-true}
use Rattle.std.proofs.lemmas.List.{map-append}
use Rattle.ann_base.specs.declared.identities.TaskNo.{TaskNo}
use Rattle.trace_text.specs.declared.events.Who.TheVariants as subject
use Rattle.trace_text.specs.declared.events.Created.TheVariants as created
use Rattle.trace_text.specs.declared.events.Event.TheVariants.{New}
use Rattle.trace_text.specs.Queue.{TraceLine, RisesFrom, seen_from, last_from, follows_lines}
use Rattle.trace_text.specs.Laws.{Shape, see_shape, no_shape, has, is_formed_next, is_subject_formed, follows_order, follows_form}
use Rattle.trace_lines.specs.Seen.{Seen, nothing_kept, see_line, seen_after, seen_of}
use Rattle.trace_lines.proofs.Facts.{seen_after-append, tick_kept}
use Rattle.run_report.specs.declared.report.Kept.{Kept}
use Rattle.run_report.specs.declared.tallies.Tally.{Tally}
use Rattle.run_report.specs.Accounts.{created_by, created_in, account_of, accounts_of, is_runner, is_idle, run_of, idle_of}
use Rattle.run_report.specs.Kept.{fresh, ticks_if, level_if, passing_in, tally_after, kept_after, newly_kept, Reported}
use Rattle.run_report.specs.Kept.{nothing_reported, report_line, reported_after, reported_of, account_in, accounts_in}
use Rattle.run_report.proofs.TallyOn.{tally_of, tally_told, tally_from-append, rises_parts}
use Rattle.run_report.proofs.TicksOn.{count_more}
use Rattle.run_report.proofs.Quiet.{IsFresh, fresh_after, quiet_along, quiet_before}

-- ---- the parts of what is kept

pub seen_reported : (reported : Reported) (lines : List TraceLine) → (reported_after reported lines).seen ≡ seen_after reported.seen lines
seen_reported reported [] = refl
seen_reported reported (line ∷ lines) = seen_reported (report_line reported line) lines

pub reported-append : (reported : Reported) (lines : List TraceLine) (line : TraceLine)
    → reported_after reported (lines ++ line ∷ []) ≡ report_line (reported_after reported lines) line
reported-append reported [] line = refl
reported-append reported (first ∷ lines) line = reported-append (report_line reported first) lines line

-- ---- the agent, and nobody

pub record Counts (lines : List TraceLine) (reported : Reported) : Type 0 where
  pub seen : reported.seen ≡ seen_of lines
  pub agent_run : reported.agent_run ≡ run_of subject.Agent lines
  pub idle : reported.idle ≡ idle_of lines

counted : (test : Seen → Bool) (lines : List TraceLine) (line : TraceLine) (reported : Reported) → reported.seen ≡ seen_of lines →
    ticks_if (test reported.seen) (line.0 - reported.seen.tick) ≡ ticks_if (test (seen_of lines)) (line.0 - last_from 0 lines)
counted test lines line reported e =
    ap (λ (s : Seen). ticks_if (test s) (line.0 - s.tick)) e ∙ ap (λ n. ticks_if (test (seen_of lines)) (line.0 - n)) (tick_kept nothing_kept lines)

counts_on : (lines : List TraceLine) (line : TraceLine) (reported : Reported) → RisesFrom 0 lines → last_from 0 lines ≤ line.0 → Counts lines reported
    → Counts (lines ++ line ∷ []) (report_line reported line)
counts_on lines line reported rises from h = record {
  seen = ap (λ s. see_line s line) h.seen ∙ sym (seen_after-append nothing_kept lines line);
  agent_run = ap (λ n. n + ticks_if (is_runner subject.Agent reported.seen) (line.0 - reported.seen.tick)) h.agent_run
      ∙ ap (λ n. run_of subject.Agent lines + n) (counted (is_runner subject.Agent) lines line reported h.seen)
      ∙ sym (count_more (is_runner subject.Agent) lines line rises from);
  idle = ap (λ n. n + ticks_if (is_idle reported.seen) (line.0 - reported.seen.tick)) h.idle
      ∙ ap (λ n. idle_of lines + n) (counted is_idle lines line reported h.seen) ∙ sym (count_more is_idle lines line rises from);
}

counts_along : (front lines : List TraceLine) (reported : Reported) → RisesFrom 0 (front ++ lines) → Counts front reported
    → Counts (front ++ lines) (reported_after reported lines)
counts_along front [] reported rises h = subst (λ ls. Counts ls reported) (sym (append-nil front)) h
counts_along front (line ∷ lines) reported rises h =
    let parts = rises_parts 0 front line lines rises in
    subst (λ ls. Counts ls (reported_after (report_line reported line) lines)) (append_assoc front (line ∷ []) lines)
    (counts_along (front ++ line ∷ []) lines (report_line reported line) (subst (RisesFrom 0) (sym (append_assoc front (line ∷ []) lines)) rises)
    (counts_on front line reported parts.0 parts.1 h))

pub counts_told : (lines : List TraceLine) → RisesFrom 0 lines → Counts lines (reported_of lines)
counts_told lines rises = counts_along [] lines nothing_reported rises (record { seen = refl; agent_run = refl; idle = refl })

-- ---- the tasks

abbrev named : List TraceLine → TaskNo × List ℕ → Kept
named lines task = record { task = task.0; name = task.1; tally = tally_of task.0 lines }

created-append : (lines : List TraceLine) (line : TraceLine) → created_in (lines ++ line ∷ []) ≡ created_in lines ++ created_by line.1
created-append [] line = append-nil (created_by line.1)
created-append (first ∷ lines) line =
    ap (λ xs. created_by first.1 ++ xs) (created-append lines line) ∙ sym (append_assoc (created_by first.1) (created_in lines) (created_by line.1))

all_go_on : (lines : List TraceLine) (line : TraceLine) (tasks : List (TaskNo × List ℕ))
    → map (kept_after (passing_in (seen_of lines) line.0) line.0 line.1) (map (named lines) tasks) ≡ map (named (lines ++ line ∷ [])) tasks
all_go_on lines line [] = refl
all_go_on lines line (task ∷ tasks) =
    ap (λ (t : Tally).
    record { task = task.0; name = task.1; tally = t } ∷ map (kept_after (passing_in (seen_of lines) line.0) line.0 line.1) (map (named lines) tasks))
    (sym (tally_from-append task.0 nothing_kept fresh lines line))
    ∙ ap (λ (ks : List Kept). named (lines ++ line ∷ []) task ∷ ks) (all_go_on lines line tasks)

level_here : (task : TaskNo) (level : ℕ) → level_if (eqb task.0 task.0) level None ≡ Some level
level_here task level = ap (λ b. level_if b level None) (eq-eqb task.0 task.0 refl)

-- one that is created
created_fresh : (task : TaskNo) (name : List ℕ) (level tick : ℕ) (lines : List TraceLine) → IsFresh task (seen_of lines) (tally_of task lines)
    → tally_of task (lines ++ (tick, New (created.Task task) name level) ∷ []) ≡ record fresh { base = Some level }
created_fresh task name level tick lines h =
    tally_from-append task nothing_kept fresh lines (tick, New (created.Task task) name level)
    ∙ ap (tally_after task (passing_in (seen_of lines) tick) tick (New (created.Task task) name level)) h.tally_is
    ∙ fresh_after task (passing_in (seen_of lines) tick) tick (New (created.Task task) name level) h.idle refl refl refl refl
    ∙ ap (λ b. record fresh { base = b }) (level_here task level)

newly_named : (lines : List TraceLine) (line : TraceLine)
    → ((task : TaskNo) → is_subject_formed (seen_from see_shape no_shape lines) line.1 ≡ true → has task.0 (seen_from see_shape no_shape lines).tasks ≡ false
    → IsFresh task (seen_of lines) (tally_of task lines))
    →
    is_subject_formed (seen_from see_shape no_shape lines) line.1 ≡ true → newly_kept line.1 ≡ map (named (lines ++ line ∷ [])) (created_by line.1)
newly_named lines (tick, New (created.Task task) name level) new formed =
    ap (λ (t : Tally). record { task = task; name = name; tally = t } ∷ [])
    (sym (created_fresh task name level tick lines (new task formed (not-true (has task.0 (seen_from see_shape no_shape lines).tasks) formed))))
newly_named lines (tick, event) new formed = refl

kept_on : (lines : List TraceLine) (line : TraceLine) → follows_lines see_shape is_formed_next no_shape lines ≡ true
    → is_formed_next (seen_from see_shape no_shape lines) line.1 ≡ true → (reported : Reported) → reported.seen ≡ seen_of lines →
    reported.kept ≡ map (named lines) (created_in lines) → (report_line reported line).kept ≡ map (named (lines ++ line ∷ [])) (created_in (lines ++ line ∷ []))
kept_on lines line formed next reported seen h =
    let here = (and_parts (not (seen_from see_shape no_shape lines).is_ended) (is_subject_formed (seen_from see_shape no_shape lines) line.1) next).1 in
    ap (λ (s : Seen). map (kept_after (passing_in s line.0) line.0 line.1) reported.kept ++ newly_kept line.1) seen
    ∙ ap (λ ks. map (kept_after (passing_in (seen_of lines) line.0) line.0 line.1) ks ++ newly_kept line.1) h
    ∙ ap (λ ks. ks ++ newly_kept line.1) (all_go_on lines line (created_in lines))
    ∙ ap (λ ks. map (named (lines ++ line ∷ [])) (created_in lines) ++ ks)
    (newly_named lines line (λ task e none. quiet_along task nothing_kept lines (quiet_before task no_shape lines formed none) refl) here)
    ∙ sym (map-append (named (lines ++ line ∷ [])) (created_in lines) (created_by line.1))
    ∙ sym (ap (map (named (lines ++ line ∷ []))) (created-append lines line))

parts_from : (shape : Shape) (front : List TraceLine) (line : TraceLine) (lines : List TraceLine)
    → follows_lines see_shape is_formed_next shape (front ++ line ∷ lines) ≡ true →
    (follows_lines see_shape is_formed_next shape front ≡ true) × (is_formed_next (seen_from see_shape shape front) line.1 ≡ true)
parts_from shape [] line lines formed = (
  refl,
  (and_parts (is_formed_next shape line.1) (follows_lines see_shape is_formed_next (see_shape shape line.1) lines) formed).0,
)
parts_from shape (first ∷ front) line lines formed =
    let parts = and_parts (is_formed_next shape first.1) (follows_lines see_shape is_formed_next (see_shape shape first.1) (front ++ line ∷ lines)) formed in
    let rest = parts_from (see_shape shape first.1) front line lines parts.1 in
    (ap (λ b. b && follows_lines see_shape is_formed_next (see_shape shape first.1) front) parts.0 ∙ rest.0, rest.1)

formed_parts : (front : List TraceLine) (line : TraceLine) (lines : List TraceLine)
    → follows_lines see_shape is_formed_next no_shape (front ++ line ∷ lines) ≡ true →
    (follows_lines see_shape is_formed_next no_shape front ≡ true) × (is_formed_next (seen_from see_shape no_shape front) line.1 ≡ true)
formed_parts front line lines formed = parts_from no_shape front line lines formed

kept_along : (front lines : List TraceLine) (reported : Reported) → follows_lines see_shape is_formed_next no_shape (front ++ lines) ≡ true
    → reported.seen ≡ seen_of front → reported.kept ≡ map (named front) (created_in front) →
    (reported_after reported lines).kept ≡ map (named (front ++ lines)) (created_in (front ++ lines))
kept_along front [] reported formed seen h = h ∙ ap (λ ls. map (named ls) (created_in ls)) (sym (append-nil front))
kept_along front (line ∷ lines) reported formed seen h =
    let parts = formed_parts front line lines formed in
    kept_along (front ++ line ∷ []) lines (report_line reported line)
    (ap (follows_lines see_shape is_formed_next no_shape) (append_assoc front (line ∷ []) lines) ∙ formed)
    (ap (λ s. see_line s line) seen ∙ sym (seen_after-append nothing_kept front line)) (kept_on front line parts.0 parts.1 reported seen h)
    ∙ ap (λ ls. map (named ls) (created_in ls)) (append_assoc front (line ∷ []) lines)

pub kept_told : (lines : List TraceLine) → follows_lines see_shape is_formed_next no_shape lines ≡ true
    → (reported_of lines).kept ≡ map (named lines) (created_in lines)
kept_told lines formed = kept_along [] lines nothing_reported formed refl refl

-- the account of each is what the list shows of it
account_told : (lines : List TraceLine) → RisesFrom 0 lines → (task : TaskNo × List ℕ) → account_in (named lines task) ≡ account_of lines task
account_told lines rises task = let h = tally_told task.0 lines rises in rw (h.jobs, h.worst, h.sum, h.run, h.preempted, h.lower, h.longest) refl

all_told : (lines : List TraceLine) → RisesFrom 0 lines → (tasks : List (TaskNo × List ℕ))
    → map account_in (map (named lines) tasks) ≡ map (account_of lines) tasks
all_told lines rises [] = refl
all_told lines rises (task ∷ tasks) =
    ap (λ a. a ∷ map account_in (map (named lines) tasks)) (account_told lines rises task)
    ∙ ap (λ accounts. account_of lines task ∷ accounts) (all_told lines rises tasks)

pub accounts_told : (lines : List TraceLine) → RisesFrom 0 lines → follows_lines see_shape is_formed_next no_shape lines ≡ true
    → accounts_in (reported_of lines) ≡ accounts_of lines
accounts_told lines rises formed = ap (map account_in) (kept_told lines formed) ∙ all_told lines rises (created_in lines)

pub form_of : (lines : List TraceLine) → follows_form lines ≡ true → follows_lines see_shape is_formed_next no_shape lines ≡ true
form_of lines e = (and_parts (follows_order 0 lines) (follows_lines see_shape is_formed_next no_shape lines) e).1
