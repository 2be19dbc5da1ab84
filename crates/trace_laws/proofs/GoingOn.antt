-- What a list with one line more answers, by the facts of the list.
use Rattle.std.proofs.Common.{◌≡◌, ℕ, ◌+◌, Bool, true, false, cond, not, ◌&&◌, ◌||◌, eqb, leb, List, []}
use Rattle.std.proofs.Common.{◌∷◌, ◌++◌, length, Option, Some, None, Result, Ok, Err, refl, ap, sym, ◌∙◌}
use Rattle.std.specs.Option.{option_to_list}
use Rattle.std.proofs.lemmas.Bool.{and_parts, eqb-true}
use Rattle.std.specs.Result.{OnOk}
use Rattle.ann_base.specs.declared.faults.OrMemory.{OrMemory}
use Rattle.ann_base.specs.Answers.{Answers}
use Rattle.trace_text.specs.declared.events.Who.{Who}
use Rattle.trace_text.specs.declared.events.Who.TheVariants as subject
use Rattle.trace_text.specs.declared.events.Event.{Event}
use Rattle.trace_text.specs.declared.events.Event.TheVariants.{Enter, Release, Serve, Served}
use Rattle.trace_text.specs.Queue.{TraceLine, Sight, see, nothing_seen, seen_from, last_from, follows_ticks, follows_lines, somebody_eq, who_of, head_of}
use Rattle.trace_text.specs.Laws.{Levels, no_levels, see_levels, level_of, base_of, is_below_ceiling, actions_after, is_exclusive, no_releases}
use Rattle.trace_text.specs.Laws.{see_releases, one_off, is_in_order, is_agent_right, remember, is_rightly_left, follows_dispatch}
use Rattle.trace_text.specs.Laws.{follows_ceilings, follows_exclusion, follows_handlers, follows_leaving, follows_laws, follows_form}
use Rattle.trace_lines.specs.Seen.{Seen, see_line, seen_after, seen_of, with_line, is_formed_after}
use Rattle.trace_laws.specs.declared.counts.Counts.{Counts}
use Rattle.trace_laws.specs.declared.laws.Law.{Law}
use Rattle.trace_laws.specs.declared.laws.Law.TheVariants.{Dispatch, Ceiling, Exclusive, Handlers, Left}
use Rattle.trace_laws.specs.declared.laws.LawFault.TheVariants.{Malformed}
use Rattle.trace_laws.specs.Regions.{leavings_after, is_left_rightly}
use Rattle.trace_laws.specs.Watched.{Watched, nothing_watched, other_than, counts_after, watch_line, watched_after, watched_of, is_dispatch_kept}
use Rattle.trace_laws.specs.Watched.{levels_in, releases_in, are_handlers_kept, broken_by, fault_of, answer_after, first_broken, answer_of}
use Rattle.trace_laws.proofs.RegionsKept.{leavings_of, left_rightly_kept}

-- tests of two parts

and_true : (a : Bool) → (a && true) ≡ a
and_true true = refl
and_true false = refl

and_and : (a b c : Bool) → (a && (b && c)) ≡ ((a && b) && c)
and_and true b c = refl
and_and false b c = refl

-- one line more
pub watched_after-append : (watched : Watched) (lines : List TraceLine) (line : TraceLine)
    → watched_after watched (lines ++ line ∷ []) ≡ watch_line (watched_after watched lines) line
watched_after-append watched [] line = refl
watched_after-append watched (first ∷ lines) line = watched_after-append (watch_line watched first) lines line

lines-append : {S : Type 0} (see : S → Event → S) (lawful : S → Event → Bool) (s : S) (lines : List TraceLine) (line : TraceLine)
    → follows_lines see lawful s (lines ++ line ∷ []) ≡ (follows_lines see lawful s lines && lawful (seen_from see s lines) line.1)
lines-append see lawful s [] line = and_true (lawful s line.1)
lines-append see lawful s (first ∷ lines) line =
    ap (λ b. lawful s first.1 && b) (lines-append see lawful (see s first.1) lines line)
    ∙ and_and (lawful s first.1) (follows_lines see lawful (see s first.1) lines) (lawful (seen_from see (see s first.1) lines) line.1)

ticks-append : {S : Type 0} (see : S → Event → S) (right : S → Bool) (tick : ℕ) (s : S) (lines : List TraceLine) (line : TraceLine)
    → follows_ticks see right tick s (lines ++ line ∷ [])
    ≡ (follows_ticks see right tick s lines && (leb line.0 (last_from tick lines) || right (seen_from see s lines)))
ticks-append see right tick s [] line = and_true (leb line.0 tick || right s)
ticks-append see right tick s (first ∷ lines) line =
    ap (λ b. (leb first.0 tick || right s) && b) (ticks-append see right first.0 (see s first.1) lines line)
    ∙ and_and (leb first.0 tick || right s) (follows_ticks see right first.0 (see s first.1) lines)
    (leb line.0 (last_from first.0 lines) || right (seen_from see (see s first.1) lines))

-- the parts of what is kept
seen_kept : (watched : Watched) (lines : List TraceLine) → (watched_after watched lines).seen ≡ seen_after watched.seen lines
seen_kept watched [] = refl
seen_kept watched (line ∷ lines) = seen_kept (watch_line watched line) lines

actions_kept : (watched : Watched) (lines : List TraceLine) → (watched_after watched lines).actions ≡ seen_from actions_after watched.actions lines
actions_kept watched [] = refl
actions_kept watched (line ∷ lines) = actions_kept (watch_line watched line) lines

leavings_kept : (watched : Watched) (past : List Event) (lines : List TraceLine) → watched.leavings ≡ leavings_of past
    → (watched_after watched lines).leavings ≡ leavings_of (seen_from remember past lines)
leavings_kept watched past [] h = h
leavings_kept watched past (line ∷ lines) h = leavings_kept (watch_line watched line) (line.1 ∷ past) lines (ap (λ l. leavings_after l line.1) h)

entries_kept : (levels : Levels) (sight : Sight) (lines : List TraceLine) → levels.entries ≡ sight.queue
    → (seen_from see_levels levels lines).entries ≡ (seen_from see sight lines).queue
entries_kept levels sight [] h = h
entries_kept levels sight (line ∷ lines) h = entries_kept (see_levels levels line.1) (see sight line.1) lines (rw h refl)

-- the numbers of releases, as long as each line bears the next
no_number : (serving : Option ℕ) → eqb (length (option_to_list serving)) 0 ≡ true → serving ≡ None
no_number None e = refl
no_number (Some number) e = cc

one_off-cond : (b : Bool) (other : ℕ) → cond b [] (other ∷ []) ≡ option_to_list (cond b None (Some other))
one_off-cond true other = refl
one_off-cond false other = refl

one_off-other : (number : ℕ) (serving : Option ℕ) → one_off number (option_to_list serving) ≡ option_to_list (other_than number serving)
one_off-other number None = refl
one_off-other number (Some other) = one_off-cond (eqb number other) other

releases_step : (seen : Seen) (counts : Counts) (tick : ℕ) (event : Event) → is_in_order (releases_in seen counts) event ≡ true
    → see_releases (releases_in seen counts) event ≡ releases_in (see_line seen (tick, event)) (counts_after counts event)
releases_step seen counts tick (Release release object handler) e = rw (eqb-true release (counts.released + 1) e) refl
releases_step seen counts tick (Serve release) e =
    let parts = and_parts (eqb release (counts.begun + 1) && leb release counts.released) (eqb (length (option_to_list counts.serving)) 0) e in
    let number = and_parts (eqb release (counts.begun + 1)) (leb release counts.released) parts.0 in
    rw (eqb-true release (counts.begun + 1) number.0, no_number counts.serving parts.1) refl
releases_step seen counts tick (Served release) e =
    let parts = and_parts (eqb release (counts.served + 1)) (leb release counts.released) e in
    rw (one_off-other release counts.serving, eqb-true release (counts.served + 1) parts.0) refl
releases_step seen counts tick _ e = refl

releases_kept : (watched : Watched) (lines : List TraceLine) → follows_lines see_releases is_in_order (releases_in watched.seen watched.counts) lines ≡ true
    → seen_from see_releases (releases_in watched.seen watched.counts) lines
    ≡ releases_in (watched_after watched lines).seen (watched_after watched lines).counts
releases_kept watched [] e = refl
releases_kept watched (line ∷ lines) e =
    let parts =
    and_parts (is_in_order (releases_in watched.seen watched.counts) line.1)
    (follows_lines see_releases is_in_order (see_releases (releases_in watched.seen watched.counts) line.1) lines) e in
    let step = releases_step watched.seen watched.counts line.0 line.1 parts.0 in
    ap (λ r. seen_from see_releases r lines) step
    ∙ releases_kept (watch_line watched line) lines (ap (λ r. follows_lines see_releases is_in_order r lines) (sym step) ∙ parts.1)

-- what the facts of a list are
pub record Told (lines : List TraceLine) : Type 0 where
  pub tick : (seen_of lines).tick ≡ last_from 0 lines
  pub runner : (seen_of lines).runner ≡ (seen_from see nothing_seen lines).runner
  pub queue : (seen_of lines).queue ≡ (seen_from see nothing_seen lines).queue
  pub base : (number : ℕ) → level_of number (seen_of lines).bases ≡ level_of number (seen_from see_levels no_levels lines).bases
  pub ceiling : (number : ℕ) → level_of number (seen_of lines).ceilings ≡ level_of number (seen_from see_levels no_levels lines).ceilings

dispatch_next : (lines : List TraceLine) (tick : ℕ) (event : Event) → Told lines → follows_dispatch lines ≡ true
    → follows_dispatch (with_line lines tick event) ≡ is_dispatch_kept (seen_of lines) tick
dispatch_next lines tick event told e =
    ticks-append see (λ sight. somebody_eq sight.runner (who_of (head_of sight.queue))) 0 nothing_seen lines (tick, event)
    ∙ rw (e, told.tick, told.runner, told.queue) refl

base_same : (who : Who) (bases others : List (ℕ × ℕ)) → ((number : ℕ) → level_of number bases ≡ level_of number others) → base_of who bases ≡ base_of who others
base_same (subject.Task task) bases others h = h task.0
base_same subject.Agent bases others h = refl

below_same : (a b : Levels) → a.entries ≡ b.entries → ((number : ℕ) → level_of number a.bases ≡ level_of number b.bases)
    → ((number : ℕ) → level_of number a.ceilings ≡ level_of number b.ceilings)
    → (event : Event) → is_below_ceiling a event ≡ is_below_ceiling b event
below_same a b entries bases ceilings (Enter who object m) = rw (entries, base_same who a.bases b.bases bases, ceilings object.0) refl
below_same a b entries bases ceilings _ = refl

ceilings_next : (lines : List TraceLine) (tick : ℕ) (event : Event) → Told lines → follows_ceilings lines ≡ true
    → follows_ceilings (with_line lines tick event) ≡ is_below_ceiling (levels_in (seen_of lines)) event
ceilings_next lines tick event told e =
    lines-append see_levels is_below_ceiling no_levels lines (tick, event) ∙ ap (λ b. b && is_below_ceiling (seen_from see_levels no_levels lines) event) e
    ∙ below_same (seen_from see_levels no_levels lines) (levels_in (seen_of lines)) (entries_kept no_levels nothing_seen lines refl ∙ sym told.queue)
    (λ n. sym (told.base n)) (λ n. sym (told.ceiling n)) event

exclusion_next : (lines : List TraceLine) (tick : ℕ) (event : Event) → follows_exclusion lines ≡ true
    → follows_exclusion (with_line lines tick event) ≡ is_exclusive (watched_of lines).actions event
exclusion_next lines tick event e =
    lines-append actions_after is_exclusive [] lines (tick, event) ∙ ap (λ b. b && is_exclusive (seen_from actions_after [] lines) event) e
    ∙ ap (λ actions. is_exclusive actions event) (sym (actions_kept nothing_watched lines))

leaving_next : (lines : List TraceLine) (tick : ℕ) (event : Event) → follows_leaving lines ≡ true
    → follows_leaving (with_line lines tick event) ≡ is_left_rightly (watched_of lines).leavings event
leaving_next lines tick event e =
    lines-append remember is_rightly_left [] lines (tick, event) ∙ ap (λ b. b && is_rightly_left (seen_from remember [] lines) event) e
    ∙ left_rightly_kept (seen_from remember [] lines) event ∙ ap (λ l. is_left_rightly l event) (sym (leavings_kept nothing_watched [] lines refl))

handlers_next : (lines : List TraceLine) (tick : ℕ) (event : Event) → Told lines → follows_handlers lines ≡ true
    → follows_handlers (with_line lines tick event) ≡ are_handlers_kept (watched_of lines).seen (watched_of lines).counts tick event
handlers_next lines tick event told e =
    let parts = and_parts (follows_lines see_releases is_in_order no_releases lines) (follows_ticks see_releases is_agent_right 0 no_releases lines) e in
    let kept : seen_from see_releases no_releases lines ≡ releases_in (watched_of lines).seen (watched_of lines).counts =
    releases_kept nothing_watched lines parts.0 in
    let order : follows_lines see_releases is_in_order no_releases (with_line lines tick event) ≡ is_in_order (seen_from see_releases no_releases lines) event =
    lines-append see_releases is_in_order no_releases lines (tick, event)
    ∙ ap (λ b. b && is_in_order (seen_from see_releases no_releases lines) event) parts.0 in
    let agent : follows_ticks see_releases is_agent_right 0 no_releases (with_line lines tick event)
    ≡ (leb tick (last_from 0 lines) || is_agent_right (seen_from see_releases no_releases lines)) =
    ticks-append see_releases is_agent_right 0 no_releases lines (tick, event)
    ∙ ap (λ b. b && (leb tick (last_from 0 lines) || is_agent_right (seen_from see_releases no_releases lines))) parts.1 in
    let last : last_from 0 lines ≡ (watched_of lines).seen.tick = sym told.tick ∙ ap (λ seen. seen.tick) (sym (seen_kept nothing_watched lines)) in
    rw (order, agent, kept, last) refl

-- which law is broken
chosen : Bool → Bool → Bool → Bool → Bool → Option Law
chosen dispatch ceiling exclusive handlers left =
    cond (not dispatch) (Some Dispatch)
    (cond (not ceiling) (Some Ceiling) (cond (not exclusive) (Some Exclusive) (cond (not handlers) (Some Handlers) (cond (not left) (Some Left) None))))

-- a list that keeps the laws
pub record Follows (lines : List TraceLine) : Type 0 where
  pub dispatch : follows_dispatch lines ≡ true
  pub ceilings : follows_ceilings lines ≡ true
  pub exclusion : follows_exclusion lines ≡ true
  pub handlers : follows_handlers lines ≡ true
  pub leaving : follows_leaving lines ≡ true

broken_next : (lines : List TraceLine) (tick : ℕ) (event : Event) → Told lines → Follows lines
    → broken_by (watched_of lines) tick event ≡ first_broken (with_line lines tick event)
unfolding chosen
broken_next lines tick event told follows =
    let seen = seen_kept nothing_watched lines in
    let dispatch : is_dispatch_kept (watched_of lines).seen tick ≡ follows_dispatch (with_line lines tick event) =
    ap (λ s. is_dispatch_kept s tick) seen ∙ sym (dispatch_next lines tick event told follows.dispatch) in
    let ceiling : is_below_ceiling (levels_in (watched_of lines).seen) event ≡ follows_ceilings (with_line lines tick event) =
    ap (λ s. is_below_ceiling (levels_in s) event) seen ∙ sym (ceilings_next lines tick event told follows.ceilings) in
    ap (λ b. chosen b (is_below_ceiling (levels_in (watched_of lines).seen) event) (is_exclusive (watched_of lines).actions event)
    (are_handlers_kept (watched_of lines).seen (watched_of lines).counts tick event) (is_left_rightly (watched_of lines).leavings event)) dispatch
    ∙ ap (λ b. chosen (follows_dispatch (with_line lines tick event)) b (is_exclusive (watched_of lines).actions event)
    (are_handlers_kept (watched_of lines).seen (watched_of lines).counts tick event) (is_left_rightly (watched_of lines).leavings event)) ceiling
    ∙ ap (λ b. chosen (follows_dispatch (with_line lines tick event)) (follows_ceilings (with_line lines tick event)) b
    (are_handlers_kept (watched_of lines).seen (watched_of lines).counts tick event) (is_left_rightly (watched_of lines).leavings event))
    (sym (exclusion_next lines tick event follows.exclusion))
    ∙ ap (λ b. chosen (follows_dispatch (with_line lines tick event)) (follows_ceilings (with_line lines tick event))
    (follows_exclusion (with_line lines tick event)) b (is_left_rightly (watched_of lines).leavings event))
    (sym (handlers_next lines tick event told follows.handlers))
    ∙ ap (λ b. chosen (follows_dispatch (with_line lines tick event)) (follows_ceilings (with_line lines tick event))
    (follows_exclusion (with_line lines tick event)) (follows_handlers (with_line lines tick event)) b)
    (sym (leaving_next lines tick event follows.leaving))

-- a test that is asked of two lists that agree
pub answer_next : (lines : List TraceLine) (tick : ℕ) (event : Event) → Told lines → Follows lines
    → is_formed_after (seen_of lines) tick event ≡ follows_form (with_line lines tick event)
    → answer_after (watched_of lines) tick event ≡ answer_of (with_line lines tick event)
answer_next lines tick event told follows form =
    let formed : is_formed_after (watched_of lines).seen tick event ≡ follows_form (with_line lines tick event) =
    ap (λ s. is_formed_after s tick event) (seen_kept nothing_watched lines) ∙ form in
    ap (λ (b : Bool). cond b (fault_of (broken_by (watched_of lines) tick event)) (Err Malformed)) formed
    ∙ ap (λ (law : Option Law). cond (follows_form (with_line lines tick event)) (fault_of law) (Err Malformed)) (broken_next lines tick event told follows)

-- where nothing is to be answered all tests are passed
pub record Passes (lines : List TraceLine) : Type 0 where
  pub form : follows_form lines ≡ true
  pub laws : follows_laws lines ≡ true

all_passed : (form a b c d e : Bool) → cond form (fault_of (chosen a b c d e)) (Err Malformed) ≡ Ok tt → (form ≡ true) × ((a && b && c && d && e) ≡ true)
unfolding chosen
all_passed true true true true true true h = (refl, refl)
all_passed false a b c d e h = cc
all_passed true false b c d e h = cc
all_passed true true false c d e h = cc
all_passed true true true false d e h = cc
all_passed true true true true false e h = cc
all_passed true true true true true false h = cc

pub passed : (lines : List TraceLine) → answer_of lines ≡ Ok tt → Passes lines
unfolding chosen
passed lines h =
    let parts =
    all_passed (follows_form lines) (follows_dispatch lines) (follows_ceilings lines) (follows_exclusion lines) (follows_handlers lines)
    (follows_leaving lines) h in
    record { form = parts.0; laws = parts.1 }

pub same_tests : (a b : Bool) → (a ≡ true → b ≡ true) → (b ≡ true → a ≡ true) → a ≡ b
same_tests true b f g = sym (f refl)
same_tests false true f g = g refl
same_tests false false f g = refl

-- what a call answers, where what is wanted leads on
pub on_ok : {X E : Type 0} (P Q : Type 0) (result : Result X E) → (P → Q) → OnOk result P → OnOk result Q
on_ok P Q (Ok x) f h = f h
on_ok P Q (Err e) f h = tt

pub on_answer : {F : Type 0} (Q : Type 0) (result : Result (Unit {0}) (OrMemory F)) (wanted : Result (Unit {0}) F) → (wanted ≡ Ok tt → Q)
    → Answers result wanted → OnOk result Q
on_answer Q (Ok u) wanted f h = f h
on_answer Q (Err e) wanted f h = tt
