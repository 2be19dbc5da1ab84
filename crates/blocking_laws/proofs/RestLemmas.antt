-- What is proved of every run, and the rest, are the law of who is moved.
use Rattle.std.proofs.Common.{Bool, List, Some, [], refl, subst, sym, true, ◌&&◌, ◌≡◌}
use Rattle.std.proofs.lemmas.Bool.{and_from, and_parts}
use Rattle.std.specs.Prelude.{IsTrue, None}
use Rattle.trace_text.specs.declared.events.Created.TheVariants as created
use Rattle.trace_text.specs.declared.events.Event.{Event}
use Rattle.trace_text.specs.declared.events.Event.TheVariants as line
use Rattle.trace_text.specs.declared.events.QueueEnd.TheVariants.{Head, Tail}
use Rattle.ann_base.specs.declared.identities.ObjectNo.{ObjectNo}
use Rattle.trace_text.specs.declared.events.Who.{Who}
use Rattle.trace_text.specs.declared.events.Who.TheVariants as subject
use Rattle.trace_text.specs.Laws.{Levels, actions_after, bases_after, ceilings_after, level_of, no_levels, see_levels}
use Rattle.trace_text.specs.Queue.{AtEachLine, TraceLine, head_of, queue_after, runner_after, seen_from, somebody_eq, who_of}
use Rattle.profile_machine.specs.Run.{run_of}
use Rattle.blocking_laws.specs.DatedLines.{places_dated, shows_nothing}
use Rattle.blocking_laws.specs.FreeLines.{blocks_free}
use Rattle.blocking_laws.specs.LastExits.{is_last_exit}
use Rattle.blocking_laws.specs.LowLines.{enters_low}
use Rattle.blocking_laws.specs.MovingLaws.{Moving, comes_rightly, is_agent_level, is_dated_rightly, is_known, is_moved_rightly}
use Rattle.blocking_laws.specs.MovingLaws.{is_within, may_be_behind, moving_after, nothing_moving, own_level}
use Rattle.blocking_laws.specs.NumberLines.{is_object_new}
use Rattle.blocking_laws.specs.OwnLines.{is_first_entry, is_own}
use Rattle.blocking_laws.specs.RestLaws.{RestMovesRightly, is_rest_right}
use Rattle.blocking_laws.specs.TaskLines.{has_base, is_task_new, places_known}
use Rattle.blocking_laws.proofs.DatedLemmas.{runs_date_rightly}
use Rattle.blocking_laws.proofs.FirstLemmas.{runs_enter_first}
use Rattle.blocking_laws.proofs.FreshLemmas.{runs_enter_fresh}
use Rattle.blocking_laws.proofs.HeadLemmas.{runs_tell_own_lines}
use Rattle.blocking_laws.proofs.LastRuns.{runs_exit_last}
use Rattle.blocking_laws.proofs.LowLemmas.{runs_enter_low}
use Rattle.blocking_laws.proofs.ObjectNumbers.{runs_number_objects}
use Rattle.blocking_laws.proofs.StopLemmas.{runs_block_free}
use Rattle.blocking_laws.proofs.TaskNumbers.{runs_number_tasks, runs_place_known}
use Rattle.blocking_laws.proofs.TickLemmas.{seen_part}

-- what is shown of levels
abbrev levels_in : Moving → Levels
levels_in m = record { entries = m.past.queue; ceilings = m.ceilings; bases = m.past.bases }

abbrev nothing_in : Moving → Unit {0}
nothing_in m = tt

record Parts (m : Moving) (event : Event) : Type 0 where
  own : is_own m.past.runner event ≡ true
  first : is_first_entry m.past.queue event ≡ true
  dated : places_dated event ≡ true
  low : enters_low (levels_in m) event ≡ true
  new : is_object_new m.ceilings event ≡ true
  exit : is_last_exit m.past.actions event ≡ true
  task : is_task_new m.past.bases event ≡ true
  known : places_known m.past.bases event ≡ true
  block : blocks_free m.past.actions event ≡ true
  rest : is_rest_right m event ≡ true

comes_by_parts : (m : Moving) (who : Who) (object : ObjectNo) → somebody_eq m.past.runner (Some who) ≡ true
    → somebody_eq (who_of (head_of m.past.queue)) (Some who) ≡ true
    → is_within (own_level who m.past.bases m.agent) (level_of object.0 m.ceilings) ≡ true → comes_rightly who object m ≡ true
comes_by_parts m who object own first low =
    and_from (somebody_eq m.past.runner (Some who) && somebody_eq (who_of (head_of m.past.queue)) (Some who))
    (is_within (own_level who m.past.bases m.agent) (level_of object.0 m.ceilings))
    (and_from (somebody_eq m.past.runner (Some who)) (somebody_eq (who_of (head_of m.past.queue)) (Some who)) own first) low

known_by_part : (who : Who) (m : Moving) → has_base m.past.bases who ≡ true → is_known who m ≡ true
known_by_part (subject.Task task) m e = e
known_by_part subject.Agent m e = refl

moved_by_parts : (m : Moving) (event : Event) → Parts m event → is_moved_rightly m event ≡ true
moved_by_parts m (line.Ready who level Head deadline) h =
    and_from (is_known who m && is_dated_rightly who deadline) (somebody_eq m.past.runner (Some who))
    (and_from (is_known who m) (is_dated_rightly who deadline) (known_by_part who m h.known) h.dated) h.own
moved_by_parts m (line.Ready who level Tail deadline) h =
    let rest = and_parts (is_agent_level who level m) (may_be_behind who m) h.rest in
    and_from (is_known who m && is_dated_rightly who deadline && is_agent_level who level m) (may_be_behind who m)
    (and_from (is_known who m && is_dated_rightly who deadline) (is_agent_level who level m)
    (and_from (is_known who m) (is_dated_rightly who deadline) (known_by_part who m h.known) h.dated) rest.0) rest.1
moved_by_parts m (line.Block who why) h = h.block
moved_by_parts m (line.Done task) h = h.rest
moved_by_parts m (line.Enter (subject.Task task) object mode) h = comes_by_parts m (subject.Task task) object h.own h.first h.low
moved_by_parts m (line.Enter subject.Agent object mode) h = comes_by_parts m subject.Agent object h.own h.first h.rest
moved_by_parts m (line.Held (subject.Task task) object mode) h = comes_by_parts m (subject.Task task) object h.own h.first h.low
moved_by_parts m (line.Held subject.Agent object mode) h = comes_by_parts m subject.Agent object h.own h.first h.rest
moved_by_parts m (line.Exit who object) h = h.exit
moved_by_parts m (line.New (created.Task task) name level) h = h.task
moved_by_parts m (line.New (created.Object object) name level) h = h.new
moved_by_parts m _ h = refl

-- a law of a part of what is shown is one of the whole
at_part : {S : Type 0} (see : S → Event → S) (s : S) (part : Moving → S) (lawful : S → Event → Bool) (lines : List TraceLine)
    → ((m : Moving) (event : Event) → part (moving_after m event) ≡ see (part m) event) → part nothing_moving ≡ s
    → AtEachLine see s (λ t event. IsTrue (lawful t event)) lines
    → AtEachLine moving_after nothing_moving (λ m event. IsTrue (lawful (part m) event)) lines
at_part see s part lawful lines same start law front x back e =
    subst (λ t. lawful t x.1 ≡ true) (sym (seen_part moving_after see part same nothing_moving front))
    (subst (λ t. lawful (seen_from see t front) x.1 ≡ true) (sym start) (law front x back e))

pub rest_moves_rightly : RestMovesRightly
rest_moves_rightly p low script bound rest =
    let lines = run_of p script bound in
    record {
      moved = λ front x back e. moved_by_parts (seen_from moving_after nothing_moving front) x.1 (record {
        own = at_part runner_after None (λ (m : Moving). m.past.runner) is_own lines (λ m event. refl) refl (runs_tell_own_lines p script bound) front x back e;
        first =
            at_part queue_after [] (λ (m : Moving). m.past.queue) is_first_entry lines (λ m event. refl) refl (runs_enter_first p script bound) front x back e;
        dated =
            at_part shows_nothing tt nothing_in (λ s event. places_dated event) lines (λ m event. refl) refl (runs_date_rightly p low script bound) front x back
            e;
        low = at_part see_levels no_levels levels_in enters_low lines (λ m event. refl) refl (runs_enter_low p script bound) front x back e;
        new =
            at_part ceilings_after [] (λ (m : Moving). m.ceilings) is_object_new lines (λ m event. refl) refl (runs_number_objects p script bound) front x back
            e;
        exit =
            at_part actions_after [] (λ (m : Moving). m.past.actions) is_last_exit lines (λ m event. refl) refl (runs_exit_last p script bound) front x back e;
        task =
            at_part bases_after [] (λ (m : Moving). m.past.bases) is_task_new lines (λ m event. refl) refl (runs_number_tasks p script bound) front x back e;
        known =
            at_part bases_after [] (λ (m : Moving). m.past.bases) places_known lines (λ m event. refl) refl (runs_place_known p script bound) front x back e;
        block =
            at_part actions_after [] (λ (m : Moving). m.past.actions) blocks_free lines (λ m event. refl) refl (runs_block_free p script bound) front x back e;
        rest = rest.moved front x back e;
      });
      holders = rest.holders;
      low = rest.low;
      first = runs_enter_fresh p script bound;
    }
