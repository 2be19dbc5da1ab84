-- What is kept of a list of lines to tell which law a further line breaks, and what is answered of a list.
use Rattle.std.specs.Prelude.{◌≡◌, ℕ, Bool, not, ◌&&◌, ◌||◌, ◌==◌, if◌then◌else◌, nat_le}
use Rattle.std.specs.Prelude.{List, [], ◌∷◌, Option, Some, None, Result, Ok, Err}
use Rattle.std.specs.Option.{option_to_list}
use Rattle.trace_text.specs.declared.events.Action.{Action}
use Rattle.trace_text.specs.declared.events.Event.{Event}
use Rattle.trace_text.specs.declared.events.Event.TheVariants.{Release, Serve, Served}
use Rattle.trace_text.specs.Queue.{TraceLine, somebody_eq, who_of, head_of}
use Rattle.trace_text.specs.Laws.{Levels, is_below_ceiling, actions_after, is_exclusive, Releases}
use Rattle.trace_text.specs.Laws.{is_in_order, is_agent_right, follows_dispatch, follows_ceilings}
use Rattle.trace_text.specs.Laws.{follows_exclusion, follows_handlers, follows_leaving, follows_form}
use Rattle.trace_lines.specs.Seen.{Seen, nothing_kept, see_line, is_formed_after}
use Rattle.trace_laws.specs.Regions.{Leavings, no_leavings, leavings_after, is_left_rightly}
use Rattle.trace_laws.specs.declared.counts.Counts.{Counts}
use Rattle.trace_laws.specs.declared.laws.Law.{Law}
use Rattle.trace_laws.specs.declared.laws.Law.TheVariants.{Dispatch, Ceiling, Exclusive, Handlers, Left}
use Rattle.trace_laws.specs.declared.laws.LawFault.{LawFault}
use Rattle.trace_laws.specs.declared.laws.LawFault.TheVariants.{Malformed, Broken}

-- the facts of the list, the open actions, the numbers of releases, the regions
pub record Watched : Type 0 where
  pub seen : Seen
  pub actions : List Action
  pub counts : Counts
  pub leavings : Leavings

abbrev pub nothing_counted : Counts
nothing_counted = record { released = 0; begun = 0; served = 0; serving = None }

-- no release is being served any more, if it was this one
abbrev pub other_than : ℕ → Option ℕ → Option ℕ
other_than number None = None
other_than number (Some other) = if number == other then None else Some other

abbrev pub counts_after : Counts → Event → Counts
counts_after counts (Release release object handler) = record counts { released = release }
counts_after counts (Serve release) = record counts { begun = release; serving = Some release }
counts_after counts (Served release) = record counts { served = release; serving = other_than release counts.serving }
counts_after counts _ = counts

abbrev pub nothing_watched : Watched
nothing_watched = record { seen = nothing_kept; actions = []; counts = nothing_counted; leavings = no_leavings }

-- one line more
abbrev pub watch_line : Watched → TraceLine → Watched
watch_line watched line = record {
  seen = see_line watched.seen line;
  actions = actions_after watched.actions line.1;
  counts = counts_after watched.counts line.1;
  leavings = leavings_after watched.leavings line.1;
}

abbrev pub watched_after : Watched → List TraceLine → Watched
watched_after watched [] = watched
watched_after watched (line ∷ lines) = watched_after (watch_line watched line) lines

abbrev pub watched_of : List TraceLine → Watched
watched_of = watched_after nothing_watched

-- what is kept stands for a list of lines
abbrev pub StandsFor : Watched → List TraceLine → Type 0
StandsFor watched lines = watched ≡ watched_of lines

-- before a later tick the head of the ready queue runs
abbrev pub is_dispatch_kept : Seen → ℕ → Bool
is_dispatch_kept seen tick = nat_le tick seen.tick || somebody_eq seen.runner (who_of (head_of seen.queue))

abbrev pub levels_in : Seen → Levels
levels_in seen = record { entries = seen.queue; ceilings = seen.ceilings; bases = seen.bases }

abbrev pub releases_in : Seen → Counts → Releases
releases_in seen counts = record {
  sight = record { queue = seen.queue; runner = seen.runner };
  released = counts.released;
  begun = counts.begun;
  served = counts.served;
  serving = option_to_list counts.serving;
}

abbrev pub are_handlers_kept : Seen → Counts → ℕ → Event → Bool
are_handlers_kept seen counts tick event = is_in_order (releases_in seen counts) event
    && (nat_le tick seen.tick || is_agent_right (releases_in seen counts))

-- the first law that a list with this line breaks
abbrev pub broken_by : Watched → ℕ → Event → Option Law
broken_by watched tick event =
    if not (is_dispatch_kept watched.seen tick) then Some Dispatch
    else (if not (is_below_ceiling (levels_in watched.seen) event) then Some Ceiling
    else (if not (is_exclusive watched.actions event) then Some Exclusive
    else (if not (are_handlers_kept watched.seen watched.counts tick event) then Some Handlers
    else (if not (is_left_rightly watched.leavings event) then Some Left else None))))

abbrev pub fault_of : Option Law → Result (Unit {0}) LawFault
fault_of None = Ok tt
fault_of (Some law) = Err (Broken law)

abbrev pub answer_after : Watched → ℕ → Event → Result (Unit {0}) LawFault
answer_after watched tick event = if is_formed_after watched.seen tick event
    then fault_of (broken_by watched tick event) else Err Malformed

-- the first law that a list breaks
abbrev pub first_broken : List TraceLine → Option Law
first_broken lines =
    if not (follows_dispatch lines) then Some Dispatch
    else (if not (follows_ceilings lines) then Some Ceiling
    else (if not (follows_exclusion lines) then Some Exclusive
    else (if not (follows_handlers lines) then Some Handlers
    else (if not (follows_leaving lines) then Some Left else None))))

-- what is answered of a list: that it is not formed, or else the first law that it breaks
abbrev pub answer_of : List TraceLine → Result (Unit {0}) LawFault
answer_of lines = if follows_form lines then fault_of (first_broken lines) else Err Malformed
