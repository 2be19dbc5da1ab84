-- The facts that are kept are those that the definitions on lists say.
use Rattle.std.proofs.Common.{◌≡◌, ℕ, cond, eqb, List, [], ◌∷◌, ◌++◌, Some, refl, ap, ◌∙◌}
use Rattle.trace_text.specs.declared.events.Created.TheVariants as created
use Rattle.trace_text.specs.declared.events.Event.{Event}
use Rattle.trace_text.specs.declared.events.Event.TheVariants.{New, Base}
use Rattle.trace_text.specs.Queue.{TraceLine, Sight, see, seen_from, last_from}
use Rattle.trace_text.specs.Laws.{Levels, see_levels, level_of, ceilings_after, bases_after}
use Rattle.trace_lines.specs.Seen.{Seen, see_line, seen_after, kept_bases, kept_ceilings}
use Rattle.trace_lines.proofs.LevelLookups.{level_of-insert_entry}

pub seen_after-append : (seen : Seen) (lines : List TraceLine) (line : TraceLine) → seen_after seen (lines ++ line ∷ []) ≡ see_line (seen_after seen lines) line
seen_after-append seen [] line = refl
seen_after-append seen (first ∷ lines) line = seen_after-append (see_line seen first) lines line

pub last_from-append : (tick : ℕ) (lines : List TraceLine) (line : TraceLine) → last_from tick (lines ++ line ∷ []) ≡ line.0
last_from-append tick [] line = refl
last_from-append tick (first ∷ lines) line = last_from-append first.0 lines line

-- what the law of dispatching looks at
abbrev pub sight_in : Seen → Sight
sight_in seen = record { queue = seen.queue; runner = seen.runner }

pub sight_kept : (seen : Seen) (lines : List TraceLine) → sight_in (seen_after seen lines) ≡ seen_from see (sight_in seen) lines
sight_kept seen [] = refl
sight_kept seen (line ∷ lines) = sight_kept (see_line seen line) lines

pub tick_kept : (seen : Seen) (lines : List TraceLine) → (seen_after seen lines).tick ≡ last_from seen.tick lines
tick_kept seen [] = refl
tick_kept seen (line ∷ lines) = tick_kept (see_line seen line) lines

base_step : (number : ℕ) (kept bases : List (ℕ × ℕ)) (event : Event) → level_of number kept ≡ level_of number bases
    → level_of number (kept_bases kept event) ≡ level_of number (bases_after bases event)
base_step number kept bases (New (created.Task task) name level) h =
    level_of-insert_entry number kept task.0 level ∙ ap (cond (eqb number task.0) (Some level)) h
base_step number kept bases (Base task level) h = level_of-insert_entry number kept task.0 level ∙ ap (cond (eqb number task.0) (Some level)) h
base_step number kept bases _ h = h

ceiling_step : (number : ℕ) (kept ceilings : List (ℕ × ℕ)) (event : Event) → level_of number kept ≡ level_of number ceilings
    → level_of number (kept_ceilings kept event) ≡ level_of number (ceilings_after ceilings event)
ceiling_step number kept ceilings (New (created.Object object) name level) h =
    level_of-insert_entry number kept object.0 level ∙ ap (cond (eqb number object.0) (Some level)) h
ceiling_step number kept ceilings _ h = h

pub base_kept : (number : ℕ) (seen : Seen) (levels : Levels) (lines : List TraceLine) → level_of number seen.bases ≡ level_of number levels.bases
    → level_of number (seen_after seen lines).bases ≡ level_of number (seen_from see_levels levels lines).bases
base_kept number seen levels [] h = h
base_kept number seen levels (line ∷ lines) h =
    base_kept number (see_line seen line) (see_levels levels line.1) lines (base_step number seen.bases levels.bases line.1 h)

pub ceiling_kept : (number : ℕ) (seen : Seen) (levels : Levels) (lines : List TraceLine) → level_of number seen.ceilings ≡ level_of number levels.ceilings
    → level_of number (seen_after seen lines).ceilings ≡ level_of number (seen_from see_levels levels lines).ceilings
ceiling_kept number seen levels [] h = h
ceiling_kept number seen levels (line ∷ lines) h =
    ceiling_kept number (see_line seen line) (see_levels levels line.1) lines (ceiling_step number seen.ceilings levels.ceilings line.1 h)
