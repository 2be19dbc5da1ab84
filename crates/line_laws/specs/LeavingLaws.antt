-- Regions that are left, and their controlled objects: what the law of leaving says of the lines of every run.
use Rattle.std.specs.Prelude.{ℕ, ℤ, Bool, true, false, not, ◌&&◌, ◌==◌, if◌then◌else◌, IsTrue, List, [], ◌∷◌, length}
use Rattle.std.specs.List.{list_all}
use Rattle.trace_text.specs.declared.events.Event.{Event}
use Rattle.trace_text.specs.declared.events.Event.TheVariants as line
use Rattle.trace_text.specs.Queue.{TraceLine, AtEachLine}
use Rattle.trace_text.specs.Laws.{is_left_before, is_leaving, inits_of, regions_of, is_final_before, remember, LeftOk}
use Rattle.profile_image.specs.declared.image.Image.{Image}
use Rattle.profile_image.specs.declared.script_items.Item.{Item}
use Rattle.profile_machine.specs.Run.{run_of}

-- ---- in turn

-- the first of these that was not finalized
abbrev pub is_newest : ℕ → List ℕ → List Event → Bool
is_newest object [] past = false
is_newest object (other ∷ objects) past = if is_final_before other past then is_newest object objects past
    else object == other

-- in a region that is being left the object that was initialized last, of those that are not finalized
abbrev pub is_next_in_turn : ℕ → List Event → ℕ → Bool
is_next_in_turn object past region = is_leaving region past && not (is_left_before region past)
    && is_newest object (inits_of region past) past

-- A region has at most one `leave` and behind it at most one `left`, where all its objects are finalized. An object is
-- initialized once, in one region. It is finalized once, while its region is being left, and those that were
-- initialized there later are finalized before it. One that is assigned to is initialized and not finalized.
abbrev pub is_in_turn : List Event → Event → Bool
is_in_turn past (line.Leave who region how) = not (is_leaving region.0 past)
is_in_turn past (line.Left who region) = is_leaving region.0 past && not (is_left_before region.0 past)
    && list_all (λ o. is_final_before o past) (inits_of region.0 past)
is_in_turn past (line.Init who object region name) = length (regions_of object past) == 0
    && not (is_final_before object past)
is_in_turn past (line.Final who object) =
    length (regions_of object past) == 1 && not (is_final_before object past)
    && list_all (is_next_in_turn object past) (regions_of object past)
is_in_turn past (line.Replace who object) = length (regions_of object past) == 1 && not (is_final_before object past)
is_in_turn past _ = true

abbrev pub InTurn : List TraceLine → Type 0
InTurn = AtEachLine remember [] (λ past event. IsTrue (is_in_turn past event))

abbrev pub RunsLeaveInTurn : Type 0
RunsLeaveInTurn = (p : Image) (script : List (ℤ × Item)) (bound : ℕ) → InTurn (run_of p script bound)

-- ---- and the whole law of leaving

abbrev pub RunsLeaveRightly : Type 0
RunsLeaveRightly = (p : Image) (script : List (ℤ × Item)) (bound : ℕ) → LeftOk (run_of p script bound)
