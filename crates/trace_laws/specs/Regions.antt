-- What is kept of regions and of the controlled objects in them, and what the law of leaving says by it (7.6.1).
use Rattle.std.specs.Prelude.{ℕ, Bool, true, not, ◌&&◌, ◌||◌, ◌==◌, if◌then◌else◌, List, [], ◌∷◌, ◌++◌}
use Rattle.std.specs.List.{list_all, list_any}
use Rattle.trace_text.specs.declared.events.Event.{Event}
use Rattle.trace_text.specs.declared.events.Event.TheVariants.{Leave, Init, Final, Left, Replace}
use Rattle.trace_text.specs.Laws.{has, is_front_of}
use Rattle.trace_laws.specs.declared.regions.Registration.{Registration}
use Rattle.trace_laws.specs.declared.regions.Regions.{Regions}

-- The `init`, `final`, `leave` and `left` lines, the last first.
pub record Leavings : Type 0 where
  pub inits : List Registration
  pub finals : List ℕ
  pub leaves : List ℕ
  pub lefts : List ℕ

abbrev pub no_leavings : Leavings
no_leavings = record { inits = []; finals = []; leaves = []; lefts = [] }

abbrev pub leavings_in : Regions → Leavings
leavings_in regions = record {
  inits = regions.inits.items;
  finals = regions.finals.items;
  leaves = regions.leaves.items;
  lefts = regions.lefts.items;
}

abbrev pub leavings_after : Leavings → Event → Leavings
leavings_after state (Init who object region name) = record state {
  inits = record { object = object; region = region.0 } ∷ state.inits;
}
leavings_after state (Final who object) = record state { finals = object ∷ state.finals }
leavings_after state (Leave who region how) = record state { leaves = region.0 ∷ state.leaves }
leavings_after state (Left who region) = record state { lefts = region.0 ∷ state.lefts }
leavings_after state _ = state

-- the objects of a region, the last first
abbrev pub objects_in : ℕ → List Registration → List ℕ
objects_in region [] = []
objects_in region (init ∷ inits) = if region == init.region then init.object ∷ objects_in region inits
    else objects_in region inits

-- the objects of these that were finalized, the first first
abbrev pub finals_in : List ℕ → List ℕ → List ℕ
finals_in objects [] = []
finals_in objects (final ∷ finals) = if has final objects then finals_in objects finals ++ final ∷ []
    else finals_in objects finals

abbrev pub is_open : Leavings → ℕ → Bool
is_open state region = has region state.leaves && not (has region state.lefts)

abbrev pub is_next_final_in : Leavings → ℕ → ℕ → Bool
is_next_final_in state object region = is_open state region
    && is_front_of (finals_in (objects_in region state.inits) state.finals ++ object
    ∷ []) (objects_in region state.inits)

abbrev pub is_registered : Leavings → ℕ → Bool
is_registered state object = list_any (λ init. object == init.object) state.inits

-- in each region of the object
abbrev pub is_next_final_of : Leavings → ℕ → Registration → Bool
is_next_final_of state object init = not (object == init.object) || is_next_final_in state object init.region

abbrev pub is_left_rightly : Leavings → Event → Bool
is_left_rightly state (Leave who region how) = not (has region.0 state.leaves)
is_left_rightly state (Left who region) = is_open state region.0
    && is_front_of (objects_in region.0 state.inits) (finals_in (objects_in region.0 state.inits) state.finals)
is_left_rightly state (Init who object region name) = not (has region.0 state.leaves) && not (has object state.finals)
is_left_rightly state (Final who object) = is_registered state object
    && list_all (is_next_final_of state object) state.inits
is_left_rightly state (Replace who object) = is_registered state object && not (has object state.finals)
is_left_rightly state _ = true
