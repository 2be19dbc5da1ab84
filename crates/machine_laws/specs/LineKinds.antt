-- Which lines come from where: instants say what comes about, tocks say who runs, and the last line of a run is its
-- end.
use Rattle.std.specs.Prelude.{◌≡◌, Bool, true, false, List, [], ◌∷◌}
use Rattle.trace_text.specs.declared.events.Event.{Event}
use Rattle.trace_text.specs.declared.events.Event.TheVariants as line
use Rattle.profile_image.specs.declared.image.Image.{Image}
use Rattle.profile_machine.specs.declared.world.World.{World}
use Rattle.profile_machine.specs.Instant.{instant}
use Rattle.profile_machine.specs.Run.{tock}

-- the lines that a tock says
abbrev pub is_of_tock : Event → Bool
is_of_tock (line.Run name) = true
is_of_tock line.Idle = true
is_of_tock (line.Serve release) = true
is_of_tock _ = false

abbrev pub is_no_end : Event → Bool
is_no_end (line.End reason) = false
is_no_end _ = true

-- the lines that effects say are all others
abbrev pub is_of_effect : Event → Bool
is_of_effect (line.Run name) = false
is_of_effect line.Idle = false
is_of_effect (line.Serve release) = false
is_of_effect (line.End reason) = false
is_of_effect _ = true

abbrev pub AllAre : (Event → Bool) → List Event → Type 0
AllAre test [] = Unit {0}
AllAre test (x ∷ xs) = (test x ≡ true) × AllAre test xs

-- `run`, `idle` and `serve` come from tocks alone, and tocks say nothing else; neither says `end`
abbrev pub InstantsSayEffects : Type 0
InstantsSayEffects = (p : Image) (w : World) → AllAre is_of_effect (instant p w).1

abbrev pub TocksSayTicks : Type 0
TocksSayTicks = (p : Image) (w : World) → AllAre is_of_tock (tock p w).1
