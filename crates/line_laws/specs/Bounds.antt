-- The bound of a run cuts it off, and changes nothing before.
use Rattle.std.specs.Prelude.{◌≡◌, ◌≢◌, ℕ, ℤ, suc, ◌+◌, ◌<◌, List, [], ◌∷◌, ◌++◌}
use Rattle.trace_text.specs.declared.events.Event.TheVariants as line
use Rattle.trace_text.specs.declared.events.Ended.TheVariants as why
use Rattle.trace_text.specs.Queue.{TraceLine, RisesFrom, up_to}
use Rattle.profile_image.specs.declared.image.Image.{Image}
use Rattle.profile_image.specs.declared.script_items.Item.{Item}
use Rattle.profile_machine.specs.Run.{Ran, opening, run_from, run, run_of}

-- The shorter lines are a front of the longer ones, but for the `end` line at the bound; what the longer ones have
-- behind that front is at the bound or later.
pub record AreCutAt (bound : ℕ) (short long : List TraceLine) : Type 0 where
  pub front : List TraceLine
  pub rest : List TraceLine
  pub short_is : short ≡ front ++ (bound, line.End why.Bound) ∷ []
  pub long_is : long ≡ front ++ rest
  pub later : RisesFrom bound rest

-- A run that ended by itself is the same under a greater bound; one that the bound ended goes on.
pub record GoesOn (bound : ℕ) (short long : Ran) : Type 0 where
  pub ended : short.stop ≢ why.Bound → long ≡ short
  pub cut : short.stop ≡ why.Bound → AreCutAt bound short.lines long.lines

abbrev pub LongerRunsGoOn : Type 0
LongerRunsGoOn = (p : Image) (script : List (ℤ × Item)) (bound more : ℕ)
    → GoesOn bound (run p script bound) (run p script (bound + more))

-- the lines up to a tick below the bound are those of a run under any greater bound
abbrev pub BoundsChangeNothingBefore : Type 0
BoundsChangeNothingBefore = (p : Image) (script : List (ℤ × Item)) (bound more tick : ℕ) → tick < bound
    → up_to tick (run_of p script (bound + more)) ≡ up_to tick (run_of p script bound)

-- A run counts down one for each tick, from one more than the bound. Had it more to count down, it would be the same.
abbrev pub RunsHaveTicksLeft : Type 0
RunsHaveTicksLeft = (p : Image) (script : List (ℤ × Item)) (bound more : ℕ)
    → run_from (suc bound + more) p bound (opening p script).0 ≡ run_from (suc bound) p bound (opening p script).0
