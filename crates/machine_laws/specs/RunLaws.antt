-- The lines of a run: each at a tick up to the bound, no tick below the one before, and last of all the reason why it
-- ended.
use Rattle.std.specs.Prelude.{◌≡◌, ℕ, ℤ, ◌≤◌, true, List, [], ◌∷◌, ◌++◌}
use Rattle.trace_text.specs.declared.events.Event.TheVariants as line
use Rattle.trace_text.specs.declared.events.Ended.TheVariants as why
use Rattle.trace_text.specs.Queue.{TraceLine, RisesFrom}
use Rattle.profile_image.specs.declared.image.Image.{Image}
use Rattle.profile_image.specs.declared.script_items.Item.{Item}
use Rattle.profile_machine.specs.declared.world.World.{World}
use Rattle.profile_machine.specs.Run.{Ran, run, run_of}
use Rattle.machine_laws.specs.Reached.{Reached}
use Rattle.machine_laws.specs.LineKinds.{is_no_end}

abbrev pub AllUpTo : ℕ → List TraceLine → Type 0
AllUpTo bound [] = Unit {0}
AllUpTo bound (x ∷ xs) = (x.0 ≤ bound) × AllUpTo bound xs

-- no run goes on past its bound, neither a world of it nor a line
abbrev pub WorldsStayWithin : Type 0
WorldsStayWithin = (p : Image) (script : List (ℤ × Item)) (bound : ℕ) (w : World) → Reached p script bound w
    → w.time ≤ bound

abbrev pub LinesStayWithin : Type 0
LinesStayWithin = (p : Image) (script : List (ℤ × Item)) (bound : ℕ) → AllUpTo bound (run_of p script bound)

-- no line stands at a tick below that of the one before
abbrev pub TicksNeverFall : Type 0
TicksNeverFall = (p : Image) (script : List (ℤ × Item)) (bound : ℕ) → RisesFrom 0 (run_of p script bound)

abbrev pub NoneEnds : List TraceLine → Type 0
NoneEnds [] = Unit {0}
NoneEnds (x ∷ xs) = (is_no_end x.1 ≡ true) × NoneEnds xs

-- its last line says why it stopped, and no line before it does; where the bound was the reason it stands at the bound
pub record EndsAt (bound : ℕ) (r : Ran) : Type 0 where
  pub front : List TraceLine
  pub last : ℕ
  pub shape : r.lines ≡ front ++ (last, line.End r.stop) ∷ []
  pub once : NoneEnds front
  pub at_bound : r.stop ≡ why.Bound → last ≡ bound

abbrev pub RunsEnd : Type 0
RunsEnd = (p : Image) (script : List (ℤ × Item)) (bound : ℕ) → EndsAt bound (run p script bound)
