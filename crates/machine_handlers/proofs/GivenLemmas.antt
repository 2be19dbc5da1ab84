-- Values that are given one after another, and exceptions in their place, as one value.
use Rattle.std.proofs.Common.{◌≡◌, Bool, true, false, List, Ok, Err, refl}
use Rattle.ann_base.specs.Results.{◌>>=◌}
use Rattle.ann_base.specs.declared.exceptions.Raised.{Raised}
use Rattle.trace_text.specs.declared.events.Who.{Who}
use Rattle.profile_machine.specs.declared.world.World.{World}
use Rattle.profile_machine.specs.declared.world.lines.Part.TheVariants.{Own}
use Rattle.profile_machine.specs.declared.world.lines.Said.{Said}
use Rattle.profile_machine.specs.Steps.{Step}
use Rattle.profile_machine.specs.Frames.{given, raise_if}
use Rattle.profile_machine.specs.Operators.{Valued}
use Rattle.machine_handlers.specs.Settings.{refuse_if}

module _ (name : Who) (w : World) (said : List Said) where
  -- what is given next, behind a value that is given
  pub bound : {X Y : Type 0} (r : Valued X) (g : X → Step) (f : X → Valued Y) (h : Y → Step) → ((x : X) → g x w said ≡ given Own name (f x) h w said)
      → given Own name r g w said ≡ given Own name (r >>= f) h w said
  bound (Ok x) g f h k = k x
  bound (Err e) g f h k = refl

  pub refused : {X : Type 0} (b : Bool) (e : Raised) (step : Step) (r : Valued X) (h : X → Step) → step w said ≡ given Own name r h w said
      → raise_if name b e step w said ≡ given Own name (refuse_if b e r) h w said
  refused true e step r h k = refl
  refused false e step r h k = k
