-- Entry calls that are made.
use Rattle.std.specs.Prelude.{ℕ, ◌≡◌, ◌∷◌}
use Rattle.ann_base.specs.declared.identities.CallNo.{CallNo}
use Rattle.profile_machine.specs.declared.world.World.{World}
use Rattle.profile_machine.specs.declared.world.calls.Call.{Call}
use Rattle.profile_machine.specs.Steps.{Step}
use Rattle.profile_machine.specs.Calls.{call_drawn}
use Rattle.machine_frames.specs.declared.effects.Effect.{Effect}

abbrev pub call_number : ℕ → CallNo
call_number n = record { 0 = n }

-- a call that has its number is among the calls, and one more has been drawn
abbrev pub add_numbered : Call → World → World
add_numbered c w = record w { calls = c ∷ w.calls; drawn = call_drawn w.drawn }

-- a step that is handed a further one has been done up to it: the further one is done with this call
abbrev pub LeadsWith : ((Call → Step) → Step) → Call → Effect → Effect → Type 0
LeadsWith step made before after = (further : Call → Step)
    → step further before.world before.said ≡ further made after.world after.said
