-- What a function of an effect has done: a step of the machine.
use Rattle.std.specs.Prelude.{◌≡◌}
use Rattle.profile_machine.specs.Steps.{Step, done}
use Rattle.machine_frames.specs.declared.effects.Effect.{Effect}

-- the step leads from the world before, with what was said by then, to the world behind, with what is said by now
abbrev pub Did : Step → Effect → Effect → Type 0
Did step before after = step before.world before.said ≡ done after.world after.said
