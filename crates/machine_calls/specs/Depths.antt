-- Where a construct stands that has so many below it.
use Rattle.std.specs.Prelude.{ℕ, ◌-◌, cond, List, Option, Some, None, length, ltb}
use Rattle.profile_machine.specs.declared.world.marks.Frame.{Frame}

abbrev pub place_at : ℕ → List Frame → Option ℕ
place_at depth frames = cond (ltb depth (length frames)) (Some (length frames - depth - 1)) None
