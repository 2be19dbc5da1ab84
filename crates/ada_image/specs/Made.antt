-- What a function of a step has done.
use Rattle.std.specs.Prelude.{◌≡◌, Result, IfOk}
use Rattle.ada_image.specs.declared.making.Lists.{Lists}
use Rattle.ada_image.specs.Making.{Making}

-- where it answers, the step leads from the lists before to those behind, and gives that answer; where memory ran out
-- nothing is said
abbrev pub Made : {X E : Type 0} → Making X → Lists → Lists → Result X E → Type 0
Made step before after result = IfOk result (λ x. step before ≡ (after, x))
