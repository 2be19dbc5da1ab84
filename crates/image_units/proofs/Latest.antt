-- The first of three that is there.
use Rattle.std.proofs.Common.{◌≡◌, Option, Some, None, refl}
use Rattle.std.specs.Option.{option_or}

pub or_else_none : {X : Type 0} (a : Option X) → option_or a None ≡ a
or_else_none None = refl
or_else_none (Some x) = refl

pub or_else_three : {X : Type 0} (a b c : Option X) → option_or (option_or a b) c ≡ option_or a (option_or b c)
or_else_three None b c = refl
or_else_three (Some x) b c = refl

pub ruleset latest_laws = (or_else_none, or_else_three)
