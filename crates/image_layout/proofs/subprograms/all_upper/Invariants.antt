use Rattle.std.proofs.Common.{◌≡◌, ◌++◌, drop, map}
use Rattle.std.specs.Char.{to_ascii_uppercase}
use Rattle.image_layout.proofs.subprograms.all_upper.Given as goal

-- the literals so far and those that are to come are all of them
abbrev pub invariant-loop-literal : goal.invariant-loop-literal
invariant-loop-literal l = l.made ++ map (map to_ascii_uppercase) (drop l.literal-index l.literals) ≡ map (map to_ascii_uppercase) l.literals
