use Rattle.std.proofs.Common.{◌≡◌, ◌++◌, drop, map}
use Rattle.std.specs.Char.{to_ascii_uppercase}
use Rattle.image_layout.proofs.subprograms.upper.Given as goal

-- the letters so far and those that are to come are all of them
abbrev pub invariant-loop-byte : goal.invariant-loop-byte
invariant-loop-byte l = l.upper ++ map to_ascii_uppercase (drop l.byte-index l.text) ≡ map to_ascii_uppercase l.text
