use Rattle.std.proofs.Common.{◌≡◌, ◌++◌, take}
use Rattle.ada_entities.proofs.texts.append.Given as goal

-- the bytes so far stand behind those of the beginning
abbrev pub invariant-loop-byte : goal.invariant-loop-byte
invariant-loop-byte l = l.text ≡ l.initial.text ++ take l.byte-index l.bytes
