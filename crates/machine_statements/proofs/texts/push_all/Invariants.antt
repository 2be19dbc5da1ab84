use Rattle.std.proofs.Common.{◌≡◌, ◌++◌, take}
use Rattle.machine_statements.proofs.texts.push_all.Given as goal

-- the bytes so far stand behind those of the beginning
abbrev pub invariant-loop-byte : goal.invariant-loop-byte
invariant-loop-byte l = l.text ≡ l.initial.text ++ take l.byte-index l.more
