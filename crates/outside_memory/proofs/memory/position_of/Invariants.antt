use Rattle.std.proofs.Common.{◌≡◌, drop}
use Rattle.outside_memory.specs.Files.{first_named, files_of}
use Rattle.outside_memory.proofs.memory.position_of.Given as goal

-- no file before this place has the name
abbrev pub invariant-loop-place : goal.invariant-loop-place
invariant-loop-place l = first_named (drop l.place (files_of l.files)) l.name ≡ first_named (files_of l.files) l.name
