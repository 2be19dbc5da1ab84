use Rattle.std.proofs.Common.{◌≡◌, ◌<◌, ◌^◌, drop}
use Rattle.ada_lex.specs.Shapes.{value_behind, value_of}
use Rattle.ada_lex.proofs.scan.value_of.Given as goal

abbrev pub invariant-loop-digit : goal.invariant-loop-digit
invariant-loop-digit l = record { small : l.value < 2 ^ 128; rest : value_behind (drop l.digit-index l.digits) l.value ≡ value_of l.digits }
