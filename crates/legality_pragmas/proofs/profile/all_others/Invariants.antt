use Rattle.std.proofs.Common.{◌≡◌, drop}
use Rattle.std.specs.List.{list_all}
use Rattle.ada_legality.specs.Pragmas.{is_restriction}
use Rattle.legality_pragmas.proofs.profile.all_others.Given as goal

-- the arguments that are to come keep what all of them keep
abbrev pub invariant-loop-argument : goal.invariant-loop-argument
invariant-loop-argument l = list_all is_restriction (drop l.argument-index l.arguments) ≡ list_all is_restriction l.arguments
