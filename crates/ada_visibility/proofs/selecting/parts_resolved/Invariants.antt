use Rattle.std.proofs.Common.{◌≡◌, drop}
use Rattle.ada_regions.specs.SelectedNames.{parts_resolved}
use Rattle.ada_visibility.proofs.selecting.parts_resolved.Given as goal

-- what the parts that are to come lead to is what all lead to
abbrev pub invariant-loop-part : goal.invariant-loop-part
invariant-loop-part l = parts_resolved l.before (drop l.part-index l.parts) l.names ≡ parts_resolved l.fn.prefix l.parts l.fn.names
