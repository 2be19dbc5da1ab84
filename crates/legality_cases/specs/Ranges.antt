-- A choice with a range of values, behind what is found in its ends.
use Rattle.std.specs.Prelude.{Option, ◌++◌}
use Rattle.ada_legality.specs.CallStatements.{not_static}
use Rattle.ada_legality.specs.Findings.{Found}
use Rattle.ada_legality.specs.Reading.{expected}
use Rattle.ada_legality.specs.declared.reading.Read.{Read}
use Rattle.ada_legality.specs.declared.standing.Known.{Known}
use Rattle.ada_regions.specs.declared.types.AdaType.{AdaType}
use Rattle.ada_tree.specs.declared.expressions.Expression.{Expression}
use Rattle.ada_legality.specs.declared.reading.Asked.TheVariants as asking
use Rattle.ada_legality.specs.declared.rules.Rule.TheVariants as rule

-- what the ends of a range break, which are read
abbrev pub range_judged : Known → Option AdaType → Expression → Read → Expression → Read → Found
range_judged k t low l high h =
    expected asking.ForValue t l ++ (expected asking.ForValue t h
    ++ (not_static rule.ConditionsAndChoices k low l.place
    ++ not_static rule.ConditionsAndChoices k high h.place))
