-- The choices of the handlers of a sequence, one at a time.
use Rattle.std.specs.Prelude.{List, None, Option, Some, [], take, ℕ, ◌&&◌, ◌+◌, ◌++◌, ◌∷◌}
use Rattle.std.specs.List.{list_any}
use Rattle.ada_legality.specs.Findings.{Found, broken, broken_if}
use Rattle.ada_legality.specs.Places.{place_of}
use Rattle.ada_legality.specs.ReadExpressions.{unless_denoted}
use Rattle.ada_legality.specs.SimpleStatements.{denotes_exception}
use Rattle.ada_legality.specs.Values.{is_denoted}
use Rattle.ada_legality.specs.Words.{same_named}
use Rattle.ada_legality.specs.declared.standing.Known.{Known}
use Rattle.ada_tree.specs.declared.names.Name.{Name}
use Rattle.ada_tree.specs.declared.statements.HandledExceptions.{HandledExceptions}
use Rattle.ann_base.specs.declared.places.Place.{Place}
use Rattle.ada_tree.specs.declared.statements.HandledExceptions.TheVariants as exceptions
use Rattle.ada_legality.specs.declared.rules.Rule.TheVariants as rule

-- a name behind these
abbrev pub name_judged : Known → List Name → Name → Found
name_judged k before x =
    unless_denoted (denotes_exception k) k x
    ++ broken_if rule.RaiseAndHandlers
    (is_denoted (denotes_exception k) k x && list_any (same_named k.names x) before) (place_of x)

-- the names from a place on
abbrev pub repeated_along : Known → List Name → ℕ → List Name → Found
repeated_along k names at [] = []
repeated_along k names at (x ∷ xs) =
    name_judged k (take at names) x ++ repeated_along k names (at + 1) xs

-- where the word `others` stands
abbrev pub others_place : HandledExceptions → Option Place
others_place (exceptions.Named names) = None
others_place (exceptions.Others place) = Some place

-- a handler for all others, behind which another one stands
abbrev pub others_here : Option Place → Found
others_here None = []
others_here (Some place) = broken rule.RaiseAndHandlers place ∷ []

-- the handlers behind one
abbrev pub others_behind : Option Place → List HandledExceptions → Found
others_behind before [] = []
others_behind before (h ∷ rest) = others_here before ++ others_behind (others_place h) rest
