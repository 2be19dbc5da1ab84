-- A body beside the one around it, one construct at a time.
use Rattle.std.specs.Prelude.{List, None, Option, Some, [], ◌++◌, ◌∷◌}
use Rattle.ada_regions.specs.declared.types.AdaType.{AdaType}
use Rattle.ada_legality.specs.declared.standing.Around.{Around}
use Rattle.ada_legality.specs.Findings.{Found}
use Rattle.ada_legality.specs.Reading.{function_in_unit}

-- a function that is an operation of the unit in whose body it stands, where a construct stands
-- inside this one
abbrev pub function_beside : AdaType → Option Around → Around → Found
function_beside t None around = []
function_beside t (Some inner) around = function_in_unit t inner (around ∷ [])

-- those of the constructs further out
abbrev pub functions_along : AdaType → Option Around → List Around → Found
functions_along t inner [] = []
functions_along t inner (a ∷ outer) = function_beside t inner a ++ functions_along t (Some a) outer
