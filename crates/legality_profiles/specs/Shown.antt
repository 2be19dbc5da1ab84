-- A name of a profile with its parameter, as definitions see it.
use Rattle.ada_regions.specs.Words.{all_of}
use Rattle.ada_tree.specs.declared.declarations.Parameter.{Parameter}
use Rattle.ada_tree.specs.declared.names.Identifier.{Identifier}
use Rattle.legality_profiles.specs.declared.named.Named.{Named}
use Rattle.std.specs.Prelude.{List, map}

abbrev pub named_shown : Named → Identifier × Parameter
named_shown x = (x.name.now, x.parameter.now)

-- a name with its parameter
abbrev pub named_with : Parameter → Identifier → Identifier × Parameter
named_with p i = (i, p)

-- the names of a parameter
abbrev pub named_in : Parameter → List (Identifier × Parameter)
named_in p = map (named_with p) (all_of p.names)
