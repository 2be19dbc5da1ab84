-- What is said of a name of a list.
use Rattle.ada_tree.specs.declared.names.Identifier.{Identifier}
use Rattle.ada_regions.specs.Occurrences.{Occurrence, hides, declares, an_object}
use Rattle.ada_regions.specs.Occurrences.{a_component, a_parameter, a_literal, an_exception}
use Rattle.ada_simple_occurrences.specs.declared.telling.Naming.{Naming}
use Rattle.ada_simple_occurrences.specs.declared.telling.Naming.TheVariants as naming

abbrev pub said_of : Naming → Identifier → Occurrence
said_of naming.Hide name = hides name
said_of (naming.Object object) name = declares name (an_object object.now)
said_of (naming.Component component) name = declares name (a_component component.now)
said_of (naming.Parameter with_cells parameter) name = declares name (a_parameter with_cells parameter.now)
said_of naming.Literal name = declares name a_literal
said_of naming.Exception name = declares name an_exception
