-- What a text says of names, in the order in which it says it: where a declarative region begins and ends, where a
-- name is hidden, declared or used. Everything about regions and visibility is said of this list alone.
use Rattle.std.specs.Prelude.{Bool, List, [], ◌∷◌, ◌++◌, Option, Some, None}
use Rattle.std.specs.List.{flat_map}
use Rattle.ann_base.specs.declared.places.Place.{Place}
use Rattle.ada_tree.specs.declared.names.Identifier.{Identifier}
use Rattle.ada_tree.specs.declared.names.Name.{Name}
use Rattle.ada_tree.specs.declared.names.OneOrMore.{OneOrMore}
use Rattle.ada_tree.specs.declared.expressions.Expression.{Expression}
use Rattle.ada_tree.specs.declared.declarations.Parameter.{Parameter}
use Rattle.ada_tree.specs.declared.declarations.SubtypeIndication.{SubtypeIndication}
use Rattle.ada_tree.specs.declared.declarations.ObjectDeclaration.{ObjectDeclaration}
use Rattle.ada_tree.specs.declared.declarations.Component.{Component}
use Rattle.ada_tree.specs.declared.declarations.Aspect.{Aspect}
use Rattle.ada_tree.specs.declared.declarations.SubprogramSpecification.{SubprogramSpecification}

-- What a declaration declares.
pub data Declared : Type 0 where
  the_package : Declared
  the_main_procedure : Declared
  an_object : ObjectDeclaration → Declared
  a_component : Component → Declared
  -- of a body or an accept statement, which has cells for it, or of a declaration
  a_parameter : Bool → Parameter → Declared
  a_loop_parameter : Declared
  an_enumeration : OneOrMore Identifier → Declared
  -- of the newest enumeration type
  a_literal : Declared
  an_array : Expression → Expression → SubtypeIndication → Declared
  a_derived_type : Name → Declared
  a_subtype : SubtypeIndication → Declared
  an_exception : Declared
  a_label : Declared
  a_subprogram : SubprogramSpecification → Declared
  an_entry : List Parameter → Declared
  -- a type or a single object
  a_task : Bool → List Aspect → Declared
  a_protected : Bool → List Aspect → Declared

-- Which region begins. A place is that of the construct's first word, by which its scope is found again.
pub data Region : Type 0 where
  -- the context of a library unit; that of a package's declaration, again, and what its body adds to it
  the_context : Region
  the_context_of : Identifier → Region
  further_context : Region
  package_region : Identifier → Region
  package_body : Identifier → Region
  main_body : Identifier → Place → Region
  -- the parameters of a declaration
  a_profile : Region
  subprogram_body : Place → Bool → Region
  -- a task or protected unit; its body
  a_unit : Identifier → Region
  task_body : Identifier → Place → Region
  protected_body : Identifier → Region
  -- with its barrier
  entry_body : Identifier → Place → Expression → Region
  an_accept : Identifier → Place → Region
  a_block : Option Identifier → Place → Region
  a_loop : Option Identifier → Region
  -- the components of a controlled type
  a_record : Identifier → Region

pub data Occurrence : Type 0 where
  begins : Region → Occurrence
  ends : Occurrence
  -- from here on the declarations of the region are private (7.3, 9.4)
  private_from_here : Occurrence
  -- the name is hidden until its declaration ends (8.3)
  hides : Identifier → Occurrence
  -- the same, where it is not the body of a declared subprogram
  heads : Identifier → Occurrence
  declares : Identifier → Declared → Occurrence
  -- a library unit is declared, in the region of Standard (10.1)
  declares_unit : Identifier → Declared → Occurrence
  -- the `is` of a subprogram's body: it completes its declaration, or declares it (3.11.1, 6.3)
  completes : Identifier → SubprogramSpecification → Occurrence
  -- the region has this name in expanded names from here on
  is_called : Identifier → Occurrence
  -- a name is used
  mentions : Name → Occurrence
  mentions_simply : Identifier → Occurrence
  -- the name of an entry's body: an entry of the unit (9.5.2)
  mentions_entry : Identifier → Occurrence
  -- with and use clauses (10.1.2, 8.4)
  with_unit : Name → Occurrence
  use_package : Name → Occurrence

abbrev pub Occurrences : Type 0
Occurrences = List Occurrence

-- ---- lists

abbrev pub in_all : {X : Type 0} → (X → Occurrences) → OneOrMore X → Occurrences
in_all f xs = f xs.first ++ flat_map f xs.others

abbrev pub if_there : {X : Type 0} → (X → Occurrences) → Option X → Occurrences
if_there f None = []
if_there f (Some x) = f x

abbrev pub one : Occurrence → Occurrences
one o = o ∷ []

abbrev pub within_region : Region → Occurrences → Occurrences
within_region r inside = begins r ∷ (inside ++ one ends)

-- each identifier of a list is hidden, or declared as this
abbrev pub hides_all : OneOrMore Identifier → Occurrences
hides_all names = in_all (λ i. one (hides i)) names

abbrev pub declares_all : Declared → OneOrMore Identifier → Occurrences
declares_all what names = in_all (λ i. one (declares i what)) names

-- A sequence with its parts apart: its declarations, the labels of its statements, which are declared at the end of the
-- declarative part of the body or block around them (5.1), and its statements with their handlers.
pub record SequenceNames : Type 0 where
  pub declarations : Occurrences
  pub labels : Occurrences
  pub statements : Occurrences

abbrev pub in_body : SequenceNames → Occurrences
in_body s = s.declarations ++ (s.labels ++ s.statements)
