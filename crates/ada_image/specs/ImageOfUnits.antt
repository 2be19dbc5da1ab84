-- The image of a source (7.1, 7.2, 10.1, 10.2): the library packages are elaborated one after another, then the main
-- procedure is called; and at last the initial values of declarations.
use Rattle.std.specs.Prelude.{ℕ, suc, Bool, true, false, cond, not, ◌||◌, List, [], ◌∷◌}
use Rattle.std.specs.Prelude.{◌++◌, Option, Some, None, unwrap_or, map, is_some, ◌&&◌}
use Rattle.std.specs.Bool.{then_some}
use Rattle.std.specs.List.{list_any}
use Rattle.std.specs.Str.{bytes_eq}
use Rattle.ada_tree.specs.declared.names.Identifier.{Identifier}
use Rattle.ada_tree.specs.declared.expressions.Expression.{Expression}
use Rattle.ada_tree.specs.declared.statements.Sequence.{Sequence}
use Rattle.ada_tree.specs.declared.declarations.Declaration.{Declaration}
use Rattle.ada_tree.specs.declared.units.Unit.{Unit as Tree}
use Rattle.ada_tree.specs.declared.units.LibraryPackage.{LibraryPackage}
use Rattle.ada_tree.specs.declared.units.Package.{Package}
use Rattle.ada_tree.specs.declared.units.Package.TheVariants as packages
use Rattle.ada_tree.specs.declared.units.PackageDeclaration.{PackageDeclaration}
use Rattle.ada_tree.specs.declared.units.PackageBody.{PackageBody}
use Rattle.profile_image.specs.declared.image.Image.{Image}
use Rattle.profile_image.specs.declared.image.MainProcedure.{MainProcedure}
use Rattle.profile_image.specs.declared.numbers.StatementNo.{StatementNo}
use Rattle.profile_image.specs.declared.values.Constraint.{Constraint}
use Rattle.profile_image.specs.declared.values.Constraint.TheVariants as constraint
use Rattle.profile_image.specs.declared.declarations.Declaration.{Declaration as NumberedObject}
use Rattle.profile_image.specs.declared.declarations.DeclarationKind.{DeclarationKind}
use Rattle.profile_image.specs.declared.declarations.DeclarationKind.TheVariants as kind
use Rattle.profile_image.specs.declared.declarations.Initial.{Initial}
use Rattle.profile_image.specs.declared.declarations.Initial.TheVariants as initial
use Rattle.profile_image.specs.declared.statements.StatementForm.TheVariants as action
use Rattle.ada_regions.specs.declared.types.AdaType.{AdaType}
use Rattle.ada_regions.specs.declared.types.AdaType.TheVariants as types
use Rattle.ada_regions.specs.declared.types.Subtype.{Subtype}
use Rattle.ada_regions.specs.PredefinedUnits.{default_priority}
use Rattle.ada_regions.specs.declared.table.Names.{Names}
use Rattle.ada_regions.specs.declared.table.NumberedDeclaration.{NumberedDeclaration}
use Rattle.ada_regions.specs.declared.table.Sort.{Sort}
use Rattle.ada_regions.specs.declared.table.Sort.TheVariants as sort
use Rattle.ada_regions.specs.Numbered.{names_of}
use Rattle.ada_regions.specs.TypeKinds.{is_array_type}
use Rattle.ada_image.specs.declared.making.Lists.{Lists}
use Rattle.ada_image.specs.declared.making.Within.{Within}
use Rattle.ada_image.specs.declared.making.MadeLists.{MadeLists}
use Rattle.ada_image.specs.Making.{Making, ◌>>=◌, ◌>>◌, pure, action_put, first_put, nothing_made}
use Rattle.ada_image.specs.Layout.{is_thing, subtype_is, range_of_cells, index_range, cells_of_declaration}
use Rattle.ada_image.specs.Layout.{place_behind, scope_no, scopes_made, subprogram_made, enumeration_made}
use Rattle.ada_image.specs.UnitsOfImage.{decl_no, priority_of, task_units_made, entries_made}
use Rattle.ada_image.specs.UnitsOfImage.{protected_units_made, controlled_types_made}
use Rattle.ada_image.specs.PoliciesOfImage.{policies_of}
use Rattle.ada_image.specs.ImageOfExpressions.{expression_made, expression_image}
use Rattle.ada_image.specs.ImageOfCalls.{function_call}
use Rattle.ada_image.specs.declared.making.SequencePlace.TheVariants as sequence_place
use Rattle.ada_image.specs.ImageOfStatements.{array_name, scope_at}
use Rattle.ada_image.specs.ImageOfDeclarations.{sequence_put, inner_bodies_put, declarations_put}
use Rattle.ada_image.specs.ImageOfDeclarations.{make_tasks, activation_put, body_put}

-- ---- library packages: each has a number, the same for its declaration and its body, from 1 on

abbrev pub name_of_package : Package → Identifier
name_of_package (packages.Declaration p) = p.name
name_of_package (packages.Body p) = p.name

unfoldable pub declarations_of_package : Package → Option (List (Declaration Sequence))
declarations_of_package (packages.Declaration p) = Some (p.declarations ++ unwrap_or p.private [])
declarations_of_package (packages.Body p) = None

unfoldable pub declares_package : List ℕ → LibraryPackage → Option (List (Declaration Sequence))
declares_package name l = cond (bytes_eq (name_of_package l.package).text name) (declarations_of_package l.package) None

abbrev pub is_body_of : List ℕ → Package → Bool
is_body_of name (packages.Declaration p) = false
is_body_of name (packages.Body p) = bytes_eq p.name.text name

unfoldable pub has_body : List LibraryPackage → List ℕ → Bool
has_body ls name = list_any (λ l. is_body_of name l.package) ls

-- what the package's declaration declares
unfoldable pub declared_by_package : List LibraryPackage → List ℕ → List (Declaration Sequence)
declared_by_package [] name = []
declared_by_package (l ∷ ls) name = unwrap_or (declares_package name l) (declared_by_package ls name)

abbrev pub is_declaration : Package → Bool
is_declaration (packages.Declaration p) = true
is_declaration (packages.Body p) = false

unfoldable pub part_from : ℕ → List LibraryPackage → List ℕ → ℕ
part_from number [] name = 0
part_from number (l ∷ ls) name = cond (is_declaration l.package)
    (cond (bytes_eq (name_of_package l.package).text name) number (part_from (suc number) ls name))
    (part_from number ls name)

unfoldable pub part_of : List LibraryPackage → List ℕ → ℕ
part_of ls name = part_from 1 ls name

-- ---- elaboration (10.2): what comes next is that of the later units

unfoldable pub package_declaration_put : List LibraryPackage → Within → PackageDeclaration → Option StatementNo
    → Making (Option StatementNo)
package_declaration_put ls within p next = do
  inner_bodies_put sequence_put within (p.declarations ++ unwrap_or p.private [])
  first ← activation_put (then_some (not (has_body ls p.name.text)
      && make_tasks within (p.declarations ++ unwrap_or p.private [])) (part_of ls p.name.text)) next
  declarations_put within (part_of ls p.name.text) (p.declarations ++ unwrap_or p.private []) first

unfoldable pub package_part : List LibraryPackage → Within → PackageBody → Option ℕ
package_part ls within p =
    then_some (make_tasks within p.declarations
    || make_tasks within (declared_by_package ls p.name.text)) (part_of ls p.name.text)

unfoldable pub package_statements_put : Within → Option ℕ → Option Sequence → Option StatementNo
    → Making (Option StatementNo)
package_statements_put within part None next = activation_put part next
package_statements_put within part (Some s) next = sequence_put s (sequence_place.BehindDeclarations part) within next

unfoldable pub package_body_put : List LibraryPackage → Within → PackageBody → Option StatementNo
    → Making (Option StatementNo)
package_body_put ls within p next = do
  inner_bodies_put sequence_put within p.declarations
  first ← package_statements_put within (package_part ls within p) p.sequence next
  declarations_put within (part_of ls p.name.text) p.declarations first

unfoldable pub package_put : List LibraryPackage → Within → Package → Option StatementNo → Making (Option StatementNo)
package_put ls within (packages.Declaration p) next = package_declaration_put ls within p next
package_put ls within (packages.Body p) next = package_body_put ls within p next

-- the packages of a list, from the last to the first; all of the source are given
unfoldable pub packages_put : List LibraryPackage → Within → List LibraryPackage → Option StatementNo
    → Making (Option StatementNo)
packages_put all within [] next = pure next
packages_put all within (l ∷ ls) next = do
  later ← packages_put all within ls next
  package_put all within l.package later

-- ---- initial values, in the order of the declarations

unfoldable pub scalar_initial : Within → Expression → Making Initial
scalar_initial within e = do
  v ← expression_made e within
  pure (initial.Scalar v)

unfoldable pub scalar_or_array : Within → Option Subtype → Expression → Making Initial
scalar_or_array within s e =
    cond (subtype_is is_array_type s) (pure (initial.Array (array_name within (expression_image e).name)))
    (scalar_initial within e)

unfoldable pub initial_of_call : Within → Option Subtype → Expression → Bool → Making Initial
initial_of_call within s e true = pure initial.Default
initial_of_call within s e false = scalar_or_array within s e

unfoldable pub initial_made : Within → Option Subtype → Option Expression → Making Initial
initial_made within s None = pure initial.Default
initial_made within s (Some e) = initial_of_call within s e (is_some (function_call within e))

-- ---- declarations

unfoldable pub kind_of_type : AdaType → Initial → DeclarationKind
kind_of_type types.Integer i = kind.Object i
kind_of_type types.Boolean i = kind.Object i
kind_of_type types.Duration i = kind.Object i
kind_of_type (types.Enumeration e) i = kind.Object i
kind_of_type (types.Array a) i = kind.Object i
kind_of_type types.Time i = kind.Object i
kind_of_type types.TimeSpan i = kind.Object i
kind_of_type types.CpuTime i = kind.Object i
kind_of_type types.TaskId i = kind.Object i
kind_of_type types.TimingEvent i = kind.Event
kind_of_type types.Timer i = kind.Other
kind_of_type types.GroupBudget i = kind.Budget
kind_of_type types.LimitedControlled i = kind.Other
kind_of_type types.Controlled i = kind.Other
kind_of_type (types.Derived c) i = kind.Controlled c
kind_of_type (types.Task u) i = kind.Task u
kind_of_type (types.Protected u) i = kind.Protected u

-- a timer is that of the task which its constant identifies (D.14.1)
unfoldable pub kind_with_task : AdaType → Option ℕ → Initial → DeclarationKind
kind_with_task t None i = kind_of_type t i
kind_with_task t (Some task) i = kind.Timer (decl_no task)

unfoldable pub kind_of_subtype : Option Subtype → Option ℕ → Initial → DeclarationKind
kind_of_subtype None task i = kind.Object i
kind_of_subtype (Some s) task i = kind_with_task s.of_type task i

unfoldable pub kind_of_sort : Sort → Option Subtype → Option ℕ → Initial → DeclarationKind
kind_of_sort sort.Object s task i = kind_of_subtype s task i
kind_of_sort (sort.Component o) s task i = kind.Object i
kind_of_sort sort.Parameter s task i = kind.Parameter
kind_of_sort sort.LoopParameter s task i = kind.Parameter
kind_of_sort sort.Exception s task i = kind.Other

-- what stands for itself has no range
unfoldable pub range_if_value : Names → Option Subtype → Constraint
range_if_value n s = cond (subtype_is is_thing s) constraint.Free (range_of_cells n s)

unfoldable pub range_of_sort : Names → Sort → Option Subtype → Constraint
range_of_sort n sort.Object s = range_if_value n s
range_of_sort n (sort.Component o) s = range_if_value n s
range_of_sort n sort.Parameter s = range_if_value n s
range_of_sort n sort.LoopParameter s = constraint.Free
range_of_sort n sort.Exception s = constraint.Free

unfoldable pub numbered_object : Names → List NumberedDeclaration → NumberedDeclaration → Initial → NumberedObject
numbered_object n before d i = record {
  name = d.name;
  expanded = d.expanded;
  kind = kind_of_sort d.sort d.subtype d.task i;
  scope = scope_no d.scope;
  place = place_behind n before d;
  cells = cells_of_declaration n d;
  constraint = range_of_sort n d.sort d.subtype;
  index = index_range n d.subtype;
}

unfoldable pub declaration_made : Within → List NumberedDeclaration → NumberedDeclaration → Making NumberedObject
declaration_made within before d = do
  i ← initial_made within d.subtype d.initial
  pure (numbered_object within.names before d i)

unfoldable pub declarations_made : Within → List NumberedDeclaration → List NumberedDeclaration
    → Making (List NumberedObject)
declarations_made within before [] = pure []
declarations_made within before (d ∷ ds) = do
  one ← declaration_made within before d
  others ← declarations_made within (before ++ d ∷ []) ds
  pure (one ∷ others)

-- ---- the image

abbrev pub outermost : Names → Within
outermost n = record {
  names = n;
  scope = 0;
  loops = [];
  construct = None;
  handling = None;
  function = None;
  units = [];
}

-- all actions: the call of the main procedure, that procedure, and the packages from the last to the first
unfoldable pub actions_made : Tree → Within → Making (Unit {0})
actions_made unit within = do
  call ← action_put action.CallMain 0 None
  body_put sequence_put within unit.main.place None false unit.main.body.sequence
  first ← packages_put unit.packages within unit.packages call
  first_put 0 first

-- what has numbers of its own and expressions is made last: the units' deadlines first, then the barriers, then the
-- initial values
unfoldable pub all_made : Tree → Within → Making MadeLists
all_made unit within = do
  actions_made unit within
  task_units ← task_units_made within 0 within.names.task_units
  entries ← entries_made within [] within.names.entries
  declarations ← declarations_made within [] within.names.declarations
  pure (record { task_units = task_units; entries = entries; declarations = declarations })

unfoldable pub main_of : Names → Tree → MainProcedure
main_of n unit = record {
  name = unit.main.name.text;
  priority = unwrap_or (priority_of n unit.main.aspects) (default_priority n.last_priority);
  scope = scope_no (scope_at n unit.main.place);
}

unfoldable pub program_with : Names → Tree → Lists → MadeLists → Image
program_with n unit lists made = record {
  declarations = made.declarations;
  expressions = lists.expressions;
  statements = lists.statements;
  scopes = scopes_made n lists.firsts 0 n.scopes;
  subprograms = map (subprogram_made n) n.subprograms;
  task_units = made.task_units;
  protected_units = protected_units_made n 0 n.protected_units;
  entries = made.entries;
  controlled_types = controlled_types_made n 0 n.controlled_types;
  enumerations = map enumeration_made n.enumerations;
  policies = policies_of n.last_priority unit.pragmas;
  environment = scope_no 0;
  main = main_of n unit;
}

unfoldable pub program_from : Names → Tree → Image
program_from n unit =
    let made = all_made unit (outermost n) nothing_made in
    program_with n unit made.0 made.1

-- the program of a source
unfoldable pub program_of : Tree → Image
program_of unit = program_from (names_of unit) unit
