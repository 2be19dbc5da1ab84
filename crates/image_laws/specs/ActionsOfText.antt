-- How many actions a source has: one for each of its statements and declared objects, and those beside them that the
-- language asks for.
use Rattle.std.specs.Prelude.{ℕ, ◌+◌, Bool, true, false, cond, not, ◌&&◌, List}
use Rattle.std.specs.Prelude.{[], ◌∷◌, ◌++◌, Option, Some, None, unwrap_or}
use Rattle.std.specs.Bool.{then_some}
use Rattle.ada_tree.specs.declared.names.Identifier.{Identifier}
use Rattle.ada_tree.specs.declared.statements.Statement.{Statement}
use Rattle.ada_tree.specs.declared.statements.Statement.TheVariants as statement
use Rattle.ada_tree.specs.declared.statements.Elsif.{Elsif}
use Rattle.ada_tree.specs.declared.statements.CaseAlternative.{CaseAlternative}
use Rattle.ada_tree.specs.declared.statements.Iteration.{Iteration}
use Rattle.ada_tree.specs.declared.statements.Iteration.TheVariants as iteration
use Rattle.ada_tree.specs.declared.statements.Handler.{Handler}
use Rattle.ada_tree.specs.declared.statements.AcceptBody.{AcceptBody}
use Rattle.ada_tree.specs.declared.statements.Sequence.{Sequence}
use Rattle.ada_tree.specs.declared.statements.Sequence.TheOpen.{Sequence-F}
use Rattle.ada_tree.specs.declared.statements.Sequence.TheFolds.{fold-Sequence}
use Rattle.ada_tree.specs.declared.statements.SequenceParts.{SequenceParts}
use Rattle.ada_tree.specs.declared.selects.SelectForm.{SelectForm}
use Rattle.ada_tree.specs.declared.selects.SelectForm.TheVariants as select
use Rattle.ada_tree.specs.declared.selects.SelectAlternative.{SelectAlternative}
use Rattle.ada_tree.specs.declared.selects.Alternative.{Alternative}
use Rattle.ada_tree.specs.declared.selects.Alternative.TheVariants as alternative
use Rattle.ada_tree.specs.declared.declarations.Declaration.{Declaration}
use Rattle.ada_tree.specs.declared.declarations.Declaration.TheVariants as declaration
use Rattle.ada_tree.specs.declared.declarations.OperationBody.{OperationBody}
use Rattle.ada_tree.specs.declared.declarations.OperationBody.TheVariants as body_of
use Rattle.ada_tree.specs.declared.units.Unit.{Unit as Tree}
use Rattle.ada_tree.specs.declared.units.LibraryPackage.{LibraryPackage}
use Rattle.ada_tree.specs.declared.units.Package.{Package}
use Rattle.ada_tree.specs.declared.units.Package.TheVariants as packages
use Rattle.ada_regions.specs.declared.types.Subtype.{Subtype}
use Rattle.ada_regions.specs.declared.table.Names.{Names}
use Rattle.ada_regions.specs.Words.{all_of}
use Rattle.ada_regions.specs.TypeKinds.{is_task_type, is_controlled_type}
use Rattle.ada_image.specs.declared.making.SequencePlace.{SequencePlace}
use Rattle.ada_image.specs.declared.making.SequencePlace.TheVariants as sequence_place
use Rattle.ada_image.specs.Layout.{subtype_is}
use Rattle.ada_image.specs.ImageOfDeclarations.{subtype_declared_as, make_tasks}
use Rattle.ada_image.specs.ImageOfUnits.{outermost, has_body, part_of, package_part}

-- ---- declarations: a task is created, a controlled object is initialized behind its declaration

abbrev pub one_if : Bool → ℕ
one_if b = cond b 1 0

abbrev pub object_actions : Option Subtype → ℕ
object_actions s = cond (subtype_is is_task_type s) 1 (1 + one_if (subtype_is is_controlled_type s))

abbrev pub name_actions : Identifier → Names → ℕ
name_actions i n = object_actions (subtype_declared_as (outermost n) i)

abbrev pub names_actions : List Identifier → Names → ℕ
names_actions [] n = 0
names_actions (i ∷ is) n = name_actions i n + names_actions is n

abbrev pub single_actions : Bool → Identifier → Names → ℕ
single_actions true i n = 0
single_actions false i n = name_actions i n

module _ {Q : Type 0} where
  abbrev pub declaration_actions : Declaration Q → Names → ℕ
  declaration_actions (declaration.Object o) n = names_actions (all_of o.names) n
  declaration_actions (declaration.Type t) n = 0
  declaration_actions (declaration.Subtype s) n = 0
  declaration_actions (declaration.Exception names) n = 0
  declaration_actions (declaration.Subprogram s) n = 0
  declaration_actions (declaration.SubprogramBody s body) n = 0
  declaration_actions (declaration.Task t) n = single_actions t.is_type t.name n
  declaration_actions (declaration.TaskBody place name body) n = 0
  declaration_actions (declaration.Protected x) n = single_actions x.is_type x.name n
  declaration_actions (declaration.ProtectedBody x) n = 0
  declaration_actions (declaration.Use place name) n = 0

  abbrev pub declarations_actions : List (Declaration Q) → Names → ℕ
  declarations_actions [] n = 0
  declarations_actions (d ∷ ds) n = declaration_actions d n + declarations_actions ds n

abbrev pub activation_actions : Option ℕ → ℕ
activation_actions None = 0
activation_actions (Some part) = 1

-- ---- statements, given how many actions the sequences in them have

abbrev pub Actions : Type 0
Actions = SequencePlace → Names → ℕ

module _ {Q : Type 0} (sequence : Q → Actions) where
  abbrev pub inside_actions : Q → Names → ℕ
  inside_actions q n = sequence q sequence_place.StatementsAlone n

  abbrev pub actions_if : Option Q → Names → ℕ
  actions_if None n = 0
  actions_if (Some q) n = inside_actions q n

  abbrev pub elsifs_actions : List (Elsif Q) → Names → ℕ
  elsifs_actions [] n = 0
  elsifs_actions (e ∷ es) n = 1 + inside_actions e.statements n + elsifs_actions es n

  abbrev pub case_actions : List (CaseAlternative Q) → Names → ℕ
  case_actions [] n = 0
  case_actions (a ∷ rest) n = case_actions rest n + inside_actions a.statements n

  abbrev pub handlers_actions : List (Handler Q) → Names → ℕ
  handlers_actions [] n = 0
  handlers_actions (h ∷ hs) n = handlers_actions hs n + inside_actions h.statements n

  -- a for loop has a first and a later turn
  abbrev pub turns_actions : Iteration → ℕ
  turns_actions iteration.Forever = 1
  turns_actions (iteration.While place c) = 1
  turns_actions (iteration.For place i reverse low high) = 3

  abbrev pub accept_actions : Option (AcceptBody Q) → Names → ℕ
  accept_actions None n = 0
  accept_actions (Some b) n = sequence b.sequence (sequence_place.BehindDeclarations None) n

  abbrev pub alternative_actions : Alternative Q → Names → ℕ
  alternative_actions (alternative.Accept a statements) n = 1 + accept_actions a.body n + actions_if statements n
  alternative_actions (alternative.Delay d statements) n = 1 + actions_if statements n
  alternative_actions (alternative.Terminate place) n = 0

  abbrev pub alternatives_actions : List (SelectAlternative Q) → Names → ℕ
  alternatives_actions [] n = 0
  alternatives_actions (a ∷ rest) n = alternatives_actions rest n + alternative_actions a.alternative n

  -- the select itself, and each accept, delay and call in it
  abbrev pub select_actions : SelectForm Q → Names → ℕ
  select_actions (select.SelectiveAccept s) n = 1 + actions_if s.otherwise n
      + alternatives_actions (s.alternatives.first ∷ s.alternatives.others) n
  select_actions (select.TimedEntryCall t) n = 1 + (1 + actions_if t.delay_statements n)
      + (1 + actions_if t.statements n)
  select_actions (select.ConditionalEntryCall c) n = 1 + inside_actions c.otherwise n + (1 + actions_if c.statements n)
  select_actions (select.AsynchronousSelect a) n = 1 + (inside_actions a.abortable n + (1 + actions_if a.statements n))

  abbrev pub statement_actions : Statement Q → Names → ℕ
  statement_actions (statement.Null place) n = 1
  statement_actions (statement.Assignment a) n = 1
  statement_actions (statement.Call c) n = 1
  statement_actions (statement.Delay d) n = 1
  statement_actions (statement.If i) n = 1 + inside_actions i.statements n + elsifs_actions i.elsifs n
      + actions_if i.otherwise n
  statement_actions (statement.Case c) n = 1 + case_actions (c.alternatives.first ∷ c.alternatives.others) n
  statement_actions (statement.Loop l) n = turns_actions l.iteration + inside_actions l.statements n
  statement_actions (statement.Exit e) n = 1
  statement_actions (statement.Block b) n = 1 + sequence b.sequence (sequence_place.AsBody false) n
  statement_actions (statement.Return place e) n = 1
  statement_actions (statement.Raise place exception) n = 1
  statement_actions (statement.Abort place tasks) n = 1
  statement_actions (statement.Accept a) n = 1 + accept_actions a.body n
  statement_actions (statement.Requeue place entry with_abort) n = 1
  statement_actions (statement.Select s) n = select_actions s.form n

  abbrev pub statements_actions : List (Statement Q) → Names → ℕ
  statements_actions [] n = 0
  statements_actions (s ∷ ss) n = statement_actions s n + statements_actions ss n

  -- ---- bodies among declarations

  abbrev pub operations_actions : List (OperationBody Q) → Names → ℕ
  operations_actions [] n = 0
  operations_actions (body_of.Subprogram s body ∷ os) n = operations_actions os n
      + sequence body.sequence (sequence_place.AsBody false) n
  operations_actions (body_of.Entry head body ∷ os) n = operations_actions os n
      + sequence body.sequence (sequence_place.AsBody false) n

  abbrev pub body_actions : Declaration Q → Names → ℕ
  body_actions (declaration.Object o) n = 0
  body_actions (declaration.Type t) n = 0
  body_actions (declaration.Subtype s) n = 0
  body_actions (declaration.Exception names) n = 0
  body_actions (declaration.Subprogram s) n = 0
  body_actions (declaration.SubprogramBody s body) n = sequence body.sequence (sequence_place.AsBody false) n
  body_actions (declaration.Task t) n = 0
  body_actions (declaration.TaskBody place name body) n = sequence body.sequence (sequence_place.AsBody true) n
  body_actions (declaration.Protected x) n = 0
  body_actions (declaration.ProtectedBody x) n = operations_actions x.operations n
  body_actions (declaration.Use place name) n = 0

  abbrev pub bodies_actions : List (Declaration Q) → Names → ℕ
  bodies_actions [] n = 0
  bodies_actions (d ∷ ds) n = bodies_actions ds n + body_actions d n

  -- ---- sequences: an activation where there are tasks, an action that opens handlers, the end of a task's activation

  abbrev pub unhandled_actions : Option ℕ → SequenceParts Q → Names → ℕ
  unhandled_actions part s n = activation_actions part + statements_actions (s.statements.first ∷ s.statements.others) n

  abbrev pub handled_actions : Option ℕ → SequenceParts Q → List (Handler Q) → Names → ℕ
  handled_actions part s [] n = unhandled_actions part s n
  handled_actions part s (h ∷ hs) n = 1 + (handlers_actions (h ∷ hs) n + unhandled_actions part s n)

  abbrev pub parts_actions : SequenceParts Q → Actions
  parts_actions s sequence_place.StatementsAlone n = statements_actions (s.statements.first ∷ s.statements.others) n
  parts_actions s (sequence_place.BehindDeclarations part) n = handled_actions part s s.handlers n
  parts_actions s (sequence_place.AsBody is_task_body) n =
      declarations_actions s.declarations n + one_if is_task_body
      + handled_actions (then_some (make_tasks (outermost n) s.declarations) 0) s s.handlers n
      + bodies_actions s.declarations n

abbrev pub same_actions : Actions → Actions
same_actions actions = actions

abbrev pub actions_layer : Sequence-F Actions → Actions
actions_layer s = parts_actions same_actions s.parts

abbrev pub sequence_actions : Sequence → Actions
sequence_actions = fold-Sequence Actions actions_layer

-- ---- sources

abbrev pub package_statements_actions : Option ℕ → Option Sequence → Names → ℕ
package_statements_actions part None n = activation_actions part
package_statements_actions part (Some s) n = sequence_actions s (sequence_place.BehindDeclarations part) n

abbrev pub package_actions : List LibraryPackage → Package → Names → ℕ
package_actions all (packages.Declaration x) n =
    let ds = x.declarations ++ unwrap_or x.private [] in
    declarations_actions ds n + activation_actions (then_some (not (has_body all x.name.text)
    && make_tasks (outermost n) ds) (part_of all x.name.text)) + bodies_actions sequence_actions ds n
package_actions all (packages.Body x) n =
    declarations_actions x.declarations n
    + package_statements_actions (package_part all (outermost n) x) x.sequence n
    + bodies_actions sequence_actions x.declarations n

abbrev pub packages_actions : List LibraryPackage → List LibraryPackage → Names → ℕ
packages_actions all [] n = 0
packages_actions all (l ∷ ls) n = package_actions all l.package n + packages_actions all ls n

-- the packages, the main procedure, and the call of it
abbrev pub actions_of : Tree → Names → ℕ
actions_of unit n = packages_actions unit.packages unit.packages n
    + sequence_actions unit.main.body.sequence (sequence_place.AsBody false) n + 1
