-- The scopes that a source begins: of its bodies, its blocks and its accepts, and that of the environment, each by the
-- place of its construct in the text. Their order does not matter.
use Rattle.std.specs.Prelude.{ℕ, Bool, true, false, List, [], ◌∷◌, ◌++◌, Option, Some, None, unwrap_or, flat_map}
use Rattle.ann_base.specs.declared.places.Place.{Place}
use Rattle.ada_tree.specs.declared.statements.Statement.{Statement}
use Rattle.ada_tree.specs.declared.statements.Statement.TheVariants as statement
use Rattle.ada_tree.specs.declared.statements.Elsif.{Elsif}
use Rattle.ada_tree.specs.declared.statements.CaseAlternative.{CaseAlternative}
use Rattle.ada_tree.specs.declared.statements.Handler.{Handler}
use Rattle.ada_tree.specs.declared.statements.AcceptBody.{AcceptBody}
use Rattle.ada_tree.specs.declared.statements.Sequence.{Sequence}
use Rattle.ada_tree.specs.declared.statements.Sequence.TheOpen.{Sequence-F}
use Rattle.ada_tree.specs.declared.statements.Sequence.TheFolds.{fold-Sequence}
use Rattle.ada_tree.specs.declared.statements.SequenceParts.{SequenceParts}
use Rattle.ada_tree.specs.declared.selects.SelectForm.{SelectForm}
use Rattle.ada_tree.specs.declared.selects.SelectForm.TheVariants as select
use Rattle.ada_tree.specs.declared.selects.SelectAlternative.{SelectAlternative}
use Rattle.ada_tree.specs.declared.selects.Alternative.{Alternative}
use Rattle.ada_tree.specs.declared.selects.Alternative.TheVariants as alternative
use Rattle.ada_tree.specs.declared.declarations.Declaration.{Declaration}
use Rattle.ada_tree.specs.declared.declarations.Declaration.TheVariants as declaration
use Rattle.ada_tree.specs.declared.declarations.OperationBody.{OperationBody}
use Rattle.ada_tree.specs.declared.declarations.OperationBody.TheVariants as body_of
use Rattle.ada_tree.specs.declared.units.Unit.{Unit as Tree}
use Rattle.ada_tree.specs.declared.units.LibraryPackage.{LibraryPackage}
use Rattle.ada_tree.specs.declared.units.Package.{Package}
use Rattle.ada_tree.specs.declared.units.Package.TheVariants as packages
use Rattle.ada_regions.specs.declared.table.Names.{Names}
use Rattle.ada_image.specs.declared.making.SequencePlace.{SequencePlace}
use Rattle.ada_image.specs.declared.making.SequencePlace.TheVariants as sequence_place
use Rattle.ada_image.specs.ImageOfStatements.{scope_at}

-- of a sequence, by where it stands: statements alone have no declarations and handlers of their own
abbrev pub Scopes : Type 0
Scopes = SequencePlace → Names → List ℕ

module _ {Q : Type 0} (sequence : Q → Scopes) where
  abbrev pub inside_scopes : Q → Names → List ℕ
  inside_scopes q n = sequence q sequence_place.StatementsAlone n

  abbrev pub scopes_if : Option Q → Names → List ℕ
  scopes_if None n = []
  scopes_if (Some q) n = inside_scopes q n

  abbrev pub body_scopes : Place → Bool → Q → Names → List ℕ
  body_scopes place is_task_body q n = scope_at n place ∷ sequence q (sequence_place.AsBody is_task_body) n

  -- ---- statements

  abbrev pub elsif_scopes : List (Elsif Q) → Names → List ℕ
  elsif_scopes es n = flat_map (λ e. inside_scopes e.statements n) es

  abbrev pub case_scopes : List (CaseAlternative Q) → Names → List ℕ
  case_scopes [] n = []
  case_scopes (a ∷ rest) n = case_scopes rest n ++ inside_scopes a.statements n

  abbrev pub handler_scopes : List (Handler Q) → Names → List ℕ
  handler_scopes [] n = []
  handler_scopes (h ∷ hs) n = handler_scopes hs n ++ inside_scopes h.statements n

  abbrev pub accept_body_scopes : Option (AcceptBody Q) → Names → List ℕ
  accept_body_scopes None n = []
  accept_body_scopes (Some b) n = sequence b.sequence (sequence_place.BehindDeclarations None) n

  abbrev pub accept_scopes : Place → Option (AcceptBody Q) → Names → List ℕ
  accept_scopes place body n = scope_at n place ∷ accept_body_scopes body n

  abbrev pub alternative_scopes : Alternative Q → Names → List ℕ
  alternative_scopes (alternative.Accept a statements) n = accept_scopes a.place a.body n ++ scopes_if statements n
  alternative_scopes (alternative.Delay d statements) n = scopes_if statements n
  alternative_scopes (alternative.Terminate place) n = []

  abbrev pub alternatives_scopes : List (SelectAlternative Q) → Names → List ℕ
  alternatives_scopes [] n = []
  alternatives_scopes (a ∷ rest) n = alternatives_scopes rest n ++ alternative_scopes a.alternative n

  abbrev pub select_scopes : SelectForm Q → Names → List ℕ
  select_scopes (select.SelectiveAccept s) n = scopes_if s.otherwise n
      ++ alternatives_scopes (s.alternatives.first ∷ s.alternatives.others) n
  select_scopes (select.TimedEntryCall t) n = scopes_if t.delay_statements n ++ scopes_if t.statements n
  select_scopes (select.ConditionalEntryCall c) n = inside_scopes c.otherwise n ++ scopes_if c.statements n
  select_scopes (select.AsynchronousSelect a) n = inside_scopes a.abortable n ++ scopes_if a.statements n

  abbrev pub statement_scopes : Statement Q → Names → List ℕ
  statement_scopes (statement.Null place) n = []
  statement_scopes (statement.Assignment a) n = []
  statement_scopes (statement.Call c) n = []
  statement_scopes (statement.Delay d) n = []
  statement_scopes (statement.If i) n = inside_scopes i.statements n
      ++ (elsif_scopes i.elsifs n ++ scopes_if i.otherwise n)
  statement_scopes (statement.Case c) n = case_scopes (c.alternatives.first ∷ c.alternatives.others) n
  statement_scopes (statement.Loop l) n = inside_scopes l.statements n
  statement_scopes (statement.Exit e) n = []
  statement_scopes (statement.Block b) n = body_scopes b.place false b.sequence n
  statement_scopes (statement.Return place e) n = []
  statement_scopes (statement.Raise place exception) n = []
  statement_scopes (statement.Abort place tasks) n = []
  statement_scopes (statement.Accept a) n = accept_scopes a.place a.body n
  statement_scopes (statement.Requeue place entry with_abort) n = []
  statement_scopes (statement.Select s) n = select_scopes s.form n

  abbrev pub statements_scopes : List (Statement Q) → Names → List ℕ
  statements_scopes ss n = flat_map (λ s. statement_scopes s n) ss

  -- ---- bodies among declarations

  abbrev pub operation_scopes : OperationBody Q → Names → List ℕ
  operation_scopes (body_of.Subprogram s body) n = body_scopes s.place false body.sequence n
  operation_scopes (body_of.Entry head body) n = body_scopes head.place false body.sequence n

  abbrev pub operations_scopes : List (OperationBody Q) → Names → List ℕ
  operations_scopes [] n = []
  operations_scopes (o ∷ os) n = operations_scopes os n ++ operation_scopes o n

  abbrev pub declaration_scopes : Declaration Q → Names → List ℕ
  declaration_scopes (declaration.Object o) n = []
  declaration_scopes (declaration.Type t) n = []
  declaration_scopes (declaration.Subtype s) n = []
  declaration_scopes (declaration.Exception names) n = []
  declaration_scopes (declaration.Subprogram s) n = []
  declaration_scopes (declaration.SubprogramBody s body) n = body_scopes s.place false body.sequence n
  declaration_scopes (declaration.Task t) n = []
  declaration_scopes (declaration.TaskBody place name body) n = body_scopes place true body.sequence n
  declaration_scopes (declaration.Protected x) n = []
  declaration_scopes (declaration.ProtectedBody x) n = operations_scopes x.operations n
  declaration_scopes (declaration.Use place name) n = []

  abbrev pub declarations_scopes : List (Declaration Q) → Names → List ℕ
  declarations_scopes [] n = []
  declarations_scopes (d ∷ ds) n = declarations_scopes ds n ++ declaration_scopes d n

  -- ---- sequences

  abbrev pub handled_scopes : SequenceParts Q → Names → List ℕ
  handled_scopes s n = handler_scopes s.handlers n ++ statements_scopes (s.statements.first ∷ s.statements.others) n

  abbrev pub parts_scopes : SequenceParts Q → Scopes
  parts_scopes s sequence_place.StatementsAlone n = statements_scopes (s.statements.first ∷ s.statements.others) n
  parts_scopes s (sequence_place.BehindDeclarations part) n = handled_scopes s n
  parts_scopes s (sequence_place.AsBody is_task_body) n = handled_scopes s n ++ declarations_scopes s.declarations n

abbrev pub same_scopes : Scopes → Scopes
same_scopes scopes = scopes

abbrev pub scopes_layer : Sequence-F Scopes → Scopes
scopes_layer s = parts_scopes same_scopes s.parts

abbrev pub sequence_scopes : Sequence → Scopes
sequence_scopes = fold-Sequence Scopes scopes_layer

-- ---- sources

abbrev pub package_statements_scopes : Option Sequence → Names → List ℕ
package_statements_scopes None n = []
package_statements_scopes (Some s) n = sequence_scopes s (sequence_place.BehindDeclarations None) n

abbrev pub package_scopes : Package → Names → List ℕ
package_scopes (packages.Declaration x) n =
    declarations_scopes sequence_scopes (x.declarations ++ unwrap_or x.private []) n
package_scopes (packages.Body x) n = package_statements_scopes x.sequence n
    ++ declarations_scopes sequence_scopes x.declarations n

abbrev pub packages_scopes : List LibraryPackage → Names → List ℕ
packages_scopes ls n = flat_map (λ l. package_scopes l.package n) ls

abbrev pub scopes_begun : Tree → Names → List ℕ
scopes_begun unit n = 0 ∷ (packages_scopes unit.packages n
    ++ body_scopes sequence_scopes unit.main.place false unit.main.body.sequence n)
