-- Names of loop parameters: each stands in its loop (5.5). Bodies, statements and values of the text, with the entities
-- of the loop parameters around them.
use Rattle.std.specs.List.{list_all, list_any}
use Rattle.std.specs.Prelude.{◌≡◌, ℕ, zero, suc, eqb, Bool, true, ◌&&◌, List, [], ◌∷◌, Option, Some, None}
use Rattle.ada_tree.specs.declared.declarations.Declaration.{Declaration}
use Rattle.ada_tree.specs.declared.declarations.Declaration.TheVariants as declaration
use Rattle.ada_tree.specs.declared.declarations.OperationBody.{OperationBody}
use Rattle.ada_tree.specs.declared.declarations.OperationBody.TheVariants as body_of
use Rattle.ada_tree.specs.declared.expressions.Expression.{Expression}
use Rattle.ada_tree.specs.declared.selects.Alternative.{Alternative}
use Rattle.ada_tree.specs.declared.selects.Alternative.TheVariants as alternative
use Rattle.ada_tree.specs.declared.selects.Guard.{Guard}
use Rattle.ada_tree.specs.declared.selects.SelectAlternative.{SelectAlternative}
use Rattle.ada_tree.specs.declared.selects.SelectForm.{SelectForm}
use Rattle.ada_tree.specs.declared.selects.SelectForm.TheVariants as select
use Rattle.ada_tree.specs.declared.selects.Trigger.{Trigger}
use Rattle.ada_tree.specs.declared.selects.Trigger.TheVariants as trigger
use Rattle.ada_tree.specs.declared.statements.AcceptBody.{AcceptBody}
use Rattle.ada_tree.specs.declared.statements.Call.{Call}
use Rattle.ada_tree.specs.declared.statements.CaseAlternative.{CaseAlternative}
use Rattle.ada_tree.specs.declared.statements.Elsif.{Elsif}
use Rattle.ada_tree.specs.declared.statements.Handler.{Handler}
use Rattle.ada_tree.specs.declared.statements.Iteration.{Iteration}
use Rattle.ada_tree.specs.declared.statements.Iteration.TheVariants as iteration
use Rattle.ada_tree.specs.declared.statements.Sequence.{Sequence}
use Rattle.ada_tree.specs.declared.statements.Sequence.TheViews.{out-Sequence}
use Rattle.ada_tree.specs.declared.statements.SequenceParts.{SequenceParts}
use Rattle.ada_tree.specs.declared.statements.Statement.{Statement}
use Rattle.ada_tree.specs.declared.statements.Statement.TheVariants as statement
use Rattle.ada_tree.specs.declared.units.LibraryPackage.{LibraryPackage}
use Rattle.ada_tree.specs.declared.units.Package.{Package}
use Rattle.ada_tree.specs.declared.units.Package.TheVariants as packages
use Rattle.ada_tree.specs.declared.units.Unit.{Unit as Tree}
use Rattle.ada_regions.specs.declared.entities.Denoted.{Denoted}
use Rattle.ada_regions.specs.declared.entities.Denoted.TheVariants as denotes
use Rattle.ada_regions.specs.declared.entities.EntityKind.{EntityKind}
use Rattle.ada_regions.specs.declared.entities.EntityKind.TheVariants as entity
use Rattle.ada_regions.specs.declared.table.Names.{Names}
use Rattle.ada_regions.specs.Names.{denoted_by, entity_denoted, kind_at}
use Rattle.ada_regions.specs.NamesInExpressions.{names_in_expression}
use Rattle.ada_regions.specs.NamesInStatements.{names_in_assignment, names_in_call}
use Rattle.ada_regions.specs.Occurrences.{Occurrence, Occurrences, mentions}
use Rattle.ada_regions.specs.Words.{all_of}

abbrev pub Held : Type 0
Held = Names → List ℕ → Bool

-- ---- names

abbrev pub kind_held : ℕ → List ℕ → Option EntityKind → Bool
kind_held e loops (Some (entity.LoopParameter declaration)) = list_any (eqb e) loops
kind_held e loops _ = true

abbrev pub denoted_held : Option Denoted → Held
denoted_held (Some (denotes.Entity e)) n loops = kind_held e loops (kind_at n e)
denoted_held _ n loops = true

abbrev pub occurrence_held : Occurrence → Held
occurrence_held (mentions name) n loops = denoted_held (denoted_by n name) n loops
occurrence_held _ n loops = true

abbrev pub names_held : Occurrences → Held
names_held os n loops = list_all (λ o. occurrence_held o n loops) os

abbrev pub value_held : Expression → Held
value_held e n loops = names_held (names_in_expression e) n loops

abbrev pub held_if : {X : Type 0} → (X → Held) → Option X → Held
held_if held None n loops = true
held_if held (Some x) n loops = held x n loops

abbrev pub all_held : {X : Type 0} → (X → Held) → List X → Held
all_held held xs n loops = list_all (λ x. held x n loops) xs

-- ---- loops

-- the entity of its parameter, if a loop has one, before those around it
abbrev pub entity_before : Option ℕ → List ℕ → List ℕ
entity_before None loops = loops
entity_before (Some e) loops = e ∷ loops

abbrev pub loops_in : Names → Iteration → List ℕ → List ℕ
loops_in n iteration.Forever loops = loops
loops_in n (iteration.While place condition) loops = loops
loops_in n (iteration.For place i reverse low high) loops = entity_before (entity_denoted n i.place) loops

abbrev pub iteration_held : Iteration → Held
iteration_held iteration.Forever n loops = true
iteration_held (iteration.While place condition) n loops = value_held condition n loops
iteration_held (iteration.For place i reverse low high) n loops = value_held low n loops && value_held high n loops

-- ---- statements, given those in them

abbrev pub call_held : Call → Held
call_held c n loops = names_held (names_in_call c) n loops

abbrev pub guard_held : Guard → Held
guard_held g n loops = value_held g.condition n loops

abbrev pub trigger_held : Trigger → Held
trigger_held (trigger.Call c) n loops = call_held c n loops
trigger_held (trigger.Delay d) n loops = value_held d.value n loops

module _ {Q : Type 0} (sequence : Q → Held) where
  abbrev pub elsif_held : Elsif Q → Held
  elsif_held e n loops = value_held e.condition n loops && sequence e.statements n loops

  abbrev pub case_alternative_held : CaseAlternative Q → Held
  case_alternative_held a n loops = sequence a.statements n loops

  abbrev pub handler_held : Handler Q → Held
  handler_held h n loops = sequence h.statements n loops

  abbrev pub accept_body_held : AcceptBody Q → Held
  accept_body_held b n loops = sequence b.sequence n loops

  abbrev pub alternative_held : Alternative Q → Held
  alternative_held (alternative.Accept a statements) n loops =
      held_if accept_body_held a.body n loops && held_if sequence statements n loops
  alternative_held (alternative.Delay d statements) n loops =
      value_held d.value n loops && held_if sequence statements n loops
  alternative_held (alternative.Terminate place) n loops = true

  abbrev pub select_alternative_held : SelectAlternative Q → Held
  select_alternative_held a n loops = held_if guard_held a.guard n loops && alternative_held a.alternative n loops

  abbrev pub select_held : SelectForm Q → Held
  select_held (select.SelectiveAccept s) n loops =
      all_held select_alternative_held (all_of s.alternatives) n loops && held_if sequence s.otherwise n loops
  select_held (select.TimedEntryCall t) n loops =
      call_held t.call n loops && (held_if sequence t.statements n loops
      && (value_held t.delay.value n loops && held_if sequence t.delay_statements n loops))
  select_held (select.ConditionalEntryCall c) n loops =
      call_held c.call n loops && (held_if sequence c.statements n loops && sequence c.otherwise n loops)
  select_held (select.AsynchronousSelect a) n loops =
      trigger_held a.trigger n loops && (held_if sequence a.statements n loops && sequence a.abortable n loops)

  abbrev pub statement_held : Statement Q → Held
  statement_held (statement.Null place) n loops = true
  statement_held (statement.Assignment a) n loops = names_held (names_in_assignment a) n loops
  statement_held (statement.Call c) n loops = call_held c n loops
  statement_held (statement.Delay d) n loops = value_held d.value n loops
  statement_held (statement.If i) n loops =
      value_held i.condition n loops && (sequence i.statements n loops
      && (all_held elsif_held i.elsifs n loops && held_if sequence i.otherwise n loops))
  statement_held (statement.Case c) n loops =
      value_held c.selector n loops && all_held case_alternative_held (all_of c.alternatives) n loops
  statement_held (statement.Loop l) n loops =
      iteration_held l.iteration n loops && sequence l.statements n (loops_in n l.iteration loops)
  statement_held (statement.Exit e) n loops = held_if value_held e.condition n loops
  statement_held (statement.Block b) n loops = sequence b.sequence n loops
  statement_held (statement.Return place value) n loops = held_if value_held value n loops
  statement_held (statement.Raise place exception) n loops = true
  statement_held (statement.Abort place tasks) n loops = true
  statement_held (statement.Accept a) n loops = held_if accept_body_held a.body n loops
  statement_held (statement.Requeue place entry with_abort) n loops = true
  statement_held (statement.Select s) n loops = select_held s.form n loops

  -- ---- declarations and bodies

  abbrev pub operation_body_held : OperationBody Q → Held
  operation_body_held (body_of.Subprogram s body) n loops = sequence body.sequence n loops
  operation_body_held (body_of.Entry head body) n loops = sequence body.sequence n loops

  abbrev pub declaration_held : Declaration Q → Held
  declaration_held (declaration.Object o) n loops = held_if value_held o.initial n loops
  declaration_held (declaration.SubprogramBody s body) n loops = sequence body.sequence n loops
  declaration_held (declaration.TaskBody place name body) n loops = sequence body.sequence n loops
  declaration_held (declaration.ProtectedBody x) n loops = all_held operation_body_held x.operations n loops
  declaration_held _ n loops = true

  abbrev pub declarations_held : List (Declaration Q) → Held
  declarations_held ds n loops = all_held declaration_held ds n loops

  abbrev pub parts_held : SequenceParts Q → Held
  parts_held s n loops =
      declarations_held s.declarations n loops
      && (all_held statement_held (all_of s.statements) n loops && all_held handler_held s.handlers n loops)

-- ---- sequences and units, so many levels deep

abbrev pub sequence_held : ℕ → Sequence → Held
sequence_held zero q n loops = true
sequence_held (suc levels) q n loops = parts_held (sequence_held levels) (out-Sequence q).parts n loops

abbrev pub package_held : ℕ → Package → Held
package_held levels (packages.Declaration p) n loops =
    declarations_held (sequence_held levels) p.declarations n loops
    && held_if (declarations_held (sequence_held levels)) p.private n loops
package_held levels (packages.Body p) n loops =
    declarations_held (sequence_held levels) p.declarations n loops
    && held_if (sequence_held levels) p.sequence n loops

abbrev pub library_package_held : ℕ → LibraryPackage → Held
library_package_held levels l n loops = package_held levels l.package n loops

abbrev pub unit_held : ℕ → Tree → Held
unit_held levels unit n loops =
    all_held (library_package_held levels) unit.packages n loops
    && sequence_held levels unit.main.body.sequence n loops

-- each name of a loop parameter in the source stands in its loop
abbrev pub LoopsHeld : Tree → Names → Type 0
LoopsHeld unit n = (levels : ℕ) → unit_held levels unit n [] ≡ true
