-- What the fold over sequences that tells their shape gives at the parts of a sequence.
use Rattle.std.proofs.Common.{◌≡◌, ℕ, zero, suc, Bool, true, ◌&&◌, List, Option, Some, None, map, refl, ◌∙◌, ap}
use Rattle.ann_base.specs.declared.places.Place.{Place}
use Rattle.ada_tree.specs.declared.names.OneOrMore.{OneOrMore}
use Rattle.ada_tree.specs.declared.statements.SequenceRole.{SequenceRole}
use Rattle.ada_tree.specs.declared.statements.SequenceRole.TheVariants as role
use Rattle.ada_tree.specs.declared.statements.Sequence.{Sequence}
use Rattle.ada_tree.specs.declared.statements.Sequence.TheViews.{out-Sequence}
use Rattle.ada_tree.specs.declared.statements.Sequence.TheFolds.{fold_out-Sequence}
use Rattle.ada_tree.specs.declared.statements.SequenceParts.{SequenceParts}
use Rattle.ada_tree.specs.declared.statements.Statement.{Statement}
use Rattle.ada_tree.specs.declared.statements.Statement.TheVariants as statement
use Rattle.ada_tree.specs.declared.statements.If.{If}
use Rattle.ada_tree.specs.declared.statements.Accept.{Accept}
use Rattle.ada_tree.specs.declared.statements.AcceptBody.{AcceptBody}
use Rattle.ada_tree.specs.declared.selects.SelectiveAccept.{SelectiveAccept}
use Rattle.ada_tree.specs.declared.selects.TimedEntryCall.{TimedEntryCall}
use Rattle.ada_tree.specs.declared.selects.ConditionalEntryCall.{ConditionalEntryCall}
use Rattle.ada_tree.specs.declared.selects.AsynchronousSelect.{AsynchronousSelect}
use Rattle.ada_tree.specs.declared.selects.SelectAlternative.{SelectAlternative}
use Rattle.ada_tree.specs.declared.selects.Alternative.{Alternative}
use Rattle.ada_tree.specs.declared.selects.Alternative.TheVariants as alternative
use Rattle.ada_tree.specs.declared.selects.SelectForm.{SelectForm}
use Rattle.ada_tree.specs.declared.selects.SelectForm.TheVariants as select
use Rattle.ada_tree.specs.declared.declarations.OperationBody.{OperationBody}
use Rattle.ada_tree.specs.declared.declarations.OperationBody.TheVariants as body_of
use Rattle.ada_tree.specs.declared.declarations.Declaration.{Declaration}
use Rattle.ada_tree.specs.declared.declarations.Declaration.TheVariants as declaration
use Rattle.ada_tree.specs.ShapeExpressions.{within, all_fit, optional_fits}
use Rattle.ada_tree.specs.ShapeStatements.{value_fits, guard_fits, statements_fit, elsif_fits, case_alternative_fits}
use Rattle.ada_tree.specs.ShapeStatements.{handler_fits, select_alternative_fits, select_form_fits, parts_fit, statement_fits}
use Rattle.ada_tree.specs.ShapeDeclarations.{operation_body_fits, operations_fit, declaration_fits}
use Rattle.ada_tree.specs.Shape.{SequenceFit, same_sequence_fit, handled_fits, sequence_fits_by, sequence_fit_layer, sequence_fits}
use Rattle.ada_tree.proofs.Mapped.{mapped, mapped_statement, mapped_alternative, mapped_operation, mapped_declaration}
use Rattle.ada_tree.proofs.Maps.{both_hold, none_of_map, all_of_map, all_fit_of_map}

accept_of_map : (f : Sequence → SequenceFit) (left : ℕ) (a : Accept Sequence) (body : Option (AcceptBody Sequence))
    → parts_fit same_sequence_fit (mapped_statement f (statement.Accept (record a { body = body }))) left
    ≡ parts_fit f (statement.Accept (record a { body = body })) left
accept_of_map f left a None = refl
accept_of_map f left a (Some body) = refl

if_of_map : (f : Sequence → SequenceFit) (left : ℕ) (i : If Sequence) (o : Option Sequence)
    → parts_fit same_sequence_fit (mapped_statement f (statement.If (record i { otherwise = o }))) left
    ≡ parts_fit f (statement.If (record i { otherwise = o })) left
if_of_map f left i None =
    ap (λ (b : Bool). value_fits left i.condition && (statements_fit f left i.statements && (b && true)))
    (all_of_map (elsif_fits same_sequence_fit left) _ (elsif_fits f left) (λ x. refl) i.elsifs)
if_of_map f left i (Some q) =
    ap (λ (b : Bool). value_fits left i.condition && (statements_fit f left i.statements && (b && statements_fit f left q)))
    (all_of_map (elsif_fits same_sequence_fit left) _ (elsif_fits f left) (λ x. refl) i.elsifs)

alternative_of_map : (f : Sequence → SequenceFit) (left : ℕ) (x : SelectAlternative Sequence) (a : Alternative Sequence)
    → select_alternative_fits same_sequence_fit left (mapped_alternative f (record x { alternative = a }))
    ≡ select_alternative_fits f left (record x { alternative = a })
alternative_of_map f zero x (alternative.Accept accept None) = refl
alternative_of_map f zero x (alternative.Accept accept (Some q)) = refl
alternative_of_map f (suc left) x (alternative.Accept accept None) =
    ap (λ (b : Bool). optional_fits (guard_fits (suc left)) x.guard && (b && true)) (accept_of_map f left accept accept.body)
alternative_of_map f (suc left) x (alternative.Accept accept (Some q)) =
    ap (λ (b : Bool). optional_fits (guard_fits (suc left)) x.guard && (b && statements_fit f (suc left) q)) (accept_of_map f left accept accept.body)
alternative_of_map f left x (alternative.Delay delay None) = refl
alternative_of_map f left x (alternative.Delay delay (Some q)) = refl
alternative_of_map f left x (alternative.Terminate place) = refl

alternatives_of_map : (f : Sequence → SequenceFit) (left : ℕ) (xs : OneOrMore (SelectAlternative Sequence))
    → all_fit (select_alternative_fits same_sequence_fit left) (record { first = mapped_alternative f xs.first; others = map (mapped_alternative f) xs.others })
    ≡ all_fit (select_alternative_fits f left) xs
alternatives_of_map f left xs =
    all_fit_of_map (select_alternative_fits same_sequence_fit left) (mapped_alternative f) (select_alternative_fits f left)
    (λ x. alternative_of_map f left x x.alternative)
    (mapped_alternative f xs.first) xs.first (alternative_of_map f left xs.first xs.first.alternative) xs.others

abbrev SelectKept : (f : Sequence → SequenceFit) (left : ℕ) → SelectForm Sequence → Type 0
SelectKept f left s =
    (place : Place) → parts_fit same_sequence_fit (mapped_statement f (statement.Select (record { place = place; form = s }))) left ≡ select_form_fits f left s

selective_of_map : (f : Sequence → SequenceFit) (left : ℕ) (s : SelectiveAccept Sequence) (o : Option Sequence)
    → SelectKept f left (select.SelectiveAccept (record s { otherwise = o }))
selective_of_map f left s None place = ap (λ (b : Bool). b && true) (alternatives_of_map f left s.alternatives)
selective_of_map f left s (Some q) place = ap (λ (b : Bool). b && statements_fit f left q) (alternatives_of_map f left s.alternatives)

timed_of_map : (f : Sequence → SequenceFit) (left : ℕ) (t : TimedEntryCall Sequence) (o p : Option Sequence)
    → SelectKept f left (select.TimedEntryCall (record t { statements = o; delay_statements = p }))
timed_of_map f left t None None place = refl
timed_of_map f left t None (Some q) place = refl
timed_of_map f left t (Some q) None place = refl
timed_of_map f left t (Some q) (Some r) place = refl

conditional_of_map : (f : Sequence → SequenceFit) (left : ℕ) (c : ConditionalEntryCall Sequence) (o : Option Sequence)
    → SelectKept f left (select.ConditionalEntryCall (record c { statements = o }))
conditional_of_map f left c None place = refl
conditional_of_map f left c (Some q) place = refl

asynchronous_of_map : (f : Sequence → SequenceFit) (left : ℕ) (s : AsynchronousSelect Sequence) (o : Option Sequence)
    → SelectKept f left (select.AsynchronousSelect (record s { statements = o }))
asynchronous_of_map f left s None place = refl
asynchronous_of_map f left s (Some q) place = refl

select_of_map : (f : Sequence → SequenceFit) (left : ℕ) (s : SelectForm Sequence) → SelectKept f left s
select_of_map f left (select.SelectiveAccept s) = selective_of_map f left s s.otherwise
select_of_map f left (select.TimedEntryCall t) = timed_of_map f left t t.statements t.delay_statements
select_of_map f left (select.ConditionalEntryCall c) = conditional_of_map f left c c.statements
select_of_map f left (select.AsynchronousSelect s) = asynchronous_of_map f left s s.statements

parts_of_map : (f : Sequence → SequenceFit) (left : ℕ) (s : Statement Sequence) → parts_fit same_sequence_fit (mapped_statement f s) left ≡ parts_fit f s left
parts_of_map f left (statement.Null place) = refl
parts_of_map f left (statement.Assignment a) = refl
parts_of_map f left (statement.Call c) = refl
parts_of_map f left (statement.Delay d) = refl
parts_of_map f left (statement.If i) = if_of_map f left i i.otherwise
parts_of_map f left (statement.Case c) =
    ap (λ (b : Bool). value_fits left c.selector && (case_alternative_fits f left c.alternatives.first && b))
    (all_of_map (case_alternative_fits same_sequence_fit left) _ (case_alternative_fits f left) (λ x. refl) c.alternatives.others)
parts_of_map f left (statement.Loop l) = refl
parts_of_map f left (statement.Exit e) = refl
parts_of_map f left (statement.Block b) = refl
parts_of_map f left (statement.Return place value) = refl
parts_of_map f left (statement.Raise place exception) = refl
parts_of_map f left (statement.Abort place tasks) = refl
parts_of_map f left (statement.Accept a) = accept_of_map f left a a.body
parts_of_map f left (statement.Requeue place entry with_abort) = refl
parts_of_map f left (statement.Select s) = select_of_map f left s.form s.place

statement_of_map : (f : Sequence → SequenceFit) (left : ℕ) (s : Statement Sequence)
    → statement_fits same_sequence_fit left (mapped_statement f s) ≡ statement_fits f left s
statement_of_map f zero s = refl
statement_of_map f (suc left) s = parts_of_map f left s

operation_of_map : (f : Sequence → SequenceFit) (left : ℕ) (x : OperationBody Sequence)
    → operation_body_fits same_sequence_fit left (mapped_operation f x) ≡ operation_body_fits f left x
operation_of_map f left (body_of.Subprogram specification body) = refl
operation_of_map f left (body_of.Entry head body) = refl

protected_of_map : (f : Sequence → SequenceFit) (left : ℕ) (xs : List (OperationBody Sequence))
    → within left (operations_fit same_sequence_fit (map (mapped_operation f) xs)) ≡ within left (operations_fit f xs)
protected_of_map f zero xs = refl
protected_of_map f (suc left) xs =
    all_of_map (operation_body_fits same_sequence_fit left) (mapped_operation f) (operation_body_fits f left) (operation_of_map f left) xs

declaration_of_map : (f : Sequence → SequenceFit) (left : ℕ) (d : Declaration Sequence)
    → declaration_fits same_sequence_fit left (mapped_declaration f d) ≡ declaration_fits f left d
declaration_of_map f left (declaration.Object o) = refl
declaration_of_map f left (declaration.Type t) = refl
declaration_of_map f left (declaration.Subtype s) = refl
declaration_of_map f left (declaration.Exception names) = refl
declaration_of_map f left (declaration.Subprogram specification) = refl
declaration_of_map f left (declaration.SubprogramBody specification body) = refl
declaration_of_map f left (declaration.Task t) = refl
declaration_of_map f left (declaration.TaskBody place name body) = refl
declaration_of_map f left (declaration.Protected p) = refl
declaration_of_map f left (declaration.ProtectedBody p) = protected_of_map f left p.operations
declaration_of_map f left (declaration.Use place name) = refl

statements_of_map : (f : Sequence → SequenceFit) (left : ℕ) (s : SequenceParts Sequence)
    → all_fit (statement_fits same_sequence_fit left) (mapped f s).statements ≡ all_fit (statement_fits f left) s.statements
statements_of_map f left s =
    all_fit_of_map (statement_fits same_sequence_fit left) (mapped_statement f) (statement_fits f left) (statement_of_map f left)
    (mapped_statement f s.statements.first) s.statements.first
    (statement_of_map f left s.statements.first) s.statements.others

handled_of_map : (f : Sequence → SequenceFit) (left : ℕ) (s : SequenceParts Sequence) → handled_fits same_sequence_fit (mapped f s) left ≡ handled_fits f s left
handled_of_map f left s =
    both_hold (statements_of_map f left s) (all_of_map (handler_fits same_sequence_fit left) _ (handler_fits f left) (λ x. refl) s.handlers)

sequence_of_map : (f : Sequence → SequenceFit) (s : SequenceParts Sequence) (at : SequenceRole) (left : ℕ)
    → sequence_fits_by same_sequence_fit (mapped f s) at left ≡ sequence_fits_by f s at left
sequence_of_map f s role.Statements left = both_hold (none_of_map _ s.declarations) (both_hold (none_of_map _ s.handlers) (statements_of_map f left s))
sequence_of_map f s role.Handled left = both_hold (none_of_map _ s.declarations) (handled_of_map f left s)
sequence_of_map f s role.Body left =
    both_hold (all_of_map (declaration_fits same_sequence_fit left) (mapped_declaration f) (declaration_fits f left) (declaration_of_map f left) s.declarations)
    (handled_of_map f left s)

pub sequence_is_fit : (s : Sequence) (at : SequenceRole) (left : ℕ) → sequence_fits s at left ≡ sequence_fits_by sequence_fits (out-Sequence s).parts at left
sequence_is_fit s at left =
    ap (λ (fit : SequenceFit). fit at left) (fold_out-Sequence SequenceFit sequence_fit_layer s) ∙ sequence_of_map sequence_fits (out-Sequence s).parts at left
