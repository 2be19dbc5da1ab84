-- What the folds over sequences give at the parts of a sequence.
use Rattle.std.proofs.Common.{◌≡◌, Bool, true, false, List, [], ◌∷◌, ◌++◌, codes, Option, Some, None, map, refl, ◌∙◌, ap}
use Rattle.ada_tree.specs.declared.statements.SequenceRole.{SequenceRole}
use Rattle.ada_tree.specs.declared.statements.SequenceRole.TheVariants as role
use Rattle.ada_tree.specs.declared.statements.Sequence.{Sequence}
use Rattle.ada_tree.specs.declared.statements.Sequence.TheViews.{out-Sequence}
use Rattle.ada_tree.specs.declared.statements.Sequence.TheFolds.{fold_out-Sequence}
use Rattle.ada_tree.specs.declared.statements.SequenceParts.{SequenceParts}
use Rattle.ada_tree.specs.declared.statements.Statement.{Statement}
use Rattle.ada_tree.specs.declared.statements.Statement.TheVariants as statement
use Rattle.ada_tree.specs.declared.statements.If.{If}
use Rattle.ada_tree.specs.declared.statements.Block.{Block}
use Rattle.ada_tree.specs.declared.statements.Accept.{Accept}
use Rattle.ada_tree.specs.declared.statements.AcceptBody.{AcceptBody}
use Rattle.ada_tree.specs.declared.statements.Handler.{Handler}
use Rattle.ada_tree.specs.declared.names.OneOrMore.{OneOrMore}
use Rattle.ada_tree.specs.declared.selects.SelectiveAccept.{SelectiveAccept}
use Rattle.ada_tree.specs.declared.selects.TimedEntryCall.{TimedEntryCall}
use Rattle.ada_tree.specs.declared.selects.ConditionalEntryCall.{ConditionalEntryCall}
use Rattle.ada_tree.specs.declared.selects.AsynchronousSelect.{AsynchronousSelect}
use Rattle.ada_tree.specs.declared.selects.SelectAlternative.{SelectAlternative}
use Rattle.ada_tree.specs.declared.selects.Alternative.{Alternative}
use Rattle.ada_tree.specs.declared.selects.Alternative.TheVariants as alternative
use Rattle.ada_tree.specs.declared.declarations.OperationBody.{OperationBody}
use Rattle.ada_tree.specs.declared.declarations.OperationBody.TheVariants as body_of
use Rattle.ada_tree.specs.declared.selects.SelectForm.{SelectForm}
use Rattle.ada_tree.specs.declared.selects.SelectForm.TheVariants as select
use Rattle.ada_tree.specs.declared.declarations.Declaration.{Declaration}
use Rattle.ada_tree.specs.declared.declarations.Declaration.TheVariants as declaration
use Rattle.ann_base.specs.declared.places.Place.{Place}
use Rattle.ada_tree.specs.Written.{Written, word, word_at, optional, all_written, separated}
use Rattle.ada_tree.specs.SpellingStatements.{semicolon, guard_written, else_written, handler_written}
use Rattle.ada_tree.specs.SpellingStatements.{statements_written, select_alternative_written, statement_written}
use Rattle.ada_tree.specs.SpellingDeclarations.{operation_body_written, declaration_written}
use Rattle.ada_tree.specs.Spelling.{as_it_stands, handlers_written, parts_written, sequence_layer, sequence_written}
use Rattle.ada_tree.proofs.Mapped.{mapped, mapped_statement, mapped_alternative, mapped_operation, mapped_declaration}
use Rattle.ada_tree.proofs.Maps.{both, each_of_map, behind_of_map, all_written_of_map}

abbrev Text : Type 0
Text = SequenceRole → List Written

if_of_map : (f : Sequence → Text) (i : If Sequence) (o : Option Sequence)
    → statement_written as_it_stands (mapped_statement f (statement.If (record i { otherwise = o })))
    ≡ statement_written f (statement.If (record i { otherwise = o }))
if_of_map f i None = rw (each_of_map _ _ _ (λ x. refl) i.elsifs) refl
if_of_map f i (Some q) = rw (each_of_map _ _ _ (λ x. refl) i.elsifs) refl

block_of_map : (f : Sequence → Text) (b : Block Sequence) (declare : Bool)
    → statement_written as_it_stands (mapped_statement f (statement.Block (record b { declare = declare })))
    ≡ statement_written f (statement.Block (record b { declare = declare }))
block_of_map f b true = refl
block_of_map f b false = refl

accept_of_map : (f : Sequence → Text) (a : Accept Sequence) (body : Option (AcceptBody Sequence))
    → statement_written as_it_stands (mapped_statement f (statement.Accept (record a { body = body })))
    ≡ statement_written f (statement.Accept (record a { body = body }))
accept_of_map f a None = refl
accept_of_map f a (Some body) = refl

timed_of_map : (f : Sequence → Text) (place : Place) (t : TimedEntryCall Sequence) (o p : Option Sequence)
    → statement_written as_it_stands
    (mapped_statement f (statement.Select (record { place = place; form = select.TimedEntryCall (record t { statements = o; delay_statements = p }) })))
    ≡ statement_written f (statement.Select (record { place = place; form = select.TimedEntryCall (record t { statements = o; delay_statements = p }) }))
timed_of_map f place t None None = refl
timed_of_map f place t None (Some q) = refl
timed_of_map f place t (Some q) None = refl
timed_of_map f place t (Some q) (Some r) = refl

conditional_of_map : (f : Sequence → Text) (place : Place) (c : ConditionalEntryCall Sequence) (o : Option Sequence)
    → statement_written as_it_stands
    (mapped_statement f (statement.Select (record { place = place; form = select.ConditionalEntryCall (record c { statements = o }) })))
    ≡ statement_written f (statement.Select (record { place = place; form = select.ConditionalEntryCall (record c { statements = o }) }))
conditional_of_map f place c None = refl
conditional_of_map f place c (Some q) = refl

asynchronous_of_map : (f : Sequence → Text) (place : Place) (s : AsynchronousSelect Sequence) (o : Option Sequence)
    → statement_written as_it_stands
    (mapped_statement f (statement.Select (record { place = place; form = select.AsynchronousSelect (record s { statements = o }) })))
    ≡ statement_written f (statement.Select (record { place = place; form = select.AsynchronousSelect (record s { statements = o }) }))
asynchronous_of_map f place s None = refl
asynchronous_of_map f place s (Some q) = refl

alternative_of_map : (f : Sequence → Text) (x : SelectAlternative Sequence) (a : Alternative Sequence)
    → select_alternative_written as_it_stands (mapped_alternative f (record x { alternative = a }))
    ≡ select_alternative_written f (record x { alternative = a })
alternative_of_map f x (alternative.Accept accept None) =
    ap (λ (ws : List Written). optional guard_written x.guard ++ (ws ++ [])) (accept_of_map f accept accept.body)
alternative_of_map f x (alternative.Accept accept (Some q)) =
    ap (λ (ws : List Written). optional guard_written x.guard ++ (ws ++ statements_written f q)) (accept_of_map f accept accept.body)
alternative_of_map f x (alternative.Delay delay None) = refl
alternative_of_map f x (alternative.Delay delay (Some statements)) = refl
alternative_of_map f x (alternative.Terminate place) = refl

alternatives_of_map : (f : Sequence → Text) (xs : OneOrMore (SelectAlternative Sequence))
    → separated (word (codes "or")) (select_alternative_written as_it_stands)
    (record { first = mapped_alternative f xs.first; others = map (mapped_alternative f) xs.others })
    ≡ separated (word (codes "or")) (select_alternative_written f) xs
alternatives_of_map f xs =
    both (alternative_of_map f xs.first xs.first.alternative)
    (behind_of_map _ (select_alternative_written as_it_stands) (mapped_alternative f) (select_alternative_written f)
    (λ x. alternative_of_map f x x.alternative) xs.others)

selective_of_map : (f : Sequence → Text) (place : Place) (s : SelectiveAccept Sequence) (o : Option Sequence)
    → statement_written as_it_stands
    (mapped_statement f (statement.Select (record { place = place; form = select.SelectiveAccept (record s { otherwise = o }) })))
    ≡ statement_written f (statement.Select (record { place = place; form = select.SelectiveAccept (record s { otherwise = o }) }))
selective_of_map f place s None =
    ap (λ (ws : List Written). word_at place (codes "select") ∷ ((ws ++ []) ++ word (codes "end") ∷ word (codes "select") ∷ semicolon))
    (alternatives_of_map f s.alternatives)
selective_of_map f place s (Some q) =
    ap (λ (ws : List Written). word_at place (codes "select") ∷ ((ws ++ else_written f q) ++ word (codes "end") ∷ word (codes "select") ∷ semicolon))
    (alternatives_of_map f s.alternatives)

select_of_map : (f : Sequence → Text) (place : Place) (s : SelectForm Sequence)
    → statement_written as_it_stands (mapped_statement f (statement.Select (record { place = place; form = s })))
    ≡ statement_written f (statement.Select (record { place = place; form = s }))
select_of_map f place (select.SelectiveAccept s) = selective_of_map f place s s.otherwise
select_of_map f place (select.TimedEntryCall t) = timed_of_map f place t t.statements t.delay_statements
select_of_map f place (select.ConditionalEntryCall c) = conditional_of_map f place c c.statements
select_of_map f place (select.AsynchronousSelect s) = asynchronous_of_map f place s s.statements

statement_of_map : (f : Sequence → Text) (s : Statement Sequence) → statement_written as_it_stands (mapped_statement f s) ≡ statement_written f s
statement_of_map f (statement.Null place) = refl
statement_of_map f (statement.Assignment a) = refl
statement_of_map f (statement.Call c) = refl
statement_of_map f (statement.Delay d) = refl
statement_of_map f (statement.If i) = if_of_map f i i.otherwise
statement_of_map f (statement.Case c) = rw (each_of_map _ _ _ (λ x. refl) c.alternatives.others) refl
statement_of_map f (statement.Loop l) = refl
statement_of_map f (statement.Exit e) = refl
statement_of_map f (statement.Block b) = block_of_map f b b.declare
statement_of_map f (statement.Return place value) = refl
statement_of_map f (statement.Raise place exception) = refl
statement_of_map f (statement.Abort place tasks) = refl
statement_of_map f (statement.Accept a) = accept_of_map f a a.body
statement_of_map f (statement.Requeue place entry with_abort) = refl
statement_of_map f (statement.Select s) = select_of_map f s.place s.form

operation_of_map : (f : Sequence → Text) (x : OperationBody Sequence) → operation_body_written as_it_stands (mapped_operation f x) ≡ operation_body_written f x
operation_of_map f (body_of.Subprogram specification body) = refl
operation_of_map f (body_of.Entry head body) = refl

declaration_of_map : (f : Sequence → Text) (d : Declaration Sequence) → declaration_written as_it_stands (mapped_declaration f d) ≡ declaration_written f d
declaration_of_map f (declaration.Object o) = refl
declaration_of_map f (declaration.Type t) = refl
declaration_of_map f (declaration.Subtype s) = refl
declaration_of_map f (declaration.Exception names) = refl
declaration_of_map f (declaration.Subprogram specification) = refl
declaration_of_map f (declaration.SubprogramBody specification body) = refl
declaration_of_map f (declaration.Task t) = refl
declaration_of_map f (declaration.TaskBody place name body) = refl
declaration_of_map f (declaration.Protected p) = refl
declaration_of_map f (declaration.ProtectedBody p) = rw (each_of_map _ _ _ (operation_of_map f) p.operations) refl
declaration_of_map f (declaration.Use place name) = refl

handlers_of_map : (f : Sequence → Text) (s : SequenceParts Sequence) (hs : List (Handler Sequence))
    → handlers_written as_it_stands (mapped f (record s { handlers = hs })).handlers ≡ handlers_written f hs
handlers_of_map f s [] = refl
handlers_of_map f s (h ∷ hs) =
    ap (λ (ws : List Written). word (codes "exception") ∷ (handler_written f h ++ ws))
    (each_of_map (handler_written as_it_stands) _ (handler_written f) (λ x. refl) hs)

statements_of_map : (f : Sequence → Text) (s : SequenceParts Sequence)
    → all_written (statement_written as_it_stands) (mapped f s).statements ≡ all_written (statement_written f) s.statements
statements_of_map f s =
    all_written_of_map (statement_written as_it_stands) (mapped_statement f) (statement_written f) (statement_of_map f)
    (mapped_statement f s.statements.first) s.statements.first (statement_of_map f s.statements.first) s.statements.others

parts_of_map : (f : Sequence → Text) (s : SequenceParts Sequence) (at : SequenceRole) → parts_written as_it_stands (mapped f s) at ≡ parts_written f s at
parts_of_map f s role.Statements = statements_of_map f s
parts_of_map f s role.Handled = both (statements_of_map f s) (handlers_of_map f s s.handlers)
parts_of_map f s role.Body =
    both (each_of_map (declaration_written as_it_stands) (mapped_declaration f) (declaration_written f) (declaration_of_map f) s.declarations)
    (ap (λ (ws : List Written). word (codes "begin") ∷ ws) (both (statements_of_map f s) (handlers_of_map f s s.handlers)))

pub sequence_is_written : (s : Sequence) (at : SequenceRole) → sequence_written s at ≡ parts_written sequence_written (out-Sequence s).parts at
sequence_is_written s at = ap (λ (text : Text). text at) (fold_out-Sequence Text sequence_layer s) ∙ parts_of_map sequence_written (out-Sequence s).parts at
