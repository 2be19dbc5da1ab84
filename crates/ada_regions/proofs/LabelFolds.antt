-- The labels that a statement declares, in a layer in which each sequence was replaced by what it tells.
use Rattle.std.proofs.Common.{◌≡◌, [], ◌++◌, Option, Some, None, map, refl, ap}
use Rattle.ann_base.specs.declared.places.Place.{Place}
use Rattle.ada_tree.specs.declared.names.OneOrMore.{OneOrMore}
use Rattle.ada_tree.specs.declared.statements.Sequence.{Sequence}
use Rattle.ada_tree.specs.declared.statements.Statement.{Statement}
use Rattle.ada_tree.specs.declared.statements.Statement.TheVariants as statement
use Rattle.ada_tree.specs.declared.statements.If.{If}
use Rattle.ada_tree.specs.declared.statements.Accept.{Accept}
use Rattle.ada_tree.specs.declared.statements.AcceptBody.{AcceptBody}
use Rattle.ada_tree.specs.declared.selects.SelectForm.{SelectForm}
use Rattle.ada_tree.specs.declared.selects.SelectForm.TheVariants as select
use Rattle.ada_tree.specs.declared.selects.SelectiveAccept.{SelectiveAccept}
use Rattle.ada_tree.specs.declared.selects.TimedEntryCall.{TimedEntryCall}
use Rattle.ada_tree.specs.declared.selects.ConditionalEntryCall.{ConditionalEntryCall}
use Rattle.ada_tree.specs.declared.selects.AsynchronousSelect.{AsynchronousSelect}
use Rattle.ada_tree.specs.declared.selects.SelectAlternative.{SelectAlternative}
use Rattle.ada_tree.specs.declared.selects.Alternative.{Alternative}
use Rattle.ada_tree.specs.declared.selects.Alternative.TheVariants as alternative
use Rattle.ada_tree.proofs.Mapped.{mapped_statement, mapped_alternative}
use Rattle.ada_regions.specs.Occurrences.{Occurrences, SequenceNames, in_all}
use Rattle.ada_regions.specs.NamesInUnits.{same_sequence}
use Rattle.ada_regions.specs.NamesInStatements.{labels_in, labels_in_select_alternative, labels_in_statement}
use Rattle.ada_regions.proofs.ExpressionFolds.{flat_of_map, both}

if_of_map : (f : Sequence → SequenceNames) (i : If Sequence) (o : Option Sequence)
    → labels_in_statement same_sequence (mapped_statement f (statement.If (record i { otherwise = o })))
    ≡ labels_in_statement f (statement.If (record i { otherwise = o }))
if_of_map f i None = rw (flat_of_map _ _ _ (λ x. refl) i.elsifs) refl
if_of_map f i (Some q) = rw (flat_of_map _ _ _ (λ x. refl) i.elsifs) refl

accept_of_map : (f : Sequence → SequenceNames) (a : Accept Sequence) (body : Option (AcceptBody Sequence))
    → labels_in_statement same_sequence (mapped_statement f (statement.Accept (record a { body = body })))
    ≡ labels_in_statement f (statement.Accept (record a { body = body }))
accept_of_map f a None = refl
accept_of_map f a (Some body) = refl

timed_of_map : (f : Sequence → SequenceNames) (place : Place) (t : TimedEntryCall Sequence) (o p : Option Sequence)
    → labels_in_statement same_sequence
    (mapped_statement f (statement.Select (record { place = place; form = select.TimedEntryCall (record t { statements = o; delay_statements = p }) })))
    ≡ labels_in_statement f (statement.Select (record { place = place; form = select.TimedEntryCall (record t { statements = o; delay_statements = p }) }))
timed_of_map f place t None None = refl
timed_of_map f place t None (Some q) = refl
timed_of_map f place t (Some q) None = refl
timed_of_map f place t (Some q) (Some r) = refl

conditional_of_map : (f : Sequence → SequenceNames) (place : Place) (c : ConditionalEntryCall Sequence) (o : Option Sequence)
    → labels_in_statement same_sequence
    (mapped_statement f (statement.Select (record { place = place; form = select.ConditionalEntryCall (record c { statements = o }) })))
    ≡ labels_in_statement f (statement.Select (record { place = place; form = select.ConditionalEntryCall (record c { statements = o }) }))
conditional_of_map f place c None = refl
conditional_of_map f place c (Some q) = refl

asynchronous_of_map : (f : Sequence → SequenceNames) (place : Place) (s : AsynchronousSelect Sequence) (o : Option Sequence)
    → labels_in_statement same_sequence
    (mapped_statement f (statement.Select (record { place = place; form = select.AsynchronousSelect (record s { statements = o }) })))
    ≡ labels_in_statement f (statement.Select (record { place = place; form = select.AsynchronousSelect (record s { statements = o }) }))
asynchronous_of_map f place s None = refl
asynchronous_of_map f place s (Some q) = refl

alternative_of_map : (f : Sequence → SequenceNames) (x : SelectAlternative Sequence) (a : Alternative Sequence)
    → labels_in_select_alternative same_sequence (mapped_alternative f (record x { alternative = a }))
    ≡ labels_in_select_alternative f (record x { alternative = a })
alternative_of_map f x (alternative.Accept accept None) = ap (λ (ws : Occurrences). ws ++ []) (accept_of_map f accept accept.body)
alternative_of_map f x (alternative.Accept accept (Some q)) = ap (λ (ws : Occurrences). ws ++ labels_in f q) (accept_of_map f accept accept.body)
alternative_of_map f x (alternative.Delay delay None) = refl
alternative_of_map f x (alternative.Delay delay (Some statements)) = refl
alternative_of_map f x (alternative.Terminate place) = refl

alternatives_of_map : (f : Sequence → SequenceNames) (xs : OneOrMore (SelectAlternative Sequence))
    → in_all (labels_in_select_alternative same_sequence) (record { first = mapped_alternative f xs.first; others = map (mapped_alternative f) xs.others })
    ≡ in_all (labels_in_select_alternative f) xs
alternatives_of_map f xs =
    both (alternative_of_map f xs.first xs.first.alternative)
    (flat_of_map (labels_in_select_alternative same_sequence) (mapped_alternative f) (labels_in_select_alternative f)
    (λ x. alternative_of_map f x x.alternative) xs.others)

selective_of_map : (f : Sequence → SequenceNames) (place : Place) (s : SelectiveAccept Sequence) (o : Option Sequence)
    → labels_in_statement same_sequence
    (mapped_statement f (statement.Select (record { place = place; form = select.SelectiveAccept (record s { otherwise = o }) })))
    ≡ labels_in_statement f (statement.Select (record { place = place; form = select.SelectiveAccept (record s { otherwise = o }) }))
selective_of_map f place s None = ap (λ (ws : Occurrences). ws ++ []) (alternatives_of_map f s.alternatives)
selective_of_map f place s (Some q) = ap (λ (ws : Occurrences). ws ++ labels_in f q) (alternatives_of_map f s.alternatives)

select_of_map : (f : Sequence → SequenceNames) (place : Place) (s : SelectForm Sequence)
    → labels_in_statement same_sequence (mapped_statement f (statement.Select (record { place = place; form = s })))
    ≡ labels_in_statement f (statement.Select (record { place = place; form = s }))
select_of_map f place (select.SelectiveAccept s) = selective_of_map f place s s.otherwise
select_of_map f place (select.TimedEntryCall t) = timed_of_map f place t t.statements t.delay_statements
select_of_map f place (select.ConditionalEntryCall c) = conditional_of_map f place c c.statements
select_of_map f place (select.AsynchronousSelect s) = asynchronous_of_map f place s s.statements

pub statement_of_map : (f : Sequence → SequenceNames) (s : Statement Sequence)
    → labels_in_statement same_sequence (mapped_statement f s) ≡ labels_in_statement f s
statement_of_map f (statement.Null place) = refl
statement_of_map f (statement.Assignment a) = refl
statement_of_map f (statement.Call c) = refl
statement_of_map f (statement.Delay d) = refl
statement_of_map f (statement.If i) = if_of_map f i i.otherwise
statement_of_map f (statement.Case c) = rw (flat_of_map _ _ _ (λ x. refl) c.alternatives.others) refl
statement_of_map f (statement.Loop l) = refl
statement_of_map f (statement.Exit e) = refl
statement_of_map f (statement.Block b) = refl
statement_of_map f (statement.Return place value) = refl
statement_of_map f (statement.Raise place exception) = refl
statement_of_map f (statement.Abort place tasks) = refl
statement_of_map f (statement.Accept a) = accept_of_map f a a.body
statement_of_map f (statement.Requeue place entry with_abort) = refl
statement_of_map f (statement.Select s) = select_of_map f s.place s.form
