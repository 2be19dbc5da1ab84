-- What the fold over a sequence gives of its scopes at its parts.
use Rattle.std.proofs.Common.{◌≡◌, ℕ, List, [], ◌∷◌, ◌++◌, map, Option, Some, None, refl, ap, ◌∙◌}
use Rattle.ann_base.specs.declared.places.Place.{Place}
use Rattle.ada_tree.specs.declared.statements.Sequence.{Sequence}
use Rattle.ada_tree.specs.declared.statements.Sequence.TheViews.{out-Sequence}
use Rattle.ada_tree.specs.declared.statements.Sequence.TheFolds.{fold_out-Sequence}
use Rattle.ada_tree.specs.declared.statements.SequenceParts.{SequenceParts}
use Rattle.ada_tree.specs.declared.statements.Statement.{Statement}
use Rattle.ada_tree.specs.declared.statements.Statement.TheVariants as statement
use Rattle.ada_tree.specs.declared.statements.If.{If}
use Rattle.ada_tree.specs.declared.statements.Elsif.{Elsif}
use Rattle.ada_tree.specs.declared.statements.CaseAlternative.{CaseAlternative}
use Rattle.ada_tree.specs.declared.statements.Handler.{Handler}
use Rattle.ada_tree.specs.declared.statements.Accept.{Accept}
use Rattle.ada_tree.specs.declared.statements.AcceptBody.{AcceptBody}
use Rattle.ada_tree.specs.declared.selects.SelectForm.{SelectForm}
use Rattle.ada_tree.specs.declared.selects.SelectForm.TheVariants as select
use Rattle.ada_tree.specs.declared.selects.SelectiveAccept.{SelectiveAccept}
use Rattle.ada_tree.specs.declared.selects.TimedEntryCall.{TimedEntryCall}
use Rattle.ada_tree.specs.declared.selects.ConditionalEntryCall.{ConditionalEntryCall}
use Rattle.ada_tree.specs.declared.selects.AsynchronousSelect.{AsynchronousSelect}
use Rattle.ada_tree.specs.declared.selects.SelectAlternative.{SelectAlternative}
use Rattle.ada_tree.specs.declared.selects.Alternative.{Alternative}
use Rattle.ada_tree.specs.declared.selects.Alternative.TheVariants as alternative
use Rattle.ada_tree.specs.declared.declarations.Declaration.{Declaration}
use Rattle.ada_tree.specs.declared.declarations.Declaration.TheVariants as declaration
use Rattle.ada_tree.specs.declared.declarations.OperationBody.{OperationBody}
use Rattle.ada_tree.specs.declared.declarations.OperationBody.TheVariants as body_of
use Rattle.ada_tree.proofs.Mapped.{mapped, mapped_statement, mapped_alternative, mapped_operation, mapped_declaration}
use Rattle.ada_regions.specs.declared.table.Names.{Names}
use Rattle.ada_image.specs.declared.making.SequencePlace.{SequencePlace}
use Rattle.ada_image.specs.declared.making.SequencePlace.TheVariants as sequence_place
use Rattle.image_laws.specs.ScopesOfText.{Scopes, inside_scopes, elsif_scopes, case_scopes, handler_scopes, alternative_scopes, alternatives_scopes}
use Rattle.image_laws.specs.ScopesOfText.{statement_scopes, statements_scopes, operation_scopes, operations_scopes, declaration_scopes}
use Rattle.image_laws.specs.ScopesOfText.{declarations_scopes, handled_scopes, parts_scopes, same_scopes, scopes_layer, sequence_scopes}
use Rattle.image_laws.proofs.Images.Layers.{elsif_of, case_of, handler_of}

both : {a b c d : List ℕ} → a ≡ c → b ≡ d → a ++ b ≡ c ++ d
both p q = rw (p, q) refl

module _ (f : Sequence → Scopes) (n : Names) where
  -- a statement in such a layer
  abbrev ToldInLayer : Statement Sequence → Type 0
  ToldInLayer s = statement_scopes same_scopes (mapped_statement f s) n ≡ statement_scopes f s n

  elsifs_of_map : (es : List (Elsif Sequence)) → elsif_scopes same_scopes (map (elsif_of f) es) n ≡ elsif_scopes f es n
  elsifs_of_map [] = refl
  elsifs_of_map (e ∷ es) = ap (λ ss. inside_scopes f e.statements n ++ ss) (elsifs_of_map es)

  cases_of_map : (xs : List (CaseAlternative Sequence)) → case_scopes same_scopes (map (case_of f) xs) n ≡ case_scopes f xs n
  cases_of_map [] = refl
  cases_of_map (x ∷ xs) = ap (λ ss. ss ++ inside_scopes f x.statements n) (cases_of_map xs)

  handlers_of_map : (hs : List (Handler Sequence)) → handler_scopes same_scopes (map (handler_of f) hs) n ≡ handler_scopes f hs n
  handlers_of_map [] = refl
  handlers_of_map (h ∷ hs) = ap (λ ss. ss ++ inside_scopes f h.statements n) (handlers_of_map hs)

  if_of_map : (i : If Sequence) (o : Option Sequence) → ToldInLayer (statement.If (record i { otherwise = o }))
  if_of_map i None = ap (λ ss. inside_scopes f i.statements n ++ (ss ++ [])) (elsifs_of_map i.elsifs)
  if_of_map i (Some q) = ap (λ ss. inside_scopes f i.statements n ++ (ss ++ inside_scopes f q n)) (elsifs_of_map i.elsifs)

  accept_of_map : (a : Accept Sequence) (body : Option (AcceptBody Sequence)) → ToldInLayer (statement.Accept (record a { body = body }))
  accept_of_map a None = refl
  accept_of_map a (Some body) = refl

  timed_of_map : (place : Place) (t : TimedEntryCall Sequence) (o p : Option Sequence)
      → ToldInLayer (statement.Select (record { place = place; form = select.TimedEntryCall (record t { statements = o; delay_statements = p }) }))
  timed_of_map place t None None = refl
  timed_of_map place t None (Some q) = refl
  timed_of_map place t (Some q) None = refl
  timed_of_map place t (Some q) (Some r) = refl

  conditional_of_map : (place : Place) (c : ConditionalEntryCall Sequence) (o : Option Sequence)
      → ToldInLayer (statement.Select (record { place = place; form = select.ConditionalEntryCall (record c { statements = o }) }))
  conditional_of_map place c None = refl
  conditional_of_map place c (Some q) = refl

  asynchronous_of_map : (place : Place) (s : AsynchronousSelect Sequence) (o : Option Sequence)
      → ToldInLayer (statement.Select (record { place = place; form = select.AsynchronousSelect (record s { statements = o }) }))
  asynchronous_of_map place s None = refl
  asynchronous_of_map place s (Some q) = refl

  alternative_of_map : (x : SelectAlternative Sequence) (a : Alternative Sequence)
      → alternative_scopes same_scopes (mapped_alternative f (record x { alternative = a })).alternative n ≡ alternative_scopes f a n
  alternative_of_map x (alternative.Accept accept None) = ap (λ ss. ss ++ []) (accept_of_map accept accept.body)
  alternative_of_map x (alternative.Accept accept (Some q)) = ap (λ ss. ss ++ inside_scopes f q n) (accept_of_map accept accept.body)
  alternative_of_map x (alternative.Delay delay None) = refl
  alternative_of_map x (alternative.Delay delay (Some statements)) = refl
  alternative_of_map x (alternative.Terminate place) = refl

  alternatives_of_map : (xs : List (SelectAlternative Sequence))
      → alternatives_scopes same_scopes (map (mapped_alternative f) xs) n ≡ alternatives_scopes f xs n
  alternatives_of_map [] = refl
  alternatives_of_map (x ∷ xs) = both (alternatives_of_map xs) (alternative_of_map x x.alternative)

  selective_of_map : (place : Place) (s : SelectiveAccept Sequence) (o : Option Sequence)
      → ToldInLayer (statement.Select (record { place = place; form = select.SelectiveAccept (record s { otherwise = o }) }))
  selective_of_map place s None = alternatives_of_map (s.alternatives.first ∷ s.alternatives.others)
  selective_of_map place s (Some q) = ap (λ ss. inside_scopes f q n ++ ss) (alternatives_of_map (s.alternatives.first ∷ s.alternatives.others))

  select_of_map : (place : Place) (s : SelectForm Sequence) → ToldInLayer (statement.Select (record { place = place; form = s }))
  select_of_map place (select.SelectiveAccept s) = selective_of_map place s s.otherwise
  select_of_map place (select.TimedEntryCall t) = timed_of_map place t t.statements t.delay_statements
  select_of_map place (select.ConditionalEntryCall c) = conditional_of_map place c c.statements
  select_of_map place (select.AsynchronousSelect s) = asynchronous_of_map place s s.statements

  statement_of_map : (s : Statement Sequence) → ToldInLayer s
  statement_of_map (statement.Null place) = refl
  statement_of_map (statement.Assignment a) = refl
  statement_of_map (statement.Call c) = refl
  statement_of_map (statement.Delay d) = refl
  statement_of_map (statement.If i) = if_of_map i i.otherwise
  statement_of_map (statement.Case c) = cases_of_map (c.alternatives.first ∷ c.alternatives.others)
  statement_of_map (statement.Loop l) = refl
  statement_of_map (statement.Exit e) = refl
  statement_of_map (statement.Block b) = refl
  statement_of_map (statement.Return place value) = refl
  statement_of_map (statement.Raise place exception) = refl
  statement_of_map (statement.Abort place tasks) = refl
  statement_of_map (statement.Accept a) = accept_of_map a a.body
  statement_of_map (statement.Requeue place entry with_abort) = refl
  statement_of_map (statement.Select s) = select_of_map s.place s.form

  statements_of_map : (ss : List (Statement Sequence)) → statements_scopes same_scopes (map (mapped_statement f) ss) n ≡ statements_scopes f ss n
  statements_of_map [] = refl
  statements_of_map (s ∷ ss) = both (statement_of_map s) (statements_of_map ss)

  -- ---- declarations

  operation_of_map : (o : OperationBody Sequence) → operation_scopes same_scopes (mapped_operation f o) n ≡ operation_scopes f o n
  operation_of_map (body_of.Subprogram specification body) = refl
  operation_of_map (body_of.Entry head body) = refl

  operations_of_map : (os : List (OperationBody Sequence)) → operations_scopes same_scopes (map (mapped_operation f) os) n ≡ operations_scopes f os n
  operations_of_map [] = refl
  operations_of_map (o ∷ os) = both (operations_of_map os) (operation_of_map o)

  declaration_of_map : (d : Declaration Sequence) → declaration_scopes same_scopes (mapped_declaration f d) n ≡ declaration_scopes f d n
  declaration_of_map (declaration.Object o) = refl
  declaration_of_map (declaration.Type t) = refl
  declaration_of_map (declaration.Subtype s) = refl
  declaration_of_map (declaration.Exception names) = refl
  declaration_of_map (declaration.Subprogram specification) = refl
  declaration_of_map (declaration.SubprogramBody specification body) = refl
  declaration_of_map (declaration.Task t) = refl
  declaration_of_map (declaration.TaskBody place name body) = refl
  declaration_of_map (declaration.Protected p) = refl
  declaration_of_map (declaration.ProtectedBody p) = operations_of_map p.operations
  declaration_of_map (declaration.Use place name) = refl

  declarations_of_map : (ds : List (Declaration Sequence)) → declarations_scopes same_scopes (map (mapped_declaration f) ds) n ≡ declarations_scopes f ds n
  declarations_of_map [] = refl
  declarations_of_map (d ∷ ds) = both (declarations_of_map ds) (declaration_of_map d)

  -- ---- sequences

  handled_of_map : (s : SequenceParts Sequence) → handled_scopes same_scopes (mapped f s) n ≡ handled_scopes f s n
  handled_of_map s = both (handlers_of_map s.handlers) (statements_of_map (s.statements.first ∷ s.statements.others))

  parts_of_map : (s : SequenceParts Sequence) (place : SequencePlace) → parts_scopes same_scopes (mapped f s) place n ≡ parts_scopes f s place n
  parts_of_map s sequence_place.StatementsAlone = statements_of_map (s.statements.first ∷ s.statements.others)
  parts_of_map s (sequence_place.BehindDeclarations part) = handled_of_map s
  parts_of_map s (sequence_place.AsBody is_task_body) = both (handled_of_map s) (declarations_of_map s.declarations)

pub sequence_begins : (q : Sequence) (place : SequencePlace) (n : Names)
    → sequence_scopes q place n ≡ parts_scopes sequence_scopes (out-Sequence q).parts place n
sequence_begins q place n =
    ap (λ (x : Scopes). x place n) (fold_out-Sequence Scopes scopes_layer q) ∙ parts_of_map sequence_scopes n (out-Sequence q).parts place
