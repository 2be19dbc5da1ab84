-- What the fold over a sequence says of its parts.
use Rattle.std.proofs.Common.{◌≡◌, Bool, List, [], ◌∷◌, Option, Some, None, ◌&&◌, map, refl, ap, ◌∙◌}
use Rattle.ada_tree.specs.declared.statements.Sequence.{Sequence}
use Rattle.ada_tree.specs.declared.statements.Sequence.TheViews.{out-Sequence}
use Rattle.ada_tree.specs.declared.statements.Sequence.TheFolds.{fold_out-Sequence}
use Rattle.ada_tree.specs.declared.statements.SequenceParts.{SequenceParts}
use Rattle.ada_tree.specs.declared.statements.Statement.{Statement}
use Rattle.ada_tree.specs.declared.statements.Statement.TheVariants as statement
use Rattle.ada_tree.specs.declared.statements.If.{If}
use Rattle.ada_tree.specs.declared.statements.Elsif.{Elsif}
use Rattle.ada_tree.specs.declared.statements.Case.{Case}
use Rattle.ada_tree.specs.declared.statements.CaseAlternative.{CaseAlternative}
use Rattle.ada_tree.specs.declared.statements.Handler.{Handler}
use Rattle.ada_tree.specs.declared.statements.Accept.{Accept}
use Rattle.ada_tree.specs.declared.statements.AcceptBody.{AcceptBody}
use Rattle.ada_tree.specs.declared.selects.SelectForm.{SelectForm}
use Rattle.ada_tree.specs.declared.selects.SelectForm.TheVariants as select
use Rattle.ada_tree.specs.declared.selects.SelectiveAccept.{SelectiveAccept}
use Rattle.ada_tree.specs.declared.selects.TimedEntryCall.{TimedEntryCall}
use Rattle.ada_tree.specs.declared.selects.ConditionalEntryCall.{ConditionalEntryCall}
use Rattle.ada_tree.specs.declared.selects.AsynchronousSelect.{AsynchronousSelect}
use Rattle.ada_tree.specs.declared.selects.SelectAlternative.{SelectAlternative}
use Rattle.ada_tree.specs.declared.selects.Alternative.{Alternative}
use Rattle.ada_tree.specs.declared.selects.Alternative.TheVariants as alternative
use Rattle.ada_tree.specs.declared.declarations.OperationBody.{OperationBody}
use Rattle.ada_tree.specs.declared.declarations.OperationBody.TheVariants as body_of
use Rattle.ada_tree.specs.declared.declarations.Declaration.{Declaration}
use Rattle.ada_tree.specs.declared.declarations.Declaration.TheVariants as declaration
use Rattle.ada_tree.proofs.Mapped.{mapped, mapped_statement, mapped_alternative, mapped_operation, mapped_declaration}
use Rattle.ann_base.specs.declared.places.Place.{Place}
use Rattle.ada_regions.specs.declared.table.Names.{Names}
use Rattle.ada_image.specs.ImageOfStatements.{guard_of}
use Rattle.ada_image.specs.BuiltExpressions.{Built, expression_built}
use Rattle.ada_image.specs.BuiltStatements.{value_if_there}
use Rattle.ada_image.specs.BuiltSequences.{sequence_if_built, elsifs_built, alternatives_built, handlers_built, alternative_built}
use Rattle.ada_image.specs.BuiltSequences.{select_alternative_built, select_alternatives_built, statement_built, statements_built, operations_built}
use Rattle.ada_image.specs.BuiltSequences.{declaration_built, declarations_built, parts_built, same_sequence_built, sequence_built_layer, sequence_built}

module _ (f : Sequence → Built) (n : Names) where
  -- ---- if and case

  module _ (m : Elsif Sequence → Elsif Built)
      (same : (e : Elsif Sequence) → m e ≡ record { place = e.place; condition = e.condition; statements = f e.statements }) where
    elsifs_of_map : (es : List (Elsif Sequence)) → elsifs_built same_sequence_built (map m es) n ≡ elsifs_built f es n
    elsifs_of_map [] = refl
    elsifs_of_map (e ∷ es) = rw (same e, elsifs_of_map es) refl

  if_of_map : (i : If Sequence) (o : Option Sequence)
      → statement_built same_sequence_built (mapped_statement f (statement.If (record i { otherwise = o }))) n
      ≡ statement_built f (statement.If (record i { otherwise = o })) n
  if_of_map i None =
      ap (λ (b : Bool). expression_built i.condition n && (f i.statements n && (b && sequence_if_built f None n)))
      (elsifs_of_map (λ (e : Elsif Sequence). record { place = e.place; condition = e.condition; statements = f e.statements }) (λ e. refl) i.elsifs)
  if_of_map i (Some q) =
      ap (λ (b : Bool). expression_built i.condition n && (f i.statements n && (b && sequence_if_built f (Some q) n)))
      (elsifs_of_map (λ (e : Elsif Sequence). record { place = e.place; condition = e.condition; statements = f e.statements }) (λ e. refl) i.elsifs)

  module _ (m : CaseAlternative Sequence → CaseAlternative Built)
      (same : (a : CaseAlternative Sequence) → m a ≡ record { place = a.place; choices = a.choices; statements = f a.statements }) where
    alternatives_of_map : (rest : List (CaseAlternative Sequence)) → alternatives_built same_sequence_built (map m rest) n ≡ alternatives_built f rest n
    alternatives_of_map [] = refl
    alternatives_of_map (a ∷ rest) = rw (same a, alternatives_of_map rest) refl

  case_of_map : (c : Case Sequence) → statement_built same_sequence_built (mapped_statement f (statement.Case c)) n ≡ statement_built f (statement.Case c) n
  case_of_map c =
      ap (λ (b : Bool). expression_built c.selector n && b)
      (alternatives_of_map (λ (a : CaseAlternative Sequence). record { place = a.place; choices = a.choices; statements = f a.statements }) (λ a. refl)
      (c.alternatives.first ∷ c.alternatives.others))

  -- ---- handlers and accepts

  module _ (m : Handler Sequence → Handler Built)
      (same : (h : Handler Sequence) → m h ≡ record { place = h.place; exceptions = h.exceptions; statements = f h.statements }) where
    handlers_of_map : (hs : List (Handler Sequence)) → handlers_built same_sequence_built (map m hs) n ≡ handlers_built f hs n
    handlers_of_map [] = refl
    handlers_of_map (h ∷ hs) = rw (same h, handlers_of_map hs) refl

  accept_of_map : (a : Accept Sequence) (body : Option (AcceptBody Sequence))
      → statement_built same_sequence_built (mapped_statement f (statement.Accept (record a { body = body }))) n
      ≡ statement_built f (statement.Accept (record a { body = body })) n
  accept_of_map a None = refl
  accept_of_map a (Some body) = refl

  -- ---- selects

  accepting_of_map : (x : SelectAlternative Sequence) (accept : Accept Sequence) (behind : Option Sequence) (body : Option (AcceptBody Sequence))
      → alternative_built same_sequence_built
      (mapped_alternative f (record x { alternative = alternative.Accept (record accept { body = body }) behind })).alternative n
      ≡ alternative_built f (alternative.Accept (record accept { body = body }) behind) n
  accepting_of_map x accept None None = refl
  accepting_of_map x accept None (Some body) = refl
  accepting_of_map x accept (Some q) None = refl
  accepting_of_map x accept (Some q) (Some body) = refl

  alternative_of_map : (x : SelectAlternative Sequence) (a : Alternative Sequence)
      → alternative_built same_sequence_built (mapped_alternative f (record x { alternative = a })).alternative n ≡ alternative_built f a n
  alternative_of_map x (alternative.Accept accept behind) = accepting_of_map x accept behind accept.body
  alternative_of_map x (alternative.Delay delay None) = refl
  alternative_of_map x (alternative.Delay delay (Some q)) = refl
  alternative_of_map x (alternative.Terminate place) = refl

  select_alternatives_of_map : (xs : List (SelectAlternative Sequence))
      → select_alternatives_built same_sequence_built (map (mapped_alternative f) xs) n ≡ select_alternatives_built f xs n
  select_alternatives_of_map [] = refl
  select_alternatives_of_map (x ∷ xs) =
      ap (λ (b : Bool). (value_if_there (guard_of x.guard) n && b) && select_alternatives_built same_sequence_built (map (mapped_alternative f) xs) n)
      (alternative_of_map x x.alternative)
      ∙ ap (λ (b : Bool). select_alternative_built f x n && b) (select_alternatives_of_map xs)

  abbrev selecting : Place → SelectForm Sequence → Statement Sequence
  selecting place form = statement.Select (record { place = place; form = form })

  selective_of_map : (place : Place) (s : SelectiveAccept Sequence) (o : Option Sequence)
      → statement_built same_sequence_built (mapped_statement f (selecting place (select.SelectiveAccept (record s { otherwise = o })))) n
      ≡ statement_built f (selecting place (select.SelectiveAccept (record s { otherwise = o }))) n
  selective_of_map place s None = ap (λ (b : Bool). b && sequence_if_built f None n) (select_alternatives_of_map (s.alternatives.first ∷ s.alternatives.others))
  selective_of_map place s (Some q) =
      ap (λ (b : Bool). b && sequence_if_built f (Some q) n) (select_alternatives_of_map (s.alternatives.first ∷ s.alternatives.others))

  timed_of_map : (place : Place) (t : TimedEntryCall Sequence) (o p : Option Sequence)
      → statement_built same_sequence_built (mapped_statement f (selecting place (select.TimedEntryCall (record t { statements = o; delay_statements = p })))) n
      ≡ statement_built f (selecting place (select.TimedEntryCall (record t { statements = o; delay_statements = p }))) n
  timed_of_map place t None None = refl
  timed_of_map place t None (Some q) = refl
  timed_of_map place t (Some q) None = refl
  timed_of_map place t (Some q) (Some r) = refl

  conditional_of_map : (place : Place) (c : ConditionalEntryCall Sequence) (o : Option Sequence)
      → statement_built same_sequence_built (mapped_statement f (selecting place (select.ConditionalEntryCall (record c { statements = o })))) n
      ≡ statement_built f (selecting place (select.ConditionalEntryCall (record c { statements = o }))) n
  conditional_of_map place c None = refl
  conditional_of_map place c (Some q) = refl

  asynchronous_of_map : (place : Place) (s : AsynchronousSelect Sequence) (o : Option Sequence)
      → statement_built same_sequence_built (mapped_statement f (selecting place (select.AsynchronousSelect (record s { statements = o })))) n
      ≡ statement_built f (selecting place (select.AsynchronousSelect (record s { statements = o }))) n
  asynchronous_of_map place s None = refl
  asynchronous_of_map place s (Some q) = refl

  select_of_map : (place : Place) (form : SelectForm Sequence)
      → statement_built same_sequence_built (mapped_statement f (selecting place form)) n ≡ statement_built f (selecting place form) n
  select_of_map place (select.SelectiveAccept s) = selective_of_map place s s.otherwise
  select_of_map place (select.TimedEntryCall t) = timed_of_map place t t.statements t.delay_statements
  select_of_map place (select.ConditionalEntryCall c) = conditional_of_map place c c.statements
  select_of_map place (select.AsynchronousSelect s) = asynchronous_of_map place s s.statements

  -- ---- all statements

  statement_of_map : (s : Statement Sequence) → statement_built same_sequence_built (mapped_statement f s) n ≡ statement_built f s n
  statement_of_map (statement.Null place) = refl
  statement_of_map (statement.Assignment a) = refl
  statement_of_map (statement.Call c) = refl
  statement_of_map (statement.Delay d) = refl
  statement_of_map (statement.If i) = if_of_map i i.otherwise
  statement_of_map (statement.Case c) = case_of_map c
  statement_of_map (statement.Loop i) = refl
  statement_of_map (statement.Exit e) = refl
  statement_of_map (statement.Block b) = refl
  statement_of_map (statement.Return place value) = refl
  statement_of_map (statement.Raise place exception) = refl
  statement_of_map (statement.Abort place tasks) = refl
  statement_of_map (statement.Accept a) = accept_of_map a a.body
  statement_of_map (statement.Requeue place entry with_abort) = refl
  statement_of_map (statement.Select s) = select_of_map s.place s.form

  statements_of_map : (ss : List (Statement Sequence)) → statements_built same_sequence_built (map (mapped_statement f) ss) n ≡ statements_built f ss n
  statements_of_map [] = refl
  statements_of_map (s ∷ ss) =
      ap (λ (b : Bool). b && statements_built same_sequence_built (map (mapped_statement f) ss) n) (statement_of_map s)
      ∙ ap (λ (b : Bool). statement_built f s n && b) (statements_of_map ss)

  -- ---- declarations and bodies

  operations_of_map : (os : List (OperationBody Sequence)) → operations_built same_sequence_built (map (mapped_operation f) os) n ≡ operations_built f os n
  operations_of_map [] = refl
  operations_of_map (body_of.Subprogram s body ∷ os) = ap (λ (b : Bool). f body.sequence n && b) (operations_of_map os)
  operations_of_map (body_of.Entry head body ∷ os) = ap (λ (b : Bool). f body.sequence n && b) (operations_of_map os)

  declaration_of_map : (d : Declaration Sequence) → declaration_built same_sequence_built (mapped_declaration f d) n ≡ declaration_built f d n
  declaration_of_map (declaration.Object o) = refl
  declaration_of_map (declaration.Type t) = refl
  declaration_of_map (declaration.Subtype s) = refl
  declaration_of_map (declaration.Exception names) = refl
  declaration_of_map (declaration.Subprogram s) = refl
  declaration_of_map (declaration.SubprogramBody s body) = refl
  declaration_of_map (declaration.Task t) = refl
  declaration_of_map (declaration.TaskBody place name body) = refl
  declaration_of_map (declaration.Protected p) = refl
  declaration_of_map (declaration.ProtectedBody p) = operations_of_map p.operations
  declaration_of_map (declaration.Use place name) = refl

  declarations_of_map : (ds : List (Declaration Sequence))
      → declarations_built same_sequence_built (map (mapped_declaration f) ds) n ≡ declarations_built f ds n
  declarations_of_map [] = refl
  declarations_of_map (d ∷ ds) =
      ap (λ (b : Bool). b && declarations_built same_sequence_built (map (mapped_declaration f) ds) n) (declaration_of_map d)
      ∙ ap (λ (b : Bool). declaration_built f d n && b) (declarations_of_map ds)

  -- ---- sequences

  parts_of_map : (s : SequenceParts Sequence) → parts_built same_sequence_built (mapped f s) n ≡ parts_built f s n
  parts_of_map s =
      ap (λ (b : Bool). b
      && (statements_built same_sequence_built (map (mapped_statement f) (s.statements.first ∷ s.statements.others)) n
      && handlers_built same_sequence_built (mapped f s).handlers n))
      (declarations_of_map s.declarations)
      ∙ ap (λ (b : Bool). declarations_built f s.declarations n && (b && handlers_built same_sequence_built (mapped f s).handlers n))
      (statements_of_map (s.statements.first ∷ s.statements.others))
      ∙ ap (λ (b : Bool). declarations_built f s.declarations n && (statements_built f (s.statements.first ∷ s.statements.others) n && b))
      (handlers_of_map (λ (h : Handler Sequence). record { place = h.place; exceptions = h.exceptions; statements = f h.statements }) (λ h. refl) s.handlers)

pub sequence_by_parts : (s : Sequence) (n : Names) → sequence_built s n ≡ parts_built sequence_built (out-Sequence s).parts n
sequence_by_parts s n = ap (λ (b : Built). b n) (fold_out-Sequence Built sequence_built_layer s) ∙ parts_of_map sequence_built n (out-Sequence s).parts
