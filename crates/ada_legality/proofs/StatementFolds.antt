-- What is found in a statement, in a layer in which each sequence was replaced by what is found in it.
use Rattle.std.proofs.Common.{◌≡◌, List, [], ◌++◌, Option, Some, None, Bool, true, false, map, refl, ap, ◌∙◌}
use Rattle.std.specs.List.{flat_map}
use Rattle.ann_base.specs.declared.places.Place.{Place}
use Rattle.ada_tree.specs.declared.statements.Sequence.{Sequence}
use Rattle.ada_tree.specs.declared.statements.Statement.{Statement}
use Rattle.ada_tree.specs.declared.statements.Statement.TheVariants as statement
use Rattle.ada_tree.specs.declared.statements.If.{If}
use Rattle.ada_tree.specs.declared.statements.Elsif.{Elsif}
use Rattle.ada_tree.specs.declared.statements.Case.{Case}
use Rattle.ada_tree.specs.declared.statements.CaseAlternative.{CaseAlternative}
use Rattle.ada_tree.specs.declared.statements.Choice.{Choice}
use Rattle.ada_tree.specs.declared.statements.Loop.{Loop}
use Rattle.ada_tree.specs.declared.statements.Iteration.{Iteration}
use Rattle.ada_tree.specs.declared.statements.Iteration.TheVariants as iteration
use Rattle.ada_tree.specs.declared.statements.Accept.{Accept}
use Rattle.ada_tree.specs.declared.statements.AcceptBody.{AcceptBody}
use Rattle.ada_tree.specs.declared.selects.SelectForm.{SelectForm}
use Rattle.ada_tree.specs.declared.selects.SelectForm.TheVariants as select
use Rattle.ada_tree.specs.declared.selects.SelectiveAccept.{SelectiveAccept}
use Rattle.ada_tree.specs.declared.selects.TimedEntryCall.{TimedEntryCall}
use Rattle.ada_tree.specs.declared.selects.ConditionalEntryCall.{ConditionalEntryCall}
use Rattle.ada_tree.specs.declared.selects.AsynchronousSelect.{AsynchronousSelect}
use Rattle.ada_tree.specs.declared.selects.SelectAlternative.{SelectAlternative}
use Rattle.ada_tree.specs.declared.selects.Alternative.{Alternative}
use Rattle.ada_tree.specs.declared.selects.Alternative.TheVariants as alternative
use Rattle.ada_tree.specs.declared.selects.Trigger.{Trigger}
use Rattle.ada_tree.specs.declared.selects.Trigger.TheVariants as trigger
use Rattle.ada_tree.proofs.Mapped.{mapped_statement, mapped_alternative}
use Rattle.ada_regions.specs.Words.{all_of}
use Rattle.ada_legality.specs.CallStatements.{condition_found}
use Rattle.ada_legality.specs.Choices.{case_judged, choices_read, type_of_selector}
use Rattle.ada_legality.specs.Declarations.{Sight, same_findings}
use Rattle.ada_legality.specs.Findings.{Found, broken_if}
use Rattle.ada_legality.specs.ReadExpressions.{read_expression}
use Rattle.ada_legality.specs.SimpleStatements.{alternative_part, selective_accept_judged}
use Rattle.ada_legality.specs.Statements.{accept_found, asynchronous_select_found, case_alternative_found, case_found, choices_of_case}
use Rattle.ada_legality.specs.Statements.{conditional_call_found, elsif_found, if_found, loop_found, select_alternative_found}
use Rattle.ada_legality.specs.Statements.{select_found, selective_accept_found, statement_found, timed_call_found}
use Rattle.ada_legality.specs.declared.parts.AlternativePart.{AlternativePart}
use Rattle.ada_legality.specs.declared.rules.Rule.TheVariants as rule
use Rattle.ada_legality.specs.declared.standing.Known.{Known}
use Rattle.ada_legality.proofs.Lists.{flat_of_map, map_of_map}

module _ (f : Sequence → Sight) where
  -- ---- conditional statements

  abbrev elsif_with : Elsif Sequence → Elsif Sight
  elsif_with x = record { place = x.place; condition = x.condition; statements = f x.statements }

  elsifs_of_map : (es : List (Elsif Sequence)) (k : Known)
      → flat_map (λ (x : Elsif Sight). elsif_found same_findings x k) (map elsif_with es) ≡ flat_map (λ (x : Elsif Sequence). elsif_found f x k) es
  elsifs_of_map es k = flat_of_map (λ (x : Elsif Sight). elsif_found same_findings x k) elsif_with (λ (x : Elsif Sequence). elsif_found f x k) (λ x. refl) es

  if_of_map : (i : If Sequence) (o : Option Sequence) (k : Known)
      → statement_found same_findings (mapped_statement f (statement.If (record i { otherwise = o }))) k
      ≡ statement_found f (statement.If (record i { otherwise = o })) k
  unfolding if_found
  if_of_map i None k = ap (λ (ws : Found). condition_found i.condition k ++ (f i.statements k ++ (ws ++ []))) (elsifs_of_map i.elsifs k)
  if_of_map i (Some q) k = ap (λ (ws : Found). condition_found i.condition k ++ (f i.statements k ++ (ws ++ f q k))) (elsifs_of_map i.elsifs k)

  -- ---- cases

  abbrev alternative_with : CaseAlternative Sequence → CaseAlternative Sight
  alternative_with x = record { place = x.place; choices = x.choices; statements = f x.statements }

  choices_of_map : (xs : List (CaseAlternative Sequence))
      → flat_map (λ (a : CaseAlternative Sight). all_of a.choices) (map alternative_with xs) ≡ flat_map (λ (a : CaseAlternative Sequence). all_of a.choices) xs
  choices_of_map xs =
      flat_of_map (λ (a : CaseAlternative Sight). all_of a.choices) alternative_with (λ (a : CaseAlternative Sequence). all_of a.choices) (λ x. refl) xs

  statements_of_case : (xs : List (CaseAlternative Sequence)) (k : Known)
      → flat_map (λ (a : CaseAlternative Sight). case_alternative_found same_findings a k) (map alternative_with xs)
      ≡ flat_map (λ (a : CaseAlternative Sequence). case_alternative_found f a k) xs
  statements_of_case xs k =
      flat_of_map (λ (a : CaseAlternative Sight). case_alternative_found same_findings a k) alternative_with
      (λ (a : CaseAlternative Sequence). case_alternative_found f a k) (λ x. refl) xs

  -- a case with these choices, in the alternatives of which this is found
  abbrev case_with : Case Sequence → Known → List Choice → Found → Found
  case_with c k cs rest =
      let r = read_expression c.selector k in
      let choices = choices_read (type_of_selector r.0.typed) cs k in
      r.1 ++ (choices.1 ++ (case_judged k c.place r.0 choices.0 ++ rest))

  case_of_map : (c : Case Sequence) (k : Known)
      → statement_found same_findings (mapped_statement f (statement.Case c)) k ≡ statement_found f (statement.Case c) k
  unfolding case_found choices_of_case
  case_of_map c k =
      ap (λ (cs : List Choice).
      case_with c k cs (flat_map (λ (a : CaseAlternative Sight). case_alternative_found same_findings a k) (map alternative_with (all_of c.alternatives))))
      (choices_of_map (all_of c.alternatives))
      ∙ ap (λ (ws : Found). case_with c k (flat_map (λ (a : CaseAlternative Sequence). all_of a.choices) (all_of c.alternatives)) ws)
      (statements_of_case (all_of c.alternatives) k)

  -- ---- loops

  loop_of_map : (i : Loop Sequence) (how : Iteration) (k : Known)
      → statement_found same_findings (mapped_statement f (statement.Loop (record i { iteration = how }))) k
      ≡ statement_found f (statement.Loop (record i { iteration = how })) k
  unfolding loop_found
  loop_of_map i iteration.Forever k = refl
  loop_of_map i (iteration.While place condition) k = refl
  loop_of_map i (iteration.For place parameter reverse low high) k = refl

  -- ---- accept statements

  accept_of_map : (a : Accept Sequence) (body : Option (AcceptBody Sequence)) (k : Known)
      → statement_found same_findings (mapped_statement f (statement.Accept (record a { body = body }))) k
      ≡ statement_found f (statement.Accept (record a { body = body })) k
  unfolding accept_found
  accept_of_map a None k = refl
  accept_of_map a (Some body) k = refl

  -- ---- selective accepts

  accept_alternative_of_map : (x : SelectAlternative Sequence) (accept : Accept Sequence) (behind : Option Sequence) (body : Option (AcceptBody Sequence))
      (k : Known)
      → select_alternative_found same_findings (mapped_alternative f (record x { alternative = alternative.Accept (record accept { body = body }) behind })) k
      ≡ select_alternative_found f (record x { alternative = alternative.Accept (record accept { body = body }) behind }) k
  unfolding accept_found
  accept_alternative_of_map x accept None None k = refl
  accept_alternative_of_map x accept None (Some body) k = refl
  accept_alternative_of_map x accept (Some q) None k = refl
  accept_alternative_of_map x accept (Some q) (Some body) k = refl

  alternative_of_map : (x : SelectAlternative Sequence) (a : Alternative Sequence) (k : Known)
      → select_alternative_found same_findings (mapped_alternative f (record x { alternative = a })) k
      ≡ select_alternative_found f (record x { alternative = a }) k
  alternative_of_map x (alternative.Accept accept statements) k = accept_alternative_of_map x accept statements accept.body k
  alternative_of_map x (alternative.Delay delay None) k = refl
  alternative_of_map x (alternative.Delay delay (Some statements)) k = refl
  alternative_of_map x (alternative.Terminate place) k = refl

  alternatives_of_map : (xs : List (SelectAlternative Sequence)) (k : Known)
      → flat_map (λ (x : SelectAlternative Sight). select_alternative_found same_findings x k) (map (mapped_alternative f) xs)
      ≡ flat_map (λ (x : SelectAlternative Sequence). select_alternative_found f x k) xs
  alternatives_of_map xs k =
      flat_of_map (λ (x : SelectAlternative Sight). select_alternative_found same_findings x k) (mapped_alternative f)
      (λ (x : SelectAlternative Sequence). select_alternative_found f x k)
      (λ x. alternative_of_map x x.alternative k) xs

  part_of_map : (x : SelectAlternative Sequence) (a : Alternative Sequence)
      → alternative_part (mapped_alternative f (record x { alternative = a })) ≡ alternative_part (record x { alternative = a })
  part_of_map x (alternative.Accept accept None) = refl
  part_of_map x (alternative.Accept accept (Some statements)) = refl
  part_of_map x (alternative.Delay delay None) = refl
  part_of_map x (alternative.Delay delay (Some statements)) = refl
  part_of_map x (alternative.Terminate place) = refl

  parts_of_map : (xs : List (SelectAlternative Sequence)) → map alternative_part (map (mapped_alternative f) xs) ≡ map alternative_part xs
  parts_of_map xs = map_of_map alternative_part (mapped_alternative f) alternative_part (λ x. part_of_map x x.alternative) xs

  -- a selective accept of these parts, in the alternatives of which this is found
  abbrev selective_with : Known → Place → Bool → List AlternativePart → Found → Found → Found
  selective_with k place has_else parts inner last =
      broken_if rule.Restriction k.in_force.no_select_statements place
      ++ (selective_accept_judged k place parts has_else ++ (inner ++ last))

  selective_of_map : (place : Place) (s : SelectiveAccept Sequence) (o : Option Sequence) (k : Known)
      → statement_found same_findings
      (mapped_statement f (statement.Select (record { place = place; form = select.SelectiveAccept (record s { otherwise = o }) }))) k
      ≡ statement_found f (statement.Select (record { place = place; form = select.SelectiveAccept (record s { otherwise = o }) })) k
  unfolding select_found selective_accept_found
  selective_of_map place s None k =
      ap (λ (ps : List AlternativePart). selective_with k place false ps
      (flat_map (λ (x : SelectAlternative Sight). select_alternative_found same_findings x k) (map (mapped_alternative f) (all_of s.alternatives))) [])
      (parts_of_map (all_of s.alternatives))
      ∙ ap (λ (ws : Found). selective_with k place false (map alternative_part (all_of s.alternatives)) ws []) (alternatives_of_map (all_of s.alternatives) k)
  selective_of_map place s (Some q) k =
      ap (λ (ps : List AlternativePart). selective_with k place true ps
      (flat_map (λ (x : SelectAlternative Sight). select_alternative_found same_findings x k) (map (mapped_alternative f) (all_of s.alternatives))) (f q k))
      (parts_of_map (all_of s.alternatives))
      ∙ ap (λ (ws : Found). selective_with k place true (map alternative_part (all_of s.alternatives)) ws (f q k))
      (alternatives_of_map (all_of s.alternatives) k)

  -- ---- other selects

  timed_of_map : (place : Place) (t : TimedEntryCall Sequence) (o p : Option Sequence) (k : Known)
      → statement_found same_findings
      (mapped_statement f (statement.Select (record { place = place; form = select.TimedEntryCall (record t { statements = o; delay_statements = p }) }))) k
      ≡ statement_found f (statement.Select (record { place = place; form = select.TimedEntryCall (record t { statements = o; delay_statements = p }) })) k
  unfolding select_found timed_call_found
  timed_of_map place t None None k = refl
  timed_of_map place t None (Some q) k = refl
  timed_of_map place t (Some q) None k = refl
  timed_of_map place t (Some q) (Some r) k = refl

  conditional_of_map : (place : Place) (c : ConditionalEntryCall Sequence) (o : Option Sequence) (k : Known)
      → statement_found same_findings
      (mapped_statement f (statement.Select (record { place = place; form = select.ConditionalEntryCall (record c { statements = o }) }))) k
      ≡ statement_found f (statement.Select (record { place = place; form = select.ConditionalEntryCall (record c { statements = o }) })) k
  unfolding select_found conditional_call_found
  conditional_of_map place c None k = refl
  conditional_of_map place c (Some q) k = refl

  asynchronous_of_map : (place : Place) (s : AsynchronousSelect Sequence) (what : Trigger) (o : Option Sequence) (k : Known)
      → statement_found same_findings
      (mapped_statement f (statement.Select (record { place = place; form = select.AsynchronousSelect (record s { trigger = what; statements = o }) }))) k
      ≡ statement_found f (statement.Select (record { place = place; form = select.AsynchronousSelect (record s { trigger = what; statements = o }) })) k
  unfolding select_found asynchronous_select_found
  asynchronous_of_map place s (trigger.Call c) None k = refl
  asynchronous_of_map place s (trigger.Call c) (Some q) k = refl
  asynchronous_of_map place s (trigger.Delay d) None k = refl
  asynchronous_of_map place s (trigger.Delay d) (Some q) k = refl

  select_of_map : (place : Place) (form : SelectForm Sequence) (k : Known)
      → statement_found same_findings (mapped_statement f (statement.Select (record { place = place; form = form }))) k
      ≡ statement_found f (statement.Select (record { place = place; form = form })) k
  select_of_map place (select.SelectiveAccept s) k = selective_of_map place s s.otherwise k
  select_of_map place (select.TimedEntryCall t) k = timed_of_map place t t.statements t.delay_statements k
  select_of_map place (select.ConditionalEntryCall c) k = conditional_of_map place c c.statements k
  select_of_map place (select.AsynchronousSelect s) k = asynchronous_of_map place s s.trigger s.statements k

  -- ---- all statements

  pub statement_of_map : (s : Statement Sequence) (k : Known) → statement_found same_findings (mapped_statement f s) k ≡ statement_found f s k
  statement_of_map (statement.Null place) k = refl
  statement_of_map (statement.Assignment a) k = refl
  statement_of_map (statement.Call c) k = refl
  statement_of_map (statement.Delay d) k = refl
  statement_of_map (statement.If i) k = if_of_map i i.otherwise k
  statement_of_map (statement.Case c) k = case_of_map c k
  statement_of_map (statement.Loop i) k = loop_of_map i i.iteration k
  statement_of_map (statement.Exit e) k = refl
  statement_of_map (statement.Block b) k = refl
  statement_of_map (statement.Return place value) k = refl
  statement_of_map (statement.Raise place exception) k = refl
  statement_of_map (statement.Abort place tasks) k = refl
  statement_of_map (statement.Accept a) k = accept_of_map a a.body k
  statement_of_map (statement.Requeue place entry with_abort) k = refl
  statement_of_map (statement.Select s) k = select_of_map s.place s.form k
