-- What is made of a statement, in a layer in which each sequence was replaced by what makes it.
use Rattle.std.proofs.Common.{◌≡◌, ◌+◌, ℕ, List, [], ◌∷◌, Option, Some, None, map, refl, ap, ◌∙◌}
use Rattle.ann_base.specs.declared.places.Place.{Place}
use Rattle.ada_tree.specs.declared.statements.Sequence.{Sequence}
use Rattle.ada_tree.specs.declared.statements.Statement.{Statement}
use Rattle.ada_tree.specs.declared.statements.Statement.TheVariants as statement
use Rattle.ada_tree.specs.declared.statements.If.{If}
use Rattle.ada_tree.specs.declared.statements.Elsif.{Elsif}
use Rattle.ada_tree.specs.declared.statements.Case.{Case}
use Rattle.ada_tree.specs.declared.statements.CaseAlternative.{CaseAlternative}
use Rattle.ada_tree.specs.declared.statements.Loop.{Loop}
use Rattle.ada_tree.specs.declared.statements.Iteration.{Iteration}
use Rattle.ada_tree.specs.declared.statements.Iteration.TheVariants as iteration
use Rattle.ada_tree.specs.declared.statements.Handler.{Handler}
use Rattle.ada_tree.specs.declared.statements.Accept.{Accept}
use Rattle.ada_tree.specs.declared.statements.AcceptBody.{AcceptBody}
use Rattle.ada_tree.specs.declared.selects.SelectForm.{SelectForm}
use Rattle.ada_tree.specs.declared.selects.SelectForm.TheVariants as select
use Rattle.ada_tree.specs.declared.selects.SelectiveAccept.{SelectiveAccept}
use Rattle.ada_tree.specs.declared.selects.TimedEntryCall.{TimedEntryCall}
use Rattle.ada_tree.specs.declared.selects.ConditionalEntryCall.{ConditionalEntryCall}
use Rattle.ada_tree.specs.declared.selects.AsynchronousSelect.{AsynchronousSelect}
use Rattle.ada_tree.specs.declared.selects.SelectAlternative.{SelectAlternative}
use Rattle.ada_tree.specs.declared.selects.Alternative.{Alternative}
use Rattle.ada_tree.specs.declared.selects.Alternative.TheVariants as alternative
use Rattle.ada_tree.specs.declared.selects.Trigger.{Trigger}
use Rattle.ada_tree.specs.declared.selects.Trigger.TheVariants as trigger
use Rattle.ada_tree.proofs.Mapped.{mapped_statement, mapped_alternative}
use Rattle.profile_image.specs.declared.numbers.StatementNo.{StatementNo}
use Rattle.profile_image.specs.declared.declarations.Handler.{Handler as ExceptionHandler}
use Rattle.profile_image.specs.declared.statements.CaseAlternative.{CaseAlternative as CaseActions}
use Rattle.profile_image.specs.declared.statements.SelectAlternative.{SelectAlternative as GuardedAlternative}
use Rattle.profile_image.specs.declared.statements.StatementForm.TheVariants as action
use Rattle.ada_image.specs.declared.making.Lists.{Lists}
use Rattle.ada_image.specs.declared.making.Within.{Within}
use Rattle.ada_image.specs.ImageOfExpressions.{expression_made, signs_in, signs_if}
use Rattle.ada_image.specs.Making.{action_put, the_action, in_handler}
use Rattle.ada_image.specs.ImageOfDeclarations.{same_making}
use Rattle.ada_image.specs.ImageOfStatements.{SequenceMaking, choices_made, handled_made, inside, inside_if, branch_put, elsifs_put, if_put}
use Rattle.ada_image.specs.ImageOfStatements.{alternatives_put, case_put, label_of, loop_body, forever_put, while_put, parameter_of, for_put}
use Rattle.ada_image.specs.ImageOfStatements.{iteration_put, loop_put, block_put, handlers_put, accept_body_put, accept_put, guard_of}
use Rattle.ada_image.specs.ImageOfStatements.{alternative_put, select_alternative_put, select_alternatives_put, signs_in_alternative}
use Rattle.ada_image.specs.ImageOfStatements.{signs_in_alternatives, else_put, selective_accept_put, call_before, delay_before, timed_call_put}
use Rattle.ada_image.specs.ImageOfStatements.{conditional_call_put, trigger_put, asynchronous_put, select_put, statement_put, statements_put}

module _ (f : Sequence → SequenceMaking) (within : Within) where
  -- ---- if and case

  elsifs_of_map : (m : Elsif Sequence → Elsif SequenceMaking)
      (same : (e : Elsif Sequence) → m e ≡ record { place = e.place; condition = e.condition; statements = f e.statements })
      (es : List (Elsif Sequence)) (otherwise next : Option StatementNo) (l : Lists)
      → elsifs_put same_making within (map m es) otherwise next l ≡ elsifs_put f within es otherwise next l
  unfolding elsifs_put branch_put inside
  elsifs_of_map m same [] otherwise next l = refl
  elsifs_of_map m same (e ∷ es) otherwise next l =
      ap (λ (y : Elsif SequenceMaking). elsifs_put same_making within (y ∷ map m es) otherwise next l) (same e)
      ∙ ap (λ (r : Lists × Option StatementNo). branch_put f within e.condition e.statements r.1 next r.0) (elsifs_of_map m same es otherwise next l)

  if_of_map : (i : If Sequence) (o : Option Sequence) (next : Option StatementNo) (l : Lists)
      → statement_put same_making within (mapped_statement f (statement.If (record i { otherwise = o }))) next l
      ≡ statement_put f within (statement.If (record i { otherwise = o })) next l
  unfolding statement_put if_put inside_if branch_put inside
  if_of_map i None next l =
      ap (λ (r : Lists × Option StatementNo). branch_put f within i.condition i.statements r.1 next r.0)
      (elsifs_of_map (λ (e : Elsif Sequence). record { place = e.place; condition = e.condition; statements = f e.statements })
      (λ e. refl) i.elsifs next next l)
  if_of_map i (Some q) next l =
      ap (λ (r : Lists × Option StatementNo). branch_put f within i.condition i.statements r.1 next r.0)
      (elsifs_of_map (λ (e : Elsif Sequence). record { place = e.place; condition = e.condition; statements = f e.statements }) (λ e. refl) i.elsifs
      (inside f q within next l).1 next (inside f q within next l).0)

  abbrev case_alternative : CaseAlternative Sequence → Option StatementNo → Lists → CaseActions
  case_alternative a next l = record { choices = choices_made within a.choices; first = the_action (inside f a.statements within next l).1 }

  alternatives_of_map : (m : CaseAlternative Sequence → CaseAlternative SequenceMaking)
      (same : (a : CaseAlternative Sequence) → m a ≡ record { place = a.place; choices = a.choices; statements = f a.statements })
      (rest : List (CaseAlternative Sequence)) (next : Option StatementNo) (l : Lists)
      → alternatives_put same_making within (map m rest) next l ≡ alternatives_put f within rest next l
  unfolding alternatives_put inside
  alternatives_of_map m same [] next l = refl
  alternatives_of_map m same (a ∷ rest) next l =
      ap (λ (y : CaseAlternative SequenceMaking). alternatives_put same_making within (y ∷ map m rest) next l) (same a)
      ∙ ap (λ (t : Lists × List CaseActions). (t.0, case_alternative a next l ∷ t.1))
      (alternatives_of_map m same rest next (inside f a.statements within next l).0)

  case_of_map : (c : Case Sequence) (next : Option StatementNo) (l : Lists)
      → statement_put same_making within (mapped_statement f (statement.Case c)) next l ≡ statement_put f within (statement.Case c) next l
  unfolding statement_put case_put
  case_of_map c next l =
      ap (λ (t : Lists × List CaseActions).
      action_put (action.Case (expression_made c.selector within t.0).1 t.1) (signs_in within c.selector) next (expression_made c.selector within t.0).0)
      (alternatives_of_map (λ (a : CaseAlternative Sequence). record { place = a.place; choices = a.choices; statements = f a.statements }) (λ a. refl)
      (c.alternatives.first ∷ c.alternatives.others) next l)

  -- ---- loops

  loop_of_map : (i : Loop Sequence) (how : Iteration) (next : Option StatementNo) (l : Lists)
      → statement_put same_making within (mapped_statement f (statement.Loop (record i { iteration = how }))) next l
      ≡ statement_put f within (statement.Loop (record i { iteration = how })) next l
  unfolding statement_put loop_put iteration_put forever_put while_put for_put parameter_of loop_body label_of inside
  loop_of_map i iteration.Forever next l = refl
  loop_of_map i (iteration.While place condition) next l = refl
  loop_of_map i (iteration.For place parameter reverse low high) next l = refl

  -- ---- handlers and accepts

  abbrev handler : Handler Sequence → Option StatementNo → Lists → ExceptionHandler
  handler h next l = record { choices = handled_made within h.exceptions; first = the_action (inside f h.statements (in_handler within) next l).1 }

  pub handlers_of_map : (m : Handler Sequence → Handler SequenceMaking)
      (same : (h : Handler Sequence) → m h ≡ record { place = h.place; exceptions = h.exceptions; statements = f h.statements })
      (hs : List (Handler Sequence)) (next : Option StatementNo) (l : Lists)
      → handlers_put same_making within (map m hs) next l ≡ handlers_put f within hs next l
  unfolding handlers_put inside
  handlers_of_map m same [] next l = refl
  handlers_of_map m same (h ∷ hs) next l =
      ap (λ (y : Handler SequenceMaking). handlers_put same_making within (y ∷ map m hs) next l) (same h)
      ∙ ap (λ (t : Lists × List ExceptionHandler). (t.0, handler h next l ∷ t.1))
      (handlers_of_map m same hs next (inside f h.statements (in_handler within) next l).0)

  accept_of_map : (a : Accept Sequence) (body : Option (AcceptBody Sequence)) (next : Option StatementNo) (l : Lists)
      → statement_put same_making within (mapped_statement f (statement.Accept (record a { body = body }))) next l
      ≡ statement_put f within (statement.Accept (record a { body = body })) next l
  unfolding statement_put accept_put accept_body_put
  accept_of_map a None next l = refl
  accept_of_map a (Some body) next l = refl

  -- ---- selects

  accept_alternative_of_map : (x : SelectAlternative Sequence) (accept : Accept Sequence) (behind : Option Sequence) (body : Option (AcceptBody Sequence))
      (next : Option StatementNo) (l : Lists)
      → select_alternative_put same_making within
      (mapped_alternative f (record x { alternative = alternative.Accept (record accept { body = body }) behind })) next l
      ≡ select_alternative_put f within (record x { alternative = alternative.Accept (record accept { body = body }) behind }) next l
  unfolding select_alternative_put alternative_put accept_put accept_body_put inside_if inside
  accept_alternative_of_map x accept None None next l = refl
  accept_alternative_of_map x accept None (Some body) next l = refl
  accept_alternative_of_map x accept (Some q) None next l = refl
  accept_alternative_of_map x accept (Some q) (Some body) next l = refl

  alternative_of_map : (x : SelectAlternative Sequence) (a : Alternative Sequence) (next : Option StatementNo) (l : Lists)
      → select_alternative_put same_making within (mapped_alternative f (record x { alternative = a })) next l
      ≡ select_alternative_put f within (record x { alternative = a }) next l
  unfolding select_alternative_put alternative_put inside_if inside
  alternative_of_map x (alternative.Accept accept behind) next l = accept_alternative_of_map x accept behind accept.body next l
  alternative_of_map x (alternative.Delay delay None) next l = refl
  alternative_of_map x (alternative.Delay delay (Some q)) next l = refl
  alternative_of_map x (alternative.Terminate place) next l = refl

  select_alternatives_of_map : (xs : List (SelectAlternative Sequence)) (next : Option StatementNo) (l : Lists)
      → select_alternatives_put same_making within (map (mapped_alternative f) xs) next l ≡ select_alternatives_put f within xs next l
  unfolding select_alternatives_put
  select_alternatives_of_map [] next l = refl
  select_alternatives_of_map (x ∷ xs) next l =
      ap (λ (r : Lists × GuardedAlternative). (
        (select_alternatives_put same_making within (map (mapped_alternative f) xs) next r.0).0,
        r.1 ∷ (select_alternatives_put same_making within (map (mapped_alternative f) xs) next r.0).1,
      ))
      (alternative_of_map x x.alternative next l)
      ∙ ap (λ (t : Lists × List GuardedAlternative). (t.0, (select_alternative_put f within x next l).1 ∷ t.1))
      (select_alternatives_of_map xs next (select_alternative_put f within x next l).0)

  signs_of_alternative : (x : SelectAlternative Sequence) (a : Alternative Sequence)
      → signs_in_alternative within (mapped_alternative f (record x { alternative = a })).alternative ≡ signs_in_alternative within a
  unfolding signs_in_alternative
  signs_of_alternative x (alternative.Accept accept statements) = refl
  signs_of_alternative x (alternative.Delay delay statements) = refl
  signs_of_alternative x (alternative.Terminate place) = refl

  signs_of_alternatives : (xs : List (SelectAlternative Sequence))
      → signs_in_alternatives within (map (mapped_alternative f) xs) ≡ signs_in_alternatives within xs
  unfolding signs_in_alternatives
  signs_of_alternatives [] = refl
  signs_of_alternatives (x ∷ xs) =
      ap (λ (k : ℕ). signs_if within (guard_of x.guard) + (k + signs_in_alternatives within (map (mapped_alternative f) xs)))
      (signs_of_alternative x x.alternative)
      ∙ ap (λ (k : ℕ). signs_if within (guard_of x.guard) + (signs_in_alternative within x.alternative + k)) (signs_of_alternatives xs)

  abbrev made : SelectiveAccept Sequence → Option StatementNo → Lists → Lists × List GuardedAlternative
  made s next l = select_alternatives_put f within (s.alternatives.first ∷ s.alternatives.others) next l

  selective_of_map : (place : Place) (s : SelectiveAccept Sequence) (o : Option Sequence) (next : Option StatementNo) (l : Lists)
      → statement_put same_making within
      (mapped_statement f (statement.Select (record { place = place; form = select.SelectiveAccept (record s { otherwise = o }) }))) next l
      ≡ statement_put f within (statement.Select (record { place = place; form = select.SelectiveAccept (record s { otherwise = o }) })) next l
  unfolding statement_put select_put selective_accept_put else_put inside
  selective_of_map place s None next l =
      ap (λ (r : Lists × List GuardedAlternative). action_put (action.SelectiveAccept r.1 None)
      (signs_in_alternatives within (map (mapped_alternative f) (s.alternatives.first ∷ s.alternatives.others))) next r.0)
      (select_alternatives_of_map (s.alternatives.first ∷ s.alternatives.others) next l)
      ∙ ap (λ (k : ℕ). action_put (action.SelectiveAccept (made s next l).1 None) k next (made s next l).0)
      (signs_of_alternatives (s.alternatives.first ∷ s.alternatives.others))
  selective_of_map place s (Some q) next l =
      ap (λ (r : Lists × List GuardedAlternative). action_put (action.SelectiveAccept r.1 (inside f q within next r.0).1)
      (signs_in_alternatives within (map (mapped_alternative f) (s.alternatives.first ∷ s.alternatives.others))) next (inside f q within next r.0).0)
      (select_alternatives_of_map (s.alternatives.first ∷ s.alternatives.others) next l)
      ∙ ap (λ (k : ℕ). action_put (action.SelectiveAccept (made s next l).1 (inside f q within next (made s next l).0).1) k next
      (inside f q within next (made s next l).0).0)
      (signs_of_alternatives (s.alternatives.first ∷ s.alternatives.others))

  timed_of_map : (place : Place) (t : TimedEntryCall Sequence) (o p : Option Sequence) (next : Option StatementNo) (l : Lists)
      → statement_put same_making within
      (mapped_statement f
      (statement.Select (record { place = place; form = select.TimedEntryCall (record t { statements = o; delay_statements = p }) }))) next l
      ≡ statement_put f within
      (statement.Select (record { place = place; form = select.TimedEntryCall (record t { statements = o; delay_statements = p }) })) next l
  unfolding statement_put select_put timed_call_put call_before delay_before inside_if inside
  timed_of_map place t None None next l = refl
  timed_of_map place t None (Some q) next l = refl
  timed_of_map place t (Some q) None next l = refl
  timed_of_map place t (Some q) (Some r) next l = refl

  conditional_of_map : (place : Place) (c : ConditionalEntryCall Sequence) (o : Option Sequence) (next : Option StatementNo) (l : Lists)
      → statement_put same_making within
      (mapped_statement f (statement.Select (record { place = place; form = select.ConditionalEntryCall (record c { statements = o }) }))) next l
      ≡ statement_put f within (statement.Select (record { place = place; form = select.ConditionalEntryCall (record c { statements = o }) })) next l
  unfolding statement_put select_put conditional_call_put call_before inside_if inside
  conditional_of_map place c None next l = refl
  conditional_of_map place c (Some q) next l = refl

  asynchronous_of_map : (place : Place) (s : AsynchronousSelect Sequence) (what : Trigger) (o : Option Sequence) (next : Option StatementNo) (l : Lists)
      → statement_put same_making within
      (mapped_statement f
      (statement.Select (record { place = place; form = select.AsynchronousSelect (record s { trigger = what; statements = o }) }))) next l
      ≡ statement_put f within
      (statement.Select (record { place = place; form = select.AsynchronousSelect (record s { trigger = what; statements = o }) })) next l
  unfolding statement_put select_put asynchronous_put trigger_put call_before delay_before inside_if inside
  asynchronous_of_map place s (trigger.Call c) None next l = refl
  asynchronous_of_map place s (trigger.Call c) (Some q) next l = refl
  asynchronous_of_map place s (trigger.Delay d) None next l = refl
  asynchronous_of_map place s (trigger.Delay d) (Some q) next l = refl

  select_of_map : (place : Place) (form : SelectForm Sequence) (next : Option StatementNo) (l : Lists)
      → statement_put same_making within (mapped_statement f (statement.Select (record { place = place; form = form }))) next l
      ≡ statement_put f within (statement.Select (record { place = place; form = form })) next l
  select_of_map place (select.SelectiveAccept s) next l = selective_of_map place s s.otherwise next l
  select_of_map place (select.TimedEntryCall t) next l = timed_of_map place t t.statements t.delay_statements next l
  select_of_map place (select.ConditionalEntryCall c) next l = conditional_of_map place c c.statements next l
  select_of_map place (select.AsynchronousSelect s) next l = asynchronous_of_map place s s.trigger s.statements next l

  -- ---- all statements

  statement_of_map : (s : Statement Sequence) (next : Option StatementNo) (l : Lists)
      → statement_put same_making within (mapped_statement f s) next l ≡ statement_put f within s next l
  unfolding statement_put block_put
  statement_of_map (statement.Null place) next l = refl
  statement_of_map (statement.Assignment a) next l = refl
  statement_of_map (statement.Call c) next l = refl
  statement_of_map (statement.Delay d) next l = refl
  statement_of_map (statement.If i) next l = if_of_map i i.otherwise next l
  statement_of_map (statement.Case c) next l = case_of_map c next l
  statement_of_map (statement.Loop i) next l = loop_of_map i i.iteration next l
  statement_of_map (statement.Exit e) next l = refl
  statement_of_map (statement.Block b) next l = refl
  statement_of_map (statement.Return place value) next l = refl
  statement_of_map (statement.Raise place exception) next l = refl
  statement_of_map (statement.Abort place tasks) next l = refl
  statement_of_map (statement.Accept a) next l = accept_of_map a a.body next l
  statement_of_map (statement.Requeue place entry with_abort) next l = refl
  statement_of_map (statement.Select s) next l = select_of_map s.place s.form next l

  pub statements_of_map : (ss : List (Statement Sequence)) (next : Option StatementNo) (l : Lists)
      → statements_put same_making within (map (mapped_statement f) ss) next l ≡ statements_put f within ss next l
  unfolding statements_put
  statements_of_map [] next l = refl
  statements_of_map (s ∷ ss) next l =
      ap (λ (r : Lists × Option StatementNo). statement_put same_making within (mapped_statement f s) r.1 r.0) (statements_of_map ss next l)
      ∙ statement_of_map s (statements_put f within ss next l).1 (statements_put f within ss next l).0
