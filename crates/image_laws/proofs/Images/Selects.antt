-- Select statements stand (9.7): an accept, a delay and a call lead to the statements behind them.
use Rattle.std.proofs.Common.{◌≡◌, ℕ, Bool, true, ◌&&◌, List, [], ◌∷◌, map, Option, Some, None, option_map, refl, ap, ◌∙◌}
use Rattle.std.proofs.lemmas.Bool.{and_from, and_parts}
use Rattle.ann_base.specs.declared.places.Place.{Place}
use Rattle.ada_tree.specs.declared.statements.Sequence.{Sequence}
use Rattle.ada_tree.specs.declared.statements.Statement.{Statement}
use Rattle.ada_tree.specs.declared.statements.Statement.TheVariants as statement
use Rattle.ada_tree.specs.declared.statements.Call.{Call}
use Rattle.ada_tree.specs.declared.statements.Delay.{Delay}
use Rattle.ada_tree.specs.declared.statements.Accept.{Accept}
use Rattle.ada_tree.specs.declared.statements.AcceptBody.{AcceptBody}
use Rattle.ada_tree.specs.declared.selects.SelectForm.{SelectForm}
use Rattle.ada_tree.specs.declared.selects.SelectForm.TheVariants as select
use Rattle.ada_tree.specs.declared.selects.SelectiveAccept.{SelectiveAccept}
use Rattle.ada_tree.specs.declared.selects.SelectAlternative.{SelectAlternative}
use Rattle.ada_tree.specs.declared.selects.Alternative.{Alternative}
use Rattle.ada_tree.specs.declared.selects.Alternative.TheVariants as alternative
use Rattle.ada_tree.specs.declared.selects.TimedEntryCall.{TimedEntryCall}
use Rattle.ada_tree.specs.declared.selects.ConditionalEntryCall.{ConditionalEntryCall}
use Rattle.ada_tree.specs.declared.selects.AsynchronousSelect.{AsynchronousSelect}
use Rattle.ada_tree.specs.declared.selects.Trigger.{Trigger}
use Rattle.ada_tree.specs.declared.selects.Trigger.TheVariants as trigger
use Rattle.profile_image.specs.declared.image.Image.{Image}
use Rattle.profile_image.specs.declared.numbers.StatementNo.{StatementNo}
use Rattle.profile_image.specs.declared.statements.SelectAlternative.{SelectAlternative as GuardedAlternative}
use Rattle.profile_image.specs.declared.statements.SelectKind.TheVariants as select_kind
use Rattle.profile_image.specs.declared.statements.StatementForm.{StatementForm}
use Rattle.profile_image.specs.declared.statements.StatementForm.TheVariants as action
use Rattle.profile_image.specs.Program.{form_of, next_of}
use Rattle.ada_image.specs.declared.making.Within.{Within}
use Rattle.ada_image.specs.Making.{Making, ◌>>=◌, pure, action_put, reserved, put_at, the_action, in_construct}
use Rattle.ada_image.specs.CallStatements.{call_statement_put}
use Rattle.ada_image.specs.ImageOfStatements.{SequenceMaking, delay_put, guard_of, inside, inside_if, accept_put, alternative_put}
use Rattle.ada_image.specs.ImageOfStatements.{select_alternative_put, select_alternatives_put, else_put, selective_accept_put, call_before, delay_before}
use Rattle.ada_image.specs.ImageOfStatements.{timed_call_put, conditional_call_put, trigger_put, asynchronous_put, select_put, statement_put}
use Rattle.ada_image.specs.ImageOfDeclarations.{same_making, sequence_put}
use Rattle.ada_image.specs.ReadStatements.{delay_stands, call_statement_stands, trigger_stands, inside_stands, inside_stands_if, accept_stands}
use Rattle.ada_image.specs.ReadStatements.{alternative_stands, select_alternatives_stand, else_stands, call_before_stands, delay_before_stands, form_stands}
use Rattle.ada_image.specs.NothingLost.{SequenceReading, same_sequence_reading, sequence_reads}
use Rattle.ada_image.specs.BuiltExpressions.{Built, expression_built}
use Rattle.ada_image.specs.BuiltStatements.{call_statement_built, trigger_built}
use Rattle.ada_image.specs.BuiltSequences.{sequence_if_built, accept_body_built, alternative_built}
use Rattle.ada_image.specs.BuiltSequences.{select_alternatives_built, statement_built, same_sequence_built, sequence_built}
use Rattle.ada_image.specs.ImageOfExpressions.{optional_value}
use Rattle.image_laws.proofs.Images.Steps.{Step, step-pure, step-so, step-then, Put, action-step, Filled, filled-step}
use Rattle.image_laws.proofs.Images.Actuals.{Stood, stood, condition-step}
use Rattle.image_laws.proofs.Images.Calls.{call-statement-step}
use Rattle.image_laws.proofs.Images.Simple.{delay-step}
use Rattle.image_laws.proofs.Images.Layers.{mapped_statement, mapped_alternative, SequenceLaw}
use Rattle.image_laws.proofs.Images.Statements.{stood-filled, Inside, stands-first, inside-step, inside_if-step}
use Rattle.image_laws.proofs.Images.Constructs.{accept_body_of, accept_with, accept-step}

module _ {E : Type 0} (g : E → Sequence) (law : (e : E) → SequenceLaw (sequence_put (g e)) (λ p. sequence_reads p (g e)) (sequence_built (g e))) where
  abbrev m : E → SequenceMaking
  m e = sequence_put (g e)

  abbrev r : Image → E → SequenceReading
  r p e = sequence_reads p (g e)

  abbrev IfBuilt : Option E → Within → Type 0
  IfBuilt o within = sequence_if_built same_sequence_built (option_map (λ e. sequence_built (g e)) o) within.names ≡ true

  -- ---- an action, and the statements behind it

  -- the action passes a test, and those behind it read
  abbrev Before : (Image → StatementForm → Bool) → Option E → Within → Option StatementNo → Image → StatementNo → Type 0
  Before test o within to p s = (test p (form_of p s) && inside_stands_if p same_sequence_reading within (option_map (r p) o) (next_of p s) to) ≡ true

  abbrev put_before : (Option StatementNo → Making (Option StatementNo)) → Option E → Within → Option StatementNo → Making (Option StatementNo)
  put_before put o within next = inside_if same_making (option_map m o) within next >>= put

  before-step : (put : Option StatementNo → Making (Option StatementNo)) (test : Image → StatementForm → Bool) (o : Option E) (within : Within)
      (next : Option StatementNo)
      → ((to : Option StatementNo) → Step (put to) (λ p x. Stood p to (λ s f. test p f) x)) → IfBuilt o within
      → Step (put_before put o within next) (λ p x. Before test o within next p (the_action x))
  before-step put test o within next step b =
      step-then (inside_if same_making (option_map m o) within next) put (inside_if-step g law o within next b)
      (λ to. step-so (λ p x h k.
      ap (λ y. test p (form_of p (the_action y)) && inside_stands_if p same_sequence_reading within (option_map (r p) o) (next_of p (the_action y)) next) h.is
      ∙ and_from _ _ h.stands (ap (λ y. inside_stands_if p same_sequence_reading within (option_map (r p) o) y next) h.next ∙ k)) (step to))

  call-before : (c : Call) (o : Option E) (next : Option StatementNo) (within : Within) → call_statement_built c within.names ≡ true → IfBuilt o within
      → Step (call_before same_making within c (option_map m o) next)
      (λ p x. call_before_stands p same_sequence_reading within c (option_map (r p) o) (the_action x) next ≡ true)
  unfolding call_before
  call-before c o next within b i =
      before-step (λ to. call_statement_put within c.name c.arguments to) (λ p. call_statement_stands p within c) o within next
      (λ to. call-statement-step c to within b) i

  delay-before : (d : Delay) (o : Option E) (next : Option StatementNo) (within : Within) → expression_built d.value within.names ≡ true → IfBuilt o within
      → Step (delay_before same_making within d (option_map m o) next)
      (λ p x. delay_before_stands p same_sequence_reading within d (option_map (r p) o) (the_action x) next ≡ true)
  unfolding delay_before
  delay-before d o next within b i = before-step (λ to. delay_put within d to) (λ p. delay_stands p within d) o within next (λ to. delay-step d to within b) i

  -- ---- alternatives of a selective accept

  -- an accept with the statements behind it; its test names the action's number
  accept-before : (a : Accept E) (body : Option (AcceptBody E)) (o : Option E) (next : Option StatementNo) (within : Within)
      → accept_body_built same_sequence_built (option_map (λ b. accept_body_of sequence_built (accept_body_of g b)) body) within.names ≡ true → IfBuilt o within
      → Step (inside_if same_making (option_map m o) within next
      >>= (λ behind. accept_put same_making within (accept_with a (option_map (λ b. accept_body_of sequence_put (accept_body_of g b)) body)) behind))
      (λ p x. (accept_stands p same_sequence_reading within (accept_with a (option_map (λ b. accept_body_of (sequence_reads p) (accept_body_of g b)) body))
      (the_action x) (form_of p (the_action x))
      && inside_stands_if p same_sequence_reading within (option_map (r p) o) (next_of p (the_action x)) next) ≡ true)
  accept-before a body o next within b i =
      step-then (inside_if same_making (option_map m o) within next)
      (λ behind. accept_put same_making within (accept_with a (option_map (λ b. accept_body_of sequence_put (accept_body_of g b)) body)) behind)
      (inside_if-step g law o within next i)
      (λ behind. step-so (λ p x h k.
      ap (λ y. accept_stands p same_sequence_reading within (accept_with a (option_map (λ b. accept_body_of (sequence_reads p) (accept_body_of g b)) body))
      (the_action y) (form_of p (the_action y))
      && inside_stands_if p same_sequence_reading within (option_map (r p) o) (next_of p (the_action y)) next) h.is
      ∙ and_from _ _ h.stands (ap (λ y. inside_stands_if p same_sequence_reading within (option_map (r p) o) y next) h.next ∙ k))
      (accept-step g law a body behind within b))

  abbrev alternative_built_of : SelectAlternative E → SelectAlternative Built
  alternative_built_of x = mapped_alternative sequence_built (mapped_alternative g x)

  abbrev alternative_made : SelectAlternative E → SelectAlternative SequenceMaking
  alternative_made x = mapped_alternative sequence_put (mapped_alternative g x)

  abbrev alternative_read : Image → SelectAlternative E → SelectAlternative SequenceReading
  alternative_read p x = mapped_alternative (sequence_reads p) (mapped_alternative g x)

  abbrev AlternativeStep : SelectAlternative E → Type 0
  AlternativeStep x =
      (next : Option StatementNo) (within : Within) → alternative_built same_sequence_built (alternative_built_of x).alternative within.names ≡ true
      → Step (alternative_put same_making within (alternative_made x).alternative next)
      (λ p k. alternative_stands p same_sequence_reading within (alternative_read p x).alternative next k ≡ true)

  accept-alternative : (x : SelectAlternative E) (a : Accept E) (body : Option (AcceptBody E)) (o : Option E)
      → AlternativeStep (record x { alternative = alternative.Accept (record a { body = body }) o })
  unfolding alternative_put
  accept-alternative x a None None next within b =
      let parts = and_parts _ _ b in
      step-then _ (λ s. pure (select_kind.Accept (the_action s))) (accept-before a None None next within parts.0 parts.1)
      (λ s. step-pure (select_kind.Accept (the_action s)) _ (λ p h. h))
  accept-alternative x a None (Some e) next within b =
      let parts = and_parts _ _ b in
      step-then _ (λ s. pure (select_kind.Accept (the_action s))) (accept-before a None (Some e) next within parts.0 parts.1)
      (λ s. step-pure (select_kind.Accept (the_action s)) _ (λ p h. h))
  accept-alternative x a (Some q) None next within b =
      let parts = and_parts _ _ b in
      step-then _ (λ s. pure (select_kind.Accept (the_action s))) (accept-before a (Some q) None next within parts.0 parts.1)
      (λ s. step-pure (select_kind.Accept (the_action s)) _ (λ p h. h))
  accept-alternative x a (Some q) (Some e) next within b =
      let parts = and_parts _ _ b in
      step-then _ (λ s. pure (select_kind.Accept (the_action s))) (accept-before a (Some q) (Some e) next within parts.0 parts.1)
      (λ s. step-pure (select_kind.Accept (the_action s)) _ (λ p h. h))

  delay-alternative : (x : SelectAlternative E) (d : Delay) (o : Option E) → AlternativeStep (record x { alternative = alternative.Delay d o })
  unfolding alternative_put delay_before
  delay-alternative x d None next within b =
      let parts = and_parts _ _ b in
      step-then (delay_before same_making within d None next) (λ s. pure (select_kind.Delay (the_action s))) (delay-before d None next within parts.0 parts.1)
      (λ s. step-pure (select_kind.Delay (the_action s)) _ (λ p h. h))
  delay-alternative x d (Some e) next within b =
      let parts = and_parts _ _ b in
      step-then (delay_before same_making within d (Some (m e)) next) (λ s. pure (select_kind.Delay (the_action s)))
      (delay-before d (Some e) next within parts.0 parts.1) (λ s. step-pure (select_kind.Delay (the_action s)) _ (λ p h. h))

  alternative-step : (x : SelectAlternative E) (a : Alternative E) → AlternativeStep (record x { alternative = a })
  unfolding alternative_put
  alternative-step x (alternative.Accept a o) next within b = accept-alternative x a a.body o next within b
  alternative-step x (alternative.Delay d o) next within b = delay-alternative x d o next within b
  alternative-step x (alternative.Terminate place) next within b = step-pure select_kind.Terminate _ (λ p. refl)

  select-alternatives-step : (xs : List (SelectAlternative E)) (next : Option StatementNo) (within : Within)
      → select_alternatives_built same_sequence_built (map (mapped_alternative sequence_built) (map (mapped_alternative g) xs)) within.names ≡ true
      → Step (select_alternatives_put same_making within (map (mapped_alternative sequence_put) (map (mapped_alternative g) xs)) next)
      (λ p ys.
      select_alternatives_stand p same_sequence_reading within (map (mapped_alternative (sequence_reads p)) (map (mapped_alternative g) xs)) next ys ≡ true)
  unfolding select_alternatives_put select_alternative_put
  select-alternatives-step [] next within b = step-pure [] _ (λ p. refl)
  select-alternatives-step (x ∷ xs) next within b =
      let parts = and_parts _ _ b in let more = and_parts _ _ parts.0 in
      step-then (optional_value within (guard_of x.guard))
      (λ guard. alternative_put same_making within (alternative_made x).alternative next
      >>= (λ kind. select_alternatives_put same_making within (map (mapped_alternative sequence_put) (map (mapped_alternative g) xs)) next
      >>= (λ others. pure (record { guard = guard; kind = kind } ∷ others))))
      (condition-step (guard_of x.guard) within more.0)
      (λ guard. step-then (alternative_put same_making within (alternative_made x).alternative next)
      (λ kind. select_alternatives_put same_making within (map (mapped_alternative sequence_put) (map (mapped_alternative g) xs)) next
      >>= (λ others. pure (record { guard = guard; kind = kind } ∷ others)))
      (alternative-step x x.alternative next within more.1)
      (λ kind. step-then (select_alternatives_put same_making within (map (mapped_alternative sequence_put) (map (mapped_alternative g) xs)) next)
      (λ others. pure (record { guard = guard; kind = kind } ∷ others))
      (select-alternatives-step xs next within parts.1)
      (λ others. step-pure (record { guard = guard; kind = kind } ∷ others) _ (λ p h k l. and_from _ _ l (and_from _ _ k h)))))

  -- ---- all selects

  abbrev selecting : Place → SelectForm E → Statement E
  selecting place f = statement.Select (record { place = place; form = f })

  abbrev SelectStep : SelectForm E → Type 0
  SelectStep f = (place : Place) (next : Option StatementNo) (within : Within)
      → statement_built same_sequence_built (mapped_statement sequence_built (mapped_statement g (selecting place f))) within.names ≡ true
      → Step (statement_put same_making within (mapped_statement sequence_put (mapped_statement g (selecting place f))) next)
      (λ p x. Stood p next
      (λ s y. form_stands p same_sequence_reading within (mapped_statement (sequence_reads p) (mapped_statement g (selecting place f))) s next y) x)

  else-step : (o : Option E) (next : Option StatementNo) (within : Within) → IfBuilt o within
      → Step (else_put same_making within (option_map m o) next) (λ p x. else_stands p same_sequence_reading within (option_map (r p) o) x next ≡ true)
  unfolding else_put
  else-step None next within b = step-pure None _ (λ p. refl)
  else-step (Some e) next within b = step-so (λ p x h. h.stands) (inside-step g law e within next b)

  -- the alternatives and what stands behind else
  selective-step : (xs : List (SelectAlternative E)) (o : Option E) (signs : ℕ) (next : Option StatementNo) (within : Within)
      → select_alternatives_built same_sequence_built (map (mapped_alternative sequence_built) (map (mapped_alternative g) xs)) within.names ≡ true
      → IfBuilt o within
      → Step (select_alternatives_put same_making within (map (mapped_alternative sequence_put) (map (mapped_alternative g) xs)) next
      >>= (λ ys. else_put same_making within (option_map m o) next >>= (λ otherwise. action_put (action.SelectiveAccept ys otherwise) signs next)))
      (λ p x. (ys : List GuardedAlternative) × (otherwise : Option StatementNo) × Put (action.SelectiveAccept ys otherwise) next p x
      × ((select_alternatives_stand p same_sequence_reading within (map (mapped_alternative (sequence_reads p)) (map (mapped_alternative g) xs)) next ys
      && else_stands p same_sequence_reading within (option_map (r p) o) otherwise next)
      ≡ true))
  selective-step xs o signs next within b i =
      step-then (select_alternatives_put same_making within (map (mapped_alternative sequence_put) (map (mapped_alternative g) xs)) next)
      (λ ys. else_put same_making within (option_map m o) next >>= (λ otherwise. action_put (action.SelectiveAccept ys otherwise) signs next))
      (select-alternatives-step xs next within b)
      (λ ys. step-then (else_put same_making within (option_map m o) next) (λ otherwise. action_put (action.SelectiveAccept ys otherwise) signs next)
      (else-step o next within i)
      (λ otherwise. step-so (λ p x h k l. (ys, otherwise, h, and_from _ _ l k)) (action-step (action.SelectiveAccept ys otherwise) signs next)))

  selective : (s : SelectiveAccept E) (o : Option E) → SelectStep (select.SelectiveAccept (record s { otherwise = o }))
  unfolding statement_put select_put selective_accept_put
  selective s None place next within b =
      let parts = and_parts _ _ b in
      step-so (λ p x h. stood
      (form_stands p same_sequence_reading within
      (mapped_statement (sequence_reads p)
      (mapped_statement g (selecting place (select.SelectiveAccept (record s { otherwise = None }))))) h.2.at next) h.2 h.3)
      (selective-step (s.alternatives.first ∷ s.alternatives.others) None _ next within parts.0 parts.1)
  selective s (Some e) place next within b =
      let parts = and_parts _ _ b in
      step-so (λ p x h. stood
      (form_stands p same_sequence_reading within
      (mapped_statement (sequence_reads p)
      (mapped_statement g (selecting place (select.SelectiveAccept (record s { otherwise = Some e }))))) h.2.at next) h.2 h.3)
      (selective-step (s.alternatives.first ∷ s.alternatives.others) (Some e) _ next within parts.0 parts.1)

  -- a call and a delay, each with the statements behind it
  timed-step : (c : Call) (o : Option E) (d : Delay) (u : Option E) (signs : ℕ) (next : Option StatementNo) (within : Within)
      → (call_statement_built c within.names && (sequence_if_built same_sequence_built (option_map (λ e. sequence_built (g e)) o) within.names
      && (expression_built d.value within.names && sequence_if_built same_sequence_built (option_map (λ e. sequence_built (g e)) u) within.names))) ≡ true
      → Step (call_before same_making within c (option_map m o) next
      >>= (λ call.
      delay_before same_making within d (option_map m u) next >>= (λ delay. action_put (action.TimedCall (the_action call) (the_action delay)) signs next)))
      (λ p x. (call : Option StatementNo) × (delay : Option StatementNo) × Put (action.TimedCall (the_action call) (the_action delay)) next p x
      × ((call_before_stands p same_sequence_reading within c (option_map (r p) o) (the_action call) next
      && delay_before_stands p same_sequence_reading within d (option_map (r p) u) (the_action delay) next)
      ≡ true))
  timed-step c o d u signs next within b =
      let parts = and_parts _ _ b in let more = and_parts _ _ parts.1 in let last = and_parts _ _ more.1 in
      step-then (call_before same_making within c (option_map m o) next)
      (λ call.
      delay_before same_making within d (option_map m u) next >>= (λ delay. action_put (action.TimedCall (the_action call) (the_action delay)) signs next))
      (call-before c o next within parts.0 more.0)
      (λ call. step-then (delay_before same_making within d (option_map m u) next)
      (λ delay. action_put (action.TimedCall (the_action call) (the_action delay)) signs next) (delay-before d u next within last.0 last.1)
      (λ delay. step-so (λ p x h k l. (call, delay, h, and_from _ _ l k)) (action-step (action.TimedCall (the_action call) (the_action delay)) signs next)))

  timed : (t : TimedEntryCall E) (o u : Option E) → SelectStep (select.TimedEntryCall (record t { statements = o; delay_statements = u }))
  unfolding statement_put select_put timed_call_put
  timed t None None place next within b =
      step-so (λ p x h. stood
      (form_stands p same_sequence_reading within
      (mapped_statement (sequence_reads p)
      (mapped_statement g (selecting place (select.TimedEntryCall (record t { statements = None; delay_statements = None }))))) h.2.at next) h.2 h.3)
      (timed-step t.call None t.delay None _ next within b)
  timed t None (Some f) place next within b =
      step-so (λ p x h. stood
      (form_stands p same_sequence_reading within
      (mapped_statement (sequence_reads p)
      (mapped_statement g (selecting place (select.TimedEntryCall (record t { statements = None; delay_statements = Some f }))))) h.2.at next) h.2 h.3)
      (timed-step t.call None t.delay (Some f) _ next within b)
  timed t (Some e) None place next within b =
      step-so (λ p x h. stood
      (form_stands p same_sequence_reading within
      (mapped_statement (sequence_reads p)
      (mapped_statement g (selecting place (select.TimedEntryCall (record t { statements = Some e; delay_statements = None }))))) h.2.at next) h.2 h.3)
      (timed-step t.call (Some e) t.delay None _ next within b)
  timed t (Some e) (Some f) place next within b =
      step-so (λ p x h. stood
      (form_stands p same_sequence_reading within
      (mapped_statement (sequence_reads p)
      (mapped_statement g (selecting place (select.TimedEntryCall (record t { statements = Some e; delay_statements = Some f }))))) h.2.at next) h.2 h.3)
      (timed-step t.call (Some e) t.delay (Some f) _ next within b)

  conditional-step : (c : Call) (o : Option E) (e : E) (signs : ℕ) (next : Option StatementNo) (within : Within)
      → (call_statement_built c within.names
      && (sequence_if_built same_sequence_built (option_map (λ e. sequence_built (g e)) o) within.names && sequence_built (g e) within.names))
      ≡ true
      → Step (call_before same_making within c (option_map m o) next
      >>= (λ call.
      inside same_making (m e) within next >>= (λ otherwise. action_put (action.ConditionalCall (the_action call) (the_action otherwise)) signs next)))
      (λ p x. (call : Option StatementNo) × (otherwise : Option StatementNo) × Put (action.ConditionalCall (the_action call) (the_action otherwise)) next p x
      × ((call_before_stands p same_sequence_reading within c (option_map (r p) o) (the_action call) next
      && inside_stands p same_sequence_reading within (r p e) (Some (the_action otherwise)) next)
      ≡ true))
  conditional-step c o e signs next within b =
      let parts = and_parts _ _ b in let more = and_parts _ _ parts.1 in
      step-then (call_before same_making within c (option_map m o) next)
      (λ call.
      inside same_making (m e) within next >>= (λ otherwise. action_put (action.ConditionalCall (the_action call) (the_action otherwise)) signs next))
      (call-before c o next within parts.0 more.0)
      (λ call. step-then (inside same_making (m e) within next)
      (λ otherwise. action_put (action.ConditionalCall (the_action call) (the_action otherwise)) signs next) (inside-step g law e within next more.1)
      (λ otherwise. step-so (λ p x h k l. (call, otherwise, h, and_from _ _ l (stands-first g law e within next p otherwise k)))
      (action-step (action.ConditionalCall (the_action call) (the_action otherwise)) signs next)))

  conditional : (c : ConditionalEntryCall E) (o : Option E) → SelectStep (select.ConditionalEntryCall (record c { statements = o }))
  unfolding statement_put select_put conditional_call_put
  conditional c None place next within b =
      step-so (λ p x h. stood
      (form_stands p same_sequence_reading within
      (mapped_statement (sequence_reads p)
      (mapped_statement g (selecting place (select.ConditionalEntryCall (record c { statements = None }))))) h.2.at next) h.2 h.3)
      (conditional-step c.call None c.otherwise _ next within b)
  conditional c (Some e) place next within b =
      step-so (λ p x h. stood
      (form_stands p same_sequence_reading within
      (mapped_statement (sequence_reads p)
      (mapped_statement g (selecting place (select.ConditionalEntryCall (record c { statements = Some e }))))) h.2.at next) h.2 h.3)
      (conditional-step c.call (Some e) c.otherwise _ next within b)

  trigger-step : (t : Trigger) (o : Option E) (next : Option StatementNo) (within : Within) → trigger_built t within.names ≡ true → IfBuilt o within
      → Step (trigger_put same_making within t (option_map m o) next) (λ p x. Before (λ p. trigger_stands p within t) o within next p (the_action x))
  unfolding trigger_put
  trigger-step (trigger.Call c) o next within b i = call-before c o next within b i
  trigger-step (trigger.Delay d) o next within b i = delay-before d o next within b i

  abbrev AsynchronousMade : Trigger → Option E → E → Option StatementNo → Within → StatementNo → Image → Option StatementNo × Option StatementNo → Type 0
  AsynchronousMade t o e next within s p x =
      Before (λ p. trigger_stands p within t) o within next p (the_action x.0) × Inside g law e (in_construct s within) None p x.1

  asynchronous-step : (t : Trigger) (o : Option E) (e : E) (signs : ℕ) (next : Option StatementNo) (within : Within)
      → (trigger_built t within.names
      && (sequence_if_built same_sequence_built (option_map (λ e. sequence_built (g e)) o) within.names && sequence_built (g e) within.names))
      ≡ true
      → Step (reserved
      >>= (λ s. trigger_put same_making within t (option_map m o) next
      >>= (λ trigger. inside same_making (m e) (in_construct s within) None
      >>= (λ abortable. put_at s (action.AsynchronousSelect (the_action trigger) (the_action abortable)) signs next))))
      (Filled (λ s (x : Option StatementNo × Option StatementNo). action.AsynchronousSelect (the_action x.0) (the_action x.1)) next
      (AsynchronousMade t o e next within))
  asynchronous-step t o e signs next within b =
      let parts = and_parts _ _ b in let more = and_parts _ _ parts.1 in
      filled-step (λ s. trigger_put same_making within t (option_map m o) next
      >>= (λ trigger. inside same_making (m e) (in_construct s within) None >>= (λ abortable. pure (trigger, abortable))))
      (λ s (x : Option StatementNo × Option StatementNo). action.AsynchronousSelect (the_action x.0) (the_action x.1)) signs next
      (AsynchronousMade t o e next within)
      (λ s. step-then (trigger_put same_making within t (option_map m o) next)
      (λ trigger. inside same_making (m e) (in_construct s within) None >>= (λ abortable. pure (trigger, abortable)))
      (trigger-step t o next within parts.0 more.0)
      (λ trigger. step-then (inside same_making (m e) (in_construct s within) None) (λ abortable. pure (trigger, abortable))
      (inside-step g law e (in_construct s within) None more.1)
      (λ abortable. step-pure (trigger, abortable) _ (λ p k h. (h, k)))))

  asynchronous-stands : (t : Trigger) (o : Option E) (e : E) (next : Option StatementNo) (within : Within) (s : StatementNo) (p : Image)
      (x : Option StatementNo × Option StatementNo)
      → AsynchronousMade t o e next within s p x
      → (trigger_stands p within t (form_of p (the_action x.0))
      && (inside_stands_if p same_sequence_reading within (option_map (r p) o) (next_of p (the_action x.0)) next
      && inside_stands p same_sequence_reading (in_construct s within) (r p e) (Some (the_action x.1)) None)) ≡ true
  asynchronous-stands t o e next within s p x h =
      let parts = and_parts _ _ h.0 in and_from _ _ parts.0 (and_from _ _ parts.1 (stands-first g law e (in_construct s within) None p x.1 h.1))

  asynchronous : (a : AsynchronousSelect E) (o : Option E) → SelectStep (select.AsynchronousSelect (record a { statements = o }))
  unfolding statement_put select_put asynchronous_put
  asynchronous a None place next within b =
      step-so (λ p x h. stood-filled
      (λ s f. form_stands p same_sequence_reading within
      (mapped_statement (sequence_reads p) (mapped_statement g (selecting place (select.AsynchronousSelect (record a { statements = None }))))) s next f) h
      (asynchronous-stands a.trigger None a.abortable next within h.at p h.made h.reads))
      (asynchronous-step a.trigger None a.abortable _ next within b)
  asynchronous a (Some e) place next within b =
      step-so (λ p x h. stood-filled
      (λ s f. form_stands p same_sequence_reading within
      (mapped_statement (sequence_reads p)
      (mapped_statement g (selecting place (select.AsynchronousSelect (record a { statements = Some e }))))) s next f) h
      (asynchronous-stands a.trigger (Some e) a.abortable next within h.at p h.made h.reads))
      (asynchronous-step a.trigger (Some e) a.abortable _ next within b)

  pub select-step : (s : SelectForm E) → SelectStep s
  select-step (select.SelectiveAccept s) = selective s s.otherwise
  select-step (select.TimedEntryCall t) = timed t t.statements t.delay_statements
  select-step (select.ConditionalEntryCall c) = conditional c c.statements
  select-step (select.AsynchronousSelect a) = asynchronous a a.statements
