-- Each statement stands, and each list of statements reads in its order.
use Rattle.std.proofs.Common.{◌≡◌, true, ◌&&◌, List, [], ◌∷◌, map, Option, Some, None, refl, ap, ◌∙◌}
use Rattle.std.proofs.lemmas.Bool.{and_from, and_parts}
use Rattle.ada_tree.specs.declared.statements.Sequence.{Sequence}
use Rattle.ada_tree.specs.declared.statements.Statement.{Statement}
use Rattle.ada_tree.specs.declared.statements.Statement.TheVariants as statement
use Rattle.ada_tree.specs.declared.statements.If.{If}
use Rattle.ada_tree.specs.declared.statements.Case.{Case}
use Rattle.ada_tree.specs.declared.statements.Accept.{Accept}
use Rattle.ada_tree.specs.declared.statements.AcceptBody.{AcceptBody}
use Rattle.profile_image.specs.declared.image.Image.{Image}
use Rattle.profile_image.specs.declared.numbers.StatementNo.{StatementNo}
use Rattle.profile_image.specs.declared.statements.StatementForm.TheVariants as action
use Rattle.profile_image.specs.Program.{form_of}
use Rattle.ada_image.specs.declared.making.Within.{Within}
use Rattle.ada_image.specs.Making.{◌>>=◌, action_put}
use Rattle.ada_image.specs.ImageOfExpressions.{expression_made, signs_in}
use Rattle.ada_image.specs.ImageOfStatements.{SequenceMaking, alternatives_put, if_put, case_put, statement_put, statements_put}
use Rattle.ada_image.specs.ImageOfDeclarations.{same_making, sequence_put}
use Rattle.ada_image.specs.ReadStatements.{form_stands, statements_stand}
use Rattle.ada_image.specs.NothingLost.{SequenceReading, same_sequence_reading, sequence_reads}
use Rattle.ada_image.specs.BuiltSequences.{statement_built, statements_built, same_sequence_built, sequence_built}
use Rattle.image_laws.proofs.Images.Steps.{Step, step-pure, step-so, step-then, action-step}
use Rattle.image_laws.proofs.Images.Expressions.{expression-step}
use Rattle.image_laws.proofs.Images.Actuals.{same-next, Stood, stood}
use Rattle.image_laws.proofs.Images.Calls.{call-statement-step}
use Rattle.image_laws.proofs.Images.Simple.{assignment-step, delay-step, return-step, raise-step, exit-step, abort-step, requeue-step}
use Rattle.image_laws.proofs.Images.Layers.{case_of, mapped_statement, SequenceLaw}
use Rattle.image_laws.proofs.Images.Statements.{if-step, alternatives-step}
use Rattle.image_laws.proofs.Images.Constructs.{loop-step, block-step, accept-step}
use Rattle.image_laws.proofs.Images.Selects.{select-step}

module _ {E : Type 0} (g : E → Sequence) (law : (e : E) → SequenceLaw (sequence_put (g e)) (λ p. sequence_reads p (g e)) (sequence_built (g e))) where
  abbrev StatementStep : Statement E → Type 0
  StatementStep x =
      (next : Option StatementNo) (within : Within)
      → statement_built same_sequence_built (mapped_statement sequence_built (mapped_statement g x)) within.names ≡ true
      → Step (statement_put same_making within (mapped_statement sequence_put (mapped_statement g x)) next)
      (λ p y. Stood p next (λ s f. form_stands p same_sequence_reading within (mapped_statement (sequence_reads p) (mapped_statement g x)) s next f) y)

  if-stands : (i : If E) (o : Option E) → StatementStep (statement.If (record i { otherwise = o }))
  unfolding statement_put if_put
  if-stands i None next within b = if-step g law i.condition i.statements i.elsifs None next within b
  if-stands i (Some e) next within b = if-step g law i.condition i.statements i.elsifs (Some e) next within b

  case-stands : (c : Case E) → StatementStep (statement.Case c)
  unfolding statement_put case_put
  case-stands c next within b =
      let parts = and_parts _ _ b in
      step-then (alternatives_put same_making within (map (case_of sequence_put) (map (case_of g) (c.alternatives.first ∷ c.alternatives.others))) next)
      (λ xs. expression_made c.selector within >>= (λ e. action_put (action.Case e xs) (signs_in within c.selector) next))
      (alternatives-step g law (c.alternatives.first ∷ c.alternatives.others) next within parts.1)
      (λ xs. step-then (expression_made c.selector within) (λ e. action_put (action.Case e xs) (signs_in within c.selector) next)
      (expression-step c.selector within parts.0)
      (λ e. step-so (λ p y h k l. record {
        at = h.at;
        is = h.is;
        next = h.stands.next;
        stands =
            ap (λ f.
            form_stands p same_sequence_reading within (mapped_statement (sequence_reads p) (mapped_statement g (statement.Case c))) h.at next f) h.stands.form
            ∙ and_from _ _ k l;
      })
      (action-step (action.Case e xs) (signs_in within c.selector) next)))

  accept-stands : (a : Accept E) (o : Option (AcceptBody E)) → StatementStep (statement.Accept (record a { body = o }))
  unfolding statement_put
  accept-stands a None next within b = accept-step g law a None next within b
  accept-stands a (Some q) next within b = accept-step g law a (Some q) next within b

  statement-step : (x : Statement E) → StatementStep x
  unfolding statement_put
  statement-step (statement.Null place) next within b =
      step-so (λ p y h. stood
      (λ f.
      form_stands p same_sequence_reading within (mapped_statement (sequence_reads p) (mapped_statement g (statement.Null place))) h.at next f) h refl)
      (action-step action.Null 0 next)
  statement-step (statement.Assignment a) next within b = assignment-step a next within b
  statement-step (statement.Call c) next within b = call-statement-step c next within b
  statement-step (statement.Delay d) next within b = delay-step d next within b
  statement-step (statement.If i) next within b = if-stands i i.otherwise next within b
  statement-step (statement.Case c) next within b = case-stands c next within b
  statement-step (statement.Loop l) next within b = loop-step g law l next within b
  statement-step (statement.Exit e) next within b = exit-step e next within b
  statement-step (statement.Block q) next within b = block-step g law q next within b
  statement-step (statement.Return place e) next within b = return-step e next within b
  statement-step (statement.Raise place exception) next within b = raise-step exception next within
  statement-step (statement.Abort place tasks) next within b = abort-step tasks next within
  statement-step (statement.Accept a) next within b = accept-stands a a.body next within b
  statement-step (statement.Requeue place entry with_abort) next within b = requeue-step entry with_abort next within
  statement-step (statement.Select s) next within b = select-step g law s.form s.place next within b

  -- ---- lists of statements, from the last to the first

  abbrev made : List (Statement E) → List (Statement SequenceMaking)
  made xs = map (mapped_statement sequence_put) (map (mapped_statement g) xs)

  abbrev read : Image → List (Statement E) → List (Statement SequenceReading)
  read p xs = map (mapped_statement (sequence_reads p)) (map (mapped_statement g) xs)

  -- a statement before those that read
  in-front : (x : Statement E) (xs : List (Statement E)) (later next : Option StatementNo) (within : Within) (p : Image) (y : Option StatementNo)
      → Stood p later (λ s f. form_stands p same_sequence_reading within (mapped_statement (sequence_reads p) (mapped_statement g x)) s later f) y
      → statements_stand p same_sequence_reading within (read p xs) later next ≡ true
      → statements_stand p same_sequence_reading within (read p (x ∷ xs)) y next ≡ true
  in-front x xs later next within p y h k =
      ap (λ z. statements_stand p same_sequence_reading within (read p (x ∷ xs)) z next) h.is
      ∙ ap (λ n. form_stands p same_sequence_reading within (mapped_statement (sequence_reads p) (mapped_statement g x)) h.at n (form_of p h.at)
      && statements_stand p same_sequence_reading within (read p xs) n next) h.next
      ∙ and_from _ _ h.stands k

  statements-step : (xs : List (Statement E)) (next : Option StatementNo) (within : Within)
      → statements_built same_sequence_built (map (mapped_statement sequence_built) (map (mapped_statement g) xs)) within.names ≡ true
      → Step (statements_put same_making within (made xs) next) (λ p y. statements_stand p same_sequence_reading within (read p xs) y next ≡ true)
  unfolding statements_put
  statements-step [] next within b = step-pure next _ (λ p. same-next next)
  statements-step (x ∷ xs) next within b =
      let parts = and_parts _ _ b in
      step-then (statements_put same_making within (made xs) next)
      (λ later. statement_put same_making within (mapped_statement sequence_put (mapped_statement g x)) later) (statements-step xs next within parts.1)
      (λ later. step-so (λ p y h k. in-front x xs later next within p y h k) (statement-step x later within parts.0))

  -- one statement at least: there is a first action
  pub all-step : (x : Statement E) (xs : List (Statement E)) (next : Option StatementNo) (within : Within)
      → statements_built same_sequence_built (map (mapped_statement sequence_built) (map (mapped_statement g) (x ∷ xs))) within.names ≡ true
      → Step (statements_put same_making within (made (x ∷ xs)) next)
      (λ p y. ((s : StatementNo) × (y ≡ Some s)) × (statements_stand p same_sequence_reading within (read p (x ∷ xs)) y next ≡ true))
  unfolding statements_put
  all-step x xs next within b =
      let parts = and_parts _ _ b in
      step-then (statements_put same_making within (made xs) next)
      (λ later. statement_put same_making within (mapped_statement sequence_put (mapped_statement g x)) later) (statements-step xs next within parts.1)
      (λ later. step-so (λ p y h k. ((h.at, h.is), in-front x xs later next within p y h k)) (statement-step x later within parts.0))
