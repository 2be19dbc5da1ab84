-- Statements that hold others stand where those in them read as their text.
use Rattle.std.proofs.Common.{◌≡◌, Bool, true, ◌&&◌, List, [], ◌∷◌, map, Option, Some, None, option_map, refl, sym, ap, ◌∙◌}
use Rattle.std.proofs.lemmas.Bool.{and_from, and_parts}
use Rattle.ada_tree.specs.declared.expressions.Expression.{Expression}
use Rattle.ada_tree.specs.declared.statements.Sequence.{Sequence}
use Rattle.ada_tree.specs.declared.statements.Elsif.{Elsif}
use Rattle.ada_tree.specs.declared.statements.CaseAlternative.{CaseAlternative}
use Rattle.ada_tree.specs.declared.statements.Handler.{Handler}
use Rattle.profile_image.specs.declared.image.Image.{Image}
use Rattle.profile_image.specs.declared.numbers.StatementNo.{StatementNo}
use Rattle.profile_image.specs.declared.statements.StatementForm.{StatementForm}
use Rattle.profile_image.specs.declared.statements.StatementForm.TheVariants as action
use Rattle.ada_image.specs.declared.making.Within.{Within}
use Rattle.ada_image.specs.declared.making.SequencePlace.TheVariants as sequence_place
use Rattle.ada_image.specs.Making.{◌>>=◌, ◌>>◌, pure, action_put, the_action, in_handler}
use Rattle.ada_image.specs.ImageOfExpressions.{expression_made, signs_in}
use Rattle.ada_image.specs.ImageOfStatements.{SequenceMaking, choices_made, handled_made, inside, inside_if}
use Rattle.ada_image.specs.ImageOfStatements.{branch_put, elsifs_put, alternatives_put, handlers_put}
use Rattle.ada_image.specs.ImageOfDeclarations.{same_making, sequence_put}
use Rattle.ada_image.specs.ReadStatements.{same_next, inside_stands, inside_stands_if, branch_stands, elsifs_stand, alternatives_stand, handlers_stand}
use Rattle.ada_image.specs.NothingLost.{SequenceReading, same_sequence_reading, sequence_reads}
use Rattle.ada_image.specs.BuiltExpressions.{expression_built}
use Rattle.ada_image.specs.BuiltSequences.{sequence_if_built, elsifs_built, alternatives_built, handlers_built, same_sequence_built, sequence_built}
use Rattle.image_laws.proofs.Images.Steps.{Step, step-pure, step-so, step-then, action-step, Filled}
use Rattle.image_laws.proofs.Images.Expressions.{expression-step}
use Rattle.image_laws.proofs.Images.Actuals.{same-next, Stood, stood}
use Rattle.image_laws.proofs.Images.Simple.{choices-same, handled-same}
use Rattle.image_laws.proofs.Images.Layers.{elsif_of, case_of, handler_of, SequenceLaw}

-- an action whose number was drawn first stands
pub stood-filled : {X : Type 0} {form : StatementNo → X → StatementForm} {to : Option StatementNo} {R : StatementNo → Image → X → Type 0} {p : Image}
    {r : Option StatementNo}
    (test : StatementNo → StatementForm → Bool) (h : Filled form to R p r) → test h.at (form h.at h.made) ≡ true → Stood p to test r
stood-filled test h t = record { at = h.at; is = h.is; next = h.stands.next; stands = ap (test h.at) h.stands.form ∙ t }

-- one layer, whose sequences are those that g gives
module _ {E : Type 0} (g : E → Sequence) (law : (e : E) → SequenceLaw (sequence_put (g e)) (λ p. sequence_reads p (g e)) (sequence_built (g e))) where
  abbrev m : E → SequenceMaking
  m e = sequence_put (g e)

  abbrev r : Image → E → SequenceReading
  r p e = sequence_reads p (g e)

  -- ---- statements inside others

  -- they have a first, and read from it on
  pub record Inside (e : E) (within : Within) (to : Option StatementNo) (p : Image) (x : Option StatementNo) : Type 0 where
    pub is : x ≡ Some (the_action x)
    pub stands : inside_stands p same_sequence_reading within (r p e) x to ≡ true

  pub stands-first : (e : E) (within : Within) (to : Option StatementNo) (p : Image) (x : Option StatementNo) → Inside e within to p x
      → inside_stands p same_sequence_reading within (r p e) (Some (the_action x)) to ≡ true
  stands-first e within to p x h = ap (λ y. inside_stands p same_sequence_reading within (r p e) y to) (sym h.is) ∙ h.stands

  first-is : (x : Option StatementNo) (s : StatementNo) → x ≡ Some s → x ≡ Some (the_action x)
  first-is x s e = e ∙ ap (λ y. Some (the_action y)) (sym e)

  pub inside-step : (e : E) (within : Within) (next : Option StatementNo) → sequence_built (g e) within.names ≡ true
      → Step (inside same_making (m e) within next) (Inside e within next)
  unfolding inside
  inside-step e within next b =
      step-so (λ p x h. record { is = first-is x h.0.0 h.0.1; stands = h.1 }) ((law e).reads sequence_place.StatementsAlone within next tt b)

  pub inside_if-step : (o : Option E) (within : Within) (next : Option StatementNo)
      → sequence_if_built same_sequence_built (option_map (λ e. sequence_built (g e)) o) within.names ≡ true
      → Step (inside_if same_making (option_map m o) within next) (λ p x. inside_stands_if p same_sequence_reading within (option_map (r p) o) x next ≡ true)
  unfolding inside_if
  inside_if-step None within next b = step-pure next _ (λ p. same-next next)
  inside_if-step (Some e) within next b = step-so (λ p x h. h.stands) (inside-step e within next b)

  -- ---- if and case

  branch-step : (c : Expression) (e : E) (otherwise next : Option StatementNo) (rest : Image → Option StatementNo → Bool) (within : Within)
      → expression_built c within.names ≡ true → sequence_built (g e) within.names ≡ true
      → Step (branch_put same_making within c (m e) otherwise next)
      (λ p x. rest p otherwise ≡ true → Stood p next (λ s f. branch_stands p same_sequence_reading within c (r p e) (rest p) next f) x)
  unfolding branch_put
  branch-step c e otherwise next rest within b i =
      step-then (inside same_making (m e) within next)
      (λ first. expression_made c within >>= (λ v. action_put (action.If v (the_action first) otherwise) (signs_in within c) next))
      (inside-step e within next i)
      (λ first. step-then (expression_made c within) (λ v. action_put (action.If v (the_action first) otherwise) (signs_in within c) next)
      (expression-step c within b)
      (λ v. step-so
      (λ p x h k l o. stood (branch_stands p same_sequence_reading within c (r p e) (rest p) next) h
      (and_from _ _ k (and_from _ _ (stands-first e within next p first l) o)))
      (action-step (action.If v (the_action first) otherwise) (signs_in within c) next)))

  abbrev elsifs_made : List (Elsif E) → List (Elsif SequenceMaking)
  elsifs_made es = map (elsif_of sequence_put) (map (elsif_of g) es)

  abbrev elsifs_read : Image → List (Elsif E) → List (Elsif SequenceReading)
  elsifs_read p es = map (elsif_of (sequence_reads p)) (map (elsif_of g) es)

  elsifs-step : (es : List (Elsif E)) (o : Image → Option SequenceReading) (otherwise next : Option StatementNo) (within : Within)
      → elsifs_built same_sequence_built (map (elsif_of sequence_built) (map (elsif_of g) es)) within.names ≡ true
      → Step (elsifs_put same_making within (elsifs_made es) otherwise next)
      (λ p x. inside_stands_if p same_sequence_reading within (o p) otherwise next ≡ true
      → elsifs_stand p same_sequence_reading within (elsifs_read p es) (o p) next x ≡ true)
  unfolding elsifs_put
  elsifs-step [] o otherwise next within b = step-pure otherwise _ (λ p h. h)
  elsifs-step (e ∷ es) o otherwise next within b =
      let parts = and_parts _ _ b in let more = and_parts _ _ parts.0 in
      step-then (elsifs_put same_making within (elsifs_made es) otherwise next) (λ later. branch_put same_making within e.condition (m e.statements) later next)
      (elsifs-step es o otherwise next within parts.1)
      (λ later. step-so (λ p x h k l. let s = h (k l) in
      ap (λ y. elsifs_stand p same_sequence_reading within (elsifs_read p (e ∷ es)) (o p) next y) s.is
      ∙ and_from _ _ (ap (λ y. same_next y next) s.next ∙ same-next next) s.stands)
      (branch-step e.condition e.statements later next (λ p. elsifs_stand p same_sequence_reading within (elsifs_read p es) (o p) next) within more.0 more.1))

  -- the parts of an if, with what stands behind else
  pub if-step : (c : Expression) (e : E) (es : List (Elsif E)) (o : Option E) (next : Option StatementNo) (within : Within)
      → (expression_built c within.names
      && (sequence_built (g e) within.names && (elsifs_built same_sequence_built (map (elsif_of sequence_built) (map (elsif_of g) es)) within.names
      && sequence_if_built same_sequence_built (option_map (λ x. sequence_built (g x)) o) within.names))) ≡ true
      → Step (λ l. (inside_if same_making (option_map m o) within next
      >>= (λ otherwise. elsifs_put same_making within (elsifs_made es) otherwise next >>= (λ later. branch_put same_making within c (m e) later next))) l)
      (λ p x. Stood p next
      (λ s f. branch_stands p same_sequence_reading within c (r p e)
      (elsifs_stand p same_sequence_reading within (elsifs_read p es) (option_map (r p) o) next) next f) x)
  if-step c e es o next within b =
      let parts = and_parts _ _ b in let more = and_parts _ _ parts.1 in let last = and_parts _ _ more.1 in
      step-then (inside_if same_making (option_map m o) within next)
      (λ otherwise. elsifs_put same_making within (elsifs_made es) otherwise next >>= (λ later. branch_put same_making within c (m e) later next))
      (inside_if-step o within next last.1)
      (λ otherwise. step-then (elsifs_put same_making within (elsifs_made es) otherwise next) (λ later. branch_put same_making within c (m e) later next)
      (elsifs-step es (λ p. option_map (r p) o) otherwise next within last.0)
      (λ later. step-so (λ p x h k l. h (k l))
      (branch-step c e later next (λ p. elsifs_stand p same_sequence_reading within (elsifs_read p es) (option_map (r p) o) next) within parts.0 more.0)))

  pub alternatives-step : (xs : List (CaseAlternative E)) (next : Option StatementNo) (within : Within)
      → alternatives_built same_sequence_built (map (case_of sequence_built) (map (case_of g) xs)) within.names ≡ true
      → Step (alternatives_put same_making within (map (case_of sequence_put) (map (case_of g) xs)) next)
      (λ p ys. alternatives_stand p same_sequence_reading within (map (case_of (sequence_reads p)) (map (case_of g) xs)) next ys ≡ true)
  unfolding alternatives_put
  alternatives-step [] next within b = step-pure [] _ (λ p. refl)
  alternatives-step (a ∷ rest) next within b =
      let parts = and_parts _ _ b in let more = and_parts _ _ parts.0 in
      step-then (inside same_making (m a.statements) within next)
      (λ first. alternatives_put same_making within (map (case_of sequence_put) (map (case_of g) rest)) next
      >>= (λ others. pure (record { choices = choices_made within a.choices; first = the_action first } ∷ others)))
      (inside-step a.statements within next more.1)
      (λ first. step-then (alternatives_put same_making within (map (case_of sequence_put) (map (case_of g) rest)) next)
      (λ others. pure (record { choices = choices_made within a.choices; first = the_action first } ∷ others))
      (alternatives-step rest next within parts.1)
      (λ others. step-pure (record { choices = choices_made within a.choices; first = the_action first } ∷ others) _
      (λ p k h. and_from _ _ (choices-same a.choices within more.0) (and_from _ _ (stands-first a.statements within next p first h) k))))

  -- ---- handlers

  pub handlers-step : (hs : List (Handler E)) (next : Option StatementNo) (within : Within)
      → handlers_built same_sequence_built (map (handler_of sequence_built) (map (handler_of g) hs)) within.names ≡ true
      → Step (handlers_put same_making within (map (handler_of sequence_put) (map (handler_of g) hs)) next)
      (λ p ys. handlers_stand p same_sequence_reading within (map (handler_of (sequence_reads p)) (map (handler_of g) hs)) next ys ≡ true)
  unfolding handlers_put
  handlers-step [] next within b = step-pure [] _ (λ p. refl)
  handlers-step (h ∷ hs) next within b =
      let parts = and_parts _ _ b in
      step-then (inside same_making (m h.statements) (in_handler within) next)
      (λ first. handlers_put same_making within (map (handler_of sequence_put) (map (handler_of g) hs)) next
      >>= (λ others. pure (record { choices = handled_made within h.exceptions; first = the_action first } ∷ others)))
      (inside-step h.statements (in_handler within) next parts.0)
      (λ first. step-then (handlers_put same_making within (map (handler_of sequence_put) (map (handler_of g) hs)) next)
      (λ others. pure (record { choices = handled_made within h.exceptions; first = the_action first } ∷ others))
      (handlers-step hs next within parts.1)
      (λ others. step-pure (record { choices = handled_made within h.exceptions; first = the_action first } ∷ others) _
      (λ p k i. and_from _ _ (handled-same within h.exceptions) (and_from _ _ (stands-first h.statements (in_handler within) next p first i) k))))
