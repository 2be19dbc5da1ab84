-- Loops, blocks and accepts stand: their numbers are drawn first, and filled behind what is in them.
use Rattle.std.proofs.Common.{◌≡◌, ℕ, ◌+◌, Bool, true, false, ◌&&◌, is_none, Option, Some, None, option_map, refl, ap, ◌∙◌}
use Rattle.std.proofs.lemmas.Bool.{and_from, and_parts}
use Rattle.ada_tree.specs.declared.expressions.Expression.{Expression}
use Rattle.ada_tree.specs.declared.statements.Sequence.{Sequence}
use Rattle.ada_tree.specs.declared.statements.Loop.{Loop}
use Rattle.ada_tree.specs.declared.statements.Iteration.{Iteration}
use Rattle.ada_tree.specs.declared.statements.Iteration.TheVariants as iteration
use Rattle.ada_tree.specs.declared.statements.Block.{Block}
use Rattle.ada_tree.specs.declared.statements.Accept.{Accept}
use Rattle.ada_tree.specs.declared.statements.AcceptBody.{AcceptBody}
use Rattle.profile_image.specs.declared.image.Image.{Image}
use Rattle.profile_image.specs.declared.numbers.DeclNo.{DeclNo}
use Rattle.profile_image.specs.declared.numbers.ExprNo.{ExprNo}
use Rattle.profile_image.specs.declared.numbers.StatementNo.{StatementNo}
use Rattle.profile_image.specs.declared.statements.StatementForm.TheVariants as action
use Rattle.profile_image.specs.Program.{form_of}
use Rattle.ada_image.specs.declared.making.Within.{Within}
use Rattle.ada_image.specs.declared.making.SequencePlace.TheVariants as sequence_place
use Rattle.ada_image.specs.Making.{Making, ◌>>=◌, ◌>>◌, pure, first_put, the_action, in_loop, in_construct, in_scope}
use Rattle.ada_image.specs.Layout.{scope_no}
use Rattle.ada_image.specs.ImageOfExpressions.{expression_made, signs_in}
use Rattle.ada_image.specs.ImageOfStatements.{SequenceMaking, scope_at, entry_at, label_of, loop_body, forever_put, while_put}
use Rattle.ada_image.specs.ImageOfStatements.{parameter_of, for_put, iteration_put, loop_put, block_put, accept_body_put, accept_put}
use Rattle.ada_image.specs.ImageOfDeclarations.{same_making, sequence_put}
use Rattle.ada_image.specs.ReadStatements.{same_next, value_stands, first_of_scope, is_turn, is_turn_form, turns_stand, forever_stands}
use Rattle.ada_image.specs.ReadStatements.{while_stands, for_stands, loop_stands, later_turn, block_stands, accept_body_stands, accept_stands}
use Rattle.ada_image.specs.NothingLost.{SequenceReading, same_sequence_reading, sequence_reads}
use Rattle.ada_image.specs.BuiltExpressions.{expression_built}
use Rattle.ada_image.specs.BuiltStatements.{iteration_built}
use Rattle.ada_image.specs.BuiltSequences.{accept_body_built, same_sequence_built, sequence_built}
use Rattle.image_laws.proofs.Images.Steps.{Step, step-pure, step-so, step-then, first-step, filled-step}
use Rattle.image_laws.proofs.Images.Turns.{Turning, turns-step}
use Rattle.image_laws.proofs.Images.Values.{same-number}
use Rattle.image_laws.proofs.Images.Expressions.{same-truth, expression-step}
use Rattle.image_laws.proofs.Images.Actuals.{same-next, Stood}
use Rattle.image_laws.proofs.Images.Layers.{SequenceLaw}
use Rattle.image_laws.proofs.Images.Statements.{stood-filled, Inside, stands-first, inside-step}

abbrev pub loop_of : {A B : Type 0} → (A → B) → Loop A → Loop B
loop_of f l = record { label = l.label; iteration = l.iteration; place = l.place; statements = f l.statements }

abbrev pub block_of : {A B : Type 0} → (A → B) → Block A → Block B
block_of f b = record { label = b.label; place = b.place; declare = b.declare; sequence = f b.sequence }

abbrev pub accept_body_of : {A B : Type 0} → (A → B) → AcceptBody A → AcceptBody B
accept_body_of f b = record { sequence = f b.sequence; named_at_end = b.named_at_end }

abbrev pub accept_with : {A B : Type 0} → Accept A → Option (AcceptBody B) → Accept B
accept_with a body = record { place = a.place; entry = a.entry; parameters = a.parameters; body = body }

module _ {E : Type 0} (g : E → Sequence) (law : (e : E) → SequenceLaw (sequence_put (g e)) (λ p. sequence_reads p (g e)) (sequence_built (g e))) where
  abbrev m : E → SequenceMaking
  m e = sequence_put (g e)

  abbrev r : Image → E → SequenceReading
  r p e = sequence_reads p (g e)

  -- ---- loops (5.5)

  abbrev loop_made : Loop E → Loop SequenceMaking
  loop_made l = loop_of sequence_put (loop_of g l)

  abbrev loop_read : Image → Loop E → Loop SequenceReading
  loop_read p l = loop_of (sequence_reads p) (loop_of g l)

  -- where the body of a loop stands
  abbrev around : Within → Loop E → StatementNo → Within
  around within l s = in_loop (label_of within (loop_made l)) s within

  body-step : (l : Loop E) (within : Within) (s turn : StatementNo) → sequence_built (g l.statements) within.names ≡ true
      → Step (loop_body same_making within (loop_made l) s turn) (Inside g law l.statements (around within l s) (Some turn))
  unfolding loop_body
  body-step l within s turn b = inside-step g law l.statements (around within l s) (Some turn) b

  forever-step : (l : Loop E) (next : Option StatementNo) (within : Within) → sequence_built (g l.statements) within.names ≡ true
      → Step (forever_put same_making within (loop_made l) next)
      (λ p x. Stood p next (λ s f. forever_stands p same_sequence_reading within (loop_read p l) s f) x)
  unfolding forever_put label_of
  forever-step l next within b =
      step-so (λ p x h. stood-filled (λ s f. forever_stands p same_sequence_reading within (loop_read p l) s f) h
      (and_from _ _ (same-next within.construct) (stands-first g law l.statements (around within l h.at) (Some h.at) p h.made h.reads)))
      (filled-step (λ s. loop_body same_making within (loop_made l) s s) (λ s body. action.Loop (the_action body) within.construct) 0 next
      (λ s. Inside g law l.statements (around within l s) (Some s)) (λ s. body-step l within s s b))

  while-step : (l : Loop E) (c : Expression) (next : Option StatementNo) (within : Within) → expression_built c within.names ≡ true
      → sequence_built (g l.statements) within.names ≡ true
      → Step (while_put same_making within (loop_made l) c next)
      (λ p x. Stood p next (λ s f. while_stands p same_sequence_reading within (loop_read p l) c s f) x)
  unfolding while_put label_of
  while-step l c next within b i =
      step-so (λ p x h. stood-filled (λ s f. while_stands p same_sequence_reading within (loop_read p l) c s f) h
      (and_from _ _ h.reads.1
      (and_from _ _ (same-next within.construct) (stands-first g law l.statements (around within l h.at) (Some h.at) p h.made.0 h.reads.0))))
      (filled-step (λ s. loop_body same_making within (loop_made l) s s >>= (λ body. expression_made c within >>= (λ e. pure (body, e))))
      (λ s (x : Option StatementNo × ExprNo). action.While x.1 (the_action x.0) within.construct) (signs_in within c) next
      (λ s p x. Inside g law l.statements (around within l s) (Some s) p x.0 × (value_stands p within c x.1 ≡ true))
      (λ s. step-then (loop_body same_making within (loop_made l) s s) (λ body. expression_made c within >>= (λ e. pure (body, e))) (body-step l within s s i)
      (λ body. step-then (expression_made c within) (λ e. pure (body, e)) (expression-step c within b) (λ e. step-pure (body, e) _ (λ p k h. (h, k))))))

  abbrev ends_made : Within → Expression → Expression → Making (ExprNo × ExprNo)
  ends_made within low high = expression_made low within >>= (λ a. expression_made high within >>= (λ b. pure (a, b)))

  abbrev EndsStand : Within → Expression → Expression → Image → ExprNo × ExprNo → Type 0
  EndsStand within low high p y = (value_stands p within low y.0 ≡ true) × (value_stands p within high y.1 ≡ true)

  ends-step : (low high : Expression) (within : Within) → expression_built low within.names ≡ true → expression_built high within.names ≡ true
      → Step (ends_made within low high) (EndsStand within low high)
  ends-step low high within b c =
      step-then (expression_made low within) (λ x. expression_made high within >>= (λ y. pure (x, y))) (expression-step low within b)
      (λ x. step-then (expression_made high within) (λ y. pure (x, y)) (expression-step high within c) (λ y. step-pure (x, y) _ (λ p k h. (h, k))))

  abbrev ForTurns : Loop E → DeclNo → Bool → Expression → Expression → Option StatementNo → Within → Image → Option StatementNo → Type 0
  ForTurns l d reverse low high next within =
      Turning (λ first y. action.For d reverse y.0 y.1 first within.construct) (λ body. action.FirstTurn d reverse (the_action body))
      (λ body. action.LaterTurn d reverse (the_action body)) next
      (λ s t. Inside g law l.statements (around within l s) (Some t)) (EndsStand within low high)

  module _ (l : Loop E) (d : DeclNo) (reverse : Bool) (low high : Expression) (next : Option StatementNo) (within : Within) (p : Image) (x : Option StatementNo)
      (h : ForTurns l d reverse low high next within p x) where
    turn-stands : is_turn p same_sequence_reading d reverse next (later_turn h.at) (the_action h.made) ≡ true
    turn-stands =
        and_from _ _ (ap (λ n. same_next n next) h.later_stands.next ∙ same-next next)
        (ap (is_turn_form d reverse (the_action h.made)) h.later_stands.form
        ∙ and_from _ _ (same-number d.0) (and_from _ _ (same-truth reverse) (same-number (the_action h.made).0)))

    first-stands : turns_stand p same_sequence_reading within (loop_read p l) d reverse h.at next h.first (form_of p h.first) ≡ true
    unfolding label_of
    first-stands =
        ap (turns_stand p same_sequence_reading within (loop_read p l) d reverse h.at next h.first) h.first_stands.form
        ∙ and_from _ _ (same-number d.0) (and_from _ _ (same-truth reverse) (and_from _ _ (ap (λ n. same_next n next) h.first_stands.next ∙ same-next next)
        (and_from _ _ (stands-first g law l.statements (around within l h.at) (Some (later_turn h.at)) p h.made h.reads) turn-stands)))

    for-stood : Stood p next (λ s f. for_stands p same_sequence_reading within (loop_read p l) d reverse low high s next f) x
    for-stood = record {
      at = h.at;
      is = h.is;
      next = h.stands.next;
      stands = ap (for_stands p same_sequence_reading within (loop_read p l) d reverse low high h.at next) h.stands.form
          ∙ and_from _ _ (same-number d.0)
          (and_from _ _ (same-truth reverse)
          (and_from _ _ h.values_read.0 (and_from _ _ h.values_read.1 (and_from _ _ (same-next within.construct) first-stands))));
    }

  for-step : (l : Loop E) (d : DeclNo) (reverse : Bool) (low high : Expression) (next : Option StatementNo) (within : Within)
      → expression_built low within.names ≡ true → expression_built high within.names ≡ true
      → sequence_built (g l.statements) within.names ≡ true
      → Step (for_put same_making within (loop_made l) d reverse low high next)
      (λ p x. Stood p next (λ s f. for_stands p same_sequence_reading within (loop_read p l) d reverse low high s next f) x)
  unfolding for_put
  for-step l d reverse low high next within b c i =
      step-so (λ p x h. for-stood l d reverse low high next within p x h)
      (turns-step (λ s t. loop_body same_making within (loop_made l) s t) (ends_made within low high)
      (λ first y. action.For d reverse y.0 y.1 first within.construct)
      (λ body. action.FirstTurn d reverse (the_action body)) (λ body. action.LaterTurn d reverse (the_action body))
      (signs_in within low + signs_in within high) next
      (λ s t. Inside g law l.statements (around within l s) (Some t)) (EndsStand within low high) (λ s t. body-step l within s t i)
      (ends-step low high within b c))

  iteration-step : (l : Loop E) (i : Iteration) (next : Option StatementNo) (within : Within)
      → (iteration_built i within.names && sequence_built (g l.statements) within.names) ≡ true
      → Step (iteration_put same_making within (loop_made l) i next)
      (λ p x. Stood p next (λ s f. loop_stands p same_sequence_reading within (loop_read p l) i s next f) x)
  unfolding iteration_put parameter_of
  iteration-step l iteration.Forever next within b = forever-step l next within b
  iteration-step l (iteration.While place c) next within b = let parts = and_parts _ _ b in while-step l c next within parts.0 parts.1
  iteration-step l (iteration.For place i reverse low high) next within b =
      let parts = and_parts _ _ b in let ends = and_parts _ _ parts.0 in
      for-step l (parameter_of within i) reverse low high next within ends.0 ends.1 parts.1

  pub loop-step : (l : Loop E) (next : Option StatementNo) (within : Within)
      → (iteration_built l.iteration within.names && sequence_built (g l.statements) within.names) ≡ true
      → Step (loop_put same_making within (loop_made l) next)
      (λ p x. Stood p next (λ s f. loop_stands p same_sequence_reading within (loop_read p l) l.iteration s next f) x)
  unfolding loop_put
  loop-step l next within b = iteration-step l l.iteration next within b

  -- ---- blocks (5.6)

  -- a sequence that is all of a body, and the first action of its scope
  scope-step : (e : E) (scope : ℕ) (within : Within) → sequence_built (g e) within.names ≡ true
      → Step (m e (sequence_place.AsBody false) within None >>= (λ first. first_put scope first))
      (λ p u. r p e (sequence_place.AsBody false) within (first_of_scope p scope) None ≡ true)
  scope-step e scope within b =
      step-then (m e (sequence_place.AsBody false) within None) (λ first. first_put scope first)
      ((law e).reads (sequence_place.AsBody false) within None refl b)
      (λ first. step-so (λ p u h k. ap (λ y. r p e (sequence_place.AsBody false) within y None) h ∙ k.1) (first-step scope first))

  pub block-step : (b : Block E) (next : Option StatementNo) (within : Within) → sequence_built (g b.sequence) within.names ≡ true
      → Step (block_put same_making within (block_of sequence_put (block_of g b)) next)
      (λ p x. Stood p next (λ s f. block_stands p same_sequence_reading within (block_of (sequence_reads p) (block_of g b)) s f) x)
  unfolding block_put
  block-step b next within i =
      let scope = scope_at within.names b.place in
      step-so (λ p x h. stood-filled (λ s f. block_stands p same_sequence_reading within (block_of (sequence_reads p) (block_of g b)) s f) h
      (and_from _ _ (same-number scope) h.reads))
      (filled-step (λ s. m b.sequence (sequence_place.AsBody false) (in_construct s (in_scope scope within)) None >>= (λ first. first_put scope first))
      (λ s u. action.Block (scope_no scope)) 0 next
      (λ s p u. r p b.sequence (sequence_place.AsBody false) (in_construct s (in_scope scope within)) (first_of_scope p scope) None ≡ true)
      (λ s. scope-step b.sequence scope (in_construct s (in_scope scope within)) i))

  -- ---- accepts (9.5.2)

  accept-body-step : (o : Option (AcceptBody E)) (s : StatementNo) (scope : ℕ) (within : Within)
      → accept_body_built same_sequence_built (option_map (λ b. accept_body_of sequence_built (accept_body_of g b)) o) within.names ≡ true
      → Step (accept_body_put same_making within s scope (option_map (λ b. accept_body_of sequence_put (accept_body_of g b)) o)
      >>= (λ first. first_put scope first))
      (λ p u. accept_body_stands p same_sequence_reading within s scope (option_map (λ b. accept_body_of (sequence_reads p) (accept_body_of g b)) o) ≡ true)
  unfolding accept_body_put
  accept-body-step None s scope within i = step-so (λ p u h. ap is_none h) (first-step scope None)
  accept-body-step (Some b) s scope within i =
      step-then (m b.sequence (sequence_place.BehindDeclarations None) (in_construct s (in_scope scope within)) None) (λ first. first_put scope first)
      ((law b.sequence).reads (sequence_place.BehindDeclarations None) (in_construct s (in_scope scope within)) None tt i)
      (λ first. step-so (λ p u h k. ap (λ y. r p b.sequence (sequence_place.BehindDeclarations None) (in_construct s (in_scope scope within)) y None) h ∙ k.1)
      (first-step scope first))

  pub accept-step : (a : Accept E) (o : Option (AcceptBody E)) (next : Option StatementNo) (within : Within)
      → accept_body_built same_sequence_built (option_map (λ b. accept_body_of sequence_built (accept_body_of g b)) o) within.names ≡ true
      → Step (accept_put same_making within (accept_with a (option_map (λ b. accept_body_of sequence_put (accept_body_of g b)) o)) next)
      (λ p x. Stood p next
      (λ s f.
      accept_stands p same_sequence_reading within (accept_with a (option_map (λ b. accept_body_of (sequence_reads p) (accept_body_of g b)) o)) s f) x)
  unfolding accept_put
  accept-step a o next within i =
      let scope = scope_at within.names a.place in
      step-so (λ p x h. stood-filled
      (λ s f.
      accept_stands p same_sequence_reading within (accept_with a (option_map (λ b. accept_body_of (sequence_reads p) (accept_body_of g b)) o)) s f) h
      (and_from _ _ (same-number (entry_at within a.entry.place).0) (and_from _ _ (same-number scope) h.reads)))
      (filled-step (λ s. accept_body_put same_making within s scope (option_map (λ b. accept_body_of sequence_put (accept_body_of g b)) o)
      >>= (λ first. first_put scope first))
      (λ s u. action.Accept (entry_at within a.entry.place) (scope_no scope)) 0 next
      (λ s p u. accept_body_stands p same_sequence_reading within s scope (option_map (λ b. accept_body_of (sequence_reads p) (accept_body_of g b)) o) ≡ true)
      (λ s. accept-body-step o s scope within i))
