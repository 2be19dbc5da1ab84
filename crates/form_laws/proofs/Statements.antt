-- Statements that break no rule are built, where the table is clear, given the sequences in them that are.
use Rattle.std.proofs.Common.{◌≡◌, ℕ, ◌≤◌, Bool, true, false, ◌&&◌, List, [], ◌∷◌, Option, Some, None, refl, sym, subst, arith}
use Rattle.std.proofs.lemmas.Bool.{and_from, and_parts}
use Rattle.ann_base.specs.declared.places.Place.{Place}
use Rattle.ada_tree.specs.declared.statements.SequenceRole.{SequenceRole}
use Rattle.ada_tree.specs.declared.statements.SequenceRole.TheVariants as role
use Rattle.ada_tree.specs.declared.statements.Sequence.{Sequence}
use Rattle.ada_tree.specs.declared.statements.Statement.{Statement}
use Rattle.ada_tree.specs.declared.statements.Statement.TheVariants as statement
use Rattle.ada_tree.specs.declared.statements.Accept.{Accept}
use Rattle.ada_tree.specs.declared.statements.AcceptBody.{AcceptBody}
use Rattle.ada_tree.specs.declared.statements.Case.{Case}
use Rattle.ada_tree.specs.declared.statements.CaseAlternative.{CaseAlternative}
use Rattle.ada_tree.specs.declared.statements.Elsif.{Elsif}
use Rattle.ada_tree.specs.declared.statements.If.{If}
use Rattle.ada_tree.specs.declared.statements.Loop.{Loop}
use Rattle.ada_tree.specs.declared.selects.SelectForm.{SelectForm}
use Rattle.ada_tree.specs.declared.selects.SelectForm.TheVariants as select
use Rattle.ada_tree.specs.declared.selects.SelectAlternative.{SelectAlternative}
use Rattle.ada_tree.specs.declared.selects.Alternative.{Alternative}
use Rattle.ada_tree.specs.declared.selects.Alternative.TheVariants as alternative
use Rattle.ada_tree.specs.ShapeExpressions.{optional_fits}
use Rattle.ada_tree.specs.ShapeStatements.{accept_body_fits, accept_fits, accept_opens, alternative_fits}
use Rattle.ada_tree.specs.ShapeStatements.{block_role, case_alternative_fits, case_fits, elsif_fits}
use Rattle.ada_tree.specs.ShapeStatements.{if_fits, loop_fits, parts_fit, select_alternative_fits, select_form_fits, statements_fit}
use Rattle.ada_tree.specs.Shape.{sequence_fits}
use Rattle.ada_regions.specs.Names.{entity_denoted, kind_at}
use Rattle.ada_regions.specs.Words.{and_then}
use Rattle.ada_image.specs.BuiltSequences.{accept_body_built, alternative_built, case_alternative_built, elsif_built, select_alternative_built, select_built}
use Rattle.ada_image.specs.BuiltSequences.{sequence_built, sequence_if_built, statement_built}
use Rattle.ada_legality.specs.declared.standing.Around.TheVariants as around
use Rattle.ada_legality.specs.declared.standing.Known.{Known}
use Rattle.ada_legality.specs.CallStatements.{found_if, parameters_found}
use Rattle.ada_legality.specs.Profiles.{accept_conforms}
use Rattle.ada_legality.specs.Faults.{faults_in}
use Rattle.ada_legality.specs.Places.{place_of_loop}
use Rattle.ada_legality.specs.SimpleStatements.{exit_found, with_around, with_iteration}
use Rattle.ada_legality.specs.Statements.{accept_judged}
use Rattle.ada_legality.specs.Statements.{accept_body_found, accept_found, alternative_found, asynchronous_select_found, case_alternative_found, case_found}
use Rattle.ada_legality.specs.Statements.{conditional_call_found, elsif_found, entity_of_label, if_found, loop_found, select_alternative_found}
use Rattle.ada_legality.specs.Statements.{select_form_found, select_found, selective_accept_found, statement_found, timed_call_found}
use Rattle.ada_legality.specs.Declarations.{sequence_found}
use Rattle.image_laws.proofs.Forms.Nothing.{none-of}
use Rattle.form_laws.specs.Loops.{accept_body_held, alternative_held, case_alternative_held}
use Rattle.form_laws.specs.Loops.{elsif_held, held_if, loops_in, select_alternative_held, select_held}
use Rattle.form_laws.specs.Loops.{all_held, call_held, sequence_held, statement_held, value_held}
use Rattle.form_laws.proofs.Assignments.{assignment-sound}
use Rattle.form_laws.proofs.Parts.{call-sound, return-sound}
use Rattle.form_laws.proofs.Standing.{Standing, names-in_loop, standing-around, standing-loop}
use Rattle.form_laws.proofs.Values.{all-built, built-if, choices-sound, condition-if, condition-sound, delay-sound, entry_call-sound, guard-sound}
use Rattle.form_laws.proofs.Values.{iteration-sound, opened, selector-sound, trigger-sound}

-- what holds of a sequence that breaks no rule
pub record SequenceBuilt (q : Sequence) : Type 0 where
  pub at : (k : Known) (es : List ℕ) → Standing k es → ((m : ℕ) → sequence_held m q k.names es ≡ true) → faults_in (sequence_found q k) ≡ []
      → sequence_built q k.names ≡ true

-- where so many levels are left
abbrev pub SequencesBuilt : ℕ → Type 0
SequencesBuilt left = (q : Sequence) (at : SequenceRole) → sequence_fits q at left ≡ true → SequenceBuilt q

module _ (left : ℕ) (all : (m : ℕ) → m ≤ left → SequencesBuilt m) where
  module _ (k : Known) (es : List ℕ) (s : Standing k es) where
    statements-sound : (q : Sequence) → statements_fit sequence_fits left q ≡ true → ((m : ℕ) → sequence_held m q k.names es ≡ true)
        → faults_in (sequence_found q k) ≡ [] → sequence_built q k.names ≡ true
    statements-sound q e h f = (all left (omega arith) q role.Statements e).at k es s h f

    otherwise-sound : (q : Option Sequence) → optional_fits (statements_fit sequence_fits left) q ≡ true
        → ((m : ℕ) → held_if (sequence_held m) q k.names es ≡ true) → faults_in (found_if sequence_found q k) ≡ []
        → sequence_if_built sequence_built q k.names ≡ true
    otherwise-sound q e h f =
        built-if k es sequence_found sequence_held (statements_fit sequence_fits left) sequence_built statements-sound q e h f

    -- ---- if, case and loops

    elsif-sound : (x : Elsif Sequence) → elsif_fits sequence_fits left x ≡ true → ((m : ℕ) → elsif_held (sequence_held m) x k.names es ≡ true)
        → faults_in (elsif_found sequence_found x k) ≡ [] → elsif_built sequence_built x k.names ≡ true
    elsif-sound x e h f =
        let p = none-of _ _ f in
        and_from _ _ (condition-sound k es s x.condition (and_parts _ _ (h 0)).0 p.0)
        (statements-sound x.statements (and_parts _ _ e).1 (λ m. (and_parts _ _ (h m)).1) p.1)

    if-sound : (i : If Sequence) → if_fits sequence_fits left i ≡ true → ((m : ℕ) → statement_held (sequence_held m) (statement.If i) k.names es ≡ true)
        → faults_in (if_found sequence_found i k) ≡ [] → statement_built sequence_built (statement.If i) k.names ≡ true
    unfolding if_found
    if-sound i e h f =
        let behind = and_parts _ _ (and_parts _ _ e).1 in
        let further = and_parts _ _ behind.1 in
        let held-behind : (m : ℕ) → (all_held (elsif_held (sequence_held m)) i.elsifs k.names es && held_if (sequence_held m) i.otherwise k.names es) ≡ true =
        λ m. (and_parts (sequence_held m i.statements k.names es) _ (and_parts (value_held i.condition k.names es) _ (h m)).1).1 in
        let held-elsifs : (m : ℕ) → all_held (elsif_held (sequence_held m)) i.elsifs k.names es ≡ true = λ m. (and_parts _ _ (held-behind m)).0 in
        let held-otherwise : (m : ℕ) → held_if (sequence_held m) i.otherwise k.names es ≡ true = λ m. (and_parts _ _ (held-behind m)).1 in
        let p = none-of _ _ f in
        let q = none-of _ _ p.1 in
        let r = none-of _ _ q.1 in
        and_from _ _ (condition-sound k es s i.condition (and_parts _ _ (h 0)).0 p.0)
        (and_from _ _ (statements-sound i.statements behind.0 (λ m. (and_parts _ _ (and_parts _ _ (h m)).1).0) q.0)
        (and_from _ _
        (all-built k es (elsif_found sequence_found) (λ m. elsif_held (sequence_held m)) (elsif_fits sequence_fits left)
        (λ x. elsif_built sequence_built x k.names) elsif-sound i.elsifs further.0 held-elsifs r.0)
        (otherwise-sound i.otherwise further.1 held-otherwise r.1)))

    case_alternative-sound : (x : CaseAlternative Sequence) → case_alternative_fits sequence_fits left x ≡ true
        → ((m : ℕ) → case_alternative_held (sequence_held m) x k.names es ≡ true)
        → faults_in (case_alternative_found sequence_found x k) ≡ [] → case_alternative_built sequence_built x k.names ≡ true
    case_alternative-sound x e h f =
        and_from _ _ (choices-sound k es s (x.choices.first ∷ x.choices.others)) (statements-sound x.statements (and_parts _ _ e).1 h f)

    case-sound : (c : Case Sequence) → case_fits sequence_fits left c ≡ true → ((m : ℕ) → statement_held (sequence_held m) (statement.Case c) k.names es ≡ true)
        → faults_in (case_found sequence_found c k) ≡ [] → statement_built sequence_built (statement.Case c) k.names ≡ true
    unfolding case_found
    case-sound c e h f =
        let p = none-of _ _ f in
        let q = none-of _ _ p.1 in
        let r = none-of _ _ q.1 in
        and_from _ _ (selector-sound k es s c.place c.selector _ (and_parts _ _ (h 0)).0 p.0 r.0)
        (all-built k es (case_alternative_found sequence_found) (λ m. case_alternative_held (sequence_held m)) (case_alternative_fits sequence_fits left)
        (λ x. case_alternative_built sequence_built x k.names) case_alternative-sound (c.alternatives.first ∷ c.alternatives.others)
        (and_parts _ _ e).1 (λ m. (and_parts _ _ (h m)).1) r.1)

    loop-sound : (l : Loop Sequence) → loop_fits sequence_fits left l ≡ true → ((m : ℕ) → statement_held (sequence_held m) (statement.Loop l) k.names es ≡ true)
        → faults_in (loop_found sequence_found l k) ≡ [] → statement_built sequence_built (statement.Loop l) k.names ≡ true
    unfolding loop_found
    loop-sound l e h f =
        let p = none-of _ _ f in
        let inner = with_around (around.Loop (entity_of_label k l.label)) (with_iteration l.iteration k) in
        let standing = standing-around (around.Loop (entity_of_label k l.label)) tt (with_iteration l.iteration k) (loops_in k.names l.iteration es)
        (standing-loop l.iteration k es s) in
        and_from _ _ (iteration-sound k es s (place_of_loop l) l.iteration (and_parts _ _ (h 0)).0 p.0)
        (subst (λ n. sequence_built l.statements n ≡ true) (names-in_loop l.iteration k)
        ((all left (omega arith) l.statements role.Statements (and_parts _ _ e).1).at inner (loops_in k.names l.iteration es) standing
        (λ m. subst (λ n. sequence_held m l.statements n (loops_in k.names l.iteration es) ≡ true) (sym (names-in_loop l.iteration k)) (and_parts _ _ (h m)).1)
        p.1))

    block-sound : (declare : Bool) (q : Sequence) → sequence_fits q (block_role sequence_fits declare) left ≡ true
        → ((m : ℕ) → sequence_held m q k.names es ≡ true) → faults_in (sequence_found q k) ≡ [] → sequence_built q k.names ≡ true
    block-sound true q e h f = (all left (omega arith) q role.Body e).at k es s h f
    block-sound false q e h f = (all left (omega arith) q role.Handled e).at k es s h f

    -- ---- accepts and selects

    accept_body-sound : (m : ℕ) → m ≤ left → (entry : Option ℕ) (b : Option (AcceptBody Sequence)) → optional_fits (accept_body_fits sequence_fits m) b ≡ true
        → ((m : ℕ) → held_if (accept_body_held (sequence_held m)) b k.names es ≡ true) → faults_in (found_if (accept_body_found sequence_found entry) b k) ≡ []
        → accept_body_built sequence_built b k.names ≡ true
    accept_body-sound m le entry None e h f = refl
    accept_body-sound m le entry (Some b) e h f =
        (all m le b.sequence role.Handled e).at (with_around (around.Accept entry) k) es (standing-around (around.Accept entry) tt k es s) h f

    accept-sound : (m : ℕ) → m ≤ left → (a : Accept Sequence) → accept_fits sequence_fits m a ≡ true
        → ((m : ℕ) → held_if (accept_body_held (sequence_held m)) a.body k.names es ≡ true) → faults_in (accept_found sequence_found a k) ≡ []
        → accept_body_built sequence_built a.body k.names ≡ true
    unfolding accept_found
    accept-sound m le a e h f =
        let entry = entity_denoted k.names a.entry.place in
        let p = none-of (accept_judged k a.place a.entry (and_then entry (kind_at k.names))) _ f in
        let q = none-of (accept_conforms k a.place a.parameters entry) _ p.1 in
        let r = none-of (parameters_found false false a.parameters k) _ q.1 in
        accept_body-sound m le (entity_denoted k.names a.entry.place) a.body (and_parts _ _ e).1 h r.1

    alternative-sound : (a : Alternative Sequence) → alternative_fits sequence_fits left a ≡ true
        → ((m : ℕ) → alternative_held (sequence_held m) a k.names es ≡ true) → faults_in (alternative_found sequence_found a k) ≡ []
        → alternative_built sequence_built a k.names ≡ true
    alternative-sound (alternative.Accept accept statements) e h f =
        let parts = and_parts _ _ e in
        let inside = opened left (accept_opens sequence_fits accept) parts.0 in
        let p = none-of _ _ f in
        and_from _ _ (accept-sound inside.inner (let less = inside.less in omega arith) accept inside.holds (λ m. (and_parts _ _ (h m)).0) p.0)
        (otherwise-sound statements parts.1 (λ m. (and_parts _ _ (h m)).1) p.1)
    alternative-sound (alternative.Delay delay statements) e h f =
        let p = none-of _ _ f in
        and_from _ _ (delay-sound k es s delay (and_parts _ _ (h 0)).0 p.0)
        (otherwise-sound statements (and_parts _ _ e).1 (λ m. (and_parts _ _ (h m)).1) p.1)
    alternative-sound (alternative.Terminate place) e h f = refl

    select_alternative-sound : (a : SelectAlternative Sequence) → select_alternative_fits sequence_fits left a ≡ true
        → ((m : ℕ) → select_alternative_held (sequence_held m) a k.names es ≡ true) → faults_in (select_alternative_found sequence_found a k) ≡ []
        → select_alternative_built sequence_built a k.names ≡ true
    select_alternative-sound a e h f =
        let p = none-of _ _ f in
        and_from _ _ (guard-sound k es s a.guard (and_parts _ _ (h 0)).0 p.0)
        (alternative-sound a.alternative (and_parts _ _ e).1 (λ m. (and_parts _ _ (h m)).1) p.1)

  -- the parts of an asynchronous select stand inside it
  select-sound : (k : Known) (es : List ℕ) → Standing k es → (place : Place) (x : SelectForm Sequence) → select_form_fits sequence_fits left x ≡ true
      → ((m : ℕ) → select_held (sequence_held m) x k.names es ≡ true) → faults_in (select_form_found sequence_found place x k) ≡ []
      → select_built sequence_built x k.names ≡ true
  unfolding selective_accept_found timed_call_found conditional_call_found asynchronous_select_found
  select-sound k es s place (select.SelectiveAccept x) e h f =
      let parts = and_parts _ _ e in
      let p = none-of _ _ (none-of _ _ f).1 in
      and_from _ _
      (all-built k es (select_alternative_found sequence_found) (λ m. select_alternative_held (sequence_held m)) (select_alternative_fits sequence_fits left)
      (λ a. select_alternative_built sequence_built a k.names) (select_alternative-sound k es s) (x.alternatives.first ∷ x.alternatives.others)
      parts.0 (λ m. (and_parts _ _ (h m)).0) p.0)
      (otherwise-sound k es s x.otherwise parts.1 (λ m. (and_parts _ _ (h m)).1) p.1)
  select-sound k es s place (select.TimedEntryCall t) e h f =
      let parts = and_parts _ _ (and_parts _ _ e).1 in
      let last = and_parts _ _ parts.1 in
      let held-behind : (m : ℕ) → (value_held t.delay.value k.names es && held_if (sequence_held m) t.delay_statements k.names es) ≡ true =
      λ m. (and_parts (held_if (sequence_held m) t.statements k.names es) _ (and_parts (call_held t.call k.names es) _ (h m)).1).1 in
      let held-last : (m : ℕ) → held_if (sequence_held m) t.delay_statements k.names es ≡ true = λ m. (and_parts _ _ (held-behind m)).1 in
      let p = none-of _ _ f in
      let q = none-of _ _ p.1 in
      let r = none-of _ _ q.1 in
      and_from _ _ (entry_call-sound k es s t.call (and_parts _ _ (h 0)).0 p.0)
      (and_from _ _ (otherwise-sound k es s t.statements parts.0 (λ m. (and_parts _ _ (and_parts _ _ (h m)).1).0) q.0)
      (and_from _ _ (delay-sound k es s t.delay (and_parts _ _ (held-behind 0)).0 r.0)
      (otherwise-sound k es s t.delay_statements last.1 held-last r.1)))
  select-sound k es s place (select.ConditionalEntryCall c) e h f =
      let parts = and_parts _ _ (and_parts _ _ e).1 in
      let p = none-of _ _ f in
      let q = none-of _ _ p.1 in
      and_from _ _ (entry_call-sound k es s c.call (and_parts _ _ (h 0)).0 p.0)
      (and_from _ _ (otherwise-sound k es s c.statements parts.0 (λ m. (and_parts _ _ (and_parts _ _ (h m)).1).0) q.0)
      (statements-sound k es s c.otherwise parts.1 (λ m. (and_parts _ _ (and_parts _ _ (h m)).1).1) q.1))
  select-sound k es s place (select.AsynchronousSelect a) e h f =
      let parts = and_parts _ _ (and_parts _ _ e).1 in
      let p = none-of _ _ f in
      let q = none-of _ _ p.1 in
      let inner = with_around around.AsynchronousSelect k in
      let standing = standing-around around.AsynchronousSelect tt k es s in
      and_from _ _ (trigger-sound k es s a.trigger (and_parts _ _ (h 0)).0 p.0)
      (and_from _ _ (otherwise-sound inner es standing a.statements parts.0 (λ m. (and_parts _ _ (and_parts _ _ (h m)).1).0) q.0)
      (statements-sound inner es standing a.abortable parts.1 (λ m. (and_parts _ _ (and_parts _ _ (h m)).1).1) q.1))

  -- ---- all statements

  module _ (k : Known) (es : List ℕ) (s : Standing k es) where
    pub statement-sound : (x : Statement Sequence) → parts_fit sequence_fits x left ≡ true → ((m : ℕ) → statement_held (sequence_held m) x k.names es ≡ true)
        → faults_in (statement_found sequence_found x k) ≡ [] → statement_built sequence_built x k.names ≡ true
    unfolding select_found exit_found
    statement-sound (statement.Null place) e h f = refl
    statement-sound (statement.Assignment a) e h f = assignment-sound k es s a (h 0) f
    statement-sound (statement.Call c) e h f = call-sound k es s c (h 0) f
    statement-sound (statement.Delay d) e h f = delay-sound k es s d (h 0) f
    statement-sound (statement.If i) e h f = if-sound k es s i e h f
    statement-sound (statement.Case c) e h f = case-sound k es s c e h f
    statement-sound (statement.Loop l) e h f = loop-sound k es s l e h f
    statement-sound (statement.Exit x) e h f = condition-if k es s x.condition (h 0) (none-of _ _ f).1
    statement-sound (statement.Block b) e h f = block-sound k es s b.declare b.sequence e h f
    statement-sound (statement.Return place value) e h f = return-sound k es s place value (h 0) f
    statement-sound (statement.Raise place exception) e h f = refl
    statement-sound (statement.Abort place tasks) e h f = refl
    statement-sound (statement.Accept a) e h f = accept-sound k es s left (omega arith) a e h f
    statement-sound (statement.Requeue place entry with_abort) e h f = refl
    statement-sound (statement.Select x) e h f = select-sound k es s x.place x.form e h (none-of _ _ f).1
