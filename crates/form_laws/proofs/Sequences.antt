-- Declarations, bodies and sequences that break no rule are built, where the table is clear.
use Rattle.std.proofs.Common.{◌≡◌, ℕ, ◌≤◌, zero, suc, true, false, cond, not, List, [], ◌∷◌, Option, Some, None, option_map, is_some}
use Rattle.std.proofs.Common.{refl, sym, ap, ◌∙◌, arith}
use Rattle.std.specs.Prelude.{unwrap_or}
use Rattle.std.specs.List.{list_all}
use Rattle.std.proofs.lemmas.Bool.{false≢true, and_from, and_parts}
use Rattle.ann_base.specs.Lists.{is_empty}
use Rattle.ada_tree.specs.declared.declarations.Body.{Body}
use Rattle.ada_tree.specs.declared.declarations.Declaration.{Declaration}
use Rattle.ada_tree.specs.declared.declarations.Declaration.TheVariants as declaration
use Rattle.ada_tree.specs.declared.declarations.EntryHead.{EntryHead}
use Rattle.ada_tree.specs.declared.declarations.OperationBody.{OperationBody}
use Rattle.ada_tree.specs.declared.declarations.OperationBody.TheVariants as body_of
use Rattle.ada_tree.specs.declared.declarations.SubprogramSpecification.{SubprogramSpecification}
use Rattle.ada_tree.specs.declared.declarations.SubtypeIndication.{SubtypeIndication}
use Rattle.ada_tree.specs.declared.expressions.Expression.{Expression}
use Rattle.ada_tree.specs.declared.names.Identifier.{Identifier}
use Rattle.ada_tree.specs.declared.statements.Handler.{Handler}
use Rattle.ada_tree.specs.declared.statements.Sequence.{Sequence}
use Rattle.ada_tree.specs.declared.statements.Sequence.TheViews.{out-Sequence}
use Rattle.ada_tree.specs.declared.statements.SequenceRole.{SequenceRole}
use Rattle.ada_tree.specs.declared.statements.SequenceRole.TheVariants as role
use Rattle.ada_tree.specs.declared.statements.Statement.{Statement}
use Rattle.ada_tree.specs.ShapeDeclarations.{body_fits, declaration_fits, operation_body_fits, operations_fit}
use Rattle.ada_tree.specs.ShapeStatements.{handler_fits, parts_fit, statement_fits}
use Rattle.ada_tree.specs.Shape.{all_statements_fit, sequence_fits, sequence_fits_by}
use Rattle.ada_tree.proofs.SequenceFits.{sequence_is_fit}
use Rattle.ada_regions.specs.declared.entities.Denoted.{Denoted}
use Rattle.ada_regions.specs.declared.types.AdaType.{AdaType}
use Rattle.ada_regions.specs.declared.types.AdaType.TheVariants as types
use Rattle.ada_regions.specs.Completions.{holds_of}
use Rattle.ada_regions.specs.Names.{denoted_by, entity_denoted}
use Rattle.ada_regions.specs.NamesInExpressions.{names_in_expression}
use Rattle.ada_regions.specs.Words.{and_then}
use Rattle.ada_image.specs.BuiltSequences.{declaration_built, declarations_built, handlers_built, initial_built, operation_body_built, sequence_built}
use Rattle.ada_image.specs.BuiltSequences.{statement_built}
use Rattle.ada_image.specs.Layout.{is_thing}
use Rattle.ada_image.proofs.BuiltSequenceFolds.{sequence_by_parts}
use Rattle.ada_legality.specs.declared.parts.IndicationUse.TheVariants as uses
use Rattle.ada_legality.specs.declared.standing.Around.TheVariants as around
use Rattle.ada_legality.specs.declared.standing.Known.{Known}
use Rattle.ada_legality.specs.declared.standing.SubprogramAround.{SubprogramAround}
use Rattle.ada_legality.specs.CallStatements.{all_found, found_if, indication_found, is_fitting_mark, may_be_indicated, type_fits_indication, type_of_mark}
use Rattle.ada_legality.specs.CallStatements.{parameters_found, value_alone_found}
use Rattle.ada_legality.specs.Declarations.{declaration_found, entry_body_found, object_found, operation_body_found, parts_found}
use Rattle.ada_legality.specs.Declarations.{protected_body_found, sequence_found, specification_found, subprogram_body_found, subprogram_here, task_body_found}
use Rattle.ada_legality.specs.Declarations.{barrier_found, entry_body_judged, unit_here}
use Rattle.ada_legality.specs.Faults.{faults_in}
use Rattle.ada_legality.specs.Places.{place_of}
use Rattle.ada_legality.specs.ReadExpressions.{is_unclear_mark}
use Rattle.ada_legality.specs.SimpleStatements.{with_around}
use Rattle.ada_legality.specs.Statements.{handler_found, statement_found}
use Rattle.ada_legality.specs.Types.{is_scalar}
use Rattle.ada_legality.specs.Values.{denoted_kind, is_kind}
use Rattle.ada_legality.proofs.SequenceFolds.{sequence_finds}
use Rattle.image_laws.specs.Laws.{has_value_type}
use Rattle.image_laws.proofs.Forms.Actuals.{or-second}
use Rattle.image_laws.proofs.Forms.Nothing.{none-of, unless-none}
use Rattle.form_laws.specs.Tables.{ClearTable}
use Rattle.form_laws.specs.Loops.{all_held, declaration_held, declarations_held, handler_held, held_if, operation_body_held, sequence_held}
use Rattle.form_laws.specs.Loops.{statement_held, value_held}
use Rattle.form_laws.proofs.Names.{unclear-mark}
use Rattle.form_laws.proofs.Parts.{initial-known}
use Rattle.form_laws.proofs.Standing.{Standing, names-stand, result_held, standing-around, standing-subprogram}
use Rattle.form_laws.proofs.Statements.{SequenceBuilt, SequencesBuilt, statement-sound}
use Rattle.form_laws.proofs.Values.{all-built, opened}

-- ---- the result of a function is of a type of values

scalar-value : (t : AdaType) → is_scalar t ≡ true → not (is_thing t) ≡ true
scalar-value types.TimingEvent h = absurd (false≢true h)
scalar-value types.Timer h = absurd (false≢true h)
scalar-value types.GroupBudget h = absurd (false≢true h)
scalar-value types.LimitedControlled h = absurd (false≢true h)
scalar-value types.Controlled h = absurd (false≢true h)
scalar-value (types.Derived c) h = absurd (false≢true h)
scalar-value (types.Task u) h = absurd (false≢true h)
scalar-value (types.Protected u) h = absurd (false≢true h)
scalar-value _ h = refl

module _ (k : Known) (t : ClearTable k) where
  named-mark : (d : Option Denoted) → holds_of is_unclear_mark (and_then d (denoted_kind k.names)) ≡ false
  named-mark None = refl
  named-mark (Some d) = unclear-mark k t d

  result-typed : (m : SubtypeIndication) → faults_in (indication_found uses.ForResult m k) ≡ [] → has_value_type (type_of_mark k m) ≡ true
  unfolding indication_found is_fitting_mark type_fits_indication may_be_indicated
  result-typed m f =
      go (type_of_mark k m)
      (or-second (is_kind is_unclear_mark k m.name) _ (unless-none _ _ (place_of m.name) (none-of _ _ f).0) (named-mark (denoted_by k.names m.name)))
    where
      go : (x : Option AdaType) → unwrap_or (option_map (type_fits_indication uses.ForResult m.constraint) x) false ≡ true → has_value_type x ≡ true
      go None h = absurd (false≢true h)
      go (Some x) h = scalar-value x (and_parts _ _ (and_parts _ _ h).1).1

  result-here : (r : Option SubtypeIndication) (f : SubprogramAround) → f.result ≡ option_map (type_of_mark k) r
      → faults_in (found_if (indication_found uses.ForResult) r k) ≡ [] → result_held (cond (is_some f.result) (Some f) None) ≡ true
  result-here None f q g = ap (λ x. result_held (cond (is_some x) (Some f) None)) q
  result-here (Some m) f q g =
      ap (λ x. result_held (cond (is_some x) (Some f) None)) q ∙ (ap (λ x. has_value_type (and_then x (λ y. y))) q ∙ result-typed m g)

-- ---- declarations and bodies

module _ (level : ℕ) (all : (m : ℕ) → suc m ≤ level → SequencesBuilt m) where
  body-sound : (m : ℕ) → suc m ≤ level → (b : Body Sequence) → body_fits sequence_fits m b ≡ true → SequenceBuilt b.sequence
  body-sound m less b e =
      let inside = opened m (sequence_fits b.sequence role.Body) e in
      all inside.inner (let h = inside.less in omega arith) b.sequence role.Body inside.holds

  pub whole_body-sound : (b : Body Sequence) → body_fits sequence_fits level b ≡ true → SequenceBuilt b.sequence
  whole_body-sound b e = let inside = opened level (sequence_fits b.sequence role.Body) e in all inside.inner inside.less b.sequence role.Body inside.holds

  module _ (k : Known) (es : List ℕ) (s : Standing k es) where
    subprogram-sound : (x : SubprogramSpecification) (b : Body Sequence) → SequenceBuilt b.sequence
        → ((m : ℕ) → sequence_held m b.sequence k.names es ≡ true) → faults_in (subprogram_body_found sequence_found x b k) ≡ []
        → sequence_built b.sequence k.names ≡ true
    unfolding subprogram_body_found specification_found subprogram_here
    subprogram-sound x b inside h f =
        let p = none-of _ _ (none-of _ _ f).1 in
        let q = none-of _ _ (none-of _ _ p.0).1 in
        inside.at (with_around (around.Subprogram (subprogram_here k x)) k) es
        (standing-subprogram (subprogram_here k x) k es (result-here k s.table x.result (subprogram_here k x) refl q.0) s) h p.1

    entry-sound : (x : EntryHead) (b : Body Sequence) → SequenceBuilt b.sequence → ((m : ℕ) → sequence_held m b.sequence k.names es ≡ true)
        → faults_in (entry_body_found sequence_found x b k) ≡ [] → sequence_built b.sequence k.names ≡ true
    unfolding entry_body_found
    entry-sound x b inside h f =
        let inner = with_around (around.Entry (entity_denoted k.names x.name.place)) k in
        let p = none-of (entry_body_judged x k) _ f in
        let q = none-of (parameters_found false false x.parameters k) _ p.1 in
        let r = none-of (barrier_found x.barrier inner) _ q.1 in
        inside.at inner es
        (standing-around (around.Entry (entity_denoted k.names x.name.place)) tt k es s) h r.1

    operation-sound : (m : ℕ) → suc m ≤ level → (o : OperationBody Sequence) → operation_body_fits sequence_fits m o ≡ true
        → ((j : ℕ) → operation_body_held (sequence_held j) o k.names es ≡ true) → faults_in (operation_body_found sequence_found o k) ≡ []
        → operation_body_built sequence_built o k.names ≡ true
    operation-sound m less (body_of.Subprogram x b) e h f = subprogram-sound x b (body-sound m less b (and_parts _ _ e).1) h f
    operation-sound m less (body_of.Entry x b) e h f = entry-sound x b (body-sound m less b (and_parts _ _ e).1) h f

    initial-sound : (e : Option Expression) → held_if value_held e k.names es ≡ true → (t : Option AdaType)
        → faults_in (found_if (value_alone_found t) e k) ≡ []
        → initial_built e k.names ≡ true
    unfolding value_alone_found
    initial-sound None h t f = refl
    initial-sound (Some e) h t f = initial-known k s.table e (names-stand k es s (names_in_expression e) h) (none-of _ _ f).0

  module _ (k : Known) (es : List ℕ) (s : Standing k es) where
    task-sound : (name : Identifier) (b : Body Sequence) → SequenceBuilt b.sequence → ((m : ℕ) → sequence_held m b.sequence k.names es ≡ true)
        → faults_in (task_body_found sequence_found name b k) ≡ [] → sequence_built b.sequence k.names ≡ true
    unfolding task_body_found
    task-sound name b inside h f =
        inside.at (with_around (around.Task (unit_here k name)) k) es (standing-around (around.Task (unit_here k name)) tt k es s) h (none-of _ _ f).1

    pub declaration-sound : (d : Declaration Sequence) → declaration_fits sequence_fits level d ≡ true
        → ((m : ℕ) → declaration_held (sequence_held m) d k.names es ≡ true) → faults_in (declaration_found sequence_found d k) ≡ []
        → declaration_built sequence_built d k.names ≡ true
    unfolding protected_body_found object_found
    declaration-sound (declaration.Object o) e h f = initial-sound k es s o.initial (h 0) _ (none-of _ _ (none-of _ _ f).1).1
    declaration-sound (declaration.Type t) e h f = refl
    declaration-sound (declaration.Subtype x) e h f = refl
    declaration-sound (declaration.Exception names) e h f = refl
    declaration-sound (declaration.Subprogram x) e h f = refl
    declaration-sound (declaration.SubprogramBody x body) e h f = subprogram-sound k es s x body (whole_body-sound body (and_parts _ _ e).1) h f
    declaration-sound (declaration.Task t) e h f = refl
    declaration-sound (declaration.TaskBody place name body) e h f = task-sound name body (whole_body-sound body e) h f
    declaration-sound (declaration.Protected p) e h f = refl
    declaration-sound (declaration.ProtectedBody p) e h f =
        let inside = opened level (operations_fit sequence_fits p.operations) e in
        let inner = with_around (around.Protected (unit_here k p.name)) k in
        all-built inner es (operation_body_found sequence_found) (λ m. operation_body_held (sequence_held m)) (operation_body_fits sequence_fits inside.inner)
        (λ o. operation_body_built sequence_built o k.names)
        (operation-sound inner es (standing-around (around.Protected (unit_here k p.name)) tt k es s) inside.inner inside.less)
        p.operations inside.holds h (none-of _ _ f).1
    declaration-sound (declaration.Use place name) e h f = refl

    pub declarations-sound : (ds : List (Declaration Sequence)) → list_all (declaration_fits sequence_fits level) ds ≡ true
        → ((m : ℕ) → declarations_held (sequence_held m) ds k.names es ≡ true) → faults_in (all_found (declaration_found sequence_found) ds k) ≡ []
        → declarations_built sequence_built ds k.names ≡ true
    declarations-sound ds e h f =
        all-built k es (declaration_found sequence_found) (λ m. declaration_held (sequence_held m)) (declaration_fits sequence_fits level)
        (λ d. declaration_built sequence_built d k.names) declaration-sound ds e h f

  -- ---- sequences

  within-level : (m : ℕ) → suc m ≤ level → (j : ℕ) → j ≤ m → SequencesBuilt j
  within-level m less j le = all j (omega arith)

  module _ (k : Known) (es : List ℕ) (s : Standing k es) where
    one-sound : (x : Statement Sequence) → statement_fits sequence_fits level x ≡ true → ((m : ℕ) → statement_held (sequence_held m) x k.names es ≡ true)
        → faults_in (statement_found sequence_found x k) ≡ [] → statement_built sequence_built x k.names ≡ true
    one-sound x e h f =
        let inside = opened level (parts_fit sequence_fits x) e in
        statement-sound inside.inner (within-level inside.inner inside.less) k es s x inside.holds h f

  -- of the handlers of a sequence
  abbrev HandlersBuilt : List (Handler Sequence) → Type 0
  HandlersBuilt hs =
      (k : Known) (es : List ℕ) → Standing k es → ((m : ℕ) → all_held (handler_held (sequence_held m)) hs k.names es ≡ true)
      → faults_in (all_found (handler_found sequence_found) hs k) ≡ [] → handlers_built sequence_built hs k.names ≡ true

  of-its-parts : (q : Sequence) → all_statements_fit sequence_fits (out-Sequence q).parts level ≡ true → HandlersBuilt (out-Sequence q).parts.handlers
      → list_all (declaration_fits sequence_fits level) (out-Sequence q).parts.declarations ≡ true → SequenceBuilt q
  unfolding parts_found
  of-its-parts q e handled declarations = record {
    at = λ k es s h f.
        (let x = (out-Sequence q).parts in
        let found : faults_in (parts_found sequence_found x k) ≡ [] = sym (ap faults_in (sequence_finds q k)) ∙ f in
        let p = none-of _ _ found in
        let r = none-of _ _ p.1 in
        let t = none-of _ _ r.1 in
        sequence_by_parts q k.names
        ∙ and_from _ _ (declarations-sound k es s x.declarations declarations (λ m. (and_parts _ _ (h (suc m))).0) p.0)
        (and_from _ _
        (all-built k es (statement_found sequence_found) (λ m. statement_held (sequence_held m)) (statement_fits sequence_fits level)
        (λ y. statement_built sequence_built y k.names) (one-sound k es s) (x.statements.first ∷ x.statements.others) e
        (λ m. (let a = and_parts _ _ (h (suc m)) in (and_parts _ _ a.1).0)) r.0)
        (handled k es s (λ m. (let a = and_parts _ _ (h (suc m)) in (and_parts _ _ a.1).1)) t.1)));
  }

  none-fit : (ds : List (Declaration Sequence)) → is_empty ds ≡ true → list_all (declaration_fits sequence_fits level) ds ≡ true
  none-fit [] e = refl
  none-fit (d ∷ ds) e = absurd (false≢true e)

  none-handled : (hs : List (Handler Sequence)) → is_empty hs ≡ true → HandlersBuilt hs
  none-handled [] e k es s h f = refl
  none-handled (x ∷ xs) e k es s h f = absurd (false≢true e)

  -- statements alone have no handlers, so handlers may have them at the same level
  statements-built : (q : Sequence) → sequence_fits q role.Statements level ≡ true → SequenceBuilt q
  statements-built q e =
      let fits = and_parts _ _ (sym (sequence_is_fit q role.Statements level) ∙ e) in
      let behind = and_parts _ _ fits.1 in
      of-its-parts q behind.1 (none-handled (out-Sequence q).parts.handlers behind.0) (none-fit (out-Sequence q).parts.declarations fits.0)

  handlers-sound : (hs : List (Handler Sequence)) → list_all (handler_fits sequence_fits level) hs ≡ true → HandlersBuilt hs
  handlers-sound hs e k es s h f =
      all-built k es (handler_found sequence_found) (λ m. handler_held (sequence_held m)) (handler_fits sequence_fits level)
      (λ x. sequence_built x.statements k.names)
      (λ x fits held found.
      (statements-built x.statements fits).at (with_around around.Handler k) es (standing-around around.Handler tt k es s) held found) hs e h f

  by-role : (q : Sequence) (at : SequenceRole) → sequence_fits_by sequence_fits (out-Sequence q).parts at level ≡ true → SequenceBuilt q
  by-role q role.Statements e =
      let fits = and_parts _ _ e in
      let behind = and_parts _ _ fits.1 in
      of-its-parts q behind.1 (none-handled (out-Sequence q).parts.handlers behind.0) (none-fit (out-Sequence q).parts.declarations fits.0)
  by-role q role.Handled e =
      let fits = and_parts _ _ e in
      let behind = and_parts _ _ fits.1 in
      of-its-parts q behind.0 (handlers-sound (out-Sequence q).parts.handlers behind.1) (none-fit (out-Sequence q).parts.declarations fits.0)
  by-role q role.Body e =
      let fits = and_parts _ _ e in
      let behind = and_parts _ _ fits.1 in
      of-its-parts q behind.0 (handlers-sound (out-Sequence q).parts.handlers behind.1) fits.0

  at-level : SequencesBuilt level
  at-level q at e = by-role q at (sym (sequence_is_fit q at level) ∙ e)

below : (n m : ℕ) → suc m ≤ n → SequencesBuilt m
below zero m less = absurd (omega arith)
below (suc n) m less = at-level m (λ j lower. below n j (omega arith))

pub sequence-sound : (m : ℕ) → SequencesBuilt m
sequence-sound m = below (suc m) m (omega arith)
