-- A predefined function has the actual that it wants, and that is built, where no rule of actuals is broken.
use Rattle.std.proofs.Common.{◌≡◌, ℕ, zero, suc, Bool, true, false, cond, not, ◌&&◌, ◌||◌, List, [], ◌∷◌, map, take, Option}
use Rattle.std.proofs.Common.{Some, None, option_map, is_some, is_none, refl, sym, ap, subst, ◌∙◌, eqb, eqb-true, arith}
use Rattle.std.specs.Prelude.{unwrap_or, codes, bytes_eq}
use Rattle.std.proofs.lemmas.Bool.{and_parts, or_from, false≢true}
use Rattle.std.proofs.lemmas.Slice.Eq.{bytes_eq-Decides}
use Rattle.ann_base.specs.declared.places.Place.{Place}
use Rattle.ada_tree.specs.declared.names.Identifier.{Identifier}
use Rattle.ada_tree.specs.declared.expressions.Argument.{Argument}
use Rattle.ada_regions.specs.declared.predefined.Operation.{Operation}
use Rattle.ada_regions.specs.declared.predefined.Operation.TheVariants as operations
use Rattle.ada_regions.specs.declared.types.AdaType.{AdaType}
use Rattle.ada_regions.specs.declared.types.AdaType.TheVariants as types
use Rattle.ada_regions.specs.declared.types.Mode.TheVariants as mode
use Rattle.ada_regions.specs.PredefinedUnits.{names_of_formals}
use Rattle.ada_image.specs.Layout.{is_thing}
use Rattle.ada_image.specs.TypesOfExpressions.{type_of_operation}
use Rattle.ada_image.specs.ImageOfExpressions.{argument_from, arguments_from, actuals_for, is_for as is_for_formal}
use Rattle.ada_legality.specs.declared.parts.ActualPart.{ActualPart}
use Rattle.ada_legality.specs.declared.parts.FormalPart.{FormalPart}
use Rattle.ada_legality.specs.declared.parts.Wanted.TheVariants as wanting
use Rattle.ada_legality.specs.declared.reading.Asked.{Asked}
use Rattle.ada_legality.specs.declared.reading.Asked.TheVariants as asking
use Rattle.ada_legality.specs.declared.reading.Read.{Read}
use Rattle.ada_legality.specs.declared.reading.Typed.{Typed}
use Rattle.ada_legality.specs.declared.reading.Typed.TheVariants as typing
use Rattle.ada_legality.specs.declared.standing.Known.{Known}
use Rattle.ada_legality.specs.Faults.{faults_in}
use Rattle.ada_legality.specs.Types.{has_type, fits}
use Rattle.ada_legality.specs.Calls.{formals_of_operation, named_parts, formal_names, parts_of_operation, formal_at, given_before, is_for_a_formal}
use Rattle.ada_legality.specs.Calls.{is_misnamed, some_are_named, stray_actuals, some_are_misnamed, all_given, wrong_actuals, is_for, actual_from}
use Rattle.ada_legality.specs.Reading.{Reading, asked_of, value_judged, fitted, actual_wanted, actual_if, actuals_fitted, actuals_numbered, actuals_judged}
use Rattle.ada_legality.specs.ReadExpressions.{arguments_read, same_reading}
use Rattle.ada_image.specs.BuiltExpressions.{Built, same_built, is_there, is_built_if_there, operation_built}
use Rattle.ada_image.specs.Making.{first_given}
use Rattle.image_laws.proofs.Images.Expressions.{argument_of, actuals-mapped}
use Rattle.image_laws.specs.Clear.{Clear, has_values}
use Rattle.image_laws.proofs.Forms.Nothing.{none-of, unless-none}
use Rattle.image_laws.proofs.Forms.Operators.{same-thing, Some-same}
use Rattle.image_laws.proofs.Forms.Operands.{ReadLaw, OperandWell, ArgumentsWell}

-- ---- where a type of values is wanted, no other fits

asked-values : (asked : Asked) (r : Read) (t : AdaType) → is_thing t ≡ false → (typed : Typed) → faults_in (asked_of asked r t typed) ≡ []
    → has_type typed ≡ true → has_values typed ≡ true
unfolding asked_of value_judged fits
asked-values asked r t h typing.WithoutType f p = absurd (false≢true p)
asked-values asked r t h (typing.OfSubtype s) f p = ap not (same-thing s.of_type t (unless-none _ _ r.place f) ∙ h)
asked-values asked r t h typing.OfWholeNumber f p = refl
asked-values asked r t h typing.OfPointedNumber f p = refl
asked-values asked r t h typing.OfText f p = absurd (false≢true (unless-none _ _ r.place f))
asked-values asked r t h typing.OfNull f p = absurd (false≢true (unless-none _ _ r.place f))
asked-values asked r t h (typing.OfHandler e) f p = absurd (false≢true (unless-none _ _ r.place f))

pub fitted-values : (asked : Asked) (r : Read) (t : AdaType) → is_thing t ≡ false → faults_in (fitted asked (Some t) r) ≡ [] → has_type r.typed ≡ true
    → has_values r.typed ≡ true
unfolding fitted
fitted-values asked r t h f p = asked-values asked r t h r.typed f p

-- ---- actuals by number and name

not-first : (x y : Bool) → (not x && y) ≡ true → x ≡ false
not-first true y e = absurd (false≢true e)
not-first false y e = refl

one-named : (formals : List FormalPart) (before : List ActualPart) (formal : Option (List ℕ)) → is_for_a_formal formals before formal ≡ true
    → is_misnamed formals before formal ≡ false
unfolding is_for_a_formal is_misnamed
one-named formals before None e = not-first (some_are_named before) _ e
one-named formals before (Some name) e = ap not e

pub misnamed-none : (formals : List FormalPart) (actuals : List ActualPart) (at : ℕ) (rest : List ActualPart)
    → faults_in (stray_actuals formals actuals at rest) ≡ [] → some_are_misnamed formals actuals at rest ≡ false
unfolding stray_actuals some_are_misnamed
misnamed-none formals actuals at [] e = refl
misnamed-none formals actuals at (a ∷ rest) e =
    let p = none-of _ _ e in
    or_from _ _ (one-named formals (take at actuals) a.formal (unless-none _ _ a.place p.0)) (misnamed-none formals actuals (suc at) rest p.1)

pub or-first : (x y : Bool) → (x || y) ≡ true → y ≡ false → x ≡ true
or-first true y e h = refl
or-first false y e h = sym h ∙ e

pub or-second : (x y : Bool) → (x || y) ≡ true → x ≡ false → y ≡ true
or-second true y e h = absurd (false≢true (sym h))
or-second false y e h = e

-- an actual is given for a formal that may not be omitted
pub given-one : (place : Place) (f : FormalPart) (actuals : List ActualPart) → faults_in (wrong_actuals place (f ∷ []) actuals) ≡ [] → f.may_be_omitted ≡ false
    → given_before (f ∷ []) actuals 0 f.name ≡ true
unfolding wrong_actuals all_given
given-one place f actuals e h =
    let p = none-of _ _ e in
    let all = or-first _ _ (unless-none _ _ place p.0) (misnamed-none (f ∷ []) actuals 0 actuals p.1) in
    or-second f.may_be_omitted (given_before (f ∷ []) actuals 0 f.name) (and_parts _ _ all).0 h

no-first : (n : ℕ) → eqb (suc n) 0 ≡ false
no-first n = go (eqb (suc n) 0) refl
  where
    go : (b : Bool) → eqb (suc n) 0 ≡ b → b ≡ false
    go true q = let h = eqb-true (suc n) 0 q in absurd (omega arith)
    go false q = refl

module _ (f : FormalPart) (named : bytes_eq [] f.name ≡ false) where
  other-way : (text : List ℕ) → bytes_eq text f.name ≡ false → bytes_eq f.name text ≡ false
  other-way text e = go (bytes_eq f.name text) refl
    where
      go : (b : Bool) → bytes_eq f.name text ≡ b → bytes_eq f.name text ≡ false
      go true q = absurd (false≢true (sym e ∙ (bytes_eq-Decides text f.name).1 (sym ((bytes_eq-Decides f.name text).0 q))))
      go false q = q

  by-name : (text : List ℕ) (r : Read) (rest : Option Read) (b g : Bool) → bytes_eq text f.name ≡ b → (bytes_eq f.name text || g) ≡ true
      → (g ≡ true → is_some rest ≡ true) → is_some (cond b (Some r) rest) ≡ true
  by-name text r rest true g q e h = refl
  by-name text r rest false g q e h = h (or-second _ _ e (other-way text q))

  step-from : (formal : Option (List ℕ)) (at : ℕ) (r : Read) (rest : Option Read) (g : Bool)
      → (unwrap_or (option_map (bytes_eq f.name) formal) false || ((is_none formal && bytes_eq (formal_at (f ∷ []) at) f.name) || g)) ≡ true
      → (g ≡ true → is_some rest ≡ true) → is_some (cond (is_for 0 f.name at formal) (Some r) rest) ≡ true
  step-from None zero r rest g e h = refl
  step-from None (suc n) r rest g e h = ap (λ b. is_some (cond b (Some r) rest)) (no-first n) ∙ h (or-second _ _ e named)
  step-from (Some text) at r rest g e h = by-name text r rest (bytes_eq text f.name) g refl e h

  from-given : (actuals : List ActualPart) (at : ℕ) → given_before (f ∷ []) actuals at f.name ≡ true → is_some (actual_from 0 f.name at actuals) ≡ true
  unfolding given_before actual_from
  from-given [] at e = absurd (false≢true e)
  from-given (a ∷ rest) at e =
      step-from a.formal at a.read (actual_from 0 f.name (suc at) rest) (given_before (f ∷ []) rest (suc at) f.name) e (from-given rest (suc at))

-- ---- the actuals that are read are the arguments

pub same-for : (number : ℕ) (name : List ℕ) (at : ℕ) (formal : Option Identifier)
    → is_for number name at (option_map (λ i. i.text) formal) ≡ is_for_formal number name at formal
same-for number name at None = refl
same-for number name at (Some i) = refl

module _ {E : Type 0} (reading : E → Reading) (built : E → Built) (k : Known) where
  abbrev pub actuals_of : List (Argument E) → List ActualPart
  actuals_of xs = (arguments_read same_reading (map (argument_of reading) xs) k).0

  abbrev pub read_of : E → Read
  read_of e = (reading e k).0

  chosen : (b : Bool) (e : E) (s : Option E) → cond b (Some (read_of e)) (option_map read_of s) ≡ option_map read_of (cond b (Some e) s)
  chosen true e s = refl
  chosen false e s = refl

  pub read-from : (number : ℕ) (name : List ℕ) (at : ℕ) (xs : List (Argument E))
      → actual_from number name at (actuals_of xs) ≡ option_map read_of (argument_from number name at xs)
  unfolding actual_from argument_from arguments_read
  read-from number name at [] = refl
  read-from number name at (a ∷ rest) =
      ap (λ b. cond b (Some (read_of a.value)) (actual_from number name (suc at) (actuals_of rest))) (same-for number name at a.formal)
      ∙ ap (λ t. cond (is_for_formal number name at a.formal) (Some (read_of a.value)) t) (read-from number name (suc at) rest)
      ∙ chosen (is_for_formal number name at a.formal) a.value (argument_from number name (suc at) rest)

  abbrev pub Well : E → Type 0
  Well e = OperandWell (reading e k).0 (built e k.names)

  pub well-from : (clear : E → Clear) (law : (e : E) → ReadLaw (reading e) (clear e) (built e)) (number : ℕ) (name : List ℕ) (at : ℕ) (xs : List (Argument E))
      → ArgumentsWell reading clear built law xs k
      → (e : E) → argument_from number name at xs ≡ Some e → Well e
  unfolding argument_from
  well-from clear law number name at [] w e q = absurd cc
  well-from clear law number name at (a ∷ rest) w e q = go (is_for_formal number name at a.formal) (well-from clear law number name (suc at) rest w.1 e) q
    where
      go : (b : Bool) → (argument_from number name (suc at) rest ≡ Some e → Well e) → cond b (Some a.value) (argument_from number name (suc at) rest) ≡ Some e
          → Well e
      go true later h = subst Well (Some-same h) w.0
      go false later h = later h

  -- ---- the one actual of a predefined function

  abbrev one_formal : List ℕ → AdaType → Bool → FormalPart
  one_formal name t omitted = record { name = name; mode = mode.In; wanted = wanting.OfType (Some t); may_be_omitted = omitted }

  abbrev OneBuilt : Bool → Option E → Type 0
  OneBuilt omitted e =
      (omitted ≡ false → is_there same_built (option_map built e) k.names ≡ true) × (is_built_if_there same_built (option_map built e) k.names ≡ true)

  one-actual : (clear : E → Clear) (law : (e : E) → ReadLaw (reading e) (clear e) (built e)) (place : Place) (name : List ℕ) (t : AdaType) (omitted : Bool)
      (xs : List (Argument E))
      → bytes_eq [] name ≡ false
      → is_thing t ≡ false
      → faults_in (actuals_judged k place (one_formal name t omitted ∷ []) (actuals_of xs)) ≡ [] → ArgumentsWell reading clear built law xs k
      → OneBuilt omitted (argument_from 0 name 0 xs)
  unfolding actuals_judged actuals_numbered actuals_fitted actual_wanted
  one-actual clear law place name t omitted xs named h f w =
      let p = none-of _ _ f in
      let q = none-of _ _ p.0 in
      go (argument_from 0 name 0 xs) refl q.0 (none-of _ _ p.1).0
    where
      go : (e : Option E) → argument_from 0 name 0 xs ≡ e → faults_in (wrong_actuals place (one_formal name t omitted ∷ []) (actuals_of xs)) ≡ []
          → faults_in (actual_if k (one_formal name t omitted) (actual_from 0 name 0 (actuals_of xs))) ≡ [] → OneBuilt omitted e
      go None q g u = (
        λ o. absurd (false≢true (sym (ap is_some (read-from 0 name 0 xs ∙ ap (option_map read_of) q))
            ∙ from-given (one_formal name t omitted) named (actuals_of xs) 0 (given-one place (one_formal name t omitted) (actuals_of xs) g o))),
        refl,
      )
      go (Some e) q g u =
          let well = well-from clear law 0 name 0 xs w e q in
          let v =
          fitted-values asking.ForActual (read_of e) t h
          (none-of _ _
          (sym (ap (λ r. faults_in (actual_if k (one_formal name t omitted) r)) (read-from 0 name 0 xs ∙ ap (option_map read_of) q)) ∙ u)).0 well.typed in
          (λ o. well.built v, well.built v)

  first-mapped : (name : List ℕ) (xs : List (Argument E))
      → first_given (actuals_for (name ∷ []) (map (argument_of built) xs)) ≡ option_map built (argument_from 0 name 0 xs)
  unfolding actuals_for arguments_from
  first-mapped name xs = ap first_given (actuals-mapped built (name ∷ []) xs)

  abbrev first_built : List ℕ → List (Argument E) → Option Built
  first_built name xs = first_given (actuals_for (name ∷ []) (map (argument_of built) xs))

  module _ (clear : E → Clear) (law : (e : E) → ReadLaw (reading e) (clear e) (built e)) (place : Place) (is_span : Bool) (xs : List (Argument E))
      (w : ArgumentsWell reading clear built law xs k) where
    -- of an actual that has to be there, and of one that may be
    there : (name : List ℕ) (t : AdaType) → bytes_eq [] name ≡ false → is_thing t ≡ false
        → faults_in (actuals_judged k place (one_formal name t false ∷ []) (actuals_of xs)) ≡ [] → is_there same_built (first_built name xs) k.names ≡ true
    there name t named h f = ap (λ e. is_there same_built e k.names) (first-mapped name xs) ∙ (one-actual clear law place name t false xs named h f w).0 refl

    if-there : (name : List ℕ) (t : AdaType) → bytes_eq [] name ≡ false → is_thing t ≡ false
        → faults_in (actuals_judged k place (one_formal name t true ∷ []) (actuals_of xs)) ≡ []
        → is_built_if_there same_built (first_built name xs) k.names ≡ true
    if-there name t named h f =
        ap (λ e. is_built_if_there same_built e k.names) (first-mapped name xs) ∙ (one-actual clear law place name t true xs named h f w).1

    pub operation-well : (o : Operation) → is_some (type_of_operation o) ≡ true
        → faults_in (actuals_judged k place (formals_of_operation o is_span) (actuals_of xs)) ≡ []
        → operation_built same_built o (actuals_for (names_of_formals o) (map (argument_of built) xs)) k.names ≡ true
    unfolding formals_of_operation named_parts formal_names parts_of_operation
    operation-well operations.Clock s f = refl
    operation-well operations.Microseconds s f = there (codes "us") types.Integer refl refl f
    operation-well operations.Milliseconds s f = there (codes "ms") types.Integer refl refl f
    operation-well operations.Seconds s f = there (codes "s") types.Integer refl refl f
    operation-well operations.Minutes s f = there (codes "m") types.Integer refl refl f
    operation-well operations.ToDuration s f = there (codes "ts") types.TimeSpan refl refl f
    operation-well operations.ToTimeSpan s f = there (codes "d") types.Duration refl refl f
    operation-well operations.CurrentTask s f = refl
    operation-well operations.ExecutionClock s f = if-there (codes "t") types.TaskId refl refl f
    operation-well operations.GetPriority s f = if-there (codes "t") types.TaskId refl refl f
    operation-well operations.GetDeadline s f = if-there (codes "t") types.TaskId refl refl f
    operation-well operations.TimeOfEvent s f = refl
    operation-well operations.TimeRemaining s f = refl
    operation-well operations.BudgetHasExpired s f = refl
    operation-well operations.BudgetRemaining s f = refl
    operation-well operations.PortValue s f = there (codes "n") types.Integer refl refl f
    operation-well _ s f = absurd cc
