-- The actuals of a call of what the source declares are built, where no rule of actuals is broken.
use Rattle.std.proofs.Common.{◌≡◌, ℕ, suc, Bool, true, false, cond, not, ◌&&◌, List, [], ◌∷◌, ◌++◌}
use Rattle.std.proofs.Common.{map, Option, Some, None, option_map, is_some, refl, sym, ap, subst, ◌∙◌}
use Rattle.std.specs.Prelude.{⊤, unwrap_or}
use Rattle.std.specs.List.{list_all}
use Rattle.std.proofs.lemmas.Bool.{and_from, and_parts, false≢true}
use Rattle.ann_base.specs.declared.places.Place.{Place}
use Rattle.ada_tree.specs.declared.expressions.Expression.{Expression}
use Rattle.ada_tree.specs.declared.expressions.Argument.{Argument}
use Rattle.ada_regions.specs.declared.entities.Denoted.{Denoted}
use Rattle.ada_regions.specs.declared.entities.Denoted.TheVariants as denotes
use Rattle.ada_regions.specs.declared.entities.EntityKind.{EntityKind}
use Rattle.ada_regions.specs.declared.entities.EntityKind.TheVariants as entity
use Rattle.ada_regions.specs.declared.types.Formal.{Formal}
use Rattle.ada_regions.specs.declared.types.Mode.{Mode}
use Rattle.ada_regions.specs.declared.types.Mode.TheVariants as mode
use Rattle.ada_regions.specs.declared.types.Subtype.{Subtype}
use Rattle.ada_regions.specs.Names.{denoted_by, kind_at}
use Rattle.ada_regions.specs.Words.{and_then}
use Rattle.ada_image.specs.Layout.{is_thing, subtype_is}
use Rattle.ada_image.specs.ImageOfExpressions.{argument_from, arguments_from, actuals_for, is_for as is_for_formal}
use Rattle.ada_image.specs.ImageOfCalls.{names_of}
use Rattle.ada_legality.specs.declared.parts.ActualPart.{ActualPart}
use Rattle.ada_legality.specs.declared.parts.FormalPart.{FormalPart}
use Rattle.ada_legality.specs.declared.reading.Asked.TheVariants as asking
use Rattle.ada_legality.specs.declared.reading.Read.{Read}
use Rattle.ada_legality.specs.declared.standing.Known.{Known}
use Rattle.ada_legality.specs.Faults.{faults_in}
use Rattle.ada_legality.specs.Types.{has_type}
use Rattle.ada_legality.specs.Calls.{actual_from, all_given, formal_part, formals_denoted, formals_of_kind, is_given, wanted_subtype, wrong_actuals}
use Rattle.ada_legality.specs.CallStatements.{call_found, call_judged, line_if_put}
use Rattle.ada_legality.specs.Places.{place_of}
use Rattle.ada_legality.specs.Values.{denoted_kind, denotes_procedure}
use Rattle.ada_legality.specs.Reading.{actual_if, actual_wanted, actuals_fitted, actuals_judged, actuals_numbered, assigning_actual, shape_is_variable}
use Rattle.ada_legality.specs.ReadExpressions.{arguments_read, read_expression}
use Rattle.ada_image.specs.BuiltExpressions.{expression_built}
use Rattle.ada_image.specs.BuiltStatements.{actual_built, actuals_built, arguments_built, denoted_call_built, entity_call_built, mode_built, variable_built}
use Rattle.image_laws.specs.Clear.{arguments_clear, expression_clear, formals_clear, names_clear, types_clear}
use Rattle.image_laws.specs.Laws.{ReadActualsBuilt, ReadCallsBuilt, called_clear}
use Rattle.image_laws.proofs.Forms.Nothing.{none-of, if-none, unless-none}
use Rattle.image_laws.proofs.Forms.Operands.{OperandWell, no-call, well-operand}
use Rattle.image_laws.proofs.Forms.Actuals.{fitted-values, misnamed-none, or-first, same-for}
use Rattle.image_laws.proofs.Forms.FormalNames.{Spread, given-found, spread}
use Rattle.image_laws.proofs.Forms.Expressions.{expression-law}
use Rattle.image_laws.proofs.Forms.Variables.{variable-well}
use Rattle.image_laws.proofs.Forms.Operators.{Some-same}

module _ (k : Known) where
  abbrev pub read_of : Expression → Read
  read_of e = (read_expression e k).0

  abbrev pub actuals_of : List (Argument Expression) → List ActualPart
  actuals_of xs = (arguments_read read_expression xs k).0

  -- an argument: an operand, and as a variable built
  pub record Sound (e : Expression) : Type 0 where
    pub operand : OperandWell (read_expression e k).0 (expression_built e k.names)
    pub variable : shape_is_variable (read_expression e k).0.shape ≡ true → variable_built e k.names ≡ true

  abbrev pub Sounds : List (Argument Expression) → Type 0
  Sounds [] = ⊤
  Sounds (a ∷ rest) = Sound a.value × Sounds rest

  pub sounds : (xs : List (Argument Expression)) → faults_in (arguments_read read_expression xs k).1 ≡ [] → arguments_clear expression_clear xs k ≡ true
      → Sounds xs
  unfolding arguments_read
  sounds [] f c = tt
  sounds (a ∷ rest) f c =
      let parts = and_parts _ _ c in
      let p = none-of _ _ f in
      let q = none-of _ _ p.1 in (
        record {
          operand = well-operand ((expression-law a.value).at k p.0 parts.0) (no-call (read_of a.value) q.0);
          variable = variable-well a.value k p.0 parts.0;
        },
        sounds rest q.1 parts.1,
      )

  -- ---- the actual of a formal

  chosen : (b : Bool) (e : Expression) (s : Option Expression) → cond b (Some (read_of e)) (option_map read_of s) ≡ option_map read_of (cond b (Some e) s)
  chosen true e s = refl
  chosen false e s = refl

  pub found-from : (number : ℕ) (name : List ℕ) (at : ℕ) (xs : List (Argument Expression))
      → actual_from number name at (actuals_of xs) ≡ option_map read_of (argument_from number name at xs)
  unfolding actual_from argument_from arguments_read
  found-from number name at [] = refl
  found-from number name at (a ∷ rest) =
      ap (λ b. cond b (Some (read_of a.value)) (actual_from number name (suc at) (actuals_of rest))) (same-for number name at a.formal)
      ∙ ap (λ t. cond (is_for_formal number name at a.formal) (Some (read_of a.value)) t) (found-from number name (suc at) rest)
      ∙ chosen (is_for_formal number name at a.formal) a.value (argument_from number name (suc at) rest)

  pub sound-from : (number : ℕ) (name : List ℕ) (at : ℕ) (xs : List (Argument Expression)) → Sounds xs → (e : Expression)
      → argument_from number name at xs ≡ Some e → Sound e
  unfolding argument_from
  sound-from number name at [] w e q = absurd cc
  sound-from number name at (a ∷ rest) w e q = go (is_for_formal number name at a.formal) (sound-from number name (suc at) rest w.1 e) q
    where
      go : (b : Bool) → (argument_from number name (suc at) rest ≡ Some e → Sound e) → cond b (Some a.value) (argument_from number name (suc at) rest) ≡ Some e
          → Sound e
      go true later h = subst Sound (Some-same h) w.0
      go false later h = later h

  -- ---- what is asked of it

  is-variable : (x y : Bool) → x ≡ true → (x && not y) ≡ false → y ≡ true
  is-variable true true p q = refl
  is-variable true false p q = absurd cc
  is-variable false y p q = absurd (false≢true p)

  pub assigned-sound : (e : Expression) → Sound e → faults_in (assigning_actual k (read_of e)) ≡ [] → variable_built e k.names ≡ true
  unfolding assigning_actual
  assigned-sound e w f =
      w.variable
      (is-variable (has_type (read_of e).typed) (shape_is_variable (read_of e).shape) w.operand.typed (if-none _ _ (read_of e).place (none-of _ _ f).0))

  mode-sound : (m : Mode) (e : Expression) (s : Subtype) → is_thing s.of_type ≡ false → Sound e
      → faults_in (actual_wanted k m (wanted_subtype (Some s)) (read_of e)) ≡ [] → mode_built m e k.names ≡ true
  unfolding actual_wanted
  mode-sound mode.In e s h w f = w.operand.built (fitted-values asking.ForActual (read_of e) s.of_type h (none-of _ _ f).0 w.operand.typed)
  mode-sound mode.Out e s h w f = assigned-sound e w (none-of _ _ f).1
  mode-sound mode.InOut e s h w f = assigned-sound e w (none-of _ _ f).1

  wanted-sound : (s : Option Subtype) (m : Mode) (e : Expression) → is_some s ≡ true → Sound e
      → faults_in (actual_wanted k m (wanted_subtype s) (read_of e)) ≡ [] → cond (subtype_is is_thing s) true (mode_built m e k.names) ≡ true
  wanted-sound None m e t w f = absurd (false≢true t)
  wanted-sound (Some s) m e t w f = go (is_thing s.of_type) refl
    where
      go : (b : Bool) → is_thing s.of_type ≡ b → cond b true (mode_built m e k.names) ≡ true
      go true q = refl
      go false q = mode-sound m e s q w f

  -- ---- all formals

  module _ (xs : List (Argument Expression)) (w : Sounds xs) (whole : List FormalPart) where
    one-sound : (f : Formal) (number : ℕ) → is_some (actual_from number f.name 0 (actuals_of xs)) ≡ true → is_some f.subtype ≡ true
        → faults_in (actual_if k (formal_part f) (actual_from number f.name 0 (actuals_of xs))) ≡ []
        → actual_built f (argument_from number f.name 0 xs) k.names ≡ true
    one-sound f number t s n = go (argument_from number f.name 0 xs) refl
      where
        go : (e : Option Expression) → argument_from number f.name 0 xs ≡ e → actual_built f e k.names ≡ true
        go None q = absurd (false≢true (sym (ap is_some (found-from number f.name 0 xs ∙ ap (option_map read_of) q)) ∙ t))
        go (Some e) q =
            wanted-sound f.subtype f.mode e s (sound-from number f.name 0 xs w e q)
            (sym (ap (λ r. faults_in (actual_if k (formal_part f) r)) (found-from number f.name 0 xs ∙ ap (option_map read_of) q)) ∙ n)

    each-sound : (fs : List Formal) (number : ℕ) → Spread whole number (map formal_part fs)
        → list_all (is_given whole (actuals_of xs)) (map formal_part fs) ≡ true
        → faults_in (actuals_fitted k number (map formal_part fs) (actuals_of xs)) ≡ [] → types_clear fs ≡ true
        → actuals_built fs (arguments_from number (names_of fs) xs) k.names ≡ true
    unfolding actuals_fitted arguments_from
    each-sound [] number s g n t = refl
    each-sound (f ∷ fs) number s g n t =
        let given = and_parts _ _ g in
        let typed = and_parts _ _ t in
        let p = none-of _ _ n in
        and_from _ _ (one-sound f number (given-found whole number f.name s.0 (actuals_of xs) 0 given.0) typed.0 p.0)
        (each-sound fs (suc number) s.1 given.1 p.1 typed.1)

pub all-there : (place : Place) (formals : List FormalPart) (actuals : List ActualPart) → faults_in (wrong_actuals place formals actuals) ≡ []
    → list_all (is_given formals actuals) formals ≡ true
unfolding wrong_actuals all_given
all-there place formals actuals e =
    let p = none-of _ _ e in
    or-first _ _ (unless-none _ _ place p.0) (misnamed-none formals actuals 0 actuals p.1)

same-names : (fs : List Formal) → map (λ (f : FormalPart). f.name) (map formal_part fs) ≡ names_of fs
same-names [] = refl
same-names (f ∷ fs) = ap (λ ns. f.name ∷ ns) (same-names fs)

pub actuals-sound : (k : Known) (place : Place) (formals : List Formal) (xs : List (Argument Expression)) → formals_clear formals ≡ true
    → arguments_clear expression_clear xs k ≡ true
    → faults_in (arguments_read read_expression xs k).1 ≡ []
    → faults_in (actuals_judged k place (map formal_part formals) (arguments_read read_expression xs k).0) ≡ [] → arguments_built formals xs k.names ≡ true
unfolding actuals_judged actuals_numbered actuals_for
actuals-sound k place formals xs c a f g =
    let clear = and_parts _ _ c in
    let q = none-of _ _ g in
    each-sound k xs (sounds k xs f a) (map formal_part formals) formals 0 (spread (map formal_part formals) (ap names_clear (same-names formals) ∙ clear.0))
    (all-there place (map formal_part formals) (arguments_read read_expression xs k).0 (none-of _ _ q.0).0) q.1 clear.1

pub read_actuals_built : ReadActualsBuilt
read_actuals_built k place formals xs c a f = let p = none-of _ _ f in actuals-sound k place formals xs c a p.0 p.1

-- ---- call statements

module _ (k : Known) (place : Place) (xs : List (Argument Expression)) (a : arguments_clear expression_clear xs k ≡ true)
    (f : faults_in (arguments_read read_expression xs k).1 ≡ []) where
  entity-called : (kind : Option EntityKind) → called_clear kind ≡ true
      → faults_in (actuals_judged k place (unwrap_or (option_map formals_of_kind kind) []) (actuals_of k xs)) ≡ []
      → unwrap_or (option_map (λ x. entity_call_built xs x k.names) kind) false ≡ true
  unfolding formals_of_kind
  entity-called (Some (entity.Subprogram number is_function specified formals unit)) c g = actuals-sound k place formals xs c a f g
  entity-called (Some (entity.Entry number unit formals)) c g = actuals-sound k place formals xs c a f g
  entity-called (Some entity.Main) c g = refl
  entity-called _ c g = absurd (false≢true c)

  denoted-called : (d : Option Denoted) → called_clear (and_then d (denoted_kind k.names)) ≡ true → unwrap_or (option_map (denotes_procedure k) d) false ≡ true
      → faults_in (unwrap_or (option_map (call_judged k place (actuals_of k xs)) d) []) ≡ [] → denoted_call_built xs d k.names ≡ true
  unfolding call_judged formals_denoted
  denoted-called None c m g = absurd (false≢true c)
  denoted-called (Some (denotes.Unit u)) c m g = absurd (false≢true c)
  denoted-called (Some (denotes.Item u item)) c m g = absurd (false≢true c)
  denoted-called (Some (denotes.Entity e)) c m g =
      entity-called (kind_at k.names e) c
      (none-of (line_if_put place (actuals_of k xs) (denotes.Entity e)) _
      (sym (ap (λ b. faults_in
      (cond b (line_if_put place (actuals_of k xs) (denotes.Entity e)
      ++ actuals_judged k place (formals_denoted k (actuals_of k xs) (denotes.Entity e)) (actuals_of k xs)) [])) m)
      ∙ g)).1

pub read_calls_built : ReadCallsBuilt
unfolding call_found
read_calls_built k c clear a f =
    let p = none-of _ _ f in
    let q = none-of _ _ p.1 in
    denoted-called k (place_of c.name) c.arguments a q.0 (denoted_by k.names c.name) clear (unless-none _ _ _ p.0) q.1
