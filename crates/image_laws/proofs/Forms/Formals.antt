-- The actual of each formal of a predefined subprogram is there, where it has to be, and is what its formal wants.
use Rattle.std.proofs.Common.{◌≡◌, ℕ, suc, Bool, true, false, List, [], ◌∷◌, map, Option, Some, None, option_map, is_some, refl, sym, ap, ◌∙◌}
use Rattle.std.specs.Prelude.{⊤}
use Rattle.std.specs.List.{list_all}
use Rattle.std.proofs.lemmas.Bool.{and_parts, false≢true}
use Rattle.ann_base.specs.declared.places.Place.{Place}
use Rattle.ada_tree.specs.declared.expressions.Expression.{Expression}
use Rattle.ada_tree.specs.declared.expressions.Argument.{Argument}
use Rattle.ada_regions.specs.declared.types.AdaType.{AdaType}
use Rattle.ada_regions.specs.declared.types.Mode.TheVariants as mode
use Rattle.ada_image.specs.Layout.{is_thing}
use Rattle.ada_image.specs.ImageOfExpressions.{argument_from}
use Rattle.ada_image.specs.BuiltExpressions.{expression_built}
use Rattle.ada_image.specs.BuiltStatements.{value_if_there, value_there, variable_there}
use Rattle.ada_legality.specs.declared.parts.FormalPart.{FormalPart}
use Rattle.ada_legality.specs.declared.parts.Wanted.TheVariants as wanting
use Rattle.ada_legality.specs.declared.reading.Asked.TheVariants as asking
use Rattle.ada_legality.specs.declared.standing.Known.{Known}
use Rattle.ada_legality.specs.Calls.{actual_from, is_given}
use Rattle.ada_legality.specs.Faults.{faults_in}
use Rattle.ada_legality.specs.Reading.{actual_if, actual_wanted, actuals_fitted, actuals_judged, actuals_numbered}
use Rattle.image_laws.specs.Clear.{names_clear}
use Rattle.image_laws.proofs.Forms.Nothing.{none-of}
use Rattle.image_laws.proofs.Forms.Actuals.{fitted-values, or-second}
use Rattle.image_laws.proofs.Forms.FormalNames.{Only, Spread, given-found, spread}
use Rattle.image_laws.proofs.Forms.Calls.{Sounds, actuals_of, all-there, assigned-sound, found-from, read_of, sound-from}

module _ (k : Known) (xs : List (Argument Expression)) (w : Sounds k xs) where
  -- ---- what no broken rule says of a formal

  pub record Fits (number : ℕ) (f : FormalPart) : Type 0 where
    pub there : f.may_be_omitted ≡ false → is_some (argument_from number f.name 0 xs) ≡ true
    pub wanted : (e : Expression) → argument_from number f.name 0 xs ≡ Some e → faults_in (actual_wanted k f.mode f.wanted (read_of k e)) ≡ []

  abbrev pub AllFit : ℕ → List FormalPart → Type 0
  AllFit number [] = ⊤
  AllFit number (f ∷ fs) = Fits number f × AllFit (suc number) fs

  some-argument : (e : Option Expression) → is_some (option_map (read_of k) e) ≡ true → is_some e ≡ true
  some-argument None s = absurd (false≢true s)
  some-argument (Some e) s = refl

  module _ (whole : List FormalPart) where
    fits : (f : FormalPart) (number : ℕ) → Only whole number f.name → is_given whole (actuals_of k xs) f ≡ true
        → faults_in (actual_if k f (actual_from number f.name 0 (actuals_of k xs))) ≡ [] → Fits number f
    fits f number only g n = record {
      there = λ o. some-argument (argument_from number f.name 0 xs)
          (sym (ap is_some (found-from k number f.name 0 xs)) ∙ given-found whole number f.name only (actuals_of k xs) 0 (or-second _ _ g o));
      wanted = λ e q. sym (ap (λ r. faults_in (actual_if k f r)) (found-from k number f.name 0 xs ∙ ap (option_map (read_of k)) q)) ∙ n;
    }

    each-fits : (fs : List FormalPart) (number : ℕ) → Spread whole number fs → list_all (is_given whole (actuals_of k xs)) fs ≡ true
        → faults_in (actuals_fitted k number fs (actuals_of k xs)) ≡ [] → AllFit number fs
    unfolding actuals_fitted
    each-fits [] number s g n = tt
    each-fits (f ∷ fs) number s g n =
        let given = and_parts _ _ g in
        let p = none-of _ _ n in
        (fits f number s.0 given.0 p.0, each-fits fs (suc number) s.1 given.1 p.1)

  pub all-fit : (place : Place) (whole : List FormalPart) → names_clear (map (λ (f : FormalPart). f.name) whole) ≡ true
      → faults_in (actuals_judged k place whole (actuals_of k xs)) ≡ [] → AllFit 0 whole
  unfolding actuals_judged actuals_numbered
  all-fit place whole c n =
      let p = none-of _ _ n in
      each-fits whole whole 0 (spread whole c) (all-there place whole (actuals_of k xs) (none-of _ _ p.0).0) p.1

  -- ---- values and variables

  module _ (number : ℕ) (name : List ℕ) (t : AdaType) (omitted : Bool) where
    abbrev value_formal : FormalPart
    value_formal = record { name = name; mode = mode.In; wanted = wanting.OfType (Some t); may_be_omitted = omitted }

    abbrev variable_formal : FormalPart
    variable_formal = record { name = name; mode = mode.Out; wanted = wanting.OfType (Some t); may_be_omitted = omitted }

    value-built : is_thing t ≡ false → Fits number value_formal → (e : Expression) → argument_from number name 0 xs ≡ Some e → expression_built e k.names ≡ true
    unfolding actual_wanted
    value-built h f e q =
        let sound = sound-from k number name 0 xs w e q in
        sound.operand.built (fitted-values asking.ForActual (read_of k e) t h (none-of _ _ (f.wanted e q)).0 sound.operand.typed)

    variable-built : Fits number variable_formal → (e : Expression) → argument_from number name 0 xs ≡ Some e → variable_there (Some e) k.names ≡ true
    unfolding actual_wanted
    variable-built f e q = assigned-sound k e (sound-from k number name 0 xs w e q) (none-of _ _ (f.wanted e q)).1

    pub value-fits : is_thing t ≡ false → omitted ≡ false → Fits number value_formal → value_there (argument_from number name 0 xs) k.names ≡ true
    value-fits h o f = go (argument_from number name 0 xs) refl
      where
        go : (e : Option Expression) → argument_from number name 0 xs ≡ e → value_there e k.names ≡ true
        go None q = absurd (false≢true (sym (ap is_some q) ∙ f.there o))
        go (Some e) q = value-built h f e q

    pub value-if-fits : is_thing t ≡ false → Fits number value_formal → value_if_there (argument_from number name 0 xs) k.names ≡ true
    value-if-fits h f = go (argument_from number name 0 xs) refl
      where
        go : (e : Option Expression) → argument_from number name 0 xs ≡ e → value_if_there e k.names ≡ true
        go None q = refl
        go (Some e) q = value-built h f e q

    pub variable-fits : omitted ≡ false → Fits number variable_formal → variable_there (argument_from number name 0 xs) k.names ≡ true
    variable-fits o f = go (argument_from number name 0 xs) refl
      where
        go : (e : Option Expression) → argument_from number name 0 xs ≡ e → variable_there e k.names ≡ true
        go None q = absurd (false≢true (sym (ap is_some q) ∙ f.there o))
        go (Some e) q = variable-built f e q
