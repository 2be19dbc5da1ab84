-- The moment of a Set_Handler that legality reads is that of its image.
use Rattle.std.proofs.Common.{◌≡◌, ℕ, suc, Bool, true, false, cond, not, ◌&&◌, ◌||◌, List, [], ◌∷◌, Option}
use Rattle.std.proofs.Common.{Some, None, option_map, is_some, refl, sym, ap, ◌∙◌, eqb, eqb-true, arith}
use Rattle.std.specs.Prelude.{codes, bytes_eq, length, ltb}
use Rattle.std.proofs.lemmas.Bool.{and_parts, false≢true}
use Rattle.std.proofs.lemmas.Slice.Eq.{bytes_eq-Decides}
use Rattle.ada_tree.specs.declared.names.Identifier.{Identifier}
use Rattle.ada_tree.specs.declared.expressions.Expression.{Expression}
use Rattle.ada_tree.specs.declared.expressions.Argument.{Argument}
use Rattle.ada_regions.specs.declared.table.Names.{Names}
use Rattle.std.specs.Option.{option_or}
use Rattle.ada_image.specs.ImageOfExpressions.{argument_from, is_for}
use Rattle.ada_image.specs.ImageOfProcedures.{moment_of}
use Rattle.ada_image.specs.BuiltStatements.{value_there}
use Rattle.ada_legality.specs.declared.parts.ActualPart.{ActualPart}
use Rattle.ada_legality.specs.declared.parts.FormalPart.{FormalPart}
use Rattle.ada_legality.specs.declared.standing.Known.{Known}
use Rattle.ada_legality.specs.Calls.{is_for_a_formal, names_formal, stray_actuals}
use Rattle.ada_legality.specs.Faults.{faults_in}
use Rattle.ada_legality.specs.ReadExpressions.{argument_part, arguments_read, read_expression}
use Rattle.image_laws.proofs.Forms.Nothing.{none-of, unless-none}
use Rattle.image_laws.proofs.Forms.Calls.{actuals_of}

abbrev at_time : List (Argument Expression) → ℕ → Option Expression
at_time xs at = argument_from 1 (codes "at_time") at xs

abbrev in_time : List (Argument Expression) → ℕ → Option Expression
in_time xs at = argument_from 1 (codes "in_time") at xs

-- a name that no formal has is that of no actual, where none is stray
other-name : (whole : List FormalPart) (other name : List ℕ) → names_formal whole other ≡ false → names_formal whole name ≡ true → bytes_eq name other ≡ false
other-name whole other name n f = go (bytes_eq name other) refl
  where
    go : (b : Bool) → bytes_eq name other ≡ b → b ≡ false
    go true q = absurd (false≢true (sym n ∙ sym (ap (names_formal whole) ((bytes_eq-Decides name other).0 q)) ∙ f))
    go false q = refl

late-place : (n : ℕ) → eqb (suc (suc n)) 1 ≡ false
late-place n = go (eqb (suc (suc n)) 1) refl
  where
    go : (b : Bool) → eqb (suc (suc n)) 1 ≡ b → b ≡ false
    go true q = let h = eqb-true (suc (suc n)) 1 q in absurd (omega arith)
    go false q = refl

module _ (k : Known) (whole : List FormalPart) (foreign : names_formal whole (codes "at_time") ≡ false) where
  -- an actual that has a name is not for a moment
  not-named : (before : List ActualPart) (i : Identifier) → is_for_a_formal whole before (Some i.text) ≡ true → bytes_eq i.text (codes "at_time") ≡ false
  unfolding is_for_a_formal
  not-named before i f = other-name whole (codes "at_time") i.text foreign (and_parts _ _ f).0

  not-late : (n : ℕ) (before : List ActualPart) (formal : Option Identifier)
      → is_for_a_formal whole before (option_map (λ (i : Identifier). i.text) formal) ≡ true → is_for 1 (codes "at_time") (suc (suc n)) formal ≡ false
  not-late n before None f = late-place n
  not-late n before (Some i) f = not-named before i f

  none-late : (before : List ActualPart) (n : ℕ) (xs : List (Argument Expression)) → faults_in (stray_actuals whole before (suc (suc n)) (actuals_of k xs)) ≡ []
      → at_time xs (suc (suc n)) ≡ None
  unfolding stray_actuals argument_from arguments_read
  none-late before n [] e = refl
  none-late before n (a ∷ rest) e =
      let p = none-of _ _ e in
      ap (λ b. cond b (Some a.value) (at_time rest (suc (suc (suc n))))) (not-late n _ a.formal (unless-none _ _ _ p.0)) ∙ none-late before (suc n) rest p.1

  abbrev Same : Option Expression → Option Expression → Type 0
  Same a b = option_or a b ≡ b

  from-none : (a b : Option Expression) → a ≡ None → Same a b
  from-none a b e = ap (λ x. option_or x b) e

  abbrev text_of : Option Identifier → Option (List ℕ)
  text_of formal = option_map (λ (i : Identifier). i.text) formal

  -- one actual, and the first two of more, by the names of their formals: none without a name stands behind one that has one
  alone : (a : Argument Expression) (formal : Option Identifier) → is_for_a_formal whole [] (text_of formal) ≡ true
      → Same (cond (is_for 1 (codes "at_time") 0 formal) (Some a.value) None) (cond (is_for 1 (codes "in_time") 0 formal) (Some a.value) None)
  alone a None f = refl
  alone a (Some i) f = from-none _ _ (ap (λ t. cond t (Some a.value) None) (not-named [] i f))

  first-two : (a b : Argument Expression) (rest : List (Argument Expression)) (before : ActualPart) (p q : Option Identifier) → before.formal ≡ text_of p
      → is_for_a_formal whole [] (text_of p) ≡ true → is_for_a_formal whole (before ∷ []) (text_of q) ≡ true → at_time rest 2 ≡ None
      → Same (cond (is_for 1 (codes "at_time") 0 p) (Some a.value) (cond (is_for 1 (codes "at_time") 1 q) (Some b.value) (at_time rest 2)))
      (cond (is_for 1 (codes "in_time") 0 p) (Some a.value) (cond (is_for 1 (codes "in_time") 1 q) (Some b.value) (in_time rest 2)))
  unfolding is_for_a_formal
  first-two a b rest before None None is f g e = refl
  first-two a b rest before None (Some j) is f g e = from-none _ _ (ap (λ t. cond t (Some b.value) (at_time rest 2)) (not-named (before ∷ []) j g) ∙ e)
  first-two a b rest before (Some i) None is f g e = absurd (false≢true (sym (ap (λ n. not (is_some n || false) && ltb 1 (length whole)) is) ∙ g))
  first-two a b rest before (Some i) (Some j) is f g e =
      from-none _ _ (ap (λ t. cond t (Some a.value) (cond (bytes_eq j.text (codes "at_time")) (Some b.value) (at_time rest 2))) (not-named [] i f)
      ∙ (ap (λ t. cond t (Some b.value) (at_time rest 2)) (not-named (before ∷ []) j g) ∙ e))

  moment-same : (xs : List (Argument Expression)) → faults_in (stray_actuals whole (actuals_of k xs) 0 (actuals_of k xs)) ≡ []
      → Same (at_time xs 0) (in_time xs 0)
  unfolding stray_actuals argument_from arguments_read
  moment-same [] e = refl
  moment-same (a ∷ []) e = alone a a.formal (unless-none _ _ _ (none-of _ _ e).0)
  moment-same (a ∷ b ∷ rest) e =
      let p = none-of _ _ e in
      let q = none-of _ _ p.1 in
      first-two a b rest (argument_part read_expression a (read_expression a.value k).0) a.formal b.formal refl (unless-none _ _ _ p.0) (unless-none _ _ _ q.0)
      (none-late (actuals_of k (a ∷ b ∷ rest)) 0 rest q.1)

  -- ---- the moment is built

  pub span-built : (xs : List (Argument Expression)) → faults_in (stray_actuals whole (actuals_of k xs) 0 (actuals_of k xs)) ≡ []
      → value_there (in_time xs 0) k.names ≡ true → value_there (moment_of xs) k.names ≡ true
  unfolding moment_of
  span-built xs e v = ap (λ x. value_there x k.names) (moment-same xs e) ∙ v

first-there : (a b : Option Expression) (n : Names) → value_there a n ≡ true → value_there (option_or a b) n ≡ true
first-there None b n v = absurd (false≢true v)
first-there (Some e) b n v = v

pub moment-built : (xs : List (Argument Expression)) (n : Names) → value_there (at_time xs 0) n ≡ true → value_there (moment_of xs) n ≡ true
unfolding moment_of
moment-built xs n v = first-there (at_time xs 0) (in_time xs 0) n v
