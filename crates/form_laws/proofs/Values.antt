-- Conditions, delays, loops and choices that break no rule are built, where the table is clear; and lists of what is.
use Rattle.std.proofs.Common.{◌≡◌, ℕ, ◌≤◌, zero, suc, Bool, true, List, [], ◌∷◌, ◌++◌, Option, Some, None, refl, arith}
use Rattle.std.specs.List.{flat_map, list_all}
use Rattle.std.proofs.lemmas.Bool.{and_from, and_parts}
use Rattle.ann_base.specs.declared.places.Place.{Place}
use Rattle.ada_tree.specs.declared.expressions.Expression.{Expression}
use Rattle.ada_tree.specs.declared.selects.Guard.{Guard}
use Rattle.ada_tree.specs.declared.selects.Trigger.{Trigger}
use Rattle.ada_tree.specs.declared.selects.Trigger.TheVariants as trigger
use Rattle.ada_tree.specs.declared.statements.Call.{Call}
use Rattle.ada_tree.specs.declared.statements.Choice.{Choice}
use Rattle.ada_tree.specs.declared.statements.Choice.TheVariants as choice
use Rattle.ada_tree.specs.declared.statements.Delay.{Delay}
use Rattle.ada_tree.specs.declared.statements.Iteration.{Iteration}
use Rattle.ada_tree.specs.declared.statements.Iteration.TheVariants as iteration
use Rattle.ada_tree.specs.ShapeExpressions.{optional_fits, within}
use Rattle.ada_image.specs.BuiltExpressions.{Built, expression_built}
use Rattle.ada_image.specs.BuiltSequences.{sequence_if_built}
use Rattle.ada_image.specs.BuiltStatements.{call_statement_built, choice_built, choices_built, iteration_built, trigger_built, value_if_there}
use Rattle.ada_image.specs.ImageOfStatements.{guard_of}
use Rattle.ada_legality.specs.declared.standing.Known.{Known}
use Rattle.ada_legality.specs.declared.parts.ChoicePart.{ChoicePart}
use Rattle.ada_legality.specs.Choices.{case_judged}
use Rattle.ada_legality.specs.CallStatements.{all_found, condition_found, found_if, value_found}
use Rattle.ada_legality.specs.Faults.{fault_in, faults_in}
use Rattle.ada_legality.specs.Findings.{Found}
use Rattle.ada_legality.specs.ReadExpressions.{read_expression}
use Rattle.ada_legality.specs.SimpleStatements.{delay_found, entry_call_found, guard_found, iteration_found, trigger_found}
use Rattle.image_laws.specs.Laws.{iteration_clear}
use Rattle.image_laws.proofs.Forms.Nothing.{none-of}
use Rattle.image_laws.proofs.Forms.StatementValues.{read_conditions_built, read_delays_built, read_iterations_built, read_selectors_built}
use Rattle.form_laws.specs.Loops.{Held, all_held, call_held, guard_held, held_if, iteration_held, trigger_held, value_held}
use Rattle.form_laws.proofs.Parts.{call-sound}
use Rattle.form_laws.proofs.Standing.{Standing, static-given, value-clear}

-- ---- what is found in two parts

none-behind : (a b : Found) → flat_map fault_in a ≡ [] → flat_map fault_in b ≡ [] → flat_map fault_in (a ++ b) ≡ []
none-behind [] b p q = q
none-behind (f ∷ a) b p q = go (fault_in f) p (λ h. none-behind a b h q)
  where
    go : {X : Type 0} (xs : List X) {ys zs : List X} → (xs ++ ys) ≡ [] → (ys ≡ [] → zs ≡ []) → (xs ++ zs) ≡ []
    go [] e h = h e
    go (x ∷ xs) e h = absurd cc

pub none-both : (a b : Found) → faults_in a ≡ [] → faults_in b ≡ [] → faults_in (a ++ b) ≡ []
unfolding faults_in
none-both a b p q = none-behind a b p q

-- ---- what takes a level leaves one less

pub record Opened (left : ℕ) (fits : ℕ → Bool) : Type 0 where
  pub inner : ℕ
  pub less : suc inner ≤ left
  pub holds : fits inner ≡ true

pub opened : (left : ℕ) (fits : ℕ → Bool) → within left fits ≡ true → Opened left fits
opened zero fits e = cc
opened (suc left) fits e = record { inner = left; less = omega arith; holds = e }

-- ---- lists and options of what is built

module _ {X : Type 0} (k : Known) (es : List ℕ) (g : X → Known → Found) (held : ℕ → X → Held) (fits : X → Bool) (built : X → Bool)
    (each : (x : X) → fits x ≡ true → ((m : ℕ) → held m x k.names es ≡ true) → faults_in (g x k) ≡ [] → built x ≡ true) where
  pub all-built : (xs : List X) → list_all fits xs ≡ true → ((m : ℕ) → all_held (held m) xs k.names es ≡ true) → faults_in (all_found g xs k) ≡ []
      → list_all built xs ≡ true
  all-built [] e h f = refl
  all-built (x ∷ xs) e h f =
      let p = none-of _ _ f in
      and_from _ _ (each x (and_parts _ _ e).0 (λ m. (and_parts _ _ (h m)).0) p.0)
      (all-built xs (and_parts _ _ e).1 (λ m. (and_parts _ _ (h m)).1) p.1)

pub built-if : {Q : Type 0} (k : Known) (es : List ℕ) (g : Q → Known → Found) (held : ℕ → Q → Held) (fits : Q → Bool) (built : Q → Built)
    → ((q : Q) → fits q ≡ true → ((m : ℕ) → held m q k.names es ≡ true) → faults_in (g q k) ≡ [] → built q k.names ≡ true)
    → (q : Option Q) → optional_fits fits q ≡ true → ((m : ℕ) → held_if (held m) q k.names es ≡ true) → faults_in (found_if g q k) ≡ []
    → sequence_if_built built q k.names ≡ true
built-if k es g held fits built each None e h f = refl
built-if k es g held fits built each (Some q) e h f = each q e h f

-- ---- conditions, delays, loops, triggers and guards

module _ (k : Known) (es : List ℕ) (s : Standing k es) where
  pub condition-sound : (e : Expression) → value_held e k.names es ≡ true → faults_in (condition_found e k) ≡ [] → expression_built e k.names ≡ true
  unfolding condition_found
  condition-sound e h f = read_conditions_built k e (value-clear k es s e h (none-of _ _ f).0) f

  pub condition-if : (e : Option Expression) → held_if value_held e k.names es ≡ true → faults_in (found_if condition_found e k) ≡ []
      → value_if_there e k.names ≡ true
  condition-if None h f = refl
  condition-if (Some e) h f = condition-sound e h f

  pub guard-sound : (g : Option Guard) → held_if guard_held g k.names es ≡ true → faults_in (found_if guard_found g k) ≡ []
      → value_if_there (guard_of g) k.names ≡ true
  guard-sound None h f = refl
  guard-sound (Some g) h f = condition-sound g.condition h f

  pub delay-sound : (d : Delay) → value_held d.value k.names es ≡ true → faults_in (delay_found d k) ≡ [] → expression_built d.value k.names ≡ true
  unfolding delay_found value_found
  delay-sound d h f = read_delays_built k d (value-clear k es s d.value h (none-of _ _ (none-of _ _ f).1).0) f

  iteration-known : (place : Place) (i : Iteration) → iteration_held i k.names es ≡ true → faults_in (iteration_found place i k) ≡ []
      → iteration_clear i k ≡ true
  unfolding iteration_found condition_found
  iteration-known place iteration.Forever h f = refl
  iteration-known place (iteration.While at condition) h f = value-clear k es s condition h (none-of _ _ f).0
  iteration-known place (iteration.For at i reverse low high) h f =
      let parts = and_parts _ _ h in
      let p = none-of _ _ (none-of _ _ f).1 in
      let q = none-of _ _ p.1 in
      and_from _ _ (value-clear k es s low parts.0 p.0) (value-clear k es s high parts.1 q.0)

  pub iteration-sound : (place : Place) (i : Iteration) → iteration_held i k.names es ≡ true → faults_in (iteration_found place i k) ≡ []
      → iteration_built i k.names ≡ true
  iteration-sound place i h f = read_iterations_built k place i (iteration-known place i h f) f

  pub selector-sound : (place : Place) (e : Expression) (choices : List ChoicePart) → value_held e k.names es ≡ true
      → faults_in (read_expression e k).1 ≡ [] → faults_in (case_judged k place (read_expression e k).0 choices) ≡ [] → expression_built e k.names ≡ true
  selector-sound place e choices h f g = read_selectors_built k place e choices (value-clear k es s e h f) (none-both _ _ f g)

  choice-sound : (c : Choice) → choice_built c k.names ≡ true
  choice-sound (choice.Value v) = static-given k s.table v
  choice-sound (choice.Range low high) = and_from _ _ (static-given k s.table low) (static-given k s.table high)
  choice-sound (choice.Others place) = refl

  pub choices-sound : (cs : List Choice) → choices_built cs k.names ≡ true
  choices-sound [] = refl
  choices-sound (c ∷ cs) = and_from _ _ (choice-sound c) (choices-sound cs)

  pub entry_call-sound : (c : Call) → call_held c k.names es ≡ true → faults_in (entry_call_found c k) ≡ [] → call_statement_built c k.names ≡ true
  unfolding entry_call_found
  entry_call-sound c h f = call-sound k es s c h (none-of _ _ f).0

  pub trigger-sound : (t : Trigger) → trigger_held t k.names es ≡ true → faults_in (trigger_found t k) ≡ [] → trigger_built t k.names ≡ true
  unfolding trigger_found
  trigger-sound (trigger.Call c) h f = call-sound k es s c h (none-of _ _ f).0
  trigger-sound (trigger.Delay d) h f = delay-sound d h f
