-- A source that breaks no rule is built, where its table is clear.
use Rattle.std.proofs.Common.{◌≡◌, ℕ, ◌≤◌, suc, Bool, true, false, cond, List, [], ◌∷◌, ◌++◌, Option, Some, None, refl}
use Rattle.std.specs.Prelude.{unwrap_or}
use Rattle.std.specs.List.{list_all}
use Rattle.std.proofs.lemmas.Bool.{false≢true, and_from, and_parts}
use Rattle.world_tables.specs.Lists.{first_of}
use Rattle.ada_tree.specs.declared.declarations.Declaration.{Declaration}
use Rattle.ada_tree.specs.declared.statements.Sequence.{Sequence}
use Rattle.ada_tree.specs.declared.statements.SequenceRole.TheVariants as role
use Rattle.ada_tree.specs.declared.units.LibraryPackage.{LibraryPackage}
use Rattle.ada_tree.specs.declared.units.MainProcedure.{MainProcedure}
use Rattle.ada_tree.specs.declared.units.Package.{Package}
use Rattle.ada_tree.specs.declared.units.Package.TheVariants as packages
use Rattle.ada_tree.specs.declared.units.Unit.{Unit as Tree}
use Rattle.ada_tree.specs.declared.units.TheConstants.{MAX_NESTING}
use Rattle.ada_tree.specs.ShapeExpressions.{optional_fits}
use Rattle.ada_tree.specs.Shape.{declarations_fit, is_shaped, library_package_fits, main_fits, package_fits, package_parts_fit, package_statements_fit}
use Rattle.ada_tree.specs.Shape.{unit_fits}
use Rattle.ada_regions.specs.NamesInUnits.{names_in_unit}
use Rattle.ada_regions.specs.Numbered.{names_of}
use Rattle.ada_image.specs.BuiltSequences.{declaration_built, declarations_built, sequence_built, sequence_if_built}
use Rattle.ada_image.specs.BuiltUnits.{package_built, unit_built}
use Rattle.ada_legality.specs.declared.faults.Fault.{Fault}
use Rattle.ada_legality.specs.declared.standing.Around.TheVariants as around
use Rattle.ada_legality.specs.declared.standing.Known.{Known}
use Rattle.ada_legality.specs.CallStatements.{found_if}
use Rattle.ada_legality.specs.Declarations.{sequence_found}
use Rattle.ada_legality.specs.Faults.{comes_before, fault_put, faults_in, faults_of, faults_where, first_fault_of, found_of, in_order_of_text, same_fault}
use Rattle.ada_legality.specs.Faults.{walked}
use Rattle.ada_legality.specs.SimpleStatements.{function_around, with_around}
use Rattle.ada_legality.specs.Units.{known_of, library_package_found, main_found, package_body_found, package_declaration_found}
use Rattle.ada_legality.specs.Units.{package_found, part_found, units_found}
use Rattle.image_laws.proofs.Forms.Nothing.{none-of}
use Rattle.form_laws.specs.Tables.{ClearTable}
use Rattle.form_laws.specs.Laws.{UnitsBuilt, known_in}
use Rattle.form_laws.specs.Loops.{declarations_held, held_if, library_package_held, package_held, sequence_held, unit_held}
use Rattle.form_laws.proofs.Sequences.{declarations-sound, sequence-sound, whole_body-sound}
use Rattle.form_laws.proofs.Standing.{Standing, standing-around}
use Rattle.form_laws.proofs.Statements.{SequencesBuilt}
use Rattle.form_laws.proofs.Values.{all-built, built-if, opened}

-- ---- no fault is told, so none is found

put-some : (f : Fault) (gs : List Fault) → fault_put f gs ≡ [] → ⊥
put-some f [] e = cc
put-some f (g ∷ gs) e = go (same_fault f g) (comes_before f g) e
  where
    go : (t u : Bool) → cond t (g ∷ gs) (cond u (f ∷ g ∷ gs) (g ∷ fault_put f gs)) ≡ [] → ⊥
    go true u q = cc
    go false true q = cc
    go false false q = cc

ordered-none : (fs : List Fault) → first_of (in_order_of_text fs) ≡ None → fs ≡ []
ordered-none [] e = refl
ordered-none (f ∷ fs) e = absurd (put-some f (in_order_of_text fs) (first-none (fault_put f (in_order_of_text fs)) e))
  where
    first-none : (gs : List Fault) → first_of gs ≡ None → gs ≡ []
    first-none [] q = refl
    first-none (g ∷ gs) q = cc

none-found : (unit : Tree) → first_fault_of unit ≡ None → faults_in (found_of unit (names_of unit) (names_in_unit unit)) ≡ []
unfolding faults_of faults_where
none-found unit e = ordered-none (faults_in (found_of unit (names_of unit) (names_in_unit unit))) e

-- ---- packages

all-appended : {X : Type 0} (f : X → Bool) (xs ys : List X) → list_all f xs ≡ true → list_all f ys ≡ true → list_all f (xs ++ ys) ≡ true
all-appended f [] ys p q = q
all-appended f (x ∷ xs) ys p q = let h = and_parts _ _ p in and_from _ _ h.0 (all-appended f xs ys h.1 q)

module _ (level : ℕ) (k : Known) (es : List ℕ) (s : Standing k es) where
  every : (m : ℕ) → suc m ≤ level → SequencesBuilt m
  every m less = sequence-sound m

  inner : Known
  inner = with_around around.Package k

  part-sound : (ds : List (Declaration Sequence)) → declarations_fit level ds ≡ true → ((m : ℕ) → declarations_held (sequence_held m) ds k.names es ≡ true)
      → faults_in (part_found ds (with_around around.Package k)) ≡ [] → declarations_built sequence_built ds k.names ≡ true
  part-sound ds e h f = declarations-sound level every (with_around around.Package k) es (standing-around around.Package tt k es s) ds e h f

  private-sound : (o : Option (List (Declaration Sequence))) → optional_fits (declarations_fit level) o ≡ true
      → ((m : ℕ) → held_if (declarations_held (sequence_held m)) o k.names es ≡ true) → faults_in (found_if part_found o (with_around around.Package k)) ≡ []
      → declarations_built sequence_built (unwrap_or o []) k.names ≡ true
  private-sound None e h f = refl
  private-sound (Some ds) e h f = part-sound ds e h f

  statements-sound : (q : Sequence) → package_statements_fit level q ≡ true → ((m : ℕ) → sequence_held m q k.names es ≡ true)
      → faults_in (sequence_found q (with_around around.Package k)) ≡ [] → sequence_built q k.names ≡ true
  statements-sound q e h f = (sequence-sound level q role.Handled e).at (with_around around.Package k) es (standing-around around.Package tt k es s) h f

  body-sound : (q : Option Sequence) → optional_fits (package_statements_fit level) q ≡ true
      → ((m : ℕ) → held_if (sequence_held m) q k.names es ≡ true) → faults_in (found_if sequence_found q (with_around around.Package k)) ≡ []
      → sequence_if_built sequence_built q k.names ≡ true
  body-sound q e h f =
      built-if (with_around around.Package k) es sequence_found sequence_held (package_statements_fit level) sequence_built statements-sound q e h f

package-sound : (level : ℕ) (k : Known) (es : List ℕ) → Standing k es → (p : Package) → package_fits level p ≡ true
    → ((m : ℕ) → package_held m p k.names es ≡ true) → faults_in (package_found p k) ≡ [] → package_built p k.names ≡ true
unfolding package_declaration_found package_body_found
package-sound level k es s (packages.Declaration p) e h f =
    let fits = and_parts _ _ e in
    let r = none-of _ _ f in
    all-appended (λ d. declaration_built sequence_built d k.names) p.declarations (unwrap_or p.private [])
    (part-sound level k es s p.declarations fits.0 (λ m. (and_parts _ _ (h m)).0) r.0)
    (private-sound level k es s p.private fits.1 (λ m. (and_parts _ _ (h m)).1) r.1)
package-sound level k es s (packages.Body p) e h f =
    let inside = opened level (package_parts_fit p) e in
    let fits = and_parts _ _ inside.holds in
    let r = none-of _ _ f in
    and_from _ _ (part-sound inside.inner k es s p.declarations fits.0 (λ m. (and_parts _ _ (h m)).0) r.0)
    (body-sound inside.inner k es s p.sequence fits.1 (λ m. (and_parts _ _ (h m)).1) r.1)

-- ---- units

module _ (level : ℕ) (k : Known) (es : List ℕ) (s : Standing k es) where
  library-sound : (l : LibraryPackage) → library_package_fits level l ≡ true → ((m : ℕ) → library_package_held m l k.names es ≡ true)
      → faults_in (library_package_found l k) ≡ [] → package_built l.package k.names ≡ true
  unfolding library_package_found
  library-sound l e h f = package-sound level k es s l.package e h (none-of _ _ f).1

  main-sound : (m : MainProcedure) → main_fits level m ≡ true → ((j : ℕ) → sequence_held j m.body.sequence k.names es ≡ true)
      → faults_in (main_found m k) ≡ [] → sequence_built m.body.sequence k.names ≡ true
  unfolding main_found
  main-sound m e h f =
      (whole_body-sound level (λ j less. sequence-sound j) m.body (and_parts _ _ e).1).at (with_around around.Main k) es
      (standing-around around.Main tt k es s) h (none-of (_ ∷ []) _ (none-of _ _ f).1).1

  unit-sound : (unit : Tree) → unit_fits level unit ≡ true → ((m : ℕ) → unit_held m unit k.names es ≡ true) → faults_in (units_found unit k) ≡ []
      → unit_built unit k.names ≡ true
  unfolding units_found
  unit-sound unit e h f =
      let fits = and_parts _ _ (and_parts _ _ e).1 in
      let p = none-of _ _ f in
      and_from _ _
      (all-built k es library_package_found library_package_held (library_package_fits level) (λ l. package_built l.package k.names) library-sound
      unit.packages fits.0 (λ m. (and_parts _ _ (h m)).0) p.0)
      (main-sound unit.main fits.1 (λ m. (and_parts _ _ (h m)).1) (none-of _ _ p.1).1)

at-first : (unit : Tree) → ClearTable (known_in unit) → Standing (known_in unit) []
unfolding known_of function_around
at-first unit t = record { table = t; loops = λ e h. absurd (false≢true h); result = refl }

pub units_built : UnitsBuilt
unfolding known_of is_shaped found_of walked
units_built unit shaped t loops none =
    unit-sound MAX_NESTING (known_in unit) [] (at-first unit t) unit shaped loops (none-of _ _ (none-found unit none)).0
