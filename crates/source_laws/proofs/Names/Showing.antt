-- What the table says that a package exports is what its declaration declares.
use Rattle.std.proofs.Common.{◌≡◌, ◌⊎◌, inl, inr, ℕ, suc, Bool, true, false, not, ◌&&◌, List, [], ◌∷◌, length, Option, Some}
use Rattle.std.proofs.Common.{None, option_map, eqb, bytes_eq, find, refl, sym, ap, subst, ◌∙◌, arith, eqb-true, eq-eqb}
use Rattle.std.proofs.lemmas.Bool.{and_parts}
use Rattle.world_tables.specs.Tables.{item_at}
use Rattle.ada_tree.specs.declared.names.Identifier.{Identifier}
use Rattle.ada_regions.specs.declared.entities.Denoted.TheVariants as denotes
use Rattle.ada_regions.specs.declared.entities.Entity.{Entity}
use Rattle.ada_regions.specs.declared.table.Binding.{Binding}
use Rattle.ada_regions.specs.declared.table.Names.{Names}
use Rattle.ada_regions.specs.Words.{and_then}
use Rattle.ada_regions.specs.Names.{region_of_entity}
use Rattle.ada_regions.specs.Visibility.{bound, exports_name, exported_from, visible_in}
use Rattle.ada_regions.specs.Regions.{package_named}
use Rattle.ada_regions.specs.Occurrences.{Occurrence, the_package, package_region, begins, declares, declares_unit, completes}
use Rattle.ada_regions.specs.Numbered.{last_priority_of}
use Rattle.source_laws.specs.Positions.{Before, Stands, around, around_outside, nearest, end_of}
use Rattle.source_laws.specs.Declarations.{declares_name, body_completes}
use Rattle.source_laws.specs.Regions.{number_of, number_of_innermost, first_or_none, package_declared, bodies_complete_before}
use Rattle.source_laws.specs.DirectNames.{is_declared, place_declared, meaning_if_seen}
use Rattle.source_laws.specs.UseClauses.{begun_at, exports_here, exported_by_package}
use Rattle.source_laws.specs.Tables.{table_at}
use Rattle.source_laws.specs.Denoted.{told_meaning}
use Rattle.source_laws.specs.NameLaws.{ExportsByPosition}
use Rattle.source_laws.proofs.Names.PositionLemmas.{false-true, stands-here, stands-tail, stands-trans}
use Rattle.source_laws.proofs.Names.PositionLemmas.{first-stands, outside-behind, nearest-stands, nearest-holds}
use Rattle.source_laws.proofs.Names.Texts.{IsText}
use Rattle.source_laws.proofs.Names.Kept.{known_at}
use Rattle.source_laws.proofs.Names.KeptBindings.{entity_number}
use Rattle.source_laws.proofs.Names.KeptSteps.{Kept}
use Rattle.source_laws.proofs.Names.KeptBodies.{PackageSought, package_there, no_package, package-sought, next-stands}
use Rattle.source_laws.proofs.Names.KeptWaiting.{package-waits}
use Rattle.source_laws.proofs.Names.Exports.{said_shown, same_length}
use Rattle.source_laws.proofs.Names.ExportsAll.{nothing-exported, exports-kept}
use Rattle.source_laws.proofs.Names.Lawful.{kept-in, text-stands, complete-stands}
use Rattle.source_laws.proofs.Names.UnitTexts.{unit-text}

-- what is exported is declared
module _ (home : ℕ) (u c : Before) (stands : Stands u c) (long : length u ≡ home) (number : number_of u ≡ home) (name : List ℕ) where
  outside-number : (b : Before) → Stands b c → begun_at home (around_outside b) ≡ true → number_of_innermost (around_outside b) ≡ home
  outside-number b s e =
      let first : Stands (first_or_none (around_outside b)) c =
      stands-trans (first_or_none (around_outside b)) b c (subst (λ bs. Stands (first_or_none bs) b) (sym (outside-behind b)) (first-stands 1 b)) s in
      ap number_of (same_length (first_or_none (around_outside b)) u c first stands (eqb-true _ home e ∙ sym long)) ∙ number

  and-true : (a b : Bool) → a ≡ true → b ≡ true → (a && b) ≡ true
  and-true true b e f = f
  and-true false b e f = absurd (false-true e)

  declared-shown : (o : Occurrence) (b : Before) → Stands (o ∷ b) c → exports_here home name o b ≡ true
      → (region : ℕ) × (declares_name number_of_innermost region name o b ≡ true)
  declared-shown (declares i what) b s e = (
    number_of_innermost (around b),
    and-true (bytes_eq i.text name) _ (and_parts (bytes_eq i.text name) _ e).0
        (eq-eqb (number_of_innermost (around b)) (number_of_innermost (around b)) refl),
  )
  declared-shown (completes i q) b s e =
      let named = and_parts (bytes_eq i.text name) _ e in
      let there = and_parts (begun_at home (around_outside b)) _ named.1 in
      let anew = and_parts (not (body_completes number_of_innermost home name b)) _ there.1 in (
        home,
        and-true (bytes_eq i.text name) _ named.0
            (and-true (eqb (number_of_innermost (around_outside b)) home) _
            (eq-eqb (number_of_innermost (around_outside b)) home (outside-number b (stands-tail (completes i q) b c s) there.0)) anew.0),
      )
  declared-shown _ b s e = absurd (false-true e)

  -- told by the table of a later position
  shown-meant : (last : ℕ) (later : Before) → Stands c later → Kept last later → (d : Option Before) → nearest (exports_here home name) c ≡ d
      → option_map (λ x. told_meaning (table_at last later) (Some x)) (option_map denotes.Entity (option_map (entity_number last) d))
      ≡ and_then d (λ x. option_map is_declared (place_declared x))
  shown-meant last later up k None e = refl
  shown-meant last later up k (Some []) e = absurd (nearest-holds (exports_here home name) c [] e)
  shown-meant last later up k (Some (o ∷ b)) e =
      let s = nearest-stands (exports_here home name) c (o ∷ b) e in
      let declared = declared-shown o b s (nearest-holds (exports_here home name) c (o ∷ b) e) in
      let x = k.entities.there o b (stands-trans (o ∷ b) c later s up) declared.0 name declared.1 in
      ap (λ y. Some (meaning_if_seen (option_map (λ (z : Entity). z.place) y))) x.1 ∙ ap (option_map is_declared) (sym x.2.place)

bound-entity : (x : Option Binding) → and_then x bound ≡ option_map denotes.Entity (and_then x (λ b. b.entity))
bound-entity None = refl
bound-entity (Some b) = refl

package-shows : (last : ℕ) (c later : Before) (i : Identifier) (b : Before) (name : List ℕ) → IsText c → Stands c later → Kept last later
    → Stands (declares_unit i the_package ∷ b) c
    → option_map (λ x. told_meaning (table_at last later) (Some x))
    (option_map denotes.Entity (said_shown last c (suc (length (declares_unit i the_package ∷ b))) name))
    ≡ exported_by_package (suc (length (declares_unit i the_package ∷ b))) name c
package-shows last c later i b name t up k s = go (next-stands c (declares_unit i the_package) b (package_region i) t s refl)
  where
    go : (declares_unit i the_package ∷ b ≡ c) ⊎ Stands (begins (package_region i) ∷ declares_unit i the_package ∷ b) c
        → option_map (λ x. told_meaning (table_at last later) (Some x))
        (option_map denotes.Entity (said_shown last c (suc (length (declares_unit i the_package ∷ b))) name))
        ≡ exported_by_package (suc (length (declares_unit i the_package ∷ b))) name c
    go (inl e) =
        let long : length (declares_unit i the_package ∷ b) ≡ length c = ap length e in
        let none : nearest (exports_here (suc (length (declares_unit i the_package ∷ b))) name) c ≡ None =
        nothing-exported (suc (length (declares_unit i the_package ∷ b))) name c (omega arith) in
        ap (λ d. option_map (λ x. told_meaning (table_at last later) (Some x)) (option_map denotes.Entity (option_map (entity_number last) d))) none
        ∙ ap (λ d. and_then d (λ x. option_map is_declared (place_declared x))) (sym none)
    go (inr u) =
        shown-meant (suc (length (declares_unit i the_package ∷ b))) (begins (package_region i) ∷ declares_unit i the_package ∷ b) c u refl
        (package-waits last i b).number name last later up k
        (nearest (exports_here (suc (length (declares_unit i the_package ∷ b))) name) c) refl

-- what a package that stands before shows
pub package-visible : (last : ℕ) (c later : Before) (i : Identifier) (b : Before) (name : List ℕ) → IsText c → bodies_complete_before c ≡ true → Stands c later
    → Kept last later → Stands (declares_unit i the_package ∷ b) c
    → region_of_entity (table_at last c) (length (known_at last b).entities) ≡ Some (known_at last b).regions
    → option_map (λ d. told_meaning (table_at last later) (Some d)) (visible_in (table_at last c) name (denotes.Entity (length (known_at last b).entities)))
    ≡ exported_by_package (suc (length (declares_unit i the_package ∷ b))) name c
unfolding visible_in exported_from
package-visible last c later i b name t complete up k s region =
    let n : Names = table_at last c in
    ap (λ x. option_map (λ d. told_meaning (table_at last later) (Some d)) (and_then x (exported_from n name))) region
    ∙ (ap (option_map (λ d. told_meaning (table_at last later) (Some d)))
    (bound-entity (and_then (item_at (known_at last b).regions n.bindings) (find (exports_name name))))
    ∙ (ap (λ x. option_map (λ d. told_meaning (table_at last later) (Some d)) (option_map denotes.Entity x)) (exports-kept last c t complete i b s name)
    ∙ package-shows last c later i b name t up k s))

pub exports_by_position : ExportsByPosition
unfolding visible_in exported_from
exports_by_position unit complete c s package_name name = go (package-sought last package_name c k)
  where
    last : ℕ
    last = last_priority_of unit.pragmas

    k : Kept (last_priority_of unit.pragmas) c
    k = kept-in unit c complete s

    go : PackageSought (last_priority_of unit.pragmas) package_name c
        → option_map (λ d. told_meaning (table_at (last_priority_of unit.pragmas) c) (Some d))
        (and_then (package_named (table_at (last_priority_of unit.pragmas) c) package_name)
        (λ e. visible_in (table_at (last_priority_of unit.pragmas) c) name (denotes.Entity e)))
        ≡ and_then (package_declared number_of_innermost package_name c) (λ d. exported_by_package (suc (length d)) name c)
    go (package_there i b f e) =
        let p = last_priority_of unit.pragmas in
        let n : Names = table_at p c in
        ap (λ x. option_map (λ d. told_meaning n (Some d)) (and_then x (λ y. visible_in n name (denotes.Entity y)))) f.named
        ∙ (package-visible p c c i b name (text-stands c (end_of unit) s (unit-text unit)) (complete-stands c (end_of unit) s complete)
        (stands-here c) k f.stands f.region
        ∙ ap (λ x. and_then x (λ d. exported_by_package (suc (length d)) name c)) (sym e))
    go (no_package named e) =
        ap (λ x. option_map (λ d. told_meaning (table_at (last_priority_of unit.pragmas) c) (Some d))
        (and_then x (λ y. visible_in (table_at (last_priority_of unit.pragmas) c) name (denotes.Entity y)))) named
        ∙ ap (λ x. and_then x (λ d. exported_by_package (suc (length d)) name c)) (sym e)
