-- On the way through a text each package keeps showing what its declaration declares.
use Rattle.std.proofs.Common.{◌≡◌, ◌⊎◌, inl, inr, ℕ, ◌≤◌, ◌<◌, suc, Bool, true, false, cond, not, ◌&&◌, List, [], ◌∷◌, length, Option}
use Rattle.std.proofs.Common.{Some, None, is_some, option_map, eqb, bytes_eq, find, refl, sym, ap, subst, ◌∙◌, arith, eqb-true, ne_eqb}
use borrow.Author.Tests.{eqb-false}
use Rattle.std.proofs.lemmas.Slice.Eq.{bytes_eq-Decides}
use Rattle.std.proofs.lemmas.Bool.{and_parts}
use Rattle.world_tables.specs.Tables.{item_at}
use Rattle.ada_tree.specs.declared.names.Identifier.{Identifier}
use Rattle.ada_tree.specs.declared.declarations.SubprogramSpecification.{SubprogramSpecification}
use Rattle.ada_regions.specs.declared.table.Binding.{Binding}
use Rattle.ada_regions.specs.Words.{and_then}
use Rattle.ada_regions.specs.Names.{binding_in, bound_in, region_here}
use Rattle.ada_regions.specs.Visibility.{exports_name}
use Rattle.ada_regions.specs.Occurrences.{Occurrence, Declared, Region, the_package, the_main_procedure, a_derived_type, a_task, a_protected}
use Rattle.ada_regions.specs.Occurrences.{package_region, begins, ends, private_from_here, hides, heads, declares, declares_unit, completes}
use Rattle.ada_regions.specs.Occurrences.{is_called, mentions, mentions_simply, mentions_entry, with_unit, use_package}
use Rattle.ada_regions.specs.Declaring.{hidden}
use Rattle.ada_regions.specs.Completions.{completed_in, headed}
use Rattle.ada_regions.specs.Regions.{library_unit}
use Rattle.ada_regions.specs.Numbered.{behind}
use Rattle.source_laws.specs.Positions.{Before, Stands, around, around_outside, around_behind, nearest}
use Rattle.source_laws.specs.Declarations.{body_completes}
use Rattle.source_laws.specs.Regions.{number_of_innermost, first_or_none, bodies_complete_before, completes_if_body}
use Rattle.source_laws.specs.UseClauses.{is_private_behind, begun_at, exports_here}
use Rattle.source_laws.specs.Tables.{table_at}
use Rattle.source_laws.proofs.Names.PositionLemmas.{false-true, none-some, stands-here, stands-start, stands-tail}
use Rattle.source_laws.proofs.Names.PositionLemmas.{stands-length, first-stands, outside-behind, first-length, nearest-none}
use Rattle.source_laws.proofs.Names.Known.{Known, known, innermost, outside, with_bound, known-resolved, known-name_resolved, known-entry_mentioned}
use Rattle.source_laws.proofs.Names.Known.{known-withed, known-used, known-ended, known-made_private, known-named_as, known-hidden}
use Rattle.source_laws.proofs.Names.KnownDeclared.{region_behind_it, IsInner, known-declared, known-package_declared}
use Rattle.source_laws.proofs.Names.KnownDeclared.{known-main_declared, known-completed, known-body_declared}
use Rattle.source_laws.proofs.Names.Texts.{IsText, FitsBehind, FitsHere, begins_next}
use Rattle.source_laws.proofs.Names.Kept.{known_at, here_at, next_region, next_by}
use Rattle.source_laws.proofs.Names.KeptBindings.{item-other, told_of, entity_number}
use Rattle.source_laws.proofs.Names.KeptSteps.{Kept, next-settled}
use Rattle.source_laws.proofs.Names.KeptWaiting.{task-waits, protected-waits, derived-waits, package-waits}
use Rattle.source_laws.proofs.Names.KeptBodies.{next-stands, begun-stands}
use Rattle.source_laws.proofs.Names.KeptAll.{kept, beyond, home, Completing, completed-cases}
use Rattle.source_laws.proofs.Names.Flags.{FlagsKept, flags-kept}
use Rattle.source_laws.proofs.Names.Untouched.{begun-binds}
use Rattle.source_laws.proofs.Names.Exports.{shown, said_shown, Begun, flag-here, flag-outside, flag-first}
use Rattle.source_laws.proofs.Names.Exports.{not-there, exports-same, exports-bound, exports-hidden}

-- what the package that i and b declare shows
abbrev pub ExportsOf : ℕ → Before → Identifier → Before → Type 0
ExportsOf last before i b =
    (name : List ℕ) → shown last before (known_at last b).regions name ≡ said_shown last before (suc (length (declares_unit i the_package ∷ b))) name

abbrev pub ExportsKept : ℕ → Before → Type 0
ExportsKept last before = (i : Identifier) (b : Before) → Stands (declares_unit i the_package ∷ b) before → ExportsOf last before i b

-- ---- the region of a package has begun, but for a moment

package-begun : (last : ℕ) (i : Identifier) (b before : Before) → IsText before → begins_next before ≡ None → Stands (declares_unit i the_package ∷ b) before
    → Begun last (known_at last b).regions (suc (length (declares_unit i the_package ∷ b))) (begins (package_region i) ∷ declares_unit i the_package ∷ b) before
package-begun last i b before t settled s =
    let w = package-waits last i b in
    record {
      stands = begun-stands before (declares_unit i the_package) b (package_region i) t settled s refl;
      shown_there = refl;
      there = ap (λ os. (innermost os).region) w.opened;
      number = w.number;
      long = refl;
    }

-- ---- a package that is declared here shows nothing yet

pub nothing-exported : (number : ℕ) (name : List ℕ) (before : Before) → length before < number → nearest (exports_here number name) before ≡ None
nothing-exported number name before lt = nearest-none (exports_here number name) before none
  where
    late : (passed : ℕ) (b : Before) → Stands b before → eqb (length (first_or_none (around_behind passed b))) number ≡ false
    late passed b s = ne_eqb _ _ (λ e. (let f = first-length passed b in let l = stands-length b before s in omega arith))

    and-false : (x t y : Bool) → t ≡ false → (x && (t && y)) ≡ false
    and-false true true y e = absurd (false-true (sym e))
    and-false true false y e = refl
    and-false false t y e = refl

    none : (o : Occurrence) (b : Before) → Stands (o ∷ b) before → exports_here number name o b ≡ false
    none (declares i what) b s = and-false (bytes_eq i.text name) _ _ (late 0 b (stands-tail (declares i what) b before s))
    none (completes i q) b s =
        and-false (bytes_eq i.text name) _ _ (ap (λ bs. begun_at number bs) (outside-behind b) ∙ late 1 b (stands-tail (completes i q) b before s))
    none _ b s = refl

-- ---- occurrences that bind nothing

exports-quiet : (last : ℕ) (o : Occurrence) (before : Before) → ((i : Identifier) (b : Before) → declares_unit i the_package ∷ b ≡ o ∷ before → ⊥)
    → ExportsKept last before
    → (known_at last (o ∷ before)).bindings ≡ (known_at last before).bindings → ((home : ℕ) (name : List ℕ) → exports_here home name o before ≡ false)
    → ExportsKept last (o ∷ before)
exports-quiet last o before other k same none i b (inl e) name = absurd (other i b e)
exports-quiet last o before other k same none i b (inr s) name =
    exports-same last o before (known_at last b).regions (suc (length (declares_unit i the_package ∷ b))) name (ap (item_at (known_at last b).regions) same)
    (none _ name) (k i b s name)

abbrev is_unit_declared : Before → Bool
is_unit_declared [] = false
is_unit_declared (declares_unit i the_package ∷ b) = true
is_unit_declared (_ ∷ b) = false

no-unit : (o : Occurrence) (before : Before) → is_unit_declared (o ∷ before) ≡ false → (i : Identifier) (b : Before)
    → declares_unit i the_package ∷ b ≡ o ∷ before → ⊥
no-unit o before none i b e = clash (sym none ∙ sym (ap is_unit_declared e))
  where
    clash : false ≡ true → ⊥
    clash q = cc

-- ---- declarations

swapped : (x n : Bool) → (x && n) ≡ (n && x)
swapped true true = refl
swapped true false = refl
swapped false true = refl
swapped false false = refl

never-there : (n g y : Bool) → g ≡ false → (n && (g && y)) ≡ false
never-there true true y e = absurd (false-true (sym e))
never-there true false y e = refl
never-there false g y e = refl

exports-declares : (last : ℕ) (i : Identifier) (what : Declared) (before : Before) → IsInner what → IsText before → begins_next before ≡ None → Kept last before
    → FlagsKept last before → ExportsKept last before
    → ExportsKept last (declares i what ∷ before)
unfolding behind
exports-declares last i what before inner t settled k f x j b (inl e) name = absurd (no-unit (declares i what) before refl j b e)
exports-declares last i what before inner t settled k f x j b (inr s) name =
    let g = package-begun last j b before t settled s in
    let d = known-declared i what (table_at last before) inner in
    let region = (known_at last b).regions in
    let at = suc (length (declares_unit j the_package ∷ b)) in
    let u : Before = begins (package_region j) ∷ declares_unit j the_package ∷ b in
    let private = is_private_behind 0 before in
    exports-bound last (declares i what) before before region at name
    (record { name = i.text; entity = Some (length (known_at last before).entities); exported = (innermost (known_at last before).opened).exports })
    (ap (λ z. z.bindings) d.2) refl
    (λ here. (
    ap (λ z. z && bytes_eq i.text name)
    (flag-here last before f ∙ flag-first last region at u before g k (around before) before (first-stands 0 before) (stands-here before) refl private here)
    ∙ swapped (begun_at at (around before) && not private) (bytes_eq i.text name)))
    (λ away. never-there (bytes_eq i.text name) (begun_at at (around before)) (not private)
    (not-there last region at u before g k (around before) before (first-stands 0 before) (stands-here before) refl private away))
    (x j b s name)

-- ---- library units

exports-unit : (last : ℕ) (i : Identifier) (what : Declared) (before : Before) → (exported : Bool) → exported ≡ false
    → (known_at last (declares_unit i what ∷ before)).bindings
    ≡ bound_in 0 (record { name = i.text; entity = Some (length (known_at last before).entities); exported = exported }) (known_at last before).bindings
    → Kept last before → begins_next before ≡ None → ExportsKept last before → ExportsKept last (declares_unit i what ∷ before)
exports-unit last i what before exported shut bound k settled x j b (inl e) name =
    let rest : b ≡ before = cc in
    subst (λ z.
    shown last (declares_unit i what ∷ before) (known_at last z).regions name ≡ said_shown last (declares_unit i what ∷ before) (suc (suc (length z))) name)
    (sym rest)
    (unshown ∙ sym unsaid)
  where
    later : (known_at last before).regions ≡ 0 → ⊥
    later q =
        let h : here_at last [] < next_region last before = k.regions.below [] (stands-start before) in
        let n : next_region last before ≡ (known_at last before).regions = next-settled last before settled in omega arith

    unbound : item_at (known_at last before).regions (known_at last before).bindings ≡ None
    unbound = k.bindings.unbound (known_at last before).regions (λ c s q. (
        let h : here_at last c < next_region last before = k.regions.below c s in
        let n : next_region last before ≡ (known_at last before).regions = next-settled last before settled in omega arith))

    unshown : shown last (declares_unit i what ∷ before) (known_at last before).regions name ≡ None
    unshown = ap (λ bs. and_then (and_then (item_at (known_at last before).regions bs) (find (exports_name name))) (λ (z : Binding). z.entity)) bound
        ∙ ap (λ z. and_then (and_then z (find (exports_name name))) (λ (y : Binding). y.entity))
        (item-other 0 (record { name = i.text; entity = Some (length (known_at last before).entities); exported = exported })
        (known_at last before).bindings (known_at last before).regions later
        ∙ unbound)

    unsaid : said_shown last (declares_unit i what ∷ before) (suc (suc (length before))) name ≡ None
    unsaid = ap (option_map (entity_number last)) (nothing-exported (suc (suc (length before))) name (declares_unit i what ∷ before) (omega arith))
exports-unit last i what before exported shut bound k settled x j b (inr s) name =
    exports-bound last (declares_unit i what) [] before (known_at last b).regions (suc (length (declares_unit j the_package ∷ b))) name
    (record { name = i.text; entity = Some (length (known_at last before).entities); exported = exported }) bound refl
    (λ here. ap (λ t. t && bytes_eq i.text name) shut) (λ away. refl) (x j b s name)

exports-library_unit : (last : ℕ) (i : Identifier) (what : Declared) (before : Before) → FitsHere (declares_unit i what) before → begins_next before ≡ None
    → Kept last before → ExportsKept last before → ExportsKept last (declares_unit i what ∷ before)
unfolding behind
exports-library_unit last i the_package before fits settled k x =
    exports-unit last i the_package before false refl (ap (λ z. z.bindings) (known-package_declared i (table_at last before)).2) k settled x
exports-library_unit last i the_main_procedure before fits settled k x =
    exports-unit last i the_main_procedure before false refl (ap (λ z. z.bindings) (known-main_declared i (table_at last before)).2) k settled x
exports-library_unit last i _ before fits settled k x = absurd fits

-- ---- bodies of subprograms

-- where the body stands in the region of a package, that is the region in which it completes or declares
module _ (last : ℕ) (i : Identifier) (s : SubprogramSpecification) (before : Before) (settled : begins_next before ≡ None) (k : Kept last before)
    (f : FlagsKept last before)
    (region at : ℕ) (u : Before) (g : Begun last region at u before) (name : List ℕ) (x : shown last before region name ≡ said_shown last before at name) where
  abbrev outer_home : ℕ
  outer_home = home last i s before settled k

  abbrev outer_position : Before
  outer_position = (beyond last i s before settled k).0

  first-outside : Stands (first_or_none (around_outside before)) before
  first-outside = subst (λ bs. Stands (first_or_none bs) before) (sym (outside-behind before)) (first-stands 1 before)

  -- what stands there of the name
  body-there : (t : Bool) → body_completes number_of_innermost outer_home i.text before ≡ t → here_at last outer_position ≡ region → bytes_eq i.text name ≡ true
      → body_completes number_of_innermost at name before ≡ t
  body-there t e here named =
      let same : outer_home ≡ at = k.regions.same outer_position u (beyond last i s before settled k).1.stands g.stands (here ∙ sym g.there) ∙ g.number in
      ap (λ n. body_completes number_of_innermost at n before) (sym ((bytes_eq-Decides i.text name).0 named))
      ∙ (ap (λ r. body_completes number_of_innermost r i.text before) (sym same) ∙ e)

  away-false : (here_at last outer_position ≡ region → ⊥) → exports_here at name (completes i s) before ≡ false
  away-false away =
      never-there (bytes_eq i.text name) (begun_at at (around_outside before))
      (not (body_completes number_of_innermost at name before) && not (is_private_behind 1 before))
      (not-there last region at u before g k (around_outside before) outer_position first-outside (beyond last i s before settled k).1.stands
      (beyond last i s before settled k).1.position (is_private_behind 1 before) away)

  completes-by : Completing last i s before settled k → shown last (completes i s ∷ before) region name ≡ said_shown last (completes i s ∷ before) at name
  unfolding behind
  completes-by (inl (e, found, complete)) =
      exports-same last (completes i s) before region at name
      (ap (λ (z : Known). item_at region z.bindings) (known-completed i s (table_at last before) e found))
      (go (eqb (here_at last outer_position) region) refl) x
    where
      in-place : (n gg bc y : Bool) → (n ≡ true → bc ≡ true) → (n && (gg && (not bc && y))) ≡ false
      in-place false gg bc y q = refl
      in-place true gg bc y q = ap (λ z. gg && (not z && y)) (q refl) ∙ both-no gg
        where
          both-no : (h : Bool) → (h && false) ≡ false
          both-no true = refl
          both-no false = refl

      go : (v : Bool) → eqb (here_at last outer_position) region ≡ v → exports_here at name (completes i s) before ≡ false
      go true v =
          in-place (bytes_eq i.text name) (begun_at at (around_outside before)) (body_completes number_of_innermost at name before)
          (not (is_private_behind 1 before))
          (body-there true complete (eqb-true _ _ v))
      go false v = away-false (eqb-false _ _ v)
  completes-by (inr (found, complete)) =
      let d = known-body_declared i s (table_at last before) found in
      exports-bound last (completes i s) outer_position before region at name
      (record { name = i.text; entity = Some (length (known_at last before).entities); exported = (innermost (outside (known_at last before).opened)).exports })
      (ap (λ z. z.bindings) d.2
      ∙ ap (λ r. bound_in r
      (record {
        name = i.text;
        entity = Some (length (known_at last before).entities);
        exported = (innermost (outside (known_at last before).opened)).exports;
      })
      (known_at last before).bindings)
      (sym (beyond last i s before settled k).1.table))
      refl
      (λ here. (
      ap (λ z. z && bytes_eq i.text name) (flag-outside last before f
      ∙ flag-first last region at u before g k (around_outside before) outer_position first-outside (beyond last i s before settled k).1.stands
      (beyond last i s before settled k).1.position (is_private_behind 1 before) here)
      ∙ declaring (bytes_eq i.text name) (begun_at at (around_outside before)) (body_completes number_of_innermost at name before)
      (not (is_private_behind 1 before)) (body-there false complete here)))
      away-false x
    where
      declaring : (n gg bc y : Bool) → (n ≡ true → bc ≡ false) → ((gg && y) && n) ≡ (n && (gg && (not bc && y)))
      declaring false gg bc y q = swapped (gg && y) false
      declaring true gg bc y q = swapped (gg && y) true ∙ ap (λ z. gg && (not z && y)) (sym (q refl))

exports-completes : (last : ℕ) (i : Identifier) (s : SubprogramSpecification) (before : Before) → IsText before → begins_next before ≡ None → Kept last before
    → FlagsKept last before → ExportsKept last before
    → ExportsKept last (completes i s ∷ before)
unfolding behind
exports-completes last i s before t settled k f x j b (inl e) name = absurd (no-unit (completes i s) before refl j b e)
exports-completes last i s before t settled k f x j b (inr stands) name =
    completes-by last i s before settled k f (known_at last b).regions (suc (length (declares_unit j the_package ∷ b)))
    (begins (package_region j) ∷ declares_unit j the_package ∷ b)
    (package-begun last j b before t settled stands) name (x j b stands name) (completed-cases last i s before settled k)

-- ---- names that are hidden

exports-hide_first : (last : ℕ) (i : Identifier) (o : Occurrence) (before : Before) → is_unit_declared (o ∷ before) ≡ false
    → ((home : ℕ) (name : List ℕ) → exports_here home name o before ≡ false)
    → binding_in (known_at last before).bindings (here_at last before) i.text ≡ None
    → known_at last (o ∷ before) ≡ with_bound (innermost (known_at last before).opened) i.text None (known_at last before) → ExportsKept last before
    → ExportsKept last (o ∷ before)
exports-hide_first last i o before none unshown there e k j b (inl q) name = absurd (no-unit o before none j b q)
exports-hide_first last i o before none unshown there e k j b (inr s) name =
    exports-hidden last o before (known_at last b).regions (suc (length (declares_unit j the_package ∷ b))) name i.text
    (innermost (known_at last before).opened).exports
    (ap (λ x. x.bindings) e) (ap told_of there) (unshown _ name) (k j b s name)

exports-hide : (last : ℕ) (i : Identifier) (o : Occurrence) (before : Before) → is_unit_declared (o ∷ before) ≡ false
    → ((home : ℕ) (name : List ℕ) → exports_here home name o before ≡ false)
    → (x : Option Binding) → binding_in (known_at last before).bindings (here_at last before) i.text ≡ x
    → known_at last (o ∷ before)
    ≡ cond (is_some x) (known_at last before) (with_bound (innermost (known_at last before).opened) i.text None (known_at last before))
    → ExportsKept last before
    → ExportsKept last (o ∷ before)
exports-hide last i o before none unshown (Some b) there e k = exports-quiet last o before (no-unit o before none) k (ap (λ x. x.bindings) e) unshown
exports-hide last i o before none unshown None there e k = exports-hide_first last i o before none unshown there e k

exports-hides : (last : ℕ) (i : Identifier) (before : Before) → ExportsKept last before → ExportsKept last (hides i ∷ before)
unfolding behind
exports-hides last i before k =
    exports-hide last i (hides i) before refl (λ home name. refl) (binding_in (known_at last before).bindings (here_at last before) i.text) refl
    (known-hidden i (table_at last before)) k

exports-heads : (last : ℕ) (i : Identifier) (before : Before) → ExportsKept last before → ExportsKept last (heads i ∷ before)
unfolding behind headed
exports-heads last i before k = go (is_some (completed_in (table_at last before) (region_here (table_at last before)) i.text)) refl
  where
    go : (t : Bool) → is_some (completed_in (table_at last before) (region_here (table_at last before)) i.text) ≡ t → ExportsKept last (heads i ∷ before)
    go true e =
        exports-quiet last (heads i) before (no-unit (heads i) before refl) k
        (ap (λ t. (known (cond t (table_at last before) (hidden i (table_at last before)))).bindings) e) (λ home name. refl)
    go false e = exports-hide last i (heads i) before refl (λ home name. refl) (binding_in (known_at last before).bindings (here_at last before) i.text) refl
        (ap (λ t. known (cond t (table_at last before) (hidden i (table_at last before)))) e ∙ known-hidden i (table_at last before)) k

-- ---- regions that begin

waits-grown : (last : ℕ) (d : Occurrence) (b : Before) (r : Region) → region_behind_it d ≡ Some r
    → (known_at last (d ∷ b)).regions ≡ suc (known_at last b).regions
waits-grown last (declares i (a_task is_type aspects)) b r e = (task-waits last i b is_type aspects).grown
waits-grown last (declares i (a_protected is_type aspects)) b r e = (protected-waits last i b is_type aspects).grown
waits-grown last (declares i (a_derived_type parent)) b r e = (derived-waits last i b parent).grown
waits-grown last (declares_unit i the_package) b r e = (package-waits last i b).grown
waits-grown last _ b r e = absurd (none-some r e)

next-le-regions : (last : ℕ) (before : Before) → next_region last before ≤ (known_at last before).regions
next-le-regions last [] = omega arith
next-le-regions last (d ∷ b) = go (region_behind_it d) refl
  where
    go : (r : Option Region) → region_behind_it d ≡ r → next_by r (known_at last b).regions (known_at last (d ∷ b)).regions ≤ (known_at last (d ∷ b)).regions
    go None e = omega arith
    go (Some r) e = let grown : (known_at last (d ∷ b)).regions ≡ suc (known_at last b).regions = waits-grown last d b r e in omega arith

-- the region of a package is none that begins later
older-region : (last : ℕ) (i : Identifier) (b before : Before) → IsText before → Kept last before → Stands (declares_unit i the_package ∷ b) before
    → (known_at last b).regions ≡ (known_at last before).regions → ⊥
older-region last i b before t k s e = go (next-stands before (declares_unit i the_package) b (package_region i) t s refl)
  where
    go : (declares_unit i the_package ∷ b ≡ before) ⊎ Stands (begins (package_region i) ∷ declares_unit i the_package ∷ b) before → ⊥
    go (inl q) =
        let grown : (known_at last (declares_unit i the_package ∷ b)).regions ≡ suc (known_at last b).regions = (package-waits last i b).grown in
        let same : (known_at last (declares_unit i the_package ∷ b)).regions ≡ (known_at last before).regions = ap (λ z. (known_at last z).regions) q in
        omega arith
    go (inr u) =
        let here : here_at last (begins (package_region i) ∷ declares_unit i the_package ∷ b) ≡ (known_at last b).regions =
        ap (λ os. (innermost os).region) (package-waits last i b).opened in
        let below = k.regions.below (begins (package_region i) ∷ declares_unit i the_package ∷ b) u in
        let next = next-le-regions last before in
        omega arith

exports-begun : (last : ℕ) (r : Region) (before : Before) → IsText before → Kept last before → ExportsKept last before → ExportsKept last (begins r ∷ before)
unfolding behind
exports-begun last r before t k x i b (inl e) name = absurd (no-unit (begins r) before refl i b e)
exports-begun last r before t k x i b (inr s) name =
    exports-same last (begins r) before (known_at last b).regions (suc (length (declares_unit i the_package ∷ b))) name
    (begun-binds (known_at last b).regions r (table_at last before) (older-region last i b before t k s)) refl (x i b s name)

-- ---- all occurrences

exports-settled : (last : ℕ) (o : Occurrence) (before : Before) → FitsHere o before → IsText before → begins_next before ≡ None → Kept last before
    → FlagsKept last before → ExportsKept last before → ExportsKept last (o ∷ before)
unfolding behind
exports-settled last (begins r) before here t settled k f x = exports-begun last r before t k x
exports-settled last ends before here t settled k f x =
    exports-quiet last ends before (no-unit ends before refl) x (ap (λ z. z.bindings) (known-ended (table_at last before))) (λ home name. refl)
exports-settled last private_from_here before here t settled k f x =
    exports-quiet last private_from_here before (no-unit private_from_here before refl) x (ap (λ z. z.bindings) (known-made_private (table_at last before)))
    (λ home name. refl)
exports-settled last (hides i) before here t settled k f x = exports-hides last i before x
exports-settled last (heads i) before here t settled k f x = exports-heads last i before x
exports-settled last (declares i what) before here t settled k f x = exports-declares last i what before here t settled k f x
exports-settled last (declares_unit i what) before here t settled k f x = exports-library_unit last i what before here settled k x
exports-settled last (completes i s) before here t settled k f x = exports-completes last i s before t settled k f x
exports-settled last (is_called i) before here t settled k f x =
    exports-quiet last (is_called i) before (no-unit (is_called i) before refl) x (ap (λ z. z.bindings) (known-named_as i (table_at last before)))
    (λ home name. refl)
exports-settled last (mentions name) before here t settled k f x =
    exports-quiet last (mentions name) before (no-unit (mentions name) before refl) x (ap (λ z. z.bindings) (known-name_resolved name (table_at last before)))
    (λ home n. refl)
exports-settled last (mentions_simply i) before here t settled k f x =
    exports-quiet last (mentions_simply i) before (no-unit (mentions_simply i) before refl) x (ap (λ z. z.bindings) (known-resolved i (table_at last before)))
    (λ home n. refl)
exports-settled last (mentions_entry i) before here t settled k f x =
    exports-quiet last (mentions_entry i) before (no-unit (mentions_entry i) before refl) x
    (ap (λ z. z.bindings) (known-entry_mentioned i (table_at last before))) (λ home n. refl)
exports-settled last (with_unit name) before here t settled k f x =
    exports-quiet last (with_unit name) before (no-unit (with_unit name) before refl) x
    (ap (λ z. z.bindings) (known-withed name (library_unit (table_at last before) name) (table_at last before))) (λ home n. refl)
exports-settled last (use_package name) before here t settled k f x =
    exports-quiet last (use_package name) before (no-unit (use_package name) before refl) x (ap (λ z. z.bindings) (known-used name (table_at last before)))
    (λ home n. refl)

exports-by : (last : ℕ) (o : Occurrence) (before : Before) → FitsBehind (begins_next before) o → FitsHere o before → IsText before → Kept last before
    → FlagsKept last before → ExportsKept last before
    → (r : Option Region) → begins_next before ≡ r → ExportsKept last (o ∷ before)
exports-by last o before fits here t k f x None e = exports-settled last o before here t e k f x
exports-by last o before fits here t k f x (Some r) e =
    let begun : o ≡ begins r = subst (λ z. FitsBehind z o) e fits in subst (λ z. ExportsKept last (z ∷ before)) (sym begun) (exports-begun last r before t k x)

pub exports-kept : (last : ℕ) (before : Before) → IsText before → bodies_complete_before before ≡ true → ExportsKept last before
exports-kept last [] t complete = λ i b s name. cc
exports-kept last (o ∷ before) t complete =
    let c = and_parts (completes_if_body o before) (bodies_complete_before before) complete in
    exports-by last o before t.0 t.1 t.2 (kept last before t.2 c.1) (flags-kept last before t.2) (exports-kept last before t.2 c.1) (begins_next before) refl
