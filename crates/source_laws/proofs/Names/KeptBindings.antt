-- The names that the table binds in a region are those that are declared there by position, or hidden.
use Rattle.std.proofs.Common.{◌≡◌, inl, inr, ℕ, ◌≤◌, ◌<◌, suc, Bool, true, false, cond, ◌&&◌, List, [], ◌∷◌, length, Option}
use Rattle.std.proofs.Common.{Some, None, option_map, eqb, bytes_eq, find, refl, sym, ap, ◌∙◌, arith, eqb-true, ne_eqb}
use borrow.Author.Tests.{eqb-false}
use Rattle.world_tables.specs.Tables.{item_at}
use Rattle.source_laws.proofs.Names.TableLemmas.{item_at-put, item_at-put-other, item_at-with_item, item_at-with_item-other}
use Rattle.ada_regions.specs.declared.table.Binding.{Binding}
use Rattle.ada_regions.specs.Words.{and_then}
use Rattle.std.specs.Option.{option_or}
use Rattle.ada_regions.specs.Names.{Bindings, binds, binding_in, bound_among, bound_in}
use Rattle.ada_regions.specs.Occurrences.{Occurrence, hides, heads, declares, declares_unit, completes}
use Rattle.source_laws.specs.Positions.{Before, Stands, around_behind, nearest}
use Rattle.source_laws.specs.Declarations.{declares_name, declaration, hides_name}
use Rattle.source_laws.specs.Regions.{number_of_innermost, region_of_position, first_or_none}
use Rattle.source_laws.proofs.Names.PositionLemmas.{stands-tail, stands-length, outside-behind, first-length, nearest-none}
use Rattle.source_laws.proofs.Names.NumberLemmas.{number-le}
use Rattle.source_laws.proofs.Names.Known.{known}
use Rattle.source_laws.proofs.Names.Kept.{known_at, here_at, next_region, RegionsKept, Together, all-together, BeginsAnew}

-- ---- a region that binds one more name

module _ (region : ℕ) (b : Binding) (bindings : Bindings) where
  bound-same : (name : List ℕ) → binding_in (bound_in region b bindings) region name ≡ cond (binds name b) (Some b) (binding_in bindings region name)
  bound-same name = go (item_at region bindings) refl
    where
      go : (x : Option (List Binding)) → item_at region bindings ≡ x
          → binding_in (bound_among x region b bindings) region name ≡ cond (binds name b) (Some b) (and_then x (find (binds name)))
      go None e = ap (λ y. and_then y (find (binds name))) (item_at-put region (b ∷ []) bindings)
      go (Some others) e = ap (λ y. and_then y (find (binds name))) (item_at-with_item region (b ∷ others) others bindings e)

  pub item-other : (r : ℕ) → (r ≡ region → ⊥) → item_at r (bound_in region b bindings) ≡ item_at r bindings
  item-other r other = go (item_at region bindings)
    where
      go : (x : Option (List Binding)) → item_at r (bound_among x region b bindings) ≡ item_at r bindings
      go None = item_at-put-other r region (b ∷ []) bindings other
      go (Some others) = item_at-with_item-other r region (b ∷ others) bindings other

-- ---- what is said of a name in a region

-- the number of the entity that a declaration declares
abbrev pub entity_number : ℕ → Before → ℕ
entity_number last [] = 0
entity_number last (o ∷ before) = length (known_at last before).entities

abbrev pub told_of : Option Binding → Option (Option ℕ)
told_of = option_map (λ b. b.entity)

-- by position: the entity of its nearest declaration, or that it is hidden
abbrev pub said_by : ℕ → Option Before → Option Before → Option (Option ℕ)
said_by last declared hidden = option_or (option_map (λ d. Some (entity_number last d)) declared) (option_map (λ d. None) hidden)

abbrev pub said : ℕ → ℕ → List ℕ → Before → Option (Option ℕ)
said last region name before = said_by last (declaration number_of_innermost region name before) (nearest (hides_name number_of_innermost region name) before)

-- by the table
abbrev pub told_in : ℕ → Before → ℕ → List ℕ → Option (Option ℕ)
told_in last before region name = told_of (binding_in (known_at last before).bindings region name)

pub record BindingsKept (last : ℕ) (before : Before) : Type 0 where
  pub unbound : (r : ℕ) → ((c : Before) → Stands c before → here_at last c ≡ r → ⊥) → item_at r (known_at last before).bindings ≡ None
  pub binds : (c : Before) → Stands c before → (name : List ℕ) → told_in last before (here_at last c) name ≡ said last (region_of_position c) name before

pub bindings-stay : (last : ℕ) (o : Occurrence) (x before : Before) → BindingsKept last before → Together last x (o ∷ before) before
    → (known_at last (o ∷ before)).bindings ≡ (known_at last before).bindings
    → ((region : ℕ) (name : List ℕ) → said last region name (o ∷ before) ≡ said last region name before) → BindingsKept last (o ∷ before)
bindings-stay last o x before k t same said-same = record {
  unbound = λ r no. ap (item_at r) same ∙ k.unbound r (λ c s. no c (inr s));
  binds = λ c s name. (
      let n = all-together last o x before t c s in
      ap (λ bs. told_of (binding_in bs (here_at last c) name)) same
      ∙ (ap (λ r. told_in last before r name) n.1.table
      ∙ (k.binds n.0 n.1.stands name
      ∙ (ap (λ r. said last r name before) (sym n.1.position) ∙ sym (said-same (region_of_position c) name)))));
}

-- ---- one more name is bound in the region of a position y

module _ (last : ℕ) (o : Occurrence) (x y before : Before) (b : Binding) (regions : RegionsKept last before) (k : BindingsKept last before)
    (t : Together last x (o ∷ before) before) (stands : Stands y before)
    (bound : (known_at last (o ∷ before)).bindings ≡ bound_in (here_at last y) b (known_at last before).bindings)
    (more : (region : ℕ) (name : List ℕ)
    → said last region name (o ∷ before)
    ≡ cond (bytes_eq b.name name && eqb (region_of_position y) region) (Some b.entity) (said last region name before)) where
  bound-here : (named : Bool) (name : List ℕ) (found : Option Binding) (known : Option (Option ℕ)) → told_of found ≡ known
      → told_of (cond named (Some b) found) ≡ cond (named && true) (Some b.entity) known
  bound-here true name found known e = refl
  bound-here false name found known e = e

  none-here : (named : Bool) (known : Option (Option ℕ)) → cond (named && false) (Some b.entity) known ≡ known
  none-here true known = refl
  none-here false known = refl

  binds-more : (d : Before) → Stands d before → (name : List ℕ)
      → told_of (binding_in (bound_in (here_at last y) b (known_at last before).bindings) (here_at last d) name)
      ≡ said last (region_of_position d) name (o ∷ before)
  binds-more d s name = go (eqb (region_of_position y) (region_of_position d)) refl
    where
      old : told_in last before (here_at last d) name ≡ said last (region_of_position d) name before
      old = k.binds d s name

      go : (t : Bool) → eqb (region_of_position y) (region_of_position d) ≡ t
          → told_of (binding_in (bound_in (here_at last y) b (known_at last before).bindings) (here_at last d) name)
          ≡ said last (region_of_position d) name (o ∷ before)
      go true e =
          let home : here_at last d ≡ here_at last y = sym (regions.alike y d stands s (eqb-true _ _ e)) in
          ap (λ r. told_of (binding_in (bound_in (here_at last y) b (known_at last before).bindings) r name)) home
          ∙ (ap told_of (bound-same (here_at last y) b (known_at last before).bindings name)
          ∙ (bound-here (bytes_eq b.name name) name (binding_in (known_at last before).bindings (here_at last y) name)
          (said last (region_of_position d) name before) (ap (λ r. told_in last before r name) (sym home) ∙ old)
          ∙ (ap (λ u. cond (bytes_eq b.name name && u) (Some b.entity) (said last (region_of_position d) name before)) (sym e)
          ∙ sym (more (region_of_position d) name))))
      go false e =
          let other : here_at last d ≡ here_at last y → ⊥ = λ q. eqb-false _ _ e (regions.same y d stands s (sym q)) in
          ap (λ z. told_of (and_then z (find (binds name)))) (item-other (here_at last y) b (known_at last before).bindings (here_at last d) other)
          ∙ (old
          ∙ (sym (none-here (bytes_eq b.name name) (said last (region_of_position d) name before))
          ∙ (ap (λ u. cond (bytes_eq b.name name && u) (Some b.entity) (said last (region_of_position d) name before)) (sym e)
          ∙ sym (more (region_of_position d) name))))

  pub bindings-more : BindingsKept last (o ∷ before)
  bindings-more = record {
    unbound = λ r no. (
        ap (item_at r) bound
        ∙ (item-other (here_at last y) b (known_at last before).bindings r (λ q. no y (inr stands) (sym q)) ∙ k.unbound r (λ c s. no c (inr s))));
    binds = λ c s name. (
        let n = all-together last o x before t c s in
        ap (λ bs. told_of (binding_in bs (here_at last c) name)) bound
        ∙ (ap (λ r. told_of (binding_in (bound_in (here_at last y) b (known_at last before).bindings) r name)) n.1.table
        ∙ (binds-more n.0 n.1.stands name ∙ ap (λ r. said last r name (o ∷ before)) (sym n.1.position))));
  }

-- ---- a region that begins

module _ (before : Before) where
  -- nothing is said of a region that has not begun
  abbrev no_region : ℕ
  no_region = suc (length before)

  later : (passed : ℕ) (b : Before) → Stands b before → eqb (number_of_innermost (around_behind passed b)) no_region ≡ false
  later passed b s = ne_eqb _ _ (λ e.
      let first = first_or_none (around_behind passed b) in
      let f : length first ≤ length b = first-length passed b in
      let n = number-le (length first) first (omega arith) in
      let l = stands-length b before s in
      omega arith)

  never : (b c : Bool) → b ≡ false → (c && b) ≡ false
  never false true e = refl
  never false false e = refl
  never true c e = cc

  not_both : (b c d : Bool) → b ≡ false → (c && (b && d)) ≡ false
  not_both false true d e = refl
  not_both false false d e = refl
  not_both true c d e = cc

  declared-never : (name : List ℕ) (o : Occurrence) (b : Before) → Stands (o ∷ b) before → declares_name number_of_innermost no_region name o b ≡ false
  declared-never name (declares i what) b s = never _ (bytes_eq i.text name) (later 0 b (stands-tail (declares i what) b before s))
  declared-never name (declares_unit i what) b s = never _ (bytes_eq i.text name) (ne_eqb 0 no_region (λ e. omega arith))
  declared-never name (completes i s) b t =
      not_both _ (bytes_eq i.text name) _
      (ap (λ bs. eqb (number_of_innermost bs) no_region) (outside-behind b) ∙ later 1 b (stands-tail (completes i s) b before t))
  declared-never name _ b s = refl

  hidden-never : (name : List ℕ) (o : Occurrence) (b : Before) → Stands (o ∷ b) before → hides_name number_of_innermost no_region name o b ≡ false
  hidden-never name (hides i) b s = never _ (bytes_eq i.text name) (later 0 b (stands-tail (hides i) b before s))
  hidden-never name (heads i) b s = never _ (bytes_eq i.text name) (later 0 b (stands-tail (heads i) b before s))
  hidden-never name _ b s = refl

  nothing-said : (last : ℕ) (name : List ℕ) → said last no_region name before ≡ None
  nothing-said last name =
      ap (λ d. said_by last d (nearest (hides_name number_of_innermost no_region name) before))
      (nearest-none (declares_name number_of_innermost no_region name) before (declared-never name))
      ∙ ap (λ h. said_by last None h) (nearest-none (hides_name number_of_innermost no_region name) before (hidden-never name))

-- what is bound in other regions stays, and nothing is bound in the new one
pub bindings-anew : (last : ℕ) (o : Occurrence) (before : Before) → RegionsKept last before → BindingsKept last before → BeginsAnew last o before
    → ((r : ℕ) → (r ≡ next_region last before → ⊥) → item_at r (known_at last (o ∷ before)).bindings ≡ item_at r (known_at last before).bindings)
    → ((name : List ℕ) → binding_in (known_at last (o ∷ before)).bindings (next_region last before) name ≡ None)
    → ((region : ℕ) (name : List ℕ) → said last region name (o ∷ before) ≡ said last region name before) → BindingsKept last (o ∷ before)
bindings-anew last o before regions k new others none said-same = record {
  unbound = λ r no. others r (λ e. no (o ∷ before) (inl refl) (new.table ∙ sym e)) ∙ k.unbound r (λ c s. no c (inr s));
  binds = binds-anew;
}
  where
    binds-anew : (c : Before) → Stands c (o ∷ before) → (name : List ℕ)
        → told_in last (o ∷ before) (here_at last c) name ≡ said last (region_of_position c) name (o ∷ before)
    binds-anew c (inl e) name =
        ap (λ r. told_in last (o ∷ before) r name) (ap (here_at last) e ∙ new.table)
        ∙ (ap told_of (none name)
        ∙ (sym (nothing-said before last name)
        ∙ (ap (λ r. said last r name before) (sym (ap region_of_position e ∙ new.position)) ∙ sym (said-same (region_of_position c) name))))
    binds-anew c (inr s) name =
        let below : here_at last c < next_region last before = regions.below c s in
        ap (λ z. told_of (and_then z (find (binds name)))) (others (here_at last c) (λ e. omega arith))
        ∙ (k.binds c s name ∙ sym (said-same (region_of_position c) name))

-- where the table binds as before
pub bindings-anew_same : (last : ℕ) (o : Occurrence) (before : Before) → RegionsKept last before → BindingsKept last before → BeginsAnew last o before
    → (known_at last (o ∷ before)).bindings ≡ (known_at last before).bindings
    → ((region : ℕ) (name : List ℕ) → said last region name (o ∷ before) ≡ said last region name before) → BindingsKept last (o ∷ before)
bindings-anew_same last o before regions k new same said-same =
    bindings-anew last o before regions k new (λ r other. ap (item_at r) same) (λ name.
    ap (λ bs. binding_in bs (next_region last before) name) same
    ∙ ap (λ z. and_then z (find (binds name)))
    (k.unbound (next_region last before) (λ c s e. (let below : here_at last c < next_region last before = regions.below c s in omega arith)))) said-same
