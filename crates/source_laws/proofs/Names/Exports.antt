-- What a package exports by the table is what its declaration declares by position, outside its private part.
use Rattle.std.proofs.Common.{◌≡◌, inl, inr, ℕ, suc, Bool, true, false, cond, not, ◌&&◌, List, [], ◌∷◌, length, Option}
use Rattle.std.proofs.Common.{Some, None, option_map, eqb, bytes_eq, find, refl, sym, ap, ◌∙◌, arith, eqb-true, ne_eqb}
use borrow.Author.Tests.{eqb-false}
use Rattle.std.proofs.lemmas.Slice.Eq.{bytes_eq-Decides}
use Rattle.world_tables.specs.Tables.{item_at}
use Rattle.source_laws.proofs.Names.TableLemmas.{item_at-put, item_at-with_item}
use Rattle.ada_regions.specs.declared.table.Binding.{Binding}
use Rattle.ada_regions.specs.Words.{and_then}
use Rattle.ada_regions.specs.Names.{Bindings, binds, bound_among, bound_in}
use Rattle.ada_regions.specs.Visibility.{exports_name}
use Rattle.ada_regions.specs.Occurrences.{Occurrence, package_region, a_unit, a_record, begins}
use Rattle.source_laws.specs.Positions.{Before, Stands, around, around_outside, all_but_innermost, nearest}
use Rattle.source_laws.specs.Regions.{number_of, number_of_innermost, region_of_position, first_or_none}
use Rattle.source_laws.specs.UseClauses.{is_private_behind, begun_at, exports_here}
use Rattle.source_laws.proofs.Names.PositionLemmas.{false-true, stands-length}
use Rattle.source_laws.proofs.Names.NumberLemmas.{number-beginning}
use Rattle.source_laws.proofs.Names.Known.{Open, innermost, outside}
use Rattle.source_laws.proofs.Names.Kept.{known_at, here_at}
use Rattle.source_laws.proofs.Names.KeptBindings.{item-other, entity_number, told_of, told_in}
use Rattle.source_laws.proofs.Names.KeptSteps.{Kept}
use Rattle.source_laws.proofs.Names.Flags.{shows, flags, exports_of, FlagsKept}

-- ---- what a region shows of a name: the entity of its nearest exported binding

abbrev pub shown : ℕ → Before → ℕ → List ℕ → Option ℕ
shown last c region name = and_then (and_then (item_at region (known_at last c).bindings) (find (exports_name name))) (λ b. b.entity)

abbrev pub said_shown : ℕ → Before → ℕ → List ℕ → Option ℕ
said_shown last c home name = option_map (entity_number last) (nearest (exports_here home name) c)

found-bound : (region : ℕ) (b : Binding) (bindings : Bindings) (test : Binding → Bool)
    → and_then (item_at region (bound_in region b bindings)) (find test) ≡ cond (test b) (Some b) (and_then (item_at region bindings) (find test))
found-bound region b bindings test = go (item_at region bindings) refl
  where
    go : (x : Option (List Binding)) → item_at region bindings ≡ x
        → and_then (item_at region (bound_among x region b bindings)) (find test) ≡ cond (test b) (Some b) (and_then x (find test))
    go None e = ap (λ y. and_then y (find test)) (item_at-put region (b ∷ []) bindings)
    go (Some others) e = ap (λ y. and_then y (find test)) (item_at-with_item region (b ∷ others) others bindings e)

-- ---- positions of one length

pub same_length : (b c before : Before) → Stands b before → Stands c before → length b ≡ length c → b ≡ c
same_length b c [] s t e = s ∙ sym t
same_length b c (o ∷ before) (inl p) (inl q) e = p ∙ sym q
same_length b c (o ∷ before) (inl p) (inr t) e =
    let h : length b ≡ suc (length before) = ap length p in let l = stands-length c before t in absurd (omega arith)
same_length b c (o ∷ before) (inr s) (inl q) e =
    let h : length c ≡ suc (length before) = ap length q in let l = stands-length b before s in absurd (omega arith)
same_length b c (o ∷ before) (inr s) (inr t) e = same_length b c before s t e

shows-number : (b : Before) → shows b ≡ true → number_of b ≡ length b
shows-number [] e = absurd (false-true e)
shows-number (begins (package_region i) ∷ before) e = number-beginning (begins (package_region i)) before
shows-number (begins (a_unit i) ∷ before) e = number-beginning (begins (a_unit i)) before
shows-number (begins (a_record i) ∷ before) e = number-beginning (begins (a_record i)) before
shows-number (_ ∷ before) e = absurd (false-true e)

-- ---- the flag of a region around

abbrev pub flag_of : Bool → List Before → Bool
flag_of private [] = false
flag_of private (b ∷ bs) = shows b && not private

abbrev first_flag : List Bool → Bool
first_flag [] = false
first_flag (x ∷ xs) = x

abbrev second_flag : List Bool → Bool
second_flag [] = false
second_flag (x ∷ xs) = first_flag xs

innermost-flag : (os : List Open) → (innermost os).exports ≡ first_flag (exports_of os)
innermost-flag [] = refl
innermost-flag (o ∷ os) = refl

outside-flag : (os : List Open) → (innermost (outside os)).exports ≡ second_flag (exports_of os)
outside-flag [] = refl
outside-flag (o ∷ []) = refl
outside-flag (o ∷ p ∷ os) = refl

pub flag-here : (last : ℕ) (before : Before) → FlagsKept last before
    → (innermost (known_at last before).opened).exports ≡ flag_of (is_private_behind 0 before) (around before)
flag-here last before k = innermost-flag (known_at last before).opened ∙ (ap first_flag k ∙ go (around before))
  where
    go : (bs : List Before) → first_flag (flags 0 bs before) ≡ flag_of (is_private_behind 0 before) bs
    go [] = refl
    go (b ∷ bs) = refl

pub flag-outside : (last : ℕ) (before : Before) → FlagsKept last before
    → (innermost (outside (known_at last before).opened)).exports ≡ flag_of (is_private_behind 1 before) (around_outside before)
flag-outside last before k = outside-flag (known_at last before).opened ∙ (ap second_flag k ∙ go (around before))
  where
    go : (bs : List Before) → second_flag (flags 0 bs before) ≡ flag_of (is_private_behind 1 before) (all_but_innermost bs)
    go [] = refl
    go (b ∷ []) = refl
    go (b ∷ c ∷ bs) = refl

-- ---- a region u that a package's declaration began

pub record Begun (last region home : ℕ) (u before : Before) : Type 0 where
  pub stands : Stands u before
  pub shown_there : shows u ≡ true
  pub there : here_at last u ≡ region
  pub number : region_of_position u ≡ home
  pub long : length u ≡ home

module _ (last region home : ℕ) (u before : Before) (g : Begun last region home u before) (k : Kept last before) where
  -- the innermost of some regions around, in which a position y stands
  module _ (bs : List Before) (y : Before) (first : Stands (first_or_none bs) before) (stands : Stands y before)
      (number : region_of_position y ≡ number_of_innermost bs) (private : Bool) where
    is-u : (b : Before) → Stands b before → eqb (length b) home ≡ true → b ≡ u
    is-u b s e = same_length b u before s g.stands (eqb-true (length b) home e ∙ sym g.long)

    u-number : number_of u ≡ home
    u-number = shows-number u g.shown_there ∙ g.long

    begun-there : begun_at home bs ≡ true → here_at last y ≡ region
    begun-there e =
        let same : first_or_none bs ≡ u = is-u (first_or_none bs) first e in
        k.regions.alike y u stands g.stands (number ∙ (ap number_of same ∙ (u-number ∙ sym g.number))) ∙ g.there

    pub not-there : (here_at last y ≡ region → ⊥) → begun_at home bs ≡ false
    not-there other = go (begun_at home bs) refl
      where
        go : (t : Bool) → begun_at home bs ≡ t → begun_at home bs ≡ false
        go true e = absurd (other (begun-there e))
        go false e = e

  pub flag-first : (bs : List Before) (y : Before) (first : Stands (first_or_none bs) before) → Stands y before → region_of_position y ≡ number_of_innermost bs
      → (private : Bool) → here_at last y ≡ region
      → flag_of private bs ≡ (begun_at home bs && not private)
  flag-first [] y first stands number private here =
      ap (λ t. t && not private)
      (sym (ne_eqb 0 home (λ e. (let s : number_of u ≡ home = shows-number u g.shown_there ∙ g.long in empty-long u g.shown_there (g.long ∙ sym e)))))
    where
      empty-long : (v : Before) → shows v ≡ true → length v ≡ 0 → ⊥
      empty-long [] e q = false-true e
      empty-long (o ∷ v) e q = omega arith
  flag-first (b ∷ bs) y first stands number private here = go (eqb (length b) home) refl (shows b) refl
    where
      go : (t : Bool) → eqb (length b) home ≡ t → (s : Bool) → shows b ≡ s → (shows b && not private) ≡ (eqb (length b) home && not private)
      go true e s q =
          let same : b ≡ u = same_length b u before first g.stands (eqb-true (length b) home e ∙ sym g.long) in
          ap (λ x. x && not private) (ap shows same ∙ (g.shown_there ∙ sym e))
      go false e true q =
          let same : region_of_position y ≡ region_of_position u = k.regions.same y u stands g.stands (here ∙ sym g.there) in
          let long : length b ≡ home = sym (shows-number b q) ∙ (sym number ∙ (same ∙ g.number)) in
          absurd (eqb-false (length b) home e long)
      go false e false q = ap (λ x. x && not private) (q ∙ sym e)

-- ---- what an occurrence changes of what a region shows

pub exports-same : (last : ℕ) (o : Occurrence) (before : Before) (region home : ℕ) (name : List ℕ)
    → item_at region (known_at last (o ∷ before)).bindings ≡ item_at region (known_at last before).bindings
    → exports_here home name o before ≡ false → shown last before region name ≡ said_shown last before home name
    → shown last (o ∷ before) region name ≡ said_shown last (o ∷ before) home name
exports-same last o before region home name same none k =
    ap (λ x. and_then (and_then x (find (exports_name name))) (λ (b : Binding). b.entity)) same
    ∙ (k ∙ ap (λ t. option_map (entity_number last) (cond t (Some (o ∷ before)) (nearest (exports_here home name) before))) (sym none))

pub exports-bound : (last : ℕ) (o : Occurrence) (y before : Before) (region home : ℕ) (name : List ℕ) (b : Binding)
    → (known_at last (o ∷ before)).bindings ≡ bound_in (here_at last y) b (known_at last before).bindings
    → b.entity ≡ Some (length (known_at last before).entities)
    → (here_at last y ≡ region → exports_name name b ≡ exports_here home name o before)
    → ((here_at last y ≡ region → ⊥) → exports_here home name o before ≡ false)
    → shown last before region name ≡ said_shown last before home name → shown last (o ∷ before) region name ≡ said_shown last (o ∷ before) home name
exports-bound last o y before region home name b bound entity same other k = go (eqb (here_at last y) region) refl
  where
    old : Option Binding
    old = and_then (item_at region (known_at last before).bindings) (find (exports_name name))

    by_test : (t : Bool) → and_then old (λ (x : Binding). x.entity) ≡ said_shown last before home name
        → and_then (cond t (Some b) old) (λ (x : Binding). x.entity)
        ≡ option_map (entity_number last) (cond t (Some (o ∷ before)) (nearest (exports_here home name) before))
    by_test true q = entity
    by_test false q = q

    go : (t : Bool) → eqb (here_at last y) region ≡ t → shown last (o ∷ before) region name ≡ said_shown last (o ∷ before) home name
    go true e =
        let there : here_at last y ≡ region = eqb-true (here_at last y) region e in
        ap (λ bs. and_then (and_then (item_at region bs) (find (exports_name name))) (λ (x : Binding). x.entity))
        (bound ∙ ap (λ r. bound_in r b (known_at last before).bindings) there)
        ∙ (ap (λ z. and_then z (λ (x : Binding). x.entity))
        (found-bound region b (known_at last before).bindings (exports_name name) ∙ ap (λ t. cond t (Some b) old) (same there))
        ∙ by_test (exports_here home name o before) k)
    go false e =
        let away : here_at last y ≡ region → ⊥ = eqb-false (here_at last y) region e in
        exports-same last o before region home name
        (ap (item_at region) bound ∙ item-other (here_at last y) b (known_at last before).bindings region (λ q. away (sym q))) (other away) k

-- a name that is hidden shows nothing
none-exported : (name : List ℕ) (bs : List Binding) → find (binds name) bs ≡ None → find (exports_name name) bs ≡ None
none-exported name [] e = refl
none-exported name (b ∷ bs) e = go (binds name b) b.exported e (none-exported name bs)
  where
    go : (t x : Bool) → cond t (Some b) (find (binds name) bs) ≡ None → (find (binds name) bs ≡ None → find (exports_name name) bs ≡ None)
        → cond (x && t) (Some b) (find (exports_name name) bs) ≡ None
    go true x e more = cc
    go false true e more = more e
    go false false e more = more e

none-shown : (name : List ℕ) (x : Option (List Binding)) → told_of (and_then x (find (binds name))) ≡ None
    → and_then (and_then x (find (exports_name name))) (λ (b : Binding). b.entity) ≡ None
none-shown name None e = refl
none-shown name (Some bs) e = ap (λ z. and_then z (λ (b : Binding). b.entity)) (none-exported name bs (unfound (find (binds name) bs) e))
  where
    unfound : (z : Option Binding) → told_of z ≡ None → z ≡ None
    unfound None q = refl
    unfound (Some b) q = cc

pub exports-hidden : (last : ℕ) (o : Occurrence) (before : Before) (region home : ℕ) (name hidden : List ℕ) (exports : Bool)
    → (known_at last (o ∷ before)).bindings
    ≡ bound_in (here_at last before) (record { name = hidden; entity = None; exported = exports }) (known_at last before).bindings
    → told_in last before (here_at last before) hidden ≡ None → exports_here home name o before ≡ false
    → shown last before region name ≡ said_shown last before home name → shown last (o ∷ before) region name ≡ said_shown last (o ∷ before) home name
exports-hidden last o before region home name hidden exports bound none nothing k = go (eqb (here_at last before) region) refl
  where
    b : Binding
    b = record { name = hidden; entity = None; exported = exports }

    old : Option Binding
    old = and_then (item_at region (known_at last before).bindings) (find (exports_name name))

    by_test : (x t : Bool) → (t ≡ true → and_then old (λ (z : Binding). z.entity) ≡ None)
        → and_then (cond (x && t) (Some (record { name = hidden; entity = None; exported = exports })) old) (λ (z : Binding). z.entity)
        ≡ and_then old (λ (z : Binding). z.entity)
    by_test true true q = sym (q refl)
    by_test true false q = refl
    by_test false t q = refl

    after : (said_shown last before home name) ≡ said_shown last (o ∷ before) home name
    after = ap (λ t. option_map (entity_number last) (cond t (Some (o ∷ before)) (nearest (exports_here home name) before))) (sym nothing)

    go : (t : Bool) → eqb (here_at last before) region ≡ t → shown last (o ∷ before) region name ≡ said_shown last (o ∷ before) home name
    go true e =
        let there : here_at last before ≡ region = eqb-true (here_at last before) region e in
        ap (λ bs. and_then (and_then (item_at region bs) (find (exports_name name))) (λ (x : Binding). x.entity))
        (bound ∙ ap (λ r. bound_in r (record { name = hidden; entity = None; exported = exports }) (known_at last before).bindings) there)
        ∙ (ap (λ z. and_then z (λ (x : Binding). x.entity))
        (found-bound region (record { name = hidden; entity = None; exported = exports }) (known_at last before).bindings (exports_name name))
        ∙ (by_test exports (bytes_eq hidden name) (λ q.
        none-shown name (item_at region (known_at last before).bindings)
        (ap (λ n. told_in last before region n) (sym ((bytes_eq-Decides hidden name).0 q)) ∙ (ap (λ r. told_in last before r hidden) (sym there) ∙ none)))
        ∙ (k ∙ after)))
    go false e =
        let away : here_at last before ≡ region → ⊥ = eqb-false (here_at last before) region e in
        exports-same last o before region home name
        (ap (item_at region) bound
        ∙ item-other (here_at last before) (record { name = hidden; entity = None; exported = exports }) (known_at last before).bindings region
        (λ q. away (sym q))) nothing k
