-- The with clauses that the table has at a position are those of the regions around it.
use Rattle.std.proofs.Common.{◌≡◌, ◌⊎◌, inl, inr, ℕ, ◌<◌, suc, Bool, true, false, cond, not, ◌&&◌, ◌||◌, List, [], ◌∷◌, length, Option}
use Rattle.std.proofs.Common.{Some, None, is_some, option_map, eqb, refl, sym, ap, subst, ◌∙◌, arith, eqb-true, eq-eqb, ne_eqb}
use Rattle.std.specs.List.{list_any}
use Rattle.ada_tree.specs.declared.names.Identifier.{Identifier}
use Rattle.ada_tree.specs.declared.names.Name.{Name}
use Rattle.ada_regions.specs.declared.predefined.PredefinedUnit.{PredefinedUnit}
use Rattle.ada_regions.specs.declared.entities.Denoted.{Denoted}
use Rattle.ada_regions.specs.declared.entities.Denoted.TheVariants as denotes
use Rattle.ada_regions.specs.declared.table.Names.{Names}
use Rattle.ada_regions.specs.Words.{and_then}
use Rattle.std.specs.Option.{option_or}
use Rattle.std.proofs.lemmas.Bool.{and_parts}
use Rattle.ada_regions.specs.Occurrences.{Occurrence, Region, the_package, the_context, the_context_of}
use Rattle.ada_regions.specs.Occurrences.{further_context, package_region, begins, ends, declares_unit, with_unit}
use Rattle.ada_regions.specs.Visibility.{is_withed_by}
use Rattle.ada_regions.specs.Regions.{package_named, context_of_package, package_to_with, library_unit, unit_named, unit_to_with, withed, begun}
use Rattle.ada_regions.specs.Numbered.{behind}
use Rattle.source_laws.specs.Positions.{Before, Stands, around, all_but_innermost, nearest}
use Rattle.source_laws.specs.Regions.{number_of, number_of_innermost, region_of_position, package_declared}
use Rattle.source_laws.specs.Regions.{context_around, bodies_complete_before, completes_if_body}
use Rattle.source_laws.specs.UseClauses.{is_withed_unit, withs_unit, stands_around, withed_around}
use Rattle.source_laws.specs.Tables.{table_at}
use Rattle.source_laws.proofs.Names.PositionLemmas.{false-true, stands-here, stands-tail, stands-trans, stands-length}
use Rattle.source_laws.proofs.Names.PositionLemmas.{outside-behind, around-of_first, nearest-same, nearest-none}
use Rattle.source_laws.proofs.Names.NumberLemmas.{number-beginning, position-le}
use Rattle.source_laws.proofs.Names.Placing.{begins_again, looks, Placed, IsPlaced, clauses-look}
use Rattle.source_laws.proofs.Names.Texts.{IsText}
use Rattle.source_laws.proofs.Names.KeptSteps.{Kept}
use Rattle.source_laws.proofs.Names.KeptBodies.{PackageSought, package_there, no_package, package-sought, begun-stands}
use Rattle.source_laws.proofs.Names.KeptAll.{kept}
use Rattle.source_laws.proofs.Names.Lawful.{text-stands}
use Rattle.source_laws.proofs.Names.ClausesKept.{IsInnerRegion, IsCalm, withs_of, withs-behind, clauses-context, clauses-context_again}
use Rattle.source_laws.proofs.Names.Founders.{placed-stands, stands-either, around-begins, settled-behind, IsNoContext, Founder}
use Rattle.source_laws.proofs.Names.Founders.{farther-founder, founder, ClauseFounder, clause-founder, numbers-apart, PackageHome, package-home}

-- a with clause for a unit in a region around
abbrev test : PredefinedUnit → Before → Occurrence → Before → Bool
test u here o before = withs_unit u o && stands_around here before

-- the table says of with clauses what the position says
abbrev pub WithsSay : ℕ → Before → Type 0
WithsSay last c = (u : PredefinedUnit) → list_any (is_withed_by u) (table_at last c).withs ≡ withed_around u c

-- ---- with clauses among what stands before

IsNoWith : Occurrence → Type 0
IsNoWith (with_unit name) = ⊥
IsNoWith _ = Unit {0}

withed-quiet : (u : PredefinedUnit) (here : Before) (o : Occurrence) (c : Before) → IsNoWith o → nearest (test u here) (o ∷ c) ≡ nearest (test u here) c
unfolding IsNoWith
withed-quiet u here (with_unit name) c no_with = absurd no_with
withed-quiet u here _ c no_with = refl

-- the with clauses of what stands before
abbrev Withs : Before → (Name → Before → Type 0) → Type 0
Withs c P = (name : Name) (b : Before) → Stands (with_unit name ∷ b) c → P name b

tests-agree : (u : PredefinedUnit) (here there c : Before) → Withs c (λ name b. stands_around here b ≡ stands_around there b) → (o : Occurrence) (b : Before)
    → Stands (o ∷ b) c → test u here o b ≡ test u there o b
tests-agree u here there c same (with_unit name) b s = ap (λ t. withs_unit u (with_unit name) && t) (same name b s)
tests-agree u here there c same _ b s = refl

tests-same : (u : PredefinedUnit) (here there c : Before) → Withs c (λ name b. stands_around here b ≡ stands_around there b)
    → nearest (test u here) c ≡ nearest (test u there) c
tests-same u here there c same = nearest-same (test u here) (test u there) c (tests-agree u here there c same)

test-none : (u : PredefinedUnit) (here c : Before) → Withs c (λ name b. stands_around here b ≡ false) → (o : Occurrence) (b : Before) → Stands (o ∷ b) c
    → test u here o b ≡ false
test-none u here c none (with_unit name) b s = and-false (withs_unit u (with_unit name)) (stands_around here b) (none name b s)
  where
    and-false : (x y : Bool) → y ≡ false → (x && y) ≡ false
    and-false true y e = e
    and-false false y e = refl
test-none u here c none _ b s = refl

none-withed : (u : PredefinedUnit) (here c : Before) → Withs c (λ name b. stands_around here b ≡ false) → nearest (test u here) c ≡ None
none-withed u here c none = nearest-none (test u here) c (test-none u here c none)

-- what has a later number is no region of theirs
later-apart : (number : ℕ) (c : Before) → length c < number → Withs c (λ name b. eqb number (region_of_position b) ≡ false)
later-apart number c lt name b s =
    ne_eqb number (region_of_position b) (λ e. (let h = position-le b in let l = stands-length (with_unit name ∷ b) c s in omega arith))

founder-apart : (number : ℕ) (before c : Before) → Founder number before → IsPlaced c → Stands c before
    → Withs c (λ name b. eqb number (region_of_position b) ≡ false)
founder-apart number before c f p t name b s =
    numbers-apart number before f b (stands-trans b c before (stands-tail (with_unit name) b c s) t) (placed-stands (with_unit name ∷ b) c s p).0

or-false : (x y : Bool) → x ≡ false → (x || y) ≡ y
or-false true y e = absurd (false-true (sym e))
or-false false y e = refl

-- ---- occurrences that change nothing of it

calm-step : (last : ℕ) (o : Occurrence) (c : Before) → IsCalm o → IsNoWith o → around (o ∷ c) ≡ around c → WithsSay last c → WithsSay last (o ∷ c)
calm-step last o c calm no_with same say u =
    ap (list_any (is_withed_by u)) (withs-behind o (table_at last c) calm)
    ∙ (say u
    ∙ (ap is_some (tests-same u c (o ∷ c) c (λ name b s. ap (list_any (λ x. eqb (number_of x) (region_of_position b))) (sym same)))
    ∙ ap is_some (sym (withed-quiet u (o ∷ c) o c no_with))))

inner-region : (r : Region) → IsNoContext r → IsInnerRegion r
inner-region the_context is = absurd is
inner-region (the_context_of i) is = absurd is
inner-region further_context is = absurd is
inner-region _ is = tt

begins-step : (last : ℕ) (r : Region) (c : Before) → IsNoContext r → IsText (begins r ∷ c) → IsPlaced c → WithsSay last c → WithsSay last (begins r ∷ c)
unfolding IsNoWith
begins-step last r c is t p say u =
    ap (list_any (is_withed_by u)) (withs-behind (begins r) (table_at last c) (inner-region r is))
    ∙ (say u
    ∙ ap is_some (tests-same u c (begins r ∷ c) c (λ name b s. sym (or-false (eqb (number_of (begins r ∷ c)) (region_of_position b)) (stands_around c b)
    (founder-apart (number_of (begins r ∷ c)) (begins r ∷ c) c (founder r c is t) p (inr (stands-here c)) name b s)))))

-- ---- a region ends

-- a region around another is no context
inside-context : (r : Region) (c y : Before) (ys : List Before) → Placed (begins r) c → around c ≡ y ∷ ys → begins_again y ≡ false
    → IsNoContext r × (begins_again (begins r ∷ c) ≡ false)
inside-context the_context c y ys p e again = let h : [] ≡ y ∷ ys = sym p ∙ e in cc
inside-context (the_context_of i) c y ys p e again = let h : [] ≡ y ∷ ys = sym p ∙ e in cc
inside-context further_context [] y ys p e again = cc
inside-context further_context (begins (the_context_of i) ∷ c) y ys p e again =
    let h : begins (the_context_of i) ∷ c ≡ y = cc in absurd (false-true (sym again ∙ sym (ap begins_again h)))
inside-context further_context (_ ∷ c) y ys p e again = cc
inside-context _ c y ys p e again = (tt, refl)

not-again : (y : Before) (ys : List Before) → looks (y ∷ ys) ≡ true → begins_again y ≡ false
not-again y ys l = go (begins_again y) l
  where
    go : (t : Bool) → not t ≡ true → t ≡ false
    go true e = absurd (false-true e)
    go false e = refl

ends-step : (last : ℕ) (c : Before) → IsText c → IsPlaced c → (looks (around c) ≡ true → WithsSay last c) → looks (around (ends ∷ c)) ≡ true
    → WithsSay last (ends ∷ c)
unfolding IsNoWith behind
ends-step last c t p say l u = go (around c) refl (ap looks (outside-behind c) ∙ l)
  where
    go : (bs : List Before) → around c ≡ bs → looks (all_but_innermost (around c)) ≡ true
        → list_any (is_withed_by u) (table_at last (ends ∷ c)).withs ≡ withed_around u (ends ∷ c)
    go [] e q = absurd (false-true (ap (λ bs. looks (all_but_innermost bs)) (sym e) ∙ q))
    go (x ∷ []) e q = absurd (false-true (ap (λ bs. looks (all_but_innermost bs)) (sym e) ∙ q))
    go (x ∷ y ∷ ys) e q =
        let first = around-of_first 0 c x (y ∷ ys) e in
        let g = around-begins 0 c x (y ∷ ys) e in
        let stands : Stands (begins g.0 ∷ g.1) c = subst (λ z. Stands z c) g.2 first.1 in
        let outer : around g.1 ≡ y ∷ ys = ap all_but_innermost (ap around (sym g.2) ∙ first.0) in
        let inner =
        inside-context g.0 g.1 y ys (placed-stands (begins g.0 ∷ g.1) c stands p).0 outer
        (not-again y ys (ap (λ bs. looks (all_but_innermost bs)) (sym e) ∙ q)) in
        let text : IsText (begins g.0 ∷ g.1) = text-stands (begins g.0 ∷ g.1) c stands t in
        let f : Founder (number_of (begins g.0 ∷ g.1)) c =
        farther-founder (number_of (begins g.0 ∷ g.1)) (begins g.0 ∷ g.1) c stands (founder g.0 g.1 inner.0 text) in
        let here : looks (around c) ≡ true = ap looks e ∙ (ap (λ z. not (begins_again z)) g.2 ∙ ap not inner.1) in
        say here u
        ∙ ap is_some (tests-same u c (ends ∷ c) c (λ name b s. (
        ap (list_any (λ z. eqb (number_of z) (region_of_position b))) e
        ∙ (or-false (eqb (number_of x) (region_of_position b)) _
        (ap (λ z. eqb (number_of z) (region_of_position b)) g.2 ∙ founder-apart (number_of (begins g.0 ∷ g.1)) c c f p (stands-here c) name b s)
        ∙ ap (list_any (λ z. eqb (number_of z) (region_of_position b))) (ap all_but_innermost (sym e) ∙ outside-behind c)))))

-- ---- a with clause

cond-some : (t : Bool) (x : Before) (y : Option Before) → is_some (cond t (Some x) y) ≡ (t || is_some y)
cond-some true x y = refl
cond-some false x y = refl

and-true : (t x : Bool) → x ≡ true → (t && x) ≡ t
and-true true x e = e
and-true false x e = refl

stands-itself : (c : Before) → looks (around c) ≡ true → stands_around c c ≡ true
stands-itself c l = go (around c) l
  where
    go : (bs : List Before) → looks bs ≡ true → list_any (λ x. eqb (number_of x) (number_of_innermost bs)) bs ≡ true
    go [] e = absurd (false-true e)
    go (x ∷ xs) e = ap (λ t. t || list_any (λ y. eqb (number_of y) (number_of x)) xs) (eq-eqb (number_of x) (number_of x) refl)

withed-more : (u : PredefinedUnit) (name : Name) (n : Names)
    → list_any (is_withed_by u) (withed name (library_unit n name) n).withs ≡ (withs_unit u (with_unit name) || list_any (is_withed_by u) n.withs)
unfolding withed library_unit
withed-more u name n = go (and_then (unit_named name) unit_to_with)
  where
    package-more : (parts : List Identifier)
        → list_any (is_withed_by u) (withed name (package_to_with n name parts) n).withs ≡ list_any (is_withed_by u) n.withs
    package-more [] = by_name (package_named n name.parts.first.text)
      where
        by_name : (x : Option ℕ) → list_any (is_withed_by u) (withed name (option_map denotes.Entity x) n).withs ≡ list_any (is_withed_by u) n.withs
        by_name None = refl
        by_name (Some e) = refl
    package-more (i ∷ rest) = refl

    go : (x : Option Denoted)
        → list_any (is_withed_by u) (withed name (option_or x (package_to_with n name name.parts.others)) n).withs
        ≡ (is_withed_unit u x || list_any (is_withed_by u) n.withs)
    go None = package-more name.parts.others
    go (Some d) = refl

with-step : (last : ℕ) (name : Name) (c : Before) → looks (around c) ≡ true → WithsSay last c → WithsSay last (with_unit name ∷ c)
unfolding behind
with-step last name c l say u =
    withed-more u name (table_at last c)
    ∙ (ap (λ t. withs_unit u (with_unit name) || t) (say u)
    ∙ (ap (λ t. t || withed_around u c) (sym (and-true (withs_unit u (with_unit name)) (stands_around c c) (stands-itself c l)))
    ∙ sym (cond-some (test u c (with_unit name) c) (with_unit name ∷ c) (nearest (test u c) c))))

-- ---- contexts

context-step : (last : ℕ) (c : Before) → around c ≡ [] → WithsSay last (begins the_context ∷ c)
unfolding behind
context-step last c top u =
    ap (λ x. list_any (is_withed_by u) x.withs) (clauses-context (table_at last c)).1
    ∙ ap is_some (sym (none-withed u (begins the_context ∷ c) c (λ name b s. (
    or-false (eqb (number_of (begins the_context ∷ c)) (region_of_position b)) _
    (later-apart (number_of (begins the_context ∷ c)) c (let h = number-beginning (begins the_context) c in omega arith) name b s)
    ∙ ap (list_any (λ z. eqb (number_of z) (region_of_position b))) top))))

nearest-within : (f : Occurrence → Before → Bool) (before d : Before) → Stands d before
    → ((o : Occurrence) (b : Before) → Stands (o ∷ b) before → f o b ≡ true → Stands (o ∷ b) d) → nearest f before ≡ nearest f d
nearest-within f [] d s within = ap (nearest f) (sym s)
nearest-within f (o ∷ before) d (inl e) within = ap (nearest f) (sym e)
nearest-within f (o ∷ before) d (inr s) within = go (f o before) refl (nearest-within f before d s (λ p b q. within p b (inr q)))
  where
    go : (t : Bool) → f o before ≡ t → nearest f before ≡ nearest f d → cond (f o before) (Some (o ∷ before)) (nearest f before) ≡ nearest f d
    go true e more = let l = stands-length (o ∷ before) d (within o before (inl refl) e) in let m = stands-length d before s in absurd (omega arith)
    go false e more = ap (λ t. cond t (Some (o ∷ before)) (nearest f before)) e ∙ more

-- the context of a body, with what it adds to the context of the package's declaration
module _ (last : ℕ) (i : Identifier) (c : Before) (t : IsText (begins (the_context_of i) ∷ c)) (p : IsPlaced c) (top : around c ≡ [])
    (complete : bodies_complete_before c ≡ true)
    (older : (d : Before) → Stands d c → looks (around d) ≡ true → WithsSay last d) where
  abbrev again : Before
  again = begins (the_context_of i) ∷ c

  abbrev here : Before
  here = begins further_context ∷ begins (the_context_of i) ∷ c

  -- it is its own, and then that of the declaration
  around-here : (b : Before) → stands_around here b ≡ (eqb (number_of here) (region_of_position b) || (eqb (number_of again) (region_of_position b) || false))
  around-here b = ap (λ bs. list_any (λ z. eqb (number_of z) (region_of_position b)) (here ∷ again ∷ bs)) top

  here-later : Withs c (λ name b. eqb (number_of here) (region_of_position b) ≡ false)
  here-later = later-apart (number_of here) c (let h = number-beginning (begins further_context) again in omega arith)

  here-withs : (table_at last here).withs ≡ withs_of (and_then (package_named (table_at last c) i.text) (context_of_package (table_at last c)))
  unfolding behind begun
  here-withs = withs-behind (begins further_context) (table_at last again) tt ∙ ap (λ x. x.withs) (clauses-context_again _ (table_at last c)).1

  -- the body of no package
  nothing-further : package_named (table_at last c) i.text ≡ None → number_of again ≡ suc (length c) → WithsSay last here
  nothing-further named number u =
      ap (list_any (is_withed_by u)) (here-withs ∙ ap (λ x. withs_of (and_then x (context_of_package (table_at last c)))) named)
      ∙ ap is_some (sym (none-withed u here c (λ name b s. (
      around-here b
      ∙ (or-false (eqb (number_of here) (region_of_position b)) _ (here-later name b s)
      ∙ or-false (eqb (number_of again) (region_of_position b)) false (later-apart (number_of again) c (omega arith) name b s))))))

  -- the body of the package that j declares
  module _ (j : Identifier) (bd : Before) (stands : Stands (declares_unit j the_package ∷ bd) c)
      (number : number_of again ≡ number_of_innermost (around (declares_unit j the_package ∷ bd))) where
    abbrev d : Before
    d = declares_unit j the_package ∷ bd

    home : PackageHome j bd
    home = package-home j bd (placed-stands (declares_unit j the_package ∷ bd) c stands p).0

    abbrev v : Before
    v = begins the_context ∷ home.context

    v-stands : Stands v bd
    v-stands = (around-of_first 0 bd v [] home.alone).1

    again-number : number_of again ≡ length v
    again-number = number ∙ home.number

    around-d : (b : Before) → stands_around d b ≡ (eqb (number_of again) (region_of_position b) || false)
    around-d b =
        ap (λ bs. list_any (λ z. eqb (number_of z) (region_of_position b)) bs) home.alone
        ∙ ap (λ k. eqb k (region_of_position b) || false) (number-beginning (begins the_context) home.context ∙ sym again-number)

    further-d : Withs c (λ name b. stands_around here b ≡ stands_around d b)
    further-d name b s = around-here b ∙ (or-false (eqb (number_of here) (region_of_position b)) _ (here-later name b s) ∙ sym (around-d b))

    -- the clauses there stand before the declaration
    clause-before : (name : Name) (b : Before) → Stands (with_unit name ∷ b) c → eqb (number_of again) (region_of_position b) ≡ true
        → Stands (with_unit name ∷ b) d
    clause-before name b s e = go (stands-either (with_unit name ∷ b) d c s stands)
      where
        f : ClauseFounder b
        f = clause-founder b (placed-stands (with_unit name ∷ b) c s p).0

        same : length f.first ≡ length v
        same = sym f.number ∙ (sym (eqb-true (number_of again) (region_of_position b) e) ∙ again-number)

        longer : length f.first < length d
        longer = let h = stands-length v bd v-stands in let q : length f.first ≡ length v = same in omega arith

        go : Stands (with_unit name ∷ b) d ⊎ Stands d (with_unit name ∷ b) → Stands (with_unit name ∷ b) d
        go (inl h) = h
        go (inr (inl q)) = subst (λ z. Stands (with_unit name ∷ b) z) (sym q) (stands-here (with_unit name ∷ b))
        go (inr (inr h)) = absurd (false-true (f.clauses d h longer))

    or-true : (x : Bool) → (x || false) ≡ true → x ≡ true
    or-true true e = refl
    or-true false e = e

    within : (u : PredefinedUnit) (o : Occurrence) (b : Before) → Stands (o ∷ b) c → test u here o b ≡ true → Stands (o ∷ b) d
    within u (with_unit name) b s e =
        let both = and_parts (withs_unit u (with_unit name)) (stands_around here b) e in
        clause-before name b s (or-true _ (sym (around-d b) ∙ (sym (further-d name b s) ∙ both.1)))
    within u _ b s e = absurd (false-true e)

    package-further : (table_at last here).withs ≡ (table_at last d).withs → WithsSay last here
    package-further same u =
        ap (list_any (is_withed_by u)) same
        ∙ (older d stands (ap looks home.alone) u
        ∙ ap is_some (sym (
        nearest-within (test u here) c d stands (within u)
        ∙ tests-same u here d d (λ name b s. further-d name b (stands-trans (with_unit name ∷ b) d c s stands)))))

  further-step : Kept last c → WithsSay last here
  unfolding context_of_package
  further-step k = go (package-sought last i.text c k)
    where
      number : number_of again ≡ context_around number_of_innermost (package_declared number_of_innermost i.text c) (suc (length c))
      number = number-beginning (begins (the_context_of i)) c

      go : PackageSought last i.text c → WithsSay last here
      go (no_package named e) = nothing-further named (number ∙ ap (λ x. context_around number_of_innermost x (suc (length c))) e)
      go (package_there j bd f e) =
          let x =
          k.contexts.there j bd
          (begun-stands c (declares_unit j the_package) bd (package_region j) t.2 (settled-behind (the_context_of i) c t.0 refl) f.stands refl) in
          package-further j bd f.stands (number ∙ ap (λ y. context_around number_of_innermost y (suc (length c))) e)
          (here-withs ∙ (ap withs_of (ap (λ y. and_then y (context_of_package (table_at last c))) f.named ∙ x.1) ∙ x.3))

-- ---- all occurrences

further-withs : (last : ℕ) (c : Before) → begins_again c ≡ true → IsText c → IsPlaced c → bodies_complete_before c ≡ true
    → ((d : Before) → Stands d c → looks (around d) ≡ true → WithsSay last d)
    → WithsSay last (begins further_context ∷ c)
further-withs last (begins (the_context_of i) ∷ c) e t p complete older =
    further-step last i c t p.1 p.0 complete (λ d s l. older d (inr s) l)
    (kept last c t.2 (and_parts (completes_if_body (begins (the_context_of i)) c) (bodies_complete_before c) complete).1)
further-withs last _ e t p complete older = cc

withs-step : (last : ℕ) (o : Occurrence) (c : Before) → IsText (o ∷ c) → IsPlaced (o ∷ c) → bodies_complete_before c ≡ true
    → ((d : Before) → Stands d c → looks (around d) ≡ true → WithsSay last d)
    → looks (around (o ∷ c)) ≡ true → WithsSay last (o ∷ c)
unfolding IsNoWith
withs-step last (begins the_context) c t p complete older l = context-step last c p.0
withs-step last (begins (the_context_of i)) c t p complete older l = absurd (false-true l)
withs-step last (begins further_context) c t p complete older l = further-withs last c p.0 t.2 p.1 complete older
withs-step last (begins r) c t p complete older l = begins-step last r c tt t p.1 (older c (stands-here c) p.0)
withs-step last ends c t p complete older l = ends-step last c t.2 p.1 (older c (stands-here c)) l
withs-step last (with_unit name) c t p complete older l = let h = clauses-look c p.0 in with-step last name c h (older c (stands-here c) h)
withs-step last (declares_unit i the_package) c t p complete older l =
    calm-step last (declares_unit i the_package) c tt tt refl (older c (stands-here c) (ap looks p.0.1))
withs-step last o c t p complete older l = calm-step last o c tt tt refl (older c (stands-here c) l)

pub withs-kept : (last : ℕ) (c : Before) → IsText c → IsPlaced c → bodies_complete_before c ≡ true → (d : Before) → Stands d c → looks (around d) ≡ true
    → WithsSay last d
withs-kept last [] t p complete d s l = absurd (false-true (ap (λ z. looks (around z)) (sym s) ∙ l))
withs-kept last (o ∷ c) t p complete d (inl e) l =
    let more = (and_parts (completes_if_body o c) (bodies_complete_before c) complete).1 in
    subst (WithsSay last) (sym e) (withs-step last o c t p more (withs-kept last c t.2 p.1 more) (ap (λ z. looks (around z)) (sym e) ∙ l))
withs-kept last (o ∷ c) t p complete d (inr s) l = withs-kept last c t.2 p.1 (and_parts (completes_if_body o c) (bodies_complete_before c) complete).1 d s l
