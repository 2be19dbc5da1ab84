-- Where the table of a source knows the unit of each body, each body completes a unit, and is its only one.
use Rattle.std.proofs.Common.{◌≡◌, inl, inr, ℕ, ◌≤◌, true, false, ◌&&◌, ◌||◌, leb, [], ◌∷◌, Option}
use Rattle.std.proofs.Common.{Some, None, eq-eqb, refl, sym, ap, subst, ◌∙◌, arith, leb-true}
use Rattle.std.proofs.lemmas.Bool.{and_parts}
use Rattle.ada_tree.specs.declared.names.Identifier.{Identifier}
use Rattle.ada_regions.specs.declared.entities.UnitKind.{UnitKind}
use Rattle.ada_regions.specs.declared.entities.UnitKind.TheVariants as unit
use Rattle.ada_regions.specs.declared.table.Names.{Names}
use Rattle.ada_regions.specs.Words.{and_then}
use Rattle.ada_regions.specs.Names.{entity_of, entity_denoted}
use Rattle.ada_regions.specs.Occurrences.{Occurrence, task_body, protected_body, begins}
use Rattle.ada_regions.specs.Completions.{is_unit, has_body}
use Rattle.ada_regions.specs.Numbered.{last_priority_of}
use Rattle.source_laws.specs.Positions.{Before, Stands, end_of}
use Rattle.source_laws.specs.Regions.{is_first_body, completes_if_body, bodies_complete_before}
use Rattle.source_laws.specs.Tables.{table_at}
use Rattle.source_laws.specs.Places.{places_in, places_before, is_among, all_differ}
use Rattle.source_laws.proofs.Names.PositionLemmas.{stands-here, stands-tail}
use Rattle.source_laws.proofs.Names.Denoting.{same_place-itself, among-append, stays-noted}
use Rattle.source_laws.proofs.Names.Lawful.{table_at_the_end, text-stands}
use Rattle.source_laws.proofs.Names.Texts.{IsText}
use Rattle.source_laws.proofs.Names.UnitTexts.{unit-text}
use Rattle.source_laws.specs.Bodies.{Named, body_named, is_same_kind, one_if, is_entity, denotes_as_body}
use Rattle.source_laws.specs.Bodies.{bodies_denoting, is_known_unit, is_known_body, are_known_bodies}
use Rattle.source_laws.specs.SourceLaws.{BodiesCompleteWhereKnown}
use Rattle.source_laws.proofs.Sources.Traces.{unit-stays, one-kind, no-subprogram, UnitBody, Traced, by_subprogram, by_unit, traced}
use Rattle.source_laws.proofs.Sources.FirstBodies.{first-by-table}

-- ---- each body is known

known-at : (n : Names) (all : Before) (o : Occurrence) (c before : Before) → Stands (o ∷ c) before → are_known_bodies n all before ≡ true
    → is_known_body n all (body_named o) ≡ true
known-at n all o c [] s known = cc
known-at n all o c (p ∷ before) (inl e) known =
    let h : o ≡ p = cc in
    ap (λ z. is_known_body n all (body_named z)) h ∙ (and_parts (is_known_body n all (body_named p)) (are_known_bodies n all before) known).0
known-at n all o c (p ∷ before) (inr s) known =
    known-at n all o c before s (and_parts (is_known_body n all (body_named p)) (are_known_bodies n all before) known).1

-- ---- one body at most denotes a unit

module _ (n : Names) (kind : UnitKind) (e : ℕ) where
  weight : Before → ℕ
  weight [] = 0
  weight (o ∷ c) = denotes_as_body n kind e (body_named o)

  counted : (x before : Before) → Stands x before → weight x ≤ bodies_denoting n kind e before
  unfolding weight
  counted x [] s = let h : weight x ≡ 0 = ap weight s in omega arith
  counted x (o ∷ before) (inl q) = let h : weight x ≡ denotes_as_body n kind e (body_named o) = ap weight q in omega arith
  counted x (o ∷ before) (inr s) = let h = counted x before s in omega arith

  counted-once : (x y before : Before) → Stands x before → Stands y before → weight x ≡ 1 → weight y ≡ 1 → bodies_denoting n kind e before ≤ 1 → x ≡ y
  unfolding weight
  counted-once x y [] s t one other most = s ∙ sym t
  counted-once x y (o ∷ before) (inl p) (inl q) one other most = p ∙ sym q
  counted-once x y (o ∷ before) (inl p) (inr t) one other most =
      let h : weight x ≡ denotes_as_body n kind e (body_named o) = ap weight p in let g = counted y before t in absurd (omega arith)
  counted-once x y (o ∷ before) (inr s) (inl q) one other most =
      let h : weight y ≡ denotes_as_body n kind e (body_named o) = ap weight q in let g = counted x before s in absurd (omega arith)
  counted-once x y (o ∷ before) (inr s) (inr t) one other most = counted-once x y before s t one other (omega arith)

same-kind : (kind : UnitKind) → is_same_kind kind kind ≡ true
same-kind unit.Task = refl
same-kind unit.Protected = refl

denotes-one : (n : Names) (kind other : UnitKind) (e : ℕ) (i : Identifier) → is_same_kind kind other ≡ true → entity_denoted n i.place ≡ Some e
    → denotes_as_body n kind e (Some (other, i)) ≡ 1
denotes-one n kind other e i same denoted =
    ap (λ t. one_if (t && is_entity e (entity_denoted n i.place))) same ∙ (ap (λ x. one_if (is_entity e x)) denoted ∙ ap one_if (eq-eqb e e refl))

weigh : (n : Names) (kind : UnitKind) (e : ℕ) (o : Occurrence) (c : Before) (other : UnitKind) (j : Identifier) → body_named o ≡ Some (other, j)
    → is_same_kind kind other ≡ true → entity_denoted n j.place ≡ Some e
    → weight n kind e (o ∷ c) ≡ 1
unfolding weight
weigh n kind e o c other j named kinds denoted = ap (denotes_as_body n kind e) named ∙ denotes-one n kind other e j kinds denoted

-- ---- the place of a body's name

name_in : Identifier → Option Named → Identifier
name_in other None = other
name_in other (Some b) = b.1

kind_in : UnitKind → Option Named → UnitKind
kind_in other None = other
kind_in other (Some b) = b.0

named-place : (o : Occurrence) (kind : UnitKind) (i : Identifier) → body_named o ≡ Some (kind, i) → places_in o ≡ i.place ∷ []
unfolding name_in
named-place (begins (task_body j place)) kind i e = ap (λ x. (name_in j x).place ∷ []) e
named-place (begins (protected_body j)) kind i e = ap (λ x. (name_in j x).place ∷ []) e
named-place _ kind i e = cc

same-named : (x y : Option Named) (a b : UnitKind) (i j : Identifier) → x ≡ Some (a, i) → y ≡ Some (b, j) → x ≡ y → (a ≡ b) × (i ≡ j)
unfolding name_in kind_in
same-named x y a b i j p q e = (ap (kind_in a) (sym p ∙ (e ∙ q)), ap (name_in i) (sym p ∙ (e ∙ q)))

pub among-place : (o : Occurrence) (c : Before) (i : Identifier) → places_in o ≡ i.place ∷ [] → is_among i.place (places_before (o ∷ c)) ≡ true
among-place o c i e =
    among-append i.place (places_in o) (places_before c)
    ∙ ap (λ t. t || is_among i.place (places_before c)) (ap (is_among i.place) e ∙ ap (λ t. t || false) (same_place-itself i.place))

-- ---- a body

module _ (last : ℕ) (end : Before) (t : IsText end) (apart : all_differ (places_before end) ≡ true) where
  -- it is where the unit got its body
  its-own : (kind : UnitKind) (i : Identifier) (e : ℕ) (o : Occurrence) (c : Before) → Stands (o ∷ c) end → body_named o ≡ Some (kind, i)
      → bodies_complete_before c ≡ true
      → is_unit kind (table_at last end) e ≡ true → entity_denoted (table_at last end) i.place ≡ Some e → bodies_denoting (table_at last end) kind e end ≤ 1
      → UnitBody last e end → is_first_body kind i.text c ≡ true
  its-own kind i e o c s named complete is denoted most u =
      let n = table_at last end in
      let there : is_unit u.kind n e ≡ true = unit-stays last u.position end (stands-tail u.begins_it u.position end u.stands) t u.kind e u.first.unit in
      let kinds : is_same_kind kind u.kind ≡ true = one-kind n e kind u.kind is there in
      let kept : entity_denoted n u.name.place ≡ Some e =
      ap (λ d. and_then d entity_of)
      (stays-noted last u.name.place (u.begins_it ∷ u.position) end u.stands apart
      (among-place u.begins_it u.position u.name (named-place u.begins_it u.kind u.name u.named)))
      ∙ u.first.denoted in
      let own : weight n kind e (u.begins_it ∷ u.position) ≡ 1 = weigh n kind e u.begins_it u.position u.kind u.name u.named kinds kept in
      let here : weight n kind e (o ∷ c) ≡ 1 = weigh n kind e o c kind i named (same-kind kind) denoted in
      let same : u.begins_it ∷ u.position ≡ o ∷ c = counted-once n kind e (u.begins_it ∷ u.position) (o ∷ c) end u.stands s own here most in
      let first : o ≡ u.begins_it = first-same u.begins_it o u.position c same in
      let rest : u.position ≡ c = rest-same u.begins_it o u.position c same in
      let names = same-named (body_named o) (body_named u.begins_it) kind u.kind i u.name named u.named (ap body_named first) in
      subst (λ k. is_first_body k i.text c ≡ true) (sym names.0)
      (subst (λ j. is_first_body u.kind j.text c ≡ true) (sym names.1) (subst (λ b. is_first_body u.kind u.name.text b ≡ true) rest
      (first-by-table last u.kind u.name u.position e (text-stands u.position end (stands-tail u.begins_it u.position end u.stands) t)
      (subst (λ b. bodies_complete_before b ≡ true) (sym rest) complete) u.first.bound u.first.unit u.first.first)))
    where
      first-same : (p o : Occurrence) (b c : Before) → p ∷ b ≡ o ∷ c → o ≡ p
      first-same p o b c e = cc

      rest-same : (p o : Occurrence) (b c : Before) → p ∷ b ≡ o ∷ c → b ≡ c
      rest-same p o b c e = cc

  known-completes : (kind : UnitKind) (i : Identifier) (o : Occurrence) (c : Before) → Stands (o ∷ c) end → body_named o ≡ Some (kind, i)
      → bodies_complete_before c ≡ true
      → is_known_unit (table_at last end) end kind (entity_denoted (table_at last end) i.place) ≡ true → is_first_body kind i.text c ≡ true
  known-completes kind i o c s named complete known = go (entity_denoted (table_at last end) i.place) refl known
    where
      go : (x : Option ℕ) → entity_denoted (table_at last end) i.place ≡ x → is_known_unit (table_at last end) end kind x ≡ true
          → is_first_body kind i.text c ≡ true
      go None d q = cc
      go (Some e) d q =
          let n = table_at last end in
          let both = and_parts (is_unit kind n e) (has_body n e && leb (bodies_denoting n kind e end) 1) q in
          let more = and_parts (has_body n e) (leb (bodies_denoting n kind e end) 1) both.1 in
          choose e d both.0 (leb-true (bodies_denoting n kind e end) 1 more.1) (traced last e end t more.0)
        where
          choose : (e : ℕ) → entity_denoted (table_at last end) i.place ≡ Some e → is_unit kind (table_at last end) e ≡ true
              → bodies_denoting (table_at last end) kind e end ≤ 1 → Traced last e end → is_first_body kind i.text c ≡ true
          choose e d is most (by_subprogram b stands specified) = absurd (no-subprogram last b end stands t kind e specified is)
          choose e d is most (by_unit u) = its-own kind i e o c s named complete is d most u

  completes-here : (o : Occurrence) (c : Before) → Stands (o ∷ c) end → bodies_complete_before c ≡ true
      → is_known_body (table_at last end) end (body_named o) ≡ true → completes_if_body o c ≡ true
  completes-here (begins (task_body i place)) c s complete known = known-completes unit.Task i (begins (task_body i place)) c s refl complete known
  completes-here (begins (protected_body i)) c s complete known = known-completes unit.Protected i (begins (protected_body i)) c s refl complete known
  completes-here _ c s complete known = refl

  all-complete : are_known_bodies (table_at last end) end end ≡ true → (before : Before) → Stands before end → bodies_complete_before before ≡ true
  all-complete known [] s = refl
  all-complete known (o ∷ c) s =
      let rest = all-complete known c (stands-tail o c end s) in
      rw (completes-here o c s rest (known-at (table_at last end) end o c end s known), rest) refl

pub bodies_complete_where_known : BodiesCompleteWhereKnown
bodies_complete_where_known unit apart known =
    let last = last_priority_of unit.pragmas in
    let end = end_of unit in
    all-complete last end (unit-text unit) apart (subst (λ n. are_known_bodies n end end ≡ true) (sym (table_at_the_end unit)) known) end (stands-here end)
