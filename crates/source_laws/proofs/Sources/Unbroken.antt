-- In a source that breaks no rule of legality the table knows the unit of each body, so each body completes a unit.
use Rattle.std.proofs.Common.{◌≡◌, inl, inr, ℕ, ◌+◌, ◌≤◌, Bool, true, false, cond, ◌&&◌, leb, le-leb, []}
use Rattle.std.proofs.Common.{◌∷◌, Option, Some, None, eqb, eq-eqb, refl, sym, ap, subst, ◌∙◌, arith}
use Rattle.ada_tree.specs.declared.names.Identifier.{Identifier}
use Rattle.ada_tree.specs.declared.units.Unit.{Unit as Tree}
use Rattle.ada_tree.specs.Shape.{is_shaped, unit_fits}
use Rattle.ada_tree.specs.Written.{lexemes_of}
use Rattle.ada_legality.specs.declared.findings.BodyKind.{BodyKind}
use Rattle.ada_legality.specs.declared.findings.BodyKind.TheVariants as completing
use Rattle.ada_legality.specs.Findings.{Found}
use Rattle.ada_legality.specs.Faults.{faults_in, walked, found_of, first_fault_of}
use Rattle.ada_legality.specs.InForce.{deadline_ranges_of, in_force_by}
use Rattle.ada_legality.specs.Units.{known_of}
use Rattle.ada_legality.specs.WholeSource.{same_kind, has_known_body, judged_from, found_beside}
use Rattle.ada_regions.specs.declared.entities.UnitKind.{UnitKind}
use Rattle.ada_regions.specs.declared.entities.UnitKind.TheVariants as unit
use Rattle.ada_regions.specs.declared.table.Names.{Names}
use Rattle.ada_regions.specs.Words.{and_then}
use Rattle.ada_regions.specs.Names.{entity_of, entity_denoted}
use Rattle.ada_regions.specs.Completions.{is_unit, has_body}
use Rattle.ada_regions.specs.Occurrences.{Occurrence, Declared, a_task, a_protected, task_body, protected_body, begins, declares}
use Rattle.ada_regions.specs.NamesInUnits.{names_in_unit}
use Rattle.ada_regions.specs.Numbered.{last_priority_of}
use Rattle.grammar_laws.proofs.Reading.Whole.{read_is_spelt}
use Rattle.source_laws.specs.Positions.{Before, Stands, read_on, end_of}
use Rattle.source_laws.specs.Declarations.{is_unit_of}
use Rattle.source_laws.specs.Tables.{table_at}
use Rattle.source_laws.specs.Places.{places_before, all_differ}
use Rattle.source_laws.proofs.Names.PositionLemmas.{stands-here, stands-tail}
use Rattle.source_laws.proofs.Names.Denoting.{stays-noted}
use Rattle.source_laws.proofs.Names.Lawful.{table_at_the_end}
use Rattle.source_laws.proofs.Names.Naming.{names_by_position}
use Rattle.source_laws.proofs.Names.Texts.{IsText}
use Rattle.source_laws.proofs.Names.UnitTexts.{unit-text}
use Rattle.source_laws.specs.Bodies.{body_named, is_same_kind, one_if, is_entity, denotes_as_body}
use Rattle.source_laws.specs.Bodies.{bodies_denoting, is_known_unit, is_known_body, are_known_bodies}
use Rattle.source_laws.specs.SourceLaws.{UnbrokenBodiesComplete, UnbrokenNamesByPosition}
use Rattle.source_laws.proofs.Sources.Apart.{names_stand_apart}
use Rattle.source_laws.proofs.Sources.KnownBodies.{bodies_complete_where_known, among-place}
use Rattle.source_laws.proofs.Sources.Quiet.{Weights, worth, if_denoted, if_no_unit, body_tells, declared_tells, tells, told}
use Rattle.source_laws.proofs.Sources.ToldUnits.{tells-unit}
use Rattle.source_laws.proofs.Sources.Founded.{unit-founded}
use Rattle.source_laws.proofs.Sources.Faultless.{none-found, broken_weights, is_this, completed_weights}
use Rattle.source_laws.proofs.Sources.Faultless.{declared_weights, broken-worth, completed-worth, declared-once}
use Rattle.image_laws.proofs.Forms.Nothing.{none-of}

abbrev of_unit : UnitKind → BodyKind
of_unit unit.Task = completing.Task
of_unit unit.Protected = completing.Protected

-- ---- what is told on the way to a position

told-read : (w : Weights) (n : Names) (os before : Before) → told w n (read_on os before) ≡ told w n os + told w n before
told-read w n [] before = omega arith
told-read w n (o ∷ os) before = let h = told-read w n os (o ∷ before) in omega arith

tells_at : Weights → Names → Before → ℕ
tells_at w n [] = 0
tells_at w n (o ∷ c) = tells w n o

told-there : (w : Weights) (n : Names) (x before : Before) → Stands x before → tells_at w n x ≤ told w n before
unfolding tells_at
told-there w n x [] s = let h : tells_at w n x ≡ 0 = ap (tells_at w n) s in omega arith
told-there w n x (o ∷ before) (inl e) = let h : tells_at w n x ≡ tells w n o = ap (tells_at w n) e in omega arith
told-there w n x (o ∷ before) (inr s) = let h = told-there w n x before s in omega arith

pub told-at : (w : Weights) (n : Names) (o : Occurrence) (c before : Before) → Stands (o ∷ c) before → tells w n o ≤ told w n before
unfolding tells_at
told-at w n o c before s = told-there w n (o ∷ c) before s

-- ---- what a body and a declaration tell

-- one that is worth nothing denotes a unit of its kind
unit-denoted : (n : Names) (kind : UnitKind) (of_kind : BodyKind) (i : Identifier) → body_tells broken_weights n kind of_kind i ≤ 0
    → (e : ℕ) × (entity_denoted n i.place ≡ Some e) × (is_unit kind n e ≡ true)
unit-denoted n kind of_kind i none = go (entity_denoted n i.place) refl none
  where
    go : (x : Option ℕ) → entity_denoted n i.place ≡ x → if_no_unit 1 n kind x + if_denoted (λ e. 0) x ≤ 0
        → (e : ℕ) × (entity_denoted n i.place ≡ Some e) × (is_unit kind n e ≡ true)
    go None d none = absurd (omega arith)
    go (Some e) d none = (e, d, is-so (is_unit kind n e) none)
      where
        is-so : (t : Bool) → cond t 0 1 + 0 ≤ 0 → t ≡ true
        is-so true p = refl
        is-so false p = absurd (omega arith)

kinds-agree : (a b : UnitKind) → is_same_kind a b ≡ same_kind (of_unit a) (of_unit b)
kinds-agree unit.Task unit.Task = refl
kinds-agree unit.Protected unit.Protected = refl
kinds-agree unit.Task unit.Protected = refl
kinds-agree unit.Protected unit.Task = refl

one-body : (n : Names) (kind other : UnitKind) (e : ℕ) (i : Identifier)
    → denotes_as_body n kind e (Some (other, i)) ≤ body_tells (completed_weights (of_unit kind) e) n other (of_unit other) i
one-body n kind other e i = go (entity_denoted n i.place)
  where
    none-there : (t : Bool) → one_if (t && false) ≤ 0
    none-there true = omega arith
    none-there false = omega arith

    go : (x : Option ℕ) → one_if (is_same_kind kind other && is_entity e x) ≤ if_no_unit 0 n other x + if_denoted (is_this (of_unit kind) e (of_unit other)) x
    go None = let h = none-there (is_same_kind kind other) in omega arith
    go (Some f) =
        let h : one_if (is_same_kind kind other && eqb e f) ≡ is_this (of_unit kind) e (of_unit other) f =
        ap (λ t. one_if (t && eqb e f)) (kinds-agree kind other) in
        omega arith

body-weight : (n : Names) (kind : UnitKind) (e : ℕ) (o : Occurrence) → denotes_as_body n kind e (body_named o) ≤ tells (completed_weights (of_unit kind) e) n o
body-weight n kind e (begins (task_body i place)) = one-body n kind unit.Task e i
body-weight n kind e (begins (protected_body i)) = one-body n kind unit.Protected e i
body-weight n kind e _ = omega arith

bodies-weight : (n : Names) (kind : UnitKind) (e : ℕ) (before : Before) → bodies_denoting n kind e before ≤ told (completed_weights (of_unit kind) e) n before
bodies-weight n kind e [] = omega arith
bodies-weight n kind e (o ∷ before) = let h = body-weight n kind e o in let g = bodies-weight n kind e before in omega arith

this-one : (kind : BodyKind) (e : ℕ) → same_kind kind kind ≡ true → is_this kind e kind e ≡ 1
this-one kind e same = ap (λ t. one_if (t && eqb e e)) same ∙ ap one_if (eq-eqb e e refl)

-- the declaration of a unit of this kind
declared-weight : (n : Names) (kind : UnitKind) (e : ℕ) (j : Identifier) (what : Declared) → is_unit_of kind (declares j what) ≡ true
    → entity_denoted n j.place ≡ Some e
    → declared_tells (declared_weights (of_unit kind) e) n j what ≡ 1
declared-weight n unit.Task e j (a_task is_type aspects) is denoted =
    ap (if_denoted (is_this completing.Task e completing.Task)) denoted ∙ this-one completing.Task e refl
declared-weight n unit.Protected e j (a_protected is_type aspects) is denoted =
    ap (if_denoted (is_this completing.Protected e completing.Protected)) denoted ∙ this-one completing.Protected e refl
declared-weight n unit.Task e j (a_protected is_type aspects) is denoted = cc
declared-weight n unit.Protected e j (a_task is_type aspects) is denoted = cc
declared-weight n kind e j _ is denoted = cc

has-known : (n : Names) (kind : UnitKind) (e : ℕ) → has_known_body n (of_unit kind) e ≡ true → has_body n e ≡ true
unfolding has_known_body
has-known n unit.Task e is = is
has-known n unit.Protected e is = is

-- ---- where nothing is broken

-- what is found of a source, and what its occurrences tell by its table
pub record Sound (last : ℕ) (end : Before) (found : Found) : Type 0 where
  pub text : IsText end
  pub apart : all_differ (places_before end) ≡ true
  pub told : (w : Weights) → told w (table_at last end) end ≤ worth w found
  pub faultless : faults_in found ≡ []
  pub judged : faults_in (judged_from (table_at last end) found 0 found) ≡ []

module _ (last : ℕ) (end : Before) (found : Found) (s : Sound last end found) where
  -- a body denotes a unit of its kind
  body-denotes : (o : Occurrence) (c : Before) (kind : UnitKind) (i : Identifier) → Stands (o ∷ c) end
      → tells broken_weights (table_at last end) o ≡ body_tells broken_weights (table_at last end) kind (of_unit kind) i
      → (e : ℕ) × (entity_denoted (table_at last end) i.place ≡ Some e) × (is_unit kind (table_at last end) e ≡ true)
  body-denotes o c kind i stands e =
      unit-denoted (table_at last end) kind (of_unit kind) i
      (let h = told-at broken_weights (table_at last end) o c end stands in
      let g = s.told broken_weights in let f = broken-worth found s.faultless in omega arith)

  -- its unit was declared, so it has one body that the table knows
  unit-once : (kind : UnitKind) (e : ℕ) → is_unit kind (table_at last end) e ≡ true
      → (has_body (table_at last end) e ≡ true) × (bodies_denoting (table_at last end) kind e end ≤ 1)
  unit-once kind e is =
      let n = table_at last end in
      let f = unit-founded last kind e end s.text is in
      let kept : entity_denoted n f.name.place ≡ Some e =
      ap (λ d. and_then d entity_of)
      (stays-noted last f.name.place (declares f.name f.what ∷ f.position) end f.stands s.apart
      (among-place (declares f.name f.what) f.position f.name refl))
      ∙ f.denoted in
      let w = declared_weights (of_unit kind) e in
      let one : tells w n (declares f.name f.what) ≡ 1 = declared-weight n kind e f.name f.what f.of_kind kept in
      let positive : 1 ≤ worth w found = let h = told-at w n (declares f.name f.what) f.position end f.stands in let g = s.told w in omega arith in
      let once = declared-once n found (of_unit kind) e s.judged positive in (
        has-known n kind e once.0,
        (let h = bodies-weight n kind e end in
            let g = s.told (completed_weights (of_unit kind) e) in let f = completed-worth (of_unit kind) e found in let q = once.1 in omega arith),
      )

  known-unit : (kind : UnitKind) (i : Identifier)
      → (e : ℕ) × (entity_denoted (table_at last end) i.place ≡ Some e) × (is_unit kind (table_at last end) e ≡ true)
      → is_known_unit (table_at last end) end kind (entity_denoted (table_at last end) i.place) ≡ true
  known-unit kind i d =
      let n = table_at last end in
      let once = unit-once kind d.0 d.2 in
      ap (is_known_unit n end kind) d.1
      ∙ (ap (λ t. t && (has_body n d.0 && leb (bodies_denoting n kind d.0 end) 1)) d.2
      ∙ (ap (λ t. t && leb (bodies_denoting n kind d.0 end) 1) once.0 ∙ le-leb (bodies_denoting n kind d.0 end) 1 once.1))

  known-body : (o : Occurrence) (c : Before) → Stands (o ∷ c) end → is_known_body (table_at last end) end (body_named o) ≡ true
  known-body (begins (task_body i place)) c stands = known-unit unit.Task i (body-denotes (begins (task_body i place)) c unit.Task i stands refl)
  known-body (begins (protected_body i)) c stands = known-unit unit.Protected i (body-denotes (begins (protected_body i)) c unit.Protected i stands refl)
  known-body _ c stands = refl

  known-bodies : (before : Before) → Stands before end → are_known_bodies (table_at last end) end before ≡ true
  known-bodies [] stands = refl
  known-bodies (o ∷ c) stands = rw (known-body o c stands, known-bodies c (stands-tail o c end stands)) refl

-- ---- a source

-- what the walk finds, and what is found beside
walk-told : (unit : Tree) (n : Names) (w : Weights) → unit_fits 100 unit ≡ true → told w n (names_in_unit unit) ≤ worth w (walked unit n (names_in_unit unit))
unfolding walked known_of
walk-told unit n w fits = (tells-unit w 100 (known_of n (names_in_unit unit) (in_force_by unit.pragmas)) unit fits).at

walk-faultless : (unit : Tree) (n : Names) → faults_in (found_of unit n (names_in_unit unit)) ≡ []
    → (faults_in (walked unit n (names_in_unit unit)) ≡ [])
    × (faults_in (judged_from n (walked unit n (names_in_unit unit)) 0 (walked unit n (names_in_unit unit))) ≡ [])
unfolding found_of found_beside
walk-faultless unit n none =
    let found = walked unit n (names_in_unit unit) in
    let a = none-of found _ none in
    let b = none-of (found_beside n (deadline_ranges_of unit.pragmas) found) _ a.1 in
    let c = none-of (judged_from n found 0 found) _ b.0 in
    (a.0, c.0)

sound : (unit : Tree) → unit_fits 100 unit ≡ true → all_differ (places_before (end_of unit)) ≡ true → first_fault_of unit ≡ None
    → Sound (last_priority_of unit.pragmas) (end_of unit) (walked unit (table_at (last_priority_of unit.pragmas) (end_of unit)) (names_in_unit unit))
sound unit fits apart none =
    let n = table_at (last_priority_of unit.pragmas) (end_of unit) in
    let both =
    walk-faultless unit n (subst (λ m. faults_in (found_of unit m (names_in_unit unit)) ≡ []) (sym (table_at_the_end unit)) (none-found unit none)) in
    record {
      text = unit-text unit;
      apart = apart;
      told = λ w. (let h = told-read w n (names_in_unit unit) [] in let g = walk-told unit n w fits in omega arith);
      faultless = both.0;
      judged = both.1;
    }

pub unbroken_bodies_complete : UnbrokenBodiesComplete
unfolding is_shaped
unbroken_bodies_complete source unit read none =
    let last = last_priority_of unit.pragmas in
    let end = end_of unit in
    let fits : unit_fits 100 unit ≡ true = (read_is_spelt (lexemes_of source read.tokens) unit read.parsed).1 in
    let apart = names_stand_apart source unit read in
    let s = sound unit fits apart none in
    bodies_complete_where_known unit apart
    (subst (λ n. are_known_bodies n end end ≡ true) (table_at_the_end unit) (known-bodies last end _ s end (stands-here end)))

pub unbroken_names_by_position : UnbrokenNamesByPosition
unbroken_names_by_position source unit read none = names_by_position unit (unbroken_bodies_complete source unit read none) (names_stand_apart source unit read)
