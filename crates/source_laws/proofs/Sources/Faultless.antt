-- What a source without faults of legality has found: each declaration of a unit has one body, and the table knows it.
use Rattle.std.proofs.Common.{◌≡◌, ℕ, ◌+◌, ◌≤◌, suc, Bool, true, false, not, cond, ◌&&◌, ◌||◌, List, []}
use Rattle.std.proofs.Common.{◌∷◌, ◌++◌, length, take, filter, None, eqb, eqb-true, refl, ap, ◌∙◌, arith}
use Rattle.std.specs.List.{flat_map, list_any}
use Rattle.std.proofs.lemmas.Bool.{and_parts}
use Rattle.ann_base.specs.declared.places.Place.{Place}
use Rattle.ada_tree.specs.declared.units.Unit.{Unit as Tree}
use Rattle.world_tables.specs.Lists.{first_of}
use Rattle.ada_legality.specs.declared.faults.Fault.{Fault}
use Rattle.ada_legality.specs.declared.findings.BodyKind.{BodyKind}
use Rattle.ada_legality.specs.declared.findings.BodyKind.TheVariants as completing
use Rattle.ada_legality.specs.declared.findings.Finding.{Finding}
use Rattle.ada_legality.specs.declared.findings.Finding.TheVariants as finding
use Rattle.ada_legality.specs.declared.rules.Rule.TheVariants as rule
use Rattle.ada_legality.specs.Findings.{Found, broken_if}
use Rattle.ada_legality.specs.Faults.{comes_before, same_fault, fault_put, in_order_of_text, fault_in}
use Rattle.ada_legality.specs.Faults.{faults_in, found_of, faults_where, faults_of, first_fault_of}
use Rattle.ada_legality.specs.WholeSource.{same_kind, is_body_of, bodies_of, has_known_body, is_other_profile_of, is_uncompleted, judged_beside, judged_from}
use Rattle.ada_regions.specs.declared.table.Names.{Names}
use Rattle.ada_regions.specs.NamesInUnits.{names_in_unit}
use Rattle.ada_regions.specs.Numbered.{names_of}
use Rattle.source_laws.specs.Bodies.{one_if}
use Rattle.source_laws.proofs.Sources.Quiet.{Weights, value, worth}
use Rattle.image_laws.proofs.Forms.Nothing.{none-of}

-- ---- no fault is told, so none is found

put-some : (f : Fault) (gs : List Fault) → fault_put f gs ≡ [] → ⊥
put-some f [] e = cc
put-some f (g ∷ gs) e = go (same_fault f g) (comes_before f g) e
  where
    go : (t u : Bool) → cond t (g ∷ gs) (cond u (f ∷ g ∷ gs) (g ∷ fault_put f gs)) ≡ [] → ⊥
    go true u q = cc
    go false true q = cc
    go false false q = cc

ordered-none : (fs : List Fault) → first_of (in_order_of_text fs) ≡ None → fs ≡ []
ordered-none [] e = refl
ordered-none (f ∷ fs) e = absurd (put-some f (in_order_of_text fs) (first-none (fault_put f (in_order_of_text fs)) e))
  where
    first-none : (gs : List Fault) → first_of gs ≡ None → gs ≡ []
    first-none [] q = refl
    first-none (g ∷ gs) q = cc

pub none-found : (unit : Tree) → first_fault_of unit ≡ None → faults_in (found_of unit (names_of unit) (names_in_unit unit)) ≡ []
unfolding faults_of faults_where
none-found unit e = ordered-none (faults_in (found_of unit (names_of unit) (names_in_unit unit))) e

-- ---- what is worth something

abbrev pub broken_weights : Weights
broken_weights = record { completed = λ kind e. 0; declared = λ kind e. 0; broken = 1 }

abbrev pub is_this : BodyKind → ℕ → BodyKind → ℕ → ℕ
is_this kind e other f = one_if (same_kind kind other && eqb e f)

abbrev pub completed_weights : BodyKind → ℕ → Weights
completed_weights kind e = record { completed = is_this kind e; declared = λ other f. 0; broken = 0 }

abbrev pub declared_weights : BodyKind → ℕ → Weights
declared_weights kind e = record { completed = λ other f. 0; declared = is_this kind e; broken = 0 }

broken-later : (f : Finding) (fs : Found) → (fault_in f ++ flat_map fault_in fs) ≡ [] → (flat_map fault_in fs ≡ []) × (value broken_weights f ≡ 0)
broken-later (finding.Broken f) fs e = absurd cc
broken-later _ fs e = (e, refl)

pub broken-worth : (fs : Found) → faults_in fs ≡ [] → worth broken_weights fs ≡ 0
unfolding faults_in
broken-worth [] e = refl
broken-worth (f ∷ fs) e = let h = broken-later f fs e in let g = broken-worth fs h.0 in let v = h.1 in omega arith

pub completed-worth : (kind : BodyKind) (e : ℕ) (fs : Found) → worth (completed_weights kind e) fs ≡ bodies_of fs kind e
unfolding bodies_of
completed-worth kind e [] = refl
completed-worth kind e (finding.Completed other f ∷ fs) = go (same_kind kind other && eqb e f) (completed-worth kind e fs)
  where
    go : (t : Bool) → worth (completed_weights kind e) fs ≡ length (filter (is_body_of kind e) fs)
        → one_if t + worth (completed_weights kind e) fs
        ≡ length (cond t (finding.Completed other f ∷ filter (is_body_of kind e) fs) (filter (is_body_of kind e) fs))
    go true h = omega arith
    go false h = omega arith
completed-worth kind e (_ ∷ fs) = let h = completed-worth kind e fs in omega arith

-- ---- a declaration is judged

same-kinds : (a b : BodyKind) → same_kind a b ≡ true → a ≡ b
same-kinds completing.Subprogram completing.Subprogram e = refl
same-kinds completing.Task completing.Task e = refl
same-kinds completing.Protected completing.Protected e = refl
same-kinds completing.ProtectedEntry completing.ProtectedEntry e = refl
same-kinds a b e = cc

not-broken : (t : Bool) (place : Place) → faults_in (broken_if rule.Completions t place) ≡ [] → t ≡ false
unfolding faults_in
not-broken true place e = cc
not-broken false place e = refl

module _ (n : Names) (all : Found) (kind : BodyKind) (e : ℕ) where
  abbrev Judged : Found → Type 0
  Judged fs = 1 ≤ worth (declared_weights kind e) fs → is_uncompleted n all kind e ≡ false

  judged-one : (f : Finding) (at : ℕ) (rest : Found) → faults_in (judged_beside n all (take at all) f) ≡ [] → Judged rest → Judged (f ∷ rest)
  unfolding judged_beside
  judged-one (finding.Declared other g place) at rest none more positive = go (same_kind kind other && eqb e g) refl positive
    where
      go : (t : Bool) → (same_kind kind other && eqb e g) ≡ t → 1 ≤ one_if t + worth (declared_weights kind e) rest → is_uncompleted n all kind e ≡ false
      go true q p =
          let both = and_parts (same_kind kind other) (eqb e g) q in
          ap (λ k. is_uncompleted n all k e) (same-kinds kind other both.0)
          ∙ (ap (is_uncompleted n all other) (eqb-true e g both.1) ∙ not-broken (is_uncompleted n all other g) place none)
      go false q p = more (omega arith)
  judged-one _ at rest none more positive = more (omega arith)

  judged-all : (fs : Found) (at : ℕ) → faults_in (judged_from n all at fs) ≡ [] → Judged fs
  unfolding judged_from
  judged-all [] at none positive = absurd (omega arith)
  judged-all (f ∷ fs) at none positive =
      let both = none-of (judged_beside n all (take at all) f) (judged_from n all (suc at) fs) none in
      judged-one f at fs both.0 (judged-all fs (suc at) both.1) positive

  uncompleted-parts : is_uncompleted n all kind e ≡ false → (has_known_body n kind e ≡ true) × (bodies_of all kind e ≡ 1)
  unfolding is_uncompleted
  uncompleted-parts none = go (has_known_body n kind e) (eqb (bodies_of all kind e) 1) refl none
    where
      go : (a b : Bool) → eqb (bodies_of all kind e) 1 ≡ b → (not (a && b) || list_any (is_other_profile_of kind e) all) ≡ false
          → (a ≡ true) × (bodies_of all kind e ≡ 1)
      go true true q r = (refl, eqb-true (bodies_of all kind e) 1 q)
      go true false q r = cc
      go false b q r = cc

pub declared-once : (n : Names) (all : Found) (kind : BodyKind) (e : ℕ) → faults_in (judged_from n all 0 all) ≡ [] → 1 ≤ worth (declared_weights kind e) all
    → (has_known_body n kind e ≡ true) × (bodies_of all kind e ≡ 1)
declared-once n all kind e none positive = uncompleted-parts n all kind e (judged-all n all kind e all 0 none positive)
