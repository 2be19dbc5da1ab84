-- The use clauses of the table are those of the text, each with what its name denotes where it stands; and the regions that are
-- open are those around.
use Rattle.std.proofs.Common.{◌≡◌, ◌⊎◌, inl, inr, ℕ, Bool, true, false, cond, ◌||◌, List, [], ◌∷◌, ◌++◌, map}
use Rattle.std.proofs.Common.{Option, Some, None, append-nil, eqb, refl, sym, ap, subst, ◌∙◌, eqb-true, eq-eqb}
use Rattle.std.specs.List.{list_any}
use Rattle.ada_tree.specs.declared.names.Name.{Name}
use Rattle.ada_regions.specs.declared.entities.Denoted.{Denoted}
use Rattle.ada_regions.specs.declared.table.UseClause.{UseClause}
use Rattle.ada_regions.specs.declared.table.Names.{Names}
use Rattle.ada_regions.specs.Words.{and_then}
use Rattle.ada_regions.specs.Names.{innermost_frame, region_here, denoted_by}
use Rattle.ada_regions.specs.Occurrences.{Occurrence, use_package}
use Rattle.ada_regions.specs.SelectedNames.{name_resolved}
use Rattle.ada_regions.specs.Regions.{is_used_package, used_if, used}
use Rattle.ada_regions.specs.Numbered.{behind}
use Rattle.source_laws.specs.Positions.{Before, Stands}
use Rattle.source_laws.specs.Regions.{number_of, region_of_position}
use Rattle.source_laws.specs.Tables.{table_at}
use Rattle.source_laws.proofs.Names.PositionLemmas.{false-true, stands-start}
use Rattle.source_laws.proofs.Names.NumberLemmas.{number-start}
use Rattle.source_laws.proofs.Names.Kept.{here_at}
use Rattle.source_laws.proofs.Names.KeptSteps.{Kept}
use Rattle.source_laws.proofs.Names.KeptWaiting.{region-here}
use Rattle.source_laws.proofs.Names.Lawful.{AllAround}
use Rattle.source_laws.proofs.Names.ClausesKept.{clauses-name_resolved, uses-behind}
use Rattle.source_laws.proofs.Names.Joined.{Among}

-- ---- clauses

-- what is denoted, if a use clause may name it
abbrev pub used_package : Names → Option Denoted → Option Denoted
used_package n x = and_then x (λ d. cond (is_used_package n d) (Some d) None)

-- what the name of a clause denotes where it stands
abbrev pub used_at : ℕ → Name → Before → Option Denoted
used_at last p b = used_package (name_resolved p (table_at last b)) (denoted_by (name_resolved p (table_at last b)) p)

clause_of : Option Denoted → ℕ → List UseClause
clause_of None region = []
clause_of (Some d) region = record { region = region; used = d } ∷ []

uses-if : (x : Option Denoted) (m : Names) → (used_if x m).uses ≡ m.uses ++ clause_of (used_package m x) (region_here m)
unfolding clause_of
uses-if None m = sym (append-nil m.uses)
uses-if (Some d) m = go (is_used_package m d)
  where
    go : (t : Bool)
        → (cond t (record m { uses = m.uses ++ record { region = region_here m; used = d } ∷ [] }) m).uses
        ≡ m.uses ++ clause_of (cond t (Some d) None) (region_here m)
    go true = refl
    go false = sym (append-nil m.uses)

uses-used : (last : ℕ) (p : Name) (b : Before)
    → (table_at last (use_package p ∷ b)).uses ≡ (table_at last b).uses ++ clause_of (used_at last p b) (here_at last b)
unfolding behind used
uses-used last p b =
    let n : Names = table_at last b in
    let m : Names = name_resolved p n in
    let same = clauses-name_resolved p n in
    uses-if (denoted_by m p) m
    ∙ (ap (λ us. us ++ clause_of (used_at last p b) (region_here m)) (ap (λ c. c.uses) same)
    ∙ ap (λ r. n.uses ++ clause_of (used_at last p b) r) (ap (λ c. (innermost_frame c.frames).region) same ∙ region-here last b))

among-first : {X : Type 0} (x : X) (xs ys : List X) → Among x xs → Among x (xs ++ ys)
among-first x [] ys a = absurd a
among-first x (y ∷ xs) ys (inl e) = inl e
among-first x (y ∷ xs) ys (inr a) = inr (among-first x xs ys a)

among-last : {X : Type 0} (x : X) (xs ys : List X) → Among x ys → Among x (xs ++ ys)
among-last x [] ys a = a
among-last x (y ∷ xs) ys a = inr (among-last x xs ys a)

among-either : {X : Type 0} (x : X) (xs ys : List X) → Among x (xs ++ ys) → Among x xs ⊎ Among x ys
among-either x [] ys a = inr a
among-either x (y ∷ xs) ys (inl e) = inl (inl e)
among-either x (y ∷ xs) ys (inr a) = go (among-either x xs ys a)
  where
    go : Among x xs ⊎ Among x ys → Among x (y ∷ xs) ⊎ Among x ys
    go (inl h) = inl (inr h)
    go (inr h) = inr h

-- a clause of the text that gives this one of the table
abbrev pub UsedClause : ℕ → Before → UseClause → Type 0
UsedClause last c u = (p : Name) × (b : Before) × Stands (use_package p ∷ b) c × (used_at last p b ≡ Some u.used) × (u.region ≡ here_at last b)

clause-farther : (last : ℕ) (o : Occurrence) (c : Before) (u : UseClause) → UsedClause last c u → UsedClause last (o ∷ c) u
clause-farther last o c u s = (s.0, s.1, inr s.2, s.3, s.4)

clause-from : (u : UseClause) (x : Option Denoted) (region : ℕ) → Among u (clause_of x region) → (x ≡ Some u.used) × (u.region ≡ region)
unfolding clause_of
clause-from u None region a = absurd a
clause-from u (Some d) region (inl e) = (ap (λ (v : UseClause). Some v.used) e, ap (λ (v : UseClause). v.region) (sym e))
clause-from u (Some d) region (inr a) = absurd a

clause-to : (u : UseClause) (x : Option Denoted) (region : ℕ) → x ≡ Some u.used → u.region ≡ region → Among u (clause_of x region)
unfolding clause_of
clause-to u x region e r = subst (λ z. Among u (clause_of z region)) (sym e) (inl (ap (λ k. record { region = k; used = u.used }) (sym r)))

pub uses-from : (last : ℕ) (c : Before) (u : UseClause) → Among u (table_at last c).uses → UsedClause last c u
uses-from last [] u a = absurd a
uses-from last (use_package p ∷ c) u a =
    go (among-either u (table_at last c).uses (clause_of (used_at last p c) (here_at last c)) (subst (Among u) (uses-used last p c) a)) (uses-from last c u)
  where
    go : Among u (table_at last c).uses ⊎ Among u (clause_of (used_at last p c) (here_at last c)) → (Among u (table_at last c).uses → UsedClause last c u)
        → UsedClause last (use_package p ∷ c) u
    go (inl h) more = clause-farther last (use_package p) c u (more h)
    go (inr h) more = let f = clause-from u (used_at last p c) (here_at last c) h in (p, c, inl refl, f.0, f.1)
uses-from last (o ∷ c) u a = clause-farther last o c u (uses-from last c u (subst (Among u) (uses-behind o (table_at last c) tt) a))

pub uses-to : (last : ℕ) (c : Before) (u : UseClause) → UsedClause last c u → Among u (table_at last c).uses
uses-to last [] u (p, b, s, d, r) = cc
uses-to last (use_package q ∷ c) u (p, b, inl e, d, r) =
    let name : p ≡ q = cc in
    let rest : b ≡ c = cc in
    subst (Among u) (sym (uses-used last q c))
    (among-last u (table_at last c).uses (clause_of (used_at last q c) (here_at last c))
    (clause-to u (used_at last q c) (here_at last c) (ap (λ z. used_at last z c) (sym name) ∙ (ap (used_at last p) (sym rest) ∙ d))
    (r ∙ ap (here_at last) rest)))
uses-to last (use_package q ∷ c) u (p, b, inr s, d, r) =
    subst (Among u) (sym (uses-used last q c))
    (among-first u (table_at last c).uses (clause_of (used_at last q c) (here_at last c)) (uses-to last c u (p, b, s, d, r)))
uses-to last (o ∷ c) u (p, b, inl e, d, r) = let h : o ≡ use_package p = cc in cc
uses-to last (o ∷ c) u (p, b, inr s, d, r) = subst (Among u) (sym (uses-behind o (table_at last c) tt)) (uses-to last c u (p, b, s, d, r))

-- ---- regions

module _ (last : ℕ) (c b : Before) (k : Kept last c) (stands : Stands b c) where
  abbrev of_position : Before → Bool
  of_position x = eqb (number_of x) (region_of_position b)

  -- a region around in which the position stands is open in the table
  pub stands-open : (bs : List Before) → AllAround bs c → list_any of_position bs ≡ true → Among (here_at last b) (map (here_at last) bs ++ 0 ∷ [])
  unfolding AllAround
  stands-open [] a e = absurd (false-true e)
  stands-open (x ∷ bs) a e = go (of_position x) refl e (stands-open bs a.2)
    where
      go : (t : Bool) → of_position x ≡ t → (t || list_any of_position bs) ≡ true
          → (list_any of_position bs ≡ true → Among (here_at last b) (map (here_at last) bs ++ 0 ∷ []))
          → Among (here_at last b) (map (here_at last) (x ∷ bs) ++ 0 ∷ [])
      go true q h more = inl (k.regions.alike x b a.0 stands (ap number_of a.1 ∙ eqb-true (number_of x) (region_of_position b) q))
      go false q h more = inr (more h)

  pub open-stands : (bs : List Before) → AllAround bs c → (region_of_position b ≡ 0 → ⊥) → Among (here_at last b) (map (here_at last) bs ++ 0 ∷ [])
      → list_any of_position bs ≡ true
  unfolding AllAround
  open-stands [] a positive (inl e) = absurd (positive (k.regions.same b [] stands (stands-start c) (sym e) ∙ number-start))
  open-stands [] a positive (inr h) = absurd h
  open-stands (x ∷ bs) a positive (inl e) =
      ap (λ t. t || list_any of_position bs) (eq-eqb (number_of x) (region_of_position b) (sym (ap number_of a.1) ∙ k.regions.same x b a.0 stands e))
  open-stands (x ∷ bs) a positive (inr h) = also (of_position x) (list_any of_position bs) (open-stands bs a.2 positive h)
    where
      also : (s t : Bool) → t ≡ true → (s || t) ≡ true
      also true t e = refl
      also false t e = e
