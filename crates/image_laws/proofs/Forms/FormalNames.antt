-- An actual that is given for a formal is found for it, where the names of the formals stand apart.
use Rattle.std.proofs.Common.{◌≡◌, ℕ, zero, suc, Bool, true, false, cond, ◌&&◌, ◌||◌, List, [], ◌∷◌, map, Option}
use Rattle.std.proofs.Common.{Some, None, option_map, is_some, is_none, refl, sym, ap, ◌∙◌, eqb, eqb-true, eq-eqb}
use Rattle.std.specs.Prelude.{⊤, unwrap_or, bytes_eq}
use Rattle.std.specs.List.{list_any}
use Rattle.std.proofs.lemmas.Bool.{and_parts, false≢true, not-true, or_parts}
use Rattle.std.proofs.lemmas.Slice.Eq.{bytes_eq-Decides}
use Rattle.ada_legality.specs.declared.parts.ActualPart.{ActualPart}
use Rattle.ada_legality.specs.declared.parts.FormalPart.{FormalPart}
use Rattle.ada_legality.specs.declared.reading.Read.{Read}
use Rattle.ada_legality.specs.Calls.{formal_at, given_before, is_for, actual_from}
use Rattle.image_laws.specs.Clear.{names_clear}
use Rattle.image_laws.proofs.Forms.Actuals.{or-second}

pub other-way : (a b : List ℕ) → bytes_eq a b ≡ false → bytes_eq b a ≡ false
other-way a b e = go (bytes_eq b a) refl
  where
    go : (t : Bool) → bytes_eq b a ≡ t → bytes_eq b a ≡ false
    go true q = absurd (false≢true (sym e ∙ (bytes_eq-Decides a b).1 (sym ((bytes_eq-Decides b a).0 q))))
    go false q = q

-- a name stands at this number alone
abbrev pub Only : List FormalPart → ℕ → List ℕ → Type 0
Only whole number name = (at : ℕ) → bytes_eq (formal_at whole at) name ≡ true → eqb at number ≡ true

abbrev pub Spread : List FormalPart → ℕ → List FormalPart → Type 0
Spread whole number [] = ⊤
Spread whole number (f ∷ fs) = Only whole number f.name × Spread whole (suc number) fs

abbrev names_in : List FormalPart → List (List ℕ)
names_in fs = map (λ f. f.name) fs

-- a name that no formal has
absent : (x : List ℕ) (fs : List FormalPart) → bytes_eq [] x ≡ false → list_any (bytes_eq x) (names_in fs) ≡ false → (at : ℕ)
    → bytes_eq (formal_at fs at) x ≡ false
absent x [] e n at = e
absent x (g ∷ gs) e n zero = other-way x g.name (or_parts _ _ n).0
absent x (g ∷ gs) e n (suc at) = absent x gs e (or_parts _ _ n).1 at

shifted : (g : FormalPart) (gs : List FormalPart) (number : ℕ) (f : FormalPart) → bytes_eq g.name f.name ≡ false → Only gs number f.name
    → Only (g ∷ gs) (suc number) f.name
shifted g gs number f n only zero e = absurd (false≢true (sym n ∙ e))
shifted g gs number f n only (suc at) e = eq-eqb (suc at) (suc number) (ap suc (eqb-true at number (only at e)))

all-shifted : (g : FormalPart) (gs : List FormalPart) (number : ℕ) (fs : List FormalPart) → list_any (bytes_eq g.name) (names_in fs) ≡ false
    → Spread gs number fs → Spread (g ∷ gs) (suc number) fs
all-shifted g gs number [] n s = tt
all-shifted g gs number (f ∷ fs) n s = let p = or_parts _ _ n in (shifted g gs number f p.0 s.0, all-shifted g gs (suc number) fs p.1 s.1)

only-first : (g : FormalPart) (gs : List FormalPart) → bytes_eq [] g.name ≡ false → list_any (bytes_eq g.name) (names_in gs) ≡ false → Only (g ∷ gs) 0 g.name
only-first g gs e n zero q = refl
only-first g gs e n (suc at) q = absurd (false≢true (sym (absent g.name gs e n at) ∙ q))

pub spread : (whole : List FormalPart) → names_clear (names_in whole) ≡ true → Spread whole 0 whole
spread [] c = tt
spread (g ∷ gs) c =
    let p = and_parts _ _ c in
    let q = and_parts _ _ p.1 in
    (only-first g gs (not-true _ p.0) (not-true _ q.0), all-shifted g gs 0 gs (not-true _ q.0) (spread gs q.1))

module _ (whole : List FormalPart) (number : ℕ) (name : List ℕ) (only : Only whole number name) where
  by-name : (text : List ℕ) (r : Read) (rest : Option Read) (b g : Bool) → bytes_eq text name ≡ b → (bytes_eq name text || g) ≡ true
      → (g ≡ true → is_some rest ≡ true) → is_some (cond b (Some r) rest) ≡ true
  by-name text r rest true g q e h = refl
  by-name text r rest false g q e h = h (or-second _ _ e (other-way text name q))

  no-place : (at : ℕ) → eqb at number ≡ false → bytes_eq (formal_at whole at) name ≡ false
  no-place at q = go (bytes_eq (formal_at whole at) name) refl
    where
      go : (t : Bool) → bytes_eq (formal_at whole at) name ≡ t → t ≡ false
      go true p = absurd (false≢true (sym q ∙ only at p))
      go false p = refl

  by-place : (at : ℕ) (r : Read) (rest : Option Read) (b g : Bool) → eqb at number ≡ b → (bytes_eq (formal_at whole at) name || g) ≡ true
      → (g ≡ true → is_some rest ≡ true) → is_some (cond b (Some r) rest) ≡ true
  by-place at r rest true g q e h = refl
  by-place at r rest false g q e h = h (or-second _ _ e (no-place at q))

  step-at : (formal : Option (List ℕ)) (at : ℕ) (r : Read) (rest : Option Read) (g : Bool)
      → (unwrap_or (option_map (bytes_eq name) formal) false || ((is_none formal && bytes_eq (formal_at whole at) name) || g)) ≡ true
      → (g ≡ true → is_some rest ≡ true) → is_some (cond (is_for number name at formal) (Some r) rest) ≡ true
  step-at None at r rest g e h = by-place at r rest (eqb at number) g refl e h
  step-at (Some text) at r rest g e h = by-name text r rest (bytes_eq text name) g refl e h

  pub given-found : (actuals : List ActualPart) (at : ℕ) → given_before whole actuals at name ≡ true → is_some (actual_from number name at actuals) ≡ true
  unfolding given_before actual_from
  given-found [] at e = absurd (false≢true e)
  given-found (a ∷ rest) at e =
      step-at a.formal at a.read (actual_from number name (suc at) rest) (given_before whole rest (suc at) name) e (given-found rest (suc at))
