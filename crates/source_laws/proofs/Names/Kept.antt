-- The table and the positions of a text side by side: which open regions it has, and how numbers of the table and numbers by
-- position go together.
use Rattle.std.proofs.Common.{◌≡◌, inl, inr, ℕ, ◌≤◌, ◌<◌, suc, List, [], ◌∷◌, ◌++◌, length, map, Option, Some, None, refl, sym, ap, ◌∙◌, arith}
use Rattle.ada_regions.specs.Occurrences.{Occurrence, Region}
use Rattle.source_laws.specs.Positions.{Before, Stands, around, all_but_innermost, around_outside}
use Rattle.source_laws.specs.Regions.{number_of_innermost, region_of_position}
use Rattle.source_laws.specs.Tables.{table_at}
use Rattle.source_laws.proofs.Names.PositionLemmas.{stands-length, stands-start, outside-behind, around-of_first}
use Rattle.source_laws.proofs.Names.NumberLemmas.{position-le}
use Rattle.source_laws.proofs.Names.Known.{Open, Known, known, innermost, outside}
use Rattle.source_laws.proofs.Names.KnownDeclared.{region_behind_it}

abbrev pub known_at : ℕ → Before → Known
known_at last b = known (table_at last b)

-- the region in which a position stands, by the table
abbrev pub here_at : ℕ → Before → ℕ
here_at last b = (innermost (known_at last b).opened).region

abbrev pub numbers_of : List Open → List ℕ
numbers_of = map (λ o. o.region)

-- the number that the next region gets: one that was given to a declaration waits for its beginning
abbrev pub next_by : Option Region → ℕ → ℕ → ℕ
next_by None before behind = behind
next_by (Some r) before behind = before

abbrev pub next_region : ℕ → Before → ℕ
next_region last [] = (known_at last []).regions
next_region last (o ∷ before) = next_by (region_behind_it o) (known_at last before).regions (known_at last (o ∷ before)).regions

-- the open regions are those around, and that of Standard
abbrev pub RegionsOpen : ℕ → Before → Type 0
RegionsOpen last before = numbers_of (known_at last before).opened ≡ map (here_at last) (around before) ++ 0 ∷ []

pub record RegionsKept (last : ℕ) (before : Before) : Type 0 where
  pub opened : RegionsOpen last before
  pub below : (c : Before) → Stands c before → here_at last c < next_region last before
  pub same : (c d : Before) → Stands c before → Stands d before → here_at last c ≡ here_at last d → region_of_position c ≡ region_of_position d
  pub alike : (c d : Before) → Stands c before → Stands d before → region_of_position c ≡ region_of_position d → here_at last c ≡ here_at last d

-- ---- two positions in one region

-- b stands in the region of a position x that stands before
pub record Together (last : ℕ) (x b before : Before) : Type 0 where
  pub stands : Stands x before
  pub table : here_at last b ≡ here_at last x
  pub position : region_of_position b ≡ region_of_position x

pub together-itself : (last : ℕ) (c before : Before) → Stands c before → Together last c c before
together-itself last c before s = record { stands = s; table = refl; position = refl }

-- each position up to the next occurrence is in the region of one before it, if that is
pub all-together : (last : ℕ) (o : Occurrence) (x before : Before) → Together last x (o ∷ before) before → (c : Before) → Stands c (o ∷ before)
    → (d : Before) × Together last d c before
all-together last o x before t c (inl e) = (
  x,
  record { stands = t.stands; table = ap (here_at last) e ∙ t.table; position = ap region_of_position e ∙ t.position },
)
all-together last o x before t c (inr s) = (c, together-itself last c before s)

pub regions-stay : (last : ℕ) (o : Occurrence) (x before : Before) → RegionsKept last before → Together last x (o ∷ before) before
    → next_region last before ≤ next_region last (o ∷ before) → RegionsOpen last (o ∷ before)
    → RegionsKept last (o ∷ before)
regions-stay last o x before k t next opened = record {
  opened = opened;
  below = λ c s. (let n = all-together last o x before t c s in let below = k.below n.0 n.1.stands in let table = n.1.table in omega arith);
  same = λ c d s u e. (
      let n = all-together last o x before t c s in
      let m = all-together last o x before t d u in
      n.1.position ∙ (k.same n.0 m.0 n.1.stands m.1.stands (sym n.1.table ∙ (e ∙ m.1.table)) ∙ sym m.1.position));
  alike = λ c d s u e. (
      let n = all-together last o x before t c s in
      let m = all-together last o x before t d u in
      n.1.table ∙ (k.alike n.0 m.0 n.1.stands m.1.stands (sym n.1.position ∙ (e ∙ m.1.position)) ∙ sym m.1.table));
}

-- ---- a region that begins

pub record BeginsAnew (last : ℕ) (o : Occurrence) (before : Before) : Type 0 where
  pub table : here_at last (o ∷ before) ≡ next_region last before
  pub position : region_of_position (o ∷ before) ≡ suc (length before)
  pub next : next_region last (o ∷ before) ≡ suc (next_region last before)

pub regions-anew : (last : ℕ) (o : Occurrence) (before : Before) → RegionsKept last before → BeginsAnew last o before → RegionsOpen last (o ∷ before)
    → RegionsKept last (o ∷ before)
regions-anew last o before k new opened = record { opened = opened; below = below; same = same; alike = alike }
  where
    table : here_at last (o ∷ before) ≡ next_region last before
    table = new.table

    position : region_of_position (o ∷ before) ≡ suc (length before)
    position = new.position

    next : next_region last (o ∷ before) ≡ suc (next_region last before)
    next = new.next

    below : (c : Before) → Stands c (o ∷ before) → here_at last c < next_region last (o ∷ before)
    below c (inl e) = let h : here_at last c ≡ here_at last (o ∷ before) = ap (here_at last) e in omega arith
    below c (inr s) = let h = k.below c s in omega arith

    -- a position before it stands in another region, by the table and by position
    other : (c d : Before) → c ≡ o ∷ before → Stands d before → here_at last c ≡ here_at last d → ⊥
    other c d e s q = let h : here_at last c ≡ here_at last (o ∷ before) = ap (here_at last) e in let b = k.below d s in omega arith

    farther : (c d : Before) → c ≡ o ∷ before → Stands d before → region_of_position c ≡ region_of_position d → ⊥
    farther c d e s q =
        let h : region_of_position c ≡ region_of_position (o ∷ before) = ap region_of_position e in
        let b = position-le d in let l = stands-length d before s in omega arith

    same : (c d : Before) → Stands c (o ∷ before) → Stands d (o ∷ before) → here_at last c ≡ here_at last d → region_of_position c ≡ region_of_position d
    same c d (inl e) (inl f) q = ap region_of_position (e ∙ sym f)
    same c d (inl e) (inr u) q = absurd (other c d e u q)
    same c d (inr s) (inl f) q = absurd (other d c f s (sym q))
    same c d (inr s) (inr u) q = k.same c d s u q

    alike : (c d : Before) → Stands c (o ∷ before) → Stands d (o ∷ before) → region_of_position c ≡ region_of_position d → here_at last c ≡ here_at last d
    alike c d (inl e) (inl f) q = ap (here_at last) (e ∙ sym f)
    alike c d (inl e) (inr u) q = absurd (farther c d e u q)
    alike c d (inr s) (inl f) q = absurd (farther d c f s (sym q))
    alike c d (inr s) (inr u) q = k.alike c d s u q

-- ---- the region outside that of a position

abbrev second : List ℕ → ℕ
second [] = 0
second (n ∷ []) = 0
second (n ∷ m ∷ ns) = m

outside-second : (os : List Open) → (innermost (outside os)).region ≡ second (numbers_of os)
outside-second [] = refl
outside-second (o ∷ []) = refl
outside-second (o ∷ p ∷ os) = refl

-- a position before in the region outside
pub record Outside (last : ℕ) (x before : Before) : Type 0 where
  pub stands : Stands x before
  pub table : here_at last x ≡ (innermost (outside (known_at last before).opened)).region
  pub position : region_of_position x ≡ number_of_innermost (around_outside before)

pub outside-of : (last : ℕ) (before : Before) → RegionsOpen last before → (x : Before) × Outside last x before
outside-of last before opened = go (around before) refl
  where
    second-is : (bs : List Before) → around before ≡ bs → (innermost (outside (known_at last before).opened)).region ≡ second (map (here_at last) bs ++ 0 ∷ [])
    second-is bs e = outside-second (known_at last before).opened ∙ (ap second opened ∙ ap (λ zs. second (map (here_at last) zs ++ 0 ∷ [])) e)

    number-is : (bs : List Before) → around before ≡ bs → number_of_innermost (around_outside before) ≡ number_of_innermost (all_but_innermost bs)
    number-is bs e = ap (λ zs. number_of_innermost (all_but_innermost zs)) e

    go : (bs : List Before) → around before ≡ bs → (x : Before) × Outside last x before
    go [] e = ([], record { stands = stands-start before; table = sym (second-is [] e); position = sym (number-is [] e) })
    go (b ∷ []) e = ([], record { stands = stands-start before; table = sym (second-is (b ∷ []) e); position = sym (number-is (b ∷ []) e) })
    go (b ∷ c ∷ bs) e =
        let first = around-of_first 1 before c bs (sym (outside-behind before) ∙ ap all_but_innermost e) in (
          c,
          record {
            stands = first.1;
            table = sym (second-is (b ∷ c ∷ bs) e);
            position = ap number_of_innermost first.0 ∙ sym (number-is (b ∷ c ∷ bs) e);
          },
        )
