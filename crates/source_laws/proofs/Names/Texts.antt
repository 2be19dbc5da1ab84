-- How occurrences follow one another in what a tree gives: a region ends where it began; a unit's region begins right behind
-- its declaration, and nowhere else; library units alone are declared in the region of Standard.
use Rattle.std.proofs.Common.{◌≡◌, true, List, [], ◌∷◌, ◌++◌, Option, Some, None, refl, sym, ap, subst, ◌∙◌}
use Rattle.std.specs.List.{flat_map}
use Rattle.ada_tree.specs.declared.names.OneOrMore.{OneOrMore}
use Rattle.ada_regions.specs.Occurrences.{Occurrence, Occurrences, Declared, Region, the_package, the_main_procedure, a_derived_type}
use Rattle.ada_regions.specs.Occurrences.{a_task, a_protected, the_context, the_context_of, further_context, package_region, a_unit}
use Rattle.ada_regions.specs.Occurrences.{a_record, begins, ends, declares, declares_unit, with_unit, in_all, if_there, one, within_region}
use Rattle.source_laws.specs.Positions.{Before, read_on, around, all_but_innermost}
use Rattle.source_laws.proofs.Names.PositionLemmas.{behind-one_more}
use Rattle.source_laws.proofs.Names.KnownDeclared.{region_behind_it, IsInner}
use Rattle.source_laws.proofs.Names.Placing.{looks, Placed, IsPlaced}

-- ---- what may stand where

-- regions that do not begin behind a declaration of theirs
abbrev pub BeginsAlone : Region → Type 0
BeginsAlone (package_region i) = ⊥
BeginsAlone (a_unit i) = ⊥
BeginsAlone (a_record i) = ⊥
BeginsAlone _ = Unit {0}

abbrev pub FitsBehind : Option Region → Occurrence → Type 0
FitsBehind (Some r) o = o ≡ begins r
FitsBehind None (begins r) = BeginsAlone r
FitsBehind None _ = Unit {0}

abbrev pub IsAround : List Before → Type 0
IsAround [] = ⊥
IsAround (b ∷ bs) = Unit {0}

abbrev pub FitsHere : Occurrence → Before → Type 0
FitsHere ends before = IsAround (around before)
FitsHere (declares i what) before = IsInner what
FitsHere (declares_unit i the_package) before = Unit {0}
FitsHere (declares_unit i the_main_procedure) before = Unit {0}
FitsHere (declares_unit i _) before = ⊥
FitsHere _ before = Unit {0}

abbrev pub begins_next : Before → Option Region
begins_next [] = None
begins_next (o ∷ before) = region_behind_it o

abbrev pub IsText : Before → Type 0
IsText [] = Unit {0}
IsText (o ∷ before) = FitsBehind (begins_next before) o × FitsHere o before × IsText before

-- ---- lists that leave the regions around as they were, and may stand wherever no region is about to begin

pub record Whole (os : Occurrences) : Type 0 where
  pub text : (before : Before) → IsText before → begins_next before ≡ None → IsText (read_on os before)
  pub settled : (before : Before) → begins_next before ≡ None → begins_next (read_on os before) ≡ None
  pub closed : (before : Before) → around (read_on os before) ≡ around before

pub read_on-append : (xs ys : Occurrences) (before : Before) → read_on (xs ++ ys) before ≡ read_on ys (read_on xs before)
read_on-append [] ys before = refl
read_on-append (x ∷ xs) ys before = read_on-append xs ys (x ∷ before)

pub whole-none : Whole []
whole-none = record { text = λ before t s. t; settled = λ before s. s; closed = λ before. refl }

pub whole-append : (xs ys : Occurrences) → Whole xs → Whole ys → Whole (xs ++ ys)
whole-append xs ys a b = record {
  text = λ before t s. subst IsText (sym (read_on-append xs ys before)) (b.text (read_on xs before) (a.text before t s) (a.settled before s));
  settled = λ before s. ap begins_next (read_on-append xs ys before) ∙ b.settled (read_on xs before) (a.settled before s);
  closed = λ before. ap around (read_on-append xs ys before) ∙ (b.closed (read_on xs before) ∙ a.closed before);
}

pub whole-flat : {X : Type 0} (f : X → Occurrences) (all : (x : X) → Whole (f x)) (xs : List X) → Whole (flat_map f xs)
whole-flat f all [] = whole-none
whole-flat f all (x ∷ xs) = whole-append (f x) (flat_map f xs) (all x) (whole-flat f all xs)

-- the same of lists that may stand wherever names may
pub record Inside (os : Occurrences) : Type 0 where
  pub whole : Whole os
  pub placed : (before : Before) → IsPlaced before → looks (around before) ≡ true → IsPlaced (read_on os before)

pub inside-none : Inside []
inside-none = record { whole = whole-none; placed = λ before p l. p }

pub inside-append : (xs ys : Occurrences) → Inside xs → Inside ys → Inside (xs ++ ys)
inside-append xs ys a b = record {
  whole = whole-append xs ys a.whole b.whole;
  placed =
      λ before p l.
      subst IsPlaced (sym (read_on-append xs ys before)) (b.placed (read_on xs before) (a.placed before p l) (ap looks (a.whole.closed before) ∙ l));
}

-- ---- single occurrences

-- no region begins right behind it
abbrev pub IsPlainDeclared : Declared → Type 0
IsPlainDeclared the_package = ⊥
IsPlainDeclared the_main_procedure = ⊥
IsPlainDeclared (a_derived_type parent) = ⊥
IsPlainDeclared (a_task is_type aspects) = ⊥
IsPlainDeclared (a_protected is_type aspects) = ⊥
IsPlainDeclared _ = Unit {0}

abbrev pub IsPlain : Occurrence → Type 0
IsPlain (begins r) = ⊥
IsPlain ends = ⊥
IsPlain (declares i what) = IsPlainDeclared what
IsPlain (declares_unit i the_main_procedure) = Unit {0}
IsPlain (declares_unit i _) = ⊥
IsPlain (with_unit name) = ⊥
IsPlain _ = Unit {0}

pub record Settles (o : Occurrence) : Type 0 where
  pub behind : FitsBehind None o
  pub here : (before : Before) → FitsHere o before
  pub next : region_behind_it o ≡ None
  pub stays : (before : Before) → around (o ∷ before) ≡ around before

declared-settles : (what : Declared) → IsPlainDeclared what → IsInner what × ((i : _) → region_behind_it (declares i what) ≡ None)
declared-settles the_package plain = absurd plain
declared-settles the_main_procedure plain = absurd plain
declared-settles (a_derived_type parent) plain = absurd plain
declared-settles (a_task is_type aspects) plain = absurd plain
declared-settles (a_protected is_type aspects) plain = absurd plain
declared-settles _ plain = (tt, λ i. refl)

plain-settles : (o : Occurrence) → IsPlain o → Settles o
plain-settles (begins r) plain = absurd plain
plain-settles ends plain = absurd plain
plain-settles (declares i what) plain =
    let d = declared-settles what plain in record { behind = tt; here = λ before. d.0; next = d.1 i; stays = λ before. refl }
plain-settles (declares_unit i the_main_procedure) plain = record { behind = tt; here = λ before. tt; next = refl; stays = λ before. refl }
plain-settles (declares_unit i _) plain = absurd plain
plain-settles (with_unit name) plain = absurd plain
plain-settles _ plain = record { behind = tt; here = λ before. tt; next = refl; stays = λ before. refl }

plain-placed : (o : Occurrence) → IsPlain o → (before : Before) → looks (around before) ≡ true → Placed o before
plain-placed (begins r) plain before l = absurd plain
plain-placed ends plain before l = absurd plain
plain-placed (declares_unit i the_main_procedure) plain before l = l
plain-placed (declares_unit i _) plain before l = absurd plain
plain-placed (with_unit name) plain before l = absurd plain
plain-placed _ plain before l = l

pub whole-one : (o : Occurrence) → Settles o → Whole (one o)
whole-one o s = record {
  text = λ before t settled. (subst (λ r. FitsBehind r o) (sym settled) s.behind, s.here before, t);
  settled = λ before settled. s.next;
  closed = s.stays;
}

pub inside-one : (o : Occurrence) → IsPlain o → Inside (one o)
inside-one o plain = record { whole = whole-one o (plain-settles o plain); placed = λ before p l. (plain-placed o plain before l, p) }

pub inside-cons : (o : Occurrence) (os : Occurrences) → IsPlain o → Inside os → Inside (o ∷ os)
inside-cons o os plain inside = inside-append (one o) os (inside-one o plain) inside

-- ---- regions

region-closed : (r : Region) (os : Occurrences) (before : Before) → Whole os → around (read_on (os ++ one ends) (begins r ∷ before)) ≡ around before
region-closed r os before whole =
    ap around (read_on-append os (one ends) (begins r ∷ before))
    ∙ (behind-one_more 0 (read_on os (begins r ∷ before)) ∙ ap all_but_innermost (whole.closed (begins r ∷ before)))

ended-text : (r : Region) (os : Occurrences) (before : Before) → Whole os → IsText (begins r ∷ before) → IsText (read_on (os ++ one ends) (begins r ∷ before))
ended-text r os before whole t =
    let last = read_on os (begins r ∷ before) in
    subst IsText (sym (read_on-append os (one ends) (begins r ∷ before))) (
      subst (λ x. FitsBehind x ends) (sym (whole.settled (begins r ∷ before) refl)) tt,
      subst IsAround (sym (whole.closed (begins r ∷ before))) tt,
      whole.text (begins r ∷ before) t refl,
    )

ended-settled : (r : Region) (os : Occurrences) (before : Before) → begins_next (read_on (os ++ one ends) (begins r ∷ before)) ≡ None
ended-settled r os before = ap begins_next (read_on-append os (one ends) (begins r ∷ before))

pub ended-placed : (r : Region) (os : Occurrences) (before : Before) → IsPlaced (read_on os (begins r ∷ before))
    → IsPlaced (read_on (os ++ one ends) (begins r ∷ before))
ended-placed r os before p = subst IsPlaced (sym (read_on-append os (one ends) (begins r ∷ before))) (tt, p)

pub whole-region : (r : Region) (os : Occurrences) → BeginsAlone r → Whole os → Whole (within_region r os)
whole-region r os alone whole = record {
  text = λ before t settled. ended-text r os before whole (subst (λ x. FitsBehind x (begins r)) (sym settled) alone, tt, t);
  settled = λ before settled. ended-settled r os before;
  closed = λ before. region-closed r os before whole;
}

-- a declaration with the region that begins behind it
pub whole-declared_region : (o : Occurrence) (r : Region) (os : Occurrences) → region_behind_it o ≡ Some r → FitsBehind None o
    → ((before : Before) → FitsHere o before)
    → ((before : Before) → around (o ∷ before) ≡ around before) → Whole os → Whole (o ∷ within_region r os)
whole-declared_region o r os next behind here stays whole = record {
  text = λ before t settled.
      ended-text r os (o ∷ before) whole (
        subst (λ x. FitsBehind x (begins r)) (sym next) refl,
        tt,
        (subst (λ x. FitsBehind x o) (sym settled) behind, here before, t),
      );
  settled = λ before settled. ended-settled r os (o ∷ before);
  closed = λ before. region-closed r os (o ∷ before) whole ∙ stays before;
}

-- no context, and no region behind a declaration
abbrev pub BeginsInside : Region → Type 0
BeginsInside the_context = ⊥
BeginsInside (the_context_of i) = ⊥
BeginsInside further_context = ⊥
BeginsInside (package_region i) = ⊥
BeginsInside (a_unit i) = ⊥
BeginsInside (a_record i) = ⊥
BeginsInside _ = Unit {0}

-- what is asked of the place of a region that names may stand in
pub record Looks (r : Region) : Type 0 where
  pub here : (before : Before) → looks (around before) ≡ true → Placed (begins r) before
  pub within : (before : Before) → looks (around (begins r ∷ before)) ≡ true

inside-begins : (r : Region) → BeginsInside r → BeginsAlone r × Looks r
inside-begins the_context inside = absurd inside
inside-begins (the_context_of i) inside = absurd inside
inside-begins further_context inside = absurd inside
inside-begins (package_region i) inside = absurd inside
inside-begins (a_unit i) inside = absurd inside
inside-begins (a_record i) inside = absurd inside
inside-begins _ inside = (tt, record { here = λ before l. l; within = λ before. refl })

pub inside-region : (r : Region) (os : Occurrences) → BeginsInside r → Inside os → Inside (within_region r os)
inside-region r os begun inside =
    let b = inside-begins r begun in
    record {
      whole = whole-region r os b.0 inside.whole;
      placed = λ before p l. ended-placed r os before (inside.placed (begins r ∷ before) (b.1.here before l, p) (b.1.within before));
    }

abbrev pub IsDeclaration : Occurrence → Type 0
IsDeclaration (declares i what) = Unit {0}
IsDeclaration _ = ⊥

declaration-placed : (o : Occurrence) → IsDeclaration o → FitsBehind None o × ((before : Before) → looks (around before) ≡ true → Placed o before)
declaration-placed (declares i what) is = (tt, λ before l. l)
declaration-placed _ is = absurd is

region-looks : (o : Occurrence) (r : Region) → IsDeclaration o → region_behind_it o ≡ Some r → Looks r
region-looks (declares i (a_derived_type parent)) r is e =
    subst Looks (let h : a_record i ≡ r = cc in h) (record { here = λ before l. l; within = λ before. refl })
region-looks (declares i (a_task is_type aspects)) r is e =
    subst Looks (let h : a_unit i ≡ r = cc in h) (record { here = λ before l. l; within = λ before. refl })
region-looks (declares i (a_protected is_type aspects)) r is e =
    subst Looks (let h : a_unit i ≡ r = cc in h) (record { here = λ before l. l; within = λ before. refl })
region-looks (declares i _) r is e = cc
region-looks _ r is e = absurd is

pub inside-declared_region : (o : Occurrence) (r : Region) (os : Occurrences) → region_behind_it o ≡ Some r → IsDeclaration o
    → ((before : Before) → FitsHere o before)
    → ((before : Before) → around (o ∷ before) ≡ around before) → Inside os → Inside (o ∷ within_region r os)
inside-declared_region o r os next is here stays inside =
    let d = declaration-placed o is in
    let b = region-looks o r is next in
    record {
      whole = whole-declared_region o r os next d.0 here stays inside.whole;
      placed =
          λ before p l. ended-placed r os (o ∷ before)
          (inside.placed (begins r ∷ o ∷ before) (b.here (o ∷ before) (ap looks (stays before) ∙ l), (d.1 before l, p)) (b.within (o ∷ before)));
    }

-- ---- lists of parts

pub inside-flat : {X : Type 0} (f : X → Occurrences) (all : (x : X) → Inside (f x)) (xs : List X) → Inside (flat_map f xs)
inside-flat f all [] = inside-none
inside-flat f all (x ∷ xs) = inside-append (f x) (flat_map f xs) (all x) (inside-flat f all xs)

pub inside-in_all : {X : Type 0} (f : X → Occurrences) (all : (x : X) → Inside (f x)) (xs : OneOrMore X) → Inside (in_all f xs)
inside-in_all f all xs = inside-append (f xs.first) (flat_map f xs.others) (all xs.first) (inside-flat f all xs.others)

pub inside-if_there : {X : Type 0} (f : X → Occurrences) (all : (x : X) → Inside (f x)) (x : Option X) → Inside (if_there f x)
inside-if_there f all None = inside-none
inside-if_there f all (Some x) = all x
