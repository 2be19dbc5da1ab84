-- What a direct name denotes by the table, use clauses included, is what it means by position.
use Rattle.std.proofs.Common.{◌≡◌, inl, inr, ℕ, Bool, true, false, cond, not, ◌&&◌, List, [], ◌∷◌, ◌++◌}
use Rattle.std.proofs.Common.{map, Option, Some, None, option_map, slice_get, refl, sym, ap, subst, ◌∙◌}
use Rattle.std.proofs.lemmas.Bool.{and_parts}
use Rattle.ann_base.specs.declared.places.Place.{Place}
use Rattle.ada_tree.specs.declared.names.Identifier.{Identifier}
use Rattle.ada_tree.specs.declared.names.Name.{Name}
use Rattle.ada_regions.specs.declared.entities.Denoted.{Denoted}
use Rattle.ada_regions.specs.declared.entities.Denoted.TheVariants as denotes
use Rattle.ada_regions.specs.declared.entities.Entity.{Entity}
use Rattle.ada_regions.specs.declared.entities.Sought.{Sought}
use Rattle.ada_regions.specs.declared.entities.Sought.TheVariants as answer
use Rattle.ada_regions.specs.declared.table.UseClause.{UseClause}
use Rattle.ada_regions.specs.declared.table.Names.{Names}
use Rattle.ada_regions.specs.Words.{and_then, same_place, last_from}
use Rattle.ada_regions.specs.Names.{denoted_at}
use Rattle.ada_regions.specs.Occurrences.{use_package}
use Rattle.ada_regions.specs.Visibility.{directly, visible_in, used_around, found_or, sought, answered, resolved}
use Rattle.ada_regions.specs.SelectedNames.{parts_resolved, name_resolved}
use Rattle.ada_regions.specs.Completions.{holds_of}
use Rattle.ada_regions.specs.Regions.{is_package as is_package_kind}
use Rattle.source_laws.specs.Positions.{Before, Stands, around}
use Rattle.source_laws.specs.Regions.{bodies_complete_before}
use Rattle.source_laws.specs.DirectNames.{Meaning}
use Rattle.source_laws.specs.UseClauses.{visible_by, by_clauses, one_of, meaning_or, child_meaning, direct_name_means}
use Rattle.source_laws.specs.Tables.{table_at}
use Rattle.source_laws.specs.Denoted.{told_meaning}
use Rattle.source_laws.specs.Places.{place_of, places_before, is_among, all_differ}
use Rattle.source_laws.proofs.Names.PositionLemmas.{false-true, stands-here, stands-tail, stands-trans}
use Rattle.source_laws.proofs.Names.Known.{Known, known, opened_as, known-resolved}
use Rattle.source_laws.proofs.Names.KnownBegun.{denoted-noted}
use Rattle.source_laws.proofs.Names.Placing.{looks, IsPlaced}
use Rattle.source_laws.proofs.Names.Texts.{IsText}
use Rattle.source_laws.proofs.Names.Kept.{known_at, here_at, numbers_of}
use Rattle.source_laws.proofs.Names.Noted.{same-resolved, both-false}
use Rattle.source_laws.proofs.Names.Lawful.{text-stands, complete-stands, all-around, directly-meant}
use Rattle.source_laws.proofs.Names.Denoting.{same_place-path, among-append, differ-apart, never-noted, differ-at, not-true}
use Rattle.source_laws.proofs.Names.ClausesKept.{Unowned, clauses-resolved}
use Rattle.source_laws.proofs.Names.Founders.{placed-stands}
use Rattle.source_laws.proofs.Names.PackagesKept.{IsSound, sound-kept}
use Rattle.source_laws.proofs.Names.Joined.{Among, ShownBy, tells-used, ClauseShows, lists-clauses, meaning_sought, told-one}
use Rattle.source_laws.proofs.Names.UsesKept.{used_package, used_at, uses-from, uses-to, stands-open, open-stands}
use Rattle.source_laws.proofs.Names.Selecting.{sought-there}
use Rattle.source_laws.proofs.Names.ClauseNames.{Barren, Fits, Ends, Unnoted, parts-end}
use Rattle.source_laws.proofs.Names.Meanings.{clause_means, means-clauses}
use Rattle.source_laws.proofs.Names.Owners.{position-apart, unowned-kept}
use Rattle.source_laws.proofs.Names.Shows.{told, kept-here, entity-told, alike, agree, Shows, unit-shows, entity-shows}

-- ---- what was sought is kept at the place of the name

abbrev pub found : Sought → Option Denoted
found (answer.Found d) = Some d
found answer.Unknown = None
found answer.Ambiguous = None

pub found-noted : (i : Identifier) (n : Names) → denoted_at n i.place ≡ None → denoted_at (resolved i n) i.place ≡ found (sought n i.text)
unfolding resolved
found-noted i n none = go (sought n i.text)
  where
    go : (s : Sought) → denoted_at (answered i s n) i.place ≡ found s
    go answer.Unknown = none
    go (answer.Found d) = denoted-noted i.place d n.denotations
    go answer.Ambiguous = none

-- ---- places that differ

differ-first : (xs ys : List Place) → all_differ (xs ++ ys) ≡ true → all_differ xs ≡ true
differ-first [] ys e = refl
differ-first (x ∷ xs) ys e =
    go (is_among x xs) (both-false x (is_among x xs) (is_among x ys) (sym (among-append x xs ys) ∙ not-true (is_among x (xs ++ ys)) both.0)).0
    (differ-first xs ys both.1)
  where
    both : (not (is_among x (xs ++ ys)) ≡ true) × (all_differ (xs ++ ys) ≡ true)
    both = and_parts (not (is_among x (xs ++ ys))) (all_differ (xs ++ ys)) e

    go : (t : Bool) → t ≡ false → all_differ xs ≡ true → (not t && all_differ xs) ≡ true
    go true q more = absurd (false-true (sym q))
    go false q more = more

-- what is among the first ones is not among the later
differ-later : (p : Place) (xs ys : List Place) → all_differ (xs ++ ys) ≡ true → is_among p xs ≡ true → is_among p ys ≡ false
differ-later p xs ys e first = go (is_among p ys) refl
  where
    go : (t : Bool) → is_among p ys ≡ t → is_among p ys ≡ false
    go true q = absurd (false-true (sym (differ-apart p xs ys e q) ∙ first))
    go false q = q

-- in a source that ends with what stands before `end`
module _ (last : ℕ) (end : Before) (t : IsText end) (placed : IsPlaced end) (complete : bodies_complete_before end ≡ true)
    (apart : all_differ (places_before end) ≡ true) where
  abbrev meant : Denoted → Meaning
  meant = told last end t placed complete apart

  abbrev ShowsAt : Before → List ℕ → Meaning → Option Denoted → Type 0
  ShowsAt = Shows last end t placed complete apart

  -- the table and the position say the same of all direct names here
  abbrev pub Says : Before → Type 0
  Says c = (name : List ℕ) → meaning_sought meant (sought (table_at last c) name) ≡ direct_name_means last name c

  -- ---- the name of a clause that stands behind b

  module _ (q : Name) (b c : Before) (stands : Stands (use_package q ∷ b) c) (up : Stands c end) (l : looks (around c) ≡ true) (name : List ℕ)
      (says : Says b) where
    abbrev first : Identifier
    first = q.parts.first

    abbrev before_first : Names
    before_first = table_at last b

    abbrev behind_it : Names
    behind_it = resolved first before_first

    b-stands : Stands b c
    b-stands = stands-tail (use_package q) b c stands

    b-up : Stands b end
    b-up = stands-trans b c end b-stands up

    b-text : IsText b
    b-text = text-stands b end b-up t

    differ : all_differ (first.place ∷ (map place_of q.parts.others ++ places_before b)) ≡ true
    differ = differ-at (use_package q ∷ b) end (stands-trans (use_package q ∷ b) c end stands up) apart

    first-alone : (is_among first.place (map place_of q.parts.others) ≡ false) × (is_among first.place (places_before b) ≡ false)
    first-alone = both-false first.place (is_among first.place (map place_of q.parts.others)) (is_among first.place (places_before b)) (
        sym (among-append first.place (map place_of q.parts.others) (places_before b))
        ∙ not-true (is_among first.place (map place_of q.parts.others ++ places_before b))
        (and_parts (not (is_among first.place (map place_of q.parts.others ++ places_before b))) _ differ).0)

    others-differ : all_differ (map place_of q.parts.others ++ places_before b) ≡ true
    others-differ = (and_parts (not (is_among first.place (map place_of q.parts.others ++ places_before b))) _ differ).1

    first-denoted : denoted_at behind_it first.place ≡ found (sought before_first first.text)
    first-denoted = found-noted first before_first (never-noted last first.place b first-alone.1)

    same-known : known behind_it ≡ known before_first
    same-known = known-resolved first before_first

    entity-used : (y : ℕ) (x : Entity) → slice_get (known_at last b).entities y ≡ Some x
        → used_package behind_it (Some (denotes.Entity y)) ≡ cond (is_package_kind x.kind) (Some (denotes.Entity y)) None
    entity-used y x there =
        ap (λ (k : Known).
        cond (holds_of is_package_kind (option_map (λ (w : Entity). w.kind) (slice_get k.entities y))) (Some (denotes.Entity y)) None) same-known
        ∙ ap (λ z. cond (holds_of is_package_kind (option_map (λ (w : Entity). w.kind) z)) (Some (denotes.Entity y)) None) there

    -- a direct name
    first-shows : (s : Sought) → sought before_first first.text ≡ s → ShowsAt c name (meaning_sought meant s) (used_package behind_it (found s))
    first-shows answer.Unknown e = refl
    first-shows answer.Ambiguous e = refl
    first-shows (answer.Found (denotes.Unit u)) e = unit-shows last end t placed complete apart c up l name u
    first-shows (answer.Found (denotes.Item u i)) e = refl
    first-shows (answer.Found (denotes.Entity y)) e =
        let x = sought-there before_first first.text y (sound-kept last b b-text) e in
        ap (visible_by last name c) (entity-told last end t placed complete apart b y x.0 b-up x.1)
        ∙ (entity-shows last end t placed complete apart c b b-stands up name y x.0 x.1
        ∙ ap (λ z. option_map meant (and_then z (visible_in (table_at last c) name))) (sym (entity-used y x.0 x.1)))

    -- one with further parts
    first-fits : (s : Sought) → sought before_first first.text ≡ s → Fits (found s) (meaning_sought meant s)
    first-fits answer.Unknown e = λ i rest. refl
    first-fits answer.Ambiguous e = λ i rest. refl
    first-fits (answer.Found (denotes.Unit u)) e = refl
    first-fits (answer.Found (denotes.Item u i)) e = λ j rest. refl
    first-fits (answer.Found (denotes.Entity y)) e =
        let x = sought-there before_first first.text y (sound-kept last b b-text) e in
        subst Barren (sym (entity-told last end t placed complete apart b y x.0 b-up x.1)) (λ i rest. refl)

    ends-show : (n : Names) (x : Option Denoted) (m : Meaning) → Ends n x m → ShowsAt c name m (used_package n x)
    ends-show n x m (inl e) =
        ap (visible_by last name c) e.2
        ∙ (unit-shows last end t placed complete apart c up l name e.0
        ∙ ap (λ z. option_map meant (and_then (used_package n z) (visible_in (table_at last c) name))) (sym e.1))
    ends-show n x m (inr e) = ap (visible_by last name c) e.0 ∙ ap (λ z. option_map meant (and_then z (visible_in (table_at last c) name))) (sym e.1)

    unnoted : (i : Identifier) (rest : List Identifier) → q.parts.others ≡ i ∷ rest → Unnoted behind_it (i ∷ rest)
    unnoted i rest e = (
      ap (λ z. all_differ (map place_of z)) (sym e) ∙ differ-first (map place_of q.parts.others) (places_before b) others-differ,
      λ p among. (
          let here : is_among p (map place_of q.parts.others) ≡ true = ap (λ z. is_among p (map place_of z)) e ∙ among in
          same-resolved p first before_first (other-place p here)
          ∙ never-noted last p b (differ-later p (map place_of q.parts.others) (places_before b) others-differ here)),
    )
      where
        other-place : (p : Place) → is_among p (map place_of q.parts.others) ≡ true → same_place p first.place ≡ false
        other-place p here = go (same_place p first.place) refl
          where
            go : (k : Bool) → same_place p first.place ≡ k → same_place p first.place ≡ false
            go true h =
                absurd (false-true (sym first-alone.0 ∙ (ap (λ z. is_among z (map place_of q.parts.others)) (sym (same_place-path p first.place h)) ∙ here)))
            go false h = h

    parts-show : (parts : List Identifier) → q.parts.others ≡ parts → (s : Sought) → sought before_first first.text ≡ s
        → ShowsAt c name (child_meaning (meaning_sought meant s) parts)
        (used_package (parts_resolved (found s) parts behind_it) (denoted_at (parts_resolved (found s) parts behind_it) (last_from first parts).place))
    parts-show [] e s sought-s =
        first-shows s sought-s
        ∙ ap (λ z. option_map meant (and_then (used_package behind_it z) (visible_in (table_at last c) name))) (sym (first-denoted ∙ ap found sought-s))
    parts-show (i ∷ rest) e s sought-s =
        ends-show (parts_resolved (found s) (i ∷ rest) behind_it) (denoted_at (parts_resolved (found s) (i ∷ rest) behind_it) (last_from i rest).place)
        (child_meaning (meaning_sought meant s) (i ∷ rest))
        (parts-end (found s) (meaning_sought meant s) i rest behind_it (first-fits s sought-s) (subst IsSound (sym same-known) (sound-kept last b b-text))
        (subst Unowned (ap (λ z. z.frames) (sym (clauses-resolved first before_first)))
        (unowned-kept last b b-text (placed-stands b end b-up placed) (complete-stands b end b-up complete)))
        (unnoted i rest e))

    clause-shows : ShowsAt c name (clause_means last q b) (used_at last q b)
    unfolding name_resolved
    clause-shows =
        ap (λ m. visible_by last name c (child_meaning m q.parts.others)) (sym (says first.text))
        ∙ (parts-show q.parts.others refl (sought before_first first.text) refl
        ∙ ap (λ z. option_map meant
        (and_then (used_package (parts_resolved z q.parts.others behind_it)
        (denoted_at (parts_resolved z q.parts.others behind_it) (last_from first q.parts.others).place))
        (visible_in (table_at last c) name)))
        (sym first-denoted))

  -- ---- at a position

  module _ (c : Before) (up : Stands c end) (l : looks (around c) ≡ true) (older : (b : Before) (q : Name) → Stands (use_package q ∷ b) c → Says b)
      (name : List ℕ) where
    abbrev here : Names
    here = table_at last c

    abbrev open_regions : List ℕ
    open_regions = numbers_of (map opened_as here.frames)

    clause-looks : (q : Name) (b : Before) → Stands (use_package q ∷ b) c → looks (around b) ≡ true
    clause-looks q b s = (placed-stands (use_package q ∷ b) end (stands-trans (use_package q ∷ b) c end s up) placed).0

    to : (d : Denoted) → ShownBy here name open_regions d → ClauseShows (clause_means last) last name c c (meant d)
    to d h =
        let u : UseClause = h.0 in
        let f = uses-from last c u h.1 in
        let q = f.0 in
        let b = f.1 in
        let bs : Stands b c = stands-tail (use_package q) b c f.2 in
        let bup : Stands b end = stands-trans b c end bs up in
        let positive = position-apart b (text-stands b end bup t) (placed-stands b end bup placed) (clause-looks q b f.2) in
        let k = kept-here last end t placed complete apart c up in (
          q,
          b,
          f.2,
          open-stands last c b k bs (around c) (all-around 0 c) positive
              (subst (λ r. Among r (map (here_at last) (around c) ++ 0 ∷ [])) f.4 (subst (Among u.region) k.regions.opened h.2)),
          clause-shows q b c f.2 up l name (older b q f.2) ∙ (ap (λ z. option_map meant (and_then z (visible_in here name))) f.3 ∙ ap (option_map meant) h.3),
        )

    from : (m : Meaning) → ClauseShows (clause_means last) last name c c m → (d : Denoted) × ShownBy here name open_regions d × (meant d ≡ m)
    from m (q, b, s, a, v) = by_used (used_at last q b) refl (sym (clause-shows q b c s up l name (older b q s)) ∙ v)
      where
        bs : Stands b c
        bs = stands-tail (use_package q) b c s

        among : Among (here_at last b) open_regions
        among =
            let k = kept-here last end t placed complete apart c up in
            subst (Among (here_at last b)) (sym k.regions.opened) (stands-open last c b k bs (around c) (all-around 0 c) a)

        by_shown : (w : Denoted) → used_at last q b ≡ Some w → (x : Option Denoted) → visible_in here name w ≡ x → option_map meant x ≡ Some m
            → (d : Denoted) × ShownBy here name open_regions d × (meant d ≡ m)
        by_shown w e None g h = cc
        by_shown w e (Some d) g h = (
          d,
          (record { region = here_at last b; used = w }, uses-to last c (record { region = here_at last b; used = w }) (q, b, s, e, refl), among, g),
          (let same : meant d ≡ m = cc in same),
        )

        by_used : (x : Option Denoted) → used_at last q b ≡ x → option_map meant (and_then x (visible_in here name)) ≡ Some m
            → (d : Denoted) × ShownBy here name open_regions d × (meant d ≡ m)
        by_used None e h = cc
        by_used (Some w) e h = by_shown w e (visible_in here name w) refl h

    used-means : meaning_sought meant (used_around here name here.frames) ≡ one_of (by_clauses (clause_means last) last name c c)
    used-means =
        told-one meant (ShownBy here name open_regions) (ClauseShows (clause_means last) last name c c) to from
        (λ d e x y same. alike last end t placed complete apart c up name x.0.used y.0.used d e x.3 y.3 same) (agree last end t placed complete apart)
        (used_around here name here.frames) (by_clauses (clause_means last) last name c c) (tells-used here name here.frames)
        (lists-clauses (clause_means last) last name c c)

    or-meant : (used : Sought) (x : Option (Option Denoted))
        → meaning_sought meant (found_or used x) ≡ meaning_or (meaning_sought meant used) (option_map (told_meaning (table_at last end)) x)
    or-meant used None = refl
    or-meant used (Some None) = refl
    or-meant used (Some (Some d)) = refl

    name-says : meaning_sought meant (sought here name) ≡ direct_name_means last name c
    unfolding sought
    name-says =
        or-meant (used_around here name here.frames) (directly here name)
        ∙ (ap (λ m. meaning_or m (option_map (told_meaning (table_at last end)) (directly here name))) used-means
        ∙ (ap (meaning_or (one_of (by_clauses (clause_means last) last name c c)))
        (directly-meant last c end name up (kept-here last end t placed complete apart c up) (kept-here last end t placed complete apart end (stands-here end)))
        ∙ sym (means-clauses last name c)))

  -- ---- at each position

  pub all-say : (c : Before) → Stands c end → (b : Before) → Stands b c → looks (around b) ≡ true → Says b
  all-say [] up b s l = absurd (false-true (ap (λ z. looks (around z)) (sym s) ∙ l))
  all-say (o ∷ c) up b (inl e) l =
      subst Says (sym e)
      (name-says (o ∷ c) up (ap (λ z. looks (around z)) (sym e) ∙ l) (λ d q stands. all-say c (stands-tail o c end up) d (clause-before q d stands) (
      (placed-stands (use_package q ∷ d) end (stands-trans (use_package q ∷ d) (o ∷ c) end stands up) placed).0)))
    where
      clause-before : (q : Name) (d : Before) → Stands (use_package q ∷ d) (o ∷ c) → Stands d c
      clause-before q d (inl h) = let same : d ≡ c = cc in subst (λ z. Stands z c) (sym same) (stands-here c)
      clause-before q d (inr h) = stands-tail (use_package q) d c h
  all-say (o ∷ c) up b (inr s) l = all-say c (stands-tail o c end up) b s l
