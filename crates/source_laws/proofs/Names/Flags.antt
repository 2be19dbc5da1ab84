-- Which open regions show what is declared in them to the outside: those of packages' declarations, of units and of records, up
-- to their private part.
use Rattle.std.proofs.Common.{◌≡◌, ℕ, suc, Bool, true, false, cond, not, ◌&&◌, List, [], ◌∷◌, map, Option, Some, None, is_some, refl, sym, ap, subst, ◌∙◌}
use Rattle.ada_tree.specs.declared.names.Identifier.{Identifier}
use Rattle.ada_tree.specs.declared.declarations.SubprogramSpecification.{SubprogramSpecification}
use Rattle.ada_regions.specs.declared.entities.UnitKind.{UnitKind}
use Rattle.ada_regions.specs.declared.entities.UnitKind.TheVariants as unit
use Rattle.ada_regions.specs.declared.entities.Denoted.TheVariants as denotes
use Rattle.ada_regions.specs.declared.table.PackageContext.{PackageContext}
use Rattle.ada_regions.specs.declared.table.Names.{Names}
use Rattle.ada_regions.specs.Names.{noted, region_of_entity, region_here, entity_denoted}
use Rattle.ada_regions.specs.Visibility.{resolved}
use Rattle.ada_regions.specs.Occurrences.{Occurrence, Region, the_package, the_main_procedure, a_derived_type, a_task, a_protected, the_context, the_context_of}
use Rattle.ada_regions.specs.Occurrences.{further_context, package_region, package_body, main_body, a_profile, subprogram_body, a_unit, task_body}
use Rattle.ada_regions.specs.Occurrences.{protected_body, entry_body, an_accept, a_block, a_loop, a_record, begins, ends, private_from_here, hides, heads}
use Rattle.ada_regions.specs.Occurrences.{declares, declares_unit, completes, is_called, mentions, mentions_simply, mentions_entry, with_unit, use_package}
use Rattle.ada_regions.specs.Declaring.{hidden}
use Rattle.ada_regions.specs.Completions.{headed, completed_in, is_unit, has_body, body_of_unit, first_body, later_body, body_here}
use Rattle.ada_regions.specs.Completions.{body_elsewhere, body_sought, body_begun_at, body_begun, body_apart, seen_again, entity_bound}
use Rattle.ada_regions.specs.Regions.{context_again, package_opened, package_body_begun, package_named, with_scope, next_scope, begun, library_unit}
use Rattle.ada_regions.specs.Numbered.{behind}
use Rattle.source_laws.specs.Positions.{Before, around, all_but_innermost}
use Rattle.source_laws.specs.UseClauses.{is_private_behind}
use Rattle.source_laws.specs.Tables.{table_at}
use Rattle.source_laws.proofs.Names.PositionLemmas.{none-some, behind-one_more}
use Rattle.source_laws.proofs.Names.Known.{Open, known, innermost, outside, first_again, exports_no_more, with_bound, known-resolved, known-name_resolved}
use Rattle.source_laws.proofs.Names.Known.{known-entry_mentioned, known-withed, known-used, known-ended, known-made_private, known-named_as, known-hidden}
use Rattle.source_laws.proofs.Names.KnownDeclared.{region_behind_it, known-declared, known-package_declared}
use Rattle.source_laws.proofs.Names.KnownDeclared.{known-main_declared, outer, known-completed, known-body_declared}
use Rattle.source_laws.proofs.Names.KnownBegun.{IsOwn, known-own, known-body_of_unit}
use Rattle.source_laws.proofs.Names.KeptWaiting.{task-known, protected-known, derived-known, package-known}
use Rattle.source_laws.proofs.Names.Kept.{known_at}
use Rattle.source_laws.proofs.Names.Texts.{IsText, FitsBehind, FitsHere, BeginsAlone, IsAround}

-- ---- by position

-- a region that shows what is declared in it begins here
abbrev pub shows : Before → Bool
shows (begins (package_region i) ∷ before) = true
shows (begins (a_unit i) ∷ before) = true
shows (begins (a_record i) ∷ before) = true
shows _ = false

-- of regions around, the innermost outside as many as these; that of Standard shows nothing so
abbrev pub flags : ℕ → List Before → Before → List Bool
flags passed [] before = false ∷ []
flags passed (b ∷ bs) before = (shows b && not (is_private_behind passed before)) ∷ flags (suc passed) bs before

abbrev pub exports_of : List Open → List Bool
exports_of = map (λ o. o.exports)

-- ---- how occurrences change them

-- those that say nothing of privacy
flags-same : (passed : ℕ) (bs : List Before) (b c : Before) → ((k : ℕ) → is_private_behind k b ≡ is_private_behind k c) → flags passed bs b ≡ flags passed bs c
flags-same passed [] b c same = refl
flags-same passed (x ∷ bs) b c same =
    ap (λ t. (shows x && not t) ∷ flags (suc passed) bs b) (same passed)
    ∙ ap (λ fs. (shows x && not (is_private_behind passed c)) ∷ fs) (flags-same (suc passed) bs b c same)

flags-inner : (passed : ℕ) (bs : List Before) (r : Region) (before : Before) → flags (suc passed) bs (begins r ∷ before) ≡ flags passed bs before
flags-inner passed [] r before = refl
flags-inner passed (x ∷ bs) r before = ap (λ fs. (shows x && not (is_private_behind passed before)) ∷ fs) (flags-inner (suc passed) bs r before)

flags-ended : (passed : ℕ) (bs : List Before) (before : Before) → flags passed bs (ends ∷ before) ≡ flags (suc passed) bs before
flags-ended passed [] before = refl
flags-ended passed (x ∷ bs) before = ap (λ fs. (shows x && not (is_private_behind (suc passed) before)) ∷ fs) (flags-ended (suc passed) bs before)

flags-private : (passed : ℕ) (bs : List Before) (before : Before) → flags (suc passed) bs (private_from_here ∷ before) ≡ flags (suc passed) bs before
flags-private passed [] before = refl
flags-private passed (x ∷ bs) before = ap (λ fs. (shows x && not (is_private_behind (suc passed) before)) ∷ fs) (flags-private (suc passed) bs before)

-- ---- a region that begins alone shows nothing

-- m has one more region open than n, which shows nothing
Closed : Names → Names → Type 0
Closed n m = exports_of (known m).opened ≡ false ∷ exports_of (known n).opened

closed-first : (e : ℕ) (region : Option ℕ) (i : Identifier) (scope : Option ℕ) (n : Names) → Closed n (first_body e region i scope n)
unfolding Closed first_body body_apart
closed-first e None i scope n = refl
closed-first e (Some region) i scope n = go (has_body n e)
  where
    go : (b : Bool)
        → exports_of (known (cond b (body_apart (Some e) i scope (seen_again n region) n) (body_of_unit e region i scope n))).opened
        ≡ false ∷ exports_of (known n).opened
    go true = refl
    go false = ap (λ k. exports_of k.opened) (known-body_of_unit e region i scope n)

closed-later : (e : ℕ) (region : Option ℕ) (i : Identifier) (scope : Option ℕ) (n : Names) → Closed n (later_body e region i scope n)
unfolding Closed later_body body_apart
closed-later e None i scope n = refl
closed-later e (Some region) i scope n = refl

closed-here : (kind : UnitKind) (e : ℕ) (i : Identifier) (scope : Option ℕ) (n : Names) → Closed n (body_here kind e i scope n)
unfolding Closed body_here body_apart
closed-here kind e i scope n = go (is_unit kind n e)
  where
    go : (b : Bool)
        → exports_of (known (cond b (first_body e (region_of_entity n e) i scope (noted i.place (denotes.Entity e) n)) (body_apart None i scope [] n))).opened
        ≡ false ∷ exports_of (known n).opened
    go true = closed-first e (region_of_entity n e) i scope (noted i.place (denotes.Entity e) n)
    go false = refl

closed-elsewhere : (kind : UnitKind) (e : Option ℕ) (i : Identifier) (scope : Option ℕ) (n : Names) → Closed n (body_elsewhere kind e i scope n)
unfolding Closed body_elsewhere body_apart
closed-elsewhere kind None i scope n = refl
closed-elsewhere kind (Some e) i scope n = go (is_unit kind n e)
  where
    go : (b : Bool)
        → exports_of (known (cond b (later_body e (region_of_entity n e) i scope n) (body_apart None i scope [] n))).opened
        ≡ false ∷ exports_of (known n).opened
    go true = closed-later e (region_of_entity n e) i scope n
    go false = refl

closed-body : (kind : UnitKind) (i : Identifier) (scope : Option ℕ) (n : Names) → Closed n (body_begun kind i scope n)
unfolding Closed body_begun body_sought
closed-body kind i scope n = go (entity_bound n (region_here n) i.text)
  where
    go : (e : Option ℕ) → exports_of (known (body_begun_at kind e i scope n)).opened ≡ false ∷ exports_of (known n).opened
    go (Some e) = closed-here kind e i scope n
    go None = closed-elsewhere kind (entity_denoted (resolved i n) i.place) i scope (resolved i n) ∙ ap (λ k. false ∷ exports_of k.opened) (known-resolved i n)

closed-opened : (e : ℕ) (i : Identifier) (region : Option ℕ) (n : Names) → Closed n (package_opened e i false region n)
unfolding Closed body_apart
closed-opened e i None n = refl
closed-opened e i (Some region) n = refl

closed-package : (e : Option ℕ) (i : Identifier) (n : Names) → Closed n (package_body_begun e i n)
unfolding Closed package_body_begun body_apart
closed-package None i n = refl
closed-package (Some e) i n = closed-opened e i (region_of_entity n e) (noted i.place (denotes.Entity e) n)

closed-context : (c : Option PackageContext) (n : Names) → Closed n (context_again c n)
unfolding Closed context_again
closed-context None n = refl
closed-context (Some c) n = refl

closed-own : (r : Region) (n : Names) → IsOwn r → Closed n (begun r n)
unfolding Closed
closed-own r n own = ap (λ k. exports_of k.opened) (known-own r n own)

closed-begun : (r : Region) (n : Names) → BeginsAlone r → Closed n (begun r n)
unfolding begun Closed
closed-begun (the_context_of i) n alone = closed-context _ n
closed-begun (package_region i) n alone = absurd alone
closed-begun (package_body i) n alone = closed-package (package_named n i.text) i n
closed-begun (a_unit i) n alone = absurd alone
closed-begun (task_body i place) n alone = closed-body unit.Task i (next_scope n) (with_scope place false false n)
closed-begun (protected_body i) n alone = closed-body unit.Protected i None n
closed-begun (a_record i) n alone = absurd alone
closed-begun the_context n alone = closed-own the_context n tt
closed-begun further_context n alone = closed-own further_context n tt
closed-begun (main_body i place) n alone = closed-own (main_body i place) n tt
closed-begun a_profile n alone = closed-own a_profile n tt
closed-begun (subprogram_body place is_function) n alone = closed-own (subprogram_body place is_function) n tt
closed-begun (entry_body i place barrier) n alone = closed-own (entry_body i place barrier) n tt
closed-begun (an_accept i place) n alone = closed-own (an_accept i place) n tt
closed-begun (a_block label place) n alone = closed-own (a_block label place) n tt
closed-begun (a_loop label) n alone = closed-own (a_loop label) n tt

alone-shows : (r : Region) (before : Before) → BeginsAlone r → shows (begins r ∷ before) ≡ false
alone-shows (package_region i) before alone = absurd alone
alone-shows (a_unit i) before alone = absurd alone
alone-shows (a_record i) before alone = absurd alone
alone-shows _ before alone = refl

-- ---- on the way through a text

abbrev pub FlagsKept : ℕ → Before → Type 0
FlagsKept last before = exports_of (known_at last before).opened ≡ flags 0 (around before) before

-- an occurrence that leaves the open regions
flags-stay : (last : ℕ) (o : Occurrence) (before : Before) → FlagsKept last before
    → exports_of (known_at last (o ∷ before)).opened ≡ exports_of (known_at last before).opened
    → around (o ∷ before) ≡ around before → ((k : ℕ) → is_private_behind k (o ∷ before) ≡ is_private_behind k before) → FlagsKept last (o ∷ before)
flags-stay last o before k same stays privacy =
    same ∙ (k ∙ (sym (flags-same 0 (around before) (o ∷ before) before privacy) ∙ ap (λ bs. flags 0 bs (o ∷ before)) (sym stays)))

-- the list of flags is never empty
first_again-exports : (os : List Open) (passed : ℕ) (bs : List Before) (before : Before) → exports_of os ≡ flags passed bs before
    → exports_of (first_again os) ≡ exports_of os
first_again-exports [] passed [] before e = cc
first_again-exports [] passed (b ∷ bs) before e = cc
first_again-exports (o ∷ os) passed bs before e = refl

rest_of : List Bool → List Bool
rest_of [] = []
rest_of (b ∷ bs) = bs

outside-exports : (os : List Open) → exports_of (outside os) ≡ rest_of (exports_of os)
unfolding rest_of
outside-exports [] = refl
outside-exports (o ∷ os) = refl

no_more-exports : (os : List Open) → exports_of (exports_no_more os) ≡ false ∷ rest_of (exports_of os)
unfolding rest_of
no_more-exports [] = refl
no_more-exports (o ∷ os) = refl

heads-exports : (i : Identifier) (n : Names) → exports_of (known (headed i n)).opened ≡ exports_of (known n).opened
unfolding headed
heads-exports i n = go (is_some (completed_in n (region_here n) i.text))
  where
    hidden-exports : (b : Bool)
        → exports_of (cond b (known n) (with_bound (innermost (known n).opened) i.text None (known n))).opened ≡ exports_of (known n).opened
    hidden-exports true = refl
    hidden-exports false = refl

    go : (b : Bool) → exports_of (known (cond b n (hidden i n))).opened ≡ exports_of (known n).opened
    go true = refl
    go false = ap (λ k. exports_of k.opened) (known-hidden i n) ∙ hidden-exports _

hides-exports : (i : Identifier) (n : Names) → exports_of (known (hidden i n)).opened ≡ exports_of (known n).opened
hides-exports i n = ap (λ k. exports_of k.opened) (known-hidden i n) ∙ go _
  where
    go : (b : Bool) → exports_of (cond b (known n) (with_bound (innermost (known n).opened) i.text None (known n))).opened ≡ exports_of (known n).opened
    go true = refl
    go false = refl

-- what begins no region, ends none and says nothing of privacy
IsPublic : Occurrence → Type 0
IsPublic (begins r) = ⊥
IsPublic ends = ⊥
IsPublic private_from_here = ⊥
IsPublic _ = Unit {0}

public-privacy : (o : Occurrence) (before : Before) → IsPublic o → (k : ℕ) → is_private_behind k (o ∷ before) ≡ is_private_behind k before
unfolding IsPublic
public-privacy (begins r) before public k = absurd public
public-privacy ends before public k = absurd public
public-privacy private_from_here before public k = absurd public
public-privacy _ before public k = refl

public-around : (o : Occurrence) (before : Before) → IsPublic o → around (o ∷ before) ≡ around before
unfolding IsPublic
public-around (begins r) before public = absurd public
public-around ends before public = absurd public
public-around private_from_here before public = absurd public
public-around _ before public = refl

public-flags : (last : ℕ) (o : Occurrence) (before : Before) → IsPublic o → FlagsKept last before
    → exports_of (known_at last (o ∷ before)).opened ≡ exports_of (known_at last before).opened → FlagsKept last (o ∷ before)
public-flags last o before public k same = flags-stay last o before k same (public-around o before public) (public-privacy o before public)

completes-exports : (last : ℕ) (i : Identifier) (s : SubprogramSpecification) (before : Before) → FlagsKept last before
    → exports_of (known_at last (completes i s ∷ before)).opened ≡ exports_of (known_at last before).opened
unfolding behind
completes-exports last i s before k = go (completed_in (table_at last before) (outer (table_at last before)).region i.text) refl
  where
    again : exports_of (first_again (known_at last before).opened) ≡ exports_of (known_at last before).opened
    again = first_again-exports (known_at last before).opened 0 (around before) before k

    go : (e : Option ℕ) → completed_in (table_at last before) (outer (table_at last before)).region i.text ≡ e
        → exports_of (known_at last (completes i s ∷ before)).opened ≡ exports_of (known_at last before).opened
    go None e = ap (λ x. exports_of x.opened) (known-body_declared i s (table_at last before) e).2 ∙ again
    go (Some x) e = ap (λ y. exports_of y.opened) (known-completed i s (table_at last before) x e) ∙ again

-- a region that begins, and shows this much
begun-flags : (last : ℕ) (r : Region) (before : Before) (x : Bool) → FlagsKept last before → shows (begins r ∷ before) ≡ x
    → exports_of (known_at last (begins r ∷ before)).opened ≡ x ∷ exports_of (known_at last before).opened → FlagsKept last (begins r ∷ before)
begun-flags last r before x k is more =
    more
    ∙ (ap (λ fs. x ∷ fs) (k ∙ sym (flags-inner 0 (around before) r before))
    ∙ ap (λ t. t ∷ flags 1 (around before) (begins r ∷ before)) (sym (also-true x) ∙ ap (λ t. t && true) (sym is)))
  where
    also-true : (b : Bool) → (b && true) ≡ b
    also-true true = refl
    also-true false = refl

flags-settled : (last : ℕ) (o : Occurrence) (before : Before) → FitsBehind None o → FitsHere o before → FlagsKept last before → FlagsKept last (o ∷ before)
unfolding behind IsPublic rest_of Closed
flags-settled last (begins r) before fits here k = begun-flags last r before false k (alone-shows r before fits) (closed-begun r (table_at last before) fits)
flags-settled last ends before fits here k =
    ap (λ x. exports_of x.opened) (known-ended (table_at last before))
    ∙ (outside-exports (known_at last before).opened
    ∙ (ap rest_of k
    ∙ (still (around before) here
    ∙ (sym (flags-ended 0 (all_but_innermost (around before)) before) ∙ ap (λ bs. flags 0 bs (ends ∷ before)) (sym (behind-one_more 0 before))))))
  where
    still : (bs : List Before) → IsAround bs → rest_of (flags 0 bs before) ≡ flags 1 (all_but_innermost bs) before
    still [] a = absurd a
    still (b ∷ bs) a = refl
flags-settled last private_from_here before fits here k =
    ap (λ x. exports_of x.opened) (known-made_private (table_at last before))
    ∙ (no_more-exports (known_at last before).opened ∙ (ap (λ fs. false ∷ rest_of fs) k ∙ private-first (around before)))
  where
    never : (b : Bool) → (b && false) ≡ false
    never true = refl
    never false = refl

    private-first : (bs : List Before) → (false ∷ rest_of (flags 0 bs before)) ≡ flags 0 bs (private_from_here ∷ before)
    private-first [] = refl
    private-first (b ∷ bs) = ap (λ t. t ∷ flags 1 bs before) (sym (never (shows b))) ∙ ap (λ fs. (shows b && false) ∷ fs) (sym (flags-private 0 bs before))
flags-settled last (hides i) before fits here k = public-flags last (hides i) before tt k (hides-exports i (table_at last before))
flags-settled last (heads i) before fits here k = public-flags last (heads i) before tt k (heads-exports i (table_at last before))
flags-settled last (declares i what) before fits here k =
    public-flags last (declares i what) before tt k (ap (λ x. exports_of x.opened) (known-declared i what (table_at last before) here).2)
flags-settled last (declares_unit i the_package) before fits here k =
    public-flags last (declares_unit i the_package) before tt k (ap (λ x. exports_of x.opened) (known-package_declared i (table_at last before)).2)
flags-settled last (declares_unit i the_main_procedure) before fits here k =
    public-flags last (declares_unit i the_main_procedure) before tt k (ap (λ x. exports_of x.opened) (known-main_declared i (table_at last before)).2)
flags-settled last (declares_unit i _) before fits here k = absurd here
flags-settled last (completes i s) before fits here k = public-flags last (completes i s) before tt k (completes-exports last i s before k)
flags-settled last (is_called i) before fits here k =
    public-flags last (is_called i) before tt k
    (ap (λ x. exports_of x.opened) (known-named_as i (table_at last before)) ∙ first_again-exports (known_at last before).opened 0 (around before) before k)
flags-settled last (mentions name) before fits here k =
    public-flags last (mentions name) before tt k (ap (λ x. exports_of x.opened) (known-name_resolved name (table_at last before)))
flags-settled last (mentions_simply i) before fits here k =
    public-flags last (mentions_simply i) before tt k (ap (λ x. exports_of x.opened) (known-resolved i (table_at last before)))
flags-settled last (mentions_entry i) before fits here k =
    public-flags last (mentions_entry i) before tt k (ap (λ x. exports_of x.opened) (known-entry_mentioned i (table_at last before)))
flags-settled last (with_unit name) before fits here k =
    public-flags last (with_unit name) before tt k
    (ap (λ x. exports_of x.opened) (known-withed name (library_unit (table_at last before) name) (table_at last before)))
flags-settled last (use_package name) before fits here k =
    public-flags last (use_package name) before tt k (ap (λ x. exports_of x.opened) (known-used name (table_at last before)))

pub some-region : (a b : Region) → Some a ≡ Some b → a ≡ b
some-region a b e = cc

flags-next : (last : ℕ) (d : Occurrence) (b : Before) (r : Region) → region_behind_it d ≡ Some r → FlagsKept last (d ∷ b) → FlagsKept last (begins r ∷ d ∷ b)
flags-next last (declares i (a_task is_type aspects)) b r e k =
    subst (λ z. FlagsKept last (begins z ∷ declares i (a_task is_type aspects) ∷ b)) (some-region (a_unit i) r e)
    (begun-flags last (a_unit i) (declares i (a_task is_type aspects) ∷ b) true k refl (ap (λ x. exports_of x.opened) (task-known last i b is_type aspects)))
flags-next last (declares i (a_protected is_type aspects)) b r e k =
    subst (λ z. FlagsKept last (begins z ∷ declares i (a_protected is_type aspects) ∷ b)) (some-region (a_unit i) r e)
    (begun-flags last (a_unit i) (declares i (a_protected is_type aspects) ∷ b) true k refl
    (ap (λ x. exports_of x.opened) (protected-known last i b is_type aspects)))
flags-next last (declares i (a_derived_type parent)) b r e k =
    subst (λ z. FlagsKept last (begins z ∷ declares i (a_derived_type parent) ∷ b)) (some-region (a_record i) r e)
    (begun-flags last (a_record i) (declares i (a_derived_type parent) ∷ b) true k refl (ap (λ x. exports_of x.opened) (derived-known last i b parent)))
flags-next last (declares_unit i the_package) b r e k =
    subst (λ z. FlagsKept last (begins z ∷ declares_unit i the_package ∷ b)) (some-region (package_region i) r e)
    (begun-flags last (package_region i) (declares_unit i the_package ∷ b) true k refl (ap (λ x. exports_of x.opened) (package-known last i b)))
flags-next last _ b r e k = absurd (none-some r e)

flags-by : (last : ℕ) (o d : Occurrence) (b : Before) → IsText (o ∷ d ∷ b) → FlagsKept last (d ∷ b) → (r : Option Region) → region_behind_it d ≡ r
    → FlagsKept last (o ∷ d ∷ b)
flags-by last o d b t k None e = flags-settled last o (d ∷ b) (subst (λ r. FitsBehind r o) e t.0) t.1 k
flags-by last o d b t k (Some r) e =
    let begun : o ≡ begins r = subst (λ z. FitsBehind z o) e t.0 in subst (λ z. FlagsKept last (z ∷ d ∷ b)) (sym begun) (flags-next last d b r e k)

pub flags-kept : (last : ℕ) (before : Before) → IsText before → FlagsKept last before
flags-kept last [] t = refl
flags-kept last (o ∷ []) t = flags-settled last o [] t.0 t.1 refl
flags-kept last (o ∷ d ∷ b) t = flags-by last o d b t (flags-kept last (d ∷ b) t.2) (region_behind_it d) refl
