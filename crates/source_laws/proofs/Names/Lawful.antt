-- The laws of names hold: what the way through a text keeps, said of the tables of sources.
use Rattle.std.proofs.Common.{◌≡◌, inl, inr, ℕ, zero, suc, true, List, [], ◌∷◌, ◌++◌, length, map}
use Rattle.std.proofs.Common.{Option, Some, None, option_map, IsTrue, refl, sym, ap, subst, ◌∙◌, arith}
use Rattle.ann_base.specs.declared.places.Place.{Place}
use Rattle.ada_tree.specs.declared.units.Unit.{Unit as Tree}
use Rattle.ada_regions.specs.declared.predefined.Predefined.{Predefined}
use Rattle.ada_regions.specs.declared.predefined.PredefinedUnit.{PredefinedUnit}
use Rattle.ada_regions.specs.declared.predefined.PredefinedUnit.TheVariants as units
use Rattle.ada_regions.specs.declared.entities.Denoted.TheVariants as denotes
use Rattle.ada_regions.specs.declared.entities.Entity.{Entity}
use Rattle.ada_regions.specs.declared.table.Binding.{Binding}
use Rattle.ada_regions.specs.declared.table.Frame.{Frame}
use Rattle.ada_regions.specs.declared.table.Names.{Names}
use Rattle.ada_regions.specs.Words.{and_then}
use Rattle.std.specs.Option.{option_or}
use Rattle.std.proofs.lemmas.Bool.{and_parts}
use Rattle.ada_regions.specs.PredefinedUnits.{root_unit, item_in}
use Rattle.ada_regions.specs.Names.{Bindings, binding_in, entity_at, region_here}
use Rattle.ada_regions.specs.Visibility.{innermost_binding, item_of, in_standard, bound, directly}
use Rattle.ada_regions.specs.Occurrences.{Occurrence, Occurrences, begins, ends}
use Rattle.ada_regions.specs.NamesInUnits.{names_in_unit}
use Rattle.ada_regions.specs.Numbered.{behind_all, last_priority_of}
use Rattle.source_laws.specs.Positions.{Before, Stands, read_on, around_behind, around, end_of, nearest}
use Rattle.source_laws.specs.Declarations.{declaration, declares_name, hides_name}
use Rattle.source_laws.specs.Regions.{number_of, number_of_innermost, region_of_position, first_or_none}
use Rattle.source_laws.specs.Regions.{bodies_complete_before, bodies_complete, completes_if_body}
use Rattle.source_laws.specs.DirectNames.{Meaning, meaning_of, meaning_if_seen, place_declared, declared_in_region, declared_around, direct_meaning}
use Rattle.source_laws.specs.Tables.{table_at}
use Rattle.source_laws.specs.Denoted.{told_meaning}
use Rattle.source_laws.specs.NameLaws.{TableAtTheEnd, RegionsByPosition, OpenRegionsByPosition, place_bound, DeclarationsByPosition, DirectlyByPosition}
use Rattle.source_laws.proofs.Names.PositionLemmas.{stands-here, stands-trans, stands-start, nearest-stands, nearest-holds}
use Rattle.source_laws.proofs.Names.NumberLemmas.{number-start}
use Rattle.source_laws.proofs.Names.Known.{opened_as}
use Rattle.source_laws.proofs.Names.Texts.{IsText}
use Rattle.source_laws.proofs.Names.Kept.{known_at, here_at, numbers_of}
use Rattle.source_laws.proofs.Names.KeptBindings.{told_of, said_by, said, told_in}
use Rattle.source_laws.proofs.Names.KeptSteps.{Kept}
use Rattle.source_laws.proofs.Names.KeptWaiting.{region-here}
use Rattle.source_laws.proofs.Names.KeptBodies.{no_start}
use Rattle.source_laws.proofs.Names.KeptAll.{kept}
use Rattle.source_laws.proofs.Names.UnitTexts.{unit-text}

-- ---- the table at the end

behind-read_on : (last : ℕ) (os : Occurrences) (before : Before) → table_at last (read_on os before) ≡ behind_all os (table_at last before)
behind-read_on last [] before = refl
behind-read_on last (o ∷ os) before = behind-read_on last os (o ∷ before)

pub table_at_the_end : TableAtTheEnd
table_at_the_end unit = behind-read_on (last_priority_of unit.pragmas) (names_in_unit unit) []

-- ---- at each position

pub text-stands : (b before : Before) → Stands b before → IsText before → IsText b
text-stands b [] s t = subst IsText (sym s) t
text-stands b (o ∷ before) (inl e) t = subst IsText (sym e) t
text-stands b (o ∷ before) (inr s) t = text-stands b before s t.2

pub complete-stands : (b before : Before) → Stands b before → bodies_complete_before before ≡ true → bodies_complete_before b ≡ true
complete-stands b [] s c = ap bodies_complete_before s ∙ c
complete-stands b (o ∷ before) (inl e) c = ap bodies_complete_before e ∙ c
complete-stands b (o ∷ before) (inr s) c = complete-stands b before s (and_parts (completes_if_body o before) (bodies_complete_before before) c).1

pub kept-in : (unit : Tree) (c : Before) → IsTrue (bodies_complete unit) → Stands c (end_of unit) → Kept (last_priority_of unit.pragmas) c
kept-in unit c complete s = kept (last_priority_of unit.pragmas) c (text-stands c (end_of unit) s (unit-text unit)) (complete-stands c (end_of unit) s complete)

pub regions_by_position : RegionsByPosition
regions_by_position unit complete b c s t =
    let last = last_priority_of unit.pragmas in
    let k = kept-in unit (end_of unit) complete (stands-here (end_of unit)) in (
      (λ e. k.regions.same b c s t (sym (region-here last b) ∙ (e ∙ region-here last c))),
      (λ e. region-here last b ∙ (k.regions.alike b c s t e ∙ sym (region-here last c))),
    )

length-numbers : (fs : List Frame) → length (numbers_of (map opened_as fs)) ≡ length fs
length-numbers [] = refl
length-numbers (f ∷ fs) = ap suc (length-numbers fs)

length-mapped : {X : Type 0} (f : X → ℕ) (xs : List X) → length (map f xs) ≡ length xs
length-mapped f [] = refl
length-mapped f (x ∷ xs) = ap suc (length-mapped f xs)

length-one_more : (ns : List ℕ) → length (ns ++ 0 ∷ []) ≡ suc (length ns)
length-one_more [] = refl
length-one_more (n ∷ ns) = ap suc (length-one_more ns)

pub open_regions_by_position : OpenRegionsByPosition
open_regions_by_position unit complete c s =
    let last = last_priority_of unit.pragmas in
    let k = kept-in unit c complete s in
    let frames : length (numbers_of (known_at last c).opened) ≡ length (table_at last c).frames = length-numbers (table_at last c).frames in
    let opened : length (numbers_of (known_at last c).opened) ≡ suc (length (map (here_at last) (around c))) =
    ap length k.regions.opened ∙ length-one_more (map (here_at last) (around c)) in
    let around-length : length (map (here_at last) (around c)) ≡ length (around c) = length-mapped (here_at last) (around c) in
    omega arith

-- ---- declarations

-- the places of entities
abbrev placed : Names → Option (Option ℕ) → Option (Option Place)
placed n = option_map (λ e. and_then e (λ x. option_map (λ y. y.place) (entity_at n x)))

bound-placed : (n : Names) (b : Option Binding) → place_bound n b ≡ placed n (told_of b)
bound-placed n None = refl
bound-placed n (Some b) = refl

-- the entities are those of a later position e
said-placed : (last : ℕ) (c e : Before) (region : ℕ) (name : List ℕ) → Stands c e → Kept last e
    → placed (table_at last e) (said last region name c) ≡ declared_in_region region name c
said-placed last c e region name s k = go (declaration number_of_innermost region name c) (nearest (hides_name number_of_innermost region name) c) refl
  where
    go : (d h : Option Before) → declaration number_of_innermost region name c ≡ d
        → placed (table_at last e) (said_by last d h) ≡ option_or (option_map place_declared d) (option_map (λ b. None) h)
    go None None q = refl
    go None (Some h) q = refl
    go (Some []) h q = absurd (no_start (declares_name number_of_innermost region name) c q)
    go (Some (o ∷ b)) h q =
        let stands : Stands (o ∷ b) e = stands-trans (o ∷ b) c e (nearest-stands (declares_name number_of_innermost region name) c (o ∷ b) q) s in
        let x = k.entities.there o b stands region name (nearest-holds (declares_name number_of_innermost region name) c (o ∷ b) q) in
        ap (λ y. Some (option_map (λ (z : Entity). z.place) y)) x.1 ∙ ap Some (sym x.2.place)

pub declarations_by_position : DeclarationsByPosition
declarations_by_position unit complete b c s t name =
    let last = last_priority_of unit.pragmas in
    let k = kept-in unit c complete t in
    bound-placed (table_at last c) (binding_in (table_at last c).bindings (region_here (table_at last b)) name)
    ∙ (ap (λ r. placed (table_at last c) (told_in last c r name)) (region-here last b)
    ∙ (ap (placed (table_at last c)) (k.bindings.binds b s name) ∙ said-placed last c c (region_of_position b) name (stands-here c) k))

-- ---- by nesting

-- the beginnings around stand before, each with itself the innermost around it
unfoldable pub AllAround : List Before → Before → Type 0
AllAround [] before = Unit {0}
AllAround (b ∷ bs) before = Stands b before × (first_or_none (around b) ≡ b) × AllAround bs before

all-farther : (o : Occurrence) (bs : List Before) (before : Before) → AllAround bs before → AllAround bs (o ∷ before)
unfolding AllAround
all-farther o [] before a = tt
all-farther o (b ∷ bs) before a = (inr a.0, a.1, all-farther o bs before a.2)

pub all-around : (passed : ℕ) (before : Before) → AllAround (around_behind passed before) before
unfolding AllAround
all-around passed [] = tt
all-around zero (begins r ∷ before) = (inl refl, refl, all-farther (begins r) (around before) before (all-around zero before))
all-around (suc passed) (begins r ∷ before) = all-farther (begins r) (around_behind passed before) before (all-around passed before)
all-around passed (ends ∷ before) = all-farther ends (around_behind (suc passed) before) before (all-around (suc passed) before)
all-around passed (o ∷ before) = all-farther o (around_behind passed before) before (all-around passed before)

-- the first of these regions that has the name
abbrev first_of : Bindings → List ℕ → List ℕ → Option Binding
first_of bindings name [] = None
first_of bindings name (r ∷ rs) = option_or (binding_in bindings r name) (first_of bindings name rs)

innermost-first_of : (bindings : Bindings) (name : List ℕ) (fs : List Frame)
    → innermost_binding bindings name fs ≡ first_of bindings name (numbers_of (map opened_as fs))
innermost-first_of bindings name [] = refl
innermost-first_of bindings name (f ∷ fs) = ap (option_or (binding_in bindings f.region name)) (innermost-first_of bindings name fs)

pub else-mapped : {X Y : Type 0} (f : X → Y) (a b : Option X) → option_map f (option_or a b) ≡ option_or (option_map f a) (option_map f b)
else-mapped f None b = refl
else-mapped f (Some x) b = refl

else-none : {X : Type 0} (a : Option X) → option_or a None ≡ a
else-none None = refl
else-none (Some x) = refl

declared-first : (last : ℕ) (c e : Before) (name : List ℕ) → Kept last c → Stands c e → Kept last e → (bs : List Before) → AllAround bs c
    → placed (table_at last e) (told_of (first_of (table_at last c).bindings name (map (here_at last) bs ++ 0 ∷ []))) ≡ declared_around name c bs
unfolding AllAround
declared-first last c e name k s later [] a =
    ap (λ x. placed (table_at last e) (told_of x)) (else-none (binding_in (table_at last c).bindings 0 name))
    ∙ (ap (placed (table_at last e)) (k.bindings.binds [] (stands-start c) name)
    ∙ (said-placed last c e (region_of_position []) name s later ∙ ap (λ r. declared_in_region r name c) number-start))
declared-first last c e name k s later (b ∷ bs) a =
    let here = binding_in (table_at last c).bindings (here_at last b) name in
    let further = first_of (table_at last c).bindings name (map (here_at last) bs ++ 0 ∷ []) in
    ap (placed (table_at last e)) (else-mapped (λ (x : Binding). x.entity) here further)
    ∙ (else-mapped (λ x. and_then x (λ y. option_map (λ (z : Entity). z.place) (entity_at (table_at last e) y))) (told_of here) (told_of further)
    ∙ (ap (λ x. option_or x (placed (table_at last e) (told_of further)))
    (ap (placed (table_at last e)) (k.bindings.binds b a.0 name)
    ∙ (said-placed last c e (region_of_position b) name s later ∙ ap (λ z. declared_in_region (number_of z) name c) a.1))
    ∙ ap (option_or (declared_in_region (number_of b) name c)) (declared-first last c e name k s later bs a.2)))

-- what a binding is told to mean
abbrev meant : Names → Option Binding → Option Meaning
meant n b = option_map (told_meaning n) (option_map bound b)

meant-placed : (n : Names) (b : Option Binding) → meant n b ≡ option_map meaning_if_seen (placed n (told_of b))
meant-placed n None = refl
meant-placed n (Some b) = go b.entity
  where
    go : (e : Option ℕ)
        → Some (told_meaning n (option_map denotes.Entity e)) ≡ Some (meaning_if_seen (and_then e (λ x. option_map (λ (y : Entity). y.place) (entity_at n x))))
    go None = refl
    go (Some e) = refl

standard-meant : (n : Names) (last : ℕ) (name : List ℕ)
    → option_map (told_meaning n) (option_map Some (in_standard last name)) ≡ option_map meaning_of (in_standard last name)
unfolding in_standard item_of
standard-meant n last name = go units.Standard (item_in last units.Standard name) (root_unit name)
  where
    go : (unit : PredefinedUnit) (i : Option Predefined) (u : Option PredefinedUnit)
        → option_map (told_meaning n) (option_map Some (option_or (option_map (denotes.Item unit) i) (option_map denotes.Unit u)))
        ≡ option_map meaning_of (option_or (option_map (denotes.Item unit) i) (option_map denotes.Unit u))
    go unit None None = refl
    go unit None (Some u) = refl
    go unit (Some i) u = refl

-- told by the table of a later position e
pub directly-meant : (last : ℕ) (c e : Before) (name : List ℕ) → Stands c e → Kept last c → Kept last e
    → option_map (told_meaning (table_at last e)) (directly (table_at last c) name) ≡ direct_meaning last name c
unfolding directly
directly-meant last c e name s k later =
    let n : Names = table_at last c in
    let m : Names = table_at last e in
    let found = innermost_binding n.bindings name n.frames in
    let by_nesting : meant m found ≡ option_map meaning_if_seen (declared_around name c (around c)) =
    meant-placed m found
    ∙ (ap (λ x. option_map meaning_if_seen (placed m (told_of x)))
    (innermost-first_of n.bindings name n.frames ∙ ap (first_of n.bindings name) k.regions.opened)
    ∙ ap (option_map meaning_if_seen) (declared-first last c e name k s later (around c) (all-around 0 c))) in
    else-mapped (told_meaning m) (option_map bound found) (option_map Some (in_standard n.last_priority name))
    ∙ (ap (λ x. option_or x (option_map (told_meaning m) (option_map Some (in_standard n.last_priority name)))) by_nesting
    ∙ ap (option_or (option_map meaning_if_seen (declared_around name c (around c))))
    (ap (λ p. option_map (told_meaning m) (option_map Some (in_standard p name))) k.priority ∙ standard-meant m last name))

pub directly_by_position : DirectlyByPosition
directly_by_position unit complete c s name =
    let k = kept-in unit c complete s in directly-meant (last_priority_of unit.pragmas) c c name (stands-here c) k k
