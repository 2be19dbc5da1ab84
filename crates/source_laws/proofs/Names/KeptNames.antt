-- Names that are hidden and declared, and bodies that complete: what the table then binds is what positions say.
use Rattle.std.proofs.Common.{◌≡◌, ℕ, Bool, true, false, cond, ◌&&◌, List, [], ◌∷◌, ◌++◌, length, Option}
use Rattle.std.proofs.Common.{Some, None, eqb, bytes_eq, append-nil, refl, sym, ap, subst, ◌∙◌, eqb-true}
use Rattle.std.proofs.lemmas.Slice.Eq.{bytes_eq-Decides}
use Rattle.ada_tree.specs.declared.names.Identifier.{Identifier}
use Rattle.ada_regions.specs.declared.entities.Entity.{Entity}
use Rattle.ada_regions.specs.Names.{bound_in}
use Rattle.ada_regions.specs.Occurrences.{Occurrence, begins, package_region}
use Rattle.source_laws.specs.Positions.{Before, Stands, nearest}
use Rattle.source_laws.specs.Declarations.{declares_name, declaration, hides_name}
use Rattle.source_laws.specs.Regions.{number_of_innermost, region_of_position}
use Rattle.source_laws.proofs.Names.PositionLemmas.{stands-here}
use Rattle.source_laws.proofs.Names.KnownDeclared.{Declares}
use Rattle.source_laws.proofs.Names.Texts.{begins_next}
use Rattle.source_laws.proofs.Names.Kept.{known_at, here_at}
use Rattle.source_laws.proofs.Names.KeptBindings.{said_by, said, told_in, bindings-stay, bindings-more}
use Rattle.source_laws.proofs.Names.KeptEntities.{entities-stay, entities-more, bodies-stay, contexts-stay}
use Rattle.source_laws.proofs.Names.KeptSteps.{Kept, StaysHere, here-together, here-regions}

-- ---- a name is hidden

said-again : (last : ℕ) (declared hidden : Option Before) (h : Before) → (said_by last declared hidden ≡ None → ⊥)
    → said_by last declared (Some h) ≡ said_by last declared hidden
said-again last (Some d) hidden h some = refl
said-again last None (Some g) h some = refl
said-again last None None h some = absurd (some refl)

said-first : (last : ℕ) (declared hidden : Option Before) (h : Before) → said_by last declared hidden ≡ None → said_by last declared (Some h) ≡ Some None
said-first last (Some d) hidden h none = cc
said-first last None hidden h none = refl

-- what hides a name here hides it in the region of this position
pub record HidesHere (last : ℕ) (i : Identifier) (o : Occurrence) (before : Before) : Type 0 where
  pub entities : (known_at last (o ∷ before)).entities ≡ (known_at last before).entities
  pub bodies : (known_at last (o ∷ before)).bodies ≡ (known_at last before).bodies
  pub contexts : (known_at last (o ∷ before)).contexts ≡ (known_at last before).contexts
  pub priority : (known_at last (o ∷ before)).priority ≡ (known_at last before).priority
  pub declares : (region : ℕ) (name : List ℕ) → declares_name number_of_innermost region name o before ≡ false
  pub hides : (region : ℕ) (name : List ℕ)
      → hides_name number_of_innermost region name o before ≡ (bytes_eq i.text name && eqb (region_of_position before) region)
  pub no_package : (j : Identifier) → begins (package_region j) ≡ o → ⊥

module _ (last : ℕ) (i : Identifier) (o : Occurrence) (before : Before) (settled : begins_next before ≡ None) (stays : StaysHere last o before)
    (k : Kept last before) (h : HidesHere last i o before) where
  abbrev declared_there : ℕ → List ℕ → Option Before
  declared_there region name = declaration number_of_innermost region name before

  abbrev hidden_there : ℕ → List ℕ → Option Before
  hidden_there region name = nearest (hides_name number_of_innermost region name) before

  said-hidden : (region : ℕ) (name : List ℕ)
      → said last region name (o ∷ before)
      ≡ said_by last (declared_there region name)
      (cond (bytes_eq i.text name && eqb (region_of_position before) region) (Some (o ∷ before)) (hidden_there region name))
  said-hidden region name =
      ap (λ t. said_by last (cond t (Some (o ∷ before)) (declared_there region name)) (nearest (hides_name number_of_innermost region name) (o ∷ before)))
      (h.declares region name)
      ∙ ap (λ t. said_by last (declared_there region name) (cond t (Some (o ∷ before)) (hidden_there region name))) (h.hides region name)

  -- a fact of the name in this region, for each name and region that are these
  there : (P : ℕ → List ℕ → Type 0) → P (region_of_position before) i.text → (region : ℕ) (name : List ℕ) → bytes_eq i.text name ≡ true
      → eqb (region_of_position before) region ≡ true → P region name
  there P p region name named home = subst (λ n. P region n) ((bytes_eq-Decides i.text name).0 named) (subst (λ r. P r i.text) (eqb-true _ _ home) p)

  -- the region had it already
  pub hidden-again : (known_at last (o ∷ before)).bindings ≡ (known_at last before).bindings → (told_in last before (here_at last before) i.text ≡ None → ⊥)
      → Kept last (o ∷ before)
  hidden-again same bound = record {
    regions = here-regions last o before settled stays k.regions;
    bindings =
        bindings-stay last o before before k.bindings (here-together last o before settled stays) same
        (λ region name. said-hidden region name ∙ go region name (bytes_eq i.text name) (eqb (region_of_position before) region) refl refl);
    entities = entities-stay last o before k.entities h.entities h.declares;
    bodies = bodies-stay last o before [] k.bodies h.bodies (h.entities ∙ sym (append-nil (known_at last before).entities));
    contexts = contexts-stay last o before k.contexts h.contexts h.no_package;
    priority = h.priority ∙ k.priority;
  }
    where
      some-there : said last (region_of_position before) i.text before ≡ None → ⊥
      some-there e = bound (k.bindings.binds before (stands-here before) i.text ∙ e)

      go : (region : ℕ) (name : List ℕ) (named home : Bool) → bytes_eq i.text name ≡ named → eqb (region_of_position before) region ≡ home
          → said_by last (declared_there region name) (cond (named && home) (Some (o ∷ before)) (hidden_there region name)) ≡ said last region name before
      go region name true true e f =
          said-again last (declared_there region name) (hidden_there region name) (o ∷ before)
          (there (λ r n. said last r n before ≡ None → ⊥) some-there region name e f)
      go region name true false e f = refl
      go region name false home e f = refl

  -- the region did not have it
  pub hidden-first : (exports : Bool)
      → (known_at last (o ∷ before)).bindings
      ≡ bound_in (here_at last before) (record { name = i.text; entity = None; exported = exports }) (known_at last before).bindings
      → told_in last before (here_at last before) i.text ≡ None → Kept last (o ∷ before)
  hidden-first exports more unbound = record {
    regions = here-regions last o before settled stays k.regions;
    bindings =
        bindings-more last o before before before (record { name = i.text; entity = None; exported = exports }) k.regions k.bindings
        (here-together last o before settled stays) (stands-here before) more (λ region name.
        said-hidden region name ∙ go region name (bytes_eq i.text name) (eqb (region_of_position before) region) refl refl);
    entities = entities-stay last o before k.entities h.entities h.declares;
    bodies = bodies-stay last o before [] k.bodies h.bodies (h.entities ∙ sym (append-nil (known_at last before).entities));
    contexts = contexts-stay last o before k.contexts h.contexts h.no_package;
    priority = h.priority ∙ k.priority;
  }
    where
      none-there : said last (region_of_position before) i.text before ≡ None
      none-there = sym (k.bindings.binds before (stands-here before) i.text) ∙ unbound

      go : (region : ℕ) (name : List ℕ) (named home : Bool) → bytes_eq i.text name ≡ named → eqb (region_of_position before) region ≡ home
          → said_by last (declared_there region name) (cond (named && home) (Some (o ∷ before)) (hidden_there region name))
          ≡ cond (named && home) (Some None) (said last region name before)
      go region name true true e f =
          said-first last (declared_there region name) (hidden_there region name) (o ∷ before)
          (there (λ r n. said last r n before ≡ None) none-there region name e f)
      go region name true false e f = refl
      go region name false home e f = refl

-- ---- a name is declared, in the region of a position y

pub record DeclaresAt (last : ℕ) (i : Identifier) (o : Occurrence) (y before : Before) (x : Entity) : Type 0 where
  pub stands : Stands y before
  pub declared : Declares o (known_at last before).regions x
  pub entities : (known_at last (o ∷ before)).entities ≡ (known_at last before).entities ++ x ∷ []
  pub bodies : (known_at last (o ∷ before)).bodies ≡ (known_at last before).bodies
  pub contexts : (known_at last (o ∷ before)).contexts ≡ (known_at last before).contexts
  pub priority : (known_at last (o ∷ before)).priority ≡ (known_at last before).priority
  pub declares : (region : ℕ) (name : List ℕ)
      → declares_name number_of_innermost region name o before ≡ (bytes_eq i.text name && eqb (region_of_position y) region)
  pub hides : (region : ℕ) (name : List ℕ) → hides_name number_of_innermost region name o before ≡ false
  pub no_package : (j : Identifier) → begins (package_region j) ≡ o → ⊥

pub declared-more : (last : ℕ) (i : Identifier) (o : Occurrence) (y before : Before) (x : Entity) (exports : Bool) → begins_next before ≡ None
    → StaysHere last o before → Kept last before → DeclaresAt last i o y before x
    → (known_at last (o ∷ before)).bindings
    ≡ bound_in (here_at last y) (record { name = i.text; entity = Some (length (known_at last before).entities); exported = exports })
    (known_at last before).bindings
    → Kept last (o ∷ before)
declared-more last i o y before x exports settled stays k d more = record {
  regions = here-regions last o before settled stays k.regions;
  bindings =
      bindings-more last o before y before
      (record { name = i.text; entity = Some (length (known_at last before).entities); exported = exports }) k.regions k.bindings
      (here-together last o before settled stays) d.stands more said-declared;
  entities = entities-more last o before x k.entities d.entities d.declared;
  bodies = bodies-stay last o before (x ∷ []) k.bodies d.bodies d.entities;
  contexts = contexts-stay last o before k.contexts d.contexts d.no_package;
  priority = d.priority ∙ k.priority;
}
  where
    first-said : (t : Bool) (declared hidden : Option Before)
        → said_by last (cond t (Some (o ∷ before)) declared) hidden
        ≡ cond t (Some (Some (length (known_at last before).entities))) (said_by last declared hidden)
    first-said true declared hidden = refl
    first-said false declared hidden = refl

    said-declared : (region : ℕ) (name : List ℕ)
        → said last region name (o ∷ before)
        ≡ cond (bytes_eq i.text name && eqb (region_of_position y) region) (Some (Some (length (known_at last before).entities)))
        (said last region name before)
    said-declared region name =
        ap (λ t. said_by last (cond t (Some (o ∷ before)) (declaration number_of_innermost region name before))
        (nearest (hides_name number_of_innermost region name) (o ∷ before)))
        (d.declares region name)
        ∙ (ap (λ t. said_by last
        (cond (bytes_eq i.text name && eqb (region_of_position y) region) (Some (o ∷ before)) (declaration number_of_innermost region name before))
        (cond t (Some (o ∷ before)) (nearest (hides_name number_of_innermost region name) before)))
        (d.hides region name)
        ∙ first-said (bytes_eq i.text name && eqb (region_of_position y) region) (declaration number_of_innermost region name before)
        (nearest (hides_name number_of_innermost region name) before))
