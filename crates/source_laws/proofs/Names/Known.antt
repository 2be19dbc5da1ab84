-- What the laws of names see of a table, and how each occurrence changes it.
use Rattle.std.proofs.Common.{◌≡◌, ℕ, Bool, true, false, cond, List, [], ◌∷◌, ◌++◌, length, map, Option, Some, None, is_some, refl, sym, ap, ◌∙◌}
use Rattle.ada_tree.specs.declared.names.Identifier.{Identifier}
use Rattle.ada_tree.specs.declared.names.Name.{Name}
use Rattle.world_tables.specs.Lists.{rest_of}
use Rattle.ada_regions.specs.declared.entities.Denoted.{Denoted}
use Rattle.ada_regions.specs.declared.entities.Entity.{Entity}
use Rattle.ada_regions.specs.declared.entities.EntityKind.{EntityKind}
use Rattle.ada_regions.specs.declared.entities.Sought.{Sought}
use Rattle.ada_regions.specs.declared.entities.Sought.TheVariants as answer
use Rattle.ada_regions.specs.declared.table.Enclosure.{Enclosure}
use Rattle.ada_regions.specs.declared.table.Frame.{Frame}
use Rattle.ada_regions.specs.declared.table.PackageContext.{PackageContext}
use Rattle.ada_regions.specs.declared.table.Names.{Names}
use Rattle.ada_regions.specs.Names.{Bindings, binding_in, bound_in, innermost_frame, enclosure_here, region_here, denoted_by}
use Rattle.ada_regions.specs.Visibility.{sought, answered, resolved}
use Rattle.ada_regions.specs.SelectedNames.{selected, selection_answered, parts_resolved, name_resolved}
use Rattle.ada_regions.specs.Declaring.{hidden, entered, with_binding}
use Rattle.ada_regions.specs.Completions.{owned, entry_noted, entry_mentioned, entity_bound}
use Rattle.ada_regions.specs.Regions.{made_private, named_as, ended, withed, used_if, is_used_package, used}

-- a region that is open: its number in the table, and whether what is declared in it is visible from outside
pub record Open : Type 0 where
  pub region : ℕ
  pub exports : Bool

pub record Known : Type 0 where
  pub regions : ℕ
  pub opened : List Open
  pub bindings : Bindings
  pub entities : List Entity
  pub bodies : List ℕ
  pub contexts : List PackageContext
  pub priority : ℕ

abbrev pub opened_as : Frame → Open
opened_as f = record { region = f.region; exports = f.exports }

abbrev pub known : Names → Known
known n = record {
  regions = n.regions;
  opened = map opened_as n.frames;
  bindings = n.bindings;
  entities = n.entities;
  bodies = n.bodies;
  contexts = n.contexts;
  priority = n.last_priority;
}

abbrev pub nowhere : Open
nowhere = record { region = 0; exports = false }

abbrev pub innermost : List Open → Open
innermost [] = nowhere
innermost (o ∷ os) = o

abbrev pub outside : List Open → List Open
outside [] = []
outside (o ∷ os) = os

pub innermost-opened : (fs : List Frame) → innermost (map opened_as fs) ≡ opened_as (innermost_frame fs)
innermost-opened [] = refl
innermost-opened (f ∷ fs) = refl

pub outside-opened : (fs : List Frame) → outside (map opened_as fs) ≡ map opened_as (rest_of fs)
outside-opened [] = refl
outside-opened (f ∷ fs) = refl

-- ---- names that are used change nothing here

pub known-answered : (i : Identifier) (s : Sought) (n : Names) → known (answered i s n) ≡ known n
known-answered i (answer.Found d) n = refl
known-answered i answer.Unknown n = refl
known-answered i answer.Ambiguous n = refl

pub known-resolved : (i : Identifier) (n : Names) → known (resolved i n) ≡ known n
unfolding resolved
known-resolved i n = known-answered i (sought n i.text) n

known-selection : (i : Identifier) (d : Option Denoted) (n : Names) → known (selection_answered i d n) ≡ known n
known-selection i None n = refl
known-selection i (Some d) n = refl

known-parts : (prefix : Option Denoted) (parts : List Identifier) (n : Names) → known (parts_resolved prefix parts n) ≡ known n
known-parts prefix [] n = refl
known-parts None (i ∷ rest) n = refl
known-parts (Some d) (i ∷ rest) n =
    known-parts (selected n i.text d) rest (selection_answered i (selected n i.text d) n) ∙ known-selection i (selected n i.text d) n

pub known-name_resolved : (name : Name) (n : Names) → known (name_resolved name n) ≡ known n
unfolding name_resolved
known-name_resolved name n = known-parts _ name.parts.others (resolved name.parts.first n) ∙ known-resolved name.parts.first n

known-entry_noted : (e : Option ℕ) (i : Identifier) (n : Names) → known (entry_noted e i n) ≡ known n
known-entry_noted (Some e) i n = refl
known-entry_noted None i n = known-resolved i n

pub known-entry_mentioned : (i : Identifier) (n : Names) → known (entry_mentioned i n) ≡ known n
unfolding entry_mentioned
known-entry_mentioned i n = known-entry_noted (entity_bound n (region_here n) i.text) i n

pub known-withed : (name : Name) (d : Option Denoted) (n : Names) → known (withed name d n) ≡ known n
unfolding withed
known-withed name None n = refl
known-withed name (Some d) n = refl

known-used_if : (d : Option Denoted) (n : Names) → known (used_if d n) ≡ known n
known-used_if None n = refl
known-used_if (Some d) n = go (is_used_package n d) _ refl
  where
    go : (b : Bool) (m : Names) → known m ≡ known n → known (cond b m n) ≡ known n
    go true m e = e
    go false m e = refl

pub known-used : (name : Name) (n : Names) → known (used name n) ≡ known n
unfolding used
known-used name n = known-used_if (denoted_by (name_resolved name n) name) (name_resolved name n) ∙ known-name_resolved name n

-- ---- regions that end, and what is said of the innermost

pub known-ended : (n : Names) → known (ended n) ≡ record (known n) { opened = outside (known n).opened }
known-ended n = ap (λ os. record (known n) { opened = os }) (sym (outside-opened n.frames))

abbrev pub exports_no_more : List Open → List Open
exports_no_more os = record (innermost os) { exports = false } ∷ outside os

pub known-made_private : (n : Names) → known (made_private n) ≡ record (known n) { opened = exports_no_more (known n).opened }
known-made_private n = ap (λ os. record (known n) { opened = os }) (go n.frames)
  where
    go : (fs : List Frame) → map opened_as (record (innermost_frame fs) { exports = false } ∷ rest_of fs) ≡ exports_no_more (map opened_as fs)
    go [] = refl
    go (f ∷ fs) = refl

-- as the first of the open regions is there
abbrev pub first_again : List Open → List Open
first_again os = innermost os ∷ outside os

pub known-named_as : (i : Identifier) (n : Names) → known (named_as i n) ≡ record (known n) { opened = first_again (known n).opened }
known-named_as i n = ap (λ os. record (known n) { opened = os }) (go n.frames)
  where
    go : (fs : List Frame) → map opened_as (record (innermost_frame fs) { name = Some i.text } ∷ rest_of fs) ≡ first_again (map opened_as fs)
    go [] = refl
    go (f ∷ fs) = refl

pub known-owned : (e : Option ℕ) (name : List ℕ) (n : Names) → known (owned e name n) ≡ record (known n) { opened = first_again (known n).opened }
unfolding owned
known-owned e name n = ap (λ os. record (known n) { opened = os }) (go n.frames)
  where
    go : (fs : List Frame) → map opened_as (record (innermost_frame fs) { owner = e; name = Some name } ∷ rest_of fs) ≡ first_again (map opened_as fs)
    go [] = refl
    go (f ∷ fs) = refl

-- ---- names that are hidden and declared

-- a region binds one more name
abbrev pub with_bound : Open → List ℕ → Option ℕ → Known → Known
with_bound o name e k = record k { bindings = bound_in o.region (record { name = name; entity = e; exported = o.exports }) k.bindings }

abbrev pub hidden_in : Open → Identifier → Known → Known
hidden_in o i k = cond (is_some (binding_in k.bindings o.region i.text)) k (with_bound o i.text None k)

pub known-hidden : (i : Identifier) (n : Names) → known (hidden i n) ≡ hidden_in (innermost (known n).opened) i (known n)
unfolding hidden
known-hidden i n = go (is_some (binding_in n.bindings (region_here n) i.text)) ∙ ap (λ o. hidden_in o i (known n)) (sym (innermost-opened n.frames))
  where
    go : (b : Bool)
        → known (cond b n (with_binding (enclosure_here n) i.text None n))
        ≡ cond b (known n) (with_bound (opened_as (innermost_frame n.frames)) i.text None (known n))
    go true = refl
    go false = refl

-- an entity is declared
abbrev pub with_declared : Open → List ℕ → Entity → Known → Known
with_declared o name x k = record (with_bound o name (Some (length k.entities)) k) { entities = k.entities ++ x ∷ [] }

abbrev pub enclosing : Enclosure → Open
enclosing f = record { region = f.region; exports = f.exports }

pub known-entered : (f : Enclosure) (taken : Bool) (i : Identifier) (kind : EntityKind) (region : Option ℕ) (n : Names)
    → known (entered f taken i kind region n) ≡ with_declared (enclosing f) i.text (record { place = i.place; kind = kind; region = region }) (known n)
unfolding entered
known-entered f true i kind region n = refl
known-entered f false i kind region n = refl
