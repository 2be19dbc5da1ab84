-- The beginning of a region binds nothing in the regions that were there.
use Rattle.std.proofs.Common.{◌≡◌, ℕ, Bool, true, false, cond, List, [], Option, Some, None, refl, ap, ◌∙◌}
use Rattle.world_tables.specs.Tables.{item_at}
use Rattle.source_laws.proofs.Names.TableLemmas.{item_at-put-other}
use Rattle.ada_tree.specs.declared.names.Identifier.{Identifier}
use Rattle.ada_regions.specs.declared.entities.UnitKind.{UnitKind}
use Rattle.ada_regions.specs.declared.entities.UnitKind.TheVariants as unit
use Rattle.ada_regions.specs.declared.entities.Denoted.TheVariants as denotes
use Rattle.ada_regions.specs.declared.table.Binding.{Binding}
use Rattle.ada_regions.specs.declared.table.PackageContext.{PackageContext}
use Rattle.ada_regions.specs.declared.table.Frame.{Frame}
use Rattle.ada_regions.specs.declared.table.Names.{Names}
use Rattle.ada_regions.specs.Names.{noted, region_of_entity, region_here, entity_denoted}
use Rattle.ada_regions.specs.Visibility.{resolved}
use Rattle.ada_regions.specs.Occurrences.{Region, the_context, the_context_of, further_context, package_region, package_body, main_body, a_profile}
use Rattle.ada_regions.specs.Occurrences.{subprogram_body, a_unit, task_body, protected_body, entry_body, an_accept, a_block, a_loop, a_record}
use Rattle.ada_regions.specs.Completions.{is_unit, has_body, body_of_unit, first_body, later_body, body_here, body_elsewhere}
use Rattle.ada_regions.specs.Completions.{body_sought, body_begun_at, body_begun, body_apart, seen_again, entity_bound}
use Rattle.ada_regions.specs.Regions.{context_again, package_opened, package_begun, package_body_begun, package_named}
use Rattle.ada_regions.specs.Regions.{with_context, with_scope, next_scope, opened_if, unit_begun, record_begun, begun}
use Rattle.source_laws.proofs.Names.Known.{Known, known, known-resolved}
use Rattle.source_laws.proofs.Names.KnownBegun.{IsOwn, known-own, known-body_of_unit}

module _ (q : ℕ) where
  -- m binds in the region q what n does
  abbrev pub Binds : Names → Names → Type 0
  Binds n m = item_at q (known m).bindings ≡ item_at q (known n).bindings

  Elsewhere : Names → Type 0
  Elsewhere n = q ≡ n.regions → ⊥

  apart-binds : (e : Option ℕ) (i : Identifier) (scope : Option ℕ) (seen : List Binding) (n : Names) → Elsewhere n → Binds n (body_apart e i scope seen n)
  unfolding body_apart Elsewhere
  apart-binds e i scope seen n other = item_at-put-other q n.regions seen n.bindings other

  first-binds : (e : ℕ) (region : Option ℕ) (i : Identifier) (scope : Option ℕ) (n : Names) → Elsewhere n → Binds n (first_body e region i scope n)
  unfolding first_body
  first-binds e None i scope n other = apart-binds None i scope [] n other
  first-binds e (Some region) i scope n other = go (has_body n e)
    where
      go : (b : Bool) → Binds n (cond b (body_apart (Some e) i scope (seen_again n region) n) (body_of_unit e region i scope n))
      go true = apart-binds (Some e) i scope (seen_again n region) n other
      go false = ap (λ k. item_at q k.bindings) (known-body_of_unit e region i scope n)

  later-binds : (e : ℕ) (region : Option ℕ) (i : Identifier) (scope : Option ℕ) (n : Names) → Elsewhere n → Binds n (later_body e region i scope n)
  unfolding later_body
  later-binds e None i scope n other = apart-binds None i scope [] n other
  later-binds e (Some region) i scope n other = apart-binds (Some e) i scope (seen_again n region) n other

  here-binds : (kind : UnitKind) (e : ℕ) (i : Identifier) (scope : Option ℕ) (n : Names) → Elsewhere n → Binds n (body_here kind e i scope n)
  unfolding body_here Elsewhere
  here-binds kind e i scope n other = go (is_unit kind n e)
    where
      go : (b : Bool) → Binds n (cond b (first_body e (region_of_entity n e) i scope (noted i.place (denotes.Entity e) n)) (body_apart None i scope [] n))
      go true = first-binds e (region_of_entity n e) i scope (noted i.place (denotes.Entity e) n) other
      go false = apart-binds None i scope [] n other

  elsewhere-binds : (kind : UnitKind) (e : Option ℕ) (i : Identifier) (scope : Option ℕ) (n : Names) → Elsewhere n → Binds n (body_elsewhere kind e i scope n)
  unfolding body_elsewhere
  elsewhere-binds kind None i scope n other = apart-binds None i scope [] n other
  elsewhere-binds kind (Some e) i scope n other = go (is_unit kind n e)
    where
      go : (b : Bool) → Binds n (cond b (later_body e (region_of_entity n e) i scope n) (body_apart None i scope [] n))
      go true = later-binds e (region_of_entity n e) i scope n other
      go false = apart-binds None i scope [] n other

  body-binds : (kind : UnitKind) (i : Identifier) (scope : Option ℕ) (n : Names) → Elsewhere n → Binds n (body_begun kind i scope n)
  unfolding body_begun body_sought Elsewhere
  body-binds kind i scope n other = go (entity_bound n (region_here n) i.text)
    where
      resolved-other : q ≡ (resolved i n).regions → ⊥
      resolved-other e = other (e ∙ ap (λ (k : Known). k.regions) (known-resolved i n))

      go : (e : Option ℕ) → Binds n (body_begun_at kind e i scope n)
      go (Some e) = here-binds kind e i scope n other
      go None =
          elsewhere-binds kind (entity_denoted (resolved i n) i.place) i scope (resolved i n) resolved-other
          ∙ ap (λ (k : Known). item_at q k.bindings) (known-resolved i n)

  opened-binds : (e : ℕ) (i : Identifier) (exports : Bool) (region : Option ℕ) (n : Names) → Elsewhere n → Binds n (package_opened e i exports region n)
  opened-binds e i exports None n other = apart-binds None i None [] n other
  opened-binds e i exports (Some region) n other = refl

  package-binds : (e : Option ℕ) (i : Identifier) (n : Names) → Elsewhere n → Binds n (package_begun e i n)
  unfolding package_begun Elsewhere
  package-binds None i n other = apart-binds None i None [] n other
  package-binds (Some e) i n other = opened-binds e i true (region_of_entity n e) (with_context e n) other

  package_body-binds : (e : Option ℕ) (i : Identifier) (n : Names) → Elsewhere n → Binds n (package_body_begun e i n)
  unfolding package_body_begun Elsewhere
  package_body-binds None i n other = apart-binds None i None [] n other
  package_body-binds (Some e) i n other = opened-binds e i false (region_of_entity n e) (noted i.place (denotes.Entity e) n) other

  context-binds : (c : Option PackageContext) (n : Names) → Binds n (context_again c n)
  unfolding context_again
  context-binds None n = refl
  context-binds (Some c) n = refl

  if-binds : (f : Option Frame) (n : Names) → Binds n (opened_if f n)
  if-binds None n = refl
  if-binds (Some f) n = refl

  own-binds : (r : Region) (n : Names) → IsOwn r → Binds n (begun r n)
  own-binds r n own = ap (λ (k : Known). item_at q k.bindings) (known-own r n own)

  pub begun-binds : (r : Region) (n : Names) → (q ≡ n.regions → ⊥) → Binds n (begun r n)
  unfolding begun Elsewhere unit_begun record_begun
  begun-binds (the_context_of i) n other = context-binds _ n
  begun-binds (package_region i) n other = package-binds _ i n other
  begun-binds (package_body i) n other = package_body-binds (package_named n i.text) i n other
  begun-binds (a_unit i) n other = if-binds _ n
  begun-binds (task_body i place) n other = body-binds unit.Task i (next_scope n) (with_scope place false false n) other
  begun-binds (protected_body i) n other = body-binds unit.Protected i None n other
  begun-binds (a_record i) n other = if-binds _ n
  begun-binds the_context n other = own-binds the_context n tt
  begun-binds further_context n other = own-binds further_context n tt
  begun-binds (main_body i place) n other = own-binds (main_body i place) n tt
  begun-binds a_profile n other = own-binds a_profile n tt
  begun-binds (subprogram_body place is_function) n other = own-binds (subprogram_body place is_function) n tt
  begun-binds (entry_body i place barrier) n other = own-binds (entry_body i place barrier) n tt
  begun-binds (an_accept i place) n other = own-binds (an_accept i place) n tt
  begun-binds (a_block label place) n other = own-binds (a_block label place) n tt
  begun-binds (a_loop label) n other = own-binds (a_loop label) n tt
