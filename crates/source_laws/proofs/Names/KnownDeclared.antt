-- What a declaration adds to the table.
use Rattle.std.proofs.Common.{◌≡◌, ℕ, suc, Bool, true, false, cond, not, ◌&&◌, [], ◌∷◌, ◌++◌, length, Option, Some, None, is_some, refl, sym, ap, ◌∙◌}
use Rattle.ada_tree.specs.declared.names.Identifier.{Identifier}
use Rattle.ada_tree.specs.declared.declarations.SubprogramSpecification.{SubprogramSpecification}
use Rattle.world_tables.specs.Lists.{rest_of}
use Rattle.profile_image.specs.declared.numbers.SubprogramNo.{SubprogramNo}
use Rattle.ada_regions.specs.declared.types.AdaType.TheVariants as types
use Rattle.ada_regions.specs.declared.entities.Entity.{Entity}
use Rattle.ada_regions.specs.declared.entities.EntityKind.{EntityKind}
use Rattle.ada_regions.specs.declared.entities.EntityKind.TheVariants as entity
use Rattle.ada_regions.specs.declared.entities.UnitKind.{UnitKind}
use Rattle.ada_regions.specs.declared.entities.UnitKind.TheVariants as unit
use Rattle.ada_regions.specs.declared.table.Enclosure.{Enclosure}
use Rattle.ada_regions.specs.declared.table.Names.{Names}
use Rattle.ada_regions.specs.Names.{enclosure_of, enclosure_here, innermost_frame, scope_in}
use Rattle.ada_regions.specs.Occurrences.{Occurrence, Declared, Region, the_package, the_main_procedure, an_object, a_component, a_parameter}
use Rattle.ada_regions.specs.Occurrences.{a_loop_parameter, an_enumeration, a_literal, an_array, a_derived_type, a_subtype, an_exception, a_label}
use Rattle.ada_regions.specs.Occurrences.{a_subprogram, an_entry, a_task, a_protected, package_region, a_unit, a_record, declares, declares_unit, completes}
use Rattle.ada_regions.specs.Subtypes.{formals_of}
use Rattle.ada_regions.specs.Declaring.{entered_here, entered_as_unit, is_taken, unit_is_taken, library_frame, type_of_kind, declared, object_declared}
use Rattle.ada_regions.specs.Declaring.{component_declared, parameter_declared, loop_parameter_declared, enumeration_declared, literal_declared}
use Rattle.ada_regions.specs.Declaring.{array_declared, derived_declared, subtype_declared, exception_declared, subprogram_declared, entry_declared}
use Rattle.ada_regions.specs.Declaring.{unit_entered, task_declared, protected_declared, numbered, numbered_subprogram, protected_unit_of}
use Rattle.ada_regions.specs.Completions.{specified_number, type_is, completed_in, numbered_if, body_of_declared, completed_or_declared, completed}
use Rattle.ada_regions.specs.Regions.{is_package as is_package_kind}
use Rattle.source_laws.specs.Declarations.{is_package, is_subprogram, is_task, is_unit_of}
use Rattle.source_laws.specs.DirectNames.{defining_place}
use Rattle.source_laws.proofs.Names.Known.{Open, Known, known, innermost, outside, innermost-opened, outside-opened}
use Rattle.source_laws.proofs.Names.Known.{first_again, with_declared, enclosing, known-entered, known-owned}

-- the region that begins right behind a declaration
abbrev pub region_behind_it : Occurrence → Option Region
region_behind_it (declares i (a_task is_type aspects)) = Some (a_unit i)
region_behind_it (declares i (a_protected is_type aspects)) = Some (a_unit i)
region_behind_it (declares i (a_derived_type parent)) = Some (a_record i)
region_behind_it (declares_unit i the_package) = Some (package_region i)
region_behind_it _ = None

abbrev pub region_given : Option Region → ℕ → Option ℕ
region_given None regions = None
region_given (Some r) regions = Some regions

abbrev pub more_regions : Option Region → ℕ → ℕ
more_regions None regions = regions
more_regions (Some r) regions = suc regions

-- an entity is as an occurrence declares it
pub record Declares (o : Occurrence) (regions : ℕ) (x : Entity) : Type 0 where
  pub place : defining_place o ≡ Some x.place
  pub region : x.region ≡ region_given (region_behind_it o) regions
  pub subprogram : is_some (specified_number x.kind) ≡ is_subprogram o
  pub packaged : is_package_kind x.kind ≡ is_package o
  pub unit : (kind : UnitKind) → (is_some x.region && type_is kind (type_of_kind x.kind)) ≡ is_unit_of kind o

abbrev pub with_regions : Option Region → Known → Known
with_regions r k = record k { regions = more_regions r k.regions }

-- a name is declared here as an occurrence says
abbrev pub Enters : Occurrence → Open → Identifier → Names → Names → Type 0
Enters o home i n m = (x : Entity) × Declares o n.regions x × (known m ≡ with_declared home i.text x (with_regions (region_behind_it o) (known n)))

-- the region around
abbrev pub here : Names → Open
here n = innermost (known n).opened

enters-here : (o : Occurrence) (i : Identifier) (n m last : Names) (kind : EntityKind) (region : Option ℕ) → last ≡ entered_here i kind region m
    → known m ≡ with_regions (region_behind_it o) (known n)
    → m.frames ≡ n.frames → Declares o n.regions (record { place = i.place; kind = kind; region = region }) → Enters o (here n) i n last
unfolding entered_here
enters-here o i n m last kind region e same frames d =
    let x : Entity = record { place = i.place; kind = kind; region = region } in
    let entered-as : known last ≡ with_declared (enclosing (enclosure_here m)) i.text x (known m) =
    ap known e ∙ known-entered (enclosure_here m) (is_taken m (innermost_frame m.frames).region i.text) i kind region m in
    let there : enclosing (enclosure_here m) ≡ innermost (known n).opened =
    ap (λ fs. enclosing (enclosure_of (innermost_frame fs))) frames ∙ sym (innermost-opened n.frames) in (
      x,
      d,
      entered-as ∙ ap (λ k. with_declared (enclosing (enclosure_here m)) i.text x k) same
          ∙ ap (λ home. with_declared home i.text x (with_regions (region_behind_it o) (known n))) there,
    )

-- ---- declarations in the region around

task-kind : (u : _) (kind : UnitKind) → type_is kind (Some (types.Task u)) ≡ is_task kind
task-kind u unit.Task = refl
task-kind u unit.Protected = refl

protected-kind : (u : _) (kind : UnitKind) → type_is kind (Some (types.Protected u)) ≡ not (is_task kind)
protected-kind u unit.Task = refl
protected-kind u unit.Protected = refl

derived-kind : (c : _) (kind : UnitKind) → type_is kind (Some (types.Derived c)) ≡ false
derived-kind c unit.Task = refl
derived-kind c unit.Protected = refl

-- a subprogram that is declared, or whose body declares it
subprogram-declared : (o : Occurrence) (f : Enclosure) (specified : Bool) (scope : ℕ) (i : Identifier) (s : SubprogramSpecification) (n : Names) (home : Open)
    → enclosing f ≡ home → defining_place o ≡ Some i.place → region_behind_it o ≡ None → specified ≡ is_subprogram o → (is_package o ≡ false)
    → ((kind : UnitKind) → is_unit_of kind o ≡ false)
    → Enters o home i n (subprogram_declared f specified scope i s n)
unfolding subprogram_declared
subprogram-declared o f specified scope i s n home there place none said no_package no_unit =
    let kind : EntityKind =
    entity.Subprogram (record { 0 = length n.subprograms }) (is_some s.result) specified (formals_of n s.parameters) (protected_unit_of f.components) in
    let x : Entity = record { place = i.place; kind = kind; region = None } in
    let m : Names = record n { subprograms = n.subprograms ++ numbered_subprogram n f scope i s ∷ [] } in (
      x,
      record {
        place = place;
        region = sym (ap (λ r. region_given r n.regions) none);
        subprogram = specified-is specified _ ∙ said;
        packaged = sym no_package;
        unit = λ kind. sym (no_unit kind);
      },
      known-entered f (is_taken n f.region i.text) i kind None m
          ∙ (ap (λ at. with_declared at i.text x (known n)) there ∙ ap (λ r. with_declared home i.text x (with_regions r (known n))) (sym none)),
    )
  where
    specified-is : (b : Bool) (number : SubprogramNo) → is_some (cond b (Some number) None) ≡ b
    specified-is true number = refl
    specified-is false number = refl

-- no package and no main procedure
abbrev pub IsInner : Declared → Type 0
IsInner the_package = ⊥
IsInner the_main_procedure = ⊥
IsInner _ = Unit {0}

pub known-declared : (i : Identifier) (what : Declared) (n : Names) → IsInner what → Enters (declares i what) (here n) i n (declared i what n)
unfolding declared object_declared component_declared parameter_declared loop_parameter_declared enumeration_declared literal_declared array_declared
    derived_declared subtype_declared exception_declared entry_declared unit_entered task_declared protected_declared numbered
known-declared i the_package n inner = absurd inner
known-declared i the_main_procedure n inner = absurd inner
known-declared i (an_object o) n inner =
    enters-here (declares i (an_object o)) i n _ _ _ _ refl refl refl
    (record { place = refl; region = refl; subprogram = refl; packaged = refl; unit = λ kind. refl })
known-declared i (a_component c) n inner =
    enters-here (declares i (a_component c)) i n _ _ _ _ refl refl refl
    (record { place = refl; region = refl; subprogram = refl; packaged = refl; unit = λ kind. refl })
known-declared i (a_parameter true p) n inner =
    enters-here (declares i (a_parameter true p)) i n _ _ _ _ refl refl refl
    (record { place = refl; region = refl; subprogram = refl; packaged = refl; unit = λ kind. refl })
known-declared i (a_parameter false p) n inner =
    enters-here (declares i (a_parameter false p)) i n _ _ _ _ refl refl refl
    (record { place = refl; region = refl; subprogram = refl; packaged = refl; unit = λ kind. refl })
known-declared i a_loop_parameter n inner =
    enters-here (declares i a_loop_parameter) i n _ _ _ _ refl refl refl
    (record { place = refl; region = refl; subprogram = refl; packaged = refl; unit = λ kind. refl })
known-declared i (an_enumeration literals) n inner =
    enters-here (declares i (an_enumeration literals)) i n _ _ _ _ refl refl refl
    (record { place = refl; region = refl; subprogram = refl; packaged = refl; unit = λ kind. refl })
known-declared i a_literal n inner =
    enters-here (declares i a_literal) i n _ _ _ _ refl refl refl
    (record { place = refl; region = refl; subprogram = refl; packaged = refl; unit = λ kind. refl })
known-declared i (an_array low high component) n inner =
    enters-here (declares i (an_array low high component)) i n _ _ _ _ refl refl refl
    (record { place = refl; region = refl; subprogram = refl; packaged = refl; unit = λ kind. refl })
known-declared i (a_derived_type parent) n inner =
    enters-here (declares i (a_derived_type parent)) i n _ _ _ _ refl refl refl
    (record { place = refl; region = refl; subprogram = refl; packaged = refl; unit = derived-kind _ })
known-declared i (a_subtype m) n inner =
    enters-here (declares i (a_subtype m)) i n _ _ _ _ refl refl refl
    (record { place = refl; region = refl; subprogram = refl; packaged = refl; unit = λ kind. refl })
known-declared i an_exception n inner =
    enters-here (declares i an_exception) i n _ _ _ _ refl refl refl
    (record { place = refl; region = refl; subprogram = refl; packaged = refl; unit = λ kind. refl })
known-declared i a_label n inner =
    enters-here (declares i a_label) i n _ _ _ _ refl refl refl
    (record { place = refl; region = refl; subprogram = refl; packaged = refl; unit = λ kind. refl })
known-declared i (a_subprogram s) n inner =
    subprogram-declared (declares i (a_subprogram s)) (enclosure_here n) true 0 i s n (here n) (sym (innermost-opened n.frames)) refl refl refl refl
    (λ kind. refl)
known-declared i (an_entry parameters) n inner =
    enters-here (declares i (an_entry parameters)) i n _ _ _ _ refl refl refl
    (record { place = refl; region = refl; subprogram = refl; packaged = refl; unit = λ kind. refl })
known-declared i (a_task true aspects) n inner =
    enters-here (declares i (a_task true aspects)) i n _ _ _ _ refl refl refl
    (record { place = refl; region = refl; subprogram = refl; packaged = refl; unit = task-kind _ })
known-declared i (a_task false aspects) n inner =
    enters-here (declares i (a_task false aspects)) i n _ _ _ _ refl refl refl
    (record { place = refl; region = refl; subprogram = refl; packaged = refl; unit = task-kind _ })
known-declared i (a_protected true aspects) n inner =
    enters-here (declares i (a_protected true aspects)) i n _ _ _ _ refl refl refl
    (record { place = refl; region = refl; subprogram = refl; packaged = refl; unit = protected-kind _ })
known-declared i (a_protected false aspects) n inner =
    enters-here (declares i (a_protected false aspects)) i n _ _ _ _ refl refl refl
    (record { place = refl; region = refl; subprogram = refl; packaged = refl; unit = protected-kind _ })

-- ---- library units

abbrev pub standard : Open
standard = record { region = 0; exports = false }

enters-standard : (o : Occurrence) (i : Identifier) (n m last : Names) (kind : EntityKind) (region : Option ℕ) → last ≡ entered_as_unit i kind region m
    → known m ≡ with_regions (region_behind_it o) (known n)
    → Declares o n.regions (record { place = i.place; kind = kind; region = region }) → Enters o standard i n last
unfolding entered_as_unit
enters-standard o i n m last kind region e same d =
    let x : Entity = record { place = i.place; kind = kind; region = region } in
    (x, d, ap known e ∙ known-entered (enclosure_of library_frame) (unit_is_taken m i.text) i kind region m ∙ ap (λ k. with_declared standard i.text x k) same)

pub known-package_declared : (i : Identifier) (n : Names) → Enters (declares_unit i the_package) standard i n (declared i the_package n)
unfolding declared
known-package_declared i n =
    enters-standard (declares_unit i the_package) i n _ _ _ _ refl refl
    (record { place = refl; region = refl; subprogram = refl; packaged = refl; unit = λ kind. refl })

pub known-main_declared : (i : Identifier) (n : Names) → Enters (declares_unit i the_main_procedure) standard i n (declared i the_main_procedure n)
unfolding declared
known-main_declared i n =
    enters-standard (declares_unit i the_main_procedure) i n _ _ _ _ refl refl
    (record { place = refl; region = refl; subprogram = refl; packaged = refl; unit = λ kind. refl })

-- ---- bodies of subprograms

abbrev pub outer : Names → Enclosure
outer n = enclosure_of (innermost_frame (rest_of n.frames))

pub outer-opened : (n : Names) → enclosing (outer n) ≡ innermost (outside (known n).opened)
outer-opened n = sym (ap innermost (outside-opened n.frames) ∙ innermost-opened (rest_of n.frames))

known-numbered_if : (s : SubprogramSpecification) (n : Names) (number : Option SubprogramNo) → known (numbered_if s n number) ≡ known n
unfolding numbered_if
known-numbered_if s n None = refl
known-numbered_if s n (Some number) = refl

-- one that completes
pub known-completed : (i : Identifier) (s : SubprogramSpecification) (n : Names) (e : ℕ) → completed_in n (outer n).region i.text ≡ Some e
    → known (completed i s n) ≡ record (known n) { bodies = e ∷ n.bodies; opened = first_again (known n).opened }
unfolding completed body_of_declared completed_or_declared
known-completed i s n e found =
    known-owned _ i.text (completed_or_declared (outer n) (completed_in n (outer n).region i.text) i s n)
    ∙ ap (λ (k : Known). record k { opened = first_again k.opened }) (
    ap (λ x. known (completed_or_declared (outer n) x i s n)) found
    ∙ ap (λ (k : Known). record k { bodies = e ∷ k.bodies }) (known-numbered_if s n _))

-- one that declares
pub known-body_declared : (i : Identifier) (s : SubprogramSpecification) (n : Names) → completed_in n (outer n).region i.text ≡ None
    → (x : Entity) × Declares (completes i s) n.regions x
    × (known (completed i s n) ≡ record (with_declared (innermost (outside (known n).opened)) i.text x (known n)) { opened = first_again (known n).opened })
unfolding completed completed_or_declared
known-body_declared i s n found =
    let d =
    subprogram-declared (completes i s) (outer n) false (scope_in n.frames) i s n (innermost (outside (known n).opened))
    (outer-opened n) refl refl refl refl (λ kind. refl) in (
      d.0,
      d.1,
      known-owned _ i.text (completed_or_declared (outer n) (completed_in n (outer n).region i.text) i s n)
          ∙ ap (λ (k : Known). record k { opened = first_again k.opened }) (ap (λ x. known (completed_or_declared (outer n) x i s n)) found ∙ d.2),
    )
