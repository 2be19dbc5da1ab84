-- Nothing is lost: the actions of each scope, read by `first` and `next`, are the declarations and statements of its
-- text in order, each of its kind and with its parts; those of the environment are the packages, and then the call of
-- the main procedure. This is said of the image alone, however it was made.
use Rattle.std.specs.Prelude.{ℕ, zero, suc, length, Bool, true, false, cond, not, ◌&&◌}
use Rattle.std.specs.Prelude.{List, [], ◌∷◌, ◌++◌, Option, Some, None, unwrap_or, eqb}
use Rattle.std.specs.List.{list_all}
use Rattle.std.specs.Option.{option_flatten}
use Rattle.std.specs.Bool.{then_some}
use Rattle.ann_base.specs.declared.places.Place.{Place}
use Rattle.ada_tree.specs.declared.names.Identifier.{Identifier}
use Rattle.ada_tree.specs.declared.expressions.Expression.{Expression}
use Rattle.ada_tree.specs.declared.statements.SequenceParts.{SequenceParts}
use Rattle.ada_tree.specs.declared.statements.Handler.{Handler}
use Rattle.ada_tree.specs.declared.statements.Sequence.{Sequence}
use Rattle.ada_tree.specs.declared.statements.Sequence.TheOpen.{Sequence-F}
use Rattle.ada_tree.specs.declared.statements.Sequence.TheFolds.{fold-Sequence}
use Rattle.ada_tree.specs.declared.statements.Sequence.TheViews.{out-Sequence}
use Rattle.ada_tree.specs.declared.declarations.Declaration.{Declaration}
use Rattle.ada_tree.specs.declared.declarations.Declaration.TheVariants as declaration
use Rattle.ada_tree.specs.declared.declarations.OperationBody.{OperationBody}
use Rattle.ada_tree.specs.declared.declarations.OperationBody.TheVariants as body_of
use Rattle.ada_tree.specs.declared.units.Unit.{Unit as Tree}
use Rattle.ada_tree.specs.declared.units.LibraryPackage.{LibraryPackage}
use Rattle.ada_tree.specs.declared.units.Package.{Package}
use Rattle.ada_tree.specs.declared.units.Package.TheVariants as packages
use Rattle.ada_tree.specs.declared.units.PackageDeclaration.{PackageDeclaration}
use Rattle.ada_tree.specs.declared.units.PackageBody.{PackageBody}
use Rattle.profile_image.specs.declared.image.Image.{Image}
use Rattle.profile_image.specs.declared.numbers.DeclNo.{DeclNo}
use Rattle.profile_image.specs.declared.numbers.StatementNo.{StatementNo}
use Rattle.profile_image.specs.declared.numbers.SubprogramNo.{SubprogramNo}
use Rattle.profile_image.specs.declared.statements.StatementForm.{StatementForm}
use Rattle.profile_image.specs.declared.statements.StatementForm.TheVariants as action
use Rattle.profile_image.specs.Program.{form_of, next_of}
use Rattle.ada_regions.specs.Words.{all_of}
use Rattle.ada_regions.specs.Names.{entity_denoted}
use Rattle.ada_regions.specs.Numbered.{names_of}
use Rattle.ada_regions.specs.TypeKinds.{is_task_type, is_controlled_type}
use Rattle.ada_image.specs.declared.making.Within.{Within}
use Rattle.ada_image.specs.Making.{in_body_of, in_construct, in_unit}
use Rattle.ada_image.specs.Layout.{subtype_is}
use Rattle.ada_image.specs.ImageOfCalls.{FunctionCall}
use Rattle.ada_image.specs.declared.making.SequencePlace.{SequencePlace}
use Rattle.ada_image.specs.declared.making.SequencePlace.TheVariants as sequence_place
use Rattle.ada_image.specs.ImageOfStatements.{scope_at}
use Rattle.ada_image.specs.ImageOfDeclarations.{number_declared, subtype_declared_as}
use Rattle.ada_image.specs.ImageOfDeclarations.{subprogram_declared_as, function_call_if, make_tasks}
use Rattle.ada_image.specs.ImageOfUnits.{outermost, program_of, has_body, part_of, package_part}
use Rattle.ada_image.specs.ReadExpressions.{same_decl}
use Rattle.ada_image.specs.ReadStatements.{Reading, same_next, call_stands, is_declared, first_of_scope}
use Rattle.ada_image.specs.ReadStatements.{is_call_of_main, statements_stand, handlers_stand}

-- what is left behind some actions that stand; nothing where one does not
abbrev pub Rest : Type 0
Rest = Option (Option StatementNo)

abbrev pub and_behind : Rest → (Option StatementNo → Rest) → Rest
and_behind None f = None
and_behind (Some from) f = f from

abbrev pub ends_at : Option StatementNo → Rest → Bool
ends_at to None = false
ends_at to (Some from) = same_next from to

abbrev pub reads_on : (Option StatementNo → Bool) → Rest → Bool
reads_on f None = false
reads_on f (Some from) = f from

-- ---- single actions

abbrev pub is_create : DeclNo → ℕ → StatementForm → Bool
is_create d part (action.CreateTask e q) = same_decl d e && eqb part q
is_create d part _ = false

abbrev pub is_initialize : DeclNo → StatementForm → Bool
is_initialize d (action.Initialize e) = same_decl d e
is_initialize d _ = false

abbrev pub is_declare : DeclNo → StatementForm → Bool
is_declare d (action.Declare e) = same_decl d e
is_declare d _ = false

abbrev pub is_activate : ℕ → StatementForm → Bool
is_activate part (action.Activate q) = eqb part q
is_activate part _ = false

abbrev pub is_end_of_activation : StatementForm → Bool
is_end_of_activation action.EndActivation = true
is_end_of_activation _ = false

module _ (p : Image) where
  -- the action that stands here passes a test: what comes behind it
  abbrev pub one_action : (StatementForm → Bool) → Option StatementNo → Rest
  one_action test None = None
  one_action test (Some s) = cond (test (form_of p s)) (Some (next_of p s)) None

  abbrev pub action_if : Bool → (StatementForm → Bool) → Option StatementNo → Rest
  action_if true test from = one_action test from
  action_if false test from = Some from

  -- ---- declarations (3.3.1, 7.6, 9.1)

  abbrev pub declares : Within → DeclNo → Option FunctionCall → StatementForm → Bool
  declares within d None f = is_declare d f
  declares within d (Some c) f = call_stands p within c (is_declared p d) f

  abbrev pub object_read : Within → ℕ → Option Expression → Identifier → Option StatementNo → Rest
  object_read within part initial i from = cond (subtype_is is_task_type (subtype_declared_as within i))
      (one_action (is_create (number_declared within i) part) from)
      (and_behind (one_action (declares within (number_declared within i) (function_call_if within initial)) from)
      (action_if (subtype_is is_controlled_type (subtype_declared_as within i))
      (is_initialize (number_declared within i))))

  abbrev pub objects_read : Within → ℕ → Option Expression → List Identifier → Option StatementNo → Rest
  objects_read within part initial [] from = Some from
  objects_read within part initial (i ∷ rest) from =
      and_behind (object_read within part initial i from) (objects_read within part initial rest)

  abbrev pub single_read : Within → ℕ → Bool → Identifier → Option StatementNo → Rest
  single_read within part true i from = Some from
  single_read within part false i from = object_read within part None i from

  module _ {Q : Type 0} where
    abbrev pub declaration_read : Within → ℕ → Declaration Q → Option StatementNo → Rest
    declaration_read within part (declaration.Object o) from = objects_read within part o.initial (all_of o.names) from
    declaration_read within part (declaration.Type t) from = Some from
    declaration_read within part (declaration.Subtype s) from = Some from
    declaration_read within part (declaration.Exception names) from = Some from
    declaration_read within part (declaration.Subprogram s) from = Some from
    declaration_read within part (declaration.SubprogramBody s body) from = Some from
    declaration_read within part (declaration.Task t) from = single_read within part t.is_type t.name from
    declaration_read within part (declaration.TaskBody place name body) from = Some from
    declaration_read within part (declaration.Protected x) from = single_read within part x.is_type x.name from
    declaration_read within part (declaration.ProtectedBody x) from = Some from
    declaration_read within part (declaration.Use place name) from = Some from

    abbrev pub declarations_read : Within → ℕ → List (Declaration Q) → Option StatementNo → Rest
    declarations_read within part [] from = Some from
    declarations_read within part (d ∷ ds) from =
        and_behind (declaration_read within part d from) (declarations_read within part ds)

  abbrev pub activation_read : Option ℕ → Option StatementNo → Rest
  activation_read None from = Some from
  activation_read (Some part) from = one_action (is_activate part) from

  -- ---- sequences, given how those in them read

  module _ {Q : Type 0} (sequence : Q → SequencePlace → Within → Reading) where
    abbrev pub body_reads : Within → Place → Option SubprogramNo → Bool → Q → Bool
    body_reads within place function is_task_body q =
        sequence q (sequence_place.AsBody is_task_body) (in_body_of (scope_at within.names place) function within)
        (first_of_scope p (scope_at within.names place)) None

    abbrev pub operation_reads : Within → OperationBody Q → Bool
    operation_reads within (body_of.Subprogram s body) =
        body_reads within s.place (subprogram_declared_as within s.name) false body.sequence
    operation_reads within (body_of.Entry head body) = body_reads within head.place None false body.sequence

    abbrev pub operations_read : Within → List (OperationBody Q) → Bool
    operations_read within os = list_all (operation_reads within) os

    -- the scope of a body among declarations reads as its text
    abbrev pub inner_body_reads : Within → Declaration Q → Bool
    inner_body_reads within (declaration.Object o) = true
    inner_body_reads within (declaration.Type t) = true
    inner_body_reads within (declaration.Subtype s) = true
    inner_body_reads within (declaration.Exception names) = true
    inner_body_reads within (declaration.Subprogram s) = true
    inner_body_reads within (declaration.SubprogramBody s body) =
        body_reads within s.place (subprogram_declared_as within s.name) false body.sequence
    inner_body_reads within (declaration.Task t) = true
    inner_body_reads within (declaration.TaskBody place name body) =
        body_reads (in_unit (entity_denoted within.names name.place) within) place None true body.sequence
    inner_body_reads within (declaration.Protected x) = true
    inner_body_reads within (declaration.ProtectedBody x) =
        operations_read (in_unit (entity_denoted within.names x.name.place) within) x.operations
    inner_body_reads within (declaration.Use place name) = true

    abbrev pub inner_bodies_read : Within → List (Declaration Q) → Bool
    inner_bodies_read within ds = list_all (inner_body_reads within) ds

    abbrev pub unhandled_reads : Within → Option ℕ → SequenceParts Q → Reading
    unhandled_reads within part s from to =
        reads_on (λ first. statements_stand p sequence within (s.statements.first
        ∷ s.statements.others) first to) (activation_read part from)

    abbrev pub handled_form_reads : Within → Option ℕ → SequenceParts Q → StatementNo → Option StatementNo
        → StatementForm → Bool
    handled_form_reads within part s h to (action.Handled handlers first) =
        same_next (next_of p h) to && (unhandled_reads (in_construct h within) part s (Some first) None
        && handlers_stand p sequence within s.handlers to handlers)
    handled_form_reads within part s h to _ = false

    abbrev pub with_handlers_reads : Within → Option ℕ → SequenceParts Q → Reading
    with_handlers_reads within part s None to = false
    with_handlers_reads within part s (Some h) to = handled_form_reads within part s h to (form_of p h)

    abbrev pub handled_reads : Within → Option ℕ → SequenceParts Q → List (Handler Q) → Reading
    handled_reads within part s [] from to = unhandled_reads within part s from to
    handled_reads within part s (h ∷ hs) from to = with_handlers_reads within part s from to

    abbrev pub whole_reads : Within → Bool → SequenceParts Q → Reading
    whole_reads within is_task_body s from to =
        inner_bodies_read within s.declarations
        && reads_on (λ rest. handled_reads within (then_some (make_tasks within s.declarations) 0) s s.handlers rest to)
        (and_behind (declarations_read within 0 s.declarations from) (action_if is_task_body is_end_of_activation))

    abbrev pub parts_read : SequenceParts Q → SequencePlace → Within → Reading
    parts_read s sequence_place.StatementsAlone within from to =
        statements_stand p sequence within (s.statements.first ∷ s.statements.others) from to
    parts_read s (sequence_place.BehindDeclarations part) within from to =
        handled_reads within part s s.handlers from to
    parts_read s (sequence_place.AsBody is_task_body) within from to = whole_reads within is_task_body s from to

abbrev pub SequenceReading : Type 0
SequenceReading = SequencePlace → Within → Reading

abbrev pub same_sequence_reading : SequenceReading → SequenceReading
same_sequence_reading reading = reading

abbrev pub sequence_reading_layer : Image → Sequence-F SequenceReading → SequenceReading
sequence_reading_layer p s = parts_read p same_sequence_reading s.parts

abbrev pub sequence_reads : Image → Sequence → SequenceReading
sequence_reads p = fold-Sequence SequenceReading (sequence_reading_layer p)

-- ---- library units (7.1, 7.2, 10.2)

abbrev pub package_declaration_read : Image → List LibraryPackage → Within → PackageDeclaration
    → Option StatementNo → Rest
package_declaration_read p ls within x from =
    and_behind (declarations_read p within (part_of ls x.name.text) (x.declarations ++ unwrap_or x.private []) from)
    (activation_read p (then_some (not (has_body ls x.name.text)
    && make_tasks within (x.declarations ++ unwrap_or x.private [])) (part_of ls x.name.text)))

-- ---- where a sequence leads: behind its last statement, or behind the action that opens its handlers

abbrev pub skipped : Image → ℕ → Option StatementNo → Option StatementNo
skipped p zero from = from
skipped p (suc n) None = None
skipped p (suc n) (Some s) = skipped p n (next_of p s)

abbrev pub behind_unhandled : Image → Option ℕ → SequenceParts Sequence → Option StatementNo → Option StatementNo
behind_unhandled p part s from =
    skipped p (suc (length s.statements.others)) (option_flatten (activation_read p part from))

abbrev pub behind_parts : Image → Option ℕ → SequenceParts Sequence → List (Handler Sequence) → Option StatementNo
    → Option StatementNo
behind_parts p part s [] from = behind_unhandled p part s from
behind_parts p part s (h ∷ hs) from = skipped p 1 from

abbrev pub behind_statements : Image → Option ℕ → Option Sequence → Option StatementNo → Option StatementNo
behind_statements p part None from = option_flatten (activation_read p part from)
behind_statements p part (Some s) from = behind_parts p part (out-Sequence s).parts (out-Sequence s).parts.handlers from

-- ---- packages: one after another, and what comes behind each is where the next begins

abbrev pub package_statements_read : Image → Within → Option ℕ → Option Sequence → Option StatementNo → Rest
package_statements_read p within part None from = activation_read p part from
package_statements_read p within part (Some s) from =
    let to = behind_statements p part (Some s) from in
    cond (sequence_reads p s (sequence_place.BehindDeclarations part) within from to) (Some to) None

abbrev pub package_body_read : Image → List LibraryPackage → Within → PackageBody → Option StatementNo → Rest
package_body_read p ls within x from =
    and_behind (declarations_read p within (part_of ls x.name.text) x.declarations from)
    (package_statements_read p within (package_part ls within x) x.sequence)

abbrev pub package_read : Image → List LibraryPackage → Within → Package → Option StatementNo → Rest
package_read p ls within (packages.Declaration x) from = package_declaration_read p ls within x from
package_read p ls within (packages.Body x) from = package_body_read p ls within x from

abbrev pub bodies_in_package : Image → Within → Package → Bool
bodies_in_package p within (packages.Declaration x) =
    inner_bodies_read p (sequence_reads p) within (x.declarations ++ unwrap_or x.private [])
bodies_in_package p within (packages.Body x) = inner_bodies_read p (sequence_reads p) within x.declarations

-- the packages, and behind them the call of the main procedure, which is the last action
abbrev pub elaboration_reads : Image → List LibraryPackage → Within → List LibraryPackage → Option StatementNo → Bool
elaboration_reads p all within [] from = ends_at None (one_action p is_call_of_main from)
elaboration_reads p all within (l ∷ ls) from =
    bodies_in_package p within l.package
    && reads_on (elaboration_reads p all within ls) (package_read p all within l.package from)

-- the image of a source has its text, read from the scopes
abbrev pub image_reads : Image → Tree → Bool
image_reads p unit =
    let within = outermost (names_of unit) in
    elaboration_reads p unit.packages within unit.packages (first_of_scope p 0)
    && body_reads p (sequence_reads p) within unit.main.place None false unit.main.body.sequence

-- nothing of a source is lost in its image
abbrev pub nothing_is_lost : Tree → Bool
nothing_is_lost unit = image_reads (program_of unit) unit
