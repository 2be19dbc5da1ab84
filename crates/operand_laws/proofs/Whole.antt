-- The image of a whole source: its operands have smaller numbers, so the count of turns is enough.
use Rattle.std.proofs.Common.{ℕ, suc, Bool, true, false, cond, ◌++◌, List, [], ◌∷◌, Option, Some, None, is_some, refl}
use Rattle.std.specs.Prelude.{codes}
use Rattle.ada_tree.specs.declared.expressions.Expression.{Expression}
use Rattle.ada_tree.specs.declared.units.Unit.{Unit as Tree}
use Rattle.profile_image.specs.declared.declarations.EntryBody.{EntryBody}
use Rattle.profile_image.specs.declared.declarations.Initial.TheVariants as initial
use Rattle.ada_regions.specs.declared.types.Subtype.{Subtype}
use Rattle.ada_regions.specs.declared.table.NumberedDeclaration.{NumberedDeclaration}
use Rattle.ada_regions.specs.declared.table.NumberedEntry.{NumberedEntry}
use Rattle.ada_regions.specs.declared.table.NumberedEntryBody.{NumberedEntryBody}
use Rattle.ada_regions.specs.declared.table.NumberedTask.{NumberedTask}
use Rattle.ada_regions.specs.Numbered.{names_of}
use Rattle.ada_regions.specs.TypeKinds.{is_array_type}
use Rattle.ada_image.specs.declared.making.MadeLists.{MadeLists}
use Rattle.ada_image.specs.declared.making.Within.{Within}
use Rattle.ada_image.specs.Making.{◌>>=◌, pure, nothing_made}
use Rattle.ada_image.specs.Layout.{subtype_is, scope_no}
use Rattle.ada_image.specs.ImageOfExpressions.{expression_image, expression_made, optional_value}
use Rattle.ada_image.specs.ImageOfCalls.{function_call}
use Rattle.ada_image.specs.ImageOfStatements.{array_name}
use Rattle.ada_image.specs.UnitsOfImage.{aspect_value, task_unit_with, task_units_made, entry_with, entry_body_made, entries_made}
use Rattle.ada_image.specs.ImageOfUnits.{scalar_initial, scalar_or_array, initial_of_call, initial_made, numbered_object, declaration_made}
use Rattle.ada_image.specs.ImageOfUnits.{declarations_made, outermost, actions_made, all_made, program_with, program_from, program_of}
use Rattle.operand_laws.specs.OperandLaws.{OperandsAreMadeFirst}
use Rattle.operand_laws.proofs.Rising.{Keeps, keeps-then}
use Rattle.operand_laws.proofs.Simple.{expression-keeps}
use Rattle.operand_laws.proofs.Units.{actions-keep}
use Rattle.image_laws.proofs.Images.Whole.{behind_actions}

-- ---- deadlines, barriers and initial values

deadline-keeps : (within : Within) (e : Option Expression) → Keeps (optional_value within e)
unfolding optional_value
deadline-keeps within None = λ l h. h
deadline-keeps within (Some e) = keeps-then (expression_made e within) (λ x. pure (Some x)) (expression-keeps e within) (λ x l h. h)

tasks-keep : (within : Within) (number : ℕ) (ts : List NumberedTask) → Keeps (task_units_made within number ts)
unfolding task_units_made
tasks-keep within number [] = λ l h. h
tasks-keep within number (t ∷ ts) =
    keeps-then (optional_value within (aspect_value (codes "relative_deadline") t.aspects))
    (λ deadline. task_units_made within (suc number) ts >>= (λ others. pure (task_unit_with within.names number t deadline ∷ others)))
    (deadline-keeps within (aspect_value (codes "relative_deadline") t.aspects))
    (λ deadline. keeps-then (task_units_made within (suc number) ts) (λ others. pure (task_unit_with within.names number t deadline ∷ others))
    (tasks-keep within (suc number) ts) (λ others l h. h))

barrier-keeps : (within : Within) (b : Option NumberedEntryBody) → Keeps (entry_body_made within b)
unfolding entry_body_made
barrier-keeps within None = λ l h. h
barrier-keeps within (Some b) =
    keeps-then (expression_made b.barrier within) (λ x. pure {X = Option EntryBody} (Some (record { barrier = x; scope = scope_no b.scope })))
    (expression-keeps b.barrier within) (λ x l h. h)

entries-keep : (within : Within) (before es : List NumberedEntry) → Keeps (entries_made within before es)
unfolding entries_made
entries-keep within before [] = λ l h. h
entries-keep within before (e ∷ es) =
    keeps-then (entry_body_made within e.body)
    (λ body. entries_made within (before ++ e ∷ []) es >>= (λ others. pure (entry_with within.names before e body ∷ others))) (barrier-keeps within e.body)
    (λ body. keeps-then (entries_made within (before ++ e ∷ []) es) (λ others. pure (entry_with within.names before e body ∷ others))
    (entries-keep within (before ++ e ∷ []) es) (λ others l h. h))

scalar-keeps : (within : Within) (e : Expression) → Keeps (scalar_initial within e)
unfolding scalar_initial
scalar-keeps within e = keeps-then (expression_made e within) (λ v. pure (initial.Scalar v)) (expression-keeps e within) (λ v l h. h)

array-keeps : (array : Bool) (within : Within) (e : Expression)
    → Keeps (cond array (pure (initial.Array (array_name within (expression_image e).name))) (scalar_initial within e))
array-keeps true within e = λ l h. h
array-keeps false within e = scalar-keeps within e

call-keeps : (called : Bool) (within : Within) (s : Option Subtype) (e : Expression) → Keeps (initial_of_call within s e called)
unfolding initial_of_call scalar_or_array
call-keeps true within s e = λ l h. h
call-keeps false within s e = array-keeps (subtype_is is_array_type s) within e

initial-keeps : (within : Within) (s : Option Subtype) (e : Option Expression) → Keeps (initial_made within s e)
unfolding initial_made
initial-keeps within s None = λ l h. h
initial-keeps within s (Some e) = call-keeps (is_some (function_call within e)) within s e

declarations-keep : (within : Within) (before ds : List NumberedDeclaration) → Keeps (declarations_made within before ds)
unfolding declarations_made declaration_made
declarations-keep within before [] = λ l h. h
declarations-keep within before (d ∷ ds) =
    keeps-then (initial_made within d.subtype d.initial)
    (λ i. declarations_made within (before ++ d ∷ []) ds >>= (λ others. pure (numbered_object within.names before d i ∷ others)))
    (initial-keeps within d.subtype d.initial)
    (λ i. keeps-then (declarations_made within (before ++ d ∷ []) ds) (λ others. pure (numbered_object within.names before d i ∷ others))
    (declarations-keep within (before ++ d ∷ []) ds)
    (λ others l h. h))

-- ---- all that is made

behind-keeps : (within : Within) → Keeps (behind_actions within)
behind-keeps within =
    keeps-then (task_units_made within 0 within.names.task_units)
    (λ ts. entries_made within [] within.names.entries
    >>= (λ es.
    declarations_made within [] within.names.declarations >>= (λ ds. pure {X = MadeLists} (record { task_units = ts; entries = es; declarations = ds }))))
    (tasks-keep within 0 within.names.task_units)
    (λ ts. keeps-then (entries_made within [] within.names.entries)
    (λ es.
    declarations_made within [] within.names.declarations >>= (λ ds. pure {X = MadeLists} (record { task_units = ts; entries = es; declarations = ds })))
    (entries-keep within [] within.names.entries)
    (λ es. keeps-then (declarations_made within [] within.names.declarations)
    (λ ds. pure {X = MadeLists} (record { task_units = ts; entries = es; declarations = ds })) (declarations-keep within [] within.names.declarations)
    (λ ds l h. h)))

all-keeps : (unit : Tree) (within : Within) → Keeps (all_made unit within)
unfolding all_made
all-keeps unit within = keeps-then (actions_made unit within) (λ u. behind_actions within) (actions-keep unit within) (λ u. behind-keeps within)

pub operands_are_made_first : OperandsAreMadeFirst
unfolding program_of program_from program_with
operands_are_made_first unit = all-keeps unit (outermost (names_of unit)) nothing_made refl
