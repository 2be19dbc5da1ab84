-- The image of a source that is built reads as its text: what is made behind the actions only adds expressions.
use Rattle.std.proofs.Common.{◌≡◌, ℕ, ◌+◌, suc, arith, Bool, true, false, cond, ◌++◌, List, [], ◌∷◌}
use Rattle.std.proofs.Common.{Option, Some, None, is_some, map, length, append-nil, refl, ap, ◌∙◌}
use Rattle.std.specs.Prelude.{codes}
use Rattle.std.proofs.lemmas.Bool.{and_from, and_parts}
use Rattle.ada_tree.specs.declared.expressions.Expression.{Expression}
use Rattle.ada_tree.specs.declared.units.Unit.{Unit as Tree}
use Rattle.profile_image.specs.declared.numbers.ExprNo.{ExprNo}
use Rattle.profile_image.specs.declared.declarations.Declaration.{Declaration as NumberedObject}
use Rattle.profile_image.specs.declared.declarations.Entry.{Entry}
use Rattle.profile_image.specs.declared.declarations.EntryBody.{EntryBody}
use Rattle.profile_image.specs.declared.declarations.TaskUnit.{TaskUnit}
use Rattle.profile_image.specs.declared.declarations.Initial.TheVariants as initial
use Rattle.ada_regions.specs.declared.types.Subtype.{Subtype}
use Rattle.ada_regions.specs.declared.table.Names.{Names}
use Rattle.ada_regions.specs.declared.table.NumberedDeclaration.{NumberedDeclaration}
use Rattle.ada_regions.specs.declared.table.NumberedEntry.{NumberedEntry}
use Rattle.ada_regions.specs.declared.table.NumberedEntryBody.{NumberedEntryBody}
use Rattle.ada_regions.specs.declared.table.NumberedTask.{NumberedTask}
use Rattle.ada_regions.specs.Numbered.{names_of}
use Rattle.ada_regions.specs.TypeKinds.{is_array_type}
use Rattle.ada_image.specs.declared.making.Lists.{Lists}
use Rattle.ada_image.specs.declared.making.MadeLists.{MadeLists}
use Rattle.ada_image.specs.declared.making.Within.{Within}
use Rattle.ada_image.specs.Making.{Making, ◌>>=◌, pure, nothing_made}
use Rattle.ada_image.specs.Layout.{subtype_is, scope_no}
use Rattle.ada_image.specs.ImageOfExpressions.{expression_image, expression_made, optional_value}
use Rattle.ada_image.specs.ImageOfCalls.{function_call}
use Rattle.ada_image.specs.ImageOfStatements.{array_name}
use Rattle.ada_image.specs.UnitsOfImage.{aspect_value, task_unit_with, task_units_made, entry_with, entry_body_made, entries_made}
use Rattle.ada_image.specs.ImageOfUnits.{scalar_initial, scalar_or_array, initial_of_call, initial_made, numbered_object, declaration_made}
use Rattle.ada_image.specs.ImageOfUnits.{declarations_made, outermost, actions_made, all_made, program_with, program_from, program_of}
use Rattle.ada_image.specs.BuiltUnits.{unit_built}
use Rattle.image_laws.specs.OwnScopes.{are_own, is_built_with}
use Rattle.image_laws.specs.ScopesOfText.{scopes_begun}
use Rattle.image_laws.specs.ActionsOfText.{actions_of}
use Rattle.image_laws.specs.ImageLaws.{NothingIsLost, NothingIsAdded}
use Rattle.image_laws.proofs.Images.Steps.{Step, Holds, step-then}
use Rattle.image_laws.proofs.Images.Growing.{Grows, grows-pure, grows-then, expression-grows}
use Rattle.image_laws.proofs.Images.Packages.{SourceReads, actions-step}
use Rattle.image_laws.proofs.Images.Opening.{opens-before}
use Rattle.image_laws.proofs.Images.Keeping.{Keeps, no-more}
use Rattle.image_laws.proofs.Images.OpeningUnits.{actions-open}
use Rattle.image_laws.proofs.Images.Counting.{counts-before}
use Rattle.image_laws.proofs.Images.CountingUnits.{actions-count}
use Rattle.image_laws.proofs.Images.Scopes.{own-firsts-stand}

-- ---- deadlines, barriers and initial values

deadline-grows : (within : Within) (e : Option Expression) → Grows (optional_value within e)
unfolding optional_value
deadline-grows within None = grows-pure {X = Option ExprNo} None
deadline-grows within (Some e) = grows-then (expression_made e within) (λ x. pure (Some x)) (expression-grows e within) (λ x. grows-pure (Some x))

tasks-grow : (within : Within) (number : ℕ) (ts : List NumberedTask) → Grows (task_units_made within number ts)
unfolding task_units_made
tasks-grow within number [] = grows-pure {X = List TaskUnit} []
tasks-grow within number (t ∷ ts) =
    grows-then (optional_value within (aspect_value (codes "relative_deadline") t.aspects))
    (λ deadline. task_units_made within (suc number) ts >>= (λ others. pure (task_unit_with within.names number t deadline ∷ others)))
    (deadline-grows within (aspect_value (codes "relative_deadline") t.aspects))
    (λ deadline. grows-then (task_units_made within (suc number) ts) (λ others. pure (task_unit_with within.names number t deadline ∷ others))
    (tasks-grow within (suc number) ts) (λ others. grows-pure (task_unit_with within.names number t deadline ∷ others)))

barrier-grows : (within : Within) (b : Option NumberedEntryBody) → Grows (entry_body_made within b)
unfolding entry_body_made
barrier-grows within None = grows-pure {X = Option EntryBody} None
barrier-grows within (Some b) =
    grows-then (expression_made b.barrier within) (λ x. pure {X = Option EntryBody} (Some (record { barrier = x; scope = scope_no b.scope })))
    (expression-grows b.barrier within) (λ x. grows-pure {X = Option EntryBody} (Some (record { barrier = x; scope = scope_no b.scope })))

entries-grow : (within : Within) (before es : List NumberedEntry) → Grows (entries_made within before es)
unfolding entries_made
entries-grow within before [] = grows-pure {X = List Entry} []
entries-grow within before (e ∷ es) =
    grows-then (entry_body_made within e.body)
    (λ body. entries_made within (before ++ e ∷ []) es >>= (λ others. pure (entry_with within.names before e body ∷ others))) (barrier-grows within e.body)
    (λ body. grows-then (entries_made within (before ++ e ∷ []) es) (λ others. pure (entry_with within.names before e body ∷ others))
    (entries-grow within (before ++ e ∷ []) es) (λ others. grows-pure (entry_with within.names before e body ∷ others)))

scalar-grows : (within : Within) (e : Expression) → Grows (scalar_initial within e)
unfolding scalar_initial
scalar-grows within e = grows-then (expression_made e within) (λ v. pure (initial.Scalar v)) (expression-grows e within) (λ v. grows-pure (initial.Scalar v))

array-grows : (array : Bool) (within : Within) (e : Expression)
    → Grows (cond array (pure (initial.Array (array_name within (expression_image e).name))) (scalar_initial within e))
array-grows true within e = grows-pure (initial.Array (array_name within (expression_image e).name))
array-grows false within e = scalar-grows within e

call-grows : (called : Bool) (within : Within) (s : Option Subtype) (e : Expression) → Grows (initial_of_call within s e called)
unfolding initial_of_call scalar_or_array
call-grows true within s e = grows-pure initial.Default
call-grows false within s e = array-grows (subtype_is is_array_type s) within e

initial-grows : (within : Within) (s : Option Subtype) (e : Option Expression) → Grows (initial_made within s e)
unfolding initial_made
initial-grows within s None = grows-pure initial.Default
initial-grows within s (Some e) = call-grows (is_some (function_call within e)) within s e

declarations-grow : (within : Within) (before ds : List NumberedDeclaration) → Grows (declarations_made within before ds)
unfolding declarations_made declaration_made
declarations-grow within before [] = grows-pure {X = List NumberedObject} []
declarations-grow within before (d ∷ ds) =
    grows-then (initial_made within d.subtype d.initial)
    (λ i. declarations_made within (before ++ d ∷ []) ds >>= (λ others. pure (numbered_object within.names before d i ∷ others)))
    (initial-grows within d.subtype d.initial)
    (λ i. grows-then (declarations_made within (before ++ d ∷ []) ds) (λ others. pure (numbered_object within.names before d i ∷ others))
    (declarations-grow within (before ++ d ∷ []) ds)
    (λ others. grows-pure (numbered_object within.names before d i ∷ others)))

-- ---- all that is made

abbrev pub behind_actions : Within → Making MadeLists
behind_actions within = do
  task_units ← task_units_made within 0 within.names.task_units
  entries ← entries_made within [] within.names.entries
  declarations ← declarations_made within [] within.names.declarations
  pure (record { task_units = task_units; entries = entries; declarations = declarations })

behind-grows : (within : Within) → Grows (behind_actions within)
behind-grows within =
    grows-then (task_units_made within 0 within.names.task_units)
    (λ ts. entries_made within [] within.names.entries
    >>= (λ es.
    declarations_made within [] within.names.declarations >>= (λ ds. pure {X = MadeLists} (record { task_units = ts; entries = es; declarations = ds }))))
    (tasks-grow within 0 within.names.task_units)
    (λ ts. grows-then (entries_made within [] within.names.entries)
    (λ es.
    declarations_made within [] within.names.declarations >>= (λ ds. pure {X = MadeLists} (record { task_units = ts; entries = es; declarations = ds })))
    (entries-grow within [] within.names.entries)
    (λ es. grows-then (declarations_made within [] within.names.declarations)
    (λ ds. pure {X = MadeLists} (record { task_units = ts; entries = es; declarations = ds })) (declarations-grow within [] within.names.declarations)
    (λ ds. grows-pure {X = MadeLists} (record { task_units = ts; entries = es; declarations = ds }))))

all-step : (unit : Tree) (within : Within) → unit_built unit within.names ≡ true → Step (all_made unit within) (λ p x. SourceReads unit within p)
unfolding all_made
all-step unit within b =
    step-then (actions_made unit within) (λ u. behind_actions within) (actions-step unit within b)
    (λ u. record { grows = λ l. (behind-grows within l).0; reads = λ l p h r. r })

-- the image with the lists that were made
all-hold : (n : Names) (unit : Tree) (made : Lists × MadeLists) → are_own n (map (λ f. f.scope) made.0.firsts) ≡ true
    → Holds (program_with n unit made.0 made.1) 0 made.0
unfolding program_with
all-hold n unit made own = record {
  values = λ i h. refl;
  actions = λ i f h. refl;
  firsts = own-firsts-stand n made.0.firsts (program_with n unit made.0 made.1) refl own;
}

behind-keeps : (within : Within) → Keeps (behind_actions within)
behind-keeps within = record { firsts = λ l. (behind-grows within l).1; actions = λ l. ap (λ ss. length ss) (behind-grows within l).2 ∙ no-more l }

-- the scopes that begin are those of the text
scopes-are-those : (n : Names) (unit : Tree) → map (λ f. f.scope) (all_made unit (outermost n) nothing_made).0.firsts ≡ scopes_begun unit n
unfolding all_made
scopes-are-those n unit =
    opens-before (actions_made unit (outermost n)) (λ u. behind_actions (outermost n)) (scopes_begun unit n) (actions-open unit (outermost n))
    (λ u. behind-keeps (outermost n)) nothing_made
    ∙ append-nil (scopes_begun unit n)

source-reads : (n : Names) (unit : Tree) → is_built_with n unit ≡ true → SourceReads unit (outermost n) (program_from n unit)
unfolding program_from
source-reads n unit b =
    let parts = and_parts _ _ b in
    (all-step unit (outermost n) parts.0).reads nothing_made (program_from n unit)
    (all-hold n unit (all_made unit (outermost n) nothing_made) (ap (are_own n) (scopes-are-those n unit) ∙ parts.1))

pub nothing_is_lost : NothingIsLost
unfolding program_of
nothing_is_lost unit b = let h = source-reads (names_of unit) unit b in and_from _ _ h.0 h.1

-- ---- as many actions as the text has

nothing-more : (k : ℕ) → k + 0 ≡ k
nothing-more k = omega arith

actions-of_all : (n : Names) (unit : Tree) → length (program_from n unit).statements ≡ actions_of unit n
unfolding program_from program_with all_made
actions-of_all n unit =
    let counted =
    (counts-before (actions_made unit (outermost n)) (λ u. behind_actions (outermost n)) (actions_of unit n) (actions-count n unit)
    (λ u. behind-keeps (outermost n))).actions nothing_made in
    counted ∙ nothing-more (actions_of unit n)

pub nothing_is_added : NothingIsAdded
unfolding program_of
nothing_is_added unit = actions-of_all (names_of unit) unit
