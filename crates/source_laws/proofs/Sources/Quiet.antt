-- What a text tells of the declarations and the bodies of task and protected units: most parts of a tree tell nothing.
use Rattle.std.proofs.Common.{◌≡◌, ℕ, ◌+◌, Bool, false, cond, List, [], ◌∷◌, ◌++◌, Option, Some, None, map, refl, sym, subst, ◌∙◌, arith}
use Rattle.std.specs.List.{flat_map}
use Rattle.ada_tree.specs.declared.names.Identifier.{Identifier}
use Rattle.ada_tree.specs.declared.names.OneOrMore.{OneOrMore}
use Rattle.ada_tree.specs.declared.expressions.Expression.{Expression}
use Rattle.ada_tree.specs.declared.expressions.Expression.TheOpen.{Expression-F}
use Rattle.ada_tree.specs.declared.expressions.Expression.TheViews.{roll-Expression, out-roll-Expression}
use Rattle.ada_tree.specs.declared.expressions.Expression.TheFolds.{ind-Expression, map-Expression}
use Rattle.ada_tree.specs.declared.expressions.ExpressionForm.{ExpressionForm}
use Rattle.ada_tree.specs.declared.expressions.ExpressionForm.TheVariants as form
use Rattle.ada_tree.specs.declared.expressions.Argument.{Argument}
use Rattle.ada_tree.specs.declared.declarations.Parameter.{Parameter}
use Rattle.ada_tree.specs.declared.declarations.SubtypeIndication.{SubtypeIndication}
use Rattle.ada_tree.specs.declared.declarations.Constraint.{Constraint}
use Rattle.ada_tree.specs.declared.declarations.Constraint.TheVariants as constraint
use Rattle.ada_tree.specs.declared.declarations.ObjectDeclaration.{ObjectDeclaration}
use Rattle.ada_tree.specs.declared.declarations.Component.{Component}
use Rattle.ada_tree.specs.declared.declarations.TypeDefinition.{TypeDefinition}
use Rattle.ada_tree.specs.declared.declarations.TypeDefinition.TheVariants as definition
use Rattle.ada_tree.specs.declared.declarations.SubtypeDeclaration.{SubtypeDeclaration}
use Rattle.ada_tree.specs.declared.declarations.Aspect.{Aspect}
use Rattle.ada_tree.specs.declared.declarations.SubprogramSpecification.{SubprogramSpecification}
use Rattle.ada_tree.specs.declared.declarations.EntryDeclaration.{EntryDeclaration}
use Rattle.ada_tree.specs.declared.declarations.TaskDefinition.{TaskDefinition}
use Rattle.ada_tree.specs.declared.declarations.ProtectedOperation.{ProtectedOperation}
use Rattle.ada_tree.specs.declared.declarations.ProtectedOperation.TheVariants as operation
use Rattle.ada_legality.specs.declared.findings.BodyKind.{BodyKind}
use Rattle.ada_legality.specs.declared.findings.BodyKind.TheVariants as completing
use Rattle.ada_legality.specs.declared.findings.Finding.{Finding}
use Rattle.ada_legality.specs.declared.findings.Finding.TheVariants as finding
use Rattle.ada_legality.specs.Findings.{Found}
use Rattle.ada_regions.specs.declared.entities.UnitKind.{UnitKind}
use Rattle.ada_regions.specs.declared.entities.UnitKind.TheVariants as unit
use Rattle.ada_regions.specs.declared.table.Names.{Names}
use Rattle.ada_regions.specs.Names.{entity_denoted}
use Rattle.ada_regions.specs.Completions.{is_unit}
use Rattle.ada_regions.specs.Occurrences.{Occurrence, Occurrences, Declared, Region, an_object, a_component, a_parameter, an_enumeration}
use Rattle.ada_regions.specs.Occurrences.{a_literal, an_array, a_derived_type, a_subtype, a_subprogram, an_entry, a_task, a_protected}
use Rattle.ada_regions.specs.Occurrences.{a_profile, a_record, task_body, protected_body, private_from_here, begins, ends, hides}
use Rattle.ada_regions.specs.Occurrences.{declares, mentions, in_all, if_there, one, within_region, hides_all, declares_all}
use Rattle.ada_regions.specs.NamesInExpressions.{names_in_form, names_in_argument, names_in_arguments, names_in_expression}
use Rattle.ada_regions.specs.NamesInStatements.{names_in_constraint, names_in_indication, names_in_parameter, names_in_parameters}
use Rattle.ada_regions.specs.NamesInDeclarations.{names_in_object, names_in_component, names_in_definition, names_in_subtype}
use Rattle.ada_regions.specs.NamesInDeclarations.{names_in_aspect, names_in_aspects, names_in_profile, names_in_specification}
use Rattle.ada_regions.specs.NamesInDeclarations.{names_in_entry, names_in_task_definition, names_in_operation, names_in_private}
use Rattle.ada_regions.proofs.ExpressionFolds.{expression_tells}

-- ---- what each finding is worth: a body of a unit, the declaration of one, a rule that is broken

pub record Weights : Type 0 where
  pub completed : BodyKind → ℕ → ℕ
  pub declared : BodyKind → ℕ → ℕ
  pub broken : ℕ

abbrev pub value : Weights → Finding → ℕ
value w (finding.Broken f) = w.broken
value w (finding.Declared kind e place) = w.declared kind e
value w (finding.Completed kind e) = w.completed kind e
value w _ = 0

abbrev pub worth : Weights → Found → ℕ
worth w [] = 0
worth w (f ∷ fs) = value w f + worth w fs

-- ---- what is to be found of an occurrence

abbrev pub if_denoted : (ℕ → ℕ) → Option ℕ → ℕ
if_denoted f None = 0
if_denoted f (Some e) = f e

abbrev pub if_no_unit : ℕ → Names → UnitKind → Option ℕ → ℕ
if_no_unit broken n kind None = broken
if_no_unit broken n kind (Some e) = cond (is_unit kind n e) 0 broken

abbrev pub body_tells : Weights → Names → UnitKind → BodyKind → Identifier → ℕ
body_tells w n kind of_kind i = if_no_unit w.broken n kind (entity_denoted n i.place) + if_denoted (w.completed of_kind) (entity_denoted n i.place)

abbrev pub declared_tells : Weights → Names → Identifier → Declared → ℕ
declared_tells w n i (a_task is_type aspects) = if_denoted (w.declared completing.Task) (entity_denoted n i.place)
declared_tells w n i (a_protected is_type aspects) = if_denoted (w.declared completing.Protected) (entity_denoted n i.place)
declared_tells w n i _ = 0

abbrev pub region_tells : Weights → Names → Region → ℕ
region_tells w n (task_body i place) = body_tells w n unit.Task completing.Task i
region_tells w n (protected_body i) = body_tells w n unit.Protected completing.Protected i
region_tells w n _ = 0

abbrev pub tells : Weights → Names → Occurrence → ℕ
tells w n (begins r) = region_tells w n r
tells w n (declares i what) = declared_tells w n i what
tells w n _ = 0

abbrev pub told : Weights → Names → Occurrences → ℕ
told w n [] = 0
told w n (o ∷ os) = tells w n o + told w n os

pub told-append : (w : Weights) (n : Names) (a b : Occurrences) → told w n (a ++ b) ≡ told w n a + told w n b
told-append w n [] b = omega arith
told-append w n (o ∷ a) b = let h = told-append w n a b in omega arith

-- ---- nothing

pub record Quiet (os : Occurrences) : Type 0 where
  pub at : (w : Weights) (n : Names) → told w n os ≡ 0

-- one that tells nothing
abbrev pub Still : Occurrence → Type 0
Still o = (w : Weights) (n : Names) → tells w n o ≡ 0

pub quiet-none : Quiet []
quiet-none = record { at = λ w n. refl }

pub quiet-append : {a b : Occurrences} → Quiet a → Quiet b → Quiet (a ++ b)
quiet-append {a} {b} x y = record { at = λ w n. (let h = told-append w n a b in let s = x.at w n in let t = y.at w n in omega arith) }

pub quiet-still : {a : Occurrences} (o : Occurrence) → Still o → Quiet a → Quiet (o ∷ a)
quiet-still o still x = record { at = λ w n. (let h = still w n in let s = x.at w n in omega arith) }

pub quiet-one : (o : Occurrence) → Still o → Quiet (one o)
quiet-one o still = quiet-still o still quiet-none

pub quiet-region : {a : Occurrences} (r : Region) → Still (begins r) → Quiet a → Quiet (within_region r a)
quiet-region r still x = quiet-still (begins r) still (quiet-append x (quiet-one ends (λ w n. refl)))

pub quiet-flat : {X : Type 0} (f : X → Occurrences) → ((x : X) → Quiet (f x)) → (xs : List X) → Quiet (flat_map f xs)
quiet-flat f all [] = quiet-none
quiet-flat f all (x ∷ xs) = quiet-append (all x) (quiet-flat f all xs)

pub quiet-in_all : {X : Type 0} (f : X → Occurrences) → ((x : X) → Quiet (f x)) → (xs : OneOrMore X) → Quiet (in_all f xs)
quiet-in_all f all xs = quiet-append (all xs.first) (quiet-flat f all xs.others)

pub quiet-if_there : {X : Type 0} (f : X → Occurrences) → ((x : X) → Quiet (f x)) → (x : Option X) → Quiet (if_there f x)
quiet-if_there f all None = quiet-none
quiet-if_there f all (Some x) = all x

pub quiet-hides : (names : OneOrMore Identifier) → Quiet (hides_all names)
quiet-hides names = quiet-in_all (λ i. one (hides i)) (λ i. quiet-one (hides i) (λ w n. refl)) names

pub quiet-declares : (what : Declared) → ((i : Identifier) → Still (declares i what)) → (names : OneOrMore Identifier) → Quiet (declares_all what names)
quiet-declares what still names = quiet-in_all (λ i. one (declares i what)) (λ i. quiet-one (declares i what) (still i)) names

-- ---- expressions

quiet-mapped : {X Y : Type 0} (f : Y → Occurrences) (g : X → Y) → ((x : X) → Quiet (f (g x))) → (xs : List X) → Quiet (flat_map f (map g xs))
quiet-mapped f g all [] = quiet-none
quiet-mapped f g all (x ∷ xs) = quiet-append (all x) (quiet-mapped f g all xs)

module _ (E : Type 0) (g : E → Expression) (all : (e : E) → Quiet (names_in_expression (g e))) where
  quiet-form : (x : ExpressionForm E) → Quiet (names_in_form names_in_expression (map-Expression E Expression g (record { form = x })).form)
  quiet-form (form.Logical operator first others) =
      quiet-append (all first) (quiet-append (all others.first.relation) (quiet-mapped _ _ (λ x. all x.relation) others.others))
  quiet-form (form.Relational left place operator right) = quiet-append (all left) (all right)
  quiet-form (form.Adding first others) = quiet-append (all first) (quiet-append (all others.first.term) (quiet-mapped _ _ (λ x. all x.term) others.others))
  quiet-form (form.Signed place sign operand) = all operand
  quiet-form (form.Multiplying first others) =
      quiet-append (all first) (quiet-append (all others.first.factor) (quiet-mapped _ _ (λ x. all x.factor) others.others))
  quiet-form (form.Highest place operator operand) = all operand
  quiet-form (form.Number place literal) = quiet-none
  quiet-form (form.Text place text) = quiet-none
  quiet-form (form.Null place) = quiet-none
  quiet-form (form.Bracketed place inner) = all inner
  quiet-form (form.Named name attribute arguments) = quiet-still (mentions name) (λ w n. refl) (quiet-mapped _ _ (λ x. all x.value) arguments)

abbrev LayerQuiet : Expression-F Expression → Type 0
LayerQuiet z = Quiet (names_in_form names_in_expression z.form)

pub quiet-expression : (e : Expression) → Quiet (names_in_expression e)
quiet-expression = ind-Expression (λ e. Quiet (names_in_expression e)) (λ x y is.
    subst (λ os. Quiet os) (sym (expression_tells (roll-Expression x)))
    (subst LayerQuiet (is ∙ sym (out-roll-Expression x)) (quiet-form _ (λ p. p.0) (λ p. p.1) y.form)))

pub quiet-optional : (e : Option Expression) → Quiet (if_there names_in_expression e)
quiet-optional e = quiet-if_there names_in_expression quiet-expression e

pub quiet-arguments : (arguments : List (Argument Expression)) → Quiet (names_in_arguments names_in_expression arguments)
quiet-arguments arguments = quiet-flat (names_in_argument names_in_expression) (λ a. quiet-expression a.value) arguments

-- ---- declarations without bodies

quiet-constraint : (c : Constraint) → Quiet (names_in_constraint c)
quiet-constraint (constraint.Access name) = quiet-one (mentions name) (λ w n. refl)
quiet-constraint (constraint.Range low high) = quiet-append (quiet-expression low) (quiet-expression high)

pub quiet-indication : (m : SubtypeIndication) → Quiet (names_in_indication m)
quiet-indication m = quiet-still (mentions m.name) (λ w n. refl) (quiet-if_there names_in_constraint quiet-constraint m.constraint)

quiet-parameter : (with_cells : Bool) (p : Parameter) → Quiet (names_in_parameter with_cells p)
quiet-parameter with_cells p =
    quiet-append (quiet-hides p.names) (quiet-append (quiet-indication p.subtype) (quiet-declares (a_parameter with_cells p) (λ i w n. refl) p.names))

pub quiet-parameters : (with_cells : Bool) (parameters : List Parameter) → Quiet (names_in_parameters with_cells parameters)
quiet-parameters with_cells parameters = quiet-flat (names_in_parameter with_cells) (quiet-parameter with_cells) parameters

pub quiet-object : (o : ObjectDeclaration) → Quiet (names_in_object o)
quiet-object o =
    quiet-append (quiet-hides o.names)
    (quiet-append (quiet-indication o.subtype) (quiet-append (quiet-optional o.initial) (quiet-declares (an_object o) (λ i w n. refl) o.names)))

quiet-component : (c : Component) → Quiet (names_in_component c)
quiet-component c =
    quiet-append (quiet-hides c.names)
    (quiet-append (quiet-indication c.subtype) (quiet-append (quiet-optional c.initial) (quiet-declares (a_component c) (λ i w n. refl) c.names)))

pub quiet-definition : (name : Identifier) (d : TypeDefinition) → Quiet (names_in_definition name d)
quiet-definition name (definition.Enumeration literals) =
    quiet-still (declares name (an_enumeration literals)) (λ w n. refl) (quiet-declares a_literal (λ i w n. refl) literals)
quiet-definition name (definition.Array low high component) =
    quiet-still (hides name) (λ w n. refl) (quiet-append (quiet-expression low) (quiet-append (quiet-expression high) (quiet-append (quiet-indication component)
    (quiet-one (declares name (an_array low high component)) (λ w n. refl)))))
quiet-definition name (definition.Derived parent components) =
    quiet-still (hides name) (λ w n. refl) (quiet-still (mentions parent) (λ w n. refl) (quiet-still (declares name (a_derived_type parent)) (λ w n. refl)
    (quiet-region (a_record name) (λ w n. refl)
    (quiet-if_there (in_all names_in_component) (λ cs. quiet-in_all names_in_component quiet-component cs) components))))

pub quiet-subtype : (s : SubtypeDeclaration) → Quiet (names_in_subtype s)
quiet-subtype s =
    quiet-still (hides s.name) (λ w n. refl) (quiet-append (quiet-indication s.subtype) (quiet-one (declares s.name (a_subtype s.subtype)) (λ w n. refl)))

pub quiet-aspects : (aspects : List Aspect) → Quiet (names_in_aspects aspects)
quiet-aspects aspects = quiet-flat names_in_aspect (λ a. quiet-optional a.value) aspects

pub quiet-profile : (with_cells : Bool) (s : SubprogramSpecification) → Quiet (names_in_profile with_cells s)
quiet-profile with_cells s =
    quiet-append (quiet-parameters with_cells s.parameters)
    (quiet-append (quiet-if_there names_in_indication quiet-indication s.result) (quiet-aspects s.aspects))

pub quiet-specification : (s : SubprogramSpecification) → Quiet (names_in_specification s)
quiet-specification s =
    quiet-still (hides s.name) (λ w n. refl)
    (quiet-append (quiet-region a_profile (λ w n. refl) (quiet-profile false s)) (quiet-one (declares s.name (a_subprogram s)) (λ w n. refl)))

quiet-entry : (e : EntryDeclaration) → Quiet (names_in_entry e)
quiet-entry e =
    quiet-still (hides e.name) (λ w n. refl)
    (quiet-append (quiet-region a_profile (λ w n. refl) (quiet-parameters false e.parameters))
    (quiet-one (declares e.name (an_entry e.parameters)) (λ w n. refl)))

pub quiet-task_definition : (d : TaskDefinition) → Quiet (names_in_task_definition d)
quiet-task_definition d = quiet-flat names_in_entry quiet-entry d.entries

quiet-operation : (o : ProtectedOperation) → Quiet (names_in_operation o)
quiet-operation (operation.Subprogram s) = quiet-specification s
quiet-operation (operation.Entry e) = quiet-entry e

pub quiet-operations : (os : List ProtectedOperation) → Quiet (flat_map names_in_operation os)
quiet-operations os = quiet-flat names_in_operation quiet-operation os

quiet-private : (components : List Component) → Quiet (names_in_private components)
quiet-private components = quiet-still private_from_here (λ w n. refl) (quiet-flat names_in_component quiet-component components)

pub quiet-private_part : (components : Option (List Component)) → Quiet (if_there names_in_private components)
quiet-private_part components = quiet-if_there names_in_private quiet-private components
