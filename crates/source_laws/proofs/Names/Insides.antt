-- What the parts of a tree tell leaves the regions around as they were, but for the sequences in them.
use Rattle.std.proofs.Common.{Bool, false, List, Option, refl}
use Rattle.ada_tree.specs.declared.names.Identifier.{Identifier}
use Rattle.ada_tree.specs.declared.names.OneOrMore.{OneOrMore}
use Rattle.ada_tree.specs.declared.expressions.Expression.{Expression}
use Rattle.ada_tree.specs.declared.expressions.Argument.{Argument}
use Rattle.ada_tree.specs.declared.declarations.Parameter.{Parameter}
use Rattle.ada_tree.specs.declared.declarations.SubtypeIndication.{SubtypeIndication}
use Rattle.ada_tree.specs.declared.declarations.Constraint.{Constraint}
use Rattle.ada_tree.specs.declared.declarations.Constraint.TheVariants as constraint
use Rattle.ada_tree.specs.declared.declarations.ObjectDeclaration.{ObjectDeclaration}
use Rattle.ada_tree.specs.declared.declarations.Component.{Component}
use Rattle.ada_tree.specs.declared.declarations.TypeDefinition.{TypeDefinition}
use Rattle.ada_tree.specs.declared.declarations.TypeDefinition.TheVariants as definition
use Rattle.ada_tree.specs.declared.declarations.SubtypeDeclaration.{SubtypeDeclaration}
use Rattle.ada_tree.specs.declared.declarations.Aspect.{Aspect}
use Rattle.ada_tree.specs.declared.declarations.SubprogramSpecification.{SubprogramSpecification}
use Rattle.ada_tree.specs.declared.declarations.EntryDeclaration.{EntryDeclaration}
use Rattle.ada_tree.specs.declared.declarations.TaskDeclaration.{TaskDeclaration}
use Rattle.ada_tree.specs.declared.declarations.TaskDefinition.{TaskDefinition}
use Rattle.ada_tree.specs.declared.declarations.ProtectedDeclaration.{ProtectedDeclaration}
use Rattle.ada_tree.specs.declared.declarations.ProtectedOperation.{ProtectedOperation}
use Rattle.ada_tree.specs.declared.declarations.ProtectedOperation.TheVariants as operation
use Rattle.ada_tree.specs.declared.statements.Assignment.{Assignment}
use Rattle.ada_tree.specs.declared.statements.Call.{Call}
use Rattle.ada_tree.specs.declared.statements.Delay.{Delay}
use Rattle.ada_tree.specs.declared.statements.Choice.{Choice}
use Rattle.ada_tree.specs.declared.statements.Choice.TheVariants as choice
use Rattle.ada_tree.specs.declared.statements.Label.{Label}
use Rattle.ada_tree.specs.declared.statements.Iteration.{Iteration}
use Rattle.ada_tree.specs.declared.statements.Iteration.TheVariants as iteration
use Rattle.ada_tree.specs.declared.statements.Exit.{Exit}
use Rattle.ada_tree.specs.declared.statements.HandledExceptions.{HandledExceptions}
use Rattle.ada_tree.specs.declared.statements.HandledExceptions.TheVariants as exceptions
use Rattle.ada_tree.specs.declared.selects.Guard.{Guard}
use Rattle.ada_tree.specs.declared.selects.Trigger.{Trigger}
use Rattle.ada_tree.specs.declared.selects.Trigger.TheVariants as trigger
use Rattle.ada_regions.specs.Occurrences.{Declared, an_object, a_component, a_parameter, a_loop_parameter, an_enumeration, a_literal, an_array}
use Rattle.ada_regions.specs.Occurrences.{a_derived_type, a_subtype, a_label, a_subprogram, an_entry, a_task, a_protected, a_profile, a_unit, a_record}
use Rattle.ada_regions.specs.Occurrences.{private_from_here, hides, declares, mentions, mentions_simply, in_all, if_there, one, hides_all, declares_all}
use Rattle.ada_regions.specs.NamesInExpressions.{names_in_expression, names_in_argument, names_in_arguments}
use Rattle.ada_regions.specs.NamesInStatements.{names_in_constraint, names_in_indication, names_in_parameter, names_in_parameters}
use Rattle.ada_regions.specs.NamesInStatements.{names_in_assignment, names_in_call, names_in_delay, names_in_choice, names_in_iteration}
use Rattle.ada_regions.specs.NamesInStatements.{names_in_exit, names_in_exceptions, names_in_guard, names_in_trigger, declares_label}
use Rattle.ada_regions.specs.NamesInDeclarations.{names_in_object, names_in_component, names_in_definition, names_in_subtype, names_in_aspect}
use Rattle.ada_regions.specs.NamesInDeclarations.{names_in_aspects, names_in_profile, names_in_specification, names_in_entry}
use Rattle.ada_regions.specs.NamesInDeclarations.{names_in_task_definition, names_in_task, names_in_operation, names_in_private, names_in_protected}
use Rattle.source_laws.proofs.Names.Texts.{Inside, inside-none, inside-append, inside-one, inside-cons, inside-region}
use Rattle.source_laws.proofs.Names.Texts.{inside-declared_region, inside-flat, inside-in_all, inside-if_there, IsPlainDeclared}
use Rattle.source_laws.proofs.Names.Expressions.{inside-expression}

pub inside-optional : (e : Option Expression) → Inside (if_there names_in_expression e)
inside-optional = inside-if_there names_in_expression inside-expression

pub inside-hides_all : (names : OneOrMore Identifier) → Inside (hides_all names)
inside-hides_all names = inside-in_all (λ i. one (hides i)) (λ i. inside-one (hides i) tt) names

pub inside-declares_all : (what : Declared) (names : OneOrMore Identifier) → IsPlainDeclared what → Inside (declares_all what names)
inside-declares_all what names plain = inside-in_all (λ i. one (declares i what)) (λ i. inside-one (declares i what) plain) names

-- ---- subtype indications and parameters

inside-constraint : (c : Constraint) → Inside (names_in_constraint c)
inside-constraint (constraint.Access name) = inside-one (mentions name) tt
inside-constraint (constraint.Range low high) = inside-append _ _ (inside-expression low) (inside-expression high)

pub inside-indication : (m : SubtypeIndication) → Inside (names_in_indication m)
inside-indication m = inside-cons (mentions m.name) _ tt (inside-if_there names_in_constraint inside-constraint m.constraint)

inside-parameter : (with_cells : Bool) (p : Parameter) → Inside (names_in_parameter with_cells p)
inside-parameter with_cells p =
    inside-append _ _ (inside-hides_all p.names) (inside-append _ _ (inside-indication p.subtype) (inside-declares_all (a_parameter with_cells p) p.names tt))

pub inside-parameters : (with_cells : Bool) (ps : List Parameter) → Inside (names_in_parameters with_cells ps)
inside-parameters with_cells ps = inside-flat (names_in_parameter with_cells) (inside-parameter with_cells) ps

-- ---- the parts of statements

pub inside-arguments : (xs : List (Argument Expression)) → Inside (names_in_arguments names_in_expression xs)
inside-arguments xs = inside-flat (names_in_argument names_in_expression) (λ a. inside-expression a.value) xs

pub inside-assignment : (a : Assignment) → Inside (names_in_assignment a)
inside-assignment a = inside-cons (mentions a.target) _ tt (inside-append _ _ (inside-optional a.index) (inside-expression a.value))

pub inside-call : (c : Call) → Inside (names_in_call c)
inside-call c = inside-cons (mentions c.name) _ tt (inside-arguments c.arguments)

pub inside-delay : (d : Delay) → Inside (names_in_delay d)
inside-delay d = inside-expression d.value

pub inside-choice : (c : Choice) → Inside (names_in_choice c)
inside-choice (choice.Value value) = inside-expression value
inside-choice (choice.Range low high) = inside-append _ _ (inside-expression low) (inside-expression high)
inside-choice (choice.Others place) = inside-none

pub inside-iteration : (i : Iteration) → Inside (names_in_iteration i)
inside-iteration iteration.Forever = inside-none
inside-iteration (iteration.While place condition) = inside-expression condition
inside-iteration (iteration.For place parameter reverse low high) =
    inside-cons (hides parameter) _ tt
    (inside-append _ _ (inside-expression low) (inside-append _ _ (inside-expression high) (inside-one (declares parameter a_loop_parameter) tt)))

pub inside-exit : (e : Exit) → Inside (names_in_exit e)
inside-exit e =
    inside-append _ _ (inside-if_there (λ name. one (mentions_simply name)) (λ name. inside-one (mentions_simply name) tt) e.loop_name)
    (inside-optional e.condition)

pub inside-exceptions : (e : HandledExceptions) → Inside (names_in_exceptions e)
inside-exceptions (exceptions.Named names) = inside-in_all (λ name. one (mentions name)) (λ name. inside-one (mentions name) tt) names
inside-exceptions (exceptions.Others place) = inside-none

pub inside-guard : (g : Guard) → Inside (names_in_guard g)
inside-guard g = inside-expression g.condition

pub inside-trigger : (t : Trigger) → Inside (names_in_trigger t)
inside-trigger (trigger.Call call) = inside-call call
inside-trigger (trigger.Delay delay) = inside-delay delay

pub inside-label : (l : Option Label) → Inside (declares_label l)
inside-label l = inside-if_there (λ (x : Label). one (declares x.name a_label)) (λ x. inside-one (declares x.name a_label) tt) l

-- ---- declarations

pub inside-object : (o : ObjectDeclaration) → Inside (names_in_object o)
inside-object o =
    inside-append _ _ (inside-hides_all o.names)
    (inside-append _ _ (inside-indication o.subtype) (inside-append _ _ (inside-optional o.initial) (inside-declares_all (an_object o) o.names tt)))

pub inside-component : (c : Component) → Inside (names_in_component c)
inside-component c =
    inside-append _ _ (inside-hides_all c.names)
    (inside-append _ _ (inside-indication c.subtype) (inside-append _ _ (inside-optional c.initial) (inside-declares_all (a_component c) c.names tt)))

pub inside-definition : (name : Identifier) (d : TypeDefinition) → Inside (names_in_definition name d)
inside-definition name (definition.Enumeration literals) =
    inside-cons (declares name (an_enumeration literals)) _ tt (inside-declares_all a_literal literals tt)
inside-definition name (definition.Array low high component) =
    inside-cons (hides name) _ tt
    (inside-append _ _ (inside-expression low)
    (inside-append _ _ (inside-expression high)
    (inside-append _ _ (inside-indication component) (inside-one (declares name (an_array low high component)) tt))))
inside-definition name (definition.Derived parent components) =
    inside-cons (hides name) _ tt (inside-cons (mentions parent) _ tt
    (inside-declared_region (declares name (a_derived_type parent)) (a_record name) _ refl tt (λ before. tt) (λ before. refl)
    (inside-if_there (in_all names_in_component) (inside-in_all names_in_component inside-component) components)))

pub inside-subtype : (s : SubtypeDeclaration) → Inside (names_in_subtype s)
inside-subtype s = inside-cons (hides s.name) _ tt (inside-append _ _ (inside-indication s.subtype) (inside-one (declares s.name (a_subtype s.subtype)) tt))

pub inside-aspects : (aspects : List Aspect) → Inside (names_in_aspects aspects)
inside-aspects aspects = inside-flat names_in_aspect (λ a. inside-optional a.value) aspects

pub inside-profile : (with_cells : Bool) (s : SubprogramSpecification) → Inside (names_in_profile with_cells s)
inside-profile with_cells s =
    inside-append _ _ (inside-parameters with_cells s.parameters)
    (inside-append _ _ (inside-if_there names_in_indication inside-indication s.result) (inside-aspects s.aspects))

pub inside-specification : (s : SubprogramSpecification) → Inside (names_in_specification s)
inside-specification s =
    inside-cons (hides s.name) _ tt
    (inside-append _ _ (inside-region a_profile _ tt (inside-profile false s)) (inside-one (declares s.name (a_subprogram s)) tt))

pub inside-entry : (e : EntryDeclaration) → Inside (names_in_entry e)
inside-entry e =
    inside-cons (hides e.name) _ tt
    (inside-append _ _ (inside-region a_profile _ tt (inside-parameters false e.parameters)) (inside-one (declares e.name (an_entry e.parameters)) tt))

inside-task_definition : (d : TaskDefinition) → Inside (names_in_task_definition d)
inside-task_definition d = inside-flat names_in_entry inside-entry d.entries

pub inside-task : (t : TaskDeclaration) → Inside (names_in_task t)
inside-task t =
    inside-cons (hides t.name) _ tt (inside-append _ _ (inside-aspects t.aspects)
    (inside-declared_region (declares t.name (a_task t.is_type t.aspects)) (a_unit t.name) _ refl tt (λ before. tt) (λ before. refl)
    (inside-if_there names_in_task_definition inside-task_definition t.definition)))

inside-operation : (o : ProtectedOperation) → Inside (names_in_operation o)
inside-operation (operation.Subprogram specification) = inside-specification specification
inside-operation (operation.Entry entry) = inside-entry entry

inside-private : (cs : List Component) → Inside (names_in_private cs)
inside-private cs = inside-cons private_from_here _ tt (inside-flat names_in_component inside-component cs)

pub inside-protected : (p : ProtectedDeclaration) → Inside (names_in_protected p)
inside-protected p =
    inside-cons (hides p.name) _ tt (inside-append _ _ (inside-aspects p.aspects)
    (inside-declared_region (declares p.name (a_protected p.is_type p.aspects)) (a_unit p.name) _ refl tt (λ before. tt) (λ before. refl)
    (inside-append _ _ (inside-flat names_in_operation inside-operation p.operations) (inside-if_there names_in_private inside-private p.components))))
