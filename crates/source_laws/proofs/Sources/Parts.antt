-- At no place stand more names of declarations without bodies, and of the parts of statements, than identifiers of their spelling.
use Rattle.std.proofs.Common.{◌≡◌, Bool, false, List, [], ◌∷◌, ◌++◌, Option, Some, None, refl}
use Rattle.std.specs.Prelude.{codes}
use Rattle.std.specs.List.{flat_map}
use Rattle.ada_tree.specs.declared.names.Identifier.{Identifier}
use Rattle.ada_tree.specs.declared.names.OneOrMore.{OneOrMore}
use Rattle.ada_tree.specs.declared.names.Name.{Name}
use Rattle.ada_tree.specs.declared.expressions.Argument.{Argument}
use Rattle.ada_tree.specs.declared.expressions.Expression.{Expression}
use Rattle.ada_tree.specs.declared.declarations.Parameter.{Parameter}
use Rattle.ada_tree.specs.declared.declarations.SubtypeIndication.{SubtypeIndication}
use Rattle.ada_tree.specs.declared.declarations.Constraint.{Constraint}
use Rattle.ada_tree.specs.declared.declarations.Constraint.TheVariants as constraint
use Rattle.ada_tree.specs.declared.declarations.ObjectDeclaration.{ObjectDeclaration}
use Rattle.ada_tree.specs.declared.declarations.Component.{Component}
use Rattle.ada_tree.specs.declared.declarations.TypeDefinition.{TypeDefinition}
use Rattle.ada_tree.specs.declared.declarations.TypeDefinition.TheVariants as definition
use Rattle.ada_tree.specs.declared.declarations.SubtypeDeclaration.{SubtypeDeclaration}
use Rattle.ada_tree.specs.declared.declarations.Aspect.{Aspect}
use Rattle.ada_tree.specs.declared.declarations.SubprogramSpecification.{SubprogramSpecification}
use Rattle.ada_tree.specs.declared.declarations.EntryDeclaration.{EntryDeclaration}
use Rattle.ada_tree.specs.declared.declarations.TaskDeclaration.{TaskDeclaration}
use Rattle.ada_tree.specs.declared.declarations.TaskDefinition.{TaskDefinition}
use Rattle.ada_tree.specs.declared.declarations.ProtectedDeclaration.{ProtectedDeclaration}
use Rattle.ada_tree.specs.declared.declarations.ProtectedOperation.{ProtectedOperation}
use Rattle.ada_tree.specs.declared.declarations.ProtectedOperation.TheVariants as operation
use Rattle.ada_tree.specs.Written.{Written, word, delimiter, identifier_written, optional, flag, end_name_written}
use Rattle.ada_tree.specs.SpellingExpressions.{formal_written, argument_written, arguments_written, expression_written}
use Rattle.ada_tree.specs.SpellingStatements.{constraint_written, indication_written, parameter_written, parameters_written, semicolon}
use Rattle.ada_tree.specs.SpellingDeclarations.{becomes_written, object_written, component_written, extension_written, definition_written}
use Rattle.ada_tree.specs.SpellingDeclarations.{subtype_written, aspect_value_written, aspect_written, aspects_written, overriding_written}
use Rattle.ada_tree.specs.SpellingDeclarations.{result_written, specification_written, entry_written, task_definition_written, type_flag}
use Rattle.ada_tree.specs.SpellingDeclarations.{task_written, operation_written, private_written, protected_written}
use Rattle.ada_regions.specs.Occurrences.{Occurrence, Occurrences, an_object, a_component, a_parameter, an_enumeration, a_literal, an_array}
use Rattle.ada_regions.specs.Occurrences.{a_derived_type, a_subtype, a_subprogram, an_entry, a_task, a_protected, a_profile, a_unit, a_record}
use Rattle.ada_regions.specs.Occurrences.{private_from_here, hides, declares, mentions, in_all, if_there, one, within_region, declares_all}
use Rattle.ada_regions.specs.NamesInExpressions.{names_in_argument, names_in_arguments, names_in_expression}
use Rattle.ada_regions.specs.NamesInStatements.{names_in_constraint, names_in_indication, names_in_parameter, names_in_parameters}
use Rattle.ada_regions.specs.NamesInDeclarations.{names_in_object, names_in_component, names_in_definition, names_in_subtype, names_in_aspect}
use Rattle.ada_regions.specs.NamesInDeclarations.{names_in_aspects, names_in_profile, names_in_specification, names_in_entry}
use Rattle.ada_regions.specs.NamesInDeclarations.{names_in_task_definition, names_in_task, names_in_operation, names_in_private, names_in_protected}
use Rattle.source_laws.specs.Places.{places_in}
use Rattle.source_laws.proofs.Sources.Counting.{Covers, covers-none, covers-then, covers-skip, covers-past, covers-front, covers-quiet}
use Rattle.source_laws.proofs.Sources.Counting.{covers-name, covers-label, covers-mentions, covers-swap, covers-last, covers-last_of_four}
use Rattle.source_laws.proofs.Sources.Counting.{covers-middle, covers-turn, covers-beside, covers-region, covers-flat, covers-all_of}
use Rattle.source_laws.proofs.Sources.Counting.{covers-optional, covers-enclosed, covers-hides, covers-declares}
use Rattle.source_laws.proofs.Sources.Expressions.{covers-expression}

-- ---- arguments, subtypes, parameters

pub covers-argument : (a : Argument Expression) → Covers [] (names_in_argument names_in_expression a) (argument_written expression_written a)
covers-argument a = covers-past (optional formal_written a.formal) (covers-expression a.value)

pub covers-arguments : (arguments : List (Argument Expression))
    → Covers [] (names_in_arguments names_in_expression arguments) (arguments_written expression_written arguments)
covers-arguments arguments =
    covers-enclosed (delimiter (codes "(")) (delimiter (codes ",")) (delimiter (codes ")") ∷ []) (names_in_argument names_in_expression)
    (argument_written expression_written) covers-argument arguments

covers-constraint : (c : Constraint) → Covers [] (names_in_constraint c) (constraint_written c)
covers-constraint (constraint.Access name) = covers-skip _ (covers-mentions name (mentions name) refl (covers-none _))
covers-constraint (constraint.Range low high) = covers-skip _ (covers-then (covers-expression low) (covers-skip _ (covers-expression high)))

pub covers-indication : (m : SubtypeIndication) → Covers [] (names_in_indication m) (indication_written m)
covers-indication m = covers-mentions m.name (mentions m.name) refl (covers-optional names_in_constraint constraint_written covers-constraint m.constraint)

covers-parameter : (with_cells : Bool) (p : Parameter) → Covers [] (names_in_parameter with_cells p) (parameter_written p)
covers-parameter with_cells p =
    covers-hides p.names (covers-swap (names_in_indication p.subtype) (declares_all (a_parameter with_cells p) p.names)
    (covers-then (covers-declares (a_parameter with_cells p) p.names)
    (covers-skip _
    (covers-past (flag p.is_in (word (codes "in") ∷ [])) (covers-past (flag p.is_out (word (codes "out") ∷ [])) (covers-indication p.subtype))))))

pub covers-parameters : (with_cells : Bool) (parameters : List Parameter)
    → Covers [] (names_in_parameters with_cells parameters) (parameters_written parameters)
covers-parameters with_cells parameters =
    covers-enclosed (delimiter (codes "(")) (delimiter (codes ";")) (delimiter (codes ")") ∷ []) (names_in_parameter with_cells) parameter_written
    (covers-parameter with_cells) parameters

-- ---- objects and types

covers-initial : (x : Option Expression) → Covers [] (if_there names_in_expression x) (optional becomes_written x)
covers-initial x = covers-optional names_in_expression becomes_written (λ e. covers-skip _ (covers-expression e)) x

pub covers-object : (o : ObjectDeclaration) → Covers [] (names_in_object o) (object_written o)
covers-object o =
    covers-hides o.names (covers-last (names_in_indication o.subtype) (if_there names_in_expression o.initial) (declares_all (an_object o) o.names)
    (covers-beside (covers-turn (covers-declares (an_object o) o.names))
    (covers-skip _ (covers-past (flag o.aliased (word (codes "aliased") ∷ [])) (covers-past (flag o.constant (word (codes "constant") ∷ []))
    (covers-then (covers-indication o.subtype) (covers-front semicolon (covers-initial o.initial))))))))

pub covers-component : (c : Component) → Covers [] (names_in_component c) (component_written c)
covers-component c =
    covers-hides c.names (covers-last (names_in_indication c.subtype) (if_there names_in_expression c.initial) (declares_all (a_component c) c.names)
    (covers-beside (covers-turn (covers-declares (a_component c) c.names))
    (covers-skip _ (covers-then (covers-indication c.subtype) (covers-front semicolon (covers-initial c.initial))))))

covers-extension : (components : Option (OneOrMore Component)) → Covers [] (if_there (in_all names_in_component) components) (extension_written components)
covers-extension None = covers-none _
covers-extension (Some components) =
    covers-skip _
    (covers-front (word (codes "end") ∷ word (codes "record") ∷ []) (covers-all_of names_in_component component_written covers-component components))

covers-exchanged : {l a : Occurrences} {ws : List Written} (o p : Occurrence) → Covers l (p ∷ o ∷ a) ws → Covers l (o ∷ p ∷ a) ws
covers-exchanged {l} {a} o p x = covers-middle (one o) p a x

covers-derived : (name : Identifier) (parent : Name) (components : Option (OneOrMore Component))
    → Covers [] (names_in_definition name (definition.Derived parent components))
    (identifier_written name ∷ word (codes "is") ∷ definition_written (definition.Derived parent components))
covers-derived name parent components =
    covers-quiet (hides name) refl (covers-exchanged (mentions parent) (declares name (a_derived_type parent))
    (covers-name name (declares name (a_derived_type parent)) refl (covers-skip _ (covers-skip _ (covers-mentions parent (mentions parent) refl
    (covers-skip _ (covers-region (a_record name) refl (covers-extension components))))))))

-- behind the name that is declared
covers-defined : (name : Identifier) (d : TypeDefinition)
    → Covers [] (names_in_definition name d) (identifier_written name ∷ word (codes "is") ∷ definition_written d)
covers-defined name (definition.Enumeration literals) =
    covers-name name (declares name (an_enumeration literals)) refl
    (covers-skip _ (covers-skip _ (covers-front (delimiter (codes ")") ∷ []) (covers-declares a_literal literals))))
covers-defined name (definition.Array low high component) =
    covers-quiet (hides name) refl
    (covers-last_of_four (names_in_expression low) (names_in_expression high) (names_in_indication component)
    (one (declares name (an_array low high component)))
    (covers-label name (declares name (an_array low high component)) refl (covers-skip _ (covers-skip _ (covers-skip _
    (covers-then (covers-expression low)
    (covers-skip _ (covers-then (covers-expression high) (covers-skip _ (covers-skip _ (covers-indication component)))))))))))
covers-defined name (definition.Derived parent components) = covers-derived name parent components

pub covers-definition : (name : Identifier) (d : TypeDefinition)
    → Covers [] (names_in_definition name d) (identifier_written name ∷ word (codes "is") ∷ (definition_written d ++ semicolon))
covers-definition name d = covers-front semicolon (covers-defined name d)

pub covers-subtype : (s : SubtypeDeclaration) → Covers [] (names_in_subtype s) (subtype_written s)
covers-subtype s =
    covers-quiet (hides s.name) refl (covers-swap (names_in_indication s.subtype) (one (declares s.name (a_subtype s.subtype)))
    (covers-skip _ (covers-name s.name (declares s.name (a_subtype s.subtype)) refl (covers-skip _ (covers-front semicolon (covers-indication s.subtype))))))

-- ---- specifications

covers-aspect : (a : Aspect) → Covers [] (names_in_aspect a) (aspect_written a)
covers-aspect a = covers-skip _ (covers-optional names_in_expression aspect_value_written (λ e. covers-skip _ (covers-expression e)) a.value)

pub covers-aspects : (aspects : List Aspect) → Covers [] (names_in_aspects aspects) (aspects_written aspects)
covers-aspects aspects = covers-enclosed (word (codes "with")) (delimiter (codes ",")) [] names_in_aspect aspect_written covers-aspect aspects

-- with an occurrence of the name that is specified
pub covers-specified : (with_cells : Bool) (s : SubprogramSpecification) (o : Occurrence) → places_in o ≡ s.name.place ∷ []
    → Covers [] (o ∷ names_in_profile with_cells s) (specification_written s)
covers-specified with_cells s o e =
    covers-past (optional overriding_written s.overriding) (covers-skip _ (covers-name s.name o e
    (covers-then (covers-parameters with_cells s.parameters)
    (covers-then (covers-optional names_in_indication result_written (λ r. covers-skip _ (covers-indication r)) s.result) (covers-aspects s.aspects)))))

pub covers-specification : (s : SubprogramSpecification) → Covers [] (names_in_specification s) (specification_written s)
covers-specification s =
    covers-quiet (hides s.name) refl (covers-swap (within_region a_profile (names_in_profile false s)) (one (declares s.name (a_subprogram s)))
    (covers-past (optional overriding_written s.overriding)
    (covers-skip _ (covers-name s.name (declares s.name (a_subprogram s)) refl (covers-region a_profile refl
    (covers-then (covers-parameters false s.parameters)
    (covers-then (covers-optional names_in_indication result_written (λ r. covers-skip _ (covers-indication r)) s.result) (covers-aspects s.aspects))))))))

pub covers-entry : (e : EntryDeclaration) → Covers [] (names_in_entry e) (entry_written e)
covers-entry e =
    covers-quiet (hides e.name) refl
    (covers-swap (within_region a_profile (names_in_parameters false e.parameters)) (one (declares e.name (an_entry e.parameters)))
    (covers-skip _
    (covers-name e.name (declares e.name (an_entry e.parameters)) refl
    (covers-region a_profile refl (covers-front semicolon (covers-parameters false e.parameters))))))

-- ---- task and protected declarations

covers-task_definition : (name : Identifier) (d : TaskDefinition) → Covers [] (names_in_task_definition d) (task_definition_written name d)
covers-task_definition name d =
    covers-skip _ (covers-front (word (codes "end") ∷ end_name_written d.named_at_end name) (covers-flat names_in_entry entry_written covers-entry d.entries))

pub covers-task : (t : TaskDeclaration) → Covers [] (names_in_task t) (task_written t)
covers-task t =
    covers-quiet (hides t.name) refl
    (covers-middle (names_in_aspects t.aspects) (declares t.name (a_task t.is_type t.aspects))
    (within_region (a_unit t.name) (if_there names_in_task_definition t.definition))
    (covers-skip _
    (covers-past (type_flag t.is_type) (covers-name t.name (declares t.name (a_task t.is_type t.aspects)) refl (covers-then (covers-aspects t.aspects)
    (covers-region (a_unit t.name) refl
    (covers-front semicolon (covers-optional names_in_task_definition (task_definition_written t.name) (covers-task_definition t.name) t.definition))))))))

covers-operation : (o : ProtectedOperation) → Covers [] (names_in_operation o) (operation_written o)
covers-operation (operation.Subprogram specification) = covers-front semicolon (covers-specification specification)
covers-operation (operation.Entry entry) = covers-entry entry

covers-private : (components : List Component) → Covers [] (names_in_private components) (private_written components)
covers-private components = covers-quiet private_from_here refl (covers-skip _ (covers-flat names_in_component component_written covers-component components))

pub covers-protected : (p : ProtectedDeclaration) → Covers [] (names_in_protected p) (protected_written p)
covers-protected p =
    covers-quiet (hides p.name) refl
    (covers-middle (names_in_aspects p.aspects) (declares p.name (a_protected p.is_type p.aspects))
    (within_region (a_unit p.name) (flat_map names_in_operation p.operations ++ if_there names_in_private p.components))
    (covers-skip _
    (covers-past (type_flag p.is_type) (covers-name p.name (declares p.name (a_protected p.is_type p.aspects)) refl (covers-then (covers-aspects p.aspects)
    (covers-region (a_unit p.name) refl (covers-skip _ (covers-then (covers-flat names_in_operation operation_written covers-operation p.operations)
    (covers-front (word (codes "end") ∷ (end_name_written p.named_at_end p.name ++ semicolon))
    (covers-optional names_in_private private_written covers-private p.components))))))))))
