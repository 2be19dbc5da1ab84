-- Declarations without bodies: what is read hangs on no later token.
use Rattle.std.proofs.Common.{ℕ, List}
use Rattle.std.specs.Prelude.{Option}
use Rattle.ann_base.specs.declared.places.Place.{Place}
use Rattle.ada_tree.specs.declared.names.Identifier.{Identifier}
use Rattle.ada_tree.specs.declared.names.OneOrMore.{OneOrMore}
use Rattle.ada_grammar.specs.Reading.{below}
use Rattle.ada_grammar.specs.ReadingDeclarations.{initial_of, object_of, exception_of, named_declaration_of, component_of, enumeration_of, array_of}
use Rattle.ada_grammar.specs.ReadingDeclarations.{null_record_of, components_record_of, extension_of, derived_of, definition_of, type_of, subtype_of}
use Rattle.ada_grammar.specs.ReadingDeclarations.{use_of, aspect_value_of, aspect_of, given_aspects_of, aspects_of, overriding_of, procedure_of}
use Rattle.ada_grammar.specs.ReadingDeclarations.{function_of, specification_of, begins_specification, entry_of, task_definition_of, task_of}
use Rattle.ada_grammar.specs.ReadingDeclarations.{specified_operation_of, operation_of, begins_operation, private_of, protected_of, entry_head_of}
use Rattle.grammar_laws.proofs.Faults.Local.{Local, Eats, Head, local_pure, local_then, local_choose, head_starts, head_or, local_word, local_delimiter}
use Rattle.grammar_laws.proofs.Faults.Local.{local_identifier, eats_first, eats_behind, eats_choose, eats_word, local_flag, local_end_name, local_opening}
use Rattle.grammar_laws.proofs.Faults.Local.{local_items, local_behind_delimiter, eats_behind_delimiter, local_identifiers, eats_identifiers, local_name}
use Rattle.grammar_laws.proofs.Faults.Expressions.{local_expression}
use Rattle.grammar_laws.proofs.Faults.Simple.{local_bounds, local_subtype_indication, local_parameters}

pub local_initial : (left : ℕ) → Local (initial_of left)
unfolding initial_of
local_initial left =
    local_choose (head_starts _) (local_then (local_delimiter _) (λ _. local_then (local_expression left) (λ value. local_pure _))) (local_pure _)

pub local_object : {Q : Type 0} (left : ℕ) (names : OneOrMore Identifier) → Local (object_of {Q = Q} left names)
unfolding object_of
local_object left names =
    local_then (local_flag _)
    (λ aliased. local_then (local_flag _)
    (λ constant.
    local_then (local_subtype_indication left) (λ subtype. local_then (local_initial left) (λ initial. local_then (local_delimiter _) (λ _. local_pure _)))))

pub local_exception : {Q : Type 0} (names : OneOrMore Identifier) → Local (exception_of {Q = Q} names)
unfolding exception_of
local_exception names = local_then (local_word _) (λ _. local_then (local_delimiter _) (λ _. local_pure _))

pub local_named_declaration : {Q : Type 0} (left : ℕ) → Local (named_declaration_of {Q = Q} left)
unfolding named_declaration_of
local_named_declaration left =
    local_then local_identifiers (λ names. local_then (local_delimiter _) (λ _. local_choose (head_starts _) (local_exception names) (local_object left names)))

pub eats_named_declaration : {Q : Type 0} (left : ℕ) → Eats (named_declaration_of {Q = Q} left)
unfolding named_declaration_of
eats_named_declaration left =
    eats_first eats_identifiers (λ names. local_then (local_delimiter _) (λ _. local_choose (head_starts _) (local_exception names) (local_object left names)))

pub local_component : (left : ℕ) → Local (component_of left)
unfolding component_of
local_component left =
    local_then local_identifiers
    (λ names. local_then (local_delimiter _)
    (λ _.
    local_then (local_subtype_indication left) (λ subtype. local_then (local_initial left) (λ initial. local_then (local_delimiter _) (λ _. local_pure _)))))

pub eats_component : (left : ℕ) → Eats (component_of left)
unfolding component_of
eats_component left =
    eats_first eats_identifiers
    (λ names. local_then (local_delimiter _)
    (λ _.
    local_then (local_subtype_indication left) (λ subtype. local_then (local_initial left) (λ initial. local_then (local_delimiter _) (λ _. local_pure _)))))

pub local_enumeration : (left : ℕ) → Local (enumeration_of left)
unfolding enumeration_of
local_enumeration left = local_then (local_opening left) (λ _. local_then local_identifiers (λ literals. local_then (local_delimiter _) (λ _. local_pure _)))

pub local_array : (left : ℕ) → Local (array_of left)
unfolding array_of
local_array left =
    local_then (local_word _)
    (λ _. local_then (local_opening left)
    (λ _. local_then (local_bounds (below left))
    (λ bounds. local_then (local_delimiter _) (λ _. local_then (local_word _) (λ _. local_then (local_subtype_indication left) (λ component. local_pure _))))))

pub local_null_record : Local null_record_of
unfolding null_record_of
local_null_record = local_then (local_word _) (λ _. local_then (local_word _) (λ _. local_pure _))

pub local_components_record : (left : ℕ) → Local (components_record_of left)
unfolding components_record_of
local_components_record left =
    local_then (local_word _)
    (λ _. local_then (local_component left)
    (λ first. local_then (local_items (head_starts _) (local_component left) (eats_component left))
    (λ others. local_then (local_word _) (λ _. local_then (local_word _) (λ _. local_pure _)))))

pub local_extension : (left : ℕ) → Local (extension_of left)
unfolding extension_of
local_extension left = local_choose (head_starts _) local_null_record (local_components_record left)

pub local_derived : (left : ℕ) → Local (derived_of left)
unfolding derived_of
local_derived left =
    local_then (local_word _)
    (λ _. local_then local_name (λ parent. local_then (local_word _) (λ _. local_then (local_extension left) (λ components. local_pure _))))

pub local_definition : (left : ℕ) → Local (definition_of left)
unfolding definition_of
local_definition left = local_choose (head_starts _) (local_enumeration left) (local_choose (head_starts _) (local_array left) (local_derived left))

pub local_type : {Q : Type 0} (left : ℕ) → Local (type_of {Q = Q} left)
unfolding type_of
local_type left =
    local_then (local_word _)
    (λ place. local_then local_identifier
    (λ name. local_then (local_word _) (λ _. local_then (local_definition left) (λ definition. local_then (local_delimiter _) (λ _. local_pure _)))))

pub eats_type : {Q : Type 0} (left : ℕ) → Eats (type_of {Q = Q} left)
unfolding type_of
eats_type left =
    eats_first (eats_word _)
    (λ place. local_then local_identifier
    (λ name. local_then (local_word _) (λ _. local_then (local_definition left) (λ definition. local_then (local_delimiter _) (λ _. local_pure _)))))

pub local_subtype : {Q : Type 0} (left : ℕ) → Local (subtype_of {Q = Q} left)
unfolding subtype_of
local_subtype left =
    local_then (local_word _)
    (λ place. local_then local_identifier
    (λ name. local_then (local_word _) (λ _. local_then (local_subtype_indication left) (λ subtype. local_then (local_delimiter _) (λ _. local_pure _)))))

pub eats_subtype : {Q : Type 0} (left : ℕ) → Eats (subtype_of {Q = Q} left)
unfolding subtype_of
eats_subtype left =
    eats_first (eats_word _)
    (λ place. local_then local_identifier
    (λ name. local_then (local_word _) (λ _. local_then (local_subtype_indication left) (λ subtype. local_then (local_delimiter _) (λ _. local_pure _)))))

pub local_use : {Q : Type 0} → Local (use_of {Q = Q})
unfolding use_of
local_use = local_then (local_word _) (λ place. local_then local_name (λ name. local_then (local_delimiter _) (λ _. local_pure _)))

pub eats_use : {Q : Type 0} → Eats (use_of {Q = Q})
unfolding use_of
eats_use = eats_first (eats_word _) (λ place. local_then local_name (λ name. local_then (local_delimiter _) (λ _. local_pure _)))

pub local_aspect_value : (left : ℕ) → Local (aspect_value_of left)
unfolding aspect_value_of
local_aspect_value left =
    local_choose (head_starts _) (local_then (local_delimiter _) (λ _. local_then (local_expression left) (λ value. local_pure _))) (local_pure _)

pub local_aspect : (left : ℕ) → Local (aspect_of left)
unfolding aspect_of
local_aspect left = local_then local_identifier (λ name. local_then (local_aspect_value left) (λ value. local_pure _))

pub local_given_aspects : (left : ℕ) → Local (given_aspects_of left)
unfolding given_aspects_of
local_given_aspects left =
    local_then (local_word _)
    (λ _. local_then (local_aspect left)
    (λ first. local_then (local_items (head_starts _) (local_behind_delimiter _ (local_aspect left)) (eats_behind_delimiter _ (local_aspect left)))
    (λ others. local_pure _)))

pub local_aspects : (left : ℕ) → Local (aspects_of left)
unfolding aspects_of
local_aspects left = local_choose (head_starts _) (local_given_aspects left) (local_pure _)

pub local_overriding : Local overriding_of
unfolding overriding_of
local_overriding = local_choose (head_starts _) (local_then (local_word _) (λ place. local_pure _)) (local_pure _)

pub local_procedure : (left : ℕ) (overriding : Option Place) → Local (procedure_of left overriding)
unfolding procedure_of
local_procedure left overriding =
    local_then (local_word _)
    (λ place.
    local_then local_identifier (λ name. local_then (local_parameters left) (λ parameters. local_then (local_aspects left) (λ aspects. local_pure _))))

pub eats_procedure : (left : ℕ) (overriding : Option Place) → Eats (procedure_of left overriding)
unfolding procedure_of
eats_procedure left overriding =
    eats_first (eats_word _)
    (λ place.
    local_then local_identifier (λ name. local_then (local_parameters left) (λ parameters. local_then (local_aspects left) (λ aspects. local_pure _))))

pub local_function : (left : ℕ) (overriding : Option Place) → Local (function_of left overriding)
unfolding function_of
local_function left overriding =
    local_then (local_word _)
    (λ place. local_then local_identifier
    (λ name. local_then (local_parameters left)
    (λ parameters.
    local_then (local_word _) (λ _. local_then (local_subtype_indication left) (λ result. local_then (local_aspects left) (λ aspects. local_pure _))))))

pub eats_function : (left : ℕ) (overriding : Option Place) → Eats (function_of left overriding)
unfolding function_of
eats_function left overriding =
    eats_first (eats_word _)
    (λ place. local_then local_identifier
    (λ name. local_then (local_parameters left)
    (λ parameters.
    local_then (local_word _) (λ _. local_then (local_subtype_indication left) (λ result. local_then (local_aspects left) (λ aspects. local_pure _))))))

pub local_specification : (left : ℕ) → Local (specification_of left)
unfolding specification_of
local_specification left =
    local_then local_overriding (λ overriding. local_choose (head_starts _) (local_function left overriding) (local_procedure left overriding))

pub eats_specification : (left : ℕ) → Eats (specification_of left)
unfolding specification_of
eats_specification left = eats_behind local_overriding (λ overriding. eats_choose _ (eats_function left overriding) (eats_procedure left overriding))

pub head_begins_specification : Head begins_specification
head_begins_specification = head_or (head_starts _) (head_or (head_starts _) (head_starts _))

pub local_entry : (left : ℕ) → Local (entry_of left)
unfolding entry_of
local_entry left =
    local_then (local_word _)
    (λ place. local_then local_identifier (λ name. local_then (local_parameters left) (λ parameters. local_then (local_delimiter _) (λ _. local_pure _))))

pub eats_entry : (left : ℕ) → Eats (entry_of left)
unfolding entry_of
eats_entry left =
    eats_first (eats_word _)
    (λ place. local_then local_identifier (λ name. local_then (local_parameters left) (λ parameters. local_then (local_delimiter _) (λ _. local_pure _))))

pub local_task_definition : (left : ℕ) (name : List ℕ) → Local (task_definition_of left name)
unfolding task_definition_of
local_task_definition left name =
    local_choose (head_starts _)
    (local_then (local_word _)
    (λ _. local_then (local_items (head_starts _) (local_entry left) (eats_entry left))
    (λ entries. local_then (local_word _) (λ _. local_then (local_end_name _) (λ named. local_pure _)))))
    (local_pure _)

pub local_task : {Q : Type 0} (left : ℕ) (place : Place) → Local (task_of {Q = Q} left place)
unfolding task_of
local_task left place =
    local_then (local_flag _)
    (λ is_type. local_then local_identifier
    (λ name. local_then (local_aspects left)
    (λ aspects. local_then (local_task_definition left name.text) (λ definition. local_then (local_delimiter _) (λ _. local_pure _)))))

pub local_specified_operation : (left : ℕ) → Local (specified_operation_of left)
unfolding specified_operation_of
local_specified_operation left = local_then (local_specification left) (λ specification. local_then (local_delimiter _) (λ _. local_pure _))

pub eats_specified_operation : (left : ℕ) → Eats (specified_operation_of left)
unfolding specified_operation_of
eats_specified_operation left = eats_first (eats_specification left) (λ specification. local_then (local_delimiter _) (λ _. local_pure _))

pub local_operation : (left : ℕ) → Local (operation_of left)
unfolding operation_of
local_operation left = local_choose (head_starts _) (local_then (local_entry left) (λ entry. local_pure _)) (local_specified_operation left)

pub eats_operation : (left : ℕ) → Eats (operation_of left)
unfolding operation_of
eats_operation left = eats_choose _ (eats_first (eats_entry left) (λ entry. local_pure _)) (eats_specified_operation left)

pub head_begins_operation : Head begins_operation
head_begins_operation = head_or (head_starts _) head_begins_specification

pub local_private : (left : ℕ) → Local (private_of left)
unfolding private_of
local_private left =
    local_choose (head_starts _)
    (local_then (local_word _) (λ _. local_then (local_items (head_starts _) (local_component left) (eats_component left)) (λ components. local_pure _)))
    (local_pure _)

pub local_protected : {Q : Type 0} (left : ℕ) (place : Place) → Local (protected_of {Q = Q} left place)
unfolding protected_of
local_protected left place =
    local_then (local_flag _)
    (λ is_type. local_then local_identifier
    (λ name. local_then (local_aspects left)
    (λ aspects. local_then (local_word _)
    (λ _. local_then (local_items head_begins_operation (local_operation left) (eats_operation left))
    (λ named_operations. local_then (local_private left)
    (λ components. local_then (local_word _) (λ _. local_then (local_end_name _) (λ named. local_then (local_delimiter _) (λ _. local_pure _)))))))))

pub local_entry_head : (left : ℕ) → Local (entry_head_of left)
unfolding entry_head_of
local_entry_head left =
    local_then (local_word _)
    (λ place. local_then local_identifier
    (λ name. local_then (local_parameters left) (λ parameters. local_then (local_word _) (λ _. local_then (local_expression left) (λ barrier. local_pure _)))))

pub eats_entry_head : (left : ℕ) → Eats (entry_head_of left)
unfolding entry_head_of
eats_entry_head left =
    eats_first (eats_word _)
    (λ place. local_then local_identifier
    (λ name. local_then (local_parameters left) (λ parameters. local_then (local_word _) (λ _. local_then (local_expression left) (λ barrier. local_pure _)))))
