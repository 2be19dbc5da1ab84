-- Subtype indications, parameters, and statements without others in them: what is read hangs on no later token.
use Rattle.std.proofs.Common.{ℕ, List, [], ◌∷◌}
use Rattle.std.specs.Prelude.{Option, Some, None}
use Rattle.ada_tree.specs.declared.names.Identifier.{Identifier}
use Rattle.ada_tree.specs.declared.names.Name.{Name}
use Rattle.ada_tree.specs.declared.expressions.Expression.{Expression}
use Rattle.ada_tree.specs.declared.expressions.Argument.{Argument}
use Rattle.ada_grammar.specs.Reading.{below}
use Rattle.ada_grammar.specs.ReadingExpressions.{inner_of}
use Rattle.ada_grammar.specs.ReadingSimple.{access_of, bounds_of, range_of, constraint_of, subtype_indication_of, parameter_of}
use Rattle.ada_grammar.specs.ReadingSimple.{given_parameters_of, parameters_of, all_arguments_of, only_index_of, index_of, assignment_behind_of}
use Rattle.ada_grammar.specs.ReadingSimple.{call_behind_of, simple_of, call_of, delay_of, value_choice_of, choice_of, while_of, for_of}
use Rattle.ada_grammar.specs.ReadingSimple.{iteration_of, label_end_of, loop_name_of, when_of, exit_of, null_of, result_value_of, return_of}
use Rattle.ada_grammar.specs.ReadingSimple.{exception_name_of, raise_of, abort_of, with_abort_of, requeue_of, exceptions_of}
use Rattle.grammar_laws.proofs.Faults.Local.{Local, Eats, local_pure, local_nothing, local_then, local_choose, head_starts, local_word, local_delimiter}
use Rattle.grammar_laws.proofs.Faults.Local.{local_identifier, eats_first, eats_word, local_flag, local_end_name, local_opening, local_items}
use Rattle.grammar_laws.proofs.Faults.Local.{local_behind_delimiter, eats_behind_delimiter, local_identifiers, local_name, eats_name, local_names}
use Rattle.grammar_laws.proofs.Faults.Passing.{takes_then, passes_name, Passes}
use Rattle.grammar_laws.proofs.Faults.Expressions.{local_arguments, local_expression, inside_inner}

pub local_access : (left : ℕ) → Local (access_of left)
unfolding access_of
local_access left =
    local_then (local_opening left)
    (λ _.
    local_then local_name (λ name. local_then (local_delimiter _) (λ _. local_then (local_word _) (λ _. local_then (local_delimiter _) (λ _. local_pure _)))))

pub local_bounds : (left : ℕ) → Local (bounds_of left)
unfolding bounds_of
local_bounds left = local_then (local_expression left) (λ low. local_then (local_delimiter _) (λ _. local_then (local_expression left) (λ high. local_pure _)))

pub local_range : (left : ℕ) → Local (range_of left)
unfolding range_of
local_range left = local_then (local_word _) (λ _. local_then (local_bounds left) (λ bounds. local_pure _))

pub local_constraint : (left : ℕ) → Local (constraint_of left)
unfolding constraint_of
local_constraint left = local_choose (head_starts _) (local_access left) (local_choose (head_starts _) (local_range left) (local_pure _))

pub local_subtype_indication : (left : ℕ) → Local (subtype_indication_of left)
unfolding subtype_indication_of
local_subtype_indication left = local_then local_name (λ name. local_then (local_constraint left) (λ constraint. local_pure _))

pub local_parameter : (left : ℕ) → Local (parameter_of left)
unfolding parameter_of
local_parameter left =
    local_then local_identifiers
    (λ names. local_then (local_delimiter _)
    (λ _. local_then (local_flag _) (λ is_in. local_then (local_flag _) (λ is_out. local_then (local_subtype_indication left) (λ subtype. local_pure _)))))

pub local_given_parameters : (left : ℕ) → Local (given_parameters_of left)
unfolding given_parameters_of
local_given_parameters left =
    local_then (local_opening left)
    (λ _. local_then (local_parameter (below left))
    (λ first. local_then
    (local_items (head_starts _) (local_behind_delimiter _ (local_parameter (below left))) (eats_behind_delimiter _ (local_parameter (below left))))
    (λ others. local_then (local_delimiter _) (λ _. local_pure _))))

pub local_parameters : (left : ℕ) → Local (parameters_of left)
unfolding parameters_of
local_parameters left = local_choose (head_starts _) (local_given_parameters left) (local_pure _)

pub local_all_arguments : (left : ℕ) → Local (all_arguments_of left)
local_all_arguments left = local_arguments left (inner_of left) (inside_inner left)

pub local_only_index : (a0 : Option Identifier) (a1 : Expression) → Local (only_index_of a0 a1)
local_only_index None value = local_pure _
local_only_index (Some formal) value = local_nothing

pub local_index : (a0 : List (Argument Expression)) → Local (index_of a0)
local_index [] = local_pure _
local_index (a ∷ []) = local_only_index a.formal a.value
local_index (a ∷ b ∷ more) = local_nothing

pub local_assignment_behind : {Q : Type 0} (left : ℕ) (target : Name) (arguments : List (Argument Expression))
    → Local (assignment_behind_of {Q = Q} left target arguments)
unfolding assignment_behind_of
local_assignment_behind left target arguments =
    local_then (local_index arguments)
    (λ index. local_then (local_delimiter _) (λ _. local_then (local_expression left) (λ value. local_then (local_delimiter _) (λ _. local_pure _))))

pub local_call_behind : {Q : Type 0} (name : Name) (arguments : List (Argument Expression)) → Local (call_behind_of {Q = Q} name arguments)
unfolding call_behind_of
local_call_behind name arguments = local_then (local_delimiter _) (λ _. local_pure _)

pub local_simple : {Q : Type 0} (left : ℕ) → Local (simple_of {Q = Q} left)
unfolding simple_of
local_simple left =
    local_then local_name
    (λ name. local_then (local_all_arguments left)
    (λ arguments. local_choose (head_starts _) (local_assignment_behind left name arguments) (local_call_behind name arguments)))

pub eats_simple : {Q : Type 0} (left : ℕ) → Eats (simple_of {Q = Q} left)
unfolding simple_of
eats_simple left =
    eats_first eats_name
    (λ name. local_then (local_all_arguments left)
    (λ arguments. local_choose (head_starts _) (local_assignment_behind left name arguments) (local_call_behind name arguments)))

pub local_call : (left : ℕ) → Local (call_of left)
unfolding call_of
local_call left = local_then local_name (λ name. local_then (local_all_arguments left) (λ arguments. local_then (local_delimiter _) (λ _. local_pure _)))

pub local_delay : (left : ℕ) → Local (delay_of left)
unfolding delay_of
local_delay left =
    local_then (local_word _)
    (λ place. local_then (local_flag _) (λ until. local_then (local_expression left) (λ value. local_then (local_delimiter _) (λ _. local_pure _))))

pub eats_delay : (left : ℕ) → Eats (delay_of left)
unfolding delay_of
eats_delay left =
    eats_first (eats_word _)
    (λ place. local_then (local_flag _) (λ until. local_then (local_expression left) (λ value. local_then (local_delimiter _) (λ _. local_pure _))))

pub local_value_choice : (left : ℕ) → Local (value_choice_of left)
unfolding value_choice_of
local_value_choice left =
    local_then (local_expression left)
    (λ low. local_choose (head_starts _) (local_then (local_delimiter _) (λ _. local_then (local_expression left) (λ high. local_pure _))) (local_pure _))

pub local_choice : (left : ℕ) → Local (choice_of left)
unfolding choice_of
local_choice left = local_choose (head_starts _) (local_then (local_word _) (λ place. local_pure _)) (local_value_choice left)

pub local_while : (left : ℕ) → Local (while_of left)
unfolding while_of
local_while left = local_then (local_word _) (λ place. local_then (local_expression left) (λ condition. local_pure _))

pub local_for : (left : ℕ) → Local (for_of left)
unfolding for_of
local_for left =
    local_then (local_word _)
    (λ place. local_then local_identifier
    (λ parameter. local_then (local_word _) (λ _. local_then (local_flag _) (λ reverse. local_then (local_bounds left) (λ bounds. local_pure _)))))

pub local_iteration : (left : ℕ) → Local (iteration_of left)
unfolding iteration_of
local_iteration left = local_choose (head_starts _) (local_while left) (local_choose (head_starts _) (local_for left) (local_pure _))

pub local_label_end : (a0 : Option Identifier) → Local (label_end_of a0)
local_label_end None = local_pure _
local_label_end (Some name) = local_then (local_end_name _) (λ named. local_pure _)

pub local_loop_name : Local loop_name_of
unfolding loop_name_of
local_loop_name = local_choose (head_starts _) (local_then local_identifier (λ name. local_pure _)) (local_pure _)

pub local_when : (left : ℕ) → Local (when_of left)
unfolding when_of
local_when left = local_choose (head_starts _) (local_then (local_word _) (λ _. local_then (local_expression left) (λ condition. local_pure _))) (local_pure _)

pub local_exit : {Q : Type 0} (left : ℕ) → Local (exit_of {Q = Q} left)
unfolding exit_of
local_exit left =
    local_then (local_word _)
    (λ place. local_then local_loop_name (λ loop_name. local_then (local_when left) (λ condition. local_then (local_delimiter _) (λ _. local_pure _))))

pub eats_exit : {Q : Type 0} (left : ℕ) → Eats (exit_of {Q = Q} left)
unfolding exit_of
eats_exit left =
    eats_first (eats_word _)
    (λ place. local_then local_loop_name (λ loop_name. local_then (local_when left) (λ condition. local_then (local_delimiter _) (λ _. local_pure _))))

pub local_null : {Q : Type 0} → Local (null_of {Q = Q})
unfolding null_of
local_null = local_then (local_word _) (λ place. local_then (local_delimiter _) (λ _. local_pure _))

pub eats_null : {Q : Type 0} → Eats (null_of {Q = Q})
unfolding null_of
eats_null = eats_first (eats_word _) (λ place. local_then (local_delimiter _) (λ _. local_pure _))

pub local_result_value : (left : ℕ) → Local (result_value_of left)
unfolding result_value_of
local_result_value left = local_choose (head_starts _) (local_pure _) (local_then (local_expression left) (λ value. local_pure _))

pub local_return : {Q : Type 0} (left : ℕ) → Local (return_of {Q = Q} left)
unfolding return_of
local_return left = local_then (local_word _) (λ place. local_then (local_result_value left) (λ value. local_then (local_delimiter _) (λ _. local_pure _)))

pub eats_return : {Q : Type 0} (left : ℕ) → Eats (return_of {Q = Q} left)
unfolding return_of
eats_return left = eats_first (eats_word _) (λ place. local_then (local_result_value left) (λ value. local_then (local_delimiter _) (λ _. local_pure _)))

pub local_exception_name : Local exception_name_of
unfolding exception_name_of
local_exception_name = local_choose (head_starts _) (local_then local_name (λ name. local_pure _)) (local_pure _)

pub local_raise : {Q : Type 0} → Local (raise_of {Q = Q})
unfolding raise_of
local_raise = local_then (local_word _) (λ place. local_then local_exception_name (λ exception. local_then (local_delimiter _) (λ _. local_pure _)))

pub eats_raise : {Q : Type 0} → Eats (raise_of {Q = Q})
unfolding raise_of
eats_raise = eats_first (eats_word _) (λ place. local_then local_exception_name (λ exception. local_then (local_delimiter _) (λ _. local_pure _)))

pub local_abort : {Q : Type 0} → Local (abort_of {Q = Q})
unfolding abort_of
local_abort = local_then (local_word _) (λ place. local_then (local_names _) (λ tasks. local_then (local_delimiter _) (λ _. local_pure _)))

pub eats_abort : {Q : Type 0} → Eats (abort_of {Q = Q})
unfolding abort_of
eats_abort = eats_first (eats_word _) (λ place. local_then (local_names _) (λ tasks. local_then (local_delimiter _) (λ _. local_pure _)))

pub local_with_abort : Local with_abort_of
unfolding with_abort_of
local_with_abort = local_choose (head_starts _) (local_then (local_word _) (λ _. local_then (local_word _) (λ _. local_pure _))) (local_pure _)

pub local_requeue : {Q : Type 0} → Local (requeue_of {Q = Q})
unfolding requeue_of
local_requeue =
    local_then (local_word _)
    (λ place. local_then local_name (λ entry. local_then local_with_abort (λ with_abort. local_then (local_delimiter _) (λ _. local_pure _))))

pub eats_requeue : {Q : Type 0} → Eats (requeue_of {Q = Q})
unfolding requeue_of
eats_requeue =
    eats_first (eats_word _)
    (λ place. local_then local_name (λ entry. local_then local_with_abort (λ with_abort. local_then (local_delimiter _) (λ _. local_pure _))))

pub local_exceptions : Local exceptions_of
unfolding exceptions_of
local_exceptions = local_choose (head_starts _) (local_then (local_word _) (λ place. local_pure _)) (local_then (local_names _) (λ names. local_pure _))

pub passes_simple : {Q : Type 0} (left : ℕ) → Passes (simple_of {Q = Q} left)
unfolding simple_of
passes_simple left =
    (takes_then passes_name
    (λ name. local_then (local_all_arguments left)
    (λ arguments. local_choose (head_starts _) (local_assignment_behind left name arguments) (local_call_behind name arguments))))
