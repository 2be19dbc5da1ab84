-- Statements that hold others: what is read hangs on no later token.
use Rattle.std.proofs.Common.{true, false, ℕ, zero, suc, Bool, List, codes}
use Rattle.std.specs.Prelude.{Option, Some, None}
use Rattle.ann_base.specs.declared.places.Place.{Place}
use Rattle.ada_tree.specs.declared.names.Identifier.{Identifier}
use Rattle.ada_tree.specs.declared.statements.Call.{Call}
use Rattle.ada_tree.specs.declared.statements.Sequence.{Sequence}
use Rattle.ada_tree.specs.declared.statements.SequenceRole.{SequenceRole}
use Rattle.ada_tree.specs.declared.statements.SequenceRole.TheVariants as role
use Rattle.ada_tree.specs.declared.selects.SelectAlternative.{SelectAlternative}
use Rattle.ada_tree.specs.declared.selects.Trigger.{Trigger}
use Rattle.ada_tree.specs.declared.selects.Alternative.TheVariants as alternative
use Rattle.ada_tree.specs.declared.selects.Trigger.TheVariants as trigger
use Rattle.ada_tree.specs.Written.{Lexeme}
use Rattle.ada_grammar.specs.Reading.{Parser, is_this_delimiter}
use Rattle.ada_grammar.specs.ReadingStatements.{begins_loop, begins_block, begins_compound, begins_simple, begins_statement, opened, call_opened_of}
use Rattle.ada_grammar.specs.ReadingStatements.{delay_opened_of, elsif_of, else_of, if_of, case_alternative_of, case_alternatives_of, case_of}
use Rattle.ada_grammar.specs.ReadingStatements.{loop_of, block_end_of, declare_of, begin_of, block_of, labelled_of, accept_body_of, accept_of}
use Rattle.ada_grammar.specs.ReadingStatements.{optional_statements_of, accept_opened_of, accept_alternative_of, delay_alternative_of, terminate_of}
use Rattle.ada_grammar.specs.ReadingStatements.{alternative_of, guard_of, select_alternative_of, next_alternative_of, selective_of, asynchronous_of}
use Rattle.ada_grammar.specs.ReadingStatements.{timed_of, conditional_of, behind_call_of, call_select_of, delay_select_of, select_form_of}
use Rattle.ada_grammar.specs.ReadingStatements.{select_of, compound_of, named_statement_of, simple_statement_of, statement_inside_of}
use Rattle.grammar_laws.proofs.Faults.Local.{Local, Eats, Head, local_pure, local_nothing, local_too_deep, local_then, local_choose}
use Rattle.grammar_laws.proofs.Faults.Local.{head_starts, head_or, local_word, local_delimiter, local_identifier, eats_first, eats_behind}
use Rattle.grammar_laws.proofs.Faults.Local.{eats_choose, eats_word, eats_identifier, local_end_name, local_items, local_separated}
use Rattle.grammar_laws.proofs.Faults.Passing.{takes_then, passes_identifier, local_choose_both, Passes, Each}
use Rattle.grammar_laws.proofs.Faults.Expressions.{local_expression}
use Rattle.grammar_laws.proofs.Faults.Simple.{local_parameters, local_simple, eats_simple, local_call, local_delay, eats_delay, local_choice}
use Rattle.grammar_laws.proofs.Faults.Simple.{local_iteration, local_label_end, local_exit, eats_exit, local_null, eats_null, local_return, eats_return}
use Rattle.grammar_laws.proofs.Faults.Simple.{local_raise, eats_raise, local_abort, eats_abort, local_requeue, eats_requeue, passes_simple}

pub head_begins_loop : Head begins_loop
head_begins_loop = head_or (head_starts _) (head_or (head_starts _) (head_starts _))

pub head_begins_block : Head begins_block
head_begins_block = head_or (head_starts _) (head_starts _)

pub head_begins_compound : Head begins_compound
head_begins_compound =
    head_or (head_starts _) (head_or (head_starts _) (head_or head_begins_loop (head_or head_begins_block (head_or (head_starts _) (head_starts _)))))

pub head_begins_simple : Head begins_simple
head_begins_simple =
    head_or (head_starts _)
    (head_or (head_starts _)
    (head_or (head_starts _) (head_or (head_starts _) (head_or (head_starts _) (head_or (head_starts _) (head_or (head_starts _) (head_starts _)))))))

pub head_begins_statement : Head begins_statement
unfolding begins_statement
head_begins_statement = head_or head_begins_compound head_begins_simple

pub local_opened : {A : Type 0} {begins : List Lexeme → Bool} {p : ℕ → Parser A} → Head begins → ((n : ℕ) → Local (p n)) → (left : ℕ)
    → Local (opened begins p left)
local_opened head local zero = local_choose head local_too_deep local_nothing
local_opened head local (suc left) = local left

pub local_call_opened : (left : ℕ) → Local (call_opened_of left)
unfolding call_opened_of
local_call_opened left = local_opened (head_starts _) (λ n. local_call n) left

pub local_delay_opened : (left : ℕ) → Local (delay_opened_of left)
unfolding delay_opened_of
local_delay_opened left = local_opened (head_starts _) (λ n. local_delay n) left

pub local_elsif : (left : ℕ) (sequence : SequenceRole → Parser Sequence) (is_sequence : Each sequence) → Local (elsif_of left sequence)
unfolding elsif_of
local_elsif left sequence is_sequence =
    local_then (local_word _)
    (λ place.
    local_then (local_expression left) (λ condition. local_then (local_word _) (λ _. local_then (is_sequence role.Statements) (λ inside. local_pure _))))

pub eats_elsif : (left : ℕ) (sequence : SequenceRole → Parser Sequence) (is_sequence : Each sequence) → Eats (elsif_of left sequence)
unfolding elsif_of
eats_elsif left sequence is_sequence =
    eats_first (eats_word _)
    (λ place.
    local_then (local_expression left) (λ condition. local_then (local_word _) (λ _. local_then (is_sequence role.Statements) (λ inside. local_pure _))))

pub local_else : (left : ℕ) (sequence : SequenceRole → Parser Sequence) (is_sequence : Each sequence) → Local (else_of left sequence)
unfolding else_of
local_else left sequence is_sequence =
    local_choose (head_starts _) (local_then (local_word _) (λ _. local_then (is_sequence role.Statements) (λ inside. local_pure _))) (local_pure _)

pub local_if : (left : ℕ) (sequence : SequenceRole → Parser Sequence) (is_sequence : Each sequence) → Local (if_of left sequence)
unfolding if_of
local_if left sequence is_sequence =
    local_then (local_word _)
    (λ place. local_then (local_expression left)
    (λ condition. local_then (local_word _)
    (λ _. local_then (is_sequence role.Statements)
    (λ inside. local_then (local_items (head_starts _) (local_elsif left sequence is_sequence) (eats_elsif left sequence is_sequence))
    (λ elsifs. local_then (local_else left sequence is_sequence)
    (λ otherwise. local_then (local_word _) (λ _. local_then (local_word _) (λ _. local_then (local_delimiter _) (λ _. local_pure _)))))))))

pub eats_if : (left : ℕ) (sequence : SequenceRole → Parser Sequence) (is_sequence : Each sequence) → Eats (if_of left sequence)
unfolding if_of
eats_if left sequence is_sequence =
    eats_first (eats_word _)
    (λ place. local_then (local_expression left)
    (λ condition. local_then (local_word _)
    (λ _. local_then (is_sequence role.Statements)
    (λ inside. local_then (local_items (head_starts _) (local_elsif left sequence is_sequence) (eats_elsif left sequence is_sequence))
    (λ elsifs. local_then (local_else left sequence is_sequence)
    (λ otherwise. local_then (local_word _) (λ _. local_then (local_word _) (λ _. local_then (local_delimiter _) (λ _. local_pure _)))))))))

pub local_case_alternative : (left : ℕ) (sequence : SequenceRole → Parser Sequence) (is_sequence : Each sequence) → Local (case_alternative_of left sequence)
unfolding case_alternative_of
local_case_alternative left sequence is_sequence =
    local_then (local_word _)
    (λ place. local_then (local_separated _ (local_choice left))
    (λ choices. local_then (local_delimiter _) (λ _. local_then (is_sequence role.Statements) (λ inside. local_pure _))))

pub eats_case_alternative : (left : ℕ) (sequence : SequenceRole → Parser Sequence) (is_sequence : Each sequence) → Eats (case_alternative_of left sequence)
unfolding case_alternative_of
eats_case_alternative left sequence is_sequence =
    eats_first (eats_word _)
    (λ place. local_then (local_separated _ (local_choice left))
    (λ choices. local_then (local_delimiter _) (λ _. local_then (is_sequence role.Statements) (λ inside. local_pure _))))

pub local_case_alternatives : (left : ℕ) (sequence : SequenceRole → Parser Sequence) (is_sequence : Each sequence) → Local (case_alternatives_of left sequence)
unfolding case_alternatives_of
local_case_alternatives left sequence is_sequence =
    local_then (local_case_alternative left sequence is_sequence)
    (λ first. local_then (local_items (head_starts _) (local_case_alternative left sequence is_sequence) (eats_case_alternative left sequence is_sequence))
    (λ others. local_pure _))

pub local_case : (left : ℕ) (sequence : SequenceRole → Parser Sequence) (is_sequence : Each sequence) → Local (case_of left sequence)
unfolding case_of
local_case left sequence is_sequence =
    local_then (local_word _)
    (λ place. local_then (local_expression left)
    (λ selector. local_then (local_word _)
    (λ _. local_then (local_case_alternatives left sequence is_sequence)
    (λ alternatives. local_then (local_word _) (λ _. local_then (local_word _) (λ _. local_then (local_delimiter _) (λ _. local_pure _)))))))

pub eats_case : (left : ℕ) (sequence : SequenceRole → Parser Sequence) (is_sequence : Each sequence) → Eats (case_of left sequence)
unfolding case_of
eats_case left sequence is_sequence =
    eats_first (eats_word _)
    (λ place. local_then (local_expression left)
    (λ selector. local_then (local_word _)
    (λ _. local_then (local_case_alternatives left sequence is_sequence)
    (λ alternatives. local_then (local_word _) (λ _. local_then (local_word _) (λ _. local_then (local_delimiter _) (λ _. local_pure _)))))))

pub local_loop : (left : ℕ) (sequence : SequenceRole → Parser Sequence) (is_sequence : Each sequence) (name : Option Identifier)
    → Local (loop_of left sequence name)
unfolding loop_of
local_loop left sequence is_sequence name =
    local_then (local_iteration left)
    (λ iteration. local_then (local_word _)
    (λ place. local_then (is_sequence role.Statements)
    (λ inside. local_then (local_word _)
    (λ _. local_then (local_word _) (λ _. local_then (local_label_end name) (λ label. local_then (local_delimiter _) (λ _. local_pure _)))))))

pub eats_loop : (left : ℕ) (sequence : SequenceRole → Parser Sequence) (is_sequence : Each sequence) (name : Option Identifier)
    → Eats (loop_of left sequence name)
unfolding loop_of
eats_loop left sequence is_sequence name =
    eats_behind (local_iteration left)
    (λ iteration. eats_first (eats_word _)
    (λ place. local_then (is_sequence role.Statements)
    (λ inside. local_then (local_word _)
    (λ _. local_then (local_word _) (λ _. local_then (local_label_end name) (λ label. local_then (local_delimiter _) (λ _. local_pure _)))))))

pub local_block_end : (left : ℕ) (sequence : SequenceRole → Parser Sequence) (is_sequence : Each sequence) (name : Option Identifier) (place : Place)
    (declare : Bool) (inside : Sequence)
    → Local (block_end_of left sequence name place declare inside)
unfolding block_end_of
local_block_end left sequence is_sequence name place declare inside =
    local_then (local_word _) (λ _. local_then (local_label_end name) (λ label. local_then (local_delimiter _) (λ _. local_pure _)))

pub local_declare : (left : ℕ) (sequence : SequenceRole → Parser Sequence) (is_sequence : Each sequence) (name : Option Identifier)
    → Local (declare_of left sequence name)
unfolding declare_of
local_declare left sequence is_sequence name =
    local_then (local_word _) (λ place. local_then (is_sequence role.Body) (λ inside. local_block_end left sequence is_sequence name place true inside))

pub eats_declare : (left : ℕ) (sequence : SequenceRole → Parser Sequence) (is_sequence : Each sequence) (name : Option Identifier)
    → Eats (declare_of left sequence name)
unfolding declare_of
eats_declare left sequence is_sequence name =
    eats_first (eats_word _) (λ place. local_then (is_sequence role.Body) (λ inside. local_block_end left sequence is_sequence name place true inside))

pub local_begin : (left : ℕ) (sequence : SequenceRole → Parser Sequence) (is_sequence : Each sequence) (name : Option Identifier)
    → Local (begin_of left sequence name)
unfolding begin_of
local_begin left sequence is_sequence name =
    local_then (local_word _) (λ place. local_then (is_sequence role.Handled) (λ inside. local_block_end left sequence is_sequence name place false inside))

pub eats_begin : (left : ℕ) (sequence : SequenceRole → Parser Sequence) (is_sequence : Each sequence) (name : Option Identifier)
    → Eats (begin_of left sequence name)
unfolding begin_of
eats_begin left sequence is_sequence name =
    eats_first (eats_word _) (λ place. local_then (is_sequence role.Handled) (λ inside. local_block_end left sequence is_sequence name place false inside))

pub local_block : (left : ℕ) (sequence : SequenceRole → Parser Sequence) (is_sequence : Each sequence) (name : Option Identifier)
    → Local (block_of left sequence name)
unfolding block_of
local_block left sequence is_sequence name =
    local_choose (head_starts _) (local_declare left sequence is_sequence name) (local_begin left sequence is_sequence name)

pub eats_block : (left : ℕ) (sequence : SequenceRole → Parser Sequence) (is_sequence : Each sequence) (name : Option Identifier)
    → Eats (block_of left sequence name)
unfolding block_of
eats_block left sequence is_sequence name = eats_choose _ (eats_declare left sequence is_sequence name) (eats_begin left sequence is_sequence name)

pub local_labelled : (left : ℕ) (sequence : SequenceRole → Parser Sequence) (is_sequence : Each sequence) → Local (labelled_of left sequence)
unfolding labelled_of
local_labelled left sequence is_sequence =
    local_then local_identifier
    (λ name. local_then (local_delimiter _)
    (λ _. local_choose head_begins_block (local_block left sequence is_sequence (Some name)) (local_loop left sequence is_sequence (Some name))))

pub eats_labelled : (left : ℕ) (sequence : SequenceRole → Parser Sequence) (is_sequence : Each sequence) → Eats (labelled_of left sequence)
unfolding labelled_of
eats_labelled left sequence is_sequence =
    eats_first eats_identifier
    (λ name. local_then (local_delimiter _)
    (λ _. local_choose head_begins_block (local_block left sequence is_sequence (Some name)) (local_loop left sequence is_sequence (Some name))))

pub local_accept_body : (left : ℕ) (sequence : SequenceRole → Parser Sequence) (is_sequence : Each sequence) (name : List ℕ)
    → Local (accept_body_of left sequence name)
unfolding accept_body_of
local_accept_body left sequence is_sequence name =
    local_choose (head_starts _)
    (local_then (local_word _)
    (λ _. local_then (is_sequence role.Handled) (λ inside. local_then (local_word _) (λ _. local_then (local_end_name _) (λ named. local_pure _)))))
    (local_pure _)

pub local_accept : (left : ℕ) (sequence : SequenceRole → Parser Sequence) (is_sequence : Each sequence) → Local (accept_of left sequence)
unfolding accept_of
local_accept left sequence is_sequence =
    local_then (local_word _)
    (λ place. local_then local_identifier
    (λ entry. local_then (local_parameters left)
    (λ parameters. local_then (local_accept_body left sequence is_sequence entry.text) (λ body. local_then (local_delimiter _) (λ _. local_pure _)))))

pub eats_accept : (left : ℕ) (sequence : SequenceRole → Parser Sequence) (is_sequence : Each sequence) → Eats (accept_of left sequence)
unfolding accept_of
eats_accept left sequence is_sequence =
    eats_first (eats_word _)
    (λ place. local_then local_identifier
    (λ entry. local_then (local_parameters left)
    (λ parameters. local_then (local_accept_body left sequence is_sequence entry.text) (λ body. local_then (local_delimiter _) (λ _. local_pure _)))))

pub local_optional_statements : (left : ℕ) (sequence : SequenceRole → Parser Sequence) (is_sequence : Each sequence)
    → Local (optional_statements_of left sequence)
unfolding optional_statements_of
local_optional_statements left sequence is_sequence =
    local_choose head_begins_statement (local_then (is_sequence role.Statements) (λ inside. local_pure _)) (local_pure _)

pub local_accept_opened : (left : ℕ) (deeper : SequenceRole → Parser Sequence) (is_deeper : Each deeper) → Local (accept_opened_of left deeper)
local_accept_opened zero deeper is_deeper = local_choose (head_starts _) local_too_deep local_nothing
local_accept_opened (suc left) deeper is_deeper = local_accept left deeper is_deeper

pub local_accept_alternative : (left : ℕ) (sequence : SequenceRole → Parser Sequence) (is_sequence : Each sequence) (deeper : SequenceRole → Parser Sequence)
    (is_deeper : Each deeper)
    → Local (accept_alternative_of left sequence deeper)
unfolding accept_alternative_of
local_accept_alternative left sequence is_sequence deeper is_deeper =
    local_then (local_accept_opened left deeper is_deeper) (λ accept. local_then (local_optional_statements left sequence is_sequence) (λ inside. local_pure _))

pub local_delay_alternative : (left : ℕ) (sequence : SequenceRole → Parser Sequence) (is_sequence : Each sequence) (deeper : SequenceRole → Parser Sequence)
    (is_deeper : Each deeper)
    → Local (delay_alternative_of left sequence deeper)
unfolding delay_alternative_of
local_delay_alternative left sequence is_sequence deeper is_deeper =
    local_then (local_delay_opened left) (λ delay. local_then (local_optional_statements left sequence is_sequence) (λ inside. local_pure _))

pub local_terminate : (left : ℕ) (sequence : SequenceRole → Parser Sequence) (is_sequence : Each sequence) (deeper : SequenceRole → Parser Sequence)
    (is_deeper : Each deeper)
    → Local (terminate_of left sequence deeper)
unfolding terminate_of
local_terminate left sequence is_sequence deeper is_deeper = local_then (local_word _) (λ place. local_then (local_delimiter _) (λ _. local_pure _))

pub local_alternative : (left : ℕ) (sequence : SequenceRole → Parser Sequence) (is_sequence : Each sequence) (deeper : SequenceRole → Parser Sequence)
    (is_deeper : Each deeper)
    → Local (alternative_of left sequence deeper)
unfolding alternative_of
local_alternative left sequence is_sequence deeper is_deeper =
    local_choose (head_starts _) (local_accept_alternative left sequence is_sequence deeper is_deeper)
    (local_choose (head_starts _) (local_delay_alternative left sequence is_sequence deeper is_deeper)
    (local_terminate left sequence is_sequence deeper is_deeper))

pub local_guard : (left : ℕ) (sequence : SequenceRole → Parser Sequence) (is_sequence : Each sequence) (deeper : SequenceRole → Parser Sequence)
    (is_deeper : Each deeper)
    → Local (guard_of left sequence deeper)
unfolding guard_of
local_guard left sequence is_sequence deeper is_deeper =
    local_choose (head_starts _)
    (local_then (local_word _) (λ place. local_then (local_expression left) (λ condition. local_then (local_delimiter _) (λ _. local_pure _)))) (local_pure _)

pub local_select_alternative : (left : ℕ) (sequence : SequenceRole → Parser Sequence) (is_sequence : Each sequence) (deeper : SequenceRole → Parser Sequence)
    (is_deeper : Each deeper)
    → Local (select_alternative_of left sequence deeper)
unfolding select_alternative_of
local_select_alternative left sequence is_sequence deeper is_deeper =
    local_then (local_guard left sequence is_sequence deeper is_deeper)
    (λ guard. local_then (local_alternative left sequence is_sequence deeper is_deeper) (λ alternative. local_pure _))

pub local_next_alternative : (left : ℕ) (sequence : SequenceRole → Parser Sequence) (is_sequence : Each sequence) (deeper : SequenceRole → Parser Sequence)
    (is_deeper : Each deeper)
    → Local (next_alternative_of left sequence deeper)
unfolding next_alternative_of
local_next_alternative left sequence is_sequence deeper is_deeper =
    local_then (local_word _) (λ _. local_select_alternative left sequence is_sequence deeper is_deeper)

pub eats_next_alternative : (left : ℕ) (sequence : SequenceRole → Parser Sequence) (is_sequence : Each sequence) (deeper : SequenceRole → Parser Sequence)
    (is_deeper : Each deeper)
    → Eats (next_alternative_of left sequence deeper)
unfolding next_alternative_of
eats_next_alternative left sequence is_sequence deeper is_deeper =
    eats_first (eats_word _) (λ _. local_select_alternative left sequence is_sequence deeper is_deeper)

pub local_selective : (left : ℕ) (sequence : SequenceRole → Parser Sequence) (is_sequence : Each sequence) (deeper : SequenceRole → Parser Sequence)
    (is_deeper : Each deeper) (first : SelectAlternative Sequence)
    → Local (selective_of left sequence deeper first)
unfolding selective_of
local_selective left sequence is_sequence deeper is_deeper first =
    local_then (local_items (head_starts _) (local_next_alternative left sequence is_sequence deeper is_deeper)
    (eats_next_alternative left sequence is_sequence deeper is_deeper))
    (λ others. local_then (local_else left sequence is_sequence) (λ otherwise. local_pure _))

pub local_asynchronous : (left : ℕ) (sequence : SequenceRole → Parser Sequence) (is_sequence : Each sequence) (deeper : SequenceRole → Parser Sequence)
    (is_deeper : Each deeper) (triggering : Trigger) (inside : Option Sequence)
    → Local (asynchronous_of left sequence deeper triggering inside)
unfolding asynchronous_of
local_asynchronous left sequence is_sequence deeper is_deeper triggering inside =
    local_then (local_word _) (λ _. local_then (local_word _) (λ _. local_then (is_sequence role.Statements) (λ abortable. local_pure _)))

pub local_timed : (left : ℕ) (sequence : SequenceRole → Parser Sequence) (is_sequence : Each sequence) (deeper : SequenceRole → Parser Sequence)
    (is_deeper : Each deeper) (call : Call) (inside : Option Sequence)
    → Local (timed_of left sequence deeper call inside)
unfolding timed_of
local_timed left sequence is_sequence deeper is_deeper call inside =
    local_then (local_word _)
    (λ _. local_then (local_delay_opened left) (λ delay. local_then (local_optional_statements left sequence is_sequence) (λ behind. local_pure _)))

pub local_conditional : (left : ℕ) (sequence : SequenceRole → Parser Sequence) (is_sequence : Each sequence) (deeper : SequenceRole → Parser Sequence)
    (is_deeper : Each deeper) (call : Call) (inside : Option Sequence)
    → Local (conditional_of left sequence deeper call inside)
unfolding conditional_of
local_conditional left sequence is_sequence deeper is_deeper call inside =
    local_then (local_word _) (λ _. local_then (is_sequence role.Statements) (λ otherwise. local_pure _))

pub local_behind_call : (left : ℕ) (sequence : SequenceRole → Parser Sequence) (is_sequence : Each sequence) (deeper : SequenceRole → Parser Sequence)
    (is_deeper : Each deeper) (call : Call) (inside : Option Sequence)
    → Local (behind_call_of left sequence deeper call inside)
unfolding behind_call_of
local_behind_call left sequence is_sequence deeper is_deeper call inside =
    local_choose (head_starts _) (local_timed left sequence is_sequence deeper is_deeper call inside)
    (local_choose (head_starts _) (local_conditional left sequence is_sequence deeper is_deeper call inside)
    (local_asynchronous left sequence is_sequence deeper is_deeper (trigger.Call call) inside))

pub local_call_select : (left : ℕ) (sequence : SequenceRole → Parser Sequence) (is_sequence : Each sequence) (deeper : SequenceRole → Parser Sequence)
    (is_deeper : Each deeper)
    → Local (call_select_of left sequence deeper)
unfolding call_select_of
local_call_select left sequence is_sequence deeper is_deeper =
    local_then (local_call_opened left)
    (λ call.
    local_then (local_optional_statements left sequence is_sequence) (λ inside. local_behind_call left sequence is_sequence deeper is_deeper call inside))

pub local_delay_select : (left : ℕ) (sequence : SequenceRole → Parser Sequence) (is_sequence : Each sequence) (deeper : SequenceRole → Parser Sequence)
    (is_deeper : Each deeper)
    → Local (delay_select_of left sequence deeper)
unfolding delay_select_of
local_delay_select left sequence is_sequence deeper is_deeper =
    local_then (local_delay_opened left)
    (λ delay. local_then (local_optional_statements left sequence is_sequence)
    (λ inside. local_choose (head_starts _) (local_asynchronous left sequence is_sequence deeper is_deeper (trigger.Delay delay) inside)
    (local_selective left sequence is_sequence deeper is_deeper (record { guard = None; alternative = alternative.Delay delay inside }))))

pub local_select_form : (left : ℕ) (sequence : SequenceRole → Parser Sequence) (is_sequence : Each sequence) (deeper : SequenceRole → Parser Sequence)
    (is_deeper : Each deeper)
    → Local (select_form_of left sequence deeper)
unfolding select_form_of
local_select_form left sequence is_sequence deeper is_deeper =
    local_choose (head_starts _) (local_call_select left sequence is_sequence deeper is_deeper)
    (local_choose (head_starts _) (local_delay_select left sequence is_sequence deeper is_deeper)
    (local_then (local_select_alternative left sequence is_sequence deeper is_deeper)
    (λ first. local_selective left sequence is_sequence deeper is_deeper first)))

pub local_select : (left : ℕ) (sequence : SequenceRole → Parser Sequence) (is_sequence : Each sequence) (deeper : SequenceRole → Parser Sequence)
    (is_deeper : Each deeper)
    → Local (select_of left sequence deeper)
unfolding select_of
local_select left sequence is_sequence deeper is_deeper =
    local_then (local_word _)
    (λ place. local_then (local_select_form left sequence is_sequence deeper is_deeper)
    (λ form. local_then (local_word _) (λ _. local_then (local_word _) (λ _. local_then (local_delimiter _) (λ _. local_pure _)))))

pub eats_select : (left : ℕ) (sequence : SequenceRole → Parser Sequence) (is_sequence : Each sequence) (deeper : SequenceRole → Parser Sequence)
    (is_deeper : Each deeper)
    → Eats (select_of left sequence deeper)
unfolding select_of
eats_select left sequence is_sequence deeper is_deeper =
    eats_first (eats_word _)
    (λ place. local_then (local_select_form left sequence is_sequence deeper is_deeper)
    (λ form. local_then (local_word _) (λ _. local_then (local_word _) (λ _. local_then (local_delimiter _) (λ _. local_pure _)))))

pub local_compound : (left : ℕ) (sequence : SequenceRole → Parser Sequence) (is_sequence : Each sequence) (deeper : SequenceRole → Parser Sequence)
    (is_deeper : Each deeper)
    → Local (compound_of left sequence deeper)
unfolding compound_of
local_compound left sequence is_sequence deeper is_deeper =
    local_choose (head_starts _) (local_if left sequence is_sequence)
    (local_choose (head_starts _) (local_case left sequence is_sequence)
    (local_choose head_begins_loop (local_loop left sequence is_sequence None)
    (local_choose head_begins_block (local_block left sequence is_sequence None)
    (local_choose (head_starts _) (local_then (local_accept left sequence is_sequence) (λ accept. local_pure _))
    (local_select left sequence is_sequence deeper is_deeper)))))

pub eats_compound : (left : ℕ) (sequence : SequenceRole → Parser Sequence) (is_sequence : Each sequence) (deeper : SequenceRole → Parser Sequence)
    (is_deeper : Each deeper)
    → Eats (compound_of left sequence deeper)
unfolding compound_of
eats_compound left sequence is_sequence deeper is_deeper =
    eats_choose _ (eats_if left sequence is_sequence)
    (eats_choose _ (eats_case left sequence is_sequence)
    (eats_choose _ (eats_loop left sequence is_sequence None)
    (eats_choose _ (eats_block left sequence is_sequence None)
    (eats_choose _ (eats_first (eats_accept left sequence is_sequence) (λ accept. local_pure _)) (eats_select left sequence is_sequence deeper is_deeper)))))

pub passes_labelled : (left : ℕ) (sequence : SequenceRole → Parser Sequence) (is_sequence : Each sequence) → Passes (labelled_of left sequence)
unfolding labelled_of
passes_labelled left sequence is_sequence =
    (takes_then passes_identifier
    (λ name. local_then (local_delimiter _)
    (λ _. local_choose head_begins_block (local_block left sequence is_sequence (Some name)) (local_loop left sequence is_sequence (Some name)))))

pub local_named_statement : (left : ℕ) (sequence : SequenceRole → Parser Sequence) (is_sequence : Each sequence) (deeper : SequenceRole → Parser Sequence)
    (is_deeper : Each deeper)
    → Local (named_statement_of left sequence deeper)
unfolding named_statement_of
local_named_statement left sequence is_sequence deeper is_deeper =
    local_choose_both (is_this_delimiter (codes ":")) _ _ (local_labelled left sequence is_sequence) (local_simple left)
    (passes_labelled left sequence is_sequence) (passes_simple left)

pub eats_named_statement : (left : ℕ) (sequence : SequenceRole → Parser Sequence) (is_sequence : Each sequence) (deeper : SequenceRole → Parser Sequence)
    (is_deeper : Each deeper)
    → Eats (named_statement_of left sequence deeper)
unfolding named_statement_of
eats_named_statement left sequence is_sequence deeper is_deeper = eats_choose _ (eats_labelled left sequence is_sequence) (eats_simple left)

pub local_simple_statement : (left : ℕ) (sequence : SequenceRole → Parser Sequence) (is_sequence : Each sequence) (deeper : SequenceRole → Parser Sequence)
    (is_deeper : Each deeper)
    → Local (simple_statement_of left sequence deeper)
unfolding simple_statement_of
local_simple_statement left sequence is_sequence deeper is_deeper =
    local_choose (head_starts _) local_null
    (local_choose (head_starts _) (local_then (local_delay left) (λ delay. local_pure _))
    (local_choose (head_starts _) (local_exit left)
    (local_choose (head_starts _) (local_return left)
    (local_choose (head_starts _) local_raise
    (local_choose (head_starts _) local_abort
    (local_choose (head_starts _) local_requeue (local_named_statement left sequence is_sequence deeper is_deeper)))))))

pub eats_simple_statement : (left : ℕ) (sequence : SequenceRole → Parser Sequence) (is_sequence : Each sequence) (deeper : SequenceRole → Parser Sequence)
    (is_deeper : Each deeper)
    → Eats (simple_statement_of left sequence deeper)
unfolding simple_statement_of
eats_simple_statement left sequence is_sequence deeper is_deeper =
    eats_choose _ eats_null
    (eats_choose _ (eats_first (eats_delay left) (λ delay. local_pure _))
    (eats_choose _ (eats_exit left)
    (eats_choose _ (eats_return left)
    (eats_choose _ eats_raise (eats_choose _ eats_abort (eats_choose _ eats_requeue (eats_named_statement left sequence is_sequence deeper is_deeper)))))))

pub local_statement_inside : (left : ℕ) (sequence : SequenceRole → Parser Sequence) (is_sequence : Each sequence) (deeper : SequenceRole → Parser Sequence)
    (is_deeper : Each deeper)
    → Local (statement_inside_of left sequence deeper)
unfolding statement_inside_of
local_statement_inside left sequence is_sequence deeper is_deeper =
    local_choose head_begins_compound (local_compound left sequence is_sequence deeper is_deeper)
    (local_simple_statement left sequence is_sequence deeper is_deeper)

pub eats_statement_inside : (left : ℕ) (sequence : SequenceRole → Parser Sequence) (is_sequence : Each sequence) (deeper : SequenceRole → Parser Sequence)
    (is_deeper : Each deeper)
    → Eats (statement_inside_of left sequence deeper)
unfolding statement_inside_of
eats_statement_inside left sequence is_sequence deeper is_deeper =
    eats_choose _ (eats_compound left sequence is_sequence deeper is_deeper) (eats_simple_statement left sequence is_sequence deeper is_deeper)
