-- Sequences: what is read hangs on no later token.
use Rattle.std.proofs.Common.{ℕ, zero, suc, List, []}
use Rattle.ada_tree.specs.declared.statements.Sequence.{Sequence}
use Rattle.ada_tree.specs.declared.statements.SequenceRole.{SequenceRole}
use Rattle.ada_tree.specs.declared.statements.SequenceRole.TheVariants as role
use Rattle.ada_tree.specs.declared.declarations.Declaration.{Declaration}
use Rattle.ada_grammar.specs.Reading.{Parser}
use Rattle.ada_grammar.specs.ReadingSequences.{statement_at, statement_of, statements_of, handler_of, given_handlers_of, handlers_of, declarations_of}
use Rattle.ada_grammar.specs.ReadingSequences.{plain_of, handled_behind_of, whole_body_of, parts_of, no_sequence, sequence_of, further_in, inside_of}
use Rattle.grammar_laws.proofs.Faults.Local.{Local, Eats, local_pure, local_nothing, local_too_deep, local_then, local_choose, head_starts, local_word}
use Rattle.grammar_laws.proofs.Faults.Local.{local_delimiter, eats_nothing, eats_too_deep, eats_first, eats_choose, eats_word, local_items}
use Rattle.grammar_laws.proofs.Faults.Passing.{Each}
use Rattle.grammar_laws.proofs.Faults.Simple.{local_exceptions}
use Rattle.grammar_laws.proofs.Faults.Statements.{head_begins_statement, local_statement_inside, eats_statement_inside}
use Rattle.grammar_laws.proofs.Faults.Bodies.{local_declaration, eats_declaration, head_begins_declaration}

pub local_statement_at : (left : ℕ) (inner : SequenceRole → Parser Sequence) (is_inner : Each inner) (deeper : SequenceRole → Parser Sequence)
    (is_deeper : Each deeper) (a0 : ℕ)
    → Local (statement_at left inner deeper a0)
local_statement_at left inner is_inner deeper is_deeper zero = local_choose head_begins_statement local_too_deep local_nothing
local_statement_at left inner is_inner deeper is_deeper (suc inside) = local_statement_inside inside inner is_inner deeper is_deeper

pub eats_statement_at : (left : ℕ) (inner : SequenceRole → Parser Sequence) (is_inner : Each inner) (deeper : SequenceRole → Parser Sequence)
    (is_deeper : Each deeper) (a0 : ℕ)
    → Eats (statement_at left inner deeper a0)
eats_statement_at left inner is_inner deeper is_deeper zero = eats_choose _ eats_too_deep eats_nothing
eats_statement_at left inner is_inner deeper is_deeper (suc inside) = eats_statement_inside inside inner is_inner deeper is_deeper

pub local_statement : (left : ℕ) (inner : SequenceRole → Parser Sequence) (is_inner : Each inner) (deeper : SequenceRole → Parser Sequence)
    (is_deeper : Each deeper)
    → Local (statement_of left inner deeper)
unfolding statement_of
local_statement left inner is_inner deeper is_deeper = local_statement_at left inner is_inner deeper is_deeper left

pub eats_statement : (left : ℕ) (inner : SequenceRole → Parser Sequence) (is_inner : Each inner) (deeper : SequenceRole → Parser Sequence)
    (is_deeper : Each deeper)
    → Eats (statement_of left inner deeper)
unfolding statement_of
eats_statement left inner is_inner deeper is_deeper = eats_statement_at left inner is_inner deeper is_deeper left

pub local_statements : (left : ℕ) (inner : SequenceRole → Parser Sequence) (is_inner : Each inner) (deeper : SequenceRole → Parser Sequence)
    (is_deeper : Each deeper)
    → Local (statements_of left inner deeper)
unfolding statements_of
local_statements left inner is_inner deeper is_deeper =
    local_then (local_statement left inner is_inner deeper is_deeper)
    (λ first. local_then
    (local_items head_begins_statement (local_statement left inner is_inner deeper is_deeper) (eats_statement left inner is_inner deeper is_deeper))
    (λ others. local_pure _))

pub local_handler : (left : ℕ) (inner : SequenceRole → Parser Sequence) (is_inner : Each inner) (deeper : SequenceRole → Parser Sequence)
    (is_deeper : Each deeper)
    → Local (handler_of left inner deeper)
unfolding handler_of
local_handler left inner is_inner deeper is_deeper =
    local_then (local_word _)
    (λ place. local_then local_exceptions
    (λ exceptions. local_then (local_delimiter _) (λ _. local_then (local_statements left inner is_inner deeper is_deeper) (λ inside. local_pure _))))

pub eats_handler : (left : ℕ) (inner : SequenceRole → Parser Sequence) (is_inner : Each inner) (deeper : SequenceRole → Parser Sequence)
    (is_deeper : Each deeper)
    → Eats (handler_of left inner deeper)
unfolding handler_of
eats_handler left inner is_inner deeper is_deeper =
    eats_first (eats_word _)
    (λ place. local_then local_exceptions
    (λ exceptions. local_then (local_delimiter _) (λ _. local_then (local_statements left inner is_inner deeper is_deeper) (λ inside. local_pure _))))

pub local_given_handlers : (left : ℕ) (inner : SequenceRole → Parser Sequence) (is_inner : Each inner) (deeper : SequenceRole → Parser Sequence)
    (is_deeper : Each deeper)
    → Local (given_handlers_of left inner deeper)
unfolding given_handlers_of
local_given_handlers left inner is_inner deeper is_deeper =
    local_then (local_word _)
    (λ _. local_then (local_handler left inner is_inner deeper is_deeper)
    (λ first. local_then (local_items (head_starts _) (local_handler left inner is_inner deeper is_deeper) (eats_handler left inner is_inner deeper is_deeper))
    (λ others. local_pure _)))

pub local_handlers : (left : ℕ) (inner : SequenceRole → Parser Sequence) (is_inner : Each inner) (deeper : SequenceRole → Parser Sequence)
    (is_deeper : Each deeper)
    → Local (handlers_of left inner deeper)
unfolding handlers_of
local_handlers left inner is_inner deeper is_deeper = local_choose (head_starts _) (local_given_handlers left inner is_inner deeper is_deeper) (local_pure _)

pub local_declarations : (left : ℕ) (inner : SequenceRole → Parser Sequence) (is_inner : Each inner) (deeper : SequenceRole → Parser Sequence)
    (is_deeper : Each deeper)
    → Local (declarations_of left inner deeper)
unfolding declarations_of
local_declarations left inner is_inner deeper is_deeper =
    local_items head_begins_declaration (local_declaration left inner is_inner deeper is_deeper) (eats_declaration left inner is_inner deeper is_deeper)

pub local_plain : (left : ℕ) (inner : SequenceRole → Parser Sequence) (is_inner : Each inner) (deeper : SequenceRole → Parser Sequence)
    (is_deeper : Each deeper)
    → Local (plain_of left inner deeper)
unfolding plain_of
local_plain left inner is_inner deeper is_deeper = local_then (local_statements left inner is_inner deeper is_deeper) (λ inside. local_pure _)

pub local_handled_behind : (left : ℕ) (inner : SequenceRole → Parser Sequence) (is_inner : Each inner) (deeper : SequenceRole → Parser Sequence)
    (is_deeper : Each deeper) (before : List (Declaration Sequence))
    → Local (handled_behind_of left inner deeper before)
unfolding handled_behind_of
local_handled_behind left inner is_inner deeper is_deeper before =
    local_then (local_statements left inner is_inner deeper is_deeper)
    (λ inside. local_then (local_handlers left inner is_inner deeper is_deeper) (λ behind. local_pure _))

pub local_whole_body : (left : ℕ) (inner : SequenceRole → Parser Sequence) (is_inner : Each inner) (deeper : SequenceRole → Parser Sequence)
    (is_deeper : Each deeper)
    → Local (whole_body_of left inner deeper)
unfolding whole_body_of
local_whole_body left inner is_inner deeper is_deeper =
    local_then (local_declarations left inner is_inner deeper is_deeper)
    (λ before. local_then (local_word _) (λ _. local_handled_behind left inner is_inner deeper is_deeper before))

pub local_parts : (left : ℕ) (inner : SequenceRole → Parser Sequence) (is_inner : Each inner) (deeper : SequenceRole → Parser Sequence)
    (is_deeper : Each deeper) (a0 : SequenceRole)
    → Local (parts_of left inner deeper a0)
local_parts left inner is_inner deeper is_deeper role.Statements = local_plain left inner is_inner deeper is_deeper
local_parts left inner is_inner deeper is_deeper role.Handled = local_handled_behind left inner is_inner deeper is_deeper []
local_parts left inner is_inner deeper is_deeper role.Body = local_whole_body left inner is_inner deeper is_deeper

each_none : Each no_sequence
each_none r = local_nothing

pub local_sequence : (left : ℕ) (r : SequenceRole) → Local (sequence_of left r)
unfolding sequence_of
local_sequence zero r = local_parts zero no_sequence each_none no_sequence each_none r
local_sequence (suc zero) r = local_parts (suc zero) (sequence_of zero) (local_sequence zero) no_sequence each_none r
local_sequence (suc (suc left)) r = local_parts (suc (suc left)) (sequence_of (suc left)) (local_sequence (suc left)) (sequence_of left) (local_sequence left) r

pub each_inside : (left : ℕ) → Each (inside_of left)
unfolding further_in
each_inside zero r = local_nothing
each_inside (suc left) r = local_sequence left r
