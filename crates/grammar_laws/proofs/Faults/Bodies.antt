-- Bodies, and all declarations: what is read hangs on no later token.
use Rattle.std.proofs.Common.{ℕ, List}
use Rattle.ann_base.specs.declared.places.Place.{Place}
use Rattle.ada_tree.specs.declared.statements.Sequence.{Sequence}
use Rattle.ada_tree.specs.declared.statements.SequenceRole.{SequenceRole}
use Rattle.ada_tree.specs.declared.statements.SequenceRole.TheVariants as role
use Rattle.ada_tree.specs.declared.declarations.SubprogramSpecification.{SubprogramSpecification}
use Rattle.ada_grammar.specs.Reading.{Parser, below}
use Rattle.ada_grammar.specs.ReadingBodies.{body_of, subprogram_operation_of, entry_operation_of, operation_body_of, subprogram_body_of, subprogram_of}
use Rattle.ada_grammar.specs.ReadingBodies.{task_body_of, any_task_of, protected_body_of, any_protected_of, declaration_of, begins_unit, begins_declaration}
use Rattle.grammar_laws.proofs.Faults.Local.{Local, Eats, Head, local_pure, local_then, local_choose, head_starts, head_or, local_word, local_delimiter}
use Rattle.grammar_laws.proofs.Faults.Local.{local_identifier, eats_first, eats_choose, eats_word, local_end_name, local_opening_is, local_items}
use Rattle.grammar_laws.proofs.Faults.Passing.{Each}
use Rattle.grammar_laws.proofs.Faults.Declarations.{local_named_declaration, eats_named_declaration, local_type, eats_type, local_subtype, eats_subtype}
use Rattle.grammar_laws.proofs.Faults.Declarations.{local_use, eats_use, local_specification, eats_specification, head_begins_specification, local_task}
use Rattle.grammar_laws.proofs.Faults.Declarations.{head_begins_operation, local_protected, local_entry_head, eats_entry_head}

pub local_body : (left : ℕ) (sequence : SequenceRole → Parser Sequence) (is_sequence : Each sequence) (name : List ℕ) → Local (body_of left sequence name)
unfolding body_of
local_body left sequence is_sequence name =
    local_then (local_opening_is left)
    (λ _. local_then (is_sequence role.Body)
    (λ inside. local_then (local_word _) (λ _. local_then (local_end_name _) (λ named. local_then (local_delimiter _) (λ _. local_pure _)))))

pub local_subprogram_operation : (left : ℕ) (sequence : SequenceRole → Parser Sequence) (is_sequence : Each sequence)
    → Local (subprogram_operation_of left sequence)
unfolding subprogram_operation_of
local_subprogram_operation left sequence is_sequence =
    local_then (local_specification left) (λ specification. local_then (local_body left sequence is_sequence specification.name.text) (λ body. local_pure _))

pub eats_subprogram_operation : (left : ℕ) (sequence : SequenceRole → Parser Sequence) (is_sequence : Each sequence)
    → Eats (subprogram_operation_of left sequence)
unfolding subprogram_operation_of
eats_subprogram_operation left sequence is_sequence =
    eats_first (eats_specification left) (λ specification. local_then (local_body left sequence is_sequence specification.name.text) (λ body. local_pure _))

pub local_entry_operation : (left : ℕ) (sequence : SequenceRole → Parser Sequence) (is_sequence : Each sequence) → Local (entry_operation_of left sequence)
unfolding entry_operation_of
local_entry_operation left sequence is_sequence =
    local_then (local_entry_head left) (λ head. local_then (local_body left sequence is_sequence head.name.text) (λ body. local_pure _))

pub eats_entry_operation : (left : ℕ) (sequence : SequenceRole → Parser Sequence) (is_sequence : Each sequence) → Eats (entry_operation_of left sequence)
unfolding entry_operation_of
eats_entry_operation left sequence is_sequence =
    eats_first (eats_entry_head left) (λ head. local_then (local_body left sequence is_sequence head.name.text) (λ body. local_pure _))

pub local_operation_body : (left : ℕ) (sequence : SequenceRole → Parser Sequence) (is_sequence : Each sequence) → Local (operation_body_of left sequence)
unfolding operation_body_of
local_operation_body left sequence is_sequence =
    local_choose (head_starts _) (local_entry_operation left sequence is_sequence) (local_subprogram_operation left sequence is_sequence)

pub eats_operation_body : (left : ℕ) (sequence : SequenceRole → Parser Sequence) (is_sequence : Each sequence) → Eats (operation_body_of left sequence)
unfolding operation_body_of
eats_operation_body left sequence is_sequence =
    eats_choose _ (eats_entry_operation left sequence is_sequence) (eats_subprogram_operation left sequence is_sequence)

pub local_subprogram_body : (left : ℕ) (sequence : SequenceRole → Parser Sequence) (is_sequence : Each sequence) (specification : SubprogramSpecification)
    → Local (subprogram_body_of left sequence specification)
unfolding subprogram_body_of
local_subprogram_body left sequence is_sequence specification = local_then (local_body left sequence is_sequence specification.name.text) (λ body. local_pure _)

pub local_subprogram : (left : ℕ) (sequence : SequenceRole → Parser Sequence) (is_sequence : Each sequence) → Local (subprogram_of left sequence)
unfolding subprogram_of
local_subprogram left sequence is_sequence =
    local_then (local_specification left)
    (λ specification.
    local_choose (head_starts _) (local_then (local_delimiter _) (λ _. local_pure _)) (local_subprogram_body left sequence is_sequence specification))

pub eats_subprogram : (left : ℕ) (sequence : SequenceRole → Parser Sequence) (is_sequence : Each sequence) → Eats (subprogram_of left sequence)
unfolding subprogram_of
eats_subprogram left sequence is_sequence =
    eats_first (eats_specification left)
    (λ specification.
    local_choose (head_starts _) (local_then (local_delimiter _) (λ _. local_pure _)) (local_subprogram_body left sequence is_sequence specification))

pub local_task_body : (left : ℕ) (sequence : SequenceRole → Parser Sequence) (is_sequence : Each sequence) (place : Place)
    → Local (task_body_of left sequence place)
unfolding task_body_of
local_task_body left sequence is_sequence place =
    local_then (local_word _) (λ _. local_then local_identifier (λ name. local_then (local_body left sequence is_sequence name.text) (λ body. local_pure _)))

pub local_any_task : (left : ℕ) (sequence : SequenceRole → Parser Sequence) (is_sequence : Each sequence) → Local (any_task_of left sequence)
unfolding any_task_of
local_any_task left sequence is_sequence =
    local_then (local_word _) (λ place. local_choose (head_starts _) (local_task_body left sequence is_sequence place) (local_task left place))

pub eats_any_task : (left : ℕ) (sequence : SequenceRole → Parser Sequence) (is_sequence : Each sequence) → Eats (any_task_of left sequence)
unfolding any_task_of
eats_any_task left sequence is_sequence =
    eats_first (eats_word _) (λ place. local_choose (head_starts _) (local_task_body left sequence is_sequence place) (local_task left place))

pub local_protected_body : (left : ℕ) (sequence : SequenceRole → Parser Sequence) (is_sequence : Each sequence) (deeper : SequenceRole → Parser Sequence)
    (is_deeper : Each deeper) (place : Place)
    → Local (protected_body_of left sequence deeper place)
unfolding protected_body_of
local_protected_body left sequence is_sequence deeper is_deeper place =
    local_then (local_word _)
    (λ _. local_then local_identifier
    (λ name. local_then (local_opening_is left)
    (λ _. local_then
    (local_items head_begins_operation (local_operation_body (below left) deeper is_deeper) (eats_operation_body (below left) deeper is_deeper))
    (λ operation_bodies. local_then (local_word _) (λ _. local_then (local_end_name _) (λ named. local_then (local_delimiter _) (λ _. local_pure _)))))))

pub local_any_protected : (left : ℕ) (sequence : SequenceRole → Parser Sequence) (is_sequence : Each sequence) (deeper : SequenceRole → Parser Sequence)
    (is_deeper : Each deeper)
    → Local (any_protected_of left sequence deeper)
unfolding any_protected_of
local_any_protected left sequence is_sequence deeper is_deeper =
    local_then (local_word _)
    (λ place. local_choose (head_starts _) (local_protected_body left sequence is_sequence deeper is_deeper place) (local_protected left place))

pub eats_any_protected : (left : ℕ) (sequence : SequenceRole → Parser Sequence) (is_sequence : Each sequence) (deeper : SequenceRole → Parser Sequence)
    (is_deeper : Each deeper)
    → Eats (any_protected_of left sequence deeper)
unfolding any_protected_of
eats_any_protected left sequence is_sequence deeper is_deeper =
    eats_first (eats_word _)
    (λ place. local_choose (head_starts _) (local_protected_body left sequence is_sequence deeper is_deeper place) (local_protected left place))

pub local_declaration : (left : ℕ) (sequence : SequenceRole → Parser Sequence) (is_sequence : Each sequence) (deeper : SequenceRole → Parser Sequence)
    (is_deeper : Each deeper)
    → Local (declaration_of left sequence deeper)
unfolding declaration_of
local_declaration left sequence is_sequence deeper is_deeper =
    local_choose (head_starts _) (local_named_declaration left)
    (local_choose (head_starts _) (local_type left)
    (local_choose (head_starts _) (local_subtype left)
    (local_choose (head_starts _) (local_any_task left sequence is_sequence)
    (local_choose (head_starts _) (local_any_protected left sequence is_sequence deeper is_deeper)
    (local_choose (head_starts _) local_use (local_subprogram left sequence is_sequence))))))

pub eats_declaration : (left : ℕ) (sequence : SequenceRole → Parser Sequence) (is_sequence : Each sequence) (deeper : SequenceRole → Parser Sequence)
    (is_deeper : Each deeper)
    → Eats (declaration_of left sequence deeper)
unfolding declaration_of
eats_declaration left sequence is_sequence deeper is_deeper =
    eats_choose _ (eats_named_declaration left)
    (eats_choose _ (eats_type left)
    (eats_choose _ (eats_subtype left)
    (eats_choose _ (eats_any_task left sequence is_sequence)
    (eats_choose _ (eats_any_protected left sequence is_sequence deeper is_deeper) (eats_choose _ eats_use (eats_subprogram left sequence is_sequence))))))

pub head_begins_unit : Head begins_unit
head_begins_unit = head_or (head_starts _) (head_or (head_starts _) (head_or (head_starts _) head_begins_specification))

pub head_begins_declaration : Head begins_declaration
unfolding begins_declaration
head_begins_declaration = head_or (head_starts _) (head_or (head_starts _) (head_or (head_starts _) head_begins_unit))
