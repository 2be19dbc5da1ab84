-- Declarations of tasks and protected units (9.1, 9.4).
use Rattle.std.proofs.Common.{◌≡◌, ℕ, Bool, true, false, ◌&&◌, List, [], ◌∷◌, ◌++◌, refl, codes}
use Rattle.std.specs.Prelude.{Option, Some, flat_map}
use Rattle.std.specs.List.{list_all}
use Rattle.std.proofs.lemmas.Bool.{not-true}
use Rattle.ann_base.specs.declared.places.Place.{Place}
use Rattle.ada_lex.specs.Reserved.{is_reserved}
use Rattle.ada_tree.specs.declared.names.Identifier.{Identifier}
use Rattle.ada_tree.specs.declared.statements.Sequence.{Sequence}
use Rattle.ada_tree.specs.declared.declarations.Declaration.{Declaration}
use Rattle.ada_tree.specs.declared.declarations.Declaration.TheVariants as declarations
use Rattle.ada_tree.specs.declared.declarations.Component.{Component}
use Rattle.ada_tree.specs.declared.declarations.SubprogramSpecification.{SubprogramSpecification}
use Rattle.ada_tree.specs.declared.declarations.EntryDeclaration.{EntryDeclaration}
use Rattle.ada_tree.specs.declared.declarations.TaskDeclaration.{TaskDeclaration}
use Rattle.ada_tree.specs.declared.declarations.TaskDefinition.{TaskDefinition}
use Rattle.ada_tree.specs.declared.declarations.ProtectedDeclaration.{ProtectedDeclaration}
use Rattle.ada_tree.specs.declared.declarations.ProtectedOperation.{ProtectedOperation}
use Rattle.ada_tree.specs.declared.declarations.ProtectedOperation.TheVariants as operations
use Rattle.ada_tree.specs.Written.{Written, Lexeme, word, word_at, delimiter, identifier_written, optional, end_name_written}
use Rattle.ada_tree.specs.SpellingStatements.{semicolon, parameters_written}
use Rattle.ada_tree.specs.SpellingDeclarations.{component_written, aspects_written, specification_written, entry_written}
use Rattle.ada_tree.specs.SpellingDeclarations.{task_definition_written, type_flag, operation_written, private_written}
use Rattle.ada_tree.specs.ShapeExpressions.{optional_fits}
use Rattle.ada_tree.specs.ShapeDeclarations.{aspects_fit, specification_fits, entry_fits, task_definition_fits}
use Rattle.ada_tree.specs.ShapeDeclarations.{task_fits, operation_fits, private_fits, protected_fits}
use Rattle.ada_grammar.specs.Reading.{◌>>=◌, pure, starts, sees_word, sees_identifier, flag_of, end_name_of, items_of}
use Rattle.ada_grammar.specs.ReadingDeclarations.{component_of, aspects_of, specification_of, entry_of, task_definition_of, task_of}
use Rattle.ada_grammar.specs.ReadingDeclarations.{specified_operation_of, operation_of, begins_operation, private_of, protected_of}
use Rattle.grammar_laws.specs.Leads.{Leads}
use Rattle.grammar_laws.proofs.Reading.Leading.{as_written, leads_through}
use Rattle.grammar_laws.proofs.Reading.Exact.{done, Rest, Any, itself, Exact, first_true, second_true, field, plain}
use Rattle.grammar_laws.proofs.Reading.Exact.{narrower, closing, first_is, first_optional, optionally, listed}
use Rattle.grammar_laws.proofs.Reading.Tokens.{always, shapeless, not_word, word_then, flag_exact, sees_word_first, sees_identifier_first}
use Rattle.grammar_laws.proofs.Reading.Choices.{Sound, either, one_form}
use Rattle.grammar_laws.proofs.Reading.ClausesEnds.{ends_operations, ends_specification, ends_aspects}
use Rattle.grammar_laws.proofs.Reading.ClausesEnds.{ends_task_definition, ends_private, not_identifier, identifier_no_type}
use Rattle.grammar_laws.proofs.Reading.ClausesSteps.{delimiter_ends, field_before, last_before, plain_before, identifier_kept, end_name_exact, respelt_by}
use Rattle.grammar_laws.proofs.Reading.ClausesTypes.{components_exact}
use Rattle.grammar_laws.proofs.Reading.ClausesSpecifications.{aspects_exact, specification_exact, specification_first, entry_exact, entry_begins}

-- ---- tasks

abbrev not_entry : List Lexeme → Bool
not_entry r = not_word (codes "entry") r

entries_exact : (left : ℕ) → Exact (flat_map entry_written) (list_all (entry_fits left)) not_entry (items_of (sees_word (codes "entry")) (entry_of left))
unfolding starts
entries_exact left =
    listed (sees_word (codes "entry")) entry_written (entry_fits left) always not_entry (entry_of left) (entry_exact left) entry_begins refl
    (λ r e. refl) (λ r e. refl) (λ r e. not-true (sees_word (codes "entry") r) e)

abbrev some_definition : TaskDefinition → Option TaskDefinition
some_definition d = Some d

-- ["is" {entry} "end" [NAME]]
pub task_definition_exact : (left : ℕ) (name : Identifier)
    → Exact (optional (task_definition_written name)) (optional_fits (task_definition_fits left)) (ends_task_definition name)
    (task_definition_of left name.text)
unfolding task_definition_of starts
task_definition_exact left name =
    optionally (sees_word (codes "is")) (task_definition_written name) (task_definition_fits left) (ends_task_definition name) _
    (word_then some_definition Any _ _ (ends_task_definition name) (codes "is") _
    (last_before some_definition Any (word (codes "end")) (λ d. end_name_written d.named_at_end name) (ends_task_definition name) (λ d. d.entries)
    (flat_map entry_written) (list_all (entry_fits left)) not_entry (items_of (sees_word (codes "entry")) (entry_of left)) _ (entries_exact left)
    (λ l ls. refl)
    (λ entries. word_then some_definition _ _ _ (ends_task_definition name) (codes "end") _
    (closing some_definition _ (ends_task_definition name) (λ d. d.named_at_end) (λ b. end_name_written b name) shapeless (end_name_of name.text)
    (λ named. record { entries = entries; named_at_end = named })
    (narrower itself Any (λ b. end_name_written b name) shapeless (not_word name.text) (ends_task_definition name) (end_name_of name.text) (end_name_exact name)
    (λ r e. second_true (not_word (codes "is") r) (not_word name.text r) e))
    (λ b. (tt, refl)) (λ b. refl) (λ b d p e. rw (p.1, e) refl)))))
    (λ d ls r l. sees_word_first (codes "is") (flat_map entry_written d.entries ++ word (codes "end") ∷ end_name_written d.named_at_end name) ls r l)
    (λ r e. not-true (sees_word (codes "is") r) (first_true (not_word (codes "is") r) (not_word name.text r) e))

abbrev pub task_made : TaskDeclaration → Declaration Sequence
task_made t = declarations.Task t

abbrev definition_behind : TaskDeclaration → List Written
definition_behind t = optional (task_definition_written t.name) t.definition ++ semicolon

-- behind "task"
abbrev pub task_behind : TaskDeclaration → List Written
task_behind t = type_flag t.is_type ++ identifier_written t.name ∷ (aspects_written t.aspects ++ definition_behind t)

before_definition : (t : TaskDeclaration) (ls r : List Lexeme) → Leads (definition_behind t) ls r → ends_aspects ls ≡ true
unfolding starts
before_definition t ls r l =
    first_optional ends_aspects true (task_definition_written t.name) semicolon
    (λ d ls m l. first_is ends_aspects true (word (codes "is")) (λ l ls. refl)
    (flat_map entry_written d.entries ++ word (codes "end") ∷ end_name_written d.named_at_end t.name) ls m l)
    (λ ls r l. first_is ends_aspects true (delimiter (codes ";")) (λ l ls. refl) [] ls r l) t.definition ls r l

pub task_exact : (left : ℕ) (place : Place)
    → Rest {X = Declaration Sequence} (λ (t : TaskDeclaration). declarations.Task t) (λ t. Any t × (place ≡ t.place)) task_behind (task_fits left) always
    (task_of left place)
unfolding task_of starts
task_exact left place =
    plain task_made (λ t. Any t × (place ≡ t.place)) (λ t. identifier_written t.name ∷ (aspects_written t.aspects ++ definition_behind t)) _ always
    (λ t. t.is_type) type_flag shapeless (not_word (codes "type")) (flag_of (codes "type")) _ (flag_exact (codes "type")) (λ a. refl)
    (λ t ls r p l end. identifier_no_type ls (sees_identifier_first t.name (aspects_written t.aspects ++ definition_behind t) ls r l))
    (λ is_type. identifier_kept task_made _ (λ t. aspects_written t.aspects ++ definition_behind t) _ always (λ t. t.name) _
    (λ name. field task_made _ definition_behind (λ t. optional_fits (task_definition_fits left) t.definition) always (λ t. t.aspects) aspects_written
    (aspects_fit left) ends_aspects (aspects_of left) _ (aspects_exact left)
    (λ t ls r p l end. before_definition t ls r l)
    (λ aspects. respelt_by task_made _ (λ t. optional (task_definition_written name) t.definition ++ semicolon) definition_behind
    (λ t. optional_fits (task_definition_fits left) t.definition) always _
    (last_before task_made _ (delimiter (codes ";")) _ always (λ t. t.definition) (optional (task_definition_written name))
    (optional_fits (task_definition_fits left)) (ends_task_definition name) (task_definition_of left name.text) _ (task_definition_exact left name)
    (λ l ls. refl)
    (λ definition. delimiter_ends task_made _ (codes ";") (record { place = place; is_type = is_type; name = name; aspects = aspects; definition = definition })
    (((((tt, refl), refl), refl), refl), refl)
    (λ j p. rw (p.0.0.0.0.1, p.0.0.0.1, p.0.0.1, p.0.1, p.1) refl)))
    (λ t p. rw (p.0.1) refl))))

-- ---- the operations of protected units

abbrev entry_operation : EntryDeclaration → ProtectedOperation
entry_operation e = operations.Entry e

abbrev subprogram_operation : SubprogramSpecification → ProtectedOperation
subprogram_operation s = operations.Subprogram s

entry_operation_exact : (left : ℕ) → Rest entry_operation Any entry_written (entry_fits left) always (entry_of left >>= λ entry. pure (operations.Entry entry))
entry_operation_exact left =
    closing entry_operation Any always itself entry_written (entry_fits left) (entry_of left) itself (entry_exact left) (λ e. tt) (λ e. refl) (λ e i p q. q)

subprogram_operation_exact : (left : ℕ)
    → Rest subprogram_operation Any (λ s. specification_written s ++ semicolon) (specification_fits left) always (specified_operation_of left)
unfolding specified_operation_of starts
subprogram_operation_exact left =
    last_before subprogram_operation Any (delimiter (codes ";")) (λ s. []) always itself specification_written (specification_fits left) ends_specification
    (specification_of left) _ (specification_exact left) (λ l ls. refl)
    (λ s. delimiter_ends subprogram_operation _ (codes ";") s (tt, refl) (λ j p. p.1))

operation_sound : (left : ℕ) → Sound itself operation_written (operation_fits left) (operation_of left)
unfolding operation_of
operation_sound left =
    either (sees_word (codes "entry")) (one_form entry_operation (entry_operation_exact left) (λ e. refl) (λ e. refl))
    (one_form subprogram_operation (subprogram_operation_exact left) (λ s. refl) (λ s. refl))

no_entry : (s : SubprogramSpecification) (w : List Written) (ls r : List Lexeme) → Leads (specification_written s ++ w) ls r
    → sees_word (codes "entry") ls ≡ false
unfolding starts
no_entry s w ls r l =
    let t = leads_through (specification_written s) w ls r l in
    specification_first (sees_word (codes "entry")) false (λ p l ls. refl) (λ p l ls. refl) (λ p l ls. refl) s ls t.middle t.first

operation_complete : (left : ℕ) (o : ProtectedOperation) (ls r : List Lexeme) → operation_fits left o ≡ true → Leads (operation_written o) ls r
    → operation_of left ls ≡ done o r
unfolding operation_of
operation_complete left (operations.Subprogram s) ls r okay l =
    rw (no_entry s semicolon ls r l) ((subprogram_operation_exact left).complete s ls r tt okay l refl)
operation_complete left (operations.Entry e) ls r okay l = rw (entry_begins e ls r l) ((entry_operation_exact left).complete e ls r tt okay l refl)

pub operation_exact : (left : ℕ) → Exact operation_written (operation_fits left) always (operation_of left)
operation_exact left = record { sound = (operation_sound left).by; complete = λ o ls r q okay l end. operation_complete left o ls r okay l }

-- the next tokens in any test that has the same answer for what an operation begins with
pub operation_first : (test : List Lexeme → Bool) (v : Bool)
    → ((p : Place) (l : Lexeme) (ls : List Lexeme) → test (as_written (word_at p (codes "entry")) l ∷ ls) ≡ v)
    → ((p : Place) (l : Lexeme) (ls : List Lexeme) → test (as_written (word_at p (codes "overriding")) l ∷ ls) ≡ v)
    → ((p : Place) (l : Lexeme) (ls : List Lexeme) → test (as_written (word_at p (codes "procedure")) l ∷ ls) ≡ v)
    → ((p : Place) (l : Lexeme) (ls : List Lexeme) → test (as_written (word_at p (codes "function")) l ∷ ls) ≡ v)
    → (o : ProtectedOperation) (ls r : List Lexeme) → Leads (operation_written o) ls r → test ls ≡ v
operation_first test v on_entry on_overriding on_procedure on_function (operations.Subprogram s) ls r l =
    let t = leads_through (specification_written s) semicolon ls r l in
    specification_first test v on_overriding on_procedure on_function s ls t.middle t.first
operation_first test v on_entry on_overriding on_procedure on_function (operations.Entry e) ls r l =
    first_is test v (word_at e.place (codes "entry")) (on_entry e.place) (identifier_written e.name ∷ (parameters_written e.parameters ++ semicolon)) ls r l

pub operation_begins : (o : ProtectedOperation) (ls r : List Lexeme) → Leads (operation_written o) ls r → begins_operation ls ≡ true
unfolding starts
operation_begins o ls r l = operation_first begins_operation true (λ p l ls. refl) (λ p l ls. refl) (λ p l ls. refl) (λ p l ls. refl) o ls r l

pub operations_exact : (left : ℕ)
    → Exact (flat_map operation_written) (list_all (operation_fits left)) ends_operations (items_of begins_operation (operation_of left))
unfolding starts
operations_exact left =
    listed begins_operation operation_written (operation_fits left) always ends_operations (operation_of left) (operation_exact left) operation_begins refl
    (λ r e. refl) (λ r e. refl) (λ r e. not-true (begins_operation r) e)

-- ---- protected units

abbrev some_private : List Component → Option (List Component)
some_private xs = Some xs

pub private_exact : (left : ℕ) → Exact (optional private_written) (optional_fits (private_fits left)) ends_private (private_of left)
unfolding private_of
private_exact left =
    optionally (sees_word (codes "private")) private_written (private_fits left) ends_private _
    (word_then some_private Any (flat_map component_written) (private_fits left) ends_private (codes "private") _
    (closing some_private Any ends_private itself (flat_map component_written) (private_fits left) (items_of sees_identifier (component_of left)) itself
    (narrower itself Any (flat_map component_written) (private_fits left) not_identifier ends_private (items_of sees_identifier (component_of left))
    (components_exact left) (λ r e. second_true (not_word (codes "private") r) (not_identifier r) e))
    (λ xs. tt) (λ xs. refl) (λ xs i p e. e)))
    (λ xs ls r l. sees_word_first (codes "private") (flat_map component_written xs) ls r l)
    (λ r e. not-true (sees_word (codes "private") r) (first_true (not_word (codes "private") r) (not_identifier r) e))

abbrev pub protected_made : ProtectedDeclaration → Declaration Sequence
protected_made p = declarations.Protected p

abbrev pub end_behind : ProtectedDeclaration → List Written
end_behind p = end_name_written p.named_at_end p.name ++ semicolon

abbrev pub private_behind : ProtectedDeclaration → List Written
private_behind p = optional private_written p.components ++ word (codes "end") ∷ end_behind p

abbrev pub operations_behind : ProtectedDeclaration → List Written
operations_behind p = flat_map operation_written p.operations ++ private_behind p

abbrev pub aspects_behind : ProtectedDeclaration → List Written
aspects_behind p = aspects_written p.aspects ++ word (codes "is") ∷ operations_behind p

-- behind "protected"
abbrev pub protected_behind : ProtectedDeclaration → List Written
protected_behind p = type_flag p.is_type ++ identifier_written p.name ∷ aspects_behind p

behind_operations : (p : ProtectedDeclaration) (ls r : List Lexeme) → Leads (private_behind p) ls r → ends_operations ls ≡ true
unfolding starts
behind_operations p ls r l =
    first_optional ends_operations true private_written (word (codes "end") ∷ end_behind p)
    (λ xs ls m l. first_is ends_operations true (word (codes "private")) (λ l ls. refl) (flat_map component_written xs) ls m l)
    (λ ls r l. first_is ends_operations true (word (codes "end")) (λ l ls. refl) (end_behind p) ls r l) p.components ls r l

pub protected_exact : (left : ℕ) (place : Place)
    → Rest {X = Declaration Sequence} (λ (p : ProtectedDeclaration). declarations.Protected p) (λ p. Any p × (place ≡ p.place)) protected_behind
    (protected_fits left) always (protected_of left place)
unfolding protected_of starts is_reserved
protected_exact left place =
    plain protected_made (λ p. Any p × (place ≡ p.place)) (λ p. identifier_written p.name ∷ aspects_behind p) _ always (λ p. p.is_type) type_flag shapeless
    (not_word (codes "type")) (flag_of (codes "type")) _ (flag_exact (codes "type")) (λ a. refl)
    (λ p ls r q l end. identifier_no_type ls (sees_identifier_first p.name (aspects_behind p) ls r l))
    (λ is_type. identifier_kept protected_made _ aspects_behind _ always (λ p. p.name) _
    (λ name. field_before protected_made _ (word (codes "is")) operations_behind always (λ p. p.aspects) aspects_written (aspects_fit left) ends_aspects
    (aspects_of left) _ (aspects_exact left) (λ l ls. refl)
    (λ p. list_all (operation_fits left) p.operations && optional_fits (private_fits left) p.components)
    (λ aspects. word_then protected_made _ operations_behind _ always (codes "is") _
    (field protected_made _ private_behind (λ p. optional_fits (private_fits left) p.components) always (λ p. p.operations) (flat_map operation_written)
    (list_all (operation_fits left)) ends_operations (items_of begins_operation (operation_of left)) _ (operations_exact left)
    (λ p ls r q l end. behind_operations p ls r l)
    (λ named_operations. last_before protected_made _ (word (codes "end")) end_behind always (λ p. p.components) (optional private_written)
    (optional_fits (private_fits left)) ends_private (private_of left) _ (private_exact left) (λ l ls. refl)
    (λ components. word_then protected_made _ end_behind _ always (codes "end") _
    (respelt_by protected_made _ (λ p. end_name_written p.named_at_end name ++ semicolon) end_behind (λ p. true) always _
    (plain_before protected_made _ (delimiter (codes ";")) _ always (λ p. p.named_at_end) (λ b. end_name_written b name) shapeless (not_word name.text)
    (end_name_of name.text) _ (end_name_exact name) (λ l ls. refl) _ (λ b. refl)
    (λ named. delimiter_ends protected_made _ (codes ";")
    (record {
      place = place;
      is_type = is_type;
      name = name;
      aspects = aspects;
      operations = named_operations;
      components = components;
      named_at_end = named;
    })
    (((((((tt, refl), refl), refl), refl), refl), refl), refl)
    (λ j p. rw (p.0.0.0.0.0.0.1, p.0.0.0.0.0.1, p.0.0.0.0.1, p.0.0.0.1, p.0.0.1, p.0.1, p.1) refl)))
    (λ p q. rw (q.0.0.0.1) refl))))))))
