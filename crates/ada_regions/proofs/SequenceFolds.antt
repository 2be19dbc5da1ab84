-- What the fold over a sequence gives at its parts.
use Rattle.std.proofs.Common.{◌≡◌, refl, ◌∙◌}
use Rattle.std.specs.List.{flat_map}
use Rattle.ada_tree.specs.declared.statements.Sequence.{Sequence}
use Rattle.ada_tree.specs.declared.statements.Sequence.TheViews.{out-Sequence}
use Rattle.ada_tree.specs.declared.statements.Sequence.TheFolds.{fold_out-Sequence}
use Rattle.ada_tree.specs.declared.statements.SequenceParts.{SequenceParts}
use Rattle.ada_tree.specs.declared.declarations.OperationBody.{OperationBody}
use Rattle.ada_tree.specs.declared.declarations.OperationBody.TheVariants as body_of
use Rattle.ada_tree.specs.declared.declarations.Declaration.{Declaration}
use Rattle.ada_tree.specs.declared.declarations.Declaration.TheVariants as declaration
use Rattle.ada_tree.proofs.Mapped.{mapped, mapped_statement, mapped_operation, mapped_declaration}
use Rattle.ada_regions.specs.Occurrences.{SequenceNames, in_all}
use Rattle.ada_regions.specs.NamesInStatements.{names_in_statement, labels_in_statement, names_in_handler, labels_in_handler}
use Rattle.ada_regions.specs.NamesInDeclarations.{names_in_operation_body, names_in_declaration}
use Rattle.ada_regions.specs.NamesInUnits.{names_in_parts, same_sequence, sequence_layer, names_in_sequence}
use Rattle.ada_regions.proofs.ExpressionFolds.{flat_of_map, both}
use Rattle.ada_regions.proofs.StatementFolds.{statement_of_map}
use Rattle.ada_regions.proofs.LabelFolds.{statement_of_map as labels_of_map}

operation_of_map : (f : Sequence → SequenceNames) (x : OperationBody Sequence)
    → names_in_operation_body same_sequence (mapped_operation f x) ≡ names_in_operation_body f x
operation_of_map f (body_of.Subprogram specification body) = refl
operation_of_map f (body_of.Entry head body) = refl

declaration_of_map : (f : Sequence → SequenceNames) (d : Declaration Sequence)
    → names_in_declaration same_sequence (mapped_declaration f d) ≡ names_in_declaration f d
declaration_of_map f (declaration.Object o) = refl
declaration_of_map f (declaration.Type t) = refl
declaration_of_map f (declaration.Subtype s) = refl
declaration_of_map f (declaration.Exception names) = refl
declaration_of_map f (declaration.Subprogram specification) = refl
declaration_of_map f (declaration.SubprogramBody specification body) = refl
declaration_of_map f (declaration.Task t) = refl
declaration_of_map f (declaration.TaskBody place name body) = refl
declaration_of_map f (declaration.Protected p) = refl
declaration_of_map f (declaration.ProtectedBody p) = rw (flat_of_map _ _ _ (operation_of_map f) p.operations) refl
declaration_of_map f (declaration.Use place name) = refl

declarations_of_map : (f : Sequence → SequenceNames) (s : SequenceParts Sequence)
    → flat_map (names_in_declaration same_sequence) (mapped f s).declarations ≡ flat_map (names_in_declaration f) s.declarations
declarations_of_map f s = flat_of_map (names_in_declaration same_sequence) (mapped_declaration f) (names_in_declaration f) (declaration_of_map f) s.declarations

statements_of_map : (f : Sequence → SequenceNames) (s : SequenceParts Sequence)
    → in_all (names_in_statement same_sequence) (mapped f s).statements ≡ in_all (names_in_statement f) s.statements
statements_of_map f s =
    both (statement_of_map f s.statements.first)
    (flat_of_map (names_in_statement same_sequence) (mapped_statement f) (names_in_statement f) (statement_of_map f) s.statements.others)

handlers_of_map : (f : Sequence → SequenceNames) (s : SequenceParts Sequence)
    → flat_map (names_in_handler same_sequence) (mapped f s).handlers ≡ flat_map (names_in_handler f) s.handlers
handlers_of_map f s = flat_of_map (names_in_handler same_sequence) _ (names_in_handler f) (λ x. refl) s.handlers

labels_of_statements : (f : Sequence → SequenceNames) (s : SequenceParts Sequence)
    → in_all (labels_in_statement same_sequence) (mapped f s).statements ≡ in_all (labels_in_statement f) s.statements
labels_of_statements f s =
    both (labels_of_map f s.statements.first)
    (flat_of_map (labels_in_statement same_sequence) (mapped_statement f) (labels_in_statement f) (labels_of_map f) s.statements.others)

labels_of_handlers : (f : Sequence → SequenceNames) (s : SequenceParts Sequence)
    → flat_map (labels_in_handler same_sequence) (mapped f s).handlers ≡ flat_map (labels_in_handler f) s.handlers
labels_of_handlers f s = flat_of_map (labels_in_handler same_sequence) _ (labels_in_handler f) (λ x. refl) s.handlers

three_same : (n m : SequenceNames) → n.declarations ≡ m.declarations → n.labels ≡ m.labels → n.statements ≡ m.statements → n ≡ m
three_same n m p q r = rw (p, q, r) refl

parts_of_map : (f : Sequence → SequenceNames) (s : SequenceParts Sequence) → names_in_parts same_sequence (mapped f s) ≡ names_in_parts f s
parts_of_map f s =
    three_same (names_in_parts same_sequence (mapped f s)) (names_in_parts f s) (declarations_of_map f s)
    (both (labels_of_statements f s) (labels_of_handlers f s)) (both (statements_of_map f s) (handlers_of_map f s))

pub sequence_tells : (s : Sequence) → names_in_sequence s ≡ names_in_parts names_in_sequence (out-Sequence s).parts
sequence_tells s = fold_out-Sequence SequenceNames sequence_layer s ∙ parts_of_map names_in_sequence (out-Sequence s).parts
