-- What the fold over a sequence finds in its parts.
use Rattle.std.proofs.Common.{◌≡◌, List, ◌∷◌, ◌++◌, map, refl, ap, ◌∙◌}
use Rattle.std.specs.List.{flat_map}
use Rattle.ada_tree.specs.declared.statements.Sequence.{Sequence}
use Rattle.ada_tree.specs.declared.statements.Sequence.TheViews.{out-Sequence}
use Rattle.ada_tree.specs.declared.statements.Sequence.TheFolds.{fold_out-Sequence}
use Rattle.ada_tree.specs.declared.statements.SequenceParts.{SequenceParts}
use Rattle.ada_tree.specs.declared.statements.HandledExceptions.{HandledExceptions}
use Rattle.ada_tree.specs.declared.statements.Handler.{Handler}
use Rattle.ada_tree.specs.declared.statements.Statement.{Statement}
use Rattle.ada_tree.specs.declared.declarations.OperationBody.{OperationBody}
use Rattle.ada_tree.specs.declared.declarations.OperationBody.TheVariants as body_of
use Rattle.ada_tree.specs.declared.declarations.Declaration.{Declaration}
use Rattle.ada_tree.specs.declared.declarations.Declaration.TheVariants as declaration
use Rattle.ada_tree.proofs.Mapped.{mapped, mapped_statement, mapped_operation, mapped_declaration}
use Rattle.ada_regions.specs.declared.entities.UnitKind.TheVariants as unit_kind
use Rattle.ada_legality.specs.Declarations.{Sight, declaration_found, declarations_found, entry_body_found, findings_layer}
use Rattle.ada_legality.specs.Declarations.{handlers_found, operation_body_found, parts_found, protected_body_found, same_findings}
use Rattle.ada_legality.specs.Declarations.{sequence_found, subprogram_body_found, task_body_found, unit_body_judged, unit_here}
use Rattle.ada_legality.specs.Findings.{Found}
use Rattle.ada_legality.specs.SimpleStatements.{with_around}
use Rattle.ada_legality.specs.Statements.{handled_judged, handler_found, statement_found}
use Rattle.ada_legality.specs.declared.findings.BodyKind.TheVariants as completing
use Rattle.ada_legality.specs.declared.standing.Around.TheVariants as around
use Rattle.ada_legality.specs.declared.standing.Known.{Known}
use Rattle.ada_legality.proofs.Lists.{both, flat_of_map, map_of_map}
use Rattle.ada_legality.proofs.StatementFolds.{statement_of_map}

module _ (f : Sequence → Sight) where
  -- ---- declarations

  operation_of_map : (x : OperationBody Sequence) (k : Known) → operation_body_found same_findings (mapped_operation f x) k ≡ operation_body_found f x k
  unfolding subprogram_body_found entry_body_found
  operation_of_map (body_of.Subprogram specification body) k = refl
  operation_of_map (body_of.Entry head body) k = refl

  operations_of_map : (xs : List (OperationBody Sequence)) (k : Known)
      → flat_map (λ (x : OperationBody Sight). operation_body_found same_findings x k) (map (mapped_operation f) xs)
      ≡ flat_map (λ (x : OperationBody Sequence). operation_body_found f x k) xs
  operations_of_map xs k =
      flat_of_map (λ (x : OperationBody Sight). operation_body_found same_findings x k) (mapped_operation f)
      (λ (x : OperationBody Sequence). operation_body_found f x k) (λ x. operation_of_map x k) xs

  declaration_of_map : (d : Declaration Sequence) (k : Known) → declaration_found same_findings (mapped_declaration f d) k ≡ declaration_found f d k
  unfolding subprogram_body_found task_body_found protected_body_found
  declaration_of_map (declaration.Object o) k = refl
  declaration_of_map (declaration.Type t) k = refl
  declaration_of_map (declaration.Subtype s) k = refl
  declaration_of_map (declaration.Exception names) k = refl
  declaration_of_map (declaration.Subprogram s) k = refl
  declaration_of_map (declaration.SubprogramBody s body) k = refl
  declaration_of_map (declaration.Task t) k = refl
  declaration_of_map (declaration.TaskBody place name body) k = refl
  declaration_of_map (declaration.Protected p) k = refl
  declaration_of_map (declaration.ProtectedBody p) k =
      ap (λ (ws : Found). unit_body_judged unit_kind.Protected completing.Protected p.name k ++ ws)
      (operations_of_map p.operations (with_around (around.Protected (unit_here k p.name)) k))
  declaration_of_map (declaration.Use place name) k = refl

  declarations_of_map : (ds : List (Declaration Sequence)) (k : Known)
      → declarations_found same_findings (map (mapped_declaration f) ds) k ≡ declarations_found f ds k
  declarations_of_map ds k =
      flat_of_map (λ (d : Declaration Sight). declaration_found same_findings d k) (mapped_declaration f)
      (λ (d : Declaration Sequence). declaration_found f d k) (λ d. declaration_of_map d k) ds

  -- ---- statements

  statements_of_map : (ss : List (Statement Sequence)) (k : Known)
      → flat_map (λ (s : Statement Sight). statement_found same_findings s k) (map (mapped_statement f) ss)
      ≡ flat_map (λ (s : Statement Sequence). statement_found f s k) ss
  statements_of_map ss k =
      flat_of_map (λ (s : Statement Sight). statement_found same_findings s k) (mapped_statement f) (λ (s : Statement Sequence). statement_found f s k)
      (λ s. statement_of_map f s k) ss

  -- ---- handlers

  abbrev handler_with : Handler Sequence → Handler Sight
  handler_with h = record { place = h.place; exceptions = h.exceptions; statements = f h.statements }

  exceptions_of_map : (hs : List (Handler Sequence))
      → map (λ (h : Handler Sight). h.exceptions) (map handler_with hs) ≡ map (λ (h : Handler Sequence). h.exceptions) hs
  exceptions_of_map hs = map_of_map (λ (h : Handler Sight). h.exceptions) handler_with (λ (h : Handler Sequence). h.exceptions) (λ h. refl) hs

  each_of_map : (hs : List (Handler Sequence)) (k : Known)
      → flat_map (λ (h : Handler Sight). handler_found same_findings h k) (map handler_with hs) ≡ flat_map (λ (h : Handler Sequence). handler_found f h k) hs
  each_of_map hs k =
      flat_of_map (λ (h : Handler Sight). handler_found same_findings h k) handler_with (λ (h : Handler Sequence). handler_found f h k) (λ h. refl) hs

  handlers_of_map : (hs : List (Handler Sequence)) (k : Known) → handlers_found same_findings (map handler_with hs) k ≡ handlers_found f hs k
  handlers_of_map hs k = both (ap (λ (es : List HandledExceptions). handled_judged k es) (exceptions_of_map hs)) (each_of_map hs k)

  -- ---- sequences

  parts_of_map : (s : SequenceParts Sequence) (k : Known) → parts_found same_findings (mapped f s) k ≡ parts_found f s k
  unfolding parts_found
  parts_of_map s k =
      both (declarations_of_map s.declarations k) (both (statements_of_map (s.statements.first ∷ s.statements.others) k) (handlers_of_map s.handlers k))

pub sequence_finds : (s : Sequence) (k : Known) → sequence_found s k ≡ parts_found sequence_found (out-Sequence s).parts k
unfolding sequence_found
sequence_finds s k = ap (λ (r : Sight). r k) (fold_out-Sequence Sight findings_layer s) ∙ parts_of_map sequence_found (out-Sequence s).parts k
