-- A layer of a sequence, in which each sequence was replaced.
use Rattle.std.proofs.Common.{[]}
use Rattle.ada_tree.specs.declared.statements.Sequence.{Sequence}
use Rattle.ada_tree.specs.declared.statements.Sequence.TheFolds.{map-Sequence}
use Rattle.ada_tree.specs.declared.statements.Sequence.TheShapes.{former-Sequence-parts-at-26, former-Sequence-parts-at-32, former-Sequence-parts-at-124}
use Rattle.ada_tree.specs.declared.statements.SequenceParts.{SequenceParts}
use Rattle.ada_tree.specs.declared.statements.Statement.{Statement}
use Rattle.ada_tree.specs.declared.selects.SelectAlternative.{SelectAlternative}
use Rattle.ada_tree.specs.declared.declarations.OperationBody.{OperationBody}
use Rattle.ada_tree.specs.declared.declarations.Declaration.{Declaration}

abbrev pub mapped : {A : Type 0} (f : Sequence → A) → SequenceParts Sequence → SequenceParts A
mapped {A} f s = (map-Sequence Sequence A f (record { parts = s })).parts

abbrev pub mapped_statement : {A : Type 0} (f : Sequence → A) → Statement Sequence → Statement A
mapped_statement f s = (mapped f (record { declarations = []; statements = record { first = s; others = [] }; handlers = [] })).statements.first

abbrev pub mapped_alternative : {A : Type 0} (f : Sequence → A) → SelectAlternative Sequence → SelectAlternative A
mapped_alternative {A} f x = former-Sequence-parts-at-124.map Sequence A f x

abbrev pub mapped_operation : {A : Type 0} (f : Sequence → A) → OperationBody Sequence → OperationBody A
mapped_operation {A} f x = former-Sequence-parts-at-26.map Sequence A f x

abbrev pub mapped_declaration : {A : Type 0} (f : Sequence → A) → Declaration Sequence → Declaration A
mapped_declaration {A} f d = former-Sequence-parts-at-32.map Sequence A f d
