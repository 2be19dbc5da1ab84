-- Layers of a sequence of which each sequence was replaced, and what is said of a sequence.
use Rattle.std.proofs.Common.{◌≡◌, true, [], Option, Some, None}
use Rattle.ada_tree.specs.declared.statements.Sequence.TheFolds.{map-Sequence}
use Rattle.ada_tree.specs.declared.statements.Sequence.TheShapes.{former-Sequence-parts-at-26, former-Sequence-parts-at-32, former-Sequence-parts-at-124}
use Rattle.ada_tree.specs.declared.statements.SequenceParts.{SequenceParts}
use Rattle.ada_tree.specs.declared.statements.Statement.{Statement}
use Rattle.ada_tree.specs.declared.statements.Elsif.{Elsif}
use Rattle.ada_tree.specs.declared.statements.CaseAlternative.{CaseAlternative}
use Rattle.ada_tree.specs.declared.statements.Handler.{Handler}
use Rattle.ada_tree.specs.declared.selects.SelectAlternative.{SelectAlternative}
use Rattle.ada_tree.specs.declared.declarations.OperationBody.{OperationBody}
use Rattle.ada_tree.specs.declared.declarations.Declaration.{Declaration}
use Rattle.profile_image.specs.declared.image.Image.{Image}
use Rattle.profile_image.specs.declared.numbers.StatementNo.{StatementNo}
use Rattle.ada_image.specs.declared.making.Within.{Within}
use Rattle.ada_image.specs.declared.making.SequencePlace.{SequencePlace}
use Rattle.ada_image.specs.declared.making.SequencePlace.TheVariants as sequence_place
use Rattle.ada_image.specs.ImageOfStatements.{SequenceMaking}
use Rattle.ada_image.specs.NothingLost.{SequenceReading}
use Rattle.ada_image.specs.BuiltExpressions.{Built}
use Rattle.image_laws.proofs.Images.Steps.{Step}

abbrev pub elsif_of : {A B : Type 0} → (A → B) → Elsif A → Elsif B
elsif_of f e = record { place = e.place; condition = e.condition; statements = f e.statements }

abbrev pub case_of : {A B : Type 0} → (A → B) → CaseAlternative A → CaseAlternative B
case_of f a = record { place = a.place; choices = a.choices; statements = f a.statements }

abbrev pub handler_of : {A B : Type 0} → (A → B) → Handler A → Handler B
handler_of f h = record { place = h.place; exceptions = h.exceptions; statements = f h.statements }

abbrev pub mapped : {A B : Type 0} (f : A → B) → SequenceParts A → SequenceParts B
mapped {A} {B} f s = (map-Sequence A B f (record { parts = s })).parts

abbrev pub mapped_statement : {A B : Type 0} (f : A → B) → Statement A → Statement B
mapped_statement f s = (mapped f (record { declarations = []; statements = record { first = s; others = [] }; handlers = [] })).statements.first

abbrev pub mapped_alternative : {A B : Type 0} (f : A → B) → SelectAlternative A → SelectAlternative B
mapped_alternative {A} {B} f x = former-Sequence-parts-at-124.map A B f x

abbrev pub mapped_operation : {A B : Type 0} (f : A → B) → OperationBody A → OperationBody B
mapped_operation {A} {B} f x = former-Sequence-parts-at-26.map A B f x

abbrev pub mapped_declaration : {A B : Type 0} (f : A → B) → Declaration A → Declaration B
mapped_declaration {A} {B} f d = former-Sequence-parts-at-32.map A B f d

-- all of a body leads nowhere
abbrev pub Ends : SequencePlace → Option StatementNo → Type 0
Ends sequence_place.StatementsAlone next = Unit {0}
Ends (sequence_place.BehindDeclarations part) next = Unit {0}
Ends (sequence_place.AsBody is_task_body) next = next ≡ None

-- statements alone have a first
abbrev pub Begins : SequencePlace → Option StatementNo → Type 0
Begins sequence_place.StatementsAlone r = (s : StatementNo) × (r ≡ Some s)
Begins (sequence_place.BehindDeclarations part) r = Unit {0}
Begins (sequence_place.AsBody is_task_body) r = Unit {0}

-- What is made of the sequence reads as its text.
pub record SequenceLaw (make : SequenceMaking) (read : Image → SequenceReading) (built : Built) : Type 0 where
  pub reads : (place : SequencePlace) (within : Within) (next : Option StatementNo) → Ends place next → built within.names ≡ true
      → Step (make place within next) (λ p r. Begins place r × (read p place within r next ≡ true))
