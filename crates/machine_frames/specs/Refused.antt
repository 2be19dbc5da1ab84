-- What an answer without a value brings about.
use Rattle.ann_base.specs.declared.faults.OrMemory.{OrMemory}
use Rattle.ann_base.specs.declared.faults.OrMemory.TheVariants as answer

-- the answer is an exception, and the fact holds of it
abbrev pub IsFault : {F : Type 0} → (F → Type 0) → OrMemory F → Type 0
IsFault fact answer.Memory = ⊥
IsFault fact (answer.Fault fault) = fact fault
