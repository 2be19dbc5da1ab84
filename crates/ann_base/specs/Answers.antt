-- What a call answers whose only free answer is that memory ran out.
use Rattle.std.specs.Prelude.{◌≡◌, Result, Ok, Err}
use Rattle.ann_base.specs.declared.faults.OrMemory.{OrMemory}
use Rattle.ann_base.specs.declared.faults.OrMemory.TheVariants as answer

-- The call answers what is wanted, seen by a view, unless memory ran out.
abbrev pub AnswersAs : {X Y F : Type 0} → (X → Y) → Result X (OrMemory F) → Result Y F → Type 0
AnswersAs view (Ok x) wanted = wanted ≡ Ok (view x)
AnswersAs view (Err (answer.Fault fault)) wanted = wanted ≡ Err fault
AnswersAs view (Err answer.Memory) wanted = Unit {0}

-- The same where what is wanted is seen as it is.
abbrev pub Answers : {X F : Type 0} → Result X (OrMemory F) → Result X F → Type 0
Answers (Ok x) wanted = wanted ≡ Ok x
Answers (Err (answer.Fault fault)) wanted = wanted ≡ Err fault
Answers (Err answer.Memory) wanted = Unit {0}

-- a fact of the call's own fault
abbrev pub OfFault : {F : Type 0} → (F → Type 0) → OrMemory F → Type 0
OfFault fact answer.Memory = Unit {0}
OfFault fact (answer.Fault fault) = fact fault
