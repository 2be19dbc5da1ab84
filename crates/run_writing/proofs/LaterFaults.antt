-- What failed in a later part of a call failed in the call.
use Rattle.std.proofs.Common.{◌≤◌, ℕ, Result, Ok, Err, IfErr}
use Rattle.ann_base.specs.declared.faults.Failed.{Failed}
use Rattle.ann_base.specs.declared.faults.OrMemory.{OrMemory}
use Rattle.ann_base.specs.declared.faults.OrMemory.TheVariants as answer
use Rattle.ann_base.specs.Answers.{OfFault}
use Rattle.ann_base.specs.Outside.{Rose}
use Rattle.commands.proofs.ServingScripts.{rose_later}

-- the faults have risen since the call began, where they rose in its part
pub fault_later : {X : Type 0} (r : Result X (OrMemory Failed)) (before middle after : ℕ) → before ≤ middle → middle ≤ after → Rose middle after
    → IfErr r (OfFault (λ _. Rose before after))
fault_later (Ok x) before middle after low high rose = tt
fault_later (Err answer.Memory) before middle after low high rose = tt
fault_later (Err (answer.Fault failed)) before middle after low high rose = rose_later before middle after low high rose
