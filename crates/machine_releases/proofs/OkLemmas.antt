-- What follows where a call answers `Ok`.
use Rattle.std.proofs.Common.{Result, Ok, Err, OnOk}

pub and_so : {X E : Type 0} {P Q : Type 0} (r : Result X E) → (P → Q) → OnOk r P → OnOk r Q
and_so (Ok x) k p = k p
and_so (Err e) k p = tt
