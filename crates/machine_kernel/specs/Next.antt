-- What a call of next did.
use Rattle.std.specs.Prelude.{◌≡◌, []}
use Rattle.std.specs.Option.{IsSome}
use Rattle.machine_kernel.specs.Future.{Shown}
use Rattle.machine_kernel.specs.declared.kernel.Next.{Next}
use Rattle.machine_kernel.specs.declared.kernel.Next.TheVariants.{Going, Ended}

-- a fact where the run goes on
abbrev pub IfGoing : Type 0 → Next → Type 0
IfGoing P Going = P
IfGoing P Ended = Unit {0}

-- a fact where the run has ended
abbrev pub IfEnded : Type 0 → Next → Type 0
IfEnded P Going = Unit {0}
IfEnded P Ended = P

-- a stop is reached and no line is owed, and all stays as it is
abbrev pub IsOver : Shown → Shown → Type 0
IsOver old new = (old.owed ≡ []) × IsSome old.stop × (new ≡ old)
