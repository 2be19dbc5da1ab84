-- The two runs of the example, computed.
use Rattle.std.proofs.Common.{◌≡◌, true, false, refl}
use Rattle.std.specs.Fmt.{digits}
use Rattle.profile_machine.specs.Computing.{computing}
use Rattle.ceiling_laws.specs.CeilingLaws.{edf_is_below_interrupts}
use Rattle.ceiling_laws.specs.Examples.{handler_by_deadline_at, keeps_ceilings_at, enters_at}

pub priorities_keep : keeps_ceilings_at 30 ≡ true
unfolding keeps_ceilings_at digits computing
priorities_keep = refl

pub priorities_enter : enters_at 30 ≡ true
unfolding enters_at digits computing
priorities_enter = refl

pub interrupts_break : keeps_ceilings_at 31 ≡ false
unfolding keeps_ceilings_at digits computing
interrupts_break = refl

pub priorities_below : edf_is_below_interrupts (handler_by_deadline_at 30) ≡ true
priorities_below = refl

pub interrupts_above : edf_is_below_interrupts (handler_by_deadline_at 31) ≡ false
interrupts_above = refl
