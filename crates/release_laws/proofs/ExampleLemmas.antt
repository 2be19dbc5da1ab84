-- The example on each machine, computed.
use Rattle.std.proofs.Common.{◌≡◌, true, false, refl}
use Rattle.std.specs.Fmt.{digits}
use Rattle.profile_machine.specs.Computing.{computing}
use Rattle.release_laws.specs.Examples.{rightly, without_timers, without_budgets, events_at_once, events_late}
use Rattle.release_laws.specs.Examples.{without_script, forgets_at_ticks, forgets_at_null, another_handler}

pub kept_rightly : rightly ≡ true
unfolding rightly digits computing
kept_rightly = refl

pub broken_without_timers : without_timers ≡ false
unfolding without_timers digits computing
broken_without_timers = refl

pub broken_without_budgets : without_budgets ≡ false
unfolding without_budgets digits computing
broken_without_budgets = refl

pub broken_at_once : events_at_once ≡ false
unfolding events_at_once digits computing
broken_at_once = refl

pub broken_late : events_late ≡ false
unfolding events_late digits computing
broken_late = refl

pub broken_without_script : without_script ≡ false
unfolding without_script digits computing
broken_without_script = refl

pub broken_at_ticks : forgets_at_ticks ≡ false
unfolding forgets_at_ticks digits computing
broken_at_ticks = refl

pub broken_at_null : forgets_at_null ≡ false
unfolding forgets_at_null digits computing
broken_at_null = refl

pub broken_by_another : another_handler ≡ false
unfolding another_handler digits computing
broken_by_another = refl
