-- Steps by somebody of whom it is known that no action is open, from worlds that are good.
use Rattle.std.proofs.Common.{◌≡◌, sym, subst}
use Rattle.trace_text.specs.declared.events.Who.{Who}
use Rattle.profile_machine.specs.declared.world.World.{World}
use Rattle.profile_machine.specs.Steps.{Step}
use Rattle.world_laws.proofs.Actions.Sound.{Sound, Free, Good}
use Rattle.machine_laws.proofs.FineMoves.{Naming}
use Rattle.line_laws.proofs.Leaving.Modes.{Nobody}
use Rattle.machine_laws.proofs.Kept.Combinators.{From, Keeps}
use Rattle.world_laws.proofs.Behind.{Behind, turns-from, wide-from}

abbrev pub Only : Who → Naming
Only name n = n ≡ name

-- from a world that is known to be better than the one behind has to be
pub less-from : (F : Naming) (step : Step) (w : World) → From (Behind (Good F)) w step → From (Behind (Good Nobody)) w step
less-from F step w a = wide-from (Good F) (Good Nobody) step w (λ v g. (g.0, λ n is. absurd is)) a

pub switch-from : (F : Naming) (step : Step) (w : World) → Sound w → ((name : Who) → F name → Free name w) → Keeps (Good F) (Behind (Good F)) step
    → From (Behind (Good Nobody)) w step
switch-from F step w h k a = less-from F step w (turns-from (Good F) (Good F) step w (h, k) a)

pub only-from : (name : Who) (step : Step) (w : World) → Free name w → Good Nobody w → Keeps (Good (Only name)) (Behind (Good (Only name))) step
    → From (Behind (Good Nobody)) w step
only-from name step w free good a = switch-from (Only name) step w good.0 (λ n is. subst (λ m. Free m w) (sym is) free) a
