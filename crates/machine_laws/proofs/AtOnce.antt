-- No step takes time: of all that steps are made of, only a tick does.
use Rattle.std.proofs.Common.{◌≡◌, ℕ, ℤ, true, List, Option, Some, None, ap, refl, sym, subst, ◌∙◌}
use Rattle.std.specs.Prelude.{int_lt, pos}
use Rattle.trace_text.specs.declared.events.Who.{Who}
use Rattle.trace_text.specs.declared.events.Who.TheVariants as who
use Rattle.profile_machine.specs.declared.world.World.{World}
use Rattle.profile_machine.specs.declared.world.tasks.Task.{Task}
use Rattle.profile_machine.specs.Tasks.{task_at, edit_task_found, edit_task}
use Rattle.machine_laws.proofs.Moves.{Moves}
use Rattle.machine_laws.proofs.FineMoves.{AnyWorld, Anybody, finely}
use Rattle.machine_laws.proofs.FinestMoves.{FinestMoves, finest}
use Rattle.machine_laws.proofs.Kept.Combinators.{Alters}

-- the time, and who ran the tick before
abbrev pub clock_of : World → ℕ × Option Who
clock_of w = (w.time, w.ran)

-- both are the same in both worlds
abbrev pub AtOnce : {X : Type 0} → World → List X → World → Type 0
AtOnce before lines after = clock_of after ≡ clock_of before

edit_found-clock : (name : Who) (f : Task → Task) (w : World) (found : Option Task) → clock_of (edit_task_found name f w found) ≡ clock_of w
edit_found-clock name f w None = refl
edit_found-clock (who.Task t) f w (Some x) = refl
edit_found-clock who.Agent f w (Some x) = refl

edit_task-clock : (name : Who) (f : Task → Task) (w : World) → clock_of (edit_task name f w) ≡ clock_of w
edit_task-clock name f w = edit_found-clock name f w (task_at w name)

pub at_once : Moves AtOnce AtOnce
at_once = record {
  stays = λ w. refl;
  goes_on = λ a b c p q. q ∙ p;
  says = λ part line w no_put. refl;
  rests = λ w. refl;
  leads_on = λ a b c p q. q ∙ p;
  settles = λ p a b xs k. k;
  silently = λ a b k. k;
  edits_task = λ name f w k. edit_task-clock name f w;
  adds_task = λ t w k. refl;
  forgets_task = λ name w. refl;
  sets_quantum = λ level ticks w. refl;
  ends_environment = λ leaving w. refl;
  begins_scope = λ p name scope b w. refl;
  draws_region = λ w. refl;
  edits_cells = λ id f w. refl;
  ends_scope = λ id w. refl;
  edits_call = λ c f w k. refl;
  adds_call = λ c w. refl;
  forgets_call = λ c w. refl;
  edits_object = λ o f w k a. refl;
  adds_object = λ p l u w. refl;
  enters = λ name o mode w h. refl;
  exits = λ name o w. refl;
  visits = λ name o mode xs w v h others k. k;
  finds_held = λ name o mode w h. refl;
  appoints = λ due moment w later. refl;
  drops_appointment = λ test w. refl;
  registers = λ r l w. refl;
  unregisters = λ n w. refl;
  draws_event = λ w. refl;
  adds_timer = λ t w. refl;
  clears_timer = λ k w. refl;
  sets_timer = λ k h value w. refl;
  sets_timers_due = λ timers w. refl;
  adds_budget = λ w. refl;
  edits_budget = λ b f w. refl;
  sets_budget_due = λ budget w. refl;
  releases = λ h argument w. refl;
  has_served = λ r w is. refl;
  sets_port = λ n value w. refl;
  masks = λ n flag w. refl;
  keeps_interrupt = λ n flag w. refl;
  cuts_script = λ x rest w is due. refl;
}

pub finely_at_once : FinestMoves AnyWorld Anybody Anybody AtOnce AtOnce
finely_at_once = finest (finely at_once)

-- so what was later before a change is later behind it
pub later_behind : (f : World → World) (w : World) (moment : ℤ) → Alters AnyWorld AtOnce f → int_lt (pos w.time) moment ≡ true
    → int_lt (pos (f w).time) moment ≡ true
unfolding Alters
later_behind f w moment kept later = subst (λ n. int_lt (pos n) moment ≡ true) (sym (ap (λ x. x.0) (kept w tt))) later
