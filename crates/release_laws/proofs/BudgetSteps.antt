-- Step 6 of an instant releases the handler of the budget that has run out, where it has one.
use Rattle.std.proofs.Common.{◌≡◌, ℕ, List, [], ◌∷◌, map, Option, Some, None, refl, sym, append-nil}
use Rattle.trace_text.specs.declared.events.Event.{Event}
use Rattle.profile_image.specs.declared.image.Image.{Image}
use Rattle.profile_machine.specs.declared.world.World.{World}
use Rattle.profile_machine.specs.declared.world.appointments.HandlerOf.{HandlerOf}
use Rattle.profile_machine.specs.declared.world.lines.Said.{Said}
use Rattle.profile_machine.specs.declared.world.lines.Part.TheVariants.{Own}
use Rattle.profile_machine.specs.Steps.{Done, done, changes, looks, for_some, goes_on_with, placed_by, ◌▷◌}
use Rattle.profile_machine.specs.Handlers.{release}
use Rattle.profile_machine.specs.Instant.{run_out, no_budget_due, budgets_due}
use Rattle.profile_machine.specs.Releases.{named_handler, released}
use Rattle.machine_laws.proofs.Moves.{lines_of}
use Rattle.machine_laws.proofs.Kept.Combinators.{Kept, From}
use Rattle.release_laws.proofs.Tellings.{Tells, tells_none, released-lines}
use Rattle.release_laws.proofs.Untouched.{sight_of, budget_in, EventsStay, TimersStay, OutsideStays}
use Rattle.release_laws.proofs.Untouched.{ClocksStay, events-stay, timers-stay, outside-stays, clocks-stay}
use Rattle.release_laws.proofs.Release.{Released, release-from}
use Rattle.release_laws.proofs.Effects.{kept-weaker}
use Rattle.release_laws.proofs.ActionEffects.{settled-by}

abbrev pub one_or_none : Option HandlerOf → List HandlerOf
one_or_none None = []
one_or_none (Some h) = h ∷ []

-- the handler of a budget that may have run out
abbrev pub of_budget : World → Option ℕ → List HandlerOf
of_budget w None = []
of_budget w (Some b) = one_or_none (budget_in w.budgets b).handler

pub record BudgetDone (a : World) (said : List Said) (b : World) : Type 0 where
  pub events : EventsStay (sight_of a) (sight_of b)
  pub timers : TimersStay (sight_of a) (sight_of b)
  pub handlers : (k : ℕ) → (budget_in b.budgets k).handler ≡ (budget_in a.budgets k).handler
  pub none_due : b.budget_due ≡ None
  pub outside : OutsideStays (sight_of a) (sight_of b)
  pub clocks : ClocksStay (sight_of a) (sight_of b)
  pub tells : Tells (of_budget a a.budget_due) said

pub record BudgetMoved (p : Image) (a : World) (lines : List Event) (b : World) : Type 0 where
  pub events : EventsStay (sight_of a) (sight_of b)
  pub timers : TimersStay (sight_of a) (sight_of b)
  pub handlers : (k : ℕ) → (budget_in b.budgets k).handler ≡ (budget_in a.budgets k).handler
  pub none_due : b.budget_due ≡ None
  pub outside : OutsideStays (sight_of a) (sight_of b)
  pub clocks : ClocksStay (sight_of a) (sight_of b)
  pub tells : released lines ≡ map (named_handler p) (of_budget a a.budget_due)

-- with these handlers
abbrev DoneWith : List HandlerOf → World → List Said → World → Type 0
DoneWith hs before said after =
    EventsStay (sight_of before) (sight_of after) × TimersStay (sight_of before) (sight_of after)
    × ((k : ℕ) → (budget_in after.budgets k).handler ≡ (budget_in before.budgets k).handler) × OutsideStays (sight_of before) (sight_of after)
    × ClocksStay (sight_of before) (sight_of after) × Tells hs said

handler-done : (p : Image) (b : ℕ) (w : World) (handler : Option HandlerOf)
    → From (DoneWith (one_or_none handler)) w (for_some handler (λ h. release p Own h (Some b)))
unfolding From Kept
handler-done p b w None said = (
  [],
  sym (append-nil said),
  (events-stay (sight_of w), timers-stay (sight_of w), (λ k. refl), outside-stays (sight_of w), clocks-stay (sight_of w), tells_none),
)
handler-done p b w (Some h) said =
    kept-weaker (Released h) (DoneWith (h ∷ [])) w said (release p Own h (Some b) w said)
    (λ v xs r. (r.others.events, r.others.timers, r.others.budgets.same, r.others.outside, r.others.clocks, r.tells)) (release-from p h (Some b) w said)

due-done : (p : Image) (w : World) (due : Option ℕ) → From (DoneWith (of_budget w due)) w (for_some due (run_out p))
unfolding From Kept run_out
due-done p w None said = (
  [],
  sym (append-nil said),
  (events-stay (sight_of w), timers-stay (sight_of w), (λ k. refl), outside-stays (sight_of w), clocks-stay (sight_of w), tells_none),
)
due-done p w (Some b) said = handler-done p b w (budget_in w.budgets b).handler said

behind-due : (w : World) (said : List Said) (d : Done) → Kept (DoneWith (of_budget w w.budget_due)) w said d
    → Kept BudgetDone w said (goes_on_with (changes no_budget_due) d)
unfolding Kept
behind-due w said (done v ys) k =
    let events = k.2.0 in
    let timers = k.2.1 in
    let outside = k.2.3 in
    let clocks = k.2.4 in (
      k.0,
      k.1,
      record {
        events = record { same = events.same; rises = events.rises };
        timers = record { same = timers.same; same_due = timers.same_due };
        handlers = k.2.2;
        none_due = refl;
        outside = record { same_script = outside.same_script; same_masked = outside.same_masked; same_kept = outside.same_kept };
        clocks = record { same_time = clocks.same_time; low = clocks.low };
        tells = k.2.5;
      },
    )

step-from : (p : Image) (w : World) → From BudgetDone w (looks (λ v. for_some v.budget_due (run_out p)) ▷ changes no_budget_due)
unfolding From
step-from p w said = behind-due w said (for_some w.budget_due (run_out p) w said) (due-done p w w.budget_due said)

budget-over : (p : Image) (w v : World) (xs : List Said) → BudgetDone w xs v → BudgetMoved p w (lines_of p xs) (placed_by (lines_of p xs) v)
budget-over p w v xs k = record {
  events = record { same = k.events.same; rises = k.events.rises };
  timers = record { same = k.timers.same; same_due = k.timers.same_due };
  handlers = k.handlers;
  none_due = k.none_due;
  outside = record { same_script = k.outside.same_script; same_masked = k.outside.same_masked; same_kept = k.outside.same_kept };
  clocks = record { same_time = k.clocks.same_time; low = k.clocks.low };
  tells = released-lines p (of_budget w w.budget_due) xs k.tells;
}

pub budget-moved : (p : Image) (w : World) → BudgetMoved p w (budgets_due p w).1 (budgets_due p w).0
unfolding From
budget-moved p w =
    settled-by BudgetDone (BudgetMoved p) p w ((looks (λ v. for_some v.budget_due (run_out p)) ▷ changes no_budget_due) w []) (λ v xs k. budget-over p w v xs k)
    (step-from p w [])
