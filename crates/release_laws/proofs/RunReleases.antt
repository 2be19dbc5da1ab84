-- Every run keeps the law of releases: the account agrees with each world before an instant.
use Rattle.std.proofs.Common.{◌≡◌, ℕ, zero, suc, ℤ, List, [], ◌∷◌, Option, Some, None, refl, sym, ap, ◌∙◌}
use Rattle.trace_text.specs.declared.events.Created.TheVariants as created
use Rattle.trace_text.specs.declared.events.Ended.{Ended}
use Rattle.profile_image.specs.declared.image.Image.{Image}
use Rattle.profile_image.specs.declared.script_items.Item.{Item}
use Rattle.profile_machine.specs.declared.world.World.{World}
use Rattle.profile_machine.specs.declared.world.lines.Line.TheVariants as line
use Rattle.profile_machine.specs.declared.world.lines.Part.TheVariants.{Own}
use Rattle.profile_machine.specs.declared.world.marks.Purpose.TheVariants as opened_for
use Rattle.profile_machine.specs.Scopes.{plainly}
use Rattle.profile_machine.specs.Run.{environment, opens, opening, blank_world, stop, tock}
use Rattle.machine_laws.proofs.FineMoves.{AnyWorld}
use Rattle.release_laws.specs.ReleaseLaws.{Passage, machine_of, passage, history_from, Account}
use Rattle.release_laws.specs.ReleaseLaws.{first_account, account_behind, HistoryOk, ReleasesAll, OfEveryRun}
use Rattle.release_laws.proofs.Untouched.{budget_in, sight_of, Untouched, Calmly, CalmMove, calm, calm_openings}
use Rattle.release_laws.proofs.BudgetSteps.{one_or_none}
use Rattle.release_laws.proofs.TickSteps.{run_out_of}
use Rattle.profile_machine.specs.declared.world.appointments.Budget.{Budget}
use Rattle.profile_machine.specs.Values.{no_budget}
use Rattle.release_laws.proofs.Agreement.{Agrees}
use Rattle.release_laws.proofs.InstantReleases.{releases-all, agrees-behind}
use Rattle.machine_laws.proofs.Kept.Dispatching.{to_tail-keeps}
use Rattle.machine_laws.proofs.Kept.Frames.{open_sequence-keeps}
use Rattle.machine_laws.proofs.Kept.Scopes.{open_scope-alters}
use Rattle.machine_laws.proofs.FinestMoves.{chains, effect-leads, says-keeps}
use Rattle.machine_laws.proofs.Kept.Combinators.{Keeps, Leads, changes-keeps, then-keeps}

-- ---- at first nothing was asked for

opens-calm : (p : Image) → Keeps AnyWorld Calmly (opens p)
unfolding opens
opens-calm p =
    then-keeps (chains calm) _ _ (changes-keeps (chains calm) _ (open_scope-alters calm_openings p environment p.environment (plainly None) opened_for.Task tt))
    (then-keeps (chains calm) _ _ (says-keeps calm Own (line.New (created.Task (record { 0 = 0 })) None p.main.priority) refl)
    (then-keeps (chains calm) _ _ (to_tail-keeps calm p Own environment tt) (open_sequence-keeps calm p Own environment tt)))

pub opening-calm : (p : Image) (script : List (ℤ × Item)) → CalmMove (blank_world p script) (opening p script).1 (opening p script).0
unfolding Leads
opening-calm p script = effect-leads calm p (opens p) (opens-calm p) (blank_world p script) tt

blank-handlers : (p : Image) (script : List (ℤ × Item)) (i : ℕ) → one_or_none (budget_in (blank_world p script).budgets i).handler ≡ []
blank-handlers p script i = ap (λ (b : Budget). one_or_none b.handler) (none-there i)
  where
    none-there : (i : ℕ) → budget_in [] i ≡ no_budget
    none-there zero = refl
    none-there (suc i) = refl

pub opening-agrees : (p : Image) (script : List (ℤ × Item)) → Agrees (first_account script) (opening p script).0
opening-agrees p script =
    let o = (opening p script).0 in
    let k : Untouched (sight_of (blank_world p script)) (sight_of o) = (opening-calm p script).0 in
    record {
      events = k.events.same;
      rises = k.events.rises tt;
      events_differ = tt;
      timers = k.timers.same;
      timers_differ = tt;
      timers_due = k.timers.same_due;
      handlers = λ i. sym (ap one_or_none (k.budgets.same i) ∙ blank-handlers p script i);
      run_out = λ bs. sym (ap (λ due. run_out_of due bs) k.budgets.same_due);
      script = k.outside.same_script;
      flags =
          ap (λ m. record { masked = m; kept_interrupts = o.kept_interrupts }) k.outside.same_masked
          ∙ ap (λ f. record { masked = (blank_world p script).masked; kept_interrupts = f }) k.outside.same_kept;
    }

-- ---- from instant to instant

stopped-or-not : (fuel : ℕ) (p : Image) (bound : ℕ) (a : Account) (w : World) → Agrees a w → (reason : Option Ended) →
    let x = passage (machine_of p) w in
    let rest = history_from fuel (machine_of p) p bound (tock p x.after).0 in
    HistoryOk p (account_behind p a x) rest → HistoryOk p a (elim reason as (λ _. List Passage) [ Some r ↦ x ∷ [] | None ↦ x ∷ rest ])
stopped-or-not fuel p bound a w k (Some r) rest = (releases-all p a w k, tt)
stopped-or-not fuel p bound a w k None rest = (releases-all p a w k, rest)

instants-kept : (fuel : ℕ) (p : Image) (bound : ℕ) (a : Account) (w : World) → Agrees a w → HistoryOk p a (history_from fuel (machine_of p) p bound w)
instants-kept zero p bound a w k = tt
instants-kept (suc fuel) p bound a w k =
    let x = passage (machine_of p) w in
    stopped-or-not fuel p bound a w k (stop p bound x.after) (instants-kept fuel p bound (account_behind p a x) (tock p x.after).0 (agrees-behind p a w k))

pub runs_release : OfEveryRun ReleasesAll
runs_release p script bound = instants-kept (suc bound) p bound (first_account script) (opening p script).0 (opening-agrees p script)
