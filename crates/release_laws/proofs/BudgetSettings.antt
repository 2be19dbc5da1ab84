-- Each statement that sets or cancels a budget's handler does what it asks for.
use Rattle.std.proofs.Common.{◌≡◌, ℕ, Bool, true, false, cond, not, ◌&&◌, eqb, ltb, List, [], Option, None, refl, sym, ap, subst, ◌∙◌, append-nil}
use Rattle.std.specs.Prelude.{Ok, is_some}
use Rattle.std.proofs.lemmas.Bool.{eqb-true}
use Rattle.ann_base.specs.declared.exceptions.Raised.TheVariants as exception
use Rattle.trace_text.specs.declared.events.Who.{Who}
use Rattle.profile_image.specs.declared.image.Image.{Image}
use Rattle.profile_image.specs.declared.numbers.DeclNo.{DeclNo}
use Rattle.profile_image.specs.declared.numbers.StatementNo.{StatementNo}
use Rattle.profile_image.specs.declared.expressions.VariableName.{VariableName}
use Rattle.profile_image.specs.declared.statements.HandlerName.{HandlerName}
use Rattle.profile_image.specs.declared.statements.StatementForm.TheVariants as form
use Rattle.profile_machine.specs.declared.world.World.{World}
use Rattle.profile_machine.specs.declared.world.appointments.Budget.{Budget}
use Rattle.profile_machine.specs.declared.world.appointments.HandlerOf.{HandlerOf}
use Rattle.profile_machine.specs.declared.world.lines.Part.TheVariants.{Own}
use Rattle.profile_image.specs.Program.{next_of}
use Rattle.profile_image.specs.Words.{edit_at}
use Rattle.profile_machine.specs.Steps.{changes, ◌▷◌}
use Rattle.profile_machine.specs.Frames.{goes, given, raise_if}
use Rattle.profile_machine.specs.Values.{seen_by, number_of_thing, variable, no_budget}
use Rattle.profile_machine.specs.Handlers.{handler_named, with_room_for_release, is_interrupt_handler}
use Rattle.profile_machine.specs.Handlers.{edit_budget, with_handler, set_budget, cancel_budget, answer}
use Rattle.profile_machine.specs.Values.{budget_of}
use Rattle.machine_laws.proofs.Kept.Combinators.{Kept, From}
use Rattle.release_laws.specs.Asked.{OfBudget, request_of, or_nothing}
use Rattle.release_laws.specs.ReleaseLaws.{is_number_of}
use Rattle.release_laws.proofs.EventLists.{events_of, Rises}
use Rattle.release_laws.proofs.TimerLists.{timers_in, edited-other, edited-itself, read-past, edited-length}
use Rattle.release_laws.proofs.Tellings.{tells_none}
use Rattle.release_laws.proofs.Untouched.{Sight, budget_in}
use Rattle.release_laws.proofs.Effects.{Effect, Does, Alike, alike-clocks, alike-outside, given-does, with_room-does, raise_if-does, gone-does}
use Rattle.release_laws.proofs.Settings.{Onward, sees-does, answered-from}

module _ (n : ℕ) (h : Option HandlerOf) (budgets : List Budget) where
  abbrev set_budgets : List Budget
  set_budgets = edit_at n (with_handler h) budgets

  there-where : (b : Bool) → is_number_of budgets n ≡ b → (budget_in set_budgets n).handler ≡ cond b h (budget_in budgets n).handler
  there-where true is = ap (λ (x : Budget). x.handler) (edited-itself (with_handler h) no_budget budgets n is)
  there-where false is =
      ap (λ (x : Budget). x.handler)
      (read-past no_budget set_budgets n (ap (λ k. ltb n k) (edited-length (with_handler h) budgets n) ∙ is) ∙ sym (read-past no_budget budgets n is))

  handler-where : (k : ℕ) (b : Bool) → eqb n k ≡ b → (budget_in set_budgets k).handler ≡ cond (b && is_number_of budgets n) h (budget_in budgets k).handler
  handler-where k true is =
      subst (λ i. (budget_in set_budgets i).handler ≡ cond (is_number_of budgets n) h (budget_in budgets i).handler) (eqb-true n k is)
      (there-where (is_number_of budgets n) refl)
  handler-where k false is = ap (λ (x : Budget). x.handler) (edited-other (with_handler h) no_budget budgets n k is)

-- only a budget's handler has changed since
budget-effect : (n : ℕ) (h : Option HandlerOf) (w v : World) → Alike w v → Effect (OfBudget n h) w (edit_budget n (with_handler h) v)
budget-effect n h w v k =
    let appointments : v.appointments ≡ w.appointments = ap (λ (s : Sight). s.appointments) k.sights in
    let outside = alike-outside w v k in
    let clocks = alike-clocks w v k in
    record {
      events = λ r. ap events_of appointments;
      rises = λ r. subst Rises (sym appointments) r;
      timers = ap (λ (s : Sight). timers_in s.timers s.timers_set) k.sights;
      timers_due = ap (λ (s : Sight). s.timers_due) k.sights;
      handlers =
          λ i. handler-where n h v.budgets i (eqb n i) refl
          ∙ ap (λ (s : Sight). cond (eqb n i && is_number_of s.budgets n) h (budget_in s.budgets i).handler) k.sights;
      budget_due = ap (λ (s : Sight). s.budget_due) k.sights;
      outside = record { same_script = outside.same_script; same_masked = outside.same_masked; same_kept = outside.same_kept };
      clocks = record { same_time = clocks.same_time; low = clocks.low };
    }

set_from : (n : ℕ) (h : Option HandlerOf) (w v : World) → Alike w v → From (Onward (OfBudget n h) w) v (changes (edit_budget n (with_handler h)))
unfolding From Kept
set_from n h w v k said = ([], sym (append-nil said), (budget-effect n h w v k, tells_none))

pub set_budget-does : (p : Image) (name : Who) (s : StatementNo) (d : DeclNo) (handler : Option HandlerName) (w : World)
    → Does (or_nothing (request_of p (seen_by p w name) (form.SetBudget d handler))) w (set_budget p name s d handler)
unfolding set_budget
set_budget-does p name s d handler w =
    sees-does _ p name
    (λ q. given Own name (number_of_thing q d)
    (λ n. given Own name (handler_named q handler)
    (λ h. with_room_for_release name (is_some h)
    (raise_if name (not (is_interrupt_handler p q.world h)) exception.Program (goes name (next_of p s) ▷ changes (edit_budget n (with_handler h))))))) w
    (given-does name w (number_of_thing (seen_by p w name) d) _ _ (λ n e.
    given-does name w (handler_named (seen_by p w name) handler) _ _ (λ h f.
    with_room-does p name w h _ _
    (raise_if-does name w (not (is_interrupt_handler p w h)) exception.Program (Ok (OfBudget n h))
    (goes name (next_of p s) ▷ changes (edit_budget n (with_handler h)))
    (gone-does (OfBudget n h) name (next_of p s) w (changes (edit_budget n (with_handler h))) (λ v k. set_from n h w v k))))))

pub cancel_budget-does : (p : Image) (name : Who) (s : StatementNo) (d : DeclNo) (target : VariableName) (w : World)
    → Does (or_nothing (request_of p (seen_by p w name) (form.CancelBudget d target))) w (cancel_budget p name s d target)
unfolding cancel_budget
cancel_budget-does p name s d target w =
    sees-does _ p name
    (λ q. given Own name (number_of_thing q d)
    (λ n. given Own name (variable q target)
    (λ x. goes name (next_of p s) ▷ changes (edit_budget n (with_handler None)) ▷ answer p name x (is_some (budget_of q.world n).handler)))) w
    (given-does name w (number_of_thing (seen_by p w name) d) _ _ (λ n e.
    given-does name w (variable (seen_by p w name) target) _ _ (λ x f.
    gone-does (OfBudget n None) name (next_of p s) w (changes (edit_budget n (with_handler None)) ▷ answer p name x (is_some (budget_of w n).handler))
    (λ v k.
    answered-from p name x (is_some (budget_of w n).handler) (OfBudget n None) w v (edit_budget n (with_handler None)) (budget-effect n None w v k) refl))))
