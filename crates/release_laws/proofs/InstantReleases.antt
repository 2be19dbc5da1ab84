-- Where the account agrees with the world before an instant, the instant releases what it owes, and behind the tock that follows
-- they agree again.
use Rattle.std.proofs.Common.{◌≡◌, ℕ, eqb, filter, List, [], ◌∷◌, ◌++◌, map, Option, Some, None, refl, sym, ap, subst, ◌∙◌, append-nil, append_assoc}
use Rattle.profile_image.specs.declared.image.Image.{Image}
use Rattle.profile_machine.specs.declared.world.World.{World}
use Rattle.profile_image.specs.Words.{without}
use Rattle.profile_machine.specs.Steps.{Move, ◌▶◌}
use Rattle.profile_machine.specs.Instant.{finish_action, script_items, events_due, moments_due, timers_due, budgets_due, quantum_spent}
use Rattle.profile_machine.specs.Run.{tock}
use Rattle.profile_machine.specs.Releases.{NamedHandler, named_handler, released, later_steps}
use Rattle.machine_laws.proofs.Kept.Combinators.{Leads}
use Rattle.release_laws.specs.Asked.{Request, asked}
use Rattle.release_laws.specs.ReleaseLaws.{EventSet, TimerSet, BudgetSet, Passage, machine_of, passage, Account, events_asked, has_come, timers_asked}
use Rattle.release_laws.specs.ReleaseLaws.{is_reached, budgets_asked, items_come, items_ahead, flags_behind, due_by_items, owed_at_once}
use Rattle.release_laws.specs.ReleaseLaws.{owed_of_interrupts, owed_of_events, owed_of_timers, owed_of_budgets, account_behind, ReleasesAll}
use Rattle.release_laws.proofs.EventLists.{events_of, Rises}
use Rattle.release_laws.proofs.TimerLists.{timers_in}
use Rattle.release_laws.proofs.KeyedLists.{Differ, without-differ}
use Rattle.release_laws.proofs.Untouched.{sight_of, budget_in, ClocksStay, clocks-then, CalmMove, calm, released-append}
use Rattle.release_laws.proofs.Effects.{owed-at_once, due_asked}
use Rattle.release_laws.proofs.ActionEffects.{Acted, action-acted}
use Rattle.release_laws.proofs.EventSteps.{number_of_event, handler_of_event, EventsMoved, events-moved}
use Rattle.release_laws.proofs.TimerSteps.{number_of_timer, handler_of_timer, timers_of, TimersMoved, timers-moved}
use Rattle.release_laws.proofs.BudgetSteps.{one_or_none, of_budget, BudgetMoved, budget-moved}
use Rattle.release_laws.proofs.ScriptSteps.{flags_of, ItemsMoved, items-moved}
use Rattle.release_laws.proofs.TickSteps.{NoneReached, run_out_of}
use Rattle.release_laws.proofs.Tocks.{Ticked, tock-ticked}
use Rattle.release_laws.proofs.Agreement.{Agrees, events-differ, timers-differ, due-asked, left-unreached, handler_of_budget, handlers_for, handlers-asked}
use Rattle.machine_laws.proofs.Kept.Instant.{moments_due-leads, quantum_spent-leads}

-- ---- the steps that release nothing

moments-calm : (p : Image) (w : World) → CalmMove w (moments_due p w).1 (moments_due p w).0
unfolding Leads
moments-calm p w = moments_due-leads calm p w tt

quantum-calm : (p : Image) (w : World) → CalmMove w (quantum_spent p w).1 (quantum_spent p w).0
unfolding Leads
quantum-calm p w = quantum_spent-leads calm p w tt

-- ---- names of handlers

map-twice : {X Y Z : Type 0} (f : X → Y) (g : Y → Z) (xs : List X) → map g (map f xs) ≡ map (λ x. g (f x)) xs
map-twice f g [] = refl
map-twice f g (x ∷ xs) = ap (λ ys. g (f x) ∷ ys) (map-twice f g xs)

budget-handlers : (p : Image) (w : World) (due : Option ℕ) (bs : List BudgetSet) → ((k : ℕ) → handlers_for k bs ≡ one_or_none (budget_in w.budgets k).handler)
    → map (named_handler p) (of_budget w due) ≡ map (λ s. named_handler p s.handler) (run_out_of due bs)
budget-handlers p w None bs h = refl
budget-handlers p w (Some b) bs h = ap (map (named_handler p)) (sym (h b)) ∙ map-twice handler_of_budget (named_handler p) (filter (λ s. eqb b s.budget) bs)

nested : {X : Type 0} (a b c d e : List X) → a ++ (b ++ (c ++ (d ++ e))) ≡ a ++ b ++ c ++ d ++ e
nested a b c d e = sym (append_assoc (a ++ b ++ c) d e ∙ append_assoc (a ++ b) c (d ++ e) ∙ append_assoc a b (c ++ (d ++ e)))

-- one move behind the other releases both
one_behind : (f g : Move) (w : World) (hs ks : List NamedHandler) → released (f w).1 ≡ hs → released (g (f w).0).1 ≡ ks → released ((f ▶ g) w).1 ≡ hs ++ ks
one_behind f g w hs ks e k = released-append (f w).1 (g (f w).0).1 ∙ ap (λ zs. zs ++ released (g (f w).0).1) e ∙ ap (λ zs. hs ++ zs) k

-- ---- an instant

module _ (p : Image) (a : Account) (w : World) (agrees : Agrees a w) where
  abbrev request : Request
  request = asked p w

  abbrev events_now : List EventSet
  events_now = events_asked w.time request a.events

  abbrev timers_now : List TimerSet
  timers_now = timers_asked w request a.timers

  abbrev budgets_now : List BudgetSet
  budgets_now = budgets_asked w request a.budgets

  abbrev w1 : World
  w1 = (finish_action p w).0

  abbrev w2 : World
  w2 = (script_items p w1).0

  abbrev w3 : World
  w3 = (events_due p w2).0

  abbrev w4 : World
  w4 = (moments_due p w3).0

  abbrev w5 : World
  w5 = (timers_due p w4).0

  abbrev w6 : World
  w6 = (budgets_due p w5).0

  abbrev w7 : World
  w7 = (quantum_spent p w6).0

  abbrev x : Passage
  x = passage (machine_of p) w

  acted : Acted p w (finish_action p w).1 w1
  acted = action-acted p w

  -- behind the effect
  time1 : w1.time ≡ w.time
  time1 = acted.does.clocks.same_time

  events1 : events_of w1.appointments ≡ events_now
  events1 = acted.does.events agrees.rises ∙ ap (events_asked w.time request) agrees.events

  timers1 : timers_of w1 ≡ timers_now
  timers1 = acted.does.timers ∙ ap (timers_asked w request) agrees.timers

  due1 : w1.timers_due ≡ map number_of_timer (filter (is_reached w) timers_now)
  due1 = acted.does.timers_due ∙ ap (due_asked request) agrees.timers_due ∙ due-asked w request a.timers

  handlers1 : (k : ℕ) → handlers_for k budgets_now ≡ one_or_none (budget_in w1.budgets k).handler
  handlers1 k = handlers-asked w a.budgets request k (agrees.handlers k) ∙ ap one_or_none (sym (acted.does.handlers k))

  script1 : w1.script ≡ a.ahead
  script1 = acted.does.outside.same_script ∙ agrees.script

  flags1 : flags_of w1 ≡ a.flags
  flags1 =
      ap (λ m. record { masked = m; kept_interrupts = w1.kept_interrupts }) acted.does.outside.same_masked
      ∙ ap (λ k. record { masked = w.masked; kept_interrupts = k }) acted.does.outside.same_kept ∙ agrees.flags

  -- behind the items of the script
  items : ItemsMoved p w1 (script_items p w1).1 w2
  items = items-moved p w1

  come1 : items_come w1.time w1.script ≡ items_come w.time a.ahead
  come1 = ap (λ n. items_come n w1.script) time1 ∙ ap (items_come w.time) script1

  time2 : w2.time ≡ w.time
  time2 = items.clocks.same_time ∙ time1

  events2 : events_of w2.appointments ≡ events_now
  events2 = items.events.same ∙ events1

  rises2 : Rises w2.appointments
  rises2 = items.events.rises (acted.does.rises agrees.rises)

  timers2 : timers_of w2 ≡ timers_now
  timers2 = items.timers.same ∙ timers1

  script2 : w2.script ≡ items_ahead w.time a.ahead
  script2 = items.script ∙ ap (λ n. items_ahead n w1.script) time1 ∙ ap (items_ahead w.time) script1

  flags2 : flags_of w2 ≡ flags_behind (items_come w.time a.ahead) a.flags
  flags2 = items.flags_then ∙ ap (λ xs. flags_behind xs (flags_of w1)) come1 ∙ ap (flags_behind (items_come w.time a.ahead)) flags1

  -- behind the events
  came : EventsMoved p w2 (events_due p w2).1 w3
  came = events-moved p w2 (subst (Differ number_of_event) (sym events2) (events-differ w.time request a.events agrees.events_differ))

  events3 : events_of w3.appointments ≡ without (has_come w.time) events_now
  events3 = came.events ∙ ap (λ n. without (has_come n) (events_of w2.appointments)) time2 ∙ ap (without (has_come w.time)) events2

  -- behind delays and time-outs
  moments : CalmMove w3 (moments_due p w3).1 w4
  moments = moments-calm p w3

  timers4 : timers_of w4 ≡ timers_now
  timers4 = moments.0.timers.same ∙ came.timers.same ∙ timers2

  due4 : w4.timers_due ≡ map number_of_timer (filter (is_reached w) timers_now)
  due4 = moments.0.timers.same_due ∙ came.timers.same_due ∙ items.timers.same_due ∙ due1

  -- behind the timers
  reached : TimersMoved p (is_reached w) w4 (timers_due p w4).1 w5
  reached = timers-moved p (is_reached w) w4 (
    subst (Differ number_of_timer) (sym timers4) (timers-differ w request a.timers agrees.timers_differ),
    ap (λ ss. map number_of_timer (filter (is_reached w) ss)) timers4 ∙ sym due4,
  )

  -- behind the budgets
  ran_out : BudgetMoved p w5 (budgets_due p w5).1 w6
  ran_out = budget-moved p w5

  handlers5 : (k : ℕ) → handlers_for k budgets_now ≡ one_or_none (budget_in w5.budgets k).handler
  handlers5 k = handlers1 k ∙ ap one_or_none (sym (reached.budgets.same k ∙ moments.0.budgets.same k ∙ came.budgets.same k ∙ items.budgets.same k))

  due5 : w5.budget_due ≡ w.budget_due
  due5 = reached.budgets.same_due ∙ moments.0.budgets.same_due ∙ came.budgets.same_due ∙ items.budgets.same_due ∙ acted.does.budget_due

  quantum : CalmMove w6 (quantum_spent p w6).1 w7
  quantum = quantum-calm p w6

  -- ---- what it releases

  told_once : released (finish_action p w).1 ≡ owed_at_once p w request
  told_once = acted.tells ∙ sym (owed-at_once p w request)

  told_interrupts : released (script_items p w1).1 ≡ owed_of_interrupts p a x
  told_interrupts = items.tells ∙ ap (λ xs. due_by_items p w1 xs (flags_of w1)) come1 ∙ ap (due_by_items p w1 (items_come w.time a.ahead)) flags1

  told_events : released (events_due p w2).1 ≡ owed_of_events p a x
  told_events =
      came.tells
      ∙ ap (λ n. map (named_handler p) (map handler_of_event (filter (has_come n) (events_of w2.appointments)))) time2
      ∙ ap (λ es. map (named_handler p) (map handler_of_event (filter (has_come w.time) es))) events2
      ∙ map-twice handler_of_event (named_handler p) (filter (has_come w.time) events_now)

  told_timers : released (timers_due p w4).1 ≡ owed_of_timers p a x
  told_timers =
      reached.tells
      ∙ ap (λ ss. map (named_handler p) (map handler_of_timer (filter (is_reached w) ss))) timers4
      ∙ map-twice handler_of_timer (named_handler p) (filter (is_reached w) timers_now)

  told_budgets : released (budgets_due p w5).1 ≡ owed_of_budgets p a x
  told_budgets =
      ran_out.tells
      ∙ budget-handlers p w5 w5.budget_due budgets_now handlers5
      ∙ ap (λ due. map (λ s. named_handler p s.handler) (run_out_of due budgets_now)) due5
      ∙ ap (map (λ s. named_handler p s.handler)) (sym (agrees.run_out budgets_now))

  -- the steps from one on, each with what it releases
  abbrev owed5 : List NamedHandler
  owed5 = owed_of_budgets p a x

  abbrev owed4 : List NamedHandler
  owed4 = owed_of_timers p a x ++ owed5

  abbrev owed3 : List NamedHandler
  owed3 = owed_of_events p a x ++ owed4

  abbrev owed2 : List NamedHandler
  owed2 = owed_of_interrupts p a x ++ owed3

  told6 : released ((budgets_due p ▶ quantum_spent p) w5).1 ≡ owed5
  told6 = one_behind (budgets_due p) (quantum_spent p) w5 owed5 [] told_budgets quantum.1 ∙ append-nil owed5

  told5 : released ((timers_due p ▶ budgets_due p ▶ quantum_spent p) w4).1 ≡ owed4
  told5 = one_behind (timers_due p) (budgets_due p ▶ quantum_spent p) w4 (owed_of_timers p a x) owed5 told_timers told6

  told4 : released ((moments_due p ▶ timers_due p ▶ budgets_due p ▶ quantum_spent p) w3).1 ≡ owed4
  told4 = one_behind (moments_due p) (timers_due p ▶ budgets_due p ▶ quantum_spent p) w3 [] owed4 moments.1 told5

  told3 : released ((events_due p ▶ moments_due p ▶ timers_due p ▶ budgets_due p ▶ quantum_spent p) w2).1 ≡ owed3
  told3 = one_behind (events_due p) (moments_due p ▶ timers_due p ▶ budgets_due p ▶ quantum_spent p) w2 (owed_of_events p a x) owed4 told_events told4

  told2 : released ((script_items p ▶ events_due p ▶ moments_due p ▶ timers_due p ▶ budgets_due p ▶ quantum_spent p) w1).1 ≡ owed2
  told2 =
      one_behind (script_items p) (events_due p ▶ moments_due p ▶ timers_due p ▶ budgets_due p ▶ quantum_spent p) w1
      (owed_of_interrupts p a x) owed3 told_interrupts told3

  told1 : released ((finish_action p ▶ later_steps p) w).1 ≡ owed_at_once p w request ++ owed2
  told1 = one_behind (finish_action p) (later_steps p) w (owed_at_once p w request) owed2 told_once told2

  pub releases-all : ReleasesAll p a x
  releases-all = told1 ∙ nested (owed_at_once p w request) (owed_of_interrupts p a x) (owed_of_events p a x) (owed_of_timers p a x) (owed_of_budgets p a x)

  -- ---- and what is left behind the tock

  abbrev next : World
  next = (tock p w7).0

  ticked : Ticked w7 next
  ticked = tock-ticked p w7

  clocks7 : ClocksStay (sight_of w) (sight_of w7)
  clocks7 =
      clocks-then (sight_of w) (sight_of w1) (sight_of w7) acted.does.clocks
      (clocks-then (sight_of w1) (sight_of w2) (sight_of w7) items.clocks
      (clocks-then (sight_of w2) (sight_of w3) (sight_of w7) came.clocks
      (clocks-then (sight_of w3) (sight_of w4) (sight_of w7) moments.0.clocks
      (clocks-then (sight_of w4) (sight_of w5) (sight_of w7) reached.clocks
      (clocks-then (sight_of w5) (sight_of w6) (sight_of w7) ran_out.clocks quantum.0.clocks)))))

  events7 : events_of w7.appointments ≡ without (has_come w.time) events_now
  events7 = quantum.0.events.same ∙ ran_out.events.same ∙ reached.events.same ∙ moments.0.events.same ∙ events3

  rises7 : Rises w7.appointments
  rises7 = quantum.0.events.rises (ran_out.events.rises (reached.events.rises (moments.0.events.rises (came.rises rises2))))

  timers7 : timers_of w7 ≡ without (is_reached w) timers_now
  timers7 = quantum.0.timers.same ∙ ran_out.timers.same ∙ reached.timers ∙ ap (without (is_reached w)) timers4

  due7 : w7.timers_due ≡ []
  due7 = quantum.0.timers.same_due ∙ ran_out.timers.same_due ∙ reached.none_due

  budget_due7 : w7.budget_due ≡ None
  budget_due7 = quantum.0.budgets.same_due ∙ ran_out.none_due

  script7 : w7.script ≡ items_ahead w.time a.ahead
  script7 =
      quantum.0.outside.same_script ∙ ran_out.outside.same_script ∙ reached.outside.same_script ∙ moments.0.outside.same_script ∙ came.outside.same_script
      ∙ script2

  masked7 : w7.masked ≡ w2.masked
  masked7 = quantum.0.outside.same_masked ∙ ran_out.outside.same_masked ∙ reached.outside.same_masked ∙ moments.0.outside.same_masked ∙ came.outside.same_masked

  kept7 : w7.kept_interrupts ≡ w2.kept_interrupts
  kept7 = quantum.0.outside.same_kept ∙ ran_out.outside.same_kept ∙ reached.outside.same_kept ∙ moments.0.outside.same_kept ∙ came.outside.same_kept

  unreached7 : NoneReached w7 (timers_of w7)
  unreached7 = subst (NoneReached w7) (sym timers7) (left-unreached w w7 timers_now clocks7.low)

  timers8 : timers_of next ≡ without (is_reached w) timers_now
  timers8 = ap (λ ts. timers_in ts next.timers_set) ticked.timers ∙ ap (timers_in w7.timers) ticked.timers_set ∙ timers7

  pub agrees-behind : Agrees (account_behind p a x) next
  agrees-behind = record {
    events = ap events_of ticked.appointments ∙ events7;
    rises = subst Rises (sym ticked.appointments) rises7;
    events_differ = without-differ number_of_event (has_come w.time) events_now (events-differ w.time request a.events agrees.events_differ);
    timers = timers8;
    timers_differ = without-differ number_of_timer (is_reached w) timers_now (timers-differ w request a.timers agrees.timers_differ);
    timers_due = ticked.due due7 unreached7 ∙ ap (λ ss. map number_of_timer (filter (is_reached next) ss)) timers7;
    handlers = λ k. handlers5 k ∙ ap one_or_none (sym (ticked.handlers k ∙ quantum.0.budgets.same k ∙ ran_out.handlers k));
    run_out = ticked.run_out budget_due7;
    script = ticked.script ∙ script7;
    flags =
        ap (λ m. record { masked = m; kept_interrupts = next.kept_interrupts }) (ticked.masked ∙ masked7)
        ∙ ap (λ k. record { masked = w2.masked; kept_interrupts = k }) (ticked.kept ∙ kept7) ∙ flags2;
  }
