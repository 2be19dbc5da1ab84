-- Every line of a run is printable, where it names something: each line of an effect has its names from the program, and it
-- does not matter which step says it.
use Rattle.std.proofs.Common.{◌≡◌, ℕ, ℤ, Bool, true, false, cond, List, [], ◌∷◌, map, length, Option, Some, None}
use Rattle.std.proofs.lemmas.Bool.{false≢true}
use Rattle.ann_base.specs.declared.exceptions.Raised.{Raised}
use Rattle.trace_text.specs.declared.events.Event.{Event}
use Rattle.trace_text.specs.declared.events.Event.TheVariants as written
use Rattle.trace_text.specs.declared.events.Ended.{Ended}
use Rattle.trace_text.specs.declared.events.Ended.TheVariants as why
use Rattle.trace_text.specs.declared.events.Who.{Who}
use Rattle.profile_image.specs.declared.image.Image.{Image}
use Rattle.profile_image.specs.declared.script_items.Item.{Item}
use Rattle.profile_machine.specs.declared.world.World.{World}
use Rattle.profile_machine.specs.declared.world.lines.Said.{Said}
use Rattle.profile_machine.specs.Lines.{event_of}
use Rattle.profile_machine.specs.Steps.{Step, Move, Done, done, looks, changes, for_some, for_each, in_order, settled, settles, rests, watches, ◌▷◌, ◌▶◌}
use Rattle.profile_machine.specs.Tasks.{task_of}
use Rattle.profile_machine.specs.Instant.{effect, is_over, effect_of_runner, finish_action, items_due, script_items, all_due}
use Rattle.profile_machine.specs.Instant.{appointments_due, events_due, moments_due, expire_timer, no_timers_due, timers_due}
use Rattle.profile_machine.specs.Instant.{run_out, no_budget_due, budgets_due, spend_quantum, quantum_spent, instant}
use Rattle.profile_machine.specs.Run.{opens, opening, blank_world, tock, stop, stop_by_end, stop_by_stuck, stop_by_bound, run_of}
use Rattle.std.specs.Option.{option_or}
use Rattle.machine_laws.specs.LineKinds.{is_of_tock, AllAre}
use Rattle.machine_laws.proofs.LineLemmas.{tocks_say_ticks}
use Rattle.line_laws.specs.Names.{IsNamed, IsPrintableIfComplete, EachEvent}
use Rattle.line_laws.proofs.Printing.NameLemmas.{exception-named, events_are_printable}
use Rattle.line_laws.proofs.Printing.RunLines.{AllOf, AllOf-append, OfEnd, run-each}

-- ---- instants

module _ (p : Image) (n : IsNamed p) where
  events_of-printable : (said : List Said) → AllOf IsPrintableIfComplete (map (λ x. event_of p x.line) said)
  events_of-printable [] = tt
  events_of-printable (x ∷ xs) = (events_are_printable p n x.line, events_of-printable xs)

  settled-printable : (d : Done) → AllOf IsPrintableIfComplete (settled p d).1
  settled-printable (done w said) = events_of-printable (in_order said)

  -- a move says such lines in every world
  Tells : Move → Type 0
  Tells move = (w : World) → AllOf IsPrintableIfComplete (move w).1

  settles-tells : (step : Step) → Tells (settles p step)
  unfolding Tells
  settles-tells step w = settled-printable (step w [])

  rests-tells : Tells rests
  unfolding Tells
  rests-tells w = tt

  then-tells : (f g : Move) → Tells f → Tells g → Tells (f ▶ g)
  unfolding Tells
  then-tells f g a b w = AllOf-append IsPrintableIfComplete (f w).1 (g (f w).0).1 (a w) (b (f w).0)

  watches-tells : (f : World → Move) → ((v : World) → Tells (f v)) → Tells (watches f)
  unfolding Tells
  watches-tells f a w = a w w

  if_over-tells : (test : Bool) (name : Who) → Tells (elim test as (λ _. Move) [ true ↦ settles p (effect p name) | false ↦ rests ])
  if_over-tells true name = settles-tells (effect p name)
  if_over-tells false name = rests-tells

  effect_of_runner-tells : (by : Option Who) → Tells (effect_of_runner p by)
  effect_of_runner-tells None = rests-tells
  effect_of_runner-tells (Some name) =
      watches-tells (λ w. elim (is_over (task_of w name).ticks_left) as (λ _. Move) [ true ↦ settles p (effect p name) | false ↦ rests ])
      (λ w. if_over-tells (is_over (task_of w name).ticks_left) name)

  finish_action-tells : Tells (finish_action p)
  finish_action-tells = watches-tells (λ w. effect_of_runner p w.ran) (λ w. effect_of_runner-tells w.ran)

  appointments_due-tells : (events : Bool) → Tells (appointments_due p events)
  appointments_due-tells events = settles-tells (looks (λ w. all_due (length w.appointments) p events))

  instant-tells : Tells (instant p)
  instant-tells =
      then-tells (finish_action p) (script_items p ▶ events_due p ▶ moments_due p ▶ timers_due p ▶ budgets_due p ▶ quantum_spent p) finish_action-tells
      (then-tells (script_items p) (events_due p ▶ moments_due p ▶ timers_due p ▶ budgets_due p ▶ quantum_spent p)
      (settles-tells (looks (λ w. items_due (length w.script) p)))
      (then-tells (events_due p) (moments_due p ▶ timers_due p ▶ budgets_due p ▶ quantum_spent p) (appointments_due-tells true)
      (then-tells (moments_due p) (timers_due p ▶ budgets_due p ▶ quantum_spent p) (appointments_due-tells false)
      (then-tells (timers_due p) (budgets_due p ▶ quantum_spent p)
      (settles-tells (looks (λ w. for_each w.timers_due (expire_timer p)) ▷ changes no_timers_due))
      (then-tells (budgets_due p) (quantum_spent p)
      (settles-tells (looks (λ w. for_some w.budget_due (run_out p)) ▷ changes no_budget_due))
      (settles-tells (looks (λ w. spend_quantum p w.ran))))))))

  instant-printable : (w : World) → AllOf IsPrintableIfComplete (instant p w).1
  unfolding Tells
  instant-printable w = instant-tells w

  opening-printable : (script : List (ℤ × Item)) → AllOf IsPrintableIfComplete (opening p script).1
  opening-printable script = settled-printable (opens p (blank_world p script) [])

  -- ---- ends

  option_or-printable : (a b : Option Ended) → OfEnd IsPrintableIfComplete a → OfEnd IsPrintableIfComplete b → OfEnd IsPrintableIfComplete (option_or a b)
  option_or-printable None b k l = l
  option_or-printable (Some reason) b k l = k

  by_end-printable : (ended : Option (Option Raised)) → OfEnd IsPrintableIfComplete (stop_by_end p ended)
  by_end-printable None = tt
  by_end-printable (Some None) = λ c. (tt, tt)
  by_end-printable (Some (Some e)) = λ c. let k = exception-named p n e c in (k.exception_is, k.short)

  by_stuck-printable : (test : Bool) → OfEnd IsPrintableIfComplete (cond test (Some why.Stuck) None)
  by_stuck-printable true = λ c. (tt, tt)
  by_stuck-printable false = tt

  by_bound-printable : (test : Bool) → OfEnd IsPrintableIfComplete (cond test (Some why.Bound) None)
  by_bound-printable true = λ c. (tt, tt)
  by_bound-printable false = tt

  stop-printable : (bound : ℕ) (w : World) → OfEnd IsPrintableIfComplete (stop p bound w)
  stop-printable bound w =
      option_or-printable (stop_by_end p w.ended) (option_or (stop_by_stuck w) (stop_by_bound bound w)) (by_end-printable w.ended)
      (option_or-printable (stop_by_stuck w) (stop_by_bound bound w) (by_stuck-printable _) (by_bound-printable _))

-- ---- tocks name nothing

of_tock-printable : (event : Event) → is_of_tock event ≡ true → IsPrintableIfComplete event
of_tock-printable (written.Run name) e = λ c. (tt, tt)
of_tock-printable written.Idle e = λ c. (tt, tt)
of_tock-printable (written.Serve release) e = λ c. (tt, tt)
of_tock-printable _ e = absurd (false≢true e)

ticks-printable : (events : List Event) → AllAre is_of_tock events → AllOf IsPrintableIfComplete events
ticks-printable [] a = tt
ticks-printable (x ∷ xs) a = (of_tock-printable x a.0, ticks-printable xs a.1)

tock-printable : (p : Image) (w : World) → AllOf IsPrintableIfComplete (tock p w).1
tock-printable p w = ticks-printable (tock p w).1 (tocks_say_ticks p w)

-- ---- the law

pub lines_are_printable : (p : Image) (script : List (ℤ × Item)) (bound : ℕ) → IsNamed p → EachEvent IsPrintableIfComplete (run_of p script bound)
lines_are_printable p script bound n =
    run-each (record {
      openings = opening-printable p n;
      instants = instant-printable p n;
      tocks = tock-printable p;
      stops = stop-printable p n;
      bound = λ c. (tt, tt);
    }) script bound
