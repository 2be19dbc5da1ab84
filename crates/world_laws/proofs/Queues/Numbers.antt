-- Calls fall in number in every world that a run reaches: each change keeps that they do.
use Rattle.std.proofs.Common.{◌≡◌, ℕ, ℤ, suc, Option, Some, None, List, true, ap, subst, sym, arith}
use Rattle.trace_text.specs.declared.events.Who.{Who}
use Rattle.trace_text.specs.declared.events.Who.TheVariants as who
use Rattle.profile_image.specs.declared.image.Image.{Image}
use Rattle.profile_image.specs.declared.script_items.Item.{Item}
use Rattle.profile_machine.specs.declared.world.World.{World}
use Rattle.profile_machine.specs.declared.world.tasks.Task.{Task}
use Rattle.profile_machine.specs.Tasks.{task_at, edit_task_found, edit_task}
use Rattle.profile_machine.specs.Calls.{is_call}
use Rattle.profile_machine.specs.Dispatching.{choose}
use Rattle.profile_machine.specs.Run.{opens, blank_world}
use Rattle.machine_laws.specs.NumberLaws.{calls_fall}
use Rattle.machine_laws.specs.Reached.{Reached}
use Rattle.machine_laws.proofs.FinestMoves.{all_of, tocks_of, effect-leads}
use Rattle.machine_laws.proofs.ListLemmas.{Falls, Falls-without, Falls-edit_where, Falls-adjacent}
use Rattle.machine_laws.proofs.ReachedLemmas.{Lasts, reached-lasts}
use Rattle.machine_laws.proofs.Moves.{Moves, TockMoves}
use Rattle.machine_laws.proofs.Kept.Instant.{instant-leads}
use Rattle.machine_laws.proofs.Kept.Run.{tock-parts, before_tick-leads, opens-keeps}
use Rattle.machine_laws.proofs.NumberLemmas.{call_number}
use Rattle.machine_laws.proofs.Kept.Combinators.{Leads}

abbrev Numbered : World → Type 0
Numbered w = Falls call_number (suc w.drawn.calls) w.calls

-- both worlds are numbered, if the first is
abbrev StaysNumbered : {X : Type 0} → World → List X → World → Type 0
StaysNumbered before lines after = Numbered before → Numbered after

edit_found-numbered : (name : Who) (f : Task → Task) (w : World) (found : Option Task) → Numbered w → Numbered (edit_task_found name f w found)
edit_found-numbered name f w None h = h
edit_found-numbered (who.Task n) f w (Some t) h = h
edit_found-numbered who.Agent f w (Some t) h = h

edit_task-numbered : (name : Who) (f : Task → Task) (w : World) → ((t : Task) → (f t).who ≡ t.who) → Numbered w → Numbered (edit_task name f w)
edit_task-numbered name f w k h = edit_found-numbered name f w (task_at w name) h

stays_numbered : Moves StaysNumbered StaysNumbered
stays_numbered = record {
  stays = λ w h. h;
  goes_on = λ a b c p q h. q (p h);
  says = λ part line w no_put h. h;
  rests = λ w h. h;
  leads_on = λ a b c p q h. q (p h);
  settles = λ p a b xs k h. k h;
  silently = λ a b k h. k h;
  edits_task = edit_task-numbered;
  adds_task = λ t w k h. h;
  forgets_task = λ name w h. h;
  sets_quantum = λ level ticks w h. h;
  ends_environment = λ leaving w h. h;
  begins_scope = λ p name scope b w h. h;
  draws_region = λ w h. h;
  edits_cells = λ id f w h. h;
  ends_scope = λ id w h. h;
  edits_call = λ c f w k h. Falls-edit_where call_number (is_call c) f (λ d. ap (λ n. n.0) (k d)) (suc w.drawn.calls) w.calls h;
  adds_call = λ c w h. (omega arith, h);
  forgets_call = λ c w h. Falls-without call_number (is_call c) (suc w.drawn.calls) w.calls h;
  edits_object = λ o f w k a h. h;
  adds_object = λ p l u w h. h;
  enters = λ name o mode w lets h. h;
  exits = λ name o w h. h;
  visits = λ name o mode xs w v lets others k h. k h;
  finds_held = λ name o mode w found h. h;
  appoints = λ due moment w later h. h;
  drops_appointment = λ test w h. h;
  registers = λ r l w h. h;
  unregisters = λ n w h. h;
  draws_event = λ w h. h;
  adds_timer = λ t w h. h;
  clears_timer = λ k w h. h;
  sets_timer = λ k h value w g. g;
  sets_timers_due = λ timers w h. h;
  adds_budget = λ w h. h;
  edits_budget = λ b f w h. h;
  sets_budget_due = λ budget w h. h;
  releases = λ h argument w g. g;
  has_served = λ r w is h. h;
  sets_port = λ n value w h. h;
  masks = λ n flag w h. h;
  keeps_interrupt = λ n flag w h. h;
  cuts_script = λ x rest w is due h. h;
}

tocks_stay_numbered : TockMoves StaysNumbered
tocks_stay_numbered = record {
  tells = λ event w k h. h;
  serves = λ r rest w k h. h;
}

numbered-lasts : Lasts Numbered
unfolding Leads
numbered-lasts = record {
  at_opening = λ p script. effect-leads (all_of stays_numbered).fine p (opens p) (opens-keeps (all_of stays_numbered) p) (blank_world p script) tt tt;
  at_instant = λ p w h. instant-leads (all_of stays_numbered) p (record { puts = λ name s pieces text v w good is e k. k }) w tt h;
  at_tock =
      λ p w h. subst (λ a. Numbered a.0) (sym (tock-parts p w)) (before_tick-leads (all_of stays_numbered) (tocks_of tocks_stay_numbered) p (choose w) w tt h);
}

pub calls-fall : (p : Image) (script : List (ℤ × Item)) (bound : ℕ) (w : World) → Reached p script bound w → calls_fall w ≡ true
calls-fall p script bound w r = let h : Numbered w = reached-lasts numbered-lasts p script bound w r in Falls-adjacent call_number (suc w.drawn.calls) w.calls h
