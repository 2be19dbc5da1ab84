-- A run is said to be stuck only where nobody is ready: the ready queues of a world are what its lines show.
use Rattle.std.proofs.Common.{◌≡◌, ℕ, ℤ, Bool, true, false, cond, eqb, ◌&&◌, List, [], ◌∷◌, Option, Some, None, refl, sym, ap, ◌∙◌}
use Rattle.ann_base.specs.declared.exceptions.Raised.{Raised}
use Rattle.trace_text.specs.declared.events.Entry.{Entry}
use Rattle.trace_text.specs.declared.events.Event.{Event}
use Rattle.trace_text.specs.declared.events.Event.TheVariants as line
use Rattle.trace_text.specs.declared.events.Ended.{Ended}
use Rattle.trace_text.specs.declared.events.Ended.TheVariants as why
use Rattle.trace_text.specs.Queue.{queue_after}
use Rattle.profile_image.specs.declared.image.Image.{Image}
use Rattle.profile_image.specs.declared.script_items.Item.{Item}
use Rattle.profile_machine.specs.declared.world.World.{World}
use Rattle.profile_machine.specs.declared.world.tasks.Placed.{Placed}
use Rattle.ann_base.specs.Lists.{is_empty}
use Rattle.profile_machine.specs.Steps.{is_above, put_at_head, places_after_all}
use Rattle.profile_machine.specs.Instant.{instant}
use Rattle.profile_machine.specs.Run.{opening, tock, stop, stop_by_end, run_of}
use Rattle.std.specs.Option.{option_or}
use Rattle.machine_laws.specs.LineKinds.{is_of_effect, is_of_tock, AllAre}
use Rattle.machine_laws.proofs.LineLemmas.{instants_say_effects, openings_say_effects, tocks_say_ticks}
use Rattle.machine_laws.proofs.PlaceLemmas.{openings_place_by_lines, instants_place_by_lines, tocks_place_nobody, tock_lines-places}
use Rattle.machine_laws.proofs.QueueLemmas.{as_placed, lined, lined-after}
use Rattle.line_laws.specs.TickLaws.{is_rightly_stuck, StuckOk}
use Rattle.line_laws.proofs.Ticks.LineByLine.{seen_behind, Follow-all, Leads_on, OfRuns, run-at_each_line}

-- ---- what lines show

ShowsQueue : List Entry → World → Type 0
ShowsQueue queue w = w.places ≡ lined queue

abbrev queue_behind : List Entry → List Event → List Entry
queue_behind = seen_behind queue_after is_rightly_stuck

queue_behind-lined : (queue : List Entry) (events : List Event) → lined (queue_behind queue events) ≡ places_after_all events (lined queue)
queue_behind-lined queue [] = refl
queue_behind-lined queue (x ∷ xs) = queue_behind-lined (queue_after queue x) xs ∙ ap (places_after_all xs) (lined-after queue x)

effect-stuck : (queue : List Entry) (event : Event) → is_of_effect event ≡ true → is_rightly_stuck queue event ≡ true
effect-stuck queue (line.End reason) e = cc
effect-stuck queue _ e = refl

tock-stuck : (queue : List Entry) (event : Event) → is_of_tock event ≡ true → is_rightly_stuck queue event ≡ true
tock-stuck queue (line.End reason) e = cc
tock-stuck queue _ e = refl

effects-lead_on : (queue : List Entry) (events : List Event) (w : World) → AllAre is_of_effect events → w.places ≡ places_after_all events (lined queue)
    → Leads_on queue_after is_rightly_stuck ShowsQueue queue events w
unfolding ShowsQueue
effects-lead_on queue events w a e = record {
  follow = Follow-all queue_after is_rightly_stuck is_of_effect effect-stuck queue events a;
  shows = e ∙ sym (queue_behind-lined queue events);
}

instants-lead_on : (p : Image) (queue : List Entry) (w : World) → ShowsQueue queue w
    → Leads_on queue_after is_rightly_stuck ShowsQueue queue (instant p w).1 (instant p w).0
unfolding ShowsQueue
instants-lead_on p queue w h =
    effects-lead_on queue (instant p w).1 (instant p w).0 (instants_say_effects p w) (instants_place_by_lines p w ∙ ap (places_after_all (instant p w).1) h)

tocks-lead_on : (p : Image) (queue : List Entry) (w : World) → ShowsQueue queue w
    → Leads_on queue_after is_rightly_stuck ShowsQueue queue (tock p w).1 (tock p w).0
unfolding ShowsQueue
tocks-lead_on p queue w h =
    let said = tocks_say_ticks p w in
    record {
      follow = Follow-all queue_after is_rightly_stuck is_of_tock tock-stuck queue (tock p w).1 said;
      shows = tocks_place_nobody p w ∙ h ∙ sym (queue_behind-lined queue (tock p w).1 ∙ tock_lines-places (tock p w).1 (lined queue) said);
    }

-- ---- why a run stops

pub first_of_three : (a b c : Bool) → (a && b && c) ≡ true → a ≡ true
first_of_three true b c e = refl
first_of_three false b c e = cc

stuck-test : (p : Image) (ended : Option (Option Raised)) (b at_bound : Bool)
    → option_or (stop_by_end p ended) (option_or (cond b (Some why.Stuck) None) (cond at_bound (Some why.Bound) None)) ≡ Some why.Stuck → b ≡ true
stuck-test p None true at_bound e = refl
stuck-test p None false true e = cc
stuck-test p None false false e = cc
stuck-test p (Some None) b at_bound e = cc
stuck-test p (Some (Some raised)) b at_bound e = cc

-- nobody is placed where no line shows anybody, and the other way round
placed_somewhere : (b : Bool) (x y : Placed) (xs ys : List Placed) → is_empty (cond b (x ∷ xs) (y ∷ ys)) ≡ false
placed_somewhere true x y xs ys = refl
placed_somewhere false x y xs ys = refl

head-somebody : (x : Placed) (places : List Placed) → is_empty (put_at_head x places) ≡ false
head-somebody x [] = refl
head-somebody x (y ∷ ys) = placed_somewhere (is_above y x) y x (put_at_head x ys) (y ∷ ys)

lined-nobody : (queue : List Entry) → is_empty (lined queue) ≡ true → is_empty queue ≡ true
lined-nobody [] e = refl
lined-nobody (x ∷ queue) e = let somebody : is_empty (lined (x ∷ queue)) ≡ false = head-somebody (as_placed x) (lined queue) in cc

ends-rightly : (p : Image) (bound : ℕ) (queue : List Entry) (w : World) (reason : Ended) → ShowsQueue queue w → stop p bound w ≡ Some reason
    → is_rightly_stuck queue (line.End reason) ≡ true
unfolding ShowsQueue
ends-rightly p bound queue w why.Completed h e = refl
ends-rightly p bound queue w (why.Exception name) h e = refl
ends-rightly p bound queue w why.Bound h e = refl
ends-rightly p bound queue w why.Stuck h e =
    let nobody : is_empty w.places ≡ true =
    first_of_three (is_empty w.places) (is_empty w.appointments) (is_empty w.script)
    (stuck-test p w.ended (is_empty w.places && is_empty w.appointments && is_empty w.script) (eqb w.time bound) e) in
    lined-nobody queue (ap is_empty (sym h) ∙ nobody)

-- ---- every run

rightly_stuck : OfRuns queue_after is_rightly_stuck ShowsQueue []
rightly_stuck = record {
  openings = λ p script. let o = opening p script in effects-lead_on [] o.1 o.0 (openings_say_effects p script) (openings_place_by_lines p script);
  instants = instants-lead_on;
  tocks = tocks-lead_on;
  ends = ends-rightly;
  bound = λ queue. refl;
}

pub runs_are_rightly_stuck : (p : Image) (script : List (ℤ × Item)) (bound : ℕ) → StuckOk (run_of p script bound)
runs_are_rightly_stuck p script bound = run-at_each_line queue_after is_rightly_stuck rightly_stuck p script bound
