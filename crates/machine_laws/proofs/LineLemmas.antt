-- Which lines instants and tocks say.
use Rattle.std.proofs.Common.{◌≡◌, ℤ, Bool, true, false, cond, List, [], ◌∷◌, ◌++◌, map, Option, Some, None, refl, sym, subst}
use Rattle.trace_text.specs.declared.events.Event.{Event}
use Rattle.trace_text.specs.declared.events.Event.TheVariants as line
use Rattle.trace_text.specs.declared.events.Who.{Who}
use Rattle.trace_text.specs.declared.events.Who.TheVariants as who
use Rattle.profile_image.specs.declared.image.Image.{Image}
use Rattle.profile_machine.specs.declared.world.World.{World}
use Rattle.profile_machine.specs.declared.world.marks.Frame.{Frame}
use Rattle.profile_machine.specs.declared.world.appointments.Release.{Release}
use Rattle.profile_image.specs.Words.{same_who, same_option}
use Rattle.profile_machine.specs.declared.world.lines.Line.{Line}
use Rattle.profile_machine.specs.declared.world.lines.Line.TheVariants as said
use Rattle.profile_machine.specs.declared.world.lines.Said.{Said}
use Rattle.profile_machine.specs.Lines.{event_of}
use Rattle.profile_machine.specs.Steps.{in_order, rests}
use Rattle.profile_machine.specs.Dispatching.{choose}
use Rattle.profile_machine.specs.Instant.{instant}
use Rattle.profile_machine.specs.Run.{say, says_run, serve_if_free, serve, says_idle, opens, opening, blank_world, tock}
use Rattle.profile_image.specs.declared.script_items.Item.{Item}
use Rattle.machine_laws.specs.LineKinds.{is_of_effect, is_of_tock, is_no_end, AllAre}
use Rattle.machine_laws.proofs.FinestMoves.{all_of, effect-leads}
use Rattle.machine_laws.proofs.Moves.{Moves}
use Rattle.machine_laws.proofs.Kept.Instant.{instant-leads}
use Rattle.machine_laws.proofs.Kept.Run.{before_tick, tock-parts, opens-keeps}
use Rattle.machine_laws.proofs.Kept.Combinators.{Leads}

pub AllAre-append : (test : Event → Bool) (xs ys : List Event) → AllAre test xs → AllAre test ys → AllAre test (xs ++ ys)
AllAre-append test [] ys a b = b
AllAre-append test (x ∷ xs) ys a b = (a.0, AllAre-append test xs ys a.1 b)

-- ---- instants

-- every line of an effect is one, and which of them does not matter
event_of-effect : (p : Image) (x : Line) → is_of_effect (event_of p x) ≡ true
event_of-effect p (said.New what declared level) = refl
event_of-effect p (said.Ready who level end deadline) = refl
event_of-effect p (said.Block who waits) = refl
event_of-effect p (said.Base task level) = refl
event_of-effect p (said.Deadline task deadline) = refl
event_of-effect p (said.Quantum task) = refl
event_of-effect p (said.Done task) = refl
event_of-effect p (said.Raise who e) = refl
event_of-effect p (said.Put who text) = refl
event_of-effect p (said.Call task call owner entry priority) = refl
event_of-effect p (said.Start who call) = refl
event_of-effect p (said.Finish who call how) = refl
event_of-effect p (said.Cancel task call) = refl
event_of-effect p (said.Gone task call) = refl
event_of-effect p (said.Enter who object mode) = refl
event_of-effect p (said.Exit who object) = refl
event_of-effect p (said.Held who object mode) = refl
event_of-effect p (said.Abort task victim) = refl
event_of-effect p (said.Trigger task) = refl
event_of-effect p (said.Leave who region how) = refl
event_of-effect p (said.Init who object region declared) = refl
event_of-effect p (said.Final who object) = refl
event_of-effect p (said.Left who region) = refl
event_of-effect p (said.Replace who object) = refl
event_of-effect p (said.Release release handler) = refl
event_of-effect p (said.Served release) = refl
event_of-effect p (said.Interrupt number) = refl
event_of-effect p (said.Port number value) = refl
event_of-effect p (said.Mask number) = refl
event_of-effect p (said.Unmask number) = refl
event_of-effect p (said.Masked number) = refl

AllAre-events : (p : Image) (xs : List Said) → AllAre is_of_effect (map (λ x. event_of p x.line) xs)
AllAre-events p [] = tt
AllAre-events p (x ∷ xs) = (event_of-effect p x.line, AllAre-events p xs)

of_effects : Moves (λ before said after. Unit {0}) (λ before lines after. AllAre is_of_effect lines)
of_effects = record {
  stays = λ w. tt;
  goes_on = λ a b c {xs} {ys} p q. tt;
  says = λ part line w no_put. tt;
  rests = λ w. tt;
  leads_on = λ a b c {xs} {ys} p q. AllAre-append is_of_effect xs ys p q;
  settles = λ p a b xs k. AllAre-events p (in_order xs);
  silently = λ a b k. tt;
  edits_task = λ name f w k. tt;
  adds_task = λ t w k. tt;
  forgets_task = λ name w. tt;
  sets_quantum = λ level ticks w. tt;
  ends_environment = λ leaving w. tt;
  begins_scope = λ p name scope b w. tt;
  draws_region = λ w. tt;
  edits_cells = λ id f w. tt;
  ends_scope = λ id w. tt;
  edits_call = λ c f w k. tt;
  adds_call = λ c w. tt;
  forgets_call = λ c w. tt;
  edits_object = λ o f w k a. tt;
  adds_object = λ p l u w. tt;
  enters = λ name o mode w h. tt;
  exits = λ name o w. tt;
  visits = λ name o mode xs w v h others k. tt;
  finds_held = λ name o mode w h. tt;
  appoints = λ due moment w later. tt;
  drops_appointment = λ test w. tt;
  registers = λ r l w. tt;
  unregisters = λ n w. tt;
  draws_event = λ w. tt;
  adds_timer = λ t w. tt;
  clears_timer = λ k w. tt;
  sets_timer = λ k h value w. tt;
  sets_timers_due = λ timers w. tt;
  adds_budget = λ w. tt;
  edits_budget = λ b f w. tt;
  sets_budget_due = λ budget w. tt;
  releases = λ h argument w. tt;
  has_served = λ r w is. tt;
  sets_port = λ n value w. tt;
  masks = λ n flag w. tt;
  keeps_interrupt = λ n flag w. tt;
  cuts_script = λ x rest w is due. tt;
}

pub instants_say_effects : (p : Image) (w : World) → AllAre is_of_effect (instant p w).1
unfolding Leads
instants_say_effects p w = instant-leads (all_of of_effects) p (record { puts = λ name s pieces text v w good is e. tt }) w tt

-- ---- tocks

says_run-lines : (same : Bool) (name : Who) (w : World) → AllAre is_of_tock (cond same rests (say (line.Run name)) w).1
says_run-lines true name w = tt
says_run-lines false name w = (refl, tt)

serve_if_free-lines : (serving : Option Release) (frames : List Frame) (releases : List Release) (w : World)
    → AllAre is_of_tock (serve_if_free serving frames releases w).1
serve_if_free-lines None [] [] w = tt
serve_if_free-lines None [] (r ∷ rest) w = (refl, tt)
serve_if_free-lines None (f ∷ fs) releases w = tt
serve_if_free-lines (Some r) frames releases w = tt

serve-lines : (name : Who) (w : World) → AllAre is_of_tock (serve name w).1
serve-lines (who.Task t) w = tt
serve-lines who.Agent w = serve_if_free-lines w.serving w.agent.frames w.releases w

says_idle-lines : (ran : Option Who) (w : World) → AllAre is_of_tock (says_idle ran w).1
says_idle-lines None w = tt
says_idle-lines (Some name) w = (refl, tt)

before_tick-lines : (p : Image) (chosen : Option Who) (w : World) → AllAre is_of_tock (before_tick p chosen w).1
before_tick-lines p None w = says_idle-lines w.ran w
before_tick-lines p (Some name) w =
    let first = says_run name w.ran w in
    AllAre-append is_of_tock first.1 ((serve name first.0).1 ++ []) (says_run-lines (same_option same_who w.ran (Some name)) name w)
    (AllAre-append is_of_tock (serve name first.0).1 [] (serve-lines name first.0) tt)

pub tocks_say_ticks : (p : Image) (w : World) → AllAre is_of_tock (tock p w).1
tocks_say_ticks p w = subst (λ a. AllAre is_of_tock a.1) (sym (tock-parts p w)) (before_tick-lines p (choose w) w)

-- ---- neither says that the run ends

effect-no_end : (event : Event) → is_of_effect event ≡ true → is_no_end event ≡ true
effect-no_end (line.End reason) e = e
effect-no_end _ e = refl

tock-no_end : (event : Event) → is_of_tock event ≡ true → is_no_end event ≡ true
tock-no_end (line.End reason) e = e
tock-no_end _ e = refl

AllAre-also : (test other : Event → Bool) → ((event : Event) → test event ≡ true → other event ≡ true) → (xs : List Event) → AllAre test xs → AllAre other xs
AllAre-also test other f [] a = tt
AllAre-also test other f (x ∷ xs) a = (f x a.0, AllAre-also test other f xs a.1)

pub instant-no_end : (p : Image) (w : World) → AllAre is_no_end (instant p w).1
instant-no_end p w = AllAre-also is_of_effect is_no_end effect-no_end (instant p w).1 (instants_say_effects p w)

pub tock-no_end-lines : (p : Image) (w : World) → AllAre is_no_end (tock p w).1
tock-no_end-lines p w = AllAre-also is_of_tock is_no_end tock-no_end (tock p w).1 (tocks_say_ticks p w)

pub openings_say_effects : (p : Image) (script : List (ℤ × Item)) → AllAre is_of_effect (opening p script).1
unfolding Leads
openings_say_effects p script = effect-leads (all_of of_effects).fine p (opens p) (opens-keeps (all_of of_effects) p) (blank_world p script) tt

pub opening-no_end : (p : Image) (script : List (ℤ × Item)) → AllAre is_no_end (opening p script).1
opening-no_end p script = AllAre-also is_of_effect is_no_end effect-no_end (opening p script).1 (openings_say_effects p script)
