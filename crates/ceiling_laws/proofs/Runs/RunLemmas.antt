-- What each effect keeps of the lines and of what they show, every run keeps: the form of a law on lines.
use Rattle.ceiling_laws.proofs.Runs.ActingMoves.{Either}
use Rattle.ceiling_laws.proofs.Runs.FreeMoves.{FreeMoves, any_task, any_world, anywhere, free_others, freely}
use Rattle.ceiling_laws.proofs.Runs.Kept.Act.{effect-leads}
use Rattle.ceiling_laws.proofs.Runs.Kept.Instant.{Appointing, OtherMoves, appointments_due-keeps, budgets_due-keeps}
use Rattle.ceiling_laws.proofs.Runs.Kept.Instant.{quantum_spent-keeps, script_items-keeps, timers_due-keeps}
use Rattle.ceiling_laws.proofs.Runs.LevelMoves.{Sleeping}
use Rattle.ceiling_laws.proofs.Runs.Triples.{Ends, Keeps, Leads, State}
use Rattle.machine_laws.proofs.Moves.{lines_of}
use Rattle.profile_machine.specs.Instant.{budgets_due, effect, effect_of_runner, events_due, finish_action}
use Rattle.profile_machine.specs.Instant.{instant, is_over, moments_due, quantum_spent, script_items, timers_due}
use Rattle.profile_machine.specs.Steps.{Done, Move, Step, done, placed_by, rests, settled, settles, ◌▶◌}
use Rattle.profile_machine.specs.Tasks.{task_of}
use Rattle.profile_image.specs.declared.image.Image.{Image}
use Rattle.profile_machine.specs.declared.world.World.{World}
use Rattle.profile_machine.specs.declared.world.lines.Said.{Said}
use Rattle.std.proofs.Common.{inl, inr, refl, subst, sym, ◌≡◌}
use Rattle.std.specs.Prelude.{Bool, List, None, Option, Some, [], false, true}
use Rattle.line_laws.proofs.Ticks.LineByLine.{Follow-append, Leads_on, seen_behind, seen_behind-append}
use Rattle.trace_text.specs.declared.events.Event.{Event}
use Rattle.trace_text.specs.declared.events.Who.{Who}
use Rattle.trace_text.specs.declared.events.Who.TheVariants as who

module _ {S : Type 0} (see : S → Event → S) (lawful : S → Event → Bool) (Shows : S → World → Type 0) where
  abbrev pub Onward : S → World × List Event → Type 0
  Onward s behind = Leads_on see lawful Shows s behind.1 behind.0

  pub rests_onward : (s : S) (w : World) → Shows s w → Onward s (w, [])
  rests_onward s w h = record { follow = tt; shows = h }

  pub then_onward : (f g : Move) (s : S) (w : World) → Onward s (f w)
      → (Shows (seen_behind see lawful s (f w).1) (f w).0 → Onward (seen_behind see lawful s (f w).1) (g (f w).0)) → Onward s ((f ▶ g) w)
  then_onward f g s w a b =
      let next = b a.shows in
      record {
        follow = Follow-append see lawful s (f w).1 (g (f w).0).1 a.follow next.follow;
        shows = subst (λ t. Shows t (g (f w).0).0) (sym (seen_behind-append see lawful s (f w).1 (g (f w).0).1)) next.shows;
      }

  -- an effect that ends where this holds leads on
  abbrev pub Settles : Image → S → State → Type 0
  Settles p s X = (v : World) (xs : List Said) → X v xs → Onward s (placed_by (lines_of p xs) v, lines_of p xs)

  settled_onward : (p : Image) (s : S) (X : State) → Settles p s X → (d : Done) → Ends X d → Onward s (settled p d)
  unfolding Ends
  settled_onward p s X over (done v xs) e = over v xs e

  pub settles_onward : (p : Image) (s : S) (X Y : State) (step : Step) (w : World) → Settles p s Y → Leads X Y step → X w [] → Onward s (settles p step w)
  settles_onward p s X Y step w over a h = settled_onward p s Y over (step w []) (a.runs w [] h)

  -- ---- an instant

  -- of what comes about beside the effect of who acts
  abbrev pub Others : Image → Type 1
  Others p =
      (s : S) → (N : State) × (Sleeps : Sleeping) × (Drawn : Appointing) × OtherMoves p Sleeps Drawn N × ((w : World) → Shows s w → N w []) × Settles p s N

  module _ {p : Image} (others : Others p) where
    other_onward : (step : Step) → ((N : State) (Sleeps : Sleeping) (Drawn : Appointing) → OtherMoves p Sleeps Drawn N → Keeps N step) → (s : S) (w : World)
        → Shows s w → Onward s (settles p step w)
    other_onward step keeps s w h =
        let by = others s in
        settles_onward p s by.0 by.0 step w by.5 (keeps by.0 by.1 by.2 by.3) (by.4 w h)

    pub behind_onward : (s1 : S) (w1 : World) → Shows s1 w1
        → Onward s1 ((script_items p ▶ events_due p ▶ moments_due p ▶ timers_due p ▶ budgets_due p ▶ quantum_spent p) w1)
    behind_onward s1 w1 h =
        then_onward (script_items p) (events_due p ▶ moments_due p ▶ timers_due p ▶ budgets_due p ▶ quantum_spent p) s1 w1
        (other_onward _ (λ N Sleeps Drawn m. script_items-keeps m) s1 w1 h) (λ h.
        let s2 = seen_behind see lawful s1 (script_items p w1).1 in
        let w2 = (script_items p w1).0 in
        then_onward (events_due p) (moments_due p ▶ timers_due p ▶ budgets_due p ▶ quantum_spent p) s2 w2
        (other_onward _ (λ N Sleeps Drawn m. appointments_due-keeps m true) s2 w2 h) (λ h.
        let s3 = seen_behind see lawful s2 (events_due p w2).1 in
        let w3 = (events_due p w2).0 in
        then_onward (moments_due p) (timers_due p ▶ budgets_due p ▶ quantum_spent p) s3 w3
        (other_onward _ (λ N Sleeps Drawn m. appointments_due-keeps m false) s3 w3 h) (λ h.
        let s4 = seen_behind see lawful s3 (moments_due p w3).1 in
        let w4 = (moments_due p w3).0 in
        then_onward (timers_due p) (budgets_due p ▶ quantum_spent p) s4 w4 (other_onward _ (λ N Sleeps Drawn m. timers_due-keeps m) s4 w4 h) (λ h.
        let s5 = seen_behind see lawful s4 (timers_due p w4).1 in
        let w5 = (timers_due p w4).0 in
        then_onward (budgets_due p) (quantum_spent p) s5 w5 (other_onward _ (λ N Sleeps Drawn m. budgets_due-keeps m) s5 w5 h) (λ h.
        other_onward _ (λ N Sleeps Drawn m. quantum_spent-keeps m) (seen_behind see lawful s5 (budgets_due p w5).1) (budgets_due p w5).0 h)))))

  -- the effect of who acts, and what comes about beside it
  pub record Instants (p : Image) : Type 1 where
    pub effects : (s : S) (w : World) (name : Who) → w.ran ≡ Some name → is_over (task_of w name).ticks_left ≡ true → Shows s w
        → Onward s (settles p (effect p name) w)
    pub others : Others p

  -- ---- of changes that are free

  pub either_over : (p : Image) (X : State) (s : S) → Settles p s X → (v : World) (xs : List Said) → Either X X v xs
      → Onward s (placed_by (lines_of p xs) v, lines_of p xs)
  either_over p X s over v xs (inl h) = over v xs h
  either_over p X s over v xs (inr h) = over v xs h

  pub free_effects : {p : Image} {X : State} → ((actor : Who) → FreeMoves p actor anywhere X X X) → (s : S) (w : World) (name : Who) → X w [] → Settles p s X
      → Onward s (settles p (effect p name) w)
  free_effects {p} {X} free s w name h over =
      settles_onward p s X (Either X X) (effect p name) w (either_over p X s over) (effect-leads (freely (free name))) h

  pub free_instants : {p : Image} (X : S → State) → ((s : S) (actor : Who) → FreeMoves p actor anywhere (X s) (X s) (X s))
      → ((s : S) (w : World) → Shows s w → X s w []) → ((s : S) → Settles p s (X s)) → Instants p
  free_instants X free start over = record {
    effects = λ s w name ran is h. free_effects (free s) s w name (start s w h) (over s);
    others = λ s. (X s, any_world, any_task, free_others (free s who.Agent).later, start s, over s);
  }

  module _ {p : Image} (instants : Instants p) where
    effect_if : (s : S) (w : World) (name : Who) (test : Bool) → w.ran ≡ Some name → is_over (task_of w name).ticks_left ≡ test → Shows s w
        → Onward s ((elim test as (λ _. Move) [ true ↦ settles p (effect p name) | false ↦ rests ]) w)
    effect_if s w name true ran is h = instants.effects s w name ran is h
    effect_if s w name false ran is h = rests_onward s w h

    effect_of : (s : S) (w : World) (ran : Option Who) → w.ran ≡ ran → Shows s w → Onward s (effect_of_runner p ran w)
    effect_of s w None is h = rests_onward s w h
    effect_of s w (Some name) is h = effect_if s w name (is_over (task_of w name).ticks_left) is refl h

    pub instant_onward : (s : S) (w : World) → Shows s w → Onward s (instant p w)
    instant_onward s w h =
        then_onward (finish_action p) (script_items p ▶ events_due p ▶ moments_due p ▶ timers_due p ▶ budgets_due p ▶ quantum_spent p) s w
        (effect_of s w w.ran refl h)
        (behind_onward instants.others (seen_behind see lawful s (finish_action p w).1) (finish_action p w).0)
