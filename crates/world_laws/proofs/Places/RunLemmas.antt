-- What each effect keeps of the lines and of what they show, what comes about in an instant beside the effect of who acts keeps.
use Rattle.world_laws.proofs.Places.Kept.Instant.{OtherMoves, appointments_due-keeps, budgets_due-keeps}
use Rattle.world_laws.proofs.Places.Kept.Instant.{quantum_spent-keeps, script_items-keeps, timers_due-keeps}
use Rattle.ceiling_laws.proofs.Runs.Triples.{Ends, Keeps, Leads, State}
use Rattle.machine_laws.proofs.Moves.{lines_of}
use Rattle.profile_machine.specs.Instant.{budgets_due, events_due, moments_due, quantum_spent, script_items, timers_due}
use Rattle.profile_machine.specs.Steps.{Done, Move, Step, done, placed_by, settled, settles, ◌▶◌}
use Rattle.profile_image.specs.declared.image.Image.{Image}
use Rattle.profile_machine.specs.declared.world.World.{World}
use Rattle.profile_machine.specs.declared.world.lines.Said.{Said}
use Rattle.std.proofs.Common.{subst, sym}
use Rattle.std.specs.Prelude.{Bool, List, [], false, true}
use Rattle.line_laws.proofs.Ticks.LineByLine.{Follow-append, Leads_on, seen_behind, seen_behind-append}
use Rattle.trace_text.specs.declared.events.Event.{Event}
use Rattle.ceiling_laws.proofs.Runs.LevelMoves.{Sleeping}
use Rattle.ceiling_laws.proofs.Runs.Kept.Instant.{Appointing}

module _ {S : Type 0} (see : S → Event → S) (lawful : S → Event → Bool) (Shows : S → World → Type 0) where
  abbrev pub Onward : S → World × List Event → Type 0
  Onward s behind = Leads_on see lawful Shows s behind.1 behind.0

  pub then_onward : (f g : Move) (s : S) (w : World) → Onward s (f w)
      → (Shows (seen_behind see lawful s (f w).1) (f w).0 → Onward (seen_behind see lawful s (f w).1) (g (f w).0)) → Onward s ((f ▶ g) w)
  then_onward f g s w a b =
      let next = b a.shows in
      record {
        follow = Follow-append see lawful s (f w).1 (g (f w).0).1 a.follow next.follow;
        shows = subst (λ t. Shows t (g (f w).0).0) (sym (seen_behind-append see lawful s (f w).1 (g (f w).0).1)) next.shows;
      }

  -- an effect that ends where this holds leads on
  abbrev pub Settles : Image → S → State → Type 0
  Settles p s X = (v : World) (xs : List Said) → X v xs → Onward s (placed_by (lines_of p xs) v, lines_of p xs)

  settled_onward : (p : Image) (s : S) (X : State) → Settles p s X → (d : Done) → Ends X d → Onward s (settled p d)
  unfolding Ends
  settled_onward p s X over (done v xs) e = over v xs e

  pub settles_onward : (p : Image) (s : S) (X Y : State) (step : Step) (w : World) → Settles p s Y → Leads X Y step → X w [] → Onward s (settles p step w)
  settles_onward p s X Y step w over a h = settled_onward p s Y over (step w []) (a.runs w [] h)

  -- ---- an instant

  -- of what comes about beside the effect of who acts
  abbrev pub Others : Image → Type 1
  Others p =
      (s : S) → (N : State) × (Sleeps : Sleeping) × (Drawn : Appointing) × OtherMoves p Sleeps Drawn N × ((w : World) → Shows s w → N w []) × Settles p s N

  module _ {p : Image} (others : Others p) where
    other_onward : (step : Step) → ((N : State) (Sleeps : Sleeping) (Drawn : Appointing) → OtherMoves p Sleeps Drawn N → Keeps N step) → (s : S) (w : World)
        → Shows s w → Onward s (settles p step w)
    other_onward step keeps s w h =
        let by = others s in
        settles_onward p s by.0 by.0 step w by.5 (keeps by.0 by.1 by.2 by.3) (by.4 w h)

    pub behind_onward : (s1 : S) (w1 : World) → Shows s1 w1
        → Onward s1 ((script_items p ▶ events_due p ▶ moments_due p ▶ timers_due p ▶ budgets_due p ▶ quantum_spent p) w1)
    behind_onward s1 w1 h =
        then_onward (script_items p) (events_due p ▶ moments_due p ▶ timers_due p ▶ budgets_due p ▶ quantum_spent p) s1 w1
        (other_onward _ (λ N Sleeps Drawn m. script_items-keeps m) s1 w1 h) (λ h.
        let s2 = seen_behind see lawful s1 (script_items p w1).1 in
        let w2 = (script_items p w1).0 in
        then_onward (events_due p) (moments_due p ▶ timers_due p ▶ budgets_due p ▶ quantum_spent p) s2 w2
        (other_onward _ (λ N Sleeps Drawn m. appointments_due-keeps m true) s2 w2 h) (λ h.
        let s3 = seen_behind see lawful s2 (events_due p w2).1 in
        let w3 = (events_due p w2).0 in
        then_onward (moments_due p) (timers_due p ▶ budgets_due p ▶ quantum_spent p) s3 w3
        (other_onward _ (λ N Sleeps Drawn m. appointments_due-keeps m false) s3 w3 h) (λ h.
        let s4 = seen_behind see lawful s3 (moments_due p w3).1 in
        let w4 = (moments_due p w3).0 in
        then_onward (timers_due p) (budgets_due p ▶ quantum_spent p) s4 w4 (other_onward _ (λ N Sleeps Drawn m. timers_due-keeps m) s4 w4 h) (λ h.
        let s5 = seen_behind see lawful s4 (timers_due p w4).1 in
        let w5 = (timers_due p w4).0 in
        then_onward (budgets_due p) (quantum_spent p) s5 w5 (other_onward _ (λ N Sleeps Drawn m. budgets_due-keeps m) s5 w5 h) (λ h.
        other_onward _ (λ N Sleeps Drawn m. quantum_spent-keeps m) (seen_behind see lawful s5 (budgets_due p w5).1) (budgets_due p w5).0 h)))))
