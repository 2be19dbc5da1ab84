-- Where the lines of ticks stand in their order, nobody is moved behind the choice.
use Rattle.std.proofs.Common.{◌≡◌, ◌==◌, Bool, true, false, not, ◌&&◌, ◌||◌, eqb, List, [], ◌∷◌, inl, inr, refl, sym, ap, ◌∙◌}
use Rattle.std.proofs.lemmas.Bool.{and_from, and_parts, cases_Bool, eq-eqb, eqb-true}
use Rattle.trace_text.specs.declared.events.Event.{Event}
use Rattle.trace_text.specs.declared.events.Event.TheVariants as line
use Rattle.trace_text.specs.Queue.{TraceLine}
use Rattle.machine_laws.specs.LineKinds.{is_of_effect}
use Rattle.line_laws.specs.TickLaws.{follows_tick_order, is_run, is_serve, stands_rightly}
use Rattle.blocking_laws.specs.MovingLaws.{chooses_from, chooses_last, is_choice, is_still}

serve_still : (event : Event) → is_serve event ≡ true → is_still event ≡ true
serve_still (line.Serve release) e = refl
serve_still (line.Ready w level end d) e = cc
serve_still (line.Block w why) e = cc
serve_still (line.Done t) e = cc
serve_still (line.Enter w o mode) e = cc
serve_still (line.Exit w o) e = cc
serve_still (line.Held w o mode) e = cc
serve_still (line.New what name level) e = cc
serve_still (line.Base t level) e = cc
serve_still _ e = refl

serve_beside : (event : Event) → is_serve event ≡ true → is_of_effect event ≡ false
serve_beside (line.Serve release) e = refl
serve_beside (line.Run w) e = cc
serve_beside line.Idle e = cc
serve_beside (line.End why) e = cc
serve_beside _ e = cc

choice_beside : (event : Event) → is_choice event ≡ true → is_of_effect event ≡ false
choice_beside (line.Run w) e = refl
choice_beside line.Idle e = refl
choice_beside _ e = cc

last : (same effect run serve : Bool) → same ≡ true → effect ≡ false → (not same || (effect || (run && serve))) ≡ true → serve ≡ true
last true false true serve a b e = e
last true false false serve a b e = cc
last false effect run serve a b e = cc
last true true run serve a b e = cc

none : (t : Bool) → (t && false) ≡ false
none true = refl
none false = refl

-- behind a line that is of no effect, at its tick, only the service of a release stands
serves_next : (first second : TraceLine) → stands_rightly first second ≡ true → (second.0 == first.0) ≡ true → is_of_effect first.1 ≡ false
    → is_serve second.1 ≡ true
serves_next first second stands same beside =
    last (eqb first.0 second.0) (is_of_effect first.1) (is_run first.1) (is_serve second.1)
    (let e : second.0 ≡ first.0 = eqb-true second.0 first.0 same in eq-eqb first.0 second.0 (sym e)) beside stands

chooses_behind : (before : TraceLine) (lines : List TraceLine) (chosen : Bool) → (chosen ≡ true → is_of_effect before.1 ≡ false)
    → follows_tick_order (before ∷ lines) ≡ true → chooses_from before.0 chosen lines ≡ true
chooses_behind before [] chosen known order = refl
chooses_behind before (line ∷ lines) chosen known order =
    let parts = and_parts (stands_rightly before line) (follows_tick_order (line ∷ lines)) order in
    elim (cases_Bool (line.0 == before.0 && chosen)) [
      | inl both ↦
          let two = and_parts (line.0 == before.0) chosen both in
          let serves = serves_next before line parts.0 two.0 (known two.1) in
          let rest = chooses_behind line lines true (λ e. serve_beside line.1 serves) parts.1 in
          and_from (not (line.0 == before.0 && chosen) || is_still line.1) (chooses_from line.0 ((line.0 == before.0 && chosen) || is_choice line.1) lines)
          (ap (λ t. not t || is_still line.1) both ∙ serve_still line.1 serves) (ap (λ t. chooses_from line.0 (t || is_choice line.1) lines) both ∙ rest)
      | inr neither ↦
          let rest = chooses_behind line lines (is_choice line.1) (λ e. choice_beside line.1 e) parts.1 in
          and_from (not (line.0 == before.0 && chosen) || is_still line.1) (chooses_from line.0 ((line.0 == before.0 && chosen) || is_choice line.1) lines)
          (ap (λ t. not t || is_still line.1) neither) (ap (λ t. chooses_from line.0 (t || is_choice line.1) lines) neither ∙ rest)
    ]

pub chooses_by_order : (lines : List TraceLine) → follows_tick_order lines ≡ true → chooses_last lines ≡ true
chooses_by_order [] order = refl
chooses_by_order (line ∷ lines) order =
    let rest = chooses_behind line lines (is_choice line.1) (λ e. choice_beside line.1 e) order in
    and_from (not (line.0 == 0 && false) || is_still line.1) (chooses_from line.0 ((line.0 == 0 && false) || is_choice line.1) lines)
    (ap (λ t. not t || is_still line.1) (none (line.0 == 0))) (ap (λ t. chooses_from line.0 (t || is_choice line.1) lines) (none (line.0 == 0)) ∙ rest)
