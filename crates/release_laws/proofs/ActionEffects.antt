-- The effect of the action that ended does what it asks for, and nothing else, to all that is released later.
use Rattle.std.proofs.Common.{◌≡◌, ℕ, Bool, true, false, cond, ◌&&◌, eqb, List, [], ◌∷◌, ◌++◌, map, Option, Some, None, refl, sym, ap, subst, ◌∙◌, append-nil}
use Rattle.std.specs.Prelude.{int_lt, pos, option_and_then}
use Rattle.trace_text.specs.declared.events.Event.{Event}
use Rattle.trace_text.specs.declared.events.Who.{Who}
use Rattle.profile_image.specs.declared.image.Image.{Image}
use Rattle.profile_image.specs.declared.numbers.StatementNo.{StatementNo}
use Rattle.profile_image.specs.declared.statements.StatementForm.{StatementForm}
use Rattle.profile_image.specs.declared.statements.StatementForm.TheVariants as form
use Rattle.profile_machine.specs.declared.world.World.{World}
use Rattle.profile_machine.specs.declared.world.lines.Said.{Said}
use Rattle.profile_machine.specs.declared.world.marks.Frame.{Frame}
use Rattle.profile_image.specs.Program.{form_of}
use Rattle.profile_machine.specs.Steps.{Done, done, Move, placed_by, settled, settles, rests, ◌▷◌}
use Rattle.profile_machine.specs.Tasks.{task_of, with_ticks}
use Rattle.profile_machine.specs.Frames.{top_of, onward_of, open_if_ready}
use Rattle.profile_machine.specs.Values.{seen_by}
use Rattle.profile_machine.specs.Tasking.{take_terminates, unwind_all}
use Rattle.profile_machine.specs.Act.{act_statement, act_frame, act_top, act}
use Rattle.profile_machine.specs.Instant.{is_over, effect, effect_of_runner, finish_action}
use Rattle.profile_machine.specs.Releases.{named_handler, released}
use Rattle.machine_laws.proofs.Moves.{StepRelation, MoveRelation, Puts, lines_of}
use Rattle.machine_laws.proofs.FineMoves.{AnyWorld}
use Rattle.machine_laws.proofs.Kept.Combinators.{Keeps, Kept, From}
use Rattle.release_laws.specs.Asked.{Request, OfEvent, OfTimer, OfBudget, OfNothing, request_of, or_nothing, asked_at, acting, asked_by, asked}
use Rattle.release_laws.specs.ReleaseLaws.{TimerSet, but_timer, events_asked, timers_asked, is_number_of, clock_of}
use Rattle.release_laws.proofs.EventLists.{events_of, Rises}
use Rattle.release_laws.proofs.TimerLists.{timers_in}
use Rattle.release_laws.proofs.Tellings.{Tells, tells_both, released-lines}
use Rattle.release_laws.proofs.Untouched.{Sight, sight_of, budget_in, outside-then, clocks-then, untouched, Calmly}
use Rattle.release_laws.proofs.Effects.{Effect, EffectSaid, Does, Alike, edited-alike, alike-clocks, alike-outside, at_once}
use Rattle.release_laws.proofs.Effects.{due_asked, handler_asked, effect-none, effect-then, kept-weaker, kept-then}
use Rattle.release_laws.proofs.Settings.{set_event-does, cancel_event-does}
use Rattle.release_laws.proofs.TimerSettings.{set_timer-does, cancel_timer-does}
use Rattle.release_laws.proofs.BudgetSettings.{set_budget-does, cancel_budget-does}
use Rattle.release_laws.proofs.CalmActs.{act-calm, comes_to_nothing, behind_act-keeps}
use Rattle.machine_laws.proofs.Kept.Act.{asks_nothing}

-- ---- an action

calm_puts : (p : Image) → Puts AnyWorld Calmly p
calm_puts p = record { puts = λ name s pieces text v w good is e. (untouched (sight_of w), λ more. refl) }

-- the same from an action that asks nothing
calm-act : (p : Image) (name : Who) (v : World) → comes_to_nothing p (onward_of v name) ≡ true → Does OfNothing v (act p name)
unfolding From
calm-act p name v e said =
    kept-weaker Calmly (EffectSaid OfNothing) v said (act p name v said) (λ u xs c. (effect-none v u c.0, c.1))
    (act-calm p (calm_puts p) name v e said)

act-of : (R : StepRelation) (p : Image) (name : Who) (v : World) → From R v (act_top p name (top_of v name)) → From R v (act p name)
unfolding From act
act-of R p name v k said = k said

top-of : (R : StepRelation) (p : Image) (name : Who) (v : World) (f : Frame) → From R v (act_frame p name f f.onward) → From R v (act_top p name (Some f))
unfolding act_top
top-of R p name v f k = k

frame-of : (R : StepRelation) (p : Image) (name : Who) (v : World) (f : Frame) (s : StatementNo) → From R v (act_statement p name s (form_of p s))
    → From R v (act_frame p name f (Some s))
unfolding act_frame
frame-of R p name v f s k = k

-- an action that comes to a statement
act-at : (r : Request) (p : Image) (name : Who) (v : World) (f : Frame) (s : StatementNo) (x : StatementForm) → top_of v name ≡ Some f → f.onward ≡ Some s
    → form_of p s ≡ x → Does r v (act_statement p name s x) → Does r v (act p name)
act-at r p name v f s x top onward is k =
    act-of (EffectSaid r) p name v
    (subst (λ found. From (EffectSaid r) v (act_top p name found)) (sym top)
    (top-of (EffectSaid r) p name v f
    (subst (λ o. From (EffectSaid r) v (act_frame p name f o)) (sym onward)
    (frame-of (EffectSaid r) p name v f s
    (subst (λ y. From (EffectSaid r) v (act_statement p name s y)) (sym is) k)))))

calm-at : (p : Image) (name : Who) (v : World) (f : Frame) (s : StatementNo) (x : StatementForm) → top_of v name ≡ Some f → f.onward ≡ Some s → form_of p s ≡ x
    → comes_to_nothing p (Some s) ≡ true → Does OfNothing v (act p name)
calm-at p name v f s x top onward is e =
    calm-act p name v (ap (comes_to_nothing p) (ap (λ found. option_and_then (λ (g : Frame). g.onward) found) top ∙ onward) ∙ e)

-- one case for each form: it asks for something, or for nothing
statement-does : (p : Image) (name : Who) (v : World) (f : Frame) (s : StatementNo) (x : StatementForm) → top_of v name ≡ Some f → f.onward ≡ Some s
    → form_of p s ≡ x → Does (or_nothing (request_of p (seen_by p v name) x)) v (act p name)
unfolding act_statement
statement-does p name v f s (form.SetEvent event set handler) top onward is =
    act-at _ p name v f s _ top onward is (set_event-does p name s event set handler v)
statement-does p name v f s (form.CancelEvent event cancelled) top onward is =
    act-at _ p name v f s _ top onward is (cancel_event-does p name s event cancelled v)
statement-does p name v f s (form.SetTimer timer set handler) top onward is =
    act-at _ p name v f s _ top onward is (set_timer-does p name s timer set handler v)
statement-does p name v f s (form.CancelTimer timer cancelled) top onward is =
    act-at _ p name v f s _ top onward is (cancel_timer-does p name s timer cancelled v)
statement-does p name v f s (form.SetBudget budget handler) top onward is = act-at _ p name v f s _ top onward is (set_budget-does p name s budget handler v)
statement-does p name v f s (form.CancelBudget budget cancelled) top onward is =
    act-at _ p name v f s _ top onward is (cancel_budget-does p name s budget cancelled v)
statement-does p name v f s x top onward is = calm-at p name v f s x top onward is (ap asks_nothing is)

onward-does : (p : Image) (name : Who) (v : World) (f : Frame) (onward : Option StatementNo) → top_of v name ≡ Some f → f.onward ≡ onward
    → Does (asked_at p v name onward) v (act p name)
onward-does p name v f None top e = calm-act p name v (ap (comes_to_nothing p) (ap (λ found. option_and_then (λ (g : Frame). g.onward) found) top ∙ e))
onward-does p name v f (Some s) top e = statement-does p name v f s (form_of p s) top e refl

top-does : (p : Image) (name : Who) (v : World) (found : Option Frame) → top_of v name ≡ found
    → Does (asked_at p v name (option_and_then (λ (f : Frame). f.onward) found)) v (act p name)
top-does p name v None e = calm-act p name v (ap (λ found. comes_to_nothing p (option_and_then (λ (g : Frame). g.onward) found)) e)
top-does p name v (Some f) e = onward-does p name v f f.onward e refl

act-does : (p : Image) (name : Who) (v : World) → Does (asked_at p v name (onward_of v name)) v (act p name)
act-does p name v = top-does p name v (top_of v name) refl

-- ---- an effect, from the world in which the action has not yet been put down

alike-timers : (r : Request) (w v : World) (ts : List TimerSet) → Alike w v → timers_asked v r ts ≡ timers_asked w r ts
alike-timers (OfTimer n t (Some h) value) w v ts k =
    let one : TimerSet = record { timer = n; task = t; handler = h; value = value } in
    ap (λ (s : Sight). cond (is_number_of s.timers n && int_lt (pos (clock_of v t)) value) (but_timer n ts ++ one ∷ []) (but_timer n ts)) k.sights
    ∙ ap (λ c. cond (is_number_of w.timers n && int_lt (pos c) value) (but_timer n ts ++ one ∷ []) (but_timer n ts)) (k.clocks t)
alike-timers (OfTimer n t None value) w v ts k = refl
alike-timers (OfEvent n h moment) w v ts k = refl
alike-timers (OfBudget n h) w v ts k = refl
alike-timers OfNothing w v ts k = refl

alike-handler : (r : Request) (w v : World) (i : ℕ) → Alike w v
    → handler_asked v r i (budget_in v.budgets i).handler ≡ handler_asked w r i (budget_in w.budgets i).handler
alike-handler (OfBudget n h) w v i k = ap (λ (s : Sight). cond (eqb n i && is_number_of s.budgets n) h (budget_in s.budgets i).handler) k.sights
alike-handler (OfTimer n t h value) w v i k = ap (λ (s : Sight). (budget_in s.budgets i).handler) k.sights
alike-handler (OfEvent n h moment) w v i k = ap (λ (s : Sight). (budget_in s.budgets i).handler) k.sights
alike-handler OfNothing w v i k = ap (λ (s : Sight). (budget_in s.budgets i).handler) k.sights

alike-at_once : (r : Request) (w v : World) → Alike w v → at_once v r ≡ at_once w r
alike-at_once (OfEvent n (Some h) moment) w v k = ap (λ (s : Sight). cond (int_lt (pos s.time) moment) [] (h ∷ [])) k.sights
alike-at_once (OfEvent n None moment) w v k = refl
alike-at_once (OfTimer n t (Some h) value) w v k = ap (λ c. cond (int_lt (pos c) value) [] (h ∷ [])) (k.clocks t)
alike-at_once (OfTimer n t None value) w v k = refl
alike-at_once (OfBudget n h) w v k = refl
alike-at_once OfNothing w v k = refl

effect-from : (r : Request) (w v u : World) → Alike w v → Effect r v u → Effect r w u
effect-from r w v u k e =
    let appointments : v.appointments ≡ w.appointments = ap (λ (s : Sight). s.appointments) k.sights in
    record {
      events = λ h. e.events (subst Rises (sym appointments) h) ∙ ap (λ (s : Sight). events_asked s.time r (events_of s.appointments)) k.sights;
      rises = λ h. e.rises (subst Rises (sym appointments) h);
      timers =
          e.timers ∙ alike-timers r w v (timers_in v.timers v.timers_set) k ∙ ap (λ (s : Sight). timers_asked w r (timers_in s.timers s.timers_set)) k.sights;
      timers_due = e.timers_due ∙ ap (λ (s : Sight). due_asked r s.timers_due) k.sights;
      handlers = λ i. e.handlers i ∙ alike-handler r w v i k;
      budget_due = e.budget_due ∙ ap (λ (s : Sight). s.budget_due) k.sights;
      outside = outside-then (sight_of w) (sight_of v) (sight_of u) (alike-outside w v k) e.outside;
      clocks = clocks-then (sight_of w) (sight_of v) (sight_of u) (alike-clocks w v k) e.clocks;
    }

from-acting : (r : Request) (w v : World) (said : List Said) (d : Done) → Alike w v → Kept (EffectSaid r) v said d → Kept (EffectSaid r) w said d
unfolding Kept
from-acting r w v said (done u ys) k x = (x.0, x.1, (effect-from r w v u k x.2.0, subst (λ hs. Tells hs x.0) (alike-at_once r w v k) x.2.1))

joined : (r : Request) (w v u : World) (xs ys : List Said) → EffectSaid r w xs v → Calmly v ys u → EffectSaid r w (xs ++ ys) u
joined r w v u xs ys a b = (
  effect-then r w v u a.0 b.0,
  subst (λ hs. Tells hs (xs ++ ys)) (append-nil (at_once w r)) (tells_both (at_once w r) [] xs ys a.1 b.1),
)

calm-from : (p : Image) (name : Who) (v : World) → From Calmly v (open_if_ready p name ▷ take_terminates p name ▷ unwind_all p name)
unfolding From Keeps
calm-from p name v said = behind_act-keeps p name v tt said

effect-does : (p : Image) (name : Who) (w : World) → Does (asked_at p (acting name w) name (onward_of (acting name w) name)) w (effect p name)
unfolding From effect
effect-does p name w said =
    let v = acting name w in
    let r = asked_at p v name (onward_of v name) in
    from-acting r w v said ((act p name ▷ open_if_ready p name ▷ take_terminates p name ▷ unwind_all p name) v said)
    (edited-alike name (with_ticks None) w (λ t. refl) (λ t. refl))
    (kept-then (EffectSaid r) Calmly (EffectSaid r) (open_if_ready p name ▷ take_terminates p name ▷ unwind_all p name) v said (act p name v said) (joined r v)
    (act-does p name v said) (λ u xs k. calm-from p name u))

-- ---- when it is over, its lines tell what is released at once

pub record Acted (p : Image) (w : World) (lines : List Event) (after : World) : Type 0 where
  pub does : Effect (asked p w) w after
  pub tells : released lines ≡ map (named_handler p) (at_once w (asked p w))

pub settled-by : (R : StepRelation) (Q : MoveRelation) (p : Image) (w : World) (d : Done)
    → ((v : World) (xs : List Said) → R w xs v → Q w (lines_of p xs) (placed_by (lines_of p xs) v)) → Kept R w [] d → Q w (settled p d).1 (settled p d).0
unfolding Kept
settled-by R Q p w (done v ys) over k = subst (λ xs. Q w (lines_of p xs) (placed_by (lines_of p xs) v)) (sym k.1) (over v k.0 k.2)

over_effect : (r : Request) (p : Image) (w v : World) (xs : List Said) → EffectSaid r w xs v
    → Effect r w (placed_by (lines_of p xs) v) × (released (lines_of p xs) ≡ map (named_handler p) (at_once w r))
over_effect r p w v xs k = (effect-then r w v (placed_by (lines_of p xs) v) k.0 (untouched (sight_of v)), released-lines p (at_once w r) xs k.1)

abbrev ActedBy : Image → Request → World → List Event → World → Type 0
ActedBy p r before lines after = Effect r before after × (released lines ≡ map (named_handler p) (at_once before r))

rested : (p : Image) (w : World) → ActedBy p OfNothing w [] w
rested p w = (effect-none w w (untouched (sight_of w)), refl)

runner-where : (p : Image) (w : World) (name : Who) (b : Bool) →
    let r = cond b (asked_at p (acting name w) name (onward_of (acting name w) name)) OfNothing in
    let d = (elim b as (λ _. Move) [ true ↦ settles p (effect p name) | false ↦ rests ]) w in ActedBy p r w d.1 d.0
unfolding From
runner-where p w name true =
    let r = asked_at p (acting name w) name (onward_of (acting name w) name) in
    settled-by (EffectSaid r) (ActedBy p r) p w (effect p name w []) (λ v xs k. over_effect r p w v xs k) (effect-does p name w [])
runner-where p w name false = rested p w

runner-acted : (p : Image) (w : World) (ran : Option Who) → ActedBy p (asked_by p w ran) w (effect_of_runner p ran w).1 (effect_of_runner p ran w).0
runner-acted p w None = rested p w
runner-acted p w (Some name) = runner-where p w name (is_over (task_of w name).ticks_left)

pub action-acted : (p : Image) (w : World) → Acted p w (finish_action p w).1 (finish_action p w).0
action-acted p w = let k = runner-acted p w w.ran in record { does = k.0; tells = k.1 }
