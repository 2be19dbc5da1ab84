-- What the effect of an action does to all that is released later: what it asks for, and nothing else.
use Rattle.std.proofs.Common.{◌≡◌, ℕ, ℤ, Bool, true, false, cond, not, ◌&&◌, eqb, List, [], ◌∷◌}
use Rattle.std.proofs.Common.{◌++◌, map, Option, Some, None, refl, ap, ◌∙◌, append_assoc, arith}
use Rattle.std.specs.Prelude.{int_lt, pos, Ok, Err, is_some}
use Rattle.ann_base.specs.Results.{◌>>=◌}
use Rattle.ann_base.specs.declared.identities.TaskNo.{TaskNo}
use Rattle.ann_base.specs.declared.exceptions.Raised.{Raised}
use Rattle.ann_base.specs.declared.exceptions.Raised.TheVariants as exception
use Rattle.trace_text.specs.declared.events.Who.{Who}
use Rattle.trace_text.specs.declared.events.Who.TheVariants as who
use Rattle.profile_image.specs.declared.image.Image.{Image}
use Rattle.profile_image.specs.declared.numbers.StatementNo.{StatementNo}
use Rattle.profile_image.specs.declared.statements.HandlerName.{HandlerName}
use Rattle.profile_image.specs.declared.statements.Setting.{Setting}
use Rattle.profile_machine.specs.declared.world.World.{World}
use Rattle.profile_machine.specs.declared.world.appointments.HandlerOf.{HandlerOf}
use Rattle.profile_machine.specs.declared.world.lines.Said.{Said}
use Rattle.profile_machine.specs.declared.world.lines.Part.TheVariants.{Own}
use Rattle.profile_machine.specs.declared.world.tasks.Task.{Task}
use Rattle.profile_machine.specs.Steps.{Step, Done, done, looks, goes_on_with, ◌▷◌}
use Rattle.profile_machine.specs.Tasks.{task_at, edit_task_found, edit_task, with_frames}
use Rattle.profile_machine.specs.Frames.{goes, edit_first, goes_on, given, raise_if, raises}
use Rattle.profile_machine.specs.Operators.{Valued}
use Rattle.profile_machine.specs.Values.{seen_by}
use Rattle.profile_machine.specs.Handlers.{without_number, handler_named, has_room_for_release}
use Rattle.profile_machine.specs.Handlers.{with_room_for_release, is_interrupt_handler, set_value, setting_of}
use Rattle.profile_machine.specs.Releases.{named_handler}
use Rattle.machine_laws.proofs.Moves.{StepRelation}
use Rattle.machine_laws.proofs.Kept.Combinators.{Keeps, Kept, From}
use Rattle.release_laws.specs.Asked.{Request, OfEvent, OfTimer, OfBudget, OfNothing, raised_if, with_room, setting_asked, or_nothing}
use Rattle.release_laws.specs.ReleaseLaws.{events_asked, timers_asked, is_number_of, clock_of, owed_at_once}
use Rattle.release_laws.proofs.ClockLemmas.{clock_in, set-clock}
use Rattle.release_laws.proofs.EventLists.{events_of, Rises}
use Rattle.release_laws.proofs.TimerLists.{timers_in}
use Rattle.release_laws.proofs.Tellings.{Tells}
use Rattle.release_laws.proofs.Untouched.{Sight, sight_of, budget_in, OutsideStays, ClocksStay, outside-then, clocks-then, Untouched, Calmly, calm}
use Rattle.machine_laws.proofs.Plain.Frames.{raises-keeps}
use Rattle.machine_laws.proofs.Kept.Frames.{plain_steps}

-- ---- an effect of a request

abbrev pub due_asked : Request → List ℕ → List ℕ
due_asked (OfTimer n t h value) due = without_number n due
due_asked _ due = due

abbrev pub handler_asked : World → Request → ℕ → Option HandlerOf → Option HandlerOf
handler_asked w (OfBudget n h) k old = cond (eqb n k && is_number_of w.budgets n) h old
handler_asked w _ k old = old

-- what is released at once
abbrev pub at_once : World → Request → List HandlerOf
at_once w (OfEvent n (Some h) moment) = cond (int_lt (pos w.time) moment) [] (h ∷ [])
at_once w (OfTimer n t (Some h) value) = cond (int_lt (pos (clock_of w t)) value) [] (h ∷ [])
at_once w _ = []

one_named : (p : Image) (b : Bool) (h : HandlerOf) → cond b [] (named_handler p h ∷ []) ≡ map (named_handler p) (cond b [] (h ∷ []))
one_named p true h = refl
one_named p false h = refl

pub owed-at_once : (p : Image) (w : World) (r : Request) → owed_at_once p w r ≡ map (named_handler p) (at_once w r)
owed-at_once p w (OfEvent n (Some h) moment) = one_named p (int_lt (pos w.time) moment) h
owed-at_once p w (OfEvent n None moment) = refl
owed-at_once p w (OfTimer n t (Some h) value) = one_named p (int_lt (pos (clock_of w t)) value) h
owed-at_once p w (OfTimer n t None value) = refl
owed-at_once p w (OfBudget n h) = refl
owed-at_once p w OfNothing = refl

pub record Effect (r : Request) (a b : World) : Type 0 where
  pub events : Rises a.appointments → events_of b.appointments ≡ events_asked a.time r (events_of a.appointments)
  pub rises : Rises a.appointments → Rises b.appointments
  pub timers : timers_in b.timers b.timers_set ≡ timers_asked a r (timers_in a.timers a.timers_set)
  pub timers_due : b.timers_due ≡ due_asked r a.timers_due
  pub handlers : (k : ℕ) → (budget_in b.budgets k).handler ≡ handler_asked a r k (budget_in a.budgets k).handler
  pub budget_due : b.budget_due ≡ a.budget_due
  pub outside : OutsideStays (sight_of a) (sight_of b)
  pub clocks : ClocksStay (sight_of a) (sight_of b)

abbrev pub EffectSaid : Request → World → List Said → World → Type 0
EffectSaid r before said after = Effect r before after × Tells (at_once before r) said

pub effect-none : (a b : World) → Untouched (sight_of a) (sight_of b) → Effect OfNothing a b
effect-none a b u = record {
  events = λ r. u.events.same;
  rises = u.events.rises;
  timers = u.timers.same;
  timers_due = u.timers.same_due;
  handlers = u.budgets.same;
  budget_due = u.budgets.same_due;
  outside = u.outside;
  clocks = u.clocks;
}

pub effect-then : (r : Request) (a b c : World) → Effect r a b → Untouched (sight_of b) (sight_of c) → Effect r a c
effect-then r a b c e u = record {
  events = λ h. u.events.same ∙ e.events h;
  rises = λ h. u.events.rises (e.rises h);
  timers = u.timers.same ∙ e.timers;
  timers_due = u.timers.same_due ∙ e.timers_due;
  handlers = λ k. u.budgets.same k ∙ e.handlers k;
  budget_due = u.budgets.same_due ∙ e.budget_due;
  outside = outside-then (sight_of a) (sight_of b) (sight_of c) e.outside u.outside;
  clocks = clocks-then (sight_of a) (sight_of b) (sight_of c) e.clocks u.clocks;
}

-- ---- steps that do what is asked for

-- what is kept by one relation is kept by a weaker one
pub kept-weaker : (R S : StepRelation) (w : World) (said : List Said) (d : Done) → ((v : World) (xs : List Said) → R w xs v → S w xs v) → Kept R w said d
    → Kept S w said d
unfolding Kept
kept-weaker R S w said (done v ys) f k = (k.0, k.1, f v k.0 k.2)

kept-behind : (R S T : StepRelation) (w v : World) (said ys : List Said) (d : Done)
    → ((v u : World) (xs ys : List Said) → R w xs v → S v ys u → T w (xs ++ ys) u) → Kept R w said (done v ys) → Kept S v ys d → Kept T w said d
unfolding Kept
kept-behind R S T w v said ys (done u zs) join a b = (a.0 ++ b.0, b.1 ∙ ap (λ xs. xs ++ b.0) a.1 ∙ append_assoc said a.0 b.0, join v u a.0 b.0 a.2 b.2)

-- one step behind another, by a relation of both
pub kept-then : (R S T : StepRelation) (g : Step) (w : World) (said : List Said) (d : Done)
    → ((v u : World) (xs ys : List Said) → R w xs v → S v ys u → T w (xs ++ ys) u) → Kept R w said d → ((v : World) (xs : List Said) → R w xs v → From S v g)
    → Kept T w said (goes_on_with g d)
unfolding Kept From
kept-then R S T g w said (done v ys) join k more = kept-behind R S T w v said ys (g v ys) join k (more v k.0 k.2 ys)

abbrev pub Does : Request → World → Step → Type 0
Does r w step = From (EffectSaid r) w step

pub calm-does : (w : World) (step : Step) → Keeps (λ v. Unit {0}) Calmly step → Does OfNothing w step
unfolding From Keeps
calm-does w step k said = kept-weaker Calmly (EffectSaid OfNothing) w said (step w said) (λ v xs c. (effect-none w v c.0, c.1)) (k w tt said)

raises-does : (name : Who) (e : Raised) (w : World) → Does OfNothing w (raises Own name e)
raises-does name e w = calm-does w (raises Own name e) (raises-keeps (plain_steps calm) Own name e)

pub given-does : {X : Type 0} (name : Who) (w : World) (x : Valued X) (f : X → Valued Request) (g : X → Step)
    → ((y : X) → x ≡ Ok y → Does (or_nothing (f y)) w (g y)) → Does (or_nothing (x >>= f)) w (given Own name x g)
given-does name w (Ok y) f g k = k y refl
given-does name w (Err e) f g k = raises-does name e w

pub raise_if-does : (name : Who) (w : World) (b : Bool) (e : Raised) (x : Valued Request) (step : Step) → Does (or_nothing x) w step
    → Does (or_nothing (raised_if b e x)) w (raise_if name b e step)
raise_if-does name w true e x step k = raises-does name e w
raise_if-does name w false e x step k = k

pub looks-does : (r : Request) (w : World) (f : World → Step) → Does r w (f w) → Does r w (looks f)
unfolding From
looks-does r w f k said = k said

pub with_room-does : (p : Image) (name : Who) (w : World) (h : Option HandlerOf) (x : Valued Request) (step : Step) → Does (or_nothing x) w step
    → Does (or_nothing (with_room (seen_by p w name) h x)) w (with_room_for_release name (is_some h) step)
with_room-does p name w h x step k =
    looks-does (or_nothing (with_room (seen_by p w name) h x)) w (λ v. raise_if name (is_some h && not (has_room_for_release v)) exception.Storage step)
    (raise_if-does name w (is_some h && not (has_room_for_release w)) exception.Storage x step k)

pub setting_of-does : (p : Image) (name : Who) (w : World) (base : ℤ) (set : Setting) (handler : Option HandlerName) (request : Option HandlerOf → ℤ → Request)
    (step : Option HandlerOf → ℤ → Step)
    → ((h : Option HandlerOf) (v : ℤ) → Does (request h v) w (step h v))
    → Does (or_nothing (setting_asked p (seen_by p w name) base set handler request)) w (setting_of p name (seen_by p w name) base set handler step)
setting_of-does p name w base set handler request step k =
    let q = seen_by p w name in
    given-does name w (handler_named q handler) _ _ (λ h e. with_room-does p name w h _ _
    (given-does name w (set_value q base set) _ _
    (λ v e. raise_if-does name w (not (is_interrupt_handler p w h)) exception.Program (Ok (request h v)) (step h v) (k h v))))

-- ---- somebody goes on: of what is looked at here only its marks change

pub edited-sight : (name : Who) (f : Task → Task) (w : World) (found : Option Task)
    → sight_of (edit_task_found name f w found) ≡ record (sight_of w) { tasks = (edit_task_found name f w found).tasks }
edited-sight name f w None = refl
edited-sight (who.Task n) f w (Some t) = refl
edited-sight who.Agent f w (Some t) = refl

edited-clock : (name : Who) (f : Task → Task) (w : World) (found : Option Task) → task_at w name ≡ found → ((t : Task) → (f t).who ≡ t.who)
    → ((t : Task) → (f t).cpu_ticks ≡ t.cpu_ticks) → (t : TaskNo) → clock_in (edit_task_found name f w found).tasks t ≡ clock_in w.tasks t
edited-clock name f w None e same_who same_clock t = refl
edited-clock (who.Task n) f w (Some x) e same_who same_clock t = set-clock (who.Task n) (f x) x (same_who x) (same_clock x) w.tasks t e
edited-clock who.Agent f w (Some x) e same_who same_clock t = refl

-- the sights of two worlds differ in no more than tasks, whose clocks are the same
pub record Alike (a b : World) : Type 0 where
  pub sights : sight_of b ≡ record (sight_of a) { tasks = b.tasks }
  pub clocks : (t : TaskNo) → clock_in b.tasks t ≡ clock_in a.tasks t

pub edited-alike : (name : Who) (f : Task → Task) (w : World) → ((t : Task) → (f t).who ≡ t.who) → ((t : Task) → (f t).cpu_ticks ≡ t.cpu_ticks)
    → Alike w (edit_task name f w)
edited-alike name f w same_who same_clock = record {
  sights = edited-sight name f w (task_at w name);
  clocks = edited-clock name f w (task_at w name) refl same_who same_clock;
}

pub alike-clocks : (a b : World) → Alike a b → ClocksStay (sight_of a) (sight_of b)
alike-clocks a b k = record { same_time = ap (λ (s : Sight). s.time) k.sights; low = λ t. let same = k.clocks t in omega (arith, same) }

pub alike-outside : (a b : World) → Alike a b → OutsideStays (sight_of a) (sight_of b)
alike-outside a b k = record {
  same_script = ap (λ (s : Sight). s.script) k.sights;
  same_masked = ap (λ (s : Sight). s.masked) k.sights;
  same_kept = ap (λ (s : Sight). s.kept_interrupts) k.sights;
}

kept-from : (r : Request) (w v : World) (said : List Said) (d : Done) → Kept (λ before said after. Effect r w after × Tells (at_once w r) said) v said d
    → Kept (EffectSaid r) w said d
unfolding Kept
kept-from r w v said (done u ys) k = k

-- a step from who has gone on
pub gone-does : (r : Request) (name : Who) (onward : Option StatementNo) (w : World) (step : Step)
    → ((v : World) → Alike w v → From (λ before said after. Effect r w after × Tells (at_once w r) said) v step) → Does r w (goes name onward ▷ step)
unfolding From goes
gone-does r name onward w step k said =
    let v = edit_task name (λ t. with_frames (edit_first (goes_on onward) t.frames) t) w in
    kept-from r w v said (step v said) (k v (edited-alike name (λ t. with_frames (edit_first (goes_on onward) t.frames) t) w (λ t. refl) (λ t. refl)) said)
