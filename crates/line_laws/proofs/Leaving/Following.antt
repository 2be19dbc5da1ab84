-- What whole effects keep: their lines come rightly, and who waits for a meeting behind them is not placed by them. So every
-- instant that begins where who ran does not wait leads to a world in which nobody waits and is placed.
use Rattle.std.proofs.Common.{◌≡◌, ℤ, Bool, true, false, List, [], ◌∷◌, ◌++◌, Option, Some, None, refl, sym, ap, subst, ◌∙◌}
use Rattle.ann_base.specs.declared.identities.TaskNo.{TaskNo}
use Rattle.trace_text.specs.declared.events.Event.{Event}
use Rattle.trace_text.specs.declared.events.Event.TheVariants as written
use Rattle.trace_text.specs.declared.events.Created.TheVariants as created
use Rattle.trace_text.specs.declared.events.Who.{Who}
use Rattle.trace_text.specs.declared.events.Who.TheVariants as who
use Rattle.profile_image.specs.declared.image.Image.{Image}
use Rattle.profile_image.specs.declared.script_items.Item.{Item}
use Rattle.profile_machine.specs.declared.world.World.{World}
use Rattle.profile_machine.specs.declared.world.tasks.Placed.{Placed}
use Rattle.profile_machine.specs.declared.world.lines.Line.TheVariants as line
use Rattle.profile_machine.specs.declared.world.lines.Part.TheVariants.{Own}
use Rattle.profile_machine.specs.declared.world.lines.Said.{Said}
use Rattle.profile_machine.specs.declared.world.marks.Purpose.TheVariants as opened_for
use Rattle.profile_machine.specs.Steps.{Done, done, Move, settles, settled, rests, placed_by, places_after, places_after_all, says, ◌▷◌, ◌▶◌}
use Rattle.profile_machine.specs.Tasks.{task_of, waiting_in, with_frames}
use Rattle.profile_machine.specs.Dispatching.{to_tail}
use Rattle.profile_machine.specs.Frames.{open_sequence, new_frame}
use Rattle.profile_image.specs.Program.{scope_of}
use Rattle.profile_machine.specs.Scopes.{open_scope, plainly, draw_region, begin_scope, new_scope_mark, next_id, region_of_next}
use Rattle.profile_machine.specs.Instant.{effect, is_over, effect_of_runner, finish_action, script_items}
use Rattle.profile_machine.specs.Instant.{events_due, moments_due, timers_due, budgets_due, quantum_spent, instant}
use Rattle.profile_machine.specs.Run.{opens, opening, blank_world, environment}
use Rattle.machine_laws.specs.LineKinds.{is_of_tock}
use Rattle.machine_laws.proofs.Moves.{lines_of}
use Rattle.line_laws.proofs.Leaving.FineMoves.{FineMoves, Awake, waits, chains}
use Rattle.line_laws.proofs.Leaving.TaskLemmas.{awake-edited}
use Rattle.line_laws.proofs.Leaving.FreeWorlds.{Inv}
use Rattle.line_laws.proofs.Leaving.PlacingLines.{taken, is_placed, taken_not_placed, quiet_not_placed}
use Rattle.line_laws.proofs.Leaving.RegionLines.{Told, NotLeaving}
use Rattle.line_laws.proofs.Leaving.LeftLines.{told_event, behind}
use Rattle.line_laws.proofs.Leaving.RegionTies.{Tied}
use Rattle.line_laws.proofs.Leaving.Telling.{Shown, Follows, Follows-append, RightEvent, behind_all, behind_all-append, settled-tells}
use Rattle.line_laws.proofs.Leaving.CoreMoves.{Base, state_in}
use Rattle.line_laws.proofs.Leaving.Moving.{Moved, GoodAs, Ends, fine}
use Rattle.line_laws.proofs.Leaving.Modes.{acting, Known, Nobody, Anybody, extra-none, known-none}
use Rattle.line_laws.proofs.Leaving.EffectSteps.{Settled, effect-from, same_acts}
use Rattle.line_laws.proofs.Leaving.Kept.Dispatching.{to_tail-from}
use Rattle.line_laws.proofs.Leaving.Kept.Frames.{open_sequence-keeps}
use Rattle.line_laws.proofs.Leaving.Kept.Instant.{behind_action-leads}
use Rattle.line_laws.proofs.Leaving.Kept.Run.{TockMoves}
use Rattle.machine_laws.proofs.QueueLemmas.{by_test}
use Rattle.machine_laws.proofs.Kept.Combinators.{From, Kept, Leads, changes_then-from, said_then-from, settles-from, then-from}

-- ---- whom lines place

-- a task that waits behind them and was not placed where it waited before is not placed behind them
abbrev pub PlacedBy : TaskNo → World → List Event → World → Type 0
PlacedBy t w lines v =
    waits (waiting_in (state_in v t)) ≡ true → (places : List Placed) → (waits (waiting_in (state_in w t)) ≡ true → is_placed (who.Task t) places ≡ false)
    → is_placed (who.Task t) (places_after_all lines places) ≡ false

after_all-append : (xs ys : List Event) (places : List Placed) → places_after_all (xs ++ ys) places ≡ places_after_all ys (places_after_all xs places)
after_all-append [] ys places = refl
after_all-append (x ∷ xs) ys places = after_all-append xs ys (places_after x places)

pub record Following (w : World) (lines : List Event) (v : World) : Type 0 where
  pub shown : Shown NotLeaving w lines v
  pub placed : (t : TaskNo) → PlacedBy t w lines v
  pub inv : Inv v

pub following-rests : (w : World) → Inv w → Following w [] w
following-rests w inv = record { shown = λ s h. (tt, h); placed = λ t e places k. k e; inv = inv }

shown-then : (a b c : World) (xs ys : List Event) → Shown NotLeaving a xs b → Shown NotLeaving b ys c → Shown NotLeaving a (xs ++ ys) c
shown-then a b c xs ys p q s h =
    let f = p s h in
    let g = q (behind_all NotLeaving s xs) f.1 in
    (Follows-append NotLeaving s xs ys f.0 g.0, subst (λ t. Tied t c) (sym (behind_all-append NotLeaving s xs ys)) g.1)

pub following-then : (a b c : World) (xs ys : List Event) → Following a xs b → Following b ys c → Following a (xs ++ ys) c
following-then a b c xs ys p q = record {
  shown = shown-then a b c xs ys p.shown q.shown;
  placed = λ t e places k. ap (is_placed (who.Task t)) (after_all-append xs ys places) ∙ q.placed t e (places_after_all xs places) (λ m. p.placed t m places k);
  inv = q.inv;
}

-- who acts does not wait at first
abbrev Wakes : (Who → Bool) → World → Type 0
Wakes acts w = (t : TaskNo) → acts (who.Task t) ≡ true → waits (waiting_in (state_in w t)) ≡ false

settled-placed : (acts : Who → Bool) (p : Image) (w v : World) (xs : List Said) → Base acts false w xs v → Wakes acts w → (t : TaskNo)
    → PlacedBy t w (lines_of p xs) v
settled-placed acts p w v xs base awake t e places k =
    let n = who.Task t in
    by_test (taken n xs)
    (λ out. taken_not_placed p n xs places out)
    (λ out.
    let c = base.claims t e out (λ f. absurd cc) in
    let before : waits (waiting_in (state_in w t)) ≡ true = ap (λ s. waits (waiting_in s)) (sym c.0) ∙ e in
    by_test (acts n)
    (λ a. absurd (let never : true ≡ false = sym before ∙ awake t a in cc))
    (λ a. quiet_not_placed p n xs places (c.2 a) (k before)))

pub settled-following : (acts : Who → Bool) (p : Image) (w v : World) (xs : List Said) → Base acts false w xs v → Wakes acts w
    → Following w (lines_of p xs) (placed_by (lines_of p xs) v)
settled-following acts p w v xs base awake = record {
  shown = λ s h. let f = settled-tells NotLeaving p w v xs base.tells s h in (f.0, f.1);
  placed = settled-placed acts p w v xs base awake;
  inv = base.inv;
}

silently-following : (acts : Who → Bool) (w v : World) → Base acts false w [] v → Following w [] v
silently-following acts w v base = record {
  shown = λ s h. let f = base.tells s h in (tt, subst (λ t. Tied t v) (sym f.1) f.2);
  placed = λ t e places k. let c = base.claims t e refl (λ f. absurd cc) in k (ap (λ s. waits (waiting_in s)) (sym c.0) ∙ e);
  inv = base.inv;
}

-- ---- where nobody acts

nobody_acts : (w : World) → Wakes (acting who.Agent) w
nobody_acts w t e = absurd cc

ends-following : Ends (acting who.Agent) false Known Following
ends-following = record {
  moved = λ a b h. (h.inv, tt);
  rests = λ w g. following-rests w g.0;
  leads_on = λ a b c {xs} {ys} p q. following-then a b c xs ys p q;
  settles = λ p a b xs h. settled-following (acting who.Agent) p a b xs h.core.base (nobody_acts a);
  silently = λ a b h. silently-following (acting who.Agent) a b h.core.base;
}

pub resting : FineMoves (GoodAs Known) Nobody (λ n. acting who.Agent n ≡ true) Anybody (Unit {0}) (Moved (acting who.Agent) false Known) Following
resting = fine (acting who.Agent) false extra-none (known-none who.Agent false) ends-following

-- ---- the instant

abbrev pub RanAwake : World → Type 0
RanAwake w = (name : Who) → w.ran ≡ Some name → Awake name w

effect-wakes : (a : Who) (w : World) → Awake a w → Wakes (acting a) w
effect-wakes a w awake t e = let is = same_acts a t e in subst (λ n. Awake n w) is awake

effect-settled : (p : Image) (a : Who) (w : World) (d : Done) → Awake a w → Kept (Settled a) w [] d → Following w (settled p d).1 (settled p d).0
unfolding Kept
effect-settled p a w (done v ys) awake k =
    subst (λ xs. Following w (lines_of p xs) (placed_by (lines_of p xs) v)) (sym k.1) (settled-following (acting a) p w v k.0 k.2 (effect-wakes a w awake))

effect-following : (p : Image) (a : Who) (test : Bool) (w : World) → Inv w → Awake a w →
    let e = (elim test as (λ _. Move) [ true ↦ settles p (effect p a) | false ↦ rests ]) w in
    Following w e.1 e.0
unfolding From
effect-following p a true w inv awake = effect-settled p a w (effect p a w []) awake (effect-from p a w inv awake [])
effect-following p a false w inv awake = following-rests w inv

runner-following : (p : Image) (ran : Option Who) (w : World) → Inv w → ((name : Who) → ran ≡ Some name → Awake name w)
    → Following w (effect_of_runner p ran w).1 (effect_of_runner p ran w).0
runner-following p None w inv awake = following-rests w inv
runner-following p (Some name) w inv awake = effect-following p name (is_over (task_of w name).ticks_left) w inv (awake name refl)

abbrev Rest_of_instant : Image → Move
Rest_of_instant p = script_items p ▶ events_due p ▶ moments_due p ▶ timers_due p ▶ budgets_due p ▶ quantum_spent p

pub instant-following : (p : Image) (w : World) → Inv w → RanAwake w → Following w (instant p w).1 (instant p w).0
unfolding Leads
instant-following p w inv awake =
    let first = runner-following p w.ran w inv awake in
    let v = (finish_action p w).0 in
    following-then w v (Rest_of_instant p v).0 (finish_action p w).1 (Rest_of_instant p v).1 first (behind_action-leads resting p tt v (first.inv, tt))

-- ---- tocks

tock_line : (event : Event) (places : List Placed) → is_of_tock event ≡ true → places_after event places ≡ places
tock_line (written.Ready name level end deadline) places e = absurd cc
tock_line (written.Block name waits) places e = absurd cc
tock_line (written.Done task) places e = absurd cc
tock_line _ places e = refl

tock-tells : (event : Event) → is_of_tock event ≡ true → told_event event ≡ None
tock-tells (written.Leave name region how) e = absurd cc
tock-tells (written.Left name region) e = absurd cc
tock-tells (written.Init name object region declared) e = absurd cc
tock-tells (written.Final name object) e = absurd cc
tock-tells (written.Replace name object) e = absurd cc
tock-tells _ e = refl

said-tock : (s : List Told) (event : Event) (w : World) → told_event event ≡ None → Tied s w
    → Follows NotLeaving s (event ∷ []) × Tied (behind_all NotLeaving s (event ∷ [])) w
said-tock s event w none h = (subst (λ k. RightEvent NotLeaving s k × Unit {0}) (sym none) (tt, tt), subst (λ k. Tied (behind k s) w) (sym none) h)

pub tock_moves : TockMoves (GoodAs Known) Following
tock_moves = record {
  tells = λ event w good e. record {
    shown = λ s h. said-tock s event w (tock-tells event e) h;
    placed = λ t k places h. ap (is_placed (who.Task t)) (tock_line event places e) ∙ h k;
    inv = good.0;
  };
  serves = λ r rest w good e. record { shown = λ s h. (tt, h); placed = λ t k places h. h k; inv = good.0 };
}

-- ---- the opening

pub blank-inv : (p : Image) (script : List (ℤ × Item)) → Inv (blank_world p script)
blank-inv p script = ((record { sound = tt; free = λ e. absurd cc; own = tt }, tt), record { sound = tt; free = λ e. absurd cc; own = tt })

opened-awake : (p : Image) (script : List (ℤ × Item)) (kept : Bool)
    → Awake environment (draw_region kept (begin_scope p environment p.environment (plainly None) (blank_world p script)))
opened-awake p script true = refl
opened-awake p script false = refl

opens-from : (p : Image) (script : List (ℤ × Item)) → From (Moved (acting who.Agent) false Known) (blank_world p script) (opens p)
unfolding opens
opens-from p script =
    let w = blank_world p script in
    let v = open_scope p environment p.environment (plainly None) opened_for.Task w in
    let kept = (scope_of p p.environment).kept in
    let f = new_frame (new_scope_mark (next_id w) (region_of_next kept w) opened_for.Task) (scope_of p p.environment).first in
    let first = resting.opens_task p environment p.environment (plainly None) w (blank-inv p script, tt) tt in
    let awake : Awake environment v =
    awake-edited environment environment (λ t. with_frames (f ∷ t.frames) t) (draw_region kept (begin_scope p environment p.environment (plainly None) w))
    (λ u. refl) (λ u. refl) (opened-awake p script kept) in
    let good = resting.behind w v first in
    let new = line.New (created.Task (record { 0 = 0 })) None p.main.priority in
    changes_then-from (chains resting) (open_scope p environment p.environment (plainly None) opened_for.Task)
    (says Own new ▷ to_tail p Own environment ▷ open_sequence p Own environment) w first
    (said_then-from (chains resting) Own new (to_tail p Own environment ▷ open_sequence p Own environment) v (resting.says Own new v good refl)
    (then-from (chains resting) (to_tail p Own environment) (open_sequence p Own environment) v (to_tail-from resting p Own environment v good awake)
    (open_sequence-keeps resting p Own environment tt)))

pub opening-following : (p : Image) (script : List (ℤ × Item)) → Following (blank_world p script) (opening p script).1 (opening p script).0
opening-following p script = settles-from Following p (resting.settles p) (opens p) (blank_world p script) (opens-from p script)
