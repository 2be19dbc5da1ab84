-- Effects, instants and tocks: nobody for whom the end of a delay is appointed is placed behind them, so whom a tock chooses has none.
use Rattle.std.proofs.Common.{arith, ◌≡◌, inl, inr, Bool, true, false, List, [], ◌∷◌, ◌++◌, Option, Some, None, refl, sym, ap, subst, ◌∙◌, append-nil, cond}
use Rattle.std.specs.Prelude.{◌&&◌, ℤ, ℕ, filter, unwrap_or}
use Rattle.ann_base.specs.declared.identities.TaskNo.{TaskNo}
use Rattle.trace_text.specs.declared.events.Created.TheVariants as created
use Rattle.trace_text.specs.declared.events.Event.{Event}
use Rattle.trace_text.specs.declared.events.Event.TheVariants as written
use Rattle.trace_text.specs.declared.events.Who.{Who}
use Rattle.trace_text.specs.declared.events.Who.TheVariants as who
use Rattle.profile_image.specs.declared.image.Image.{Image}
use Rattle.profile_image.specs.declared.script_items.Item.{Item}
use Rattle.profile_machine.specs.declared.world.World.{World}
use Rattle.profile_machine.specs.declared.world.appointments.Release.{Release}
use Rattle.profile_machine.specs.declared.world.lines.Line.TheVariants as said
use Rattle.profile_machine.specs.declared.world.lines.Part.TheVariants.{TheBlock, Own}
use Rattle.profile_machine.specs.declared.world.marks.Frame.{Frame}
use Rattle.profile_machine.specs.declared.world.marks.Purpose.TheVariants as opened_for
use Rattle.profile_machine.specs.declared.world.tasks.Waiting.{Waiting}
use Rattle.profile_machine.specs.Act.{act}
use Rattle.profile_machine.specs.Cost.{cost}
use Rattle.profile_machine.specs.Dispatching.{word_of, without_kept_level, says_block, choose}
use Rattle.profile_machine.specs.Frames.{open_if_ready}
use Rattle.profile_machine.specs.Handlers.{charge}
use Rattle.profile_machine.specs.Instant.{timers_due, script_items, quantum_spent, moments_due, is_over, instant}
use Rattle.profile_machine.specs.Instant.{finish_action, events_due, effect_of_runner, effect, budgets_due}
use Rattle.profile_machine.specs.Masters.{waits_at_terminate, may_terminate, leave_by_terminate}
use Rattle.profile_machine.specs.Run.{with_serving, tock, spend_tick, serve_if_free, serve, says_run, says_idle, say, opens}
use Rattle.profile_machine.specs.Run.{opening, one_tick_less, next_tick, environment_task, environment, blank_world, begin_action}
use Rattle.profile_machine.specs.Scopes.{plainly}
use Rattle.profile_machine.specs.Steps.{◌▶◌, when, settles, settled, rests, placed_by, nothing, looks, for_each, changes, Move, Done, done}
use Rattle.profile_machine.specs.Tasking.{unwind_all, take_terminates, block_at_terminate}
use Rattle.profile_machine.specs.Tasks.{with_ticks, waiting_of, task_of, nobody, edit_task}
use Rattle.profile_image.specs.Words.{same_who, same_option}
use Rattle.machine_laws.proofs.Kept.Run.{before_tick, tock-parts}
use Rattle.machine_laws.proofs.Moves.{StepRelation, lines_of}
use Rattle.machine_laws.proofs.PlaceLemmas.{openings_place_by_lines, instants_place_by_lines, tocks_place_nobody}
use Rattle.machine_laws.proofs.TimeLemmas.{opening-runner}
use Rattle.machine_laws.specs.Reached.{Comes, opened, ticked, Reached, before, behind}
use Rattle.world_laws.proofs.Appointments.ActingEnds.{excused, any_lasting, acting, Acting}
use Rattle.world_laws.proofs.Appointments.DelayMoves.{fine, unplaces_then, settled-unplaces, nobody_excused, follows_then, Unplaces, MovedOn, Moved, GoodAs}
use Rattle.world_laws.proofs.Appointments.DelaySteps.{act-ends}
use Rattle.world_laws.proofs.Appointments.Delays.{natures, is_false, delayed, OwnIn, Idle, Good}
use Rattle.world_laws.proofs.Appointments.FineMoves.{FineMoves, chains, effect-leads, says-keeps}
use Rattle.world_laws.proofs.Appointments.Kept.Dispatching.{to_tail-keeps}
use Rattle.world_laws.proofs.Appointments.Kept.Frames.{open_sequence-keeps, open_if_ready-keeps}
use Rattle.world_laws.proofs.Appointments.Kept.Handlers.{charge-alters}
use Rattle.world_laws.proofs.Appointments.Kept.Instant.{behind_action-leads}
use Rattle.world_laws.proofs.Appointments.Kept.Scopes.{open_scope-alters}
use Rattle.world_laws.proofs.Appointments.Kept.Tasking.{unwind_all-keeps, all_terminate-keeps}
use Rattle.world_laws.proofs.Appointments.Kept.Tasks.{edit_task-alters}
use Rattle.world_laws.proofs.Appointments.Led.{then_to-from, moved-led, moved-from, looks_to-from, led_then-from, Led}
use Rattle.world_laws.proofs.Sequences.FineMoves.{Nobody}
use Rattle.line_laws.proofs.Leaving.PlacingLines.{is_placed}
use Rattle.machine_laws.proofs.QueueLemmas.{by_test}
use Rattle.machine_laws.proofs.FineMoves.{AnyWorld}
use Rattle.line_laws.proofs.Leaving.TaskLemmas.{who_path}
use Rattle.line_laws.proofs.Leaving.WakingRuns.{head-placed}
use Rattle.machine_laws.proofs.Kept.Combinators.{Alters, From, Keeps, Kept, Leads, changes-keeps, then-keeps}

-- ---- of nobody in particular, and of who may wait at a terminate alternative

pub resting : FineMoves (GoodAs AnyWorld) Nobody (Moved nobody_excused AnyWorld) (MovedOn nobody_excused AnyWorld)
resting = fine nobody_excused {E = AnyWorld} any_lasting Nobody (λ name w e may. absurd may)

module _ (a : Who) where
  choosing : FineMoves (GoodAs AnyWorld) Nobody (Moved (excused a) AnyWorld) (MovedOn (excused a) AnyWorld)
  choosing = fine (excused a) {E = AnyWorld} any_lasting Nobody (λ name w e may. absurd may)

  -- ---- who acts says at last that it blocks

  none_excused : (w : World) → waits_at_terminate (waiting_of w a) ≡ false → (t : TaskNo) → excused a t (waiting_of w (who.Task t)) ≡ false
  none_excused w none t =
      by_test (same_who (who.Task t) a)
      (λ e. let state : waiting_of w (who.Task t) ≡ waiting_of w a = ap (waiting_of w) (who_path (who.Task t) a e) in
      and_no (same_who (who.Task t) a) (ap waits_at_terminate state ∙ none))
      (λ e. ap (λ b. b && waits_at_terminate (waiting_of w (who.Task t))) e) where
        and_no : (b : Bool) {c : Bool} → c ≡ false → (b && c) ≡ false
        and_no true e = e
        and_no false e = refl

  nothing-led : (w : World) → Good w → waits_at_terminate (waiting_of w a) ≡ false → From (Led (excused a) nobody_excused) w nothing
  unfolding From Kept
  nothing-led w good none said_before = ([], sym (append-nil said_before), record { good = good; follows = λ t d x. inl (d, none_excused w none t, tt) })

  blocks-led : (w : World) (waiting : Waiting) → Good w → From (Led (excused a) nobody_excused) w (says_block TheBlock a waiting)
  unfolding From Kept says_block
  blocks-led w waiting good said_before =
      let k = resting.edits_task a without_kept_level w (good, tt) (λ u. refl) (λ u. refl) (λ u. refl) in (
        record { part = TheBlock; line = said.Block a (word_of waiting) } ∷ [],
        refl,
        record {
          good = k.good;
          follows = λ t d x.
              by_test (same_who (who.Task t) a)
              (λ e. inr (ap (λ b. cond b true false) e))
              (λ e. inl (k.later.delays t d, ap (λ b. b && waits_at_terminate (waiting_of w (who.Task t))) e, (refl, tt)));
        },
      )

  where-led : (w : World) (waiting : Waiting) (test : Bool) → Good w → waiting_of w a ≡ Some waiting → waits_at_terminate (Some waiting) ≡ test
      → From (Led (excused a) nobody_excused) w (when test (says_block TheBlock a waiting))
  where-led w waiting true good is e = blocks-led w waiting good
  where-led w waiting false good is e = nothing-led w good (ap waits_at_terminate is ∙ e)

  block_at-led : (w : World) (waiting : Option Waiting) → Good w → waiting_of w a ≡ waiting
      → From (Led (excused a) nobody_excused) w (block_at_terminate a waiting)
  unfolding block_at_terminate
  block_at-led w None good is = nothing-led w good (ap waits_at_terminate is)
  block_at-led w (Some waiting) good is = where-led w waiting (waits_at_terminate (Some waiting)) good is refl

  terminates-led : (p : Image) (w : World) → Good w → From (Led (excused a) nobody_excused) w (take_terminates p a)
  unfolding take_terminates
  terminates-led p w good =
      led_then-from (excused a) (excused a) nobody_excused (looks (λ v. for_each (filter (may_terminate v) v.tasks) (leave_by_terminate p a))) _ w
      (moved-led (excused a) AnyWorld _ w (good, tt) (all_terminate-keeps choosing p a))
      (λ v good_v. looks_to-from (Led (excused a) nobody_excused) (λ u. block_at_terminate a (waiting_of u a)) v (block_at-led v (waiting_of v a) good_v refl))

  -- ---- the effect of an action

  abbrev Whole : StepRelation
  Whole = Led nobody_excused nobody_excused

  effect-led : (p : Image) (w : World) → Good w → Idle a w → From Whole w (effect p a)
  unfolding effect
  effect-led p w good idle =
      then_to-from (Moved nobody_excused (Idle a)) (Whole) (Whole) (changes (edit_task a (with_ticks None))) _ w
      (moved-from nobody_excused (Idle a) (changes (edit_task a (with_ticks None))) w (good, idle)
      (changes-keeps (chains (acting a)) _ (edit_task-alters (acting a) a (with_ticks None) (λ u. refl) (λ u. refl) (λ u. refl))))
      (λ v xs k.
      led_then-from nobody_excused (excused a) nobody_excused (act p a) _ v (act-ends p a v (k.good, k.extra)) (λ u good_u.
      led_then-from (excused a) (excused a) nobody_excused (open_if_ready p a) _ u
      (moved-led (excused a) AnyWorld (open_if_ready p a) u (good_u, tt) (open_if_ready-keeps choosing p a)) (λ x good_x.
      led_then-from (excused a) nobody_excused nobody_excused (take_terminates p a) (unwind_all p a) x (terminates-led p x good_x) (λ y good_y.
      moved-led nobody_excused AnyWorld (unwind_all p a) y (good_y, tt) (unwind_all-keeps resting p a)))))
      (λ v u xs zs m n. record { good = n.good; follows = follows_then nobody_excused nobody_excused nobody_excused w v u xs zs m.follows n.follows })

-- ---- whole moves

-- nobody for whom one is appointed behind them is placed by them
pub record Came (w : World) (lines : List Event) (v : World) : Type 0 where
  pub good : Good v
  pub unplaces : Unplaces nobody_excused w lines v

came_then : (a b c : World) (xs ys : List Event) → Came a xs b → Came b ys c → Came a (xs ++ ys) c
came_then a b c xs ys p q = record { good = q.good; unplaces = unplaces_then nobody_excused a b c xs ys p.unplaces q.unplaces }

came-rests : (w : World) → Good w → Came w [] w
came-rests w good = record { good = good; unplaces = λ t d x places k. k d x }

-- the lines of an effect that is over place and take out, and change nothing else
settled-good : (lines : List Event) (w : World) → Good w → Good (placed_by lines w)
settled-good lines w h = record { awaited = h.awaited; numbered = h.numbered; owned = h.owned }

settled-came : (p : Image) (w : World) (d : Done) → Kept (Led nobody_excused nobody_excused) w [] d → Came w (settled p d).1 (settled p d).0
unfolding Kept
settled-came p w (done v ys) k =
    subst (λ xs. Came w (lines_of p xs) (placed_by (lines_of p xs) v)) (sym k.1)
    (record { good = settled-good (lines_of p k.0) v k.2.good; unplaces = settled-unplaces nobody_excused nobody_excused p w v k.0 k.2.follows })

effect-came : (p : Image) (a : Who) (test : Bool) (w : World) → Good w → Idle a w →
    let e = (elim test as (λ _. Move) [ true ↦ settles p (effect p a) | false ↦ rests ]) w in
    Came w e.1 e.0
unfolding From
effect-came p a true w good idle = settled-came p w (effect p a w []) (effect-led a p w good idle [])
effect-came p a false w good idle = came-rests w good

runner-came : (p : Image) (ran : Option Who) (w : World) → Good w → ((name : Who) → ran ≡ Some name → Idle name w)
    → Came w (effect_of_runner p ran w).1 (effect_of_runner p ran w).0
runner-came p None w good idle = came-rests w good
runner-came p (Some name) w good idle = effect-came p name (is_over (task_of w name).ticks_left) w good (idle name refl)

abbrev rest_of_instant : Image → Move
rest_of_instant p = script_items p ▶ events_due p ▶ moments_due p ▶ timers_due p ▶ budgets_due p ▶ quantum_spent p

instant-came : (p : Image) (w : World) → Good w → ((name : Who) → w.ran ≡ Some name → Idle name w) → Came w (instant p w).1 (instant p w).0
unfolding Leads
instant-came p w good idle =
    let first = runner-came p w.ran w good idle in
    let v = (finish_action p w).0 in
    let k = behind_action-leads resting p v (first.good, tt) in
    came_then w v (rest_of_instant p v).0 (finish_action p w).1 (rest_of_instant p v).1 first (record { good = k.good; unplaces = k.unplaces })

-- ---- tocks

abbrev Stays : World → World → Type 0
Stays w v = Moved nobody_excused AnyWorld w [] v

stays_then : (a b c : World) → Stays a b → Stays b c → Stays a c
stays_then a b c p q = resting.goes_on a b c p q

serving-stays : (serving : Option Release) (frames : List Frame) (releases : List Release) (w : World) → Good w
    → Stays w (serve_if_free serving frames releases w).0
serving-stays None [] [] w good = resting.stays w (good, tt)
serving-stays None [] (r ∷ rest) w good = takes_up r rest w good where
  takes_up : (r : Release) (rest : List Release) (w : World) → Good w → Stays w (with_serving r rest w)
  takes_up r rest w good = record {
    good = record { awaited = good.awaited; numbered = good.numbered; owned = good.owned };
    extra = tt;
    later = record { delays = λ t d. d; callers = λ c n h. h };
    follows = λ t d x. inl (d, refl, tt);
  }
serving-stays None (f ∷ fs) releases w good = resting.stays w (good, tt)
serving-stays (Some r) frames releases w good = resting.stays w (good, tt)

serve-stays : (name : Who) (w : World) → Good w → Stays w (serve name w).0
serve-stays (who.Task t) w good = resting.stays w (good, tt)
serve-stays who.Agent w good = serving-stays w.serving w.agent.frames w.releases w good

says_run-stays : (same : Bool) (name : Who) (w : World) → Good w → Stays w ((cond same rests (say (written.Run name))) w).0
says_run-stays true name w good = resting.stays w (good, tt)
says_run-stays false name w good = resting.stays w (good, tt)

says_idle-stays : (ran : Option Who) (w : World) → Good w → Stays w (says_idle ran w).0
says_idle-stays None w good = resting.stays w (good, tt)
says_idle-stays (Some name) w good = resting.stays w (good, tt)

charged-stays : (p : Image) (name : Who) (w : World) → Good w → Stays w (spend_tick name (charge p name (begin_action p name w)))
unfolding Alters
charged-stays p name w good =
    let begun = begin_action p name w in
    let first =
    resting.edits_task name (with_ticks (Some (unwrap_or (task_of w name).ticks_left (cost p w name)))) w (good, tt) (λ t. refl) (λ t. refl) (λ t. refl) in
    let charged = charge p name begun in
    let second = charge-alters resting p name begun (first.good, tt) in
    stays_then w begun (spend_tick name charged) first
    (stays_then begun charged (spend_tick name charged) second
    (resting.edits_task name (λ t. with_ticks (one_tick_less t.ticks_left) t) charged (second.good, tt) (λ t. refl) (λ t. refl) (λ t. refl)))

before_tick-stays : (p : Image) (chosen : Option Who) (w : World) → Good w → Stays w (before_tick p chosen w).0
before_tick-stays p None w good = says_idle-stays w.ran w good
before_tick-stays p (Some name) w good =
    let told = (says_run name w.ran w).0 in
    let first = says_run-stays (same_option same_who w.ran (Some name)) name w good in
    let served = (serve name told).0 in
    let second = serve-stays name told first.good in
    let last = spend_tick name (charge p name (begin_action p name served)) in
    stays_then w told last first (stays_then told served last second (charged-stays p name served second.good))

-- ---- every world before an instant

abbrev Unplaced : World → Type 0
Unplaced w = (t : TaskNo) → delayed t w ≡ true → is_placed (who.Task t) w.places ≡ false

pub record Between (w : World) : Type 0 where
  pub good : Good w
  pub unplaced : Unplaced w
  pub idle : (name : Who) → w.ran ≡ Some name → Idle name w

instant-good : (p : Image) (w : World) → Between w → Good (instant p w).0 × Unplaced (instant p w).0
instant-good p w h =
    let k = instant-came p w h.good h.idle in
    (k.good, λ t d. ap (is_placed (who.Task t)) (instants_place_by_lines p w) ∙ k.unplaces t d refl w.places (λ e x. h.unplaced t e))

chosen-idle : (name : Who) (w : World) → Unplaced w → choose w ≡ Some name → Idle name w
chosen-idle (who.Task t) w h e = is_false (delayed t w) (λ d. sym (head-placed w.places (who.Task t) e) ∙ h t d)
chosen-idle who.Agent w h e = tt

tock-between : (p : Image) (w : World) → Good w → Unplaced w → Between (tock p w).0
tock-between p w good unplaced =
    let ready_to_tick = (before_tick p (choose w) w).0 in
    let k = before_tick-stays p (choose w) w good in
    let v = next_tick (choose w) ready_to_tick in
    let is : (tock p w).0 ≡ v = ap (λ (x : World × List Event). x.0) (tock-parts p w) in
    subst Between (sym is) (record {
      good = record { awaited = k.good.awaited; numbered = k.good.numbered; owned = k.good.owned };
      unplaced =
          λ t d.
          ap (λ (u : World). is_placed (who.Task t) u.places) (sym is) ∙ ap (is_placed (who.Task t)) (tocks_place_nobody p w) ∙ unplaced t (k.later.delays t d);
      idle = λ name e. idle-ticked name v w (λ t d. k.later.delays t d) (chosen-idle name w unplaced e);
    }) where
      idle-ticked : (name : Who) (v w : World) → ((t : TaskNo) → delayed t v ≡ true → delayed t w ≡ true) → Idle name w → Idle name v
      idle-ticked (who.Task t) v w h e = is_false (delayed t v) (λ d. sym (h t d) ∙ e)
      idle-ticked who.Agent v w h e = tt

-- ---- the opening

blank-good : (p : Image) (script : List (ℤ × Item)) → Good (blank_world p script)
blank-good p script = record { awaited = λ t d. absurd cc; numbered = (omega arith, omega arith); owned = λ name. blank-owned p script name } where
  blank-owned : (p : Image) (script : List (ℤ × Item)) (name : Who) → OwnIn [] 0 name (natures (task_of (blank_world p script) name).frames)
  blank-owned p script who.Agent = tt
  blank-owned p script (who.Task t) = blank-first p (same_who (who.Task t) (who.Task (record { 0 = 0 }))) t where
    blank-first : (p : Image) (b : Bool) (t : TaskNo) → OwnIn [] 0 (who.Task t) (natures (unwrap_or (cond b (Some (environment_task p)) None) nobody).frames)
    blank-first p true t = tt
    blank-first p false t = tt

blank-idle : (p : Image) (script : List (ℤ × Item)) (name : Who) → Idle name (blank_world p script)
blank-idle p script (who.Task t) = refl
blank-idle p script who.Agent = tt

opens-keeps : (p : Image) → Keeps (Acting environment) (Moved nobody_excused (Idle environment)) (opens p)
unfolding opens
opens-keeps p =
    let moves = acting environment in
    then-keeps (chains moves) _ _ (changes-keeps (chains moves) _ (open_scope-alters moves p environment p.environment (plainly None) opened_for.Task))
    (then-keeps (chains moves) _ _ (says-keeps moves Own (said.New (created.Task (record { 0 = 0 })) None p.main.priority) refl)
    (then-keeps (chains moves) _ _ (to_tail-keeps moves p Own environment refl) (open_sequence-keeps moves p Own environment)))

opening-moved : (p : Image) (script : List (ℤ × Item))
    → MovedOn nobody_excused (Idle environment) (blank_world p script) (opening p script).1 (opening p script).0
unfolding Leads
opening-moved p script =
    effect-leads (acting environment) p (opens p) (opens-keeps p) (blank_world p script) (blank-good p script, blank-idle p script environment)

opening-between : (p : Image) (script : List (ℤ × Item)) → Between (opening p script).0
opening-between p script =
    let k = opening-moved p script in record {
      good = k.good;
      unplaced = λ t d. ap (is_placed (who.Task t)) (openings_place_by_lines p script) ∙ k.unplaces t d refl [] (λ e x. refl);
      idle = λ name e. absurd (let none : None ≡ Some name = sym (opening-runner p script) ∙ e in cc);
    }

comes-between : (p : Image) (script : List (ℤ × Item)) (bound : ℕ) (w : World) → Comes p script bound w → Between w
comes-between p script bound _ opened = opening-between p script
comes-between p script bound _ (ticked w c e) = let h = instant-good p w (comes-between p script bound w c) in tock-between p (instant p w).0 h.0 h.1

pub reached-good : (p : Image) (script : List (ℤ × Item)) (bound : ℕ) (w : World) → Reached p script bound w → Good w
reached-good p script bound _ (before w c) = (comes-between p script bound w c).good
reached-good p script bound _ (behind w c) = (instant-good p w (comes-between p script bound w c)).0
