-- In every run who blocks has no action open: it is not ready behind the effect, and so has no mark of one; and nothing is said of its
-- actions behind that line.
use Rattle.std.proofs.Common.{◌≡◌, ◌⊎◌, inl, inr, ℕ, ℤ, Bool, true, false, cond, ◌||◌, List, [], ◌∷◌, Option, Some, None, refl, sym, ap, subst, ◌∙◌}
use Rattle.std.specs.Prelude.{is_some}
use Rattle.std.proofs.lemmas.Bool.{false≢true}
use Rattle.trace_text.specs.declared.events.Action as shown
use Rattle.trace_text.specs.declared.events.Event.{Event}
use Rattle.trace_text.specs.declared.events.Event.TheVariants as written
use Rattle.trace_text.specs.declared.events.Who.{Who}
use Rattle.trace_text.specs.Laws.{actions_after}
use Rattle.trace_text.specs.Queue.{who_eq}
use Rattle.trace_text.proofs.LawsFollowed.{lines_hold}
use Rattle.profile_image.specs.Words.{same_who}
use Rattle.profile_image.specs.declared.image.Image.{Image}
use Rattle.profile_image.specs.declared.script_items.Item.{Item}
use Rattle.profile_machine.specs.declared.world.World.{World}
use Rattle.profile_machine.specs.declared.world.lines.Line.{Line}
use Rattle.profile_machine.specs.declared.world.lines.Line.TheVariants as line
use Rattle.profile_machine.specs.declared.world.lines.Part.{Part}
use Rattle.profile_machine.specs.declared.world.lines.Part.TheVariants.{TheBlock}
use Rattle.profile_machine.specs.declared.world.lines.Said.{Said}
use Rattle.profile_machine.specs.declared.world.tasks.Placed.{Placed}
use Rattle.profile_machine.specs.Act.{act}
use Rattle.profile_machine.specs.Instant.{effect, is_over}
use Rattle.profile_machine.specs.Lines.{event_of}
use Rattle.profile_machine.specs.Run.{run_of}
use Rattle.profile_machine.specs.Steps.{Done, done, in_order, is_part_before, placed_by, settled, settles}
use Rattle.profile_machine.specs.Tasks.{edit_task, is_runnable_state, task_of, with_ticks}
use Rattle.machine_laws.specs.LineKinds.{is_of_tock}
use Rattle.machine_laws.specs.Reached.{Comes}
use Rattle.machine_laws.proofs.FinestMoves.{chains}
use Rattle.machine_laws.proofs.Kept.Act.{any_act-from}
use Rattle.machine_laws.proofs.Kept.Combinators.{Alters, From, changes_then-from, settles-from, then-from, then-keeps}
use Rattle.machine_laws.proofs.Kept.Frames.{open_if_ready-keeps}
use Rattle.machine_laws.proofs.Kept.Tasking.{take_terminates-keeps, unwind_all-keeps}
use Rattle.machine_laws.proofs.Kept.Tasks.{edit_task-alters}
use Rattle.machine_laws.proofs.Moves.{lines_of}
use Rattle.machine_laws.proofs.QueueLemmas.{by_test}
use Rattle.line_laws.proofs.Exits.AwakeRuns.{runners-free}
use Rattle.line_laws.proofs.Exits.FreeActs.{IsFree, acts_free, runner-free, stays_held}
use Rattle.line_laws.proofs.Handlers.AgentLines.{block_last}
use Rattle.line_laws.proofs.Leaving.TaskLemmas.{same_self}
use Rattle.line_laws.proofs.Ticks.LineByLine.{Follow}
use Rattle.ceiling_laws.specs.RunLaws.{Tells}
use Rattle.ceiling_laws.proofs.Fine.Cores.{Core, core}
use Rattle.ceiling_laws.proofs.Runs.ActingMoves.{Either}
use Rattle.ceiling_laws.proofs.Runs.BegunLines.{Each, each-in_order}
use Rattle.ceiling_laws.proofs.Runs.FreeMoves.{freely}
use Rattle.ceiling_laws.proofs.Runs.Kept.Act.{effect-leads}
use Rattle.ceiling_laws.proofs.Runs.Triples.{Ends}
use Rattle.world_laws.proofs.Actions.GoodMoves.{free-asleep}
use Rattle.world_laws.proofs.Places.CorePoints.{Holds, core-plain}
use Rattle.world_laws.proofs.Places.Puts.{MayBePlaced, Spot, last_put, pick, place_by, puts, spot_in}
use Rattle.world_laws.proofs.Places.Standing as standing
use Rattle.world_laws.proofs.Places.Standing.{Last, limit, limit-other, limit-own, runs_in}
use Rattle.world_laws.proofs.Scopes.FineMoves.{Live}
use Rattle.ceiling_laws.proofs.Runs.Kept.Waking.{who-is}
use Rattle.blocking_laws.specs.FreeLines.{RunsBlockFree, blocks_free}
use Rattle.blocking_laws.specs.Stretches.{has_open}
use Rattle.blocking_laws.proofs.EachLine.{EachSaid, each_free}
use Rattle.blocking_laws.proofs.EffectWorlds.{effect-stands, told-effect_sound}
use Rattle.blocking_laws.proofs.LastActions.{own_of}
use Rattle.blocking_laws.proofs.LastMoves.{last_moves}
use Rattle.blocking_laws.proofs.LastRuns.{LedOn}
use Rattle.blocking_laws.proofs.LastTies as ties
use Rattle.blocking_laws.proofs.LastTies.{Tied, actions_behind}
use Rattle.blocking_laws.proofs.OpenLive.{effect-live, effect-scopes, free-own, told-live}
use Rattle.blocking_laws.proofs.OpenTold.{Fresh, IsTied, comes-of, effect-below, fresh-behind, over-below, rest-none, told-tied}
use Rattle.blocking_laws.proofs.StopLines.{Has, Parted, StopsFree, behind_all, each-at, each-of}
use Rattle.blocking_laws.proofs.StopLines.{follow-stops, in_order-late, is_stop, parted_effects, quiet-no_stop}
use Rattle.blocking_laws.proofs.StopRuns.{OfStops, run-stops}

-- ---- who is said to block last

none-open : (n : Who) (s : List shown.Action) → own_of n s ≡ [] → has_open n s ≡ false
none-open n [] e = refl
none-open n (a ∷ s) e = let parts = rest-none (who_eq n a.who) a.object (own_of n s) e in ap (λ b. b || has_open n s) parts.0 ∙ none-open n s parts.1

abbrev LastStands : Who → List Said → Type 0
LastStands n xs = (q : Option Spot) × (last_put n xs ≡ Some (TheBlock, q))

-- only a line of the last part does not stand before one
last_part : (part : Part) → is_part_before part TheBlock ≡ false → part ≡ TheBlock
last_part TheBlock e = refl
last_part _ e = absurd (false≢true (sym e))

stop-test : (last : Part × Option Spot) (b : Bool) → is_part_before last.0 TheBlock ≡ b
    → (q : Option Spot) × (cond b (Some (TheBlock, None)) (Some last) ≡ Some (TheBlock, q))
stop-test last true is = (None, refl)
stop-test last false is = (last.1, ap (λ part. Some (part, last.1)) (last_part last.0 is))

stop-first : (last : Last) → (q : Option Spot) × (pick TheBlock (Some None) last ≡ Some (TheBlock, q))
stop-first None = (None, refl)
stop-first (Some last) = stop-test last (is_part_before last.0 TheBlock) refl

stop-later : (part : Part) (place : Option (Option Spot)) (last : Last) → (q : Option Spot) × (last ≡ Some (TheBlock, q))
    → (q : Option Spot) × (pick part place last ≡ Some (TheBlock, q))
stop-later part None last h = h
stop-later part (Some place) last h =
    (h.0, ap (λ l. pick part (Some place) l) h.1 ∙ ap (λ b. cond b (Some (part, place)) (Some (TheBlock, h.0))) (block_last part))

stop-last : (n : Who) (xs : List Said) (x : Said) → Has x xs → x.part ≡ TheBlock → puts n x.line ≡ Some None → LastStands n xs
stop-last n [] x m part line_puts = absurd m
stop-last n (y ∷ ys) x (inl is) part line_puts =
    let here : pick y.part (puts n y.line) (last_put n ys) ≡ pick TheBlock (Some None) (last_put n ys) =
    ap (λ q. pick q (puts n y.line) (last_put n ys)) (ap (λ (z : Said). z.part) (sym is) ∙ part)
    ∙ ap (λ q. pick TheBlock q (last_put n ys)) (ap (λ (z : Said). puts n z.line) (sym is) ∙ line_puts) in
    let first = stop-first (last_put n ys) in
    (first.0, here ∙ first.1)
stop-last n (y ∷ ys) x (inr m) part line_puts = stop-later y.part (puts n y.line) (last_put n ys) (stop-last n ys x m part line_puts)

-- ---- it is not ready behind the effect

module _ (p : Image) (s : List Placed) (name : Who) where
  before_last : (n : Who) → is_part_before (limit p s name n) TheBlock ≡ true
  before_last n = by_test (same_who n name)
      (λ same. ap (λ m. is_part_before (limit p s name m) TheBlock) (who-is n name same) ∙ ap (λ q. is_part_before q TheBlock) (limit-own p s name))
      (λ apart. ap (λ q. is_part_before q TheBlock) (limit-other p s name n apart))

  nowhere : (n : Who) (q : Option Spot) → MayBePlaced (limit p s name n) (Some (TheBlock, q)) → q ≡ None
  nowhere n q (inl none) = none
  nowhere n q (inr late) = absurd (false≢true (sym late ∙ before_last n))

  asleep : (d : ℕ) (n : Who) (c : Core) (xs : List Said) → standing.Good p s name d n c (last_put n xs) → LastStands n xs → runs_in c ≡ false
  asleep d n c xs h last = by_test (runs_in c) (λ runs. absurd (clash runs)) (λ e. e)
    where
      out : last.0 ≡ None
      out = nowhere n last.0 (subst (MayBePlaced (limit p s name n)) last.1 h.late)

      clash : runs_in c ≡ true → ⊥
      clash runs =
          let shown : is_some (place_by (last_put n xs) (spot_in n s)) ≡ true = h.ready runs in
          let hidden : place_by (last_put n xs) (spot_in n s) ≡ None = ap (λ l. place_by l (spot_in n s)) last.1 ∙ out in
          false≢true (sym (ap is_some hidden) ∙ shown)

  -- the law in an effect, from what is known of who is not ready behind it
  stopped : (d : Done) (t : List shown.Action) → Ends (Holds (standing.Good p s name)) d → Ends (Either (EachSaid Parted) (EachSaid Parted)) d
      → ((n : Who) → is_runnable_state (task_of (settled p d).0 n).state ≡ false → own_of n (behind_all t (settled p d).1) ≡ [])
      → Follow actions_after blocks_free t (settled p d).1
  unfolding Ends Holds EachSaid
  stopped (done v xs) t good parted none = by_parts parted
    where
      stop_free : Each Parted xs → (x : Said) (l : Line) → x.line ≡ l → Has x xs → StopsFree (behind_all t (lines_of p xs)) l
      stop_free h x (line.Block n waits) is m =
          let part : x.part ≡ TheBlock = (each-at Parted xs h x m).1 (ap is_stop is) in
          let said : puts n x.line ≡ Some None = ap (puts n) is ∙ ap (λ b. cond b (Some None) None) (same_self n) in
          let idle : is_runnable_state (task_of (placed_by (lines_of p xs) v) n).state ≡ false =
          ap runs_in (core-plain v (placed_by (lines_of p xs) v) n refl refl)
          ∙ asleep v.drawn.tasks n (core (task_of v n)) xs (good.1 n) (stop-last n xs x m part said) in
          none-open n (behind_all t (lines_of p xs)) (none n idle)
      stop_free h x _ is m = tt

      follows : Each Parted xs → Follow actions_after blocks_free t (lines_of p xs)
      follows h =
          follow-stops p t (behind_all t (lines_of p xs)) (in_order xs) (each-in_order Parted xs h) (in_order-late xs)
          (each-in_order (λ x. StopsFree (behind_all t (lines_of p xs)) x.line) xs
          (each-of (λ x. StopsFree (behind_all t (lines_of p xs)) x.line) xs (λ x m. stop_free h x x.line refl m))) refl

      by_parts : Each Parted xs ⊎ Each Parted xs → Follow actions_after blocks_free t (lines_of p xs)
      by_parts (inl h) = follows h
      by_parts (inr h) = follows h

-- ---- the marks behind an effect

tied_effect-from : (p : Image) (name : Who) (w : World) → IsFree name w → From ties.Tells w (effect p name)
unfolding effect Alters
tied_effect-from p name w free =
    let v = edit_task name (with_ticks None) w in
    let moves = last_moves.fine in
    let first = edit_task-alters moves name (with_ticks None) (λ t. refl) (λ t. refl) (λ t. refl) (λ t. refl) (λ t. refl) w tt in
    changes_then-from (chains moves) (edit_task name (with_ticks None)) _ w first
    (then-from (chains moves) (act p name) _ v
    (any_act-from last_moves stays_held acts_free p (record { puts = λ n number pieces text x y good is e d s h. (s, refl, h) }) name v tt
    (acts_free.without_ticks name w free))
    (then-keeps (chains moves) _ _ (open_if_ready-keeps moves p name tt)
    (then-keeps (chains moves) _ _ (take_terminates-keeps moves p name tt) (unwind_all-keeps moves p name))))

effect-led : (p : Image) (name : Who) (w : World) (d : ℕ) (s : List shown.Action) → IsFree name w → Tied d s w →
    let e = settles p (effect p name) w in
    LedOn d s e.1 e.0
effect-led p name w d s free h = settles-from ties.Shown p (last_moves.fine.settles p) (effect p name) w (tied_effect-from p name w free) d s h

-- what is shown does not depend on the law that is asked
seen-same : (s : List shown.Action) (xs : List Event) → behind_all s xs ≡ actions_behind s xs
seen-same s [] = refl
seen-same s (x ∷ xs) = seen-same (actions_after s x) xs

pub effect-parted : (p : Image) (name : Who) (w : World) → Ends (Either (EachSaid Parted) (EachSaid Parted)) (effect p name w [])
unfolding EachSaid
effect-parted p name w =
    (effect-leads (freely (each_free Parted parted_effects p name (λ o mode. ((λ is. refl), λ is. absurd (false≢true is)))
    (λ o mode. ((λ is. absurd (false≢true is)), λ is. absurd (false≢true is)))))).runs w [] tt

module _ (p : Image) (script : List (ℤ × Item)) (bound : ℕ) where
  abbrev open_before : List Event → List shown.Action
  open_before lines = actions_behind [] lines

  -- the effect of somebody: its lines, the world behind it, and what is open there
  abbrev said_by : Who → World → List Event
  said_by name w = (settles p (effect p name) w).1

  abbrev behind : Who → World → World
  behind name w = (settles p (effect p name) w).0

  abbrev open_behind : List Event → Who → World → List shown.Action
  open_behind lines name w = actions_behind (open_before lines) (said_by name w)

  effect-free : (lines : List Event) (w : World) → Tells p script bound lines w → (name : Who) → w.ran ≡ Some name
      → is_over (task_of w name).ticks_left ≡ true → Follow actions_after blocks_free (behind_all [] lines) (said_by name w)
  effect-free lines w told name ran over =
      subst (λ q. Follow actions_after blocks_free q (said_by name w)) (sym (seen-same [] lines))
      (stopped p w.places name (effect p name w []) (open_before lines) (effect-stands p script bound lines w told name ran over)
      (effect-parted p name w) none)
    where
      tied : IsTied p script bound lines w
      tied = told-tied p script bound lines w told

      comes : Comes p script bound w
      comes = comes-of p script bound lines w told

      led : LedOn w.drawn.tasks (open_before lines) (said_by name w) (behind name w)
      led = effect-led p name w w.drawn.tasks (open_before lines) (runner-free w (runners-free p script bound w comes) name ran over) tied.0

      fresh : Fresh w.drawn.tasks (open_behind lines name w)
      fresh =
          fresh-behind w.drawn.tasks (open_before lines) (said_by name w)
          (effect-below p script bound w.drawn.tasks w name (over-below p script bound w comes name over)) tied.1

      by_marks : (n : Who) → is_runnable_state (task_of (behind name w) n).state ≡ false → (own_of n (open_behind lines name w) ≡ []) ⊎ Live n (behind name w)
          → own_of n (open_behind lines name w) ≡ []
      by_marks n idle (inl none) = none
      by_marks n idle (inr live) =
          free-own w.drawn.tasks (open_behind lines name w) (behind name w) led.1 fresh (effect-scopes p script bound lines w told name ran over) n live
          (free-asleep n (behind name w) (told-effect_sound p script bound lines w told name ran over).0 idle)

      none : (n : Who) → is_runnable_state (task_of (behind name w) n).state ≡ false → own_of n (behind_all (open_before lines) (said_by name w)) ≡ []
      none n idle =
          ap (own_of n) (seen-same (open_before lines) (said_by name w))
          ∙ by_marks n idle (effect-live p script bound lines w told name ran over (told-live p script bound lines w told) n)

-- ---- and no other line tells it

stop_law : OfStops blocks_free
stop_law = record {
  tells = is_stop;
  quiet = quiet-no_stop;
  readies = λ name level end deadline. refl;
  creates = λ t declared level. refl;
  others = other-free;
  tocks = tock-free;
  ends = λ s reason. refl;
}
  where
    other-free : (p : Image) (s : List shown.Action) (x : Line) → is_stop x ≡ false → blocks_free s (event_of p x) ≡ true
    other-free p s (line.Block name waits) e = absurd (false≢true (sym e))
    other-free p s _ e = refl

    tock-free : (s : List shown.Action) (x : Event) → is_of_tock x ≡ true → blocks_free s x ≡ true
    tock-free s (written.Block name waits) e = absurd (false≢true e)
    tock-free s _ e = refl

pub runs_block_free : RunsBlockFree
runs_block_free p script bound =
    lines_hold actions_after blocks_free [] (run_of p script bound) (run-stops blocks_free stop_law p script bound (effect-free p script bound))
