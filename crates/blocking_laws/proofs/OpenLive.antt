-- In every run who has an action open, by the lines, is there and not only made: only who acts enters an object, and where its own scope
-- ends it has none open, and enters none.
use Rattle.std.proofs.Common.{◌≡◌, ◌⊎◌, inl, inr, ℕ, ℤ, Bool, true, false, cond, ltb, List, [], ◌∷◌, ◌++◌, Option, Some, None, refl, sym, ap, subst, ◌∙◌}
use Rattle.std.specs.Prelude.{is_some, not}
use Rattle.std.proofs.lemmas.Bool.{false≢true, ltb-false, ltb-true, not-true, or_parts}
use Rattle.ann_base.specs.declared.identities.ObjectNo.{ObjectNo}
use Rattle.trace_text.specs.declared.events.Action as shown
use Rattle.trace_text.specs.declared.events.Event.{Event}
use Rattle.trace_text.specs.declared.events.Event.TheVariants as written
use Rattle.trace_text.specs.declared.events.Who.{Who}
use Rattle.trace_text.specs.declared.events.Who.TheVariants as who
use Rattle.trace_text.specs.Queue.{somebody_eq, who_eq}
use Rattle.trace_text.specs.Laws.{actions_after}
use Rattle.profile_image.specs.Words.{same_who}
use Rattle.profile_image.specs.declared.image.Image.{Image}
use Rattle.profile_image.specs.declared.script_items.Item.{Item}
use Rattle.profile_machine.specs.declared.world.World.{World}
use Rattle.profile_machine.specs.declared.world.lines.Line.{Line}
use Rattle.profile_machine.specs.declared.world.lines.Line.TheVariants as line
use Rattle.profile_machine.specs.declared.world.lines.Part.TheVariants.{Own}
use Rattle.profile_machine.specs.declared.world.lines.Said.{Said}
use Rattle.profile_machine.specs.declared.world.marks.Frame.{Frame}
use Rattle.profile_machine.specs.declared.world.marks.Mark.{Mark}
use Rattle.profile_machine.specs.declared.world.marks.Mark.TheVariants.{Scope, Handled, InProtected, InAccept, Abortable, InInitialize, InFinalize, InAssign}
use Rattle.profile_machine.specs.declared.world.tasks.Task.{Task}
use Rattle.profile_machine.specs.Act.{act, act_frame, act_top, end_mark}
use Rattle.profile_machine.specs.Frames.{is_protected, leaving_of, top_of}
use Rattle.profile_machine.specs.Instant.{budgets_due, effect, effect_of_runner, events_due, finish_action}
use Rattle.profile_machine.specs.Instant.{instant, is_over, moments_due, quantum_spent, script_items, timers_due}
use Rattle.profile_machine.specs.Lines.{event_of}
use Rattle.profile_machine.specs.Run.{opening, tock}
use Rattle.profile_machine.specs.Steps.{Done, Move, Step, changes, done, in_order, rests, settled, settles, ◌▶◌}
use Rattle.profile_machine.specs.Tasking.{end_scope_mark}
use Rattle.profile_machine.specs.Tasks.{edit_task, is_made_state, task_of, with_ticks}
use Rattle.machine_laws.specs.LineKinds.{AllAre, is_of_tock}
use Rattle.machine_laws.proofs.FinestMoves.{action_in, natures}
use Rattle.machine_laws.proofs.LineLemmas.{tocks_say_ticks}
use Rattle.machine_laws.proofs.QueueLemmas.{by_test}
use Rattle.line_laws.proofs.Exits.OpenCounts.{who_eq-path}
use Rattle.line_laws.proofs.Exits.TaskEdits.{one_of, one_of-is, same_who-path}
use Rattle.line_laws.proofs.Leaving.TaskLemmas.{same_self}
use Rattle.line_laws.proofs.Ticks.LineByLine.{seen_behind-append}
use Rattle.line_laws.proofs.Ticks.ReleaseLemmas.{events_of}
use Rattle.ceiling_laws.specs.RunLaws.{Tells, told_first, told_on}
use Rattle.ceiling_laws.proofs.Fine.Cores.{Core}
use Rattle.ceiling_laws.proofs.Fine.Kept.Frames.{open_if_ready-keeps}
use Rattle.ceiling_laws.proofs.Runs.AgentLemmas.{see_nothing}
use Rattle.ceiling_laws.proofs.Runs.BegunLines.{Each, each-in_order}
use Rattle.ceiling_laws.proofs.Runs.Finer.{fine}
use Rattle.ceiling_laws.proofs.Runs.FreeMoves.{FreeMoves, anywhere, freely}
use Rattle.ceiling_laws.proofs.Runs.Kept.Masters.{fits_part}
use Rattle.ceiling_laws.proofs.Runs.Kept.Tasking.{end_scope_mark-leads, take_terminates-leads, unwind_all-keeps}
use Rattle.ceiling_laws.proofs.Runs.RunLemmas.{behind_onward}
use Rattle.ceiling_laws.proofs.Runs.Triples.{At, Ends, Leads, changes-leads, then-leads}
use Rattle.world_laws.proofs.Actions.GoodMoves.{free-floor}
use Rattle.world_laws.proofs.Actions.Natures as world
use Rattle.world_laws.proofs.Actions.Sound.{Free, Sound}
use Rattle.world_laws.proofs.Places.CoreLemmas.{core-same}
use Rattle.world_laws.proofs.Places.TockLemmas.{tock-same}
use Rattle.world_laws.proofs.Scopes.FineMoves.{Live}
use Rattle.world_laws.proofs.Scopes.GoodWorlds.{GoodWorld, nobody_free}
use Rattle.world_laws.proofs.Scopes.ScopeSteps.{live-there, there-is, there-named}
use Rattle.blocking_laws.specs.LastExits.{is_last_exit}
use Rattle.blocking_laws.specs.OwnLines.{is_own}
use Rattle.blocking_laws.proofs.EachLine.{EachSaid, OfEffects, Whatever, each_until, whatever_base, whatever_leads}
use Rattle.blocking_laws.proofs.EffectWorlds.{told-acting, told-scopes, told-sound}
use Rattle.blocking_laws.proofs.EnterLemmas.{IsNoCome, is_coming, quiet-is_coming}
use Rattle.blocking_laws.proofs.HeadLemmas.{Nothing_shown, effect_own, follow-own, nothing_shown, opening_own, own_at, own_others}
use Rattle.blocking_laws.proofs.LastActions.{grown, marked, own_of}
use Rattle.blocking_laws.proofs.LastTies.{IsThere, Tied, actions_behind}
use Rattle.blocking_laws.proofs.OpenTold.{Fresh, closed-none, told-tied}
use Rattle.blocking_laws.proofs.StillLive.{Ending, IsStaying, Lasts, effect-lasts, ending-ticked, ends-own, ends_task, later-lasts}

-- ---- lines by which somebody enters no object

abbrev enters_not : Who → Event → Bool
enters_not n (written.Enter name object mode) = not (who_eq n name)
enters_not n _ = true

none-event : (n : Who) (s : List shown.Action) (x : Event) → enters_not n x ≡ true → own_of n s ≡ [] → own_of n (actions_after s x) ≡ []
none-event n s (written.Enter name object mode) other none =
    ap (λ b. cond b (object.0 ∷ own_of n s) (own_of n s)) (not-true (who_eq n name) other) ∙ none
none-event n s (written.Exit name object) other none = closed-none n name object.0 s none
none-event n s _ other none = none

pub none-behind : (n : Who) (s : List shown.Action) (xs : List Event) → AllAre (enters_not n) xs → own_of n s ≡ [] → own_of n (actions_behind s xs) ≡ []
none-behind n s [] h none = none
none-behind n s (x ∷ xs) h none = none-behind n (actions_after s x) xs h.1 (none-event n s x h.0 none)

other-enters : (r : Option Who) (n : Who) (x : Event) → somebody_eq r (Some n) ≡ false → is_own r x ≡ true → enters_not n x ≡ true
other-enters r n (written.Enter name object mode) apart e = by_test (who_eq n name)
    (λ same. absurd (false≢true (sym apart ∙ ap (λ m. somebody_eq r (Some m)) (who_eq-path n name same) ∙ e)))
    (λ other. ap not other)
other-enters r n _ apart e = refl

all_others : (r : Option Who) (n : Who) (xs : List Event) → somebody_eq r (Some n) ≡ false → AllAre (is_own r) xs → AllAre (enters_not n) xs
all_others r n [] apart h = tt
all_others r n (x ∷ xs) apart h = (other-enters r n x apart h.0, all_others r n xs apart h.1)

tick-enters : (n : Who) (x : Event) → is_of_tock x ≡ true → enters_not n x ≡ true
tick-enters n (written.Enter name object mode) e = absurd (false≢true e)
tick-enters n _ e = refl

ticks-enter : (n : Who) (xs : List Event) → AllAre is_of_tock xs → AllAre (enters_not n) xs
ticks-enter n [] h = tt
ticks-enter n (x ∷ xs) h = (tick-enters n x h.0, ticks-enter n xs h.1)

apart-names : (n name : Who) → same_who n name ≡ false → somebody_eq (Some name) (Some n) ≡ false
apart-names n name apart = by_test (who_eq name n)
    (λ same. absurd (false≢true (sym apart ∙ ap (same_who n) (who_eq-path name n same) ∙ same_self n)))
    (λ other. other)

-- ---- whose own scope ends enters none

no_come_effects : OfEffects IsNoCome
no_come_effects = record {
  others = record {
    quiet = λ part x e. quiet-is_coming x e;
    readies = λ part name level end deadline. refl;
    creates = λ t declared level. refl;
  };
  blocks = λ name waits. refl;
  ends = λ part t. refl;
  exits = λ name o. refl;
  bases = λ part t level. refl;
  makes = λ o declared level. refl;
}

module _ (p : Image) (me : Who) where
  no_come_free : FreeMoves p me anywhere (EachSaid IsNoCome) (EachSaid IsNoCome) Whatever
  no_come_free =
      each_until IsNoCome no_come_effects p me Whatever (whatever_base p) (λ o mode. whatever_leads p Own (line.Enter me o mode))
      (λ o mode. whatever_leads p Own (line.Held me o mode))

  scope-step : (w : World) (e : Ending me w) → act_top p me (top_of w me) ≡ end_scope_mark p me e.mark (leaving_of e.frame)
  unfolding act_top act_frame end_mark
  scope-step w e =
      let one : act_top p me (top_of w me) ≡ act_frame p me e.frame e.frame.onward = ap (act_top p me) e.top in
      let two : act_frame p me e.frame e.frame.onward ≡ end_mark p me e.frame e.frame.mark = ap (act_frame p me e.frame) e.onward in
      let three : end_mark p me e.frame e.frame.mark ≡ end_scope_mark p me e.mark (leaving_of e.frame) = ap (end_mark p me e.frame) e.is in
      one ∙ two ∙ three

  act-comes : (v : World) → Ending me v → Leads (At (EachSaid IsNoCome) v) (EachSaid IsNoCome) (act p me)
  unfolding act
  act-comes v e = record {
    runs = λ w said h.
        let step : act_top p me (top_of w me) ≡ end_scope_mark p me e.mark (leaving_of e.frame) =
        ap (λ u. act_top p me (top_of u me)) h.1 ∙ scope-step v e in
        subst (λ (s : Step). Ends (EachSaid IsNoCome) (s w said)) (sym step)
        ((end_scope_mark-leads (freely no_come_free) e.mark (leaving_of e.frame)).runs w said h.0);
  }

  effect-comes : (w : World) → ends_task (top_of w me) ≡ true → Leads (At (EachSaid IsNoCome) w) (EachSaid IsNoCome) (effect p me)
  unfolding effect EachSaid
  effect-comes w ends =
      let acting = freely no_come_free in
      let v = edit_task me (with_ticks None) w in
      then-leads (changes (edit_task me (with_ticks None))) _
      (changes-leads {Y = At (EachSaid IsNoCome) v} (edit_task me (with_ticks None)) (λ u said h. (h.0, ap (edit_task me (with_ticks None)) h.1)))
      (then-leads (act p me) _ (act-comes v (ending-ticked me w ends))
      (then-leads _ _ (open_if_ready-keeps (fine acting.choosing.quiet) p me)
      (then-leads _ _ (take_terminates-leads acting.choosing) (unwind_all-keeps acting.over me (fits_part acting.later)))))

  no_come-enters : (n : Who) (x : Line) → is_coming x ≡ false → enters_not n (event_of p x) ≡ true
  no_come-enters n (line.Enter name object mode) e = absurd (false≢true (sym e))
  no_come-enters n _ e = refl

  all_no_come-enter : (n : Who) (xs : List Said) → Each IsNoCome xs → AllAre (enters_not n) (events_of p xs)
  all_no_come-enter n [] h = tt
  all_no_come-enter n (x ∷ xs) h = (no_come-enters n x.line h.0, all_no_come-enter n xs h.1)

  ended-enters : (n : Who) (d : Done) → Ends (EachSaid IsNoCome) d → AllAre (enters_not n) (settled p d).1
  unfolding Ends EachSaid
  ended-enters n (done v xs) h = all_no_come-enter n (in_order xs) (each-in_order IsNoCome xs h)

  ending-enters : (w : World) → ends_task (top_of w me) ≡ true → (n : Who) → AllAre (enters_not n) (settles p (effect p me) w).1
  unfolding EachSaid
  ending-enters w ends n = ended-enters n (effect p me w []) ((effect-comes w ends).runs w [] (tt, refl))

-- ---- who has no mark of an action

action-same : (m : Mark) → (world.nature m).action ≡ action_in m
action-same (Scope m) = refl
action-same (Handled s) = refl
action-same (InProtected m) = refl
action-same (InAccept m) = refl
action-same (Abortable m) = refl
action-same (InInitialize l) = refl
action-same (InFinalize o) = refl
action-same (InAssign m) = refl

some-none : (x : Option ObjectNo) → is_some x ≡ false → x ≡ None
some-none None e = refl
some-none (Some o) e = absurd (false≢true (sym e))

pub marked-none : (fs : List Frame) → world.guards (world.natures fs) ≡ false → marked (natures fs) ≡ []
marked-none [] e = refl
marked-none (f ∷ fs) e =
    let parts = or_parts (is_some (world.nature f.mark).action) (world.guards (world.natures fs)) e in
    let none : action_in f.mark ≡ None = sym (action-same f.mark) ∙ some-none (world.nature f.mark).action parts.0 in
    ap (λ a. grown a (marked (natures fs))) none ∙ marked-none fs parts.1

-- who is there has its name
there-name : (w : World) → GoodWorld w → (n : Who) → Live n w → IsThere n (one_of w.tasks w.agent n)
there-name w g (who.Task k) live =
    let there = live-there (who.Task k) w live in
    let is : (one_of w.tasks w.agent (who.Task k)).who ≡ who.Task k =
    ap (λ (t : Task). t.who) (one_of-is w (who.Task k) ∙ there-is (who.Task k) w there) ∙ there-named nobody_free (who.Task k) w there g in
    subst (λ i. same_who (who.Task k) i ≡ true) (sym is) (same_self (who.Task k))
there-name w g who.Agent live = tt

-- its lines show none open either
pub free-own : (d : ℕ) (s : List shown.Action) (w : World) → Tied d s w → Fresh d s → GoodWorld w → (n : Who) → Live n w → Free n w → own_of n s ≡ []
free-own d s w h fresh g (who.Task k) live free = by_test (ltb k.0 d)
    (λ low.
    (h.1 (who.Task k)).1 (ltb-true k.0 d low) (there-name w g (who.Task k) live) ∙ marked-none (one_of w.tasks w.agent (who.Task k)).frames free)
    (λ high. fresh k (ltb-false k.0 d high))
free-own d s w h fresh g who.Agent live free = (h.1 who.Agent).1 tt tt ∙ marked-none w.agent.frames free

ending-free : (name : Who) (w : World) → Sound w → Ending name w → Free name w
ending-free name w sound e =
    free-floor name e.frame w sound e.top (ap is_protected e.is) (ap (λ (m : Mark). (world.nature m).floor) e.is ∙ e.own)

-- ---- who has an action open is there

abbrev pub OpenLive : List shown.Action → World → Type 0
OpenLive s w = (n : Who) → (own_of n s ≡ []) ⊎ Live n w

module _ (p : Image) (script : List (ℤ × Item)) (bound : ℕ) where
  still_none : (s : List shown.Action) (xs : List Event) (n : Who) (w v : World) → AllAre (enters_not n) xs → (Live n w → Live n v)
      → (own_of n s ≡ []) ⊎ Live n w → (own_of n (actions_behind s xs) ≡ []) ⊎ Live n v
  still_none s xs n w v other still (inl none) = inl (none-behind n s xs other none)
  still_none s xs n w v other still (inr live) = inr (still live)

  abbrev pub open_before : List Event → List shown.Action
  open_before lines = actions_behind [] lines

  -- the effect of somebody: its lines, the world behind it, and what is open there
  abbrev pub said_by : Who → World → List Event
  said_by name w = (settles p (effect p name) w).1

  abbrev pub behind : Who → World → World
  behind name w = (settles p (effect p name) w).0

  abbrev pub open_behind : List Event → Who → World → List shown.Action
  open_behind lines name w = actions_behind (open_before lines) (said_by name w)

  -- the effect of who acts
  pub effect-live : (lines : List Event) (w : World) → Tells p script bound lines w → (name : Who) → w.ran ≡ Some name
      → is_over (task_of w name).ticks_left ≡ true → OpenLive (open_before lines) w → OpenLive (open_behind lines name w) (behind name w)
  effect-live lines w told name ran over h n = by_test (same_who n name) own other
    where
      acting : Live name w
      acting = (told-acting p script bound lines w told name ran over).1

      lasts : Lasts name (IsStaying name w) w (behind name w)
      lasts = effect-lasts p name w (told-acting p script bound lines w told name ran over)

      other : same_who n name ≡ false → (own_of n (open_behind lines name w) ≡ []) ⊎ Live n (behind name w)
      other apart =
          still_none (open_before lines) (said_by name w) n w (behind name w)
          (all_others (Some name) n (said_by name w) (apart-names n name apart) (follow-own (Some name) tt (said_by name w) (effect_own name p w).follow))
          (lasts.still n (inl apart)) (h n)

      ended : ends_task (top_of w name) ≡ true → own_of name (open_behind lines name w) ≡ []
      ended ends =
          let tied = told-tied p script bound lines w told in
          none-behind name (open_before lines) (said_by name w) (ending-enters p name w ends name)
          (free-own w.drawn.tasks (open_before lines) w tied.0 tied.1 (told-scopes p script bound lines w told) name acting
          (ending-free name w (told-sound p script bound lines w told).0 (ends-own name w ends)))

      own : same_who n name ≡ true → (own_of n (open_behind lines name w) ≡ []) ⊎ Live n (behind name w)
      own same =
          let is : n ≡ name = same_who-path n name same in
          subst (λ m. (own_of m (open_behind lines name w) ≡ []) ⊎ Live m (behind name w)) (sym is)
          (by_test (ends_task (top_of w name)) (λ ends. inl (ended ends)) (λ stays. inr (lasts.still name (inr stays) acting)))

  pub effect-scopes : (lines : List Event) (w : World) → Tells p script bound lines w → (name : Who) → w.ran ≡ Some name
      → is_over (task_of w name).ticks_left ≡ true → GoodWorld (settles p (effect p name) w).0
  effect-scopes lines w told name ran over = (effect-lasts p name w (told-acting p script bound lines w told name ran over)).good

  -- an instant
  abbrev Kept : List shown.Action → World × List Event → Type 0
  Kept s e = OpenLive (actions_behind s e.1) e.0 × GoodWorld e.0

  effect_if-live : (s : List shown.Action) (w : World) (name : Who) (over : Bool) → OpenLive s w → GoodWorld w
      → (over ≡ true → Kept s (settles p (effect p name) w)) → Kept s ((elim over as (λ _. Move) [ true ↦ settles p (effect p name) | false ↦ rests ]) w)
  effect_if-live s w name true h g acts = acts refl
  effect_if-live s w name false h g acts = (h, g)

  runner-live : (lines : List Event) (w : World) → Tells p script bound lines w → (ran : Option Who) → w.ran ≡ ran → OpenLive (actions_behind [] lines) w
      → Kept (actions_behind [] lines) (effect_of_runner p ran w)
  runner-live lines w told None ran h = (h, told-scopes p script bound lines w told)
  runner-live lines w told (Some name) ran h =
      effect_if-live (actions_behind [] lines) w name (is_over (task_of w name).ticks_left) h (told-scopes p script bound lines w told)
      (λ over. (effect-live lines w told name ran over h, effect-scopes lines w told name ran over))

  instant-live : (lines : List Event) (w : World) → Tells p script bound lines w → OpenLive (actions_behind [] lines) w
      → OpenLive (actions_behind [] (lines ++ (instant p w).1)) (instant p w).0
  instant-live lines w told h n =
      let first = finish_action p w in
      let beside = (script_items p ▶ events_due p ▶ moments_due p ▶ timers_due p ▶ budgets_due p ▶ quantum_spent p) first.0 in
      let s = actions_behind [] lines in
      let k = runner-live lines w told w.ran refl h in
      let own = follow-own None tt beside.1
      (behind_onward see_nothing (own_at None) Nothing_shown (own_others None p) tt first.0 (nothing_shown tt first.0)).follow in
      let over =
      still_none (actions_behind s first.1) beside.1 n first.0 beside.0 (all_others None n beside.1 refl own) (later-lasts p first.0 k.1 n) (k.0 n) in
      subst (λ q. (own_of n q ≡ []) ⊎ Live n beside.0)
      (sym (seen_behind-append actions_after is_last_exit [] lines (first.1 ++ beside.1) ∙ seen_behind-append actions_after is_last_exit s first.1 beside.1))
      over

  -- a tock
  tock-live : (w : World) (n : Who) → Live n w → Live n (tock p w).0
  tock-live w n live = ap (λ (c : Core). is_made_state c.state) (core-same w (tock p w).0 n (tock-same p w)) ∙ live

  pub told-live : (lines : List Event) (w : World) → Tells p script bound lines w → OpenLive (actions_behind [] lines) w
  told-live _ _ told_first n =
      let o = opening p script in
      inl (none-behind n [] o.1 (all_others None n o.1 refl (follow-own None tt o.1 (opening_own p script).follow)) refl)
  told-live _ _ (told_on lines w told going) n =
      let i = instant p w in
      let t = tock p i.0 in
      subst (λ q. (own_of n q ≡ []) ⊎ Live n t.0) (sym (seen_behind-append actions_after is_last_exit [] (lines ++ i.1) t.1))
      (still_none (actions_behind [] (lines ++ i.1)) t.1 n i.0 t.0 (ticks-enter n t.1 (tocks_say_ticks p i.0)) (tock-live i.0 n)
      (instant-live lines w told (told-live lines w told) n))
