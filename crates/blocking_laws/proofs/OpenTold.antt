-- In every run lines show as open the protected actions of the marks. Marks of tasks that are new have none, since only who has run
-- enters an object.
use Rattle.std.proofs.Common.{◌≡◌, ◌<◌, ◌≤◌, ℕ, ℤ, Bool, true, false, cond, eqb, ltb, ◌&&◌, List}
use Rattle.std.proofs.Common.{[], ◌∷◌, ◌++◌, Option, Some, None, refl, sym, ap, subst, ◌∙◌, arith}
use Rattle.std.specs.Prelude.{find, unwrap_or}
use Rattle.std.specs.List.{list_all}
use Rattle.std.proofs.lemmas.Bool.{and_parts, eqb-true, false≢true, ltb-false, ltb-true}
use Rattle.ann_base.specs.declared.identities.TaskNo.{TaskNo}
use Rattle.trace_text.specs.declared.events.Action as shown
use Rattle.trace_text.specs.declared.events.Event.{Event}
use Rattle.trace_text.specs.declared.events.Event.TheVariants as written
use Rattle.trace_text.specs.declared.events.Who.{Who}
use Rattle.trace_text.specs.declared.events.Who.TheVariants as who
use Rattle.trace_text.specs.Queue.{somebody_eq, who_eq}
use Rattle.trace_text.specs.Laws.{actions_after, closed}
use Rattle.profile_image.specs.Words.{same_who}
use Rattle.profile_image.specs.declared.image.Image.{Image}
use Rattle.profile_image.specs.declared.script_items.Item.{Item}
use Rattle.profile_machine.specs.declared.world.World.{World}
use Rattle.profile_machine.specs.declared.world.tasks.Task.{Task}
use Rattle.profile_machine.specs.declared.world.marks.Frame.{Frame}
use Rattle.profile_machine.specs.declared.world.marks.Mark.{Mark}
use Rattle.profile_machine.specs.declared.world.marks.Mark.TheVariants.{Scope, Handled, InProtected, InAccept, Abortable, InInitialize, InFinalize, InAssign}
use Rattle.profile_machine.specs.Instant.{budgets_due, effect, effect_of_runner, events_due, finish_action}
use Rattle.profile_machine.specs.Instant.{instant, is_over, moments_due, quantum_spent, script_items, timers_due}
use Rattle.profile_machine.specs.Run.{blank_world, opening, tock}
use Rattle.profile_machine.specs.Steps.{Move, rests, settles, ◌▶◌}
use Rattle.profile_machine.specs.Tasks.{is_who, nobody, task_at, task_of}
use Rattle.profile_machine.specs.WellFormed.{all_adjacent, number_in}
use Rattle.machine_laws.specs.LineKinds.{AllAre, is_of_tock}
use Rattle.machine_laws.specs.Reached.{Comes, Reached, before, behind, opened, ticked}
use Rattle.machine_laws.proofs.FinestMoves.{action_in, natures}
use Rattle.machine_laws.proofs.LineLemmas.{tocks_say_ticks}
use Rattle.machine_laws.proofs.NumberLemmas.{reached_tasks}
use Rattle.machine_laws.proofs.QueueLemmas.{by_test}
use Rattle.line_laws.proofs.Ticks.LineByLine.{seen_behind-append}
use Rattle.line_laws.proofs.Exits.AwakeRuns.{runners-free}
use Rattle.line_laws.proofs.Exits.OpenCounts.{who_eq-path}
use Rattle.line_laws.proofs.Exits.TaskEdits.{one_of}
use Rattle.ceiling_laws.specs.RunLaws.{Tells, told_first, told_on}
use Rattle.ceiling_laws.proofs.Runs.AgentLemmas.{see_nothing}
use Rattle.ceiling_laws.proofs.Runs.RunLemmas.{behind_onward}
use Rattle.blocking_laws.specs.LastExits.{is_last_exit}
use Rattle.blocking_laws.specs.OpenActions.{AreOpenByMarks, OpenActionsAreTold, actions_told, open_by_lines, open_by_marks, with_mark_of}
use Rattle.blocking_laws.specs.OwnLines.{is_own}
use Rattle.blocking_laws.proofs.HeadLemmas.{Nothing_shown, effect_own, follow-own, nothing_shown, opening_own, own_at, own_others}
use Rattle.blocking_laws.proofs.LastActions.{Starts, grown, marked, own_of}
use Rattle.blocking_laws.proofs.LastRuns.{instant-led, no-less, opening-led, tock-led}
use Rattle.blocking_laws.proofs.LastTies.{InLines, IsBelow, Tied, actions_behind}

-- ---- tasks that have entered an object have numbers below this one

abbrev EntersBelow : ℕ → Event → Type 0
EntersBelow d (written.Enter (who.Task k) object mode) = k.0 < d
EntersBelow d _ = Unit {0}

abbrev AllBelow : ℕ → List Event → Type 0
AllBelow d [] = Unit {0}
AllBelow d (x ∷ xs) = EntersBelow d x × AllBelow d xs

AllBelow-append : (d : ℕ) (xs ys : List Event) → AllBelow d xs → AllBelow d ys → AllBelow d (xs ++ ys)
AllBelow-append d [] ys a b = b
AllBelow-append d (x ∷ xs) ys a b = (a.0, AllBelow-append d xs ys a.1 b)

abbrev pub Fresh : ℕ → List shown.Action → Type 0
Fresh d s = (k : TaskNo) → d ≤ k.0 → own_of (who.Task k) s ≡ []

fresh-higher : (d e : ℕ) (s : List shown.Action) → d ≤ e → Fresh d s → Fresh e s
fresh-higher d e s more fresh k high = fresh k (omega (arith, more, high))

none-cons : (x : ℕ) (xs : List ℕ) → x ∷ xs ≡ [] → ⊥
none-cons x xs e = cc

pub rest-none : (c : Bool) (x : ℕ) (xs : List ℕ) → cond c (x ∷ xs) xs ≡ [] → (c ≡ false) × (xs ≡ [])
rest-none true x xs e = absurd (none-cons x xs e)
rest-none false x xs e = (refl, e)

closed-none-step : (n name : Who) (o : ℕ) (a : shown.Action) (actions : List shown.Action) (b : Bool) → (who_eq n a.who ≡ false) × (own_of n actions ≡ [])
    → own_of n (closed o name actions) ≡ [] → own_of n (cond b actions (a ∷ closed o name actions)) ≡ []
closed-none-step n name o a actions true parts left = parts.1
closed-none-step n name o a actions false parts left =
    ap (λ t. cond t (a.object ∷ own_of n (closed o name actions)) (own_of n (closed o name actions))) parts.0 ∙ left

pub closed-none : (n name : Who) (o : ℕ) (actions : List shown.Action) → own_of n actions ≡ [] → own_of n (closed o name actions) ≡ []
closed-none n name o [] e = refl
closed-none n name o (a ∷ actions) e =
    let parts = rest-none (who_eq n a.who) a.object (own_of n actions) e in
    closed-none-step n name o a actions (eqb o a.object && who_eq name a.who) parts (closed-none n name o actions parts.1)

other-number : (k n : TaskNo) (d : ℕ) → n.0 < d → d ≤ k.0 → eqb k.0 n.0 ≡ false
other-number k n d below high =
    by_test (eqb k.0 n.0) (λ same. let is : k.0 ≡ n.0 = eqb-true k.0 n.0 same in absurd (omega (arith, is, below, high))) (λ e. e)

fresh-event : (d : ℕ) (s : List shown.Action) (x : Event) → EntersBelow d x → Fresh d s → Fresh d (actions_after s x)
fresh-event d s (written.Enter (who.Task n) object mode) below fresh k high =
    ap (λ b. cond b (object.0 ∷ own_of (who.Task k) s) (own_of (who.Task k) s)) (other-number k n d below high) ∙ fresh k high
fresh-event d s (written.Enter who.Agent object mode) below fresh k high = fresh k high
fresh-event d s (written.Exit name object) below fresh k high = closed-none (who.Task k) name object.0 s (fresh k high)
fresh-event d s _ below fresh k high = fresh k high

pub fresh-behind : (d : ℕ) (s : List shown.Action) (xs : List Event) → AllBelow d xs → Fresh d s → Fresh d (actions_behind s xs)
fresh-behind d s [] h fresh = fresh
fresh-behind d s (x ∷ xs) h fresh = fresh-behind d (actions_after s x) xs h.1 (fresh-event d s x h.0 fresh)

starts-none : (xs : List ℕ) → Starts xs [] → xs ≡ []
starts-none [] h = refl
starts-none (x ∷ xs) h = absurd h

-- the tie holds of the tasks that have been made since
raised : (d : ℕ) (s : List shown.Action) (v : World) → Tied d s v → Fresh d s → Tied v.drawn.tasks s v
raised d s v h fresh = (no-less v.drawn.tasks, by_name)
  where
    none-open : (k : TaskNo) (t : Task) → InLines d s (who.Task k) t → d ≤ k.0 → own_of (who.Task k) s ≡ marked (natures t.frames)
    none-open k t g high = fresh k high ∙ sym (starts-none (marked (natures t.frames)) (subst (Starts (marked (natures t.frames))) (fresh k high) g.0))

    by_name : (n : Who) → InLines v.drawn.tasks s n (one_of v.tasks v.agent n)
    by_name (who.Task k) =
        let g = h.1 (who.Task k) in (
          g.0,
          λ below there.
              by_test (ltb k.0 d) (λ low. g.1 (ltb-true k.0 d low) there) (λ high. none-open k (one_of v.tasks v.agent (who.Task k)) g (ltb-false k.0 d high)),
        )
    by_name who.Agent = h.1 who.Agent

-- ---- only who has run enters an object

somebody-path : (r : Option Who) (name : Who) → somebody_eq r (Some name) ≡ true → r ≡ Some name
somebody-path None name e = absurd (false≢true e)
somebody-path (Some a) name e = ap (λ (n : Who). Some n) (who_eq-path a name e)

own-below : (d : ℕ) (r : Option Who) (x : Event) → ((name : Who) → r ≡ Some name → IsBelow d name) → is_own r x ≡ true → EntersBelow d x
own-below d r (written.Enter (who.Task k) object mode) known e = known (who.Task k) (somebody-path r (who.Task k) e)
own-below d r (written.Enter who.Agent object mode) known e = tt
own-below d r _ known e = tt

all_own-below : (d : ℕ) (r : Option Who) (xs : List Event) → ((name : Who) → r ≡ Some name → IsBelow d name) → AllAre (is_own r) xs → AllBelow d xs
all_own-below d r [] known h = tt
all_own-below d r (x ∷ xs) known h = (own-below d r x known h.0, all_own-below d r xs known h.1)

no-name : (d : ℕ) (name : Who) → None ≡ Some name → IsBelow d name
no-name d name e = absurd cc

nobody-below : (d : ℕ) (xs : List Event) → AllAre (is_own None) xs → AllBelow d xs
nobody-below d xs h = all_own-below d None xs (no-name d) h

tick-below : (d : ℕ) (x : Event) → is_of_tock x ≡ true → EntersBelow d x
tick-below d (written.Enter (who.Task k) object mode) e = absurd (false≢true e)
tick-below d (written.Enter who.Agent object mode) e = tt
tick-below d _ e = tt

ticks-below : (d : ℕ) (xs : List Event) → AllAre is_of_tock xs → AllBelow d xs
ticks-below d [] h = tt
ticks-below d (x ∷ xs) h = (tick-below d x h.0, ticks-below d xs h.1)

-- ---- who is there has a number that was drawn

found-step : (k : TaskNo) (top : ℕ) (x t : Task) (rest : Option Task) (b : Bool) → same_who (who.Task k) t.who ≡ b → (ltb (number_in t.who) top ≡ true)
    → (rest ≡ Some x → (k.0 < top) × (same_who (who.Task k) x.who ≡ true))
    → cond b (Some t) rest ≡ Some x → (k.0 < top) × (same_who (who.Task k) x.who ≡ true)
found-step k top x t rest true is low onward e =
    let one : t ≡ x = cc in
    (named t.who is low, subst (λ (u : Task). same_who (who.Task k) u.who ≡ true) one is)
  where
    named : (n : Who) → same_who (who.Task k) n ≡ true → ltb (number_in n) top ≡ true → k.0 < top
    named (who.Task m) same less =
        let number : k.0 ≡ m.0 = eqb-true k.0 m.0 same in let below : m.0 < top = ltb-true m.0 top less in omega (arith, number, below)
    named who.Agent same less = absurd (false≢true same)
found-step k top x t rest false is low onward e = onward e

found-drawn : (k : TaskNo) (top : ℕ) (x : Task) (ts : List Task) → list_all (λ t. ltb (number_in t.who) top) ts ≡ true → find (is_who (who.Task k)) ts ≡ Some x
    → (k.0 < top) × (same_who (who.Task k) x.who ≡ true)
found-drawn k top x [] all e = absurd cc
found-drawn k top x (t ∷ ts) all e =
    let parts = and_parts (ltb (number_in t.who) top) (list_all (λ u. ltb (number_in u.who) top) ts) all in
    found-step k top x t (find (is_who (who.Task k)) ts) (same_who (who.Task k) t.who) refl parts.0 (λ f. found-drawn k top x ts parts.1 f) e

task-there : (found : Option Task) → is_over (unwrap_or found nobody).ticks_left ≡ true → found ≡ Some (unwrap_or found nobody)
task-there None e = absurd cc
task-there (Some x) e = refl

module _ (p : Image) (script : List (ℤ × Item)) (bound : ℕ) where
  reached-drawn : (w : World) → Reached p script bound w → (k : TaskNo) (x : Task) → task_at w (who.Task k) ≡ Some x
      → (k.0 < w.drawn.tasks) × (same_who (who.Task k) x.who ≡ true)
  reached-drawn w reached k x e =
      found-drawn k w.drawn.tasks x w.tasks
      ((and_parts (all_adjacent (λ a b. ltb (number_in a.who) (number_in b.who)) w.tasks) (list_all (λ t. ltb (number_in t.who) w.drawn.tasks) w.tasks)
      (reached_tasks p script bound w reached)).1) e

  pub over-below : (w : World) → Comes p script bound w → (name : Who) → is_over (task_of w name).ticks_left ≡ true → IsBelow w.drawn.tasks name
  over-below w comes (who.Task k) over = (reached-drawn w (before w comes) k (task_of w (who.Task k)) (task-there (task_at w (who.Task k)) over)).0
  over-below w comes who.Agent over = tt

  -- ---- an instant

  one-name : (a b : Who) → Some a ≡ Some b → a ≡ b
  one-name a b e = cc

  pub effect-below : (d : ℕ) (w : World) (name : Who) → IsBelow d name → AllBelow d (settles p (effect p name) w).1
  effect-below d w name below =
      let lines = (settles p (effect p name) w).1 in
      all_own-below d (Some name) lines (λ n e. subst (IsBelow d) (one-name name n e) below) (follow-own (Some name) tt lines (effect_own name p w).follow)

  effect_if-below : (d : ℕ) (w : World) (name : Who) (over : Bool) → (over ≡ true → IsBelow d name)
      → AllBelow d ((elim over as (λ _. Move) [ true ↦ settles p (effect p name) | false ↦ rests ]) w).1
  effect_if-below d w name true below = effect-below d w name (below refl)
  effect_if-below d w name false below = tt

  finish-below : (w : World) → Comes p script bound w → (ran : Option Who) → AllBelow w.drawn.tasks (effect_of_runner p ran w).1
  finish-below w comes None = tt
  finish-below w comes (Some name) = effect_if-below w.drawn.tasks w name (is_over (task_of w name).ticks_left) (over-below w comes name)

  instant-below : (w : World) → Comes p script bound w → AllBelow w.drawn.tasks (instant p w).1
  instant-below w comes =
      let done_first = finish_action p w in
      let later = (script_items p ▶ events_due p ▶ moments_due p ▶ timers_due p ▶ budgets_due p ▶ quantum_spent p) done_first.0 in
      AllBelow-append w.drawn.tasks done_first.1 later.1 (finish-below w comes w.ran)
      (nobody-below w.drawn.tasks later.1
      (follow-own None tt later.1
      (behind_onward see_nothing (own_at None) Nothing_shown (own_others None p) tt done_first.0 (nothing_shown tt done_first.0)).follow))

  -- ---- a run

  pub comes-of : (lines : List Event) (w : World) → Tells p script bound lines w → Comes p script bound w
  comes-of _ _ told_first = opened
  comes-of _ _ (told_on lines w told going) = ticked w (comes-of lines w told) going

  abbrev pub IsTied : List Event → World → Type 0
  IsTied lines w = Tied w.drawn.tasks (actions_behind [] lines) w × Fresh w.drawn.tasks (actions_behind [] lines)

  behind-instant : (lines : List Event) (w : World) → Comes p script bound w → IsTied lines w → IsTied (lines ++ (instant p w).1) (instant p w).0
  behind-instant lines w comes h =
      let i = instant p w in
      let d = w.drawn.tasks in
      let s = actions_behind [] lines in
      let led = instant-led p d s w (runners-free p script bound w comes) h.0 in
      let fresh = fresh-behind d s i.1 (instant-below w comes) h.1 in
      subst (λ q. Tied i.0.drawn.tasks q i.0 × Fresh i.0.drawn.tasks q) (sym (seen_behind-append actions_after is_last_exit [] lines i.1))
      (raised d (actions_behind s i.1) i.0 led.1 fresh, fresh-higher d i.0.drawn.tasks (actions_behind s i.1) led.1.0 fresh)

  behind-tock : (lines : List Event) (w : World) → IsTied lines w → IsTied (lines ++ (tock p w).1) (tock p w).0
  behind-tock lines w h =
      let t = tock p w in
      let d = w.drawn.tasks in
      let s = actions_behind [] lines in
      let led = tock-led p d s w h.0 in
      let fresh = fresh-behind d s t.1 (ticks-below d t.1 (tocks_say_ticks p w)) h.1 in
      subst (λ q. Tied t.0.drawn.tasks q t.0 × Fresh t.0.drawn.tasks q) (sym (seen_behind-append actions_after is_last_exit [] lines t.1))
      (raised d (actions_behind s t.1) t.0 led.1 fresh, fresh-higher d t.0.drawn.tasks (actions_behind s t.1) led.1.0 fresh)

  pub told-tied : (lines : List Event) (w : World) → Tells p script bound lines w → IsTied lines w
  told-tied _ _ told_first =
      let o = opening p script in
      let d = (blank_world p script).drawn.tasks in
      let led = opening-led p script in
      let fresh = fresh-behind d [] o.1 (nobody-below d o.1 (follow-own None tt o.1 (opening_own p script).follow)) (λ k high. refl) in
      (raised d (actions_behind [] o.1) o.0 led.1 fresh, fresh-higher d o.0.drawn.tasks (actions_behind [] o.1) led.1.0 fresh)
  told-tied _ _ (told_on lines w told going) =
      behind-tock (lines ++ (instant p w).1) (instant p w).0 (behind-instant lines w (comes-of lines w told) (told-tied lines w told))

  -- ---- as the law has it

  own-is : (name : Who) (s : List shown.Action) → open_by_lines name s ≡ own_of name s
  own-is name [] = refl
  own-is name (a ∷ s) = ap (λ os. cond (who_eq name a.who) (a.object ∷ os) os) (own-is name s)

  mark-grown : (m : Mark) (os : List ℕ) → with_mark_of m os ≡ grown (action_in m) os
  mark-grown (Scope x) os = refl
  mark-grown (Handled x) os = refl
  mark-grown (InProtected x) os = refl
  mark-grown (InAccept x) os = refl
  mark-grown (Abortable x) os = refl
  mark-grown (InInitialize x) os = refl
  mark-grown (InFinalize x) os = refl
  mark-grown (InAssign x) os = refl

  marks-are : (fs : List Frame) → open_by_marks fs ≡ marked (natures fs)
  marks-are [] = refl
  marks-are (f ∷ fs) = ap (with_mark_of f.mark) (marks-are fs) ∙ mark-grown f.mark (marked (natures fs))

  told-is : (s : List shown.Action) (xs : List Event) → actions_told s xs ≡ actions_behind s xs
  told-is s [] = refl
  told-is s (x ∷ xs) = told-is (actions_after s x) xs

  open-told : (lines : List Event) (w : World) → Reached p script bound w → IsTied lines w → AreOpenByMarks (actions_told [] lines) w
  open-told lines w reached h name t e =
      ap (open_by_lines name) (told-is [] lines) ∙ own-is name (actions_behind [] lines) ∙ by_name name e ∙ sym (marks-are t.frames)
    where
      by_name : (n : Who) → task_at w n ≡ Some t → own_of n (actions_behind [] lines) ≡ marked (natures t.frames)
      by_name (who.Task k) found =
          let drawn = reached-drawn w reached k t found in
          let is : one_of w.tasks w.agent (who.Task k) ≡ t = ap (λ x. unwrap_or x nobody) found in
          (subst (λ u. InLines w.drawn.tasks (actions_behind [] lines) (who.Task k) u) is (h.0.1 (who.Task k))).1 drawn.0 drawn.1
      by_name who.Agent found =
          let is : w.agent ≡ t = cc in
          (subst (λ u. InLines w.drawn.tasks (actions_behind [] lines) who.Agent u) is (h.0.1 who.Agent)).1 tt tt

pub open_actions_are_told : OpenActionsAreTold
open_actions_are_told p script bound lines w told =
    let comes = comes-of p script bound lines w told in
    let h = told-tied p script bound lines w told in (
      open-told p script bound lines w (before w comes) h,
      open-told p script bound (lines ++ (instant p w).1) (instant p w).0 (behind w comes) (behind-instant p script bound lines w comes h),
    )
