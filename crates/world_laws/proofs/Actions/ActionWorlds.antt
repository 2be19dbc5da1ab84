-- In every world that a run reaches the open actions are those of the marks, and whoever has one open is ready, with at least the
-- ceiling as its active priority.
use Rattle.std.proofs.Common.{◌≡◌, inl, inr, ℕ, ℤ, ◌≤◌, Bool, true, false, cond, not, leb, eqb, ◌&&◌}
use Rattle.std.proofs.Common.{◌||◌, List, [], ◌∷◌, ◌++◌, map, refl, sym, ap, subst, ◌∙◌, arith}
use Rattle.std.specs.Prelude.{filter, max}
use Rattle.std.specs.List.{list_any, list_all}
use Rattle.std.proofs.lemmas.Bool.{and_from, and_parts, eqb-true, false≢true, or_right}
use Rattle.ann_base.specs.declared.identities.ObjectNo.{ObjectNo}
use Rattle.trace_text.specs.declared.events.Event.{Event}
use Rattle.trace_text.specs.declared.events.Who.{Who}
use Rattle.trace_text.specs.declared.events.Who.TheVariants as who
use Rattle.profile_image.specs.declared.image.Image.{Image}
use Rattle.profile_image.specs.declared.script_items.Item.{Item}
use Rattle.profile_machine.specs.declared.world.World.{World}
use Rattle.profile_machine.specs.declared.world.marks.Frame.{Frame}
use Rattle.profile_machine.specs.declared.world.objects.Action.{Action}
use Rattle.profile_machine.specs.declared.world.objects.Object.{Object}
use Rattle.profile_machine.specs.declared.world.tasks.Inherited.{Inherited}
use Rattle.profile_machine.specs.declared.world.tasks.Task.{Task}
use Rattle.profile_machine.specs.declared.world.tasks.Cause.TheVariants as inherited_by
use Rattle.profile_image.specs.Words.{same_who, greatest_of}
use Rattle.ann_base.specs.Lists.{is_empty}
use Rattle.profile_machine.specs.Tasks.{is_runnable, is_runnable_state}
use Rattle.profile_machine.specs.Dispatching.{active, own_level}
use Rattle.profile_machine.specs.Inheritance.{same_cause}
use Rattle.profile_machine.specs.Protected.{has_open, is_action_of}
use Rattle.profile_machine.specs.Instant.{instant}
use Rattle.profile_machine.specs.Run.{opening, tock}
use Rattle.profile_machine.specs.WellFormed.{everybody, is_mark_of, has_action_mark, holds_rightly, has_action, actions_are_right}
use Rattle.machine_laws.specs.Reached.{Comes, opened, ticked, Reached, before, behind}
use Rattle.line_laws.proofs.Exits.TaskEdits.{one_of, one_of-is}
use Rattle.line_laws.proofs.Leaving.Modes.{Nobody}
use Rattle.ceiling_laws.specs.RunLaws.{Tells, told_first, told_on}
use Rattle.ceiling_laws.proofs.Places.StandingRuns.{runs_show_who_is_ready}
use Rattle.world_laws.specs.ActionWorlds.{ReachedActionsAreRight}
use Rattle.world_laws.proofs.Actions.Natures.{Nature, natures, guards, marks, marks-none, action_mark-is}
use Rattle.world_laws.proofs.Actions.Sound.{Hold, EachObject, has_ceiling, marks_of, Sound, Good}
use Rattle.world_laws.proofs.Actions.SoundLists.{each-on}
use Rattle.world_laws.proofs.Actions.SoundActions.{who-self}
use Rattle.world_laws.proofs.Actions.MadeTasks.{Member, member-self}
use Rattle.world_laws.proofs.Actions.Kept.Instant.{RunnerAwake, instant-good}
use Rattle.world_laws.proofs.Actions.Kept.Run.{opening-good, tock-good}
use Rattle.machine_laws.proofs.QueueLemmas.{by_test}

-- ---- lists

opened-more : (n : Who) (a : Action) (actions : List Action) → has_open n actions ≡ true → has_open n (a ∷ actions) ≡ true
opened-more n a actions e = step (same_who n a.who)
  where
    step : (b : Bool) → not (is_empty (cond b (a ∷ filter (is_action_of n) actions) (filter (is_action_of n) actions))) ≡ true
    step true = refl
    step false = e

all-actions : (P : Action → Bool) (actions : List Action) → ((a : Action) → has_open a.who actions ≡ true → P a ≡ true) → list_all P actions ≡ true
all-actions P [] k = refl
all-actions P (a ∷ actions) k =
    and_from (P a) (list_all P actions)
    (k a (ap (λ b. not (is_empty (cond b (a ∷ filter (is_action_of a.who) actions) (filter (is_action_of a.who) actions)))) (who-self a.who)))
    (all-actions P actions (λ x e. k x (opened-more x.who a actions e)))

all-objects : (P : Object → Bool) (H : Who → Object → Type 0) (xs : List Object) → ((n : Who) → EachObject (H n) xs)
    → ((x : Object) → ((n : Who) → H n x) → P x ≡ true) → list_all P xs ≡ true
all-objects P H [] h k = refl
all-objects P H (x ∷ xs) h k = and_from (P x) (list_all P xs) (k x (λ n. (h n).0)) (all-objects P H xs (λ n. (h n).1) k)

all-each : (P : Object → Bool) (H : Object → Type 0) (xs : List Object) → EachObject H xs → ((x : Object) → H x → P x ≡ true) → list_all P xs ≡ true
all-each P H [] h k = refl
all-each P H (x ∷ xs) h k = and_from (P x) (list_all P xs) (k x h.0) (all-each P H xs h.1 k)

all-members : (P : Task → Bool) (agent : Task) (ts : List Task) → ((t : Task) → Member t ts → P t ≡ true) → P agent ≡ true
    → list_all P (ts ++ agent ∷ []) ≡ true
all-members P agent [] k e = and_from (P agent) true e refl
all-members P agent (t ∷ ts) k e = and_from (P t) (list_all P (ts ++ agent ∷ [])) (k t (inl refl)) (all-members P agent ts (λ u m. k u (inr m)) e)

-- ---- the ceiling is among what is inherited

ceiling-step : (o : ObjectNo) (level : ℕ) (i : Inherited) (rest : Bool) (greatest : ℕ)
    → ((same_cause (inherited_by.Ceiling o) i.cause && eqb level i.level) || rest) ≡ true → (rest ≡ true → level ≤ greatest) → level ≤ max i.level greatest
ceiling-step o level i rest greatest e k = by_test (same_cause (inherited_by.Ceiling o) i.cause && eqb level i.level)
    (λ f. let is : level ≡ i.level = eqb-true level i.level ((and_parts (same_cause (inherited_by.Ceiling o) i.cause) (eqb level i.level) f).1) in
    omega (arith, is))
    (λ f. let low : level ≤ greatest = k (sym (ap (λ b. b || rest) f) ∙ e) in omega (arith, low))

ceiling-greatest : (o : ObjectNo) (level least : ℕ) (is : List Inherited) → has_ceiling o level is ≡ true → level ≤ greatest_of (map (λ i. i.level) is) least
ceiling-greatest o level least [] e = absurd (false≢true e)
ceiling-greatest o level least (i ∷ is) e =
    ceiling-step o level i (has_ceiling o level is) (greatest_of (map (λ j. j.level) is) least) e (λ k. ceiling-greatest o level least is k)

marks-guards : (o : ObjectNo) (ns : List Nature) → marks o ns ≡ true → guards ns ≡ true
marks-guards o ns e = by_test (guards ns) (λ k. k) (λ k. absurd (false≢true (sym (marks-none o ns k) ∙ e)))

-- ---- of a world that is sound

module _ (p : Image) (w : World) (h : Sound w) where
  action-holds : (x : Object) (a : Action) → Hold a.who (marks_of w.tasks w.agent a.who) (one_of w.tasks w.agent a.who).inherited x
      → has_open a.who x.actions ≡ true → holds_rightly p w x a ≡ true
  action-holds x a held holds =
      let t = one_of w.tasks w.agent a.who in
      let marked : marks x.number (natures t.frames) ≡ true = sym held.0 ∙ holds in
      let high : x.ceiling ≤ active p t = ceiling-greatest x.number x.ceiling (own_level p t) t.inherited (held.1 holds) in
      subst (λ (u : Task). (has_action_mark x.number u && is_runnable u && leb x.ceiling (active p u)) ≡ true) (one_of-is w a.who)
      (and_from (has_action_mark x.number t && is_runnable t) (leb x.ceiling (active p t))
      (and_from (has_action_mark x.number t) (is_runnable t) (action_mark-is x.number t.frames ∙ marked)
      ((h.5 a.who).1 (marks-guards x.number (natures t.frames) marked)))
      (grind (arith, high)))

  objects-hold : list_all (λ o. list_all (holds_rightly p w o) o.actions) w.objects ≡ true
  objects-hold =
      all-objects (λ o. list_all (holds_rightly p w o) o.actions) (λ n. Hold n (marks_of w.tasks w.agent n) (one_of w.tasks w.agent n).inherited) w.objects
      (λ n. (h.5 n).2)
      (λ x held. all-actions (holds_rightly p w x) x.actions (λ a holds. action-holds x a (held a.who) holds))

  abbrev MarkedOpen : Who → List Frame → Object → Type 0
  MarkedOpen name fs x = list_any (λ f. is_mark_of x.number f.mark) fs ≡ true → has_open name x.actions ≡ true

  where_marked : (name : Who) (x : Object) (b : Bool) → (b ≡ true → has_open name x.actions ≡ true) → cond b (has_open name x.actions) true ≡ true
  where_marked name x true k = k refl
  where_marked name x false k = refl

  frames-open : (name : Who) (fs : List Frame) → EachObject (MarkedOpen name fs) w.objects → list_all (has_action w name) fs ≡ true
  frames-open name [] e = refl
  frames-open name (f ∷ fs) e =
      and_from (has_action w name f) (list_all (has_action w name) fs)
      (all-each (λ x. cond (is_mark_of x.number f.mark) (has_open name x.actions) true) (MarkedOpen name (f ∷ fs)) w.objects e
      (λ x k. where_marked name x (is_mark_of x.number f.mark) (λ is. k (ap (λ b. b || list_any (λ g. is_mark_of x.number g.mark) fs) is))))
      (frames-open name fs
      (each-on (MarkedOpen name (f ∷ fs)) (MarkedOpen name fs) w.objects
      (λ x k is. k (or_right (is_mark_of x.number f.mark) (list_any (λ g. is_mark_of x.number g.mark) fs) is)) e))

  task-open : (t : Task) (name : Who) → t.who ≡ name → one_of w.tasks w.agent name ≡ t → list_all (has_action w t.who) t.frames ≡ true
  task-open t name named is =
      ap (λ n. list_all (has_action w n) t.frames) named
      ∙ frames-open name t.frames
      (each-on (Hold name (natures t.frames) (one_of w.tasks w.agent name).inherited) (MarkedOpen name t.frames) w.objects
      (λ x held e. held.0 ∙ sym (action_mark-is x.number t.frames) ∙ e)
      (subst (λ (u : Task). EachObject (Hold name (natures u.frames) (one_of w.tasks w.agent name).inherited) w.objects) is (h.5 name).2))

  everybody-open : list_all (λ t. list_all (has_action w t.who) t.frames) (everybody w) ≡ true
  everybody-open =
      all-members (λ t. list_all (has_action w t.who) t.frames) w.agent w.tasks (λ t m. task-open t t.who refl (member-self t w h m))
      (task-open w.agent who.Agent h.2.1 refl)

  sound-right : actions_are_right p w ≡ true
  sound-right =
      and_from (list_all (λ o. list_all (holds_rightly p w o) o.actions) w.objects)
      (list_all (λ t. list_all (has_action w t.who) t.frames) (everybody w)) objects-hold everybody-open

-- ---- runs: whose action ends is ready

comes-told : (p : Image) (script : List (ℤ × Item)) (bound : ℕ) (w : World) → Comes p script bound w → (lines : List Event) × Tells p script bound lines w
comes-told p script bound _ opened = ((opening p script).1, told_first)
comes-told p script bound _ (ticked w c e) =
    let before_it = comes-told p script bound w c in ((before_it.0 ++ (instant p w).1) ++ (tock p (instant p w).0).1, told_on before_it.0 w before_it.1 e)

runner-awake : (p : Image) (script : List (ℤ × Item)) (bound : ℕ) (w : World) → Comes p script bound w → RunnerAwake w
runner-awake p script bound w c name ran over =
    let told = comes-told p script bound w c in
    ap (λ (t : Task). is_runnable_state t.state) (one_of-is w name) ∙ (runs_show_who_is_ready p script bound told.0 w told.1).1 name ran over

comes-good : (p : Image) (script : List (ℤ × Item)) (bound : ℕ) (w : World) → Comes p script bound w → Good Nobody w
comes-good p script bound _ opened = opening-good p script
comes-good p script bound _ (ticked w c e) = tock-good p (instant p w).0 (instant-good p w (comes-good p script bound w c) (runner-awake p script bound w c))

reached-good : (p : Image) (script : List (ℤ × Item)) (bound : ℕ) (w : World) → Reached p script bound w → Good Nobody w
reached-good p script bound _ (before w c) = comes-good p script bound w c
reached-good p script bound _ (behind w c) = instant-good p w (comes-good p script bound w c) (runner-awake p script bound w c)

pub reached_actions_are_right : ReachedActionsAreRight
reached_actions_are_right p script bound w reached = sound-right p w (reached-good p script bound w reached).0
