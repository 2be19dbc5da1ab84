-- Protected actions that begin and end, and levels that are inherited and lost.
use Rattle.std.proofs.Common.{◌≡◌, ℕ, suc, ◌<◌, Bool, true, false, cond, not, eqb, ◌&&◌, ◌||◌, List}
use Rattle.std.proofs.Common.{[], ◌∷◌, Option, Some, None, refl, sym, ap, subst, ◌∙◌, eq-eqb, arith}
use Rattle.std.specs.Prelude.{find, filter, is_some}
use Rattle.std.proofs.lemmas.Bool.{eqb-true, false≢true, or_right}
use Rattle.ann_base.specs.declared.identities.CallNo.{CallNo}
use Rattle.ann_base.specs.declared.identities.ObjectNo.{ObjectNo}
use Rattle.ann_base.specs.declared.identities.RegionNo.{RegionNo}
use Rattle.trace_text.specs.declared.events.Mode.{Mode}
use Rattle.trace_text.specs.declared.events.Who.{Who}
use Rattle.trace_text.specs.declared.events.Who.TheVariants as who
use Rattle.profile_machine.specs.declared.world.World.{World}
use Rattle.profile_machine.specs.declared.world.Drawn.{Drawn}
use Rattle.profile_machine.specs.declared.world.tasks.Task.{Task}
use Rattle.profile_machine.specs.declared.world.tasks.Inherited.{Inherited}
use Rattle.profile_machine.specs.declared.world.tasks.Cause.{Cause}
use Rattle.profile_machine.specs.declared.world.tasks.Cause.TheVariants as inherited_by
use Rattle.profile_machine.specs.declared.world.calls.Call.{Call}
use Rattle.profile_machine.specs.declared.world.objects.Action.{Action}
use Rattle.profile_machine.specs.declared.world.objects.Object.{Object}
use Rattle.profile_machine.specs.declared.world.marks.Frame.{Frame}
use Rattle.profile_machine.specs.declared.world.marks.Mark.TheVariants.{InProtected}
use Rattle.profile_machine.specs.declared.world.marks.ProtectedMark.{ProtectedMark}
use Rattle.profile_image.specs.Words.{same_who, same_object, same_region, is_the, without, set_where, edit_found, edit_where}
use Rattle.ann_base.specs.Lists.{is_empty}
use Rattle.world_tables.specs.Lists.{rest_of}
use Rattle.profile_machine.specs.Values.{is_object, object_of}
use Rattle.profile_machine.specs.Tasks.{nobody, task_at, edit_task, with_frames, is_runnable_state}
use Rattle.profile_machine.specs.Frames.{push, pop, new_frame}
use Rattle.profile_machine.specs.Inheritance.{same_cause, inherit, lose}
use Rattle.profile_machine.specs.Protected.{is_action_of, has_open, new_protected_mark, open_action, ceiling_of}
use Rattle.profile_machine.specs.Serving.{close_action}
use Rattle.machine_laws.proofs.ListLemmas.{Falls, Falls-edit_where}
use Rattle.machine_laws.proofs.Moves.{LetsIn}
use Rattle.machine_laws.proofs.QueueLemmas.{by_test}
use Rattle.machine_laws.proofs.FineMoves.{Naming}
use Rattle.line_laws.proofs.Exclusion.ObjectLists.{found-below}
use Rattle.line_laws.proofs.Exits.TaskEdits.{one_of, same_who-path, edited_to}
use Rattle.world_laws.proofs.Actions.Natures.{Nature, nature, natures, guards, marks, is_on, in_region}
use Rattle.world_laws.proofs.Actions.Sound.{ReleaseSound, ActionSound, OwnSound, Hold, EachObject, has_ceiling}
use Rattle.world_laws.proofs.Actions.Sound.{dependents, SureOn, SureOf, marks_of, SoundOf, Sound, Free, Good}
use Rattle.world_laws.proofs.Actions.SoundEdits.{others-edited, found-tasks, dependents-edited, fewer-sure, less-owner, edit-free, steady-good}
use Rattle.world_laws.proofs.Actions.SoundLists.{each-on, each-found, each-edited, each-one, some-object}
use Rattle.world_laws.proofs.Queues.Standing.{object_key}

-- ---- levels that are inherited and lost

sure-inherits : (drawn : Drawn) (calls : List Call) (objects : List Object) (tasks : List Task) (n : Who) (t : Task) (is : List Inherited)
    → ((x : Object) → marks x.number (natures t.frames) ≡ true → has_ceiling x.number x.ceiling t.inherited ≡ true → has_ceiling x.number x.ceiling is ≡ true)
    → SureOf drawn calls objects tasks n t → SureOf drawn calls objects tasks n (record t { inherited = is })
sure-inherits drawn calls objects tasks n t is k h =
    (h.0, h.1, each-on (Hold n (natures t.frames) t.inherited) (Hold n (natures t.frames) is) objects (λ x g. (g.0, λ e. k x (sym g.0 ∙ e) (g.1 e))) h.2, h.3)

pub inherit-good : (F : Naming) (name : Who) (cause : Cause) (level : ℕ) (w : World) → Good F w → Good F (inherit name cause level w)
inherit-good F name cause level w h =
    steady-good F name (λ t. record t { inherited = record { cause = cause; level = level } ∷ t.inherited }) w (λ t. refl) (λ t. refl) (λ t. refl)
    (λ n same t g k. sure-inherits w.drawn w.calls w.objects w.tasks n t (record { cause = cause; level = level } ∷ t.inherited)
    (λ x m e. or_right (same_cause (inherited_by.Ceiling x.number) cause && eqb x.ceiling level) (has_ceiling x.number x.ceiling t.inherited) e) k) h

-- what is lost is under another cause
left-step : (o : ObjectNo) (level : ℕ) (i : Inherited) (is left : List Inherited) (b c : Bool) → same_cause (inherited_by.Ceiling o) i.cause ≡ c
    → (c ≡ true → b ≡ false) → ((c && eqb level i.level) || has_ceiling o level is) ≡ true
    → (has_ceiling o level is ≡ true → has_ceiling o level left ≡ true) → has_ceiling o level (cond (not b) (i ∷ left) left) ≡ true
left-step o level i is left true true is' k e onward = absurd (false≢true (sym (k refl)))
left-step o level i is left true false is' k e onward = onward e
left-step o level i is left false c is' k e onward = ap (λ d. (d && eqb level i.level) || has_ceiling o level left) is' ∙ either (c && eqb level i.level) e
  where
    either : (d : Bool) → (d || has_ceiling o level is) ≡ true → (d || has_ceiling o level left) ≡ true
    either true f = refl
    either false f = onward f

ceiling-left : (cause : Cause) (o : ObjectNo) (level : ℕ) (is : List Inherited)
    → ((c : Cause) → same_cause (inherited_by.Ceiling o) c ≡ true → same_cause cause c ≡ false) → has_ceiling o level is ≡ true
    → has_ceiling o level (without (λ i. same_cause cause i.cause) is) ≡ true
ceiling-left cause o level [] k e = e
ceiling-left cause o level (i ∷ is) k e =
    left-step o level i is (without (λ j. same_cause cause j.cause) is) (same_cause cause i.cause) (same_cause (inherited_by.Ceiling o) i.cause) refl
    (k i.cause) e (λ g. ceiling-left cause o level is k g)

abbrev pub is_ceiling : Cause → Bool
is_ceiling inherited_by.Activation = false
is_ceiling (inherited_by.Rendezvous c) = false
is_ceiling (inherited_by.Ceiling o) = true

other-cause : (cause c : Cause) (o : ObjectNo) → is_ceiling cause ≡ false → same_cause (inherited_by.Ceiling o) c ≡ true → same_cause cause c ≡ false
other-cause inherited_by.Activation (inherited_by.Ceiling q) o none e = refl
other-cause (inherited_by.Rendezvous d) (inherited_by.Ceiling q) o none e = refl
other-cause (inherited_by.Ceiling x) (inherited_by.Ceiling q) o none e = absurd (false≢true (sym none))
other-cause cause inherited_by.Activation o none e = absurd (false≢true e)
other-cause cause (inherited_by.Rendezvous d) o none e = absurd (false≢true e)

pub lose-good : (F : Naming) (name : Who) (cause : Cause) (w : World) → is_ceiling cause ≡ false → Good F w → Good F (lose name cause w)
lose-good F name cause w none h =
    steady-good F name (λ t. record t { inherited = without (λ i. same_cause cause i.cause) t.inherited }) w (λ t. refl) (λ t. refl) (λ t. refl)
    (λ n same t g k. sure-inherits w.drawn w.calls w.objects w.tasks n t (without (λ i. same_cause cause i.cause) t.inherited)
    (λ x m e. ceiling-left cause x.number x.ceiling t.inherited (λ c f. other-cause cause c x.number none f) e) k) h

other-object : (o x : ObjectNo) (c : Cause) → same_object o x ≡ false → same_cause (inherited_by.Ceiling x) c ≡ true
    → same_cause (inherited_by.Ceiling o) c ≡ false
other-object o x (inherited_by.Ceiling q) none e = subst (λ k. eqb o.0 k ≡ false) (eqb-true x.0 q.0 e) none
other-object o x inherited_by.Activation none e = absurd (false≢true e)
other-object o x (inherited_by.Rendezvous d) none e = absurd (false≢true e)

object-path : (o x : ObjectNo) → same_object o x ≡ true → o ≡ x
object-path o x e = ap (λ (n : ℕ). record { 0 = n }) (eqb-true o.0 x.0 e)

-- the ceiling of an object on which no action of one's own is open
pub lose_ceiling-good : (F : Naming) (name : Who) (o : ObjectNo) (w : World) → marks o (marks_of w.tasks w.agent name) ≡ false → Good F w
    → Good F (lose name (inherited_by.Ceiling o) w)
lose_ceiling-good F name o w none h =
    steady-good F name (λ t. record t { inherited = without (λ i. same_cause (inherited_by.Ceiling o) i.cause) t.inherited }) w (λ t. refl) (λ t. refl)
    (λ t. refl)
    (λ n same t g k. sure-inherits w.drawn w.calls w.objects w.tasks n t (without (λ i. same_cause (inherited_by.Ceiling o) i.cause) t.inherited)
    (λ x m e. ceiling-left (inherited_by.Ceiling o) x.number x.ceiling t.inherited (λ c f. other-object o x.number c (apart n same t g x m) f) e) k) h
  where
    apart : (n : Who) → same_who n name ≡ true → (t : Task) → t ≡ one_of w.tasks w.agent n → (x : Object) → marks x.number (natures t.frames) ≡ true
        → same_object o x.number ≡ false
    apart n same t g x m = by_test (same_object o x.number)
        (λ alike. let none_here : marks o (natures t.frames) ≡ false =
        ap (λ (u : Task). marks o (natures u.frames)) g ∙ ap (λ i. marks o (marks_of w.tasks w.agent i)) (same_who-path n name same) ∙ none in
        absurd (false≢true (sym none_here ∙ ap (λ i. marks i (natures t.frames)) (object-path o x.number alike) ∙ m)))
        (λ e. e)

-- ---- actions that are open

eqb-turned : (a b : ℕ) → eqb a b ≡ false → eqb b a ≡ false
eqb-turned a b e = by_test (eqb b a) (λ same. absurd (false≢true (sym e ∙ eq-eqb a b (sym (eqb-true b a same))))) (λ f. f)

opened-same : (n : Who) (a : Action) (actions : List Action) → same_who n a.who ≡ true → has_open n (a ∷ actions) ≡ true
opened-same n a actions e = ap (λ b. not (is_empty (cond b (a ∷ filter (is_action_of n) actions) (filter (is_action_of n) actions)))) e

opened-other : (n : Who) (a : Action) (actions : List Action) → same_who n a.who ≡ false → has_open n (a ∷ actions) ≡ has_open n actions
opened-other n a actions e = ap (λ b. not (is_empty (cond b (a ∷ filter (is_action_of n) actions) (filter (is_action_of n) actions)))) e

closed-step : (n name : Who) (a : Action) (actions left : List Action) (b : Bool) → same_who name a.who ≡ b → same_who n name ≡ false
    → has_open n left ≡ has_open n actions → has_open n (cond (not b) (a ∷ left) left) ≡ has_open n (a ∷ actions)
closed-step n name a actions left true is other e =
    let apart : same_who n a.who ≡ false = subst (λ m. same_who n m ≡ false) (same_who-path name a.who is) other in
    e ∙ sym (opened-other n a actions apart)
closed-step n name a actions left false is other e = by_test (same_who n a.who)
    (λ same. opened-same n a left same ∙ sym (opened-same n a actions same)) (λ apart. opened-other n a left apart ∙ e ∙ sym (opened-other n a actions apart))

closed-other : (n name : Who) (actions : List Action) → same_who n name ≡ false → has_open n (without (is_action_of name) actions) ≡ has_open n actions
closed-other n name [] e = refl
closed-other n name (a ∷ actions) e =
    closed-step n name a actions (without (is_action_of name) actions) (same_who name a.who) refl e (closed-other n name actions e)

gone-step : (name : Who) (a : Action) (left : List Action) (b : Bool) → same_who name a.who ≡ b → has_open name left ≡ false
    → has_open name (cond (not b) (a ∷ left) left) ≡ false
gone-step name a left true is e = e
gone-step name a left false is e = opened-other name a left is ∙ e

closed-own : (name : Who) (actions : List Action) → has_open name (without (is_action_of name) actions) ≡ false
closed-own name [] = refl
closed-own name (a ∷ actions) = gone-step name a (without (is_action_of name) actions) (same_who name a.who) refl (closed-own name actions)

-- ---- an action ends

each-any : (xs : List Object) → EachObject (λ y. Unit {0}) xs
each-any [] = tt
each-any (x ∷ xs) = (tt, each-any xs)

abbrev pub top_nature : List Nature → Option Nature
top_nature [] = None
top_nature (n ∷ ns) = Some n

abbrev pub acted : ProtectedMark → Nature
acted m = nature (InProtected m)

pub who-self : (a : Who) → same_who a a ≡ true
who-self (who.Task t) = eq-eqb t.0 t.0 refl
who-self who.Agent = refl

some-nature : (a b : Nature) → Some a ≡ Some b → a ≡ b
some-nature a b e = cc

guards-tail : (n : Nature) (ns : List Nature) → guards (n ∷ ns) ≡ false → guards ns ≡ false
guards-tail n ns e = step n.action e
  where
    step : (a : Option ObjectNo) → (is_some a || guards ns) ≡ false → guards ns ≡ false
    step None k = k
    step (Some o) k = absurd (false≢true (sym k))

module _ (name : Who) (m : ProtectedMark) (w : World) (top : top_nature (marks_of w.tasks w.agent name) ≡ Some (acted m)) where
  abbrev closes : Object → Object
  closes x = record x { actions = without (is_action_of name) x.actions }

  abbrev closed_objects : List Object
  closed_objects = edit_where (is_object m.object) closes w.objects

  top-here : (n : Who) → same_who n name ≡ true → (t : Task) → t ≡ one_of w.tasks w.agent n → top_nature (natures t.frames) ≡ Some (acted m)
  top-here n same t g = ap (λ (u : Task). top_nature (natures u.frames)) g ∙ ap (λ i. top_nature (marks_of w.tasks w.agent i)) (same_who-path n name same) ∙ top

  closed-hold : (n : Who) (ns : List Nature) (is : List Inherited) (x : Object) → same_who n name ≡ false → Hold n ns is x → Hold n ns is (closes x)
  closed-hold n ns is x apart h = let same = closed-other n name x.actions apart in (same ∙ h.0, λ e. h.1 (sym same ∙ e))

  ended-apart : (n : Who) (t : Task) → same_who n name ≡ false → SureOf w.drawn w.calls w.objects w.tasks n t
      → SureOf w.drawn w.calls closed_objects w.tasks n t
  ended-apart n t apart h = (
    h.0,
    h.1,
    each-edited (Hold n (natures t.frames) t.inherited) (is_object m.object) closes w.objects
        (λ x g. closed-hold n (natures t.frames) t.inherited x apart g) h.2,
    h.3,
  )

  ended-same : (n : Who) → same_who n name ≡ true → (t : Task) (fs : List Frame) → Falls object_key (suc w.drawn.objects) w.objects
      → top_nature (natures fs) ≡ Some (acted m)
      → SureOn w.drawn w.calls w.objects w.tasks n (natures fs) t.state t.inherited
      → SureOn w.drawn w.calls closed_objects w.tasks n (natures (rest_of fs)) t.state t.inherited
  ended-same n same t [] falls e h = absurd cc
  ended-same n same t (f ∷ fs) falls e h =
      let action : (nature f.mark).action ≡ Some m.object = ap (λ (i : Nature). i.action) (some-nature (nature f.mark) (acted m) e) in
      let once : marks m.object (natures fs) ≡ false = (subst (λ a. ActionSound w.drawn.objects a (natures fs)) action h.0.0.1).1 in
      let is : n ≡ name = same_who-path n name same in (
        h.0.1,
        λ x. h.1 (ap (λ a. is_some a || guards (natures fs)) action),
        each-one m.object (Hold n (natures (f ∷ fs)) t.inherited) (Hold n (natures fs) t.inherited)
            (λ x apart g. (
              g.0 ∙ ap (λ a. is_on x.number a || marks x.number (natures fs)) action
                  ∙ ap (λ b. b || marks x.number (natures fs)) (eqb-turned m.object.0 x.number.0 apart),
              g.1,
            ))
            (suc w.drawn.objects) closes w.objects
            (λ x found g. let number : m.object ≡ x.number =
            object-path m.object x.number (each-found (λ y. Unit {0}) (is_object m.object) w.objects x (each-any w.objects) found).1 in
            let none : has_open n (without (is_action_of name) x.actions) ≡ false =
            ap (λ i. has_open i (without (is_action_of name) x.actions)) is ∙ closed-own name x.actions in
            (none ∙ sym once ∙ ap (λ o. marks o (natures fs)) number, λ e2. absurd (false≢true (sym none ∙ e2))))
            falls h.2,
        λ r d. (h.3 r d).1,
      )

  ended-guards : (fs : List Frame) → guards (natures fs) ≡ false → guards (natures (rest_of fs)) ≡ false
  ended-guards [] e = e
  ended-guards (f ∷ fs) e = guards-tail (nature f.mark) (natures fs) e

  no-nature : None ≡ Some (acted m) → ⊥
  no-nature e = cc

  -- of nobody none was open
  nobody-ended : (n : Who) → (nobody ≡ one_of w.tasks w.agent n) × SureOf w.drawn w.calls w.objects w.tasks n nobody
      → SureOf w.drawn w.calls closed_objects w.tasks n nobody
  nobody-ended n g = by_test (same_who n name) (λ same. absurd (no-nature (top-here n same nobody g.0))) (λ apart. ended-apart n nobody apart g.1)

  ended-sound : Sound w → Sound (close_action name m.object (pop name w))
  ended-sound h =
      let f = λ (t : Task). with_frames (rest_of t.frames) t in
      let v = pop name w in
      let lists = found-tasks f (λ t. refl) (λ t. refl) name w w.drawn.tasks (task_at w name) refl h.1 h.2 in
      let fewer : (r : RegionNo) → dependents v.tasks r ≡ true → dependents w.tasks r ≡ true =
      λ r e. sym (dependents-edited f (λ t. refl) (λ t. refl) name w r) ∙ e in
      others-edited (λ d c o. SoundOf d c (edit_where (is_object m.object) closes o) v.tasks v.agent) name f w (
        Falls-edit_where object_key (is_object m.object) closes (λ x. refl) (suc w.drawn.objects) w.objects h.0,
        lists.0,
        lists.1,
        λ r e. h.3 r (fewer r e),
        less-owner name f w (λ t. refl) (λ t. refl) (λ t g r e. popped-in r t.frames e) h.4,
        λ n. edited_to (λ t. (t ≡ one_of w.tasks w.agent n) × SureOf w.drawn w.calls w.objects w.tasks n t)
            (λ t. SureOf w.drawn w.calls closed_objects v.tasks n t) n name f w (λ t. refl)
            (λ same t g. fewer-sure w.drawn w.calls closed_objects w.tasks v.tasks n (f t) fewer (ended-same n same t t.frames h.0 (top-here n same t g.0) g.1))
            (λ apart t g. fewer-sure w.drawn w.calls closed_objects w.tasks v.tasks n t fewer (ended-apart n t apart g.1))
            (λ g. fewer-sure w.drawn w.calls closed_objects w.tasks v.tasks n nobody fewer (nobody-ended n g)) (refl, h.5 n),
      )
    where
      popped-in : (r : RegionNo) (fs : List Frame) → in_region r (natures (rest_of fs)) ≡ true → in_region r (natures fs) ≡ true
      popped-in r [] e = e
      popped-in r (f ∷ fs) e = or_right (is_the same_region (nature f.mark).region r) (in_region r (natures fs)) e

  pub end-good : (F : Naming) → Good F w → Good F (close_action name m.object (pop name w))
  end-good F h = (
    ended-sound h.0,
    edit-free name (λ t. with_frames (rest_of t.frames) t) w (λ t. refl) (λ t. refl) F (λ n same is t g e. ended-guards t.frames e) h.1,
  )

  -- what is known of the marks that are left
  behind : (P : List Nature → Type 0)
      → ((fs : List Frame) → top_nature (natures fs) ≡ Some (acted m)
      → SureOn w.drawn w.calls w.objects w.tasks name (natures fs) (one_of w.tasks w.agent name).state (one_of w.tasks w.agent name).inherited
      → P (natures (rest_of fs)))
      → Sound w → (let v = pop name w in P (marks_of v.tasks v.agent name))
  behind P k h =
      edited_to (λ t. t ≡ one_of w.tasks w.agent name) (λ t. P (natures t.frames)) name name (λ t. with_frames (rest_of t.frames) t) w (λ t. refl)
      (λ same t g. k t.frames (top-here name same t g)
      (subst (λ (u : Task).
      SureOn w.drawn w.calls w.objects w.tasks name (natures u.frames) (one_of w.tasks w.agent name).state (one_of w.tasks w.agent name).inherited)
      (sym g)
      (h.5 name)))
      (λ apart t g. absurd (false≢true (sym apart ∙ who-self name)))
      (λ g. absurd (no-nature (top-here name (who-self name) nobody g))) refl

  pub end-once : Sound w → (let v = pop name w in marks m.object (marks_of v.tasks v.agent name) ≡ false)
  end-once h = behind (λ ns. marks m.object ns ≡ false) once h
    where
      once : (fs : List Frame) → top_nature (natures fs) ≡ Some (acted m)
          → SureOn w.drawn w.calls w.objects w.tasks name (natures fs) (one_of w.tasks w.agent name).state (one_of w.tasks w.agent name).inherited
          → marks m.object (natures (rest_of fs)) ≡ false
      once [] e g = refl
      once (f ∷ fs) e g =
          (subst (λ a. ActionSound w.drawn.objects a (natures fs)) (ap (λ (i : Nature). i.action) (some-nature (nature f.mark) (acted m) e)) g.0.0.1).1

  -- where it was entered by a call of one's own, or for a release, no other is open
  pub end-free : (acted m).floor ≡ true → Sound w → (let v = pop name w in Free name v)
  end-free floor h = behind (λ ns. guards ns ≡ false) low h
    where
      low : (fs : List Frame) → top_nature (natures fs) ≡ Some (acted m)
          → SureOn w.drawn w.calls w.objects w.tasks name (natures fs) (one_of w.tasks w.agent name).state (one_of w.tasks w.agent name).inherited
          → guards (natures (rest_of fs)) ≡ false
      low [] e g = refl
      low (f ∷ fs) e g = g.0.0.0 (ap (λ (i : Nature). i.floor) (some-nature (nature f.mark) (acted m) e) ∙ floor)

-- ---- an action begins

found-set-step : (test : Object → Bool) (x y z : Object) (zs others : List Object) (b : Bool) → test z ≡ b → test y ≡ true
    → cond b (Some z) (find test zs) ≡ Some x → (find test zs ≡ Some x → find test others ≡ Some y) → find test (cond b (y ∷ zs) (z ∷ others)) ≡ Some y
found-set-step test x y z zs others true is own e onward = ap (λ t. cond t (Some y) (find test zs)) own
found-set-step test x y z zs others false is own e onward = ap (λ t. cond t (Some z) (find test others)) is ∙ onward e

found-set : (test : Object → Bool) (x y : Object) (zs : List Object) → test y ≡ true → find test zs ≡ Some x → find test (set_where test y zs) ≡ Some y
found-set test x y [] own e = absurd cc
found-set test x y (z ∷ zs) own e = found-set-step test x y z zs (set_where test y zs) (test z) refl own e (λ k. found-set test x y zs own k)

found-edited : (test : Object → Bool) (f : Object → Object) (x : Object) (zs : List Object) → test (f x) ≡ true → find test zs ≡ Some x
    → find test (edit_where test f zs) ≡ Some (f x)
found-edited test f x zs own e = ap (λ found. find test (edit_found test f zs found)) e ∙ found-set test x (f x) zs own e

module _ (name : Who) (o : ObjectNo) (mode : Mode) (call : Option CallNo) (release : Option ℕ) (w : World) (lets : LetsIn name o mode w)
    (awake : is_runnable_state (one_of w.tasks w.agent name).state ≡ true) where
  abbrev opens : Object → Object
  opens x = record x { actions = record { who = name; mode = mode } ∷ x.actions }

  abbrev opened_objects : List Object
  opened_objects = edit_where (is_object o) opens w.objects

  abbrev entered : Frame
  entered = new_frame (new_protected_mark o mode call release) None

  abbrev floor : Bool
  floor = is_some call || is_some release

  abbrev level : ℕ
  level = ceiling_of (object_of (open_action name o mode w) o)

  abbrev heir : Task → Task
  heir t = record t { inherited = record { cause = inherited_by.Ceiling o; level = level } ∷ t.inherited }

  abbrev inside : Task → Task
  inside t = with_frames (entered ∷ t.frames) t

  found-is : is_object o lets.object ≡ true
  found-is = (each-found (λ y. Unit {0}) (is_object o) w.objects lets.object (each-any w.objects) lets.found).1

  level-is : level ≡ lets.object.ceiling
  level-is = ap ceiling_of (found-edited (is_object o) opens lets.object w.objects found-is lets.found)

  -- with the level, and awake
  abbrev Heir : Who → Task → Type 0
  Heir n t =
      SureOf w.drawn w.calls w.objects w.tasks n t
      × (same_who n name ≡ true
      → (has_ceiling o lets.object.ceiling t.inherited ≡ true) × (is_runnable_state t.state ≡ true) × (floor ≡ true → guards (natures t.frames) ≡ false))

  not-nobody : (n : Who) → same_who n name ≡ true → nobody ≡ one_of w.tasks w.agent n → ⊥
  not-nobody n same g =
      false≢true
      (ap (λ (t : Task). is_runnable_state t.state) g ∙ ap (λ i. is_runnable_state (one_of w.tasks w.agent i).state) (same_who-path n name same) ∙ awake)

  heir-same : (floor ≡ true → Free name w) → (n : Who) → same_who n name ≡ true → (t : Task) → t ≡ one_of w.tasks w.agent n
      → SureOf w.drawn w.calls w.objects w.tasks n t → Heir n (heir t)
  heir-same low n same t g h =
      let is : n ≡ name = same_who-path n name same in (
        sure-inherits w.drawn w.calls w.objects w.tasks n t (record { cause = inherited_by.Ceiling o; level = level } ∷ t.inherited)
            (λ x e k. or_right (same_cause (inherited_by.Ceiling x.number) (inherited_by.Ceiling o) && eqb x.ceiling level)
            (has_ceiling x.number x.ceiling t.inherited) k) h,
        λ again. (
          ap (λ b. (b && eqb lets.object.ceiling level) || has_ceiling o lets.object.ceiling t.inherited) (eq-eqb o.0 o.0 refl)
              ∙ ap (λ b. b || has_ceiling o lets.object.ceiling t.inherited) (eq-eqb lets.object.ceiling level (sym level-is)),
          ap (λ (u : Task). is_runnable_state u.state) g ∙ ap (λ i. is_runnable_state (one_of w.tasks w.agent i).state) is ∙ awake,
          λ e. ap (λ (u : Task). guards (natures u.frames)) g ∙ ap (λ i. guards (marks_of w.tasks w.agent i)) is ∙ low e,
        ),
      )

  inside-apart : (n : Who) → same_who n name ≡ false → (t : Task) → SureOf w.drawn w.calls w.objects w.tasks n t
      → SureOf w.drawn w.calls opened_objects w.tasks n t
  inside-apart n apart t h = (
    h.0,
    h.1,
    each-edited (Hold n (natures t.frames) t.inherited) (is_object o) opens w.objects
        (λ x g. let same = opened-other n (record { who = name; mode = mode }) x.actions apart in (same ∙ g.0, λ e. g.1 (sym same ∙ e))) h.2,
    h.3,
  )

  inside-same : ReleaseSound name release → OwnSound w.drawn.calls w.calls name call → Falls object_key (suc w.drawn.objects) w.objects → (n : Who)
      → same_who n name ≡ true → (t : Task) → Heir n t → SureOf w.drawn w.calls opened_objects w.tasks n (inside t)
  inside-same rel own falls n same t h =
      let is : n ≡ name = same_who-path n name same in
      let ns = natures t.frames in
      let here = h.1 same in
      let number : o ≡ lets.object.number = object-path o lets.object.number found-is in
      let held = (each-found (Hold n ns t.inherited) (is_object o) w.objects lets.object h.0.2 lets.found).0 in
      let free : marks o ns ≡ false = ap (λ i. marks i ns) number ∙ sym held.0 ∙ ap (λ i. has_open i lets.object.actions) is ∙ lets.outside in
      let low : o.0 < suc w.drawn.objects = found-below o (suc w.drawn.objects) w.objects lets.object falls lets.found in (
        (
          (
            here.2,
            (omega (arith, low), free),
            subst (λ i. ReleaseSound i release) (sym is) rel,
            subst (λ i. OwnSound w.drawn.calls w.calls i call) (sym is) own,
            tt,
          ),
          h.0.0,
        ),
        λ e. here.1,
        each-one o (Hold n ns t.inherited) (Hold n (natures (entered ∷ t.frames)) t.inherited)
            (λ x apart g. (g.0 ∙ sym (ap (λ b. b || marks x.number ns) (eqb-turned o.0 x.number.0 apart)), g.1))
            (suc w.drawn.objects) opens w.objects
            (λ x found g. let alike : lets.object ≡ x = some-object lets.object x (sym lets.found ∙ found) in
            let one : o ≡ x.number = number ∙ ap (λ (y : Object). y.number) alike in (
              opened-same n (record { who = name; mode = mode }) x.actions same
                  ∙ sym (ap (λ b. b || marks x.number ns) (eq-eqb x.number.0 o.0 (sym (ap (λ (i : ObjectNo). i.0) one)))),
              λ e. ap (λ i. has_ceiling i x.ceiling t.inherited) (sym one) ∙ ap (λ (y : Object). has_ceiling o y.ceiling t.inherited) (sym alike) ∙ here.0,
            ))
            falls h.0.2,
        λ r e. ((λ x. absurd (false≢true x)), h.0.3 r e),
      )

  pub begin-good : (F : Naming) → (F name → ⊥) → (floor ≡ true → Free name w) → ReleaseSound name release → OwnSound w.drawn.calls w.calls name call → Good F w
      → Good F (push name entered (inherit name (inherited_by.Ceiling o) level (open_action name o mode w)))
  begin-good F never low rel own h =
      let w1 = open_action name o mode w in
      let w2 = edit_task name heir w1 in
      let w3 = edit_task name inside w2 in
      let lists2 = found-tasks heir (λ t. refl) (λ t. refl) name w1 w.drawn.tasks (task_at w1 name) refl h.0.1 h.0.2 in
      let lists3 = found-tasks inside (λ t. refl) (λ t. refl) name w2 w.drawn.tasks (task_at w2 name) refl lists2.0 lists2.1 in
      let fewer : (r : RegionNo) → dependents w3.tasks r ≡ true → dependents w.tasks r ≡ true = λ r e.
      sym (dependents-edited heir (λ t. refl) (λ t. refl) name w1 r) ∙ sym (dependents-edited inside (λ t. refl) (λ t. refl) name w2 r) ∙ e in
      let lessen =
      λ (n : Who) (t : Task) (g : SureOf w.drawn w.calls opened_objects w.tasks n t).
      fewer-sure w.drawn w.calls opened_objects w.tasks w3.tasks n t fewer g in
      let heirs : (n : Who) → Heir n (one_of w2.tasks w2.agent n) = λ n.
      edited_to (λ t. (t ≡ one_of w.tasks w.agent n) × SureOf w.drawn w.calls w.objects w.tasks n t) (λ t. Heir n t) n name heir w1 (λ t. refl)
      (λ same t g. heir-same low n same t g.0 g.1) (λ apart t g. (g.1, λ same. absurd (false≢true (sym apart ∙ same))))
      (λ g. (g.1, λ same. absurd (not-nobody n same g.0))) (refl, h.0.5 n) in (
        others-edited (λ d c os. SoundOf d c os w3.tasks w3.agent) name inside w2 (others-edited (λ d c os. SoundOf d c os w3.tasks w3.agent) name heir w1 (
          Falls-edit_where object_key (is_object o) opens (λ x. refl) (suc w.drawn.objects) w.objects h.0.0,
          lists3.0,
          lists3.1,
          λ r e. h.0.3 r (fewer r e),
          less-owner name inside w2 (λ t. refl) (λ t. refl) (λ t g r e. e) (less-owner name heir w1 (λ t. refl) (λ t. refl) (λ t g r e. e) h.0.4),
          λ n. edited_to (λ t. Heir n t) (λ t. SureOf w.drawn w.calls opened_objects w3.tasks n t) n name inside w2 (λ t. refl)
              (λ same t g. lessen n (inside t) (inside-same rel own h.0.0 n same t g))
              (λ apart t g. lessen n t (inside-apart n apart t g.0))
              (λ g. by_test (same_who n name) (λ same. absurd (false≢true (g.1 same).1)) (λ apart. lessen n nobody (inside-apart n apart nobody g.0)))
              (heirs n),
        )),
        edit-free name inside w2 (λ t. refl) (λ t. refl) F (λ n same is t g e. absurd (never (subst F (same_who-path n name same) is)))
            (edit-free name heir w1 (λ t. refl) (λ t. refl) F (λ n same is t g e. e) h.1),
      )
