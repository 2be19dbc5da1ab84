-- Step 5 of an instant releases the timers that are due, in their order, and leaves the others.
use Rattle.std.proofs.Common.{◌≡◌, ℕ, Bool, true, false, cond, eqb, find, filter, List, [], ◌∷◌}
use Rattle.std.proofs.Common.{◌++◌, map, Option, Some, None, refl, sym, ap, subst, ◌∙◌, append-nil}
use Rattle.std.proofs.lemmas.Bool.{false≢true}
use Rattle.trace_text.specs.declared.events.Event.{Event}
use Rattle.profile_image.specs.declared.image.Image.{Image}
use Rattle.profile_machine.specs.declared.world.World.{World}
use Rattle.profile_machine.specs.declared.world.appointments.HandlerOf.{HandlerOf}
use Rattle.profile_machine.specs.declared.world.appointments.Timer.{Timer}
use Rattle.profile_machine.specs.declared.world.lines.Said.{Said}
use Rattle.profile_machine.specs.declared.world.lines.Part.TheVariants.{Own}
use Rattle.profile_image.specs.Words.{without}
use Rattle.profile_machine.specs.Steps.{Done, done, changes, looks, nothing, for_each, goes_on_with, placed_by, ◌▷◌}
use Rattle.profile_machine.specs.Handlers.{clear_timer, release}
use Rattle.profile_machine.specs.Instant.{expire, expire_timer, no_timers_due, timers_due}
use Rattle.profile_machine.specs.Releases.{named_handler, released}
use Rattle.machine_laws.proofs.Moves.{lines_of}
use Rattle.machine_laws.proofs.Kept.Combinators.{Kept, From}
use Rattle.release_laws.specs.ReleaseLaws.{TimerSet, but_timer}
use Rattle.release_laws.proofs.TimerLists.{timer_in, timers_in, Matches, timers_in-match, cleared-timers}
use Rattle.release_laws.proofs.KeyedLists.{Differ, without-differ, takes-found, none-found}
use Rattle.release_laws.proofs.Tellings.{Tells, tells_none, tells_both, released-lines}
use Rattle.release_laws.proofs.Untouched.{sight_of, EventsStay, BudgetsStay, OutsideStays, ClocksStay, events-stay, budgets-stay}
use Rattle.release_laws.proofs.Untouched.{outside-stays, clocks-stay, events-then, budgets-then, outside-then, clocks-then}
use Rattle.release_laws.proofs.Release.{Released, release-from}
use Rattle.release_laws.proofs.Effects.{kept-then}
use Rattle.release_laws.proofs.ActionEffects.{settled-by}

abbrev pub number_of_timer : TimerSet → ℕ
number_of_timer s = s.timer

abbrev pub handler_of_timer : TimerSet → HandlerOf
handler_of_timer s = s.handler

abbrev pub timers_of : World → List TimerSet
timers_of w = timers_in w.timers w.timers_set

-- those that pass a test are released, and the others are left
pub record TimersDone (test : TimerSet → Bool) (a : World) (said : List Said) (b : World) : Type 0 where
  pub timers : timers_of b ≡ without test (timers_of a)
  pub events : EventsStay (sight_of a) (sight_of b)
  pub budgets : BudgetsStay (sight_of a) (sight_of b)
  pub outside : OutsideStays (sight_of a) (sight_of b)
  pub clocks : ClocksStay (sight_of a) (sight_of b)
  pub tells : Tells (map handler_of_timer (filter test (timers_of a))) said

unfoldable pub or_that : {X : Type 0} → X → Option X → X
or_that x (Some y) = y
or_that x None = x

is_there : {X : Type 0} → Option X → Bool
is_there (Some x) = true
is_there None = false

-- what is found is as the timer of its number says
match-where : (test : TimerSet → Bool) (timers : List Timer) (x s : TimerSet) (xs : List TimerSet) (b : Bool) → Matches timers (x ∷ xs)
    → cond b (Some x) (find test xs) ≡ Some s
    → (find test xs ≡ Some s → (timer_in timers s.timer).setting ≡ Some (record { value = s.value; handler = s.handler }))
    → (timer_in timers s.timer).setting ≡ Some (record { value = s.value; handler = s.handler })
unfolding or_that
match-where test timers x s xs true m e k =
    subst (λ (y : TimerSet). (timer_in timers y.timer).setting ≡ Some (record { value = y.value; handler = y.handler })) (ap (or_that x) e)
    (ap (λ (t : Timer). t.setting) m.0)
match-where test timers x s xs false m e k = k e

found-match : (test : TimerSet → Bool) (timers : List Timer) (xs : List TimerSet) (s : TimerSet) → Matches timers xs → find test xs ≡ Some s
    → (timer_in timers s.timer).setting ≡ Some (record { value = s.value; handler = s.handler })
unfolding is_there
found-match test timers [] s m e = absurd (false≢true (ap is_there e))
found-match test timers (x ∷ xs) s m e = match-where test timers x s xs (test x) m e (found-match test timers xs s m.1)

module _ (p : Image) (test : TimerSet → Bool) where
  none-done : (w : World) → find test (timers_of w) ≡ None → TimersDone test w [] w
  none-done w e =
      let none = none-found number_of_timer test (timers_of w) e in
      record {
        timers = sym none.1;
        events = events-stay (sight_of w);
        budgets = budgets-stay (sight_of w);
        outside = outside-stays (sight_of w);
        clocks = clocks-stay (sight_of w);
        tells = subst (λ ss. Tells (map handler_of_timer ss) []) (sym none.0) tells_none;
      }

  one-done : (s : TimerSet) (w v u : World) (xs ys : List Said) → Differ number_of_timer (timers_of w) → find test (timers_of w) ≡ Some s
      → Released s.handler (clear_timer s.timer w) xs v → TimersDone test v ys u → TimersDone test w (xs ++ ys) u
  one-done s w v u xs ys d e r k =
      let takes = takes-found number_of_timer test (timers_of w) s d e in
      let left : timers_of v ≡ but_timer s.timer (timers_of w) = r.others.timers.same ∙ cleared-timers s.timer w.timers w.timers_set in
      record {
        timers = k.timers ∙ ap (without test) left ∙ sym takes.1;
        events = events-then (sight_of w) (sight_of v) (sight_of u) (record { same = r.others.events.same; rises = r.others.events.rises }) k.events;
        budgets = budgets-then (sight_of w) (sight_of v) (sight_of u) (record { same = r.others.budgets.same; same_due = r.others.budgets.same_due }) k.budgets;
        outside =
            outside-then (sight_of w) (sight_of v) (sight_of u)
            (record {
              same_script = r.others.outside.same_script;
              same_masked = r.others.outside.same_masked;
              same_kept = r.others.outside.same_kept;
            }) k.outside;
        clocks = clocks-then (sight_of w) (sight_of v) (sight_of u) (record { same_time = r.others.clocks.same_time; low = r.others.clocks.low }) k.clocks;
        tells = subst (λ ss. Tells (map handler_of_timer ss) (xs ++ ys)) (sym takes.0)
            (tells_both (s.handler ∷ []) (map handler_of_timer (filter test (but_timer s.timer (timers_of w)))) xs ys r.tells
            (subst (λ ss. Tells (map handler_of_timer ss) ys) (ap (filter test) left) k.tells));
      }

  moved-from : (s : TimerSet) (w : World) (said : List Said) (d : Done) → Kept (Released s.handler) (clear_timer s.timer w) said d
      → Kept (λ before xs after. Released s.handler (clear_timer s.timer w) xs after) w said d
  unfolding Kept
  moved-from s w said (done v ys) k = k

  nothing-done : (w : World) → find test (timers_of w) ≡ None → From (TimersDone test) w nothing
  unfolding From Kept
  nothing-done w e said = ([], sym (append-nil said), none-done w e)

  -- these are due, and no others
  abbrev pub AreDue : List ℕ → World → Type 0
  AreDue ks w = Differ number_of_timer (timers_of w) × (map number_of_timer (filter test (timers_of w)) ≡ ks)

  first_of : ℕ → List ℕ → ℕ
  first_of k [] = k
  first_of k (x ∷ xs) = x

  rest_of : List ℕ → List ℕ
  rest_of [] = []
  rest_of (x ∷ xs) = xs

  is_empty : List ℕ → Bool
  is_empty [] = true
  is_empty (x ∷ xs) = false

  still-due : (s : TimerSet) (ks : List ℕ) (w v : World) (xs : List Said) → Differ number_of_timer (timers_of w) → find test (timers_of w) ≡ Some s
      → rest_of (map number_of_timer (filter test (timers_of w))) ≡ ks
      → Released s.handler (clear_timer s.timer w) xs v → AreDue ks v
  unfolding rest_of
  still-due s ks w v xs d e is r =
      let takes = takes-found number_of_timer test (timers_of w) s d e in
      let left : timers_of v ≡ but_timer s.timer (timers_of w) = r.others.timers.same ∙ cleared-timers s.timer w.timers w.timers_set in (
        subst (Differ number_of_timer) (sym left) (without-differ number_of_timer (λ x. eqb s.timer x.timer) (timers_of w) d),
        ap (λ ss. map number_of_timer (filter test ss)) left ∙ sym (ap (λ ss. rest_of (map number_of_timer ss)) takes.0) ∙ is,
      )

  expired-one : (k : ℕ) (s : TimerSet) (ks : List ℕ) (w : World) → k ≡ s.timer
      → (timer_in w.timers s.timer).setting ≡ Some (record { value = s.value; handler = s.handler }) → find test (timers_of w) ≡ Some s
      → Differ number_of_timer (timers_of w) → rest_of (map number_of_timer (filter test (timers_of w))) ≡ ks
      → ((v : World) → AreDue ks v → From (TimersDone test) v (for_each ks (expire_timer p)))
      → From (TimersDone test) w (expire_timer p k ▷ for_each ks (expire_timer p))
  unfolding From expire_timer expire
  expired-one k s ks w same setting e d is others said =
      subst (λ i. Kept (TimersDone test) w said (goes_on_with (for_each ks (expire_timer p)) (expire p i (timer_in w.timers i).setting w said))) (sym same)
      (subst (λ set. Kept (TimersDone test) w said (goes_on_with (for_each ks (expire_timer p)) (expire p s.timer set w said))) (sym setting)
      (kept-then (λ before xs after. Released s.handler (clear_timer s.timer w) xs after) (TimersDone test) (TimersDone test)
      (for_each ks (expire_timer p)) w said (release p Own s.handler (Some s.timer) (clear_timer s.timer w) said)
      (λ v u xs ys r t. one-done s w v u xs ys d e r t)
      (moved-from s w said (release p Own s.handler (Some s.timer) (clear_timer s.timer w) said)
      (release-from p s.handler (Some s.timer) (clear_timer s.timer w) said))
      (λ v xs r. others v (still-due s ks w v xs d e is r))))

  expired-found : (k : ℕ) (ks : List ℕ) (w : World) (found : Option TimerSet) → find test (timers_of w) ≡ found → AreDue (k ∷ ks) w
      → ((v : World) → AreDue ks v → From (TimersDone test) v (for_each ks (expire_timer p)))
      → From (TimersDone test) w (expire_timer p k ▷ for_each ks (expire_timer p))
  unfolding rest_of first_of is_empty
  expired-found k ks w None e are others =
      absurd (false≢true (sym (ap is_empty (sym (ap (map number_of_timer) (none-found number_of_timer test (timers_of w) e).0) ∙ are.1))))
  expired-found k ks w (Some s) e are others =
      let takes = takes-found number_of_timer test (timers_of w) s are.0 e in
      expired-one k s ks w (sym (ap (first_of k) (sym (ap (map number_of_timer) takes.0) ∙ are.1)))
      (found-match test w.timers (timers_of w) s (timers_in-match w.timers w.timers_set) e) e are.0 (ap rest_of are.1) others

  due-where : (b : Bool) (x : TimerSet) (xs : List TimerSet) → map number_of_timer (cond b (x ∷ filter test xs) (filter test xs)) ≡ []
      → (map number_of_timer (filter test xs) ≡ [] → find test xs ≡ None) → cond b (Some x) (find test xs) ≡ None
  unfolding is_empty
  due-where true x xs e k = absurd (false≢true (ap is_empty e))
  due-where false x xs e k = k e

  none-due : (ss : List TimerSet) → map number_of_timer (filter test ss) ≡ [] → find test ss ≡ None
  none-due [] e = refl
  none-due (x ∷ xs) e = due-where (test x) x xs e (none-due xs)

  all-expired : (ks : List ℕ) (w : World) → AreDue ks w → From (TimersDone test) w (for_each ks (expire_timer p))
  all-expired [] w are = nothing-done w (none-due (timers_of w) are.1)
  all-expired (k ∷ ks) w are = expired-found k ks w (find test (timers_of w)) refl are (all-expired ks)

  -- ---- the whole step, with its lines

  pub record TimersMoved (a : World) (lines : List Event) (b : World) : Type 0 where
    pub none_due : b.timers_due ≡ []
    pub timers : timers_of b ≡ without test (timers_of a)
    pub events : EventsStay (sight_of a) (sight_of b)
    pub budgets : BudgetsStay (sight_of a) (sight_of b)
    pub outside : OutsideStays (sight_of a) (sight_of b)
    pub clocks : ClocksStay (sight_of a) (sight_of b)
    pub tells : released lines ≡ map (named_handler p) (map handler_of_timer (filter test (timers_of a)))

  abbrev DoneAll : World → List Said → World → Type 0
  DoneAll before said after = TimersDone test before said after × (after.timers_due ≡ [])

  behind-all : (w : World) (said : List Said) (d : Done) → Kept (TimersDone test) w said d → Kept DoneAll w said (goes_on_with (changes no_timers_due) d)
  unfolding Kept
  behind-all w said (done v ys) k = (
    k.0,
    k.1,
    (
      record {
        timers = k.2.timers;
        events = record { same = k.2.events.same; rises = k.2.events.rises };
        budgets = record { same = k.2.budgets.same; same_due = k.2.budgets.same_due };
        outside = record { same_script = k.2.outside.same_script; same_masked = k.2.outside.same_masked; same_kept = k.2.outside.same_kept };
        clocks = record { same_time = k.2.clocks.same_time; low = k.2.clocks.low };
        tells = k.2.tells;
      },
      refl,
    ),
  )

  step-from : (w : World) → AreDue w.timers_due w → From DoneAll w (looks (λ v. for_each v.timers_due (expire_timer p)) ▷ changes no_timers_due)
  unfolding From
  step-from w are said =
      behind-all w said (for_each w.timers_due (expire_timer p) w said) (all-expired w.timers_due w are said)

  timers-over : (w v : World) (xs : List Said) → TimersDone test w xs v → v.timers_due ≡ [] → TimersMoved w (lines_of p xs) (placed_by (lines_of p xs) v)
  timers-over w v xs k none = record {
    none_due = none;
    timers = k.timers;
    events = record { same = k.events.same; rises = k.events.rises };
    budgets = record { same = k.budgets.same; same_due = k.budgets.same_due };
    outside = record { same_script = k.outside.same_script; same_masked = k.outside.same_masked; same_kept = k.outside.same_kept };
    clocks = record { same_time = k.clocks.same_time; low = k.clocks.low };
    tells = released-lines p (map handler_of_timer (filter test (timers_of w))) xs k.tells;
  }

  pub timers-moved : (w : World) → AreDue w.timers_due w → TimersMoved w (timers_due p w).1 (timers_due p w).0
  unfolding From
  timers-moved w are =
      settled-by DoneAll TimersMoved p w ((looks (λ v. for_each v.timers_due (expire_timer p)) ▷ changes no_timers_due) w [])
      (λ v xs k. timers-over w v xs k.0 k.1)
      (step-from w are [])
