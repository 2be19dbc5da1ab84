-- Step 3 of an instant releases the events whose moment has come, in their order, and leaves the others.
use Rattle.std.proofs.Common.{◌≡◌, ℕ, zero, suc, ℤ, ◌≤◌, Bool, true, false, cond, ◌&&◌, eqb, find, filter, length, List}
use Rattle.std.proofs.Common.{[], ◌∷◌, ◌++◌, map, Option, Some, None, refl, sym, ap, subst, ◌∙◌, append-nil, arith}
use Rattle.std.specs.Prelude.{int_le, pos}
use Rattle.trace_text.specs.declared.events.Event.{Event}
use Rattle.profile_image.specs.declared.image.Image.{Image}
use Rattle.profile_machine.specs.declared.world.World.{World}
use Rattle.profile_machine.specs.declared.world.appointments.Appointment.{Appointment}
use Rattle.profile_machine.specs.declared.world.appointments.Due.{Due}
use Rattle.profile_machine.specs.declared.world.appointments.Due.TheVariants as due_for
use Rattle.profile_machine.specs.declared.world.appointments.HandlerOf.{HandlerOf}
use Rattle.profile_machine.specs.declared.world.lines.Said.{Said}
use Rattle.profile_machine.specs.declared.world.lines.Part.TheVariants.{Own}
use Rattle.profile_image.specs.Words.{same_bool, without}
use Rattle.profile_machine.specs.Steps.{Done, done, nothing, goes_on_with, placed_by}
use Rattle.profile_machine.specs.Values.{is_event}
use Rattle.profile_machine.specs.Appointments.{drop_appointment, first_due, is_an_event}
use Rattle.profile_machine.specs.Handlers.{release}
use Rattle.profile_machine.specs.Instant.{is_the_same_due, come_due, take_due, all_due, events_due}
use Rattle.profile_machine.specs.Releases.{named_handler, released}
use Rattle.machine_laws.proofs.Moves.{lines_of}
use Rattle.machine_laws.proofs.Kept.Combinators.{Kept, From}
use Rattle.release_laws.specs.ReleaseLaws.{EventSet, but_event, has_come}
use Rattle.release_laws.proofs.EventLists.{with_event, events_of, Rises, without-rises, dropped-events}
use Rattle.release_laws.proofs.KeyedLists.{Differ, without-differ, takes-found, none-found}
use Rattle.release_laws.proofs.Tellings.{Tells, tells_none, tells_both, released-lines}
use Rattle.release_laws.proofs.Untouched.{sight_of, TimersStay, BudgetsStay, OutsideStays, ClocksStay, timers-stay, budgets-stay}
use Rattle.release_laws.proofs.Untouched.{outside-stays, clocks-stay, timers-then, budgets-then, outside-then, clocks-then}
use Rattle.release_laws.proofs.Release.{Released, release-from}
use Rattle.release_laws.proofs.Effects.{kept-then}
use Rattle.release_laws.proofs.ActionEffects.{settled-by}

abbrev pub number_of_event : EventSet → ℕ
number_of_event s = s.event

abbrev pub handler_of_event : EventSet → HandlerOf
handler_of_event s = s.handler

abbrev Found : Option Appointment → Option EventSet → Type 0
Found None None = Unit {0}
Found (Some a) (Some s) = (a.due ≡ due_for.Event s.event s.handler)
Found _ _ = ⊥

and_false : (b : Bool) → (b && false) ≡ false
and_false true = refl
and_false false = refl

found-alike : (time : ℕ) (due : Due) (moment : ℤ) (rest : Option Appointment) (es : List EventSet) → Found rest (find (has_come time) es)
    → Found (cond (int_le moment (pos time) && same_bool (is_an_event due) true) (Some (record { due = due; moment = moment })) rest)
    (find (has_come time) (with_event due moment es))
found-alike time (due_for.Event n h) moment rest es f = found-where (int_le moment (pos time))
  where
    found-where : (b : Bool)
        → Found (cond (b && true) (Some (record { due = due_for.Event n h; moment = moment })) rest)
        (cond b (Some (record { event = n; handler = h; moment = moment })) (find (has_come time) es))
    found-where true = refl
    found-where false = f
found-alike time (due_for.Delay t) moment rest es f =
    subst (λ b. Found (cond b (Some (record { due = due_for.Delay t; moment = moment })) rest) (find (has_come time) es))
    (sym (and_false (int_le moment (pos time)))) f
found-alike time (due_for.Timeout c) moment rest es f =
    subst (λ b. Found (cond b (Some (record { due = due_for.Timeout c; moment = moment })) rest) (find (has_come time) es))
    (sym (and_false (int_le moment (pos time)))) f
found-alike time (due_for.Trigger t depth) moment rest es f =
    subst (λ b. Found (cond b (Some (record { due = due_for.Trigger t depth; moment = moment })) rest) (find (has_come time) es))
    (sym (and_false (int_le moment (pos time)))) f

first-found : (time : ℕ) (xs : List Appointment) → Found (first_due true time xs) (find (has_come time) (events_of xs))
first-found time [] = tt
first-found time (x ∷ xs) = found-alike time x.due x.moment (first_due true time xs) (events_of xs) (first-found time xs)

-- ---- what the step has done

pub record EventsDone (a : World) (said : List Said) (b : World) : Type 0 where
  pub events : events_of b.appointments ≡ without (has_come a.time) (events_of a.appointments)
  pub rises : Rises a.appointments → Rises b.appointments
  pub timers : TimersStay (sight_of a) (sight_of b)
  pub budgets : BudgetsStay (sight_of a) (sight_of b)
  pub outside : OutsideStays (sight_of a) (sight_of b)
  pub clocks : ClocksStay (sight_of a) (sight_of b)
  pub tells : Tells (map handler_of_event (filter (has_come a.time) (events_of a.appointments))) said

none-done : (w : World) → find (has_come w.time) (events_of w.appointments) ≡ None → EventsDone w [] w
none-done w e =
    let none = none-found number_of_event (has_come w.time) (events_of w.appointments) e in
    record {
      events = sym none.1;
      rises = λ r. r;
      timers = timers-stay (sight_of w);
      budgets = budgets-stay (sight_of w);
      outside = outside-stays (sight_of w);
      clocks = clocks-stay (sight_of w);
      tells = subst (λ ss. Tells (map handler_of_event ss) []) (sym none.0) tells_none;
    }

-- one is dropped and released, and the others are taken
one-done : (s : EventSet) (w v u : World) (xs ys : List Said) → Differ number_of_event (events_of w.appointments)
    → find (has_come w.time) (events_of w.appointments) ≡ Some s
    → Released s.handler (drop_appointment (is_event s.event) w) xs v → EventsDone v ys u → EventsDone w (xs ++ ys) u
one-done s w v u xs ys d e r k =
    let dropped = drop_appointment (is_event s.event) w in
    let takes = takes-found number_of_event (has_come w.time) (events_of w.appointments) s d e in
    let time : v.time ≡ w.time = r.others.clocks.same_time in
    let left : events_of v.appointments ≡ but_event s.event (events_of w.appointments) = r.others.events.same ∙ dropped-events s.event w.appointments in
    record {
      events = k.events ∙ ap (λ n. without (has_come n) (events_of v.appointments)) time ∙ ap (without (has_come w.time)) left ∙ sym takes.1;
      rises = λ h. k.rises (r.others.events.rises (without-rises (λ a. is_event s.event a.due) w.appointments h));
      timers = timers-then (sight_of w) (sight_of v) (sight_of u) (record { same = r.others.timers.same; same_due = r.others.timers.same_due }) k.timers;
      budgets = budgets-then (sight_of w) (sight_of v) (sight_of u) (record { same = r.others.budgets.same; same_due = r.others.budgets.same_due }) k.budgets;
      outside =
          outside-then (sight_of w) (sight_of v) (sight_of u)
          (record { same_script = r.others.outside.same_script; same_masked = r.others.outside.same_masked; same_kept = r.others.outside.same_kept }) k.outside;
      clocks = clocks-then (sight_of w) (sight_of v) (sight_of u) (record { same_time = r.others.clocks.same_time; low = r.others.clocks.low }) k.clocks;
      tells = subst (λ ss. Tells (map handler_of_event ss) (xs ++ ys)) (sym takes.0)
          (tells_both (s.handler ∷ []) (map handler_of_event (filter (has_come w.time) (but_event s.event (events_of w.appointments)))) xs ys r.tells
          (subst (λ ss. Tells (map handler_of_event ss) ys)
          (ap (λ n. filter (has_come n) (events_of v.appointments)) time ∙ ap (filter (has_come w.time)) left) k.tells));
    }

-- fewer are due
fewer : (s : EventSet) (w v : World) (xs : List Said) (fuel : ℕ) → Differ number_of_event (events_of w.appointments)
    → find (has_come w.time) (events_of w.appointments) ≡ Some s
    → Released s.handler (drop_appointment (is_event s.event) w) xs v → length (filter (has_come w.time) (events_of w.appointments)) ≤ suc fuel
    → length (filter (has_come v.time) (events_of v.appointments)) ≤ fuel
fewer s w v xs fuel d e r most =
    let takes = takes-found number_of_event (has_come w.time) (events_of w.appointments) s d e in
    let left : events_of v.appointments ≡ but_event s.event (events_of w.appointments) = r.others.events.same ∙ dropped-events s.event w.appointments in
    let same : length (filter (has_come v.time) (events_of v.appointments)) ≡ length (filter (has_come w.time) (but_event s.event (events_of w.appointments))) =
    ap (λ n. length (filter (has_come n) (events_of v.appointments))) r.others.clocks.same_time ∙ ap (λ es. length (filter (has_come w.time) es)) left in
    let all : length (filter (has_come w.time) (events_of w.appointments))
    ≡ suc (length (filter (has_come w.time) (but_event s.event (events_of w.appointments)))) =
    ap length takes.0 in
    omega (arith, same, all, most)

differ-left : (s : EventSet) (w v : World) (xs : List Said) → Differ number_of_event (events_of w.appointments)
    → Released s.handler (drop_appointment (is_event s.event) w) xs v → Differ number_of_event (events_of v.appointments)
differ-left s w v xs d r =
    subst (Differ number_of_event) (sym (r.others.events.same ∙ dropped-events s.event w.appointments))
    (without-differ number_of_event (λ x. eqb s.event x.event) (events_of w.appointments) d)

abbrev IsEnough : ℕ → World → Type 0
IsEnough fuel w = Differ number_of_event (events_of w.appointments) × (length (filter (has_come w.time) (events_of w.appointments)) ≤ fuel)

nothing-done : (w : World) → find (has_come w.time) (events_of w.appointments) ≡ None → From EventsDone w nothing
unfolding From Kept
nothing-done w e said = ([], sym (append-nil said), none-done w e)

some-left : (b : Bool) (s : EventSet) (ss : List EventSet) (rest : Option EventSet) → length (cond b (s ∷ ss) ss) ≤ 0 → (length ss ≤ 0 → rest ≡ None)
    → cond b (Some s) rest ≡ None
some-left true s ss rest l k = absurd (omega (arith, l))
some-left false s ss rest l k = k l

none_of : (time : ℕ) (es : List EventSet) → length (filter (has_come time) es) ≤ 0 → find (has_come time) es ≡ None
none_of time [] l = refl
none_of time (s ∷ es) l = some-left (has_come time s) s (filter (has_come time) es) (find (has_come time) es) l (none_of time es)

-- from the world before the event was dropped
moved-from : (s : EventSet) (w : World) (said : List Said) (d : Done) → Kept (Released s.handler) (drop_appointment (is_event s.event) w) said d
    → Kept (λ before xs after. Released s.handler (drop_appointment (is_event s.event) w) xs after) w said d
unfolding Kept
moved-from s w said (done v ys) k = k

module _ (p : Image) where
  taken-one : (fuel : ℕ) (a : Appointment) (s : EventSet) (w : World) → a.due ≡ due_for.Event s.event s.handler
      → find (has_come w.time) (events_of w.appointments) ≡ Some s → IsEnough (suc fuel) w
      → ((v : World) → IsEnough fuel v → From EventsDone v (all_due fuel p true)) → From EventsDone w (take_due p (all_due fuel p true) (Some a))
  unfolding From come_due
  taken-one fuel a s w is e enough others said =
      subst (λ due. Kept EventsDone w said (goes_on_with (all_due fuel p true) (come_due p due (drop_appointment (is_the_same_due due) w) said))) (sym is)
      (kept-then (λ before xs after. Released s.handler (drop_appointment (is_event s.event) w) xs after) EventsDone EventsDone (all_due fuel p true) w said
      (release p Own s.handler (Some s.event) (drop_appointment (is_event s.event) w) said)
      (λ v u xs ys r k. one-done s w v u xs ys enough.0 e r k)
      (moved-from s w said (release p Own s.handler (Some s.event) (drop_appointment (is_event s.event) w) said)
      (release-from p s.handler (Some s.event) (drop_appointment (is_event s.event) w) said))
      (λ v xs r. others v (differ-left s w v xs enough.0 r, fewer s w v xs fuel enough.0 e r enough.1)))

  taken-found : (fuel : ℕ) (found : Option Appointment) (set : Option EventSet) (w : World) → Found found set
      → find (has_come w.time) (events_of w.appointments) ≡ set → IsEnough (suc fuel) w
      → ((v : World) → IsEnough fuel v → From EventsDone v (all_due fuel p true)) → From EventsDone w (take_due p (all_due fuel p true) found)
  taken-found fuel None None w f e enough others = nothing-done w e
  taken-found fuel (Some a) (Some s) w f e enough others = taken-one fuel a s w f e enough others
  taken-found fuel None (Some s) w f e enough others = absurd f
  taken-found fuel (Some a) None w f e enough others = absurd f

  looked : (fuel : ℕ) (w : World) → From EventsDone w (take_due p (all_due fuel p true) (first_due true w.time w.appointments))
      → From EventsDone w (all_due (suc fuel) p true)
  unfolding From all_due
  looked fuel w k said = k said

  none-left : (w : World) → length (filter (has_come w.time) (events_of w.appointments)) ≤ 0 → find (has_come w.time) (events_of w.appointments) ≡ None
  none-left w most = none_of w.time (events_of w.appointments) most

  no-fuel : (w : World) → find (has_come w.time) (events_of w.appointments) ≡ None → From EventsDone w (all_due 0 p true)
  unfolding all_due
  no-fuel w e = nothing-done w e

  taken : (fuel : ℕ) (w : World) → IsEnough fuel w → From EventsDone w (all_due fuel p true)
  taken zero w enough = no-fuel w (none-left w enough.1)
  taken (suc fuel) w enough =
      looked fuel w
      (taken-found fuel (first_due true w.time w.appointments) (find (has_come w.time) (events_of w.appointments)) w
      (first-found w.time w.appointments) refl enough (taken fuel))

-- ---- the whole step, with its lines

pub record EventsMoved (p : Image) (a : World) (lines : List Event) (b : World) : Type 0 where
  pub events : events_of b.appointments ≡ without (has_come a.time) (events_of a.appointments)
  pub rises : Rises a.appointments → Rises b.appointments
  pub timers : TimersStay (sight_of a) (sight_of b)
  pub budgets : BudgetsStay (sight_of a) (sight_of b)
  pub outside : OutsideStays (sight_of a) (sight_of b)
  pub clocks : ClocksStay (sight_of a) (sight_of b)
  pub tells : released lines ≡ map (named_handler p) (map handler_of_event (filter (has_come a.time) (events_of a.appointments)))

events-over : (p : Image) (w v : World) (xs : List Said) → EventsDone w xs v → EventsMoved p w (lines_of p xs) (placed_by (lines_of p xs) v)
events-over p w v xs k = record {
  events = k.events;
  rises = k.rises;
  timers = record { same = k.timers.same; same_due = k.timers.same_due };
  budgets = record { same = k.budgets.same; same_due = k.budgets.same_due };
  outside = record { same_script = k.outside.same_script; same_masked = k.outside.same_masked; same_kept = k.outside.same_kept };
  clocks = record { same_time = k.clocks.same_time; low = k.clocks.low };
  tells = released-lines p (map handler_of_event (filter (has_come w.time) (events_of w.appointments))) xs k.tells;
}

due-most : (test : EventSet → Bool) (due : Due) (moment : ℤ) (es : List EventSet) (n : ℕ) → length (filter test es) ≤ n
    → length (filter test (with_event due moment es)) ≤ suc n
due-most test (due_for.Event k h) moment es n l =
    most-where (test (record { event = k; handler = h; moment = moment })) (record { event = k; handler = h; moment = moment }) (filter test es) n l
  where
    most-where : (b : Bool) (s : EventSet) (ss : List EventSet) (n : ℕ) → length ss ≤ n → length (cond b (s ∷ ss) ss) ≤ suc n
    most-where true s ss n l = omega (arith, l)
    most-where false s ss n l = omega (arith, l)
due-most test (due_for.Delay t) moment es n l = omega (arith, l)
due-most test (due_for.Timeout c) moment es n l = omega (arith, l)
due-most test (due_for.Trigger t depth) moment es n l = omega (arith, l)

all-most : (test : EventSet → Bool) (xs : List Appointment) → length (filter test (events_of xs)) ≤ length xs
all-most test [] = omega arith
all-most test (x ∷ xs) = due-most test x.due x.moment (events_of xs) (length xs) (all-most test xs)

pub events-moved : (p : Image) (w : World) → Differ number_of_event (events_of w.appointments) → EventsMoved p w (events_due p w).1 (events_due p w).0
unfolding From
events-moved p w d =
    settled-by EventsDone (EventsMoved p) p w (all_due (length w.appointments) p true w []) (λ v xs k. events-over p w v xs k)
    (taken p (length w.appointments) w (d, all-most (has_come w.time) w.appointments) [])
