-- Each change that steps are made of keeps what is known of marks.
use Rattle.std.proofs.Common.{◌≡◌, inl, ℕ, suc, ◌<◌, ◌≤◌, Bool, true, false, cond, not, eqb, ◌&&◌, ◌||◌}
use Rattle.std.proofs.Common.{List, [], ◌∷◌, Option, Some, None, refl, sym, ap, subst, ◌∙◌, arith, eq-eqb}
use Rattle.std.proofs.lemmas.Bool.{and_parts, eqb-true, false≢true}
use Rattle.std.specs.Prelude.{find, is_some, is_none, leb, ℤ, int_lt, unwrap_or}
use Rattle.std.specs.List.{list_any}
use Rattle.ann_base.specs.declared.identities.ObjectNo.{ObjectNo}
use Rattle.ann_base.specs.declared.identities.RegionNo.{RegionNo}
use Rattle.ann_base.specs.declared.identities.TaskNo.{TaskNo}
use Rattle.trace_text.specs.declared.events.Who.{Who}
use Rattle.trace_text.specs.declared.events.Who.TheVariants as who
use Rattle.profile_image.specs.declared.image.Image.{Image}
use Rattle.profile_image.specs.declared.numbers.ScopeNo.{ScopeNo}
use Rattle.profile_image.specs.declared.numbers.StatementNo.{StatementNo}
use Rattle.profile_machine.specs.declared.run_data.Leaving.{Leaving}
use Rattle.profile_machine.specs.declared.world.World.{World}
use Rattle.profile_machine.specs.declared.world.appointments.Appointment.{Appointment}
use Rattle.profile_machine.specs.declared.world.appointments.Due.{Due}
use Rattle.profile_machine.specs.declared.world.appointments.Due.TheVariants as due_for
use Rattle.profile_machine.specs.declared.world.appointments.Registered.{Registered}
use Rattle.profile_machine.specs.declared.world.marks.Frame.{Frame}
use Rattle.profile_machine.specs.declared.world.marks.Mark.{Mark}
use Rattle.profile_machine.specs.declared.world.marks.Mark.TheVariants.{Scope, Handled, InProtected, InAccept, Abortable, InInitialize, InFinalize, InAssign}
use Rattle.profile_machine.specs.declared.world.marks.Purpose.{Purpose}
use Rattle.profile_machine.specs.declared.world.marks.Purpose.TheVariants as opened_for
use Rattle.profile_machine.specs.declared.world.marks.ScopeMark.{ScopeMark}
use Rattle.profile_machine.specs.declared.world.scopes.Beginning.{Beginning}
use Rattle.profile_machine.specs.declared.world.scopes.Located.{Located}
use Rattle.profile_machine.specs.declared.world.tasks.Task.{Task}
use Rattle.profile_image.specs.Words.{same_who, without}
use Rattle.world_tables.specs.Lists.{first_of}
use Rattle.profile_image.specs.Program.{scope_of}
use Rattle.profile_machine.specs.Tasks.{nobody, is_who, found_task, with_frames}
use Rattle.profile_machine.specs.Frames.{frames_of, new_frame, edit_first, edit_top, goes_on, push, pop, with_mark}
use Rattle.profile_machine.specs.Scopes.{begin_scope, draw_region, open_scope, next_id, region_of_next, new_scope_mark}
use Rattle.profile_machine.specs.Appointments.{is_trigger_of, put_appointment, appoint, drop_appointment}
use Rattle.profile_machine.specs.Protected.{new_protected_mark}
use Rattle.profile_machine.specs.Controlled.{is_number, assigns_to, is_assigning_to, is_being_assigned, top_region}
use Rattle.profile_machine.specs.Controlled.{registered_as, no_longer_registered, edit_top_scope, edit_scope_mark}
use Rattle.profile_machine.specs.Tasking.{is_task_scope, add_task, being_left_mark, left_so_frame}
use Rattle.profile_machine.specs.WellFormed.{awaits_trigger}
use Rattle.machine_laws.proofs.Moves.{MoveRelation}
use Rattle.machine_laws.proofs.FineMoves.{edit_task-drawn, Anybody, each-anybody, gone_on}
use Rattle.machine_laws.proofs.FinestMoves.{natures, action_first, action_in}
use Rattle.machine_laws.proofs.QueueLemmas.{by_test}
use Rattle.line_laws.proofs.Exits.TaskEdits.{one_of}
use Rattle.world_laws.proofs.Marks.MarkFacts.{Begun, Calm, DrawnTo, HasBegun, StandsAt, Unarmed, AwaitsAt, AllDrawn, own_scope_in, RightMarks}
use Rattle.world_laws.proofs.Marks.MarkFacts.{FinalizesRightly, below_finalizes, finalizes_here, is_a_trigger, nature, GoodMarks, Still}
use Rattle.world_laws.proofs.Marks.FineMoves.{FineMoves, RegionMoves, TockMoves}
use Rattle.world_laws.proofs.Marks.TaskFacts.{all-map, all-both, found-test, fewer-any, all-found}
use Rattle.world_laws.proofs.Marks.TaskMoves.{LeadsTo, still-same, stays-good, leads-then, task-leads, abort-leads, runnable-leads}
use Rattle.world_laws.proofs.Marks.TaskMoves.{blocked-leads, waiting-leads, top-leads, push-leads, part-leads, finalize-leads, own_scope-leads}
use Rattle.world_laws.proofs.Marks.TaskMoves.{pop-leads, strike-leads, triggered-leads, waited-leads, added-leads, forgotten-leads}
use Rattle.world_laws.proofs.Queues.Listed.{AllTasks}

abbrev pub GoodBehind : MoveRelation
GoodBehind w xs v = GoodMarks v

-- ---- appointments

swap : (a b c : Bool) → (a || (b || c)) ≡ (b || (a || c))
swap true true c = refl
swap true false c = refl
swap false true c = refl
swap false false c = refl

put-step : (b : Bool) (q : Appointment → Bool) (new a : Appointment) (rest put : List Appointment) → list_any q put ≡ (q new || list_any q rest)
    → list_any q (cond b (new ∷ a ∷ rest) (a ∷ put)) ≡ (q new || list_any q (a ∷ rest))
put-step true q new a rest put onward = refl
put-step false q new a rest put onward = ap (λ b. q a || b) onward ∙ swap (q a) (q new) (list_any q rest)

put-any : (q : Appointment → Bool) (new : Appointment) (xs : List Appointment) → list_any q (put_appointment new xs) ≡ (q new || list_any q xs)
put-any q new [] = refl
put-any q new (a ∷ rest) = put-step (int_lt new.moment a.moment) q new a rest (put_appointment new rest) (put-any q new rest)

is_other : (t : TaskNo) (d : ℕ) (due : Due) → is_a_trigger due ≡ false → is_trigger_of t d due ≡ false
is_other t d (due_for.Event n h) e = refl
is_other t d (due_for.Delay u) e = refl
is_other t d (due_for.Timeout c) e = refl
is_other t d (due_for.Trigger u k) e = absurd (false≢true (sym e))

appoint-leads : (due : Due) (moment : ℤ) (w : World) → GoodMarks w → is_a_trigger due ≡ false → LeadsTo w [] (appoint due moment w)
appoint-leads due moment w good other = (
  record {
    tasks_right = good.tasks_right;
    agent_right = good.agent_right;
    waits = good.waits;
    numbers = good.numbers;
    single = good.single;
    triggers = λ t d is.
        good.triggers t d
        (sym (put-any (λ a. is_trigger_of t d a.due) (record { due = due; moment = moment }) w.appointments
        ∙ ap (λ b. b || list_any (λ (a : Appointment). is_trigger_of t d a.due) w.appointments) (is_other t d due other))
        ∙ is);
    objects = good.objects;
  },
  record {
    more = omega arith;
    marked = λ n h. h;
    fewer =
        λ t d none. put-any (λ a. is_trigger_of t d a.due) (record { due = due; moment = moment }) w.appointments
        ∙ ap (λ b. b || list_any (λ (a : Appointment). is_trigger_of t d a.due) w.appointments) (is_other t d due other) ∙ none;
  },
)

drop-leads : (test : Due → Bool) (w : World) → GoodMarks w → LeadsTo w [] (drop_appointment test w)
drop-leads test w good = (
  record {
    tasks_right = good.tasks_right;
    agent_right = good.agent_right;
    waits = good.waits;
    numbers = good.numbers;
    single = good.single;
    triggers = λ t d is. good.triggers t d (fewer-any (λ (a : Appointment). is_trigger_of t d a.due) (λ a. test a.due) w.appointments is);
    objects = good.objects;
  },
  record {
    more = omega arith;
    marked = λ n h. h;
    fewer = λ t d none.
        by_test (list_any (λ (a : Appointment). is_trigger_of t d a.due) (without (λ (a : Appointment). test a.due) w.appointments))
        (λ e. absurd (false≢true (sym none ∙ fewer-any (λ (a : Appointment). is_trigger_of t d a.due) (λ a. test a.due) w.appointments e))) (λ e. e);
  },
)

or-case : {P : Type 0} (a b : Bool) → (a ≡ true → P) → (b ≡ true → P) → (a || b) ≡ true → P
or-case true b k l h = k refl
or-case false b k l h = l h

named-drawn : (w : World) (t : TaskNo) (u : Task) (name : Who) → u.who ≡ name → same_who (who.Task t) name ≡ true → DrawnTo w.drawn.tasks name
    → t.0 < w.drawn.tasks
named-drawn w t u (who.Task k) is same low = subst (λ n. n < w.drawn.tasks) (sym (eqb-true t.0 k.0 same)) low
named-drawn w t u who.Agent is same low = absurd low

trigger-here : (w : World) (t : TaskNo) (depth : ℕ) (good : GoodMarks w) (found : Option Task) → found_task (who.Task t) w.tasks ≡ found
    → StandsAt depth (unwrap_or found nobody).frames → HasBegun (who.Task t) (unwrap_or found nobody)
    → (t.0 < w.drawn.tasks) × AwaitsAt depth (unwrap_or found nobody)
trigger-here w t depth good None e h begun = absurd (false≢true h.0)
trigger-here w t depth good (Some u) e h begun =
    let is = found-test (is_who (who.Task t)) u w.tasks e in
    (named-drawn w t u u.who refl is (all-found (λ x. DrawnTo w.drawn.tasks x.who) (is_who (who.Task t)) u w.tasks good.numbers e), (h, begun is))

trigger-good : (t : TaskNo) (depth : ℕ) (moment : ℤ) (w : World) → GoodMarks w → StandsAt depth (frames_of w (who.Task t)) → Begun (who.Task t) w
    → GoodMarks (appoint (due_for.Trigger t depth) moment w)
trigger-good t depth moment w good awaits begun = record {
  tasks_right = good.tasks_right;
  agent_right = good.agent_right;
  waits = good.waits;
  numbers = good.numbers;
  single = good.single;
  triggers = λ u d is.
      or-case (is_trigger_of u d (due_for.Trigger t depth)) (list_any (λ (a : Appointment). is_trigger_of u d a.due) w.appointments)
      (λ e. let both = and_parts (eqb u.0 t.0) (eqb d depth) e in
      let one : t ≡ u = ap (λ n. record { 0 = n }) (sym (eqb-true u.0 t.0 both.0)) in
      let deep : depth ≡ d = sym (eqb-true d depth both.1) in
      subst (λ x. (x.0 < w.drawn.tasks) × AwaitsAt d (one_of w.tasks w.agent (who.Task x))) one
      (subst (λ k. (t.0 < w.drawn.tasks) × AwaitsAt k (one_of w.tasks w.agent (who.Task t))) deep
      (trigger-here w t depth good (found_task (who.Task t) w.tasks) refl awaits begun)))
      (λ e. good.triggers u d e)
      (sym (put-any (λ a. is_trigger_of u d a.due) (record { due = due_for.Trigger t depth; moment = moment }) w.appointments) ∙ is);
  objects = good.objects;
}

-- ---- the register

four : (a b c d : Bool) → (a && b && c && d) ≡ true → (a ≡ true) × (b ≡ true) × (c ≡ true) × (d ≡ true)
four true true true true h = (refl, refl, refl, refl)
four true true true false h = absurd (false≢true h)
four true true false d h = absurd (false≢true h)
four true false c d h = absurd (false≢true h)
four false b c d h = absurd (false≢true h)

all_four : (a b c d : Bool) → a ≡ true → b ≡ true → c ≡ true → d ≡ true → (a && b && c && d) ≡ true
all_four true true true true p q r s = refl
all_four true true true false p q r s = s
all_four true true false d p q r s = r
all_four true false c d p q r s = q
all_four false b c d p q r s = p

higher : (n drawn : ℕ) → leb n drawn ≡ true → leb n (suc drawn) ≡ true
higher n drawn e = grind (arith, e)

not_next : (n drawn : ℕ) → leb n drawn ≡ true → eqb n (suc drawn) ≡ false
not_next n drawn e = by_test (eqb n (suc drawn)) (λ k. let same : n ≡ suc drawn = eqb-true n (suc drawn) k in grind (arith, same, e)) (λ k. k)

and-more : (a b c : Bool) → (b ≡ true → c ≡ true) → (a && b) ≡ true → (a && c) ≡ true
and-more true b c k h = k h
and-more false b c k h = h

some-more : (b : Bool) (r : Registered) (rest : Option Registered) → is_some rest ≡ true → is_some (cond b (Some r) rest) ≡ true
some-more true r rest h = refl
some-more false r rest h = h

first-none : (a b : Bool) → (a || b) ≡ false → a ≡ false
first-none true b e = e
first-none false b e = refl

second-none : (a b : Bool) → (a || b) ≡ false → b ≡ false
second-none true b e = absurd (false≢true (sym e))
second-none false b e = e

module _ (registered : List Registered) (drawn : ℕ) where
  registered-here : (r : Registered) → r.object ≡ suc drawn → (n : ℕ) (mark : Mark) → finalizes_here registered drawn n mark ≡ true
      → finalizes_here (r ∷ registered) (suc drawn) n mark ≡ true
  registered-here r is n (Scope m) h =
      let k = four m.being_left (is_some m.region) (is_none (find (is_number n) registered)) (leb n drawn) h in
      all_four m.being_left (is_some m.region) (is_none (find (is_number n) (r ∷ registered))) (leb n (suc drawn)) k.0 k.1
      (ap (λ b. is_none (cond b (Some r) (find (is_number n) registered))) (ap (eqb n) is ∙ not_next n drawn k.3) ∙ k.2) (higher n drawn k.3)
  registered-here r is n (Handled s) h = h
  registered-here r is n (InProtected m) h = h
  registered-here r is n (InAccept m) h = h
  registered-here r is n (Abortable m) h = h
  registered-here r is n (InInitialize l) h = h
  registered-here r is n (InFinalize o) h = h
  registered-here r is n (InAssign m) h =
      and-more (eqb n m.target) (is_some (find (is_number n) registered)) (is_some (find (is_number n) (r ∷ registered)))
      (some-more (eqb n r.object) r (find (is_number n) registered)) h

-- what stays so of each mark that is not left out stays so of marks of which none is left out
module _ (registered behind : List Registered) (drawn later : ℕ) (out : Mark → Bool)
    (here : (n : ℕ) (mark : Mark) → out mark ≡ false → finalizes_here registered drawn n mark ≡ true → finalizes_here behind later n mark ≡ true) where
  below-here : (n : ℕ) (fs : List Frame) → list_any (λ f. out f.mark) fs ≡ false → below_finalizes registered drawn n fs ≡ true
      → below_finalizes behind later n fs ≡ true
  below-here n [] none h = h
  below-here n (f ∷ fs) none h = here n f.mark (first-none (out f.mark) (list_any (λ (x : Frame). out x.mark) fs) none) h

  finalizes-here : (fs : List Frame) → list_any (λ f. out f.mark) fs ≡ false → FinalizesRightly registered drawn fs → FinalizesRightly behind later fs
  finalizes-here [] none h = tt
  finalizes-here (f ∷ fs) none h =
      let rest = second-none (out f.mark) (list_any (λ (x : Frame). out x.mark) fs) none in
      ((λ n e. below-here n fs rest (h.0 n e)), finalizes-here fs rest h.1)

  marks-here : (t : Task) → list_any (λ f. out f.mark) t.frames ≡ false → RightMarks registered drawn t → RightMarks behind later t
  marks-here t none h = record { struck = h.struck; finalizes = finalizes-here t.frames none h.finalizes }

none_left-step : (b c : Bool) (q : Registered → Bool) (y : Registered) (ys left : List Registered) → q y ≡ c → (find q ys ≡ None → find q left ≡ None)
    → cond c (Some y) (find q ys) ≡ None → find q (cond b (y ∷ left) left) ≡ None
none_left-step b true q y ys left e onward h = cc
none_left-step true false q y ys left e onward h = ap (λ k. cond k (Some y) (find q left)) e ∙ onward h
none_left-step false false q y ys left e onward h = onward h

none-left : (q p : Registered → Bool) (xs : List Registered) → find q xs ≡ None → find q (without p xs) ≡ None
none-left q p [] h = h
none-left q p (y ∷ ys) h = none_left-step (not (p y)) (q y) q y ys (without p ys) refl (λ k. none-left q p ys k) h

none-is : (o : Option Registered) → is_none o ≡ true → o ≡ None
none-is None e = refl
none-is (Some r) e = absurd (false≢true e)

-- another than the one that is taken out is found as before
some_left-step : (b c : Bool) (o n : ℕ) (y : Registered) (ys left : List Registered) → is_number o y ≡ b → is_number n y ≡ c → eqb o n ≡ false
    → (is_some (find (is_number n) ys) ≡ true → is_some (find (is_number n) left) ≡ true)
    → is_some (cond c (Some y) (find (is_number n) ys)) ≡ true → is_some (find (is_number n) (cond (not b) (y ∷ left) left)) ≡ true
some_left-step true true o n y ys left gone is apart onward h =
    absurd (let one : o ≡ n = eqb-true o y.object gone ∙ sym (eqb-true n y.object is) in false≢true (sym apart ∙ eq-eqb o n one))
some_left-step true false o n y ys left gone is apart onward h = onward h
some_left-step false true o n y ys left gone is apart onward h = ap (λ k. is_some (cond k (Some y) (find (is_number n) left))) is
some_left-step false false o n y ys left gone is apart onward h = ap (λ k. is_some (cond k (Some y) (find (is_number n) left))) is ∙ onward h

some-left : (o n : ℕ) (xs : List Registered) → eqb o n ≡ false → is_some (find (is_number n) xs) ≡ true
    → is_some (find (is_number n) (without (is_number o) xs)) ≡ true
some-left o n [] apart h = h
some-left o n (y ∷ ys) apart h =
    some_left-step (is_number o y) (is_number n y) o n y ys (without (is_number o) ys) refl refl apart (λ k. some-left o n ys apart k) h

other-target : (o n target : ℕ) → eqb o target ≡ false → eqb n target ≡ true → eqb o n ≡ false
other-target o n target apart same = ap (eqb o) (eqb-true n target same) ∙ apart

-- a mark that does not assign to the object that is taken out
unregistered-here : (registered : List Registered) (drawn o : ℕ) (n : ℕ) (mark : Mark) → assigns_to o mark ≡ false
    → finalizes_here registered drawn n mark ≡ true → finalizes_here (without (is_number o) registered) drawn n mark ≡ true
unregistered-here registered drawn o n (Scope m) apart h =
    let k = four m.being_left (is_some m.region) (is_none (find (is_number n) registered)) (leb n drawn) h in
    all_four m.being_left (is_some m.region) (is_none (find (is_number n) (without (is_number o) registered))) (leb n drawn) k.0 k.1
    (ap is_none (none-left (is_number n) (is_number o) registered (none-is (find (is_number n) registered) k.2))) k.3
unregistered-here registered drawn o n (Handled s) apart h = h
unregistered-here registered drawn o n (InProtected m) apart h = h
unregistered-here registered drawn o n (InAccept m) apart h = h
unregistered-here registered drawn o n (Abortable m) apart h = h
unregistered-here registered drawn o n (InInitialize l) apart h = h
unregistered-here registered drawn o n (InFinalize k) apart h = h
unregistered-here registered drawn o n (InAssign m) apart h =
    let k = and_parts (eqb n m.target) (is_some (find (is_number n) registered)) h in
    ap (λ b. b && is_some (find (is_number n) (without (is_number o) registered))) k.0 ∙ some-left o n registered (other-target o n m.target apart k.0) k.1

later-objects : (drawn : ℕ) (rs : List Registered) → AllDrawn drawn rs → AllDrawn (suc drawn) rs
later-objects drawn [] h = tt
later-objects drawn (r ∷ rs) h = let low = h.0 in (omega (arith, low), later-objects drawn rs h.1)

left-objects-step : (drawn : ℕ) (b : Bool) (r : Registered) (left : List Registered) → r.object ≤ drawn → AllDrawn drawn left
    → AllDrawn drawn (cond b (r ∷ left) left)
left-objects-step drawn true r left low h = (low, h)
left-objects-step drawn false r left low h = h

left-objects : (drawn : ℕ) (test : Registered → Bool) (rs : List Registered) → AllDrawn drawn rs → AllDrawn drawn (without test rs)
left-objects drawn test [] h = tt
left-objects drawn test (r ∷ rs) h = left-objects-step drawn (not (test r)) r (without test rs) h.0 (left-objects drawn test rs h.1)

abbrev no_mark : Mark → Bool
no_mark mark = false

no_mark-any : (fs : List Frame) → list_any (λ f. no_mark f.mark) fs ≡ false
no_mark-any [] = refl
no_mark-any (f ∷ fs) = no_mark-any fs

register-leads : (region : RegionNo) (l : Located) (w : World) → GoodMarks w → LeadsTo w [] (registered_as (suc w.drawn.controlled) region l w)
register-leads region l w good =
    let c = w.drawn.controlled in
    let r : Registered = record { object = suc c; region = region; located = l } in
    let here : (n : ℕ) (mark : Mark) → no_mark mark ≡ false → finalizes_here w.registered c n mark ≡ true
    → finalizes_here (r ∷ w.registered) (suc c) n mark ≡ true =
    λ n mark none. registered-here w.registered c r refl n mark in (
      record {
        tasks_right =
            all-map (RightMarks w.registered c) (RightMarks (r ∷ w.registered) (suc c)) w.tasks
            (λ t h. marks-here w.registered (r ∷ w.registered) c (suc c) no_mark here t (no_mark-any t.frames) h) good.tasks_right;
        agent_right = marks-here w.registered (r ∷ w.registered) c (suc c) no_mark here w.agent (no_mark-any w.agent.frames) good.agent_right;
        waits = good.waits;
        numbers = good.numbers;
        single = good.single;
        triggers = good.triggers;
        objects = (omega arith, later-objects c w.registered good.objects);
      },
      still-same w,
    )

-- nobody assigns to an object
none_assigns : (o : ℕ) (ts : List Task) → list_any (is_assigning_to o) ts ≡ false → AllTasks (λ t. is_assigning_to o t ≡ false) ts
none_assigns o [] none = tt
none_assigns o (t ∷ ts) none = (
  first-none (is_assigning_to o t) (list_any (is_assigning_to o) ts) none,
  none_assigns o ts (second-none (is_assigning_to o t) (list_any (is_assigning_to o) ts) none),
)

unregister-leads : (o : ℕ) (w : World) → GoodMarks w → is_being_assigned w o ≡ false → LeadsTo w [] (no_longer_registered o w)
unregister-leads o w good free =
    let c = w.drawn.controlled in
    let left = without (is_number o) w.registered in
    let here = unregistered-here w.registered c o in
    let tasks = list_any (is_assigning_to o) w.tasks in
    let agent = is_assigning_to o w.agent in (
      record {
        tasks_right =
            all-both (λ t. is_assigning_to o t ≡ false) (RightMarks w.registered c) (RightMarks left c) w.tasks
            (λ t none h. marks-here w.registered left c c (assigns_to o) here t none h) (none_assigns o w.tasks (first-none tasks agent free)) good.tasks_right;
        agent_right = marks-here w.registered left c c (assigns_to o) here w.agent (second-none tasks agent free) good.agent_right;
        waits = good.waits;
        numbers = good.numbers;
        single = good.single;
        triggers = good.triggers;
        objects = left-objects c (is_number o) w.registered good.objects;
      },
      still-same w,
    )

-- ---- marks

scope-nature : (f : ScopeMark → ScopeMark) → ((m : ScopeMark) → (f m).purpose ≡ m.purpose) → (mark : Mark) → nature (edit_scope_mark f mark) ≡ nature mark
scope-nature f same (Scope m) = ap (λ purpose. record { part = None; finalizes = None; own_scope = is_task_scope purpose }) (same m)
scope-nature f same (Handled s) = refl
scope-nature f same (InProtected m) = refl
scope-nature f same (InAccept m) = refl
scope-nature f same (Abortable m) = refl
scope-nature f same (InInitialize l) = refl
scope-nature f same (InFinalize o) = refl
scope-nature f same (InAssign m) = refl

gone-leads : (name : Who) (onward : Option StatementNo) (w : World) → GoodMarks w → LeadsTo w [] (gone_on name onward w)
gone-leads name onward w good = top-leads name (goes_on onward) w good (λ x. refl) (λ x. refl)

leaving-leads : (name : Who) (leaving : Leaving) (w : World) → GoodMarks w
    → LeadsTo w [] (edit_top name (left_so_frame leaving) (edit_top_scope name being_left_mark w))
leaving-leads name leaving w good =
    let v = edit_top_scope name being_left_mark w in
    let first =
    top-leads name (λ x. with_mark (edit_scope_mark being_left_mark x.mark) x) w good (λ x. scope-nature being_left_mark (λ m. refl) x.mark) (λ x. refl) in
    leads-then w v (edit_top name (left_so_frame leaving) v) first (top-leads name (left_so_frame leaving) v first.0 (λ x. refl) (λ x. refl))

region-leads : (kept : Bool) (w : World) → GoodMarks w → LeadsTo w [] (draw_region kept w)
region-leads true w good = (good, still-same w)
region-leads false w good = stays-good w good

scope-leads : (p : Image) (name : Who) (scope : ScopeNo) (b : Beginning) (purpose : Purpose) (w : World) → GoodMarks w → is_task_scope purpose ≡ false
    → LeadsTo w [] (open_scope p name scope b purpose w)
scope-leads p name scope b purpose w good within =
    let begun = begin_scope p name scope b w in
    let drawn = draw_region (scope_of p scope).kept begun in
    let f = new_frame (new_scope_mark (next_id w) (region_of_next (scope_of p scope).kept w) purpose) (scope_of p scope).first in
    let first = region-leads (scope_of p scope).kept begun good in
    leads-then w drawn (push name f drawn) first (push-leads name f drawn first.0 refl (ap own_scope_in within) refl refl)

region-unarmed : (name : Who) (kept : Bool) (w : World) → Unarmed name w → Unarmed name (draw_region kept w)
region-unarmed (who.Task n) true w none = none
region-unarmed (who.Task n) false w none = none
region-unarmed who.Agent kept w none = tt

begun-unarmed : (p : Image) (name other : Who) (scope : ScopeNo) (b : Beginning) (w : World) → Unarmed name w → Unarmed name (begin_scope p other scope b w)
begun-unarmed p (who.Task n) other scope b w none = none
begun-unarmed p who.Agent other scope b w none = tt

own-leads : (p : Image) (name : Who) (scope : ScopeNo) (b : Beginning) (w : World) → GoodMarks w → Unarmed name w
    → LeadsTo w [] (open_scope p name scope b opened_for.Task w)
own-leads p name scope b w good none =
    let begun = begin_scope p name scope b w in
    let drawn = draw_region (scope_of p scope).kept begun in
    let f = new_frame (new_scope_mark (next_id w) (region_of_next (scope_of p scope).kept w) opened_for.Task) (scope_of p scope).first in
    let first = region-leads (scope_of p scope).kept begun good in
    leads-then w drawn (push name f drawn) first
    (own_scope-leads name f drawn first.0
    (region-unarmed name (scope_of p scope).kept begun (begun-unarmed p name name scope b w none)) refl refl refl refl)

still_unarmed : (name : Who) (w v : World) → Still w v → Unarmed name w → Unarmed name v
still_unarmed (who.Task n) w v s none = λ d. s.fewer n d (none d)
still_unarmed who.Agent w v s none = tt

new-task-leads : (name : Who) (onward : Option StatementNo) (t : Task) (w : World) → GoodMarks w → t.who ≡ who.Task (record { 0 = w.drawn.tasks })
    → t.frames ≡ [] → LeadsTo w [] (add_task t (gone_on name onward w))
new-task-leads name onward t w good is none =
    let v = gone_on name onward w in
    let first = gone-leads name onward w good in
    let named : t.who ≡ who.Task (record { 0 = v.drawn.tasks }) =
    is ∙ ap (λ d. who.Task (record { 0 = d.tasks })) (sym (edit_task-drawn name (λ u. with_frames (edit_first (goes_on onward) u.frames) u) w)) in
    leads-then w v (add_task t v) first (added-leads t v first.0 named none)

no_action : (mark : Mark) (o : ObjectNo) → action_in mark ≡ Some o → awaits_trigger mark ≡ false
no_action (Abortable m) o e = cc
no_action (Scope m) o e = refl
no_action (Handled s) o e = refl
no_action (InProtected m) o e = refl
no_action (InAccept m) o e = refl
no_action (InInitialize l) o e = refl
no_action (InFinalize k) o e = refl
no_action (InAssign m) o e = refl

exit-leads : (name : Who) (o : ObjectNo) (w : World) (frames : List Frame) → GoodMarks w → frames_of w name ≡ frames → action_first (natures frames) ≡ Some o
    → Calm name w → LeadsTo w [] (pop name w)
exit-leads name o w [] good is action calm = cc
exit-leads name o w (f ∷ fs) good is action calm = pop-leads name f w good (ap first_of is) (inl (no_action f.mark o action), calm)

more-drawn : (w v : World) (name : Who) → Still w v → DrawnTo w.drawn.tasks name → DrawnTo v.drawn.tasks name
more-drawn w v (who.Task n) s low = let more = s.more in omega (arith, more, low)
more-drawn w v who.Agent s low = low

-- ---- all of them

fine : FineMoves GoodMarks Anybody Anybody LeadsTo GoodBehind
fine = record {
  behind = λ a b h. h.0;
  moved = λ a b h. h;
  stays = stays-good;
  goes_on = λ a b c p q. leads-then a b c p q;
  says = λ part line w g apart. stays-good w g;
  rests = λ w g. g;
  leads_on = λ a b c p q. q;
  settles = λ p a b xs k. k.0;
  silently = λ a b k. k.0;
  other_may = λ name o. tt;
  task_other = λ n. tt;
  listed = λ w g. each-anybody w.tasks;
  awaits = λ name w g is. tt;
  edits_task = λ name f w g named frames state abnormal. task-leads name f w g named frames state abnormal;
  edits_top = λ name f w g same alike. top-leads name f w g same alike;
  facts = λ w g. g;
  still_drawn = λ n a b r d. more-drawn a b n r.1 d;
  still_marked = λ n a b r m. r.1.marked n m;
  still_unarmed = λ n a b r none. still_unarmed n a b r.1 none;
  aborts = abort-leads;
  strikes = strike-leads;
  triggers = λ part t depth w g can. triggered-leads t depth w g can;
  has_waited = λ c t depth b w g calm found untriggered. waited-leads c t depth b w g calm found untriggered;
  pushes_on = λ name onward f x w g may top plain common no_trigger untriggered.
      let v = gone_on name onward w in
      let first = gone-leads name onward w g in
      leads-then w v (push name f v) first (push-leads name f v first.0 plain common no_trigger untriggered);
  opens_abortable = λ name f w g o plain common no_trigger untriggered. push-leads name f w g plain common no_trigger untriggered;
  opens_part = λ name f w g calm plain common untriggered. part-leads name f w g calm plain common;
  opens_finalize = finalize-leads;
  pops = λ name f w g may top ends. pop-leads name f w g top ends;
  begins_leaving = λ name f m r leaving w g may top is region left. leaving-leads name leaving w g;
  has_left = λ name f m r w g may top is region left next ends. pop-leads name f w g top ends;
  readies = λ name w g o. runnable-leads name w g;
  blocks = λ name waiting w g o no_end. blocked-leads name waiting w g no_end;
  blocks_for_end = λ name f c w g top no_trigger of_call untriggered. waiting-leads name f c w g top no_trigger of_call untriggered;
  places = λ p part name end w g may. stays-good w g;
  says_blocked = λ part name waiting w g o. stays-good w g;
  adds_task = λ name onward t w g o is none master. new-task-leads name onward t w g is none;
  forgets_task = forgotten-leads;
  sets_quantum = λ level ticks w g. (g, still-same w);
  ends_environment = λ leaving w g. (g, still-same w);
  begins_scope = λ p name scope b w g. (g, still-same w);
  edits_cells = λ id f w g. (g, still-same w);
  ends_scope = λ id w g. (g, still-same w);
  edits_call = λ c f w g same. (g, still-same w);
  adds_call = λ c w g. (g, still-same w);
  forgets_call = λ c w g. (g, still-same w);
  edits_object = λ o f w g number actions. (g, still-same w);
  adds_object = λ p l u w g. (g, still-same w);
  inside = λ name o mode w g. g;
  begins = λ name o mode call release w v g lets k.
      leads-then w v (push name (new_frame (new_protected_mark o mode call release) None) v) (k.0, k.1)
      (push-leads name (new_frame (new_protected_mark o mode call release) None) v k.0 refl refl refl refl);
  visits = λ name o mode xs w v g lets quiet k. k;
  finds_held = λ name o mode w g finds. stays-good w g;
  appoints = appoint-leads;
  drops_appointment = drop-leads;
  registers = λ name l w g. register-leads (top_region w name) l w g;
  finalizes = λ name f m r x w g may top is region left next free. unregister-leads x.object w g free;
  replaces = λ name l x w g found. stays-good w g;
  draws_event = λ w g. (g, still-same w);
  adds_timer = λ t w g. (g, still-same w);
  clears_timer = λ k w g. (g, still-same w);
  sets_timer = λ k h value w g. (g, still-same w);
  sets_timers_due = λ timers w g. (g, still-same w);
  adds_budget = λ w g. (g, still-same w);
  edits_budget = λ b f w g. (g, still-same w);
  sets_budget_due = λ budget w g. (g, still-same w);
  sets_port = λ n value w g. (g, still-same w);
  masks = λ n flag w g. (g, still-same w);
  keeps_interrupt = λ n flag w g. (g, still-same w);
  cuts_script = λ x rest w g is due. (g, still-same w);
}

pub moves : RegionMoves GoodMarks LeadsTo GoodBehind
moves = record {
  fine = fine;
  openings = record {
    pushes = λ name f w g may plain common no_trigger untriggered. push-leads name f w g plain common no_trigger untriggered;
    opens_scope = λ p name scope b purpose w g may within. scope-leads p name scope b purpose w g within;
    opens_own_scope = own-leads;
    outside = λ name w g may is. tt;
    within_part = λ name f w g may top is. tt;
    owned = λ name f r w g may top is. tt;
    awaits_dependents = λ name r w g may owns is. tt;
  };
  exits = record { exits = λ name m w g may top calm. exit-leads name m.object w (frames_of w name) g refl top calm };
  arming = record { appoints_trigger = trigger-good; settles_good = λ p a b xs g. g };
  releases = λ h argument w g. (g, still-same w);
  has_served = λ r w g is. (g, still-same w);
}

pub tock_moves : TockMoves GoodMarks GoodBehind
tock_moves = record { tells = λ event w g is. g; serves = λ r rest w g is. g }
