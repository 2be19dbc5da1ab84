-- What each change of a world leaves of its delays, of its tasks' numbers and of the calls of their own.
use Rattle.std.proofs.Common.{◌≡◌, ℕ, suc, ◌≤◌, Bool, true, false, cond, not, ◌||◌, List, [], ◌∷◌, ◌++◌, Option, Some, None, refl, sym, ap, subst, ◌∙◌, arith}
use Rattle.std.specs.List.{list_any}
use Rattle.std.specs.Prelude.{ℤ, find, int_lt, unwrap_or}
use Rattle.ann_base.specs.declared.identities.CallNo.{CallNo}
use Rattle.ann_base.specs.declared.identities.TaskNo.{TaskNo}
use Rattle.trace_text.specs.declared.events.Who.{Who}
use Rattle.world_tables.specs.Lists.{rest_of}
use Rattle.trace_text.specs.declared.events.Who.TheVariants as who
use Rattle.profile_machine.specs.declared.world.World.{World}
use Rattle.profile_machine.specs.declared.world.appointments.Appointment.{Appointment}
use Rattle.profile_machine.specs.declared.world.appointments.Due.{Due}
use Rattle.profile_machine.specs.declared.world.calls.Call.{Call}
use Rattle.profile_machine.specs.declared.world.marks.Frame.{Frame}
use Rattle.profile_machine.specs.declared.world.tasks.State.{State}
use Rattle.profile_machine.specs.declared.world.tasks.Task.{Task}
use Rattle.profile_machine.specs.Appointments.{appoint, drop_appointment, put_appointment, is_delay_of}
use Rattle.profile_machine.specs.Frames.{push, pop}
use Rattle.profile_machine.specs.Masters.{forget_task}
use Rattle.profile_machine.specs.Tasking.{add_task}
use Rattle.profile_machine.specs.Tasks.{task_at, task_of, is_who, nobody, edit_task_found, edit_task, waiting_in, waiting_of, with_state, with_frames}
use Rattle.profile_machine.specs.WellFormed.{number_in, waits_for_delay}
use Rattle.profile_image.specs.Words.{same_who, without}
use Rattle.machine_laws.proofs.ListLemmas.{Rises, Rises-set_where, Rises-without, Rises-behind}
use Rattle.machine_laws.proofs.QueueLemmas.{by_test}
use Rattle.machine_laws.proofs.NumberLemmas.{task_number}
use Rattle.world_laws.proofs.Appointments.Delays.{delayed, Idle, Awaited, nature, natures, OwnIn, Owned, Numbered, Later, own-on, is_false, EachTask}
use Rattle.ceiling_laws.proofs.Fine.Cores.{Caller}
use Rattle.line_laws.proofs.Leaving.TaskLemmas.{of_added, of_edited, of_other, who_path, other-gone, of_forgotten}
use Rattle.ceiling_laws.proofs.Fine.Kept.Scopes.{or-step, without-any}

-- ---- what leaves delays and states

-- of whose delay is appointed still, the state is the same
pub record Steady (w v : World) : Type 0 where
  pub later : Later w v
  pub states : (t : TaskNo) → delayed t v ≡ true → waiting_of v (who.Task t) ≡ waiting_of w (who.Task t)

pub awaited-on : (w v : World) → Steady w v → Awaited w → Awaited v
awaited-on w v s h t d = ap waits_for_delay (s.states t d) ∙ h t (s.later.delays t d)

-- ---- edits of tasks

edit_found-delayed : (name : Who) (f : Task → Task) (w : World) (found : Option Task) (t : TaskNo) → delayed t (edit_task_found name f w found) ≡ delayed t w
edit_found-delayed name f w None t = refl
edit_found-delayed (who.Task n) f w (Some x) t = refl
edit_found-delayed who.Agent f w (Some x) t = refl

pub edited-delayed : (name : Who) (f : Task → Task) (w : World) (t : TaskNo) → delayed t (edit_task name f w) ≡ delayed t w
edited-delayed name f w t = edit_found-delayed name f w (task_at w name) t

edit_found-callers : (name : Who) (f : Task → Task) (w : World) (found : Option Task) (c : CallNo) (n : Who) → Caller c n w
    → Caller c n (edit_task_found name f w found)
edit_found-callers name f w None c n h = h
edit_found-callers (who.Task m) f w (Some x) c n h = h
edit_found-callers who.Agent f w (Some x) c n h = h

pub edited-later : (name : Who) (f : Task → Task) (w : World) → Later w (edit_task name f w)
edited-later name f w = record { delays = λ t d. sym (edited-delayed name f w t) ∙ d; callers = λ c n h. edit_found-callers name f w (task_at w name) c n h }

edit_found-numbered : (name : Who) (f : Task → Task) (w : World) → ((t : Task) → (f t).who ≡ t.who) → (found : Option Task) → task_at w name ≡ found
    → Numbered w → Numbered (edit_task_found name f w found)
edit_found-numbered name f w k None is h = h
edit_found-numbered (who.Task n) f w k (Some t) is h =
    Rises-set_where task_number (is_who (who.Task n)) t (f t) (ap number_in (k t)) 0 w.drawn.tasks w.tasks is h
edit_found-numbered who.Agent f w k (Some t) is h = h

pub edited-numbered : (name : Who) (f : Task → Task) (w : World) → ((t : Task) → (f t).who ≡ t.who) → Numbered w → Numbered (edit_task name f w)
edited-numbered name f w k h = edit_found-numbered name f w k (task_at w name) refl h

pub edited-waiting : (name : Who) (f : Task → Task) (w : World) (t : TaskNo) → ((u : Task) → (f u).who ≡ u.who) → ((u : Task) → (f u).state ≡ u.state)
    → waiting_of (edit_task name f w) (who.Task t) ≡ waiting_of w (who.Task t)
edited-waiting name f w t same state =
    of_edited (λ u. waiting_in u.state ≡ waiting_of w (who.Task t)) (who.Task t) name f w same (λ u e. ap waiting_in (state u) ∙ e) refl

pub edited-steady : (name : Who) (f : Task → Task) (w : World) → ((u : Task) → (f u).who ≡ u.who) → ((u : Task) → (f u).state ≡ u.state)
    → Steady w (edit_task name f w)
edited-steady name f w same state = record { later = edited-later name f w; states = λ t d. edited-waiting name f w t same state }

-- the state of one for whom no delay is appointed
apart-name : (name : Who) (w : World) (t : TaskNo) → Idle name w → delayed t w ≡ true → same_who (who.Task t) name ≡ false
apart-name (who.Task n) w t idle d =
    is_false (same_who (who.Task t) (who.Task n))
    (λ e. let one : who.Task t ≡ who.Task n = who_path (who.Task t) (who.Task n) e in
    let number : t ≡ n = cc in sym d ∙ subst (λ k. delayed k w ≡ false) (sym number) idle)
apart-name who.Agent w t idle d = refl

pub apart_from : (name : Who) (w : World) (t : TaskNo) → Idle name w → delayed t w ≡ true → same_who (who.Task t) name ≡ false
apart_from name w t idle d = apart-name name w t idle d

pub state-steady : (name : Who) (state : State) (w : World) → Idle name w → Steady w (edit_task name (with_state state) w)
state-steady name state w idle = record {
  later = edited-later name (with_state state) w;
  states =
      λ t d. ap (λ (u : Task). waiting_in u.state)
      (of_other (who.Task t) name (with_state state) w (λ u. refl) (apart-name name w t idle (sym (edited-delayed name (with_state state) w t) ∙ d)));
}

-- ---- marks

pub edited-owned : (name : Who) (f : Task → Task) (w : World) → ((u : Task) → (f u).who ≡ u.who)
    → ((n : Who) (u : Task) → OwnIn w.calls w.drawn.calls n (natures u.frames) → OwnIn w.calls w.drawn.calls n (natures (f u).frames)) → Owned w
    → Owned (edit_task name f w)
edited-owned name f w same marks h n =
    let v = edit_task name f w in
    own-on w.calls v.calls w.drawn.calls v.drawn.calls n (natures (task_of v n).frames) (λ c k. (edited-later name f w).callers c n k)
    (of_edited (λ u. OwnIn w.calls w.drawn.calls n (natures u.frames)) n name f w same (marks n) (h n))

pub plain-owned : (name : Who) (f : Task → Task) (w : World) → ((u : Task) → (f u).who ≡ u.who) → ((u : Task) → natures (f u).frames ≡ natures u.frames)
    → Owned w → Owned (edit_task name f w)
plain-owned name f w same marks h = edited-owned name f w same (λ n u k. subst (OwnIn w.calls w.drawn.calls n) (sym (marks u)) k) h

pub pushed-owned : (name : Who) (f : Frame) (w : World) → ((c : CallNo) → nature f.mark ≡ Some c → Caller c name w) → Owned w → Owned (push name f w)
pushed-owned name f w called h n =
    let g = λ (t : Task). with_frames (f ∷ t.frames) t in
    let v = push name f w in
    own-on w.calls v.calls w.drawn.calls v.drawn.calls n (natures (task_of v n).frames) (λ c k. (edited-later name g w).callers c n k)
    (by_test (same_who n name)
    (λ e. of_edited (λ u. OwnIn w.calls w.drawn.calls n (natures u.frames)) n name g w (λ u. refl)
    (λ u k. (subst (λ m. (c : CallNo) → nature f.mark ≡ Some c → Caller c m w) (sym (who_path n name e)) called, k)) (h n))
    (λ e. subst (λ (u : Task). OwnIn w.calls w.drawn.calls n (natures u.frames)) (sym (of_other n name g w (λ u. refl) e)) (h n)))

rest-owned : (calls : List Call) (last : ℕ) (n : Who) (fs : List Frame) → OwnIn calls last n (natures fs) → OwnIn calls last n (natures (rest_of fs))
rest-owned calls last n [] h = h
rest-owned calls last n (f ∷ fs) h = h.1

pub popped-owned : (name : Who) (w : World) → Owned w → Owned (pop name w)
popped-owned name w h = edited-owned name (λ t. with_frames (rest_of t.frames) t) w (λ u. refl) (λ n u k. rest-owned w.calls w.drawn.calls n u.frames k) h

-- ---- a new task, and one that is gone

found-waits : (found : Option Task) → waits_for_delay (waiting_in (unwrap_or found nobody).state) ≡ true → (u : Task) × (found ≡ Some u)
found-waits None e = absurd cc
found-waits (Some u) e = (u, refl)

added-found : (test : Task → Bool) (t u : Task) (xs : List Task) → find test xs ≡ Some u → find test (xs ++ t ∷ []) ≡ Some u
added-found test t u [] e = absurd cc
added-found test t u (z ∷ zs) e = step (test z) e (added-found test t u zs) where
  step : (b : Bool) → cond b (Some z) (find test zs) ≡ Some u → (find test zs ≡ Some u → find test (zs ++ t ∷ []) ≡ Some u)
      → cond b (Some z) (find test (zs ++ t ∷ [])) ≡ Some u
  step true e k = e
  step false e k = k e

pub added-steady : (t : Task) (w : World) → Awaited w → Steady w (add_task t w)
added-steady t w h = record {
  later = record { delays = λ k d. d; callers = λ c n k. k };
  states = λ k d. let q = found-waits (find (is_who (who.Task k)) w.tasks) (h k d) in
      ap (λ (o : Option Task). waiting_in (unwrap_or o nobody).state) (added-found (is_who (who.Task k)) t q.0 w.tasks q.1 ∙ sym q.1);
}

pub added-numbered : (t : Task) (w : World) → t.who ≡ who.Task (record { 0 = w.drawn.tasks }) → Numbered w → Numbered (add_task t w)
added-numbered t w e h = Rises-behind task_number 0 w.drawn.tasks w.tasks t (ap number_in e) h

pub added-owned : (t : Task) (w : World) → t.frames ≡ [] → Owned w → Owned (add_task t w)
added-owned t w none h n =
    of_added (λ u. OwnIn w.calls w.drawn.calls n (natures u.frames)) n t w (subst (λ fs. OwnIn w.calls w.drawn.calls n (natures fs)) (sym none) tt) (h n)

pub gone-steady : (name : Who) (w : World) → Idle name w → Steady w (forget_task name w)
gone-steady name w idle = record {
  later = record { delays = λ k d. d; callers = λ c n k. k };
  states = λ k d. other-gone (λ u. waiting_in u.state ≡ waiting_of w (who.Task k)) (who.Task k) name w.tasks (apart-name name w k idle d) refl;
}

pub gone-numbered : (name : Who) (w : World) → Numbered w → Numbered (forget_task name w)
gone-numbered name w h = Rises-without task_number (is_who name) 0 w.drawn.tasks w.tasks h

pub gone-owned : (name : Who) (w : World) → Owned w → Owned (forget_task name w)
gone-owned name w h n = of_forgotten (λ u. OwnIn w.calls w.drawn.calls n (natures u.frames)) n name w tt (h n)

-- ---- appointments

put-step : (test : Appointment → Bool) (y a : Appointment) (rest put : List Appointment) (b : Bool) → test y ≡ false → list_any test put ≡ list_any test rest
    → list_any test (cond b (y ∷ a ∷ rest) (a ∷ put)) ≡ list_any test (a ∷ rest)
put-step test y a rest put true other e = ap (λ x. x || list_any test (a ∷ rest)) other
put-step test y a rest put false other e = or-step (test a) (list_any test put) (list_any test rest) e

-- an appointment that fails a test is one among others
pub put-any : (test : Appointment → Bool) (y : Appointment) (xs : List Appointment) → test y ≡ false → list_any test (put_appointment y xs) ≡ list_any test xs
put-any test y [] other = ap (λ x. x || false) other
put-any test y (a ∷ rest) other = put-step test y a rest (put_appointment y rest) (int_lt y.moment a.moment) other (put-any test y rest other)

-- none is left that is dropped
none-step : (test : Appointment → Bool) (a : Appointment) (rest : List Appointment) (b : Bool) → test a ≡ b → list_any test rest ≡ false
    → list_any test (cond (not b) (a ∷ rest) rest) ≡ false
none-step test a rest true is e = e
none-step test a rest false is e = ap (λ x. x || list_any test rest) is ∙ e

none-left : (test : Appointment → Bool) (xs : List Appointment) → list_any test (without test xs) ≡ false
none-left test [] = refl
none-left test (a ∷ rest) = none-step test a (without test rest) (test a) refl (none-left test rest)

pub dropped-steady : (test : Due → Bool) (w : World) → Steady w (drop_appointment test w)
dropped-steady test w = record {
  later = record { delays = λ t d. without-any (λ a. is_delay_of t a.due) (λ a. test a.due) w.appointments d; callers = λ c n k. k };
  states = λ t d. refl;
}

pub dropped-idle : (t : TaskNo) (w : World) → Idle (who.Task t) (drop_appointment (is_delay_of t) w)
dropped-idle t w = none-left (λ a. is_delay_of t a.due) w.appointments

pub appointed-steady : (due : Due) (moment : ℤ) (w : World) → ((t : TaskNo) → is_delay_of t due ≡ false) → Steady w (appoint due moment w)
appointed-steady due moment w other = record {
  later = record {
    delays = λ t d. sym (put-any (λ a. is_delay_of t a.due) (record { due = due; moment = moment }) w.appointments (other t)) ∙ d;
    callers = λ c n k. k;
  };
  states = λ t d. refl;
}

-- ---- a task of the list is the one that has its name

abbrev Found : List Task → Task → Type 0
Found all t = find (is_who t.who) all ≡ Some t

same_self : (a : Who) → same_who a a ≡ true
same_self (who.Task a) = grind arith
same_self who.Agent = refl

above-each : (low top : ℕ) (xs : List Task) → Rises task_number low top xs → EachTask (λ t. low ≤ task_number t) xs
above-each low top [] h = tt
above-each low top (x ∷ xs) h = (
  h.0,
  higher (suc (task_number x)) xs (λ t (e : suc (task_number x) ≤ task_number t). omega (arith, e, h.0)) (above-each (suc (task_number x)) top xs h.1),
) where
  higher : (n : ℕ) (ts : List Task) → ((t : Task) → n ≤ task_number t → low ≤ task_number t) → EachTask (λ t. n ≤ task_number t) ts
      → EachTask (λ t. low ≤ task_number t) ts
  higher n [] k each = tt
  higher n (t ∷ ts) k each = (k t each.0, higher n ts k each.1)

pass-first : (x t : Task) (rest : Option Task) → suc (task_number x) ≤ task_number t → rest ≡ Some t → cond (is_who t.who x) (Some x) rest ≡ Some t
pass-first x t rest higher e =
    ap (λ b. cond b (Some x) rest)
    (is_false (is_who t.who x)
    (λ is.
    let one : t.who ≡ x.who = who_path t.who x.who is in let same : task_number t ≡ task_number x = ap number_in one in absurd (omega (arith, higher, same))))
    ∙ e

found-behind : (x : Task) (all xs : List Task) → EachTask (λ t. suc (task_number x) ≤ task_number t) xs → EachTask (Found all) xs
    → EachTask (Found (x ∷ all)) xs
found-behind x all [] above each = tt
found-behind x all (t ∷ ts) above each = (pass-first x t (find (is_who t.who) all) above.0 each.0, found-behind x all ts above.1 each.1)

pub each-found : (low top : ℕ) (xs : List Task) → Rises task_number low top xs → EachTask (Found xs) xs
each-found low top [] h = tt
each-found low top (x ∷ xs) h = (
  ap (λ b. cond b (Some x) (find (is_who x.who) xs)) (same_self x.who),
  found-behind x xs xs (above-each (suc (task_number x)) top xs h.1) (each-found (suc (task_number x)) top xs h.1),
)

-- who does not wait for the end of a delay has none appointed
pub asleep-idle : (name : Who) (w : World) → Awaited w → waits_for_delay (waiting_of w name) ≡ false → Idle name w
asleep-idle (who.Task t) w h e = is_false (delayed t w) (λ d. sym (h t d) ∙ e)
asleep-idle who.Agent w h e = tt

named-idle : (name : Who) (t : Task) (w : World) → Awaited w → t.who ≡ name → find (is_who name) w.tasks ≡ Some t → waits_for_delay (waiting_in t.state) ≡ false
    → Idle name w
named-idle (who.Task n) t w h is found e =
    asleep-idle (who.Task n) w h (ap (λ (o : Option Task). waits_for_delay (waiting_in (unwrap_or o nobody).state)) found ∙ e)
named-idle who.Agent t w h is found e = tt

pub each-asleep : (w : World) (xs : List Task) → Awaited w → EachTask (Found w.tasks) xs
    → EachTask (λ t. waits_for_delay (waiting_in t.state) ≡ false → Idle t.who w) xs
each-asleep w [] h each = tt
each-asleep w (t ∷ ts) h each = (λ e. named-idle t.who t w h refl each.0 e, each-asleep w ts h each.1)
