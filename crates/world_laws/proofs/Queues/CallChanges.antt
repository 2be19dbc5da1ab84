-- Calm changes of calls, queues and appointments: calls are edited and forgotten, taken out of their queues, and time-outs are set.
use Rattle.std.proofs.Common.{◌≡◌, ℕ, suc, ℤ, ◌<◌, Bool, true, false, cond, not, ◌&&◌, ◌||◌, ◌⊎◌, inl, inr, eqb}
use Rattle.std.proofs.Common.{List, [], ◌∷◌, Option, Some, None, refl, sym, ap, subst, ◌∙◌, arith, option_map}
use Rattle.std.specs.Prelude.{find, is_some, is_none, int_lt}
use Rattle.std.specs.List.{list_any}
use Rattle.std.proofs.lemmas.Bool.{and_parts, eq-eqb, eqb-true, or_cases, or_left, true≢false}
use Rattle.ann_base.specs.declared.identities.CallNo.{CallNo}
use Rattle.ann_base.specs.declared.identities.TaskNo.{TaskNo}
use Rattle.trace_text.specs.declared.events.Who.{Who}
use Rattle.trace_text.specs.declared.events.Who.TheVariants as who
use Rattle.profile_image.specs.declared.image.Image.{Image}
use Rattle.profile_machine.specs.declared.world.World.{World}
use Rattle.profile_machine.specs.declared.world.appointments.Appointment.{Appointment}
use Rattle.profile_machine.specs.declared.world.appointments.Due.{Due}
use Rattle.profile_machine.specs.declared.world.calls.Call.{Call}
use Rattle.profile_machine.specs.declared.world.calls.Owner.{Owner}
use Rattle.profile_machine.specs.declared.world.calls.Owner.TheVariants as owned_by
use Rattle.profile_machine.specs.declared.world.objects.Object.{Object}
use Rattle.profile_machine.specs.declared.world.tasks.Task.{Task}
use Rattle.profile_image.specs.Words.{same_call, has, without, edit_where, edit_found, set_where, edit_at}
use Rattle.profile_machine.specs.Tasks.{task_at, task_of, edit_task}
use Rattle.profile_machine.specs.Appointments.{is_appointed, is_timeout_of, is_trigger_of, put_appointment, appoint, drop_appointment}
use Rattle.profile_machine.specs.Values.{is_object, queue_at, queues_of}
use Rattle.profile_machine.specs.Calls.{is_call, call_of, edit_call, edit_object, forget_call, queue_of, edit_queue, place_of_entry, take_call, unqueued}
use Rattle.profile_machine.specs.Priorities.{is_queued}
use Rattle.profile_machine.specs.WellFormed.{same_owner}
use Rattle.machine_laws.proofs.ListLemmas.{Falls-edit_where}
use Rattle.machine_laws.proofs.QueueLemmas.{by_test}
use Rattle.world_laws.proofs.Counts.NumberedLists as numbered
use Rattle.line_laws.proofs.Exits.TaskEdits as edits_of
use Rattle.world_laws.proofs.Queues.CallLists.{call_number, gone-at, left-at, same-call, taken-at}
use Rattle.world_laws.proofs.Queues.Calming.{Softens, StandsAt, appointed-same, calm-from, came-same, edit_task-calls}
use Rattle.world_laws.proofs.Queues.Calming.{edit_task-drawn, edit_task-fall, edit_task-objects, found-appointments}
use Rattle.world_laws.proofs.Queues.Calming.{named-edited, softens-same, task-edited, task_of-same, there-same, unfirm-same}
use Rattle.world_laws.proofs.Queues.Softening.{softens-plain}
use Rattle.world_laws.proofs.Queues.Standing.{Awaited, Calm, Came, GoodBut, Idle, Kind, Open, Out, Stands}
use Rattle.world_laws.proofs.Queues.Standing.{Unfirm, Waited, any_kind, none_late, object_key, served, either}

-- ---- one of a list is edited: another is as it was

module _ {X : Type 0} (key : X → ℕ) (n m : ℕ) (f : X → X) (same : (x : X) → key (f x) ≡ key x) (apart : eqb n m ≡ false) where
  apart-key : (x : X) → eqb m (key x) ≡ true → eqb n (key x) ≡ false
  apart-key x is = subst (λ i. eqb n i ≡ false) (eqb-true m (key x) is) apart

  set-same : (x z : X) (zs : List X) → eqb m (key z) ≡ true → Some z ≡ Some x → find (numbered.by key n) (f x ∷ zs) ≡ find (numbered.by key n) (z ∷ zs)
  set-same x z zs is e =
      let one : z ≡ x = cc in
      let no_z : eqb n (key z) ≡ false = apart-key z is in
      let no_x : eqb n (key (f x)) ≡ false = ap (eqb n) (same x ∙ ap key (sym one)) ∙ no_z in
      ap (λ b. cond b (Some (f x)) (find (numbered.by key n) zs)) no_x ∙ sym (ap (λ b. cond b (Some z) (find (numbered.by key n) zs)) no_z)

  set-step : (x z : X) (zs others : List X) (b : Bool) → eqb m (key z) ≡ b → cond b (Some z) (find (numbered.by key m) zs) ≡ Some x
      → (find (numbered.by key m) zs ≡ Some x → find (numbered.by key n) others ≡ find (numbered.by key n) zs)
      → find (numbered.by key n) (cond b (f x ∷ zs) (z ∷ others)) ≡ find (numbered.by key n) (z ∷ zs)
  set-step x z zs others true is e onward = set-same x z zs is e
  set-step x z zs others false is e onward = ap (λ rest. cond (eqb n (key z)) (Some z) rest) (onward e)

  other-set : (x : X) (xs : List X) → find (numbered.by key m) xs ≡ Some x
      → find (numbered.by key n) (set_where (numbered.by key m) (f x) xs) ≡ find (numbered.by key n) xs
  other-set x [] e = refl
  other-set x (z ∷ zs) e = set-step x z zs (set_where (numbered.by key m) (f x) zs) (eqb m (key z)) refl e (λ k. other-set x zs k)

  other-from : (xs : List X) (found : Option X) → find (numbered.by key m) xs ≡ found
      → find (numbered.by key n) (edit_found (numbered.by key m) f xs found) ≡ find (numbered.by key n) xs
  other-from xs None is = refl
  other-from xs (Some x) is = other-set x xs is

  pub edited-other : (xs : List X) → find (numbered.by key n) (edit_where (numbered.by key m) f xs) ≡ find (numbered.by key n) xs
  edited-other xs = other-from xs (find (numbered.by key m) xs) refl

-- ---- a call is edited

pub edited_call-same : (c : CallNo) (f : Call → Call) (w : World) → ((d : Call) → (f d).number ≡ d.number)
    → call_of (edit_call c f w) c ≡ option_map f (call_of w c)
edited_call-same c f w number = numbered.edited-same call_number c.0 f (λ d. ap (λ n. n.0) (number d)) w.calls

pub edited_call-other : (x c : CallNo) (f : Call → Call) (w : World) → ((d : Call) → (f d).number ≡ d.number) → same_call x c ≡ false
    → call_of (edit_call c f w) x ≡ call_of w x
edited_call-other x c f w number apart = edited-other call_number x.0 c.0 f (λ d. ap (λ n. n.0) (number d)) apart w.calls

-- only calls are changed
pub stands-calls : (w : World) (ds : List Call) (o : Owner) (k : ℕ) (c : CallNo) → Stands (record w { calls = ds }) o k c → Stands w o k c
stands-calls w ds (owned_by.Task t) k c h = h
stands-calls w ds (owned_by.Object o) k c h = h

served-calls : (w : World) (ds : List Call) (a : Who) (c : CallNo) → served c (record w { calls = ds }) a ≡ served c w a
served-calls w ds (who.Task t) c = refl
served-calls w ds who.Agent c = refl

pub idle-calls : (w : World) (ds : List Call) (c : CallNo) → Idle c w → Idle c (record w { calls = ds })
idle-calls w ds c idle a = served-calls w ds a c ∙ idle a

calls-calm : {E : Kind} (w : World) (ds : List Call) → ((c : CallNo) (y : Call) → find (is_call c) ds ≡ Some y → Came E w (record w { calls = ds }) c y)
    → ((c : CallNo) → ((o : Owner) × (k : ℕ) × Stands w o k c) ⊎ (E.stay c ≡ true) → is_some (call_of w c) ≡ true → is_some (find (is_call c) ds) ≡ true)
    → ((o : Owner) (k : ℕ) (c : CallNo) → Stands w o k c → Unfirm c w → Unfirm c (record w { calls = ds })) → Calm E w (record w { calls = ds })
calls-calm {E = E} w ds came there unfirm =
    let v = record w { calls = ds } in
    calm-from w v (λ me. subst (Softens _ none_late me w (task_of w me)) (sym (task_of-same w v refl refl me)) (softens-same me w (task_of w me)))
    (λ o k c h. h) refl refl (λ h. h) (λ h. h)
    came (λ c h e. there c (at-before c h) e) (λ c h. inl h) (λ t depth h. inl h)
    record { gone = λ c is h. true≢false (sym is); objects = λ fall o k c h. inl h; unfirm = unfirm; set = λ c h. inl h } where
      at-before : (c : CallNo) → ((o : Owner) × (k : ℕ) × Stands (record w { calls = ds }) o k c) ⊎ (E.stay c ≡ true)
          → ((o : Owner) × (k : ℕ) × Stands w o k c) ⊎ (E.stay c ≡ true)
      at-before c (inl h) = inl (h.0, h.1, stands-calls w ds h.0 h.1 c h.2)
      at-before c (inr h) = inr h

-- an edit that neither begins nor ends it, nor sends it elsewhere; or one of a call that may end, and that stands in no queue and is
-- not served
pub record Edits (E : Kind) (w : World) (c : CallNo) (x y : Call) : Type 0 where
  pub directed : ((y.owner ≡ x.owner) × (y.entry ≡ x.entry)) ⊎ Out c w
  pub firm : (y.firm ≡ x.firm) ⊎ Out c w
  pub caller : y.caller ≡ x.caller
  pub outcome : is_none x.outcome ≡ false → is_none y.outcome ≡ false
  pub steady : ((y.begun ≡ x.begun) × (y.outcome ≡ x.outcome)) ⊎ ((E.may c ≡ true) × Out c w × Idle c w)

some-found : (found : Option Call) (f : Call → Call) → is_some found ≡ true → is_some (option_map f found) ≡ true
some-found None f h = h
some-found (Some d) f h = refl

mapped-some : (found : Option Call) (f : Call → Call) (y : Call) → option_map f found ≡ Some y → (x : Call) × (found ≡ Some x) × (f x ≡ y)
mapped-some None f y e = absurd cc
mapped-some (Some x) f y e = (x, refl, cc)

module _ {E : Kind} (c : CallNo) (f : Call → Call) (w : World) (number : (d : Call) → (f d).number ≡ d.number) (edits : (x : Call) → Edits E w c x (f x)) where
  edited-came : (x : Call) → call_of w c ≡ Some x → Came E w (edit_call c f w) c (f x)
  edited-came x e = by_way (edits x).steady where
    where_to : (((f x).owner ≡ x.owner) × ((f x).entry ≡ x.entry)) ⊎ Out c w → (o : Owner) (k : ℕ) → Stands (edit_call c f w) o k c
        → ((f x).owner ≡ x.owner) × ((f x).entry ≡ x.entry)
    where_to (inl same) o k h = same
    where_to (inr out) o k h = absurd (out o k (stands-calls w (edit_where (is_call c) f w.calls) o k c h))

    by_way : (((f x).begun ≡ x.begun) × ((f x).outcome ≡ x.outcome)) ⊎ ((E.may c ≡ true) × Out c w × Idle c w) → Came E w (edit_call c f w) c (f x)
    by_way (inl same) = record {
      before = x;
      found = e;
      directed = λ o k h. where_to (edits x).directed o k h;
      caller = (edits x).caller;
      outcome = (edits x).outcome;
      steady = λ h. same;
      queued = λ o k h. same;
      served = λ a h. same;
    }
    by_way (inr ends) = record {
      before = x;
      found = e;
      directed = λ o k h. where_to (edits x).directed o k h;
      caller = (edits x).caller;
      outcome = (edits x).outcome;
      steady = λ h. absurd (true≢false (sym ends.0 ∙ h));
      queued = λ o k h. absurd (ends.1 o k (stands-calls w (edit_where (is_call c) f w.calls) o k c h));
      served =
          λ a h. let none : served c (edit_call c f w) a ≡ 0 = idle-calls w (edit_where (is_call c) f w.calls) c ends.2 a in absurd (omega (arith, none, h));
    }

  came-call : (x : CallNo) (y : Call) → call_of (edit_call c f w) x ≡ Some y → Came E w (edit_call c f w) x y
  came-call x y e =
      by_test (same_call x c)
      (λ is. let one : x ≡ c = same-call x c is in
      let was = mapped-some (call_of w c) f y (sym (edited_call-same c f w number) ∙ subst (λ n. call_of (edit_call c f w) n ≡ Some y) one e) in
      subst (λ n. Came E w (edit_call c f w) n y) (sym one) (subst (Came E w (edit_call c f w) c) was.2 (edited-came was.0 was.1)))
      (λ apart. let was : call_of w x ≡ Some y = sym (edited_call-other x c f w number apart) ∙ e in
      record {
        before = y;
        found = was;
        directed = λ o k h. (refl, refl);
        caller = refl;
        outcome = λ h. h;
        steady = λ h. (refl, refl);
        queued = λ o k h. (refl, refl);
        served = λ a h. (refl, refl);
      })

  still-there : (x : CallNo) → is_some (call_of w x) ≡ true → is_some (call_of (edit_call c f w) x) ≡ true
  still-there x h =
      by_test (same_call x c)
      (λ is. let one : x ≡ c = same-call x c is in
      subst (λ n. is_some (call_of (edit_call c f w) n) ≡ true) (sym one)
      (subst (λ found. is_some found ≡ true) (sym (edited_call-same c f w number))
      (some-found (call_of w c) f (subst (λ n. is_some (call_of w n) ≡ true) one h))))
      (λ apart. subst (λ found. is_some found ≡ true) (sym (edited_call-other x c f w number apart)) h)

  edited-firm : (o : Owner) (k : ℕ) (x : Call) → Stands w o k c → ((f x).firm ≡ x.firm) ⊎ Out c w → x.firm ≡ false → (f x).firm ≡ false
  edited-firm o k x h (inl same) e = same ∙ e
  edited-firm o k x h (inr out) e = absurd (out o k h)

  edited-unfirm : (o : Owner) (k : ℕ) (x : CallNo) → Stands w o k x → Unfirm x w → Unfirm x (edit_call c f w)
  edited-unfirm o k x h unfirm d e =
      by_test (same_call x c)
      (λ is. let one : x ≡ c = same-call x c is in
      let was = mapped-some (call_of w c) f d (sym (edited_call-same c f w number) ∙ subst (λ n. call_of (edit_call c f w) n ≡ Some d) one e) in
      subst (λ (y : Call). y.firm ≡ false) was.2
      (edited-firm o k was.0 (subst (λ n. Stands w o k n) one h) (edits was.0).firm (unfirm was.0 (subst (λ n. call_of w n ≡ Some was.0) (sym one) was.1))))
      (λ apart. unfirm d (sym (edited_call-other x c f w number apart) ∙ e))

  pub edit_call-calm : Calm E w (edit_call c f w)
  edit_call-calm = calls-calm w (edit_where (is_call c) f w.calls) came-call (λ x h e. still-there x e) edited-unfirm

-- ---- a call is forgotten that stands in no queue

forgot-came : {E : Kind} (c : CallNo) (w : World) (x : CallNo) (y : Call) → call_of (forget_call c w) x ≡ Some y → Came E w (forget_call c w) x y
forgot-came c w x y e = record {
  before = y;
  found = numbered.left-found call_number x.0 c.0 w.calls y e;
  directed = λ o k h. (refl, refl);
  caller = refl;
  outcome = λ h. h;
  steady = λ h. (refl, refl);
  queued = λ o k h. (refl, refl);
  served = λ a h. (refl, refl);
}

pub forget_call-calm : {E : Kind} (c : CallNo) (w : World) → E.stay c ≡ false → Out c w → Calm E w (forget_call c w)
forget_call-calm {E = E} c w free out =
    calls-calm w (without (is_call c) w.calls) (λ x y e. forgot-came c w x y e)
    (λ x h e. by_test (same_call x c)
    (λ is. absurd (not-here x (same-call x c is) h))
    (λ apart. subst (λ found. is_some found ≡ true) (sym (numbered.other-found call_number x.0 c.0 w.calls apart)) e))
    (λ o k x h unfirm d e. unfirm d (numbered.left-found call_number x.0 c.0 w.calls d e)) where
      not-here : (x : CallNo) → x ≡ c → ((o : Owner) × (k : ℕ) × Stands w o k x) ⊎ (E.stay x ≡ true) → ⊥
      not-here x one (inl h) = out h.0 h.1 (subst (λ n. Stands w h.0 h.1 n) one h.2)
      not-here x one (inr h) = true≢false (sym h ∙ subst (λ n. E.stay n ≡ false) (sym one) free)

-- and is there no more
none-step : (c : CallNo) (z : Call) (left : List Call) (b : Bool) → is_call c z ≡ b → find (is_call c) left ≡ None
    → find (is_call c) (cond (not b) (z ∷ left) left) ≡ None
none-step c z left true is e = e
none-step c z left false is e = ap (λ t. cond t (Some z) (find (is_call c) left)) is ∙ e

none-left : (c : CallNo) (ds : List Call) → find (is_call c) (without (is_call c) ds) ≡ None
none-left c [] = refl
none-left c (z ∷ zs) = none-step c z (without (is_call c) zs) (is_call c z) refl (none-left c zs)

pub forgotten : (c : CallNo) (w : World) → call_of (forget_call c w) c ≡ None
forgotten c w = none-left c w.calls

-- ---- appointments

any-kept : (test : Appointment → Bool) (b : Bool) (z : Appointment) (left zs : List Appointment) → (list_any test left ≡ true → list_any test zs ≡ true)
    → list_any test (cond b (z ∷ left) left) ≡ true → list_any test (z ∷ zs) ≡ true
any-kept test true z left zs onward h = or-on (test z) (list_any test left) (list_any test zs) onward h where
  or-on : (a b c : Bool) → (b ≡ true → c ≡ true) → (a || b) ≡ true → (a || c) ≡ true
  or-on true b c k h = refl
  or-on false b c k h = k h
any-kept test false z left zs onward h = or-right (test z) (list_any test zs) (onward h) where
  or-right : (a b : Bool) → b ≡ true → (a || b) ≡ true
  or-right true b h = refl
  or-right false b h = h

any-without : (test out : Appointment → Bool) (xs : List Appointment) → list_any test (without out xs) ≡ true → list_any test xs ≡ true
any-without test out [] h = h
any-without test out (z ∷ zs) h = any-kept test (not (out z)) z (without out zs) zs (λ k. any-without test out zs k) h

pub dropped-appointed : (test out : Due → Bool) (w : World) → is_appointed test (drop_appointment out w) ≡ true → is_appointed test w ≡ true
dropped-appointed test out w h = any-without (λ a. test a.due) (λ a. out a.due) w.appointments h

none-step_of : (out : Appointment → Bool) (b : Bool) (z : Appointment) (left : List Appointment) → out z ≡ b → list_any out left ≡ false
    → list_any out (cond (not b) (z ∷ left) left) ≡ false
none-step_of out true z left is h = h
none-step_of out false z left is h = ap (λ b. b || list_any out left) is ∙ h

none-appointed : (out : Appointment → Bool) (xs : List Appointment) → list_any out (without out xs) ≡ false
none-appointed out [] = refl
none-appointed out (z ∷ zs) = none-step_of out (out z) z (without out zs) refl (none-appointed out zs)

pub dropped-none : (out : Due → Bool) (w : World) → is_appointed out (drop_appointment out w) ≡ false
dropped-none out w = none-appointed (λ a. out a.due) w.appointments

appointments-calm : {E : Kind} (w : World) (xs : List Appointment)
    → ((c : CallNo) → list_any (λ a. is_timeout_of c a.due) xs ≡ true → (is_appointed (is_timeout_of c) w ≡ true) ⊎ (Idle c w × Awaited c w))
    → ((t : TaskNo) (depth : ℕ) → list_any (λ a. is_trigger_of t depth a.due) xs ≡ true
    → (is_appointed (is_trigger_of t depth) w ≡ true) ⊎ ((t.0 < w.drawn.tasks) × Waited t depth w))
    → Calm E w (record w { appointments = xs })
appointments-calm w xs timed set =
    let v = record w { appointments = xs } in
    calm-from w v (λ me. subst (Softens _ none_late me w (task_of w me)) (sym (task_of-same w v refl refl me)) (softens-same me w (task_of w me)))
    (λ o k c h. h) refl refl (λ h. h) (λ h. h)
    (λ c y e. came-same w v c y refl e) (λ c h e. e) (λ c h. idle_or c (timed c h)) set
    record {
      gone = λ c is h. true≢false (sym is);
      objects = λ fall o k c h. inl h;
      unfirm = λ o k c h. unfirm-same w v c refl;
      set = λ c h. awaited_or c (timed c h);
    } where
      same_served : (a : Who) (c : CallNo) → served c (record w { appointments = xs }) a ≡ served c w a
      same_served (who.Task t) c = refl
      same_served who.Agent c = refl

      idle_or : (c : CallNo) → (is_appointed (is_timeout_of c) w ≡ true) ⊎ (Idle c w × Awaited c w)
          → (is_appointed (is_timeout_of c) w ≡ true) ⊎ Idle c (record w { appointments = xs })
      idle_or c (inl h) = inl h
      idle_or c (inr new) = inr (λ a. same_served a c ∙ new.0 a)

      awaited_or : (c : CallNo) → (is_appointed (is_timeout_of c) w ≡ true) ⊎ (Idle c w × Awaited c w)
          → (is_appointed (is_timeout_of c) w ≡ true) ⊎ Awaited c (record w { appointments = xs })
      awaited_or c (inl h) = inl h
      awaited_or c (inr new) = inr (by_owner new.1.owner new.1.place new.1.stands new.1.opens new.1.unfirm) where
        by_owner : (o : Owner) (k : ℕ) → Stands w o k c → Open w o → Unfirm c w → Awaited c (record w { appointments = xs })
        by_owner (owned_by.Task n) k here open_ unfirm = record { owner = owned_by.Task n; place = k; stands = here; opens = open_; unfirm = unfirm }
        by_owner (owned_by.Object o) k here open_ unfirm = record { owner = owned_by.Object o; place = k; stands = here; opens = tt; unfirm = unfirm }

pub drop_appointment-calm : {E : Kind} (out : Due → Bool) (w : World) → Calm E w (drop_appointment out w)
drop_appointment-calm out w =
    appointments-calm w (without (λ a. out a.due) w.appointments) (λ c h. inl (dropped-appointed (is_timeout_of c) out w h))
    (λ t depth h. inl (dropped-appointed (is_trigger_of t depth) out w h))

or-right : (b c : Bool) → c ≡ true → (b || c) ≡ true
or-right true c h = refl
or-right false c h = h

put-rest : (test : Appointment → Bool) (a x : Appointment) (xs : List Appointment) → (test x ≡ true) ⊎ ((test a ≡ true) ⊎ (list_any test xs ≡ true))
    → (test a ≡ true) ⊎ (list_any test (x ∷ xs) ≡ true)
put-rest test a x xs (inl h) = inr (or_left (test x) (list_any test xs) h)
put-rest test a x xs (inr (inl h)) = inl h
put-rest test a x xs (inr (inr h)) = inr (or-right (test x) (list_any test xs) h)

onward-or : {A B C : Type 0} → (B → C) → A ⊎ B → A ⊎ C
onward-or f (inl a) = inl a
onward-or f (inr b) = inr (f b)

put-step : (test : Appointment → Bool) (a x : Appointment) (xs put : List Appointment) (b : Bool)
    → (list_any test put ≡ true → (test a ≡ true) ⊎ (list_any test xs ≡ true)) → list_any test (cond b (a ∷ x ∷ xs) (x ∷ put)) ≡ true
    → (test a ≡ true) ⊎ (list_any test (x ∷ xs) ≡ true)
put-step test a x xs put true onward h = or_cases (test a) (list_any test (x ∷ xs)) h
put-step test a x xs put false onward h = put-rest test a x xs (onward-or onward (or_cases (test x) (list_any test put) h))

put-any : (test : Appointment → Bool) (a : Appointment) (xs : List Appointment) → list_any test (put_appointment a xs) ≡ true
    → (test a ≡ true) ⊎ (list_any test xs ≡ true)
put-any test a [] h = or_cases (test a) false h
put-any test a (x ∷ xs) h = put-step test a x xs (put_appointment a xs) (int_lt a.moment x.moment) (put-any test a xs) h

-- a time-out is set of a call that nobody serves and that may time out, and a trigger for who waits for it
pub appoint-calm : {E : Kind} (due : Due) (moment : ℤ) (w : World) → ((c : CallNo) → is_timeout_of c due ≡ true → Idle c w × Awaited c w)
    → ((t : TaskNo) (depth : ℕ) → is_trigger_of t depth due ≡ true → (t.0 < w.drawn.tasks) × Waited t depth w) → Calm E w (appoint due moment w)
appoint-calm due moment w timed set =
    let new : Appointment = record { due = due; moment = moment } in
    appointments-calm w (put_appointment new w.appointments)
    (λ c h. either (put-any (λ a. is_timeout_of c a.due) new w.appointments h) (λ e. inr (timed c e)) inl)
    (λ t depth h. either (put-any (λ a. is_trigger_of t depth a.due) new w.appointments h) (λ e. inr (set t depth e)) inl)

-- ---- a call is taken out of a queue, and its time-out is dropped

dropped-same : (out : CallNo) (w : World) (x : CallNo) → same_call out x ≡ true → is_appointed (is_timeout_of x) (drop_appointment (is_timeout_of out) w) ≡ true
    → ⊥
dropped-same out w x is h =
    true≢false (sym (subst (λ n. is_appointed (is_timeout_of n) (drop_appointment (is_timeout_of out) w) ≡ true) (sym (same-call out x is)) h)
    ∙ dropped-none (is_timeout_of out) w)

taken-calm : {E : Kind} (owner : Owner) (place : ℕ) (c : CallNo) (w : World)
    → Calm E w (drop_appointment (is_timeout_of c) (edit_queue owner place (take_call c) w))
taken-calm {E = E} (owned_by.Task t) place c w =
    let name = who.Task t in
    let f : Task → Task = λ u. record u { queues = edit_at place (take_call c) u.queues } in
    let taken = edit_task name f w in
    let v = drop_appointment (is_timeout_of c) taken in
    let appointments = found-appointments name f w (task_at w name) in
    let soft : Softens E (same_call c) name w (task_of w name) (f (task_of w name)) =
    softens-plain name w (task_of w name) (f (task_of w name)) refl refl refl (λ k x h. taken-at (task_of w name).queues place k c x h)
    (λ k x h. left-at (task_of w name).queues place k c x h) refl in
    calm-from w v
    (λ me. subst (Softens E (same_call c) me w (task_of w me)) (sym (task_of-same taken v refl refl me))
    (task-edited name f w (λ u. refl) (λ one x y. Softens E (same_call c) one w x y) (λ one. softens-same one w (task_of w one)) soft me))
    (λ o k x h. subst (λ xs. StandsAt xs o k x) (edit_task-objects name f w) h)
    (ap (λ d. d.calls) (edit_task-drawn name f w)) (ap (λ d. d.tasks) (edit_task-drawn name f w)) (λ h. edit_task-fall name f w (λ u. refl) h)
    (λ h. named-edited name f w (task_at w name) refl (λ u. refl) h)
    (λ x y e. came-same w v x y (edit_task-calls name f w) e) (λ x h e. there-same w v x (edit_task-calls name f w) e)
    (λ x h. inl (appointed-same (is_timeout_of x) w taken appointments (dropped-appointed (is_timeout_of x) (is_timeout_of c) taken h)))
    (λ n depth h. inl (appointed-same (is_trigger_of n depth) w taken appointments (dropped-appointed (is_trigger_of n depth) (is_timeout_of c) taken h)))
    record {
      gone = λ x is h. dropped-same c taken x is h;
      objects = λ fall o k x h. inl (subst (λ xs. StandsAt xs o k x) (sym (edit_task-objects name f w)) h);
      unfirm = λ o k x h. unfirm-same w v x (edit_task-calls name f w);
      set = λ x h. inl (appointed-same (is_timeout_of x) w taken appointments (dropped-appointed (is_timeout_of x) (is_timeout_of c) taken h));
    }
taken-calm {E = E} (owned_by.Object q) place c w =
    let f : Object → Object = λ u. record u { queues = edit_at place (take_call c) u.queues } in
    let taken = edit_object q f w in
    let v = drop_appointment (is_timeout_of c) taken in
    calm-from w v (λ me. subst (Softens E (same_call c) me w (task_of w me)) (sym (task_of-same w v refl refl me)) (softens-same me w (task_of w me)))
    (λ o k x h.
    numbered.edited object_key o.0 q.0 f (λ u. refl) (λ y. has same_call (queue_at (queues_of y) k) x ≡ true → StandsAt w.objects o k x) w.objects (λ e. e)
    (λ u is e. subst (λ y. has same_call (queue_at (queues_of y) k) x ≡ true) (sym is) (taken-at u.queues place k c x e)) h)
    refl refl (λ h. (Falls-edit_where object_key (is_object q) f (λ u. refl) (suc w.drawn.objects) w.objects h.0, h.1)) (λ h. h)
    (λ x y e. came-same w v x y refl e) (λ x h e. e)
    (λ x h. inl (dropped-appointed (is_timeout_of x) (is_timeout_of c) taken h))
    (λ n depth h. inl (dropped-appointed (is_trigger_of n depth) (is_timeout_of c) taken h))
    record {
      gone = λ x is h. dropped-same c taken x is h;
      objects =
          λ fall o k x h.
          numbered.edited object_key o.0 q.0 f (λ u. refl) (λ y. (has same_call (queue_at (queues_of y) k) x ≡ true) ⊎ (same_call c x ≡ true)) w.objects (inl h)
          (λ u is. left-at u.queues place k c x (subst (λ y. has same_call (queue_at (queues_of y) k) x ≡ true) is h));
      unfirm = λ o k x h. unfirm-same w v x refl;
      set = λ x h. inl (dropped-appointed (is_timeout_of x) (is_timeout_of c) taken h);
    }

pub unqueued-calm : {E : Kind} (p : Image) (c : Call) (w : World) → Calm E w (unqueued p c w)
unqueued-calm p c w = taken-calm c.owner (place_of_entry p c.entry) c.number w

-- no time-out of it is set
pub unqueued-timed : (p : Image) (c : Call) (w : World) → is_appointed (is_timeout_of c.number) (unqueued p c w) ≡ false
unqueued-timed p c w = dropped-none (is_timeout_of c.number) (edit_queue c.owner (place_of_entry p c.entry) (take_call c.number) w)

-- it stands there no more
no-one : (t : Task) (place : ℕ) (c : CallNo) → has same_call (queue_at (edit_at place (take_call c) t.queues) place) c ≡ false
no-one t place c = gone-at t.queues place c

taken-found : (found : Option Object) (place : ℕ) (c : CallNo)
    → has same_call (queue_at (queues_of (option_map (λ (u : Object). record u { queues = edit_at place (take_call c) u.queues }) found)) place) c ≡ false
taken-found None place c = refl
taken-found (Some x) place c = gone-at x.queues place c

taken-out : (owner : Owner) (place : ℕ) (c : CallNo) (w : World) → has same_call (queue_of (edit_queue owner place (take_call c) w) owner place) c ≡ false
taken-out (owned_by.Task t) place c w =
    let name = who.Task t in
    edits_of.edited_to (λ u. Unit {0}) (λ u. has same_call (queue_at u.queues place) c ≡ false) name name
    (λ u. record u { queues = edit_at place (take_call c) u.queues }) w (λ u. refl)
    (λ same u h. no-one u place c) (λ apart u h. absurd (true≢false (sym (eq-eqb t.0 t.0 refl) ∙ apart))) (λ h. refl) tt
taken-out (owned_by.Object o) place c w =
    let f : Object → Object = λ u. record u { queues = edit_at place (take_call c) u.queues } in
    subst (λ found. has same_call (queue_at (queues_of found) place) c ≡ false) (sym (numbered.edited-same object_key o.0 f (λ u. refl) w.objects))
    (taken-found (find (is_object o) w.objects) place c)

dropped-stands : (out : Due → Bool) (w : World) (o : Owner) (k : ℕ) (c : CallNo) → Stands (drop_appointment out w) o k c → Stands w o k c
dropped-stands out w (owned_by.Task t) k c h = h
dropped-stands out w (owned_by.Object o) k c h = h

-- a call, if it stands in a queue, is directed as this record says
abbrev pub Directed : Call → World → Type 0
Directed c w = (o : Owner) (k : ℕ) → Stands w o k c.number → (d : Call) → call_of w c.number ≡ Some d → (d.owner ≡ c.owner) × (d.entry ≡ c.entry)

same-owner : (a b : Owner) → same_owner a b ≡ true → a ≡ b
same-owner (owned_by.Task t) (owned_by.Task u) e = ap (λ (n : ℕ). owned_by.Task (record { 0 = n })) (eqb-true t.0 u.0 e)
same-owner (owned_by.Task t) (owned_by.Object o) e = cc
same-owner (owned_by.Object o) (owned_by.Task t) e = cc
same-owner (owned_by.Object o) (owned_by.Object q) e = ap (λ (n : ℕ). owned_by.Object (record { 0 = n })) (eqb-true o.0 q.0 e)

pub calm-directed : {E : Kind} (c : Call) (w v : World) → Calm E w v → Directed c w → Directed c v
calm-directed c w v calm directed o k h d e =
    let x = calm.calls c.number d e in
    let was = directed o k (calm.queues o k c.number h) x.before x.found in
    let same = x.directed o k h in
    (same.0 ∙ was.0, same.1 ∙ was.1)

pub out-directed : (c : Call) (w : World) → Out c.number w → Directed c w
out-directed c w out o k h d e = absurd (out o k h)

-- where a call stands
pub stands-where : {late : CallNo → Bool} (p : Image) (w : World) (o : Owner) (k : ℕ) (c : Call) → GoodBut p late w → Directed c w → Stands w o k c.number
    → (o ≡ c.owner) × (k ≡ place_of_entry p c.entry)
stands-where p w o k c good directed h = by_call (call_of w c.number) refl (good.there o k c.number h) where
  by_call : (found : Option Call) → call_of w c.number ≡ found → is_some found ≡ true → (o ≡ c.owner) × (k ≡ place_of_entry p c.entry)
  by_call None e f = cc
  by_call (Some d) e f =
      let parts = and_parts (is_queued d && same_owner o d.owner) (eqb (place_of_entry p d.entry) k) (good.right o k c.number d h e) in
      let owner = (and_parts (is_queued d) (same_owner o d.owner) parts.0).1 in
      let as_said = directed o k h d e in
      (same-owner o d.owner owner ∙ as_said.0, sym (eqb-true (place_of_entry p d.entry) k parts.1) ∙ ap (place_of_entry p) as_said.1)

pub unqueued-out : {late : CallNo → Bool} (p : Image) (c : Call) (w : World) → GoodBut p late w → Directed c w → Out c.number (unqueued p c w)
unqueued-out p c w good directed o k h =
    let taken = edit_queue c.owner (place_of_entry p c.entry) (take_call c.number) w in
    let left = dropped-stands (is_timeout_of c.number) taken o k c.number h in
    let calm : Calm any_kind w (unqueued p c w) = unqueued-calm p c w in
    let where_it_stands = stands-where p w o k c good directed (calm.queues o k c.number h) in
    let here : Stands taken c.owner (place_of_entry p c.entry) c.number =
    subst (λ q. Stands taken q (place_of_entry p c.entry) c.number) where_it_stands.0 (subst (λ n. Stands taken o n c.number) where_it_stands.1 left) in
    true≢false (sym here ∙ taken-out c.owner (place_of_entry p c.entry) c.number w)
