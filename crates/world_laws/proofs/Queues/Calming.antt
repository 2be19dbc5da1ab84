-- Changes of a world by which no call is made, none comes into a queue, and none is served that was not.
use Rattle.std.proofs.Common.{◌≡◌, ℕ, suc, ◌≤◌, ◌<◌, Bool, true, false, cond, ◌⊎◌, inl, inr, List}
use Rattle.std.proofs.Common.{[], ◌∷◌, Option, Some, None, refl, sym, ap, subst, ◌∙◌, arith}
use Rattle.std.specs.Prelude.{find, is_some}
use Rattle.std.specs.List.{list_all, list_any}
use Rattle.std.proofs.lemmas.Bool.{and_from, and_parts, true≢false}
use Rattle.ann_base.specs.declared.identities.CallNo.{CallNo}
use Rattle.ann_base.specs.declared.identities.ObjectNo.{ObjectNo}
use Rattle.ann_base.specs.declared.identities.TaskNo.{TaskNo}
use Rattle.trace_text.specs.declared.events.Who.{Who}
use Rattle.trace_text.specs.declared.events.Who.TheVariants as who
use Rattle.profile_machine.specs.declared.world.World.{World}
use Rattle.profile_machine.specs.declared.world.calls.Call.{Call}
use Rattle.profile_machine.specs.declared.world.calls.Owner.{Owner}
use Rattle.profile_machine.specs.declared.world.calls.Owner.TheVariants as owned_by
use Rattle.profile_machine.specs.declared.world.objects.Object.{Object}
use Rattle.profile_machine.specs.declared.world.tasks.Task.{Task}
use Rattle.profile_image.specs.Words.{same_who, same_call, has, set_where}
use Rattle.profile_machine.specs.declared.world.appointments.Appointment.{Appointment}
use Rattle.profile_machine.specs.declared.world.appointments.Due.{Due}
use Rattle.profile_machine.specs.Tasks.{is_who, nobody, task_at, task_of, edit_task_found, edit_task, waiting_in}
use Rattle.profile_machine.specs.Appointments.{is_appointed, is_timeout_of, is_trigger_of}
use Rattle.profile_machine.specs.Values.{is_object, queue_at, queues_of}
use Rattle.profile_machine.specs.Calls.{is_call, call_of, edit_object}
use Rattle.world_laws.proofs.Counts.NumberedLists as numbered
use Rattle.line_laws.proofs.Exits.TaskEdits as edits_of
use Rattle.profile_machine.specs.Notation.{agent, t}
use Rattle.profile_machine.specs.WellFormed.{number_in}
use Rattle.machine_laws.proofs.ListLemmas.{Falls, Falls-edit_where, Rises, Rises-set_where}
use Rattle.world_laws.proofs.Queues.Standing.{Awaited, Calm, Came, Ended, Fall, Idle, Kind, Open, Own, Stands, Unfirm, Waited}
use Rattle.world_laws.proofs.Queues.Standing.{awaits_at, ends_by, has_own, is_ending, is_named, is_task, natures, natures_of}
use Rattle.world_laws.proofs.Queues.Standing.{none_late, object_key, served_in, some_nature, task_number, top_waits, waits_end}

-- ---- what an edit of somebody leaves alone

found-calls : (name : Who) (f : Task → Task) (w : World) (found : Option Task) → (edit_task_found name f w found).calls ≡ w.calls
found-calls name f w None = refl
found-calls (who.Task n) f w (Some t) = refl
found-calls who.Agent f w (Some t) = refl

found-objects : (name : Who) (f : Task → Task) (w : World) (found : Option Task) → (edit_task_found name f w found).objects ≡ w.objects
found-objects name f w None = refl
found-objects (who.Task n) f w (Some t) = refl
found-objects who.Agent f w (Some t) = refl

found-drawn : (name : Who) (f : Task → Task) (w : World) (found : Option Task) → (edit_task_found name f w found).drawn ≡ w.drawn
found-drawn name f w None = refl
found-drawn (who.Task n) f w (Some t) = refl
found-drawn who.Agent f w (Some t) = refl

pub edit_task-calls : (name : Who) (f : Task → Task) (w : World) → (edit_task name f w).calls ≡ w.calls
edit_task-calls name f w = found-calls name f w (task_at w name)

pub edit_task-objects : (name : Who) (f : Task → Task) (w : World) → (edit_task name f w).objects ≡ w.objects
edit_task-objects name f w = found-objects name f w (task_at w name)

pub edit_task-drawn : (name : Who) (f : Task → Task) (w : World) → (edit_task name f w).drawn ≡ w.drawn
edit_task-drawn name f w = found-drawn name f w (task_at w name)

-- what somebody was, and is behind the edit of somebody
module _ (name : Who) (f : Task → Task) (w : World) (named : (t : Task) → (f t).who ≡ t.who) (S : Who → Task → Task → Type 0)
    (stays : (me : Who) → S me (task_of w me) (task_of w me)) (edits : S name (task_of w name) (f (task_of w name))) where
  edited-one : (me : Who) → same_who me name ≡ true → (t : Task) → t ≡ task_of w me → S me (task_of w me) (f t)
  edited-one me same t e =
      let one : me ≡ name = edits_of.same_who-path me name same in
      subst (λ x. S me (task_of w me) (f x)) (sym e) (subst (λ n. S n (task_of w n) (f (task_of w n))) (sym one) edits)

  other-one : (me : Who) (t : Task) → t ≡ task_of w me → S me (task_of w me) t
  other-one me t e = subst (S me (task_of w me)) (sym e) (stays me)

  pub task-edited : (me : Who) → S me (task_of w me) (task_of (edit_task name f w) me)
  task-edited (who.Task n) =
      edits_of.edited_to (λ t. t ≡ task_of w (who.Task n)) (S (who.Task n) (task_of w (who.Task n))) (who.Task n) name f w named (edited-one (who.Task n))
      (λ apart t e. other-one (who.Task n) t e) (λ e. other-one (who.Task n) nobody e) refl
  task-edited who.Agent =
      edits_of.edited_to (λ t. t ≡ task_of w who.Agent) (S who.Agent (task_of w who.Agent)) who.Agent name f w named (edited-one who.Agent)
      (λ apart t e. other-one who.Agent t e) (λ e. other-one who.Agent nobody e) refl

pub task_of-same : (w v : World) → v.tasks ≡ w.tasks → v.agent ≡ w.agent → (me : Who) → task_of v me ≡ task_of w me
task_of-same w v same whole (who.Task n) = ap (λ ts. edits_of.one_of ts w.agent (who.Task n)) same
task_of-same w v same whole who.Agent = whole

-- ---- names

named-set_step : (x t : Task) (ts others : List Task) (b : Bool) → is_named x ≡ true → is_named t ≡ true → list_all is_named ts ≡ true
    → list_all is_named others ≡ true → list_all is_named (cond b (x ∷ ts) (t ∷ others)) ≡ true
named-set_step x t ts others true h first rest more = and_from (is_named x) (list_all is_named ts) h rest
named-set_step x t ts others false h first rest more = and_from (is_named t) (list_all is_named others) first more

named-set : (name : Who) (x : Task) (ts : List Task) → is_named x ≡ true → list_all is_named ts ≡ true → list_all is_named (set_where (is_who name) x ts) ≡ true
named-set name x [] h all = refl
named-set name x (t ∷ ts) h all =
    let parts = and_parts (is_named t) (list_all is_named ts) all in
    named-set_step x t ts (set_where (is_who name) x ts) (is_who name t) h parts.0 parts.1 (named-set name x ts h parts.1)

found-one : (P : Task → Type 0) (b : Bool) (t x : Task) (rest : Option Task) → P t → (rest ≡ Some x → P x) → cond b (Some t) rest ≡ Some x → P x
found-one P true t x rest h onward e = let one : t ≡ x = cc in subst P one h
found-one P false t x rest h onward e = onward e

pub named-found : (test : Task → Bool) (x : Task) (ts : List Task) → list_all is_named ts ≡ true → find test ts ≡ Some x → is_named x ≡ true
named-found test x [] all e = absurd cc
named-found test x (t ∷ ts) all e =
    let parts = and_parts (is_named t) (list_all is_named ts) all in
    found-one (λ y. is_named y ≡ true) (test t) t x (find test ts) parts.0 (named-found test x ts parts.1) e

pub named-edited : (name : Who) (f : Task → Task) (w : World) (found : Option Task) → task_at w name ≡ found → ((t : Task) → (f t).who ≡ t.who)
    → list_all is_named w.tasks ≡ true → list_all is_named (edit_task_found name f w found).tasks ≡ true
named-edited name f w None e who_is all = all
named-edited (who.Task n) f w (Some t) e who_is all =
    named-set (who.Task n) (f t) w.tasks (ap is_task (who_is t) ∙ named-found (is_who (who.Task n)) t w.tasks all e) all
named-edited who.Agent f w (Some t) e who_is all = all

-- ---- a task that becomes calmer

-- some of whose calls may leave its queues
pub record Softens (E : Kind) (late : CallNo → Bool) (me : Who) (w : World) (t u : Task) : Type 0 where
  pub named : u.who ≡ t.who
  pub queues : (k : ℕ) (c : CallNo) → has same_call (queue_at u.queues k) c ≡ true → has same_call (queue_at t.queues k) c ≡ true
  pub stays : (k : ℕ) (c : CallNo) → has same_call (queue_at t.queues k) c ≡ true → (has same_call (queue_at u.queues k) c ≡ true) ⊎ (late c ≡ true)
  pub completed : u.completed ≡ t.completed
  pub fewer : (c : CallNo) → served_in c (natures u.frames) ≤ served_in c (natures t.frames)
  pub owns : (c : CallNo) → some_nature (has_own c) (natures u.frames) ≡ true → (some_nature (has_own c) (natures t.frames) ≡ true) ⊎ Own me c w
  pub ended : (c : CallNo) → some_nature (ends_by c) (natures u.frames) ≡ true → (some_nature (ends_by c) (natures t.frames) ≡ true) ⊎ Ended c w
  pub awaits : (n : TaskNo) (depth : ℕ) → me ≡ who.Task n → is_appointed (is_trigger_of n depth) w ≡ true → awaits_at depth (natures t.frames) ≡ true
      → awaits_at depth (natures u.frames) ≡ true
  pub ends : (c : CallNo) → waiting_in u.state ≡ waits_end c
      → (waiting_in t.state ≡ waits_end c) × ((d : Call) → call_of w c ≡ Some d → is_ending c t.frames ≡ true → is_ending c u.frames ≡ true)
  pub tops : E.steady me ≡ true → top_waits (natures t.frames) ≡ false → top_waits (natures u.frames) ≡ false

pub softens-same : {E : Kind} {late : CallNo → Bool} (me : Who) (w : World) (t : Task) → Softens E late me w t t
softens-same me w t = record {
  named = refl;
  queues = λ k c h. h;
  stays = λ k c h. inl h;
  completed = refl;
  fewer = λ c. omega arith;
  owns = λ c h. inl h;
  ended = λ c h. inl h;
  awaits = λ n depth is set h. h;
  ends = λ c h. (h, λ d e i. i);
  tops = λ is h. h;
}

-- ---- changes that are calm

pub came-same : {E : Kind} (w v : World) (c : CallNo) (y : Call) → v.calls ≡ w.calls → call_of v c ≡ Some y → Came E w v c y
came-same w v c y same e = record {
  before = y;
  found = ap (λ ds. find (is_call c) ds) (sym same) ∙ e;
  directed = λ o k h. (refl, refl);
  caller = refl;
  outcome = λ h. h;
  steady = λ h. (refl, refl);
  queued = λ o k h. (refl, refl);
  served = λ a h. (refl, refl);
}

abbrev pub StandsAt : List Object → ObjectNo → ℕ → CallNo → Type 0
StandsAt objects o k c = has same_call (queue_at (queues_of (find (is_object o) objects)) k) c ≡ true

-- what is known of time-outs: the calls that leave their queues have none
pub record Waits (late : CallNo → Bool) (w v : World) : Type 0 where
  pub gone : (c : CallNo) → late c ≡ true → is_appointed (is_timeout_of c) v ≡ true → ⊥
  pub objects : Fall w → (o : ObjectNo) (k : ℕ) (c : CallNo) → StandsAt w.objects o k c → StandsAt v.objects o k c ⊎ (late c ≡ true)
  pub unfirm : (o : Owner) (k : ℕ) (c : CallNo) → Stands w o k c → Unfirm c w → Unfirm c v
  pub set : (c : CallNo) → is_appointed (is_timeout_of c) v ≡ true → (is_appointed (is_timeout_of c) w ≡ true) ⊎ Awaited c v

pub unfirm-same : (w v : World) (c : CallNo) → v.calls ≡ w.calls → Unfirm c w → Unfirm c v
unfirm-same w v c same h d e = h d (ap (λ ds. find (is_call c) ds) (sym same) ∙ e)

pub appointed-same : (test : Due → Bool) (w v : World) → v.appointments ≡ w.appointments → is_appointed test v ≡ true → is_appointed test w ≡ true
appointed-same test w v same h = ap (λ ds. list_any (λ (a : Appointment). test a.due) ds) (sym same) ∙ h

pub waits-same : (w v : World) → v.objects ≡ w.objects → v.calls ≡ w.calls → v.appointments ≡ w.appointments → Waits none_late w v
waits-same w v objects calls appointments = record {
  gone = λ c is h. true≢false (sym is);
  objects = λ fall o k c h. inl (subst (λ xs. StandsAt xs o k c) (sym objects) h);
  unfirm = λ o k c h. unfirm-same w v c calls;
  set = λ c h. inl (appointed-same (is_timeout_of c) w v appointments h);
}

module _ {E : Kind} {late : CallNo → Bool} (w v : World) (soft : (me : Who) → Softens E late me w (task_of w me) (task_of v me))
    (objects : (o : ObjectNo) (k : ℕ) (c : CallNo) → StandsAt v.objects o k c → StandsAt w.objects o k c) where
  stood : (o : Owner) (k : ℕ) (c : CallNo) → Stands v o k c → Stands w o k c
  stood (owned_by.Task t) k c h = (soft (who.Task t)).queues k c h
  stood (owned_by.Object o) k c h = objects o k c h

  waited : (t : TaskNo) (depth : ℕ) → is_appointed (is_trigger_of t depth) w ≡ true → Waited t depth w → Waited t depth v
  waited t depth set (inl h) = inl ((soft (who.Task t)).awaits t depth refl set h)
  waited t depth set (inr h) = inr (ap is_task (soft (who.Task t)).named ∙ h)

  opened : (o : Owner) (k : ℕ) (c : CallNo) → Stands v o k c → Open v o → Open w o
  opened (owned_by.Task t) k c h open_ = sym (soft (who.Task t)).completed ∙ open_
  opened (owned_by.Object o) k c h open_ = tt

  -- a call that has its time-out stands where it stood
  awaited : (c : CallNo) → Waits late w v → Fall w → is_appointed (is_timeout_of c) v ≡ true → Awaited c w → Awaited c v
  awaited c waits fall h was = by_owner was.owner was.place was.stands was.opens where
    unfirm : Unfirm c v
    unfirm = waits.unfirm was.owner was.place c was.stands was.unfirm

    in_task : (n : TaskNo) (k : ℕ) → (task_of w (who.Task n)).completed ≡ false
        → (has same_call (queue_at (task_of v (who.Task n)).queues k) c ≡ true) ⊎ (late c ≡ true) → Awaited c v
    in_task n k is (inl here) = record { owner = owned_by.Task n; place = k; stands = here; opens = (soft (who.Task n)).completed ∙ is; unfirm = unfirm }
    in_task n k is (inr out) = absurd (waits.gone c out h)

    in_object : (o : ObjectNo) (k : ℕ) → StandsAt v.objects o k c ⊎ (late c ≡ true) → Awaited c v
    in_object o k (inl here) = record { owner = owned_by.Object o; place = k; stands = here; opens = tt; unfirm = unfirm }
    in_object o k (inr out) = absurd (waits.gone c out h)

    by_owner : (o : Owner) (k : ℕ) → Stands w o k c → Open w o → Awaited c v
    by_owner (owned_by.Task n) k here is = in_task n k is ((soft (who.Task n)).stays k c here)
    by_owner (owned_by.Object o) k here is = in_object o k (waits.objects fall o k c here)

  timeouts : (c : CallNo) → Waits late w v → Fall w → is_appointed (is_timeout_of c) v ≡ true → (is_appointed (is_timeout_of c) w ≡ true) ⊎ Awaited c v
      → ((is_appointed (is_timeout_of c) w ≡ true) × (Awaited c w → Awaited c v)) ⊎ Awaited c v
  timeouts c waits fall h (inl was) = inl (was, awaited c waits fall h)
  timeouts c waits fall h (inr awaits) = inr awaits

  pub calm-from : v.drawn.calls ≡ w.drawn.calls → v.drawn.tasks ≡ w.drawn.tasks → (Fall w → Fall v)
      → (list_all is_named w.tasks ≡ true → list_all is_named v.tasks ≡ true)
      → ((c : CallNo) (y : Call) → call_of v c ≡ Some y → Came E w v c y)
      → ((c : CallNo) → ((o : Owner) × (k : ℕ) × Stands v o k c) ⊎ (E.stay c ≡ true) → is_some (call_of w c) ≡ true → is_some (call_of v c) ≡ true)
      → ((c : CallNo) → is_appointed (is_timeout_of c) v ≡ true → (is_appointed (is_timeout_of c) w ≡ true) ⊎ Idle c v)
      → ((t : TaskNo) (depth : ℕ) → is_appointed (is_trigger_of t depth) v ≡ true
      → (is_appointed (is_trigger_of t depth) w ≡ true) ⊎ ((t.0 < v.drawn.tasks) × Waited t depth v))
      → Waits late w v
      → Calm E w v
  calm-from drawn drawn_tasks fall all_named calls there timed set waits = record {
    drawn = drawn;
    tasks = subst (λ n. w.drawn.tasks ≤ n) (sym drawn_tasks) (omega arith);
    queues = stood;
    there = λ o k c h. there c (inl (o, k, h));
    kept = λ c is. there c (inr is);
    agent = λ k c h. (soft who.Agent).queues k c h;
    calls = calls;
    fewer = λ a c. (soft a).fewer c;
    timed = timed;
    timeouts = λ fall_then c h. timeouts c waits fall_then h (waits.set c h);
    opened = opened;
    objects = fall;
    named = all_named;
    present = λ t h. inl (ap is_task (sym (soft (who.Task t)).named) ∙ h);
    owns = λ a c h. owned a c ((soft a).owns c h);
    ended = λ a c h. has_ended c ((soft a).ended c h);
    triggers = λ t depth h. set_before t depth (set t depth h);
    ends = λ a c h. let e = (soft a).ends c h in (e.0, λ d is i. let x = calls c d is in e.1 x.before x.found i);
    tops = λ a is h. (soft a).tops is h;
  } where
    set_before : (t : TaskNo) (depth : ℕ) → (is_appointed (is_trigger_of t depth) w ≡ true) ⊎ ((t.0 < v.drawn.tasks) × Waited t depth v)
        → ((is_appointed (is_trigger_of t depth) w ≡ true) × (t.0 < w.drawn.tasks → Waited t depth w → Waited t depth v))
        ⊎ ((t.0 < v.drawn.tasks) × Waited t depth v)
    set_before t depth (inl h) = inl (h, λ low at. waited t depth h at)
    set_before t depth (inr made) = inr made

    owned : (a : Who) (c : CallNo) → (some_nature (has_own c) (natures_of w a) ≡ true) ⊎ Own a c w
        → (some_nature (has_own c) (natures_of w a) ≡ true) ⊎ Own a c v
    owned a c (inl h) = inl h
    owned a c (inr own) = inr (subst (λ n. c.0 ≤ n) (sym drawn) own.0, λ d e. let x = calls c d e in ap who.Task x.caller ∙ own.1 x.before x.found)

    has_ended : {P : Type 0} (c : CallNo) → P ⊎ Ended c w → P ⊎ Ended c v
    has_ended c (inl h) = inl h
    has_ended c (inr end) = inr (subst (λ n. c.0 ≤ n) (sym drawn) end.0, λ d e. let x = calls c d e in x.outcome (end.1 x.before x.found))

pub there-same : (w v : World) (c : CallNo) → v.calls ≡ w.calls → is_some (call_of w c) ≡ true → is_some (call_of v c) ≡ true
there-same w v c same e = ap (λ ds. is_some (find (is_call c) ds)) same ∙ e

-- nothing of it is changed
pub same-calm : {E : Kind} (w v : World) → v.tasks ≡ w.tasks → v.agent ≡ w.agent → v.objects ≡ w.objects → v.calls ≡ w.calls → v.drawn.calls ≡ w.drawn.calls
    → v.drawn.tasks ≡ w.drawn.tasks → v.appointments ≡ w.appointments → v.drawn.objects ≡ w.drawn.objects → Calm E w v
same-calm {E = E} w v same_tasks agent objects calls drawn drawn_tasks appointments drawn_objects =
    calm-from w v (λ me. subst (Softens E none_late me w (task_of w me)) (sym (task_of-same w v same_tasks agent me)) (softens-same me w (task_of w me)))
    (λ o k c h. subst (λ xs. StandsAt xs o k c) objects h)
    drawn drawn_tasks
    (λ h. (
      subst (λ n. Falls object_key (suc n) v.objects) (sym drawn_objects) (subst (λ xs. Falls object_key (suc w.drawn.objects) xs) (sym objects) h.0),
      subst (λ n. Rises task_number 0 n v.tasks) (sym drawn_tasks) (subst (λ ts. Rises task_number 0 w.drawn.tasks ts) (sym same_tasks) h.1),
    ))
    (λ h. ap (list_all is_named) same_tasks ∙ h)
    (λ c y e. came-same w v c y calls e)
    (λ c h e. there-same w v c calls e)
    (λ c h. inl (appointed-same (is_timeout_of c) w v appointments h)) (λ t depth h. inl (appointed-same (is_trigger_of t depth) w v appointments h))
    (waits-same w v objects calls appointments)

pub found-appointments : (name : Who) (f : Task → Task) (w : World) (found : Option Task) → (edit_task_found name f w found).appointments ≡ w.appointments
found-appointments name f w None = refl
found-appointments (who.Task n) f w (Some t) = refl
found-appointments who.Agent f w (Some t) = refl

rises-edited : (name : Who) (f : Task → Task) (w : World) (found : Option Task) → task_at w name ≡ found → ((t : Task) → (f t).who ≡ t.who)
    → Rises task_number 0 w.drawn.tasks w.tasks → Rises task_number 0 w.drawn.tasks (edit_task_found name f w found).tasks
rises-edited name f w None e who_is h = h
rises-edited (who.Task n) f w (Some t) e who_is h =
    Rises-set_where task_number (is_who (who.Task n)) t (f t) (ap number_in (who_is t)) 0 w.drawn.tasks w.tasks e h
rises-edited who.Agent f w (Some t) e who_is h = h

pub edit_task-fall : (name : Who) (f : Task → Task) (w : World) → ((t : Task) → (f t).who ≡ t.who) → Fall w → Fall (edit_task name f w)
edit_task-fall name f w who_is h =
    let v = edit_task name f w in (
      subst (λ d. Falls object_key (suc d.objects) v.objects) (sym (edit_task-drawn name f w))
          (subst (λ xs. Falls object_key (suc w.drawn.objects) xs) (sym (edit_task-objects name f w)) h.0),
      subst (λ d. Rises task_number 0 d.tasks v.tasks) (sym (edit_task-drawn name f w)) (rises-edited name f w (task_at w name) refl who_is h.1),
    )

-- somebody is edited
pub edit_task-calm : {E : Kind} (name : Who) (f : Task → Task) (w : World) → ((t : Task) → (f t).who ≡ t.who)
    → Softens E none_late name w (task_of w name) (f (task_of w name)) → Calm E w (edit_task name f w)
edit_task-calm {E = E} name f w who_is soft =
    let v = edit_task name f w in
    calm-from w v (task-edited name f w who_is (λ me t u. Softens E none_late me w t u) (λ me. softens-same me w (task_of w me)) soft)
    (λ o k c h. subst (λ xs. StandsAt xs o k c) (edit_task-objects name f w) h)
    (ap (λ d. d.calls) (edit_task-drawn name f w)) (ap (λ d. d.tasks) (edit_task-drawn name f w)) (λ h. edit_task-fall name f w who_is h)
    (λ h. named-edited name f w (task_at w name) refl who_is h)
    (λ c y e. came-same w v c y (edit_task-calls name f w) e) (λ c h e. there-same w v c (edit_task-calls name f w) e)
    (λ c h. inl (appointed-same (is_timeout_of c) w v (found-appointments name f w (task_at w name)) h))
    (λ t depth h. inl (appointed-same (is_trigger_of t depth) w v (found-appointments name f w (task_at w name)) h))
    (waits-same w v (edit_task-objects name f w) (edit_task-calls name f w) (found-appointments name f w (task_at w name)))

-- an object is edited into whose queues none comes, and out of which none goes
pub edit_object-calm : {E : Kind} (o : ObjectNo) (f : Object → Object) (w : World) → ((x : Object) → (f x).number ≡ x.number)
    → ((x : Object) (k : ℕ) (c : CallNo) → has same_call (queue_at (f x).queues k) c ≡ true → has same_call (queue_at x.queues k) c ≡ true)
    → ((x : Object) (k : ℕ) (c : CallNo) → has same_call (queue_at x.queues k) c ≡ true → has same_call (queue_at (f x).queues k) c ≡ true)
    → Calm E w (edit_object o f w)
edit_object-calm {E = E} o f w number queues stays =
    let v = edit_object o f w in
    calm-from w v (λ me. subst (Softens E none_late me w (task_of w me)) (sym (task_of-same w v refl refl me)) (softens-same me w (task_of w me)))
    (λ q k c h. numbered.edited object_key q.0 o.0 f (λ x. ap (λ n. n.0) (number x))
    (λ y. has same_call (queue_at (queues_of y) k) c ≡ true → StandsAt w.objects q k c) w.objects (λ e. e)
    (λ x is e. subst (λ y. has same_call (queue_at (queues_of y) k) c ≡ true) (sym is) (queues x k c e)) h)
    refl refl (λ h. (Falls-edit_where object_key (is_object o) f (λ x. ap (λ n. n.0) (number x)) (suc w.drawn.objects) w.objects h.0, h.1)) (λ h. h)
    (λ c y e. came-same w v c y refl e) (λ c h e. e) (λ c h. inl h) (λ t depth h. inl h)
    record {
      gone = λ c is h. true≢false (sym is);
      objects =
          λ fall q k c h.
          inl (numbered.edited object_key q.0 o.0 f (λ x. ap (λ n. n.0) (number x)) (λ y. has same_call (queue_at (queues_of y) k) c ≡ true) w.objects h
          (λ x is. stays x k c (subst (λ y. has same_call (queue_at (queues_of y) k) c ≡ true) is h)));
      unfirm = λ q k c h. unfirm-same w v c refl;
      set = λ c h. inl h;
    }
