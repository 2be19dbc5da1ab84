-- Where a trigger may strike, and what stands on top of somebody whose part ends.
use Rattle.std.proofs.Common.{◌≡◌, ℕ, Bool, true, false, ◌&&◌, List, [], ◌∷◌, Option, Some, None, refl, sym, ap, subst, ◌∙◌, eq-eqb}
use Rattle.std.proofs.lemmas.Bool.{and_from, eqb-true, false≢true}
use Rattle.ann_base.specs.declared.identities.CallNo.{CallNo}
use Rattle.ann_base.specs.declared.identities.TaskNo.{TaskNo}
use Rattle.trace_text.specs.declared.events.Who.{Who}
use Rattle.trace_text.specs.declared.events.Who.TheVariants as who
use Rattle.profile_image.specs.declared.image.Image.{Image}
use Rattle.profile_machine.specs.declared.world.World.{World}
use Rattle.profile_machine.specs.declared.world.calls.Call.{Call}
use Rattle.profile_machine.specs.declared.world.calls.Owner.{Owner}
use Rattle.profile_machine.specs.declared.world.calls.Owner.TheVariants as owned_by
use Rattle.profile_machine.specs.declared.world.marks.Frame.{Frame}
use Rattle.profile_machine.specs.declared.world.marks.Mark.{Mark}
use Rattle.profile_machine.specs.declared.world.marks.Mark.TheVariants.{Abortable}
use Rattle.profile_machine.specs.declared.world.tasks.Task.{Task}
use Rattle.profile_machine.specs.declared.world.tasks.Waiting.{Waiting}
use Rattle.profile_machine.specs.declared.world.tasks.Waiting.TheVariants as waits_for
use Rattle.profile_machine.specs.declared.world.appointments.Appointment.{Appointment}
use Rattle.profile_machine.specs.declared.world.appointments.Due.{Due}
use Rattle.profile_machine.specs.declared.world.appointments.Due.TheVariants as due_for
use Rattle.profile_machine.specs.declared.world.lines.Part.TheVariants.{Own}
use Rattle.profile_machine.specs.declared.world.lines.Said.{Said}
use Rattle.profile_image.specs.Words.{same_call, same_bool, is_the}
use Rattle.world_tables.specs.Lists.{first_of}
use Rattle.profile_machine.specs.declared.world.lines.Line.TheVariants as line
use Rattle.profile_machine.specs.Steps.{Step, says, changes, ◌▷◌}
use Rattle.profile_machine.specs.Tasks.{nobody, is_who, is_made, task_at, task_of, found_task, edit_task, with_frames, waiting_in, waiting_of}
use Rattle.profile_machine.specs.Frames.{frames_of, top_of, with_mark}
use Rattle.profile_machine.specs.Appointments.{is_trigger_of, is_timeout_of, is_appointed, is_an_event, drop_appointment, first_due}
use Rattle.profile_machine.specs.Calls.{is_call, edit_call, edit_queue, unqueued, take_call, place_of_entry, is_cancellable, attempt_on}
use Rattle.profile_machine.specs.CallEnds.{is_abortable_of, depth_of_abortable, abortable_depth, edit_depth}
use Rattle.profile_machine.specs.CallEnds.{edit_abortable, edit_abortable_at, waited_mark, waits_for_end}
use Rattle.profile_machine.specs.Act.{drop_trigger, below}
use Rattle.profile_machine.specs.Instant.{is_the_same_due}
use Rattle.profile_machine.specs.WellFormed.{awaits_trigger, awaits_trigger_at}
use Rattle.std.specs.Prelude.{find, int_le, pos, unwrap_or}
use Rattle.line_laws.proofs.Exits.TaskEdits.{one_of, one_of-is, edited}
use Rattle.line_laws.proofs.Exits.Steady.{FreeIn}
use Rattle.world_laws.proofs.Marks.MarkFacts.{Calm, Unarmed, Unappointed, CanTrigger, GoodMarks, WaitsOf, is_own_scope, top_awaits}
use Rattle.world_laws.proofs.Marks.StandingLemmas.{own_top-stands}
use Rattle.world_laws.proofs.Marks.TopLemmas.{at_same, calm_edited}
use Rattle.world_laws.proofs.Marks.DepthLemmas.{waited-top, of_call-found, of_call-awaits, of_call-part}
use Rattle.world_laws.proofs.Marks.DepthLemmas.{awaits-found, awaits-part, awaits-uncalled, frame-awaits}
use Rattle.world_laws.proofs.Marks.TaskFacts.{all-found, all-map, distinct-found, found-test, found-any, none-without}
use Rattle.world_laws.proofs.Queues.Listed.{AllTasks}
use Rattle.machine_laws.proofs.Kept.Combinators.{world_behind}
use Rattle.machine_laws.proofs.QueueLemmas.{by_test}

-- ---- somebody

waits-found : (w : World) → GoodMarks w → (n : TaskNo) (found : Option Task) → found_task (who.Task n) w.tasks ≡ found → WaitsOf (unwrap_or found nobody)
waits-found w good n None e = λ c is. absurd (false≢true is)
waits-found w good n (Some t) e = all-found WaitsOf (is_who (who.Task n)) t w.tasks good.waits e

pub waits_of : (w : World) → GoodMarks w → (n : TaskNo) → WaitsOf (task_of w (who.Task n))
waits_of w good n = waits-found w good n (found_task (who.Task n) w.tasks) refl

-- ---- the mark on top of who is calm

abbrev pub TopCalm : Who → Frame → World → Type 0
TopCalm name f w = (top_of w name ≡ Some f) × Calm name w

some-frame : (x y : Frame) → Some x ≡ Some y → x ≡ y
some-frame x y e = cc

pub same_tops : (name : Who) (f x : Frame) (w : World) → top_of w name ≡ Some f → top_of w name ≡ Some x → x.mark ≡ f.mark
same_tops name f x w a b = ap (λ (y : Frame). y.mark) (some-frame x f (sym b ∙ a))

-- an edit of anybody that leaves marks and states
edited-top_calm : (name n : Who) (f : Frame) (g : Task → Task) (w : World) → ((t : Task) → (g t).who ≡ t.who) → ((t : Task) → (g t).frames ≡ t.frames)
    → ((t : Task) → (g t).state ≡ t.state) → TopCalm name f w → TopCalm name f (edit_task n g w)
edited-top_calm name n f g w named frames state h =
    let v = edit_task n g w in
    let P : Task → Type 0 = λ t. (first_of t.frames ≡ Some f) × FreeIn name t.state in
    subst P (one_of-is v name)
    (edited P name n g w named (λ same t k. (ap first_of (frames t) ∙ k.0, subst (FreeIn name) (sym (state t)) k.1)) (subst P (sym (one_of-is w name)) h))

queued-top_calm : (name : Who) (f : Frame) (owner : Owner) (place : ℕ) (g : List CallNo → List CallNo) (w : World) → TopCalm name f w
    → TopCalm name f (edit_queue owner place g w)
queued-top_calm name f (owned_by.Task t) place g w h = edited-top_calm name (who.Task t) f _ w (λ u. refl) (λ u. refl) (λ u. refl) h
queued-top_calm (who.Task n) f (owned_by.Object o) place g w h = h
queued-top_calm who.Agent f (owned_by.Object o) place g w h = h

dropped-top_calm : (name : Who) (f : Frame) (test : Due → Bool) (w : World) → TopCalm name f w → TopCalm name f (drop_appointment test w)
dropped-top_calm (who.Task n) f test w h = h
dropped-top_calm who.Agent f test w h = h

called-top_calm : (name : Who) (f : Frame) (c : CallNo) (g : Call → Call) (w : World) → TopCalm name f w → TopCalm name f (edit_call c g w)
called-top_calm (who.Task n) f c g w h = h
called-top_calm who.Agent f c g w h = h

-- an attempt to cancel a call leaves it
cancelled-top_calm : (p : Image) (name : Who) (f : Frame) (d : Call) (w : World) (said : List Said) (b : Bool) → TopCalm name f w
    → TopCalm name f
    (world_behind
    ((elim b as (λ _. Step) [
      | true ↦ changes (unqueued p d) ▷ says Own (line.Cancel d.caller d.number)
      | false ↦ changes (edit_call d.number (λ e. record e { attempted = true }))
    ]) w said))
cancelled-top_calm p name f d w said true h =
    dropped-top_calm name f (is_timeout_of d.number) (edit_queue d.owner (place_of_entry p d.entry) (take_call d.number) w)
    (queued-top_calm name f d.owner (place_of_entry p d.entry) (take_call d.number) w h)
cancelled-top_calm p name f d w said false h = called-top_calm name f d.number (λ e. record e { attempted = true }) w h

pub attempt-top_calm : (p : Image) (name : Who) (f : Frame) (d : Call) (w : World) (said : List Said) → TopCalm name f w
    → TopCalm name f (world_behind (attempt_on p Own d w said))
unfolding attempt_on
attempt-top_calm p name f d w said h = cancelled-top_calm p name f d w said (is_cancellable d) h

-- ---- no trigger is appointed any more

pub dropped-unappointed : (name : Who) (w : World) → Unappointed name (drop_trigger name (below (frames_of w name)) w)
dropped-unappointed (who.Task t) w = none-without (λ (a : Appointment). is_trigger_of t (below (frames_of w (who.Task t))) a.due) w.appointments
dropped-unappointed who.Agent w = tt

pub dropped-calm : (name : Who) (depth : ℕ) (w : World) → Calm name w → Calm name (drop_trigger name depth w)
dropped-calm (who.Task t) depth w h = h
dropped-calm who.Agent depth w h = h

pub found-same_call : (c : CallNo) (d : Call) (calls : List Call) → find (is_call c) calls ≡ Some d → is_the same_call (Some c) d.number ≡ true
found-same_call c d calls e = found-test (is_call c) d calls e

-- ---- behind the end of a wait

top-quiet : (fs : List Frame) (f : Frame) → first_of fs ≡ Some f → top_awaits fs ≡ false → awaits_trigger f.mark ≡ false
top-quiet [] f e h = cc
top-quiet (x ∷ xs) f e h = let same : x ≡ f = cc in subst (λ (y : Frame). awaits_trigger y.mark ≡ false) same h

pub waited-quiet : (name : Who) (c : CallNo) (depth : ℕ) (b : Bool) (f : Frame) (v : World) → depth_of_abortable c (frames_of v name) ≡ Some depth
    → top_awaits (frames_of v name) ≡ false → top_of (edit_abortable_at name depth (waited_mark b) v) name ≡ Some f → awaits_trigger f.mark ≡ false
waited-quiet name c depth b f v found quiet top =
    let edit = λ (x : Frame). with_mark (edit_abortable (waited_mark b) x.mark) x in
    top-quiet (frames_of (edit_abortable_at name depth (waited_mark b) v) name) f top
    (at_same (λ t. (depth_of_abortable c t.frames ≡ Some depth) × (top_awaits t.frames ≡ false)) (λ t. top_awaits t.frames ≡ false) name
    (λ t. with_frames (edit_depth depth edit t.frames) t) v (λ t. refl)
    (λ t h. waited-top b c depth t.frames h.0 h.1) (λ h. refl) (found, quiet))

pub waited-calm : (name : Who) (depth : ℕ) (b : Bool) (v : World) → Calm name v → Calm name (edit_abortable_at name depth (waited_mark b) v)
waited-calm name depth b v h = calm_edited name _ v (λ t. refl) (λ t. refl) h

-- ---- where a trigger may strike

-- an appointed trigger is one of a part that awaits it
appointed-awaits : (w : World) → GoodMarks w → (t : TaskNo) (depth : ℕ) (u : Task) → task_at w (who.Task t) ≡ Some u
    → is_appointed (is_trigger_of t depth) w ≡ true → awaits_trigger_at depth u.frames ≡ true
appointed-awaits w good t depth u found is =
    let same : one_of w.tasks w.agent (who.Task t) ≡ u = ap (λ o. unwrap_or o nobody) found in
    subst (λ (x : Task). awaits_trigger_at depth x.frames ≡ true) same (good.triggers t depth is).1.0.0

-- for who is only made no trigger is appointed
made-case : (w : World) → GoodMarks w → (name : Who) (t : Task) → find (is_who name) w.tasks ≡ Some t → is_made t ≡ true → Unarmed name w
made-case w good who.Agent t found made = tt
made-case w good (who.Task n) t found made = λ d.
    by_test (is_appointed (is_trigger_of n d) w)
    (λ e. absurd (false≢true (sym (good.triggers n d e).1.1 ∙ ap (λ o. is_made (unwrap_or o nobody)) found ∙ made))) (λ e. e)

pub made-unarmed : (w : World) → GoodMarks w → AllTasks (λ t. is_made t ≡ true → Unarmed t.who w) w.tasks
made-unarmed w good =
    all-map (λ t. find (is_who t.who) w.tasks ≡ Some t) (λ t. is_made t ≡ true → Unarmed t.who w) w.tasks (λ t found made. made-case w good t.who t found made)
    (distinct-found w.tasks good.single)

-- nor for whose own scope is on top
pub own_scope-unarmed : (w : World) → GoodMarks w → (name : Who) (f : Frame) → top_of w name ≡ Some f → is_own_scope f.mark ≡ true → Unarmed name w
own_scope-unarmed w good who.Agent f top own = tt
own_scope-unarmed w good (who.Task n) f top own = λ d.
    by_test (is_appointed (is_trigger_of n d) w) (λ e. absurd (own_top-stands d f (frames_of w (who.Task n)) top own (good.triggers n d e).1.0)) (λ e. e)

-- a call has one number
one_call : (c d : CallNo) (call : Option CallNo) → is_the same_call call c ≡ true → is_the same_call call d ≡ true → c.0 ≡ d.0
one_call c d None a b = absurd (false≢true a)
one_call c d (Some k) a b = sym (eqb-true k.0 c.0 a) ∙ eqb-true k.0 d.0 b

part-number : (c d : CallNo) (mark : Mark) → is_abortable_of c mark ≡ true → is_abortable_of d mark ≡ true → c.0 ≡ d.0
part-number c d (Abortable m) a b = one_call c d m.call a b
part-number c d _ a b = absurd (false≢true a)

ended-number : (c d : CallNo) (waiting : Option Waiting) → c.0 ≡ d.0 → waits_for_end d waiting ≡ true → waits_for_end c waiting ≡ true
ended-number c d (Some (waits_for.EndOfCall k)) same h = eq-eqb c.0 k.0 (same ∙ eqb-true d.0 k.0 h)
ended-number c d _ same h = absurd (false≢true h)

other_call : (c d : CallNo) (waiting : Option Waiting) (mark : Mark) → waits_for_end c waiting ≡ false → waits_for_end d waiting ≡ true
    → is_abortable_of c mark ≡ true → is_abortable_of d mark ≡ false
other_call c d waiting mark apart waits of_call =
    by_test (is_abortable_of d mark) (λ e. absurd (false≢true (sym apart ∙ ended-number c d waiting (part-number c d mark of_call e) waits))) (λ e. e)

pub call-can_trigger : (w : World) → GoodMarks w → (c : Call) (depth : ℕ) → waits_for_end c.number (waiting_of w (who.Task c.caller)) ≡ false
    → abortable_depth w c ≡ Some depth → CanTrigger c.caller depth w
call-can_trigger w good c depth apart found u is =
    let here : task_of w (who.Task c.caller) ≡ u = ap (λ o. unwrap_or o nobody) is in
    let of_call = of_call-found c.number depth u.frames (subst (λ (x : Task). depth_of_abortable c.number x.frames ≡ Some depth) here found) in
    record {
      frame = of_call.frame;
      found = of_call.found;
      part = of_call-part c.number of_call.frame.mark of_call.has;
      unappointed = by_test (is_appointed (is_trigger_of c.caller depth) w)
          (λ e. absurd (false≢true
          (sym (of_call-awaits c.number of_call.frame.mark of_call.has) ∙ sym (frame-awaits depth of_call.frame u.frames of_call.found)
          ∙ appointed-awaits w good c.caller depth u is e)))
          (λ e. e);
      unawaited =
          λ d waits. other_call c.number d (waiting_in u.state) of_call.frame.mark
          (subst (λ (x : Task). waits_for_end c.number (waiting_in x.state) ≡ false) here apart) waits of_call.has;
    }

-- what comes due may strike
abbrev pub DueRightly : World → Due → Type 0
DueRightly w (due_for.Event n h) = Unit {0}
DueRightly w (due_for.Delay t) = Unit {0}
DueRightly w (due_for.Timeout c) = Unit {0}
DueRightly w (due_for.Trigger t depth) = CanTrigger t depth w

trigger-due : (w : World) → GoodMarks w → (t : TaskNo) (depth : ℕ) → is_appointed (is_trigger_of t depth) w ≡ true
    → CanTrigger t depth (drop_appointment (is_the_same_due (due_for.Trigger t depth)) w)
trigger-due w good t depth appointed u is =
    let part = awaits-found depth u.frames (appointed-awaits w good t depth u is appointed) in
    record {
      frame = part.frame;
      found = part.found;
      part = awaits-part part.frame.mark part.has;
      unappointed = none-without (λ (a : Appointment). is_trigger_of t depth a.due) w.appointments;
      unawaited = λ d waits. awaits-uncalled d part.frame.mark part.has;
    }

due-case : (w : World) → GoodMarks w → (due : Due)
    → ((t : TaskNo) (depth : ℕ) → is_trigger_of t depth due ≡ true → is_appointed (is_trigger_of t depth) w ≡ true)
    → DueRightly (drop_appointment (is_the_same_due due) w) due
due-case w good (due_for.Event n h) k = tt
due-case w good (due_for.Delay t) k = tt
due-case w good (due_for.Timeout c) k = tt
due-case w good (due_for.Trigger t depth) k = trigger-due w good t depth (k t depth (and_from _ _ (eq-eqb t.0 t.0 refl) (eq-eqb depth depth refl)))

pub due_rightly : (w : World) → GoodMarks w → (events : Bool) (a : Appointment) → first_due events w.time w.appointments ≡ Some a
    → DueRightly (drop_appointment (is_the_same_due a.due) w) a.due
due_rightly w good events a found =
    due-case w good a.due
    (λ t depth is. found-any (λ (x : Appointment). is_trigger_of t depth x.due)
    (λ (x : Appointment). int_le x.moment (pos w.time) && same_bool (is_an_event x.due) events) a w.appointments found is)
