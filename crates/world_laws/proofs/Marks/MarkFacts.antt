-- What is known of marks, waits and appointments in every world that a run reaches: each mark is struck for a cause, each trigger that
-- is appointed names an abortable part that awaits it, and each Finalize stands on a scope that is being left or on its assignment, whose
-- target stays registered.
use Rattle.std.proofs.Common.{◌≡◌, ◌⊎◌, ℕ, ◌<◌, ◌≤◌, Bool, true, false, cond, eqb, ◌&&◌, ◌||◌, not, List, [], ◌∷◌, Option, Some, None, length}
use Rattle.std.specs.Prelude.{◌-◌, leb, is_some, is_none, find}
use Rattle.std.specs.List.{list_any}
use Rattle.ann_base.specs.declared.identities.CallNo.{CallNo}
use Rattle.ann_base.specs.declared.identities.TaskNo.{TaskNo}
use Rattle.trace_text.specs.declared.events.Who.{Who}
use Rattle.trace_text.specs.declared.events.Who.TheVariants as who
use Rattle.profile_machine.specs.declared.world.World.{World}
use Rattle.profile_machine.specs.declared.world.marks.Frame.{Frame}
use Rattle.profile_machine.specs.declared.world.marks.Mark.{Mark}
use Rattle.profile_machine.specs.declared.world.marks.Mark.TheVariants.{Scope, Handled, InProtected, InAccept, Abortable, InInitialize, InFinalize, InAssign}
use Rattle.profile_machine.specs.declared.world.tasks.Task.{Task}
use Rattle.profile_machine.specs.declared.world.tasks.Waiting.{Waiting}
use Rattle.profile_machine.specs.declared.world.tasks.Waiting.TheVariants as waits_for
use Rattle.profile_machine.specs.declared.world.appointments.Due.{Due}
use Rattle.profile_machine.specs.declared.world.appointments.Due.TheVariants as due_for
use Rattle.profile_machine.specs.declared.world.appointments.Appointment.{Appointment}
use Rattle.profile_machine.specs.declared.world.appointments.Registered.{Registered}
use Rattle.profile_image.specs.Words.{same_who}
use Rattle.ann_base.specs.Lists.{is_empty}
use Rattle.profile_machine.specs.Tasks.{is_who, is_made, task_at, task_of, waiting_in}
use Rattle.profile_machine.specs.Frames.{frames_of}
use Rattle.profile_machine.specs.Appointments.{is_trigger_of, is_appointed}
use Rattle.profile_machine.specs.CallEnds.{is_abortable_of, waits_for_end}
use Rattle.profile_machine.specs.Controlled.{is_number}
use Rattle.profile_machine.specs.Tasking.{is_task_scope}
use Rattle.profile_machine.specs.WellFormed.{awaits_trigger, awaits_trigger_at, is_triggered}
use Rattle.line_laws.proofs.Exits.TaskEdits.{one_of}
use Rattle.line_laws.proofs.Exits.Steady.{FreeIn}
use Rattle.machine_laws.proofs.FineMoves.{is_abortable}
use Rattle.world_laws.proofs.Queues.Listed.{AllTasks}

-- ---- what a mark is, whatever is edited in it: the call and the trigger of an abortable part, and the object of a Finalize

abbrev pub part_in : Mark → Option (Option CallNo × Bool)
part_in (Scope m) = None
part_in (Handled s) = None
part_in (InProtected m) = None
part_in (InAccept m) = None
part_in (Abortable m) = Some (m.call, m.triggered)
part_in (InInitialize l) = None
part_in (InFinalize o) = None
part_in (InAssign m) = None

abbrev pub finalized_in : Mark → Option ℕ
finalized_in (Scope m) = None
finalized_in (Handled s) = None
finalized_in (InProtected m) = None
finalized_in (InAccept m) = None
finalized_in (Abortable m) = None
finalized_in (InInitialize l) = None
finalized_in (InFinalize o) = Some o
finalized_in (InAssign m) = None

-- a task's own scope
abbrev pub is_own_scope : Mark → Bool
is_own_scope (Scope m) = is_task_scope m.purpose
is_own_scope (Handled s) = false
is_own_scope (InProtected m) = false
is_own_scope (InAccept m) = false
is_own_scope (Abortable m) = false
is_own_scope (InInitialize l) = false
is_own_scope (InFinalize o) = false
is_own_scope (InAssign m) = false

pub record Nature : Type 0 where
  pub part : Option (Option CallNo × Bool)
  pub finalizes : Option ℕ
  pub own_scope : Bool

abbrev pub nature : Mark → Nature
nature mark = record { part = part_in mark; finalizes = finalized_in mark; own_scope = is_own_scope mark }

-- what only its own changes open: a Finalize, and a task's own scope
abbrev pub own_scope_in : Bool → Option (Option ℕ)
own_scope_in true = Some None
own_scope_in false = None

abbrev pub apart_in : Mark → Option (Option ℕ)
apart_in (Scope m) = own_scope_in (is_task_scope m.purpose)
apart_in (Handled s) = None
apart_in (InProtected m) = None
apart_in (InAccept m) = None
apart_in (Abortable m) = None
apart_in (InInitialize l) = None
apart_in (InFinalize o) = Some (Some o)
apart_in (InAssign m) = None

-- ---- a part that awaits its trigger, above which no task's own scope stands

abbrev pub own_scopes : List Frame → List Bool
own_scopes [] = []
own_scopes (f ∷ fs) = is_own_scope f.mark ∷ own_scopes fs

abbrev pub is_clear_above : ℕ → List Bool → Bool
is_clear_above depth [] = true
is_clear_above depth (own ∷ rest) = cond (eqb (length rest) depth) true (not own && is_clear_above depth rest)

abbrev pub StandsAt : ℕ → List Frame → Type 0
StandsAt depth fs = (awaits_trigger_at depth fs ≡ true) × (is_clear_above depth (own_scopes fs) ≡ true)

-- ---- who is calm: it waits for no entry call; what is appointed; and where a mark may end

abbrev pub Calm : Who → World → Type 0
Calm name w = FreeIn name (task_of w name).state

abbrev pub NoTrigger : TaskNo → ℕ → World → Type 0
NoTrigger t depth w = is_appointed (is_trigger_of t depth) w ≡ false

-- no trigger at all
abbrev pub Unarmed : Who → World → Type 0
Unarmed (who.Task t) w = (depth : ℕ) → NoTrigger t depth w
Unarmed who.Agent w = Unit {0}

-- who is there has begun
abbrev pub HasBegun : Who → Task → Type 0
HasBegun name t = is_who name t ≡ true → is_made t ≡ false

abbrev pub Begun : Who → World → Type 0
Begun name w = HasBegun name (task_of w name)

-- no trigger is appointed for the mark on top
abbrev pub Unappointed : Who → World → Type 0
Unappointed (who.Task t) w = NoTrigger t (length (frames_of w (who.Task t)) - 1) w
Unappointed who.Agent w = Unit {0}

-- the mark on top of somebody that is calm awaits no trigger, or none is appointed
abbrev pub Ends : Who → Frame → World → Type 0
Ends name f w = ((awaits_trigger f.mark ≡ false) ⊎ Unappointed name w) × Calm name w

-- ---- the frame of a depth, and whether the first part of a call is triggered

abbrev pub frame_at : ℕ → List Frame → Option Frame
frame_at depth [] = None
frame_at depth (f ∷ fs) = cond (eqb (length fs) depth) (Some f) (frame_at depth fs)

abbrev pub triggered_part : CallNo → List Frame → Bool
triggered_part c [] = false
triggered_part c (f ∷ fs) = cond (is_abortable_of c f.mark) (is_triggered f.mark) (triggered_part c fs)

abbrev pub top_awaits : List Frame → Bool
top_awaits [] = false
top_awaits (f ∷ fs) = awaits_trigger f.mark

abbrev pub ends_call : Option Waiting → Bool
ends_call None = false
ends_call (Some waits_for.Activation) = false
ends_call (Some waits_for.Moment) = false
ends_call (Some (waits_for.Call c)) = false
ends_call (Some (waits_for.EndOfCall c)) = true
ends_call (Some (waits_for.Accept s)) = false
ends_call (Some (waits_for.Select accepts delay terminate)) = false
ends_call (Some (waits_for.Dependents r)) = false
ends_call (Some waits_for.Release) = false

-- who waits for the end of a call has a mark on top that awaits no trigger, and its first part of this call is not triggered
abbrev pub WaitsRightly : Option Waiting → List Frame → Type 0
WaitsRightly waiting frames = (c : CallNo) → waits_for_end c waiting ≡ true → (top_awaits frames ≡ false) × (triggered_part c frames ≡ false)

-- a trigger may strike at this depth: an abortable part stands there, for which none is appointed, and whose call is not waited for
pub record MayTrigger (t : TaskNo) (depth : ℕ) (w : World) (u : Task) : Type 0 where
  pub frame : Frame
  pub found : frame_at depth u.frames ≡ Some frame
  pub part : is_abortable frame.mark ≡ true
  pub unappointed : NoTrigger t depth w
  pub unawaited : (c : CallNo) → waits_for_end c (waiting_in u.state) ≡ true → is_abortable_of c frame.mark ≡ false

abbrev pub CanTrigger : TaskNo → ℕ → World → Type 0
CanTrigger t depth w = (u : Task) → task_at w (who.Task t) ≡ Some u → MayTrigger t depth w u

-- ---- tasks that were drawn, and that are abnormal as long as they are there

abbrev pub DrawnTo : ℕ → Who → Type 0
DrawnTo drawn (who.Task n) = n.0 < drawn
DrawnTo drawn who.Agent = ⊥

abbrev pub Drawn : World → Who → Type 0
Drawn w name = DrawnTo w.drawn.tasks name

abbrev pub AbnormalAs : TaskNo → Task → Type 0
AbnormalAs n t = is_who (who.Task n) t ≡ true → t.abnormal ≡ true

abbrev pub MarkedIn : ℕ → List Task → Task → TaskNo → Type 0
MarkedIn drawn tasks agent n = (n.0 < drawn) × AbnormalAs n (one_of tasks agent (who.Task n))

abbrev pub Marked : World → TaskNo → Type 0
Marked w n = MarkedIn w.drawn.tasks w.tasks w.agent n

-- ---- the objects of Finalize marks

-- the mark below one of this object: a scope that is being left, where it is no longer registered, or the assignment to it, where
-- it still is
abbrev pub finalizes_here : List Registered → ℕ → ℕ → Mark → Bool
finalizes_here registered drawn n (Scope m) = m.being_left && is_some m.region && is_none (find (is_number n) registered) && leb n drawn
finalizes_here registered drawn n (Handled s) = false
finalizes_here registered drawn n (InProtected m) = false
finalizes_here registered drawn n (InAccept m) = false
finalizes_here registered drawn n (Abortable m) = false
finalizes_here registered drawn n (InInitialize l) = false
finalizes_here registered drawn n (InFinalize o) = false
finalizes_here registered drawn n (InAssign m) = eqb n m.target && is_some (find (is_number n) registered)

abbrev pub may_finalize : World → ℕ → Mark → Bool
may_finalize w n mark = finalizes_here w.registered w.drawn.controlled n mark

-- ---- what a trigger's appointment says of the task

-- the task is there, since nobody has no marks
abbrev pub AwaitsAt : ℕ → Task → Type 0
AwaitsAt depth u = StandsAt depth u.frames × (is_made u ≡ false)

abbrev pub is_a_trigger : Due → Bool
is_a_trigger (due_for.Event n handler) = false
is_a_trigger (due_for.Delay t) = false
is_a_trigger (due_for.Timeout c) = false
is_a_trigger (due_for.Trigger t depth) = true

-- ---- a task

abbrev pub StruckRightly : Bool → List Frame → Type 0
StruckRightly abnormal [] = Unit {0}
StruckRightly abnormal (f ∷ fs) = (f.struck ≡ true → (is_triggered f.mark || (is_empty fs && abnormal)) ≡ true) × StruckRightly abnormal fs

abbrev pub below_finalizes : List Registered → ℕ → ℕ → List Frame → Bool
below_finalizes registered drawn n [] = false
below_finalizes registered drawn n (f ∷ fs) = finalizes_here registered drawn n f.mark

abbrev pub FinalizesRightly : List Registered → ℕ → List Frame → Type 0
FinalizesRightly registered drawn [] = Unit {0}
FinalizesRightly registered drawn (f ∷ fs) =
    ((n : ℕ) → finalized_in f.mark ≡ Some n → below_finalizes registered drawn n fs ≡ true) × FinalizesRightly registered drawn fs

pub record RightMarks (registered : List Registered) (drawn : ℕ) (t : Task) : Type 0 where
  pub struck : StruckRightly t.abnormal t.frames
  pub finalizes : FinalizesRightly registered drawn t.frames

abbrev pub WaitsOf : Task → Type 0
WaitsOf t = WaitsRightly (waiting_in t.state) t.frames

-- ---- a world

-- no two tasks have one name
abbrev pub Distinct : List Task → Type 0
Distinct [] = Unit {0}
Distinct (t ∷ ts) = AllTasks (λ u. same_who u.who t.who ≡ false) ts × Distinct ts

abbrev pub AllDrawn : ℕ → List Registered → Type 0
AllDrawn drawn [] = Unit {0}
AllDrawn drawn (r ∷ rs) = (r.object ≤ drawn) × AllDrawn drawn rs

pub record GoodIn (tasks : List Task) (agent : Task) (appointments : List Appointment) (registered : List Registered) (drawn controlled : ℕ) : Type 0 where
  pub tasks_right : AllTasks (RightMarks registered controlled) tasks
  pub agent_right : RightMarks registered controlled agent
  pub waits : AllTasks WaitsOf tasks
  pub numbers : AllTasks (λ t. DrawnTo drawn t.who) tasks
  pub triggers : (t : TaskNo) (depth : ℕ) → list_any (λ a. is_trigger_of t depth a.due) appointments ≡ true
      → (t.0 < drawn) × AwaitsAt depth (one_of tasks agent (who.Task t))
  pub single : Distinct tasks
  pub objects : AllDrawn controlled registered

abbrev pub GoodMarks : World → Type 0
GoodMarks w = GoodIn w.tasks w.agent w.appointments w.registered w.drawn.tasks w.drawn.controlled

-- ---- what stays so from one world to another: who was drawn, who is abnormal as long as it is there, and for whom no trigger is set

pub record StillIn (drawn : ℕ) (tasks : List Task) (agent : Task) (appointments : List Appointment) (later : ℕ) (tasks_behind : List Task) (agent_behind : Task)
    (appointments_behind : List Appointment) : Type 0 where
  pub more : drawn ≤ later
  pub marked : (n : TaskNo) → MarkedIn drawn tasks agent n → MarkedIn later tasks_behind agent_behind n
  pub fewer : (n : TaskNo) (depth : ℕ) → list_any (λ a. is_trigger_of n depth a.due) appointments ≡ false
      → list_any (λ a. is_trigger_of n depth a.due) appointments_behind ≡ false

abbrev pub Still : World → World → Type 0
Still w v = StillIn w.drawn.tasks w.tasks w.agent w.appointments v.drawn.tasks v.tasks v.agent v.appointments
