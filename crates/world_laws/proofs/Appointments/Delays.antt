-- Who waits for the end of a delay: what every world keeps of those for whom one is appointed, and of the calls of which marks
-- know the caller.
use Rattle.std.proofs.Common.{◌≡◌, ℕ, Bool, true, false, List, [], ◌∷◌, Option, Some, None, refl, sym, ◌∙◌}
use Rattle.ann_base.specs.declared.identities.CallNo.{CallNo}
use Rattle.ann_base.specs.declared.identities.TaskNo.{TaskNo}
use Rattle.trace_text.specs.declared.events.Who.{Who}
use Rattle.trace_text.specs.declared.events.Who.TheVariants as who
use Rattle.profile_machine.specs.declared.world.World.{World}
use Rattle.profile_machine.specs.declared.world.calls.Call.{Call}
use Rattle.profile_machine.specs.declared.world.marks.Frame.{Frame}
use Rattle.profile_machine.specs.declared.world.marks.Mark.{Mark}
use Rattle.profile_machine.specs.declared.world.marks.Mark.TheVariants.{Scope, Handled, InProtected, InAccept, Abortable, InInitialize, InFinalize, InAssign}
use Rattle.profile_machine.specs.declared.world.tasks.Task.{Task}
use Rattle.profile_machine.specs.Appointments.{is_appointed, is_delay_of}
use Rattle.profile_machine.specs.Tasks.{task_of, waiting_of}
use Rattle.profile_machine.specs.WellFormed.{waits_for_delay}
use Rattle.machine_laws.proofs.ListLemmas.{Rises}
use Rattle.machine_laws.proofs.NumberLemmas.{task_number}
use Rattle.ceiling_laws.proofs.Fine.Cores.{Caller, CallerIn}

-- ---- the end of a delay is appointed for a task

abbrev pub delayed : TaskNo → World → Bool
delayed t w = is_appointed (is_delay_of t) w

-- none is for somebody
abbrev pub Idle : Who → World → Type 0
Idle (who.Task t) w = delayed t w ≡ false
Idle who.Agent w = Unit {0}

-- for whom one is it waits
abbrev pub Awaited : World → Type 0
Awaited w = (t : TaskNo) → delayed t w ≡ true → waits_for_delay (waiting_of w (who.Task t)) ≡ true

-- ---- the call of its own with which somebody entered a protected object, and its caller

abbrev pub nature : Mark → Option CallNo
nature (Scope m) = None
nature (Handled s) = None
nature (InProtected m) = m.own_call
nature (InAccept m) = None
nature (Abortable m) = None
nature (InInitialize l) = None
nature (InFinalize o) = None
nature (InAssign m) = None

abbrev pub natures : List Frame → List (Option CallNo)
natures [] = []
natures (f ∷ fs) = nature f.mark ∷ natures fs

-- the calls with which somebody entered are its own
abbrev pub OwnIn : List Call → ℕ → Who → List (Option CallNo) → Type 0
OwnIn calls last name [] = Unit {0}
OwnIn calls last name (m ∷ ms) = ((c : CallNo) → m ≡ Some c → CallerIn calls last c name) × OwnIn calls last name ms

abbrev pub Owned : World → Type 0
Owned w = (name : Who) → OwnIn w.calls w.drawn.calls name (natures (task_of w name).frames)

-- ---- what every world keeps

abbrev pub Numbered : World → Type 0
Numbered w = Rises task_number 0 w.drawn.tasks w.tasks

pub record Good (w : World) : Type 0 where
  pub awaited : Awaited w
  pub numbered : Numbered w
  pub owned : Owned w

-- ---- what lasts: no end of a delay comes to be appointed, and who made a call made it

pub record Later (w v : World) : Type 0 where
  pub delays : (t : TaskNo) → delayed t v ≡ true → delayed t w ≡ true
  pub callers : (c : CallNo) (name : Who) → Caller c name w → Caller c name v

pub later_then : (a b c : World) → Later a b → Later b c → Later a c
later_then a b c h k = record { delays = λ t d. h.delays t (k.delays t d); callers = λ n name m. k.callers n name (h.callers n name m) }

pub own-on : (calls later : List Call) (last newest : ℕ) (name : Who) (ms : List (Option CallNo))
    → ((c : CallNo) → CallerIn calls last c name → CallerIn later newest c name) → OwnIn calls last name ms → OwnIn later newest name ms
own-on calls later last newest name [] k h = tt
own-on calls later last newest name (m ∷ ms) k h = (λ c e. k c (h.0 c e), own-on calls later last newest name ms k h.1)

pub is_false : (b : Bool) → (b ≡ true → true ≡ false) → b ≡ false
is_false true h = h refl
is_false false h = refl

pub idle-later : (name : Who) (w v : World) → Later w v → Idle name w → Idle name v
idle-later (who.Task t) w v h e = is_false (delayed t v) (λ d. sym (h.delays t d) ∙ e)
idle-later who.Agent w v h e = tt

-- each task of a list
abbrev pub EachTask : (Task → Type 0) → List Task → Type 0
EachTask P [] = Unit {0}
EachTask P (t ∷ ts) = P t × EachTask P ts
