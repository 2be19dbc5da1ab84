-- The changes that steps are made of, with what the lines of regions and controlled objects tell: each such line comes
-- together with the change of marks, or of the registered objects, that it tells. May is said of who acts and may go on, Acts
-- of who acts, Pushes of whose marks may become more or fewer, and Stops where somebody may block for others or be gone.
use Rattle.std.proofs.Common.{◌≡◌, ℕ, ℤ, suc, Bool, true, false, ◌||◌, List, [], ◌∷◌, ◌++◌, Option, Some, None, is_some}
use Rattle.std.specs.Prelude.{int_le, pos}
use Rattle.ann_base.specs.declared.identities.CallNo.{CallNo}
use Rattle.ann_base.specs.declared.identities.ObjectNo.{ObjectNo}
use Rattle.ann_base.specs.declared.identities.RegionNo.{RegionNo}
use Rattle.ann_base.specs.declared.identities.TaskNo.{TaskNo}
use Rattle.trace_text.specs.declared.events.Event.{Event}
use Rattle.trace_text.specs.declared.events.Mode.{Mode}
use Rattle.trace_text.specs.declared.events.QueueEnd.{QueueEnd}
use Rattle.trace_text.specs.declared.events.QueueEnd.TheVariants.{Tail}
use Rattle.trace_text.specs.declared.events.Who.{Who}
use Rattle.trace_text.specs.declared.events.Who.TheVariants as who
use Rattle.profile_image.specs.declared.image.Image.{Image}
use Rattle.profile_image.specs.declared.numbers.ProtectedUnitNo.{ProtectedUnitNo}
use Rattle.profile_image.specs.declared.numbers.ScopeNo.{ScopeNo}
use Rattle.profile_image.specs.declared.numbers.StatementNo.{StatementNo}
use Rattle.profile_image.specs.declared.script_items.Item.{Item}
use Rattle.profile_machine.specs.declared.run_data.Leaving.{Leaving}
use Rattle.profile_image.specs.declared.values.Value.{Value}
use Rattle.profile_machine.specs.declared.world.World.{World}
use Rattle.profile_machine.specs.declared.world.marks.Frame.{Frame}
use Rattle.profile_machine.specs.declared.world.marks.Mark.{Mark}
use Rattle.profile_machine.specs.declared.world.marks.Mark.TheVariants.{Scope, Handled, InProtected, InAccept, Abortable, InInitialize, InFinalize, InAssign}
use Rattle.profile_machine.specs.declared.world.marks.Purpose.{Purpose}
use Rattle.profile_machine.specs.declared.world.marks.Purpose.TheVariants as opened_for
use Rattle.profile_machine.specs.declared.world.tasks.Task.{Task}
use Rattle.profile_machine.specs.declared.world.tasks.Waiting.{Waiting}
use Rattle.profile_machine.specs.declared.world.tasks.Waiting.TheVariants as waits_for
use Rattle.profile_machine.specs.declared.world.tasks.State.TheVariants.{Runnable, Blocked}
use Rattle.profile_machine.specs.declared.world.scopes.Beginning.{Beginning}
use Rattle.profile_machine.specs.declared.world.scopes.ScopeId.{ScopeId}
use Rattle.profile_machine.specs.declared.world.scopes.Located.{Located}
use Rattle.profile_machine.specs.declared.world.calls.Call.{Call}
use Rattle.profile_machine.specs.declared.world.objects.Object.{Object}
use Rattle.profile_machine.specs.declared.world.appointments.Due.{Due}
use Rattle.profile_machine.specs.declared.world.appointments.Budget.{Budget}
use Rattle.profile_machine.specs.declared.world.appointments.HandlerOf.{HandlerOf}
use Rattle.profile_machine.specs.declared.world.lines.Part.{Part}
use Rattle.profile_machine.specs.declared.world.lines.Part.TheVariants.{ThePlacing, TheBlock}
use Rattle.profile_machine.specs.declared.world.lines.Said.{Said}
use Rattle.profile_machine.specs.declared.world.lines.Line.{Line}
use Rattle.profile_machine.specs.declared.world.lines.Line.TheVariants as said
use Rattle.profile_image.specs.Words.{edit_at}
use Rattle.profile_machine.specs.Steps.{placed_by, Step, says, settles}
use Rattle.profile_machine.specs.Tasks.{edit_task, with_state, with_frames, waiting_in, waiting_of}
use Rattle.profile_machine.specs.Dispatching.{word_of, keep_level, grant_quantum, without_kept_level}
use Rattle.profile_machine.specs.Frames.{top_of, push, pop}
use Rattle.profile_machine.specs.Scopes.{edit_cells, begin_scope, open_scope, end_scope}
use Rattle.profile_machine.specs.Appointments.{appoint, drop_appointment}
use Rattle.std.proofs.Common.{◌≤◌}
use Rattle.profile_machine.specs.Calls.{call_of, edit_call, forget_call, edit_object}
use Rattle.profile_machine.specs.Masters.{region_of_mark, forget_task}
use Rattle.profile_machine.specs.Protected.{open_action}
use Rattle.profile_machine.specs.EntryCalls.{add_call}
use Rattle.profile_machine.specs.declared.world.marks.ScopeMark.{ScopeMark}
use Rattle.profile_machine.specs.declared.world.appointments.Registered.{Registered}
use Rattle.profile_machine.specs.Controlled.{top_region, registered_as, no_longer_registered, next_to_finalize, registered_at}
use Rattle.profile_machine.specs.Declarations.{new_object, object_drawn, event_drawn, with_budget, with_timer}
use Rattle.profile_machine.specs.Tasking.{add_task, end_environment, is_task_scope}
use Rattle.profile_machine.specs.declared.world.appointments.Release.{Release}
use Rattle.profile_machine.specs.Serving.{close_action, serves_nothing}
use Rattle.profile_machine.specs.Handlers.{add_release, clear_timer, with_timer_set, edit_budget}
use Rattle.profile_machine.specs.Instant.{with_port, with_masked, with_kept_interrupt, with_script}
use Rattle.machine_laws.proofs.Moves.{StepRelation, MoveRelation, is_told_apart, LetsIn, FindsHeld, own, lines_of}
use Rattle.machine_laws.proofs.FineMoves.{GoodWorld, Naming, is_placing, ready_line, gone_on}
use Rattle.machine_laws.proofs.FinestMoves.{being_left_in}
use Rattle.machine_laws.proofs.Chains.{Chains, MoveChains}
use Rattle.machine_laws.proofs.Kept.Combinators.{Keeps, Leads, said-keeps, settles-leads}

-- ---- what a mark is, whatever is edited in it: its region, whether it is being left, and whether nothing goes on below it when
-- it has ended

-- behind a Finalize, the outermost scope of a task and the protected action of a handler nothing below goes on
abbrev pub is_special : Mark → Bool
is_special (Scope m) = is_task_scope m.purpose
is_special (Handled s) = false
is_special (InProtected m) = is_some m.release
is_special (InAccept m) = false
is_special (Abortable m) = false
is_special (InInitialize l) = false
is_special (InFinalize o) = true
is_special (InAssign m) = false

-- the call of its own with which somebody entered
abbrev pub own_call_of : Mark → Option CallNo
own_call_of (Scope m) = None
own_call_of (Handled s) = None
own_call_of (InProtected m) = m.own_call
own_call_of (InAccept m) = None
own_call_of (Abortable m) = None
own_call_of (InInitialize l) = None
own_call_of (InFinalize o) = None
own_call_of (InAssign m) = None

pub record Nature : Type 0 where
  pub region : Option RegionNo
  pub leaving : Bool
  pub special : Bool
  pub own_call : Option CallNo

abbrev pub nature : Mark → Nature
nature mark = record { region = region_of_mark mark; leaving = being_left_in mark; special = is_special mark; own_call = own_call_of mark }

abbrev pub natures : List Frame → List Nature
natures [] = []
natures (f ∷ fs) = nature f.mark ∷ natures fs

-- the same marks, of which none goes on that did not
abbrev pub Alike : List Frame → List Frame → Type 0
Alike [] [] = Unit {0}
Alike [] (f ∷ fs) = ⊥
Alike (g ∷ gs) [] = ⊥
Alike (g ∷ gs) (f ∷ fs) = (nature g.mark ≡ nature f.mark) × (is_some f.onward ≡ false → is_some g.onward ≡ false) × Alike gs fs

-- ---- who is free to go on, and who does not wait for a meeting

-- the mark on top is not being left
abbrev pub top_leaving : Option Frame → Bool
top_leaving None = false
top_leaving (Some f) = being_left_in f.mark

abbrev pub Free : Who → World → Type 0
Free name w = top_leaving (top_of w name) ≡ false

-- for a call, a caller, or the end of a call
abbrev pub waits : Option Waiting → Bool
waits None = false
waits (Some waits_for.Activation) = false
waits (Some waits_for.Moment) = false
waits (Some (waits_for.Call c)) = true
waits (Some (waits_for.EndOfCall c)) = true
waits (Some (waits_for.Accept s)) = true
waits (Some (waits_for.Select accepts delay terminate)) = true
waits (Some (waits_for.Dependents r)) = false
waits (Some waits_for.Release) = false

-- of the agent nothing is asked
abbrev pub waiting_now : Who → World → Bool
waiting_now (who.Task t) w = waits (waiting_of w (who.Task t))
waiting_now who.Agent w = false

abbrev pub Awake : Who → World → Type 0
Awake name w = waiting_now name w ≡ false

-- the agent makes no call
abbrev pub MakesCalls : Who → Type 0
MakesCalls (who.Task n) = Unit {0}
MakesCalls who.Agent = ⊥

-- a task made this call, if it is there
abbrev pub Caller : CallNo → Who → World → Type 0
Caller c name w = (c.0 ≤ w.drawn.calls) × ((d : Call) → call_of w c ≡ Some d → who.Task d.caller ≡ name) × MakesCalls name

-- ---- lines that are said only together with what they tell

abbrev pub is_of_region : Line → Bool
is_of_region (said.Leave name region how) = true
is_of_region (said.Init name object region declared) = true
is_of_region (said.Final name object) = true
is_of_region (said.Left name region) = true
is_of_region (said.Replace name object) = true
is_of_region _ = false

abbrev pub is_apart : Line → Bool
is_apart line = is_told_apart line || is_placing line || is_of_region line

abbrev pub AreQuiet : List Said → Type 0
AreQuiet [] = Unit {0}
AreQuiet (x ∷ xs) = (is_apart x.line ≡ false) × AreQuiet xs

-- somebody goes on

-- somebody has become ready, and has blocked
abbrev pub ready_world : Image → Who → World → World
ready_world p name w = grant_quantum p name (keep_level p name (edit_task name (with_state Runnable) w))

abbrev pub blocked_world : Who → Waiting → World → World
blocked_world name waiting w = edit_task name without_kept_level (edit_task name (with_state (Blocked waiting)) w)

abbrev pub block_line : Who → Waiting → Said
block_line name waiting = record { part = TheBlock; line = said.Block name (word_of waiting) }

pub record FineMoves (G : GoodWorld) (May Acts Pushes : Naming) (Stops : Type 0) (R : StepRelation) (Q : MoveRelation) : Type 0 where
  -- what is done leads from good worlds to good worlds
  pub behind : (a b : World) {xs : List Said} → R a xs b → G b
  pub moved : (a b : World) {xs : List Event} → Q a xs b → G b
  -- nothing is done, one step follows another, and a line of an effect is said, unless it is told apart
  pub stays : (w : World) → G w → R w [] w
  pub goes_on : (a b c : World) {xs ys : List Said} → R a xs b → R b ys c → R a (xs ++ ys) c
  pub says : (part : Part) (line : Line) (w : World) → G w → is_apart line ≡ false → R w (record { part = part; line = line } ∷ []) w
  -- the same of moves; an effect is over, and a change that says nothing is a move too
  pub rests : (w : World) → G w → Q w [] w
  pub leads_on : (a b c : World) {xs ys : List Event} → Q a xs b → Q b ys c → Q a (xs ++ ys) c
  pub settles : (p : Image) (a b : World) (xs : List Said) → R a xs b → Q a (lines_of p xs) (placed_by (lines_of p xs) b)
  pub silently : (a b : World) → R a [] b → Q a [] b
  -- who acts; and who is free to go on: who waits for a meeting, who has something to go on with, and below a mark that has ended
  pub may_acts : (name : Who) → May name → Acts name
  pub may_pushes : (name : Who) → May name → Pushes name
  pub may_free : (name : Who) (w : World) → G w → May name → Free name w
  pub agent_acts : Acts who.Agent
  pub stops_pushes : Stops → (name : Who) → Pushes name
  pub waiting_free : (name : Who) (w : World) → G w → waiting_now name w ≡ true → Free name w
  pub waiting_pushes : (name : Who) (w : World) → G w → waiting_now name w ≡ true → Pushes name
  pub onward_free : (name : Who) (f : Frame) (s : StatementNo) (w : World) → G w → top_of w name ≡ Some f → f.onward ≡ Some s → Free name w
  pub popped_free : (name : Who) (f : Frame) (w : World) → G w → top_of w name ≡ Some f → is_special f.mark ≡ false → Free name (pop name w)
  pub still_free : (name : Who) (a b : World) {xs : List Said} → R a xs b → Free name a → Free name b
  pub still_called : (c : CallNo) (name : Who) (a b : World) {xs : List Said} → R a xs b → Caller c name a → Caller c name b
  -- tasks: an edit of anybody that leaves alone who it is, its marks and its state; one of marks alone
  pub edits_task : (name : Who) (f : Task → Task) (w : World) → G w → ((t : Task) → (f t).who ≡ t.who) → ((t : Task) → (f t).frames ≡ t.frames)
      → ((t : Task) → (f t).state ≡ t.state) → R w [] (edit_task name f w)
  pub edits_frames : (name : Who) (f : List Frame → List Frame) (w : World) → G w → ((fs : List Frame) → Alike (f fs) fs)
      → R w [] (edit_task name (λ t. with_frames (f t.frames) t) w)
  -- who is free goes on, and opens a mark; others are opened above any; and a mark ends
  pub goes : (name : Who) (onward : Option StatementNo) (w : World) → G w → Free name w → R w [] (gone_on name onward w)
  pub pushes : (name : Who) (f : Frame) (w : World) → G w → Pushes name → Free name w → region_of_mark f.mark ≡ None → being_left_in f.mark ≡ false
      → ((c : CallNo) → own_call_of f.mark ≡ Some c → Caller c name w) → R w [] (push name f w)
  pub pushes_special : (name : Who) (f : Frame) (w : World) → G w → Pushes name → is_special f.mark ≡ true → region_of_mark f.mark ≡ None
      → being_left_in f.mark ≡ false → own_call_of f.mark ≡ None → R w [] (push name f w)
  pub opens_scope : (p : Image) (name : Who) (scope : ScopeNo) (b : Beginning) (purpose : Purpose) (w : World) → G w → Pushes name → Free name w
      → R w [] (open_scope p name scope b purpose w)
  pub opens_task : (p : Image) (name : Who) (scope : ScopeNo) (b : Beginning) (w : World) → G w → Pushes name
      → R w [] (open_scope p name scope b opened_for.Task w)
  pub pops : (name : Who) (f : Frame) (w : World) → G w → Pushes name → Awake name w → top_of w name ≡ Some f → is_special f.mark ≡ false → R w [] (pop name w)
  -- a region has been left when none of its objects is registered
  pub has_left : (name : Who) (f : Frame) (m : ScopeMark) (r : RegionNo) (w : World) → G w → Pushes name → Awake name w → top_of w name ≡ Some f
      → is_special f.mark ≡ false → f.mark ≡ Scope m → m.region ≡ Some r → m.being_left ≡ true → next_to_finalize w r ≡ None
      → R w (own (said.Left name r) ∷ []) (pop name w)
  -- states, and places: who becomes ready is placed, and so is who does not wait, or acts; who blocks for a meeting is free
  pub becomes_ready : (p : Image) (part : Part) (name : Who) (w : World) → G w
      → R w (ready_line p part name Tail (ready_world p name w) ∷ []) (ready_world p name w)
  pub wakes : (name : Who) (w : World) → G w → R w [] (edit_task name (with_state Runnable) w)
  pub blocks : (name : Who) (waiting : Waiting) (w : World) → G w → May name → R w (block_line name waiting ∷ []) (blocked_world name waiting w)
  pub blocks_apart : (name : Who) (waiting : Waiting) (w : World) → G w → Stops → waits (Some waiting) ≡ false
      → R w (block_line name waiting ∷ []) (blocked_world name waiting w)
  pub waits_silently : (name : Who) (accepts : List StatementNo) (delay : Option StatementNo) (w : World) → G w → May name
      → R w [] (edit_task name (with_state (Blocked (waits_for.Select accepts delay true))) w)
  pub places_awake : (p : Image) (part : Part) (name : Who) (end : QueueEnd) (w : World) → G w → Awake name w → R w (ready_line p part name end w ∷ []) w
  pub places_acting : (p : Image) (name : Who) (end : QueueEnd) (w : World) → G w → Acts name → R w (ready_line p ThePlacing name end w ∷ []) w
  -- a new task has the next number
  pub adds_task : (t : Task) (w : World) → G w → t.who ≡ who.Task (record { 0 = w.drawn.tasks }) → t.frames ≡ [] → waiting_in t.state ≡ None
      → R w [] (add_task t w)
  pub forgets_task : (name : Who) (w : World) → G w → Stops → R w [] (forget_task name w)
  pub sets_quantum : (level ticks : ℕ) (w : World) → G w → R w [] (record w { quanta = edit_at level (λ _. ticks) w.quanta })
  pub ends_environment : (leaving : Leaving) (w : World) → G w → R w [] (end_environment leaving w)
  -- scopes and their cells
  pub begins_scope : (p : Image) (name : Who) (scope : ScopeNo) (b : Beginning) (w : World) → G w → R w [] (begin_scope p name scope b w)
  pub edits_cells : (id : ScopeId) (f : List Value → List Value) (w : World) → G w → R w [] (edit_cells id f w)
  pub ends_scope : (id : ScopeId) (w : World) → G w → R w [] (end_scope id w)
  -- calls: no edit changes the number
  pub edits_call : (c : CallNo) (f : Call → Call) (w : World) → G w → ((d : Call) → (f d).number ≡ d.number) → ((d : Call) → (f d).caller ≡ d.caller)
      → R w [] (edit_call c f w)
  pub adds_call : (c : Call) (w : World) → G w → R w [] (add_call c w)
  pub forgets_call : (c : CallNo) (w : World) → G w → R w [] (forget_call c w)
  -- protected objects: no other edit changes the actions that are open
  pub edits_object : (o : ObjectNo) (f : Object → Object) (w : World) → G w → ((x : Object) → (f x).number ≡ x.number)
      → ((x : Object) → (f x).actions ≡ x.actions) → R w [] (edit_object o f w)
  pub adds_object : (p : Image) (l : Located) (u : ProtectedUnitNo) (w : World) → G w
      → R w [] (record w { objects = new_object p l u (suc w.drawn.objects) ∷ w.objects; drawn = object_drawn w.drawn })
  -- protected actions: one begins, one ends, one begins and ends at once round other lines and a change, and one may not begin
  pub enters : (name : Who) (o : ObjectNo) (mode : Mode) (w : World) → G w → LetsIn name o mode w
      → R w (own (said.Enter name o mode) ∷ []) (open_action name o mode w)
  pub closes : (name : Who) (o : ObjectNo) (w : World) → G w → R w (own (said.Exit name o) ∷ []) (close_action name o w)
  pub visits : (name : Who) (o : ObjectNo) (mode : Mode) (xs : List Said) (w v : World) → G w → LetsIn name o mode w → AreQuiet xs → R w [] v
      → R w (own (said.Enter name o mode) ∷ xs ++ own (said.Exit name o) ∷ []) v
  pub finds_held : (name : Who) (o : ObjectNo) (mode : Mode) (w : World) → G w → FindsHeld name o mode w → R w (own (said.Held name o mode) ∷ []) w
  -- appointments
  pub appoints : (due : Due) (moment : ℤ) (w : World) → G w → R w [] (appoint due moment w)
  pub drops_appointment : (test : Due → Bool) (w : World) → G w → R w [] (drop_appointment test w)
  -- controlled objects: a new one has the next number; of a region that is being left the newest is finalized; and one that is
  -- registered is assigned to
  pub registers : (name : Who) (l : Located) (w : World) → G w → Free name w
      → R w (own (said.Init name (suc w.drawn.controlled) (top_region w name) l.declared) ∷ []) (registered_as (suc w.drawn.controlled) (top_region w name) l w)
  pub finalizes : (name : Who) (f : Frame) (m : ScopeMark) (r : RegionNo) (x : Registered) (w : World) → G w → top_of w name ≡ Some f → f.mark ≡ Scope m
      → m.region ≡ Some r → m.being_left ≡ true → next_to_finalize w r ≡ Some x
      → R w (own (said.Final name x.object) ∷ []) (no_longer_registered x.object w)
  pub replaces : (name : Who) (l : Located) (x : Registered) (w : World) → G w → registered_at w l ≡ Some x → R w (own (said.Replace name x.object) ∷ []) w
  -- events, timers and budgets, and releases
  pub draws_event : (w : World) → G w → R w [] (record w { drawn = event_drawn w.drawn })
  pub adds_timer : (t : TaskNo) (w : World) → G w → R w [] (with_timer t w)
  pub clears_timer : (k : ℕ) (w : World) → G w → R w [] (clear_timer k w)
  pub sets_timer : (k : ℕ) (h : HandlerOf) (value : ℤ) (w : World) → G w → R w [] (with_timer_set k h value w)
  pub sets_timers_due : (timers : List ℕ) (w : World) → G w → R w [] (record w { timers_due = timers })
  pub adds_budget : (w : World) → G w → R w [] (with_budget w)
  pub edits_budget : (b : ℕ) (f : Budget → Budget) (w : World) → G w → R w [] (edit_budget b f w)
  pub sets_budget_due : (budget : Option ℕ) (w : World) → G w → R w [] (record w { budget_due = budget })
  pub releases : (h : HandlerOf) (argument : Option ℕ) (w : World) → G w → R w (own (said.Release (suc w.drawn.releases) h) ∷ []) (add_release h argument w)
  pub has_served : (r : Release) (w : World) → G w → w.serving ≡ Some r → R w (own (said.Served r.number) ∷ []) (serves_nothing w)
  -- the outside: of the script only the first item that is ahead is taken, when its moment has come
  pub sets_port : (n : ℕ) (value : ℤ) (w : World) → G w → R w [] (with_port n value w)
  pub masks : (n : ℕ) (flag : Bool) (w : World) → G w → R w [] (with_masked n flag w)
  pub keeps_interrupt : (n : ℕ) (flag : Bool) (w : World) → G w → R w [] (with_kept_interrupt n flag w)
  pub cuts_script : (x : ℤ × Item) (rest : List (ℤ × Item)) (w : World) → G w → w.script ≡ x ∷ rest → int_le x.0 (pos w.time) ≡ true
      → R w [] (with_script rest w)

-- steps and moves are put together, a line that tells no change is said, and an effect is over
module _ {G : GoodWorld} {May Acts Pushes : Naming} {Stops : Type 0} {R : StepRelation} {Q : MoveRelation} (moves : FineMoves G May Acts Pushes Stops R Q) where
  pub chains : Chains G R
  chains = record { behind = moves.behind; stays = moves.stays; goes_on = moves.goes_on }

  pub move_chains : MoveChains G Q
  move_chains = record { moved = moves.moved; leads_on = moves.leads_on }

  pub says-keeps : (part : Part) (line : Line) → is_apart line ≡ false → Keeps G R (says part line)
  says-keeps part line other = said-keeps chains part line (λ w good. moves.says part line w good other)

  pub effect-leads : (p : Image) (step : Step) → Keeps G R step → Leads G Q (settles p step)
  effect-leads p step kept = settles-leads Q p (moves.settles p) G step kept
