-- The changes that steps are made of, each from a world that is good, with what is asked of who becomes ready, blocks or is placed:
-- that no end of a delay is appointed for it. May is said of who acts.
use Rattle.std.proofs.Common.{◌≡◌, ℕ, ℤ, suc, Bool, true, false, List, [], ◌∷◌, ◌++◌, Option, Some}
use Rattle.ann_base.specs.declared.identities.CallNo.{CallNo}
use Rattle.ann_base.specs.declared.identities.ObjectNo.{ObjectNo}
use Rattle.ann_base.specs.declared.identities.RegionNo.{RegionNo}
use Rattle.ann_base.specs.declared.identities.TaskNo.{TaskNo}
use Rattle.trace_text.specs.declared.events.Event.{Event}
use Rattle.trace_text.specs.declared.events.Mode.{Mode}
use Rattle.trace_text.specs.declared.events.QueueEnd.{QueueEnd}
use Rattle.trace_text.specs.declared.events.Who.{Who}
use Rattle.trace_text.specs.declared.events.Who.TheVariants as who
use Rattle.profile_image.specs.declared.image.Image.{Image}
use Rattle.profile_image.specs.declared.numbers.ProtectedUnitNo.{ProtectedUnitNo}
use Rattle.profile_image.specs.declared.numbers.ScopeNo.{ScopeNo}
use Rattle.profile_image.specs.declared.script_items.Item.{Item}
use Rattle.profile_machine.specs.declared.run_data.Leaving.{Leaving}
use Rattle.profile_image.specs.declared.values.Value.{Value}
use Rattle.profile_machine.specs.declared.world.World.{World}
use Rattle.profile_machine.specs.declared.world.appointments.Budget.{Budget}
use Rattle.profile_machine.specs.declared.world.appointments.Due.{Due}
use Rattle.profile_machine.specs.declared.world.appointments.HandlerOf.{HandlerOf}
use Rattle.profile_machine.specs.declared.world.calls.Call.{Call}
use Rattle.profile_machine.specs.declared.world.lines.Line.{Line}
use Rattle.profile_machine.specs.declared.world.lines.Line.TheVariants as said
use Rattle.profile_machine.specs.declared.world.lines.Part.{Part}
use Rattle.profile_machine.specs.declared.world.lines.Said.{Said}
use Rattle.profile_machine.specs.declared.world.marks.Frame.{Frame}
use Rattle.profile_machine.specs.declared.world.objects.Object.{Object}
use Rattle.profile_machine.specs.declared.world.scopes.Beginning.{Beginning}
use Rattle.profile_machine.specs.declared.world.scopes.Located.{Located}
use Rattle.profile_machine.specs.declared.world.scopes.ScopeId.{ScopeId}
use Rattle.profile_machine.specs.declared.world.tasks.State.TheVariants.{Runnable, Blocked}
use Rattle.profile_machine.specs.declared.world.tasks.Task.{Task}
use Rattle.profile_machine.specs.declared.world.tasks.Waiting.{Waiting}
use Rattle.profile_machine.specs.Appointments.{appoint, drop_appointment, is_delay_of}
use Rattle.profile_machine.specs.Calls.{edit_call, forget_call, edit_object}
use Rattle.profile_machine.specs.Controlled.{registered_as, no_longer_registered}
use Rattle.profile_machine.specs.Declarations.{new_object, object_drawn, event_drawn, with_budget, with_timer}
use Rattle.profile_machine.specs.Dispatching.{word_of}
use Rattle.profile_machine.specs.EntryCalls.{add_call}
use Rattle.profile_machine.specs.Frames.{push, pop}
use Rattle.profile_machine.specs.Handlers.{add_release, clear_timer, with_timer_set, edit_budget}
use Rattle.profile_machine.specs.Instant.{with_port, with_masked, with_kept_interrupt, with_script}
use Rattle.profile_machine.specs.Masters.{forget_task}
use Rattle.profile_machine.specs.Protected.{open_action}
use Rattle.profile_machine.specs.Scopes.{edit_cells, begin_scope, region_drawn, end_scope}
use Rattle.profile_machine.specs.Serving.{close_action, serves_nothing}
use Rattle.profile_machine.specs.Steps.{placed_by, Step, says, settles}
use Rattle.profile_machine.specs.Tasking.{add_task, end_environment}
use Rattle.profile_machine.specs.Tasks.{edit_task, with_state, with_frames, waiting_in, waiting_of}
use Rattle.profile_machine.specs.WellFormed.{waits_for_delay}
use Rattle.profile_image.specs.Words.{edit_at}
use Rattle.machine_laws.proofs.Moves.{StepRelation, MoveRelation, lines_of}
use Rattle.machine_laws.proofs.FineMoves.{GoodWorld, Naming, ready_line}
use Rattle.world_laws.proofs.Appointments.Delays.{Idle, nature, natures, EachTask}
use Rattle.ceiling_laws.proofs.Fine.Cores.{Caller}
use Rattle.machine_laws.proofs.Chains.{Chains, MoveChains}
use Rattle.machine_laws.proofs.Kept.Combinators.{Keeps, Leads, said-keeps, settles-leads}

-- ---- lines that place somebody or take it out, which are said only together with what they tell

abbrev pub is_apart : Line → Bool
is_apart (said.Ready name level end deadline) = true
is_apart (said.Block name why) = true
is_apart _ = false

pub record FineMoves (G : GoodWorld) (May : Naming) (R : StepRelation) (Q : MoveRelation) : Type 0 where
  -- what is done leads from good worlds to good worlds
  pub behind : (a b : World) {xs : List Said} → R a xs b → G b
  pub moved : (a b : World) {xs : List Event} → Q a xs b → G b
  -- nothing is done, one step follows another, and a line of an effect is said, unless it is told apart
  pub stays : (w : World) → G w → R w [] w
  pub goes_on : (a b c : World) {xs ys : List Said} → R a xs b → R b ys c → R a (xs ++ ys) c
  pub says : (part : Part) (line : Line) (w : World) → G w → is_apart line ≡ false → R w (record { part = part; line = line } ∷ []) w
  -- the same of moves; and an effect is over
  pub leads_on : (a b c : World) {xs ys : List Event} → Q a xs b → Q b ys c → Q a (xs ++ ys) c
  pub settles : (p : Image) (a b : World) (xs : List Said) → R a xs b → Q a (lines_of p xs) (placed_by (lines_of p xs) b)
  -- no end of a delay is appointed for who acts, nor for who waits for something else; and none comes to be appointed
  pub idle : (name : Who) (w : World) → G w → May name → Idle name w
  pub asleep : (name : Who) (w : World) → G w → waits_for_delay (waiting_of w name) ≡ false → Idle name w
  pub listed : (w : World) → G w → EachTask (λ t. waits_for_delay (waiting_in t.state) ≡ false → Idle t.who w) w.tasks
  pub idle_on : (name : Who) (a b : World) {xs : List Said} → R a xs b → Idle name a → Idle name b
  pub called_on : (c : CallNo) (name : Who) (a b : World) {xs : List Said} → R a xs b → Caller c name a → Caller c name b
  -- tasks: an edit of anybody that leaves alone who it is, its marks and its state; one of marks alone
  pub edits_task : (name : Who) (f : Task → Task) (w : World) → G w → ((t : Task) → (f t).who ≡ t.who) → ((t : Task) → (f t).frames ≡ t.frames)
      → ((t : Task) → (f t).state ≡ t.state) → R w [] (edit_task name f w)
  pub edits_frames : (name : Who) (f : List Frame → List Frame) (w : World) → G w → ((fs : List Frame) → natures (f fs) ≡ natures fs)
      → R w [] (edit_task name (λ t. with_frames (f t.frames) t) w)
  -- a mark is opened, with a call of its own or without one; and one ends
  pub pushes : (name : Who) (f : Frame) (w : World) → G w → ((c : CallNo) → nature f.mark ≡ Some c → Caller c name w) → R w [] (push name f w)
  pub pops : (name : Who) (w : World) → G w → R w [] (pop name w)
  -- states, and places
  pub readies : (name : Who) (w : World) → G w → Idle name w → R w [] (edit_task name (with_state Runnable) w)
  pub blocks : (name : Who) (waiting : Waiting) (w : World) → G w → Idle name w → R w [] (edit_task name (with_state (Blocked waiting)) w)
  pub places : (p : Image) (part : Part) (name : Who) (end : QueueEnd) (w : World) → G w → Idle name w → R w (ready_line p part name end w ∷ []) w
  pub says_blocked : (part : Part) (name : Who) (waiting : Waiting) (w : World) → G w
      → R w (record { part = part; line = said.Block name (word_of waiting) } ∷ []) w
  -- a new task has the next number, and one for whom nothing is appointed is gone
  pub adds_task : (t : Task) (w : World) → G w → t.who ≡ who.Task (record { 0 = w.drawn.tasks }) → t.frames ≡ [] → R w [] (add_task t w)
  pub forgets_task : (name : Who) (w : World) → G w → Idle name w → R w [] (forget_task name w)
  pub sets_quantum : (level ticks : ℕ) (w : World) → G w → R w [] (record w { quanta = edit_at level (λ _. ticks) w.quanta })
  pub ends_environment : (leaving : Leaving) (w : World) → G w → R w [] (end_environment leaving w)
  -- scopes and their cells
  pub draws_region : (w : World) → G w → R w [] (record w { drawn = region_drawn w.drawn })
  pub begins_scope : (p : Image) (name : Who) (scope : ScopeNo) (b : Beginning) (w : World) → G w → R w [] (begin_scope p name scope b w)
  pub edits_cells : (id : ScopeId) (f : List Value → List Value) (w : World) → G w → R w [] (edit_cells id f w)
  pub ends_scope : (id : ScopeId) (w : World) → G w → R w [] (end_scope id w)
  -- calls: no edit changes the number or the caller
  pub edits_call : (c : CallNo) (f : Call → Call) (w : World) → G w → ((d : Call) → (f d).number ≡ d.number) → ((d : Call) → (f d).caller ≡ d.caller)
      → R w [] (edit_call c f w)
  pub adds_call : (c : Call) (w : World) → G w → R w [] (add_call c w)
  pub forgets_call : (c : CallNo) (w : World) → G w → R w [] (forget_call c w)
  -- protected objects: no other edit changes the actions that are open
  pub edits_object : (o : ObjectNo) (f : Object → Object) (w : World) → G w → ((x : Object) → (f x).number ≡ x.number)
      → ((x : Object) → (f x).actions ≡ x.actions) → R w [] (edit_object o f w)
  pub adds_object : (p : Image) (l : Located) (u : ProtectedUnitNo) (w : World) → G w
      → R w [] (record w { objects = new_object p l u (suc w.drawn.objects) ∷ w.objects; drawn = object_drawn w.drawn })
  -- protected actions, and releases
  pub enters : (name : Who) (o : ObjectNo) (mode : Mode) (w : World) → G w → R w [] (open_action name o mode w)
  pub closes : (name : Who) (o : ObjectNo) (w : World) → G w → R w [] (close_action name o w)
  pub releases : (h : HandlerOf) (argument : Option ℕ) (w : World) → G w → R w [] (add_release h argument w)
  pub serves : (w : World) → G w → R w [] (serves_nothing w)
  -- appointments, but for the end of a delay
  pub appoints : (due : Due) (moment : ℤ) (w : World) → G w → ((t : TaskNo) → is_delay_of t due ≡ false) → R w [] (appoint due moment w)
  pub drops_appointment : (test : Due → Bool) (w : World) → G w → R w [] (drop_appointment test w)
  -- controlled objects: a new one has the next number
  pub registers : (r : RegionNo) (l : Located) (w : World) → G w → R w [] (registered_as (suc w.drawn.controlled) r l w)
  pub unregisters : (n : ℕ) (w : World) → G w → R w [] (no_longer_registered n w)
  -- events, timers and budgets
  pub draws_event : (w : World) → G w → R w [] (record w { drawn = event_drawn w.drawn })
  pub adds_timer : (t : TaskNo) (w : World) → G w → R w [] (with_timer t w)
  pub clears_timer : (k : ℕ) (w : World) → G w → R w [] (clear_timer k w)
  pub sets_timer : (k : ℕ) (h : HandlerOf) (value : ℤ) (w : World) → G w → R w [] (with_timer_set k h value w)
  pub sets_timers_due : (timers : List ℕ) (w : World) → G w → R w [] (record w { timers_due = timers })
  pub adds_budget : (w : World) → G w → R w [] (with_budget w)
  pub edits_budget : (b : ℕ) (f : Budget → Budget) (w : World) → G w → R w [] (edit_budget b f w)
  pub sets_budget_due : (budget : Option ℕ) (w : World) → G w → R w [] (record w { budget_due = budget })
  -- the outside
  pub sets_port : (n : ℕ) (value : ℤ) (w : World) → G w → R w [] (with_port n value w)
  pub masks : (n : ℕ) (flag : Bool) (w : World) → G w → R w [] (with_masked n flag w)
  pub keeps_interrupt : (n : ℕ) (flag : Bool) (w : World) → G w → R w [] (with_kept_interrupt n flag w)
  pub cuts_script : (rest : List (ℤ × Item)) (w : World) → G w → R w [] (with_script rest w)

-- steps and moves are put together, a line that tells no change is said, and an effect is over
module _ {G : GoodWorld} {May : Naming} {R : StepRelation} {Q : MoveRelation} (moves : FineMoves G May R Q) where
  pub chains : Chains G R
  chains = record { behind = moves.behind; stays = moves.stays; goes_on = moves.goes_on }

  pub move_chains : MoveChains G Q
  move_chains = record { moved = moves.moved; leads_on = moves.leads_on }

  pub says-keeps : (part : Part) (line : Line) → is_apart line ≡ false → Keeps G R (says part line)
  says-keeps part line other = said-keeps chains part line (λ w good. moves.says part line w good other)

  pub effect-leads : (p : Image) (step : Step) → Keeps G R step → Leads G Q (settles p step)
  effect-leads p step kept = settles-leads Q p (moves.settles p) G step kept
