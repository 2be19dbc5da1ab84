-- The changes that steps are made of, whatever lines they say, told apart by what they do to scopes: most begin and end none, and
-- scopes begin with the marks that have them. May is said of who acts, and Other of the others; Acts of who may open scopes.
use Rattle.std.proofs.Common.{◌≡◌, ℕ, ℤ, suc, Bool, true, false, List, [], ◌∷◌, ◌++◌, Option, Some, None}
use Rattle.std.specs.Prelude.{int_le, pos}
use Rattle.ann_base.specs.declared.identities.CallNo.{CallNo}
use Rattle.ann_base.specs.declared.identities.ObjectNo.{ObjectNo}
use Rattle.ann_base.specs.declared.identities.RegionNo.{RegionNo}
use Rattle.ann_base.specs.declared.identities.TaskNo.{TaskNo}
use Rattle.trace_text.specs.declared.events.Event.{Event}
use Rattle.trace_text.specs.declared.events.Mode.{Mode}
use Rattle.trace_text.specs.declared.events.QueueEnd.{QueueEnd}
use Rattle.trace_text.specs.declared.events.Who.{Who}
use Rattle.trace_text.specs.declared.events.Who.TheVariants as who
use Rattle.profile_image.specs.declared.image.Image.{Image}
use Rattle.profile_image.specs.declared.numbers.ProtectedUnitNo.{ProtectedUnitNo}
use Rattle.profile_image.specs.declared.numbers.ScopeNo.{ScopeNo}
use Rattle.profile_image.specs.declared.numbers.StatementNo.{StatementNo}
use Rattle.profile_image.specs.declared.script_items.Item.{Item}
use Rattle.profile_machine.specs.declared.run_data.Leaving.{Leaving}
use Rattle.profile_image.specs.declared.values.Value.{Value}
use Rattle.profile_machine.specs.declared.world.World.{World}
use Rattle.profile_machine.specs.declared.world.marks.Frame.{Frame}
use Rattle.profile_machine.specs.declared.world.marks.Mark.{Mark}
use Rattle.profile_machine.specs.declared.world.marks.Mark.TheVariants.{Scope, Handled, InProtected, InAccept, Abortable, InInitialize, InFinalize, InAssign}
use Rattle.profile_machine.specs.declared.world.marks.Purpose.{Purpose}
use Rattle.profile_machine.specs.declared.world.tasks.Task.{Task}
use Rattle.profile_machine.specs.declared.world.tasks.Waiting.{Waiting}
use Rattle.profile_machine.specs.declared.world.tasks.State.TheVariants.{Runnable, Blocked}
use Rattle.profile_machine.specs.declared.world.scopes.Beginning.{Beginning}
use Rattle.profile_machine.specs.declared.world.scopes.ScopeId.{ScopeId}
use Rattle.profile_machine.specs.declared.world.scopes.Located.{Located}
use Rattle.profile_machine.specs.declared.world.calls.Call.{Call}
use Rattle.profile_machine.specs.declared.world.objects.Object.{Object}
use Rattle.profile_machine.specs.declared.world.appointments.Due.{Due}
use Rattle.profile_machine.specs.declared.world.appointments.Budget.{Budget}
use Rattle.profile_machine.specs.declared.world.appointments.HandlerOf.{HandlerOf}
use Rattle.profile_machine.specs.declared.world.lines.Part.{Part}
use Rattle.profile_machine.specs.declared.world.lines.Said.{Said}
use Rattle.profile_machine.specs.declared.world.lines.Line.{Line}
use Rattle.profile_machine.specs.declared.world.lines.Line.TheVariants as said
use Rattle.profile_image.specs.Words.{edit_at}
use Rattle.profile_machine.specs.Steps.{placed_by, Step, says, settles}
use Rattle.profile_machine.specs.Tasks.{task_of, edit_task, with_state, with_frames, waiting_of, is_made}
use Rattle.profile_machine.specs.Dispatching.{word_of}
use Rattle.profile_machine.specs.Frames.{top_of, push, pop, is_protected}
use Rattle.profile_machine.specs.Scopes.{id_in, edit_cells, open_scope}
use Rattle.profile_machine.specs.Appointments.{appoint, drop_appointment}
use Rattle.profile_machine.specs.Calls.{edit_call, forget_call, edit_object}
use Rattle.profile_machine.specs.Masters.{waits_for_activation}
use Rattle.profile_machine.specs.Protected.{open_action}
use Rattle.profile_machine.specs.EntryCalls.{add_call}
use Rattle.profile_machine.specs.Controlled.{registered_as, no_longer_registered}
use Rattle.profile_machine.specs.Declarations.{new_object, object_drawn, event_drawn, with_budget, with_timer}
use Rattle.profile_machine.specs.Rendezvous.{open_accept}
use Rattle.profile_machine.specs.Tasking.{add_task, end_environment, is_task_scope}
use Rattle.profile_machine.specs.Serving.{close_action, serves_nothing}
use Rattle.profile_machine.specs.Handlers.{add_release, clear_timer, with_timer_set, edit_budget}
use Rattle.profile_machine.specs.Instant.{with_port, with_masked, with_kept_interrupt, with_script}
use Rattle.machine_laws.proofs.Moves.{StepRelation, MoveRelation, lines_of}
use Rattle.machine_laws.proofs.FineMoves.{EachIs, GoodWorld, Naming, ready_line, gone_on}
use Rattle.machine_laws.proofs.Chains.{Chains, MoveChains}
use Rattle.machine_laws.proofs.Kept.Combinators.{Keeps, Leads, said-keeps, settles-leads}

-- ---- what a mark is, whatever is edited in it: its scope, whether that is a task's own, and whether it is a protected action

abbrev pub is_task_mark : Mark → Bool
is_task_mark (Scope m) = is_task_scope m.purpose
is_task_mark (Handled s) = false
is_task_mark (InProtected m) = false
is_task_mark (InAccept m) = false
is_task_mark (Abortable m) = false
is_task_mark (InInitialize l) = false
is_task_mark (InFinalize o) = false
is_task_mark (InAssign m) = false

pub record Nature : Type 0 where
  pub id : Option ScopeId
  pub task : Bool
  pub action : Bool

abbrev pub nature : Mark → Nature
nature mark = record { id = id_in mark; task = is_task_mark mark; action = is_protected mark }

abbrev pub natures : List Frame → List Nature
natures [] = []
natures (f ∷ fs) = nature f.mark ∷ natures fs

-- somebody goes on

-- somebody is there, and is not only made
abbrev pub Live : Who → World → Type 0
Live name w = is_made (task_of w name) ≡ false

pub record FineMoves (G : GoodWorld) (May Other : Naming) (R : StepRelation) (Q : MoveRelation) : Type 0 where
  -- what is done leads from good worlds to good worlds
  pub behind : (a b : World) {xs : List Said} → R a xs b → G b
  pub moved : (a b : World) {xs : List Event} → Q a xs b → G b
  -- nothing is done, one step follows another, and a line of an effect is said
  pub stays : (w : World) → G w → R w [] w
  pub goes_on : (a b c : World) {xs ys : List Said} → R a xs b → R b ys c → R a (xs ++ ys) c
  pub says : (part : Part) (line : Line) (w : World) → G w → R w (record { part = part; line = line } ∷ []) w
  -- the same of moves; an effect is over, and a change that says nothing is a move too
  pub rests : (w : World) → G w → Q w [] w
  pub leads_on : (a b c : World) {xs ys : List Event} → Q a xs b → Q b ys c → Q a (xs ++ ys) c
  pub settles : (a b : World) (xs : List Said) (lines : List Event) → R a xs b → Q a lines (placed_by lines b)
  pub silently : (a b : World) → R a [] b → Q a [] b
  -- who is who: each task is another, and so is who waits for an activation
  pub other_may : (name : Who) → Other name → May name
  pub task_other : (n : TaskNo) → Other (who.Task n)
  pub listed : (w : World) → G w → EachIs Other w.tasks
  pub awaits : (name : Who) (w : World) → G w → waits_for_activation (waiting_of w name) ≡ true → Other name
  -- tasks: an edit of anybody that leaves alone who it is, its marks, its state and its master; one of marks alone
  pub edits_task : (name : Who) (f : Task → Task) (w : World) → G w → ((t : Task) → (f t).who ≡ t.who) → ((t : Task) → (f t).frames ≡ t.frames)
      → ((t : Task) → (f t).state ≡ t.state) → ((t : Task) → (f t).master ≡ t.master) → R w [] (edit_task name f w)
  pub edits_frames : (name : Who) (f : List Frame → List Frame) (w : World) → G w → ((fs : List Frame) → natures (f fs) ≡ natures fs)
      → R w [] (edit_task name (λ t. with_frames (f t.frames) t) w)
  -- a mark is opened by who has one, behind its going on; by a task; and one that is no protected action ends
  pub pushes_on : (name : Who) (onward : Option StatementNo) (f g : Frame) (w : World) → G w → May name → top_of w name ≡ Some g → (nature f.mark).id ≡ None
      → R w [] (push name f (gone_on name onward w))
  pub opens_abortable : (name : Who) (f : Frame) (w : World) → G w → Other name → (nature f.mark).id ≡ None → R w [] (push name f w)
  pub pops : (name : Who) (f : Frame) (w : World) → G w → May name → top_of w name ≡ Some f → is_protected f.mark ≡ false → id_in f.mark ≡ None
      → R w [] (pop name w)
  -- states, and places
  pub readies : (name : Who) (w : World) → G w → Other name → R w [] (edit_task name (with_state Runnable) w)
  pub blocks : (name : Who) (waiting : Waiting) (w : World) → G w → Other name → R w [] (edit_task name (with_state (Blocked waiting)) w)
  pub places : (p : Image) (part : Part) (name : Who) (end : QueueEnd) (w : World) → G w → May name → R w (ready_line p part name end w ∷ []) w
  pub says_blocked : (part : Part) (name : Who) (waiting : Waiting) (w : World) → G w → Other name
      → R w (record { part = part; line = said.Block name (word_of waiting) } ∷ []) w
  pub sets_quantum : (level ticks : ℕ) (w : World) → G w → R w [] (record w { quanta = edit_at level (λ _. ticks) w.quanta })
  pub ends_environment : (leaving : Leaving) (w : World) → G w → R w [] (end_environment leaving w)
  -- scopes and their cells
  pub edits_cells : (id : ScopeId) (f : List Value → List Value) (w : World) → G w → R w [] (edit_cells id f w)
  -- calls: no edit changes the number
  pub edits_call : (c : CallNo) (f : Call → Call) (w : World) → G w → ((d : Call) → (f d).number ≡ d.number) → R w [] (edit_call c f w)
  pub adds_call : (c : Call) (w : World) → G w → R w [] (add_call c w)
  pub forgets_call : (c : CallNo) (w : World) → G w → R w [] (forget_call c w)
  -- protected objects: no other edit changes the actions that are open
  pub edits_object : (o : ObjectNo) (f : Object → Object) (w : World) → G w → ((x : Object) → (f x).number ≡ x.number)
      → ((x : Object) → (f x).actions ≡ x.actions) → R w [] (edit_object o f w)
  pub adds_object : (p : Image) (l : Located) (u : ProtectedUnitNo) (w : World) → G w
      → R w [] (record w { objects = new_object p l u (suc w.drawn.objects) ∷ w.objects; drawn = object_drawn w.drawn })
  -- protected actions: one begins, and one ends
  pub enters : (name : Who) (o : ObjectNo) (mode : Mode) (w : World) → G w → R w [] (open_action name o mode w)
  pub closes : (name : Who) (o : ObjectNo) (w : World) → G w → R w [] (close_action name o w)
  -- appointments
  pub appoints : (due : Due) (moment : ℤ) (w : World) → G w → R w [] (appoint due moment w)
  pub drops_appointment : (test : Due → Bool) (w : World) → G w → R w [] (drop_appointment test w)
  -- controlled objects: a new one has the next number
  pub registers : (r : RegionNo) (l : Located) (w : World) → G w → R w [] (registered_as (suc w.drawn.controlled) r l w)
  pub unregisters : (n : ℕ) (w : World) → G w → R w [] (no_longer_registered n w)
  -- releases, events, timers and budgets
  pub releases : (h : HandlerOf) (argument : Option ℕ) (w : World) → G w → R w [] (add_release h argument w)
  pub has_served : (w : World) → G w → R w [] (serves_nothing w)
  pub draws_event : (w : World) → G w → R w [] (record w { drawn = event_drawn w.drawn })
  pub adds_timer : (t : TaskNo) (w : World) → G w → R w [] (with_timer t w)
  pub clears_timer : (k : ℕ) (w : World) → G w → R w [] (clear_timer k w)
  pub sets_timer : (k : ℕ) (h : HandlerOf) (value : ℤ) (w : World) → G w → R w [] (with_timer_set k h value w)
  pub sets_timers_due : (timers : List ℕ) (w : World) → G w → R w [] (record w { timers_due = timers })
  pub adds_budget : (w : World) → G w → R w [] (with_budget w)
  pub edits_budget : (b : ℕ) (f : Budget → Budget) (w : World) → G w → R w [] (edit_budget b f w)
  pub sets_budget_due : (budget : Option ℕ) (w : World) → G w → R w [] (record w { budget_due = budget })
  -- the outside: of the script only the first item that is ahead is taken, when its moment has come
  pub sets_port : (n : ℕ) (value : ℤ) (w : World) → G w → R w [] (with_port n value w)
  pub masks : (n : ℕ) (flag : Bool) (w : World) → G w → R w [] (with_masked n flag w)
  pub keeps_interrupt : (n : ℕ) (flag : Bool) (w : World) → G w → R w [] (with_kept_interrupt n flag w)
  pub cuts_script : (x : ℤ × Item) (rest : List (ℤ × Item)) (w : World) → G w → w.script ≡ x ∷ rest → int_le x.0 (pos w.time) ≡ true
      → R w [] (with_script rest w)

-- Who acts opens marks and scopes, and makes tasks; and a task that waits for a meeting opens its accept.
pub record Openings (G : GoodWorld) (Acts : Naming) (R : StepRelation) : Type 0 where
  pub pushes : (name : Who) (f : Frame) (w : World) → G w → (nature f.mark).id ≡ None → R w [] (push name f w)
  pub opens_scope : (p : Image) (name : Who) (scope : ScopeNo) (b : Beginning) (purpose : Purpose) (w : World) → G w → Acts name → is_task_scope purpose ≡ false
      → R w [] (open_scope p name scope b purpose w)
  pub opens_accept : (p : Image) (name : Who) (s : StatementNo) (c : Call) (w : World) → G w → Live name w → R w [] (open_accept p name s c w)
  pub acts_live : (name : Who) (w : World) → G w → Acts name → Live name w
  pub still_live : (name : Who) (a b : World) {xs : List Said} → R a xs b → Live name a → Live name b
  pub adds_task : (name : Who) (onward : Option StatementNo) (t : Task) (w : World) → G w → t.who ≡ who.Task (record { 0 = w.drawn.tasks }) → t.frames ≡ []
      → R w [] (add_task t (gone_on name onward w))

-- steps and moves are put together, a line that tells no change is said, and an effect is over
module _ {G : GoodWorld} {May Other : Naming} {R : StepRelation} {Q : MoveRelation} (moves : FineMoves G May Other R Q) where
  pub chains : Chains G R
  chains = record { behind = moves.behind; stays = moves.stays; goes_on = moves.goes_on }

  pub move_chains : MoveChains G Q
  move_chains = record { moved = moves.moved; leads_on = moves.leads_on }

  pub says-keeps : (part : Part) (line : Line) → Keeps G R (says part line)
  says-keeps part line = said-keeps chains part line (λ w good. moves.says part line w good)

  pub effect-leads : (p : Image) (step : Step) → Keeps G R step → Leads G Q (settles p step)
  effect-leads p step kept = settles-leads Q p (λ a b xs k. moves.settles a b xs (lines_of p xs) k) G step kept
