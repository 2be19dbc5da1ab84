-- The changes that steps are made of, with all that is known where each is made: so a law can say what an effect does to whom. May
-- is said of who acts, and Other of the others, which are tasks; nobody else blocks, becomes ready or is placed. `enter` comes together
-- with the mark of the action, and `exit` with the end of that mark; a region's lines come with what they tell.
use Rattle.std.proofs.Common.{◌≡◌, ℕ, ℤ, suc, Bool, true, false, ◌||◌, List, [], ◌∷◌, ◌++◌, Option, Some, None, refl, sym, ap, subst, ◌∙◌, append-nil}
use Rattle.std.specs.Prelude.{int_lt, int_le, pos, is_none, not}
use Rattle.ann_base.specs.declared.identities.CallNo.{CallNo}
use Rattle.ann_base.specs.declared.identities.ObjectNo.{ObjectNo}
use Rattle.ann_base.specs.declared.identities.RegionNo.{RegionNo}
use Rattle.ann_base.specs.declared.identities.TaskNo.{TaskNo}
use Rattle.trace_text.specs.declared.events.Event.{Event}
use Rattle.trace_text.specs.declared.events.Mode.{Mode}
use Rattle.trace_text.specs.declared.events.Mode.TheVariants.{Write}
use Rattle.trace_text.specs.declared.events.QueueEnd.{QueueEnd}
use Rattle.trace_text.specs.declared.events.Who.{Who}
use Rattle.trace_text.specs.declared.events.Who.TheVariants as who
use Rattle.profile_image.specs.declared.image.Image.{Image}
use Rattle.profile_image.specs.declared.numbers.ProtectedUnitNo.{ProtectedUnitNo}
use Rattle.profile_image.specs.declared.numbers.ScopeNo.{ScopeNo}
use Rattle.profile_image.specs.declared.numbers.StatementNo.{StatementNo}
use Rattle.profile_image.specs.declared.script_items.Item.{Item}
use Rattle.profile_machine.specs.declared.run_data.Leaving.{Leaving}
use Rattle.profile_image.specs.declared.values.Value.{Value}
use Rattle.profile_machine.specs.declared.world.World.{World}
use Rattle.profile_machine.specs.declared.world.marks.Frame.{Frame}
use Rattle.profile_machine.specs.declared.world.marks.Mark.{Mark}
use Rattle.profile_machine.specs.declared.world.marks.Mark.TheVariants.{Scope, Handled, InProtected, InAccept, Abortable, InInitialize, InFinalize, InAssign}
use Rattle.profile_machine.specs.declared.world.marks.ProtectedMark.{ProtectedMark}
use Rattle.profile_machine.specs.declared.world.marks.Purpose.{Purpose}
use Rattle.profile_machine.specs.declared.world.tasks.Task.{Task}
use Rattle.profile_machine.specs.declared.world.tasks.Waiting.{Waiting}
use Rattle.profile_machine.specs.declared.world.tasks.State.TheVariants.{Runnable, Blocked}
use Rattle.profile_machine.specs.declared.world.scopes.Beginning.{Beginning}
use Rattle.profile_machine.specs.declared.world.scopes.ScopeId.{ScopeId}
use Rattle.profile_machine.specs.declared.world.scopes.Located.{Located}
use Rattle.profile_machine.specs.declared.world.calls.Call.{Call}
use Rattle.profile_machine.specs.declared.world.objects.Object.{Object}
use Rattle.profile_machine.specs.declared.world.appointments.Due.{Due}
use Rattle.profile_machine.specs.declared.world.appointments.Due.TheVariants as due_for
use Rattle.profile_machine.specs.declared.world.appointments.Budget.{Budget}
use Rattle.profile_machine.specs.declared.world.appointments.HandlerOf.{HandlerOf}
use Rattle.profile_machine.specs.declared.world.lines.Part.{Part}
use Rattle.profile_machine.specs.declared.world.lines.Part.TheVariants.{Own}
use Rattle.profile_machine.specs.declared.world.lines.Said.{Said}
use Rattle.profile_machine.specs.declared.world.lines.Line.{Line}
use Rattle.profile_machine.specs.declared.world.lines.Line.TheVariants as said
use Rattle.profile_image.specs.Words.{edit_at}
use Rattle.profile_machine.specs.Steps.{Step, placed_by, says, settles}
use Rattle.profile_machine.specs.Tasks.{edit_task, with_state, with_frames, waiting_of}
use Rattle.profile_machine.specs.Dispatching.{word_of}
use Rattle.profile_machine.specs.Frames.{frames_of, top_of, edit_first, edit_top, with_mark, new_frame, push, pop, is_protected, in_protected}
use Rattle.profile_machine.specs.Scopes.{edit_cells, begin_scope, open_scope, end_scope}
use Rattle.profile_machine.specs.Appointments.{appoint, drop_appointment, is_an_event}
use Rattle.profile_machine.specs.Calls.{edit_call, forget_call, edit_object}
use Rattle.profile_machine.specs.Masters.{region_of_mark, has_dependents, waits_for_activation, forget_task}
use Rattle.profile_machine.specs.Protected.{open_action, new_protected_mark}
use Rattle.profile_machine.specs.EntryCalls.{add_call}
use Rattle.profile_machine.specs.declared.world.marks.ScopeMark.{ScopeMark}
use Rattle.profile_machine.specs.declared.world.appointments.Registered.{Registered}
use Rattle.profile_machine.specs.Controlled.{top_region, registered_as, no_longer_registered, edit_scope_mark, edit_top_scope, next_to_finalize, registered_at}
use Rattle.profile_machine.specs.Declarations.{new_object, object_drawn, event_drawn, with_budget, with_timer}
use Rattle.profile_machine.specs.Tasking.{add_task, end_environment, leaves_as, being_left_mark, left_so_frame}
use Rattle.profile_machine.specs.declared.world.appointments.Release.{Release}
use Rattle.profile_machine.specs.Serving.{close_action, serves_nothing}
use Rattle.profile_machine.specs.Handlers.{add_release, clear_timer, with_timer_set, edit_budget, clock_risen}
use Rattle.profile_machine.specs.Instant.{with_port, with_masked, with_kept_interrupt, with_script}
use Rattle.machine_laws.proofs.Moves.{StepRelation, MoveRelation, Moves, TockMoves, LetsIn, FindsHeld, own, lines_of}
use Rattle.machine_laws.specs.LineKinds.{is_of_tock}
use Rattle.profile_machine.specs.Run.{with_serving}
use Rattle.machine_laws.proofs.Chains.{Chains, MoveChains}
use Rattle.machine_laws.proofs.Kept.Combinators.{Keeps, Leads, said-keeps, settles-leads}
use Rattle.machine_laws.proofs.FineMoves as coarse
use Rattle.machine_laws.proofs.FineMoves.{GoodWorld, Naming, EachIs, AnyWorld, Anybody, AnyRegion, AnyRelease, FineMoves, Openings}
use Rattle.machine_laws.proofs.FineMoves.{Exits, finely, openings, exits, release_in, is_abortable, ready_line, gone_on, first_is_false}

-- ---- what a mark is, whatever is edited in it: its region, the release that ends with it, the object of its action, and a kind

-- the object on which it is an action
abbrev pub action_in : Mark → Option ObjectNo
action_in (Scope m) = None
action_in (Handled s) = None
action_in (InProtected m) = Some m.object
action_in (InAccept m) = None
action_in (Abortable m) = None
action_in (InInitialize l) = None
action_in (InFinalize o) = None
action_in (InAssign m) = None

-- whether its region is being left
abbrev pub being_left_in : Mark → Bool
being_left_in (Scope m) = m.being_left
being_left_in (Handled s) = false
being_left_in (InProtected m) = false
being_left_in (InAccept m) = false
being_left_in (Abortable m) = false
being_left_in (InInitialize l) = false
being_left_in (InFinalize o) = false
being_left_in (InAssign m) = false

pub record Nature : Type 0 where
  pub region : Option RegionNo
  pub leaving : Bool
  pub release : Option ℕ
  pub action : Option ObjectNo
  pub abortable : Bool

abbrev pub nature : Mark → Nature
nature mark = record {
  region = region_of_mark mark;
  leaving = being_left_in mark;
  release = release_in mark;
  action = action_in mark;
  abortable = is_abortable mark;
}

abbrev pub natures : List Frame → List Nature
natures [] = []
natures (f ∷ fs) = nature f.mark ∷ natures fs

-- ---- lines that are said only together with what they tell

abbrev pub is_of_region : Line → Bool
is_of_region (said.Leave name region how) = true
is_of_region (said.Init name object region declared) = true
is_of_region (said.Final name object) = true
is_of_region (said.Left name region) = true
is_of_region (said.Replace name object) = true
is_of_region _ = false

abbrev pub is_apart : Line → Bool
is_apart line = coarse.is_apart line || is_of_region line

abbrev pub AreQuiet : List Said → Type 0
AreQuiet [] = Unit {0}
AreQuiet (x ∷ xs) = (is_apart x.line ≡ false) × AreQuiet xs

-- the object of the action on top
abbrev pub action_first : List Nature → Option ObjectNo
action_first [] = None
action_first (n ∷ ns) = n.action

abbrev pub top_action : World → Who → Option ObjectNo
top_action w name = action_first (natures (frames_of w name))

-- no event passes the test
abbrev pub SparesEvents : (Due → Bool) → Type 0
SparesEvents test = (n : ℕ) (h : HandlerOf) → test (due_for.Event n h) ≡ false

pub record FinestMoves (G : GoodWorld) (May Other : Naming) (R : StepRelation) (Q : MoveRelation) : Type 0 where
  -- what is done leads from good worlds to good worlds
  pub behind : (a b : World) {xs : List Said} → R a xs b → G b
  pub moved : (a b : World) {xs : List Event} → Q a xs b → G b
  -- nothing is done, one step follows another, and a line of an effect is said, unless it is told apart
  pub stays : (w : World) → G w → R w [] w
  pub goes_on : (a b c : World) {xs ys : List Said} → R a xs b → R b ys c → R a (xs ++ ys) c
  pub says : (part : Part) (line : Line) (w : World) → G w → is_apart line ≡ false → R w (record { part = part; line = line } ∷ []) w
  -- the same of moves; an effect is over, and a change that says nothing is a move too
  pub rests : (w : World) → G w → Q w [] w
  pub leads_on : (a b c : World) {xs ys : List Event} → Q a xs b → Q b ys c → Q a (xs ++ ys) c
  pub settles : (p : Image) (a b : World) (xs : List Said) → R a xs b → Q a (lines_of p xs) (placed_by (lines_of p xs) b)
  pub silently : (a b : World) → R a [] b → Q a [] b
  -- who is who: each task is another, and so is who waits for an activation
  pub other_may : (name : Who) → Other name → May name
  pub task_other : (n : TaskNo) → Other (who.Task n)
  pub listed : (w : World) → G w → EachIs Other w.tasks
  pub awaits : (name : Who) (w : World) → G w → waits_for_activation (waiting_of w name) ≡ true → Other name
  -- tasks: an edit of anybody that leaves alone who it is, its marks, its state, its master and its clock; one of marks alone
  pub edits_task : (name : Who) (f : Task → Task) (w : World) → G w → ((t : Task) → (f t).who ≡ t.who) → ((t : Task) → (f t).frames ≡ t.frames)
      → ((t : Task) → (f t).state ≡ t.state) → ((t : Task) → (f t).master ≡ t.master) → ((t : Task) → (f t).cpu_ticks ≡ t.cpu_ticks)
      → R w [] (edit_task name f w)
  pub edits_frames : (name : Who) (f : List Frame → List Frame) (w : World) → G w → ((fs : List Frame) → natures (f fs) ≡ natures fs)
      → R w [] (edit_task name (λ t. with_frames (f t.frames) t) w)
  -- a mark is opened by who has one, behind its going on; by a task; and one that is no protected action ends
  pub pushes_on : (name : Who) (onward : Option StatementNo) (f g : Frame) (w : World) → G w → May name → top_of w name ≡ Some g → (nature f.mark).region ≡ None
      → (nature f.mark).release ≡ None → (nature f.mark).action ≡ None → (nature f.mark).abortable ≡ false → R w [] (push name f (gone_on name onward w))
  pub opens_abortable : (name : Who) (f : Frame) (w : World) → G w → Other name → (nature f.mark).region ≡ None → (nature f.mark).release ≡ None
      → (nature f.mark).action ≡ None → R w [] (push name f w)
  pub pops : (name : Who) (f : Frame) (w : World) → G w → May name → top_of w name ≡ Some f → is_protected f.mark ≡ false → R w [] (pop name w)
  -- a region begins to be left, and has been left when none of its objects is registered
  pub begins_leaving : (name : Who) (f : Frame) (m : ScopeMark) (r : RegionNo) (leaving : Leaving) (w : World) → G w → May name → top_of w name ≡ Some f
      → f.mark ≡ Scope m → m.region ≡ Some r → m.being_left ≡ false
      → R w (own (said.Leave name r (leaves_as leaving)) ∷ []) (edit_top name (left_so_frame leaving) (edit_top_scope name being_left_mark w))
  pub has_left : (name : Who) (f : Frame) (m : ScopeMark) (r : RegionNo) (w : World) → G w → May name → top_of w name ≡ Some f → f.mark ≡ Scope m
      → m.region ≡ Some r → m.being_left ≡ true → next_to_finalize w r ≡ None
      → R w (own (said.Left name r) ∷ []) (pop name w)
  -- states, and places
  pub readies : (name : Who) (w : World) → G w → Other name → R w [] (edit_task name (with_state Runnable) w)
  pub blocks : (name : Who) (waiting : Waiting) (w : World) → G w → Other name → R w [] (edit_task name (with_state (Blocked waiting)) w)
  pub places : (p : Image) (part : Part) (name : Who) (end : QueueEnd) (w : World) → G w → May name → R w (ready_line p part name end w ∷ []) w
  pub says_blocked : (part : Part) (name : Who) (waiting : Waiting) (w : World) → G w → Other name
      → R w (record { part = part; line = said.Block name (word_of waiting) } ∷ []) w
  -- a new task has the next number, the region of its creator, which goes on first, and a clock at 0
  pub adds_task : (name : Who) (onward : Option StatementNo) (t : Task) (w : World) → G w → Other name → t.who ≡ who.Task (record { 0 = w.drawn.tasks })
      → t.frames ≡ [] → t.master ≡ Some (top_region w name) → t.cpu_ticks ≡ 0 → R w [] (add_task t (gone_on name onward w))
  pub forgets_task : (name : Who) (w : World) → G w → R w [] (forget_task name w)
  pub sets_quantum : (level ticks : ℕ) (w : World) → G w → R w [] (record w { quanta = edit_at level (λ _. ticks) w.quanta })
  pub ends_environment : (leaving : Leaving) (w : World) → G w → R w [] (end_environment leaving w)
  -- scopes and their cells
  pub begins_scope : (p : Image) (name : Who) (scope : ScopeNo) (b : Beginning) (w : World) → G w → R w [] (begin_scope p name scope b w)
  pub edits_cells : (id : ScopeId) (f : List Value → List Value) (w : World) → G w → R w [] (edit_cells id f w)
  pub ends_scope : (id : ScopeId) (w : World) → G w → R w [] (end_scope id w)
  -- calls: no edit changes the number
  pub edits_call : (c : CallNo) (f : Call → Call) (w : World) → G w → ((d : Call) → (f d).number ≡ d.number) → R w [] (edit_call c f w)
  pub adds_call : (c : Call) (w : World) → G w → R w [] (add_call c w)
  pub forgets_call : (c : CallNo) (w : World) → G w → R w [] (forget_call c w)
  -- protected objects: no other edit changes the actions that are open
  pub edits_object : (o : ObjectNo) (f : Object → Object) (w : World) → G w → ((x : Object) → (f x).number ≡ x.number)
      → ((x : Object) → (f x).actions ≡ x.actions) → R w [] (edit_object o f w)
  pub adds_object : (p : Image) (l : Located) (u : ProtectedUnitNo) (w : World) → G w
      → R w [] (record w { objects = new_object p l u (suc w.drawn.objects) ∷ w.objects; drawn = object_drawn w.drawn })
  -- protected actions: one that begins is inside; one begins and ends at once round other lines and a change; and one may not begin
  pub inside : (name : Who) (o : ObjectNo) (mode : Mode) (w : World) → G w → LetsIn name o mode w → G (open_action name o mode w)
  pub visits : (name : Who) (o : ObjectNo) (mode : Mode) (xs : List Said) (w v : World) → G w → LetsIn name o mode w → AreQuiet xs → R w [] v
      → R w (own (said.Enter name o mode) ∷ xs ++ own (said.Exit name o) ∷ []) v
  pub finds_held : (name : Who) (o : ObjectNo) (mode : Mode) (w : World) → G w → FindsHeld name o mode w → R w (own (said.Held name o mode) ∷ []) w
  -- appointments that are no events: one that is set is later than now
  pub appoints : (due : Due) (moment : ℤ) (w : World) → G w → is_an_event due ≡ false → int_lt (pos w.time) moment ≡ true → R w [] (appoint due moment w)
  pub drops_appointment : (test : Due → Bool) (w : World) → G w → SparesEvents test → R w [] (drop_appointment test w)
  -- controlled objects: a new one has the next number; of a region that is being left the newest is finalized; and one that is
  -- registered is assigned to
  pub registers : (name : Who) (l : Located) (w : World) → G w
      → R w (own (said.Init name (suc w.drawn.controlled) (top_region w name) l.declared) ∷ []) (registered_as (suc w.drawn.controlled) (top_region w name) l w)
  pub finalizes : (name : Who) (f : Frame) (m : ScopeMark) (r : RegionNo) (x : Registered) (w : World) → G w → May name → top_of w name ≡ Some f
      → f.mark ≡ Scope m → m.region ≡ Some r → m.being_left ≡ true → next_to_finalize w r ≡ Some x
      → R w (own (said.Final name x.object) ∷ []) (no_longer_registered x.object w)
  pub replaces : (name : Who) (l : Located) (x : Registered) (w : World) → G w → registered_at w l ≡ Some x → R w (own (said.Replace name x.object) ∷ []) w
  -- events, timers and budgets that are declared, and what is left of a budget
  pub draws_event : (w : World) → G w → R w [] (record w { drawn = event_drawn w.drawn })
  pub adds_timer : (t : TaskNo) (w : World) → G w → R w [] (with_timer t w)
  pub adds_budget : (w : World) → G w → R w [] (with_budget w)
  pub edits_budget : (b : ℕ) (f : Budget → Budget) (w : World) → G w → ((x : Budget) → (f x).handler ≡ x.handler) → R w [] (edit_budget b f w)

module _ {G : GoodWorld} {May Other : Naming} {R : StepRelation} {Q : MoveRelation} (moves : FinestMoves G May Other R Q) where
  pub chains : Chains G R
  chains = record { behind = moves.behind; stays = moves.stays; goes_on = moves.goes_on }

  pub move_chains : MoveChains G Q
  move_chains = record { moved = moves.moved; leads_on = moves.leads_on }

  -- a line that tells no change
  pub says-keeps : (part : Part) (line : Line) → is_apart line ≡ false → Keeps G R (says part line)
  says-keeps part line other = said-keeps chains part line (λ w good. moves.says part line w good other)

  -- an effect is over
  pub effect-leads : (p : Image) (step : Step) → Keeps G R step → Leads G Q (settles p step)
  effect-leads p step kept = settles-leads Q p (moves.settles p) G step kept

-- What sets or cancels what is released later, the clock of a task that goes on, and the outside.
pub record SettingMoves (G : GoodWorld) (R : StepRelation) : Type 0 where
  pub appoints_event : (n : ℕ) (h : HandlerOf) (moment : ℤ) (w : World) → G w → int_lt (pos w.time) moment ≡ true
      → R w [] (appoint (due_for.Event n h) moment w)
  pub drops_any : (test : Due → Bool) (w : World) → G w → R w [] (drop_appointment test w)
  pub clears_timer : (k : ℕ) (w : World) → G w → R w [] (clear_timer k w)
  pub sets_timer : (k : ℕ) (h : HandlerOf) (value : ℤ) (w : World) → G w → R w [] (with_timer_set k h value w)
  pub sets_timers_due : (timers : List ℕ) (w : World) → G w → R w [] (record w { timers_due = timers })
  pub sets_budget : (b : ℕ) (f : Budget → Budget) (w : World) → G w → R w [] (edit_budget b f w)
  pub sets_budget_due : (budget : Option ℕ) (w : World) → G w → R w [] (record w { budget_due = budget })
  pub counts : (t : TaskNo) (w : World) → G w → R w [] (edit_task (who.Task t) clock_risen w)
  -- of the script only the first item that is ahead is taken, when its moment has come
  pub sets_port : (n : ℕ) (value : ℤ) (w : World) → G w → R w [] (with_port n value w)
  pub masks : (n : ℕ) (flag : Bool) (w : World) → G w → R w [] (with_masked n flag w)
  pub keeps_interrupt : (n : ℕ) (flag : Bool) (w : World) → G w → R w [] (with_kept_interrupt n flag w)
  pub cuts_script : (x : ℤ × Item) (rest : List (ℤ × Item)) (w : World) → G w → w.script ≡ x ∷ rest → int_le x.0 (pos w.time) ≡ true
      → R w [] (with_script rest w)

-- lines that place somebody
abbrev pub ArePlacings : List Said → Type 0
ArePlacings [] = Unit {0}
ArePlacings (x ∷ xs) = (coarse.is_placing x.line ≡ true) × ArePlacings xs

-- an action begins: what is done between `enter` and its mark is done inside, and places who acts, if it says anything
abbrev pub Begins : GoodWorld → StepRelation → Who → ObjectNo → Mode → Option CallNo → Option ℕ → Type 0
Begins G R name o mode call release =
    (w v : World) (xs : List Said) → G w → LetsIn name o mode w → ArePlacings xs → R (open_action name o mode w) xs v
    → R w (own (said.Enter name o mode) ∷ xs) (push name (new_frame (new_protected_mark o mode call release) None) v)

-- Who acts opens marks, and begins actions that are no handler's; of who acts beside a protected action, or in an abortable part, it
-- is known that it is another.
pub record MarkOpenings (G : GoodWorld) (May Other : Naming) (R : StepRelation) : Type 0 where
  pub pushes : (name : Who) (f : Frame) (w : World) → G w → May name → (nature f.mark).region ≡ None → (nature f.mark).release ≡ None
      → (nature f.mark).action ≡ None → (nature f.mark).abortable ≡ false → R w [] (push name f w)
  pub begins : (name : Who) (o : ObjectNo) (mode : Mode) (call : Option CallNo) → May name → Begins G R name o mode call None
  pub opens_scope : (p : Image) (name : Who) (scope : ScopeNo) (b : Beginning) (purpose : Purpose) (w : World) → G w → May name
      → R w [] (open_scope p name scope b purpose w)
  pub outside : (name : Who) (w : World) → G w → May name → in_protected w name ≡ false → Other name
  pub within_part : (name : Who) (f : Frame) (w : World) → G w → May name → top_of w name ≡ Some f → is_abortable f.mark ≡ true → Other name

-- Who waits for dependents in a region of its own is another too.
pub record OwnRegions (G : GoodWorld) (May Other : Naming) (Owns : Who → RegionNo → Type 0) : Type 0 where
  pub owned : (name : Who) (f : Frame) (r : RegionNo) (w : World) → G w → May name → top_of w name ≡ Some f → region_of_mark f.mark ≡ Some r → Owns name r
  pub awaits_dependents : (name : Who) (r : RegionNo) (w : World) → G w → May name → Owns name r → has_dependents w r ≡ true → Other name

-- what is known of who has a protected action, up to its end
abbrev pub Holding : Type 1
Holding = Who → ObjectNo → World → Type 0

-- The protected action on top ends, of a release that may end.
pub record ActionEnds (G : GoodWorld) (May : Naming) (MayEnd : Who → Option ℕ → Type 0) (Holds : Holding) (R : StepRelation) : Type 0 where
  pub exits : (name : Who) (m : ProtectedMark) (w : World) → G w → May name → MayEnd name m.release → Holds name m.object w
      → R w (own (said.Exit name m.object) ∷ []) (close_action name m.object (pop name w))

-- The handler of a release is called, and the release has been served.
pub record HandlerMoves (G : GoodWorld) (R : StepRelation) : Type 0 where
  pub handles : (o : ObjectNo) (release : ℕ) → Begins G R who.Agent o Write None (Some release)
  pub has_served : (r : Release) (w : World) → G w → w.serving ≡ Some r → R w (own (said.Served r.number) ∷ []) (serves_nothing w)

-- All of them together, of anybody, with the releases that come.
pub record AllMoves (G : GoodWorld) (Holds : Holding) (R : StepRelation) (Q : MoveRelation) : Type 0 where
  pub fine : FinestMoves G Anybody Anybody R Q
  pub openings : MarkOpenings G Anybody Anybody R
  pub regions : OwnRegions G Anybody Anybody AnyRegion
  pub ends : ActionEnds G Anybody AnyRelease Holds R
  pub handlers : HandlerMoves G R
  pub settings : SettingMoves G R
  pub releases : (h : HandlerOf) (argument : Option ℕ) (w : World) → G w → R w (own (said.Release (suc w.drawn.releases) h) ∷ []) (add_release h argument w)

-- What a tock does besides, up to its tick.
pub record TockChanges (G : GoodWorld) (Q : MoveRelation) : Type 0 where
  pub tells : (event : Event) (w : World) → G w → is_of_tock event ≡ true → Q w (event ∷ []) w
  pub serves : (r : Release) (rest : List Release) (w : World) → G w → w.releases ≡ r ∷ rest → Q w [] (with_serving r rest w)

-- nothing is known
abbrev pub Anyhow : Holding
Anyhow name o w = Unit {0}

-- ---- from changes that are told apart by less

-- of a nature, what FineMoves tells apart
abbrev coarsened : Nature → coarse.Nature
coarsened n = record { region = n.region; release = n.release; action = not (is_none n.action); abortable = n.abortable }

coarse-nature : (mark : Mark) → coarse.nature mark ≡ coarsened (nature mark)
coarse-nature (Scope m) = refl
coarse-nature (Handled s) = refl
coarse-nature (InProtected m) = refl
coarse-nature (InAccept m) = refl
coarse-nature (Abortable m) = refl
coarse-nature (InInitialize l) = refl
coarse-nature (InFinalize o) = refl
coarse-nature (InAssign m) = refl

abbrev all_coarsened : List Nature → List coarse.Nature
all_coarsened [] = []
all_coarsened (n ∷ ns) = coarsened n ∷ all_coarsened ns

coarse-natures : (fs : List Frame) → coarse.natures fs ≡ all_coarsened (natures fs)
coarse-natures [] = refl
coarse-natures (f ∷ fs) = ap (λ n. n ∷ coarse.natures fs) (coarse-nature f.mark) ∙ ap (λ ns. coarsened (nature f.mark) ∷ ns) (coarse-natures fs)

same-natures : (fs gs : List Frame) → natures fs ≡ natures gs → coarse.natures fs ≡ coarse.natures gs
same-natures fs gs same = coarse-natures fs ∙ ap all_coarsened same ∙ sym (coarse-natures gs)

scope-nature : (f : ScopeMark → ScopeMark) → ((m : ScopeMark) → (f m).region ≡ m.region) → (mark : Mark)
    → coarse.nature (edit_scope_mark f mark) ≡ coarse.nature mark
scope-nature f same (Scope m) = ap (λ r. record { region = r; release = None; action = false; abortable = false }) (same m)
scope-nature f same (Handled s) = refl
scope-nature f same (InProtected m) = refl
scope-nature f same (InAccept m) = refl
scope-nature f same (Abortable m) = refl
scope-nature f same (InInitialize l) = refl
scope-nature f same (InFinalize o) = refl
scope-nature f same (InAssign m) = refl

first-natures : (f : Frame → Frame) (fs : List Frame) → ((x : Frame) → coarse.nature (f x).mark ≡ coarse.nature x.mark)
    → coarse.natures (edit_first f fs) ≡ coarse.natures fs
first-natures f [] same = refl
first-natures f (x ∷ xs) same = ap (λ n. n ∷ coarse.natures xs) (same x)

pub less-quiet : (xs : List Said) → AreQuiet xs → coarse.AreQuiet xs
less-quiet [] q = tt
less-quiet (x ∷ xs) q = (first_is_false (coarse.is_apart x.line) (is_of_region x.line) q.0, less-quiet xs q.1)

module _ {G : GoodWorld} {May Other : Naming} {R : StepRelation} {Q : MoveRelation} (moves : FineMoves G May Other R Q) where
  top_edited : (name : Who) (f : Frame → Frame) (w : World) → G w → ((x : Frame) → coarse.nature (f x).mark ≡ coarse.nature x.mark) → R w [] (edit_top name f w)
  top_edited name f w good same = moves.edits_frames name (edit_first f) w good (λ fs. first-natures f fs same)

  -- a line tells a change behind it
  told : (part : Part) (line : Line) (w v : World) → coarse.is_apart line ≡ false → R w [] v → R w (record { part = part; line = line } ∷ []) v
  told part line w v apart first =
      moves.goes_on w v v {xs = []} {ys = record { part = part; line = line } ∷ []} first (moves.says part line v (moves.behind w v first) apart)

  left_begun : (name : Who) (r : RegionNo) (leaving : Leaving) (w : World) → G w
      → R w (own (said.Leave name r (leaves_as leaving)) ∷ []) (edit_top name (left_so_frame leaving) (edit_top_scope name being_left_mark w))
  left_begun name r leaving w good =
      let marked = edit_top_scope name being_left_mark w in
      let left = edit_top name (left_so_frame leaving) marked in
      let first = top_edited name (λ x. with_mark (edit_scope_mark being_left_mark x.mark) x) w good (λ x. scope-nature being_left_mark (λ m. refl) x.mark) in
      told Own (said.Leave name r (leaves_as leaving)) w left refl
      (moves.goes_on w marked left {xs = []} {ys = []} first (top_edited name (left_so_frame leaving) marked (moves.behind w marked first) (λ x. refl)))

  -- where its mark is opened, an action begins
  pub begun : (name : Who) (o : ObjectNo) (mode : Mode) (call : Option CallNo) (release : Option ℕ)
      → ((w : World) → G w → R w [] (push name (new_frame (new_protected_mark o mode call release) None) w)) → Begins G R name o mode call release
  begun name o mode call release pushed w v xs good lets placed inside =
      let opened = open_action name o mode w in
      let f = new_frame (new_protected_mark o mode call release) None in
      let lines = own (said.Enter name o mode) ∷ xs in
      let first : R w lines v = moves.goes_on w opened v {xs = own (said.Enter name o mode) ∷ []} {ys = xs} (moves.enters name o mode w good lets) inside in
      subst (λ (ys : List Said). R w ys (push name f v)) (append-nil lines)
      (moves.goes_on w v (push name f v) {xs = lines} {ys = []} first (pushed v (moves.behind w v first)))

  pub finest : FinestMoves G May Other R Q
  finest = record {
    behind = moves.behind;
    moved = moves.moved;
    stays = moves.stays;
    goes_on = moves.goes_on;
    says = λ part line w g apart. moves.says part line w g (first_is_false (coarse.is_apart line) (is_of_region line) apart);
    rests = moves.rests;
    leads_on = moves.leads_on;
    settles = moves.settles;
    silently = moves.silently;
    other_may = moves.other_may;
    task_other = moves.task_other;
    listed = moves.listed;
    awaits = moves.awaits;
    edits_task = λ name f w g same_who same_frames same_state same_master same_clock. moves.edits_task name f w g same_who same_frames same_state same_master;
    edits_frames = λ name f w g same. moves.edits_frames name f w g (λ fs. same-natures (f fs) fs (same fs));
    pushes_on = λ name onward f h w g may top region release action abortable. moves.pushes_on name onward f h w g may top region release abortable;
    opens_abortable = λ name f w g other region release action. moves.opens_abortable name f w g other region release;
    pops = moves.pops;
    begins_leaving = λ name f m r leaving w g may top is region left. left_begun name r leaving w g;
    has_left =
        λ name f m r w g may top is region left next. told Own (said.Left name r) w (pop name w) refl (moves.pops name f w g may top (ap is_protected is));
    readies = moves.readies;
    blocks = moves.blocks;
    places = moves.places;
    says_blocked = moves.says_blocked;
    adds_task = λ name onward t w g other same_who none master clock. moves.adds_task name onward t w g other same_who none master;
    forgets_task = moves.forgets_task;
    sets_quantum = moves.sets_quantum;
    ends_environment = moves.ends_environment;
    begins_scope = moves.begins_scope;
    edits_cells = moves.edits_cells;
    ends_scope = moves.ends_scope;
    edits_call = moves.edits_call;
    adds_call = moves.adds_call;
    forgets_call = moves.forgets_call;
    edits_object = moves.edits_object;
    adds_object = moves.adds_object;
    inside = λ name o mode w g lets. moves.behind w (open_action name o mode w) (moves.enters name o mode w g lets);
    visits = λ name o mode xs w v g lets quiet k. moves.visits name o mode xs w v g lets (less-quiet xs quiet) k;
    finds_held = moves.finds_held;
    appoints = λ due moment w g other later. moves.appoints due moment w g later;
    drops_appointment = λ test w g spares. moves.drops_appointment test w g;
    registers =
        λ name l w g. told Own (said.Init name (suc w.drawn.controlled) (top_region w name) l.declared) w _ refl (moves.registers (top_region w name) l w g);
    finalizes = λ name f m r x w g may top is region left next. told Own (said.Final name x.object) w _ refl (moves.unregisters x.object w g);
    replaces = λ name l x w g found. moves.says Own (said.Replace name x.object) w g refl;
    draws_event = moves.draws_event;
    adds_timer = moves.adds_timer;
    adds_budget = moves.adds_budget;
    edits_budget = λ b f w g same. moves.edits_budget b f w g;
  }

  pub setting_moves : SettingMoves G R
  setting_moves = record {
    appoints_event = λ n h moment w g later. moves.appoints (due_for.Event n h) moment w g later;
    drops_any = moves.drops_appointment;
    clears_timer = moves.clears_timer;
    sets_timer = moves.sets_timer;
    sets_timers_due = moves.sets_timers_due;
    sets_budget = moves.edits_budget;
    sets_budget_due = moves.sets_budget_due;
    counts = λ t w g. moves.edits_task (who.Task t) clock_risen w g (λ u. refl) (λ u. refl) (λ u. refl) (λ u. refl);
    sets_port = moves.sets_port;
    masks = moves.masks;
    keeps_interrupt = moves.keeps_interrupt;
    cuts_script = moves.cuts_script;
  }

  module _ {Owns : Who → RegionNo → Type 0} (openings : Openings G May Other Owns R) where
    pub mark_openings : MarkOpenings G May Other R
    mark_openings = record {
      pushes = λ name f w g may region release action abortable. openings.pushes name f w g may region release abortable;
      begins =
          λ name o mode call may w v xs g lets placed k. begun name o mode call None
          (λ u good. openings.pushes name (new_frame (new_protected_mark o mode call None) None) u good may refl refl refl) w v xs g lets placed k;
      opens_scope = openings.opens_scope;
      outside = openings.outside;
      within_part = openings.within_part;
    }

module _ {G : GoodWorld} {May Other : Naming} {Owns : Who → RegionNo → Type 0} {R : StepRelation} (openings : Openings G May Other Owns R) where
  pub own_regions : OwnRegions G May Other Owns
  own_regions = record { owned = openings.owned; awaits_dependents = openings.awaits_dependents }

module _ {G : GoodWorld} {May : Naming} {MayEnd : Who → Option ℕ → Type 0} {R : StepRelation} (exits : Exits G May MayEnd R) where
  pub action_ends : ActionEnds G May MayEnd Anyhow R
  action_ends = record { exits = λ name m w g may may_end holds. exits.exits name m w g may may_end }

-- what changes of anybody from any world keep, these keep
pub all_of : {R : StepRelation} {Q : MoveRelation} → Moves R Q → AllMoves AnyWorld Anyhow R Q
all_of moves = record {
  fine = finest (finely moves);
  openings = mark_openings (finely moves) (openings moves);
  regions = own_regions (openings moves);
  ends = action_ends (exits moves);
  handlers = record {
    handles =
        λ o n w v xs g lets placed k. begun (finely moves) who.Agent o Write None (Some n)
        (λ u good.
        moves.edits_task who.Agent (λ t. with_frames (new_frame (new_protected_mark o Write None (Some n)) None ∷ t.frames) t) u
        (λ t. refl)) w v xs g lets placed k;
    has_served = λ r w g is. moves.has_served r w is;
  };
  settings = setting_moves (finely moves);
  releases = λ h argument w g. moves.releases h argument w;
}

pub tocks_of : {Q : MoveRelation} → TockMoves Q → TockChanges AnyWorld Q
tocks_of tocks = record { tells = λ event w g is. tocks.tells event w is; serves = λ r rest w g is. tocks.serves r rest w is }
