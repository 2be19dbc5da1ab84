-- The changes of Moves told apart by whom they touch, each from a world that is good: so a law can say what an effect does to
-- whom. May is said of who acts, and Other of the others, which are tasks; nobody else blocks, becomes ready or is placed.
use Rattle.std.proofs.Common.{◌≡◌, ℕ, ℤ, suc, Bool, true, false, ◌||◌, List, [], ◌∷◌, ◌++◌, Option, Some, None, refl, sym, ap, ◌∙◌}
use Rattle.std.specs.Prelude.{int_lt, int_le, pos}
use Rattle.ann_base.specs.declared.identities.CallNo.{CallNo}
use Rattle.ann_base.specs.declared.identities.ObjectNo.{ObjectNo}
use Rattle.ann_base.specs.declared.identities.RegionNo.{RegionNo}
use Rattle.ann_base.specs.declared.identities.TaskNo.{TaskNo}
use Rattle.trace_text.specs.declared.events.Event.{Event}
use Rattle.trace_text.specs.declared.events.Mode.{Mode}
use Rattle.trace_text.specs.declared.events.QueueEnd.{QueueEnd}
use Rattle.trace_text.specs.declared.events.Who.{Who}
use Rattle.world_tables.specs.Lists.{rest_of}
use Rattle.trace_text.specs.declared.events.Who.TheVariants as who
use Rattle.profile_image.specs.declared.image.Image.{Image}
use Rattle.profile_image.specs.declared.numbers.ProtectedUnitNo.{ProtectedUnitNo}
use Rattle.profile_image.specs.declared.numbers.ScopeNo.{ScopeNo}
use Rattle.profile_image.specs.declared.numbers.StatementNo.{StatementNo}
use Rattle.profile_image.specs.declared.script_items.Item.{Item}
use Rattle.profile_machine.specs.declared.run_data.Leaving.{Leaving}
use Rattle.profile_image.specs.declared.values.Value.{Value}
use Rattle.profile_machine.specs.declared.world.World.{World}
use Rattle.profile_machine.specs.declared.world.marks.Frame.{Frame}
use Rattle.profile_machine.specs.declared.world.marks.Mark.{Mark}
use Rattle.profile_machine.specs.declared.world.marks.Mark.TheVariants.{Scope, Handled, InProtected, InAccept, Abortable, InInitialize, InFinalize, InAssign}
use Rattle.profile_machine.specs.declared.world.marks.ProtectedMark.{ProtectedMark}
use Rattle.profile_machine.specs.declared.world.marks.Purpose.{Purpose}
use Rattle.profile_machine.specs.declared.world.tasks.Task.{Task}
use Rattle.profile_machine.specs.declared.world.tasks.Waiting.{Waiting}
use Rattle.profile_machine.specs.declared.world.tasks.State.TheVariants.{Runnable, Blocked}
use Rattle.profile_machine.specs.declared.world.scopes.Beginning.{Beginning}
use Rattle.profile_machine.specs.declared.world.scopes.ScopeId.{ScopeId}
use Rattle.profile_machine.specs.declared.world.scopes.Located.{Located}
use Rattle.profile_machine.specs.declared.world.calls.Call.{Call}
use Rattle.profile_machine.specs.declared.world.objects.Object.{Object}
use Rattle.profile_machine.specs.declared.world.appointments.Due.{Due}
use Rattle.profile_machine.specs.declared.world.appointments.Budget.{Budget}
use Rattle.profile_machine.specs.declared.world.appointments.HandlerOf.{HandlerOf}
use Rattle.profile_machine.specs.declared.world.lines.Part.{Part}
use Rattle.profile_machine.specs.declared.world.lines.Said.{Said}
use Rattle.profile_machine.specs.declared.world.lines.Line.{Line}
use Rattle.profile_machine.specs.declared.world.lines.Line.TheVariants as said
use Rattle.profile_image.specs.Words.{edit_at}
use Rattle.profile_machine.specs.Steps.{placed_by}
use Rattle.profile_machine.specs.Tasks.{task_of, task_at, edit_task_found, edit_task, with_state, with_frames, waiting_of}
use Rattle.profile_machine.specs.Dispatching.{active, deadline_shown, word_of}
use Rattle.profile_image.specs.Program.{scope_of}
use Rattle.profile_machine.specs.Frames.{top_of, edit_first, edit_top, new_frame, push, pop, goes_on, is_protected, in_protected}
use Rattle.profile_machine.specs.Scopes.{edit_cells, begin_scope, draw_region, open_scope, end_scope, next_id, region_of_next, new_scope_mark}
use Rattle.profile_machine.specs.Appointments.{appoint, drop_appointment}
use Rattle.profile_machine.specs.Calls.{edit_call, forget_call, edit_object}
use Rattle.profile_machine.specs.Masters.{region_of_mark, has_dependents, waits_for_activation, forget_task}
use Rattle.profile_machine.specs.Protected.{open_action}
use Rattle.profile_machine.specs.EntryCalls.{add_call}
use Rattle.profile_machine.specs.Controlled.{top_region, registered_as, no_longer_registered}
use Rattle.profile_machine.specs.Declarations.{new_object, object_drawn, event_drawn, with_budget, with_timer}
use Rattle.profile_machine.specs.Tasking.{add_task, end_environment}
use Rattle.profile_machine.specs.Serving.{close_action}
use Rattle.profile_machine.specs.Handlers.{clear_timer, with_timer_set, edit_budget}
use Rattle.profile_machine.specs.Instant.{with_port, with_masked, with_kept_interrupt, with_script}
use Rattle.machine_laws.proofs.Moves.{StepRelation, MoveRelation, Moves, is_told_apart, AreOthers, LetsIn, FindsHeld, own, lines_of}

abbrev pub GoodWorld : Type 1
GoodWorld = World → Type 0

abbrev pub Naming : Type 1
Naming = Who → Type 0

-- ---- what a mark is, whatever is edited in it: its region, the release that ends with it, and two of its kinds

abbrev pub release_in : Mark → Option ℕ
release_in (Scope m) = None
release_in (Handled s) = None
release_in (InProtected m) = m.release
release_in (InAccept m) = None
release_in (Abortable m) = None
release_in (InInitialize l) = None
release_in (InFinalize o) = None
release_in (InAssign m) = None

abbrev pub is_abortable : Mark → Bool
is_abortable (Scope m) = false
is_abortable (Handled s) = false
is_abortable (InProtected m) = false
is_abortable (InAccept m) = false
is_abortable (Abortable m) = true
is_abortable (InInitialize l) = false
is_abortable (InFinalize o) = false
is_abortable (InAssign m) = false

pub record Nature : Type 0 where
  pub region : Option RegionNo
  pub release : Option ℕ
  pub action : Bool
  pub abortable : Bool

abbrev pub nature : Mark → Nature
nature mark = record { region = region_of_mark mark; release = release_in mark; action = is_protected mark; abortable = is_abortable mark }

abbrev pub natures : List Frame → List Nature
natures [] = []
natures (f ∷ fs) = nature f.mark ∷ natures fs

-- ---- lines that are said only together with what they tell

abbrev pub is_placing : Line → Bool
is_placing (said.Ready name level end deadline) = true
is_placing (said.Block name why) = true
is_placing _ = false

abbrev pub is_apart : Line → Bool
is_apart line = is_told_apart line || is_placing line

abbrev pub AreQuiet : List Said → Type 0
AreQuiet [] = Unit {0}
AreQuiet (x ∷ xs) = (is_apart x.line ≡ false) × AreQuiet xs

abbrev pub EachIs : Naming → List Task → Type 0
EachIs Is [] = Unit {0}
EachIs Is (t ∷ ts) = Is t.who × EachIs Is ts

abbrev pub ready_line : Image → Part → Who → QueueEnd → World → Said
ready_line p part name end w = record { part = part; line = said.Ready name (active p (task_of w name)) end (deadline_shown p (task_of w name)) }

-- somebody goes on
abbrev pub gone_on : Who → Option StatementNo → World → World
gone_on name onward = edit_top name (goes_on onward)

pub record FineMoves (G : GoodWorld) (May Other : Naming) (R : StepRelation) (Q : MoveRelation) : Type 0 where
  -- what is done leads from good worlds to good worlds
  pub behind : (a b : World) {xs : List Said} → R a xs b → G b
  pub moved : (a b : World) {xs : List Event} → Q a xs b → G b
  -- nothing is done, one step follows another, and a line of an effect is said, unless it is told apart
  pub stays : (w : World) → G w → R w [] w
  pub goes_on : (a b c : World) {xs ys : List Said} → R a xs b → R b ys c → R a (xs ++ ys) c
  pub says : (part : Part) (line : Line) (w : World) → G w → is_apart line ≡ false → R w (record { part = part; line = line } ∷ []) w
  -- the same of moves; an effect is over, and a change that says nothing is a move too
  pub rests : (w : World) → G w → Q w [] w
  pub leads_on : (a b c : World) {xs ys : List Event} → Q a xs b → Q b ys c → Q a (xs ++ ys) c
  pub settles : (p : Image) (a b : World) (xs : List Said) → R a xs b → Q a (lines_of p xs) (placed_by (lines_of p xs) b)
  pub silently : (a b : World) → R a [] b → Q a [] b
  -- who is who: each task is another, and so is who waits for an activation
  pub other_may : (name : Who) → Other name → May name
  pub task_other : (n : TaskNo) → Other (who.Task n)
  pub listed : (w : World) → G w → EachIs Other w.tasks
  pub awaits : (name : Who) (w : World) → G w → waits_for_activation (waiting_of w name) ≡ true → Other name
  -- tasks: an edit of anybody that leaves alone who it is, its marks, its state and its master; one of marks alone
  pub edits_task : (name : Who) (f : Task → Task) (w : World) → G w → ((t : Task) → (f t).who ≡ t.who) → ((t : Task) → (f t).frames ≡ t.frames)
      → ((t : Task) → (f t).state ≡ t.state) → ((t : Task) → (f t).master ≡ t.master) → R w [] (edit_task name f w)
  pub edits_frames : (name : Who) (f : List Frame → List Frame) (w : World) → G w → ((fs : List Frame) → natures (f fs) ≡ natures fs)
      → R w [] (edit_task name (λ t. with_frames (f t.frames) t) w)
  -- a mark is opened by who has one, behind its going on; by a task; and one that is no protected action ends
  pub pushes_on : (name : Who) (onward : Option StatementNo) (f g : Frame) (w : World) → G w → May name → top_of w name ≡ Some g → (nature f.mark).region ≡ None
      → (nature f.mark).release ≡ None → (nature f.mark).abortable ≡ false → R w [] (push name f (gone_on name onward w))
  pub opens_abortable : (name : Who) (f : Frame) (w : World) → G w → Other name → (nature f.mark).region ≡ None → (nature f.mark).release ≡ None
      → R w [] (push name f w)
  pub pops : (name : Who) (f : Frame) (w : World) → G w → May name → top_of w name ≡ Some f → is_protected f.mark ≡ false → R w [] (pop name w)
  -- states, and places
  pub readies : (name : Who) (w : World) → G w → Other name → R w [] (edit_task name (with_state Runnable) w)
  pub blocks : (name : Who) (waiting : Waiting) (w : World) → G w → Other name → R w [] (edit_task name (with_state (Blocked waiting)) w)
  pub places : (p : Image) (part : Part) (name : Who) (end : QueueEnd) (w : World) → G w → May name → R w (ready_line p part name end w ∷ []) w
  pub says_blocked : (part : Part) (name : Who) (waiting : Waiting) (w : World) → G w → Other name
      → R w (record { part = part; line = said.Block name (word_of waiting) } ∷ []) w
  -- a new task has the next number and the region of its creator, which goes on first
  pub adds_task : (name : Who) (onward : Option StatementNo) (t : Task) (w : World) → G w → Other name → t.who ≡ who.Task (record { 0 = w.drawn.tasks })
      → t.frames ≡ [] → t.master ≡ Some (top_region w name) → R w [] (add_task t (gone_on name onward w))
  pub forgets_task : (name : Who) (w : World) → G w → R w [] (forget_task name w)
  pub sets_quantum : (level ticks : ℕ) (w : World) → G w → R w [] (record w { quanta = edit_at level (λ _. ticks) w.quanta })
  pub ends_environment : (leaving : Leaving) (w : World) → G w → R w [] (end_environment leaving w)
  -- scopes and their cells
  pub begins_scope : (p : Image) (name : Who) (scope : ScopeNo) (b : Beginning) (w : World) → G w → R w [] (begin_scope p name scope b w)
  pub edits_cells : (id : ScopeId) (f : List Value → List Value) (w : World) → G w → R w [] (edit_cells id f w)
  pub ends_scope : (id : ScopeId) (w : World) → G w → R w [] (end_scope id w)
  -- calls: no edit changes the number
  pub edits_call : (c : CallNo) (f : Call → Call) (w : World) → G w → ((d : Call) → (f d).number ≡ d.number) → R w [] (edit_call c f w)
  pub adds_call : (c : Call) (w : World) → G w → R w [] (add_call c w)
  pub forgets_call : (c : CallNo) (w : World) → G w → R w [] (forget_call c w)
  -- protected objects: no other edit changes the actions that are open
  pub edits_object : (o : ObjectNo) (f : Object → Object) (w : World) → G w → ((x : Object) → (f x).number ≡ x.number)
      → ((x : Object) → (f x).actions ≡ x.actions) → R w [] (edit_object o f w)
  pub adds_object : (p : Image) (l : Located) (u : ProtectedUnitNo) (w : World) → G w
      → R w [] (record w { objects = new_object p l u (suc w.drawn.objects) ∷ w.objects; drawn = object_drawn w.drawn })
  -- protected actions: one begins, one begins and ends at once round other lines and a change, and one may not begin
  pub enters : (name : Who) (o : ObjectNo) (mode : Mode) (w : World) → G w → LetsIn name o mode w
      → R w (own (said.Enter name o mode) ∷ []) (open_action name o mode w)
  pub visits : (name : Who) (o : ObjectNo) (mode : Mode) (xs : List Said) (w v : World) → G w → LetsIn name o mode w → AreQuiet xs → R w [] v
      → R w (own (said.Enter name o mode) ∷ xs ++ own (said.Exit name o) ∷ []) v
  pub finds_held : (name : Who) (o : ObjectNo) (mode : Mode) (w : World) → G w → FindsHeld name o mode w → R w (own (said.Held name o mode) ∷ []) w
  -- appointments: one that is set is later than now
  pub appoints : (due : Due) (moment : ℤ) (w : World) → G w → int_lt (pos w.time) moment ≡ true → R w [] (appoint due moment w)
  pub drops_appointment : (test : Due → Bool) (w : World) → G w → R w [] (drop_appointment test w)
  -- controlled objects: a new one has the next number
  pub registers : (r : RegionNo) (l : Located) (w : World) → G w → R w [] (registered_as (suc w.drawn.controlled) r l w)
  pub unregisters : (n : ℕ) (w : World) → G w → R w [] (no_longer_registered n w)
  -- events, timers and budgets
  pub draws_event : (w : World) → G w → R w [] (record w { drawn = event_drawn w.drawn })
  pub adds_timer : (t : TaskNo) (w : World) → G w → R w [] (with_timer t w)
  pub clears_timer : (k : ℕ) (w : World) → G w → R w [] (clear_timer k w)
  pub sets_timer : (k : ℕ) (h : HandlerOf) (value : ℤ) (w : World) → G w → R w [] (with_timer_set k h value w)
  pub sets_timers_due : (timers : List ℕ) (w : World) → G w → R w [] (record w { timers_due = timers })
  pub adds_budget : (w : World) → G w → R w [] (with_budget w)
  pub edits_budget : (b : ℕ) (f : Budget → Budget) (w : World) → G w → R w [] (edit_budget b f w)
  pub sets_budget_due : (budget : Option ℕ) (w : World) → G w → R w [] (record w { budget_due = budget })
  -- the outside: of the script only the first item that is ahead is taken, when its moment has come
  pub sets_port : (n : ℕ) (value : ℤ) (w : World) → G w → R w [] (with_port n value w)
  pub masks : (n : ℕ) (flag : Bool) (w : World) → G w → R w [] (with_masked n flag w)
  pub keeps_interrupt : (n : ℕ) (flag : Bool) (w : World) → G w → R w [] (with_kept_interrupt n flag w)
  pub cuts_script : (x : ℤ × Item) (rest : List (ℤ × Item)) (w : World) → G w → w.script ≡ x ∷ rest → int_le x.0 (pos w.time) ≡ true
      → R w [] (with_script rest w)

-- Who acts opens marks; of who acts beside a protected action, or in an abortable part, it is known that it is another; and
-- who waits for dependents in a region of its own is another too.
pub record Openings (G : GoodWorld) (May Other : Naming) (Owns : Who → RegionNo → Type 0) (R : StepRelation) : Type 0 where
  pub pushes : (name : Who) (f : Frame) (w : World) → G w → May name → (nature f.mark).region ≡ None → (nature f.mark).release ≡ None
      → (nature f.mark).abortable ≡ false → R w [] (push name f w)
  pub opens_scope : (p : Image) (name : Who) (scope : ScopeNo) (b : Beginning) (purpose : Purpose) (w : World) → G w → May name
      → R w [] (open_scope p name scope b purpose w)
  pub outside : (name : Who) (w : World) → G w → May name → in_protected w name ≡ false → Other name
  pub within_part : (name : Who) (f : Frame) (w : World) → G w → May name → top_of w name ≡ Some f → is_abortable f.mark ≡ true → Other name
  pub owned : (name : Who) (f : Frame) (r : RegionNo) (w : World) → G w → May name → top_of w name ≡ Some f → region_of_mark f.mark ≡ Some r → Owns name r
  pub awaits_dependents : (name : Who) (r : RegionNo) (w : World) → G w → May name → Owns name r → has_dependents w r ≡ true → Other name

-- The protected action on top ends, of a release that may end.
pub record Exits (G : GoodWorld) (May : Naming) (MayEnd : Who → Option ℕ → Type 0) (R : StepRelation) : Type 0 where
  pub exits : (name : Who) (m : ProtectedMark) (w : World) → G w → May name → MayEnd name m.release
      → R w (own (said.Exit name m.object) ∷ []) (close_action name m.object (pop name w))

-- ---- what changes of anybody from any world keep, these keep

abbrev pub AnyWorld : GoodWorld
AnyWorld w = Unit {0}

abbrev pub Anybody : Naming
Anybody name = Unit {0}

abbrev pub AnyRegion : Who → RegionNo → Type 0
AnyRegion name r = Unit {0}

abbrev pub AnyRelease : Who → Option ℕ → Type 0
AnyRelease name n = Unit {0}

pub each-anybody : (ts : List Task) → EachIs Anybody ts
each-anybody [] = tt
each-anybody (t ∷ ts) = (tt, each-anybody ts)

pub first_is_false : (a b : Bool) → (a || b) ≡ false → a ≡ false
first_is_false true b e = e
first_is_false false b e = refl

pub quiet-others : (xs : List Said) → AreQuiet xs → AreOthers xs
quiet-others [] q = tt
quiet-others (x ∷ xs) q = (first_is_false (is_told_apart x.line) (is_placing x.line) q.0, quiet-others xs q.1)

-- an edit of a task draws nothing
pub edit_found-drawn : (name : Who) (f : Task → Task) (w : World) (found : Option Task) → (edit_task_found name f w found).drawn ≡ w.drawn
edit_found-drawn name f w None = refl
edit_found-drawn (who.Task n) f w (Some t) = refl
edit_found-drawn who.Agent f w (Some t) = refl

pub edit_task-drawn : (name : Who) (f : Task → Task) (w : World) → (edit_task name f w).drawn ≡ w.drawn
edit_task-drawn name f w = edit_found-drawn name f w (task_at w name)

module _ {R : StepRelation} {Q : MoveRelation} (moves : Moves R Q) where
  frames-edited : (name : Who) (f : List Frame → List Frame) (w : World) → R w [] (edit_task name (λ t. with_frames (f t.frames) t) w)
  frames-edited name f w = moves.edits_task name (λ t. with_frames (f t.frames) t) w (λ t. refl)

  goes_on-edited : (name : Who) (onward : Option StatementNo) (w : World) → R w [] (edit_top name (goes_on onward) w)
  goes_on-edited name onward w = frames-edited name (edit_first (goes_on onward)) w

  pushed : (name : Who) (f : Frame) (w : World) → R w [] (push name f w)
  pushed name f w = frames-edited name (λ fs. f ∷ fs) w

  pushed_on : (name : Who) (onward : Option StatementNo) (f : Frame) (w : World) → R w [] (push name f (edit_top name (goes_on onward) w))
  pushed_on name onward f w =
      let gone = edit_top name (goes_on onward) w in
      moves.goes_on w gone (push name f gone) (goes_on-edited name onward w) (pushed name f gone)

  task_added : (name : Who) (onward : Option StatementNo) (t : Task) (w : World) → t.who ≡ who.Task (record { 0 = w.drawn.tasks })
      → R w [] (add_task t (edit_top name (goes_on onward) w))
  task_added name onward t w a =
      let gone = edit_top name (goes_on onward) w in
      moves.goes_on w gone (add_task t gone) (goes_on-edited name onward w)
      (moves.adds_task t gone
      (a ∙ ap (λ d. who.Task (record { 0 = d.tasks })) (sym (edit_task-drawn name (λ u. with_frames (edit_first (goes_on onward) u.frames) u) w))))

  region_drawn-if : (kept : Bool) (w : World) → R w [] (draw_region kept w)
  region_drawn-if true w = moves.draws_region w
  region_drawn-if false w = moves.stays w

  scope_opened : (p : Image) (name : Who) (scope : ScopeNo) (b : Beginning) (purpose : Purpose) (w : World) → R w [] (open_scope p name scope b purpose w)
  scope_opened p name scope b purpose w =
      let begun = begin_scope p name scope b w in
      let drawn = draw_region (scope_of p scope).kept begun in
      let f = new_frame (new_scope_mark (next_id w) (region_of_next (scope_of p scope).kept w) purpose) (scope_of p scope).first in
      moves.goes_on w begun (push name f drawn) (moves.begins_scope p name scope b w)
      (moves.goes_on begun drawn (push name f drawn) (region_drawn-if (scope_of p scope).kept begun) (pushed name f drawn))

  exited : (name : Who) (m : ProtectedMark) (w : World) → R w (own (said.Exit name m.object) ∷ []) (close_action name m.object (pop name w))
  exited name m w =
      moves.goes_on w (pop name w) (close_action name m.object (pop name w)) {xs = []} {ys = own (said.Exit name m.object) ∷ []} (frames-edited name rest_of w)
      (moves.exits name m.object (pop name w))

  pub finely : FineMoves AnyWorld Anybody Anybody R Q
  finely = record {
    behind = λ a b h. tt;
    moved = λ a b h. tt;
    stays = λ w g. moves.stays w;
    goes_on = moves.goes_on;
    says = λ part line w g apart. moves.says part line w (first_is_false (is_told_apart line) (is_placing line) apart);
    rests = λ w g. moves.rests w;
    leads_on = moves.leads_on;
    settles = moves.settles;
    silently = moves.silently;
    other_may = λ name o. tt;
    task_other = λ n. tt;
    listed = λ w g. each-anybody w.tasks;
    awaits = λ name w g is. tt;
    edits_task = λ name f w g same_who same_frames same_state same_master. moves.edits_task name f w same_who;
    edits_frames = λ name f w g same. frames-edited name f w;
    pushes_on = λ name onward f g w good may top region release abortable. pushed_on name onward f w;
    opens_abortable = λ name f w g o region release. pushed name f w;
    pops = λ name f w g may top action. frames-edited name rest_of w;
    readies = λ name w g o. moves.edits_task name (with_state Runnable) w (λ t. refl);
    blocks = λ name waiting w g o. moves.edits_task name (with_state (Blocked waiting)) w (λ t. refl);
    places = λ p part name end w g may. moves.says part (said.Ready name (active p (task_of w name)) end (deadline_shown p (task_of w name))) w refl;
    says_blocked = λ part name waiting w g o. moves.says part (said.Block name (word_of waiting)) w refl;
    adds_task = λ name onward t w g o same_who none master. task_added name onward t w same_who;
    forgets_task = λ name w g. moves.forgets_task name w;
    sets_quantum = λ level ticks w g. moves.sets_quantum level ticks w;
    ends_environment = λ leaving w g. moves.ends_environment leaving w;
    begins_scope = λ p name scope b w g. moves.begins_scope p name scope b w;
    edits_cells = λ id f w g. moves.edits_cells id f w;
    ends_scope = λ id w g. moves.ends_scope id w;
    edits_call = λ c f w g same. moves.edits_call c f w same;
    adds_call = λ c w g. moves.adds_call c w;
    forgets_call = λ c w g. moves.forgets_call c w;
    edits_object = λ o f w g number actions. moves.edits_object o f w number actions;
    adds_object = λ p l u w g. moves.adds_object p l u w;
    enters = λ name o mode w g h. moves.enters name o mode w h;
    visits = λ name o mode xs w v g h quiet k. moves.visits name o mode xs w v h (quiet-others xs quiet) k;
    finds_held = λ name o mode w g h. moves.finds_held name o mode w h;
    appoints = λ due moment w g later. moves.appoints due moment w later;
    drops_appointment = λ test w g. moves.drops_appointment test w;
    registers = λ r l w g. moves.registers r l w;
    unregisters = λ n w g. moves.unregisters n w;
    draws_event = λ w g. moves.draws_event w;
    adds_timer = λ t w g. moves.adds_timer t w;
    clears_timer = λ k w g. moves.clears_timer k w;
    sets_timer = λ k h value w g. moves.sets_timer k h value w;
    sets_timers_due = λ timers w g. moves.sets_timers_due timers w;
    adds_budget = λ w g. moves.adds_budget w;
    edits_budget = λ b f w g. moves.edits_budget b f w;
    sets_budget_due = λ budget w g. moves.sets_budget_due budget w;
    sets_port = λ n value w g. moves.sets_port n value w;
    masks = λ n flag w g. moves.masks n flag w;
    keeps_interrupt = λ n flag w g. moves.keeps_interrupt n flag w;
    cuts_script = λ x rest w g is due. moves.cuts_script x rest w is due;
  }

  pub openings : Openings AnyWorld Anybody Anybody AnyRegion R
  openings = record {
    pushes = λ name f w g may region release abortable. pushed name f w;
    opens_scope = λ p name scope b purpose w g may. scope_opened p name scope b purpose w;
    outside = λ name w g may is. tt;
    within_part = λ name f w g may top is. tt;
    owned = λ name f r w g may top is. tt;
    awaits_dependents = λ name r w g may owns is. tt;
  }

  pub exits : Exits AnyWorld Anybody AnyRelease R
  exits = record { exits = λ name m w g may end. exited name m w }
