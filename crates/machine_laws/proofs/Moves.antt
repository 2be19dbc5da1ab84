-- What every change that the machine makes of a world keeps, as a relation between the world before, the lines that are
-- said, and the world behind: a law of all instants is one record, with a field for each change that steps are made of.
use Rattle.std.proofs.Common.{◌≡◌, ℕ, ℤ, suc, Bool, true, false, List, [], ◌∷◌, ◌++◌, map, Option, Some}
use Rattle.std.specs.Prelude.{int_lt, int_le, pos, Ok}
use Rattle.ann_base.specs.declared.identities.CallNo.{CallNo}
use Rattle.ann_base.specs.declared.identities.ObjectNo.{ObjectNo}
use Rattle.ann_base.specs.declared.identities.RegionNo.{RegionNo}
use Rattle.ann_base.specs.declared.identities.TaskNo.{TaskNo}
use Rattle.trace_text.specs.declared.events.Event.{Event}
use Rattle.trace_text.specs.declared.events.Mode.{Mode}
use Rattle.trace_text.specs.declared.events.Who.{Who}
use Rattle.trace_text.specs.declared.events.Who.TheVariants as who
use Rattle.profile_image.specs.declared.image.Image.{Image}
use Rattle.profile_image.specs.declared.numbers.ProtectedUnitNo.{ProtectedUnitNo}
use Rattle.profile_image.specs.declared.numbers.ScopeNo.{ScopeNo}
use Rattle.profile_image.specs.declared.numbers.StatementNo.{StatementNo}
use Rattle.profile_image.specs.declared.statements.Piece.{Piece}
use Rattle.profile_image.specs.declared.statements.StatementForm.TheVariants as form
use Rattle.profile_image.specs.declared.script_items.Item.{Item}
use Rattle.profile_machine.specs.declared.run_data.Leaving.{Leaving}
use Rattle.profile_image.specs.declared.values.Value.{Value}
use Rattle.profile_machine.specs.declared.world.World.{World}
use Rattle.profile_machine.specs.declared.world.tasks.Task.{Task}
use Rattle.profile_machine.specs.declared.world.scopes.ScopeId.{ScopeId}
use Rattle.profile_machine.specs.declared.world.scopes.Located.{Located}
use Rattle.profile_machine.specs.declared.world.calls.Call.{Call}
use Rattle.profile_machine.specs.declared.world.objects.Object.{Object}
use Rattle.profile_machine.specs.declared.world.appointments.Due.{Due}
use Rattle.profile_machine.specs.declared.world.appointments.Budget.{Budget}
use Rattle.profile_machine.specs.declared.world.appointments.HandlerOf.{HandlerOf}
use Rattle.profile_machine.specs.declared.world.appointments.Release.{Release}
use Rattle.profile_image.specs.Words.{edit_at, without}
use Rattle.profile_machine.specs.declared.world.lines.Part.{Part}
use Rattle.profile_machine.specs.declared.world.lines.Said.{Said}
use Rattle.profile_machine.specs.declared.world.lines.Line.{Line}
use Rattle.profile_machine.specs.declared.world.lines.Line.TheVariants as said
use Rattle.profile_machine.specs.declared.world.lines.Part.TheVariants.{Own}
use Rattle.profile_image.specs.Program.{form_of}
use Rattle.profile_machine.specs.Values.{object_of, seen_by}
use Rattle.profile_machine.specs.Protected.{is_action_of, has_open, excludes, open_action}
use Rattle.profile_machine.specs.Statements.{text_of_pieces}
use Rattle.profile_machine.specs.Lines.{event_of}
use Rattle.profile_machine.specs.Steps.{in_order, placed_by}
use Rattle.profile_machine.specs.Tasks.{edit_task}
use Rattle.profile_machine.specs.declared.world.scopes.Beginning.{Beginning}
use Rattle.profile_machine.specs.Scopes.{edit_cells, begin_scope, region_drawn, end_scope}
use Rattle.profile_machine.specs.Appointments.{appoint, drop_appointment}
use Rattle.profile_machine.specs.Calls.{edit_call, forget_call, edit_object}
use Rattle.profile_machine.specs.Masters.{forget_task}
use Rattle.profile_machine.specs.EntryCalls.{add_call}
use Rattle.profile_machine.specs.Controlled.{registered_as, no_longer_registered}
use Rattle.profile_machine.specs.Declarations.{new_object, object_drawn, event_drawn, with_budget, with_timer}
use Rattle.profile_machine.specs.Tasking.{add_task, end_environment}
use Rattle.profile_machine.specs.Serving.{serves_nothing, close_action}
use Rattle.profile_machine.specs.Handlers.{add_release, clear_timer, with_timer_set, edit_budget}
use Rattle.profile_machine.specs.Run.{with_serving}
use Rattle.machine_laws.specs.LineKinds.{is_of_tock}
use Rattle.profile_machine.specs.Instant.{with_port, with_masked, with_kept_interrupt, with_script}

-- of the steps of an effect, whose lines are not yet in order, and of the moves of an instant or a tock
abbrev pub StepRelation : Type 1
StepRelation = World → List Said → World → Type 0

abbrev pub MoveRelation : Type 1
MoveRelation = World → List Event → World → Type 0

-- the lines of an effect that is over
abbrev pub lines_of : Image → List Said → List Event
lines_of p said = map (λ x. event_of p x.line) (in_order said)

-- The lines that are said only together with what they tell: those of a Put_Line, of a release, and of protected actions.
abbrev pub is_told_apart : Line → Bool
is_told_apart (said.Put name text) = true
is_told_apart (said.Release release handler) = true
is_told_apart (said.Served release) = true
is_told_apart (said.Enter name object mode) = true
is_told_apart (said.Exit name object) = true
is_told_apart (said.Held name object mode) = true
is_told_apart _ = false

abbrev pub own : Line → Said
own line = record { part = Own; line = line }

-- lines that are not told apart
abbrev pub AreOthers : List Said → Type 0
AreOthers [] = Unit {0}
AreOthers (x ∷ xs) = (is_told_apart x.line ≡ false) × AreOthers xs

-- The object is there, somebody has no action open on it, and those of others do not exclude one of this mode (9.5.1).
pub record LetsIn (name : Who) (o : ObjectNo) (mode : Mode) (w : World) : Type 0 where
  pub object : Object
  pub found : object_of w o ≡ Some object
  pub outside : has_open name object.actions ≡ false
  pub free : excludes mode (without (is_action_of name) object.actions) ≡ false

-- the same, but that they exclude it
pub record FindsHeld (name : Who) (o : ObjectNo) (mode : Mode) (w : World) : Type 0 where
  pub object : Object
  pub found : object_of w o ≡ Some object
  pub held : excludes mode (without (is_action_of name) object.actions) ≡ true

pub record Moves (R : StepRelation) (Q : MoveRelation) : Type 0 where
  -- nothing is done, one step follows another, and a line of an effect is said, unless it is told apart
  pub stays : (w : World) → R w [] w
  pub goes_on : (a b c : World) {xs ys : List Said} → R a xs b → R b ys c → R a (xs ++ ys) c
  pub says : (part : Part) (line : Line) (w : World) → is_told_apart line ≡ false → R w (record { part = part; line = line } ∷ []) w
  -- the same of moves; an effect is over, and a change that says nothing is a move too
  pub rests : (w : World) → Q w [] w
  pub leads_on : (a b c : World) {xs ys : List Event} → Q a xs b → Q b ys c → Q a (xs ++ ys) c
  pub settles : (p : Image) (a b : World) (xs : List Said) → R a xs b → Q a (lines_of p xs) (placed_by (lines_of p xs) b)
  pub silently : (a b : World) → R a [] b → Q a [] b
  -- tasks: no edit changes who it is, and a new one has the next number
  pub edits_task : (name : Who) (f : Task → Task) (w : World) → ((t : Task) → (f t).who ≡ t.who) → R w [] (edit_task name f w)
  pub adds_task : (t : Task) (w : World) → t.who ≡ who.Task (record { 0 = w.drawn.tasks }) → R w [] (add_task t w)
  pub forgets_task : (name : Who) (w : World) → R w [] (forget_task name w)
  pub sets_quantum : (level ticks : ℕ) (w : World) → R w [] (record w { quanta = edit_at level (λ _. ticks) w.quanta })
  pub ends_environment : (leaving : Leaving) (w : World) → R w [] (end_environment leaving w)
  -- scopes and their cells
  pub begins_scope : (p : Image) (name : Who) (scope : ScopeNo) (b : Beginning) (w : World) → R w [] (begin_scope p name scope b w)
  pub draws_region : (w : World) → R w [] (record w { drawn = region_drawn w.drawn })
  pub edits_cells : (id : ScopeId) (f : List Value → List Value) (w : World) → R w [] (edit_cells id f w)
  pub ends_scope : (id : ScopeId) (w : World) → R w [] (end_scope id w)
  -- calls: no edit changes the number
  pub edits_call : (c : CallNo) (f : Call → Call) (w : World) → ((d : Call) → (f d).number ≡ d.number) → R w [] (edit_call c f w)
  pub adds_call : (c : Call) (w : World) → R w [] (add_call c w)
  pub forgets_call : (c : CallNo) (w : World) → R w [] (forget_call c w)
  -- protected objects: no other edit changes the actions that are open
  pub edits_object : (o : ObjectNo) (f : Object → Object) (w : World) → ((x : Object) → (f x).number ≡ x.number) → ((x : Object) → (f x).actions ≡ x.actions)
      → R w [] (edit_object o f w)
  pub adds_object : (p : Image) (l : Located) (u : ProtectedUnitNo) (w : World)
      → R w [] (record w { objects = new_object p l u (suc w.drawn.objects) ∷ w.objects; drawn = object_drawn w.drawn })
  -- protected actions: one begins, one ends, one begins and ends at once round other lines and a change, and one may not begin
  pub enters : (name : Who) (o : ObjectNo) (mode : Mode) (w : World) → LetsIn name o mode w
      → R w (own (said.Enter name o mode) ∷ []) (open_action name o mode w)
  pub exits : (name : Who) (o : ObjectNo) (w : World) → R w (own (said.Exit name o) ∷ []) (close_action name o w)
  pub visits : (name : Who) (o : ObjectNo) (mode : Mode) (xs : List Said) (w v : World) → LetsIn name o mode w → AreOthers xs → R w [] v
      → R w (own (said.Enter name o mode) ∷ xs ++ own (said.Exit name o) ∷ []) v
  pub finds_held : (name : Who) (o : ObjectNo) (mode : Mode) (w : World) → FindsHeld name o mode w → R w (own (said.Held name o mode) ∷ []) w
  -- appointments: one that is set is later than now
  pub appoints : (due : Due) (moment : ℤ) (w : World) → int_lt (pos w.time) moment ≡ true → R w [] (appoint due moment w)
  pub drops_appointment : (test : Due → Bool) (w : World) → R w [] (drop_appointment test w)
  -- controlled objects: a new one has the next number
  pub registers : (r : RegionNo) (l : Located) (w : World) → R w [] (registered_as (suc w.drawn.controlled) r l w)
  pub unregisters : (n : ℕ) (w : World) → R w [] (no_longer_registered n w)
  -- events, timers and budgets; a release has the next number, and is told
  pub draws_event : (w : World) → R w [] (record w { drawn = event_drawn w.drawn })
  pub adds_timer : (t : TaskNo) (w : World) → R w [] (with_timer t w)
  pub clears_timer : (k : ℕ) (w : World) → R w [] (clear_timer k w)
  pub sets_timer : (k : ℕ) (h : HandlerOf) (value : ℤ) (w : World) → R w [] (with_timer_set k h value w)
  pub sets_timers_due : (timers : List ℕ) (w : World) → R w [] (record w { timers_due = timers })
  pub adds_budget : (w : World) → R w [] (with_budget w)
  pub edits_budget : (b : ℕ) (f : Budget → Budget) (w : World) → R w [] (edit_budget b f w)
  pub sets_budget_due : (budget : Option ℕ) (w : World) → R w [] (record w { budget_due = budget })
  pub releases : (h : HandlerOf) (argument : Option ℕ) (w : World)
      → R w (record { part = Own; line = said.Release (suc w.drawn.releases) h } ∷ []) (add_release h argument w)
  pub has_served : (r : Release) (w : World) → w.serving ≡ Some r → R w (own (said.Served r.number) ∷ []) (serves_nothing w)
  -- the outside: of the script only the first item that is ahead is taken, when its moment has come
  pub sets_port : (n : ℕ) (value : ℤ) (w : World) → R w [] (with_port n value w)
  pub masks : (n : ℕ) (flag : Bool) (w : World) → R w [] (with_masked n flag w)
  pub keeps_interrupt : (n : ℕ) (flag : Bool) (w : World) → R w [] (with_kept_interrupt n flag w)
  pub cuts_script : (x : ℤ × Item) (rest : List (ℤ × Item)) (w : World) → w.script ≡ x ∷ rest → int_le x.0 (pos w.time) ≡ true → R w [] (with_script rest w)

-- The line of a Put_Line, of which a relation may ask that the program has such a statement, and that what it puts is the
-- text of its pieces as somebody sees them.
pub record Puts (G : World → Type 0) (R : StepRelation) (p : Image) : Type 0 where
  pub puts : (name : Who) (s : StatementNo) (pieces : List Piece) (text : List ℕ) (v w : World) → G w → form_of p s ≡ form.PutLine pieces
      → text_of_pieces (seen_by p v name) pieces ≡ Ok text → R w (record { part = Own; line = said.Put name text } ∷ []) w

-- what a tock does besides, up to its tick: it says its lines, and the agent takes up the first release that is pending
pub record TockMoves (Q : MoveRelation) : Type 0 where
  pub tells : (event : Event) (w : World) → is_of_tock event ≡ true → Q w (event ∷ []) w
  pub serves : (r : Release) (rest : List Release) (w : World) → w.releases ≡ r ∷ rest → Q w [] (with_serving r rest w)
