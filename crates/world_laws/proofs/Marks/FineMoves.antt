-- The changes that steps are made of, with what each needs for marks to stay right: whether a mark that ends awaits a trigger, what
-- may be struck, where a Finalize is opened, and which trigger is appointed. May is said of who acts, and Other of the others.
use Rattle.std.proofs.Common.{◌≡◌, ℕ, ℤ, suc, Bool, true, false, List, [], ◌∷◌, ◌++◌, Option, Some, None}
use Rattle.std.specs.Prelude.{int_le, pos}
use Rattle.profile_machine.specs.WellFormed.{awaits_trigger, is_triggered}
use Rattle.profile_machine.specs.declared.world.tasks.Waiting.TheVariants as waits_for
use Rattle.profile_machine.specs.declared.world.appointments.Due.TheVariants as due_for
use Rattle.profile_machine.specs.Unwinding.{struck_frame, strike_outermost}
use Rattle.profile_machine.specs.CallEnds.{is_abortable_of, depth_of_abortable, edit_frame, edit_abortable_at, triggered_mark, waited_mark}
use Rattle.profile_machine.specs.Tasking.{abnormal_task}
use Rattle.machine_laws.proofs.FinestMoves.{top_action}
use Rattle.world_laws.proofs.Marks.MarkFacts.{GoodMarks, Calm, Ends, Begun, CanTrigger, Drawn, Marked, StandsAt, Unarmed}
use Rattle.world_laws.proofs.Marks.MarkFacts.{apart_in, triggered_part, may_finalize, ends_call, is_a_trigger, nature}
use Rattle.ann_base.specs.declared.identities.CallNo.{CallNo}
use Rattle.ann_base.specs.declared.identities.ObjectNo.{ObjectNo}
use Rattle.ann_base.specs.declared.identities.RegionNo.{RegionNo}
use Rattle.ann_base.specs.declared.identities.TaskNo.{TaskNo}
use Rattle.trace_text.specs.declared.events.Event.{Event}
use Rattle.trace_text.specs.declared.events.Mode.{Mode}
use Rattle.trace_text.specs.declared.events.QueueEnd.{QueueEnd}
use Rattle.trace_text.specs.declared.events.Who.{Who}
use Rattle.trace_text.specs.declared.events.Who.TheVariants as who
use Rattle.profile_image.specs.declared.image.Image.{Image}
use Rattle.profile_image.specs.declared.numbers.ProtectedUnitNo.{ProtectedUnitNo}
use Rattle.profile_image.specs.declared.numbers.ScopeNo.{ScopeNo}
use Rattle.profile_image.specs.declared.numbers.StatementNo.{StatementNo}
use Rattle.profile_image.specs.declared.script_items.Item.{Item}
use Rattle.profile_machine.specs.declared.run_data.Leaving.{Leaving}
use Rattle.profile_image.specs.declared.values.Value.{Value}
use Rattle.profile_machine.specs.declared.world.World.{World}
use Rattle.profile_machine.specs.declared.world.marks.Frame.{Frame}
use Rattle.profile_machine.specs.declared.world.marks.Mark.TheVariants.{Scope, InFinalize}
use Rattle.profile_machine.specs.declared.world.marks.ProtectedMark.{ProtectedMark}
use Rattle.profile_machine.specs.declared.world.marks.Purpose.{Purpose}
use Rattle.profile_machine.specs.declared.world.marks.Purpose.TheVariants as opened_for
use Rattle.profile_machine.specs.declared.world.tasks.Task.{Task}
use Rattle.profile_machine.specs.declared.world.tasks.Waiting.{Waiting}
use Rattle.profile_machine.specs.declared.world.tasks.State.TheVariants.{Runnable, Blocked}
use Rattle.profile_machine.specs.declared.world.scopes.Beginning.{Beginning}
use Rattle.profile_machine.specs.declared.world.scopes.ScopeId.{ScopeId}
use Rattle.profile_machine.specs.declared.world.scopes.Located.{Located}
use Rattle.profile_machine.specs.declared.world.calls.Call.{Call}
use Rattle.profile_machine.specs.declared.world.objects.Object.{Object}
use Rattle.profile_machine.specs.declared.world.appointments.Due.{Due}
use Rattle.profile_machine.specs.declared.world.appointments.Budget.{Budget}
use Rattle.profile_machine.specs.declared.world.appointments.HandlerOf.{HandlerOf}
use Rattle.profile_machine.specs.declared.world.lines.Part.{Part}
use Rattle.profile_machine.specs.declared.world.lines.Said.{Said}
use Rattle.profile_machine.specs.declared.world.lines.Line.{Line}
use Rattle.profile_machine.specs.declared.world.lines.Line.TheVariants as said
use Rattle.profile_image.specs.Words.{edit_at}
use Rattle.profile_machine.specs.Steps.{placed_by, Step, says, settles}
use Rattle.profile_machine.specs.Tasks.{edit_task, with_state, waiting_of}
use Rattle.profile_machine.specs.Dispatching.{word_of}
use Rattle.profile_machine.specs.Frames.{frames_of, top_of, edit_top, new_frame, push, pop, in_protected}
use Rattle.profile_machine.specs.Scopes.{edit_cells, begin_scope, open_scope, end_scope}
use Rattle.profile_machine.specs.Appointments.{appoint, drop_appointment}
use Rattle.profile_machine.specs.Calls.{edit_call, forget_call, edit_object}
use Rattle.profile_machine.specs.Masters.{region_of_mark, has_dependents, waits_for_activation, forget_task}
use Rattle.profile_machine.specs.Protected.{open_action, new_protected_mark}
use Rattle.profile_machine.specs.EntryCalls.{add_call}
use Rattle.profile_machine.specs.declared.world.marks.ScopeMark.{ScopeMark}
use Rattle.profile_machine.specs.declared.world.appointments.Registered.{Registered}
use Rattle.profile_machine.specs.Controlled.{top_region, registered_as, no_longer_registered, edit_top_scope}
use Rattle.profile_machine.specs.Controlled.{next_to_finalize, is_being_assigned, registered_at}
use Rattle.profile_machine.specs.Declarations.{new_object, object_drawn, event_drawn, with_budget, with_timer}
use Rattle.profile_machine.specs.Tasking.{is_task_scope, add_task, end_environment, leaves_as, being_left_mark, left_so_frame}
use Rattle.profile_machine.specs.declared.world.appointments.Release.{Release}
use Rattle.profile_machine.specs.Serving.{close_action, serves_nothing}
use Rattle.profile_machine.specs.Handlers.{add_release, clear_timer, with_timer_set, edit_budget}
use Rattle.profile_machine.specs.Instant.{with_port, with_masked, with_kept_interrupt, with_script}
use Rattle.machine_laws.specs.LineKinds.{is_of_tock}
use Rattle.profile_machine.specs.Run.{with_serving}
use Rattle.machine_laws.proofs.Moves.{StepRelation, MoveRelation, LetsIn, FindsHeld, own, lines_of}
use Rattle.machine_laws.proofs.FineMoves.{AnyRegion, Anybody, EachIs, GoodWorld, Naming, is_abortable, ready_line, gone_on}
use Rattle.line_laws.proofs.Leaving.FineMoves.{is_apart}
use Rattle.machine_laws.proofs.Chains.{Chains, MoveChains}
use Rattle.machine_laws.proofs.Kept.Combinators.{Keeps, Leads, said-keeps, settles-leads}

-- ---- lines that are said only together with what they tell

abbrev pub AreQuiet : List Said → Type 0
AreQuiet [] = Unit {0}
AreQuiet (x ∷ xs) = (is_apart x.line ≡ false) × AreQuiet xs

-- somebody goes on

pub record FineMoves (G : GoodWorld) (May Other : Naming) (R : StepRelation) (Q : MoveRelation) : Type 0 where
  -- what is done leads from good worlds to good worlds
  pub behind : (a b : World) {xs : List Said} → R a xs b → G b
  pub moved : (a b : World) {xs : List Event} → Q a xs b → G b
  -- nothing is done, one step follows another, and a line of an effect is said, unless it is told apart
  pub stays : (w : World) → G w → R w [] w
  pub goes_on : (a b c : World) {xs ys : List Said} → R a xs b → R b ys c → R a (xs ++ ys) c
  pub says : (part : Part) (line : Line) (w : World) → G w → is_apart line ≡ false → R w (record { part = part; line = line } ∷ []) w
  -- the same of moves; an effect is over, and a change that says nothing is a move too
  pub rests : (w : World) → G w → Q w [] w
  pub leads_on : (a b c : World) {xs ys : List Event} → Q a xs b → Q b ys c → Q a (xs ++ ys) c
  pub settles : (p : Image) (a b : World) (xs : List Said) → R a xs b → Q a (lines_of p xs) (placed_by (lines_of p xs) b)
  pub silently : (a b : World) → R a [] b → Q a [] b
  -- who is who: each task is another, and so is who waits for an activation
  pub other_may : (name : Who) → Other name → May name
  pub task_other : (n : TaskNo) → Other (who.Task n)
  pub listed : (w : World) → G w → EachIs Other w.tasks
  pub awaits : (name : Who) (w : World) → G w → waits_for_activation (waiting_of w name) ≡ true → Other name
  -- tasks: an edit of anybody that leaves alone who it is, its marks, its state and whether it is abnormal; one of the mark on top
  pub edits_task : (name : Who) (f : Task → Task) (w : World) → G w → ((t : Task) → (f t).who ≡ t.who) → ((t : Task) → (f t).frames ≡ t.frames)
      → ((t : Task) → (f t).state ≡ t.state) → ((t : Task) → (f t).abnormal ≡ t.abnormal) → R w [] (edit_task name f w)
  pub edits_top : (name : Who) (f : Frame → Frame) (w : World) → G w → ((x : Frame) → nature (f x).mark ≡ nature x.mark)
      → ((x : Frame) → (f x).struck ≡ x.struck) → R w [] (edit_top name f w)
  -- what is good is known; who was drawn stays so, and who is abnormal, and for whom no trigger is appointed
  pub facts : (w : World) → G w → GoodMarks w
  pub still_drawn : (n : Who) (a b : World) {xs : List Said} → R a xs b → Drawn a n → Drawn b n
  pub still_marked : (n : TaskNo) (a b : World) {xs : List Said} → R a xs b → Marked a n → Marked b n
  pub still_unarmed : (n : Who) (a b : World) {xs : List Said} → R a xs b → Unarmed n a → Unarmed n b
  -- a task becomes abnormal, and the outermost mark of one that is abnormal is struck
  pub aborts : (name : Who) (w : World) → G w → R w [] (edit_task name abnormal_task w)
  pub strikes : (n : TaskNo) (w : World) → G w → Marked w n → R w [] (strike_outermost (who.Task n) w)
  -- a trigger completes; and who waited for the end of its call goes on
  pub triggers : (part : Part) (t : TaskNo) (depth : ℕ) (w : World) → G w → CanTrigger t depth w
      → R w (record { part = part; line = said.Trigger t } ∷ [])
      (edit_frame (who.Task t) depth struck_frame (edit_abortable_at (who.Task t) depth triggered_mark w))
  pub has_waited : (c : CallNo) (t : TaskNo) (depth : ℕ) (b : Bool) (w : World) → G w → Calm (who.Task t) w
      → depth_of_abortable c (frames_of w (who.Task t)) ≡ Some depth → triggered_part c (frames_of w (who.Task t)) ≡ false
      → R w [] (edit_abortable_at (who.Task t) depth (waited_mark b) w)
  -- a mark is opened that is not struck, is no Finalize and awaits no trigger; a part that awaits one, by who is calm; a Finalize, where
  -- it may stand; and a mark ends for which no trigger is appointed
  pub pushes_on : (name : Who) (onward : Option StatementNo) (f g : Frame) (w : World) → G w → May name → top_of w name ≡ Some g → f.struck ≡ false
      → apart_in f.mark ≡ None → awaits_trigger f.mark ≡ false → is_triggered f.mark ≡ false → R w [] (push name f (gone_on name onward w))
  pub opens_abortable : (name : Who) (f : Frame) (w : World) → G w → Other name → f.struck ≡ false → apart_in f.mark ≡ None → awaits_trigger f.mark ≡ false
      → is_triggered f.mark ≡ false → R w [] (push name f w)
  pub opens_part : (name : Who) (f : Frame) (w : World) → G w → Calm name w → f.struck ≡ false → apart_in f.mark ≡ None → is_triggered f.mark ≡ false
      → R w [] (push name f w)
  pub opens_finalize : (name : Who) (n : ℕ) (g : Frame) (w : World) → G w → top_of w name ≡ Some g → may_finalize w n g.mark ≡ true
      → R w [] (push name (new_frame (InFinalize n) None) w)
  pub pops : (name : Who) (f : Frame) (w : World) → G w → May name → top_of w name ≡ Some f → Ends name f w → R w [] (pop name w)
  -- a region begins to be left, and has been left when none of its objects is registered
  pub begins_leaving : (name : Who) (f : Frame) (m : ScopeMark) (r : RegionNo) (leaving : Leaving) (w : World) → G w → May name → top_of w name ≡ Some f
      → f.mark ≡ Scope m → m.region ≡ Some r → m.being_left ≡ false
      → R w (own (said.Leave name r (leaves_as leaving)) ∷ []) (edit_top name (left_so_frame leaving) (edit_top_scope name being_left_mark w))
  pub has_left : (name : Who) (f : Frame) (m : ScopeMark) (r : RegionNo) (w : World) → G w → May name → top_of w name ≡ Some f → f.mark ≡ Scope m
      → m.region ≡ Some r → m.being_left ≡ true → next_to_finalize w r ≡ None → Ends name f w
      → R w (own (said.Left name r) ∷ []) (pop name w)
  -- states, and places: who waits for the end of its call has the part of that call on top
  pub readies : (name : Who) (w : World) → G w → Other name → R w [] (edit_task name (with_state Runnable) w)
  pub blocks : (name : Who) (waiting : Waiting) (w : World) → G w → Other name → ends_call (Some waiting) ≡ false
      → R w [] (edit_task name (with_state (Blocked waiting)) w)
  pub blocks_for_end : (name : Who) (f : Frame) (c : CallNo) (w : World) → G w → top_of w name ≡ Some f → awaits_trigger f.mark ≡ false
      → is_abortable_of c f.mark ≡ true → is_triggered f.mark ≡ false → R w [] (edit_task name (with_state (Blocked (waits_for.EndOfCall c))) w)
  pub places : (p : Image) (part : Part) (name : Who) (end : QueueEnd) (w : World) → G w → May name → R w (ready_line p part name end w ∷ []) w
  pub says_blocked : (part : Part) (name : Who) (waiting : Waiting) (w : World) → G w → Other name
      → R w (record { part = part; line = said.Block name (word_of waiting) } ∷ []) w
  -- a new task has the next number and the region of its creator, which goes on first
  pub adds_task : (name : Who) (onward : Option StatementNo) (t : Task) (w : World) → G w → Other name → t.who ≡ who.Task (record { 0 = w.drawn.tasks })
      → t.frames ≡ [] → t.master ≡ Some (top_region w name) → R w [] (add_task t (gone_on name onward w))
  pub forgets_task : (name : Who) (w : World) → G w → Unarmed name w → R w [] (forget_task name w)
  pub sets_quantum : (level ticks : ℕ) (w : World) → G w → R w [] (record w { quanta = edit_at level (λ _. ticks) w.quanta })
  pub ends_environment : (leaving : Leaving) (w : World) → G w → R w [] (end_environment leaving w)
  -- scopes and their cells
  pub begins_scope : (p : Image) (name : Who) (scope : ScopeNo) (b : Beginning) (w : World) → G w → R w [] (begin_scope p name scope b w)
  pub edits_cells : (id : ScopeId) (f : List Value → List Value) (w : World) → G w → R w [] (edit_cells id f w)
  pub ends_scope : (id : ScopeId) (w : World) → G w → R w [] (end_scope id w)
  -- calls: no edit changes the number
  pub edits_call : (c : CallNo) (f : Call → Call) (w : World) → G w → ((d : Call) → (f d).number ≡ d.number) → R w [] (edit_call c f w)
  pub adds_call : (c : Call) (w : World) → G w → R w [] (add_call c w)
  pub forgets_call : (c : CallNo) (w : World) → G w → R w [] (forget_call c w)
  -- protected objects: no other edit changes the actions that are open
  pub edits_object : (o : ObjectNo) (f : Object → Object) (w : World) → G w → ((x : Object) → (f x).number ≡ x.number)
      → ((x : Object) → (f x).actions ≡ x.actions) → R w [] (edit_object o f w)
  pub adds_object : (p : Image) (l : Located) (u : ProtectedUnitNo) (w : World) → G w
      → R w [] (record w { objects = new_object p l u (suc w.drawn.objects) ∷ w.objects; drawn = object_drawn w.drawn })
  -- protected actions: one begins, round other lines and a change, with its mark; one begins and ends at once round others; and one
  -- may not begin
  pub inside : (name : Who) (o : ObjectNo) (mode : Mode) (w : World) → G w → G (open_action name o mode w)
  pub begins : (name : Who) (o : ObjectNo) (mode : Mode) (call : Option CallNo) (release : Option ℕ) (w v : World) {xs : List Said} → G w → LetsIn name o mode w
      → R (open_action name o mode w) xs v
      → R w (own (said.Enter name o mode) ∷ xs) (push name (new_frame (new_protected_mark o mode call release) None) v)
  pub visits : (name : Who) (o : ObjectNo) (mode : Mode) (xs : List Said) (w v : World) → G w → LetsIn name o mode w → AreQuiet xs → R w [] v
      → R w (own (said.Enter name o mode) ∷ xs ++ own (said.Exit name o) ∷ []) v
  pub finds_held : (name : Who) (o : ObjectNo) (mode : Mode) (w : World) → G w → FindsHeld name o mode w → R w (own (said.Held name o mode) ∷ []) w
  -- appointments, but that of a trigger
  pub appoints : (due : Due) (moment : ℤ) (w : World) → G w → is_a_trigger due ≡ false → R w [] (appoint due moment w)
  pub drops_appointment : (test : Due → Bool) (w : World) → G w → R w [] (drop_appointment test w)
  -- controlled objects: a new one has the next number; of a region that is being left the newest is finalized, while nobody assigns
  -- to it; and one that is registered is assigned to
  pub registers : (name : Who) (l : Located) (w : World) → G w
      → R w (own (said.Init name (suc w.drawn.controlled) (top_region w name) l.declared) ∷ []) (registered_as (suc w.drawn.controlled) (top_region w name) l w)
  pub finalizes : (name : Who) (f : Frame) (m : ScopeMark) (r : RegionNo) (x : Registered) (w : World) → G w → May name → top_of w name ≡ Some f
      → f.mark ≡ Scope m → m.region ≡ Some r → m.being_left ≡ true → next_to_finalize w r ≡ Some x → is_being_assigned w x.object ≡ false
      → R w (own (said.Final name x.object) ∷ []) (no_longer_registered x.object w)
  pub replaces : (name : Who) (l : Located) (x : Registered) (w : World) → G w → registered_at w l ≡ Some x → R w (own (said.Replace name x.object) ∷ []) w
  -- events, timers and budgets
  pub draws_event : (w : World) → G w → R w [] (record w { drawn = event_drawn w.drawn })
  pub adds_timer : (t : TaskNo) (w : World) → G w → R w [] (with_timer t w)
  pub clears_timer : (k : ℕ) (w : World) → G w → R w [] (clear_timer k w)
  pub sets_timer : (k : ℕ) (h : HandlerOf) (value : ℤ) (w : World) → G w → R w [] (with_timer_set k h value w)
  pub sets_timers_due : (timers : List ℕ) (w : World) → G w → R w [] (record w { timers_due = timers })
  pub adds_budget : (w : World) → G w → R w [] (with_budget w)
  pub edits_budget : (b : ℕ) (f : Budget → Budget) (w : World) → G w → R w [] (edit_budget b f w)
  pub sets_budget_due : (budget : Option ℕ) (w : World) → G w → R w [] (record w { budget_due = budget })
  -- the outside: of the script only the first item that is ahead is taken, when its moment has come
  pub sets_port : (n : ℕ) (value : ℤ) (w : World) → G w → R w [] (with_port n value w)
  pub masks : (n : ℕ) (flag : Bool) (w : World) → G w → R w [] (with_masked n flag w)
  pub keeps_interrupt : (n : ℕ) (flag : Bool) (w : World) → G w → R w [] (with_kept_interrupt n flag w)
  pub cuts_script : (x : ℤ × Item) (rest : List (ℤ × Item)) (w : World) → G w → w.script ≡ x ∷ rest → int_le x.0 (pos w.time) ≡ true
      → R w [] (with_script rest w)

-- Who acts opens marks, and a task's own scope is opened where no trigger is appointed for it; of who acts beside a protected action, or in an abortable part,
-- it is known that it is another; and who waits for dependents in a region of its own is another too.
pub record Openings (G : GoodWorld) (May Other : Naming) (Owns : Who → RegionNo → Type 0) (R : StepRelation) : Type 0 where
  pub pushes : (name : Who) (f : Frame) (w : World) → G w → May name → f.struck ≡ false → apart_in f.mark ≡ None → awaits_trigger f.mark ≡ false
      → is_triggered f.mark ≡ false → R w [] (push name f w)
  pub opens_scope : (p : Image) (name : Who) (scope : ScopeNo) (b : Beginning) (purpose : Purpose) (w : World) → G w → May name → is_task_scope purpose ≡ false
      → R w [] (open_scope p name scope b purpose w)
  pub opens_own_scope : (p : Image) (name : Who) (scope : ScopeNo) (b : Beginning) (w : World) → G w → Unarmed name w
      → R w [] (open_scope p name scope b opened_for.Task w)
  pub outside : (name : Who) (w : World) → G w → May name → in_protected w name ≡ false → Other name
  pub within_part : (name : Who) (f : Frame) (w : World) → G w → May name → top_of w name ≡ Some f → is_abortable f.mark ≡ true → Other name
  pub owned : (name : Who) (f : Frame) (r : RegionNo) (w : World) → G w → May name → top_of w name ≡ Some f → region_of_mark f.mark ≡ Some r → Owns name r
  pub awaits_dependents : (name : Who) (r : RegionNo) (w : World) → G w → May name → Owns name r → has_dependents w r ≡ true → Other name

-- The protected action on top ends.
pub record Exits (G : GoodWorld) (May : Naming) (R : StepRelation) : Type 0 where
  pub exits : (name : Who) (m : ProtectedMark) (w : World) → G w → May name → top_action w name ≡ Some m.object → Calm name w
      → R w (own (said.Exit name m.object) ∷ []) (close_action name m.object (pop name w))

-- ---- of anybody, from any world

-- a trigger is set for a part that awaits it, of who has begun; whatever leads to a good world moves to one
pub record Arming (G : GoodWorld) (Q : MoveRelation) : Type 0 where
  pub appoints_trigger : (t : TaskNo) (depth : ℕ) (moment : ℤ) (w : World) → G w → StandsAt depth (frames_of w (who.Task t)) → Begun (who.Task t) w
      → G (appoint (due_for.Trigger t depth) moment w)
  pub settles_good : (p : Image) (a b : World) (xs : List Said) → G b → Q a (lines_of p xs) (placed_by (lines_of p xs) b)

-- all of them together, with those of releases
pub record RegionMoves (G : GoodWorld) (R : StepRelation) (Q : MoveRelation) : Type 0 where
  pub fine : FineMoves G Anybody Anybody R Q
  pub openings : Openings G Anybody Anybody AnyRegion R
  pub exits : Exits G Anybody R
  pub arming : Arming G Q
  pub releases : (h : HandlerOf) (argument : Option ℕ) (w : World) → G w → R w (own (said.Release (suc w.drawn.releases) h) ∷ []) (add_release h argument w)
  pub has_served : (r : Release) (w : World) → G w → w.serving ≡ Some r → R w (own (said.Served r.number) ∷ []) (serves_nothing w)

-- what a tock does besides, up to its tick
pub record TockMoves (G : GoodWorld) (Q : MoveRelation) : Type 0 where
  pub tells : (event : Event) (w : World) → G w → is_of_tock event ≡ true → Q w (event ∷ []) w
  pub serves : (r : Release) (rest : List Release) (w : World) → G w → w.releases ≡ r ∷ rest → Q w [] (with_serving r rest w)

-- steps and moves are put together, a line that tells no change is said, and an effect is over
module _ {G : GoodWorld} {May Other : Naming} {R : StepRelation} {Q : MoveRelation} (moves : FineMoves G May Other R Q) where
  pub chains : Chains G R
  chains = record { behind = moves.behind; stays = moves.stays; goes_on = moves.goes_on }

  pub move_chains : MoveChains G Q
  move_chains = record { moved = moves.moved; leads_on = moves.leads_on }

  pub says-keeps : (part : Part) (line : Line) → is_apart line ≡ false → Keeps G R (says part line)
  says-keeps part line other = said-keeps chains part line (λ w good. moves.says part line w good other)

  pub effect-leads : (p : Image) (step : Step) → Keeps G R step → Leads G Q (settles p step)
  effect-leads p step kept = settles-leads Q p (moves.settles p) G step kept
