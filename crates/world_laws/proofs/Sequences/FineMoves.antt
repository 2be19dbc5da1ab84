-- The changes that the machine makes of a world, told apart by whom they touch, each from a world that is good. Who may go on
-- (May) is who acts, and whoever is woken, until it has opened the sequence to which it has come; tasks are others (Other).
use Rattle.std.proofs.Common.{◌≡◌, ℕ, ℤ, suc, Bool, true, false, List, [], ◌∷◌, ◌++◌, Option, Some, None, option_and_then, find, ◌⊎◌, unwrap_or}
use Rattle.ann_base.specs.declared.identities.CallNo.{CallNo}
use Rattle.ann_base.specs.declared.identities.ObjectNo.{ObjectNo}
use Rattle.ann_base.specs.declared.identities.RegionNo.{RegionNo}
use Rattle.ann_base.specs.declared.identities.TaskNo.{TaskNo}
use Rattle.trace_text.specs.declared.events.Mode.{Mode}
use Rattle.trace_text.specs.declared.events.QueueEnd.{QueueEnd}
use Rattle.trace_text.specs.declared.events.Who.{Who}
use Rattle.trace_text.specs.declared.events.Who.TheVariants as who
use Rattle.profile_image.specs.declared.image.Image.{Image}
use Rattle.profile_image.specs.declared.numbers.ProtectedUnitNo.{ProtectedUnitNo}
use Rattle.profile_image.specs.declared.numbers.ScopeNo.{ScopeNo}
use Rattle.profile_image.specs.declared.numbers.StatementNo.{StatementNo}
use Rattle.profile_image.specs.declared.script_items.Item.{Item}
use Rattle.profile_machine.specs.declared.run_data.Leaving.{Leaving}
use Rattle.profile_image.specs.declared.values.Value.{Value}
use Rattle.profile_machine.specs.declared.world.World.{World}
use Rattle.profile_machine.specs.declared.world.marks.Frame.{Frame}
use Rattle.profile_machine.specs.declared.world.marks.Purpose.{Purpose}
use Rattle.profile_machine.specs.declared.world.tasks.Task.{Task}
use Rattle.profile_machine.specs.declared.world.tasks.Waiting.{Waiting}
use Rattle.profile_machine.specs.declared.world.tasks.State.TheVariants.{Made, Runnable, Blocked}
use Rattle.profile_machine.specs.declared.world.scopes.Beginning.{Beginning}
use Rattle.profile_machine.specs.declared.world.scopes.ScopeId.{ScopeId}
use Rattle.profile_machine.specs.declared.world.scopes.Located.{Located}
use Rattle.profile_machine.specs.declared.world.calls.Call.{Call}
use Rattle.profile_machine.specs.declared.world.objects.Object.{Object}
use Rattle.profile_machine.specs.declared.world.appointments.Due.{Due}
use Rattle.profile_machine.specs.declared.world.appointments.Budget.{Budget}
use Rattle.profile_machine.specs.declared.world.appointments.HandlerOf.{HandlerOf}
use Rattle.profile_machine.specs.declared.world.lines.Part.{Part}
use Rattle.profile_machine.specs.declared.world.lines.Said.{Said}
use Rattle.profile_machine.specs.declared.world.lines.Line.{Line}
use Rattle.profile_machine.specs.declared.world.lines.Line.TheVariants as said
use Rattle.profile_image.specs.Words.{edit_at}
use Rattle.world_tables.specs.Lists.{first_of}
use Rattle.profile_machine.specs.Steps.{placed_by, Step, says, settles}
use Rattle.profile_machine.specs.Tasks.{edit_task, with_state, with_frames, waiting_of}
use Rattle.profile_machine.specs.Dispatching.{word_of, without_kept_level}
use Rattle.profile_image.specs.Program.{form_of, scope_of, task_unit_of}
use Rattle.profile_machine.specs.Frames.{top_of, push, pop, is_protected, in_protected, onward_of}
use Rattle.profile_machine.specs.Scopes.{edit_cells, begin_scope, open_scope, end_scope}
use Rattle.profile_machine.specs.Appointments.{appoint, drop_appointment}
use Rattle.profile_machine.specs.Calls.{edit_call, forget_call, edit_object, call_of}
use Rattle.profile_machine.specs.Masters.{waits_for_activation, waits_for_dependents, forget_task}
use Rattle.profile_machine.specs.Protected.{open_action}
use Rattle.profile_machine.specs.EntryCalls.{add_call}
use Rattle.profile_machine.specs.Controlled.{registered_as, no_longer_registered}
use Rattle.profile_machine.specs.Declarations.{new_object, object_drawn, event_drawn, with_budget, with_timer}
use Rattle.profile_machine.specs.Tasking.{add_task, end_environment, unit_of_declaration}
use Rattle.profile_machine.specs.Serving.{serves_nothing}
use Rattle.profile_machine.specs.Handlers.{add_release, clear_timer, with_timer_set, edit_budget}
use Rattle.profile_machine.specs.Instant.{with_port, with_masked, with_kept_interrupt, with_script}
use Rattle.machine_laws.proofs.Moves.{own, lines_of}
use Rattle.profile_image.specs.declared.numbers.DeclNo.{DeclNo}
use Rattle.profile_image.specs.declared.declarations.Handler.{Handler}
use Rattle.profile_image.specs.declared.statements.StatementForm.TheVariants as form
use Rattle.profile_machine.specs.declared.world.marks.Purpose.TheVariants as opened_for
use Rattle.profile_machine.specs.declared.world.tasks.Waiting.TheVariants as waits_for
use Rattle.profile_machine.specs.Sending.{abortable_in}
use Rattle.profile_machine.specs.WellFormed.{begins_sequence}
use Rattle.machine_laws.proofs.FineMoves.{GoodWorld, Naming, nature, natures, is_abortable, is_apart, EachIs, ready_line, gone_on}
use Rattle.machine_laws.proofs.Chains.{Chains, MoveChains}
use Rattle.machine_laws.proofs.Kept.Combinators.{Keeps, Leads, said-keeps, settles-leads}
use Rattle.world_laws.proofs.Behind.{Behind, BehindMove}

-- ---- what an image lets begin

pub record Fits (p : Image) : Type 0 where
  pub handled : (s first : StatementNo) (handlers : List Handler) → form_of p s ≡ form.Handled handlers first → begins_sequence p (Some first) ≡ false
  pub abortable : (s : StatementNo) → begins_sequence p (abortable_in (form_of p s)) ≡ false
  pub created : (s : StatementNo) (d : DeclNo) (part : ℕ) → form_of p s ≡ form.CreateTask d part
      → begins_sequence p (scope_of p (task_unit_of p (unit_of_declaration p d)).scope).first ≡ false

-- who is made begins plainly
abbrev pub Fitting : Image → Task → Type 0
Fitting p t = t.state ≡ Made → begins_sequence p (scope_of p (task_unit_of p (unwrap_or t.unit (record { 0 = 0 }))).scope).first ≡ false

abbrev pub AllFitting : Image → List Task → Type 0
AllFitting p [] = Unit {0}
AllFitting p (t ∷ ts) = Fitting p t × AllFitting p ts

-- ---- what is done

-- what the top of a rest goes on with
abbrev pub onward_in : List Frame → Option StatementNo
onward_in fs = option_and_then (λ f. f.onward) (first_of fs)

-- it goes on as before, or with the end of what is open
abbrev pub StaysOn : Option StatementNo → Option StatementNo → Type 0
StaysOn behind before = (behind ≡ before) ⊎ (behind ≡ None)

-- for dependents
abbrev pub is_for_dependents : Waiting → Bool
is_for_dependents waits_for.Activation = false
is_for_dependents waits_for.Moment = false
is_for_dependents (waits_for.Call c) = false
is_for_dependents (waits_for.EndOfCall c) = false
is_for_dependents (waits_for.Accept s) = false
is_for_dependents (waits_for.Select accepts delay terminate) = false
is_for_dependents (waits_for.Dependents r) = true
is_for_dependents waits_for.Release = false

pub record FineMoves (p : Image) (G : GoodWorld) (May Other : Naming) : Type 0 where
  pub fits : Fits p
  -- what is done leads from good worlds to good worlds
  pub behind : (a b : World) → G b → G b
  pub moved : (a b : World) → G b → G b
  -- nothing is done, one step follows another, and a line of an effect is said, unless it is told apart
  pub stays : (w : World) → G w → Behind G w [] w
  pub goes_on : (a b c : World) → G b → G c → G c
  pub says : (part : Part) (line : Line) (w : World) → G w → is_apart line ≡ false → Behind G w (record { part = part; line = line } ∷ []) w
  -- the same of moves; an effect is over, and a change that says nothing is a move too
  pub rests : (w : World) → G w → BehindMove G w [] w
  pub leads_on : (a b c : World) → G b → G c → G c
  pub settles : (a b : World) (xs : List Said) → Behind G a xs b → BehindMove G a (lines_of p xs) (placed_by (lines_of p xs) b)
  pub silently : (a b : World) → Behind G a [] b → BehindMove G a [] b
  -- who is who: each task is another, and so is who waits for an activation
  pub task_other : (n : TaskNo) → Other (who.Task n)
  pub listed : (w : World) → G w → EachIs Other w.tasks
  pub fitting : (w : World) → G w → AllFitting p w.tasks
  pub awaits : (name : Who) (w : World) → G w → waits_for_activation (waiting_of w name) ≡ true → Other name
  -- tasks: an edit of anybody that leaves alone who it is, its marks, its state and its unit; one of marks alone
  pub edits_task : (name : Who) (f : Task → Task) (w : World) → G w → ((t : Task) → (f t).who ≡ t.who) → ((t : Task) → (f t).frames ≡ t.frames)
      → ((t : Task) → (f t).state ≡ t.state) → ((t : Task) → (f t).unit ≡ t.unit) → Behind G w [] (edit_task name f w)
  pub edits_frames : (name : Who) (f : List Frame → List Frame) (w : World) → G w → ((fs : List Frame) → natures (f fs) ≡ natures fs)
      → ((fs : List Frame) → StaysOn (onward_in (f fs)) (onward_in fs)) → Behind G w [] (edit_task name (λ t. with_frames (f t.frames) t) w)
  pub goes : (name : Who) (onward : Option StatementNo) (w : World) → G w → May name → Behind G w [] (gone_on name onward w)
  -- a mark is opened by who has one, behind its going on; by a task; and one that is no protected action ends
  pub pushes : (name : Who) (f : Frame) (w : World) → G w → May name → (nature f.mark).release ≡ None → (nature f.mark).abortable ≡ false
      → Behind G w [] (push name f w)
  pub pushes_other : (name : Who) (f : Frame) (w : World) → G w → May name → Other name → Behind G w [] (push name f w)
  pub opens_abortable : (name : Who) (f : Frame) (w : World) → G w → Other name → begins_sequence p f.onward ≡ false → Behind G w [] (push name f w)
  pub opens_task : (name : Who) (scope : ScopeNo) (b : Beginning) (w : World) → G w → Other name → begins_sequence p (scope_of p scope).first ≡ false
      → Behind G w [] (open_scope p name scope b opened_for.Task w)
  pub goes_plainly : (name : Who) (onward : Option StatementNo) (w : World) → G w → begins_sequence p onward ≡ false → Behind G w [] (gone_on name onward w)
  pub pops : (name : Who) (f : Frame) (w : World) → G w → May name → top_of w name ≡ Some f → is_protected f.mark ≡ false → Behind G w [] (pop name w)
  -- states, and places
  pub readies : (name : Who) (w : World) → G w → May name → Behind G w [] (edit_task name (with_state Runnable) w)
  pub readies_plainly : (name : Who) (w : World) → G w → begins_sequence p (onward_of w name) ≡ false → Behind G w [] (edit_task name (with_state Runnable) w)
  pub readies_agent : (w : World) → G w → Behind G w [] (edit_task who.Agent (with_state Runnable) w)
  pub readies_master : (r : RegionNo) (t : Task) (w : World) → G w → find (waits_for_dependents r) w.tasks ≡ Some t
      → Behind G w [] (edit_task t.who (with_state Runnable) w)
  pub places : (part : Part) (name : Who) (end : QueueEnd) (w : World) → G w → Behind G w (ready_line p part name end w ∷ []) w
  pub says_blocked : (part : Part) (name : Who) (waiting : Waiting) (w : World) → G w
      → Behind G w (record { part = part; line = said.Block name (word_of waiting) } ∷ []) w
  -- a new task has the next number and the region of its creator, which goes on first
  pub adds_task : (t : Task) (w : World) → G w → t.who ≡ who.Task (record { 0 = w.drawn.tasks }) → t.frames ≡ [] → t.state ≡ Made → Fitting p t
      → Behind G w [] (add_task t w)
  pub forgets_task : (name : Who) (w : World) → G w → Behind G w [] (forget_task name w)
  pub sets_quantum : (level ticks : ℕ) (w : World) → G w → Behind G w [] (record w { quanta = edit_at level (λ _. ticks) w.quanta })
  pub ends_environment : (leaving : Leaving) (w : World) → G w → Behind G w [] (end_environment leaving w)
  -- scopes and their cells
  pub begins_scope : (name : Who) (scope : ScopeNo) (b : Beginning) (w : World) → G w → Behind G w [] (begin_scope p name scope b w)
  pub edits_cells : (id : ScopeId) (f : List Value → List Value) (w : World) → G w → Behind G w [] (edit_cells id f w)
  pub ends_scope : (id : ScopeId) (w : World) → G w → Behind G w [] (end_scope id w)
  -- calls: no edit changes the number or the caller
  pub edits_call : (c : CallNo) (f : Call → Call) (w : World) → G w → ((d : Call) → (f d).number ≡ d.number) → ((d : Call) → (f d).caller ≡ d.caller)
      → Behind G w [] (edit_call c f w)
  pub adds_call : (c : Call) (w : World) → G w → Behind G w [] (add_call c w)
  pub forgets_call : (c : CallNo) (w : World) → G w → Behind G w [] (forget_call c w)
  -- protected objects: no other edit changes the actions that are open
  pub edits_object : (o : ObjectNo) (f : Object → Object) (w : World) → G w → ((x : Object) → (f x).number ≡ x.number)
      → ((x : Object) → (f x).actions ≡ x.actions) → Behind G w [] (edit_object o f w)
  pub edits_any_object : (o : ObjectNo) (f : Object → Object) (w : World) → G w → Behind G w [] (edit_object o f w)
  pub adds_object : (r : Image) (l : Located) (u : ProtectedUnitNo) (w : World) → G w
      → Behind G w [] (record w { objects = new_object r l u (suc w.drawn.objects) ∷ w.objects; drawn = object_drawn w.drawn })
  -- protected actions: one begins, one begins and ends at once round other lines and a change, and one may not begin
  pub enters : (name : Who) (o : ObjectNo) (mode : Mode) (w : World) → G w → Behind G w (own (said.Enter name o mode) ∷ []) (open_action name o mode w)
  pub visits : (name : Who) (o : ObjectNo) (mode : Mode) (xs : List Said) (w v : World) → G w → Behind G w [] v
      → Behind G w (own (said.Enter name o mode) ∷ xs ++ own (said.Exit name o) ∷ []) v
  pub finds_held : (name : Who) (o : ObjectNo) (mode : Mode) (w : World) → G w → Behind G w (own (said.Held name o mode) ∷ []) w
  -- appointments: one that is set is later than now
  pub appoints : (due : Due) (moment : ℤ) (w : World) → G w → Behind G w [] (appoint due moment w)
  pub drops_appointment : (test : Due → Bool) (w : World) → G w → Behind G w [] (drop_appointment test w)
  -- controlled objects: a new one has the next number
  pub registers : (r : RegionNo) (l : Located) (w : World) → G w → Behind G w [] (registered_as (suc w.drawn.controlled) r l w)
  pub unregisters : (n : ℕ) (w : World) → G w → Behind G w [] (no_longer_registered n w)
  -- events, timers and budgets
  pub draws_event : (w : World) → G w → Behind G w [] (record w { drawn = event_drawn w.drawn })
  pub adds_timer : (t : TaskNo) (w : World) → G w → Behind G w [] (with_timer t w)
  pub clears_timer : (k : ℕ) (w : World) → G w → Behind G w [] (clear_timer k w)
  pub sets_timer : (k : ℕ) (h : HandlerOf) (value : ℤ) (w : World) → G w → Behind G w [] (with_timer_set k h value w)
  pub sets_timers_due : (timers : List ℕ) (w : World) → G w → Behind G w [] (record w { timers_due = timers })
  pub adds_budget : (w : World) → G w → Behind G w [] (with_budget w)
  pub edits_budget : (b : ℕ) (f : Budget → Budget) (w : World) → G w → Behind G w [] (edit_budget b f w)
  pub sets_budget_due : (budget : Option ℕ) (w : World) → G w → Behind G w [] (record w { budget_due = budget })
  pub adds_release : (h : HandlerOf) (argument : Option ℕ) (w : World) → G w → Behind G w [] (add_release h argument w)
  -- the outside
  pub sets_port : (n : ℕ) (value : ℤ) (w : World) → G w → Behind G w [] (with_port n value w)
  pub masks : (n : ℕ) (flag : Bool) (w : World) → G w → Behind G w [] (with_masked n flag w)
  pub keeps_interrupt : (n : ℕ) (flag : Bool) (w : World) → G w → Behind G w [] (with_kept_interrupt n flag w)
  pub cuts_script : (x : ℤ × Item) (rest : List (ℤ × Item)) (w : World) → G w → Behind G w [] (with_script rest w)

-- who acts beside a protected action, or in an abortable part, is another
pub record Openings (p : Image) (G : GoodWorld) (May Other : Naming) : Type 0 where
  pub pushes : (name : Who) (f : Frame) (w : World) → G w → May name → (nature f.mark).region ≡ None → (nature f.mark).release ≡ None
      → (nature f.mark).abortable ≡ false → Behind G w [] (push name f w)
  pub opens_scope : (name : Who) (scope : ScopeNo) (b : Beginning) (purpose : Purpose) (w : World) → G w → May name
      → Behind G w [] (open_scope p name scope b purpose w)
  pub outside : (name : Who) (w : World) → G w → May name → in_protected w name ≡ false → Other name
  pub within_part : (name : Who) (f : Frame) (w : World) → G w → May name → top_of w name ≡ Some f → is_abortable f.mark ≡ true → Other name
  -- who acts blocks, and for dependents last of all
  pub blocks : (name : Who) (waiting : Waiting) (w : World) → G w → Other name → is_for_dependents waiting ≡ false
      → Behind G w [] (edit_task name (with_state (Blocked waiting)) w)

-- ---- who is woken goes on freely until it has opened the sequence to which it has come, or leaves its mark

pub record Loosening (p : Image) (G : GoodWorld) (May Other : Naming) (c : Who) : Type 1 where
  pub Loose : GoodWorld
  pub moves : FineMoves p Loose (λ n. May n ⊎ (n ≡ c)) Other
  pub loosens : (w : World) → G w → Loose w
  pub tight : (w : World) → Loose w → begins_sequence p (onward_of w c) ≡ false → G w

abbrev pub Loosens : Image → GoodWorld → Naming → Naming → Type 1
Loosens p G May Other = (c : Who) → Other c → Loosening p G May Other c

abbrev pub Again : (p : Image) (G : GoodWorld) (May Other : Naming) → Loosens p G May Other → Type 1
Again p G May Other loose = (c : Who) (other : Other c) → Loosens p (loose c other).Loose (λ n. May n ⊎ (n ≡ c)) Other

abbrev pub Nobody : Naming
Nobody name = ⊥

-- the end of a protected action: while calls are served (S), behind its mark (E), in a body that opens (G), and in the end (Y)
pub record Ending (p : Image) (Other : Naming) (name : Who) (release : Option ℕ) (own_call : Option CallNo) : Type 1 where
  pub S : GoodWorld
  pub E : GoodWorld
  pub G : GoodWorld
  pub Y : GoodWorld
  pub MayE : Naming
  pub MayG : Naming
  pub serving : FineMoves p S Nobody Other
  pub serving_loose : Loosens p S Nobody Other
  pub ended : FineMoves p E MayE Other
  pub ended_openings : Openings p E MayE Other
  pub opened : FineMoves p G MayG Other
  pub opened_loose : Loosens p G MayG Other
  pub opens : (scope : ScopeNo) (b : Beginning) (purpose : Purpose) (w : World) → S w → G (open_scope p name scope b purpose w)
  pub pops : (w : World) → S w → E (pop name w)
  pub may : release ≡ None → MayE name
  pub knows : release ≡ None → (c : CallNo) → own_call ≡ Some c → (w : World) → E w → (d : Call) → call_of w c ≡ Some d → MayE (who.Task d.caller)
  pub served_over : (w : World) → S w → Y w
  pub opened_over : (w : World) → G w → Y w
  pub ended_over : (w : World) → E w → Y w
  pub serves : (w : World) → E w → E (serves_nothing w)
  pub sleeps : (n : ℕ) (w : World) → release ≡ Some n → E w → Y (edit_task who.Agent (with_state (Blocked waits_for.Release)) w)
  pub over_kept_level : (w : World) → Y w → Y (edit_task who.Agent without_kept_level w)

-- a kept scope is left: who leaves it has come to the end of its mark (T), and may wait for its dependents (Y)
pub record Departing (p : Image) (Other : Naming) (name : Who) (G Y : GoodWorld) : Type 1 where
  pub T : GoodWorld
  pub tight : FineMoves p T Nobody Other
  pub tight_loose : Loosens p T Nobody Other
  pub begins : (w : World) → G w → begins_sequence p (onward_of w name) ≡ false → T w
  pub waits : (r : RegionNo) (w : World) → T w → Y (edit_task name (with_state (Blocked (waits_for.Dependents r))) w)
  pub rests : (w : World) → T w → Y w
  pub over_kept : (w : World) → Y w → Y (edit_task name without_kept_level w)
  pub over : (w : World) → G w → Y w

-- steps and moves are put together, a line that tells no change is said, and an effect is over
module _ {p : Image} {G : GoodWorld} {May Other : Naming} (moves : FineMoves p G May Other) where
  pub chains : Chains G (Behind G)
  chains = record { behind = λ a b h. h; stays = moves.stays; goes_on = λ a b c h k. k }

  pub move_chains : MoveChains G (BehindMove G)
  move_chains = record { moved = λ a b h. h; leads_on = λ a b c h k. k }

  pub says-keeps : (part : Part) (line : Line) → is_apart line ≡ false → Keeps G (Behind G) (says part line)
  says-keeps part line other = said-keeps chains part line (λ w good. moves.says part line w good other)

  pub effect-leads : (step : Step) → Keeps G (Behind G) step → Leads G (BehindMove G) (settles p step)
  effect-leads step kept = settles-leads (BehindMove G) p moves.settles G step kept
