-- The changes that steps are made of, and what leaves a world good: these of anybody, and some only of who has no action open.
use Rattle.std.proofs.Common.{◌≡◌, ℕ, ℤ, suc, Bool, true, false, List, ◌∷◌, Option, Some}
use Rattle.ann_base.specs.declared.identities.CallNo.{CallNo}
use Rattle.ann_base.specs.declared.identities.ObjectNo.{ObjectNo}
use Rattle.ann_base.specs.declared.identities.RegionNo.{RegionNo}
use Rattle.ann_base.specs.declared.identities.TaskNo.{TaskNo}
use Rattle.trace_text.specs.declared.events.Who.{Who}
use Rattle.profile_image.specs.declared.image.Image.{Image}
use Rattle.profile_image.specs.declared.numbers.ProtectedUnitNo.{ProtectedUnitNo}
use Rattle.profile_image.specs.declared.numbers.ScopeNo.{ScopeNo}
use Rattle.profile_image.specs.declared.script_items.Item.{Item}
use Rattle.profile_machine.specs.declared.run_data.Leaving.{Leaving}
use Rattle.profile_image.specs.declared.values.Value.{Value}
use Rattle.profile_machine.specs.declared.world.World.{World}
use Rattle.profile_machine.specs.declared.world.marks.Frame.{Frame}
use Rattle.profile_machine.specs.declared.world.marks.Purpose.{Purpose}
use Rattle.profile_machine.specs.declared.world.tasks.Task.{Task}
use Rattle.profile_machine.specs.declared.world.tasks.Cause.{Cause}
use Rattle.profile_machine.specs.declared.world.tasks.Waiting.{Waiting}
use Rattle.profile_machine.specs.declared.world.tasks.State.TheVariants.{Runnable, Blocked}
use Rattle.profile_machine.specs.declared.world.scopes.Beginning.{Beginning}
use Rattle.profile_machine.specs.declared.world.scopes.ScopeId.{ScopeId}
use Rattle.profile_machine.specs.declared.world.scopes.Located.{Located}
use Rattle.profile_machine.specs.declared.world.calls.Call.{Call}
use Rattle.profile_machine.specs.declared.world.objects.Object.{Object}
use Rattle.profile_machine.specs.declared.world.appointments.Due.{Due}
use Rattle.profile_machine.specs.declared.world.appointments.Budget.{Budget}
use Rattle.profile_machine.specs.declared.world.appointments.HandlerOf.{HandlerOf}
use Rattle.profile_image.specs.Words.{edit_at}
use Rattle.profile_machine.specs.Tasks.{edit_task, with_state, with_frames}
use Rattle.profile_machine.specs.Frames.{top_of, push, pop, is_protected}
use Rattle.profile_machine.specs.Scopes.{edit_cells, begin_scope, open_scope, end_scope}
use Rattle.profile_machine.specs.Appointments.{appoint, drop_appointment}
use Rattle.profile_machine.specs.Inheritance.{inherit, lose}
use Rattle.profile_machine.specs.Calls.{edit_call, forget_call, edit_object}
use Rattle.profile_machine.specs.Masters.{forget_task}
use Rattle.profile_machine.specs.EntryCalls.{add_call}
use Rattle.profile_machine.specs.Controlled.{registered_as, no_longer_registered}
use Rattle.profile_machine.specs.Declarations.{new_object, object_drawn, event_drawn, with_budget, with_timer}
use Rattle.profile_machine.specs.Tasking.{end_environment, is_task_scope}
use Rattle.profile_machine.specs.Serving.{serves_nothing}
use Rattle.profile_machine.specs.Handlers.{add_release, clear_timer, with_timer_set, edit_budget}
use Rattle.profile_machine.specs.Instant.{with_port, with_masked, with_kept_interrupt, with_script}
use Rattle.world_laws.proofs.Actions.Natures.{nature, natures, plain}
use Rattle.world_laws.proofs.Actions.SoundMarks.{bare}
use Rattle.world_laws.proofs.Actions.SoundActions.{is_ceiling}
use Rattle.machine_laws.proofs.FineMoves.{GoodWorld, Naming}
use Rattle.world_laws.proofs.Behind.{Behind, BehindMove}
use Rattle.machine_laws.proofs.Chains.{Chains, MoveChains}
use Rattle.machine_laws.proofs.Kept.Combinators.{Keeps, said-keeps}
use Rattle.profile_machine.specs.declared.world.lines.Line.{Line}
use Rattle.profile_machine.specs.declared.world.lines.Part.{Part}
use Rattle.profile_machine.specs.Steps.{says}

-- somebody goes on

pub record FineMoves (G : GoodWorld) (F : Naming) : Type 0 where
  -- tasks: an edit of anybody that leaves alone who it is, its marks, its state, its master and what it inherits; one of marks alone
  pub edits_task : (name : Who) (f : Task → Task) (w : World) → G w → ((t : Task) → (f t).who ≡ t.who) → ((t : Task) → (f t).frames ≡ t.frames)
      → ((t : Task) → (f t).state ≡ t.state) → ((t : Task) → (f t).master ≡ t.master) → ((t : Task) → (f t).inherited ≡ t.inherited)
      → G (edit_task name f w)
  pub edits_frames : (name : Who) (f : List Frame → List Frame) (w : World) → G w → ((fs : List Frame) → natures (f fs) ≡ natures fs)
      → G (edit_task name (λ t. with_frames (f t.frames) t) w)
  pub inherits : (name : Who) (cause : Cause) (level : ℕ) (w : World) → G w → G (inherit name cause level w)
  pub loses : (name : Who) (cause : Cause) (w : World) → G w → is_ceiling cause ≡ false → G (lose name cause w)
  -- a mark is opened; an abortable part, and the scope of a task, by who has no action open; and one that is no action ends
  pub pushes : (name : Who) (f : Frame) (w : World) → G w → nature f.mark ≡ plain → G (push name f w)
  pub opens_abortable : (name : Who) (f : Frame) (w : World) → G w → F name → nature f.mark ≡ bare true → G (push name f w)
  pub opens_scope : (p : Image) (name : Who) (scope : ScopeNo) (b : Beginning) (purpose : Purpose) (w : World) → G w → (is_task_scope purpose ≡ true → F name)
      → G (open_scope p name scope b purpose w)
  pub pops : (name : Who) (f : Frame) (w : World) → G w → top_of w name ≡ Some f → is_protected f.mark ≡ false → G (pop name w)
  -- states: who has no action open may block
  pub readies : (name : Who) (w : World) → G w → G (edit_task name (with_state Runnable) w)
  pub blocks : (name : Who) (waiting : Waiting) (w : World) → G w → F name → G (edit_task name (with_state (Blocked waiting)) w)
  -- a task that is gone has no action open
  pub forgets_task : (name : Who) (w : World) → G w → F name → G (forget_task name w)
  pub sets_quantum : (level ticks : ℕ) (w : World) → G w → G (record w { quanta = edit_at level (λ _. ticks) w.quanta })
  pub ends_environment : (leaving : Leaving) (w : World) → G w → G (end_environment leaving w)
  -- scopes and their cells
  pub begins_scope : (p : Image) (name : Who) (scope : ScopeNo) (b : Beginning) (w : World) → G w → G (begin_scope p name scope b w)
  pub edits_cells : (id : ScopeId) (f : List Value → List Value) (w : World) → G w → G (edit_cells id f w)
  pub ends_scope : (id : ScopeId) (w : World) → G w → G (end_scope id w)
  -- calls: no edit changes the number, or who calls
  pub edits_call : (c : CallNo) (f : Call → Call) (w : World) → G w → ((d : Call) → (f d).number ≡ d.number) → ((d : Call) → (f d).caller ≡ d.caller)
      → G (edit_call c f w)
  pub adds_call : (c : Call) (w : World) → G w → G (add_call c w)
  pub forgets_call : (c : CallNo) (w : World) → G w → G (forget_call c w)
  -- protected objects: no other edit changes the actions that are open, or the ceiling
  pub edits_object : (o : ObjectNo) (f : Object → Object) (w : World) → G w → ((x : Object) → (f x).number ≡ x.number)
      → ((x : Object) → (f x).actions ≡ x.actions) → ((x : Object) → (f x).ceiling ≡ x.ceiling) → G (edit_object o f w)
  pub adds_object : (p : Image) (l : Located) (u : ProtectedUnitNo) (w : World) → G w
      → G (record w { objects = new_object p l u (suc w.drawn.objects) ∷ w.objects; drawn = object_drawn w.drawn })
  -- appointments, releases and controlled objects
  pub appoints : (due : Due) (moment : ℤ) (w : World) → G w → G (appoint due moment w)
  pub drops_appointment : (test : Due → Bool) (w : World) → G w → G (drop_appointment test w)
  pub releases : (h : HandlerOf) (argument : Option ℕ) (w : World) → G w → G (add_release h argument w)
  pub has_served : (w : World) → G w → G (serves_nothing w)
  pub registers : (n : ℕ) (r : RegionNo) (l : Located) (w : World) → G w → G (registered_as n r l w)
  pub unregisters : (n : ℕ) (w : World) → G w → G (no_longer_registered n w)
  -- events, timers and budgets
  pub draws_event : (w : World) → G w → G (record w { drawn = event_drawn w.drawn })
  pub adds_timer : (t : TaskNo) (w : World) → G w → G (with_timer t w)
  pub clears_timer : (k : ℕ) (w : World) → G w → G (clear_timer k w)
  pub sets_timer : (k : ℕ) (h : HandlerOf) (value : ℤ) (w : World) → G w → G (with_timer_set k h value w)
  pub sets_timers_due : (timers : List ℕ) (w : World) → G w → G (record w { timers_due = timers })
  pub adds_budget : (w : World) → G w → G (with_budget w)
  pub edits_budget : (b : ℕ) (f : Budget → Budget) (w : World) → G w → G (edit_budget b f w)
  pub sets_budget_due : (budget : Option ℕ) (w : World) → G w → G (record w { budget_due = budget })
  -- the outside
  pub sets_port : (n : ℕ) (value : ℤ) (w : World) → G w → G (with_port n value w)
  pub masks : (n : ℕ) (flag : Bool) (w : World) → G w → G (with_masked n flag w)
  pub keeps_interrupt : (n : ℕ) (flag : Bool) (w : World) → G w → G (with_kept_interrupt n flag w)
  pub cuts_script : (rest : List (ℤ × Item)) (w : World) → G w → G (with_script rest w)

-- steps and moves are put together, a line tells no change, and an effect is over
module _ {G : GoodWorld} {F : Naming} (moves : FineMoves G F) where
  pub chains : Chains G (Behind G)
  chains = record { behind = λ a b h. h; stays = λ w good. good; goes_on = λ a b c h k. k }

  pub move_chains : MoveChains G (BehindMove G)
  move_chains = record { moved = λ a b h. h; leads_on = λ a b c h k. k }

  pub says-keeps : (part : Part) (line : Line) → Keeps G (Behind G) (says part line)
  says-keeps part line = said-keeps chains part line (λ w good. good)
