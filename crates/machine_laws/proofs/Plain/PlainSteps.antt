-- Steps that leave alone who stands where: what every law knows of the changes that they are made of, with all that the machine
-- keeps in them, and of the lines that they say. Goes is said of who may go on.
use Rattle.std.proofs.Common.{◌≡◌, ℕ, suc, List, [], ◌∷◌, Option, Some}
use Rattle.ann_base.specs.declared.identities.CallNo.{CallNo}
use Rattle.ann_base.specs.declared.identities.ObjectNo.{ObjectNo}
use Rattle.ann_base.specs.declared.identities.TaskNo.{TaskNo}
use Rattle.trace_text.specs.declared.events.Who.{Who}
use Rattle.profile_image.specs.declared.image.Image.{Image}
use Rattle.profile_image.specs.declared.numbers.DeclNo.{DeclNo}
use Rattle.profile_image.specs.declared.numbers.ProtectedUnitNo.{ProtectedUnitNo}
use Rattle.profile_image.specs.declared.numbers.StatementNo.{StatementNo}
use Rattle.profile_machine.specs.declared.run_data.Leaving.{Leaving}
use Rattle.ann_base.specs.declared.exceptions.Raised.{Raised}
use Rattle.profile_image.specs.declared.values.Value.{Value}
use Rattle.profile_machine.specs.declared.world.World.{World}
use Rattle.profile_machine.specs.declared.world.calls.Call.{Call}
use Rattle.trace_text.specs.declared.events.Created.TheVariants as created
use Rattle.profile_machine.specs.declared.world.lines.Line.TheVariants as said
use Rattle.profile_machine.specs.declared.world.lines.Part.{Part}
use Rattle.profile_machine.specs.declared.world.lines.Part.TheVariants.{Own}
use Rattle.profile_machine.specs.declared.world.objects.Object.{Object}
use Rattle.profile_machine.specs.declared.world.scopes.Located.{Located}
use Rattle.profile_machine.specs.declared.world.scopes.ScopeId.{ScopeId}
use Rattle.profile_machine.specs.declared.world.tasks.Task.{Task}
use Rattle.profile_machine.specs.Steps.{says}
use Rattle.profile_machine.specs.Tasks.{edit_task}
use Rattle.profile_machine.specs.Frames.{goes, leaves}
use Rattle.profile_machine.specs.Scopes.{edit_cells}
use Rattle.profile_machine.specs.Appointments.{drop_appointment, is_timeout_of}
use Rattle.profile_machine.specs.Calls.{edit_call, forget_call, edit_object, says_call}
use Rattle.profile_machine.specs.Declarations.{new_object, object_drawn, event_drawn, with_budget, with_timer}
use Rattle.machine_laws.proofs.Moves.{StepRelation}
use Rattle.machine_laws.proofs.FineMoves.{Anybody, GoodWorld, Naming}
use Rattle.machine_laws.proofs.Chains.{Chains}
use Rattle.machine_laws.proofs.Kept.Combinators.{Keeps}

pub record PlainSteps (G : GoodWorld) (Goes : Naming) (R : StepRelation) : Type 0 where
  pub chains : Chains G R
  -- somebody goes on, or leaves what is open
  pub goes : (name : Who) (onward : Option StatementNo) → Goes name → Keeps G R (goes name onward)
  pub leaves : (name : Who) (leaving : Leaving) → Keeps G R (leaves name leaving)
  -- lines that tell no change
  pub says_raise : (part : Part) (name : Who) (e : Raised) → Keeps G R (says part (said.Raise name e))
  pub says_object : (o : ObjectNo) (d : DeclNo) (ceiling : ℕ) → Keeps G R (says Own (said.New (created.Object o) (Some d) ceiling))
  pub says_call : (part : Part) (c : Call) → Keeps G R (says_call part c)
  pub says_cancel : (part : Part) (t : TaskNo) (c : CallNo) → Keeps G R (says part (said.Cancel t c))
  -- tasks, cells, calls and objects
  pub edits_task : (name : Who) (f : Task → Task) (w : World) → G w → ((t : Task) → (f t).who ≡ t.who) → ((t : Task) → (f t).frames ≡ t.frames)
      → ((t : Task) → (f t).state ≡ t.state) → ((t : Task) → (f t).master ≡ t.master)
      → ((t : Task) → (f t).cpu_ticks ≡ t.cpu_ticks) → ((t : Task) → (f t).abnormal ≡ t.abnormal) → ((t : Task) → (f t).unit ≡ t.unit)
      → ((t : Task) → (f t).inherited ≡ t.inherited) → R w [] (edit_task name f w)
  pub edits_cells : (id : ScopeId) (f : List Value → List Value) (w : World) → G w → R w [] (edit_cells id f w)
  pub edits_call : (c : CallNo) (f : Call → Call) (w : World) → G w → ((d : Call) → (f d).number ≡ d.number) → ((d : Call) → (f d).caller ≡ d.caller)
      → R w [] (edit_call c f w)
  pub forgets_call : (c : CallNo) (w : World) → G w → R w [] (forget_call c w)
  pub edits_object : (o : ObjectNo) (f : Object → Object) (w : World) → G w → ((x : Object) → (f x).number ≡ x.number)
      → ((x : Object) → (f x).actions ≡ x.actions) → ((x : Object) → (f x).ceiling ≡ x.ceiling) → R w [] (edit_object o f w)
  pub drops_timeout : (c : CallNo) (w : World) → G w → R w [] (drop_appointment (is_timeout_of c) w)
  -- what is declared
  pub adds_object : (p : Image) (l : Located) (u : ProtectedUnitNo) (w : World) → G w
      → R w [] (record w { objects = new_object p l u (suc w.drawn.objects) ∷ w.objects; drawn = object_drawn w.drawn })
  pub draws_event : (w : World) → G w → R w [] (record w { drawn = event_drawn w.drawn })
  pub adds_timer : (t : TaskNo) (w : World) → G w → R w [] (with_timer t w)
  pub adds_budget : (w : World) → G w → R w [] (with_budget w)

-- where nothing is asked of who goes on
pub anybody : (name : Who) → Anybody name
anybody name = tt
