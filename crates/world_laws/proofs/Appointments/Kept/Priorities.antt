-- Base priorities and deadlines that are set: each step keeps a relation that its parts keep.
use Rattle.std.proofs.Common.{ap, ◌≡◌, refl}
use Rattle.std.specs.Prelude.{false, true, Bool, ℕ, ℤ, ◌&&◌, Option, Some, None, ◌||◌}
use Rattle.ann_base.specs.declared.exceptions.Raised.TheVariants as exception
use Rattle.trace_text.specs.declared.events.Who.{Who}
use Rattle.trace_text.specs.declared.events.Who.TheVariants as who
use Rattle.profile_image.specs.declared.image.Image.{Image}
use Rattle.profile_image.specs.declared.image.Queuing.{Queuing}
use Rattle.profile_image.specs.declared.image.Queuing.TheVariants as queuing
use Rattle.profile_image.specs.declared.numbers.ExprNo.{ExprNo}
use Rattle.profile_image.specs.declared.numbers.StatementNo.{StatementNo}
use Rattle.profile_machine.specs.declared.world.World.{World}
use Rattle.profile_machine.specs.declared.world.calls.Call.{Call}
use Rattle.profile_machine.specs.declared.world.lines.Part.{Part}
use Rattle.profile_machine.specs.declared.world.lines.Part.TheVariants.{Own}
use Rattle.profile_machine.specs.declared.world.tasks.State.{State}
use Rattle.profile_machine.specs.declared.world.tasks.State.TheVariants.{Made, Runnable, Blocked}
use Rattle.profile_machine.specs.declared.world.tasks.Task as world
use Rattle.profile_machine.specs.declared.world.tasks.Waiting.{Waiting}
use Rattle.profile_machine.specs.Calls.{place_of_entry, take_call, put_call}
use Rattle.profile_machine.specs.Dispatching.{to_tail}
use Rattle.profile_machine.specs.Frames.{goes, in_protected}
use Rattle.profile_machine.specs.Masters.{part_of}
use Rattle.profile_machine.specs.Priorities.{is_runnable_at_edf, placed_anew, reprioritize, reprioritize_own, replace_in, says_base}
use Rattle.profile_machine.specs.Priorities.{set_base, says_deadline, set_deadline, take_base, take_deadline, set_deferred, placing_of}
use Rattle.profile_machine.specs.Priorities.{defer_base, set_or_defer_base, set_base_of, priority_in_range, set_priority, quantum_of}
use Rattle.profile_machine.specs.Priorities.{set_quantum, defer_deadline, set_or_defer_deadline, set_deadline_of, is_edf_base}
use Rattle.profile_image.specs.Program.{next_of, has_edf}
use Rattle.profile_machine.specs.Steps.{nothing, when, changes}
use Rattle.profile_machine.specs.Tasks.{waiting_in, is_runnable_state, is_runnable, task_of}
use Rattle.profile_machine.specs.Values.{value, moment, whole_in}
use Rattle.profile_machine.specs.WellFormed.{waits_for_delay}
use Rattle.profile_image.specs.Words.{edit_at}
use Rattle.machine_laws.proofs.Moves.{StepRelation, MoveRelation}
use Rattle.world_laws.proofs.Appointments.Delays.{Idle}
use Rattle.world_laws.proofs.Appointments.FineMoves.{FineMoves, chains, says-keeps}
use Rattle.world_laws.proofs.Appointments.Kept.Dispatching.{to_tail-from}
use Rattle.world_laws.proofs.Appointments.Kept.Frames.{goes-keeps, plain_steps}
use Rattle.world_laws.proofs.Appointments.Kept.Tasks.{edit_task-alters}
use Rattle.machine_laws.proofs.FineMoves.{GoodWorld, Naming}
use Rattle.machine_laws.proofs.Kept.Combinators.{Alters, From, Keeps, branch-keeps, changes-keeps, for_some-keeps, keeps-from}
use Rattle.machine_laws.proofs.Kept.Combinators.{looks-from, looks-keeps, nothing-keeps, sees-keeps, then-keeps, when-keeps}
use Rattle.machine_laws.proofs.Plain.Calls.{edit_call-alters, with_call-keeps, edit_queue-alters}
use Rattle.machine_laws.proofs.Plain.Frames.{given-keeps, raise_if-keeps}

runnable-waits : (state : State) → is_runnable_state state ≡ true → waits_for_delay (waiting_in state) ≡ false
runnable-waits Made e = refl
runnable-waits Runnable e = refl
runnable-waits (Blocked waiting) e = absurd cc

edf-runs : (p : Image) (w : World) (name : Who) (state : State) → is_runnable_at_edf p w name state ≡ true → is_runnable_state state ≡ true
edf-runs p w name Made e = e
edf-runs p w name Runnable e = refl
edf-runs p w name (Blocked waiting) e = e

module _ {G : GoodWorld} {May : Naming} {R : StepRelation} {Q : MoveRelation} (moves : FineMoves G May R Q) where
  pub placed_anew-alters : (queuing : Queuing) (p : Image) (c : Call) (level : ℕ) → Alters G R (placed_anew queuing p c level)
  unfolding Alters
  placed_anew-alters queuing.Fifo p c level w good = moves.stays w good
  placed_anew-alters queuing.Priority p c level w good =
      edit_queue-alters (plain_steps moves) c.owner (place_of_entry p c.entry) (λ q. put_call queuing.Priority w c.number level (take_call c.number q)) w good

  pub reprioritize-keeps : (p : Image) (level : ℕ) (c : Call) → Keeps G R (reprioritize p level c)
  unfolding reprioritize
  reprioritize-keeps p level c = search (when-keeps, changes-keeps, edit_call-alters, then-keeps, placed_anew-alters, chains, plain_steps) depth 8

  pub reprioritize_own-keeps : (p : Image) (name : Who) (waiting : Waiting) → Keeps G R (reprioritize_own p name waiting)
  unfolding reprioritize_own
  reprioritize_own-keeps p name waiting = search (looks-keeps, for_some-keeps, with_call-keeps, reprioritize-keeps, chains, plain_steps)

  -- who is ready waits for no delay
  pub runs-idle : (name : Who) (w : World) → G w → is_runnable (task_of w name) ≡ true → Idle name w
  runs-idle name w good is = moves.asleep name w good (runnable-waits (task_of w name).state is)

  replace_in-from : (p : Image) (part : Part) (name : Who) (w : World) (state : State) → G w → (task_of w name).state ≡ state
      → From R w (replace_in p part name state)
  unfolding replace_in
  replace_in-from p part name w Made good is = keeps-from (chains moves) nothing w good (nothing-keeps (chains moves))
  replace_in-from p part name w Runnable good is = to_tail-from moves p part name w good (runs-idle name w good (ap is_runnable_state is))
  replace_in-from p part name w (Blocked waiting) good is = keeps-from (chains moves) _ w good (reprioritize_own-keeps p name waiting)

  pub says_base-keeps : (part : Part) (name : Who) (level : ℕ) → Keeps G R (says_base part name level)
  unfolding says_base
  says_base-keeps part (who.Task t) level = search (says-keeps)
  says_base-keeps part who.Agent level = search (nothing-keeps, chains)

  pub set_base-keeps : (p : Image) (part placing : Part) (name : Who) (level : ℕ) → Keeps G R (set_base p part placing name level)
  unfolding set_base
  set_base-keeps p part placing name level =
      then-keeps (chains moves) _ _
      (changes-keeps (chains moves) _ (edit_task-alters moves name (λ t. record t { base = level }) (λ t. refl) (λ t. refl) (λ t. refl)))
      (then-keeps (chains moves) _ _ (says_base-keeps part name level)
      (looks-from (chains moves) _ (λ w good. replace_in-from p placing name w (task_of w name).state good refl)))

  pub says_deadline-keeps : (part : Part) (name : Who) (d : ℤ) → Keeps G R (says_deadline part name d)
  unfolding says_deadline
  says_deadline-keeps part (who.Task t) d = search (says-keeps)
  says_deadline-keeps part who.Agent d = search (nothing-keeps, chains)

  edf_where : (p : Image) (part : Part) (name : Who) (w : World) (test : Bool) → G w → is_runnable_at_edf p w name (task_of w name).state ≡ test
      → From R w (when test (to_tail p part name))
  edf_where p part name w true good is = to_tail-from moves p part name w good (runs-idle name w good (edf-runs p w name (task_of w name).state is))
  edf_where p part name w false good is = keeps-from (chains moves) nothing w good (nothing-keeps (chains moves))

  pub set_deadline-keeps : (p : Image) (part placing : Part) (name : Who) (d : ℤ) → Keeps G R (set_deadline p part placing name d)
  unfolding set_deadline
  set_deadline-keeps p part placing name d =
      then-keeps (chains moves) _ _
      (changes-keeps (chains moves) _ (edit_task-alters moves name (λ t. record t { deadline = d }) (λ t. refl) (λ t. refl) (λ t. refl)))
      (then-keeps (chains moves) _ _ (says_deadline-keeps part name d)
      (looks-from (chains moves) _ (λ w good. edf_where p placing name w (is_runnable_at_edf p w name (task_of w name).state) good refl)))

  pub take_base-keeps : (p : Image) (name : Who) (n : Option ℕ) → Keeps G R (take_base p name n)
  unfolding take_base
  take_base-keeps p name None = search (nothing-keeps, chains)
  take_base-keeps p name (Some level) = search (changes-keeps, edit_task-alters, then-keeps, set_base-keeps, chains)

  pub take_deadline-keeps : (p : Image) (name : Who) (moment : Option ℤ) → Keeps G R (take_deadline p name moment)
  unfolding take_deadline
  take_deadline-keeps p name None = search (nothing-keeps, chains)
  take_deadline-keeps p name (Some d) = search (changes-keeps, edit_task-alters, then-keeps, set_deadline-keeps, chains)

  pub set_deferred-keeps : (p : Image) (name : Who) → Keeps G R (set_deferred p name)
  unfolding set_deferred
  set_deferred-keeps p name = search (looks-keeps, when-keeps, take_base-keeps, then-keeps, take_deadline-keeps, chains)

  pub defer_base-keeps : (name : Who) (level : ℕ) → Keeps G R (defer_base name level)
  unfolding defer_base
  defer_base-keeps name level = search (changes-keeps, edit_task-alters, chains)

  pub set_or_defer_base-keeps : (p : Image) (actor name : Who) (level : ℕ) → Keeps G R (set_or_defer_base p actor name level)
  unfolding set_or_defer_base
  set_or_defer_base-keeps p actor name level =
      looks-keeps (chains moves) _
      (λ w. branch-keeps (chains moves) (in_protected w name) (defer_base name level) (set_base p (part_of actor name) (placing_of actor name) name level)
      (search (defer_base-keeps)) (search (set_base-keeps)))

  pub set_base_of-keeps : (p : Image) (actor : Who) (s : StatementNo) (level : ℕ) (t : Option world.Task) → Keeps G R (set_base_of p actor s level t)
  unfolding set_base_of
  set_base_of-keeps p actor s level None = search (goes-keeps)
  set_base_of-keeps p actor s level (Some t) =
      raise_if-keeps (plain_steps moves) actor (is_edf_base p t.base || is_edf_base p level) exception.Program _
      (then-keeps (chains moves) (goes actor (next_of p s)) _ (search (goes-keeps)) (set_or_defer_base-keeps p actor t.who level))

  pub set_priority-keeps : (p : Image) (name : Who) (s : StatementNo) (e : ExprNo) (task : Option ExprNo) → Keeps G R (set_priority p name s e task)
  unfolding set_priority
  set_priority-keeps p name s e task = search (sees-keeps, given-keeps, set_base_of-keeps, chains, plain_steps) depth 9

  set_level-keeps : (level ticks : ℕ) → Keeps G R (changes (λ w. record w { quanta = edit_at level (λ _. ticks) w.quanta }))
  unfolding Alters
  set_level-keeps level ticks =
      changes-keeps (chains moves) (λ w. record w { quanta = edit_at level (λ _. ticks) w.quanta }) (λ w good. moves.sets_quantum level ticks w good)

  pub set_quantum-keeps : (p : Image) (name : Who) (s : StatementNo) (level quantum : ExprNo) → Keeps G R (set_quantum p name s level quantum)
  unfolding set_quantum
  set_quantum-keeps p name s level quantum =
      sees-keeps (chains moves) p name _
      (λ q. given-keeps (plain_steps moves) Own name (value q level) _ (λ v. given-keeps (plain_steps moves) Own name (moment q quantum) _ (λ n.
      given-keeps (plain_steps moves) Own name (priority_in_range p.policies.last_priority (whole_in v)) _
      (λ l. given-keeps (plain_steps moves) Own name (quantum_of p l n) _ (λ ticks.
      then-keeps (chains moves) (goes name (next_of p s)) _ (goes-keeps moves name (next_of p s)) (set_level-keeps l ticks))))))

  pub defer_deadline-keeps : (name : Who) (d : ℤ) → Keeps G R (defer_deadline name d)
  unfolding defer_deadline
  defer_deadline-keeps name d = search (changes-keeps, edit_task-alters, chains)

  pub set_or_defer_deadline-keeps : (p : Image) (actor name : Who) (d : ℤ) → Keeps G R (set_or_defer_deadline p actor name d)
  unfolding set_or_defer_deadline
  set_or_defer_deadline-keeps p actor name d =
      looks-keeps (chains moves) _
      (λ w. branch-keeps (chains moves) (in_protected w name && has_edf p) (defer_deadline name d)
      (set_deadline p (part_of actor name) (placing_of actor name) name d) (search (defer_deadline-keeps)) (search (set_deadline-keeps)))

  pub set_deadline_of-keeps : (p : Image) (name : Who) (s : StatementNo) (e : ExprNo) (task : Option ExprNo) → Keeps G R (set_deadline_of p name s e task)
  unfolding set_deadline_of
  set_deadline_of-keeps p name s e task = search (sees-keeps, given-keeps, goes-keeps, then-keeps, set_or_defer_deadline-keeps, chains, plain_steps) depth 9
