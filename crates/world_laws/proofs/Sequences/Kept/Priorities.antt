-- Base priorities and deadlines that are set: each step keeps a relation that its parts keep.
use Rattle.std.specs.Prelude.{ℕ, ℤ, ◌&&◌, Option, Some, None, ◌||◌}
use Rattle.ann_base.specs.Results.{◌>>=◌}
use Rattle.ann_base.specs.declared.exceptions.Raised.TheVariants as exception
use Rattle.trace_text.specs.declared.events.Who.{Who}
use Rattle.trace_text.specs.declared.events.Who.TheVariants as who
use Rattle.profile_image.specs.declared.image.Image.{Image}
use Rattle.profile_image.specs.declared.image.Queuing.{Queuing}
use Rattle.profile_image.specs.declared.image.Queuing.TheVariants as queuing
use Rattle.profile_image.specs.declared.numbers.ExprNo.{ExprNo}
use Rattle.profile_image.specs.declared.numbers.StatementNo.{StatementNo}
use Rattle.profile_machine.specs.declared.world.calls.Call.{Call}
use Rattle.profile_machine.specs.declared.world.tasks.State.{State}
use Rattle.profile_machine.specs.declared.world.tasks.Waiting.{Waiting}
use Rattle.profile_machine.specs.declared.world.tasks.State.TheVariants.{Made, Runnable, Blocked}
use Rattle.profile_machine.specs.declared.world.tasks.Task as world
use Rattle.profile_image.specs.Words.{edit_at}
use Rattle.profile_image.specs.Program.{next_of, has_edf, interrupt_priority}
use Rattle.profile_machine.specs.declared.world.lines.Part.{Part}
use Rattle.profile_machine.specs.declared.world.lines.Part.TheVariants.{Own}
use Rattle.profile_machine.specs.Steps.{changes}
use Rattle.profile_machine.specs.Frames.{goes, in_protected}
use Rattle.profile_machine.specs.Values.{value, moment, whole_in, seen_by, optional_task, live_task, must_be_task}
use Rattle.profile_machine.specs.Calls.{place_of_entry, take_call, put_call}
use Rattle.profile_machine.specs.Masters.{part_of}
use Rattle.profile_machine.specs.Priorities.{placed_anew, reprioritize, reprioritize_own, replace_in, says_base, set_base, says_deadline}
use Rattle.profile_machine.specs.Priorities.{set_deadline, take_base, take_deadline, set_deferred, placing_of, defer_base, set_or_defer_base}
use Rattle.profile_machine.specs.Priorities.{set_base_of, priority_in_range, set_priority, quantum_of, set_quantum, defer_deadline}
use Rattle.profile_machine.specs.Priorities.{set_or_defer_deadline, set_deadline_of, delay_with_deadline, delay_and_set_deadline, is_edf_base}
use Rattle.machine_laws.proofs.FineMoves.{GoodWorld, Naming}
use Rattle.world_laws.proofs.Sequences.FineMoves.{FineMoves, Openings, chains, says-keeps}
use Rattle.world_laws.proofs.Behind.{Behind}
use Rattle.world_laws.proofs.Sequences.Kept.Tasks.{edit_task-alters}
use Rattle.world_laws.proofs.Sequences.Kept.Dispatching.{to_tail-keeps}
use Rattle.world_laws.proofs.Sequences.Kept.Frames.{goes-keeps, plain_steps}
use Rattle.world_laws.proofs.Sequences.Kept.Statements.{delay_to-keeps}
use Rattle.profile_machine.specs.Tasks.{found_task}
use Rattle.machine_laws.proofs.Kept.Combinators.{Alters, Keeps, branch-keeps, changes-keeps, for_some-keeps, keeps-from}
use Rattle.machine_laws.proofs.Kept.Combinators.{looks-from, looks-keeps, nothing-keeps, sees-keeps, then-keeps, when-keeps}
use Rattle.machine_laws.proofs.Plain.Frames.{given-keeps, raise_if-keeps, given-from, given_as-from}
use Rattle.machine_laws.proofs.Plain.Calls.{edit_call-alters, with_call-keeps, edit_queue-alters}

module _ {p : Image} {G : GoodWorld} {May Other : Naming} (moves : FineMoves p G May Other) where
  pub placed_anew-alters : (queuing : Queuing) (c : Call) (level : ℕ) → Alters G (Behind G) (placed_anew queuing p c level)
  unfolding Alters
  placed_anew-alters queuing.Fifo c level w good = moves.stays w good
  placed_anew-alters queuing.Priority c level w good =
      edit_queue-alters (plain_steps moves) c.owner (place_of_entry p c.entry) (λ q. put_call queuing.Priority w c.number level (take_call c.number q)) w good

  pub reprioritize-keeps : (level : ℕ) (c : Call) → Keeps G (Behind G) (reprioritize p level c)
  unfolding reprioritize
  reprioritize-keeps level c = search (when-keeps, changes-keeps, edit_call-alters, then-keeps, placed_anew-alters, chains, plain_steps) depth 8

  pub reprioritize_own-keeps : (name : Who) (waiting : Waiting) → Keeps G (Behind G) (reprioritize_own p name waiting)
  unfolding reprioritize_own
  reprioritize_own-keeps name waiting = search (looks-keeps, for_some-keeps, with_call-keeps, reprioritize-keeps, chains, plain_steps)

  pub replace_in-keeps : (part : Part) (name : Who) (state : State) → Keeps G (Behind G) (replace_in p part name state)
  unfolding replace_in
  replace_in-keeps part name Made = search (nothing-keeps, chains)
  replace_in-keeps part name Runnable = search (to_tail-keeps)
  replace_in-keeps part name (Blocked waiting) = search (reprioritize_own-keeps)

  pub says_base-keeps : (part : Part) (name : Who) (level : ℕ) → Keeps G (Behind G) (says_base part name level)
  unfolding says_base
  says_base-keeps part (who.Task t) level = search (says-keeps)
  says_base-keeps part who.Agent level = search (nothing-keeps, chains)

  pub set_base-keeps : (part placing : Part) (name : Who) (level : ℕ) → Keeps G (Behind G) (set_base p part placing name level)
  unfolding set_base
  set_base-keeps part placing name level = search (changes-keeps, edit_task-alters, then-keeps, says_base-keeps, looks-keeps, replace_in-keeps, chains) depth 7

  pub says_deadline-keeps : (part : Part) (name : Who) (d : ℤ) → Keeps G (Behind G) (says_deadline part name d)
  unfolding says_deadline
  says_deadline-keeps part (who.Task t) d = search (says-keeps)
  says_deadline-keeps part who.Agent d = search (nothing-keeps, chains)

  pub set_deadline-keeps : (part placing : Part) (name : Who) (d : ℤ) → Keeps G (Behind G) (set_deadline p part placing name d)
  unfolding set_deadline
  set_deadline-keeps part placing name d =
      search (changes-keeps, edit_task-alters, then-keeps, says_deadline-keeps, looks-keeps, when-keeps, to_tail-keeps, chains) depth 8

  pub take_base-keeps : (name : Who) (n : Option ℕ) → Keeps G (Behind G) (take_base p name n)
  unfolding take_base
  take_base-keeps name None = search (nothing-keeps, chains)
  take_base-keeps name (Some level) = search (changes-keeps, edit_task-alters, then-keeps, set_base-keeps, chains)

  pub take_deadline-keeps : (name : Who) (moment : Option ℤ) → Keeps G (Behind G) (take_deadline p name moment)
  unfolding take_deadline
  take_deadline-keeps name None = search (nothing-keeps, chains)
  take_deadline-keeps name (Some d) = search (changes-keeps, edit_task-alters, then-keeps, set_deadline-keeps, chains)

  pub set_deferred-keeps : (name : Who) → Keeps G (Behind G) (set_deferred p name)
  unfolding set_deferred
  set_deferred-keeps name = search (looks-keeps, when-keeps, take_base-keeps, then-keeps, take_deadline-keeps, chains)

  pub defer_base-keeps : (name : Who) (level : ℕ) → Keeps G (Behind G) (defer_base name level)
  unfolding defer_base
  defer_base-keeps name level = search (changes-keeps, edit_task-alters, chains)

  pub set_or_defer_base-keeps : (actor name : Who) (level : ℕ) → Keeps G (Behind G) (set_or_defer_base p actor name level)
  unfolding set_or_defer_base
  set_or_defer_base-keeps actor name level =
      looks-keeps (chains moves) _
      (λ w. branch-keeps (chains moves) (in_protected w name) (defer_base name level) (set_base p (part_of actor name) (placing_of actor name) name level)
      (search (defer_base-keeps)) (search (set_base-keeps)))

  pub set_base_of-keeps : (actor : Who) (s : StatementNo) (level : ℕ) (t : Option world.Task) → May actor → Keeps G (Behind G) (set_base_of p actor s level t)
  unfolding set_base_of
  set_base_of-keeps actor s level None may = search (goes-keeps)
  set_base_of-keeps actor s level (Some t) may =
      raise_if-keeps (plain_steps moves) actor (is_edf_base p t.base || is_edf_base p level) exception.Program _
      (then-keeps (chains moves) (goes actor (next_of p s)) _ (search (goes-keeps)) (set_or_defer_base-keeps actor t.who level))

  pub set_priority-keeps : (name : Who) (s : StatementNo) (e : ExprNo) (task : Option ExprNo) → May name → Keeps G (Behind G) (set_priority p name s e task)
  unfolding set_priority
  set_priority-keeps name s e task may =
      looks-from (chains moves) _ (λ w good. let q = seen_by p w name in
      given-from (plain_steps moves) Own name (optional_task q task >>= must_be_task) _ w good (λ t.
      given-from (plain_steps moves) Own name (value q e >>= λ v. priority_in_range (interrupt_priority p) (whole_in v)) _ w good (λ level.
      keeps-from (chains moves) _ w good
      (set_base_of-keeps name s level (found_task (who.Task t) w.tasks) may))))

  set_level-keeps : (level ticks : ℕ) → Keeps G (Behind G) (changes (λ w. record w { quanta = edit_at level (λ _. ticks) w.quanta }))
  unfolding Alters
  set_level-keeps level ticks =
      changes-keeps (chains moves) (λ w. record w { quanta = edit_at level (λ _. ticks) w.quanta }) (λ w good. moves.sets_quantum level ticks w good)

  pub set_quantum-keeps : (name : Who) (s : StatementNo) (level quantum : ExprNo) → May name → Keeps G (Behind G) (set_quantum p name s level quantum)
  unfolding set_quantum
  set_quantum-keeps name s level quantum may =
      sees-keeps (chains moves) p name _
      (λ q. given-keeps (plain_steps moves) Own name (value q level) _ (λ v. given-keeps (plain_steps moves) Own name (moment q quantum) _ (λ n.
      given-keeps (plain_steps moves) Own name (priority_in_range p.policies.last_priority (whole_in v)) _
      (λ l. given-keeps (plain_steps moves) Own name (quantum_of p l n) _ (λ ticks.
      then-keeps (chains moves) (goes name (next_of p s)) _ (goes-keeps moves name (next_of p s) may) (set_level-keeps l ticks))))))

  pub defer_deadline-keeps : (name : Who) (d : ℤ) → Keeps G (Behind G) (defer_deadline name d)
  unfolding defer_deadline
  defer_deadline-keeps name d = search (changes-keeps, edit_task-alters, chains)

  pub set_or_defer_deadline-keeps : (actor name : Who) (d : ℤ) → Keeps G (Behind G) (set_or_defer_deadline p actor name d)
  unfolding set_or_defer_deadline
  set_or_defer_deadline-keeps actor name d =
      looks-keeps (chains moves) _
      (λ w. branch-keeps (chains moves) (in_protected w name && has_edf p) (defer_deadline name d)
      (set_deadline p (part_of actor name) (placing_of actor name) name d) (search (defer_deadline-keeps)) (search (set_deadline-keeps)))

  pub set_deadline_of-keeps : (name : Who) (s : StatementNo) (e : ExprNo) (task : Option ExprNo) → May name
      → Keeps G (Behind G) (set_deadline_of p name s e task)
  unfolding set_deadline_of
  set_deadline_of-keeps name s e task may =
      looks-from (chains moves) _ (λ w good. let q = seen_by p w name in
      given_as-from (plain_steps moves) Own name (optional_task q task >>= live_task w) _ w good (λ t is.
      given-from (plain_steps moves) Own name (moment q e) _ w good (λ d.
      keeps-from (chains moves) _ w good
      (then-keeps (chains moves) (goes name (next_of p s)) _ (search (goes-keeps)) (set_or_defer_deadline-keeps name t.who d)))))

module _ {p : Image} {G : GoodWorld} {May Other : Naming} (moves : FineMoves p G May Other) (openings : Openings p G May Other) where
  pub delay_with_deadline-keeps : (name : Who) (s : StatementNo) (until offset : ℤ) → May name → Keeps G (Behind G) (delay_with_deadline p name s until offset)
  unfolding delay_with_deadline
  delay_with_deadline-keeps name s until offset may =
      search (goes-keeps, then-keeps, changes-keeps, edit_task-alters, says_deadline-keeps, delay_to-keeps, chains) depth 7

  pub delay_and_set_deadline-keeps : (name : Who) (s : StatementNo) (until offset : ExprNo) → May name
      → Keeps G (Behind G) (delay_and_set_deadline p name s until offset)
  unfolding delay_and_set_deadline
  delay_and_set_deadline-keeps name s until offset may =
      search (sees-keeps, raise_if-keeps, given-keeps, delay_with_deadline-keeps, chains, plain_steps) depth 8
