-- Base priorities and deadlines that are set: each step leaves worlds good where its parts do.
use Rattle.std.specs.Prelude.{ℕ, ℤ, ◌&&◌, Option, Some, None, ◌||◌}
use Rattle.ann_base.specs.declared.exceptions.Raised.TheVariants as exception
use Rattle.trace_text.specs.declared.events.Who.{Who}
use Rattle.trace_text.specs.declared.events.Who.TheVariants as who
use Rattle.profile_image.specs.declared.image.Image.{Image}
use Rattle.profile_image.specs.declared.image.Queuing.{Queuing}
use Rattle.profile_image.specs.declared.image.Queuing.TheVariants as queuing
use Rattle.profile_image.specs.declared.numbers.ExprNo.{ExprNo}
use Rattle.profile_image.specs.declared.numbers.StatementNo.{StatementNo}
use Rattle.profile_machine.specs.declared.world.calls.Call.{Call}
use Rattle.profile_machine.specs.declared.world.tasks.State.{State}
use Rattle.profile_machine.specs.declared.world.tasks.Waiting.{Waiting}
use Rattle.profile_machine.specs.declared.world.tasks.State.TheVariants.{Made, Runnable, Blocked}
use Rattle.profile_machine.specs.declared.world.tasks.Task as world
use Rattle.profile_image.specs.Words.{edit_at}
use Rattle.profile_image.specs.Program.{next_of, has_edf}
use Rattle.profile_machine.specs.declared.world.lines.Part.{Part}
use Rattle.profile_machine.specs.declared.world.lines.Part.TheVariants.{Own}
use Rattle.profile_machine.specs.Steps.{changes}
use Rattle.profile_machine.specs.Frames.{goes, in_protected}
use Rattle.profile_machine.specs.Values.{value, moment, whole_in, seen_by}
use Rattle.profile_machine.specs.Calls.{place_of_entry, take_call, put_call}
use Rattle.profile_machine.specs.Masters.{part_of}
use Rattle.profile_machine.specs.Priorities.{placed_anew, reprioritize, reprioritize_own, replace_in, says_base, set_base, says_deadline}
use Rattle.profile_machine.specs.Priorities.{set_deadline, take_base, take_deadline, set_deferred, placing_of, defer_base, set_or_defer_base}
use Rattle.profile_machine.specs.Priorities.{set_base_of, priority_in_range, set_priority, quantum_of, set_quantum, defer_deadline}
use Rattle.profile_machine.specs.Priorities.{set_or_defer_deadline, set_deadline_of, delay_with_deadline, delay_and_set_deadline, is_edf_base}
use Rattle.world_laws.proofs.Actions.FineMoves.{FineMoves, chains, says-keeps}
use Rattle.world_laws.proofs.Actions.Sound.{Good}
use Rattle.world_laws.proofs.Actions.GoodMoves.{good_moves, free-by_test}
use Rattle.world_laws.proofs.Actions.Kept.Switching.{Only, only-from}
use Rattle.world_laws.proofs.Actions.Kept.Tasks.{edit_task-alters}
use Rattle.world_laws.proofs.Actions.Kept.Dispatching.{to_tail-keeps}
use Rattle.world_laws.proofs.Actions.Kept.Frames.{goes-keeps, plain_steps}
use Rattle.world_laws.proofs.Actions.Kept.Statements.{delay_to-keeps}
use Rattle.std.proofs.Common.{refl}
use Rattle.machine_laws.proofs.FineMoves.{GoodWorld, Naming}
use Rattle.line_laws.proofs.Leaving.Modes.{Nobody}
use Rattle.machine_laws.proofs.Kept.Combinators.{Alters, Keeps, branch-keeps, changes-keeps, for_some-keeps, looks-from}
use Rattle.machine_laws.proofs.Kept.Combinators.{looks-keeps, nothing-keeps, sees-keeps, then-keeps, when-keeps}
use Rattle.world_laws.proofs.Behind.{Behind}
use Rattle.machine_laws.proofs.Plain.Frames.{given-keeps, raise_if-keeps, raise_if-from}
use Rattle.machine_laws.proofs.Plain.Calls.{edit_call-alters, with_call-keeps, edit_queue-alters}

module _ {G : GoodWorld} {F : Naming} (moves : FineMoves G F) where
  pub placed_anew-alters : (queuing : Queuing) (p : Image) (c : Call) (level : ℕ) → Alters G (Behind G) (placed_anew queuing p c level)
  unfolding Alters
  placed_anew-alters queuing.Fifo p c level w good = good
  placed_anew-alters queuing.Priority p c level w good =
      edit_queue-alters (plain_steps moves) c.owner (place_of_entry p c.entry) (λ q. put_call queuing.Priority w c.number level (take_call c.number q)) w good

  pub reprioritize-keeps : (p : Image) (level : ℕ) (c : Call) → Keeps G (Behind G) (reprioritize p level c)
  unfolding reprioritize
  reprioritize-keeps p level c = search (when-keeps, changes-keeps, edit_call-alters, then-keeps, placed_anew-alters, chains, plain_steps) depth 8

  pub reprioritize_own-keeps : (p : Image) (name : Who) (waiting : Waiting) → Keeps G (Behind G) (reprioritize_own p name waiting)
  unfolding reprioritize_own
  reprioritize_own-keeps p name waiting = search (looks-keeps, for_some-keeps, with_call-keeps, reprioritize-keeps, chains, plain_steps)

  pub replace_in-keeps : (p : Image) (part : Part) (name : Who) (state : State) → Keeps G (Behind G) (replace_in p part name state)
  unfolding replace_in
  replace_in-keeps p part name Made = search (nothing-keeps, chains)
  replace_in-keeps p part name Runnable = search (to_tail-keeps)
  replace_in-keeps p part name (Blocked waiting) = search (reprioritize_own-keeps)

  pub says_base-keeps : (part : Part) (name : Who) (level : ℕ) → Keeps G (Behind G) (says_base part name level)
  unfolding says_base
  says_base-keeps part (who.Task t) level = search (says-keeps)
  says_base-keeps part who.Agent level = search (nothing-keeps, chains)

  pub set_base-keeps : (p : Image) (part placing : Part) (name : Who) (level : ℕ) → Keeps G (Behind G) (set_base p part placing name level)
  unfolding set_base
  set_base-keeps p part placing name level =
      search (changes-keeps, edit_task-alters, then-keeps, says_base-keeps, looks-keeps, replace_in-keeps, chains) depth 7

  pub says_deadline-keeps : (part : Part) (name : Who) (d : ℤ) → Keeps G (Behind G) (says_deadline part name d)
  unfolding says_deadline
  says_deadline-keeps part (who.Task t) d = search (says-keeps)
  says_deadline-keeps part who.Agent d = search (nothing-keeps, chains)

  pub set_deadline-keeps : (p : Image) (part placing : Part) (name : Who) (d : ℤ) → Keeps G (Behind G) (set_deadline p part placing name d)
  unfolding set_deadline
  set_deadline-keeps p part placing name d =
      search (changes-keeps, edit_task-alters, then-keeps, says_deadline-keeps, looks-keeps, when-keeps, to_tail-keeps, chains) depth 8

  pub take_base-keeps : (p : Image) (name : Who) (n : Option ℕ) → Keeps G (Behind G) (take_base p name n)
  unfolding take_base
  take_base-keeps p name None = search (nothing-keeps, chains)
  take_base-keeps p name (Some level) = search (changes-keeps, edit_task-alters, then-keeps, set_base-keeps, chains)

  pub take_deadline-keeps : (p : Image) (name : Who) (moment : Option ℤ) → Keeps G (Behind G) (take_deadline p name moment)
  unfolding take_deadline
  take_deadline-keeps p name None = search (nothing-keeps, chains)
  take_deadline-keeps p name (Some d) = search (changes-keeps, edit_task-alters, then-keeps, set_deadline-keeps, chains)

  pub set_deferred-keeps : (p : Image) (name : Who) → Keeps G (Behind G) (set_deferred p name)
  unfolding set_deferred
  set_deferred-keeps p name = search (looks-keeps, when-keeps, take_base-keeps, then-keeps, take_deadline-keeps, chains)

  pub defer_base-keeps : (name : Who) (level : ℕ) → Keeps G (Behind G) (defer_base name level)
  unfolding defer_base
  defer_base-keeps name level = search (changes-keeps, edit_task-alters, chains)

  pub set_or_defer_base-keeps : (p : Image) (actor name : Who) (level : ℕ) → Keeps G (Behind G) (set_or_defer_base p actor name level)
  unfolding set_or_defer_base
  set_or_defer_base-keeps p actor name level =
      looks-keeps (chains moves) _
      (λ w. branch-keeps (chains moves) (in_protected w name) (defer_base name level) (set_base p (part_of actor name) (placing_of actor name) name level)
      (search (defer_base-keeps)) (search (set_base-keeps)))

  pub set_base_of-keeps : (p : Image) (actor : Who) (s : StatementNo) (level : ℕ) (t : Option world.Task) → Keeps G (Behind G) (set_base_of p actor s level t)
  unfolding set_base_of
  set_base_of-keeps p actor s level None = search (goes-keeps)
  set_base_of-keeps p actor s level (Some t) =
      raise_if-keeps (plain_steps moves) actor (is_edf_base p t.base || is_edf_base p level) exception.Program _
      (then-keeps (chains moves) (goes actor (next_of p s)) _ (search (goes-keeps)) (set_or_defer_base-keeps p actor t.who level))

  pub set_priority-keeps : (p : Image) (name : Who) (s : StatementNo) (e : ExprNo) (task : Option ExprNo) → Keeps G (Behind G) (set_priority p name s e task)
  unfolding set_priority
  set_priority-keeps p name s e task = search (sees-keeps, given-keeps, set_base_of-keeps, chains, plain_steps) depth 9

  set_level-keeps : (level ticks : ℕ) → Keeps G (Behind G) (changes (λ w. record w { quanta = edit_at level (λ _. ticks) w.quanta }))
  unfolding Alters
  set_level-keeps level ticks =
      changes-keeps (chains moves) (λ w. record w { quanta = edit_at level (λ _. ticks) w.quanta }) (λ w good. moves.sets_quantum level ticks w good)

  pub set_quantum-keeps : (p : Image) (name : Who) (s : StatementNo) (level quantum : ExprNo) → Keeps G (Behind G) (set_quantum p name s level quantum)
  unfolding set_quantum
  set_quantum-keeps p name s level quantum =
      sees-keeps (chains moves) p name _
      (λ q. given-keeps (plain_steps moves) Own name (value q level) _ (λ v. given-keeps (plain_steps moves) Own name (moment q quantum) _ (λ n.
      given-keeps (plain_steps moves) Own name (priority_in_range p.policies.last_priority (whole_in v)) _
      (λ l. given-keeps (plain_steps moves) Own name (quantum_of p l n) _ (λ ticks.
      then-keeps (chains moves) (goes name (next_of p s)) _ (goes-keeps moves name (next_of p s)) (set_level-keeps l ticks))))))

  pub defer_deadline-keeps : (name : Who) (d : ℤ) → Keeps G (Behind G) (defer_deadline name d)
  unfolding defer_deadline
  defer_deadline-keeps name d = search (changes-keeps, edit_task-alters, chains)

  pub set_or_defer_deadline-keeps : (p : Image) (actor name : Who) (d : ℤ) → Keeps G (Behind G) (set_or_defer_deadline p actor name d)
  unfolding set_or_defer_deadline
  set_or_defer_deadline-keeps p actor name d =
      looks-keeps (chains moves) _
      (λ w. branch-keeps (chains moves) (in_protected w name && has_edf p) (defer_deadline name d)
      (set_deadline p (part_of actor name) (placing_of actor name) name d) (search (defer_deadline-keeps)) (search (set_deadline-keeps)))

  pub set_deadline_of-keeps : (p : Image) (name : Who) (s : StatementNo) (e : ExprNo) (task : Option ExprNo)
      → Keeps G (Behind G) (set_deadline_of p name s e task)
  unfolding set_deadline_of
  set_deadline_of-keeps p name s e task = search (sees-keeps, given-keeps, goes-keeps, then-keeps, set_or_defer_deadline-keeps, chains, plain_steps) depth 10

  pub delay_with_deadline-keeps : (p : Image) (name : Who) (s : StatementNo) (until offset : ℤ) → F name
      → Keeps G (Behind G) (delay_with_deadline p name s until offset)
  unfolding delay_with_deadline
  delay_with_deadline-keeps p name s until offset free =
      search (goes-keeps, then-keeps, changes-keeps, edit_task-alters, says_deadline-keeps, delay_to-keeps, chains) depth 7

-- it is a delay
pub delay_and_set_deadline-keeps : (p : Image) (name : Who) (s : StatementNo) (until offset : ExprNo)
    → Keeps (Good Nobody) (Behind (Good Nobody)) (delay_and_set_deadline p name s until offset)
unfolding delay_and_set_deadline
delay_and_set_deadline-keeps p name s until offset =
    let outside = good_moves (Only name) in
    looks-from (chains (good_moves Nobody)) _ (λ w good. let q = seen_by p w name in
    raise_if-from (plain_steps (good_moves Nobody)) name (in_protected w name) exception.Program _ w good (λ e.
    only-from name _ w (free-by_test name w e) good
    (given-keeps (plain_steps outside) Own name (moment q until) _
    (λ m. given-keeps (plain_steps outside) Own name (moment q offset) _ (λ o. delay_with_deadline-keeps outside p name s m o refl)))))
