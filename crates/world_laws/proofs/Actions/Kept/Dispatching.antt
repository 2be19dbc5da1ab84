-- Placing and blocking: each step leaves worlds good where its parts do.
use Rattle.std.specs.Prelude.{ℕ, Bool, true, cond, ◌&&◌, eqb, slice_index_or, false}
use Rattle.profile_machine.specs.declared.world.lines.Line.TheVariants as line
use Rattle.trace_text.specs.declared.events.Who.{Who}
use Rattle.trace_text.specs.declared.events.QueueEnd.{QueueEnd}
use Rattle.profile_image.specs.declared.image.Image.{Image}
use Rattle.profile_machine.specs.declared.world.tasks.Task.{Task}
use Rattle.profile_machine.specs.declared.world.tasks.Waiting.{Waiting}
use Rattle.profile_machine.specs.declared.world.tasks.State.TheVariants.{Runnable, Blocked}
use Rattle.profile_image.specs.Program.{is_robin_level, edf_low}
use Rattle.profile_machine.specs.declared.world.lines.Part.{Part}
use Rattle.profile_machine.specs.Steps.{changes, says, ◌▷◌}
use Rattle.profile_machine.specs.Tasks.{task_of, edit_task, with_state}
use Rattle.profile_machine.specs.Dispatching.{active, level_kept_by, keep_level, deadline_shown, says_ready, granted, grant_quantum}
use Rattle.profile_machine.specs.Dispatching.{to_tail, to_head, ready, word_of, says_block, block, without_kept_level}
use Rattle.std.proofs.Common.{◌≡◌, refl}
use Rattle.world_laws.proofs.Actions.FineMoves.{FineMoves, chains, says-keeps}
use Rattle.world_laws.proofs.Actions.Kept.Tasks.{edit_task-alters}
use Rattle.machine_laws.proofs.Kept.Dispatching.{full_quantum-frames, full_quantum-master, full_quantum-state, full_quantum-who}
use Rattle.machine_laws.proofs.FineMoves.{GoodWorld, Naming}
use Rattle.machine_laws.proofs.Kept.Combinators.{Alters, Keeps, changes-keeps, looks-keeps, then-keeps}
use Rattle.world_laws.proofs.Behind.{Behind}

full_quantum-inherited : (b : Bool) (n : ℕ) (t : Task) → (cond b (record t { quantum = n }) t).inherited ≡ t.inherited
full_quantum-inherited true n t = refl
full_quantum-inherited false n t = refl

module _ {G : GoodWorld} {F : Naming} (moves : FineMoves G F) where
  pub keep_level-alters : (p : Image) (name : Who) → Alters G (Behind G) (keep_level p name)
  unfolding Alters
  keep_level-alters p name w good =
      moves.edits_task name (λ t. record t { kept_level = level_kept_by p w t (edf_low p t.base) }) w good (λ t. refl) (λ t. refl) (λ t. refl) (λ t. refl)
      (λ t. refl)

  pub says_ready-keeps : (p : Image) (part : Part) (name : Who) (end : QueueEnd) → Keeps G (Behind G) (says_ready p part name end)
  unfolding says_ready
  says_ready-keeps p part name end =
      looks-keeps (chains moves) _ (λ w. says-keeps moves part (line.Ready name (active p (task_of w name)) end (deadline_shown p (task_of w name))))

  pub grant_quantum-alters : (p : Image) (name : Who) → Alters G (Behind G) (grant_quantum p name)
  unfolding Alters
  grant_quantum-alters p name w good =
      moves.edits_task name (granted p w.quanta) w good
      (λ t. full_quantum-who (eqb (active p t) t.base && is_robin_level p t.base) (slice_index_or w.quanta t.base 0) t)
      (λ t. full_quantum-frames (eqb (active p t) t.base && is_robin_level p t.base) (slice_index_or w.quanta t.base 0) t)
      (λ t. full_quantum-state (eqb (active p t) t.base && is_robin_level p t.base) (slice_index_or w.quanta t.base 0) t)
      (λ t. full_quantum-master (eqb (active p t) t.base && is_robin_level p t.base) (slice_index_or w.quanta t.base 0) t)
      (λ t. full_quantum-inherited (eqb (active p t) t.base && is_robin_level p t.base) (slice_index_or w.quanta t.base 0) t)

  pub to_tail-keeps : (p : Image) (part : Part) (name : Who) → Keeps G (Behind G) (to_tail p part name)
  unfolding to_tail
  to_tail-keeps p part name = search (changes-keeps, grant_quantum-alters, then-keeps, says_ready-keeps, chains)

  pub to_head-keeps : (p : Image) (part : Part) (name : Who) → Keeps G (Behind G) (to_head p part name)
  unfolding to_head
  to_head-keeps p part name = search (says_ready-keeps)

  -- ---- others become ready, and block

  with_runnable-alters : (name : Who) → Alters G (Behind G) (edit_task name (with_state Runnable))
  unfolding Alters
  with_runnable-alters name w good = moves.readies name w good

  pub runnable-keeps : (name : Who) → Keeps G (Behind G) (changes (edit_task name (with_state Runnable)))
  runnable-keeps name = changes-keeps (chains moves) (edit_task name (with_state Runnable)) (with_runnable-alters name)

  with_blocked-alters : (name : Who) (waiting : Waiting) → F name → Alters G (Behind G) (edit_task name (with_state (Blocked waiting)))
  unfolding Alters
  with_blocked-alters name waiting free w good = moves.blocks name waiting w good free

  pub blocked-keeps : (name : Who) (waiting : Waiting) → F name → Keeps G (Behind G) (changes (edit_task name (with_state (Blocked waiting))))
  blocked-keeps name waiting free = changes-keeps (chains moves) (edit_task name (with_state (Blocked waiting))) (with_blocked-alters name waiting free)

  pub ready-keeps : (p : Image) (part : Part) (name : Who) → Keeps G (Behind G) (ready p part name)
  unfolding ready
  ready-keeps p part name =
      then-keeps (chains moves) (changes (edit_task name (with_state Runnable))) (changes (keep_level p name) ▷ to_tail p part name) (runnable-keeps name)
      (search (changes-keeps, then-keeps, keep_level-alters, to_tail-keeps, chains))

  pub says_block-keeps : (part : Part) (name : Who) (waiting : Waiting) → Keeps G (Behind G) (says_block part name waiting)
  unfolding says_block
  says_block-keeps part name waiting =
      then-keeps (chains moves) (changes (edit_task name without_kept_level)) (says part (line.Block name (word_of waiting)))
      (search (changes-keeps, edit_task-alters, chains))
      (says-keeps moves part (line.Block name (word_of waiting)))

  pub block-keeps : (part : Part) (name : Who) (waiting : Waiting) → F name → Keeps G (Behind G) (block part name waiting)
  unfolding block
  block-keeps part name waiting free =
      then-keeps (chains moves) (changes (edit_task name (with_state (Blocked waiting)))) (says_block part name waiting) (blocked-keeps name waiting free)
      (says_block-keeps part name waiting)
