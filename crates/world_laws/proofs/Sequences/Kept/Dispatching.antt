-- Placing and blocking: each step keeps a relation that its parts keep.
use Rattle.profile_machine.specs.declared.world.World.{World}
use Rattle.std.specs.Prelude.{ℕ, Bool, true, cond, ◌&&◌, eqb, slice_index_or}
use Rattle.profile_machine.specs.declared.world.lines.Line.TheVariants as line
use Rattle.trace_text.specs.declared.events.Who.{Who}
use Rattle.trace_text.specs.declared.events.QueueEnd.{QueueEnd}
use Rattle.profile_image.specs.declared.image.Image.{Image}
use Rattle.profile_machine.specs.declared.world.tasks.Task.{Task}
use Rattle.profile_machine.specs.declared.world.tasks.Waiting.{Waiting}
use Rattle.profile_machine.specs.declared.world.tasks.State.TheVariants.{Runnable, Blocked}
use Rattle.profile_image.specs.Program.{is_robin_level, edf_low}
use Rattle.profile_machine.specs.declared.world.lines.Part.{Part}
use Rattle.profile_machine.specs.Steps.{changes, says, ◌▷◌}
use Rattle.profile_machine.specs.Tasks.{task_of, edit_task, with_state}
use Rattle.profile_machine.specs.Dispatching.{active, level_kept_by, keep_level, deadline_shown, says_ready, granted, grant_quantum}
use Rattle.profile_machine.specs.Dispatching.{to_tail, to_head, ready, word_of, says_block, block, without_kept_level}
use Rattle.std.proofs.Common.{◌≡◌, refl}
use Rattle.std.specs.Prelude.{false}
use Rattle.machine_laws.proofs.FineMoves.{GoodWorld, Naming}
use Rattle.world_laws.proofs.Sequences.FineMoves.{FineMoves, Openings, is_for_dependents, chains}
use Rattle.world_laws.proofs.Behind.{Behind}
use Rattle.world_laws.proofs.Sequences.Kept.Tasks.{edit_task-alters}
use Rattle.machine_laws.proofs.Kept.Dispatching.{full_quantum-frames, full_quantum-state, full_quantum-who}
use Rattle.machine_laws.proofs.Kept.Combinators.{Alters, From, Keeps, changes-keeps, changes_then-from, from-keeps}
use Rattle.machine_laws.proofs.Kept.Combinators.{keeps-from, looks_at-from, said-from, said-keeps, then-keeps}

full_quantum-unit : (b : Bool) (n : ℕ) (t : Task) → (cond b (record t { quantum = n }) t).unit ≡ t.unit
full_quantum-unit true n t = refl
full_quantum-unit false n t = refl

module _ {p : Image} {G : GoodWorld} {May Other : Naming} (moves : FineMoves p G May Other) where
  pub keep_level-alters : (name : Who) → Alters G (Behind G) (keep_level p name)
  unfolding Alters
  keep_level-alters name w good =
      moves.edits_task name (λ t. record t { kept_level = level_kept_by p w t (edf_low p t.base) }) w good (λ t. refl) (λ t. refl) (λ t. refl) (λ t. refl)

  pub says_ready-keeps : (part : Part) (name : Who) (end : QueueEnd) → Keeps G (Behind G) (says_ready p part name end)
  unfolding says_ready
  says_ready-keeps part name end =
      from-keeps (chains moves) _
      (λ w good. looks_at-from (chains moves) (λ v. says part (line.Ready name (active p (task_of v name)) end (deadline_shown p (task_of v name)))) w
      (said-from (chains moves) part (line.Ready name (active p (task_of w name)) end (deadline_shown p (task_of w name))) w
      (moves.places part name end w good)))

  pub grant_quantum-alters : (name : Who) → Alters G (Behind G) (grant_quantum p name)
  unfolding Alters
  grant_quantum-alters name w good =
      moves.edits_task name (granted p w.quanta) w good
      (λ t. full_quantum-who (eqb (active p t) t.base && is_robin_level p t.base) (slice_index_or w.quanta t.base 0) t)
      (λ t. full_quantum-frames (eqb (active p t) t.base && is_robin_level p t.base) (slice_index_or w.quanta t.base 0) t)
      (λ t. full_quantum-state (eqb (active p t) t.base && is_robin_level p t.base) (slice_index_or w.quanta t.base 0) t)
      (λ t. full_quantum-unit (eqb (active p t) t.base && is_robin_level p t.base) (slice_index_or w.quanta t.base 0) t)

  pub to_tail-keeps : (part : Part) (name : Who) → Keeps G (Behind G) (to_tail p part name)
  unfolding to_tail
  to_tail-keeps part name = search (changes-keeps, grant_quantum-alters, then-keeps, says_ready-keeps, chains)

  pub to_head-keeps : (part : Part) (name : Who) → Keeps G (Behind G) (to_head p part name)
  unfolding to_head
  to_head-keeps part name = search (says_ready-keeps)

  -- ---- others become ready, and block

  with_runnable-alters : (name : Who) → May name → Alters G (Behind G) (edit_task name (with_state Runnable))
  unfolding Alters
  with_runnable-alters name may w good = moves.readies name w good may

  pub runnable-keeps : (name : Who) → May name → Keeps G (Behind G) (changes (edit_task name (with_state Runnable)))
  runnable-keeps name may = changes-keeps (chains moves) (edit_task name (with_state Runnable)) (with_runnable-alters name may)

  placed-keeps : (part : Part) (name : Who) → Keeps G (Behind G) (changes (keep_level p name) ▷ to_tail p part name)
  placed-keeps part name =
      then-keeps (chains moves) (changes (keep_level p name)) (to_tail p part name) (changes-keeps (chains moves) (keep_level p name) (keep_level-alters name))
      (to_tail-keeps part name)

  pub ready-keeps : (part : Part) (name : Who) → May name → Keeps G (Behind G) (ready p part name)
  unfolding ready
  ready-keeps part name may =
      then-keeps (chains moves) (changes (edit_task name (with_state Runnable))) (changes (keep_level p name) ▷ to_tail p part name) (runnable-keeps name may)
      (placed-keeps part name)

  pub ready-from : (part : Part) (name : Who) (w : World) → G (edit_task name (with_state Runnable) w) → From (Behind G) w (ready p part name)
  unfolding ready
  ready-from part name w good =
      changes_then-from (chains moves) (edit_task name (with_state Runnable)) _ w good
      (keeps-from (chains moves) _ (edit_task name (with_state Runnable) w) good (placed-keeps part name))

  pub says_block-keeps : (part : Part) (name : Who) (waiting : Waiting) → Keeps G (Behind G) (says_block part name waiting)
  unfolding says_block
  says_block-keeps part name waiting =
      then-keeps (chains moves) (changes (edit_task name without_kept_level)) (says part (line.Block name (word_of waiting)))
      (search (changes-keeps, edit_task-alters, chains))
      (said-keeps (chains moves) part (line.Block name (word_of waiting)) (λ w good. moves.says_blocked part name waiting w good))

module _ {p : Image} {G : GoodWorld} {May Other : Naming} (moves : FineMoves p G May Other) (openings : Openings p G May Other) where
  with_blocked-alters : (name : Who) (waiting : Waiting) → Other name → is_for_dependents waiting ≡ false
      → Alters G (Behind G) (edit_task name (with_state (Blocked waiting)))
  unfolding Alters
  with_blocked-alters name waiting other apart w good = openings.blocks name waiting w good other apart

  pub blocked-keeps : (name : Who) (waiting : Waiting) → Other name → is_for_dependents waiting ≡ false
      → Keeps G (Behind G) (changes (edit_task name (with_state (Blocked waiting))))
  blocked-keeps name waiting other apart =
      changes-keeps (chains moves) (edit_task name (with_state (Blocked waiting))) (with_blocked-alters name waiting other apart)

  pub block-keeps : (part : Part) (name : Who) (waiting : Waiting) → Other name → is_for_dependents waiting ≡ false
      → Keeps G (Behind G) (block part name waiting)
  unfolding block
  block-keeps part name waiting other apart =
      then-keeps (chains moves) (changes (edit_task name (with_state (Blocked waiting)))) (says_block part name waiting)
      (blocked-keeps name waiting other apart) (says_block-keeps moves part name waiting)
