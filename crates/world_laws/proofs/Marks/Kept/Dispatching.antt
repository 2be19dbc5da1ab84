-- Placing and blocking: each step keeps a relation that its parts keep.
use Rattle.trace_text.specs.declared.events.QueueEnd.TheVariants.{Tail}
use Rattle.profile_machine.specs.declared.world.World.{World}
use Rattle.std.specs.Prelude.{ℕ, Bool, true, cond, ◌&&◌, eqb, slice_index_or}
use Rattle.profile_machine.specs.declared.world.lines.Line.TheVariants as line
use Rattle.trace_text.specs.declared.events.Who.{Who}
use Rattle.trace_text.specs.declared.events.QueueEnd.{QueueEnd}
use Rattle.profile_image.specs.declared.image.Image.{Image}
use Rattle.profile_machine.specs.declared.world.tasks.Task.{Task}
use Rattle.profile_machine.specs.declared.world.tasks.Waiting.{Waiting}
use Rattle.profile_machine.specs.declared.world.tasks.State.TheVariants.{Runnable, Blocked}
use Rattle.profile_image.specs.Program.{is_robin_level, edf_low}
use Rattle.profile_machine.specs.declared.world.lines.Part.{Part}
use Rattle.profile_machine.specs.Steps.{changes, says, ◌▷◌, Step}
use Rattle.profile_machine.specs.Tasks.{task_of, edit_task, with_state}
use Rattle.profile_machine.specs.Dispatching.{active, level_kept_by, keep_level, deadline_shown, says_ready, granted, grant_quantum}
use Rattle.profile_machine.specs.Dispatching.{to_tail, to_head, ready, word_of, says_block, block, without_kept_level}
use Rattle.std.proofs.Common.{◌≡◌, refl, Some, [], ◌∷◌, ◌++◌}
use Rattle.std.specs.Prelude.{false}
use Rattle.machine_laws.proofs.Moves.{StepRelation, MoveRelation}
use Rattle.world_laws.proofs.Marks.MarkFacts.{ends_call}
use Rattle.world_laws.proofs.Marks.FineMoves.{FineMoves, chains}
use Rattle.world_laws.proofs.Marks.Kept.Tasks.{edit_task-alters}
use Rattle.machine_laws.proofs.FineMoves.{GoodWorld, Naming, ready_line}
use Rattle.machine_laws.proofs.Kept.Dispatching.{full_quantum-frames, full_quantum-state, full_quantum-who}
use Rattle.line_laws.proofs.Leaving.FineMoves.{ready_world}
use Rattle.machine_laws.proofs.Kept.Combinators.{Alters, From, Keeps, Kept, changes-keeps, from-keeps}
use Rattle.machine_laws.proofs.Kept.Combinators.{looks_at-from, said-from, said-keeps, then-keeps, then-kept}

full_quantum-abnormal : (b : Bool) (n : ℕ) (t : Task) → (cond b (record t { quantum = n }) t).abnormal ≡ t.abnormal
full_quantum-abnormal true n t = refl
full_quantum-abnormal false n t = refl

module _ {G : GoodWorld} {May Other : Naming} {R : StepRelation} {Q : MoveRelation} (moves : FineMoves G May Other R Q) where
  pub keep_level-alters : (p : Image) (name : Who) → Alters G R (keep_level p name)
  unfolding Alters
  keep_level-alters p name w good =
      moves.edits_task name (λ t. record t { kept_level = level_kept_by p w t (edf_low p t.base) }) w good (λ t. refl) (λ t. refl) (λ t. refl) (λ t. refl)

  pub says_ready-keeps : (p : Image) (part : Part) (name : Who) (end : QueueEnd) → May name → Keeps G R (says_ready p part name end)
  unfolding says_ready
  says_ready-keeps p part name end may =
      from-keeps (chains moves) _
      (λ w good. looks_at-from (chains moves) (λ v. says part (line.Ready name (active p (task_of v name)) end (deadline_shown p (task_of v name)))) w
      (said-from (chains moves) part (line.Ready name (active p (task_of w name)) end (deadline_shown p (task_of w name))) w
      (moves.places p part name end w good may)))

  pub grant_quantum-alters : (p : Image) (name : Who) → Alters G R (grant_quantum p name)
  unfolding Alters
  grant_quantum-alters p name w good =
      moves.edits_task name (granted p w.quanta) w good
      (λ t. full_quantum-who (eqb (active p t) t.base && is_robin_level p t.base) (slice_index_or w.quanta t.base 0) t)
      (λ t. full_quantum-frames (eqb (active p t) t.base && is_robin_level p t.base) (slice_index_or w.quanta t.base 0) t)
      (λ t. full_quantum-state (eqb (active p t) t.base && is_robin_level p t.base) (slice_index_or w.quanta t.base 0) t)
      (λ t. full_quantum-abnormal (eqb (active p t) t.base && is_robin_level p t.base) (slice_index_or w.quanta t.base 0) t)

  pub to_tail-keeps : (p : Image) (part : Part) (name : Who) → May name → Keeps G R (to_tail p part name)
  unfolding to_tail
  to_tail-keeps p part name may = search (changes-keeps, grant_quantum-alters, then-keeps, says_ready-keeps, chains)

  pub to_head-keeps : (p : Image) (part : Part) (name : Who) → May name → Keeps G R (to_head p part name)
  unfolding to_head
  to_head-keeps p part name may = search (says_ready-keeps)

  -- ---- others become ready, and block

  with_runnable-alters : (name : Who) → Other name → Alters G R (edit_task name (with_state Runnable))
  unfolding Alters
  with_runnable-alters name other w good = moves.readies name w good other

  pub runnable-keeps : (name : Who) → Other name → Keeps G R (changes (edit_task name (with_state Runnable)))
  runnable-keeps name other = changes-keeps (chains moves) (edit_task name (with_state Runnable)) (with_runnable-alters name other)

  with_blocked-alters : (name : Who) (waiting : Waiting) → Other name → ends_call (Some waiting) ≡ false
      → Alters G R (edit_task name (with_state (Blocked waiting)))
  unfolding Alters
  with_blocked-alters name waiting other no_end w good = moves.blocks name waiting w good other no_end

  pub blocked-keeps : (name : Who) (waiting : Waiting) → Other name → ends_call (Some waiting) ≡ false
      → Keeps G R (changes (edit_task name (with_state (Blocked waiting))))
  blocked-keeps name waiting other no_end =
      changes-keeps (chains moves) (edit_task name (with_state (Blocked waiting))) (with_blocked-alters name waiting other no_end)

  pub ready-keeps : (p : Image) (part : Part) (name : Who) → Other name → Keeps G R (ready p part name)
  unfolding ready
  ready-keeps p part name other =
      then-keeps (chains moves) (changes (edit_task name (with_state Runnable))) (changes (keep_level p name) ▷ to_tail p part name) (runnable-keeps name other)
      (search (changes-keeps, then-keeps, keep_level-alters, to_tail-keeps, moves.other_may, chains))

  -- who has become ready, and what is done then
  pub ready-told : (p : Image) (part : Part) (name : Who) (w : World) → G w → Other name
      → R w (ready_line p part name Tail (ready_world p name w) ∷ []) (ready_world p name w)
  unfolding Alters
  ready-told p part name w good other =
      let runnable = edit_task name (with_state Runnable) w in
      let kept = keep_level p name runnable in
      let granted_world = grant_quantum p name kept in
      let first = moves.readies name w good other in
      let second = keep_level-alters p name runnable (moves.behind w runnable first) in
      let third = grant_quantum-alters p name kept (moves.behind runnable kept second) in
      let placed = moves.places p part name Tail granted_world (moves.behind kept granted_world third) (moves.other_may name other) in
      moves.goes_on w runnable granted_world {xs = []} {ys = ready_line p part name Tail granted_world ∷ []} first
      (moves.goes_on runnable kept granted_world {xs = []} {ys = ready_line p part name Tail granted_world ∷ []} second
      (moves.goes_on kept granted_world granted_world {xs = []} {ys = ready_line p part name Tail granted_world ∷ []} third placed))

  pub ready_then-from : (p : Image) (part : Part) (name : Who) (g : Step) (w : World) → G w → Other name
      → (G (ready_world p name w) → From R (ready_world p name w) g) → From R w (ready p part name ▷ g)
  unfolding ready to_tail says_ready From Kept
  ready_then-from p part name g w good other next said =
      let v = ready_world p name w in
      let line = ready_line p part name Tail v in
      let told = ready-told p part name w good other in
      then-kept (chains moves) w v said (said ++ line ∷ []) (g v (said ++ line ∷ [])) (line ∷ [], refl, told) (next (moves.behind w v told) (said ++ line ∷ []))

  pub says_block-keeps : (part : Part) (name : Who) (waiting : Waiting) → Other name → Keeps G R (says_block part name waiting)
  unfolding says_block
  says_block-keeps part name waiting other =
      then-keeps (chains moves) (changes (edit_task name without_kept_level)) (says part (line.Block name (word_of waiting)))
      (search (changes-keeps, edit_task-alters, chains))
      (said-keeps (chains moves) part (line.Block name (word_of waiting)) (λ w good. moves.says_blocked part name waiting w good other))

  pub block-keeps : (part : Part) (name : Who) (waiting : Waiting) → Other name → ends_call (Some waiting) ≡ false → Keeps G R (block part name waiting)
  unfolding block
  block-keeps part name waiting other no_end =
      then-keeps (chains moves) (changes (edit_task name (with_state (Blocked waiting)))) (says_block part name waiting)
      (blocked-keeps name waiting other no_end) (says_block-keeps part name waiting other)
