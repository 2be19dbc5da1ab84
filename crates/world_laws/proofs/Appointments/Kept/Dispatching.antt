-- Placing and blocking: each step keeps a relation that its parts keep.
use Rattle.std.proofs.Common.{refl}
use Rattle.std.specs.Prelude.{◌&&◌, eqb, slice_index_or}
use Rattle.trace_text.specs.declared.events.QueueEnd.{QueueEnd}
use Rattle.trace_text.specs.declared.events.QueueEnd.TheVariants.{Head, Tail}
use Rattle.trace_text.specs.declared.events.Who.{Who}
use Rattle.profile_image.specs.declared.image.Image.{Image}
use Rattle.profile_machine.specs.declared.world.World.{World}
use Rattle.profile_machine.specs.declared.world.lines.Line.TheVariants as line
use Rattle.profile_machine.specs.declared.world.lines.Part.{Part}
use Rattle.profile_machine.specs.declared.world.tasks.State.TheVariants.{Runnable, Blocked}
use Rattle.profile_machine.specs.declared.world.tasks.Waiting.{Waiting}
use Rattle.profile_machine.specs.Dispatching.{active, level_kept_by, keep_level, deadline_shown, says_ready, granted, grant_quantum}
use Rattle.profile_machine.specs.Dispatching.{to_tail, to_head, ready, word_of, says_block, block, without_kept_level}
use Rattle.profile_image.specs.Program.{is_robin_level, edf_low}
use Rattle.profile_machine.specs.Steps.{Step, changes, says, ◌▷◌}
use Rattle.profile_machine.specs.Tasks.{task_of, edit_task, with_state}
use Rattle.machine_laws.proofs.Moves.{StepRelation, MoveRelation}
use Rattle.world_laws.proofs.Appointments.Delays.{Idle}
use Rattle.world_laws.proofs.Appointments.FineMoves.{FineMoves, chains}
use Rattle.world_laws.proofs.Appointments.Kept.Tasks.{edit_task-alters}
use Rattle.machine_laws.proofs.Kept.Dispatching.{full_quantum-frames, full_quantum-state, full_quantum-who}
use Rattle.machine_laws.proofs.FineMoves.{GoodWorld, Naming}
use Rattle.machine_laws.proofs.Kept.Combinators.{Alters, From, Keeps, after-from, changes-keeps, changes_then-from}
use Rattle.machine_laws.proofs.Kept.Combinators.{from-keeps, keeps-from, looks_at-from, said-from, said-keeps, then-keeps}

module _ {G : GoodWorld} {May : Naming} {R : StepRelation} {Q : MoveRelation} (moves : FineMoves G May R Q) where
  pub keep_level-alters : (p : Image) (name : Who) → Alters G R (keep_level p name)
  unfolding Alters
  keep_level-alters p name w good =
      moves.edits_task name (λ t. record t { kept_level = level_kept_by p w t (edf_low p t.base) }) w good (λ t. refl) (λ t. refl) (λ t. refl)

  pub grant_quantum-alters : (p : Image) (name : Who) → Alters G R (grant_quantum p name)
  unfolding Alters
  grant_quantum-alters p name w good =
      moves.edits_task name (granted p w.quanta) w good
      (λ t. full_quantum-who (eqb (active p t) t.base && is_robin_level p t.base) (slice_index_or w.quanta t.base 0) t)
      (λ t. full_quantum-frames (eqb (active p t) t.base && is_robin_level p t.base) (slice_index_or w.quanta t.base 0) t)
      (λ t. full_quantum-state (eqb (active p t) t.base && is_robin_level p t.base) (slice_index_or w.quanta t.base 0) t)

  -- ---- for whom no end of a delay is appointed

  pub says_ready-from : (p : Image) (part : Part) (name : Who) (end : QueueEnd) (w : World) → G w → Idle name w → From R w (says_ready p part name end)
  unfolding says_ready
  says_ready-from p part name end w good idle =
      looks_at-from (chains moves) (λ v. says part (line.Ready name (active p (task_of v name)) end (deadline_shown p (task_of v name)))) w
      (said-from (chains moves) part (line.Ready name (active p (task_of w name)) end (deadline_shown p (task_of w name))) w
      (moves.places p part name end w good idle))

  pub to_tail-from : (p : Image) (part : Part) (name : Who) (w : World) → G w → Idle name w → From R w (to_tail p part name)
  unfolding to_tail Alters
  to_tail-from p part name w good idle =
      let first = grant_quantum-alters p name w good in
      let v = grant_quantum p name w in
      changes_then-from (chains moves) (grant_quantum p name) _ w first
      (says_ready-from p part name Tail v (moves.behind w v first) (moves.idle_on name w v first idle))

  pub to_head-from : (p : Image) (part : Part) (name : Who) (w : World) → G w → Idle name w → From R w (to_head p part name)
  unfolding to_head
  to_head-from p part name w good idle = says_ready-from p part name Head w good idle

  pub ready-from : (p : Image) (part : Part) (name : Who) (w : World) → G w → Idle name w → From R w (ready p part name)
  unfolding ready Alters
  ready-from p part name w good idle =
      let woken = edit_task name (with_state Runnable) w in
      let first = moves.readies name w good idle in
      let kept = keep_level p name woken in
      let second = keep_level-alters p name woken (moves.behind w woken first) in
      changes_then-from (chains moves) (edit_task name (with_state Runnable)) _ w first
      (changes_then-from (chains moves) (keep_level p name) _ woken second
      (to_tail-from p part name kept (moves.behind woken kept second) (moves.idle_on name woken kept second (moves.idle_on name w woken first idle))))

  pub says_block-keeps : (part : Part) (name : Who) (waiting : Waiting) → Keeps G R (says_block part name waiting)
  unfolding says_block
  says_block-keeps part name waiting =
      then-keeps (chains moves) (changes (edit_task name without_kept_level)) (says part (line.Block name (word_of waiting)))
      (search (changes-keeps, edit_task-alters, chains))
      (said-keeps (chains moves) part (line.Block name (word_of waiting)) (λ w good. moves.says_blocked part name waiting w good))

  pub block-from : (part : Part) (name : Who) (waiting : Waiting) (w : World) → G w → Idle name w → From R w (block part name waiting)
  unfolding block
  block-from part name waiting w good idle =
      let first = moves.blocks name waiting w good idle in
      let v = edit_task name (with_state (Blocked waiting)) w in
      changes_then-from (chains moves) (edit_task name (with_state (Blocked waiting))) _ w first
      (keeps-from (chains moves) _ v (moves.behind w v first) (says_block-keeps part name waiting))

  -- a step, and another behind it of somebody for whom no delay is appointed still
  pub idle_then-from : (name : Who) (f g : Step) (w : World) → G w → Idle name w → Keeps G R f → ((v : World) → G v → Idle name v → From R v g)
      → From R w (f ▷ g)
  idle_then-from name f g w good idle kept k =
      after-from (chains moves) f g w (keeps-from (chains moves) f w good kept) (λ v xs m. k v (moves.behind w v m) (moves.idle_on name w v m idle))

  -- ---- who acts

  pub to_tail-keeps : (p : Image) (part : Part) (name : Who) → May name → Keeps G R (to_tail p part name)
  to_tail-keeps p part name may = from-keeps (chains moves) _ (λ w good. to_tail-from p part name w good (moves.idle name w good may))

  pub to_head-keeps : (p : Image) (part : Part) (name : Who) → May name → Keeps G R (to_head p part name)
  to_head-keeps p part name may = from-keeps (chains moves) _ (λ w good. to_head-from p part name w good (moves.idle name w good may))

  pub block-keeps : (part : Part) (name : Who) (waiting : Waiting) → May name → Keeps G R (block part name waiting)
  block-keeps part name waiting may = from-keeps (chains moves) _ (λ w good. block-from part name waiting w good (moves.idle name w good may))
