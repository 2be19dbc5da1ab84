-- Placing and blocking: each step keeps a relation that its parts keep.
use Rattle.std.specs.Prelude.{ℕ, ◌&&◌, eqb, slice_index_or}
use Rattle.profile_machine.specs.declared.world.lines.Line.TheVariants as line
use Rattle.trace_text.specs.declared.events.Who.{Who}
use Rattle.trace_text.specs.declared.events.QueueEnd.{QueueEnd}
use Rattle.trace_text.specs.declared.events.QueueEnd.TheVariants.{Tail}
use Rattle.profile_image.specs.declared.image.Image.{Image}
use Rattle.profile_machine.specs.declared.world.World.{World}
use Rattle.profile_machine.specs.declared.world.tasks.Task.{Task}
use Rattle.profile_machine.specs.declared.world.tasks.Waiting.{Waiting}
use Rattle.profile_machine.specs.declared.world.tasks.State.TheVariants.{Runnable}
use Rattle.profile_image.specs.Program.{is_robin_level, edf_low}
use Rattle.profile_machine.specs.declared.world.lines.Part.{Part}
use Rattle.profile_machine.specs.declared.world.lines.Part.TheVariants.{ThePlacing, TheBlock}
use Rattle.profile_machine.specs.Steps.{Step, changes, says, ◌▷◌}
use Rattle.profile_machine.specs.Tasks.{task_of, edit_task, with_state}
use Rattle.profile_machine.specs.Dispatching.{active, level_kept_by, keep_level, deadline_shown, says_ready}
use Rattle.profile_machine.specs.Dispatching.{granted, grant_quantum, to_tail, to_head, ready, says_block, block}
use Rattle.std.proofs.Common.{◌≡◌, List, [], ◌∷◌, ◌++◌, Some, refl}
use Rattle.std.specs.Prelude.{false}
use Rattle.machine_laws.proofs.Moves.{StepRelation, MoveRelation}
use Rattle.line_laws.proofs.Leaving.FineMoves.{FineMoves, Awake, waits, ready_world, block_line, blocked_world, chains}
use Rattle.line_laws.proofs.Leaving.TaskLemmas.{awake-edited, awake-own}
use Rattle.machine_laws.proofs.FineMoves.{GoodWorld, Naming, ready_line}
use Rattle.machine_laws.proofs.Kept.Dispatching.{full_quantum-frames, full_quantum-state, full_quantum-who}
use Rattle.machine_laws.proofs.Kept.Combinators.{Alters, From, Keeps, Kept, changes-keeps, changes_then-from}
use Rattle.machine_laws.proofs.Kept.Combinators.{from-keeps, looks_at-from, said-from, then-keeps, then-kept}

pub granted-who : (p : Image) (quanta : List ℕ) (t : Task) → (granted p quanta t).who ≡ t.who
granted-who p quanta t = full_quantum-who (eqb (active p t) t.base && is_robin_level p t.base) (slice_index_or quanta t.base 0) t

pub granted-state : (p : Image) (quanta : List ℕ) (t : Task) → (granted p quanta t).state ≡ t.state
granted-state p quanta t = full_quantum-state (eqb (active p t) t.base && is_robin_level p t.base) (slice_index_or quanta t.base 0) t

-- who has become ready does not wait
pub ready-awake : (p : Image) (name : Who) (w : World) → Awake name (ready_world p name w)
ready-awake p name w =
    let woken = edit_task name (with_state Runnable) w in
    let first : Awake name woken = awake-own name (with_state Runnable) w (λ t. refl) (λ t. refl) in
    let kept = keep_level p name woken in
    let second : Awake name kept =
    awake-edited name name (λ t. record t { kept_level = level_kept_by p woken t (edf_low p t.base) }) woken (λ t. refl) (λ t. refl) first in
    awake-edited name name (granted p kept.quanta) kept (granted-who p kept.quanta) (granted-state p kept.quanta) second

module _ {G : GoodWorld} {May Acts Pushes : Naming} {Stops : Type 0} {R : StepRelation} {Q : MoveRelation} (moves : FineMoves G May Acts Pushes Stops R Q) where
  pub grant_quantum-alters : (p : Image) (name : Who) → Alters G R (grant_quantum p name)
  unfolding Alters
  grant_quantum-alters p name w good =
      moves.edits_task name (granted p w.quanta) w good
      (λ t. full_quantum-who (eqb (active p t) t.base && is_robin_level p t.base) (slice_index_or w.quanta t.base 0) t)
      (λ t. full_quantum-frames (eqb (active p t) t.base && is_robin_level p t.base) (slice_index_or w.quanta t.base 0) t)
      (λ t. full_quantum-state (eqb (active p t) t.base && is_robin_level p t.base) (slice_index_or w.quanta t.base 0) t)

  says_acting-keeps : (p : Image) (name : Who) (end : QueueEnd) → Acts name → Keeps G R (says_ready p ThePlacing name end)
  unfolding says_ready
  says_acting-keeps p name end acts =
      from-keeps (chains moves) _
      (λ w good. looks_at-from (chains moves) (λ v. says ThePlacing (line.Ready name (active p (task_of v name)) end (deadline_shown p (task_of v name)))) w
      (said-from (chains moves) ThePlacing (line.Ready name (active p (task_of w name)) end (deadline_shown p (task_of w name))) w
      (moves.places_acting p name end w good acts)))

  -- who acts goes to the tail, or to the head
  pub to_tail-keeps : (p : Image) (name : Who) → Acts name → Keeps G R (to_tail p ThePlacing name)
  unfolding to_tail
  to_tail-keeps p name acts = search (changes-keeps, grant_quantum-alters, then-keeps, says_acting-keeps, chains)

  pub to_head-keeps : (p : Image) (name : Who) → Acts name → Keeps G R (to_head p ThePlacing name)
  unfolding to_head
  to_head-keeps p name acts = search (says_acting-keeps)

  -- who does not wait goes to the tail
  pub to_tail-from : (p : Image) (part : Part) (name : Who) (w : World) → G w → Awake name w → From R w (to_tail p part name)
  unfolding to_tail says_ready Alters
  to_tail-from p part name w good awake =
      let granted_world = grant_quantum p name w in
      let first = grant_quantum-alters p name w good in
      let still : Awake name granted_world = awake-edited name name (granted p w.quanta) w (granted-who p w.quanta) (granted-state p w.quanta) awake in
      changes_then-from (chains moves) (grant_quantum p name) _ w first
      (looks_at-from (chains moves) (λ v. says part (line.Ready name (active p (task_of v name)) Tail (deadline_shown p (task_of v name)))) granted_world
      (said-from (chains moves) part
      (line.Ready name (active p (task_of granted_world name)) Tail (deadline_shown p (task_of granted_world name))) granted_world
      (moves.places_awake p part name Tail granted_world (moves.behind w granted_world first) still)))

  -- ---- somebody becomes ready, or blocks

  pub runnable-keeps : (name : Who) → Keeps G R (changes (edit_task name (with_state Runnable)))
  unfolding Alters
  runnable-keeps name = changes-keeps (chains moves) (edit_task name (with_state Runnable)) (λ w good. moves.wakes name w good)

  ready-from : (p : Image) (part : Part) (name : Who) (w : World) → G w → From R w (ready p part name)
  unfolding ready to_tail says_ready From Kept
  ready-from p part name w good said = (ready_line p part name Tail (ready_world p name w) ∷ [], refl, moves.becomes_ready p part name w good)

  pub ready-keeps : (p : Image) (part : Part) (name : Who) → Keeps G R (ready p part name)
  ready-keeps p part name = from-keeps (chains moves) (ready p part name) (λ w good. ready-from p part name w good)

  -- a step behind, from the world in which it is ready
  pub ready_then-from : (p : Image) (part : Part) (name : Who) (g : Step) (w : World) → G w
      → (G (ready_world p name w) → Awake name (ready_world p name w) → From R (ready_world p name w) g) → From R w (ready p part name ▷ g)
  unfolding ready to_tail says_ready From Kept
  ready_then-from p part name g w good k said =
      let v = ready_world p name w in
      let told = ready_line p part name Tail v ∷ [] in
      let first = moves.becomes_ready p part name w good in
      then-kept (chains moves) w v said (said ++ told) (g v (said ++ told)) (told, refl, first)
      (k (moves.behind w v first) (ready-awake p name w) (said ++ told))

  block-told : (name : Who) (waiting : Waiting) → ((w : World) → G w → R w (block_line name waiting ∷ []) (blocked_world name waiting w))
      → Keeps G R (block TheBlock name waiting)
  unfolding block says_block Keeps Kept
  block-told name waiting k w good said = (block_line name waiting ∷ [], refl, k w good)

  pub block-keeps : (name : Who) (waiting : Waiting) → May name → Keeps G R (block TheBlock name waiting)
  block-keeps name waiting may = block-told name waiting (λ w good. moves.blocks name waiting w good may)

  pub block_apart-keeps : (name : Who) (waiting : Waiting) → Stops → waits (Some waiting) ≡ false → Keeps G R (block TheBlock name waiting)
  block_apart-keeps name waiting stops apart = block-told name waiting (λ w good. moves.blocks_apart name waiting w good stops apart)
