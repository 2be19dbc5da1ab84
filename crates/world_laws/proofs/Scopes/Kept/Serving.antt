-- Queued calls that are served, and objects that are released: each step keeps a relation that its parts keep.
use Rattle.std.specs.Prelude.{ℕ, Bool, true, false, Option, Some, None}
use Rattle.ann_base.specs.declared.identities.CallNo.{CallNo}
use Rattle.trace_text.specs.declared.events.Who.{Who}
use Rattle.profile_image.specs.declared.image.Image.{Image}
use Rattle.profile_machine.specs.declared.world.marks.ProtectedMark.{ProtectedMark}
use Rattle.profile_machine.specs.declared.world.calls.Call.{Call}
use Rattle.profile_machine.specs.declared.world.calls.Outcome.{Outcome}
use Rattle.profile_machine.specs.Serving.{serves_nothing, serve_ends, end_release, close_action, wait_or_unwind}
use Rattle.profile_machine.specs.Serving.{wait_for_own, resume_own, behind_action, settle_sent, begins_part}
use Rattle.machine_laws.proofs.Moves.{StepRelation, MoveRelation}
use Rattle.world_laws.proofs.Scopes.FineMoves.{FineMoves, chains, says-keeps}
use Rattle.world_laws.proofs.Scopes.Kept.Dispatching.{block-keeps}
use Rattle.world_laws.proofs.Scopes.Kept.Frames.{leaves-keeps, plain_steps}
use Rattle.world_laws.proofs.Scopes.Kept.Sending.{open_abortable-alters, wait_for_call-keeps, begin_abortable-keeps, sent_not_begun-keeps}
use Rattle.ann_base.specs.declared.identities.ObjectNo.{ObjectNo}
use Rattle.machine_laws.proofs.FineMoves.{Anybody, GoodWorld}
use Rattle.machine_laws.proofs.Kept.Combinators.{Alters, Keeps, changes-keeps, looks-keeps, nothing-keeps, then-keeps, when-keeps}
use Rattle.machine_laws.proofs.Plain.Frames.{pass_on-keeps}
use Rattle.machine_laws.proofs.Plain.Calls.{forget_call-alters, with_call-keeps, attempt_with-keeps}
use Rattle.machine_laws.proofs.Plain.Results.{resume-keeps}
use Rattle.machine_laws.proofs.Plain.PlainSteps.{anybody}

module _ {G : GoodWorld} {R : StepRelation} {Q : MoveRelation} (moves : FineMoves G Anybody Anybody R Q) where
  -- ---- the agent has served a release

  serves_nothing-alters : Alters G R serves_nothing
  unfolding Alters
  serves_nothing-alters w good = moves.has_served w good

  serve_ends-keeps : (n : ℕ) → Keeps G R (serve_ends n)
  unfolding serve_ends
  serve_ends-keeps n = search (says-keeps, then-keeps, changes-keeps, serves_nothing-alters, looks-keeps, when-keeps, block-keeps, chains) depth 8

  pub end_release-keeps : (n : ℕ) → Keeps G R (end_release n)
  unfolding end_release
  end_release-keeps n = search (looks-keeps, when-keeps, serve_ends-keeps, chains)

  -- ---- behind an action

  pub wait_or_unwind-keeps : (p : Image) (name : Who) (c : Call) (test : Bool) → Keeps G R (wait_or_unwind p name c test)
  unfolding wait_or_unwind
  wait_or_unwind-keeps p name c true =
      search (attempt_with-keeps, changes-keeps, forget_call-alters, then-keeps, leaves-keeps, wait_for_call-keeps, chains, plain_steps)
  wait_or_unwind-keeps p name c false = search (wait_for_call-keeps)

  pub wait_for_own-keeps : (p : Image) (name : Who) (c : Call) (test : Bool) → Keeps G R (wait_for_own p name c test)
  unfolding wait_for_own
  wait_for_own-keeps p name c true = search (changes-keeps, open_abortable-alters, moves.task_other, chains)
  wait_for_own-keeps p name c false = search (looks-keeps, wait_or_unwind-keeps, chains)

  pub resume_own-keeps : (p : Image) (name : Who) (c : Call) (outcome : Option Outcome) → Keeps G R (resume_own p name c outcome)
  unfolding resume_own
  resume_own-keeps p name c (Some outcome) = search (resume-keeps, plain_steps, anybody)
  resume_own-keeps p name c None = search (looks-keeps, wait_for_own-keeps, chains)

  pub behind_action-keeps : (p : Image) (name : Who) (m : ProtectedMark) (n : Option ℕ) (c : Option CallNo) → Keeps G R (behind_action p name m n c)
  unfolding behind_action
  behind_action-keeps p name m (Some release) call = search (end_release-keeps)
  behind_action-keeps p name m None None = search (pass_on-keeps, plain_steps, anybody)
  behind_action-keeps p name m None (Some c) = search (with_call-keeps, resume_own-keeps, plain_steps)

  pub close_action-alters : (name : Who) (o : ObjectNo) → Alters G R (close_action name o)
  unfolding Alters
  close_action-alters name o w good = moves.closes name o w good

  pub settle_sent-keeps : (p : Image) (c : Option CallNo) (test : Bool) → Keeps G R (settle_sent p c test)
  unfolding settle_sent
  settle_sent-keeps p None is_served = search (nothing-keeps, chains)
  settle_sent-keeps p (Some c) true = search (nothing-keeps, chains)
  settle_sent-keeps p (Some c) false = search (sent_not_begun-keeps)

  pub begins_part-keeps : (p : Image) (test : Bool) (c : CallNo) → Keeps G R (begins_part p test c)
  unfolding begins_part
  begins_part-keeps p true c = search (begin_abortable-keeps)
  begins_part-keeps p false c = search (nothing-keeps, chains)

-- ---- the scope of an entry body has ended
