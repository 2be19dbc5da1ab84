-- Queued calls that are served, and objects that are released: each step keeps a relation that its parts keep.
use Rattle.std.specs.Prelude.{ℕ, Bool, true, false, [], ◌∷◌, Option, Some, None}
use Rattle.std.proofs.lemmas.Bool.{eqb-true}
use Rattle.ann_base.specs.declared.identities.CallNo.{CallNo}
use Rattle.trace_text.specs.declared.events.Who.{Who}
use Rattle.profile_image.specs.declared.image.Image.{Image}
use Rattle.profile_machine.specs.declared.world.World.{World}
use Rattle.profile_machine.specs.declared.world.appointments.Release.{Release}
use Rattle.profile_machine.specs.declared.world.marks.ProtectedMark.{ProtectedMark}
use Rattle.profile_machine.specs.declared.world.calls.Call.{Call}
use Rattle.profile_machine.specs.declared.world.calls.Outcome.{Outcome}
use Rattle.profile_machine.specs.declared.world.lines.Line.TheVariants as line
use Rattle.profile_machine.specs.declared.world.lines.Part.TheVariants.{Own, TheBlock}
use Rattle.profile_machine.specs.declared.world.tasks.Waiting.TheVariants as waits_for
use Rattle.trace_text.specs.declared.events.Who.TheVariants as who
use Rattle.ann_base.specs.Lists.{is_empty}
use Rattle.profile_machine.specs.Dispatching.{block}
use Rattle.profile_machine.specs.Steps.{says, changes, looks, when, nothing, ◌▷◌}
use Rattle.profile_machine.specs.Serving.{serves_nothing, is_served_now, serve_ends, end_release, wait_or_unwind}
use Rattle.profile_machine.specs.Serving.{wait_for_own, resume_own, behind_action, settle_sent, begins_part}
use Rattle.std.proofs.Common.{◌≡◌, refl, sym, subst}
use Rattle.std.proofs.Common.{refl, sym, subst}
use Rattle.profile_machine.specs.Calls.{call_of}
use Rattle.profile_machine.specs.Frames.{pass_on}
use Rattle.profile_machine.specs.Steps.{nothing, for_some}
use Rattle.machine_laws.proofs.Moves.{StepRelation, MoveRelation, own}
use Rattle.line_laws.proofs.Leaving.FineMoves.{FineMoves, chains}
use Rattle.line_laws.proofs.Leaving.Kept.Dispatching.{block_apart-keeps}
use Rattle.line_laws.proofs.Leaving.Kept.Frames.{leaves-keeps, plain_steps}
use Rattle.line_laws.proofs.Leaving.Kept.Sending.{open_abortable-alters, wait_for_call-keeps, begin_abortable-keeps, sent_not_begun-keeps}
use Rattle.machine_laws.proofs.FineMoves.{GoodWorld, Naming}
use Rattle.machine_laws.proofs.Kept.Combinators.{From, Keeps, Kept, changes-keeps, keeps-from, looks-from, looks-keeps}
use Rattle.machine_laws.proofs.Kept.Combinators.{looks_at-from, nothing-keeps, then-from, then-keeps, when-keeps}
use Rattle.machine_laws.proofs.Plain.Frames.{pass_on-keeps}
use Rattle.machine_laws.proofs.Plain.Calls.{forget_call-alters, attempt_with-keeps}
use Rattle.machine_laws.proofs.Plain.Results.{resume-keeps}

module _ {G : GoodWorld} {May Acts Pushes : Naming} {Stops : Type 0} {R : StepRelation} {Q : MoveRelation} (moves : FineMoves G May Acts Pushes Stops R Q) where
  -- the release that the agent serves ends, and is told
  told_served-from : (r : Release) (n : ℕ) (w : World) → G w → w.serving ≡ Some r → n ≡ r.number → From R w (says Own (line.Served n) ▷ changes serves_nothing)
  unfolding From Kept
  told_served-from r n w good is e said =
      (own (line.Served n) ∷ [], refl, subst (λ m. R w (own (line.Served m) ∷ []) (serves_nothing w)) (sym e) (moves.has_served r w good is))

  serve_ends-from : (r : Release) (n : ℕ) (w : World) → G w → Stops → w.serving ≡ Some r → n ≡ r.number → From R w (serve_ends n)
  unfolding serve_ends
  serve_ends-from r n w good stops is e =
      then-from (chains moves) (says Own (line.Served n) ▷ changes serves_nothing)
      (looks (λ v. when (is_empty v.releases) (block TheBlock who.Agent waits_for.Release))) w
      (told_served-from r n w good is e)
      (looks-keeps (chains moves) _ (λ v. when-keeps (chains moves) (is_empty v.releases) _ (block_apart-keeps moves who.Agent waits_for.Release stops refl)))

  end_served-from : (n : ℕ) (w : World) (serving : Option Release) (test : Bool) → G w → Stops → w.serving ≡ serving → is_served_now n serving ≡ test
      → From R w (when test (serve_ends n))
  end_served-from n w None true good stops is e = cc
  end_served-from n w (Some r) true good stops is e = serve_ends-from r n w good stops is (eqb-true n r.number e)
  end_served-from n w serving false good stops is e = keeps-from (chains moves) nothing w good (nothing-keeps (chains moves))

  pub end_release-keeps : (n : ℕ) → Stops → Keeps G R (end_release n)
  unfolding end_release
  end_release-keeps n stops = looks-from (chains moves) _ (λ w good. end_served-from n w w.serving (is_served_now n w.serving) good stops refl refl)

  pub wait_or_unwind-keeps : (p : Image) (name : Who) (c : Call) (test : Bool) → May (who.Task c.caller) → Keeps G R (wait_or_unwind p name c test)
  unfolding wait_or_unwind
  wait_or_unwind-keeps p name c true mine =
      search (attempt_with-keeps, changes-keeps, forget_call-alters, then-keeps, leaves-keeps, wait_for_call-keeps, chains, plain_steps)
  wait_or_unwind-keeps p name c false mine = search (wait_for_call-keeps)

  pub wait_for_own-keeps : (p : Image) (name : Who) (c : Call) (test : Bool) → May name → May (who.Task c.caller) → Keeps G R (wait_for_own p name c test)
  unfolding wait_for_own
  wait_for_own-keeps p name c true may mine = search (changes-keeps, open_abortable-alters, chains)
  wait_for_own-keeps p name c false may mine = search (looks-keeps, wait_or_unwind-keeps, chains)

  pub resume_own-keeps : (p : Image) (name : Who) (c : Call) (outcome : Option Outcome) → May name → May (who.Task c.caller)
      → Keeps G R (resume_own p name c outcome)
  unfolding resume_own
  resume_own-keeps p name c (Some outcome) may mine = search (resume-keeps, plain_steps)
  resume_own-keeps p name c None may mine = search (looks-keeps, wait_for_own-keeps, chains)

  -- of no release; the call that the holder made itself is its own
  owns_found-from : (p : Image) (name : Who) (found : Option Call) (c : CallNo) (w : World) → G w → May name → call_of w c ≡ found
      → ((d : Call) → call_of w c ≡ Some d → who.Task d.caller ≡ name) → From R w (for_some found (λ d. resume_own p name d d.outcome))
  owns_found-from p name None c w good may is own = keeps-from (chains moves) nothing w good (nothing-keeps (chains moves))
  owns_found-from p name (Some d) c w good may is own =
      keeps-from (chains moves) (resume_own p name d d.outcome) w good (resume_own-keeps p name d d.outcome may (subst May (sym (own d is)) may))

  pub behind_action-from : (p : Image) (name : Who) (m : ProtectedMark) (c : Option CallNo) (w : World) → G w → May name
      → ((n : CallNo) → c ≡ Some n → (d : Call) → call_of w n ≡ Some d → who.Task d.caller ≡ name) → From R w (behind_action p name m None c)
  unfolding behind_action
  behind_action-from p name m None w good may own =
      keeps-from (chains moves) (pass_on p name m.body_left) w good (pass_on-keeps (plain_steps moves) p name m.body_left may)
  behind_action-from p name m (Some c) w good may own =
      looks_at-from (chains moves) (λ v. for_some (call_of v c) (λ d. resume_own p name d d.outcome)) w
      (owns_found-from p name (call_of w c) c w good may refl (own c refl))

  pub settle_sent-keeps : (p : Image) (c : Option CallNo) (test : Bool) → Keeps G R (settle_sent p c test)
  unfolding settle_sent
  settle_sent-keeps p None is_served = search (nothing-keeps, chains)
  settle_sent-keeps p (Some c) true = search (nothing-keeps, chains)
  settle_sent-keeps p (Some c) false = search (sent_not_begun-keeps)

  pub begins_part-keeps : (p : Image) (test : Bool) (c : CallNo) → Keeps G R (begins_part p test c)
  unfolding begins_part
  begins_part-keeps p true c = search (begin_abortable-keeps)
  begins_part-keeps p false c = search (nothing-keeps, chains)

-- ---- the scope of an entry body has ended
