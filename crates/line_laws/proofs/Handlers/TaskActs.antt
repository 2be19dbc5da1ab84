-- The effect of an action of a task spares the agent.
use Rattle.std.proofs.Common.{◌≡◌, true, [], ◌∷◌, Option, Some, None, refl, sym, ap, subst, ◌∙◌}
use Rattle.ann_base.specs.declared.identities.TaskNo.{TaskNo}
use Rattle.trace_text.specs.declared.events.Who.TheVariants as who
use Rattle.profile_image.specs.declared.image.Image.{Image}
use Rattle.profile_machine.specs.declared.world.World.{World}
use Rattle.profile_machine.specs.declared.world.marks.Frame.{Frame}
use Rattle.profile_machine.specs.declared.world.marks.Mark.TheVariants.{InProtected}
use Rattle.profile_machine.specs.declared.world.marks.ProtectedMark.{ProtectedMark}
use Rattle.profile_machine.specs.Steps.{◌▷◌}
use Rattle.profile_image.specs.Program.{form_of}
use Rattle.profile_machine.specs.Tasks.{edit_task, with_ticks}
use Rattle.profile_machine.specs.Frames.{frames_of, top_of, leaving_of, open_if_ready}
use Rattle.profile_machine.specs.Tasking.{take_terminates, unwind_all}
use Rattle.profile_machine.specs.declared.world.appointments.Release.{Release}
use Rattle.profile_machine.specs.Act.{act_without, act}
use Rattle.profile_machine.specs.Instant.{effect}
use Rattle.machine_laws.proofs.FineMoves.{natures, release_in}
use Rattle.machine_laws.proofs.Kept.Frames.{open_if_ready-keeps}
use Rattle.machine_laws.proofs.Kept.Serving.{end_in_protected-from, stays_anyhow}
use Rattle.machine_laws.proofs.Kept.Tasking.{take_terminates-keeps, unwind_all-keeps}
use Rattle.machine_laws.proofs.Kept.Act.{act_statement-keeps, act-from}
use Rattle.line_laws.proofs.Handlers.AgentWorlds.{Colour, MarksFree, Apart, marks-free}
use Rattle.line_laws.proofs.Handlers.AgentMarks.{has_top}
use Rattle.line_laws.proofs.Handlers.SparedMoves.{Spared, spares, spared_openings, spared_regions, spared_settings, spared_ends, spared_puts}
use Rattle.line_laws.proofs.Handlers.SparedReleases.{spared_releasing}
use Rattle.line_laws.proofs.Handlers.AgentServes.{spared-ending}
use Rattle.machine_laws.proofs.FinestMoves.{chains}
use Rattle.machine_laws.proofs.Kept.Combinators.{From, Keeps, changes_then-from, keeps-from, nothing-keeps, then-from, then-keeps}

-- ---- its action

module _ (colour : Colour) where
  no_release : (n : TaskNo) (f : Frame) (m : ProtectedMark) (w : World) → Apart colour w → top_of w (who.Task n) ≡ Some f → f.mark ≡ InProtected m
      → m.release ≡ None
  no_release n f m w good top is =
      let found = has_top (frames_of w (who.Task n)) f top in
      let free : MarksFree colour w.drawn.regions (natures (f ∷ found.0)) =
      subst (λ fs. MarksFree colour w.drawn.regions (natures fs)) found.1 (marks-free colour w (who.Task n) tt good) in
      sym (ap release_in is) ∙ free.0

  without-keeps : (p : Image) (n : TaskNo) (serving : Option Release) → Keeps (Apart colour) (Spared colour true) (act_without p (who.Task n) serving)
  unfolding act_without
  without-keeps p n None = nothing-keeps (chains (spares colour true))
  without-keeps p n (Some r) = nothing-keeps (chains (spares colour true))

  task_act-from : (p : Image) (n : TaskNo) (w : World) → Apart colour w → From (Spared colour true) w (act p (who.Task n))
  task_act-from p n w good =
      act-from (spares colour true) (spared_openings colour true) (spared_regions colour true) p (who.Task n) w good tt
      (keeps-from (chains (spares colour true)) _ w good (without-keeps p n w.serving))
      (λ f s top is. keeps-from (chains (spares colour true)) _ w good
      (act_statement-keeps (spares colour true) (spared_openings colour true) (spared_settings colour true) (spared_releasing colour) p
      (spared_puts colour true p) (who.Task n) s (form_of p s) tt refl))
      (λ f m top is. end_in_protected-from (spares colour true) (spared_openings colour true) (spared_ends colour true) (spared-ending colour) stays_anyhow p
      (who.Task n) m (leaving_of f) tt (no_release n f m w good top is) w good tt)

  -- ---- its effect

  pub task_effect-from : (p : Image) (n : TaskNo) (w : World) → Apart colour w → From (Spared colour true) w (effect p (who.Task n))
  unfolding effect
  task_effect-from p n w good =
      let moves = spares colour true in
      let begun = edit_task (who.Task n) (with_ticks None) w in
      let first : Spared colour true w [] begun =
      moves.edits_task (who.Task n) (with_ticks None) w good (λ t. refl) (λ t. refl) (λ t. refl) (λ t. refl) (λ t. refl) in
      let behind = open_if_ready p (who.Task n) ▷ take_terminates p (who.Task n) ▷ unwind_all p (who.Task n) in
      changes_then-from (chains moves) (edit_task (who.Task n) (with_ticks None)) (act p (who.Task n) ▷ behind) w first
      (then-from (chains moves) (act p (who.Task n)) behind begun (task_act-from p n begun first.apart)
      (then-keeps (chains moves) _ _ (open_if_ready-keeps moves p (who.Task n) tt)
      (then-keeps (chains moves) _ _ (take_terminates-keeps moves p (who.Task n) tt) (unwind_all-keeps moves p (who.Task n)))))
