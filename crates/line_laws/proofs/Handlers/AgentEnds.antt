-- The ends of the agent's marks that are no protected actions: it serves on, and waits for no dependents, since no task depends
-- on a region of its own.
use Rattle.std.proofs.Common.{◌≡◌, true, false, List, ◌∷◌, Some, None, sym, ap, subst, ◌∙◌}
use Rattle.std.proofs.lemmas.Bool.{false≢true}
use Rattle.ann_base.specs.declared.identities.RegionNo.{RegionNo}
use Rattle.trace_text.specs.declared.events.Who.TheVariants as who
use Rattle.profile_image.specs.declared.image.Image.{Image}
use Rattle.profile_machine.specs.declared.run_data.Leaving.{Leaving}
use Rattle.profile_machine.specs.declared.world.World.{World}
use Rattle.profile_machine.specs.declared.world.marks.Frame.{Frame}
use Rattle.profile_machine.specs.declared.world.marks.Mark.{Mark}
use Rattle.profile_machine.specs.declared.world.marks.Mark.TheVariants.{Scope}
use Rattle.profile_machine.specs.declared.world.marks.ScopeMark.{ScopeMark}
use Rattle.profile_machine.specs.declared.world.tasks.Waiting.TheVariants as waits_for
use Rattle.profile_machine.specs.declared.world.lines.Said.{Said}
use Rattle.profile_machine.specs.declared.world.lines.Part.TheVariants.{TheBlock}
use Rattle.profile_machine.specs.Steps.{when}
use Rattle.profile_machine.specs.Dispatching.{block}
use Rattle.profile_machine.specs.Frames.{top_of, is_protected, leaving_of}
use Rattle.profile_machine.specs.Masters.{region_of_mark, has_dependents}
use Rattle.profile_machine.specs.Tasking.{wait_for_dependents, leave_region}
use Rattle.profile_machine.specs.Act.{end_mark}
use Rattle.machine_laws.proofs.FineMoves.{natures}
use Rattle.machine_laws.proofs.Kept.Tasking.{leave_region-from}
use Rattle.machine_laws.proofs.Kept.Act.{end_mark-from}
use Rattle.line_laws.proofs.Handlers.AgentWorlds.{MarksOwned, RegionOwned}
use Rattle.line_laws.proofs.Handlers.AgentMarks.{Rooted, rooted, has_top, no_dependents}
use Rattle.line_laws.proofs.Handlers.OwnMoves.{Busy, BusyStep, busies, busy_openings}
use Rattle.line_laws.proofs.Handlers.Mixed.{from_by}
use Rattle.machine_laws.proofs.FinestMoves.{chains}
use Rattle.machine_laws.proofs.Kept.Combinators.{From, Keeps, keeps-from, looks-from, when-keeps-if}

-- ---- a kept scope of the agent begins to be left

module _ (r : RegionNo) where
  depends-none : {P : Type 0} (w : World) → Busy Rooted (Some r) w → has_dependents w r ≡ true → P
  depends-none w good is = absurd (false≢true (sym (no_dependents good.colour w.drawn.regions r w.tasks good.held_owned good.apart.tasks) ∙ is))

  wait-keeps : Keeps (Busy Rooted (Some r)) (BusyStep Rooted (Some r)) (wait_for_dependents who.Agent r)
  unfolding wait_for_dependents
  wait-keeps =
      looks-from (chains (busies rooted (Some r))) (λ w. when (has_dependents w r) (block TheBlock who.Agent (waits_for.Dependents r)))
      (λ w good. keeps-from (chains (busies rooted (Some r))) _ w good
      (when-keeps-if (chains (busies rooted (Some r))) (has_dependents w r) (block TheBlock who.Agent (waits_for.Dependents r)) (λ is. depends-none w good is)))

  leave-from : (p : Image) (m : ScopeMark) (leaving : Leaving) (f : Frame) (w : World) → Busy Rooted (Some r) w → top_of w who.Agent ≡ Some f → f.mark ≡ Scope m
      → m.region ≡ Some r → m.being_left ≡ false → From (BusyStep Rooted (Some r)) w (leave_region p who.Agent m leaving r)
  leave-from p m leaving f w good top is region left =
      leave_region-from (busies rooted (Some r)) (busy_openings (Some r)) p who.Agent f m leaving r w good tt top is region left wait-keeps

  let_go : (w v : World) (xs : List Said) → BusyStep Rooted (Some r) w xs v → BusyStep Rooted None w xs v
  let_go w v xs s = record {
    busy = record { colour = s.busy.colour; apart = s.busy.apart; held_owned = tt; marks = s.busy.marks; runs = s.busy.runs; serves = s.busy.serves };
    calm = s.calm;
  }

  hold : (f : Frame) (w : World) → Busy Rooted None w → top_of w who.Agent ≡ Some f → region_of_mark f.mark ≡ Some r → Busy Rooted (Some r) w
  hold f w good top region =
      let found = has_top w.agent.frames f top in
      let owned : MarksOwned good.colour (natures (f ∷ found.0)) = subst (λ fs. MarksOwned good.colour (natures fs)) found.1 good.apart.marks in
      record {
        colour = good.colour;
        apart = good.apart;
        held_owned = subst (RegionOwned good.colour) region owned.0;
        marks = good.marks;
        runs = good.runs;
        serves = good.serves;
      }

  left-from : (p : Image) (m : ScopeMark) (leaving : Leaving) (f : Frame) (w : World) → Busy Rooted None w → top_of w who.Agent ≡ Some f → f.mark ≡ Scope m
      → m.region ≡ Some r → m.being_left ≡ false → From (BusyStep Rooted None) w (leave_region p who.Agent m leaving r)
  left-from p m leaving f w good top is region left =
      from_by (BusyStep Rooted (Some r)) (BusyStep Rooted None) (leave_region p who.Agent m leaving r) w (λ v xs s. let_go w v xs s)
      (leave-from p m leaving f w (hold f w good top (ap region_of_mark is ∙ region)) top is region left)

-- ---- the end of the mark on top, but of a protected action

pub own_end-from : (p : Image) (f : Frame) (mark : Mark) (w : World) → Busy Rooted None w → top_of w who.Agent ≡ Some f → f.mark ≡ mark
    → is_protected mark ≡ false → From (BusyStep Rooted None) w (end_mark p who.Agent f mark)
own_end-from p f mark w good top is free =
    end_mark-from (busies rooted None) (busy_openings None) p who.Agent f mark w good tt top is
    (λ m r same region left. left-from r p m (leaving_of f) f w good top (is ∙ same) region left)
    (λ m same. absurd (false≢true (sym free ∙ ap is_protected same)))
