-- The end of an abortable part that is on top and has come to its end: its trigger has completed, is a moment, or is cancelled (9.7.4).
use Rattle.std.proofs.Common.{Bool, true, false, not, List, Option, Some, None, is_none, length, ◌&&◌, ◌||◌}
use Rattle.std.proofs.lemmas.Bool.{eq-eqb}
use Rattle.std.proofs.Common.{◌≡◌, ◌∷◌, refl, sym, subst, ap, ◌∙◌}
use Rattle.trace_text.specs.declared.events.Who.TheVariants as who
use Rattle.profile_machine.specs.declared.world.marks.Mark.TheVariants.{Abortable}
use Rattle.profile_machine.specs.declared.world.lines.Part.TheVariants as of_part
use Rattle.ann_base.specs.declared.identities.CallNo.{CallNo}
use Rattle.ann_base.specs.declared.identities.TaskNo.{TaskNo}
use Rattle.profile_machine.specs.Act.{call, end_top}
use Rattle.profile_machine.specs.Appointments.{is_appointed, is_trigger_of}
use Rattle.profile_machine.specs.Frames.{frames_of}
use Rattle.profile_image.specs.Words.{is_the, same_call}
use Rattle.profile_image.specs.declared.image.Image.{Image}
use Rattle.profile_machine.specs.declared.world.World.{World}
use Rattle.profile_machine.specs.declared.world.marks.AbortableMark.{AbortableMark}
use Rattle.profile_machine.specs.declared.world.marks.Frame.{Frame}
use Rattle.trace_text.specs.declared.events.Who.{Who}
use Rattle.world_laws.proofs.Queues.Kept.Ends.{EndsWell, end_found-from}
use Rattle.world_laws.proofs.Queues.Kept.Onward.{Onward, calm-onward}
use Rattle.world_laws.proofs.Queues.Softening.{Unset}
use Rattle.world_laws.proofs.Queues.Standing.{Good, Out, any_kind, awaits_part, ended-out, ends_by, ends_part, natures, part_of, some_nature, none_late}
use Rattle.world_laws.proofs.Queues.Chosen.{some-same}

first-same : (f g : Frame) (xs ys : List Frame) → f ∷ xs ≡ g ∷ ys → f ≡ g
first-same f g xs ys e = cc

part-mark : (m n : AbortableMark) → Abortable m ≡ Abortable n → m ≡ n
part-mark m n e = cc

not-true : (a : Bool) → (a && not true) ≡ true → ⊥
not-true true e = cc
not-true false e = cc

none-not-some : (c : CallNo) → None ≡ Some c → ⊥
none-not-some c e = cc

module _ (p : Image) (name : Who) (f : Frame) (below : List Frame) (m : AbortableMark) (mark : f.mark ≡ Abortable m) where
  -- another abortable mark on top is this one
  same-mark : (v : World) → frames_of v name ≡ f ∷ below → (g : Frame) (rest : List Frame) (n : AbortableMark) → frames_of v name ≡ g ∷ rest
      → g.mark ≡ Abortable n → m ≡ n
  same-mark v top g rest n is other =
      let one : f ≡ g = first-same f g below rest (sym top ∙ is) in
      part-mark m n (sym mark ∙ (ap (λ (x : Frame). x.mark) one ∙ other))

  ends-well : (v : World) → Good p v → frames_of v name ≡ f ∷ below → Unset name v (f ∷ below) → ((c : CallNo) → m.call ≡ Some c → Out c v)
      → EndsWell any_kind none_late p name v
  ends-well v good top unset out = record {
    good = good;
    unset = subst (Unset name v) (sym top) unset;
    out = λ g rest n c is other call. out c (ap (λ (x : AbortableMark). x.call) (same-mark v top g rest n is other) ∙ call);
    stays = λ g rest n c is other call. refl;
  }

  end_top-onward : (v : World) → EndsWell any_kind none_late p name v → Onward p v (end_top p name)
  unfolding end_top
  end_top-onward v ends = calm-onward {E = any_kind} _ v ends.good (end_found-from p of_part.Own name v refl ends)

  -- its trigger has completed
  pub triggered-onward : (w : World) → Good p w → frames_of w name ≡ f ∷ below → m.triggered ≡ true → Onward p w (end_top p name)
  triggered-onward w good top triggered =
      end_top-onward w (ends-well w good top
      (λ n is set awaits.
      not-true (is_none m.call) (subst (λ b. (is_none m.call && not b) ≡ true) triggered (subst (λ x. awaits_part (part_of x) ≡ true) mark awaits)))
      (λ c call. ended-out p w c good (good.ended name c (subst (λ fs. some_nature (ends_by c) (natures fs) ≡ true) (sym top)
      (ap (λ b. b || some_nature (ends_by c) (natures below))
      (ap (λ x. ends_part c (part_of x)) mark
      ∙ (ap (λ b. b && is_the same_call m.call c) triggered ∙ (ap (λ x. is_the same_call x c) call ∙ eq-eqb c.0 c.0 refl))))))))

  -- its trigger is a call that was cancelled, and stands in no queue
  pub cancelled-onward : (v : World) (c : CallNo) → Good p v → frames_of v name ≡ f ∷ below → m.call ≡ Some c → Out c v → Onward p v (end_top p name)
  cancelled-onward v c good top call out =
      end_top-onward v (ends-well v good top
      (λ n is set awaits. called c (part_of f.mark) (ap part_of mark ∙ ap (λ x. Some (x, m.triggered)) call) awaits)
      (λ x other. subst (λ n. Out n v) (some-same c x (sym call ∙ other)) out)) where
        called : (c : CallNo) (y : Option (Option CallNo × Bool)) → y ≡ Some (Some c, m.triggered) → awaits_part y ≡ true → ⊥
        called c y e h = let wrong : false ≡ true = sym (ap awaits_part e) ∙ h in cc

  -- its trigger is a moment that is set no more
  pub moment-onward : (v : World) → Good p v → frames_of v name ≡ f ∷ below → m.call ≡ None
      → ((n : TaskNo) → name ≡ who.Task n → is_appointed (is_trigger_of n (length below)) v ≡ true → ⊥) → Onward p v (end_top p name)
  moment-onward v good top call none =
      end_top-onward v (ends-well v good top (λ n is set awaits. none n is set) (λ c other. absurd (none-not-some c (sym call ∙ other))))
