-- The end of a mark in a protected action: it serves queued calls in a good world, where their count is enough.
use Rattle.std.proofs.Common.{◌≡◌, ℕ, ◌<◌, true, ◌++◌, List, [], ◌∷◌, Option, Some, None, refl, sym, subst, ap, ◌∙◌, arith}
use Rattle.std.specs.Prelude.{is_none}
use Rattle.std.proofs.lemmas.Bool.{eq-eqb}
use Rattle.ann_base.specs.declared.exceptions.Raised.{Raised}
use Rattle.ann_base.specs.declared.identities.CallNo.{CallNo}
use Rattle.ann_base.specs.declared.identities.ObjectNo.{ObjectNo}
use Rattle.trace_text.specs.declared.events.Mode.{Mode}
use Rattle.trace_text.specs.declared.events.Mode.TheVariants.{Read, Write}
use Rattle.trace_text.specs.declared.events.Who.{Who}
use Rattle.profile_image.specs.declared.image.Image.{Image}
use Rattle.profile_machine.specs.declared.run_data.Leaving.{Leaving}
use Rattle.profile_machine.specs.declared.run_data.Leaving.TheVariants as how
use Rattle.profile_machine.specs.declared.world.World.{World}
use Rattle.profile_machine.specs.declared.world.calls.Call.{Call}
use Rattle.profile_machine.specs.declared.world.calls.Outcome.{Outcome}
use Rattle.profile_machine.specs.declared.world.calls.Outcome.TheVariants as call_ended
use Rattle.profile_machine.specs.declared.world.calls.Owner.TheVariants as owned_by
use Rattle.profile_machine.specs.declared.world.calls.Sending.{Sending}
use Rattle.profile_machine.specs.declared.world.lines.Line.{Line}
use Rattle.profile_machine.specs.declared.world.lines.Line.TheVariants as line
use Rattle.profile_machine.specs.declared.world.lines.MeetingEnd.TheVariants as meeting
use Rattle.profile_machine.specs.declared.world.lines.Part.{Part}
use Rattle.profile_machine.specs.declared.world.lines.Part.TheVariants.{TheFinish}
use Rattle.profile_machine.specs.declared.world.lines.Said.{Said}
use Rattle.profile_machine.specs.declared.world.marks.Frame.{Frame}
use Rattle.profile_machine.specs.declared.world.marks.Mark.TheVariants.{InProtected}
use Rattle.profile_machine.specs.declared.world.marks.ProtectedMark.{ProtectedMark}
use Rattle.profile_image.specs.Words.{is_the, same_call}
use Rattle.profile_machine.specs.Steps.{Step, Done, done, goes_on_with, nothing, says, changes, looks, for_some, ◌▷◌}
use Rattle.profile_machine.specs.Frames.{frames_of, edit_top}
use Rattle.profile_machine.specs.Values.{object_of, queues_of}
use Rattle.profile_machine.specs.Calls.{call_of, edit_call, enqueue, with_call}
use Rattle.profile_machine.specs.CallEnds.{deliver}
use Rattle.profile_machine.specs.Protected.{edit_top_protected}
use Rattle.profile_machine.specs.Sending.{sent_call, send_on}
use Rattle.profile_machine.specs.Serving.{serve_calls, go_on_by_mode, with_body_left, not_left, end_operation, is_own_call, outcome_by, finish_raised}
use Rattle.profile_machine.specs.Serving.{finish_well, finish_call, no_longer_serves, end_entry_body, end_in_protected_by, end_in_protected}
use Rattle.world_laws.specs.ServeLaws.{queues_are_its_own}
use Rattle.world_laws.proofs.Counts.ServeCounts.{serves_end}
use Rattle.world_laws.proofs.Queues.QueueWorlds.{all-from}
use Rattle.world_laws.proofs.Queues.Kept.Actions.{begun-out, sent-none, unserved-idle, unserving-calm}
use Rattle.world_laws.proofs.Queues.Kept.CallEnds.{found-number}
use Rattle.world_laws.proofs.Queues.Kept.Combinators.{From}
use Rattle.world_laws.proofs.Queues.Kept.Ends.{deliver-from}
use Rattle.world_laws.proofs.Queues.Kept.Frames.{edit_top-alters}
use Rattle.world_laws.proofs.Queues.Kept.Onward.{Onward, nothing-onward}
use Rattle.world_laws.proofs.Queues.Kept.Queued.{enqueue_then-onward}
use Rattle.world_laws.proofs.Queues.Kept.Sending.{no-steady, send_on_then-onward, sent-calm}
use Rattle.world_laws.proofs.Queues.Standing.{Awake, Calm, Good, Idle, Kind, Out, any_kind, calm-awake, calm-good, calm-idle}
use Rattle.world_laws.proofs.Queues.Standing.{calm-out, calm-then, natures, one_if, quiet_kind, served, served_in, service, Stands}
use Rattle.world_laws.specs.ServingWorlds.{serve_calls_more, go_on_by_mode_more, end_operation_more, finish_raised_more, finish_well_more}
use Rattle.world_laws.specs.ServingWorlds.{finish_call_more, end_entry_body_more, end_in_protected_by_more, end_in_protected_more}
use Rattle.machine_laws.proofs.Kept.Combinators.{world_behind}

-- ---- a step does and says in a world what another does and says

pub record Same (w : World) (f g : Step) : Type 0 where
  pub leads : (said : List Said) → f w said ≡ g w said

pub same-step : (f : Step) (w : World) → Same w f f
same-step f w = record { leads = λ said. refl }

goes_on-same : (f g : Step) (d : Done) → Same (world_behind d) f g → goes_on_with f d ≡ goes_on_with g d
goes_on-same f g (done v said) a = a.leads said

changes_then-same : (h : World → World) (f g : Step) (w : World) → Same (h w) f g → Same w (changes h ▷ f) (changes h ▷ g)
changes_then-same h f g w a = record { leads = λ said. a.leads said }

said_then-same : (part : Part) (line : Line) (f g : Step) (w : World) → Same w f g → Same w (says part line ▷ f) (says part line ▷ g)
said_then-same part line f g w a = record { leads = λ said. a.leads (said ++ record { part = part; line = line } ∷ []) }

pub looks_at-same : (f g : World → Step) (w : World) → Same w (f w) (g w) → Same w (looks f) (looks g)
looks_at-same f g w a = record { leads = λ said. a.leads said }

found-same : (c : CallNo) (found : Option Call) (f g : Call → Step) (w : World) → call_of w c ≡ found → ((d : Call) → call_of w c ≡ Some d → Same w (f d) (g d))
    → Same w (for_some found f) (for_some found g)
found-same c None f g w is a = same-step nothing w
found-same c (Some d) f g w is a = a d is

with_call-same : (c : CallNo) (f g : Call → Step) (w : World) → ((d : Call) → call_of w c ≡ Some d → Same w (f d) (g d))
    → Same w (with_call c f) (with_call c g)
with_call-same c f g w a = looks_at-same (λ v. for_some (call_of v c) f) (λ v. for_some (call_of v c) g) w (found-same c (call_of w c) f g w refl a)

-- in each good world
abbrev InGood : Image → Step → Step → Type 0
InGood p f g = (v : World) → Good p v → Same v f g

calm_then-same : {E : Kind} (p : Image) (h f g : Step) (w : World) → Good p w → From E w h → InGood p f g → Same w (h ▷ f) (h ▷ g)
calm_then-same p h f g w good a b = record {
  leads = λ said. goes_on-same f g (h w said) (b (world_behind (h w said)) (calm-good p w (world_behind (h w said)) good (a.leads said)));
}

-- behind two steps that lead to a good world
behind-same : (p : Image) (f g : Step) (d : Done) → Good p (world_behind (goes_on_with nothing d)) → InGood p f g → goes_on_with f d ≡ goes_on_with g d
behind-same p f g (done v said) good a = (a v good).leads said

behind_two-same : (p : Image) (k f g : Step) (d : Done) → Good p (world_behind (goes_on_with (k ▷ nothing) d)) → InGood p f g
    → goes_on_with (k ▷ f) d ≡ goes_on_with (k ▷ g) d
behind_two-same p k f g (done v said) good a = behind-same p f g (k v said) good a

two_then-same : (p : Image) (h k f g : Step) (w : World) → Onward p w (h ▷ k ▷ nothing) → InGood p f g → Same w (h ▷ k ▷ f) (h ▷ k ▷ g)
two_then-same p h k f g w a b = record { leads = λ said. behind_two-same p k f g (h w said) (a.leads said).good b }

-- ---- queued calls are served

own-queues : (p : Image) (w : World) (o : ObjectNo) → Good p w → queues_are_its_own p w o ≡ true
own-queues p w o good =
    all-from p w (owned_by.Object o) 0 (queues_of (object_of w o)) good (λ k c h. subst (λ n. Stands w (owned_by.Object o) n c) (omega arith) h)

module _ (more : ℕ) (p : Image) (name : Who) where
  serve_calls-same : (m : ProtectedMark) (sent : Option CallNo) → InGood p (serve_calls_more more p name m sent) (serve_calls p name m sent)
  unfolding serve_calls_more
  serve_calls-same m sent w good = record { leads = λ said. serves_end p name m w (own-queues p w m.object good) sent more said }

  go_on_by_mode-same : (m : ProtectedMark) (mode : Mode) → InGood p (go_on_by_mode_more more p name m mode) (go_on_by_mode p name m mode)
  unfolding go_on_by_mode_more go_on_by_mode
  go_on_by_mode-same m Read w good = same-step _ w
  go_on_by_mode-same m Write w good = serve_calls-same m None w good

  -- the call of an entry body has ended, or is sent on: it stands in no queue, and nobody serves it any more
  delivered-same : (m : ProtectedMark) (c : CallNo) (outcome : Outcome) (w : World) → Good p w → Out c w → Idle c w
      → Same w (deliver p TheFinish c outcome ▷ serve_calls_more more p name m None) (deliver p TheFinish c outcome ▷ serve_calls p name m None)
  delivered-same m c outcome w good out idle =
      calm_then-same {E = any_kind} p _ _ _ w good (deliver-from p TheFinish c outcome w good refl out idle (no-steady w) (λ x. refl)) (serve_calls-same m None)

  finish_raised-same : (m : ProtectedMark) (c : Call) (e : Raised) (w : World) → Good p w → Out c.number w → Idle c.number w
      → Same w (finish_raised_more more p name m c e) (finish_raised p name m c e)
  unfolding finish_raised_more finish_raised
  finish_raised-same m c e w good out idle =
      said_then-same TheFinish (line.Finish name c.number (meeting.Raised e)) _ _ w
      (delivered-same m c.number (outcome_by (is_own_call name m.own_call c) e) w good out idle)

  finish_well-same : (m : ProtectedMark) (c : Call) (sending : Option Sending) (w : World) → Good p w → Out c.number w → Idle c.number w
      → ((d : Call) → call_of w c.number ≡ Some d → is_none d.outcome ≡ true)
      → Same w (finish_well_more more p name m c sending) (finish_well p name m c sending)
  unfolding finish_well_more finish_well
  finish_well-same m c None w good out idle none =
      said_then-same TheFinish (line.Finish name c.number meeting.Ok) _ _ w (delivered-same m c.number call_ended.Finished w good out idle)
  finish_well-same m c (Some s) w good out idle none =
      let u = edit_call c.number (sent_call s) w in
      let calm : Calm quiet_kind w u = sent-calm c.number s w out in
      let good_u = calm-good p w u good calm in
      said_then-same TheFinish (line.Finish name c.number meeting.Requeue) _ _ w
      (two_then-same p (send_on c.number s) (enqueue p c.number) _ _ w
      (send_on_then-onward c.number s _ w good out
      (enqueue_then-onward p c.number nothing u good_u (calm-out w u calm c.number out) (calm-idle w u calm c.number idle) (sent-none c.number s w none)
      (λ v next queued idle_v directed frames. nothing-onward v next.good)))
      (serve_calls-same m (Some c.number)))

  finish_call-same : (m : ProtectedMark) (leaving : Leaving) (c : Call) (w : World) → Good p w → Out c.number w → Idle c.number w
      → ((d : Call) → call_of w c.number ≡ Some d → is_none d.outcome ≡ true)
      → Same w (finish_call_more more p name m leaving c) (finish_call p name m leaving c)
  unfolding finish_call_more finish_call
  finish_call-same m (how.Exception e) c w good out idle none = finish_raised-same m c e w good out idle
  finish_call-same m how.End c w good out idle none = finish_well-same m c c.sending w good out idle none
  finish_call-same m how.Return c w good out idle none = finish_well-same m c c.sending w good out idle none
  finish_call-same m (how.Exit loop) c w good out idle none = finish_well-same m c c.sending w good out idle none
  finish_call-same m how.Abort c w good out idle none = finish_well-same m c c.sending w good out idle none
  finish_call-same m how.Terminate c w good out idle none = finish_well-same m c c.sending w good out idle none

  -- ---- the mark on top

  module _ (m : ProtectedMark) (leaving : Leaving) (w : World) (f : Frame) (below : List Frame) (good : Good p w) (awake : Awake name w)
      (top : frames_of w name ≡ f ∷ below) (mark : f.mark ≡ InProtected m) where
    end_operation-same : Same w (end_operation_more more p name m leaving) (end_operation p name m leaving)
    unfolding end_operation_more end_operation
    end_operation-same =
        let u = edit_top_protected name (with_body_left leaving) w in
        let v = edit_top name not_left u in
        let first : Calm quiet_kind w u = unserving-calm (with_body_left leaving) (λ x. refl) (λ x. refl) name w awake in
        let second : Calm quiet_kind u v = (edit_top-alters name not_left (λ x. refl)).at u (calm-awake w u first name awake) in
        changes_then-same (edit_top_protected name (with_body_left leaving)) _ _ w
        (changes_then-same (edit_top name not_left) _ _ u
        (go_on_by_mode-same (with_body_left leaving m) m.mode v (calm-good p w v good (calm-then w u v first second))))

    served-here : (c : CallNo) → m.serves ≡ Some c → 0 < served c w name
    served-here c serves =
        let here : service f.mark ≡ Some c = ap service mark ∙ serves in
        let one : one_if (is_the same_call (service f.mark) c) ≡ 1 = ap (λ x. one_if (is_the same_call x c)) here ∙ ap one_if (eq-eqb c.0 c.0 refl) in
        subst (λ fs. 0 < served_in c (natures fs)) (sym top) (omega (arith, one))

    end_entry_body-same : (c : CallNo) → m.serves ≡ Some c → Same w (end_entry_body_more more p name m leaving c) (end_entry_body p name m leaving c)
    unfolding end_entry_body_more end_entry_body
    end_entry_body-same c serves =
        let u = edit_top_protected name no_longer_serves w in
        let v = edit_top name not_left u in
        let first : Calm quiet_kind w u = unserving-calm no_longer_serves (λ x. refl) (λ x. refl) name w awake in
        let second : Calm quiet_kind u v = (edit_top-alters name not_left (λ x. refl)).at u (calm-awake w u first name awake) in
        let whole : Calm quiet_kind w v = calm-then w u v first second in
        let serving = served-here c serves in
        let idle = calm-idle u v second c (unserved-idle no_longer_serves (λ x. refl) (λ x. refl) p name w c f below m good awake top mark serves serving) in
        changes_then-same (edit_top_protected name no_longer_serves) _ _ w
        (changes_then-same (edit_top name not_left) _ _ u
        (with_call-same c _ _ v (λ d is.
        let number = found-number c v d is in
        let x = whole.calls c d is in
        let was = good.begun name c x.before serving x.found in
        let same = x.steady refl in
        let out = calm-out w v whole c (begun-out p w c x.before good x.found was.0) in
        finish_call-same (no_longer_serves m) leaving d v (calm-good p w v good whole) (subst (λ n. Out n v) (sym number) out)
        (subst (λ n. Idle n v) (sym number) idle)
        (λ y e. let y_is : d ≡ y = one-call d y (sym is ∙ subst (λ n. call_of v n ≡ Some y) number e) in
        ap (λ (z : Call). is_none z.outcome) (sym y_is) ∙ ap is_none same.1 ∙ was.1)))) where
          one-call : (a b : Call) → Some a ≡ Some b → a ≡ b
          one-call a b e = cc

    end_by-same : (serves : Option CallNo) → m.serves ≡ serves
        → Same w (end_in_protected_by_more more p name m leaving serves) (end_in_protected_by p name m leaving serves)
    unfolding end_in_protected_by_more end_in_protected_by
    end_by-same None is = end_operation-same
    end_by-same (Some c) is = end_entry_body-same c is

    pub end_in_protected-same : Same w (end_in_protected_more more p name m leaving) (end_in_protected p name m leaving)
    unfolding end_in_protected_more end_in_protected
    end_in_protected-same = end_by-same m.serves refl
