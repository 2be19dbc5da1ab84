-- Abortable parts on top end with their calls forgotten, and calls end (9.7.4).
use Rattle.std.proofs.Common.{◌≡◌, ℕ, Bool, true, false, cond, not, inl, inr, ◌≤◌, eqb, length, List}
use Rattle.std.proofs.Common.{[], ◌∷◌, Option, Some, None, refl, sym, subst, ap, ◌∙◌, option_map}
use Rattle.std.specs.Prelude.{Ok, Err, is_none, find}
use Rattle.std.proofs.lemmas.Bool.{and_from, and_parts, eq-eqb, false_from_ne_true, true≢false}
use Rattle.ann_base.specs.Results.{◌>>=◌}
use Rattle.ann_base.specs.declared.identities.CallNo.{CallNo}
use Rattle.ann_base.specs.declared.identities.TaskNo.{TaskNo}
use Rattle.trace_text.specs.declared.events.Who.{Who}
use Rattle.world_tables.specs.Lists.{rest_of}
use Rattle.trace_text.specs.declared.events.Who.TheVariants as who
use Rattle.profile_image.specs.declared.image.Image.{Image}
use Rattle.profile_image.specs.declared.numbers.StatementNo.{StatementNo}
use Rattle.profile_machine.specs.declared.run_data.Leaving.TheVariants as how
use Rattle.profile_machine.specs.declared.world.World.{World}
use Rattle.profile_machine.specs.declared.world.lines.Line.TheVariants as line
use Rattle.profile_machine.specs.declared.world.lines.Part.{Part}
use Rattle.profile_machine.specs.declared.world.marks.AbortableMark.{AbortableMark}
use Rattle.profile_machine.specs.declared.world.marks.Frame.{Frame}
use Rattle.profile_machine.specs.declared.world.marks.Mark.{Mark}
use Rattle.profile_machine.specs.declared.world.marks.Mark.TheVariants.{Scope, Handled, InProtected, InAccept, Abortable, InInitialize, InFinalize, InAssign}
use Rattle.profile_machine.specs.declared.world.calls.Call.{Call}
use Rattle.profile_machine.specs.declared.world.calls.Outcome.{Outcome}
use Rattle.profile_machine.specs.declared.world.calls.Outcome.TheVariants as call_ended
use Rattle.profile_machine.specs.declared.world.tasks.Task.{Task}
use Rattle.profile_machine.specs.declared.world.tasks.Waiting.{Waiting}
use Rattle.profile_machine.specs.declared.world.tasks.Waiting.TheVariants as waits_for
use Rattle.profile_image.specs.Words.{same_call, is_the}
use Rattle.profile_machine.specs.Steps.{Step, changes, looks, when, ◌▷◌}
use Rattle.profile_machine.specs.Tasks.{task_at, edit_task_found, edit_task, with_frames, waiting_of}
use Rattle.profile_machine.specs.Dispatching.{ready, to_tail, says_ready}
use Rattle.profile_machine.specs.Frames.{frames_of, pop, pass_on, leaving_of, open_sequence, with_mark}
use Rattle.profile_machine.specs.Appointments.{is_appointed, is_trigger_of}
use Rattle.profile_machine.specs.Calls.{call_of, is_call, edit_call, forget_call, unqueued}
use Rattle.profile_machine.specs.Unwinding.{struck_frame, unwind}
use Rattle.profile_machine.specs.CallEnds.{resume, is_abortable_of, depth_of_abortable, abortable_depth, edit_depth, edit_frame, edit_abortable}
use Rattle.profile_machine.specs.CallEnds.{edit_abortable_at, triggered_mark, trigger_at, trigger_outcome, forget_trigger, run_triggered}
use Rattle.profile_machine.specs.CallEnds.{onward_when_done, ended_by_itself, behind_abortable, end_abortable, end_abortable_in, end_top_abortable}
use Rattle.profile_machine.specs.CallEnds.{waited_mark, is_cancelled, end_wait, waits_for_call, waits_for_end, end_for_abortable, end_for_caller}
use Rattle.profile_machine.specs.CallEnds.{end_for, with_outcome, end_with, end_call, with_results, deliver, gone}
use Rattle.profile_machine.specs.declared.world.lines.Said.{Said}
use Rattle.profile_machine.specs.declared.world.scopes.Variable.{Variable}
use Rattle.profile_image.specs.declared.values.Value.{Value}
use Rattle.profile_machine.specs.Operators.{Valued, checked}
use Rattle.profile_image.specs.Program.{declaration_of}
use Rattle.profile_machine.specs.Scopes.{write_cell}
use Rattle.profile_machine.specs.CallEnds.{store, or_stored, copy_back}
use Rattle.world_laws.proofs.Queues.CallChanges.{Edits, edit_call-calm, edited_call-same, forget_call-calm, forgotten, unqueued-calm}
use Rattle.world_laws.proofs.Queues.CallLists.{same-call}
use Rattle.world_laws.proofs.Queues.Calming.{task-edited}
use Rattle.world_laws.proofs.Queues.Kept.CallEnds.{found-number, readied, readied-awake, readied-calm, readied-frames}
use Rattle.world_laws.proofs.Queues.Kept.CallEnds.{readied-unwaited, ready_then-from, resume-from, unwind-from, with_results-calm}
use Rattle.world_laws.proofs.Queues.Kept.Combinators.{From, Keeps, Quiets, branch-keeps, calms-from, changes-calms, changes-from}
use Rattle.world_laws.proofs.Queues.Kept.Combinators.{changes_then-from, keeps-from, looks_at-from, nothing-from, nothing-keeps}
use Rattle.world_laws.proofs.Queues.Kept.Combinators.{says-calms, then-after, then-calms, then-from, when-from, when-keeps, with_call-from}
use Rattle.world_laws.proofs.Queues.Kept.Frames.{goes-keeps, leaves-keeps, open_sequence-keeps, pass_on-keeps, raises-keeps}
use Rattle.world_laws.proofs.Queues.Kept.Parts.{call_at, call_at-awaits, call_at-depth, edit_abortable_at-calm, edited-ending}
use Rattle.world_laws.proofs.Queues.Softening.{Unset, marks-calm, pop-calm}
use Rattle.world_laws.proofs.Queues.Standing.{Awake, Calm, Ended, Good, Idle, Kind, Out, any_kind, awaits_at, awaits_part, calls_part, calm-awake, calm-ended}
use Rattle.world_laws.proofs.Queues.Standing.{calm-good, calm-idle, calm-out, calm-then, ended-out, is_ending, nature, natures, part_of, waits_end, GoodBut}
use Rattle.machine_laws.proofs.Kept.Combinators.{world_behind}

-- ---- a part is triggered

unawaited : (name : Who) (depth : ℕ) (c : CallNo) (w : World) → call_at depth (frames_of w name) ≡ Some (Some c) → (n : TaskNo) → name ≡ who.Task n
    → is_appointed (is_trigger_of n depth) w ≡ true → awaits_at depth (natures (frames_of w name)) ≡ true → ⊥
unawaited name depth c w at n is set h = clash (sym at ∙ call_at-awaits depth (frames_of w name) h) where
  clash : Some (Some c) ≡ Some None → ⊥
  clash e = cc

struck-natures : (depth : ℕ) (fs : List Frame) → natures (edit_depth depth struck_frame fs) ≡ natures fs
struck-natures depth [] = refl
struck-natures depth (x ∷ xs) = step (eqb (length xs) depth) (struck-natures depth xs) where
  step : (b : Bool) → natures (edit_depth depth struck_frame xs) ≡ natures xs
      → natures (cond b (struck_frame x ∷ xs) (x ∷ edit_depth depth struck_frame xs)) ≡ natures (x ∷ xs)
  step true e = refl
  step false e = ap (λ ns. nature x.mark ∷ ns) e

struck-ending : (c : CallNo) (depth : ℕ) (fs : List Frame) → is_ending c fs ≡ true → is_ending c (edit_depth depth struck_frame fs) ≡ true
struck-ending c depth [] h = h
struck-ending c depth (x ∷ xs) h = step (eqb (length xs) depth) where
  step : (b : Bool) → is_ending c (cond b (struck_frame x ∷ xs) (x ∷ edit_depth depth struck_frame xs)) ≡ true
  step true = h
  step false = h

struck-quiets : {E : Kind} (name : Who) (depth : ℕ) → Quiets E (edit_frame name depth struck_frame)
struck-quiets name depth = record { at = λ w. marks-calm name (edit_depth depth struck_frame) w (struck-natures depth) (λ c fs h. struck-ending c depth fs h) }

pub trigger_at-from : {E : Kind} (part : Part) (t : TaskNo) (depth : ℕ) (w : World) → Calm E w (edit_abortable_at (who.Task t) depth triggered_mark w)
    → From E w (trigger_at part t depth)
unfolding trigger_at
trigger_at-from part t depth w calm =
    then-after (changes (edit_abortable_at (who.Task t) depth triggered_mark)) _ w (changes-from (edit_abortable_at (who.Task t) depth triggered_mark) w calm)
    (λ v later. calms-from _ v (then-calms _ _ (says-calms part (line.Trigger t)) (changes-calms _ (struck-quiets (who.Task t) depth))))

-- ---- the part on top ends, and its call is forgotten

found-forgotten : (name : Who) (f : Task → Task) (c : CallNo) (w : World) (found : Option Task)
    → edit_task_found name f (forget_call c w) found ≡ forget_call c (edit_task_found name f w found)
found-forgotten name f c w None = refl
found-forgotten (who.Task n) f c w (Some t) = refl
found-forgotten who.Agent f c w (Some t) = refl

same-found : (name : Who) (c : CallNo) (w : World) → task_at (forget_call c w) name ≡ task_at w name
same-found (who.Task n) c w = refl
same-found who.Agent c w = refl

forgotten-edited : (name : Who) (f : Task → Task) (c : CallNo) (w : World) → edit_task name f (forget_call c w) ≡ forget_call c (edit_task name f w)
forgotten-edited name f c w = ap (edit_task_found name f (forget_call c w)) (same-found name c w) ∙ found-forgotten name f c w (task_at w name)

frames-forgotten : (name : Who) (c : CallNo) (w : World) → frames_of (forget_call c w) name ≡ frames_of w name
frames-forgotten (who.Task n) c w = refl
frames-forgotten who.Agent c w = refl

waiting-forgotten : (name : Who) (c : CallNo) (w : World) → waiting_of (forget_call c w) name ≡ waiting_of w name
waiting-forgotten (who.Task n) c w = refl
waiting-forgotten who.Agent c w = refl

unset-forgotten : (name : Who) (c : CallNo) (w : World) (fs : List Frame) → Unset name w fs → Unset name (forget_call c w) fs
unset-forgotten name c w [] unset = tt
unset-forgotten name c w (f ∷ fs) unset = unset

-- whoever has come to its end at the call of the part on top
ending-call : (c : CallNo) (fs : List Frame) (f : Frame) (below : List Frame) (m : AbortableMark) → fs ≡ f ∷ below → f.mark ≡ Abortable m
    → is_ending c fs ≡ true → m.call ≡ Some c
ending-call c fs f below m is mark h =
    let top = subst (λ gs. is_ending c gs ≡ true) is h in
    let here : calls_part c (part_of f.mark) ≡ true = (and_parts (is_none f.onward) (calls_part c (part_of f.mark)) top).1 in
    the-one m.call (subst (λ x. calls_part c (part_of x) ≡ true) mark here) where
      the-one : (x : Option CallNo) → is_the same_call x c ≡ true → x ≡ Some c
      the-one None e = cc
      the-one (Some d) e = ap Some (same-call d c e)

some-none : {X : Type 0} (x : X) → None ≡ Some x → ⊥
some-none x e = cc

module _ {late : CallNo → Bool} (p : Image) (name : Who) (f : Frame) (below : List Frame) (m : AbortableMark) (w : World) (good : GoodBut p late w)
    (top : frames_of w name ≡ f ∷ below) (mark : f.mark ≡ Abortable m) (unset : Unset name w (frames_of w name)) where
  -- of a delay nobody waits for a call
  ends-none : m.call ≡ None → (c : CallNo) (d : Call) → waiting_of w name ≡ waits_end c → call_of w c ≡ Some d → ⊥
  ends-none none c d is e = some-none c (sym none ∙ ending-call c (frames_of w name) f below m top mark (good.ends name c d is e))

  ends-some : (x : CallNo) → m.call ≡ Some x → (c : CallNo) (d : Call) → waiting_of w name ≡ waits_end c → call_of w c ≡ Some d → x ≡ c
  ends-some x call c d is e = some-same x c (sym call ∙ ending-call c (frames_of w name) f below m top mark (good.ends name c d is e)) where
    some-same : (a b : CallNo) → Some a ≡ Some b → a ≡ b
    some-same a b e = cc

  popped-calm : {E : Kind} (x : CallNo) → E.steady name ≡ false → E.stay x ≡ false → m.call ≡ Some x → Out x w → Calm E w (forget_call x (pop name w))
  popped-calm {E = E} x free go call out =
      let u = forget_call x w in
      let first : Calm E w u = forget_call-calm x w go out in
      subst (Calm E w) (forgotten-edited name (λ t. with_frames (rest_of t.frames) t) x w)
      (calm-then w u (pop name u) first
      (pop-calm name u free (subst (Unset name u) (sym (frames-forgotten name x w)) (unset-forgotten name x w (frames_of w name) unset))
      (λ c d is e i. let was = first.calls c d e in
      let one : x ≡ c = ends-some x call c was.before (sym (waiting-forgotten name x w) ∙ is) was.found in
      some-none d (sym (forgotten x w) ∙ subst (λ n. call_of u n ≡ Some d) (sym one) e))))

  ended-by : {E : Kind} (call : Option CallNo) → E.steady name ≡ false → ((x : CallNo) → m.call ≡ Some x → E.stay x ≡ false) → m.call ≡ call
      → ((c : CallNo) → m.call ≡ Some c → Out c w) → Calm E w (forget_trigger call (pop name w)) × Awake name (forget_trigger call (pop name w))
  unfolding Awake
  ended-by {E = E} None free go is out =
      let calm : Calm E w (pop name w) = pop-calm name w free unset (λ c d wait e i. ends-none is c d wait e) in
      (calm, λ c d wait e. let was = calm.calls c d e in ends-none is c was.before (calm.ends name c wait).0 was.found)
  ended-by (Some x) free go is out =
      let calm = popped-calm x free (go x is) is (out x is) in (
        calm,
        λ c d wait e. let was = calm.calls c d e in
            let one : x ≡ c = ends-some x is c was.before (calm.ends name c wait).0 was.found in
            some-none d (sym (forgotten x (pop name w)) ∙ subst (λ n. call_of (forget_call x (pop name w)) n ≡ Some d) (sym one) e),
      )

  pub part-ended : {E : Kind} → E.steady name ≡ false → ((x : CallNo) → m.call ≡ Some x → E.stay x ≡ false) → ((c : CallNo) → m.call ≡ Some c → Out c w)
      → Calm E w (forget_trigger m.call (pop name w)) × Awake name (forget_trigger m.call (pop name w))
  part-ended free go out = ended-by m.call free go refl out

run_triggered-keeps : {E : Kind} (p : Image) (part : Part) (name : Who) (select : StatementNo) (outcome : Outcome)
    → Keeps E name (run_triggered p part name select outcome)
unfolding run_triggered
run_triggered-keeps p part name select call_ended.Finished = goes-keeps name (onward_when_done p select)
run_triggered-keeps p part name select call_ended.Cancelled = nothing-keeps
run_triggered-keeps p part name select (call_ended.ToRaise e) = raises-keeps part name e
run_triggered-keeps p part name select (call_ended.WasRaised e) = leaves-keeps name (how.Exception e)

behind_abortable-keeps : {E : Kind} (p : Image) (part : Part) (name : Who) (m : AbortableMark) (outcome : Outcome)
    → Keeps E name (behind_abortable p part name m outcome)
unfolding behind_abortable
behind_abortable-keeps p part name m outcome = when-keeps m.triggered _ (run_triggered-keeps p part name m.select outcome)

-- what is said of the part on top, if one is there
pub record EndsWell (E : Kind) (late : CallNo → Bool) (p : Image) (name : Who) (w : World) : Type 0 where
  pub good : GoodBut p late w
  pub unset : Unset name w (frames_of w name)
  pub out : (f : Frame) (below : List Frame) (m : AbortableMark) (c : CallNo) → frames_of w name ≡ f ∷ below → f.mark ≡ Abortable m → m.call ≡ Some c → Out c w
  pub stays : (f : Frame) (below : List Frame) (m : AbortableMark) (c : CallNo) → frames_of w name ≡ f ∷ below → f.mark ≡ Abortable m → m.call ≡ Some c
      → E.stay c ≡ false

end_abortable-from : {E : Kind} {late : CallNo → Bool} (p : Image) (part : Part) (name : Who) (m : AbortableMark) (f : Frame) (below : List Frame) (w : World)
    → E.steady name ≡ false → EndsWell E late p name w → frames_of w name ≡ f ∷ below → f.mark ≡ Abortable m → From E w (end_abortable p part name m f below)
unfolding end_abortable
end_abortable-from p part name m f below w free ends top mark =
    let v = forget_trigger m.call (pop name w) in
    ended-then (part-ended p name f below m w ends.good top mark ends.unset free (λ c call. ends.stays f below m c top mark call)
    (λ c call. ends.out f below m c top mark call)) where
      ended-then : {E : Kind} → Calm E w (forget_trigger m.call (pop name w)) × Awake name (forget_trigger m.call (pop name w))
          → From E w (looks
          (λ w. changes (pop name) ▷ changes (forget_trigger m.call)
          ▷ elim (ended_by_itself f below) as (λ _. Step) [
            | true ↦ behind_abortable p part name m (trigger_outcome w m.call)
            | false ↦ pass_on p name (leaving_of f)
          ]))
      ended-then and_from = record {
        leads = λ said. calm-then w (forget_trigger m.call (pop name w)) _ and_from.0
            ((keeps-from (elim (ended_by_itself f below) as (λ _. Step) [
              | true ↦ behind_abortable p part name m (trigger_outcome w m.call)
              | false ↦ pass_on p name (leaving_of f)
            ])
            (forget_trigger m.call (pop name w)) and_from.1
            (branch-keeps (ended_by_itself f below) (behind_abortable p part name m (trigger_outcome w m.call)) (pass_on p name (leaving_of f))
            (behind_abortable-keeps p part name m (trigger_outcome w m.call)) (pass_on-keeps p name (leaving_of f)))).leads said);
      }

end_abortable_in-from : {E : Kind} {late : CallNo → Bool} (p : Image) (part : Part) (name : Who) (f : Frame) (below : List Frame) (mark : Mark) (w : World)
    → E.steady name ≡ false → EndsWell E late p name w → frames_of w name ≡ f ∷ below → f.mark ≡ mark → From E w (end_abortable_in p part name f below mark)
unfolding end_abortable_in
end_abortable_in-from p part name f below (Abortable m) w free ends top is = end_abortable-from p part name m f below w free ends top is
end_abortable_in-from p part name f below _ w free ends top is = nothing-from w

end_top_abortable-from : {E : Kind} {late : CallNo → Bool} (p : Image) (part : Part) (name : Who) (frames : List Frame) (w : World) → E.steady name ≡ false
    → EndsWell E late p name w → frames_of w name ≡ frames → From E w (end_top_abortable p part name frames)
unfolding end_top_abortable
end_top_abortable-from p part name [] w free ends is = nothing-from w
end_top_abortable-from p part name (f ∷ below) w free ends is = end_abortable_in-from p part name f below f.mark w free ends is refl

pub end_found-from : {E : Kind} {late : CallNo → Bool} (p : Image) (part : Part) (name : Who) (w : World) → E.steady name ≡ false → EndsWell E late p name w
    → From E w (looks (λ v. end_top_abortable p part name (frames_of v name)))
end_found-from p part name w free ends =
    looks_at-from (λ v. end_top_abortable p part name (frames_of v name)) w (end_top_abortable-from p part name (frames_of w name) w free ends refl)

-- ---- steps behind which the caller waits for the end of the call no more

abbrev pub Unwaited : Call → World → Type 0
Unwaited c w = waiting_of w (who.Task c.caller) ≡ waits_end c.number → ⊥

pub unwaited-on : {E : Kind} (c : Call) (w v : World) → Calm E w v → Unwaited c w → Unwaited c v
unwaited-on c w v calm un is = un (calm.ends (who.Task c.caller) c.number is).0

pub record Leaves (E : Kind) (c : Call) (w : World) (step : Step) : Type 0 where
  pub leads : (said : List Said) → Calm E w (world_behind (step w said)) × Unwaited c (world_behind (step w said))

pub leaves-from : {E : Kind} (c : Call) (w : World) (step : Step) → Leaves E c w step → From E w step
leaves-from c w step a = record { leads = λ said. (a.leads said).0 }

unwaited-leaves : {E : Kind} (c : Call) (w : World) (step : Step) → Unwaited c w → From E w step → Leaves E c w step
unwaited-leaves c w step un a = record { leads = λ said. (a.leads said, unwaited-on c w (world_behind (step w said)) (a.leads said) un) }

looks_at-leaves : {E : Kind} (c : Call) (f : World → Step) (w : World) → Leaves E c w (f w) → Leaves E c w (looks f)
looks_at-leaves c f w a = record { leads = λ said. a.leads said }

changes_then-leaves : {E : Kind} (c : Call) (f : World → World) (g : Step) (w : World) → Calm E w (f w) → Leaves E c (f w) g → Leaves E c w (changes f ▷ g)
changes_then-leaves c f g w a b = record { leads = λ said. (calm-then w (f w) (world_behind (g (f w) said)) a (b.leads said).0, (b.leads said).1) }

on-from : {E : Kind} (c : Call) (w v u : World) → Calm E w v → Unwaited c v → Calm E v u → Calm E w u × Unwaited c u
on-from c w v u a un b = (calm-then w v u a b, unwaited-on c v u b un)

ready_then-leaves : {E : Kind} (p : Image) (part : Part) (c : Call) (g : Step) (w : World) → From E (readied p (who.Task c.caller) w) g
    → Leaves E c w (ready p part (who.Task c.caller) ▷ g)
unfolding ready to_tail says_ready
ready_then-leaves p part c g w k = record {
  leads =
      λ said.
      on-from c w (readied p (who.Task c.caller) w) _ (readied-calm p (who.Task c.caller) w) (readied-unwaited p (who.Task c.caller) w c.number) (k.leads _);
}

ending-depth : (c : CallNo) (fs : List Frame) → is_ending c fs ≡ true → depth_of_abortable c fs ≡ None → ⊥
ending-depth c [] h e = absurd (true≢false (sym h))
ending-depth c (f ∷ fs) h e = by_mark f.mark refl ((and_parts (is_none f.onward) (calls_part c (part_of f.mark)) h).1) where
  is-some : (b : Bool) → b ≡ true → cond b (Some (length fs)) (depth_of_abortable c fs) ≡ None → ⊥
  is-some true is k = cc
  is-some false is k = cc

  by_mark : (mark : Mark) → f.mark ≡ mark → calls_part c (part_of mark) ≡ true → ⊥
  by_mark (Abortable m) is k = is-some (is_abortable_of c f.mark) (ap (is_abortable_of c) is ∙ k) e
  by_mark (Scope m) is k = true≢false (sym k)
  by_mark (Handled s) is k = true≢false (sym k)
  by_mark (InProtected m) is k = true≢false (sym k)
  by_mark (InAccept m) is k = true≢false (sym k)
  by_mark (InInitialize l) is k = true≢false (sym k)
  by_mark (InFinalize o) is k = true≢false (sym k)
  by_mark (InAssign m) is k = true≢false (sym k)

not-waiting : (c : CallNo) (waiting : Option Waiting) → waits_for_end c waiting ≡ false → waiting ≡ waits_end c → ⊥
not-waiting c waiting other is = true≢false (sym (eq-eqb c.0 c.0 refl) ∙ (sym (ap (waits_for_end c) is) ∙ other))

-- ---- the wait for the end of a call is over

waits-this : (c : CallNo) (waiting : Option Waiting) → waits_for_end c waiting ≡ true → waiting ≡ waits_end c
waits-this c None e = cc
waits-this c (Some waits_for.Activation) e = cc
waits-this c (Some waits_for.Moment) e = cc
waits-this c (Some (waits_for.Call d)) e = cc
waits-this c (Some (waits_for.EndOfCall d)) e = ap waits_end (sym (same-call c d e))
waits-this c (Some (waits_for.Accept s)) e = cc
waits-this c (Some (waits_for.Select accepts delay terminate)) e = cc
waits-this c (Some (waits_for.Dependents r)) e = cc
waits-this c (Some waits_for.Release) e = cc

module _ {late : CallNo → Bool} (p : Image) (part : Part) (c : Call) (depth : ℕ) (outcome : Outcome) (w : World) (good : GoodBut p late w)
    (end : Ended c.number w) (at : call_at depth (frames_of w (who.Task c.caller)) ≡ Some (Some c.number))
    (ending : is_ending c.number (frames_of w (who.Task c.caller)) ≡ true) where
  abbrev waiter : Who
  waiter = who.Task c.caller

  abbrev waited : World
  waited = edit_abortable_at waiter depth (waited_mark (not (is_cancelled outcome))) (readied p waiter w)

  waited-calm : {E : Kind} → Calm E w waited
  waited-calm {E = E} =
      let v = readied p waiter w in
      let first : Calm E w v = readied-calm p waiter w in
      let at_v : call_at depth (frames_of v waiter) ≡ Some (Some c.number) = ap (call_at depth) (readied-frames p waiter w waiter) ∙ at in
      calm-then w v waited first
      (edit_abortable_at-calm (waited_mark (not (is_cancelled outcome))) (λ m. refl) waiter depth (Some c.number) v at_v
      (λ x e. subst (λ n. Ended n v) (some-same c.number x e) (calm-ended w v first c.number end)) (unawaited waiter depth c.number v at_v)
      (λ is none. some-none c.number (sym none))) where
        some-same : (a b : CallNo) → Some a ≡ Some b → a ≡ b
        some-same a b e = cc

  ending-waited : is_ending c.number (frames_of waited waiter) ≡ true
  ending-waited =
      task-edited waiter (λ t. with_frames (edit_depth depth (λ x. with_mark (edit_abortable (waited_mark (not (is_cancelled outcome))) x.mark) x) t.frames) t)
      (readied p waiter w) (λ t. refl) (λ m t u. is_ending c.number t.frames ≡ true → is_ending c.number u.frames ≡ true) (λ m h. h)
      (λ h. edited-ending (waited_mark (not (is_cancelled outcome))) (λ m. refl) c.number depth (frames_of (readied p waiter w) waiter) h) waiter
      (ap (is_ending c.number) (readied-frames p waiter w waiter) ∙ ending)

  ended-waited : {E : Kind} → E.stay c.number ≡ false → EndsWell E late p waiter waited
  ended-waited {E = E} go =
      let calm : Calm any_kind w waited = waited-calm in
      let good_then = calm-good p w waited good calm in
      let end_then = calm-ended w waited calm c.number end in
      record {
        good = good_then;
        unset = unset-ending waiter waited (frames_of waited waiter) ending-waited;
        out =
            λ f below m x top mark call. subst (λ n. Out n waited)
            (some-one c.number x (sym (ending-call c.number (frames_of waited waiter) f below m top mark ending-waited) ∙ call))
            (ended-out p waited c.number good_then end_then);
        stays =
            λ f below m x top mark call. subst (λ n. E.stay n ≡ false)
            (some-one c.number x (sym (ending-call c.number (frames_of waited waiter) f below m top mark ending-waited) ∙ call)) go;
      } where
        some-one : (a b : CallNo) → Some a ≡ Some b → a ≡ b
        some-one a b e = cc

        call-none : (c : CallNo) (x : Option (Option CallNo × Bool)) → calls_part c x ≡ true → awaits_part x ≡ true → ⊥
        call-none c None h k = cc
        call-none c (Some y) h k = by_call y.0 h ((and_parts (is_none y.0) (not y.1) k).0) where
          by_call : (z : Option CallNo) → is_the same_call z c ≡ true → is_none z ≡ true → ⊥
          by_call None e f = cc
          by_call (Some d) e f = cc

        unset-ending : (name : Who) (v : World) (fs : List Frame) → is_ending c.number fs ≡ true → Unset name v fs
        unset-ending name v [] h = tt
        unset-ending name v (f ∷ fs) h =
            λ n is set awaits. call-none c.number (part_of f.mark) ((and_parts (is_none f.onward) (calls_part c.number (part_of f.mark)) h).1) awaits

  waited-step : (E : Kind) → Calm E (readied p waiter w) waited
  waited-step E =
      let v = readied p waiter w in
      let first : Calm E w v = readied-calm p waiter w in
      let at_v : call_at depth (frames_of v waiter) ≡ Some (Some c.number) = ap (call_at depth) (readied-frames p waiter w waiter) ∙ at in
      edit_abortable_at-calm (waited_mark (not (is_cancelled outcome))) (λ m. refl) waiter depth (Some c.number) v at_v
      (λ x e. subst (λ n. Ended n v) (some-one c.number x e) (calm-ended w v first c.number end)) (unawaited waiter depth c.number v at_v)
      (λ is none. some-none c.number (sym none)) where
        some-one : (a b : CallNo) → Some a ≡ Some b → a ≡ b
        some-one a b e = cc

  pub end_wait-leaves : {E : Kind} → E.steady waiter ≡ false → E.stay c.number ≡ false → Leaves E c w (end_wait p part c depth outcome)
  unfolding end_wait
  end_wait-leaves {E = E} free go =
      let v = readied p waiter w in
      ready_then-leaves p part c _ w
      (changes_then-from (edit_abortable_at waiter depth (waited_mark (not (is_cancelled outcome)))) _ v (waited-step E)
      (then-from _ _ waited (calm-awake v waited (waited-step any_kind) waiter (readied-awake p waiter w))
      (end_found-from p part waiter waited free (ended-waited go)) (open_sequence-keeps p part waiter)))

-- ---- a call ends

-- those who are steady are awake
abbrev pub AllAwake : Kind → World → Type 0
AllAwake E w = (a : Who) → E.steady a ≡ true → Awake a w

pub all_awake-on : (E : Kind) {K : Kind} (w v : World) → Calm K w v → AllAwake E w → AllAwake E v
all_awake-on E w v calm awake a is = calm-awake w v calm a (awake a is)

waits-not : (a : Who) (c : CallNo) (d : Call) (w : World) → Awake a w → waiting_of w a ≡ waits_end c → call_of w c ≡ Some d → ⊥
unfolding Awake
waits-not a c d w awake is e = awake c d is e

-- who waits for the end of the call waits for one that is there
abbrev pub Seen_if : Call → World → Type 0
Seen_if c w = waiting_of w (who.Task c.caller) ≡ waits_end c.number → (d : Call) × (call_of w c.number ≡ Some d)

-- the call has an outcome, and stands in no queue; its caller is told
module _ {E : Kind} {late : CallNo → Bool} (p : Image) (part : Part) (c : Call) (outcome : Outcome) (w : World) (good : GoodBut p late w) (seen : Seen_if c w)
    (end : Ended c.number w) (awake : AllAwake E w) (go : E.stay c.number ≡ false) where
  end_for_abortable-by : (depth : ℕ) → abortable_depth w c ≡ Some depth → (b : Bool) → waits_for_end c.number (waiting_of w (who.Task c.caller)) ≡ b
      → Leaves E c w (elim b as (λ _. Step) [ true ↦ end_wait p part c depth outcome | false ↦ trigger_at part c.caller depth ])
  end_for_abortable-by depth at true is =
      let there = seen (waits-this c.number (waiting_of w (who.Task c.caller)) is) in
      end_wait-leaves p part c depth outcome w good end (call_at-depth c.number depth (frames_of w (who.Task c.caller)) at)
      (good.ends (who.Task c.caller) c.number there.0 (waits-this c.number (waiting_of w (who.Task c.caller)) is) there.1)
      (false_from_ne_true (E.steady (who.Task c.caller))
      (λ steady. waits-not (who.Task c.caller) c.number there.0 w (awake (who.Task c.caller) steady)
      (waits-this c.number (waiting_of w (who.Task c.caller)) is) there.1)) go
  end_for_abortable-by depth at false is =
      let found = call_at-depth c.number depth (frames_of w (who.Task c.caller)) at in
      unwaited-leaves c w (trigger_at part c.caller depth) (not-waiting c.number (waiting_of w (who.Task c.caller)) is)
      (trigger_at-from part c.caller depth w
      (edit_abortable_at-calm triggered_mark (λ m. refl) (who.Task c.caller) depth (Some c.number) w found
      (λ x e. subst (λ n. Ended n w) (some-one c.number x e) end) (unawaited (who.Task c.caller) depth c.number w found)
      (λ is none. some-none c.number (sym none)))) where
        some-one : (a b : CallNo) → Some a ≡ Some b → a ≡ b
        some-one a b e = cc

  end_for_caller-from : From E w (end_for_caller p part c outcome)
  unfolding end_for_caller
  end_for_caller-from =
      looks_at-from
      (λ v. when (waits_for_call c.number (waiting_of v (who.Task c.caller)))
      (ready p part (who.Task c.caller) ▷ resume p part c outcome ▷ open_sequence p part (who.Task c.caller))) w
      (when-from (waits_for_call c.number (waiting_of w (who.Task c.caller))) _ w (λ is.
      let name = who.Task c.caller in
      let v = readied p name w in
      let first : Calm E w v = readied-calm p name w in
      let good_then = calm-good p w v good first in
      let awake = readied-awake p name w in
      ready_then-from p part name _ w
      (then-from _ _ v awake (resume-from p part c outcome v go (ended-out p v c.number good_then (calm-ended w v first c.number end)) awake)
      (open_sequence-keeps p part name))))

  end_for-leaves : (depth : Option ℕ) → abortable_depth w c ≡ depth → Leaves E c w (end_for p part c outcome depth)
  unfolding end_for end_for_abortable
  end_for-leaves (Some depth) at =
      looks_at-leaves c
      (λ v. elim (waits_for_end c.number (waiting_of v (who.Task c.caller))) as (λ _. Step) [
        | true ↦ end_wait p part c depth outcome
        | false ↦ trigger_at part c.caller depth
      ]) w
      (end_for_abortable-by depth at (waits_for_end c.number (waiting_of w (who.Task c.caller))) refl)
  end_for-leaves None at =
      unwaited-leaves c w (end_for_caller p part c outcome)
      (λ waits. let there = seen waits in
      ending-depth c.number (frames_of w (who.Task c.caller)) (good.ends (who.Task c.caller) c.number there.0 waits there.1) at) end_for_caller-from

-- the one call that may end
abbrev pub MayEnd : Kind → CallNo → Type 0
MayEnd E c = E.may c ≡ true

outcome-edits : (E : Kind) (w : World) (c : CallNo) (outcome : Outcome) (x : Call) → MayEnd E c → Out c w → Idle c w → Edits E w c x (with_outcome outcome x)
outcome-edits E w c outcome x may out idle = record {
  directed = inl (refl, refl);
  firm = inl refl;
  caller = refl;
  outcome = λ h. refl;
  steady = inr (may, out, idle);
}

with_outcome-ended : (c : CallNo) (outcome : Outcome) (w : World) → c.0 ≤ w.drawn.calls → Ended c (edit_call c (with_outcome outcome) w)
with_outcome-ended c outcome w low = (low, λ d e. by_found (call_of w c) d (sym (edited_call-same c (with_outcome outcome) w (λ x. refl)) ∙ e)) where
  by_found : (found : Option Call) (d : Call) → option_map (with_outcome outcome) found ≡ Some d → is_none d.outcome ≡ false
  by_found None d e = cc
  by_found (Some x) d e = let one : with_outcome outcome x ≡ d = cc in ap (λ (y : Call). is_none y.outcome) (sym one)

still-there_as : (c : CallNo) (outcome : Outcome) (w : World) (d : Call) → call_of w c ≡ Some d
    → call_of (edit_call c (with_outcome outcome) w) c ≡ Some (with_outcome outcome d)
still-there_as c outcome w d is = edited_call-same c (with_outcome outcome) w (λ x. refl) ∙ ap (option_map (with_outcome outcome)) is

-- it is there, or is there no more, and then nobody waits for it
end_with-leaves : {E : Kind} {late : CallNo → Bool} (p : Image) (part : Part) (c : Call) (outcome : Outcome) (w : World) → GoodBut p late w → Seen_if c w
    → c.number.0 ≤ w.drawn.calls → MayEnd E c.number → Out c.number w → Idle c.number w → AllAwake E w → E.stay c.number ≡ false
    → Leaves E c w (end_with p part c outcome)
unfolding end_with
end_with-leaves {E = E} p part c outcome w good seen low may out idle awake go =
    let v = edit_call c.number (with_outcome outcome) w in
    let calm : Calm E w v = edit_call-calm c.number (with_outcome outcome) w (λ x. refl) (λ x. outcome-edits E w c.number outcome x may out idle) in
    changes_then-leaves c (edit_call c.number (with_outcome outcome)) _ w calm
    (looks_at-leaves c (λ u. end_for p part c outcome (abortable_depth u c)) v (end_for-leaves p part c outcome v (calm-good p w v good calm)
    (λ waits.
    let there = seen (calm.ends (who.Task c.caller) c.number waits).0 in (with_outcome outcome there.0, still-there_as c.number outcome w there.0 there.1))
    (with_outcome-ended c.number outcome w low)
    (all_awake-on E w v calm awake) go
    (abortable_depth v c) refl))

abbrev SameCalls : World → Valued World → Type 0
SameCalls w (Ok v) = v.calls ≡ w.calls
SameCalls w (Err e) = Unit {0}

bound-calls : {X : Type 0} (x : Valued X) (f : X → World) (w : World) → ((y : X) → (f y).calls ≡ w.calls) → SameCalls w (x >>= λ y. Ok (f y))
bound-calls (Ok x) f w a = a x
bound-calls (Err e) f w a = tt

store-calls : (p : Image) (target : Variable) (v : Value) (w : World) → SameCalls w (store p target v w)
store-calls p target v w = bound-calls (checked (declaration_of p target.declared).constraint v) (λ x. write_cell target.within target.place x w) w (λ x. refl)

or_stored-calls : (result : Valued World) (again : World → World × Bool) (w : World) → SameCalls w result → ((v : World) → (again v).0.calls ≡ v.calls)
    → (or_stored w result again).0.calls ≡ w.calls
or_stored-calls (Ok v) again w a k = k v ∙ a
or_stored-calls (Err e) again w a k = refl

copy_back-calls : (p : Image) (results : List (Option Variable)) (values : List Value) (w : World) → (copy_back p results values w).0.calls ≡ w.calls
copy_back-calls p [] values w = refl
copy_back-calls p (None ∷ results) [] w = refl
copy_back-calls p (None ∷ results) (v ∷ values) w = copy_back-calls p results values w
copy_back-calls p (Some target ∷ results) [] w = refl
copy_back-calls p (Some target ∷ results) (v ∷ values) w =
    or_stored-calls (store p target v w) (copy_back p results values) w (store-calls p target v w) (copy_back-calls p results values)

with_results-calls : (p : Image) (c : Call) (outcome : Outcome) (w : World) → (with_results p c outcome w).0.calls ≡ w.calls
with_results-calls p c call_ended.Finished w = copy_back-calls p c.results c.values w
with_results-calls p c call_ended.Cancelled w = refl
with_results-calls p c (call_ended.ToRaise e) w = refl
with_results-calls p c (call_ended.WasRaised e) w = refl

pub end_call-leaves : {E : Kind} {late : CallNo → Bool} (p : Image) (part : Part) (c : Call) (outcome : Outcome) (w : World) → GoodBut p late w → Seen_if c w
    → c.number.0 ≤ w.drawn.calls → MayEnd E c.number → Out c.number w → Idle c.number w → AllAwake E w → E.stay c.number ≡ false
    → Leaves E c w (end_call p part c outcome)
unfolding end_call
end_call-leaves {E = E} p part c outcome w good seen low may out idle awake go =
    let r = with_results p c outcome w in
    let calm : Calm E w r.0 = with_results-calm p c outcome w in
    let same = with_results-calls p c outcome w in
    looks_at-leaves c (λ v. changes (λ _. (with_results p c outcome v).0) ▷ end_with p part c (with_results p c outcome v).1) w
    (changes_then-leaves c (λ _. r.0) (end_with p part c r.1) w calm
    (end_with-leaves p part c r.1 r.0 (calm-good p w r.0 good calm)
    (λ waits. let there = seen (calm.ends (who.Task c.caller) c.number waits).0 in (there.0, ap (λ ds. find (is_call c.number) ds) same ∙ there.1))
    (subst (λ n. c.number.0 ≤ n) (sym calm.drawn) low) may (calm-out w r.0 calm c.number out) (calm-idle w r.0 calm c.number idle)
    (all_awake-on E w r.0 calm awake) go))

pub end_call-from : {E : Kind} (p : Image) (part : Part) (c : Call) (outcome : Outcome) (w : World) (d : Call) → Good p w → call_of w c.number ≡ Some d
    → MayEnd E c.number → Out c.number w → Idle c.number w → AllAwake E w → E.stay c.number ≡ false → From E w (end_call p part c outcome)
end_call-from p part c outcome w d good is may out idle awake go =
    leaves-from c w (end_call p part c outcome) (end_call-leaves p part c outcome w good (λ waits. (d, is)) (good.known c.number d is) may out idle awake go)

-- a call ends, and its caller is unwound
pub deliver-from : {E : Kind} (p : Image) (part : Part) (c : CallNo) (outcome : Outcome) (w : World) → Good p w → MayEnd E c → Out c w → Idle c w → AllAwake E w
    → ((x : CallNo) → E.stay x ≡ false) → From E w (deliver p part c outcome)
unfolding deliver
deliver-from {E = E} p part c outcome w good may out idle awake loose =
    with_call-from c _ w (λ d is. let same = found-number c w d is in
    then-after (end_call p part d outcome) (unwind p part (who.Task d.caller)) w
    (end_call-from p part d outcome w d good (subst (λ n. call_of w n ≡ Some d) (sym same) is) (subst (λ n. E.may n ≡ true) (sym same) may)
    (subst (λ n. Out n w) (sym same) out) (subst (λ n. Idle n w) (sym same) idle) awake (loose d.number))
    (λ v calm. unwind-from p part (who.Task d.caller) v loose (calm-good p w v good calm)))

-- a call that is gone is in no queue
pub gone_then-from : {E : Kind} (p : Image) (part : Part) (c : Call) (g : Step) (w : World) → From E (unqueued p c w) g → From E w (gone p part c ▷ g)
unfolding gone
gone_then-from p part c g w k = record { leads = λ said. calm-then w (unqueued p c w) _ (unqueued-calm p c w) (k.leads _) }
