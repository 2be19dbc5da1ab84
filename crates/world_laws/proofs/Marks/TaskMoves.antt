-- Edits of a task, and tasks that come and go, keep what is known of marks.
use Rattle.std.proofs.Common.{◌≡◌, ◌⊎◌, inl, inr, ℕ, suc, ◌<◌, Bool, true, false, cond, eqb, ◌&&◌, ◌||◌, List, []}
use Rattle.std.proofs.Common.{◌∷◌, ◌++◌, Option, Some, None, refl, sym, ap, subst, ◌∙◌, length, arith, eq-eqb}
use Rattle.std.proofs.lemmas.Bool.{eqb-true, false≢true}
use Rattle.std.specs.Prelude.{◌-◌, find, unwrap_or}
use Rattle.ann_base.specs.declared.identities.CallNo.{CallNo}
use Rattle.ann_base.specs.declared.identities.TaskNo.{TaskNo}
use Rattle.trace_text.specs.declared.events.Who.{Who}
use Rattle.trace_text.specs.declared.events.Who.TheVariants as who
use Rattle.profile_machine.specs.declared.world.World.{World}
use Rattle.profile_machine.specs.declared.world.appointments.Registered.{Registered}
use Rattle.profile_machine.specs.declared.world.marks.Frame.{Frame}
use Rattle.profile_machine.specs.declared.world.marks.Mark.TheVariants.{InFinalize}
use Rattle.profile_machine.specs.declared.world.tasks.Task.{Task}
use Rattle.profile_machine.specs.declared.world.tasks.State.TheVariants.{Runnable, Blocked}
use Rattle.profile_machine.specs.declared.world.tasks.Waiting.{Waiting}
use Rattle.profile_machine.specs.declared.world.tasks.Waiting.TheVariants as waits_for
use Rattle.profile_image.specs.Words.{same_who, same_call}
use Rattle.world_tables.specs.Lists.{first_of, rest_of}
use Rattle.profile_machine.specs.Tasks.{nobody, is_who, is_made, is_made_state, task_at, task_of, found_task}
use Rattle.profile_machine.specs.Tasks.{edit_task_found, edit_task, with_state, with_frames, waiting_in}
use Rattle.profile_machine.specs.Frames.{frames_of, top_of, new_frame, edit_first, edit_top, push, pop}
use Rattle.profile_machine.specs.Appointments.{is_trigger_of, is_appointed}
use Rattle.profile_machine.specs.Unwinding.{struck_frame, edit_last, strike_outermost}
use Rattle.profile_machine.specs.CallEnds.{is_abortable_of, depth_of_abortable, edit_depth, edit_frame}
use Rattle.profile_machine.specs.CallEnds.{edit_abortable_at, triggered_mark, waited_mark, waits_for_end}
use Rattle.profile_machine.specs.Tasking.{abnormal_task, add_task}
use Rattle.profile_machine.specs.Masters.{forget_task}
use Rattle.profile_machine.specs.WellFormed.{awaits_trigger, awaits_trigger_at, is_triggered}
use Rattle.machine_laws.proofs.Moves.{StepRelation}
use Rattle.machine_laws.proofs.QueueLemmas.{by_test}
use Rattle.line_laws.specs.ExitLaws.{is_at_call}
use Rattle.line_laws.proofs.Exits.TaskEdits.{one_of, one_of-is, same_who-path, edited, edited_to, added, gone}
use Rattle.line_laws.proofs.Exits.Steady.{FreeIn}
use Rattle.line_laws.proofs.Leaving.WakingRuns.{same_self}
use Rattle.world_laws.proofs.Marks.MarkFacts.{Calm, NoTrigger, Unarmed, Unappointed, Ends, CanTrigger, DrawnTo, AbnormalAs, Marked, AwaitsAt}
use Rattle.world_laws.proofs.Marks.MarkFacts.{RightMarks, Distinct, WaitsOf, StruckRightly, FinalizesRightly, WaitsRightly, below_finalizes}
use Rattle.world_laws.proofs.Marks.MarkFacts.{finalizes_here, may_finalize, finalized_in, apart_in, own_scopes, is_clear_above, StandsAt}
use Rattle.world_laws.proofs.Marks.MarkFacts.{ends_call, nature, frame_at, triggered_part, top_awaits, GoodIn, GoodMarks, StillIn, Still}
use Rattle.world_laws.proofs.Marks.DepthLemmas.{of_call-found, of_call-awaits, frame-awaits}
use Rattle.world_laws.proofs.Marks.FrameEdits.{first-struck, first-finalizes, first-waits, first-awaits, pushed-struck}
use Rattle.world_laws.proofs.Marks.FrameEdits.{pushed-finalizes, pushed-waits, popped-struck, popped-finalizes, last-struck}
use Rattle.world_laws.proofs.Marks.FrameEdits.{last-marks, depth-marks, same_marks-awaits, same_marks-waits, same_marks-finalizes}
use Rattle.world_laws.proofs.Marks.DepthEdits.{edited_part, depth-finalizes, other-awaits, edited-frame, part-triggered}
use Rattle.world_laws.proofs.Marks.DepthEdits.{triggered-struck, depth-struck, triggered-top, triggered-part, waited-struck}
use Rattle.world_laws.proofs.Marks.StandingLemmas.{apart-own, apart-finalized, first-own, last-own, depth-own}
use Rattle.world_laws.proofs.Marks.StandingLemmas.{edited_part-own, stands-same, stands-pushed, clear-below}
use Rattle.world_laws.proofs.Marks.TaskFacts.{all-found, all-set, all-filter, all-added, all-map, distinct-set}
use Rattle.world_laws.proofs.Marks.TaskFacts.{distinct-filter, distinct-added, left-other, found-test, no_name}
use Rattle.world_laws.proofs.Queues.Listed.{AllTasks}

-- the world behind is good, and what was drawn or abnormal stays so
abbrev pub LeadsTo : StepRelation
LeadsTo w xs v = GoodMarks v × Still w v

pub still-same : (w : World) → Still w w
still-same w = record { more = omega arith; marked = λ n h. h; fewer = λ n d h. h }

pub still-then : (a b c : World) → Still a b → Still b c → Still a c
still-then a b c h k =
    let low = h.more in
    let high = k.more in
    record { more = omega (arith, low, high); marked = λ n m. k.marked n (h.marked n m); fewer = λ n d none. k.fewer n d (h.fewer n d none) }

pub stays-good : (w : World) → GoodMarks w → LeadsTo w [] w
stays-good w good = (good, still-same w)

pub leads-then : (a b c : World) → GoodMarks b × Still a b → GoodMarks c × Still b c → GoodMarks c × Still a c
leads-then a b c h k = (k.0, still-then a b c h.1 k.1)

-- ---- an edit

edited_tasks : (P : Task → Type 0) (name : Who) (f : Task → Task) (w : World) (found : Option Task) → task_at w name ≡ found → AllTasks P w.tasks
    → ((k : TaskNo) → name ≡ who.Task k → (t : Task) → found ≡ Some t → P t → P (f t)) → AllTasks P (edit_task_found name f w found).tasks
edited_tasks P name f w None e h g = h
edited_tasks P (who.Task k) f w (Some t) e h g =
    all-set P (is_who (who.Task k)) (f t) w.tasks (g k refl t refl (all-found P (is_who (who.Task k)) t w.tasks h e)) h
edited_tasks P who.Agent f w (Some t) e h g = h

edited_agent : (P : Task → Type 0) (name : Who) (f : Task → Task) (w : World) (found : Option Task) → task_at w name ≡ found → P w.agent
    → ((t : Task) → found ≡ Some t → P t → P (f t)) → P (edit_task_found name f w found).agent
edited_agent P name f w None e h g = h
edited_agent P (who.Task k) f w (Some t) e h g = h
edited_agent P who.Agent f w (Some t) e h g = let same : w.agent ≡ t = cc in g t refl (subst P same h)

edited_single : (name : Who) (f : Task → Task) (w : World) (found : Option Task) → task_at w name ≡ found → ((t : Task) → (f t).who ≡ t.who) → Distinct w.tasks
    → Distinct (edit_task_found name f w found).tasks
edited_single name f w None e named h = h
edited_single (who.Task k) f w (Some t) e named h = distinct-set (is_who (who.Task k)) (f t) t w.tasks (named t) h e
edited_single who.Agent f w (Some t) e named h = h

as_found : (name : Who) (f : Task → Task) (w : World) (found : Option Task) →
    let v = edit_task_found name f w found in
    GoodIn v.tasks v.agent w.appointments w.registered w.drawn.tasks w.drawn.controlled
    → StillIn w.drawn.tasks w.tasks w.agent w.appointments w.drawn.tasks v.tasks v.agent w.appointments → LeadsTo w [] v
as_found name f w None g s = (g, s)
as_found (who.Task k) f w (Some t) g s = (g, s)
as_found who.Agent f w (Some t) g s = (g, s)

-- what an edit has to keep of the one that is edited
pub record KeepsMarks (name : Who) (f : Task → Task) (w : World) : Type 0 where
  pub named : (t : Task) → (f t).who ≡ t.who
  pub marks : (t : Task) → task_at w name ≡ Some t → RightMarks w.registered w.drawn.controlled t → RightMarks w.registered w.drawn.controlled (f t)
  pub waits : (k : TaskNo) → name ≡ who.Task k → (t : Task) → task_at w name ≡ Some t → WaitsOf t → WaitsOf (f t)
  pub awaits : (n : TaskNo) (d : ℕ) → is_appointed (is_trigger_of n d) w ≡ true → same_who (who.Task n) name ≡ true → (t : Task) → t.frames ≡ frames_of w name
      → StandsAt d t.frames → StandsAt d (f t).frames
  pub begun : (t : Task) → is_made t ≡ false → is_made (f t) ≡ false
  pub abnormal : (t : Task) → t.abnormal ≡ true → (f t).abnormal ≡ true

module _ (name : Who) (f : Task → Task) (w : World) (keeps : KeepsMarks name f w) (good : GoodMarks w) where
  frames-known : (n : TaskNo) → same_who (who.Task n) name ≡ true → (one_of w.tasks w.agent (who.Task n)).frames ≡ frames_of w name
  frames-known n same =
      subst (λ x. (one_of w.tasks w.agent (who.Task n)).frames ≡ frames_of w x) (same_who-path (who.Task n) name same)
      (ap (λ (t : Task). t.frames) (one_of-is w (who.Task n)))

  still-named : (n : TaskNo) (t : Task) → is_who (who.Task n) (f t) ≡ true → is_who (who.Task n) t ≡ true
  still-named n t e = sym (ap (same_who (who.Task n)) (keeps.named t)) ∙ e

  parts : let v = edit_task name f w in GoodIn v.tasks v.agent w.appointments w.registered w.drawn.tasks w.drawn.controlled
  parts = record {
    tasks_right = edited_tasks (RightMarks w.registered w.drawn.controlled) name f w (task_at w name) refl good.tasks_right (λ k is t. keeps.marks t);
    agent_right = edited_agent (RightMarks w.registered w.drawn.controlled) name f w (task_at w name) refl good.agent_right keeps.marks;
    waits = edited_tasks WaitsOf name f w (task_at w name) refl good.waits keeps.waits;
    numbers =
        edited_tasks (λ t. DrawnTo w.drawn.tasks t.who) name f w (task_at w name) refl good.numbers
        (λ k is t e low. subst (DrawnTo w.drawn.tasks) (sym (keeps.named t)) low);
    triggers = λ n d is.
        let k = good.triggers n d is in (
          k.0,
          edited_to (λ t. (same_who (who.Task n) name ≡ true → t.frames ≡ frames_of w name) × AwaitsAt d t) (AwaitsAt d) (who.Task n) name f w keeps.named
              (λ same t g. (keeps.awaits n d is same t (g.0 same) g.1.0, keeps.begun t g.1.1)) (λ apart t g. g.1) (λ g. g.1) (frames-known n, k.1),
        );
    single = edited_single name f w (task_at w name) refl keeps.named good.single;
    objects = good.objects;
  }

  still : let v = edit_task name f w in StillIn w.drawn.tasks w.tasks w.agent w.appointments w.drawn.tasks v.tasks v.agent w.appointments
  still = record {
    more = omega arith;
    marked = λ n h. (h.0, edited (AbnormalAs n) (who.Task n) name f w keeps.named (λ same t g e. keeps.abnormal t (g (still-named n t e))) h.1);
    fewer = λ n d h. h;
  }

  pub edit-leads : LeadsTo w [] (edit_task name f w)
  edit-leads = as_found name f w (task_at w name) parts still

-- ---- edits that leave the marks

right-same : (registered : List Registered) (drawn : ℕ) (t u : Task) → u.frames ≡ t.frames → u.abnormal ≡ t.abnormal → RightMarks registered drawn t
    → RightMarks registered drawn u
right-same registered drawn t u frames abnormal h = record {
  struck = subst (λ fs. StruckRightly u.abnormal fs) (sym frames) (subst (λ b. StruckRightly b t.frames) (sym abnormal) h.struck);
  finalizes = subst (λ fs. FinalizesRightly registered drawn fs) (sym frames) h.finalizes;
}

waits-same : (t u : Task) → u.frames ≡ t.frames → u.state ≡ t.state → WaitsOf t → WaitsOf u
waits-same t u frames state h =
    subst (λ fs. WaitsRightly (waiting_in u.state) fs) (sym frames) (subst (λ s. WaitsRightly (waiting_in s) t.frames) (sym state) h)

pub task-leads : (name : Who) (f : Task → Task) (w : World) → GoodMarks w → ((t : Task) → (f t).who ≡ t.who) → ((t : Task) → (f t).frames ≡ t.frames)
    → ((t : Task) → (f t).state ≡ t.state) → ((t : Task) → (f t).abnormal ≡ t.abnormal) → LeadsTo w [] (edit_task name f w)
task-leads name f w good named frames state abnormal = edit-leads name f w (record {
  named = named;
  marks = λ t e h. right-same w.registered w.drawn.controlled t (f t) (frames t) (abnormal t) h;
  waits = λ k is t e h. waits-same t (f t) (frames t) (state t) h;
  awaits = λ n d is same t e h. subst (StandsAt d) (sym (frames t)) h;
  begun = λ t e. ap is_made_state (state t) ∙ e;
  abnormal = λ t e. abnormal t ∙ e;
}) good

-- one that becomes abnormal
more-abnormal : (a b c : Bool) → (a || (b && c)) ≡ true → (a || (b && true)) ≡ true
more-abnormal true b c h = refl
more-abnormal false true c h = refl
more-abnormal false false c h = h

struck-abnormal : (abnormal : Bool) (fs : List Frame) → StruckRightly abnormal fs → StruckRightly true fs
struck-abnormal abnormal [] h = tt
struck-abnormal abnormal (x ∷ xs) h = ((λ e. more-abnormal (is_triggered x.mark) _ abnormal (h.0 e)), struck-abnormal abnormal xs h.1)

pub abort-leads : (name : Who) (w : World) → GoodMarks w → LeadsTo w [] (edit_task name abnormal_task w)
abort-leads name w good = edit-leads name abnormal_task w (record {
  named = λ t. refl;
  marks = λ t e h. record { struck = struck-abnormal t.abnormal t.frames h.struck; finalizes = h.finalizes };
  waits = λ k is t e h. h;
  awaits = λ n d is same t e h. h;
  begun = λ t e. e;
  abnormal = λ t e. refl;
}) good

-- ---- states

no_wait : (fs : List Frame) → WaitsRightly None fs
no_wait fs c is = absurd (false≢true is)

pub runnable-leads : (name : Who) (w : World) → GoodMarks w → LeadsTo w [] (edit_task name (with_state Runnable) w)
runnable-leads name w good = edit-leads name (with_state Runnable) w (record {
  named = λ t. refl;
  marks = λ t e h. record { struck = h.struck; finalizes = h.finalizes };
  waits = λ k is t e h. no_wait t.frames;
  awaits = λ n d is same t e h. h;
  begun = λ t e. refl;
  abnormal = λ t e. e;
}) good

not_at_end : (c : CallNo) (waiting : Waiting) → ends_call (Some waiting) ≡ false → waits_for_end c (Some waiting) ≡ true → ⊥
not_at_end c (waits_for.EndOfCall d) e is = false≢true (sym e)
not_at_end c _ e is = false≢true is

pub blocked-leads : (name : Who) (waiting : Waiting) (w : World) → GoodMarks w → ends_call (Some waiting) ≡ false
    → LeadsTo w [] (edit_task name (with_state (Blocked waiting)) w)
blocked-leads name waiting w good no_end = edit-leads name (with_state (Blocked waiting)) w (record {
  named = λ t. refl;
  marks = λ t e h. record { struck = h.struck; finalizes = h.finalizes };
  waits = λ k is t e h c at. absurd (not_at_end c waiting no_end at);
  awaits = λ n d is same t e h. h;
  begun = λ t e. refl;
  abnormal = λ t e. e;
}) good

here-of : (w : World) (name : Who) (t : Task) → task_at w name ≡ Some t → task_of w name ≡ t
here-of w name t e = ap (λ o. unwrap_or o nobody) e

top-here : (w : World) (name : Who) (t : Task) (f : Frame) → task_at w name ≡ Some t → top_of w name ≡ Some f → first_of t.frames ≡ Some f
top-here w name t f e top = subst (λ (u : Task). first_of u.frames ≡ Some f) (here-of w name t e) top

top-waits : (c d : CallNo) (f : Frame) (fs : List Frame) → first_of fs ≡ Some f → awaits_trigger f.mark ≡ false → is_abortable_of c f.mark ≡ true
    → is_triggered f.mark ≡ false → same_call d c ≡ true → (top_awaits fs ≡ false) × (triggered_part d fs ≡ false)
top-waits c d f [] top no_trigger of_call untriggered same = cc
top-waits c d f (x ∷ xs) top no_trigger of_call untriggered same =
    let one : f ≡ x = cc in
    let call : c ≡ d = ap (λ n. record { 0 = n }) (sym (eqb-true d.0 c.0 same)) in
    let part : is_abortable_of d x.mark ≡ true =
    subst (λ k. is_abortable_of k x.mark ≡ true) call (subst (λ (y : Frame). is_abortable_of c y.mark ≡ true) one of_call) in (
      subst (λ (y : Frame). awaits_trigger y.mark ≡ false) one no_trigger,
      ap (λ b. cond b (is_triggered x.mark) (triggered_part d xs)) part ∙ subst (λ (y : Frame). is_triggered y.mark ≡ false) one untriggered,
    )

pub waiting-leads : (name : Who) (f : Frame) (c : CallNo) (w : World) → GoodMarks w → top_of w name ≡ Some f → awaits_trigger f.mark ≡ false
    → is_abortable_of c f.mark ≡ true → is_triggered f.mark ≡ false → LeadsTo w [] (edit_task name (with_state (Blocked (waits_for.EndOfCall c))) w)
waiting-leads name f c w good top no_trigger of_call untriggered = edit-leads name (with_state (Blocked (waits_for.EndOfCall c))) w (record {
  named = λ t. refl;
  marks = λ t e h. record { struck = h.struck; finalizes = h.finalizes };
  waits = λ k is t e h d at. top-waits c d f t.frames (top-here w name t f e top) no_trigger of_call untriggered at;
  awaits = λ n d is same t e h. h;
  begun = λ t e. refl;
  abnormal = λ t e. e;
}) good

-- ---- the mark on top

pub top-leads : (name : Who) (f : Frame → Frame) (w : World) → GoodMarks w → ((x : Frame) → nature (f x).mark ≡ nature x.mark)
    → ((x : Frame) → (f x).struck ≡ x.struck) → LeadsTo w [] (edit_top name f w)
top-leads name f w good same alike = edit-leads name (λ t. with_frames (edit_first f t.frames) t) w (record {
  named = λ t. refl;
  marks = λ t e h. record {
    struck = first-struck f same alike t.abnormal t.frames h.struck;
    finalizes = first-finalizes f same alike w.registered w.drawn.controlled t.frames h.finalizes;
  };
  waits = λ k is t e h. first-waits f same alike (waiting_in t.state) t.frames h;
  awaits = λ n d is one t e h. stands-same d t.frames (edit_first f t.frames) (first-awaits f same alike d t.frames) (first-own f same t.frames) h;
  begun = λ t e. e;
  abnormal = λ t e. e;
}) good

pub push-leads : (name : Who) (f : Frame) (w : World) → GoodMarks w → f.struck ≡ false → apart_in f.mark ≡ None → awaits_trigger f.mark ≡ false
    → is_triggered f.mark ≡ false → LeadsTo w [] (push name f w)
push-leads name f w good plain common no_trigger untriggered = edit-leads name (λ t. with_frames (f ∷ t.frames) t) w (record {
  named = λ t. refl;
  marks = λ t e h. record {
    struck = pushed-struck f plain t.abnormal t.frames h.struck;
    finalizes = pushed-finalizes f (apart-finalized f.mark common) w.registered w.drawn.controlled t.frames h.finalizes;
  };
  waits = λ k is t e h. pushed-waits f no_trigger untriggered (waiting_in t.state) t.frames h;
  awaits = λ n d is same t e h. stands-pushed d f t.frames (apart-own f.mark common) h;
  begun = λ t e. e;
  abnormal = λ t e. e;
}) good

at_end-call : (c : CallNo) (waiting : Option Waiting) → waits_for_end c waiting ≡ true → is_at_call waiting ≡ true
at_end-call c (Some (waits_for.EndOfCall d)) e = refl
at_end-call c _ e = absurd (false≢true e)

-- who is calm waits for no end of a call
calm-waits : (name : Who) (w : World) (k : TaskNo) (t : Task) (fs : List Frame) → Calm name w → name ≡ who.Task k → task_at w name ≡ Some t
    → WaitsRightly (waiting_in t.state) fs
calm-waits name w k t fs calm is e c at =
    let free : FreeIn name t.state = subst (λ (u : Task). FreeIn name u.state) (here-of w name t e) calm in
    let none : is_at_call (waiting_in t.state) ≡ false = subst (λ n. FreeIn n t.state) is free in
    absurd (false≢true (sym none ∙ at_end-call c (waiting_in t.state) at))

pub part-leads : (name : Who) (f : Frame) (w : World) → GoodMarks w → Calm name w → f.struck ≡ false → apart_in f.mark ≡ None → LeadsTo w [] (push name f w)
part-leads name f w good calm plain common = edit-leads name (λ t. with_frames (f ∷ t.frames) t) w (record {
  named = λ t. refl;
  marks = λ t e h. record {
    struck = pushed-struck f plain t.abnormal t.frames h.struck;
    finalizes = pushed-finalizes f (apart-finalized f.mark common) w.registered w.drawn.controlled t.frames h.finalizes;
  };
  waits = λ k is t e h. calm-waits name w k t (f ∷ t.frames) calm is e;
  awaits = λ n d is same t e h. stands-pushed d f t.frames (apart-own f.mark common) h;
  begun = λ t e. e;
  abnormal = λ t e. e;
}) good

-- a task's own scope is opened where no trigger is appointed for it
armed-not : {P : Type 0} (n : TaskNo) (d : ℕ) (name : Who) (w : World) → Unarmed name w → same_who (who.Task n) name ≡ true
    → is_appointed (is_trigger_of n d) w ≡ true → P
armed-not n d name w none same is =
    let here : Unarmed (who.Task n) w = subst (λ x. Unarmed x w) (sym (same_who-path (who.Task n) name same)) none in absurd (false≢true (sym (here d) ∙ is))

pub own_scope-leads : (name : Who) (f : Frame) (w : World) → GoodMarks w → Unarmed name w → f.struck ≡ false → finalized_in f.mark ≡ None
    → awaits_trigger f.mark ≡ false → is_triggered f.mark ≡ false → LeadsTo w [] (push name f w)
own_scope-leads name f w good none plain no_final no_trigger untriggered = edit-leads name (λ t. with_frames (f ∷ t.frames) t) w (record {
  named = λ t. refl;
  marks = λ t e h. record {
    struck = pushed-struck f plain t.abnormal t.frames h.struck;
    finalizes = pushed-finalizes f no_final w.registered w.drawn.controlled t.frames h.finalizes;
  };
  waits = λ k is t e h. pushed-waits f no_trigger untriggered (waiting_in t.state) t.frames h;
  awaits = λ n d is same t e h. armed-not n d name w none same is;
  begun = λ t e. e;
  abnormal = λ t e. e;
}) good

below-top : (registered : List Registered) (drawn n : ℕ) (g : Frame) (fs : List Frame) → first_of fs ≡ Some g → finalizes_here registered drawn n g.mark ≡ true
    → below_finalizes registered drawn n fs ≡ true
below-top registered drawn n g [] top here = cc
below-top registered drawn n g (x ∷ xs) top here = let one : g ≡ x = cc in subst (λ (y : Frame). finalizes_here registered drawn n y.mark ≡ true) one here

pub finalize-leads : (name : Who) (n : ℕ) (g : Frame) (w : World) → GoodMarks w → top_of w name ≡ Some g → may_finalize w n g.mark ≡ true
    → LeadsTo w [] (push name (new_frame (InFinalize n) None) w)
finalize-leads name n g w good top here = edit-leads name (λ t. with_frames (new_frame (InFinalize n) None ∷ t.frames) t) w (record {
  named = λ t. refl;
  marks = λ t e h. record {
    struck = pushed-struck (new_frame (InFinalize n) None) refl t.abnormal t.frames h.struck;
    finalizes = (
      (λ m same. let one : n ≡ m = cc in
          subst (λ k. below_finalizes w.registered w.drawn.controlled k t.frames ≡ true) one
          (below-top w.registered w.drawn.controlled n g t.frames (top-here w name t g e top) here)),
      h.finalizes,
    );
  };
  waits = λ k is t e h. pushed-waits (new_frame (InFinalize n) None) refl refl (waiting_in t.state) t.frames h;
  awaits = λ m d is same t e h. stands-pushed d (new_frame (InFinalize n) None) t.frames refl h;
  begun = λ t e. e;
  abnormal = λ t e. e;
}) good

popped-step : (b : Bool) (d : ℕ) (x : Frame) (xs : List Frame) → eqb (length xs) d ≡ b → ((awaits_trigger x.mark ≡ false) ⊎ (eqb d (length xs) ≡ false))
    → cond b (awaits_trigger x.mark) (awaits_trigger_at d xs) ≡ true → is_clear_above d (own_scopes (x ∷ xs)) ≡ true → StandsAt d xs
popped-step true d x xs here (inl no_trigger) h clear = absurd (false≢true (sym no_trigger ∙ h))
popped-step true d x xs here (inr apart) h clear = absurd (false≢true (sym apart ∙ eq-eqb d (length xs) (sym (eqb-true (length xs) d here))))
popped-step false d x xs here ends h clear = (h, clear-below d x xs here clear)

one-less : (n : ℕ) → suc n - 1 ≡ n
one-less n = omega arith

popped-awaits : (d : ℕ) (f : Frame) (fs : List Frame) → first_of fs ≡ Some f → ((awaits_trigger f.mark ≡ false) ⊎ (eqb d (length fs - 1) ≡ false))
    → StandsAt d fs → StandsAt d (rest_of fs)
popped-awaits d f [] top ends h = cc
popped-awaits d f (x ∷ xs) top ends h =
    let one : f ≡ x = cc in
    popped-step (eqb (length xs) d) d x xs refl
    (subst (λ (y : Frame). (awaits_trigger y.mark ≡ false) ⊎ (eqb d (length xs) ≡ false)) one
    (subst (λ n. (awaits_trigger f.mark ≡ false) ⊎ (eqb d n ≡ false)) (one-less (length xs)) ends)) h.0 h.1

-- a trigger that is appointed names no mark that ends
other_depth : (n : TaskNo) (d : ℕ) (name : Who) (w : World) → same_who (who.Task n) name ≡ true → is_appointed (is_trigger_of n d) w ≡ true → Unappointed name w
    → eqb d (length (frames_of w name) - 1) ≡ false
other_depth n d name w same is none =
    let one : name ≡ who.Task n = sym (same_who-path (who.Task n) name same) in
    let here : NoTrigger n (length (frames_of w (who.Task n)) - 1) w = subst (λ x. Unappointed x w) one none in
    subst (λ x. eqb d (length (frames_of w x) - 1) ≡ false) (sym one)
    (by_test (eqb d (length (frames_of w (who.Task n)) - 1))
    (λ e. absurd
    (false≢true (sym (subst (λ k. is_appointed (is_trigger_of n k) w ≡ false) (sym (eqb-true d (length (frames_of w (who.Task n)) - 1) e)) here) ∙ is)))
    (λ e. e))

ends-at : (n : TaskNo) (d : ℕ) (name : Who) (f : Frame) (w : World) → same_who (who.Task n) name ≡ true → is_appointed (is_trigger_of n d) w ≡ true
    → ((awaits_trigger f.mark ≡ false) ⊎ Unappointed name w) → (awaits_trigger f.mark ≡ false) ⊎ (eqb d (length (frames_of w name) - 1) ≡ false)
ends-at n d name f w same is (inl no_trigger) = inl no_trigger
ends-at n d name f w same is (inr none) = inr (other_depth n d name w same is none)

pub pop-leads : (name : Who) (f : Frame) (w : World) → GoodMarks w → top_of w name ≡ Some f → Ends name f w → LeadsTo w [] (pop name w)
pop-leads name f w good top ends = edit-leads name (λ t. with_frames (rest_of t.frames) t) w (record {
  named = λ t. refl;
  marks = λ t e h. record {
    struck = popped-struck t.abnormal t.frames h.struck;
    finalizes = popped-finalizes w.registered w.drawn.controlled t.frames h.finalizes;
  };
  waits = λ k is t e h. calm-waits name w k t (rest_of t.frames) ends.1 is e;
  awaits = λ n d is same t frames h.
      popped-awaits d f t.frames (ap first_of frames ∙ top)
      (subst (λ fs. (awaits_trigger f.mark ≡ false) ⊎ (eqb d (length fs - 1) ≡ false)) (sym frames) (ends-at n d name f w same is ends.0)) h;
  begun = λ t e. e;
  abnormal = λ t e. e;
}) good

-- ---- what is struck

pub strike-leads : (n : TaskNo) (w : World) → GoodMarks w → Marked w n → LeadsTo w [] (strike_outermost (who.Task n) w)
strike-leads n w good marked = edit-leads (who.Task n) (λ t. with_frames (edit_last struck_frame t.frames) t) w (record {
  named = λ t. refl;
  marks = λ t e h.
      let abnormal : t.abnormal ≡ true =
      subst (λ (u : Task). is_who (who.Task n) u ≡ true → u.abnormal ≡ true) (ap (λ o. unwrap_or o nobody) e) marked.1
      (found-test (is_who (who.Task n)) t w.tasks e) in
      record {
        struck =
            subst (λ b. StruckRightly b (edit_last struck_frame t.frames)) (sym abnormal)
            (last-struck t.frames (subst (λ b. StruckRightly b t.frames) abnormal h.struck));
        finalizes = same_marks-finalizes w.registered w.drawn.controlled (edit_last struck_frame t.frames) t.frames (last-marks t.frames) h.finalizes;
      };
  waits = λ k is t e h. same_marks-waits (waiting_in t.state) (edit_last struck_frame t.frames) t.frames (last-marks t.frames) h;
  awaits =
      λ m d is same t e h. stands-same d t.frames (edit_last struck_frame t.frames)
      (same_marks-awaits d (edit_last struck_frame t.frames) t.frames (last-marks t.frames)) (last-own t.frames) h;
  begun = λ t e. e;
  abnormal = λ t e. e;
}) good

-- the part at a depth is triggered
at_frames : (w : World) (name : Who) (t : Task) → task_at w name ≡ Some t → t.frames ≡ frames_of w name
at_frames w name t e = sym (ap (λ (u : Task). u.frames) (here-of w name t e))

other_trigger : (n m : TaskNo) (d depth : ℕ) (w : World) → same_who (who.Task m) (who.Task n) ≡ true → is_appointed (is_trigger_of m d) w ≡ true
    → NoTrigger n depth w → eqb d depth ≡ false
other_trigger n m d depth w same is none =
    by_test (eqb d depth)
    (λ e. absurd (let one : m ≡ n = ap (λ k. record { 0 = k }) (eqb-true m.0 n.0 same) in
    let here : is_appointed (is_trigger_of n depth) w ≡ true =
    subst (λ x. is_appointed (is_trigger_of x depth) w ≡ true) one (subst (λ k. is_appointed (is_trigger_of m k) w ≡ true) (eqb-true d depth e) is) in
    false≢true (sym none ∙ here)))
    (λ e. e)

module _ (n : TaskNo) (depth : ℕ) (w : World) (good : GoodMarks w) where
  trigger-leads : (found : Option Task) → task_at w (who.Task n) ≡ found → CanTrigger n depth w
      → LeadsTo w [] (edit_abortable_at (who.Task n) depth triggered_mark w)
  trigger-leads None none can =
      subst (λ o. LeadsTo w [] (edit_task_found (who.Task n) (λ t. with_frames (edit_depth depth (edited_part triggered_mark) t.frames) t) w o)) (sym none)
      (stays-good w good)
  trigger-leads (Some u) found can =
      let may = can u found in
      edit-leads (who.Task n) (λ t. with_frames (edit_depth depth (edited_part triggered_mark) t.frames) t) w (record {
        named = λ t. refl;
        marks = λ t e h. record {
          struck = triggered-struck depth t.abnormal t.frames h.struck;
          finalizes = depth-finalizes triggered_mark w.registered w.drawn.controlled depth t.frames h.finalizes;
        };
        waits =
            λ k is t e h c at.
            let r = h c at in let m = can t e in (triggered-top depth t.frames r.0, triggered-part c depth m.frame t.frames (m.unawaited c at) m.found ∙ r.1);
        awaits =
            λ m d is same t e h. stands-same d t.frames (edit_depth depth (edited_part triggered_mark) t.frames)
            (other-awaits depth d (edited_part triggered_mark) t.frames (other_trigger n m d depth w same is may.unappointed))
            (edited_part-own depth triggered_mark t.frames) h;
        begun = λ t e. e;
        abnormal = λ t e. e;
      }) good

  -- and struck
  strike_at-leads : ((t : Task) → task_at w (who.Task n) ≡ Some t → (x : Frame) × (frame_at depth t.frames ≡ Some x) × (is_triggered x.mark ≡ true))
      → LeadsTo w [] (edit_frame (who.Task n) depth struck_frame w)
  strike_at-leads can = edit-leads (who.Task n) (λ t. with_frames (edit_depth depth struck_frame t.frames) t) w (record {
    named = λ t. refl;
    marks = λ t e h. let m = can t e in record {
      struck = depth-struck depth t.abnormal m.0 t.frames m.2 m.1 h.struck;
      finalizes =
          same_marks-finalizes w.registered w.drawn.controlled (edit_depth depth struck_frame t.frames) t.frames (depth-marks depth t.frames) h.finalizes;
    };
    waits = λ k is t e h. same_marks-waits (waiting_in t.state) (edit_depth depth struck_frame t.frames) t.frames (depth-marks depth t.frames) h;
    awaits =
        λ m d is same t e h. stands-same d t.frames (edit_depth depth struck_frame t.frames)
        (same_marks-awaits d (edit_depth depth struck_frame t.frames) t.frames (depth-marks depth t.frames))
        (depth-own depth struck_frame (λ x. refl) t.frames) h;
    begun = λ t e. e;
    abnormal = λ t e. e;
  }) good

-- whom an edit leaves there was there
edited-there : (n : TaskNo) (g : Task → Task) (w : World) (P R : Task → Type 0) → ((t : Task) → (g t).who ≡ t.who) → ((t : Task) → P t → R (g t))
    → ((t : Task) → task_at w (who.Task n) ≡ Some t → P t)
    → (u : Task) → task_at (edit_task (who.Task n) g w) (who.Task n) ≡ Some u → R u
edited-there n g w P R named edit known u e =
    let v = edit_task (who.Task n) g w in
    let Q : Task → Type 0 = λ t. is_who (who.Task n) t ≡ true → P t in
    let S : Task → Type 0 = λ t. is_who (who.Task n) t ≡ true → R t in
    let first : Q (one_of w.tasks w.agent (who.Task n)) = known-one (found_task (who.Task n) w.tasks) refl in
    let behind : S (one_of v.tasks v.agent (who.Task n)) =
    edited_to Q S (who.Task n) (who.Task n) g w named (λ same t q is. edit t (q (sym (ap (same_who (who.Task n)) (named t)) ∙ is)))
    (λ apart. absurd (false≢true (sym apart ∙ same_self (who.Task n)))) (λ q is. no_name n is) first in
    subst S (ap (λ o. unwrap_or o nobody) e) behind (found-test (is_who (who.Task n)) u v.tasks e) where
      known-one : (found : Option Task) → found_task (who.Task n) w.tasks ≡ found → is_who (who.Task n) (unwrap_or found nobody) ≡ true
          → P (unwrap_or found nobody)
      known-one None is named_so = no_name n named_so
      known-one (Some t) is named_so = known t is

-- a trigger completes
pub triggered-leads : (n : TaskNo) (depth : ℕ) (w : World) → GoodMarks w → CanTrigger n depth w
    → LeadsTo w [] (edit_frame (who.Task n) depth struck_frame (edit_abortable_at (who.Task n) depth triggered_mark w))
triggered-leads n depth w good can =
    let v = edit_abortable_at (who.Task n) depth triggered_mark w in
    let first = trigger-leads n depth w good (task_at w (who.Task n)) refl can in
    let P : Task → Type 0 = λ t. (x : Frame) × (frame_at depth t.frames ≡ Some x) × (is_triggered (edited_part triggered_mark x).mark ≡ true) in
    let R : Task → Type 0 = λ t. (x : Frame) × (frame_at depth t.frames ≡ Some x) × (is_triggered x.mark ≡ true) in
    leads-then w v (edit_frame (who.Task n) depth struck_frame v) first
    (strike_at-leads n depth v first.0
    (edited-there n (λ t. with_frames (edit_depth depth (edited_part triggered_mark) t.frames) t) w P R (λ t. refl)
    (λ t p. (edited_part triggered_mark p.0, edited-frame depth (edited_part triggered_mark) p.0 t.frames p.1, p.2))
    (λ t e. let m = can t e in (m.frame, m.found, part-triggered m.frame.mark m.part))))

-- a wait is over
call_no_trigger : (c : CallNo) (d : ℕ) (fs : List Frame) → depth_of_abortable c fs ≡ Some d → awaits_trigger_at d fs ≡ false
call_no_trigger c d fs found = let part = of_call-found c d fs found in frame-awaits d part.frame fs part.found ∙ of_call-awaits c part.frame.mark part.has

pub waited-leads : (c : CallNo) (n : TaskNo) (depth : ℕ) (b : Bool) (w : World) → GoodMarks w → Calm (who.Task n) w
    → depth_of_abortable c (frames_of w (who.Task n)) ≡ Some depth → triggered_part c (frames_of w (who.Task n)) ≡ false
    → LeadsTo w [] (edit_abortable_at (who.Task n) depth (waited_mark b) w)
waited-leads c n depth b w good calm found untriggered =
    edit-leads (who.Task n) (λ t. with_frames (edit_depth depth (edited_part (waited_mark b)) t.frames) t) w (record {
      named = λ t. refl;
      marks = λ t e h.
          let frames = at_frames w (who.Task n) t e in
          record {
            struck =
                waited-struck b c depth t.abnormal t.frames (ap (depth_of_abortable c) frames ∙ found) (ap (triggered_part c) frames ∙ untriggered) h.struck;
            finalizes = depth-finalizes (waited_mark b) w.registered w.drawn.controlled depth t.frames h.finalizes;
          };
      waits = λ k is t e h. calm-waits (who.Task n) w k t (edit_depth depth (edited_part (waited_mark b)) t.frames) calm is e;
      awaits = λ m d is same t frames h.
          stands-same d t.frames (edit_depth depth (edited_part (waited_mark b)) t.frames)
          (other-awaits depth d (edited_part (waited_mark b)) t.frames
          (by_test (eqb d depth)
          (λ e. absurd (false≢true
          (sym (subst (λ k. awaits_trigger_at k t.frames ≡ false) (sym (eqb-true d depth e))
          (call_no_trigger c depth t.frames (ap (depth_of_abortable c) frames ∙ found)))
          ∙ h.0)))
          (λ e. e)))
          (edited_part-own depth (waited_mark b) t.frames) h;
      begun = λ t e. e;
      abnormal = λ t e. e;
    }) good

-- ---- tasks that come and go

later-drawn : (drawn : ℕ) (name : Who) → DrawnTo drawn name → DrawnTo (suc drawn) name
later-drawn drawn (who.Task n) low = omega (arith, low)
later-drawn drawn who.Agent low = low

new-name : {P : Type 0} (n : TaskNo) (t : Task) (drawn : ℕ) → t.who ≡ who.Task (record { 0 = drawn }) → n.0 < drawn → is_who (who.Task n) t ≡ true → P
new-name n t drawn is low e =
    absurd (let same : n.0 ≡ drawn = eqb-true n.0 drawn (sym (ap (same_who (who.Task n)) is) ∙ e) in omega (arith, same, low))

-- it is another than those that were drawn
new-apart : (drawn : ℕ) (name : Who) → DrawnTo drawn name → same_who (who.Task (record { 0 = drawn })) name ≡ false
new-apart drawn (who.Task n) low = by_test (eqb drawn n.0) (λ e. absurd (let same : drawn ≡ n.0 = eqb-true drawn n.0 e in omega (arith, same, low))) (λ e. e)
new-apart drawn who.Agent low = refl

found_added-step : (b : Bool) (test : Task → Bool) (z x : Task) (zs : List Task) → find test (zs ++ x ∷ []) ≡ find test zs
    → cond b (Some z) (find test (zs ++ x ∷ [])) ≡ cond b (Some z) (find test zs)
found_added-step true test z x zs onward = refl
found_added-step false test z x zs onward = onward

found-added : (test : Task → Bool) (x : Task) (ts : List Task) → test x ≡ false → find test (ts ++ x ∷ []) ≡ find test ts
found-added test x [] e = ap (λ b. cond b (Some x) None) e
found-added test x (z ∷ zs) e = found_added-step (test z) test z x zs (found-added test x zs e)

added-other : (n : TaskNo) (t : Task) (w : World) → t.who ≡ who.Task (record { 0 = w.drawn.tasks }) → n.0 < w.drawn.tasks
    → one_of (w.tasks ++ t ∷ []) w.agent (who.Task n) ≡ one_of w.tasks w.agent (who.Task n)
added-other n t w is low =
    ap (λ o. unwrap_or o nobody)
    (found-added (is_who (who.Task n)) t w.tasks (by_test (is_who (who.Task n) t) (λ e. new-name n t w.drawn.tasks is low e) (λ e. e)))

pub added-leads : (t : Task) (w : World) → GoodMarks w → t.who ≡ who.Task (record { 0 = w.drawn.tasks }) → t.frames ≡ [] → LeadsTo w [] (add_task t w)
added-leads t w good is none = (
  record {
    tasks_right = all-added (RightMarks w.registered w.drawn.controlled) t w.tasks
        (record {
          struck = subst (λ fs. StruckRightly t.abnormal fs) (sym none) tt;
          finalizes = subst (λ fs. FinalizesRightly w.registered w.drawn.controlled fs) (sym none) tt;
        }) good.tasks_right;
    agent_right = good.agent_right;
    waits = all-added WaitsOf t w.tasks (subst (λ fs. WaitsRightly (waiting_in t.state) fs) (sym none) (λ c at. (refl, refl))) good.waits;
    numbers = all-added (λ u. DrawnTo (suc w.drawn.tasks) u.who) t w.tasks (subst (DrawnTo (suc w.drawn.tasks)) (sym is) (omega arith))
        (all-map (λ u. DrawnTo w.drawn.tasks u.who) (λ u. DrawnTo (suc w.drawn.tasks) u.who) w.tasks
        (λ u low. later-drawn w.drawn.tasks u.who low) good.numbers);
    triggers = λ n d a. let k = good.triggers n d a in let low = k.0 in
        (omega (arith, low), subst (AwaitsAt d) (sym (added-other n t w is low)) k.1);
    single =
        distinct-added t w.tasks
        (all-map (λ u. DrawnTo w.drawn.tasks u.who) (λ u. same_who t.who u.who ≡ false) w.tasks
        (λ u low. ap (λ name. same_who name u.who) is ∙ new-apart w.drawn.tasks u.who low) good.numbers) good.single;
    objects = good.objects;
  },
  record {
    more = omega arith;
    marked =
        λ n h. let low = h.0 in
        (omega (arith, low), added (AbnormalAs n) (who.Task n) t w.tasks w.agent (λ e. new-name n t w.drawn.tasks is low e) (λ e. no_name n e) h.1);
    fewer = λ n d h. h;
  },
)

-- one for whom no trigger is appointed goes
pub forgotten-leads : (name : Who) (w : World) → GoodMarks w → Unarmed name w → LeadsTo w [] (forget_task name w)
forgotten-leads name w good none = (
  record {
    tasks_right = all-filter (RightMarks w.registered w.drawn.controlled) _ w.tasks good.tasks_right;
    agent_right = good.agent_right;
    waits = all-filter WaitsOf _ w.tasks good.waits;
    numbers = all-filter (λ u. DrawnTo w.drawn.tasks u.who) _ w.tasks good.numbers;
    triggers = λ n d a.
        let k = good.triggers n d a in
        let apart : same_who (who.Task n) name ≡ false = by_test (same_who (who.Task n) name) (λ same. armed-not n d name w none same a) (λ e. e) in
        (k.0, subst (AwaitsAt d) (sym (ap (λ o. unwrap_or o nobody) (left-other (who.Task n) name w.tasks apart))) k.1);
    single = distinct-filter _ w.tasks good.single;
    objects = good.objects;
  },
  record {
    more = omega arith;
    marked = λ n h. (h.0, gone (AbnormalAs n) (who.Task n) name w.tasks w.agent (λ e. no_name n e) h.1);
    fewer = λ n d h. h;
  },
)
