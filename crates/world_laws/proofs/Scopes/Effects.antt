-- The effect of an action of somebody who is there and not only made leads from a good world to a good world: a scope ends together
-- with its mark, and behind a task's own scope the task is gone.
use Rattle.std.proofs.Common.{◌≡◌, Bool, true, false, List, Option, Some, None, refl, ap, ◌∙◌}
use Rattle.trace_text.specs.declared.events.Who.{Who}
use Rattle.trace_text.specs.declared.events.Who.TheVariants as who
use Rattle.profile_image.specs.declared.image.Image.{Image}
use Rattle.profile_image.specs.declared.numbers.StatementNo.{StatementNo}
use Rattle.ann_base.specs.declared.identities.RegionNo.{RegionNo}
use Rattle.profile_machine.specs.declared.run_data.Leaving.{Leaving}
use Rattle.profile_image.specs.declared.values.Value.{Value}
use Rattle.profile_machine.specs.declared.world.World.{World}
use Rattle.profile_machine.specs.declared.world.appointments.Registered.{Registered}
use Rattle.profile_machine.specs.declared.world.appointments.Release.{Release}
use Rattle.profile_machine.specs.declared.world.lines.Part.TheVariants.{Own}
use Rattle.profile_machine.specs.declared.world.marks.AcceptMark.{AcceptMark}
use Rattle.profile_machine.specs.declared.world.marks.Frame.{Frame}
use Rattle.profile_machine.specs.declared.world.marks.Mark.{Mark}
use Rattle.profile_machine.specs.declared.world.marks.Mark.TheVariants.{Scope, Handled, InProtected, InAccept, Abortable, InInitialize, InFinalize, InAssign}
use Rattle.profile_machine.specs.declared.world.marks.Purpose.{Purpose}
use Rattle.profile_machine.specs.declared.world.marks.Purpose.TheVariants as opened_for
use Rattle.profile_machine.specs.declared.world.marks.ScopeMark.{ScopeMark}
use Rattle.profile_machine.specs.Steps.{Step, changes, for_some, looks, when, ◌▷◌}
use Rattle.profile_machine.specs.Tasks.{edit_task, task_of, with_ticks}
use Rattle.profile_machine.specs.Frames.{is_protected, leaving_of, pop, top_of}
use Rattle.profile_image.specs.Program.{form_of}
use Rattle.profile_machine.specs.Scopes.{cells_of, end_scope, id_in, scope_in_use}
use Rattle.profile_machine.specs.Appointments.{drop_delay}
use Rattle.profile_machine.specs.Masters.{complete, end_activation, forget_task, terminate, wake_master}
use Rattle.profile_machine.specs.Controlled.{finalize, next_to_finalize}
use Rattle.profile_machine.specs.Tasking.{behind_scope, end_environment, end_of_scope, end_scope_mark, end_scope_mark_of, end_task}
use Rattle.profile_machine.specs.Tasking.{fails_by, go_on_leaving, is_environment, is_task_scope, left_by, says_done, says_left}
use Rattle.profile_machine.specs.Act.{act, act_frame, act_top, act_without, end_mark}
use Rattle.profile_machine.specs.Instant.{effect}
use Rattle.world_laws.proofs.Scopes.FineMoves.{FineMoves, is_task_mark, chains}
use Rattle.world_laws.proofs.Scopes.QuietMoves.{quiet}
use Rattle.world_laws.proofs.Scopes.GoodWorlds.{GoodWorld, nobody_free, same-good}
use Rattle.world_laws.proofs.Scopes.ScopeSteps.{own_ends-alone, scope_ends-good, scope_ends-live}
use Rattle.world_laws.proofs.Scopes.ActingMoves.{ActingWorld, Led, NoScopes, acting, acting-lifts, gone-good, openings, same-none}
use Rattle.world_laws.proofs.Scopes.ActionEnds.{end_in_protected-from, top-shielded}
use Rattle.world_laws.proofs.Scopes.TaskGroups.{groups, leave_region-keeps}
use Rattle.world_laws.proofs.Scopes.Lifting.{Lifts, MoveOf, StepOf, WorldRelation, joined-from, lifted, quietly-from, quietly_then-from, weaker-from}
use Rattle.world_laws.proofs.Scopes.Kept.Combinators.{both_then-from}
use Rattle.world_laws.proofs.Scopes.Kept.Tasks.{edit_task-alters}
use Rattle.world_laws.proofs.Scopes.Kept.Frames.{open_if_ready-keeps, plain_steps}
use Rattle.world_laws.proofs.Scopes.Kept.Appointments.{drop_delay-alters}
use Rattle.world_laws.proofs.Scopes.Kept.Masters.{complete-keeps, end_activation-keeps, wake_master-keeps}
use Rattle.world_laws.proofs.Scopes.Kept.Rendezvous.{end_in_accept-from}
use Rattle.world_laws.proofs.Scopes.Kept.Controlled.{end_in_assign-from, end_in_finalize-from, end_in_initialize-from, finalize-keeps}
use Rattle.world_laws.proofs.Scopes.Kept.Tasking.{end_body-keeps, end_environment-alters, says_done-keeps}
use Rattle.world_laws.proofs.Scopes.Kept.Tasking.{says_left-keeps, take_terminates-keeps, unwind_all-keeps}
use Rattle.world_laws.proofs.Scopes.Kept.Handlers.{call_handler-keeps}
use Rattle.world_laws.proofs.Scopes.Kept.Act.{act_statement-keeps, end_handled-from, end_in_abortable-keeps}
use Rattle.machine_laws.proofs.FineMoves.{Anybody}
use Rattle.machine_laws.proofs.Kept.Combinators.{From, Keeps, changes-keeps, changes_then-from, for_some-keeps, keeps-from}
use Rattle.machine_laws.proofs.Kept.Combinators.{looks-keeps, looks_at-from, nothing-keeps, then-from, then-keeps, when-keeps}
use Rattle.machine_laws.proofs.Plain.Frames.{pass_on-keeps}
use Rattle.machine_laws.proofs.Plain.Subprograms.{end_subprogram-keeps}
use Rattle.machine_laws.proofs.Plain.Results.{end_body_of_entry-keeps}

-- ---- it leads to a good world

abbrev pub ToGood : WorldRelation
ToGood w v = GoodWorld v

pub good-lifts : Lifts GoodWorld ToGood
good-lifts = record { behind = λ a b h. h; goes_on = λ a b c p q. q; lift = λ w v g s. same-good nobody_free w v s g }

pub goodly : FineMoves GoodWorld Anybody Anybody (StepOf ToGood) (MoveOf ToGood)
goodly = lifted good-lifts

led-good : (me : Who) (w : World) (step : Step) → From (StepOf (Led me)) w step → From (StepOf ToGood) w step
led-good me w step k = weaker-from (Led me) ToGood w step (λ v h. h.good) k

acts-good : (me : Who) (w : World) (step : Step) → ActingWorld me w → Keeps (ActingWorld me) (StepOf (Led me)) step → From (StepOf ToGood) w step
acts-good me w step g k = led-good me w step (keeps-from (chains (acting me)) step w g k)

module _ (p : Image) (me : Who) where
  -- ---- a task has ended

  terminates-from : (w : World) → GoodWorld w → NoScopes me w → From (StepOf ToGood) w (terminate p me me)
  unfolding terminate
  terminates-from w g none =
      looks_at-from (chains goodly)
      (λ v. complete p me me ▷ changes (drop_delay me) ▷ changes (forget_task me) ▷ for_some (task_of v me).master (wake_master p me)) w
      (quietly_then-from good-lifts (complete p me me) _ w g (complete-keeps quiet p me me) (λ v same g_v.
      quietly_then-from good-lifts (changes (drop_delay me)) _ v g_v (changes-keeps (chains quiet) _ (drop_delay-alters quiet me)) (λ u same_u g_u.
      let out = gone-good me u g_u (same-none v u same_u me (same-none w v same me none)) in
      changes_then-from (chains goodly) (forget_task me) _ u out
      (keeps-from (chains goodly) _ (forget_task me u) out
      (for_some-keeps (chains goodly) (task_of w me).master _ (λ r. wake_master-keeps goodly p me r))))))

  end_task-from : (leaving : Leaving) (w : World) → GoodWorld w → NoScopes me w → From (StepOf ToGood) w (end_task p me leaving)
  unfolding end_task
  end_task-from leaving w g none =
      quietly_then-from good-lifts (says_done Own me) _ w g (says_done-keeps quiet Own me) (λ v same g_v.
      quietly_then-from good-lifts (looks (λ x. end_activation p me me (fails_by x me leaving))) _ v g_v
      (looks-keeps (chains quiet) _ (λ x. end_activation-keeps quiet p me me (fails_by x me leaving))) (λ u same_u g_u.
      then-from (chains goodly) (terminate p me me) (when (is_environment me) (changes (end_environment leaving))) u
      (terminates-from u g_u (same-none v u same_u me (same-none w v same me none)))
      (when-keeps (chains goodly) (is_environment me) _ (changes-keeps (chains goodly) _ (end_environment-alters goodly leaving)))))

  -- ---- a scope has ended

  behind_scope-from : (purpose : Purpose) (cells : List Value) (leaving : Leaving) (w : World) → GoodWorld w → (is_task_scope purpose ≡ true → NoScopes me w)
      → From (StepOf ToGood) w (behind_scope p me purpose cells leaving)
  unfolding behind_scope
  behind_scope-from (opened_for.Block s) cells leaving w g own = keeps-from (chains goodly) _ w g (pass_on-keeps (plain_steps goodly) p me leaving tt)
  behind_scope-from (opened_for.Subprogram back to) cells leaving w g own =
      keeps-from (chains goodly) _ w g (end_body-keeps goodly p me leaving _ (end_subprogram-keeps (plain_steps goodly) p me cells back to leaving))
  behind_scope-from (opened_for.EntryBody c) cells leaving w g own =
      keeps-from (chains goodly) _ w g (end_body-keeps goodly p me leaving _ (end_body_of_entry-keeps (plain_steps goodly) p c cells leaving))
  behind_scope-from opened_for.Task cells leaving w g own = end_task-from leaving w g (own refl)

  end_of_scope-from : (m : ScopeMark) (leaving : Leaving) (f : Frame) (w : World) → GoodWorld w → top_of w me ≡ Some f → f.mark ≡ Scope m
      → From (StepOf ToGood) w (end_of_scope p me m leaving)
  unfolding end_of_scope
  end_of_scope-from m leaving f w g top is =
      let id : id_in f.mark ≡ Some m.within = ap id_in is in
      let out = scope_ends-good nobody_free me f m.within w g top id in
      let z = end_scope m.within (pop me w) in
      let cells = cells_of (scope_in_use w m.within) in
      looks_at-from (chains goodly)
      (λ v. changes (pop me) ▷ changes (end_scope m.within) ▷ says_left me m leaving
      ▷ behind_scope p me m.purpose (cells_of (scope_in_use v m.within)) (left_by m leaving)) w
      (both_then-from goodly (pop me) (end_scope m.within) _ w out
      (quietly_then-from good-lifts (says_left me m leaving) _ z out (says_left-keeps quiet me m leaving) (λ v same g_v.
      behind_scope-from m.purpose cells (left_by m leaving) v g_v
      (λ own. same-none z v same me (own_ends-alone nobody_free me f m.within w g top id (ap is_task_mark is ∙ own))))))

  next_finalized-from : (m : ScopeMark) (leaving : Leaving) (found : Option Registered) (f : Frame) (w : World) → ActingWorld me w → top_of w me ≡ Some f
      → f.mark ≡ Scope m
      → From (StepOf ToGood) w (elim found as (λ _. Step) [ None ↦ end_of_scope p me m leaving | Some x ↦ finalize p me x ])
  next_finalized-from m leaving None f w g top is = end_of_scope-from m leaving f w g.0 top is
  next_finalized-from m leaving (Some x) f w g top is = acts-good me w (finalize p me x) g (finalize-keeps (acting me) (openings me) p me x refl)

  go_on_leaving-from : (m : ScopeMark) (leaving : Leaving) (r : RegionNo) (being_left : Bool) (f : Frame) (w : World) → ActingWorld me w → top_of w me ≡ Some f
      → f.mark ≡ Scope m → From (StepOf ToGood) w (go_on_leaving p me m leaving r being_left)
  unfolding go_on_leaving
  go_on_leaving-from m leaving r false f w g top is = acts-good me w _ g (leave_region-keeps p me m leaving r)
  go_on_leaving-from m leaving r true f w g top is =
      looks_at-from (chains goodly) (λ v. elim (next_to_finalize v r) as (λ _. Step) [ None ↦ end_of_scope p me m leaving | Some x ↦ finalize p me x ]) w
      (next_finalized-from m leaving (next_to_finalize w r) f w g top is)

  by_region-from : (m : ScopeMark) (leaving : Leaving) (region : Option RegionNo) (f : Frame) (w : World) → ActingWorld me w → top_of w me ≡ Some f
      → f.mark ≡ Scope m → From (StepOf ToGood) w (end_scope_mark_of p me m leaving region)
  unfolding end_scope_mark_of
  by_region-from m leaving None f w g top is = end_of_scope-from m leaving f w g.0 top is
  by_region-from m leaving (Some r) f w g top is = go_on_leaving-from m leaving r m.being_left f w g top is

  end_scope_mark-from : (m : ScopeMark) (leaving : Leaving) (f : Frame) (w : World) → ActingWorld me w → top_of w me ≡ Some f → f.mark ≡ Scope m
      → From (StepOf ToGood) w (end_scope_mark p me m leaving)
  unfolding end_scope_mark
  end_scope_mark-from m leaving f w g top is = by_region-from m leaving m.region f w g top is

  -- ---- an accept ends

  accept_ends-led : (m : AcceptMark) (f : Frame) (w : World) → ActingWorld me w → top_of w me ≡ Some f → f.mark ≡ InAccept m
      → Led me w (end_scope m.within (pop me w))
  accept_ends-led m f w g top is = record {
    good = scope_ends-good nobody_free me f m.within w g.0 top (ap id_in is);
    live = scope_ends-live me f m.within w top me g.1;
    still = scope_ends-live me f m.within w top;
  }

  -- ---- the end of the mark on top

  end_mark-from : (f : Frame) (mark : Mark) (w : World) → ActingWorld me w → top_of w me ≡ Some f → f.mark ≡ mark
      → From (StepOf ToGood) w (end_mark p me f mark)
  unfolding end_mark
  end_mark-from f (Scope m) w g top is = end_scope_mark-from m (leaving_of f) f w g top is
  end_mark-from f (Handled s) w g top is = led-good me w _ (end_handled-from (acting me) p me s (leaving_of f) f w g tt top (ap is_protected is) (ap id_in is))
  end_mark-from f (InProtected m) w g top is = led-good me w _ (end_in_protected-from p me m (leaving_of f) w g (top-shielded me f w top (ap is_protected is)))
  end_mark-from f (InAccept m) w g top is =
      led-good me w _ (end_in_accept-from (acting me) (openings me) p me m (leaving_of f) w (accept_ends-led m f w g top is))
  end_mark-from f (Abortable m) w g top is = acts-good me w _ g (end_in_abortable-keeps (acting me) p me m (leaving_of f) tt)
  end_mark-from f (InInitialize l) w g top is =
      led-good me w _ (end_in_initialize-from (acting me) p me l (leaving_of f) f w g tt top (ap is_protected is) (ap id_in is))
  end_mark-from f (InFinalize o) w g top is =
      led-good me w _ (end_in_finalize-from (acting me) p me (leaving_of f) f w g tt top (ap is_protected is) (ap id_in is))
  end_mark-from f (InAssign m) w g top is =
      led-good me w _ (end_in_assign-from (acting me) (openings me) p me m f.left_as f w g refl top (ap is_protected is) (ap id_in is))

  act_frame-from : (f : Frame) (next : Option StatementNo) (w : World) → ActingWorld me w → top_of w me ≡ Some f
      → From (StepOf ToGood) w (act_frame p me f next)
  unfolding act_frame
  act_frame-from f (Some s) w g top = acts-good me w _ g (act_statement-keeps (acting me) (openings me) (groups me) p me s (form_of p s) refl)
  act_frame-from f None w g top = end_mark-from f f.mark w g top refl

-- ---- an action

act_without-from : (p : Image) (me : Who) (serving : Option Release) (w : World) → ActingWorld me w → From (StepOf ToGood) w (act_without p me serving)
unfolding act_without
act_without-from p me None w g = acts-good me w _ g (nothing-keeps (chains (acting me)))
act_without-from p who.Agent (Some r) w g = acts-good who.Agent w _ g (call_handler-keeps (acting who.Agent) (openings who.Agent) p r refl)
act_without-from p (who.Task t) (Some r) w g = acts-good (who.Task t) w _ g (nothing-keeps (chains (acting (who.Task t))))

act_top-from : (p : Image) (me : Who) (found : Option Frame) (w : World) → ActingWorld me w → top_of w me ≡ found → From (StepOf ToGood) w (act_top p me found)
unfolding act_top
act_top-from p me None w g is = looks_at-from (chains goodly) (λ v. act_without p me v.serving) w (act_without-from p me w.serving w g)
act_top-from p me (Some f) w g is = act_frame-from p me f f.onward w g is

act-from : (p : Image) (me : Who) (w : World) → ActingWorld me w → From (StepOf ToGood) w (act p me)
unfolding act
act-from p me w g = looks_at-from (chains goodly) (λ v. act_top p me (top_of v me)) w (act_top-from p me (top_of w me) w g refl)

pub effect-from : (p : Image) (me : Who) (w : World) → ActingWorld me w → From (StepOf ToGood) w (effect p me)
unfolding effect
effect-from p me w g =
    joined-from (Led me) ToGood ToGood (λ a b c x y. y) (changes (edit_task me (with_ticks None))) _ w
    (quietly-from (acting-lifts me) (changes (edit_task me (with_ticks None))) w g
    (changes-keeps (chains quiet) _ (edit_task-alters quiet me (with_ticks None) (λ t. refl) (λ t. refl) (λ t. refl) (λ t. refl))))
    (λ v led.
    then-from (chains goodly) (act p me) _ v (act-from p me v (led.good, led.live))
    (then-keeps (chains goodly) _ _ (open_if_ready-keeps goodly p me tt)
    (then-keeps (chains goodly) _ _ (take_terminates-keeps goodly p me tt) (unwind_all-keeps goodly p me))))
