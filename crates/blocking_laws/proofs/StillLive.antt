-- Who acts is there behind its effect, unless its own scope is on top, with nothing to go on with: then it may have ended. Whoever else
-- is there and not only made stays so.
use Rattle.std.proofs.Common.{◌≡◌, Bool, true, false, ◌&&◌, ◌⊎◌, inl, inr, List, Option, Some, None, refl, sym, ap, ◌∙◌}
use Rattle.std.specs.Prelude.{is_none}
use Rattle.std.proofs.lemmas.Bool.{and_parts, false≢true}
use Rattle.trace_text.specs.declared.events.Who.{Who}
use Rattle.trace_text.specs.declared.events.Who.TheVariants as who
use Rattle.profile_image.specs.declared.image.Image.{Image}
use Rattle.profile_image.specs.declared.numbers.StatementNo.{StatementNo}
use Rattle.ann_base.specs.declared.identities.RegionNo.{RegionNo}
use Rattle.profile_machine.specs.declared.run_data.Leaving.{Leaving}
use Rattle.profile_image.specs.declared.values.Value.{Value}
use Rattle.profile_image.specs.Words.{same_who}
use Rattle.profile_machine.specs.declared.world.World.{World}
use Rattle.profile_machine.specs.declared.world.appointments.Registered.{Registered}
use Rattle.profile_machine.specs.declared.world.appointments.Release.{Release}
use Rattle.profile_machine.specs.declared.world.lines.Part.TheVariants.{Own}
use Rattle.profile_machine.specs.declared.world.marks.AcceptMark.{AcceptMark}
use Rattle.profile_machine.specs.declared.world.marks.Frame.{Frame}
use Rattle.profile_machine.specs.declared.world.marks.Mark.{Mark}
use Rattle.profile_machine.specs.declared.world.marks.Mark.TheVariants.{Scope, Handled, InProtected, InAccept, Abortable, InInitialize, InFinalize, InAssign}
use Rattle.profile_machine.specs.declared.world.marks.Purpose.{Purpose}
use Rattle.profile_machine.specs.declared.world.marks.Purpose.TheVariants as opened_for
use Rattle.profile_machine.specs.declared.world.marks.ScopeMark.{ScopeMark}
use Rattle.profile_machine.specs.declared.world.tasks.Task.{Task}
use Rattle.profile_machine.specs.Steps.{Step, changes, for_some, looks, settles, when, ◌▷◌}
use Rattle.profile_machine.specs.Tasks.{edit_task, task_of, with_ticks}
use Rattle.profile_machine.specs.Frames.{frames_of, is_protected, leaving_of, pop, top_of}
use Rattle.profile_image.specs.Program.{form_of}
use Rattle.profile_machine.specs.Scopes.{cells_of, end_scope, id_in, scope_in_use}
use Rattle.profile_machine.specs.Appointments.{drop_delay}
use Rattle.profile_machine.specs.Masters.{complete, end_activation, forget_task, terminate, wake_master}
use Rattle.profile_machine.specs.Controlled.{finalize, next_to_finalize}
use Rattle.profile_machine.specs.Tasking.{behind_scope, end_environment, end_of_scope, end_scope_mark, end_scope_mark_of, end_task}
use Rattle.profile_machine.specs.Tasking.{fails_by, go_on_leaving, is_environment, is_task_scope, left_by, says_done, says_left}
use Rattle.profile_machine.specs.Act.{act, act_frame, act_top, act_without, end_mark}
use Rattle.profile_machine.specs.Instant.{budgets_due, effect, events_due, moments_due, quantum_spent, script_items, timers_due}
use Rattle.profile_machine.specs.Steps.{◌▶◌}
use Rattle.world_tables.specs.Lists.{first_of}
use Rattle.world_laws.proofs.Scopes.FineMoves.{FineMoves, Live, is_task_mark, chains}
use Rattle.world_laws.proofs.Scopes.QuietMoves.{quiet}
use Rattle.world_laws.proofs.Scopes.GoodWorlds.{GoodWorld, nobody_free, same-good}
use Rattle.world_laws.proofs.Scopes.ScopeSteps.{own_ends-alone, scope_ends-good, scope_ends-live}
use Rattle.world_laws.proofs.Scopes.ActingMoves.{ActingWorld, Led, NoScopes, acting, gone-good, gone-live, openings, same-live, same-none}
use Rattle.world_laws.proofs.Scopes.ActionEnds.{end_in_protected-from, top-shielded}
use Rattle.world_laws.proofs.Scopes.TaskGroups.{groups, leave_region-keeps}
use Rattle.world_laws.proofs.Scopes.Lifting.{Lifts, MoveOf, StepOf, lifted, quietly_then-from, weaker-from}
use Rattle.world_laws.proofs.Scopes.Kept.Combinators.{both_then-from}
use Rattle.world_laws.proofs.Scopes.Kept.Frames.{open_if_ready-keeps, plain_steps}
use Rattle.world_laws.proofs.Scopes.Kept.Appointments.{drop_delay-alters}
use Rattle.world_laws.proofs.Scopes.Kept.Instant.{behind_action-leads}
use Rattle.world_laws.proofs.Scopes.Kept.Masters.{complete-keeps, end_activation-keeps, wake_master-keeps}
use Rattle.world_laws.proofs.Scopes.Kept.Rendezvous.{end_in_accept-from}
use Rattle.world_laws.proofs.Scopes.Kept.Controlled.{end_in_assign-from, end_in_finalize-from, end_in_initialize-from, finalize-keeps}
use Rattle.world_laws.proofs.Scopes.Kept.Tasking.{end_body-keeps, end_environment-alters, says_done-keeps}
use Rattle.world_laws.proofs.Scopes.Kept.Tasking.{says_left-keeps, take_terminates-keeps, unwind_all-keeps}
use Rattle.world_laws.proofs.Scopes.Kept.Handlers.{call_handler-keeps}
use Rattle.world_laws.proofs.Scopes.Kept.Act.{act_statement-keeps, end_handled-from, end_in_abortable-keeps}
use Rattle.line_laws.proofs.Exits.TaskEdits.{edited, one_of-is}
use Rattle.machine_laws.proofs.Moves.{lines_of}
use Rattle.machine_laws.proofs.FineMoves.{Anybody}
use Rattle.machine_laws.proofs.Kept.Combinators.{From, Keeps, Leads, changes-keeps, changes_then-from, for_some-keeps, keeps-from}
use Rattle.machine_laws.proofs.Kept.Combinators.{looks-keeps, looks_at-from, nothing-keeps, settles-from, then-from, then-keeps, when-keeps}
use Rattle.machine_laws.proofs.Plain.Frames.{pass_on-keeps}
use Rattle.machine_laws.proofs.Plain.Subprograms.{end_subprogram-keeps}
use Rattle.machine_laws.proofs.Plain.Results.{end_body_of_entry-keeps}

-- ---- who stays

-- somebody's own scope is on top, with nothing to go on with
abbrev pub ends_task : Option Frame → Bool
ends_task None = false
ends_task (Some f) = is_none f.onward && is_task_mark f.mark

-- others stay, and who acts does where this is so
pub record Lasts (me : Who) (Stays : Type 0) (w v : World) : Type 0 where
  pub good : GoodWorld v
  pub still : (n : Who) → (same_who n me ≡ false) ⊎ Stays → Live n w → Live n v

lasts_lifts : (me : Who) (Stays : Type 0) → Lifts GoodWorld (Lasts me Stays)
lasts_lifts me Stays = record {
  behind = λ a b h. h.good;
  goes_on = λ a b c p q. record { good = q.good; still = λ n k live. q.still n k (p.still n k live) };
  lift = λ w v g s. record { good = same-good nobody_free w v s g; still = λ n k live. same-live w v s n live };
}

lasting : (me : Who) (Stays : Type 0) → FineMoves GoodWorld Anybody Anybody (StepOf (Lasts me Stays)) (MoveOf (Lasts me Stays))
lasting me Stays = lifted (lasts_lifts me Stays)

module _ (p : Image) (me : Who) (Stays : Type 0) where
  led-lasts : (w : World) (step : Step) → From (StepOf (Led me)) w step → From (StepOf (Lasts me Stays)) w step
  led-lasts w step k = weaker-from (Led me) (Lasts me Stays) w step (λ v h. record { good = h.good; still = λ n s live. h.still n live }) k

  acts-lasts : (w : World) (step : Step) → ActingWorld me w → Keeps (ActingWorld me) (StepOf (Led me)) step → From (StepOf (Lasts me Stays)) w step
  acts-lasts w step g k = led-lasts w step (keeps-from (chains (acting me)) step w g k)

  -- ---- a task has ended

  still_others : (u : World) → (Stays → ⊥) → (n : Who) → (same_who n me ≡ false) ⊎ Stays → Live n u → Live n (forget_task me u)
  still_others u ends n (inl apart) live = gone-live me u n apart live
  still_others u ends n (inr stays) live = absurd (ends stays)

  terminates-from : (Stays → ⊥) → (w : World) → GoodWorld w → NoScopes me w → From (StepOf (Lasts me Stays)) w (terminate p me me)
  unfolding terminate
  terminates-from ends w g none =
      looks_at-from (chains (lasting me Stays))
      (λ v. complete p me me ▷ changes (drop_delay me) ▷ changes (forget_task me) ▷ for_some (task_of v me).master (wake_master p me)) w
      (quietly_then-from (lasts_lifts me Stays) (complete p me me) _ w g (complete-keeps quiet p me me) (λ v same g_v.
      quietly_then-from (lasts_lifts me Stays) (changes (drop_delay me)) _ v g_v (changes-keeps (chains quiet) _ (drop_delay-alters quiet me))
      (λ u same_u g_u.
      let good = gone-good me u g_u (same-none v u same_u me (same-none w v same me none)) in
      let out : Lasts me Stays u (forget_task me u) = record { good = good; still = still_others u ends } in
      changes_then-from (chains (lasting me Stays)) (forget_task me) _ u out
      (keeps-from (chains (lasting me Stays)) _ (forget_task me u) good
      (for_some-keeps (chains (lasting me Stays)) (task_of w me).master _ (λ r. wake_master-keeps (lasting me Stays) p me r))))))

  end_task-from : (Stays → ⊥) → (leaving : Leaving) (w : World) → GoodWorld w → NoScopes me w → From (StepOf (Lasts me Stays)) w (end_task p me leaving)
  unfolding end_task
  end_task-from ends leaving w g none =
      quietly_then-from (lasts_lifts me Stays) (says_done Own me) _ w g (says_done-keeps quiet Own me) (λ v same g_v.
      quietly_then-from (lasts_lifts me Stays) (looks (λ x. end_activation p me me (fails_by x me leaving))) _ v g_v
      (looks-keeps (chains quiet) _ (λ x. end_activation-keeps quiet p me me (fails_by x me leaving))) (λ u same_u g_u.
      then-from (chains (lasting me Stays)) (terminate p me me) (when (is_environment me) (changes (end_environment leaving))) u
      (terminates-from ends u g_u (same-none v u same_u me (same-none w v same me none)))
      (when-keeps (chains (lasting me Stays)) (is_environment me) _
      (changes-keeps (chains (lasting me Stays)) _ (end_environment-alters (lasting me Stays) leaving)))))

  -- ---- a scope has ended

  behind_scope-from : (purpose : Purpose) (cells : List Value) (leaving : Leaving) (w : World) → GoodWorld w → (is_task_scope purpose ≡ true → NoScopes me w)
      → (is_task_scope purpose ≡ true → Stays → ⊥) → From (StepOf (Lasts me Stays)) w (behind_scope p me purpose cells leaving)
  unfolding behind_scope
  behind_scope-from (opened_for.Block s) cells leaving w g own ends =
      keeps-from (chains (lasting me Stays)) _ w g (pass_on-keeps (plain_steps (lasting me Stays)) p me leaving tt)
  behind_scope-from (opened_for.Subprogram back to) cells leaving w g own ends =
      keeps-from (chains (lasting me Stays)) _ w g
      (end_body-keeps (lasting me Stays) p me leaving _ (end_subprogram-keeps (plain_steps (lasting me Stays)) p me cells back to leaving))
  behind_scope-from (opened_for.EntryBody c) cells leaving w g own ends =
      keeps-from (chains (lasting me Stays)) _ w g
      (end_body-keeps (lasting me Stays) p me leaving _ (end_body_of_entry-keeps (plain_steps (lasting me Stays)) p c cells leaving))
  behind_scope-from opened_for.Task cells leaving w g own ends = end_task-from (ends refl) leaving w g (own refl)

  end_of_scope-from : (m : ScopeMark) (leaving : Leaving) (f : Frame) (w : World) → GoodWorld w → top_of w me ≡ Some f → f.mark ≡ Scope m
      → (is_task_scope m.purpose ≡ true → Stays → ⊥) → From (StepOf (Lasts me Stays)) w (end_of_scope p me m leaving)
  unfolding end_of_scope
  end_of_scope-from m leaving f w g top is ends =
      let id : id_in f.mark ≡ Some m.within = ap id_in is in
      let z = end_scope m.within (pop me w) in
      let good = scope_ends-good nobody_free me f m.within w g top id in
      let out : Lasts me Stays w z = record { good = good; still = λ n k live. scope_ends-live me f m.within w top n live } in
      looks_at-from (chains (lasting me Stays))
      (λ v. changes (pop me) ▷ changes (end_scope m.within) ▷ says_left me m leaving
      ▷ behind_scope p me m.purpose (cells_of (scope_in_use v m.within)) (left_by m leaving)) w
      (both_then-from (lasting me Stays) (pop me) (end_scope m.within) _ w out
      (quietly_then-from (lasts_lifts me Stays) (says_left me m leaving) _ z good (says_left-keeps quiet me m leaving) (λ v same g_v.
      behind_scope-from m.purpose (cells_of (scope_in_use w m.within)) (left_by m leaving) v g_v
      (λ own. same-none z v same me (own_ends-alone nobody_free me f m.within w g top id (ap is_task_mark is ∙ own))) ends)))

  next_finalized-from : (m : ScopeMark) (leaving : Leaving) (found : Option Registered) (f : Frame) (w : World) → ActingWorld me w → top_of w me ≡ Some f
      → f.mark ≡ Scope m → (is_task_scope m.purpose ≡ true → Stays → ⊥)
      → From (StepOf (Lasts me Stays)) w (elim found as (λ _. Step) [ None ↦ end_of_scope p me m leaving | Some x ↦ finalize p me x ])
  next_finalized-from m leaving None f w g top is ends = end_of_scope-from m leaving f w g.0 top is ends
  next_finalized-from m leaving (Some x) f w g top is ends = acts-lasts w (finalize p me x) g (finalize-keeps (acting me) (openings me) p me x refl)

  go_on_leaving-from : (m : ScopeMark) (leaving : Leaving) (r : RegionNo) (being_left : Bool) (f : Frame) (w : World) → ActingWorld me w → top_of w me ≡ Some f
      → f.mark ≡ Scope m → (is_task_scope m.purpose ≡ true → Stays → ⊥) → From (StepOf (Lasts me Stays)) w (go_on_leaving p me m leaving r being_left)
  unfolding go_on_leaving
  go_on_leaving-from m leaving r false f w g top is ends = acts-lasts w _ g (leave_region-keeps p me m leaving r)
  go_on_leaving-from m leaving r true f w g top is ends =
      looks_at-from (chains (lasting me Stays))
      (λ v. elim (next_to_finalize v r) as (λ _. Step) [ None ↦ end_of_scope p me m leaving | Some x ↦ finalize p me x ]) w
      (next_finalized-from m leaving (next_to_finalize w r) f w g top is ends)

  by_region-from : (m : ScopeMark) (leaving : Leaving) (region : Option RegionNo) (f : Frame) (w : World) → ActingWorld me w → top_of w me ≡ Some f
      → f.mark ≡ Scope m → (is_task_scope m.purpose ≡ true → Stays → ⊥) → From (StepOf (Lasts me Stays)) w (end_scope_mark_of p me m leaving region)
  unfolding end_scope_mark_of
  by_region-from m leaving None f w g top is ends = end_of_scope-from m leaving f w g.0 top is ends
  by_region-from m leaving (Some r) f w g top is ends = go_on_leaving-from m leaving r m.being_left f w g top is ends

  end_scope_mark-from : (m : ScopeMark) (leaving : Leaving) (f : Frame) (w : World) → ActingWorld me w → top_of w me ≡ Some f → f.mark ≡ Scope m
      → (is_task_scope m.purpose ≡ true → Stays → ⊥) → From (StepOf (Lasts me Stays)) w (end_scope_mark p me m leaving)
  unfolding end_scope_mark
  end_scope_mark-from m leaving f w g top is ends = by_region-from m leaving m.region f w g top is ends

  -- ---- the end of the mark on top

  accept_ends-led : (m : AcceptMark) (f : Frame) (w : World) → ActingWorld me w → top_of w me ≡ Some f → f.mark ≡ InAccept m
      → Led me w (end_scope m.within (pop me w))
  accept_ends-led m f w g top is = record {
    good = scope_ends-good nobody_free me f m.within w g.0 top (ap id_in is);
    live = scope_ends-live me f m.within w top me g.1;
    still = scope_ends-live me f m.within w top;
  }

  end_mark-from : (f : Frame) (mark : Mark) (w : World) → ActingWorld me w → top_of w me ≡ Some f → f.mark ≡ mark → (is_task_mark mark ≡ true → Stays → ⊥)
      → From (StepOf (Lasts me Stays)) w (end_mark p me f mark)
  unfolding end_mark
  end_mark-from f (Scope m) w g top is ends = end_scope_mark-from m (leaving_of f) f w g top is ends
  end_mark-from f (Handled s) w g top is ends =
      led-lasts w _ (end_handled-from (acting me) p me s (leaving_of f) f w g tt top (ap is_protected is) (ap id_in is))
  end_mark-from f (InProtected m) w g top is ends =
      led-lasts w _ (end_in_protected-from p me m (leaving_of f) w g (top-shielded me f w top (ap is_protected is)))
  end_mark-from f (InAccept m) w g top is ends =
      led-lasts w _ (end_in_accept-from (acting me) (openings me) p me m (leaving_of f) w (accept_ends-led m f w g top is))
  end_mark-from f (Abortable m) w g top is ends = acts-lasts w _ g (end_in_abortable-keeps (acting me) p me m (leaving_of f) tt)
  end_mark-from f (InInitialize l) w g top is ends =
      led-lasts w _ (end_in_initialize-from (acting me) p me l (leaving_of f) f w g tt top (ap is_protected is) (ap id_in is))
  end_mark-from f (InFinalize o) w g top is ends =
      led-lasts w _ (end_in_finalize-from (acting me) p me (leaving_of f) f w g tt top (ap is_protected is) (ap id_in is))
  end_mark-from f (InAssign m) w g top is ends =
      led-lasts w _ (end_in_assign-from (acting me) (openings me) p me m f.left_as f w g refl top (ap is_protected is) (ap id_in is))

  act_frame-from : (f : Frame) (next : Option StatementNo) (w : World) → ActingWorld me w → top_of w me ≡ Some f
      → ((is_none next && is_task_mark f.mark) ≡ true → Stays → ⊥) → From (StepOf (Lasts me Stays)) w (act_frame p me f next)
  unfolding act_frame
  act_frame-from f (Some s) w g top ends = acts-lasts w _ g (act_statement-keeps (acting me) (openings me) (groups me) p me s (form_of p s) refl)
  act_frame-from f None w g top ends = end_mark-from f f.mark w g top refl ends

-- ---- an action

act_without-from : (p : Image) (me : Who) (Stays : Type 0) (serving : Option Release) (w : World) → ActingWorld me w
    → From (StepOf (Lasts me Stays)) w (act_without p me serving)
unfolding act_without
act_without-from p me Stays None w g = acts-lasts p me Stays w _ g (nothing-keeps (chains (acting me)))
act_without-from p who.Agent Stays (Some r) w g =
    acts-lasts p who.Agent Stays w _ g (call_handler-keeps (acting who.Agent) (openings who.Agent) p r refl)
act_without-from p (who.Task t) Stays (Some r) w g = acts-lasts p (who.Task t) Stays w _ g (nothing-keeps (chains (acting (who.Task t))))

act_top-from : (p : Image) (me : Who) (Stays : Type 0) (found : Option Frame) (w : World) → ActingWorld me w → top_of w me ≡ found
    → (ends_task found ≡ true → Stays → ⊥) → From (StepOf (Lasts me Stays)) w (act_top p me found)
unfolding act_top
act_top-from p me Stays None w g is ends =
    looks_at-from (chains (lasting me Stays)) (λ v. act_without p me v.serving) w (act_without-from p me Stays w.serving w g)
act_top-from p me Stays (Some f) w g is ends = act_frame-from p me Stays f f.onward w g is ends

frames-ticked : (name : Who) (w : World) → frames_of (edit_task name (with_ticks None) w) name ≡ frames_of w name
frames-ticked name w =
    let v = edit_task name (with_ticks None) w in
    ap (λ (t : Task). t.frames) (sym (one_of-is v name))
    ∙ edited (λ t. t.frames ≡ frames_of w name) name name (with_ticks None) w (λ t. refl) (λ same t h. h) (ap (λ (t : Task). t.frames) (one_of-is w name))

clash : (b : Bool) → b ≡ true → b ≡ false → ⊥
clash b on off = false≢true (sym off ∙ on)

-- who acts stays where its own scope does not end
abbrev pub IsStaying : Who → World → Type 0
IsStaying me w = ends_task (top_of w me) ≡ false

act-from : (p : Image) (me : Who) (Stays : Type 0) (w : World) → ActingWorld me w → (ends_task (top_of w me) ≡ true → Stays → ⊥)
    → From (StepOf (Lasts me Stays)) w (act p me)
unfolding act
act-from p me Stays w g ends =
    looks_at-from (chains (lasting me Stays)) (λ v. act_top p me (top_of v me)) w (act_top-from p me Stays (top_of w me) w g refl ends)

effect-from : (p : Image) (me : Who) (w : World) → ActingWorld me w → From (StepOf (Lasts me (IsStaying me w))) w (effect p me)
unfolding effect
effect-from p me w g =
    let v = edit_task me (with_ticks None) w in
    let led : Led me w v = (acting me).edits_task me (with_ticks None) w g (λ t. refl) (λ t. refl) (λ t. refl) (λ t. refl) in
    let out : Lasts me (IsStaying me w) w v = record { good = led.good; still = λ n k live. led.still n live } in
    let top : top_of v me ≡ top_of w me = ap first_of (frames-ticked me w) in
    let moves = lasting me (IsStaying me w) in
    changes_then-from (chains moves) (edit_task me (with_ticks None)) _ w out
    (then-from (chains moves) (act p me) _ v
    (act-from p me (IsStaying me w) v (led.good, led.live) (λ ends stays. clash (ends_task (top_of w me)) (ap ends_task (sym top) ∙ ends) stays))
    (then-keeps (chains moves) _ _ (open_if_ready-keeps moves p me tt)
    (then-keeps (chains moves) _ _ (take_terminates-keeps moves p me tt) (unwind_all-keeps moves p me))))

-- an effect is over
pub effect-lasts : (p : Image) (me : Who) (w : World) → ActingWorld me w → Lasts me (IsStaying me w) w (settles p (effect p me) w).0
effect-lasts p me w g =
    let moves = lasting me (IsStaying me w) in
    settles-from (MoveOf (Lasts me (IsStaying me w))) p (λ a b xs k. moves.settles a b xs (lines_of p xs) k) (effect p me) w (effect-from p me w g)

-- ---- what comes about beside it

abbrev pub later : Image → World → World
later p w = ((script_items p ▶ events_due p ▶ moments_due p ▶ timers_due p ▶ budgets_due p ▶ quantum_spent p) w).0

pub later-lasts : (p : Image) (w : World) → GoodWorld w → (n : Who) → Live n w → Live n (later p w)
unfolding Leads
later-lasts p w g n live = (behind_action-leads (lasting who.Agent (Unit {0})) p w g).still n (inr tt) live

-- ---- whose own scope ends

pub record Ending (name : Who) (w : World) : Type 0 where
  pub frame : Frame
  pub mark : ScopeMark
  pub top : top_of w name ≡ Some frame
  pub onward : frame.onward ≡ None
  pub is : frame.mark ≡ Scope mark
  pub own : is_task_scope mark.purpose ≡ true

task_scope : (m : Mark) → is_task_mark m ≡ true → (x : ScopeMark) × (m ≡ Scope x) × (is_task_scope x.purpose ≡ true)
task_scope (Scope x) e = (x, refl, e)
task_scope (Handled s) e = absurd (false≢true e)
task_scope (InProtected m) e = absurd (false≢true e)
task_scope (InAccept m) e = absurd (false≢true e)
task_scope (Abortable m) e = absurd (false≢true e)
task_scope (InInitialize l) e = absurd (false≢true e)
task_scope (InFinalize o) e = absurd (false≢true e)
task_scope (InAssign m) e = absurd (false≢true e)

none-is : {A : Type 0} (x : Option A) → is_none x ≡ true → x ≡ None
none-is None e = refl
none-is (Some y) e = absurd (false≢true e)

ending-of : (name : Who) (w : World) (found : Option Frame) → top_of w name ≡ found → ends_task found ≡ true → Ending name w
ending-of name w None top e = absurd (false≢true e)
ending-of name w (Some f) top e =
    let parts = and_parts (is_none f.onward) (is_task_mark f.mark) e in
    let scope = task_scope f.mark parts.1 in
    record { frame = f; mark = scope.0; top = top; onward = none-is f.onward parts.0; is = scope.1; own = scope.2 }

pub ends-own : (name : Who) (w : World) → ends_task (top_of w name) ≡ true → Ending name w
ends-own name w e = ending-of name w (top_of w name) refl e

-- with all that it has still to do before its action
pub ending-ticked : (name : Who) (w : World) → ends_task (top_of w name) ≡ true → Ending name (edit_task name (with_ticks None) w)
ending-ticked name w e = ends-own name (edit_task name (with_ticks None) w) (ap (λ fs. ends_task (first_of fs)) (frames-ticked name w) ∙ e)
