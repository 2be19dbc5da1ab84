-- Every change that the machine makes keeps the tie between the lines of protected actions and their marks.
use Rattle.std.proofs.Common.{◌≡◌, true, List, [], Option, Some, None, refl, sym, ap, subst, arith}
use Rattle.trace_text.specs.declared.events.Action as shown
use Rattle.trace_text.specs.declared.events.Event.{Event}
use Rattle.trace_text.specs.declared.events.Event.TheVariants as written
use Rattle.trace_text.specs.declared.events.Mode.TheVariants.{Write}
use Rattle.trace_text.specs.declared.events.Who.{Who}
use Rattle.trace_text.specs.declared.events.Who.TheVariants as who
use Rattle.trace_text.specs.Laws.{actions_after}
use Rattle.profile_machine.specs.declared.run_data.Leaving.{Leaving}
use Rattle.profile_image.specs.declared.numbers.StatementNo.{StatementNo}
use Rattle.profile_machine.specs.declared.world.World.{World}
use Rattle.profile_machine.specs.declared.world.tasks.Task.{Task}
use Rattle.profile_machine.specs.declared.world.tasks.State.TheVariants.{Runnable, Blocked}
use Rattle.profile_machine.specs.declared.world.marks.Frame.{Frame}
use Rattle.profile_machine.specs.declared.world.marks.Mark.{Mark}
use Rattle.profile_machine.specs.declared.world.marks.Mark.TheVariants.{Scope, Handled, InProtected, InAccept, Abortable, InInitialize, InFinalize, InAssign}
use Rattle.profile_machine.specs.declared.world.marks.ScopeMark.{ScopeMark}
use Rattle.profile_machine.specs.Tasks.{edit_task, with_state, with_frames}
use Rattle.profile_machine.specs.Frames.{push, pop, edit_first, edit_top, goes_on, with_mark}
use Rattle.profile_machine.specs.Controlled.{edit_scope_mark, edit_top_scope}
use Rattle.profile_machine.specs.Tasking.{being_left_mark, left_so_frame}
use Rattle.profile_machine.specs.Handlers.{clock_risen}
use Rattle.machine_laws.specs.LineKinds.{is_of_tock}
use Rattle.line_laws.proofs.Ticks.LineByLine.{seen_behind-append, Follow-append}
use Rattle.line_laws.specs.ExitLaws.{exits_rightly}
use Rattle.machine_laws.proofs.FineMoves.{AnyWorld, Anybody, each-anybody, gone_on}
use Rattle.machine_laws.proofs.FinestMoves.{FinestMoves, AllMoves, SettingMoves, TockChanges, natures, action_in}
use Rattle.machine_laws.proofs.Kept.Frames.{first-natures}
use Rattle.line_laws.proofs.Exits.OpenCounts.{count-first}
use Rattle.line_laws.proofs.Exits.Steady.{Holds, action_on_top}
use Rattle.line_laws.proofs.Exits.FreeActs.{held-on_top}
use Rattle.line_laws.proofs.Exits.ExitTies.{Credit, Tied, Tells, Shown, actions_behind, unmoved, moved, edited-tied}
use Rattle.line_laws.proofs.Exits.ExitTies.{same-tied, pushed-tied, popped-tied, added-tied, forgotten-tied, opens-tied}
use Rattle.line_laws.proofs.Exits.ExitTies.{begins-tells, ends-tells, visits-tells, settled-tells, then-tells, other-tells}

gone-tied : (name : Who) (onward : Option StatementNo) (w : World) (c : Credit) (s : List shown.Action) → Tied s c w → Tied s c (gone_on name onward w)
gone-tied name onward w =
    same-tied name (λ t. with_frames (edit_first (goes_on onward) t.frames) t) w (λ t. refl) (λ t. first-natures (goes_on onward) t.frames (λ x. refl))

state-tells : (name : Who) (f : Task → Task) (w : World) → ((t : Task) → (f t).who ≡ t.who) → ((t : Task) → (f t).frames ≡ t.frames)
    → Tells w [] (edit_task name f w)
state-tells name f w named same = moved w (edit_task name f w) (same-tied name f w named (λ t. ap natures (same t)))

-- ---- a region that begins to be left

pub scope-action : (f : ScopeMark → ScopeMark) (mark : Mark) → action_in (edit_scope_mark f mark) ≡ action_in mark
scope-action f (Scope m) = refl
scope-action f (Handled s) = refl
scope-action f (InProtected m) = refl
scope-action f (InAccept m) = refl
scope-action f (Abortable m) = refl
scope-action f (InInitialize l) = refl
scope-action f (InFinalize o) = refl
scope-action f (InAssign m) = refl

top-tied : (name : Who) (f : Frame → Frame) (w : World) → ((x : Frame) → action_in (f x).mark ≡ action_in x.mark) → (c : Credit) (s : List shown.Action)
    → Tied s c w → Tied s c (edit_top name f w)
top-tied name f w same =
    edited-tied name (λ t. with_frames (edit_first f t.frames) t) w (λ t. refl) (λ t o. let e = count-first o f t.frames same in omega (arith, e))

leaving-tied : (name : Who) (leaving : Leaving) (w : World) (c : Credit) (s : List shown.Action) → Tied s c w
    → Tied s c (edit_top name (left_so_frame leaving) (edit_top_scope name being_left_mark w))
leaving-tied name leaving w c s h =
    top-tied name (left_so_frame leaving) (edit_top_scope name being_left_mark w) (λ x. refl) c s
    (top-tied name (λ x. with_mark (edit_scope_mark being_left_mark x.mark) x) w (λ x. scope-action being_left_mark x.mark) c s h)

-- ---- the changes

fine : FinestMoves AnyWorld Anybody Anybody Tells Shown
fine = record {
  behind = λ a b h. tt;
  moved = λ a b h. tt;
  stays = λ w g. unmoved w;
  goes_on = λ a b c {xs} {ys} p q. then-tells a b c xs ys p q;
  says = λ part line w g apart. other-tells part line w apart;
  rests = λ w g c s h. (tt, h);
  leads_on = λ a b d {xs} {ys} p q c s h.
      let f = p c s h in
      let g = q c (actions_behind s xs) f.1 in
      (Follow-append actions_after exits_rightly s xs ys f.0 g.0, subst (λ t. Tied t c d) (sym (seen_behind-append actions_after exits_rightly s xs ys)) g.1);
  settles = λ p a b xs k. settled-tells p a b xs k;
  silently = λ a b k c s h. let f = k c s h in (tt, subst (λ t. Tied t c b) (sym f.1) f.2);
  other_may = λ name o. tt;
  task_other = λ n. tt;
  listed = λ w g. each-anybody w.tasks;
  awaits = λ name w g is. tt;
  edits_task = λ name f w g same_who same_frames same_state same_master same_clock. state-tells name f w same_who same_frames;
  edits_frames =
      λ name f w g same.
      moved w (edit_task name (λ t. with_frames (f t.frames) t) w) (same-tied name (λ t. with_frames (f t.frames) t) w (λ t. refl) (λ t. same t.frames));
  pushes_on = λ name onward f g w good may top region release action abortable c s h. (
    s,
    refl,
    pushed-tied name f (gone_on name onward w) action c s (gone-tied name onward w c s h),
  );
  opens_abortable = λ name f w g o region release action. moved w (push name f w) (pushed-tied name f w action);
  pops = λ name f w g may top action. moved w (pop name w) (popped-tied name w);
  begins_leaving = λ name f m r leaving w g may top is region left c s h. (s, refl, leaving-tied name leaving w c s h);
  has_left = λ name f m r w g may top is region left next c s h. (s, refl, popped-tied name w c s h);
  readies = λ name w g o. state-tells name (with_state Runnable) w (λ t. refl) (λ t. refl);
  blocks = λ name waiting w g o. state-tells name (with_state (Blocked waiting)) w (λ t. refl) (λ t. refl);
  places = λ p part name end w g may c s h. (s, refl, h);
  says_blocked = λ part name waiting w g o c s h. (s, refl, h);
  adds_task = λ name onward t w g o same_who none master clock c s h. (s, refl, added-tied t (gone_on name onward w) none c s (gone-tied name onward w c s h));
  forgets_task = λ name w g c s h. (s, refl, forgotten-tied name w c s h);
  sets_quantum = λ level ticks w g. unmoved w;
  ends_environment = λ leaving w g. unmoved w;
  begins_scope = λ p name scope b w g. unmoved w;
  edits_cells = λ id f w g. unmoved w;
  ends_scope = λ id w g. unmoved w;
  edits_call = λ c f w g same. unmoved w;
  adds_call = λ c w g. unmoved w;
  forgets_call = λ c w g. unmoved w;
  edits_object = λ o f w g number actions. unmoved w;
  adds_object = λ p l u w g. unmoved w;
  inside = λ name o mode w g lets. tt;
  visits = λ name o mode xs w v g lets quiet k. visits-tells name o mode xs w v quiet k;
  finds_held = λ name o mode w g finds c s h. (s, refl, h);
  appoints = λ due moment w g other later. unmoved w;
  drops_appointment = λ test w g spares. unmoved w;
  registers = λ name l w g c s h. (s, refl, h);
  finalizes = λ name f m r x w g may top is region left next c s h. (s, refl, h);
  replaces = λ name l x w g found c s h. (s, refl, h);
  draws_event = λ w g. unmoved w;
  adds_timer = λ t w g. unmoved w;
  adds_budget = λ w g. unmoved w;
  edits_budget = λ b f w g same. unmoved w;
}

settings : SettingMoves AnyWorld Tells
settings = record {
  appoints_event = λ n handler moment w g later. unmoved w;
  drops_any = λ test w g. unmoved w;
  clears_timer = λ k w g. unmoved w;
  sets_timer = λ k handler value w g. unmoved w;
  sets_timers_due = λ timers w g. unmoved w;
  sets_budget = λ b f w g. unmoved w;
  sets_budget_due = λ budget w g. unmoved w;
  counts = λ t w g. state-tells (who.Task t) clock_risen w (λ u. refl) (λ u. refl);
  sets_port = λ n value w g. unmoved w;
  masks = λ n flag w g. unmoved w;
  keeps_interrupt = λ n flag w g. unmoved w;
  cuts_script = λ x rest w g is due. unmoved w;
}

pub telling : AllMoves AnyWorld (Holds action_on_top) Tells Shown
telling = record {
  fine = fine;
  openings = record {
    pushes = λ name f w g may region release action abortable. moved w (push name f w) (pushed-tied name f w action);
    begins = λ name o mode call may w v xs g lets placed k. begins-tells name o mode call None w v xs k;
    opens_scope = λ p name scope b purpose w g may c s h. (s, refl, opens-tied p name scope b purpose w c s h);
    outside = λ name w g may is. tt;
    within_part = λ name f w g may top is. tt;
  };
  regions = record {
    owned = λ name f r w g may top is. tt;
    awaits_dependents = λ name r w g may owns is. tt;
  };
  ends = record { exits = λ name m w g may may_end held. ends-tells name m w (held-on_top name m.object w held) };
  handlers = record {
    handles = λ o n w v xs g lets placed k. begins-tells who.Agent o Write None (Some n) w v xs k;
    has_served = λ r w g is c s h. (s, refl, h);
  };
  settings = settings;
  releases = λ handler argument w g c s h. (s, refl, h);
}

-- what a tock does besides
tock-right : (s : List shown.Action) (event : Event) → is_of_tock event ≡ true → (exits_rightly s event ≡ true) × (actions_after s event ≡ s)
tock-right s (written.Enter name object mode) e = absurd cc
tock-right s (written.Exit name object) e = absurd cc
tock-right s _ e = (refl, refl)

pub tock_moves : TockChanges AnyWorld Shown
tock_moves = record {
  tells = λ event w g e c s h. let r = tock-right s event e in ((r.0, tt), subst (λ t. Tied t c w) (sym r.1) h);
  serves = λ r rest w g e c s h. (tt, h);
}
