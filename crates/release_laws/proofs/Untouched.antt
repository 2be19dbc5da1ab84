-- Of what is released later the changes of effects leave alone all that they do not name: the events that are set, the timers and
-- the handlers of budgets, the script and its flags; and no clock of a task goes on.
use Rattle.std.proofs.Common.{◌≡◌, ℕ, zero, suc, ℤ, ◌≤◌, Bool, true, false, List, [], ◌∷◌, ◌++◌}
use Rattle.std.proofs.Common.{slice_index_or, Option, Some, None, refl, ap, ◌∙◌, le_refl, arith}
use Rattle.trace_text.specs.declared.events.Event.{Event}
use Rattle.trace_text.specs.declared.events.Event.TheVariants as written
use Rattle.trace_text.specs.declared.events.Who.{Who}
use Rattle.trace_text.specs.declared.events.Who.TheVariants as who
use Rattle.trace_text.specs.declared.events.Mode.{Mode}
use Rattle.trace_text.specs.declared.events.Mode.TheVariants.{Write}
use Rattle.ann_base.specs.declared.identities.CallNo.{CallNo}
use Rattle.ann_base.specs.declared.identities.ObjectNo.{ObjectNo}
use Rattle.ann_base.specs.declared.identities.TaskNo.{TaskNo}
use Rattle.world_tables.specs.Lists.{rest_of}
use Rattle.profile_image.specs.declared.image.Image.{Image}
use Rattle.profile_image.specs.declared.numbers.StatementNo.{StatementNo}
use Rattle.profile_image.specs.declared.script_items.Item.{Item}
use Rattle.profile_machine.specs.declared.run_data.Leaving.{Leaving}
use Rattle.profile_machine.specs.declared.world.World.{World}
use Rattle.profile_machine.specs.declared.world.appointments.Appointment.{Appointment}
use Rattle.profile_machine.specs.declared.world.appointments.Budget.{Budget}
use Rattle.profile_machine.specs.declared.world.appointments.Due.{Due}
use Rattle.profile_machine.specs.declared.world.appointments.Timer.{Timer}
use Rattle.profile_machine.specs.declared.world.lines.Said.{Said}
use Rattle.profile_machine.specs.declared.world.lines.Line.TheVariants as said
use Rattle.profile_machine.specs.declared.world.marks.Frame.{Frame}
use Rattle.profile_machine.specs.declared.world.tasks.Task.{Task}
use Rattle.profile_machine.specs.declared.world.tasks.State.TheVariants.{Runnable, Blocked}
use Rattle.profile_image.specs.Words.{edit_at}
use Rattle.profile_machine.specs.Tasks.{task_at, edit_task_found, edit_task, with_state, with_frames}
use Rattle.profile_machine.specs.Frames.{edit_first, edit_top, with_mark, push, pop, new_frame, goes_on}
use Rattle.profile_image.specs.Program.{scope_of}
use Rattle.profile_machine.specs.Scopes.{begin_scope, draw_region, next_id, region_of_next, new_scope_mark}
use Rattle.profile_machine.specs.Values.{no_budget}
use Rattle.profile_machine.specs.Appointments.{appoint, drop_appointment, is_an_event}
use Rattle.profile_machine.specs.Masters.{forget_task}
use Rattle.profile_machine.specs.Protected.{new_protected_mark}
use Rattle.profile_machine.specs.Controlled.{edit_scope_mark, edit_top_scope}
use Rattle.profile_machine.specs.Tasking.{add_task, being_left_mark, left_so_frame}
use Rattle.profile_machine.specs.Releases.{released}
use Rattle.machine_laws.proofs.Moves.{own, is_told_apart}
use Rattle.machine_laws.proofs.FineMoves.{AnyWorld, Anybody, AnyRegion, AnyRelease, gone_on, is_apart, is_placing, first_is_false, quiet-others, each-anybody}
use Rattle.machine_laws.proofs.FinestMoves.{FinestMoves, SparesEvents, MarkOpenings, OwnRegions, ActionEnds}
use Rattle.machine_laws.proofs.FinestMoves.{HandlerMoves, Begins, Anyhow, is_of_region, less-quiet}
use Rattle.release_laws.proofs.ClockLemmas.{clock_in, set-clock, added-clock, gone-clock}
use Rattle.release_laws.proofs.EventLists.{events_of, Rises, put-rises, without-rises, put_other-events, spared-events}
use Rattle.release_laws.proofs.TimerLists.{timers_in, appended-seen, declared-timers}
use Rattle.release_laws.proofs.Tellings.{Tells, tells_none, tells_both, tells_other, tells_others, released-lines}

-- what there is of a world that is released later, or tells when
pub record Sight : Type 0 where
  pub time : ℕ
  pub appointments : List Appointment
  pub script : List (ℤ × Item)
  pub masked : List Bool
  pub kept_interrupts : List Bool
  pub timers : List Timer
  pub timers_set : List ℕ
  pub timers_due : List ℕ
  pub budgets : List Budget
  pub budget_due : Option ℕ
  pub tasks : List Task

abbrev pub sight_of : World → Sight
sight_of w = record {
  time = w.time;
  appointments = w.appointments;
  script = w.script;
  masked = w.masked;
  kept_interrupts = w.kept_interrupts;
  timers = w.timers;
  timers_set = w.timers_set;
  timers_due = w.timers_due;
  budgets = w.budgets;
  budget_due = w.budget_due;
  tasks = w.tasks;
}

abbrev pub budget_in : List Budget → ℕ → Budget
budget_in budgets k = slice_index_or budgets k no_budget

pub record EventsStay (a b : Sight) : Type 0 where
  pub same : events_of b.appointments ≡ events_of a.appointments
  pub rises : Rises a.appointments → Rises b.appointments

pub record TimersStay (a b : Sight) : Type 0 where
  pub same : timers_in b.timers b.timers_set ≡ timers_in a.timers a.timers_set
  pub same_due : b.timers_due ≡ a.timers_due

pub record BudgetsStay (a b : Sight) : Type 0 where
  pub same : (k : ℕ) → (budget_in b.budgets k).handler ≡ (budget_in a.budgets k).handler
  pub same_due : b.budget_due ≡ a.budget_due

pub record OutsideStays (a b : Sight) : Type 0 where
  pub same_script : b.script ≡ a.script
  pub same_masked : b.masked ≡ a.masked
  pub same_kept : b.kept_interrupts ≡ a.kept_interrupts

pub record ClocksStay (a b : Sight) : Type 0 where
  pub same_time : b.time ≡ a.time
  pub low : (t : TaskNo) → clock_in b.tasks t ≤ clock_in a.tasks t

pub record Untouched (a b : Sight) : Type 0 where
  pub events : EventsStay a b
  pub timers : TimersStay a b
  pub budgets : BudgetsStay a b
  pub outside : OutsideStays a b
  pub clocks : ClocksStay a b

pub events-stay : (a : Sight) → EventsStay a a
events-stay a = record { same = refl; rises = λ r. r }

pub timers-stay : (a : Sight) → TimersStay a a
timers-stay a = record { same = refl; same_due = refl }

pub budgets-stay : (a : Sight) → BudgetsStay a a
budgets-stay a = record { same = λ k. refl; same_due = refl }

pub outside-stays : (a : Sight) → OutsideStays a a
outside-stays a = record { same_script = refl; same_masked = refl; same_kept = refl }

pub clocks-stay : (a : Sight) → ClocksStay a a
clocks-stay a = record { same_time = refl; low = λ t. le_refl (clock_in a.tasks t) }

pub untouched : (a : Sight) → Untouched a a
untouched a = record { events = events-stay a; timers = timers-stay a; budgets = budgets-stay a; outside = outside-stays a; clocks = clocks-stay a }

pub events-then : (a b c : Sight) → EventsStay a b → EventsStay b c → EventsStay a c
events-then a b c p q = record { same = q.same ∙ p.same; rises = λ r. q.rises (p.rises r) }

pub timers-then : (a b c : Sight) → TimersStay a b → TimersStay b c → TimersStay a c
timers-then a b c p q = record { same = q.same ∙ p.same; same_due = q.same_due ∙ p.same_due }

pub budgets-then : (a b c : Sight) → BudgetsStay a b → BudgetsStay b c → BudgetsStay a c
budgets-then a b c p q = record { same = λ k. q.same k ∙ p.same k; same_due = q.same_due ∙ p.same_due }

pub outside-then : (a b c : Sight) → OutsideStays a b → OutsideStays b c → OutsideStays a c
outside-then a b c p q = record {
  same_script = q.same_script ∙ p.same_script;
  same_masked = q.same_masked ∙ p.same_masked;
  same_kept = q.same_kept ∙ p.same_kept;
}

pub clocks-then : (a b c : Sight) → ClocksStay a b → ClocksStay b c → ClocksStay a c
clocks-then a b c p q = record { same_time = q.same_time ∙ p.same_time; low = λ t. let first = p.low t in let second = q.low t in omega (arith, first, second) }

pub untouched-then : (a b c : Sight) → Untouched a b → Untouched b c → Untouched a c
untouched-then a b c p q = record {
  events = events-then a b c p.events q.events;
  timers = timers-then a b c p.timers q.timers;
  budgets = budgets-then a b c p.budgets q.budgets;
  outside = outside-then a b c p.outside q.outside;
  clocks = clocks-then a b c p.clocks q.clocks;
}

-- ---- tasks

clocks-only : (a : Sight) (tasks : List Task) → ((t : TaskNo) → clock_in tasks t ≤ clock_in a.tasks t) → Untouched a (record a { tasks = tasks })
clocks-only a tasks low = record {
  events = record { same = refl; rises = λ r. r };
  timers = record { same = refl; same_due = refl };
  budgets = record { same = λ k. refl; same_due = refl };
  outside = record { same_script = refl; same_masked = refl; same_kept = refl };
  clocks = record { same_time = refl; low = low };
}

edit_found-untouched : (name : Who) (f : Task → Task) (w : World) (found : Option Task) → task_at w name ≡ found → ((t : Task) → (f t).who ≡ t.who)
    → ((t : Task) → (f t).cpu_ticks ≡ t.cpu_ticks) → Untouched (sight_of w) (sight_of (edit_task_found name f w found))
edit_found-untouched name f w None e same_who same_clock = untouched (sight_of w)
edit_found-untouched (who.Task n) f w (Some x) e same_who same_clock =
    clocks-only (sight_of w) (edit_task_found (who.Task n) f w (Some x)).tasks
    (λ t. let same = set-clock (who.Task n) (f x) x (same_who x) (same_clock x) w.tasks t e in omega (arith, same))
edit_found-untouched who.Agent f w (Some x) e same_who same_clock = untouched (sight_of w)

pub edited-untouched : (name : Who) (f : Task → Task) (w : World) → ((t : Task) → (f t).who ≡ t.who) → ((t : Task) → (f t).cpu_ticks ≡ t.cpu_ticks)
    → Untouched (sight_of w) (sight_of (edit_task name f w))
edited-untouched name f w same_who same_clock = edit_found-untouched name f w (task_at w name) refl same_who same_clock

gone_on-untouched : (name : Who) (onward : Option StatementNo) (w : World) → Untouched (sight_of w) (sight_of (gone_on name onward w))
gone_on-untouched name onward w = edited-untouched name (λ t. with_frames (edit_first (goes_on onward) t.frames) t) w (λ t. refl) (λ t. refl)

pushed-untouched : (name : Who) (f : Frame) (w : World) → Untouched (sight_of w) (sight_of (push name f w))
pushed-untouched name f w = edited-untouched name (λ t. with_frames (f ∷ t.frames) t) w (λ t. refl) (λ t. refl)

popped-untouched : (name : Who) (w : World) → Untouched (sight_of w) (sight_of (pop name w))
popped-untouched name w = edited-untouched name (λ t. with_frames (rest_of t.frames) t) w (λ t. refl) (λ t. refl)

pushed_on-untouched : (name : Who) (onward : Option StatementNo) (f : Frame) (w : World)
    → Untouched (sight_of w) (sight_of (push name f (gone_on name onward w)))
pushed_on-untouched name onward f w =
    let gone = gone_on name onward w in
    untouched-then (sight_of w) (sight_of gone) (sight_of (push name f gone)) (gone_on-untouched name onward w) (pushed-untouched name f gone)

added-untouched : (name : Who) (onward : Option StatementNo) (t : Task) (w : World) → t.cpu_ticks ≡ 0
    → Untouched (sight_of w) (sight_of (add_task t (gone_on name onward w)))
added-untouched name onward t w e =
    let gone = gone_on name onward w in
    untouched-then (sight_of w) (sight_of gone) (sight_of (add_task t gone)) (gone_on-untouched name onward w)
    (clocks-only (sight_of gone) (gone.tasks ++ t ∷ []) (λ u. added-clock t gone.tasks u e))

opened-untouched : (p : Image) (kept : Bool) (name : Who) (f : Frame) (begun : World)
    → Untouched (sight_of begun) (sight_of (push name f (draw_region kept begun)))
opened-untouched p true name f begun = pushed-untouched name f (draw_region true begun)
opened-untouched p false name f begun = pushed-untouched name f begun

-- ---- appointments, timers and budgets

events-only : (a : Sight) (appointments : List Appointment) → EventsStay a (record a { appointments = appointments })
    → Untouched a (record a { appointments = appointments })
events-only a appointments k = record {
  events = k;
  timers = record { same = refl; same_due = refl };
  budgets = record { same = λ n. refl; same_due = refl };
  outside = record { same_script = refl; same_masked = refl; same_kept = refl };
  clocks = record { same_time = refl; low = λ t. le_refl (clock_in a.tasks t) };
}

appointed-untouched : (due : Due) (moment : ℤ) (w : World) → is_an_event due ≡ false → Untouched (sight_of w) (sight_of (appoint due moment w))
appointed-untouched due moment w other =
    let new : Appointment = record { due = due; moment = moment } in
    events-only (sight_of w) (appoint due moment w).appointments
    (record { same = put_other-events new w.appointments other; rises = put-rises new w.appointments })

pub dropped-untouched : (test : Due → Bool) (w : World) → SparesEvents test → Untouched (sight_of w) (sight_of (drop_appointment test w))
dropped-untouched test w spares =
    events-only (sight_of w) (drop_appointment test w).appointments
    (record { same = spared-events test w.appointments spares; rises = without-rises (λ a. test a.due) w.appointments })

declared-untouched : (t : TaskNo) (a : Sight) → Untouched a (record a { timers = a.timers ++ record { task = t; setting = None } ∷ [] })
declared-untouched t a = record {
  events = record { same = refl; rises = λ r. r };
  timers = record { same = declared-timers t a.timers a.timers_set; same_due = refl };
  budgets = record { same = λ n. refl; same_due = refl };
  outside = record { same_script = refl; same_masked = refl; same_kept = refl };
  clocks = record { same_time = refl; low = λ u. le_refl (clock_in a.tasks u) };
}

budgets-only : (a : Sight) (budgets : List Budget) → ((k : ℕ) → (budget_in budgets k).handler ≡ (budget_in a.budgets k).handler)
    → Untouched a (record a { budgets = budgets })
budgets-only a budgets k = record {
  events = record { same = refl; rises = λ r. r };
  timers = record { same = refl; same_due = refl };
  budgets = record { same = k; same_due = refl };
  outside = record { same_script = refl; same_masked = refl; same_kept = refl };
  clocks = record { same_time = refl; low = λ t. le_refl (clock_in a.tasks t) };
}

pub edited-seen : {X Y : Type 0} (see : X → Y) (f : X → X) (d : X) → ((x : X) → see (f x) ≡ see x) → (n : ℕ) (xs : List X) (k : ℕ)
    → see (slice_index_or (edit_at n f xs) k d) ≡ see (slice_index_or xs k d)
edited-seen see f d e n [] k = refl
edited-seen see f d e zero (x ∷ xs) zero = e x
edited-seen see f d e zero (x ∷ xs) (suc k) = refl
edited-seen see f d e (suc n) (x ∷ xs) zero = refl
edited-seen see f d e (suc n) (x ∷ xs) (suc k) = edited-seen see f d e n xs k

-- ---- the changes of effects

abbrev pub Calmly : World → List Said → World → Type 0
Calmly before said after = Untouched (sight_of before) (sight_of after) × Tells [] said

abbrev pub CalmMove : World → List Event → World → Type 0
CalmMove before lines after = Untouched (sight_of before) (sight_of after) × (released lines ≡ [])

still : (w : World) → Untouched (sight_of w) (sight_of w) × Tells [] []
still w = (untouched (sight_of w), tells_none)

pub released-append : (xs ys : List Event) → released (xs ++ ys) ≡ released xs ++ released ys
released-append [] ys = refl
released-append (written.Release n object handler ∷ xs) ys = ap (λ rest. record { object = object; procedure = handler } ∷ rest) (released-append xs ys)
released-append (_ ∷ xs) ys = released-append xs ys

none-append : (xs ys : List Event) → released xs ≡ [] → released ys ≡ [] → released (xs ++ ys) ≡ []
none-append xs ys p q = released-append xs ys ∙ ap (λ hs. hs ++ released ys) p ∙ q

left-untouched : (name : Who) (leaving : Leaving) (w : World)
    → Untouched (sight_of w) (sight_of (edit_top name (left_so_frame leaving) (edit_top_scope name being_left_mark w)))
left-untouched name leaving w =
    let marked = edit_top_scope name being_left_mark w in
    untouched-then (sight_of w) (sight_of marked) (sight_of (edit_top name (left_so_frame leaving) marked))
    (edited-untouched name (λ t. with_frames (edit_first (λ x. with_mark (edit_scope_mark being_left_mark x.mark) x) t.frames) t) w (λ t. refl) (λ t. refl))
    (edited-untouched name (λ t. with_frames (edit_first (left_so_frame leaving) t.frames) t) marked (λ t. refl) (λ t. refl))

pub calm : FinestMoves AnyWorld Anybody Anybody Calmly CalmMove
calm = record {
  behind = λ a b h. tt;
  moved = λ a b h. tt;
  stays = λ w g. still w;
  goes_on = λ a b c {xs} {ys} p q. (untouched-then (sight_of a) (sight_of b) (sight_of c) p.0 q.0, tells_both [] [] xs ys p.1 q.1);
  says = λ part line w g apart. (
    untouched (sight_of w),
    tells_other part line (first_is_false (is_told_apart line) (is_placing line) (first_is_false (is_apart line) (is_of_region line) apart)),
  );
  rests = λ w g. (untouched (sight_of w), refl);
  leads_on = λ a b c {xs} {ys} p q. (untouched-then (sight_of a) (sight_of b) (sight_of c) p.0 q.0, none-append xs ys p.1 q.1);
  settles = λ p a b xs k. (k.0, released-lines p [] xs k.1);
  silently = λ a b k. (k.0, refl);
  other_may = λ name o. tt;
  task_other = λ n. tt;
  listed = λ w g. each-anybody w.tasks;
  awaits = λ name w g is. tt;
  edits_task = λ name f w g same_who same_frames same_state same_master same_clock. (edited-untouched name f w same_who same_clock, tells_none);
  edits_frames = λ name f w g same. (edited-untouched name (λ t. with_frames (f t.frames) t) w (λ t. refl) (λ t. refl), tells_none);
  pushes_on = λ name onward f x w g may top region release action abortable. (pushed_on-untouched name onward f w, tells_none);
  opens_abortable = λ name f w g o region release action. (pushed-untouched name f w, tells_none);
  pops = λ name f w g may top action. (popped-untouched name w, tells_none);
  begins_leaving = λ name f m r leaving w g may top is region left. (left-untouched name leaving w, λ more. refl);
  has_left = λ name f m r w g may top is region left next. (popped-untouched name w, λ more. refl);
  readies = λ name w g o. (edited-untouched name (with_state Runnable) w (λ t. refl) (λ t. refl), tells_none);
  blocks = λ name waiting w g o. (edited-untouched name (with_state (Blocked waiting)) w (λ t. refl) (λ t. refl), tells_none);
  places = λ p part name end w g may. (untouched (sight_of w), λ more. refl);
  says_blocked = λ part name waiting w g o. (untouched (sight_of w), λ more. refl);
  adds_task = λ name onward t w g o same_who none master clock. (added-untouched name onward t w clock, tells_none);
  forgets_task = λ name w g. (clocks-only (sight_of w) (forget_task name w).tasks (λ t. gone-clock name w.tasks t), tells_none);
  sets_quantum = λ level ticks w g. still w;
  ends_environment = λ leaving w g. still w;
  begins_scope = λ p name scope b w g. still w;
  edits_cells = λ id f w g. still w;
  ends_scope = λ id w g. still w;
  edits_call = λ c f w g same. still w;
  adds_call = λ c w g. still w;
  forgets_call = λ c w g. still w;
  edits_object = λ o f w g number actions. still w;
  adds_object = λ p l u w g. still w;
  inside = λ name o mode w g h. tt;
  visits = λ name o mode xs w v g h quiet k. (
    k.0,
    λ more. tells_both [] [] xs (own (said.Exit name o) ∷ []) (tells_others xs (quiet-others xs (less-quiet xs quiet))) (λ rest. refl) more,
  );
  finds_held = λ name o mode w g h. (untouched (sight_of w), λ more. refl);
  appoints = λ due moment w g other later. (appointed-untouched due moment w other, tells_none);
  drops_appointment = λ test w g spares. (dropped-untouched test w spares, tells_none);
  registers = λ name l w g. (untouched (sight_of w), λ more. refl);
  finalizes = λ name f m r x w g may top is region left next. (untouched (sight_of w), λ more. refl);
  replaces = λ name l x w g found. (untouched (sight_of w), λ more. refl);
  draws_event = λ w g. still w;
  adds_timer = λ t w g. (declared-untouched t (sight_of w), tells_none);
  adds_budget = λ w g. (
    budgets-only (sight_of w) (w.budgets ++ no_budget ∷ []) (λ k. appended-seen (λ (b : Budget). b.handler) no_budget no_budget refl w.budgets k),
    tells_none,
  );
  edits_budget = λ b f w g same. (
    budgets-only (sight_of w) (edit_at b f w.budgets) (λ k. edited-seen (λ (x : Budget). x.handler) f no_budget same b w.budgets k),
    tells_none,
  );
}

begins-calm : (name : Who) (o : ObjectNo) (mode : Mode) (call : Option CallNo) (release : Option ℕ) → Begins AnyWorld Calmly name o mode call release
begins-calm name o mode call release w v xs good lets placed k =
    let f = new_frame (new_protected_mark o mode call release) None in (
      untouched-then (sight_of w) (sight_of v) (sight_of (push name f v)) k.0 (pushed-untouched name f v),
      tells_both [] [] (own (said.Enter name o mode) ∷ []) xs (λ more. refl) k.1,
    )

pub calm_openings : MarkOpenings AnyWorld Anybody Anybody Calmly
calm_openings = record {
  pushes = λ name f w g may region release action abortable. (pushed-untouched name f w, tells_none);
  begins = λ name o mode call may w v xs g lets placed k. begins-calm name o mode call None w v xs g lets placed k;
  opens_scope = λ p name scope b purpose w g may. (
    opened-untouched p (scope_of p scope).kept name
        (new_frame (new_scope_mark (next_id w) (region_of_next (scope_of p scope).kept w) purpose) (scope_of p scope).first) (begin_scope p name scope b w),
    tells_none,
  );
  outside = λ name w g may is. tt;
  within_part = λ name f w g may top is. tt;
}

pub calm_regions : OwnRegions AnyWorld Anybody Anybody AnyRegion
calm_regions = record {
  owned = λ name f r w g may top is. tt;
  awaits_dependents = λ name r w g may owns is. tt;
}

pub calm_ends : ActionEnds AnyWorld Anybody AnyRelease Anyhow Calmly
calm_ends = record { exits = λ name m w g may may_end held. (popped-untouched name w, λ more. refl) }

pub calm_handlers : HandlerMoves AnyWorld Calmly
calm_handlers = record {
  handles = λ o n w v xs g lets placed k. begins-calm who.Agent o Write None (Some n) w v xs g lets placed k;
  has_served = λ r w g is. (untouched (sight_of w), λ more. refl);
}
