-- What a whole tock does to all that is released later.
use Rattle.std.proofs.Common.{◌≡◌, ℕ, suc, Bool, true, false, cond, filter, List, [], ◌∷◌, map, Option, Some, None, refl, sym, ap, subst, ◌∙◌}
use Rattle.std.specs.Prelude.{int_le, pos, unwrap_or}
use Rattle.std.specs.Prelude.{◌-◌}
use Rattle.ann_base.specs.declared.identities.TaskNo.{TaskNo}
use Rattle.trace_text.specs.declared.events.Event.{Event}
use Rattle.trace_text.specs.declared.events.Event.TheVariants as line
use Rattle.trace_text.specs.declared.events.Who.{Who}
use Rattle.trace_text.specs.declared.events.Who.TheVariants as who
use Rattle.profile_image.specs.declared.image.Image.{Image}
use Rattle.profile_machine.specs.declared.world.World.{World}
use Rattle.profile_machine.specs.declared.world.appointments.Release.{Release}
use Rattle.profile_machine.specs.declared.world.marks.Frame.{Frame}
use Rattle.profile_machine.specs.declared.world.tasks.Task.{Task}
use Rattle.profile_image.specs.Words.{same_who, same_option}
use Rattle.profile_machine.specs.Tasks.{task_of, found_task, edit_task, with_ticks}
use Rattle.profile_image.specs.Program.{is_robin_level}
use Rattle.profile_machine.specs.Dispatching.{choose}
use Rattle.profile_machine.specs.Cost.{cost}
use Rattle.profile_machine.specs.Handlers.{clock_risen, is_reached_by, quantum_spent_by, charge_budget, charge_clock, charge_task, charge, due_by_tick}
use Rattle.profile_machine.specs.Steps.{rests}
use Rattle.profile_machine.specs.Run.{says_run, say, says_idle, serve_if_free, serve, begin_action, one_tick_less, spend_tick, next_tick, tock}
use Rattle.machine_laws.proofs.Kept.Run.{before_tick, tock-parts}
use Rattle.release_laws.specs.ReleaseLaws.{TimerSet, BudgetSet, is_reached, budgets_run_out}
use Rattle.release_laws.proofs.ClockLemmas.{clock_in}
use Rattle.release_laws.proofs.TimerLists.{timer_in, timers_in}
use Rattle.release_laws.proofs.Untouched.{Sight, sight_of, budget_in}
use Rattle.release_laws.proofs.Effects.{Alike, edited-alike, edited-sight}
use Rattle.release_laws.proofs.TimerSteps.{number_of_timer, timers_of}
use Rattle.release_laws.proofs.TickSteps.{NoneReached, OneRan, due-timers, none-due, run_out_of, none-run_out, charged-run_out, charged-handlers, other-clock}

-- all that a charge leaves as it is, and what it makes due where nothing was
pub record Charged (a b : World) : Type 0 where
  pub appointments : b.appointments ≡ a.appointments
  pub timers : b.timers ≡ a.timers
  pub timers_set : b.timers_set ≡ a.timers_set
  pub script : b.script ≡ a.script
  pub masked : b.masked ≡ a.masked
  pub kept : b.kept_interrupts ≡ a.kept_interrupts
  pub time : b.time ≡ a.time
  pub handlers : (k : ℕ) → (budget_in b.budgets k).handler ≡ (budget_in a.budgets k).handler
  pub due : a.timers_due ≡ [] → NoneReached a (timers_of a) → b.timers_due ≡ map number_of_timer (filter (is_reached b) (timers_of a))
  pub run_out : a.budget_due ≡ None → (bs : List BudgetSet) → budgets_run_out 0 a.budgets b.budgets bs ≡ run_out_of b.budget_due bs

-- ---- the same from a world that is alike, and to one

none-alike : (a b : World) (ss : List TimerSet) → ((u : TaskNo) → clock_in b.tasks u ≡ clock_in a.tasks u) → NoneReached a ss → NoneReached b ss
none-alike a b [] same none = tt
none-alike a b (s ∷ ss) same none = (ap (λ n. int_le s.value (pos n)) (same s.task) ∙ none.0, none-alike a b ss same none.1)

reached-alike : (a b : World) (ss : List TimerSet) → ((u : TaskNo) → clock_in b.tasks u ≡ clock_in a.tasks u)
    → filter (is_reached a) ss ≡ filter (is_reached b) ss
reached-alike a b [] same = refl
reached-alike a b (s ∷ ss) same =
    ap (λ c. cond c (s ∷ filter (is_reached a) ss) (filter (is_reached a) ss)) (sym (ap (λ n. int_le s.value (pos n)) (same s.task)))
    ∙ ap (λ xs. cond (is_reached b s) (s ∷ xs) xs) (reached-alike a b ss same)

pub charged-alike : (a b c d : World) → Alike a b → Charged b c → Alike c d → Charged a d
charged-alike a b c d before k behind =
    let same_timers : timers_of b ≡ timers_of a = ap (λ (s : Sight). timers_in s.timers s.timers_set) before.sights in
    record {
      appointments = ap (λ (s : Sight). s.appointments) behind.sights ∙ k.appointments ∙ ap (λ (s : Sight). s.appointments) before.sights;
      timers = ap (λ (s : Sight). s.timers) behind.sights ∙ k.timers ∙ ap (λ (s : Sight). s.timers) before.sights;
      timers_set = ap (λ (s : Sight). s.timers_set) behind.sights ∙ k.timers_set ∙ ap (λ (s : Sight). s.timers_set) before.sights;
      script = ap (λ (s : Sight). s.script) behind.sights ∙ k.script ∙ ap (λ (s : Sight). s.script) before.sights;
      masked = ap (λ (s : Sight). s.masked) behind.sights ∙ k.masked ∙ ap (λ (s : Sight). s.masked) before.sights;
      kept = ap (λ (s : Sight). s.kept_interrupts) behind.sights ∙ k.kept ∙ ap (λ (s : Sight). s.kept_interrupts) before.sights;
      time = ap (λ (s : Sight). s.time) behind.sights ∙ k.time ∙ ap (λ (s : Sight). s.time) before.sights;
      handlers =
          λ i.
          ap (λ (s : Sight). (budget_in s.budgets i).handler) behind.sights ∙ k.handlers i ∙ ap (λ (s : Sight). (budget_in s.budgets i).handler) before.sights;
      due = λ none unreached.
          ap (λ (s : Sight). s.timers_due) behind.sights
          ∙ k.due (ap (λ (s : Sight). s.timers_due) before.sights ∙ none)
          (subst (NoneReached b) (sym same_timers) (none-alike a b (timers_of a) before.clocks unreached))
          ∙ ap (λ ss. map number_of_timer (filter (is_reached c) ss)) same_timers
          ∙ ap (map number_of_timer) (reached-alike c d (timers_of a) behind.clocks);
      run_out = λ none bs.
          ap (λ (s : Sight). budgets_run_out 0 a.budgets s.budgets bs) behind.sights
          ∙ ap (λ (s : Sight). budgets_run_out 0 s.budgets c.budgets bs) (sym before.sights)
          ∙ k.run_out (ap (λ (s : Sight). s.budget_due) before.sights ∙ none) bs
          ∙ sym (ap (λ (s : Sight). run_out_of s.budget_due bs) behind.sights);
    }

-- ---- a charge

pub uncharged : (a : World) → Charged a a
uncharged a = record {
  appointments = refl;
  timers = refl;
  timers_set = refl;
  script = refl;
  masked = refl;
  kept = refl;
  time = refl;
  handlers = λ k. refl;
  due = λ none unreached. none ∙ sym (none-due a a (timers_of a) (λ u. refl) unreached);
  run_out = λ none bs. none-run_out 0 a.budgets bs ∙ sym (ap (λ due. run_out_of due bs) none);
}

pub spent-who : (p : Image) (robin : Bool) (t : Task) → (cond robin (record t { quantum = t.quantum - 1 }) t).who ≡ t.who
spent-who p true t = refl
spent-who p false t = refl

pub spent-clock : (p : Image) (robin : Bool) (t : Task) → (cond robin (record t { quantum = t.quantum - 1 }) t).cpu_ticks ≡ t.cpu_ticks
spent-clock p true t = refl
spent-clock p false t = refl

group-sight : (group : Option ℕ) (w : World) → sight_of (charge_budget group w) ≡ record (sight_of w) { budgets = (charge_budget group w).budgets }
group-sight None w = refl
group-sight (Some b) w = refl

module _ (t : TaskNo) (a : World) where
  abbrev pub risen : World
  risen = edit_task (who.Task t) clock_risen a

  pub risen-sight : sight_of risen ≡ record (sight_of a) { tasks = risen.tasks }
  risen-sight = edited-sight (who.Task t) clock_risen a (found_task (who.Task t) a.tasks)

  abbrev pub clocked : World
  clocked = charge_clock t a

  clocked-due : clocked.timers_due ≡ filter (λ k. is_reached_by t (clock_in risen.tasks t) (timer_in a.timers k)) a.timers_set
  clocked-due = ap (λ (s : Sight). filter (λ k. is_reached_by t (clock_in risen.tasks t) (timer_in s.timers k)) s.timers_set) risen-sight

  module _ (group : Option ℕ) where
    abbrev pub paid : World
    paid = record (charge_budget group clocked) { budget_due = due_by_tick clocked group }

    pub paid-sight : sight_of paid
        ≡ record (sight_of a) {
          tasks = risen.tasks;
          timers_due = clocked.timers_due;
          budgets = (charge_budget group clocked).budgets;
          budget_due = due_by_tick clocked group;
        }
    paid-sight =
        ap (λ (s : Sight). record s { budget_due = due_by_tick clocked group }) (group-sight group clocked)
        ∙ ap (λ (s : Sight). record s {
          timers_due = clocked.timers_due;
          budgets = (charge_budget group clocked).budgets;
          budget_due = due_by_tick clocked group;
        }) risen-sight

    pub same_budgets : clocked.budgets ≡ a.budgets
    same_budgets = ap (λ (s : Sight). s.budgets) risen-sight

    ran-one : OneRan t (clock_in risen.tasks t) a paid
    ran-one = record {
      own = ap (λ (s : Sight). clock_in s.tasks t) paid-sight;
      others =
          λ u different.
          ap (λ (s : Sight). clock_in s.tasks u) paid-sight ∙ other-clock u t clock_risen a (found_task (who.Task t) a.tasks) different refl (λ y. refl);
    }

    paid-charged : Charged a paid
    paid-charged = record {
      appointments = ap (λ (s : Sight). s.appointments) paid-sight;
      timers = ap (λ (s : Sight). s.timers) paid-sight;
      timers_set = ap (λ (s : Sight). s.timers_set) paid-sight;
      script = ap (λ (s : Sight). s.script) paid-sight;
      masked = ap (λ (s : Sight). s.masked) paid-sight;
      kept = ap (λ (s : Sight). s.kept_interrupts) paid-sight;
      time = ap (λ (s : Sight). s.time) paid-sight;
      handlers = λ k. charged-handlers clocked group k ∙ ap (λ bs. (budget_in bs k).handler) same_budgets;
      due =
          λ none unreached.
          ap (λ (s : Sight). s.timers_due) paid-sight ∙ clocked-due ∙ due-timers t (clock_in risen.tasks t) a paid ran-one a.timers a.timers_set unreached;
      run_out = λ none bs. ap (λ xs. budgets_run_out 0 xs paid.budgets bs) (sym same_budgets) ∙ charged-run_out clocked group bs;
    }

task-charged : (p : Image) (t : TaskNo) (a : World) → Charged a (charge_task p t a)
task-charged p t a =
    let group = (task_of (charge_clock t a) (who.Task t)).budget in
    let before = paid t a group in
    charged-alike a a before (charge_task p t a) (record { sights = refl; clocks = λ u. refl }) (paid-charged t a group)
    (edited-alike (who.Task t) (quantum_spent_by p) before (λ x. spent-who p (is_robin_level p x.base) x) (λ x. spent-clock p (is_robin_level p x.base) x))

who-charged : (p : Image) (name : Who) (a : World) → Charged a (charge p name a)
who-charged p (who.Task t) a = task-charged p t a
who-charged p who.Agent a = uncharged a

-- ---- a tock up to its tick

pub run-alike : (same : Bool) (name : Who) (w : World) → (cond same rests (say (line.Run name)) w).0 ≡ w
run-alike true name w = refl
run-alike false name w = refl

free-alike : (serving : Option Release) (frames : List Frame) (releases : List Release) (w : World)
    → sight_of (serve_if_free serving frames releases w).0 ≡ sight_of w
free-alike None [] [] w = refl
free-alike None [] (r ∷ rest) w = refl
free-alike None (f ∷ fs) releases w = refl
free-alike (Some r) frames releases w = refl

pub serve-alike : (name : Who) (w : World) → sight_of (serve name w).0 ≡ sight_of w
serve-alike (who.Task t) w = refl
serve-alike who.Agent w = free-alike w.serving w.agent.frames w.releases w

alike-sights : (a b : World) → sight_of b ≡ sight_of a → Alike a b
alike-sights a b e = record {
  sights = e ∙ ap (λ ts. record (sight_of a) { tasks = ts }) (sym (ap (λ (s : Sight). s.tasks) e));
  clocks = λ u. ap (λ (s : Sight). clock_in s.tasks u) e;
}

alike-then : (a b c : World) → Alike a b → Alike b c → Alike a c
alike-then a b c p q = record {
  sights = q.sights ∙ ap (λ (s : Sight). record s { tasks = c.tasks }) p.sights;
  clocks = λ u. q.clocks u ∙ p.clocks u;
}

pub idle-same : (ran : Option Who) (w : World) → (says_idle ran w).0 ≡ w
idle-same None w = refl
idle-same (Some name) w = refl

before-charged : (p : Image) (chosen : Option Who) (w : World) → Charged w (before_tick p chosen w).0
before-charged p None w = subst (Charged w) (sym (idle-same w.ran w)) (uncharged w)
before-charged p (Some name) w =
    let told = (says_run name w.ran w).0 in
    let served = (serve name told).0 in
    let begun = begin_action p name served in
    let paid = charge p name begun in
    charged-alike w begun paid (spend_tick name paid)
    (alike-then w served begun
    (alike-then w told served (alike-sights w told (ap sight_of (run-alike (same_option same_who w.ran (Some name)) name w)))
    (alike-sights told served (serve-alike name told)))
    (edited-alike name (with_ticks (Some (unwrap_or (task_of served name).ticks_left (cost p served name)))) served (λ t. refl) (λ t. refl)))
    (who-charged p name begun)
    (edited-alike name (λ t. with_ticks (one_tick_less t.ticks_left) t) paid (λ t. refl) (λ t. refl))

-- ---- and the tick

pub record Ticked (a b : World) : Type 0 where
  pub appointments : b.appointments ≡ a.appointments
  pub timers : b.timers ≡ a.timers
  pub timers_set : b.timers_set ≡ a.timers_set
  pub script : b.script ≡ a.script
  pub masked : b.masked ≡ a.masked
  pub kept : b.kept_interrupts ≡ a.kept_interrupts
  pub later : b.time ≡ suc a.time
  pub handlers : (k : ℕ) → (budget_in b.budgets k).handler ≡ (budget_in a.budgets k).handler
  pub due : a.timers_due ≡ [] → NoneReached a (timers_of a) → b.timers_due ≡ map number_of_timer (filter (is_reached b) (timers_of a))
  pub run_out : a.budget_due ≡ None → (bs : List BudgetSet) → budgets_run_out 0 a.budgets b.budgets bs ≡ run_out_of b.budget_due bs

charged-ticked : (a b : World) (ran : Option Who) → Charged a b → Ticked a (next_tick ran b)
charged-ticked a b ran k = record {
  appointments = k.appointments;
  timers = k.timers;
  timers_set = k.timers_set;
  script = k.script;
  masked = k.masked;
  kept = k.kept;
  later = ap (λ n. suc n) k.time;
  handlers = k.handlers;
  due = λ none unreached. k.due none unreached ∙ ap (map number_of_timer) (reached-alike b (next_tick ran b) (timers_of a) (λ u. refl));
  run_out = k.run_out;
}

pub tock-ticked : (p : Image) (w : World) → Ticked w (tock p w).0
tock-ticked p w =
    subst (λ (x : World × List Event). Ticked w x.0) (sym (tock-parts p w))
    (charged-ticked w (before_tick p (choose w) w).0 (choose w) (before-charged p (choose w) w))
