-- A tock changes no level and no object.
use Rattle.ann_base.specs.declared.identities.TaskNo.{TaskNo}
use Rattle.ceiling_laws.proofs.Runs.SameLemmas.{edit_task-same, same_self, same_then}
use Rattle.ceiling_laws.specs.Cores.{Same, ceiling_in, core}
use Rattle.machine_laws.proofs.Kept.Run.{before_tick, tock-parts}
use Rattle.profile_machine.specs.Appointments.{is_delay_of}
use Rattle.profile_machine.specs.Cost.{cost}
use Rattle.profile_machine.specs.Dispatching.{choose}
use Rattle.profile_machine.specs.Handlers.{charge, charge_budget, charge_clock, charge_group, charge_task, clock_risen, quantum_spent_by}
use Rattle.profile_image.specs.Program.{is_robin_level}
use Rattle.profile_machine.specs.Run.{begin_action, next_tick, one_tick_less, say, says_idle, says_run, serve, serve_if_free, spend_tick, tock, with_serving}
use Rattle.profile_machine.specs.Steps.{rests}
use Rattle.profile_machine.specs.Tasks.{edit_task, task_of, with_ticks}
use Rattle.profile_image.specs.Words.{same_option, same_who}
use Rattle.profile_image.specs.declared.image.Image.{Image}
use Rattle.profile_machine.specs.declared.world.World.{World}
use Rattle.profile_machine.specs.declared.world.appointments.Release.{Release}
use Rattle.profile_machine.specs.declared.world.marks.Frame.{Frame}
use Rattle.profile_machine.specs.declared.world.tasks.Task.{Task}
use Rattle.std.proofs.Common.{Bool, List, None, Option, Some, [], ap, cond, false, map, refl, subst, sym, true, ◌-◌, ◌∙◌, ◌∷◌, ◌≡◌}
use Rattle.std.specs.List.{list_any}
use Rattle.std.specs.Prelude.{ℕ, unwrap_or}
use Rattle.trace_text.specs.declared.events.Event.{Event}
use Rattle.trace_text.specs.declared.events.Event.TheVariants as line
use Rattle.trace_text.specs.declared.events.Who.{Who}
use Rattle.trace_text.specs.declared.events.Who.TheVariants as who

spent-core : (b : Bool) (n : ℕ) (t : Task) → core (cond b (record t { quantum = n }) t) ≡ core t
spent-core true n t = refl
spent-core false n t = refl

plain_same : (a b : World) → b.tasks ≡ a.tasks → b.agent ≡ a.agent → b.objects ≡ a.objects → b.drawn ≡ a.drawn → b.appointments ≡ a.appointments → Same a b
plain_same a b tasks agent objects drawn appointments = record {
  tasks = ap (map core) tasks;
  agent = ap core agent;
  objects = ap (map ceiling_in) objects;
  drawn_tasks = ap (λ d. d.tasks) drawn;
  drawn_objects = ap (λ d. d.objects) drawn;
  delays = λ t e. ap (λ xs. list_any (λ a. is_delay_of t a.due) xs) (sym appointments) ∙ e;
}

clock-same : (t : TaskNo) (w : World) → Same w (charge_clock t w)
clock-same t w =
    let next = edit_task (who.Task t) clock_risen w in
    same_then w next (charge_clock t w) (edit_task-same (who.Task t) clock_risen w (λ u. refl)) (plain_same next (charge_clock t w) refl refl refl refl refl)

budget-same : (b : Option ℕ) (w : World) → Same w (charge_budget b w)
budget-same None w = same_self w
budget-same (Some b) w = plain_same w (charge_budget (Some b) w) refl refl refl refl refl

group-same : (t : TaskNo) (w : World) → Same w (charge_group t w)
group-same t w =
    let b = (task_of w (who.Task t)).budget in
    same_then w (charge_budget b w) (charge_group t w) (budget-same b w) (plain_same (charge_budget b w) (charge_group t w) refl refl refl refl refl)

charge-same : (p : Image) (name : Who) (w : World) → Same w (charge p name w)
charge-same p who.Agent w = same_self w
charge-same p (who.Task t) w =
    let clock = charge_clock t w in
    let group = charge_group t clock in
    same_then w group (charge_task p t w) (same_then w clock group (clock-same t w) (group-same t clock))
    (edit_task-same (who.Task t) (quantum_spent_by p) group (λ x. spent-core (is_robin_level p x.base) (x.quantum - 1) x))

run-same : (b : Bool) (name : Who) (w : World) → Same w (cond b rests (say (line.Run name)) w).0
run-same true name w = same_self w
run-same false name w = same_self w

served-same : (serving : Option Release) (frames : List Frame) (releases : List Release) (w : World) → Same w (serve_if_free serving frames releases w).0
served-same None [] [] w = same_self w
served-same None [] (r ∷ rest) w = plain_same w (with_serving r rest w) refl refl refl refl refl
served-same None (f ∷ fs) releases w = same_self w
served-same (Some r) frames releases w = same_self w

serve-same : (name : Who) (w : World) → Same w (serve name w).0
serve-same (who.Task t) w = same_self w
serve-same who.Agent w = served-same w.serving w.agent.frames w.releases w

idle-same : (ran : Option Who) (w : World) → Same w (says_idle ran w).0
idle-same None w = same_self w
idle-same (Some name) w = same_self w

before_tick-same : (p : Image) (chosen : Option Who) (w : World) → Same w (before_tick p chosen w).0
before_tick-same p None w = idle-same w.ran w
before_tick-same p (Some name) w =
    let told = (says_run name w.ran w).0 in
    let taken = (serve name told).0 in
    let begun = begin_action p name taken in
    let charged = charge p name begun in
    same_then w charged (spend_tick name charged)
    (same_then w begun charged
    (same_then w taken begun
    (same_then w told taken (run-same (same_option same_who w.ran (Some name)) name w) (serve-same name told))
    (edit_task-same name (with_ticks (Some (unwrap_or (task_of taken name).ticks_left (cost p taken name)))) taken (λ x. refl)))
    (charge-same p name begun))
    (edit_task-same name (λ t. with_ticks (one_tick_less t.ticks_left) t) charged (λ x. refl))

pub tock-same : (p : Image) (w : World) → Same w (tock p w).0
tock-same p w =
    let behind = (before_tick p (choose w) w).0 in
    subst (λ (t : World × List Event). Same w t.0) (sym (tock-parts p w))
    (same_then w behind (next_tick (choose w) behind) (before_tick-same p (choose w) w)
    (plain_same behind (next_tick (choose w) behind) refl refl refl refl refl))
