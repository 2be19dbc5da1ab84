-- Events, timers, budgets, interrupts and releases: each step keeps a relation that its parts keep.
use Rattle.std.specs.Prelude.{ℕ, ◌-◌, ℤ, pos, int_lt, Bool, true, false, cond, Option, Some, None}
use Rattle.ann_base.specs.declared.identities.TaskNo.{TaskNo}
use Rattle.profile_machine.specs.declared.world.lines.Line.TheVariants as line
use Rattle.trace_text.specs.declared.events.Who.{Who}
use Rattle.trace_text.specs.declared.events.Who.TheVariants as who
use Rattle.profile_image.specs.declared.image.Image.{Image}
use Rattle.profile_image.specs.declared.numbers.DeclNo.{DeclNo}
use Rattle.profile_image.specs.declared.numbers.ExprNo.{ExprNo}
use Rattle.profile_image.specs.declared.numbers.StatementNo.{StatementNo}
use Rattle.profile_image.specs.declared.expressions.VariableName.{VariableName}
use Rattle.profile_image.specs.declared.statements.HandlerName.{HandlerName}
use Rattle.profile_image.specs.declared.statements.Setting.{Setting}
use Rattle.profile_image.specs.declared.values.Value.TheVariants.{Truth}
use Rattle.profile_machine.specs.declared.world.World.{World}
use Rattle.profile_machine.specs.declared.world.appointments.HandlerOf.{HandlerOf}
use Rattle.profile_machine.specs.declared.world.appointments.Budget.{Budget}
use Rattle.profile_machine.specs.declared.world.scopes.Variable.{Variable}
use Rattle.profile_machine.specs.declared.world.tasks.State.{State}
use Rattle.profile_machine.specs.declared.world.appointments.Due.TheVariants as due_for
use Rattle.profile_machine.specs.declared.world.tasks.State.TheVariants.{Made, Runnable, Blocked}
use Rattle.profile_machine.specs.declared.world.tasks.Task as world
use Rattle.profile_image.specs.Program.{is_robin_level}
use Rattle.profile_machine.specs.declared.world.lines.Part.{Part}
use Rattle.profile_machine.specs.declared.world.lines.Part.TheVariants.{Own}
use Rattle.profile_machine.specs.Steps.{Step, changes, says}
use Rattle.profile_machine.specs.Tasks.{task_of, edit_task}
use Rattle.profile_machine.specs.Values.{Seen}
use Rattle.profile_machine.specs.CallEnds.{store}
use Rattle.profile_machine.specs.Handlers.{add_release, says_release, wake_agent, release, with_room_for_release, interrupt, setting_of, answer}
use Rattle.profile_machine.specs.Handlers.{cancel_event_setting, appoint_event, event_set_to, set_event, cancel_event, clear_timer, with_timer_set}
use Rattle.profile_machine.specs.Handlers.{timer_set_beyond, timer_set_to, set_timer, cancel_timer, edit_budget, change_member, add_member, remove_member}
use Rattle.profile_machine.specs.Handlers.{fill_budget, replenish, add_to_budget, set_budget, cancel_budget, clock_risen, due_by_tick, charge_budget}
use Rattle.profile_machine.specs.Handlers.{timers_reached, quantum_spent_by, charge_clock, charge_group, charge_task, charge, handler_attached}
use Rattle.std.proofs.Common.{◌≡◌, refl}
use Rattle.std.specs.Prelude.{Bool}
use Rattle.machine_laws.proofs.FineMoves.{GoodWorld, Naming}
use Rattle.world_laws.proofs.Sequences.FineMoves.{FineMoves, chains, says-keeps}
use Rattle.world_laws.proofs.Behind.{Behind}
use Rattle.world_laws.proofs.Sequences.Kept.Frames.{goes-keeps, plain_steps}
use Rattle.world_laws.proofs.Sequences.Kept.Tasks.{edit_task-alters}
use Rattle.world_laws.proofs.Sequences.Kept.Dispatching.{ready-from}
use Rattle.world_laws.proofs.Sequences.Kept.Appointments.{appoint-from, drop_appointment-alters}
use Rattle.machine_laws.proofs.Kept.Handlers.{spent-frames, spent-state, spent-who}
use Rattle.machine_laws.proofs.Kept.Combinators.{Alters, From, Keeps, changes-keeps, for_some-keeps, from-keeps, keeps-from, looks-from}
use Rattle.machine_laws.proofs.Kept.Combinators.{looks-keeps, nothing-keeps, said-keeps, sees-keeps, then-keeps, unchanged-alters}
use Rattle.machine_laws.proofs.Plain.Frames.{becomes-from, given-keeps, raise_if-keeps}
use Rattle.machine_laws.proofs.Plain.Cells.{store-gives}

spent-unit : (robin : Bool) (t : world.Task) → (cond robin (record t { quantum = t.quantum - 1 }) t).unit ≡ t.unit
spent-unit true t = refl
spent-unit false t = refl

-- ---- a release comes, and the agent is woken

module _ {p : Image} {G : GoodWorld} {May Other : Naming} (moves : FineMoves p G May Other) where
  adds_release-alters : (h : HandlerOf) (argument : Option ℕ) → Alters G (Behind G) (add_release h argument)
  unfolding Alters
  adds_release-alters h argument w good = moves.adds_release h argument w good

  says_release-keeps : (part : Part) (h : HandlerOf) → Keeps G (Behind G) (says_release part h)
  unfolding says_release
  says_release-keeps part h = looks-keeps (chains moves) _ (λ w. said-keeps (chains moves) part (line.Release w.drawn.releases h) (λ v good. good))

  wake_agent-keeps : (part : Part) (state : State) → Keeps G (Behind G) (wake_agent p part state)
  unfolding wake_agent
  wake_agent-keeps part (Blocked waiting) = from-keeps (chains moves) _ (λ w good. ready-from moves part who.Agent w (moves.readies_agent w good))
  wake_agent-keeps part Runnable = nothing-keeps (chains moves)
  wake_agent-keeps part Made = nothing-keeps (chains moves)

  pub release-keeps : (part : Part) (h : HandlerOf) (argument : Option ℕ) → Keeps G (Behind G) (release p part h argument)
  unfolding release
  release-keeps part h argument =
      then-keeps (chains moves) (changes (add_release h argument)) _ (changes-keeps (chains moves) _ (adds_release-alters h argument))
      (then-keeps (chains moves) (says_release part h) _ (says_release-keeps part h) (looks-keeps (chains moves) _ (λ w. wake_agent-keeps part w.agent.state)))

-- ---- settings, and the charge of a tick

module _ {p : Image} {G : GoodWorld} {May Other : Naming} (moves : FineMoves p G May Other) where
  pub with_room_for_release-keeps : (name : Who) (needed : Bool) (step : Step) → Keeps G (Behind G) step
      → Keeps G (Behind G) (with_room_for_release name needed step)
  with_room_for_release-keeps name needed step kept = search (looks-keeps, raise_if-keeps, chains, plain_steps)

  pub setting_of-keeps : (name : Who) (q : Seen) (base : ℤ) (set : Setting) (named : Option HandlerName) (step : Option HandlerOf → ℤ → Step)
      → ((x : Option HandlerOf) (y : ℤ) → Keeps G (Behind G) (step x y)) → Keeps G (Behind G) (setting_of p name q base set named step)
  setting_of-keeps name q base set named step kept = search (given-keeps, with_room_for_release-keeps, raise_if-keeps, plain_steps)

  pub answer-keeps : (name : Who) (v : Variable) (b : Bool) → Keeps G (Behind G) (answer p name v b)
  unfolding answer
  answer-keeps name v b =
      looks-from (chains moves) _
      (λ w good. becomes-from (plain_steps moves) Own name (store p v (Truth b) w) w good (store-gives (plain_steps moves) p v (Truth b) w good))

  pub cancel_event_setting-alters : (e : ℕ) → Alters G (Behind G) (cancel_event_setting e)
  cancel_event_setting-alters e = search (drop_appointment-alters)

  pub cancel_event-keeps : (name : Who) (s : StatementNo) (d : DeclNo) (target : VariableName) → May name → Keeps G (Behind G) (cancel_event p name s d target)
  unfolding cancel_event
  cancel_event-keeps name s d target may =
      search (sees-keeps, given-keeps, goes-keeps, then-keeps, changes-keeps, cancel_event_setting-alters, answer-keeps, chains, plain_steps) depth 11

  pub clear_timer-alters : (k : ℕ) → Alters G (Behind G) (clear_timer k)
  unfolding Alters
  clear_timer-alters k w good = moves.clears_timer k w good

  with_timer_set-alters : (k : ℕ) (h : HandlerOf) (v : ℤ) → Alters G (Behind G) (with_timer_set k h v)
  unfolding Alters
  with_timer_set-alters k h v w good = moves.sets_timer k h v w good

  pub cancel_timer-keeps : (name : Who) (s : StatementNo) (d : DeclNo) (target : VariableName) → May name → Keeps G (Behind G) (cancel_timer p name s d target)
  unfolding cancel_timer
  cancel_timer-keeps name s d target may =
      search (sees-keeps, given-keeps, goes-keeps, then-keeps, changes-keeps, clear_timer-alters, answer-keeps, chains, plain_steps) depth 11

  edit_budget-alters : (b : ℕ) (f : Budget → Budget) → Alters G (Behind G) (edit_budget b f)
  unfolding Alters
  edit_budget-alters b f w good = moves.edits_budget b f w good

  pub change_member-keeps : (name : Who) (s : StatementNo) (t : world.Task) (is_right : Bool) (b : Option ℕ) → May name
      → Keeps G (Behind G) (change_member p name s t is_right b)
  unfolding change_member
  change_member-keeps name s t is_right b may = search (raise_if-keeps, goes-keeps, then-keeps, changes-keeps, edit_task-alters, chains, plain_steps)

  pub add_member-keeps : (name : Who) (s : StatementNo) (d : DeclNo) (e : ExprNo) → May name → Keeps G (Behind G) (add_member p name s d e)
  unfolding add_member
  add_member-keeps name s d e may = search (sees-keeps, given-keeps, change_member-keeps, chains, plain_steps) depth 8

  pub remove_member-keeps : (name : Who) (s : StatementNo) (d : DeclNo) (e : ExprNo) → May name → Keeps G (Behind G) (remove_member p name s d e)
  unfolding remove_member
  remove_member-keeps name s d e may = search (sees-keeps, given-keeps, change_member-keeps, chains, plain_steps) depth 8

  pub fill_budget-keeps : (name : Who) (s : StatementNo) (d : DeclNo) (e : ExprNo) (f : ℤ → Budget → Budget) → May name
      → Keeps G (Behind G) (fill_budget p name s d e f)
  unfolding fill_budget
  fill_budget-keeps name s d e f may =
      search (
        sees-keeps,
        given-keeps,
        with_room_for_release-keeps,
        raise_if-keeps,
        goes-keeps,
        then-keeps,
        changes-keeps,
        edit_budget-alters,
        chains,
        plain_steps,
      ) depth 10

  pub replenish-keeps : (name : Who) (s : StatementNo) (d : DeclNo) (e : ExprNo) → May name → Keeps G (Behind G) (replenish p name s d e)
  unfolding replenish
  replenish-keeps name s d e may = search (fill_budget-keeps)

  pub add_to_budget-keeps : (name : Who) (s : StatementNo) (d : DeclNo) (e : ExprNo) → May name → Keeps G (Behind G) (add_to_budget p name s d e)
  unfolding add_to_budget
  add_to_budget-keeps name s d e may = search (fill_budget-keeps)

  pub set_budget-keeps : (name : Who) (s : StatementNo) (d : DeclNo) (named : Option HandlerName) → May name → Keeps G (Behind G) (set_budget p name s d named)
  unfolding set_budget
  set_budget-keeps name s d named may =
      search (
        sees-keeps,
        given-keeps,
        with_room_for_release-keeps,
        raise_if-keeps,
        goes-keeps,
        then-keeps,
        changes-keeps,
        edit_budget-alters,
        chains,
        plain_steps,
      ) depth 10

  pub cancel_budget-keeps : (name : Who) (s : StatementNo) (d : DeclNo) (target : VariableName) → May name
      → Keeps G (Behind G) (cancel_budget p name s d target)
  unfolding cancel_budget
  cancel_budget-keeps name s d target may =
      search (sees-keeps, given-keeps, goes-keeps, then-keeps, changes-keeps, edit_budget-alters, answer-keeps, chains, plain_steps) depth 11

  pub charge_budget-alters : (n : Option ℕ) → Alters G (Behind G) (charge_budget n)
  charge_budget-alters None = search (unchanged-alters, chains)
  charge_budget-alters (Some b) = search (edit_budget-alters)

  -- ---- a tick is charged

  charge_clock-alters : (t : TaskNo) → Alters G (Behind G) (charge_clock t)
  unfolding Alters
  charge_clock-alters t w good =
      let next = edit_task (who.Task t) clock_risen w in
      let first = moves.edits_task (who.Task t) clock_risen w good (λ u. refl) (λ u. refl) (λ u. refl) (λ u. refl) in
      moves.goes_on w next (charge_clock t w) first (moves.sets_timers_due (timers_reached t next) next (moves.behind w next first))

  charge_group-alters : (t : TaskNo) → Alters G (Behind G) (charge_group t)
  unfolding Alters
  charge_group-alters t w good =
      let b = (task_of w (who.Task t)).budget in
      let first = charge_budget-alters b w good in
      moves.goes_on w (charge_budget b w) (charge_group t w) first
      (moves.sets_budget_due (due_by_tick w b) (charge_budget b w) (moves.behind w (charge_budget b w) first))

  charge_task-alters : (t : TaskNo) → Alters G (Behind G) (charge_task p t)
  unfolding Alters
  charge_task-alters t w good =
      let risen = charge_clock t w in
      let charged = charge_group t risen in
      let first = charge_clock-alters t w good in
      let second = charge_group-alters t risen (moves.behind w risen first) in
      moves.goes_on w risen (charge_task p t w) first
      (moves.goes_on risen charged (charge_task p t w) second
      (moves.edits_task (who.Task t) (quantum_spent_by p) charged (moves.behind risen charged second)
      (λ u. spent-who (is_robin_level p u.base) u) (λ u. spent-frames (is_robin_level p u.base) u) (λ u. spent-state (is_robin_level p u.base) u)
      (λ u. spent-unit (is_robin_level p u.base) u)))

  pub charge-alters : (name : Who) → Alters G (Behind G) (charge p name)
  unfolding Alters
  charge-alters (who.Task t) w good = charge_task-alters t w good
  charge-alters who.Agent w good = moves.stays w good

-- ---- what may release

module _ {p : Image} {G : GoodWorld} {May Other : Naming} (moves : FineMoves p G May Other) where
  pub interrupt-keeps : (n : ℕ) → Keeps G (Behind G) (interrupt p n)
  unfolding interrupt
  interrupt-keeps n =
      then-keeps (chains moves) (says Own (line.Interrupt n)) _ (says-keeps moves Own (line.Interrupt n) refl)
      (looks-keeps (chains moves) _ (λ w. for_some-keeps (chains moves) (handler_attached p n w.objects) _ (λ h. release-keeps moves Own h None)))

  appoint_event-from : (e : ℕ) (h : HandlerOf) (m : ℤ) (test : Bool) (w : World) → G w → int_lt (pos w.time) m ≡ test
      → From (Behind G) w (appoint_event p e h m test)
  unfolding appoint_event
  appoint_event-from e h m true w good is = appoint-from moves (due_for.Event e h) m w good
  appoint_event-from e h m false w good is = keeps-from (chains moves) (release p Own h (Some e)) w good (release-keeps moves Own h (Some e))

  pub event_set_to-keeps : (e : ℕ) (h : Option HandlerOf) (m : ℤ) → Keeps G (Behind G) (event_set_to p e h m)
  unfolding event_set_to
  event_set_to-keeps e None m = search (nothing-keeps, chains)
  event_set_to-keeps e (Some h) m = looks-from (chains moves) _ (λ w good. appoint_event-from e h m (int_lt (pos w.time) m) w good refl)

  pub set_event-keeps : (name : Who) (s : StatementNo) (d : DeclNo) (set : Setting) (named : Option HandlerName) → May name
      → Keeps G (Behind G) (set_event p name s d set named)
  unfolding set_event
  set_event-keeps name s d set named may =
      search (
        sees-keeps,
        given-keeps,
        setting_of-keeps,
        goes-keeps,
        then-keeps,
        changes-keeps,
        cancel_event_setting-alters,
        event_set_to-keeps,
        chains,
        plain_steps,
      ) depth 11

  pub timer_set_beyond-keeps : (k : ℕ) (h : HandlerOf) (v : ℤ) (test : Bool) → Keeps G (Behind G) (timer_set_beyond p k h v test)
  unfolding timer_set_beyond
  timer_set_beyond-keeps k h v true = search (changes-keeps, with_timer_set-alters, chains)
  timer_set_beyond-keeps k h v false = release-keeps moves Own h (Some k)

  pub timer_set_to-keeps : (k clock : ℕ) (h : Option HandlerOf) (v : ℤ) → Keeps G (Behind G) (timer_set_to p k clock h v)
  unfolding timer_set_to
  timer_set_to-keeps k clock None v = search (nothing-keeps, chains)
  timer_set_to-keeps k clock (Some h) v = search (timer_set_beyond-keeps)

  pub set_timer-keeps : (name : Who) (s : StatementNo) (d : DeclNo) (set : Setting) (named : Option HandlerName) → May name
      → Keeps G (Behind G) (set_timer p name s d set named)
  unfolding set_timer
  set_timer-keeps name s d set named may =
      search
      (sees-keeps, given-keeps, setting_of-keeps, goes-keeps, then-keeps, changes-keeps, clear_timer-alters, timer_set_to-keeps, chains, plain_steps) depth 11
