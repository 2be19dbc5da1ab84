-- Events, timers, budgets, interrupts and releases: each step keeps a relation that its parts keep.
use Rattle.std.specs.Prelude.{ℕ, suc, ◌+◌, ◌-◌, ℤ, pos, int_lt, Bool, true, false, cond, [], ◌∷◌, Option, Some, None}
use Rattle.ann_base.specs.declared.identities.TaskNo.{TaskNo}
use Rattle.profile_machine.specs.declared.world.objects.Entering.{Entering}
use Rattle.profile_machine.specs.declared.world.objects.Entering.TheVariants as entering_is
use Rattle.profile_machine.specs.declared.world.lines.Line.TheVariants as line
use Rattle.trace_text.specs.declared.events.Who.{Who}
use Rattle.trace_text.specs.declared.events.Who.TheVariants as who
use Rattle.profile_image.specs.declared.image.Image.{Image}
use Rattle.profile_image.specs.declared.numbers.DeclNo.{DeclNo}
use Rattle.profile_image.specs.declared.numbers.ExprNo.{ExprNo}
use Rattle.profile_image.specs.declared.numbers.StatementNo.{StatementNo}
use Rattle.profile_image.specs.declared.expressions.VariableName.{VariableName}
use Rattle.profile_image.specs.declared.statements.HandlerName.{HandlerName}
use Rattle.profile_image.specs.declared.statements.Setting.{Setting}
use Rattle.profile_image.specs.declared.values.Value.TheVariants.{Truth}
use Rattle.profile_machine.specs.declared.world.World.{World}
use Rattle.profile_machine.specs.declared.world.appointments.HandlerOf.{HandlerOf}
use Rattle.profile_machine.specs.declared.world.appointments.Release.{Release}
use Rattle.profile_machine.specs.declared.world.appointments.Budget.{Budget}
use Rattle.profile_machine.specs.declared.world.scopes.Variable.{Variable}
use Rattle.profile_machine.specs.declared.world.tasks.State.{State}
use Rattle.profile_machine.specs.declared.world.appointments.Due.TheVariants as due_for
use Rattle.profile_machine.specs.declared.world.tasks.State.TheVariants.{Made, Runnable, Blocked}
use Rattle.profile_machine.specs.declared.world.tasks.Task as world
use Rattle.profile_image.specs.Program.{is_robin_level, marks_of, subprogram_of, size_of_body}
use Rattle.profile_machine.specs.declared.world.lines.Part.{Part}
use Rattle.profile_machine.specs.declared.world.lines.Part.TheVariants.{Own}
use Rattle.profile_machine.specs.Steps.{Step, changes, looks, ◌▷◌, says}
use Rattle.profile_machine.specs.Tasks.{task_of, edit_task}
use Rattle.profile_machine.specs.Frames.{has_room}
use Rattle.profile_machine.specs.Values.{Seen}
use Rattle.profile_machine.specs.CallEnds.{store}
use Rattle.trace_text.specs.declared.events.Mode.TheVariants.{Write}
use Rattle.profile_machine.specs.Protected.{entering, begin_action_on, body_of_object}
use Rattle.profile_machine.specs.Serving.{end_release}
use Rattle.profile_machine.specs.declared.world.marks.Purpose.TheVariants as opened_for
use Rattle.profile_machine.specs.declared.world.marks.ResultTo.TheVariants as bound_for
use Rattle.profile_machine.specs.Handlers.{add_release, says_release, wake_agent, release, with_room_for_release, begin_handler, begin_handler_if_room}
use Rattle.profile_machine.specs.Handlers.{enter_handler, call_handler, interrupt, setting_of, answer, cancel_event_setting, appoint_event}
use Rattle.profile_machine.specs.Handlers.{event_set_to, set_event, cancel_event, clear_timer, with_timer_set, timer_set_beyond, timer_set_to}
use Rattle.profile_machine.specs.Handlers.{set_timer, cancel_timer, edit_budget, change_member, add_member, remove_member, fill_budget, replenish}
use Rattle.profile_machine.specs.Handlers.{add_to_budget, set_budget, cancel_budget, clock_risen, due_by_tick, charge_budget, timers_reached}
use Rattle.profile_machine.specs.Handlers.{quantum_spent_by, charge_clock, charge_group, charge_task, charge, handler_attached, argument_values}
use Rattle.std.proofs.Common.{◌≡◌, refl}
use Rattle.std.specs.Prelude.{Bool}
use Rattle.machine_laws.proofs.Moves.{StepRelation, MoveRelation, LetsIn}
use Rattle.world_laws.proofs.Marks.FineMoves.{FineMoves, RegionMoves, chains, says-keeps}
use Rattle.world_laws.proofs.Marks.Kept.Frames.{goes-keeps, plain_steps}
use Rattle.world_laws.proofs.Marks.Kept.Tasks.{edit_task-alters}
use Rattle.world_laws.proofs.Marks.Kept.Dispatching.{ready-keeps}
use Rattle.world_laws.proofs.Marks.Kept.Scopes.{open_scope-alters}
use Rattle.world_laws.proofs.Marks.Kept.Appointments.{appoint-from, drop_appointment-alters}
use Rattle.world_laws.proofs.Marks.Kept.Protected.{find_held-from, begin_action_on-from}
use Rattle.machine_laws.proofs.Kept.Entering.{entering-inside, entering-held}
use Rattle.world_laws.proofs.Marks.Kept.Serving.{end_release-keeps}
use Rattle.machine_laws.proofs.FineMoves.{GoodWorld, Naming}
use Rattle.machine_laws.proofs.Kept.Handlers.{Releasing, spent-frames, spent-state, spent-who}
use Rattle.machine_laws.proofs.Kept.Combinators.{Alters, From, Keeps, Kept, changes-keeps, either-from, for_some-keeps, keeps-from, looks-from}
use Rattle.machine_laws.proofs.Kept.Combinators.{looks-keeps, looks_at-from, nothing-keeps, sees-keeps, then-from, then-keeps, unchanged-alters}
use Rattle.machine_laws.proofs.Plain.Frames.{becomes-from, given-keeps, raise_if-keeps}
use Rattle.machine_laws.proofs.Plain.Cells.{store-gives}

spent-abnormal : (robin : Bool) (t : world.Task) → (cond robin (record t { quantum = t.quantum - 1 }) t).abnormal ≡ t.abnormal
spent-abnormal true t = refl
spent-abnormal false t = refl

-- ---- where anybody may be changed

module _ {G : GoodWorld} {R : StepRelation} {Q : MoveRelation} (moves : RegionMoves G R Q) where
  -- a release is drawn, and told
  told_release-keeps : (h : HandlerOf) (argument : Option ℕ) → Keeps G R (changes (add_release h argument) ▷ says_release Own h)
  unfolding Keeps Kept says_release
  told_release-keeps h argument w good said = (record { part = Own; line = line.Release (suc w.drawn.releases) h } ∷ [], refl, moves.releases h argument w good)

  wake_agent-keeps : (p : Image) (part : Part) (state : State) → Keeps G R (wake_agent p part state)
  unfolding wake_agent
  wake_agent-keeps p part (Blocked waiting) = ready-keeps moves.fine p part who.Agent tt
  wake_agent-keeps p part Runnable = nothing-keeps (chains moves.fine)
  wake_agent-keeps p part Made = nothing-keeps (chains moves.fine)

  release-keeps : (p : Image) (h : HandlerOf) (argument : Option ℕ) → Keeps G R (release p Own h argument)
  unfolding release
  release-keeps p h argument =
      then-keeps (chains moves.fine) (changes (add_release h argument) ▷ says_release Own h) (looks (λ w. wake_agent p Own w.agent.state))
      (told_release-keeps h argument)
      (looks-keeps (chains moves.fine) _ (λ w. wake_agent-keeps p Own w.agent.state))

  pub releasing : Releasing G R
  releasing = record { releases = release-keeps }

  begin_handler-from : (p : Image) (r : Release) (w : World) → G w → LetsIn who.Agent r.handler.object Write w → From R w (begin_handler p r)
  unfolding begin_handler Alters
  begin_handler-from p r w good h =
      then-from (chains moves.fine) (begin_action_on p who.Agent r.handler.object Write None (Some r.number)) _ w
      (begin_action_on-from moves.fine p who.Agent r.handler.object Write None (Some r.number) w good tt h)
      (looks-keeps (chains moves.fine) _
      (λ v. changes-keeps (chains moves.fine) _
      (open_scope-alters moves.openings p who.Agent (subprogram_of p r.handler.procedure).scope
      (body_of_object p v (subprogram_of p r.handler.procedure).scope r.handler.object None (argument_values r.argument))
      (opened_for.Subprogram [] bound_for.Nowhere) tt refl)))

  begin_handler_if_room-from : (p : Image) (r : Release) (w : World) → G w → LetsIn who.Agent r.handler.object Write w → From R w (begin_handler_if_room p r)
  unfolding begin_handler_if_room
  begin_handler_if_room-from p r w good h =
      looks_at-from (chains moves.fine)
      (λ v. elim (has_room v who.Agent (1 + marks_of p (subprogram_of p r.handler.procedure).scope) (size_of_body p r.handler.procedure)) as (λ _. Step) [
        | true ↦ begin_handler p r
        | false ↦ end_release r.number
      ]) w
      (either-from (chains moves.fine)
      (has_room w who.Agent (1 + marks_of p (subprogram_of p r.handler.procedure).scope) (size_of_body p r.handler.procedure)) (begin_handler p r)
      (end_release r.number) w
      (begin_handler-from p r w good h) (keeps-from (chains moves.fine) (end_release r.number) w good (end_release-keeps moves r.number)))

  enter_handler-from : (p : Image) (r : Release) (w : World) (is : Entering) → G w → entering p w who.Agent r.handler.object Write ≡ is
      → From R w (enter_handler p r is)
  unfolding enter_handler
  enter_handler-from p r w entering_is.SameObject good e = keeps-from (chains moves.fine) (end_release r.number) w good (end_release-keeps moves r.number)
  enter_handler-from p r w entering_is.AboveCeiling good e = keeps-from (chains moves.fine) (end_release r.number) w good (end_release-keeps moves r.number)
  enter_handler-from p r w entering_is.Held good e =
      find_held-from moves.fine p who.Agent r.handler.object Write w good tt (entering-held p w who.Agent r.handler.object Write e)
  enter_handler-from p r w entering_is.Inside good e = begin_handler_if_room-from p r w good (entering-inside p w who.Agent r.handler.object Write e)

  pub call_handler-keeps : (p : Image) (r : Release) → Keeps G R (call_handler p r)
  unfolding call_handler
  call_handler-keeps p r = looks-from (chains moves.fine) _ (λ w good. enter_handler-from p r w (entering p w who.Agent r.handler.object Write) good refl)

-- ---- settings, and the charge of a tick

module _ {G : GoodWorld} {May Other : Naming} {R : StepRelation} {Q : MoveRelation} (moves : FineMoves G May Other R Q) where
  pub with_room_for_release-keeps : (name : Who) (needed : Bool) (step : Step) → Keeps G R step → Keeps G R (with_room_for_release name needed step)
  with_room_for_release-keeps name needed step kept = search (looks-keeps, raise_if-keeps, chains, plain_steps)

  pub setting_of-keeps : (p : Image) (name : Who) (q : Seen) (base : ℤ) (set : Setting) (named : Option HandlerName) (step : Option HandlerOf → ℤ → Step)
      → ((x : Option HandlerOf) (y : ℤ) → Keeps G R (step x y)) → Keeps G R (setting_of p name q base set named step)
  setting_of-keeps p name q base set named step kept = search (given-keeps, with_room_for_release-keeps, raise_if-keeps, plain_steps)

  pub answer-keeps : (p : Image) (name : Who) (v : Variable) (b : Bool) → Keeps G R (answer p name v b)
  unfolding answer
  answer-keeps p name v b =
      looks-from (chains moves) _
      (λ w good. becomes-from (plain_steps moves) Own name (store p v (Truth b) w) w good (store-gives (plain_steps moves) p v (Truth b) w good))

  pub cancel_event_setting-alters : (e : ℕ) → Alters G R (cancel_event_setting e)
  cancel_event_setting-alters e = search (drop_appointment-alters)

  pub cancel_event-keeps : (p : Image) (name : Who) (s : StatementNo) (d : DeclNo) (target : VariableName) → Keeps G R (cancel_event p name s d target)
  unfolding cancel_event
  cancel_event-keeps p name s d target =
      search (sees-keeps, given-keeps, goes-keeps, then-keeps, changes-keeps, cancel_event_setting-alters, answer-keeps, chains, plain_steps) depth 11

  pub clear_timer-alters : (k : ℕ) → Alters G R (clear_timer k)
  unfolding Alters
  clear_timer-alters k w good = moves.clears_timer k w good

  with_timer_set-alters : (k : ℕ) (h : HandlerOf) (v : ℤ) → Alters G R (with_timer_set k h v)
  unfolding Alters
  with_timer_set-alters k h v w good = moves.sets_timer k h v w good

  pub cancel_timer-keeps : (p : Image) (name : Who) (s : StatementNo) (d : DeclNo) (target : VariableName) → Keeps G R (cancel_timer p name s d target)
  unfolding cancel_timer
  cancel_timer-keeps p name s d target =
      search (sees-keeps, given-keeps, goes-keeps, then-keeps, changes-keeps, clear_timer-alters, answer-keeps, chains, plain_steps) depth 11

  edit_budget-alters : (b : ℕ) (f : Budget → Budget) → Alters G R (edit_budget b f)
  unfolding Alters
  edit_budget-alters b f w good = moves.edits_budget b f w good

  pub change_member-keeps : (p : Image) (name : Who) (s : StatementNo) (t : world.Task) (is_right : Bool) (b : Option ℕ)
      → Keeps G R (change_member p name s t is_right b)
  unfolding change_member
  change_member-keeps p name s t is_right b = search (raise_if-keeps, goes-keeps, then-keeps, changes-keeps, edit_task-alters, chains, plain_steps)

  pub add_member-keeps : (p : Image) (name : Who) (s : StatementNo) (d : DeclNo) (e : ExprNo) → Keeps G R (add_member p name s d e)
  unfolding add_member
  add_member-keeps p name s d e = search (sees-keeps, given-keeps, change_member-keeps, chains, plain_steps) depth 8

  pub remove_member-keeps : (p : Image) (name : Who) (s : StatementNo) (d : DeclNo) (e : ExprNo) → Keeps G R (remove_member p name s d e)
  unfolding remove_member
  remove_member-keeps p name s d e = search (sees-keeps, given-keeps, change_member-keeps, chains, plain_steps) depth 8

  pub fill_budget-keeps : (p : Image) (name : Who) (s : StatementNo) (d : DeclNo) (e : ExprNo) (f : ℤ → Budget → Budget)
      → Keeps G R (fill_budget p name s d e f)
  unfolding fill_budget
  fill_budget-keeps p name s d e f =
      search (
        sees-keeps,
        given-keeps,
        with_room_for_release-keeps,
        raise_if-keeps,
        goes-keeps,
        then-keeps,
        changes-keeps,
        edit_budget-alters,
        chains,
        plain_steps,
      ) depth 10

  pub replenish-keeps : (p : Image) (name : Who) (s : StatementNo) (d : DeclNo) (e : ExprNo) → Keeps G R (replenish p name s d e)
  unfolding replenish
  replenish-keeps p name s d e = search (fill_budget-keeps)

  pub add_to_budget-keeps : (p : Image) (name : Who) (s : StatementNo) (d : DeclNo) (e : ExprNo) → Keeps G R (add_to_budget p name s d e)
  unfolding add_to_budget
  add_to_budget-keeps p name s d e = search (fill_budget-keeps)

  pub set_budget-keeps : (p : Image) (name : Who) (s : StatementNo) (d : DeclNo) (named : Option HandlerName) → Keeps G R (set_budget p name s d named)
  unfolding set_budget
  set_budget-keeps p name s d named =
      search (
        sees-keeps,
        given-keeps,
        with_room_for_release-keeps,
        raise_if-keeps,
        goes-keeps,
        then-keeps,
        changes-keeps,
        edit_budget-alters,
        chains,
        plain_steps,
      ) depth 10

  pub cancel_budget-keeps : (p : Image) (name : Who) (s : StatementNo) (d : DeclNo) (target : VariableName) → Keeps G R (cancel_budget p name s d target)
  unfolding cancel_budget
  cancel_budget-keeps p name s d target =
      search (sees-keeps, given-keeps, goes-keeps, then-keeps, changes-keeps, edit_budget-alters, answer-keeps, chains, plain_steps) depth 11

  pub charge_budget-alters : (n : Option ℕ) → Alters G R (charge_budget n)
  charge_budget-alters None = search (unchanged-alters, chains)
  charge_budget-alters (Some b) = search (edit_budget-alters)

  -- ---- a tick is charged

  charge_clock-alters : (t : TaskNo) → Alters G R (charge_clock t)
  unfolding Alters
  charge_clock-alters t w good =
      let next = edit_task (who.Task t) clock_risen w in
      let first = moves.edits_task (who.Task t) clock_risen w good (λ u. refl) (λ u. refl) (λ u. refl) (λ u. refl) in
      moves.goes_on w next (charge_clock t w) first (moves.sets_timers_due (timers_reached t next) next (moves.behind w next first))

  charge_group-alters : (t : TaskNo) → Alters G R (charge_group t)
  unfolding Alters
  charge_group-alters t w good =
      let b = (task_of w (who.Task t)).budget in
      let first = charge_budget-alters b w good in
      moves.goes_on w (charge_budget b w) (charge_group t w) first
      (moves.sets_budget_due (due_by_tick w b) (charge_budget b w) (moves.behind w (charge_budget b w) first))

  charge_task-alters : (p : Image) (t : TaskNo) → Alters G R (charge_task p t)
  unfolding Alters
  charge_task-alters p t w good =
      let risen = charge_clock t w in
      let charged = charge_group t risen in
      let first = charge_clock-alters t w good in
      let second = charge_group-alters t risen (moves.behind w risen first) in
      moves.goes_on w risen (charge_task p t w) first
      (moves.goes_on risen charged (charge_task p t w) second
      (moves.edits_task (who.Task t) (quantum_spent_by p) charged (moves.behind risen charged second)
      (λ u. spent-who (is_robin_level p u.base) u) (λ u. spent-frames (is_robin_level p u.base) u) (λ u. spent-state (is_robin_level p u.base) u)
      (λ u. spent-abnormal (is_robin_level p u.base) u)))

  pub charge-alters : (p : Image) (name : Who) → Alters G R (charge p name)
  unfolding Alters
  charge-alters p (who.Task t) w good = charge_task-alters p t w good
  charge-alters p who.Agent w good = moves.stays w good

-- ---- what may release

module _ {G : GoodWorld} {May Other : Naming} {R : StepRelation} {Q : MoveRelation} (moves : FineMoves G May Other R Q) (releasing : Releasing G R) where
  pub interrupt-keeps : (p : Image) (n : ℕ) → Keeps G R (interrupt p n)
  unfolding interrupt
  interrupt-keeps p n =
      then-keeps (chains moves) (says Own (line.Interrupt n)) _ (says-keeps moves Own (line.Interrupt n) refl)
      (looks-keeps (chains moves) _ (λ w. for_some-keeps (chains moves) (handler_attached p n w.objects) _ (λ h. releasing.releases p h None)))

  appoint_event-from : (p : Image) (e : ℕ) (h : HandlerOf) (m : ℤ) (test : Bool) (w : World) → G w → int_lt (pos w.time) m ≡ test
      → From R w (appoint_event p e h m test)
  unfolding appoint_event
  appoint_event-from p e h m true w good is = appoint-from moves (due_for.Event e h) m w good refl
  appoint_event-from p e h m false w good is = keeps-from (chains moves) (release p Own h (Some e)) w good (releasing.releases p h (Some e))

  pub event_set_to-keeps : (p : Image) (e : ℕ) (h : Option HandlerOf) (m : ℤ) → Keeps G R (event_set_to p e h m)
  unfolding event_set_to
  event_set_to-keeps p e None m = search (nothing-keeps, chains)
  event_set_to-keeps p e (Some h) m = looks-from (chains moves) _ (λ w good. appoint_event-from p e h m (int_lt (pos w.time) m) w good refl)

  pub set_event-keeps : (p : Image) (name : Who) (s : StatementNo) (d : DeclNo) (set : Setting) (named : Option HandlerName)
      → Keeps G R (set_event p name s d set named)
  unfolding set_event
  set_event-keeps p name s d set named =
      search (
        sees-keeps,
        given-keeps,
        setting_of-keeps,
        goes-keeps,
        then-keeps,
        changes-keeps,
        cancel_event_setting-alters,
        event_set_to-keeps,
        chains,
        plain_steps,
      ) depth 11

  pub timer_set_beyond-keeps : (p : Image) (k : ℕ) (h : HandlerOf) (v : ℤ) (test : Bool) → Keeps G R (timer_set_beyond p k h v test)
  unfolding timer_set_beyond
  timer_set_beyond-keeps p k h v true = search (changes-keeps, with_timer_set-alters, chains)
  timer_set_beyond-keeps p k h v false = releasing.releases p h (Some k)

  pub timer_set_to-keeps : (p : Image) (k clock : ℕ) (h : Option HandlerOf) (v : ℤ) → Keeps G R (timer_set_to p k clock h v)
  unfolding timer_set_to
  timer_set_to-keeps p k clock None v = search (nothing-keeps, chains)
  timer_set_to-keeps p k clock (Some h) v = search (timer_set_beyond-keeps)

  pub set_timer-keeps : (p : Image) (name : Who) (s : StatementNo) (d : DeclNo) (set : Setting) (named : Option HandlerName)
      → Keeps G R (set_timer p name s d set named)
  unfolding set_timer
  set_timer-keeps p name s d set named =
      search
      (sees-keeps, given-keeps, setting_of-keeps, goes-keeps, then-keeps, changes-keeps, clear_timer-alters, timer_set_to-keeps, chains, plain_steps) depth 11
