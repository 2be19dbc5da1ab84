-- Events, timers, budgets, interrupts and releases: each step keeps what its parts keep.
use Rattle.ann_base.specs.declared.exceptions.Raised.TheVariants as exception
use Rattle.ann_base.specs.declared.identities.ObjectNo.{ObjectNo}
use Rattle.ceiling_laws.proofs.Runs.ActingMoves.{ActingMoves, Admitting, Either}
use Rattle.ceiling_laws.proofs.Fine.Kept.Frames.{becomes-keeps, given-keeps, goes-keeps, raise_if-keeps}
use Rattle.ceiling_laws.proofs.Runs.Kept.Protected.{Admitted, admitted_starts, begin_action_on-leads, goes_without, has_entered}
use Rattle.ceiling_laws.proofs.Fine.Kept.Scopes.{appoint-alters, drop_appointment-alters, open_scope-alters}
use Rattle.ceiling_laws.proofs.Runs.Kept.Serving.{end_release-keeps}
use Rattle.ceiling_laws.proofs.Fine.Kept.Statements.{store-gives}
use Rattle.ceiling_laws.proofs.Runs.Kept.Tasks.{edit_task-alters, plain-alters, says-keeps}
use Rattle.ceiling_laws.proofs.Runs.Kept.Waking.{ready-at}
use Rattle.ceiling_laws.proofs.Runs.LevelMoves.{BaseMoves, Fitting, Silences, Sleeping, is_blocked}
use Rattle.ceiling_laws.proofs.Runs.Triples.{Alters, At, Keeps, Leads, State, branch-leads, changes-keeps, for_some-keeps, from-leads}
use Rattle.ceiling_laws.proofs.Runs.Triples.{from_at, looks-keeps, looks-leads, looks-with, nothing-keeps, sees-keeps, then-keeps, then-leads}
use Rattle.ceiling_laws.proofs.Runs.Finer.{fine}
use Rattle.profile_machine.specs.CallEnds.{store}
use Rattle.profile_machine.specs.Frames.{has_room}
use Rattle.profile_machine.specs.Handlers.{add_member, add_release, add_to_budget, answer, appoint_event, argument_values, begin_handler}
use Rattle.profile_machine.specs.Handlers.{begin_handler_if_room, call_handler, cancel_budget, cancel_event, cancel_event_setting, cancel_timer}
use Rattle.profile_machine.specs.Handlers.{change_member, clear_timer, clock_of_timer, edit_budget, enter_handler, event_set_to, fill_budget}
use Rattle.profile_machine.specs.Handlers.{handler_attached, handler_named, has_room_for_release, interrupt, is_interrupt_handler, loaded}
use Rattle.profile_machine.specs.Handlers.{member_of, raised_by, release, remove_member, replenish, says_release, set_budget, set_event, set_timer}
use Rattle.profile_machine.specs.Handlers.{set_value, setting_of, timer_set_beyond, timer_set_to, wake_agent, with_room_for_release, with_timer_set}
use Rattle.profile_image.specs.Program.{marks_of, next_of, subprogram_of, size_of_body}
use Rattle.profile_machine.specs.Protected.{begin_action_on, body_of_object, entering, find_held}
use Rattle.profile_machine.specs.Serving.{end_release}
use Rattle.profile_machine.specs.Steps.{Step, nothing}
use Rattle.profile_machine.specs.Values.{Seen, is_event, number_of_thing}
use Rattle.profile_machine.specs.WellFormed.{is_right}
use Rattle.profile_image.specs.declared.expressions.VariableName.{VariableName}
use Rattle.profile_image.specs.declared.image.Image.{Image}
use Rattle.profile_image.specs.declared.numbers.DeclNo.{DeclNo}
use Rattle.profile_image.specs.declared.numbers.ExprNo.{ExprNo}
use Rattle.profile_image.specs.declared.numbers.StatementNo.{StatementNo}
use Rattle.profile_image.specs.declared.statements.HandlerName.{HandlerName}
use Rattle.profile_image.specs.declared.statements.Setting.{Setting}
use Rattle.profile_image.specs.declared.values.Value.TheVariants.{Truth}
use Rattle.profile_machine.specs.declared.world.World.{World}
use Rattle.profile_machine.specs.declared.world.appointments.Budget.{Budget}
use Rattle.profile_machine.specs.declared.world.appointments.Due.TheVariants as due_for
use Rattle.profile_machine.specs.declared.world.appointments.HandlerOf.{HandlerOf}
use Rattle.profile_machine.specs.declared.world.appointments.Release.{Release}
use Rattle.profile_machine.specs.declared.world.lines.Line.TheVariants as line
use Rattle.profile_machine.specs.declared.world.lines.Part.TheVariants.{Own}
use Rattle.profile_machine.specs.declared.world.marks.Purpose.TheVariants as opened_for
use Rattle.profile_machine.specs.declared.world.marks.ResultTo.TheVariants as bound_for
use Rattle.profile_machine.specs.declared.world.objects.Entering.{Entering}
use Rattle.profile_machine.specs.declared.world.objects.Entering.TheVariants as entering_is
use Rattle.profile_machine.specs.declared.world.scopes.Variable.{Variable}
use Rattle.profile_machine.specs.declared.world.tasks.State as tasks
use Rattle.profile_machine.specs.declared.world.tasks.State.TheVariants.{Blocked, Made, Runnable}
use Rattle.profile_machine.specs.declared.world.tasks.Task as world
use Rattle.profile_machine.specs.declared.world.tasks.Waiting.TheVariants as waits_for
use Rattle.std.proofs.Common.{ap, refl, subst, sym, ◌≡◌}
use Rattle.std.specs.Prelude.{Bool, None, Option, Some, [], false, int_lt, not, pos, true, ℕ, ℤ, ◌&&◌, ◌+◌, is_some}
use Rattle.trace_text.specs.declared.events.Mode.TheVariants.{Write}
use Rattle.trace_text.specs.declared.events.Who.{Who}
use Rattle.trace_text.specs.declared.events.Who.TheVariants as who
use Rattle.machine_laws.proofs.FineMoves.{Naming}

module _ {X : State} (quiet : Silences X) where
  with_room_for_release-keeps : (name : Who) (needed : Bool) (step : Step) → Keeps X step → Keeps X (with_room_for_release name needed step)
  with_room_for_release-keeps name needed step kept =
      looks-keeps _ (λ w. raise_if-keeps (fine quiet) name (needed && not (has_room_for_release w)) exception.Storage step kept)

  setting_of-keeps : (p : Image) (name : Who) (q : Seen) (base : ℤ) (set : Setting) (named : Option HandlerName) (step : Option HandlerOf → ℤ → Step)
      → ((x : Option HandlerOf) (y : ℤ) → Keeps X (step x y)) → Keeps X (setting_of p name q base set named step)
  setting_of-keeps p name q base set named step kept =
      given-keeps (fine quiet) Own name (handler_named q named) _ (λ h. with_room_for_release-keeps name (is_some h) _
      (given-keeps (fine quiet) Own name (set_value q base set) _
      (λ v. raise_if-keeps (fine quiet) name (not (is_interrupt_handler p q.world h)) exception.Program _ (kept h v))))

  pub answer-keeps : (p : Image) (name : Who) (v : Variable) (b : Bool) → Keeps X (answer p name v b)
  unfolding answer
  answer-keeps p name v b = looks-with _ (λ w said h. becomes-keeps (fine quiet) Own name w (store p v (Truth b) w) (store-gives p v (Truth b) w))

  cancel_event_setting-alters : (e : ℕ) → Alters X (cancel_event_setting e)
  cancel_event_setting-alters e = drop_appointment-alters (fine quiet) (is_event e)

  pub cancel_event-keeps : (p : Image) (name : Who) (s : StatementNo) (d : DeclNo) (target : VariableName) → Keeps X (cancel_event p name s d target)
  unfolding cancel_event
  cancel_event-keeps p name s d target =
      search (fine, sees-keeps, given-keeps, goes-keeps, then-keeps, changes-keeps, cancel_event_setting-alters, answer-keeps) depth 9

  pub clear_timer-alters : (k : ℕ) → Alters X (clear_timer k)
  clear_timer-alters k = plain-alters quiet (clear_timer k) (λ w. refl) (λ w. refl) (λ w. refl) (λ w. refl) (λ w. refl) (λ w t e. e)

  with_timer_set-alters : (k : ℕ) (h : HandlerOf) (v : ℤ) → Alters X (with_timer_set k h v)
  with_timer_set-alters k h v = plain-alters quiet (with_timer_set k h v) (λ w. refl) (λ w. refl) (λ w. refl) (λ w. refl) (λ w. refl) (λ w t e. e)

  pub cancel_timer-keeps : (p : Image) (name : Who) (s : StatementNo) (d : DeclNo) (target : VariableName) → Keeps X (cancel_timer p name s d target)
  unfolding cancel_timer
  cancel_timer-keeps p name s d target = search (fine, sees-keeps, given-keeps, goes-keeps, then-keeps, changes-keeps, clear_timer-alters, answer-keeps) depth 9

  edit_budget-alters : (b : ℕ) (f : Budget → Budget) → Alters X (edit_budget b f)
  edit_budget-alters b f = plain-alters quiet (edit_budget b f) (λ w. refl) (λ w. refl) (λ w. refl) (λ w. refl) (λ w. refl) (λ w t e. e)

  change_member-keeps : (p : Image) (name : Who) (s : StatementNo) (t : world.Task) (is_right : Bool) (b : Option ℕ)
      → Keeps X (change_member p name s t is_right b)
  unfolding change_member
  change_member-keeps p name s t is_right b =
      raise_if-keeps (fine quiet) name (not is_right) exception.GroupBudget _
      (then-keeps _ _ (goes-keeps (fine quiet) name (next_of p s)) (changes-keeps _ (edit_task-alters quiet t.who (member_of b) (λ u. refl))))

  pub add_member-keeps : (p : Image) (name : Who) (s : StatementNo) (d : DeclNo) (e : ExprNo) → Keeps X (add_member p name s d e)
  unfolding add_member
  add_member-keeps p name s d e = search (fine, sees-keeps, given-keeps, change_member-keeps) depth 6

  pub remove_member-keeps : (p : Image) (name : Who) (s : StatementNo) (d : DeclNo) (e : ExprNo) → Keeps X (remove_member p name s d e)
  unfolding remove_member
  remove_member-keeps p name s d e = search (fine, sees-keeps, given-keeps, change_member-keeps) depth 6

  fill_budget-keeps : (p : Image) (name : Who) (s : StatementNo) (d : DeclNo) (e : ExprNo) (f : ℤ → Budget → Budget) → Keeps X (fill_budget p name s d e f)
  unfolding fill_budget
  fill_budget-keeps p name s d e f =
      search (fine, sees-keeps, given-keeps, with_room_for_release-keeps, raise_if-keeps, goes-keeps, then-keeps, changes-keeps, edit_budget-alters) depth 8

  pub replenish-keeps : (p : Image) (name : Who) (s : StatementNo) (d : DeclNo) (e : ExprNo) → Keeps X (replenish p name s d e)
  unfolding replenish
  replenish-keeps p name s d e = fill_budget-keeps p name s d e loaded

  pub add_to_budget-keeps : (p : Image) (name : Who) (s : StatementNo) (d : DeclNo) (e : ExprNo) → Keeps X (add_to_budget p name s d e)
  unfolding add_to_budget
  add_to_budget-keeps p name s d e = fill_budget-keeps p name s d e raised_by

  pub set_budget-keeps : (p : Image) (name : Who) (s : StatementNo) (d : DeclNo) (named : Option HandlerName) → Keeps X (set_budget p name s d named)
  unfolding set_budget
  set_budget-keeps p name s d named =
      search (fine, sees-keeps, given-keeps, with_room_for_release-keeps, raise_if-keeps, goes-keeps, then-keeps, changes-keeps, edit_budget-alters) depth 8

  pub cancel_budget-keeps : (p : Image) (name : Who) (s : StatementNo) (d : DeclNo) (target : VariableName) → Keeps X (cancel_budget p name s d target)
  unfolding cancel_budget
  cancel_budget-keeps p name s d target =
      search (fine, sees-keeps, given-keeps, goes-keeps, then-keeps, changes-keeps, edit_budget-alters, answer-keeps) depth 9

-- ---- a release comes, and the agent becomes ready where it was blocked

module _ {p : Image} {Fits : Fitting} {Sleeps : Sleeping} {X : State} (moves : BaseMoves p Fits Sleeps X) (fits : Fits Own who.Agent) where
  wake_agent-at : (v : World) (state : tasks.State) → v.agent.state ≡ state → Leads (At X v) X (wake_agent p Own state)
  unfolding wake_agent
  wake_agent-at v (Blocked waiting) is = ready-at moves Own who.Agent v fits (moves.sleeps v who.Agent (ap is_blocked is))
  wake_agent-at v Runnable is = from_at nothing nothing-keeps
  wake_agent-at v Made is = from_at nothing nothing-keeps

  add_release-alters : (h : HandlerOf) (argument : Option ℕ) → Alters X (add_release h argument)
  add_release-alters h argument = plain-alters moves.quiet (add_release h argument) (λ w. refl) (λ w. refl) (λ w. refl) (λ w. refl) (λ w. refl) (λ w t e. e)

  pub release-keeps : (h : HandlerOf) (argument : Option ℕ) → Keeps X (release p Own h argument)
  unfolding release says_release
  release-keeps h argument =
      then-keeps _ _ (changes-keeps _ (add_release-alters h argument))
      (then-keeps _ _ (looks-keeps _ (λ w. says-keeps moves.quiet Own (line.Release w.drawn.releases h) refl))
      (looks-with _ (λ v said k. wake_agent-at v v.agent.state refl)))

  pub interrupt-keeps : (n : ℕ) → Keeps X (interrupt p n)
  unfolding interrupt
  interrupt-keeps n =
      then-keeps _ _ (says-keeps moves.quiet Own (line.Interrupt n) refl)
      (looks-keeps _ (λ w. for_some-keeps (handler_attached p n w.objects) _ (λ h. release-keeps h None)))

  appoint_event-keeps : (e : ℕ) (h : HandlerOf) (m : ℤ) (test : Bool) → Keeps X (appoint_event p e h m test)
  unfolding appoint_event
  appoint_event-keeps e h m true = changes-keeps _ (appoint-alters (fine moves.quiet) (due_for.Event e h) m (λ t. refl))
  appoint_event-keeps e h m false = release-keeps h (Some e)

  event_set_to-keeps : (e : ℕ) (h : Option HandlerOf) (m : ℤ) → Keeps X (event_set_to p e h m)
  unfolding event_set_to
  event_set_to-keeps e None m = nothing-keeps
  event_set_to-keeps e (Some h) m = looks-keeps _ (λ w. appoint_event-keeps e h m (int_lt (pos w.time) m))

  pub set_event-keeps : (name : Who) (s : StatementNo) (d : DeclNo) (set : Setting) (named : Option HandlerName) → Keeps X (set_event p name s d set named)
  unfolding set_event
  set_event-keeps name s d set named =
      sees-keeps p name _
      (λ q.
      given-keeps (fine moves.quiet) Own name (number_of_thing q d) _ (λ e. setting_of-keeps moves.quiet p name q (pos q.world.time) set named _ (λ h m.
      then-keeps _ _ (goes-keeps (fine moves.quiet) name (next_of p s))
      (then-keeps _ _ (changes-keeps _ (cancel_event_setting-alters moves.quiet e)) (event_set_to-keeps e h m)))))

  timer_set_beyond-keeps : (k : ℕ) (h : HandlerOf) (v : ℤ) (test : Bool) → Keeps X (timer_set_beyond p k h v test)
  unfolding timer_set_beyond
  timer_set_beyond-keeps k h v true = changes-keeps _ (with_timer_set-alters moves.quiet k h v)
  timer_set_beyond-keeps k h v false = release-keeps h (Some k)

  timer_set_to-keeps : (k clock : ℕ) (h : Option HandlerOf) (v : ℤ) → Keeps X (timer_set_to p k clock h v)
  unfolding timer_set_to
  timer_set_to-keeps k clock None v = nothing-keeps
  timer_set_to-keeps k clock (Some h) v = timer_set_beyond-keeps k h v (int_lt (pos clock) v)

  pub set_timer-keeps : (name : Who) (s : StatementNo) (d : DeclNo) (set : Setting) (named : Option HandlerName) → Keeps X (set_timer p name s d set named)
  unfolding set_timer
  set_timer-keeps name s d set named =
      sees-keeps p name _
      (λ q. given-keeps (fine moves.quiet) Own name (number_of_thing q d) _
      (λ k. given-keeps (fine moves.quiet) Own name (clock_of_timer q k) _ (λ clock. setting_of-keeps moves.quiet p name q (pos clock) set named _ (λ h v.
      then-keeps _ _ (goes-keeps (fine moves.quiet) name (next_of p s))
      (then-keeps _ _ (changes-keeps _ (clear_timer-alters moves.quiet k)) (timer_set_to-keeps k clock h v))))))

-- ---- the agent calls the handler of the release that it serves

module _ {p : Image} {actor : Who} {Fits Narrow : Fitting} {Sleeps : Sleeping} {May : Admitting} {Listed Unmade : World → Naming} {F I J W Y D : State}
    {O N V U : World → State} {E : World → Who → State}
    (acting : ActingMoves p actor Fits Narrow Sleeps May Listed Unmade F I J W Y D O N V U E) where
  begin_handler-leads : (r : Release) → who.Agent ≡ actor → Leads (Admitted acting r.handler.object) J (begin_handler p r)
  unfolding begin_handler
  begin_handler-leads r is =
      then-leads (begin_action_on p who.Agent r.handler.object Write None (Some r.number)) _
      (subst (λ n. Leads (Admitted acting r.handler.object) J (begin_action_on p n r.handler.object Write None (Some r.number))) (sym is)
      (begin_action_on-leads acting r.handler.object Write None (Some r.number)))
      (looks-keeps _
      (λ w. changes-keeps _
      (open_scope-alters (fine acting.entered.base.quiet) p who.Agent (subprogram_of p r.handler.procedure).scope
      (body_of_object p w (subprogram_of p r.handler.procedure).scope r.handler.object None (argument_values r.argument))
      (opened_for.Subprogram [] bound_for.Nowhere))))

  release_ends : (n : ℕ) → Keeps I (end_release n)
  release_ends n = end_release-keeps acting.later.base.quiet (acting.later.blocks who.Agent waits_for.Release) n

  begin_handler_if_room-leads : (r : Release) → who.Agent ≡ actor → Leads (Admitted acting r.handler.object) (Either I J) (begin_handler_if_room p r)
  unfolding begin_handler_if_room
  begin_handler_if_room-leads r is =
      looks-leads _
      (λ w. branch-leads (has_room w who.Agent (1 + marks_of p (subprogram_of p r.handler.procedure).scope) (size_of_body p r.handler.procedure))
      (begin_handler p r) (end_release r.number)
      (has_entered acting (begin_handler p r) (begin_handler-leads r is))
      (goes_without acting (end_release r.number) (from-leads (end_release r.number) (admitted_starts acting r.handler.object) (release_ends r.number))))

  held_as : (o : ObjectNo) (name : Who) → name ≡ actor → Leads (Admitted acting o) (Either I J) (find_held p name o Write)
  held_as o name is = subst (λ n. Leads (Admitted acting o) (Either I J) (find_held p n o Write)) (sym is) (acting.finds_held o Write)

  enter_handler-at : (v : World) (r : Release) (is : Entering) → who.Agent ≡ actor → entering p v who.Agent r.handler.object Write ≡ is
      → Leads (At F v) (Either I J) (enter_handler p r is)
  unfolding enter_handler
  enter_handler-at v r entering_is.SameObject by e =
      goes_without acting (end_release r.number) (from-leads (end_release r.number) (λ w said h. acting.starts w said h.0) (release_ends r.number))
  enter_handler-at v r entering_is.AboveCeiling by e =
      goes_without acting (end_release r.number) (from-leads (end_release r.number) (λ w said h. acting.starts w said h.0) (release_ends r.number))
  enter_handler-at v r entering_is.Held by e =
      let held : entering p v actor r.handler.object Write ≡ entering_is.Held =
      subst (λ n. entering p v n r.handler.object Write ≡ entering_is.Held) by e in
      from-leads (find_held p who.Agent r.handler.object Write)
      (λ w said h. (h.0, subst (λ u. May u r.handler.object) (sym h.1) (acting.may_held v r.handler.object Write held)))
      (held_as r.handler.object who.Agent by)
  enter_handler-at v r entering_is.Inside by e =
      let inside : entering p v actor r.handler.object Write ≡ entering_is.Inside =
      subst (λ n. entering p v n r.handler.object Write ≡ entering_is.Inside) by e in
      from-leads (begin_handler_if_room p r) (λ w said h. (h.0, subst (λ u. May u r.handler.object) (sym h.1) (acting.may v r.handler.object Write inside)))
      (begin_handler_if_room-leads r by)

  pub call_handler-leads : (r : Release) → who.Agent ≡ actor → Leads F (Either I J) (call_handler p r)
  unfolding call_handler
  call_handler-leads r by = looks-with _ (λ v said h. enter_handler-at v r (entering p v who.Agent r.handler.object Write) by refl)
