-- Priorities that are inherited, and base priorities and deadlines that are set: each step keeps what its parts keep.
use Rattle.ann_base.specs.Results.{◌>>=◌}
use Rattle.ann_base.specs.declared.exceptions.Raised.TheVariants as exception
use Rattle.ann_base.specs.declared.identities.TaskNo.{TaskNo}
use Rattle.ceiling_laws.proofs.Runs.ActingMoves.{ActingMoves, Admitting, IsFound, LaterMoves}
use Rattle.ceiling_laws.proofs.Runs.CoreLemmas.{found-on}
use Rattle.ceiling_laws.proofs.Runs.SameLemmas.{edit_task-same, found_is_who}
use Rattle.ceiling_laws.proofs.Fine.Kept.Calls.{edit_call-alters, edit_queue-alters, with_call-keeps}
use Rattle.ceiling_laws.proofs.Fine.Kept.Frames.{given-keeps, given-through, goes-keeps, raise_if-keeps, raise_if-through, weakly}
use Rattle.ceiling_laws.proofs.Runs.Kept.Tasks.{edit_task-alters, plain-alters, says-keeps}
use Rattle.ceiling_laws.proofs.Runs.Kept.Waking.{inherit-alters, who-is}
use Rattle.ceiling_laws.proofs.Runs.LevelMoves.{Fitting, Silences, Sleeping}
use Rattle.ceiling_laws.proofs.Runs.Triples.{Alters, At, Keeps, Leads, State, With, changes-keeps, changes-leads, for_some-keeps, from_at, looks-keeps, looks-with, nothing-keeps}
use Rattle.ceiling_laws.proofs.Runs.Triples.{sees-keeps, sees-leads, then-keeps, then-leads, unchanged-alters, when-keeps}
use Rattle.ceiling_laws.proofs.Runs.Finer.{fine}
use Rattle.profile_machine.specs.Calls.{place_of_entry, put_call, take_call}
use Rattle.profile_machine.specs.Dispatching.{active_of, to_tail}
use Rattle.profile_machine.specs.Frames.{edit_first, edit_top, goes, goes_on, in_protected}
use Rattle.profile_machine.specs.Inheritance.{inherit, inherit_running, rises, same_cause}
use Rattle.profile_machine.specs.Operators.{Valued, held_moment, ticks}
use Rattle.profile_machine.specs.Priorities.{call_waited_for, delay_and_set_deadline, delay_with_deadline, is_edf_base, is_queued}
use Rattle.profile_machine.specs.Priorities.{placed_anew, priority_in_range, quantum_of, reprioritize, reprioritize_own, says_deadline}
use Rattle.profile_machine.specs.Priorities.{set_base_of, set_deadline_of, set_or_defer_base, set_priority, set_quantum, with_priority}
use Rattle.profile_image.specs.Program.{interrupt_priority, next_of}
use Rattle.profile_machine.specs.Statements.{delay_to, delay_until, wait_until}
use Rattle.profile_machine.specs.Tasks.{found_task, with_frames}
use Rattle.profile_machine.specs.Values.{seen_by, live_task, moment, optional_task, value, whole_in, must_be_task}
use Rattle.profile_image.specs.Words.{edit_at}
use Rattle.profile_image.specs.declared.image.Image.{Image}
use Rattle.profile_image.specs.declared.image.Queuing.{Queuing}
use Rattle.profile_image.specs.declared.image.Queuing.TheVariants as queuing
use Rattle.profile_image.specs.declared.numbers.ExprNo.{ExprNo}
use Rattle.profile_image.specs.declared.numbers.StatementNo.{StatementNo}
use Rattle.profile_machine.specs.declared.world.World.{World}
use Rattle.profile_machine.specs.declared.world.calls.Call.{Call}
use Rattle.profile_machine.specs.declared.world.lines.Line.TheVariants as line
use Rattle.profile_machine.specs.declared.world.lines.Part.{Part}
use Rattle.profile_machine.specs.declared.world.lines.Part.TheVariants.{Own, ThePlacing}
use Rattle.profile_machine.specs.declared.world.tasks.Cause.{Cause}
use Rattle.profile_machine.specs.declared.world.tasks.Cause.TheVariants as inherited_by
use Rattle.profile_machine.specs.declared.world.tasks.Task as world
use Rattle.profile_machine.specs.declared.world.tasks.Waiting.{Waiting}
use Rattle.profile_machine.specs.declared.world.tasks.Waiting.TheVariants as waits_for
use Rattle.std.proofs.Common.{ap, refl, subst, sym, ◌∙◌, ◌≡◌}
use Rattle.std.specs.Prelude.{Bool, None, Option, Some, false, int_lt, pos, true, ℕ, ℤ, ◌+ℤ◌, ◌||◌}
use Rattle.trace_text.specs.declared.events.Who.{Who}
use Rattle.trace_text.specs.declared.events.Who.TheVariants as who
use Rattle.machine_laws.proofs.FineMoves.{Naming}

module _ {X : State} (quiet : Silences X) where
  set_level-alters : (level ticks : ℕ) → Alters X (λ w. record w { quanta = edit_at level (λ _. ticks) w.quanta })
  set_level-alters level ticks =
      plain-alters quiet (λ w. record w { quanta = edit_at level (λ _. ticks) w.quanta }) (λ w. refl) (λ w. refl) (λ w. refl) (λ w. refl) (λ w. refl)
      (λ w t e. e)

  pub set_quantum-keeps : (p : Image) (name : Who) (s : StatementNo) (level quantum : ExprNo) → Keeps X (set_quantum p name s level quantum)
  unfolding set_quantum
  set_quantum-keeps p name s level quantum =
      sees-keeps p name _ (λ q. given-keeps (fine quiet) Own name (value q level) _ (λ v. given-keeps (fine quiet) Own name (moment q quantum) _ (λ n.
      given-keeps (fine quiet) Own name (priority_in_range p.policies.last_priority (whole_in v)) _
      (λ l. given-keeps (fine quiet) Own name (quantum_of p l n) _ (λ ticks.
      then-keeps (goes name (next_of p s)) _ (goes-keeps (fine quiet) name (next_of p s)) (changes-keeps _ (set_level-alters l ticks)))))))

  pub says_deadline-keeps : (part : Part) (name : Who) (d : ℤ) → Keeps X (says_deadline part name d)
  unfolding says_deadline
  says_deadline-keeps part (who.Task t) d = says-keeps quiet part (line.Deadline t d) refl
  says_deadline-keeps part who.Agent d = nothing-keeps

  -- the call of somebody who waits gets its active priority
  placed_anew-alters : (queuing : Queuing) (p : Image) (c : Call) (level : ℕ) → Alters X (placed_anew queuing p c level)
  placed_anew-alters queuing.Fifo p c level = unchanged-alters
  placed_anew-alters queuing.Priority p c level = record {
    turns =
        λ w said h. (edit_queue-alters (fine quiet) c.owner (place_of_entry p c.entry)
        (λ q. put_call queuing.Priority w c.number level (take_call c.number q))).turns w said h;
  }

  reprioritize-keeps : (p : Image) (level : ℕ) (c : Call) → Keeps X (reprioritize p level c)
  unfolding reprioritize
  reprioritize-keeps p level c =
      when-keeps (is_queued c) _
      (then-keeps _ _ (changes-keeps _ (edit_call-alters (fine quiet) c.number (with_priority level) (λ d. refl) (λ d. refl)))
      (changes-keeps _ (placed_anew-alters p.policies.queuing p c level)))

  pub reprioritize_own-keeps : (p : Image) (name : Who) (waiting : Waiting) → Keeps X (reprioritize_own p name waiting)
  unfolding reprioritize_own
  reprioritize_own-keeps p name waiting =
      looks-keeps _ (λ w. for_some-keeps (call_waited_for waiting) _ (λ c. with_call-keeps (fine quiet) c _ (reprioritize-keeps p (active_of p w name))))

module _ {p : Image} {actor : Who} {Fits : Fitting} {Sleeps : Sleeping} {X : State} (later : LaterMoves p actor Fits Sleeps X) where
  pub inherit_running-keeps : (cause : Cause) (level : ℕ) → same_cause inherited_by.Activation cause ≡ false → Keeps X (inherit_running p actor cause level)
  unfolding inherit_running
  inherit_running-keeps cause level other =
      looks-keeps _
      (λ w. then-keeps _ _ (changes-keeps _ (inherit-alters later.base actor cause level other))
      (when-keeps (rises p actor w (inherit actor cause level w)) _ later.heads))

module _ {p : Image} {actor : Who} {Fits Narrow : Fitting} {Sleeps : Sleeping} {May : Admitting} {Listed Unmade : World → Naming} {F I J W Y D : State}
    {O N V U : World → State} {E : World → Who → State}
    (acting : ActingMoves p actor Fits Narrow Sleeps May Listed Unmade F I J W Y D O N V U E) where
  -- who was found by the name of a task is one, and goes on being found
  base_of_named : (t : TaskNo) (name : Who) (level : ℕ) → who.Task t ≡ name → Leads (With F (IsFound t)) I (set_or_defer_base p actor name level)
  base_of_named t name level is = subst (λ n. Leads (With F (IsFound t)) I (set_or_defer_base p actor n level)) is (acting.sets_base t level)

  goes-found : (v : World) (t : TaskNo) (u : world.Task) (onward : Option StatementNo) → found_task (who.Task t) v.tasks ≡ Some u
      → Leads (At F v) (With F (IsFound t)) (goes actor onward)
  unfolding goes
  goes-found v t u onward is =
      changes-leads (edit_top actor (goes_on onward)) (λ w said h.
      let same = edit_task-same actor (λ x. with_frames (edit_first (goes_on onward) x.frames) x) w (λ x. refl) in
      let on = found-on w (edit_top actor (goes_on onward) w) (who.Task t) u same (ap (λ (a : World). found_task (who.Task t) a.tasks) h.1 ∙ is) in
      (acting.fresh.silently w (edit_top actor (goes_on onward) w) said same h.0, (on.0, on.1)))

  base_of_found : (v : World) (s : StatementNo) (level : ℕ) (t : TaskNo) (found : Option world.Task) → found_task (who.Task t) v.tasks ≡ found
      → Leads (At F v) I (set_base_of p actor s level found)
  unfolding set_base_of
  base_of_found v s level t None is =
      from_at (goes actor (next_of p s)) (weakly (fine acting.fresh) acting.starts (goes actor (next_of p s)) (goes-keeps (fine acting.fresh) actor (next_of p s)))
  base_of_found v s level t (Some u) is =
      raise_if-through (fine acting.fresh) (λ w k h. h.0) acting.starts actor (is_edf_base p u.base || is_edf_base p level) exception.Program _
      (then-leads (goes actor (next_of p s)) (set_or_defer_base p actor u.who level) (goes-found v t u (next_of p s) is)
      (base_of_named t u.who level (who-is (who.Task t) u.who (found_is_who (who.Task t) u v.tasks is))))

  pub set_priority-leads : (s : StatementNo) (e : ExprNo) (task : Option ExprNo) → Leads F I (set_priority p actor s e task)
  unfolding set_priority
  set_priority-leads s e task =
      looks-with _ (λ w said h. let q = seen_by p w actor in
      given-through (fine acting.fresh) (λ v k m. m.0) acting.starts Own actor (optional_task q task >>= must_be_task) _ (λ t.
      given-through (fine acting.fresh) (λ v k m. m.0) acting.starts Own actor (value q e >>= λ v. priority_in_range (interrupt_priority p) (whole_in v)) _
      (λ level.
      base_of_found w s level t (found_task (who.Task t) w.tasks) refl)))

  pub set_deadline_of-leads : (s : StatementNo) (e : ExprNo) (task : Option ExprNo) → Leads F I (set_deadline_of p actor s e task)
  unfolding set_deadline_of
  set_deadline_of-leads s e task =
      sees-leads p actor _ (λ q.
      given-through (fine acting.fresh) (λ w k h. h) acting.starts Own actor (optional_task q task >>= λ t. live_task q.world t) _ (λ t.
      given-through (fine acting.fresh) (λ w k h. h) acting.starts Own actor (moment q e) _ (λ d.
      then-leads (goes actor (next_of p s)) _ (goes-keeps (fine acting.fresh) actor (next_of p s)) (acting.sets_deadline t.who d))))

  -- ---- delays

  wait_until-keeps : (name : Who) (until : ℤ) (future : Bool) → name ≡ actor → Keeps I (wait_until p name until future)
  unfolding wait_until
  wait_until-keeps (who.Task t) until true is =
      then-keeps _ _ (changes-keeps _ (acting.appoints t until is)) (acting.later.blocks (who.Task t) waits_for.Moment)
  wait_until-keeps (who.Task t) until false is = subst (λ n. Keeps I (to_tail p ThePlacing n)) (sym is) acting.tails
  wait_until-keeps who.Agent until future is = nothing-keeps

  pub delay_to-keeps : (until : ℤ) → Keeps I (delay_to p actor until)
  unfolding delay_to
  delay_to-keeps until = looks-keeps _ (λ w. wait_until-keeps actor until (int_lt (pos w.time) until) refl)

  pub delay_until-keeps : (s : StatementNo) (until : Valued ℤ) → Keeps I (delay_until p actor s until)
  unfolding delay_until
  delay_until-keeps s until =
      looks-keeps _
      (λ w. raise_if-keeps (fine acting.later.base.quiet) actor (in_protected w actor) exception.Program _
      (given-keeps (fine acting.later.base.quiet) Own actor until _ (λ m.
      then-keeps _ _ (goes-keeps (fine acting.later.base.quiet) actor (next_of p s)) (delay_to-keeps m))))

  delay_with_deadline-keeps : (s : StatementNo) (until offset : ℤ) → Keeps I (delay_with_deadline p actor s until offset)
  unfolding delay_with_deadline
  delay_with_deadline-keeps s until offset =
      then-keeps _ _ (goes-keeps (fine acting.later.base.quiet) actor (next_of p s))
      (then-keeps _ _
      (changes-keeps _ (edit_task-alters acting.later.base.quiet actor (λ t. record t { deadline = held_moment (until +ℤ offset) }) (λ t. refl)))
      (then-keeps _ _ (says_deadline-keeps acting.later.base.quiet Own actor (held_moment (until +ℤ offset))) (delay_to-keeps until)))

  pub delay_and_set_deadline-keeps : (s : StatementNo) (until offset : ExprNo) → Keeps I (delay_and_set_deadline p actor s until offset)
  unfolding delay_and_set_deadline
  delay_and_set_deadline-keeps s until offset =
      sees-keeps p actor _ (λ q. raise_if-keeps (fine acting.later.base.quiet) actor (in_protected q.world actor) exception.Program _
      (given-keeps (fine acting.later.base.quiet) Own actor (moment q until) _
      (λ m. given-keeps (fine acting.later.base.quiet) Own actor (moment q offset) _ (λ o. delay_with_deadline-keeps s m o))))
