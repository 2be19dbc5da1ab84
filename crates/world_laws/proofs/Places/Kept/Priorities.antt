-- Base priorities and deadlines that are set, and delays: each step keeps what its parts keep.
use Rattle.ann_base.specs.Results.{◌>>=◌}
use Rattle.ann_base.specs.declared.exceptions.Raised.TheVariants as exception
use Rattle.ann_base.specs.declared.identities.TaskNo.{TaskNo}
use Rattle.world_laws.proofs.Places.ActingMoves.{ActingMoves, Lasting, LastingOf}
use Rattle.ceiling_laws.proofs.Fine.Kept.Calls.{edit_call-alters, edit_queue-alters, with_call-keeps}
use Rattle.ceiling_laws.proofs.Fine.Kept.Frames.{given-keeps, given-through, goes-keeps, raise_if-through, raises-keeps, weakly}
use Rattle.ceiling_laws.proofs.Fine.Kept.Tasks.{plain-alters, says-keeps}
use Rattle.ceiling_laws.proofs.Fine.LevelMoves.{Silences}
use Rattle.ceiling_laws.proofs.Runs.Triples.{Alters, At, Keeps, Leads, State, changes-keeps, for_some-keeps, looks-keeps, looks-leads, nothing-keeps}
use Rattle.ceiling_laws.proofs.Runs.Triples.{nothing-leads, sees-keeps, sees-leads, then-keeps, then-leads, to-leads, unchanged-alters, when-keeps}
use Rattle.profile_machine.specs.Calls.{place_of_entry, put_call, take_call}
use Rattle.profile_machine.specs.Dispatching.{active_of, block, to_tail}
use Rattle.profile_machine.specs.Frames.{given, goes, in_protected, raise_if}
use Rattle.profile_machine.specs.Operators.{Valued, held_moment, ticks}
use Rattle.profile_machine.specs.Appointments.{appoint}
use Rattle.profile_machine.specs.Priorities.{call_waited_for, delay_and_set_deadline, delay_with_deadline, is_edf_base, is_queued}
use Rattle.profile_machine.specs.Priorities.{placed_anew, priority_in_range, quantum_of, reprioritize, reprioritize_own, says_deadline}
use Rattle.profile_machine.specs.Priorities.{set_base_of, set_deadline_of, set_or_defer_base, set_priority, set_quantum, with_priority}
use Rattle.profile_image.specs.Program.{interrupt_priority, next_of}
use Rattle.profile_machine.specs.Steps.{Step, changes}
use Rattle.profile_machine.specs.Statements.{delay_to, delay_until, wait_until}
use Rattle.profile_machine.specs.Tasks.{edit_task, found_task, is_who}
use Rattle.profile_machine.specs.Values.{Seen, live_task, moment, seen_by, optional_task, value, whole_in, must_be_task}
use Rattle.profile_image.specs.Words.{edit_at, same_who}
use Rattle.profile_image.specs.declared.image.Image.{Image}
use Rattle.profile_image.specs.declared.image.Queuing.{Queuing}
use Rattle.profile_image.specs.declared.image.Queuing.TheVariants as queuing
use Rattle.profile_image.specs.declared.numbers.ExprNo.{ExprNo}
use Rattle.profile_image.specs.declared.numbers.StatementNo.{StatementNo}
use Rattle.profile_machine.specs.declared.world.World.{World}
use Rattle.profile_machine.specs.declared.world.appointments.Due.TheVariants as due_for
use Rattle.profile_machine.specs.declared.world.calls.Call.{Call}
use Rattle.profile_machine.specs.declared.world.lines.Line.TheVariants as line
use Rattle.profile_machine.specs.declared.world.lines.Part.{Part}
use Rattle.profile_machine.specs.declared.world.lines.Part.TheVariants.{Own, TheBlock, ThePlacing}
use Rattle.profile_machine.specs.declared.world.tasks.Task as world
use Rattle.profile_machine.specs.declared.world.tasks.Waiting.{Waiting}
use Rattle.profile_machine.specs.declared.world.tasks.Waiting.TheVariants as waits_for
use Rattle.std.proofs.Common.{ap, refl, subst, sym, ◌∙◌, ◌≡◌}
use Rattle.std.specs.Prelude.{Bool, List, None, Option, Some, false, int_lt, pos, true, ℕ, ℤ, ◌+ℤ◌, ◌||◌}
use Rattle.trace_text.specs.declared.events.Who.{Who}
use Rattle.trace_text.specs.declared.events.Who.TheVariants as who
use Rattle.ceiling_laws.proofs.Runs.Kept.Waking.{each-any, found-each, who-is}
use Rattle.ceiling_laws.proofs.Runs.LevelMoves.{Fitting, Sleeping}
use Rattle.ceiling_laws.proofs.Places.PartOrder.{by_test}
use Rattle.ceiling_laws.proofs.Runs.ActingMoves.{Admitting}
use Rattle.machine_laws.proofs.FineMoves.{Naming}

module _ {X : State} (quiet : Silences X) where
  set_level-alters : (level ticks : ℕ) → Alters X (λ w. record w { quanta = edit_at level (λ _. ticks) w.quanta })
  set_level-alters level ticks =
      plain-alters quiet (λ w. record w { quanta = edit_at level (λ _. ticks) w.quanta }) (λ w. refl) (λ w. refl) (λ w. refl) (λ w. refl) (λ w. refl)
      (λ w t e. e)

  pub set_quantum-keeps : (p : Image) (name : Who) (s : StatementNo) (level quantum : ExprNo) → Keeps X (set_quantum p name s level quantum)
  unfolding set_quantum
  set_quantum-keeps p name s level quantum =
      sees-keeps p name _ (λ q. given-keeps quiet Own name (value q level) _ (λ v. given-keeps quiet Own name (moment q quantum) _ (λ n.
      given-keeps quiet Own name (priority_in_range p.policies.last_priority (whole_in v)) _ (λ l. given-keeps quiet Own name (quantum_of p l n) _ (λ ticks.
      then-keeps (goes name (next_of p s)) _ (goes-keeps quiet name (next_of p s)) (changes-keeps _ (set_level-alters l ticks)))))))

  pub says_deadline-keeps : (part : Part) (name : Who) (d : ℤ) → Keeps X (says_deadline part name d)
  unfolding says_deadline
  says_deadline-keeps part (who.Task t) d = says-keeps quiet part (line.Deadline t d) refl
  says_deadline-keeps part who.Agent d = nothing-keeps

  -- the call of somebody who waits gets its active priority
  placed_anew-alters : (queuing : Queuing) (p : Image) (c : Call) (level : ℕ) → Alters X (placed_anew queuing p c level)
  placed_anew-alters queuing.Fifo p c level = unchanged-alters
  placed_anew-alters queuing.Priority p c level = record {
    turns =
        λ w said h.
        (edit_queue-alters quiet c.owner (place_of_entry p c.entry) (λ q. put_call queuing.Priority w c.number level (take_call c.number q))).turns w said h;
  }

  reprioritize-keeps : (p : Image) (level : ℕ) (c : Call) → Keeps X (reprioritize p level c)
  unfolding reprioritize
  reprioritize-keeps p level c =
      when-keeps (is_queued c) _
      (then-keeps _ _ (changes-keeps _ (edit_call-alters quiet c.number (with_priority level) (λ d. refl) (λ d. refl)))
      (changes-keeps _ (placed_anew-alters p.policies.queuing p c level)))

  pub reprioritize_own-keeps : (p : Image) (name : Who) (waiting : Waiting) → Keeps X (reprioritize_own p name waiting)
  unfolding reprioritize_own
  reprioritize_own-keeps p name waiting =
      looks-keeps _ (λ w. for_some-keeps (call_waited_for waiting) _ (λ c. with_call-keeps quiet c _ (reprioritize-keeps p (active_of p w name))))

module _ {p : Image} {actor : Who} {Fits : Fitting} {Sleeps : Sleeping} {May : Admitting} {Listed Unmade : World → Naming} {F I L W Y B D Z : State}
    {O V : World → State} {N : Lasting} {E : LastingOf}
    (acting : ActingMoves p actor Fits Sleeps May Listed Unmade F I L W Y B D Z O V N E) where
  -- who was found by the name of a task is one
  base_of_named : (t : TaskNo) (name : Who) (level : ℕ) → same_who (who.Task t) name ≡ true → Leads F I (set_or_defer_base p actor name level)
  base_of_named t (who.Task n) level is = acting.sets_base n level
  base_of_named t who.Agent level is = absurd cc

  base_of_found : (s : StatementNo) (level : ℕ) (t : TaskNo) (tasks : List world.Task) (found : Option world.Task) → found_task (who.Task t) tasks ≡ found
      → Leads F I (set_base_of p actor s level found)
  unfolding set_base_of
  base_of_found s level t tasks None is = weakly acting.fresh acting.starts (goes actor (next_of p s)) (goes-keeps acting.fresh actor (next_of p s))
  base_of_found s level t tasks (Some u) is =
      raise_if-through acting.fresh (λ w k h. h) acting.starts actor (is_edf_base p u.base || is_edf_base p level) exception.Program _
      (then-leads (goes actor (next_of p s)) (set_or_defer_base p actor u.who level) (goes-keeps acting.fresh actor (next_of p s))
      (base_of_named t u.who level (found-each (λ v. Unit {0}) (is_who (who.Task t)) tasks u (each-any tasks) is).1))

  pub set_priority-leads : (s : StatementNo) (e : ExprNo) (task : Option ExprNo) → Leads F I (set_priority p actor s e task)
  unfolding set_priority
  set_priority-leads s e task =
      sees-leads p actor _ (λ q.
      given-through acting.fresh (λ w k h. h) acting.starts Own actor (optional_task q task >>= must_be_task) _ (λ t.
      given-through acting.fresh (λ w k h. h) acting.starts Own actor (value q e >>= λ v. priority_in_range (interrupt_priority p) (whole_in v)) _ (λ level.
      base_of_found s level t q.world.tasks (found_task (who.Task t) q.world.tasks) refl)))

  pub set_deadline_of-leads : (s : StatementNo) (e : ExprNo) (task : Option ExprNo) → Leads F I (set_deadline_of p actor s e task)
  unfolding set_deadline_of
  set_deadline_of-leads s e task =
      sees-leads p actor _ (λ q.
      given-through acting.fresh (λ w k h. h) acting.starts Own actor (optional_task q task >>= λ t. live_task q.world t) _ (λ t.
      given-through acting.fresh (λ w k h. h) acting.starts Own actor (moment q e) _ (λ d.
      then-leads (goes actor (next_of p s)) _ (goes-keeps acting.fresh actor (next_of p s)) (acting.sets_deadline t.who d))))

  -- ---- delays

  wait_until-leads : (name : Who) (until : ℤ) (future : Bool) → name ≡ actor → Leads I Y (wait_until p name until future)
  unfolding wait_until
  wait_until-leads (who.Task t) until true is =
      then-leads _ _ (changes-keeps _ (acting.appoints t until is))
      (subst (λ n. Leads I Y (block TheBlock n waits_for.Moment)) (sym is) (acting.blocks waits_for.Moment refl))
  wait_until-leads (who.Task t) until false is = subst (λ n. Leads I Y (to_tail p ThePlacing n)) (sym is) (to-leads _ acting.tails acting.ceases)
  wait_until-leads who.Agent until future is = nothing-leads acting.ceases

  pub delay_to-leads : (until : ℤ) → Leads I Y (delay_to p actor until)
  unfolding delay_to
  delay_to-leads until = looks-leads _ (λ w. wait_until-leads actor until (int_lt (pos w.time) until) refl)

  pub delay_until-leads : (s : StatementNo) (until : Valued ℤ) → Leads I Y (delay_until p actor s until)
  unfolding delay_until
  delay_until-leads s until =
      looks-leads _
      (λ w. raise_if-through acting.later.base.quiet (λ v k h. h) acting.ceases actor (in_protected w actor) exception.Program _
      (given-through acting.later.base.quiet (λ v k h. h) acting.ceases Own actor until _ (λ m.
      then-leads _ _ (goes-keeps acting.later.base.quiet actor (next_of p s)) (delay_to-leads m))))

  -- a task that has been given a deadline waits, or goes to the tail
  wait_dated-leads : (name : Who) (until : ℤ) (future : Bool) → name ≡ actor → same_who name who.Agent ≡ false → Leads L Y (wait_until p name until future)
  unfolding wait_until
  wait_dated-leads (who.Task t) until true is task =
      then-leads (changes (appoint (due_for.Delay t) until)) _ (changes-keeps _ (acting.dated_appoints t until is))
      (subst (λ n. Leads L Y (block TheBlock n waits_for.Moment)) (sym is) (acting.dated_blocks waits_for.Moment refl))
  wait_dated-leads (who.Task t) until false is task = subst (λ n. Leads L Y (to_tail p ThePlacing n)) (sym is) (to-leads _ acting.dated_tails acting.ceases)
  wait_dated-leads who.Agent until future is task = absurd cc

  delay_with_deadline-leads : (s : StatementNo) (until offset : ℤ) → same_who actor who.Agent ≡ false → Leads I Y (delay_with_deadline p actor s until offset)
  unfolding delay_with_deadline delay_to
  delay_with_deadline-leads s until offset task =
      then-leads (goes actor (next_of p s)) _ (goes-keeps acting.later.base.quiet actor (next_of p s))
      (then-leads (changes (edit_task actor (λ t. record t { deadline = held_moment (until +ℤ offset) }))) _ (acting.dates (held_moment (until +ℤ offset)))
      (then-leads (says_deadline Own actor (held_moment (until +ℤ offset))) _ (says_deadline-keeps acting.dating Own actor (held_moment (until +ℤ offset)))
      (looks-leads _ (λ w. wait_dated-leads actor until (int_lt (pos w.time) until) refl task))))

  -- the agent is inside a protected action, so an exception is raised
  raises_inside : (inside : Bool) (step : Step) → inside ≡ true → Leads I Y (raise_if actor inside exception.Program step)
  raises_inside true step is = to-leads _ (raises-keeps acting.later.base.quiet Own actor exception.Program) acting.ceases
  raises_inside false step is = absurd cc

  dated_seen : (s : StatementNo) (until offset : ExprNo) (q : Seen) → (actor ≡ who.Agent → in_protected q.world actor ≡ true)
      → Leads I Y (raise_if actor (in_protected q.world actor) exception.Program
      (given Own actor (moment q until) (λ m. given Own actor (moment q offset) (λ o. delay_with_deadline p actor s m o))))
  dated_seen s until offset q inside =
      by_test (same_who actor who.Agent)
      (λ agent. raises_inside (in_protected q.world actor) _ (inside (who-is actor who.Agent agent)))
      (λ task. raise_if-through acting.later.base.quiet (λ v k h. h) acting.ceases actor (in_protected q.world actor) exception.Program _
      (given-through acting.later.base.quiet (λ v k h. h) acting.ceases Own actor (moment q until) _
      (λ m. given-through acting.later.base.quiet (λ v k h. h) acting.ceases Own actor (moment q offset) _ (λ o. delay_with_deadline-leads s m o task))))

  pub delay_and_set_deadline-leads : (v : World) (s : StatementNo) (until offset : ExprNo) → (actor ≡ who.Agent → in_protected v actor ≡ true)
      → Leads (At I v) Y (delay_and_set_deadline p actor s until offset)
  unfolding delay_and_set_deadline
  delay_and_set_deadline-leads v s until offset inside = record {
    runs = λ w said h. (dated_seen s until offset (seen_by p w actor) (λ is. ap (λ u. in_protected u actor) h.1 ∙ inside is)).runs w said h.0;
  }
