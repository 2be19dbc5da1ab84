-- The agent's base priority is that of interrupts in every world that a run reaches.
use Rattle.ann_base.specs.declared.identities.TaskNo.{TaskNo}
use Rattle.ceiling_laws.proofs.Runs.FreeMoves.{EveryPart, FreeBase, FreeMoves, anywhere, late_base, ready_by_line, to_tail-free}
use Rattle.ceiling_laws.proofs.Fine.Kept.Declarations.{set_thing-same}
use Rattle.ceiling_laws.proofs.Fine.Kept.Frames.{goes-keeps, open_sequence-keeps}
use Rattle.ceiling_laws.proofs.Fine.Kept.Scopes.{open_scope-alters}
use Rattle.ceiling_laws.proofs.Runs.Kept.Tasks.{same-alters}
use Rattle.ceiling_laws.proofs.Runs.LevelMoves.{Silences}
use Rattle.ceiling_laws.proofs.Runs.RunLemmas.{Instants, Settles, free_instants, instant_onward, settles_onward}
use Rattle.ceiling_laws.proofs.Runs.TockLemmas.{tock-same}
use Rattle.ceiling_laws.proofs.Runs.Triples.{Alters, At, Ends, Keeps, Leads, State, changes-keeps, for_some-keeps, from-leads, looks-keeps, then-keeps}
use Rattle.ceiling_laws.specs.RunLaws.{AgentKeepsBase}
use Rattle.ceiling_laws.proofs.Runs.Finer.{fine, fine_same}
use Rattle.machine_laws.proofs.Moves.{lines_of}
use Rattle.machine_laws.specs.Reached.{Comes, before, behind, opened, ticked}
use Rattle.profile_machine.specs.Appointments.{appoint}
use Rattle.profile_machine.specs.Declarations.{says_object, set_thing, with_object}
use Rattle.profile_machine.specs.Instant.{instant}
use Rattle.profile_machine.specs.Masters.{forget_task, part_of}
use Rattle.profile_image.specs.Program.{interrupt_priority, next_of, protected_unit_of}
use Rattle.profile_machine.specs.Run.{blank_world, environment, opening, opens}
use Rattle.profile_machine.specs.Scopes.{plainly}
use Rattle.profile_machine.specs.Steps.{Step, changes, for_some, looks, says, ◌▷◌}
use Rattle.profile_machine.specs.Tasking.{add_task, create_task, says_created}
use Rattle.profile_machine.specs.Tasks.{edit_task, edit_task_found, task_at}
use Rattle.profile_image.specs.declared.image.Image.{Image}
use Rattle.profile_image.specs.declared.numbers.DeclNo.{DeclNo}
use Rattle.profile_image.specs.declared.numbers.ProtectedUnitNo.{ProtectedUnitNo}
use Rattle.profile_image.specs.declared.numbers.StatementNo.{StatementNo}
use Rattle.profile_image.specs.declared.script_items.Item.{Item}
use Rattle.profile_image.specs.declared.values.Value.TheVariants as value_of
use Rattle.profile_machine.specs.declared.world.World.{World}
use Rattle.profile_machine.specs.declared.world.appointments.Due.TheVariants as due_for
use Rattle.profile_machine.specs.declared.world.lines.Line.{Line}
use Rattle.profile_machine.specs.declared.world.lines.Line.TheVariants as line
use Rattle.profile_machine.specs.declared.world.lines.Part.{Part}
use Rattle.profile_machine.specs.declared.world.lines.Part.TheVariants.{Own, TheBlock, ThePlacing}
use Rattle.profile_machine.specs.declared.world.marks.Purpose.TheVariants as opened_for
use Rattle.profile_machine.specs.declared.world.scopes.Located.{Located}
use Rattle.profile_machine.specs.declared.world.scopes.ScopeId.{ScopeId}
use Rattle.profile_machine.specs.declared.world.tasks.Task.{Task}
use Rattle.std.proofs.Common.{None, Option, Some, ap, refl, subst, sym, ◌∙◌, ◌≡◌}
use Rattle.std.specs.Prelude.{Bool, List, [], true, ℕ, ℤ, ◌-◌, ◌∷◌}
use Rattle.line_laws.proofs.Ticks.LineByLine.{Follow}
use Rattle.trace_text.specs.declared.events.Created.TheVariants as created
use Rattle.trace_text.specs.declared.events.Event.{Event}
use Rattle.trace_text.specs.declared.events.Who.{Who}
use Rattle.trace_text.specs.declared.events.Who.TheVariants as who
use Rattle.ceiling_laws.proofs.Runs.ActingMoves.{later-leads}

-- the agent has that priority, and none is deferred
abbrev pub AgentKeeps : Image → World → Type 0
AgentKeeps p w = (w.agent.base ≡ interrupt_priority p) × (w.agent.deferred_base ≡ None)

unfoldable pub KeepsAgent : Image → State
KeepsAgent p w said = AgentKeeps p w

pub agent_edited : (p : Image) (name : Who) (f : Task → Task) (w : World) (found : Option Task) → task_at w name ≡ found → ((t : Task) → (f t).base ≡ t.base)
    → ((t : Task) → (f t).deferred_base ≡ t.deferred_base) → AgentKeeps p w → AgentKeeps p (edit_task_found name f w found)
agent_edited p name f w None is base deferred h = h
agent_edited p (who.Task n) f w (Some t) is base deferred h = h
agent_edited p who.Agent f w (Some t) is base deferred h =
    let one : w.agent ≡ t = cc in
    (base t ∙ ap (λ u. u.base) (sym one) ∙ h.0, deferred t ∙ ap (λ u. u.deferred_base) (sym one) ∙ h.1)

task_edited : (p : Image) (n : TaskNo) (f : Task → Task) (w : World) (found : Option Task) → AgentKeeps p w
    → AgentKeeps p (edit_task_found (who.Task n) f w found)
task_edited p n f w None h = h
task_edited p n f w (Some t) h = h

-- lines and other changes say nothing of it
module _ (p : Image) where
  pub agent_quiet : Silences (KeepsAgent p)
  unfolding KeepsAgent
  agent_quiet = record {
    silently = λ a b said s h. (ap (λ c. c.base) s.agent ∙ h.0, ap (λ c. c.deferred_base) s.agent ∙ h.1);
    says = λ part line w said other h. h;
    ends_scope = λ id w said h. h;
  }

  any_line : (part : Part) (line : Line) → Keeps (KeepsAgent p) (says part line)
  unfolding KeepsAgent Ends
  any_line part line = record { runs = λ w said h. h }

  pub task_alters : (n : TaskNo) (f : Task → Task) → Alters (KeepsAgent p) (edit_task (who.Task n) f)
  unfolding KeepsAgent
  task_alters n f = record { turns = λ w said h. task_edited p n f w (task_at w (who.Task n)) h }

  pub plainly_alters : (f : World → World) → ((w : World) → (f w).agent ≡ w.agent) → Alters (KeepsAgent p) f
  unfolding KeepsAgent
  plainly_alters f same = record { turns = λ w said h. subst (λ (t : Task). (t.base ≡ interrupt_priority p) × (t.deferred_base ≡ None)) (sym (same w)) h }

  nothing_deferred : (v : World) (level : ℕ) (step : Step) → v.agent.deferred_base ≡ Some level → Leads (At (KeepsAgent p) v) (KeepsAgent p) step
  unfolding KeepsAgent
  nothing_deferred v level step is = record {
    runs = λ w said h. absurd (let never : None ≡ Some level = sym h.0.1 ∙ ap (λ u. u.agent.deferred_base) h.1 ∙ is in cc);
  }

  thing_set : (id : Option ScopeId) (d : DeclNo)
      → Keeps (KeepsAgent p)
      (for_some id
      (λ within. looks (λ w. changes (set_thing p (record { within = within; declared = d }) (value_of.Task (Some (record { 0 = w.drawn.tasks - 1 })))))))
  thing_set id d =
      for_some-keeps id _
      (λ within. looks-keeps _
      (λ w. changes-keeps _
      (same-alters agent_quiet _
      (λ u. fine_same u _ (set_thing-same p (record { within = within; declared = d }) (value_of.Task (Some (record { 0 = w.drawn.tasks - 1 }))) u)))))

  agent_created : (name : Who) (s : StatementNo) (d : DeclNo) (id : Option ScopeId) (t : Task) → Keeps (KeepsAgent p) (create_task p name s d id t)
  unfolding create_task says_created
  agent_created name s d id t =
      then-keeps _ _ (goes-keeps (fine agent_quiet) name (next_of p s))
      (then-keeps _ _ (changes-keeps _ (plainly_alters (add_task t) (λ w. refl))) (then-keeps _ _ (thing_set id d) (looks-keeps _ (λ w. any_line Own _))))

  agent_made : (l : Located) (u : ProtectedUnitNo) → Keeps (KeepsAgent p) (changes (with_object p l u) ▷ says_object p l u)
  unfolding says_object
  agent_made l u =
      then-keeps _ _ (changes-keeps _ (plainly_alters (with_object p l u) (λ w. refl)))
      (looks-keeps _ (λ w. any_line Own (line.New (created.Object (record { 0 = w.drawn.objects })) (Some l.declared) (protected_unit_of p u).ceiling)))

  pub agent_base : FreeBase p EveryPart (KeepsAgent p)
  unfolding KeepsAgent
  agent_base = record {
    quiet = agent_quiet;
    edits = λ name f same_who same_base same_deferred. record { turns = λ w said h. agent_edited p name f w (task_at w name) refl same_base same_deferred h };
    readies = λ part name end fits. ready_by_line p part name end (λ level deadline. any_line part (line.Ready name level end deadline));
    blocks = λ name waits. any_line TheBlock (line.Block name waits);
    ends = λ part t fits. any_line part (line.Done t);
    exits = λ name o. any_line Own (line.Exit name o);
    appoints = λ t moment. plainly_alters (appoint (due_for.Delay t) moment) (λ w. refl);
    forgets = λ name. plainly_alters (forget_task name) (λ w. refl);
  }

  agent_free : (actor : Who) → FreeMoves p actor anywhere (KeepsAgent p) (KeepsAgent p) (KeepsAgent p)
  agent_free actor = record {
    fresh = agent_quiet;
    appoints_first = λ t moment. plainly_alters (appoint (due_for.Delay t) moment) (λ w. refl);
    later = agent_base;
    entered = late_base agent_base;
    starts = λ w said h. h;
    may = λ w o mode e. tt;
    may_held = λ w o mode e. tt;
    may_on = λ a b o same m. tt;
    enters = λ o mode. from-leads (says Own (line.Enter actor o mode)) (λ w said h. h.0) (any_line Own (line.Enter actor o mode));
    finds_held = λ o mode. from-leads _ (λ w said h. h.0) (later-leads (says Own (line.Held actor o mode)) (λ w said h. h) (any_line Own (line.Held actor o mode)));
    bases_first =
        λ t level.
        then-keeps _ _ (changes-keeps _ (task_alters t (λ u. record u { base = level }))) (any_line (part_of actor (who.Task t)) (line.Base t level));
    bases = λ t level. then-keeps _ _ (changes-keeps _ (task_alters t (λ u. record u { base = level }))) (any_line ThePlacing (line.Base t level));
    defers = λ t deferred. task_alters t (λ u. record u { deferred_base = deferred });
    takes = λ v level is. nothing_deferred v level _ is;
    creates = λ s d id t. from-leads (create_task p actor s d id t) (λ w said h. h.0) (agent_created actor s d id t);
    makes = agent_made;
  }

-- ---- worlds that a run reaches

abbrev pub see_nothing : Unit {0} → Event → Unit {0}
see_nothing s event = tt

abbrev any_event : Unit {0} → Event → Bool
any_event s event = true

any_follow : (lines : List Event) → Follow see_nothing any_event tt lines
any_follow [] = tt
any_follow (x ∷ xs) = (refl, any_follow xs)

module _ (p : Image) where
  HasAgent : Unit {0} → World → Type 0
  HasAgent s w = AgentKeeps p w

  agent_settles : (s : Unit {0}) → Settles see_nothing any_event HasAgent p s (KeepsAgent p)
  unfolding KeepsAgent HasAgent
  agent_settles s v xs h = record { follow = any_follow (lines_of p xs); shows = h }

  agent_instants : Instants see_nothing any_event HasAgent p
  unfolding KeepsAgent HasAgent
  agent_instants = free_instants see_nothing any_event HasAgent (λ s. KeepsAgent p) (λ s actor. agent_free p actor) (λ s w h. h) agent_settles

  agent_behind : (w : World) → AgentKeeps p w → AgentKeeps p (instant p w).0
  unfolding HasAgent
  agent_behind w h = (instant_onward see_nothing any_event HasAgent agent_instants tt w h).shows

  agent_opens : Keeps (KeepsAgent p) (opens p)
  unfolding opens
  agent_opens =
      then-keeps _ _ (changes-keeps _ (open_scope-alters (fine (agent_quiet p)) p environment p.environment (plainly None) opened_for.Task))
      (then-keeps _ _ (any_line p Own (line.New (created.Task (record { 0 = 0 })) None p.main.priority))
      (then-keeps _ _ (to_tail-free (agent_base p) Own environment tt) (open_sequence-keeps (fine (agent_quiet p)) p Own environment)))

  agent_at_opening : (script : List (ℤ × Item)) → AgentKeeps p (opening p script).0
  unfolding KeepsAgent HasAgent
  agent_at_opening script =
      (settles_onward see_nothing any_event HasAgent p tt (KeepsAgent p) (KeepsAgent p) (opens p) (blank_world p script) (agent_settles tt) agent_opens
      (refl, refl)).shows

  agent_comes : (script : List (ℤ × Item)) (bound : ℕ) (w : World) → Comes p script bound w → AgentKeeps p w
  agent_comes script bound _ opened = agent_at_opening script
  agent_comes script bound _ (ticked w c e) =
      let next = (instant p w).0 in
      let h = agent_behind w (agent_comes script bound w c) in
      let same = (tock-same p next).agent in
      (ap (λ c. c.base) same ∙ h.0, ap (λ c. c.deferred_base) same ∙ h.1)

pub agent_keeps_base : AgentKeepsBase
agent_keeps_base p script bound _ (before w c) = (agent_comes p script bound w c).0
agent_keeps_base p script bound _ (behind w c) = (agent_behind p w (agent_comes p script bound w c)).0
