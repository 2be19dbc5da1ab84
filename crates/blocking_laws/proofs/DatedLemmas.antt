-- In every run of a source whose interrupts have no deadlines the agent is placed without one.
use Rattle.ann_base.specs.declared.identities.TaskNo.{TaskNo}
use Rattle.ceiling_laws.specs.CeilingLaws.{edf_is_below_interrupts}
use Rattle.ceiling_laws.proofs.Runs.ActingMoves.{later-leads}
use Rattle.ceiling_laws.proofs.Ceilings.CeilingLemmas.{agent_has_no_deadline}
use Rattle.ceiling_laws.proofs.Runs.AgentLemmas.{AgentKeeps, KeepsAgent, agent_base, agent_quiet, plainly_alters, task_alters}
use Rattle.ceiling_laws.proofs.Runs.FreeMoves.{EveryPart, FreeBase, FreeMoves, anywhere, late_base, to_tail-free}
use Rattle.ceiling_laws.proofs.Fine.Kept.Declarations.{set_thing-same}
use Rattle.ceiling_laws.proofs.Fine.Kept.Frames.{goes-keeps, open_sequence-keeps}
use Rattle.ceiling_laws.proofs.Fine.Kept.Scopes.{open_scope-alters}
use Rattle.ceiling_laws.proofs.Runs.Kept.Tasks.{same-alters}
use Rattle.ceiling_laws.proofs.Runs.LevelMoves.{Silences, is_apart, said_so}
use Rattle.ceiling_laws.proofs.Runs.RunLemmas.{Instants, Settles, free_instants, instant_onward, settles_onward}
use Rattle.ceiling_laws.proofs.Runs.TockLemmas.{tock-same}
use Rattle.ceiling_laws.proofs.Runs.Triples.{Alters, At, Ends, Keeps, Leads, State, changes-keeps, for_some-keeps, from-leads, looks-keeps, then-keeps}
use Rattle.ceiling_laws.specs.RunLaws.{Tells, told_first, told_on}
use Rattle.ceiling_laws.proofs.Runs.Finer.{fine, fine_same}
use Rattle.machine_laws.proofs.LineLemmas.{tocks_say_ticks}
use Rattle.machine_laws.specs.LineKinds.{is_of_tock}
use Rattle.profile_machine.specs.Appointments.{appoint}
use Rattle.profile_machine.specs.Declarations.{says_object, with_object}
use Rattle.profile_machine.specs.Dispatching.{active, deadline_shown, says_ready}
use Rattle.profile_machine.specs.Instant.{instant}
use Rattle.profile_machine.specs.Lines.{event_of}
use Rattle.profile_machine.specs.Masters.{forget_task, part_of}
use Rattle.profile_image.specs.Program.{interrupt_priority, is_edf_level, next_of, protected_unit_of}
use Rattle.profile_machine.specs.Run.{blank_world, environment, opening, opens, run_of, tock}
use Rattle.profile_machine.specs.Scopes.{plainly}
use Rattle.profile_machine.specs.Steps.{Step, changes, in_order, is_part_before, put_in_order, says, ◌▷◌}
use Rattle.profile_machine.specs.Tasking.{add_task, create_task, says_created}
use Rattle.profile_machine.specs.Tasks.{edit_task, task_of}
use Rattle.profile_image.specs.declared.image.Image.{Image}
use Rattle.profile_image.specs.declared.numbers.DeclNo.{DeclNo}
use Rattle.profile_image.specs.declared.numbers.ProtectedUnitNo.{ProtectedUnitNo}
use Rattle.profile_image.specs.declared.numbers.StatementNo.{StatementNo}
use Rattle.profile_image.specs.declared.script_items.Item.{Item}
use Rattle.profile_image.specs.declared.values.Value.TheVariants as value_of
use Rattle.profile_machine.specs.declared.world.World.{World}
use Rattle.profile_machine.specs.declared.world.appointments.Due.TheVariants as due_for
use Rattle.profile_machine.specs.declared.world.lines.Line.{Line}
use Rattle.profile_machine.specs.declared.world.lines.Line.TheVariants as line
use Rattle.profile_machine.specs.declared.world.lines.Part.{Part}
use Rattle.profile_machine.specs.declared.world.lines.Part.TheVariants.{Own, TheBlock, ThePlacing}
use Rattle.profile_machine.specs.declared.world.lines.Said.{Said}
use Rattle.profile_machine.specs.declared.world.marks.Purpose.TheVariants as opened_for
use Rattle.profile_machine.specs.declared.world.scopes.Located.{Located}
use Rattle.profile_machine.specs.declared.world.scopes.ScopeId.{ScopeId}
use Rattle.profile_machine.specs.declared.world.tasks.Task.{Task}
use Rattle.std.proofs.Common.{ap, map, refl, sym, ◌∙◌, ◌≡◌}
use Rattle.std.specs.Bool.{then_some}
use Rattle.std.specs.Prelude.{Bool, List, None, Option, Some, [], cond, false, is_none, true, ℕ, ℤ, ◌++◌, ◌-◌, ◌∷◌}
use Rattle.line_laws.proofs.Ticks.LineByLine.{Follow, Follow-all, seen_behind}
use Rattle.trace_text.specs.declared.events.Created.TheVariants as created
use Rattle.trace_text.specs.declared.events.Event.{Event}
use Rattle.trace_text.specs.declared.events.Event.TheVariants as written
use Rattle.trace_text.specs.declared.events.QueueEnd.{QueueEnd}
use Rattle.trace_text.specs.declared.events.Who.{Who}
use Rattle.trace_text.specs.declared.events.Who.TheVariants as who
use Rattle.trace_text.proofs.LawsFollowed.{lines_hold}
use Rattle.blocking_laws.specs.DatedLines.{RunsDateRightly, places_dated, shows_nothing}
use Rattle.blocking_laws.specs.MovingLaws.{is_dated_rightly}
use Rattle.blocking_laws.proofs.ToldLines.{ToldRuns, run-follows}

-- ---- lines

abbrev right_line : Image → Line → Bool
right_line p x = places_dated (event_of p x)

abbrev AllRight : Image → List Said → Type 0
AllRight p [] = Unit {0}
AllRight p (x ∷ xs) = (right_line p x.line ≡ true) × AllRight p xs

all_right-append : (p : Image) (xs : List Said) (x : Said) → AllRight p xs → right_line p x.line ≡ true → AllRight p (xs ++ x ∷ [])
all_right-append p [] x q e = (e, tt)
all_right-append p (y ∷ ys) x q e = (q.0, all_right-append p ys x q.1 e)

all_right-test : (p : Image) (x y : Said) (ys placed : List Said) (b : Bool) → AllRight p (x ∷ y ∷ ys) → AllRight p placed
    → AllRight p (cond b (y ∷ placed) (x ∷ y ∷ ys))
all_right-test p x y ys placed true h k = (h.1.0, k)
all_right-test p x y ys placed false h k = h

all_right-put : (p : Image) (x : Said) (ys : List Said) → AllRight p (x ∷ ys) → AllRight p (put_in_order x ys)
all_right-put p x [] h = h
all_right-put p x (y ∷ ys) h =
    all_right-test p x y ys (put_in_order x ys) (is_part_before y.part x.part) h (all_right-put p x ys (h.0, h.1.1))

all_right-in_order : (p : Image) (xs : List Said) → AllRight p xs → AllRight p (in_order xs)
all_right-in_order p [] h = h
all_right-in_order p (x ∷ xs) h = all_right-put p x (in_order xs) (h.0, all_right-in_order p xs h.1)

apart-right : (p : Image) (x : Line) → is_apart x ≡ false → right_line p x ≡ true
apart-right p (line.Ready name level end deadline) e = absurd cc
apart-right p _ e = refl

dated-test : (b : Bool) (deadline : ℤ) → b ≡ false → is_none (then_some b deadline) ≡ true
dated-test true deadline e = absurd cc
dated-test false deadline e = refl

ready-right : (p : Image) (w : World) (name : Who) → edf_is_below_interrupts p ≡ true → w.agent.base ≡ interrupt_priority p
    → is_dated_rightly name (deadline_shown p (task_of w name)) ≡ true
ready-right p w (who.Task t) low agent = refl
ready-right p w who.Agent low agent =
    dated-test (is_edf_level p (active p w.agent)) w.agent.deadline (agent_has_no_deadline p w.agent low agent)

abbrev right_at : Image → Unit {0} → Event → Bool
right_at p s event = places_dated event

-- ---- steps

Rightly : Image → State
Rightly p w said = AgentKeeps p w × AllRight p said

module _ (p : Image) (low : edf_is_below_interrupts p ≡ true) where
  rightly_quiet : Silences (Rightly p)
  unfolding Rightly KeepsAgent
  rightly_quiet = record {
    silently = λ a b said s h. ((agent_quiet p).silently a b said s h.0, h.1);
    says = λ part line w said other h. (h.0, all_right-append p said (said_so part line) h.1 (apart-right p line other));
    ends_scope = λ id w said h. h;
  }

  rightly_alters : (f : World → World) → Alters (KeepsAgent p) f → Alters (Rightly p) f
  unfolding Rightly KeepsAgent
  rightly_alters f a = record { turns = λ w said h. (a.turns w said h.0, h.1) }

  rightly_says : (part : Part) (line : Line) → right_line p line ≡ true → Keeps (Rightly p) (says part line)
  unfolding Rightly Ends
  rightly_says part line e = record { runs = λ w said h. (h.0, all_right-append p said (said_so part line) h.1 e) }

  rightly_ready : (part : Part) (name : Who) (end : QueueEnd) → Keeps (Rightly p) (says_ready p part name end)
  unfolding Rightly Ends says_ready
  rightly_ready part name end = record {
    runs = λ w said h. (
      h.0,
      all_right-append p said (said_so part (line.Ready name (active p (task_of w name)) end (deadline_shown p (task_of w name)))) h.1
          (ready-right p w name low h.0.0),
    );
  }

  rightly_base : FreeBase p EveryPart (Rightly p)
  rightly_base = record {
    quiet = rightly_quiet;
    edits = λ name f same_who same_base same_deferred. rightly_alters (edit_task name f) ((agent_base p).edits name f same_who same_base same_deferred);
    readies = λ part name end fits. rightly_ready part name end;
    blocks = λ name waits. rightly_says TheBlock (line.Block name waits) refl;
    ends = λ part t fits. rightly_says part (line.Done t) refl;
    exits = λ name o. rightly_says Own (line.Exit name o) refl;
    appoints = λ t moment. rightly_alters (appoint (due_for.Delay t) moment) ((agent_base p).appoints t moment);
    forgets = λ name. rightly_alters (forget_task name) ((agent_base p).forgets name);
  }

  rightly_created : (name : Who) (s : StatementNo) (d : DeclNo) (id : Option ScopeId) (t : Task) → Keeps (Rightly p) (create_task p name s d id t)
  unfolding create_task says_created
  rightly_created name s d id t =
      then-keeps _ _ (goes-keeps (fine rightly_quiet) name (next_of p s))
      (then-keeps _ _ (changes-keeps _ (rightly_alters (add_task t) (plainly_alters p (add_task t) (λ w. refl))))
      (then-keeps _ _
      (for_some-keeps id _
      (λ within. looks-keeps _
      (λ w. changes-keeps _
      (same-alters rightly_quiet _
      (λ u. fine_same u _ (set_thing-same p (record { within = within; declared = d }) (value_of.Task (Some (record { 0 = w.drawn.tasks - 1 }))) u))))))
      (looks-keeps _ (λ w. rightly_says Own _ refl))))

  rightly_made : (l : Located) (u : ProtectedUnitNo) → Keeps (Rightly p) (changes (with_object p l u) ▷ says_object p l u)
  unfolding says_object
  rightly_made l u =
      then-keeps _ _ (changes-keeps _ (rightly_alters (with_object p l u) (plainly_alters p (with_object p l u) (λ w. refl))))
      (looks-keeps _
      (λ w. rightly_says Own (line.New (created.Object (record { 0 = w.drawn.objects })) (Some l.declared) (protected_unit_of p u).ceiling) refl))

  rightly_bases : (part : Part) (t : TaskNo) (level : ℕ)
      → Keeps (Rightly p) (changes (edit_task (who.Task t) (λ u. record u { base = level })) ▷ says part (line.Base t level))
  rightly_bases part t level =
      then-keeps _ _
      (changes-keeps _ (rightly_alters (edit_task (who.Task t) (λ u. record u { base = level })) (task_alters p t (λ u. record u { base = level }))))
      (rightly_says part (line.Base t level) refl)

  rightly_takes : (v : World) (level : ℕ) (step : Step) → v.agent.deferred_base ≡ Some level → Leads (At (Rightly p) v) (Rightly p) step
  unfolding Rightly
  rightly_takes v level step is = record {
    runs = λ w said h. absurd (let never : None ≡ Some level = sym h.0.0.1 ∙ ap (λ u. u.agent.deferred_base) h.1 ∙ is in cc);
  }

  rightly_free : (actor : Who) → FreeMoves p actor anywhere (Rightly p) (Rightly p) (Rightly p)
  rightly_free actor = record {
    fresh = rightly_quiet;
    appoints_first = λ t moment. rightly_alters (appoint (due_for.Delay t) moment) ((agent_base p).appoints t moment);
    later = rightly_base;
    entered = late_base rightly_base;
    starts = λ w said h. h;
    may = λ w o mode e. tt;
    may_held = λ w o mode e. tt;
    may_on = λ a b o same m. tt;
    enters = λ o mode. from-leads (says Own (line.Enter actor o mode)) (λ w said h. h.0) (rightly_says Own (line.Enter actor o mode) refl);
    finds_held =
        λ o mode.
        from-leads _ (λ w said h. h.0) (later-leads (says Own (line.Held actor o mode)) (λ w said h. h) (rightly_says Own (line.Held actor o mode) refl));
    bases_first = λ t level. rightly_bases (part_of actor (who.Task t)) t level;
    bases = λ t level. rightly_bases ThePlacing t level;
    defers =
        λ t deferred.
        rightly_alters (edit_task (who.Task t) (λ u. record u { deferred_base = deferred })) (task_alters p t (λ u. record u { deferred_base = deferred }));
    takes = λ v level is. rightly_takes v level _ is;
    creates = λ s d id t. from-leads (create_task p actor s d id t) (λ w said h. h.0) (rightly_created actor s d id t);
    makes = rightly_made;
  }

  -- ---- instants and runs

  HoldsAgent : Unit {0} → World → Type 0
  HoldsAgent s w = AgentKeeps p w

  rightly-follow : (xs : List Said) → AllRight p xs → Follow shows_nothing (right_at p) tt (map (λ x. event_of p x.line) xs)
  rightly-follow [] h = tt
  rightly-follow (x ∷ xs) h = (h.0, rightly-follow xs h.1)

  rightly_settles : Settles shows_nothing (right_at p) HoldsAgent p tt (Rightly p)
  unfolding Rightly HoldsAgent
  rightly_settles v xs h = record { follow = rightly-follow (in_order xs) (all_right-in_order p xs h.1); shows = h.0 }

  any_settles : (s : Unit {0}) → Settles shows_nothing (right_at p) HoldsAgent p s (Rightly p)
  any_settles tt = rightly_settles

  rightly_instants : Instants shows_nothing (right_at p) HoldsAgent p
  unfolding Rightly HoldsAgent
  rightly_instants = free_instants shows_nothing (right_at p) HoldsAgent (λ s. Rightly p) (λ s actor. rightly_free actor) (λ s w h. (h, tt)) any_settles

  rightly_opens : Keeps (Rightly p) (opens p)
  unfolding opens
  rightly_opens =
      then-keeps _ _ (changes-keeps _ (open_scope-alters (fine rightly_quiet) p environment p.environment (plainly None) opened_for.Task))
      (then-keeps _ _ (rightly_says Own (line.New (created.Task (record { 0 = 0 })) None p.main.priority) refl)
      (then-keeps _ _ (to_tail-free rightly_base Own environment tt) (open_sequence-keeps (fine rightly_quiet) p Own environment)))

  opening-rightly : (script : List (ℤ × Item)) → Follow shows_nothing (right_at p) tt (opening p script).1 × AgentKeeps p (opening p script).0
  unfolding Rightly HoldsAgent
  opening-rightly script =
      let behind_it =
      settles_onward shows_nothing (right_at p) HoldsAgent p tt (Rightly p) (Rightly p) (opens p) (blank_world p script) rightly_settles rightly_opens
      ((refl, refl), tt) in
      (behind_it.follow, behind_it.shows)

  instant-rightly : (w : World) → AgentKeeps p w → Follow shows_nothing (right_at p) tt (instant p w).1 × AgentKeeps p (instant p w).0
  unfolding HoldsAgent
  instant-rightly w h =
      let behind_it = instant_onward shows_nothing (right_at p) HoldsAgent rightly_instants tt w h in
      (behind_it.follow, behind_it.shows)

-- ---- runs

tock-right : (s : Unit {0}) (event : Event) → is_of_tock event ≡ true → places_dated event ≡ true
tock-right s (written.Ready name level end deadline) e = absurd cc
tock-right s _ e = refl

told-agent : (p : Image) (script : List (ℤ × Item)) (bound : ℕ) (lines : List Event) (w : World) → edf_is_below_interrupts p ≡ true
    → Tells p script bound lines w → AgentKeeps p w
told-agent p script bound _ _ low told_first = (opening-rightly p low script).1
told-agent p script bound _ _ low (told_on lines w told going) =
    let next = (instant-rightly p low w (told-agent p script bound lines w low told)).1 in
    let same = (tock-same p (instant p w).0).agent in
    (ap (λ c. c.base) same ∙ next.0, ap (λ c. c.deferred_base) same ∙ next.1)

unit-follows : (p : Image) (s : Unit {0}) (events : List Event) → Follow shows_nothing (right_at p) tt events
    → Follow shows_nothing (right_at p) s events
unit-follows p tt events h = h

dated_runs : (p : Image) → edf_is_below_interrupts p ≡ true → (script : List (ℤ × Item)) (bound : ℕ)
    → ToldRuns shows_nothing (right_at p) p script bound tt
dated_runs p low script bound = record {
  opens = (opening-rightly p low script).0;
  instants = λ lines w told. unit-follows p (seen_behind shows_nothing (right_at p) tt lines) (instant p w).1
      (instant-rightly p low w (told-agent p script bound lines w low told)).0;
  tocks = λ seen w. Follow-all shows_nothing (right_at p) is_of_tock tock-right seen (tock p w).1 (tocks_say_ticks p w);
  ends = λ seen reason. refl;
}

pub runs_date_rightly : RunsDateRightly
runs_date_rightly p low script bound =
    lines_hold shows_nothing (right_at p) tt (run_of p script bound)
    (run-follows shows_nothing (right_at p) (dated_runs p low script bound))
