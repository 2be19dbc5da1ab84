-- A deadline is told only of tasks, where no level of interrupts is dispatched by deadlines, so the agent has none.
use Rattle.ann_base.specs.declared.identities.TaskNo.{TaskNo}
use Rattle.ceiling_laws.specs.CeilingLaws.{edf_is_below_interrupts}
use Rattle.ceiling_laws.proofs.Ceilings.CeilingLemmas.{agent_has_no_deadline, has_range}
use Rattle.ceiling_laws.proofs.Runs.AgentLemmas.{AgentKeeps, KeepsAgent, agent_base, agent_quiet, plainly_alters, see_nothing, task_alters}
use Rattle.ceiling_laws.proofs.Runs.BaseLemmas.{bases_are_told}
use Rattle.ceiling_laws.proofs.Runs.FreeMoves.{EveryPart, FreeBase, FreeMoves, anywhere, late_base, to_tail-free}
use Rattle.ceiling_laws.proofs.Fine.Kept.Declarations.{set_thing-same}
use Rattle.ceiling_laws.proofs.Fine.Kept.Frames.{goes-keeps, open_sequence-keeps}
use Rattle.ceiling_laws.proofs.Fine.Kept.Scopes.{open_scope-alters}
use Rattle.ceiling_laws.proofs.Runs.Kept.Tasks.{same-alters}
use Rattle.ceiling_laws.proofs.Runs.LevelMoves.{Silences, is_apart, said_so}
use Rattle.ceiling_laws.proofs.Runs.RunLemmas.{Instants, Settles, free_instants, instant_onward, settles_onward}
use Rattle.ceiling_laws.proofs.Runs.TockLemmas.{tock-same}
use Rattle.ceiling_laws.proofs.Runs.Triples.{Alters, At, Ends, Keeps, Leads, State, changes-keeps, for_some-keeps, from-leads, looks-keeps, then-keeps}
use Rattle.ceiling_laws.proofs.Places.QueueLemmas.{whose-name}
use Rattle.ceiling_laws.specs.RunLaws.{AreBasesShown, DeadlinesAreOfTasks, Tells, bases_told, levels_told, told_first, told_on}
use Rattle.ceiling_laws.proofs.Runs.Finer.{fine, fine_same}
use Rattle.machine_laws.proofs.LineLemmas.{AllAre-append, tocks_say_ticks}
use Rattle.machine_laws.specs.LineKinds.{AllAre, is_of_tock}
use Rattle.profile_machine.specs.Appointments.{appoint}
use Rattle.profile_machine.specs.Declarations.{says_object, with_object}
use Rattle.profile_machine.specs.Dispatching.{active, deadline_shown, says_ready}
use Rattle.profile_machine.specs.Instant.{instant}
use Rattle.profile_machine.specs.Lines.{event_of}
use Rattle.profile_machine.specs.Masters.{forget_task, part_of}
use Rattle.profile_image.specs.Program.{has_edf, interrupt_priority, is_edf_level, next_of, protected_unit_of}
use Rattle.profile_machine.specs.Run.{blank_world, environment, opening, opens, tock}
use Rattle.profile_machine.specs.Scopes.{plainly}
use Rattle.profile_machine.specs.Steps.{Step, changes, in_order, is_part_before, put_in_order, says, ◌▷◌}
use Rattle.profile_machine.specs.Tasking.{add_task, create_task, says_created}
use Rattle.profile_machine.specs.Tasks.{edit_task, task_at, task_of}
use Rattle.profile_image.specs.declared.image.Image.{Image}
use Rattle.profile_image.specs.declared.numbers.DeclNo.{DeclNo}
use Rattle.profile_image.specs.declared.numbers.ProtectedUnitNo.{ProtectedUnitNo}
use Rattle.profile_image.specs.declared.numbers.StatementNo.{StatementNo}
use Rattle.profile_image.specs.declared.script_items.Item.{Item}
use Rattle.profile_image.specs.declared.values.Value.TheVariants as value_of
use Rattle.profile_machine.specs.declared.world.World.{World}
use Rattle.profile_machine.specs.declared.world.appointments.Due.TheVariants as due_for
use Rattle.profile_machine.specs.declared.world.lines.Line.{Line}
use Rattle.profile_machine.specs.declared.world.lines.Line.TheVariants as line
use Rattle.profile_machine.specs.declared.world.lines.Part.{Part}
use Rattle.profile_machine.specs.declared.world.lines.Part.TheVariants.{Own, TheBlock, ThePlacing}
use Rattle.profile_machine.specs.declared.world.lines.Said.{Said}
use Rattle.profile_machine.specs.declared.world.marks.Purpose.TheVariants as opened_for
use Rattle.profile_machine.specs.declared.world.scopes.Located.{Located}
use Rattle.profile_machine.specs.declared.world.scopes.ScopeId.{ScopeId}
use Rattle.profile_machine.specs.declared.world.tasks.Task.{Task}
use Rattle.std.proofs.Common.{ap, map, refl, subst, sym, ◌∙◌, ◌≡◌}
use Rattle.std.specs.Bool.{then_some}
use Rattle.std.specs.Prelude.{Bool, List, None, Option, Some, [], cond, false, if◌then◌else◌, true, ℕ, ℤ, ◌++◌, ◌-◌, ◌∷◌}
use Rattle.line_laws.proofs.Ticks.LineByLine.{Follow}
use Rattle.trace_text.specs.Laws.{Levels, base_of, no_levels, see_levels}
use Rattle.trace_text.specs.Queue.{entry_of, placed, queue_after, who_eq, without}
use Rattle.trace_text.specs.declared.events.Created.TheVariants as created
use Rattle.trace_text.specs.declared.events.Entry.{Entry}
use Rattle.trace_text.specs.declared.events.Event.{Event}
use Rattle.trace_text.specs.declared.events.Event.TheVariants as written
use Rattle.trace_text.specs.declared.events.QueueEnd.{QueueEnd}
use Rattle.trace_text.specs.declared.events.QueueEnd.TheVariants.{Head, Tail}
use Rattle.trace_text.specs.declared.events.Who.{Who}
use Rattle.trace_text.specs.declared.events.Who.TheVariants as who
use Rattle.ceiling_laws.proofs.Runs.ActingMoves.{later-leads}

-- ---- lines

may_have : Image → Who → Bool
may_have p (who.Task t) = has_edf p
may_have p who.Agent = false

told_rightly : Image → Who → Option ℤ → Bool
told_rightly p name None = true
told_rightly p name (Some deadline) = may_have p name

right_event : Image → Event → Bool
right_event p (written.Ready name level end deadline) = told_rightly p name deadline
right_event p _ = true

abbrev right_line : Image → Line → Bool
right_line p x = right_event p (event_of p x)

abbrev AllRight : Image → List Said → Type 0
AllRight p [] = Unit {0}
AllRight p (x ∷ xs) = (right_line p x.line ≡ true) × AllRight p xs

all_right-append : (p : Image) (xs : List Said) (x : Said) → AllRight p xs → right_line p x.line ≡ true → AllRight p (xs ++ x ∷ [])
all_right-append p [] x q e = (e, tt)
all_right-append p (y ∷ ys) x q e = (q.0, all_right-append p ys x q.1 e)

all_right-test : (p : Image) (x y : Said) (ys placed : List Said) (b : Bool) → AllRight p (x ∷ y ∷ ys) → AllRight p placed
    → AllRight p (cond b (y ∷ placed) (x ∷ y ∷ ys))
all_right-test p x y ys placed true h k = (h.1.0, k)
all_right-test p x y ys placed false h k = h

all_right-put : (p : Image) (x : Said) (ys : List Said) → AllRight p (x ∷ ys) → AllRight p (put_in_order x ys)
all_right-put p x [] h = h
all_right-put p x (y ∷ ys) h = all_right-test p x y ys (put_in_order x ys) (is_part_before y.part x.part) h (all_right-put p x ys (h.0, h.1.1))

all_right-in_order : (p : Image) (xs : List Said) → AllRight p xs → AllRight p (in_order xs)
all_right-in_order p [] h = h
all_right-in_order p (x ∷ xs) h = all_right-put p x (in_order xs) (h.0, all_right-in_order p xs h.1)

apart-right : (p : Image) (x : Line) → is_apart x ≡ false → right_line p x ≡ true
unfolding right_event
apart-right p (line.Ready name level end deadline) e = absurd cc
apart-right p _ e = refl

some-right : (p : Image) (name : Who) (b : Bool) (deadline : ℤ) → (b ≡ true → may_have p name ≡ true) → told_rightly p name (then_some b deadline) ≡ true
unfolding told_rightly
some-right p name true deadline h = h refl
some-right p name false deadline h = refl

may_have-at : (p : Image) (w : World) (name : Who) → edf_is_below_interrupts p ≡ true → w.agent.base ≡ interrupt_priority p
    → is_edf_level p (active p (task_of w name)) ≡ true → may_have p name ≡ true
unfolding may_have
may_have-at p w (who.Task t) low agent e = has_range (active p (task_of w (who.Task t))) p.policies.dispatching e
may_have-at p w who.Agent low agent e =
    let off : is_edf_level p (active p w.agent) ≡ false = agent_has_no_deadline p w.agent low agent in
    absurd (let never : false ≡ true = sym off ∙ e in cc)

ready-right : (p : Image) (w : World) (name : Who) → edf_is_below_interrupts p ≡ true → w.agent.base ≡ interrupt_priority p
    → told_rightly p name (deadline_shown p (task_of w name)) ≡ true
ready-right p w name low agent = some-right p name (is_edf_level p (active p (task_of w name))) (task_of w name).deadline (may_have-at p w name low agent)

-- ---- steps

Rightly : Image → State
Rightly p w said = AgentKeeps p w × AllRight p said

module _ (p : Image) (low : edf_is_below_interrupts p ≡ true) where
  rightly_quiet : Silences (Rightly p)
  unfolding Rightly KeepsAgent
  rightly_quiet = record {
    silently = λ a b said s h. ((agent_quiet p).silently a b said s h.0, h.1);
    says = λ part line w said other h. (h.0, all_right-append p said (said_so part line) h.1 (apart-right p line other));
    ends_scope = λ id w said h. h;
  }

  rightly_alters : (f : World → World) → Alters (KeepsAgent p) f → Alters (Rightly p) f
  unfolding Rightly KeepsAgent
  rightly_alters f a = record { turns = λ w said h. (a.turns w said h.0, h.1) }

  rightly_says : (part : Part) (line : Line) → right_line p line ≡ true → Keeps (Rightly p) (says part line)
  unfolding Rightly Ends
  rightly_says part line e = record { runs = λ w said h. (h.0, all_right-append p said (said_so part line) h.1 e) }

  rightly_ready : (part : Part) (name : Who) (end : QueueEnd) → Keeps (Rightly p) (says_ready p part name end)
  unfolding Rightly Ends says_ready right_event
  rightly_ready part name end = record {
    runs = λ w said h. (
      h.0,
      all_right-append p said (said_so part (line.Ready name (active p (task_of w name)) end (deadline_shown p (task_of w name)))) h.1
          (ready-right p w name low h.0.0),
    );
  }

  rightly_base : FreeBase p EveryPart (Rightly p)
  unfolding right_event
  rightly_base = record {
    quiet = rightly_quiet;
    edits = λ name f same_who same_base same_deferred. rightly_alters (edit_task name f) ((agent_base p).edits name f same_who same_base same_deferred);
    readies = λ part name end fits. rightly_ready part name end;
    blocks = λ name waits. rightly_says TheBlock (line.Block name waits) refl;
    ends = λ part t fits. rightly_says part (line.Done t) refl;
    exits = λ name o. rightly_says Own (line.Exit name o) refl;
    appoints = λ t moment. rightly_alters (appoint (due_for.Delay t) moment) ((agent_base p).appoints t moment);
    forgets = λ name. rightly_alters (forget_task name) ((agent_base p).forgets name);
  }

  rightly_created : (name : Who) (s : StatementNo) (d : DeclNo) (id : Option ScopeId) (t : Task) → Keeps (Rightly p) (create_task p name s d id t)
  unfolding create_task says_created right_event
  rightly_created name s d id t =
      then-keeps _ _ (goes-keeps (fine rightly_quiet) name (next_of p s))
      (then-keeps _ _ (changes-keeps _ (rightly_alters (add_task t) (plainly_alters p (add_task t) (λ w. refl))))
      (then-keeps _ _
      (for_some-keeps id _
      (λ within. looks-keeps _
      (λ w. changes-keeps _
      (same-alters rightly_quiet _
      (λ u. fine_same u _ (set_thing-same p (record { within = within; declared = d }) (value_of.Task (Some (record { 0 = w.drawn.tasks - 1 }))) u))))))
      (looks-keeps _ (λ w. rightly_says Own _ refl))))

  rightly_made : (l : Located) (u : ProtectedUnitNo) → Keeps (Rightly p) (changes (with_object p l u) ▷ says_object p l u)
  unfolding says_object right_event
  rightly_made l u =
      then-keeps _ _ (changes-keeps _ (rightly_alters (with_object p l u) (plainly_alters p (with_object p l u) (λ w. refl))))
      (looks-keeps _
      (λ w. rightly_says Own (line.New (created.Object (record { 0 = w.drawn.objects })) (Some l.declared) (protected_unit_of p u).ceiling) refl))

  rightly_bases : (part : Part) (t : TaskNo) (level : ℕ)
      → Keeps (Rightly p) (changes (edit_task (who.Task t) (λ u. record u { base = level })) ▷ says part (line.Base t level))
  unfolding right_event
  rightly_bases part t level =
      then-keeps _ _
      (changes-keeps _ (rightly_alters (edit_task (who.Task t) (λ u. record u { base = level })) (task_alters p t (λ u. record u { base = level }))))
      (rightly_says part (line.Base t level) refl)

  rightly_takes : (v : World) (level : ℕ) (step : Step) → v.agent.deferred_base ≡ Some level → Leads (At (Rightly p) v) (Rightly p) step
  unfolding Rightly
  rightly_takes v level step is = record {
    runs = λ w said h. absurd (let never : None ≡ Some level = sym h.0.0.1 ∙ ap (λ u. u.agent.deferred_base) h.1 ∙ is in cc);
  }

  rightly_free : (actor : Who) → FreeMoves p actor anywhere (Rightly p) (Rightly p) (Rightly p)
  unfolding right_event
  rightly_free actor = record {
    fresh = rightly_quiet;
    appoints_first = λ t moment. rightly_alters (appoint (due_for.Delay t) moment) ((agent_base p).appoints t moment);
    later = rightly_base;
    entered = late_base rightly_base;
    starts = λ w said h. h;
    may = λ w o mode e. tt;
    may_held = λ w o mode e. tt;
    may_on = λ a b o same m. tt;
    enters = λ o mode. from-leads (says Own (line.Enter actor o mode)) (λ w said h. h.0) (rightly_says Own (line.Enter actor o mode) refl);
    finds_held = λ o mode. from-leads _ (λ w said h. h.0) (later-leads (says Own (line.Held actor o mode)) (λ w said h. h) (rightly_says Own (line.Held actor o mode) refl));
    bases_first = λ t level. rightly_bases (part_of actor (who.Task t)) t level;
    bases = λ t level. rightly_bases ThePlacing t level;
    defers =
        λ t deferred.
        rightly_alters (edit_task (who.Task t) (λ u. record u { deferred_base = deferred })) (task_alters p t (λ u. record u { deferred_base = deferred }));
    takes = λ v level is. rightly_takes v level _ is;
    creates = λ s d id t. from-leads (create_task p actor s d id t) (λ w said h. h.0) (rightly_created actor s d id t);
    makes = rightly_made;
  }

  -- ---- instants and runs

  HoldsAgent : Unit {0} → World → Type 0
  HoldsAgent s w = AgentKeeps p w

  abbrev right_at : Unit {0} → Event → Bool
  right_at s event = right_event p event

  rightly-follow : (xs : List Said) → AllRight p xs → Follow see_nothing right_at tt (map (λ x. event_of p x.line) xs)
  rightly-follow [] h = tt
  rightly-follow (x ∷ xs) h = (h.0, rightly-follow xs h.1)

  rightly_settles : Settles see_nothing right_at HoldsAgent p tt (Rightly p)
  unfolding Rightly HoldsAgent
  rightly_settles v xs h = record { follow = rightly-follow (in_order xs) (all_right-in_order p xs h.1); shows = h.0 }

  any_settles : (s : Unit {0}) → Settles see_nothing right_at HoldsAgent p s (Rightly p)
  any_settles tt = rightly_settles

  rightly_instants : Instants see_nothing right_at HoldsAgent p
  unfolding Rightly HoldsAgent
  rightly_instants = free_instants see_nothing right_at HoldsAgent (λ s. Rightly p) (λ s actor. rightly_free actor) (λ s w h. (h, tt)) any_settles

  follow-are : (s : Unit {0}) (xs : List Event) → Follow see_nothing right_at s xs → AllAre (right_event p) xs
  follow-are s [] h = tt
  follow-are s (x ∷ xs) h = (h.0, follow-are tt xs h.1)

  rightly_opens : Keeps (Rightly p) (opens p)
  unfolding opens right_event
  rightly_opens =
      then-keeps _ _ (changes-keeps _ (open_scope-alters (fine rightly_quiet) p environment p.environment (plainly None) opened_for.Task))
      (then-keeps _ _ (rightly_says Own (line.New (created.Task (record { 0 = 0 })) None p.main.priority) refl)
      (then-keeps _ _ (to_tail-free rightly_base Own environment tt) (open_sequence-keeps (fine rightly_quiet) p Own environment)))

  opening-rightly : (script : List (ℤ × Item)) → AllAre (right_event p) (opening p script).1 × AgentKeeps p (opening p script).0
  unfolding Rightly HoldsAgent
  opening-rightly script =
      let behind_it =
      settles_onward see_nothing right_at HoldsAgent p tt (Rightly p) (Rightly p) (opens p) (blank_world p script) rightly_settles rightly_opens
      ((refl, refl), tt) in
      (follow-are tt (opening p script).1 behind_it.follow, behind_it.shows)

  instant-rightly : (w : World) → AgentKeeps p w → AllAre (right_event p) (instant p w).1 × AgentKeeps p (instant p w).0
  unfolding HoldsAgent
  instant-rightly w h =
      let behind_it = instant_onward see_nothing right_at HoldsAgent rightly_instants tt w h in
      (follow-are tt (instant p w).1 behind_it.follow, behind_it.shows)

tock_line-right : (p : Image) (event : Event) → is_of_tock event ≡ true → right_event p event ≡ true
unfolding right_event
tock_line-right p (written.Ready name level end deadline) e = absurd cc
tock_line-right p _ e = refl

tock_lines-right : (p : Image) (lines : List Event) → AllAre is_of_tock lines → AllAre (right_event p) lines
tock_lines-right p [] a = tt
tock_lines-right p (x ∷ xs) a = (tock_line-right p x a.0, tock_lines-right p xs a.1)

told-rightly : (p : Image) (script : List (ℤ × Item)) (bound : ℕ) (lines : List Event) (w : World) → edf_is_below_interrupts p ≡ true
    → Tells p script bound lines w → AllAre (right_event p) lines × AgentKeeps p w
told-rightly p script bound _ _ low told_first = opening-rightly p low script
told-rightly p script bound _ _ low (told_on lines w told going) =
    let before = told-rightly p script bound lines w low told in
    let next = instant-rightly p low w before.1 in
    let same = (tock-same p (instant p w).0).agent in (
      AllAre-append (right_event p) (lines ++ (instant p w).1) (tock p (instant p w).0).1 (AllAre-append (right_event p) lines (instant p w).1 before.0 next.0)
          (tock_lines-right p (tock p (instant p w).0).1 (tocks_say_ticks p (instant p w).0)),
      (ap (λ c. c.base) same ∙ next.1.0, ap (λ c. c.deferred_base) same ∙ next.1.1),
    )

-- ---- what the lines show of deadlines

abbrev AllEntries : Image → List Entry → Type 0
AllEntries p [] = Unit {0}
AllEntries p (x ∷ xs) = (told_rightly p x.who x.deadline ≡ true) × AllEntries p xs

entries-if : (p : Image) (b : Bool) (x : Entry) (rest : List Entry) → told_rightly p x.who x.deadline ≡ true → AllEntries p rest
    → AllEntries p (if b then rest else x ∷ rest)
entries-if p true x rest e h = h
entries-if p false x rest e h = (e, h)

entries-without : (p : Image) (name : Who) (xs : List Entry) → AllEntries p xs → AllEntries p (without name xs)
entries-without p name [] h = tt
entries-without p name (x ∷ xs) h = entries-if p (who_eq name x.who) x (without name xs) h.0 (entries-without p name xs h.1)

entries-append : (p : Image) (xs : List Entry) (x : Entry) → AllEntries p xs → told_rightly p x.who x.deadline ≡ true → AllEntries p (xs ++ x ∷ [])
entries-append p [] x h e = (e, tt)
entries-append p (y ∷ ys) x h e = (h.0, entries-append p ys x h.1 e)

entries-placed : (p : Image) (end : QueueEnd) (x : Entry) (xs : List Entry) → AllEntries p xs → told_rightly p x.who x.deadline ≡ true
    → AllEntries p (placed end x xs)
entries-placed p Head x xs h e = (e, entries-without p x.who xs h)
entries-placed p Tail x xs h e = entries-append p (without x.who xs) x (entries-without p x.who xs h) e

entries-after : (p : Image) (xs : List Entry) (event : Event) → AllEntries p xs → right_event p event ≡ true → AllEntries p (queue_after xs event)
unfolding right_event
entries-after p xs (written.Ready name level end deadline) h e = entries-placed p end (record { who = name; level = level; deadline = deadline }) xs h e
entries-after p xs (written.Block name why) h e = entries-without p name xs h
entries-after p xs (written.Done t) h e = entries-without p (who.Task t) xs h
entries-after p xs _ h e = h

entries-told : (p : Image) (sight : Levels) (lines : List Event) → AllEntries p sight.entries → AllAre (right_event p) lines
    → AllEntries p (levels_told sight lines).entries
entries-told p sight [] h a = h
entries-told p sight (x ∷ xs) h a = entries-told p (see_levels sight x) xs (entries-after p sight.entries x h a.0) a.1

entry-if : (p : Image) (name : Who) (b : Bool) (x entry : Entry) (rest : Option Entry) → who_eq name x.who ≡ b → told_rightly p x.who x.deadline ≡ true
    → (rest ≡ Some entry → told_rightly p name entry.deadline ≡ true) → (if b then Some x else rest) ≡ Some entry → told_rightly p name entry.deadline ≡ true
entry-if p name true x entry rest is e onward found =
    let one : x ≡ entry = cc in
    subst (λ (y : Entry). told_rightly p name y.deadline ≡ true) one (subst (λ n. told_rightly p n x.deadline ≡ true) (sym (whose-name name x.who is)) e)
entry-if p name false x entry rest is e onward found = onward found

entry-right : (p : Image) (name : Who) (xs : List Entry) (entry : Entry) → AllEntries p xs → entry_of name xs ≡ Some entry
    → told_rightly p name entry.deadline ≡ true
entry-right p name [] entry h e = absurd cc
entry-right p name (x ∷ xs) entry h e = entry-if p name (who_eq name x.who) x entry (entry_of name xs) refl h.0 (λ k. entry-right p name xs entry h.1 k) e

bases-levels : (sight : Levels) (lines : List Event) → (levels_told sight lines).bases ≡ bases_told sight.bases lines
bases-levels sight [] = refl
bases-levels sight (x ∷ xs) = bases-levels (see_levels sight x) xs

rightly-with : (p : Image) (name : Who) (deadline : Option ℤ) (d : ℤ) → deadline ≡ Some d → told_rightly p name deadline ≡ true → may_have p name ≡ true
unfolding told_rightly
rightly-with p name None d is e = absurd cc
rightly-with p name (Some other) d is e = e

base-told : (p : Image) (w : World) (name : Who) (bases : List (ℕ × ℕ)) → AreBasesShown bases w → may_have p name ≡ true
    → (has_edf p ≡ true) × ((x : Task) → task_at w name ≡ Some x → base_of name bases ≡ Some x.base)
unfolding may_have
base-told p w (who.Task t) bases shown e = (e, λ x found. shown t x found)
base-told p w who.Agent bases shown e = absurd cc

pub deadlines_are_of_tasks : DeadlinesAreOfTasks
deadlines_are_of_tasks p script bound lines w low told name entry deadline found is =
    let right = told-rightly p script bound lines w low told in
    let entries = entries-told p no_levels lines tt right.0 in
    let may = rightly-with p name entry.deadline deadline is (entry-right p name (levels_told no_levels lines).entries entry entries found) in
    base-told p w name (levels_told no_levels lines).bases
    (subst (λ b. AreBasesShown b w) (sym (bases-levels no_levels lines)) (bases_are_told p script bound lines w told).0) may
