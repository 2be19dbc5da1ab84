-- A law of the lines by which somebody comes to an object, in effects, in instants and in runs: one record of what is known of who acts.
use Rattle.ceiling_laws.proofs.Runs.EnterLemmas.{IsQuiet}
use Rattle.ann_base.specs.declared.identities.ObjectNo.{ObjectNo}
use Rattle.ann_base.specs.declared.identities.TaskNo.{TaskNo}
use Rattle.ceiling_laws.proofs.Fine.Kept.Frames.{goes-keeps, open_sequence-keeps}
use Rattle.ceiling_laws.proofs.Fine.Kept.Scopes.{open_scope-alters}
use Rattle.ceiling_laws.proofs.Runs.ActingMoves.{Admitting, Either}
use Rattle.ceiling_laws.proofs.Runs.BegunLines.{Each, each-append, each-in_order}
use Rattle.blocking_laws.proofs.EnterLemmas.{IsLate, IsNoCome, all_quiet-none_comes, is_coming, quiet-is_coming, quiet-late}
use Rattle.ceiling_laws.proofs.Runs.Finer.{fine}
use Rattle.ceiling_laws.proofs.Runs.FreeMoves.{EveryPart, FreeBase, FreeMoves, LatePart, any_task, any_world}
use Rattle.ceiling_laws.proofs.Runs.FreeMoves.{free_others, freely, ready_by_line, replace_in-free, to_tail-free}
use Rattle.ceiling_laws.proofs.Runs.Kept.Act.{effect-leads}
use Rattle.ceiling_laws.proofs.Runs.LevelMoves.{Silences, said_so}
use Rattle.ceiling_laws.proofs.Runs.RunLemmas.{Others, behind_onward, settles_onward}
use Rattle.ceiling_laws.proofs.Runs.Triples.{Alters, Ends, Keeps, Leads, State, With, changes-keeps, for_some-keeps}
use Rattle.ceiling_laws.proofs.Runs.Triples.{from-leads, from_at, looks-keeps, nothing-keeps, then-keeps, to-leads}
use Rattle.ceiling_laws.specs.Cores.{Same}
use Rattle.ceiling_laws.specs.RunLaws.{Tells}
use Rattle.line_laws.proofs.Ticks.LineByLine.{Follow, Follow-all, Follow-append, seen_behind}
use Rattle.machine_laws.proofs.LineLemmas.{tocks_say_ticks}
use Rattle.machine_laws.specs.LineKinds.{is_of_tock}
use Rattle.profile_machine.specs.Appointments.{appoint}
use Rattle.profile_machine.specs.Declarations.{says_object, set_thing, with_object}
use Rattle.profile_machine.specs.Instant.{budgets_due, effect, effect_of_runner, events_due, finish_action}
use Rattle.profile_machine.specs.Instant.{instant, is_over, moments_due, quantum_spent, script_items, timers_due}
use Rattle.profile_machine.specs.Masters.{part_of}
use Rattle.profile_machine.specs.Priorities.{says_base, set_base}
use Rattle.profile_machine.specs.Protected.{entering}
use Rattle.profile_machine.specs.Run.{blank_world, environment, opening, opens, run_of, tock}
use Rattle.profile_machine.specs.Scopes.{end_scope, plainly}
use Rattle.profile_machine.specs.Steps.{Done, Move, changes, done, in_order, rests, says, settled, settles, ◌▷◌, ◌▶◌}
use Rattle.profile_machine.specs.Tasking.{add_task, create_task, says_created}
use Rattle.profile_machine.specs.Tasks.{edit_task, task_of}
use Rattle.profile_image.specs.Program.{next_of, protected_unit_of}
use Rattle.profile_image.specs.declared.image.Image.{Image}
use Rattle.profile_image.specs.declared.numbers.DeclNo.{DeclNo}
use Rattle.profile_image.specs.declared.numbers.ProtectedUnitNo.{ProtectedUnitNo}
use Rattle.profile_image.specs.declared.numbers.StatementNo.{StatementNo}
use Rattle.profile_image.specs.declared.script_items.Item.{Item}
use Rattle.profile_image.specs.declared.values.Value.TheVariants as value_of
use Rattle.profile_machine.specs.declared.world.World.{World}
use Rattle.profile_machine.specs.declared.world.appointments.Due.TheVariants as due_for
use Rattle.profile_machine.specs.declared.world.lines.Line.{Line}
use Rattle.profile_machine.specs.declared.world.lines.Line.TheVariants as line
use Rattle.profile_machine.specs.declared.world.lines.Part.{Part}
use Rattle.profile_machine.specs.declared.world.lines.Part.TheVariants.{Own, TheBlock, ThePlacing}
use Rattle.profile_machine.specs.declared.world.lines.Said.{Said}
use Rattle.profile_machine.specs.declared.world.marks.Purpose.TheVariants as opened_for
use Rattle.profile_machine.specs.declared.world.objects.Entering.TheVariants as entering_is
use Rattle.profile_machine.specs.declared.world.scopes.Located.{Located}
use Rattle.profile_machine.specs.declared.world.scopes.ScopeId.{ScopeId}
use Rattle.profile_machine.specs.declared.world.tasks.Task.{Task}
use Rattle.std.proofs.Common.{inl, inr, refl, ◌≡◌}
use Rattle.std.specs.Prelude.{Bool, List, None, Option, Some, [], false, true, ℕ, ℤ, ◌-◌}
use Rattle.trace_text.specs.Queue.{follows_lines}
use Rattle.trace_text.specs.declared.events.Created.TheVariants as created
use Rattle.trace_text.specs.declared.events.Ended.{Ended}
use Rattle.trace_text.specs.declared.events.Event.{Event}
use Rattle.trace_text.specs.declared.events.Event.TheVariants as written
use Rattle.trace_text.specs.declared.events.Mode.{Mode}
use Rattle.trace_text.specs.declared.events.Who.{Who}
use Rattle.trace_text.specs.declared.events.Who.TheVariants as who
use Rattle.blocking_laws.proofs.EnterLaws.{Entered, OfEnters, entered-append, entered-begins, entered-in_order, entered-lawful, none_come-lawful}
use Rattle.blocking_laws.proofs.ToldLines.{ToldRuns, run-follows}

-- ---- no action begins

None_come : State
None_come w said = Each IsNoCome said

none_quiet : Silences None_come
unfolding None_come
none_quiet = record {
  silently = λ a b said same h. h;
  says = λ part line w said other h. each-append IsNoCome said (said_so part line) h (quiet-is_coming line other);
  ends_scope = λ id w said h. h;
}

none_alters : (f : World → World) → Alters None_come f
unfolding None_come
none_alters f = record { turns = λ w said h. h }

none_says : (part : Part) (line : Line) → is_coming line ≡ false → Keeps None_come (says part line)
unfolding None_come Ends
none_says part line other = record { runs = λ w said h. each-append IsNoCome said (said_so part line) h other }

none_base : (p : Image) → FreeBase p EveryPart None_come
none_base p = record {
  quiet = none_quiet;
  edits = λ name f same_who same_base same_deferred. none_alters (edit_task name f);
  readies = λ part name end fits. ready_by_line p part name end (λ level deadline. none_says part (line.Ready name level end deadline) refl);
  blocks = λ name waits. none_says TheBlock (line.Block name waits) refl;
  ends = λ part t fits. none_says part (line.Done t) refl;
  exits = λ name o. none_says Own (line.Exit name o) refl;
  appoints = λ t moment. none_alters _;
  forgets = λ name. none_alters _;
}

none_created : (p : Image) (name : Who) (s : StatementNo) (d : DeclNo) (id : Option ScopeId) (t : Task) → Keeps None_come (create_task p name s d id t)
unfolding create_task says_created
none_created p name s d id t =
    then-keeps _ _ (goes-keeps (fine none_quiet) name (next_of p s)) (then-keeps _ _ (changes-keeps _ (none_alters (add_task t)))
    (then-keeps _ _
    (for_some-keeps id _
    (λ within. looks-keeps _
    (λ w.
    changes-keeps _ (none_alters (set_thing p (record { within = within; declared = d }) (value_of.Task (Some (record { 0 = w.drawn.tasks - 1 }))))))))
    (looks-keeps _ (λ w. none_says Own (line.New (created.Task (record { 0 = w.drawn.tasks - 1 })) (Some d) t.base) refl))))

none_made : (p : Image) (l : Located) (u : ProtectedUnitNo) → Keeps None_come (changes (with_object p l u) ▷ says_object p l u)
unfolding says_object
none_made p l u =
    then-keeps _ _ (changes-keeps _ (none_alters (with_object p l u)))
    (looks-keeps _ (λ w. none_says Own (line.New (created.Object (record { 0 = w.drawn.objects })) (Some l.declared) (protected_unit_of p u).ceiling) refl))

none_takes : (p : Image) (level : ℕ)
    → Keeps None_come (changes (edit_task who.Agent (λ u. record u { deferred_base = None })) ▷ set_base p ThePlacing ThePlacing who.Agent level)
unfolding set_base says_base
none_takes p level =
    then-keeps _ _ (changes-keeps _ (none_alters (edit_task who.Agent (λ u. record u { deferred_base = None }))))
    (then-keeps _ _ (changes-keeps _ (none_alters (edit_task who.Agent (λ u. record u { base = level }))))
    (then-keeps _ _ nothing-keeps (looks-keeps _ (λ w. replace_in-free (none_base p) ThePlacing who.Agent (task_of w who.Agent).state tt))))

none_bases : (part : Part) (t : TaskNo) (level : ℕ)
    → Keeps None_come (changes (edit_task (who.Task t) (λ u. record u { base = level })) ▷ says part (line.Base t level))
none_bases part t level =
    then-keeps _ _ (changes-keeps _ (none_alters (edit_task (who.Task t) (λ u. record u { base = level })))) (none_says part (line.Base t level) refl)

none_opens : (p : Image) → Keeps None_come (opens p)
unfolding opens
none_opens p =
    then-keeps _ _ (changes-keeps _ (open_scope-alters (fine none_quiet) p environment p.environment (plainly None) opened_for.Task))
    (then-keeps _ _ (none_says Own (line.New (created.Task (record { 0 = 0 })) None p.main.priority) refl)
    (then-keeps _ _ (to_tail-free (none_base p) Own environment tt) (open_sequence-keeps (fine none_quiet) p Own environment)))

-- ---- one begins

module _ {S : Type 0} (see : S → Event → S) (lawful : S → Event → Bool) where
  OneEnters : S → State
  OneEnters s w said = Entered see lawful s said

  one_says : (s : S) (part : Part) (line : Line) → IsLate (said_so part line) → Keeps (OneEnters s) (says part line)
  unfolding OneEnters Ends
  one_says s part line late = record { runs = λ w said h. entered-append see lawful s said (said_so part line) h late }

  one_alters : (s : S) (f : World → World) → Alters (OneEnters s) f
  unfolding OneEnters
  one_alters s f = record { turns = λ w said h. h }

  one_base : (p : Image) (s : S) → FreeBase p LatePart (OneEnters s)
  unfolding OneEnters
  one_base p s = record {
    quiet = record {
      silently = λ a b said same h. h;
      says = λ part line w said other h. entered-append see lawful s said (said_so part line) h (quiet-late (said_so part line) other);
      ends_scope = λ id w said h. h;
    };
    edits = λ name f same_who same_base same_deferred. one_alters s (edit_task name f);
    readies = λ part name end late. ready_by_line p part name end (λ level deadline. one_says s part (line.Ready name level end deadline) (refl, inr late));
    blocks = λ name waits. one_says s TheBlock (line.Block name waits) (refl, inr refl);
    ends = λ part t late. one_says s part (line.Done t) (refl, inr late);
    exits = λ name o. one_says s Own (line.Exit name o) (refl, inr refl);
    appoints = λ t moment. one_alters s _;
    forgets = λ name. one_alters s _;
  }

  -- what is known of who acts (`Knows`), and where it may enter an object: its line is right
  pub record OfActor (p : Image) (name : Who) (s : S) (May : Admitting) (Knows : World → Type 0) : Type 0 where
    pub silently : (a b : World) → Same a b → Knows a → Knows b
    pub ends_scope : (id : ScopeId) (w : World) → Knows w → Knows (end_scope id w)
    pub appoints : (t : TaskNo) (moment : ℤ) (w : World) → Knows w → Knows (appoint (due_for.Delay t) moment w)
    pub may : (w : World) (o : ObjectNo) (mode : Mode) → entering p w name o mode ≡ entering_is.Inside → May w o
    pub may_held : (w : World) (o : ObjectNo) (mode : Mode) → entering p w name o mode ≡ entering_is.Held → May w o
    pub may_on : (a b : World) (o : ObjectNo) → Same a b → May a o → May b o
    pub right : (w : World) (o : ObjectNo) (mode : Mode) → Knows w → May w o → lawful s (written.Enter name o mode) ≡ true
    pub right_held : (w : World) (o : ObjectNo) (mode : Mode) → Knows w → May w o → lawful s (written.Held name o mode) ≡ true

  -- ---- the effect

  AtFirst : (World → Type 0) → State
  AtFirst Knows w said = Knows w × Each IsQuiet said

  module _ {p : Image} (law : OfEnters see lawful p) where
    first_none : (Knows : World → Type 0) (w : World) (said : List Said) → AtFirst Knows w said → None_come w said
    unfolding AtFirst None_come
    first_none Knows w said h = all_quiet-none_comes said h.1

    enters_one : (name : Who) (s : S) (May : Admitting) (Knows : World → Type 0) (o : ObjectNo) (mode : Mode) → OfActor p name s May Knows
        → Leads (With (AtFirst Knows) (λ w. May w o)) (OneEnters s) (says Own (line.Enter name o mode))
    unfolding AtFirst OneEnters Ends
    enters_one name s May Knows o mode actor = record {
      runs =
          λ w said h. entered-begins see lawful s said (said_so Own (line.Enter name o mode)) h.0.1
          (record { came = line.Enter name o mode; said = refl; right = λ q. actor.right w o mode h.0.0 h.1 });
    }

    one_held : (name : Who) (s : S) (May : Admitting) (Knows : World → Type 0) (o : ObjectNo) (mode : Mode) → OfActor p name s May Knows
        → Leads (With (AtFirst Knows) (λ w. May w o)) (OneEnters s) (says Own (line.Held name o mode))
    unfolding AtFirst OneEnters Ends
    one_held name s May Knows o mode actor = record {
      runs =
          λ w said h. entered-begins see lawful s said (said_so Own (line.Held name o mode)) h.0.1
          (record { came = line.Held name o mode; said = refl; right = λ q. actor.right_held w o mode h.0.0 h.1 });
    }

    enter_free : (name : Who) (s : S) (May : Admitting) (Knows : World → Type 0) → OfActor p name s May Knows
        → FreeMoves p name May (AtFirst Knows) None_come (OneEnters s)
    unfolding AtFirst
    enter_free name s May Knows actor = record {
      fresh = record {
        silently = λ a b said same h. (actor.silently a b same h.0, h.1);
        says = λ part line w said other h. (h.0, each-append IsQuiet said (said_so part line) h.1 other);
        ends_scope = λ id w said h. (actor.ends_scope id w h.0, h.1);
      };
      appoints_first = λ t moment. record { turns = λ w said h. (actor.appoints t moment w h.0, h.1) };
      later = none_base p;
      entered = one_base p s;
      starts = first_none Knows;
      may = actor.may;
      may_held = actor.may_held;
      may_on = actor.may_on;
      enters = λ o mode. enters_one name s May Knows o mode actor;
      finds_held = λ o mode. to-leads (says Own (line.Held name o mode)) (one_held name s May Knows o mode actor) (λ w said h. inr h);
      bases_first = λ t level. from-leads _ (first_none Knows) (none_bases (part_of name (who.Task t)) t level);
      bases = λ t level. none_bases ThePlacing t level;
      defers = λ t deferred. none_alters _;
      takes = λ w level is. from_at _ (none_takes p level);
      creates = λ s d id t. from-leads (create_task p name s d id t) (λ w said h. first_none Knows w said h.0) (none_created p name s d id t);
      makes = none_made p;
    }

    abbrev Lawful : S → List Event → Type 0
    Lawful = Follow see lawful

    either-lawful : (s : S) (d : Done) → Ends (Either None_come (OneEnters s)) d → Lawful s (settled p d).1
    unfolding Ends None_come OneEnters
    either-lawful s (done w xs) (inl h) = none_come-lawful see lawful law s (in_order xs) (each-in_order IsNoCome xs h)
    either-lawful s (done w xs) (inr h) = entered-lawful see lawful law s (in_order xs) (entered-in_order see lawful s xs h)

    pub effect-lawful : (w : World) (name : Who) (s : S) (May : Admitting) (Knows : World → Type 0) → OfActor p name s May Knows → Knows w
        → Lawful s (settles p (effect p name) w).1
    unfolding AtFirst
    effect-lawful w name s May Knows actor known =
        either-lawful s (effect p name w []) ((effect-leads (freely (enter_free name s May Knows actor))).runs w [] (known, tt))

    effect_if-lawful : (w : World) (name : Who) (s : S) (b : Bool) → (b ≡ true → Lawful s (settles p (effect p name) w).1)
        → Lawful s ((elim b as (λ _. Move) [ true ↦ settles p (effect p name) | false ↦ rests ]) w).1
    effect_if-lawful w name s true h = h refl
    effect_if-lawful w name s false h = tt

    finish-lawful : (w : World) (s : S) (ran : Option Who) → w.ran ≡ ran
        → ((name : Who) → w.ran ≡ Some name → is_over (task_of w name).ticks_left ≡ true → Lawful s (settles p (effect p name) w).1)
        → Lawful s (effect_of_runner p ran w).1
    finish-lawful w s None is acts = tt
    finish-lawful w s (Some name) is acts = effect_if-lawful w name s (is_over (task_of w name).ticks_left) (λ over. acts name is over)

    -- ---- an instant, and what comes about beside an effect

    AnyWorld : S → World → Type 0
    AnyWorld s w = Unit {0}

    beside : Others see lawful AnyWorld p
    unfolding AnyWorld None_come
    beside s = (
      None_come,
      any_world,
      any_task,
      free_others (none_base p),
      (λ w h. tt),
      (λ v xs h. record { follow = none_come-lawful see lawful law s (in_order xs) (each-in_order IsNoCome xs h); shows = tt }),
    )

    pub instant-lawful : (w : World) (s : S)
        → ((name : Who) → w.ran ≡ Some name → is_over (task_of w name).ticks_left ≡ true → Lawful s (settles p (effect p name) w).1) → Lawful s (instant p w).1
    unfolding AnyWorld
    instant-lawful w s acts =
        let done_first = finish_action p w in
        let later = (script_items p ▶ events_due p ▶ moments_due p ▶ timers_due p ▶ budgets_due p ▶ quantum_spent p) done_first.0 in
        Follow-append see lawful s done_first.1 later.1 (finish-lawful w s w.ran refl acts)
        (behind_onward see lawful AnyWorld beside (seen_behind see lawful s done_first.1) done_first.0 tt).follow

    pub opening-lawful : (s : S) (script : List (ℤ × Item)) → Lawful s (opening p script).1
    unfolding AnyWorld None_come
    opening-lawful s script =
        (settles_onward see lawful AnyWorld p s None_come None_come (opens p) (blank_world p script)
        (λ v xs h. record { follow = none_come-lawful see lawful law s (in_order xs) (each-in_order IsNoCome xs h); shows = tt }) (none_opens p) tt).follow

  -- ---- runs

  -- who acts keeps the law by what lines have told; lines of tocks and of the end say nothing of it
  pub record OfRun (p : Image) (script : List (ℤ × Item)) (bound : ℕ) (s : S) : Type 0 where
    pub law : OfEnters see lawful p
    pub acts : (lines : List Event) (w : World) → Tells p script bound lines w → (name : Who) → w.ran ≡ Some name → is_over (task_of w name).ticks_left ≡ true
        → Follow see lawful (seen_behind see lawful s lines) (settles p (effect p name) w).1
    pub tocks : (seen : S) (event : Event) → is_of_tock event ≡ true → lawful seen event ≡ true
    pub ends : (seen : S) (reason : Ended) → lawful seen (written.End reason) ≡ true

  told_runs : {p : Image} {script : List (ℤ × Item)} {bound : ℕ} {s : S} → OfRun p script bound s → ToldRuns see lawful p script bound s
  told_runs {p} {script} {bound} {s} run = record {
    opens = opening-lawful run.law s script;
    instants = λ lines w told. instant-lawful run.law w (seen_behind see lawful s lines) (run.acts lines w told);
    tocks = λ seen w. Follow-all see lawful is_of_tock run.tocks seen (tock p w).1 (tocks_say_ticks p w);
    ends = run.ends;
  }

  pub run_enters : {p : Image} {script : List (ℤ × Item)} {bound : ℕ} {s : S} → OfRun p script bound s
      → follows_lines see lawful s (run_of p script bound) ≡ true
  run_enters run = run-follows see lawful (told_runs run)
