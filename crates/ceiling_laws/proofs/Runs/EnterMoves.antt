-- Of an effect: at first nothing is said of levels; later no action begins, or one has begun rightly.
use Rattle.ann_base.specs.declared.identities.ObjectNo.{ObjectNo}
use Rattle.ann_base.specs.declared.identities.TaskNo.{TaskNo}
use Rattle.ceiling_laws.proofs.Runs.ActingMoves.{Admitting, Either, later-leads}
use Rattle.ceiling_laws.proofs.Runs.BegunLines.{Each, each-append, each-in_order}
use Rattle.ceiling_laws.proofs.Runs.EnterLemmas.{Entered, IsLate, IsNoEnter, IsQuiet, Lawful, all_quiet-no_enter, entered-append, entered-begins}
use Rattle.ceiling_laws.proofs.Runs.EnterLemmas.{entered-in_order, entered-lawful, is_enter, no_enters-lawful, quiet-late, quiet-no_enter}
use Rattle.ceiling_laws.proofs.Runs.CoreLemmas.{ceiling-found, ceiling_at, core-same, shown-at, shown-fewer, shown-same}
use Rattle.ceiling_laws.proofs.Runs.FreeMoves.{EveryPart, FreeBase, FreeMoves, LatePart, any_task, any_world}
use Rattle.ceiling_laws.proofs.Runs.FreeMoves.{free_others, freely, ready_by_line, replace_in-free, to_tail-free}
use Rattle.ceiling_laws.proofs.Runs.Kept.Act.{effect-leads}
use Rattle.ceiling_laws.proofs.Fine.Kept.Frames.{goes-keeps, open_sequence-keeps}
use Rattle.ceiling_laws.proofs.Runs.LevelMoves.{Silences, said_so}
use Rattle.ceiling_laws.proofs.Runs.RunLemmas.{Others, behind_onward, settles_onward}
use Rattle.ceiling_laws.proofs.Runs.Triples.{Alters, Ends, Keeps, Leads, State, With, changes-keeps, for_some-keeps}
use Rattle.ceiling_laws.proofs.Runs.Triples.{from-leads, from_at, looks-keeps, nothing-keeps, then-keeps}
use Rattle.ceiling_laws.proofs.Ceilings.CeilingLemmas.{is_not_above, not_above, not_less, second_false}
use Rattle.ceiling_laws.proofs.Places.EditLemmas.{active_core}
use Rattle.ceiling_laws.specs.Cores.{Core, Same, ceiling_in, core}
use Rattle.ceiling_laws.specs.RunLaws.{AreCeilingsShown, InstantsKeepCeilings, ShowsPlace, ShowsRunner, TocksKeepCeilings, keep_ceilings}
use Rattle.ceiling_laws.proofs.Runs.Finer.{fine}
use Rattle.machine_laws.proofs.LineLemmas.{tocks_say_ticks}
use Rattle.machine_laws.specs.LineKinds.{is_of_tock}
use Rattle.profile_machine.specs.Appointments.{appoint}
use Rattle.profile_machine.specs.Declarations.{says_object, set_thing, with_object}
use Rattle.profile_machine.specs.Dispatching.{active, active_of}
use Rattle.profile_machine.specs.Instant.{budgets_due, effect, effect_of_runner, events_due, finish_action}
use Rattle.profile_machine.specs.Instant.{instant, is_over, moments_due, quantum_spent, script_items, timers_due}
use Rattle.profile_machine.specs.Masters.{forget_task, part_of}
use Rattle.profile_machine.specs.Priorities.{says_base, set_base}
use Rattle.profile_image.specs.Program.{has_edf, next_of, protected_unit_of}
use Rattle.profile_machine.specs.Protected.{entering_option, excludes, has_open, is_above_ceiling, is_action_of}
use Rattle.profile_machine.specs.Run.{blank_world, environment, opening, opens, tock}
use Rattle.profile_machine.specs.Scopes.{goes_with, open_scope, plainly}
use Rattle.profile_machine.specs.Steps.{Done, Move, changes, done, in_order, rests, says, settled, settles, ◌▶◌, ◌▷◌}
use Rattle.profile_machine.specs.Tasking.{add_task, create_task, says_created}
use Rattle.profile_machine.specs.Tasks.{edit_task, found_task, nobody, task_of}
use Rattle.profile_machine.specs.Values.{object_of}
use Rattle.profile_image.specs.Words.{without}
use Rattle.profile_image.specs.declared.image.Image.{Image}
use Rattle.profile_image.specs.declared.numbers.DeclNo.{DeclNo}
use Rattle.profile_image.specs.declared.numbers.ProtectedUnitNo.{ProtectedUnitNo}
use Rattle.profile_image.specs.declared.numbers.StatementNo.{StatementNo}
use Rattle.profile_image.specs.declared.script_items.Item.{Item}
use Rattle.profile_image.specs.declared.values.Value.TheVariants as value_of
use Rattle.profile_machine.specs.declared.world.World.{World}
use Rattle.profile_machine.specs.declared.world.appointments.Due.TheVariants as due_for
use Rattle.profile_machine.specs.declared.world.lines.Line.{Line}
use Rattle.profile_machine.specs.declared.world.lines.Line.TheVariants as line
use Rattle.profile_machine.specs.declared.world.lines.Part.{Part}
use Rattle.profile_machine.specs.declared.world.lines.Part.TheVariants.{Own, TheBlock, ThePlacing}
use Rattle.profile_machine.specs.declared.world.lines.Said.{Said}
use Rattle.profile_machine.specs.declared.world.marks.Purpose.TheVariants as opened_for
use Rattle.profile_machine.specs.declared.world.objects.Object.{Object}
use Rattle.profile_machine.specs.declared.world.scopes.Located.{Located}
use Rattle.profile_machine.specs.declared.world.scopes.ScopeId.{ScopeId}
use Rattle.profile_machine.specs.declared.world.tasks.Task.{Task}
use Rattle.std.proofs.Common.{Bool, List, None, Option, Some, [], ap, false, inl, inr, le_trans}
use Rattle.std.proofs.Common.{ltb, map, nat_le, refl, subst, sym, true, ◌&&◌, ◌∙◌, ◌∷◌, ◌≡◌, ◌≤◌}
use Rattle.std.proofs.lemmas.Bool.{and_from, le-leb, or_parts}
use Rattle.std.specs.Prelude.{not, ℕ, ℤ, ◌-◌, unwrap_or}
use Rattle.line_laws.proofs.Ticks.LineByLine.{Follow-all, Follow-append, seen_behind}
use Rattle.trace_text.specs.Laws.{Levels, base_of, is_at_most, is_base_below, is_below_ceiling, is_entry_below, level_of, see_levels}
use Rattle.trace_text.specs.declared.events.Created.TheVariants as created
use Rattle.trace_text.specs.declared.events.Entry.{Entry}
use Rattle.trace_text.specs.declared.events.Event.{Event}
use Rattle.trace_text.specs.declared.events.Event.TheVariants as written
use Rattle.trace_text.specs.declared.events.Mode.{Mode}
use Rattle.trace_text.specs.declared.events.Who.{Who}
use Rattle.trace_text.specs.declared.events.Who.TheVariants as who

-- ---- who is let in

-- the object is there, and somebody is not above its ceiling
MayEnter : Image → Who → Admitting
MayEnter p name w o =
    (c : ℕ) × (ceiling_at o (map ceiling_in w.objects) ≡ Some c) × (active p (task_of w name) ≤ c) × (has_edf p ≡ true → (task_of w name).base ≤ c)

comes-may : (p : Image) (name : Who) (w : World) (o : ObjectNo) (mode : Mode) (found : Option Object) → object_of w o ≡ found
    → is_not_above (entering_option p w name found mode) ≡ true → MayEnter p name w o
unfolding MayEnter
comes-may p name w o mode None is e = absurd cc
comes-may p name w o mode (Some x) is e =
    let test : is_above_ceiling p w name x.ceiling ≡ false =
    not_above (has_open name x.actions) (is_above_ceiling p w name x.ceiling) (excludes mode (without (is_action_of name) x.actions)) e in
    let parts = or_parts (ltb x.ceiling (active_of p w name)) (has_edf p && ltb x.ceiling (task_of w name).base) test in (
      x.ceiling,
      ceiling-found o w.objects x is,
      not_less (active_of p w name) x.ceiling parts.0,
      λ edf. not_less (task_of w name).base x.ceiling (second_false (has_edf p) (ltb x.ceiling (task_of w name).base) parts.1 edf),
    )

may-on : (p : Image) (name : Who) (a b : World) (o : ObjectNo) → Same a b → MayEnter p name a o → MayEnter p name b o
unfolding MayEnter
may-on p name a b o same h =
    let cores : core (task_of b name) ≡ core (task_of a name) = core-same a b name same in (
      h.0,
      ap (ceiling_at o) same.objects ∙ h.1,
      subst (λ n. n ≤ h.0) (sym (ap (active_core p) cores)) h.2,
      λ edf. subst (λ n. n ≤ h.0) (sym (ap (λ (c : Core). c.base) cores)) (h.3 edf),
    )

-- ---- the law at the line

base-below : (p : Image) (w : World) (name : Who) (sight : Levels) (entry : Entry) (c : ℕ) (deadline : Option ℤ)
    → ((d : ℤ) → deadline ≡ Some d → (has_edf p ≡ true) × (base_of name sight.bases ≡ Some (task_of w name).base))
    → (has_edf p ≡ true → (task_of w name).base ≤ c) → is_base_below deadline (base_of name sight.bases) c ≡ true
base-below p w name sight entry c None shown below = refl
base-below p w name sight entry c (Some d) shown below =
    let s = shown d refl in
    ap (λ b. is_at_most b c) s.1 ∙ le-leb (task_of w name).base c (below s.0)

below_shown : (p : Image) (w : World) (name : Who) (sight : Levels) (o : ObjectNo) (mode : Mode) → ShowsPlace p w name sight
    → AreCeilingsShown sight.ceilings w.objects → MayEnter p name w o → is_below_ceiling sight (written.Enter name o mode) ≡ true
unfolding MayEnter
below_shown p w name sight o mode place shown may =
    ap (λ e. is_entry_below e (base_of name sight.bases) (level_of o.0 sight.ceilings)) place.found
    ∙ ap (λ c. is_entry_below (Some place.entry) (base_of name sight.bases) c) (shown-at sight.ceilings o w.objects may.0 shown may.1)
    ∙ and_from (nat_le place.entry.level may.0) (is_base_below place.entry.deadline (base_of name sight.bases) may.0)
    (le-leb place.entry.level may.0 (le_trans place.level may.2)) (base-below p w name sight place.entry may.0 place.entry.deadline place.base may.3)

-- ---- the states

AtFirst : World → Who → Levels → State
AtFirst v name sight w said = (core (task_of w name) ≡ core (task_of v name)) × Each IsQuiet said × AreCeilingsShown sight.ceilings w.objects

None_enter : State
None_enter w said = Each IsNoEnter said

OneEnters : Levels → State
OneEnters sight w said = Entered sight said

-- a change of neither tasks nor the agent
seen_plainly : (name : Who) (a b : World) → b.tasks ≡ a.tasks → b.agent ≡ a.agent → core (task_of b name) ≡ core (task_of a name)
seen_plainly (who.Task t) a b tasks agent = ap (λ ts. core (unwrap_or (found_task (who.Task t) ts) nobody)) tasks
seen_plainly who.Agent a b tasks agent = ap core agent

first_quiet : (v : World) (name : Who) (sight : Levels) → Silences (AtFirst v name sight)
unfolding AtFirst
first_quiet v name sight = record {
  silently = λ a b said same h. (core-same a b name same ∙ h.0, h.1, shown-same sight.ceilings a.objects b.objects same.objects h.2);
  says = λ part line w said other h. (h.0, each-append IsQuiet said (said_so part line) h.1 other, h.2);
  ends_scope = λ id w said h. (h.0, h.1, shown-fewer sight.ceilings (λ x. not (goes_with id x)) w.objects h.2);
}

first_appoints : (v : World) (name : Who) (sight : Levels) (t : TaskNo) (moment : ℤ) → Alters (AtFirst v name sight) (appoint (due_for.Delay t) moment)
unfolding AtFirst
first_appoints v name sight t moment = record { turns = λ w said h. (seen_plainly name w (appoint (due_for.Delay t) moment w) refl refl ∙ h.0, h.1, h.2) }

none_quiet : Silences None_enter
unfolding None_enter
none_quiet = record {
  silently = λ a b said same h. h;
  says = λ part line w said other h. each-append IsNoEnter said (said_so part line) h (quiet-no_enter line other);
  ends_scope = λ id w said h. h;
}

none_alters : (f : World → World) → Alters None_enter f
unfolding None_enter
none_alters f = record { turns = λ w said h. h }

none_says : (part : Part) (line : Line) → is_enter line ≡ false → Keeps None_enter (says part line)
unfolding None_enter Ends
none_says part line other = record { runs = λ w said h. each-append IsNoEnter said (said_so part line) h other }

none_base : (p : Image) → FreeBase p EveryPart None_enter
none_base p = record {
  quiet = none_quiet;
  edits = λ name f same_who same_base same_deferred. none_alters (edit_task name f);
  readies = λ part name end fits. ready_by_line p part name end (λ level deadline. none_says part (line.Ready name level end deadline) refl);
  blocks = λ name waits. none_says TheBlock (line.Block name waits) refl;
  ends = λ part t fits. none_says part (line.Done t) refl;
  exits = λ name o. none_says Own (line.Exit name o) refl;
  appoints = λ t moment. none_alters (appoint (due_for.Delay t) moment);
  forgets = λ name. none_alters (forget_task name);
}

one_says : (sight : Levels) (part : Part) (line : Line) → IsLate (said_so part line) → Keeps (OneEnters sight) (says part line)
unfolding OneEnters Ends
one_says sight part line late = record { runs = λ w said h. entered-append sight said (said_so part line) h late }

one_alters : (sight : Levels) (f : World → World) → Alters (OneEnters sight) f
unfolding OneEnters
one_alters sight f = record { turns = λ w said h. h }

one_base : (p : Image) (sight : Levels) → FreeBase p LatePart (OneEnters sight)
unfolding OneEnters
one_base p sight = record {
  quiet = record {
    silently = λ a b said same h. h;
    says = λ part line w said other h. entered-append sight said (said_so part line) h (quiet-late (said_so part line) other);
    ends_scope = λ id w said h. h;
  };
  edits = λ name f same_who same_base same_deferred. one_alters sight (edit_task name f);
  readies = λ part name end late. ready_by_line p part name end (λ level deadline. one_says sight part (line.Ready name level end deadline) (refl, inr late));
  blocks = λ name waits. one_says sight TheBlock (line.Block name waits) (refl, inr refl);
  ends = λ part t late. one_says sight part (line.Done t) (refl, inr late);
  exits = λ name o. one_says sight Own (line.Exit name o) (refl, inr refl);
  appoints = λ t moment. one_alters sight (appoint (due_for.Delay t) moment);
  forgets = λ name. one_alters sight (forget_task name);
}

-- ---- the effect

first_none : (v : World) (name : Who) (sight : Levels) (w : World) (said : List Said) → AtFirst v name sight w said → None_enter w said
unfolding AtFirst None_enter
first_none v name sight w said h = all_quiet-no_enter said h.1

place-on : (p : Image) (v w : World) (name : Who) (sight : Levels) → core (task_of w name) ≡ core (task_of v name) → ShowsPlace p v name sight
    → ShowsPlace p w name sight
place-on p v w name sight same place = record {
  entry = place.entry;
  found = place.found;
  level = subst (λ n. place.entry.level ≤ n) (sym (ap (active_core p) same)) place.level;
  base = λ d e. let s = place.base d e in (s.0, s.1 ∙ ap (λ (c : Core). Some c.base) (sym same));
}

enters_first : (p : Image) (v : World) (name : Who) (sight : Levels) (o : ObjectNo) (mode : Mode) → ShowsPlace p v name sight
    → Leads (With (AtFirst v name sight) (λ w. MayEnter p name w o)) (OneEnters sight) (says Own (line.Enter name o mode))
unfolding AtFirst OneEnters Ends
enters_first p v name sight o mode place = record {
  runs = λ w said h.
      entered-begins sight said (said_so Own (line.Enter name o mode)) h.0.1
      (record {
        name = name;
        object = o;
        mode = mode;
        said = refl;
        below = below_shown p w name sight o mode (place-on p v w name sight h.0.0 place) h.0.2 h.1;
      });
}

none_created : (p : Image) (name : Who) (s : StatementNo) (d : DeclNo) (id : Option ScopeId) (t : Task) → Keeps None_enter (create_task p name s d id t)
unfolding create_task says_created
none_created p name s d id t =
    then-keeps _ _ (goes-keeps (fine none_quiet) name (next_of p s)) (then-keeps _ _ (changes-keeps _ (none_alters (add_task t)))
    (then-keeps _ _
    (for_some-keeps id _
    (λ within. looks-keeps _
    (λ w.
    changes-keeps _ (none_alters (set_thing p (record { within = within; declared = d }) (value_of.Task (Some (record { 0 = w.drawn.tasks - 1 }))))))))
    (looks-keeps _ (λ w. none_says Own (line.New (created.Task (record { 0 = w.drawn.tasks - 1 })) (Some d) t.base) refl))))

none_made : (p : Image) (l : Located) (u : ProtectedUnitNo) → Keeps None_enter (changes (with_object p l u) ▷ says_object p l u)
unfolding says_object
none_made p l u =
    then-keeps _ _ (changes-keeps _ (none_alters (with_object p l u)))
    (looks-keeps _ (λ w. none_says Own (line.New (created.Object (record { 0 = w.drawn.objects })) (Some l.declared) (protected_unit_of p u).ceiling) refl))

none_takes : (p : Image) (level : ℕ)
    → Keeps None_enter (changes (edit_task who.Agent (λ u. record u { deferred_base = None })) ▷ set_base p ThePlacing ThePlacing who.Agent level)
unfolding set_base says_base
none_takes p level =
    then-keeps _ _ (changes-keeps _ (none_alters (edit_task who.Agent (λ u. record u { deferred_base = None }))))
    (then-keeps _ _ (changes-keeps _ (none_alters (edit_task who.Agent (λ u. record u { base = level }))))
    (then-keeps _ _ nothing-keeps (looks-keeps _ (λ w. replace_in-free (none_base p) ThePlacing who.Agent (task_of w who.Agent).state tt))))

none_bases : (part : Part) (t : TaskNo) (level : ℕ)
    → Keeps None_enter (changes (edit_task (who.Task t) (λ u. record u { base = level })) ▷ says part (line.Base t level))
none_bases part t level =
    then-keeps _ _ (changes-keeps _ (none_alters (edit_task (who.Task t) (λ u. record u { base = level })))) (none_says part (line.Base t level) refl)

enter_free : (p : Image) (v : World) (name : Who) (sight : Levels) → ShowsPlace p v name sight
    → FreeMoves p name (MayEnter p name) (AtFirst v name sight) None_enter (OneEnters sight)
enter_free p v name sight place = record {
  fresh = first_quiet v name sight;
  appoints_first = λ t moment. first_appoints v name sight t moment;
  later = none_base p;
  entered = one_base p sight;
  starts = first_none v name sight;
  may = λ w o mode e. comes-may p name w o mode (object_of w o) refl (ap is_not_above e);
  may_held = λ w o mode e. comes-may p name w o mode (object_of w o) refl (ap is_not_above e);
  may_on = may-on p name;
  enters = λ o mode. enters_first p v name sight o mode place;
  finds_held = λ o mode. from-leads _ (λ w said h. h.0) (later-leads (says Own (line.Held name o mode)) (first_none v name sight) (none_says Own (line.Held name o mode) refl));
  bases_first = λ t level. from-leads _ (first_none v name sight) (none_bases (part_of name (who.Task t)) t level);
  bases = λ t level. none_bases ThePlacing t level;
  defers = λ t deferred. none_alters (edit_task (who.Task t) (λ u. record u { deferred_base = deferred }));
  takes = λ w level is. from_at _ (none_takes p level);
  creates = λ s d id t. from-leads (create_task p name s d id t) (λ w said h. first_none v name sight w said h.0) (none_created p name s d id t);
  makes = none_made p;
}

-- ---- an instant

either-lawful : (p : Image) (sight : Levels) (d : Done) → Ends (Either None_enter (OneEnters sight)) d → Lawful sight (settled p d).1
unfolding Ends None_enter OneEnters
either-lawful p sight (done w xs) (inl h) = no_enters-lawful p sight (in_order xs) (each-in_order IsNoEnter xs h)
either-lawful p sight (done w xs) (inr h) = entered-lawful p sight (in_order xs) (entered-in_order sight xs h)

first_holds : (w : World) (name : Who) (sight : Levels) → AreCeilingsShown sight.ceilings w.objects → AtFirst w name sight w []
unfolding AtFirst
first_holds w name sight shown = (refl, tt, shown)

effect-lawful : (p : Image) (w : World) (name : Who) (sight : Levels) → AreCeilingsShown sight.ceilings w.objects → ShowsPlace p w name sight
    → Lawful sight (settles p (effect p name) w).1
effect-lawful p w name sight shown place =
    either-lawful p sight (effect p name w []) ((effect-leads (freely (enter_free p w name sight place))).runs w [] (first_holds w name sight shown))

effect_if-lawful : (p : Image) (w : World) (name : Who) (sight : Levels) (b : Bool) → (b ≡ true → Lawful sight (settles p (effect p name) w).1)
    → Lawful sight ((elim b as (λ _. Move) [ true ↦ settles p (effect p name) | false ↦ rests ]) w).1
effect_if-lawful p w name sight true h = h refl
effect_if-lawful p w name sight false h = tt

finish-lawful : (p : Image) (w : World) (sight : Levels) (ran : Option Who) → w.ran ≡ ran → AreCeilingsShown sight.ceilings w.objects → ShowsRunner p w sight
    → Lawful sight (effect_of_runner p ran w).1
finish-lawful p w sight None is shown runner = tt
finish-lawful p w sight (Some name) is shown runner =
    effect_if-lawful p w name sight (is_over (task_of w name).ticks_left) (λ over. effect-lawful p w name sight shown (runner name is over))

-- what comes about beside begins no action
AnySight : Levels → World → Type 0
AnySight sight w = Unit {0}

beside : (p : Image) → Others see_levels is_below_ceiling AnySight p
unfolding AnySight None_enter
beside p sight = (
  None_enter,
  any_world,
  any_task,
  free_others (none_base p),
  (λ w h. tt),
  (λ v xs h. record { follow = no_enters-lawful p sight (in_order xs) (each-in_order IsNoEnter xs h); shows = tt }),
)

follow-test : (sight : Levels) (lines : List Event) → Lawful sight lines → keep_ceilings sight lines ≡ true
follow-test sight [] h = refl
follow-test sight (x ∷ xs) h = and_from (is_below_ceiling sight x) (keep_ceilings (see_levels sight x) xs) h.0 (follow-test (see_levels sight x) xs h.1)

pub instants_keep_ceilings : InstantsKeepCeilings
unfolding AnySight
instants_keep_ceilings p w sight shown runner =
    let first = finish_action p w in
    let later = (script_items p ▶ events_due p ▶ moments_due p ▶ timers_due p ▶ budgets_due p ▶ quantum_spent p) first.0 in
    follow-test sight (instant p w).1
    (Follow-append see_levels is_below_ceiling sight first.1 later.1 (finish-lawful p w sight w.ran refl shown runner)
    (behind_onward see_levels is_below_ceiling AnySight (beside p) (seen_behind see_levels is_below_ceiling sight first.1) first.0 tt).follow)

tock-event : (sight : Levels) (event : Event) → is_of_tock event ≡ true → is_below_ceiling sight event ≡ true
tock-event sight (written.Enter name object mode) e = cc
tock-event sight _ e = refl

pub tocks_keep_ceilings : TocksKeepCeilings
tocks_keep_ceilings p w sight =
    follow-test sight (tock p w).1 (Follow-all see_levels is_below_ceiling is_of_tock tock-event sight (tock p w).1 (tocks_say_ticks p w))

none_opens : (p : Image) → Keeps None_enter (opens p)
unfolding opens
none_opens p =
    then-keeps _ _ (changes-keeps _ (none_alters (open_scope p environment p.environment (plainly None) opened_for.Task)))
    (then-keeps _ _ (none_says Own (line.New (created.Task (record { 0 = 0 })) None p.main.priority) refl)
    (then-keeps _ _ (to_tail-free (none_base p) Own environment tt) (open_sequence-keeps (fine none_quiet) p Own environment)))

pub opening_keeps_ceilings : (p : Image) (script : List (ℤ × Item)) (sight : Levels) → keep_ceilings sight (opening p script).1 ≡ true
unfolding AnySight None_enter
opening_keeps_ceilings p script sight =
    follow-test sight (opening p script).1
    (settles_onward see_levels is_below_ceiling AnySight p sight None_enter None_enter (opens p) (blank_world p script)
    (λ v xs h. record { follow = no_enters-lawful p sight (in_order xs) (each-in_order IsNoEnter xs h); shows = tt }) (none_opens p) tt).follow
