-- In every run only who has run is placed before others, and enters an object.
use Rattle.ann_base.specs.declared.identities.TaskNo.{TaskNo}
use Rattle.ceiling_laws.proofs.Runs.FreeMoves.{EveryPart, any_task, any_world, anywhere}
use Rattle.blocking_laws.proofs.NamedMoves.{NamedBase, NamedMoves, free_others, freely, late_base, replace_in-free, to_tail-free}
use Rattle.ceiling_laws.proofs.Fine.Kept.Frames.{goes-keeps, open_sequence-keeps}
use Rattle.ceiling_laws.proofs.Fine.Kept.Scopes.{open_scope-alters}
use Rattle.ceiling_laws.proofs.Runs.ActingMoves.{Either, later-leads}
use Rattle.ceiling_laws.proofs.Runs.AgentLemmas.{see_nothing}
use Rattle.ceiling_laws.proofs.Runs.Finer.{fine}
use Rattle.ceiling_laws.proofs.Runs.Kept.Act.{effect-leads}
use Rattle.ceiling_laws.proofs.Runs.LevelMoves.{Silences, is_apart, said_so}
use Rattle.ceiling_laws.proofs.Runs.RunLemmas.{Onward, Others, Settles, behind_onward, either_over, rests_onward, settles_onward, then_onward}
use Rattle.ceiling_laws.proofs.Runs.Triples.{Alters, Ends, Keeps, State, changes-keeps, for_some-keeps}
use Rattle.ceiling_laws.proofs.Runs.Triples.{from-leads, from_at, looks-keeps, nothing-keeps, then-keeps}
use Rattle.line_laws.proofs.Ticks.LineByLine.{Follow, Follow-append, Leads_on, OfRuns, run-at_each_line, seen_behind, seen_behind-append}
use Rattle.machine_laws.proofs.DispatchLemmas.{effect-runner, ran-path, tock-ran}
use Rattle.machine_laws.proofs.Kept.Run.{before_tick, tock-parts}
use Rattle.machine_laws.proofs.LineLemmas.{instants_say_effects, openings_say_effects}
use Rattle.machine_laws.proofs.TimeLemmas.{instants_keep_runner, opening-runner}
use Rattle.machine_laws.specs.LineKinds.{AllAre, is_of_effect}
use Rattle.profile_machine.specs.Declarations.{says_object, set_thing, with_object}
use Rattle.profile_machine.specs.Dispatching.{active, choose, deadline_shown, says_ready}
use Rattle.profile_machine.specs.Instant.{budgets_due, effect, effect_of_runner, events_due, finish_action}
use Rattle.profile_machine.specs.Instant.{instant, is_over, moments_due, quantum_spent, script_items, timers_due}
use Rattle.profile_machine.specs.Lines.{event_of}
use Rattle.profile_machine.specs.Masters.{part_of}
use Rattle.profile_image.specs.Program.{next_of, protected_unit_of}
use Rattle.profile_image.specs.Words.{same_option, same_who}
use Rattle.profile_machine.specs.Priorities.{says_base, set_base}
use Rattle.profile_machine.specs.Run.{blank_world, environment, opening, opens, say, says_idle, says_run, serve, serve_if_free, tock}
use Rattle.profile_machine.specs.Scopes.{plainly}
use Rattle.profile_machine.specs.Steps.{Move, changes, in_order, is_part_before, put_in_order, rests, says, settles, ◌▷◌, ◌▶◌}
use Rattle.profile_machine.specs.Tasking.{add_task, create_task, says_created}
use Rattle.profile_machine.specs.Tasks.{edit_task, task_of}
use Rattle.profile_image.specs.declared.image.Image.{Image}
use Rattle.profile_image.specs.declared.numbers.DeclNo.{DeclNo}
use Rattle.profile_image.specs.declared.numbers.ProtectedUnitNo.{ProtectedUnitNo}
use Rattle.profile_image.specs.declared.numbers.StatementNo.{StatementNo}
use Rattle.profile_image.specs.declared.script_items.Item.{Item}
use Rattle.profile_image.specs.declared.values.Value.TheVariants as value_of
use Rattle.profile_machine.specs.declared.world.World.{World}
use Rattle.profile_machine.specs.declared.world.appointments.Release.{Release}
use Rattle.profile_machine.specs.declared.world.lines.Line.{Line}
use Rattle.profile_machine.specs.declared.world.lines.Line.TheVariants as line
use Rattle.profile_machine.specs.declared.world.lines.Part.{Part}
use Rattle.profile_machine.specs.declared.world.lines.Part.TheVariants.{Own, TheBlock, ThePlacing}
use Rattle.profile_machine.specs.declared.world.lines.Said.{Said}
use Rattle.profile_machine.specs.declared.world.marks.Frame.{Frame}
use Rattle.profile_machine.specs.declared.world.marks.Purpose.TheVariants as opened_for
use Rattle.profile_machine.specs.declared.world.scopes.Located.{Located}
use Rattle.profile_machine.specs.declared.world.scopes.ScopeId.{ScopeId}
use Rattle.profile_machine.specs.declared.world.tasks.Task.{Task}
use Rattle.std.proofs.Common.{ap, map, refl, subst, sym, ◌∙◌, ◌≡◌}
use Rattle.std.specs.Prelude.{Bool, List, None, Option, Some, [], cond, false, true, ℕ, ℤ, ◌++◌, ◌-◌, ◌∷◌}
use Rattle.trace_text.proofs.LawsFollowed.{is_somebody}
use Rattle.trace_text.specs.Queue.{runner_after, somebody_eq}
use Rattle.trace_text.specs.declared.events.Created.TheVariants as created
use Rattle.trace_text.specs.declared.events.Event.{Event}
use Rattle.trace_text.specs.declared.events.Event.TheVariants as written
use Rattle.trace_text.specs.declared.events.QueueEnd.TheVariants.{Head, Tail}
use Rattle.trace_text.specs.declared.events.Who.{Who}
use Rattle.trace_text.specs.declared.events.Who.TheVariants as who
use Rattle.blocking_laws.specs.OwnLines.{RunsTellOwnLines, is_own}

-- ---- lines of an effect

abbrev is_own_line : Option Who → Image → Line → Bool
is_own_line r p x = is_own r (event_of p x)

abbrev AllOwn : Option Who → Image → List Said → Type 0
AllOwn r p [] = Unit {0}
AllOwn r p (x ∷ xs) = (is_own_line r p x.line ≡ true) × AllOwn r p xs

all_own-append : (r : Option Who) (p : Image) (xs : List Said) (x : Said) → AllOwn r p xs → is_own_line r p x.line ≡ true → AllOwn r p (xs ++ x ∷ [])
all_own-append r p [] x q e = (e, tt)
all_own-append r p (y ∷ ys) x q e = (q.0, all_own-append r p ys x q.1 e)

all_own-test : (r : Option Who) (p : Image) (x y : Said) (ys placed : List Said) (b : Bool) → AllOwn r p (x ∷ y ∷ ys) → AllOwn r p placed
    → AllOwn r p (cond b (y ∷ placed) (x ∷ y ∷ ys))
all_own-test r p x y ys placed true h k = (h.1.0, k)
all_own-test r p x y ys placed false h k = h

all_own-put : (r : Option Who) (p : Image) (x : Said) (ys : List Said) → AllOwn r p (x ∷ ys) → AllOwn r p (put_in_order x ys)
all_own-put r p x [] h = h
all_own-put r p x (y ∷ ys) h = all_own-test r p x y ys (put_in_order x ys) (is_part_before y.part x.part) h (all_own-put r p x ys (h.0, h.1.1))

all_own-in_order : (r : Option Who) (p : Image) (xs : List Said) → AllOwn r p xs → AllOwn r p (in_order xs)
all_own-in_order r p [] h = h
all_own-in_order r p (x ∷ xs) h = all_own-put r p x (in_order xs) (h.0, all_own-in_order r p xs h.1)

apart-own : (r : Option Who) (p : Image) (x : Line) → is_apart x ≡ false → is_own_line r p x ≡ true
apart-own r p (line.Ready name level end deadline) e = absurd cc
apart-own r p (line.Enter name o mode) e = absurd cc
apart-own r p (line.Held name o mode) e = absurd cc
apart-own r p _ e = refl

-- ---- steps

Ownly : Option Who → Image → State
Ownly r p w said = AllOwn r p said

module _ (r : Option Who) (p : Image) where
  own_quiet : Silences (Ownly r p)
  unfolding Ownly
  own_quiet = record {
    silently = λ a b said s h. h;
    says = λ part line w said other h. all_own-append r p said (said_so part line) h (apart-own r p line other);
    ends_scope = λ id w said h. h;
  }

  -- no change of a world says anything
  own_alters : (f : World → World) → Alters (Ownly r p) f
  unfolding Ownly
  own_alters f = record { turns = λ w said h. h }

  own_says : (part : Part) (line : Line) → is_own_line r p line ≡ true → Keeps (Ownly r p) (says part line)
  unfolding Ownly Ends
  own_says part line e = record { runs = λ w said h. all_own-append r p said (said_so part line) h e }

  own_tail : (part : Part) (name : Who) → Keeps (Ownly r p) (says_ready p part name Tail)
  unfolding Ownly Ends says_ready
  own_tail part name = record {
    runs = λ w said h. all_own-append r p said (said_so part (line.Ready name (active p (task_of w name)) Tail (deadline_shown p (task_of w name)))) h refl;
  }

  own_base : NamedBase p EveryPart (Ownly r p)
  own_base = record {
    quiet = own_quiet;
    edits = λ name f same_who same_base same_deferred. own_alters (edit_task name f);
    tails = λ part name fits. own_tail part name;
    blocks = λ name waits. own_says TheBlock (line.Block name waits) refl;
    ends = λ part t fits. own_says part (line.Done t) refl;
    exits = λ name o. own_says Own (line.Exit name o) refl;
    appoints = λ t moment. own_alters _;
    forgets = λ name. own_alters _;
  }

  own_created : (name : Who) (s : StatementNo) (d : DeclNo) (id : Option ScopeId) (t : Task) → Keeps (Ownly r p) (create_task p name s d id t)
  unfolding create_task says_created
  own_created name s d id t =
      then-keeps _ _ (goes-keeps (fine own_quiet) name (next_of p s)) (then-keeps _ _ (changes-keeps _ (own_alters (add_task t)))
      (then-keeps _ _
      (for_some-keeps id _
      (λ within. looks-keeps _
      (λ w.
      changes-keeps _ (own_alters (set_thing p (record { within = within; declared = d }) (value_of.Task (Some (record { 0 = w.drawn.tasks - 1 }))))))))
      (looks-keeps _ (λ w. own_says Own (line.New (created.Task (record { 0 = w.drawn.tasks - 1 })) (Some d) t.base) refl))))

  own_made : (l : Located) (u : ProtectedUnitNo) → Keeps (Ownly r p) (changes (with_object p l u) ▷ says_object p l u)
  unfolding says_object
  own_made l u =
      then-keeps _ _ (changes-keeps _ (own_alters (with_object p l u)))
      (looks-keeps _ (λ w. own_says Own (line.New (created.Object (record { 0 = w.drawn.objects })) (Some l.declared) (protected_unit_of p u).ceiling) refl))

  own_bases : (part : Part) (t : TaskNo) (level : ℕ)
      → Keeps (Ownly r p) (changes (edit_task (who.Task t) (λ u. record u { base = level })) ▷ says part (line.Base t level))
  own_bases part t level = then-keeps _ _ (changes-keeps _ (own_alters _)) (own_says part (line.Base t level) refl)

  own_taken : (level : ℕ)
      → Keeps (Ownly r p) (changes (edit_task who.Agent (λ u. record u { deferred_base = None })) ▷ set_base p ThePlacing ThePlacing who.Agent level)
  unfolding set_base says_base
  own_taken level =
      then-keeps _ _ (changes-keeps _ (own_alters (edit_task who.Agent (λ u. record u { deferred_base = None }))))
      (then-keeps _ _ (changes-keeps _ (own_alters (edit_task who.Agent (λ u. record u { base = level }))))
      (then-keeps _ _ nothing-keeps (looks-keeps _ (λ w. replace_in-free own_base ThePlacing who.Agent (task_of w who.Agent).state tt))))

  own_opens : Keeps (Ownly r p) (opens p)
  unfolding opens
  own_opens =
      then-keeps _ _ (changes-keeps _ (open_scope-alters (fine own_quiet) p environment p.environment (plainly None) opened_for.Task))
      (then-keeps _ _ (own_says Own (line.New (created.Task (record { 0 = 0 })) None p.main.priority) refl)
      (then-keeps _ _ (to_tail-free own_base Own environment tt) (open_sequence-keeps (fine own_quiet) p Own environment)))

somebody_self : (name : Who) → somebody_eq (Some name) (Some name) ≡ true
somebody_self name = is_somebody (Some name) (Some name) refl

module _ (actor : Who) (p : Image) where
  own_head : (part : Part) → Keeps (Ownly (Some actor) p) (says_ready p part actor Head)
  unfolding Ownly Ends says_ready
  own_head part = record {
    runs =
        λ w said h. all_own-append (Some actor) p said
        (said_so part (line.Ready actor (active p (task_of w actor)) Head (deadline_shown p (task_of w actor)))) h (somebody_self actor);
  }

  own_free : NamedMoves p actor anywhere (Ownly (Some actor) p) (Ownly (Some actor) p) (Ownly (Some actor) p)
  own_free = record {
    fresh = own_quiet (Some actor) p;
    appoints_first = λ t moment. own_alters (Some actor) p _;
    later = own_base (Some actor) p;
    entered = late_base (own_base (Some actor) p);
    heads_later = λ part fits. own_head part;
    heads_entered = λ part fits. own_head part;
    starts = λ w said h. h;
    may = λ w o mode e. tt;
    may_held = λ w o mode e. tt;
    may_on = λ a b o same m. tt;
    enters =
        λ o mode.
        from-leads (says Own (line.Enter actor o mode)) (λ w said h. h.0) (own_says (Some actor) p Own (line.Enter actor o mode) (somebody_self actor));
    finds_held =
        λ o mode.
        from-leads _ (λ w said h. h.0)
        (later-leads (says Own (line.Held actor o mode)) (λ w said h. h) (own_says (Some actor) p Own (line.Held actor o mode) (somebody_self actor)));
    bases_first = λ t level. own_bases (Some actor) p (part_of actor (who.Task t)) t level;
    bases = λ t level. own_bases (Some actor) p ThePlacing t level;
    defers = λ t deferred. own_alters (Some actor) p _;
    takes = λ v level is. from_at _ (own_taken (Some actor) p level);
    creates = λ s d id t. from-leads (create_task p actor s d id t) (λ w said h. h.0) (own_created (Some actor) p actor s d id t);
    makes = own_made (Some actor) p;
  }

-- ---- an instant

abbrev pub own_at : Option Who → Unit {0} → Event → Bool
own_at r s event = is_own r event

pub Nothing_shown : Unit {0} → World → Type 0
Nothing_shown s w = Unit {0}

pub nothing_shown : (s : Unit {0}) (w : World) → Nothing_shown s w
unfolding Nothing_shown
nothing_shown s w = tt

own-follow : (r : Option Who) (p : Image) (xs : List Said) → AllOwn r p xs → Follow see_nothing (own_at r) tt (map (λ x. event_of p x.line) xs)
own-follow r p [] h = tt
own-follow r p (x ∷ xs) h = (h.0, own-follow r p xs h.1)

own_settles : (r : Option Who) (p : Image) (s : Unit {0}) → Settles see_nothing (own_at r) Nothing_shown p s (Ownly r p)
unfolding Ownly Nothing_shown
own_settles r p tt v xs h = record { follow = own-follow r p (in_order xs) (all_own-in_order r p xs h); shows = tt }

pub own_others : (r : Option Who) (p : Image) → Others see_nothing (own_at r) Nothing_shown p
unfolding Ownly Nothing_shown
own_others r p = λ s. (Ownly r p, any_world, any_task, free_others (own_base r p), (λ w h. tt), own_settles r p s)

pub effect_own : (name : Who) (p : Image) (w : World) → Onward see_nothing (own_at (Some name)) Nothing_shown tt (settles p (effect p name) w)
unfolding Ownly
effect_own name p w =
    settles_onward see_nothing (own_at (Some name)) Nothing_shown p tt (Ownly (Some name) p) (Either (Ownly (Some name) p) (Ownly (Some name) p))
    (effect p name) w
    (either_over see_nothing (own_at (Some name)) Nothing_shown p (Ownly (Some name) p) tt (own_settles (Some name) p tt))
    (effect-leads (freely (own_free name p))) tt

effect_if_own : (name : Who) (p : Image) (w : World) (test : Bool)
    → Onward see_nothing (own_at (Some name)) Nothing_shown tt ((elim test as (λ _. Move) [ true ↦ settles p (effect p name) | false ↦ rests ]) w)
unfolding Nothing_shown
effect_if_own name p w true = effect_own name p w
effect_if_own name p w false = rests_onward see_nothing (own_at (Some name)) Nothing_shown tt w tt

effect_of_own : (r : Option Who) (p : Image) (w : World) → Onward see_nothing (own_at r) Nothing_shown tt (effect_of_runner p r w)
unfolding Nothing_shown
effect_of_own None p w = rests_onward see_nothing (own_at None) Nothing_shown tt w tt
effect_of_own (Some name) p w = effect_if_own name p w (is_over (task_of w name).ticks_left)

instant_own : (p : Image) (w : World) → Onward see_nothing (own_at w.ran) Nothing_shown tt (instant p w)
instant_own p w =
    then_onward see_nothing (own_at w.ran) Nothing_shown (finish_action p)
    (script_items p ▶ events_due p ▶ moments_due p ▶ timers_due p ▶ budgets_due p ▶ quantum_spent p) tt w (effect_of_own w.ran p w)
    (behind_onward see_nothing (own_at w.ran) Nothing_shown (own_others w.ran p) (seen_behind see_nothing (own_at w.ran) tt (finish_action p w).1)
    (finish_action p w).0)

pub opening_own : (p : Image) (script : List (ℤ × Item)) → Onward see_nothing (own_at None) Nothing_shown tt (opening p script)
unfolding Ownly
opening_own p script =
    settles_onward see_nothing (own_at None) Nothing_shown p tt (Ownly None p) (Ownly None p) (opens p) (blank_world p script) (own_settles None p tt)
    (own_opens None p) tt

pub follow-own : (r : Option Who) (s : Unit {0}) (xs : List Event) → Follow see_nothing (own_at r) s xs → AllAre (is_own r) xs
follow-own r s [] h = tt
follow-own r s (x ∷ xs) h = (h.0, follow-own r tt xs h.1)

-- ---- every run

ShowsRunner : Option Who → World → Type 0
ShowsRunner runner w = w.ran ≡ runner

effects-own : (r : Option Who) (events : List Event) → AllAre is_of_effect events → AllAre (is_own r) events
    → Follow runner_after is_own r events × (seen_behind runner_after is_own r events ≡ r)
effects-own r [] a b = (tt, refl)
effects-own r (x ∷ xs) a b =
    let same : runner_after r x ≡ r = effect-runner r x a.0 in
    let onward = effects-own r xs a.1 b.1 in
    ((b.0, subst (λ q. Follow runner_after is_own q xs) (sym same) onward.0), ap (λ q. seen_behind runner_after is_own q xs) same ∙ onward.1)

effects_lead : (r : Option Who) (events : List Event) (w : World) → AllAre is_of_effect events → AllAre (is_own r) events → w.ran ≡ r
    → Leads_on runner_after is_own ShowsRunner r events w
unfolding ShowsRunner
effects_lead r events w a b e = let h = effects-own r events a b in record { follow = h.0; shows = e ∙ sym h.1 }

-- the lines of a tock say who runs then
abbrev Passes : Option Who → List Event → Option Who → Type 0
Passes r events next = Follow runner_after is_own r events × (seen_behind runner_after is_own r events ≡ next)

Passes-append : (r next last : Option Who) (xs ys : List Event) → Passes r xs next → Passes next ys last → Passes r (xs ++ ys) last
Passes-append r next last xs ys a b = (
  Follow-append runner_after is_own r xs ys a.0 (subst (λ q. Follow runner_after is_own q ys) (sym a.1) b.0),
  seen_behind-append runner_after is_own r xs ys ∙ ap (λ q. seen_behind runner_after is_own q ys) a.1 ∙ b.1,
)

run-passes : (same : Bool) (ran : Option Who) (name : Who) (w : World) → same_option same_who ran (Some name) ≡ same
    → Passes ran (cond same rests (say (written.Run name)) w).1 (Some name)
run-passes true ran name w e = (tt, ran-path ran name e)
run-passes false ran name w e = ((refl, tt), refl)

serve_if_free-passes : (serving : Option Release) (frames : List Frame) (releases : List Release) (w : World)
    → Passes (Some who.Agent) ((serve_if_free serving frames releases w).1 ++ []) (Some who.Agent)
serve_if_free-passes None [] [] w = (tt, refl)
serve_if_free-passes None [] (x ∷ rest) w = ((refl, tt), refl)
serve_if_free-passes None (f ∷ fs) releases w = (tt, refl)
serve_if_free-passes (Some x) frames releases w = (tt, refl)

serve-passes : (name : Who) (w : World) → Passes (Some name) ((serve name w).1 ++ []) (Some name)
serve-passes (who.Task t) w = (tt, refl)
serve-passes who.Agent w = serve_if_free-passes w.serving w.agent.frames w.releases w

idle-passes : (ran : Option Who) (w : World) → Passes ran (says_idle ran w).1 None
idle-passes None w = (tt, refl)
idle-passes (Some name) w = ((refl, tt), refl)

before_tick-passes : (p : Image) (chosen : Option Who) (w : World) → Passes w.ran (before_tick p chosen w).1 chosen
before_tick-passes p None w = idle-passes w.ran w
before_tick-passes p (Some name) w =
    let first = says_run name w.ran w in
    Passes-append w.ran (Some name) (Some name) first.1 ((serve name first.0).1 ++ [])
    (run-passes (same_option same_who w.ran (Some name)) w.ran name w refl)
    (serve-passes name first.0)

tock-passes : (p : Image) (w : World) → Passes w.ran (tock p w).1 (choose w)
tock-passes p w = subst (λ (a : World × List Event). Passes w.ran a.1 (choose w)) (sym (tock-parts p w)) (before_tick-passes p (choose w) w)

tocks_lead : (p : Image) (r : Option Who) (w : World) → ShowsRunner r w → Leads_on runner_after is_own ShowsRunner r (tock p w).1 (tock p w).0
unfolding ShowsRunner
tocks_lead p r w e =
    let h : Passes r (tock p w).1 (choose w) = subst (λ q. Passes q (tock p w).1 (choose w)) e (tock-passes p w) in
    record { follow = h.0; shows = tock-ran p w ∙ sym h.1 }

own_lines : OfRuns runner_after is_own ShowsRunner None
unfolding ShowsRunner
own_lines = record {
  openings =
      λ p script. let o = opening p script in
      effects_lead None o.1 o.0 (openings_say_effects p script) (follow-own None tt o.1 (opening_own p script).follow) (opening-runner p script);
  instants =
      λ p r w e. let i = instant p w in
      effects_lead r i.1 i.0 (instants_say_effects p w) (subst (λ q. AllAre (is_own q) i.1) e (follow-own w.ran tt i.1 (instant_own p w).follow))
      (instants_keep_runner p w ∙ e);
  tocks = tocks_lead;
  ends = λ p bound r w reason shown e. refl;
  bound = λ r. refl;
}

pub runs_tell_own_lines : RunsTellOwnLines
runs_tell_own_lines p script bound = run-at_each_line runner_after is_own own_lines p script bound
