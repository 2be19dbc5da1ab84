-- In every run each protected object that is made has a number that no object had.
use Rattle.ann_base.specs.declared.identities.TaskNo.{TaskNo}
use Rattle.ceiling_laws.proofs.Fine.Kept.Declarations.{set_thing-same}
use Rattle.ceiling_laws.proofs.Fine.Kept.Frames.{goes-keeps, open_sequence-keeps}
use Rattle.ceiling_laws.proofs.Fine.Kept.Scopes.{open_scope-alters}
use Rattle.ceiling_laws.proofs.Runs.ActingMoves.{later-leads}
use Rattle.ceiling_laws.proofs.Runs.Finer.{fine, fine_same}
use Rattle.ceiling_laws.proofs.Runs.FreeMoves.{EveryPart, FreeBase, FreeMoves, anywhere, late_base, ready_by_line, replace_in-free, to_tail-free}
use Rattle.ceiling_laws.proofs.Runs.Kept.Tasks.{same-alters}
use Rattle.ceiling_laws.proofs.Runs.LevelMoves.{Silences, is_apart, said_so}
use Rattle.ceiling_laws.proofs.Runs.RunLemmas.{Instants, Settles, free_instants, instant_onward, settles_onward}
use Rattle.ceiling_laws.proofs.Runs.TockLemmas.{tock-same}
use Rattle.ceiling_laws.proofs.Runs.Triples.{Alters, Ends, Keeps, State, changes-keeps, for_some-keeps}
use Rattle.ceiling_laws.proofs.Runs.Triples.{from-leads, from_at, looks-keeps, nothing-keeps, then-keeps}
use Rattle.line_laws.proofs.Exclusion.OwnLines.{Told, Told-append, Told-in_order, told}
use Rattle.line_laws.proofs.Ticks.LineByLine.{Follow, Follow-all, Leads_on, OfRuns, run-at_each_line, seen_behind}
use Rattle.line_laws.proofs.Ticks.ReleaseLemmas.{events_of}
use Rattle.machine_laws.proofs.LineLemmas.{tocks_say_ticks}
use Rattle.machine_laws.specs.LineKinds.{AllAre, is_of_tock}
use Rattle.profile_machine.specs.Appointments.{appoint}
use Rattle.profile_machine.specs.Declarations.{says_object, with_object}
use Rattle.profile_machine.specs.Lines.{event_of}
use Rattle.profile_machine.specs.Masters.{forget_task, part_of}
use Rattle.profile_machine.specs.Priorities.{says_base, set_base}
use Rattle.profile_image.specs.Program.{next_of, protected_unit_of}
use Rattle.profile_machine.specs.Run.{blank_world, environment, opens, tock}
use Rattle.profile_machine.specs.Scopes.{plainly}
use Rattle.profile_machine.specs.Steps.{changes, in_order, says, ◌▷◌}
use Rattle.profile_machine.specs.Tasking.{add_task, create_task, says_created}
use Rattle.profile_machine.specs.Tasks.{edit_task, edit_task_found, task_at, task_of, with_task}
use Rattle.profile_image.specs.declared.image.Image.{Image}
use Rattle.profile_image.specs.declared.numbers.DeclNo.{DeclNo}
use Rattle.profile_image.specs.declared.numbers.ProtectedUnitNo.{ProtectedUnitNo}
use Rattle.profile_image.specs.declared.numbers.StatementNo.{StatementNo}
use Rattle.profile_image.specs.declared.script_items.Item.{Item}
use Rattle.profile_image.specs.declared.values.Value.TheVariants as value_of
use Rattle.profile_machine.specs.declared.world.World.{World}
use Rattle.profile_machine.specs.declared.world.appointments.Due.TheVariants as due_for
use Rattle.profile_machine.specs.declared.world.lines.Line.{Line}
use Rattle.profile_machine.specs.declared.world.lines.Line.TheVariants as line
use Rattle.profile_machine.specs.declared.world.lines.Part.{Part}
use Rattle.profile_machine.specs.declared.world.lines.Part.TheVariants.{Own, TheBlock, ThePlacing}
use Rattle.profile_machine.specs.declared.world.lines.Said.{Said}
use Rattle.profile_machine.specs.declared.world.marks.Purpose.TheVariants as opened_for
use Rattle.profile_machine.specs.declared.world.scopes.Located.{Located}
use Rattle.profile_machine.specs.declared.world.scopes.ScopeId.{ScopeId}
use Rattle.profile_machine.specs.declared.world.tasks.Task.{Task}
use Rattle.std.proofs.Common.{List, None, Option, Some, [], ap, arith, cond, eqb, false, refl, subst, suc, sym, true, ℕ, ◌++◌, ◌<◌, ◌∙◌, ◌∷◌, ◌≡◌}
use Rattle.std.specs.Prelude.{is_none, ℤ, ◌-◌}
use Rattle.trace_text.specs.Laws.{ceilings_after, level_of}
use Rattle.trace_text.specs.declared.events.Created.TheVariants as created
use Rattle.trace_text.specs.declared.events.Event.{Event}
use Rattle.trace_text.specs.declared.events.Event.TheVariants as written
use Rattle.trace_text.specs.declared.events.Who.{Who}
use Rattle.trace_text.specs.declared.events.Who.TheVariants as who
use Rattle.blocking_laws.specs.NumberLines.{RunsNumberObjects, is_object_new}

-- ---- lines

abbrev Shown : Type 0
Shown = List (ℕ × ℕ)

-- of which object, with which ceiling
abbrev object_in : Line → Option (ℕ × ℕ)
object_in (line.New (created.Object o) declared level) = Some (o.0, level)
object_in _ = None

abbrev IsNumbered : Shown → ℕ × ℕ → Type 0
IsNumbered s e = is_none (level_of e.0 s) ≡ true

abbrev one_more : Shown → ℕ × ℕ → Shown
one_more s e = e ∷ s

abbrev ToldOf : List Said → Shown → Shown → Type 0
ToldOf = Told object_in IsNumbered one_more

abbrev told_of : Part → Option (ℕ × ℕ) → Shown → (Shown → Type 0) → Type 0
told_of = told object_in IsNumbered one_more

abbrev Next : Image → Line → Shown → (Shown → Type 0) → Type 0
Next p x s f = (t : Shown) × (is_object_new s (event_of p x) ≡ true) × (ceilings_after s (event_of p x) ≡ t) × f t

event-told : (p : Image) (x : Line) (part : Part) (s : Shown) (f : Shown → Type 0) → told_of part (object_in x) s f → Next p x s f
event-told p (line.New (created.Object o) declared level) part s f h = ((o.0, level) ∷ s, h.1, refl, h.2)
event-told p _ part s f h = (s, refl, refl, h)

told-follow : (p : Image) (xs : List Said) (s t : Shown) → ToldOf xs s t
    → Follow ceilings_after is_object_new s (events_of p xs) × (seen_behind ceilings_after is_object_new s (events_of p xs) ≡ t)
told-follow p [] s t h = (tt, h)
told-follow p (x ∷ xs) s t h =
    let e = event-told p x.line x.part s (λ q. ToldOf xs q t) h in
    let rest = told-follow p xs e.0 t e.3 in (
      (e.1, subst (λ q. Follow ceilings_after is_object_new q (events_of p xs)) (sym e.2) rest.0),
      ap (λ q. seen_behind ceilings_after is_object_new q (events_of p xs)) e.2 ∙ rest.1,
    )

none-told : (part : Part) (e : Option (ℕ × ℕ)) (s : Shown) → e ≡ None → told_of part e s (λ q. q ≡ s)
none-told part None s is = refl
none-told part (Some e) s is = absurd cc

quiet-none : (x : Line) → is_apart x ≡ false → object_in x ≡ None
quiet-none (line.New what declared level) e = cc
quiet-none _ e = refl

-- ---- what lines and worlds have in common: no number that was not drawn is shown

ShowsDrawn : Shown → World → Type 0
ShowsDrawn s w = (n : ℕ) → w.drawn.objects < n → level_of n s ≡ None

TellsDrawn : Shown → State
TellsDrawn s w said = (t : Shown) × ToldOf said s t × ShowsDrawn t w

line-kept : (s : Shown) (part : Part) (x : Line) (w : World) (said : List Said) → object_in x ≡ None → TellsDrawn s w said
    → TellsDrawn s w (said ++ said_so part x ∷ [])
unfolding TellsDrawn
line-kept s part x w said none h = (
  h.0,
  Told-append object_in IsNumbered one_more said (said_so part x ∷ []) s h.0 h.0 h.1 (none-told part (object_in x) h.0 none),
  h.2,
)

world-kept : (s : Shown) (a b : World) (said : List Said) → b.drawn.objects ≡ a.drawn.objects → TellsDrawn s a said → TellsDrawn s b said
unfolding TellsDrawn ShowsDrawn
world-kept s a b said drawn h = (h.0, h.1, λ n high. h.2 n (subst (λ d. d < n) drawn high))

higher : (n d : ℕ) → suc d < n → eqb n (suc d) ≡ false
higher n d h = grind arith

below : (n d : ℕ) → suc d < n → d < n
below n d h = omega (arith, h)

next : (d : ℕ) → d < suc d
next d = omega arith

none-is : (found : Option ℕ) → found ≡ None → is_none found ≡ true
none-is None e = refl
none-is (Some level) e = absurd cc

module _ (p : Image) (s : Shown) where
  drawn_quiet : Silences (TellsDrawn s)
  drawn_quiet = record {
    silently = λ a b said same h. world-kept s a b said same.drawn_objects h;
    says = λ part line w said other h. line-kept s part line w said (quiet-none line other) h;
    ends_scope = λ id w said h. world-kept s w _ said refl h;
  }

  drawn_says : (part : Part) (x : Line) → object_in x ≡ None → Keeps (TellsDrawn s) (says part x)
  unfolding Ends
  drawn_says part x none = record { runs = λ w said h. line-kept s part x w said none h }

  edit_found-kept : (name : Who) (f : Task → Task) (w : World) (said : List Said) (found : Option Task) → TellsDrawn s w said
      → TellsDrawn s (edit_task_found name f w found) said
  edit_found-kept name f w said None h = h
  edit_found-kept (who.Task n) f w said (Some t) h = world-kept s w (with_task (who.Task n) (f t) w) said refl h
  edit_found-kept who.Agent f w said (Some t) h = world-kept s w (with_task who.Agent (f t) w) said refl h

  drawn_edits : (name : Who) (f : Task → Task) → Alters (TellsDrawn s) (edit_task name f)
  drawn_edits name f = record { turns = λ w said h. edit_found-kept name f w said (task_at w name) h }

  drawn_plain : (f : World → World) → ((w : World) → (f w).drawn.objects ≡ w.drawn.objects) → Alters (TellsDrawn s) f
  drawn_plain f drawn = record { turns = λ w said h. world-kept s w (f w) said (drawn w) h }

  drawn_made : (l : Located) (u : ProtectedUnitNo) → Keeps (TellsDrawn s) (changes (with_object p l u) ▷ says_object p l u)
  unfolding says_object Ends TellsDrawn ShowsDrawn
  drawn_made l u = record {
    runs = λ w said h.
        let d = w.drawn.objects in
        let level = (protected_unit_of p u).ceiling in
        let x = said_so Own (line.New (created.Object (record { 0 = suc d })) (Some l.declared) level) in
        let t : Shown = (suc d, level) ∷ h.0 in (
          t,
          Told-append object_in IsNumbered one_more said (x ∷ []) s h.0 t h.1 (refl, none-is (level_of (suc d) h.0) (h.2 (suc d) (next d)), refl),
          λ n high. ap (λ b. cond b (Some level) (level_of n h.0)) (higher n d high) ∙ h.2 n (below n d high),
        );
  }

  drawn_base : FreeBase p EveryPart (TellsDrawn s)
  drawn_base = record {
    quiet = drawn_quiet;
    edits = λ name f same_who same_base same_deferred. drawn_edits name f;
    readies = λ part name end fits. ready_by_line p part name end (λ level deadline. drawn_says part (line.Ready name level end deadline) refl);
    blocks = λ name waits. drawn_says TheBlock (line.Block name waits) refl;
    ends = λ part t fits. drawn_says part (line.Done t) refl;
    exits = λ name o. drawn_says Own (line.Exit name o) refl;
    appoints = λ t moment. drawn_plain (appoint (due_for.Delay t) moment) (λ w. refl);
    forgets = λ name. drawn_plain (forget_task name) (λ w. refl);
  }

  drawn_created : (name : Who) (st : StatementNo) (d : DeclNo) (id : Option ScopeId) (t : Task) → Keeps (TellsDrawn s) (create_task p name st d id t)
  unfolding create_task says_created
  drawn_created name st d id t =
      then-keeps _ _ (goes-keeps (fine drawn_quiet) name (next_of p st))
      (then-keeps _ _ (changes-keeps _ (drawn_plain (add_task t) (λ w. refl)))
      (then-keeps _ _
      (for_some-keeps id _
      (λ within. looks-keeps _
      (λ w. changes-keeps _
      (same-alters drawn_quiet _
      (λ u. fine_same u _ (set_thing-same p (record { within = within; declared = d }) (value_of.Task (Some (record { 0 = w.drawn.tasks - 1 }))) u))))))
      (looks-keeps _ (λ w. drawn_says Own (line.New (created.Task (record { 0 = w.drawn.tasks - 1 })) (Some d) t.base) refl))))

  drawn_takes : (level : ℕ)
      → Keeps (TellsDrawn s) (changes (edit_task who.Agent (λ u. record u { deferred_base = None })) ▷ set_base p ThePlacing ThePlacing who.Agent level)
  unfolding set_base says_base
  drawn_takes level =
      then-keeps _ _ (changes-keeps _ (drawn_edits who.Agent (λ u. record u { deferred_base = None })))
      (then-keeps _ _ (changes-keeps _ (drawn_edits who.Agent (λ u. record u { base = level })))
      (then-keeps _ _ nothing-keeps (looks-keeps _ (λ w. replace_in-free drawn_base ThePlacing who.Agent (task_of w who.Agent).state tt))))

  drawn_bases : (part : Part) (t : TaskNo) (level : ℕ)
      → Keeps (TellsDrawn s) (changes (edit_task (who.Task t) (λ u. record u { base = level })) ▷ says part (line.Base t level))
  drawn_bases part t level =
      then-keeps _ _ (changes-keeps _ (drawn_edits (who.Task t) (λ u. record u { base = level }))) (drawn_says part (line.Base t level) refl)

  drawn_free : (actor : Who) → FreeMoves p actor anywhere (TellsDrawn s) (TellsDrawn s) (TellsDrawn s)
  drawn_free actor = record {
    fresh = drawn_quiet;
    appoints_first = λ t moment. drawn_plain (appoint (due_for.Delay t) moment) (λ w. refl);
    later = drawn_base;
    entered = late_base drawn_base;
    starts = λ w said h. h;
    may = λ w o mode e. tt;
    may_held = λ w o mode e. tt;
    may_on = λ a b o same m. tt;
    enters = λ o mode. from-leads (says Own (line.Enter actor o mode)) (λ w said h. h.0) (drawn_says Own (line.Enter actor o mode) refl);
    finds_held =
        λ o mode.
        from-leads _ (λ w said h. h.0) (later-leads (says Own (line.Held actor o mode)) (λ w said h. h) (drawn_says Own (line.Held actor o mode) refl));
    bases_first = λ t level. drawn_bases (part_of actor (who.Task t)) t level;
    bases = λ t level. drawn_bases ThePlacing t level;
    defers = λ t deferred. drawn_edits (who.Task t) (λ u. record u { deferred_base = deferred });
    takes = λ v level is. from_at _ (drawn_takes level);
    creates = λ st d id t. from-leads (create_task p actor st d id t) (λ w said h. h.0) (drawn_created actor st d id t);
    makes = drawn_made;
  }

  drawn_opens : Keeps (TellsDrawn s) (opens p)
  unfolding opens
  drawn_opens =
      then-keeps _ _ (changes-keeps _ (open_scope-alters (fine drawn_quiet) p environment p.environment (plainly None) opened_for.Task))
      (then-keeps _ _ (drawn_says Own (line.New (created.Task (record { 0 = 0 })) None p.main.priority) refl)
      (then-keeps _ _ (to_tail-free drawn_base Own environment tt) (open_sequence-keeps (fine drawn_quiet) p Own environment)))

-- ---- runs

drawn_settles : (p : Image) (s : Shown) → Settles ceilings_after is_object_new ShowsDrawn p s (TellsDrawn s)
unfolding TellsDrawn ShowsDrawn
drawn_settles p s v xs h =
    let lines = told-follow p (in_order xs) s h.0 (Told-in_order object_in IsNumbered one_more xs s h.0 h.1) in
    record { follow = lines.0; shows = λ n high. ap (level_of n) lines.1 ∙ h.2 n high }

drawn_start : (s : Shown) (w : World) → ShowsDrawn s w → TellsDrawn s w []
unfolding TellsDrawn
drawn_start s w h = (s, refl, h)

drawn_instants : (p : Image) → Instants ceilings_after is_object_new ShowsDrawn p
drawn_instants p = free_instants ceilings_after is_object_new ShowsDrawn TellsDrawn (drawn_free p) drawn_start (drawn_settles p)

tock-right : (s : Shown) (event : Event) → is_of_tock event ≡ true → is_object_new s event ≡ true
tock-right s (written.New what declared level) e = absurd cc
tock-right s _ e = refl

tock_line-still : (s : Shown) (event : Event) → is_of_tock event ≡ true → ceilings_after s event ≡ s
tock_line-still s (written.New what declared level) e = absurd cc
tock_line-still s _ e = refl

tock_lines-still : (s : Shown) (lines : List Event) → AllAre is_of_tock lines → seen_behind ceilings_after is_object_new s lines ≡ s
tock_lines-still s [] a = refl
tock_lines-still s (x ∷ xs) a =
    ap (λ q. seen_behind ceilings_after is_object_new q xs) (tock_line-still s x a.0) ∙ tock_lines-still s xs a.1

tocks_lead : (p : Image) (s : Shown) (w : World) → ShowsDrawn s w → Leads_on ceilings_after is_object_new ShowsDrawn s (tock p w).1 (tock p w).0
unfolding ShowsDrawn
tocks_lead p s w h = record {
  follow = Follow-all ceilings_after is_object_new is_of_tock tock-right s (tock p w).1 (tocks_say_ticks p w);
  shows = λ n high. ap (level_of n) (tock_lines-still s (tock p w).1 (tocks_say_ticks p w))
      ∙ h n (subst (λ d. d < n) (tock-same p w).drawn_objects high);
}

nothing-drawn : (p : Image) (script : List (ℤ × Item)) → ShowsDrawn [] (blank_world p script)
unfolding ShowsDrawn
nothing-drawn p script n high = refl

object_numbers : OfRuns ceilings_after is_object_new ShowsDrawn []
object_numbers = record {
  openings = λ p script. settles_onward ceilings_after is_object_new ShowsDrawn p [] (TellsDrawn []) (TellsDrawn []) (opens p) (blank_world p script)
      (drawn_settles p []) (drawn_opens p []) (drawn_start [] (blank_world p script) (nothing-drawn p script));
  instants = λ p s w h. instant_onward ceilings_after is_object_new ShowsDrawn (drawn_instants p) s w h;
  tocks = tocks_lead;
  ends = λ p bound s w reason shown e. refl;
  bound = λ s. refl;
}

pub runs_number_objects : RunsNumberObjects
runs_number_objects p script bound = run-at_each_line ceilings_after is_object_new object_numbers p script bound
