-- The lines of a run tell the ceilings of the protected objects that are there.
use Rattle.ann_base.specs.declared.identities.ObjectNo.{ObjectNo}
use Rattle.ann_base.specs.declared.identities.TaskNo.{TaskNo}
use Rattle.ceiling_laws.proofs.Runs.CoreLemmas.{shown-fewer, shown-same}
use Rattle.ceiling_laws.proofs.Runs.FoldOrder.{Ordered, Sooner, fold, fold-append, fold-in_order, ordered-append, sooner-append}
use Rattle.ceiling_laws.proofs.Runs.FreeMoves.{EveryPart, FreeBase, FreeMoves, anywhere, late_base, ready_by_line, replace_in-free, to_tail-free}
use Rattle.ceiling_laws.proofs.Fine.Kept.Declarations.{set_thing-same}
use Rattle.ceiling_laws.proofs.Fine.Kept.Frames.{goes-keeps, open_sequence-keeps}
use Rattle.ceiling_laws.proofs.Fine.Kept.Scopes.{open_scope-alters}
use Rattle.ceiling_laws.proofs.Runs.Kept.Tasks.{same-alters}
use Rattle.ceiling_laws.proofs.Runs.LevelMoves.{Silences, is_apart, said_so}
use Rattle.ceiling_laws.proofs.Runs.RunLemmas.{Instants, Settles, free_instants, instant_onward, settles_onward}
use Rattle.ceiling_laws.proofs.Runs.TockLemmas.{tock-same}
use Rattle.ceiling_laws.proofs.Runs.Triples.{Alters, Ends, Keeps, State, changes-keeps, for_some-keeps}
use Rattle.ceiling_laws.proofs.Runs.Triples.{from-leads, from_at, looks-keeps, nothing-keeps, then-keeps}
use Rattle.ceiling_laws.specs.Cores.{ceiling_in}
use Rattle.ceiling_laws.specs.RunLaws.{AreCeilingsShown, CeilingsAreTold, Tells, ceilings_told, told_first, told_on}
use Rattle.ceiling_laws.proofs.Runs.Finer.{fine, fine_same}
use Rattle.machine_laws.proofs.LineLemmas.{tocks_say_ticks}
use Rattle.machine_laws.proofs.Moves.{lines_of}
use Rattle.machine_laws.specs.LineKinds.{AllAre, is_of_tock}
use Rattle.profile_machine.specs.Appointments.{appoint}
use Rattle.profile_machine.specs.Declarations.{new_object, says_object, with_object}
use Rattle.profile_machine.specs.Instant.{instant}
use Rattle.profile_machine.specs.Lines.{event_of}
use Rattle.profile_machine.specs.Masters.{forget_task, part_of}
use Rattle.profile_machine.specs.Priorities.{says_base, set_base}
use Rattle.profile_image.specs.Program.{next_of, protected_unit_of}
use Rattle.profile_machine.specs.Run.{blank_world, environment, opening, opens, tock}
use Rattle.profile_machine.specs.Scopes.{goes_with, plainly}
use Rattle.profile_machine.specs.Steps.{changes, in_order, says, ◌▷◌}
use Rattle.profile_machine.specs.Tasking.{add_task, create_task, says_created}
use Rattle.profile_machine.specs.Tasks.{edit_task, edit_task_found, task_at, task_of, with_task}
use Rattle.profile_image.specs.declared.image.Image.{Image}
use Rattle.profile_image.specs.declared.numbers.DeclNo.{DeclNo}
use Rattle.profile_image.specs.declared.numbers.ProtectedUnitNo.{ProtectedUnitNo}
use Rattle.profile_image.specs.declared.numbers.StatementNo.{StatementNo}
use Rattle.profile_image.specs.declared.script_items.Item.{Item}
use Rattle.profile_image.specs.declared.values.Value.TheVariants as value_of
use Rattle.profile_machine.specs.declared.world.World.{World}
use Rattle.profile_machine.specs.declared.world.appointments.Due.TheVariants as due_for
use Rattle.profile_machine.specs.declared.world.lines.Line.{Line}
use Rattle.profile_machine.specs.declared.world.lines.Line.TheVariants as line
use Rattle.profile_machine.specs.declared.world.lines.Part.{Part}
use Rattle.profile_machine.specs.declared.world.lines.Part.TheVariants.{Own, TheBlock, ThePlacing}
use Rattle.profile_machine.specs.declared.world.lines.Said.{Said}
use Rattle.profile_machine.specs.declared.world.marks.Purpose.TheVariants as opened_for
use Rattle.profile_machine.specs.declared.world.objects.Object.{Object}
use Rattle.profile_machine.specs.declared.world.scopes.Located.{Located}
use Rattle.profile_machine.specs.declared.world.scopes.ScopeId.{ScopeId}
use Rattle.profile_machine.specs.declared.world.tasks.Task.{Task}
use Rattle.std.proofs.Common.{Bool, List, None, Option, Some, [], ap, arith, cond, eq-eqb, eqb}
use Rattle.std.proofs.Common.{false, map, refl, subst, suc, sym, true, ℕ, ◌++◌, ◌∙◌, ◌∷◌, ◌≡◌, ◌≤◌}
use Rattle.std.specs.Prelude.{filter, not, ℤ, ◌-◌}
use Rattle.line_laws.proofs.Ticks.LineByLine.{Follow, seen_behind, seen_behind-append}
use Rattle.trace_text.specs.Laws.{ceilings_after, level_of}
use Rattle.trace_text.specs.declared.events.Created.TheVariants as created
use Rattle.trace_text.specs.declared.events.Event.{Event}
use Rattle.trace_text.specs.declared.events.Event.TheVariants as written
use Rattle.trace_text.specs.declared.events.Who.{Who}
use Rattle.trace_text.specs.declared.events.Who.TheVariants as who
use Rattle.ceiling_laws.proofs.Runs.ActingMoves.{later-leads}

abbrev is_object_line : Line → Bool
is_object_line (line.New (created.Object o) declared level) = true
is_object_line _ = false

abbrev ceilings_by : List (ℕ × ℕ) → Line → List (ℕ × ℕ)
ceilings_by shown (line.New (created.Object o) declared level) = (o.0, level) ∷ shown
ceilings_by shown _ = shown

ceilings_still : (shown : List (ℕ × ℕ)) (x : Line) → is_object_line x ≡ false → ceilings_by shown x ≡ shown
ceilings_still shown (line.New (created.Object o) declared level) e = cc
ceilings_still shown _ e = refl

ceilings-event : (p : Image) (shown : List (ℕ × ℕ)) (x : Line) → ceilings_after shown (event_of p x) ≡ ceilings_by shown x
ceilings-event p shown (line.New (created.Object o) declared level) = refl
ceilings-event p shown _ = refl

abbrev told : List (ℕ × ℕ) → List Said → List (ℕ × ℕ)
told = fold ceilings_by is_object_line

-- the numbers of these objects were drawn
abbrev AreDrawn : ℕ → List (ObjectNo × ℕ) → Type 0
AreDrawn drawn [] = Unit {0}
AreDrawn drawn (x ∷ xs) = (x.0.0 ≤ drawn) × AreDrawn drawn xs

-- what lines and worlds have in common
ShowsCeilings : List (ℕ × ℕ) → World → Type 0
ShowsCeilings shown w = AreCeilingsShown shown w.objects × AreDrawn w.drawn.objects (map ceiling_in w.objects)

TellsCeilings : List (ℕ × ℕ) → State
TellsCeilings shown w said = Ordered ceilings_by is_object_line said × Sooner ceilings_by is_object_line Own said × ShowsCeilings (told shown said) w

drawn-test : (b : Bool) (drawn : ℕ) (x : Object) (xs : List Object) → x.number.0 ≤ drawn → AreDrawn drawn (map ceiling_in xs)
    → AreDrawn drawn (map ceiling_in (cond b (x ∷ xs) xs))
drawn-test true drawn x xs a h = (a, h)
drawn-test false drawn x xs a h = h

drawn-fewer : (drawn : ℕ) (test : Object → Bool) (xs : List Object) → AreDrawn drawn (map ceiling_in xs) → AreDrawn drawn (map ceiling_in (filter test xs))
drawn-fewer drawn test [] h = tt
drawn-fewer drawn test (x ∷ xs) h = drawn-test (test x) drawn x (filter test xs) h.0 (drawn-fewer drawn test xs h.1)

drawn-more : (drawn more : ℕ) (xs : List (ObjectNo × ℕ)) → drawn ≤ more → AreDrawn drawn xs → AreDrawn more xs
drawn-more drawn more [] a h = tt
drawn-more drawn more (x ∷ xs) a h = (omega (arith, a, h.0), drawn-more drawn more xs a h.1)

other_line-kept : (shown : List (ℕ × ℕ)) (part : Part) (x : Line) (w : World) (said : List Said) → is_object_line x ≡ false → TellsCeilings shown w said
    → TellsCeilings shown w (said ++ said_so part x ∷ [])
unfolding TellsCeilings
other_line-kept shown part x w said e h = (
  ordered-append ceilings_by is_object_line said (said_so part x) h.0 (λ t. absurd (let never : false ≡ true = sym e ∙ t in cc)),
  sooner-append ceilings_by is_object_line Own said (said_so part x) h.1 (λ t. absurd (let never : false ≡ true = sym e ∙ t in cc)),
  subst (λ s. ShowsCeilings s w) (sym (fold-append ceilings_by is_object_line shown said (said_so part x ∷ []) ∙ ceilings_still (told shown said) x e)) h.2,
)

plain_kept : (shown : List (ℕ × ℕ)) (a b : World) (said : List Said) → b.objects ≡ a.objects → b.drawn.objects ≡ a.drawn.objects → TellsCeilings shown a said
    → TellsCeilings shown b said
unfolding TellsCeilings ShowsCeilings
plain_kept shown a b said objects drawn h = (
  h.0,
  h.1,
  (
    subst (AreCeilingsShown (told shown said)) (sym objects) h.2.0,
    subst (λ n. AreDrawn n (map ceiling_in b.objects)) (sym drawn) (subst (λ xs. AreDrawn a.drawn.objects (map ceiling_in xs)) (sym objects) h.2.1),
  ),
)

quiet-no_object : (x : Line) → is_apart x ≡ false → is_object_line x ≡ false
quiet-no_object (line.New what declared level) e = cc
quiet-no_object _ e = refl

module _ (p : Image) (shown : List (ℕ × ℕ)) where
  ceilings_quiet : Silences (TellsCeilings shown)
  unfolding TellsCeilings ShowsCeilings
  ceilings_quiet = record {
    silently = λ a b said same h. (
      h.0,
      h.1,
      (
        shown-same (told shown said) a.objects b.objects same.objects h.2.0,
        subst (λ n. AreDrawn n (map ceiling_in b.objects)) (sym same.drawn_objects) (subst (AreDrawn a.drawn.objects) (sym same.objects) h.2.1),
      ),
    );
    says = λ part line w said other h. other_line-kept shown part line w said (quiet-no_object line other) h;
    ends_scope = λ id w said h. (
      h.0,
      h.1,
      (shown-fewer (told shown said) (λ x. not (goes_with id x)) w.objects h.2.0, drawn-fewer w.drawn.objects (λ x. not (goes_with id x)) w.objects h.2.1),
    );
  }

  ceilings_says : (part : Part) (x : Line) → is_object_line x ≡ false → Keeps (TellsCeilings shown) (says part x)
  unfolding Ends
  ceilings_says part x e = record { runs = λ w said h. other_line-kept shown part x w said e h }

  edit_found-kept : (name : Who) (f : Task → Task) (w : World) (said : List Said) (found : Option Task) → TellsCeilings shown w said
      → TellsCeilings shown (edit_task_found name f w found) said
  edit_found-kept name f w said None h = h
  edit_found-kept (who.Task n) f w said (Some t) h = plain_kept shown w (with_task (who.Task n) (f t) w) said refl refl h
  edit_found-kept who.Agent f w said (Some t) h = plain_kept shown w (with_task who.Agent (f t) w) said refl refl h

  ceilings_edits : (name : Who) (f : Task → Task) → Alters (TellsCeilings shown) (edit_task name f)
  ceilings_edits name f = record { turns = λ w said h. edit_found-kept name f w said (task_at w name) h }

  ceilings_plain : (f : World → World) → ((w : World) → (f w).objects ≡ w.objects) → ((w : World) → (f w).drawn.objects ≡ w.drawn.objects)
      → Alters (TellsCeilings shown) f
  ceilings_plain f objects drawn = record { turns = λ w said h. plain_kept shown w (f w) said (objects w) (drawn w) h }

  -- a new object, and the line that tells it
  newest : (drawn n : ℕ) → n ≤ drawn → eqb n (suc drawn) ≡ false
  newest drawn n h = grind arith

  older-shown : (drawn level : ℕ) (s : List (ℕ × ℕ)) (xs : List Object) → AreCeilingsShown s xs → AreDrawn drawn (map ceiling_in xs)
      → AreCeilingsShown ((suc drawn, level) ∷ s) xs
  older-shown drawn level s [] h d = tt
  older-shown drawn level s (x ∷ xs) h d = (
    ap (λ t. cond t (Some level) (level_of x.number.0 s)) (newest drawn x.number.0 d.0) ∙ h.0,
    older-shown drawn level s xs h.1 d.1,
  )

  ceilings_made : (l : Located) (u : ProtectedUnitNo) → Keeps (TellsCeilings shown) (changes (with_object p l u) ▷ says_object p l u)
  unfolding says_object Ends TellsCeilings ShowsCeilings
  ceilings_made l u = record {
    runs = λ w said h.
        let n = suc w.drawn.objects in
        let level = (protected_unit_of p u).ceiling in
        let x = said_so Own (line.New (created.Object (record { 0 = n })) (Some l.declared) level) in
        let s = told shown said in (
          ordered-append ceilings_by is_object_line said x h.0 (λ t. h.1),
          sooner-append ceilings_by is_object_line Own said x h.1 (λ t. refl),
          (
            subst (λ q. AreCeilingsShown q (new_object p l u n ∷ w.objects)) (sym (fold-append ceilings_by is_object_line shown said (x ∷ [])))
                (ap (λ t. cond t (Some level) (level_of n s)) (eq-eqb n n refl), older-shown w.drawn.objects level s w.objects h.2.0 h.2.1),
            (omega arith, drawn-more w.drawn.objects n (map ceiling_in w.objects) (omega arith) h.2.1),
          ),
        );
  }

  ceilings_base : FreeBase p EveryPart (TellsCeilings shown)
  ceilings_base = record {
    quiet = ceilings_quiet;
    edits = λ name f same_who same_base same_deferred. ceilings_edits name f;
    readies = λ part name end fits. ready_by_line p part name end (λ level deadline. ceilings_says part (line.Ready name level end deadline) refl);
    blocks = λ name waits. ceilings_says TheBlock (line.Block name waits) refl;
    ends = λ part t fits. ceilings_says part (line.Done t) refl;
    exits = λ name o. ceilings_says Own (line.Exit name o) refl;
    appoints = λ t moment. ceilings_plain (appoint (due_for.Delay t) moment) (λ w. refl) (λ w. refl);
    forgets = λ name. ceilings_plain (forget_task name) (λ w. refl) (λ w. refl);
  }

  ceilings_created : (name : Who) (s : StatementNo) (d : DeclNo) (id : Option ScopeId) (t : Task) → Keeps (TellsCeilings shown) (create_task p name s d id t)
  unfolding create_task says_created
  ceilings_created name s d id t =
      then-keeps _ _ (goes-keeps (fine ceilings_quiet) name (next_of p s))
      (then-keeps _ _ (changes-keeps _ (ceilings_plain (add_task t) (λ w. refl) (λ w. refl)))
      (then-keeps _ _
      (for_some-keeps id _
      (λ within. looks-keeps _
      (λ w. changes-keeps _
      (same-alters ceilings_quiet _
      (λ u. fine_same u _ (set_thing-same p (record { within = within; declared = d }) (value_of.Task (Some (record { 0 = w.drawn.tasks - 1 }))) u))))))
      (looks-keeps _ (λ w. ceilings_says Own (line.New (created.Task (record { 0 = w.drawn.tasks - 1 })) (Some d) t.base) refl))))

  ceilings_takes : (level : ℕ)
      → Keeps (TellsCeilings shown) (changes (edit_task who.Agent (λ u. record u { deferred_base = None })) ▷ set_base p ThePlacing ThePlacing who.Agent level)
  unfolding set_base says_base
  ceilings_takes level =
      then-keeps _ _ (changes-keeps _ (ceilings_edits who.Agent (λ u. record u { deferred_base = None })))
      (then-keeps _ _ (changes-keeps _ (ceilings_edits who.Agent (λ u. record u { base = level })))
      (then-keeps _ _ nothing-keeps (looks-keeps _ (λ w. replace_in-free ceilings_base ThePlacing who.Agent (task_of w who.Agent).state tt))))

  ceilings_bases : (part : Part) (t : TaskNo) (level : ℕ)
      → Keeps (TellsCeilings shown) (changes (edit_task (who.Task t) (λ u. record u { base = level })) ▷ says part (line.Base t level))
  ceilings_bases part t level =
      then-keeps _ _ (changes-keeps _ (ceilings_edits (who.Task t) (λ u. record u { base = level }))) (ceilings_says part (line.Base t level) refl)

  ceilings_free : (actor : Who) → FreeMoves p actor anywhere (TellsCeilings shown) (TellsCeilings shown) (TellsCeilings shown)
  ceilings_free actor = record {
    fresh = ceilings_quiet;
    appoints_first = λ t moment. ceilings_plain (appoint (due_for.Delay t) moment) (λ w. refl) (λ w. refl);
    later = ceilings_base;
    entered = late_base ceilings_base;
    starts = λ w said h. h;
    may = λ w o mode e. tt;
    may_held = λ w o mode e. tt;
    may_on = λ a b o same m. tt;
    enters = λ o mode. from-leads (says Own (line.Enter actor o mode)) (λ w said h. h.0) (ceilings_says Own (line.Enter actor o mode) refl);
    finds_held = λ o mode. from-leads _ (λ w said h. h.0) (later-leads (says Own (line.Held actor o mode)) (λ w said h. h) (ceilings_says Own (line.Held actor o mode) refl));
    bases_first = λ t level. ceilings_bases (part_of actor (who.Task t)) t level;
    bases = λ t level. ceilings_bases ThePlacing t level;
    defers = λ t deferred. ceilings_edits (who.Task t) (λ u. record u { deferred_base = deferred });
    takes = λ v level is. from_at _ (ceilings_takes level);
    creates = λ s d id t. from-leads (create_task p actor s d id t) (λ w said h. h.0) (ceilings_created actor s d id t);
    makes = ceilings_made;
  }

-- ---- runs

abbrev pub any_event : List (ℕ × ℕ) → Event → Bool
any_event shown event = true

any_follow : (shown : List (ℕ × ℕ)) (lines : List Event) → Follow ceilings_after any_event shown lines
any_follow shown [] = tt
any_follow shown (x ∷ xs) = (refl, any_follow (ceilings_after shown x) xs)

seen-told : (p : Image) (shown : List (ℕ × ℕ)) (xs : List Said) → seen_behind ceilings_after any_event shown (map (λ x. event_of p x.line) xs) ≡ told shown xs
seen-told p shown [] = refl
seen-told p shown (x ∷ xs) = seen-told p (ceilings_after shown (event_of p x.line)) xs ∙ ap (λ s. told s xs) (ceilings-event p shown x.line)

module _ (p : Image) where
  ceilings_settle : (shown : List (ℕ × ℕ)) → Settles ceilings_after any_event ShowsCeilings p shown (TellsCeilings shown)
  unfolding TellsCeilings ShowsCeilings
  ceilings_settle shown v xs h = record {
    follow = any_follow shown (lines_of p xs);
    shows =
        subst (λ s. AreCeilingsShown s v.objects × AreDrawn v.drawn.objects (map ceiling_in v.objects))
        (sym (seen-told p shown (in_order xs) ∙ fold-in_order ceilings_by is_object_line ceilings_still shown xs h.0)) h.2;
  }

  ceilings_start : (shown : List (ℕ × ℕ)) (w : World) → ShowsCeilings shown w → TellsCeilings shown w []
  unfolding TellsCeilings
  ceilings_start shown w h = (tt, tt, h)

  ceilings_instants : Instants ceilings_after any_event ShowsCeilings p
  ceilings_instants = free_instants ceilings_after any_event ShowsCeilings TellsCeilings (ceilings_free p) ceilings_start ceilings_settle

  instant-ceilings : (shown : List (ℕ × ℕ)) (w : World) → ShowsCeilings shown w
      → ShowsCeilings (seen_behind ceilings_after any_event shown (instant p w).1) (instant p w).0
  instant-ceilings shown w h = (instant_onward ceilings_after any_event ShowsCeilings ceilings_instants shown w h).shows

  ceilings_open : (shown : List (ℕ × ℕ)) → Keeps (TellsCeilings shown) (opens p)
  unfolding opens
  ceilings_open shown =
      then-keeps _ _ (changes-keeps _ (open_scope-alters (fine (ceilings_quiet p shown)) p environment p.environment (plainly None) opened_for.Task))
      (then-keeps _ _ (ceilings_says p shown Own (line.New (created.Task (record { 0 = 0 })) None p.main.priority) refl)
      (then-keeps _ _ (to_tail-free (ceilings_base p shown) Own environment tt) (open_sequence-keeps (fine (ceilings_quiet p shown)) p Own environment)))

  opening-ceilings : (script : List (ℤ × Item)) → ShowsCeilings (seen_behind ceilings_after any_event [] (opening p script).1) (opening p script).0
  unfolding ShowsCeilings
  opening-ceilings script =
      (settles_onward ceilings_after any_event ShowsCeilings p [] (TellsCeilings []) (TellsCeilings []) (opens p) (blank_world p script) (ceilings_settle [])
      (ceilings_open []) (ceilings_start [] (blank_world p script) (tt, tt))).shows

seen-is-told : (shown : List (ℕ × ℕ)) (lines : List Event) → seen_behind ceilings_after any_event shown lines ≡ ceilings_told shown lines
seen-is-told shown [] = refl
seen-is-told shown (x ∷ xs) = seen-is-told (ceilings_after shown x) xs

tock_line-ceilings : (shown : List (ℕ × ℕ)) (event : Event) → is_of_tock event ≡ true → ceilings_after shown event ≡ shown
tock_line-ceilings shown (written.New what declared level) e = cc
tock_line-ceilings shown _ e = refl

tock_lines-ceilings : (shown : List (ℕ × ℕ)) (lines : List Event) → AllAre is_of_tock lines → seen_behind ceilings_after any_event shown lines ≡ shown
tock_lines-ceilings shown [] a = refl
tock_lines-ceilings shown (x ∷ xs) a = ap (λ s. seen_behind ceilings_after any_event s xs) (tock_line-ceilings shown x a.0) ∙ tock_lines-ceilings shown xs a.1

tock-ceilings : (p : Image) (shown : List (ℕ × ℕ)) (w : World) → ShowsCeilings shown w
    → ShowsCeilings (seen_behind ceilings_after any_event shown (tock p w).1) (tock p w).0
unfolding ShowsCeilings
tock-ceilings p shown w h =
    let same = tock-same p w in
    subst (λ s. AreCeilingsShown s (tock p w).0.objects × AreDrawn (tock p w).0.drawn.objects (map ceiling_in (tock p w).0.objects))
    (sym (tock_lines-ceilings shown (tock p w).1 (tocks_say_ticks p w))) (
      shown-same shown w.objects (tock p w).0.objects same.objects h.0,
      subst (λ n. AreDrawn n (map ceiling_in (tock p w).0.objects)) (sym same.drawn_objects) (subst (AreDrawn w.drawn.objects) (sym same.objects) h.1),
    )

told-shown : (p : Image) (script : List (ℤ × Item)) (bound : ℕ) (lines : List Event) (w : World) → Tells p script bound lines w
    → ShowsCeilings (seen_behind ceilings_after any_event [] lines) w
told-shown p script bound _ _ told_first = opening-ceilings p script
told-shown p script bound _ _ (told_on lines w told going) =
    let next = instant p w in
    let first = instant-ceilings p (seen_behind ceilings_after any_event [] lines) w (told-shown p script bound lines w told) in
    let second = tock-ceilings p (seen_behind ceilings_after any_event (seen_behind ceilings_after any_event [] lines) next.1) next.0 first in
    subst (λ s. ShowsCeilings s (tock p next.0).0)
    (ap (λ s. seen_behind ceilings_after any_event s (tock p next.0).1) (sym (seen_behind-append ceilings_after any_event [] lines next.1))
    ∙ sym (seen_behind-append ceilings_after any_event [] (lines ++ next.1) (tock p next.0).1)) second

pub ceilings_are_told : CeilingsAreTold
unfolding ShowsCeilings
ceilings_are_told p script bound lines w told =
    let before = told-shown p script bound lines w told in
    let behind_it = instant-ceilings p (seen_behind ceilings_after any_event [] lines) w before in (
      subst (λ s. AreCeilingsShown s w.objects) (seen-is-told [] lines) before.0,
      subst (λ s. AreCeilingsShown s (instant p w).0.objects)
          (sym (seen_behind-append ceilings_after any_event [] lines (instant p w).1) ∙ seen-is-told [] (lines ++ (instant p w).1)) behind_it.0,
    )
