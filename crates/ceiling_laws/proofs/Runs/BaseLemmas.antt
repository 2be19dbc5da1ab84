-- The lines of a run tell the base priorities of the tasks that are there.
use Rattle.ann_base.specs.declared.identities.TaskNo.{TaskNo}
use Rattle.ceiling_laws.proofs.Runs.ActingMoves.{Either, IsNew, later-leads}
use Rattle.ceiling_laws.proofs.Runs.CoreLemmas.{found-same, seen-found, seen_in}
use Rattle.ceiling_laws.proofs.Runs.FoldOrder.{Ordered, Sooner, fold, fold-append, fold-in_order, ordered-append, sooner-append}
use Rattle.ceiling_laws.proofs.Runs.FoundLemmas.{EditedFound, added-found, edit-found, forgotten-found}
use Rattle.ceiling_laws.proofs.Runs.FreeMoves.{EveryPart, FreeBase, FreeMoves, any_task, any_world, anywhere, free_others}
use Rattle.ceiling_laws.proofs.Runs.FreeMoves.{freely, late_base, ready_by_line, replace_in-free, to_tail-free}
use Rattle.ceiling_laws.proofs.Runs.Kept.Act.{effect-leads}
use Rattle.ceiling_laws.proofs.Fine.Kept.Declarations.{set_thing-same}
use Rattle.ceiling_laws.proofs.Fine.Kept.Frames.{open_sequence-keeps}
use Rattle.ceiling_laws.proofs.Fine.Kept.Scopes.{draw_region-same}
use Rattle.ceiling_laws.proofs.Runs.LevelMoves.{Silences, is_apart, said_so}
use Rattle.ceiling_laws.proofs.Runs.RunLemmas.{Instants, Settles, either_over, instant_onward, settles_onward}
use Rattle.ceiling_laws.proofs.Runs.SameLemmas.{edit_task-same, same_then}
use Rattle.ceiling_laws.proofs.Runs.TockLemmas.{tock-same}
use Rattle.ceiling_laws.proofs.Runs.Triples.{Alters, Ends, Keeps, Leads, State, With, changes-keeps, changes-leads, for_some-keeps}
use Rattle.ceiling_laws.proofs.Runs.Triples.{from-leads, from_at, looks-keeps, nothing-keeps, then-keeps, then-leads}
use Rattle.ceiling_laws.proofs.Places.SoundWorlds.{never}
use Rattle.ceiling_laws.proofs.Runs.CeilingLemmas.{any_event}
use Rattle.ceiling_laws.specs.Cores.{Core, Same, core}
use Rattle.ceiling_laws.specs.RunLaws.{AreBasesShown, BasesAreTold, Tells, bases_told, told_first, told_on}
use Rattle.ceiling_laws.proofs.Runs.Finer.{fine, fine_same}
use Rattle.machine_laws.proofs.LineLemmas.{tocks_say_ticks}
use Rattle.machine_laws.proofs.Moves.{lines_of}
use Rattle.machine_laws.specs.LineKinds.{AllAre, is_of_tock}
use Rattle.profile_machine.specs.Appointments.{appoint}
use Rattle.profile_machine.specs.Declarations.{says_object, set_thing, with_object}
use Rattle.profile_machine.specs.Dispatching.{to_tail}
use Rattle.profile_machine.specs.Frames.{edit_first, edit_top, goes, goes_on, new_frame, open_sequence, push}
use Rattle.profile_machine.specs.Instant.{effect, instant}
use Rattle.profile_machine.specs.Lines.{event_of}
use Rattle.profile_machine.specs.Masters.{forget_task, part_of}
use Rattle.profile_machine.specs.Priorities.{says_base, set_base}
use Rattle.profile_image.specs.Program.{next_of, protected_unit_of, scope_of}
use Rattle.profile_machine.specs.Run.{blank_world, environment, environment_task, opening, opens, tock}
use Rattle.profile_machine.specs.Scopes.{begin_scope, draw_region, end_scope, new_scope_mark, next_id, open_scope, plainly, region_of_next}
use Rattle.profile_machine.specs.Steps.{changes, for_some, in_order, is_part_before, looks, placed_by, says, ◌▷◌}
use Rattle.profile_machine.specs.Tasking.{add_task, create_task, says_created}
use Rattle.profile_machine.specs.Tasks.{edit_task, edit_task_found, is_who, task_at, task_of, with_frames}
use Rattle.profile_machine.specs.WellFormed.{number_in}
use Rattle.profile_image.specs.Words.{same_who}
use Rattle.profile_image.specs.declared.image.Image.{Image}
use Rattle.profile_image.specs.declared.numbers.DeclNo.{DeclNo}
use Rattle.profile_image.specs.declared.numbers.ProtectedUnitNo.{ProtectedUnitNo}
use Rattle.profile_image.specs.declared.numbers.StatementNo.{StatementNo}
use Rattle.profile_image.specs.declared.script_items.Item.{Item}
use Rattle.profile_image.specs.declared.values.Value.{Value}
use Rattle.profile_image.specs.declared.values.Value.TheVariants as value_of
use Rattle.profile_machine.specs.declared.world.World.{World}
use Rattle.profile_machine.specs.declared.world.appointments.Due.TheVariants as due_for
use Rattle.profile_machine.specs.declared.world.lines.Line.{Line}
use Rattle.profile_machine.specs.declared.world.lines.Line.TheVariants as line
use Rattle.profile_machine.specs.declared.world.lines.Part.{Part}
use Rattle.profile_machine.specs.declared.world.lines.Part.TheVariants.{OfOther, Own, TheBlock, ThePlacing}
use Rattle.profile_machine.specs.declared.world.lines.Said.{Said}
use Rattle.profile_machine.specs.declared.world.marks.Purpose.TheVariants as opened_for
use Rattle.profile_machine.specs.declared.world.scopes.Located.{Located}
use Rattle.profile_machine.specs.declared.world.scopes.ScopeId.{ScopeId}
use Rattle.profile_machine.specs.declared.world.tasks.Task.{Task}
use Rattle.std.proofs.Common.{Bool, List, None, Option, Some, [], ap, arith, cond, eq-eqb, eqb, false, inl}
use Rattle.std.proofs.Common.{inr, map, refl, subst, suc, sym, true, ℕ, ◌++◌, ◌<◌, ◌∙◌, ◌∷◌, ◌≡◌, ◌⊎◌}
use Rattle.std.proofs.lemmas.Bool.{eqb-true}
use Rattle.std.specs.Prelude.{find, option_map, ℤ, ◌-◌}
use Rattle.line_laws.proofs.Ticks.LineByLine.{Follow, seen_behind, seen_behind-append}
use Rattle.trace_text.specs.Laws.{bases_after, level_of}
use Rattle.trace_text.specs.declared.events.Created.TheVariants as created
use Rattle.trace_text.specs.declared.events.Event.{Event}
use Rattle.trace_text.specs.declared.events.Event.TheVariants as written
use Rattle.trace_text.specs.declared.events.Who.{Who}
use Rattle.trace_text.specs.declared.events.Who.TheVariants as who

abbrev is_base_line : Line → Bool
is_base_line (line.New (created.Task t) declared level) = true
is_base_line (line.Base t level) = true
is_base_line _ = false

abbrev bases_by : List (ℕ × ℕ) → Line → List (ℕ × ℕ)
bases_by shown (line.New (created.Task t) declared level) = (t.0, level) ∷ shown
bases_by shown (line.Base t level) = (t.0, level) ∷ shown
bases_by shown _ = shown

bases_still : (shown : List (ℕ × ℕ)) (x : Line) → is_base_line x ≡ false → bases_by shown x ≡ shown
bases_still shown (line.New (created.Task t) declared level) e = cc
bases_still shown (line.Base t level) e = cc
bases_still shown _ e = refl

bases-event : (p : Image) (shown : List (ℕ × ℕ)) (x : Line) → bases_after shown (event_of p x) ≡ bases_by shown x
bases-event p shown (line.New (created.Task t) declared level) = refl
bases-event p shown (line.Base t level) = refl
bases-event p shown _ = refl

abbrev told : List (ℕ × ℕ) → List Said → List (ℕ × ℕ)
told = fold bases_by is_base_line

-- each task that is there has a number that was drawn
AreTasksDrawn : World → Type 0
AreTasksDrawn w = (t : TaskNo) (x : Task) → find (is_who (who.Task t)) w.tasks ≡ Some x → t.0 < w.drawn.tasks

ShowsBases : List (ℕ × ℕ) → World → Type 0
ShowsBases shown w = AreBasesShown shown w × AreTasksDrawn w

-- at first no such line was said; later all stand in order, and none behind the placing
abbrev NoBaseLine : List Said → Type 0
NoBaseLine [] = Unit {0}
NoBaseLine (x ∷ xs) = (is_base_line x.line ≡ false) × NoBaseLine xs

NoBases : List (ℕ × ℕ) → State
NoBases shown w said = NoBaseLine said × ShowsBases shown w

TellsBases : List (ℕ × ℕ) → State
TellsBases shown w said = Ordered bases_by is_base_line said × Sooner bases_by is_base_line ThePlacing said × ShowsBases (told shown said) w

none-append : (xs : List Said) (x : Said) → NoBaseLine xs → is_base_line x.line ≡ false → NoBaseLine (xs ++ x ∷ [])
none-append [] x h e = (e, tt)
none-append (y ∷ ys) x h e = (h.0, none-append ys x h.1 e)

none-ordered : (xs : List Said) → NoBaseLine xs → Ordered bases_by is_base_line xs
none-ordered [] h = tt
none-ordered (x ∷ xs) h = ((λ t. never (sym h.0 ∙ t)), none-ordered xs h.1)

none-sooner : (part : Part) (xs : List Said) → NoBaseLine xs → Sooner bases_by is_base_line part xs
none-sooner part [] h = tt
none-sooner part (x ∷ xs) h = ((λ t. never (sym h.0 ∙ t)), none-sooner part xs h.1)

none-told : (shown : List (ℕ × ℕ)) (xs : List Said) → NoBaseLine xs → told shown xs ≡ shown
none-told shown [] h = refl
none-told shown (x ∷ xs) h = none-told (bases_by shown x.line) xs h.1 ∙ bases_still shown x.line h.0

no_bases-tells : (shown : List (ℕ × ℕ)) (w : World) (said : List Said) → NoBases shown w said → TellsBases shown w said
unfolding NoBases TellsBases
no_bases-tells shown w said h = (none-ordered said h.0, none-sooner ThePlacing said h.0, subst (λ s. ShowsBases s w) (sym (none-told shown said h.0)) h.1)

-- ---- changes

some-base : (a b : Core) → a ≡ b → Some a.base ≡ Some b.base
some-base a b e = ap (λ (c : Core). Some c.base) e

bases-same : (shown : List (ℕ × ℕ)) (a b : World) → Same a b → ShowsBases shown a → ShowsBases shown b
unfolding ShowsBases AreTasksDrawn
bases-same shown a b same h = (
  λ t x e. let y = found-same a b (who.Task t) x same e in h.0 t y.0 y.1 ∙ some-base (core y.0) (core x) y.2,
  λ t x e. let y = found-same a b (who.Task t) x same e in subst (λ n. t.0 < n) (sym same.drawn_tasks) (h.1 t y.0 y.1),
)

bases-plain : (shown : List (ℕ × ℕ)) (a b : World) → b.tasks ≡ a.tasks → b.drawn.tasks ≡ a.drawn.tasks → ShowsBases shown a → ShowsBases shown b
unfolding ShowsBases AreTasksDrawn
bases-plain shown a b tasks drawn h = (
  λ t x e. h.0 t x (ap (find (is_who (who.Task t))) (sym tasks) ∙ e),
  λ t x e. subst (λ n. t.0 < n) (sym drawn) (h.1 t x (ap (find (is_who (who.Task t))) (sym tasks) ∙ e)),
)

edited-drawn : (n : TaskNo) (f : Task → Task) (w : World) (found : Option Task) → (edit_task_found (who.Task n) f w found).drawn.tasks ≡ w.drawn.tasks
edited-drawn n f w None = refl
edited-drawn n f w (Some t) = refl

some-same : (a b : ℕ) → a ≡ b → Some a ≡ Some b
some-same a b e = ap Some e

edited-level : (shown : List (ℕ × ℕ)) (n : TaskNo) (f : Task → Task) (w : World) (t : TaskNo) (z : Task) → ((u : Task) → (f u).base ≡ u.base)
    → AreBasesShown shown w → EditedFound (who.Task n) f w.tasks (who.Task t) z → level_of t.0 shown ≡ Some z.base
unfolding EditedFound
edited-level shown n f w t z based h (inl e) = h t e.0 e.2 ∙ some-same e.0.base z.base (sym (ap (λ u. u.base) e.3 ∙ based e.0))
edited-level shown n f w t z based h (inr e) = h t z e.1

edited-number : (n : TaskNo) (f : Task → Task) (w : World) (t : TaskNo) (z : Task) → AreTasksDrawn w → EditedFound (who.Task n) f w.tasks (who.Task t) z
    → t.0 < w.drawn.tasks
unfolding EditedFound AreTasksDrawn
edited-number n f w t z h (inl e) = h t e.0 e.2
edited-number n f w t z h (inr e) = h t z e.1

number-is : (t n : TaskNo) → who.Task t ≡ who.Task n → t.0 ≡ n.0
number-is t n e = ap number_in e

set-level : (shown : List (ℕ × ℕ)) (n : TaskNo) (level : ℕ) (w : World) (t : TaskNo) (z : Task) → AreBasesShown shown w
    → EditedFound (who.Task n) (λ u. record u { base = level }) w.tasks (who.Task t) z → level_of t.0 ((n.0, level) ∷ shown) ≡ Some z.base
unfolding EditedFound
set-level shown n level w t z h (inl e) =
    ap (λ b. cond b (Some level) (level_of t.0 shown)) (eq-eqb t.0 n.0 (number-is t n e.1)) ∙ some-same level z.base (sym (ap (λ u. u.base) e.3))
set-level shown n level w t z h (inr e) = ap (λ b. cond b (Some level) (level_of t.0 shown)) e.0 ∙ h t z e.1

edited-by : (shown : List (ℕ × ℕ)) (n : TaskNo) (f : Task → Task) (w : World) (found : Option Task) → find (is_who (who.Task n)) w.tasks ≡ found
    → ((t : Task) → (f t).who ≡ t.who) → ((t : Task) → (f t).base ≡ t.base) → ShowsBases shown w → ShowsBases shown (edit_task_found (who.Task n) f w found)
unfolding ShowsBases AreTasksDrawn
edited-by shown n f w found is named based h = (
  λ t z e. edited-level shown n f w t z based h.0 (edit-found n f w (who.Task t) z found is named e),
  λ t z e. subst (λ m. t.0 < m) (sym (edited-drawn n f w found)) (edited-number n f w t z h.1 (edit-found n f w (who.Task t) z found is named e)),
)

agent-edited : (shown : List (ℕ × ℕ)) (f : Task → Task) (w : World) → ShowsBases shown w → ShowsBases shown (edit_task who.Agent f w)
agent-edited shown f w h = bases-plain shown w (edit_task who.Agent f w) refl refl h

edits-bases : (shown : List (ℕ × ℕ)) (name : Who) (f : Task → Task) (w : World) → ((t : Task) → (f t).who ≡ t.who) → ((t : Task) → (f t).base ≡ t.base)
    → ShowsBases shown w → ShowsBases shown (edit_task name f w)
edits-bases shown (who.Task n) f w named based h = edited-by shown n f w (task_at w (who.Task n)) refl named based h
edits-bases shown who.Agent f w named based h = agent-edited shown f w h

forgets-bases : (shown : List (ℕ × ℕ)) (name : Who) (w : World) → ShowsBases shown w → ShowsBases shown (forget_task name w)
unfolding ShowsBases AreTasksDrawn
forgets-bases shown name w h = (
  λ t x e. h.0 t x (forgotten-found name (who.Task t) w.tasks x e),
  λ t x e. h.1 t x (forgotten-found name (who.Task t) w.tasks x e),
)

-- a base priority that is set, with its line
set-bases : (shown : List (ℕ × ℕ)) (n : TaskNo) (level : ℕ) (w : World) → ShowsBases shown w
    → ShowsBases ((n.0, level) ∷ shown) (edit_task (who.Task n) (λ u. record u { base = level }) w)
unfolding ShowsBases AreTasksDrawn
set-bases shown n level w h =
    let f : Task → Task = λ u. record u { base = level } in
    let found = task_at w (who.Task n) in (
      λ t z e. set-level shown n level w t z h.0 (edit-found n f w (who.Task t) z found refl (λ u. refl) e),
      λ t z e. subst (λ m. t.0 < m) (sym (edited-drawn n f w found)) (edited-number n f w t z h.1 (edit-found n f w (who.Task t) z found refl (λ u. refl) e)),
    )

-- ---- lines

line-kept : (shown : List (ℕ × ℕ)) (part : Part) (x : Line) (w : World) (said : List Said) → is_base_line x ≡ false → TellsBases shown w said
    → TellsBases shown w (said ++ said_so part x ∷ [])
unfolding TellsBases
line-kept shown part x w said e h = (
  ordered-append bases_by is_base_line said (said_so part x) h.0 (λ t. never (sym e ∙ t)),
  sooner-append bases_by is_base_line ThePlacing said (said_so part x) h.1 (λ t. never (sym e ∙ t)),
  subst (λ s. ShowsBases s w) (sym (fold-append bases_by is_base_line shown said (said_so part x ∷ []) ∙ bases_still (told shown said) x e)) h.2,
)

base-line : (shown : List (ℕ × ℕ)) (part : Part) (x : Line) (w : World) (said : List Said) → Ordered bases_by is_base_line said
    → Sooner bases_by is_base_line ThePlacing said → Sooner bases_by is_base_line part said → is_part_before ThePlacing part ≡ false
    → ShowsBases (bases_by (told shown said) x) w → TellsBases shown w (said ++ said_so part x ∷ [])
unfolding TellsBases
base-line shown part x w said ordered sooner fits early h = (
  ordered-append bases_by is_base_line said (said_so part x) ordered (λ t. fits),
  sooner-append bases_by is_base_line ThePlacing said (said_so part x) sooner (λ t. early),
  subst (λ s. ShowsBases s w) (sym (fold-append bases_by is_base_line shown said (said_so part x ∷ []))) h,
)

quiet-no_base : (x : Line) → is_apart x ≡ false → is_base_line x ≡ false
quiet-no_base (line.New what declared level) e = cc
quiet-no_base (line.Base t level) e = cc
quiet-no_base _ e = refl

part-early : (b : Bool) (name : Who) → is_part_before ThePlacing (cond b Own (OfOther name)) ≡ false
part-early true name = refl
part-early false name = refl

tells-world : (shown : List (ℕ × ℕ)) (a b : World) (said : List Said) → ((s : List (ℕ × ℕ)) → ShowsBases s a → ShowsBases s b) → TellsBases shown a said
    → TellsBases shown b said
unfolding TellsBases
tells-world shown a b said kept h = (h.0, h.1, kept (told shown said) h.2)

module _ (p : Image) (shown : List (ℕ × ℕ)) where
  first_quiet : Silences (NoBases shown)
  unfolding NoBases
  first_quiet = record {
    silently = λ a b said same h. (h.0, bases-same shown a b same h.1);
    says = λ part line w said other h. (none-append said (said_so part line) h.0 (quiet-no_base line other), h.1);
    ends_scope = λ id w said h. (h.0, bases-plain shown w (end_scope id w) refl refl h.1);
  }

  first_appoints : (t : TaskNo) (moment : ℤ) → Alters (NoBases shown) (appoint (due_for.Delay t) moment)
  unfolding NoBases
  first_appoints t moment = record { turns = λ w said h. (h.0, bases-plain shown w (appoint (due_for.Delay t) moment w) refl refl h.1) }

  bases_quiet : Silences (TellsBases shown)
  bases_quiet = record {
    silently = λ a b said same h. tells-world shown a b said (λ s k. bases-same s a b same k) h;
    says = λ part line w said other h. line-kept shown part line w said (quiet-no_base line other) h;
    ends_scope = λ id w said h. tells-world shown w (end_scope id w) said (λ s k. bases-plain s w (end_scope id w) refl refl k) h;
  }

  bases_alters : (f : World → World) → ((s : List (ℕ × ℕ)) (w : World) → ShowsBases s w → ShowsBases s (f w)) → Alters (TellsBases shown) f
  bases_alters f kept = record { turns = λ w said h. tells-world shown w (f w) said (λ s k. kept s w k) h }

  bases_says : (part : Part) (x : Line) → is_base_line x ≡ false → Keeps (TellsBases shown) (says part x)
  unfolding Ends
  bases_says part x e = record { runs = λ w said h. line-kept shown part x w said e h }

  bases_base : FreeBase p EveryPart (TellsBases shown)
  bases_base = record {
    quiet = bases_quiet;
    edits = λ name f same_who same_base same_deferred. bases_alters (edit_task name f) (λ s w h. edits-bases s name f w same_who same_base h);
    readies = λ part name end fits. ready_by_line p part name end (λ level deadline. bases_says part (line.Ready name level end deadline) refl);
    blocks = λ name waits. bases_says TheBlock (line.Block name waits) refl;
    ends = λ part t fits. bases_says part (line.Done t) refl;
    exits = λ name o. bases_says Own (line.Exit name o) refl;
    appoints = λ t moment. bases_alters (appoint (due_for.Delay t) moment) (λ s w h. bases-plain s w (appoint (due_for.Delay t) moment w) refl refl h);
    forgets = λ name. bases_alters (forget_task name) (λ s w h. forgets-bases s name w h);
  }

  bases_set : (n : TaskNo) (level : ℕ)
      → Keeps (TellsBases shown) (changes (edit_task (who.Task n) (λ u. record u { base = level })) ▷ says ThePlacing (line.Base n level))
  unfolding Ends TellsBases
  bases_set n level = record {
    runs = λ w said h.
        base-line shown ThePlacing (line.Base n level) (edit_task (who.Task n) (λ u. record u { base = level }) w) said h.0 h.1 h.1 refl
        (set-bases (told shown said) n level w h.2);
  }

  bases_set_first : (actor : Who) (n : TaskNo) (level : ℕ)
      → Leads (NoBases shown) (TellsBases shown)
      (changes (edit_task (who.Task n) (λ u. record u { base = level })) ▷ says (part_of actor (who.Task n)) (line.Base n level))
  unfolding Ends NoBases
  bases_set_first actor n level = record {
    runs = λ w said h.
        let part = part_of actor (who.Task n) in
        base-line shown part (line.Base n level) (edit_task (who.Task n) (λ u. record u { base = level }) w) said (none-ordered said h.0)
        (none-sooner ThePlacing said h.0) (none-sooner part said h.0)
        (part-early (same_who actor (who.Task n)) (who.Task n))
        (subst (λ s. ShowsBases ((n.0, level) ∷ s) (edit_task (who.Task n) (λ u. record u { base = level }) w)) (sym (none-told shown said h.0))
        (set-bases shown n level w h.1));
  }

  bases_made : (l : Located) (u : ProtectedUnitNo) → Keeps (TellsBases shown) (changes (with_object p l u) ▷ says_object p l u)
  unfolding says_object
  bases_made l u =
      then-keeps _ _ (changes-keeps _ (bases_alters (with_object p l u) (λ s w h. bases-plain s w (with_object p l u w) refl refl h)))
      (looks-keeps _ (λ w. bases_says Own (line.New (created.Object (record { 0 = w.drawn.objects })) (Some l.declared) (protected_unit_of p u).ceiling) refl))

  bases_takes : (level : ℕ)
      → Keeps (TellsBases shown) (changes (edit_task who.Agent (λ u. record u { deferred_base = None })) ▷ set_base p ThePlacing ThePlacing who.Agent level)
  unfolding set_base says_base
  bases_takes level =
      then-keeps _ _
      (changes-keeps _
      (bases_alters (edit_task who.Agent (λ u. record u { deferred_base = None })) (λ s w h. agent-edited s (λ u. record u { deferred_base = None }) w h)))
      (then-keeps _ _
      (changes-keeps _ (bases_alters (edit_task who.Agent (λ u. record u { base = level })) (λ s w h. agent-edited s (λ u. record u { base = level }) w h)))
      (then-keeps _ _ nothing-keeps (looks-keeps _ (λ w. replace_in-free bases_base ThePlacing who.Agent (task_of w who.Agent).state tt))))

  -- ---- a task is created: until its line it is the one that is not shown

  Pending : Task → State
  Pending t w said =
      NoBaseLine said
      × ((n : ℕ) × (w.drawn.tasks ≡ suc n)
      × ((k : TaskNo) (x : Task) → find (is_who (who.Task k)) w.tasks ≡ Some x
      → ((level_of k.0 shown ≡ Some x.base) × (k.0 < n)) ⊎ ((x.base ≡ t.base) × (k.0 ≡ n))))

  new_number : (t : Task) (k : TaskNo) (n : ℕ) → t.who ≡ who.Task (record { 0 = n }) → is_who (who.Task k) t ≡ true → k.0 ≡ n
  new_number t k n named is = eqb-true k.0 n (sym (ap (same_who (who.Task k)) named) ∙ is)

  by_added : (t : Task) (w : World) → ShowsBases shown w → IsNew p t w → (k : TaskNo) (x : Task)
      → (find (is_who (who.Task k)) w.tasks ≡ Some x) ⊎ ((x ≡ t) × (is_who (who.Task k) t ≡ true))
      → ((level_of k.0 shown ≡ Some x.base) × (k.0 < w.drawn.tasks)) ⊎ ((x.base ≡ t.base) × (k.0 ≡ w.drawn.tasks))
  unfolding ShowsBases AreTasksDrawn
  by_added t w h new k x (inl found) = inl (h.0 k x found, h.1 k x found)
  by_added t w h new k x (inr one) = inr (ap (λ u. u.base) one.0, new_number t k w.drawn.tasks new.numbered one.1)

  added-pending : (t : Task) (w : World) (said : List Said) → NoBases shown w said → IsNew p t w → Pending t (add_task t w) said
  unfolding Pending NoBases
  added-pending t w said h new = (h.0, (w.drawn.tasks, refl, λ k x e. by_added t w h.1 new k x (added-found (who.Task k) t x w.tasks e)))

  pending-seen : (t : Task) (k : TaskNo) (n : ℕ) (y x : Task) → core y ≡ core x
      → ((level_of k.0 shown ≡ Some y.base) × (k.0 < n)) ⊎ ((y.base ≡ t.base) × (k.0 ≡ n))
      → ((level_of k.0 shown ≡ Some x.base) × (k.0 < n)) ⊎ ((x.base ≡ t.base) × (k.0 ≡ n))
  pending-seen t k n y x same (inl h) = inl (h.0 ∙ some-base (core y) (core x) same, h.1)
  pending-seen t k n y x same (inr h) = inr (sym (ap (λ (c : Core). c.base) same) ∙ h.0, h.1)

  pending-same : (t : Task) (a b : World) (said : List Said) → Same a b → Pending t a said → Pending t b said
  unfolding Pending
  pending-same t a b said same h = (
    h.0,
    (h.1.0, same.drawn_tasks ∙ h.1.1, λ k x e. let y = found-same a b (who.Task k) x same e in pending-seen t k h.1.0 y.0 x y.2 (h.1.2 k y.0 y.1)),
  )

  less-apart : (a b : ℕ) → a < b → eqb a b ≡ false
  less-apart a b h = grind arith

  told-level : (t : Task) (k : TaskNo) (x : Task) (n : ℕ) → ((level_of k.0 shown ≡ Some x.base) × (k.0 < n)) ⊎ ((x.base ≡ t.base) × (k.0 ≡ n))
      → level_of k.0 ((n, t.base) ∷ shown) ≡ Some x.base
  told-level t k x n (inl h) = ap (λ b. cond b (Some t.base) (level_of k.0 shown)) (less-apart k.0 n h.1) ∙ h.0
  told-level t k x n (inr h) = ap (λ b. cond b (Some t.base) (level_of k.0 shown)) (eq-eqb k.0 n h.1) ∙ ap Some (sym h.0)

  told-number : (t : Task) (k : TaskNo) (x : Task) (n : ℕ) → ((level_of k.0 shown ≡ Some x.base) × (k.0 < n)) ⊎ ((x.base ≡ t.base) × (k.0 ≡ n)) → k.0 < suc n
  told-number t k x n (inl h) = omega (arith, h.1)
  told-number t k x n (inr h) = omega (arith, h.1)

  one_less : (m n : ℕ) → m ≡ suc n → m - 1 ≡ n
  one_less m n e = omega (arith, e)

  pending-told : (d : DeclNo) (t : Task) (w : World) (said : List Said) → Pending t w said
      → TellsBases shown w (said ++ said_so Own (line.New (created.Task (record { 0 = w.drawn.tasks - 1 })) (Some d) t.base) ∷ [])
  unfolding Pending ShowsBases AreTasksDrawn
  pending-told d t w said h =
      let n = h.1.0 in
      let s : List (ℕ × ℕ) = (w.drawn.tasks - 1, t.base) ∷ told shown said in
      let same : (n, t.base) ∷ shown ≡ s =
      ap (λ m. (m, t.base) ∷ shown) (sym (one_less w.drawn.tasks n h.1.1)) ∙ ap (λ q. (w.drawn.tasks - 1, t.base) ∷ q) (sym (none-told shown said h.0)) in
      base-line shown Own (line.New (created.Task (record { 0 = w.drawn.tasks - 1 })) (Some d) t.base) w said (none-ordered said h.0)
      (none-sooner ThePlacing said h.0) (none-sooner Own said h.0) refl
      (subst (λ q. ShowsBases q w) same (
        (λ k x e. told-level t k x n (h.1.2 k x e)),
        (λ k x e. subst (λ m. k.0 < m) (sym h.1.1) (told-number t k x n (h.1.2 k x e))),
      ))

  new-gone_on : (name : Who) (onward : Option StatementNo) (t : Task) (w : World) → IsNew p t w → IsNew p t (edit_top name (goes_on onward) w)
  new-gone_on name onward t w new = record {
    numbered =
        new.numbered
        ∙ ap (λ n. who.Task (record { 0 = n }))
        (sym (edit_task-same name (λ u. with_frames (edit_first (goes_on onward) u.frames) u) w (λ u. refl)).drawn_tasks);
    made = new.made;
    undeferred = new.undeferred;
  }

  goes-new : (name : Who) (onward : Option StatementNo) (t : Task) → Keeps (With (NoBases shown) (IsNew p t)) (goes name onward)
  unfolding goes
  goes-new name onward t =
      changes-leads (edit_top name (goes_on onward))
      (λ w said h. (
        first_quiet.silently w (edit_top name (goes_on onward) w) said
            (edit_task-same name (λ u. with_frames (edit_first (goes_on onward) u.frames) u) w (λ u. refl)) h.0,
        new-gone_on name onward t w h.1,
      ))

  pending_set : (id : Option ScopeId) (d : DeclNo) (t : Task)
      → Keeps (Pending t)
      (for_some id
      (λ within. looks (λ w. changes (set_thing p (record { within = within; declared = d }) (value_of.Task (Some (record { 0 = w.drawn.tasks - 1 })))))))
  pending_set id d t =
      for_some-keeps id _
      (λ within. looks-keeps _
      (λ w. let l : Located = record { within = within; declared = d } in let v : Value = value_of.Task (Some (record { 0 = w.drawn.tasks - 1 })) in
      changes-leads (set_thing p l v) (λ u said h. pending-same t u (set_thing p l v u) said (fine_same u _ (set_thing-same p l v u)) h)))

  bases_created : (name : Who) (s : StatementNo) (d : DeclNo) (id : Option ScopeId) (t : Task)
      → Leads (With (NoBases shown) (IsNew p t)) (TellsBases shown) (create_task p name s d id t)
  unfolding create_task says_created Ends
  bases_created name s d id t =
      then-leads (goes name (next_of p s)) _ (goes-new name (next_of p s) t)
      (then-leads (changes (add_task t)) _ (changes-leads (add_task t) (λ w said h. added-pending t w said h.0 h.1))
      (then-leads (for_some id _) _ (pending_set id d t) (record { runs = λ w said h. pending-told d t w said h })))

  bases_free : (actor : Who) → FreeMoves p actor anywhere (NoBases shown) (TellsBases shown) (TellsBases shown)
  bases_free actor = record {
    fresh = first_quiet;
    appoints_first = λ t moment. first_appoints t moment;
    later = bases_base;
    entered = late_base bases_base;
    starts = no_bases-tells shown;
    may = λ w o mode e. tt;
    may_held = λ w o mode e. tt;
    may_on = λ a b o same m. tt;
    enters =
        λ o mode. from-leads (says Own (line.Enter actor o mode)) (λ w said h. no_bases-tells shown w said h.0) (bases_says Own (line.Enter actor o mode) refl);
    finds_held = λ o mode. from-leads _ (λ w said h. h.0) (later-leads (says Own (line.Held actor o mode)) (no_bases-tells shown) (bases_says Own (line.Held actor o mode) refl));
    bases_first = λ t level. bases_set_first actor t level;
    bases = λ t level. bases_set t level;
    defers =
        λ t deferred. bases_alters (edit_task (who.Task t) (λ u. record u { deferred_base = deferred }))
        (λ s w h. edits-bases s (who.Task t) (λ u. record u { deferred_base = deferred }) w (λ u. refl) (λ u. refl) h);
    takes = λ v level is. from_at _ (bases_takes level);
    creates = λ s d id t. bases_created actor s d id t;
    makes = bases_made;
  }

-- ---- runs

any_follow : (shown : List (ℕ × ℕ)) (lines : List Event) → Follow bases_after any_event shown lines
any_follow shown [] = tt
any_follow shown (x ∷ xs) = (refl, any_follow (bases_after shown x) xs)

seen-told : (p : Image) (shown : List (ℕ × ℕ)) (xs : List Said) → seen_behind bases_after any_event shown (map (λ x. event_of p x.line) xs) ≡ told shown xs
seen-told p shown [] = refl
seen-told p shown (x ∷ xs) = seen-told p (bases_after shown (event_of p x.line)) xs ∙ ap (λ s. told s xs) (bases-event p shown x.line)

bases-placed : (shown : List (ℕ × ℕ)) (lines : List Event) (w : World) → ShowsBases shown w → ShowsBases shown (placed_by lines w)
bases-placed shown lines w h = bases-plain shown w (placed_by lines w) refl refl h

module _ (p : Image) where
  bases_settle : (shown : List (ℕ × ℕ)) → Settles bases_after any_event ShowsBases p shown (TellsBases shown)
  unfolding TellsBases
  bases_settle shown v xs h = record {
    follow = any_follow shown (lines_of p xs);
    shows =
        subst (λ s. ShowsBases s (placed_by (lines_of p xs) v))
        (sym (seen-told p shown (in_order xs) ∙ fold-in_order bases_by is_base_line bases_still shown xs h.0))
        (bases-placed (told shown xs) (lines_of p xs) v h.2);
  }

  bases_start : (shown : List (ℕ × ℕ)) (w : World) → ShowsBases shown w → NoBases shown w []
  unfolding NoBases
  bases_start shown w h = (tt, h)

  bases_instants : Instants bases_after any_event ShowsBases p
  bases_instants = record {
    effects = λ s w name ran over h.
        settles_onward bases_after any_event ShowsBases p s (NoBases s) (Either (TellsBases s) (TellsBases s)) (effect p name) w
        (either_over bases_after any_event ShowsBases p (TellsBases s) s (bases_settle s))
        (effect-leads (freely (bases_free p s name))) (bases_start s w h);
    others = λ s. (TellsBases s, any_world, any_task, free_others (bases_base p s), (λ w h. no_bases-tells s w [] (bases_start s w h)), bases_settle s);
  }

  instant-bases : (shown : List (ℕ × ℕ)) (w : World) → ShowsBases shown w → ShowsBases (seen_behind bases_after any_event shown (instant p w).1) (instant p w).0
  instant-bases shown w h = (instant_onward bases_after any_event ShowsBases bases_instants shown w h).shows

  -- the environment task is told first
  Unopened : State
  Unopened w said = NoBaseLine said × (w.drawn.tasks ≡ 1) × (map core w.tasks ≡ core (environment_task p) ∷ [])

  unopened_same : (a b : World) (said : List Said) → Same a b → Unopened a said → Unopened b said
  unfolding Unopened
  unopened_same a b said same h = (h.0, same.drawn_tasks ∙ h.1, same.tasks ∙ h.2)

  one-seen : (b : Bool) (c x : Core) (n : ℕ) → eqb n 0 ≡ b → cond b (Some c) None ≡ Some x → (n ≡ 0) × (c ≡ x)
  one-seen true c x n is e = (eqb-true n 0 is, let one : c ≡ x = cc in one)
  one-seen false c x n is e = absurd cc

  opened-found : (w : World) (t : TaskNo) (x : Task) → map core w.tasks ≡ core (environment_task p) ∷ [] → find (is_who (who.Task t)) w.tasks ≡ Some x
      → (t.0 ≡ 0) × (core (environment_task p) ≡ core x)
  opened-found w t x tasks e =
      one-seen (eqb t.0 0) (core (environment_task p)) (core x) t.0 refl
      (sym (ap (seen_in (who.Task t)) tasks) ∙ sym (seen-found (who.Task t) w.tasks) ∙ ap (option_map core) e)

  opened-same : (w : World) → Same w (open_scope p environment p.environment (plainly None) opened_for.Task w)
  opened-same w =
      let text = scope_of p p.environment in
      let begun = begin_scope p environment p.environment (plainly None) w in
      let drawn = draw_region text.kept begun in
      let f = new_frame (new_scope_mark (next_id w) (region_of_next text.kept w) opened_for.Task) text.first in
      same_then w begun (push environment f drawn)
      (record { tasks = refl; agent = refl; objects = refl; drawn_tasks = refl; drawn_objects = refl; delays = λ t e. e })
      (same_then begun drawn (push environment f drawn) (fine_same begun drawn (draw_region-same text.kept begun))
      (edit_task-same environment (λ t. with_frames (f ∷ t.frames) t) drawn (λ t. refl)))

  opened-bases : (w : World) → w.drawn.tasks ≡ 1 → map core w.tasks ≡ core (environment_task p) ∷ [] → ShowsBases ((0, p.main.priority) ∷ []) w
  unfolding ShowsBases AreTasksDrawn
  opened-bases w drawn tasks = (
    λ t x e. let one = opened-found w t x tasks e in ap (λ n. level_of n ((0, p.main.priority) ∷ [])) one.0 ∙ ap (λ (c : Core). Some c.base) one.1,
    λ t x e. let one = opened-found w t x tasks e in omega (arith, one.0, drawn),
  )

  opens-first : Leads Unopened Unopened (changes (open_scope p environment p.environment (plainly None) opened_for.Task))
  opens-first =
      changes-leads (open_scope p environment p.environment (plainly None) opened_for.Task)
      (λ w said h. unopened_same w (open_scope p environment p.environment (plainly None) opened_for.Task w) said (opened-same w) h)

  first_base : Line
  first_base = line.New (created.Task (record { 0 = 0 })) None p.main.priority

  opens-second : Leads Unopened (TellsBases []) (says Own first_base)
  unfolding Ends Unopened ShowsBases first_base
  opens-second = record {
    runs = λ w said h. base-line [] Own first_base w said (none-ordered said h.0) (none-sooner ThePlacing said h.0) (none-sooner Own said h.0) refl
        (subst (λ s. ShowsBases ((0, p.main.priority) ∷ s) w) (sym (none-told [] said h.0)) (opened-bases w h.1 h.2));
  }

  opens-third : Keeps (TellsBases []) (to_tail p Own environment ▷ open_sequence p Own environment)
  opens-third = then-keeps _ _ (to_tail-free (bases_base p []) Own environment tt) (open_sequence-keeps (fine (bases_quiet p [])) p Own environment)

  opens-bases : Leads Unopened (TellsBases []) (opens p)
  unfolding opens first_base
  opens-bases =
      then-leads {X = Unopened} {Y = Unopened} {Z = TellsBases []} _ _ opens-first
      (then-leads {X = Unopened} {Y = TellsBases []} {Z = TellsBases []} _ _ opens-second opens-third)

  opening-bases : (script : List (ℤ × Item)) → ShowsBases (seen_behind bases_after any_event [] (opening p script).1) (opening p script).0
  unfolding Unopened
  opening-bases script =
      (settles_onward bases_after any_event ShowsBases p [] Unopened (TellsBases []) (opens p) (blank_world p script) (bases_settle []) opens-bases
      (tt, refl, refl)).shows

seen-is-told : (shown : List (ℕ × ℕ)) (lines : List Event) → seen_behind bases_after any_event shown lines ≡ bases_told shown lines
seen-is-told shown [] = refl
seen-is-told shown (x ∷ xs) = seen-is-told (bases_after shown x) xs

tock_line-bases : (shown : List (ℕ × ℕ)) (event : Event) → is_of_tock event ≡ true → bases_after shown event ≡ shown
tock_line-bases shown (written.New what declared level) e = cc
tock_line-bases shown (written.Base t level) e = cc
tock_line-bases shown _ e = refl

tock_lines-bases : (shown : List (ℕ × ℕ)) (lines : List Event) → AllAre is_of_tock lines → seen_behind bases_after any_event shown lines ≡ shown
tock_lines-bases shown [] a = refl
tock_lines-bases shown (x ∷ xs) a = ap (λ s. seen_behind bases_after any_event s xs) (tock_line-bases shown x a.0) ∙ tock_lines-bases shown xs a.1

tock-bases : (p : Image) (shown : List (ℕ × ℕ)) (w : World) → ShowsBases shown w
    → ShowsBases (seen_behind bases_after any_event shown (tock p w).1) (tock p w).0
tock-bases p shown w h =
    subst (λ s. ShowsBases s (tock p w).0) (sym (tock_lines-bases shown (tock p w).1 (tocks_say_ticks p w))) (bases-same shown w (tock p w).0 (tock-same p w) h)

told-shown : (p : Image) (script : List (ℤ × Item)) (bound : ℕ) (lines : List Event) (w : World) → Tells p script bound lines w
    → ShowsBases (seen_behind bases_after any_event [] lines) w
told-shown p script bound _ _ told_first = opening-bases p script
told-shown p script bound _ _ (told_on lines w told going) =
    let next = instant p w in
    let first = instant-bases p (seen_behind bases_after any_event [] lines) w (told-shown p script bound lines w told) in
    let second = tock-bases p (seen_behind bases_after any_event (seen_behind bases_after any_event [] lines) next.1) next.0 first in
    subst (λ s. ShowsBases s (tock p next.0).0)
    (ap (λ s. seen_behind bases_after any_event s (tock p next.0).1) (sym (seen_behind-append bases_after any_event [] lines next.1))
    ∙ sym (seen_behind-append bases_after any_event [] (lines ++ next.1) (tock p next.0).1)) second

pub bases_are_told : BasesAreTold
unfolding ShowsBases
bases_are_told p script bound lines w told =
    let before = told-shown p script bound lines w told in
    let behind_it = instant-bases p (seen_behind bases_after any_event [] lines) w before in (
      subst (λ s. AreBasesShown s w) (seen-is-told [] lines) before.0,
      subst (λ s. AreBasesShown s (instant p w).0)
          (sym (seen_behind-append bases_after any_event [] lines (instant p w).1) ∙ seen-is-told [] (lines ++ (instant p w).1)) behind_it.0,
    )
