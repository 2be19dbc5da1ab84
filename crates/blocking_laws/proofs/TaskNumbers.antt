-- In every run tasks are numbered in the order in which they are made, and lines tell only of those that have been made.
use Rattle.ann_base.specs.declared.identities.TaskNo.{TaskNo}
use Rattle.ceiling_laws.proofs.Fine.Kept.Declarations.{set_thing-same}
use Rattle.ceiling_laws.proofs.Fine.Kept.Frames.{goes-keeps, open_sequence-keeps}
use Rattle.ceiling_laws.proofs.Fine.Kept.Scopes.{open_scope-alters}
use Rattle.ceiling_laws.proofs.Places.SoundWorlds.{NamesFrom, drawn-on, is_fresh, names_behind, names_without, put-either, same-whose, whose, whose-append}
use Rattle.ceiling_laws.proofs.Runs.ActingMoves.{Either, IsNew}
use Rattle.ceiling_laws.proofs.Runs.Finer.{fine, fine_same}
use Rattle.ceiling_laws.proofs.Runs.FreeMoves.{EveryPart, LatePart}
use Rattle.ceiling_laws.proofs.Runs.Kept.Act.{effect-leads}
use Rattle.ceiling_laws.proofs.Runs.Kept.Tasks.{same-alters}
use Rattle.ceiling_laws.proofs.Runs.Kept.Waking.{who-is}
use Rattle.ceiling_laws.proofs.Runs.LevelMoves.{Silences, is_apart, said_so}
use Rattle.ceiling_laws.proofs.Runs.RunLemmas.{Instants, Settles, instant_onward, settles_onward}
use Rattle.ceiling_laws.proofs.Runs.TockLemmas.{tock-same}
use Rattle.ceiling_laws.proofs.Runs.Triples.{Alters, Ends, Keeps, Leads, State, With, changes-keeps, changes-leads}
use Rattle.ceiling_laws.proofs.Runs.Triples.{for_some-keeps, from-leads, looks-keeps, then-keeps, then-leads}
use Rattle.ceiling_laws.specs.Cores.{Same, is_delayed}
use Rattle.line_laws.proofs.Ticks.LineByLine.{Follow, Follow-all, Leads_on, OfRuns, run-follows, seen_behind}
use Rattle.line_laws.proofs.Ticks.ReleaseLemmas.{events_of}
use Rattle.machine_laws.proofs.LineLemmas.{tocks_say_ticks}
use Rattle.machine_laws.specs.LineKinds.{AllAre, is_of_tock}
use Rattle.profile_image.specs.Program.{next_of, protected_unit_of}
use Rattle.profile_image.specs.Words.{same_task}
use Rattle.profile_image.specs.declared.image.Image.{Image}
use Rattle.profile_image.specs.declared.numbers.DeclNo.{DeclNo}
use Rattle.profile_image.specs.declared.numbers.ProtectedUnitNo.{ProtectedUnitNo}
use Rattle.profile_image.specs.declared.numbers.StatementNo.{StatementNo}
use Rattle.profile_image.specs.declared.script_items.Item.{Item}
use Rattle.profile_image.specs.declared.values.Value.TheVariants as value_of
use Rattle.profile_machine.specs.Appointments.{appoint, is_delay_of}
use Rattle.profile_machine.specs.Declarations.{says_object, with_object}
use Rattle.profile_machine.specs.Instant.{effect, is_over}
use Rattle.profile_machine.specs.Lines.{event_of}
use Rattle.profile_machine.specs.Masters.{forget_task}
use Rattle.profile_machine.specs.Run.{blank_world, environment, opens, run_of, tock}
use Rattle.profile_machine.specs.Scopes.{plainly}
use Rattle.machine_laws.proofs.Moves.{lines_of}
use Rattle.profile_machine.specs.Steps.{placed_by, changes, in_order, is_part_before, says, ◌▷◌}
use Rattle.profile_machine.specs.Tasking.{add_task, create_task, says_created}
use Rattle.profile_machine.specs.Tasks.{edit_task, edit_task_found, task_at, task_of}
use Rattle.profile_machine.specs.declared.world.World.{World}
use Rattle.profile_machine.specs.declared.world.appointments.Appointment.{Appointment}
use Rattle.profile_machine.specs.declared.world.appointments.Due.TheVariants as due_for
use Rattle.profile_machine.specs.declared.world.lines.Line.{Line}
use Rattle.profile_machine.specs.declared.world.lines.Line.TheVariants as line
use Rattle.profile_machine.specs.declared.world.lines.Part.{Part}
use Rattle.profile_machine.specs.declared.world.lines.Part.TheVariants.{Own}
use Rattle.profile_machine.specs.declared.world.lines.Said.{Said}
use Rattle.profile_machine.specs.declared.world.marks.Purpose.TheVariants as opened_for
use Rattle.profile_machine.specs.declared.world.scopes.Located.{Located}
use Rattle.profile_machine.specs.declared.world.scopes.ScopeId.{ScopeId}
use Rattle.profile_machine.specs.declared.world.tasks.Task.{Task}
use Rattle.std.proofs.Common.{List, None, Option, Some, [], ap, arith, eq-eqb, false, inl, inr, le_refl}
use Rattle.std.proofs.Common.{map, not, refl, subst, suc, sym, true, ℕ, ◌++◌, ◌-◌, ◌∙◌, ◌∷◌, ◌≡◌, ◌⊎◌}
use Rattle.std.specs.Prelude.{ℤ}
use Rattle.trace_text.proofs.LawsFollowed.{lines_hold}
use Rattle.trace_text.specs.Laws.{bases_after}
use Rattle.trace_text.specs.declared.events.Created.TheVariants as created
use Rattle.trace_text.specs.declared.events.Event.{Event}
use Rattle.trace_text.specs.declared.events.Event.TheVariants as written
use Rattle.trace_text.specs.declared.events.Who.{Who}
use Rattle.trace_text.specs.declared.events.Who.TheVariants as who
use Rattle.ceiling_laws.proofs.Runs.BegunLines.{Begun, Each, begun-append, begun-first, begun-in_order, each-append, each-in_order}
use Rattle.blocking_laws.proofs.CountedLines.{count_after, counts, known-follows, new-follows}
use Rattle.blocking_laws.proofs.KnownMoves.{IsDrawn, IsNumbered, KnownBase, KnownMoves, edited-names}
use Rattle.blocking_laws.proofs.KnownMoves.{known_others, knowing, names_drawn, tested-drawn, to_tail-known}
use Rattle.blocking_laws.specs.TaskLines.{RunsNumberTasks, RunsPlaceKnown, is_task_new, places_known}

-- ---- worlds

numbered-same : (d : ℕ) (a b : World) → Same a b → IsNumbered d a → IsNumbered d b
numbered-same d a b same h = record {
  drawn = same.drawn_tasks ∙ h.drawn;
  names = subst (NamesFrom 0 d) (sym (same-whose a b same)) h.names;
  delays = λ t e. h.delays t (same.delays t e);
}

edited_found : (d : ℕ) (n : TaskNo) (f : Task → Task) (w : World) (found : Option Task)
    → map whose (edit_task_found (who.Task n) f w found).tasks ≡ map whose w.tasks → IsNumbered d w → IsNumbered d (edit_task_found (who.Task n) f w found)
edited_found d n f w None names h = h
edited_found d n f w (Some t) names h = record { drawn = h.drawn; names = subst (NamesFrom 0 d) (sym names) h.names; delays = h.delays }

numbered-edit : (d : ℕ) (name : Who) (f : Task → Task) (w : World) → ((t : Task) → (f t).who ≡ t.who) → IsNumbered d w → IsNumbered d (edit_task name f w)
numbered-edit d (who.Task n) f w named h = edited_found d n f w (task_at w (who.Task n)) (edited-names (who.Task n) f w named) h
numbered-edit d who.Agent f w named h = record { drawn = h.drawn; names = h.names; delays = h.delays }

numbered-forget : (d : ℕ) (name : Who) (w : World) → IsNumbered d w → IsNumbered d (forget_task name w)
numbered-forget d name w h = record { drawn = h.drawn; names = names_without name 0 d w.tasks h.names; delays = h.delays }

appointed : (d : ℕ) (t u : TaskNo) (w : World) → IsDrawn d (who.Task t) → (is_delayed u w ≡ true → IsDrawn d (who.Task u))
    → (same_task u t ≡ true) ⊎ (is_delayed u w ≡ true) → IsDrawn d (who.Task u)
appointed d t u w own h (inl same) = ap (is_fresh d) (who-is (who.Task u) (who.Task t) same) ∙ own
appointed d t u w own h (inr delayed) = h delayed

numbered-appoint : (d : ℕ) (t : TaskNo) (moment : ℤ) (w : World) → IsDrawn d (who.Task t) → IsNumbered d w → IsNumbered d (appoint (due_for.Delay t) moment w)
numbered-appoint d t moment w own h = record {
  drawn = h.drawn;
  names = h.names;
  delays =
      λ u e. appointed d t u w own (h.delays u)
      (put-either (λ (a : Appointment). is_delay_of u a.due) (record { due = due_for.Delay t; moment = moment }) w.appointments e);
}

numbered-add : (d : ℕ) (t : Task) (w : World) → t.who ≡ who.Task (record { 0 = d }) → IsNumbered d w → IsNumbered (suc d) (add_task t w)
numbered-add d t w named h = record {
  drawn = ap (λ n. suc n) h.drawn;
  names =
      subst (NamesFrom 0 (suc d)) (sym (whose-append w.tasks t ∙ ap (λ n. map whose w.tasks ++ n ∷ []) named)) (names_behind 0 d (map whose w.tasks) h.names);
  delays = λ u e. drawn-on d u (h.delays u e);
}

-- ---- lines

Still : ℕ → Said → Type 0
Still d x = names_drawn d x.line ≡ true

-- a line by which the next task is made
record IsMaking (d : ℕ) (x : Said) : Type 0 where
  declared : Option DeclNo
  level : ℕ
  is : x ≡ said_so Own (line.New (created.Task (record { 0 = d })) declared level)

-- behind that line its number may be told in a part that is not before
Behind : ℕ → Said → Type 0
Behind d x = Still d x ⊎ (Still (suc d) x × (is_part_before x.part Own ≡ false))

-- what holds of such lines, with a number of tasks that were drawn
Told : (List Said → Type 0) → ℕ → State
Told Lines d w said = IsNumbered d w × Lines said

abbrev Stills : ℕ → List Said → Type 0
Stills d = Each (Still d)

abbrev Made : ℕ → List Said → Type 0
Made d = Begun (Still d) (IsMaking d) (Behind d)

quiet-names : (n : ℕ) (x : Line) → is_apart x ≡ false → names_drawn n x ≡ true
quiet-names n (line.New what declared level) e = cc
quiet-names n (line.Ready name level end deadline) e = cc
quiet-names n (line.Base task level) e = cc
quiet-names n _ e = refl

module _ {Lines : List Said → Type 0} {Right : Said → Type 0} (d : ℕ) (append : (xs : List Said) (x : Said) → Lines xs → Right x → Lines (xs ++ x ∷ []))
    (nameless : (x : Said) → ((n : ℕ) → names_drawn n x.line ≡ true) → Right x) where
  told-says : (part : Part) (x : Line) → Right (said_so part x) → Keeps (Told Lines d) (says part x)
  unfolding Told Ends
  told-says part x right = record { runs = λ w said h. (h.0, append said (said_so part x) h.1 right) }

  told-alters : (f : World → World) → ((w : World) → IsNumbered d w → IsNumbered d (f w)) → Alters (Told Lines d) f
  unfolding Told
  told-alters f kept = record { turns = λ w said h. (kept w h.0, h.1) }

  told-quiet : Silences (Told Lines d)
  unfolding Told
  told-quiet = record {
    silently = λ a b said same h. (numbered-same d a b same h.0, h.1);
    says = λ part x w said other h. (h.0, append said (said_so part x) h.1 (nameless (said_so part x) (λ n. quiet-names n x other)));
    ends_scope = λ id w said h. (record { drawn = h.0.drawn; names = h.0.names; delays = h.0.delays }, h.1);
  }

  told-base : (p : Image) (Fits : Part → Type 0) → ((part : Part) (x : Line) → Fits part → names_drawn d x ≡ true → Right (said_so part x))
      → KnownBase p Fits d (Told Lines d)
  unfolding Told
  told-base p Fits right = record {
    quiet = told-quiet;
    numbers = λ w said h. h.0;
    edits = λ name f named. told-alters (edit_task name f) (λ w h. numbered-edit d name f w named h);
    names = λ part x fits drawn. told-says part x (right part x fits drawn);
    tells = λ part x none. told-says part x (nameless (said_so part x) none);
    appoints = λ t moment drawn. told-alters (appoint (due_for.Delay t) moment) (λ w h. numbered-appoint d t moment w drawn h);
    forgets = λ name. told-alters (forget_task name) (λ w h. numbered-forget d name w h);
  }

-- before a task is made, and behind its line
module _ (d : ℕ) where
  still-nameless : (x : Said) → ((n : ℕ) → names_drawn n x.line ≡ true) → Still d x
  unfolding Still
  still-nameless x none = none d

  behind-nameless : (x : Said) → ((n : ℕ) → names_drawn n x.line ≡ true) → Behind d x
  unfolding Behind Still
  behind-nameless x none = inl (none d)

  still-right : (part : Part) (x : Line) → EveryPart part → names_drawn d x ≡ true → Still d (said_so part x)
  unfolding Still
  still-right part x fits drawn = drawn

  behind-right : (part : Part) (x : Line) → LatePart part → names_drawn (suc d) x ≡ true → Behind d (said_so part x)
  unfolding Behind Still
  behind-right part x late drawn = inr (drawn, late)

  still_base : (p : Image) → KnownBase p EveryPart d (Told (Stills d) d)
  still_base p = told-base d (each-append (Still d)) still-nameless p EveryPart still-right

  made_base : (p : Image) → KnownBase p LatePart (suc d) (Told (Made d) (suc d))
  made_base p = told-base (suc d) (begun-append (Still d) (IsMaking d) (Behind d)) behind-nameless p LatePart behind-right

  pending_quiet : Silences (Told (Stills d) (suc d))
  pending_quiet = told-quiet (suc d) (each-append (Still d)) still-nameless

  -- the line of the task that is made
  making : (declared : Option DeclNo) (level n : ℕ) → n ≡ d → (w : World) (said : List Said) → Told (Stills d) (suc d) w said
      → Told (Made d) (suc d) w (said ++ said_so Own (line.New (created.Task (record { 0 = n })) declared level) ∷ [])
  unfolding Told
  making declared level n is w said h = (
    h.0,
    begun-first (Still d) (IsMaking d) (Behind d) said (said_so Own (line.New (created.Task (record { 0 = n })) declared level)) h.1
        (record { declared = declared; level = level; is = ap (λ m. said_so Own (line.New (created.Task (record { 0 = m })) declared level)) is }),
  )

-- ---- a task is made

one_less : (m n : ℕ) → m ≡ suc n → m - 1 ≡ n
one_less m n e = omega (arith, e)

module _ (p : Image) (d : ℕ) where
  abbrev Named : Task → State
  Named t = With (Told (Stills d) d) (λ w. t.who ≡ who.Task (record { 0 = d }))

  named_first : (t : Task) (w : World) (said : List Said) → With (Told (Stills d) d) (IsNew p t) w said → Named t w said
  unfolding Told
  named_first t w said h = (h.0, h.1.numbered ∙ ap (λ n. who.Task (record { 0 = n })) h.0.0.drawn)

  named_quiet : (t : Task) → Silences (Named t)
  named_quiet t =
      let quiet = (still_base d p).quiet in
      record {
        silently = λ a b said same h. (quiet.silently a b said same h.0, h.1);
        says = λ part x w said other h. (quiet.says part x w said other h.0, h.1);
        ends_scope = λ id w said h. (quiet.ends_scope id w said h.0, h.1);
      }

  added : (t : Task) → Leads (Named t) (Told (Stills d) (suc d)) (changes (add_task t))
  unfolding Told
  added t = changes-leads (add_task t) (λ w said h. (numbered-add d t w h.1 h.0.0, h.0.1))

  told_made : (n : DeclNo) (t : Task) → Leads (Told (Stills d) (suc d)) (Told (Made d) (suc d)) (says_created n t)
  unfolding says_created Ends Told
  told_made n t = record {
    runs = λ w said h. making d (Some n) t.base (w.drawn.tasks - 1) (one_less w.drawn.tasks d h.0.drawn) w said h;
  }

  creates : (name : Who) (s : StatementNo) (n : DeclNo) (id : Option ScopeId) (t : Task)
      → Leads (With (Told (Stills d) d) (IsNew p t)) (Told (Made d) (suc d)) (create_task p name s n id t)
  unfolding create_task
  creates name s n id t =
      from-leads _ (named_first t)
      (then-leads _ _ (goes-keeps (fine (named_quiet t)) name (next_of p s))
      (then-leads _ _ (added t)
      (then-leads _ _
      (for_some-keeps id _
      (λ within. looks-keeps _
      (λ w. changes-keeps _
      (same-alters (pending_quiet d) _
      (λ u. fine_same u _ (set_thing-same p (record { within = within; declared = n }) (value_of.Task (Some (record { 0 = w.drawn.tasks - 1 }))) u))))))
      (told_made n t))))

  makes : (l : Located) (u : ProtectedUnitNo) → Keeps (Told (Stills d) d) (changes (with_object p l u) ▷ says_object p l u)
  unfolding says_object Told
  makes l u =
      then-keeps _ _
      (changes-keeps _ (record {
        turns = λ w said h. (record { drawn = h.0.drawn; names = h.0.names; delays = h.0.delays }, h.1);
      }))
      (looks-keeps _
      (λ w. (still_base d p).tells Own (line.New (created.Object (record { 0 = w.drawn.objects })) (Some l.declared) (protected_unit_of p u).ceiling)
      (λ n. refl)))

  moves : (actor : Who) → IsDrawn d actor → KnownMoves p actor d (Told (Stills d) d) (Told (Made d) (suc d))
  moves actor drawn = record {
    acts = drawn;
    acts_behind = later actor drawn;
    base = still_base d p;
    behind_new = made_base d p;
    creates = creates actor;
    makes = makes;
  }
    where
      later : (name : Who) → IsDrawn d name → IsDrawn (suc d) name
      later (who.Task t) e = drawn-on d t e
      later who.Agent e = refl

-- ---- what the lines of an effect count

counted-line : (p : Image) (d : ℕ) (x : Line) → names_drawn d x ≡ true → (counts d (event_of p x) ≡ true) × (count_after d (event_of p x) ≡ d)
counted-line p d (line.New (created.Task t) declared level) e = absurd cc
counted-line p d (line.New (created.Object o) declared level) e = (refl, refl)
counted-line p d (line.Ready (who.Task t) level end deadline) e = (e, refl)
counted-line p d (line.Ready who.Agent level end deadline) e = (refl, refl)
counted-line p d (line.Base t level) e = (e, refl)
counted-line p d _ e = (refl, refl)

names-later : (n : ℕ) (t : TaskNo) → not (is_fresh n (who.Task t)) ≡ true → not (is_fresh (suc n) (who.Task t)) ≡ true
names-later n t e = grind arith

still-later : (d : ℕ) (x : Line) → names_drawn d x ≡ true → names_drawn (suc d) x ≡ true
still-later d (line.New (created.Task t) declared level) e = absurd cc
still-later d (line.New (created.Object o) declared level) e = refl
still-later d (line.Ready (who.Task t) level end deadline) e = names-later d t e
still-later d (line.Ready who.Agent level end deadline) e = refl
still-later d (line.Base t level) e = names-later d t e
still-later d _ e = refl

abbrev Counted : ℕ → ℕ → List Event → Type 0
Counted d e lines = Follow count_after counts d lines × (seen_behind count_after counts d lines ≡ e)

count-on : (d c e : ℕ) (x : Event) (xs : List Event) → counts d x ≡ true → count_after d x ≡ c → Counted c e xs → Counted d e (x ∷ xs)
count-on d c e x xs right is h = (
  (right, subst (λ n. Follow count_after counts n xs) (sym is) h.0),
  ap (λ n. seen_behind count_after counts n xs) is ∙ h.1,
)

stills-counted : (p : Image) (d : ℕ) (xs : List Said) → Stills d xs → Counted d d (events_of p xs)
unfolding Still
stills-counted p d [] h = (tt, refl)
stills-counted p d (x ∷ xs) h =
    let one = counted-line p d x.line h.0 in count-on d d d (event_of p x.line) (events_of p xs) one.0 one.1 (stills-counted p d xs h.1)

behind-still : (d : ℕ) (x : Said) → Behind d x → Still (suc d) x
unfolding Behind Still
behind-still d x (inl h) = still-later d x.line h
behind-still d x (inr h) = h.0

behinds-stills : (d : ℕ) (xs : List Said) → Each (Behind d) xs → Stills (suc d) xs
behinds-stills d [] h = tt
behinds-stills d (x ∷ xs) h = (behind-still d x h.0, behinds-stills d xs h.1)

made-counted : (p : Image) (d : ℕ) (xs : List Said) → Made d xs → Counted d (suc d) (events_of p xs)
unfolding Still
made-counted p d [] h = absurd h
made-counted p d (x ∷ xs) (inl h) =
    let one = counted-line p d x.line h.0 in count-on d d (suc d) (event_of p x.line) (events_of p xs) one.0 one.1 (made-counted p d xs h.1)
made-counted p d (x ∷ xs) (inr h) =
    count-on d (suc d) (suc d) (event_of p x.line) (events_of p xs)
    (ap (λ (y : Said). counts d (event_of p y.line)) h.0.is ∙ eq-eqb d d refl)
    (ap (λ (y : Said). count_after d (event_of p y.line)) h.0.is) (stills-counted p (suc d) xs (behinds-stills d xs h.1))

making-own : (d : ℕ) (x : Said) → IsMaking d x → x.part ≡ Own
making-own d x h = ap (λ (y : Said). y.part) h.is

still-behind : (d : ℕ) (x : Said) → Still d x → Behind d x
unfolding Behind
still-behind d x h = inl h

early-still : (d : ℕ) (x : Said) → Behind d x → is_part_before x.part Own ≡ true → Still d x
unfolding Behind
early-still d x (inl h) sooner = h
early-still d x (inr h) sooner = absurd (let never : true ≡ false = sym sooner ∙ h.1 in cc)

made-in_order : (d : ℕ) (xs : List Said) → Made d xs → Made d (in_order xs)
made-in_order d xs h = begun-in_order (Still d) (IsMaking d) (Behind d) (making-own d) (still-behind d) (early-still d) xs h

-- ---- runs

stills_settle : (p : Image) (d : ℕ) → Settles count_after counts IsNumbered p d (Told (Stills d) d)
unfolding Told
stills_settle p d v xs h =
    let counted = stills-counted p d (in_order xs) (each-in_order (Still d) xs h.1) in
    record {
      follow = counted.0;
      shows = subst (λ n. IsNumbered n (placed_by (lines_of p xs) v)) (sym counted.1) (record { drawn = h.0.drawn; names = h.0.names; delays = h.0.delays });
    }

made_settles : (p : Image) (d : ℕ) → Settles count_after counts IsNumbered p d (Told (Made d) (suc d))
unfolding Told
made_settles p d v xs h =
    let counted = made-counted p d (in_order xs) (made-in_order d xs h.1) in
    record {
      follow = counted.0;
      shows = subst (λ n. IsNumbered n (placed_by (lines_of p xs) v)) (sym counted.1) (record { drawn = h.0.drawn; names = h.0.names; delays = h.0.delays });
    }

all_settle : (p : Image) (d : ℕ)
    → Settles count_after counts IsNumbered p d (Either (Told (Stills d) d) (Either (Told (Stills d) d) (Told (Made d) (suc d))))
all_settle p d v xs (inl h) = stills_settle p d v xs h
all_settle p d v xs (inr (inl h)) = stills_settle p d v xs h
all_settle p d v xs (inr (inr h)) = made_settles p d v xs h

starts : (d : ℕ) (w : World) → IsNumbered d w → Told (Stills d) d w []
unfolding Told
starts d w h = (h, tt)

acts-drawn : (d : ℕ) (w : World) (name : Who) → is_over (task_of w name).ticks_left ≡ true → IsNumbered d w → IsDrawn d name
acts-drawn d w name over h = tested-drawn d w (λ t. is_over t.ticks_left) name refl h.names over

number_instants : (p : Image) → Instants count_after counts IsNumbered p
number_instants p = record {
  effects = λ d w name ran over h.
      settles_onward count_after counts IsNumbered p d (Told (Stills d) d) (Either (Told (Stills d) d) (Either (Told (Stills d) d) (Told (Made d) (suc d))))
      (effect p name) w (all_settle p d) (effect-leads (knowing (moves p d name (acts-drawn d w name over h)))) (starts d w h);
  others = λ d. (Told (Stills d) d, _, _, known_others (still_base d p), starts d, stills_settle p d);
}

tock-right : (d : ℕ) (event : Event) → is_of_tock event ≡ true → counts d event ≡ true
tock-right d (written.New what declared level) e = absurd cc
tock-right d (written.Ready name level end deadline) e = absurd cc
tock-right d (written.Base t level) e = absurd cc
tock-right d _ e = refl

tock_line-still : (d : ℕ) (event : Event) → is_of_tock event ≡ true → count_after d event ≡ d
tock_line-still d (written.New what declared level) e = absurd cc
tock_line-still d _ e = refl

tock_lines-still : (d : ℕ) (lines : List Event) → AllAre is_of_tock lines → seen_behind count_after counts d lines ≡ d
tock_lines-still d [] a = refl
tock_lines-still d (x ∷ xs) a = ap (λ n. seen_behind count_after counts n xs) (tock_line-still d x a.0) ∙ tock_lines-still d xs a.1

tocks_lead : (p : Image) (d : ℕ) (w : World) → IsNumbered d w → Leads_on count_after counts IsNumbered d (tock p w).1 (tock p w).0
tocks_lead p d w h = record {
  follow = Follow-all count_after counts is_of_tock tock-right d (tock p w).1 (tocks_say_ticks p w);
  shows =
      subst (λ n. IsNumbered n (tock p w).0) (sym (tock_lines-still d (tock p w).1 (tocks_say_ticks p w))) (numbered-same d w (tock p w).0 (tock-same p w) h);
}

blank-numbered : (p : Image) (script : List (ℤ × Item)) → IsNumbered 1 (blank_world p script)
blank-numbered p script = record { drawn = refl; names = (le_refl 0, le_refl 1); delays = λ t e. absurd cc }

opens-first : (p : Image) → Leads (Told (Stills 0) 1) (Told (Made 0) 1) (says Own (line.New (created.Task (record { 0 = 0 })) None p.main.priority))
unfolding Ends
opens-first p = record { runs = λ w said h. making 0 None p.main.priority 0 refl w said h }

opens-made : (p : Image) → Leads (Told (Stills 0) 1) (Told (Made 0) 1) (opens p)
unfolding opens
opens-made p =
    then-leads _ _ (changes-keeps _ (open_scope-alters (fine (pending_quiet 0)) p environment p.environment (plainly None) opened_for.Task))
    (then-leads _ _ (opens-first p)
    (then-keeps _ _ (to_tail-known (made_base 0 p) Own environment refl refl) (open_sequence-keeps (fine (made_base 0 p).quiet) p Own environment)))

opening-first : (p : Image) (script : List (ℤ × Item)) → Told (Stills 0) 1 (blank_world p script) []
unfolding Told
opening-first p script = (blank-numbered p script, tt)

task_numbers : OfRuns count_after counts IsNumbered 0
task_numbers = record {
  openings = λ p script. settles_onward count_after counts IsNumbered p 0 (Told (Stills 0) 1) (Told (Made 0) 1) (opens p) (blank_world p script)
      (made_settles p 0) (opens-made p) (opening-first p script);
  instants = λ p d w h. instant_onward count_after counts IsNumbered (number_instants p) d w h;
  tocks = tocks_lead;
  ends = λ p bound d w reason shown e. refl;
  bound = λ d. refl;
}

pub runs_number_tasks : RunsNumberTasks
runs_number_tasks p script bound =
    lines_hold bases_after is_task_new [] (run_of p script bound)
    (new-follows (run_of p script bound) (run-follows count_after counts task_numbers p script bound))

pub runs_place_known : RunsPlaceKnown
runs_place_known p script bound =
    lines_hold bases_after places_known [] (run_of p script bound)
    (known-follows (run_of p script bound) (run-follows count_after counts task_numbers p script bound))
