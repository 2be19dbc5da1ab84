-- What lines keep by themselves that name only tasks whose numbers were drawn: whoever acts, and in whichever part.
use Rattle.ann_base.specs.declared.exceptions.Raised.TheVariants as exception
use Rattle.ann_base.specs.declared.identities.ObjectNo.{ObjectNo}
use Rattle.ann_base.specs.declared.identities.TaskNo.{TaskNo}
use Rattle.ceiling_laws.proofs.Runs.ActingMoves.{ActingMoves, Either, IsNew, LaterMoves, SelectMoves, either-leads}
use Rattle.ceiling_laws.proofs.Fine.Kept.CallEnds.{deliver-keeps}
use Rattle.ceiling_laws.proofs.Fine.Kept.Frames.{raises-keeps}
use Rattle.ceiling_laws.proofs.Runs.Kept.Instant.{OtherMoves}
use Rattle.ceiling_laws.proofs.Runs.Kept.Priorities.{reprioritize_own-keeps, says_deadline-keeps}
use Rattle.ceiling_laws.proofs.Runs.Kept.Rendezvous.{begin_accept-keeps, finish_without_room-keeps}
use Rattle.ceiling_laws.proofs.Runs.LevelMoves.{BaseMoves, EachTask, Fitting, Silences}
use Rattle.ceiling_laws.proofs.Runs.Triples.{Alters, At, Keeps, Leads, State, With, branch-keeps, changes-keeps, from-leads, from_at, looks-keeps}
use Rattle.ceiling_laws.proofs.Runs.Triples.{looks-with, nothing-keeps, then-keeps, then-leads, to-leads, when-keeps, when-leads}
use Rattle.ceiling_laws.proofs.Runs.Finer.{fine, fine_base}
use Rattle.profile_machine.specs.Appointments.{appoint}
use Rattle.profile_machine.specs.CallEnds.{deliver}
use Rattle.profile_machine.specs.Declarations.{says_object, with_object}
use Rattle.profile_machine.specs.Dispatching.{active, block, grant_quantum, granted, keep_level, level_kept_by, ready}
use Rattle.profile_machine.specs.Dispatching.{says_block, says_ready, to_head, to_tail, without_kept_level, word_of}
use Rattle.profile_machine.specs.Frames.{in_protected}
use Rattle.profile_machine.specs.Inheritance.{falls, inherit, lose, lose_running}
use Rattle.profile_machine.specs.Masters.{forget_task, part_of}
use Rattle.profile_machine.specs.Priorities.{defer_base, defer_deadline, is_runnable_at_edf, placing_of, replace_in, says_base, set_base}
use Rattle.profile_machine.specs.Priorities.{set_deadline, set_deferred, set_or_defer_base, set_or_defer_deadline, take_base, take_deadline}
use Rattle.profile_image.specs.Program.{edf_low, has_edf, is_robin_level}
use Rattle.profile_machine.specs.Protected.{find_held}
use Rattle.profile_machine.specs.Rendezvous.{meet_without_room}
use Rattle.profile_machine.specs.Steps.{Step, changes, nothing, says, ◌▷◌}
use Rattle.profile_machine.specs.Tasking.{create_task, fall_from, says_done}
use Rattle.profile_machine.specs.Tasks.{edit_task, task_of, with_state}
use Rattle.profile_image.specs.declared.image.Image.{Image}
use Rattle.profile_image.specs.declared.numbers.DeclNo.{DeclNo}
use Rattle.profile_image.specs.declared.numbers.ProtectedUnitNo.{ProtectedUnitNo}
use Rattle.profile_image.specs.declared.numbers.StatementNo.{StatementNo}
use Rattle.profile_machine.specs.declared.world.World.{World}
use Rattle.profile_machine.specs.declared.world.appointments.Due.TheVariants as due_for
use Rattle.profile_machine.specs.declared.world.calls.Call.{Call}
use Rattle.profile_machine.specs.declared.world.calls.Outcome.TheVariants as call_ended
use Rattle.profile_machine.specs.declared.world.lines.Line.TheVariants as line
use Rattle.profile_machine.specs.declared.world.lines.Part.{Part}
use Rattle.profile_machine.specs.declared.world.lines.Part.TheVariants.{OfOther, Own, TheBlock, TheFinish, ThePlacing}
use Rattle.profile_machine.specs.declared.world.lines.Said.{Said}
use Rattle.profile_machine.specs.declared.world.scopes.Located.{Located}
use Rattle.profile_machine.specs.declared.world.scopes.ScopeId.{ScopeId}
use Rattle.profile_machine.specs.declared.world.tasks.Cause.{Cause}
use Rattle.profile_machine.specs.declared.world.tasks.Cause.TheVariants as inherited_by
use Rattle.profile_machine.specs.declared.world.tasks.State as tasks
use Rattle.profile_machine.specs.declared.world.tasks.State.TheVariants.{Blocked, Made, Runnable}
use Rattle.profile_machine.specs.declared.world.tasks.Task.{Task}
use Rattle.profile_machine.specs.declared.world.tasks.Waiting.{Waiting}
use Rattle.profile_machine.specs.declared.world.tasks.Waiting.TheVariants as waits_for
use Rattle.std.proofs.Common.{inl, refl, ◌≡◌}
use Rattle.std.specs.Prelude.{Bool, List, None, Option, Some, eqb, false, not, slice_index_or, true, ℕ, ℤ, ◌&&◌, ◌∷◌}
use Rattle.trace_text.specs.declared.events.Mode.{Mode}
use Rattle.trace_text.specs.declared.events.QueueEnd.TheVariants.{Head, Tail}
use Rattle.trace_text.specs.declared.events.Who.{Who}
use Rattle.trace_text.specs.declared.events.Who.TheVariants as who
use Rattle.machine_laws.proofs.Kept.Dispatching.{full_quantum-who}
use Rattle.ceiling_laws.proofs.Places.SoundWorlds.{Known, NamesFrom, each-known, each-on, is_fresh, same-whose, whose}
use Rattle.ceiling_laws.proofs.Runs.FreeMoves.{EveryPart, LatePart, any_part, anywhere, late_part, ready_by_line}
use Rattle.ceiling_laws.proofs.Runs.Kept.Tasks.{edit_task-alters}
use Rattle.ceiling_laws.proofs.Runs.Kept.Waking.{found-each, who-is}
use Rattle.ceiling_laws.proofs.Runs.LevelMoves.{Sleeping, is_blocked}
use Rattle.ceiling_laws.proofs.Runs.SameLemmas.{set_where-seen}
use Rattle.ceiling_laws.proofs.Runs.Kept.Instant.{Appointing}
use Rattle.ceiling_laws.specs.Cores.{is_delayed}
use Rattle.profile_machine.specs.Tasks.{edit_task_found, is_made_state, is_runnable, is_runnable_state, is_who, nobody, task_at}
use Rattle.profile_machine.specs.declared.world.lines.Line.{Line}
use Rattle.machine_laws.proofs.FineMoves.{Naming}
use Rattle.std.proofs.Common.{ap, inr, map, subst, suc, sym, ◌∙◌, ◌⊎◌}
use Rattle.std.specs.Prelude.{find, is_some, unwrap_or}
use Rattle.trace_text.specs.declared.events.Created.TheVariants as created
use Rattle.trace_text.specs.declared.events.QueueEnd.{QueueEnd}

-- ---- worlds

-- A number of tasks were drawn; the tasks that are there rise in number, below that one; and for no other task a moment is appointed.
pub record IsNumbered (d : ℕ) (w : World) : Type 0 where
  pub drawn : w.drawn.tasks ≡ d
  pub names : NamesFrom 0 d (map whose w.tasks)
  pub delays : (t : TaskNo) → is_delayed t w ≡ true → is_fresh d (who.Task t) ≡ false

abbrev pub IsDrawn : ℕ → Who → Type 0
IsDrawn d name = is_fresh d name ≡ false

pub each_drawn : (d : ℕ) (ts : List Task) → NamesFrom 0 d (map whose ts) → EachTask (λ t. IsDrawn d t.who) ts
each_drawn d ts names = each-on (Known 0 d ts) (λ t. IsDrawn d t.who) ts (λ t k. k.drawn_before) (each-known 0 d ts names)

found-drawn : (d : ℕ) (ts : List Task) (n : Who) (x : Task) → NamesFrom 0 d (map whose ts) → find (is_who n) ts ≡ Some x → IsDrawn d n
found-drawn d ts n x names is =
    let one = found-each (λ t. IsDrawn d t.who) (is_who n) ts x (each_drawn d ts names) is in ap (is_fresh d) (who-is n x.who one.1) ∙ one.0

tested-found : (d : ℕ) (ts : List Task) (test : Task → Bool) (n : Who) (found : Option Task) → test nobody ≡ false → NamesFrom 0 d (map whose ts)
    → find (is_who n) ts ≡ found → test (unwrap_or found nobody) ≡ true → IsDrawn d n
tested-found d ts test n None none names is e = absurd (let never : false ≡ true = sym none ∙ e in cc)
tested-found d ts test n (Some x) none names is e = found-drawn d ts n x names is

-- who passes a test that nobody does who is not there has a number that was drawn
pub tested-drawn : (d : ℕ) (w : World) (test : Task → Bool) (name : Who) → test nobody ≡ false → NamesFrom 0 d (map whose w.tasks)
    → test (task_of w name) ≡ true → IsDrawn d name
tested-drawn d w test (who.Task t) none names e = tested-found d w.tasks test (who.Task t) (find (is_who (who.Task t)) w.tasks) none names refl e
tested-drawn d w test who.Agent none names e = refl

names_found : (n : TaskNo) (f : Task → Task) (w : World) (found : Option Task) → find (is_who (who.Task n)) w.tasks ≡ found → ((t : Task) → (f t).who ≡ t.who)
    → map whose (edit_task_found (who.Task n) f w found).tasks ≡ map whose w.tasks
names_found n f w None is named = refl
names_found n f w (Some t) is named = set_where-seen whose (is_who (who.Task n)) t (f t) w.tasks is (named t)

pub edited-names : (name : Who) (f : Task → Task) (w : World) → ((t : Task) → (f t).who ≡ t.who) → map whose (edit_task name f w).tasks ≡ map whose w.tasks
edited-names (who.Task n) f w named = names_found n f w (task_at w (who.Task n)) refl named
edited-names who.Agent f w named = refl

drawn_found : (n : TaskNo) (f : Task → Task) (w : World) (found : Option Task) → (edit_task_found (who.Task n) f w found).drawn.tasks ≡ w.drawn.tasks
drawn_found n f w None = refl
drawn_found n f w (Some t) = refl

edited-drawn : (name : Who) (f : Task → Task) (w : World) → (edit_task name f w).drawn.tasks ≡ w.drawn.tasks
edited-drawn (who.Task n) f w = drawn_found n f w (task_at w (who.Task n))
edited-drawn who.Agent f w = refl

-- ---- lines

-- a line by which no task is made, and that tells of a task only where its number was drawn
abbrev pub names_drawn : ℕ → Line → Bool
names_drawn d (line.New (created.Task t) declared level) = false
names_drawn d (line.Ready name level end deadline) = not (is_fresh d name)
names_drawn d (line.Base t level) = not (is_fresh d (who.Task t))
names_drawn d _ = true

-- what edits keep, and lines of some parts
pub record KnownBase (p : Image) (Fits : Part → Type 0) (d : ℕ) (X : State) : Type 0 where
  pub quiet : Silences X
  pub numbers : (w : World) (said : List Said) → X w said → IsNumbered d w
  pub edits : (name : Who) (f : Task → Task) → ((t : Task) → (f t).who ≡ t.who) → Alters X (edit_task name f)
  pub names : (part : Part) (x : Line) → Fits part → names_drawn d x ≡ true → Keeps X (says part x)
  pub tells : (part : Part) (x : Line) → ((n : ℕ) → names_drawn n x ≡ true) → Keeps X (says part x)
  pub appoints : (t : TaskNo) (moment : ℤ) → IsDrawn d (who.Task t) → Alters X (appoint (due_for.Delay t) moment)
  pub forgets : (name : Who) → Alters X (forget_task name)

-- who waits has a number that was drawn, where all tasks that are there have
abbrev pub Sleeps_drawn : Sleeping
Sleeps_drawn w name = NamesFrom 0 w.drawn.tasks (map whose w.tasks) → IsDrawn w.drawn.tasks name

abbrev pub Listed_drawn : World → Naming
Listed_drawn v name = IsDrawn v.drawn.tasks name

abbrev pub Drawn_then : Appointing
Drawn_then w t = IsDrawn w.drawn.tasks (who.Task t)

-- what holds besides, of no world
const_keeps : {X : State} {P : Type 0} (step : Step) → (P → Keeps X step) → Keeps (With X (λ w. P)) step
const_keeps {X} {P} step keeps = record {
  runs = λ w said h. (to-leads {X = X} {Y = X} {Z = With X (λ w. P)} step (keeps h.1) (λ u s k. (k, h.1))).runs w said h.0;
}

const_alters : {X : State} {P : Type 0} (f : World → World) → Alters X f → Alters (With X (λ w. P)) f
const_alters f a = record { turns = λ w said h. (a.turns w said h.0, h.1) }

const_quiet : {X : State} {P : Type 0} → Silences X → Silences (With X (λ w. P))
const_quiet quiet = record {
  silently = λ a b said same h. (quiet.silently a b said same h.0, h.1);
  says = λ part line w said other h. (quiet.says part line w said other h.0, h.1);
  ends_scope = λ id w said h. (quiet.ends_scope id w said h.0, h.1);
}

edf-runs : (p : Image) (v : World) (name : Who) (state : tasks.State) → is_runnable_at_edf p v name state ≡ true → is_runnable_state state ≡ true
edf-runs p v name Made e = absurd cc
edf-runs p v name Runnable e = refl
edf-runs p v name (Blocked waiting) e = absurd cc

module _ {p : Image} {Fits : Part → Type 0} {d : ℕ} {X : State} (base : KnownBase p Fits d X) where
  tested : (test : Task → Bool) → test nobody ≡ false → (v : World) (said : List Said) → X v said → (name : Who) → test (task_of v name) ≡ true
      → IsDrawn d name
  tested test none v said h name e = tested-drawn d v test name none (base.numbers v said h).names e

  runs-drawn : (v : World) (said : List Said) → X v said → (name : Who) → is_runnable_state (task_of v name).state ≡ true → IsDrawn d name
  runs-drawn v said h name e = tested is_runnable refl v said h name e

  awake : (w : World) (said : List Said) (name : Who) → X w said → Sleeps_drawn w name → IsDrawn d name
  awake w said name h sleeps =
      let n = base.numbers w said h in
      ap (λ e. is_fresh e name) (sym n.drawn) ∙ sleeps (subst (λ e. NamesFrom 0 e (map whose w.tasks)) (sym n.drawn) n.names)

  grant-alters : (name : Who) → Alters X (grant_quantum p name)
  grant-alters name = record {
    turns = λ w said h. (base.edits name (granted p w.quanta)
        (λ t. full_quantum-who (eqb (active p t) t.base && is_robin_level p t.base) (slice_index_or w.quanta t.base 0) t)).turns w said h;
  }

  placed-known : (part : Part) (name : Who) (end : QueueEnd) → Fits part → IsDrawn d name → Keeps X (says_ready p part name end)
  placed-known part name end fits drawn =
      ready_by_line p part name end (λ level deadline. base.names part (line.Ready name level end deadline) fits (ap not drawn))

  pub to_tail-known : (part : Part) (name : Who) → Fits part → IsDrawn d name → Keeps X (to_tail p part name)
  unfolding to_tail
  to_tail-known part name fits drawn = then-keeps _ _ (changes-keeps _ (grant-alters name)) (placed-known part name Tail fits drawn)

  to_head-known : (part : Part) (name : Who) → Fits part → IsDrawn d name → Keeps X (to_head p part name)
  unfolding to_head
  to_head-known part name fits drawn = placed-known part name Head fits drawn

  with_state-alters : (name : Who) (state : tasks.State) → Alters X (edit_task name (with_state state))
  with_state-alters name state = base.edits name (with_state state) (λ t. refl)

  keep_level-alters : (name : Who) → Alters X (keep_level p name)
  keep_level-alters name = record {
    turns = λ w said h. (base.edits name (λ t. record t { kept_level = level_kept_by p w t (edf_low p t.base) }) (λ t. refl)).turns w said h;
  }

  ready-known : (part : Part) (name : Who) → Fits part → IsDrawn d name → Keeps X (ready p part name)
  unfolding ready
  ready-known part name fits drawn =
      then-keeps _ _ (changes-keeps _ (with_state-alters name Runnable))
      (then-keeps _ _ (changes-keeps _ (keep_level-alters name)) (to_tail-known part name fits drawn))

  says_block-known : (name : Who) (waiting : Waiting) → Keeps X (says_block TheBlock name waiting)
  unfolding says_block
  says_block-known name waiting =
      then-keeps _ _ (changes-keeps _ (base.edits name without_kept_level (λ t. refl)))
      (base.tells TheBlock (line.Block name (word_of waiting)) (λ n. refl))

  block-known : (name : Who) (waiting : Waiting) → Keeps X (block TheBlock name waiting)
  unfolding block
  block-known name waiting = then-keeps _ _ (changes-keeps _ (with_state-alters name (Blocked waiting))) (says_block-known name waiting)

  lose-alters : (name : Who) (cause : Cause) → Alters X (lose name cause)
  lose-alters name cause = base.edits name _ (λ t. refl)

  inherit-alters : (name : Who) (cause : Cause) (level : ℕ) → Alters X (inherit name cause level)
  inherit-alters name cause level = base.edits name _ (λ t. refl)

  lose_running-known : (actor : Who) (cause : Cause) → Fits ThePlacing → IsDrawn d actor → Keeps X (lose_running p actor cause)
  unfolding lose_running
  lose_running-known actor cause fits drawn =
      looks-keeps _
      (λ w. then-keeps _ _ (changes-keeps _ (lose-alters actor cause))
      (when-keeps (falls p actor w (lose actor cause w)) _ (to_head-known ThePlacing actor fits drawn)))

  fall_from-known : (actor : Who) (before : World) → Fits ThePlacing → IsDrawn d actor → Keeps X (fall_from p actor before)
  unfolding fall_from
  fall_from-known actor before fits drawn = looks-keeps _ (λ w. when-keeps (falls p actor before w) _ (to_head-known ThePlacing actor fits drawn))

  says_done-known : (part : Part) (name : Who) → Keeps X (says_done part name)
  unfolding says_done
  says_done-known part (who.Task t) = base.tells part (line.Done t) (λ n. refl)
  says_done-known part who.Agent = nothing-keeps

  -- ---- who is placed anew is ready, so it is there

  replace_in-known : (v : World) (said : List Said) → X v said → (part : Part) (name : Who) (state : tasks.State) → (task_of v name).state ≡ state
      → Fits part → Leads (At X v) X (replace_in p part name state)
  unfolding replace_in
  replace_in-known v said h part name Made is fits = from_at nothing nothing-keeps
  replace_in-known v said h part name Runnable is fits =
      from_at (to_tail p part name) (to_tail-known part name fits (runs-drawn v said h name (ap is_runnable_state is)))
  replace_in-known v said h part name (Blocked waiting) is fits = from_at _ (reprioritize_own-keeps base.quiet p name waiting)

  says_base-known : (part : Part) (name : Who) (level : ℕ) → Fits part → IsDrawn d name → Keeps X (says_base part name level)
  unfolding says_base
  says_base-known part (who.Task t) level fits drawn = base.names part (line.Base t level) fits (ap not drawn)
  says_base-known part who.Agent level fits drawn = nothing-keeps

  set_base-known : (part placing : Part) (name : Who) (level : ℕ) → Fits part → Fits placing → IsDrawn d name
      → Keeps X (set_base p part placing name level)
  unfolding set_base
  set_base-known part placing name level fits fits_placing drawn =
      then-keeps _ _ (changes-keeps _ (base.edits name (λ t. record t { base = level }) (λ t. refl)))
      (then-keeps _ _ (says_base-known part name level fits drawn)
      (looks-with _ (λ v said h. replace_in-known v said h placing name (task_of v name).state refl fits_placing)))

  sets_base-known : (actor name : Who) (level : ℕ) → ((part : Part) → Fits part) → IsDrawn d name → Keeps X (set_or_defer_base p actor name level)
  unfolding set_or_defer_base defer_base
  sets_base-known actor name level fits drawn =
      looks-keeps _
      (λ w. branch-keeps (in_protected w name) (changes (edit_task name (λ t. record t { deferred_base = Some level })))
      (set_base p (part_of actor name) (placing_of actor name) name level)
      (changes-keeps _ (base.edits name (λ t. record t { deferred_base = Some level }) (λ t. refl)))
      (set_base-known (part_of actor name) (placing_of actor name) name level (fits (part_of actor name)) (fits (placing_of actor name)) drawn))

  set_deadline-known : (part placing : Part) (name : Who) (moment : ℤ) → Fits placing → Keeps X (set_deadline p part placing name moment)
  unfolding set_deadline
  set_deadline-known part placing name moment fits =
      then-keeps _ _ (changes-keeps _ (edit_task-alters base.quiet name (λ t. record t { deadline = moment }) (λ t. refl)))
      (then-keeps _ _ (says_deadline-keeps base.quiet part name moment)
      (looks-with _ (λ v said h. when-leads (is_runnable_at_edf p v name (task_of v name).state) _
      (λ is. from_at (to_tail p placing name)
      (to_tail-known placing name fits (runs-drawn v said h name (edf-runs p v name (task_of v name).state is))))
      (λ w s k. k.0))))

  sets_deadline-known : (actor name : Who) (moment : ℤ) → ((part : Part) → Fits part) → Keeps X (set_or_defer_deadline p actor name moment)
  unfolding set_or_defer_deadline defer_deadline
  sets_deadline-known actor name moment fits =
      looks-keeps _
      (λ w. branch-keeps (in_protected w name && has_edf p) (changes (edit_task name (λ t. record t { deferred_deadline = Some moment })))
      (set_deadline p (part_of actor name) (placing_of actor name) name moment)
      (changes-keeps _ (edit_task-alters base.quiet name (λ t. record t { deferred_deadline = Some moment }) (λ t. refl)))
      (set_deadline-known (part_of actor name) (placing_of actor name) name moment (fits (placing_of actor name))))

  -- for who has something deferred the same holds
  take_base-known : (v : World) (said : List Said) → X v said → (name : Who) (deferred : Option ℕ) → (task_of v name).deferred_base ≡ deferred
      → Fits ThePlacing → Leads (At X v) X (take_base p name deferred)
  unfolding take_base
  take_base-known v said h name None is fits = from_at nothing nothing-keeps
  take_base-known v said h name (Some level) is fits =
      from_at _ (then-keeps _ _ (changes-keeps _ (base.edits name (λ t. record t { deferred_base = None }) (λ t. refl)))
      (set_base-known ThePlacing ThePlacing name level fits fits (tested (λ t. is_some t.deferred_base) refl v said h name (ap is_some is))))

  take_deadline-known : (name : Who) (moment : Option ℤ) → Fits ThePlacing → Keeps X (take_deadline p name moment)
  unfolding take_deadline
  take_deadline-known name None fits = nothing-keeps
  take_deadline-known name (Some moment) fits =
      then-keeps _ _ (changes-keeps _ (edit_task-alters base.quiet name (λ t. record t { deferred_deadline = None }) (λ t. refl)))
      (set_deadline-known ThePlacing ThePlacing name moment fits)

  set_deferred-known : (name : Who) → Fits ThePlacing → Keeps X (set_deferred p name)
  unfolding set_deferred
  set_deferred-known name fits =
      looks-with _ (λ v said h. when-leads (not (in_protected v name)) _
      (λ is. then-leads (take_base p name (task_of v name).deferred_base) _
      (take_base-known v said h name (task_of v name).deferred_base refl fits)
      (take_deadline-known name (task_of v name).deferred_deadline fits))
      (λ w s k. k.0))

  -- ---- all of them

  heir-on : (heir : Who) (cause : Cause) (level : ℕ) (w : World) (name : Who) → Sleeps_drawn w name → Sleeps_drawn (inherit heir cause level w) name
  heir-on heir cause level w name sleeps names =
      let f : Task → Task = λ t. record t { inherited = record { cause = cause; level = level } ∷ t.inherited } in
      let drawn = edited-drawn heir f w in
      ap (λ e. is_fresh e name) drawn
      ∙ sleeps (subst (λ e. NamesFrom 0 e (map whose w.tasks)) drawn
      (subst (NamesFrom 0 (edit_task heir f w).drawn.tasks) (edited-names heir f w (λ t. refl)) names))

  pub base_known : (Parts : Fitting) → ((part : Part) (name : Who) → Parts part name → Fits part) → BaseMoves p Parts Sleeps_drawn X
  base_known Parts fits = record {
    quiet = base.quiet;
    inherits = λ name cause level w said other h. (inherit-alters name cause level).turns w said h;
    sleeps = λ w name is names. tested-drawn w.drawn.tasks w (λ t. is_blocked t.state) name refl names is;
    sleeps_on = λ a b name same sleeps names.
        ap (λ e. is_fresh e name) same.drawn_tasks
        ∙ sleeps (subst (λ e. NamesFrom 0 e (map whose a.tasks)) same.drawn_tasks (subst (NamesFrom 0 b.drawn.tasks) (same-whose a b same) names));
    sleeps_behind = λ id w name sleeps. sleeps;
    sleeps_heir = heir-on;
    wakes = λ part name f. record { runs = λ w said h. (ready-known part name (fits part name f) (awake w said name h.0 h.1)).runs w said h.0 };
  }

  pub later_known : (actor : Who) → IsDrawn d actor → (Parts : Fitting) → ((part : Part) (name : Who) → Parts part name → Fits part) → Fits ThePlacing
      → ((name : Who) → Parts Own name) → ((name : Who) → Parts (OfOther name) name) → LaterMoves p actor Parts Sleeps_drawn X
  later_known actor drawn Parts fits placing fits_own fits_other = record {
    base = base_known Parts fits;
    fits_own = fits_own;
    fits_other = fits_other;
    heads = to_head-known ThePlacing actor placing drawn;
    blocks = λ name waiting. block-known name waiting;
  }

  abbrev pub Since : World → State
  Since v = With X (λ w. v.drawn.tasks ≡ d)

  since-drawn : (v : World) (name : Who) → v.drawn.tasks ≡ d → IsDrawn v.drawn.tasks name → IsDrawn d name
  since-drawn v name is drawn = ap (λ e. is_fresh e name) (sym is) ∙ drawn

  pub select_known : (actor : Who) → ((name : Who) → Fits (OfOther name)) → SelectMoves p actor Listed_drawn X X Since
  select_known actor other = record {
    quiet = base.quiet;
    listed = λ v said h. let n = base.numbers v said h in
        each_drawn v.drawn.tasks v.tasks (subst (λ e. NamesFrom 0 e (map whose v.tasks)) (sym n.drawn) n.names);
    looks_at = λ v said h. (h, (base.numbers v said h).drawn);
    looked = λ v w said h. h.0;
    looking = λ v. const_quiet base.quiet;
    begins =
        λ v name apart listed. const_keeps (ready p (OfOther name) name) (λ is. ready-known (OfOther name) name (other name) (since-drawn v name is listed));
    runs_on = λ v. changes-keeps _ (const_alters _ (with_state-alters actor Runnable));
    says_blocked = λ waiting. says_block-known actor waiting;
    settles = λ w said waits h. h;
  }

  meets-known : (t : TaskNo) (s : StatementNo) (c : Call) → Fits TheFinish → IsDrawn d (who.Task t)
      → Keeps X (meet_without_room p TheFinish (who.Task t) s c (deliver p TheFinish c.number (call_ended.ToRaise exception.Storage)))
  meets-known t s c fits drawn =
      then-keeps _ _ (begin_accept-keeps base.quiet p TheFinish (who.Task t) s c)
      (then-keeps _ _ (finish_without_room-keeps base.quiet TheFinish (who.Task t) c)
      (then-keeps _ _
      (deliver-keeps (fine_base (base_known (λ part name. Fits part) (λ part name f. f))) TheFinish c.number (call_ended.ToRaise exception.Storage)
      (λ name. fits))
      (then-keeps _ _ (ready-known TheFinish (who.Task t) fits drawn) (raises-keeps (fine base.quiet) TheFinish (who.Task t) exception.Storage))))

-- ---- one state or the other

either-keeps : {X Y : State} (step : Step) → Keeps X step → Keeps Y step → Keeps (Either X Y) step
either-keeps step a b = either-leads step a b

either-alters : {X Y : State} (f : World → World) → Alters X f → Alters Y f → Alters (Either X Y) f
either-alters {X} {Y} f a b = record { turns = turn }
  where
    turn : (w : World) (said : List Said) → Either X Y w said → Either X Y (f w) said
    turn w said (inl h) = inl (a.turns w said h)
    turn w said (inr h) = inr (b.turns w said h)

either_by : {A B P : Type 0} → A ⊎ B → (A → P) → (B → P) → P
either_by (inl a) f g = f a
either_by (inr b) f g = g b

either-quiet : {X Y : State} → Silences X → Silences Y → Silences (Either X Y)
either-quiet a b = record {
  silently = λ u w said same h. either_by h (λ k. inl (a.silently u w said same k)) (λ k. inr (b.silently u w said same k));
  says = λ part line w said other h. either_by h (λ k. inl (a.says part line w said other k)) (λ k. inr (b.says part line w said other k));
  ends_scope = λ id w said h. either_by h (λ k. inl (a.ends_scope id w said k)) (λ k. inr (b.ends_scope id w said k));
}

either-base : {p : Image} {Parts : Fitting} {X Y : State} → BaseMoves p Parts Sleeps_drawn X → BaseMoves p Parts Sleeps_drawn Y
    → BaseMoves p Parts Sleeps_drawn (Either X Y)
either-base {p} {Parts} {X} {Y} a b = record {
  quiet = either-quiet a.quiet b.quiet;
  inherits =
      λ name cause level w said other h.
      either_by h (λ k. inl (a.inherits name cause level w said other k)) (λ k. inr (b.inherits name cause level w said other k));
  sleeps = a.sleeps;
  sleeps_on = a.sleeps_on;
  sleeps_behind = a.sleeps_behind;
  sleeps_heir = a.sleeps_heir;
  wakes = λ part name fits. record {
    runs = λ w said h. either_by h.0
        (λ k. (to-leads {Z = Either X Y} (ready p part name) (a.wakes part name fits) (λ v s m. inl m)).runs w said (k, h.1))
        (λ k. (to-leads {Z = Either X Y} (ready p part name) (b.wakes part name fits) (λ v s m. inr m)).runs w said (k, h.1));
  };
}

either-later : {p : Image} {actor : Who} {Parts : Fitting} {X Y : State} → LaterMoves p actor Parts Sleeps_drawn X → LaterMoves p actor Parts Sleeps_drawn Y
    → LaterMoves p actor Parts Sleeps_drawn (Either X Y)
either-later a b = record {
  base = either-base a.base b.base;
  fits_own = a.fits_own;
  fits_other = a.fits_other;
  heads = either-keeps _ a.heads b.heads;
  blocks = λ name waiting. either-keeps _ (a.blocks name waiting) (b.blocks name waiting);
}

either-select : {p : Image} {actor : Who} {X Y : State} {V U : World → State} → SelectMoves p actor Listed_drawn X X V → SelectMoves p actor Listed_drawn Y Y U
    → SelectMoves p actor Listed_drawn (Either X Y) (Either X Y) (λ v. Either (V v) (U v))
either-select a b = record {
  quiet = either-quiet a.quiet b.quiet;
  listed = λ v said h. either_by h (a.listed v said) (b.listed v said);
  looks_at = λ v said h. either_by h (λ k. inl (a.looks_at v said k)) (λ k. inr (b.looks_at v said k));
  looked = λ v w said h. either_by h (λ k. inl (a.looked v w said k)) (λ k. inr (b.looked v w said k));
  looking = λ v. either-quiet (a.looking v) (b.looking v);
  begins = λ v name apart listed. either-keeps _ (a.begins v name apart listed) (b.begins v name apart listed);
  runs_on = λ v. either-keeps _ (a.runs_on v) (b.runs_on v);
  says_blocked = λ waiting. either-leads _ (a.says_blocked waiting) (b.says_blocked waiting);
  settles = λ w said waits h. h;
}

-- ---- effects

-- the effect of who acts: a task may be made, and then no line of an earlier part follows
pub record KnownMoves (p : Image) (actor : Who) (d : ℕ) (I C : State) : Type 0 where
  pub acts : IsDrawn d actor
  pub acts_behind : IsDrawn (suc d) actor
  pub base : KnownBase p EveryPart d I
  pub behind_new : KnownBase p LatePart (suc d) C
  pub creates : (s : StatementNo) (n : DeclNo) (id : Option ScopeId) (t : Task) → Leads (With I (IsNew p t)) C (create_task p actor s n id t)
  pub makes : (l : Located) (u : ProtectedUnitNo) → Keeps I (changes (with_object p l u) ▷ says_object p l u)

module _ {p : Image} {actor : Who} {d : ℕ} {I C : State} (moves : KnownMoves p actor d I C) where
  pub late_base : KnownBase p LatePart d I
  late_base = record {
    quiet = moves.base.quiet;
    numbers = moves.base.numbers;
    edits = moves.base.edits;
    names = λ part x late drawn. moves.base.names part x tt drawn;
    tells = moves.base.tells;
    appoints = moves.base.appoints;
    forgets = moves.base.forgets;
  }

  abbrev pub Unmade : World → Naming
  Unmade v name = IsDrawn d name

  sleeping : (w : World) (said : List Said) → I w said → EachTask (λ t. is_blocked t.state ≡ true → Sleeps_drawn w t.who) w.tasks
  sleeping w said h =
      let n = moves.base.numbers w said h in
      each-on (λ t. IsDrawn d t.who) (λ t. is_blocked t.state ≡ true → Sleeps_drawn w t.who) w.tasks
      (λ t drawn is names. ap (λ e. is_fresh e t.who) n.drawn ∙ drawn) (each_drawn d w.tasks n.names)

  held : (o : ObjectNo) (mode : Mode) → Leads I (Either I (Either I C)) (find_held p actor o mode)
  unfolding find_held
  held o mode =
      to-leads _
      (then-keeps (says Own (line.Held actor o mode)) _ (moves.base.tells Own (line.Held actor o mode) (λ n. refl))
      (to_tail-known moves.base ThePlacing actor tt moves.acts))
      (λ w said h. inl h)

  pub knowing : ActingMoves p actor any_part late_part Sleeps_drawn anywhere Listed_drawn Unmade I I (Either I C) I I I (λ v. I) (λ v. I) (Since moves.base)
      (λ v. Either (Since late_base v) (Since moves.behind_new v)) (λ v name. I)
  knowing =
      let base = moves.base in
      let all = base_known base any_part (λ part name f. tt) in
      let acts = moves.acts in
      record {
        fresh = base.quiet;
        later = later_known base actor acts any_part (λ part name f. tt) tt (λ name. tt) (λ name. tt);
        entered =
            either-later (later_known late_base actor acts late_part (λ part name f. f) refl (λ name. refl) (λ name. refl))
            (later_known moves.behind_new actor moves.acts_behind late_part (λ part name f. f) refl (λ name. refl) (λ name. refl));
        over = all;
        owing = λ before. all;
        since = λ v. all;
        ending = λ v name. all;
        dying = all;
        choosing = select_known base actor (λ name. tt);
        inside = either-select (select_known late_base actor (λ name. refl)) (select_known moves.behind_new actor (λ name. refl));
        starts = λ w said h. h;
        ceases = λ w said h. h;
        rests = λ w said h. h;
        fits_finish = λ name. tt;
        tails = to_tail-known base ThePlacing actor tt acts;
        waits_at_select = λ accepts delay. changes-keeps _ (with_state-alters base actor (Blocked (waits_for.Select accepts delay true)));
        appoints_first = λ t moment is. base.appoints t moment (ap (is_fresh d) is ∙ acts);
        appoints = λ t moment is. base.appoints t moment (ap (is_fresh d) is ∙ acts);
        loses = λ cause. lose_running-known base actor cause tt acts;
        sets_deferred = set_deferred-known base actor tt;
        sets_base = λ t level. record {
          runs = λ w said h. (sets_base-known base actor (who.Task t) level (λ part. tt)
              (found-drawn d w.tasks (who.Task t) h.1.0 (base.numbers w said h.0).names h.1.1)).runs w said h.0;
        };
        sets_deadline = λ name moment. sets_deadline-known base actor name moment (λ part. tt);
        owes = λ w said h. h;
        loses_owed = λ before w said h. (lose-alters base actor inherited_by.Activation).turns w said h;
        pays = λ before. fall_from-known base actor before tt acts;
        since_now = λ v said h. h;
        since_then = λ v w said h. h;
        made_differ = λ v said h. each-on (λ t. IsDrawn d t.who) (λ t. is_made_state t.state ≡ true → IsDrawn d t.who) v.tasks (λ t drawn is. drawn)
            (each_drawn d v.tasks (base.numbers v said h).names);
        inherits_activation = λ v name level u. inherit-alters base name inherited_by.Activation level;
        activates = λ v name u. ready-known base (OfOther name) name tt u;
        ends_other = λ v name u. says_done-known base (OfOther name) name;
        loses_ended = λ v name w said h. (lose-alters base name inherited_by.Activation).turns w said h;
        forgets = λ v name. changes-keeps _ (base.forgets name);
        found_since = λ v w said h. sleeping w said h;
        ends = says_done-known base Own actor;
        loses_last = λ w said h. (lose-alters base actor inherited_by.Activation).turns w said h;
        forgets_actor = changes-keeps _ (base.forgets actor);
        found_asleep = sleeping;
        creates = λ s n id t. to-leads _ (moves.creates s n id t) (λ w said h. inr (inr h));
        meets_late = λ t s c. record {
          runs = λ w said h. (meets-known base t s c tt (awake base w said (who.Task t) h.0 h.1)).runs w said h.0;
        };
        makes = moves.makes;
        may = λ w o mode e. tt;
        may_held = λ w o mode e. tt;
        may_on = λ a b o same m. tt;
        enters = λ o mode. from-leads _ (λ w said h. h.0) (to-leads _ (base.tells Own (line.Enter actor o mode) (λ n. refl)) (λ w said h. inl h));
        exits = λ name o. base.tells Own (line.Exit name o) (λ n. refl);
        exits_entered = λ name o. either-keeps _ (base.tells Own (line.Exit name o) (λ n. refl)) (moves.behind_new.tells Own (line.Exit name o) (λ n. refl));
        finds_held = λ o mode. from-leads _ (λ w said h. h.0) (held o mode);
      }

-- ---- what comes about beside an effect

module _ {p : Image} {d : ℕ} {I : State} (base : KnownBase p EveryPart d I) where
  pub known_others : OtherMoves p Sleeps_drawn Drawn_then I
  known_others = record {
    base = base_known base (λ part name. part ≡ Own) (λ part name f. tt);
    drawn = λ v said t h e. let n = base.numbers v said h in ap (λ m. is_fresh m (who.Task t)) n.drawn ∙ n.delays t e;
    drawn_on = λ a b t same k. ap (λ m. is_fresh m (who.Task t)) same.drawn_tasks ∙ k;
    readies = λ t. record {
      runs = λ w said h. (ready-known base Own (who.Task t) tt
          (ap (λ m. is_fresh m (who.Task t)) (sym (base.numbers w said h.0).drawn) ∙ h.1)).runs w said h.0;
    };
    tails = λ t. record { runs = λ w said h. (to_tail-known base Own (who.Task t) tt (runs-drawn base w said h.0 (who.Task t) h.1)).runs w said h.0 };
  }
