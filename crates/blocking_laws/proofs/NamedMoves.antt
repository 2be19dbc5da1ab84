-- What each line keeps by itself, by who acts: others are placed at the tail, and only who acts at the head and enters an object.
use Rattle.ceiling_laws.proofs.Runs.FreeMoves.{EveryPart, LatePart, any_part, any_task, any_world, anybody, late_part}
use Rattle.ann_base.specs.declared.exceptions.Raised.TheVariants as exception
use Rattle.ann_base.specs.declared.identities.ObjectNo.{ObjectNo}
use Rattle.ann_base.specs.declared.identities.TaskNo.{TaskNo}
use Rattle.ceiling_laws.proofs.Runs.ActingMoves.{ActingMoves, Admitting, Either, IsNew, LaterMoves, SelectMoves, either-leads}
use Rattle.ceiling_laws.proofs.Fine.Kept.CallEnds.{deliver-keeps}
use Rattle.ceiling_laws.proofs.Fine.Kept.Frames.{raises-keeps}
use Rattle.ceiling_laws.proofs.Runs.Kept.Instant.{OtherMoves}
use Rattle.ceiling_laws.proofs.Runs.Kept.Priorities.{reprioritize_own-keeps, says_deadline-keeps}
use Rattle.ceiling_laws.proofs.Runs.Kept.Rendezvous.{begin_accept-keeps, finish_without_room-keeps}
use Rattle.ceiling_laws.proofs.Runs.Kept.Tasks.{edit_task-alters}
use Rattle.ceiling_laws.proofs.Runs.LevelMoves.{BaseMoves, EachTask, Fitting, Silences}
use Rattle.ceiling_laws.proofs.Runs.Triples.{Alters, At, Keeps, Leads, State, With, branch-keeps, branch-leads, changes-keeps, from-leads, from_at, looks-keeps}
use Rattle.ceiling_laws.proofs.Runs.Triples.{looks-leads, looks-with, nothing-keeps, then-keeps, then-leads, then-together, to-leads, when-keeps, when-leads}
use Rattle.ceiling_laws.specs.Cores.{Same}
use Rattle.ceiling_laws.proofs.Runs.Finer.{fine, fine_base}
use Rattle.profile_machine.specs.Appointments.{appoint}
use Rattle.profile_machine.specs.CallEnds.{deliver}
use Rattle.profile_machine.specs.Declarations.{says_object, with_object}
use Rattle.profile_machine.specs.Dispatching.{active, block, grant_quantum, granted, keep_level, level_kept_by, ready}
use Rattle.profile_machine.specs.Dispatching.{says_block, says_ready, to_head, to_tail, without_kept_level, word_of}
use Rattle.profile_machine.specs.Frames.{in_protected}
use Rattle.profile_machine.specs.Inheritance.{falls, inherit, lose, lose_running}
use Rattle.profile_machine.specs.Masters.{forget_task, part_of}
use Rattle.profile_machine.specs.Priorities.{defer_base, defer_deadline, is_runnable_at_edf, placing_of, replace_in, says_base, set_base}
use Rattle.profile_machine.specs.Priorities.{set_deadline, set_deferred, set_or_defer_base, set_or_defer_deadline, take_base, take_deadline}
use Rattle.profile_image.specs.Program.{edf_low, has_edf, is_robin_level}
use Rattle.profile_machine.specs.Protected.{entering, find_held}
use Rattle.profile_machine.specs.Rendezvous.{meet_without_room}
use Rattle.profile_machine.specs.Steps.{changes, nothing, says, ◌▷◌}
use Rattle.profile_machine.specs.Tasking.{create_task, fall_from, says_done}
use Rattle.profile_machine.specs.Tasks.{edit_task, task_of, with_state}
use Rattle.profile_image.specs.declared.image.Image.{Image}
use Rattle.profile_image.specs.declared.numbers.DeclNo.{DeclNo}
use Rattle.profile_image.specs.declared.numbers.ProtectedUnitNo.{ProtectedUnitNo}
use Rattle.profile_image.specs.declared.numbers.StatementNo.{StatementNo}
use Rattle.profile_machine.specs.declared.world.World.{World}
use Rattle.profile_machine.specs.declared.world.appointments.Due.TheVariants as due_for
use Rattle.profile_machine.specs.declared.world.calls.Call.{Call}
use Rattle.profile_machine.specs.declared.world.calls.Outcome.TheVariants as call_ended
use Rattle.profile_machine.specs.declared.world.lines.Line.TheVariants as line
use Rattle.profile_machine.specs.declared.world.lines.Part.{Part}
use Rattle.profile_machine.specs.declared.world.lines.Part.TheVariants.{OfOther, Own, TheBlock, TheFinish, ThePlacing}
use Rattle.profile_machine.specs.declared.world.lines.Said.{Said}
use Rattle.profile_machine.specs.declared.world.objects.Entering.TheVariants as entering_is
use Rattle.profile_machine.specs.declared.world.scopes.Located.{Located}
use Rattle.profile_machine.specs.declared.world.scopes.ScopeId.{ScopeId}
use Rattle.profile_machine.specs.declared.world.tasks.Cause.{Cause}
use Rattle.profile_machine.specs.declared.world.tasks.Cause.TheVariants as inherited_by
use Rattle.profile_machine.specs.declared.world.tasks.State as tasks
use Rattle.profile_machine.specs.declared.world.tasks.State.TheVariants.{Blocked, Made, Runnable}
use Rattle.profile_machine.specs.declared.world.tasks.Task.{Task}
use Rattle.profile_machine.specs.declared.world.tasks.Waiting.{Waiting}
use Rattle.profile_machine.specs.declared.world.tasks.Waiting.TheVariants as waits_for
use Rattle.std.proofs.Common.{inl, refl, ◌≡◌}
use Rattle.std.specs.Prelude.{Bool, List, None, Option, Some, [], cond, eqb, false, not, slice_index_or, true, ℕ, ℤ, ◌&&◌, ◌∷◌}
use Rattle.trace_text.specs.declared.events.Mode.{Mode}
use Rattle.trace_text.specs.declared.events.QueueEnd.TheVariants.{Head, Tail}
use Rattle.trace_text.specs.declared.events.Waits.{Waits}
use Rattle.trace_text.specs.declared.events.Who.{Who}
use Rattle.trace_text.specs.declared.events.Who.TheVariants as who
use Rattle.machine_laws.proofs.Kept.Dispatching.{full_quantum-who}

-- what each edit and each line keeps by itself, where lines place in some parts
pub record NamedBase (p : Image) (Fits : Part → Type 0) (X : State) : Type 0 where
  pub quiet : Silences X
  -- an edit that leaves the base priority, and what is deferred of it
  pub edits : (name : Who) (f : Task → Task) → ((t : Task) → (f t).who ≡ t.who) → ((t : Task) → (f t).base ≡ t.base)
      → ((t : Task) → (f t).deferred_base ≡ t.deferred_base) → Alters X (edit_task name f)
  -- lines that place somebody, or take it out
  pub tails : (part : Part) (name : Who) → Fits part → Keeps X (says_ready p part name Tail)
  pub blocks : (name : Who) (waits : Waits) → Keeps X (says TheBlock (line.Block name waits))
  pub ends : (part : Part) (t : TaskNo) → Fits part → Keeps X (says part (line.Done t))
  pub exits : (name : Who) (o : ObjectNo) → Keeps X (says Own (line.Exit name o))
  pub appoints : (t : TaskNo) (moment : ℤ) → Alters X (appoint (due_for.Delay t) moment)
  pub forgets : (name : Who) → Alters X (forget_task name)

-- who acts is placed at the head
abbrev pub Heads : Image → Who → (Part → Type 0) → State → Type 0
Heads p actor Fits X = (part : Part) → Fits part → Keeps X (says_ready p part actor Head)

-- the same of an effect: at first, later, and behind the line of an action that begins
pub record NamedMoves (p : Image) (actor : Who) (May : Admitting) (F I J : State) : Type 0 where
  pub fresh : Silences F
  pub appoints_first : (t : TaskNo) (moment : ℤ) → Alters F (appoint (due_for.Delay t) moment)
  pub later : NamedBase p EveryPart I
  pub entered : NamedBase p LatePart J
  pub heads_later : Heads p actor EveryPart I
  pub heads_entered : Heads p actor LatePart J
  pub starts : (w : World) (said : List Said) → F w said → I w said
  pub may : (w : World) (o : ObjectNo) (mode : Mode) → entering p w actor o mode ≡ entering_is.Inside → May w o
  pub may_held : (w : World) (o : ObjectNo) (mode : Mode) → entering p w actor o mode ≡ entering_is.Held → May w o
  pub may_on : (a b : World) (o : ObjectNo) → Same a b → May a o → May b o
  pub enters : (o : ObjectNo) (mode : Mode) → Leads (With F (λ w. May w o)) J (says Own (line.Enter actor o mode))
  -- who finds an object held goes on as who acts later does, or as behind the line of an action that begins
  pub finds_held : (o : ObjectNo) (mode : Mode) → Leads (With F (λ w. May w o)) (Either I J) (says Own (line.Held actor o mode))
  -- base priorities that are set and deferred; what the agent may have deferred is set too
  pub bases_first : (t : TaskNo) (level : ℕ)
      → Leads F I (changes (edit_task (who.Task t) (λ u. record u { base = level })) ▷ says (part_of actor (who.Task t)) (line.Base t level))
  pub bases : (t : TaskNo) (level : ℕ) → Keeps I (changes (edit_task (who.Task t) (λ u. record u { base = level })) ▷ says ThePlacing (line.Base t level))
  pub defers : (t : TaskNo) (deferred : Option ℕ) → Alters I (edit_task (who.Task t) (λ u. record u { deferred_base = deferred }))
  pub takes : (v : World) (level : ℕ) → v.agent.deferred_base ≡ Some level
      → Leads (At I v) I (changes (edit_task who.Agent (λ u. record u { deferred_base = None })) ▷ set_base p ThePlacing ThePlacing who.Agent level)
  pub creates : (s : StatementNo) (d : DeclNo) (id : Option ScopeId) (t : Task) → Leads (With F (IsNew p t)) I (create_task p actor s d id t)
  pub makes : (l : Located) (u : ProtectedUnitNo) → Keeps I (changes (with_object p l u) ▷ says_object p l u)

full_quantum-base : (b : Bool) (n : ℕ) (t : Task) → (cond b (record t { quantum = n }) t).base ≡ t.base
full_quantum-base true n t = refl
full_quantum-base false n t = refl

full_quantum-deferred : (b : Bool) (n : ℕ) (t : Task) → (cond b (record t { quantum = n }) t).deferred_base ≡ t.deferred_base
full_quantum-deferred true n t = refl
full_quantum-deferred false n t = refl

each-of : (P : Task → Type 0) → ((t : Task) → P t) → (ts : List Task) → EachTask P ts
each-of P f [] = tt
each-of P f (t ∷ ts) = (f t, each-of P f ts)

module _ {p : Image} {Fits : Part → Type 0} {X : State} (free : NamedBase p Fits X) where
  grant-alters : (name : Who) → Alters X (grant_quantum p name)
  grant-alters name = record {
    turns = λ w said h. (free.edits name (granted p w.quanta)
        (λ t. full_quantum-who (eqb (active p t) t.base && is_robin_level p t.base) (slice_index_or w.quanta t.base 0) t)
        (λ t. full_quantum-base (eqb (active p t) t.base && is_robin_level p t.base) (slice_index_or w.quanta t.base 0) t)
        (λ t. full_quantum-deferred (eqb (active p t) t.base && is_robin_level p t.base) (slice_index_or w.quanta t.base 0) t)).turns w said h;
  }

  pub to_tail-free : (part : Part) (name : Who) → Fits part → Keeps X (to_tail p part name)
  unfolding to_tail
  to_tail-free part name fits = then-keeps _ _ (changes-keeps _ (grant-alters name)) (free.tails part name fits)

  to_head-free : (actor : Who) → Heads p actor Fits X → (part : Part) → Fits part → Keeps X (to_head p part actor)
  unfolding to_head
  to_head-free actor heads part fits = heads part fits

  with_state-alters : (name : Who) (state : tasks.State) → Alters X (edit_task name (with_state state))
  with_state-alters name state = free.edits name (with_state state) (λ t. refl) (λ t. refl) (λ t. refl)

  keep_level-alters : (name : Who) → Alters X (keep_level p name)
  keep_level-alters name = record {
    turns =
        λ w said h.
        (free.edits name (λ t. record t { kept_level = level_kept_by p w t (edf_low p t.base) }) (λ t. refl) (λ t. refl) (λ t. refl)).turns w said h;
  }

  pub ready-free : (part : Part) (name : Who) → Fits part → Keeps X (ready p part name)
  unfolding ready
  ready-free part name fits =
      then-keeps _ _ (changes-keeps _ (with_state-alters name Runnable))
      (then-keeps _ _ (changes-keeps _ (keep_level-alters name)) (to_tail-free part name fits))

  says_block-free : (name : Who) (waiting : Waiting) → Keeps X (says_block TheBlock name waiting)
  unfolding says_block
  says_block-free name waiting =
      then-keeps _ _ (changes-keeps _ (free.edits name without_kept_level (λ t. refl) (λ t. refl) (λ t. refl))) (free.blocks name (word_of waiting))

  block-free : (name : Who) (waiting : Waiting) → Keeps X (block TheBlock name waiting)
  unfolding block
  block-free name waiting = then-keeps _ _ (changes-keeps _ (with_state-alters name (Blocked waiting))) (says_block-free name waiting)

  lose-alters : (name : Who) (cause : Cause) → Alters X (lose name cause)
  lose-alters name cause = free.edits name _ (λ t. refl) (λ t. refl) (λ t. refl)

  inherit-free : (name : Who) (cause : Cause) (level : ℕ) → Alters X (inherit name cause level)
  inherit-free name cause level = free.edits name _ (λ t. refl) (λ t. refl) (λ t. refl)

  lose_running-free : (actor : Who) → Heads p actor Fits X → (cause : Cause) → Fits ThePlacing → Keeps X (lose_running p actor cause)
  unfolding lose_running
  lose_running-free actor heads cause fits =
      looks-keeps _
      (λ w. then-keeps _ _ (changes-keeps _ (lose-alters actor cause))
      (when-keeps (falls p actor w (lose actor cause w)) _ (to_head-free actor heads ThePlacing fits)))

  fall_from-free : (actor : Who) → Heads p actor Fits X → (before : World) → Fits ThePlacing → Keeps X (fall_from p actor before)
  unfolding fall_from
  fall_from-free actor heads before fits = looks-keeps _ (λ w. when-keeps (falls p actor before w) _ (to_head-free actor heads ThePlacing fits))

  says_done-free : (part : Part) (name : Who) → Fits part → Keeps X (says_done part name)
  unfolding says_done
  says_done-free part (who.Task t) fits = free.ends part t fits
  says_done-free part who.Agent fits = nothing-keeps

  set_deadline-free : (part placing : Part) (name : Who) (d : ℤ) → Fits placing → Keeps X (set_deadline p part placing name d)
  unfolding set_deadline
  set_deadline-free part placing name d fits =
      then-keeps _ _ (changes-keeps _ (edit_task-alters free.quiet name (λ t. record t { deadline = d }) (λ t. refl)))
      (then-keeps _ _ (says_deadline-keeps free.quiet part name d)
      (looks-keeps _ (λ w. when-keeps (is_runnable_at_edf p w name (task_of w name).state) _ (to_tail-free placing name fits))))

  pub replace_in-free : (part : Part) (name : Who) (state : tasks.State) → Fits part → Keeps X (replace_in p part name state)
  unfolding replace_in
  replace_in-free part name Made fits = nothing-keeps
  replace_in-free part name Runnable fits = to_tail-free part name fits
  replace_in-free part name (Blocked waiting) fits = reprioritize_own-keeps free.quiet p name waiting

  sets_deadline-free : (actor name : Who) (d : ℤ) → ((part : Part) → Fits part) → Keeps X (set_or_defer_deadline p actor name d)
  unfolding set_or_defer_deadline defer_deadline
  sets_deadline-free actor name d fits =
      looks-keeps _
      (λ w. branch-keeps (in_protected w name && has_edf p) (changes (edit_task name (λ t. record t { deferred_deadline = Some d })))
      (set_deadline p (part_of actor name) (placing_of actor name) name d)
      (changes-keeps _ (edit_task-alters free.quiet name (λ t. record t { deferred_deadline = Some d }) (λ t. refl)))
      (set_deadline-free (part_of actor name) (placing_of actor name) name d (fits (placing_of actor name))))

  take_deadline-free : (name : Who) (moment : Option ℤ) → Fits ThePlacing → Keeps X (take_deadline p name moment)
  unfolding take_deadline
  take_deadline-free name None fits = nothing-keeps
  take_deadline-free name (Some d) fits =
      then-keeps _ _ (changes-keeps _ (edit_task-alters free.quiet name (λ t. record t { deferred_deadline = None }) (λ t. refl)))
      (set_deadline-free ThePlacing ThePlacing name d fits)

  pub base_free : (Parts : Fitting) → ((part : Part) (name : Who) → Parts part name → Fits part) → BaseMoves p Parts any_world X
  base_free Parts fits = record {
    quiet = free.quiet;
    inherits = λ name cause level w said other h. (inherit-free name cause level).turns w said h;
    sleeps = λ w name is. tt;
    sleeps_on = λ a b name same s. tt;
    sleeps_behind = λ id w name s. tt;
    sleeps_heir = λ heir cause level w name s. tt;
    wakes = λ part name f. from-leads (ready p part name) (λ w said h. h.0) (ready-free part name (fits part name f));
  }

  pub later_free : (actor : Who) → Heads p actor Fits X → (Parts : Fitting) → ((part : Part) (name : Who) → Parts part name → Fits part) → Fits ThePlacing
      → ((name : Who) → Parts Own name) → ((name : Who) → Parts (OfOther name) name) → LaterMoves p actor Parts any_world X
  later_free actor heads Parts fits placing fits_own fits_other = record {
    base = base_free Parts fits;
    fits_own = fits_own;
    fits_other = fits_other;
    heads = to_head-free actor heads ThePlacing placing;
    blocks = λ name waiting. block-free name waiting;
  }

  pub select_free : (actor : Who) → ((name : Who) → Fits (OfOther name)) → SelectMoves p actor anybody X X (λ v. X)
  select_free actor other = record {
    quiet = free.quiet;
    listed = λ v said h. each-of _ (λ t. tt) v.tasks;
    looks_at = λ v said h. h;
    looked = λ v w said h. h;
    looking = λ v. free.quiet;
    begins = λ v name apart listed. ready-free (OfOther name) name (other name);
    runs_on = λ v. changes-keeps _ (with_state-alters actor Runnable);
    says_blocked = λ waiting. says_block-free actor waiting;
    settles = λ w said waits h. h;
  }

-- ---- effects

module _ {p : Image} {actor : Who} {May : Admitting} {F I J : State} (free : NamedMoves p actor May F I J) where
  set_base-first : (t : TaskNo) (level : ℕ) → Leads F I (set_base p (part_of actor (who.Task t)) (placing_of actor (who.Task t)) (who.Task t) level)
  unfolding set_base says_base
  set_base-first t level =
      then-together (changes (edit_task (who.Task t) (λ u. record u { base = level }))) (says (part_of actor (who.Task t)) (line.Base t level)) _
      (free.bases_first t level)
      (looks-keeps _ (λ w. replace_in-free free.later (placing_of actor (who.Task t)) (who.Task t) (task_of w (who.Task t)).state tt))

  set_base-placing : (t : TaskNo) (level : ℕ) → Keeps I (set_base p ThePlacing ThePlacing (who.Task t) level)
  unfolding set_base says_base
  set_base-placing t level =
      then-together (changes (edit_task (who.Task t) (λ u. record u { base = level }))) (says ThePlacing (line.Base t level)) _ (free.bases t level)
      (looks-keeps _ (λ w. replace_in-free free.later ThePlacing (who.Task t) (task_of w (who.Task t)).state tt))

  sets_base-free : (t : TaskNo) (level : ℕ) → Leads F I (set_or_defer_base p actor (who.Task t) level)
  unfolding set_or_defer_base defer_base
  sets_base-free t level =
      looks-leads _
      (λ w. branch-leads (in_protected w (who.Task t)) (changes (edit_task (who.Task t) (λ u. record u { deferred_base = Some level })))
      (set_base p (part_of actor (who.Task t)) (placing_of actor (who.Task t)) (who.Task t) level)
      (from-leads _ free.starts (changes-keeps _ (free.defers t (Some level)))) (set_base-first t level))

  take_base-at : (name : Who) (v : World) (deferred : Option ℕ) → (task_of v name).deferred_base ≡ deferred → Leads (At I v) I (take_base p name deferred)
  unfolding take_base
  take_base-at name v None is = from_at nothing nothing-keeps
  take_base-at (who.Task t) v (Some level) is = from_at _ (then-keeps _ _ (changes-keeps _ (free.defers t None)) (set_base-placing t level))
  take_base-at who.Agent v (Some level) is = free.takes v level is

  sets_deferred-free : (name : Who) → Keeps I (set_deferred p name)
  unfolding set_deferred
  sets_deferred-free name =
      looks-with _ (λ v said h. when-leads (not (in_protected v name)) _
      (λ is. then-leads (take_base p name (task_of v name).deferred_base) _ (take_base-at name v (task_of v name).deferred_base refl)
      (take_deadline-free free.later name (task_of v name).deferred_deadline tt))
      (λ w s k. k.0))

  meets_late-free : (t : TaskNo) (s : StatementNo) (c : Call)
      → Keeps I (meet_without_room p TheFinish (who.Task t) s c (deliver p TheFinish c.number (call_ended.ToRaise exception.Storage)))
  meets_late-free t s c =
      then-keeps _ _ (begin_accept-keeps free.later.quiet p TheFinish (who.Task t) s c)
      (then-keeps _ _ (finish_without_room-keeps free.later.quiet TheFinish (who.Task t) c)
      (then-keeps _ _
      (deliver-keeps (fine_base (base_free free.later any_part (λ part name f. tt))) TheFinish c.number (call_ended.ToRaise exception.Storage) (λ name. tt))
      (then-keeps _ _ (ready-free free.later TheFinish (who.Task t) tt) (raises-keeps (fine free.later.quiet) TheFinish (who.Task t) exception.Storage))))

  find_held-free : (o : ObjectNo) (mode : Mode) → Leads (With F (λ w. May w o)) (Either I J) (find_held p actor o mode)
  unfolding find_held
  find_held-free o mode =
      then-leads (says Own (line.Held actor o mode)) _ (free.finds_held o mode)
      (either-leads _ (to_tail-free free.later ThePlacing actor tt) (to_tail-free free.entered ThePlacing actor refl))

  pub freely : ActingMoves p actor any_part late_part any_world May anybody anybody F I J I I I (λ v. I) (λ v. I) (λ v. I) (λ v. J) (λ v name. I)
  freely =
      let base = base_free free.later any_part (λ part name f. tt) in
      record {
        fresh = free.fresh;
        later = later_free free.later actor free.heads_later any_part (λ part name f. tt) tt (λ name. tt) (λ name. tt);
        entered = later_free free.entered actor free.heads_entered late_part (λ part name f. f) refl (λ name. refl) (λ name. refl);
        over = base;
        owing = λ before. base;
        since = λ v. base;
        ending = λ v name. base;
        dying = base;
        choosing = select_free free.later actor (λ name. tt);
        inside = select_free free.entered actor (λ name. refl);
        starts = free.starts;
        ceases = λ w said h. h;
        rests = λ w said h. h;
        fits_finish = λ name. tt;
        tails = to_tail-free free.later ThePlacing actor tt;
        waits_at_select =
            λ accepts delay. from-leads _ free.starts (changes-keeps _ (with_state-alters free.later actor (Blocked (waits_for.Select accepts delay true))));
        appoints_first = λ t moment is. free.appoints_first t moment;
        appoints = λ t moment is. free.later.appoints t moment;
        loses = λ cause. lose_running-free free.later actor free.heads_later cause tt;
        sets_deferred = sets_deferred-free actor;
        sets_base = λ t level. from-leads _ (λ w said h. h.0) (sets_base-free t level);
        sets_deadline = λ name d. from-leads _ free.starts (sets_deadline-free free.later actor name d (λ part. tt));
        owes = λ w said h. h;
        loses_owed = λ before w said h. (lose-alters free.later actor inherited_by.Activation).turns w said h;
        pays = λ before. fall_from-free free.later actor free.heads_later before tt;
        since_now = λ v said h. h;
        since_then = λ v w said h. h;
        made_differ = λ v said h. each-of _ (λ t e. tt) v.tasks;
        inherits_activation = λ v name level u. inherit-free free.later name inherited_by.Activation level;
        activates = λ v name u. ready-free free.later (OfOther name) name tt;
        ends_other = λ v name u. says_done-free free.later (OfOther name) name tt;
        loses_ended = λ v name w said h. (lose-alters free.later name inherited_by.Activation).turns w said h;
        forgets = λ v name. changes-keeps _ (free.later.forgets name);
        found_since = λ v w said h. each-of _ (λ t e. tt) w.tasks;
        ends = from-leads _ free.starts (says_done-free free.later Own actor tt);
        loses_last = λ w said h. (lose-alters free.later actor inherited_by.Activation).turns w said h;
        forgets_actor = changes-keeps _ (free.later.forgets actor);
        found_asleep = λ w said h. each-of _ (λ t e. tt) w.tasks;
        creates = λ s d id t. to-leads _ (free.creates s d id t) (λ w said h. inl h);
        meets_late = λ t s c. from-leads _ (λ w said h. h.0) (meets_late-free t s c);
        makes = free.makes;
        may = free.may;
        may_held = free.may_held;
        may_on = free.may_on;
        enters = free.enters;
        exits = free.later.exits;
        exits_entered = free.entered.exits;
        finds_held = λ o mode. find_held-free o mode;
      }

-- ---- what comes about beside an effect

module _ {p : Image} {X : State} (free : NamedBase p EveryPart X) where
  pub free_others : OtherMoves p any_world any_task X
  free_others = record {
    base = base_free free (λ part name. part ≡ Own) (λ part name f. tt);
    drawn = λ v said t h e. tt;
    drawn_on = λ a b t same k. tt;
    readies = λ t. from-leads (ready p Own (who.Task t)) (λ w said h. h.0) (ready-free free Own (who.Task t) tt);
    tails = λ t. from-leads (to_tail p Own (who.Task t)) (λ w said h. h.0) (to_tail-free free Own (who.Task t) tt);
  }

  -- lines of late parts are lines
  pub late_base : NamedBase p LatePart X
  late_base = record {
    quiet = free.quiet;
    edits = free.edits;
    tails = λ part name late. free.tails part name tt;
    blocks = free.blocks;
    ends = λ part t late. free.ends part t tt;
    exits = free.exits;
    appoints = free.appoints;
    forgets = free.forgets;
  }
