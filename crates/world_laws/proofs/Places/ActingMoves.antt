-- What the effect of an action keeps, by who acts.
use Rattle.ann_base.specs.declared.exceptions.Raised.TheVariants as exception
use Rattle.ann_base.specs.declared.identities.ObjectNo.{ObjectNo}
use Rattle.ann_base.specs.declared.identities.TaskNo.{TaskNo}
use Rattle.ceiling_laws.proofs.Fine.LevelMoves.{BaseMoves, Silences}
use Rattle.ceiling_laws.proofs.Runs.Triples.{Alters, Keeps, Leads, State, With}
use Rattle.ceiling_laws.proofs.Fine.Cores.{Same}
use Rattle.profile_machine.specs.Appointments.{appoint}
use Rattle.profile_machine.specs.CallEnds.{deliver}
use Rattle.profile_machine.specs.Declarations.{says_object, with_object}
use Rattle.profile_machine.specs.Dispatching.{block, ready, says_block, to_tail}
use Rattle.profile_machine.specs.Inheritance.{inherit, inherit_running, lose, lose_running, same_cause}
use Rattle.profile_machine.specs.Masters.{forget_task, waits_at_terminate}
use Rattle.profile_machine.specs.Priorities.{set_deferred, set_or_defer_base, set_or_defer_deadline}
use Rattle.profile_machine.specs.Protected.{entering}
use Rattle.profile_machine.specs.Rendezvous.{meet_without_room}
use Rattle.profile_machine.specs.Steps.{changes, says, ◌▷◌}
use Rattle.profile_machine.specs.Tasking.{activated_task, create_task, fall_from, says_done}
use Rattle.profile_machine.specs.Tasks.{edit_task, is_made, waiting_in, waiting_of, with_state}
use Rattle.profile_image.specs.Words.{same_who}
use Rattle.profile_image.specs.declared.image.Image.{Image}
use Rattle.profile_image.specs.declared.numbers.DeclNo.{DeclNo}
use Rattle.profile_image.specs.declared.numbers.ProtectedUnitNo.{ProtectedUnitNo}
use Rattle.profile_image.specs.declared.numbers.StatementNo.{StatementNo}
use Rattle.profile_machine.specs.declared.world.World.{World}
use Rattle.profile_machine.specs.declared.world.appointments.Due.TheVariants as due_for
use Rattle.profile_machine.specs.declared.world.calls.Call.{Call}
use Rattle.profile_machine.specs.declared.world.calls.Outcome.TheVariants as call_ended
use Rattle.profile_machine.specs.declared.world.lines.Line.TheVariants as line
use Rattle.profile_machine.specs.declared.world.lines.Part.TheVariants.{OfOther, Own, TheBlock, TheFinish, ThePlacing}
use Rattle.profile_machine.specs.declared.world.lines.Said.{Said}
use Rattle.profile_machine.specs.declared.world.objects.Entering.TheVariants as entering_is
use Rattle.profile_machine.specs.declared.world.scopes.Located.{Located}
use Rattle.profile_machine.specs.declared.world.scopes.ScopeId.{ScopeId}
use Rattle.profile_machine.specs.declared.world.tasks.Cause.{Cause}
use Rattle.profile_machine.specs.declared.world.tasks.Cause.TheVariants as inherited_by
use Rattle.profile_machine.specs.declared.world.tasks.State.TheVariants.{Blocked, Runnable}
use Rattle.profile_machine.specs.declared.world.tasks.Task.{Task}
use Rattle.profile_machine.specs.declared.world.tasks.Waiting.{Waiting}
use Rattle.profile_machine.specs.declared.world.tasks.Waiting.TheVariants as waits_for
use Rattle.std.proofs.Common.{◌≡◌}
use Rattle.std.specs.List.{list_any}
use Rattle.std.specs.Prelude.{List, [], None, Option, Some, false, true, ℕ, ℤ, ◌∷◌}
use Rattle.trace_text.specs.declared.events.Mode.{Mode}
use Rattle.trace_text.specs.declared.events.Who.{Who}
use Rattle.trace_text.specs.declared.events.Who.TheVariants as who
use Rattle.ceiling_laws.proofs.Runs.LevelMoves.{EachTask, FitsAll, Fitting, Sleeping, is_blocked}
use Rattle.ceiling_laws.proofs.Runs.ActingMoves.{Admitting}
use Rattle.machine_laws.proofs.FineMoves.{Naming}

-- what holds since a world, of whose tasks those of a list have only been made, and where one of these has ended
abbrev pub Lasting : Type 1
Lasting = World → List Task → State

abbrev pub LastingOf : Type 1
LastingOf = World → List Task → Who → State

-- who may enter an object in a world

-- a task as it is created, with the next number
pub record IsNew (p : Image) (t : Task) (w : World) : Type 0 where
  pub numbered : t.who ≡ who.Task (record { 0 = w.drawn.tasks })
  pub made : is_made t ≡ true
  pub undeferred : t.deferred_base ≡ None

-- each of these tasks bears another name
abbrev pub AreApart : List Task → Type 0
AreApart [] = Unit {0}
AreApart (t ∷ ts) = (list_any (λ u. same_who t.who u.who) ts ≡ false) × AreApart ts

-- the same parts, of others than who acts
abbrev pub OfOthers : Who → Fitting → Fitting
OfOthers actor Fits part name = Fits part name × (same_who actor name ≡ false)

-- what is kept while who acts runs
pub record LaterMoves (p : Image) (actor : Who) (Fits : Fitting) (Sleeps : Sleeping) (X : State) : Type 0 where
  pub base : BaseMoves p Fits Sleeps X
  -- in which parts others and who acts are placed by becoming ready
  pub fits_own : FitsAll Fits Own
  pub fits_other : (name : Who) → Fits (OfOther name) name
  -- who acts inherits a priority
  pub inherits_running : (cause : Cause) (level : ℕ) → same_cause inherited_by.Activation cause ≡ false → Keeps X (inherit_running p actor cause level)

-- Who has come to its select waits there before it says so: until it says that it blocks, or goes on at once. Meanwhile others may
-- leave their selects, of the tasks that a world has (`V`).
pub record SelectMoves (p : Image) (actor : Who) (Listed : World → Naming) (W Y : State) (V : World → State) : Type 0 where
  pub quiet : Silences W
  pub listed : (v : World) (said : List Said) → W v said → EachTask (λ t. Listed v t.who) v.tasks
  pub looks_at : (v : World) (said : List Said) → W v said → V v v said
  pub looked : (v w : World) (said : List Said) → V v w said → W w said
  pub looking : (v : World) → Silences (V v)
  pub begins : (v : World) (name : Who) → same_who actor name ≡ false → Listed v name → Keeps (V v) (ready p (OfOther name) name)
  pub waits : (v : World) (said : List Said) → W v said
      → EachTask (λ t. same_who actor t.who ≡ true → waits_at_terminate (waiting_in t.state) ≡ true → waits_at_terminate (waiting_of v actor) ≡ true) v.tasks
  pub runs_on : (v : World) → waits_at_terminate (waiting_of v actor) ≡ true → Keeps (V v) (changes (edit_task actor (with_state Runnable)))
  pub says_blocked : (waiting : Waiting) → Leads (With W (λ w. waits_at_terminate (waiting_of w actor) ≡ true)) Y (says_block TheBlock actor waiting)
  pub settles : (w : World) (said : List Said) → waits_at_terminate (waiting_of w actor) ≡ false → W w said → Y w said

-- At first (F), later, where who acts runs on (I), and where its deadline is set (L); at a select (W); where it runs on or has
-- blocked (Y), and where no more is to be said of it (B). Where who acts owes a line since its active priority may have fallen (O); since a
-- world, of whose tasks some have only been made (N); where one of these has ended (E), or who acts (D), and where it is there no
-- more (Z).
pub record ActingMoves (p : Image) (actor : Who) (Fits : Fitting) (Sleeps : Sleeping) (May : Admitting) (Listed Unmade : World → Naming)
    (F I L W Y B D Z : State) (O V : World → State) (N : Lasting) (E : LastingOf) : Type 0 where
  pub fresh : Silences F
  pub later : LaterMoves p actor Fits Sleeps I
  pub over : BaseMoves p (OfOthers actor Fits) Sleeps B
  pub gone : BaseMoves p Fits Sleeps Z
  pub owing : (before : World) → BaseMoves p Fits Sleeps (O before)
  pub since : (v : World) (rest : List Task) → BaseMoves p Fits Sleeps (N v rest)
  pub ending : (v : World) (rest : List Task) (name : Who) → BaseMoves p Fits Sleeps (E v rest name)
  pub dying : BaseMoves p Fits Sleeps D
  pub choosing : SelectMoves p actor Listed W B V
  pub starts : (w : World) (said : List Said) → F w said → I w said
  pub ceases : (w : World) (said : List Said) → I w said → Y w said
  pub rests : (w : World) (said : List Said) → Y w said → W w said
  pub fits_finish : FitsAll Fits TheFinish
  -- who acts blocks, as the last thing that it does
  pub blocks : (waiting : Waiting) → waits_at_terminate (Some waiting) ≡ false → Leads I Y (block TheBlock actor waiting)
  -- who acts is placed, or waits at a select
  pub tails : Keeps I (to_tail p ThePlacing actor)
  pub waits_at_select : (accepts : List StatementNo) (delay : Option StatementNo)
      → Leads F W (changes (edit_task actor (with_state (Blocked (waits_for.Select accepts delay true)))))
  -- a moment is appointed for it
  pub appoints_first : (t : TaskNo) (moment : ℤ) → who.Task t ≡ actor → Alters F (appoint (due_for.Delay t) moment)
  pub appoints : (t : TaskNo) (moment : ℤ) → who.Task t ≡ actor → Alters I (appoint (due_for.Delay t) moment)
  -- priorities that are lost and set
  pub loses : (cause : Cause) → Keeps I (lose_running p actor cause)
  pub sets_deferred : Keeps I (set_deferred p actor)
  pub sets_base : (t : TaskNo) (level : ℕ) → Leads F I (set_or_defer_base p actor (who.Task t) level)
  pub sets_deadline : (name : Who) (deadline : ℤ) → Leads F I (set_or_defer_deadline p actor name deadline)
  -- a delay with a deadline: who acts waits or goes to the tail
  pub dating : Silences L
  pub dates : (deadline : ℤ) → Leads I L (changes (edit_task actor (λ t. record t { deadline = deadline })))
  pub dated_appoints : (t : TaskNo) (moment : ℤ) → who.Task t ≡ actor → Alters L (appoint (due_for.Delay t) moment)
  pub dated_blocks : (waiting : Waiting) → waits_at_terminate (Some waiting) ≡ false → Leads L Y (block TheBlock actor waiting)
  pub dated_tails : Leads L I (to_tail p ThePlacing actor)
  pub owes : (w : World) (said : List Said) → I w said → O w w said
  pub loses_owed : (before w : World) (said : List Said) → O before w said → O before (lose actor inherited_by.Activation w) said
  pub pays : (before : World) → Leads (O before) I (fall_from p actor before)
  -- tasks that have been made: they are activated or end
  pub since_now : (v : World) (rest : List Task) (said : List Said) → EachTask (λ t. Unmade v t.who) rest → I v said → N v rest v said
  pub since_then : (v w : World) (rest : List Task) (said : List Said) → N v rest w said → I w said
  pub since_less : (v w : World) (t : Task) (rest : List Task) (said : List Said) → N v (t ∷ rest) w said → N v rest w said
  pub made_differ : (v : World) (said : List Said) → I v said → EachTask (λ t. is_made t ≡ true → Unmade v t.who) v.tasks
  pub apart : (v : World) (said : List Said) → I v said → AreApart v.tasks
  pub dates_activation : (v : World) (t : Task) (rest : List Task) (activator : Who) (now_at : ℕ) → Unmade v t.who
      → Alters (N v (t ∷ rest)) (edit_task t.who (activated_task activator now_at))
  pub inherits_activation : (v : World) (t : Task) (rest : List Task) (level : ℕ) → Unmade v t.who
      → Alters (N v (t ∷ rest)) (inherit t.who inherited_by.Activation level)
  pub activates : (v : World) (t : Task) (rest : List Task) → Unmade v t.who → list_any (λ u. same_who t.who u.who) rest ≡ false
      → Leads (N v (t ∷ rest)) (N v rest) (ready p (OfOther t.who) t.who)
  pub ends_other : (v : World) (rest : List Task) (name : Who) → Unmade v name → list_any (λ u. same_who name u.who) rest ≡ true
      → Leads (N v rest) (E v rest name) (says_done (OfOther name) name)
  pub loses_ended : (v : World) (rest : List Task) (name : Who) (w : World) (said : List Said) → E v rest name w said
      → E v rest name (lose name inherited_by.Activation w) said
  pub forgets : (v : World) (rest : List Task) (name : Who) → Leads (E v rest name) (N v rest) (changes (forget_task name))
  pub found_since : (v w : World) (rest : List Task) (said : List Said) → N v rest w said → EachTask (λ t. is_blocked t.state ≡ true → Sleeps w t.who) w.tasks
  -- who acts ends
  pub ends : Leads F D (says_done Own actor)
  pub loses_last : (w : World) (said : List Said) → D w said → D (lose actor inherited_by.Activation w) said
  pub forgets_actor : Leads D Z (changes (forget_task actor))
  pub found_asleep : (w : World) (said : List Said) → Z w said → EachTask (λ t. is_blocked t.state ≡ true → Sleeps w t.who) w.tasks
  pub ended : (w : World) (said : List Said) → Z w said → Y w said
  -- a task is created
  pub creates : (s : StatementNo) (d : DeclNo) (id : Option ScopeId) (t : Task) → Leads (With F (IsNew p t)) I (create_task p actor s d id t)
  -- a call that is sent on and has no room at the accept has ended before the acceptor becomes ready
  pub meets_late : (t : TaskNo) (s : StatementNo) (c : Call)
      → Leads (With I (λ w. Sleeps w (who.Task t))) I
      (meet_without_room p TheFinish (who.Task t) s c (deliver p TheFinish c.number (call_ended.ToRaise exception.Storage)))
  -- protected objects
  pub makes : (l : Located) (u : ProtectedUnitNo) → Keeps I (changes (with_object p l u) ▷ says_object p l u)
  pub may : (w : World) (o : ObjectNo) (mode : Mode) → entering p w actor o mode ≡ entering_is.Inside → May w o
  pub may_on : (a b : World) (o : ObjectNo) → Same a b → May a o → May b o
  pub exits : (name : Who) (o : ObjectNo) → Keeps I (says Own (line.Exit name o))
  pub enters : (o : ObjectNo) (mode : Mode) → Leads (With F (λ w. May w o)) I (says Own (line.Enter actor o mode))
  pub says_held : (o : ObjectNo) (mode : Mode) → Keeps I (says Own (line.Held actor o mode))
