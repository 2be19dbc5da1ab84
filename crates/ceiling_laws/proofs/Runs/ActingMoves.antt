-- What the effect of an action keeps, by who acts.
use Rattle.ann_base.specs.declared.exceptions.Raised.TheVariants as exception
use Rattle.ann_base.specs.declared.identities.ObjectNo.{ObjectNo}
use Rattle.ann_base.specs.declared.identities.TaskNo.{TaskNo}
use Rattle.ceiling_laws.proofs.Runs.LevelMoves.{BaseMoves, EachTask, FitsAll, Fitting, Silences, Sleeping, is_blocked}
use Rattle.ceiling_laws.proofs.Runs.Triples.{Alters, Ends, Keeps, Leads, State, With, from-leads, to-leads}
use Rattle.ceiling_laws.specs.Cores.{Same}
use Rattle.profile_machine.specs.Appointments.{appoint}
use Rattle.profile_machine.specs.CallEnds.{deliver}
use Rattle.profile_machine.specs.Declarations.{says_object, with_object}
use Rattle.profile_machine.specs.Dispatching.{block, ready, says_block, to_head, to_tail}
use Rattle.profile_machine.specs.Inheritance.{inherit, lose, lose_running}
use Rattle.profile_machine.specs.Masters.{forget_task, waits_at_terminate}
use Rattle.profile_machine.specs.Priorities.{set_deferred, set_or_defer_base, set_or_defer_deadline}
use Rattle.profile_machine.specs.Protected.{entering, find_held}
use Rattle.profile_machine.specs.Rendezvous.{meet_without_room}
use Rattle.profile_machine.specs.Steps.{Step, changes, says, ◌▷◌}
use Rattle.profile_machine.specs.Tasking.{create_task, fall_from, says_done}
use Rattle.profile_machine.specs.Tasks.{edit_task, is_made, is_who, waiting_of, with_state}
use Rattle.profile_image.specs.Words.{same_who}
use Rattle.profile_image.specs.declared.image.Image.{Image}
use Rattle.profile_image.specs.declared.numbers.DeclNo.{DeclNo}
use Rattle.profile_image.specs.declared.numbers.ProtectedUnitNo.{ProtectedUnitNo}
use Rattle.profile_image.specs.declared.numbers.StatementNo.{StatementNo}
use Rattle.profile_machine.specs.declared.world.World.{World}
use Rattle.profile_machine.specs.declared.world.appointments.Due.TheVariants as due_for
use Rattle.profile_machine.specs.declared.world.calls.Call.{Call}
use Rattle.profile_machine.specs.declared.world.calls.Outcome.TheVariants as call_ended
use Rattle.profile_machine.specs.declared.world.lines.Line.TheVariants as line
use Rattle.profile_machine.specs.declared.world.lines.Part.TheVariants.{OfOther, Own, TheBlock, TheFinish, ThePlacing}
use Rattle.profile_machine.specs.declared.world.lines.Said.{Said}
use Rattle.profile_machine.specs.declared.world.objects.Entering.TheVariants as entering_is
use Rattle.profile_machine.specs.declared.world.scopes.Located.{Located}
use Rattle.profile_machine.specs.declared.world.scopes.ScopeId.{ScopeId}
use Rattle.profile_machine.specs.declared.world.tasks.Cause.{Cause}
use Rattle.profile_machine.specs.declared.world.tasks.Cause.TheVariants as inherited_by
use Rattle.profile_machine.specs.declared.world.tasks.State.TheVariants.{Blocked, Runnable}
use Rattle.profile_machine.specs.declared.world.tasks.Task.{Task}
use Rattle.profile_machine.specs.declared.world.tasks.Waiting.{Waiting}
use Rattle.profile_machine.specs.declared.world.tasks.Waiting.TheVariants as waits_for
use Rattle.std.proofs.Common.{inl, inr, ◌≡◌, ◌⊎◌}
use Rattle.std.specs.Prelude.{List, None, Option, Some, false, find, true, ℕ, ℤ}
use Rattle.trace_text.specs.declared.events.Mode.{Mode}
use Rattle.trace_text.specs.declared.events.Who.{Who}
use Rattle.trace_text.specs.declared.events.Who.TheVariants as who
use Rattle.machine_laws.proofs.FineMoves.{Naming}

-- who may enter an object in a world
abbrev pub Admitting : Type 1
Admitting = World → ObjectNo → Type 0

-- a task as it is created, with the next number
pub record IsNew (p : Image) (t : Task) (w : World) : Type 0 where
  pub numbered : t.who ≡ who.Task (record { 0 = w.drawn.tasks })
  pub made : is_made t ≡ true
  pub undeferred : t.deferred_base ≡ None

-- a task that a world has under its number
abbrev pub IsFound : TaskNo → World → Type 0
IsFound t w = (x : Task) × (find (is_who (who.Task t)) w.tasks ≡ Some x)

-- what is kept also behind the line of an action that begins
pub record LaterMoves (p : Image) (actor : Who) (Fits : Fitting) (Sleeps : Sleeping) (X : State) : Type 0 where
  pub base : BaseMoves p Fits Sleeps X
  -- in which parts others and who acts are placed by becoming ready
  pub fits_own : FitsAll Fits Own
  pub fits_other : (name : Who) → Fits (OfOther name) name
  -- who acts is placed, or somebody blocks
  pub heads : Keeps X (to_head p ThePlacing actor)
  pub blocks : (name : Who) (waiting : Waiting) → Keeps X (block TheBlock name waiting)

-- Who has come to its select waits there before it says so: until it says that it blocks, or goes on at once. Meanwhile others may
-- leave their selects, of the tasks that a world has (`V`).
pub record SelectMoves (p : Image) (actor : Who) (Listed : World → Naming) (W Y : State) (V : World → State) : Type 0 where
  pub quiet : Silences W
  pub listed : (v : World) (said : List Said) → W v said → EachTask (λ t. Listed v t.who) v.tasks
  pub looks_at : (v : World) (said : List Said) → W v said → V v v said
  pub looked : (v w : World) (said : List Said) → V v w said → W w said
  pub looking : (v : World) → Silences (V v)
  pub begins : (v : World) (name : Who) → same_who actor name ≡ false → Listed v name → Keeps (V v) (ready p (OfOther name) name)
  pub runs_on : (v : World) → Keeps (V v) (changes (edit_task actor (with_state Runnable)))
  pub says_blocked : (waiting : Waiting) → Leads W Y (says_block TheBlock actor waiting)
  pub settles : (w : World) (said : List Said) → waits_at_terminate (waiting_of w actor) ≡ false → W w said → Y w said

-- one of both
abbrev pub Either : State → State → State
Either X Y w said = X w said ⊎ Y w said

either_ends : {X Y Z : State} (step : Step) (w : World) (said : List Said) → Leads X Z step → Keeps Y step → Either X Y w said → Ends (Either Z Y) (step w said)
either_ends {X} {Y} {Z} step w said a b (inl h) = (to-leads {X = X} {Y = Z} {Z = Either Z Y} step a (λ v s k. inl k)).runs w said h
either_ends {X} {Y} {Z} step w said a b (inr h) = (to-leads {X = Y} {Y = Y} {Z = Either Z Y} step b (λ v s k. inr k)).runs w said h

pub either-leads : {X Y Z : State} (step : Step) → Leads X Z step → Keeps Y step → Leads (Either X Y) (Either Z Y) step
either-leads step a b = record { runs = λ w said h. either_ends step w said a b h }

-- what is kept later, from what holds at first
pub later-leads : {F I J : State} (step : Step) → ((w : World) (said : List Said) → F w said → I w said) → Keeps I step → Leads F (Either I J) step
later-leads step starts kept = to-leads step (from-leads step starts kept) (λ w said h. inl h)

-- At first (F), later (I), and behind the line of an action that begins (J); at a select (W), and where no more is to be said of
-- who acts (Y). Where who acts owes a line since its active priority may have fallen (O); since a world, of whose tasks some have
-- only been made (N); and where one of these has ended (E), or who acts (D).
pub record ActingMoves (p : Image) (actor : Who) (Fits Narrow : Fitting) (Sleeps : Sleeping) (May : Admitting) (Listed Unmade : World → Naming)
    (F I J W Y D : State) (O N V U : World → State) (E : World → Who → State) : Type 0 where
  pub fresh : Silences F
  pub later : LaterMoves p actor Fits Sleeps I
  pub entered : LaterMoves p actor Narrow Sleeps J
  pub over : BaseMoves p Fits Sleeps Y
  pub owing : (before : World) → BaseMoves p Fits Sleeps (O before)
  pub since : (v : World) → BaseMoves p Fits Sleeps (N v)
  pub ending : (v : World) (name : Who) → BaseMoves p Fits Sleeps (E v name)
  pub dying : BaseMoves p Fits Sleeps D
  pub choosing : SelectMoves p actor Listed W Y V
  pub inside : SelectMoves p actor Listed J J U
  pub starts : (w : World) (said : List Said) → F w said → I w said
  pub ceases : (w : World) (said : List Said) → I w said → Y w said
  pub rests : (w : World) (said : List Said) → Y w said → W w said
  pub fits_finish : FitsAll Fits TheFinish
  -- who acts is placed, or waits at a select
  pub tails : Keeps I (to_tail p ThePlacing actor)
  pub waits_at_select : (accepts : List StatementNo) (delay : Option StatementNo)
      → Leads F W (changes (edit_task actor (with_state (Blocked (waits_for.Select accepts delay true)))))
  -- a moment is appointed for it
  pub appoints_first : (t : TaskNo) (moment : ℤ) → who.Task t ≡ actor → Alters F (appoint (due_for.Delay t) moment)
  pub appoints : (t : TaskNo) (moment : ℤ) → who.Task t ≡ actor → Alters I (appoint (due_for.Delay t) moment)
  -- priorities that are lost and set
  pub loses : (cause : Cause) → Keeps I (lose_running p actor cause)
  pub sets_deferred : Keeps I (set_deferred p actor)
  pub sets_base : (t : TaskNo) (level : ℕ) → Leads (With F (IsFound t)) I (set_or_defer_base p actor (who.Task t) level)
  pub sets_deadline : (name : Who) (deadline : ℤ) → Leads F I (set_or_defer_deadline p actor name deadline)
  pub owes : (w : World) (said : List Said) → I w said → O w w said
  pub loses_owed : (before w : World) (said : List Said) → O before w said → O before (lose actor inherited_by.Activation w) said
  pub pays : (before : World) → Leads (O before) I (fall_from p actor before)
  -- tasks that have been made: they are activated or end
  pub since_now : (v : World) (said : List Said) → I v said → N v v said
  pub since_then : (v w : World) (said : List Said) → N v w said → I w said
  pub made_differ : (v : World) (said : List Said) → I v said → EachTask (λ t. is_made t ≡ true → Unmade v t.who) v.tasks
  pub inherits_activation : (v : World) (name : Who) (level : ℕ) → Unmade v name → Alters (N v) (inherit name inherited_by.Activation level)
  pub activates : (v : World) (name : Who) → Unmade v name → Keeps (N v) (ready p (OfOther name) name)
  pub ends_other : (v : World) (name : Who) → Unmade v name → Leads (N v) (E v name) (says_done (OfOther name) name)
  pub loses_ended : (v : World) (name : Who) (w : World) (said : List Said) → E v name w said → E v name (lose name inherited_by.Activation w) said
  pub forgets : (v : World) (name : Who) → Leads (E v name) (N v) (changes (forget_task name))
  pub found_since : (v w : World) (said : List Said) → N v w said → EachTask (λ t. is_blocked t.state ≡ true → Sleeps w t.who) w.tasks
  -- who acts ends
  pub ends : Leads F D (says_done Own actor)
  pub loses_last : (w : World) (said : List Said) → D w said → D (lose actor inherited_by.Activation w) said
  pub forgets_actor : Leads D Y (changes (forget_task actor))
  pub found_asleep : (w : World) (said : List Said) → Y w said → EachTask (λ t. is_blocked t.state ≡ true → Sleeps w t.who) w.tasks
  -- a task is created, and no line of an earlier part follows
  pub creates : (s : StatementNo) (d : DeclNo) (id : Option ScopeId) (t : Task) → Leads (With F (IsNew p t)) (Either I J) (create_task p actor s d id t)
  -- a call that is sent on and has no room at the accept has ended before the acceptor becomes ready
  pub meets_late : (t : TaskNo) (s : StatementNo) (c : Call)
      → Leads (With I (λ w. Sleeps w (who.Task t))) I
      (meet_without_room p TheFinish (who.Task t) s c (deliver p TheFinish c.number (call_ended.ToRaise exception.Storage)))
  -- protected objects
  pub makes : (l : Located) (u : ProtectedUnitNo) → Keeps I (changes (with_object p l u) ▷ says_object p l u)
  pub may : (w : World) (o : ObjectNo) (mode : Mode) → entering p w actor o mode ≡ entering_is.Inside → May w o
  pub may_held : (w : World) (o : ObjectNo) (mode : Mode) → entering p w actor o mode ≡ entering_is.Held → May w o
  pub may_on : (a b : World) (o : ObjectNo) → Same a b → May a o → May b o
  pub enters : (o : ObjectNo) (mode : Mode) → Leads (With F (λ w. May w o)) J (says Own (line.Enter actor o mode))
  pub exits : (name : Who) (o : ObjectNo) → Keeps I (says Own (line.Exit name o))
  pub exits_entered : (name : Who) (o : ObjectNo) → Keeps J (says Own (line.Exit name o))
  pub finds_held : (o : ObjectNo) (mode : Mode) → Leads (With F (λ w. May w o)) (Either I J) (find_held p actor o mode)
