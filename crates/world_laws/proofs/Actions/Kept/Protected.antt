-- Protected actions and entry bodies: each step leaves worlds good where its parts do.
use Rattle.std.specs.Prelude.{ℕ, List, Option, Some, None, false, ◌||◌, ◌+◌}
use Rattle.ann_base.specs.declared.exceptions.Raised.TheVariants as exception
use Rattle.ann_base.specs.declared.identities.ObjectNo.{ObjectNo}
use Rattle.ann_base.specs.declared.identities.CallNo.{CallNo}
use Rattle.profile_machine.specs.declared.world.objects.Entering.{Entering}
use Rattle.profile_machine.specs.declared.world.objects.Entering.TheVariants as entering_is
use Rattle.profile_machine.specs.declared.world.scopes.Handed.{Handed}
use Rattle.profile_machine.specs.declared.world.lines.Line.TheVariants as line
use Rattle.profile_machine.specs.declared.world.lines.MeetingEnd.TheVariants as meeting
use Rattle.trace_text.specs.declared.events.Mode.{Mode}
use Rattle.trace_text.specs.declared.events.Who.{Who}
use Rattle.profile_image.specs.declared.image.Image.{Image}
use Rattle.profile_image.specs.declared.numbers.DeclNo.{DeclNo}
use Rattle.profile_image.specs.declared.numbers.StatementNo.{StatementNo}
use Rattle.profile_image.specs.declared.numbers.SubprogramNo.{SubprogramNo}
use Rattle.profile_image.specs.declared.statements.Actual.{Actual}
use Rattle.profile_image.specs.declared.statements.Destination.{Destination}
use Rattle.profile_machine.specs.declared.world.marks.ResultTo.{ResultTo}
use Rattle.profile_machine.specs.declared.world.marks.ProtectedMark.{ProtectedMark}
use Rattle.profile_machine.specs.declared.world.calls.Call.{Call}
use Rattle.profile_machine.specs.declared.world.lines.Part.{Part}
use Rattle.profile_machine.specs.declared.world.lines.Said.{Said}
use Rattle.profile_machine.specs.declared.world.World.{World}
use Rattle.profile_machine.specs.declared.world.lines.Part.TheVariants.{Own, ThePlacing}
use Rattle.profile_image.specs.Program.{marks_of, next_of, subprogram_of, scope_of}
use Rattle.profile_machine.specs.Tasks.{with_frames}
use Rattle.profile_machine.specs.Dispatching.{to_head, says_ready}
use Rattle.profile_machine.specs.Frames.{new_frame, edit_first, edit_top, goes_on, push, raises, with_mark, raise_if, given, with_room}
use Rattle.profile_machine.specs.declared.world.tasks.Cause.TheVariants as inherited_by
use Rattle.profile_machine.specs.Values.{object_of, object_number, seen_by}
use Rattle.profile_machine.specs.Inheritance.{inherit_running, rises, inherit}
use Rattle.profile_machine.specs.Steps.{Step, goes_on_with, says, changes, ◌▷◌, when}
use Rattle.std.proofs.Common.{◌≡◌, refl, Bool, true, is_some, List, [], ◌∷◌, ◌++◌, append_assoc, false}
use Rattle.profile_machine.specs.declared.world.marks.Purpose.TheVariants as opened_for
use Rattle.profile_machine.specs.Protected.{entering, ceiling_of, new_protected_mark, mode_of, find_held, enter_or, where_let_inside}
use Rattle.profile_machine.specs.Protected.{open_action, begin_action_on, begin_operation, call_operation_of, call_operation}
use Rattle.profile_machine.specs.Protected.{begin_own_operation, call_own_operation, edit_top_protected, begin_call, body_opens}
use Rattle.profile_machine.specs.Protected.{has_room_for_body, serve_call, edit_protected, has_object_open, body_of_object}
use Rattle.machine_laws.proofs.Moves.{LetsIn, own}
use Rattle.world_laws.proofs.Actions.FineMoves.{FineMoves, chains, says-keeps}
use Rattle.world_laws.proofs.Actions.Sound.{Free, Good, ReleaseSound, OwnSound}
use Rattle.world_laws.proofs.Actions.SoundActions.{begin-good}
use Rattle.world_laws.proofs.Actions.GoodMoves.{good_moves, Awake, awake-edited}
use Rattle.std.proofs.lemmas.Bool.{false≢true}
use Rattle.world_laws.proofs.Actions.Natures.{nature}
use Rattle.machine_laws.proofs.Kept.Entering.{entering-inside, LetsIn-same, edit_task-objects}
use Rattle.machine_laws.proofs.FineMoves.{GoodWorld, Naming, ready_line}
use Rattle.world_laws.proofs.Actions.Kept.Dispatching.{to_tail-keeps}
use Rattle.world_laws.proofs.Actions.Kept.Frames.{edit_top-alters, goes_then-from, plain_steps}
use Rattle.world_laws.proofs.Actions.Kept.Scopes.{opens-alters}
use Rattle.world_laws.proofs.Actions.Kept.Subprograms.{begin_body-keeps}
use Rattle.profile_machine.specs.declared.world.marks.Mark.{Mark}
use Rattle.profile_machine.specs.declared.world.marks.Mark.TheVariants.{Scope, Handled, InProtected, InAccept, Abortable, InInitialize, InFinalize, InAssign}
use Rattle.profile_machine.specs.Subprograms.{result_to, handed, handing}
use Rattle.line_laws.proofs.Leaving.Modes.{Nobody}
use Rattle.machine_laws.proofs.Kept.Combinators.{Alters, From, Keeps, branch-keeps, changes-keeps, keeps-from}
use Rattle.machine_laws.proofs.Kept.Combinators.{looks-keeps, looks_at-from, sees-keeps, then-from, then-keeps, Kept}
use Rattle.world_laws.proofs.Behind.{Behind}
use Rattle.trace_text.specs.declared.events.QueueEnd.TheVariants.{Head}
use Rattle.machine_laws.proofs.Plain.Frames.{raises-keeps, with_room-keeps, raise_if-from, given-from, with_room-from}
use Rattle.machine_laws.proofs.Plain.Calls.{edit_call-alters, unqueued-alters}
use Rattle.machine_laws.proofs.Plain.Subprograms.{handing-keeps}

-- a protected action's object is not edited, nor the release and the call of one's own that end with it
pub protected-nature : (f : ProtectedMark → ProtectedMark) → ((m : ProtectedMark) → nature (InProtected (f m)) ≡ nature (InProtected m)) → (mark : Mark)
    → nature (edit_protected f mark) ≡ nature mark
protected-nature f same (Scope m) = refl
protected-nature f same (Handled s) = refl
protected-nature f same (InProtected m) = same m
protected-nature f same (InAccept m) = refl
protected-nature f same (Abortable m) = refl
protected-nature f same (InInitialize l) = refl
protected-nature f same (InFinalize o) = refl
protected-nature f same (InAssign m) = refl

module _ {G : GoodWorld} {F : Naming} (moves : FineMoves G F) where
  pub find_held-keeps : (p : Image) (name : Who) (o : ObjectNo) (mode : Mode) → Keeps G (Behind G) (find_held p name o mode)
  unfolding find_held
  find_held-keeps p name o mode = search (says-keeps, then-keeps, to_tail-keeps, chains)

  enter_or-from : (p : Image) (name : Who) (o : ObjectNo) (mode : Mode) (step : Step) (w : World) (is : Entering) → G w → entering p w name o mode ≡ is
      → (LetsIn name o mode w → From (Behind G) w step) → From (Behind G) w (enter_or p name o mode step is)
  enter_or-from p name o mode step w entering_is.SameObject good e kept =
      keeps-from (chains moves) (raises Own name exception.Program) w good (raises-keeps (plain_steps moves) Own name exception.Program)
  enter_or-from p name o mode step w entering_is.AboveCeiling good e kept =
      keeps-from (chains moves) (raises Own name exception.Program) w good (raises-keeps (plain_steps moves) Own name exception.Program)
  enter_or-from p name o mode step w entering_is.Held good e kept = keeps-from (chains moves) (find_held p name o mode) w good (find_held-keeps p name o mode)
  enter_or-from p name o mode step w entering_is.Inside good e kept = kept (entering-inside p w name o mode e)

  -- the step is done where somebody is let in
  pub where_let_inside-from : (p : Image) (name : Who) (o : ObjectNo) (mode : Mode) (step : Step) (w : World) → G w
      → (LetsIn name o mode w → From (Behind G) w step) → From (Behind G) w (where_let_inside p name o mode step)
  where_let_inside-from p name o mode step w good kept =
      looks_at-from (chains moves) (λ v. enter_or p name o mode step (entering p v name o mode)) w
      (enter_or-from p name o mode step w (entering p w name o mode) good refl kept)

  pub edit_top_protected-alters : (name : Who) (f : ProtectedMark → ProtectedMark) → ((m : ProtectedMark) → nature (InProtected (f m)) ≡ nature (InProtected m))
      → Alters G (Behind G) (edit_top_protected name f)
  edit_top_protected-alters name f same = edit_top-alters moves name (λ x. with_mark (edit_protected f x.mark) x) (λ x. protected-nature f same x.mark)

  pub begin_call-keeps : (p : Image) (part : Part) (name : Who) (c : Call) → Keeps G (Behind G) (begin_call p part name c)
  unfolding begin_call
  begin_call-keeps p part name c = search (changes-keeps, unqueued-alters, then-keeps, edit_call-alters, says-keeps, chains, plain_steps) depth 9

  pub begin_own_operation-keeps : (p : Image) (name : Who) (s : StatementNo) (f : SubprogramNo) (o : Option ObjectNo) (h : Handed) (to : ResultTo)
      → Keeps G (Behind G) (begin_own_operation p name s f o h to)
  unfolding begin_own_operation
  begin_own_operation-keeps p name s f None h to = search (raises-keeps, plain_steps)
  begin_own_operation-keeps p name s f (Some o) h to = search (looks-keeps, begin_body-keeps, chains)

  pub call_own_operation-keeps : (p : Image) (name : Who) (s : StatementNo) (f : SubprogramNo) (actuals : List Actual) (to : Destination)
      → Keeps G (Behind G) (call_own_operation p name s f actuals to)
  unfolding call_own_operation
  call_own_operation-keeps p name s f actuals to = search (with_room-keeps, handing-keeps, sees-keeps, begin_own_operation-keeps, chains, plain_steps)

  pub body_opens-keeps : (p : Image) (name : Who) (o : ObjectNo) (c : Call) → Keeps G (Behind G) (body_opens p name o c)
  unfolding body_opens
  body_opens-keeps p name o c = search (changes-keeps, edit_top_protected-alters, then-keeps, looks-keeps, opens-alters, chains) depth 7

  pub serve_call-keeps : (p : Image) (part : Part) (name : Who) (o : ObjectNo) (c : Call) (then_ otherwise : Step) → Keeps G (Behind G) then_
      → Keeps G (Behind G) otherwise → Keeps G (Behind G) (serve_call p part name o c then_ otherwise)
  serve_call-keeps p part name o c then_ otherwise kept also_kept =
      looks-keeps (chains moves) _
      (λ w. then-keeps (chains moves) (begin_call p part name c) _ (search (begin_call-keeps))
      (branch-keeps (chains moves) (has_room_for_body p w name c.entry) (body_opens p name o c ▷ then_)
      (says part (line.Finish name c.number (meeting.Raised exception.Storage)) ▷ otherwise) (search (body_opens-keeps, then-keeps, chains))
      (search (says-keeps, then-keeps, chains))))

-- ---- an action begins: of who is ready and is let in

-- who goes to the head changes nothing
head-kept : (G : GoodWorld) (p : Image) (name : Who) (b : Bool) (f : World → World) (v w : World) (said more : List Said) → G (f w)
    → Kept (Behind G) v said (goes_on_with (changes f) (when b (to_head p ThePlacing name) w (said ++ more)))
unfolding to_head says_ready Kept
head-kept G p name true f v w said more good = (
  more ++ ready_line p ThePlacing name Head w ∷ [],
  append_assoc said more (ready_line p ThePlacing name Head w ∷ []),
  good,
)
head-kept G p name false f v w said more good = (more, refl, good)

abbrev pub sole : Option CallNo → Option ℕ → Bool
sole call release = is_some call || is_some release

pub begin_action_on-from : (p : Image) (name : Who) (o : ObjectNo) (mode : Mode) (call : Option CallNo) (release : Option ℕ) (w : World) → Good Nobody w
    → Awake name w → LetsIn name o mode w → (sole call release ≡ true → Free name w) → ReleaseSound name release → OwnSound w.drawn.calls w.calls name call
    → From (Behind (Good Nobody)) w (begin_action_on p name o mode call release)
unfolding begin_action_on inherit_running From
begin_action_on-from p name o mode call release w good awake lets low rel self said =
    let v = open_action name o mode w in
    let level = ceiling_of (object_of v o) in
    let heir = inherit name (inherited_by.Ceiling o) level v in
    head-kept (Good Nobody) p name (rises p name v heir) (push name (new_frame (new_protected_mark o mode call release) None)) w heir said
    (own (line.Enter name o mode) ∷ [])
    (begin-good name o mode call release w lets awake Nobody (λ n. n) low rel self good)

abbrev pub beside : FineMoves (Good Nobody) Nobody
beside = good_moves Nobody

begin_operation-from : (p : Image) (name : Who) (s : StatementNo) (f : SubprogramNo) (o : ObjectNo) (h : Handed) (to : ResultTo) (w : World) → Good Nobody w
    → Awake name w → LetsIn name o (mode_of (subprogram_of p f)) w → From (Behind (Good Nobody)) w (begin_operation p name s f o h to)
unfolding begin_operation
begin_operation-from p name s f o h to w good awake lets =
    let onward = edit_top name (goes_on (next_of p s)) w in
    let still : LetsIn name o (mode_of (subprogram_of p f)) onward =
    LetsIn-same name o (mode_of (subprogram_of p f)) w onward
    (edit_task-objects name (λ t. with_frames (edit_first (goes_on (next_of p s)) t.frames) t) w) lets in
    let ready = awake-edited name name (λ t. with_frames (edit_first (goes_on (next_of p s)) t.frames) t) w (λ t. refl) (λ t. refl) awake in
    goes_then-from beside name (next_of p s) _ w good (λ good_onward.
    then-from (chains beside) (begin_action_on p name o (mode_of (subprogram_of p f)) None None) _ onward
    (begin_action_on-from p name o (mode_of (subprogram_of p f)) None None onward good_onward ready still (λ e. absurd (false≢true e)) tt tt)
    (looks-keeps (chains beside) _
    (λ v. changes-keeps (chains beside) _
    (opens-alters beside p name (subprogram_of p f).scope (body_of_object p v (subprogram_of p f).scope o h.subject h.values)
    (opened_for.Subprogram h.back to) refl))))

call_operation_of-from : (p : Image) (name : Who) (s : StatementNo) (f : SubprogramNo) (actuals : List Actual) (to : Destination) (o : ObjectNo) (w : World)
    → Good Nobody w → Awake name w → From (Behind (Good Nobody)) w (call_operation_of p name s f actuals to o)
unfolding call_operation_of
call_operation_of-from p name s f actuals to o w good awake =
    looks_at-from (chains beside)
    (λ v. raise_if name (has_object_open v name o) exception.Program
    (with_room name (1 + marks_of p (subprogram_of p f).scope) (scope_of p (subprogram_of p f).scope).size
    (handing p name f actuals to (λ h r. where_let_inside p name o (mode_of (subprogram_of p f)) (begin_operation p name s f o h r))))) w
    (raise_if-from (plain_steps beside) name (has_object_open w name o) exception.Program _ w good (λ e.
    with_room-from (plain_steps beside) name _ _ _ w good
    (looks_at-from (chains beside)
    (λ v. given Own name (result_to (seen_by p v name) to)
    (λ r. given Own name (handed (seen_by p v name) 0 (subprogram_of p f).formals actuals)
    (λ h. where_let_inside p name o (mode_of (subprogram_of p f)) (begin_operation p name s f o h r)))) w
    (given-from (plain_steps beside) Own name (result_to (seen_by p w name) to) _ w good (λ r.
    given-from (plain_steps beside) Own name (handed (seen_by p w name) 0 (subprogram_of p f).formals actuals) _ w good (λ h.
    where_let_inside-from beside p name o (mode_of (subprogram_of p f)) _ w good (λ lets. begin_operation-from p name s f o h r w good awake lets)))))))

pub call_operation-from : (p : Image) (name : Who) (s : StatementNo) (d : DeclNo) (f : SubprogramNo) (actuals : List Actual) (to : Destination) (w : World)
    → Good Nobody w → Awake name w → From (Behind (Good Nobody)) w (call_operation p name s d f actuals to)
unfolding call_operation
call_operation-from p name s d f actuals to w good awake =
    looks_at-from (chains beside) (λ v. given Own name (object_number (seen_by p v name) d) (call_operation_of p name s f actuals to)) w
    (given-from (plain_steps beside) Own name (object_number (seen_by p w name) d) _ w good
    (λ o. call_operation_of-from p name s f actuals to o w good awake))
