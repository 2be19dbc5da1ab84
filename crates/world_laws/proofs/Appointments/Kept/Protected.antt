-- Protected actions and entry bodies: each step keeps a relation that its parts keep.
use Rattle.std.proofs.Common.{◌≡◌, refl}
use Rattle.std.specs.Prelude.{ℕ, List, [], Option, Some, None}
use Rattle.ann_base.specs.declared.exceptions.Raised.TheVariants as exception
use Rattle.ann_base.specs.declared.identities.CallNo.{CallNo}
use Rattle.ann_base.specs.declared.identities.ObjectNo.{ObjectNo}
use Rattle.trace_text.specs.declared.events.Mode.{Mode}
use Rattle.trace_text.specs.declared.events.Who.{Who}
use Rattle.profile_image.specs.declared.image.Image.{Image}
use Rattle.profile_image.specs.declared.numbers.DeclNo.{DeclNo}
use Rattle.profile_image.specs.declared.numbers.StatementNo.{StatementNo}
use Rattle.profile_image.specs.declared.numbers.SubprogramNo.{SubprogramNo}
use Rattle.profile_image.specs.declared.statements.Actual.{Actual}
use Rattle.profile_image.specs.declared.statements.Destination.{Destination}
use Rattle.profile_machine.specs.declared.world.World.{World}
use Rattle.profile_machine.specs.declared.world.calls.Call.{Call}
use Rattle.profile_machine.specs.declared.world.lines.Line.TheVariants as line
use Rattle.profile_machine.specs.declared.world.lines.MeetingEnd.TheVariants as meeting
use Rattle.profile_machine.specs.declared.world.lines.Part.{Part}
use Rattle.profile_machine.specs.declared.world.lines.Part.TheVariants.{Own, ThePlacing}
use Rattle.profile_machine.specs.declared.world.lines.Said.{Said}
use Rattle.profile_machine.specs.declared.world.marks.Mark.{Mark}
use Rattle.profile_machine.specs.declared.world.marks.Mark.TheVariants.{Scope, Handled, InProtected, InAccept, Abortable, InInitialize, InFinalize, InAssign}
use Rattle.profile_machine.specs.declared.world.marks.ProtectedMark.{ProtectedMark}
use Rattle.profile_machine.specs.declared.world.marks.ResultTo.{ResultTo}
use Rattle.profile_machine.specs.declared.world.objects.Entering.{Entering}
use Rattle.profile_machine.specs.declared.world.objects.Entering.TheVariants as entering_is
use Rattle.profile_machine.specs.declared.world.scopes.Handed.{Handed}
use Rattle.profile_machine.specs.declared.world.tasks.Cause.TheVariants as inherited_by
use Rattle.profile_machine.specs.Frames.{new_frame, push, with_mark}
use Rattle.profile_machine.specs.Inheritance.{inherit_running}
use Rattle.profile_machine.specs.Protected.{entering, ceiling_of, new_protected_mark, find_held, enter_or, where_let_inside, open_action}
use Rattle.profile_machine.specs.Protected.{begin_action_on, begin_operation, call_operation_of, call_operation, begin_own_operation, call_own_operation}
use Rattle.profile_machine.specs.Protected.{edit_top_protected, begin_call, body_opens, has_room_for_body, serve_call, edit_protected}
use Rattle.profile_machine.specs.Steps.{Step, says, changes, looks, ◌▷◌}
use Rattle.profile_machine.specs.Values.{object_of}
use Rattle.machine_laws.proofs.Moves.{StepRelation, MoveRelation}
use Rattle.world_laws.proofs.Appointments.Delays.{nature}
use Rattle.ceiling_laws.proofs.Fine.Cores.{Caller}
use Rattle.world_laws.proofs.Appointments.FineMoves.{FineMoves, chains, says-keeps}
use Rattle.world_laws.proofs.Appointments.Kept.Dispatching.{to_tail-keeps}
use Rattle.world_laws.proofs.Appointments.Kept.Frames.{goes-keeps, edit_top-alters, plain_steps}
use Rattle.world_laws.proofs.Appointments.Kept.Inheritance.{inherit_running-keeps}
use Rattle.world_laws.proofs.Appointments.Kept.Scopes.{open_scope-alters}
use Rattle.world_laws.proofs.Appointments.Kept.Subprograms.{begin_body-keeps}
use Rattle.machine_laws.proofs.FineMoves.{GoodWorld, Naming}
use Rattle.machine_laws.proofs.Kept.Combinators.{Alters, From, Keeps, after-from, branch-keeps, changes-from, changes-keeps}
use Rattle.machine_laws.proofs.Kept.Combinators.{from-keeps, keeps-from, looks-keeps, sees-keeps, then-keeps}
use Rattle.machine_laws.proofs.Plain.Calls.{edit_call-alters, unqueued-alters}
use Rattle.machine_laws.proofs.Plain.Frames.{raises-keeps, given-keeps, raise_if-keeps, with_room-keeps}
use Rattle.machine_laws.proofs.Plain.Subprograms.{handing-keeps}

-- the call of its own of a protected action is not edited
protected-nature : (f : ProtectedMark → ProtectedMark) → ((m : ProtectedMark) → (f m).own_call ≡ m.own_call) → (mark : Mark)
    → nature (edit_protected f mark) ≡ nature mark
protected-nature f same (Scope m) = refl
protected-nature f same (Handled s) = refl
protected-nature f same (InProtected m) = same m
protected-nature f same (InAccept m) = refl
protected-nature f same (Abortable m) = refl
protected-nature f same (InInitialize l) = refl
protected-nature f same (InFinalize o) = refl
protected-nature f same (InAssign m) = refl

module _ {G : GoodWorld} {May : Naming} {R : StepRelation} {Q : MoveRelation} (moves : FineMoves G May R Q) where
  pub find_held-keeps : (p : Image) (name : Who) (o : ObjectNo) (mode : Mode) → May name → Keeps G R (find_held p name o mode)
  unfolding find_held
  find_held-keeps p name o mode may =
      then-keeps (chains moves) _ _ (says-keeps moves Own (line.Held name o mode) refl) (to_tail-keeps moves p ThePlacing name may)

  enter_or-keeps : (p : Image) (name : Who) (o : ObjectNo) (mode : Mode) (step : Step) (is : Entering) → May name → Keeps G R step
      → Keeps G R (enter_or p name o mode step is)
  enter_or-keeps p name o mode step entering_is.SameObject may kept = raises-keeps (plain_steps moves) Own name exception.Program
  enter_or-keeps p name o mode step entering_is.AboveCeiling may kept = raises-keeps (plain_steps moves) Own name exception.Program
  enter_or-keeps p name o mode step entering_is.Held may kept = find_held-keeps p name o mode may
  enter_or-keeps p name o mode step entering_is.Inside may kept = kept

  -- the step is done where somebody is let in
  pub where_let_inside-keeps : (p : Image) (name : Who) (o : ObjectNo) (mode : Mode) (step : Step) → May name → Keeps G R step
      → Keeps G R (where_let_inside p name o mode step)
  where_let_inside-keeps p name o mode step may kept = looks-keeps (chains moves) _ (λ w. enter_or-keeps p name o mode step (entering p w name o mode) may kept)

  open_action-alters : (name : Who) (o : ObjectNo) (mode : Mode) → Alters G R (open_action name o mode)
  unfolding Alters
  open_action-alters name o mode w good = moves.enters name o mode w good

  -- an action begins, with a call of its own or without one
  pub begin_action_on-from : (p : Image) (name : Who) (o : ObjectNo) (mode : Mode) (call : Option CallNo) (release : Option ℕ) (w : World) → G w → May name
      → ((c : CallNo) → call ≡ Some c → Caller c name w) → From R w (begin_action_on p name o mode call release)
  unfolding begin_action_on
  begin_action_on-from p name o mode call release w good may called =
      let f = new_frame (new_protected_mark o mode call release) None in
      begins_then (says Own (line.Enter name o mode) ▷ changes (open_action name o mode)
      ▷ looks (λ v. inherit_running p name (inherited_by.Ceiling o) (ceiling_of (object_of v o))))
      (push name f) w
      (keeps-from (chains moves) _ w good
      (then-keeps (chains moves) _ _ (says-keeps moves Own (line.Enter name o mode) refl)
      (then-keeps (chains moves) _ _ (changes-keeps (chains moves) _ (open_action-alters name o mode))
      (looks-keeps (chains moves) _ (λ v. inherit_running-keeps moves p name (inherited_by.Ceiling o) (ceiling_of (object_of v o)) may)))))
      (λ v xs k. moves.pushes name f v (moves.behind w v k) (λ c e. moves.called_on c name w v k (called c e))) where
        begins_then : (g : Step) (f : World → World) (w : World) → From R w g → ((v : World) (xs : List Said) → R w xs v → R v [] (f v))
            → From R w (g ▷ changes f)
        begins_then g f w a b = after-from (chains moves) g (changes f) w a (λ v xs k. changes-from (chains moves) f v (b v xs k))

  pub begin_action_on-keeps : (p : Image) (name : Who) (o : ObjectNo) (mode : Mode) (release : Option ℕ) → May name
      → Keeps G R (begin_action_on p name o mode None release)
  begin_action_on-keeps p name o mode release may =
      from-keeps (chains moves) _ (λ w good. begin_action_on-from p name o mode None release w good may (λ c e. absurd cc))

  pub edit_top_protected-alters : (name : Who) (f : ProtectedMark → ProtectedMark) → ((m : ProtectedMark) → (f m).own_call ≡ m.own_call)
      → Alters G R (edit_top_protected name f)
  edit_top_protected-alters name f same = edit_top-alters moves name (λ x. with_mark (edit_protected f x.mark) x) (λ x. protected-nature f same x.mark)

  pub begin_call-keeps : (p : Image) (part : Part) (name : Who) (c : Call) → Keeps G R (begin_call p part name c)
  unfolding begin_call
  begin_call-keeps p part name c = search (changes-keeps, unqueued-alters, then-keeps, edit_call-alters, says-keeps, chains, plain_steps) depth 9

module _ {G : GoodWorld} {May : Naming} {R : StepRelation} {Q : MoveRelation} (moves : FineMoves G May R Q) where
  pub begin_operation-keeps : (p : Image) (name : Who) (s : StatementNo) (f : SubprogramNo) (o : ObjectNo) (h : Handed) (to : ResultTo) → May name
      → Keeps G R (begin_operation p name s f o h to)
  unfolding begin_operation
  begin_operation-keeps p name s f o h to may =
      search (goes-keeps, then-keeps, begin_action_on-keeps, looks-keeps, changes-keeps, open_scope-alters, chains) depth 8

  pub call_operation_of-keeps : (p : Image) (name : Who) (s : StatementNo) (f : SubprogramNo) (actuals : List Actual) (to : Destination) (o : ObjectNo)
      → May name → Keeps G R (call_operation_of p name s f actuals to o)
  unfolding call_operation_of
  call_operation_of-keeps p name s f actuals to o may =
      search (looks-keeps, raise_if-keeps, with_room-keeps, handing-keeps, where_let_inside-keeps, begin_operation-keeps, chains, plain_steps) depth 11

  pub call_operation-keeps : (p : Image) (name : Who) (s : StatementNo) (d : DeclNo) (f : SubprogramNo) (actuals : List Actual) (to : Destination) → May name
      → Keeps G R (call_operation p name s d f actuals to)
  unfolding call_operation
  call_operation-keeps p name s d f actuals to may = search (sees-keeps, given-keeps, call_operation_of-keeps, chains, plain_steps) depth 8

  pub begin_own_operation-keeps : (p : Image) (name : Who) (s : StatementNo) (f : SubprogramNo) (o : Option ObjectNo) (h : Handed) (to : ResultTo)
      → Keeps G R (begin_own_operation p name s f o h to)
  unfolding begin_own_operation
  begin_own_operation-keeps p name s f None h to = search (raises-keeps, plain_steps)
  begin_own_operation-keeps p name s f (Some o) h to = search (looks-keeps, begin_body-keeps, chains)

  pub call_own_operation-keeps : (p : Image) (name : Who) (s : StatementNo) (f : SubprogramNo) (actuals : List Actual) (to : Destination)
      → Keeps G R (call_own_operation p name s f actuals to)
  unfolding call_own_operation
  call_own_operation-keeps p name s f actuals to = search (with_room-keeps, handing-keeps, sees-keeps, begin_own_operation-keeps, chains, plain_steps)

  pub body_opens-keeps : (p : Image) (name : Who) (o : ObjectNo) (c : Call) → Keeps G R (body_opens p name o c)
  unfolding body_opens
  body_opens-keeps p name o c = search (changes-keeps, edit_top_protected-alters, then-keeps, looks-keeps, open_scope-alters, chains) depth 7

  pub serve_call-keeps : (p : Image) (part : Part) (name : Who) (o : ObjectNo) (c : Call) (then_ otherwise : Step) → Keeps G R then_ → Keeps G R otherwise
      → Keeps G R (serve_call p part name o c then_ otherwise)
  serve_call-keeps p part name o c then_ otherwise kept also_kept =
      looks-keeps (chains moves) _
      (λ w. then-keeps (chains moves) (begin_call p part name c) _ (search (begin_call-keeps))
      (branch-keeps (chains moves) (has_room_for_body p w name c.entry) (body_opens p name o c ▷ then_)
      (says part (line.Finish name c.number (meeting.Raised exception.Storage)) ▷ otherwise) (search (body_opens-keeps, then-keeps, chains))
      (search (says-keeps, then-keeps, chains))))
