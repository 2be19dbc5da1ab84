-- Protected actions and entry bodies: each step keeps a relation that its parts keep.
use Rattle.std.specs.Prelude.{ℕ, List, Option, Some, None}
use Rattle.ann_base.specs.declared.exceptions.Raised.TheVariants as exception
use Rattle.ann_base.specs.declared.identities.ObjectNo.{ObjectNo}
use Rattle.ann_base.specs.declared.identities.CallNo.{CallNo}
use Rattle.profile_machine.specs.declared.world.objects.Entering.{Entering}
use Rattle.profile_machine.specs.declared.world.objects.Entering.TheVariants as entering_is
use Rattle.profile_machine.specs.declared.world.scopes.Handed.{Handed}
use Rattle.profile_machine.specs.declared.world.lines.Line.TheVariants as line
use Rattle.profile_machine.specs.declared.world.lines.MeetingEnd.TheVariants as meeting
use Rattle.trace_text.specs.declared.events.Mode.{Mode}
use Rattle.trace_text.specs.declared.events.Who.{Who}
use Rattle.profile_image.specs.declared.image.Image.{Image}
use Rattle.profile_image.specs.declared.numbers.DeclNo.{DeclNo}
use Rattle.profile_image.specs.declared.numbers.StatementNo.{StatementNo}
use Rattle.profile_image.specs.declared.numbers.SubprogramNo.{SubprogramNo}
use Rattle.profile_image.specs.declared.statements.Actual.{Actual}
use Rattle.profile_image.specs.declared.statements.Destination.{Destination}
use Rattle.profile_machine.specs.declared.world.marks.ResultTo.{ResultTo}
use Rattle.profile_machine.specs.declared.world.marks.ProtectedMark.{ProtectedMark}
use Rattle.profile_machine.specs.declared.world.calls.Call.{Call}
use Rattle.profile_machine.specs.declared.world.lines.Part.{Part}
use Rattle.profile_image.specs.Program.{next_of, subprogram_of}
use Rattle.profile_machine.specs.Frames.{new_frame, goes, push, with_mark}
use Rattle.profile_machine.specs.Steps.{Step, says, ◌▷◌}
use Rattle.std.proofs.Common.{◌≡◌, refl}
use Rattle.profile_machine.specs.Protected.{entering, new_protected_mark, mode_of, find_held, enter_or, where_let_inside, open_action, begin_action_on}
use Rattle.profile_machine.specs.Protected.{begin_operation, call_operation_of, call_operation, begin_own_operation, call_own_operation}
use Rattle.profile_machine.specs.Protected.{edit_top_protected, begin_call, body_opens, has_room_for_body, serve_call, edit_protected}
use Rattle.machine_laws.proofs.Moves.{StepRelation, MoveRelation}
use Rattle.world_laws.proofs.Scopes.FineMoves.{FineMoves, Openings, nature, chains, says-keeps}
use Rattle.world_laws.proofs.Scopes.Kept.Dispatching.{to_tail-keeps}
use Rattle.world_laws.proofs.Scopes.Kept.Frames.{edit_top-alters, goes-keeps, push-alters, plain_steps}
use Rattle.world_laws.proofs.Scopes.Kept.Scopes.{open_scope-alters}
use Rattle.world_laws.proofs.Scopes.Kept.Inheritance.{inherit_running-keeps}
use Rattle.world_laws.proofs.Scopes.Kept.Subprograms.{begin_body-keeps}
use Rattle.profile_machine.specs.declared.world.marks.Mark.{Mark}
use Rattle.profile_machine.specs.declared.world.marks.Mark.TheVariants.{Scope, Handled, InProtected, InAccept, Abortable, InInitialize, InFinalize, InAssign}
use Rattle.machine_laws.proofs.FineMoves.{Anybody, GoodWorld, Naming}
use Rattle.machine_laws.proofs.Kept.Combinators.{Alters, Keeps, branch-keeps, changes-keeps, looks-keeps, sees-keeps, then-keeps}
use Rattle.machine_laws.proofs.Plain.Frames.{raises-keeps, given-keeps, raise_if-keeps, with_room-keeps}
use Rattle.machine_laws.proofs.Plain.Calls.{edit_call-alters, unqueued-alters}
use Rattle.machine_laws.proofs.Plain.Subprograms.{handing-keeps}

-- what a mark is does not change where a protected action is edited
protected-nature : (f : ProtectedMark → ProtectedMark) (mark : Mark) → nature (edit_protected f mark) ≡ nature mark
protected-nature f (Scope m) = refl
protected-nature f (Handled s) = refl
protected-nature f (InProtected m) = refl
protected-nature f (InAccept m) = refl
protected-nature f (Abortable m) = refl
protected-nature f (InInitialize l) = refl
protected-nature f (InFinalize o) = refl
protected-nature f (InAssign m) = refl

module _ {G : GoodWorld} {May Other : Naming} {R : StepRelation} {Q : MoveRelation} (moves : FineMoves G May Other R Q) where
  pub find_held-keeps : (p : Image) (name : Who) (o : ObjectNo) (mode : Mode) → May name → Keeps G R (find_held p name o mode)
  unfolding find_held
  find_held-keeps p name o mode may = search (says-keeps, then-keeps, to_tail-keeps, chains)

  enter_or-keeps : (p : Image) (name : Who) (o : ObjectNo) (mode : Mode) (step : Step) (is : Entering) → May name → Keeps G R step
      → Keeps G R (enter_or p name o mode step is)
  enter_or-keeps p name o mode step entering_is.SameObject may kept = search (raises-keeps, plain_steps)
  enter_or-keeps p name o mode step entering_is.AboveCeiling may kept = search (raises-keeps, plain_steps)
  enter_or-keeps p name o mode step entering_is.Held may kept = search (find_held-keeps)
  enter_or-keeps p name o mode step entering_is.Inside may kept = kept

  -- the step is done where somebody is let in
  pub where_let_inside-keeps : (p : Image) (name : Who) (o : ObjectNo) (mode : Mode) (step : Step) → May name → Keeps G R step
      → Keeps G R (where_let_inside p name o mode step)
  where_let_inside-keeps p name o mode step may kept = looks-keeps (chains moves) _ (λ w. enter_or-keeps p name o mode step (entering p w name o mode) may kept)

  open_action-alters : (name : Who) (o : ObjectNo) (mode : Mode) → Alters G R (open_action name o mode)
  unfolding Alters
  open_action-alters name o mode w good = moves.enters name o mode w good

  -- an action begins, up to its mark
  pub begin_action_on-keeps : (p : Image) (name : Who) (o : ObjectNo) (mode : Mode) (call : Option CallNo) (release : Option ℕ) → May name
      → Alters G R (push name (new_frame (new_protected_mark o mode call release) None)) → Keeps G R (begin_action_on p name o mode call release)
  unfolding begin_action_on
  begin_action_on-keeps p name o mode call release may pushed =
      search (says-keeps, then-keeps, changes-keeps, open_action-alters, looks-keeps, inherit_running-keeps, chains) depth 9

  pub edit_top_protected-alters : (name : Who) (f : ProtectedMark → ProtectedMark) → Alters G R (edit_top_protected name f)
  edit_top_protected-alters name f = edit_top-alters moves name (λ x. with_mark (edit_protected f x.mark) x) (λ x. protected-nature f x.mark)

  pub begin_call-keeps : (p : Image) (part : Part) (name : Who) (c : Call) → Keeps G R (begin_call p part name c)
  unfolding begin_call
  begin_call-keeps p part name c = search (changes-keeps, unqueued-alters, then-keeps, edit_call-alters, says-keeps, chains, plain_steps) depth 9

module _ {G : GoodWorld} {Acts : Naming} {R : StepRelation} {Q : MoveRelation} (moves : FineMoves G Anybody Anybody R Q) (openings : Openings G Acts R) where
  pub begin_operation-keeps : (p : Image) (name : Who) (s : StatementNo) (f : SubprogramNo) (o : ObjectNo) (h : Handed) (to : ResultTo) → Acts name
      → Keeps G R (begin_operation p name s f o h to)
  unfolding begin_operation
  begin_operation-keeps p name s f o h to acts =
      then-keeps (chains moves) (goes name (next_of p s)) _ (goes-keeps moves name (next_of p s))
      (then-keeps (chains moves) (begin_action_on p name o (mode_of (subprogram_of p f)) None None) _
      (begin_action_on-keeps moves p name o (mode_of (subprogram_of p f)) None None tt
      (push-alters moves openings name (new_frame (new_protected_mark o (mode_of (subprogram_of p f)) None None) None) refl))
      (search (looks-keeps, changes-keeps, open_scope-alters, chains) depth 7))

  pub call_operation_of-keeps : (p : Image) (name : Who) (s : StatementNo) (f : SubprogramNo) (actuals : List Actual) (to : Destination) (o : ObjectNo)
      → Acts name → Keeps G R (call_operation_of p name s f actuals to o)
  unfolding call_operation_of
  call_operation_of-keeps p name s f actuals to o acts =
      search (looks-keeps, raise_if-keeps, with_room-keeps, handing-keeps, where_let_inside-keeps, begin_operation-keeps, chains, plain_steps) depth 11

  pub call_operation-keeps : (p : Image) (name : Who) (s : StatementNo) (d : DeclNo) (f : SubprogramNo) (actuals : List Actual) (to : Destination) → Acts name
      → Keeps G R (call_operation p name s d f actuals to)
  unfolding call_operation
  call_operation-keeps p name s d f actuals to acts = search (sees-keeps, given-keeps, call_operation_of-keeps, chains, plain_steps) depth 8

  pub begin_own_operation-keeps : (p : Image) (name : Who) (s : StatementNo) (f : SubprogramNo) (o : Option ObjectNo) (h : Handed) (to : ResultTo) → Acts name
      → Keeps G R (begin_own_operation p name s f o h to)
  unfolding begin_own_operation
  begin_own_operation-keeps p name s f None h to acts = search (raises-keeps, plain_steps)
  begin_own_operation-keeps p name s f (Some o) h to acts = search (looks-keeps, begin_body-keeps, chains)

  pub call_own_operation-keeps : (p : Image) (name : Who) (s : StatementNo) (f : SubprogramNo) (actuals : List Actual) (to : Destination) → Acts name
      → Keeps G R (call_own_operation p name s f actuals to)
  unfolding call_own_operation
  call_own_operation-keeps p name s f actuals to acts = search (with_room-keeps, handing-keeps, sees-keeps, begin_own_operation-keeps, chains, plain_steps)

  pub body_opens-keeps : (p : Image) (name : Who) (o : ObjectNo) (c : Call) → Acts name → Keeps G R (body_opens p name o c)
  unfolding body_opens
  body_opens-keeps p name o c acts = search (changes-keeps, edit_top_protected-alters, then-keeps, looks-keeps, open_scope-alters, chains) depth 7

  pub serve_call-keeps : (p : Image) (part : Part) (name : Who) (o : ObjectNo) (c : Call) (then_ otherwise : Step) → Acts name → Keeps G R then_
      → Keeps G R otherwise → Keeps G R (serve_call p part name o c then_ otherwise)
  serve_call-keeps p part name o c then_ otherwise acts kept also_kept =
      looks-keeps (chains moves) _
      (λ w. then-keeps (chains moves) (begin_call p part name c) _ (search (begin_call-keeps))
      (branch-keeps (chains moves) (has_room_for_body p w name c.entry) (body_opens p name o c ▷ then_)
      (says part (line.Finish name c.number (meeting.Raised exception.Storage)) ▷ otherwise) (search (body_opens-keeps, then-keeps, chains))
      (search (says-keeps, then-keeps, chains))))
