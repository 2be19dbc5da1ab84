-- Protected actions and entry bodies: each step keeps a relation that its parts keep.
use Rattle.std.specs.Prelude.{ℕ, List, [], ◌∷◌, Option, Some, None, true, false}
use Rattle.ann_base.specs.declared.exceptions.Raised.TheVariants as exception
use Rattle.ann_base.specs.declared.identities.ObjectNo.{ObjectNo}
use Rattle.ann_base.specs.declared.identities.CallNo.{CallNo}
use Rattle.profile_machine.specs.declared.world.objects.Entering.{Entering}
use Rattle.profile_machine.specs.declared.world.objects.Entering.TheVariants as entering_is
use Rattle.profile_machine.specs.declared.world.scopes.Handed.{Handed}
use Rattle.profile_machine.specs.declared.world.lines.Line.TheVariants as line
use Rattle.profile_machine.specs.declared.world.lines.MeetingEnd.TheVariants as meeting
use Rattle.trace_text.specs.declared.events.Mode.{Mode}
use Rattle.trace_text.specs.declared.events.Who.{Who}
use Rattle.profile_image.specs.declared.image.Image.{Image}
use Rattle.profile_image.specs.declared.numbers.DeclNo.{DeclNo}
use Rattle.profile_image.specs.declared.numbers.StatementNo.{StatementNo}
use Rattle.profile_image.specs.declared.numbers.SubprogramNo.{SubprogramNo}
use Rattle.profile_image.specs.declared.statements.Actual.{Actual}
use Rattle.profile_image.specs.declared.statements.Destination.{Destination}
use Rattle.profile_machine.specs.declared.world.marks.ResultTo.{ResultTo}
use Rattle.profile_machine.specs.declared.world.marks.ProtectedMark.{ProtectedMark}
use Rattle.profile_machine.specs.declared.world.calls.Call.{Call}
use Rattle.profile_machine.specs.declared.world.lines.Part.{Part}
use Rattle.profile_machine.specs.declared.world.World.{World}
use Rattle.profile_machine.specs.declared.world.lines.Part.TheVariants.{Own, ThePlacing}
use Rattle.profile_image.specs.Program.{next_of, subprogram_of}
use Rattle.profile_machine.specs.Tasks.{with_frames}
use Rattle.profile_machine.specs.Dispatching.{to_tail}
use Rattle.profile_machine.specs.Frames.{new_frame, edit_first, edit_top, goes_on, push, raises}
use Rattle.profile_machine.specs.declared.world.tasks.Cause.TheVariants as inherited_by
use Rattle.profile_machine.specs.Values.{object_of}
use Rattle.profile_machine.specs.Inheritance.{inherit_running}
use Rattle.profile_machine.specs.Steps.{Step, says, changes, looks, ◌▷◌}
use Rattle.std.proofs.Common.{◌≡◌, refl, ap}
use Rattle.profile_machine.specs.Protected.{entering, ceiling_of, new_protected_mark, mode_of, find_held, enter_or, where_let_inside, open_action}
use Rattle.profile_machine.specs.Protected.{begin_action_on, begin_operation, call_operation_of, call_operation, begin_own_operation, call_own_operation}
use Rattle.profile_machine.specs.Protected.{edit_top_protected, begin_call, body_opens, has_room_for_body, serve_call, edit_protected}
use Rattle.machine_laws.proofs.Moves.{LetsIn, FindsHeld, own}
use Rattle.machine_laws.proofs.FineMoves.{GoodWorld, Naming, nature}
use Rattle.world_laws.proofs.Sequences.FineMoves.{FineMoves, Openings, chains, says-keeps}
use Rattle.world_laws.proofs.Behind.{Behind}
use Rattle.machine_laws.proofs.Kept.Entering.{entering-inside, entering-held, LetsIn-same, edit_task-objects}
use Rattle.world_laws.proofs.Sequences.Kept.Dispatching.{to_tail-keeps}
use Rattle.world_laws.proofs.Sequences.Kept.Frames.{goes_then-from, push-alters, edit_mark-alters, plain_steps}
use Rattle.world_laws.proofs.Sequences.Kept.Scopes.{open_scope-alters}
use Rattle.world_laws.proofs.Sequences.Kept.Inheritance.{inherit_running-keeps}
use Rattle.world_laws.proofs.Sequences.Kept.Subprograms.{begin_body-keeps}
use Rattle.profile_machine.specs.declared.world.marks.Mark.{Mark}
use Rattle.profile_machine.specs.declared.world.marks.Mark.TheVariants.{Scope, Handled, InProtected, InAccept, Abortable, InInitialize, InFinalize, InAssign}
use Rattle.machine_laws.proofs.Kept.Combinators.{Alters, From, Keeps, Kept, branch-keeps, changes-keeps, keeps-from, looks-from}
use Rattle.machine_laws.proofs.Kept.Combinators.{looks-keeps, said-from, said-keeps, sees-keeps, then-from, then-keeps}
use Rattle.machine_laws.proofs.Plain.Frames.{raises-keeps, given-keeps, raise_if-keeps, with_room-keeps}
use Rattle.machine_laws.proofs.Plain.Calls.{edit_call-alters, unqueued-alters}
use Rattle.machine_laws.proofs.Plain.Subprograms.{handing-keeps}

-- the release of a protected action is not edited, nor what another mark is
protected-nature : (f : ProtectedMark → ProtectedMark) → ((m : ProtectedMark) → (f m).release ≡ m.release) → (mark : Mark)
    → nature (edit_protected f mark) ≡ nature mark
protected-nature f same (Scope m) = refl
protected-nature f same (Handled s) = refl
protected-nature f same (InProtected m) = ap (λ r. record { region = None; release = r; action = true; abortable = false }) (same m)
protected-nature f same (InAccept m) = refl
protected-nature f same (Abortable m) = refl
protected-nature f same (InInitialize l) = refl
protected-nature f same (InFinalize o) = refl
protected-nature f same (InAssign m) = refl

module _ {p : Image} {G : GoodWorld} {May Other : Naming} (moves : FineMoves p G May Other) where
  pub find_held-from : (name : Who) (o : ObjectNo) (mode : Mode) (w : World) → G w → FindsHeld name o mode w → From (Behind G) w (find_held p name o mode)
  unfolding find_held
  find_held-from name o mode w good h =
      then-from (chains moves) (says Own (line.Held name o mode)) (to_tail p ThePlacing name) w
      (said-from (chains moves) Own (line.Held name o mode) w (moves.finds_held name o mode w good)) (to_tail-keeps moves ThePlacing name)

  enter_or-from : (name : Who) (o : ObjectNo) (mode : Mode) (step : Step) (w : World) (is : Entering) → G w → entering p w name o mode ≡ is
      → (LetsIn name o mode w → From (Behind G) w step) → From (Behind G) w (enter_or p name o mode step is)
  enter_or-from name o mode step w entering_is.SameObject good e kept =
      keeps-from (chains moves) (raises Own name exception.Program) w good (raises-keeps (plain_steps moves) Own name exception.Program)
  enter_or-from name o mode step w entering_is.AboveCeiling good e kept =
      keeps-from (chains moves) (raises Own name exception.Program) w good (raises-keeps (plain_steps moves) Own name exception.Program)
  enter_or-from name o mode step w entering_is.Held good e kept = find_held-from name o mode w good (entering-held p w name o mode e)
  enter_or-from name o mode step w entering_is.Inside good e kept = kept (entering-inside p w name o mode e)

  -- the step is done where somebody is let in
  pub where_let_inside-keeps : (name : Who) (o : ObjectNo) (mode : Mode) (step : Step) → ((w : World) → G w → LetsIn name o mode w → From (Behind G) w step)
      → Keeps G (Behind G) (where_let_inside p name o mode step)
  where_let_inside-keeps name o mode step kept =
      looks-from (chains moves) _ (λ w good. enter_or-from name o mode step w (entering p w name o mode) good refl (kept w good))

  told_enter-from : (name : Who) (o : ObjectNo) (mode : Mode) (w : World) → G w → LetsIn name o mode w
      → From (Behind G) w (says Own (line.Enter name o mode) ▷ changes (open_action name o mode))
  unfolding From Kept
  told_enter-from name o mode w good h said = (own (line.Enter name o mode) ∷ [], refl, moves.enters name o mode w good)

  -- an action begins, up to its mark
  pub begin_action_on-from : (name : Who) (o : ObjectNo) (mode : Mode) (call : Option CallNo) (release : Option ℕ) (w : World) → G w → May name
      → Alters G (Behind G) (push name (new_frame (new_protected_mark o mode call release) None)) → LetsIn name o mode w
      → From (Behind G) w (begin_action_on p name o mode call release)
  unfolding begin_action_on
  begin_action_on-from name o mode call release w good may pushed h =
      then-from (chains moves) (says Own (line.Enter name o mode) ▷ changes (open_action name o mode))
      (looks (λ v. inherit_running p name (inherited_by.Ceiling o) (ceiling_of (object_of v o)))
      ▷ changes (push name (new_frame (new_protected_mark o mode call release) None))) w
      (told_enter-from name o mode w good h)
      (search (looks-keeps, inherit_running-keeps, then-keeps, changes-keeps, chains) depth 7)

  pub opens_action-alters : (name : Who) (o : ObjectNo) (mode : Mode) → Alters G (Behind G) (open_action name o mode)
  unfolding Alters
  opens_action-alters name o mode w good = moves.enters name o mode w good

  pub begin_action_on-keeps : (name : Who) (o : ObjectNo) (mode : Mode) (call : Option CallNo) (release : Option ℕ)
      → Alters G (Behind G) (push name (new_frame (new_protected_mark o mode call release) None))
      → Keeps G (Behind G) (begin_action_on p name o mode call release)
  unfolding begin_action_on
  begin_action_on-keeps name o mode call release pushed =
      then-keeps (chains moves) (says Own (line.Enter name o mode)) _ (said-keeps (chains moves) Own (line.Enter name o mode) (λ w good. good))
      (then-keeps (chains moves) (changes (open_action name o mode)) _ (changes-keeps (chains moves) _ (opens_action-alters name o mode))
      (then-keeps (chains moves) (looks (λ v. inherit_running p name (inherited_by.Ceiling o) (ceiling_of (object_of v o)))) _
      (looks-keeps (chains moves) _ (λ v. inherit_running-keeps moves name (inherited_by.Ceiling o) (ceiling_of (object_of v o))))
      (changes-keeps (chains moves) _ pushed)))

  pub edit_top_protected-alters : (name : Who) (f : ProtectedMark → ProtectedMark) → ((m : ProtectedMark) → (f m).release ≡ m.release)
      → Alters G (Behind G) (edit_top_protected name f)
  edit_top_protected-alters name f same = edit_mark-alters moves name (edit_protected f) (protected-nature f same)

  pub begin_call-keeps : (part : Part) (name : Who) (c : Call) → Keeps G (Behind G) (begin_call p part name c)
  unfolding begin_call
  begin_call-keeps part name c = search (changes-keeps, unqueued-alters, then-keeps, edit_call-alters, says-keeps, chains, plain_steps) depth 9

module _ {p : Image} {G : GoodWorld} {May Other : Naming} (moves : FineMoves p G May Other) (openings : Openings p G May Other) where
  pub begin_operation-from : (name : Who) (s : StatementNo) (f : SubprogramNo) (o : ObjectNo) (h : Handed) (to : ResultTo) (w : World) → G w → May name
      → LetsIn name o (mode_of (subprogram_of p f)) w → From (Behind G) w (begin_operation p name s f o h to)
  unfolding begin_operation
  begin_operation-from name s f o h to w good may lets =
      let onward = edit_top name (goes_on (next_of p s)) w in
      let still : LetsIn name o (mode_of (subprogram_of p f)) onward =
      LetsIn-same name o (mode_of (subprogram_of p f)) w onward
      (edit_task-objects name (λ t. with_frames (edit_first (goes_on (next_of p s)) t.frames) t) w) lets in
      goes_then-from moves name (next_of p s) _ w good (λ good_onward.
      then-from (chains moves) (begin_action_on p name o (mode_of (subprogram_of p f)) None None) _ onward
      (begin_action_on-from moves name o (mode_of (subprogram_of p f)) None None onward good_onward may
      (push-alters moves openings name (new_frame (new_protected_mark o (mode_of (subprogram_of p f)) None None) None) may refl refl refl) still)
      (search (looks-keeps, changes-keeps, open_scope-alters, chains) depth 7)) may

  pub call_operation_of-keeps : (name : Who) (s : StatementNo) (f : SubprogramNo) (actuals : List Actual) (to : Destination) (o : ObjectNo) → May name
      → Keeps G (Behind G) (call_operation_of p name s f actuals to o)
  unfolding call_operation_of
  call_operation_of-keeps name s f actuals to o may =
      search (looks-keeps, raise_if-keeps, with_room-keeps, handing-keeps, where_let_inside-keeps, begin_operation-from, chains, plain_steps) depth 11

  pub call_operation-keeps : (name : Who) (s : StatementNo) (d : DeclNo) (f : SubprogramNo) (actuals : List Actual) (to : Destination) → May name
      → Keeps G (Behind G) (call_operation p name s d f actuals to)
  unfolding call_operation
  call_operation-keeps name s d f actuals to may = search (sees-keeps, given-keeps, call_operation_of-keeps, chains, plain_steps) depth 8

  pub begin_own_operation-keeps : (name : Who) (s : StatementNo) (f : SubprogramNo) (o : Option ObjectNo) (h : Handed) (to : ResultTo) → May name
      → Keeps G (Behind G) (begin_own_operation p name s f o h to)
  unfolding begin_own_operation
  begin_own_operation-keeps name s f None h to may = search (raises-keeps, plain_steps)
  begin_own_operation-keeps name s f (Some o) h to may = search (looks-keeps, begin_body-keeps, chains)

  pub call_own_operation-keeps : (name : Who) (s : StatementNo) (f : SubprogramNo) (actuals : List Actual) (to : Destination) → May name
      → Keeps G (Behind G) (call_own_operation p name s f actuals to)
  unfolding call_own_operation
  call_own_operation-keeps name s f actuals to may = search (with_room-keeps, handing-keeps, sees-keeps, begin_own_operation-keeps, chains, plain_steps)

  pub body_opens-keeps : (name : Who) (o : ObjectNo) (c : Call) → May name → Keeps G (Behind G) (body_opens p name o c)
  unfolding body_opens
  body_opens-keeps name o c may = search (changes-keeps, edit_top_protected-alters, then-keeps, looks-keeps, open_scope-alters, chains) depth 7

  pub serve_call-keeps : (part : Part) (name : Who) (o : ObjectNo) (c : Call) (then_ otherwise : Step) → May name → Keeps G (Behind G) then_
      → Keeps G (Behind G) otherwise → Keeps G (Behind G) (serve_call p part name o c then_ otherwise)
  serve_call-keeps part name o c then_ otherwise may kept also_kept =
      looks-keeps (chains moves) _
      (λ w. then-keeps (chains moves) (begin_call p part name c) _ (search (begin_call-keeps))
      (branch-keeps (chains moves) (has_room_for_body p w name c.entry) (body_opens p name o c ▷ then_)
      (says part (line.Finish name c.number (meeting.Raised exception.Storage)) ▷ otherwise) (search (body_opens-keeps, then-keeps, chains))
      (search (says-keeps, then-keeps, chains))))
