-- Protected actions and entry bodies: each step keeps a relation that its parts keep.
use Rattle.std.specs.Prelude.{ℕ, Bool, List, [], ◌∷◌, ◌++◌, Option, Some, None, true, false}
use Rattle.ann_base.specs.declared.exceptions.Raised.TheVariants as exception
use Rattle.ann_base.specs.declared.identities.ObjectNo.{ObjectNo}
use Rattle.ann_base.specs.declared.identities.CallNo.{CallNo}
use Rattle.profile_machine.specs.declared.world.objects.Entering.{Entering}
use Rattle.profile_machine.specs.declared.world.objects.Entering.TheVariants as entering_is
use Rattle.profile_machine.specs.declared.world.scopes.Handed.{Handed}
use Rattle.profile_machine.specs.declared.world.lines.Line.TheVariants as line
use Rattle.profile_machine.specs.declared.world.lines.MeetingEnd.TheVariants as meeting
use Rattle.trace_text.specs.declared.events.Mode.{Mode}
use Rattle.trace_text.specs.declared.events.QueueEnd.TheVariants.{Head}
use Rattle.trace_text.specs.declared.events.Who.{Who}
use Rattle.profile_image.specs.declared.image.Image.{Image}
use Rattle.profile_image.specs.declared.numbers.DeclNo.{DeclNo}
use Rattle.profile_image.specs.declared.numbers.StatementNo.{StatementNo}
use Rattle.profile_image.specs.declared.numbers.SubprogramNo.{SubprogramNo}
use Rattle.profile_image.specs.declared.statements.Actual.{Actual}
use Rattle.profile_image.specs.declared.statements.Destination.{Destination}
use Rattle.profile_machine.specs.declared.world.marks.ResultTo.{ResultTo}
use Rattle.profile_machine.specs.declared.world.marks.ProtectedMark.{ProtectedMark}
use Rattle.profile_machine.specs.declared.world.calls.Call.{Call}
use Rattle.profile_machine.specs.declared.world.lines.Part.{Part}
use Rattle.profile_machine.specs.declared.world.lines.Said.{Said}
use Rattle.profile_machine.specs.declared.world.World.{World}
use Rattle.profile_machine.specs.declared.world.lines.Part.TheVariants.{Own, ThePlacing}
use Rattle.profile_image.specs.Program.{next_of, subprogram_of}
use Rattle.profile_machine.specs.Tasks.{with_frames}
use Rattle.profile_machine.specs.Dispatching.{says_ready, to_head, to_tail}
use Rattle.profile_machine.specs.Frames.{new_frame, edit_first, edit_top, goes_on, push, raises, with_mark}
use Rattle.profile_machine.specs.declared.world.tasks.Cause.TheVariants as inherited_by
use Rattle.profile_machine.specs.Values.{object_of}
use Rattle.profile_machine.specs.Inheritance.{inherit, inherit_running, rises}
use Rattle.profile_machine.specs.Steps.{Step, goes_on_with, says, changes, when, ◌▷◌}
use Rattle.std.proofs.Common.{◌≡◌, refl, ap, ◌∙◌, append_assoc}
use Rattle.profile_machine.specs.Protected.{entering, ceiling_of, new_protected_mark, mode_of, find_held, enter_or, where_let_inside, open_action}
use Rattle.profile_machine.specs.Protected.{begin_action_on, begin_operation, call_operation_of, call_operation, begin_own_operation, call_own_operation}
use Rattle.profile_machine.specs.Protected.{edit_top_protected, begin_call, body_opens, has_room_for_body, serve_call, edit_protected}
use Rattle.machine_laws.proofs.Moves.{StepRelation, MoveRelation, LetsIn, FindsHeld, own}
use Rattle.machine_laws.proofs.FineMoves.{GoodWorld, Naming, ready_line}
use Rattle.machine_laws.proofs.FinestMoves.{FinestMoves, MarkOpenings, Begins, nature, chains, says-keeps}
use Rattle.machine_laws.proofs.Kept.Entering.{entering-inside, entering-held, LetsIn-same, edit_task-objects}
use Rattle.machine_laws.proofs.Kept.Dispatching.{to_tail-keeps}
use Rattle.machine_laws.proofs.Kept.Frames.{edit_top-alters, goes_then-from, plain_steps}
use Rattle.machine_laws.proofs.Kept.Scopes.{open_scope-alters}
use Rattle.machine_laws.proofs.Kept.Subprograms.{begin_body-keeps}
use Rattle.profile_machine.specs.declared.world.marks.Mark.{Mark}
use Rattle.profile_machine.specs.declared.world.marks.Mark.TheVariants.{Scope, Handled, InProtected, InAccept, Abortable, InInitialize, InFinalize, InAssign}
use Rattle.machine_laws.proofs.Kept.Combinators.{Alters, From, Keeps, Kept, branch-keeps, changes-keeps, keeps-from}
use Rattle.machine_laws.proofs.Kept.Combinators.{looks-from, looks-keeps, said-from, sees-keeps, then-from, then-keeps}
use Rattle.machine_laws.proofs.Plain.Frames.{raises-keeps, given-keeps, raise_if-keeps, with_room-keeps}
use Rattle.machine_laws.proofs.Plain.Calls.{edit_call-alters, unqueued-alters}
use Rattle.machine_laws.proofs.Plain.Subprograms.{handing-keeps}

-- the release and the object of a protected action are not edited, nor what another mark is
pub protected-nature : (f : ProtectedMark → ProtectedMark) → ((m : ProtectedMark) → (f m).release ≡ m.release) → ((m : ProtectedMark) → (f m).object ≡ m.object)
    → (mark : Mark) → nature (edit_protected f mark) ≡ nature mark
protected-nature f same alike (Scope m) = refl
protected-nature f same alike (Handled s) = refl
protected-nature f same alike (InProtected m) =
    ap (λ r. record { region = None; leaving = false; release = r; action = Some (f m).object; abortable = false }) (same m)
    ∙ ap (λ o. record { region = None; leaving = false; release = m.release; action = Some o; abortable = false }) (alike m)
protected-nature f same alike (InAccept m) = refl
protected-nature f same alike (Abortable m) = refl
protected-nature f same alike (InInitialize l) = refl
protected-nature f same alike (InFinalize o) = refl
protected-nature f same alike (InAssign m) = refl

module _ {G : GoodWorld} {May Other : Naming} {R : StepRelation} {Q : MoveRelation} (moves : FinestMoves G May Other R Q) where
  pub find_held-from : (p : Image) (name : Who) (o : ObjectNo) (mode : Mode) (w : World) → G w → May name → FindsHeld name o mode w
      → From R w (find_held p name o mode)
  unfolding find_held
  find_held-from p name o mode w good may h =
      then-from (chains moves) (says Own (line.Held name o mode)) (to_tail p ThePlacing name) w
      (said-from (chains moves) Own (line.Held name o mode) w (moves.finds_held name o mode w good h)) (to_tail-keeps moves p ThePlacing name may)

  enter_or-from : (p : Image) (name : Who) (o : ObjectNo) (mode : Mode) (step : Step) (w : World) (is : Entering) → G w → May name
      → entering p w name o mode ≡ is → (LetsIn name o mode w → From R w step) → From R w (enter_or p name o mode step is)
  enter_or-from p name o mode step w entering_is.SameObject good may e kept =
      keeps-from (chains moves) (raises Own name exception.Program) w good (raises-keeps (plain_steps moves) Own name exception.Program)
  enter_or-from p name o mode step w entering_is.AboveCeiling good may e kept =
      keeps-from (chains moves) (raises Own name exception.Program) w good (raises-keeps (plain_steps moves) Own name exception.Program)
  enter_or-from p name o mode step w entering_is.Held good may e kept = find_held-from p name o mode w good may (entering-held p w name o mode e)
  enter_or-from p name o mode step w entering_is.Inside good may e kept = kept (entering-inside p w name o mode e)

  -- the step is done where somebody is let in
  pub where_let_inside-keeps : (p : Image) (name : Who) (o : ObjectNo) (mode : Mode) (step : Step) → May name
      → ((w : World) → G w → LetsIn name o mode w → From R w step) → Keeps G R (where_let_inside p name o mode step)
  where_let_inside-keeps p name o mode step may kept =
      looks-from (chains moves) _ (λ w good. enter_or-from p name o mode step w (entering p w name o mode) good may refl (kept w good))

  -- an action begins: between `enter` and the mark who acts inherits the ceiling, and is placed where its active priority rises
  entered-kept : (p : Image) (name : Who) (o : ObjectNo) (mode : Mode) (call : Option CallNo) (release : Option ℕ) (w v : World) (said : List Said)
      (rises : Bool)
      → G w
      → May name
      → Begins G R name o mode call release → LetsIn name o mode w → R (open_action name o mode w) [] v
      → Kept R w said
      (goes_on_with (changes (push name (new_frame (new_protected_mark o mode call release) None)))
      (when rises (to_head p ThePlacing name) v (said ++ own (line.Enter name o mode) ∷ [])))
  unfolding Kept to_head says_ready
  entered-kept p name o mode call release w v said true good may begins h first =
      let opened = open_action name o mode w in
      let placed = ready_line p ThePlacing name Head v ∷ [] in (
        own (line.Enter name o mode) ∷ placed,
        append_assoc said (own (line.Enter name o mode) ∷ []) placed,
        begins w v placed good h (refl, tt)
            (moves.goes_on opened v v {xs = []} {ys = placed} first (moves.places p ThePlacing name Head v (moves.behind opened v first) may)),
      )
  entered-kept p name o mode call release w v said false good may begins h first = (own (line.Enter name o mode) ∷ [], refl, begins w v [] good h tt first)

  pub begin_action_on-from : (p : Image) (name : Who) (o : ObjectNo) (mode : Mode) (call : Option CallNo) (release : Option ℕ) (w : World) → G w → May name
      → Begins G R name o mode call release → LetsIn name o mode w → From R w (begin_action_on p name o mode call release)
  unfolding begin_action_on inherit_running From
  begin_action_on-from p name o mode call release w good may begins h said =
      let v = open_action name o mode w in
      let level = ceiling_of (object_of v o) in
      let heir = inherit name (inherited_by.Ceiling o) level v in
      entered-kept p name o mode call release w heir said (rises p name v heir) good may begins h
      (moves.edits_task name (λ t. record t { inherited = record { cause = inherited_by.Ceiling o; level = level } ∷ t.inherited }) v
      (moves.inside name o mode w good h)
      (λ t. refl) (λ t. refl) (λ t. refl) (λ t. refl) (λ t. refl))

  pub edit_top_protected-alters : (name : Who) (f : ProtectedMark → ProtectedMark) → ((m : ProtectedMark) → (f m).release ≡ m.release)
      → ((m : ProtectedMark) → (f m).object ≡ m.object) → Alters G R (edit_top_protected name f)
  edit_top_protected-alters name f same alike =
      edit_top-alters moves name (λ x. with_mark (edit_protected f x.mark) x) (λ x. protected-nature f same alike x.mark)

  pub begin_call-keeps : (p : Image) (part : Part) (name : Who) (c : Call) → Keeps G R (begin_call p part name c)
  unfolding begin_call
  begin_call-keeps p part name c = search (changes-keeps, unqueued-alters, then-keeps, edit_call-alters, says-keeps, chains, plain_steps) depth 9

module _ {G : GoodWorld} {May Other : Naming} {R : StepRelation} {Q : MoveRelation} (moves : FinestMoves G May Other R Q)
    (openings : MarkOpenings G May Other R) where
  pub begin_operation-from : (p : Image) (name : Who) (s : StatementNo) (f : SubprogramNo) (o : ObjectNo) (h : Handed) (to : ResultTo) (w : World) → G w
      → May name → LetsIn name o (mode_of (subprogram_of p f)) w → From R w (begin_operation p name s f o h to)
  unfolding begin_operation
  begin_operation-from p name s f o h to w good may lets =
      let onward = edit_top name (goes_on (next_of p s)) w in
      let still : LetsIn name o (mode_of (subprogram_of p f)) onward =
      LetsIn-same name o (mode_of (subprogram_of p f)) w onward
      (edit_task-objects name (λ t. with_frames (edit_first (goes_on (next_of p s)) t.frames) t) w) lets in
      goes_then-from moves name (next_of p s) _ w good (λ good_onward.
      then-from (chains moves) (begin_action_on p name o (mode_of (subprogram_of p f)) None None) _ onward
      (begin_action_on-from moves p name o (mode_of (subprogram_of p f)) None None onward good_onward may
      (openings.begins name o (mode_of (subprogram_of p f)) None may) still)
      (search (looks-keeps, changes-keeps, open_scope-alters, chains) depth 7))

  pub call_operation_of-keeps : (p : Image) (name : Who) (s : StatementNo) (f : SubprogramNo) (actuals : List Actual) (to : Destination) (o : ObjectNo)
      → May name → Keeps G R (call_operation_of p name s f actuals to o)
  unfolding call_operation_of
  call_operation_of-keeps p name s f actuals to o may =
      search (looks-keeps, raise_if-keeps, with_room-keeps, handing-keeps, where_let_inside-keeps, begin_operation-from, chains, plain_steps) depth 11

  pub call_operation-keeps : (p : Image) (name : Who) (s : StatementNo) (d : DeclNo) (f : SubprogramNo) (actuals : List Actual) (to : Destination) → May name
      → Keeps G R (call_operation p name s d f actuals to)
  unfolding call_operation
  call_operation-keeps p name s d f actuals to may = search (sees-keeps, given-keeps, call_operation_of-keeps, chains, plain_steps) depth 8

  pub begin_own_operation-keeps : (p : Image) (name : Who) (s : StatementNo) (f : SubprogramNo) (o : Option ObjectNo) (h : Handed) (to : ResultTo) → May name
      → Keeps G R (begin_own_operation p name s f o h to)
  unfolding begin_own_operation
  begin_own_operation-keeps p name s f None h to may = search (raises-keeps, plain_steps)
  begin_own_operation-keeps p name s f (Some o) h to may = search (looks-keeps, begin_body-keeps, chains)

  pub call_own_operation-keeps : (p : Image) (name : Who) (s : StatementNo) (f : SubprogramNo) (actuals : List Actual) (to : Destination) → May name
      → Keeps G R (call_own_operation p name s f actuals to)
  unfolding call_own_operation
  call_own_operation-keeps p name s f actuals to may = search (with_room-keeps, handing-keeps, sees-keeps, begin_own_operation-keeps, chains, plain_steps)

  pub body_opens-keeps : (p : Image) (name : Who) (o : ObjectNo) (c : Call) → May name → Keeps G R (body_opens p name o c)
  unfolding body_opens
  body_opens-keeps p name o c may = search (changes-keeps, edit_top_protected-alters, then-keeps, looks-keeps, open_scope-alters, chains) depth 7

  pub serve_call-keeps : (p : Image) (part : Part) (name : Who) (o : ObjectNo) (c : Call) (then_ otherwise : Step) → May name → Keeps G R then_
      → Keeps G R otherwise → Keeps G R (serve_call p part name o c then_ otherwise)
  serve_call-keeps p part name o c then_ otherwise may kept also_kept =
      looks-keeps (chains moves) _
      (λ w. then-keeps (chains moves) (begin_call p part name c) _ (search (begin_call-keeps))
      (branch-keeps (chains moves) (has_room_for_body p w name c.entry) (body_opens p name o c ▷ then_)
      (says part (line.Finish name c.number (meeting.Raised exception.Storage)) ▷ otherwise) (search (body_opens-keeps, then-keeps, chains))
      (search (says-keeps, then-keeps, chains))))
