-- Protected actions: each step keeps the cells right.
use Rattle.std.specs.Prelude.{ℕ, List, Option, Some, None}
use Rattle.ann_base.specs.declared.exceptions.Raised.TheVariants as exception
use Rattle.ann_base.specs.declared.identities.ObjectNo.{ObjectNo}
use Rattle.ann_base.specs.declared.identities.CallNo.{CallNo}
use Rattle.profile_machine.specs.declared.world.objects.Entering.{Entering}
use Rattle.profile_machine.specs.declared.world.objects.Entering.TheVariants as entering_is
use Rattle.profile_machine.specs.declared.world.lines.Line.TheVariants as line
use Rattle.profile_machine.specs.declared.world.lines.MeetingEnd.TheVariants as meeting
use Rattle.trace_text.specs.declared.events.Mode.{Mode}
use Rattle.trace_text.specs.declared.events.Who.{Who}
use Rattle.profile_image.specs.declared.image.Image.{Image}
use Rattle.profile_image.specs.declared.numbers.DeclNo.{DeclNo}
use Rattle.profile_image.specs.declared.numbers.StatementNo.{StatementNo}
use Rattle.profile_image.specs.declared.numbers.SubprogramNo.{SubprogramNo}
use Rattle.profile_image.specs.declared.statements.Actual.{Actual}
use Rattle.profile_image.specs.declared.statements.Destination.{Destination}
use Rattle.profile_machine.specs.declared.world.scopes.Handed.{Handed}
use Rattle.profile_machine.specs.declared.world.marks.ResultTo.{ResultTo}
use Rattle.profile_machine.specs.declared.world.marks.ProtectedMark.{ProtectedMark}
use Rattle.profile_machine.specs.declared.world.calls.Call.{Call}
use Rattle.profile_machine.specs.declared.world.lines.Part.{Part}
use Rattle.profile_machine.specs.Steps.{Step, says, ◌▷◌}
use Rattle.profile_machine.specs.Protected.{find_held, enter_or, where_let_inside, open_action, begin_action_on, begin_operation}
use Rattle.profile_machine.specs.Protected.{call_operation_of, call_operation, begin_own_operation, call_own_operation}
use Rattle.profile_machine.specs.Protected.{edit_top_protected, begin_call, body_opens, has_room_for_body, serve_call}
use Rattle.profile_machine.specs.Handlers.{release}
use Rattle.profile_machine.specs.Act.{call}
use Rattle.world_laws.proofs.Cells.RightCells.{Keeps, Alters, then-keeps, changes-keeps, says-keeps, looks-keeps, sees-keeps, branch-keeps}
use Rattle.world_laws.proofs.Cells.Kept.Dispatching.{to_tail-keeps}
use Rattle.world_laws.proofs.Cells.Kept.Frames.{edit_top-alters, goes-keeps, push-alters, raises-keeps, given-keeps, raise_if-keeps, with_room-keeps}
use Rattle.world_laws.proofs.Cells.Kept.Scopes.{open_scope-alters}
use Rattle.world_laws.proofs.Cells.Kept.Inheritance.{inherit_running-keeps}
use Rattle.world_laws.proofs.Cells.Kept.Calls.{edit_call-alters, edit_object-alters, unqueued-alters}
use Rattle.world_laws.proofs.Cells.Kept.Subprograms.{begin_body-keeps, handing-keeps}

-- ---- entering (9.5.1, D.3)

pub find_held-keeps : (p : Image) (name : Who) (o : ObjectNo) (mode : Mode) → Keeps p (find_held p name o mode)
unfolding find_held
find_held-keeps p name o mode = search (says-keeps, then-keeps, to_tail-keeps) depth 6

pub enter_or-keeps : (p : Image) (name : Who) (o : ObjectNo) (mode : Mode) (step : Step) (is : Entering) → Keeps p step
    → Keeps p (enter_or p name o mode step is)
enter_or-keeps p name o mode step entering_is.SameObject kept = search (raises-keeps)
enter_or-keeps p name o mode step entering_is.AboveCeiling kept = search (raises-keeps)
enter_or-keeps p name o mode step entering_is.Held kept = search (find_held-keeps)
enter_or-keeps p name o mode step entering_is.Inside kept = search

pub where_let_inside-keeps : (p : Image) (name : Who) (o : ObjectNo) (mode : Mode) (step : Step) → Keeps p step → Keeps p (where_let_inside p name o mode step)
where_let_inside-keeps p name o mode step kept = search (looks-keeps, enter_or-keeps)

-- ---- an action begins

pub open_action-alters : {p : Image} (name : Who) (o : ObjectNo) (mode : Mode) → Alters p (open_action name o mode)
open_action-alters name o mode = search (edit_object-alters)

pub begin_action_on-keeps : (p : Image) (name : Who) (o : ObjectNo) (mode : Mode) (call : Option CallNo) (release : Option ℕ)
    → Keeps p (begin_action_on p name o mode call release)
unfolding begin_action_on
begin_action_on-keeps p name o mode call release =
    search (says-keeps, then-keeps, changes-keeps, open_action-alters, looks-keeps, inherit_running-keeps, push-alters) depth 14

-- ---- a protected procedure or function called from outside (9.5.1)

pub begin_operation-keeps : (p : Image) (name : Who) (s : StatementNo) (f : SubprogramNo) (o : ObjectNo) (h : Handed) (to : ResultTo)
    → Keeps p (begin_operation p name s f o h to)
unfolding begin_operation
begin_operation-keeps p name s f o h to = search (goes-keeps, then-keeps, begin_action_on-keeps, looks-keeps, changes-keeps, open_scope-alters) depth 10

pub call_operation_of-keeps : (p : Image) (name : Who) (s : StatementNo) (f : SubprogramNo) (actuals : List Actual) (to : Destination) (o : ObjectNo)
    → Keeps p (call_operation_of p name s f actuals to o)
unfolding call_operation_of
call_operation_of-keeps p name s f actuals to o =
    search (looks-keeps, raise_if-keeps, with_room-keeps, handing-keeps, where_let_inside-keeps, begin_operation-keeps) depth 9

pub call_operation-keeps : (p : Image) (name : Who) (s : StatementNo) (d : DeclNo) (f : SubprogramNo) (actuals : List Actual) (to : Destination)
    → Keeps p (call_operation p name s d f actuals to)
unfolding call_operation
call_operation-keeps p name s d f actuals to = search (sees-keeps, given-keeps, call_operation_of-keeps) depth 6

pub begin_own_operation-keeps : (p : Image) (name : Who) (s : StatementNo) (f : SubprogramNo) (found : Option ObjectNo) (h : Handed) (to : ResultTo)
    → Keeps p (begin_own_operation p name s f found h to)
unfolding begin_own_operation
begin_own_operation-keeps p name s f None h to = search (raises-keeps)
begin_own_operation-keeps p name s f (Some o) h to = search (looks-keeps, begin_body-keeps)

pub call_own_operation-keeps : (p : Image) (name : Who) (s : StatementNo) (f : SubprogramNo) (actuals : List Actual) (to : Destination)
    → Keeps p (call_own_operation p name s f actuals to)
unfolding call_own_operation
call_own_operation-keeps p name s f actuals to = search (with_room-keeps, handing-keeps, sees-keeps, begin_own_operation-keeps) depth 7

-- ---- an entry body runs for a call (9.5.2, 9.5.3)

pub edit_top_protected-alters : {p : Image} (name : Who) (f : ProtectedMark → ProtectedMark) → Alters p (edit_top_protected name f)
edit_top_protected-alters name f = search (edit_top-alters)

pub begin_call-keeps : (p : Image) (part : Part) (name : Who) (c : Call) → Keeps p (begin_call p part name c)
unfolding begin_call
begin_call-keeps p part name c = search (changes-keeps, unqueued-alters, then-keeps, edit_call-alters, says-keeps) depth 10

pub body_opens-keeps : (p : Image) (name : Who) (o : ObjectNo) (c : Call) → Keeps p (body_opens p name o c)
unfolding body_opens
body_opens-keeps p name o c = search (changes-keeps, edit_top_protected-alters, then-keeps, looks-keeps, open_scope-alters) depth 9

pub serve_call-keeps : (p : Image) (part : Part) (name : Who) (o : ObjectNo) (c : Call) (then_ otherwise : Step) → Keeps p then_ → Keeps p otherwise
    → Keeps p (serve_call p part name o c then_ otherwise)
serve_call-keeps p part name o c then_ otherwise kept also_kept =
    looks-keeps _ (λ w right. then-keeps (begin_call p part name c) _ (begin_call-keeps p part name c)
    (branch-keeps (has_room_for_body p w name c.entry) (body_opens p name o c ▷ then_)
    (says part (line.Finish name c.number (meeting.Raised exception.Storage)) ▷ otherwise)
    (search (body_opens-keeps, then-keeps)) (search (says-keeps, then-keeps))))
