-- Open constructs: opening them, leaving them, and going on (clauses 5, 6, 7.6.1, 11).
use Rattle.std.specs.Prelude.{ℕ, ◌+◌, Bool, true, false, ◌&&◌, List, [], ◌∷◌, Option, Some, None}
use Rattle.std.specs.Prelude.{leb, length, option_and_then, sum_by, Result, Ok, Err, unwrap_or}
use Rattle.std.specs.List.{list_any}
use Rattle.ann_base.specs.declared.exceptions.Raised.{Raised}
use Rattle.ann_base.specs.declared.exceptions.Raised.TheVariants as exception
use Rattle.profile_machine.specs.declared.world.lines.Line.TheVariants as line
use Rattle.trace_text.specs.declared.events.Who.{Who}
use Rattle.profile_image.specs.declared.limits.TheConstants.{MOST_MARKS_OF_TASK, MOST_MARKS, MOST_CELLS}
use Rattle.profile_image.specs.declared.image.Image.{Image}
use Rattle.profile_image.specs.declared.numbers.StatementNo.{StatementNo}
use Rattle.profile_machine.specs.declared.run_data.Leaving.{Leaving}
use Rattle.profile_machine.specs.declared.run_data.Leaving.TheVariants as how
use Rattle.profile_image.specs.declared.statements.StatementForm.{StatementForm}
use Rattle.profile_image.specs.declared.statements.StatementForm.TheVariants as form
use Rattle.profile_image.specs.declared.declarations.Handler.{Handler}
use Rattle.profile_machine.specs.declared.world.World.{World}
use Rattle.profile_machine.specs.declared.world.marks.Frame.{Frame}
use Rattle.profile_machine.specs.declared.world.marks.Mark.{Mark}
use Rattle.profile_machine.specs.declared.world.marks.Purpose.{Purpose}
use Rattle.profile_machine.specs.declared.world.marks.Purpose.TheVariants as opened_for
use Rattle.profile_machine.specs.declared.world.marks.Mark.TheVariants.{Scope, Handled, InProtected, InAccept}
use Rattle.profile_machine.specs.declared.world.marks.Mark.TheVariants.{Abortable, InInitialize, InFinalize, InAssign}
use Rattle.profile_image.specs.Words.{same_statement, same_option}
use Rattle.world_tables.specs.Lists.{first_of, rest_of}
use Rattle.profile_image.specs.Program.{form_of, next_of}
use Rattle.profile_machine.specs.declared.world.lines.Part.{Part}
use Rattle.profile_machine.specs.declared.world.lines.Part.TheVariants.{Own}
use Rattle.profile_machine.specs.Steps.{Step, says, changes, looks, when, nothing, ◌▷◌}
use Rattle.profile_machine.specs.Tasks.{task_of, edit_task, with_frames, is_runnable}

-- ---- the top of a rest

abbrev pub frames_of : World → Who → List Frame
frames_of w name = (task_of w name).frames

abbrev pub top_of : World → Who → Option Frame
top_of w name = first_of (frames_of w name)

abbrev pub new_frame : Mark → Option StatementNo → Frame
new_frame mark onward = record { mark = mark; onward = onward; left_as = None; struck = false }

abbrev pub edit_first : (Frame → Frame) → List Frame → List Frame
edit_first f [] = []
edit_first f (x ∷ xs) = f x ∷ xs

abbrev pub edit_top : Who → (Frame → Frame) → World → World
edit_top name f = edit_task name (λ t. with_frames (edit_first f t.frames) t)

abbrev pub goes_on : Option StatementNo → Frame → Frame
goes_on onward f = record f { onward = onward }

-- The task goes on with this action, or with the end of what is open. Who blocks goes on first: what its frame then
-- names is what it does once its wait is over, unless the wait's end says otherwise.
unfoldable pub goes : Who → Option StatementNo → Step
goes name onward = changes (edit_top name (goes_on onward))

abbrev pub push : Who → Frame → World → World
push name f = edit_task name (λ t. with_frames (f ∷ t.frames) t)

abbrev pub pop : Who → World → World
pop name = edit_task name (λ t. with_frames (rest_of t.frames) t)

-- ---- how a mark is being left

abbrev pub left_so : Leaving → Frame → Frame
left_so leaving f = record f { onward = None; left_as = Some leaving }

abbrev pub with_mark : Mark → Frame → Frame
with_mark mark f = record f { mark = mark }

abbrev pub leaving_of : Frame → Leaving
leaving_of f = unwrap_or f.left_as how.End

-- the marks are left from the top: what stands above the top mark is dropped
unfoldable pub leaves : Who → Leaving → Step
leaves name leaving = changes (edit_top name (left_so leaving))

-- ---- exceptions (11.3, 11.4)

-- an exception is raised: `raise`, and the marks are left with it
unfoldable pub raises : Part → Who → Raised → Step
raises part name e = says part (line.Raise name e) ▷ leaves name (how.Exception e)

-- ---- room (own): marks of a task and of all, and cells

abbrev pub marks_in_use : World → ℕ
marks_in_use w = sum_by (λ t. length t.frames) w.tasks + length w.agent.frames

abbrev pub cells_in_use : World → ℕ
cells_in_use w = sum_by (λ s. length s.cells) w.scopes

abbrev pub has_room : World → Who → ℕ → ℕ → Bool
has_room w name marks cells =
    leb (length (frames_of w name) + marks) MOST_MARKS_OF_TASK && leb (marks_in_use w + marks) MOST_MARKS
    && leb (cells_in_use w + cells) MOST_CELLS

-- ---- sequences with handlers (11.2)

abbrev pub handlers_in : StatementForm → List Handler
handlers_in (form.Handled handlers first) = handlers
handlers_in _ = []

-- the sequence with handlers that begins here, if one does: it is opened at no cost
unfoldable pub open_handled : Image → Part → Who → StatementNo → StatementForm → Step
open_handled p part name s (form.Handled handlers first) =
    looks (λ w. elim (has_room w name 1 0) [
      | true ↦ goes name (next_of p s) ▷ changes (push name (new_frame (Handled s) (Some first)))
      | false ↦ raises part name exception.Storage
    ])
open_handled p part name s _ = nothing

unfoldable pub open_at : Image → Part → Who → Option StatementNo → Step
open_at p part name None = nothing
open_at p part name (Some s) = open_handled p part name s (form_of p s)

abbrev pub onward_of : World → Who → Option StatementNo
onward_of w name = option_and_then (λ f. f.onward) (top_of w name)

-- A task that is ready opens the sequence to which it has come: behind the effect of its action, or, where it has
-- waited, in the effect that ends the wait. With an exception it has come to the end of a mark, and opens nothing.
unfoldable pub open_sequence : Image → Part → Who → Step
open_sequence p part name = looks (λ w. open_at p part name (onward_of w name))

-- behind the effect of an action: who has blocked opens nothing
unfoldable pub open_if_ready : Image → Who → Step
open_if_ready p name = looks (λ w. when (is_runnable (task_of w name)) (open_sequence p Own name))

-- ---- going on behind a mark that has ended

-- the statement whose construct a mark is; the mark of a body has none
abbrev pub statement_of_purpose : Purpose → Option StatementNo
statement_of_purpose (opened_for.Block s) = Some s
statement_of_purpose (opened_for.Subprogram results to) = None
statement_of_purpose (opened_for.EntryBody c) = None
statement_of_purpose opened_for.Task = None

abbrev pub statement_of_mark : Mark → Option StatementNo
statement_of_mark (Scope m) = statement_of_purpose m.purpose
statement_of_mark (Handled s) = Some s
statement_of_mark (InProtected m) = None
statement_of_mark (InAccept m) = Some m.accept
statement_of_mark (Abortable m) = Some m.select
statement_of_mark (InInitialize l) = None
statement_of_mark (InFinalize o) = None
statement_of_mark (InAssign m) = None

-- the innermost construct that is open round a loop
abbrev pub within_of : StatementForm → Option StatementNo
within_of (form.Loop body within) = within
within_of (form.While condition body within) = within
within_of (form.For parameter reverse low high turn within) = within
within_of _ = None

abbrev pub stands_in : Image → StatementNo → Option Frame → Bool
stands_in p loop None = true
stands_in p loop (Some f) = same_option same_statement (within_of (form_of p loop)) (statement_of_mark f.mark)

-- an exit goes on behind its loop, once the marks inside the loop are left (5.7)
unfoldable pub exit_loop : Image → Who → StatementNo → Step
exit_loop p name loop =
    looks (λ w. elim (stands_in p loop (top_of w name)) [
      | true ↦ goes name (next_of p loop)
      | false ↦ leaves name
          (how.Exit loop)
    ])

-- a mark has ended, and the task goes on as the mark was left
unfoldable pub pass_on : Image → Who → Leaving → Step
pass_on p name how.End = nothing
pass_on p name how.Return = leaves name how.Return
pass_on p name (how.Exit loop) = exit_loop p name loop
pass_on p name (how.Exception e) = leaves name (how.Exception e)
pass_on p name how.Abort = leaves name how.Abort
pass_on p name how.Terminate = leaves name how.Terminate

-- ---- marks that defer abort (9.8, D.6)

abbrev pub defers : Mark → Bool
defers (Scope m) = m.being_left
defers (Handled s) = false
defers (InProtected m) = true
defers (InAccept m) = false
defers (Abortable m) = false
defers (InInitialize l) = true
defers (InFinalize o) = true
defers (InAssign m) = true

abbrev pub any_defers : List Frame → Bool
any_defers frames = list_any (λ f. defers f.mark) frames

abbrev pub is_protected : Mark → Bool
is_protected (Scope m) = false
is_protected (Handled s) = false
is_protected (InProtected m) = true
is_protected (InAccept m) = false
is_protected (Abortable m) = false
is_protected (InInitialize l) = false
is_protected (InFinalize o) = false
is_protected (InAssign m) = false

abbrev pub any_protected : List Frame → Bool
any_protected frames = list_any (λ f. is_protected f.mark) frames

-- inside a protected action (9.5.1)
abbrev pub in_protected : World → Who → Bool
in_protected w name = any_protected (frames_of w name)

abbrev pub is_deferred : World → Who → Bool
is_deferred w name = any_defers (frames_of w name)

-- ---- steps that may raise

-- with the value, if it is none but an exception, which is raised
abbrev pub given : {X : Type 0} → Part → Who → Result X Raised → (X → Step) → Step
given part name (Ok x) f = f x
given part name (Err e) f = raises part name e

-- the exception is raised where the test holds, else the step is done
abbrev pub raise_if : Who → Bool → Raised → Step → Step
raise_if name true e step = raises Own name e
raise_if name false e step = step

-- without room for marks and cells Storage_Error is raised
abbrev pub with_room : Who → ℕ → ℕ → Step → Step
with_room name marks cells step =
    looks (λ w. elim (has_room w name marks cells) [ true ↦ step | false ↦ raises Own name exception.Storage ])
