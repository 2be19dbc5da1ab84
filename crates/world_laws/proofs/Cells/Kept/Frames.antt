-- Marks and how they are left: each step keeps the cells right.
use Rattle.std.specs.Prelude.{ℕ, Bool, true, false, Option, Some, None, Result, Ok, Err}
use Rattle.ann_base.specs.declared.exceptions.Raised.{Raised}
use Rattle.ann_base.specs.declared.exceptions.Raised.TheVariants as exception
use Rattle.trace_text.specs.declared.events.Who.{Who}
use Rattle.profile_image.specs.declared.image.Image.{Image}
use Rattle.profile_image.specs.declared.numbers.StatementNo.{StatementNo}
use Rattle.profile_machine.specs.declared.run_data.Leaving.{Leaving}
use Rattle.profile_machine.specs.declared.run_data.Leaving.TheVariants as how
use Rattle.profile_image.specs.declared.statements.StatementForm.{StatementForm}
use Rattle.profile_image.specs.declared.statements.StatementForm.TheVariants as form
use Rattle.profile_machine.specs.declared.world.World.{World}
use Rattle.profile_machine.specs.declared.world.marks.Frame.{Frame}
use Rattle.profile_machine.specs.declared.world.marks.Mark.TheVariants.{Handled}
use Rattle.profile_image.specs.Program.{next_of}
use Rattle.profile_machine.specs.declared.world.lines.Part.{Part}
use Rattle.profile_machine.specs.declared.world.lines.Part.TheVariants.{Own}
use Rattle.profile_machine.specs.Steps.{Step, changes, ◌▷◌}
use Rattle.profile_machine.specs.Frames.{top_of, new_frame, edit_top, goes, push, pop, leaves, raises, has_room, open_handled, open_at}
use Rattle.profile_machine.specs.Frames.{open_sequence, open_if_ready, stands_in, exit_loop, pass_on, given, raise_if, with_room}
use Rattle.profile_machine.specs.Operators.{Valued}
use Rattle.world_laws.proofs.Cells.RightCells.{Right, Keeps, Alters, Gives, then-keeps, nothing-keeps}
use Rattle.world_laws.proofs.Cells.RightCells.{changes-keeps, says-keeps, looks-keeps, branch-keeps, when-keeps}
use Rattle.world_laws.proofs.Cells.Kept.Tasks.{edit_task-alters}

-- ---- the top of a rest

pub edit_top-alters : {p : Image} (name : Who) (f : Frame → Frame) → Alters p (edit_top name f)
edit_top-alters name f = search (edit_task-alters)

pub goes-keeps : {p : Image} (name : Who) (onward : Option StatementNo) → Keeps p (goes name onward)
unfolding goes
goes-keeps name onward = search (changes-keeps, edit_top-alters)

pub push-alters : {p : Image} (name : Who) (f : Frame) → Alters p (push name f)
push-alters name f = search (edit_task-alters)

pub pop-alters : {p : Image} (name : Who) → Alters p (pop name)
pop-alters name = search (edit_task-alters)

-- ---- how a mark is being left

pub leaves-keeps : {p : Image} (name : Who) (leaving : Leaving) → Keeps p (leaves name leaving)
unfolding leaves
leaves-keeps name leaving = search (changes-keeps, edit_top-alters)

-- ---- exceptions (11.3, 11.4)

pub raises-keeps : {p : Image} (part : Part) (name : Who) (e : Raised) → Keeps p (raises part name e)
unfolding raises
raises-keeps part name e = search (says-keeps, then-keeps, leaves-keeps) depth 6

-- ---- sequences with handlers (11.2)

pub open_handled-keeps : (p : Image) (part : Part) (name : Who) (s : StatementNo) (form : StatementForm) → Keeps p (open_handled p part name s form)
unfolding open_handled
open_handled-keeps p part name s (form.Handled handlers first) =
    looks-keeps _
    (λ w right. branch-keeps (has_room w name 1 0) (goes name (next_of p s) ▷ changes (push name (new_frame (Handled s) (Some first))))
    (raises part name exception.Storage)
    (search (then-keeps, goes-keeps, changes-keeps, push-alters)) (search (raises-keeps)))
open_handled-keeps p part name s _ = nothing-keeps

pub open_at-keeps : (p : Image) (part : Part) (name : Who) (found : Option StatementNo) → Keeps p (open_at p part name found)
unfolding open_at
open_at-keeps p part name None = search (nothing-keeps)
open_at-keeps p part name (Some s) = search (open_handled-keeps)

pub open_sequence-keeps : (p : Image) (part : Part) (name : Who) → Keeps p (open_sequence p part name)
unfolding open_sequence
open_sequence-keeps p part name = search (looks-keeps, open_at-keeps)

pub open_if_ready-keeps : (p : Image) (name : Who) → Keeps p (open_if_ready p name)
unfolding open_if_ready
open_if_ready-keeps p name = search (looks-keeps, when-keeps, open_sequence-keeps) depth 6

-- ---- going on behind a mark that has ended

pub exit_loop-keeps : (p : Image) (name : Who) (loop : StatementNo) → Keeps p (exit_loop p name loop)
unfolding exit_loop
exit_loop-keeps p name loop =
    looks-keeps _
    (λ w right.
    branch-keeps (stands_in p loop (top_of w name)) (goes name (next_of p loop)) (leaves name (how.Exit loop)) (search (goes-keeps)) (search (leaves-keeps)))

pub pass_on-keeps : (p : Image) (name : Who) (leaving : Leaving) → Keeps p (pass_on p name leaving)
unfolding pass_on
pass_on-keeps p name how.End = search (nothing-keeps)
pass_on-keeps p name how.Return = search (leaves-keeps)
pass_on-keeps p name (how.Exit loop) = search (exit_loop-keeps)
pass_on-keeps p name (how.Exception e) = search (leaves-keeps)
pass_on-keeps p name how.Abort = search (leaves-keeps)
pass_on-keeps p name how.Terminate = search (leaves-keeps)

-- ---- steps that may raise

pub given-keeps : {X : Type 0} {p : Image} (part : Part) (name : Who) (result : Result X Raised) (f : X → Step) → ((x : X) → Keeps p (f x))
    → Keeps p (given part name result f)
given-keeps part name (Ok x) f kept = kept x
given-keeps part name (Err e) f kept = raises-keeps part name e

-- the same with a world
pub given_right-keeps : {p : Image} (part : Part) (name : Who) (result : Valued World) (f : World → Step) → Gives p result
    → ((next : World) → Right p next → Keeps p (f next)) → Keeps p (given part name result f)
given_right-keeps part name (Ok next) f right kept = kept next right.world
given_right-keeps part name (Err e) f right kept = raises-keeps part name e

pub raise_if-keeps : {p : Image} (name : Who) (test : Bool) (e : Raised) (step : Step) → Keeps p step → Keeps p (raise_if name test e step)
raise_if-keeps name true e step kept = raises-keeps Own name e
raise_if-keeps name false e step kept = kept

pub with_room-keeps : {p : Image} (name : Who) (marks cells : ℕ) (step : Step) → Keeps p step → Keeps p (with_room name marks cells step)
with_room-keeps name marks cells step kept =
    looks-keeps _
    (λ w right. branch-keeps (has_room w name marks cells) step (raises Own name exception.Storage) kept (raises-keeps Own name exception.Storage))
