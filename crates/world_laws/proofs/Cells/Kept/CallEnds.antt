-- Calls that end, and abortable parts: each step keeps the cells right.
use Rattle.std.specs.Prelude.{ℕ, Bool, List, [], ◌∷◌, Option, Some, None, Ok, Err}
use Rattle.ann_base.specs.declared.identities.TaskNo.{TaskNo}
use Rattle.ann_base.specs.declared.identities.CallNo.{CallNo}
use Rattle.trace_text.specs.declared.events.Who.{Who}
use Rattle.trace_text.specs.declared.events.Who.TheVariants as who
use Rattle.profile_image.specs.declared.image.Image.{Image}
use Rattle.profile_image.specs.declared.numbers.StatementNo.{StatementNo}
use Rattle.profile_image.specs.declared.values.Value.{Value}
use Rattle.profile_machine.specs.declared.world.World.{World}
use Rattle.profile_machine.specs.declared.world.marks.Frame.{Frame}
use Rattle.profile_machine.specs.declared.world.marks.Mark.{Mark}
use Rattle.profile_machine.specs.declared.world.marks.AbortableMark.{AbortableMark}
use Rattle.profile_machine.specs.declared.world.calls.Call.{Call}
use Rattle.profile_machine.specs.declared.world.calls.Outcome.{Outcome}
use Rattle.profile_machine.specs.declared.world.scopes.Variable.{Variable}
use Rattle.profile_machine.specs.declared.world.calls.Outcome.TheVariants as call_ended
use Rattle.profile_machine.specs.declared.world.marks.Mark.TheVariants.{Abortable}
use Rattle.profile_image.specs.Program.{declaration_of}
use Rattle.profile_machine.specs.declared.world.lines.Part.{Part}
use Rattle.profile_machine.specs.Steps.{changes}
use Rattle.profile_machine.specs.Tasks.{waiting_of}
use Rattle.profile_machine.specs.Frames.{pop, pass_on, leaving_of}
use Rattle.profile_machine.specs.Scopes.{write_cell}
use Rattle.profile_machine.specs.Operators.{Valued, checked}
use Rattle.profile_machine.specs.CallEnds.{go_by_outcome, resume, store, or_stored, copy_back, with_results, edit_frame}
use Rattle.profile_machine.specs.CallEnds.{edit_abortable_at, trigger_at, trigger_outcome, forget_trigger, run_triggered, ended_by_itself}
use Rattle.profile_machine.specs.CallEnds.{behind_abortable, end_abortable, end_abortable_in, end_top_abortable, end_wait, waits_for_end}
use Rattle.profile_machine.specs.CallEnds.{end_for_abortable, end_for_caller, end_for, end_with, end_call, deliver, gone}
use Rattle.profile_machine.specs.Act.{below}
use Rattle.profile_machine.specs.Values.{value}
use Rattle.world_laws.proofs.Cells.RightCells.{Right, Keeps, Alters, Gives, then-keeps, nothing-keeps, changes-keeps, says-keeps}
use Rattle.world_laws.proofs.Cells.RightCells.{looks-keeps, branch-keeps, when-keeps, unchanged-alters, next-alters, ok-gives, bind-gives}
use Rattle.world_laws.proofs.Cells.Kept.Tasks.{edit_task-alters}
use Rattle.world_laws.proofs.Cells.Kept.Dispatching.{ready-keeps}
use Rattle.world_laws.proofs.Cells.Kept.Frames.{goes-keeps, pop-alters, leaves-keeps, raises-keeps, open_sequence-keeps, pass_on-keeps}
use Rattle.world_laws.proofs.Cells.Kept.Scopes.{write_cell-alters}
use Rattle.world_laws.proofs.Cells.Kept.Calls.{edit_call-alters, forget_call-alters, with_call-keeps, unqueued-alters}
use Rattle.world_laws.proofs.Cells.Kept.Unwinding.{unwind-keeps}

-- ---- where a caller goes on

pub go_by_outcome-keeps : (p : Image) (part : Part) (name : Who) (s : StatementNo) (outcome : Outcome) → Keeps p (go_by_outcome p part name s outcome)
unfolding go_by_outcome
go_by_outcome-keeps p part name s call_ended.Finished = search (goes-keeps)
go_by_outcome-keeps p part name s call_ended.Cancelled = search (goes-keeps)
go_by_outcome-keeps p part name s (call_ended.ToRaise e) = search (raises-keeps)
go_by_outcome-keeps p part name s (call_ended.WasRaised e) = search (leaves-keeps)

pub resume-keeps : (p : Image) (part : Part) (c : Call) (outcome : Outcome) → Keeps p (resume p part c outcome)
unfolding resume
resume-keeps p part c outcome = search (changes-keeps, forget_call-alters, then-keeps, go_by_outcome-keeps) depth 7

-- ---- results are copied back (6.4.1), in the order of the parameters up to the first that fails its range check

pub store-gives : {p : Image} (text : Image) (v : Variable) (value : Value) (w : World) → Right p w → Gives p (store text v value w)
store-gives text v value w right =
    bind-gives (checked (declaration_of text v.declared).constraint value) (λ x. Ok (write_cell v.within v.place x w))
    (λ x. ok-gives (write_cell v.within v.place x w) ((write_cell-alters v.within v.place x).at w right))

-- the world behind the results that are copied back
or_stored-right : (p : Image) (result : Valued World) (again : World → World × Bool) (w : World) → Right p w → Gives p result
    → ((v : World) → Right p v → Right p (again v).0) → Right p (or_stored w result again).0
or_stored-right p (Ok next) again w right stored kept = kept next stored.world
or_stored-right p (Err e) again w right stored kept = right

copy_back-right : (p : Image) (results : List (Option Variable)) (values : List Value) (w : World) → Right p w → Right p (copy_back p results values w).0
copy_back-right p [] values w right = right
copy_back-right p (None ∷ results) [] w right = right
copy_back-right p (None ∷ results) (v ∷ values) w right = copy_back-right p results values w right
copy_back-right p (Some target ∷ results) [] w right = right
copy_back-right p (Some target ∷ results) (v ∷ values) w right =
    or_stored-right p (store p target v w) (copy_back p results values) w right (store-gives p target v w right) (copy_back-right p results values)

with_results-right : (p : Image) (c : Call) (outcome : Outcome) (w : World) → Right p w → Right p (with_results p c outcome w).0
with_results-right p c call_ended.Finished w right = copy_back-right p c.results c.values w right
with_results-right p c call_ended.Cancelled w right = right
with_results-right p c (call_ended.ToRaise e) w right = right
with_results-right p c (call_ended.WasRaised e) w right = right

-- ---- abortable parts (9.7.4)

pub edit_frame-alters : {p : Image} (name : Who) (depth : ℕ) (f : Frame → Frame) → Alters p (edit_frame name depth f)
edit_frame-alters name depth f = search (edit_task-alters)

pub edit_abortable_at-alters : {p : Image} (name : Who) (depth : ℕ) (f : AbortableMark → AbortableMark) → Alters p (edit_abortable_at name depth f)
edit_abortable_at-alters name depth f = search (edit_frame-alters)

pub trigger_at-keeps : {p : Image} (part : Part) (t : TaskNo) (depth : ℕ) → Keeps p (trigger_at part t depth)
unfolding trigger_at
trigger_at-keeps part t depth = search (changes-keeps, edit_abortable_at-alters, then-keeps, says-keeps, edit_frame-alters) depth 10

pub forget_trigger-alters : {p : Image} (found : Option CallNo) → Alters p (forget_trigger found)
forget_trigger-alters None = search (unchanged-alters)
forget_trigger-alters (Some c) = search (forget_call-alters)

pub run_triggered-keeps : (p : Image) (part : Part) (name : Who) (select : StatementNo) (outcome : Outcome) → Keeps p (run_triggered p part name select outcome)
unfolding run_triggered
run_triggered-keeps p part name select call_ended.Finished = search (goes-keeps)
run_triggered-keeps p part name select call_ended.Cancelled = search (nothing-keeps)
run_triggered-keeps p part name select (call_ended.ToRaise e) = search (raises-keeps)
run_triggered-keeps p part name select (call_ended.WasRaised e) = search (leaves-keeps)

pub behind_abortable-keeps : (p : Image) (part : Part) (name : Who) (m : AbortableMark) (outcome : Outcome) → Keeps p (behind_abortable p part name m outcome)
unfolding behind_abortable
behind_abortable-keeps p part name m outcome = search (when-keeps, run_triggered-keeps)

pub end_abortable-keeps : (p : Image) (part : Part) (name : Who) (m : AbortableMark) (f : Frame) (below : List Frame)
    → Keeps p (end_abortable p part name m f below)
unfolding end_abortable
end_abortable-keeps p part name m f below =
    looks-keeps _
    (λ w right. then-keeps (changes (pop name)) _ (changes-keeps _ (pop-alters name))
    (then-keeps (changes (forget_trigger m.call)) _ (changes-keeps _ (forget_trigger-alters m.call))
    (branch-keeps (ended_by_itself f below) (behind_abortable p part name m (trigger_outcome w m.call)) (pass_on p name (leaving_of f))
    (search (behind_abortable-keeps)) (search (pass_on-keeps)))))

pub end_abortable_in-keeps : (p : Image) (part : Part) (name : Who) (f : Frame) (below : List Frame) (mark : Mark)
    → Keeps p (end_abortable_in p part name f below mark)
unfolding end_abortable_in
end_abortable_in-keeps p part name f below (Abortable m) = search (end_abortable-keeps)
end_abortable_in-keeps p part name f below _ = search (nothing-keeps)

pub end_top_abortable-keeps : (p : Image) (part : Part) (name : Who) (xs : List Frame) → Keeps p (end_top_abortable p part name xs)
unfolding end_top_abortable
end_top_abortable-keeps p part name [] = search (nothing-keeps)
end_top_abortable-keeps p part name (f ∷ below) = search (end_abortable_in-keeps)

pub end_wait-keeps : (p : Image) (part : Part) (c : Call) (depth : ℕ) (outcome : Outcome) → Keeps p (end_wait p part c depth outcome)
unfolding end_wait
end_wait-keeps p part c depth outcome =
    search (ready-keeps, then-keeps, changes-keeps, edit_abortable_at-alters, looks-keeps, end_top_abortable-keeps, open_sequence-keeps) depth 12

-- ---- a call ends

pub end_for_abortable-keeps : (p : Image) (part : Part) (c : Call) (depth : ℕ) (outcome : Outcome) → Keeps p (end_for_abortable p part c depth outcome)
unfolding end_for_abortable
end_for_abortable-keeps p part c depth outcome =
    looks-keeps _
    (λ w right. branch-keeps (waits_for_end c.number (waiting_of w (who.Task c.caller))) (end_wait p part c depth outcome) (trigger_at part c.caller depth)
    (search (end_wait-keeps)) (search (trigger_at-keeps)))

pub end_for_caller-keeps : (p : Image) (part : Part) (c : Call) (outcome : Outcome) → Keeps p (end_for_caller p part c outcome)
unfolding end_for_caller
end_for_caller-keeps p part c outcome = search (looks-keeps, when-keeps, ready-keeps, then-keeps, resume-keeps, open_sequence-keeps) depth 10

pub end_for-keeps : (p : Image) (part : Part) (c : Call) (outcome : Outcome) (found : Option ℕ) → Keeps p (end_for p part c outcome found)
unfolding end_for
end_for-keeps p part c outcome (Some depth) = search (end_for_abortable-keeps)
end_for-keeps p part c outcome None = search (end_for_caller-keeps)

pub end_with-keeps : (p : Image) (part : Part) (c : Call) (outcome : Outcome) → Keeps p (end_with p part c outcome)
unfolding end_with
end_with-keeps p part c outcome = search (changes-keeps, edit_call-alters, then-keeps, looks-keeps, end_for-keeps) depth 8

pub end_call-keeps : (p : Image) (part : Part) (c : Call) (outcome : Outcome) → Keeps p (end_call p part c outcome)
unfolding end_call
end_call-keeps p part c outcome =
    looks-keeps _ (λ w right. let r = with_results p c outcome w in
    then-keeps (changes (λ _. r.0)) (end_with p part c r.1) (changes-keeps _ (next-alters r.0 (with_results-right p c outcome w right)))
    (end_with-keeps p part c r.1))

pub deliver-keeps : (p : Image) (part : Part) (c : CallNo) (outcome : Outcome) → Keeps p (deliver p part c outcome)
unfolding deliver
deliver-keeps p part c outcome = search (with_call-keeps, end_call-keeps, then-keeps, unwind-keeps) depth 7

pub gone-keeps : (p : Image) (part : Part) (c : Call) → Keeps p (gone p part c)
unfolding gone
gone-keeps p part c = search (changes-keeps, unqueued-alters, then-keeps, says-keeps) depth 7
