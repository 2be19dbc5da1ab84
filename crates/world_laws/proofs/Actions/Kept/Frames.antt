-- Opening constructs, leaving them, and going on: each step leaves worlds good where its parts do.
use Rattle.std.specs.Prelude.{false, Option, Some, None}
use Rattle.ann_base.specs.declared.exceptions.Raised.TheVariants as exception
use Rattle.trace_text.specs.declared.events.Who.{Who}
use Rattle.profile_image.specs.declared.image.Image.{Image}
use Rattle.profile_image.specs.declared.numbers.StatementNo.{StatementNo}
use Rattle.profile_machine.specs.declared.run_data.Leaving.{Leaving}
use Rattle.profile_image.specs.declared.statements.StatementForm.{StatementForm}
use Rattle.profile_image.specs.declared.statements.StatementForm.TheVariants as form
use Rattle.profile_machine.specs.declared.world.World.{World}
use Rattle.profile_machine.specs.declared.world.marks.Frame.{Frame}
use Rattle.profile_machine.specs.declared.world.marks.Mark.TheVariants.{Handled}
use Rattle.profile_image.specs.Program.{form_of, next_of}
use Rattle.profile_machine.specs.declared.world.lines.Part.{Part}
use Rattle.profile_machine.specs.declared.world.lines.Part.TheVariants.{Own}
use Rattle.profile_machine.specs.Steps.{Step, changes, ◌▷◌}
use Rattle.profile_machine.specs.Frames.{top_of, new_frame, edit_first, edit_top, goes, push, pop, leaves, raises, has_room}
use Rattle.profile_machine.specs.Frames.{open_handled, open_at, open_sequence, open_if_ready, is_protected, goes_on, onward_of}
use Rattle.world_laws.proofs.Actions.FineMoves.{FineMoves, chains, says-keeps}
use Rattle.world_laws.proofs.Actions.Natures.{nature, plain}
use Rattle.world_laws.proofs.Actions.Kept.Combinators.{changes_then-from}
use Rattle.world_laws.proofs.Actions.Kept.Tasks.{edit_frames-alters}
use Rattle.world_laws.proofs.Actions.GoodMoves.{first-natures}
use Rattle.std.proofs.Common.{◌≡◌, refl}
use Rattle.machine_laws.proofs.FineMoves.{GoodWorld, Naming, Anybody}
use Rattle.machine_laws.proofs.Kept.Combinators.{Alters, From, Keeps, branch-keeps, changes-keeps, looks-keeps, nothing-keeps, then-keeps, when-keeps}
use Rattle.world_laws.proofs.Behind.{Behind}
use Rattle.profile_machine.specs.Calls.{says_call}
use Rattle.profile_machine.specs.Appointments.{is_timeout_of}
use Rattle.profile_machine.specs.declared.world.lines.Line.TheVariants as said
use Rattle.trace_text.specs.declared.events.Created.TheVariants as created
use Rattle.machine_laws.proofs.Plain.PlainSteps.{PlainSteps}
use Rattle.machine_laws.proofs.Plain.Frames.{raises-keeps}

-- an edit of a mark on top

module _ {G : GoodWorld} {F : Naming} (moves : FineMoves G F) where
  pub edit_top-alters : (name : Who) (f : Frame → Frame) → ((x : Frame) → nature (f x).mark ≡ nature x.mark) → Alters G (Behind G) (edit_top name f)
  edit_top-alters name f same = edit_frames-alters moves name (edit_first f) (λ fs. first-natures f fs same)

  pub goes-keeps : (name : Who) (onward : Option StatementNo) → Keeps G (Behind G) (goes name onward)
  unfolding goes
  goes-keeps name onward = search (changes-keeps, edit_top-alters, chains)

  -- a mark that is no protected action ends
  pub popped : (name : Who) (f : Frame) (w : World) → G w → top_of w name ≡ Some f → is_protected f.mark ≡ false → G (pop name w)
  popped name f w good top free = moves.pops name f w good top free

  pub leaves-keeps : (name : Who) (leaving : Leaving) → Keeps G (Behind G) (leaves name leaving)
  unfolding leaves
  leaves-keeps name leaving = search (changes-keeps, edit_top-alters, chains)

  pub plain_steps : PlainSteps G Anybody (Behind G)
  unfolding says_call
  plain_steps = record {
    chains = chains moves;
    goes = λ name onward may. goes-keeps name onward;
    leaves = leaves-keeps;
    says_raise = λ part name e. says-keeps moves part (said.Raise name e);
    says_object = λ o d ceiling. says-keeps moves Own (said.New (created.Object o) (Some d) ceiling);
    says_call = λ part c. says-keeps moves part (said.Call c.caller c.number c.owner c.entry c.priority);
    says_cancel = λ part t c. says-keeps moves part (said.Cancel t c);
    edits_task =
        λ name f w g same_who same_frames same_state same_master same_clock same_abnormal same_unit same_inherited.
        moves.edits_task name f w g same_who same_frames same_state same_master same_inherited;
    edits_cells = moves.edits_cells;
    edits_call = moves.edits_call;
    forgets_call = moves.forgets_call;
    edits_object = λ o f w g number actions ceiling. moves.edits_object o f w g number actions ceiling;
    drops_timeout = λ c w g. moves.drops_appointment (is_timeout_of c) w g;
    adds_object = moves.adds_object;
    draws_event = moves.draws_event;
    adds_timer = moves.adds_timer;
    adds_budget = moves.adds_budget;
  }

  -- one that is no action is opened
  pub push-alters : (name : Who) (f : Frame) → nature f.mark ≡ plain → Alters G (Behind G) (push name f)
  unfolding Alters
  push-alters name f is w good = moves.pushes name f w good is

  open_handled-keeps : (p : Image) (part : Part) (name : Who) (s : StatementNo) (form : StatementForm) → Keeps G (Behind G) (open_handled p part name s form)
  unfolding open_handled
  open_handled-keeps p part name s (form.Handled handlers first) =
      looks-keeps (chains moves) _
      (λ v. branch-keeps (chains moves) (has_room v name 1 0) (goes name (next_of p s) ▷ changes (push name (new_frame (Handled s) (Some first))))
      (raises part name exception.Storage)
      (then-keeps (chains moves) (goes name (next_of p s)) _ (goes-keeps name (next_of p s))
      (changes-keeps (chains moves) _ (push-alters name (new_frame (Handled s) (Some first)) refl)))
      (raises-keeps plain_steps part name exception.Storage))
  open_handled-keeps p part name s _ = nothing-keeps (chains moves)

  open_at-keeps : (p : Image) (part : Part) (name : Who) (next : Option StatementNo) → Keeps G (Behind G) (open_at p part name next)
  unfolding open_at
  open_at-keeps p part name None = nothing-keeps (chains moves)
  open_at-keeps p part name (Some s) = open_handled-keeps p part name s (form_of p s)

  pub open_sequence-keeps : (p : Image) (part : Part) (name : Who) → Keeps G (Behind G) (open_sequence p part name)
  unfolding open_sequence
  open_sequence-keeps p part name = looks-keeps (chains moves) _ (λ w. open_at-keeps p part name (onward_of w name))

  pub open_if_ready-keeps : (p : Image) (name : Who) → Keeps G (Behind G) (open_if_ready p name)
  unfolding open_if_ready
  open_if_ready-keeps p name = search (looks-keeps, when-keeps, open_sequence-keeps, chains)

  -- ---- from one world

  -- a step behind the going on
  pub goes_then-from : (name : Who) (onward : Option StatementNo) (g : Step) (w : World) → G w
      → (G (edit_top name (goes_on onward) w) → From (Behind G) (edit_top name (goes_on onward) w) g) → From (Behind G) w (goes name onward ▷ g)
  unfolding goes Alters
  goes_then-from name onward g w good k =
      let gone = edit_top-alters name (goes_on onward) (λ x. refl) w good in
      changes_then-from moves (edit_top name (goes_on onward)) g w (k gone)
