-- Opening constructs, leaving them, and going on: each step keeps a relation that its parts keep.
use Rattle.std.proofs.Common.{◌∙◌, ◌≡◌, List, [], ◌∷◌, refl, sym, ap}
use Rattle.std.specs.Prelude.{Option, Some, None}
use Rattle.ann_base.specs.declared.exceptions.Raised.TheVariants as exception
use Rattle.trace_text.specs.declared.events.Who.{Who}
use Rattle.profile_image.specs.declared.image.Image.{Image}
use Rattle.profile_image.specs.declared.numbers.StatementNo.{StatementNo}
use Rattle.profile_machine.specs.declared.run_data.Leaving.{Leaving}
use Rattle.profile_image.specs.declared.statements.StatementForm.{StatementForm}
use Rattle.profile_image.specs.declared.statements.StatementForm.TheVariants as form
use Rattle.profile_machine.specs.declared.world.World.{World}
use Rattle.profile_machine.specs.declared.world.lines.Part.{Part}
use Rattle.profile_machine.specs.declared.world.lines.Part.TheVariants.{Own}
use Rattle.profile_machine.specs.declared.world.marks.Frame.{Frame}
use Rattle.profile_machine.specs.declared.world.marks.Mark.TheVariants.{Handled}
use Rattle.profile_machine.specs.Frames.{onward_of, new_frame, edit_first, edit_top, goes, push, pop, leaves, raises}
use Rattle.profile_machine.specs.Frames.{has_room, open_handled, open_at, open_sequence, open_if_ready, goes_on}
use Rattle.profile_image.specs.Program.{form_of, next_of}
use Rattle.profile_machine.specs.Steps.{Step, changes, ◌▷◌}
use Rattle.machine_laws.proofs.Moves.{StepRelation, MoveRelation}
use Rattle.world_laws.proofs.Appointments.Delays.{nature, natures}
use Rattle.world_laws.proofs.Appointments.FineMoves.{FineMoves, chains, says-keeps}
use Rattle.world_laws.proofs.Appointments.Kept.Tasks.{edit_frames-alters}
use Rattle.machine_laws.proofs.FineMoves.{GoodWorld, Naming, Anybody}
use Rattle.machine_laws.proofs.Kept.Combinators.{Alters, From, Keeps, branch-keeps, changes-keeps, changes_then-from}
use Rattle.machine_laws.proofs.Kept.Combinators.{looks-keeps, nothing-keeps, then-keeps, when-keeps}
use Rattle.profile_machine.specs.Calls.{says_call}
use Rattle.profile_machine.specs.Appointments.{is_timeout_of}
use Rattle.profile_machine.specs.declared.world.lines.Line.TheVariants as said
use Rattle.trace_text.specs.declared.events.Created.TheVariants as created
use Rattle.machine_laws.proofs.Plain.PlainSteps.{PlainSteps}
use Rattle.machine_laws.proofs.Plain.Frames.{raises-keeps}

-- an edit of a mark on top
first-natures : (f : Frame → Frame) (fs : List Frame) → ((x : Frame) → nature (f x).mark ≡ nature x.mark) → natures (edit_first f fs) ≡ natures fs
first-natures f [] same = refl
first-natures f (x ∷ xs) same = ap (λ n. n ∷ natures xs) (same x)

module _ {G : GoodWorld} {May : Naming} {R : StepRelation} {Q : MoveRelation} (moves : FineMoves G May R Q) where
  pub edit_top-alters : (name : Who) (f : Frame → Frame) → ((x : Frame) → nature (f x).mark ≡ nature x.mark) → Alters G R (edit_top name f)
  edit_top-alters name f same = edit_frames-alters moves name (edit_first f) (λ fs. first-natures f fs same)

  pub goes-keeps : (name : Who) (onward : Option StatementNo) → Keeps G R (goes name onward)
  unfolding goes
  goes-keeps name onward = search (changes-keeps, edit_top-alters, chains)

  -- a mark ends, and one without a call of its own is opened
  pub pop-alters : (name : Who) → Alters G R (pop name)
  unfolding Alters
  pop-alters name w good = moves.pops name w good

  pub push-alters : (name : Who) (f : Frame) → nature f.mark ≡ None → Alters G R (push name f)
  unfolding Alters
  push-alters name f plain w good = moves.pushes name f w good (λ c e. absurd (let never : None ≡ Some c = sym plain ∙ e in cc))

  pub leaves-keeps : (name : Who) (leaving : Leaving) → Keeps G R (leaves name leaving)
  unfolding leaves
  leaves-keeps name leaving = search (changes-keeps, edit_top-alters, chains)

  pub plain_steps : PlainSteps G Anybody R
  unfolding says_call
  plain_steps = record {
    chains = chains moves;
    goes = λ name onward may. goes-keeps name onward;
    leaves = leaves-keeps;
    says_raise = λ part name e. says-keeps moves part (said.Raise name e) refl;
    says_object = λ o d ceiling. says-keeps moves Own (said.New (created.Object o) (Some d) ceiling) refl;
    says_call = λ part c. says-keeps moves part (said.Call c.caller c.number c.owner c.entry c.priority) refl;
    says_cancel = λ part t c. says-keeps moves part (said.Cancel t c) refl;
    edits_task =
        λ name f w g same_who same_frames same_state same_master same_clock same_abnormal same_unit same_inherited.
        moves.edits_task name f w g same_who same_frames same_state;
    edits_cells = moves.edits_cells;
    edits_call = moves.edits_call;
    forgets_call = moves.forgets_call;
    edits_object = λ o f w g number actions ceiling. moves.edits_object o f w g number actions;
    drops_timeout = λ c w g. moves.drops_appointment (is_timeout_of c) w g;
    adds_object = moves.adds_object;
    draws_event = moves.draws_event;
    adds_timer = moves.adds_timer;
    adds_budget = moves.adds_budget;
  }

  pub open_handled-keeps : (p : Image) (part : Part) (name : Who) (s : StatementNo) (form : StatementForm) → Keeps G R (open_handled p part name s form)
  unfolding open_handled
  open_handled-keeps p part name s (form.Handled handlers first) =
      looks-keeps (chains moves) _
      (λ w. branch-keeps (chains moves) (has_room w name 1 0) (goes name (next_of p s) ▷ changes (push name (new_frame (Handled s) (Some first))))
      (raises part name exception.Storage)
      (then-keeps (chains moves) _ _ (goes-keeps name (next_of p s))
      (changes-keeps (chains moves) _ (push-alters name (new_frame (Handled s) (Some first)) refl)))
      (raises-keeps plain_steps part name exception.Storage))
  open_handled-keeps p part name s _ = nothing-keeps (chains moves)

  pub open_at-keeps : (p : Image) (part : Part) (name : Who) (next : Option StatementNo) → Keeps G R (open_at p part name next)
  unfolding open_at
  open_at-keeps p part name None = nothing-keeps (chains moves)
  open_at-keeps p part name (Some s) = open_handled-keeps p part name s (form_of p s)

  pub open_sequence-keeps : (p : Image) (part : Part) (name : Who) → Keeps G R (open_sequence p part name)
  unfolding open_sequence
  open_sequence-keeps p part name = looks-keeps (chains moves) _ (λ w. open_at-keeps p part name (onward_of w name))

  pub open_if_ready-keeps : (p : Image) (name : Who) → Keeps G R (open_if_ready p name)
  unfolding open_if_ready
  open_if_ready-keeps p name = search (looks-keeps, when-keeps, open_sequence-keeps, chains)

  -- ---- from one world

  -- a step behind the going on
  pub goes_then-from : (name : Who) (onward : Option StatementNo) (g : Step) (w : World) → G w
      → (G (edit_top name (goes_on onward) w) → From R (edit_top name (goes_on onward) w) g) → From R w (goes name onward ▷ g)
  unfolding goes Alters
  goes_then-from name onward g w good k =
      let gone = edit_top-alters name (goes_on onward) (λ x. refl) w good in
      changes_then-from (chains moves) (edit_top name (goes_on onward)) g w gone (k (moves.behind w (edit_top name (goes_on onward) w) gone))
