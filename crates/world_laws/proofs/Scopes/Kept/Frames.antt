-- Opening constructs, leaving them, and going on: each step keeps a relation that its parts keep.
use Rattle.std.specs.Prelude.{true, false, Option, Some, None}
use Rattle.ann_base.specs.declared.exceptions.Raised.TheVariants as exception
use Rattle.trace_text.specs.declared.events.Who.{Who}
use Rattle.profile_image.specs.declared.image.Image.{Image}
use Rattle.profile_image.specs.declared.numbers.StatementNo.{StatementNo}
use Rattle.profile_machine.specs.declared.run_data.Leaving.{Leaving}
use Rattle.profile_image.specs.declared.statements.StatementForm.{StatementForm}
use Rattle.profile_image.specs.declared.statements.StatementForm.TheVariants as form
use Rattle.profile_machine.specs.declared.world.World.{World}
use Rattle.profile_machine.specs.declared.world.marks.Frame.{Frame}
use Rattle.profile_machine.specs.declared.world.marks.Mark.TheVariants.{Handled}
use Rattle.profile_image.specs.Program.{form_of, next_of}
use Rattle.profile_machine.specs.declared.world.lines.Part.{Part}
use Rattle.profile_machine.specs.declared.world.lines.Part.TheVariants.{Own}
use Rattle.profile_machine.specs.Steps.{Step, changes, ◌▷◌}
use Rattle.profile_machine.specs.Frames.{top_of, new_frame, edit_first, edit_top, goes, push, pop, leaves, raises, has_room}
use Rattle.profile_machine.specs.Frames.{open_handled, open_at, open_sequence, open_if_ready, is_protected, goes_on}
use Rattle.machine_laws.proofs.Moves.{StepRelation, MoveRelation}
use Rattle.world_laws.proofs.Scopes.FineMoves.{FineMoves, Openings, nature, natures, chains, says-keeps}
use Rattle.world_laws.proofs.Scopes.Kept.Tasks.{edit_frames-alters}
use Rattle.std.proofs.Common.{◌≡◌, List, [], ◌∷◌, option_and_then, refl, ap, sym, append-nil}
use Rattle.profile_machine.specs.Scopes.{id_in}
use Rattle.machine_laws.proofs.FineMoves.{GoodWorld, Naming, Anybody}
use Rattle.machine_laws.proofs.Kept.Combinators.{Alters, From, Keeps, Kept, changes-keeps, changes_then-from, either-from}
use Rattle.machine_laws.proofs.Kept.Combinators.{keeps-from, looks-from, looks-keeps, looks_at-from, nothing-keeps, when-keeps}
use Rattle.profile_machine.specs.Calls.{says_call}
use Rattle.profile_machine.specs.Appointments.{is_timeout_of}
use Rattle.profile_machine.specs.declared.world.lines.Line.TheVariants as said
use Rattle.trace_text.specs.declared.events.Created.TheVariants as created
use Rattle.machine_laws.proofs.Plain.PlainSteps.{PlainSteps}
use Rattle.machine_laws.proofs.Plain.Frames.{raises-keeps}

-- an edit of a mark on top
pub first-natures : (f : Frame → Frame) (fs : List Frame) → ((x : Frame) → nature (f x).mark ≡ nature x.mark) → natures (edit_first f fs) ≡ natures fs
first-natures f [] same = refl
first-natures f (x ∷ xs) same = ap (λ n. n ∷ natures xs) (same x)

module _ {G : GoodWorld} {May Other : Naming} {R : StepRelation} {Q : MoveRelation} (moves : FineMoves G May Other R Q) where
  pub edit_top-alters : (name : Who) (f : Frame → Frame) → ((x : Frame) → nature (f x).mark ≡ nature x.mark) → Alters G R (edit_top name f)
  edit_top-alters name f same = edit_frames-alters moves name (edit_first f) (λ fs. first-natures f fs same)

  pub goes-keeps : (name : Who) (onward : Option StatementNo) → Keeps G R (goes name onward)
  unfolding goes
  goes-keeps name onward = search (changes-keeps, edit_top-alters, chains)

  -- a mark without a scope, that is no protected action, ends
  pub popped : (name : Who) (f : Frame) (w : World) → G w → May name → top_of w name ≡ Some f → is_protected f.mark ≡ false → id_in f.mark ≡ None
      → R w [] (pop name w)
  popped name f w good may top free none = moves.pops name f w good may top free none

  pub leaves-keeps : (name : Who) (leaving : Leaving) → Keeps G R (leaves name leaving)
  unfolding leaves
  leaves-keeps name leaving = search (changes-keeps, edit_top-alters, chains)

  pub plain_steps : PlainSteps G Anybody R
  unfolding says_call
  plain_steps = record {
    chains = chains moves;
    goes = λ name onward may. goes-keeps name onward;
    leaves = leaves-keeps;
    says_raise = λ part name e. says-keeps moves part (said.Raise name e);
    says_object = λ o d ceiling. says-keeps moves Own (said.New (created.Object o) (Some d) ceiling);
    says_call = λ part c. says-keeps moves part (said.Call c.caller c.number c.owner c.entry c.priority);
    says_cancel = λ part t c. says-keeps moves part (said.Cancel t c);
    edits_task =
        λ name f w g same_who same_frames same_state same_master same_clock same_abnormal same_unit same_inherited.
        moves.edits_task name f w g same_who same_frames same_state same_master;
    edits_cells = moves.edits_cells;
    edits_call = λ c f w g number caller. moves.edits_call c f w g number;
    forgets_call = moves.forgets_call;
    edits_object = λ o f w g number actions ceiling. moves.edits_object o f w g number actions;
    drops_timeout = λ c w g. moves.drops_appointment (is_timeout_of c) w g;
    adds_object = moves.adds_object;
    draws_event = moves.draws_event;
    adds_timer = moves.adds_timer;
    adds_budget = moves.adds_budget;
  }

  -- who goes on opens a mark above the one on top
  goes_push-from : (name : Who) (onward : Option StatementNo) (f g : Frame) (w : World) → R w [] (push name f (edit_top name (goes_on onward) w))
      → From R w (goes name onward ▷ changes (push name f))
  unfolding goes From Kept
  goes_push-from name onward f g w a said = ([], sym (append-nil said), a)

  open_handled-from : (p : Image) (part : Part) (name : Who) (s : StatementNo) (form : StatementForm) (g : Frame) (w : World) → G w → May name
      → top_of w name ≡ Some g → From R w (open_handled p part name s form)
  unfolding open_handled
  open_handled-from p part name s (form.Handled handlers first) g w good may top =
      looks_at-from (chains moves)
      (λ v. elim (has_room v name 1 0) as (λ _. Step) [
        | true ↦ goes name (next_of p s) ▷ changes (push name (new_frame (Handled s) (Some first)))
        | false ↦ raises part name exception.Storage
      ]) w
      (either-from (chains moves) (has_room w name 1 0) (goes name (next_of p s) ▷ changes (push name (new_frame (Handled s) (Some first))))
      (raises part name exception.Storage) w
      (goes_push-from name (next_of p s) (new_frame (Handled s) (Some first)) g w
      (moves.pushes_on name (next_of p s) (new_frame (Handled s) (Some first)) g w good may top refl))
      (keeps-from (chains moves) (raises part name exception.Storage) w good (raises-keeps plain_steps part name exception.Storage)))
  open_handled-from p part name s _ g w good may top = keeps-from (chains moves) _ w good (nothing-keeps (chains moves))

  nothing_opens : (p : Image) (part : Part) (name : Who) (w : World) → G w → From R w (open_at p part name None)
  unfolding open_at
  nothing_opens p part name w good = keeps-from (chains moves) _ w good (nothing-keeps (chains moves))

  open_at-from : (p : Image) (part : Part) (name : Who) (next : Option StatementNo) (g : Frame) (w : World) → G w → May name → top_of w name ≡ Some g
      → From R w (open_at p part name next)
  unfolding open_at
  open_at-from p part name None g w good may top = nothing_opens p part name w good
  open_at-from p part name (Some s) g w good may top = open_handled-from p part name s (form_of p s) g w good may top

  open_found-from : (p : Image) (part : Part) (name : Who) (w : World) (top : Option Frame) → G w → May name → top_of w name ≡ top
      → From R w (open_at p part name (option_and_then (λ f. f.onward) top))
  open_found-from p part name w None good may is = nothing_opens p part name w good
  open_found-from p part name w (Some g) good may is = open_at-from p part name g.onward g w good may is

  pub open_sequence-keeps : (p : Image) (part : Part) (name : Who) → May name → Keeps G R (open_sequence p part name)
  unfolding open_sequence
  open_sequence-keeps p part name may = looks-from (chains moves) _ (λ w good. open_found-from p part name w (top_of w name) good may refl)

  pub open_if_ready-keeps : (p : Image) (name : Who) → May name → Keeps G R (open_if_ready p name)
  unfolding open_if_ready
  open_if_ready-keeps p name may = search (looks-keeps, when-keeps, open_sequence-keeps, chains)

  -- ---- from one world

  -- a step behind the going on
  pub goes_then-from : (name : Who) (onward : Option StatementNo) (g : Step) (w : World) → G w
      → (G (edit_top name (goes_on onward) w) → From R (edit_top name (goes_on onward) w) g) → From R w (goes name onward ▷ g)
  unfolding goes Alters
  goes_then-from name onward g w good k =
      let gone = edit_top-alters name (goes_on onward) (λ x. refl) w good in
      changes_then-from (chains moves) (edit_top name (goes_on onward)) g w gone (k (moves.behind w (edit_top name (goes_on onward) w) gone))

  -- ---- who acts opens a mark

  module _ {Acts : Naming} (openings : Openings G Acts R) where
    pub push-alters : (name : Who) (f : Frame) → (nature f.mark).id ≡ None → Alters G R (push name f)
    unfolding Alters
    push-alters name f none w good = openings.pushes name f w good none
