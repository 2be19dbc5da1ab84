-- Opening constructs, leaving them, and going on: each step keeps a relation that its parts keep.
use Rattle.std.specs.Prelude.{true, false, Option, Some, None}
use Rattle.ann_base.specs.declared.exceptions.Raised.TheVariants as exception
use Rattle.trace_text.specs.declared.events.Who.{Who}
use Rattle.profile_image.specs.declared.image.Image.{Image}
use Rattle.profile_image.specs.declared.numbers.StatementNo.{StatementNo}
use Rattle.profile_machine.specs.declared.run_data.Leaving.{Leaving}
use Rattle.profile_machine.specs.declared.run_data.Leaving.TheVariants as how
use Rattle.profile_image.specs.declared.statements.StatementForm.{StatementForm}
use Rattle.profile_image.specs.declared.statements.StatementForm.TheVariants as form
use Rattle.profile_machine.specs.declared.world.World.{World}
use Rattle.profile_machine.specs.declared.world.marks.Frame.{Frame}
use Rattle.profile_machine.specs.declared.world.marks.Mark.TheVariants.{Handled}
use Rattle.profile_image.specs.Program.{form_of, next_of}
use Rattle.profile_machine.specs.declared.world.lines.Part.{Part}
use Rattle.profile_machine.specs.declared.world.lines.Part.TheVariants.{Own}
use Rattle.profile_machine.specs.Steps.{Step, changes, nothing, ◌▷◌}
use Rattle.profile_machine.specs.Frames.{top_of, new_frame, edit_first, edit_top, goes, push, leaves, raises, has_room, open_handled}
use Rattle.profile_machine.specs.Frames.{open_at, open_sequence, open_if_ready, stands_in, exit_loop, pass_on, goes_on}
use Rattle.machine_laws.proofs.Moves.{StepRelation, MoveRelation}
use Rattle.line_laws.proofs.Leaving.FineMoves.{FineMoves, nature, Alike, Free, own_call_of, chains, says-keeps}
use Rattle.ann_base.specs.declared.identities.CallNo.{CallNo}
use Rattle.line_laws.proofs.Leaving.Kept.Combinators.{free_then-from}
use Rattle.line_laws.proofs.Leaving.Kept.Tasks.{edit_frames-alters}
use Rattle.std.proofs.Common.{◌≡◌, List, [], ◌∷◌, option_and_then, is_some, refl, sym, ap, ◌∙◌}
use Rattle.profile_machine.specs.Masters.{region_of_mark}
use Rattle.machine_laws.proofs.FineMoves.{GoodWorld, Naming}
use Rattle.machine_laws.proofs.FinestMoves.{being_left_in}
use Rattle.machine_laws.proofs.Kept.Combinators.{Alters, From, Keeps, changes-from, changes-keeps, changes_then-from, either-from}
use Rattle.machine_laws.proofs.Kept.Combinators.{keeps-from, looks-from, looks-keeps, looks_at-from, nothing-keeps, when-keeps}
use Rattle.profile_machine.specs.Calls.{says_call}
use Rattle.profile_machine.specs.Appointments.{is_timeout_of}
use Rattle.profile_machine.specs.declared.world.lines.Line.TheVariants as said
use Rattle.trace_text.specs.declared.events.Created.TheVariants as created
use Rattle.machine_laws.proofs.Plain.PlainSteps.{PlainSteps}
use Rattle.machine_laws.proofs.Plain.Frames.{raises-keeps}

-- an edit of a mark on top
pub alike : (fs : List Frame) → Alike fs fs
alike [] = tt
alike (f ∷ fs) = (refl, (λ e. e), alike fs)

pub first-alike : (f : Frame → Frame) (fs : List Frame) → ((x : Frame) → nature (f x).mark ≡ nature x.mark)
    → ((x : Frame) → is_some x.onward ≡ false → is_some (f x).onward ≡ false) → Alike (edit_first f fs) fs
first-alike f [] same onward = tt
first-alike f (x ∷ xs) same onward = (same x, onward x, alike xs)

pub no_call : {P : Type 0} (c : CallNo) (own : Option CallNo) → own ≡ None → own ≡ Some c → P
no_call c own a b = absurd (let one : None ≡ Some c = sym a ∙ b in cc)

module _ {G : GoodWorld} {May Acts Pushes : Naming} {Stops : Type 0} {R : StepRelation} {Q : MoveRelation} (moves : FineMoves G May Acts Pushes Stops R Q) where
  -- an edit that leaves alone how it goes on, and one with which it does not go on
  pub edit_top-alters : (name : Who) (f : Frame → Frame) → ((x : Frame) → nature (f x).mark ≡ nature x.mark) → ((x : Frame) → (f x).onward ≡ x.onward)
      → Alters G R (edit_top name f)
  edit_top-alters name f same onward = edit_frames-alters moves name (edit_first f) (λ fs. first-alike f fs same (λ x e. ap is_some (onward x) ∙ e))

  pub edit_top_off-alters : (name : Who) (f : Frame → Frame) → ((x : Frame) → nature (f x).mark ≡ nature x.mark) → ((x : Frame) → (f x).onward ≡ None)
      → Alters G R (edit_top name f)
  edit_top_off-alters name f same none = edit_frames-alters moves name (edit_first f) (λ fs. first-alike f fs same (λ x e. ap is_some (none x)))

  pub goes-keeps : (name : Who) (onward : Option StatementNo) → May name → Keeps G R (goes name onward)
  unfolding goes Alters
  goes-keeps name onward may =
      changes-keeps (chains moves) (edit_top name (goes_on onward)) (λ w good. moves.goes name onward w good (moves.may_free name w good may))

  -- who is free goes on
  pub goes-from : (name : Who) (onward : Option StatementNo) (w : World) → G w → Free name w → From R w (goes name onward)
  unfolding goes
  goes-from name onward w good free = changes-from (chains moves) (edit_top name (goes_on onward)) w (moves.goes name onward w good free)

  pub leaves-keeps : (name : Who) (leaving : Leaving) → Keeps G R (leaves name leaving)
  unfolding leaves
  leaves-keeps name leaving = search (changes-keeps, edit_top_off-alters, chains)

  pub plain_steps : PlainSteps G May R
  unfolding says_call
  plain_steps = record {
    chains = chains moves;
    goes = goes-keeps;
    leaves = leaves-keeps;
    says_raise = λ part name e. says-keeps moves part (said.Raise name e) refl;
    says_object = λ o d ceiling. says-keeps moves Own (said.New (created.Object o) (Some d) ceiling) refl;
    says_call = λ part c. says-keeps moves part (said.Call c.caller c.number c.owner c.entry c.priority) refl;
    says_cancel = λ part t c. says-keeps moves part (said.Cancel t c) refl;
    edits_task =
        λ name f w g same_who same_frames same_state same_master same_clock same_abnormal same_unit same_inherited.
        moves.edits_task name f w g same_who same_frames same_state;
    edits_cells = moves.edits_cells;
    edits_call = moves.edits_call;
    forgets_call = moves.forgets_call;
    edits_object = λ o f w g number actions ceiling. moves.edits_object o f w g number actions;
    drops_timeout = λ c w g. moves.drops_appointment (is_timeout_of c) w g;
    adds_object = moves.adds_object;
    draws_event = moves.draws_event;
    adds_timer = moves.adds_timer;
    adds_budget = moves.adds_budget;
  }

  -- who is free goes on, and opens a mark
  goes_push-from : (name : Who) (onward : Option StatementNo) (f : Frame) (w : World) → G w → Pushes name → Free name w → region_of_mark f.mark ≡ None
      → being_left_in f.mark ≡ false → own_call_of f.mark ≡ None → From R w (goes name onward ▷ changes (push name f))
  goes_push-from name onward f w good pushes free none not_left none_called =
      free_then-from moves name (goes name onward) (changes (push name f)) w free (goes-from name onward w good free)
      (λ v good_v free_v. changes-from (chains moves) (push name f) v
      (moves.pushes name f v good_v pushes free_v none not_left (λ c e. no_call c (own_call_of f.mark) none_called e)))

  open_handled-from : (p : Image) (part : Part) (name : Who) (s : StatementNo) (form : StatementForm) (w : World) → G w → Pushes name → Free name w
      → From R w (open_handled p part name s form)
  unfolding open_handled
  open_handled-from p part name s (form.Handled handlers first) w good pushes free =
      looks_at-from (chains moves)
      (λ v. elim (has_room v name 1 0) as (λ _. Step) [
        | true ↦ goes name (next_of p s) ▷ changes (push name (new_frame (Handled s) (Some first)))
        | false ↦ raises part name exception.Storage
      ]) w
      (either-from (chains moves) (has_room w name 1 0) (goes name (next_of p s) ▷ changes (push name (new_frame (Handled s) (Some first))))
      (raises part name exception.Storage) w
      (goes_push-from name (next_of p s) (new_frame (Handled s) (Some first)) w good pushes free refl refl refl)
      (keeps-from (chains moves) (raises part name exception.Storage) w good (raises-keeps plain_steps part name exception.Storage)))
  open_handled-from p part name s _ w good pushes free = keeps-from (chains moves) _ w good (nothing-keeps (chains moves))

  nothing_opens : (p : Image) (part : Part) (name : Who) (w : World) → G w → From R w (open_at p part name None)
  unfolding open_at
  nothing_opens p part name w good = keeps-from (chains moves) _ w good (nothing-keeps (chains moves))

  open_at-from : (p : Image) (part : Part) (name : Who) (next : Option StatementNo) (g : Frame) (w : World) → G w → Pushes name → top_of w name ≡ Some g
      → g.onward ≡ next → From R w (open_at p part name next)
  unfolding open_at
  open_at-from p part name None g w good pushes top is = nothing_opens p part name w good
  open_at-from p part name (Some s) g w good pushes top is =
      open_handled-from p part name s (form_of p s) w good pushes (moves.onward_free name g s w good top is)

  open_found-from : (p : Image) (part : Part) (name : Who) (w : World) (top : Option Frame) → G w → Pushes name → top_of w name ≡ top
      → From R w (open_at p part name (option_and_then (λ f. f.onward) top))
  open_found-from p part name w None good pushes is = nothing_opens p part name w good
  open_found-from p part name w (Some g) good pushes is = open_at-from p part name g.onward g w good pushes is refl

  pub open_sequence-keeps : (p : Image) (part : Part) (name : Who) → Pushes name → Keeps G R (open_sequence p part name)
  unfolding open_sequence
  open_sequence-keeps p part name pushes = looks-from (chains moves) _ (λ w good. open_found-from p part name w (top_of w name) good pushes refl)

  pub open_if_ready-keeps : (p : Image) (name : Who) → Pushes name → Keeps G R (open_if_ready p name)
  unfolding open_if_ready
  open_if_ready-keeps p name pushes = search (looks-keeps, when-keeps, open_sequence-keeps, chains)

  exit_loop-from : (p : Image) (name : Who) (loop : StatementNo) (w : World) → G w → Free name w → From R w (exit_loop p name loop)
  unfolding exit_loop
  exit_loop-from p name loop w good free =
      looks_at-from (chains moves)
      (λ v. elim (stands_in p loop (top_of v name)) as (λ _. Step) [ true ↦ goes name (next_of p loop) | false ↦ leaves name (how.Exit loop) ]) w
      (either-from (chains moves) (stands_in p loop (top_of w name)) (goes name (next_of p loop)) (leaves name (how.Exit loop)) w
      (goes-from name (next_of p loop) w good free) (keeps-from (chains moves) (leaves name (how.Exit loop)) w good (leaves-keeps name (how.Exit loop))))

  -- of who is free
  pub pass_on-from : (p : Image) (name : Who) (leaving : Leaving) (w : World) → G w → Free name w → From R w (pass_on p name leaving)
  unfolding pass_on
  pass_on-from p name how.End w good free = keeps-from (chains moves) nothing w good (nothing-keeps (chains moves))
  pass_on-from p name how.Return w good free = keeps-from (chains moves) _ w good (leaves-keeps name how.Return)
  pass_on-from p name (how.Exit loop) w good free = exit_loop-from p name loop w good free
  pass_on-from p name (how.Exception e) w good free = keeps-from (chains moves) _ w good (leaves-keeps name (how.Exception e))
  pass_on-from p name how.Abort w good free = keeps-from (chains moves) _ w good (leaves-keeps name how.Abort)
  pass_on-from p name how.Terminate w good free = keeps-from (chains moves) _ w good (leaves-keeps name how.Terminate)

  -- ---- from one world

  -- a step behind the going on
  pub goes_then-from : (name : Who) (onward : Option StatementNo) (g : Step) (w : World) → G w → May name
      → (G (edit_top name (goes_on onward) w) → From R (edit_top name (goes_on onward) w) g) → From R w (goes name onward ▷ g)
  unfolding goes
  goes_then-from name onward g w good may k =
      let gone = moves.goes name onward w good (moves.may_free name w good may) in
      changes_then-from (chains moves) (edit_top name (goes_on onward)) g w gone (k (moves.behind w (edit_top name (goes_on onward) w) gone))

  -- ---- who may go on opens a mark

  pub push-alters : (name : Who) (f : Frame) → May name → region_of_mark f.mark ≡ None → being_left_in f.mark ≡ false → own_call_of f.mark ≡ None
      → Alters G R (push name f)
  unfolding Alters
  push-alters name f may none not_left none_called w good =
      moves.pushes name f w good (moves.may_pushes name may) (moves.may_free name w good may) none not_left
      (λ c e. no_call c (own_call_of f.mark) none_called e)
