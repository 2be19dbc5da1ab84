-- Opening constructs, leaving them, and going on: each step keeps a relation that its parts keep.
use Rattle.profile_machine.specs.declared.world.marks.Mark.{Mark}
use Rattle.std.specs.Prelude.{false, Option, Some, None}
use Rattle.trace_text.specs.declared.events.Who.{Who}
use Rattle.profile_image.specs.declared.image.Image.{Image}
use Rattle.profile_image.specs.declared.numbers.StatementNo.{StatementNo}
use Rattle.profile_machine.specs.declared.run_data.Leaving.{Leaving}
use Rattle.profile_machine.specs.declared.world.World.{World}
use Rattle.profile_machine.specs.declared.world.marks.Frame.{Frame}
use Rattle.profile_machine.specs.declared.world.lines.Part.TheVariants.{Own}
use Rattle.profile_machine.specs.Steps.{Step, ◌▷◌}
use Rattle.profile_machine.specs.Frames.{top_of, edit_first, edit_top, goes, push, pop, leaves, is_protected, goes_on, with_mark, left_so}
use Rattle.machine_laws.proofs.FineMoves.{GoodWorld, Naming, nature, natures}
use Rattle.world_laws.proofs.Sequences.FineMoves.{FineMoves, Openings, StaysOn, onward_in, chains, says-keeps}
use Rattle.world_laws.proofs.Behind.{Behind}
use Rattle.world_laws.proofs.Sequences.Kept.Tasks.{edit_frames-alters}
use Rattle.std.proofs.Common.{◌≡◌, List, [], ◌∷◌, refl, ap, inl, inr}
use Rattle.machine_laws.proofs.Kept.Combinators.{Alters, From, Keeps, changes-keeps, changes_then-from}
use Rattle.profile_machine.specs.Calls.{says_call}
use Rattle.profile_machine.specs.Appointments.{is_timeout_of}
use Rattle.profile_machine.specs.declared.world.lines.Line.TheVariants as said
use Rattle.trace_text.specs.declared.events.Created.TheVariants as created
use Rattle.machine_laws.proofs.Plain.PlainSteps.{PlainSteps}

-- an edit of a mark on top
first-natures : (f : Frame → Frame) (fs : List Frame) → ((x : Frame) → nature (f x).mark ≡ nature x.mark) → natures (edit_first f fs) ≡ natures fs
first-natures f [] same = refl
first-natures f (x ∷ xs) same = ap (λ n. n ∷ natures xs) (same x)

first-stays : (f : Frame → Frame) (fs : List Frame) → ((x : Frame) → StaysOn (f x).onward x.onward) → StaysOn (onward_in (edit_first f fs)) (onward_in fs)
first-stays f [] stays = inl refl
first-stays f (x ∷ xs) stays = stays x

module _ {p : Image} {G : GoodWorld} {May Other : Naming} (moves : FineMoves p G May Other) where
  pub edit_top-alters : (name : Who) (f : Frame → Frame) → ((x : Frame) → nature (f x).mark ≡ nature x.mark) → ((x : Frame) → StaysOn (f x).onward x.onward)
      → Alters G (Behind G) (edit_top name f)
  edit_top-alters name f same stays = edit_frames-alters moves name (edit_first f) (λ fs. first-natures f fs same) (λ fs. first-stays f fs stays)

  pub edit_mark-alters : (name : Who) (f : Mark → Mark) → ((mark : Mark) → nature (f mark) ≡ nature mark)
      → Alters G (Behind G) (edit_top name (λ x. with_mark (f x.mark) x))
  edit_mark-alters name f same = edit_top-alters name (λ x. with_mark (f x.mark) x) (λ x. same x.mark) (λ x. inl refl)

  goes_on-alters : (name : Who) (onward : Option StatementNo) → May name → Alters G (Behind G) (edit_top name (goes_on onward))
  unfolding Alters
  goes_on-alters name onward may w good = moves.goes name onward w good may

  pub goes-keeps : (name : Who) (onward : Option StatementNo) → May name → Keeps G (Behind G) (goes name onward)
  unfolding goes
  goes-keeps name onward may = changes-keeps (chains moves) (edit_top name (goes_on onward)) (goes_on-alters name onward may)

  -- a mark that is no protected action ends
  pub popped : (name : Who) (f : Frame) (w : World) → G w → May name → top_of w name ≡ Some f → is_protected f.mark ≡ false → Behind G w [] (pop name w)
  popped name f w good may top free = moves.pops name f w good may top free

  pub leaves-keeps : (name : Who) (leaving : Leaving) → Keeps G (Behind G) (leaves name leaving)
  unfolding leaves
  leaves-keeps name leaving =
      changes-keeps (chains moves) (edit_top name (left_so leaving)) (edit_top-alters name (left_so leaving) (λ x. refl) (λ x. inr refl))

  pub plain_steps : PlainSteps G May (Behind G)
  unfolding says_call
  plain_steps = record {
    chains = chains moves;
    goes = goes-keeps;
    leaves = leaves-keeps;
    says_raise = λ part name e. says-keeps moves part (said.Raise name e) refl;
    says_object = λ o d ceiling. says-keeps moves Own (said.New (created.Object o) (Some d) ceiling) refl;
    says_call = λ part c. says-keeps moves part (said.Call c.caller c.number c.owner c.entry c.priority) refl;
    says_cancel = λ part t c. says-keeps moves part (said.Cancel t c) refl;
    edits_task =
        λ name f w g same_who same_frames same_state same_master same_clock same_abnormal same_unit same_inherited.
        moves.edits_task name f w g same_who same_frames same_state same_unit;
    edits_cells = moves.edits_cells;
    edits_call = moves.edits_call;
    forgets_call = moves.forgets_call;
    edits_object = λ o f w g number actions ceiling. moves.edits_object o f w g number actions;
    drops_timeout = λ c w g. moves.drops_appointment (is_timeout_of c) w g;
    adds_object = moves.adds_object;
    draws_event = moves.draws_event;
    adds_timer = moves.adds_timer;
    adds_budget = moves.adds_budget;
  }

  -- ---- from one world

  -- a step behind the going on
  pub goes_then-from : (name : Who) (onward : Option StatementNo) (g : Step) (w : World) → G w
      → (G (edit_top name (goes_on onward) w) → From (Behind G) (edit_top name (goes_on onward) w) g) → May name → From (Behind G) w (goes name onward ▷ g)
  unfolding goes Alters
  goes_then-from name onward g w good k may =
      let gone = goes_on-alters name onward may w good in
      changes_then-from (chains moves) (edit_top name (goes_on onward)) g w gone (k (moves.behind w (edit_top name (goes_on onward) w) gone))

  -- ---- who acts opens a mark

  module _ (openings : Openings p G May Other) where
    pub push-alters : (name : Who) (f : Frame) → May name → (nature f.mark).region ≡ None → (nature f.mark).release ≡ None → (nature f.mark).abortable ≡ false
        → Alters G (Behind G) (push name f)
    unfolding Alters
    push-alters name f may region release abortable w good = openings.pushes name f w good may region release abortable
