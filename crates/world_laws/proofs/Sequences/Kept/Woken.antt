-- Who is woken goes on freely until it has opened the sequence to which it has come, or leaves its mark: the whole is kept.
use Rattle.std.proofs.Common.{◌≡◌, true, false, Option, Some, None, refl, ap, ◌∙◌, inr}
use Rattle.ann_base.specs.declared.exceptions.Raised.{Raised}
use Rattle.ann_base.specs.declared.exceptions.Raised.TheVariants as exception
use Rattle.trace_text.specs.declared.events.Who.{Who}
use Rattle.profile_image.specs.declared.image.Image.{Image}
use Rattle.profile_image.specs.declared.numbers.StatementNo.{StatementNo}
use Rattle.profile_machine.specs.declared.run_data.Leaving.{Leaving}
use Rattle.profile_machine.specs.declared.run_data.Leaving.TheVariants as how
use Rattle.profile_image.specs.declared.statements.StatementForm.{StatementForm}
use Rattle.profile_image.specs.declared.statements.StatementForm.TheVariants as form
use Rattle.profile_machine.specs.declared.world.World.{World}
use Rattle.profile_machine.specs.declared.world.lines.Line.TheVariants as line
use Rattle.profile_machine.specs.declared.world.lines.Part.{Part}
use Rattle.profile_machine.specs.declared.world.marks.Mark.TheVariants.{Handled}
use Rattle.profile_image.specs.Program.{form_of, next_of, opens_handled}
use Rattle.profile_machine.specs.Steps.{Step, says, changes, nothing, ◌▷◌}
use Rattle.profile_machine.specs.Frames.{edit_top, goes, push, new_frame, left_so, leaves, raises, has_room, open_handled, open_at, open_sequence, onward_of}
use Rattle.profile_machine.specs.WellFormed.{begins_sequence}
use Rattle.machine_laws.proofs.FineMoves.{GoodWorld, Naming}
use Rattle.world_laws.proofs.Sequences.FineMoves.{FineMoves, Loosening, Loosens, says-keeps}
use Rattle.world_laws.proofs.Behind.{Behind, Turns, then-turns, narrow-turns, changes-turns, nothing-turns, looks-turns, turns-from, branch-turns}
use Rattle.world_laws.proofs.Sequences.TaskEdits.{onward-pushed, onward-left}
use Rattle.world_laws.proofs.Sequences.Kept.Frames.{goes-keeps, edit_top-alters}
use Rattle.machine_laws.proofs.Kept.Combinators.{Alters, From, Keeps}

module _ {p : Image} {G : GoodWorld} {May Other : Naming} {name : Who} (l : Loosening p G May Other name) where
  -- it leaves its mark
  left_so-good : (leaving : Leaving) (w : World) → l.Loose w → l.Loose (edit_top name (left_so leaving) w)
  unfolding Alters
  left_so-good leaving w good = edit_top-alters l.moves name (left_so leaving) (λ x. refl) (λ x. inr refl) w good

  pub left_by-turns : (leaving : Leaving) → Turns l.Loose G (leaves name leaving)
  unfolding leaves
  left_by-turns leaving =
      changes-turns l.Loose G (edit_top name (left_so leaving))
      (λ w good. l.tight (edit_top name (left_so leaving) w) (left_so-good leaving w good) (onward-left p name leaving w))

  pub raised_by-turns : (part : Part) (e : Raised) → Turns l.Loose G (raises part name e)
  unfolding raises
  raised_by-turns part e =
      then-turns l.Loose l.Loose G (says part (line.Raise name e)) (leaves name (how.Exception e)) (says-keeps l.moves part (line.Raise name e) refl)
      (left_by-turns (how.Exception e))

  -- it opens the sequence to which it has come
  pushed_first-turns : (s first : StatementNo) → begins_sequence p (Some first) ≡ false
      → Turns l.Loose G (changes (push name (new_frame (Handled s) (Some first))))
  pushed_first-turns s first plain =
      let f = new_frame (Handled s) (Some first) in
      changes-turns l.Loose G (push name f)
      (λ w good. l.tight (push name f w) (l.moves.pushes name f w good (inr refl) refl refl) (onward-pushed p name f w plain))

  handled_opened-from : (part : Part) (s : StatementNo) (form : StatementForm) (w : World) → l.Loose w → onward_of w name ≡ Some s → form_of p s ≡ form
      → From (Behind G) w (open_handled p part name s form)
  unfolding open_handled
  handled_opened-from part s (form.Handled handlers first) w good on is =
      turns-from l.Loose G _ w good
      (looks-turns l.Loose G
      (λ v. elim (has_room v name 1 0) as (λ _. Step) [
        | true ↦ goes name (next_of p s) ▷ changes (push name (new_frame (Handled s) (Some first)))
        | false ↦ raises part name exception.Storage
      ])
      (λ v h. turns-from l.Loose G _ v h
      (branch-turns l.Loose G (has_room v name 1 0) (goes name (next_of p s) ▷ changes (push name (new_frame (Handled s) (Some first))))
      (raises part name exception.Storage)
      (then-turns l.Loose l.Loose G (goes name (next_of p s)) (changes (push name (new_frame (Handled s) (Some first))))
      (goes-keeps l.moves name (next_of p s) (inr refl)) (pushed_first-turns s first (l.moves.fits.handled s first handlers is)))
      (raised_by-turns part exception.Storage))))
  handled_opened-from part s _ w good on is =
      turns-from G G nothing w (l.tight w good (ap (begins_sequence p) on ∙ ap opens_handled is)) (nothing-turns G G (λ v h. h))

  opened_at-from : (part : Part) (next : Option StatementNo) (w : World) → l.Loose w → onward_of w name ≡ next → From (Behind G) w (open_at p part name next)
  unfolding open_at
  opened_at-from part None w good on = turns-from G G nothing w (l.tight w good (ap (begins_sequence p) on)) (nothing-turns G G (λ v h. h))
  opened_at-from part (Some s) w good on = handled_opened-from part s (form_of p s) w good on refl

  pub opened_by-turns : (part : Part) → Turns l.Loose G (open_sequence p part name)
  unfolding open_sequence
  opened_by-turns part = looks-turns l.Loose G _ (λ w good. opened_at-from part (onward_of w name) w good refl)

module _ {p : Image} {G : GoodWorld} {May Other : Naming} (moves : FineMoves p G May Other) (loose : Loosens p G May Other) where
  pub left-turns : (name : Who) (other : Other name) (leaving : Leaving) → Turns (loose name other).Loose G (leaves name leaving)
  left-turns name other leaving = left_by-turns (loose name other) leaving

  pub raised-turns : (part : Part) (name : Who) (other : Other name) (e : Raised) → Turns (loose name other).Loose G (raises part name e)
  raised-turns part name other e = raised_by-turns (loose name other) part e

  pub opened-turns : (part : Part) (name : Who) (other : Other name) → Turns (loose name other).Loose G (open_sequence p part name)
  opened-turns part name other = opened_by-turns (loose name other) part

  -- what it does in between
  pub woken : (name : Who) (other : Other name) (f g : Step) → Keeps (loose name other).Loose (Behind (loose name other).Loose) f
      → Turns (loose name other).Loose G g → Keeps G (Behind G) (f ▷ g)
  woken name other f g kept turned =
      let l = loose name other in
      then-turns G l.Loose G f g (narrow-turns G l.Loose l.Loose f (λ w good. l.loosens w good) kept) turned
