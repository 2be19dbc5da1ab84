-- Delays, Put_Line and blocks: each step keeps a relation that its parts keep.
use Rattle.std.proofs.Common.{◌≡◌, refl}
use Rattle.std.specs.Prelude.{ℕ, ℤ, pos, int_lt, Bool, true, false, List, Ok, Err}
use Rattle.trace_text.specs.declared.events.Who.{Who}
use Rattle.trace_text.specs.declared.events.Who.TheVariants as who
use Rattle.profile_image.specs.declared.image.Image.{Image}
use Rattle.profile_image.specs.declared.numbers.ScopeNo.{ScopeNo}
use Rattle.profile_image.specs.declared.numbers.StatementNo.{StatementNo}
use Rattle.profile_image.specs.declared.statements.Piece.{Piece}
use Rattle.profile_image.specs.declared.statements.StatementForm.TheVariants as form
use Rattle.profile_machine.specs.declared.world.World.{World}
use Rattle.profile_machine.specs.declared.world.appointments.Due.TheVariants as due_for
use Rattle.profile_machine.specs.declared.world.tasks.Waiting.TheVariants as waits_for
use Rattle.profile_image.specs.Program.{form_of, next_of}
use Rattle.profile_machine.specs.declared.world.lines.Line.TheVariants as line
use Rattle.profile_machine.specs.declared.world.lines.Part.TheVariants.{Own, TheBlock, ThePlacing}
use Rattle.profile_machine.specs.Steps.{changes, says, ◌▷◌}
use Rattle.profile_machine.specs.Frames.{given, goes}
use Rattle.profile_machine.specs.Appointments.{appoint}
use Rattle.profile_machine.specs.Dispatching.{block}
use Rattle.profile_machine.specs.Operators.{Valued}
use Rattle.profile_machine.specs.Values.{seen_by}
use Rattle.profile_machine.specs.Statements.{block_statement, wait_until, delay_to, delay_until, text_of_pieces, put_line}
use Rattle.machine_laws.proofs.FineMoves.{GoodWorld, Naming}
use Rattle.world_laws.proofs.Sequences.FineMoves.{FineMoves, Openings, chains}
use Rattle.world_laws.proofs.Behind.{Behind}
use Rattle.world_laws.proofs.Sequences.Kept.Frames.{goes-keeps, plain_steps}
use Rattle.world_laws.proofs.Sequences.Kept.Dispatching.{to_tail-keeps, block-keeps}
use Rattle.world_laws.proofs.Sequences.Kept.Scopes.{open_scope-alters}
use Rattle.world_laws.proofs.Sequences.Kept.Appointments.{appoint-from}
use Rattle.machine_laws.proofs.Kept.Combinators.{From, Keeps, changes-keeps, keeps-from, looks-from}
use Rattle.machine_laws.proofs.Kept.Combinators.{looks-keeps, nothing-keeps, said-keeps, then-from, then-keeps}
use Rattle.machine_laws.proofs.Plain.Frames.{raises-keeps, given-keeps, raise_if-keeps, with_room-keeps}

module _ {p : Image} {G : GoodWorld} {May Other : Naming} (moves : FineMoves p G May Other) where
  put_text-keeps : (name : Who) (s : StatementNo) (pieces : List Piece) (v : World) (text : Valued (List ℕ)) → form_of p s ≡ form.PutLine pieces
      → text_of_pieces (seen_by p v name) pieces ≡ text → May name
      → Keeps G (Behind G) (given Own name text (λ text. goes name (next_of p s) ▷ says Own (line.Put name text)))
  put_text-keeps name s pieces v (Ok text) is e may =
      then-keeps (chains moves) (goes name (next_of p s)) (says Own (line.Put name text)) (goes-keeps moves name (next_of p s) may)
      (said-keeps (chains moves) Own (line.Put name text) (λ w good. good))
  put_text-keeps name s pieces v (Err raised) is e may = raises-keeps (plain_steps moves) Own name raised

  pub put_line-keeps : (name : Who) (s : StatementNo) (pieces : List Piece) → form_of p s ≡ form.PutLine pieces → May name
      → Keeps G (Behind G) (put_line p name s pieces)
  unfolding put_line
  put_line-keeps name s pieces is may =
      looks-keeps (chains moves) _ (λ v. put_text-keeps name s pieces v (text_of_pieces (seen_by p v name) pieces) is refl may)

module _ {p : Image} {G : GoodWorld} {May Other : Naming} (moves : FineMoves p G May Other) (openings : Openings p G May Other) where
  pub block_statement-keeps : (name : Who) (s : StatementNo) (scope : ScopeNo) → May name → Keeps G (Behind G) (block_statement p name s scope)
  unfolding block_statement
  block_statement-keeps name s scope may = search (with_room-keeps, goes-keeps, then-keeps, looks-keeps, changes-keeps, open_scope-alters, chains, plain_steps)

  wait_until-from : (name : Who) (until : ℤ) (test : Bool) (w : World) → G w → int_lt (pos w.time) until ≡ test
      → From (Behind G) w (wait_until p name until test)
  unfolding wait_until
  wait_until-from (who.Task t) until true w good is =
      then-from (chains moves) (changes (appoint (due_for.Delay t) until)) (block TheBlock (who.Task t) waits_for.Moment) w
      (appoint-from moves (due_for.Delay t) until w good) (block-keeps moves openings TheBlock (who.Task t) waits_for.Moment (moves.task_other t) refl)
  wait_until-from (who.Task t) until false w good is = keeps-from (chains moves) _ w good (to_tail-keeps moves ThePlacing (who.Task t))
  wait_until-from who.Agent until future w good is = keeps-from (chains moves) _ w good (nothing-keeps (chains moves))

  pub delay_to-keeps : (name : Who) (until : ℤ) → Keeps G (Behind G) (delay_to p name until)
  unfolding delay_to
  delay_to-keeps name until = looks-from (chains moves) _ (λ w good. wait_until-from name until (int_lt (pos w.time) until) w good refl)

  pub delay_until-keeps : (name : Who) (s : StatementNo) (until : Valued ℤ) → May name → Keeps G (Behind G) (delay_until p name s until)
  unfolding delay_until
  delay_until-keeps name s until may = search (looks-keeps, raise_if-keeps, given-keeps, goes-keeps, then-keeps, delay_to-keeps, chains, plain_steps) depth 9
