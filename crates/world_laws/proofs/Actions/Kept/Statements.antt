-- Delays, Put_Line and blocks: each step leaves worlds good where its parts do.
use Rattle.std.proofs.Common.{refl}
use Rattle.std.specs.Prelude.{ℤ, pos, int_lt, Bool, true, false, List}
use Rattle.trace_text.specs.declared.events.Who.{Who}
use Rattle.trace_text.specs.declared.events.Who.TheVariants as who
use Rattle.profile_image.specs.declared.image.Image.{Image}
use Rattle.profile_image.specs.declared.numbers.ScopeNo.{ScopeNo}
use Rattle.profile_image.specs.declared.numbers.StatementNo.{StatementNo}
use Rattle.profile_image.specs.declared.statements.Piece.{Piece}
use Rattle.profile_machine.specs.declared.world.World.{World}
use Rattle.profile_machine.specs.declared.world.appointments.Due.TheVariants as due_for
use Rattle.profile_machine.specs.declared.world.tasks.Waiting.TheVariants as waits_for
use Rattle.profile_image.specs.Program.{next_of}
use Rattle.profile_machine.specs.declared.world.lines.Part.TheVariants.{Own, TheBlock}
use Rattle.profile_machine.specs.Steps.{changes}
use Rattle.profile_machine.specs.Frames.{goes, in_protected}
use Rattle.profile_machine.specs.Appointments.{appoint}
use Rattle.profile_machine.specs.Dispatching.{block}
use Rattle.profile_machine.specs.Operators.{Valued}
use Rattle.profile_machine.specs.Statements.{block_statement, wait_until, delay_to, delay_until, put_line}
use Rattle.world_laws.proofs.Actions.FineMoves.{FineMoves, chains, says-keeps}
use Rattle.world_laws.proofs.Actions.Sound.{Good}
use Rattle.world_laws.proofs.Actions.GoodMoves.{good_moves, free-by_test}
use Rattle.ann_base.specs.declared.exceptions.Raised.TheVariants as exception
use Rattle.world_laws.proofs.Actions.Kept.Switching.{Only, only-from}
use Rattle.world_laws.proofs.Actions.Kept.Frames.{goes-keeps, plain_steps}
use Rattle.world_laws.proofs.Actions.Kept.Dispatching.{to_tail-keeps, block-keeps}
use Rattle.world_laws.proofs.Actions.Kept.Scopes.{opens-alters}
use Rattle.world_laws.proofs.Actions.Kept.Appointments.{appoint-from}
use Rattle.machine_laws.proofs.FineMoves.{GoodWorld, Naming}
use Rattle.line_laws.proofs.Leaving.Modes.{Nobody}
use Rattle.machine_laws.proofs.Kept.Combinators.{From, Keeps, changes-keeps, keeps-from, looks-from}
use Rattle.machine_laws.proofs.Kept.Combinators.{looks-keeps, nothing-keeps, sees-keeps, then-from, then-keeps}
use Rattle.world_laws.proofs.Behind.{Behind}
use Rattle.machine_laws.proofs.Plain.Frames.{given-keeps, with_room-keeps, raise_if-from}

module _ {G : GoodWorld} {F : Naming} (moves : FineMoves G F) where
  wait_until-from : (p : Image) (name : Who) (until : ℤ) (test : Bool) (w : World) → F name → G w → From (Behind G) w (wait_until p name until test)
  unfolding wait_until
  wait_until-from p (who.Task t) until true w free good =
      then-from (chains moves) (changes (appoint (due_for.Delay t) until)) (block TheBlock (who.Task t) waits_for.Moment) w
      (appoint-from moves (due_for.Delay t) until w good) (block-keeps moves TheBlock (who.Task t) waits_for.Moment free)
  wait_until-from p (who.Task t) until false w free good = keeps-from (chains moves) _ w good (search (to_tail-keeps))
  wait_until-from p who.Agent until future w free good = keeps-from (chains moves) _ w good (search (nothing-keeps, chains))

  pub delay_to-keeps : (p : Image) (name : Who) (until : ℤ) → F name → Keeps G (Behind G) (delay_to p name until)
  unfolding delay_to
  delay_to-keeps p name until free = looks-from (chains moves) _ (λ w good. wait_until-from p name until (int_lt (pos w.time) until) w free good)

  pub put_line-keeps : (p : Image) (name : Who) (s : StatementNo) (pieces : List Piece) → Keeps G (Behind G) (put_line p name s pieces)
  unfolding put_line
  put_line-keeps p name s pieces = search (sees-keeps, given-keeps, goes-keeps, then-keeps, says-keeps, chains, plain_steps) depth 9

  pub block_statement-keeps : (p : Image) (name : Who) (s : StatementNo) (scope : ScopeNo) → Keeps G (Behind G) (block_statement p name s scope)
  unfolding block_statement
  block_statement-keeps p name s scope = search (with_room-keeps, goes-keeps, then-keeps, looks-keeps, changes-keeps, opens-alters, chains, plain_steps)

-- who is in no protected action may wait
pub delay_until-keeps : (p : Image) (name : Who) (s : StatementNo) (until : Valued ℤ) → Keeps (Good Nobody) (Behind (Good Nobody)) (delay_until p name s until)
unfolding delay_until
delay_until-keeps p name s until =
    let outside = good_moves (Only name) in
    looks-from (chains (good_moves Nobody)) _
    (λ w good. raise_if-from (plain_steps (good_moves Nobody)) name (in_protected w name) exception.Program _ w good (λ e.
    only-from name _ w (free-by_test name w e) good
    (given-keeps (plain_steps outside) Own name until _
    (λ moment.
    then-keeps (chains outside) (goes name (next_of p s)) _ (goes-keeps outside name (next_of p s)) (delay_to-keeps outside p name moment refl)))))
