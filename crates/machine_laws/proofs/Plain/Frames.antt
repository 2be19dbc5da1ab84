-- Exceptions that are raised, and what is left or goes on: each step keeps a relation that its parts keep.
use Rattle.std.specs.Prelude.{ℕ, Bool, true, false, Result, Ok, Err}
use Rattle.ann_base.specs.declared.exceptions.Raised.{Raised}
use Rattle.ann_base.specs.declared.exceptions.Raised.TheVariants as exception
use Rattle.trace_text.specs.declared.events.Who.{Who}
use Rattle.profile_image.specs.declared.image.Image.{Image}
use Rattle.profile_image.specs.declared.numbers.StatementNo.{StatementNo}
use Rattle.profile_machine.specs.declared.run_data.Leaving.{Leaving}
use Rattle.profile_machine.specs.declared.run_data.Leaving.TheVariants as how
use Rattle.profile_machine.specs.declared.world.World.{World}
use Rattle.profile_image.specs.Program.{next_of}
use Rattle.profile_machine.specs.declared.world.lines.Part.{Part}
use Rattle.profile_machine.specs.declared.world.lines.Part.TheVariants.{Own}
use Rattle.profile_machine.specs.Steps.{Step, changes, ◌▷◌}
use Rattle.profile_machine.specs.Frames.{top_of, goes, leaves, raises, has_room, stands_in, exit_loop, pass_on, given, raise_if, with_room}
use Rattle.profile_machine.specs.Operators.{Valued}
use Rattle.machine_laws.proofs.Moves.{StepRelation}
use Rattle.machine_laws.proofs.FineMoves.{GoodWorld, Naming}
use Rattle.std.proofs.Common.{◌≡◌, refl}
use Rattle.machine_laws.proofs.Kept.Combinators.{From, Gives, Keeps, branch-keeps, changes-from, changes_then-from}
use Rattle.machine_laws.proofs.Kept.Combinators.{keeps-from, looks-keeps, looks_at-from, nothing-keeps, then-keeps}
use Rattle.machine_laws.proofs.Plain.PlainSteps.{PlainSteps}

module _ {G : GoodWorld} {Goes : Naming} {R : StepRelation} (plain : PlainSteps G Goes R) where
  pub raises-keeps : (part : Part) (name : Who) (e : Raised) → Keeps G R (raises part name e)
  unfolding raises
  raises-keeps part name e = search (plain.says_raise, then-keeps, plain.leaves, plain.chains)

  pub exit_loop-keeps : (p : Image) (name : Who) (loop : StatementNo) → Goes name → Keeps G R (exit_loop p name loop)
  unfolding exit_loop
  exit_loop-keeps p name loop may =
      looks-keeps plain.chains _
      (λ w. branch-keeps plain.chains (stands_in p loop (top_of w name)) (goes name (next_of p loop)) (leaves name (how.Exit loop)) (search (plain.goes))
      (search (plain.leaves)))

  pub pass_on-keeps : (p : Image) (name : Who) (leaving : Leaving) → Goes name → Keeps G R (pass_on p name leaving)
  unfolding pass_on
  pass_on-keeps p name how.End may = search (nothing-keeps, plain.chains)
  pass_on-keeps p name how.Return may = search (plain.leaves)
  pass_on-keeps p name (how.Exit loop) may = search (exit_loop-keeps)
  pass_on-keeps p name (how.Exception e) may = search (plain.leaves)
  pass_on-keeps p name how.Abort may = search (plain.leaves)
  pass_on-keeps p name how.Terminate may = search (plain.leaves)

  pub given-keeps : {X : Type 0} (part : Part) (name : Who) (result : Result X Raised) (f : X → Step) → ((x : X) → Keeps G R (f x))
      → Keeps G R (given part name result f)
  given-keeps part name (Ok x) f k = k x
  given-keeps part name (Err e) f k = raises-keeps part name e

  pub given-from : {X : Type 0} (part : Part) (name : Who) (result : Result X Raised) (f : X → Step) (w : World) → G w → ((x : X) → From R w (f x))
      → From R w (given part name result f)
  given-from part name (Ok x) f w good k = k x
  given-from part name (Err e) f w good k = keeps-from plain.chains (raises part name e) w good (raises-keeps part name e)

  pub given_as-from : {X : Type 0} (part : Part) (name : Who) (result : Result X Raised) (f : X → Step) (w : World) → G w
      → ((x : X) → result ≡ Ok x → From R w (f x)) → From R w (given part name result f)
  given_as-from part name (Ok x) f w good k = k x refl
  given_as-from part name (Err e) f w good k = keeps-from plain.chains (raises part name e) w good (raises-keeps part name e)

  pub raise_if-from : (name : Who) (test : Bool) (e : Raised) (step : Step) (w : World) → G w → (test ≡ false → From R w step)
      → From R w (raise_if name test e step)
  raise_if-from name true e step w good k = keeps-from plain.chains (raises Own name e) w good (raises-keeps Own name e)
  raise_if-from name false e step w good k = k refl

  -- the world that a value gives becomes the world
  pub given_world-from : (part : Part) (name : Who) (result : Valued World) (f : World → Step) (w : World) → G w → Gives R w result
      → ((next : World) → Keeps G R (f next)) → From R w (given part name result (λ next. changes (λ _. next) ▷ f next))
  unfolding Gives
  given_world-from part name (Ok next) f w good a k =
      changes_then-from plain.chains (λ _. next) (f next) w a (keeps-from plain.chains (f next) next (plain.chains.behind w next a) (k next))
  given_world-from part name (Err e) f w good a k = keeps-from plain.chains (raises part name e) w good (raises-keeps part name e)

  pub becomes-from : (part : Part) (name : Who) (result : Valued World) (w : World) → G w → Gives R w result
      → From R w (given part name result (λ next. changes (λ _. next)))
  unfolding Gives
  becomes-from part name (Ok next) w good a = changes-from plain.chains (λ _. next) w a
  becomes-from part name (Err e) w good a = keeps-from plain.chains (raises part name e) w good (raises-keeps part name e)

  branch-from : (name : Who) (test : Bool) (e : Raised) (step : Step) (w : World) → G w → From R w step
      → From R w (elim test as (λ _. Step) [ true ↦ step | false ↦ raises Own name e ])
  branch-from name true e step w good k = k
  branch-from name false e step w good k = keeps-from plain.chains (raises Own name e) w good (raises-keeps Own name e)

  pub with_room-from : (name : Who) (marks cells : ℕ) (step : Step) (w : World) → G w → From R w step → From R w (with_room name marks cells step)
  with_room-from name marks cells step w good k =
      looks_at-from plain.chains (λ v. elim (has_room v name marks cells) as (λ _. Step) [ true ↦ step | false ↦ raises Own name exception.Storage ]) w
      (branch-from name (has_room w name marks cells) exception.Storage step w good k)

  pub raise_if-keeps : (name : Who) (test : Bool) (e : Raised) (step : Step) → Keeps G R step → Keeps G R (raise_if name test e step)
  raise_if-keeps name true e step kept = search (raises-keeps)
  raise_if-keeps name false e step kept = search

  pub with_room-keeps : (name : Who) (marks cells : ℕ) (step : Step) → Keeps G R step → Keeps G R (with_room name marks cells step)
  with_room-keeps name marks cells step kept =
      looks-keeps plain.chains _
      (λ w. branch-keeps plain.chains (has_room w name marks cells) step (raises Own name exception.Storage) (search) (search (raises-keeps)))
