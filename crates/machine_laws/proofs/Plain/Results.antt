-- What a call gives back, and how its caller goes on: each step keeps a relation that its parts keep.
use Rattle.std.specs.Prelude.{Bool, List, [], ◌∷◌, Option, Some, None, Ok, Err}
use Rattle.ann_base.specs.declared.identities.CallNo.{CallNo}
use Rattle.profile_machine.specs.declared.run_data.Leaving.{Leaving}
use Rattle.profile_machine.specs.declared.run_data.Leaving.TheVariants as how
use Rattle.profile_machine.specs.Calls.{formals_count}
use Rattle.profile_machine.specs.Rendezvous.{finished_call}
use Rattle.profile_machine.specs.Serving.{end_body_of_entry, keep_values, keeps_sending, with_values}
use Rattle.std.proofs.Common.{◌≡◌, refl}
use Rattle.trace_text.specs.declared.events.Who.{Who}
use Rattle.trace_text.specs.declared.events.Who.TheVariants as who
use Rattle.profile_image.specs.declared.image.Image.{Image}
use Rattle.profile_image.specs.declared.numbers.StatementNo.{StatementNo}
use Rattle.profile_image.specs.declared.values.Value.{Value}
use Rattle.profile_machine.specs.declared.world.World.{World}
use Rattle.profile_machine.specs.declared.world.calls.Call.{Call}
use Rattle.profile_machine.specs.declared.world.calls.Outcome.{Outcome}
use Rattle.profile_machine.specs.declared.world.scopes.Variable.{Variable}
use Rattle.profile_machine.specs.declared.world.calls.Outcome.TheVariants as call_ended
use Rattle.profile_machine.specs.declared.world.lines.Part.{Part}
use Rattle.profile_machine.specs.Operators.{Valued}
use Rattle.profile_machine.specs.CallEnds.{go_by_outcome, resume, store, or_stored, copy_back, with_results}
use Rattle.machine_laws.proofs.Moves.{StepRelation}
use Rattle.machine_laws.proofs.FineMoves.{GoodWorld, Naming}
use Rattle.machine_laws.proofs.Kept.Combinators.{Gives, Keeps, changes-keeps, then-keeps}
use Rattle.machine_laws.proofs.Plain.Calls.{forget_call-alters, edit_call-alters, with_call-keeps}
use Rattle.machine_laws.proofs.Plain.Cells.{store-gives}
use Rattle.machine_laws.proofs.Plain.Frames.{raises-keeps}
use Rattle.machine_laws.proofs.Plain.PlainSteps.{PlainSteps}

-- whether a body sends the call on changes neither its number nor its caller
pub keeps_sending-number : (leaving : Leaving) (c : Call) → (keeps_sending leaving c).number ≡ c.number
keeps_sending-number how.Return c = refl
keeps_sending-number how.End c = refl
keeps_sending-number (how.Exit loop) c = refl
keeps_sending-number (how.Exception e) c = refl
keeps_sending-number how.Abort c = refl
keeps_sending-number how.Terminate c = refl

pub keeps_sending-caller : (leaving : Leaving) (c : Call) → (keeps_sending leaving c).caller ≡ c.caller
keeps_sending-caller how.Return c = refl
keeps_sending-caller how.End c = refl
keeps_sending-caller (how.Exit loop) c = refl
keeps_sending-caller (how.Exception e) c = refl
keeps_sending-caller how.Abort c = refl
keeps_sending-caller how.Terminate c = refl

pub finished_call-number : (p : Image) (cells : List Value) (leaving : Leaving) (c : Call) → (finished_call p cells leaving c).number ≡ c.number
finished_call-number p cells leaving c = keeps_sending-number leaving (with_values cells (formals_count p c) c)

pub finished_call-caller : (p : Image) (cells : List Value) (leaving : Leaving) (c : Call) → (finished_call p cells leaving c).caller ≡ c.caller
finished_call-caller p cells leaving c = keeps_sending-caller leaving (with_values cells (formals_count p c) c)

module _ {G : GoodWorld} {Goes : Naming} {R : StepRelation} (plain : PlainSteps G Goes R) where
  -- the world behind the results that are copied back
  or_stored-world : (result : Valued World) (again : World → World × Bool) (w : World) → G w → Gives R w result → ((v : World) → G v → R v [] (again v).0)
      → R w [] (or_stored w result again).0
  unfolding Gives
  or_stored-world (Ok next) again w good a b = plain.chains.goes_on w next (again next).0 a (b next (plain.chains.behind w next a))
  or_stored-world (Err e) again w good a b = plain.chains.stays w good

  copy_back-world : (p : Image) (results : List (Option Variable)) (values : List Value) (w : World) → G w → R w [] (copy_back p results values w).0
  copy_back-world p [] values w good = plain.chains.stays w good
  copy_back-world p (None ∷ results) [] w good = plain.chains.stays w good
  copy_back-world p (None ∷ results) (v ∷ values) w good = copy_back-world p results values w good
  copy_back-world p (Some target ∷ results) [] w good = plain.chains.stays w good
  copy_back-world p (Some target ∷ results) (v ∷ values) w good =
      or_stored-world (store p target v w) (copy_back p results values) w good (store-gives plain p target v w good) (copy_back-world p results values)

  pub with_results-world : (p : Image) (c : Call) (outcome : Outcome) (w : World) → G w → R w [] (with_results p c outcome w).0
  with_results-world p c call_ended.Finished w good = copy_back-world p c.results c.values w good
  with_results-world p c call_ended.Cancelled w good = plain.chains.stays w good
  with_results-world p c (call_ended.ToRaise e) w good = plain.chains.stays w good
  with_results-world p c (call_ended.WasRaised e) w good = plain.chains.stays w good

  pub go_by_outcome-keeps : (p : Image) (part : Part) (name : Who) (s : StatementNo) (outcome : Outcome) → Goes name
      → Keeps G R (go_by_outcome p part name s outcome)
  unfolding go_by_outcome
  go_by_outcome-keeps p part name s call_ended.Finished may = search (plain.goes)
  go_by_outcome-keeps p part name s call_ended.Cancelled may = search (plain.goes)
  go_by_outcome-keeps p part name s (call_ended.ToRaise e) may = search (raises-keeps)
  go_by_outcome-keeps p part name s (call_ended.WasRaised e) may = search (plain.leaves)

  pub resume-keeps : (p : Image) (part : Part) (c : Call) (outcome : Outcome) → Goes (who.Task c.caller) → Keeps G R (resume p part c outcome)
  unfolding resume
  resume-keeps p part c outcome may = search (changes-keeps, forget_call-alters, then-keeps, go_by_outcome-keeps, plain.chains)

  pub keep_values-keeps : (p : Image) (c : CallNo) (cells : List Value) → Keeps G R (keep_values p c cells)
  unfolding keep_values
  keep_values-keeps p c cells = search (with_call-keeps, changes-keeps, edit_call-alters, plain.chains)

  pub end_body_of_entry-keeps : (p : Image) (c : CallNo) (cells : List Value) (leaving : Leaving) → Keeps G R (end_body_of_entry p c cells leaving)
  unfolding end_body_of_entry
  end_body_of_entry-keeps p c cells leaving =
      search (changes-keeps, edit_call-alters, then-keeps, keep_values-keeps, keeps_sending-number, keeps_sending-caller, plain.chains)
