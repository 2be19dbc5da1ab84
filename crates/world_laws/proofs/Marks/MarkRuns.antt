-- What is known of marks holds of every world that a run reaches: the opening has it, and instants and tocks keep it, since who acts
-- waits for no entry call.
use Rattle.std.proofs.Common.{◌≡◌, ℕ, ℤ, true, false, List, refl, sym, subst, arith}
use Rattle.std.proofs.lemmas.Bool.{false≢true}
use Rattle.trace_text.specs.declared.events.Event.{Event}
use Rattle.trace_text.specs.declared.events.Who.TheVariants as who
use Rattle.profile_image.specs.declared.image.Image.{Image}
use Rattle.profile_image.specs.declared.script_items.Item.{Item}
use Rattle.profile_machine.specs.declared.world.World.{World}
use Rattle.profile_machine.specs.Tasks.{is_made_state, is_runnable_state, task_of, waiting_of}
use Rattle.profile_machine.specs.Dispatching.{choose}
use Rattle.profile_machine.specs.Instant.{instant}
use Rattle.profile_machine.specs.Run.{opens, opening, blank_world, tock}
use Rattle.profile_machine.specs.declared.world.tasks.State.{State}
use Rattle.profile_machine.specs.declared.world.tasks.State.TheVariants.{Made, Runnable, Blocked}
use Rattle.ceiling_laws.proofs.Places.StandingRuns.{runs_show_who_is_ready}
use Rattle.machine_laws.specs.Reached.{Comes, opened, ticked, Reached, before, behind}
use Rattle.line_laws.proofs.Leaving.WakingRuns.{comes-awake}
use Rattle.line_laws.specs.ExitLaws.{IsRunnerFree}
use Rattle.world_laws.proofs.Marks.MarkFacts.{GoodMarks}
use Rattle.world_laws.proofs.Marks.Kept.Instant.{HasRunnerBegun, instant-leads}
use Rattle.world_laws.proofs.Marks.Kept.Run.{before_tick-leads, opens-from}
use Rattle.world_laws.proofs.Marks.MarkMoves.{GoodBehind, moves, tock_moves}
use Rattle.world_laws.proofs.Scopes.Runs.{told-lines}
use Rattle.machine_laws.proofs.Kept.Run.{tock-parts}
use Rattle.line_laws.proofs.Exits.AwakeRuns.{awake-free}
use Rattle.machine_laws.proofs.Kept.Combinators.{Leads, settles-from}

-- ---- who acts waits for no entry call

runner-free : (p : Image) (script : List (ℤ × Item)) (bound : ℕ) (w : World) → Comes p script bound w → IsRunnerFree w
runner-free p script bound w c n ran over = let h = comes-awake p script bound w c in awake-free (waiting_of w (who.Task n)) (h.awake (who.Task n) ran)

-- the lines up to a world before an instant

-- who is ready has begun
ready-begun : (state : State) → is_runnable_state state ≡ true → is_made_state state ≡ false
ready-begun Made e = absurd (false≢true e)
ready-begun Runnable e = refl
ready-begun (Blocked waiting) e = refl

runner-begun : (p : Image) (script : List (ℤ × Item)) (bound : ℕ) (w : World) → Comes p script bound w → HasRunnerBegun w
runner-begun p script bound w c name ran over =
    λ named. let t = told-lines p script bound w c in ready-begun (task_of w name).state ((runs_show_who_is_ready p script bound t.0 w t.1).1 name ran over)

-- ---- worlds

-- at first nobody has a mark
blank-good : (p : Image) (script : List (ℤ × Item)) → GoodMarks (blank_world p script)
blank-good p script = record {
  tasks_right = (record { struck = tt; finalizes = tt }, tt);
  agent_right = record { struck = tt; finalizes = tt };
  waits = ((λ c is. absurd (false≢true is)), tt);
  numbers = (omega arith, tt);
  single = (tt, tt);
  triggers = λ t d is. absurd (false≢true is);
  objects = tt;
}

opening-good : (p : Image) (script : List (ℤ × Item)) → GoodMarks (opening p script).0
opening-good p script =
    settles-from GoodBehind p (moves.fine.settles p) (opens p) (blank_world p script)
    (opens-from moves p (blank_world p script) (blank-good p script) (λ d. refl))

instant-good : (p : Image) (w : World) → IsRunnerFree w → HasRunnerBegun w → GoodMarks w → GoodMarks (instant p w).0
instant-good p w free begun good = instant-leads moves p (record { puts = λ name number pieces text v x g is e. moves.fine.stays x g }) w good free begun

tock-good : (p : Image) (w : World) → GoodMarks w → GoodMarks (tock p w).0
unfolding Leads
tock-good p w good =
    subst (λ (t : World × List Event). GoodMarks t.0) (sym (tock-parts p w)) (before_tick-leads moves tock_moves p (choose w) w good)

comes-good : (p : Image) (script : List (ℤ × Item)) (bound : ℕ) (w : World) → Comes p script bound w → GoodMarks w
comes-good p script bound _ opened = opening-good p script
comes-good p script bound _ (ticked w c e) =
    tock-good p (instant p w).0 (instant-good p w (runner-free p script bound w c) (runner-begun p script bound w c) (comes-good p script bound w c))

pub reached-good : (p : Image) (script : List (ℤ × Item)) (bound : ℕ) (w : World) → Reached p script bound w → GoodMarks w
reached-good p script bound _ (before w c) = comes-good p script bound w c
reached-good p script bound _ (behind w c) = instant-good p w (runner-free p script bound w c) (runner-begun p script bound w c) (comes-good p script bound w c)
