-- No task acts while it waits for an entry call: who ran before an instant does not wait for a meeting.
use Rattle.std.proofs.Common.{◌≡◌, ℕ, ℤ, false, List, Option, Some, None, refl, sym}
use Rattle.std.proofs.lemmas.Bool.{false≢true}
use Rattle.trace_text.specs.declared.events.Who.TheVariants as who
use Rattle.profile_image.specs.declared.image.Image.{Image}
use Rattle.profile_image.specs.declared.script_items.Item.{Item}
use Rattle.profile_machine.specs.declared.world.tasks.Waiting.{Waiting}
use Rattle.profile_machine.specs.declared.world.tasks.Waiting.TheVariants as waits_for
use Rattle.profile_machine.specs.Tasks.{waiting_of}
use Rattle.line_laws.proofs.Leaving.FineMoves.{waits}
use Rattle.line_laws.proofs.Leaving.WakingRuns.{comes-awake}
use Rattle.line_laws.specs.ExitLaws.{is_at_call, RunnersAreFree, RunsKeepExclusion}
use Rattle.line_laws.proofs.Exits.ExitRuns.{free_runs_keep_exclusion}

pub awake-free : (waiting : Option Waiting) → waits waiting ≡ false → is_at_call waiting ≡ false
awake-free None e = refl
awake-free (Some waits_for.Activation) e = refl
awake-free (Some waits_for.Moment) e = refl
awake-free (Some (waits_for.Call c)) e = absurd (false≢true (sym e))
awake-free (Some (waits_for.EndOfCall c)) e = absurd (false≢true (sym e))
awake-free (Some (waits_for.Accept s)) e = refl
awake-free (Some (waits_for.Select accepts delay terminate)) e = refl
awake-free (Some (waits_for.Dependents r)) e = refl
awake-free (Some waits_for.Release) e = refl

pub runners-free : (p : Image) (script : List (ℤ × Item)) (bound : ℕ) → RunnersAreFree p script bound
runners-free p script bound w c n ran over = let h = comes-awake p script bound w c in awake-free (waiting_of w (who.Task n)) (h.awake (who.Task n) ran)

pub runs_keep_exclusion : RunsKeepExclusion
runs_keep_exclusion p script bound = free_runs_keep_exclusion p script bound (runners-free p script bound)
