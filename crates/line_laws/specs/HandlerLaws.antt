-- Handlers: what the law of traces says of the lines of releases, one by one, and the law itself.
use Rattle.std.specs.Prelude.{ℕ, ℤ, IsTrue, List}
use Rattle.trace_text.specs.Queue.{TraceLine, AtEachLine}
use Rattle.trace_text.specs.Laws.{no_releases, see_releases, is_in_order, HandlersOk}
use Rattle.profile_image.specs.declared.image.Image.{Image}
use Rattle.profile_image.specs.declared.script_items.Item.{Item}
use Rattle.profile_machine.specs.Run.{run_of}

-- `release`, `serve` and `served` lines each bear the numbers 1, 2, 3 and so on. No release is served before it was
-- released or while another is served.
abbrev pub ServedInTurn : List TraceLine → Type 0
ServedInTurn = AtEachLine see_releases no_releases (λ state event. IsTrue (is_in_order state event))

abbrev pub RunsServeInTurn : Type 0
RunsServeInTurn = (p : Image) (script : List (ℤ × Item)) (bound : ℕ) → ServedInTurn (run_of p script bound)

-- Beside this, at each tick the agent is in the queue exactly where some release is not yet served, and where it runs
-- exactly one is being served.
abbrev pub RunsKeepHandlers : Type 0
RunsKeepHandlers = (p : Image) (script : List (ℤ × Item)) (bound : ℕ) → HandlersOk (run_of p script bound)
