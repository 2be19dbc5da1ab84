-- A run of which no line lacks a name is a list of printable lines.
use Rattle.std.proofs.Common.{ℕ, ℤ, ◌<◌, ◌^◌, List, [], ◌∷◌, arith}
use Rattle.trace_text.specs.declared.events.Event.{Event}
use Rattle.trace_text.specs.Text.{IsWithin, ArePrintable}
use Rattle.profile_image.specs.declared.image.Image.{Image}
use Rattle.profile_image.specs.declared.script_items.Item.{Item}
use Rattle.profile_machine.specs.Run.{run_of}
use Rattle.machine_laws.specs.RunLaws.{AllUpTo, LinesStayWithin}
use Rattle.line_laws.specs.Names.{IsComplete, IsPrintableIfComplete, EachEvent, IsCompleteRun}
use Rattle.line_laws.proofs.Printing.Printable.{lines_are_printable}

lines-printable : (bound : ℕ) (lines : List (ℕ × Event)) → bound < 2 ^ 64 → AllUpTo bound lines → EachEvent IsPrintableIfComplete lines
    → EachEvent IsComplete lines → EachEvent IsWithin lines → ArePrintable lines
lines-printable bound [] fits up named complete within = tt
lines-printable bound (x ∷ xs) fits up named complete within = (
  record { tick_fits = omega (arith, up.0, fits); within = within.0; printable = (named.0 complete.0).0 },
  lines-printable bound xs fits up.1 named.1 complete.1 within.1,
)

pub runs_are_printable : LinesStayWithin → (p : Image) (script : List (ℤ × Item)) (bound : ℕ) → IsCompleteRun p script bound
    → ArePrintable (run_of p script bound)
runs_are_printable stay p script bound h =
    lines-printable bound (run_of p script bound) h.ticks (stay p script bound) (lines_are_printable p script bound h.named) h.complete h.within
