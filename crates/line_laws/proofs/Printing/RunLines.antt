-- What holds of each line of the opening, of instants, of tocks and of ends holds of each line of a run.
use Rattle.std.proofs.Common.{ℕ, ℤ, zero, suc, List, [], ◌∷◌, ◌++◌, Option, Some, None}
use Rattle.trace_text.specs.declared.events.Event.{Event}
use Rattle.trace_text.specs.declared.events.Event.TheVariants as line
use Rattle.trace_text.specs.declared.events.Ended.{Ended}
use Rattle.trace_text.specs.declared.events.Ended.TheVariants as why
use Rattle.profile_image.specs.declared.image.Image.{Image}
use Rattle.profile_image.specs.declared.script_items.Item.{Item}
use Rattle.profile_machine.specs.declared.world.World.{World}
use Rattle.profile_machine.specs.Instant.{instant}
use Rattle.profile_machine.specs.Run.{Ran, opening, tock, stop, at_tick, run_from, run_of}
use Rattle.line_laws.specs.Names.{EachEvent}
use Rattle.machine_laws.proofs.RunLemmas.{turn}

-- each of these lines, at whatever tick
abbrev pub AllOf : (Event → Type 0) → List Event → Type 0
AllOf P [] = Unit {0}
AllOf P (x ∷ xs) = P x × AllOf P xs

-- the last line, where a run stops
abbrev pub OfEnd : (Event → Type 0) → Option Ended → Type 0
OfEnd P None = Unit {0}
OfEnd P (Some reason) = P (line.End reason)

pub AllOf-append : (P : Event → Type 0) (xs ys : List Event) → AllOf P xs → AllOf P ys → AllOf P (xs ++ ys)
AllOf-append P [] ys a b = b
AllOf-append P (x ∷ xs) ys a b = (a.0, AllOf-append P xs ys a.1 b)

EachEvent-at_tick : (P : Event → Type 0) (now : ℕ) (events : List Event) → AllOf P events → EachEvent P (at_tick now events)
EachEvent-at_tick P now [] a = tt
EachEvent-at_tick P now (x ∷ xs) a = (a.0, EachEvent-at_tick P now xs a.1)

EachEvent-then : (P : Event → Type 0) (now : ℕ) (events : List Event) (rest : List (ℕ × Event)) → AllOf P events → EachEvent P rest
    → EachEvent P (at_tick now events ++ rest)
EachEvent-then P now [] rest a b = b
EachEvent-then P now (x ∷ xs) rest a b = (a.0, EachEvent-then P now xs rest a.1 b)

-- one instant, what follows it, and what is left of the run

turn-each : (P : Event → Type 0) (now : ℕ) (i t : World × List Event) (rest : Ran) (reason : Option Ended) → AllOf P i.1 → AllOf P t.1 → OfEnd P reason
    → EachEvent P rest.lines → EachEvent P (turn now i t rest reason).lines
unfolding turn
turn-each P now i t rest (Some reason) a b e k = EachEvent-at_tick P now (i.1 ++ line.End reason ∷ []) (AllOf-append P i.1 (line.End reason ∷ []) a (e, tt))
turn-each P now i t rest None a b e k = EachEvent-then P now (i.1 ++ t.1) rest.lines (AllOf-append P i.1 t.1 a b) k

-- what holds of each line of the parts of runs of this program
pub record OfParts (P : Event → Type 0) (p : Image) : Type 0 where
  pub openings : (script : List (ℤ × Item)) → AllOf P (opening p script).1
  pub instants : (w : World) → AllOf P (instant p w).1
  pub tocks : (w : World) → AllOf P (tock p w).1
  pub stops : (bound : ℕ) (w : World) → OfEnd P (stop p bound w)
  pub bound : P (line.End why.Bound)

module _ {P : Event → Type 0} {p : Image} (parts : OfParts P p) where
  run_from-each : (fuel : ℕ) (bound : ℕ) (w : World) → EachEvent P (run_from fuel p bound w).lines
  unfolding turn
  run_from-each zero bound w = (parts.bound, tt)
  run_from-each (suc fuel) bound w =
      let i = instant p w in
      let t = tock p i.0 in
      turn-each P w.time i t (run_from fuel p bound t.0) (stop p bound i.0) (parts.instants w) (parts.tocks i.0) (parts.stops bound i.0)
      (run_from-each fuel bound t.0)

  pub run-each : (script : List (ℤ × Item)) (bound : ℕ) → EachEvent P (run_of p script bound)
  run-each script bound =
      let o = opening p script in
      EachEvent-then P 0 o.1 (run_from (suc bound) p bound o.0).lines (parts.openings script) (run_from-each (suc bound) bound o.0)
