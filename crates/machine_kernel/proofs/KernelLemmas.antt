-- From one step of a kernel to what its caller may rely on.
use Rattle.std.proofs.Common.{◌≡◌, ◌<◌, ℕ, zero, suc, ℤ, Bool, true, false, List, [], ◌∷◌, ◌++◌, Option, Some, None, Result}
use Rattle.std.proofs.Common.{Ok, Err, OnOk, IfOk, IsTrue, nat_le, nat_lt, rules, subst, refl, sym, ap, ◌∙◌, append_assoc}
use Rattle.std.proofs.lemmas.Bool.{ltb-true}
use Rattle.profile_image.specs.declared.image.Image.{Image}
use Rattle.profile_image.specs.declared.script_items.Item.{Item}
use Rattle.std.specs.Option.{IsSome}
use Rattle.trace_text.specs.declared.events.Event.{Event}
use Rattle.trace_text.specs.declared.events.Ended.{Ended}
use Rattle.trace_text.specs.Text.{text_of, ArePrintable, IsPrintableLine}
use Rattle.world_tables.specs.Lists.{first_of}
use Rattle.machine_dispatching.specs.Settling.{written}
use Rattle.machine_ticks.specs.declared.tocks.TickLine.{TickLine}
use Rattle.machine_ticks.specs.Ticks.{tick_event, tick_events}
use Rattle.ann_base.specs.declared.faults.NoMemory.{NoMemory}
use Rattle.machine_ticks.specs.declared.stops.Stopped.{Stopped}
use Rattle.machine_ticks.specs.Stops.{why_ended}
use Rattle.machine_laws.specs.TimeLaws.{RunsBeginAtZero, InstantsTakeNoTime, TocksTakeOneTick}
use Rattle.machine_kernel.specs.declared.kernel.Kernel.{Kernel}
use Rattle.machine_kernel.specs.declared.kernel.Next.{Next}
use Rattle.machine_kernel.specs.declared.kernel.Next.TheVariants as did
use Rattle.machine_kernel.specs.Reached.{is_in_time}
use Rattle.machine_kernel.specs.Kernel.{shown, future, stop_to_come, left_to_do}
use Rattle.machine_kernel.specs.Future.{Shown, end_lines, future_of, stop_of, left_of, advanced, written_of, first_line, opened}
use Rattle.profile_machine.specs.Run.{lines_of_run, stop_of_run, at_tick}
use Rattle.machine_kernel.specs.Next.{IfGoing, IfEnded, IsOver}
use Rattle.machine_kernel.proofs.BusyLemmas.{QuietStretches}
use Rattle.machine_kernel.proofs.FutureLemmas.{Moves, advanced-future, advanced-stop, advanced-left, stopped-future, stopped-stop, opened-future, opened-stop}

-- one line's text, and the rest's
text_of-first : (owed rest : List (ℕ × Event)) → text_of (first_line owed ++ rest) ≡ written_of owed ++ text_of rest
text_of-first [] rest = refl
text_of-first (x ∷ xs) rest = refl

-- what was written, and what is to come, is as before the step
told-future : (old now : List ℕ) (s t : Shown) → Moves s → t ≡ advanced s → now ≡ old ++ written_of s.owed
    → now ++ text_of (future_of t) ≡ old ++ text_of (future_of s)
told-future old now s t m e told =
    rw (e, told) (append_assoc old (written_of s.owed) (text_of (future_of (advanced s)))
    ∙ ap (λ text. old ++ text) (sym (text_of-first s.owed (future_of (advanced s))) ∙ ap text_of (advanced-future s m)))

told-stop : (s t : Shown) → Moves s → t ≡ advanced s → stop_of t ≡ stop_of s
told-stop s t m e = ap stop_of e ∙ advanced-stop s m

told-left : (s t : Shown) → Moves s → t ≡ advanced s → (s.owed ≡ [] → s.stop ≡ None) → left_of t < left_of s
told-left s t m e none = rw e (advanced-left s none m)

-- ---- what a kernel shows goes on in time

is-true : (b : Bool) → IsTrue b → b ≡ true
is-true true h = refl
is-true false h = search rules

in-time : (p : Image) (at_instant : Bool) (stop : Option Stopped) (now bound : ℕ) → IsTrue (is_in_time at_instant stop now bound) → at_instant ≡ false
    → why_ended p stop ≡ None → now < bound
in-time p true stop now bound h at e = cc
in-time p false None now bound h at e = ltb-true now bound (is-true (nat_lt now bound) h)
in-time p false (Some reached) now bound h at e = cc

pub kernel-moves : (k : Kernel) → InstantsTakeNoTime → TocksTakeOneTick → QuietStretches → Moves (shown k)
kernel-moves k stands passes quiet = record {
  stands = stands k.program k.effect.world;
  passes = passes k.program k.effect.world;
  before = in-time k.program k.at_instant k.stop k.effect.world.time k.bound k.in_time;
  quiet = quiet;
}

-- ---- the clauses of a step

pub next-future : (old now : List ℕ) (j k : Kernel) → InstantsTakeNoTime → TocksTakeOneTick → QuietStretches → (r : Result Next NoMemory)
    → OnOk r (shown k ≡ advanced (shown j)) → OnOk r (now ≡ old ++ written_of (shown j).owed) → OnOk r (now ++ text_of (future k) ≡ old ++ text_of (future j))
unfolding future
next-future old now j k stands passes quiet (Ok x) step told = told-future old now (shown j) (shown k) (kernel-moves j stands passes quiet) step told
next-future old now j k stands passes quiet (Err e) step told = tt

pub next-lines : (j k : Kernel) → InstantsTakeNoTime → TocksTakeOneTick → QuietStretches → (r : Result Next NoMemory) → OnOk r (shown k ≡ advanced (shown j))
    → OnOk r (first_line (shown j).owed ++ future k ≡ future j)
unfolding future
next-lines j k stands passes quiet (Ok x) step =
    ap (λ s. first_line (shown j).owed ++ future_of s) step ∙ advanced-future (shown j) (kernel-moves j stands passes quiet)
next-lines j k stands passes quiet (Err e) step = tt

pub next-stop : (j k : Kernel) → InstantsTakeNoTime → TocksTakeOneTick → QuietStretches → (r : Result Next NoMemory) → OnOk r (shown k ≡ advanced (shown j))
    → OnOk r (stop_to_come k ≡ stop_to_come j)
unfolding stop_to_come
next-stop j k stands passes quiet (Ok x) step = told-stop (shown j) (shown k) (kernel-moves j stands passes quiet) step
next-stop j k stands passes quiet (Err e) step = tt

pub next-going : (j k : Kernel) → InstantsTakeNoTime → TocksTakeOneTick → QuietStretches → (r : Result Next NoMemory) → OnOk r (shown k ≡ advanced (shown j))
    → IfOk r (IfGoing ((shown j).owed ≡ [] → (shown j).stop ≡ None)) → IfOk r (IfGoing (left_to_do k < left_to_do j))
unfolding left_to_do
next-going j k stands passes quiet (Ok did.Going) step none = told-left (shown j) (shown k) (kernel-moves j stands passes quiet) step none
next-going j k stands passes quiet (Ok did.Ended) step none = tt
next-going j k stands passes quiet (Err e) step none = tt

ended-at : (s t : Shown) (stop : Option Ended) → s.stop ≡ stop → (s.owed ≡ []) × IsSome stop × (t ≡ s)
    → (future_of s ≡ []) × (t.stop ≡ Some (stop_of s))
ended-at s t None e h = cc
ended-at s t (Some why) e h =
    (stopped-future s why h.0 e, ap {A = Shown} (λ x. x.stop) h.2 ∙ (e ∙ ap Some (sym (stopped-stop s why e))))

pub next-ended : (j k : Kernel) (r : Result Next NoMemory) → IfOk r (IfEnded (IsOver (shown j) (shown k)))
    → IfOk r (IfEnded ((future j ≡ []) × ((shown k).stop ≡ Some (stop_to_come j))))
unfolding future stop_to_come
next-ended j k (Ok did.Going) h = tt
next-ended j k (Ok did.Ended) h = ended-at (shown j) (shown k) (shown j).stop refl h
next-ended j k (Err e) h = tt

-- ---- the opening

-- no bound lies before the first moment
none_before : (bound : ℕ) → IsTrue (nat_le 0 bound)
none_before zero = search rules
none_before (suc n) = search rules

pub at_first : (now bound : ℕ) → now ≡ 0 → IsTrue (nat_le now bound)
at_first now bound e = subst (λ n. IsTrue (nat_le n bound)) (sym e) (none_before bound)

pub open-future : (p : Image) (script : List (ℤ × Item)) (bound : ℕ) → RunsBeginAtZero → (r : Result Kernel NoMemory)
    → IfOk r (λ k. shown k ≡ opened p script bound) → IfOk r (λ k. future k ≡ lines_of_run p script bound)
unfolding future
open-future p script bound begins (Ok k) e = ap future_of e ∙ opened-future p script bound (begins p script)
open-future p script bound begins (Err fault) e = tt

pub open-stop : (p : Image) (script : List (ℤ × Item)) (bound : ℕ) → RunsBeginAtZero → (r : Result Kernel NoMemory)
    → IfOk r (λ k. shown k ≡ opened p script bound) → IfOk r (λ k. stop_to_come k ≡ stop_of_run p script bound)
unfolding stop_to_come
open-stop p script bound begins (Ok k) e = ap stop_of e ∙ opened-stop p script bound (begins p script)
open-stop p script bound begins (Err fault) e = tt

-- ---- the first line of a tock

first-of-ticks : (now : ℕ) (ts : List TickLine) (line : TickLine) (event : Event) (rest : List Event) → Some line ≡ first_of ts → event ≡ tick_event line
    → IsPrintableLine now event → ArePrintable (first_line (at_tick now (tick_events ts ++ rest)))
first-of-ticks now [] line event rest first is p = cc
first-of-ticks now (x ∷ xs) line event rest first is p =
    let same : line ≡ x = cc in
    (subst (IsPrintableLine now) (is ∙ ap tick_event same) p, tt)

pub printable-tick : (k : Kernel) (line : TickLine) (event : Event) → k.said ≡ [] → Some line ≡ first_of k.ticks → event ≡ tick_event line
    → IsPrintableLine k.told_at event → ArePrintable (first_line (shown k).owed)
printable-tick k line event said first is p =
    let rest = end_lines (why_ended k.program k.last) in
    subst (λ ls. ArePrintable (first_line (at_tick k.told_at (written k.program ls ++ (tick_events k.ticks ++ rest))))) (sym said)
    (first-of-ticks k.told_at k.ticks line event rest first is p)
