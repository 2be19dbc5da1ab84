-- A law at each tick of every run, from what lines show of a world: as it is asked whenever the tick changes, it is kept where it
-- holds behind the opening and behind each tock.
use Rattle.std.proofs.Common.{◌≡◌, ℕ, ℤ, zero, suc, Bool, true, ◌||◌, leb, List, [], ◌∷◌, ◌++◌, Option, Some, None, refl, sym, subst, arith}
use Rattle.std.proofs.lemmas.Bool.{and_from, le-leb, or_left, or_right}
use Rattle.trace_text.specs.declared.events.Event.{Event}
use Rattle.trace_text.specs.declared.events.Event.TheVariants as line
use Rattle.trace_text.specs.declared.events.Ended.{Ended}
use Rattle.trace_text.specs.declared.events.Ended.TheVariants as why
use Rattle.trace_text.specs.Queue.{TraceLine, follows_ticks}
use Rattle.profile_image.specs.declared.image.Image.{Image}
use Rattle.profile_image.specs.declared.script_items.Item.{Item}
use Rattle.profile_machine.specs.declared.world.World.{World}
use Rattle.profile_machine.specs.Instant.{instant}
use Rattle.profile_machine.specs.Run.{Ran, opening, tock, stop, at_tick, run_from, run_of}
use Rattle.machine_laws.specs.Reached.{Comes, opened, ticked}
use Rattle.line_laws.proofs.Ticks.LineByLine.{seen_behind, seen_behind-append}
use Rattle.machine_laws.proofs.RunLemmas.{turn}

-- one instant, what follows it, and what is left of the run

module _ {S : Type 0} (see : S → Event → S) (lawful : S → Event → Bool) (right : S → Bool) where
  ticks-then : (tick now : ℕ) (s : S) (events : List Event) (rest : List TraceLine) → (leb now tick || right s) ≡ true
      → ((t : ℕ) → follows_ticks see right t (seen_behind see lawful s events) rest ≡ true) → follows_ticks see right tick s (at_tick now events ++ rest) ≡ true
  ticks-then tick now s [] rest e k = k tick
  ticks-then tick now s (x ∷ xs) rest e k =
      and_from (leb now tick || right s) (follows_ticks see right now (see s x) (at_tick now xs ++ rest)) e
      (ticks-then now now (see s x) xs rest (or_left (leb now now) (right (see s x)) (le-leb now now (omega arith))) k)

  ticks-alone : (tick now : ℕ) (s : S) (events : List Event) → (leb now tick || right s) ≡ true → follows_ticks see right tick s (at_tick now events) ≡ true
  ticks-alone tick now s [] e = refl
  ticks-alone tick now s (x ∷ xs) e =
      and_from (leb now tick || right s) (follows_ticks see right now (see s x) (at_tick now xs)) e
      (ticks-alone now now (see s x) xs (or_left (leb now now) (right (see s x)) (le-leb now now (omega arith))))

  pub record TicksOfRuns (p : Image) (script : List (ℤ × Item)) (bound : ℕ) (Shows : S → World → Type 0) (s : S) : Type 0 where
    pub opens : let o = opening p script in Shows (seen_behind see lawful s o.1) o.0
    pub instants : (seen : S) (w : World) → Comes p script bound w → Shows seen w → let i = instant p w in Shows (seen_behind see lawful seen i.1) i.0
    pub tocks : (seen : S) (w : World) → Shows seen w → let t = tock p w in Shows (seen_behind see lawful seen t.1) t.0
    pub opens_right : let o = opening p script in right (seen_behind see lawful s o.1) ≡ true
    pub tocks_right : (seen : S) (w : World) → Shows seen w → right (seen_behind see lawful seen (tock p w).1) ≡ true

  turn-ticks : (tick now : ℕ) (s : S) (i t : World × List Event) (rest : Ran) (reason : Option Ended) → right s ≡ true
      → (reason ≡ None → (u : ℕ) → follows_ticks see right u (seen_behind see lawful s (i.1 ++ t.1)) rest.lines ≡ true)
      → follows_ticks see right tick s (turn now i t rest reason).lines ≡ true
  unfolding turn
  turn-ticks tick now s i t rest (Some reason) is k = ticks-alone tick now s (i.1 ++ line.End reason ∷ []) (or_right (leb now tick) (right s) is)
  turn-ticks tick now s i t rest None is k = ticks-then tick now s (i.1 ++ t.1) rest.lines (or_right (leb now tick) (right s) is) (k refl)

  module _ {p : Image} {script : List (ℤ × Item)} {bound : ℕ} {Shows : S → World → Type 0} {s : S} (law : TicksOfRuns p script bound Shows s) where
    run_from-ticks : (fuel tick : ℕ) (w : World) (seen : S) → Comes p script bound w → Shows seen w → right seen ≡ true
        → follows_ticks see right tick seen (run_from fuel p bound w).lines ≡ true
    unfolding turn
    run_from-ticks zero tick w seen comes h is = ticks-alone tick w.time seen (line.End why.Bound ∷ []) (or_right (leb w.time tick) (right seen) is)
    run_from-ticks (suc fuel) tick w seen comes h is =
        let i = instant p w in
        let t = tock p i.0 in
        let behind = law.instants seen w comes h in
        let joined = seen_behind-append see lawful seen i.1 t.1 in
        turn-ticks tick w.time seen i t (run_from fuel p bound t.0) (stop p bound i.0) is
        (λ goes_on u. run_from-ticks fuel u t.0 (seen_behind see lawful seen (i.1 ++ t.1)) (ticked w comes goes_on)
        (subst (λ q. Shows q t.0) (sym joined) (law.tocks (seen_behind see lawful seen i.1) i.0 behind))
        (subst (λ q. right q ≡ true) (sym joined) (law.tocks_right (seen_behind see lawful seen i.1) i.0 behind)))

    pub run-ticks : follows_ticks see right 0 s (run_of p script bound) ≡ true
    run-ticks =
        let o = opening p script in
        ticks-then 0 0 s o.1 (run_from (suc bound) p bound o.0).lines refl
        (λ t. run_from-ticks (suc bound) t o.0 (seen_behind see lawful s o.1) opened law.opens law.opens_right)
