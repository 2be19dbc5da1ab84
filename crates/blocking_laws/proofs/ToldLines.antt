-- A law at each line of every run, from what is known before each instant of what its lines have told.
use Rattle.std.proofs.Common.{◌≡◌, ℕ, ℤ, zero, suc, Bool, true, List, [], ◌∷◌, ◌++◌, Option, Some, None, refl, sym, ap, subst, ◌∙◌}
use Rattle.std.proofs.lemmas.Bool.{and_from}
use Rattle.trace_text.specs.declared.events.Event.{Event}
use Rattle.trace_text.specs.declared.events.Event.TheVariants as line
use Rattle.trace_text.specs.declared.events.Ended.{Ended}
use Rattle.trace_text.specs.declared.events.Ended.TheVariants as why
use Rattle.trace_text.specs.Queue.{TraceLine, follows_lines}
use Rattle.profile_image.specs.declared.image.Image.{Image}
use Rattle.profile_image.specs.declared.script_items.Item.{Item}
use Rattle.profile_machine.specs.declared.world.World.{World}
use Rattle.profile_machine.specs.Instant.{instant}
use Rattle.profile_machine.specs.Run.{Ran, at_tick, opening, run_from, run_of, stop, tock}
use Rattle.machine_laws.proofs.RunLemmas.{turn}
use Rattle.line_laws.proofs.Ticks.LineByLine.{Follow, Follow-append, seen_behind, seen_behind-append}
use Rattle.ceiling_laws.specs.RunLaws.{Tells, told_first, told_on}

module _ {S : Type 0} (see : S → Event → S) (lawful : S → Event → Bool) where
  pub follows-then : (n : ℕ) (s : S) (events : List Event) (rest : List TraceLine) → Follow see lawful s events
      → follows_lines see lawful (seen_behind see lawful s events) rest ≡ true → follows_lines see lawful s (at_tick n events ++ rest) ≡ true
  follows-then n s [] rest a b = b
  follows-then n s (x ∷ xs) rest a b =
      and_from (lawful s x) (follows_lines see lawful (see s x) (at_tick n xs ++ rest)) a.0 (follows-then n (see s x) xs rest a.1 b)

  pub follows-alone : (n : ℕ) (s : S) (events : List Event) → Follow see lawful s events → follows_lines see lawful s (at_tick n events) ≡ true
  follows-alone n s [] a = refl
  follows-alone n s (x ∷ xs) a = and_from (lawful s x) (follows_lines see lawful (see s x) (at_tick n xs)) a.0 (follows-alone n (see s x) xs a.1)

  -- what is told before an instant decides its lines, and those of the tock behind it
  pub record ToldRuns (p : Image) (script : List (ℤ × Item)) (bound : ℕ) (s : S) : Type 0 where
    pub opens : Follow see lawful s (opening p script).1
    pub instants : (lines : List Event) (w : World) → Tells p script bound lines w → Follow see lawful (seen_behind see lawful s lines) (instant p w).1
    pub tocks : (seen : S) (w : World) → Follow see lawful seen (tock p w).1
    pub ends : (seen : S) (reason : Ended) → lawful seen (line.End reason) ≡ true

  pub turn-follows : (now : ℕ) (s : S) (i t : World × List Event) (rest : Ran) (reason : Option Ended)
      → ((seen : S) (other : Ended) → lawful seen (line.End other) ≡ true) → Follow see lawful s i.1 → Follow see lawful (seen_behind see lawful s i.1) t.1
      → (reason ≡ None → follows_lines see lawful (seen_behind see lawful (seen_behind see lawful s i.1) t.1) rest.lines ≡ true)
      → follows_lines see lawful s (turn now i t rest reason).lines ≡ true
  unfolding turn
  turn-follows now s i t rest (Some reason) ends a b k =
      follows-alone now s (i.1 ++ line.End reason ∷ [])
      (Follow-append see lawful s i.1 (line.End reason ∷ []) a (ends (seen_behind see lawful s i.1) reason, tt))
  turn-follows now s i t rest None ends a b k =
      follows-then now s (i.1 ++ t.1) rest.lines (Follow-append see lawful s i.1 t.1 a b)
      (subst (λ q. follows_lines see lawful q rest.lines ≡ true) (sym (seen_behind-append see lawful s i.1 t.1)) (k refl))

  module _ {p : Image} {script : List (ℤ × Item)} {bound : ℕ} {s : S} (law : ToldRuns p script bound s) where
    run_from-follows : (fuel : ℕ) (lines : List Event) (w : World) → Tells p script bound lines w
        → follows_lines see lawful (seen_behind see lawful s lines) (run_from fuel p bound w).lines ≡ true
    unfolding turn
    run_from-follows zero lines w told =
        follows-alone w.time (seen_behind see lawful s lines) (line.End why.Bound ∷ []) (law.ends (seen_behind see lawful s lines) why.Bound, tt)
    run_from-follows (suc fuel) lines w told =
        let i = instant p w in
        let t = tock p i.0 in
        let seen = seen_behind see lawful s lines in
        turn-follows w.time seen i t (run_from fuel p bound t.0) (stop p bound i.0) law.ends (law.instants lines w told)
        (law.tocks (seen_behind see lawful seen i.1) i.0)
        (λ going. subst (λ q. follows_lines see lawful q (run_from fuel p bound t.0).lines ≡ true)
        (seen_behind-append see lawful s (lines ++ i.1) t.1 ∙ ap (λ q. seen_behind see lawful q t.1) (seen_behind-append see lawful s lines i.1))
        (run_from-follows fuel ((lines ++ i.1) ++ t.1) t.0 (told_on lines w told going)))

    pub run-follows : follows_lines see lawful s (run_of p script bound) ≡ true
    run-follows =
        let o = opening p script in
        follows-then 0 s o.1 (run_from (suc bound) p bound o.0).lines law.opens (run_from-follows (suc bound) o.1 o.0 told_first)
