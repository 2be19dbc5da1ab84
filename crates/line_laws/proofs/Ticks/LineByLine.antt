-- A law at each line of every run, from what lines show of a world: the opening, each instant and each tock keep both the
-- law and what is shown. So a further law of lines is one record.
use Rattle.std.proofs.Common.{◌≡◌, ℕ, ℤ, zero, suc, Bool, true, List, [], ◌∷◌, ◌++◌, Option, Some, None, refl, sym, subst}
use Rattle.std.specs.Prelude.{IsTrue}
use Rattle.std.proofs.lemmas.Bool.{and_from}
use Rattle.trace_text.specs.declared.events.Event.{Event}
use Rattle.trace_text.specs.declared.events.Event.TheVariants as line
use Rattle.trace_text.specs.declared.events.Ended.{Ended}
use Rattle.trace_text.specs.declared.events.Ended.TheVariants as why
use Rattle.trace_text.specs.Queue.{TraceLine, AtEachLine, follows_lines}
use Rattle.trace_text.proofs.LawsFollowed.{lines_hold}
use Rattle.profile_image.specs.declared.image.Image.{Image}
use Rattle.profile_image.specs.declared.script_items.Item.{Item}
use Rattle.profile_machine.specs.declared.world.World.{World}
use Rattle.profile_machine.specs.Instant.{instant}
use Rattle.machine_laws.specs.LineKinds.{AllAre}
use Rattle.profile_machine.specs.Run.{Ran, opening, tock, stop, at_tick, run_from, run_of}
use Rattle.machine_laws.proofs.RunLemmas.{turn}

-- one instant, what follows it, and what is left of the run

module _ {S : Type 0} (see : S → Event → S) (lawful : S → Event → Bool) where
  -- what is shown behind these lines
  abbrev pub seen_behind : S → List Event → S
  seen_behind s [] = s
  seen_behind s (x ∷ xs) = seen_behind (see s x) xs

  -- the law at each of these lines
  abbrev pub Follow : S → List Event → Type 0
  Follow s [] = Unit {0}
  Follow s (x ∷ xs) = (lawful s x ≡ true) × Follow (see s x) xs

  pub seen_behind-append : (s : S) (xs ys : List Event) → seen_behind s (xs ++ ys) ≡ seen_behind (seen_behind s xs) ys
  seen_behind-append s [] ys = refl
  seen_behind-append s (x ∷ xs) ys = seen_behind-append (see s x) xs ys

  pub Follow-append : (s : S) (xs ys : List Event) → Follow s xs → Follow (seen_behind s xs) ys → Follow s (xs ++ ys)
  Follow-append s [] ys a b = b
  Follow-append s (x ∷ xs) ys a b = (a.0, Follow-append (see s x) xs ys a.1 b)

  pub Follow-all : (test : Event → Bool) → ((s : S) (event : Event) → test event ≡ true → lawful s event ≡ true) → (s : S) (events : List Event)
      → AllAre test events → Follow s events
  Follow-all test f s [] a = tt
  Follow-all test f s (x ∷ xs) a = (f s x a.0, Follow-all test f (see s x) xs a.1)

  follows-then : (n : ℕ) (s : S) (events : List Event) (rest : List TraceLine) → Follow s events → follows_lines see lawful (seen_behind s events) rest ≡ true
      → follows_lines see lawful s (at_tick n events ++ rest) ≡ true
  follows-then n s [] rest a b = b
  follows-then n s (x ∷ xs) rest a b =
      and_from (lawful s x) (follows_lines see lawful (see s x) (at_tick n xs ++ rest)) a.0 (follows-then n (see s x) xs rest a.1 b)

  follows-alone : (n : ℕ) (s : S) (events : List Event) → Follow s events → follows_lines see lawful s (at_tick n events) ≡ true
  follows-alone n s [] a = refl
  follows-alone n s (x ∷ xs) a = and_from (lawful s x) (follows_lines see lawful (see s x) (at_tick n xs)) a.0 (follows-alone n (see s x) xs a.1)

  -- what lines that are kept lead to: the law at each, and what is shown is what the world has
  pub record Leads_on (Shows : S → World → Type 0) (s : S) (lines : List Event) (w : World) : Type 0 where
    pub follow : Follow s lines
    pub shows : Shows (seen_behind s lines) w

  pub record OfRuns (Shows : S → World → Type 0) (s : S) : Type 0 where
    pub openings : (p : Image) (script : List (ℤ × Item)) → let o = opening p script in Leads_on Shows s o.1 o.0
    pub instants : (p : Image) (seen : S) (w : World) → Shows seen w → let i = instant p w in Leads_on Shows seen i.1 i.0
    pub tocks : (p : Image) (seen : S) (w : World) → Shows seen w → let t = tock p w in Leads_on Shows seen t.1 t.0
    pub ends : (p : Image) (bound : ℕ) (seen : S) (w : World) (reason : Ended) → Shows seen w → stop p bound w ≡ Some reason
        → lawful seen (line.End reason) ≡ true
    pub bound : (seen : S) → lawful seen (line.End why.Bound) ≡ true

  turn-follows : (now : ℕ) (s : S) (i t : World × List Event) (rest : Ran) (reason : Option Ended)
      → ((other : Ended) → reason ≡ Some other → lawful (seen_behind s i.1) (line.End other) ≡ true)
      → Follow s i.1 → Follow (seen_behind s i.1) t.1 → follows_lines see lawful (seen_behind (seen_behind s i.1) t.1) rest.lines ≡ true
      → follows_lines see lawful s (turn now i t rest reason).lines ≡ true
  unfolding turn
  turn-follows now s i t rest (Some reason) ends a b c =
      follows-alone now s (i.1 ++ line.End reason ∷ []) (Follow-append s i.1 (line.End reason ∷ []) a (ends reason refl, tt))
  turn-follows now s i t rest None ends a b c =
      follows-then now s (i.1 ++ t.1) rest.lines (Follow-append s i.1 t.1 a b)
      (subst (λ seen. follows_lines see lawful seen rest.lines ≡ true) (sym (seen_behind-append s i.1 t.1)) c)

  module _ {Shows : S → World → Type 0} {s : S} (law : OfRuns Shows s) where
    run_from-follows : (fuel : ℕ) (p : Image) (bound : ℕ) (w : World) (seen : S) → Shows seen w
        → follows_lines see lawful seen (run_from fuel p bound w).lines ≡ true
    unfolding turn
    run_from-follows zero p bound w seen h = follows-alone w.time seen (line.End why.Bound ∷ []) (law.bound seen, tt)
    run_from-follows (suc fuel) p bound w seen h =
        let i = instant p w in
        let t = tock p i.0 in
        let behind = law.instants p seen w h in
        let later = law.tocks p (seen_behind seen i.1) i.0 behind.shows in
        turn-follows w.time seen i t (run_from fuel p bound t.0) (stop p bound i.0)
        (λ reason e. law.ends p bound (seen_behind seen i.1) i.0 reason behind.shows e) behind.follow later.follow
        (run_from-follows fuel p bound t.0 (seen_behind (seen_behind seen i.1) t.1) later.shows)

    pub run-follows : (p : Image) (script : List (ℤ × Item)) (bound : ℕ) → follows_lines see lawful s (run_of p script bound) ≡ true
    run-follows p script bound =
        let o = opening p script in
        let first = law.openings p script in
        follows-then 0 s o.1 (run_from (suc bound) p bound o.0).lines first.follow (run_from-follows (suc bound) p bound o.0 (seen_behind s o.1) first.shows)

    pub run-at_each_line : (p : Image) (script : List (ℤ × Item)) (bound : ℕ)
        → AtEachLine see s (λ seen event. IsTrue (lawful seen event)) (run_of p script bound)
    run-at_each_line p script bound = lines_hold see lawful s (run_of p script bound) (run-follows p script bound)
