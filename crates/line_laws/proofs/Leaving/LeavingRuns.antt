-- A law at each line of every run that follows where the lines of regions and controlled objects come rightly.
use Rattle.std.proofs.Common.{◌≡◌, ℕ, ℤ, zero, suc, Bool, true, false, ◌&&◌, List, [], ◌∷◌, ◌++◌, Option, Some, None, refl, sym, subst}
use Rattle.std.specs.Prelude.{IsTrue}
use Rattle.trace_text.specs.declared.events.Event.{Event}
use Rattle.trace_text.specs.declared.events.Event.TheVariants as written
use Rattle.trace_text.specs.declared.events.Ended.{Ended}
use Rattle.trace_text.specs.declared.events.Ended.TheVariants as why
use Rattle.trace_text.specs.Queue.{TraceLine, AtEachLine, follows_lines}
use Rattle.trace_text.specs.Laws.{remember}
use Rattle.trace_text.proofs.LawsFollowed.{lines_hold}
use Rattle.profile_image.specs.declared.image.Image.{Image}
use Rattle.profile_image.specs.declared.script_items.Item.{Item}
use Rattle.profile_machine.specs.declared.world.World.{World}
use Rattle.profile_machine.specs.Instant.{instant}
use Rattle.profile_machine.specs.Run.{Ran, opening, blank_world, tock, stop, at_tick, stopped, then_runs, run_from, run_of}
use Rattle.line_laws.proofs.Ticks.LineByLine.{seen_behind, seen_behind-append, Follow, Follow-append}
use Rattle.line_laws.proofs.Leaving.FreeWorlds.{Inv}
use Rattle.line_laws.proofs.Leaving.RegionLines.{Told, Right, NotLeaving}
use Rattle.line_laws.proofs.Leaving.LeftLines.{told_event, behind, tells}
use Rattle.line_laws.proofs.Leaving.RegionTies.{Tied}
use Rattle.line_laws.proofs.Leaving.Telling.{Follows, RightEvent, behind_all}
use Rattle.line_laws.proofs.Leaving.Following.{Following, RanAwake, instant-following, opening-following}
use Rattle.line_laws.proofs.Leaving.WakingRuns.{NobodyWaits, opening-unplaced, instant-unplaced, tock-unplaced, tock-following, chosen-awake, opening-awake}

-- ---- worlds

-- nothing is drawn in the first world
blank-tied : (p : Image) (script : List (ℤ × Item)) → Tied [] (blank_world p script)
blank-tied p script = record {
  marks = λ r. tt;
  rest = record {
    leaving_drawn = λ r high. refl;
    left_drawn = λ r high. refl;
    none = refl;
    objects = refl;
    live_drawn = λ o high. refl;
    regions_drawn = λ o high. refl;
    final_drawn = λ o high. refl;
  };
}

-- ---- lines

-- W is what lines that came rightly keep, and the law follows from it
module _ (W : List Told → Type 0) (first : W []) (next : (s : List Told) (e : Told) → W s → Right NotLeaving s e → W (e ∷ s))
    (law : List Event → Event → Bool)
    (lawful : (past : List Event) (x : Event) → W (tells past) → RightEvent NotLeaving (tells past) (told_event x) → law past x ≡ true)
    (ending : (past : List Event) (reason : Ended) → law past (written.End reason) ≡ true) where
  next-event : (s : List Told) (e : Option Told) → W s → RightEvent NotLeaving s e → W (behind e s)
  next-event s None w h = w
  next-event s (Some e) w h = next s e w h

  follows-law : (past : List Event) (xs : List Event) → W (tells past) → Follows NotLeaving (tells past) xs
      → Follow remember law past xs × W (tells (seen_behind remember law past xs))
  follows-law past [] w h = (tt, w)
  follows-law past (x ∷ xs) w h =
      let rest = follows-law (x ∷ past) xs (next-event (tells past) (told_event x) w h.0) h.1 in
      ((lawful past x w h.0, rest.0), rest.1)

  behind_all-tells : (past : List Event) (xs : List Event) → behind_all NotLeaving (tells past) xs ≡ tells (seen_behind remember law past xs)
  behind_all-tells past [] = refl
  behind_all-tells past (x ∷ xs) = behind_all-tells (x ∷ past) xs

  record Shows (past : List Event) (w : World) : Type 0 where
    tied : Tied (tells past) w
    well : W (tells past)
    inv : Inv w
    unplaced : NobodyWaits w

  record Leads_on (past : List Event) (lines : List Event) (v : World) : Type 0 where
    follow : Follow remember law past lines
    shows : Shows (seen_behind remember law past lines) v

  shown-leads_on : (past lines : List Event) (w v : World) → Tied (tells past) w → W (tells past) → Following w lines v → NobodyWaits v → Leads_on past lines v
  shown-leads_on past lines w v tied well f unplaced =
      let shown = f.shown (tells past) tied in
      let k = follows-law past lines well shown.0 in
      record {
        follow = k.0;
        shows = record { tied = subst (λ s. Tied s v) (behind_all-tells past lines) shown.1; well = k.1; inv = f.inv; unplaced = unplaced };
      }

  openings-lead_on : (p : Image) (script : List (ℤ × Item)) → Leads_on [] (opening p script).1 (opening p script).0
  openings-lead_on p script =
      shown-leads_on [] (opening p script).1 (blank_world p script) (opening p script).0 (blank-tied p script) first (opening-following p script)
      (opening-unplaced p script)

  instants-lead_on : (p : Image) (past : List Event) (w : World) → Shows past w → RanAwake w → Leads_on past (instant p w).1 (instant p w).0
  instants-lead_on p past w h awake =
      let f = instant-following p w h.inv awake in
      shown-leads_on past (instant p w).1 w (instant p w).0 h.tied h.well f (instant-unplaced p w h.unplaced f)

  tocks-lead_on : (p : Image) (past : List Event) (w : World) → Shows past w → Leads_on past (tock p w).1 (tock p w).0
  tocks-lead_on p past w h =
      let f = tock-following p w h.inv in
      shown-leads_on past (tock p w).1 w (tock p w).0 h.tied h.well f (tock-unplaced p w h.unplaced f)

  -- ---- runs

  both : (a b : Bool) → a ≡ true → b ≡ true → (a && b) ≡ true
  both true b p q = q
  both false b p q = p

  follows-then : (n : ℕ) (s : List Event) (events : List Event) (rest : List TraceLine) → Follow remember law s events
      → follows_lines remember law (seen_behind remember law s events) rest ≡ true → follows_lines remember law s (at_tick n events ++ rest) ≡ true
  follows-then n s [] rest a b = b
  follows-then n s (x ∷ xs) rest a b =
      both (law s x) (follows_lines remember law (remember s x) (at_tick n xs ++ rest)) a.0 (follows-then n (remember s x) xs rest a.1 b)

  follows-alone : (n : ℕ) (s : List Event) (events : List Event) → Follow remember law s events → follows_lines remember law s (at_tick n events) ≡ true
  follows-alone n s [] a = refl
  follows-alone n s (x ∷ xs) a = both (law s x) (follows_lines remember law (remember s x) (at_tick n xs)) a.0 (follows-alone n (remember s x) xs a.1)

  abbrev turn : ℕ → World × List Event → World × List Event → Ran → Option Ended → Ran
  turn now i t rest (Some reason) = stopped now i.1 reason
  turn now i t rest None = then_runs now (i.1 ++ t.1) rest

  turn-follows : (now : ℕ) (s : List Event) (i t : World × List Event) (rest : Ran) (reason : Option Ended) → Follow remember law s i.1
      → Follow remember law (seen_behind remember law s i.1) t.1
      → follows_lines remember law (seen_behind remember law (seen_behind remember law s i.1) t.1) rest.lines ≡ true
      → follows_lines remember law s (turn now i t rest reason).lines ≡ true
  turn-follows now s i t rest (Some reason) a b c =
      follows-alone now s (i.1 ++ written.End reason ∷ [])
      (Follow-append remember law s i.1 (written.End reason ∷ []) a (ending (seen_behind remember law s i.1) reason, tt))
  turn-follows now s i t rest None a b c =
      follows-then now s (i.1 ++ t.1) rest.lines (Follow-append remember law s i.1 t.1 a b)
      (subst (λ seen. follows_lines remember law seen rest.lines ≡ true) (sym (seen_behind-append remember law s i.1 t.1)) c)

  run_from-follows : (fuel : ℕ) (p : Image) (bound : ℕ) (w : World) (past : List Event) → Shows past w → RanAwake w
      → follows_lines remember law past (run_from fuel p bound w).lines ≡ true
  run_from-follows zero p bound w past h awake = follows-alone w.time past (written.End why.Bound ∷ []) (ending past why.Bound, tt)
  run_from-follows (suc fuel) p bound w past h awake =
      let i = instant p w in
      let t = tock p i.0 in
      let behind_instant = instants-lead_on p past w h awake in
      let later = tocks-lead_on p (seen_behind remember law past i.1) i.0 behind_instant.shows in
      turn-follows w.time past i t (run_from fuel p bound t.0) (stop p bound i.0) behind_instant.follow later.follow
      (run_from-follows fuel p bound t.0 (seen_behind remember law (seen_behind remember law past i.1) t.1) later.shows
      (chosen-awake p i.0 later.shows.unplaced))

  run-follows : (p : Image) (script : List (ℤ × Item)) (bound : ℕ) → follows_lines remember law [] (run_of p script bound) ≡ true
  run-follows p script bound =
      let o = opening p script in
      let k = openings-lead_on p script in
      follows-then 0 [] o.1 (run_from (suc bound) p bound o.0).lines k.follow
      (run_from-follows (suc bound) p bound o.0 (seen_behind remember law [] o.1) k.shows (opening-awake p script))

  pub at_each_line : (p : Image) (script : List (ℤ × Item)) (bound : ℕ) → AtEachLine remember [] (λ past x. IsTrue (law past x)) (run_of p script bound)
  at_each_line p script bound = lines_hold remember law [] (run_of p script bound) (run-follows p script bound)
