-- Every run keeps the law of handlers: behind each tock the agent is in the queue exactly where some release is not yet served,
-- and where it runs one release is being served.
use Rattle.std.proofs.Common.{◌≡◌, ℕ, ℤ, suc, ◌≤◌, Bool, true, false, not, ◌||◌, eqb, List, [], ◌∷◌}
use Rattle.std.proofs.Common.{length, Option, Some, None, is_some, refl, sym, ap, subst, ◌∙◌, arith}
use Rattle.std.specs.Prelude.{nat_lt, IsTrue}
use Rattle.std.proofs.lemmas.Bool.{and_from, false≢true}
use Rattle.trace_text.specs.declared.events.Event.{Event}
use Rattle.trace_text.specs.declared.events.Who.TheVariants as who
use Rattle.trace_text.specs.Queue.{AtEachTick, entry_of, somebody_eq}
use Rattle.trace_text.specs.Laws.{Releases, no_releases, see_releases, is_in_order, is_same, is_agent_right, HandlersOk}
use Rattle.trace_text.proofs.LawsFollowed.{ticks_hold, somebody_is}
use Rattle.profile_image.specs.declared.image.Image.{Image}
use Rattle.profile_image.specs.declared.script_items.Item.{Item}
use Rattle.profile_machine.specs.declared.world.World.{World}
use Rattle.profile_machine.specs.declared.world.appointments.Release.{Release}
use Rattle.ann_base.specs.Lists.{is_empty}
use Rattle.profile_machine.specs.Dispatching.{choose}
use Rattle.profile_machine.specs.Instant.{instant}
use Rattle.profile_machine.specs.Run.{opening, tock, run_of}
use Rattle.machine_laws.proofs.TimeLemmas.{instants_keep_runner, opening-runner}
use Rattle.machine_laws.proofs.LineLemmas.{instants_say_effects, openings_say_effects, tocks_say_ticks}
use Rattle.machine_laws.proofs.PlaceLemmas.{openings_place_by_lines, instants_place_by_lines, tocks_place_nobody}
use Rattle.machine_laws.proofs.DispatchLemmas.{tock-ran}
use Rattle.line_laws.proofs.Ticks.ReleaseLemmas.{Pending, Pending-within}
use Rattle.line_laws.proofs.Handlers.InTurn.{Serves, ShowsTurn, number_of, served_in_turn, runs_serve_in_turn, behind}
use Rattle.line_laws.proofs.Handlers.AgentLines.{placed_behind}
use Rattle.line_laws.proofs.Handlers.SparedMoves.{agent_runs}
use Rattle.line_laws.proofs.Handlers.Attending.{Attending}
use Rattle.line_laws.proofs.Handlers.AgentInstants.{instant-attended, opening-attended}
use Rattle.line_laws.proofs.Handlers.AgentPlaces.{placed_in, places-behind, chosen-placed, queue_behind, seen-behind, tock_lines}
use Rattle.line_laws.proofs.Handlers.AgentTocks.{runner_behind, effects-runner, tock-runner, tock-ticked}
use Rattle.line_laws.proofs.Handlers.TickByTick.{TicksOfRuns, run-ticks}

-- ---- what lines show

abbrev seen_in : Releases → Bool
seen_in s = is_some (entry_of who.Agent s.sight.queue)

behind-queue : (lines : List Event) (s : Releases) → (behind s lines).sight.queue ≡ queue_behind s.sight.queue lines
behind-queue [] s = refl
behind-queue (x ∷ xs) s = behind-queue xs (see_releases s x)

behind-runner : (lines : List Event) (s : Releases) → (behind s lines).sight.runner ≡ runner_behind s.sight.runner lines
behind-runner [] s = refl
behind-runner (x ∷ xs) s = behind-runner xs (see_releases s x)

behind-seen : (lines : List Event) (s : Releases) → seen_in (behind s lines) ≡ placed_behind (seen_in s) lines
behind-seen lines s = ap (λ q. is_some (entry_of who.Agent q)) (behind-queue lines s) ∙ seen-behind lines s.sight.queue

-- ---- lines and worlds have in common

record ShowsAgent (s : Releases) (w : World) : Type 0 where
  pub turn : ShowsTurn s w
  pub attending : Attending w
  pub placed : placed_in w.places ≡ agent_runs w
  pub seen : seen_in s ≡ agent_runs w
  pub runner : s.sight.runner ≡ w.ran

opening-shows : (p : Image) (script : List (ℤ × Item)) → ShowsAgent (behind no_releases (opening p script).1) (opening p script).0
opening-shows p script =
    let o = opening p script in
    let a = opening-attended p script in
    record {
      turn = (served_in_turn.openings p script).shows;
      attending = a.attending;
      placed = ap placed_in (openings_place_by_lines p script) ∙ places-behind o.1 [] ∙ a.placed;
      seen = behind-seen o.1 no_releases ∙ a.placed;
      runner = behind-runner o.1 no_releases ∙ effects-runner None o.1 (openings_say_effects p script) ∙ sym (opening-runner p script);
    }

instant-shows : (p : Image) (s : Releases) (w : World) → ShowsAgent s w → ShowsAgent (behind s (instant p w).1) (instant p w).0
instant-shows p s w h =
    let i = instant p w in
    let a = instant-attended p w h.attending in
    record {
      turn = (served_in_turn.instants p s w h.turn).shows;
      attending = a.attending;
      placed = ap placed_in (instants_place_by_lines p w) ∙ places-behind i.1 w.places ∙ ap (λ q. placed_behind q i.1) h.placed ∙ a.placed;
      seen = behind-seen i.1 s ∙ ap (λ q. placed_behind q i.1) h.seen ∙ a.placed;
      runner = behind-runner i.1 s ∙ effects-runner s.sight.runner i.1 (instants_say_effects p w) ∙ h.runner ∙ sym (instants_keep_runner p w);
    }

tock-shows : (p : Image) (s : Releases) (w : World) → ShowsAgent s w → ShowsAgent (behind s (tock p w).1) (tock p w).0
tock-shows p s w h =
    let t = tock p w in
    let a = tock-ticked p w h.attending in
    record {
      turn = (served_in_turn.tocks p s w h.turn).shows;
      attending = a.attending;
      placed = ap placed_in (tocks_place_nobody p w) ∙ h.placed ∙ sym a.runs_same;
      seen = behind-seen t.1 s ∙ tock_lines (seen_in s) t.1 (tocks_say_ticks p w) ∙ h.seen ∙ sym a.runs_same;
      runner = behind-runner t.1 s ∙ ap (λ r. runner_behind r t.1) h.runner ∙ tock-runner p w ∙ sym (tock-ran p w);
    }

-- ---- the law

below : (m n : ℕ) → suc m ≤ n → nat_lt m n ≡ true
below m n a = grind arith

not_below : (m n : ℕ) → n ≤ m → nat_lt m n ≡ false
not_below m n a = grind arith

-- some release is not yet served exactly where one is served or pending
unserved-by : (serving : Option Release) (releases : List Release) (s : Releases) (w : World) → w.serving ≡ serving → w.releases ≡ releases → ShowsTurn s w
    → nat_lt s.served s.released ≡ (is_some serving || not (is_empty releases))
unserved-by (Some r) releases s w is e h =
    let serves : Serves (Some r.number) s.serving s.begun s.served = subst (λ q. Serves (number_of q) s.serving s.begun s.served) is h.fits_now.serves in
    let next : s.begun ≡ suc s.served = serves.2 in
    let within : s.begun ≤ s.released = h.fits_now.within in
    below s.served s.released (omega (arith, next, within))
unserved-by None [] s w is e h =
    let serves : Serves None s.serving s.begun s.served = subst (λ q. Serves (number_of q) s.serving s.begun s.served) is h.fits_now.serves in
    let all : s.begun ≡ w.drawn.releases = subst (Pending s.begun w.drawn.releases) e h.pending_now in
    let came : w.drawn.releases ≡ s.released = h.fits_now.all_came in
    let same : s.begun ≡ s.served = serves.1 in
    not_below s.served s.released (omega (arith, all, came, same))
unserved-by None (r ∷ rest) s w is e h =
    let serves : Serves None s.serving s.begun s.served = subst (λ q. Serves (number_of q) s.serving s.begun s.served) is h.fits_now.serves in
    let first : Pending s.begun w.drawn.releases (r ∷ rest) = subst (Pending s.begun w.drawn.releases) e h.pending_now in
    let drawn : suc s.begun ≤ w.drawn.releases = Pending-within (suc s.begun) w.drawn.releases rest first.1 in
    let came : w.drawn.releases ≡ s.released = h.fits_now.all_came in
    let same : s.begun ≡ s.served = serves.1 in
    below s.served s.released (omega (arith, drawn, came, same))

served-alone : (serving : Option Release) (s : Releases) (w : World) → w.serving ≡ serving → is_some serving ≡ true → ShowsTurn s w → length s.serving ≡ 1
served-alone None s w is e h = absurd (false≢true e)
served-alone (Some r) s w is e h =
    let serves : Serves (Some r.number) s.serving s.begun s.served = subst (λ q. Serves (number_of q) s.serving s.begun s.served) is h.fits_now.serves in
    ap length serves.0

is_same-refl : (a b : Bool) → a ≡ b → is_same a b ≡ true
is_same-refl true b e = sym e
is_same-refl false b e = ap not (sym e)

unless : (test last : Bool) → (test ≡ true → last ≡ true) → (not test || last) ≡ true
unless true last h = h refl
unless false last h = refl

right-by : (s : Releases) (w : World) → ShowsAgent s w → (w.ran ≡ Some who.Agent → is_some w.serving ≡ true) → is_agent_right s ≡ true
right-by s w h serves =
    and_from (is_same (seen_in s) (nat_lt s.served s.released)) (not (somebody_eq s.sight.runner (Some who.Agent)) || eqb (length s.serving) 1)
    (is_same-refl (seen_in s) (nat_lt s.served s.released) (h.seen ∙ h.attending.attends ∙ sym (unserved-by w.serving w.releases s w refl refl h.turn)))
    (unless (somebody_eq s.sight.runner (Some who.Agent)) (eqb (length s.serving) 1)
    (λ e. ap (λ n. eqb n 1) (served-alone w.serving s w refl (serves (sym h.runner ∙ somebody_is s.sight.runner (Some who.Agent) e)) h.turn)))

opening-right : (p : Image) (script : List (ℤ × Item)) → is_agent_right (behind no_releases (opening p script).1) ≡ true
opening-right p script =
    right-by (behind no_releases (opening p script).1) (opening p script).0 (opening-shows p script)
    (λ ran. absurd (let nobody : None ≡ Some who.Agent = sym (opening-runner p script) ∙ ran in cc))

tock-right : (p : Image) (s : Releases) (w : World) → ShowsAgent s w → is_agent_right (behind s (tock p w).1) ≡ true
tock-right p s w h =
    right-by (behind s (tock p w).1) (tock p w).0 (tock-shows p s w h)
    (λ ran. let chosen : choose w ≡ Some who.Agent = sym (tock-ran p w) ∙ ran in
    (tock-ticked p w h.attending).serves chosen (sym h.placed ∙ chosen-placed w.places chosen))

-- ---- runs

module _ (p : Image) (script : List (ℤ × Item)) (bound : ℕ) where
  agent-ticks : TicksOfRuns see_releases is_in_order is_agent_right p script bound ShowsAgent no_releases
  agent-ticks = record {
    opens = opening-shows p script;
    instants = λ s w comes h. instant-shows p s w h;
    tocks = λ s w h. tock-shows p s w h;
    opens_right = opening-right p script;
    tocks_right = λ s w h. tock-right p s w h;
  }

  pub agent_is_right : AtEachTick see_releases no_releases (λ s. IsTrue (is_agent_right s)) (run_of p script bound)
  agent_is_right tick low =
      ticks_hold see_releases is_agent_right (λ s. IsTrue (is_agent_right s)) (λ s e. e) 0 no_releases (run_of p script bound)
      (run-ticks see_releases is_in_order is_agent_right agent-ticks) tick (omega arith) low

  pub run_keeps_handlers : HandlersOk (run_of p script bound)
  run_keeps_handlers = record { in_order = runs_serve_in_turn p script bound; agent = agent_is_right }

pub runs_keep_handlers : (p : Image) (script : List (ℤ × Item)) (bound : ℕ) → HandlersOk (run_of p script bound)
runs_keep_handlers p script bound = run_keeps_handlers p script bound
