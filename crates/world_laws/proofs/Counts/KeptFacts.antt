-- A fact of worlds that the opening has, and that every change keeps, holds of every world that a run reaches.
use Rattle.std.proofs.Common.{◌≡◌, ℕ, ℤ, List, Option, Some, None, refl, sym, subst}
use Rattle.trace_text.specs.declared.events.Event.{Event}
use Rattle.trace_text.specs.declared.events.Mode.TheVariants.{Write}
use Rattle.trace_text.specs.declared.events.Who.{Who}
use Rattle.trace_text.specs.declared.events.Who.TheVariants as who
use Rattle.profile_image.specs.declared.image.Image.{Image}
use Rattle.profile_image.specs.declared.script_items.Item.{Item}
use Rattle.profile_machine.specs.declared.world.World.{World}
use Rattle.profile_machine.specs.declared.world.marks.Frame.{Frame}
use Rattle.profile_machine.specs.declared.world.appointments.HandlerOf.{HandlerOf}
use Rattle.profile_machine.specs.declared.world.appointments.Release.{Release}
use Rattle.profile_machine.specs.Dispatching.{choose}
use Rattle.profile_machine.specs.Frames.{new_frame, push}
use Rattle.profile_machine.specs.Protected.{new_protected_mark}
use Rattle.profile_machine.specs.Serving.{serves_nothing}
use Rattle.profile_machine.specs.Handlers.{add_release}
use Rattle.profile_machine.specs.Run.{opens, blank_world, with_serving, next_tick}
use Rattle.machine_laws.specs.Reached.{Reached}
use Rattle.machine_laws.proofs.Moves.{Puts}
use Rattle.machine_laws.proofs.FineMoves.{GoodWorld, FineMoves, Openings, Exits, Anybody, AnyRegion, AnyRelease, nature}
use Rattle.machine_laws.proofs.FinestMoves.{AllMoves, TockChanges, Anyhow, finest, begun, setting_moves, mark_openings, own_regions, action_ends, effect-leads}
use Rattle.machine_laws.proofs.ReachedLemmas.{Lasts, reached-lasts}
use Rattle.machine_laws.proofs.Kept.Instant.{instant-leads}
use Rattle.machine_laws.proofs.Kept.Run.{before_tick, tock-parts, opens-keeps, before_tick-leads}
use Rattle.world_laws.proofs.Behind.{Behind, BehindMove}
use Rattle.machine_laws.proofs.Kept.Combinators.{Leads}

-- the fact holds of the world behind

-- what a fact needs: it is kept by each change, of whomever; by the release that comes, is served and ends, and by the tick
pub record KeepsFact (G : GoodWorld) : Type 0 where
  pub moves : FineMoves G Anybody Anybody (Behind G) (BehindMove G)
  pub openings : Openings G Anybody Anybody AnyRegion (Behind G)
  pub exits : Exits G Anybody AnyRelease (Behind G)
  pub pushes : (name : Who) (f : Frame) (w : World) → G w → (nature f.mark).region ≡ None → G (push name f w)
  pub releases : (h : HandlerOf) (argument : Option ℕ) (w : World) → G w → G (add_release h argument w)
  pub takes_up : (r : Release) (rest : List Release) (w : World) → G w → G (with_serving r rest w)
  pub has_served : (w : World) → G w → G (serves_nothing w)
  pub ticks : (ran : Option Who) (w : World) → G w → G (next_tick ran w)
  pub at_first : (p : Image) (script : List (ℤ × Item)) → G (blank_world p script)

module _ {G : GoodWorld} (fact : KeepsFact G) where
  all : AllMoves G Anyhow (Behind G) (BehindMove G)
  all = record {
    fine = finest fact.moves;
    openings = mark_openings fact.moves fact.openings;
    regions = own_regions fact.openings;
    ends = action_ends fact.exits;
    handlers = record {
      handles =
          λ o n w v xs g lets placed k. begun fact.moves who.Agent o Write None (Some n)
          (λ u good. fact.pushes who.Agent (new_frame (new_protected_mark o Write None (Some n)) None) u good refl) w v xs g lets placed k;
      has_served = λ r w g is. fact.has_served w g;
    };
    settings = setting_moves fact.moves;
    releases = λ h argument w g. fact.releases h argument w g;
  }

  tocks : TockChanges G (BehindMove G)
  tocks = record { tells = λ event w g is. g; serves = λ r rest w g is. fact.takes_up r rest w g }

  puts : (p : Image) → Puts G (Behind G) p
  puts p = record { puts = λ name s pieces text v w good is e. good }

  lasts : Lasts G
  unfolding Leads
  lasts = record {
    at_opening = λ p script. effect-leads all.fine p (opens p) (opens-keeps all p) (blank_world p script) (fact.at_first p script);
    at_instant = λ p w good. instant-leads all p (puts p) w good;
    at_tock =
        λ p w good. subst (λ (a : World × List Event). G a.0) (sym (tock-parts p w))
        (fact.ticks (choose w) (before_tick p (choose w) w).0 (before_tick-leads all tocks p (choose w) w good));
  }

  pub reached-has : (p : Image) (script : List (ℤ × Item)) (bound : ℕ) (w : World) → Reached p script bound w → G w
  reached-has = reached-lasts lasts
