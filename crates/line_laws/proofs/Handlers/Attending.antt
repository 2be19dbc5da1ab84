-- The agent is ready exactly where it serves a release or one is pending; it has no marks where it serves none. What an action
-- leaves so, and what its lines make of the agent's place.
use Rattle.std.proofs.Common.{◌≡◌, Bool, true, false, not, ◌||◌, List, [], ◌∷◌, ◌++◌, Option, Some, None, is_some, refl, sym, ap, subst, ◌∙◌}
use Rattle.std.proofs.lemmas.Bool.{false≢true, or_parts}
use Rattle.ann_base.specs.declared.identities.RegionNo.{RegionNo}
use Rattle.profile_image.specs.declared.image.Image.{Image}
use Rattle.profile_machine.specs.declared.world.World.{World}
use Rattle.profile_machine.specs.declared.world.appointments.Release.{Release}
use Rattle.profile_machine.specs.declared.world.lines.Said.{Said}
use Rattle.ann_base.specs.Lists.{is_empty}
use Rattle.machine_laws.proofs.Moves.{lines_of}
use Rattle.machine_laws.proofs.FineMoves.{Nature, natures}
use Rattle.line_laws.proofs.Handlers.AgentLines.{placed_behind, calls_agent, are_calls, are_calls-append, NoneBlocks, NoneBlocks-append}
use Rattle.line_laws.proofs.Handlers.AgentLines.{NoneCalls, Closes, Closes-behind, Closes-before, lines-call, lines-close}
use Rattle.line_laws.proofs.Handlers.AgentWorlds.{Colour, Apart}
use Rattle.line_laws.proofs.Handlers.AgentMarks.{Standing}
use Rattle.line_laws.proofs.Handlers.SparedMoves.{agent_runs, Attends_all, Spared, or-assoc}
use Rattle.line_laws.proofs.Handlers.OwnMoves.{Busy, BusyStep}

abbrev pub Marked : Option Release → List Nature → Type 0
Marked None ns = ns ≡ []
Marked (Some r) ns = Standing ns

pub record Attending (w : World) : Type 0 where
  pub colour : Colour
  pub apart : Apart colour w
  pub marks : Marked w.serving (natures w.agent.frames)
  pub attends : Attends_all w

-- ---- its place behind lines

pub data Placing (before : Bool) (lines : List Said) (after : Bool) : Type 0 where
  calm_so : NoneBlocks lines → after ≡ (before || are_calls lines) → Placing before lines after
  closes_so : Closes lines → after ≡ false → Placing before lines after

pub placing-lines : (p : Image) (before : Bool) (lines : List Said) (after : Bool) → Placing before lines after
    → placed_behind before (lines_of p lines) ≡ after
placing-lines p before lines after (calm_so calm e) = lines-call p before lines calm ∙ sym e
placing-lines p before lines after (closes_so closed e) = lines-close p before lines closed ∙ sym e

pub or_false : (b : Bool) → (b || false) ≡ b
or_false true = refl
or_false false = refl

pub called-append : (before between after : Bool) (xs ys : List Said) → between ≡ (before || are_calls xs) → after ≡ (between || are_calls ys)
    → after ≡ (before || are_calls (xs ++ ys))
called-append before between after xs ys e f =
    f ∙ ap (λ q. q || are_calls ys) e ∙ or-assoc before (are_calls xs) (are_calls ys) ∙ ap (λ q. before || q) (sym (are_calls-append xs ys))

-- behind lines that do not take it out
pub calm-placing : (before between after : Bool) (xs ys : List Said) → NoneBlocks xs → between ≡ (before || are_calls xs) → Placing between ys after
    → Placing before (xs ++ ys) after
calm-placing before between after xs ys calm e (calm_so more f) = calm_so (NoneBlocks-append xs ys calm more) (called-append before between after xs ys e f)
calm-placing before between after xs ys calm e (closes_so closed f) = closes_so (Closes-behind xs ys closed) f

none-called : (xs : List Said) → are_calls xs ≡ false → NoneCalls xs
none-called [] e = tt
none-called (x ∷ xs) e = let parts = or_parts (calls_agent x.line) (are_calls xs) e in (parts.0, none-called xs parts.1)

-- before lines that neither take it out nor place it
pub placing-quiet : (before between after : Bool) (xs ys : List Said) → Placing before xs between → NoneBlocks ys → are_calls ys ≡ false
    → after ≡ (between || are_calls ys) → Placing before (xs ++ ys) after
placing-quiet before between after xs ys (calm_so calm e) more quiet f =
    calm_so (NoneBlocks-append xs ys calm more) (called-append before between after xs ys e f)
placing-quiet before between after xs ys (closes_so closed e) more quiet f =
    closes_so (Closes-before xs ys closed (none-called ys quiet)) (f ∙ ap (λ q. between || q) quiet ∙ or_false between ∙ e)

-- ---- what an action of the agent leads to

pub record Acted (before : World) (lines : List Said) (after : World) : Type 0 where
  pub attending : Attending after
  pub placing : Placing (agent_runs before) lines (agent_runs after)

served-marks : (serving : Option Release) (ns : List Nature) → is_some serving ≡ true → Standing ns → Marked serving ns
served-marks None ns e h = absurd (false≢true e)
served-marks (Some r) ns e h = h

module _ (Stands : List Nature → Type 0) (stand : (ns : List Nature) → Stands ns → Standing ns) (held : Option RegionNo) where
  pub busy-attends : (w : World) → Busy Stands held w → Attending w
  busy-attends w b = record {
    colour = b.colour;
    apart = b.apart;
    marks = served-marks w.serving (natures w.agent.frames) b.serves (stand (natures w.agent.frames) b.marks);
    attends = b.runs ∙ sym (ap (λ q. q || not (is_empty w.releases)) b.serves);
  }

  pub busy-acted : (before : World) (lines : List Said) (after : World) → agent_runs before ≡ true → BusyStep Stands held before lines after
      → Acted before lines after
  busy-acted before lines after runs s = record {
    attending = busy-attends after s.busy;
    placing = calm_so s.calm (s.busy.runs ∙ sym (ap (λ q. q || are_calls lines) runs));
  }

  pub busy_then : (a b c : World) (xs ys : List Said) → agent_runs a ≡ true → BusyStep Stands held a xs b → Acted b ys c → Acted a (xs ++ ys) c
  busy_then a b c xs ys runs s k = record {
    attending = k.attending;
    placing = calm-placing (agent_runs a) (agent_runs b) (agent_runs c) xs ys s.calm (s.busy.runs ∙ sym (ap (λ q. q || are_calls xs) runs)) k.placing;
  }

-- what spares the agent, before and behind
pub spared_then : (colour : Colour) (a b c : World) (xs ys : List Said) → Spared colour true a xs b → Acted b ys c → Acted a (xs ++ ys) c
spared_then colour a b c xs ys s k = record {
  attending = k.attending;
  placing = calm-placing (agent_runs a) (agent_runs b) (agent_runs c) xs ys s.calm s.called k.placing;
}

pub attending-spared : (colour : Colour) (wakes : Bool) (a b : World) {lines : List Said} → Attending a → Spared colour wakes a lines b → Attending b
attending-spared colour wakes a b h s = record {
  colour = colour;
  apart = s.apart;
  marks = subst (λ ns. Marked b.serving ns) (sym s.marks_same) (subst (λ r. Marked r (natures a.agent.frames)) (sym s.serving_same) h.marks);
  attends = s.attends h.attends;
}

pub spared-acted : (colour : Colour) (a b : World) (lines : List Said) → Attending a → Spared colour true a lines b → Acted a lines b
spared-acted colour a b lines h s = record { attending = attending-spared colour true a b h s; placing = calm_so s.calm s.called }

pub then_spared : (colour : Colour) (a b c : World) (xs ys : List Said) → Acted a xs b → Spared colour false b ys c → Acted a (xs ++ ys) c
then_spared colour a b c xs ys h s = record {
  attending = attending-spared colour false b c h.attending s;
  placing = placing-quiet (agent_runs a) (agent_runs b) (agent_runs c) xs ys h.placing s.calm (s.quiet refl) s.called;
}
