-- Who waited becomes ready: each step keeps what its parts keep.
use Rattle.ceiling_laws.proofs.Fine.LevelMoves.{BaseMoves, Silences}
use Rattle.ceiling_laws.proofs.Runs.Triples.{At, Leads, State, With, from-leads}
use Rattle.profile_machine.specs.Dispatching.{ready}
use Rattle.profile_machine.specs.Steps.{Step}
use Rattle.profile_image.specs.declared.image.Image.{Image}
use Rattle.profile_machine.specs.declared.world.World.{World}
use Rattle.profile_machine.specs.declared.world.lines.Part.{Part}
use Rattle.profile_machine.specs.declared.world.lines.Said.{Said}
use Rattle.std.proofs.Common.{subst, sym}
use Rattle.std.specs.Prelude.{List}
use Rattle.trace_text.specs.declared.events.Who.{Who}
use Rattle.ceiling_laws.proofs.Runs.LevelMoves.{Fitting, Sleeping}

module _ {p : Image} {Fits : Fitting} {Sleeps : Sleeping} {X : State} (moves : BaseMoves p Fits Sleeps X) where
  abbrev pub Asleep : Who → State
  Asleep name = With X (λ w. Sleeps w name)

  pub asleep_quiet : (name : Who) → Silences (Asleep name)
  asleep_quiet name = record {
    silently = λ a b said s h. (moves.quiet.silently a b said s h.0, moves.sleeps_on a b name s h.1);
    says = λ part line w said other h. (moves.quiet.says part line w said other h.0, h.1);
    ends_scope = λ id w said h. (moves.quiet.ends_scope id w said h.0, moves.sleeps_behind id w name h.1);
  }

  pub wide : {name : Who} (w : World) (said : List Said) → Asleep name w said → X w said
  wide w said h = h.0

  -- in a world in which somebody waits
  pub asleep_at : {Y : State} (name : Who) (v : World) (f : Step) → Sleeps v name → Leads (Asleep name) Y f → Leads (At X v) Y f
  asleep_at name v f s a = from-leads f (λ w said h. (h.0, subst (λ u. Sleeps u name) (sym h.1) s)) a

  pub ready-at : (part : Part) (name : Who) (v : World) → Fits part name → Sleeps v name → Leads (At X v) X (ready p part name)
  ready-at part name v fits s = asleep_at name v (ready p part name) s (moves.wakes part name fits)
