-- What touches no deadline and leaves who made a call leaves alone all that ceilings are about: so the finer lemmas serve here too.
use Rattle.profile_image.specs.declared.image.Image.{Image}
use Rattle.profile_machine.specs.declared.world.World.{World}
use Rattle.profile_machine.specs.declared.world.tasks.Task.{Task}
use Rattle.std.proofs.Common.{List, [], ap, map, refl, sym, ◌∙◌, ◌≡◌, ◌∷◌}
use Rattle.ceiling_laws.specs.Cores.{Core, Same, core}
use Rattle.ceiling_laws.proofs.Fine.Cores as finer
use Rattle.ceiling_laws.proofs.Fine.LevelMoves as finer_moves
use Rattle.ceiling_laws.proofs.Runs.LevelMoves.{BaseMoves, Fitting, Silences, Sleeping}
use Rattle.ceiling_laws.proofs.Runs.Triples.{State}

abbrev coarsened : finer.Core → Core
coarsened c = record { who = c.who; state = c.state; base = c.base; inherited = c.inherited; kept_level = c.kept_level; deferred_base = c.deferred_base }

coarse-tasks : (ts : List Task) → map core ts ≡ map coarsened (map finer.core ts)
coarse-tasks [] = refl
coarse-tasks (t ∷ ts) = ap (λ cs. core t ∷ cs) (coarse-tasks ts)

pub fine_same : (a b : World) → finer.Same a b → Same a b
fine_same a b h = record {
  tasks = coarse-tasks b.tasks ∙ ap (map coarsened) h.tasks ∙ sym (coarse-tasks a.tasks);
  agent = ap coarsened h.agent;
  objects = h.objects;
  drawn_tasks = h.drawn_tasks;
  drawn_objects = h.drawn_objects;
  delays = h.delays;
}

pub fine : {X : State} → Silences X → finer_moves.Silences X
fine quiet = record {
  silently = λ a b said same h. quiet.silently a b said (fine_same a b same) h;
  says = quiet.says;
  ends_scope = quiet.ends_scope;
}

pub fine_base : {p : Image} {Fits : Fitting} {Sleeps : Sleeping} {X : State} → BaseMoves p Fits Sleeps X → finer_moves.BaseMoves p Fits Sleeps X
fine_base moves = record {
  quiet = fine moves.quiet;
  inherits = λ name cause level w said other asleep h. moves.inherits name cause level w said other h;
  sleeps = moves.sleeps;
  sleeps_on = λ a b name same s. moves.sleeps_on a b name (fine_same a b same) s;
  sleeps_behind = moves.sleeps_behind;
  sleeps_heir = moves.sleeps_heir;
  wakes = moves.wakes;
}
