-- What is read of a world's tasks where it is known only what decides their places.
use Rattle.ceiling_laws.proofs.Fine.Cores.{Core, Same, core}
use Rattle.profile_machine.specs.Tasks.{is_who, nobody, task_of}
use Rattle.profile_image.specs.Words.{same_who}
use Rattle.profile_machine.specs.declared.world.World.{World}
use Rattle.profile_machine.specs.declared.world.tasks.Task.{Task}
use Rattle.std.proofs.Common.{Bool, List, Option, Some, [], ap, cond, false, map, refl, sym, true, ◌∙◌, ◌∷◌, ◌≡◌}
use Rattle.std.specs.Prelude.{find, unwrap_or}
use Rattle.trace_text.specs.declared.events.Who.{Who}
use Rattle.trace_text.specs.declared.events.Who.TheVariants as who

abbrev core_in : Who → List Core → Core
core_in n [] = core nobody
core_in n (c ∷ cs) = cond (same_who n c.who) c (core_in n cs)

core-test : (b : Bool) (t : Task) (rest : Option Task) (cs : Core) → core (unwrap_or rest nobody) ≡ cs
    → core (unwrap_or (cond b (Some t) rest) nobody) ≡ cond b (core t) cs
core-test true t rest cs e = refl
core-test false t rest cs e = e

core-found : (n : Who) (ts : List Task) → core (unwrap_or (find (is_who n) ts) nobody) ≡ core_in n (map core ts)
core-found n [] = refl
core-found n (t ∷ ts) = core-test (is_who n t) t (find (is_who n) ts) (core_in n (map core ts)) (core-found n ts)

-- a change that touches nothing by which somebody is placed leaves everybody so
pub core-same : (a b : World) (n : Who) → Same a b → core (task_of b n) ≡ core (task_of a n)
core-same a b (who.Task t) same = core-found (who.Task t) b.tasks ∙ ap (core_in (who.Task t)) same.tasks ∙ sym (core-found (who.Task t) a.tasks)
core-same a b who.Agent same = same.agent
