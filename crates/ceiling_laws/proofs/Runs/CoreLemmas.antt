-- What is read of a world's tasks and objects where their levels and ceilings alone are known.
use Rattle.ann_base.specs.declared.identities.ObjectNo.{ObjectNo}
use Rattle.ceiling_laws.specs.Cores.{Core, Same, ceiling_in, core}
use Rattle.ceiling_laws.specs.RunLaws.{AreCeilingsShown}
use Rattle.profile_machine.specs.Tasks.{is_who, nobody, task_of}
use Rattle.profile_machine.specs.Values.{is_object}
use Rattle.profile_image.specs.Words.{same_object, same_who}
use Rattle.profile_machine.specs.declared.world.World.{World}
use Rattle.profile_machine.specs.declared.world.objects.Object.{Object}
use Rattle.profile_machine.specs.declared.world.tasks.Task.{Task}
use Rattle.std.proofs.Common.{Bool, List, None, Option, Some, [], ap, cond, false, map, refl, subst, sym, true, ℕ, ◌∙◌, ◌∷◌, ◌≡◌}
use Rattle.std.proofs.lemmas.Bool.{eqb-true}
use Rattle.std.specs.Prelude.{filter, find, option_map, unwrap_or}
use Rattle.trace_text.specs.Laws.{level_of}
use Rattle.trace_text.specs.declared.events.Who.{Who}
use Rattle.trace_text.specs.declared.events.Who.TheVariants as who

abbrev core_in : Who → List Core → Core
core_in n [] = core nobody
core_in n (c ∷ cs) = cond (same_who n c.who) c (core_in n cs)

core-test : (b : Bool) (t : Task) (rest : Option Task) (cs : Core) → core (unwrap_or rest nobody) ≡ cs
    → core (unwrap_or (cond b (Some t) rest) nobody) ≡ cond b (core t) cs
core-test true t rest cs e = refl
core-test false t rest cs e = e

core-found : (n : Who) (ts : List Task) → core (unwrap_or (find (is_who n) ts) nobody) ≡ core_in n (map core ts)
core-found n [] = refl
core-found n (t ∷ ts) = core-test (is_who n t) t (find (is_who n) ts) (core_in n (map core ts)) (core-found n ts)

-- a change that touches no level leaves everybody's
pub core-same : (a b : World) (n : Who) → Same a b → core (task_of b n) ≡ core (task_of a n)
core-same a b (who.Task t) same = core-found (who.Task t) b.tasks ∙ ap (core_in (who.Task t)) same.tasks ∙ sym (core-found (who.Task t) a.tasks)
core-same a b who.Agent same = same.agent

-- the ceiling of an object among these
abbrev pub ceiling_at : ObjectNo → List (ObjectNo × ℕ) → Option ℕ
ceiling_at o [] = None
ceiling_at o (x ∷ xs) = cond (same_object o x.0) (Some x.1) (ceiling_at o xs)

ceiling-test : (b : Bool) (o : ObjectNo) (y x : Object) (rest : Option Object) (c : Option ℕ) → cond b (Some y) rest ≡ Some x
    → (rest ≡ Some x → c ≡ Some x.ceiling) → cond b (Some y.ceiling) c ≡ Some x.ceiling
ceiling-test true o y x rest c e onward = let one : y ≡ x = cc in ap (λ (z : Object). Some z.ceiling) one
ceiling-test false o y x rest c e onward = onward e

pub ceiling-found : (o : ObjectNo) (xs : List Object) (x : Object) → find (is_object o) xs ≡ Some x → ceiling_at o (map ceiling_in xs) ≡ Some x.ceiling
ceiling-found o [] x e = absurd cc
ceiling-found o (y ∷ ys) x e = ceiling-test (is_object o y) o y x (find (is_object o) ys) (ceiling_at o (map ceiling_in ys)) e (λ k. ceiling-found o ys x k)

shown-test : (b : Bool) (shown : List (ℕ × ℕ)) (o : ObjectNo) (x : Object) (c : ℕ) (rest : Option ℕ) → same_object o x.number ≡ b
    → level_of x.number.0 shown ≡ Some x.ceiling → cond b (Some x.ceiling) rest ≡ Some c → (rest ≡ Some c → level_of o.0 shown ≡ Some c)
    → level_of o.0 shown ≡ Some c
shown-test true shown o x c rest is level e onward = ap (λ n. level_of n shown) (eqb-true o.0 x.number.0 is) ∙ level ∙ e
shown-test false shown o x c rest is level e onward = onward e

-- the lines show the ceiling of an object that is there
pub shown-at : (shown : List (ℕ × ℕ)) (o : ObjectNo) (xs : List Object) (c : ℕ) → AreCeilingsShown shown xs → ceiling_at o (map ceiling_in xs) ≡ Some c
    → level_of o.0 shown ≡ Some c
shown-at shown o [] c h e = absurd cc
shown-at shown o (x ∷ xs) c h e =
    shown-test (same_object o x.number) shown o x c (ceiling_at o (map ceiling_in xs)) refl h.0 e (λ k. shown-at shown o xs c h.1 k)

-- the same of objects that are seen alike, and of fewer
abbrev Shown : List (ℕ × ℕ) → List (ObjectNo × ℕ) → Type 0
Shown shown [] = Unit {0}
Shown shown (x ∷ xs) = (level_of x.0.0 shown ≡ Some x.1) × Shown shown xs

to-seen : (shown : List (ℕ × ℕ)) (xs : List Object) → AreCeilingsShown shown xs → Shown shown (map ceiling_in xs)
to-seen shown [] h = tt
to-seen shown (x ∷ xs) h = (h.0, to-seen shown xs h.1)

from-seen : (shown : List (ℕ × ℕ)) (xs : List Object) → Shown shown (map ceiling_in xs) → AreCeilingsShown shown xs
from-seen shown [] h = tt
from-seen shown (x ∷ xs) h = (h.0, from-seen shown xs h.1)

pub shown-same : (shown : List (ℕ × ℕ)) (xs ys : List Object) → map ceiling_in ys ≡ map ceiling_in xs → AreCeilingsShown shown xs → AreCeilingsShown shown ys
shown-same shown xs ys same h = from-seen shown ys (subst (Shown shown) (sym same) (to-seen shown xs h))

fewer-test : (b : Bool) (shown : List (ℕ × ℕ)) (x : Object) (xs : List Object) → level_of x.number.0 shown ≡ Some x.ceiling → AreCeilingsShown shown xs
    → AreCeilingsShown shown (cond b (x ∷ xs) xs)
fewer-test true shown x xs level h = (level, h)
fewer-test false shown x xs level h = h

pub shown-fewer : (shown : List (ℕ × ℕ)) (test : Object → Bool) (xs : List Object) → AreCeilingsShown shown xs → AreCeilingsShown shown (filter test xs)
shown-fewer shown test [] h = tt
shown-fewer shown test (x ∷ xs) h = fewer-test (test x) shown x (filter test xs) h.0 (shown-fewer shown test xs h.1)

-- who is found in the one world is found in the other, and seen alike
abbrev pub seen_in : Who → List Core → Option Core
seen_in n [] = None
seen_in n (c ∷ cs) = cond (same_who n c.who) (Some c) (seen_in n cs)

seen-test : (b : Bool) (t : Task) (rest : Option Task) (cs : Option Core) → option_map core rest ≡ cs
    → option_map core (cond b (Some t) rest) ≡ cond b (Some (core t)) cs
seen-test true t rest cs e = refl
seen-test false t rest cs e = e

pub seen-found : (n : Who) (ts : List Task) → option_map core (find (is_who n) ts) ≡ seen_in n (map core ts)
seen-found n [] = refl
seen-found n (t ∷ ts) = seen-test (is_who n t) t (find (is_who n) ts) (seen_in n (map core ts)) (seen-found n ts)

seen-some : (found : Option Task) (x : Task) → option_map core found ≡ Some (core x) → (y : Task) × (found ≡ Some y) × (core y ≡ core x)
seen-some None x e = absurd cc
seen-some (Some y) x e = (y, refl, let one : core y ≡ core x = cc in one)

found-alike : (xs ys : List Task) (n : Who) (x : Task) → map core ys ≡ map core xs → find (is_who n) ys ≡ Some x
    → (y : Task) × (find (is_who n) xs ≡ Some y) × (core y ≡ core x)
found-alike xs ys n x alike e =
    seen-some (find (is_who n) xs) x (seen-found n xs ∙ ap (seen_in n) (sym alike) ∙ sym (seen-found n ys) ∙ ap (option_map core) e)

pub found-same : (a b : World) (n : Who) (x : Task) → Same a b → find (is_who n) b.tasks ≡ Some x
    → (y : Task) × (find (is_who n) a.tasks ≡ Some y) × (core y ≡ core x)
found-same a b n x same e = found-alike a.tasks b.tasks n x same.tasks e

-- and the other way round
pub found-on : (a b : World) (n : Who) (x : Task) → Same a b → find (is_who n) a.tasks ≡ Some x
    → (y : Task) × (find (is_who n) b.tasks ≡ Some y) × (core y ≡ core x)
found-on a b n x same e = found-alike b.tasks a.tasks n x (sym same.tasks) e
