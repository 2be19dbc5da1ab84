-- Steps one after another of which each keeps a relation of its own.
use Rattle.std.proofs.Common.{◌≡◌, Bool, true, false, List, [], ◌++◌, Option, Some, None, refl, sym, ap, ◌∙◌, append_assoc, append-nil}
use Rattle.profile_machine.specs.declared.world.World.{World}
use Rattle.profile_machine.specs.declared.world.lines.Said.{Said}
use Rattle.profile_machine.specs.Steps.{Step, Done, done, goes_on_with, nothing, changes, looks, when, for_some, ◌▷◌}
use Rattle.machine_laws.proofs.Moves.{StepRelation}
use Rattle.machine_laws.proofs.FineMoves.{GoodWorld}
use Rattle.machine_laws.proofs.Kept.Combinators.{Kept, Keeps, From}

-- ---- one relation in the place of another

kept_by : (R S : StepRelation) (w : World) (said : List Said) (d : Done) → ((v : World) (xs : List Said) → R w xs v → S w xs v) → Kept R w said d
    → Kept S w said d
unfolding Kept
kept_by R S w said (done v ys) f k = (k.0, k.1, f v k.0 k.2)

pub from_by : (R S : StepRelation) (step : Step) (w : World) → ((v : World) (xs : List Said) → R w xs v → S w xs v) → From R w step → From S w step
unfolding From
from_by R S step w f a said = kept_by R S w said (step w said) f (a said)

kept_to : (S T : StepRelation) (w v : World) (said : List Said) (d : Done) → ((u : World) (xs : List Said) → S v xs u → T w xs u) → Kept S v said d
    → Kept T w said d
unfolding Kept
kept_to S T w v said (done u ys) f k = (k.0, k.1, f u k.0 k.2)

-- a change, and a step behind it
pub changes_then : (S T : StepRelation) (f : World → World) (g : Step) (w : World) → ((u : World) (xs : List Said) → S (f w) xs u → T w xs u) → From S (f w) g
    → From T w (changes f ▷ g)
unfolding From
changes_then S T f g w joins a said = kept_to S T w (f w) said (g (f w) said) joins (a said)

pub keeps_at : (G : GoodWorld) (R : StepRelation) (step : Step) (w : World) → G w → Keeps G R step → From R w step
unfolding Keeps From
keeps_at G R step w good a said = a w good said

-- ---- one step behind another

then_kept : (R S T : StepRelation) (w v : World) (said ys : List Said) (d : Done) → ((u : World) (xs zs : List Said) → R w xs v → S v zs u → T w (xs ++ zs) u)
    → Kept R w said (done v ys) → Kept S v ys d → Kept T w said d
unfolding Kept
then_kept R S T w v said ys (done u zs) f a b =
    (a.0 ++ b.0, b.1 ∙ ap (λ xs. xs ++ b.0) a.1 ∙ append_assoc said a.0 b.0, f u a.0 b.0 a.2 b.2)

kept_world : (R : StepRelation) (w v : World) (said ys : List Said) → Kept R w said (done v ys) → (xs : List Said) × R w xs v
unfolding Kept
kept_world R w v said ys k = (k.0, k.2)

then_on : (R S T : StepRelation) (g : Step) (w : World) (said : List Said) (d : Done)
    → ((v u : World) (xs zs : List Said) → R w xs v → S v zs u → T w (xs ++ zs) u) → ((v : World) (xs : List Said) → R w xs v → From S v g) → Kept R w said d
    → Kept T w said (goes_on_with g d)
unfolding From
then_on R S T g w said (done v ys) f kept a =
    let found = kept_world R w v said ys a in
    then_kept R S T w v said ys (g v ys) (λ u xs zs h k. f v u xs zs h k) a (kept v found.0 found.1 ys)

pub then_by : (R S T : StepRelation) (f g : Step) (w : World) → ((v u : World) (xs zs : List Said) → R w xs v → S v zs u → T w (xs ++ zs) u) → From R w f
    → ((v : World) (xs : List Said) → R w xs v → From S v g) → From T w (f ▷ g)
unfolding From
then_by R S T f g w joins a kept said = then_on R S T g w said (f w said) joins (λ v xs h. kept v xs h) (a said)

-- ---- steps from one world

pub looks_by : (R : StepRelation) (f : World → Step) (w : World) → From R w (f w) → From R w (looks f)
unfolding From
looks_by R f w a said = a said

pub when_by : (R : StepRelation) (b : Bool) (step : Step) (w : World) → (b ≡ true → From R w step) → (b ≡ false → From R w nothing) → From R w (when b step)
when_by R true step w a n = a refl
when_by R false step w a n = n refl

pub some_by : {X : Type 0} (R : StepRelation) (x : Option X) (f : X → Step) (w : World) → ((y : X) → From R w (f y)) → From R w nothing
    → From R w (for_some x f)
some_by R None f w a n = n
some_by R (Some y) f w a n = a y

pub either_by : (R : StepRelation) (b : Bool) (f g : Step) (w : World) → From R w f → From R w g → From R w (elim b as (λ _. Step) [ true ↦ f | false ↦ g ])
either_by R true f g w a b = a
either_by R false f g w a b = b

pub nothing_by : (R : StepRelation) (w : World) → R w [] w → From R w nothing
unfolding From Kept
nothing_by R w a said = ([], sym (append-nil said), a)

pub changes_by : (R : StepRelation) (f : World → World) (w : World) → R w [] (f w) → From R w (changes f)
unfolding From Kept
changes_by R f w a said = ([], sym (append-nil said), a)
