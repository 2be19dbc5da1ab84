-- Of steps and of moves it is asked only that the world behind is good: what holds before a step leads to what holds behind it.
use Rattle.machine_laws.proofs.Moves.{StepRelation, MoveRelation}
use Rattle.machine_laws.proofs.FineMoves.{GoodWorld}
use Rattle.profile_machine.specs.Calls.{call_of, with_call}
use Rattle.ann_base.specs.declared.identities.CallNo.{CallNo}
use Rattle.std.proofs.Common.{◌≡◌, Bool, true, false, List, [], ◌∷◌, ◌++◌, Option, Some, None, refl, sym, ap, ◌∙◌, append_assoc, append-nil}
use Rattle.profile_machine.specs.declared.world.World.{World}
use Rattle.profile_machine.specs.declared.world.lines.Line.{Line}
use Rattle.profile_machine.specs.declared.world.lines.Part.{Part}
use Rattle.profile_machine.specs.declared.world.lines.Said.{Said}
use Rattle.profile_machine.specs.Steps.{Step, Done, done, goes_on_with, nothing, changes, says, looks, when, for_some, ◌▷◌}
use Rattle.profile_machine.specs.declared.world.calls.Call.{Call}
use Rattle.machine_laws.proofs.Kept.Combinators.{From, Keeps, Kept}

abbrev pub Behind : GoodWorld → StepRelation
Behind G before lines after = G after

abbrev pub BehindMove : GoodWorld → MoveRelation
BehindMove G before lines after = G after

-- ---- from what holds before a step to what holds behind it

abbrev pub Turns : GoodWorld → GoodWorld → Step → Type 0
Turns X Y step = Keeps X (Behind Y) step

turned-kept : (Y Z : GoodWorld) (w v : World) (said ys : List Said) (d : Done) → Kept (Behind Y) w said (done v ys) → Kept (Behind Z) v ys d
    → Kept (Behind Z) w said d
unfolding Kept
turned-kept Y Z w v said ys (done u zs) a b = (a.0 ++ b.0, b.1 ∙ ap (λ xs. xs ++ b.0) a.1 ∙ append_assoc said a.0 b.0, b.2)

kept-holds : (Y : GoodWorld) (w v : World) (said ys : List Said) → Kept (Behind Y) w said (done v ys) → Y v
unfolding Kept
kept-holds Y w v said ys a = a.2

then_turn-kept : (Y Z : GoodWorld) (g : Step) (w : World) (said : List Said) (d : Done) → Kept (Behind Y) w said d → Turns Y Z g
    → Kept (Behind Z) w said (goes_on_with g d)
unfolding Keeps
then_turn-kept Y Z g w said (done v ys) a b = turned-kept Y Z w v said ys (g v ys) a (b v (kept-holds Y w v said ys a) ys)

pub then-turns : (X Y Z : GoodWorld) (f g : Step) → Turns X Y f → Turns Y Z g → Turns X Z (f ▷ g)
unfolding Keeps
then-turns X Y Z f g a b w h said = then_turn-kept Y Z g w said (f w said) (a w h said) b

pub then_turn-from : (Y Z : GoodWorld) (f g : Step) (w : World) → From (Behind Y) w f → Turns Y Z g → From (Behind Z) w (f ▷ g)
unfolding From
then_turn-from Y Z f g w a b said = then_turn-kept Y Z g w said (f w said) (a said) b

-- from what is stronger, and to what is weaker
pub narrow-turns : (X Y Z : GoodWorld) (f : Step) → ((w : World) → X w → Y w) → Turns Y Z f → Turns X Z f
unfolding Keeps
narrow-turns X Y Z f k a w h said = a w (k w h) said

wide-kept : (Y Z : GoodWorld) (w : World) (said : List Said) (d : Done) → ((v : World) → Y v → Z v) → Kept (Behind Y) w said d → Kept (Behind Z) w said d
unfolding Kept
wide-kept Y Z w said (done v ys) k a = (a.0, a.1, k v a.2)

pub wide-turns : (X Y Z : GoodWorld) (f : Step) → ((w : World) → Y w → Z w) → Turns X Y f → Turns X Z f
unfolding Keeps
wide-turns X Y Z f k a w h said = wide-kept Y Z w said (f w said) k (a w h said)

pub wide-from : (Y Z : GoodWorld) (f : Step) (w : World) → ((v : World) → Y v → Z v) → From (Behind Y) w f → From (Behind Z) w f
unfolding From
wide-from Y Z f w k a said = wide-kept Y Z w said (f w said) k (a said)

pub looks-turns : (X Y : GoodWorld) (f : World → Step) → ((w : World) → X w → From (Behind Y) w (f w)) → Turns X Y (looks f)
unfolding Keeps From
looks-turns X Y f a w h said = a w h said

pub turns-from : (X Y : GoodWorld) (f : Step) (w : World) → X w → Turns X Y f → From (Behind Y) w f
unfolding Keeps From
turns-from X Y f w h a said = a w h said

pub changes-turns : (X Y : GoodWorld) (f : World → World) → ((w : World) → X w → Y (f w)) → Turns X Y (changes f)
unfolding Keeps Kept
changes-turns X Y f a w h said = ([], sym (append-nil said), a w h)

pub nothing-turns : (X Y : GoodWorld) → ((w : World) → X w → Y w) → Turns X Y nothing
unfolding Keeps Kept
nothing-turns X Y a w h said = ([], sym (append-nil said), a w h)

pub branch-turns : (X Y : GoodWorld) (b : Bool) (f g : Step) → Turns X Y f → Turns X Y g → Turns X Y (elim b as (λ _. Step) [ true ↦ f | false ↦ g ])
branch-turns X Y true f g a b = a
branch-turns X Y false f g a b = b

pub when-turns : (X Y : GoodWorld) (b : Bool) (f : Step) → ((w : World) → X w → Y w) → (b ≡ true → Turns X Y f) → Turns X Y (when b f)
when-turns X Y true f k a = a refl
when-turns X Y false f k a = nothing-turns X Y k

pub says-turns : (X : GoodWorld) (part : Part) (line : Line) → Turns X X (says part line)
unfolding Keeps Kept
says-turns X part line w h said = (record { part = part; line = line } ∷ [], refl, h)

for_found-turns : (X Y : GoodWorld) (found : Option Call) (f : Call → Step) → ((w : World) → X w → Y w) → ((d : Call) → Turns X Y (f d))
    → Turns X Y (for_some found f)
for_found-turns X Y None f over a = nothing-turns X Y over
for_found-turns X Y (Some d) f over a = a d

pub with_call-turns : (X Y : GoodWorld) (c : CallNo) (f : Call → Step) → ((w : World) → X w → Y w) → ((d : Call) → Turns X Y (f d)) → Turns X Y (with_call c f)
with_call-turns X Y c f over a = looks-turns X Y _ (λ w h. turns-from X Y _ w h (for_found-turns X Y (call_of w c) f over a))

moved-kept : (Y : GoodWorld) (w v : World) (said : List Said) (d : Done) → Kept (Behind Y) v said d → Kept (Behind Y) w said d
unfolding Kept
moved-kept Y w v said (done u ys) a = a

-- a step behind a change, from the world behind it
pub changes_turn-from : (Y : GoodWorld) (f : World → World) (g : Step) (w : World) → From (Behind Y) (f w) g → From (Behind Y) w (changes f ▷ g)
unfolding From
changes_turn-from Y f g w a said = moved-kept Y w (f w) said (g (f w) said) (a said)

pub look-from : (Y : GoodWorld) (f : World → Step) (w : World) → From (Behind Y) w (f w) → From (Behind Y) w (looks f)
unfolding From
look-from Y f w a said = a said
