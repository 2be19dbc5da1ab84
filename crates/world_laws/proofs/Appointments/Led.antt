-- What whole steps of an effect lead to: a world that is good, in which nobody for whom the end of a delay is appointed is placed by
-- what was said, unless a state excuses it.
use Rattle.std.proofs.Common.{◌≡◌, List, ◌++◌, ap, ◌∙◌, append_assoc}
use Rattle.profile_machine.specs.declared.world.World.{World}
use Rattle.profile_machine.specs.declared.world.lines.Said.{Said}
use Rattle.profile_machine.specs.Steps.{Step, Done, done, goes_on_with, looks, ◌▷◌}
use Rattle.machine_laws.proofs.Moves.{StepRelation}
use Rattle.world_laws.proofs.Appointments.DelayMoves.{Excuse, Follows, follows_then, GoodAs, Moved}
use Rattle.world_laws.proofs.Appointments.Delays.{Good}
use Rattle.machine_laws.proofs.Kept.Combinators.{From, Kept, Keeps}
use Rattle.machine_laws.proofs.FineMoves.{GoodWorld}

pub record Led (first last : Excuse) (w : World) (xs : List Said) (v : World) : Type 0 where
  pub good : Good v
  pub follows : Follows first last w xs v

-- ---- one step behind another, of other relations

both-kept : (R S T : StepRelation) (w v : World) (said ys xs : List Said) (d : Done) → ys ≡ said ++ xs → R w xs v → Kept S v ys d
    → ((u : World) (zs : List Said) → S v zs u → T w (xs ++ zs) u) → Kept T w said d
unfolding Kept
both-kept R S T w v said ys xs (done u zs) e a b k = (xs ++ b.0, b.1 ∙ ap (λ t. t ++ b.0) e ∙ append_assoc said xs b.0, k u b.0 b.2)

behind-kept : (R S T : StepRelation) (g : Step) (w : World) (said : List Said) (d : Done) → Kept R w said d
    → ((v : World) (xs : List Said) → R w xs v → From S v g) → ((v u : World) (xs zs : List Said) → R w xs v → S v zs u → T w (xs ++ zs) u)
    → Kept T w said (goes_on_with g d)
unfolding Kept From
behind-kept R S T g w said (done v ys) a b k = both-kept R S T w v said ys a.0 (g v ys) a.1 a.2 (b v a.0 a.2 ys) (λ u zs m. k v u a.0 zs a.2 m)

pub then_to-from : (R S T : StepRelation) (f g : Step) (w : World) → From R w f → ((v : World) (xs : List Said) → R w xs v → From S v g)
    → ((v u : World) (xs zs : List Said) → R w xs v → S v zs u → T w (xs ++ zs) u) → From T w (f ▷ g)
unfolding From
then_to-from R S T f g w a b k said = behind-kept R S T g w said (f w said) (a said) b k

weaker-kept : (R T : StepRelation) (w : World) (said : List Said) (d : Done) → Kept R w said d → ((v : World) (xs : List Said) → R w xs v → T w xs v)
    → Kept T w said d
unfolding Kept
weaker-kept R T w said (done v ys) a k = (a.0, a.1, k v a.0 a.2)

pub to-from : (R T : StepRelation) (f : Step) (w : World) → From R w f → ((v : World) (xs : List Said) → R w xs v → T w xs v) → From T w f
unfolding From
to-from R T f w a k said = weaker-kept R T w said (f w said) (a said) k

pub led_then-from : (e f g : Excuse) (s t : Step) (w : World) → From (Led e f) w s → ((v : World) → Good v → From (Led f g) v t) → From (Led e g) w (s ▷ t)
led_then-from e f g s t w a b =
    then_to-from (Led e f) (Led f g) (Led e g) s t w a (λ v xs k. b v k.good)
    (λ v u xs zs k m. record { good = m.good; follows = follows_then e f g w v u xs zs k.follows m.follows })

pub looks_to-from : (T : StepRelation) (f : World → Step) (w : World) → From T w (f w) → From T w (looks f)
unfolding From
looks_to-from T f w a said = a said

-- what each good world keeps
pub moved-from : (e : Excuse) (E : GoodWorld) (f : Step) (w : World) → GoodAs E w → Keeps (GoodAs E) (Moved e E) f → From (Moved e E) w f
unfolding Keeps From
moved-from e E f w good a said = a w good said

pub moved-led : (e : Excuse) (E : GoodWorld) (f : Step) (w : World) → GoodAs E w → Keeps (GoodAs E) (Moved e E) f → From (Led e e) w f
moved-led e E f w good a = to-from (Moved e E) (Led e e) f w (moved-from e E f w good a) (λ v xs k. record { good = k.good; follows = k.follows })
