-- Steps that are put together of calm ones are calm: those of who is awake, and those of anybody.
use Rattle.std.proofs.Common.{◌≡◌, Bool, true, false, cond, List, [], ◌∷◌, ◌++◌, Option, Some, None, refl}
use Rattle.std.specs.Prelude.{Ok, Err}
use Rattle.ann_base.specs.Results.{◌>>=◌}
use Rattle.ann_base.specs.declared.identities.CallNo.{CallNo}
use Rattle.trace_text.specs.declared.events.Who.{Who}
use Rattle.profile_image.specs.declared.image.Image.{Image}
use Rattle.profile_machine.specs.declared.world.World.{World}
use Rattle.profile_machine.specs.declared.world.calls.Call.{Call}
use Rattle.profile_machine.specs.declared.world.lines.Line.{Line}
use Rattle.profile_machine.specs.declared.world.lines.Part.{Part}
use Rattle.profile_machine.specs.declared.world.lines.Said.{Said}
use Rattle.profile_machine.specs.Steps.{Step, Done, done, goes_on_with, nothing, changes, says, looks, when, for_some, for_each, ◌▷◌}
use Rattle.profile_machine.specs.Operators.{Valued}
use Rattle.profile_machine.specs.Values.{Seen, seen_by}
use Rattle.profile_machine.specs.Calls.{call_of, with_call}
use Rattle.profile_machine.specs.Statements.{sees}
use Rattle.world_laws.proofs.Queues.Calming.{same-calm}
use Rattle.world_laws.proofs.Queues.Standing.{Awake, Calm, Kind, calm-awake, calm-then}
use Rattle.machine_laws.proofs.Kept.Combinators.{world_behind}

-- ---- what it is to be calm

-- the world to which a step has led

-- a step from one world
pub record From (E : Kind) (w : World) (step : Step) : Type 0 where
  pub leads : (said : List Said) → Calm E w (world_behind (step w said))

-- from each world in which somebody is awake
pub record Keeps (E : Kind) (name : Who) (step : Step) : Type 0 where
  pub from : (w : World) → Awake name w → From E w step

-- and from any
pub record Calms (E : Kind) (step : Step) : Type 0 where
  pub from : (w : World) → From E w step

-- a change of the world
pub record Alters (E : Kind) (name : Who) (f : World → World) : Type 0 where
  pub at : (w : World) → Awake name w → Calm E w (f w)

pub record Quiets (E : Kind) (f : World → World) : Type 0 where
  pub at : (w : World) → Calm E w (f w)

-- a world, if there is no exception
abbrev pub GivesIt : Kind → World → Valued World → Type 0
GivesIt E w (Ok next) = Calm E w next
GivesIt E w (Err e) = Unit {0}

pub record Gives (E : Kind) (w : World) (x : Valued World) : Type 0 where
  pub world : GivesIt E w x

pub stays-calm : {E : Kind} (w : World) → Calm E w w
stays-calm w = same-calm w w refl refl refl refl refl refl refl refl

-- ---- one after another

goes_on-calm : {E : Kind} (g : Step) (w : World) (d : Done) → Calm E w (world_behind d) → From E (world_behind d) g → Calm E w (world_behind (goes_on_with g d))
goes_on-calm g w (done v said) a b = calm-then w v (world_behind (g v said)) a (b.leads said)

-- what is done behind a step may know that the step was calm
pub then-after : {E : Kind} (f g : Step) (w : World) → From E w f → ((v : World) → Calm E w v → From E v g) → From E w (f ▷ g)
then-after f g w a b = record { leads = λ said. goes_on-calm g w (f w said) (a.leads said) (b (world_behind (f w said)) (a.leads said)) }

pub from-keeps : {E : Kind} {name : Who} (f : Step) → ((w : World) → Awake name w → From E w f) → Keeps E name f
from-keeps f a = record { from = a }

pub keeps-from : {E : Kind} {name : Who} (f : Step) (w : World) → Awake name w → Keeps E name f → From E w f
keeps-from f w good a = a.from w good

pub calms-from : {E : Kind} (f : Step) (w : World) → Calms E f → From E w f
calms-from f w a = a.from w

pub from-calms : {E : Kind} (f : Step) → ((w : World) → From E w f) → Calms E f
from-calms f a = record { from = a }

-- what anybody's step keeps
pub any-keeps : {E : Kind} {name : Who} (f : Step) → Calms E f → Keeps E name f
any-keeps f a = record { from = λ w good. a.from w }

pub then-keeps : {E : Kind} {name : Who} (f g : Step) → Keeps E name f → Keeps E name g → Keeps E name (f ▷ g)
then-keeps f g a b = from-keeps _ (λ w good. then-after f g w (keeps-from f w good a) (λ v calm. keeps-from g v (calm-awake w v calm _ good) b))

pub then-calms : {E : Kind} (f g : Step) → Calms E f → Calms E g → Calms E (f ▷ g)
then-calms f g a b = from-calms _ (λ w. then-after f g w (calms-from f w a) (λ v calm. calms-from g v b))

pub then-from : {E : Kind} {name : Who} (f g : Step) (w : World) → Awake name w → From E w f → Keeps E name g → From E w (f ▷ g)
then-from f g w good a b = then-after f g w a (λ v calm. keeps-from g v (calm-awake w v calm _ good) b)

pub nothing-from : {E : Kind} (w : World) → From E w nothing
nothing-from w = record { leads = λ said. stays-calm w }

pub nothing-keeps : {E : Kind} {name : Who} → Keeps E name nothing
nothing-keeps = from-keeps nothing (λ w good. nothing-from w)

pub nothing-calms : {E : Kind} → Calms E nothing
nothing-calms = from-calms nothing (λ w. nothing-from w)

pub changes-from : {E : Kind} (f : World → World) (w : World) → Calm E w (f w) → From E w (changes f)
changes-from f w a = record { leads = λ said. a }

pub changes-keeps : {E : Kind} {name : Who} (f : World → World) → Alters E name f → Keeps E name (changes f)
changes-keeps f a = from-keeps (changes f) (λ w good. changes-from f w (a.at w good))

pub changes-calms : {E : Kind} (f : World → World) → Quiets E f → Calms E (changes f)
changes-calms f a = from-calms (changes f) (λ w. changes-from f w (a.at w))

pub quiets-alters : {E : Kind} {name : Who} (f : World → World) → Quiets E f → Alters E name f
quiets-alters f a = record { at = λ w good. a.at w }

pub changes_then-from : {E : Kind} (f : World → World) (g : Step) (w : World) → Calm E w (f w) → From E (f w) g → From E w (changes f ▷ g)
changes_then-from f g w a b = record { leads = λ said. calm-then w (f w) (world_behind (g (f w) said)) a (b.leads said) }

pub unchanged-quiets : {E : Kind} → Quiets E (λ w. w)
unchanged-quiets = record { at = stays-calm }

pub unchanged-alters : {E : Kind} {name : Who} → Alters E name (λ w. w)
unchanged-alters = record { at = λ w good. stays-calm w }

pub says-from : {E : Kind} (part : Part) (line : Line) (w : World) → From E w (says part line)
says-from part line w = record { leads = λ said. stays-calm w }

pub says-keeps : {E : Kind} {name : Who} (part : Part) (line : Line) → Keeps E name (says part line)
says-keeps part line = from-keeps _ (λ w good. says-from part line w)

pub says-calms : {E : Kind} (part : Part) (line : Line) → Calms E (says part line)
says-calms part line = from-calms _ (λ w. says-from part line w)

pub said_then-from : {E : Kind} (part : Part) (line : Line) (g : Step) (w : World) → From E w g → From E w (says part line ▷ g)
said_then-from part line g w a = record { leads = λ said. a.leads (said ++ record { part = part; line = line } ∷ []) }

-- ---- looks and choices

pub looks_at-from : {E : Kind} (f : World → Step) (w : World) → From E w (f w) → From E w (looks f)
looks_at-from f w a = record { leads = λ said. a.leads said }

pub looks-from : {E : Kind} {name : Who} (f : World → Step) → ((w : World) → Awake name w → From E w (f w)) → Keeps E name (looks f)
looks-from f a = from-keeps (looks f) (λ w good. looks_at-from f w (a w good))

pub looks-keeps : {E : Kind} {name : Who} (f : World → Step) → ((v : World) → Keeps E name (f v)) → Keeps E name (looks f)
looks-keeps f a = looks-from f (λ w good. keeps-from (f w) w good (a w))

pub looks-calms : {E : Kind} (f : World → Step) → ((v : World) → Calms E (f v)) → Calms E (looks f)
looks-calms f a = from-calms (looks f) (λ w. looks_at-from f w (calms-from (f w) w (a w)))

pub sees-keeps : {E : Kind} {name : Who} (p : Image) (someone : Who) (f : Seen → Step) → ((q : Seen) → Keeps E name (f q)) → Keeps E name (sees p someone f)
sees-keeps p someone f a = looks-keeps (λ w. f (seen_by p w someone)) (λ w. a (seen_by p w someone))

pub branch-keeps : {E : Kind} {name : Who} (b : Bool) (f g : Step) → Keeps E name f → Keeps E name g
    → Keeps E name (elim b as (λ _. Step) [ true ↦ f | false ↦ g ])
branch-keeps true f g a b = a
branch-keeps false f g a b = b

pub branch-calms : {E : Kind} (b : Bool) (f g : Step) → Calms E f → Calms E g → Calms E (elim b as (λ _. Step) [ true ↦ f | false ↦ g ])
branch-calms true f g a b = a
branch-calms false f g a b = b

pub cond-keeps : {E : Kind} {name : Who} (b : Bool) (f g : Step) → Keeps E name f → Keeps E name g → Keeps E name (cond b f g)
cond-keeps true f g a b = a
cond-keeps false f g a b = b

pub when-keeps : {E : Kind} {name : Who} (b : Bool) (step : Step) → Keeps E name step → Keeps E name (when b step)
when-keeps true step a = a
when-keeps false step a = nothing-keeps

pub when-calms : {E : Kind} (b : Bool) (step : Step) → Calms E step → Calms E (when b step)
when-calms true step a = a
when-calms false step a = nothing-calms

-- where the test holds
pub when-from : {E : Kind} (b : Bool) (step : Step) (w : World) → (b ≡ true → From E w step) → From E w (when b step)
when-from true step w a = a refl
when-from false step w a = nothing-from w

pub for_some-keeps : {E : Kind} {name : Who} {X : Type 0} (x : Option X) (f : X → Step) → ((y : X) → Keeps E name (f y)) → Keeps E name (for_some x f)
for_some-keeps None f a = nothing-keeps
for_some-keeps (Some x) f a = a x

pub for_some-calms : {E : Kind} {X : Type 0} (x : Option X) (f : X → Step) → ((y : X) → Calms E (f y)) → Calms E (for_some x f)
for_some-calms None f a = nothing-calms
for_some-calms (Some x) f a = a x

pub for_each-calms : {E : Kind} {X : Type 0} (xs : List X) (f : X → Step) → ((y : X) → Calms E (f y)) → Calms E (for_each xs f)
for_each-calms [] f a = nothing-calms
for_each-calms (x ∷ xs) f a = then-calms (f x) (for_each xs f) (a x) (for_each-calms xs f a)

found-from : {E : Kind} (c : CallNo) (found : Option Call) (f : Call → Step) (w : World) → call_of w c ≡ found
    → ((d : Call) → call_of w c ≡ Some d → From E w (f d)) → From E w (for_some found f)
found-from c None f w is a = nothing-from w
found-from c (Some d) f w is a = a d is

-- with a call that is there
pub with_call-from : {E : Kind} (c : CallNo) (f : Call → Step) (w : World) → ((d : Call) → call_of w c ≡ Some d → From E w (f d)) → From E w (with_call c f)
with_call-from c f w a = looks_at-from (λ v. for_some (call_of v c) f) w (found-from c (call_of w c) f w refl a)

pub with_call-keeps : {E : Kind} {name : Who} (c : CallNo) (f : Call → Step) → ((d : Call) → Keeps E name (f d)) → Keeps E name (with_call c f)
with_call-keeps c f a = looks-keeps (λ v. for_some (call_of v c) f) (λ v. for_some-keeps (call_of v c) f a)

-- ---- worlds that may be exceptions

pub ok-gives : {E : Kind} (w next : World) → Calm E w next → Gives E w (Ok next)
ok-gives w next a = record { world = a }

pub bind-gives : {E : Kind} {X : Type 0} (x : Valued X) (f : X → Valued World) (w : World) → ((y : X) → Gives E w (f y)) → Gives E w (x >>= f)
bind-gives (Ok x) f w a = a x
bind-gives (Err e) f w a = record { world = tt }

gives-on : {E : Kind} (x : Valued World) (a b : World) → Calm E a b → Gives E b x → Gives E a x
gives-on (Ok c) a b h k = record { world = calm-then a b c h k.world }
gives-on (Err e) a b h k = record { world = tt }

pub next-gives : {E : Kind} (x : Valued World) (f : World → Valued World) (w : World) → Gives E w x → ((v : World) → Gives E v (f v)) → Gives E w (x >>= f)
next-gives (Ok v) f w a b = gives-on (f v) w v a.world (b v)
next-gives (Err e) f w a b = record { world = tt }
