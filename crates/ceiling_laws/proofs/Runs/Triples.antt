-- Steps that lead from what holds of the world and of the lines that an effect has said to what holds behind them.
use Rattle.std.proofs.Common.{◌≡◌, Bool, true, false, cond, List, [], ◌∷◌, Option, Some, None, refl}
use Rattle.profile_machine.specs.declared.world.World.{World}
use Rattle.profile_machine.specs.declared.world.lines.Said.{Said}
use Rattle.profile_image.specs.declared.image.Image.{Image}
use Rattle.trace_text.specs.declared.events.Who.{Who}
use Rattle.profile_machine.specs.Values.{Seen, seen_by}
use Rattle.profile_machine.specs.Statements.{sees}
use Rattle.profile_machine.specs.Steps.{Step, Done, done, goes_on_with, nothing, changes, looks, when, for_some, for_each, ◌▷◌}

-- what may hold of a world and of what was said
abbrev pub State : Type 1
State = World → List Said → Type 0

-- it holds of what a step has led to
unfoldable pub Ends : State → Done → Type 0
Ends Y (done w said) = Y w said

-- wherever the first holds before a step, the second holds behind it
pub record Leads (X Y : State) (step : Step) : Type 0 where
  pub runs : (w : World) (said : List Said) → X w said → Ends Y (step w said)

abbrev pub Keeps : State → Step → Type 0
Keeps X step = Leads X X step

-- a change of the world keeps it
pub record Alters (X : State) (f : World → World) : Type 0 where
  pub turns : (w : World) (said : List Said) → X w said → X (f w) said

-- the same where the world is one of which something is known
abbrev pub With : State → (World → Type 0) → State
With X P w said = X w said × P w

-- the same in one world
abbrev pub At : State → World → State
At X v w said = X w said × (w ≡ v)

pub from_at : {X Y : State} {v : World} (f : Step) → Leads X Y f → Leads (At X v) Y f
from_at f a = record { runs = λ w said h. a.runs w said h.0 }

ends_on : (Y Z : State) (g : Step) (d : Done) → Ends Y d → Leads Y Z g → Ends Z (goes_on_with g d)
unfolding Ends
ends_on Y Z g (done w said) a b = b.runs w said a

pub then-leads : {X Y Z : State} (f g : Step) → Leads X Y f → Leads Y Z g → Leads X Z (f ▷ g)
then-leads {X} {Y} {Z} f g a b = record { runs = λ w said h. ends_on Y Z g (f w said) (a.runs w said h) b }

pub then-keeps : {X : State} (f g : Step) → Keeps X f → Keeps X g → Keeps X (f ▷ g)
then-keeps f g a b = then-leads f g a b

pub changes-leads : {X Y : State} (f : World → World) → ((w : World) (said : List Said) → X w said → Y (f w) said) → Leads X Y (changes f)
unfolding Ends
changes-leads f a = record { runs = λ w said h. a w said h }

pub changes-keeps : {X : State} (f : World → World) → Alters X f → Keeps X (changes f)
unfolding Ends
changes-keeps f a = record { runs = λ w said h. a.turns w said h }

pub unchanged-alters : {X : State} → Alters X (λ w. w)
unchanged-alters = record { turns = λ w said h. h }

pub nothing-leads : {X Y : State} → ((w : World) (said : List Said) → X w said → Y w said) → Leads X Y nothing
unfolding Ends
nothing-leads a = record { runs = λ w said h. a w said h }

pub nothing-keeps : {X : State} → Keeps X nothing
unfolding Ends
nothing-keeps = record { runs = λ w said h. h }

-- from what is stronger
pub from-leads : {X Y Z : State} (f : Step) → ((w : World) (said : List Said) → X w said → Y w said) → Leads Y Z f → Leads X Z f
from-leads f a b = record { runs = λ w said h. b.runs w said (a w said h) }

ends_also : (Y Z : State) (d : Done) → Ends Y d → ((w : World) (said : List Said) → Y w said → Z w said) → Ends Z d
unfolding Ends
ends_also Y Z (done w said) h a = a w said h

-- to what is weaker
pub to-leads : {X Y Z : State} (f : Step) → Leads X Y f → ((w : World) (said : List Said) → Y w said → Z w said) → Leads X Z f
to-leads {X} {Y} {Z} f b a = record { runs = λ w said h. ends_also Y Z (f w said) (b.runs w said h) a }

pub looks-leads : {X Y : State} (f : World → Step) → ((v : World) → Leads X Y (f v)) → Leads X Y (looks f)
looks-leads f a = record { runs = λ w said h. (a w).runs w said h }

pub looks-keeps : {X : State} (f : World → Step) → ((v : World) → Keeps X (f v)) → Keeps X (looks f)
looks-keeps f a = looks-leads f a

-- what is known of the world that the step looks at
pub looks-with : {X Y : State} (f : World → Step) → ((v : World) (said : List Said) → X v said → Leads (At X v) Y (f v)) → Leads X Y (looks f)
looks-with f a = record { runs = λ w said h. (a w said h).runs w said (h, refl) }

pub sees-leads : {X Y : State} (p : Image) (name : Who) (f : Seen → Step) → ((q : Seen) → Leads X Y (f q)) → Leads X Y (sees p name f)
sees-leads p name f a = record { runs = λ w said h. (a (seen_by p w name)).runs w said h }

pub sees-keeps : {X : State} (p : Image) (name : Who) (f : Seen → Step) → ((q : Seen) → Keeps X (f q)) → Keeps X (sees p name f)
sees-keeps p name f a = sees-leads p name f a

pub branch-leads : {X Y : State} (b : Bool) (f g : Step) → Leads X Y f → Leads X Y g → Leads X Y (elim b as (λ _. Step) [ true ↦ f | false ↦ g ])
branch-leads true f g a b = a
branch-leads false f g a b = b

pub branch-keeps : {X : State} (b : Bool) (f g : Step) → Keeps X f → Keeps X g → Keeps X (elim b as (λ _. Step) [ true ↦ f | false ↦ g ])
branch-keeps b f g p q = branch-leads b f g p q

pub cond-leads : {X Y : State} (b : Bool) (f g : Step) → Leads X Y f → Leads X Y g → Leads X Y (cond b f g)
cond-leads true f g a b = a
cond-leads false f g a b = b

pub cond-keeps : {X : State} (b : Bool) (f g : Step) → Keeps X f → Keeps X g → Keeps X (cond b f g)
cond-keeps b f g p q = cond-leads b f g p q

pub option-leads : {X Y : State} {A : Type 0} (x : Option A) (f : Step) (g : A → Step) → Leads X Y f → ((y : A) → Leads X Y (g y))
    → Leads X Y (elim x as (λ _. Step) [ None ↦ f | Some y ↦ g y ])
option-leads None f g a b = a
option-leads (Some y) f g a b = b y

pub option-keeps : {X : State} {A : Type 0} (x : Option A) (f : Step) (g : A → Step) → Keeps X f → ((y : A) → Keeps X (g y))
    → Keeps X (elim x as (λ _. Step) [ None ↦ f | Some y ↦ g y ])
option-keeps x f g a b = option-leads x f g a b

pub when-keeps : {X : State} (b : Bool) (step : Step) → Keeps X step → Keeps X (when b step)
when-keeps true step a = a
when-keeps false step a = nothing-keeps

-- the step is kept where the test holds
pub when-leads : {X Y : State} (b : Bool) (step : Step) → (b ≡ true → Leads X Y step) → ((w : World) (said : List Said) → X w said → Y w said)
    → Leads X Y (when b step)
when-leads true step a k = a refl
when-leads false step a k = nothing-leads k

pub for_some-keeps : {X : State} {A : Type 0} (x : Option A) (f : A → Step) → ((y : A) → Keeps X (f y)) → Keeps X (for_some x f)
for_some-keeps None f a = nothing-keeps
for_some-keeps (Some x) f a = a x

pub for_each-keeps : {X : State} {A : Type 0} (xs : List A) (f : A → Step) → ((y : A) → Keeps X (f y)) → Keeps X (for_each xs f)
for_each-keeps [] f a = nothing-keeps
for_each-keeps (x ∷ xs) f a = then-keeps (f x) (for_each xs f) (a x) (for_each-keeps xs f a)

pub for_some-leads : {X Y : State} {A : Type 0} (x : Option A) (f : A → Step) → ((w : World) (said : List Said) → X w said → Y w said)
    → ((y : A) → Leads X Y (f y)) → Leads X Y (for_some x f)
for_some-leads None f k a = nothing-leads k
for_some-leads (Some x) f k a = a x

together : (Z : State) (g h : Step) (d : Done) → Ends Z (goes_on_with h (goes_on_with g d)) → Ends Z (goes_on_with (g ▷ h) d)
together Z g h (done w said) e = e

-- two steps that are known together, and a third
pub then-together : {X Y Z : State} (f g h : Step) → Leads X Y (f ▷ g) → Leads Y Z h → Leads X Z (f ▷ g ▷ h)
then-together {X} {Y} {Z} f g h a b = record { runs = λ w said k. together Z g h (f w said) ((then-leads (f ▷ g) h a b).runs w said k) }
