-- What it is that cells are right, and that a change, a step or a move keeps them right; and that those are kept right by what is
-- put together of such as do.
use Rattle.std.proofs.Common.{◌≡◌, Bool, true, false, cond, List, [], ◌∷◌, Option, Some, None}
use Rattle.std.specs.Prelude.{Ok, Err}
use Rattle.std.specs.List.{list_all}
use Rattle.ann_base.specs.Results.{◌>>=◌}
use Rattle.trace_text.specs.declared.events.Who.{Who}
use Rattle.profile_image.specs.declared.image.Image.{Image}
use Rattle.profile_machine.specs.declared.world.World.{World}
use Rattle.profile_machine.specs.declared.world.lines.Line.{Line}
use Rattle.profile_machine.specs.declared.world.lines.Part.{Part}
use Rattle.profile_machine.specs.declared.world.lines.Said.{Said}
use Rattle.profile_machine.specs.Steps.{Step, Move, Done, done, goes_on_with, nothing, changes, says, looks}
use Rattle.profile_machine.specs.Steps.{when, for_some, for_each, settled, settles, rests, watches, ◌▷◌, ◌▶◌}
use Rattle.profile_machine.specs.Operators.{Valued}
use Rattle.profile_machine.specs.Values.{Seen, seen_by}
use Rattle.profile_machine.specs.Statements.{sees}
use Rattle.profile_machine.specs.WellFormed.{has_its_cells}
use Rattle.machine_laws.proofs.Kept.Combinators.{world_behind}

-- each scope in use has as many cells as its text says
unfoldable pub Right : Image → World → Type 0
Right p w = list_all (has_its_cells p) w.scopes ≡ true

-- the world to which a step has led

-- a change, a step and a move lead from worlds with right cells to such worlds; a value is such a world, or an exception
pub record Alters (p : Image) (f : World → World) : Type 0 where
  pub at : (w : World) → Right p w → Right p (f w)

pub record Keeps (p : Image) (step : Step) : Type 0 where
  pub from : (w : World) → Right p w → (said : List Said) → Right p (world_behind (step w said))

pub record Leads (p : Image) (move : Move) : Type 0 where
  pub on : (w : World) → Right p w → Right p (move w).0

abbrev pub GivesIt : Image → Valued World → Type 0
GivesIt p (Ok w) = Right p w
GivesIt p (Err e) = Unit {0}

pub record Gives (p : Image) (x : Valued World) : Type 0 where
  pub world : GivesIt p x

-- ---- changes

pub unchanged-alters : {p : Image} → Alters p (λ w. w)
unchanged-alters = record { at = λ w right. right }

-- a world takes the place of the one that is there
pub next-alters : {p : Image} (next : World) → Right p next → Alters p (λ _. next)
next-alters next right = record { at = λ w before. right }

-- ---- steps

behind-right : {p : Image} (g : Step) (d : Done) → Keeps p g → Right p (world_behind d) → Right p (world_behind (goes_on_with g d))
behind-right g (done w said) kept right = kept.from w right said

pub then-keeps : {p : Image} (f g : Step) → Keeps p f → Keeps p g → Keeps p (f ▷ g)
then-keeps f g a b = record { from = λ w right said. behind-right g (f w said) b (a.from w right said) }

pub nothing-keeps : {p : Image} → Keeps p nothing
nothing-keeps = record { from = λ w right said. right }

pub changes-keeps : {p : Image} (f : World → World) → Alters p f → Keeps p (changes f)
changes-keeps f kept = record { from = λ w right said. kept.at w right }

pub says-keeps : {p : Image} (part : Part) (line : Line) → Keeps p (says part line)
says-keeps part line = record { from = λ w right said. right }

pub looks-keeps : {p : Image} (f : World → Step) → ((w : World) → Right p w → Keeps p (f w)) → Keeps p (looks f)
looks-keeps f kept = record { from = λ w right said. (kept w right).from w right said }

pub sees-keeps : (p : Image) (name : Who) (f : Seen → Step) → ((q : Seen) → Right p q.world → Keeps p (f q)) → Keeps p (sees p name f)
sees-keeps p name f kept = looks-keeps _ (λ w right. kept (seen_by p w name) right)

pub branch-keeps : {p : Image} (b : Bool) (f g : Step) → Keeps p f → Keeps p g → Keeps p (elim b as (λ _. Step) [ true ↦ f | false ↦ g ])
branch-keeps true f g kept also_kept = kept
branch-keeps false f g kept also_kept = also_kept

pub cond-keeps : {p : Image} (b : Bool) (f g : Step) → Keeps p f → Keeps p g → Keeps p (cond b f g)
cond-keeps true f g kept also_kept = kept
cond-keeps false f g kept also_kept = also_kept

pub option-keeps : {X : Type 0} {p : Image} (x : Option X) (f : Step) (g : X → Step) → Keeps p f → ((y : X) → Keeps p (g y))
    → Keeps p (elim x as (λ _. Step) [ None ↦ f | Some y ↦ g y ])
option-keeps None f g kept also_kept = kept
option-keeps (Some y) f g kept also_kept = also_kept y

pub when-keeps : {p : Image} (b : Bool) (step : Step) → Keeps p step → Keeps p (when b step)
when-keeps true step kept = kept
when-keeps false step kept = nothing-keeps

pub for_some-keeps : {X : Type 0} {p : Image} (x : Option X) (f : X → Step) → ((y : X) → Keeps p (f y)) → Keeps p (for_some x f)
for_some-keeps None f kept = nothing-keeps
for_some-keeps (Some x) f kept = kept x

pub for_each-keeps : {X : Type 0} {p : Image} (xs : List X) (f : X → Step) → ((y : X) → Keeps p (f y)) → Keeps p (for_each xs f)
for_each-keeps [] f kept = nothing-keeps
for_each-keeps (x ∷ xs) f kept = then-keeps (f x) (for_each xs f) (kept x) (for_each-keeps xs f kept)

-- ---- values that are worlds

pub ok-gives : {p : Image} (w : World) → Right p w → Gives p (Ok w)
ok-gives w right = record { world = right }

pub bind-gives : {X : Type 0} {p : Image} (x : Valued X) (f : X → Valued World) → ((y : X) → Gives p (f y)) → Gives p (x >>= f)
bind-gives (Ok x) f kept = record { world = (kept x).world }
bind-gives (Err e) f kept = record { world = tt }

-- one world from another
pub next-gives : {p : Image} (x : Valued World) (f : World → Valued World) → Gives p x → ((w : World) → Right p w → Gives p (f w)) → Gives p (x >>= f)
next-gives (Ok w) f a kept = record { world = (kept w a.world).world }
next-gives (Err e) f a kept = record { world = tt }

-- ---- moves

pub then-leads : {p : Image} (f g : Move) → Leads p f → Leads p g → Leads p (f ▶ g)
then-leads f g a b = record { on = λ w right. b.on (f w).0 (a.on w right) }

pub rests-leads : {p : Image} → Leads p rests
rests-leads = record { on = λ w right. right }

pub watches-leads : {p : Image} (f : World → Move) → ((w : World) → Leads p (f w)) → Leads p (watches f)
watches-leads f kept = record { on = λ w right. (kept w).on w right }

pub branch-leads : {p : Image} (b : Bool) (f g : Move) → Leads p f → Leads p g → Leads p (elim b as (λ _. Move) [ true ↦ f | false ↦ g ])
branch-leads true f g a b = a
branch-leads false f g a b = b

pub cond-leads : {p : Image} (b : Bool) (f g : Move) → Leads p f → Leads p g → Leads p (cond b f g)
cond-leads true f g a b = a
cond-leads false f g a b = b

-- an effect that is over is put in order and places, of which no scope hears
settled-right : (p : Image) (d : Done) → Right p (world_behind d) → Right p (settled p d).0
unfolding Right
settled-right p (done w said) right = right

pub settles-leads : (p : Image) (step : Step) → Keeps p step → Leads p (settles p step)
settles-leads p step kept = record { on = λ w right. settled-right p (step w []) (kept.from w right []) }
