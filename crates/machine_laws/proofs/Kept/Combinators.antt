-- Steps and moves that are put together of those that keep a relation keep it.
use Rattle.std.proofs.Common.{◌≡◌, Bool, true, false, cond, List, [], ◌∷◌, ◌++◌, Option, Some, None, refl, sym, subst, ap, ◌∙◌, append_assoc, append-nil}
use Rattle.std.specs.Prelude.{Ok, Err, filter}
use Rattle.ann_base.specs.Results.{◌>>=◌}
use Rattle.trace_text.specs.declared.events.Who.{Who}
use Rattle.profile_image.specs.declared.image.Image.{Image}
use Rattle.profile_machine.specs.declared.world.World.{World}
use Rattle.profile_machine.specs.declared.world.tasks.Task.{Task}
use Rattle.profile_machine.specs.declared.world.lines.Line.{Line}
use Rattle.profile_machine.specs.declared.world.lines.Part.{Part}
use Rattle.profile_machine.specs.declared.world.lines.Said.{Said}
use Rattle.profile_machine.specs.Steps.{Step, Move, Done, done, goes_on_with, nothing, changes, says, looks}
use Rattle.profile_machine.specs.Steps.{when, for_some, for_each, placed_by, settled, settles, watches, ◌▷◌, ◌▶◌}
use Rattle.profile_machine.specs.Operators.{Valued}
use Rattle.profile_machine.specs.Values.{Seen, seen_by}
use Rattle.profile_machine.specs.Statements.{sees}
use Rattle.machine_laws.proofs.Moves.{StepRelation, MoveRelation, lines_of}
use Rattle.machine_laws.proofs.FineMoves.{GoodWorld, Naming, EachIs}
use Rattle.machine_laws.proofs.Chains.{Chains, MoveChains, Settles}

-- ---- what it is to keep a relation

-- what a step has led to stands so to the world from which it went on, by the lines that it has said behind the others
unfoldable pub Kept : StepRelation → World → List Said → Done → Type 0
Kept R w said (done v ys) = (xs : List Said) × (ys ≡ said ++ xs) × R w xs v

-- a step leads from each good world, whatever was said before, to one that stands so to it
unfoldable pub Keeps : GoodWorld → StepRelation → Step → Type 0
Keeps G R step = (w : World) → G w → (said : List Said) → Kept R w said (step w said)

-- the same from one world
unfoldable pub From : StepRelation → World → Step → Type 0
From R w step = (said : List Said) → Kept R w said (step w said)

-- a change of the world
unfoldable pub Alters : GoodWorld → StepRelation → (World → World) → Type 0
Alters G R f = (w : World) → G w → R w [] (f w)

-- a world, if there is no exception
unfoldable pub Gives : StepRelation → World → Valued World → Type 0
Gives R w (Ok next) = R w [] next
Gives R w (Err e) = Unit {0}

-- a move leads from each good world to one that stands so to it
unfoldable pub Leads : GoodWorld → MoveRelation → Move → Type 0
Leads G Q move = (w : World) → G w → Q w (move w).1 (move w).0

-- the world to which a step has led
abbrev pub world_behind : Done → World
world_behind (done w said) = w

-- it stands so to the one before, by some lines
pub kept-world : (R : StepRelation) (w : World) (said : List Said) (d : Done) → Kept R w said d → (xs : List Said) × R w xs (world_behind d)
unfolding Kept
kept-world R w said (done v ys) k = (k.0, k.2)

-- ---- one step

module _ {G : GoodWorld} {R : StepRelation} (chains : Chains G R) where
  -- a step that says nothing
  pub silent-kept : (w v : World) (said : List Said) → R w [] v → Kept R w said (done v said)
  unfolding Kept
  silent-kept w v said a = ([], sym (append-nil said), a)

  pub looks_at-from : (f : World → Step) (w : World) → From R w (f w) → From R w (looks f)
  unfolding From
  looks_at-from f w a said = a said

  pub changes-from : (f : World → World) (w : World) → R w [] (f w) → From R w (changes f)
  unfolding From
  changes-from f w a said = silent-kept w (f w) said a

  pub said-from : (part : Part) (line : Line) (w : World) → R w (record { part = part; line = line } ∷ []) w → From R w (says part line)
  unfolding From Kept
  said-from part line w a said = (record { part = part; line = line } ∷ [], refl, a)

  pub either-from : (b : Bool) (f g : Step) (w : World) → From R w f → From R w g → From R w (elim b as (λ _. Step) [ true ↦ f | false ↦ g ])
  either-from true f g w a b = a
  either-from false f g w a b = b

  -- worlds that may be exceptions
  pub ok-gives : (w next : World) → R w [] next → Gives R w (Ok next)
  unfolding Gives
  ok-gives w next a = a

  pub bind-gives : {X : Type 0} (x : Valued X) (f : X → Valued World) (w : World) → ((y : X) → Gives R w (f y)) → Gives R w (x >>= f)
  unfolding Gives
  bind-gives (Ok x) f w a = a x
  bind-gives (Err e) f w a = tt

  pub changes-keeps : (f : World → World) → Alters G R f → Keeps G R (changes f)
  unfolding Keeps Alters
  changes-keeps f a w good said = silent-kept w (f w) said (a w good)

  pub said-keeps : (part : Part) (line : Line) → ((w : World) → G w → R w (record { part = part; line = line } ∷ []) w) → Keeps G R (says part line)
  unfolding Keeps Kept
  said-keeps part line a w good said = (record { part = part; line = line } ∷ [], refl, a w good)

  pub looks-keeps : (f : World → Step) → ((v : World) → Keeps G R (f v)) → Keeps G R (looks f)
  unfolding Keeps
  looks-keeps f a w good said = a w w good said

  pub sees-keeps : (p : Image) (name : Who) (f : Seen → Step) → ((q : Seen) → Keeps G R (f q)) → Keeps G R (sees p name f)
  unfolding Keeps
  sees-keeps p name f a w good said = a (seen_by p w name) w good said

  pub branch-keeps : (b : Bool) (f g : Step) → Keeps G R f → Keeps G R g → Keeps G R (elim b as (λ _. Step) [ true ↦ f | false ↦ g ])
  branch-keeps true f g a b = a
  branch-keeps false f g a b = b

  pub cond-keeps : (b : Bool) (f g : Step) → Keeps G R f → Keeps G R g → Keeps G R (cond b f g)
  cond-keeps true f g a b = a
  cond-keeps false f g a b = b

  pub option-keeps : {X : Type 0} (x : Option X) (f : Step) (g : X → Step) → Keeps G R f → ((y : X) → Keeps G R (g y))
      → Keeps G R (elim x as (λ _. Step) [ None ↦ f | Some y ↦ g y ])
  option-keeps None f g a b = a
  option-keeps (Some y) f g a b = b y

  -- from one world
  pub looks-from : (f : World → Step) → ((w : World) → G w → From R w (f w)) → Keeps G R (looks f)
  unfolding Keeps From
  looks-from f a w good said = a w good said

  pub keeps-from : (f : Step) (w : World) → G w → Keeps G R f → From R w f
  unfolding Keeps From
  keeps-from f w good a said = a w good said

  -- what is kept from each good world
  pub from-keeps : (f : Step) → ((w : World) → G w → From R w f) → Keeps G R f
  unfolding Keeps From
  from-keeps f a w good said = a w good said

  -- ---- one step behind another

  pub then-kept : (w v : World) (said ys : List Said) (d : Done) → Kept R w said (done v ys) → Kept R v ys d → Kept R w said d
  unfolding Kept
  then-kept w v said ys (done u zs) a b =
      (a.0 ++ b.0, b.1 ∙ ap (λ xs. xs ++ b.0) a.1 ∙ append_assoc said a.0 b.0, chains.goes_on w v u a.2 b.2)

  -- the world to which a step has led is good
  kept-good : (w v : World) (said ys : List Said) → Kept R w said (done v ys) → G v
  unfolding Kept
  kept-good w v said ys a = chains.behind w v a.2

  goes_on_with-kept : (g : Step) (w : World) (said : List Said) (d : Done) → Kept R w said d → Keeps G R g → Kept R w said (goes_on_with g d)
  unfolding Keeps
  goes_on_with-kept g w said (done v ys) a b = then-kept w v said ys (g v ys) a (b v (kept-good w v said ys a) ys)

  pub then-keeps : (f g : Step) → Keeps G R f → Keeps G R g → Keeps G R (f ▷ g)
  unfolding Keeps
  then-keeps f g a b w good said = goes_on_with-kept g w said (f w said) (a w good said) b

  pub nothing-keeps : Keeps G R nothing
  unfolding Keeps
  nothing-keeps w good said = silent-kept w w said (chains.stays w good)

  pub unchanged-alters : Alters G R (λ w. w)
  unfolding Alters
  unchanged-alters w good = chains.stays w good

  pub when-keeps : (b : Bool) (step : Step) → Keeps G R step → Keeps G R (when b step)
  when-keeps true step a = a
  when-keeps false step a = nothing-keeps

  -- the step is kept where the test holds
  pub when-keeps-if : (b : Bool) (step : Step) → (b ≡ true → Keeps G R step) → Keeps G R (when b step)
  when-keeps-if true step a = a refl
  when-keeps-if false step a = nothing-keeps

  pub for_some-keeps : {X : Type 0} (x : Option X) (f : X → Step) → ((y : X) → Keeps G R (f y)) → Keeps G R (for_some x f)
  for_some-keeps None f a = nothing-keeps
  for_some-keeps (Some x) f a = a x

  pub for_each-keeps : {X : Type 0} (xs : List X) (f : X → Step) → ((y : X) → Keeps G R (f y)) → Keeps G R (for_each xs f)
  for_each-keeps [] f a = nothing-keeps
  for_each-keeps (x ∷ xs) f a = then-keeps (f x) (for_each xs f) (a x) (for_each-keeps xs f a)

  -- from one world
  pub then-from : (f g : Step) (w : World) → From R w f → Keeps G R g → From R w (f ▷ g)
  unfolding From
  then-from f g w a b said = goes_on_with-kept g w said (f w said) (a said) b

  pub said_then-from : (part : Part) (line : Line) (g : Step) (w : World) → R w (record { part = part; line = line } ∷ []) w → From R w g
      → From R w (says part line ▷ g)
  unfolding From
  said_then-from part line g w a b said =
      let more = said ++ record { part = part; line = line } ∷ [] in
      then-kept w w said more (g w more) (said-from part line w a said) (b more)

  -- a line that tells one change, or two, and a step behind
  pub told_change-from : (part : Part) (line : Line) (f : World → World) (g : Step) (w : World) → R w (record { part = part; line = line } ∷ []) (f w)
      → Keeps G R g → From R w (says part line ▷ changes f ▷ g)
  unfolding From Kept Keeps
  told_change-from part line f g w a b said =
      let more = said ++ record { part = part; line = line } ∷ [] in
      then-kept w (f w) said more (g (f w) more) (record { part = part; line = line } ∷ [], refl, a) (b (f w) (chains.behind w (f w) a) more)

  pub changes_told-from : (f g : World → World) (part : Part) (line : Line) (h : Step) (w : World) → R w (record { part = part; line = line } ∷ []) (g (f w))
      → Keeps G R h → From R w (changes f ▷ changes g ▷ says part line ▷ h)
  unfolding From Kept Keeps
  changes_told-from f g part line h w a b said =
      let more = said ++ record { part = part; line = line } ∷ [] in
      then-kept w (g (f w)) said more (h (g (f w)) more) (record { part = part; line = line } ∷ [], refl, a) (b (g (f w)) (chains.behind w (g (f w)) a) more)

  -- a change, and a step from the world that it makes
  pub changes_then-from : (f : World → World) (g : Step) (w : World) → R w [] (f w) → From R (f w) g → From R w (changes f ▷ g)
  unfolding From
  changes_then-from f g w a b said = then-kept w (f w) said said (g (f w) said) (silent-kept w (f w) said a) (b said)

  after-kept : (g : Step) (w : World) (said : List Said) (d : Done) → Kept R w said d → ((v : World) (xs : List Said) → R w xs v → From R v g)
      → Kept R w said (goes_on_with g d)
  unfolding From Kept
  after-kept g w said (done v ys) a b = then-kept w v said ys (g v ys) a (b v a.0 a.2 ys)

  -- a step behind another, from the world to which that has led
  pub after-from : (f g : Step) (w : World) → From R w f → ((v : World) (xs : List Said) → R w xs v → From R v g) → From R w (f ▷ g)
  unfolding From
  after-from f g w a b said = after-kept g w said (f w said) (a said) b

  -- worlds that may be exceptions
  gives-on : (x : Valued World) (a b : World) → R a [] b → Gives R b x → Gives R a x
  unfolding Gives
  gives-on (Ok c) a b h k = chains.goes_on a b c h k
  gives-on (Err e) a b h k = tt

  pub next-gives : (x : Valued World) (f : World → Valued World) (w : World) → Gives R w x → ((v : World) → G v → Gives R v (f v)) → Gives R w (x >>= f)
  unfolding Gives
  next-gives (Ok v) f w a b = gives-on (f v) w v a (b v (chains.behind w v a))
  next-gives (Err e) f w a b = tt

  -- of tasks that have names of others
  pub for_each_task-keeps : (Other : Naming) (ts : List Task) (f : Task → Step) → EachIs Other ts → ((t : Task) → Other t.who → Keeps G R (f t))
      → Keeps G R (for_each ts f)
  for_each_task-keeps Other [] f each a = nothing-keeps
  for_each_task-keeps Other (t ∷ ts) f each a = then-keeps (f t) (for_each ts f) (a t each.0) (for_each_task-keeps Other ts f each.1 a)

module _ (Other : Naming) where
  filtered : (test : Bool) (t : Task) (ts : List Task) → Other t.who → EachIs Other ts → EachIs Other (cond test (t ∷ ts) ts)
  filtered true t ts a each = (a, each)
  filtered false t ts a each = each

  pub some_of-others : (test : Task → Bool) (ts : List Task) → EachIs Other ts → EachIs Other (filter test ts)
  some_of-others test [] each = tt
  some_of-others test (t ∷ ts) each = filtered (test t) t (filter test ts) each.0 (some_of-others test ts each.1)

-- of those of a good world, where all of them have such names
pub listed-keeps : {G : GoodWorld} {R : StepRelation} (chains : Chains G R) (Other : Naming) → ((w : World) → G w → EachIs Other w.tasks)
    → (test : World → Task → Bool) (f : World → Task → Step) → ((w : World) (t : Task) → Other t.who → Keeps G R (f w t))
    → Keeps G R (looks (λ w. for_each (filter (test w) w.tasks) (f w)))
listed-keeps chains Other listed test f a =
    looks-from chains _
    (λ w good.
    keeps-from chains _ w good (for_each_task-keeps chains Other (filter (test w) w.tasks) (f w) (some_of-others Other (test w) w.tasks (listed w good)) (a w)))

-- ---- moves

module _ {G : GoodWorld} {Q : MoveRelation} (chains : MoveChains G Q) where
  pub watches-leads : (f : World → Move) → ((v : World) → Leads G Q (f v)) → Leads G Q (watches f)
  unfolding Leads
  watches-leads f a w good = a w w good

  pub then-leads : (f g : Move) → Leads G Q f → Leads G Q g → Leads G Q (f ▶ g)
  unfolding Leads
  then-leads f g a b w good =
      let first = a w good in
      chains.leads_on w (f w).0 (g (f w).0).0 first (b (f w).0 (chains.moved w (f w).0 first))

-- an effect is over
module _ {R : StepRelation} (Q : MoveRelation) (p : Image) (settled_so : Settles p R Q) where
  settled-kept : (w : World) (d : Done) → Kept R w [] d → Q w (settled p d).1 (settled p d).0
  unfolding Kept
  settled-kept w (done v ys) a = subst (λ xs. Q w (lines_of p xs) (placed_by (lines_of p xs) v)) (sym a.1) (settled_so w v a.0 a.2)

  pub settles-from : (step : Step) (w : World) → From R w step → Q w (settles p step w).1 (settles p step w).0
  unfolding From
  settles-from step w a = settled-kept w (step w []) (a [])

  pub settles-leads : (G : GoodWorld) (step : Step) → Keeps G R step → Leads G Q (settles p step)
  unfolding Keeps Leads
  settles-leads G step a w good = settled-kept w (step w []) (a w good [])
