-- Who waited becomes ready: each step keeps what its parts keep.
use Rattle.ceiling_laws.proofs.Runs.LevelMoves.{BaseMoves, EachTask, Fitting, Silences, Sleeping, is_blocked}
use Rattle.ceiling_laws.proofs.Runs.Triples.{Alters, At, Keeps, Leads, State, With, from-leads, nothing-keeps, then-keeps}
use Rattle.profile_machine.specs.Dispatching.{ready}
use Rattle.profile_machine.specs.Inheritance.{inherit, same_cause}
use Rattle.profile_machine.specs.Steps.{Step, for_each}
use Rattle.profile_machine.specs.Tasks.{waiting_in}
use Rattle.profile_image.specs.Words.{same_who}
use Rattle.profile_image.specs.declared.image.Image.{Image}
use Rattle.profile_machine.specs.declared.world.World.{World}
use Rattle.profile_machine.specs.declared.world.lines.Part.{Part}
use Rattle.profile_machine.specs.declared.world.lines.Said.{Said}
use Rattle.profile_machine.specs.declared.world.tasks.Cause.{Cause}
use Rattle.profile_machine.specs.declared.world.tasks.Cause.TheVariants as inherited_by
use Rattle.profile_machine.specs.declared.world.tasks.State as tasks
use Rattle.profile_machine.specs.declared.world.tasks.State.TheVariants.{Blocked, Made, Runnable}
use Rattle.profile_machine.specs.declared.world.tasks.Task.{Task}
use Rattle.profile_machine.specs.declared.world.tasks.Waiting.{Waiting}
use Rattle.std.proofs.Common.{ap, refl, subst, sym, ◌∙◌, ◌≡◌}
use Rattle.std.proofs.lemmas.Bool.{eqb-true}
use Rattle.std.specs.Prelude.{Bool, List, None, Option, Some, [], cond, false, filter, find, true, ℕ, ◌∷◌}
use Rattle.trace_text.specs.declared.events.Who.{Who}
use Rattle.trace_text.specs.declared.events.Who.TheVariants as who

-- who waits for something is blocked
pub waiting-blocked : (test : Option Waiting → Bool) → test None ≡ false → (state : tasks.State) → test (waiting_in state) ≡ true → is_blocked state ≡ true
waiting-blocked test none Made e = let never : false ≡ true = sym none ∙ e in cc
waiting-blocked test none Runnable e = let never : false ≡ true = sym none ∙ e in cc
waiting-blocked test none (Blocked waiting) e = refl

-- what holds of each task of a list holds of one that is found, and the test does
pub found-step : (P : Task → Type 0) (test : Task → Bool) (t u : Task) (rest : Option Task) (b : Bool) → test t ≡ b → cond b (Some t) rest ≡ Some u → P t
    → (rest ≡ Some u → P u × (test u ≡ true)) → P u × (test u ≡ true)
found-step P test t u rest true is e a onward = let one : t ≡ u = cc in subst (λ v. P v × (test v ≡ true)) one (a, is)
found-step P test t u rest false is e a onward = onward e

pub found-each : (P : Task → Type 0) (test : Task → Bool) (ts : List Task) (u : Task) → EachTask P ts → find test ts ≡ Some u → P u × (test u ≡ true)
found-each P test [] u each e = cc
found-each P test (t ∷ ts) u each e = found-step P test t u (find test ts) (test t) refl e each.0 (λ k. found-each P test ts u each.1 k)

filtered : (P : Task → Type 0) (b : Bool) (t : Task) (ts : List Task) → P t → EachTask P ts → EachTask P (cond b (t ∷ ts) ts)
filtered P true t ts a each = (a, each)
filtered P false t ts a each = each

pub filter-each : (P : Task → Type 0) (test : Task → Bool) (ts : List Task) → EachTask P ts → EachTask P (filter test ts)
filter-each P test [] each = tt
filter-each P test (t ∷ ts) each = filtered P (test t) t (filter test ts) each.0 (filter-each P test ts each.1)

-- the tests of a list hold of each that is left
tested : (test : Task → Bool) (b : Bool) (t : Task) (ts : List Task) → test t ≡ b → EachTask (λ u. test u ≡ true) ts
    → EachTask (λ u. test u ≡ true) (cond b (t ∷ ts) ts)
tested test true t ts is each = (is, each)
tested test false t ts is each = each

pub filter-tested : (test : Task → Bool) (ts : List Task) → EachTask (λ u. test u ≡ true) (filter test ts)
filter-tested test [] = tt
filter-tested test (t ∷ ts) = tested test (test t) t (filter test ts) refl (filter-tested test ts)

pub each-both : (P Q R : Task → Type 0) (ts : List Task) → ((t : Task) → P t → Q t → R t) → EachTask P ts → EachTask Q ts → EachTask R ts
each-both P Q R [] f a b = tt
each-both P Q R (t ∷ ts) f a b = (f t a.0 b.0, each-both P Q R ts f a.1 b.1)

pub for_each_task-keeps : {X : State} (P : Task → Type 0) (ts : List Task) (f : Task → Step) → EachTask P ts → ((t : Task) → P t → Keeps X (f t))
    → Keeps X (for_each ts f)
for_each_task-keeps P [] f each a = nothing-keeps
for_each_task-keeps P (t ∷ ts) f each a = then-keeps (f t) (for_each ts f) (a t each.0) (for_each_task-keeps P ts f each.1 a)

pub each-any : (ts : List Task) → EachTask (λ t. Unit {0}) ts
each-any [] = tt
each-any (t ∷ ts) = (tt, each-any ts)

pub who-is : (a b : Who) → same_who a b ≡ true → a ≡ b
who-is (who.Task a) (who.Task b) e = ap (λ (n : ℕ). who.Task (record { 0 = n })) (eqb-true a.0 b.0 e)
who-is (who.Task a) who.Agent e = cc
who-is who.Agent (who.Task b) e = cc
who-is who.Agent who.Agent e = refl

module _ {p : Image} {Fits : Fitting} {Sleeps : Sleeping} {X : State} (moves : BaseMoves p Fits Sleeps X) where
  abbrev pub Asleep : Who → State
  Asleep name = With X (λ w. Sleeps w name)

  pub asleep_quiet : (name : Who) → Silences (Asleep name)
  asleep_quiet name = record {
    silently = λ a b said s h. (moves.quiet.silently a b said s h.0, moves.sleeps_on a b name s h.1);
    says = λ part line w said other h. (moves.quiet.says part line w said other h.0, h.1);
    ends_scope = λ id w said h. (moves.quiet.ends_scope id w said h.0, moves.sleeps_behind id w name h.1);
  }

  pub wide : {name : Who} (w : World) (said : List Said) → Asleep name w said → X w said
  wide w said h = h.0

  -- in a world in which somebody waits
  pub asleep_at : {Y : State} (name : Who) (v : World) (f : Step) → Sleeps v name → Leads (Asleep name) Y f → Leads (At X v) Y f
  asleep_at name v f s a = from-leads f (λ w said h. (h.0, subst (λ u. Sleeps u name) (sym h.1) s)) a

  pub ready-at : (part : Part) (name : Who) (v : World) → Fits part name → Sleeps v name → Leads (At X v) X (ready p part name)
  ready-at part name v fits s = asleep_at name v (ready p part name) s (moves.wakes part name fits)

  pub inherit-alters : (name : Who) (cause : Cause) (level : ℕ) → same_cause inherited_by.Activation cause ≡ false → Alters X (inherit name cause level)
  inherit-alters name cause level other = record { turns = λ w said h. moves.inherits name cause level w said other h }
