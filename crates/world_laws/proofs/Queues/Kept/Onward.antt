-- Steps that lead from good worlds to good ones: of who acts and is awake, and of anybody.
use Rattle.std.proofs.Common.{◌≡◌, ℕ, Bool, true, false, ◌<◌, ◌≤◌, ◌++◌, List, [], ◌∷◌, Option, Some, None, refl, arith}
use Rattle.std.specs.Prelude.{Result, Ok, Err}
use Rattle.ann_base.specs.declared.exceptions.Raised.{Raised}
use Rattle.ann_base.specs.declared.exceptions.Raised.TheVariants as exception
use Rattle.ann_base.specs.declared.identities.CallNo.{CallNo}
use Rattle.ann_base.specs.declared.identities.TaskNo.{TaskNo}
use Rattle.trace_text.specs.declared.events.Who.{Who}
use Rattle.trace_text.specs.declared.events.Who.TheVariants as who
use Rattle.profile_image.specs.declared.image.Image.{Image}
use Rattle.profile_machine.specs.declared.world.World.{World}
use Rattle.profile_machine.specs.declared.world.calls.Call.{Call}
use Rattle.profile_machine.specs.declared.world.lines.Line.{Line}
use Rattle.profile_machine.specs.declared.world.lines.Part.{Part}
use Rattle.profile_machine.specs.declared.world.lines.Said.{Said}
use Rattle.profile_machine.specs.declared.world.lines.Part.TheVariants as of_part
use Rattle.profile_machine.specs.Steps.{Step, Done, done, goes_on_with, nothing, changes, says, looks, when, for_some, for_each, ◌▷◌}
use Rattle.profile_machine.specs.Values.{Seen, seen_by}
use Rattle.profile_machine.specs.Statements.{sees}
use Rattle.profile_machine.specs.Frames.{given, raise_if, raises, has_room, with_room}
use Rattle.profile_machine.specs.Calls.{call_of, with_call}
use Rattle.world_laws.proofs.Queues.Kept.Combinators.{Calms, From, Keeps, nothing-from}
use Rattle.world_laws.proofs.Queues.Kept.Frames.{raises-keeps}
use Rattle.world_laws.proofs.Queues.Moving.{Next, calm-next, next-then}
use Rattle.world_laws.proofs.Queues.Standing.{Awake, Calm, Good, Kind, calm-good, quiet_kind}
use Rattle.machine_laws.proofs.Kept.Combinators.{world_behind}

-- somebody's number was drawn
abbrev pub Drawn : Who → World → Type 0
Drawn name w = (t : TaskNo) → name ≡ who.Task t → t.0 < w.drawn.tasks

pub record Onward (p : Image) (w : World) (step : Step) : Type 0 where
  pub leads : (said : List Said) → Next p w (world_behind (step w said))

-- a step of anybody, and of who acts
pub record Any (p : Image) (step : Step) : Type 0 where
  pub from : (w : World) → Good p w → Onward p w step

pub record Acts (p : Image) (name : Who) (step : Step) : Type 0 where
  pub from : (w : World) → Good p w → Awake name w → Drawn name w → Onward p w step

pub drawn-on : (p : Image) (w v : World) (name : Who) → Next p w v → Drawn name w → Drawn name v
drawn-on p w v name next drawn t is =
    let low : t.0 < w.drawn.tasks = drawn t is in let grown : w.drawn.tasks ≤ v.drawn.tasks = next.tasks in omega (arith, low, grown)

goes_on-next : (p : Image) (g : Step) (w : World) (d : Done) → Next p w (world_behind d) → Onward p (world_behind d) g
    → Next p w (world_behind (goes_on_with g d))
goes_on-next p g w (done v said) a b = next-then p w v (world_behind (g v said)) a (b.leads said)

pub then-onward : {p : Image} (f g : Step) (w : World) → Onward p w f → ((v : World) → Next p w v → Onward p v g) → Onward p w (f ▷ g)
then-onward {p = p} f g w a b = record { leads = λ said. goes_on-next p g w (f w said) (a.leads said) (b (world_behind (f w said)) (a.leads said)) }

goes_on-calm : {E : Kind} (p : Image) (g : Step) (w : World) (d : Done) → Good p w → Calm E w (world_behind d) → Onward p (world_behind d) g
    → Next p w (world_behind (goes_on_with g d))
goes_on-calm p g w (done v said) good a b = next-then p w v (world_behind (g v said)) (calm-next p w v good a) (b.leads said)

-- behind a calm step
pub calm_then-onward : {p : Image} {E : Kind} (f g : Step) (w : World) → Good p w → From E w f → ((v : World) → Calm E w v → Good p v → Onward p v g)
    → Onward p w (f ▷ g)
calm_then-onward {p = p} f g w good a b = record {
  leads =
      λ said. goes_on-calm p g w (f w said) good (a.leads said)
      (b (world_behind (f w said)) (a.leads said) (calm-good p w (world_behind (f w said)) good (a.leads said)));
}

pub calm-onward : {p : Image} {E : Kind} (f : Step) (w : World) → Good p w → From E w f → Onward p w f
calm-onward {p = p} f w good a = record { leads = λ said. calm-next p w (world_behind (f w said)) good (a.leads said) }

pub nothing-onward : {p : Image} (w : World) → Good p w → Onward p w nothing
nothing-onward w good = calm-onward {E = quiet_kind} nothing w good (nothing-from w)

pub changes_then-onward : {p : Image} (f : World → World) (g : Step) (w : World) → Next p w (f w) → Onward p (f w) g → Onward p w (changes f ▷ g)
changes_then-onward {p = p} f g w a b = record { leads = λ said. next-then p w (f w) (world_behind (g (f w) said)) a (b.leads said) }

pub changes-onward : {p : Image} (f : World → World) (w : World) → Next p w (f w) → Onward p w (changes f)
changes-onward f w a = record { leads = λ said. a }

pub said_then-onward : {p : Image} (part : Part) (line : Line) (g : Step) (w : World) → Onward p w g → Onward p w (says part line ▷ g)
said_then-onward part line g w a = record { leads = λ said. a.leads (said ++ record { part = part; line = line } ∷ []) }

pub looks_at-onward : {p : Image} (f : World → Step) (w : World) → Onward p w (f w) → Onward p w (looks f)
looks_at-onward f w a = record { leads = λ said. a.leads said }

pub either-onward : {p : Image} (b : Bool) (f g : Step) (w : World) → Onward p w f → Onward p w g → Onward p w (elim b as (λ _. Step) [ true ↦ f | false ↦ g ])
either-onward true f g w a b = a
either-onward false f g w a b = b

pub when-onward : {p : Image} (b : Bool) (step : Step) (w : World) → Good p w → (b ≡ true → Onward p w step) → Onward p w (when b step)
when-onward true step w good a = a refl
when-onward false step w good a = nothing-onward w good

found-onward : {p : Image} (c : CallNo) (found : Option Call) (f : Call → Step) (w : World) → Good p w → call_of w c ≡ found
    → ((d : Call) → call_of w c ≡ Some d → Onward p w (f d)) → Onward p w (for_some found f)
found-onward c None f w good is a = nothing-onward w good
found-onward c (Some d) f w good is a = a d is

pub with_call-onward : {p : Image} (c : CallNo) (f : Call → Step) (w : World) → Good p w → ((d : Call) → call_of w c ≡ Some d → Onward p w (f d))
    → Onward p w (with_call c f)
with_call-onward c f w good a = looks_at-onward (λ v. for_some (call_of v c) f) w (found-onward c (call_of w c) f w good refl a)

pub for_some-onward : {p : Image} {X : Type 0} (x : Option X) (f : X → Step) (w : World) → Good p w → ((y : X) → x ≡ Some y → Onward p w (f y))
    → Onward p w (for_some x f)
for_some-onward None f w good a = nothing-onward w good
for_some-onward (Some x) f w good a = a x refl

-- ---- of anybody

pub calms-any : {p : Image} (f : Step) → Calms quiet_kind f → Any p f
calms-any f a = record { from = λ w good. calm-onward f w good (a.from w) }

pub then-any : {p : Image} (f g : Step) → Any p f → Any p g → Any p (f ▷ g)
then-any f g a b = record { from = λ w good. then-onward f g w (a.from w good) (λ v next. b.from v next.good) }

pub looks-any : {p : Image} (f : World → Step) → ((w : World) → Any p (f w)) → Any p (looks f)
looks-any f a = record { from = λ w good. looks_at-onward f w ((a w).from w good) }

pub branch-any : {p : Image} (b : Bool) (f g : Step) → Any p f → Any p g → Any p (elim b as (λ _. Step) [ true ↦ f | false ↦ g ])
branch-any true f g a b = a
branch-any false f g a b = b

pub nothing-any : {p : Image} → Any p nothing
nothing-any = record { from = nothing-onward }

pub when-any : {p : Image} (b : Bool) (f : Step) → Any p f → Any p (when b f)
when-any true f a = a
when-any false f a = nothing-any

pub for_some-any : {p : Image} {X : Type 0} (x : Option X) (f : X → Step) → ((y : X) → Any p (f y)) → Any p (for_some x f)
for_some-any None f a = nothing-any
for_some-any (Some x) f a = a x

pub for_each-any : {p : Image} {X : Type 0} (xs : List X) (f : X → Step) → ((y : X) → Any p (f y)) → Any p (for_each xs f)
for_each-any [] f a = nothing-any
for_each-any (x ∷ xs) f a = then-any (f x) (for_each xs f) (a x) (for_each-any xs f a)

-- ---- of who acts

pub any-acts : {p : Image} {name : Who} (f : Step) → Any p f → Acts p name f
any-acts f a = record { from = λ w good awake drawn. a.from w good }

pub keeps-acts : {p : Image} {name : Who} (f : Step) → Keeps quiet_kind name f → Acts p name f
keeps-acts f a = record { from = λ w good awake drawn. calm-onward f w good (a.from w awake) }

pub then-acts : {p : Image} {name : Who} (f g : Step) → Acts p name f → Acts p name g → Acts p name (f ▷ g)
then-acts {p = p} {name = name} f g a b = record {
  from =
      λ w good awake drawn.
      then-onward f g w (a.from w good awake drawn) (λ v next. b.from v next.good (next.awake name awake) (drawn-on p w v name next drawn));
}

pub looks-acts : {p : Image} {name : Who} (f : World → Step) → ((w : World) → Acts p name (f w)) → Acts p name (looks f)
looks-acts f a = record { from = λ w good awake drawn. looks_at-onward f w ((a w).from w good awake drawn) }

pub sees-acts : {p : Image} {name : Who} (q : Image) (someone : Who) (f : Seen → Step) → ((s : Seen) → Acts p name (f s)) → Acts p name (sees q someone f)
sees-acts q someone f a = looks-acts (λ w. f (seen_by q w someone)) (λ w. a (seen_by q w someone))

pub branch-acts : {p : Image} {name : Who} (b : Bool) (f g : Step) → Acts p name f → Acts p name g
    → Acts p name (elim b as (λ _. Step) [ true ↦ f | false ↦ g ])
branch-acts true f g a b = a
branch-acts false f g a b = b

pub given-acts : {p : Image} {name : Who} {X : Type 0} (part : Part) (someone : Who) (result : Result X Raised) (f : X → Step) → ((x : X) → Acts p name (f x))
    → Acts p name (given part someone result f)
given-acts part someone (Ok x) f k = k x
given-acts part someone (Err e) f k = keeps-acts _ (raises-keeps part someone e)

pub raise_if-acts : {p : Image} {name : Who} (someone : Who) (test : Bool) (e : Raised) (step : Step) → Acts p name step
    → Acts p name (raise_if someone test e step)
raise_if-acts someone true e step kept = keeps-acts _ (raises-keeps of_part.Own someone e)
raise_if-acts someone false e step kept = kept

pub with_room-acts : {p : Image} {name : Who} (someone : Who) (marks cells : ℕ) (step : Step) → Acts p name step
    → Acts p name (with_room someone marks cells step)
with_room-acts someone marks cells step kept =
    looks-acts _ (λ w. branch-acts (has_room w someone marks cells) step (raises of_part.Own someone exception.Storage) kept
    (keeps-acts _ (raises-keeps of_part.Own someone exception.Storage)))

pub acts-onward : {p : Image} {name : Who} (f : Step) (w : World) → Good p w → Awake name w → Drawn name w → Acts p name f → Onward p w f
acts-onward f w good awake drawn a = a.from w good awake drawn
