-- Who is woken goes on freely: the facts but for what it goes on with.
use Rattle.std.proofs.Common.{◌≡◌, Bool, true, false, not, ◌&&◌, refl, sym, ap, subst, ◌⊎◌, inl, inr}
use Rattle.trace_text.specs.declared.events.Who.{Who}
use Rattle.trace_text.specs.declared.events.Who.TheVariants as who
use Rattle.profile_image.specs.declared.image.Image.{Image}
use Rattle.profile_machine.specs.declared.world.tasks.State.{State}
use Rattle.profile_machine.specs.declared.world.tasks.State.TheVariants.{Made, Runnable}
use Rattle.profile_image.specs.Words.{same_who}
use Rattle.profile_machine.specs.Tasks.{task_of}
use Rattle.machine_laws.proofs.FineMoves.{Naming}
use Rattle.world_laws.proofs.Sequences.FineMoves.{Fits, Loosening, Loosens, Again}
use Rattle.world_laws.proofs.Sequences.TaskEdits.{by_bool, who-self, who-same}
use Rattle.world_laws.proofs.Sequences.Points.{Point, Marking, Calling, Callings, IsTask, Fine, Points, Free, Stacks, begins}
use Rattle.world_laws.proofs.Sequences.FineSteps.{fine_moves}

abbrev pub loosened : Point → Who → Point
loosened P c name s g = P name s (not (same_who c name) && g)

and-false : (x : Bool) → (x && false) ≡ false
and-false true = refl
and-false false = refl

abbrev pub Freed : Naming → Who → Naming
Freed May c name = May name ⊎ (name ≡ c)

loose-names : (c name : Who) → name ≡ c → (g : Bool) → (not (same_who c name) && g) ≡ false
loose-names c name is g = ap (λ b. not b && g) (subst (λ n. same_who c n ≡ true) (sym is) (who-self c))

module _ {P : Point} (points : Points P) (c : Who) where
  pub points-loosened : Points (loosened P c)
  points-loosened = record {
    tight = λ name s g h. subst (P name s) (sym (and-false (not (same_who c name)))) (points.tight name s (not (same_who c name) && g) h);
    wakes = λ name. subst (P name Runnable) (sym (and-false (not (same_who c name)))) (points.wakes name);
    rises = λ n r g h. points.rises n r (not (same_who c (who.Task n)) && g) h;
    agent_rises = λ s g h. points.agent_rises s (not (same_who c who.Agent) && g) h;
    agent_waits = λ s g h. points.agent_waits s (not (same_who c who.Agent) && g) h;
    begun = λ n. subst (P (who.Task n) Made) (sym (and-false (not (same_who c (who.Task n))))) (points.begun n);
  }

  module _ {May : Naming} (free : Free P May) where
    freely-loosened : (name : Who) (s : State) (g : Bool) → Freed May c name → loosened P c name s false → loosened P c name s g
    freely-loosened name s g (inl may) h = free.freely name s (not (same_who c name) && g) may (subst (P name s) (and-false (not (same_who c name))) h)
    freely-loosened name s g (inr is) h = subst (P name s) (sym (loose-names c name is g)) (subst (P name s) (and-false (not (same_who c name))) h)

    runs-loosened : (name : Who) (s : State) (g : Bool) → Freed May c name → loosened P c name s g → loosened P c name Runnable g
    runs-loosened name s g (inl may) h = free.runs name s (not (same_who c name) && g) may h
    runs-loosened name s g (inr is) h = subst (P name Runnable) (sym (loose-names c name is g)) (points.wakes name)

    pub free-loosened : Free (loosened P c) (Freed May c)
    free-loosened = record { freely = freely-loosened; runs = runs-loosened }

module _ {A : Marking} {May : Naming} (stacks : Stacks A May) (c : Who) (other : IsTask c) where
  agent-may : {X : Type 0} → Freed May c who.Agent → (May who.Agent → X) → X
  agent-may (inl may) k = k may
  agent-may (inr is) k = absurd (subst IsTask (sym is) other)

  pub stacks-loosened : Stacks A (Freed May c)
  stacks-loosened = record {
    pushed = λ may n ns release abortable a. agent-may may (λ m. stacks.pushed m n ns release abortable a);
    popped = λ may n ns action a. agent-may may (λ m. stacks.popped m n ns action a);
  }

pub loosens-point : (P : Point) → Points P → (c name : Who) (s : State) (g : Bool) → P name s g → loosened P c name s g
loosens-point P points c name s g h =
    by_bool (same_who c name)
    (λ is. subst (λ b. P name s (not b && g)) (sym is) (points.tight name s g h))
    (λ apart. subst (λ b. P name s (not b && g)) (sym apart) h)

pub tight-point : (P : Point) (c name : Who) (s : State) (g : Bool) → (name ≡ c → g ≡ false) → loosened P c name s g → P name s g
tight-point P c name s g plain h =
    by_bool (same_who c name)
    (λ is. subst (P name s) (sym (plain (sym (who-same c name is)))) (subst (λ b. P name s (not b && g)) is h))
    (λ apart. subst (λ b. P name s (not b && g)) apart h)

module _ {p : Image} {A : Marking} {C : Calling} (fits : Fits p) (callings : Callings C) where
  unfoldable pub loosening : (P : Point) (May : Naming) → Points P → Free P May → (c : Who) → Stacks A (Freed May c) → Loosening p (Fine p P A C) May IsTask c
  loosening P May points free c stacks = record {
    Loose = Fine p (loosened P c) A C;
    moves = fine_moves fits callings (points-loosened points c) (free-loosened points c free) stacks;
    loosens = λ w g. record {
      agent = g.agent;
      apart = g.apart;
      below = g.below;
      units = g.units;
      calls = g.calls;
      marks = g.marks;
      points = λ name. loosens-point P points c name (task_of w name).state (begins p w name) (g.points name);
    };
    tight = λ w g plain. record {
      agent = g.agent;
      apart = g.apart;
      below = g.below;
      units = g.units;
      calls = g.calls;
      marks = g.marks;
      points = λ name. tight-point P c name (task_of w name).state (begins p w name) (λ is. subst (λ n. begins p w n ≡ false) (sym is) plain) (g.points name);
    };
  }

  unfoldable pub fine_loosens : (P : Point) (May : Naming) → Points P → Free P May → Stacks A May → Loosens p (Fine p P A C) May IsTask
  fine_loosens P May points free stacks c other = loosening P May points free c (stacks-loosened stacks c other)

  pub fine_again : (P : Point) (May : Naming) (points : Points P) (free : Free P May) (stacks : Stacks A May)
      → Again p (Fine p P A C) May IsTask (fine_loosens P May points free stacks)
  unfolding fine_loosens loosening
  fine_again P May points free stacks c other =
      fine_loosens (loosened P c) (Freed May c) (points-loosened points c) (free-loosened points c free) (stacks-loosened stacks c other)
