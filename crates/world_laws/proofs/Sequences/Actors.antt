-- What holds of whom between instants, and while somebody acts.
use Rattle.std.proofs.Common.{◌≡◌, ℕ, Bool, true, false, ◌||◌, List, [], ◌∷◌, Some, None, is_some, refl, sym, ap, subst, ◌∙◌, ◌⊎◌, inl, inr}
use Rattle.std.proofs.lemmas.Bool.{false≢true}
use Rattle.ann_base.specs.declared.identities.RegionNo.{RegionNo}
use Rattle.ann_base.specs.declared.identities.TaskNo.{TaskNo}
use Rattle.trace_text.specs.declared.events.Who.{Who}
use Rattle.trace_text.specs.declared.events.Who.TheVariants as who
use Rattle.profile_image.specs.declared.image.Image.{Image}
use Rattle.profile_machine.specs.declared.world.World.{World}
use Rattle.profile_machine.specs.declared.world.calls.Call.{Call}
use Rattle.profile_machine.specs.declared.world.marks.Frame.{Frame}
use Rattle.profile_machine.specs.declared.world.tasks.State.{State}
use Rattle.profile_machine.specs.declared.world.tasks.State.TheVariants.{Made, Runnable, Blocked}
use Rattle.profile_machine.specs.declared.world.tasks.Waiting.TheVariants as waits_for
use Rattle.profile_image.specs.Words.{same_who}
use Rattle.world_tables.specs.Lists.{first_of}
use Rattle.profile_machine.specs.Tasks.{task_of, is_runnable_state, waiting_in}
use Rattle.profile_machine.specs.Frames.{any_protected, is_protected}
use Rattle.profile_machine.specs.Masters.{waits_for_activation}
use Rattle.machine_laws.proofs.FineMoves.{Naming, Nature, nature, natures, is_abortable}
use Rattle.world_laws.proofs.Sequences.FineMoves.{Nobody, is_for_dependents}
use Rattle.world_laws.proofs.Sequences.TaskEdits.{by_bool, who-self, who-same}
use Rattle.world_laws.proofs.Sequences.Points.{Point, Marking, Calling, Callings, IsTask, Fine, Points, Free, Stacks, begins}

-- ---- between instants

-- ready, or to be ready without opening anything
abbrev pub must : State → Bool
must Made = false
must Runnable = true
must (Blocked waiting) = is_for_dependents waiting

abbrev pub of_agent : State → Bool
of_agent Made = false
of_agent Runnable = true
of_agent (Blocked waits_for.Activation) = false
of_agent (Blocked waits_for.Moment) = false
of_agent (Blocked (waits_for.Call c)) = false
of_agent (Blocked (waits_for.EndOfCall c)) = false
of_agent (Blocked (waits_for.Accept s)) = false
of_agent (Blocked (waits_for.Select accepts delay terminate)) = false
of_agent (Blocked (waits_for.Dependents r)) = true
of_agent (Blocked waits_for.Release) = true

abbrev pub Rests : Point
Rests (who.Task n) s g = must s ≡ true → g ≡ false
Rests who.Agent s g = (g ≡ false) × (of_agent s ≡ true)

of_agent-waits : (s : State) → of_agent s ≡ true → waits_for_activation (waiting_in s) ≡ false
of_agent-waits Made e = refl
of_agent-waits Runnable e = refl
of_agent-waits (Blocked waits_for.Activation) e = absurd (false≢true e)
of_agent-waits (Blocked waits_for.Moment) e = refl
of_agent-waits (Blocked (waits_for.Call c)) e = refl
of_agent-waits (Blocked (waits_for.EndOfCall c)) e = refl
of_agent-waits (Blocked (waits_for.Accept s)) e = refl
of_agent-waits (Blocked (waits_for.Select accepts delay terminate)) e = refl
of_agent-waits (Blocked (waits_for.Dependents r)) e = refl
of_agent-waits (Blocked waits_for.Release) e = refl

rests-tight : (name : Who) (s : State) (g : Bool) → Rests name s g → Rests name s false
rests-tight (who.Task n) s g h = λ m. refl
rests-tight who.Agent s g h = (refl, h.1)

rests-wakes : (name : Who) → Rests name Runnable false
rests-wakes (who.Task n) = λ m. refl
rests-wakes who.Agent = (refl, refl)

pub rests_points : Points Rests
rests_points = record {
  tight = rests-tight;
  wakes = rests-wakes;
  rises = λ n r g h m. h refl;
  agent_rises = λ s g h. (h.0, refl);
  agent_waits = λ s g h. of_agent-waits s h.1;
  begun = λ n m. absurd (false≢true m);
}

-- nobody goes on freely
pub nobody_free : (P : Point) → Free P Nobody
nobody_free P = record { freely = λ name s g may h. absurd may; runs = λ name s g may h. absurd may }

pub nobody_stacks : (A : Marking) → Stacks A Nobody
nobody_stacks A = record { pushed = λ may n ns r a h. absurd may; popped = λ may n ns a h. absurd may }

-- ---- the agent's marks

abbrev pub Rooted : Marking
Rooted [] = ⊥
Rooted (n ∷ []) = (n.action ≡ true) × (is_some n.release ≡ true) × (n.abortable ≡ false)
Rooted (n ∷ m ∷ ns) = (n.release ≡ None) × (n.abortable ≡ false) × Rooted (m ∷ ns)

abbrev pub Standing : Marking
Standing ns = (ns ≡ []) ⊎ Rooted ns

rooted-pushed : (n : Nature) (ns : List Nature) → n.release ≡ None → n.abortable ≡ false → Rooted ns → Rooted (n ∷ ns)
rooted-pushed n [] release abortable h = absurd h
rooted-pushed n (m ∷ ns) release abortable h = (release, abortable, h)

rooted-popped : (n : Nature) (ns : List Nature) → n.action ≡ false → Rooted (n ∷ ns) → Rooted ns
rooted-popped n [] action h = absurd (false≢true (sym action ∙ h.0))
rooted-popped n (m ∷ ns) action h = h.2

pub rooted_stacks : (May : Naming) → Stacks Rooted May
rooted_stacks May = record {
  pushed = λ may n ns release abortable h. rooted-pushed n ns release abortable h;
  popped = λ may n ns action h. rooted-popped n ns action h;
}

any-rest : (b c : Bool) → (b || c) ≡ false → c ≡ false
any-rest true c e = absurd (false≢true (sym e))
any-rest false c e = e

pub rooted-inside : (fs : List Frame) → Rooted (natures fs) → any_protected fs ≡ false → ⊥
rooted-inside [] h e = h
rooted-inside (x ∷ []) h e = false≢true (sym e ∙ ap (λ b. b || false) h.0)
rooted-inside (x ∷ y ∷ zs) h e = rooted-inside (y ∷ zs) h.2 (any-rest (is_protected x.mark) (any_protected (y ∷ zs)) e)

rooted-first : (n : Nature) (ns : List Nature) → Rooted (n ∷ ns) → n.abortable ≡ false
rooted-first n [] h = h.2
rooted-first n (m ∷ ns) h = h.1

first-one : (x f : Frame) (xs : List Frame) → first_of (x ∷ xs) ≡ Some f → x ≡ f
first-one x f xs e = cc

pub rooted-unabortable : (fs : List Frame) (f : Frame) → first_of fs ≡ Some f → Rooted (natures fs) → is_abortable f.mark ≡ false
rooted-unabortable [] f e h = absurd h
rooted-unabortable (x ∷ xs) f e h = subst (λ g. is_abortable g.mark ≡ false) (first-one x f xs e) (rooted-first (nature x.mark) (natures xs) h)

-- a release ends with the last of them
pub rooted-last : (n : Nature) (ns : List Nature) (r : ℕ) → n.release ≡ Some r → Rooted (n ∷ ns) → ns ≡ []
rooted-last n [] r is h = refl
rooted-last n (m ∷ ns) r is h = absurd (let never : None ≡ Some r = sym h.0 ∙ is in cc)

pub rooted-rest : (n : Nature) (ns : List Nature) → n.release ≡ None → Rooted (n ∷ ns) → Rooted ns
rooted-rest n [] is h = absurd (false≢true (ap is_some (sym is) ∙ h.1))
rooted-rest n (m ∷ ns) is h = h.2

-- ---- while somebody acts

abbrev pub Acting : Type 1
Acting = State → Bool → Type 0

-- of who acts this, and of the others what holds between instants
abbrev pub Apart : Who → Acting → Point
Apart a Q b s g = (same_who a b ≡ false → Rests b s g) × (same_who a b ≡ true → Q s g)

pub record ActingPoints (a : Who) (Q : Acting) : Type 0 where
  pub tight : (s : State) (g : Bool) → Q s g → Q s false
  pub wakes : Q Runnable false
  pub rises : IsTask a → (r : RegionNo) (g : Bool) → Q (Blocked (waits_for.Dependents r)) g → Q Runnable g
  pub agent_rises : a ≡ who.Agent → (s : State) (g : Bool) → Q s g → Q Runnable g
  pub agent_waits : a ≡ who.Agent → (s : State) (g : Bool) → Q s g → waits_for_activation (waiting_in s) ≡ false
  pub begun : IsTask a → Q Made false

a_task : (a : Who) (n : TaskNo) → same_who a (who.Task n) ≡ true → IsTask a
a_task a n same = subst IsTask (sym (who-same a (who.Task n) same)) tt

pub acting_points : (a : Who) (Q : Acting) → ActingPoints a Q → Points (Apart a Q)
acting_points a Q q = record {
  tight = λ name s g h. ((λ apart. rests_points.tight name s g (h.0 apart)), (λ same. q.tight s g (h.1 same)));
  wakes = λ name. ((λ apart. rests_points.wakes name), (λ same. q.wakes));
  rises = λ n r g h. ((λ apart. rests_points.rises n r g (h.0 apart)), (λ same. q.rises (a_task a n same) r g (h.1 same)));
  agent_rises = λ s g h. ((λ apart. rests_points.agent_rises s g (h.0 apart)), (λ same. q.agent_rises (who-same a who.Agent same) s g (h.1 same)));
  agent_waits =
      λ s g h.
      by_bool (same_who a who.Agent) (λ same. q.agent_waits (who-same a who.Agent same) s g (h.1 same)) (λ apart. rests_points.agent_waits s g (h.0 apart));
  begun = λ n. ((λ apart. rests_points.begun n), (λ same. q.begun (a_task a n same)));
}

-- who acts does not wait for dependents, and the agent is ready
abbrev pub awaits_dependents : State → Bool
awaits_dependents Made = false
awaits_dependents Runnable = false
awaits_dependents (Blocked waiting) = is_for_dependents waiting

abbrev pub Acts : Who → Acting
Acts (who.Task n) s g = awaits_dependents s ≡ false
Acts who.Agent s g = s ≡ Runnable

-- and goes on plainly
abbrev pub ActsPlainly : Who → Acting
ActsPlainly (who.Task n) s g = g ≡ false
ActsPlainly who.Agent s g = (s ≡ Runnable) × (g ≡ false)

-- and has acted: it is ready, or rests
abbrev pub HasActed : Who → Acting
HasActed a s g = (is_runnable_state s ≡ true) ⊎ Rests a s g

pub agent-task : {X : Type 0} (n : TaskNo) → who.Task n ≡ who.Agent → X
agent-task n is = absurd (subst IsTask is tt)

agent-waits : (s : State) → s ≡ Runnable → waits_for_activation (waiting_in s) ≡ false
agent-waits s is = ap (λ t. waits_for_activation (waiting_in t)) is

pub acts_points : (a : Who) → ActingPoints a (Acts a)
acts_points (who.Task n) = record {
  tight = λ s g h. h;
  wakes = refl;
  rises = λ t r g h. refl;
  agent_rises = λ is s g h. agent-task n is;
  agent_waits = λ is s g h. agent-task n is;
  begun = λ t. refl;
}
acts_points who.Agent = record {
  tight = λ s g h. h;
  wakes = refl;
  rises = λ t r g h. absurd t;
  agent_rises = λ is s g h. refl;
  agent_waits = λ is s g h. agent-waits s h;
  begun = λ t. absurd t;
}

pub plainly_points : (a : Who) → ActingPoints a (ActsPlainly a)
plainly_points (who.Task n) = record {
  tight = λ s g h. refl;
  wakes = refl;
  rises = λ t r g h. h;
  agent_rises = λ is s g h. agent-task n is;
  agent_waits = λ is s g h. agent-task n is;
  begun = λ t. refl;
}
plainly_points who.Agent = record {
  tight = λ s g h. (h.0, refl);
  wakes = (refl, refl);
  rises = λ t r g h. absurd t;
  agent_rises = λ is s g h. (refl, h.1);
  agent_waits = λ is s g h. agent-waits s h.0;
  begun = λ t. absurd t;
}

abbrev pub Is : Who → Naming
Is a name = name ≡ a

pub acts-freely : (a : Who) (s : State) (g : Bool) → Acts a s false → Acts a s g
acts-freely (who.Task n) s g h = h
acts-freely who.Agent s g h = h

acts-runs : (a : Who) (g : Bool) → Acts a Runnable g
acts-runs (who.Task n) g = refl
acts-runs who.Agent g = refl

the_same : (a name : Who) → name ≡ a → same_who a name ≡ true
the_same a name is = subst (λ n. same_who a n ≡ true) (sym is) (who-self a)

pub acts_free : (a : Who) → Free (Apart a (Acts a)) (Is a)
acts_free a = record {
  freely = λ name s g may h. ((λ apart. absurd (false≢true (sym apart ∙ the_same a name may))), (λ same. acts-freely a s g (h.1 same)));
  runs = λ name s g may h. ((λ apart. absurd (false≢true (sym apart ∙ the_same a name may))), (λ same. acts-runs a g));
}

pub task_stacks : (A : Marking) (n : TaskNo) → Stacks A (Is (who.Task n))
task_stacks A n = record { pushed = λ may m ns r a h. agent-task n (sym may); popped = λ may m ns a h. agent-task n (sym may) }

-- ---- from one to the other

acts-acted : (a : Who) (s : State) (g : Bool) → Acts a s g → HasActed a s g
acts-acted (who.Task n) Made g h = inr (λ m. absurd (false≢true m))
acts-acted (who.Task n) Runnable g h = inl refl
acts-acted (who.Task n) (Blocked waiting) g h = inr (λ m. absurd (false≢true (sym h ∙ m)))
acts-acted who.Agent s g h = inl (ap is_runnable_state h)

plainly-acted : (a : Who) (s : State) (g : Bool) → ActsPlainly a s g → HasActed a s g
plainly-acted (who.Task n) s g h = inr (λ m. h)
plainly-acted who.Agent s g h = inl (ap is_runnable_state h.0)

-- of calls nothing is asked
abbrev pub Any : Calling
Any n cs = Unit {0}

pub any_callings : Callings Any
any_callings = record { edited = λ c f n cs number caller h. tt; added = λ d n cs h. tt; forgotten = λ c n cs h. tt }

module _ {p : Image} {A B : Marking} {C D : Calling} (wide : (ns : List Nature) → A ns → B ns) (known : (n : ℕ) (cs : List Call) → C n cs → D n cs) where
  pub fine-wide : (P Q : Point) (w : World) → ((b : Who) (s : State) (g : Bool) → P b s g → Q b s g) → Fine p P A C w → Fine p Q B D w
  fine-wide P Q w over h = record {
    agent = h.agent;
    apart = h.apart;
    below = h.below;
    units = h.units;
    calls = known w.drawn.calls w.calls h.calls;
    marks = wide (natures w.agent.frames) h.marks;
    points = λ b. over b (task_of w b).state (begins p w b) (h.points b);
  }

module _ {p : Image} {A B : Marking} {C : Calling} (wide : (ns : List Nature) → A ns → B ns) where
  pub acts-over : (a : Who) (w : World) → Fine p (Apart a (Acts a)) A C w → Fine p (Apart a (HasActed a)) B Any w
  acts-over a w h = fine-wide wide (λ n cs k. tt) (Apart a (Acts a)) (Apart a (HasActed a)) w (λ b s g k. (k.0, (λ same. acts-acted a s g (k.1 same)))) h

  pub plainly-over : (a : Who) (w : World) → Fine p (Apart a (ActsPlainly a)) A C w → Fine p (Apart a (HasActed a)) B Any w
  plainly-over a w h =
      fine-wide wide (λ n cs k. tt) (Apart a (ActsPlainly a)) (Apart a (HasActed a)) w (λ b s g k. (k.0, (λ same. plainly-acted a s g (k.1 same)))) h
