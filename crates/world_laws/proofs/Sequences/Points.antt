-- A fact of each task and of the agent by its state, and by whether it goes on with a sequence with handlers: what changes keep
-- it, and what else a world has that steps rely on.
use Rattle.std.proofs.Common.{◌≡◌, ℕ, suc, Bool, true, false, not, List, [], ◌∷◌, Option, Some, None, find, refl, sym, ap, subst, ◌∙◌, ◌⊎◌, inl, inr, unwrap_or}
use Rattle.std.proofs.lemmas.Bool.{false≢true}
use Rattle.ann_base.specs.declared.identities.CallNo.{CallNo}
use Rattle.ann_base.specs.declared.identities.RegionNo.{RegionNo}
use Rattle.ann_base.specs.declared.identities.TaskNo.{TaskNo}
use Rattle.trace_text.specs.declared.events.Who.{Who}
use Rattle.trace_text.specs.declared.events.Who.TheVariants as who
use Rattle.profile_image.specs.declared.image.Image.{Image}
use Rattle.profile_image.specs.declared.numbers.StatementNo.{StatementNo}
use Rattle.profile_machine.specs.declared.world.World.{World}
use Rattle.profile_machine.specs.declared.world.calls.Call.{Call}
use Rattle.profile_machine.specs.declared.world.marks.Frame.{Frame}
use Rattle.profile_machine.specs.declared.world.tasks.Task.{Task}
use Rattle.profile_machine.specs.declared.world.tasks.State.{State}
use Rattle.profile_machine.specs.declared.world.tasks.State.TheVariants.{Made, Runnable, Blocked}
use Rattle.profile_machine.specs.declared.world.tasks.Waiting.TheVariants as waits_for
use Rattle.profile_image.specs.Words.{same_who, edit_where, without}
use Rattle.profile_machine.specs.Tasks.{nobody, is_who, task_at, task_of, edit_task_found, edit_task, with_frames, waiting_in}
use Rattle.profile_machine.specs.Frames.{onward_of}
use Rattle.profile_machine.specs.Calls.{is_call, edit_call, forget_call}
use Rattle.profile_machine.specs.Masters.{waits_for_activation, waits_in, forget_task}
use Rattle.profile_machine.specs.EntryCalls.{add_call, numbered}
use Rattle.profile_machine.specs.Tasking.{add_task}
use Rattle.profile_machine.specs.WellFormed.{begins_sequence}
use Rattle.machine_laws.proofs.FineMoves.{Naming, Nature, natures, edit_task-drawn}
use Rattle.world_laws.proofs.Sequences.FineMoves.{onward_in, StaysOn, Fitting, AllFitting}
use Rattle.world_laws.proofs.Sequences.UnitFits.{edited-fitting, filter-fitting, added-fitting}
use Rattle.world_laws.proofs.Sequences.TaskEdits.{by_bool, who-same, edited-own, edited-other}
use Rattle.world_laws.proofs.Sequences.TaskNames.{names, AllApart, AllBelow, edited-names, filter-all, filter-below}
use Rattle.world_laws.proofs.Sequences.TaskNames.{added-all, added-below, added-find, forgotten-own, forgotten-other}

-- ---- facts by name

abbrev pub Point : Type 1
Point = Who → State → Bool → Type 0

abbrev pub Marking : Type 1
Marking = List Nature → Type 0

abbrev pub IsTask : Naming
IsTask (who.Task n) = Unit {0}
IsTask who.Agent = ⊥

-- of the calls that are there, and how many were drawn
abbrev pub Calling : Type 1
Calling = ℕ → List Call → Type 0

abbrev pub begins : Image → World → Who → Bool
begins p w name = begins_sequence p (onward_of w name)

-- of everybody the fact holds; tasks are numbered, and the calls and the agent's marks are such
pub record Fine (p : Image) (P : Point) (A : Marking) (C : Calling) (w : World) : Type 0 where
  pub agent : w.agent.who ≡ who.Agent
  pub apart : AllApart (names w.tasks)
  pub below : AllBelow w.drawn.tasks (names w.tasks)
  pub units : AllFitting p w.tasks
  pub calls : C w.drawn.calls w.calls
  pub marks : A (natures w.agent.frames)
  pub points : (name : Who) → P name (task_of w name).state (begins p w name)

-- what steps do to calls keeps it
pub record Callings (C : Calling) : Type 0 where
  pub edited : (c : CallNo) (f : Call → Call) (n : ℕ) (cs : List Call) → ((d : Call) → (f d).number ≡ d.number) → ((d : Call) → (f d).caller ≡ d.caller)
      → C n cs → C n (edit_where (is_call c) f cs)
  pub added : (d : Call) (n : ℕ) (cs : List Call) → C n cs → C (suc n) (numbered (suc n) d ∷ cs)
  pub forgotten : (c : CallNo) (n : ℕ) (cs : List Call) → C n cs → C n (without (is_call c) cs)

-- what steps ask of a fact: who goes on plainly may be in any state that it may be in, may be ready, and a new task is there; who
-- waits for dependents, and the agent, become ready as they are
pub record Points (P : Point) : Type 0 where
  pub tight : (name : Who) (s : State) (g : Bool) → P name s g → P name s false
  pub wakes : (name : Who) → P name Runnable false
  pub rises : (n : TaskNo) (r : RegionNo) (g : Bool) → P (who.Task n) (Blocked (waits_for.Dependents r)) g → P (who.Task n) Runnable g
  pub agent_rises : (s : State) (g : Bool) → P who.Agent s g → P who.Agent Runnable g
  pub agent_waits : (s : State) (g : Bool) → P who.Agent s g → waits_for_activation (waiting_in s) ≡ false
  pub begun : (n : TaskNo) → P (who.Task n) Made false

-- who may go on freely
pub record Free (P : Point) (May : Naming) : Type 0 where
  pub freely : (name : Who) (s : State) (g : Bool) → May name → P name s false → P name s g
  pub runs : (name : Who) (s : State) (g : Bool) → May name → P name s g → P name Runnable g

-- the agent's marks, where it may go on
pub record Stacks (A : Marking) (May : Naming) : Type 0 where
  pub pushed : May who.Agent → (n : Nature) (ns : List Nature) → n.release ≡ None → n.abortable ≡ false → A ns → A (n ∷ ns)
  pub popped : May who.Agent → (n : Nature) (ns : List Nature) → n.action ≡ false → A (n ∷ ns) → A ns

-- ---- changes that touch nobody

task-plain : (a b : World) (name : Who) → b.tasks ≡ a.tasks → b.agent ≡ a.agent → task_of b name ≡ task_of a name
task-plain a b (who.Task n) tasks agent = ap (λ ts. unwrap_or (find (is_who (who.Task n)) ts) nobody) tasks
task-plain a b who.Agent tasks agent = agent

pub fine-plain : {p : Image} {P : Point} {A : Marking} {C : Calling} (a b : World) → b.tasks ≡ a.tasks → b.agent ≡ a.agent → b.calls ≡ a.calls
    → b.drawn.tasks ≡ a.drawn.tasks → b.drawn.calls ≡ a.drawn.calls → Fine p P A C a → Fine p P A C b
fine-plain {p} {P} {A} {C} a b tasks agent calls drawn drawn_calls h = record {
  agent = ap (λ t. t.who) agent ∙ h.agent;
  apart = subst (λ ts. AllApart (names ts)) (sym tasks) h.apart;
  below = subst (λ d. AllBelow d (names b.tasks)) (sym drawn) (subst (λ ts. AllBelow a.drawn.tasks (names ts)) (sym tasks) h.below);
  units = subst (AllFitting p) (sym tasks) h.units;
  calls = subst (λ n. C n b.calls) (sym drawn_calls) (subst (C a.drawn.calls) (sym calls) h.calls);
  marks = subst (λ (t : Task). A (natures t.frames)) (sym agent) h.marks;
  points = λ name. subst (λ (t : Task). P name t.state (begins_sequence p (onward_in t.frames))) (sym (task-plain a b name tasks agent)) (h.points name);
}

plain_points : (p : Image) (P : Point) (a b : World) → b.tasks ≡ a.tasks → b.agent ≡ a.agent → ((name : Who) → P name (task_of a name).state (begins p a name))
    → (name : Who) → P name (task_of b name).state (begins p b name)
plain_points p P a b tasks agent h name =
    subst (λ (t : Task). P name t.state (begins_sequence p (onward_in t.frames))) (sym (task-plain a b name tasks agent)) (h name)

stays_point : (p : Image) (P : Point) → Points P → (name : Who) (s : State) (a b : Option StatementNo) → StaysOn a b → P name s (begins_sequence p b)
    → P name s (begins_sequence p a)
stays_point p P points name s a b (inl same) h = subst (λ n. P name s (begins_sequence p n)) (sym same) h
stays_point p P points name s a b (inr none) h = subst (λ n. P name s (begins_sequence p n)) (sym none) (points.tight name s (begins_sequence p b) h)

-- ---- a task is edited

pub edited_found-calls : (name : Who) (f : Task → Task) (w : World) (found : Option Task) → (edit_task_found name f w found).calls ≡ w.calls
edited_found-calls name f w None = refl
edited_found-calls (who.Task n) f w (Some t) = refl
edited_found-calls who.Agent f w (Some t) = refl

pub edited_found-agent : (name : Who) (f : Task → Task) (w : World) (found : Option Task) → task_at w name ≡ found
    → ((edit_task_found name f w found).agent ≡ w.agent) ⊎ ((name ≡ who.Agent) × ((edit_task_found name f w found).agent ≡ f w.agent))
edited_found-agent name f w None is = inl refl
edited_found-agent (who.Task n) f w (Some t) is = inl refl
edited_found-agent who.Agent f w (Some t) is = inr (refl, (let one : w.agent ≡ t = cc in ap f (sym one)))

marks-edited : (A : Marking) (name : Who) (a b : Task) (f : Task → Task) → (b ≡ a) ⊎ ((name ≡ who.Agent) × (b ≡ f a))
    → (name ≡ who.Agent → A (natures a.frames) → A (natures (f a).frames)) → A (natures a.frames) → A (natures b.frames)
marks-edited A name a b f (inl same) keeps h = subst (λ (t : Task). A (natures t.frames)) (sym same) h
marks-edited A name a b f (inr is) keeps h = subst (λ (t : Task). A (natures t.frames)) (sym is.1) (keeps is.0 h)

pub agent-edited : (name : Who) (a b : Task) (f : Task → Task) → (b ≡ a) ⊎ ((name ≡ who.Agent) × (b ≡ f a)) → ((t : Task) → (f t).who ≡ t.who)
    → a.who ≡ who.Agent → b.who ≡ who.Agent
agent-edited name a b f (inl still) same h = ap (λ t. t.who) still ∙ h
agent-edited name a b f (inr is) same h = ap (λ t. t.who) is.1 ∙ same a ∙ h

own_point : (p : Image) (P : Point) (name : Who) (f : Task → Task) (w v : World) → (task_of v name ≡ f (task_of w name)) ⊎ ((v ≡ w) × (task_of w name ≡ nobody))
    → P name (f (task_of w name)).state (begins_sequence p (onward_in (f (task_of w name)).frames)) → P name (task_of w name).state (begins p w name)
    → P name (task_of v name).state (begins p v name)
own_point p P name f w v (inl is) made before = subst (λ (t : Task). P name t.state (begins_sequence p (onward_in t.frames))) (sym is) made
own_point p P name f w v (inr gone) made before = subst (λ (u : World). P name (task_of u name).state (begins p u name)) (sym gone.0) before

pub fine-edited : {p : Image} {P : Point} {A : Marking} {C : Calling} (name : Who) (f : Task → Task) (w : World) → ((t : Task) → (f t).who ≡ t.who)
    → ((t : Task) → Fitting p t → Fitting p (f t)) → (name ≡ who.Agent → A (natures w.agent.frames) → A (natures (f w.agent).frames))
    → (P name (task_of w name).state (begins p w name) → P name (f (task_of w name)).state (begins_sequence p (onward_in (f (task_of w name)).frames)))
    → Fine p P A C w → Fine p P A C (edit_task name f w)
fine-edited {p} {P} {A} {C} name f w same fitted marks point h = record {
  agent = agent-edited name w.agent (edit_task name f w).agent f (edited_found-agent name f w (task_at w name) refl) same h.agent;
  apart = subst AllApart (sym (edited-names name f w same)) h.apart;
  below =
      subst (λ d. AllBelow d (names (edit_task name f w).tasks)) (sym (ap (λ d. d.tasks) (edit_task-drawn name f w)))
      (subst (AllBelow w.drawn.tasks) (sym (edited-names name f w same)) h.below);
  units = edited-fitting p name f w fitted h.units;
  calls =
      subst (λ n. C n (edit_task name f w).calls) (sym (ap (λ d. d.calls) (edit_task-drawn name f w)))
      (subst (C w.drawn.calls) (sym (edited_found-calls name f w (task_at w name))) h.calls);
  marks = marks-edited A name w.agent (edit_task name f w).agent f (edited_found-agent name f w (task_at w name) refl) marks h.marks;
  points = λ b. by_bool (same_who name b)
      (λ is. subst (λ n. P n (task_of (edit_task name f w) n).state (begins p (edit_task name f w) n)) (who-same name b is)
      (own_point p P name f w (edit_task name f w) (edited-own name f w same) (point (h.points name)) (h.points name)))
      (λ apart. subst (λ (t : Task). P b t.state (begins_sequence p (onward_in t.frames))) (sym (edited-other name b f w same apart)) (h.points b));
}

-- ---- tasks that come and go

new_point : (p : Image) (P : Point) (n : TaskNo) (a b : Option Task) (t : Task) → Points P → (a ≡ b) ⊎ ((b ≡ None) × (a ≡ Some t)) → t.state ≡ Made
    → t.frames ≡ []
    → P (who.Task n) (unwrap_or b nobody).state (begins_sequence p (onward_in (unwrap_or b nobody).frames))
    → P (who.Task n) (unwrap_or a nobody).state (begins_sequence p (onward_in (unwrap_or a nobody).frames))
new_point p P n a b t points (inl same) made none h =
    subst (λ o. P (who.Task n) (unwrap_or o nobody).state (begins_sequence p (onward_in (unwrap_or o nobody).frames))) (sym same) h
new_point p P n a b t points (inr is) made none h =
    subst (λ o. P (who.Task n) (unwrap_or o nobody).state (begins_sequence p (onward_in (unwrap_or o nobody).frames))) (sym is.1)
    (subst (λ s. P (who.Task n) s (begins_sequence p (onward_in t.frames))) (sym made)
    (subst (λ fs. P (who.Task n) Made (begins_sequence p (onward_in fs))) (sym none) (points.begun n)))

added_point : (p : Image) (P : Point) (t : Task) (w : World) (name : Who) → Points P → t.frames ≡ [] → t.state ≡ Made
    → P name (task_of w name).state (begins p w name) → P name (task_of (add_task t w) name).state (begins p (add_task t w) name)
added_point p P t w (who.Task n) points none made h =
    new_point p P n (find (is_who (who.Task n)) (add_task t w).tasks) (find (is_who (who.Task n)) w.tasks) t points
    (added-find (who.Task n) t w.tasks) made none h
added_point p P t w who.Agent points none made h = h

pub fine-added : {p : Image} {P : Point} {A : Marking} {C : Calling} → Points P → (t : Task) (w : World) → t.who ≡ who.Task (record { 0 = w.drawn.tasks })
    → t.frames ≡ [] → t.state ≡ Made → Fitting p t → Fine p P A C w → Fine p P A C (add_task t w)
fine-added {p} {P} {A} {C} points t w is none made fits h = record {
  agent = h.agent;
  apart = added-all w.drawn.tasks t w.tasks is h.below h.apart;
  below = added-below w.drawn.tasks t w.tasks is h.below;
  units = added-fitting p t w.tasks fits h.units;
  calls = h.calls;
  marks = h.marks;
  points = λ name. added_point p P t w name points none made (h.points name);
}

gone_point : (p : Image) (P : Point) (n : TaskNo) (o : Option Task) → Points P → o ≡ None
    → P (who.Task n) (unwrap_or o nobody).state (begins_sequence p (onward_in (unwrap_or o nobody).frames))
gone_point p P n o points is =
    subst (λ a. P (who.Task n) (unwrap_or a nobody).state (begins_sequence p (onward_in (unwrap_or a nobody).frames))) (sym is) (points.begun n)

forgotten_point : (p : Image) (P : Point) (gone name : Who) (w : World) → Points P → P name (task_of w name).state (begins p w name)
    → P name (task_of (forget_task gone w) name).state (begins p (forget_task gone w) name)
forgotten_point p P gone who.Agent w points h = h
forgotten_point p P gone (who.Task n) w points h =
    by_bool (same_who gone (who.Task n))
    (λ is. gone_point p P n (find (is_who (who.Task n)) (without (is_who gone) w.tasks)) points
    (subst (λ g. find (is_who (who.Task n)) (without (is_who g) w.tasks) ≡ None) (sym (who-same gone (who.Task n) is))
    (forgotten-own (who.Task n) w.tasks)))
    (λ apart. subst (λ o. P (who.Task n) (unwrap_or o nobody).state (begins_sequence p (onward_in (unwrap_or o nobody).frames)))
    (sym (forgotten-other gone (who.Task n) w.tasks apart)) h)

pub fine-forgotten : {p : Image} {P : Point} {A : Marking} {C : Calling} → Points P → (name : Who) (w : World) → Fine p P A C w
    → Fine p P A C (forget_task name w)
fine-forgotten {p} {P} {A} {C} points name w h = record {
  agent = h.agent;
  apart = filter-all (λ t. not (is_who name t)) w.tasks h.apart;
  below = filter-below (λ t. not (is_who name t)) w.drawn.tasks w.tasks h.below;
  units = filter-fitting p (λ t. not (is_who name t)) w.tasks h.units;
  calls = h.calls;
  marks = h.marks;
  points = λ b. forgotten_point p P name b w points (h.points b);
}

-- ---- calls

pub fine-call_edited : {p : Image} {P : Point} {A : Marking} {C : Calling} → Callings C → (c : CallNo) (f : Call → Call) (w : World)
    → ((d : Call) → (f d).number ≡ d.number) → ((d : Call) → (f d).caller ≡ d.caller) → Fine p P A C w → Fine p P A C (edit_call c f w)
fine-call_edited {p} {P} {A} {C} callings c f w number caller h = record {
  agent = h.agent;
  apart = h.apart;
  below = h.below;
  units = h.units;
  calls = callings.edited c f w.drawn.calls w.calls number caller h.calls;
  marks = h.marks;
  points = plain_points p P w (edit_call c f w) refl refl h.points;
}

pub fine-call_added : {p : Image} {P : Point} {A : Marking} {C : Calling} → Callings C → (c : Call) (w : World) → Fine p P A C w → Fine p P A C (add_call c w)
fine-call_added {p} {P} {A} {C} callings c w h = record {
  agent = h.agent;
  apart = h.apart;
  below = h.below;
  units = h.units;
  calls = callings.added c w.drawn.calls w.calls h.calls;
  marks = h.marks;
  points = plain_points p P w (add_call c w) refl refl h.points;
}

pub fine-call_forgotten : {p : Image} {P : Point} {A : Marking} {C : Calling} → Callings C → (c : CallNo) (w : World) → Fine p P A C w
    → Fine p P A C (forget_call c w)
fine-call_forgotten {p} {P} {A} {C} callings c w h = record {
  agent = h.agent;
  apart = h.apart;
  below = h.below;
  units = h.units;
  calls = callings.forgotten c w.drawn.calls w.calls h.calls;
  marks = h.marks;
  points = plain_points p P w (forget_call c w) refl refl h.points;
}

-- ---- marks are edited

pub fine-frames : {p : Image} {P : Point} {A : Marking} {C : Calling} → Points P → (name : Who) (f : List Frame → List Frame) (w : World)
    → ((fs : List Frame) → natures (f fs) ≡ natures fs) → ((fs : List Frame) → StaysOn (onward_in (f fs)) (onward_in fs)) → Fine p P A C w
    → Fine p P A C (edit_task name (λ t. with_frames (f t.frames) t) w)
fine-frames {p} {P} {A} {C} points name f w same stays h =
    fine-edited name (λ t. with_frames (f t.frames) t) w (λ t. refl) (λ t fit. fit) (λ is a. subst A (sym (same w.agent.frames)) a)
    (λ a. stays_point p P points name (task_of w name).state (onward_in (f (task_of w name).frames)) (onward_in (task_of w name).frames)
    (stays (task_of w name).frames) a) h

-- the master of a region
pub waits-so : (r : RegionNo) (s : State) → waits_in r (waiting_in s) ≡ true → (q : RegionNo) × (s ≡ Blocked (waits_for.Dependents q))
waits-so r Made e = absurd (false≢true e)
waits-so r Runnable e = absurd (false≢true e)
waits-so r (Blocked waits_for.Activation) e = absurd (false≢true e)
waits-so r (Blocked waits_for.Moment) e = absurd (false≢true e)
waits-so r (Blocked (waits_for.Call c)) e = absurd (false≢true e)
waits-so r (Blocked (waits_for.EndOfCall c)) e = absurd (false≢true e)
waits-so r (Blocked (waits_for.Accept s)) e = absurd (false≢true e)
waits-so r (Blocked (waits_for.Select accepts delay terminate)) e = absurd (false≢true e)
waits-so r (Blocked (waits_for.Dependents q)) e = (q, refl)
waits-so r (Blocked waits_for.Release) e = absurd (false≢true e)

pub rises_as : (P : Point) → Points P → (name : Who) (s : State) (q : RegionNo) (g : Bool) → s ≡ Blocked (waits_for.Dependents q) → P name s g
    → P name Runnable g
rises_as P points (who.Task n) s q g is h = points.rises n q g (subst (λ t. P (who.Task n) t g) is h)
rises_as P points who.Agent s q g is h = points.agent_rises s g h
