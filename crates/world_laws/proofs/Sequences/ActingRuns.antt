-- Who acts, and what its effect leads to: behind it everybody rests as before.
use Rattle.std.proofs.Common.{◌≡◌, ℕ, Bool, true, false, List, [], ◌∷◌, Option, Some, None, refl, sym, ap, subst, ◌∙◌, inl, inr}
use Rattle.std.proofs.lemmas.Bool.{false≢true}
use Rattle.ann_base.specs.declared.identities.RegionNo.{RegionNo}
use Rattle.ann_base.specs.declared.identities.TaskNo.{TaskNo}
use Rattle.trace_text.specs.declared.events.Who.{Who}
use Rattle.trace_text.specs.declared.events.Who.TheVariants as who
use Rattle.profile_image.specs.declared.image.Image.{Image}
use Rattle.profile_machine.specs.declared.world.World.{World}
use Rattle.profile_machine.specs.declared.world.marks.Frame.{Frame}
use Rattle.profile_machine.specs.declared.world.tasks.State.{State}
use Rattle.profile_machine.specs.declared.world.tasks.State.TheVariants.{Made, Blocked}
use Rattle.profile_machine.specs.declared.world.tasks.Waiting.{Waiting}
use Rattle.profile_machine.specs.declared.world.tasks.Waiting.TheVariants as waits_for
use Rattle.profile_machine.specs.Tasks.{task_of, edit_task, with_state, with_frames, is_runnable_state}
use Rattle.profile_machine.specs.Dispatching.{without_kept_level}
use Rattle.profile_machine.specs.Frames.{top_of, pop, onward_of, any_protected}
use Rattle.profile_machine.specs.Serving.{serves_nothing}
use Rattle.profile_machine.specs.WellFormed.{begins_sequence}
use Rattle.machine_laws.proofs.FineMoves.{GoodWorld, Nature, natures, is_abortable}
use Rattle.world_laws.proofs.Sequences.FineMoves.{Fits, FineMoves, Openings, Ending, Departing, Loosens, Nobody, onward_in, is_for_dependents}
use Rattle.world_laws.proofs.Sequences.TaskEdits.{who-self, who-same, onward-nobody}
use Rattle.world_laws.proofs.Sequences.Points.{Point, Marking, Calling, Callings, IsTask, Fine, Stacks, begins, fine-plain, fine-edited}
use Rattle.world_laws.proofs.Sequences.FineSteps.{fine_moves, fine_pushes, fine_opens, fine-stated}
use Rattle.world_laws.proofs.Sequences.Loosened.{fine_loosens}
use Rattle.world_laws.proofs.Sequences.Turned.{fine-turned}
use Rattle.world_laws.proofs.Sequences.Actors.{Rests, nobody_free, nobody_stacks, Rooted, Standing, rooted_stacks, rooted-inside, rooted-unabortable}
use Rattle.world_laws.proofs.Sequences.Actors.{rooted-rest, Apart, acting_points, Acts, ActsPlainly, HasActed, acts_points, plainly_points, Is}
use Rattle.world_laws.proofs.Sequences.Actors.{acts_free, task_stacks, agent-task, fine-wide, acts-over, plainly-over, Any, any_callings}
use Rattle.ann_base.specs.declared.identities.CallNo.{CallNo}
use Rattle.world_tables.specs.Lists.{rest_of}
use Rattle.profile_machine.specs.declared.world.calls.Call.{Call}
use Rattle.profile_machine.specs.Calls.{call_of}
use Rattle.world_laws.proofs.Sequences.OwnCalls.{Knows, knows_callings}

-- ---- what points need

rests-blocked : (name : Who) (waiting : Waiting) (g : Bool) → IsTask name → is_for_dependents waiting ≡ false → Rests name (Blocked waiting) g
rests-blocked (who.Task n) waiting g task apart = λ m. absurd (false≢true (sym apart ∙ m))
rests-blocked who.Agent waiting g task apart = absurd task

acts-blocked : (a : Who) (waiting : Waiting) (g : Bool) → IsTask a → is_for_dependents waiting ≡ false → Acts a (Blocked waiting) g
acts-blocked (who.Task n) waiting g task apart = apart
acts-blocked who.Agent waiting g task apart = absurd task

acts-plainly : (a : Who) (s : State) (g : Bool) → Acts a s g → g ≡ false → ActsPlainly a s g
acts-plainly (who.Task n) s g h e = e
acts-plainly who.Agent s g h e = (h, e)

plainly-waits : (a : Who) (s : State) (g : Bool) (r : RegionNo) → ActsPlainly a s g → Rests a (Blocked (waits_for.Dependents r)) g
plainly-waits (who.Task n) s g r h = λ m. h
plainly-waits who.Agent s g r h = (h.1, refl)

plainly-stays : (a : Who) (s : State) (g : Bool) → ActsPlainly a s g → HasActed a s g
plainly-stays (who.Task n) s g h = inr (λ m. h)
plainly-stays who.Agent s g h = inl (ap is_runnable_state h.0)

pub no-natures : (fs : List Frame) → natures fs ≡ [] → onward_in fs ≡ None
no-natures [] e = refl
no-natures (x ∷ xs) e = cc

last-popped : (n : Nature) (fs : List Frame) → natures fs ≡ n ∷ [] → natures (rest_of fs) ≡ []
last-popped n [] e = cc
last-popped n (x ∷ xs) e = cc

rest-popped : (n : Nature) (ns : List Nature) (fs : List Frame) → natures fs ≡ n ∷ ns → natures (rest_of fs) ≡ ns
rest-popped n ns [] e = cc
rest-popped n ns (x ∷ xs) e = cc

module _ {p : Image} (fits : Fits p) where
  -- where of calls something is known, and where nothing is asked of them
  abbrev pub KnowingWorld : Who → Marking → Calling → GoodWorld
  KnowingWorld a A C = Fine p (Apart a (Acts a)) A C

  abbrev pub ActingWorld : Who → Marking → GoodWorld
  ActingWorld a A = KnowingWorld a A Any

  abbrev pub PlainWorld : Who → Marking → GoodWorld
  PlainWorld a A = Fine p (Apart a (ActsPlainly a)) A Any

  abbrev pub ActedWorld : Who → GoodWorld
  ActedWorld a = Fine p (Apart a (HasActed a)) Standing Any

  pub knowing_moves : (a : Who) (A : Marking) (C : Calling) → Callings C → Stacks A (Is a) → FineMoves p (KnowingWorld a A C) (Is a) IsTask
  knowing_moves a A C callings stacks = fine_moves fits callings (acting_points a (Acts a) (acts_points a)) (acts_free a) stacks

  pub acting_moves : (a : Who) (A : Marking) → Stacks A (Is a) → FineMoves p (ActingWorld a A) (Is a) IsTask
  acting_moves a A stacks = fine_moves fits any_callings (acting_points a (Acts a) (acts_points a)) (acts_free a) stacks

  pub quiet_moves : (a : Who) (A : Marking) (C : Calling) → Callings C → FineMoves p (KnowingWorld a A C) Nobody IsTask
  quiet_moves a A C callings = fine_moves fits callings (acting_points a (Acts a) (acts_points a)) (nobody_free (Apart a (Acts a))) (nobody_stacks A)

  pub plain_moves : (a : Who) (A : Marking) → FineMoves p (PlainWorld a A) Nobody IsTask
  plain_moves a A = fine_moves fits any_callings (acting_points a (ActsPlainly a) (plainly_points a)) (nobody_free (Apart a (ActsPlainly a))) (nobody_stacks A)

  acting-blocked : (a : Who) (A : Marking) (C : Calling) (name : Who) (waiting : Waiting) (w : World) → KnowingWorld a A C w → IsTask name
      → is_for_dependents waiting ≡ false → KnowingWorld a A C (edit_task name (with_state (Blocked waiting)) w)
  acting-blocked a A C name waiting w g task apart =
      fine-stated name (Blocked waiting) w (λ e. cc)
      (λ h. (
        (λ other. rests-blocked name waiting (begins p w name) task apart),
        (λ same. acts-blocked a waiting (begins p w name) (subst IsTask (sym (who-same a name same)) task) apart),
      )) g

  plain-blocked : (A : Marking) (name : Who) (waiting : Waiting) (w : World) → PlainWorld who.Agent A w → IsTask name → is_for_dependents waiting ≡ false
      → PlainWorld who.Agent A (edit_task name (with_state (Blocked waiting)) w)
  plain-blocked A name waiting w g task apart =
      fine-stated name (Blocked waiting) w (λ e. cc)
      (λ h. ((λ other. rests-blocked name waiting (begins p w name) task apart), (λ same. absurd (subst IsTask (sym (who-same who.Agent name same)) task)))) g

  -- ---- a task acts

  task_is : (n : TaskNo) (name : Who) → name ≡ who.Task n → IsTask name
  task_is n name is = subst IsTask (sym is) tt

  pub task_openings : (n : TaskNo) (A : Marking) (C : Calling) → Callings C → Openings p (KnowingWorld (who.Task n) A C) (Is (who.Task n)) IsTask
  task_openings n A C callings = record {
    pushes =
        λ name f w g may region release abortable. fine_pushes fits callings (acting_points (who.Task n) (Acts (who.Task n)) (acts_points (who.Task n)))
        (acts_free (who.Task n)) (task_stacks A n) name f w g may release abortable;
    opens_scope =
        λ name scope b purpose w g may. fine_opens fits callings (acting_points (who.Task n) (Acts (who.Task n)) (acts_points (who.Task n)))
        (acts_free (who.Task n)) (task_stacks A n) name scope b purpose w g may;
    outside = λ name w g may is. task_is n name may;
    within_part = λ name f w g may top is. task_is n name may;
    blocks = λ name waiting w g task apart. acting-blocked (who.Task n) A C name waiting w g task apart;
  }

  -- ---- the agent acts

  agent-outside : (C : Calling) (name : Who) (w : World) → KnowingWorld who.Agent Rooted C w → name ≡ who.Agent → any_protected (task_of w name).frames ≡ false
      → IsTask name
  agent-outside C name w g is free = absurd (rooted-inside w.agent.frames g.marks (subst (λ n. any_protected (task_of w n).frames ≡ false) is free))

  agent-within : (C : Calling) (name : Who) (f : Frame) (w : World) → KnowingWorld who.Agent Rooted C w → name ≡ who.Agent → top_of w name ≡ Some f
      → is_abortable f.mark ≡ true → IsTask name
  agent-within C name f w g is top abortable =
      absurd (false≢true (sym (rooted-unabortable w.agent.frames f (subst (λ n. top_of w n ≡ Some f) is top) g.marks) ∙ abortable))

  pub agent_openings : (C : Calling) → Callings C → Openings p (KnowingWorld who.Agent Rooted C) (Is who.Agent) IsTask
  agent_openings C callings = record {
    pushes =
        λ name f w g may region release abortable. fine_pushes fits callings (acting_points who.Agent (Acts who.Agent) (acts_points who.Agent))
        (acts_free who.Agent) (rooted_stacks (Is who.Agent)) name f w g may release abortable;
    opens_scope =
        λ name scope b purpose w g may. fine_opens fits callings (acting_points who.Agent (Acts who.Agent) (acts_points who.Agent)) (acts_free who.Agent)
        (rooted_stacks (Is who.Agent)) name scope b purpose w g may;
    outside = λ name w g may is. agent-outside C name w g may is;
    within_part = λ name f w g may top is. agent-within C name f w g may top is;
    blocks = λ name waiting w g task apart. acting-blocked who.Agent Rooted C name waiting w g task apart;
  }

  pub plain_openings : (A : Marking) → Openings p (PlainWorld who.Agent A) Nobody IsTask
  plain_openings A = record {
    pushes = λ name f w g may region release abortable. absurd may;
    opens_scope = λ name scope b purpose w g may. absurd may;
    outside = λ name w g may is. absurd may;
    within_part = λ name f w g may top is. absurd may;
    blocks = λ name waiting w g task apart. plain-blocked A name waiting w g task apart;
  }

  -- ---- it leaves a kept scope

  pub plain-begins : (a : Who) (A : Marking) (w : World) → ActingWorld a A w → begins_sequence p (onward_of w a) ≡ false → PlainWorld a A w
  plain-begins a A w g plain = record {
    agent = g.agent;
    apart = g.apart;
    below = g.below;
    units = g.units;
    calls = g.calls;
    marks = g.marks;
    points = λ b. let h = g.points b in (
      (λ apart. h.0 apart),
      (λ same. acts-plainly a (task_of w b).state (begins p w b) (h.1 same) (subst (λ n. begins p w n ≡ false) (who-same a b same) plain)),
    );
  }

  -- who has acted has another state, and the others rest
  pub plain-turned : (a : Who) (A : Marking) → ((ns : List Nature) → A ns → Standing ns) → (s : State) (w : World) → (s ≡ Made → ⊥)
      → ((t : State) (g : Bool) → ActsPlainly a t g → Rests a s g) → PlainWorld a A w → ActedWorld a (edit_task a (with_state s) w)
  plain-turned a A wide s w begun turns g =
      fine-turned a (with_state s) w (λ n cs k. tt) (λ t. refl) (λ t fit e. absurd (begun e)) (λ is m. wide (natures w.agent.frames) m)
      (λ apart m. wide (natures w.agent.frames) m)
      (λ h. ((λ apart. absurd (false≢true (sym apart ∙ who-self a))), (λ same. inr (turns (task_of w a).state (begins p w a) (h.1 same)))))
      (λ is h. (h.0, (λ same. plainly-stays a (task_of w a).state (begins p w a) (h.1 same))))
      (λ b t k apart h. (h.0, (λ same. absurd (false≢true (sym apart ∙ same))))) g

  pub acted-kept_level : (a name : Who) (w : World) → ActedWorld a w → ActedWorld a (edit_task name without_kept_level w)
  acted-kept_level a name w g = fine-edited name without_kept_level w (λ t. refl) (λ t fit. fit) (λ is m. m) (λ h. h) g

  pub departing : (a : Who) (A : Marking) → ((ns : List Nature) → A ns → Standing ns) → Departing p IsTask a (ActingWorld a A) (ActedWorld a)
  departing a A wide = record {
    T = PlainWorld a A;
    tight = plain_moves a A;
    tight_loose =
        fine_loosens fits any_callings (Apart a (ActsPlainly a)) Nobody (acting_points a (ActsPlainly a) (plainly_points a))
        (nobody_free (Apart a (ActsPlainly a))) (nobody_stacks A);
    begins = λ w g plain. plain-begins a A w g plain;
    waits = λ r w g. plain-turned a A wide (Blocked (waits_for.Dependents r)) w (λ e. cc) (λ t k h. plainly-waits a t k r h) g;
    rests = λ w g. plainly-over wide a w g;
    over_kept = λ w g. acted-kept_level a a w g;
    over = λ w g. acts-over wide a w g;
  }

  -- ---- it ends a protected action

  pub still : (ns : List Nature) → Standing ns → Standing ns
  still ns h = h

  unfoldable pub acting_loose : (a : Who) (A : Marking) → Stacks A (Is a) → Loosens p (ActingWorld a A) (Is a) IsTask
  acting_loose a A stacks = fine_loosens fits any_callings (Apart a (Acts a)) (Is a) (acting_points a (Acts a) (acts_points a)) (acts_free a) stacks

  pub quiet_loose : (a : Who) (A : Marking) (C : Calling) → Callings C → Loosens p (KnowingWorld a A C) Nobody IsTask
  quiet_loose a A C callings =
      fine_loosens fits callings (Apart a (Acts a)) Nobody (acting_points a (Acts a) (acts_points a)) (nobody_free (Apart a (Acts a))) (nobody_stacks A)

  pub task-popped : (n : TaskNo) (C : Calling) (w : World) → KnowingWorld (who.Task n) Standing C w → KnowingWorld (who.Task n) Standing C (pop (who.Task n) w)
  task-popped n C w g =
      fine-edited (who.Task n) (λ t. with_frames (rest_of t.frames) t) w (λ t. refl) (λ t fit. fit) (λ is m. agent-task n is)
      (λ h. ((λ apart. absurd (false≢true (sym apart ∙ who-self (who.Task n)))), (λ same. h.1 same))) g

  pub task-sleeps : (n : TaskNo) (C : Calling) (w : World) → KnowingWorld (who.Task n) Standing C w
      → ActedWorld (who.Task n) (edit_task who.Agent (with_state (Blocked waits_for.Release)) w)
  task-sleeps n C w g =
      acts-over still (who.Task n) (edit_task who.Agent (with_state (Blocked waits_for.Release)) w)
      (fine-stated who.Agent (Blocked waits_for.Release) w (λ e. cc) (λ h. ((λ apart. ((h.0 refl).0, refl)), (λ same. absurd (false≢true same)))) g)

  -- who made the call that the action ends is known
  pub caller-known : (own_call : Option CallNo) (name : Who) (c : CallNo) (w : World) (d : Call) → own_call ≡ Some c → Knows own_call name w.drawn.calls w.calls
      → call_of w c ≡ Some d → who.Task d.caller ≡ name
  caller-known None name c w d is h found = absurd (let never : None ≡ Some c = is in cc)
  caller-known (Some k) name c w d is h found = let same : k ≡ c = cc in h.1 d (subst (λ n. call_of w n ≡ Some d) (sym same) found)

  unfoldable pub task_ending : (n : TaskNo) (release : Option ℕ) (own_call : Option CallNo) → Ending p IsTask (who.Task n) release own_call
  task_ending n release own_call =
      let C = Knows own_call (who.Task n) in
      let k = knows_callings own_call (who.Task n) in
      record {
        S = KnowingWorld (who.Task n) Standing (Knows own_call (who.Task n));
        E = KnowingWorld (who.Task n) Standing (Knows own_call (who.Task n));
        G = ActingWorld (who.Task n) Standing;
        Y = ActedWorld (who.Task n);
        MayE = Is (who.Task n);
        MayG = Is (who.Task n);
        serving = quiet_moves (who.Task n) Standing C k;
        serving_loose = quiet_loose (who.Task n) Standing C k;
        ended = knowing_moves (who.Task n) Standing C k (task_stacks Standing n);
        ended_openings = task_openings n Standing C k;
        opened = acting_moves (who.Task n) Standing (task_stacks Standing n);
        opened_loose = acting_loose (who.Task n) Standing (task_stacks Standing n);
        opens =
            λ scope b purpose w g. (task_openings n Standing Any any_callings).opens_scope (who.Task n) scope b purpose w
            (fine-wide still (λ m cs h. tt) (Apart (who.Task n) (Acts (who.Task n))) (Apart (who.Task n) (Acts (who.Task n))) w (λ a s b h. h) g) refl;
        pops = λ w g. task-popped n C w g;
        may = λ is. refl;
        knows = λ none c is w g d found. caller-known own_call (who.Task n) c w d is g.calls found;
        served_over = λ w g. acts-over still (who.Task n) w g;
        opened_over = λ w g. acts-over still (who.Task n) w g;
        ended_over = λ w g. acts-over still (who.Task n) w g;
        serves = λ w g. fine-plain w (serves_nothing w) refl refl refl refl refl g;
        sleeps = λ j w is g. task-sleeps n C w g;
        over_kept_level = λ w g. acted-kept_level (who.Task n) who.Agent w g;
      }

  -- of the agent: its last mark, and any other

  pub same_action : (P : Point) (A B : Marking) (C : Calling) → ((ns : List Nature) → A ns → B ns) → (w : World) → Fine p P A C w → Fine p P B Any w
  same_action P A B C wide w g = fine-wide wide (λ m cs h. tt) P P w (λ b s k h. h) g

  abbrev pub JustSo : List Nature → Marking
  JustSo ms ns = ns ≡ ms

  pub last-popped_agent : (n : Nature) (w : World) → ActingWorld who.Agent (JustSo (n ∷ [])) w → PlainWorld who.Agent (JustSo []) (pop who.Agent w)
  last-popped_agent n w g =
      let empty = last-popped n w.agent.frames g.marks in
      fine-turned who.Agent (λ t. with_frames (rest_of t.frames) t) w (λ m cs h. tt) (λ t. refl) (λ t fit. fit) (λ is m. empty)
      (λ apart m. absurd (false≢true (sym apart)))
      (λ h. ((λ apart. absurd (false≢true (sym apart))), (λ same. (h.1 same, ap (begins_sequence p) (no-natures (rest_of w.agent.frames) empty)))))
      (λ is h. (h.0, (λ same. (h.1 same, ap (begins_sequence p) (onward-nobody w who.Agent is)))))
      (λ b t k apart h. (h.0, (λ same. absurd (false≢true (sym apart ∙ same))))) g

  unfoldable pub last_ending : (n : Nature) (r : ℕ) (own_call : Option CallNo) → Rooted (n ∷ []) → Ending p IsTask who.Agent (Some r) own_call
  last_ending n r own_call root = record {
    S = ActingWorld who.Agent (JustSo (n ∷ []));
    E = PlainWorld who.Agent (JustSo []);
    G = ActingWorld who.Agent Rooted;
    Y = ActedWorld who.Agent;
    MayE = Nobody;
    MayG = Is who.Agent;
    serving = quiet_moves who.Agent (JustSo (n ∷ [])) Any any_callings;
    serving_loose = quiet_loose who.Agent (JustSo (n ∷ [])) Any any_callings;
    ended = plain_moves who.Agent (JustSo []);
    ended_openings = plain_openings (JustSo []);
    opened = acting_moves who.Agent Rooted (rooted_stacks (Is who.Agent));
    opened_loose = acting_loose who.Agent Rooted (rooted_stacks (Is who.Agent));
    opens =
        λ scope b purpose w g. (agent_openings Any any_callings).opens_scope who.Agent scope b purpose w
        (same_action (Apart who.Agent (Acts who.Agent)) (JustSo (n ∷ [])) Rooted Any (λ ns is. subst Rooted (sym is) root) w g) refl;
    pops = λ w g. last-popped_agent n w g;
    may = λ is. absurd (let never : Some r ≡ None = is in cc);
    knows = λ none c is w g d found. absurd (let never : Some r ≡ None = none in cc);
    served_over = λ w g. acts-over (λ ns is. inr (subst Rooted (sym is) root)) who.Agent w g;
    opened_over = λ w g. acts-over (λ ns h. inr h) who.Agent w g;
    ended_over = λ w g. plainly-over (λ ns is. inl is) who.Agent w g;
    serves = λ w g. fine-plain w (serves_nothing w) refl refl refl refl refl g;
    sleeps = λ k w is g. plain-turned who.Agent (JustSo []) (λ ns e. inl e) (Blocked waits_for.Release) w (λ e. cc) (λ t b h. (h.1, refl)) g;
    over_kept_level = λ w g. acted-kept_level who.Agent who.Agent w g;
  }

  pub inner-popped_agent : (n : Nature) (ns : List Nature) (C : Calling) → Rooted ns → (w : World) → KnowingWorld who.Agent (JustSo (n ∷ ns)) C w
      → KnowingWorld who.Agent Rooted C (pop who.Agent w)
  inner-popped_agent n ns C root w g =
      let rest = subst Rooted (sym (rest-popped n ns w.agent.frames g.marks)) root in
      fine-turned who.Agent (λ t. with_frames (rest_of t.frames) t) w (λ m cs h. h) (λ t. refl) (λ t fit. fit) (λ is m. rest)
      (λ apart m. absurd (false≢true (sym apart)))
      (λ h. ((λ apart. absurd (false≢true (sym apart))), (λ same. h.1 same)))
      (λ is h. h)
      (λ b t k apart h. h) g

  unfoldable pub inner_ending : (n : Nature) (ns : List Nature) (own_call : Option CallNo) → n.release ≡ None → Rooted (n ∷ ns)
      → Ending p IsTask who.Agent None own_call
  inner_ending n ns own_call none root = record {
    S = KnowingWorld who.Agent (JustSo (n ∷ ns)) (Knows own_call who.Agent);
    E = KnowingWorld who.Agent Rooted (Knows own_call who.Agent);
    G = ActingWorld who.Agent Rooted;
    Y = ActedWorld who.Agent;
    MayE = Is who.Agent;
    MayG = Is who.Agent;
    serving = quiet_moves who.Agent (JustSo (n ∷ ns)) (Knows own_call who.Agent) (knows_callings own_call who.Agent);
    serving_loose = quiet_loose who.Agent (JustSo (n ∷ ns)) (Knows own_call who.Agent) (knows_callings own_call who.Agent);
    ended = knowing_moves who.Agent Rooted (Knows own_call who.Agent) (knows_callings own_call who.Agent) (rooted_stacks (Is who.Agent));
    ended_openings = agent_openings (Knows own_call who.Agent) (knows_callings own_call who.Agent);
    opened = acting_moves who.Agent Rooted (rooted_stacks (Is who.Agent));
    opened_loose = acting_loose who.Agent Rooted (rooted_stacks (Is who.Agent));
    opens =
        λ scope b purpose w g. (agent_openings Any any_callings).opens_scope who.Agent scope b purpose w
        (same_action (Apart who.Agent (Acts who.Agent)) (JustSo (n ∷ ns)) Rooted (Knows own_call who.Agent) (λ ms is. subst Rooted (sym is) root) w g) refl;
    pops = λ w g. inner-popped_agent n ns (Knows own_call who.Agent) (rooted-rest n ns none root) w g;
    may = λ is. refl;
    knows = λ gone c is w g d found. caller-known own_call who.Agent c w d is g.calls found;
    served_over = λ w g. acts-over (λ ms is. inr (subst Rooted (sym is) root)) who.Agent w g;
    opened_over = λ w g. acts-over (λ ms h. inr h) who.Agent w g;
    ended_over = λ w g. acts-over (λ ms h. inr h) who.Agent w g;
    serves = λ w g. fine-plain w (serves_nothing w) refl refl refl refl refl g;
    sleeps = λ k w is g. absurd (let never : None ≡ Some k = is in cc);
    over_kept_level = λ w g. acted-kept_level who.Agent who.Agent w g;
  }
