-- What a task does spares the agent: it leaves the agent's marks and the release that it serves alone, and does not take it out
-- of the ready queues; where it releases a handler it may wake it.
use Rattle.std.proofs.Common.{◌≡◌, ℕ, suc, ◌≤◌, Bool, true, false, not, ◌||◌, List, [], ◌∷◌, ◌++◌}
use Rattle.std.proofs.Common.{Option, Some, None, is_some, refl, sym, ap, subst, ◌∙◌, arith}
use Rattle.std.proofs.lemmas.Bool.{false≢true, or_from}
use Rattle.ann_base.specs.declared.identities.ObjectNo.{ObjectNo}
use Rattle.ann_base.specs.declared.identities.RegionNo.{RegionNo}
use Rattle.trace_text.specs.declared.events.Event.{Event}
use Rattle.trace_text.specs.declared.events.Mode.{Mode}
use Rattle.trace_text.specs.declared.events.Who.{Who}
use Rattle.trace_text.specs.declared.events.Who.TheVariants as who
use Rattle.profile_image.specs.declared.image.Image.{Image}
use Rattle.profile_image.specs.declared.numbers.StatementNo.{StatementNo}
use Rattle.profile_machine.specs.declared.world.World.{World}
use Rattle.profile_machine.specs.declared.world.marks.Frame.{Frame}
use Rattle.profile_machine.specs.declared.world.marks.Purpose.{Purpose}
use Rattle.profile_machine.specs.declared.world.scopes.Beginning.{Beginning}
use Rattle.profile_image.specs.declared.numbers.ScopeNo.{ScopeNo}
use Rattle.profile_machine.specs.declared.world.tasks.Task.{Task}
use Rattle.profile_machine.specs.declared.world.tasks.State.{State}
use Rattle.profile_machine.specs.declared.world.tasks.State.TheVariants.{Made, Runnable, Blocked}
use Rattle.profile_machine.specs.declared.world.tasks.Waiting.TheVariants as waits_for
use Rattle.profile_machine.specs.declared.world.lines.Line.{Line}
use Rattle.profile_machine.specs.declared.world.lines.Line.TheVariants as said
use Rattle.profile_machine.specs.declared.world.lines.Said.{Said}
use Rattle.trace_text.specs.declared.events.QueueEnd.{QueueEnd}
use Rattle.profile_machine.specs.declared.world.lines.Part.{Part}
use Rattle.profile_machine.specs.declared.world.tasks.Waiting.{Waiting}
use Rattle.profile_machine.specs.Dispatching.{word_of}
use Rattle.profile_machine.specs.Protected.{open_action}
use Rattle.ann_base.specs.Lists.{is_empty}
use Rattle.world_tables.specs.Lists.{rest_of}
use Rattle.profile_image.specs.Program.{scope_of}
use Rattle.profile_machine.specs.Tasks.{task_at, edit_task_found, edit_task, with_state, with_frames}
use Rattle.profile_machine.specs.Tasks.{is_runnable, is_runnable_state, waiting_in, waiting_of, is_who}
use Rattle.profile_machine.specs.Frames.{edit_first, edit_top, goes_on, push, pop, new_frame}
use Rattle.profile_machine.specs.Scopes.{begin_scope, draw_region, region_of_next, open_scope, next_id, new_scope_mark}
use Rattle.profile_machine.specs.Masters.{waits_for_activation, forget_task}
use Rattle.profile_machine.specs.Controlled.{top_region}
use Rattle.profile_machine.specs.Tasking.{add_task}
use Rattle.profile_machine.specs.Serving.{close_action}
use Rattle.machine_laws.proofs.Moves.{Puts, own}
use Rattle.machine_laws.proofs.FineMoves.{FineMoves, Openings, Exits, AnyRegion, nature, natures, is_apart, AreQuiet, ready_line, edit_task-drawn}
use Rattle.machine_laws.proofs.FinestMoves.{FinestMoves, SettingMoves, setting_moves, MarkOpenings, OwnRegions}
use Rattle.machine_laws.proofs.FinestMoves.{ActionEnds, Anyhow, finest, mark_openings, own_regions, action_ends}
use Rattle.line_laws.proofs.Handlers.AgentLines.{placed_behind, placed_behind-append, calls_agent, blocks_agent}
use Rattle.line_laws.proofs.Handlers.AgentLines.{are_calls, are_calls-append, NoneBlocks, NoneBlocks-append, lines-call}
use Rattle.line_laws.proofs.Handlers.AgentWorlds.{IsTask, Colour, RegionFree, MarksFree, TaskFree, TasksFree, MarksOwned, Attends, Apart, TasksFree-later}
use Rattle.line_laws.proofs.Handlers.AgentWorlds.{next-free, set-free, found-free, filter-free, append-free, listed-free, top_region-free}

-- no release ends
abbrev pub NoRelease : Who → Option ℕ → Type 0
NoRelease name n = n ≡ None

some-agent : (a t : Task) → Some a ≡ Some t → a ≡ t
some-agent a t e = cc

abbrev pub agent_runs : World → Bool
agent_runs w = is_runnable w.agent

-- the agent is ready where there is a release for it
abbrev pub Attends_all : World → Type 0
Attends_all w = agent_runs w ≡ (is_some w.serving || not (is_empty w.releases))

pub record Spared (colour : Colour) (wakes : Bool) (before : World) (lines : List Said) (after : World) : Type 0 where
  pub apart : Apart colour after
  pub marks_same : natures after.agent.frames ≡ natures before.agent.frames
  pub serving_same : after.serving ≡ before.serving
  pub calm : NoneBlocks lines
  pub called : agent_runs after ≡ (agent_runs before || are_calls lines)
  pub attends : Attends_all before → Attends_all after
  pub quiet : wakes ≡ false → are_calls lines ≡ false

pub record SparedMove (colour : Colour) (before : World) (lines : List Event) (after : World) : Type 0 where
  pub apart : Apart colour after
  pub marks_same : natures after.agent.frames ≡ natures before.agent.frames
  pub serving_same : after.serving ≡ before.serving
  pub placed : placed_behind (agent_runs before) lines ≡ agent_runs after
  pub attends : Attends_all before → Attends_all after

or_false : (b : Bool) → b ≡ (b || false)
or_false true = refl
or_false false = refl

pub or-assoc : (a b c : Bool) → ((a || b) || c) ≡ (a || (b || c))
or-assoc true b c = refl
or-assoc false b c = refl

quiet-blocks : (x : Line) → is_apart x ≡ false → blocks_agent x ≡ false
quiet-blocks (said.Block name why) e = cc
quiet-blocks _ e = refl

quiet-calls : (x : Line) → is_apart x ≡ false → calls_agent x ≡ false
quiet-calls (said.Ready name level end deadline) e = cc
quiet-calls _ e = refl

quiet-none : (xs : List Said) → AreQuiet xs → NoneBlocks xs
quiet-none [] a = tt
quiet-none (x ∷ xs) a = (quiet-blocks x.line a.0, quiet-none xs a.1)

-- an action that begins and ends at once
pub visit-calm : (name : Who) (o : ObjectNo) (mode : Mode) (xs : List Said) → AreQuiet xs
    → NoneBlocks (own (said.Enter name o mode) ∷ xs ++ own (said.Exit name o) ∷ [])
visit-calm name o mode xs quiet = (refl, NoneBlocks-append xs (own (said.Exit name o) ∷ []) (quiet-none xs quiet) (refl, tt))

quiet-uncalled : (xs : List Said) → AreQuiet xs → are_calls xs ≡ false
quiet-uncalled [] a = refl
quiet-uncalled (x ∷ xs) a = or_from (calls_agent x.line) (are_calls xs) (quiet-calls x.line a.0) (quiet-uncalled xs a.1)

attends-activation : (state : State) → Attends state → waits_for_activation (waiting_in state) ≡ true → ⊥
attends-activation Runnable a e = false≢true e
attends-activation (Blocked waits_for.Release) a e = false≢true e
attends-activation (Blocked waits_for.Activation) a e = a
attends-activation (Blocked waits_for.Moment) a e = a
attends-activation (Blocked (waits_for.Call c)) a e = a
attends-activation (Blocked (waits_for.EndOfCall c)) a e = a
attends-activation (Blocked (waits_for.Accept s)) a e = a
attends-activation (Blocked (waits_for.Select accepts delay terminate)) a e = a
attends-activation (Blocked (waits_for.Dependents r)) a e = a
attends-activation Made a e = a

module _ (colour : Colour) (wakes : Bool) where
  abbrev R : World → List Said → World → Type 0
  R = Spared colour wakes

  abbrev Q : World → List Event → World → Type 0
  Q = SparedMove colour

  abbrev G : World → Type 0
  G = Apart colour

  -- a change of neither tasks nor the agent
  still : (w v : World) → G w → v.tasks ≡ w.tasks → v.agent ≡ w.agent → v.drawn.regions ≡ w.drawn.regions → v.serving ≡ w.serving → v.releases ≡ w.releases
      → R w [] v
  still w v good tasks agent regions serving releases = record {
    apart = record {
      tasks = subst (λ ts. TasksFree colour v.drawn.regions ts) (sym tasks) (subst (λ n. TasksFree colour n w.tasks) (sym regions) good.tasks);
      marks = subst (λ (a : Task). MarksOwned colour (natures a.frames)) (sym agent) good.marks;
      attends = subst (λ (a : Task). Attends a.state) (sym agent) good.attends;
      drawn = λ k e. subst (λ n. k ≤ n) (sym regions) (good.drawn k e);
      none = good.none;
    };
    marks_same = ap (λ (a : Task). natures a.frames) agent;
    serving_same = serving;
    calm = tt;
    called = ap is_runnable agent ∙ or_false (agent_runs w);
    attends =
        λ h.
        ap is_runnable agent ∙ h ∙ sym (ap (λ s. is_some s || not (is_empty v.releases)) serving ∙ ap (λ rs. is_some w.serving || not (is_empty rs)) releases);
    quiet = λ e. refl;
  }

  -- an edit of somebody: of a task, what keeps it free; of the agent, what keeps marks and state
  edited-found : (name : Who) (f : Task → Task) (w : World) (found : Option Task) → G w → task_at w name ≡ found
      → ((t : Task) → IsTask name → TaskFree colour w.drawn.regions t → TaskFree colour w.drawn.regions (f t))
      → (name ≡ who.Agent → (natures (f w.agent).frames ≡ natures w.agent.frames) × ((f w.agent).state ≡ w.agent.state))
      → R w [] (edit_task_found name f w found)
  edited-found name f w None good is free same = still w w good refl refl refl refl refl
  edited-found (who.Task n) f w (Some t) good is free same = record {
    apart = record {
      tasks =
          set-free colour w.drawn.regions (is_who (who.Task n)) (f t) w.tasks
          (free t tt (found-free colour w.drawn.regions (is_who (who.Task n)) w.tasks t good.tasks is)) good.tasks;
      marks = good.marks;
      attends = good.attends;
      drawn = good.drawn;
      none = good.none;
    };
    marks_same = refl;
    serving_same = refl;
    calm = tt;
    called = or_false (agent_runs w);
    attends = λ h. h;
    quiet = λ e. refl;
  }
  edited-found who.Agent f w (Some t) good is free same =
      let its : w.agent ≡ t = some-agent w.agent t is in
      let s = same refl in
      subst (λ (u : Task). R w [] (record w { agent = f u })) its (record {
        apart = record {
          tasks = good.tasks;
          marks = subst (MarksOwned colour) (sym s.0) good.marks;
          attends = subst Attends (sym s.1) good.attends;
          drawn = good.drawn;
          none = good.none;
        };
        marks_same = s.0;
        serving_same = refl;
        calm = tt;
        called = ap is_runnable_state s.1 ∙ or_false (agent_runs w);
        attends = λ h. ap is_runnable_state s.1 ∙ h;
        quiet = λ e. refl;
      })

  edited : (name : Who) (f : Task → Task) (w : World) → G w
      → ((t : Task) → IsTask name → TaskFree colour w.drawn.regions t → TaskFree colour w.drawn.regions (f t))
      → (name ≡ who.Agent → (natures (f w.agent).frames ≡ natures w.agent.frames) × ((f w.agent).state ≡ w.agent.state)) → R w [] (edit_task name f w)
  edited name f w good free same = edited-found name f w (task_at w name) good refl free same

  no_agent : (name : Who) → IsTask name → name ≡ who.Agent → ⊥
  no_agent (who.Task n) is e = cc
  no_agent who.Agent is e = is

  -- an edit of a task
  task_edited : (name : Who) (f : Task → Task) (w : World) → G w → IsTask name
      → ((t : Task) → TaskFree colour w.drawn.regions t → TaskFree colour w.drawn.regions (f t)) → R w [] (edit_task name f w)
  task_edited name f w good is free = edited name f w good (λ t k. free t) (λ e. absurd (no_agent name is e))

  then : (a b c : World) {xs ys : List Said} → R a xs b → R b ys c → R a (xs ++ ys) c
  then a b c {xs} {ys} h k = record {
    apart = k.apart;
    marks_same = k.marks_same ∙ h.marks_same;
    serving_same = k.serving_same ∙ h.serving_same;
    calm = NoneBlocks-append xs ys h.calm k.calm;
    called =
        k.called ∙ ap (λ q. q || are_calls ys) h.called ∙ or-assoc (agent_runs a) (are_calls xs) (are_calls ys)
        ∙ ap (λ q. agent_runs a || q) (sym (are_calls-append xs ys));
    attends = λ e. k.attends (h.attends e);
    quiet = λ e. are_calls-append xs ys ∙ or_from (are_calls xs) (are_calls ys) (h.quiet e) (k.quiet e);
  }

  -- a line that places nobody
  said_quiet : (x : Said) (w : World) → G w → is_apart x.line ≡ false → R w (x ∷ []) w
  said_quiet x w good apart = record {
    apart = good;
    marks_same = refl;
    serving_same = refl;
    calm = (quiet-blocks x.line apart, tt);
    called = or_false (agent_runs w) ∙ ap (λ q. agent_runs w || q) (sym (or_from (calls_agent x.line) false (quiet-calls x.line apart) refl));
    attends = λ h. h;
    quiet = λ e. or_from (calls_agent x.line) false (quiet-calls x.line apart) refl;
  }

  -- a mark of a task is opened, and ends
  pushed : (name : Who) (f : Frame) (w : World) → G w → IsTask name → (nature f.mark).release ≡ None → RegionFree colour w.drawn.regions (nature f.mark).region
      → R w [] (push name f w)
  pushed name f w good is release region =
      task_edited name (λ t. with_frames (f ∷ t.frames) t) w good is (λ t h. record { named = h.named; marks = (release, region, h.marks); master = h.master })

  no_region : (drawn : ℕ) (r : Option RegionNo) → r ≡ None → RegionFree colour drawn r
  no_region drawn r e = subst (RegionFree colour drawn) (sym e) tt

  first-marks : (drawn : ℕ) (fs : List Frame) → MarksFree colour drawn (natures fs) → MarksFree colour drawn (natures (rest_of fs))
  first-marks drawn [] h = tt
  first-marks drawn (f ∷ fs) h = h.2

  popped : (name : Who) (w : World) → G w → IsTask name → R w [] (pop name w)
  popped name w good is =
      task_edited name (λ t. with_frames (rest_of t.frames) t) w good is
      (λ t h. record { named = h.named; marks = first-marks w.drawn.regions t.frames h.marks; master = h.master })

  frames_edited : (name : Who) (f : List Frame → List Frame) (w : World) → G w → ((fs : List Frame) → natures (f fs) ≡ natures fs)
      → R w [] (edit_task name (λ t. with_frames (f t.frames) t) w)
  frames_edited name f w good same =
      edited name (λ t. with_frames (f t.frames) t) w good
      (λ t is h. record { named = h.named; marks = subst (MarksFree colour w.drawn.regions) (sym (same t.frames)) h.marks; master = h.master })
      (λ e. (same w.agent.frames, refl))

  first-same : (onward : Option StatementNo) (fs : List Frame) → natures (edit_first (goes_on onward) fs) ≡ natures fs
  first-same onward [] = refl
  first-same onward (f ∷ fs) = refl

  gone_on : (name : Who) (onward : Option StatementNo) (w : World) → G w → R w [] (edit_top name (goes_on onward) w)
  gone_on name onward w good = frames_edited name (edit_first (goes_on onward)) w good (first-same onward)

  -- a scope is opened, and draws its region where it is kept
  region-drawn : (kept : Bool) (w v : World) → G w → v.tasks ≡ w.tasks → v.agent ≡ w.agent → v.drawn.regions ≡ w.drawn.regions → v.serving ≡ w.serving
      → v.releases ≡ w.releases → R w [] (draw_region kept v)
  region-drawn false w v good tasks agent regions serving releases = still w v good tasks agent regions serving releases
  region-drawn true w v good tasks agent regions serving releases =
      let later : w.drawn.regions ≤ suc v.drawn.regions = subst (λ n. w.drawn.regions ≤ suc n) (sym regions) (omega arith) in
      record {
        apart = record {
          tasks =
              subst (λ ts. TasksFree colour (suc v.drawn.regions) ts) (sym tasks)
              (TasksFree-later colour w.drawn.regions (suc v.drawn.regions) w.tasks later good.tasks);
          marks = subst (λ (a : Task). MarksOwned colour (natures a.frames)) (sym agent) good.marks;
          attends = subst (λ (a : Task). Attends a.state) (sym agent) good.attends;
          drawn = λ k e. let within : k ≤ w.drawn.regions = good.drawn k e in omega (arith, within, later);
          none = good.none;
        };
        marks_same = ap (λ (a : Task). natures a.frames) agent;
        serving_same = serving;
        calm = tt;
        called = ap is_runnable agent ∙ or_false (agent_runs w);
        attends =
            λ h. ap is_runnable agent ∙ h
            ∙ sym (ap (λ s. is_some s || not (is_empty v.releases)) serving ∙ ap (λ rs. is_some w.serving || not (is_empty rs)) releases);
        quiet = λ e. refl;
      }

  next-region : (kept : Bool) (w : World) → G w → (regions : ℕ) → regions ≡ w.drawn.regions
      → RegionFree colour (draw_region kept w).drawn.regions (region_of_next kept w)
  next-region false w good n e = tt
  next-region true w good n e = (next-free colour w.drawn.regions good.drawn, omega arith)

  scope_opened : (p : Image) (name : Who) (scope : ScopeNo) (b : Beginning) (purpose : Purpose) (w : World) → G w → IsTask name
      → R w [] (open_scope p name scope b purpose w)
  scope_opened p name scope b purpose w good is =
      let kept = (scope_of p scope).kept in
      let begun = begin_scope p name scope b w in
      let drawn = draw_region kept begun in
      let f = new_frame (new_scope_mark (next_id w) (region_of_next kept w) purpose) (scope_of p scope).first in
      let first = region-drawn kept w begun good refl refl refl refl refl in
      then w drawn (push name f drawn) first
      (pushed name f drawn first.apart is refl (next-region kept begun (still w begun good refl refl refl refl refl).apart w.drawn.regions refl))

  -- a line that places nobody stands beside a change
  with_line : (x : Said) (w v : World) → blocks_agent x.line ≡ false → calls_agent x.line ≡ false → R w [] v → R w (x ∷ []) v
  with_line x w v blocks calls h = record {
    apart = h.apart;
    marks_same = h.marks_same;
    serving_same = h.serving_same;
    calm = (blocks, tt);
    called = h.called ∙ ap (λ q. agent_runs w || q) (sym (or_from (calls_agent x.line) false (calls) refl));
    attends = h.attends;
    quiet = λ e. or_from (calls_agent x.line) false (calls) refl;
  }

  visited : (name : Who) (o : ObjectNo) (mode : Mode) (xs : List Said) (w v : World) → AreQuiet xs → R w [] v
      → R w (own (said.Enter name o mode) ∷ xs ++ own (said.Exit name o) ∷ []) v
  visited name o mode xs w v quiet h =
      let none : are_calls (xs ++ own (said.Exit name o) ∷ []) ≡ false =
      are_calls-append xs (own (said.Exit name o) ∷ []) ∙ or_from (are_calls xs) false (quiet-uncalled xs quiet) refl in
      record {
        apart = h.apart;
        marks_same = h.marks_same;
        serving_same = h.serving_same;
        calm = visit-calm name o mode xs quiet;
        called = h.called ∙ ap (λ q. agent_runs w || q) (sym none);
        attends = h.attends;
        quiet = λ e. none;
      }

  -- a task is placed, and blocks
  task_said : (x : Said) (w : World) → G w → blocks_agent x.line ≡ false → calls_agent x.line ≡ false → R w (x ∷ []) w
  task_said x w good a b = record {
    apart = good;
    marks_same = refl;
    serving_same = refl;
    calm = (a, tt);
    called = or_false (agent_runs w) ∙ ap (λ q. agent_runs w || q) (sym (or_from (calls_agent x.line) false b refl));
    attends = λ h. h;
    quiet = λ e. or_from (calls_agent x.line) false b refl;
  }

  task_placed : (p : Image) (part : Part) (name : Who) (end : QueueEnd) (w : World) → G w → IsTask name → R w (ready_line p part name end w ∷ []) w
  task_placed p part who.Agent end w good is = elim is [ ]
  task_placed p part (who.Task n) end w good is = task_said (ready_line p part (who.Task n) end w) w good refl refl

  task_blocked : (part : Part) (name : Who) (waiting : Waiting) (w : World) → G w → IsTask name
      → R w (record { part = part; line = said.Block name (word_of waiting) } ∷ []) w
  task_blocked part who.Agent waiting w good is = elim is [ ]
  task_blocked part (who.Task n) waiting w good is = task_said (record { part = part; line = said.Block (who.Task n) (word_of waiting) }) w good refl refl

  task_added : (t : Task) (w : World) → G w → TaskFree colour w.drawn.regions t → R w [] (add_task t w)
  task_added t w good free = record {
    apart = record {
      tasks = append-free colour w.drawn.regions w.tasks t good.tasks free;
      marks = good.marks;
      attends = good.attends;
      drawn = good.drawn;
      none = good.none;
    };
    marks_same = refl;
    serving_same = refl;
    calm = tt;
    called = or_false (agent_runs w);
    attends = λ h. h;
    quiet = λ e. refl;
  }

  task_created : (name : Who) (onward : Option StatementNo) (t : Task) (w : World) → G w → IsTask name → t.who ≡ who.Task (record { 0 = w.drawn.tasks })
      → t.frames ≡ [] → t.master ≡ Some (top_region w name) → R w [] (add_task t (edit_top name (goes_on onward) w))
  task_created name onward t w good is same_who none master =
      let gone = edit_top name (goes_on onward) w in
      let first = gone_on name onward w good in
      let free : TaskFree colour w.drawn.regions t = record {
        named = subst IsTask (sym same_who) tt;
        marks = subst (λ fs. MarksFree colour w.drawn.regions (natures fs)) (sym none) tt;
        master = subst (RegionFree colour w.drawn.regions) (sym master) (top_region-free colour w name is good);
      } in
      then w gone (add_task t gone) first
      (task_added t gone first.apart
      (subst (λ d. TaskFree colour d.regions t) (sym (edit_task-drawn name (λ u. with_frames (edit_first (goes_on onward) u.frames) u) w)) free))

  task_forgotten : (name : Who) (w : World) → G w → R w [] (forget_task name w)
  task_forgotten name w good = record {
    apart = record {
      tasks = filter-free colour w.drawn.regions (λ t. not (is_who name t)) w.tasks good.tasks;
      marks = good.marks;
      attends = good.attends;
      drawn = good.drawn;
      none = good.none;
    };
    marks_same = refl;
    serving_same = refl;
    calm = tt;
    called = or_false (agent_runs w);
    attends = λ h. h;
    quiet = λ e. refl;
  }

  awaits-task : (name : Who) (w : World) → G w → waits_for_activation (waiting_of w name) ≡ true → IsTask name
  awaits-task (who.Task n) w good is = tt
  awaits-task who.Agent w good is = absurd (attends-activation w.agent.state good.attends is)

  pub coarse_spares : FineMoves G IsTask IsTask R Q
  coarse_spares = record {
    behind = λ a b h. h.apart;
    moved = λ a b h. h.apart;
    stays = λ w g. still w w g refl refl refl refl refl;
    goes_on = then;
    says = λ part line w g apart. said_quiet (record { part = part; line = line }) w g apart;
    rests = λ w g. record { apart = g; marks_same = refl; serving_same = refl; placed = refl; attends = λ h. h };
    leads_on = λ a b c {xs} {ys} h k. record {
      apart = k.apart;
      marks_same = k.marks_same ∙ h.marks_same;
      serving_same = k.serving_same ∙ h.serving_same;
      placed = placed_behind-append (agent_runs a) xs ys ∙ ap (λ q. placed_behind q ys) h.placed ∙ k.placed;
      attends = λ e. k.attends (h.attends e);
    };
    settles = λ p a b xs h. record {
      apart = record { tasks = h.apart.tasks; marks = h.apart.marks; attends = h.apart.attends; drawn = h.apart.drawn; none = h.apart.none };
      marks_same = h.marks_same;
      serving_same = h.serving_same;
      placed = lines-call p (agent_runs a) xs h.calm ∙ sym h.called;
      attends = h.attends;
    };
    silently = λ a b h. record {
      apart = h.apart;
      marks_same = h.marks_same;
      serving_same = h.serving_same;
      placed = or_false (agent_runs a) ∙ sym h.called;
      attends = h.attends;
    };
    other_may = λ name o. o;
    task_other = λ n. tt;
    listed = λ w g. listed-free colour w.drawn.regions w.tasks g.tasks;
    awaits = λ name w g is. awaits-task name w g is;
    edits_task = λ name f w g same_who same_frames same_state same_master. edited name f w g
        (λ t is h. record {
          named = subst IsTask (sym (same_who t)) h.named;
          marks = subst (λ fs. MarksFree colour w.drawn.regions (natures fs)) (sym (same_frames t)) h.marks;
          master = subst (RegionFree colour w.drawn.regions) (sym (same_master t)) h.master;
        })
        (λ e. (ap natures (same_frames w.agent), same_state w.agent));
    edits_frames = λ name f w g same. frames_edited name f w g same;
    pushes_on = λ name onward f g w good may top region release abortable.
        let first = gone_on name onward w good in
        let gone = edit_top name (goes_on onward) w in
        then w gone (push name f gone) first (pushed name f gone first.apart may release (no_region gone.drawn.regions (nature f.mark).region region));
    opens_abortable = λ name f w g o region release. pushed name f w g o release (no_region w.drawn.regions (nature f.mark).region region);
    pops = λ name f w g may top action. popped name w g may;
    readies = λ name w g o. task_edited name (with_state Runnable) w g o (λ t h. record { named = h.named; marks = h.marks; master = h.master });
    blocks =
        λ name waiting w g o. task_edited name (with_state (Blocked waiting)) w g o (λ t h. record { named = h.named; marks = h.marks; master = h.master });
    places = λ p part name end w g may. task_placed p part name end w g may;
    says_blocked = λ part name waiting w g o. task_blocked part name waiting w g o;
    adds_task = λ name onward t w g o same_who none master. task_created name onward t w g o same_who none master;
    forgets_task = λ name w g. task_forgotten name w g;
    sets_quantum = λ level ticks w g. still w _ g refl refl refl refl refl;
    ends_environment = λ leaving w g. still w _ g refl refl refl refl refl;
    begins_scope = λ p name scope b w g. still w _ g refl refl refl refl refl;
    edits_cells = λ id f w g. still w _ g refl refl refl refl refl;
    ends_scope = λ id w g. still w _ g refl refl refl refl refl;
    edits_call = λ c f w g same. still w _ g refl refl refl refl refl;
    adds_call = λ c w g. still w _ g refl refl refl refl refl;
    forgets_call = λ c w g. still w _ g refl refl refl refl refl;
    edits_object = λ o f w g number actions. still w _ g refl refl refl refl refl;
    adds_object = λ p l u w g. still w _ g refl refl refl refl refl;
    enters = λ name o mode w g h. with_line (own (said.Enter name o mode)) w (open_action name o mode w) refl refl (still w _ g refl refl refl refl refl);
    visits = λ name o mode xs w v g h quiet k. visited name o mode xs w v quiet k;
    finds_held = λ name o mode w g h. task_said (own (said.Held name o mode)) w g refl refl;
    appoints = λ due moment w g later. still w _ g refl refl refl refl refl;
    drops_appointment = λ test w g. still w _ g refl refl refl refl refl;
    registers = λ r l w g. still w _ g refl refl refl refl refl;
    unregisters = λ n w g. still w _ g refl refl refl refl refl;
    draws_event = λ w g. still w _ g refl refl refl refl refl;
    adds_timer = λ t w g. still w _ g refl refl refl refl refl;
    clears_timer = λ k w g. still w _ g refl refl refl refl refl;
    sets_timer = λ k h value w g. still w _ g refl refl refl refl refl;
    sets_timers_due = λ timers w g. still w _ g refl refl refl refl refl;
    adds_budget = λ w g. still w _ g refl refl refl refl refl;
    edits_budget = λ b f w g. still w _ g refl refl refl refl refl;
    sets_budget_due = λ budget w g. still w _ g refl refl refl refl refl;
    sets_port = λ n value w g. still w _ g refl refl refl refl refl;
    masks = λ n flag w g. still w _ g refl refl refl refl refl;
    keeps_interrupt = λ n flag w g. still w _ g refl refl refl refl refl;
    cuts_script = λ x rest w g is due. still w _ g refl refl refl refl refl;
  }

  pub coarse_openings : Openings G IsTask IsTask AnyRegion R
  coarse_openings = record {
    pushes = λ name f w g may region release abortable. pushed name f w g may release (no_region w.drawn.regions (nature f.mark).region region);
    opens_scope = λ p name scope b purpose w g may. scope_opened p name scope b purpose w g may;
    outside = λ name w g may is. may;
    within_part = λ name f w g may top is. may;
    owned = λ name f r w g may top is. tt;
    awaits_dependents = λ name r w g may owns is. may;
  }

  spared_exits : Exits G IsTask NoRelease R
  spared_exits = record {
    exits = λ name m w g may end.
        let first = popped name w g may in
        then w (pop name w) (close_action name m.object (pop name w)) first
        (with_line (own (said.Exit name m.object)) (pop name w) (close_action name m.object (pop name w)) refl refl
        (still (pop name w) _ first.apart refl refl refl refl refl));
  }

  pub spares : FinestMoves G IsTask IsTask R Q
  spares = finest coarse_spares

  pub spared_settings : SettingMoves G R
  spared_settings = setting_moves coarse_spares

  pub spared_openings : MarkOpenings G IsTask IsTask R
  spared_openings = mark_openings coarse_spares coarse_openings

  pub spared_regions : OwnRegions G IsTask IsTask AnyRegion
  spared_regions = own_regions coarse_openings

  pub spared_ends : ActionEnds G IsTask NoRelease Anyhow R
  spared_ends = action_ends spared_exits

-- a text that is put places nobody
pub spared_puts : (colour : Colour) (wakes : Bool) (p : Image) → Puts (Apart colour) (Spared colour wakes) p
spared_puts colour wakes p = record { puts = λ name s pieces text v w good form is. task_said colour wakes (own (said.Put name text)) w good refl refl }
