-- In every world that a run reaches, who is ready has opened the sequence with handlers to which it has come.
use Rattle.std.proofs.Common.{◌≡◌, ℕ, ℤ, zero, suc, Bool, true, false, cond, not, ◌&&◌, List, [], ◌∷◌, ◌++◌}
use Rattle.std.proofs.Common.{Option, Some, None, slice_index_or, refl, sym, ap, subst, ◌∙◌, inl, inr, unwrap_or}
use Rattle.std.specs.List.{list_all}
use Rattle.std.proofs.lemmas.Bool.{and_parts, false≢true, not-true}
use Rattle.trace_text.specs.declared.events.Created.TheVariants as created
use Rattle.trace_text.specs.declared.events.Event.{Event}
use Rattle.trace_text.specs.declared.events.Event.TheVariants as line
use Rattle.trace_text.specs.declared.events.Who.{Who}
use Rattle.trace_text.specs.declared.events.Who.TheVariants as who
use Rattle.profile_image.specs.declared.image.Image.{Image}
use Rattle.profile_image.specs.declared.declarations.Handler.{Handler}
use Rattle.profile_image.specs.declared.numbers.StatementNo.{StatementNo}
use Rattle.profile_image.specs.declared.script_items.Item.{Item}
use Rattle.profile_image.specs.declared.statements.StatementForm.{StatementForm}
use Rattle.profile_image.specs.declared.statements.StatementForm.TheVariants as form
use Rattle.profile_machine.specs.declared.world.World.{World}
use Rattle.profile_machine.specs.declared.world.appointments.Release.{Release}
use Rattle.profile_machine.specs.declared.world.lines.Line.TheVariants as said_line
use Rattle.profile_machine.specs.declared.world.lines.Part.TheVariants.{Own}
use Rattle.profile_machine.specs.declared.world.marks.Frame.{Frame}
use Rattle.profile_machine.specs.declared.world.marks.Purpose.TheVariants as opened_for
use Rattle.profile_machine.specs.declared.world.tasks.Task.{Task}
use Rattle.profile_machine.specs.declared.world.tasks.State.{State}
use Rattle.profile_machine.specs.declared.world.tasks.State.TheVariants.{Made, Runnable, Blocked}
use Rattle.profile_image.specs.Words.{same_who, same_option}
use Rattle.world_tables.specs.Lists.{first_of}
use Rattle.profile_image.specs.Program.{no_statement, form_of, task_unit_of, scope_of}
use Rattle.profile_machine.specs.Steps.{says, changes, rests}
use Rattle.profile_machine.specs.Tasks.{task_of, with_ticks, is_runnable, is_runnable_state, nobody, is_who}
use Rattle.profile_machine.specs.Dispatching.{choose, to_tail}
use Rattle.profile_machine.specs.Frames.{onward_of, open_sequence}
use Rattle.profile_machine.specs.Scopes.{open_scope, plainly}
use Rattle.profile_machine.specs.Sending.{abortable_in}
use Rattle.profile_machine.specs.Tasking.{unit_of_declaration}
use Rattle.profile_machine.specs.Cost.{cost}
use Rattle.profile_machine.specs.Handlers.{charge}
use Rattle.profile_machine.specs.Instant.{instant}
use Rattle.profile_machine.specs.Run.{opens, opening, blank_world, environment, say, says_run, with_serving, serve_if_free, serve}
use Rattle.profile_machine.specs.Run.{begin_action, one_tick_less, spend_tick, next_tick, says_idle, tock, environment_task}
use Rattle.profile_machine.specs.WellFormed.{begins_sequence, has_opened}
use Rattle.machine_laws.specs.Reached.{Comes, opened, ticked, Reached, before, behind}
use Rattle.machine_laws.proofs.Kept.Run.{before_tick, tock-parts}
use Rattle.ann_base.specs.declared.identities.CallNo.{CallNo}
use Rattle.profile_machine.specs.declared.world.calls.Call.{Call}
use Rattle.profile_machine.specs.declared.world.marks.ProtectedMark.{ProtectedMark}
use Rattle.profile_machine.specs.declared.world.marks.Mark.TheVariants.{InProtected}
use Rattle.line_laws.proofs.Leaving.FineMoves.{own_call_of}
use Rattle.line_laws.proofs.Leaving.FreeWorlds.{CallerIn, OwnCalls, good-task}
use Rattle.line_laws.proofs.Leaving.WakingRuns.{comes-awake}
use Rattle.world_laws.proofs.Sequences.OwnCalls.{Knows}
use Rattle.ceiling_laws.specs.RunLaws.{Tells, told_first, told_on}
use Rattle.ceiling_laws.proofs.Places.StandingRuns.{runs_show_who_is_ready}
use Rattle.world_laws.specs.SequenceWorlds.{form_fits, statement_fits, sequences_fit, ReachedSequencesAreOpen}
use Rattle.world_laws.proofs.Sequences.FineMoves.{Fits, onward_in}
use Rattle.world_laws.proofs.Behind.{BehindMove, Turns, then-turns, changes-turns, says-turns, turns-from}
use Rattle.world_laws.proofs.Sequences.TaskNames.{Listed}
use Rattle.world_laws.proofs.Sequences.Points.{Fine, begins, fine-plain, fine-edited}
use Rattle.world_laws.proofs.Sequences.FineSteps.{fine_opens, listed_is}
use Rattle.world_laws.proofs.Sequences.Loosened.{points-loosened, free-loosened, stacks-loosened, loosened, loosening, fine_loosens}
use Rattle.world_laws.proofs.Sequences.Actors.{Rests, rests_points, nobody_free, nobody_stacks, Standing, must, Any, any_callings}
use Rattle.world_laws.proofs.Sequences.Effects.{RestingWorld, resting_moves, resting_loose, RunnerReady, OwnKnown, instant-rests}
use Rattle.world_laws.proofs.Sequences.Kept.Dispatching.{to_tail-keeps}
use Rattle.world_laws.proofs.Sequences.Kept.Handlers.{charge-alters}
use Rattle.world_laws.proofs.Sequences.Kept.Woken.{opened-turns}
use Rattle.machine_laws.proofs.Kept.Combinators.{Alters, settles-from}

-- ---- what the image lets begin

listed-at : {X : Type 0} (test : X → Bool) (d : X) (xs : List X) (n : ℕ) → test d ≡ true → list_all test xs ≡ true → test (slice_index_or xs n d) ≡ true
listed-at test d [] n outside h = outside
listed-at test d (x ∷ xs) zero outside h = (and_parts (test x) (list_all test xs) h).0
listed-at test d (x ∷ xs) (suc n) outside h = listed-at test d xs n outside (and_parts (test x) (list_all test xs) h).1

module _ (p : Image) (fit : sequences_fit p ≡ true) where
  statement-fits : (s : StatementNo) → form_fits p (form_of p s) ≡ true
  statement-fits s = listed-at (statement_fits p) no_statement p.statements s.0 refl fit

  handled-fits : (s first : StatementNo) (handlers : List Handler) → form_of p s ≡ form.Handled handlers first → begins_sequence p (Some first) ≡ false
  handled-fits s first handlers is = not-true (begins_sequence p (Some first)) (subst (λ f. form_fits p f ≡ true) is (statement-fits s))

  abortable-by : (f : StatementForm) → form_fits p f ≡ true → begins_sequence p (abortable_in f) ≡ false
  abortable-by (form.AsynchronousSelect trigger abortable) h = not-true (begins_sequence p (Some abortable)) h
  abortable-by _ h = refl

  fits : Fits p
  fits = record {
    handled = handled-fits;
    abortable = λ s. abortable-by (form_of p s) (statement-fits s);
    created =
        λ s d part is. not-true (begins_sequence p (scope_of p (task_unit_of p (unit_of_declaration p d)).scope).first)
        (subst (λ f. form_fits p f ≡ true) is (statement-fits s));
  }

  -- ---- the opening

  first_or_nobody : (b : Bool) (t : Task) → t.frames ≡ [] → begins_sequence p (onward_in (unwrap_or (cond b (Some t) None) nobody).frames) ≡ false
  first_or_nobody true t none = ap (λ fs. begins_sequence p (onward_in fs)) none
  first_or_nobody false t none = refl

  blank_point : (script : List (ℤ × Item)) (name : Who) → Rests name (task_of (blank_world p script) name).state (begins p (blank_world p script) name)
  blank_point script (who.Task n) = λ m. first_or_nobody (is_who (who.Task n) (environment_task p)) (environment_task p) refl
  blank_point script who.Agent = (refl, refl)

  blank_rests : (script : List (ℤ × Item)) → RestingWorld fits (blank_world p script)
  blank_rests script = record {
    agent = refl;
    apart = (tt, tt);
    below = (refl, tt);
    units = ((λ e. cc), tt);
    calls = tt;
    marks = inl refl;
    points = blank_point script;
  }

  abbrev Loose : World → Type 0
  Loose = Fine p (loosened Rests environment) Standing Any

  scope_opened : (w : World) → Loose w → Loose (open_scope p environment p.environment (plainly None) opened_for.Task w)
  scope_opened w h =
      fine_opens fits any_callings (points-loosened rests_points environment) (free-loosened rests_points environment (nobody_free Rests))
      (stacks-loosened (nobody_stacks Standing) environment tt) environment p.environment (plainly None) opened_for.Task w h (inr refl)

  opens-turns : Turns (RestingWorld fits) (RestingWorld fits) (opens p)
  unfolding opens resting_loose fine_loosens loosening
  opens-turns =
      let l = resting_loose fits environment tt in
      let Z = RestingWorld fits in
      then-turns Z l.Loose Z (changes (open_scope p environment p.environment (plainly None) opened_for.Task)) _
      (changes-turns Z l.Loose _ (λ w g. scope_opened w (l.loosens w g)))
      (then-turns l.Loose l.Loose Z (says Own (said_line.New (created.Task (record { 0 = 0 })) None p.main.priority)) _
      (says-turns l.Loose Own (said_line.New (created.Task (record { 0 = 0 })) None p.main.priority))
      (then-turns l.Loose l.Loose Z (to_tail p Own environment) (open_sequence p Own environment) (to_tail-keeps l.moves Own environment)
      (opened-turns (resting_moves fits) (resting_loose fits) Own environment tt)))

  opening_rests : (script : List (ℤ × Item)) → RestingWorld fits (opening p script).0
  opening_rests script =
      settles-from (BehindMove (RestingWorld fits)) p (resting_moves fits).settles (opens p) (blank_world p script)
      (turns-from (RestingWorld fits) (RestingWorld fits) (opens p) (blank_world p script) (blank_rests script) opens-turns)

  -- ---- tocks

  serve_if_free-rests : (serving : Option Release) (frames : List Frame) (releases : List Release) (w : World) → RestingWorld fits w
      → RestingWorld fits (serve_if_free serving frames releases w).0
  serve_if_free-rests None [] [] w g = g
  serve_if_free-rests None [] (r ∷ rest) w g = fine-plain w (with_serving r rest w) refl refl refl refl refl g
  serve_if_free-rests None (f ∷ fs) releases w g = g
  serve_if_free-rests (Some r) frames releases w g = g

  serve-rests : (name : Who) (w : World) → RestingWorld fits w → RestingWorld fits (serve name w).0
  serve-rests (who.Task t) w g = g
  serve-rests who.Agent w g = serve_if_free-rests w.serving w.agent.frames w.releases w g

  begins-rests : (name : Who) (w : World) → RestingWorld fits w → RestingWorld fits (begin_action p name w)
  begins-rests name w g =
      fine-edited name (with_ticks (Some (unwrap_or (task_of w name).ticks_left (cost p w name)))) w (λ t. refl) (λ t fit. fit) (λ is m. m) (λ h. h) g

  spends-rests : (name : Who) (w : World) → RestingWorld fits w → RestingWorld fits (spend_tick name w)
  spends-rests name w g = fine-edited name (λ t. with_ticks (one_tick_less t.ticks_left) t) w (λ t. refl) (λ t fit. fit) (λ is m. m) (λ h. h) g

  charged-rests : (name : Who) (w : World) → RestingWorld fits w → RestingWorld fits (charge p name w)
  unfolding Alters
  charged-rests name w g = charge-alters (resting_moves fits) name w g

  says_run-rests : (same : Bool) (name : Who) (w : World) → RestingWorld fits w → RestingWorld fits ((cond same rests (say (line.Run name))) w).0
  says_run-rests true name w g = g
  says_run-rests false name w g = g

  says_idle-rests : (ran : Option Who) (w : World) → RestingWorld fits w → RestingWorld fits (says_idle ran w).0
  says_idle-rests None w g = g
  says_idle-rests (Some name) w g = g

  before_tick-rests : (chosen : Option Who) (w : World) → RestingWorld fits w → RestingWorld fits (before_tick p chosen w).0
  before_tick-rests None w g = says_idle-rests w.ran w g
  before_tick-rests (Some name) w g =
      let said = (says_run name w.ran w).0 in
      let served = (serve name said).0 in
      let begun = begin_action p name served in
      spends-rests name (charge p name begun)
      (charged-rests name begun (begins-rests name served (serve-rests name said (says_run-rests (same_option same_who w.ran (Some name)) name w g))))

  tock_rests : (w : World) → RestingWorld fits w → RestingWorld fits (tock p w).0
  tock_rests w g =
      let ticked_on = (before_tick p (choose w) w).0 in
      subst (λ (a : World × List Event). RestingWorld fits a.0) (sym (tock-parts p w))
      (fine-plain ticked_on (next_tick (choose w) ticked_on) refl refl refl refl refl (before_tick-rests (choose w) w g))

  -- ---- worlds that a run reaches

  record Come (script : List (ℤ × Item)) (bound : ℕ) (w : World) : Type 0 where
    lines : List Event
    told : Tells p script bound lines w
    rests : RestingWorld fits w

  ready : (script : List (ℤ × Item)) (bound : ℕ) (lines : List Event) (w : World) → Tells p script bound lines w → RunnerReady fits w
  ready script bound lines w told = (runs_show_who_is_ready p script bound lines w told).1

  known_by : (own_call : Option CallNo) (name : Who) (calls : List Call) (drawn : ℕ) → ((c : CallNo) → own_call ≡ Some c → CallerIn calls drawn c name)
      → Knows own_call name drawn calls
  known_by None name calls drawn k = tt
  known_by (Some c) name calls drawn k = let h = k c refl in (h.0, h.1)

  known-first : (fs : List Frame) (f : Frame) (m : ProtectedMark) (name : Who) (calls : List Call) (drawn : ℕ) → OwnCalls calls drawn name fs
      → first_of fs ≡ Some f → f.mark ≡ InProtected m → Knows m.own_call name drawn calls
  known-first [] f m name calls drawn h e is = absurd (let never : None ≡ Some f = e in cc)
  known-first (x ∷ xs) f m name calls drawn h e is =
      let one : x ≡ f = cc in
      known_by m.own_call name calls drawn (λ c k. h.0 c (ap (λ g. own_call_of g.mark) one ∙ ap own_call_of is ∙ k))

  owners : (script : List (ℤ × Item)) (bound : ℕ) (w : World) → Comes p script bound w → (name : Who) → OwnKnown fits name w
  owners script bound w c name f m top is =
      known-first (task_of w name).frames f m name w.calls w.drawn.calls (good-task name w (comes-awake p script bound w c).inv).own top is

  comes : (script : List (ℤ × Item)) (bound : ℕ) (w : World) → Comes p script bound w → Come script bound w
  comes script bound _ opened = record { lines = (opening p script).1; told = told_first; rests = opening_rests script }
  comes script bound _ (ticked w c e) =
      let h = comes script bound w c in
      record {
        lines = (h.lines ++ (instant p w).1) ++ (tock p (instant p w).0).1;
        told = told_on h.lines w h.told e;
        rests = tock_rests (instant p w).0 (instant-rests fits w (ready script bound h.lines w h.told) (owners script bound w c) h.rests);
      }

  reached_rests : (script : List (ℤ × Item)) (bound : ℕ) (w : World) → Reached p script bound w → RestingWorld fits w
  reached_rests script bound _ (before w c) = (comes script bound w c).rests
  reached_rests script bound _ (behind w c) =
      let h = comes script bound w c in instant-rests fits w (ready script bound h.lines w h.told) (owners script bound w c) h.rests

  -- ---- each of everybody has opened it

  both-false : (a b : Bool) → (a ≡ true → b ≡ false) → not (a && b) ≡ true
  both-false true b h = ap not (h refl)
  both-false false b h = refl

  must-runs : (s : State) → is_runnable_state s ≡ true → must s ≡ true
  must-runs Made e = absurd (false≢true e)
  must-runs Runnable e = refl
  must-runs (Blocked waiting) e = absurd (false≢true e)

  rests_plainly : (name : Who) (s : State) (g : Bool) → Rests name s g → is_runnable_state s ≡ true → g ≡ false
  rests_plainly (who.Task n) s g h e = h (must-runs s e)
  rests_plainly who.Agent s g h e = h.0

  opened_by : (w : World) (t : Task) → RestingWorld fits w → task_of w t.who ≡ t → has_opened p w t ≡ true
  opened_by w t g is =
      both-false (is_runnable t) (begins_sequence p (onward_of w t.who))
      (λ runs. rests_plainly t.who (task_of w t.who).state (begins p w t.who) (g.points t.who) (ap is_runnable is ∙ runs))

  agent_opened : (w : World) → RestingWorld fits w → w.agent.who ≡ who.Agent → has_opened p w w.agent ≡ true
  agent_opened w g is =
      both-false (is_runnable w.agent) (begins_sequence p (onward_of w w.agent.who))
      (λ runs. subst (λ n. begins_sequence p (onward_of w n) ≡ false) (sym is) (g.points who.Agent).0)

  all-opened : (w : World) (ts : List Task) → RestingWorld fits w → ((t : Task) → Listed t ts → Listed t w.tasks) → has_opened p w w.agent ≡ true
      → list_all (has_opened p w) (ts ++ w.agent ∷ []) ≡ true
  all-opened w [] g among agent = ap (λ b. b && true) agent
  all-opened w (t ∷ ts) g among agent =
      ap (λ b. b && list_all (has_opened p w) (ts ++ w.agent ∷ [])) (opened_by w t g (listed_is w t (among t (inl refl)) g t.who refl))
      ∙ all-opened w ts g (λ u l. among u (inr l)) agent

pub reached_sequences_are_open : ReachedSequencesAreOpen
reached_sequences_are_open p fit script bound w r =
    let g = reached_rests p fit script bound w r in
    all-opened p fit w w.tasks g (λ t l. l) (agent_opened p fit w g g.agent)
