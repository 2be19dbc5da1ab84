-- Of a run: the world before an instant, and the one in which the effect of who acts is over. Open actions are right there, the lines
-- say last where everybody stands, and whoever is there and not only made stays so.
use Rattle.std.proofs.Common.{◌≡◌, ◌⊎◌, inl, inr, ℕ, ℤ, true, false, List, [], ◌∷◌, Option, Some, None, refl, sym, ap, subst, ◌∙◌}
use Rattle.std.proofs.lemmas.Bool.{false≢true}
use Rattle.ann_base.specs.declared.identities.CallNo.{CallNo}
use Rattle.trace_text.specs.declared.events.Event.{Event}
use Rattle.trace_text.specs.declared.events.Who.{Who}
use Rattle.trace_text.specs.declared.events.Who.TheVariants as who
use Rattle.profile_image.specs.declared.image.Image.{Image}
use Rattle.profile_image.specs.declared.script_items.Item.{Item}
use Rattle.profile_machine.specs.declared.world.World.{World}
use Rattle.profile_machine.specs.declared.world.appointments.Release.{Release}
use Rattle.profile_machine.specs.declared.world.calls.Call.{Call}
use Rattle.profile_machine.specs.declared.world.marks.Frame.{Frame}
use Rattle.profile_machine.specs.declared.world.marks.Mark.TheVariants.{InProtected}
use Rattle.profile_machine.specs.declared.world.marks.ProtectedMark.{ProtectedMark}
use Rattle.profile_machine.specs.declared.world.tasks.State.{State}
use Rattle.profile_machine.specs.declared.world.tasks.State.TheVariants.{Made, Runnable, Blocked}
use Rattle.profile_machine.specs.declared.world.tasks.Task.{Task}
use Rattle.profile_machine.specs.Act.{act}
use Rattle.profile_machine.specs.Frames.{frames_of}
use Rattle.profile_machine.specs.Instant.{effect, instant, is_over}
use Rattle.profile_machine.specs.Steps.{settles}
use Rattle.profile_machine.specs.Tasks.{edit_task, is_made_state, is_runnable, is_runnable_state, task_of, with_ticks}
use Rattle.world_tables.specs.Lists.{first_of}
use Rattle.machine_laws.specs.Reached.{before}
use Rattle.machine_laws.proofs.FineMoves.{natures, release_in}
use Rattle.machine_laws.proofs.Kept.Combinators.{From, then-from, then-keeps}
use Rattle.machine_laws.proofs.Moves.{StepRelation}
use Rattle.line_laws.proofs.Exits.TaskEdits.{one_of-is}
use Rattle.line_laws.proofs.Handlers.AgentInstants.{instant-attended, opening-attended}
use Rattle.line_laws.proofs.Handlers.AgentMarks.{Standing, has_top, rooted-inside}
use Rattle.line_laws.proofs.Handlers.AgentTocks.{tock-ticked}
use Rattle.line_laws.proofs.Handlers.AgentWorlds.{MarksFree, marks-free}
use Rattle.line_laws.proofs.Handlers.Attending.{Attending, Marked}
use Rattle.line_laws.proofs.Leaving.Modes.{Nobody}
use Rattle.ceiling_laws.specs.RunLaws.{Tells, told_first, told_on}
use Rattle.ceiling_laws.proofs.Fine.Cores.{CallerIn, core}
use Rattle.ceiling_laws.proofs.Places.SoundWorlds.{is_fresh}
use Rattle.ceiling_laws.proofs.Places.StandingRuns.{runs_show_who_is_ready}
use Rattle.ceiling_laws.proofs.Runs.Kept.Waking.{who-is}
use Rattle.ceiling_laws.proofs.Runs.Triples.{Ends}
use Rattle.world_laws.proofs.Actions.FineMoves.{chains}
use Rattle.world_laws.proofs.Actions.GoodMoves.{Awake, awake-edited}
use Rattle.world_laws.proofs.Actions.Kept.Act.{act-from}
use Rattle.world_laws.proofs.Actions.Kept.Combinators.{changes_then-from}
use Rattle.world_laws.proofs.Actions.Kept.Frames.{open_if_ready-keeps}
use Rattle.world_laws.proofs.Actions.Kept.Instant.{RunnerAwake, instant-good, settles-good}
use Rattle.world_laws.proofs.Actions.Kept.Protected.{beside}
use Rattle.world_laws.proofs.Actions.Kept.Run.{opening-good, tock-good}
use Rattle.world_laws.proofs.Actions.Kept.Tasking.{take_terminates-keeps, unwind_all-keeps}
use Rattle.world_laws.proofs.Actions.Sound.{Good}
use Rattle.world_laws.proofs.Appointments.DelayRuns.{reached-good}
use Rattle.world_laws.proofs.Appointments.Delays as own
use Rattle.world_laws.proofs.Appointments.Delays.{OwnIn}
use Rattle.world_laws.proofs.Places.CorePoints.{Holds}
use Rattle.world_laws.proofs.Places.EffectKeeps.{effect_moves}
use Rattle.world_laws.proofs.Places.Kept.Act as placing
use Rattle.world_laws.proofs.Places.Kept.Act.{AgentInside, InsideOrNone, MayAct}
use Rattle.world_laws.proofs.Places.SoundWorlds.{IsAbsent, known}
use Rattle.world_laws.proofs.Places.Standing as standing
use Rattle.world_laws.proofs.Places.Standing.{First, nobody-runs, runs_in}
use Rattle.world_laws.proofs.Places.StandingRuns.{AllStand, Stands, comes-stands}
use Rattle.world_laws.proofs.Scopes.ActingMoves.{ActingWorld}
use Rattle.world_laws.proofs.Scopes.GoodWorlds.{GoodWorld}
use Rattle.world_laws.proofs.Scopes.Runs as scopes
use Rattle.blocking_laws.proofs.OpenTold.{comes-of}

-- ---- an effect leaves open actions right

abbrev ToSound : StepRelation
ToSound w lines v = Good Nobody v

sound_effect-from : (p : Image) (name : Who) (w : World) → Good Nobody w → Awake name w → From ToSound w (effect p name)
unfolding effect
sound_effect-from p name w good awake =
    let v = edit_task name (with_ticks None) w in
    let first = beside.edits_task name (with_ticks None) w good (λ t. refl) (λ t. refl) (λ t. refl) (λ t. refl) (λ t. refl) in
    changes_then-from beside (edit_task name (with_ticks None)) _ w
    (then-from (chains beside) (act p name) _ v
    (act-from p name v first (awake-edited name name (with_ticks None) w (λ t. refl) (λ t. refl) awake))
    (then-keeps (chains beside) _ _ (open_if_ready-keeps beside p name)
    (then-keeps (chains beside) _ _ (take_terminates-keeps beside p name) (unwind_all-keeps beside p name))))

pub effect-sound : (p : Image) (name : Who) (w : World) → Good Nobody w → Awake name w → Good Nobody (settles p (effect p name) w).0
effect-sound p name w good awake = settles-good (Good Nobody) (λ lines v g. g) p (effect p name) w (sound_effect-from p name w good awake)

runnable-live : (state : State) → is_runnable_state state ≡ true → is_made_state state ≡ false
runnable-live Made e = absurd (false≢true e)
runnable-live Runnable e = refl
runnable-live (Blocked waiting) e = refl

-- ---- who acts

standing-inside : (frames : List Frame) → Standing (natures frames) → InsideOrNone frames
standing-inside [] h = inl refl
standing-inside (f ∷ fs) h = inr (rooted-inside (f ∷ fs) h)

no-marks : (frames : List Frame) → natures frames ≡ [] → InsideOrNone frames
no-marks [] e = inl refl
no-marks (f ∷ fs) e = absurd cc

marked-inside : (serving : Option Release) (frames : List Frame) → Marked serving (natures frames) → InsideOrNone frames
marked-inside None frames h = no-marks frames h
marked-inside (Some r) frames h = standing-inside frames h

own_top : (calls : List Call) (last : ℕ) (name : Who) (frames : List Frame) (f : Frame) (m : ProtectedMark) (c : CallNo) → first_of frames ≡ Some f
    → f.mark ≡ InProtected m → m.own_call ≡ Some c → OwnIn calls last name (own.natures frames) → CallerIn calls last c name
own_top calls last name frames f m c top mark e h =
    let found = has_top frames f top in
    (subst (λ fs. OwnIn calls last name (own.natures fs)) found.1 h).0 c (ap own.nature mark ∙ e)

no_release : (w : World) (name : Who) (f : Frame) (m : ProtectedMark) (r : ℕ) → Attending w → first_of (frames_of w name) ≡ Some f → f.mark ≡ InProtected m
    → m.release ≡ Some r → who.Agent ≡ name
no_release w who.Agent f m r h top mark e = refl
no_release w (who.Task n) f m r h top mark e =
    let found = has_top (frames_of w (who.Task n)) f top in
    let free : MarksFree h.colour w.drawn.regions (natures (f ∷ found.0)) =
    subst (λ fs. MarksFree h.colour w.drawn.regions (natures fs)) found.1 (marks-free h.colour w (who.Task n) tt h.apart) in
    absurd (let clash : None ≡ Some r = sym free.0 ∙ ap release_in mark ∙ e in cc)

module _ (p : Image) (script : List (ℤ × Item)) (bound : ℕ) where
  -- it is ready
  pub runner_ready : (lines : List Event) (w : World) → Tells p script bound lines w → (name : Who) → w.ran ≡ Some name
      → is_over (task_of w name).ticks_left ≡ true → is_runnable (task_of w name) ≡ true
  runner_ready lines w told name ran over = (runs_show_who_is_ready p script bound lines w told).1 name ran over

  runner_awake : (lines : List Event) (w : World) → Tells p script bound lines w → RunnerAwake w
  runner_awake lines w told name ran over =
      ap (λ (t : Task). is_runnable_state t.state) (one_of-is w name) ∙ runner_ready lines w told name ran over

  pub told-sound : (lines : List Event) (w : World) → Tells p script bound lines w → Good Nobody w
  told-sound _ _ told_first = opening-good p script
  told-sound _ _ (told_on lines w told going) =
      tock-good p (instant p w).0 (instant-good p w (told-sound lines w told) (runner_awake lines w told))

  pub told-scopes : (lines : List Event) (w : World) → Tells p script bound lines w → GoodWorld w
  told-scopes lines w told = scopes.reached-good p script bound w (before w (comes-of p script bound lines w told))

  pub told-acting : (lines : List Event) (w : World) → Tells p script bound lines w → (name : Who) → w.ran ≡ Some name
      → is_over (task_of w name).ticks_left ≡ true → ActingWorld name w
  told-acting lines w told name ran over =
      (told-scopes lines w told, runnable-live (task_of w name).state (runner_ready lines w told name ran over))

  pub told-effect_sound : (lines : List Event) (w : World) → Tells p script bound lines w → (name : Who) → w.ran ≡ Some name
      → is_over (task_of w name).ticks_left ≡ true → Good Nobody (settles p (effect p name) w).0
  told-effect_sound lines w told name ran over = effect-sound p name w (told-sound lines w told) (runner_awake lines w told name ran over)

  -- the agent acts where it attends to a release, and who entered with a call of its own made it
  told-attends : (lines : List Event) (w : World) → Tells p script bound lines w → Attending w
  told-attends _ _ told_first = (opening-attended p script).attending
  told-attends _ _ (told_on lines w told going) =
      (tock-ticked p (instant p w).0 (instant-attended p w (told-attends lines w told)).attending).attending

  told-may : (lines : List Event) (w : World) → Tells p script bound lines w → (name : Who) → MayAct name w
  told-may lines w told name =
      let attends = told-attends lines w told in
      record {
        inside = marked-inside w.serving w.agent.frames attends.marks;
        tops = λ f m top mark. (
          (λ c e. own_top w.calls w.drawn.calls name (frames_of w name) f m c top mark e
              ((reached-good p script bound w (before w (comes-of p script bound lines w told))).owned name)),
          (λ r e. no_release w name f m r attends top mark e),
        );
      }

  -- ---- where the lines of an effect leave everybody

  begins : (w : World) (name n : Who) → AllStand p w.places w → is_runnable (task_of w name) ≡ true
      → First p w.places name w.drawn.tasks n (core (task_of w n)) None
  begins w name n h runs =
      let stands : Stands p w.places w.drawn.tasks n (core (task_of w n)) = h.1 n in (
        record { late = tt; at = stands.at; shown = stands.shown; fresh = stands.fresh; ready = stands.ready; calm = λ apart. (tt, λ sleeps. refl) },
        λ same. let is : n ≡ name = who-is n name same in (
          subst (λ m. is_fresh w.drawn.tasks m ≡ false) (sym is) (drawn (known w name h.0)),
          ap (λ m. runs_in (core (task_of w m))) is ∙ runs,
          refl,
        ),
      )
    where
      drawn : IsAbsent name (core (task_of w name)) ⊎ (is_fresh w.drawn.tasks name ≡ false)
          → is_fresh w.drawn.tasks name ≡ false
      drawn (inl absent) = nobody-runs (subst (λ c. runs_in c ≡ true) absent.1 runs)
      drawn (inr f) = f

  pub effect-stands : (lines : List Event) (w : World) → Tells p script bound lines w → (name : Who) → w.ran ≡ Some name
      → is_over (task_of w name).ticks_left ≡ true → Ends (Holds (standing.Good p w.places name)) (effect p name w [])
  unfolding Holds
  effect-stands lines w told name ran over =
      let h = comes-stands p script bound w (comes-of p script bound lines w told) in
      (placing.effect-leads (effect_moves p w.places name)).runs w []
      ((h.0, λ n. begins w name n h (runner_ready lines w told name ran over)), told-may lines w told name)
