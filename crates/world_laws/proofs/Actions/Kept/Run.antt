-- The opening of a run is good, and tocks leave worlds good.
use Rattle.std.proofs.Common.{◌≡◌, ℤ, Bool, true, false, cond, List, [], ◌∷◌, Option, Some, None, refl, sym, ap, subst, ◌∙◌, arith, unwrap_or}
use Rattle.std.proofs.lemmas.Bool.{false≢true}
use Rattle.trace_text.specs.declared.events.Event.{Event}
use Rattle.trace_text.specs.declared.events.Event.TheVariants as written
use Rattle.trace_text.specs.declared.events.Created.TheVariants as created
use Rattle.trace_text.specs.declared.events.Who.{Who}
use Rattle.trace_text.specs.declared.events.Who.TheVariants as who
use Rattle.profile_image.specs.declared.image.Image.{Image}
use Rattle.profile_image.specs.declared.script_items.Item.{Item}
use Rattle.profile_machine.specs.declared.world.World.{World}
use Rattle.profile_machine.specs.declared.world.appointments.Release.{Release}
use Rattle.profile_machine.specs.declared.world.marks.Frame.{Frame}
use Rattle.profile_machine.specs.declared.world.marks.Purpose.TheVariants as opened_for
use Rattle.profile_machine.specs.declared.world.tasks.Task.{Task}
use Rattle.profile_machine.specs.declared.world.lines.Line.TheVariants as line
use Rattle.profile_machine.specs.declared.world.lines.Part.TheVariants.{Own}
use Rattle.profile_image.specs.Words.{same_option, same_who}
use Rattle.profile_machine.specs.Steps.{rests, says, changes}
use Rattle.profile_machine.specs.Tasks.{is_who, nobody, task_of, with_ticks}
use Rattle.profile_machine.specs.Dispatching.{choose, to_tail}
use Rattle.profile_machine.specs.Cost.{cost}
use Rattle.profile_machine.specs.Scopes.{open_scope, plainly}
use Rattle.profile_machine.specs.Run.{begin_action, blank_world, environment, environment_task, one_tick_less, opening}
use Rattle.profile_machine.specs.Run.{opens, say, says_idle, serve, serve_if_free, silently, spend_tick, tock}
use Rattle.profile_machine.specs.Handlers.{charge}
use Rattle.line_laws.proofs.Exits.TaskEdits.{one_of}
use Rattle.line_laws.proofs.Leaving.Modes.{Nobody}
use Rattle.machine_laws.proofs.Kept.Run.{before_tick, tock-parts}
use Rattle.world_laws.proofs.Actions.Natures.{natures, guards, in_region}
use Rattle.world_laws.proofs.Actions.Sound.{SureOf, SureOn, OneOwner, Sound, Good, marks_of}
use Rattle.world_laws.proofs.Actions.FineMoves.{FineMoves, chains, move_chains, says-keeps}
use Rattle.world_laws.proofs.Actions.GoodMoves.{good_moves}
use Rattle.world_laws.proofs.Actions.Kept.Dispatching.{to_tail-keeps}
use Rattle.world_laws.proofs.Actions.Kept.Frames.{open_sequence-keeps}
use Rattle.world_laws.proofs.Actions.Kept.Handlers.{charge-alters}
use Rattle.world_laws.proofs.Actions.Kept.Instant.{settles-good}
use Rattle.world_laws.proofs.Actions.Kept.Scopes.{open_scope-alters}
use Rattle.world_laws.proofs.Actions.Kept.Switching.{Only, less-from}
use Rattle.world_laws.proofs.Actions.Kept.Protected.{beside}
use Rattle.machine_laws.proofs.Kept.Combinators.{Alters, Keeps, Leads, changes-keeps, keeps-from, then-keeps, then-leads, watches-leads}
use Rattle.world_laws.proofs.Behind.{Behind, BehindMove}

-- ---- at first nobody has a mark

found-none : (b : Bool) (t : Task) → t.frames ≡ [] → (unwrap_or (cond b (Some t) None) nobody).frames ≡ []
found-none true t e = e
found-none false t e = refl

module _ (p : Image) (script : List (ℤ × Item)) where
  abbrev blank : World
  blank = blank_world p script

  no-frames : (name : Who) → (one_of blank.tasks blank.agent name).frames ≡ []
  no-frames (who.Task n) = found-none (is_who (who.Task n) (environment_task p)) (environment_task p) refl
  no-frames who.Agent = refl

  no-marks : (name : Who) → marks_of blank.tasks blank.agent name ≡ []
  no-marks name = ap natures (no-frames name)

  blank-sure : (name : Who) → SureOf blank.drawn blank.calls blank.objects blank.tasks name (one_of blank.tasks blank.agent name)
  blank-sure name =
      let t = one_of blank.tasks blank.agent name in
      subst (λ ns. SureOn blank.drawn blank.calls blank.objects blank.tasks name ns t.state t.inherited) (sym (no-marks name)) (
        tt,
        (λ e. absurd (false≢true e)),
        tt,
        λ r e. tt,
      )

  blank-owner : OneOwner blank.tasks blank.agent
  blank-owner a b r x y = absurd (false≢true (ap (in_region r) (sym (no-marks a)) ∙ x))

  blank-sound : Sound blank
  blank-sound = (tt, (omega arith, omega arith), (((record { 0 = 0 }, refl), tt), refl), (λ r e. absurd (false≢true e)), blank-owner, blank-sure)

  blank-good : Good (Only environment) blank
  blank-good = (blank-sound, λ n is. ap guards (no-marks n))

abbrev first : FineMoves (Good (Only environment)) (Only environment)
first = good_moves (Only environment)

opens-keeps : (p : Image) → Keeps (Good (Only environment)) (Behind (Good (Only environment))) (opens p)
unfolding opens
opens-keeps p =
    then-keeps (chains first) (changes (open_scope p environment p.environment (plainly None) opened_for.Task)) _
    (changes-keeps (chains first) _ (open_scope-alters first p environment p.environment (plainly None) opened_for.Task (λ e. refl)))
    (then-keeps (chains first) (says Own (line.New (created.Task (record { 0 = 0 })) None p.main.priority)) _
    (says-keeps first Own (line.New (created.Task (record { 0 = 0 })) None p.main.priority))
    (then-keeps (chains first) (to_tail p Own environment) _ (to_tail-keeps first p Own environment) (open_sequence-keeps first p Own environment)))

pub opening-good : (p : Image) (script : List (ℤ × Item)) → Good Nobody (opening p script).0
opening-good p script =
    settles-good (Good Nobody) (λ lines v g. g) p (opens p) (blank_world p script)
    (less-from (Only environment) (opens p) (blank_world p script)
    (keeps-from (chains first) (opens p) (blank_world p script) (blank-good p script) (opens-keeps p)))

-- ---- tocks

silently-leads : (f : World → World) → Alters (Good Nobody) (Behind (Good Nobody)) f → Leads (Good Nobody) (BehindMove (Good Nobody)) (silently f)
unfolding Leads Alters
silently-leads f a w good = a w good

say-leads : (event : Event) → Leads (Good Nobody) (BehindMove (Good Nobody)) (say event)
unfolding Leads
say-leads event w good = good

says_run-test : (same : Bool) (name : Who) → Leads (Good Nobody) (BehindMove (Good Nobody)) (cond same rests (say (written.Run name)))
unfolding Leads
says_run-test true name w good = good
says_run-test false name w good = say-leads (written.Run name) w good

says_idle-leads : (ran : Option Who) → Leads (Good Nobody) (BehindMove (Good Nobody)) (says_idle ran)
unfolding Leads
says_idle-leads None w good = good
says_idle-leads (Some name) w good = say-leads written.Idle w good

serve_if_free-good : (serving : Option Release) (frames : List Frame) (releases : List Release) (w : World) → Good Nobody w
    → Good Nobody (serve_if_free serving frames releases w).0
serve_if_free-good None [] [] w good = good
serve_if_free-good None [] (r ∷ rest) w good = good
serve_if_free-good None (f ∷ fs) releases w good = good
serve_if_free-good (Some r) frames releases w good = good

serve-leads : (name : Who) → Leads (Good Nobody) (BehindMove (Good Nobody)) (serve name)
unfolding Leads
serve-leads (who.Task t) w good = good
serve-leads who.Agent w good = serve_if_free-good w.serving w.agent.frames w.releases w good

begin_action-alters : (p : Image) (name : Who) → Alters (Good Nobody) (Behind (Good Nobody)) (begin_action p name)
unfolding Alters
begin_action-alters p name w good =
    beside.edits_task name (with_ticks (Some (unwrap_or (task_of w name).ticks_left (cost p w name)))) w good (λ t. refl) (λ t. refl) (λ t. refl) (λ t. refl)
    (λ t. refl)

spend_tick-alters : (name : Who) → Alters (Good Nobody) (Behind (Good Nobody)) (spend_tick name)
unfolding Alters
spend_tick-alters name w good =
    beside.edits_task name (λ t. with_ticks (one_tick_less t.ticks_left) t) w good (λ t. refl) (λ t. refl) (λ t. refl) (λ t. refl) (λ t. refl)

before_tick-leads : (p : Image) (chosen : Option Who) → Leads (Good Nobody) (BehindMove (Good Nobody)) (before_tick p chosen)
before_tick-leads p None = watches-leads (move_chains beside) _ (λ w. says_idle-leads w.ran)
before_tick-leads p (Some name) =
    then-leads (move_chains beside) _ _ (watches-leads (move_chains beside) _ (λ w. says_run-test (same_option same_who w.ran (Some name)) name))
    (then-leads (move_chains beside) _ _ (serve-leads name)
    (then-leads (move_chains beside) _ _ (silently-leads (begin_action p name) (begin_action-alters p name))
    (then-leads (move_chains beside) _ _ (silently-leads (charge p name) (charge-alters beside p name))
    (silently-leads (spend_tick name) (spend_tick-alters name)))))

pub tock-good : (p : Image) (w : World) → Good Nobody w → Good Nobody (tock p w).0
unfolding Leads
tock-good p w good = subst (λ (t : World × List Event). Good Nobody t.0) (sym (tock-parts p w)) (before_tick-leads p (choose w) w good)
