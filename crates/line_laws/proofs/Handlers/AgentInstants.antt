-- Instants keep the agent ready exactly where it has something to serve, and what their lines make of its place is whether it is
-- ready behind them.
use Rattle.std.proofs.Common.{◌≡◌, ℤ, Bool, true, false, List, [], ◌++◌, Option, Some, None, refl, sym, ap, subst, ◌∙◌}
use Rattle.trace_text.specs.declared.events.Created.TheVariants as created
use Rattle.trace_text.specs.declared.events.Event.{Event}
use Rattle.trace_text.specs.declared.events.Who.{Who}
use Rattle.trace_text.specs.declared.events.Who.TheVariants as who
use Rattle.profile_image.specs.declared.image.Image.{Image}
use Rattle.profile_image.specs.declared.script_items.Item.{Item}
use Rattle.profile_machine.specs.declared.world.World.{World}
use Rattle.profile_machine.specs.declared.world.lines.Line.TheVariants as said
use Rattle.profile_machine.specs.declared.world.lines.Part.TheVariants.{Own}
use Rattle.profile_machine.specs.declared.world.marks.Purpose.TheVariants as opened_for
use Rattle.profile_machine.specs.Steps.{Step, Move, Done, done, placed_by, settled, settles, rests, ◌▶◌}
use Rattle.profile_machine.specs.Scopes.{plainly}
use Rattle.profile_machine.specs.Tasks.{task_of}
use Rattle.profile_machine.specs.Instant.{effect, is_over, effect_of_runner, finish_action, script_items}
use Rattle.profile_machine.specs.Instant.{events_due, moments_due, timers_due, budgets_due, quantum_spent, instant}
use Rattle.profile_machine.specs.Run.{environment, blank_world, opens, opening}
use Rattle.machine_laws.proofs.Moves.{lines_of}
use Rattle.machine_laws.proofs.FineMoves.{natures}
use Rattle.machine_laws.proofs.Kept.Dispatching.{to_tail-keeps}
use Rattle.machine_laws.proofs.Kept.Frames.{open_sequence-keeps}
use Rattle.machine_laws.proofs.Kept.Scopes.{open_scope-alters}
use Rattle.machine_laws.proofs.Kept.Instant.{behind_action-leads}
use Rattle.line_laws.proofs.Handlers.AgentLines.{placed_behind, placed_behind-append}
use Rattle.line_laws.proofs.Handlers.AgentWorlds.{Colour, Apart}
use Rattle.line_laws.proofs.Handlers.SparedMoves.{agent_runs, Spared, SparedMove, spares, spared_settings, spared_openings}
use Rattle.line_laws.proofs.Handlers.SparedReleases.{spared_releasing}
use Rattle.line_laws.proofs.Handlers.Mixed.{from_by, keeps_at}
use Rattle.line_laws.proofs.Handlers.Attending.{Marked, Attending, Acted, placing-lines, spared-acted}
use Rattle.line_laws.proofs.Handlers.AgentActs.{agent_effect-from}
use Rattle.line_laws.proofs.Handlers.TaskActs.{task_effect-from}
use Rattle.machine_laws.proofs.FinestMoves.{chains, says-keeps}
use Rattle.machine_laws.proofs.Kept.Combinators.{From, Keeps, Kept, Leads, changes-keeps, then-keeps}

-- ---- moves

pub record Attended (before : World) (lines : List Event) (after : World) : Type 0 where
  pub attending : Attending after
  pub placed : placed_behind (agent_runs before) lines ≡ agent_runs after

attended-rests : (w : World) → Attending w → Attended w [] w
attended-rests w h = record { attending = h; placed = refl }

attended-then : (a b c : World) (xs ys : List Event) → Attended a xs b → Attended b ys c → Attended a (xs ++ ys) c
attended-then a b c xs ys h k = record {
  attending = k.attending;
  placed = placed_behind-append (agent_runs a) xs ys ∙ ap (λ q. placed_behind q ys) h.placed ∙ k.placed;
}

attending-placed : (lines : List Event) (w : World) → Attending w → Attending (placed_by lines w)
attending-placed lines w h = record {
  colour = h.colour;
  apart = record { tasks = h.apart.tasks; marks = h.apart.marks; attends = h.apart.attends; drawn = h.apart.drawn; none = h.apart.none };
  marks = h.marks;
  attends = h.attends;
}

settled-attended : (p : Image) (w : World) (d : Done) → Kept Acted w [] d → Attended w (settled p d).1 (settled p d).0
unfolding Kept
settled-attended p w (done v ys) k =
    let acted : Acted w ys v = subst (λ xs. Acted w xs v) (sym k.1) k.2 in
    record { attending = attending-placed (lines_of p ys) v acted.attending; placed = placing-lines p (agent_runs w) ys (agent_runs v) acted.placing }

settles-attended : (p : Image) (step : Step) (w : World) → From Acted w step → Attended w (settles p step w).1 (settles p step w).0
unfolding From
settles-attended p step w a = settled-attended p w (step w []) (a [])

spared-attended : (colour : Colour) (a b : World) (lines : List Event) → Attending a → SparedMove colour a lines b → Attended a lines b
spared-attended colour a b lines h s = record {
  attending = record {
    colour = colour;
    apart = s.apart;
    marks = subst (λ ns. Marked b.serving ns) (sym s.marks_same) (subst (λ r. Marked r (natures a.agent.frames)) (sym s.serving_same) h.marks);
    attends = s.attends h.attends;
  };
  placed = s.placed;
}

-- ---- the effect of the action that ended

effect-from : (p : Image) (name : Who) (w : World) → Attending w → From Acted w (effect p name)
effect-from p (who.Task n) w h =
    from_by (Spared h.colour true) Acted (effect p (who.Task n)) w (λ v xs s. spared-acted h.colour w v xs h s) (task_effect-from h.colour p n w h.apart)
effect-from p who.Agent w h = agent_effect-from p w h

by_ticks-attended : (p : Image) (name : Who) (test : Bool) (w : World) → Attending w →
    let m = (elim test as (λ _. Move) [ true ↦ settles p (effect p name) | false ↦ rests ]) w in
    Attended w m.1 m.0
by_ticks-attended p name true w h = settles-attended p (effect p name) w (effect-from p name w h)
by_ticks-attended p name false w h = attended-rests w h

by_runner-attended : (p : Image) (ran : Option Who) (w : World) → Attending w → Attended w (effect_of_runner p ran w).1 (effect_of_runner p ran w).0
by_runner-attended p None w h = attended-rests w h
by_runner-attended p (Some name) w h = by_ticks-attended p name (is_over (task_of w name).ticks_left) w h

-- ---- instants

behind-attended : (p : Image) (w : World) → Attending w →
    let m = (script_items p ▶ events_due p ▶ moments_due p ▶ timers_due p ▶ budgets_due p ▶ quantum_spent p) w in
    Attended w m.1 m.0
unfolding Leads
behind-attended p w h =
    let m = (script_items p ▶ events_due p ▶ moments_due p ▶ timers_due p ▶ budgets_due p ▶ quantum_spent p) w in
    spared-attended h.colour w m.0 m.1 h (behind_action-leads (spares h.colour true) (spared_settings h.colour true) (spared_releasing h.colour) p w h.apart)

pub instant-attended : (p : Image) (w : World) → Attending w → Attended w (instant p w).1 (instant p w).0
instant-attended p w h =
    let first = finish_action p w in
    let behind = (script_items p ▶ events_due p ▶ moments_due p ▶ timers_due p ▶ budgets_due p ▶ quantum_spent p) first.0 in
    let a = by_runner-attended p w.ran w h in
    attended-then w first.0 behind.0 first.1 behind.1 a (behind-attended p first.0 a.attending)

-- ---- the opening

nothing_coloured : Colour
nothing_coloured k = false

blank-attending : (p : Image) (script : List (ℤ × Item)) → Attending (blank_world p script)
unfolding nothing_coloured
blank-attending p script = record {
  colour = nothing_coloured;
  apart = record { tasks = (record { named = tt; marks = tt; master = tt }, tt); marks = tt; attends = tt; drawn = λ k e. cc; none = refl };
  marks = refl;
  attends = refl;
}

opens-keeps : (colour : Colour) (p : Image) → Keeps (Apart colour) (Spared colour true) (opens p)
unfolding opens
opens-keeps colour p =
    let moves = spares colour true in
    then-keeps (chains moves) _ _
    (changes-keeps (chains moves) _ (open_scope-alters (spared_openings colour true) p environment p.environment (plainly None) opened_for.Task tt))
    (then-keeps (chains moves) _ _ (says-keeps moves Own (said.New (created.Task (record { 0 = 0 })) None p.main.priority) refl)
    (then-keeps (chains moves) _ _ (to_tail-keeps moves p Own environment tt) (open_sequence-keeps moves p Own environment tt)))

pub opening-attended : (p : Image) (script : List (ℤ × Item)) → Attended (blank_world p script) (opening p script).1 (opening p script).0
opening-attended p script =
    let w = blank_world p script in
    let h = blank-attending p script in
    settles-attended p (opens p) w
    (from_by (Spared h.colour true) Acted (opens p) w (λ v xs s. spared-acted h.colour w v xs h s)
    (keeps_at (Apart h.colour) (Spared h.colour true) (opens p) w h.apart (opens-keeps h.colour p)))
