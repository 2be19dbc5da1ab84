-- An action that asks for nothing is calm, and so is what comes of an effect behind its action.
use Rattle.std.proofs.Common.{◌≡◌, refl, sym, ap, ◌∙◌, Bool, true}
use Rattle.std.specs.Prelude.{Option, Some, None, option_and_then}
use Rattle.trace_text.specs.declared.events.Who.{Who}
use Rattle.trace_text.specs.declared.events.Who.TheVariants as who
use Rattle.profile_image.specs.declared.image.Image.{Image}
use Rattle.profile_image.specs.declared.numbers.StatementNo.{StatementNo}
use Rattle.profile_machine.specs.declared.world.marks.Frame.{Frame}
use Rattle.profile_machine.specs.declared.world.appointments.Release.{Release}
use Rattle.profile_machine.specs.declared.world.World.{World}
use Rattle.profile_image.specs.Program.{form_of}
use Rattle.profile_machine.specs.Tasking.{take_terminates, unwind_all}
use Rattle.profile_machine.specs.Steps.{◌▷◌}
use Rattle.profile_machine.specs.Frames.{onward_of, open_if_ready, leaving_of}
use Rattle.profile_machine.specs.Act.{act_without, act}
use Rattle.profile_machine.specs.Steps.{◌▷◌}
use Rattle.machine_laws.proofs.Moves.{Puts}
use Rattle.machine_laws.proofs.FineMoves.{AnyWorld}
use Rattle.machine_laws.proofs.Kept.Frames.{open_if_ready-keeps}
use Rattle.machine_laws.proofs.Kept.Serving.{end_in_protected-from, ending, stays_anyhow}
use Rattle.machine_laws.proofs.Kept.Tasking.{take_terminates-keeps, unwind_all-keeps}
use Rattle.machine_laws.proofs.Kept.Handlers.{call_handler-keeps}
use Rattle.machine_laws.proofs.Kept.Act.{asks_nothing, calm_statement-keeps, act-from}
use Rattle.release_laws.proofs.Untouched.{Calmly, calm, calm_openings, calm_regions, calm_ends, calm_handlers}
use Rattle.machine_laws.proofs.FinestMoves.{chains}
use Rattle.machine_laws.proofs.Kept.Combinators.{From, Keeps, keeps-from, nothing-keeps, then-keeps}

abbrev pub comes_to_nothing : Image → Option StatementNo → Bool
comes_to_nothing p None = true
comes_to_nothing p (Some s) = asks_nothing (form_of p s)

act_without-keeps : (p : Image) (name : Who) (release : Option Release) → Keeps AnyWorld Calmly (act_without p name release)
unfolding act_without
act_without-keeps p name None = nothing-keeps (chains calm)
act_without-keeps p who.Agent (Some r) = call_handler-keeps calm calm_openings calm_handlers p r
act_without-keeps p (who.Task t) (Some r) = nothing-keeps (chains calm)

pub act-calm : (p : Image) → Puts AnyWorld Calmly p → (name : Who) (w : World) → comes_to_nothing p (onward_of w name) ≡ true → From Calmly w (act p name)
act-calm p puts name w nothing_asked =
    act-from calm calm_openings calm_regions p name w tt tt
    (keeps-from (chains calm) _ w tt (act_without-keeps p name w.serving))
    (λ f s top is. keeps-from (chains calm) _ w tt (calm_statement-keeps calm calm_openings p puts name s (form_of p s) tt refl
    (sym (ap (λ found. comes_to_nothing p (option_and_then (λ (g : Frame). g.onward) found)) top ∙ ap (comes_to_nothing p) is) ∙ nothing_asked)))
    (λ f m top is. end_in_protected-from calm calm_openings calm_ends (ending calm calm_handlers) stays_anyhow p name m (leaving_of f) tt tt w tt tt)

pub behind_act-keeps : (p : Image) (name : Who) → Keeps AnyWorld Calmly (open_if_ready p name ▷ take_terminates p name ▷ unwind_all p name)
behind_act-keeps p name =
    then-keeps (chains calm) _ _ (open_if_ready-keeps calm p name tt)
    (then-keeps (chains calm) _ _ (take_terminates-keeps calm p name tt) (unwind_all-keeps calm p name))
