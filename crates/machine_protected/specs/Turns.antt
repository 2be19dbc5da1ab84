-- The service of queued calls, turn by turn.
use Rattle.std.specs.Prelude.{◌≡◌, Bool, true, false, Option}
use Rattle.ann_base.specs.declared.exceptions.Raised.TheVariants as exception
use Rattle.ann_base.specs.declared.identities.CallNo.{CallNo}
use Rattle.trace_text.specs.declared.events.Who.{Who}
use Rattle.profile_image.specs.declared.image.Image.{Image}
use Rattle.profile_machine.specs.declared.world.calls.Call.{Call}
use Rattle.profile_machine.specs.declared.world.calls.Outcome.TheVariants as call_ended
use Rattle.profile_machine.specs.declared.world.marks.ProtectedMark.{ProtectedMark}
use Rattle.profile_machine.specs.Steps.{Step, looks, ◌▷◌, when}
use Rattle.profile_machine.specs.CallEnds.{deliver}
use Rattle.profile_machine.specs.Protected.{served_next, serve_call}
use Rattle.profile_machine.specs.Serving.{chosen_is_sent, settle_sent, serve_chosen, part_of_start, begins_part}
use Rattle.profile_machine.specs.Values.{object_of}
use Rattle.machine_frames.specs.declared.effects.Effect.{Effect}

-- a call is served, with what is done behind it where there is no room for the body
abbrev pub serving : Image → Who → ProtectedMark → Bool → CallNo → Call → Step → Step
serving p name m is_sent c d again =
    serve_call p (part_of_start is_sent) name m.object d (begins_part p is_sent c)
    (deliver p (part_of_start is_sent) c (call_ended.ToRaise exception.Storage) ▷ again)

-- one turn, with what is done behind it
abbrev pub turn : Image → Who → ProtectedMark → Option CallNo → Step → Step
turn p name m sent again =
    looks (λ w.
    let chosen = served_next p w name (object_of w m.object) in
    settle_sent p sent (chosen_is_sent sent chosen) ▷ serve_chosen p name m (chosen_is_sent sent chosen) again chosen)

-- a step that is handed a rest has been done up to it, or, where the rest is not done, to its end
abbrev pub Leads : Bool → (Step → Step) → Effect → Effect → Type 0
Leads again step before after = (rest : Step)
    → step rest before.world before.said ≡ when again rest after.world after.said
