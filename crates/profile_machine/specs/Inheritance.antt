-- Inherited priorities (D.1, D.3): each under its cause.
use Rattle.std.specs.Prelude.{ℕ, Bool, true, false, ◌∷◌, ltb}
use Rattle.trace_text.specs.declared.events.Who.{Who}
use Rattle.profile_image.specs.declared.image.Image.{Image}
use Rattle.profile_machine.specs.declared.world.World.{World}
use Rattle.profile_machine.specs.declared.world.tasks.Cause.{Cause}
use Rattle.profile_machine.specs.declared.world.tasks.Cause.TheVariants as inherited_by
use Rattle.profile_image.specs.Words.{same_call, same_object, without}
use Rattle.profile_machine.specs.declared.world.lines.Part.TheVariants.{ThePlacing}
use Rattle.profile_machine.specs.Steps.{Step, changes, looks, when, ◌▷◌}
use Rattle.profile_machine.specs.Tasks.{edit_task}
use Rattle.profile_machine.specs.Dispatching.{active_of, to_head}

abbrev pub same_cause : Cause → Cause → Bool
same_cause inherited_by.Activation inherited_by.Activation = true
same_cause inherited_by.Activation (inherited_by.Rendezvous d) = false
same_cause inherited_by.Activation (inherited_by.Ceiling q) = false
same_cause (inherited_by.Rendezvous c) inherited_by.Activation = false
same_cause (inherited_by.Rendezvous c) (inherited_by.Rendezvous d) = same_call c d
same_cause (inherited_by.Rendezvous c) (inherited_by.Ceiling q) = false
same_cause (inherited_by.Ceiling o) inherited_by.Activation = false
same_cause (inherited_by.Ceiling o) (inherited_by.Rendezvous d) = false
same_cause (inherited_by.Ceiling o) (inherited_by.Ceiling q) = same_object o q

abbrev pub inherit : Who → Cause → ℕ → World → World
inherit name cause level =
    edit_task name (λ t. record t { inherited = record { cause = cause; level = level } ∷ t.inherited })

abbrev pub lose : Who → Cause → World → World
lose name cause = edit_task name (λ t. record t { inherited = without (λ i. same_cause cause i.cause) t.inherited })

-- whether the change of a world makes the active priority of somebody rise, or fall
abbrev pub rises : Image → Who → World → World → Bool
rises p name before after = ltb (active_of p before name) (active_of p after name)

abbrev pub falls : Image → Who → World → World → Bool
falls p name before after = ltb (active_of p after name) (active_of p before name)

-- the running task inherits: it goes to the head where its active priority rises (D.2.3)
unfoldable pub inherit_running : Image → Who → Cause → ℕ → Step
inherit_running p name cause level =
    looks (λ w. changes (inherit name cause level)
    ▷ when (rises p name w (inherit name cause level w)) (to_head p ThePlacing name))

-- it loses an inherited priority: it goes to the head where its active priority falls
unfoldable pub lose_running : Image → Who → Cause → Step
lose_running p name cause =
    looks (λ w. changes (lose name cause) ▷ when (falls p name w (lose name cause w)) (to_head p ThePlacing name))
