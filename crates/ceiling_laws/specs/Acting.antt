-- While an effect goes on: what its lines so far will show of levels, in their order.
use Rattle.std.specs.Prelude.{◌≡◌, ◌⊎◌, ℕ, false, List, Option, Some, None}
use Rattle.trace_text.specs.declared.events.Who.{Who}
use Rattle.trace_text.specs.Laws.{Levels}
use Rattle.profile_image.specs.declared.image.Image.{Image}
use Rattle.profile_machine.specs.declared.world.World.{World}
use Rattle.profile_machine.specs.declared.world.lines.Part.{Part}
use Rattle.profile_machine.specs.declared.world.lines.Part.TheVariants.{TheBlock, ThePlacing}
use Rattle.profile_machine.specs.declared.world.lines.Said.{Said}
use Rattle.profile_machine.specs.declared.world.tasks.Cause.{Cause}
use Rattle.profile_machine.specs.declared.world.tasks.State.TheVariants.{Runnable}
use Rattle.profile_machine.specs.declared.world.tasks.Waiting.{Waiting}
use Rattle.profile_machine.specs.Steps.{Done, done, is_part_before}
use Rattle.profile_machine.specs.Dispatching.{active_of, block, ready, to_head, to_tail}
use Rattle.profile_machine.specs.Inheritance.{inherit_running, lose_running}
use Rattle.profile_machine.specs.Priorities.{set_base}
use Rattle.profile_machine.specs.Tasking.{says_done}
use Rattle.profile_machine.specs.Tasks.{task_of}
use Rattle.ceiling_laws.specs.PlaceLaws.{IsAtMost, level_shown}
use Rattle.ceiling_laws.specs.Puts.{last_put, place_by}

-- A line of this part is not hidden: what was said last of somebody is of no later part, or it stands nowhere.
abbrev pub MayBePlaced : Part → Option (Part × Option ℕ) → Type 0
MayBePlaced part None = Unit {0}
MayBePlaced part (Some last) = (last.1 ≡ None) ⊎ (is_part_before part last.0 ≡ false)

-- nobody is above its active priority, and nobody is placed in a part behind the placing of who acts
abbrev pub AreLow : Image → Levels → World → List Said → Type 0
AreLow p sight w said = (name : Who) → MayBePlaced ThePlacing (last_put name said)
    × IsAtMost (place_by (last_put name said) (level_shown name sight)) (active_of p w name)

abbrev pub LeadsLow : Image → Levels → Done → Type 0
LeadsLow p sight (done w said) = AreLow p sight w said

-- It stays so where somebody becomes ready in a part in which its line is not hidden,
abbrev pub ReadyLeavesLow : Type 0
ReadyLeavesLow = (p : Image) (sight : Levels) (part : Part) (name : Who) (w : World) (said : List Said)
    → is_part_before ThePlacing part ≡ false → MayBePlaced part (last_put name said) → AreLow p sight w said
    → LeadsLow p sight (ready p part name w said)

-- where it goes to the tail or to the head of its level in such a part,
abbrev pub PlacingLeavesLow : Type 0
PlacingLeavesLow = (p : Image) (sight : Levels) (part : Part) (name : Who) (w : World) (said : List Said)
    → is_part_before ThePlacing part ≡ false → MayBePlaced part (last_put name said) → AreLow p sight w said
    → LeadsLow p sight (to_tail p part name w said) × LeadsLow p sight (to_head p part name w said)

-- where somebody blocks,
abbrev pub BlockLeavesLow : Type 0
BlockLeavesLow = (p : Image) (sight : Levels) (name : Who) (waiting : Waiting) (w : World) (said : List Said)
    → AreLow p sight w said → LeadsLow p sight (block TheBlock name waiting w said)

-- where who acts inherits a priority or loses one,
abbrev pub InheritanceLeavesLow : Type 0
InheritanceLeavesLow =
    (p : Image) (sight : Levels) (name : Who) (cause : Cause) (level : ℕ) (w : World) (said : List Said)
    → AreLow p sight w said → LeadsLow p sight (inherit_running p name cause level w said)

abbrev pub LossLeavesLow : Type 0
LossLeavesLow = (p : Image) (sight : Levels) (name : Who) (cause : Cause) (w : World) (said : List Said)
    → AreLow p sight w said → LeadsLow p sight (lose_running p name cause w said)

-- where the base priority of somebody who is ready is set, and it is placed anew in such a part,
abbrev pub BaseLeavesLow : Type 0
BaseLeavesLow =
    (p : Image) (sight : Levels) (part placing : Part) (name : Who) (level : ℕ) (w : World) (said : List Said)
    → (task_of w name).state ≡ Runnable → is_part_before ThePlacing placing ≡ false
    → MayBePlaced placing (last_put name said)
    → AreLow p sight w said → LeadsLow p sight (set_base p part placing name level w said)

-- and where somebody has ended.
abbrev pub EndLeavesLow : Type 0
EndLeavesLow = (p : Image) (sight : Levels) (part : Part) (name : Who) (w : World) (said : List Said)
    → AreLow p sight w said → LeadsLow p sight (says_done part name w said)
