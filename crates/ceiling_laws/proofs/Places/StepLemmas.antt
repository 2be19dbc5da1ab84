-- What single steps say of the place of somebody.
use Rattle.std.proofs.Common.{cond, List, Some, None, ap, ◌∙◌}
use Rattle.trace_text.specs.declared.events.QueueEnd.{QueueEnd}
use Rattle.trace_text.specs.declared.events.QueueEnd.TheVariants.{Head, Tail}
use Rattle.trace_text.specs.declared.events.Who.{Who}
use Rattle.profile_image.specs.declared.image.Image.{Image}
use Rattle.profile_machine.specs.declared.world.World.{World}
use Rattle.profile_machine.specs.declared.world.lines.Line.TheVariants as line
use Rattle.profile_machine.specs.declared.world.lines.Part.{Part}
use Rattle.profile_machine.specs.declared.world.lines.Said.{Said}
use Rattle.profile_machine.specs.declared.world.tasks.State.TheVariants.{Runnable}
use Rattle.profile_machine.specs.Dispatching.{active, active_of, block, deadline_shown, grant_quantum, keep_level}
use Rattle.profile_machine.specs.Dispatching.{ready, says_block, says_ready, to_head, to_tail, word_of}
use Rattle.profile_machine.specs.Tasks.{edit_task, task_of, with_state}
use Rattle.ceiling_laws.proofs.Places.PartOrder.{last_put-append}
use Rattle.ceiling_laws.specs.PlaceLaws.{BlockTakesOut, HeadPlaces, PlacesAtActive, ReadyPlaces, TailPlaces}
use Rattle.ceiling_laws.specs.Puts.{last_put, with_put}
use Rattle.line_laws.proofs.Leaving.TaskLemmas.{same_self}

pub says_ready_places : (p : Image) (part : Part) (name : Who) (end : QueueEnd) (w : World) (said : List Said)
    → PlacesAtActive p part name said (says_ready p part name end w said)
unfolding says_ready
says_ready_places p part name end w said =
    last_put-append name said (record { part = part; line = line.Ready name (active p (task_of w name)) end (deadline_shown p (task_of w name)) })
    ∙ ap (λ b. with_put (last_put name said) part (cond b (Some (Some (active_of p w name))) None)) (same_self name)

pub tail_places : TailPlaces
unfolding to_tail
tail_places p part name w said = says_ready_places p part name Tail (grant_quantum p name w) said

pub head_places : HeadPlaces
unfolding to_head
head_places p part name w said = says_ready_places p part name Head w said

pub ready_places : ReadyPlaces
unfolding ready
ready_places p part name w said = tail_places p part name (keep_level p name (edit_task name (with_state Runnable) w)) said

pub block_takes_out : BlockTakesOut
unfolding block says_block
block_takes_out part name waiting w said =
    last_put-append name said (record { part = part; line = line.Block name (word_of waiting) })
    ∙ ap (λ b. with_put (last_put name said) part (cond b (Some None) None)) (same_self name)
