-- Which call is served next, entry by entry.
use Rattle.std.specs.Prelude.{Option, Some, None, cond}
use Rattle.ann_base.specs.declared.identities.CallNo.{CallNo}
use Rattle.trace_text.specs.declared.events.Who.{Who}
use Rattle.profile_image.specs.declared.image.Image.{Image}
use Rattle.profile_image.specs.declared.image.Queuing.{Queuing}
use Rattle.profile_image.specs.declared.image.Queuing.TheVariants as queuing
use Rattle.profile_image.specs.declared.numbers.EntryNo.{EntryNo}
use Rattle.profile_machine.specs.declared.world.World.{World}
use Rattle.profile_machine.specs.declared.world.objects.Object.{Object}
use Rattle.profile_machine.specs.Calls.{better_of, place_of_entry}
use Rattle.profile_machine.specs.Protected.{is_open_entry}
use Rattle.profile_machine.specs.Values.{queue_at}
use Rattle.world_tables.specs.Lists.{first_of}

-- of the head of a queue and of the best of the queues that stand behind it
abbrev pub next_with : Queuing → World → Option CallNo → Option CallNo → Option CallNo
next_with policy w None behind = behind
next_with queuing.Fifo w (Some c) behind = Some c
next_with queuing.Priority w (Some c) behind = Some (better_of w c behind)

-- the same where the queue is that of an entry: it counts where the barrier is open
abbrev pub next_or : Image → World → Who → Object → EntryNo → Option CallNo → Option CallNo
next_or p w name o e behind =
    cond (is_open_entry p w name o e) (next_with p.policies.queuing w
    (first_of (queue_at o.queues (place_of_entry p e))) behind) behind
