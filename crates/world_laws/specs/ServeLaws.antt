-- Calls that are queued at a protected object are served one after another, until the body of one opens or none is left
-- (9.5.3).
use Rattle.std.specs.Prelude.{◌≡◌, ℕ, suc, ◌+◌, Bool, IsTrue, List, Option, length}
use Rattle.ann_base.specs.declared.identities.CallNo.{CallNo}
use Rattle.ann_base.specs.declared.identities.ObjectNo.{ObjectNo}
use Rattle.trace_text.specs.declared.events.Who.{Who}
use Rattle.profile_image.specs.declared.image.Image.{Image}
use Rattle.profile_machine.specs.declared.world.World.{World}
use Rattle.profile_machine.specs.declared.world.calls.Owner.TheVariants as owned_by
use Rattle.profile_machine.specs.declared.world.lines.Said.{Said}
use Rattle.profile_machine.specs.declared.world.marks.ProtectedMark.{ProtectedMark}
use Rattle.profile_machine.specs.Values.{object_of, queues_of}
use Rattle.profile_machine.specs.Serving.{serve_next, serve_calls}
use Rattle.profile_machine.specs.WellFormed.{queues_from, queues_are_right}

-- each call that is queued at the object is there, and stands in the queue of the entry to which it is directed
abbrev pub queues_are_its_own : Image → World → ObjectNo → Bool
queues_are_its_own p w o = queues_from p w (owned_by.Object o) 0 (queues_of (object_of w o))

-- the machine counts down from one more than there are calls; counted from more, the same is done and said
abbrev pub ServesEnd : Type 0
ServesEnd = (p : Image) (name : Who) (m : ProtectedMark) (w : World) → IsTrue (queues_are_its_own p w m.object)
    → (sent : Option CallNo) (more : ℕ) (said : List Said)
    → serve_next (suc (length w.calls) + more) p name m sent w said ≡ serve_calls p name m sent w said

-- where all queues are right, as they are in a world that is well formed, those of each object are its own
abbrev pub RightQueuesAreOwn : Type 0
RightQueuesAreOwn = (p : Image) (w : World) (o : ObjectNo) → IsTrue (queues_are_right p w)
    → IsTrue (queues_are_its_own p w o)
