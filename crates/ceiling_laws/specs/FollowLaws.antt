-- Whose active priority or deadline is changed is placed anew: the steps that change one say `ready` with the entry as
-- it then is, or leave the entry as it was (D.2.3, D.2.6, D.5.1). An object has the ceiling that its `new` line tells
-- (D.3).
use Rattle.std.specs.Prelude.{◌≡◌, ℕ, suc, ℤ, ◌≤◌, Bool, true, false, not, IsTrue, List, [], ◌∷◌, ◌++◌, Some}
use Rattle.std.specs.List.{list_all}
use Rattle.ann_base.specs.declared.identities.ObjectNo.{ObjectNo}
use Rattle.trace_text.specs.declared.events.Created.TheVariants as created
use Rattle.trace_text.specs.declared.events.QueueEnd.{QueueEnd}
use Rattle.trace_text.specs.declared.events.Who.{Who}
use Rattle.profile_image.specs.declared.image.Image.{Image}
use Rattle.profile_image.specs.declared.numbers.ProtectedUnitNo.{ProtectedUnitNo}
use Rattle.profile_machine.specs.declared.world.World.{World}
use Rattle.profile_machine.specs.declared.world.scopes.Located.{Located}
use Rattle.profile_machine.specs.declared.world.lines.Line.{Line}
use Rattle.profile_machine.specs.declared.world.lines.Line.TheVariants as line
use Rattle.profile_machine.specs.declared.world.lines.Part.{Part}
use Rattle.profile_machine.specs.declared.world.lines.Part.TheVariants.{Own}
use Rattle.profile_machine.specs.declared.world.lines.Said.{Said}
use Rattle.profile_machine.specs.declared.world.tasks.Cause.{Cause}
use Rattle.profile_machine.specs.declared.world.tasks.State.TheVariants.{Runnable}
use Rattle.profile_image.specs.Words.{same_who}
use Rattle.profile_machine.specs.Steps.{Done, done}
use Rattle.profile_machine.specs.Tasks.{task_of}
use Rattle.profile_machine.specs.Values.{object_of}
use Rattle.profile_machine.specs.Protected.{ceiling_of}
use Rattle.profile_machine.specs.Declarations.{with_object, says_object}
use Rattle.profile_machine.specs.Dispatching.{active_of, deadline_shown, to_tail, to_head, ready}
use Rattle.profile_machine.specs.Inheritance.{inherit_running, lose_running}
use Rattle.profile_machine.specs.Priorities.{set_base, set_deadline}
use Rattle.profile_machine.specs.Tasking.{fall_from}
use Rattle.ceiling_laws.specs.CeilingLaws.{entry_in}

-- the lines that place somebody, or take it out
abbrev pub is_placing : Line → Bool
is_placing (line.Ready who level end deadline) = true
is_placing (line.Block who waits) = true
is_placing (line.Done task) = true
is_placing _ = false

-- the `ready` line of somebody's entry in a world
abbrev pub ready_in : Image → World → Part → Who → QueueEnd → Said
ready_in p w part name end = record {
  part = part;
  line = line.Ready name (active_of p w name) end (deadline_shown p (task_of w name));
}

-- Of these lines none places anybody, and somebody's entry is what it was before; or the last places it at its entry.
pub data Follows (p : Image) (name : Who) (before : World) : List Said → World → Type 0 where
  stays : (lines : List Said) (after : World) → IsTrue (list_all (λ x. not (is_placing x.line)) lines)
      → entry_in p after name ≡ entry_in p before name → Follows p name before lines after
  placed : (lines : List Said) (after : World) (part : Part) (end : QueueEnd)
      → Follows p name before (lines ++ ready_in p after part name end ∷ []) after

-- what a step has led to, from this world and behind these lines
abbrev pub Followed : Image → Who → World → List Said → Done → Type 0
Followed p name before said (done after lines) = (more : List Said) × (lines ≡ said ++ more)
    × Follows p name before more after

-- nobody else's entry changes
abbrev pub OthersStay : Image → Who → World → World → Type 0
OthersStay p name before after = (other : Who) → same_who other name ≡ false
    → entry_in p after other ≡ entry_in p before other

abbrev pub LeavesOthers : Image → Who → World → Done → Type 0
LeavesOthers p name before (done after lines) = OthersStay p name before after

-- somebody's entry is followed by its line, and all others stay
abbrev pub FollowedAlone : Image → Who → World → List Said → Done → Type 0
FollowedAlone p name before said behind = Followed p name before said behind × LeavesOthers p name before behind

-- ---- of any world, and behind whatever was said

-- who becomes ready, or goes to the tail or the head
abbrev pub PlacingIsFollowed : Type 0
PlacingIsFollowed = (p : Image) (part : Part) (name : Who) (w : World) (said : List Said)
    → FollowedAlone p name w said (ready p part name w said)
    × FollowedAlone p name w said (to_tail p part name w said)
    × FollowedAlone p name w said (to_head p part name w said)

-- who inherits a priority, or loses one (D.1, D.3)
abbrev pub InheritanceIsFollowed : Type 0
InheritanceIsFollowed = (p : Image) (name : Who) (cause : Cause) (level : ℕ) (w : World) (said : List Said)
    → FollowedAlone p name w said (inherit_running p name cause level w said)
    × FollowedAlone p name w said (lose_running p name cause w said)

-- who has lost priorities since a world, as at the end of its activation (9.2)
abbrev pub FallIsFollowed : Type 0
FallIsFollowed = (p : Image) (name : Who) (before w : World) (said : List Said)
    → active_of p w name ≤ active_of p before name → (task_of w name).deadline ≡ (task_of before name).deadline
    → Followed p name before said (fall_from p name before w said)

-- a ready task whose base priority is set, or its deadline (D.5.1, D.2.6)
abbrev pub SettingIsFollowed : Type 0
SettingIsFollowed =
    (p : Image) (part placing : Part) (name : Who) (level : ℕ) (deadline : ℤ) (w : World) (said : List Said)
    → (task_of w name).state ≡ Runnable
    → FollowedAlone p name w said (set_base p part placing name level w said)
    × FollowedAlone p name w said (set_deadline p part placing name deadline w said)

-- ---- an object that is made has the number and the ceiling of the `new` line that tells it

abbrev pub ObjectsAreTold : Type 0
ObjectsAreTold = (p : Image) (l : Located) (u : ProtectedUnitNo) (w : World) (said : List Said)
    → let made = with_object p l u w in
    let n : ObjectNo = record { 0 = suc w.drawn.objects } in
    says_object p l u made said ≡ done made (said
    ++ record {
      part = Own;
      line = line.New (created.Object n) (Some l.declared) (ceiling_of (object_of made n));
    } ∷ [])
