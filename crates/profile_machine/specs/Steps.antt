-- A step of an effect leads from a world to a world and says lines. The lines of one effect are put in order when
-- it is over, and then the ready queues follow them.
use Rattle.std.specs.Prelude.{ℕ, ℤ, Bool, true, false, cond, ◌&&◌, ◌||◌, List, []}
use Rattle.std.specs.Prelude.{◌∷◌, ◌++◌, Option, Some, None, eqb, ltb, int_lt, map}
use Rattle.trace_text.specs.declared.events.Event.{Event}
use Rattle.trace_text.specs.declared.events.Event.TheVariants as written
use Rattle.trace_text.specs.declared.events.Who.{Who}
use Rattle.trace_text.specs.declared.events.Who.TheVariants.{Task, Agent}
use Rattle.trace_text.specs.declared.events.QueueEnd.{QueueEnd}
use Rattle.trace_text.specs.declared.events.QueueEnd.TheVariants.{Head, Tail}
use Rattle.profile_image.specs.declared.image.Image.{Image}
use Rattle.profile_machine.specs.declared.world.World.{World}
use Rattle.profile_machine.specs.declared.world.lines.Line.{Line}
use Rattle.profile_machine.specs.declared.world.lines.Part.{Part}
use Rattle.profile_machine.specs.declared.world.lines.Part.TheVariants.{TheCall, TheFinish, Own}
use Rattle.profile_machine.specs.declared.world.lines.Part.TheVariants.{OfOther, ThePlacing, TheBlock}
use Rattle.profile_machine.specs.declared.world.lines.Said.{Said}
use Rattle.profile_machine.specs.declared.world.tasks.Placed.{Placed}
use Rattle.profile_image.specs.Words.{same_who, without}
use Rattle.profile_machine.specs.Lines.{event_of}

-- ---- what a step leads to

-- what a step leads to: the world behind it, and all that the effect has said up to its end
pub data Done : Type 0 where
  done : World → List Said → Done

-- A step of an effect goes on from a world and from what the effect has said before it. The steps that have names are
-- opaque: a proof opens the one that it speaks of, and `computing` opens them all.
abbrev pub Step : Type 0
Step = World → List Said → Done

-- a part of an instant: its lines are in order, and the ready queues have followed them
abbrev pub Move : Type 0
Move = World → World × List Event

-- one after the other
abbrev pub goes_on_with : Step → Done → Done
goes_on_with g (done w said) = g w said

infixr 20 ◌▷◌
abbrev pub ◌▷◌ : Step → Step → Step
(f ▷ g) w said = goes_on_with g (f w said)

-- nothing is done
abbrev pub nothing : Step
nothing w said = done w said

-- the world changes and nothing is said
abbrev pub changes : (World → World) → Step
changes f w said = done (f w) said

-- a line is said
abbrev pub says : Part → Line → Step
says part line w said = done w (said ++ record { part = part; line = line } ∷ [])

-- a step that looks at the world in which it is done
abbrev pub looks : (World → Step) → Step
looks f w = f w w

-- the step is done where the test holds
abbrev pub when : Bool → Step → Step
when true step = step
when false step = nothing

-- the step is done with what is there
abbrev pub for_some : {X : Type 0} → Option X → (X → Step) → Step
for_some None f = nothing
for_some (Some x) f = f x

-- the step is done for each, in order
abbrev pub for_each : {X : Type 0} → List X → (X → Step) → Step
for_each [] f = nothing
for_each (x ∷ xs) f = f x ▷ for_each xs f

-- ---- their order

abbrev pub rank_of : Part → ℕ
rank_of TheCall = 0
rank_of TheFinish = 1
rank_of Own = 2
rank_of (OfOther who) = 3
rank_of ThePlacing = 4
rank_of TheBlock = 5

-- tasks stand by number, and the agent behind them
abbrev pub is_numbered_before : Who → Who → Bool
is_numbered_before (Task a) (Task b) = ltb a.0 b.0
is_numbered_before (Task a) Agent = true
is_numbered_before Agent (Task b) = false
is_numbered_before Agent Agent = false

-- whether lines of the first part stand before those of the second
abbrev pub is_part_before : Part → Part → Bool
is_part_before (OfOther a) (OfOther b) = is_numbered_before a b
is_part_before a b = ltb (rank_of a) (rank_of b)

-- a line takes its place before the first that it does not stand behind
abbrev pub put_in_order : Said → List Said → List Said
put_in_order said [] = said ∷ []
put_in_order said (x ∷ xs) = cond (is_part_before x.part said.part) (x ∷ put_in_order said xs) (said ∷ x ∷ xs)

-- the lines by their parts; those of one part as they came about
abbrev pub in_order : List Said → List Said
in_order [] = []
in_order (x ∷ xs) = put_in_order x (in_order xs)

-- ---- the ready queues (D.2.1): one list, the head of the highest level first

-- an entry without a deadline counts as later than all
abbrev pub is_deadline_before : Option ℤ → Option ℤ → Bool
is_deadline_before (Some a) (Some b) = int_lt a b
is_deadline_before (Some a) None = true
is_deadline_before None (Some b) = false
is_deadline_before None None = false

-- a higher level, or the same and an earlier deadline
abbrev pub is_above : Placed → Placed → Bool
is_above a b = ltb b.level a.level || (eqb a.level b.level && is_deadline_before a.deadline b.deadline)

-- behind all that are not below it
abbrev pub put_at_tail : Placed → List Placed → List Placed
put_at_tail new [] = new ∷ []
put_at_tail new (x ∷ xs) = cond (is_above new x) (new ∷ x ∷ xs) (x ∷ put_at_tail new xs)

-- before all that are not above it
abbrev pub put_at_head : Placed → List Placed → List Placed
put_at_head new [] = new ∷ []
put_at_head new (x ∷ xs) = cond (is_above x new) (x ∷ put_at_head new xs) (new ∷ x ∷ xs)

abbrev pub put_at : QueueEnd → Placed → List Placed → List Placed
put_at Tail = put_at_tail
put_at Head = put_at_head

abbrev pub take_out : Who → List Placed → List Placed
take_out who = without (λ x. same_who who x.who)

-- the ready queues behind a line: `ready` places, `block` and `done` take out, no other line moves anybody
abbrev pub places_after : Event → List Placed → List Placed
places_after (written.Ready who level end deadline) places =
    put_at end (record { who = who; level = level; deadline = deadline }) (take_out who places)
places_after (written.Block who waits) places = take_out who places
places_after (written.Done task) places = take_out (Task task) places
places_after _ places = places

abbrev pub places_after_all : List Event → List Placed → List Placed
places_after_all [] places = places
places_after_all (x ∷ xs) places = places_after_all xs (places_after x places)

-- ---- an effect is over

abbrev pub placed_by : List Event → World → World
placed_by lines w = record w { places = places_after_all lines w.places }

-- its lines are put in order and written with their names, and the ready queues follow them
abbrev pub settled : Image → Done → World × List Event
settled p (done w said) =
    let lines = map (λ x. event_of p x.line) (in_order said) in
    (placed_by lines w, lines)

-- an effect is a move: a step that begins with nothing said
abbrev pub settles : Image → Step → Move
settles p step w = settled p (step w [])

-- ---- moves that are put together

-- one after the other
infixr 20 ◌▶◌
abbrev pub ◌▶◌ : Move → Move → Move
(f ▶ g) w =
    let a = f w in
    let b = g a.0 in
    (b.0, a.1 ++ b.1)

-- nothing is done
abbrev pub rests : Move
rests w = (w, [])

-- a move that looks at the world in which it is made
abbrev pub watches : (World → Move) → Move
watches f w = f w w
