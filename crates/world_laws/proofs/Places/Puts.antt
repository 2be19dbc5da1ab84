-- What the lines of an effect say of somebody's place, its level and the deadline shown there: the last that says something, by the
-- order of their parts.
use Rattle.profile_machine.specs.declared.world.tasks.Placed.{Placed}
use Rattle.std.specs.Prelude.{◌≡◌, ◌⊎◌, false, ℕ, ℤ, cond, List, [], ◌∷◌, Option, Some, None}
use Rattle.trace_text.specs.declared.events.Who.{Who}
use Rattle.trace_text.specs.declared.events.Who.TheVariants as who
use Rattle.profile_machine.specs.declared.world.lines.Line.{Line}
use Rattle.profile_machine.specs.declared.world.lines.Line.TheVariants as line
use Rattle.profile_machine.specs.declared.world.lines.Part.{Part}
use Rattle.profile_machine.specs.declared.world.lines.Said.{Said}
use Rattle.profile_image.specs.Words.{same_who}
use Rattle.profile_machine.specs.Steps.{is_part_before}

-- the level and the deadline of an entry
abbrev pub Spot : Type 0
Spot = ℕ × Option ℤ

-- a line places somebody at a level, or takes it out, or says nothing of its place
abbrev pub puts : Who → Line → Option (Option Spot)
puts n (line.Ready name level end deadline) = cond (same_who n name) (Some (Some (level, deadline))) None
puts n (line.Block name waits) = cond (same_who n name) (Some None) None
puts n (line.Done task) = cond (same_who n (who.Task task)) (Some None) None
puts n _ = None

-- the place behind a line, and behind lines
abbrev pub over : Option (Option Spot) → Option Spot → Option Spot
over None e = e
over (Some place) e = place

abbrev pub place_behind : Who → Option Spot → List Said → Option Spot
place_behind n e [] = e
place_behind n e (x ∷ xs) = place_behind n (over (puts n x.line) e) xs

-- of a line and what the lines behind it say last, what is said last when they are in order
abbrev pub pick : Part → Option (Option Spot) → Option (Part × Option Spot) → Option (Part × Option Spot)
pick part None last = last
pick part (Some place) None = Some (part, place)
pick part (Some place) (Some last) = cond (is_part_before last.0 part) (Some (part, place)) (Some last)

abbrev pub last_put : Who → List Said → Option (Part × Option Spot)
last_put n [] = None
last_put n (x ∷ xs) = pick x.part (puts n x.line) (last_put n xs)

-- what is said last, and one line more
abbrev pub with_put : Option (Part × Option Spot) → Part → Option (Option Spot) → Option (Part × Option Spot)
with_put last part None = last
with_put None part (Some place) = Some (part, place)
with_put (Some last) part (Some place) = cond (is_part_before part last.0) (Some last) (Some (part, place))

abbrev pub place_by : Option (Part × Option Spot) → Option Spot → Option Spot
place_by None e = e
place_by (Some last) e = last.1

-- the entry of somebody in the ready queues
abbrev pub spot_in : Who → List Placed → Option Spot
spot_in n [] = None
spot_in n (x ∷ xs) = cond (same_who n x.who) (Some (x.level, x.deadline)) (spot_in n xs)

-- A line of this part is not hidden: what was said last of somebody is of no later part, or it stands nowhere.
abbrev pub MayBePlaced : Part → Option (Part × Option Spot) → Type 0
MayBePlaced part None = Unit {0}
MayBePlaced part (Some last) = (last.1 ≡ None) ⊎ (is_part_before part last.0 ≡ false)
