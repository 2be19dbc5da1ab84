-- What the lines of an effect say of somebody's place: the last that says something, by the order of their parts.
use Rattle.std.specs.Prelude.{ℕ, cond, List, [], ◌∷◌, Option, Some, None, unwrap_or}
use Rattle.trace_text.specs.declared.events.Who.{Who}
use Rattle.trace_text.specs.declared.events.Who.TheVariants as who
use Rattle.profile_machine.specs.declared.world.lines.Line.{Line}
use Rattle.profile_machine.specs.declared.world.lines.Line.TheVariants as line
use Rattle.profile_machine.specs.declared.world.lines.Part.{Part}
use Rattle.profile_machine.specs.declared.world.lines.Said.{Said}
use Rattle.profile_image.specs.Words.{same_who}
use Rattle.profile_machine.specs.Steps.{is_part_before}

-- a line places somebody at a level, or takes it out, or says nothing of its place
abbrev pub puts : Who → Line → Option (Option ℕ)
puts n (line.Ready name level end deadline) = cond (same_who n name) (Some (Some level)) None
puts n (line.Block name waits) = cond (same_who n name) (Some None) None
puts n (line.Done task) = cond (same_who n (who.Task task)) (Some None) None
puts n _ = None

abbrev pub place_behind : Who → Option ℕ → List Said → Option ℕ
place_behind n e [] = e
place_behind n e (x ∷ xs) = place_behind n (unwrap_or (puts n x.line) e) xs

-- of a line and what the lines behind it say last, what is said last when they are in order
abbrev pub pick : Part → Option (Option ℕ) → Option (Part × Option ℕ) → Option (Part × Option ℕ)
pick part None last = last
pick part (Some place) None = Some (part, place)
pick part (Some place) (Some last) = cond (is_part_before last.0 part) (Some (part, place)) (Some last)

abbrev pub last_put : Who → List Said → Option (Part × Option ℕ)
last_put n [] = None
last_put n (x ∷ xs) = pick x.part (puts n x.line) (last_put n xs)

-- what is said last, and one line more
abbrev pub with_put : Option (Part × Option ℕ) → Part → Option (Option ℕ) → Option (Part × Option ℕ)
with_put last part None = last
with_put None part (Some place) = Some (part, place)
with_put (Some last) part (Some place) = cond (is_part_before part last.0) (Some last) (Some (part, place))

abbrev pub place_by : Option (Part × Option ℕ) → Option ℕ → Option ℕ
place_by None e = e
place_by (Some last) e = last.1
