-- Lines of an effect by which somebody comes to an object, those before them, and those behind them.
use Rattle.ceiling_laws.proofs.Runs.EnterLemmas.{IsQuiet}
use Rattle.ceiling_laws.proofs.Runs.LevelMoves.{is_apart}
use Rattle.profile_machine.specs.Steps.{is_part_before}
use Rattle.profile_machine.specs.declared.world.lines.Line.{Line}
use Rattle.profile_machine.specs.declared.world.lines.Line.TheVariants as line
use Rattle.profile_machine.specs.declared.world.lines.Part.TheVariants.{Own}
use Rattle.profile_machine.specs.declared.world.lines.Said.{Said}
use Rattle.std.proofs.Common.{Bool, List, [], false, inl, refl, true, ◌∷◌, ◌≡◌, ◌⊎◌}
use Rattle.ceiling_laws.proofs.Runs.BegunLines.{Each}

-- somebody enters an object, or finds one held
abbrev pub is_coming : Line → Bool
is_coming (line.Enter name object mode) = true
is_coming (line.Held name object mode) = true
is_coming _ = false

abbrev pub IsNoCome : Said → Type 0
IsNoCome x = is_coming x.line ≡ false

-- a line behind it says nothing of levels, or stands in a late part
abbrev pub IsLate : Said → Type 0
IsLate x = IsNoCome x × (IsQuiet x ⊎ (is_part_before x.part Own ≡ false))

pub quiet-is_coming : (x : Line) → is_apart x ≡ false → is_coming x ≡ false
quiet-is_coming (line.Enter name object mode) e = e
quiet-is_coming (line.Held name object mode) e = e
quiet-is_coming _ e = refl

pub all_quiet-none_comes : (xs : List Said) → Each IsQuiet xs → Each IsNoCome xs
all_quiet-none_comes [] q = tt
all_quiet-none_comes (x ∷ xs) q = (quiet-is_coming x.line q.0, all_quiet-none_comes xs q.1)

pub quiet-late : (x : Said) → IsQuiet x → IsLate x
quiet-late x e = (quiet-is_coming x.line e, inl e)
