-- How far the choices of a case lead.
use Rattle.std.specs.Prelude.{Bool, false, pos, true, ℕ, ℤ, ◌+ℤ◌}
use Rattle.legality_choices.specs.declared.completeness.NextValue.{NextValue}

abbrev pub one_if : Bool → ℕ
one_if false = 0
one_if true = 1

-- the first number that is not covered yet
abbrev pub next_number : NextValue → ℤ
next_number r = r.number +ℤ pos (one_if r.is_behind)
