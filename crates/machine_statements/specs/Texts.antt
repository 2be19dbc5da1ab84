-- Texts that are put together.
use Rattle.std.specs.Prelude.{ℕ, List, ◌++◌, Ok}
use Rattle.ann_base.specs.Results.{◌>>=◌}
use Rattle.profile_machine.specs.Operators.{Valued}

-- a text, if there is one, behind what is there
abbrev pub text_behind : List ℕ → Valued (List ℕ) → Valued (List ℕ)
text_behind before text = text >>= λ more. Ok (before ++ more)
