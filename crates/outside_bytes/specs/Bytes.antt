-- The lines of bytes: a line ends with its line feed (10), which the last one may lack.
use Rattle.std.specs.Prelude.{ℕ, Bool, true, false, ◌==◌, if◌then◌else◌, List, [], ◌∷◌}
use Rattle.std.specs.List.{list_any}

abbrev pub first_line : List ℕ → List ℕ
first_line [] = []
first_line (byte ∷ bytes) = if byte == 10 then byte ∷ [] else byte ∷ first_line bytes

abbrev pub has_feed : List ℕ → Bool
has_feed bytes = list_any (λ byte. byte == 10) bytes

abbrev pub is_some_byte : List ℕ → Bool
is_some_byte [] = false
is_some_byte (byte ∷ bytes) = true
