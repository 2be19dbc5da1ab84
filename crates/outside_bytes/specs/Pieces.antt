-- What a sink holds after a call that may have failed half-way.
use Rattle.std.specs.Prelude.{◌≡◌, ℕ, List, ◌++◌, Option}
use Rattle.ann_base.specs.Outside.{extended}

-- A prefix of the text was written: nothing, a part from its beginning on, or all of it.
abbrev pub HoldsPrefix : Option (List ℕ) → Option (List ℕ) → List ℕ → Type 0
HoldsPrefix old new text =
    (prefix : List ℕ) × (rest : List ℕ) × (text ≡ prefix ++ rest) × (new ≡ extended old prefix)
