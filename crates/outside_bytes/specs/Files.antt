-- What a shelf tells of a file, and what is left of the picked one.
use Rattle.std.specs.Prelude.{ℕ, List, Option, Some, None, drop}

-- What is told of the file with a name: nothing, that it is not there, or its bytes.
pub data ToldFile : Type 0 where
  Untold : ToldFile
  Missing : ToldFile
  Holds : List ℕ → ToldFile

abbrev pub file_in : Option (List ℕ) → ToldFile
file_in None = Missing
file_in (Some bytes) = Holds bytes

abbrev pub told : Option (List ℕ → Option (List ℕ)) → List ℕ → ToldFile
told None name = Untold
told (Some files) name = file_in (files name)

-- The file is there, and this holds of its bytes; nothing where the shelf does not tell.
abbrev pub WhereTold : ToldFile → (List ℕ → Type 0) → Type 0
WhereTold Untold fact = Unit {0}
WhereTold Missing fact = ⊥
WhereTold (Holds bytes) fact = fact bytes

-- the bytes of the picked file from the next one on, where the shelf tells them
abbrev pub left_in : Option (List ℕ) → ℕ → Option (List ℕ)
left_in None offset = None
left_in (Some file) offset = Some (drop offset file)

abbrev pub left_of : Option (List ℕ → Option (List ℕ)) → Option (List ℕ × ℕ) → Option (List ℕ)
left_of None at = None
left_of (Some files) None = None
left_of (Some files) (Some at) = left_in (files at.0) at.1
