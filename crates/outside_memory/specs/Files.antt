-- Files in memory: a list of names and bytes, of which the first with a name counts.
use Rattle.std.specs.Prelude.{◌≡◌, ◌<◌, ℕ, cond, List, [], ◌∷◌, Option, Some, None, length, map, min, slice_index_or}
use Rattle.std.specs.Global.{Vec}
use Rattle.std.specs.Str.{bytes_eq}

abbrev pub files_of : List (Vec ℕ × Vec ℕ) → List (List ℕ × List ℕ)
files_of files = map (λ file. (file.0.items, file.1.items)) files

abbrev pub first_named : List (List ℕ × List ℕ) → List ℕ → Option (List ℕ)
first_named [] name = None
first_named (file ∷ files) name = cond (bytes_eq file.0 name) (Some file.1) (first_named files name)

-- the file at a place
abbrev pub file_at : List (List ℕ × List ℕ) → ℕ → List ℕ × List ℕ
file_at files place = slice_index_or files place ([], [])

-- The first file of this name stands at this place.
pub record StandsAt (files : List (List ℕ × List ℕ)) (name : List ℕ) (place : ℕ) : Type 0 where
  pub inside : place < length files
  pub named : (file_at files place).0 ≡ name
  pub first : first_named files name ≡ Some (file_at files place).1

-- how many bytes a call moves: at most so many, of those asked for and of those that are left
abbrev pub moved : ℕ → ℕ → ℕ → ℕ
moved most asked left = min most (min asked left)
