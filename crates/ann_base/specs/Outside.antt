-- What the outside does: counts of faults, files that are read from an offset, bytes that are appended.
use Rattle.std.specs.Prelude.{◌≡◌, ◌<◌, ◌≤◌, ◌+◌, ◌^◌, ◌-◌, ◌⊎◌, ℕ, List, ◌++◌, Option, Some, None, length, take, drop}

-- A count of faults rose, or stood at the end of its type, where it can rise no more.
abbrev pub Rose : ℕ → ℕ → Type 0
Rose old new = (old < new) ⊎ (2 ^ 64 - 1 ≤ old)

-- Why a pick fails: the count rose, or the files are told and the name is not among them.
abbrev pub LacksIn : Option (List ℕ) → Type 0 → Type 0
LacksIn None rose = Unit {0}
LacksIn (Some bytes) rose = rose

abbrev pub Lacks : Option (List ℕ → Option (List ℕ)) → List ℕ → Type 0 → Type 0
Lacks None name rose = rose
Lacks (Some files) name rose = LacksIn (files name) rose

-- Where files are told, only a name among them is picked, and the next byte is its first.
abbrev pub IsAmong : Option (List ℕ) → Type 0
IsAmong None = ⊥
IsAmong (Some bytes) = Unit {0}

abbrev pub IsPickedAt : Option (List ℕ → Option (List ℕ)) → List ℕ → Option (List ℕ × ℕ) → Type 0
IsPickedAt None name at = Unit {0}
IsPickedAt (Some files) name at = IsAmong (files name) × (at ≡ Some (name, 0))

-- So many bytes were read from the offset on: the file's bytes there, none exactly at its end.
pub record HasReadFrom (bytes : List ℕ) (offset : ℕ) (asked : ℕ) (got : List ℕ) (count : ℕ) : Type 0 where
  pub bytes_read : got ≡ take count (drop offset bytes)
  pub inside : offset + count ≤ length bytes
  pub at_end : 0 < asked → count ≡ 0 → offset ≡ length bytes

abbrev pub HasReadFile : Option (List ℕ) → ℕ → ℕ → List ℕ → ℕ → Type 0
HasReadFile None offset asked got count = Unit {0}
HasReadFile (Some bytes) offset asked got count = HasReadFrom bytes offset asked got count

abbrev pub HasRead : Option (List ℕ → Option (List ℕ)) → Option (List ℕ × ℕ) → Option (List ℕ × ℕ) → ℕ → List ℕ → ℕ
    → Type 0
HasRead None old new asked got count = Unit {0}
HasRead (Some files) None new asked got count = Unit {0}
HasRead (Some files) (Some at) new asked got count = HasReadFile (files at.0) at.1 asked got count
    × (new ≡ Some (at.0, at.1 + count))

-- what a sink holds behind a write
abbrev pub extended : Option (List ℕ) → List ℕ → Option (List ℕ)
extended None piece = None
extended (Some held) piece = Some (held ++ piece)
