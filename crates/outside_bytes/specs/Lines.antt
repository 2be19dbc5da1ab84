-- What a reader of lines has handed on of a file, and what is still to come.
use Rattle.std.specs.Prelude.{◌≡◌, ◌≤◌, ◌+◌, ◌<◌, ℕ, Bool, true, false, List, []}
use Rattle.std.specs.Prelude.{◌++◌, Option, Some, None, drop, take, length, IfSome}
use Rattle.outside_bytes.specs.declared.lines.Lines.{Lines}
use Rattle.outside_bytes.specs.Bytes.{first_line, is_some_byte}

-- the bytes that are to come: the rest of the piece that was read, and what may still be read of the file, where the
-- shelf tells what is left of it
abbrev pub come : ℕ → List ℕ → ℕ → Option (List ℕ) → Option (List ℕ)
come next piece room None = None
come next piece room (Some left) = Some (drop next piece ++ take room left)

abbrev pub to_come : Lines → Option (List ℕ) → Option (List ℕ)
to_come lines left = come lines.next lines.piece.items lines.room left

-- The first line was handed on, or the first of its bytes where it has more than `most`, and the rest is to come; there
-- was one where there was a byte.
abbrev pub HandsOn : ℕ → Option (List ℕ) → Option (List ℕ) → List ℕ → Bool → Type 0
HandsOn most before after line some =
    IfSome before (λ bytes. (line ≡ take most (first_line bytes)) × (after ≡ Some (drop (length line) bytes))
    × (some ≡ is_some_byte bytes))

-- Bytes were handed on, and the rest is to come.
abbrev pub HasHandedOn : Option (List ℕ) → Option (List ℕ) → List ℕ → Type 0
HasHandedOn before after line = IfSome before (λ bytes. (rest : List ℕ) × (bytes ≡ line ++ rest) × (after ≡ Some rest))

-- What is to come stayed the same.
abbrev pub IsStillToCome : Option (List ℕ) → Option (List ℕ) → Type 0
IsStillToCome before after = IfSome before (λ bytes. after ≡ Some bytes)

-- A piece was read where the file has more that may be read; otherwise nothing is to come.
pub record Refills (old new : Lines) (left_old left_new : Option (List ℕ)) (some : Bool) : Type 0 where
  pub same : IsStillToCome (to_come old left_old) (to_come new left_new)
  pub ended : some ≡ false → IfSome (to_come old left_old) (λ bytes. bytes ≡ [])
  pub less : new.room + length new.piece.items ≤ old.room
  pub more : some ≡ true → 0 < length new.piece.items
  pub next : new.next ≡ 0
