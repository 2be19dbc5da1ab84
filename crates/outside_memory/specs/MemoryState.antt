-- What contracts see of a shelf and a sink in memory.
use Rattle.std.specs.Prelude.{ℕ, List, Option}

pub record ShelfState : Type 0 where
  -- names and bytes; of two files of one name the first counts
  pub files : List (List ℕ × List ℕ)
  -- the most bytes that a read moves
  pub most : ℕ
  -- the numbers of the calls that fail
  pub fails : List ℕ
  -- how many calls were made, and how many failed
  pub calls : ℕ
  pub faults : ℕ
  -- the picked name and the offset of the next byte
  pub at : Option (List ℕ × ℕ)

pub record SinkState : Type 0 where
  pub held : List ℕ
  pub room : ℕ
  pub most : ℕ
  pub fails : List ℕ
  pub calls : ℕ
  pub faults : ℕ
