-- What a call had of the outside and left of it: the files of a shelf, what sinks hold, and how often they failed.
use Rattle.std.specs.Prelude.{◌≡◌, ℕ, List, Option}
use Rattle.ann_base.specs.Outside.{Rose, extended}
use Rattle.outside_bytes.specs.Pieces.{HoldsPrefix}

pub record ShelfChange : Type 0 where
  -- the files by name, where they are told
  pub files : Option (List ℕ → Option (List ℕ))
  pub faults_before : ℕ
  pub faults_after : ℕ

pub record SinkChange : Type 0 where
  -- what was written, where it is told
  pub before : Option (List ℕ)
  pub after : Option (List ℕ)
  pub faults_before : ℕ
  pub faults_after : ℕ

abbrev pub shelf_of : {S : Type 0} → (S → Option (List ℕ → Option (List ℕ))) → (S → ℕ) → S → S → ShelfChange
shelf_of files faults old new = record { files = files old; faults_before = faults old; faults_after = faults new }

abbrev pub sink_of : {K : Type 0} → (K → Option (List ℕ)) → (K → ℕ) → K → K → SinkChange
sink_of held faults old new =
    record { before = held old; after = held new; faults_before = faults old; faults_after = faults new }

-- the shelf, the sink failed in the call
abbrev pub ShelfFailed : ShelfChange → Type 0
ShelfFailed shelf = Rose shelf.faults_before shelf.faults_after

abbrev pub SinkFailed : SinkChange → Type 0
SinkFailed sink = Rose sink.faults_before sink.faults_after

-- the sink gained nothing, exactly a text, a prefix of a text
abbrev pub IsKept : SinkChange → Type 0
IsKept sink = sink.after ≡ sink.before

abbrev pub Gained : SinkChange → List ℕ → Type 0
Gained sink text = sink.after ≡ extended sink.before text

abbrev pub GainedPrefix : SinkChange → List ℕ → Type 0
GainedPrefix sink text = HoldsPrefix sink.before sink.after text
