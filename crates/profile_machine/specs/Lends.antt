-- What the lists of a world end as, where a `&mut` to one of their items is returned.
use Rattle.std.specs.Prelude.{ℕ, List, Option, slice_set}
use Rattle.std.specs.Borrow.{LendsIf, Fml, MutBor}
use Rattle.profile_machine.specs.contracts.world.frame_stack.FrameStack.{the_row as stack_row}
use Rattle.profile_machine.specs.contracts.world.marks.Frame.{the_row as frame_row}
use Rattle.profile_machine.specs.declared.world.marks.Frame.{Frame}

-- the open constructs end with the last value behind r at this place, and at `None` stay as they are
abbrev pub lends_frame : MutBor (List Frame) → ℕ → Option (MutBor Frame) → Fml
lends_frame s place r = LendsIf stack_row frame_row s r (slice_set s.now place) s.now
