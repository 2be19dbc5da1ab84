-- A few lines that keep the laws of blocking, and some that break one each.
use Rattle.std.specs.Prelude.{◌≡◌, ℕ, true, false, List, [], ◌∷◌, None, codes}
use Rattle.ann_base.specs.declared.identities.ObjectNo.{ObjectNo}
use Rattle.ann_base.specs.declared.identities.TaskNo.{TaskNo}
use Rattle.trace_text.specs.declared.events.Created.TheVariants as created
use Rattle.trace_text.specs.declared.events.Ended.TheVariants as ended
use Rattle.trace_text.specs.declared.events.Event.TheVariants as line
use Rattle.trace_text.specs.declared.events.Mode.TheVariants as mode
use Rattle.trace_text.specs.declared.events.QueueEnd.TheVariants.{Head, Tail}
use Rattle.trace_text.specs.declared.events.Waits.TheVariants as waits
use Rattle.trace_text.specs.declared.events.Who.{Who}
use Rattle.trace_text.specs.declared.events.Who.TheVariants as subject
use Rattle.trace_text.specs.Queue.{TraceLine}
use Rattle.blocking_laws.specs.BlockingLaws.{finds_none_held}
use Rattle.blocking_laws.specs.Stretches.{is_plain, past_at, sets_no_base}
use Rattle.blocking_laws.specs.Windows.{follows_lines_behind}

abbrev pub number : ℕ → TaskNo
number n = record { 0 = n }

abbrev pub task : ℕ → Who
task n = subject.Task (number n)

abbrev pub object : ℕ → ObjectNo
object n = record { 0 = n }

-- task 1 of base priority 10 is in object 1 of ceiling 20 when task 2 of base priority 15 becomes ready, and leaves it
unfoldable pub blocked_once : List TraceLine
blocked_once =
    (0, line.New (created.Object (object 1)) (codes "p") 20) ∷
    (0, line.New (created.Task (number 1)) (codes "low") 10) ∷
    (0, line.New (created.Task (number 2)) (codes "high") 15) ∷
    (1, line.Ready (task 1) 10 Tail None) ∷
    (1, line.Run (task 1)) ∷
    (3, line.Enter (task 1) (object 1) mode.Write) ∷
    (3, line.Ready (task 1) 20 Head None) ∷
    (5, line.Ready (task 2) 15 Tail None) ∷
    (8, line.Exit (task 1) (object 1)) ∷
    (8, line.Ready (task 1) 10 Head None) ∷
    (8, line.Run (task 2)) ∷
    (10, line.Block (task 2) waits.Delay) ∷
    (10, line.Run (task 1)) ∷
    (12, line.End ended.Bound) ∷
    []

-- without the protocol: task 1 enters object 1 and stays at its base priority, so that task 2 finds the object held
unfoldable pub found_held : List TraceLine
found_held =
    (0, line.New (created.Object (object 1)) (codes "p") 20) ∷
    (0, line.New (created.Task (number 1)) (codes "low") 10) ∷
    (0, line.New (created.Task (number 2)) (codes "high") 15) ∷
    (1, line.Ready (task 1) 10 Tail None) ∷
    (1, line.Run (task 1)) ∷
    (3, line.Enter (task 1) (object 1) mode.Write) ∷
    (5, line.Ready (task 2) 15 Tail None) ∷
    (5, line.Run (task 2)) ∷
    (7, line.Held (task 2) (object 1) mode.Write) ∷
    (7, line.Ready (task 2) 15 Tail None) ∷
    (9, line.End ended.Bound) ∷
    []

-- task 1 of base priority 10 runs without an action while task 2 of base priority 15 is ready
unfoldable pub blocked_outside : List TraceLine
blocked_outside =
    (0, line.New (created.Task (number 1)) (codes "low") 10) ∷
    (0, line.New (created.Task (number 2)) (codes "high") 15) ∷
    (1, line.Ready (task 1) 10 Tail None) ∷
    (1, line.Run (task 1)) ∷
    (3, line.Ready (task 2) 15 Tail None) ∷
    (5, line.End ended.Bound) ∷
    []

-- task 3 of base priority 15 waits for task 1, which is in object 1, and then for task 2, which is in object 2
unfoldable pub blocked_twice : List TraceLine
blocked_twice =
    (0, line.New (created.Object (object 1)) (codes "p") 20) ∷
    (0, line.New (created.Object (object 2)) (codes "q") 20) ∷
    (0, line.New (created.Task (number 1)) (codes "low") 10) ∷
    (0, line.New (created.Task (number 2)) (codes "lower") 9) ∷
    (0, line.New (created.Task (number 3)) (codes "high") 15) ∷
    (1, line.Ready (task 1) 10 Tail None) ∷
    (1, line.Ready (task 2) 9 Tail None) ∷
    (1, line.Run (task 2)) ∷
    (2, line.Enter (task 2) (object 2) mode.Write) ∷
    (2, line.Run (task 1)) ∷
    (3, line.Enter (task 1) (object 1) mode.Write) ∷
    (3, line.Ready (task 1) 20 Head None) ∷
    (3, line.Ready (task 2) 20 Tail None) ∷
    (5, line.Ready (task 3) 15 Tail None) ∷
    (8, line.Exit (task 1) (object 1)) ∷
    (8, line.Ready (task 1) 10 Head None) ∷
    (8, line.Run (task 2)) ∷
    (10, line.Exit (task 2) (object 2)) ∷
    (10, line.Ready (task 2) 9 Head None) ∷
    (10, line.Run (task 3)) ∷
    (12, line.End ended.Bound) ∷
    []

-- From behind one tick to behind another everything is as in a stretch, but that somebody inherits a priority without
-- an action; and a call finds its object held.
pub record HeldByInheritance (first inherits last : ℕ) (lines : List TraceLine) : Type 0 where
  pub free : (past_at first lines).actions ≡ []
  pub bases : follows_lines_behind first last sets_no_base lines ≡ true
  pub inherited : is_plain (past_at inherits lines) ≡ false
  pub held : follows_lines_behind first last finds_none_held lines ≡ false
