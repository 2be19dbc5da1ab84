-- What holds of the lines behind one tick and up to another, and what holds behind each tick from one to another;
-- beside each a test that computes.
use Rattle.std.specs.Prelude.{◌≡◌, ℕ, ◌<◌, ◌≤◌, Bool, ◌&&◌, ◌||◌, nat_lt, nat_le, IsTrue, List, [], ◌∷◌, ◌++◌}
use Rattle.std.specs.List.{list_all}
use Rattle.trace_text.specs.declared.events.Event.{Event}
use Rattle.trace_text.specs.Queue.{TraceLine, seen_from, up_to}

-- the lines of the ticks behind the first one, up to the last one
abbrev pub AtLinesBehind : ℕ → ℕ → (Event → Bool) → List TraceLine → Type 0
AtLinesBehind first last test lines = (front : List TraceLine) (line : TraceLine) (back : List TraceLine)
    → lines ≡ front ++ line ∷ back → first < line.0 → line.0 ≤ last → IsTrue (test line.1)

abbrev pub follows_lines_behind : ℕ → ℕ → (Event → Bool) → List TraceLine → Bool
follows_lines_behind first last test = list_all (λ line. nat_le line.0 first || nat_lt last line.0 || test line.1)

-- behind all lines up to each tick from the first one to the last one
abbrev pub AtTicksFrom : {S : Type 0} → (S → Event → S) → S → ℕ → ℕ → (S → Type 0) → List TraceLine → Type 0
AtTicksFrom see s first last Right lines = (tick : ℕ) → first ≤ tick → tick ≤ last
    → Right (seen_from see s (up_to tick lines))

-- The same by a test that follows the lines, and asks whenever the tick changes and one of the ticks that pass is
-- meant; what is shown so far is that of a tick.
abbrev pub follows_ticks_from : {S : Type 0} → (S → Event → S) → (S → Bool) → ℕ → ℕ → ℕ → S → List TraceLine → Bool
follows_ticks_from see right first last tick s [] = nat_lt last tick || right s
follows_ticks_from see right first last tick s (line ∷ lines) =
    (nat_le line.0 tick || nat_le line.0 first || nat_lt last tick || right s)
    && follows_ticks_from see right first last line.0 (see s line.1) lines
