-- What a list shows at each tick, and of the ticks that a further line lets pass.
use Rattle.std.proofs.Common.{◌≡◌, ◌≤◌, ◌<◌, ◌+◌, ◌-◌, ℕ, max, Bool, true, false, if◌then◌else◌, leb, List, [], ◌∷◌, ◌++◌, refl, ap, sym, ◌∙◌, arith}
use Rattle.std.proofs.lemmas.Bool.{leb-true, lt-leb, le-leb}
use Rattle.trace_text.specs.Queue.{TraceLine, RisesFrom, up_to, last_from}
use Rattle.trace_lines.specs.Seen.{Seen, seen_of}
use Rattle.trace_lines.proofs.Facts.{last_from-append}
use Rattle.run_report.specs.Accounts.{count_below, streak_below, longest_below, at_tick}
use Rattle.run_report.specs.Kept.{ticks_if, streak_after}
use Rattle.run_report.proofs.Ticks.{count_same, streak_same, longest_same, count_on, streak_on, longest_on}

pub rises_last : (tick : ℕ) (lines : List TraceLine) → RisesFrom tick lines → tick ≤ last_from tick lines
rises_last tick [] rises = omega arith
rises_last tick (line ∷ lines) rises = omega (arith, rises.0, rises_last line.0 lines rises.1)

front_by : (b : Bool) (first : TraceLine) (tick : ℕ) (more lines : List TraceLine) → leb first.0 tick ≡ b → (b ≡ true → up_to tick more ≡ up_to tick lines)
    → (if leb first.0 tick then first ∷ up_to tick more else []) ≡ (if leb first.0 tick then first ∷ up_to tick lines else [])
front_by true first tick more lines e on = ap (λ xs. if leb first.0 tick then first ∷ xs else []) (on refl)
front_by false first tick more lines e on = ap (λ b. if b then first ∷ up_to tick more else []) e ∙ sym (ap (λ b. if b then first ∷ up_to tick lines else []) e)

-- before the last line's tick a further line shows nothing
up_to_front : (tick before : ℕ) (lines : List TraceLine) (line : TraceLine) → before ≤ tick → tick < last_from before lines
    → up_to tick (lines ++ line ∷ []) ≡ up_to tick lines
up_to_front tick before [] line from less = absurd (omega (arith, from, less))
up_to_front tick before (first ∷ lines) line from less =
    front_by (leb first.0 tick) first tick (lines ++ line ∷ []) lines refl (λ e. up_to_front tick first.0 lines line (leb-true first.0 tick e) less)

-- from it on, up to that of the further line, all lines before that one show
up_to_all : (tick before : ℕ) (lines : List TraceLine) (line : TraceLine) → RisesFrom before lines → last_from before lines ≤ tick → tick < line.0
    → up_to tick (lines ++ line ∷ []) ≡ lines
up_to_all tick before [] line rises from less = ap (λ b. if b then line ∷ [] else []) (lt-leb line.0 tick less)
up_to_all tick before (first ∷ lines) line rises from less =
    let early : first.0 ≤ tick = omega (arith, rises_last first.0 lines rises.1, from) in
    ap (λ b. if b then first ∷ up_to tick (lines ++ line ∷ []) else []) (le-leb first.0 tick early)
    ∙ ap (λ xs. first ∷ xs) (up_to_all tick first.0 lines line rises.1 from less)

at_front : (tick : ℕ) (lines : List TraceLine) (line : TraceLine) → tick < last_from 0 lines → at_tick (lines ++ line ∷ []) tick ≡ at_tick lines tick
at_front tick lines line less = ap seen_of (up_to_front tick 0 lines line (omega arith) less)

at_all : (tick : ℕ) (lines : List TraceLine) (line : TraceLine) → RisesFrom 0 lines → last_from 0 lines ≤ tick → tick < line.0
    → at_tick (lines ++ line ∷ []) tick ≡ seen_of lines
at_all tick lines line rises from less = ap seen_of (up_to_all tick 0 lines line rises from less)

-- ---- with one line more

passes : (lines : List TraceLine) (line : TraceLine) → last_from 0 lines ≤ line.0
    → last_from 0 (lines ++ line ∷ []) ≡ last_from 0 lines + (line.0 - last_from 0 lines)
passes lines line from = let sum : line.0 ≡ last_from 0 lines + (line.0 - last_from 0 lines) = omega (arith, from) in last_from-append 0 lines line ∙ sum

later : (test : Seen → Bool) (lines : List TraceLine) (line : TraceLine) → RisesFrom 0 lines → (t : ℕ) → last_from 0 lines ≤ t
    → t < last_from 0 (lines ++ line ∷ []) → test (at_tick (lines ++ line ∷ []) t) ≡ test (seen_of lines)
later test lines line rises t from less = ap test (at_all t lines line rises from (omega (arith, less, last_from-append 0 lines line)))

pub count_more : (test : Seen → Bool) (lines : List TraceLine) (line : TraceLine) → RisesFrom 0 lines → last_from 0 lines ≤ line.0 →
    count_below (last_from 0 (lines ++ line ∷ [])) (λ t. test (at_tick (lines ++ line ∷ []) t))
    ≡ count_below (last_from 0 lines) (λ t. test (at_tick lines t)) + ticks_if (test (seen_of lines)) (line.0 - last_from 0 lines)
count_more test lines line rises from =
    count_on (line.0 - last_from 0 lines) (last_from 0 lines) (last_from 0 (lines ++ line ∷ [])) (λ t. test (at_tick (lines ++ line ∷ []) t))
    (test (seen_of lines)) (passes lines line from) (later test lines line rises)
    ∙ ap (λ c. c + ticks_if (test (seen_of lines)) (line.0 - last_from 0 lines))
    (count_same (last_from 0 lines) (λ t. test (at_tick (lines ++ line ∷ []) t)) (λ t. test (at_tick lines t)) (λ t less. ap test (at_front t lines line less)))

pub streak_more : (test : Seen → Bool) (lines : List TraceLine) (line : TraceLine) → RisesFrom 0 lines → last_from 0 lines ≤ line.0 →
    streak_below (last_from 0 (lines ++ line ∷ [])) (λ t. test (at_tick (lines ++ line ∷ []) t))
    ≡ streak_after (line.0 - last_from 0 lines) (test (seen_of lines)) (streak_below (last_from 0 lines) (λ t. test (at_tick lines t)))
streak_more test lines line rises from =
    streak_on (line.0 - last_from 0 lines) (last_from 0 lines) (last_from 0 (lines ++ line ∷ [])) (λ t. test (at_tick (lines ++ line ∷ []) t))
    (test (seen_of lines)) (passes lines line from) (later test lines line rises)
    ∙ ap (streak_after (line.0 - last_from 0 lines) (test (seen_of lines)))
    (streak_same (last_from 0 lines) (λ t. test (at_tick (lines ++ line ∷ []) t)) (λ t. test (at_tick lines t))
    (λ t less. ap test (at_front t lines line less)))

pub longest_more : (test : Seen → Bool) (lines : List TraceLine) (line : TraceLine) → RisesFrom 0 lines → last_from 0 lines ≤ line.0 →
    longest_below (last_from 0 (lines ++ line ∷ [])) (λ t. test (at_tick (lines ++ line ∷ []) t))
    ≡ max (longest_below (last_from 0 lines) (λ t. test (at_tick lines t)))
    (streak_after (line.0 - last_from 0 lines) (test (seen_of lines)) (streak_below (last_from 0 lines) (λ t. test (at_tick lines t))))
longest_more test lines line rises from =
    let same = λ (t : ℕ) (less : t < last_from 0 lines). ap test (at_front t lines line less) in
    longest_on (line.0 - last_from 0 lines) (last_from 0 lines) (last_from 0 (lines ++ line ∷ [])) (λ t. test (at_tick (lines ++ line ∷ []) t))
    (test (seen_of lines)) (passes lines line from) (later test lines line rises)
    ∙ ap (λ l. max l
    (streak_after (line.0 - last_from 0 lines) (test (seen_of lines)) (streak_below (last_from 0 lines) (λ t. test (at_tick (lines ++ line ∷ []) t)))))
    (longest_same (last_from 0 lines) (λ t. test (at_tick (lines ++ line ∷ []) t)) (λ t. test (at_tick lines t)) same)
    ∙ ap (λ s. max (longest_below (last_from 0 lines) (λ t. test (at_tick lines t))) (streak_after (line.0 - last_from 0 lines) (test (seen_of lines)) s))
    (streak_same (last_from 0 lines) (λ t. test (at_tick (lines ++ line ∷ []) t)) (λ t. test (at_tick lines t)) same)
