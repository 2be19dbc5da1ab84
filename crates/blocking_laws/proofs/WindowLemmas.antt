-- The tests of lines and ticks from one tick to another say what holds there.
use Rattle.std.proofs.Common.{◌≡◌, ℕ, ◌<◌, ◌≤◌, ◌⊎◌, Bool, true, false, cond, ◌&&◌, ◌||◌, ltb, leb, List, [], ◌∷◌, ◌++◌, refl, ap, subst, arith, inl, inr}
use Rattle.std.specs.List.{list_all}
use Rattle.std.proofs.lemmas.Bool.{and_from, and_parts, cases_lt, le-leb, le-ltb, leb-true, lt-leb, lt-ltb}
use Rattle.trace_text.specs.declared.events.Event.{Event}
use Rattle.trace_text.specs.Queue.{TraceLine, RisesFrom, seen_from, up_to}
use Rattle.ann_base.specs.Lists.{is_empty}
use Rattle.trace_text.specs.declared.events.Action.{Action}
use Rattle.blocking_laws.specs.Windows.{AtLinesBehind, follows_lines_behind, follows_ticks_from}
use Rattle.blocking_laws.specs.Stretches.{Stretch, is_plain, is_stretch, nothing_past, past_after, past_at, sets_no_base}

last_of_two : (a b : Bool) → (a || b) ≡ true → a ≡ false → b ≡ true
last_of_two true b e f = cc
last_of_two false b e f = e

pub last_of_three : (a b c : Bool) → (a || b || c) ≡ true → a ≡ false → b ≡ false → c ≡ true
last_of_three true b c e f g = cc
last_of_three false true c e f g = cc
last_of_three false false c e f g = e

last_of_four : (a b c d : Bool) → (a || b || c || d) ≡ true → a ≡ false → b ≡ false → c ≡ false → d ≡ true
last_of_four true b c d e f g h = cc
last_of_four false true c d e f g h = cc
last_of_four false false true d e f g h = cc
last_of_four false false false d e f g h = e

-- one of these holds
one_of_two : (a b : Bool) → (a ≡ true) ⊎ (b ≡ true) → (a || b) ≡ true
one_of_two true b h = refl
one_of_two false true h = refl
one_of_two false false (inl e) = e
one_of_two false false (inr e) = e

one_of_three : (a b c : Bool) → (a ≡ true) ⊎ ((b ≡ true) ⊎ (c ≡ true)) → (a || b || c) ≡ true
one_of_three true b c h = refl
one_of_three false true c h = refl
one_of_three false false true h = refl
one_of_three false false false (inl e) = e
one_of_three false false false (inr (inl e)) = e
one_of_three false false false (inr (inr e)) = e

one_of_four : (a b c d : Bool) → (a ≡ true) ⊎ ((b ≡ true) ⊎ ((c ≡ true) ⊎ (d ≡ true))) → (a || b || c || d) ≡ true
one_of_four true b c d h = refl
one_of_four false true c d h = refl
one_of_four false false true d h = refl
one_of_four false false false true h = refl
one_of_four false false false false (inl e) = e
one_of_four false false false false (inr (inl e)) = e
one_of_four false false false false (inr (inr (inl e))) = e
one_of_four false false false false (inr (inr (inr e))) = e

pub ticks_hold_from : {S : Type 0} (see : S → Event → S) (right : S → Bool) (first last tick : ℕ) (s : S) (lines : List TraceLine)
    → follows_ticks_from see right first last tick s lines ≡ true
    → (n : ℕ) → tick ≤ n → first ≤ n → n ≤ last → right (seen_from see s (up_to n lines)) ≡ true
ticks_hold_from see right first last tick s [] e n low from high = last_of_two (ltb last tick) (right s) e (le-ltb last tick (omega arith))
ticks_hold_from see right first last tick s (line ∷ lines) e n low from high =
    let parts =
    and_parts (leb line.0 tick || leb line.0 first || ltb last tick || right s) (follows_ticks_from see right first last line.0 (see s line.1) lines) e in
    elim (cases_lt n line.0) [
      | inl below ↦ rw (lt-leb line.0 n below)
          (last_of_four (leb line.0 tick) (leb line.0 first) (ltb last tick) (right s) parts.0 (lt-leb line.0 tick (omega arith))
          (lt-leb line.0 first (omega arith)) (le-ltb last tick (omega arith)))
      | inr at ↦ rw (le-leb line.0 n at) (ticks_hold_from see right first last line.0 (see s line.1) lines parts.1 n at from high)
    ]

-- a tick from both on
later_of : (a b : ℕ) → (n : ℕ) × ((a ≤ n) × ((b ≤ n) × ((n ≡ a) ⊎ (n ≡ b))))
later_of a b = elim (cases_lt a b) [
  | inl below ↦ (b, (omega arith, (omega arith, inr refl)))
  | inr at ↦ (a, (omega arith, (at, inl refl)))
]

pub ticks_followed_from : {S : Type 0} (see : S → Event → S) (right : S → Bool) (first last : ℕ) → first ≤ last → (tick : ℕ) (s : S) (lines : List TraceLine)
    → RisesFrom tick lines
    → ((n : ℕ) → tick ≤ n → first ≤ n → n ≤ last → right (seen_from see s (up_to n lines)) ≡ true) → follows_ticks_from see right first last tick s lines ≡ true
ticks_followed_from see right first last order tick s [] rises h = one_of_two (ltb last tick) (right s) (elim (cases_lt last tick) [
  | inl below ↦ inl (lt-ltb last tick below)
  | inr at ↦ let n = later_of tick first in inr (h n.0 n.1.0 n.1.1.0 (omega (arith, n.1.1.1)))
])
ticks_followed_from {S} see right first last order tick s (line ∷ lines) rises h =
    let later : follows_ticks_from see right first last line.0 (see s line.1) lines ≡ true =
    ticks_followed_from see right first last order line.0 (see s line.1) lines rises.1
    (λ n low from high. subst (λ (t : Bool). right (seen_from see s (cond t (line ∷ up_to n lines) [])) ≡ true) (le-leb line.0 n low)
    (h n (omega (arith, rises.0)) from high)) in
    let here : (leb line.0 tick || leb line.0 first || ltb last tick || right s) ≡ true =
    one_of_four (leb line.0 tick) (leb line.0 first) (ltb last tick) (right s) (elim (cases_lt tick line.0) [
      | inr at ↦ inl (le-leb line.0 tick at)
      | inl below ↦ elim (cases_lt first line.0) [
        | inr at ↦ inr (inl (le-leb line.0 first at))
        | inl early ↦ elim (cases_lt last tick) [
          | inl over ↦ inr (inr (inl (lt-ltb last tick over)))
          | inr on ↦
              let n = later_of tick first in
              let before : n.0 < line.0 = omega (arith, n.1.1.1) in
              inr (inr (inr
              (subst (λ (t : Bool). right (seen_from see s (cond t (line ∷ up_to n.0 lines) [])) ≡ true) (lt-leb line.0 n.0 before)
              (h n.0 n.1.0 n.1.1.0 (omega (arith, n.1.1.1))))))
        ]
      ]
    ]) in
    and_from (leb line.0 tick || leb line.0 first || ltb last tick || right s) (follows_ticks_from see right first last line.0 (see s line.1) lines) here later

-- a test of all items, at one of them
pub all_at : {X : Type 0} (test : X → Bool) (xs front : List X) (x : X) (back : List X) → list_all test xs ≡ true → xs ≡ front ++ x ∷ back → test x ≡ true
all_at test [] [] x back e same = cc
all_at test [] (y ∷ front) x back e same = cc
all_at test (y ∷ xs) [] x back e same =
    let heads : y ≡ x = cc in
    subst (λ z. test z ≡ true) heads (and_parts (test y) (list_all test xs) e).0
all_at test (y ∷ xs) (z ∷ front) x back e same =
    let rest : xs ≡ front ++ x ∷ back = cc in
    all_at test xs front x back (and_parts (test y) (list_all test xs) e).1 rest

pub all_from : {X : Type 0} (test : X → Bool) (xs : List X) → ((front : List X) (x : X) (back : List X) → xs ≡ front ++ x ∷ back → test x ≡ true)
    → list_all test xs ≡ true
all_from test [] h = refl
all_from test (x ∷ xs) h =
    and_from (test x) (list_all test xs) (h [] x xs refl) (all_from test xs (λ front y back e. h (x ∷ front) y back (ap (λ ys. x ∷ ys) e)))

pub lines_hold_behind : (first last : ℕ) (test : Event → Bool) (lines : List TraceLine) → follows_lines_behind first last test lines ≡ true
    → AtLinesBehind first last test lines
lines_hold_behind first last test lines e front line back same low high =
    last_of_three (leb line.0 first) (ltb last line.0) (test line.1)
    (all_at (λ (x : TraceLine). leb x.0 first || ltb last x.0 || test x.1) lines front line back e same) (lt-leb line.0 first low) (le-ltb last line.0 high)

pub lines_followed_behind : (first last : ℕ) (test : Event → Bool) (lines : List TraceLine) → AtLinesBehind first last test lines
    → follows_lines_behind first last test lines ≡ true
lines_followed_behind first last test lines h = all_from (λ (x : TraceLine). leb x.0 first || ltb last x.0 || test x.1) lines
    (λ front line back same. one_of_three (leb line.0 first) (ltb last line.0) (test line.1) (elim (cases_lt first line.0) [
      | inr at ↦ inl (le-leb line.0 first at)
      | inl low ↦ elim (cases_lt last line.0) [
        | inl over ↦ inr (inl (lt-ltb last line.0 over))
        | inr high ↦ inr (inr (h front line back same low high))
      ]
    ]))

none_there : (actions : List Action) → is_empty actions ≡ true → actions ≡ []
none_there [] e = refl
none_there (x ∷ xs) e = cc

pub stretch_told : (first last : ℕ) (lines : List TraceLine) → is_stretch first last lines ≡ true → Stretch first last lines
stretch_told first last lines e =
    let a =
    and_parts (leb first last && is_empty (past_at first lines).actions && follows_ticks_from past_after is_plain first last 0 nothing_past lines)
    (follows_lines_behind first last sets_no_base lines) e in
    let b = and_parts (leb first last && is_empty (past_at first lines).actions) (follows_ticks_from past_after is_plain first last 0 nothing_past lines) a.0 in
    let c = and_parts (leb first last) (is_empty (past_at first lines).actions) b.0 in
    record {
      order = leb-true first last c.0;
      free = none_there (past_at first lines).actions c.1;
      plain = λ tick low high. ticks_hold_from past_after is_plain first last 0 nothing_past lines b.1 tick (omega arith) low high;
      bases = lines_hold_behind first last sets_no_base lines a.1;
    }

pub told_stretch : (first last : ℕ) (lines : List TraceLine) → RisesFrom 0 lines → Stretch first last lines → is_stretch first last lines ≡ true
told_stretch first last lines rises h =
    rw (
      le-leb first last h.order,
      h.free,
      ticks_followed_from past_after is_plain first last h.order 0 nothing_past lines rises (λ tick zero low high. h.plain tick low high),
    )
    (lines_followed_behind first last sets_no_base lines h.bases)
