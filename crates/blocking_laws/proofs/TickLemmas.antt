-- The lines of one tick, behind those up to the tick before, and what the tests of all lines say of them.
use Rattle.std.proofs.Common.{◌≡◌, ℕ, suc, ◌<◌, ◌≤◌, ◌==◌, Bool, true, false, not, cond, ◌&&◌, ◌||◌}
use Rattle.std.proofs.Common.{leb, List, [], ◌∷◌, ◌++◌, refl, sym, ap, subst, ◌∙◌, arith, inl, inr}
use Rattle.std.specs.List.{list_all}
use Rattle.std.proofs.lemmas.Bool.{and_from, and_parts, cases_Bool, cases_lt, eq-eqb, leb-true, le-leb, lt-leb, ne_eqb}
use Rattle.trace_text.specs.declared.events.Event.{Event}
use Rattle.trace_text.specs.declared.events.Who.{Who}
use Rattle.trace_text.specs.Queue.{TraceLine, RisesFrom, follows_lines, seen_from, up_to}
use Rattle.blocking_laws.specs.MovingLaws.{chooses_from, enters_from, is_choice, is_fresh_entry, is_still, touched_at, touched_by}

-- the lines behind a tick
abbrev pub behind : ℕ → List TraceLine → List TraceLine
behind n [] = []
behind n (line ∷ lines) = cond (leb line.0 n) (behind n lines) (line ∷ lines)

-- those of the tick after it
abbrev pub of_next : ℕ → List TraceLine → List TraceLine
of_next n lines = up_to (suc n) (behind n lines)

pub up_to-behind : (n : ℕ) (lines : List TraceLine) → up_to n lines ++ behind n lines ≡ lines
up_to-behind n [] = refl
up_to-behind n (line ∷ lines) = elim (cases_Bool (leb line.0 n)) [
  | inl low ↦
      ap (λ t. cond t (line ∷ up_to n lines) [] ++ cond t (behind n lines) (line ∷ lines)) low ∙ ap (λ ls. line ∷ ls) (up_to-behind n lines)
  | inr high ↦ ap (λ t. cond t (line ∷ up_to n lines) [] ++ cond t (behind n lines) (line ∷ lines)) high
]

pub up_to-next : (n : ℕ) (lines : List TraceLine) → up_to (suc n) lines ≡ up_to n lines ++ of_next n lines
up_to-next n [] = refl
up_to-next n (line ∷ lines) = elim (cases_Bool (leb line.0 n)) [
  | inl low ↦
      let lower : leb line.0 (suc n) ≡ true = le-leb line.0 (suc n) (omega (arith, leb-true line.0 n low)) in
      ap (λ t. cond t (line ∷ up_to (suc n) lines) []) lower ∙ ap (λ ls. line ∷ ls) (up_to-next n lines)
      ∙ sym (ap (λ t. cond t (line ∷ up_to n lines) [] ++ up_to (suc n) (cond t (behind n lines) (line ∷ lines))) low)
  | inr high ↦ sym (ap (λ t. cond t (line ∷ up_to n lines) [] ++ up_to (suc n) (cond t (behind n lines) (line ∷ lines))) high)
]

-- ---- folds

pub seen_from-append : {S : Type 0} (see : S → Event → S) (s : S) (xs ys : List TraceLine) → seen_from see s (xs ++ ys) ≡ seen_from see (seen_from see s xs) ys
seen_from-append see s [] ys = refl
seen_from-append see s (x ∷ xs) ys = seen_from-append see (see s x.1) xs ys

pub seen_next : {S : Type 0} (see : S → Event → S) (s : S) (n : ℕ) (lines : List TraceLine)
    → seen_from see s (up_to (suc n) lines) ≡ seen_from see (seen_from see s (up_to n lines)) (of_next n lines)
seen_next see s n lines = ap (seen_from see s) (up_to-next n lines) ∙ seen_from-append see s (up_to n lines) (of_next n lines)

-- what is shown of a part
pub seen_part : {S T : Type 0} (see : S → Event → S) (see' : T → Event → T) (part : S → T)
    → ((s : S) (event : Event) → part (see s event) ≡ see' (part s) event) → (s : S) (xs : List TraceLine)
    → part (seen_from see s xs) ≡ seen_from see' (part s) xs
seen_part see see' part same s [] = refl
seen_part see see' part same s (x ∷ xs) = seen_part see see' part same (see s x.1) xs ∙ ap (λ t. seen_from see' t xs) (same s x.1)

pub follows-append : {S : Type 0} (see : S → Event → S) (lawful : S → Event → Bool) (s : S) (xs ys : List TraceLine)
    → follows_lines see lawful s (xs ++ ys) ≡ true
    → (follows_lines see lawful s xs ≡ true) × (follows_lines see lawful (seen_from see s xs) ys ≡ true)
follows-append see lawful s [] ys e = (refl, e)
follows-append see lawful s (x ∷ xs) ys e =
    let parts = and_parts (lawful s x.1) (follows_lines see lawful (see s x.1) (xs ++ ys)) e in
    let rest = follows-append see lawful (see s x.1) xs ys parts.1 in
    (and_from (lawful s x.1) (follows_lines see lawful (see s x.1) xs) parts.0 rest.0, rest.1)

pub follows_next : {S : Type 0} (see : S → Event → S) (lawful : S → Event → Bool) (s : S) (n : ℕ) (lines : List TraceLine)
    → follows_lines see lawful s lines ≡ true
    → follows_lines see lawful (seen_from see s (up_to n lines)) (of_next n lines) ≡ true
follows_next see lawful s n lines e =
    let split : follows_lines see lawful s (up_to n lines ++ behind n lines) ≡ true =
    subst (λ ls. follows_lines see lawful s ls ≡ true) (sym (up_to-behind n lines)) e in
    let rest = (follows-append see lawful s (up_to n lines) (behind n lines) split).1 in
    let again : follows_lines see lawful (seen_from see s (up_to n lines)) (up_to (suc n) (behind n lines) ++ behind (suc n) (behind n lines)) ≡ true =
    subst (λ ls. follows_lines see lawful (seen_from see s (up_to n lines)) ls ≡ true) (sym (up_to-behind (suc n) (behind n lines))) rest in
    (follows-append see lawful (seen_from see s (up_to n lines)) (up_to (suc n) (behind n lines)) (behind (suc n) (behind n lines)) again).0

pub follows_up_to : {S : Type 0} (see : S → Event → S) (lawful : S → Event → Bool) (s : S) (n : ℕ) (lines : List TraceLine)
    → follows_lines see lawful s lines ≡ true → follows_lines see lawful s (up_to n lines) ≡ true
follows_up_to see lawful s n lines e =
    (follows-append see lawful s (up_to n lines) (behind n lines) (subst (λ ls. follows_lines see lawful s ls ≡ true) (sym (up_to-behind n lines)) e)).0

-- ---- tests of all lines

all-append : (test : TraceLine → Bool) (xs ys : List TraceLine) → list_all test (xs ++ ys) ≡ true → (list_all test xs ≡ true) × (list_all test ys ≡ true)
all-append test [] ys e = (refl, e)
all-append test (x ∷ xs) ys e =
    let parts = and_parts (test x) (list_all test (xs ++ ys)) e in
    let rest = all-append test xs ys parts.1 in
    (and_from (test x) (list_all test xs) parts.0 rest.0, rest.1)

pub all_next : (test : TraceLine → Bool) (n : ℕ) (lines : List TraceLine) → list_all test lines ≡ true → list_all test (of_next n lines) ≡ true
all_next test n lines e =
    let rest = (all-append test (up_to n lines) (behind n lines) (subst (λ ls. list_all test ls ≡ true) (sym (up_to-behind n lines)) e)).1 in
    (all-append test (up_to (suc n) (behind n lines)) (behind (suc n) (behind n lines))
    (subst (λ ls. list_all test ls ≡ true) (sym (up_to-behind (suc n) (behind n lines))) rest)).0

pub all_by : (test other : TraceLine → Bool) (xs : List TraceLine) → list_all test xs ≡ true → ((x : TraceLine) → test x ≡ true → other x ≡ true)
    → list_all other xs ≡ true
all_by test other [] e f = refl
all_by test other (x ∷ xs) e f =
    let parts = and_parts (test x) (list_all test xs) e in and_from (other x) (list_all other xs) (f x parts.0) (all_by test other xs parts.1 f)

above_of : (a n : ℕ) → leb a n ≡ false → n < a
above_of a n high = elim (cases_lt n a) [
  | inl above ↦ above
  | inr low ↦ let wrong : true ≡ false = sym (le-leb a n low) ∙ high in cc
]

rises_to : (tick : ℕ) (lines front : List TraceLine) (line : TraceLine) (back : List TraceLine) → RisesFrom tick lines → lines ≡ front ++ line ∷ back
    → tick ≤ line.0
rises_to tick [] [] line back rises same = cc
rises_to tick [] (y ∷ front) line back rises same = cc
rises_to tick (x ∷ lines) [] line back rises same =
    let heads : x ≡ line = cc in
    subst (λ (y : TraceLine). tick ≤ y.0) heads rises.0
rises_to tick (x ∷ lines) (y ∷ front) line back rises same =
    let rest : lines ≡ front ++ line ∷ back = cc in
    omega (arith, rises.0, rises_to x.0 lines front line back rises.1 rest)

-- lines that begin behind a tick
none_up_to : (n tick : ℕ) (lines : List TraceLine) → RisesFrom tick lines → n < tick → behind n lines ≡ lines
none_up_to n tick [] rises above = refl
none_up_to n tick (line ∷ lines) rises above = ap (λ t. cond t (behind n lines) (line ∷ lines)) (lt-leb line.0 n (omega (arith, rises.0)))

-- lines of the next tick are at it
next_at : (n tick : ℕ) (lines : List TraceLine) → RisesFrom tick lines → n < tick → list_all (λ line. line.0 == suc n) (up_to (suc n) lines) ≡ true
next_at n tick [] rises above = refl
next_at n tick (line ∷ lines) rises above = elim (cases_Bool (leb line.0 (suc n))) [
  | inl low ↦
      let at : line.0 ≡ suc n = omega (arith, leb-true line.0 (suc n) low, rises.0) in
      ap (λ t. list_all (λ (x : TraceLine). x.0 == suc n) (cond t (line ∷ up_to (suc n) lines) [])) low
      ∙ and_from (line.0 == suc n) (list_all (λ (x : TraceLine). x.0 == suc n) (up_to (suc n) lines)) (eq-eqb line.0 (suc n) at)
      (next_at n line.0 lines rises.1 (omega (arith, rises.0)))
  | inr high ↦ ap (λ t. list_all (λ (x : TraceLine). x.0 == suc n) (cond t (line ∷ up_to (suc n) lines) [])) high
]

pub next_ticks : (n tick : ℕ) (lines : List TraceLine) → RisesFrom tick lines → list_all (λ line. line.0 == suc n) (of_next n lines) ≡ true
next_ticks n tick [] rises = refl
next_ticks n tick (line ∷ lines) rises = elim (cases_Bool (leb line.0 n)) [
  | inl low ↦
      ap (λ t. list_all (λ (x : TraceLine). x.0 == suc n) (up_to (suc n) (cond t (behind n lines) (line ∷ lines)))) low ∙ next_ticks n line.0 lines rises.1
  | inr high ↦ ap (λ t. list_all (λ (x : TraceLine). x.0 == suc n) (up_to (suc n) (cond t (behind n lines) (line ∷ lines)))) high
      ∙ next_at n line.0 (line ∷ lines) (omega arith, rises.1) (above_of line.0 n high)
]

-- a line at a tick is among those of the tick
pub next_has : (test : TraceLine → Bool) (n tick : ℕ) (lines front : List TraceLine) (line : TraceLine) (back : List TraceLine) → RisesFrom tick lines
    → lines ≡ front ++ line ∷ back → line.0 ≡ suc n → list_all test (of_next n lines) ≡ true → test line ≡ true
next_has test n tick [] [] line back rises same at e = cc
next_has test n tick [] (y ∷ front) line back rises same at e = cc
next_has test n tick (x ∷ lines) [] line back rises same at e =
    let heads : x ≡ line = cc in
    let tick_of : x.0 ≡ suc n = ap (λ (y : TraceLine). y.0) heads ∙ at in
    let shown : of_next n (x ∷ lines) ≡ x ∷ up_to (suc n) lines =
    ap (λ t. up_to (suc n) (cond t (behind n lines) (x ∷ lines))) (lt-leb x.0 n (omega (arith, tick_of)))
    ∙ ap (λ t. cond t (x ∷ up_to (suc n) lines) []) (le-leb x.0 (suc n) (omega (arith, tick_of))) in
    subst (λ y. test y ≡ true) heads (and_parts (test x) (list_all test (up_to (suc n) lines)) (subst (λ ls. list_all test ls ≡ true) shown e)).0
next_has test n tick (x ∷ lines) (y ∷ front) line back rises same at e =
    let rest : lines ≡ front ++ line ∷ back = cc in
    elim (cases_Bool (leb x.0 n)) [
      | inl low ↦
          let shown : of_next n (x ∷ lines) ≡ of_next n lines = ap (λ t. up_to (suc n) (cond t (behind n lines) (x ∷ lines))) low in
          next_has test n x.0 lines front line back rises.1 rest at (subst (λ ls. list_all test ls ≡ true) shown e)
      | inr high ↦
          let above : n < x.0 = above_of x.0 n high in
          let below : x.0 ≤ line.0 = rises_to x.0 lines front line back rises.1 rest in
          let shown : of_next n (x ∷ lines) ≡ x ∷ up_to (suc n) lines =
          ap (λ t. up_to (suc n) (cond t (behind n lines) (x ∷ lines))) high
          ∙ ap (λ t. cond t (x ∷ up_to (suc n) lines) []) (le-leb x.0 (suc n) (omega (arith, below, at))) in
          let tail_all = (and_parts (test x) (list_all test (up_to (suc n) lines)) (subst (λ ls. list_all test ls ≡ true) shown e)).1 in
          next_has test n x.0 lines front line back rises.1 rest at
          (subst (λ ls. list_all test (up_to (suc n) ls) ≡ true) (sym (none_up_to n x.0 lines rises.1 above)) tail_all)
    ]

-- ---- nobody is moved behind the choice

-- the same of the lines of one tick
abbrev pub quiet : Bool → List TraceLine → Bool
quiet chosen [] = true
quiet chosen (line ∷ lines) = (not chosen || is_still line.1) && quiet (chosen || is_choice line.1) lines

quiet_on : (n : ℕ) (chosen : Bool) (lines : List TraceLine) → RisesFrom n lines → chooses_from n chosen lines ≡ true → quiet chosen (up_to n lines) ≡ true
quiet_on n chosen [] rises e = refl
quiet_on n chosen (line ∷ lines) rises e = elim (cases_Bool (leb line.0 n)) [
  | inr high ↦ ap (λ t. quiet chosen (cond t (line ∷ up_to n lines) [])) high
  | inl low ↦
      let at : line.0 ≡ n = omega (arith, leb-true line.0 n low, rises.0) in
      let here : (line.0 == n && chosen) ≡ chosen = ap (λ t. t && chosen) (eq-eqb line.0 n at) in
      let parts =
      and_parts (not chosen || is_still line.1) (chooses_from line.0 (chosen || is_choice line.1) lines)
      (sym (ap (λ t. (not t || is_still line.1) && chooses_from line.0 (t || is_choice line.1) lines) here) ∙ e) in
      ap (λ t. quiet chosen (cond t (line ∷ up_to n lines) [])) low
      ∙ and_from (not chosen || is_still line.1) (quiet (chosen || is_choice line.1) (up_to n lines)) parts.0
      (quiet_on n (chosen || is_choice line.1) lines (subst (λ k. RisesFrom k lines) at rises.1)
      (subst (λ k. chooses_from k (chosen || is_choice line.1) lines ≡ true) at parts.1))
]

pub quiet_next : (n tick : ℕ) (chosen : Bool) (lines : List TraceLine) → RisesFrom tick lines → tick ≤ n → chooses_from tick chosen lines ≡ true
    → quiet false (of_next n lines) ≡ true
quiet_next n tick chosen [] rises low e = refl
quiet_next n tick chosen (line ∷ lines) rises low e =
    let parts = and_parts (not (line.0 == tick && chosen) || is_still line.1) (chooses_from line.0 ((line.0 == tick && chosen) || is_choice line.1) lines) e in
    elim (cases_Bool (leb line.0 n)) [
      | inl under ↦ ap (λ t. quiet false (up_to (suc n) (cond t (behind n lines) (line ∷ lines)))) under
          ∙ quiet_next n line.0 ((line.0 == tick && chosen) || is_choice line.1) lines rises.1 (leb-true line.0 n under) parts.1
      | inr over ↦
          let above : n < line.0 = above_of line.0 n over in
          ap (λ t. quiet false (up_to (suc n) (cond t (behind n lines) (line ∷ lines)))) over
          ∙ elim (cases_Bool (leb line.0 (suc n))) [
            | inr high ↦ ap (λ t. quiet false (cond t (line ∷ up_to (suc n) lines) [])) high
            | inl at ↦
                let is : line.0 ≡ suc n = omega (arith, leb-true line.0 (suc n) at, above) in
                let new : (line.0 == tick && chosen) ≡ false = ap (λ t. t && chosen) (ne_eqb line.0 tick (λ same. omega (arith, same, above))) in
                let rest : chooses_from line.0 (is_choice line.1) lines ≡ true =
                sym (ap (λ t. chooses_from line.0 (t || is_choice line.1) lines) new) ∙ parts.1 in
                ap (λ t. quiet false (cond t (line ∷ up_to (suc n) lines) [])) at
                ∙ quiet_on (suc n) (is_choice line.1) lines (subst (λ k. RisesFrom k lines) is rises.1)
                (subst (λ k. chooses_from k (is_choice line.1) lines ≡ true) is rest)
          ]
    ]

-- ---- who enters is entered upon first

-- the same of the lines of one tick, where these names were met in it before
abbrev pub entering : List Who → List TraceLine → Bool
entering touched [] = true
entering touched (line ∷ lines) = is_fresh_entry touched line.1 && entering (touched_by line.1 ++ touched) lines

entering_on : (n : ℕ) (touched : List Who) (lines : List TraceLine) → RisesFrom n lines → enters_from n touched lines ≡ true
    → entering touched (up_to n lines) ≡ true
entering_on n touched [] rises e = refl
entering_on n touched (line ∷ lines) rises e = elim (cases_Bool (leb line.0 n)) [
  | inr high ↦ ap (λ t. entering touched (cond t (line ∷ up_to n lines) [])) high
  | inl low ↦
      let at : line.0 ≡ n = omega (arith, leb-true line.0 n low, rises.0) in
      let here : touched_at (line.0 == n) touched ≡ touched = ap (λ t. touched_at t touched) (eq-eqb line.0 n at) in
      let parts =
      and_parts (is_fresh_entry touched line.1) (enters_from line.0 (touched_by line.1 ++ touched) lines)
      (sym (ap (λ t. is_fresh_entry t line.1 && enters_from line.0 (touched_by line.1 ++ t) lines) here) ∙ e) in
      ap (λ t. entering touched (cond t (line ∷ up_to n lines) [])) low
      ∙ and_from (is_fresh_entry touched line.1) (entering (touched_by line.1 ++ touched) (up_to n lines)) parts.0
      (entering_on n (touched_by line.1 ++ touched) lines (subst (λ k. RisesFrom k lines) at rises.1)
      (subst (λ k. enters_from k (touched_by line.1 ++ touched) lines ≡ true) at parts.1))
]

pub entering_next : (n tick : ℕ) (touched : List Who) (lines : List TraceLine) → RisesFrom tick lines → tick ≤ n → enters_from tick touched lines ≡ true
    → entering [] (of_next n lines) ≡ true
entering_next n tick touched [] rises low e = refl
entering_next n tick touched (line ∷ lines) rises low e =
    let parts =
    and_parts (is_fresh_entry (touched_at (line.0 == tick) touched) line.1)
    (enters_from line.0 (touched_by line.1 ++ touched_at (line.0 == tick) touched) lines) e in
    elim (cases_Bool (leb line.0 n)) [
      | inl before ↦ ap (λ t. entering [] (up_to (suc n) (cond t (behind n lines) (line ∷ lines)))) before
          ∙ entering_next n line.0 (touched_by line.1 ++ touched_at (line.0 == tick) touched) lines rises.1 (leb-true line.0 n before) parts.1
      | inr over ↦
          let above : n < line.0 = above_of line.0 n over in
          ap (λ t. entering [] (up_to (suc n) (cond t (behind n lines) (line ∷ lines)))) over
          ∙ elim (cases_Bool (leb line.0 (suc n))) [
            | inr high ↦ ap (λ t. entering [] (cond t (line ∷ up_to (suc n) lines) [])) high
            | inl at ↦
                let is : line.0 ≡ suc n = omega (arith, leb-true line.0 (suc n) at, above) in
                let new : touched_at (line.0 == tick) touched ≡ [] = ap (λ t. touched_at t touched) (ne_eqb line.0 tick (λ same. omega (arith, same, above))) in
                let first : is_fresh_entry [] line.1 ≡ true = sym (ap (λ t. is_fresh_entry t line.1) new) ∙ parts.0 in
                let rest : enters_from line.0 (touched_by line.1 ++ []) lines ≡ true =
                sym (ap (λ t. enters_from line.0 (touched_by line.1 ++ t) lines) new) ∙ parts.1 in
                ap (λ t. entering [] (cond t (line ∷ up_to (suc n) lines) [])) at
                ∙ and_from (is_fresh_entry [] line.1) (entering (touched_by line.1 ++ []) (up_to (suc n) lines)) first
                (entering_on (suc n) (touched_by line.1 ++ []) lines (subst (λ k. RisesFrom k lines) is rises.1)
                (subst (λ k. enters_from k (touched_by line.1 ++ []) lines ≡ true) is rest))
          ]
    ]
