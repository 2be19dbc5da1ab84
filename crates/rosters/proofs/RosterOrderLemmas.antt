-- Numbers in order: what stays in order where one is left out, taken back or put at an end, and where a number stands.
use Rattle.std.proofs.Common.{◌≡◌, ltb, ◌≢◌, ℕ, ◌+◌, ◌-◌, ◌<◌, ◌≤◌, suc, zero, Bool, true, false, not, ◌||◌, cond, List, [], ◌∷◌, ◌++◌, map}
use Rattle.std.proofs.Common.{Option, Some, None, length, remove, take, refl, sym, ap, ◌∙◌, inl, inr, subst, arith}
use Rattle.std.specs.List.{position_from, position_or_len, slice_get}
use Rattle.std.proofs.lemmas.Bool.{cases_lt, cases_order, cases_Bool, true≢false}
use Rattle.std.proofs.lemmas.Bool.Decides.{nat_tests}
use Rattle.std.proofs.lemmas.Option.{slice_get_within}
use Rattle.std.proofs.lemmas.List.{take_more, get_or_past, get_or_append_left, get_or_push, get_or-take, length_push, length-take-le, length-map}
use Rattle.std.proofs.lemmas.List.Edits.{length-remove, get_or-remove_below, get_or-remove_above}
use Rattle.std.proofs.lemmas.List.Sums.{position_or_len_is, passes_at_first}
use Rattle.std.proofs.lemmas.Iterator.Adapters.{position_from-zero}
use Rattle.profile_image.specs.Words.{without}
use Rattle.rosters.proofs.PlaceLemmas.{without-found, without-none}
use Rattle.rosters.specs.Numbered.{has_number}
use Rattle.rosters.specs.RosterNotes.{comes_before, number_at, InOrder, IsOrdered, IsOrderOf}
use Rattle.rosters.specs.declared.roster_notes.Order.{Order}
use Rattle.rosters.specs.declared.roster_notes.Order.TheVariants.{Rising, Falling}

-- ---- two numbers

pub before-trans : (o : Order) (a b c : Option ℕ) → comes_before o a b ≡ true → comes_before o b c ≡ true → comes_before o a c ≡ true
before-trans o None b c p q = cc
before-trans o (Some a) None c p q = cc
before-trans o (Some a) (Some b) None p q = cc
before-trans Rising (Some a) (Some b) (Some c) p q = grind (arith, nat_tests)
before-trans Falling (Some a) (Some b) (Some c) p q = grind (arith, nat_tests)

-- a number that comes before another is not that one
pub has_number-before : (o : Order) (n : ℕ) (a b : Option ℕ) → comes_before o a b ≡ true → has_number n b ≡ true → has_number n a ≡ false
has_number-before o n None b p q = cc
has_number-before o n (Some a) None p q = cc
has_number-before Rising n (Some a) (Some b) p q = grind (arith, nat_tests)
has_number-before Falling n (Some a) (Some b) p q = grind (arith, nat_tests)

-- no number that comes behind one is that one
pub has_number-behind : (o : Order) (n : ℕ) (a b : Option ℕ) → comes_before o a b ≡ true → comes_before o a (Some n) ≡ false → has_number n b ≡ false
has_number-behind o n None b p q = cc
has_number-behind o n (Some a) None p q = cc
has_number-behind Rising n (Some a) (Some b) p q = grind (arith, nat_tests)
has_number-behind Falling n (Some a) (Some b) p q = grind (arith, nat_tests)

-- no number that comes behind that one is it too
has_number-after : (o : Order) (n : ℕ) (a b : Option ℕ) → comes_before o a b ≡ true → has_number n a ≡ true → has_number n b ≡ false
has_number-after o n None b p q = cc
has_number-after o n (Some a) None p q = cc
has_number-after Rising n (Some a) (Some b) p q = grind (arith, nat_tests)
has_number-after Falling n (Some a) (Some b) p q = grind (arith, nat_tests)

-- what comes before a number comes before what has it
pub before-number : (o : Order) (n : ℕ) (a b : Option ℕ) → has_number n b ≡ true → comes_before o a (Some n) ≡ true → comes_before o a b ≡ true
before-number o n a None p q = cc
before-number o n None (Some b) p q = cc
before-number Rising n (Some a) (Some b) p q = grind (arith, nat_tests)
before-number Falling n (Some a) (Some b) p q = grind (arith, nat_tests)

has_number-self : (n : ℕ) → has_number n (Some n) ≡ true
has_number-self n = grind (arith, nat_tests)

pub has_number-less : (o : Order) (n : ℕ) (a : Option ℕ) → comes_before o a (Some n) ≡ true → has_number n a ≡ false
has_number-less o n a p = has_number-before o n a (Some n) p (has_number-self n)

-- ---- lists

as-before : (o : Order) (a b c d : Option ℕ) → a ≡ c → b ≡ d → comes_before o c d ≡ true → comes_before o a b ≡ true
as-before o a b c d e f h = cc

remove-past : {X : Type 0} (xs : List X) (p : ℕ) → length xs ≤ p → remove xs p ≡ xs
remove-past [] zero le = refl
remove-past [] (suc p) le = refl
remove-past (x ∷ xs) zero le = absurd (omega arith)
remove-past (x ∷ xs) (suc p) le = ap (λ ys. x ∷ ys) (remove-past xs p (omega arith))

pub map-remove : {X Y : Type 0} (f : X → Y) (xs : List X) (p : ℕ) → map f (remove xs p) ≡ remove (map f xs) p
map-remove f [] zero = refl
map-remove f [] (suc p) = refl
map-remove f (x ∷ xs) zero = refl
map-remove f (x ∷ xs) (suc p) = ap (λ ys. f x ∷ ys) (map-remove f xs p)

-- a list of one number or none is in any order
pub in-order-short : (o : Order) (ns : List (Option ℕ)) → length ns ≤ 1 → InOrder o ns
in-order-short o ns le = record { at = λ i j lt within. absurd (omega arith) }

module _ (o : Order) (ns : List (Option ℕ)) (p : ℕ) where
  within-remove : p < length ns → InOrder o ns → InOrder o (remove ns p)
  within-remove lt h = record {
    at = λ i j less within.
        let len = length-remove ns p lt in
        elim (cases_lt j p) [
          | inl below ↦
              as-before o _ _ _ _ (get_or-remove_below ns p None i (omega arith) lt) (get_or-remove_below ns p None j below lt) (h.at i j less (omega arith))
          | inr above ↦ elim (cases_lt i p) [
            | inl below ↦
                as-before o _ _ _ _ (get_or-remove_below ns p None i below lt) (get_or-remove_above ns p None j above lt)
                (h.at i (j + 1) (omega arith) (omega arith))
            | inr behind ↦
                as-before o _ _ _ _ (get_or-remove_above ns p None i behind lt) (get_or-remove_above ns p None j above lt)
                (h.at (i + 1) (j + 1) (omega arith) (omega arith))
          ]
        ];
  }

  -- one is left out
  pub in-order-remove : InOrder o ns → InOrder o (remove ns p)
  in-order-remove h = elim (cases_lt p (length ns)) [
    | inl lt ↦ within-remove lt h
    | inr le ↦ rw (remove-past ns p le) h
  ]

  module _ (lt : p < length ns) (h : InOrder o (remove ns p)) where
    -- the others, by their places in the whole list
    both-below : (i j : ℕ) → i < j → j < p → comes_before o (number_at ns i) (number_at ns j) ≡ true
    both-below i j less below =
        let len = length-remove ns p lt in
        as-before o _ _ _ _ (sym (get_or-remove_below ns p None i (omega arith) lt)) (sym (get_or-remove_below ns p None j below lt))
        (h.at i j less (omega arith))

    either-side : (i j : ℕ) → i < p → p ≤ j → j + 1 < length ns → comes_before o (number_at ns i) (number_at ns (j + 1)) ≡ true
    either-side i j below above within =
        let len = length-remove ns p lt in
        as-before o _ _ _ _ (sym (get_or-remove_below ns p None i below lt)) (sym (get_or-remove_above ns p None j above lt))
        (h.at i j (omega arith) (omega arith))

    both-above : (i j : ℕ) → p ≤ i → i < j → j + 1 < length ns → comes_before o (number_at ns (i + 1)) (number_at ns (j + 1)) ≡ true
    both-above i j above less within =
        let len = length-remove ns p lt in
        as-before o _ _ _ _ (sym (get_or-remove_above ns p None i above lt)) (sym (get_or-remove_above ns p None j (omega arith) lt))
        (h.at i j less (omega arith))

    -- one comes behind the one in front of it
    module _ (front : (i : ℕ) → i + 1 ≡ p → comes_before o (number_at ns i) (number_at ns p) ≡ true) where
      before-it : (i q : ℕ) → i ≤ q → q + 1 ≡ p → comes_before o (number_at ns i) (number_at ns p) ≡ true
      before-it i q le e = elim (cases_order i q) [
        | inl same ↦ front i (omega arith)
        | inr apart ↦ elim apart [
          | inl less ↦ before-trans o _ _ _ (both-below i q less (omega arith)) (front q e)
          | inr more ↦ absurd (omega arith)
        ]
      ]

      before-lent : (k : ℕ) → k < p → comes_before o (number_at ns k) (number_at ns p) ≡ true
      before-lent k less = before-it k (p - 1) (omega arith) (omega arith)

    module _
        (front : (i : ℕ) → i + 1 ≡ p → comes_before o (number_at ns i) (number_at ns p) ≡ true)
        (back : p + 1 < length ns → comes_before o (number_at ns p) (number_at ns (p + 1)) ≡ true) where
      behind-it : (j : ℕ) → p ≤ j → j + 1 < length ns → comes_before o (number_at ns p) (number_at ns (j + 1)) ≡ true
      behind-it j le within = elim (cases_order p j) [
        | inl same ↦ as-before o _ _ _ _ refl (ap (λ k. number_at ns (k + 1)) (sym same)) (back (omega arith))
        | inr apart ↦ elim apart [
          | inl less ↦ before-trans o _ _ _ (back (omega arith)) (both-above p j (omega arith) less within)
          | inr more ↦ absurd (omega arith)
        ]
      ]

      any-two : (i j : ℕ) → i < j → j < length ns → comes_before o (number_at ns i) (number_at ns j) ≡ true
      any-two i j less within = elim (cases_order j p) [
        | inl same ↦ rw same (before-lent front i (omega arith))
        | inr apart ↦ elim apart [
          | inl below ↦ both-below i j less below
          | inr above ↦
              let next : j - 1 + 1 ≡ j = omega arith in
              elim (cases_order i p) [
                | inl same ↦ rw (same, ← next) (behind-it (j - 1) (omega arith) (omega arith))
                | inr either ↦ elim either [
                  | inl below ↦ rw (← next) (either-side i (j - 1) below (omega arith) (omega arith))
                  | inr behind ↦
                      let too : i - 1 + 1 ≡ i = omega arith in
                      rw (← next, ← too) (both-above (i - 1) (j - 1) (omega arith) (omega arith) (omega arith))
                ]
              ]
        ]
      ]

      -- one is taken back that stands in order between its neighbours
      pub in-order-insert : InOrder o ns
      in-order-insert = record { at = any-two }

-- ---- at an end

first-before : (o : Order) (n : Option ℕ) (ns : List (Option ℕ)) (j : ℕ) → InOrder o ns → comes_before o n (number_at ns 0) ≡ true → j < length ns
    → comes_before o n (number_at ns j) ≡ true
first-before o n ns zero h e lt = e
first-before o n ns (suc j) h e lt = before-trans o n (number_at ns 0) (number_at ns (suc j)) e (h.at 0 (suc j) (omega arith) lt)

front-two : (o : Order) (n : Option ℕ) (ns : List (Option ℕ)) → InOrder o ns → comes_before o n (number_at ns 0) ≡ true → (i j : ℕ) → i < j
    → j < length (n ∷ ns) → comes_before o (number_at (n ∷ ns) i) (number_at (n ∷ ns) j) ≡ true
front-two o n ns h e i zero less within = absurd (omega arith)
front-two o n ns h e zero (suc j) less within = first-before o n ns j h e (omega arith)
front-two o n ns h e (suc i) (suc j) less within = h.at i j (omega arith) (omega arith)

pub ordered-front : (found : Option Order) (n : Option ℕ) (ns : List (Option ℕ)) → IsOrdered found ns → IsOrderOf found n (number_at ns 0)
    → IsOrdered found (n ∷ ns)
ordered-front None n ns h e = tt
ordered-front (Some o) n ns h e = record { at = front-two o n ns h e }

module _ (o : Order) (n : Option ℕ) (ns : List (Option ℕ)) (h : InOrder o ns)
    (last : (k : ℕ) → k + 1 ≡ length ns → comes_before o (number_at ns k) n ≡ true) where
  before-last : (i k : ℕ) → i ≤ k → k + 1 ≡ length ns → comes_before o (number_at ns i) n ≡ true
  before-last i k le e = elim (cases_order i k) [
    | inl same ↦ last i (omega arith)
    | inr apart ↦ elim apart [
      | inl less ↦ before-trans o _ _ _ (h.at i k less (omega arith)) (last k e)
      | inr more ↦ absurd (omega arith)
    ]
  ]

  behind-two : (i j : ℕ) → i < j → j < length (ns ++ n ∷ []) → comes_before o (number_at (ns ++ n ∷ []) i) (number_at (ns ++ n ∷ []) j) ≡ true
  behind-two i j less within =
      let len = length_push ns n in
      elim (cases_lt j (length ns)) [
        | inl lt ↦ as-before o _ _ _ _ (get_or_append_left ns (n ∷ []) None i (omega arith)) (get_or_append_left ns (n ∷ []) None j lt) (h.at i j less lt)
        | inr le ↦
            as-before o _ _ _ _ (get_or_append_left ns (n ∷ []) None i (omega arith)) (get_or_push ns n None j (omega arith))
            (before-last i (length ns - 1) (omega arith) (omega arith))
      ]

  in-order-behind : InOrder o (ns ++ n ∷ [])
  in-order-behind = record { at = behind-two }

pub ordered-behind : (found : Option Order) (n : Option ℕ) (ns : List (Option ℕ)) (place : ℕ) → place ≤ length ns → IsOrdered found (take place ns)
    → IsOrderOf found (number_at ns (place - 1)) n → IsOrdered found (take place ns ++ n ∷ [])
ordered-behind None n ns place le h e = tt
ordered-behind (Some o) n ns place le h e = in-order-behind o n (take place ns) h (λ k last.
    let len = length-take-le place ns le in
    let at : place - 1 ≡ k = omega arith in
    as-before o _ _ _ _ (get_or-take place ns k None (omega arith) ∙ ap (number_at ns) (sym at)) refl e)

-- the last number of a list in order comes behind the one before it
pub last-behind : (o : Order) (n : Option ℕ) (ns : List (Option ℕ)) (place : ℕ) → place ≤ length ns → 0 < place → InOrder o (take place ns ++ n ∷ [])
    → comes_before o (number_at ns (place - 1)) n ≡ true
last-behind o n ns place le more h =
    let len = length-take-le place ns le in
    let whole = length_push (take place ns) n in
    as-before o _ _ _ _
    (sym (get_or_append_left (take place ns) (n ∷ []) None (place - 1) (omega arith) ∙ get_or-take place ns (place - 1) None (omega arith)))
    (sym (get_or_push (take place ns) n None place len))
    (h.at (place - 1) place (omega arith) (omega arith))

-- the numbers up to a place are in order if all are
pub in-order-take : (o : Order) (ns : List (Option ℕ)) (place : ℕ) → place ≤ length ns → InOrder o ns → InOrder o (take place ns)
in-order-take o ns place le h = record {
  at = λ i j less within.
      let len = length-take-le place ns le in
      as-before o _ _ _ _ (get_or-take place ns i None (omega arith)) (get_or-take place ns j None (omega arith)) (h.at i j less (omega arith));
}

pub in-order-with : {X : Type 0} (f : X → Option ℕ) (o : Order) (xs : List X) (p : ℕ) → p < length xs → InOrder o (map f (remove xs p))
    → ((i : ℕ) → i + 1 ≡ p → comes_before o (number_at (map f xs) i) (number_at (map f xs) p) ≡ true)
    → (p + 1 < length xs → comes_before o (number_at (map f xs) p) (number_at (map f xs) (p + 1)) ≡ true) → InOrder o (map f xs)
in-order-with f o xs p lt h front back =
    let len = length-map xs f in
    in-order-insert o (map f xs) p (omega arith) (subst (InOrder o) (map-remove f xs p) h) front (λ within. back (omega arith))

-- ---- the number of an item

pub number-shown : {X : Type 0} (f : X → Option ℕ) (xs : List X) (p : ℕ) (x : X) → Some x ≡ slice_get xs p → f x ≡ number_at (map f xs) p
number-shown f [] p x e = cc
number-shown f (y ∷ xs) zero x e = cc
number-shown f (y ∷ xs) (suc p) x e = number-shown f xs p x e

pub number-none : {X : Type 0} (f : X → Option ℕ) (xs : List X) (p : ℕ) → None ≡ slice_get xs p → None ≡ number_at (map f xs) p
number-none f [] p e = refl
number-none f (y ∷ xs) zero e = cc
number-none f (y ∷ xs) (suc p) e = number-none f xs p e

number-kept : (ns : List (Option ℕ)) (place p : ℕ) → place ≡ p + 1 → number_at (remove ns place) p ≡ number_at ns p
number-kept ns place p e = elim (cases_lt place (length ns)) [
  | inl lt ↦ get_or-remove_below ns place None p (omega arith) lt
  | inr le ↦ ap (λ ms. number_at ms p) (remove-past ns place le)
]

-- the number in front of a place stays where the item at that place goes
pub front-kept : {X : Type 0} (f : X → Option ℕ) (xs : List X) (place p : ℕ) → place ≡ p + 1
    → number_at (map f (remove xs place)) p ≡ number_at (map f xs) p
front-kept f xs place p e = ap (λ ns. number_at ns p) (map-remove f xs place) ∙ number-kept (map f xs) place p e

pub ordered-remove : {X : Type 0} (f : X → Option ℕ) (found : Option Order) (xs : List X) (p : ℕ) → IsOrdered found (map f xs)
    → IsOrdered found (map f (remove xs p))
ordered-remove f None xs p h = tt
ordered-remove f (Some o) xs p h = subst (InOrder o) (sym (map-remove f xs p)) (in-order-remove o (map f xs) p h)

-- ---- where a number stands

no-item : (n : ℕ) (ns : List (Option ℕ)) (p : ℕ) → length ns ≤ p → has_number n (number_at ns p) ≡ false
no-item n ns p le = ap (has_number n) (get_or_past ns p None le)

none-before : (o : Order) (b : Option ℕ) (ns : List (Option ℕ)) (p : ℕ) → length ns ≤ p → comes_before o (number_at ns p) b ≡ false
none-before o b ns p le = ap (λ a. comes_before o a b) (get_or_past ns p None le)

has-within : (n : ℕ) (ns : List (Option ℕ)) (p : ℕ) → has_number n (number_at ns p) ≡ true → p < length ns
has-within n ns p e = elim (cases_lt p (length ns)) [
  | inl lt ↦ lt
  | inr le ↦ absurd (true≢false (sym e ∙ no-item n ns p le))
]

before-within : (o : Order) (b : Option ℕ) (ns : List (Option ℕ)) (p : ℕ) → comes_before o (number_at ns p) b ≡ true → p < length ns
before-within o b ns p e = elim (cases_lt p (length ns)) [
  | inl lt ↦ lt
  | inr le ↦ absurd (true≢false (sym e ∙ none-before o b ns p le))
]

position-absent : (n : ℕ) (ns : List (Option ℕ)) → ((k : ℕ) → k < length ns → has_number n (number_at ns k) ≡ false) → position_from (has_number n) 0 ns ≡ None
position-absent n ns other =
    let first = position_or_len_is (has_number n) ns (length ns) None (omega arith) (λ k lt. other k lt) (λ lt. absurd (omega arith)) in
    sym (position_from-zero (has_number n) ns) ∙ grind (arith, nat_tests)

found-first : (q len p : ℕ) → cond (ltb q len) (Some q) None ≡ Some p → (q < len) × (q ≡ p)
found-first q len p e = (grind (arith, nat_tests), grind (arith, nat_tests))

has-found : (n : ℕ) (ns : List (Option ℕ)) (p : ℕ) → position_from (has_number n) 0 ns ≡ Some p → has_number n (number_at ns p) ≡ true
has-found n ns p e =
    let first = found-first (position_or_len (has_number n) ns) (length ns) p (position_from-zero (has_number n) ns ∙ e) in
    ap (λ k. has_number n (number_at ns k)) (sym first.1) ∙ passes_at_first (has_number n) ns None first.0

module _ (o : Order) (n : ℕ) (ns : List (Option ℕ)) (h : InOrder o ns) where
  -- all up to a number that comes before one come before it
  pub all-before : (m : ℕ) → comes_before o (number_at ns m) (Some n) ≡ true → (k : ℕ) → k < m + 1 → comes_before o (number_at ns k) (Some n) ≡ true
  all-before m e k less = elim (cases_order k m) [
    | inl same ↦ rw same e
    | inr apart ↦ elim apart [
      | inl lt ↦ before-trans o _ _ _ (h.at k m lt (before-within o (Some n) ns m e)) e
      | inr gt ↦ absurd (omega arith)
    ]
  ]

  -- none from a number on that does not come before one comes before it
  pub none-before-from : (m : ℕ) → comes_before o (number_at ns m) (Some n) ≡ false → (k : ℕ) → m ≤ k → comes_before o (number_at ns k) (Some n) ≡ false
  none-before-from m e k le = elim (cases_Bool (comes_before o (number_at ns k) (Some n))) [
    | inr fails ↦ fails
    | inl holds ↦ elim (cases_order m k) [
      | inl same ↦ rw (← same) e
      | inr apart ↦ elim apart [
        | inl lt ↦ absurd (true≢false (sym (before-trans o _ _ _ (h.at m k lt (before-within o (Some n) ns k holds)) holds) ∙ e))
        | inr gt ↦ absurd (omega arith)
      ]
    ]
  ]

  pub position-found : (p : ℕ) → has_number n (number_at ns p) ≡ true → position_from (has_number n) 0 ns ≡ Some p
  position-found p e =
      let within = has-within n ns p e in
      let first = position_or_len_is (has_number n) ns p None (omega arith) (λ k lt. has_number-before o n _ _ (h.at k p lt within) e) (λ _. e) in
      sym (position_from-zero (has_number n) ns) ∙ grind (arith, nat_tests)

  none-has : (p : ℕ) → ((k : ℕ) → k < p → comes_before o (number_at ns k) (Some n) ≡ true)
      → ((k : ℕ) → p ≤ k → comes_before o (number_at ns k) (Some n) ≡ false) → has_number n (number_at ns p) ≡ false → (k : ℕ) → k < length ns
      → has_number n (number_at ns k) ≡ false
  none-has p front back e k within = elim (cases_order k p) [
    | inl same ↦ rw same e
    | inr apart ↦ elim apart [
      | inl lt ↦ has_number-less o n _ (front k lt)
      | inr gt ↦ has_number-behind o n (number_at ns p) _ (h.at p k gt within) (back p (omega arith))
    ]
  ]

  pub position-none : (p : ℕ) → ((k : ℕ) → k < p → comes_before o (number_at ns k) (Some n) ≡ true)
      → ((k : ℕ) → p ≤ k → comes_before o (number_at ns k) (Some n) ≡ false) → has_number n (number_at ns p) ≡ false → position_from (has_number n) 0 ns ≡ None
  position-none p front back e = position-absent n ns (none-has p front back e)

  -- where a number stands, no other item has it
  others-differ : (p : ℕ) → has_number n (number_at ns p) ≡ true → (k : ℕ) → k < length (remove ns p) → has_number n (number_at (remove ns p) k) ≡ false
  others-differ p e k within =
      let lt = has-within n ns p e in
      let len = length-remove ns p lt in
      elim (cases_lt k p) [
        | inl below ↦ ap (has_number n) (get_or-remove_below ns p None k below lt) ∙ has_number-before o n _ _ (h.at k p below lt) e
        | inr above ↦
            ap (has_number n) (get_or-remove_above ns p None k above lt)
            ∙ has_number-after o n (number_at ns p) _ (h.at p (k + 1) (omega arith) (omega arith)) e
      ]

  pub position-removed : (p : ℕ) → position_from (has_number n) 0 ns ≡ Some p → position_from (has_number n) 0 (remove ns p) ≡ None
  position-removed p e = position-absent n (remove ns p) (others-differ p (has-found n ns p e))

-- an item that has a number and comes behind the one in front of it is the first that has it, if the others are in order
pub position-lent : {X : Type 0} (f : X → Option ℕ) (o : Order) (n p : ℕ) (xs : List X) → InOrder o (map f (remove xs p))
    → has_number n (number_at (map f xs) p) ≡ true
    → ((i : ℕ) → i + 1 ≡ p → p < length xs → comes_before o (number_at (map f xs) i) (number_at (map f xs) p) ≡ true)
    → position_from (has_number n) 0 (map f xs) ≡ Some p
position-lent f o n p xs h e front =
    let ns = map f xs in
    let within = has-within n ns p e in
    let len = length-map xs f in
    let others = subst (InOrder o) (map-remove f xs p) h in
    let before = before-lent o ns p within others (λ i last. front i last (omega arith)) in
    let first = position_or_len_is (has_number n) ns p None (omega arith) (λ k lt. has_number-before o n _ _ (before k lt) e) (λ _. e) in
    sym (position_from-zero (has_number n) ns) ∙ grind (arith, nat_tests)

-- what is free of a number, where a place is behind it
behind-free : (a b : Bool) → a ≡ false → (a || not b) ≡ true → b ≡ false
behind-free true b f g = cc
behind-free false true f g = cc
behind-free false false f g = refl

not-below : (k p : ℕ) → p < k → ltb k p ≡ false
not-below k p lt = grind (arith, nat_tests)

above-apart : (k p : ℕ) → p ≤ k → k ≢ p → p < k
above-apart k p le apart = elim (cases_order k p) [
  | inl same ↦ absurd (apart same)
  | inr either ↦ elim either [
    | inl below ↦ absurd (omega arith)
    | inr above ↦ above
  ]
]

-- an item beside a lent one that has no such number in front of it is the first that has its number, if the others are in order
module _ (o : Order) (n p k : ℕ) (ns : List (Option ℕ)) (e : has_number n (number_at ns k) ≡ true) (apart : k ≢ p)
    (free : (ltb k p || not (has_number n (number_at ns p))) ≡ true) where
  pair-beside : p < length ns → InOrder o (remove ns p) → (i : ℕ) → i < k → k < length ns → i < p → comes_before o (number_at ns i) (number_at ns k) ≡ true
  pair-beside lt h i less within below = elim (cases_lt k p) [
    | inl under ↦ both-below o ns p lt h i k less under
    | inr over ↦
        let far = above-apart k p over apart in
        let next : k - 1 + 1 ≡ k = omega arith in
        subst (λ q. comes_before o (number_at ns i) (number_at ns q) ≡ true) next
        (either-side o ns p lt h i (k - 1) below (omega arith) (omega arith))
  ]

  pair-behind : p < length ns → InOrder o (remove ns p) → (i : ℕ) → i < k → k < length ns → p < i → comes_before o (number_at ns i) (number_at ns k) ≡ true
  pair-behind lt h i less within above =
      let first : i - 1 + 1 ≡ i = omega arith in
      let next : k - 1 + 1 ≡ k = omega arith in
      subst (λ q. comes_before o (number_at ns q) (number_at ns k) ≡ true) first
      (subst (λ q. comes_before o (number_at ns (i - 1 + 1)) (number_at ns q) ≡ true) next
      (both-above o ns p lt h (i - 1) (k - 1) (omega arith) (omega arith) (omega arith)))

  none-beside : p < length ns → InOrder o (remove ns p) → k < length ns → (i : ℕ) → i < k → has_number n (number_at ns i) ≡ false
  none-beside lt h within i less = elim (cases_order i p) [
    | inl same ↦
        ap (λ q. has_number n (number_at ns q)) same
        ∙ behind-free (ltb k p) (has_number n (number_at ns p)) (not-below k p (subst (λ q. q < k) same less)) free
    | inr either ↦ elim either [
      | inl below ↦ has_number-before o n _ _ (pair-beside lt h i less within below) e
      | inr above ↦ has_number-before o n _ _ (pair-behind lt h i less within above) e
    ]
  ]

  others-free : InOrder o (remove ns p) → k < length ns → (i : ℕ) → i < k → has_number n (number_at ns i) ≡ false
  others-free h within i less = elim (cases_lt p (length ns)) [
    | inl lt ↦ none-beside lt h within i less
    | inr le ↦ has_number-before o n _ _ ((subst (InOrder o) (remove-past ns p le) h).at i k less within) e
  ]

  pub position-beside : InOrder o (remove ns p) → position_from (has_number n) 0 ns ≡ Some k
  position-beside h =
      let within = has-within n ns k e in
      let first = position_or_len_is (has_number n) ns k None (omega arith) (λ i less. others-free h within i less) (λ _. e) in
      sym (position_from-zero (has_number n) ns) ∙ grind (arith, nat_tests)

pub position-map : {X : Type 0} (f : X → Option ℕ) (n i : ℕ) (xs : List X)
    → position_from (has_number n) i (map f xs) ≡ position_from (λ x. has_number n (f x)) i xs
position-map f n i [] = refl
position-map f n i (x ∷ xs) = ap (cond (has_number n (f x)) (Some i)) (position-map f n (i + 1) xs)

pub forget-found : {X : Type 0} (f : X → Option ℕ) (o : Order) (n p : ℕ) (xs : List X) → InOrder o (map f xs)
    → position_from (has_number n) 0 (map f xs) ≡ Some p → remove xs p ≡ without (λ x. has_number n (f x)) xs
forget-found f o n p xs h e =
    let gone = ap (position_from (has_number n) 0) (map-remove f xs p) ∙ position-removed o n (map f xs) h p e in
    sym (without-none (λ x. has_number n (f x)) (remove xs p) (sym (position-map f n 0 (remove xs p)) ∙ gone))
    ∙ without-found (λ x. has_number n (f x)) xs p (sym (position-map f n 0 xs) ∙ e)

pub forget-none : {X : Type 0} (f : X → Option ℕ) (n : ℕ) (xs : List X) → position_from (has_number n) 0 (map f xs) ≡ None
    → xs ≡ without (λ x. has_number n (f x)) xs
forget-none f n xs e = sym (without-none (λ x. has_number n (f x)) xs (sym (position-map f n 0 xs) ∙ e))

-- the numbers up to the item at a place, that item's among them
pub in-order-found : {X : Type 0} (f : X → Option ℕ) (o : Order) (xs : List X) (p : ℕ) (x : X) → Some x ≡ slice_get xs p → InOrder o (map f xs)
    → InOrder o (take p (map f xs) ++ f x ∷ [])
in-order-found f o xs p x e h =
    let within = slice_get_within xs p x (sym e) in
    let len = length-map xs f in
    let same : take (p + 1) (map f xs) ≡ take p (map f xs) ++ f x ∷ [] =
    take_more (map f xs) p None (omega arith) ∙ ap (λ n. take p (map f xs) ++ n ∷ []) (sym (number-shown f xs p x e)) in
    subst (InOrder o) same (in-order-take o (map f xs) (p + 1) (omega arith) h)
