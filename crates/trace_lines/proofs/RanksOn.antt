-- The order of ranks.
use Rattle.std.proofs.Common.{◌≡◌, ◌<◌, ℕ, ℤ, pos, negsuc, Bool, true, false, not, ◌&&◌, ◌||◌, eqb}
use Rattle.std.proofs.Common.{ltb, Option, Some, None, is_some, refl, ap, sym, ◌∙◌, arith, inl, inr}
use Rattle.std.specs.Option.{unwrap_or}
use Rattle.std.specs.declared.cmp.Ordering.{Ordering}
use Rattle.std.specs.declared.cmp.Ordering.TheVariants.{Less, Equal, Greater}
use Rattle.std.specs.Ordering.{nat_cmp, int_cmp, bool_cmp, ordering_then, ordering_reverse, is_eq, is_gt}
use Rattle.std.specs.Cmp.{IsTotalOrder, Equal-is, nat_cmp_is, bool_cmp_total}
use Rattle.std.proofs.lemmas.Cmp.{nat_cmp_total, int_cmp_total, on_total, then_total, back_total}
use Rattle.std.proofs.lemmas.Cmp.{ranked as nat_ranked, int_ranked}
use Rattle.std.proofs.lemmas.Bool.{cases_order, lt-ltb, le-ltb, eq-eqb, ne_eqb}
use Rattle.trace_text.specs.declared.events.Entry.{Entry}
use Rattle.trace_text.specs.Queue.{int_before, is_earlier, goes_before}
use Rattle.trace_lines.specs.declared.ranks.Rank.{Rank}
use Rattle.trace_lines.specs.Places.{rank_cmp, rank_of}

then_equal : (a b : Ordering) → is_eq (ordering_then a b) ≡ true → (is_eq a ≡ true) × (is_eq b ≡ true)
then_equal Less b e = cc
then_equal Equal b e = (refl, e)
then_equal Greater b e = cc

nat_same : (a b : ℕ) → is_eq (nat_cmp a b) ≡ true → a ≡ b
nat_same a b e = nat_ranked a b Equal (sym ((Equal-is (nat_cmp a b)).0 e))

int_same : (a b : ℤ) → is_eq (int_cmp a b) ≡ true → a ≡ b
int_same a b e = int_ranked a b Equal (sym ((Equal-is (int_cmp a b)).0 e))

bool_same : (a b : Bool) → is_eq (bool_cmp a b) ≡ true → a ≡ b
bool_same true true e = refl
bool_same true false e = cc
bool_same false true e = cc
bool_same false false e = refl

same_parts : (a b : Rank) → a.level ≡ b.level → a.is_undated ≡ b.is_undated → a.deadline ≡ b.deadline → a.place ≡ b.place → a ≡ b
same_parts a b level undated deadline place =
    ap (λ l. record { level = l; is_undated = a.is_undated; deadline = a.deadline; place = a.place }) level
    ∙ ap (λ u. record { level = b.level; is_undated = u; deadline = a.deadline; place = a.place }) undated
    ∙ ap (λ d. record { level = b.level; is_undated = b.is_undated; deadline = d; place = a.place }) deadline
    ∙ ap (λ p. record { level = b.level; is_undated = b.is_undated; deadline = b.deadline; place = p }) place

-- what the order does not tell apart is the same
pub rank_same : (a b : Rank) → is_eq (rank_cmp a b) ≡ true → a ≡ b
rank_same a b e =
    let first =
    then_equal (nat_cmp b.level a.level)
    (ordering_then (bool_cmp a.is_undated b.is_undated) (ordering_then (int_cmp a.deadline b.deadline) (nat_cmp a.place b.place))) e in
    let second = then_equal (bool_cmp a.is_undated b.is_undated) (ordering_then (int_cmp a.deadline b.deadline) (nat_cmp a.place b.place)) first.1 in
    let third = then_equal (int_cmp a.deadline b.deadline) (nat_cmp a.place b.place) second.1 in
    same_parts a b (sym (nat_same b.level a.level first.0)) (bool_same a.is_undated b.is_undated second.0) (int_same a.deadline b.deadline third.0)
    (nat_same a.place b.place third.1)

pub rank_total : IsTotalOrder rank_cmp
rank_total =
    then_total (back_total (on_total (λ (r : Rank). r.level) nat_cmp_total))
    (then_total (on_total (λ (r : Rank). r.is_undated) bool_cmp_total)
    (then_total (on_total (λ (r : Rank). r.deadline) int_cmp_total) (on_total (λ (r : Rank). r.place) nat_cmp_total)))

-- ---- of two entries the one at the smaller place has the greater rank exactly where the other goes before it

int_above : (a b : ℤ) → is_gt (ordering_then (int_cmp a b) Less) ≡ int_before b a
int_above (pos a) (pos b) = elim (cases_order a b) [
  | inl same ↦ rw same (grind (arith, le-ltb b b (omega arith)))
  | inr apart ↦ elim apart [
    | inl below ↦ grind (arith, lt-ltb a b below, le-ltb b a (omega (arith, below)))
    | inr above ↦ grind (arith, lt-ltb b a above, le-ltb a b (omega (arith, above)))
  ]
]
int_above (pos a) (negsuc b) = refl
int_above (negsuc a) (pos b) = refl
int_above (negsuc a) (negsuc b) = elim (cases_order a b) [
  | inl same ↦ rw same (grind (arith, le-ltb b b (omega arith)))
  | inr apart ↦ elim apart [
    | inl below ↦ grind (arith, lt-ltb a b below, le-ltb b a (omega (arith, below)))
    | inr above ↦ grind (arith, lt-ltb b a above, le-ltb a b (omega (arith, above)))
  ]
]

due_above : (a b : Option ℤ)
    → is_gt (ordering_then (bool_cmp (not (is_some a)) (not (is_some b))) (ordering_then (int_cmp (unwrap_or a (pos 0)) (unwrap_or b (pos 0))) Less))
    ≡ is_earlier b a
due_above None None = refl
due_above None (Some b) = refl
due_above (Some a) None = refl
due_above (Some a) (Some b) = int_above a b

level_above : (a b : ℕ) (rest : Ordering) → is_gt (ordering_then (nat_cmp b a) rest) ≡ (ltb a b || (eqb b a && is_gt rest))
level_above a b rest = elim (cases_order a b) [
  | inl same ↦ rw (same, le-ltb b b (omega arith), eq-eqb b b refl) refl
  | inr apart ↦ elim apart [
    | inl below ↦ rw (lt-ltb a b below, le-ltb b a (omega (arith, below)), ne_eqb b a (λ e. omega (arith, e, below))) refl
    | inr above ↦ rw (lt-ltb b a above, le-ltb a b (omega (arith, above)), ne_eqb b a (λ e. omega (arith, e, above))) refl
  ]
]

pub rank_above : (a b : Entry) (p q : ℕ) → p < q → is_gt (rank_cmp (rank_of p a) (rank_of q b)) ≡ goes_before b a
rank_above a b p q less =
    let place : nat_cmp p q ≡ Less = sym (nat_cmp_is p q Less less) in
    ap (λ o. is_gt
    (ordering_then (nat_cmp b.level a.level)
    (ordering_then (bool_cmp (not (is_some a.deadline)) (not (is_some b.deadline)))
    (ordering_then (int_cmp (unwrap_or a.deadline (pos 0)) (unwrap_or b.deadline (pos 0))) o)))) place
    ∙ level_above a.level b.level
    (ordering_then (bool_cmp (not (is_some a.deadline)) (not (is_some b.deadline)))
    (ordering_then (int_cmp (unwrap_or a.deadline (pos 0)) (unwrap_or b.deadline (pos 0))) Less))
    ∙ ap (λ e. ltb a.level b.level || (eqb b.level a.level && e)) (due_above a.deadline b.deadline)

three : (o : Ordering) → is_gt (ordering_reverse o) ≡ false → (o ≡ Equal → ⊥) → is_gt o ≡ true
three Less e apart = cc
three Equal e apart = absurd (apart refl)
three Greater e apart = refl

-- one at a greater place whose rank is not greater goes before the other
pub rank_behind : (a b : Entry) (p q : ℕ) → p < q → is_gt (rank_cmp (rank_of q b) (rank_of p a)) ≡ false → goes_before b a ≡ true
rank_behind a b p q less least =
    sym (rank_above a b p q less)
    ∙ three (rank_cmp (rank_of p a) (rank_of q b)) (ap is_gt (sym (rank_total.antisymm (rank_of q b) (rank_of p a))) ∙ least)
    (λ e. let same = ap (λ (r : Rank). r.place) (rank_same (rank_of p a) (rank_of q b) (ap is_eq e)) in omega (arith, less, same))
