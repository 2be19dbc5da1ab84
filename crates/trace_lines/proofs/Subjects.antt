-- The place of a subject, and its entry.
use Rattle.std.proofs.Common.{◌≡◌, ◌<◌, ◌≤◌, ℕ, ◌+◌, Bool, true, false, if◌then◌else◌, ◌⊎◌, eqb, List}
use Rattle.std.proofs.Common.{[], ◌∷◌, ◌++◌, Some, None, refl, ap, sym, subst, ◌∙◌, arith, inl, inr}
use Rattle.std.specs.Ordering.{nat_cmp, is_eq}
use Rattle.std.specs.BTreeMap.{is_at}
use Rattle.std.specs.Map.{lookup, remove_entry, values_of}
use Rattle.std.proofs.lemmas.Bool.{cases_Bool, cases_eq, eqb-true, eq-eqb, ne_eqb, false_from_ne_true}
use Rattle.trace_text.specs.declared.events.Who.{Who}
use Rattle.trace_text.specs.declared.events.Who.TheVariants as subject
use Rattle.trace_text.specs.declared.events.Entry.{Entry}
use Rattle.trace_text.specs.Queue.{who_eq, without, entry_of}
use Rattle.trace_lines.specs.Places.{subject_number, place_of, Rises, IsEachOnce}
use Rattle.trace_lines.proofs.LevelLookups.{is_at-eqb}
use Rattle.trace_lines.proofs.PlacesOn.{nat_itself, nat_over, rises_over}

pub same_who : (a b : Who) → who_eq a b ≡ true → a ≡ b
same_who (subject.Task a) (subject.Task b) e = ap (λ n. subject.Task (record { 0 = n })) (eqb-true a.0 b.0 e)
same_who (subject.Task a) subject.Agent e = cc
same_who subject.Agent (subject.Task b) e = cc
same_who subject.Agent subject.Agent e = refl

pub who_itself : (a : Who) → who_eq a a ≡ true
who_itself (subject.Task a) = eq-eqb a.0 a.0 refl
who_itself subject.Agent = refl

never : (b : Bool) → b ≡ true → b ≡ false → ⊥
never b t f = cc

pub who_back : (a b : Who) (e : Bool) → who_eq a b ≡ e → who_eq b a ≡ e
who_back a b true e = subst (λ x. who_eq b x ≡ true) (sym (same_who a b e)) (who_itself b)
who_back a b false e = false_from_ne_true (who_eq b a) (λ same. never (who_eq a b) (subst (λ x. who_eq a x ≡ true) (sym (same_who b a same)) (who_itself a)) e)

next_eqb : (a b : ℕ) → eqb (a + 1) (b + 1) ≡ eqb a b
next_eqb a b = elim (cases_eq a b) [
  | inl same ↦ eq-eqb (a + 1) (b + 1) (ap (λ n. n + 1) same) ∙ sym (eq-eqb a b same)
  | inr apart ↦ ne_eqb (a + 1) (b + 1) (λ e. apart (omega (arith, e))) ∙ sym (ne_eqb a b apart)
]

next_same : (a b : ℕ) → is_eq (nat_cmp (a + 1) (b + 1)) ≡ eqb a b
next_same a b = is_at-eqb (a + 1) (b + 1) ∙ next_eqb a b

-- the numbers of subjects tell them apart
pub number_same : (a b : Who) → is_eq (nat_cmp (subject_number a) (subject_number b)) ≡ who_eq a b
number_same (subject.Task a) (subject.Task b) = next_same a.0 b.0
number_same (subject.Task a) subject.Agent = is_at-eqb (a.0 + 1) 0 ∙ ne_eqb (a.0 + 1) 0 (λ e. omega (arith, e))
number_same subject.Agent (subject.Task b) = is_at-eqb 0 (b.0 + 1) ∙ ne_eqb 0 (b.0 + 1) (λ e. omega (arith, e))
number_same subject.Agent subject.Agent = refl

-- ---- where a subject is

pub nobody_parts : (who : Who) (e : ℕ × Entry) (es : List (ℕ × Entry)) → place_of who (e ∷ es) ≡ None → (who_eq who e.1.who ≡ false) × (place_of who es ≡ None)
nobody_parts who e es none = elim (cases_Bool (who_eq who e.1.who)) [
  | inl here ↦ let found = rw here at none in cc
  | inr apart ↦ (apart, rw apart at none)
]

inside : (a b : ℕ) → Some a ≡ Some b → a ≡ b
inside a b e = cc

pub place_within : (who : Who) (first next place : ℕ) (es : List (ℕ × Entry)) → Rises first es next → place_of who es ≡ Some place
    → (first ≤ place) × (place < next)
place_within who first next place [] rises found = cc
place_within who first next place (e ∷ es) rises found = elim (cases_Bool (who_eq who e.1.who)) [
  | inl here ↦
      let at = inside e.0 place (rw here at found) in
      let over = rises_over (e.0 + 1) next es rises.1 in
      (omega (arith, at, rises.0), omega (arith, at, over))
  | inr apart ↦
      let rest = place_within who (e.0 + 1) next place es rises.1 (rw apart at found) in
      (omega (arith, rises.0, rest.0), rest.1)
]

-- it is the first, or behind it
pub which : (who : Who) (first next place : ℕ) (e : ℕ × Entry) (es : List (ℕ × Entry)) → Rises first (e ∷ es) next → place_of who (e ∷ es) ≡ Some place
    → ((who_eq who e.1.who ≡ true) × (e.0 ≡ place)) ⊎ ((who_eq who e.1.who ≡ false) × (place_of who es ≡ Some place) × (e.0 < place))
which who first next place e es rises found = elim (cases_Bool (who_eq who e.1.who)) [
  | inl here ↦ inl (here, inside e.0 place (rw here at found))
  | inr apart ↦
      let there = rw apart at found in
      let within = place_within who (e.0 + 1) next place es rises.1 there in
      inr (apart, there, omega (arith, within.0))
]

pub entry_found : (who : Who) (first next place : ℕ) (es : List (ℕ × Entry)) → Rises first es next → place_of who es ≡ Some place
    → lookup (is_at (nat_cmp place)) es ≡ entry_of who (values_of es)
entry_found who first next place [] rises found = cc
entry_found who first next place (e ∷ es) rises found = elim (which who first next place e es rises found) [
  | inl here ↦ rw (sym here.1, nat_itself e.0, here.0) refl
  | inr there ↦ rw (nat_over place e.0 there.2, there.0) (entry_found who (e.0 + 1) next place es rises.1 there.1)
]

pub entry_none : (who : Who) (es : List (ℕ × Entry)) → place_of who es ≡ None → entry_of who (values_of es) ≡ None
entry_none who [] none = refl
entry_none who (e ∷ es) none = let parts = nobody_parts who e es none in rw parts.0 (entry_none who es parts.1)

pub without_none : (who : Who) (es : List (ℕ × Entry)) → place_of who es ≡ None → without who (values_of es) ≡ values_of es
without_none who [] none = refl
without_none who (e ∷ es) none = let parts = nobody_parts who e es none in rw parts.0 (ap (λ vs. e.1 ∷ vs) (without_none who es parts.1))

-- ---- with a subject taken out

nobody_else : (who other : Who) (es : List (ℕ × Entry)) → who_eq who other ≡ true → place_of other es ≡ None → place_of who es ≡ None
nobody_else who other es same none = subst (λ w. place_of w es ≡ None) (sym (same_who who other same)) none

pub values_removed : (who : Who) (first next place : ℕ) (es : List (ℕ × Entry)) → Rises first es next → IsEachOnce es → place_of who es ≡ Some place
    → values_of (remove_entry (is_at (nat_cmp place)) es) ≡ without who (values_of es)
values_removed who first next place [] rises once found = cc
values_removed who first next place (e ∷ es) rises once found = elim (which who first next place e es rises found) [
  | inl here ↦ rw (sym here.1, nat_itself e.0, here.0) (sym (without_none who es (nobody_else who e.1.who es here.0 once.0)))
  | inr there ↦ rw (nat_over place e.0 there.2, there.0) (ap (λ vs. e.1 ∷ vs) (values_removed who (e.0 + 1) next place es rises.1 once.1 there.1))
]

gone_here : (who other : Who) (e : ℕ × Entry) (es : List (ℕ × Entry)) → who_eq who e.1.who ≡ true → place_of e.1.who es ≡ None
    → place_of other es ≡ (if who_eq who other then None else (if who_eq other e.1.who then Some e.0 else place_of other es))
gone_here who other e es here none = elim (cases_Bool (who_eq who other)) [
  | inl same ↦ rw same (nobody_else other who es (who_back who other true same) (nobody_else who e.1.who es here none))
  | inr apart ↦
      let away : who_eq other e.1.who ≡ false = subst (λ w. who_eq other w ≡ false) (same_who who e.1.who here) (who_back who other false apart) in
      rw (apart, away) refl
]

gone_there : (who other : Who) (e : ℕ × Entry) (es : List (ℕ × Entry)) → who_eq who e.1.who ≡ false →
    (if who_eq other e.1.who then Some e.0 else (if who_eq who other then None else place_of other es))
    ≡ (if who_eq who other then None else (if who_eq other e.1.who then Some e.0 else place_of other es))
gone_there who other e es there = elim (cases_Bool (who_eq who other)) [
  | inl same ↦
      let away : who_eq other e.1.who ≡ false = subst (λ w. who_eq w e.1.who ≡ false) (same_who who other same) there in
      rw (same, away) refl
  | inr apart ↦ rw apart refl
]

pub places_removed : (who other : Who) (first next place : ℕ) (es : List (ℕ × Entry)) → Rises first es next → IsEachOnce es → place_of who es ≡ Some place
    → place_of other (remove_entry (is_at (nat_cmp place)) es) ≡ (if who_eq who other then None else place_of other es)
places_removed who other first next place [] rises once found = cc
places_removed who other first next place (e ∷ es) rises once found = elim (which who first next place e es rises found) [
  | inl here ↦ rw (sym here.1, nat_itself e.0) (gone_here who other e es here.0 once.0)
  | inr there ↦ rw (nat_over place e.0 there.2, places_removed who other (e.0 + 1) next place es rises.1 once.1 there.1) (gone_there who other e es there.0)
]

pub once_removed : (who : Who) (first next place : ℕ) (es : List (ℕ × Entry)) → Rises first es next → IsEachOnce es → place_of who es ≡ Some place
    → IsEachOnce (remove_entry (is_at (nat_cmp place)) es)
once_removed who first next place [] rises once found = cc
once_removed who first next place (e ∷ es) rises once found = elim (which who first next place e es rises found) [
  | inl here ↦ rw (sym here.1, nat_itself e.0) once.1
  | inr there ↦ rw (nat_over place e.0 there.2) (
    places_removed who e.1.who (e.0 + 1) next place es rises.1 once.1 there.1 ∙ ap (λ b. if b then None else place_of e.1.who es) there.0 ∙ once.0,
    once_removed who (e.0 + 1) next place es rises.1 once.1 there.1,
  )
]

-- ---- with one subject more at the end

pub place_last : (other : Who) (place : ℕ) (entry : Entry) (es : List (ℕ × Entry)) → place_of entry.who es ≡ None
    → place_of other (es ++ (place, entry) ∷ []) ≡ (if who_eq other entry.who then Some place else place_of other es)
place_last other place entry [] none = refl
place_last other place entry (e ∷ es) none =
    let parts = nobody_parts entry.who e es none in
    elim (cases_Bool (who_eq other entry.who)) [
      | inl same ↦
          let away : who_eq other e.1.who ≡ false = subst (λ w. who_eq w e.1.who ≡ false) (sym (same_who other entry.who same)) parts.0 in
          rw (away, place_last other place entry es parts.1, same) refl
      | inr apart ↦ rw (place_last other place entry es parts.1, apart) refl
    ]

pub once_last : (place : ℕ) (entry : Entry) (es : List (ℕ × Entry)) → IsEachOnce es → place_of entry.who es ≡ None → IsEachOnce (es ++ (place, entry) ∷ [])
once_last place entry [] once none = (refl, tt)
once_last place entry (e ∷ es) once none =
    let parts = nobody_parts entry.who e es none in (
      place_last e.1.who place entry es parts.1 ∙ ap (λ b. if b then Some place else place_of e.1.who es) (who_back entry.who e.1.who false parts.0) ∙ once.0,
      once_last place entry es once.1 parts.1,
    )
