-- An entry by its place.
use Rattle.std.proofs.Common.{◌≡◌, ◌<◌, ◌≤◌, ℕ, ◌+◌, Bool, true, false, cond, List, [], ◌∷◌, ◌++◌, Option, Some, None, refl, ap, sym, ◌∙◌, arith, inl, inr}
use Rattle.std.specs.declared.cmp.Ordering.{Ordering}
use Rattle.std.specs.declared.cmp.Ordering.TheVariants.{Less, Equal, Greater}
use Rattle.std.specs.Ordering.{nat_cmp, is_eq, match_ordering}
use Rattle.std.specs.Cmp.{nat_cmp_is}
use Rattle.std.specs.BTreeMap.{is_at, insert_entry}
use Rattle.std.specs.Map.{lookup, remove_entry}
use Rattle.std.proofs.lemmas.Bool.{cases_Bool}
use Rattle.trace_text.specs.declared.events.Entry.{Entry}
use Rattle.trace_lines.specs.declared.ranks.Rank.{Rank}
use Rattle.trace_lines.specs.Places.{Rises, rank_cmp, rank_of, ranked}
use Rattle.trace_lines.proofs.RanksOn.{rank_same}

pub on_cond : {X : Type 0} (P : X → Type 0) (b : Bool) (x y : X) → P x → P y → P (cond b x y)
on_cond P true x y here there = here
on_cond P false x y here there = there

-- what was inserted at a key that nothing was at is taken out again
module _ {K X : Type 0} (cmp : K → K → Ordering) (itself : (k : K) → is_eq (cmp k k) ≡ true) where
  removed_by : (k j : K) (x y : X) (es : List (K × X)) (o : Ordering) → cmp k j ≡ o → is_eq o ≡ false
      → remove_entry (is_at (cmp k)) (insert_entry cmp es k x) ≡ es
      → remove_entry (is_at (cmp k)) (match_ordering o ((k, x) ∷ (j, y) ∷ es) ((j, x) ∷ es) ((j, y) ∷ insert_entry cmp es k x)) ≡ (j, y) ∷ es
  removed_by k j x y es Less e apart rest = rw (itself k) refl
  removed_by k j x y es Equal e apart rest = cc
  removed_by k j x y es Greater e apart rest = rw (e, rest) refl

  removed_cons : (k j : K) (x y : X) (es : List (K × X)) (b : Bool) → is_eq (cmp k j) ≡ b → cond b (Some y) (lookup (is_at (cmp k)) es) ≡ None
      → (lookup (is_at (cmp k)) es ≡ None → remove_entry (is_at (cmp k)) (insert_entry cmp es k x) ≡ es)
      → remove_entry (is_at (cmp k)) (insert_entry cmp ((j, y) ∷ es) k x) ≡ (j, y) ∷ es
  removed_cons k j x y es true e none rest = cc
  removed_cons k j x y es false e none rest = removed_by k j x y es (cmp k j) refl e (rest none)

  pub removed-inserted : (k : K) (x : X) (es : List (K × X)) → lookup (is_at (cmp k)) es ≡ None → remove_entry (is_at (cmp k)) (insert_entry cmp es k x) ≡ es
  removed-inserted k x [] none = rw (itself k) refl
  removed-inserted k x ((j, y) ∷ es) none = removed_cons k j x y es (is_eq (cmp k j)) refl none (removed-inserted k x es)

pub nat_itself : (k : ℕ) → is_eq (nat_cmp k k) ≡ true
nat_itself k = ap is_eq (sym (nat_cmp_is k k Equal refl))

pub nat_below : (a b : ℕ) → a < b → nat_cmp a b ≡ Less
nat_below a b less = sym (nat_cmp_is a b Less less)

pub nat_over : (a b : ℕ) → b < a → nat_cmp a b ≡ Greater
nat_over a b more = sym (nat_cmp_is a b Greater more)

-- another place has another rank
pub rank_apart : (e : ℕ × Entry) (rank : Rank) → (e.0 ≡ rank.place → ⊥) → is_eq (rank_cmp (rank_of e.0 e.1) rank) ≡ false
rank_apart e rank apart = elim (cases_Bool (is_eq (rank_cmp (rank_of e.0 e.1) rank))) [
  | inl same ↦ absurd (apart (ap (λ (r : Rank). r.place) (rank_same (rank_of e.0 e.1) rank same)))
  | inr differs ↦ differs
]

-- ---- places that ascend

pub rises_over : (first next : ℕ) (es : List (ℕ × Entry)) → Rises first es next → first ≤ next
rises_over first next [] rises = rises
rises_over first next (e ∷ es) rises = omega (arith, rises.0, rises_over (e.0 + 1) next es rises.1)

pub rises_from : (first before next : ℕ) (es : List (ℕ × Entry)) → before ≤ first → Rises first es next → Rises before es next
rises_from first before next [] less rises = omega (arith, less, rises)
rises_from first before next (e ∷ es) less rises = (omega (arith, less, rises.0), rises.1)

-- nothing is at a place before the first, or from the next on
pub none_before : (first next place : ℕ) (es : List (ℕ × Entry)) → place < first → Rises first es next → lookup (is_at (nat_cmp place)) es ≡ None
none_before first next place [] less rises = refl
none_before first next place (e ∷ es) less rises =
    rw (nat_below place e.0 (omega (arith, less, rises.0))) (none_before (e.0 + 1) next place es (omega (arith, less, rises.0)) rises.1)

pub none_behind : (first next place : ℕ) (es : List (ℕ × Entry)) → next ≤ place → Rises first es next → lookup (is_at (nat_cmp place)) es ≡ None
none_behind first next place [] from rises = refl
none_behind first next place (e ∷ es) from rises =
    let over = rises_over (e.0 + 1) next es rises.1 in
    rw (nat_over place e.0 (omega (arith, from, over))) (none_behind (e.0 + 1) next place es from rises.1)

pub unranked_before : (first next : ℕ) (rank : Rank) (es : List (ℕ × Entry)) → rank.place < first → Rises first es next → ranked rank es ≡ None
unranked_before first next rank [] less rises = refl
unranked_before first next rank (e ∷ es) less rises =
    rw (rank_apart e rank (λ same. omega (arith, less, rises.0, same))) (unranked_before (e.0 + 1) next rank es (omega (arith, less, rises.0)) rises.1)

pub unranked_behind : (first next : ℕ) (rank : Rank) (es : List (ℕ × Entry)) → next ≤ rank.place → Rises first es next → ranked rank es ≡ None
unranked_behind first next rank [] from rises = refl
unranked_behind first next rank (e ∷ es) from rises =
    let over = rises_over (e.0 + 1) next es rises.1 in
    rw (rank_apart e rank (λ same. omega (arith, from, over, same))) (unranked_behind (e.0 + 1) next rank es from rises.1)

-- ---- one entry more

pub insert_first : (place next : ℕ) (entry : Entry) (es : List (ℕ × Entry)) → Rises (place + 1) es next
    → insert_entry nat_cmp es place entry ≡ (place, entry) ∷ es
insert_first place next entry [] rises = refl
insert_first place next entry (e ∷ es) rises = rw (nat_below place e.0 (omega (arith, rises.0))) refl

pub insert_last : (first place : ℕ) (entry : Entry) (es : List (ℕ × Entry)) → Rises first es place
    → insert_entry nat_cmp es place entry ≡ es ++ (place, entry) ∷ []
insert_last first place entry [] rises = refl
insert_last first place entry (e ∷ es) rises =
    let over = rises_over (e.0 + 1) place es rises.1 in
    rw (nat_over place e.0 (omega (arith, over)), insert_last (e.0 + 1) place entry es rises.1) refl

pub rises_last : (first place : ℕ) (entry : Entry) (es : List (ℕ × Entry)) → Rises first es place → Rises first (es ++ (place, entry) ∷ []) (place + 1)
rises_last first place entry [] rises = (rises, omega arith)
rises_last first place entry (e ∷ es) rises = (rises.0, rises_last (e.0 + 1) place entry es rises.1)

-- ---- one entry less

pub rises_removed : (first next place : ℕ) (es : List (ℕ × Entry)) → Rises first es next → Rises first (remove_entry (is_at (nat_cmp place)) es) next
rises_removed first next place [] rises = rises
rises_removed first next place (e ∷ es) rises = on_cond (λ xs. Rises first xs next) (is_eq (nat_cmp place e.0)) es (e ∷ remove_entry (is_at (nat_cmp place)) es)
    (rises_from (e.0 + 1) first next es (omega (arith, rises.0)) rises.1)
    (rises.0, rises_removed (e.0 + 1) next place es rises.1)

-- what was put in is taken out again
pub back_to : (key rank : Rank) (found : Rank → Option Entry) (entry : Entry) → found key ≡ None
    → cond (is_at (rank_cmp key) rank) None (cond (is_at (rank_cmp key) rank) (Some entry) (found rank)) ≡ found rank
back_to key rank found entry none = elim (cases_Bool (is_eq (rank_cmp key rank))) [
  | inl same ↦ rw same (sym (ap found (sym (rank_same key rank same)) ∙ none))
  | inr differs ↦ rw differs refl
]
