-- The entry of a rank, and the first of all ranks.
use Rattle.std.proofs.Common.{◌≡◌, ◌<◌, ◌≤◌, ℕ, ◌+◌, Bool, true, false, cond, if◌then◌else◌, List, [], ◌∷◌, ◌++◌}
use Rattle.std.proofs.Common.{Option, Some, None, IsSome, IfSome, length, refl, ap, sym, subst, ◌∙◌, arith, inl, inr}
use Rattle.std.specs.Ordering.{nat_cmp, is_eq, is_gt}
use Rattle.std.specs.BTreeMap.{is_at}
use Rattle.std.specs.List.{AllByRecursion}
use Rattle.std.specs.Map.{lookup, remove_entry, values_of}
use Rattle.std.proofs.lemmas.Bool.{cases_Bool, cases_order}
use Rattle.std.proofs.lemmas.Cmp.{tied_itself}
use Rattle.trace_text.specs.declared.events.Entry.{Entry}
use Rattle.trace_text.specs.Queue.{goes_before, first_of, head_of}
use Rattle.trace_lines.specs.declared.ranks.Rank.{Rank}
use Rattle.trace_lines.specs.Places.{rank_cmp, rank_of, ranked, unranked, Rises}
use Rattle.trace_lines.proofs.RanksOn.{rank_same, rank_total, rank_above, rank_behind}
use Rattle.trace_lines.proofs.PlacesOn.{on_cond, rises_over, nat_itself, nat_below, nat_over, rank_apart, unranked_before}

-- ---- with an entry taken out

kept_apart : (place : ℕ) (taken : Option Entry) (rank : Rank) (entry : Entry) → (place ≡ rank.place → ⊥)
    → unranked (Some place) taken rank (Some entry) ≡ Some entry
kept_apart place None rank entry apart = refl
kept_apart place (Some taken) rank entry apart = rw (rank_apart (place, taken) rank apart) refl

ranks_there : (place : ℕ) (rank : Rank) (e : ℕ × Entry) (es : List (ℕ × Entry)) → is_eq (nat_cmp place e.0) ≡ false → (place ≡ e.0 → ⊥) →
    ranked rank (remove_entry (is_at (nat_cmp place)) es) ≡ unranked (Some place) (lookup (is_at (nat_cmp place)) es) rank (ranked rank es) →
    ranked rank (remove_entry (is_at (nat_cmp place)) (e ∷ es)) ≡ unranked (Some place) (lookup (is_at (nat_cmp place)) (e ∷ es)) rank (ranked rank (e ∷ es))
ranks_there place rank e es apart differs rest = elim (cases_Bool (is_eq (rank_cmp (rank_of e.0 e.1) rank))) [
  | inl here ↦
      let at : e.0 ≡ rank.place = ap (λ (r : Rank). r.place) (rank_same (rank_of e.0 e.1) rank here) in
      rw (apart, here) (sym (kept_apart place (lookup (is_at (nat_cmp place)) es) rank e.1 (λ same. differs (same ∙ sym at))))
  | inr there ↦ rw (apart, there) rest
]

ranks_here : (rank : Rank) (next : ℕ) (e : ℕ × Entry) (es : List (ℕ × Entry)) → Rises (e.0 + 1) es next
    → ranked rank es ≡ cond (is_eq (rank_cmp (rank_of e.0 e.1) rank)) None (ranked rank (e ∷ es))
ranks_here rank next e es rises = elim (cases_Bool (is_eq (rank_cmp (rank_of e.0 e.1) rank))) [
  | inl here ↦
      let at : e.0 ≡ rank.place = ap (λ (r : Rank). r.place) (rank_same (rank_of e.0 e.1) rank here) in
      rw here (unranked_before (e.0 + 1) next rank es (omega (arith, at)) rises)
  | inr there ↦ rw there refl
]

pub ranks_removed : (place first next : ℕ) (rank : Rank) (es : List (ℕ × Entry)) → Rises first es next
    → ranked rank (remove_entry (is_at (nat_cmp place)) es) ≡ unranked (Some place) (lookup (is_at (nat_cmp place)) es) rank (ranked rank es)
ranks_removed place first next rank [] rises = refl
ranks_removed place first next rank (e ∷ es) rises = elim (cases_order place e.0) [
  | inl same ↦ rw (same, nat_itself e.0) (ranks_here rank next e es rises.1)
  | inr apart ↦ elim apart [
    | inl below ↦
        ranks_there place rank e es (ap is_eq (nat_below place e.0 below)) (λ same. omega (arith, below, same))
        (ranks_removed place (e.0 + 1) next rank es rises.1)
    | inr over ↦
        ranks_there place rank e es (ap is_eq (nat_over place e.0 over)) (λ same. omega (arith, over, same))
        (ranks_removed place (e.0 + 1) next rank es rises.1)
  ]
]

-- ---- with one more at the end

pub ranked_last : (first place : ℕ) (rank : Rank) (entry : Entry) (es : List (ℕ × Entry)) → Rises first es place
    → ranked rank (es ++ (place, entry) ∷ []) ≡ (if is_eq (rank_cmp (rank_of place entry) rank) then Some entry else ranked rank es)
ranked_last first place rank entry [] rises = refl
ranked_last first place rank entry (e ∷ es) rises = elim (cases_Bool (is_eq (rank_cmp (rank_of e.0 e.1) rank))) [
  | inl here ↦
      let at : e.0 ≡ rank.place = ap (λ (r : Rank). r.place) (rank_same (rank_of e.0 e.1) rank here) in
      let over = rises_over (e.0 + 1) place es rises.1 in
      rw (here, rank_apart (place, entry) rank (λ same. omega (arith, at, over, same))) refl
  | inr there ↦ rw (there, ranked_last (e.0 + 1) place rank entry es rises.1) refl
]

-- ---- the first

inside : (a b : Entry) → Some a ≡ Some b → a ≡ b
inside a b e = cc

first_either : (P : Entry → Type 0) (entry : Entry) (other : Option Entry) → P entry → IfSome other P → P (first_of entry other)
first_either P entry None here there = here
first_either P entry (Some other) here there = on_cond P (goes_before other entry) other entry there here

head_all : (P : Entry → Type 0) (es : List (ℕ × Entry)) → AllByRecursion (λ e. P e.1) es → IfSome (head_of (values_of es)) P
head_all P [] all = tt
head_all P (e ∷ es) all = first_either P e.1 (head_of (values_of es)) all.0 (head_all P es all.1)

first_kept : (entry : Entry) (other : Option Entry) → IfSome other (λ x. goes_before x entry ≡ false) → first_of entry other ≡ entry
first_kept entry None back = refl
first_kept entry (Some other) back = rw back refl

none_goes : (place next first : ℕ) (entry : Entry) (es : List (ℕ × Entry)) → place < first → Rises first es next
    → AllByRecursion (λ e. is_gt (rank_cmp (rank_of place entry) (rank_of e.0 e.1)) ≡ false) es
    → AllByRecursion (λ e. goes_before e.1 entry ≡ false) es
none_goes place next first entry [] less rises all = tt
none_goes place next first entry (e ∷ es) less rises all =
    let before : place < e.0 = omega (arith, less, rises.0) in
    (sym (rank_above entry e.1 place e.0 before) ∙ all.0, none_goes place next (e.0 + 1) entry es (omega (arith, before)) rises.1 all.1)

found_rank : (rank : Rank) (entry : Entry) (first next : ℕ) (es : List (ℕ × Entry)) → Rises first es next → ranked rank es ≡ Some entry
    → (place : ℕ) × (rank_of place entry ≡ rank) × (first ≤ place)
found_rank rank entry first next [] rises found = cc
found_rank rank entry first next (e ∷ es) rises found = elim (cases_Bool (is_eq (rank_cmp (rank_of e.0 e.1) rank))) [
  | inl here ↦
      let same = inside e.1 entry (rw here at found) in
      (e.0, ap (rank_of e.0) (sym same) ∙ rank_same (rank_of e.0 e.1) rank here, rises.0)
  | inr there ↦
      let rest = found_rank rank entry (e.0 + 1) next es rises.1 (rw there at found) in
      (rest.0, rest.1, omega (arith, rises.0, rest.2))
]

-- the entry of a rank that is not greater than any other is the head
pub head_found : (rank : Rank) (entry : Entry) (first next : ℕ) (es : List (ℕ × Entry)) → Rises first es next → ranked rank es ≡ Some entry
    → AllByRecursion (λ e. is_gt (rank_cmp rank (rank_of e.0 e.1)) ≡ false) es
    → head_of (values_of es) ≡ Some entry
head_found rank entry first next [] rises found all = cc
head_found rank entry first next (e ∷ es) rises found all = elim (cases_Bool (is_eq (rank_cmp (rank_of e.0 e.1) rank))) [
  | inl here ↦
      let own = subst (λ r. AllByRecursion (λ f. is_gt (rank_cmp r (rank_of f.0 f.1)) ≡ false) es) (sym (rank_same (rank_of e.0 e.1) rank here)) all.1 in
      ap Some (first_kept e.1 (head_of (values_of es))
      (head_all (λ x. goes_before x e.1 ≡ false) es (none_goes e.0 next (e.0 + 1) e.1 es (omega arith) rises.1 own)))
      ∙ (rw here at found)
  | inr there ↦
      let rest : ranked rank es ≡ Some entry = rw there at found in
      let at = found_rank rank entry (e.0 + 1) next es rises.1 rest in
      let before : goes_before entry e.1 ≡ true =
      rank_behind e.1 entry e.0 at.0 (omega (arith, at.2)) (subst (λ r. is_gt (rank_cmp r (rank_of e.0 e.1)) ≡ false) (sym at.1) all.0) in
      rw (head_found rank entry (e.0 + 1) next es rises.1 rest all.1, before) refl
]

tail_ranked : (rank : Rank) (e : ℕ × Entry) (es : List (ℕ × Entry)) → IsSome (ranked rank es) → IsSome (ranked rank (e ∷ es))
tail_ranked rank e es some = on_cond (λ o. IsSome o) (is_eq (rank_cmp (rank_of e.0 e.1) rank)) (Some e.1) (ranked rank es) refl some

head_ranked : (e : ℕ × Entry) (es : List (ℕ × Entry)) → ranked (rank_of e.0 e.1) (e ∷ es) ≡ Some e.1
head_ranked e es = rw (ap is_eq (tied_itself rank_total (rank_of e.0 e.1))) refl

pub least_all : (rank : Rank) (es : List (ℕ × Entry)) → ((other : Rank) → IsSome (ranked other es) → is_gt (rank_cmp rank other) ≡ false)
    → AllByRecursion (λ e. is_gt (rank_cmp rank (rank_of e.0 e.1)) ≡ false) es
least_all rank [] least = tt
least_all rank (e ∷ es) least =
    (least (rank_of e.0 e.1) (subst (λ o. IsSome o) (sym (head_ranked e es)) refl), least_all rank es (λ other some. least other (tail_ranked other e es some)))

pub head_none : (es : List (ℕ × Entry)) → ((rank : Rank) → ranked rank es ≡ None) → head_of (values_of es) ≡ None
head_none [] none = refl
head_none (e ∷ es) none = let found = sym (head_ranked e es) ∙ none (rank_of e.0 e.1) in cc

pub nothing_at : {K X : Type 0} (test : K → Bool) (es : List (K × X)) → (0 < length es → false ≡ true) → lookup test es ≡ None
nothing_at test [] none = refl
nothing_at test (e ∷ es) none = let wrong = none (omega arith) in cc
