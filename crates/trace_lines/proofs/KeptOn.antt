-- What is kept of the ready queue with a subject less, and with one more.
use Rattle.std.proofs.Common.{◌≡◌, ◌<◌, ◌≤◌, ℕ, ◌+◌, true, false, cond, if◌then◌else◌, List, [], ◌∷◌}
use Rattle.std.proofs.Common.{◌++◌, Option, Some, None, refl, ap, sym, subst, ◌∙◌, arith, inl, inr}
use Rattle.std.specs.Ordering.{nat_cmp, is_eq}
use Rattle.std.specs.BTreeMap.{is_at, insert_entry}
use Rattle.std.specs.Map.{lookup, remove_entry, values_of}
use Rattle.std.proofs.lemmas.Bool.{cases_Bool}
use Rattle.trace_text.specs.declared.events.Who.{Who}
use Rattle.trace_text.specs.declared.events.Entry.{Entry}
use Rattle.trace_text.specs.Queue.{who_eq, without}
use Rattle.trace_lines.specs.declared.ranks.Rank.{Rank}
use Rattle.trace_lines.specs.Places.{subject_number, place_of, rank_cmp, rank_of, ranked, entry_at, without_place, unranked, Rises, IsEachOnce, IsKept}
use Rattle.trace_lines.proofs.RanksOn.{rank_same}
use Rattle.trace_lines.proofs.PlacesOn.{nat_below, nat_over, rank_apart, rises_removed, rises_last, insert_first, insert_last}
use Rattle.trace_lines.proofs.Ranked.{ranks_removed, ranked_last}
use Rattle.trace_lines.proofs.Subjects.{who_itself, who_back, number_same, place_within, without_none, values_removed}
use Rattle.trace_lines.proofs.Subjects.{places_removed, once_removed, place_last, once_last, same_who}

-- the entries with a subject taken out, which was at this place before
pub record IsOut (who : Who) (first next : ℕ) (before : Option ℕ) (es : List (ℕ × Entry)) : Type 0 where
  pub rises : Rises first (without_place before es) next
  pub once : IsEachOnce (without_place before es)
  pub places : (other : Who) → place_of other (without_place before es) ≡ (if who_eq who other then None else place_of other es)
  pub ranks : (rank : Rank) → ranked rank (without_place before es) ≡ unranked before (entry_at before es) rank (ranked rank es)
  pub values : values_of (without_place before es) ≡ without who (values_of es)
  pub within : (place : ℕ) → before ≡ Some place → (first ≤ place) × (place < next)

nobody_there : (who other : Who) (es : List (ℕ × Entry)) → place_of who es ≡ None → place_of other es ≡ (if who_eq who other then None else place_of other es)
nobody_there who other es none = elim (cases_Bool (who_eq who other)) [
  | inl same ↦ rw same (subst (λ w. place_of w es ≡ None) (same_who who other same) none)
  | inr apart ↦ rw apart refl
]

inside : (a b : ℕ) → Some a ≡ Some b → a ≡ b
inside a b e = cc

pub out_of : (who : Who) (first next : ℕ) (before : Option ℕ) (es : List (ℕ × Entry)) → Rises first es next → IsEachOnce es → before ≡ place_of who es
    → IsOut who first next before es
out_of who first next None es rises once at = record {
  rises = rises;
  once = once;
  places = λ other. nobody_there who other es (sym at);
  ranks = λ rank. refl;
  values = sym (without_none who es (sym at));
  within = λ place e. cc;
}
out_of who first next (Some before) es rises once at = record {
  rises = rises_removed first next before es rises;
  once = once_removed who first next before es rises once (sym at);
  places = λ other. places_removed who other first next before es rises once (sym at);
  ranks = λ rank. ranks_removed before first next rank es rises;
  values = values_removed who first next before es rises once (sym at);
  within = λ place e. subst (λ p. (first ≤ p) × (p < next)) (inside before place e) (place_within who first next before es rises (sym at));
}

-- ---- one subject less

number_out : (who other : Who) (x y : Option ℕ) → cond (is_eq (nat_cmp (subject_number who) (subject_number other))) x y ≡ (if who_eq who other then x else y)
number_out who other x y = ap (λ b. cond b x y) (number_same who other)

pub kept_out : (who : Who) (first next : ℕ) (before : Option ℕ) (es : List (ℕ × Entry)) (places left : ℕ → Option ℕ) (ranks rest : Rank → Option Entry)
    → IsKept es places ranks first next → IsOut who first next before es
    → ((number : ℕ) → left number ≡ cond (is_eq (nat_cmp (subject_number who) number)) None (places number))
    → ((rank : Rank) → rest rank ≡ unranked before (entry_at before es) rank (ranks rank))
    → IsKept (without_place before es) left rest first next
kept_out who first next before es places left ranks rest kept out lefts rests = record {
  rises = out.rises;
  once = out.once;
  places_known =
      λ other. lefts (subject_number other) ∙ number_out who other None (places (subject_number other))
      ∙ ap (λ o. if who_eq who other then None else o) (kept.places_known other) ∙ sym (out.places other);
  ranks_known = λ rank. rests rank ∙ ap (unranked before (entry_at before es) rank) (kept.ranks_known rank) ∙ sym (out.ranks rank);
}

-- ---- one subject more

apart_by : (before : Option ℕ) (place : ℕ) (taken : Option Entry) (rank : Rank) (entry : Entry) → ((p : ℕ) → before ≡ Some p → p ≡ place → ⊥)
    → rank.place ≡ place → unranked before taken rank (Some entry) ≡ Some entry
apart_by None place taken rank entry apart at = refl
apart_by (Some before) place None rank entry apart at = refl
apart_by (Some before) place (Some taken) rank entry apart at = rw (rank_apart (before, taken) rank (λ same. apart before refl (same ∙ at))) refl

-- the order of the two changes of the ranks does not matter
ranks_swap : (before : Option ℕ) (place : ℕ) (taken : Option Entry) (rank : Rank) (entry : Entry) (found : Option Entry)
    → ((p : ℕ) → before ≡ Some p → p ≡ place → ⊥) →
    unranked before taken rank (cond (is_eq (rank_cmp (rank_of place entry) rank)) (Some entry) found)
    ≡ cond (is_eq (rank_cmp (rank_of place entry) rank)) (Some entry) (unranked before taken rank found)
ranks_swap before place taken rank entry found apart = elim (cases_Bool (is_eq (rank_cmp (rank_of place entry) rank))) [
  | inl here ↦ rw here (apart_by before place taken rank entry apart (sym (ap (λ (r : Rank). r.place) (rank_same (rank_of place entry) rank here))))
  | inr there ↦ rw there refl
]

place_first : (who other : Who) (place : ℕ) (o : Option ℕ)
    → (if who_eq who other then Some place else o) ≡ (if who_eq other who then Some place else (if who_eq who other then None else o))
place_first who other place o = elim (cases_Bool (who_eq who other)) [
  | inl same ↦ rw (same, who_back who other true same) refl
  | inr apart ↦ rw (apart, who_back who other false apart) refl
]

nobody_left : (who : Who) (first next : ℕ) (before : Option ℕ) (es : List (ℕ × Entry)) → IsOut who first next before es
    → place_of who (without_place before es) ≡ None
nobody_left who first next before es out = out.places who ∙ ap (λ b. if b then None else place_of who es) (who_itself who)

pub kept_first : (entry : Entry) (place next : ℕ) (before : Option ℕ) (es : List (ℕ × Entry)) (places left : ℕ → Option ℕ) (ranks rest : Rank → Option Entry)
    → IsKept es places ranks (place + 1) next → IsOut entry.who (place + 1) next before es
    → ((number : ℕ) → left number ≡ cond (is_eq (nat_cmp (subject_number entry.who) number)) (Some place) (places number))
    → ((rank : Rank) → rest rank ≡ unranked before (entry_at before es) rank (cond (is_eq (rank_cmp (rank_of place entry) rank)) (Some entry) (ranks rank)))
    → IsKept ((place, entry) ∷ without_place before es) left rest place next
kept_first entry place next before es places left ranks rest kept out lefts rests = record {
  rises = (omega arith, out.rises);
  once = (nobody_left entry.who (place + 1) next before es out, out.once);
  places_known =
      λ other. lefts (subject_number other) ∙ number_out entry.who other (Some place) (places (subject_number other))
      ∙ ap (λ o. if who_eq entry.who other then Some place else o) (kept.places_known other)
      ∙ place_first entry.who other place (place_of other es) ∙ sym (ap (λ o. if who_eq other entry.who then Some place else o) (out.places other));
  ranks_known =
      λ rank.
      rests rank ∙ ranks_swap before place (entry_at before es) rank entry (ranks rank) (λ p e same. let low = (out.within p e).0 in omega (arith, low, same))
      ∙ ap (λ o. cond (is_eq (rank_cmp (rank_of place entry) rank)) (Some entry) o)
      (ap (unranked before (entry_at before es) rank) (kept.ranks_known rank) ∙ sym (out.ranks rank));
}

pub kept_last : (entry : Entry) (first place : ℕ) (before : Option ℕ) (es : List (ℕ × Entry)) (places left : ℕ → Option ℕ) (ranks rest : Rank → Option Entry)
    → IsKept es places ranks first place → IsOut entry.who first place before es
    → ((number : ℕ) → left number ≡ cond (is_eq (nat_cmp (subject_number entry.who) number)) (Some place) (places number))
    → ((rank : Rank) → rest rank ≡ unranked before (entry_at before es) rank (cond (is_eq (rank_cmp (rank_of place entry) rank)) (Some entry) (ranks rank)))
    → IsKept (without_place before es ++ (place, entry) ∷ []) left rest first (place + 1)
kept_last entry first place before es places left ranks rest kept out lefts rests =
    let gone = without_place before es in
    let nobody = nobody_left entry.who first place before es out in
    record {
      rises = rises_last first place entry gone out.rises;
      once = once_last place entry gone out.once nobody;
      places_known =
          λ other. lefts (subject_number other) ∙ number_out entry.who other (Some place) (places (subject_number other))
          ∙ ap (λ o. if who_eq entry.who other then Some place else o) (kept.places_known other)
          ∙ place_first entry.who other place (place_of other es) ∙ sym (ap (λ o. if who_eq other entry.who then Some place else o) (out.places other))
          ∙ sym (place_last other place entry gone nobody);
      ranks_known =
          λ rank. rests rank
          ∙ ranks_swap before place (entry_at before es) rank entry (ranks rank) (λ p e same. let high = (out.within p e).1 in omega (arith, high, same))
          ∙ ap (λ o. cond (is_eq (rank_cmp (rank_of place entry) rank)) (Some entry) o)
          (ap (unranked before (entry_at before es) rank) (kept.ranks_known rank) ∙ sym (out.ranks rank))
          ∙ sym (ranked_last first place rank entry gone out.rises);
    }

-- ---- an entry more, and the subject's former entry taken out

at_first : (before : Option ℕ) (place : ℕ) (entry : Entry) (es : List (ℕ × Entry)) → ((p : ℕ) → before ≡ Some p → place < p)
    → entry_at before ((place, entry) ∷ es) ≡ entry_at before es
at_first None place entry es over = refl
at_first (Some before) place entry es over = rw (nat_over before place (over before refl)) refl

out_first : (before : Option ℕ) (place : ℕ) (entry : Entry) (es : List (ℕ × Entry)) → ((p : ℕ) → before ≡ Some p → place < p)
    → without_place before ((place, entry) ∷ es) ≡ (place, entry) ∷ without_place before es
out_first None place entry es over = refl
out_first (Some before) place entry es over = rw (nat_over before place (over before refl)) refl

lookup_last : (before place : ℕ) (entry : Entry) (es : List (ℕ × Entry)) → before < place
    → lookup (is_at (nat_cmp before)) (es ++ (place, entry) ∷ []) ≡ lookup (is_at (nat_cmp before)) es
lookup_last before place entry [] less = rw (nat_below before place less) refl
lookup_last before place entry (e ∷ es) less = ap (λ o. cond (is_eq (nat_cmp before e.0)) (Some e.1) o) (lookup_last before place entry es less)

remove_last : (before place : ℕ) (entry : Entry) (es : List (ℕ × Entry)) → before < place
    → remove_entry (is_at (nat_cmp before)) (es ++ (place, entry) ∷ []) ≡ remove_entry (is_at (nat_cmp before)) es ++ (place, entry) ∷ []
remove_last before place entry [] less = rw (nat_below before place less) refl
remove_last before place entry (e ∷ es) less = elim (cases_Bool (is_eq (nat_cmp before e.0))) [
  | inl here ↦ rw here refl
  | inr there ↦ rw there (ap (λ xs. e ∷ xs) (remove_last before place entry es less))
]

at_last : (before : Option ℕ) (place : ℕ) (entry : Entry) (es : List (ℕ × Entry)) → ((p : ℕ) → before ≡ Some p → p < place)
    → entry_at before (es ++ (place, entry) ∷ []) ≡ entry_at before es
at_last None place entry es under = refl
at_last (Some before) place entry es under = lookup_last before place entry es (under before refl)

out_last : (before : Option ℕ) (place : ℕ) (entry : Entry) (es : List (ℕ × Entry)) → ((p : ℕ) → before ≡ Some p → p < place)
    → without_place before (es ++ (place, entry) ∷ []) ≡ without_place before es ++ (place, entry) ∷ []
out_last None place entry es under = refl
out_last (Some before) place entry es under = remove_last before place entry es (under before refl)

pub first_in : (who : Who) (place next : ℕ) (before : Option ℕ) (entry : Entry) (es : List (ℕ × Entry)) → Rises (place + 1) es next
    → IsOut who (place + 1) next before es →
    (entry_at before (insert_entry nat_cmp es place entry) ≡ entry_at before es)
    × (without_place before (insert_entry nat_cmp es place entry) ≡ (place, entry) ∷ without_place before es)
first_in who place next before entry es rises out =
    let over : (p : ℕ) → before ≡ Some p → place < p = λ p e. let low = (out.within p e).0 in omega (arith, low) in (
      ap (entry_at before) (insert_first place next entry es rises) ∙ at_first before place entry es over,
      ap (without_place before) (insert_first place next entry es rises) ∙ out_first before place entry es over,
    )

pub last_in : (who : Who) (first place : ℕ) (before : Option ℕ) (entry : Entry) (es : List (ℕ × Entry)) → Rises first es place → IsOut who first place before es
    →
    (entry_at before (insert_entry nat_cmp es place entry) ≡ entry_at before es)
    × (without_place before (insert_entry nat_cmp es place entry) ≡ without_place before es ++ (place, entry) ∷ [])
last_in who first place before entry es rises out =
    let under = λ (p : ℕ) (e : before ≡ Some p). (out.within p e).1 in (
      ap (entry_at before) (insert_last first place entry es rises) ∙ at_last before place entry es under,
      ap (without_place before) (insert_last first place entry es rises) ∙ out_last before place entry es under,
    )

pub values_last : (place : ℕ) (entry : Entry) (es : List (ℕ × Entry)) → values_of (es ++ (place, entry) ∷ []) ≡ values_of es ++ entry ∷ []
values_last place entry [] = refl
values_last place entry (e ∷ es) = ap (λ vs. e.1 ∷ vs) (values_last place entry es)
