-- Levels by number, as a map's entries.
use Rattle.std.proofs.Common.{◌≡◌, ℕ, Bool, true, false, cond, ◌||◌, eqb, List, [], ◌∷◌, Option, Some, refl, ap, sym, ◌∙◌, arith, inl, inr}
use Rattle.std.specs.Ordering.{nat_cmp}
use Rattle.std.specs.BTreeMap.{is_at, insert_entry}
use Rattle.std.specs.Map.{lookup, keys_of}
use Rattle.std.specs.Option.{is_some}
use Rattle.std.proofs.lemmas.Bool.{cases_lt}
use Rattle.std.proofs.lemmas.Bool.Decides.{nat_tests}
use Rattle.std.proofs.lemmas.Grind.{common_steps}
use Rattle.trace_text.specs.Laws.{has, level_of}

is_some-cond : (b : Bool) (level : ℕ) (o : Option ℕ) → is_some (cond b (Some level) o) ≡ cond b true (is_some o)
is_some-cond true level o = refl
is_some-cond false level o = refl

pub is_at-eqb : (a b : ℕ) → is_at (nat_cmp a) b ≡ eqb a b
is_at-eqb a b = elim (cases_lt a b) [
  | inl below ↦ grind (arith, nat_tests)
  | inr above ↦ grind (arith, nat_tests)
]

pub level_of-insert_entry : (number : ℕ) (levels : List (ℕ × ℕ)) (key level : ℕ)
    → level_of number (insert_entry nat_cmp levels key level) ≡ cond (eqb number key) (Some level) (level_of number levels)
level_of-insert_entry number [] key level = refl
level_of-insert_entry number (e ∷ levels) key level = grind (arith, common_steps, level_of-insert_entry number levels key level)

pub has-keys : (number : ℕ) (levels : List (ℕ × ℕ)) → has number (keys_of levels) ≡ is_some (level_of number levels)
has-keys number [] = refl
has-keys number (e ∷ levels) = grind (arith, common_steps, has-keys number levels)

or-cond : (a b : Bool) → cond a true b ≡ (a || b)
or-cond true b = refl
or-cond false b = refl

pub has-insert_entry : (number : ℕ) (levels : List (ℕ × ℕ)) (key level : ℕ)
    → has number (keys_of (insert_entry nat_cmp levels key level)) ≡ (eqb number key || has number (keys_of levels))
has-insert_entry number levels key level =
    has-keys number (insert_entry nat_cmp levels key level) ∙ ap is_some (level_of-insert_entry number levels key level)
    ∙ is_some-cond (eqb number key) level (level_of number levels)
    ∙ or-cond (eqb number key) (is_some (level_of number levels)) ∙ ap (λ b. eqb number key || b) (sym (has-keys number levels))

pub lookup-level_of : (number : ℕ) (levels : List (ℕ × ℕ)) → lookup (is_at (nat_cmp number)) levels ≡ level_of number levels
lookup-level_of number [] = refl
lookup-level_of number (e ∷ levels) = rw (is_at-eqb number e.0) (ap (cond (eqb number e.0) (Some e.1)) (lookup-level_of number levels))
