-- Who has a scope, and which: lists of such keys, what they weigh by any weights, and those of the scopes in use.
use Rattle.std.proofs.Common.{◌≡◌, ℕ, ◌+◌, ◌≤◌, ◌<◌, Bool, true, false, cond, not, eqb, List, [], ◌∷◌, ◌++◌, Option, Some, None, refl, sym, ap, ◌∙◌, arith}
use Rattle.std.specs.Prelude.{find}
use Rattle.trace_text.specs.declared.events.Who.{Who}
use Rattle.profile_image.specs.declared.values.Value.{Value}
use Rattle.profile_machine.specs.declared.world.scopes.ScopeId.{ScopeId}
use Rattle.profile_machine.specs.declared.world.scopes.ScopeInUse.{ScopeInUse}
use Rattle.profile_image.specs.Words.{without, set_where, edit_found, edit_where}
use Rattle.profile_machine.specs.Scopes.{is_id, with_cells}
use Rattle.machine_laws.proofs.ListLemmas.{Falls, Falls-higher}
use Rattle.line_laws.proofs.Exits.OpenCounts.{bit}

-- ---- keys, and what they weigh

abbrev pub Key : Type 0
Key = Who × ℕ

abbrev pub Weights : Type 0
Weights = Who → ℕ → ℕ

abbrev pub weigh : Weights → List Key → ℕ
weigh by [] = 0
weigh by (k ∷ ks) = by k.0 k.1 + weigh by ks

pub weigh-append : (by : Weights) (xs ys : List Key) → weigh by (xs ++ ys) ≡ weigh by xs + weigh by ys
weigh-append by [] ys = omega arith
weigh-append by (x ∷ xs) ys = let e = weigh-append by xs ys in omega (arith, e)

-- how many have this number, and all weights but those of this number
abbrev pub of_number : ℕ → Weights
of_number k name n = bit (eqb k n)

abbrev pub except : ℕ → Weights → Weights
except k by name n = cond (eqb k n) 0 (by name n)

abbrev pub drop_number : ℕ → List Key → List Key
drop_number k [] = []
drop_number k (x ∷ xs) = cond (eqb k x.1) (drop_number k xs) (x ∷ drop_number k xs)

dropped-step : (by : Weights) (k : ℕ) (x : Key) (xs ys : List Key) (b : Bool) → weigh by ys ≡ weigh (except k by) xs
    → weigh by (cond b ys (x ∷ ys)) ≡ cond b 0 (by x.0 x.1) + weigh (except k by) xs
dropped-step by k x xs ys true e = omega (arith, e)
dropped-step by k x xs ys false e = omega (arith, e)

pub dropped-weigh : (by : Weights) (k : ℕ) (ks : List Key) → weigh by (drop_number k ks) ≡ weigh (except k by) ks
dropped-weigh by k [] = refl
dropped-weigh by k (x ∷ xs) = dropped-step by k x xs (drop_number k xs) (eqb k x.1) (dropped-weigh by k xs)

less-step : (by : Weights) (x : Key) (xs ys : List Key) (b : Bool) → weigh by ys ≤ weigh by xs → weigh by (cond b ys (x ∷ ys)) ≤ by x.0 x.1 + weigh by xs
less-step by x xs ys true e = omega (arith, e)
less-step by x xs ys false e = omega (arith, e)

pub dropped-less : (by : Weights) (k : ℕ) (ks : List Key) → weigh by (drop_number k ks) ≤ weigh by ks
dropped-less by k [] = omega arith
dropped-less by k (x ∷ xs) = less-step by x xs (drop_number k xs) (eqb k x.1) (dropped-less by k xs)

-- their numbers fall
abbrev pub number : Key → ℕ
number k = k.1

falls-step : (top : ℕ) (x : Key) (xs : List Key) (b : Bool) → number x < top → Falls number (number x) xs → Falls number top (cond b xs (x ∷ xs))
falls-step top x xs true low h = Falls-higher number (number x) top xs (omega (arith, low)) h
falls-step top x xs false low h = (low, h)

pub falls-dropped : (k top : ℕ) (ks : List Key) → Falls number top ks → Falls number top (drop_number k ks)
falls-dropped k top [] h = tt
falls-dropped k top (x ∷ xs) h = falls-step top x (drop_number k xs) (eqb k x.1) h.0 (falls-dropped k (number x) xs h.1)

-- where none has this number, its weights do not count
absent-step : (a : ℕ) (b : Bool) (m n : ℕ) → bit b + m ≡ 0 → (m ≡ 0 → n ≡ a) → (b ≡ false) × (n ≡ a)
absent-step a true m n e k = absurd (omega (arith, e))
absent-step a false m n e k = (refl, k (omega (arith, e)))

pub absent-weigh : (by : Weights) (k : ℕ) (ks : List Key) → weigh (of_number k) ks ≡ 0 → weigh (except k by) ks ≡ weigh by ks
absent-weigh by k [] e = refl
absent-weigh by k (x ∷ xs) e =
    let h = absent-step (weigh by xs) (eqb k x.1) (weigh (of_number k) xs) (weigh (except k by) xs) e (absent-weigh by k xs) in
    ap (λ b. cond b 0 (by x.0 x.1) + weigh (except k by) xs) h.0 ∙ ap (λ n. by x.0 x.1 + n) h.1

-- ---- the keys of the scopes in use

abbrev pub scope_key : ScopeInUse → Key
scope_key s = (s.owner, s.id.0)

abbrev pub scope_keys : List ScopeInUse → List Key
scope_keys [] = []
scope_keys (s ∷ ss) = scope_key s ∷ scope_keys ss

without-step : (id : ScopeId) (s : ScopeInUse) (left_over : List ScopeInUse) (ks : List Key) (b : Bool) → scope_keys left_over ≡ ks
    → scope_keys (cond (not b) (s ∷ left_over) left_over) ≡ cond b ks (scope_key s ∷ ks)
without-step id s left_over ks true e = e
without-step id s left_over ks false e = ap (λ xs. scope_key s ∷ xs) e

pub scope_keys-without : (id : ScopeId) (ss : List ScopeInUse) → scope_keys (without (is_id id) ss) ≡ drop_number id.0 (scope_keys ss)
scope_keys-without id [] = refl
scope_keys-without id (s ∷ ss) = without-step id s (without (is_id id) ss) (drop_number id.0 (scope_keys ss)) (is_id id s) (scope_keys-without id ss)

set-step : (test : ScopeInUse → Bool) (z x u : ScopeInUse) (zs : List ScopeInUse) (b : Bool) → cond b (Some z) (find test zs) ≡ Some x
    → scope_key u ≡ scope_key x → (find test zs ≡ Some x → scope_keys (set_where test u zs) ≡ scope_keys zs)
    → scope_keys (cond b (u ∷ zs) (z ∷ set_where test u zs)) ≡ scope_key z ∷ scope_keys zs
set-step test z x u zs true e same onward = let is : z ≡ x = cc in ap (λ k. k ∷ scope_keys zs) (same ∙ ap scope_key (sym is))
set-step test z x u zs false e same onward = ap (λ ks. scope_key z ∷ ks) (onward e)

scope_keys-set : (test : ScopeInUse → Bool) (x u : ScopeInUse) (ss : List ScopeInUse) → find test ss ≡ Some x → scope_key u ≡ scope_key x
    → scope_keys (set_where test u ss) ≡ scope_keys ss
scope_keys-set test x u [] e same = absurd cc
scope_keys-set test x u (z ∷ zs) e same = set-step test z x u zs (test z) e same (λ k. scope_keys-set test x u zs k same)

edited-found : (f : List Value → List Value) (id : ScopeId) (ss : List ScopeInUse) (found : Option ScopeInUse) → find (is_id id) ss ≡ found
    → scope_keys (edit_found (is_id id) (with_cells f) ss found) ≡ scope_keys ss
edited-found f id ss None e = refl
edited-found f id ss (Some x) e = scope_keys-set (is_id id) x (with_cells f x) ss e refl

pub scope_keys-edited : (f : List Value → List Value) (id : ScopeId) (ss : List ScopeInUse)
    → scope_keys (edit_where (is_id id) (with_cells f) ss) ≡ scope_keys ss
scope_keys-edited f id ss = edited-found f id ss (find (is_id id) ss) refl
