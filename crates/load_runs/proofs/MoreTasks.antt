-- The texts of tasks from one on: its own, and those of the tasks behind it.
use Rattle.std.proofs.Common.{◌≡◌, ◌<◌, ◌+◌, ◌-◌, ℕ, zero, suc, List, ◌++◌, sym, ap, ◌∙◌, append-nil, append_assoc, arith}
use Rattle.load_runs.specs.Source.{declaration_text, body_text, declarations_from, bodies_from}

pub no_declaration : (text : List ℕ) (first count : ℕ) → count ≡ 0 → text ≡ text ++ declarations_from first count
no_declaration text first count e = sym (ap (λ n. text ++ declarations_from first n) e ∙ append-nil text)

pub no_body : (text : List ℕ) (first count : ℕ) → count ≡ 0 → text ≡ text ++ bodies_from first count
no_body text first count e = sym (ap (λ n. text ++ bodies_from first n) e ∙ append-nil text)

declarations-more : (first count : ℕ) → 0 < count → declaration_text first ++ declarations_from (first + 1) (count - 1) ≡ declarations_from first count
declarations-more first zero h = absurd (omega (arith, h))
declarations-more first (suc count) h = ap (λ n. declaration_text first ++ declarations_from (first + 1) n) (let e : suc count - 1 ≡ count = omega arith in e)

bodies-more : (first count : ℕ) → 0 < count → body_text first ++ bodies_from (first + 1) (count - 1) ≡ bodies_from first count
bodies-more first zero h = absurd (omega (arith, h))
bodies-more first (suc count) h = ap (λ n. body_text first ++ bodies_from (first + 1) n) (let e : suc count - 1 ≡ count = omega arith in e)

pub one_more_declaration : (text : List ℕ) (first count : ℕ) → 0 < count
    → (text ++ declaration_text first) ++ declarations_from (first + 1) (count - 1) ≡ text ++ declarations_from first count
one_more_declaration text first count h =
    append_assoc text (declaration_text first) (declarations_from (first + 1) (count - 1)) ∙ ap (λ xs. text ++ xs) (declarations-more first count h)

pub one_more_body : (text : List ℕ) (first count : ℕ) → 0 < count
    → (text ++ body_text first) ++ bodies_from (first + 1) (count - 1) ≡ text ++ bodies_from first count
one_more_body text first count h = append_assoc text (body_text first) (bodies_from (first + 1) (count - 1)) ∙ ap (λ xs. text ++ xs) (bodies-more first count h)
