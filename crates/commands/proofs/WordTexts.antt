-- Lines of two words, and what stands in front of them or behind.
use Rattle.std.proofs.Common.{◌≡◌, ◌∙◌, ap, ℕ, List, [], ◌∷◌, ◌++◌, append_assoc, codes, decimal}
use Rattle.sched_tests.specs.declared.duties.TheConstants.{LONGEST}

pub two_words : (first second : List ℕ) → (first ++ 32 ∷ []) ++ (second ++ 10 ∷ []) ≡ first ++ 32 ∷ (second ++ 10 ∷ [])
two_words first second = append_assoc first (32 ∷ []) (second ++ 10 ∷ [])

-- words in place of equal ones
pub labelled : (label first second a b : List ℕ) → first ≡ a → second ≡ b → label ++ (first ++ 32 ∷ (second ++ 10 ∷ [])) ≡ label ++ (a ++ 32 ∷ (b ++ 10 ∷ []))
labelled label first second a b f s = ap (λ xs. label ++ (xs ++ 32 ∷ (second ++ 10 ∷ []))) f ∙ ap (λ xs. label ++ (a ++ 32 ∷ (xs ++ 10 ∷ []))) s

pub within_text : (longest busy : List ℕ) → longest ≡ decimal LONGEST
    → (codes "within" ++ 32 ∷ (longest ++ 10 ∷ [])) ++ busy ≡ codes "within " ++ (decimal LONGEST ++ 10 ∷ busy)
within_text longest busy e = ap (λ xs. codes "within " ++ xs) (append_assoc longest (10 ∷ []) busy) ∙ ap (λ xs. codes "within " ++ (xs ++ 10 ∷ busy)) e
