-- Texts that grow piece by piece.
use Rattle.std.proofs.Common.{◌≡◌, ℕ, List, ◌++◌, append_assoc, ap, ◌∙◌}

-- two pieces that are appended one behind the other
pub joined : (text more all one other : List ℕ) → more ≡ text ++ one → all ≡ more ++ other → all ≡ text ++ (one ++ other)
joined text more all one other e f = f ∙ ap (λ xs. xs ++ other) e ∙ append_assoc text one other
