-- What a direct name means at a position is asked for often enough: a clause's name means what it means where the clause stands.
use Rattle.std.proofs.Common.{◌≡◌, inl, inr, ℕ, ◌≤◌, zero, suc, cond, List, [], ◌∷◌, length, refl, ap, ◌∙◌, arith}
use Rattle.ada_tree.specs.declared.names.Name.{Name}
use Rattle.ada_regions.specs.Occurrences.{use_package}
use Rattle.source_laws.specs.Positions.{Before, Stands}
use Rattle.source_laws.specs.DirectNames.{Meaning, direct_meaning}
use Rattle.source_laws.specs.UseClauses.{stands_around, visible_by, with_meaning, by_clauses, one_of}
use Rattle.source_laws.specs.UseClauses.{meaning_or, child_meaning, meaning_within, direct_name_means}
use Rattle.source_laws.proofs.Names.PositionLemmas.{stands-length}

-- what the name of a clause means where it stands
abbrev pub clause_means : ℕ → Name → Before → Meaning
clause_means last p b = child_meaning (direct_name_means last p.parts.first.text b) p.parts.others

module _ (f g : Name → Before → Meaning) (last : ℕ) (name : List ℕ) (here : Before) where
  clauses-same : (c : Before) → ((p : Name) (b : Before) → Stands (use_package p ∷ b) c → f p b ≡ g p b)
      → by_clauses f last name here c ≡ by_clauses g last name here c
  clauses-same [] same = refl
  clauses-same (use_package p ∷ c) same =
      ap (λ m. cond (stands_around here c) (with_meaning (visible_by last name here m) (by_clauses f last name here c)) (by_clauses f last name here c))
      (same p c (inl refl))
      ∙ ap (λ ms. cond (stands_around here c) (with_meaning (visible_by last name here (g p c)) ms) ms) (clauses-same c (λ q b s. same q b (inr s)))
  clauses-same (_ ∷ c) same = clauses-same c (λ q b s. same q b (inr s))

abbrev within : ℕ → ℕ → Name → Before → Meaning
within limit last p b = child_meaning (meaning_within limit last p.parts.first.text b) p.parts.others

within-same : (k m n last : ℕ) (name : List ℕ) (c : Before) → length c ≤ k → k ≤ m → k ≤ n → meaning_within m last name c ≡ meaning_within n last name c
within-same k zero zero last name c le lm ln = refl
within-same k zero (suc n) last name [] le lm ln = refl
within-same k (suc m) zero last name [] le lm ln = refl
within-same k (suc m) (suc n) last name [] le lm ln = refl
within-same k zero (suc n) last name (o ∷ c) le lm ln = absurd (omega arith)
within-same k (suc m) zero last name (o ∷ c) le lm ln = absurd (omega arith)
within-same zero (suc m) (suc n) last name (o ∷ c) le lm ln = absurd (omega arith)
within-same (suc k) (suc m) (suc n) last name (o ∷ c) le lm ln =
    ap (λ ms. meaning_or (one_of ms) (direct_meaning last name (o ∷ c))) (clauses-same (within m last) (within n last) last name (o ∷ c) (o ∷ c) (λ p b s. (
    ap (λ z. child_meaning z p.parts.others)
    (within-same k m n last p.parts.first.text b (let l = stands-length (use_package p ∷ b) (o ∷ c) s in omega arith) (omega arith) (omega arith)))))

-- the meaning by the clauses, whose names mean what they mean
pub means-clauses : (last : ℕ) (name : List ℕ) (c : Before)
    → direct_name_means last name c ≡ meaning_or (one_of (by_clauses (clause_means last) last name c c)) (direct_meaning last name c)
unfolding direct_name_means
means-clauses last name [] = refl
means-clauses last name (o ∷ c) =
    ap (λ ms. meaning_or (one_of ms) (direct_meaning last name (o ∷ c)))
    (clauses-same (within (length c) last) (clause_means last) last name (o ∷ c) (o ∷ c) (λ p b s. (
    ap (λ z. child_meaning z p.parts.others)
    (within-same (length b) (length c) (length b) last p.parts.first.text b (omega arith)
    (let l = stands-length (use_package p ∷ b) (o ∷ c) s in omega arith) (omega arith)))))
