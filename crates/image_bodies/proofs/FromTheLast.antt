-- Statements that are made from the last to the first: those from a place on, and the one before.
use Rattle.std.proofs.Common.{◌≡◌, ℕ, ◌-◌, ◌<◌, ◌≤◌, List, ◌∷◌, Option, length, drop, get_or, ap, sym, refl, ◌∙◌}
use Rattle.ada_tree.specs.declared.statements.Statement.{Statement}
use Rattle.profile_image.specs.declared.numbers.StatementNo.{StatementNo}
use Rattle.ada_image.specs.declared.making.Lists.{Lists}
use Rattle.ada_image.specs.declared.making.Within.{Within}
use Rattle.ada_image.specs.ImageOfStatements.{SequenceMaking, statement_put, statements_put}
use Rattle.image_layout.proofs.Drops.{one_before}

module _ {Q : Type 0} (sequence : Q → SequenceMaking) (within : Within) where
  pub statements_first : (s : Statement Q) (others slice : List (Statement Q)) (next later : Option StatementNo) (before between : Lists)
      (whole : Lists × Option StatementNo)
      → slice ≡ others → statements_put sequence within slice next before ≡ (between, later) → statement_put sequence within s later between ≡ whole
      → statements_put sequence within (s ∷ others) next before ≡ whole
  unfolding statements_put
  statements_first s others slice next later before between whole slice-is behind made =
      ap (λ (r : Lists × Option StatementNo). statement_put sequence within s r.1 r.0)
      (ap (λ (ss : List (Statement Q)). statements_put sequence within ss next before) (sym slice-is) ∙ behind)
      ∙ made

  pub statements_before : (ss : List (Statement Q)) (place : ℕ) (s : Statement Q) (next later : Option StatementNo) (before between : Lists)
      (whole : Lists × Option StatementNo)
      → 0 < place → place ≤ length ss → s ≡ get_or ss (place - 1) s
      → statements_put sequence within (drop place ss) next before ≡ (between, later) → statement_put sequence within s later between ≡ whole
      → statements_put sequence within (drop (place - 1) ss) next before ≡ whole
  statements_before ss place s next later before between whole positive inside is behind made =
      let cut : s ∷ drop place ss ≡ drop (place - 1) ss = ap (λ (x : Statement Q). x ∷ drop place ss) is ∙ one_before ss place s positive inside in
      ap (λ (xs : List (Statement Q)). statements_put sequence within xs next before) (sym cut)
      ∙ statements_first s (drop place ss) (drop place ss) next later before between whole refl behind made

  pub statements_all : (ss : List (Statement Q)) (place : ℕ) (next : Option StatementNo) (before : Lists) (whole : Lists × Option StatementNo)
      → place ≡ 0 → statements_put sequence within (drop place ss) next before ≡ whole → statements_put sequence within ss next before ≡ whole
  statements_all ss place next before whole none made = ap (λ (k : ℕ). statements_put sequence within (drop k ss) next before) (sym none) ∙ made
