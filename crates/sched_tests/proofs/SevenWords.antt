-- Lines with more words than a duty has.
use Rattle.std.proofs.Common.{◌≡◌, ℕ, None, List, [], ◌∷◌, ◌==◌, refl}
use Rattle.text_lines.specs.Lines.{words_of}
use Rattle.text_lines.proofs.Cuts.{split_some}
use Rattle.sched_tests.specs.Reading.{six_words}

-- seven words are not six
pub seven_words : (text name rest cost rest2 period rest3 deadline rest4 blocking priority more others : List ℕ) → words_of text ≡ name ∷ words_of rest
    → words_of rest ≡ cost ∷ words_of rest2 → words_of rest2 ≡ period ∷ words_of rest3 → words_of rest3 ≡ deadline ∷ words_of rest4
    → words_of rest4 ≡ blocking ∷ words_of priority → words_of priority ≡ more ∷ words_of others → six_words (words_of text) ≡ None
seven_words text name rest cost rest2 period rest3 deadline rest4 blocking priority more others e1 e2 e3 e4 e5 e6 =
    let (next, behind, e7) = split_some (λ byte. byte == 32) others in
    rw (e1, e2, e3, e4, e5, e6, e7) refl
