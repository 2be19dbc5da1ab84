-- The note on a refused source, by the digits of its numbers.
use Rattle.std.proofs.Common.{◌≡◌, ℕ, List, [], ◌∷◌, ◌++◌, ap, ◌∙◌, codes, decimal}
use Rattle.ada_verdicts.specs.declared.refusals.Refusal.{Refusal}
use Rattle.ada_verdicts.specs.Refusals.{letter_of, number_of}
use Rattle.commands.specs.Outcomes.{refusal_text}

abbrev pub first_half : List ℕ → List ℕ → List ℕ
first_half line column = (codes "source refused " ++ line) ++ (codes ":" ++ column)

abbrev pub second_half : ℕ → List ℕ → List ℕ
second_half letter number = (codes " " ++ letter ∷ []) ++ (number ++ codes "\n")

pub refusal-by : (refusal : Refusal) (line column : List ℕ) (letter : ℕ) (number : List ℕ) → line ≡ decimal refusal.place.line
    → column ≡ decimal refusal.place.column → letter ≡ letter_of refusal.code → number ≡ decimal (number_of refusal.code) →
    first_half line column ++ second_half letter number ≡ refusal_text refusal
refusal-by refusal line column letter number l c k n =
    ap (λ text. first_half text column ++ second_half letter number) l
    ∙ ap (λ text. first_half (decimal refusal.place.line) text ++ second_half letter number) c
    ∙ ap (λ x. first_half (decimal refusal.place.line) (decimal refusal.place.column) ++ second_half x number) k
    ∙ ap (λ text. first_half (decimal refusal.place.line) (decimal refusal.place.column) ++ second_half (letter_of refusal.code) text) n
