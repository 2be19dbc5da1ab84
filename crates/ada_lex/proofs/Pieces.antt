-- What a piece that is read looks like.
use Rattle.std.proofs.Common.{◌≡◌, ℕ, zero, suc, ◌+◌, ◌<◌, Bool, true, false, cond, eqb, ◌||◌, List, []}
use Rattle.std.proofs.Common.{◌∷◌, length, get_or, drop, Option, Some, None, Result, Ok, refl, subst, arith}
use Rattle.std.specs.Char.{is_ascii_digit, is_ascii_alphabetic, is_ascii_alphanumeric}
use Rattle.std.proofs.lemmas.Bool.{or_left}
use Rattle.ann_base.specs.declared.places.Place.{Place}
use Rattle.ada_lex.specs.declared.scan.Run.{Run}
use Rattle.ada_lex.specs.declared.scan.Run.TheVariants.{Letters, Whole}
use Rattle.ada_lex.specs.declared.tokens.Kind.{Kind}
use Rattle.ada_lex.specs.declared.tokens.Kind.TheVariants as kinds
use Rattle.ada_lex.specs.declared.tokens.LexFault.{LexFault}
use Rattle.ada_lex.specs.Shapes.{goes_on, run_length, text_length, delimiter_length}
use Rattle.ada_lex.specs.Reading.{unless_bad, word_at, number_at, number_unless, fraction_length, text_at, closed_text, delimiter_unless, kind_of, token_at}

abbrev fine : ℕ → Result ℕ LexFault
fine n = Ok n

ok_is : (m n : ℕ) → fine m ≡ fine n → m ≡ n
ok_is m n e = cc

pub unless_bad_ok : (o : Option ℕ) (place : Place) (m n : ℕ) → unless_bad o place m ≡ Ok n → (o ≡ None) × (m ≡ n)
unless_bad_ok None place m n e = (refl, ok_is m n e)
unless_bad_ok (Some k) place m n e = absurd cc

pub number_ok : (b : Bool) (place : Place) (m n : ℕ) → number_unless b place m ≡ Ok n → (b ≡ false) × (m ≡ n)
number_ok false place m n e = (refl, ok_is m n e)
number_ok true place m n e = absurd cc

run_some : (run : Run) (b : ℕ) (rest : List ℕ) → goes_on run (b ∷ rest) ≡ true → 0 < run_length run (b ∷ rest)
unfolding run_length
run_some run b rest goes = rw goes (omega arith)

either_way : (p q r : Bool) → (q || r) ≡ true → ((p || q) || r) ≡ true
either_way true q r e = refl
either_way false q r e = e

pub alnum : (b : ℕ) → is_ascii_alphabetic b ≡ true → is_ascii_alphanumeric b ≡ true
alnum b e = either_way (is_ascii_digit b) _ _ e

word_some : (place : Place) (b : ℕ) (rest : List ℕ) (n : ℕ) → is_ascii_alphabetic b ≡ true → word_at place (b ∷ rest) ≡ Ok n → 0 < n
unfolding word_at
word_some place b rest n letter e =
    let one = run_some Letters b rest (or_left _ _ (alnum b letter)) in
    let is = unless_bad_ok _ place (run_length Letters (b ∷ rest)) n e in
    omega (arith, one, is.1)

number_some : (place : Place) (b : ℕ) (rest : List ℕ) (n : ℕ) → is_ascii_digit b ≡ true → number_at place (b ∷ rest) ≡ Ok n → 0 < n
unfolding number_at
number_some place b rest n digit e =
    let one = run_some Whole b rest (or_left _ _ digit) in
    let is = number_ok _ place (run_length Whole (b ∷ rest) + fraction_length (drop (run_length Whole (b ∷ rest)) (b ∷ rest))) n e in
    omega (arith, one, is.1)

closed_some : (o : Option ℕ) (place : Place) (bytes : List ℕ) (n : ℕ) → closed_text o place bytes ≡ Ok n → 0 < n
closed_some None place bytes n e = absurd cc
closed_some (Some k) place bytes n e = omega (arith, (unless_bad_ok _ place (k + 1) n e).1)

text_some : (place : Place) (b : ℕ) (rest : List ℕ) (n : ℕ) → text_at place (b ∷ rest) ≡ Ok n → 0 < n
unfolding text_at
text_some place b rest n e = closed_some (text_length (drop 1 (b ∷ rest))) place (b ∷ rest) n e

pub delimiter_some : (m : ℕ) (place : Place) (n : ℕ) → delimiter_unless m place ≡ Ok n → (m ≡ n) × (0 < n)
delimiter_some zero place n e = absurd cc
delimiter_some (suc m) place n e = let is = ok_is (suc m) n e in (is, omega (arith, is))

kind_some : (letter digit mark : Bool) (place : Place) (b : ℕ) (rest : List ℕ) (n : ℕ) → is_ascii_alphabetic b ≡ letter → is_ascii_digit b ≡ digit
    → token_at (cond letter kinds.Word (cond digit kinds.Number (cond mark kinds.Text kinds.Delimiter))) place (b ∷ rest) ≡ Ok n → 0 < n
kind_some true digit mark place b rest n l d e = word_some place b rest n l e
kind_some false true mark place b rest n l d e = number_some place b rest n d e
kind_some false false true place b rest n l d e = text_some place b rest n e
kind_some false false false place b rest n l d e = (delimiter_some (delimiter_length (b ∷ rest)) place n e).1

-- a token has a byte
pub token_some : (place : Place) (kind : Kind) (bytes : List ℕ) (n : ℕ) → 0 < length bytes → kind ≡ kind_of (get_or bytes 0 0)
    → token_at kind place bytes ≡ Ok n → 0 < n
token_some place kind [] n some is e = absurd (omega arith)
token_some place kind (b ∷ rest) n some is e =
    kind_some (is_ascii_alphabetic b) (is_ascii_digit b) (eqb b 34) place b rest n refl refl (subst (λ (k : Kind). token_at k place (b ∷ rest) ≡ Ok n) is e)
