-- What is lexed is read: tokens.
use Rattle.std.proofs.Common.{◌≡◌, ℕ, zero, suc, ◌+◌, ◌^◌, ◌<◌, ◌≤◌, Bool, true, false, cond, eqb, leb, ◌||◌, List, [], ◌∷◌, length}
use Rattle.std.proofs.Common.{take, drop, Option, Some, None, Ok, refl, sym, ap, ◌∙◌, subst, arith, length-drop, length-take-le, le-ltb}
use Rattle.std.specs.Prelude.{position, option_map}
use Rattle.std.proofs.lemmas.Bool.{and_from, and_parts, false≢true, lt-leb}
use Rattle.std.proofs.lemmas.Grind.{common_steps}
use Rattle.std.specs.Char.{is_ascii_digit, is_ascii_alphabetic}
use Rattle.ann_base.specs.declared.places.Place.{Place}
use Rattle.ada_lex.specs.declared.scan.Run.TheVariants.{Letters, Whole}
use Rattle.ada_lex.specs.declared.tokens.Kind.{Kind}
use Rattle.ada_lex.specs.declared.tokens.Kind.TheVariants as kinds
use Rattle.ada_lex.specs.Shapes.{begins_with, run_length, value_of, text_length, is_no_text, delimiter_length}
use Rattle.ada_lex.specs.Reading.{unless_bad, fault_in_word, word_at, number_at, number_unless, fraction_length, spoils_number, text_at, delimiter_unless}
use Rattle.ada_lex.specs.Meaning.{whole_of}
use Rattle.ada_lex.specs.Lexed.{is_run, is_fraction, IsNumber, IsToken, IsWithin, IsApart}
use Rattle.ada_lex.proofs.Loops.{run_in_list}
use Rattle.ada_lex.proofs.Runs.{run_longest, run_is, begins_in_front, begins_in_whole}
use Rattle.ada_lex.proofs.Longest.{fraction_fits, fraction_is, number_longest, whole_in_front, behind_front, map_some}
use Rattle.ada_lex.proofs.Longest.{plus_two, plus_one, two_or, delimiter_fits, delimiter_first, delimiter_longest}
use Rattle.ada_lex.specs.declared.scan.TheConstants.{MAX_WORD}

-- a token of n bytes stands at the front, and no longer one
pub record Stands (kind : Kind) (n : ℕ) (bytes : List ℕ) : Type 0 where
  pub fits : n ≤ length bytes
  pub shaped : IsToken kind (take n bytes)
  pub within : IsWithin kind (take n bytes)
  pub longest : (j : ℕ) → j ≤ length bytes → IsToken kind (take j bytes) → j ≤ n
  pub apart : IsApart kind (take n bytes) (drop n bytes)

begins_pos : (test : ℕ → Bool) (n : ℕ) (bytes : List ℕ) → begins_with test (take n bytes) ≡ true → 0 < n
begins_pos test zero bytes e = absurd (false≢true e)
begins_pos test (suc n) bytes e = omega arith

no_fault : (n : ℕ) (rest : List ℕ) → n ≤ MAX_WORD → begins_with (λ b. eqb b 95) rest ≡ false → fault_in_word n rest ≡ None
no_fault n [] le e = rw (le-ltb MAX_WORD n le) refl
no_fault n (b ∷ rest) le e = rw (le-ltb MAX_WORD n le, e) refl

pub word_stands : (place : Place) (n : ℕ) (bytes : List ℕ) → Stands kinds.Word n bytes → word_at place bytes ≡ Ok n
unfolding word_at
word_stands place n bytes s =
    let p = and_parts _ _ s.shaped in
    let some : 0 < n = begins_pos is_ascii_alphabetic n bytes p.0 in
    let at_least : n ≤ run_length Letters bytes = run_longest Letters n bytes s.fits p.1 in
    let letter : begins_with is_ascii_alphabetic (take (run_length Letters bytes) bytes) ≡ true =
    begins_in_front is_ascii_alphabetic (run_length Letters bytes) bytes (omega arith) (begins_in_whole is_ascii_alphabetic n bytes p.0) in
    let at_most : run_length Letters bytes ≤ n =
    s.longest (run_length Letters bytes) (run_in_list Letters bytes) (and_from _ _ letter (run_is Letters bytes)) in
    let is : n ≡ run_length Letters bytes = omega arith in
    let fine : unless_bad (fault_in_word n (drop n bytes)) place n ≡ Ok n =
    rw (no_fault n (drop n bytes) (omega (arith, s.within, length-take-le n bytes s.fits)) s.apart) refl in
    subst (λ (k : ℕ). unless_bad (fault_in_word k (drop k bytes)) place k ≡ Ok n) is fine

pub number_stands : (place : Place) (n : ℕ) (bytes : List ℕ) → Stands kinds.Number n bytes → number_at place bytes ≡ Ok n
unfolding number_at
number_stands place n bytes s =
    let some : 0 < n = begins_pos is_ascii_digit n bytes s.shaped.1 in
    let at_most_whole : n ≤ run_length Whole bytes + fraction_length (drop (run_length Whole bytes) bytes) = number_longest n bytes s.fits s.shaped in
    let fits : run_length Whole bytes + fraction_length (drop (run_length Whole bytes) bytes) ≤ length bytes =
    omega (arith, run_in_list Whole bytes, fraction_fits (drop (run_length Whole bytes) bytes), length-drop (run_length Whole bytes) bytes) in
    let first : take (run_length Whole bytes) (take (run_length Whole bytes + fraction_length (drop (run_length Whole bytes) bytes)) bytes)
    ≡ take (run_length Whole bytes) bytes =
    grind (arith, common_steps) in
    let second = behind_front (run_length Whole bytes) (fraction_length (drop (run_length Whole bytes) bytes)) bytes in
    let digit =
    begins_in_front is_ascii_digit (run_length Whole bytes + fraction_length (drop (run_length Whole bytes) bytes)) bytes (omega arith)
    (begins_in_whole is_ascii_digit n bytes s.shaped.1) in
    let whole : IsNumber (take (run_length Whole bytes + fraction_length (drop (run_length Whole bytes) bytes)) bytes) = (
      run_length Whole bytes,
      digit,
      ap (is_run Whole) first ∙ run_is Whole bytes,
      ap is_fraction second ∙ fraction_is (drop (run_length Whole bytes) bytes),
    ) in
    let at_most : run_length Whole bytes + fraction_length (drop (run_length Whole bytes) bytes) ≤ n =
    s.longest (run_length Whole bytes + fraction_length (drop (run_length Whole bytes) bytes)) fits whole in
    let is : n ≡ run_length Whole bytes + fraction_length (drop (run_length Whole bytes) bytes) = omega arith in
    let front : take (run_length Whole bytes) (take n bytes) ≡ take (run_length Whole bytes) bytes = grind (arith, common_steps) in
    let value : whole_of (take n bytes) ≡ value_of (take (run_length Whole bytes) bytes) =
    ap (λ (k : ℕ). value_of (take k (take n bytes))) (whole_in_front n bytes s.fits (omega arith)) ∙ ap value_of front in
    let small : leb (2 ^ 128) (value_of (take (run_length Whole bytes) bytes)) ≡ false =
    lt-leb (2 ^ 128) (value_of (take (run_length Whole bytes) bytes)) (subst (λ (v : ℕ). v < 2 ^ 128) value s.within) in
    let fine : number_unless (begins_with spoils_number (drop n bytes) || leb (2 ^ 128) (value_of (take (run_length Whole bytes) bytes))) place n ≡ Ok n =
    rw (s.apart, small) refl in
    subst (λ (k : ℕ).
    number_unless (begins_with spoils_number (drop k bytes) || leb (2 ^ 128) (value_of (take (run_length Whole bytes) bytes))) place k ≡ Ok n) is fine

pub delimiter_stands : (place : Place) (n : ℕ) (bytes : List ℕ) → Stands kinds.Delimiter n bytes
    → (delimiter_length bytes ≡ n) × (delimiter_unless (delimiter_length bytes) place ≡ Ok n) × (0 < n)
delimiter_stands place n bytes s =
    let length_is : length (take n bytes) ≡ n = length-take-le n bytes s.fits in
    let some : 0 < n = omega (arith, s.shaped.0, length_is) in
    let at_least : n ≤ delimiter_length bytes = delimiter_longest bytes n s.fits s.shaped.1 in
    let m_is : length (take (delimiter_length bytes) bytes) ≡ delimiter_length bytes = length-take-le (delimiter_length bytes) bytes (delimiter_fits bytes) in
    let at_most : delimiter_length bytes ≤ n =
    s.longest (delimiter_length bytes) (delimiter_fits bytes) (omega (arith, m_is, at_least, some), delimiter_first bytes ∙ sym m_is) in
    let is : delimiter_length bytes ≡ n = omega arith in
    (is, subst (λ (k : ℕ). delimiter_unless k place ≡ Ok n) (sym is) (unless_none n some), some)
  where
    unless_none : (n : ℕ) → 0 < n → delimiter_unless n place ≡ Ok n
    unless_none zero lt = absurd (omega arith)
    unless_none (suc n) lt = refl

-- a text whose end no mark follows ends there in the whole too
extends_two : (b c : ℕ) (rest : List ℕ) (i : ℕ) (mark double line : Bool)
    → ((k : ℕ) → text_length (take k rest) ≡ Some k → begins_with (λ b. eqb b 34) (drop k rest) ≡ false → text_length rest ≡ Some k)
    → ((k : ℕ) → text_length (take k (c ∷ rest)) ≡ Some k → begins_with (λ b. eqb b 34) (drop k (c ∷ rest)) ≡ false → text_length (c ∷ rest) ≡ Some k)
    → begins_with (λ b. eqb b 34) (drop i rest) ≡ false → two_or c (take i rest) mark double line ≡ Some (suc (suc i))
    → two_or c rest mark double line ≡ Some (suc (suc i))
extends_two b c rest i true true line ih1 ih2 e h =
    let p = map_some (text_length (take i rest)) 2 (suc (suc i)) h in
    let here : p.0 ≡ i = omega (arith, p.2) in
    let whole : text_length rest ≡ Some i = ih1 i (p.1 ∙ ap (λ (k : ℕ). Some k) here) e in
    rw whole (ap (λ (k : ℕ). Some k) (plus_two i))
extends_two b c rest i true false line ih1 ih2 e h = let no_way : 1 ≡ suc (suc i) = cc in absurd (omega (arith, no_way))
extends_two b c rest i false double true ih1 ih2 e h = absurd cc
extends_two b c rest i false double false ih1 ih2 e h =
    let p = map_some (text_length (c ∷ take i rest)) 1 (suc (suc i)) h in
    let here : p.0 ≡ suc i = omega (arith, p.2) in
    let whole : text_length (c ∷ rest) ≡ Some (suc i) = ih2 (suc i) (p.1 ∙ ap (λ (k : ℕ). Some k) here) e in
    rw whole (ap (λ (k : ℕ). Some k) (plus_one (suc i)))

text_extends : (bytes : List ℕ) (m : ℕ) → text_length (take m bytes) ≡ Some m → begins_with (λ b. eqb b 34) (drop m bytes) ≡ false → text_length bytes ≡ Some m
unfolding text_length
text_extends bytes zero h e = absurd cc
text_extends [] (suc m) h e = absurd cc
text_extends (b ∷ []) (suc m) h e = single m h
  where
    single : (m : ℕ) → text_length (b ∷ take m []) ≡ Some (suc m) → cond (eqb b 34) (Some 1) None ≡ Some (suc m)
    single zero h = h
    single (suc m) h = h
text_extends (b ∷ c ∷ rest) (suc zero) h e = closes (eqb b 34) h
  where
    closes : (v : Bool) → cond {A = Option ℕ} v (Some 1) None ≡ Some 1
        → cond {A = Option ℕ} v (cond {A = Option ℕ} (eqb c 34) (option_map (λ n. n + 2) (text_length rest)) (Some 1))
        (cond {A = Option ℕ} (eqb b 10) None (option_map (λ n. n + 1) (text_length (c ∷ rest))))
        ≡ Some 1
    closes true h = rw e refl
    closes false h = absurd cc
text_extends (b ∷ c ∷ rest) (suc (suc i)) h e =
    extends_two b c rest i (eqb b 34) (eqb c 34) (eqb b 10) (λ k. text_extends rest k) (λ k. text_extends (c ∷ rest) k) e h

pub text_stands : (place : Place) (n b : ℕ) (rest : List ℕ) → Stands kinds.Text n (b ∷ rest) → text_at place (b ∷ rest) ≡ Ok n
unfolding text_at
text_stands place zero b rest s = absurd (false≢true s.shaped.0)
text_stands place (suc m) b rest s =
    let length_is : length (take m rest) ≡ m = length-take-le m rest (omega (arith, s.fits)) in
    let front : text_length (take m rest) ≡ Some m = s.shaped.1 ∙ ap (λ (k : ℕ). Some k) (omega (arith, length_is)) in
    let whole : text_length rest ≡ Some m = text_extends rest m front s.apart in
    let plain : position is_no_text (take (m + 1) (b ∷ rest)) ≡ None =
    subst (λ (k : ℕ). position is_no_text (take k (b ∷ rest)) ≡ None) (sym (plus_one m)) s.within in
    rw (whole, plain) (ap (λ (k : ℕ). Ok k) (plus_one m))
